-- The rows of symbols on the nets of a window are those of the machine.
use Rattle.std.proofs.Common.{◌≡◌, ℕ, ◌+◌, ◌-◌, ◌%◌, ◌^◌, ◌<◌, ◌≤◌, Bool, true, false, ◌||◌, ◌==◌, nat_lt, nat_le, if◌then◌else◌, refl, sym, ap, ◌∙◌, arith, ◌⊎◌, inl, inr}
use Rattle.std.proofs.lemmas.Bool.{cases_lt, ltb-true, ltb-false, lt-ltb, le-ltb, le-leb, lt-leb, or_parts}
use Rattle.std.proofs.Math.Nat.{mod-eq_of_lt, mod-eq-sub-mod}
use Rattle.stream_runs.specs.View.{Side, Beat}
use Rattle.stream_runs.specs.Symbols.{symbol_count, value_of}
use Rattle.stream_machines.specs.Parts.{of_symbols}
use Rattle.stream_machines.specs.Windows.{Row, AreSameRow, IsFront, is_whole, with_beat, behind_beat}
use Rattle.stage_core.specs.Groups.{Shown}
use Rattle.stage_core.specs.BeatLaws.{shown_same}
use Rattle.st_windows.specs.declared.sizes.WindowSizes.{WindowSizes}
use Rattle.st_windows.specs.Cuts.{symbol, cut_of, front_at, rest_at, chosen_at}
use Rattle.st_windows.specs.Rows.{joined_count, is_alone, front_of, row_joined, row_alone, shown_front, shown_left, held_few, row_gathered}
use Rattle.st_windows.proofs.CutLemmas.{cut_symbol, front_older, front_newer, rest_symbol, chosen_is, below_is, above_is}

-- ---- tests of counts

at_least : (size count : ℕ) → 1 ≤ size → nat_lt (size - 1) count ≡ nat_le size count
at_least size count some = by_place (cases_lt count size)
  where
    by_place : (count < size) ⊎ (size ≤ count) → nat_lt (size - 1) count ≡ nat_le size count
    by_place (inl few) = le-ltb (size - 1) count (omega (arith, few)) ∙ sym (lt-leb size count few)
    by_place (inr many) = lt-ltb (size - 1) count (omega (arith, many, some)) ∙ sym (le-leb size count many)

-- where more is left, it doesn't fit
left_or : {X : Type 0} (size count : ℕ) (x y : X) → (if nat_lt size count then x else y) ≡ (if nat_le count size then y else x)
left_or size count x y = by_place (cases_lt size count)
  where
    by_place : (size < count) ⊎ (count ≤ size) → (if nat_lt size count then x else y) ≡ (if nat_le count size then y else x)
    by_place (inl more) = ap (λ t. if t then x else y) (lt-ltb size count more) ∙ sym (ap (λ t. if t then y else x) (lt-leb count size more))
    by_place (inr few) = ap (λ t. if t then x else y) (le-ltb size count few) ∙ sym (ap (λ t. if t then y else x) (le-leb count size few))

-- a difference, by a sum with what the modulus leaves
minus_is : (p a b : ℕ) → b ≤ a → a < p → (a + (p - b)) % p ≡ a - b
minus_is p a b few small =
    let over : a + (p - b) - p ≡ a - b = omega (arith, few, small) in
    let below : a - b < p = omega (arith, small) in
    mod-eq-sub-mod (omega (arith, few, small)) ∙ ap (λ n. n % p) over ∙ mod-eq_of_lt below

-- and added to what is held
coming_is : (p held size empty : ℕ) → empty ≤ size → held + size < p → (held + (size + (p - empty)) % p) % p ≡ held + (size - empty)
coming_is p held size empty few small =
    let below : held + (size - empty) < p = omega (arith, small) in
    ap (λ n. (held + n) % p) (minus_is p size empty few (omega (arith, small))) ∙ mod-eq_of_lt below

module _ (sizes : WindowSizes) (side : Side) (symbols_are : side.symbols ≡ sizes.from) (bits_are : side.symbol_bits ≡ sizes.bits) (high : side.first_high ≡ true) where
  abbrev pub into : Side
  into = of_symbols side sizes.into

  -- the row that the registers hold
  abbrev pub row_in : Shown → Row
  row_in x = record { count = x.beat.empty; value = symbol sizes.bits sizes.held x.beat.word; channel = x.beat.channel; error = x.beat.error; first = x.beat.first; last = x.beat.last }

  pub value_here : (size word k : ℕ) → value_of (of_symbols side size) word k ≡ symbol sizes.bits size word k
  value_here size word k = rw (high, bits_are) refl

  pub value_from : (word k : ℕ) → value_of side word k ≡ symbol sizes.bits sizes.from word k
  value_from word k = rw (high, bits_are, symbols_are) refl

  -- counts have room for what is held and comes, so for a beat that goes
  into_counts : sizes.into < 2 ^ sizes.count
  into_counts = let all = sizes.counts in let some = sizes.some_from in let behind = sizes.into_behind in omega (arith, all, some, behind)

  sum_counts : (held : ℕ) → held < sizes.into → held + sizes.from < 2 ^ sizes.count
  sum_counts held few = let all = sizes.counts in let behind = sizes.into_behind in omega (arith, all, behind, few)

  pub alone_is : (x : Shown) → is_whole sizes.into (row_in x) ≡ is_alone sizes x
  alone_is x = ap (λ t. t || (x.beat.last == 1)) (sym (at_least sizes.into x.beat.empty sizes.some_into))

  -- what is held is few where it isn't alone
  pub few_held : (x : Shown) → is_alone sizes x ≡ false → x.beat.empty < sizes.into
  few_held x e = let few = ltb-false (sizes.into - 1) x.beat.empty (or_parts _ _ e).0 in let some = sizes.some_into in omega (arith, few, some)

  -- the last beat of a packet has a symbol with data
  abbrev pub HoldsData : Beat → Type 0
  HoldsData beat = (beat.last == 1) ≡ true → beat.empty < sizes.from

  pub count_bounds : (beat : Beat) → HoldsData beat → (1 ≤ symbol_count side beat) × (symbol_count side beat ≤ sizes.from)
  count_bounds beat holds = by_last (beat.last == 1) refl
    where
      by_last : (t : Bool) → (beat.last == 1) ≡ t → (1 ≤ (if t then side.symbols - beat.empty else side.symbols)) × ((if t then side.symbols - beat.empty else side.symbols) ≤ sizes.from)
      by_last true e = let below = holds e in (omega (arith, below, symbols_are), omega (arith, symbols_are))
      by_last false e = let some = sizes.some_from in (omega (arith, some, symbols_are), omega (arith, symbols_are))

  pub joined_is : (held : ℕ) (x : Shown) → held < sizes.into → HoldsData x.beat → joined_count sizes held x ≡ held + symbol_count side x.beat
  joined_is held x few holds = by_last (x.beat.last == 1) refl
    where
      by_last : (t : Bool) → (x.beat.last == 1) ≡ t → (held + (sizes.from + (2 ^ sizes.count - (if t then x.beat.empty % 2 ^ sizes.count else 0))) % 2 ^ sizes.count) % 2 ^ sizes.count ≡ held + (if t then side.symbols - x.beat.empty else side.symbols)
      by_last true e =
          let below = holds e in
          let small : x.beat.empty < 2 ^ sizes.count = (let most = sum_counts held few in omega (arith, most, below)) in
          ap (λ n. (held + (sizes.from + (2 ^ sizes.count - n)) % 2 ^ sizes.count) % 2 ^ sizes.count) (mod-eq_of_lt small)
          ∙ coming_is (2 ^ sizes.count) held sizes.from x.beat.empty (omega (arith, below)) (sum_counts held few)
          ∙ ap (λ n. held + (n - x.beat.empty)) (sym symbols_are)
      by_last false e = let bare : sizes.from - 0 ≡ sizes.from = omega arith in coming_is (2 ^ sizes.count) held sizes.from 0 (omega arith) (sum_counts held few) ∙ ap (λ n. held + n) (bare ∙ sym symbols_are)

  pub whole_is : (held x : Shown) → held.beat.empty < sizes.into → HoldsData x.beat →
      (nat_lt (sizes.into - 1) (joined_count sizes held.beat.empty x) || (x.beat.last == 1)) ≡ is_whole sizes.into (with_beat side (row_in held) x.beat)
  whole_is held x few holds =
      ap (λ n. nat_lt (sizes.into - 1) n || (x.beat.last == 1)) (joined_is held.beat.empty x few holds)
      ∙ ap (λ t. t || (x.beat.last == 1)) (at_least sizes.into (held.beat.empty + symbol_count side x.beat) sizes.some_into)

  -- the nets show the row, as far as a beat has symbols
  pub record IsRowOf (row : Row) (x : Shown) : Type 0 where
    pub count : x.beat.empty ≡ row.count
    pub small : row.count < 2 ^ sizes.count
    pub values : (k : ℕ) → k < sizes.into → k < row.count → symbol sizes.bits sizes.into x.beat.word k ≡ row.value k
    pub channel : x.beat.channel ≡ row.channel
    pub error : x.beat.error ≡ row.error
    pub first : x.beat.first ≡ row.first
    pub last : x.beat.last ≡ row.last

  -- a symbol of the front that is held
  front_held : (held : Shown) (coming k : ℕ) → held.beat.empty ≤ sizes.held → k < sizes.into → k < held.beat.empty → symbol sizes.bits sizes.into (front_of sizes held coming) k ≡ symbol sizes.bits sizes.held held.beat.word k
  front_held held coming k fits inside within = by_count (cases_lt held.beat.empty sizes.into)
    where
      by_count : (held.beat.empty < sizes.into) ⊎ (sizes.into ≤ held.beat.empty) → symbol sizes.bits sizes.into (front_of sizes held coming) k ≡ symbol sizes.bits sizes.held held.beat.word k
      by_count (inl few) =
          ap (λ w. symbol sizes.bits sizes.into w k) (below_is held.beat.empty (front_at sizes.bits sizes.from sizes.into sizes.held held.beat.word coming) (cut_of sizes.bits sizes.held 0 sizes.into held.beat.word) sizes.into few)
          ∙ front_older sizes.bits sizes.from sizes.into sizes.held held.beat.word coming held.beat.empty k few fits within
      by_count (inr many) =
          ap (λ w. symbol sizes.bits sizes.into w k) (above_is held.beat.empty (front_at sizes.bits sizes.from sizes.into sizes.held held.beat.word coming) (cut_of sizes.bits sizes.held 0 sizes.into held.beat.word) sizes.into many)
          ∙ cut_symbol sizes.bits sizes.held 0 sizes.into held.beat.word k inside (omega (arith, within, fits))
          ∙ ap (λ n. symbol sizes.bits sizes.held held.beat.word n) (omega arith)

  pub alone_row : (held : Shown) → held.beat.empty ≤ sizes.held → held.beat.empty < 2 ^ sizes.count → IsRowOf (row_in held) (row_alone sizes held)
  alone_row held few small = record {
    count = refl;
    small = small;
    values = λ k inside within. front_held held 0 k few inside within;
    channel = refl;
    error = refl;
    first = refl;
    last = refl;
  }

  pub joined_row : (held x : Shown) → held.beat.empty < sizes.into → HoldsData x.beat → IsRowOf (with_beat side (row_in held) x.beat) (row_joined sizes held x)
  joined_row held x few holds = record {
    count = joined_is held.beat.empty x few holds;
    small = (let most = (count_bounds x.beat holds).1 in let room = sum_counts held.beat.empty few in omega (arith, most, room));
    values = λ k inside within. ap (λ w. symbol sizes.bits sizes.into w k) word_is ∙ by_place k inside within (cases_lt k held.beat.empty);
    channel = refl;
    error = refl;
    first = refl;
    last = refl;
  } where
    word_is : (row_joined sizes held x).beat.word ≡ front_at sizes.bits sizes.from sizes.into sizes.held held.beat.word x.beat.word held.beat.empty
    word_is = below_is held.beat.empty (front_at sizes.bits sizes.from sizes.into sizes.held held.beat.word x.beat.word) (cut_of sizes.bits sizes.held 0 sizes.into held.beat.word) sizes.into few

    by_place : (k : ℕ) → k < sizes.into → k < held.beat.empty + symbol_count side x.beat → (k < held.beat.empty) ⊎ (held.beat.empty ≤ k) →
        symbol sizes.bits sizes.into (front_at sizes.bits sizes.from sizes.into sizes.held held.beat.word x.beat.word held.beat.empty) k ≡ (if nat_lt k held.beat.empty then symbol sizes.bits sizes.held held.beat.word k else value_of side x.beat.word (k - held.beat.empty))
    by_place k inside within (inl older) =
        let behind = sizes.into_behind in
        front_older sizes.bits sizes.from sizes.into sizes.held held.beat.word x.beat.word held.beat.empty k few (omega (arith, behind, few)) older
        ∙ sym (ap (λ t. if t then symbol sizes.bits sizes.held held.beat.word k else value_of side x.beat.word (k - held.beat.empty)) (lt-ltb k held.beat.empty older))
    by_place k inside within (inr newer) =
        let most = (count_bounds x.beat holds).1 in
        front_newer sizes.bits sizes.from sizes.into sizes.held held.beat.word x.beat.word held.beat.empty k newer inside (omega (arith, within, most))
        ∙ sym (value_from x.beat.word (k - held.beat.empty))
        ∙ sym (ap (λ t. if t then symbol sizes.bits sizes.held held.beat.word k else value_of side x.beat.word (k - held.beat.empty)) (le-ltb k held.beat.empty newer))

  -- ---- what goes out, and what is left

  pub front_is : (row : Row) (x : Shown) → IsRowOf row x → IsFront into row (shown_front sizes x).beat
  front_is row x h = record {
    values = λ k inside within. value_here sizes.into x.beat.word k ∙ h.values k inside within;
    channel = h.channel;
    error = h.error;
    first = h.first;
    last = left_or sizes.into x.beat.empty 0 x.beat.last ∙ ap (λ n. if nat_le n sizes.into then x.beat.last else 0) h.count ∙ ap (λ n. if nat_le row.count sizes.into then n else 0) h.last;
    empty = λ ends. empty_is (nat_lt sizes.into x.beat.empty) refl ends;
  } where
    empty_is : (t : Bool) → nat_lt sizes.into x.beat.empty ≡ t → ((if t then 0 else x.beat.last) == 1) ≡ true → (sizes.into + (2 ^ sizes.count - x.beat.empty)) % 2 ^ sizes.count ≡ sizes.into - row.count
    empty_is true e ends = absurd (cc)
    empty_is false e ends = minus_is (2 ^ sizes.count) sizes.into x.beat.empty (ltb-false sizes.into x.beat.empty e) into_counts ∙ ap (λ n. sizes.into - n) h.count

  left_count : (x : Shown) (count : ℕ) → x.beat.empty ≡ count → count < 2 ^ sizes.count → (if nat_lt sizes.into x.beat.empty then (x.beat.empty + (2 ^ sizes.count - sizes.into)) % 2 ^ sizes.count else 0) ≡ count - sizes.into
  left_count x count same small = by_more (nat_lt sizes.into x.beat.empty) refl
    where
      by_more : (t : Bool) → nat_lt sizes.into x.beat.empty ≡ t → (if t then (x.beat.empty + (2 ^ sizes.count - sizes.into)) % 2 ^ sizes.count else 0) ≡ count - sizes.into
      by_more true e = let more = ltb-true sizes.into x.beat.empty e in minus_is (2 ^ sizes.count) x.beat.empty sizes.into (omega (arith, more)) (omega (arith, same, small)) ∙ ap (λ n. n - sizes.into) same
      by_more false e = let few = ltb-false sizes.into x.beat.empty e in omega (arith, few, same)

  pub left_is : (row : Row) (x : Shown) (word error : ℕ) → IsRowOf row x → ((k : ℕ) → k + sizes.into < row.count → symbol sizes.bits sizes.held word k ≡ row.value (k + sizes.into)) →
      AreSameRow (row_in (shown_left sizes x word error)) (behind_beat sizes.into error row)
  left_is row x word error h behind =
      let count = left_count x row.count h.count h.small in
      record {
        count = count;
        values = λ k within. behind k (omega (arith, count, within));
        channel = h.channel;
        error = left_or sizes.into x.beat.empty error 0 ∙ ap (λ n. if nat_le n sizes.into then 0 else error) h.count;
        first = refl;
        last = left_or sizes.into x.beat.empty x.beat.last 0 ∙ ap (λ n. if nat_le n sizes.into then 0 else x.beat.last) h.count ∙ ap (λ n. if nat_le row.count sizes.into then 0 else n) h.last;
      }

  pub alone_left : (held : Shown) (k : ℕ) → held.beat.empty ≤ sizes.held → k + sizes.into < held.beat.empty → symbol sizes.bits sizes.held (cut_of sizes.bits sizes.held sizes.into sizes.held held.beat.word) k ≡ symbol sizes.bits sizes.held held.beat.word (k + sizes.into)
  alone_left held k few within =
      cut_symbol sizes.bits sizes.held sizes.into sizes.held held.beat.word k (omega (arith, within, few)) (omega (arith, within, few)) ∙ ap (λ n. symbol sizes.bits sizes.held held.beat.word n) (omega arith)

  pub joined_left : (held x : Shown) (k : ℕ) → held.beat.empty < sizes.into → HoldsData x.beat → k + sizes.into < held.beat.empty + symbol_count side x.beat →
      symbol sizes.bits sizes.held (chosen_at held.beat.empty (rest_at sizes.bits sizes.from sizes.into sizes.held x.beat.word) (sizes.into - 1)) k ≡ (if nat_lt (k + sizes.into) held.beat.empty then symbol sizes.bits sizes.held held.beat.word (k + sizes.into) else value_of side x.beat.word (k + sizes.into - held.beat.empty))
  joined_left held x k few holds within =
      let most = (count_bounds x.beat holds).1 in
      let behind = sizes.from_behind in
      let place : (sizes.into - held.beat.empty) + k ≡ k + sizes.into - held.beat.empty = omega (arith, few) in
      ap (λ w. symbol sizes.bits sizes.held w k) (chosen_is held.beat.empty (rest_at sizes.bits sizes.from sizes.into sizes.held x.beat.word) (sizes.into - 1) (omega (arith, few)))
      ∙ rest_symbol sizes.bits sizes.from sizes.into sizes.held x.beat.word held.beat.empty k (omega (arith, most, behind, within, few)) (omega (arith, most, within, few))
      ∙ ap (λ n. symbol sizes.bits sizes.from x.beat.word n) place
      ∙ sym (value_from x.beat.word (k + sizes.into - held.beat.empty))
      ∙ sym (ap (λ t. if t then symbol sizes.bits sizes.held held.beat.word (k + sizes.into) else value_of side x.beat.word (k + sizes.into - held.beat.empty)) (le-ltb (k + sizes.into) held.beat.empty (omega (arith, few))))

  -- what is held has a count of few bits
  pub few_same : (x : Shown) → x.beat.empty ≤ sizes.held → held_few sizes x ≡ x
  few_same x few = shown_same (held_few sizes x) x refl refl refl refl refl refl (mod-eq_of_lt (let all = sizes.counts_held in omega (arith, few, all)))

  -- what is gathered is the row, where it makes no beat
  pub gathered_is : (row : Row) (x : Shown) → IsRowOf row x → row.count < sizes.into → AreSameRow (row_in (row_gathered sizes x)) row
  gathered_is row x h few = record {
    count = mod-eq_of_lt (let same = h.count in let behind = sizes.into_behind in let all = sizes.counts_held in omega (arith, same, few, behind, all)) ∙ h.count;
    values = λ k within. (
        let same = h.count in
        let behind = sizes.into_behind in
        let all = sizes.counts_held in
        let kept : x.beat.empty % 2 ^ sizes.held_count ≡ x.beat.empty = mod-eq_of_lt (omega (arith, same, few, behind, all)) in
        cut_symbol sizes.bits sizes.into 0 sizes.held x.beat.word k (omega (arith, same, few, behind, within, kept)) (omega (arith, same, few, within, kept))
        ∙ ap (λ n. symbol sizes.bits sizes.into x.beat.word n) (omega arith)
        ∙ h.values k (omega (arith, same, few, within, kept)) (omega (arith, same, within, kept)));
    channel = h.channel;
    error = h.error;
    first = h.first;
    last = h.last;
  }

  -- how many may be held
  pub left_few : (held x : Shown) → held.beat.empty < sizes.into → HoldsData x.beat → held.beat.empty + symbol_count side x.beat - sizes.into ≤ sizes.held
  left_few held x few holds = let most = (count_bounds x.beat holds).1 in let behind = sizes.from_behind in omega (arith, most, behind, few)
