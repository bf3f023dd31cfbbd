-- The words of beats that come apart, are joined, or are turned hold the symbols that they should.
use Rattle.std.proofs.Common.{◌≡◌, ◌⊎◌, ℕ, zero, suc, ◌+◌, ◌-◌, ◌*◌, ◌/◌, ◌%◌, ◌^◌, ◌≤◌, ◌<◌, Bool, true, false, cond, List, [], ◌∷◌, ◌++◌, length, refl, ap, sym, ◌∙◌, inl, inr, arith, length-append, eqb, nat_le}
use Rattle.std.proofs.Math.Nat.{mod-lt, mod-eq_of_lt, mul-add-div_right, mul-add-mod_self_right, mul-mod_left}
use Rattle.std.proofs.lemmas.Nat.{pow-add, pow_pos, shr-shr, div-mul-add, mod-mul-add, mul-add-lt}
use Rattle.std.proofs.lemmas.Bool.{cases_Bool, cases_lt, cond-true, cond-false, leb-true, leb-false, ne_eqb}
use Rattle.stream_runs.specs.View.{Beat, Side}
use Rattle.stream_runs.specs.Symbols.{symbol_count, value_of}
use Rattle.stream_machines.specs.Parts.{HoldsWords, LastIs, OthersUnmarked, FirstIs, AllBear, symbols_held, IsSplit, IsJoined}
use Rattle.stream_machines.specs.Wires.{turned_side}
use Rattle.stream_machines.specs.Words.{part_word, pieces_from, pieces, joined_word, joined_beat, turned_word, cleared_word}
use Rattle.stream_machines.proofs.Pieces.{value_of-piece, symbol_of_part}

-- the first of these bears this mark, if they begin at part 0
abbrev MarkedFrom : ℕ → ℕ → List Beat → Type 0
MarkedFrom first t [] = Unit {0}
MarkedFrom first t (beat ∷ beats) = (beat.first ≡ cond (eqb t 0) first 0) × OthersUnmarked beats

-- what is known of the pieces from part number t on
record PiecesFrom (narrow wide : Side) (whole : Beat) (t left : ℕ) (ps : List Beat) : Type 0 where
  words : HoldsWords narrow wide whole.word t ps
  bear : AllBear narrow whole.channel whole.error ps
  marked : MarkedFrom whole.first t ps
  last : LastIs whole.last ps
  all : symbols_held narrow ps ≡ left
  some : 0 < length ps

last_more : (l : ℕ) (b : Beat) (ps : List Beat) → 0 < length ps → b.last ≡ 0 → LastIs l ps → LastIs l (b ∷ ps)
last_more l b [] some zero_last ends = absurd (omega arith)
last_more l b (p ∷ ps) some zero_last ends = (zero_last, ends)

unmarked_behind : (first t : ℕ) (ps : List Beat) → MarkedFrom first (t + 1) ps → OthersUnmarked ps
unmarked_behind first t [] m = tt
unmarked_behind first t (p ∷ ps) m = (m.0 ∙ cond-false (eqb (t + 1) 0) first 0 (ne_eqb (t + 1) 0 (λ z. omega arith)), m.1)

module _ (narrow wide : Side) (parts : ℕ) (whole : Beat) (positive : 0 < narrow.symbols) (size : wide.symbols ≡ narrow.symbols * parts) (bits : narrow.symbol_bits ≡ wide.symbol_bits)
    (high : wide.first_high ≡ true) (high' : narrow.first_high ≡ true) where
  abbrev going : ℕ → Beat
  going t = record { word = part_word narrow parts whole.word t; channel = whole.channel; error = whole.error; first = cond (eqb t 0) whole.first 0; last = 0; empty = 0 }

  split_from : (more t left : ℕ) → t + more ≡ parts → 0 < left → left ≤ narrow.symbols * more → (eqb whole.last 1 ≡ false → left ≡ narrow.symbols * more)
      → PiecesFrom narrow wide whole t left (pieces_from narrow parts whole more t left)
  split_from zero t left e some fits full = absurd (omega (arith, fits))
  split_from (suc more) t left e some fits full =
      by_left (split_from more (t + 1) (left - narrow.symbols)) (nat_le left narrow.symbols) refl
    where
      words_at : (i : ℕ) → i < narrow.symbols → value_of wide whole.word (narrow.symbols * t + i) ≡ value_of narrow (part_word narrow parts whole.word t) i
      words_at i h = sym (value_of-piece wide narrow parts whole.word t i high high' bits size (omega arith) h)

      product : narrow.symbols * suc more ≡ narrow.symbols * more + narrow.symbols
      product = omega arith

      last_held : left ≤ narrow.symbols → cond (eqb whole.last 1) (narrow.symbols - (narrow.symbols - left)) narrow.symbols ≡ left
      last_held few = by_last (cases_Bool (eqb whole.last 1))
        where
          by_last : (eqb whole.last 1 ≡ true) ⊎ (eqb whole.last 1 ≡ false) → cond (eqb whole.last 1) (narrow.symbols - (narrow.symbols - left)) narrow.symbols ≡ left
          by_last (inl ends) = cond-true _ _ _ ends ∙ omega arith
          by_last (inr goes) = cond-false _ _ _ goes ∙ omega (arith, full goes, product, few)

      by_left : (t + 1 + more ≡ parts → 0 < left - narrow.symbols → left - narrow.symbols ≤ narrow.symbols * more → (eqb whole.last 1 ≡ false → left - narrow.symbols ≡ narrow.symbols * more)
          → PiecesFrom narrow wide whole (t + 1) (left - narrow.symbols) (pieces_from narrow parts whole more (t + 1) (left - narrow.symbols)))
          → (b : Bool) → nat_le left narrow.symbols ≡ b
          → PiecesFrom narrow wide whole t left (cond b
          (record { word = part_word narrow parts whole.word t; channel = whole.channel; error = whole.error; first = cond (eqb t 0) whole.first 0; last = whole.last; empty = narrow.symbols - left } ∷ [])
          (record { word = part_word narrow parts whole.word t; channel = whole.channel; error = whole.error; first = cond (eqb t 0) whole.first 0; last = 0; empty = 0 } ∷ pieces_from narrow parts whole more (t + 1) (left - narrow.symbols)))
      by_left rest true is =
          let few : left ≤ narrow.symbols = leb-true left narrow.symbols is in
          record {
            words = ((λ i h. words_at i (omega (arith, h, last_held few, few))), tt);
            bear = (refl, refl, omega (arith, last_held few), tt);
            marked = (refl, tt);
            last = refl;
            all = omega (arith, last_held few);
            some = omega arith;
          }
      by_left rest false is =
          let many : narrow.symbols < left = leb-false left narrow.symbols is in
          let r = rest (omega arith) (omega arith) (omega (arith, fits, product)) (λ goes. omega (arith, full goes, product)) in
          record {
            words = ((λ i h. words_at i h), r.words);
            bear = (refl, refl, positive, r.bear);
            marked = (refl, unmarked_behind whole.first t (pieces_from narrow parts whole more (t + 1) (left - narrow.symbols)) r.marked);
            last = last_more whole.last (going t) (pieces_from narrow parts whole more (t + 1) (left - narrow.symbols)) r.some refl r.last;
            all = omega (arith, r.all, many);
            some = omega arith;
          }

  -- a beat that holds a symbol comes apart into its pieces
  pub split_is : 0 < parts → 0 < symbol_count wide whole → IsSplit narrow wide whole (pieces narrow wide parts whole)
  split_is some_parts some =
      let r = split_from parts 0 (symbol_count wide whole) (omega arith) some (omega (arith, size, least)) (λ goes. cond-false _ _ _ goes ∙ size) in
      record { words = r.words; bear = r.bear; first = marked_first _ r.marked; last = r.last; all = r.all }
    where
      least : symbol_count wide whole ≤ wide.symbols
      least = by_last (eqb whole.last 1)
        where
          by_last : (b : Bool) → cond b (wide.symbols - whole.empty) wide.symbols ≤ wide.symbols
          by_last true = omega arith
          by_last false = omega arith

      marked_first : (ps : List Beat) → MarkedFrom whole.first 0 ps → FirstIs whole.first ps
      marked_first [] m = tt
      marked_first (p ∷ ps) m = m

-- ---- joined words

module _ (narrow wide : Side) (parts : ℕ) (positive : 0 < narrow.symbols) (size : wide.symbols ≡ narrow.symbols * parts) (bits : narrow.symbol_bits ≡ wide.symbol_bits) (high : wide.first_high ≡ true) (high' : narrow.first_high ≡ true) where
  power_split : (places : ℕ) → 2 ^ (narrow.symbol_bits * (narrow.symbols * suc places)) ≡ 2 ^ (narrow.symbol_bits * narrow.symbols) * 2 ^ (narrow.symbol_bits * (narrow.symbols * places))
  power_split places =
      let sum : narrow.symbol_bits * (narrow.symbols * suc places) ≡ narrow.symbol_bits * narrow.symbols + narrow.symbol_bits * (narrow.symbols * places) = omega arith in
      ap (λ n. 2 ^ n) sum ∙ pow-add 2 (narrow.symbol_bits * narrow.symbols) (narrow.symbol_bits * (narrow.symbols * places))

  joined_below : (places : ℕ) (beats : List Beat) → joined_word narrow places beats < 2 ^ (narrow.symbol_bits * (narrow.symbols * places))
  joined_below places [] = pow_pos (narrow.symbol_bits * (narrow.symbols * places))
  joined_below zero (b ∷ bs) = pow_pos (narrow.symbol_bits * (narrow.symbols * 0))
  joined_below (suc places) (b ∷ bs) =
      let below = mul-add-lt (b.word % 2 ^ (narrow.symbol_bits * narrow.symbols)) (2 ^ (narrow.symbol_bits * (narrow.symbols * places))) (joined_word narrow places bs) (2 ^ (narrow.symbol_bits * narrow.symbols))
      (mod-lt b.word (pow_pos (narrow.symbol_bits * narrow.symbols))) (joined_below places bs) in
      omega (arith, below, power_split places)

  -- a symbol of a word that is cut to its width
  cut_value : (word i : ℕ) → i < narrow.symbols → value_of narrow (word % 2 ^ (narrow.symbol_bits * narrow.symbols)) i ≡ value_of narrow word i
  cut_value word i h =
      let none : narrow.symbol_bits * (narrow.symbols * 0) ≡ 0 = omega arith in
      let whole : word / 2 ^ (narrow.symbol_bits * (narrow.symbols * 0)) ≡ word = ap (λ n. word / 2 ^ n) none ∙ div_one word in
      let place : ℕ = narrow.symbols - 1 - i in
      let here : narrow.symbols * 0 + (narrow.symbols - 1 - i) ≡ narrow.symbols - 1 - i = omega arith in
      let part = symbol_of_part word narrow.symbol_bits narrow.symbols 0 (narrow.symbols - 1 - i) (omega arith) in
      rw high' (ap (λ w. w % 2 ^ (narrow.symbol_bits * narrow.symbols) / 2 ^ (narrow.symbol_bits * (narrow.symbols - 1 - i)) % 2 ^ narrow.symbol_bits) (sym whole) ∙ (part ∙ ap (λ n. word / 2 ^ (narrow.symbol_bits * n) % 2 ^ narrow.symbol_bits) here))
    where
      div_one : (w : ℕ) → w / 2 ^ 0 ≡ w
      div_one w = omega arith

  holds_joined : (t places front word : ℕ) (beats : List Beat) → t + places ≡ parts → length beats ≤ places
      → word ≡ front * 2 ^ (narrow.symbol_bits * (narrow.symbols * places)) + joined_word narrow places beats → HoldsWords narrow wide word t beats
  holds_joined t places front word [] e fits is = tt
  holds_joined t zero front word (b ∷ bs) e fits is = absurd (omega arith)
  holds_joined t (suc places) front word (b ∷ bs) e fits is =
      (here, holds_joined (t + 1) places (front * 2 ^ (narrow.symbol_bits * narrow.symbols) + b.word % 2 ^ (narrow.symbol_bits * narrow.symbols)) word bs (omega arith) (omega arith) shifted)
    where
      shifted : word ≡ (front * 2 ^ (narrow.symbol_bits * narrow.symbols) + b.word % 2 ^ (narrow.symbol_bits * narrow.symbols)) * 2 ^ (narrow.symbol_bits * (narrow.symbols * places)) + joined_word narrow places bs
      shifted = is ∙ (ap (λ n. front * n + (b.word % 2 ^ (narrow.symbol_bits * narrow.symbols) * 2 ^ (narrow.symbol_bits * (narrow.symbols * places)) + joined_word narrow places bs)) (power_split places)
          ∙ regroup front (2 ^ (narrow.symbol_bits * narrow.symbols)) (2 ^ (narrow.symbol_bits * (narrow.symbols * places))) (b.word % 2 ^ (narrow.symbol_bits * narrow.symbols)) (joined_word narrow places bs))
        where
          regroup : (x a p y r : ℕ) → x * (a * p) + (y * p + r) ≡ (x * a + y) * p + r
          regroup x a p y r = omega arith

      here : (i : ℕ) → i < symbol_count narrow b → value_of wide word (narrow.symbols * t + i) ≡ value_of narrow b.word i
      here i h =
          let inner : i < narrow.symbols = omega (arith, h, least) in
          let back : parts - 1 - t ≡ places = omega arith in
          let shown : part_word narrow parts word t ≡ b.word % 2 ^ (narrow.symbol_bits * narrow.symbols) =
          ap (λ n. word / 2 ^ (narrow.symbol_bits * (narrow.symbols * n)) % 2 ^ (narrow.symbol_bits * narrow.symbols)) back
          ∙ (ap (λ w. w / 2 ^ (narrow.symbol_bits * (narrow.symbols * places)) % 2 ^ (narrow.symbol_bits * narrow.symbols)) shifted
          ∙ (ap (λ w. w % 2 ^ (narrow.symbol_bits * narrow.symbols)) (div-mul-add (front * 2 ^ (narrow.symbol_bits * narrow.symbols) + b.word % 2 ^ (narrow.symbol_bits * narrow.symbols)) (2 ^ (narrow.symbol_bits * (narrow.symbols * places))) (joined_word narrow places bs) (joined_below places bs))
          ∙ mod-mul-add front (2 ^ (narrow.symbol_bits * narrow.symbols)) (b.word % 2 ^ (narrow.symbol_bits * narrow.symbols)) (mod-lt b.word (pow_pos (narrow.symbol_bits * narrow.symbols))))) in
          sym (value_of-piece wide narrow parts word t i high high' bits size (omega arith) inner) ∙ (ap (λ w. value_of narrow w i) shown ∙ cut_value b.word i inner)
        where
          least : symbol_count narrow b ≤ narrow.symbols
          least = by_last (eqb b.last 1)
            where
              by_last : (q : Bool) → cond q (narrow.symbols - b.empty) narrow.symbols ≤ narrow.symbols
              by_last true = omega arith
              by_last false = omega arith

  -- the joined beat joins
  pub joined_is : (earlier : List Beat) (latest : Beat) → length earlier < parts → IsJoined narrow wide earlier latest (joined_beat narrow wide parts earlier latest)
  joined_is earlier latest fits =
      record {
        words = holds_joined 0 parts 0 (joined_word narrow parts (earlier ++ latest ∷ [])) (earlier ++ latest ∷ []) (omega arith) (omega (arith, length-append earlier (latest ∷ []))) (omega arith);
        channel = refl;
        error = refl;
        first = refl;
        last = refl;
        empty = λ _. refl;
      }

-- ---- turned words

turned_below : (bits symbols word : ℕ) → turned_word bits symbols word < 2 ^ (bits * symbols)
turned_below bits zero word = pow_pos (bits * 0)
turned_below bits (suc symbols) word =
    let below = mul-add-lt (word % 2 ^ bits) (2 ^ (bits * symbols)) (turned_word bits symbols (word / 2 ^ bits)) (2 ^ bits) (mod-lt word (pow_pos bits)) (turned_below bits symbols (word / 2 ^ bits)) in
    let sum : bits * suc symbols ≡ bits + bits * symbols = omega arith in
    let power : 2 ^ (bits * suc symbols) ≡ 2 ^ bits * 2 ^ (bits * symbols) = ap (λ n. 2 ^ n) sum ∙ pow-add 2 bits (bits * symbols) in
    omega (arith, below, power)

turned_place : (bits symbols word p : ℕ) → p < symbols → turned_word bits symbols word / 2 ^ (bits * p) % 2 ^ bits ≡ word / 2 ^ (bits * (symbols - 1 - p)) % 2 ^ bits
turned_place bits zero word p h = absurd (omega arith)
turned_place bits (suc symbols) word p h = by_place (cases_lt p symbols) (turned_place bits symbols (word / 2 ^ bits) p)
  where
    by_place : (p < symbols) ⊎ (symbols ≤ p) → (p < symbols → turned_word bits symbols (word / 2 ^ bits) / 2 ^ (bits * p) % 2 ^ bits ≡ word / 2 ^ bits / 2 ^ (bits * (symbols - 1 - p)) % 2 ^ bits)
        → (word % 2 ^ bits * 2 ^ (bits * symbols) + turned_word bits symbols (word / 2 ^ bits)) / 2 ^ (bits * p) % 2 ^ bits ≡ word / 2 ^ (bits * (suc symbols - 1 - p)) % 2 ^ bits
    by_place (inl inner) rest =
        let apart : symbols ≡ (symbols - 1 - p) + 1 + p = omega arith in
        let sum : bits * symbols ≡ bits * (symbols - 1 - p) + bits + bits * p = ap (λ n. bits * n) apart ∙ omega arith in
        let power : 2 ^ (bits * symbols) ≡ 2 ^ (bits * (symbols - 1 - p)) * 2 ^ bits * 2 ^ (bits * p) =
        ap (λ n. 2 ^ n) sum ∙ (pow-add 2 (bits * (symbols - 1 - p) + bits) (bits * p) ∙ ap (λ n. n * 2 ^ (bits * p)) (pow-add 2 (bits * (symbols - 1 - p)) bits)) in
        let split : word % 2 ^ bits * 2 ^ (bits * symbols) + turned_word bits symbols (word / 2 ^ bits) ≡ word % 2 ^ bits * 2 ^ (bits * (symbols - 1 - p)) * 2 ^ bits * 2 ^ (bits * p) + turned_word bits symbols (word / 2 ^ bits) =
        ap (λ n. word % 2 ^ bits * n + turned_word bits symbols (word / 2 ^ bits)) power ∙ regroup (word % 2 ^ bits) (2 ^ (bits * (symbols - 1 - p))) (2 ^ bits) (2 ^ (bits * p)) (turned_word bits symbols (word / 2 ^ bits)) in
        let joined : bits + bits * (symbols - 1 - p) ≡ bits * (suc symbols - 1 - p) = product in
        ap (λ n. n / 2 ^ (bits * p) % 2 ^ bits) split
        ∙ (ap (λ n. n % 2 ^ bits) (mul-add-div_right (pow_pos (bits * p)) (word % 2 ^ bits * 2 ^ (bits * (symbols - 1 - p)) * 2 ^ bits) (turned_word bits symbols (word / 2 ^ bits)))
        ∙ (mul-add-mod_self_right (word % 2 ^ bits * 2 ^ (bits * (symbols - 1 - p))) (2 ^ bits) (turned_word bits symbols (word / 2 ^ bits) / 2 ^ (bits * p))
        ∙ (rest inner ∙ (ap (λ n. n % 2 ^ bits) (shr-shr word bits (bits * (symbols - 1 - p))) ∙ ap (λ n. word / 2 ^ n % 2 ^ bits) joined))))
      where
        regroup : (y x a q r : ℕ) → y * (x * a * q) + r ≡ y * x * a * q + r
        regroup y x a q r = omega arith

        product : bits + bits * (symbols - 1 - p) ≡ bits * (suc symbols - 1 - p)
        product = let next : suc symbols - 1 - p ≡ symbols - 1 - p + 1 = omega arith in let whole : bits * (suc symbols - 1 - p) ≡ bits * (symbols - 1 - p + 1) = ap (λ n. bits * n) next in omega (arith, whole)
    by_place (inr last) rest =
        let here : p ≡ symbols = omega arith in
        let none : bits * (suc symbols - 1 - p) ≡ 0 = let zero_place : suc symbols - 1 - p ≡ 0 = omega arith in ap (λ n. bits * n) zero_place ∙ omega arith in
        let same : bits * p ≡ bits * symbols = ap (λ n. bits * n) here in
        ap (λ n. (word % 2 ^ bits * 2 ^ (bits * symbols) + turned_word bits symbols (word / 2 ^ bits)) / 2 ^ n % 2 ^ bits) same
        ∙ (ap (λ n. n % 2 ^ bits) (div-mul-add (word % 2 ^ bits) (2 ^ (bits * symbols)) (turned_word bits symbols (word / 2 ^ bits)) (turned_below bits symbols (word / 2 ^ bits)))
        ∙ (mod-eq_of_lt (mod-lt word (pow_pos bits)) ∙ ap (λ n. n % 2 ^ bits) (sym (ap (λ n. word / 2 ^ n) none ∙ div_one word))))
      where
        div_one : (w : ℕ) → w / 2 ^ 0 ≡ w
        div_one w = omega arith

-- the turned word holds the symbols in the other order
pub turned_values : (side : Side) (word k : ℕ) → k < side.symbols → value_of (turned_side side) (turned_word side.symbol_bits side.symbols word) k ≡ value_of side word k
turned_values side word k h = by_order (cases_Bool side.first_high)
  where
    by_order : (side.first_high ≡ true) ⊎ (side.first_high ≡ false) → value_of (turned_side side) (turned_word side.symbol_bits side.symbols word) k ≡ value_of side word k
    by_order (inl high) = rw high (turned_place side.symbol_bits side.symbols word k h)
    by_order (inr low) =
        let back : side.symbols - 1 - (side.symbols - 1 - k) ≡ k = omega arith in
        rw low (turned_place side.symbol_bits side.symbols word (side.symbols - 1 - k) (omega arith) ∙ ap (λ n. word / 2 ^ (side.symbol_bits * n) % 2 ^ side.symbol_bits) back)

-- ---- words whose empty symbols are 0

pub cleared_kept : (side : Side) (beat : Beat) (i : ℕ) → side.first_high ≡ true → symbol_count side beat ≤ side.symbols → i < symbol_count side beat → value_of side (cleared_word side beat) i ≡ value_of side beat.word i
cleared_kept side beat i high most h = rw high (kept beat.word (side.symbols - symbol_count side beat) (side.symbols - 1 - i) (omega arith))
  where
    kept : (w e p : ℕ) → e ≤ p → w / 2 ^ (side.symbol_bits * e) * 2 ^ (side.symbol_bits * e) / 2 ^ (side.symbol_bits * p) % 2 ^ side.symbol_bits ≡ w / 2 ^ (side.symbol_bits * p) % 2 ^ side.symbol_bits
    kept w e p l =
        let split : p ≡ e + (p - e) = omega arith in
        let sum : side.symbol_bits * p ≡ side.symbol_bits * e + side.symbol_bits * (p - e) = ap (λ n. side.symbol_bits * n) split ∙ omega arith in
        let none : w / 2 ^ (side.symbol_bits * e) * 2 ^ (side.symbol_bits * e) ≡ w / 2 ^ (side.symbol_bits * e) * 2 ^ (side.symbol_bits * e) + 0 = omega arith in
        let whole : w / 2 ^ (side.symbol_bits * e) * 2 ^ (side.symbol_bits * e) / 2 ^ (side.symbol_bits * e) ≡ w / 2 ^ (side.symbol_bits * e) = ap (λ n. n / 2 ^ (side.symbol_bits * e)) none ∙ div-mul-add (w / 2 ^ (side.symbol_bits * e)) (2 ^ (side.symbol_bits * e)) 0 (pow_pos (side.symbol_bits * e)) in
        ap (λ n. w / 2 ^ (side.symbol_bits * e) * 2 ^ (side.symbol_bits * e) / 2 ^ n % 2 ^ side.symbol_bits) sum
        ∙ (ap (λ n. n % 2 ^ side.symbol_bits) (sym (shr-shr (w / 2 ^ (side.symbol_bits * e) * 2 ^ (side.symbol_bits * e)) (side.symbol_bits * e) (side.symbol_bits * (p - e))))
        ∙ (ap (λ n. n / 2 ^ (side.symbol_bits * (p - e)) % 2 ^ side.symbol_bits) whole
        ∙ (ap (λ n. n % 2 ^ side.symbol_bits) (shr-shr w (side.symbol_bits * e) (side.symbol_bits * (p - e))) ∙ ap (λ n. w / 2 ^ n % 2 ^ side.symbol_bits) (sym sum))))

pub cleared_empty : (side : Side) (beat : Beat) (i : ℕ) → side.first_high ≡ true → symbol_count side beat ≤ i → i < side.symbols → value_of side (cleared_word side beat) i ≡ 0
cleared_empty side beat i high above h = rw high (none (beat.word / 2 ^ (side.symbol_bits * (side.symbols - symbol_count side beat))) (side.symbols - symbol_count side beat) (side.symbols - 1 - i) (omega arith))
  where
    none : (x e p : ℕ) → p < e → x * 2 ^ (side.symbol_bits * e) / 2 ^ (side.symbol_bits * p) % 2 ^ side.symbol_bits ≡ 0
    none x e p l =
        let split : e ≡ (e - p - 1) + 1 + p = omega arith in
        let sum : side.symbol_bits * e ≡ side.symbol_bits * (e - p - 1) + side.symbol_bits + side.symbol_bits * p = ap (λ n. side.symbol_bits * n) split ∙ omega arith in
        let power : 2 ^ (side.symbol_bits * e) ≡ 2 ^ (side.symbol_bits * (e - p - 1)) * 2 ^ side.symbol_bits * 2 ^ (side.symbol_bits * p) =
        ap (λ n. 2 ^ n) sum ∙ (pow-add 2 (side.symbol_bits * (e - p - 1) + side.symbol_bits) (side.symbol_bits * p) ∙ ap (λ n. n * 2 ^ (side.symbol_bits * p)) (pow-add 2 (side.symbol_bits * (e - p - 1)) side.symbol_bits)) in
        let grouped : x * 2 ^ (side.symbol_bits * e) ≡ x * 2 ^ (side.symbol_bits * (e - p - 1)) * 2 ^ side.symbol_bits * 2 ^ (side.symbol_bits * p) + 0 =
        ap (λ n. x * n) power ∙ regroup x (2 ^ (side.symbol_bits * (e - p - 1))) (2 ^ side.symbol_bits) (2 ^ (side.symbol_bits * p)) in
        ap (λ n. n / 2 ^ (side.symbol_bits * p) % 2 ^ side.symbol_bits) grouped
        ∙ (ap (λ n. n % 2 ^ side.symbol_bits) (div-mul-add (x * 2 ^ (side.symbol_bits * (e - p - 1)) * 2 ^ side.symbol_bits) (2 ^ (side.symbol_bits * p)) 0 (pow_pos (side.symbol_bits * p)))
        ∙ mul-mod_left (x * 2 ^ (side.symbol_bits * (e - p - 1))) (2 ^ side.symbol_bits))
      where
        regroup : (x a b q : ℕ) → x * (a * b * q) ≡ x * a * b * q + 0
        regroup x a b q = omega arith
