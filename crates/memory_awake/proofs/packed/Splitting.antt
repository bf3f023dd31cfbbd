-- Between equal words a splitter sends each beat as one piece, or leaves it out where it has no operation.
use Rattle.std.proofs.Common.{ℕ, zero, suc, ◌<◌, ◌≤◌, ◌≡◌, ◌+◌, ◌-◌, ◌*◌, ◌/◌, ◌%◌, ◌^◌, min, Bool, true, false, not, ◌&&◌, ◌||◌, List, [], ◌∷◌, if◌then◌else◌, arith, refl, sym, ap, ap₂, subst, ◌∙◌, length, map, filter, flat_map, nat_eq, nat_lt, Some, slice_get, zero-mul, one-mul, mul-le-mul_right}
use Rattle.std.specs.List.{list_any}
use Rattle.std.proofs.lemmas.Bool.{and_parts, eqb-true, false≢true}
use Rattle.std.proofs.lemmas.Nat.{pow-add, div-mul-add, mod-mul-add}
use Rattle.std.proofs.Math.Arith.{mod-mul}
use Rattle.std.proofs.Math.Nat.{div-one, div_self, mod-lt, one-le-pow, pow-suc, zero-div}
use Rattle.histories.specs.History.{is_raised, numbers, IsPrefix}
use Rattle.histories.specs.Laws.{prefix_refl}
use Rattle.memory_runs.specs.Views.{Shape, Levels, levels_at}
use Rattle.memory_runs.specs.Operations.{Beat, is_enabled, pieces}
use Rattle.memory_runs.specs.Commands.{is_of_reads, shows}
use Rattle.memory_machines.specs.Link.{Target, Port, AreLegalAt, takes, taken_at}
use Rattle.memory_machines.specs.Machines.{MaySplit, Raw, raw_at, beat_of, is_touched, joined, or_first, piece_of, single}
use Rattle.memory_machines.specs.SideLaws.{fit_when_shown}
use Rattle.memory_links.specs.Packs.{acting, beat_sizes}
use Rattle.memory_links.specs.Splits.{SplitState, RunsAsSplit, opens, split_at}
use Rattle.memory_awake.specs.Packed.{KeepsSizes}
use Rattle.memory_awake.proofs.packed.Sizes.{each_of, filled_are, lanes_of, none_act, read_begins, same_acting, same_words, sizes_at, sizes_now, sizes_taken}

-- ---- the lanes of a piece that is the whole word

low_digit : (y i k : ℕ) → ((y % 2 ^ (suc k + i)) / 2 ^ i) % 2 ≡ (y / 2 ^ i) % 2
low_digit y i k =
    let two : 0 < 2 = omega arith in
    let low : 0 < 2 ^ i = one-le-pow i 2 two in
    let high : 0 < 2 ^ suc k = one-le-pow (suc k) 2 two in
    let some : 0 < 2 ^ k = one-le-pow k 2 two in
    let parts : y % 2 ^ (suc k + i) ≡ (y / 2 ^ i % 2 ^ suc k) * 2 ^ i + y % 2 ^ i = ap (λ n. y % n) (pow-add 2 (suc k) i) ∙ mod-mul y high low in
    let cut : (y % 2 ^ (suc k + i)) / 2 ^ i ≡ y / 2 ^ i % 2 ^ suc k = ap (λ n. n / 2 ^ i) parts ∙ div-mul-add (y / 2 ^ i % 2 ^ suc k) (2 ^ i) (y % 2 ^ i) (mod-lt y low) in
    let last : y / 2 ^ i % 2 ^ suc k ≡ (y / 2 ^ i / 2 % 2 ^ k) * 2 + y / 2 ^ i % 2 = ap (λ n. y / 2 ^ i % n) (pow-suc 2 k) ∙ mod-mul (y / 2 ^ i) some two in
    ap (λ n. n % 2) (cut ∙ last) ∙ mod-mul-add (y / 2 ^ i / 2 % 2 ^ k) 2 (y / 2 ^ i % 2) (mod-lt (y / 2 ^ i) two)

low_lane : (y n lane : ℕ) → lane < n → is_enabled (y % 2 ^ n) lane ≡ is_enabled y lane
low_lane y n lane low =
    let k = n - lane - 1 in
    let e : n ≡ suc k + lane = omega (arith, low) in
    ap (λ n. nat_eq ((y % 2 ^ n / 2 ^ lane) % 2) 1) e ∙ ap (λ d. nat_eq d 1) (low_digit y lane k)

same_filter : (f g : ℕ → Bool) (first count : ℕ) → ((lane : ℕ) → lane < first + count → f lane ≡ g lane) → filter f (numbers first count) ≡ filter g (numbers first count)
same_filter f g first zero same = refl
same_filter f g first (suc count) same =
    ap₂ (λ b l. if b then first ∷ l else l) (same first (omega arith)) (same_filter f g (suc first) count (λ lane low. same lane (omega (arith, low))))

same_any : (f g : ℕ → Bool) (first count : ℕ) → ((lane : ℕ) → lane < first + count → f lane ≡ g lane) → list_any f (numbers first count) ≡ list_any g (numbers first count)
same_any f g first zero same = refl
same_any f g first (suc count) same = ap₂ (λ b x. b || x) (same first (omega arith)) (same_any f g (suc first) count (λ lane low. same lane (omega (arith, low))))

none_set : (lanes : List ℕ) → filter (is_enabled 0) lanes ≡ []
none_set [] = refl
none_set (lane ∷ lanes) = ap (λ b. if b then lane ∷ filter (is_enabled 0) lanes else filter (is_enabled 0) lanes) (ap (λ n. nat_eq (n % 2) 1) (zero-div (2 ^ lane))) ∙ none_set lanes

none_any : (lanes : List ℕ) → list_any (is_enabled 0) lanes ≡ false
none_any [] = refl
none_any (lane ∷ lanes) = ap (λ b. b || list_any (is_enabled 0) lanes) (ap (λ n. nat_eq (n % 2) 1) (zero-div (2 ^ lane))) ∙ none_any lanes

module _ (target : Target) (shape : Shape) (same : shape.word_bytes ≡ target.shape.word_bytes) (some : 0 < target.shape.word_bytes) where
  abbrev chosen : List ℕ → Bool → ℕ
  chosen enabled any = length (if target.shape.has_enables then enabled else if any then numbers 0 target.shape.word_bytes else [])

  lanes_are : (enables : ℕ) → lanes_of target shape enables ≡ chosen (filter (is_enabled enables) (numbers 0 target.shape.word_bytes)) (list_any (is_enabled enables) (numbers 0 target.shape.word_bytes))
  lanes_are enables = ap length (filled_are shape target.shape enables same some)

  low_lanes : (enables : ℕ) → lanes_of target shape (enables % 2 ^ target.shape.word_bytes) ≡ lanes_of target shape enables
  low_lanes enables =
      lanes_are (enables % 2 ^ target.shape.word_bytes)
      ∙ ap₂ chosen (same_filter (is_enabled (enables % 2 ^ target.shape.word_bytes)) (is_enabled enables) 0 target.shape.word_bytes (λ lane low. low_lane enables target.shape.word_bytes lane (omega (arith, low))))
      (same_any (is_enabled (enables % 2 ^ target.shape.word_bytes)) (is_enabled enables) 0 target.shape.word_bytes (λ lane low. low_lane enables target.shape.word_bytes lane (omega (arith, low))))
      ∙ sym (lanes_are enables)

  no_lanes : lanes_of target shape 0 ≡ 0
  no_lanes = lanes_are 0 ∙ ap₂ chosen (none_set (numbers 0 target.shape.word_bytes)) (none_any (numbers 0 target.shape.word_bytes)) ∙ by_has target.shape.has_enables
    where
      by_has : (b : Bool) → length {A = ℕ} (if b then [] else []) ≡ 0
      by_has true = refl
      by_has false = refl

-- ---- the piece of a beat

-- where the wide word is no larger than the agent's, there is one piece
split_words : (target : Target) (wide narrow : Shape) (count : ℕ) → MaySplit target wide narrow count → wide.word_bytes ≤ target.shape.word_bytes → wide.word_bytes ≡ narrow.word_bytes
split_words target wide narrow count may fits =
    let one : 1 * narrow.word_bytes ≤ count * narrow.word_bytes = mul-le-mul_right narrow.word_bytes may.one in
    let whole = may.whole in
    let same = may.same in
    let least = one-mul narrow.word_bytes in
    omega (arith, one, whole, same, least, fits)

pub split_equal : (target : Target) (wide narrow : Shape) (count : ℕ) → MaySplit target wide narrow count → wide.word_bytes ≤ target.shape.word_bytes → wide.word_bytes ≡ target.shape.word_bytes
split_equal target wide narrow count may fits = split_words target wide narrow count may fits ∙ may.same

module _ (target : Target) (room count : ℕ) (up down : Port) (state : SplitState) (end : ℕ) (may : MaySplit target up.shape down.shape count) (run : RunsAsSplit room up down state) (legal : AreLegalAt up end)
    (narrow : up.shape.word_bytes ≤ target.shape.word_bytes) where
  words : up.shape.word_bytes ≡ down.shape.word_bytes
  words = split_words target up.shape down.shape count may narrow

  equal : up.shape.word_bytes ≡ target.shape.word_bytes
  equal = split_equal target up.shape down.shape count may narrow

  some : 0 < target.shape.word_bytes
  some = (let low = may.some in let same = may.same in omega (arith, low, same))

  one_piece : pieces up.shape down.shape ≡ 1
  one_piece =
      let least : min up.shape.word_bytes down.shape.word_bytes ≡ down.shape.word_bytes = omega (arith, words) in
      ap₂ (λ a b. a / b) words least ∙ div_self may.some

  abbrev levels : ℕ → Levels
  levels c = levels_at up.commands.signals c

  abbrev lanes : ℕ → ℕ
  lanes c = lanes_of target up.shape (up.commands.enables c)

  abbrev beat_at : ℕ → Beat
  beat_at c = beat_of up.shape (levels c)

  abbrev piece_at : ℕ → Beat
  piece_at c = piece_of down.shape.word_bytes (beat_at c) 0

  piece_enables : (c : ℕ) → (piece_at c).enables ≡ up.commands.enables c % 2 ^ target.shape.word_bytes
  piece_enables c =
      ap (λ n. (up.commands.enables c / 2 ^ n) % 2 ^ down.shape.word_bytes) (zero-mul down.shape.word_bytes)
      ∙ ap (λ n. n % 2 ^ down.shape.word_bytes) (div-one (up.commands.enables c)) ∙ ap (λ n. up.commands.enables c % 2 ^ n) may.same

  piece_lanes : (c : ℕ) → lanes_of target up.shape (piece_at c).enables ≡ lanes c
  piece_lanes c = ap (lanes_of target up.shape) (piece_enables c) ∙ low_lanes target up.shape equal some (up.commands.enables c)

  -- what is sent for the beat that stands: nothing, of a write without an operation, or one beat with the same operations
  data Sends (c : ℕ) : List Raw → Type 0 where
    nothing : lanes c ≡ 0 → Sends c []
    one : (r : Raw) → sizes_now target up.shape r.levels ≡ lanes c ∷ [] → Sends c (r ∷ [])

  single_sizes : (c tag more : ℕ) → sizes_now target up.shape (single tag more (piece_at c)).levels ≡ lanes c ∷ []
  single_sizes c tag more = by_kind (is_of_reads (beat_at c).kind) ∙ ap (λ n. n ∷ []) (piece_lanes c)
    where
      by_kind : (b : Bool) → (if is_raised (if b then 0 else 1) then lanes_of target up.shape (piece_at c).enables ∷ [] else map (λ _. lanes_of target up.shape (piece_at c).enables) (numbers 0 1)) ≡ lanes_of target up.shape (piece_at c).enables ∷ []
      by_kind true = refl
      by_kind false = refl

  sends : (c : ℕ) → Sends c (split_at up down c)
  sends c = subst (λ n. Sends c (joined (up.commands.tag c) (up.commands.more c) (or_first down.shape needed (beat_at c) (filter is_touched (map (piece_of down.shape.word_bytes (beat_at c)) (numbers 0 n)))))) (sym one_piece)
      (by_touch (is_touched (piece_at c)) refl needed)
    where
      needed : Bool
      needed = not (is_raised (up.commands.more c)) || not (is_raised (up.commands.write c))

      by_touch : (b : Bool) → is_touched (piece_at c) ≡ b → (n : Bool) → Sends c (joined (up.commands.tag c) (up.commands.more c) (or_first down.shape n (beat_at c) (if is_touched (piece_at c) then piece_at c ∷ [] else [])))
      by_touch true e n = rw e (one (single (up.commands.tag c) (up.commands.more c) (piece_at c)) (single_sizes c (up.commands.tag c) (up.commands.more c)))
      by_touch false e true = rw e (one (single (up.commands.tag c) (up.commands.more c) (piece_at c)) (single_sizes c (up.commands.tag c) (up.commands.more c)))
      by_touch false e false = rw e (nothing (sym (piece_lanes c) ∙ ap (lanes_of target up.shape) (untouched (nat_eq (piece_at c).enables 0) refl e) ∙ no_lanes target up.shape equal some))
        where
          untouched : (b : Bool) → nat_eq (piece_at c).enables 0 ≡ b → not b ≡ false → (piece_at c).enables ≡ 0
          untouched true same f = eqb-true (piece_at c).enables 0 same
          untouched false same f = cc

  -- ---- one cycle

  abbrev ready : ℕ → Bool
  ready c = shows up.commands.signals c && opens room up down state c

  -- the one piece that is taken below is the last one
  down_up : (c : ℕ) → state.place c ≡ 0 → takes down c ≡ true → takes up c ≡ true
  down_up c first t = run.accepts c ∙ by_sent (split_at up down c) (sends c) (sym (run.shown c) ∙ (and_parts (shows down.commands.signals c) _ t).0)
    where
      by_sent : (l : List Raw) → Sends c l → (ready c && nat_lt (state.place c) (length l)) ≡ true → (ready c && (nat_eq (length l) 0 || (takes down c && nat_eq (suc (state.place c)) (length l)))) ≡ true
      by_sent [] s shown =
          let none : nat_lt 0 0 ≡ true = ap (λ n. nat_lt n 0) (sym first) ∙ (and_parts (ready c) (nat_lt (state.place c) 0) shown).1 in
          cc
      by_sent (r ∷ []) s shown = ap₂ (λ a n. a && (false || (takes down c && nat_eq (suc n) 1))) (and_parts (ready c) (nat_lt (state.place c) 1) shown).0 first ∙ ap (λ b. true && (false || (b && true))) t
      by_sent (r ∷ q ∷ rs) x shown = elim x [ ]

  place_is : (c : ℕ) → state.place c ≡ 0
  place_is zero = run.place_begins
  place_is (suc c) = run.place_next c ∙ by_takes (place_is c) (takes up c) refl (takes down c) refl
    where
      by_takes : state.place c ≡ 0 → (u : Bool) → takes up c ≡ u → (t : Bool) → takes down c ≡ t → (if u then 0 else if t then suc (state.place c) else state.place c) ≡ 0
      by_takes first true e t f = refl
      by_takes first false e true f = let taken = down_up c first f in absurd (false≢true (sym e ∙ taken))
      by_takes first false e false f = first

  one_each : (c : ℕ) → c < end → takes up c ≡ true → each_of (levels c) (lanes c) ≡ lanes c ∷ []
  one_each c low taken = by_write (is_raised (up.commands.write c)) refl
    where
      by_write : (w : Bool) → is_raised (up.commands.write c) ≡ w → (if w then lanes c ∷ [] else map (λ _. lanes c) (numbers 0 (up.commands.count c))) ≡ lanes c ∷ []
      by_write true e = refl
      by_write false e =
          let free = read_begins up end c legal low taken e in
          let fit = fit_when_shown up end c legal low (and_parts (shows up.commands.signals c) _ taken).0 in
          let least = fit.least free in
          let most : up.commands.count c ≤ 2 ^ (1 - 1) = subst (λ b. up.commands.count c ≤ 2 ^ (b - 1)) may.one_beat (fit.most free) in
          let single : up.commands.count c ≡ 1 = omega (arith, least, most) in
          ap (λ n. map (λ _. lanes c) (numbers 0 n)) single

  same_now : (c : ℕ) → c < end → acting (sizes_at target up.shape down c) ≡ acting (sizes_at target up.shape up c)
  same_now c low = by_down (takes down c) refl (takes up c) refl
    where
      raw_is : (l : List Raw) → Sends c l → slice_get l (state.place c) ≡ Some (raw_at down c) → sizes_now target up.shape (levels_at down.commands.signals c) ≡ lanes c ∷ []
      raw_is [] s e = let none : slice_get [] 0 ≡ Some (raw_at down c) = ap (slice_get []) (sym (place_is c)) ∙ e in cc
      raw_is (r ∷ []) (one same sizes) e =
          let it : slice_get (r ∷ []) 0 ≡ Some (raw_at down c) = ap (slice_get (r ∷ [])) (sym (place_is c)) ∙ e in
          let is : raw_at down c ≡ r = cc in
          ap (λ (r : Raw). sizes_now target up.shape r.levels) is ∙ sizes
      raw_is (r ∷ q ∷ rs) x e = elim x [ ]

      none_left : (l : List Raw) → Sends c l → (ready c && (nat_eq (length l) 0 || (false && nat_eq (suc (state.place c)) (length l)))) ≡ true → lanes c ≡ 0
      none_left [] (nothing none) e = none
      none_left (r ∷ []) s e = let stays = (and_parts (ready c) false e).1 in cc
      none_left (r ∷ q ∷ rs) x e = elim x [ ]

      by_down : (t : Bool) → takes down c ≡ t → (u : Bool) → takes up c ≡ u → acting (sizes_at target up.shape down c) ≡ acting (sizes_at target up.shape up c)
      by_down true t u e =
          let taken = down_up c (place_is c) t in
          let below = raw_is (split_at up down c) (sends c) (run.part c (and_parts (shows down.commands.signals c) _ t).0) in
          rw (t, taken) (ap acting (below ∙ sym (one_each c low taken)))
      by_down false t true e =
          let none = none_left (split_at up down c) (sends c) (sym (run.accepts c ∙ ap (λ b. ready c && (nat_eq (length (split_at up down c)) 0 || (b && nat_eq (suc (state.place c)) (length (split_at up down c))))) t) ∙ e) in
          rw (t, e) (sym (none_act (levels c) (lanes c) none))
      by_down false t false e = rw (t, e) refl

  pub split_keeps : KeepsSizes target up down end
  split_keeps c h =
      let same : acting (flat_map (beat_sizes target down.shape) (taken_at down c)) ≡ acting (flat_map (beat_sizes target up.shape) (taken_at up c)) =
      ap acting (same_words target down.shape up.shape (sym words) (taken_at down c) ∙ sizes_taken target up.shape down c)
      ∙ same_acting (sizes_at target up.shape down) (sizes_at target up.shape up) c (λ k low. same_now k (omega (arith, low, h)))
      ∙ sym (ap acting (sizes_taken target up.shape up c)) in
      subst (λ l. IsPrefix l (acting (flat_map (beat_sizes target up.shape) (taken_at up c)))) (sym same) (prefix_refl _)
