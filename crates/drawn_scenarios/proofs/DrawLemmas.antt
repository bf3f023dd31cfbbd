-- One draw behind another, turn by turn.
use Rattle.std.proofs.Common.{◌≡◌, ℕ, zero, suc, ◌+◌, ◌-◌, ◌*◌, ◌/◌, ◌%◌, ◌^◌, ◌<◌, ◌≤◌, Bool, true, false, cond, List, [], ◌∷◌, ◌++◌, length, drop, refl, sym, ap, subst, ◌∙◌, append_assoc, arith}
use Rattle.std.specs.Prelude.{All, slice_get, Some}
use Rattle.std.specs.List.{range_with_len}
use Rattle.std.proofs.Math.Nat.{mod-add-mod, mod-lt, pow-le-pow_right}
use Rattle.std.proofs.lemmas.Nat.{pow-add, row_fits}
use Rattle.std.proofs.lemmas.List.{append-nil, drop_all}
use Rattle.std.proofs.lemmas.Option.{same_Some, none-some}
use Rattle.drawn_scenarios.specs.Draws.{Draws, draw, repeated, for_each, word_behind, word_of}

-- the two steps of the generator in machine words are its one step
pub draw_is : (bound state : ℕ) → ◌≡◌ {A = ℕ × ℕ} ((6364136223846793005 * state % 2 ^ 64 + 1442695040888963407) % 2 ^ 64 / 2 ^ 33 % bound, (6364136223846793005 * state % 2 ^ 64 + 1442695040888963407) % 2 ^ 64) (draw bound state)
unfolding draw
draw_is bound state = let P : ℕ → ℕ × ℕ = λ n. (n / 2 ^ 33 % bound, n) in ap P (mod-add-mod (6364136223846793005 * state) (2 ^ 64) 1442695040888963407)

pub draw_small : (bound state : ℕ) → 0 < bound → (draw bound state).0 < bound
unfolding draw
draw_small bound state some = mod-lt _ some

-- items that are there, before those that are drawn
abbrev pub prepended : {X : Type 0} → List X → List X × ℕ → List X × ℕ
prepended there drawn = (there ++ drawn.0, drawn.1)

abbrev joined : {X : Type 0} → X × ℕ → Draws (List X) → List X × ℕ
joined first rest = (first.0 ∷ (rest first.1).0, (rest first.1).1)

joined_turn : {X : Type 0} (first : X × ℕ) (rest : Draws (List X)) (there : List X) (x : X) (to : ℕ) → (x, to) ≡ first → prepended there (joined first rest) ≡ prepended (there ++ x ∷ []) (rest to)
joined_turn {X} first rest there x to e =
    let P : X × ℕ → List X × ℕ = λ p. prepended there (joined p rest) in
    let Q : List X → List X × ℕ = λ l. (l, (rest to).1) in
    ap P (sym e) ∙ ap Q (sym (append_assoc there (x ∷ []) (rest to).0))

-- one item of a list
pub turn : {X Y : Type 0} (each : X → Draws Y) (xs : List X) (k : ℕ) (x : X) (there : List Y) (y : Y) (from to : ℕ) → slice_get xs k ≡ Some x → (y, to) ≡ each x from
    → prepended there (for_each each (drop k xs) from) ≡ prepended (there ++ y ∷ []) (for_each each (drop (suc k) xs) to)
turn each [] k x there y from to at e = absurd (none-some x at)
turn each (z ∷ xs) zero x there y from to at e = joined_turn (each z from) (for_each each xs) there y to (e ∙ ap (λ w. each w from) (sym (same_Some z x at)))
turn each (z ∷ xs) (suc k) x there y from to at e = turn each xs k x there y from to at e

-- one of so many times
pub repeat_turn : {X : Type 0} (each : Draws X) (n k : ℕ) (there : List X) (x : X) (from to : ℕ) → k < n → (x, to) ≡ each from
    → prepended there (repeated (n - k) each from) ≡ prepended (there ++ x ∷ []) (repeated (n - (k + 1)) each to)
unfolding repeated
repeat_turn each n k there x from to less e =
    let more : n - k ≡ suc (n - (k + 1)) = omega arith in
    rw more (joined_turn (each from) (repeated (n - (k + 1)) each) there x to e)

pub all_cons : {X : Type 0} (P : X → Type 0) (x : X) (xs : List X) → P x → All P xs → All P (x ∷ xs)
all_cons P x xs first others zero d less = first
all_cons P x xs first others (suc k) d less = others k d (omega arith)

-- ---- words

-- what is there, and what is drawn behind it
abbrev pub added : ℕ → ℕ × ℕ → ℕ × ℕ
added there drawn = (there + drawn.0, drawn.1)

-- one symbol of a word
pub word_turn : (first_high : Bool) (bits bound n k there symbol from to : ℕ) → k < n → (symbol, to) ≡ draw bound from
    → added there (word_behind first_high bits bound k (n - k) from) ≡ added (there + symbol * 2 ^ (bits * cond first_high (n - (k + 1)) k)) (word_behind first_high bits bound (k + 1) (n - (k + 1)) to)
unfolding word_behind
word_turn first_high bits bound n k there symbol from to less e =
    let more : n - k ≡ suc (n - (k + 1)) = omega arith in
    let next : k + 1 ≡ suc k = omega arith in
    let rest : ℕ → ℕ × ℕ = word_behind first_high bits bound (k + 1) (n - (k + 1)) in
    let P : ℕ × ℕ → ℕ × ℕ = λ p. (there + (p.0 * 2 ^ (bits * cond first_high (n - (k + 1)) k) + (rest p.1).0), (rest p.1).1) in
    let Q : ℕ → ℕ × ℕ = λ w. (w, (rest to).1) in
    let sums : there + (symbol * 2 ^ (bits * cond first_high (n - (k + 1)) k) + (rest to).0) ≡ there + symbol * 2 ^ (bits * cond first_high (n - (k + 1)) k) + (rest to).0 = omega arith in
    rw (more, ← next) (ap P (sym e) ∙ ap Q sums)

ap_le : (a b : ℕ) → a ≡ b → 0 + 2 ^ a ≤ 2 ^ b
ap_le a b e = let same : 2 ^ a ≡ 2 ^ b = ap (λ k. 2 ^ k) e in omega arith

low : (bits bound before later state : ℕ) → 0 < bound → bound ≤ 2 ^ bits → (word_behind false bits bound before later state).0 + 2 ^ (bits * before) ≤ 2 ^ (bits * (before + later))
unfolding word_behind
low bits bound before zero state some small = ap_le (bits * before) (bits * (before + 0)) (omega arith)
low bits bound before (suc later) state some small =
    let symbol = (draw bound state).0 in
    let others = low bits bound (suc before) later (draw bound state).1 some small in
    let drawn = draw_small bound state some in
    let row = row_fits symbol (2 ^ (bits * before)) (2 ^ bits) (2 ^ (bits * before)) (omega arith) (omega arith) in
    let next : 2 ^ (bits * suc before) ≡ 2 ^ bits * 2 ^ (bits * before) = ap (λ e. 2 ^ e) (let e : bits * suc before ≡ bits + bits * before = omega arith in e) ∙ pow-add 2 bits (bits * before) in
    let all : 2 ^ (bits * (suc before + later)) ≡ 2 ^ (bits * (before + suc later)) = ap (λ e. 2 ^ (bits * e)) (let e : suc before + later ≡ before + suc later = omega arith in e) in
    omega arith

high : (bits bound before later state : ℕ) → 0 < bound → bound ≤ 2 ^ bits → (word_behind true bits bound before later state).0 < 2 ^ (bits * later)
unfolding word_behind
high bits bound before zero state some small = let none : 2 ^ (bits * 0) ≡ 2 ^ 0 = ap (λ e. 2 ^ e) (let e : bits * 0 ≡ 0 = omega arith in e) in omega arith
high bits bound before (suc later) state some small =
    let symbol = (draw bound state).0 in
    let others = high bits bound (suc before) later (draw bound state).1 some small in
    let drawn = draw_small bound state some in
    let row = row_fits symbol (2 ^ (bits * later)) (2 ^ bits) (2 ^ (bits * later)) (omega arith) (omega arith) in
    let next : 2 ^ (bits * suc later) ≡ 2 ^ bits * 2 ^ (bits * later) = ap (λ e. 2 ^ e) (let e : bits * suc later ≡ bits + bits * later = omega arith in e) ∙ pow-add 2 bits (bits * later) in
    omega arith

-- a word has so many bits
pub word_fits : (first_high : Bool) (bits bound symbols state : ℕ) → 0 < bound → bound ≤ 2 ^ bits → (word_of first_high bits bound symbols state).0 < 2 ^ (bits * symbols)
word_fits false bits bound symbols state some small =
    let low_is = low bits bound 0 symbols state some small in
    let none : 2 ^ (bits * 0) ≡ 1 = ap (λ e. 2 ^ e) (let e : bits * 0 ≡ 0 = omega arith in e) in
    let all : 2 ^ (bits * (0 + symbols)) ≡ 2 ^ (bits * symbols) = ap (λ e. 2 ^ (bits * e)) (let e : 0 + symbols ≡ symbols = omega arith in e) in
    omega arith
word_fits true bits bound symbols state some small = high bits bound 0 symbols state some small

-- the place of a symbol, as it is computed
pub place_high : (first_high : Bool) (n k place : ℕ) → first_high ≡ true → place ≡ n - 1 - k → place ≡ cond first_high (n - (k + 1)) k
place_high first_high n k place high_is is = let same : n - 1 - k ≡ n - (k + 1) = omega arith in rw high_is (is ∙ same)

pub place_low : (first_high : Bool) (n k place : ℕ) → first_high ≡ false → place ≡ k → place ≡ cond first_high (n - (k + 1)) k
place_low first_high n k place low_is is = rw low_is is

-- a symbol is added to a word
pub word_more : (first_high : Bool) (bits bound n k there symbol place more from to : ℕ) (all : ℕ × ℕ) → k < n → (symbol, to) ≡ draw bound from → place ≡ cond first_high (n - (k + 1)) k → more ≡ symbol * 2 ^ (bits * place)
    → added there (word_behind first_high bits bound k (n - k) from) ≡ all → added (there + more) (word_behind first_high bits bound (k + 1) (n - (k + 1)) to) ≡ all
word_more first_high bits bound n k there symbol place more from to all less drawn place_is more_is before =
    let P : ℕ → ℕ × ℕ = λ m. added (there + m) (word_behind first_high bits bound (k + 1) (n - (k + 1)) to) in
    let Q : ℕ → ℕ = λ p. symbol * 2 ^ (bits * p) in
    ap P (more_is ∙ ap Q place_is) ∙ sym (word_turn first_high bits bound n k there symbol from to less drawn) ∙ before

-- so far it has room
pub word_room : (first_high : Bool) (bits bound n before later there from start : ℕ) → 0 < bound → bound ≤ 2 ^ bits → bits * n ≤ 128
    → added there (word_behind first_high bits bound before later from) ≡ word_of first_high bits bound n start → there < 2 ^ 128
word_room first_high bits bound n before later there from start some small few e =
    let first : ℕ × ℕ → ℕ = λ p. p.0 in
    let sum : there + (word_behind first_high bits bound before later from).0 ≡ (word_of first_high bits bound n start).0 = ap first e in
    let fits = word_fits first_high bits bound n start some small in
    let room : 2 ^ (bits * n) ≤ 2 ^ 128 = pow-le-pow_right (omega arith) few in
    omega arith

pub word_done : (first_high : Bool) (bits bound n k there from : ℕ) (all : ℕ × ℕ) → n ≤ k → added there (word_behind first_high bits bound k (n - k) from) ≡ all → (there, from) ≡ all
unfolding word_behind
word_done first_high bits bound n k there from all done e =
    let none : n - k ≡ 0 = omega arith in
    let P : ℕ → Type 0 = λ m. added there (word_behind first_high bits bound k m from) ≡ all in
    let at_end : (there + 0, from) ≡ all = subst P none e in
    let Q : ℕ → ℕ × ℕ = λ m. (m, from) in
    ap Q (let same : there ≡ there + 0 = omega arith in same) ∙ at_end

pub repeat_done : {X : Type 0} (each : Draws X) (n k : ℕ) (there : List X) (from : ℕ) (all : List X × ℕ) → n ≤ k → prepended there (repeated (n - k) each from) ≡ all → (there, from) ≡ all
unfolding repeated
repeat_done {X} each n k there from all done e =
    let none : n - k ≡ 0 = omega arith in
    let P : ℕ → Type 0 = λ m. prepended there (repeated m each from) ≡ all in
    let at_end : (there ++ [], from) ≡ all = subst P none e in
    let Q : List X → List X × ℕ = λ m. (m, from) in
    ap Q (sym (append-nil there)) ∙ at_end

-- one more of so many times
pub repeat_more : {X : Type 0} (each : Draws X) (n k : ℕ) (there more : List X) (x : X) (from to : ℕ) (all : List X × ℕ) → k < n → (x, to) ≡ each from → more ≡ there ++ x ∷ []
    → prepended there (repeated (n - k) each from) ≡ all → prepended more (repeated (n - (k + 1)) each to) ≡ all
repeat_more {X} each n k there more x from to all less e pushed before =
    let P : List X → List X × ℕ = λ l. prepended l (repeated (n - (k + 1)) each to) in
    ap P pushed ∙ sym (repeat_turn each n k there x from to less e) ∙ before

-- one more item of a list
pub each_more : {X Y : Type 0} (each : X → Draws Y) (xs : List X) (k : ℕ) (x : X) (there more : List Y) (y : Y) (from to : ℕ) (all : List Y × ℕ) → slice_get xs k ≡ Some x → (y, to) ≡ each x from
    → more ≡ there ++ y ∷ [] → prepended there (for_each each (drop k xs) from) ≡ all → prepended more (for_each each (drop (k + 1) xs) to) ≡ all
each_more {X} {Y} each xs k x there more y from to all at e pushed before =
    let P : List Y → List Y × ℕ = λ l. prepended l (for_each each (drop (k + 1) xs) to) in
    let Q : ℕ → List Y × ℕ = λ j. prepended (there ++ y ∷ []) (for_each each (drop j xs) to) in
    let next : k + 1 ≡ suc k = omega arith in
    ap P pushed ∙ ap Q next ∙ sym (turn each xs k x there y from to at e) ∙ before

pub each_done : {X Y : Type 0} (each : X → Draws Y) (xs : List X) (k : ℕ) (there : List Y) (from : ℕ) (all : List Y × ℕ) → length xs ≤ k → prepended there (for_each each (drop k xs) from) ≡ all → (there, from) ≡ all
each_done {X} {Y} each xs k there from all done e =
    let P : List X → Type 0 = λ l. prepended there (for_each each l from) ≡ all in
    let at_end : (there ++ [], from) ≡ all = subst P (drop_all k xs done) e in
    let Q : List Y → List Y × ℕ = λ m. (m, from) in
    ap Q (sym (append-nil there)) ∙ at_end

-- one draw behind another
pub behind : {X Y : Type 0} (first : Draws X) (next : X → Draws Y) (from : ℕ) (x : X) (to : ℕ) (out : Y × ℕ) → (x, to) ≡ first from → out ≡ next x to → out ≡ next (first from).0 (first from).1
behind {X} {Y} first next from x to out e then_is = let P : X × ℕ → Y × ℕ = λ p. next p.0 p.1 in then_is ∙ ap P e

pub each_first : {X Y : Type 0} (each : X → Draws Y) (xs : List X) (there : List Y) (from : ℕ) → there ≡ [] → prepended there (for_each each xs from) ≡ for_each each xs from
each_first each xs there from none = rw none refl

pub wider : (few many : ℕ) → few ≤ many → 2 ^ few ≤ 2 ^ many
wider few many more = pow-le-pow_right (omega arith) more

range_from : (a n k : ℕ) → k < n → slice_get (range_with_len a n) k ≡ Some (a + k)
range_from a zero k less = absurd (omega arith)
range_from a (suc n) zero less = let same : a ≡ a + 0 = omega arith in ap Some same
range_from a (suc n) (suc k) less = let same : a + 1 + k ≡ a + suc k = omega arith in range_from (a + 1) n k (omega arith) ∙ ap Some same

pub range_at : (n k : ℕ) → k < n → slice_get (range_with_len 0 n) k ≡ Some k
range_at n k less = let same : 0 + k ≡ k = omega arith in range_from 0 n k less ∙ ap Some same

-- ---- what is drawn, item by item

pub repeated_count : {X : Type 0} (each : Draws X) (n from : ℕ) → length (repeated n each from).0 ≡ n
unfolding repeated
repeated_count each zero from = refl
repeated_count each (suc n) from = ap suc (repeated_count each n (each from).1)

pub repeated_keeps : {X : Type 0} (P : X → Type 0) (each : Draws X) → ((state : ℕ) → P (each state).0) → (n from : ℕ) → All P (repeated n each from).0
unfolding repeated
repeated_keeps P each keeps zero from = λ k d less. absurd (omega arith)
repeated_keeps P each keeps (suc n) from = all_cons P _ _ (keeps from) (repeated_keeps P each keeps n (each from).1)

pub each_count : {X Y : Type 0} (each : X → Draws Y) (xs : List X) (from : ℕ) → length (for_each each xs from).0 ≡ length xs
each_count each [] from = refl
each_count each (x ∷ xs) from = ap suc (each_count each xs (each x from).1)

-- an item that is drawn is that of some state
pub record IsDrawnFrom {X Y : Type 0} (each : X → Draws Y) (xs : List X) (k : ℕ) (y : Y) : Type 0 where
  pub item : X
  pub state : ℕ
  pub at : slice_get xs k ≡ Some item
  pub is : y ≡ (each item state).0

pub each_at : {X Y : Type 0} (each : X → Draws Y) (xs : List X) (from k : ℕ) (y : Y) → slice_get (for_each each xs from).0 k ≡ Some y → IsDrawnFrom each xs k y
each_at each [] from k y at = absurd (none-some y at)
each_at each (x ∷ xs) from zero y at = record { item = x; state = from; at = refl; is = sym (same_Some _ y at) }
each_at each (x ∷ xs) from (suc k) y at =
    let h = each_at each xs (each x from).1 k y at in
    record { item = h.item; state = h.state; at = h.at; is = h.is }
