-- Where the empty symbols of wide beats are 0, those of their parts are.
use Rattle.std.proofs.Common.{◌≡◌, ℕ, zero, suc, ◌+◌, ◌-◌, ◌*◌, ◌/◌, ◌%◌, ◌^◌, ◌<◌, ◌≤◌, Bool, true, false, not, ◌&&◌, ◌==◌, if◌then◌else◌, IsTrue, List, [], ◌∷◌, drop, refl, sym, subst, ap, ◌∙◌, arith, ◌⊎◌, inl, inr}
use Rattle.std.proofs.lemmas.Bool.{ltb-false, cases_lt, and_parts}
use Rattle.std.proofs.Math.Nat.{mod-le}
use Rattle.netlist.specs.Nets.{NetValue}
use Rattle.netlist.specs.Netlists.{Netlist}
use Rattle.netlist.specs.Runs.{Run, cycle_of, IsEndlessRun}
use Rattle.stream_runs.specs.View.{EndView, Side, Beat}
use Rattle.stream_runs.specs.Symbols.{symbol_count, value_of}
use Rattle.stream_machines.specs.Stage.{Shape}
use Rattle.stream_machines.specs.Parts.{is_none, pieces_now, of_symbols}
use Rattle.stream_machines.specs.Words.{HasClearEmpty}
use Rattle.stage_core.specs.declared.beat.BeatNets.{BeatNets}
use Rattle.stage_core.specs.Beats.{view_of, beat_in}
use Rattle.stage_core.specs.Groups.{Shown, shown_in}
use Rattle.st_format.specs.declared.sizes.Sizes.{Sizes}
use Rattle.st_format.specs.declared.narrow.NarrowKept.{NarrowKept}
use Rattle.st_format.specs.Counted.{counted, counted_beat}
use Rattle.st_format.specs.NarrowNets.{IsNarrowShape, NarrowForward, NarrowBackward, has_more, piece_of, rest_of, shown_piece, laid_above, shown_now}
use Rattle.stream_machines.specs.Words.{ShowsClear}
use Rattle.st_format.proofs.NarrowLaw.{left_of, parts_of, none_left, shown, to_send as to_send_is, goes, moved}
use Rattle.st_format.proofs.PartsLemmas.{split, split_some, parts_sum, rest_empty}
use Rattle.st_format.proofs.SymbolLemmas.{cut_symbol, shifted_symbol, shifted_none, high_value}

abbrev pub PartsFit : Type 0
PartsFit = (word bits size part place : ℕ) → place < size → word / 2 ^ (bits * (size * part)) % 2 ^ (bits * size) / 2 ^ (bits * place) % 2 ^ bits ≡ word / 2 ^ (bits * (size * part + place)) % 2 ^ bits

module _ (sizes : Sizes) (side : Side) (symbols_are : side.symbols ≡ sizes.symbols * sizes.parts) (bits_are : side.symbol_bits ≡ sizes.bits) (high : side.first_high ≡ true) where
  abbrev behind : ℕ
  behind = sizes.symbols * (sizes.parts - 1)

  -- a symbol of the first part is that of the whole
  piece_value : PartsFit → (x : Beat) (k : ℕ) → k < sizes.symbols → value_of (of_symbols side sizes.symbols) (piece_of sizes x).word k ≡ value_of side x.word k
  piece_value fit x k below =
      let sum = parts_sum sizes in
      let place : behind + (sizes.symbols - 1 - k) ≡ side.symbols - 1 - k = omega (arith, sum, symbols_are, below) in
      high_value (of_symbols side sizes.symbols) (piece_of sizes x).word k high
      ∙ ap (λ n. (piece_of sizes x).word / 2 ^ (n * (sizes.symbols - 1 - k)) % 2 ^ n) bits_are
      ∙ fit x.word sizes.bits sizes.symbols (sizes.parts - 1) (sizes.symbols - 1 - k) (omega (arith, below))
      ∙ ap (λ n. x.word / 2 ^ (sizes.bits * n) % 2 ^ sizes.bits) place
      ∙ ap (λ n. x.word / 2 ^ (n * (side.symbols - 1 - k)) % 2 ^ n) (sym bits_are)
      ∙ sym (high_value side x.word k high)

  pub piece_clear : PartsFit → (x : Beat) → HasClearEmpty side x → HasClearEmpty (of_symbols side sizes.symbols) (piece_of sizes x)
  piece_clear fit x clear k from below = piece_value fit x k below ∙ clear k (by_more (has_more sizes x) refl from) (omega (arith, below, sum, symbols_are))
    where
      sum : behind + sizes.symbols ≡ sizes.symbols * sizes.parts
      sum = parts_sum sizes

      by_last : (l : Bool) → behind ≤ x.empty → (if l then sizes.symbols - (x.empty - behind) else sizes.symbols) ≤ k → (if l then side.symbols - x.empty else side.symbols) ≤ k
      by_last true few h = omega (arith, few, h, sum, symbols_are)
      by_last false few h = absurd (omega (arith, h, below))

      by_more : (t : Bool) → has_more sizes x ≡ t → (if (if t then 0 else x.last) == 1 then sizes.symbols - (if t then 0 else x.empty - behind) else sizes.symbols) ≤ k → symbol_count side x ≤ k
      by_more true e h = absurd (omega (arith, h, below))
      by_more false e h = by_last (x.last == 1) (ltb-false x.empty behind e) h

  -- a symbol of what is left is one behind the first part, or 0
  rest_value : (x : Beat) (k : ℕ) → k < side.symbols → (k + sizes.symbols < side.symbols → value_of side x.word (k + sizes.symbols) ≡ 0) → value_of side (rest_of sizes x).word k ≡ 0
  rest_value x k below later =
      high_value side (rest_of sizes x).word k high
      ∙ ap (λ n. (rest_of sizes x).word / 2 ^ (n * (side.symbols - 1 - k)) % 2 ^ n) bits_are
      ∙ by_place (cases_lt (side.symbols - 1 - k) sizes.symbols)
    where
      sum : behind + sizes.symbols ≡ sizes.symbols * sizes.parts
      sum = parts_sum sizes

      by_place : (side.symbols - 1 - k < sizes.symbols) ⊎ (sizes.symbols ≤ side.symbols - 1 - k) → (rest_of sizes x).word / 2 ^ (sizes.bits * (side.symbols - 1 - k)) % 2 ^ sizes.bits ≡ 0
      by_place (inl low) = shifted_none (x.word % 2 ^ (sizes.bits * behind)) sizes.bits sizes.symbols (side.symbols - 1 - k) low
      by_place (inr most) =
          let place : side.symbols - 1 - k - sizes.symbols ≡ side.symbols - 1 - (k + sizes.symbols) = omega arith in
          shifted_symbol (x.word % 2 ^ (sizes.bits * behind)) sizes.bits sizes.symbols (side.symbols - 1 - k) most
          ∙ cut_symbol x.word sizes.bits behind (side.symbols - 1 - k - sizes.symbols) (omega (arith, most, sum, symbols_are, below))
          ∙ ap (λ n. x.word / 2 ^ (sizes.bits * n) % 2 ^ sizes.bits) place
          ∙ ap (λ n. x.word / 2 ^ (n * (side.symbols - 1 - (k + sizes.symbols))) % 2 ^ n) (sym bits_are)
          ∙ sym (high_value side x.word (k + sizes.symbols) high)
          ∙ later (let some = sizes.some in omega (arith, most, below, some))

  pub rest_clear : (x : Beat) → has_more sizes x ≡ true → HasClearEmpty side x → HasClearEmpty side (rest_of sizes x)
  rest_clear x more clear k from below = rest_value x k below (λ lt. clear (k + sizes.symbols) (by_last (x.last == 1) from) lt)
    where
      gone : (rest_of sizes x).empty ≡ x.empty + sizes.symbols
      gone = rest_empty sizes x more

      by_last : (l : Bool) → (if l then side.symbols - (rest_of sizes x).empty else side.symbols) ≤ k → (if l then side.symbols - x.empty else side.symbols) ≤ k + sizes.symbols
      by_last true h = omega (arith, h, gone)
      by_last false h = absurd (omega (arith, h, below))

-- where bits of empty are cut off, there are fewer empty symbols
pub counted_clear : (count : ℕ) (side : Side) (x : Beat) → HasClearEmpty side x → HasClearEmpty side (counted_beat count x)
counted_clear count side x clear k from below = clear k (by_last (x.last == 1) from) below
  where
    by_last : (l : Bool) → (if l then side.symbols - (if l then x.empty % 2 ^ count else 0) else side.symbols) ≤ k → (if l then side.symbols - x.empty else side.symbols) ≤ k
    by_last true h = let less = mod-le x.empty (2 ^ count) in omega (arith, h, less)
    by_last false h = h

-- in each of these beats the empty symbols are 0
abbrev AreClear : Side → List Beat → Type 0
AreClear side [] = Unit {0}
AreClear side (x ∷ xs) = HasClearEmpty side x × AreClear side xs

fewer_clear : (side : Side) (xs : List Beat) → AreClear side xs → AreClear side (drop 1 xs)
fewer_clear side [] clear = tt
fewer_clear side (x ∷ xs) clear = clear.1

-- those to be sent are those that are left, or those of the beat that is shown
pieces_clear : (side : Side) (p : Beat → List Beat) (up : EndView) (xs : List Beat) (c : ℕ) → AreClear side xs →
    (is_none xs ≡ true → AreClear side (p (record { word = up.word c; channel = up.channel c; error = up.error c; first = up.first c; last = up.last c; empty = up.empty c }))) → AreClear side (pieces_now p up xs c)
pieces_clear side p up [] c clear coming = coming refl
pieces_clear side p up (x ∷ xs) c clear coming = clear

split_clear : (sizes : Sizes) (side : Side) → side.symbols ≡ sizes.symbols * sizes.parts → side.symbol_bits ≡ sizes.bits → side.first_high ≡ true → PartsFit → (k : ℕ) (x : Beat) → HasClearEmpty side x → AreClear (of_symbols side sizes.symbols) (split sizes k x)
split_clear sizes side symbols_are bits_are high fit zero x clear = tt
split_clear sizes side symbols_are bits_are high fit (suc k) x clear =
    (piece_clear sizes side symbols_are bits_are high fit x clear, by_more (has_more sizes x) refl (split_clear sizes side symbols_are bits_are high fit k (rest_of sizes x)))
  where
    by_more : (t : Bool) → has_more sizes x ≡ t → (HasClearEmpty side (rest_of sizes x) → AreClear (of_symbols side sizes.symbols) (split sizes k (rest_of sizes x))) →
        AreClear (of_symbols side sizes.symbols) (if t then split sizes k (rest_of sizes x) else [])
    by_more true more later = later (rest_clear sizes side symbols_are bits_are high x more clear)
    by_more false more later = tt

module _ (sizes : Sizes) (side : Side) (symbols_are : side.symbols ≡ sizes.symbols * sizes.parts) (bits_are : side.symbol_bits ≡ sizes.bits) (high : side.first_high ≡ true) (fit : PartsFit) (direct : side.pace.latency ≡ 0)
    (from to : BeatNets) (kept : NarrowKept) (ready up : NetValue) (netlist : Netlist) (run : Run) (f : NarrowForward sizes from to kept netlist) (b : NarrowBackward kept ready up netlist) (endless : IsEndlessRun netlist run) where
  abbrev now : ℕ → Shown
  now c = shown_now sizes (cycle_of run c) kept.held from

  abbrev left : ℕ → List Beat
  left c = left_of sizes (shown_in (cycle_of run c) kept.held)

  abbrev to_send : ℕ → List Beat
  to_send c = pieces_now (parts_of sizes) (view_of run from up) (left c) c

  abbrev AllClear : List Beat → Type 0
  AllClear = AreClear (of_symbols side sizes.symbols)

  -- a beat that is shown has clear empty symbols
  abbrev ComesClear : ℕ → Type 0
  ComesClear c = IsTrue (run.net c from.valid.number == 1) → HasClearEmpty side (beat_in (cycle_of run c) from)

  shown_is : (c : ℕ) → shown_in (cycle_of run c) to ≡ shown_piece sizes (now c)
  shown_is = shown sizes from to kept ready up netlist run f b endless side direct

  -- where nothing is left, a part that is shown is one of the beat that is shown
  comes : (c : ℕ) → is_none (left c) ≡ true → IsTrue (run.net c to.valid.number == 1) → IsTrue (run.net c from.valid.number == 1)
  comes c none v = by_held (run.net c kept.held.valid.number == 1) (sym (none_left sizes (shown_in (cycle_of run c) kept.held)) ∙ none) (sym (ap (λ (x : Shown). x.valid == 1) (shown_is c)) ∙ v)
    where
      by_held : (t : Bool) → not t ≡ true → IsTrue ((if t then laid_above sizes (shown_in (cycle_of run c) kept.held) (run.net c from.word.number) else counted sizes.count (shown_in (cycle_of run c) from)).valid == 1) → IsTrue (run.net c from.valid.number == 1)
      by_held true e w = absurd (cc)
      by_held false e w = w

  send_clear : (c : ℕ) → AllClear (left c) → ComesClear c → IsTrue (run.net c to.valid.number == 1) → AllClear (to_send c)
  send_clear c clear coming v =
      pieces_clear (of_symbols side sizes.symbols) (parts_of sizes) (view_of run from up) (left c) c clear
      (λ none. split_clear sizes side symbols_are bits_are high fit sizes.parts (counted_beat sizes.count (beat_in (cycle_of run c) from)) (counted_clear sizes.count side (beat_in (cycle_of run c) from) (coming (comes c none v))))

  next_clear : (c : ℕ) → AllClear (left c) → ComesClear c → AllClear (left (suc c))
  next_clear c clear coming =
      subst AllClear (sym (moved sizes from to kept ready up netlist run f b endless side direct c ∙ ap (λ t. if t then drop 1 (to_send c) else left c) (goes sizes from to kept ready up netlist run f b endless side direct c)))
      (by_gone ((run.net c kept.shown.number == 1) && (run.net c ready.number == 1)) refl)
    where
      by_gone : (g : Bool) → ((run.net c kept.shown.number == 1) && (run.net c ready.number == 1)) ≡ g → AllClear (if g then drop 1 (to_send c) else left c)
      by_gone false e = clear
      by_gone true e = fewer_clear (of_symbols side sizes.symbols) (to_send c) (send_clear c clear coming (sym (ap (λ (n : NetValue). run.net c n.number == 1) f.shown_is) ∙ (and_parts _ _ e).0))

  left_clear : (c : ℕ) → ((d : ℕ) → d < c → ComesClear d) → AllClear (left c)
  left_clear zero before = subst AllClear (sym (ap (left_of sizes) (f.starts run 1 (endless 1) (omega arith)))) tt
  left_clear (suc c) before = next_clear c (left_clear c (λ d lt. before d (omega (arith, lt)))) (before c (omega arith))

  pub parts_clear : (count : ℕ) → ShowsClear side (view_of run from up) count → ShowsClear (of_symbols side sizes.symbols) (view_of run to ready) count
  parts_clear count clear c lt v =
      let sent = send_clear c (left_clear c (λ d before. clear d (omega (arith, before, lt)))) (clear c lt) v in
      let several = sizes.several in
      let parts = subst AllClear (to_send_is sizes from to kept ready up netlist run f b endless side direct c ∙ split_some sizes sizes.parts (now c).beat (omega (arith, several))) sent in
      subst (HasClearEmpty (of_symbols side sizes.symbols)) (sym (ap (λ (x : Shown). x.beat) (shown_is c))) parts.0

pub narrow_clear : PartsFit → (sizes : Sizes) (shape : Shape) (from to : BeatNets) (kept : NarrowKept) (ready up : NetValue) (netlist : Netlist) → IsNarrowShape sizes shape → NarrowForward sizes from to kept netlist → NarrowBackward kept ready up netlist → (run : Run) → IsEndlessRun netlist run → (count : ℕ) →
    ShowsClear shape.up (view_of run from up) count → ShowsClear shape.down (view_of run to ready) count
narrow_clear fit sizes shape from to kept ready up netlist p f b run endless count clear =
    subst (λ (s : Shape). ShowsClear s.down (view_of run to ready) count) (sym p.is) (parts_clear sizes shape.up p.symbols_are p.bits_are p.first_high fit p.at_once from to kept ready up netlist run f b endless count clear)
