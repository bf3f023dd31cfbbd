-- Where the empty symbols of narrow beats are 0, those of the beat that joins them are.
use Rattle.std.proofs.Common.{◌≡◌, ℕ, zero, suc, ◌+◌, ◌-◌, ◌*◌, ◌/◌, ◌%◌, ◌^◌, ◌<◌, ◌≤◌, Bool, true, false, ◌==◌, if◌then◌else◌, IsTrue, List, [], ◌∷◌, ◌++◌, length, refl, sym, subst, ap, ◌∙◌, arith, ◌⊎◌, inl, inr}
use Rattle.std.proofs.lemmas.Bool.{cases_lt, and_parts}
use Rattle.std.proofs.lemmas.Nat.{pow-add}
use Rattle.std.proofs.Math.Nat.{mod-eq_of_lt, mul-add-mod_self_right}
use Rattle.netlist.specs.Nets.{NetValue}
use Rattle.netlist.specs.Netlists.{Netlist}
use Rattle.netlist.specs.Runs.{Run, cycle_of, IsEndlessRun}
use Rattle.stream_runs.specs.View.{Side, Beat}
use Rattle.stream_runs.specs.Symbols.{value_of}
use Rattle.stream_runs.specs.Source.{IsLegalSource}
use Rattle.stream_machines.specs.Stage.{Shape}
use Rattle.stream_machines.specs.Parts.{of_symbols}
use Rattle.stream_machines.specs.Words.{HasClearEmpty, joined_word}
use Rattle.stage_core.specs.declared.beat.BeatNets.{BeatNets}
use Rattle.stage_core.specs.Beats.{view_of}
use Rattle.stage_core.specs.Groups.{Shown, shown_in}
use Rattle.st_format.specs.declared.sizes.Sizes.{Sizes}
use Rattle.st_format.specs.declared.widen.Widen.{Widen}
use Rattle.st_format.specs.declared.widen.WidenKept.{WidenKept}
use Rattle.st_format.specs.WidenNets.{IsWidenShape, WidenForward, WidenBackward, shown_joined}
use Rattle.stream_machines.specs.Words.{ShowsClear}
use Rattle.st_format.proofs.PartsLemmas.{parts_sum}
use Rattle.st_format.proofs.JoinedLemmas.{joined_below}
use Rattle.st_format.proofs.SymbolLemmas.{cut_symbol, shifted_symbol, shifted_none, high_value}
use Rattle.st_format.proofs.WidenLaw.{held_by, word_joined, counted_few, empty_joined, gathered, holds, shown, full_is, in_last}

module _ (side : Side) (some : 1 ≤ side.symbols) where
  abbrev b : ℕ
  b = side.symbol_bits

  abbrev s : ℕ
  s = side.symbols

  -- from the place of the latest beat on, the word is that of this beat, and 0 behind it
  row_low : (places q : ℕ) (beats : List Beat) (latest : Beat) → places ≡ length beats + suc q → joined_word side places (beats ++ latest ∷ []) % 2 ^ (b * (s * suc q)) ≡ latest.word % 2 ^ (b * s) * 2 ^ (b * (s * q))
  row_low zero q beats latest at = absurd (omega arith)
  row_low (suc r) q [] latest at =
      let same : r ≡ q = omega arith in
      let bare : latest.word % 2 ^ (b * s) * 2 ^ (b * (s * r)) + 0 ≡ latest.word % 2 ^ (b * s) * 2 ^ (b * (s * r)) = omega arith in
      ap (λ n. joined_word side (suc r) (latest ∷ []) % 2 ^ (b * (s * suc n))) (sym same)
      ∙ mod-eq_of_lt (joined_below side (suc r) some (suc r) (latest ∷ []))
      ∙ bare
      ∙ ap (λ n. latest.word % 2 ^ (b * s) * 2 ^ (b * (s * n))) same
  row_low (suc r) q (x ∷ xs) latest at =
      let behind : r ≡ length xs + suc q = omega arith in
      let power : 2 ^ (b * (s * r)) ≡ 2 ^ (b * (s * length xs)) * 2 ^ (b * (s * suc q)) = ap (λ n. 2 ^ (b * (s * n))) behind ∙ ap (λ n. 2 ^ n) (spread b s (length xs) (suc q)) ∙ pow-add 2 (b * (s * length xs)) (b * (s * suc q)) in
      ap (λ n. (n + joined_word side r (xs ++ latest ∷ [])) % 2 ^ (b * (s * suc q))) (ap (λ n. x.word % 2 ^ (b * s) * n) power ∙ grouped (x.word % 2 ^ (b * s)) (2 ^ (b * (s * length xs))) (2 ^ (b * (s * suc q))))
      ∙ mul-add-mod_self_right (x.word % 2 ^ (b * s) * 2 ^ (b * (s * length xs))) (2 ^ (b * (s * suc q))) (joined_word side r (xs ++ latest ∷ []))
      ∙ row_low r q xs latest behind
    where
      spread : (b s i j : ℕ) → b * (s * (i + j)) ≡ b * (s * i) + b * (s * j)
      spread b s i j = omega arith

      grouped : (x p q : ℕ) → x * (p * q) ≡ x * p * q
      grouped x p q = omega arith

  pub row_clear : (parts wide q k : ℕ) (beats : List Beat) (latest : Beat) → side.first_high ≡ true → wide ≡ s * parts → parts ≡ length beats + suc q → s * length beats ≤ k → k < wide
      → (k - s * length beats < s → value_of side latest.word (k - s * length beats) ≡ 0) → value_of (of_symbols side wide) (joined_word side parts (beats ++ latest ∷ [])) k ≡ 0
  row_clear parts wide q k beats latest high size at from below none =
      high_value (of_symbols side wide) (joined_word side parts (beats ++ latest ∷ [])) k high
      ∙ sym (cut_symbol (joined_word side parts (beats ++ latest ∷ [])) b (s * suc q) (wide - 1 - k) (omega (arith, all, top, from, below)))
      ∙ ap (λ n. n / 2 ^ (b * (wide - 1 - k)) % 2 ^ b) (row_low parts q beats latest at)
      ∙ by_place (cases_lt (wide - 1 - k) (s * q))
    where
      all : wide ≡ s * length beats + s * suc q
      all = size ∙ ap (λ n. s * n) at ∙ (let spread : s * (length beats + suc q) ≡ s * length beats + s * suc q = omega arith in spread)

      top : s * suc q ≡ s + s * q
      top = omega arith

      by_place : (wide - 1 - k < s * q) ⊎ (s * q ≤ wide - 1 - k) → latest.word % 2 ^ (b * s) * 2 ^ (b * (s * q)) / 2 ^ (b * (wide - 1 - k)) % 2 ^ b ≡ 0
      by_place (inl low) = shifted_none (latest.word % 2 ^ (b * s)) b (s * q) (wide - 1 - k) low
      by_place (inr most) =
          let place : wide - 1 - k - s * q ≡ s - 1 - (k - s * length beats) = omega (arith, all, top, from, below, most) in
          shifted_symbol (latest.word % 2 ^ (b * s)) b (s * q) (wide - 1 - k) most
          ∙ cut_symbol latest.word b s (wide - 1 - k - s * q) (omega (arith, all, top, from, below, most))
          ∙ ap (λ n. latest.word / 2 ^ (b * n) % 2 ^ b) place
          ∙ sym (high_value side latest.word (k - s * length beats) high)
          ∙ none (omega (arith, all, top, from, below, most))

module _ (stage : Widen) (side : Side) (symbols_are : side.symbols ≡ stage.sizes.symbols) (bits_are : side.symbol_bits ≡ stage.sizes.bits) (high : side.first_high ≡ true) where
  abbrev sizes : Sizes
  sizes = stage.sizes

  some_symbols : 1 ≤ side.symbols
  some_symbols = let some = sizes.some in omega (arith, symbols_are, some)

  pub joined_clear : (beats : List Beat) (x : Shown) → length beats < sizes.parts → x.beat.word < 2 ^ (sizes.bits * sizes.symbols) → (stage.packets ≡ false → length beats + 1 ≡ sizes.parts) → (IsTrue (x.beat.last == 1) → x.beat.empty < side.symbols) → HasClearEmpty side x.beat
      → HasClearEmpty (of_symbols side (sizes.symbols * sizes.parts)) (shown_joined stage (held_by stage side symbols_are bits_are beats) x).beat
  joined_clear beats x few fits place holds_data clear k from below =
      ap (λ n. value_of (of_symbols side (sizes.symbols * sizes.parts)) n k) (word_joined stage side symbols_are bits_are beats x.beat few fits place)
      ∙ by_last (x.beat.last == 1) refl (clear (k - side.symbols * length beats)) from
    where
      most : side.symbols * length beats ≤ sizes.symbols * (sizes.parts - 1)
      most = counted_few stage side symbols_are bits_are beats few

      sum : sizes.symbols * (sizes.parts - 1) + sizes.symbols ≡ sizes.symbols * sizes.parts
      sum = parts_sum sizes

      gone : side.symbols * (length beats + 1) ≡ side.symbols * length beats + side.symbols
      gone = omega arith

      size : sizes.symbols * sizes.parts ≡ side.symbols * sizes.parts
      size = ap (λ n. n * sizes.parts) (sym symbols_are)

      by_last : (l : Bool) → (x.beat.last == 1) ≡ l → ((if l then side.symbols - x.beat.empty else side.symbols) ≤ k - side.symbols * length beats → k - side.symbols * length beats < side.symbols → value_of side x.beat.word (k - side.symbols * length beats) ≡ 0)
          → (if l then sizes.symbols * sizes.parts - (shown_joined stage (held_by stage side symbols_are bits_are beats) x).beat.empty else sizes.symbols * sizes.parts) ≤ k
          → value_of (of_symbols side (sizes.symbols * sizes.parts)) (joined_word side sizes.parts (beats ++ x.beat ∷ [])) k ≡ 0
      by_last false e none h = absurd (omega (arith, h, below))
      by_last true e none h =
          let held = holds_data e in
          let is = empty_joined stage side symbols_are bits_are beats x.beat.empty few held in
          row_clear side some_symbols sizes.parts (sizes.symbols * sizes.parts) (sizes.parts - 1 - length beats) k beats x.beat high size (omega (arith, few)) (omega (arith, h, is, gone, most, sum, held, symbols_are)) below
          (none (omega (arith, h, is, gone, most, sum, held, symbols_are)))

pub widen_clear : (stage : Widen) (shape : Shape) (from to : BeatNets) (kept : WidenKept) (ready up : NetValue) (netlist : Netlist) → IsWidenShape stage shape → WidenForward stage from to kept netlist → WidenBackward kept ready up netlist → (run : Run) → IsEndlessRun netlist run → (count : ℕ) →
    IsLegalSource shape.up (view_of run from up) count → ShowsClear shape.up (view_of run from up) count → ShowsClear shape.down (view_of run to ready) count
widen_clear stage shape from to kept ready up netlist p f b run endless count legal clear =
    subst (λ (s : Shape). ShowsClear s.down (view_of run to ready) count) (sym p.is) joined
  where
    joined : ShowsClear (of_symbols shape.up (stage.sizes.symbols * stage.sizes.parts)) (view_of run to ready) count
    joined c lt v =
        let beats = gathered stage from to kept ready up netlist run f b endless shape.up p.symbols_are p.bits_are p.unmarked p.at_once c in
        let h = holds stage from to kept ready up netlist run f b endless shape.up p.symbols_are p.bits_are p.unmarked p.at_once c in
        let full = full_is stage from to kept ready up netlist run f b endless shape.up p.symbols_are p.bits_are p.unmarked p.at_once c beats h in
        let done = sym full ∙ v in
        let valid : IsTrue (run.net c from.valid.number == 1) = (and_parts (run.net c from.valid.number == 1) _ done).0 in
        let place = in_last stage from to kept ready up netlist run f b endless shape.up p.symbols_are p.bits_are p.unmarked p.at_once c beats (λ n below. legal n (omega (arith, below, lt))) done in
        let is = shown stage from to kept ready up netlist run f b endless shape.up p.symbols_are p.bits_are p.unmarked p.at_once c beats h place in
        subst (HasClearEmpty (of_symbols shape.up (stage.sizes.symbols * stage.sizes.parts))) (sym (ap (λ (x : Shown). x.beat) is))
        (joined_clear stage shape.up p.symbols_are p.bits_are p.first_high beats (shown_in (cycle_of run c) from) h.few (f.word_fits (cycle_of run c) ((endless (c + 1)).valuations c (omega arith))) place
        ((legal c lt).formed valid).holds_data (clear c lt valid))
