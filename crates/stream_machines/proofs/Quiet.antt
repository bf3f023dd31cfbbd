-- Symbols without errors.
use Rattle.std.proofs.Common.{◌≡◌, ℕ, zero, suc, Bool, true, false, cond, IsTrue, ◌||◌, List, [], ◌∷◌, ◌++◌, map, filter, take, drop, fold, refl, ap, ◌∙◌, arith, nat_lt}
use Rattle.std.specs.Int.Bits.{bit_or, or_zero_r}
use Rattle.std.specs.List.{range_with_len}
use Rattle.std.proofs.lemmas.Bool.{and_parts}
use Rattle.stream_runs.specs.View.{EndView, Side, Beat, is_high, is_transfer}
use Rattle.stream_runs.specs.Symbols.{Symbol, symbol_in, shown_symbols, symbols_in, shown_count, transferred_symbols, joined_error}
use Rattle.stream_runs.specs.Source.{IsLegalSource, IsLegalAt}

-- no symbol has an error
abbrev pub AllQuiet : List Symbol → Type 0
AllQuiet [] = Unit {0}
AllQuiet (x ∷ xs) = (x.error ≡ 0) × AllQuiet xs

pub quiet-append : (xs ys : List Symbol) → AllQuiet xs → AllQuiet ys → AllQuiet (xs ++ ys)
quiet-append [] ys p q = q
quiet-append (x ∷ xs) ys p q = (p.0, quiet-append xs ys p.1 q)

pub quiet_left : (xs ys : List Symbol) → AllQuiet (xs ++ ys) → AllQuiet xs
quiet_left [] ys p = tt
quiet_left (x ∷ xs) ys p = (p.0, quiet_left xs ys p.1)

pub quiet_right : (xs ys : List Symbol) → AllQuiet (xs ++ ys) → AllQuiet ys
quiet_right [] ys p = p
quiet_right (x ∷ xs) ys p = quiet_right xs ys p.1

pub quiet-filter : (test : Symbol → Bool) (xs : List Symbol) → AllQuiet xs → AllQuiet (filter test xs)
quiet-filter test [] p = tt
quiet-filter test (x ∷ xs) p = by_test (test x) (quiet-filter test xs p.1)
  where
    by_test : (b : Bool) → AllQuiet (filter test xs) → AllQuiet (cond b (x ∷ filter test xs) (filter test xs))
    by_test true q = (p.0, q)
    by_test false q = q

pub quiet-take : (n : ℕ) (xs : List Symbol) → AllQuiet xs → AllQuiet (take n xs)
quiet-take zero xs p = tt
quiet-take (suc n) [] p = tt
quiet-take (suc n) (x ∷ xs) p = (p.0, quiet-take n xs p.1)

pub quiet-drop : (n : ℕ) (xs : List Symbol) → AllQuiet xs → AllQuiet (drop n xs)
quiet-drop zero xs p = p
quiet-drop (suc n) [] p = tt
quiet-drop (suc n) (x ∷ xs) p = quiet-drop n xs p.1

pub quiet_joined : (xs : List Symbol) → AllQuiet xs → joined_error xs ≡ 0
quiet_joined [] p = refl
quiet_joined (x ∷ xs) p = ap (λ e. fold (λ error (symbol : Symbol). bit_or error symbol.error) (bit_or 0 e) xs) p.0 ∙ (ap (λ e. fold (λ error (symbol : Symbol). bit_or error symbol.error) e xs) (or_zero_r 0) ∙ quiet_joined xs p.1)

pub quiet_beat : (side : Side) (beat : Beat) (js : List ℕ) → beat.error ≡ 0 → AllQuiet (map (symbol_in side beat) js)
quiet_beat side beat [] e = tt
quiet_beat side beat (j ∷ js) e = (e, quiet_beat side beat js e)

module _ (side : Side) (view : EndView) (none : side.error_bits ≡ 0) where
  -- the beat that is shown
  pub quiet_shown : (c : ℕ) → IsLegalAt side view c → IsTrue (is_high view.valid c) → AllQuiet (shown_symbols side view c)
  quiet_shown c legal shown = quiet_beat side _ (range_with_len 0 (shown_count side view c)) ((legal.formed shown).quiet none)

  -- all that transferred from a legal source without an error port
  pub quiet_transferred : (c : ℕ) → IsLegalSource side view c → AllQuiet (transferred_symbols side view c)
  quiet_transferred zero legal = tt
  quiet_transferred (suc c) legal =
      quiet-append (transferred_symbols side view c) (symbols_in side view c) (quiet_transferred c (λ b h. legal b (omega arith))) (by_transfer (is_transfer side.pace view c) refl)
    where
      by_transfer : (b : Bool) → is_transfer side.pace view c ≡ b → AllQuiet (cond b (shown_symbols side view c) [])
      by_transfer false stays = tt
      by_transfer true moves = quiet_shown c (legal c (omega arith)) (and_parts (is_high view.valid c) (nat_lt 0 side.pace.latency || is_high view.ready c) moves).0
