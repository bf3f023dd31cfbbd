-- Laws of what is shown, accepted, issued and taken. No contract reads a proof of theirs; the crates above cite them.
use Rattle.std.proofs.Common.{ℕ, zero, suc, ◌<◌, ◌≤◌, ◌≡◌, ◌/◌, [], ◌∷◌, ◌++◌, List, Bool, true, false, not, ◌||◌, arith, refl, sym, ap, ap₂, ◌∙◌, subst, min, take, drop, length, one-mul, mul-div_cancel}
use Rattle.std.proofs.lemmas.Bool.{not-true, and_parts}
use Rattle.std.proofs.lemmas.List.{take-append-le}
use Rattle.histories.specs.History.{is_raised, IsPrefix, KeepsItems}
use Rattle.histories.specs.Laws.{accepted_prefix, before_prefix, prefix_filter, prefix_flat_map}
use Rattle.memory_runs.specs.Views.{Signals, Shape, System, Run}
use Rattle.memory_runs.specs.Operations.{pieces}
use Rattle.memory_runs.specs.Commands.{AcceptsOnlyShown, shows, accepts_by, transfer_at, transfer_of, burst_before, accepted, presented}
use Rattle.memory_runs.specs.Legal.{AreLegal}
use Rattle.memory_runs.specs.Order.{issued, taken}

-- a legal side keeps what it shows
pub legal_keeps : (shape : Shape) (signals : Signals) (accepts : ℕ → Bool) (end : ℕ) → AcceptsOnlyShown signals accepts →
    AreLegal shape signals accepts end → KeepsItems (shows signals) accepts (transfer_at shape signals accepts) end
legal_keeps shape signals accepts end accepted legal = record {
  accepted = accepted;
  held = λ c h held.
      let same = legal.held c h held in
      let not_accepted : accepts c ≡ false = not-true (accepts c) (and_parts (shows signals c) (not (accepts c)) held).1 in
      let burst : burst_before shape signals accepts c ≡ burst_before shape signals accepts (suc c) = rw not_accepted in (
        ap (λ l. is_raised l.read || is_raised l.write) (sym same) ∙ (and_parts (shows signals c) (not (accepts c)) held).0,
        ap₂ (transfer_of shape) same burst,
      );
}

pub accepts_shows : (signals : Signals) (wait : ℕ → ℕ) (c : ℕ) → accepts_by signals wait c ≡ true → shows signals c ≡ true
accepts_shows signals wait c h = (and_parts (shows signals c) (not (is_raised (wait c))) h).0

-- a legal side has presented all that it has accepted, and at most the beat that stands besides
pub accepted_of_legal : (shape : Shape) (signals : Signals) (accepts : ℕ → Bool) (end : ℕ) → AcceptsOnlyShown signals accepts →
    AreLegal shape signals accepts end → IsPrefix (accepted shape signals accepts end) (presented shape signals accepts end)
accepted_of_legal shape signals accepts end shown legal =
    accepted_prefix _ _ _ end end (legal_keeps shape signals accepts end shown legal) (omega arith)

-- what is issued only grows
pub issued_prefix : (system : System) (run : Run) (host agent c d : ℕ) → c ≤ d
    → IsPrefix (issued system run host agent c) (issued system run host agent d)
issued_prefix system run host agent c d h = prefix_flat_map _ (prefix_filter _ (before_prefix _ c d h))

-- what is taken only grows
pub taken_prefix : (system : System) (run : Run) (agent c d : ℕ) → c ≤ d
    → IsPrefix (taken system run agent c) (taken system run agent d)
taken_prefix system run agent c d h = prefix_flat_map _ (before_prefix _ c d h)

-- a beat covers one word of its own port
pub same_pieces : (shape : Shape) → 0 < shape.word_bytes → pieces shape shape ≡ 1
same_pieces shape h =
    let least : min shape.word_bytes shape.word_bytes ≡ shape.word_bytes = omega arith in
    rw least (ap (λ n. n / shape.word_bytes) (sym (one-mul shape.word_bytes)) ∙ mul-div_cancel 1 h)

-- what is taken from a list is taken from a longer one
pub taken_ahead : (xs rest : List ℕ) (n m : ℕ) → m ≤ length (drop n xs) → take m (drop n (xs ++ rest)) ≡ take m (drop n xs)
taken_ahead xs rest zero m h = take-append-le m xs rest h
taken_ahead [] rest (suc n) m h = let none : 0 ≡ m = omega arith in subst (λ m. take m (drop (suc n) rest) ≡ take m []) none refl
taken_ahead (x ∷ xs) rest (suc n) m h = taken_ahead xs rest n m h
