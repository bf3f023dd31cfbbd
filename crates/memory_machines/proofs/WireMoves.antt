-- A wire keeps moving: nothing waits in it, and no word is left over.
use Rattle.std.proofs.Common.{ℕ, suc, ◌≤◌, ◌≡◌, ◌+◌, ◌-◌, [], ◌∷◌, List, false, ◌&&◌, ◌||◌, IsTrue, arith, refl, sym, ap, ◌∙◌, length, map, nat_lt, nat_le, take, length-append, le_of_eq, tests}
use Rattle.std.proofs.lemmas.Bool.{le-ltb}
use Rattle.std.proofs.lemmas.List.{length-map}
use Rattle.histories.specs.History.{total}
use Rattle.memory_runs.specs.Views.{Shape}
use Rattle.memory_runs.specs.Operations.{Beat, filled_lanes}
use Rattle.memory_runs.specs.Legal.{Word}
use Rattle.memory_machines.specs.Link.{Target, Port, Marked, AreLegalAt, closes, operations_in, operations_among, taken_at, read_beats, words_at, words_owed, answers_at, bytes_in, reads_of, beat_operations}
use Rattle.memory_machines.specs.Rank.{AnswersPromptly}
use Rattle.memory_machines.specs.PartRanks.{Accepted, held_back, HoldsBack, KeepsMoving}
use Rattle.memory_machines.proofs.WireRank.{wire_falls}
use Rattle.memory_machines.specs.SideLaws.{zip_length}

abbrev accepted_of : Target → Shape → Marked → Accepted
accepted_of target shape m = record { size = length (operations_in target shape m); closes = closes m }

all_taken : (accepted : List Accepted) (reached : ℕ) → total (map (λ (a : Accepted). a.size) accepted) ≤ reached → held_back accepted reached ≡ 0
all_taken [] reached h = refl
all_taken (a ∷ later) reached h =
    let first : nat_lt reached a.size ≡ false = le-ltb reached a.size (omega arith) in
    rw first (all_taken later (reached - a.size) (omega arith))

total_accepted : (target : Target) (shape : Shape) (transfers : List Marked) →
    total (map (λ (a : Accepted). a.size) (map (accepted_of target shape) transfers)) ≡ length (operations_among target shape transfers)
total_accepted target shape [] = refl
total_accepted target shape (m ∷ later) = ap (λ n. length (operations_in target shape m) + n) (total_accepted target shape later) ∙ sym (length-append (operations_in target shape m) _)

wire_holds : (target : Target) (port : Port) (end : ℕ) → HoldsBack 0 target port port end
wire_holds target port end c h =
    le_of_eq (all_taken (map (accepted_of target port.shape) (taken_at port c)) (length (operations_among target port.shape (taken_at port c))) (le_of_eq (total_accepted target port.shape (taken_at port c))))

-- the answers that have come are those of the words that have come
answers_of_words : (target : Target) (port : Port) (c : ℕ) → length (answers_at target port c) ≡ reads_of target port.shape (take (length (words_at port c)) (read_beats (taken_at port c)))
answers_of_words target port c = zip_length (λ (p : Beat × Word). bytes_in target port.shape p.0 p.1) (beat_operations target port.shape)
    (λ x w. length-map (filled_lanes port.shape target.shape x.enables) _ ∙ sym (length-map (filled_lanes port.shape target.shape x.enables) _)) (read_beats (taken_at port c)) (words_at port c)

none_due : (given asked answers before after : ℕ) → answers ≡ before → IsTrue (nat_lt given asked && nat_le after answers && (nat_lt before after || nat_le asked given)) → ⊥
none_due given asked answers before after same due = grind (arith, tests)

wire_answers : (target : Target) (port : Port) (end : ℕ) → AnswersPromptly target port port end
wire_answers target port end c h due =
    absurd (none_due (length (words_at port c)) (words_owed port c) (length (answers_at target port c))
    (reads_of target port.shape (take (length (words_at port c)) (read_beats (taken_at port c))))
    (reads_of target port.shape (take (suc (length (words_at port c))) (read_beats (taken_at port c))))
    (answers_of_words target port c) due)

pub wire_moves : (target : Target) (port : Port) (end : ℕ) → AreLegalAt port end → KeepsMoving 0 target port port (λ c. 0) 0 end
wire_moves target port end legal = record {
  falls = wire_falls target port end legal;
  answers = wire_answers target port end;
  holds = wire_holds target port end;
  joins = λ alike. alike;
}
