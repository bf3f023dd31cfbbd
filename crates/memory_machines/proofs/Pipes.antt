-- The pipe before an agent hands on what it took, and brings the answers of each tag back.
use Rattle.std.proofs.Common.{ℕ, zero, suc, ◌≤◌, ◌-◌, ◌≡◌, ◌||◌, Bool, true, false, IsTrue, List, ◌++◌, arith, refl, sym, subst, length, [], ◌∷◌}
use Rattle.std.proofs.lemmas.Bool.{and_parts}
use Rattle.std.specs.List.{list_all}
use Rattle.histories.specs.Laws.{prefix_trans, prefix_filter, prefix_flat_map, before_prefix, prefix_length}
use Rattle.histories.specs.History.{IsPrefix}
use Rattle.memory_runs.specs.Views.{System}
use Rattle.memory_runs.specs.Operations.{Beat}
use Rattle.memory_machines.specs.Link.{Marked, shown_at, taken_at, read_beats, beat_operations, is_nonempty}
use Rattle.memory_runs.specs.Order.{is_joined}
use Rattle.memory_machines.specs.Lines.{TaggedPort, PipeCarriesCommands, AreDelayed, AreOwedByTag, IsFit, with_tag, words_with, target_of}

all_front : {A : Type 0} (test : A → Bool) (xs ys : List A) → IsTrue (list_all test (xs ++ ys)) → IsTrue (list_all test xs)
all_front test [] ys h = refl
all_front test (x ∷ xs) ys h =
    let parts = and_parts (test x) (list_all test (xs ++ ys)) h in
    let rest = all_front test xs ys parts.1 in
    rw (parts.0, rest) refl

pub all_of_prefix : {A : Type 0} (b : Bool) (test : A → Bool) (xs ys : List A) → IsPrefix xs ys → IsTrue (b || list_all test ys) → IsTrue (b || list_all test xs)
all_of_prefix true test xs ys p h = refl
all_of_prefix false test xs ys p h = all_front test xs p.rest (subst (λ l. IsTrue (list_all test l)) (sym p.joins) h)

pub fit_below : (system : System) (agent hold stages : ℕ) (up down : TaggedPort) (end : ℕ) → up.shape ≡ down.shape → IsFit system agent up.port end → PipeCarriesCommands system agent hold stages up down end →
    IsFit system agent down.port end
fit_below system agent hold stages up down end same fit carries = record {
  legal = carries.legal;
  lanes = λ c low.
      subst (λ shape. IsTrue ((target_of system agent).shape.has_enables || list_all (λ (m : Marked). list_all (λ (b : Beat). is_nonempty (beat_operations (target_of system agent) shape b)) m.transfer.beats) (shown_at down.port c))) same
      (all_of_prefix (target_of system agent).shape.has_enables (λ (m : Marked). list_all (λ (b : Beat). is_nonempty (beat_operations (target_of system agent) up.shape b)) m.transfer.beats) (shown_at down.port c) (shown_at up.port (c - stages))
      (carries.shown c low) (fit.lanes (c - stages) (omega arith)));
  tags = carries.hands_on.tags (is_joined system agent) fit.tags;
  kinds = carries.hands_on.kinds (system.agent agent) fit.kinds;
}

-- what was taken below was taken above
pub taken_above : (system : System) (agent hold stages : ℕ) (up down : TaggedPort) (end h c d : ℕ) → PipeCarriesCommands system agent hold stages up down end → c ≤ end → c - stages ≤ d →
    IsPrefix (read_beats (with_tag h (taken_at down.port c))) (read_beats (with_tag h (taken_at up.port d)))
taken_above system agent hold stages up down end h c d carries low less =
    prefix_flat_map _ (prefix_filter _ (prefix_filter _ (prefix_trans (carries.taken c low) (before_prefix _ (c - stages) d less))))

pub owed_above : (system : System) (agent hold stages : ℕ) (up down : TaggedPort) (end : ℕ) → PipeCarriesCommands system agent hold stages up down end → AreDelayed system stages up down end → AreOwedByTag system down end →
    AreOwedByTag system up end
owed_above system agent hold stages up down end carries delayed owed h c is low =
    let same = delayed h (suc c) is (omega arith) in
    subst (λ l. length l ≤ length (read_beats (with_tag h (taken_at up.port c)))) (sym same) (by_stage (suc c - stages) refl)
  where
    by_stage : (d : ℕ) → suc c - stages ≡ d → length (words_with h down d) ≤ length (read_beats (with_tag h (taken_at up.port c)))
    by_stage zero e = omega arith
    by_stage (suc d) e =
        let few = owed h d is (omega arith) in
        let more = prefix_length (taken_above system agent hold stages up down end h d c carries (omega arith) (omega arith)) in
        omega (arith, few, more)
