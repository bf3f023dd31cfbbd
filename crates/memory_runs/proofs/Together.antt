-- What `are_together` says, by places; and an agent's own operations by the split of beats.
use Rattle.std.proofs.Common.{ℕ, zero, suc, ◌<◌, ◌≡◌, ◌*◌, [], ◌∷◌, List, Bool, true, false, not, arith, refl, sym, ap, ◌∙◌, subst, Some, slice_get, nat_eq, eqb-true, if◌then◌else◌, append-nil, min, filter, map, flat_map, zero-mul}
use Rattle.std.proofs.lemmas.Bool.{and_parts, not-true, both_ways}
use Rattle.std.specs.List.{list_all}
use Rattle.memory_runs.specs.Laws.{same_pieces}
use Rattle.histories.specs.History.{numbers}
use Rattle.memory_runs.specs.Views.{Shape}
use Rattle.memory_runs.specs.Operations.{Beat, operation_at, operations_of, own_operations, filled_of_piece, is_enabled}
use Rattle.memory_runs.specs.Order.{Owner, is_same_owner, stays_together, are_together}

never_again : (owner other : Owner) (later : List Owner) (k : ℕ) → list_all (λ o. not (is_same_owner owner o)) later ≡ true → slice_get later k ≡ Some other → is_same_owner owner other ≡ true → ⊥
never_again owner other [] k none at same = cc
never_again owner other (next ∷ later) zero none at same =
    let it : next ≡ other = cc in
    let first = not-true (is_same_owner owner next) (and_parts (not (is_same_owner owner next)) (list_all (λ o. not (is_same_owner owner o)) later) none).0 in
    both_ways (is_same_owner owner next) first (subst (λ o. is_same_owner owner o ≡ true) (sym it) same)
never_again owner other (next ∷ later) (suc k) none at same =
    never_again owner other later k (and_parts (not (is_same_owner owner next)) (list_all (λ o. not (is_same_owner owner o)) later) none).1 at same

stays : (owner between other : Owner) (later : List Owner) (j k : ℕ) → stays_together owner later ≡ true → j < k → slice_get later j ≡ Some between → slice_get later k ≡ Some other →
    is_same_owner owner other ≡ true → between.tag ≡ owner.tag
stays owner between other [] j k all low at_j at_k same = let bad : ⊥ = cc in absurd bad
stays owner between other (next ∷ later) j zero all low at_j at_k same = absurd (omega arith)
stays owner between other (next ∷ later) zero (suc k) all low at_j at_k same =
    go (nat_eq next.tag owner.tag) refl all
  where
    go : (test : Bool) → nat_eq next.tag owner.tag ≡ test → (if test then stays_together owner later else list_all (λ o. not (is_same_owner owner o)) later) ≡ true → between.tag ≡ owner.tag
    go true is all = let it : next ≡ between = cc in subst (λ o. o.tag ≡ owner.tag) it (eqb-true next.tag owner.tag is)
    go false is all = absurd (never_again owner other later k all at_k same)
stays owner between other (next ∷ later) (suc j) (suc k) all low at_j at_k same =
    go (nat_eq next.tag owner.tag) (λ all. stays owner between other later j k all (omega arith) at_j at_k same) all
  where
    go : (test : Bool) → (stays_together owner later ≡ true → between.tag ≡ owner.tag) → (if test then stays_together owner later else list_all (λ o. not (is_same_owner owner o)) later) ≡ true → between.tag ≡ owner.tag
    go true further all = further all
    go false further all = absurd (never_again owner other later k all at_k same)

-- between two operations of one command stand operations of its tag alone
pub together_by_place : (owners : List Owner) (i j k : ℕ) (owner between other : Owner) → are_together owners ≡ true → i < j → j < k →
    slice_get owners i ≡ Some owner → slice_get owners j ≡ Some between → slice_get owners k ≡ Some other → is_same_owner owner other ≡ true → between.tag ≡ owner.tag
together_by_place [] i j k owner between other all low high at_i at_j at_k same = let bad : ⊥ = cc in absurd bad
together_by_place (first ∷ later) zero (suc j) (suc k) owner between other all low high at_i at_j at_k same =
    let it : first ≡ owner = cc in
    let here = (and_parts (stays_together first later) (are_together later) all).0 in
    stays owner between other later j k (subst (λ o. stays_together o later ≡ true) it here) (omega arith) at_j at_k same
together_by_place (first ∷ later) (suc i) (suc j) (suc k) owner between other all low high at_i at_j at_k same =
    together_by_place later i j k owner between other (and_parts (stays_together first later) (are_together later) all).1 (omega arith) (omega arith) at_i at_j at_k same
together_by_place (first ∷ later) i zero k owner between other all low high at_i at_j at_k same = absurd (omega arith)
together_by_place (first ∷ later) i (suc j) zero owner between other all low high at_i at_j at_k same = absurd (omega arith)

same_filter : (shape : Shape) (enables : ℕ) → shape.has_enables ≡ true → filter (is_enabled enables) (numbers (0 * shape.word_bytes) shape.word_bytes) ≡ filter (is_enabled enables) (numbers 0 shape.word_bytes)
same_filter shape enables h = let none : 0 * shape.word_bytes ≡ 0 = zero-mul shape.word_bytes in ap (λ n. filter (is_enabled enables) (numbers n shape.word_bytes)) none

-- at a port with byte enables its own operations are those of the split into its own words
pub own_is_split : (shape : Shape) (span : ℕ) (beat : Beat) → 0 < shape.word_bytes → shape.has_enables ≡ true → own_operations shape span beat ≡ operations_of shape shape span beat
own_is_split shape span beat words h =
    let least : min shape.word_bytes shape.word_bytes ≡ shape.word_bytes = omega arith in
    let one = same_pieces shape words in
    ap (map (operation_at span beat)) (sym (ap (λ n. flat_map (filled_of_piece shape shape beat.enables) (numbers 0 n)) one
    ∙ append-nil (filled_of_piece shape shape beat.enables 0) ∙ rw (h, least) (same_filter shape beat.enables h)))
