use Rattle.std.proofs.Common.{◌≡◌, ℕ, List, [], refl, ap, arith, slice_index_or}
use Rattle.std.specs.Fmt.{digits}
use Rattle.trace_lines.proofs.laws.memory_is_told.Goals as goal

pub returns-clause-lines : goal.returns-clause-lines
unfolding digits
returns-clause-lines c = refl

pub returns-clause-offset_of_the_first_beat : goal.returns-clause-offset_of_the_first_beat
unfolding digits
returns-clause-offset_of_the_first_beat c =
    λ same. let e : ◌≡◌ {A = ℕ} 48 102 = ap (λ (lines : List (List ℕ)). slice_index_or (slice_index_or lines 0 []) 21 0) same in omega arith

pub returns-clause-past_the_span : goal.returns-clause-past_the_span
unfolding digits
returns-clause-past_the_span c =
    λ same. let e : ◌≡◌ {A = ℕ} 48 49 = ap (λ (lines : List (List ℕ)). slice_index_or (slice_index_or lines 0 []) 20 0) same in omega arith
