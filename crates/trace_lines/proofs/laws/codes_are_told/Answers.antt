use Rattle.std.proofs.Common.{◌≡◌, ℕ, List, [], refl, ap, arith, slice_index_or}
use Rattle.std.specs.Fmt.{digits}
use Rattle.trace_lines.proofs.laws.codes_are_told.Goals as goal

pub returns-clause-lines : goal.returns-clause-lines
unfolding digits
returns-clause-lines c = refl

pub returns-clause-left_out : goal.returns-clause-left_out
unfolding digits
returns-clause-left_out c =
    λ same. let e : ◌≡◌ {A = ℕ} 32 10 = ap (λ (lines : List (List ℕ)). slice_index_or (slice_index_or lines 0 []) 18 0) same in omega arith

pub returns-clause-of_another : goal.returns-clause-of_another
unfolding digits
returns-clause-of_another c =
    λ same. let e : ◌≡◌ {A = ℕ} 50 48 = ap (λ (lines : List (List ℕ)). slice_index_or (slice_index_or lines 0 []) 19 0) same in omega arith
