-- Ends by their numbers.
use Rattle.std.proofs.Common.{◌≡◌, ◌<◌, ℕ, List, length, get_or, slice_get, Some, sym, ap, subst, ◌∙◌}
use Rattle.std.proofs.lemmas.Option.{slice_get-get_or}
use Rattle.system_tables.specs.declared.tables.EndId.{EndId}

-- the end that is read at a number
pub end_at : (read ends : List EndId) (number : ℕ) (d : EndId) → read ≡ ends → number < length ends → slice_get ends number ≡ Some (get_or read number d)
end_at read ends number d are inside =
    ap (λ (es : List EndId). slice_get es number) (sym are)
    ∙ slice_get-get_or read number d (subst (λ (es : List EndId). number < length es) (sym are) inside)
