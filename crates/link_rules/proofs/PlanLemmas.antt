-- The hosts and agents of a plan, by their numbers.
use Rattle.std.proofs.Common.{◌≡◌, ℕ, ◌<◌, List, Some, length, get_or, slice_get, sym, ap, subst, ◌∙◌, arith}
use Rattle.std.proofs.lemmas.Option.{slice_get-get_or, same_Some}
use Rattle.iface_roles.specs.declared.records.Finished.{Finished}
use Rattle.system_tables.specs.declared.tables.EndId.{EndId}
use Rattle.system_tables.specs.Tables.{SystemTable, IsEnd}
use Rattle.link_rules.proofs.LinkLemmas.{known_is}

-- what is read at a place of a list
pub there : {X : Type 0} (read items : List X) (k : ℕ) (d : X) → read ≡ items → k < length items → slice_get items k ≡ Some (get_or read k d)
there {X} read items k d same inside =
    let within : k < length read = omega (arith, ap (λ (xs : List X). length xs) same, inside) in
    subst (λ (xs : List X). slice_get xs k ≡ Some (get_or read k d)) same (slice_get-get_or read k d within)

-- one thing is known of an end
pub same_known : (system : SystemTable) (end : EndId) (a b : Finished) → IsEnd system end a → IsEnd system end b → a ≡ b
same_known system end a b one other = sym (known_is system end a one) ∙ known_is system end b other

-- what is known of the end at a place is known of each end there
pub end_known : (system : SystemTable) (ends : List EndId) (k : ℕ) (here : EndId) (known port : Finished) → slice_get ends k ≡ Some here → IsEnd system here known → known ≡ port
    → (end : EndId) → slice_get ends k ≡ Some end → IsEnd system end port
end_known system ends k here known port at is same end there =
    subst (λ (e : EndId). IsEnd system e port) (same_Some here end (sym at ∙ there)) (subst (IsEnd system here) same is)
