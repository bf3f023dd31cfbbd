use Rattle.std.proofs.Common.{◌≡◌, inl, inr, ℕ, List, Some, slice_get, get_or, length, arith, ap, sym, subst, ◌∙◌}
use Rattle.std.proofs.lemmas.Bool.{false≢true}
use Rattle.std.proofs.lemmas.Option.{slice_get_within, slice_get-get_or}
use Rattle.system_tables.specs.declared.tables.EndId.{EndId}
use Rattle.port_tables.specs.declared.roles.PortRole.{PortRole}
use Rattle.port_tables.specs.declared.port_table.PortEntry.{PortEntry}
use Rattle.port_tables.specs.PortMaps.{IsEntryAt}
use Rattle.port_tables.specs.Lists.{nat_less}
use Rattle.port_tables.proofs.port_table.PortMap.find.Goals as goal

-- an entry that isn't of the end and the role
not_at : (entries items : List PortEntry) (k : ℕ) (d : PortEntry) (end : EndId) (role : PortRole) → items ≡ entries → ((get_or items k d).end ≡ end × (get_or items k d).port.role ≡ role → ⊥) → IsEntryAt entries k end role → ⊥
not_at entries items k d end role e other at =
    let below = slice_get_within entries k at.entry at.is in
    let same = ap length e in
    let there : slice_get entries k ≡ Some (get_or items k d) = ap (λ (xs : List PortEntry). slice_get xs k) (sym e) ∙ slice_get-get_or items k d (omega (arith, below, same)) in
    let here = at.is in
    let one : at.entry ≡ get_or items k d = cc in
    other (ap (λ (x : PortEntry). x.end) (sym one) ∙ at.end_is, ap (λ (x : PortEntry). x.port.role) (sym one) ∙ at.role_is)

pub loop-place-preserved : goal.loop-place-preserved
loop-place-preserved c k below at = elim (nat_less k c.loop-place.place below) [
  | inl earlier ↦ c.loop-place.invariant k earlier at
  | inr same ↦ not_at c.args.self.now.entries c.as_slice-entry-items.result.now c.loop-place.place _ c.args.end c.args.role c.as_slice-entry-items.ensures (λ both. false≢true (c.if-is_of.ensures.1 both))
      (subst (λ (m : ℕ). IsEntryAt c.args.self.now.entries m c.args.end c.args.role) same at)
]

pub returns : goal.returns
returns c k at =
    let below = slice_get_within c.args.self.now.entries k at.entry at.is in
    let same = ap length c.as_slice-entry-items.ensures in
    c.loop-place.invariant k (omega (arith, below, same, c.loop-place-test.false)) at
