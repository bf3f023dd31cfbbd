use Rattle.std.proofs.Common.{◌≡◌, ℕ, zero, suc, List, [], ◌∷◌, ◌≤◌, refl, length, take, map, arith, ap, ◌∙◌}
use Rattle.std.proofs.lemmas.Option.{slice_get-get_or}
use Rattle.port_tables.specs.PortMaps.{line_of_entry}
use Rattle.port_tables.specs.EndFacts.{planned}
use Rattle.port_tables.proofs.PortPlaces.{lines-are, entry_end}
use Rattle.port_tables.proofs.header.header_ports.Goals as goal

pub line_of_entry-requires : goal.line_of_entry-requires
line_of_entry-requires c =
    entry_end c.args.plan.now.system c.as_slice-entry-items.result.now c.loop-entry.entry-index _ (planned c.args.plan.now c.well_made.ensures) (c.as_slice-entry-items.ensures ∙ c.requires)
    (slice_get-get_or c.as_slice-entry-items.result.now c.loop-entry.entry-index _ c.loop-entry-test.true)

take_past : {X : Type 0} (k : ℕ) (xs : List X) → length xs ≤ k → take k xs ≡ xs
take_past zero [] h = refl
take_past zero (x ∷ xs) h = absurd (omega arith)
take_past (suc k) [] h = refl
take_past (suc k) (x ∷ xs) h = ap (λ ys. x ∷ ys) (take_past k xs (omega arith))

pub returns : goal.returns
returns c =
    let same = ap length c.as_slice-entry-items.ensures in
    c.loop-entry.invariant
    ∙ ap (map (line_of_entry c.args.plan.now.system)) (take_past c.loop-entry.entry-index c.args.ports.now.entries (omega (arith, same, c.loop-entry-test.false)) ∙ c.requires)
    ∙ lines-are c.args.plan.now.system
