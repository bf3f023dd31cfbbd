-- Inputs that are given end by end are given once.
use Rattle.std.proofs.Common.{◌≡◌, ℕ, false, List, [], ◌∷◌, ◌++◌, map, flat_map, Option, Some, None, inl, inr, refl, sym, ap, subst, ◌∙◌}
use Rattle.std.proofs.lemmas.List.Concat.{flat_map-append}
use Rattle.iface_roles.specs.declared.records.Finished.{Finished}
use Rattle.system_tables.specs.declared.tables.EndId.{EndId}
use Rattle.system_tables.specs.Tables.{SystemTable}
use Rattle.address_map.specs.Footprints.{known_at}
use Rattle.netlist.specs.Netlists.{IsInputPort}
use Rattle.port_tables.specs.declared.roles.PortRole.{PortRole}
use Rattle.port_tables.specs.Lists.{Among, Distinct, among_at}
use Rattle.port_tables.specs.Numbering.{distinct_ends}
use Rattle.port_tables.specs.Ports.{is_output, starts, ends_of, ports_of}
use Rattle.port_tables.specs.PortMaps.{HasKnownPorts, IsPort, IsPortIf, port_at}
use Rattle.port_rows.specs.Levels.{Level, AreApart}
use Rattle.port_rows.specs.Rows.{IsInputRole}
use Rattle.port_rows.specs.Given.{Given, levels_of, given_levels, IsInputGiven, IsAlone, AreGivenOnce}
use Rattle.port_rows.specs.Blocks.{RoleLevel, EndLevels, IsGivenRole, AreGivenRoles, IsNoRoleOf, AreOnce, AreEndInputs, AllAreEndInputs, given_at, given_of, end_levels}
use Rattle.port_rows.proofs.input_places.ApartLemmas.{InputsAreApart, given_apart}

-- none of these is for this end
abbrev NoneAt : EndId → List Given → Type 0
NoneAt end [] = Unit {0}
NoneAt end (one ∷ later) = (end ≡ one.end → ⊥) × NoneAt end later

-- what is given at another end is for that
none_there : (end other : EndId) (levels : List RoleLevel) (later : List Given) → (end ≡ other → ⊥) → NoneAt end later → NoneAt end (map (given_at other) levels ++ later)
none_there end other [] later apart none = none
none_there end other (one ∷ levels) later apart none = (apart, none_there end other levels later apart none)

none_among : (end : EndId) (ends : List EndLevels) → (Among end (map (λ (g : EndLevels). g.end) ends) → ⊥) → NoneAt end (flat_map given_of ends)
none_among end [] apart = tt
none_among end (one ∷ later) apart = none_there end one.end one.levels (flat_map given_of later) (λ same. apart (inl (sym same))) (none_among end later (λ a. apart (inr a)))

alone : (end : EndId) (one : RoleLevel) (levels : List RoleLevel) (later : List Given) → IsNoRoleOf one.role levels → NoneAt end later → IsAlone (given_at end one) (map (given_at end) levels ++ later)
alone end one [] [] roles none = tt
alone end one [] (other ∷ later) roles none = (λ same _. none.0 same, alone end one [] later roles none.1)
alone end one (other ∷ levels) later roles none = (λ _ same. roles.0 same, alone end one levels later roles.1 none)

module _ (system : SystemTable) (ports : HasKnownPorts system) where
  as_input : (width : ℕ) (end : EndId) (there : Finished) (role : PortRole) (place : Option ℕ) (k : ℕ) → is_output (starts there) role ≡ false → place ≡ Some k
      → IsPortIf (ports_of system) (is_output (starts there) role) width place → (w : ℕ) × IsInputPort (ports_of system) k w
  as_input width end there role place k input at is =
      let port : IsPort (ports_of system) (is_output (starts there) role) width k = subst (IsPortIf (ports_of system) (is_output (starts there) role) width) at is in
      (width, record { port = port.port; is = port.is; input = port.output_is ∙ input; width = port.width_is })

  role_is_input : (end : EndId) (there : Finished) (role : PortRole) → Among end (ends_of system) → known_at system end ≡ there → IsGivenRole there role → IsInputRole system end role
  role_is_input end there role among known given = subst (IsInputRole system end) given.role_is
      (λ k at. as_input given.port.width end there given.port.role (port_at system end given.port.role) k given.input at (ports.known end there given.port among known given.may))

  one_end : (end : EndId) (there : Finished) (levels : List RoleLevel) (later : List Given) → Among end (ends_of system) → known_at system end ≡ there → AreGivenRoles there levels → AreOnce levels
      → NoneAt end later → AreGivenOnce system later → AreGivenOnce system (map (given_at end) levels ++ later)
  one_end end there [] later among known inputs once none rest = rest
  one_end end there (one ∷ levels) later among known inputs once none rest = (
    record { among = among; input = role_is_input end there one.role among known inputs.0 },
    alone end one levels later once.0 none,
    one_end end there levels later among known inputs.1 once.1 none rest,
  )

  once_by_ends : (ends : List EndLevels) → Distinct (map (λ (g : EndLevels). g.end) ends) → ((end : EndId) → Among end (map (λ (g : EndLevels). g.end) ends) → Among end (ends_of system))
      → AllAreEndInputs system ends → AreGivenOnce system (flat_map given_of ends)
  once_by_ends [] distinct among all = tt
  once_by_ends (one ∷ later) distinct among all =
      let first : AreEndInputs system one = all.0 in
      one_end one.end first.there one.levels (flat_map given_of later) (among one.end (inl refl)) first.known first.inputs first.once (none_among one.end later distinct.0)
      (once_by_ends later distinct.1 (λ end a. among end (inr a)) all.1)

  by_ends : (ends : List EndLevels) → flat_map (end_levels system) ends ≡ given_levels system (flat_map given_of ends)
  by_ends [] = refl
  by_ends (one ∷ later) = ap (λ (ls : List Level). end_levels system one ++ ls) (by_ends later) ∙ sym (flat_map-append (levels_of system) (given_of one) (flat_map given_of later))

  pub ends_apart : (law : InputsAreApart) (ends : List EndLevels) → map (λ (g : EndLevels). g.end) ends ≡ ends_of system → AllAreEndInputs system ends → AreApart (flat_map (end_levels system) ends)
  ends_apart law ends are all =
      let distinct : Distinct (map (λ (g : EndLevels). g.end) ends) = subst Distinct (sym are) (distinct_ends system ports.planned) in
      let once = once_by_ends ends distinct (λ end a. subst (Among end) are a) all in
      subst AreApart (sym (by_ends ends)) (given_apart system law ports (flat_map given_of ends) once)
