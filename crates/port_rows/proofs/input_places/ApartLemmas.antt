-- Inputs that are given once have places of their own.
use Rattle.std.proofs.Common.{◌≡◌, ◌≢◌, ℕ, List, [], ◌∷◌, ◌++◌, flat_map, Option, Some, None, refl, sym, subst, ◌∙◌}
use Rattle.system_tables.specs.declared.tables.EndId.{EndId}
use Rattle.system_tables.specs.Tables.{SystemTable}
use Rattle.netlist.specs.declared.line.PortLine.{PortLine}
use Rattle.netlist.specs.Netlists.{IsInputPort, input_net}
use Rattle.port_tables.specs.Ports.{ports_of}
use Rattle.port_tables.specs.PortMaps.{HasKnownPorts, port_at}
use Rattle.port_rows.specs.Levels.{Level, level_if, IsLeftOut, AreApart}
use Rattle.port_rows.specs.Rows.{place_among}
use Rattle.port_rows.specs.Given.{Given, levels_of, given_levels, IsInputGiven, IsAlone, AreGivenOnce}

abbrev pub InputsAreApart : Type 0
InputsAreApart = (ports : List PortLine) (j k v w : ℕ) → IsInputPort ports j v → IsInputPort ports k w → input_net ports j ≡ input_net ports k → j ≡ k

-- what an input sets, where its port has this number
abbrev set_at : SystemTable → Option ℕ → ℕ → List Level
set_at system port bits = level_if (place_among (ports_of system) port) bits

-- a place is left out by both
left_out_of_both : (place : ℕ) (one other : List Level) → IsLeftOut place one → IsLeftOut place other → IsLeftOut place (one ++ other)
left_out_of_both place [] other h g = g
left_out_of_both place (level ∷ later) other h g = (h.0, left_out_of_both place later other h.1 g)

-- the place of one input is none of another's
left_out_of_one : (system : SystemTable) (law : InputsAreApart) (known : HasKnownPorts system) (one other : Given) (j : ℕ) → IsInputGiven system one → IsInputGiven system other
    → port_at system one.end one.role ≡ Some j → (one.end ≡ other.end → one.role ≡ other.role → ⊥)
    → (port : Option ℕ) → port_at system other.end other.role ≡ port → IsLeftOut (input_net (ports_of system) j) (set_at system port other.bits)
left_out_of_one system law known one other j is_one is_other at apart None e = tt
left_out_of_one system law known one other j is_one is_other at apart (Some k) e =
    let mine = is_one.input j at in
    let its = is_other.input k e in
    let differ : input_net (ports_of system) j ≢ input_net (ports_of system) k = λ same.
    let number : j ≡ k = law (ports_of system) j k mine.0 its.0 mine.1 its.1 same in
    let here : port_at system other.end other.role ≡ Some j = subst (λ (n : ℕ). port_at system other.end other.role ≡ Some n) (sym number) e in
    let role = known.one_role one.end other.end one.role other.role j is_one.among is_other.among at here in
    apart role.end role.role in
    (differ, tt)

left_out : (system : SystemTable) (law : InputsAreApart) (known : HasKnownPorts system) (one : Given) (j : ℕ) → IsInputGiven system one → port_at system one.end one.role ≡ Some j
    → (later : List Given) → IsAlone one later → AreGivenOnce system later → IsLeftOut (input_net (ports_of system) j) (given_levels system later)
left_out system law known one j is_one at [] alone once = tt
left_out system law known one j is_one at (other ∷ later) alone once =
    left_out_of_both (input_net (ports_of system) j) (levels_of system other) (given_levels system later)
    (left_out_of_one system law known one other j is_one once.0 at alone.0 (port_at system other.end other.role) refl)
    (left_out system law known one j is_one at later alone.1 once.2)

one_more : (system : SystemTable) (law : InputsAreApart) (known : HasKnownPorts system) (one : Given) (later : List Given) → IsInputGiven system one → IsAlone one later → AreGivenOnce system later
    → AreApart (given_levels system later) → (port : Option ℕ) → port_at system one.end one.role ≡ port → AreApart (set_at system port one.bits ++ given_levels system later)
one_more system law known one later is_one alone once apart None e = apart
one_more system law known one later is_one alone once apart (Some j) e = (left_out system law known one j is_one e later alone once, apart)

pub given_apart : (system : SystemTable) (law : InputsAreApart) (known : HasKnownPorts system) (given : List Given) → AreGivenOnce system given → AreApart (given_levels system given)
given_apart system law known [] once = tt
given_apart system law known (one ∷ later) once =
    one_more system law known one later once.0 once.1 once.2 (given_apart system law known later once.2) (port_at system one.end one.role) refl
