-- What is known of the statements of a script, one after another.
use Rattle.std.proofs.Common.{◌≡◌, ◌+◌, ◌<◌, ◌≤◌, ℕ, suc, List, length, drop, get_or, sym, subst, add-one, drop-cons}
use Rattle.std.proofs.lemmas.List.{drop_all}
use Rattle.scenario_tables.specs.declared.statements.AgentStatement.{AgentStatement}
use Rattle.port_rows.specs.Agents.{AllHoldBytes, HoldsBytes}

-- where those from a place on hold bytes, all do
abbrev pub HoldIfLater : List AgentStatement → ℕ → Type 0
HoldIfLater script index = AllHoldBytes (drop index script) → AllHoldBytes script

pub one_held : (script : List AgentStatement) (index : ℕ) (item : AgentStatement) → index < length script → item ≡ get_or script index item → HoldsBytes item → HoldIfLater script index
    → HoldIfLater script (index + 1)
one_held script index item inside is held before later =
    before (subst AllHoldBytes (sym (drop-cons script index item inside)) (subst HoldsBytes is held, subst (λ (n : ℕ). AllHoldBytes (drop n script)) (add-one index) later))

pub all_held : (script : List AgentStatement) (index : ℕ) → length script ≤ index → HoldIfLater script index → AllHoldBytes script
all_held script index over before = before (subst AllHoldBytes (sym (drop_all index script over)) tt)
