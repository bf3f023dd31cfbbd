-- The plan of files, and what refuses them.
use Rattle.std.specs.Prelude.{◌≡◌, ℕ, List, Option, None, ◌⊎◌}
use Rattle.av_base.specs.declared.faults.Place.{Place}
use Rattle.script_words.specs.declared.faults.ScriptRule.{ScriptRule}
use Rattle.system_tables.specs.Tables.{SystemTable}
use Rattle.address_map.specs.Footprints.{footprints}
use Rattle.address_map.specs.MapRules.{KeepsMapRules, IsFirstRefused as IsFirstInMaps}
use Rattle.link_rules.specs.declared.faults.LinkRule.{LinkRule}
use Rattle.link_rules.specs.declared.faults.LinkRule.TheVariants.{Map}
use Rattle.link_rules.specs.Links.{KeepsLinkRules, limit_tests, IsPassedLimit, IsFirstRefused as IsFirstOfEnds}
use Rattle.link_rules.specs.Pairs.{KeepsAll}
use Rattle.link_rules.specs.Plans.{PlanTable, IsPlan}
use Rattle.system_plan.specs.declared.faults.Refusal.{Refusal}
use Rattle.system_plan.specs.declared.faults.Refusal.TheVariants.{Script, Link, Limit, NoMemory}
use Rattle.system_plan.specs.Systems.{IsSystemOf, IsScriptRefused}

-- all connections keep the rules on maps
abbrev pub FitsMaps : SystemTable → Type 0
FitsMaps system = (k : ℕ) → KeepsMapRules (footprints system) k

-- the least connection that breaks an A rule, with the least that it breaks, and at A2 the connection that it overlaps
pub record IsMapRefused (system : SystemTable) (connection : ℕ) (rule : LinkRule) (other : Option ℕ) : Type 0 where
  pub number : ℕ
  pub refused : IsFirstInMaps (footprints system) connection number other
  pub rule_is : rule ≡ Map number

-- where no connection breaks an A rule, the least that breaks a P or S rule, with the least that it breaks
pub record AreEndsRefused (system : SystemTable) (connection : ℕ) (rule : LinkRule) (other : Option ℕ) : Type 0 where
  pub maps : FitsMaps system
  pub refused : IsFirstOfEnds system connection rule
  pub alone : other ≡ None

-- a rule on connections refuses the system at this connection
abbrev pub IsConnectionRefused : SystemTable → ℕ → LinkRule → Option ℕ → Type 0
IsConnectionRefused system connection rule other =
    IsMapRefused system connection rule other ⊎ AreEndsRefused system connection rule other

-- the connections keep all rules, and this is the least limit that the system passes
pub record IsTooLarge (system : SystemTable) (which count : ℕ) : Type 0 where
  pub maps : FitsMaps system
  pub passed : IsPassedLimit system which count

-- a rule on connections refuses the system of the files at this connection
pub record IsLinkRefused (files : List (List ℕ)) (connection : ℕ) (rule : LinkRule) (other : Option ℕ) : Type 0 where
  pub system : SystemTable
  pub stated : IsSystemOf files system
  pub refused : IsConnectionRefused system connection rule other

-- the system of the files passes this limit
pub record IsLimitPassed (files : List (List ℕ)) (which count : ℕ) : Type 0 where
  pub system : SystemTable
  pub stated : IsSystemOf files system
  pub passed : IsTooLarge system which count

-- no rule and no limit refuses the files
pub record IsAccepted (files : List (List ℕ)) : Type 0 where
  pub system : SystemTable
  pub stated : IsSystemOf files system
  pub maps : FitsMaps system
  pub links : (k : ℕ) → KeepsLinkRules system k
  pub limits : KeepsAll (limit_tests system)

-- a plan of the files' own system
pub record IsPlanned (files : List (List ℕ)) (plan : PlanTable) : Type 0 where
  pub stated : IsSystemOf files plan.system
  pub is_plan : IsPlan plan

-- an answer other than a plan of the system is what refuses its connections, or want of memory
abbrev pub IsSystemCause : SystemTable → Refusal → Type 0
IsSystemCause system (Link connection rule other) = IsConnectionRefused system connection rule other
IsSystemCause system (Limit which count) = IsTooLarge system which count
IsSystemCause system (Script place rule) = ⊥
IsSystemCause system NoMemory = Unit {0}

-- an answer of what reads scripts is what refuses them, or want of memory
abbrev pub IsScriptCause : (Place → ScriptRule → Type 0) → Refusal → Type 0
IsScriptCause refuses (Script place rule) = refuses place rule
IsScriptCause refuses (Link connection rule other) = ⊥
IsScriptCause refuses (Limit which count) = ⊥
IsScriptCause refuses NoMemory = Unit {0}

-- a rule or a limit refuses the files, and no earlier one does; want of memory is no such refusal
abbrev pub IsRefusedBy : List (List ℕ) → Refusal → Type 0
IsRefusedBy files (Script place rule) = IsScriptRefused files place rule
IsRefusedBy files (Link connection rule other) = IsLinkRefused files connection rule other
IsRefusedBy files (Limit which count) = IsLimitPassed files which count
IsRefusedBy files NoMemory = ⊥

-- an answer other than a plan is what refuses the files, or want of memory
abbrev pub IsCause : List (List ℕ) → Refusal → Type 0
IsCause files refusal = (refusal ≡ NoMemory) ⊎ IsRefusedBy files refusal
