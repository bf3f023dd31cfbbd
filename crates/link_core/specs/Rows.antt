-- Links that are begun: what each one has left stands in the netlist, and their registers are apart.
use Rattle.std.specs.Prelude.{◌≡◌, ◌⊎◌, ◌++◌, ℕ, List, [], ◌∷◌}
use Rattle.netlist.specs.Netlists.{Netlist, IsWaiting}
use Rattle.netlist.specs.Runs.{Cycle, IsValuation, SameState}
use Rattle.netlist.specs.Longer.{Extends}
use Rattle.command_nets.specs.Nets.{ShowSame}
use Rattle.command_nets.specs.declared.nets.CommandNets.{CommandNets}
use Rattle.link_core.specs.declared.row.Begun.{Begun}

module _ {L H : Type 0} (is_kept : L → H → Netlist → Type 0) (command_in : L → CommandNets → CommandNets → H → Netlist → Type 0)
    (owns : H → ℕ → Type 0) where
  -- a link is begun: it has made its command, and its registers wait
  pub record IsBegun (begun : Begun L H) (netlist : Netlist) : Type 0 where
    pub kept : is_kept begun.link begun.kept netlist
    pub made : command_in begun.link begun.from begun.to begun.kept netlist
    pub waits : (n : ℕ) → owns begun.kept n → IsWaiting netlist n

  -- a link's registers are none of the others'
  abbrev pub IsApart : Begun L H → List (Begun L H) → Type 0
  IsApart begun [] = Unit {0}
  IsApart begun (other ∷ others) = ((n : ℕ) → owns begun.kept n → ¬ owns other.kept n) × IsApart begun others

  abbrev pub AreBegun : List (Begun L H) → Netlist → Type 0
  AreBegun [] netlist = Unit {0}
  AreBegun (begun ∷ others) netlist = IsBegun begun netlist × (IsApart begun others × AreBegun others netlist)

-- the number is that of a register of one of these links
abbrev pub IsOfOne : {L H : Type 0} → (H → ℕ → Type 0) → List (Begun L H) → ℕ → Type 0
IsOfOne owns [] n = ⊥
IsOfOne owns (begun ∷ others) n = owns begun.kept n ⊎ IsOfOne owns others n

-- one more link is begun, between these commands, behind the others
pub record IsPushed {L H : Type 0} (link : L) (from to : CommandNets) (old new : List (Begun L H)) : Type 0 where
  pub kept : H
  pub is : new ≡ old ++ record { link = link; from = from; to = to; kept = kept } ∷ []

-- in each longer netlist the command below depends neither on wait nor on the answer of its cycle: with one state, one command
-- above leads to one below
abbrev pub IgnoresInLonger : Netlist → CommandNets → CommandNets → Type 0
IgnoresInLonger netlist from to =
    (longer : Netlist) → Extends netlist longer → (one other : Cycle) → IsValuation longer one → IsValuation longer other
    → SameState longer one other → ShowSame from one other → ShowSame to one other
