-- What holds in every run, whatever the askers do: a beat that is taken above is taken below, and a word finds the asker whose
-- tag it bears.
use Rattle.std.specs.Prelude.{◌≡◌, ℕ, true, false, List, [], ◌∷◌}
use Rattle.histories.specs.History.{is_raised}
use Rattle.netlist.specs.Netlists.{Netlist}
use Rattle.netlist.specs.Runs.{Cycle, Run, cycle_of, IsEndlessRun}
use Rattle.netlist.specs.Longer.{Extends}
use Rattle.command_nets.specs.declared.nets.CommandNets.{CommandNets}
use Rattle.command_nets.specs.Nets.{raw_in}
use Rattle.mm_arbiter.specs.declared.asker.Asker.{Asker}
use Rattle.mm_arbiter.specs.declared.back.BackNets.{BackNets}
use Rattle.mm_arbiter.specs.declared.back.BelowNets.{BelowNets}

-- what an asker shows where it doesn't wait is shown below, where nothing waits either; and a word under the asker's tag comes to
-- it
pub record IsPassed (cycle : Cycle) (host : ℕ) (above command : CommandNets) (below : BelowNets) (back : BackNets) : Type 0 where
  pub shown : is_raised (cycle.net back.wait.number) ≡ false → raw_in cycle command ≡ raw_in cycle above
  pub taken : is_raised (cycle.net back.wait.number) ≡ false → is_raised (cycle.net below.wait.number) ≡ false
  pub came : is_raised (cycle.net below.answer.valid.number) ≡ true → cycle.net below.tag.number ≡ host
      → is_raised (cycle.net back.answer.valid.number) ≡ true

-- so it is for each asker
abbrev pub ArePassed : Cycle → CommandNets → BelowNets → List Asker → List CommandNets → List BackNets → Type 0
ArePassed cycle command below (asker ∷ askers) (above ∷ commands) (back ∷ backs) =
    IsPassed cycle asker.host above command below back × ArePassed cycle command below askers commands backs
ArePassed cycle command below askers commands backs = Unit {0}

-- in each cycle of every endless run of each longer netlist
abbrev pub PassesOn : Netlist → List Asker → List CommandNets → CommandNets → BelowNets → List BackNets → Type 0
PassesOn netlist askers commands command below backs =
    (longer : Netlist) → Extends netlist longer → (run : Run) → IsEndlessRun longer run → (c : ℕ)
    → ArePassed (cycle_of run c) command below askers commands backs
