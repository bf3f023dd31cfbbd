-- The cutters of joined hosts, and what they lead to.
use Rattle.std.proofs.Common.{ℕ, ◌<◌, ◌≤◌, arith, IsTrue, IsFalse, ◌≡◌, Bool, true, false}
use Rattle.memory_runs.specs.Commands.{shows}
use Rattle.histories.specs.History.{is_raised}
use Rattle.memory_machines.specs.Link.{Port, Target}
use Rattle.memory_awake.specs.Rows.{CutsBursts, CutsBursts.cutter, CutsBursts.no_cutter}
use Rattle.memory_awake.specs.Wires.{IsWire}
use Rattle.memory_waits.specs.Waits.{LeadsDown}
use Rattle.memory_waits.proofs.Cuts.{cut_leads}
use Rattle.memory_waits.proofs.Wire.{wire_leads, leads_behind_wire}
use Rattle.memory_runs.specs.Views.{System, Run}
use Rattle.memory_runs.specs.Order.{is_joined}
use Rattle.memory_awake.specs.RowSystem.{RowPorts, AreRows}
use Rattle.memory_waits.proofs.Bits.{no_both}

-- a cutter, or a wire, and a wire behind it
pub cuts_lead : (target : Target) (up middle down : Port) (most end : ℕ) → CutsBursts up middle → IsWire middle down →
    ((c : ℕ) → c < end → IsTrue (shows up.commands.signals c) → IsFalse (is_raised (up.commands.write c)) → up.commands.count c ≤ most) → (held : ℕ → ℕ) × LeadsDown target up down held most end
cuts_lead target up middle down most end (cutter reach longest state plan runs) wire short =
    ((λ c. (state.rest c).left), leads_behind_wire middle down wire target up (λ c. (state.rest c).left) most end (cut_leads target reach longest up middle state end most runs plan.goes plan.same short))
cuts_lead target up middle down most end (no_cutter wired) wire short =
    ((λ c. 0), more_room (leads_behind_wire middle down wire target up (λ c. 0) 0 end (wire_leads up middle wired.wire target end)))
  where
    more_room : LeadsDown target up down (λ c. 0) 0 end → LeadsDown target up down (λ c. 0) most end
    more_room leads = record {
      few = λ c fit. omega arith;
      shown = leads.shown;
      fewer = leads.fewer;
      stays = leads.stays;
      taken = leads.taken;
      stands = leads.stands;
      through = leads.through;
      asked = leads.asked;
      words = leads.words;
    }

-- between a host and an agent that it is joined to there are links
pub joined_cuts : (system : System) (run : Run) (ports : RowPorts) (end h a : ℕ) (rows : AreRows system run ports end) → h < system.hosts → a < system.agents → IsTrue (is_joined system a h) → (b : Bool) → rows.idle h a ≡ b → CutsBursts (ports.after_route h a) (ports.below_cutter h a)
joined_cuts system run ports end h a rows low there joined true e = absurd (no_both (is_joined system a h) joined (rows.apart h a low there e).0)
joined_cuts system run ports end h a rows low there joined false e = rows.cuts h a low there e
