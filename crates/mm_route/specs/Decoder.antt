-- What the decoder gives for a command.
use Rattle.std.specs.Prelude.{◌≡◌, ℕ, ◌-◌, Bool, List}
use Rattle.netlist.specs.Netlists.{Netlist}
use Rattle.netlist.specs.Runs.{Cycle, Always}
use Rattle.netlist.specs.Longer.{Extends}
use Rattle.net_parts.specs.Nets.{IsNetOfWidth, IsBit}
use Rattle.net_parts.specs.Laws.{net_lasts}
use Rattle.memory_runs.specs.declared.sides.route.Route.{Route}
use Rattle.mm_route.specs.declared.decoder.AskedNets.{AskedNets}
use Rattle.mm_route.specs.Entries.{kind_of, holds, hits}

-- the nets that the decoder reads are nets of this netlist
pub record AreAskedNets (netlist : Netlist) (asked : AskedNets) : Type 0 where
  pub address : IsNetOfWidth netlist asked.address asked.width
  pub write : IsBit netlist asked.write
  pub no_write : IsBit netlist asked.no_write
  pub turned : Always netlist (λ cycle. cycle.net asked.no_write.number ≡ 1 - cycle.net asked.write.number)

abbrev pub held_in : Cycle → AskedNets → Route → Bool
held_in cycle asked entry = holds entry (kind_of (cycle.net asked.write.number)) (cycle.net asked.address.number)

abbrev pub hits_in : Cycle → AskedNets → List Route → ℕ
hits_in cycle asked entries = hits entries (kind_of (cycle.net asked.write.number)) (cycle.net asked.address.number)

-- ---- laws. No contract reads a proof of these

pub asked_lasts : (a b : Netlist) (asked : AskedNets) → Extends a b → AreAskedNets a asked → AreAskedNets b asked
asked_lasts a b asked e h = record {
  address = net_lasts a b asked.address asked.width e h.address;
  write = net_lasts a b asked.write 1 e h.write;
  no_write = net_lasts a b asked.no_write 1 e h.no_write;
  turned = λ cycle v. h.turned cycle (e.valuations cycle v);
}
