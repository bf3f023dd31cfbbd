-- The nets of a demultiplexer, and that they are the machine of one.
use Rattle.std.specs.Prelude.{ℕ, ◌+◌, ◌^◌, ◌<◌, ◌≡◌, ◌==◌, List, length}
use Rattle.std.proofs.Common.{refl, ap, arith, get_or}
use Rattle.std.proofs.Math.Nat.{mod-eq_of_lt}
use Rattle.netlist.specs.Nets.{NetValue}
use Rattle.netlist.specs.Netlists.{Netlist}
use Rattle.netlist.specs.Runs.{Run, cycle_of, Always, IsEndlessRun, IsValuation}
use Rattle.netlist.specs.Longer.{Extends}
use Rattle.stream_runs.specs.Source.{IsLegalSource}
use Rattle.routed_runs.specs.Demultiplexed.{Demultiplexer, DemultiplexerRun, input_side, IsDemultiplexed}
use Rattle.routed_runs.specs.Demultiplexing.{IsDemultiplexerRun}
use Rattle.st_mux.specs.declared.packet.PacketNets.{PacketNets}
use Rattle.st_mux.specs.Packets.{packet_view}
use Rattle.st_mux.specs.Selecting.{Selects}
use Rattle.st_mux.specs.Each.{AreSetWhere, shown_on}

-- a run of a demultiplexer: the beat of the input, its channel and its ready, and at each output that beat, with a valid and a
-- ready of its own
abbrev pub demultiplexer_run : Run → PacketNets → NetValue → NetValue → List NetValue → List NetValue → DemultiplexerRun
demultiplexer_run run from channel ready valids readies =
    record {
      input = packet_view run from (λ c. run.net c channel.number) ready;
      outputs = λ k. packet_view run (record from { valid = get_or valids k from.valid }) (λ c. 0) (get_or readies k from.valid);
    }

-- in each endless run of each longer netlist they are a demultiplexer as long as the input is legal
abbrev pub DemultiplexesInLonger : Netlist → PacketNets → NetValue → NetValue → List NetValue → List NetValue → Type 0
DemultiplexesInLonger netlist from channel ready valids readies =
    (longer : Netlist) → Extends netlist longer → (run : Run) → IsEndlessRun longer run
    → (demux : Demultiplexer) → demux.outputs ≡ length readies → (count : ℕ)
    → IsLegalSource (input_side demux) (packet_view run from (λ c. run.net c channel.number) ready) count
    → IsDemultiplexed demux (demultiplexer_run run from channel ready valids readies) count

-- ---- laws. No contract reads a proof of these

pub demultiplexer_between : (netlist : Netlist) (run : Run) (from : PacketNets) (channel ready : NetValue)
    (valids readies : List NetValue) (bits : ℕ) (demux : Demultiplexer)
    → IsEndlessRun netlist run
    → Always netlist (AreSetWhere (shown_on from.valid channel) valids)
    → Always netlist (λ cycle. Selects (λ item. cycle.net item.number) (cycle.net channel.number) bits readies ready)
    → Always netlist (λ cycle. cycle.net channel.number < 2 ^ bits) → length valids ≡ length readies
    → demux.outputs ≡ length readies
    → IsDemultiplexerRun demux (demultiplexer_run run from channel ready valids readies)
demultiplexer_between netlist run from channel ready valids readies bits demux endless shown selected fits lengths outputs =
    record {
      valid = λ c k is_output. shown (cycle_of run c) (here c) from.valid k (omega (arith, is_output, lengths, outputs));
      beat = λ c k is_output high. refl;
      ready =
          λ c is_output. ap (λ n. n == 1)
          (selected (cycle_of run c) (here c) from.valid (run.net c channel.number) (omega (arith, is_output, outputs))
          (mod-eq_of_lt (fits (cycle_of run c) (here c))));
    }
  where
    here : (c : ℕ) → IsValuation netlist (cycle_of run c)
    here c = (endless (c + 1)).valuations c (omega arith)
