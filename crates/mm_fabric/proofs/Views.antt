-- What a run shows at a host and at an agent of a fabric fits their ports.
use Rattle.std.proofs.Common.{◌≡◌, ℕ, zero, suc, ◌+◌, ◌*◌, ◌^◌, ◌<◌, Bool, true, false, not, List, Option, Some, None, IsTrue, if◌then◌else◌, nat_eq, refl, sym, ap, ◌∙◌, arith}
use Rattle.std.specs.Bool.{IsFalse}
use Rattle.std.proofs.lemmas.Nat.{pow_pos}
use Rattle.std.proofs.lemmas.Bool.{false≢true}
use Rattle.histories.specs.History.{is_raised}
use Rattle.netlist.specs.Nets.{NetValue}
use Rattle.netlist.specs.Netlists.{Netlist}
use Rattle.netlist.specs.Runs.{Cycle, Run, IsValuation, cycle_of}
use Rattle.net_parts.specs.Nets.{IsNetOfWidth}
use Rattle.net_parts.specs.Laws.{width_fits}
use Rattle.memory_runs.specs.Views.{HostSide, HostView, AgentSide, AgentView}
use Rattle.memory_runs.specs.Plan.{FitsPorts}
use Rattle.memory_runs.specs.Sides.{host_side, agent_side, burst_width}
use Rattle.memory_runs.specs.declared.sides.route.Route.{Route}
use Rattle.command_nets.specs.Ports.{HasNet, value_or, all_ones}
use Rattle.mm_host.specs.Hosts.{bursts}
use Rattle.mm_fabric.specs.declared.parts.HostPart.{HostPart}
use Rattle.mm_fabric.specs.declared.parts.AgentPart.{AgentPart}
use Rattle.mm_fabric.specs.Parts.{IsHostPart, IsAgentPart}
use Rattle.mm_fabric.specs.Fabrics.{seen_at_host, seen_at_agent}
use Rattle.mm_fabric.proofs.Levels.{level_fits, level_absent, bytes_fit, ones_fit, ones_are_all, either_below}

-- what `AreViews` asks at a host, and at an agent
pub record FitsHost (side : HostSide) (view : HostView) (end : ℕ) : Type 0 where
  pub ports : FitsPorts side.shape side.has_burst view.signals end
  pub one_word : (c : ℕ) → c < end → IsFalse side.has_readdatavalid → IsTrue (is_raised (view.read c)) → view.count c ≡ 1
  pub no_response : (c : ℕ) → c < end → IsFalse side.has_response → view.response c ≡ 0

pub record FitsAgent (side : AgentSide) (view : AgentView) (end : ℕ) : Type 0 where
  pub ports : FitsPorts side.shape side.has_burst view.signals end
  pub no_read : (c : ℕ) → c < end → IsFalse side.has_read → view.read c ≡ 0
  pub no_write : (c : ℕ) → c < end → IsFalse side.has_write → view.write c ≡ 0
  pub no_waitrequest : (c : ℕ) → c < end → IsFalse side.has_waitrequest → view.waitrequest c ≡ 0
  pub no_code : (c : ℕ) → c < end → IsFalse side.has_response → view.response c ≡ 0

-- a host that reads without readdatavalid has no bursts
plain_reader : (bits : ℕ) (valid reads : Bool) → (0 < bits → IsTrue reads → IsTrue valid) → IsFalse valid → reads ≡ true → not (nat_eq bits 0) ≡ false
plain_reader zero valid reads rule none some = refl
plain_reader (suc bits) valid reads rule none some = absurd (false≢true (sym none ∙ rule (omega arith) some))

-- a port that is high is there
high_is_there : (netlist : Netlist) (there : Bool) (bits : ℕ) (net : Option NetValue) → HasNet netlist there bits net → (cycle : Cycle) → is_raised (value_or 0 net cycle) ≡ true → there ≡ true
high_is_there netlist there bits None has cycle high = absurd (false≢true high)
high_is_there netlist there bits (Some net) has cycle high = has.0

module _ (netlist : Netlist) (run : Run) (valued : (c : ℕ) → IsValuation netlist (cycle_of run c)) (end : ℕ) where
  module _ (number : ℕ) (routes : List Route) (part : HostPart) (is : IsHostPart netlist number routes part) where
    pub host_fits : FitsHost (host_side part.port) (seen_at_host part run) end
    host_fits =
        let port = part.port in
        let nets = part.held.nets in
        let are = is.held.host in
        record {
          ports = record {
            enables = λ c low. level_fits netlist port.enables port.word_bytes (all_ones port.word_bytes) nets.byteenable are.byteenable (ones_fit port.word_bytes) (cycle_of run c) (valued c);
            all_lanes = λ lacks c low. ap (λ n. n + 1) (level_absent netlist port.enables port.word_bytes (all_ones port.word_bytes) nets.byteenable are.byteenable lacks (cycle_of run c)) ∙ ones_are_all port.word_bytes;
            word = λ c low. bytes_fit port.word_bytes (value_or 0 nets.writedata (cycle_of run c)) (level_fits netlist port.writes (port.word_bytes * 8) 0 nets.writedata are.writedata (pow_pos (port.word_bytes * 8)) (cycle_of run c) (valued c));
            one_beat = λ plain c low. level_absent netlist (bursts port) (burst_width port.burst_bits) 1 nets.burstcount are.burstcount plain (cycle_of run c);
          };
          one_word = λ c low none read.
              (let reads = high_is_there netlist port.reads 1 nets.read are.read (cycle_of run c) read in
              let plain = plain_reader port.burst_bits port.readdatavalid port.reads is.bounded.ports.burst_valid none reads in
              level_absent netlist (bursts port) (burst_width port.burst_bits) 1 nets.burstcount are.burstcount plain (cycle_of run c));
          no_response = λ c low none. level_absent netlist port.response 2 0 part.told.response is.told.response none (cycle_of run c);
        }

  module _ (stages : ℕ) (part : AgentPart) (is : IsAgentPart netlist stages part) where
    word_net : IsNetOfWidth netlist part.command.word (part.port.word_bytes * 8)
    word_net = record { is_net = is.command.word; has_width = is.word }

    enables_net : IsNetOfWidth netlist part.command.enables part.port.word_bytes
    enables_net = record { is_net = is.command.enables; has_width = is.enables }

    pub agent_fits : FitsAgent (agent_side part.port) (seen_at_agent part run) end
    agent_fits =
        let port = part.port in
        let nets = part.nets in
        let are = is.nets in
        record {
          ports = record {
            enables = λ c low. either_below port.enables (run.net c part.command.enables.number) (all_ones port.word_bytes) (2 ^ port.word_bytes) (width_fits netlist part.command.enables port.word_bytes enables_net (cycle_of run c) (valued c)) (ones_fit port.word_bytes);
            all_lanes = λ lacks c low. ap (λ b. (if b then run.net c part.command.enables.number else all_ones port.word_bytes) + 1) lacks ∙ ones_are_all port.word_bytes;
            word = λ c low. bytes_fit port.word_bytes (if port.writes then run.net c part.command.word.number else 0)
                (either_below port.writes (run.net c part.command.word.number) 0 (2 ^ (port.word_bytes * 8)) (width_fits netlist part.command.word (port.word_bytes * 8) word_net (cycle_of run c) (valued c)) (pow_pos (port.word_bytes * 8)));
            one_beat = λ plain c low. ap (λ b. if b then run.net c part.command.count.number else 1) plain;
          };
          no_read = λ c low none. level_absent netlist port.reads 1 0 part.made.read is.made.read none (cycle_of run c);
          no_write = λ c low none. ap (λ b. if b then run.net c part.command.write.number else 0) none;
          no_waitrequest = λ c low none. level_absent netlist port.waitrequest 1 0 nets.waitrequest are.waitrequest none (cycle_of run c);
          no_code = λ c low none. level_absent netlist port.response 2 0 nets.response are.response none (cycle_of run c);
        }
