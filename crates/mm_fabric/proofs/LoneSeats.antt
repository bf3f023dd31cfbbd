-- A host with a seat at its only agent: what comes back from there bounds its reads.
use Rattle.std.proofs.Common.{◌≡◌, ℕ, zero, suc, ◌+◌, ◌-◌, ◌*◌, ◌<◌, ◌≤◌, true, false, not, ◌&&◌, nat_lt, List, [], ◌∷◌, refl, sym, subst, ap, ◌∙◌, arith}
use Rattle.std.specs.List.{AllZip}
use Rattle.std.proofs.lemmas.Bool.{and_parts, ltb-true}
use Rattle.histories.specs.History.{is_raised, one_if}
use Rattle.iface_roles.specs.declared.records.AgentPort.{AgentPort}
use Rattle.netlist.specs.Nets.{NetValue}
use Rattle.netlist.specs.Netlists.{Netlist}
use Rattle.netlist.specs.Runs.{Run, cycle_of}
use Rattle.netlist.specs.Longer.{Extends}
use Rattle.net_parts.specs.Laws.{extends_twice}
use Rattle.memory_machines.specs.Machines.{Raw}
use Rattle.memory_runs.specs.declared.sides.route.Route.{Route}
use Rattle.mm_route.specs.declared.back.BackNets.{BackNets}
use Rattle.mm_host.specs.Reads.{unanswered_in}
use Rattle.mm_agent.specs.Agents.{counts_words}
use Rattle.mm_fabric.specs.declared.begun.BegunHost.{BegunHost}
use Rattle.mm_fabric.specs.declared.parts.AgentPart.{AgentPart}
use Rattle.mm_fabric.specs.declared.parts.Seat.{Seat}
use Rattle.mm_fabric.specs.Bounds.{reads_at, bears_few}
use Rattle.mm_fabric.specs.Tells.{IsBackFor}
use Rattle.mm_fabric.specs.Lone.{IsLoneWay, IsBoundedRoute}
use Rattle.mm_fabric.proofs.Known.{always_valued}
use Rattle.mm_fabric.proofs.Telling.{same_seat}

bears_parts : (stages : ℕ) (agent : AgentPort) → bears_few stages agent ≡ true → (agent.reads ≡ true) × ((counts_words agent ≡ false) × (reads_at agent + 3 * stages < 16))
bears_parts stages agent bears =
    let few = and_parts (agent.reads && nat_lt agent.burst_bits 2) (nat_lt (reads_at agent + 3 * stages) 16) bears in
    let words = and_parts agent.reads (nat_lt agent.burst_bits 2) few.0 in
    let small = ltb-true agent.burst_bits 2 words.1 in
    (words.0, (one_word agent.burst_bits (omega (arith, small)), ltb-true (reads_at agent + 3 * stages) 16 few.1))
  where
    one_word : (bits : ℕ) → bits ≤ 1 → nat_lt 1 bits ≡ false
    one_word zero few = refl
    one_word (suc zero) few = refl
    one_word (suc (suc bits)) few = absurd (omega (arith, few))

pub lone_way_lasts : (old new : Netlist) (parts : List AgentPart) (number : ℕ) (begun : BegunHost) → IsLoneWay old parts number begun → Extends old new → IsLoneWay new parts number begun
lone_way_lasts old new parts number begun h e = record {
  lone = h.lone;
  route = h.route;
  only = h.only;
  seat = h.seat;
  has = h.has;
  beat = λ command only cycle v. h.beat command only cycle (e.valuations cycle v);
  back = h.back;
  stages = h.stages;
  bears = h.bears;
  bounds = λ reads plain host seat found longer f. h.bounds reads plain host seat found longer (extends_twice old new longer e f);
}

-- where a read is shown by both, as many are unanswered
unanswered_alike : (run : Run) (one other wait valid : NetValue) → ((c : ℕ) → is_raised (run.net c one.number) ≡ is_raised (run.net c other.number)) → (c : ℕ) → unanswered_in run one wait valid c ≡ unanswered_in run other wait valid c
unanswered_alike run one other wait valid same zero = refl
unanswered_alike run one other wait valid same (suc c) =
    ap (λ n. (n - one_if (is_raised (run.net c valid.number))) + one_if (is_raised (run.net c one.number) && not (is_raised (run.net c wait.number)))) (unanswered_alike run one other wait valid same c)
    ∙ ap (λ t. (unanswered_in run other wait valid c - one_if (is_raised (run.net c valid.number))) + one_if (t && not (is_raised (run.net c wait.number)))) (same c)

pub bounded_route : (netlist : Netlist) (parts : List AgentPart) (number : ℕ) (begun : BegunHost) (backs : List BackNets) → IsLoneWay netlist parts number begun → AllZip (IsBackFor number parts) begun.routes backs →
    IsBoundedRoute netlist begun.routes begun.trunk.host.command begun.commands.items backs
bounded_route netlist parts number begun backs way zipped = record {
  lone = way.lone;
  few = λ below back one other longer e run endless c. (
      let last : IsBackFor number parts way.route back =
      (subst (λ (rs : List Route). AllZip (IsBackFor number parts) rs (back ∷ [])) way.only (subst (λ (bs : List BackNets). AllZip (IsBackFor number parts) begun.routes bs) other zipped)).0 in
      let is : back ≡ way.seat.back = last.is ∙ ap (λ (s : Seat). s.told) (same_seat number parts way.route last.seat way.seat last.has way.has) ∙ sym way.back in
      let shown : (k : ℕ) → is_raised (run.net k below.read.number) ≡ is_raised (run.net k way.seat.command.read.number) = λ k. sym (ap (λ (r : Raw). is_raised r.levels.read) (way.beat below one (cycle_of run k) (always_valued netlist longer e run endless k))) in
      let bears = bears_parts way.stages way.has.part.port way.bears in
      let most = way.bounds bears.0 bears.1.0 number way.seat way.has.leads longer e run endless c in
      let same = unanswered_alike run below.read way.seat.command.read way.seat.back.wait way.seat.back.answer.valid shown c in
      let few = bears.1.1 in
      subst (λ (b : BackNets). unanswered_in run below.read b.wait b.answer.valid c ≤ 15) (sym is) (omega (arith, most, same, few))
      );
}
