-- A host whose only route is a wire: the reads that it has unanswered are those that are unanswered below the wire.
use Rattle.std.proofs.Common.{◌≡◌, ℕ, zero, suc, ◌+◌, ◌-◌, Bool, true, false, ◌&&◌, ◌||◌, List, refl, sym, ap, ◌∙◌, arith}
use Rattle.histories.specs.History.{is_raised, one_if}
use Rattle.iface_roles.specs.declared.records.HostPort.{HostPort}
use Rattle.netlist.specs.Nets.{NetValue}
use Rattle.netlist.specs.Netlists.{Netlist}
use Rattle.netlist.specs.Runs.{Cycle, Run, cycle_of, IsEndlessRun}
use Rattle.netlist.specs.Longer.{Extends}
use Rattle.net_parts.specs.Laws.{extends_twice}
use Rattle.memory_runs.specs.declared.sides.route.Route.{Route}
use Rattle.command_nets.specs.declared.nets.CommandNets.{CommandNets}
use Rattle.command_nets.specs.declared.nets.AnswerNets.{AnswerNets}
use Rattle.mm_route.specs.declared.back.BackNets.{BackNets}
use Rattle.mm_route.specs.declared.route.HeldRoute.{HeldRoute}
use Rattle.mm_route.specs.declared.wire.HeldWire.{HeldWire}
use Rattle.mm_route.specs.Entries.{is_lone}
use Rattle.mm_route.specs.Wire.{IsLoneRoute, lone_lasts, read_taken}
use Rattle.mm_route.specs.Lone.{RunsAsWire}
use Rattle.mm_host.specs.declared.host.HeldHost.{HeldHost}
use Rattle.mm_host.specs.declared.nets.HostAnswer.{HostAnswer}
use Rattle.mm_host.specs.Reads.{is_unbounded, unanswered_in, takes_in}
use Rattle.mm_host.specs.Forms.{RunsAsHost, RunsAsHostWhile}
use Rattle.mm_fabric.specs.Lone.{IsBoundedRoute}

-- as a cycle begins: both counts are one, and 0 as long as no read was taken
record IsSame (above below : ℕ) (owing : Bool) : Type 0 where
  same : above ≡ below
  none : owing ≡ false → below ≡ 0

-- ---- one step

owed_alike : (owing came valid taken : Bool) (above below : ℕ) → valid ≡ (owing && came) → IsSame above below owing → (above - one_if valid) + one_if taken ≡ (below - one_if came) + one_if taken
owed_alike true came valid taken above below e h = ap (λ t. (above - one_if t) + one_if taken) e ∙ ap (λ n. (n - one_if came) + one_if taken) h.same
owed_alike false came valid taken above below e h = let none = h.none refl in let same = h.same in omega (arith, none, same)

still_none : (owing came taken : Bool) (below : ℕ) → (owing ≡ false → below ≡ 0) → (owing || taken) ≡ false → (below - one_if came) + one_if taken ≡ 0
still_none true came taken below h e = cc
still_none false came true below h e = cc
still_none false came false below h e = let none = h refl in omega (arith, none)

-- ---- each cycle

module _ (netlist : Netlist) (wire : HeldWire) (command below : CommandNets) (back : BackNets) (wait : NetValue) (answer : AnswerNets) (lone : IsLoneRoute netlist wire command below back wait answer) (run : Run) (endless : IsEndlessRun netlist run) where
  next_cycle : (c : ℕ) → c + 1 ≡ suc c
  next_cycle c = omega arith

  abbrev Same : ℕ → Type 0
  Same c = IsSame (unanswered_in run command.read wait answer.valid c) (unanswered_in run command.read wait back.answer.valid c) (is_raised (run.net c wire.owing.number))

  step : (c : ℕ) → Same c → Same (suc c)
  step c same =
      let cycle : Cycle = cycle_of run c in
      let taken = takes_in cycle command.read wait in
      let valid = lone.valid cycle ((endless (c + 1)).valuations c (omega arith)) in
      let owes : is_raised (run.net (suc c) wire.owing.number) ≡ (is_raised (run.net c wire.owing.number) || taken) =
      ap (λ n. is_raised (run.net n wire.owing.number)) (sym (next_cycle c)) ∙ lone.next run (c + 2) (endless (c + 2)) c (omega arith) ∙ ap (λ t. is_raised (run.net c wire.owing.number) || t) (read_taken cycle command wait) in
      record {
        same = owed_alike (is_raised (run.net c wire.owing.number)) (is_raised (run.net c back.answer.valid.number)) (is_raised (run.net c answer.valid.number)) taken _ _ valid same;
        none = λ low. still_none (is_raised (run.net c wire.owing.number)) (is_raised (run.net c back.answer.valid.number)) taken _ same.none (sym owes ∙ low);
      }

  same_counts : (c : ℕ) → Same c
  same_counts zero = record { same = refl; none = λ _. refl }
  same_counts (suc c) = step c (same_counts c)

  unanswered_below : (c : ℕ) → unanswered_in run command.read wait answer.valid c ≡ unanswered_in run below.read back.wait back.answer.valid c
  unanswered_below c =
      (same_counts c).same
      ∙ ap (λ (told : NetValue). unanswered_in run command.read told back.answer.valid c) lone.wait_is
      ∙ ap (λ (read : NetValue). unanswered_in run read back.wait back.answer.valid c) (sym lone.read)

-- ---- the host

pub bounded_lasts : (old new : Netlist) (routes : List Route) (command : CommandNets) (commands : List CommandNets) (backs : List BackNets) → IsBoundedRoute old routes command commands backs → Extends old new → IsBoundedRoute new routes command commands backs
bounded_lasts old new routes command commands backs h e = record { lone = h.lone; few = λ below back one other longer f. h.few below back one other longer (extends_twice old new longer e f) }

-- it runs as its machine: where nothing next to it bounds its reads, its only agent does
pub lone_host_runs : (done : Netlist) (port : HostPort) (held : HeldHost) (made : HostAnswer) (routes : List Route) (commands : List CommandNets) (backs : List BackNets) (route : HeldRoute) (wait : NetValue) (answer : AnswerNets) →
    (is_unbounded held.reads ≡ true → IsBoundedRoute done routes held.command commands backs) → (is_lone routes held.command.address.width ≡ true → RunsAsWire done route held.command commands backs wait answer) →
    RunsAsHostWhile done port held wait answer made → RunsAsHost done port held wait answer made
lone_host_runs done port held made routes commands backs route wait answer bounded wired runs longer e run endless end =
    runs longer e run endless end
    (λ free c lt. (
    let way = bounded free in
    let w = wired way.lone in
    let most = way.few w.below w.back w.only_command w.only_back longer e run endless c in
    let same = unanswered_below longer w.wire held.command w.below w.back wait answer (lone_lasts done longer w.wire held.command w.below w.back wait answer w.lone e) run endless c in
    omega (arith, most, same)))
