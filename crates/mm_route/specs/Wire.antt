-- A route that is a wire: what the two calls leave in a netlist where nothing is to be chosen.
use Rattle.std.specs.Prelude.{◌≡◌, ℕ, Bool, true, false, not, ◌&&◌, ◌||◌, List, [], ◌∷◌}
use Rattle.std.proofs.Common.{refl}
use Rattle.histories.specs.History.{is_raised}
use Rattle.netlist.specs.Nets.{NetValue}
use Rattle.netlist.specs.Netlists.{Netlist, IsWaiting}
use Rattle.netlist.specs.Runs.{Cycle, Always}
use Rattle.netlist.specs.Longer.{Extends}
use Rattle.net_parts.specs.Nets.{IsBit, StartsLow}
use Rattle.net_parts.specs.Laws.{net_lasts}
use Rattle.command_nets.specs.declared.nets.CommandNets.{CommandNets}
use Rattle.command_nets.specs.declared.nets.AnswerNets.{AnswerNets}
use Rattle.command_nets.specs.Nets.{AreCommandNets}
use Rattle.command_nets.specs.Groups.{command_lasts}
use Rattle.memory_runs.specs.declared.sides.route.Route.{Route}
use Rattle.mm_route.specs.declared.back.BackNets.{BackNets}
use Rattle.mm_route.specs.declared.wire.HeldWire.{HeldWire}
use Rattle.mm_route.specs.Entries.{AreEntries}
use Rattle.mm_route.specs.Taken.{reads_in, EachStep}

-- the command below: the one above under the host's number
abbrev pub below_wire : HeldWire → CommandNets
below_wire wire = record wire.command { tag = wire.tag }

-- between the calls: the nets stand, and the register waits
pub record WireKeeps (wire : HeldWire) (entries : ℕ) (netlist : Netlist) : Type 0 where
  pub one : entries ≡ 1
  pub owing : IsBit netlist wire.owing
  pub waits : IsWaiting netlist wire.owing.number
  pub command : AreCommandNets netlist wire.command

-- after the first call: the command above goes on to the only agent
pub record WireForward (entries : List Route) (host : ℕ) (command : CommandNets) (commands : List CommandNets) (wire : HeldWire)
    (netlist : Netlist) : Type 0 where
  pub command_is : wire.command ≡ command
  pub entries_are : AreEntries wire.command.address.width entries
  pub nets : AreCommandNets netlist wire.command
  pub only : commands ≡ below_wire wire ∷ []
  pub starts : StartsLow netlist wire.owing
  pub tag : Always netlist (λ cycle. cycle.net wire.tag.number ≡ host)

-- the answer above is that of the only agent, once a read was taken
abbrev pub IsOwed : Cycle → NetValue → BackNets → AnswerNets → Type 0
IsOwed cycle owing back answer =
    is_raised (cycle.net answer.valid.number)
    ≡ (is_raised (cycle.net owing.number) && is_raised (cycle.net back.answer.valid.number))

-- the register is high from the first read on that is taken
abbrev pub OwesOn : NetValue → CommandNets → NetValue → Cycle → Cycle → Type 0
OwesOn owing command wait cycle next =
    is_raised (next.net owing.number) ≡ (is_raised (cycle.net owing.number) || reads_in cycle command wait)

-- after the second call
pub record WireBackward (wire : HeldWire) (backs : List BackNets) (wait : NetValue) (answer : AnswerNets)
    (netlist : Netlist) : Type 0 where
  pub back : BackNets
  pub only : backs ≡ back ∷ []
  pub wait_is : wait ≡ back.wait
  pub word : answer.word ≡ back.answer.word
  pub code : answer.code ≡ back.answer.code
  pub valid : Always netlist (λ cycle. IsOwed cycle wire.owing back answer)
  pub next : EachStep netlist (OwesOn wire.owing wire.command wait)

-- what a wire is to those above and below it. `below` is the only command, and `back` comes back from the only agent
pub record IsLoneRoute (netlist : Netlist) (wire : HeldWire) (command below : CommandNets) (back : BackNets) (wait : NetValue)
    (answer : AnswerNets) : Type 0 where
  pub read : below.read ≡ command.read
  pub write : below.write ≡ command.write
  pub wait_is : wait ≡ back.wait
  pub word : answer.word ≡ back.answer.word
  pub valid : Always netlist (λ cycle. IsOwed cycle wire.owing back answer)
  pub starts : StartsLow netlist wire.owing
  pub next : EachStep netlist (OwesOn wire.owing command wait)

-- ---- what stands lasts

pub wire_keeps_last : (wire : HeldWire) (entries : ℕ) (old new : Netlist) → WireKeeps wire entries old → Extends old new
    → ((n : ℕ) → n ≡ wire.owing.number → IsWaiting old n → IsWaiting new n) → WireKeeps wire entries new
wire_keeps_last wire entries old new h e w =
    record {
      one =
          h.one;
      owing =
          net_lasts old new wire.owing 1 e h.owing;
      waits =
          w wire.owing.number refl h.waits;
      command = command_lasts old new wire.command e h.command;
    }

pub wire_forward_lasts : (entries : List Route) (host : ℕ) (command : CommandNets) (commands : List CommandNets) (wire : HeldWire)
    (old new : Netlist) →
    WireForward entries host command commands wire old → Extends old new → WireForward entries host command commands wire new
wire_forward_lasts entries host command commands wire old new h e = record {
  command_is = h.command_is;
  entries_are = h.entries_are;
  nets = command_lasts old new wire.command e h.nets;
  only = h.only;
  starts = λ run cycles r. h.starts run cycles (e.runs run cycles r);
  tag = λ cycle v. h.tag cycle (e.valuations cycle v);
}

pub wire_backward_lasts : (wire : HeldWire) (backs : List BackNets) (wait : NetValue) (answer : AnswerNets) (old new : Netlist)
    → WireBackward wire backs wait answer old → Extends old new → WireBackward wire backs wait answer new
wire_backward_lasts wire backs wait answer old new h e = record {
  back = h.back;
  only = h.only;
  wait_is = h.wait_is;
  word = h.word;
  code = h.code;
  valid = λ cycle v. h.valid cycle (e.valuations cycle v);
  next = λ run cycles r. h.next run cycles (e.runs run cycles r);
}

pub lone_lasts : (old new : Netlist) (wire : HeldWire) (command below : CommandNets) (back : BackNets) (wait : NetValue)
    (answer : AnswerNets)
    → IsLoneRoute old wire command below back wait answer →
    Extends old new → IsLoneRoute new wire command below back wait answer
lone_lasts old new wire command below back wait answer h e = record {
  read = h.read;
  write = h.write;
  wait_is = h.wait_is;
  word = h.word;
  valid = λ cycle v. h.valid cycle (e.valuations cycle v);
  starts = λ run cycles r. h.starts run cycles (e.runs run cycles r);
  next = λ run cycles r. h.next run cycles (e.runs run cycles r);
}

-- a read is taken where it is shown and doesn't wait
pub read_taken : (cycle : Cycle) (command : CommandNets) (wait : NetValue)
    → reads_in cycle command wait ≡ (is_raised (cycle.net command.read.number) && not (is_raised (cycle.net wait.number)))
read_taken cycle command wait =
    by_level (is_raised (cycle.net command.read.number)) (is_raised (cycle.net command.write.number))
    (not (is_raised (cycle.net wait.number)))
  where
    by_level : (read write ready : Bool) → (((read || write) && ready) && read) ≡ (read && ready)
    by_level true write true = refl
    by_level true write false = refl
    by_level false true true = refl
    by_level false true false = refl
    by_level false false ready = refl
