-- The nets of an arbiter as a machine: the seats, the sides above, and the side below.
use Rattle.std.specs.Prelude.{◌≡◌, ℕ, ◌<◌, true, false, ◌&&◌, ◌||◌, nat_eq, List, [], ◌∷◌, map, None, IfSome, IsTrue, IsFalse}
use Rattle.histories.specs.History.{is_raised}
use Rattle.netlist.specs.Netlists.{Netlist}
use Rattle.netlist.specs.Runs.{Run, Always, IsEndlessRun}
use Rattle.netlist.specs.Longer.{Extends}
use Rattle.memory_runs.specs.Views.{Shape}
use Rattle.memory_runs.specs.Commands.{shows, transfer_at}
use Rattle.memory_machines.specs.Link.{Port, takes}
use Rattle.memory_machines.specs.Lines.{TaggedPort}
use Rattle.memory_machines.specs.Turns.{Grant}
use Rattle.memory_parts.specs.Arbiter.{IsArbiterMachine}
use Rattle.histories.specs.Turns.{Seat, is_seated}
use Rattle.command_nets.specs.declared.nets.CommandNets.{CommandNets}
use Rattle.command_nets.specs.Nets.{port_in}
use Rattle.mm_arbiter.specs.declared.asker.Asker.{Asker}
use Rattle.mm_arbiter.specs.declared.back.BackNets.{BackNets}
use Rattle.mm_arbiter.specs.declared.back.BelowNets.{BelowNets}
use Rattle.mm_arbiter.specs.declared.arbiter.HeldArbiter.{HeldArbiter}
use Rattle.mm_arbiter.specs.Backward.{RoundBackward, lone_back}

-- the seats of the askers, in their order
abbrev pub seats_from : List Asker → List Seat
seats_from askers = map (λ (asker : Asker). record { host = asker.host; shares = asker.shares }) askers

-- each host has one seat at most
abbrev pub AreApart : List Seat → Type 0
AreApart [] = Unit {0}
AreApart (seat ∷ later) = (is_seated seat.host later ≡ false) × AreApart later

-- the side of each asker is that of its nets
abbrev pub AreSides : Shape → Run → List Asker → List CommandNets → List BackNets → (ℕ → Port) → Type 0
AreSides shape run (asker ∷ askers) (command ∷ commands) (back ∷ backs) up =
    (up asker.host ≡ port_in shape run command back.wait back.answer) × AreSides shape run askers commands backs up
AreSides shape run askers commands backs up = Unit {0}

-- the side below, with the tag of each answer
abbrev pub below_port : Shape → Run → CommandNets → BelowNets → TaggedPort
below_port shape run command below =
    record { port = port_in shape run command below.wait below.answer; answer_tag = λ c. run.net c below.tag.number }

-- a host without a seat shows nothing, and has the words that bear its tag
pub record IsOutside (up : Port) (down : TaggedPort) (host end : ℕ) : Type 0 where
  pub shape : up.shape ≡ down.shape
  pub silent : (c : ℕ) → c < end → IsFalse (shows up.commands.signals c)
  pub valid : (c : ℕ) → c < end
      → is_raised (up.answers.valid c) ≡ is_raised (down.answers.valid c) && nat_eq (down.answer_tag c) host
  pub word : (c : ℕ) → c < end → IsTrue (is_raised (up.answers.valid c)) → up.answers.word c ≡ down.answers.word c
  pub code : (c : ℕ) → c < end → IsTrue (is_raised (up.answers.valid c)) → up.answers.code c ≡ down.answers.code c

-- a beat that doesn't end its burst has `more` high
abbrev pub JoinsBeats : Port → ℕ → Type 0
JoinsBeats up end =
    (c : ℕ) → c < end → IsTrue (shows up.commands.signals c)
    → IsTrue ((transfer_at up.shape up.commands.signals (takes up) c).ends || is_raised (up.commands.more c))

-- what an arbiter rests on above: the askers' sides are those of their nets, their commands are joined, and nobody else asks
pub record Surrounds (askers : List Asker) (commands : List CommandNets) (backs : List BackNets) (shape : Shape) (run : Run)
    (hosts : ℕ) (up : ℕ → Port) (down : TaggedPort) (end : ℕ) : Type 0 where
  pub sides : AreSides shape run askers commands backs up
  pub joined : (h : ℕ) → is_seated h (seats_from askers) ≡ true → JoinsBeats (up h) end
  pub others : (h : ℕ) → is_seated h (seats_from askers) ≡ false → IsOutside (up h) down h end

-- in every endless run of each longer netlist, the nets are the machine of an arbiter
abbrev pub RunsAsArbiter : Netlist → List Asker → List CommandNets → CommandNets → BelowNets → List BackNets → Type 0
RunsAsArbiter netlist askers commands command below backs =
    (longer : Netlist) → Extends netlist longer → (run : Run) → IsEndlessRun longer run
    → (shape : Shape) (hosts end : ℕ) (up : ℕ → Port) →
    Surrounds askers commands backs shape run hosts up (below_port shape run command below) end →
    (grant : ℕ → Grant) × IsArbiterMachine (seats_from askers) hosts up (below_port shape run command below) grant end

-- where there is one asker alone, each word from below bears its tag
abbrev pub BearsTag : Netlist → List Asker → BelowNets → Type 0
BearsTag netlist (asker ∷ []) below = Always netlist (λ cycle. cycle.net below.tag.number ≡ asker.host)
BearsTag netlist askers below = Unit {0}

-- after the second call
pub record ArbiterBackward (askers : List Asker) (held : HeldArbiter) (below : BelowNets) (word_bits : ℕ) (backs : List BackNets)
    (netlist : Netlist) : Type 0 where
  pub alone : held.round ≡ None → backs ≡ lone_back below ∷ []
  pub round : IfSome held.round (RoundBackward askers held.command below word_bits backs netlist)
