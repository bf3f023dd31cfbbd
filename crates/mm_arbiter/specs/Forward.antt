-- What stands between the two calls of an arbiter.
use Rattle.std.specs.Prelude.{◌≡◌, ℕ, ◌+◌, ◌*◌, nat_lt, List, [], ◌∷◌, length, Option, Some, None, IfSome, is_some}
use Rattle.netlist.specs.Nets.{NetValue}
use Rattle.netlist.specs.Netlists.{Netlist, IsWaiting}
use Rattle.netlist.specs.Longer.{Extends}
use Rattle.net_parts.specs.Groups.{InGroup, AreWaiting}
use Rattle.command_nets.specs.declared.nets.CommandNets.{CommandNets}
use Rattle.command_nets.specs.Nets.{AreCommandNets}
use Rattle.command_nets.specs.Groups.{command_lasts}
use Rattle.mm_arbiter.specs.declared.asker.Asker.{Asker}
use Rattle.mm_arbiter.specs.declared.rounds.RoundNets.{RoundNets}
use Rattle.mm_arbiter.specs.declared.arbiter.HeldArbiter.{HeldArbiter}
use Rattle.mm_arbiter.specs.Turns.{turns_of, TurnsStart, turns_start_on}
use Rattle.mm_arbiter.specs.Rounds.{RoundKeeps, RoundForward, ShowsByTurns, keeps_last}

abbrev pub registers_of : Option RoundNets → List NetValue
registers_of None = []
registers_of (Some round) = turns_of round.turns

-- the numbers of the registers that hold its state
abbrev pub owns : HeldArbiter → ℕ → Type 0
owns held n = InGroup (registers_of held.round) n

-- the nets of a round stand, and its registers wait
pub record KeepsRound (count : ℕ) (netlist : Netlist) (round : RoundNets) : Type 0 where
  pub nets : RoundKeeps round count netlist
  pub wait : AreWaiting netlist (turns_of round.turns)

-- between the calls; one asker alone has no round
pub record ArbiterKeeps (held : HeldArbiter) (count : ℕ) (netlist : Netlist) : Type 0 where
  pub command : AreCommandNets netlist held.command
  pub kind : is_some held.round ≡ nat_lt 1 count
  pub round : IfSome held.round (KeepsRound count netlist)

-- how a round starts, and what it does in each cycle
pub record RunsRound (askers : List Asker) (commands : List CommandNets) (command : CommandNets) (netlist : Netlist)
    (round : RoundNets) : Type 0 where
  pub starts : TurnsStart netlist round.turns (length commands)
  pub turns : RoundForward askers commands command round netlist
  pub reads : ShowsByTurns commands command round.turns netlist

-- after the first call: the command of one asker alone goes on as it is, and more of them take turns
pub record ArbiterForward (askers : List Asker) (commands : List CommandNets) (command : CommandNets) (held : HeldArbiter)
    (netlist : Netlist) : Type 0 where
  pub command_is : held.command ≡ command
  pub alone : held.round ≡ None → commands ≡ command ∷ []
  pub round : IfSome held.round (RunsRound askers commands command netlist)

-- the most nets that the first call makes for so many askers
abbrev pub arbiter_nets : ℕ → ℕ
arbiter_nets count = 33 + 14 * count

-- ---- what stands lasts

round_lasts : (old new : Netlist) (count : ℕ) (round : Option RoundNets) → Extends old new
    → ((n : ℕ) → InGroup (registers_of round) n → IsWaiting old n → IsWaiting new n) → IfSome round (KeepsRound count old)
    → IfSome round (KeepsRound count new)
round_lasts old new count None e w h = tt
round_lasts old new count (Some round) e w h =
    record {
      nets =
          keeps_last old new round count e h.nets;
      wait =
          record { start = h.wait.start; numbers = h.wait.numbers; wait = λ n o. w n o (h.wait.wait n o) };
    }

pub keeps_lasts : (held : HeldArbiter) (count : ℕ) (old new : Netlist) → ArbiterKeeps held count old → Extends old new
    → ((n : ℕ) → owns held n → IsWaiting old n → IsWaiting new n) → ArbiterKeeps held count new
keeps_lasts held count old new h e w =
    record {
      command =
          command_lasts old new held.command e h.command;
      kind = h.kind;
      round = round_lasts old new count held.round e w h.round;
    }

runs_last : (askers : List Asker) (commands : List CommandNets) (command : CommandNets) (old new : Netlist)
    (round : Option RoundNets)
    → Extends old new → IfSome round (RunsRound askers commands command old)
    → IfSome round (RunsRound askers commands command new)
runs_last askers commands command old new None e h = tt
runs_last askers commands command old new (Some round) e h =
    record {
      starts =
          turns_start_on old new round.turns (length commands) e h.starts;
      turns =
          λ cycle v. h.turns cycle (e.valuations cycle v);
      reads =
          λ one other v w. h.reads one other (e.valuations one v) (e.valuations other w);
    }

pub forward_lasts : (askers : List Asker) (commands : List CommandNets) (command : CommandNets) (held : HeldArbiter)
    (old new : Netlist)
    → ArbiterForward askers commands command held old → Extends old new → ArbiterForward askers commands command held new
forward_lasts askers commands command held old new h e =
    record { command_is = h.command_is; alone = h.alone; round = runs_last askers commands command old new held.round e h.round }
