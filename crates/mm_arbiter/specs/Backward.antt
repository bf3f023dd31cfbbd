-- What the second call leaves in a netlist: what comes back to each asker, and what the registers take.
use Rattle.std.specs.Prelude.{◌≡◌, ℕ, ◌+◌, ◌*◌, ◌<◌, not, ◌&&◌, ◌||◌, ◌==◌, if◌then◌else◌, nat_eq, List, [], ◌∷◌}
use Rattle.std.specs.Int.{bit_at}
use Rattle.histories.specs.History.{is_raised}
use Rattle.netlist.specs.Nets.{NetValue}
use Rattle.netlist.specs.Netlists.{Netlist}
use Rattle.netlist.specs.Runs.{Cycle, Run, cycle_of, IsRun, Always}
use Rattle.netlist.specs.Longer.{Extends}
use Rattle.net_parts.specs.Nets.{IsNetOfWidth, IsBit}
use Rattle.net_parts.specs.Laws.{net_lasts}
use Rattle.command_nets.specs.declared.nets.CommandNets.{CommandNets}
use Rattle.command_nets.specs.Nets.{AreAnswerNets}
use Rattle.command_nets.specs.Groups.{answer_lasts}
use Rattle.mm_arbiter.specs.declared.asker.Asker.{Asker}
use Rattle.mm_arbiter.specs.declared.back.BackNets.{BackNets}
use Rattle.mm_arbiter.specs.declared.back.BelowNets.{BelowNets}
use Rattle.mm_arbiter.specs.declared.rounds.RoundNets.{RoundNets}

-- what comes back from below is of this netlist, with tags and words of so many bits
pub record AreBelowNets (netlist : Netlist) (below : BelowNets) (tag_bits word_bits : ℕ) : Type 0 where
  pub wait : IsBit netlist below.wait
  pub answer : AreAnswerNets netlist below.answer word_bits
  pub tag : IsNetOfWidth netlist below.tag tag_bits

-- the asker of a seat waits where its seat isn't chosen, or where the command below waits
abbrev pub WaitsAt : Cycle → NetValue → ℕ → BelowNets → NetValue → Type 0
WaitsAt cycle chosen seat below wait =
    is_raised (cycle.net wait.number)
    ≡ (not (bit_at (cycle.net chosen.number) seat == 1) || is_raised (cycle.net below.wait.number))

-- a word comes to the host whose tag it bears
abbrev pub ComesTo : Cycle → ℕ → BelowNets → NetValue → Type 0
ComesTo cycle host below valid =
    is_raised (cycle.net valid.number)
    ≡ (is_raised (cycle.net below.answer.valid.number) && nat_eq (cycle.net below.tag.number) host)

-- what comes back to the asker of a seat
pub record IsBackOf (netlist : Netlist) (chosen : NetValue) (below : BelowNets) (word_bits seat host : ℕ)
    (back : BackNets) : Type 0 where
  pub wait_net : IsBit netlist back.wait
  pub nets : AreAnswerNets netlist back.answer word_bits
  pub wait : Always netlist (λ cycle. WaitsAt cycle chosen seat below back.wait)
  pub valid : Always netlist (λ cycle. ComesTo cycle host below back.answer.valid)
  pub word : back.answer.word ≡ below.answer.word
  pub code : back.answer.code ≡ below.answer.code

-- and to the askers from this seat on
abbrev pub AreBacks : Netlist → NetValue → BelowNets → ℕ → ℕ → List Asker → List BackNets → Type 0
AreBacks netlist chosen below word_bits seat (asker ∷ askers) (back ∷ backs) =
    IsBackOf netlist chosen below word_bits seat asker.host back × AreBacks netlist chosen below word_bits (seat + 1) askers backs
AreBacks netlist chosen below word_bits seat askers backs = Unit {0}

-- the registers after a cycle: a command is open where its last beat isn't taken yet
pub record IsStep (round : RoundNets) (command : CommandNets) (wait : NetValue) (cycle next : Cycle) : Type 0 where
  pub holder : next.net round.turns.holder.number ≡ cycle.net round.holder.number
  pub left : next.net round.turns.left.number ≡ cycle.net round.left.number
  pub inside : is_raised (next.net round.turns.inside.number)
      ≡ (if is_raised (cycle.net round.chosen.some.number)
      then is_raised (cycle.net wait.number) || is_raised (cycle.net command.more.number)
      else is_raised (cycle.net round.turns.inside.number))

-- in each run, of each cycle and the next one
abbrev pub EachStep : Netlist → (Cycle → Cycle → Type 0) → Type 0
EachStep netlist P =
    (run : Run) (cycles : ℕ) → IsRun netlist run cycles → (c : ℕ) → c + 1 < cycles → P (cycle_of run c) (cycle_of run (c + 1))

-- after the second call, among two or more
pub record RoundBackward (askers : List Asker) (command : CommandNets) (below : BelowNets) (word_bits : ℕ) (backs : List BackNets)
    (netlist : Netlist) (round : RoundNets) : Type 0 where
  pub steps : EachStep netlist (IsStep round command below.wait)
  pub given : AreBacks netlist round.chosen.seat below word_bits 0 askers backs

-- what comes back to one asker alone is what comes from below
abbrev pub lone_back : BelowNets → BackNets
lone_back below = record { wait = below.wait; answer = below.answer }

-- the most nets that the second call makes for so many askers
abbrev pub back_nets : ℕ → ℕ
back_nets count = 2 + 6 * count

-- ---- what stands lasts

pub below_lasts : (a b : Netlist) (below : BelowNets) (tag_bits word_bits : ℕ) → Extends a b
    → AreBelowNets a below tag_bits word_bits → AreBelowNets b below tag_bits word_bits
below_lasts a b below tag_bits word_bits e h =
    record {
      wait =
          net_lasts a b below.wait 1 e h.wait;
      answer =
          answer_lasts a b below.answer word_bits e h.answer;
      tag = net_lasts a b below.tag tag_bits e h.tag;
    }

back_lasts : (a b : Netlist) (chosen : NetValue) (below : BelowNets) (word_bits seat host : ℕ) (back : BackNets) → Extends a b
    → IsBackOf a chosen below word_bits seat host back → IsBackOf b chosen below word_bits seat host back
back_lasts a b chosen below word_bits seat host back e h = record {
  wait_net = net_lasts a b back.wait 1 e h.wait_net;
  nets = answer_lasts a b back.answer word_bits e h.nets;
  wait = λ cycle v. h.wait cycle (e.valuations cycle v);
  valid = λ cycle v. h.valid cycle (e.valuations cycle v);
  word = h.word;
  code = h.code;
}

pub backs_last : (a b : Netlist) (chosen : NetValue) (below : BelowNets) (word_bits seat : ℕ) (askers : List Asker)
    (backs : List BackNets)
    → Extends a b → AreBacks a chosen below word_bits seat askers backs → AreBacks b chosen below word_bits seat askers backs
backs_last a b chosen below word_bits seat [] backs e h = tt
backs_last a b chosen below word_bits seat (asker ∷ askers) [] e h = tt
backs_last a b chosen below word_bits seat (asker ∷ askers) (back ∷ backs) e h = (
  back_lasts a b chosen below word_bits seat asker.host back e h.0,
  backs_last a b chosen below word_bits
      (seat + 1) askers backs e h.1,
)

pub round_backward_lasts : (askers : List Asker) (command : CommandNets) (below : BelowNets) (word_bits : ℕ)
    (backs : List BackNets) (old new : Netlist) (round : RoundNets)
    → RoundBackward askers command below word_bits backs old round → Extends old new
    → RoundBackward askers command below word_bits backs new round
round_backward_lasts askers command below word_bits backs old new round h e = record {
  steps = λ run cycles r. h.steps run cycles (e.runs run cycles r);
  given = backs_last old new round.chosen.seat below word_bits 0 askers backs e h.given;
}
