-- A wire keeps all that a link promises.
use Rattle.std.proofs.Common.{ℕ, ◌<◌, Bool, true, false, not, ◌||◌, refl, IsTrue, le_refl}
use Rattle.std.proofs.lemmas.Bool.{or_left, or_right}
use Rattle.histories.specs.Laws.{prefix_refl}
use Rattle.memory_runs.specs.Commands.{is_held}
use Rattle.memory_machines.specs.Link.{Target, Port, AreLegalAt, takes}
use Rattle.memory_machines.specs.Rank.{is_excused, is_owed, has_commands, moves_commands, LinkRankFalls}
use Rattle.memory_machines.specs.PartRanks.{KeepsMoving}
use Rattle.memory_machines.specs.Lines.{KeepsRow}
use Rattle.memory_machines.specs.Straight.{GoesStraightThrough, IsShownPromptly}
use Rattle.memory_links.proofs.Words.{words_move}
use Rattle.memory_links.specs.Going.{KeepsGoing}
use Rattle.memory_links.specs.Going.RowGoesOn.{at_end, further}
use Rattle.memory_links.specs.Links.{IsLink, IsStraightLink, pass_form}

-- a beat that stands below excuses, so that it is work costs a rank nothing
pub falls_also_behind : (work held moves excused : Bool) (less : Type 0) → (IsTrue held → IsTrue excused) → (IsTrue work → IsTrue (not moves) → IsTrue (not excused) → less) →
    IsTrue (work || held) → IsTrue (not moves) → IsTrue (not excused) → less
falls_also_behind true held moves excused less stands falls w m e = falls refl m e
falls_also_behind false true moves true less stands falls w m e = cc
falls_also_behind false true moves false less stands falls w m e = let bad = stands refl in cc
falls_also_behind false false moves excused less stands falls w m e = cc

-- a wire's word that is owed above is owed below
wire_going : (target : Target) (port : Port) (end : ℕ) → AreLegalAt port end → LinkRankFalls target port port (λ c. 0) 0 end → KeepsGoing target port port (λ c. 0) 0 end
wire_going target port end legal falls = record {
  legal = legal;
  legal_down = legal;
  falls = words_move port port (record {
    bounded = falls.bounded;
    falls = λ c h work. falls_also_behind (has_commands target port port c) (is_held port.commands.signals (takes port) c) (moves_commands port port c) (is_excused port port c) (0 < 0)
        (λ held. or_left _ _ (or_left _ _ held)) (falls.falls c h) work;
    stays = λ c h work still. le_refl 0;
  });
  words = λ c h owed. or_right _ (is_owed port c) owed;
}

pub pass_is_link : ((target : Target) (port : Port) (end : ℕ) → 0 < port.shape.word_bytes → KeepsRow target 0 port port end) →
    ((target : Target) (port : Port) (end : ℕ) → AreLegalAt port end → KeepsMoving 0 target port port (λ c. 0) 0 end) →
    (target : Target) (port : Port) (end : ℕ) → 0 < port.shape.word_bytes → IsLink (pass_form target) port port end
pass_is_link row moves target port end some = record {
  row = row target port end some;
  words = λ is c low legal owed. prefix_refl _;
  lanes = λ c low legal owed has. has refl;
  joins = λ c low legal owed alike. alike;
  quiet = λ c low legal owed answered. answered;
  goes_on = λ legal owed alike.
      let keeps = moves target port end legal in
      further (record { rank = λ c. 0; going = wire_going target port end legal keeps.falls; holds = keeps.holds }) at_end;
}

pub pass_is_straight : ((ahead : ℕ → Bool) (target : Target) (port : Port) (end : ℕ) → GoesStraightThrough ahead target port port end) →
    ((few : ℕ) (may_burst : Bool) (target : Target) (port : Port) (end : ℕ) → IsShownPromptly few may_burst target port port end) →
    (few : ℕ) (ahead may_burst : Bool) (target : Target) (port : Port) (end : ℕ) → IsStraightLink few ahead may_burst target port port end
pass_is_straight straight prompt few ahead may_burst target port end = record {
  straight = λ legal owed. straight (λ c. ahead) target port end;
  prompt = λ legal owed. prompt few may_burst target port end;
}
