-- A wire keeps going.
use Rattle.std.proofs.Common.{ℕ, Bool, true, false, not, ◌||◌, arith, refl, IsTrue, IsFalse}
use Rattle.std.proofs.lemmas.Bool.{or_left, or_right, both_ways}
use Rattle.memory_runs.specs.Commands.{is_held}
use Rattle.memory_machines.specs.Link.{Target, Port, AreLegalAt, takes}
use Rattle.memory_machines.specs.Rank.{LinkRankFalls, moves_commands, has_commands, is_excused, is_owed}
use Rattle.memory_links.specs.Going.{KeepsGoing}
use Rattle.memory_awake.proofs.Bits.{no_true}

either : (a b : Bool) {R : Type 0} → IsTrue (a || b) → (IsTrue a → R) → (IsTrue b → R) → R
either true b h fa fb = fa refl
either false b h fa fb = fb h

by_not : (b : Bool) → IsTrue (not b) → IsFalse b
by_not true h = absurd (no_true h)
by_not false h = refl

neither : (a b : Bool) → IsTrue (not (a || b)) → IsTrue (not a)
neither true b h = h
neither false b h = refl

pub wire_goes : ((target : Target) (port : Port) (end : ℕ) → AreLegalAt port end → LinkRankFalls target port port (λ c. 0) 0 end) → (target : Target) (port : Port) (end : ℕ) → AreLegalAt port end → KeepsGoing target port port (λ c. 0) 0 end
wire_goes falls target port end legal = record {
  legal = legal;
  legal_down = legal;
  falls = record {
    bounded = λ c h. omega arith;
    falls = λ c h w m e. either (has_commands target port port c) (is_held port.commands.signals (takes port) c) w
        (λ commands. (falls target port end legal).falls c h commands (neither (moves_commands port port c) _ m) e)
        (λ held. absurd (both_ways (is_excused port port c) (by_not (is_excused port port c) e) (or_left _ _ (or_left _ _ held))));
    stays = λ c h w m. omega arith;
  };
  words = λ c h owed. or_right _ (is_owed port c) owed;
}
