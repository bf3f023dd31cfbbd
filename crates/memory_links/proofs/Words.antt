-- A rank that falls where nothing is handed on falls where, besides, no word is given.
use Rattle.std.proofs.Common.{ℕ, suc, Bool, true, false, not, ◌||◌, IsTrue, refl}
use Rattle.histories.specs.History.{is_raised}
use Rattle.memory_machines.specs.Link.{Port}
use Rattle.memory_machines.specs.Rank.{Falls, moves_commands}
use Rattle.memory_links.specs.Going.{moves_or_gives}

neither : (a b : Bool) → IsTrue (not (a || b)) → IsTrue (not a)
neither true b h = h
neither false b h = refl

pub words_move : (up down : Port) {work excused : ℕ → Bool} {rank : ℕ → ℕ} {largest end : ℕ} → Falls work (moves_commands up down) excused rank largest end → Falls work (moves_or_gives up down) excused rank largest end
words_move up down falls = record {
  bounded = falls.bounded;
  falls = λ c h w m e. falls.falls c h w (neither (moves_commands up down c) (is_raised (up.answers.valid (suc c))) m) e;
  stays = λ c h w m. falls.stays c h w (neither (moves_commands up down c) (is_raised (up.answers.valid (suc c))) m);
}
