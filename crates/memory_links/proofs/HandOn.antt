-- A link whose lower beats stem from upper ones makes no tags and no kinds of its own.
use Rattle.std.proofs.Common.{ℕ, ◌<◌, ◌≤◌, ◌≡◌, Bool, true, false, not, ◌&&◌, ◌||◌, IsTrue, arith, refl, sym, ap₂, ◌∙◌, subst}
use Rattle.histories.specs.History.{is_raised}
use Rattle.memory_runs.specs.Views.{AgentSide}
use Rattle.memory_runs.specs.Commands.{shows}
use Rattle.memory_machines.specs.Link.{Port}
use Rattle.memory_machines.specs.Lines.{HandsOn, serves_at}

-- a beat that is shown below has the tag and the kind of one that was shown above by then
pub record IsShownFor (up down : Port) (below above : ℕ) : Type 0 where
  pub by_then : above ≤ below
  pub shown : IsTrue (shows up.commands.signals above)
  pub tag : down.commands.tag below ≡ up.commands.tag above
  pub reads : is_raised (down.commands.read below) ≡ is_raised (up.commands.read above)
  pub writes : is_raised (down.commands.write below) ≡ is_raised (up.commands.write above)

pub hands_on_shown : (up down : Port) (end : ℕ) → ((c : ℕ) → c < end → shows down.commands.signals c ≡ true → (above : ℕ) × IsShownFor up down c above) → HandsOn up down end
hands_on_shown up down end from = record {
  tags = λ may bears c low shown. (let there = from c low shown in subst (λ t. IsTrue (may t)) (sym there.1.tag) (bears there.0 (let then = there.1.by_then in omega (arith, then, low)) there.1.shown));
  kinds = λ side serves c low. by_shown side serves c low (shows down.commands.signals c) refl;
}
  where
    quiet : (r w a b : Bool) → (r || w) ≡ false → IsTrue ((not r || a) && (not w || b))
    quiet true w a b e = cc
    quiet false true a b e = cc
    quiet false false a b e = refl

    by_shown : (side : AgentSide) → ((c : ℕ) → c < end → IsTrue (serves_at side up c)) → (c : ℕ) → c < end → (s : Bool) → shows down.commands.signals c ≡ s → IsTrue (serves_at side down c)
    by_shown side serves c low false e = quiet (is_raised (down.commands.read c)) (is_raised (down.commands.write c)) side.has_read side.has_write e
    by_shown side serves c low true e =
        let there = from c low e in
        ap₂ (λ r w. (not r || side.has_read) && (not w || side.has_write)) there.1.reads there.1.writes ∙ serves there.0 (let then = there.1.by_then in omega (arith, then, low))
