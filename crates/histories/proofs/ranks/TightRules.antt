-- With both exceptions tight nothing hangs.
use Rattle.std.proofs.Common.{ℕ, zero, suc, ◌<◌, Bool, true, false, not, ◌&&◌, ◌||◌, arith, refl, IsTrue, IsFalse, tests}
use Rattle.histories.specs.Path.{works, excused, writing}
use Rattle.histories.specs.Holes.{Waited, Hangs}
use Rattle.histories.proofs.ranks.Descent.{settle}

tight : (sh t w o op lw above_op above_sh above_o above_lw : Bool) → IsFalse t → IsTrue ((w && (false || sh)) || (o && (false || not (op && lw))) || (above_op && not above_sh && (above_lw || not above_o))) →
    IsTrue ((sh && not t) || (o && not (op && lw)) || (above_op && not above_sh && (above_lw || not above_o)))
tight true t w o op lw above_op above_sh above_o above_lw still h = grind (arith, tests)
tight false t w o op lw above_op above_sh above_o above_lw still h = grind (arith, tests)

not_shown : (op sh free : Bool) → IsTrue sh → IsTrue (op && not sh && free) → ⊥
not_shown true true free s h = cc
not_shown false true free s h = cc
not_shown op false free s h = cc

none_below : (sh t w o op : Bool) → IsFalse t → IsFalse w → IsFalse o → IsTrue (not sh || w) → IsTrue ((sh && not t) || (o && not op)) → ⊥
none_below true t w o op a b c d h = grind (arith, tests)
none_below false t w true op a b c d h = cc
none_below false t w false op a b c d h = cc

acts_or_not : (work ex : Bool) → (IsTrue work → IsTrue ex) → IsTrue (work && not ex) → ⊥
acts_or_not true true e h = cc
acts_or_not true false e h = let bad = e refl in cc
acts_or_not false ex e h = cc

stands_works : (sh t u op r : Bool) → IsTrue sh → IsFalse t → IsTrue ((sh && not t) || u || op || r)
stands_works sh t u op r a b = grind (arith, tests)

pub tight_never_hangs : (w : Waited) (parts : ℕ) → 0 < parts → Hangs (record { idle_wait = false; owing_rest = false }) w parts → ⊥
tight_never_hangs w zero h hangs = absurd (omega (arith, h))
tight_never_hangs w (suc n) h hangs =
    settle w.path (suc n) hangs.flows
    (λ waits. not_shown (w.path.unclosed (suc n)) (w.path.shown (suc n)) _ hangs.stands waits)
    (λ b. none_below (w.path.shown 0) (w.path.taken 0) (w.wait 0) (w.path.owed 0) (writing w.path 0) (hangs.taken 0 (omega arith)) hangs.agent_waits hangs.agent_owes (hangs.waits 0 (omega arith)) b)
    (λ j low must. acts_or_not (works w.path j) (excused w.path j)
    (λ work. tight (w.path.shown j) (w.path.taken j) (w.wait j) (w.path.owed j) (w.path.unclosed j) (w.path.last_writes j) (w.path.unclosed (suc j)) (w.path.shown (suc j)) (w.path.owed (suc j)) (w.path.last_writes (suc j)) (hangs.taken j (omega (arith, low))) (hangs.excused j low work)) must)
    n (omega arith) (stands_works (w.path.shown (suc n)) (w.path.taken (suc n)) (w.path.untaken n) (w.path.unclosed n) (w.path.ready n) hangs.stands (hangs.taken (suc n) (omega arith)))
