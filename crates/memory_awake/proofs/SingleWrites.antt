-- Behind the route of a host each write ends its command where each transfer ends.
use Rattle.std.proofs.Common.{ℕ, ◌<◌, ◌≡◌, Bool, true, false, not, ◌&&◌, refl, sym, ap, ◌∙◌, IsTrue}
use Rattle.std.proofs.lemmas.Bool.{and_parts, or_left, or_right}
use Rattle.memory_runs.specs.Views.{System, Run}
use Rattle.memory_runs.specs.Commands.{Transfer, shows, is_of_reads}
use Rattle.memory_machines.specs.Link.{Port, Marked, marked_at, closes}
use Rattle.memory_machines.specs.Straight.{may_be_prompt}
use Rattle.memory_parts.specs.Steps.{IsHostPart, IsRoutePart}

pub by_kind : (b : Bool) {R : Type 0} → (b ≡ false → R) → (b ≡ true → R) → R
by_kind true f g = g refl
by_kind false f g = f refl

pub single_behind_route : (system : System) (run : Run) (host agent : ℕ) (middle : Port) (down : ℕ → Port) (end : ℕ) → agent < system.agents → IsHostPart system run host middle end → IsRoutePart system host middle down end →
    ((c : ℕ) → c < end → IsTrue (shows (down agent).commands.signals c) → IsTrue (marked_at (down agent) c).transfer.ends) → (c : ℕ) → c < end → IsTrue (shows (down agent).commands.signals c) → IsTrue (may_be_prompt false (marked_at (down agent) c))
single_behind_route system run host agent middle down end there part route ends c h shown =
    or_left _ false (or_right (is_of_reads (marked_at (down agent) c).transfer.kind) (closes (marked_at (down agent) c)) (closing (marked_at (down agent) c) (ends c h shown) more))
  where
    above : shows middle.commands.signals c ≡ true
    above = (and_parts (shows middle.commands.signals c) _ (and_parts _ _ (sym (route.shown agent c there h) ∙ shown)).0).0

    more : (marked_at (down agent) c).more ≡ not (marked_at (down agent) c).transfer.ends
    more = route.more agent c there h shown ∙ part.more c h above ∙ ap (λ (t : Transfer). not t.ends) (sym (route.same agent c there h shown))

    closing : (m : Marked) → m.transfer.ends ≡ true → m.more ≡ not m.transfer.ends → closes m ≡ true
    closing m e more = ap (λ b. m.transfer.ends && not b) (more ∙ ap not e) ∙ ap (λ b. b && true) e
