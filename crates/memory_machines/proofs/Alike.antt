-- Joined commands are alike: behind the route they are the beats of one write burst, and an arbiter sends whole ones.
use Rattle.std.proofs.Common.{ℕ, zero, suc, ◌<◌, ◌≤◌, ◌≡◌, ◌-◌, [], ◌∷◌, ◌++◌, List, Bool, true, false, not, ◌&&◌, ◌||◌, IsTrue, if◌then◌else◌, arith, tests, refl, sym, ap, ap₂, ◌∙◌, subst, append-nil, nat_eq, nat_lt, eqb-true}
use Rattle.std.specs.Prelude.{IsFalse}
use Rattle.std.proofs.lemmas.Bool.{not-true, and_parts, true≢false}
use Rattle.histories.specs.History.{is_raised, only_if}
use Rattle.memory_runs.specs.Views.{Shape, Levels}
use Rattle.memory_runs.specs.Commands.{Burst, burst_before, shows, is_held, transfer_of, write_transfer, read_transfer}
use Rattle.memory_machines.specs.Link.{Target, Port, Marked, AreLegalAt, closes, takes, shown_at}
use Rattle.memory_machines.specs.Machines.{Raw, raw_at, raws, idle, mark, burst_past, burst_of, marked, IsFitBeat}
use Rattle.memory_machines.specs.SideLaws.{fit_when_shown}
use Rattle.memory_machines.specs.Lines.{AreSingle, with_tag, are_whole}
use Rattle.memory_machines.specs.PartRanks.{JoinsAlike, are_joined_alike, goes_on_alike}
use Rattle.memory_machines.proofs.Laws.{same_number}
use Rattle.memory_machines.proofs.Stage.{burst_is}
use Rattle.memory_machines.proofs.ExpanderLink.{shown_raws, shown_is}

-- a beat of one host alone, with `more` high just where it doesn't end its command
record IsOwn (host : ℕ) (shape : Shape) (burst : Burst) (raw : Raw) : Type 0 where
  fit : IsFitBeat shape burst raw
  tag : raw.tag ≡ host
  shown : (is_raised raw.levels.read || is_raised raw.levels.write) ≡ true
  single : is_raised raw.more ≡ not (transfer_of shape raw.levels burst).ends

abbrev AreOwn : ℕ → Shape → Burst → List Raw → Type 0
AreOwn tag shape burst [] = Unit {0}
AreOwn tag shape burst (raw ∷ later) = IsOwn tag shape burst raw × AreOwn tag shape (burst_past shape burst raw) later

own_push : (tag : ℕ) (shape : Shape) (burst : Burst) (xs : List Raw) (raw : Raw) → AreOwn tag shape burst xs → IsOwn tag shape (burst_of shape burst xs) raw → AreOwn tag shape burst (xs ++ raw ∷ [])
own_push tag shape burst [] raw owns own = (own, tt)
own_push tag shape burst (x ∷ xs) raw owns own = (owns.0, own_push tag shape (burst_past shape burst x) xs raw owns.1 own)

-- a beat that doesn't end its command is a write
write_of : (shape : Shape) (levels : Levels) (burst : Burst) (b : Bool) → is_raised levels.write ≡ b → (transfer_of shape levels burst).ends ≡ false → b ≡ true
write_of shape levels burst true w e = refl
write_of shape levels burst false w e =
    let ends : (transfer_of shape levels burst).ends ≡ true = ap (λ t. (if t then write_transfer shape levels burst else read_transfer shape levels).ends) w in
    absurd (true≢false (sym ends ∙ e))

-- and leaves the burst open
leaves : (shape : Shape) (burst : Burst) (x : Raw) → is_raised x.levels.write ≡ true → (transfer_of shape x.levels burst).ends ≡ false → (IsFalse (nat_lt 0 burst.left) → 1 ≤ x.levels.count) →
    nat_lt 0 (burst_past shape burst x).left ≡ true
leaves shape burst x write open_ least = by_first (nat_eq burst.left 0) refl
  where
    by_first : (z : Bool) → nat_eq burst.left 0 ≡ z → nat_lt 0 (burst_past shape burst x).left ≡ true
    by_first true first =
        let ends : nat_eq x.levels.count 1 ≡ false = sym (rw (write, first) refl) ∙ open_ in
        let none : nat_lt 0 burst.left ≡ false = grind (arith, tests, first) in
        let some = least none in
        let past : nat_lt 0 (burst_past shape burst x).left ≡ nat_lt 0 (x.levels.count - 1) = rw (write, first) refl in
        past ∙ grind (arith, tests, ends, some)
    by_first false first =
        let ends : nat_eq burst.left 1 ≡ false = sym (rw (write, first) refl) ∙ open_ in
        let past : nat_lt 0 (burst_past shape burst x).left ≡ nat_lt 0 (burst.left - 1) = rw (write, first) refl in
        past ∙ grind (arith, tests, ends, first)

other_kind : (r w : Bool) → r ≡ false → (r || w) ≡ true → w ≡ true
other_kind r w none some = cc

next_alike : (target : Target) (port : Port) (tag : ℕ) (burst : Burst) (x y : Raw) → IsOwn tag port.shape burst x → IsOwn tag port.shape (burst_past port.shape burst x) y →
    (closes (mark port.shape burst x) || goes_on_alike target port (mark port.shape burst x) (mark port.shape (burst_past port.shape burst x) y)) ≡ true
next_alike target port tag burst x y own next = by_end (transfer_of port.shape x.levels burst).ends refl
  where
    by_end : (e : Bool) → (transfer_of port.shape x.levels burst).ends ≡ e →
        (closes (mark port.shape burst x) || goes_on_alike target port (mark port.shape burst x) (mark port.shape (burst_past port.shape burst x) y)) ≡ true
    by_end true ends =
        let closed : closes (mark port.shape burst x) ≡ true = ap₂ (λ a b. a && not b) ends (own.single ∙ ap not ends) in
        ap (λ b. b || goes_on_alike target port (mark port.shape burst x) (mark port.shape (burst_past port.shape burst x) y)) closed
    by_end false ends =
        let write : is_raised x.levels.write ≡ true = write_of port.shape x.levels burst (is_raised x.levels.write) refl ends in
        let busy = leaves port.shape burst x write ends own.fit.least in
        let written : is_raised y.levels.write ≡ true = other_kind (is_raised y.levels.read) (is_raised y.levels.write) (next.fit.finished busy) next.shown in
        let closed : closes (mark port.shape burst x) ≡ false = ap₂ (λ a b. a && not b) ends (own.single ∙ ap not ends) in
        ap (λ b. b || goes_on_alike target port (mark port.shape burst x) (mark port.shape (burst_past port.shape burst x) y)) closed
        ∙ rw (own.tag, next.tag, same_number tag, write, written) refl

alike_marked : (target : Target) (port : Port) (tag : ℕ) (burst : Burst) (xs : List Raw) → AreOwn tag port.shape burst xs → are_joined_alike target port (marked port.shape burst xs) ≡ true
alike_marked target port tag burst [] owns = refl
alike_marked target port tag burst (x ∷ []) owns = refl
alike_marked target port tag burst (x ∷ y ∷ later) owns =
    ap₂ (λ a b. a && b) (next_alike target port tag burst x y owns.0 owns.1.0) (alike_marked target port tag (burst_past port.shape burst x) (y ∷ later) owns.1)

module _ (port : Port) (tag end : ℕ) (legal : AreLegalAt port end) (single : AreSingle port end) (tags : (c : ℕ) → c < end → port.commands.tag c ≡ tag) where
  own_at : (c : ℕ) → c < end → IsTrue (shows port.commands.signals c) → IsOwn tag port.shape (burst_before port.shape port.commands.signals (takes port) c) (raw_at port c)
  own_at c low shown = record { fit = fit_when_shown port end c legal low shown; tag = tags c low; shown = shown; single = single c low shown }

  taken_own : (c : ℕ) → c ≤ end → AreOwn tag port.shape idle (raws port c)
  taken_own zero low = tt
  taken_own (suc c) low = by_test (takes port c) refl (taken_own c (omega arith))
    where
      by_test : (b : Bool) → takes port c ≡ b → AreOwn tag port.shape idle (raws port c) → AreOwn tag port.shape idle (raws port c ++ only_if b (raw_at port c))
      by_test true taken earlier =
          own_push tag port.shape idle (raws port c) (raw_at port c) earlier
          (subst (λ b. IsOwn tag port.shape b (raw_at port c)) (burst_is port c) (own_at c (omega arith) (and_parts (shows port.commands.signals c) (not (is_raised (port.commands.waitrequest c))) taken).0))
      by_test false taken earlier = subst (AreOwn tag port.shape idle) (sym (append-nil (raws port c))) earlier

  shown_own : (c : ℕ) → c ≤ end → AreOwn tag port.shape idle (shown_raws port c)
  shown_own zero low = tt
  shown_own (suc c) low = by_test (is_held port.commands.signals (takes port) c) refl
    where
      by_test : (b : Bool) → is_held port.commands.signals (takes port) c ≡ b → AreOwn tag port.shape idle (raws port (suc c) ++ only_if b (raw_at port c))
      by_test false held = subst (AreOwn tag port.shape idle) (sym (append-nil (raws port (suc c)))) (taken_own (suc c) low)
      by_test true held =
          let not_accepted : takes port c ≡ false = not-true (takes port c) (and_parts (shows port.commands.signals c) (not (takes port c)) held).1 in
          let same : raws port (suc c) ≡ raws port c = ap (λ b. raws port c ++ only_if b (raw_at port c)) not_accepted ∙ append-nil _ in
          subst (λ l. AreOwn tag port.shape idle (l ++ raw_at port c ∷ [])) (sym same)
          (own_push tag port.shape idle (raws port c) (raw_at port c) (taken_own c (omega arith))
          (subst (λ b. IsOwn tag port.shape b (raw_at port c)) (burst_is port c) (own_at c (omega arith) (and_parts (shows port.commands.signals c) (not (takes port c)) held).0)))

  pub single_joins_alike : (target : Target) → JoinsAlike target port end
  single_joins_alike target c low = subst (λ l. are_joined_alike target port l ≡ true) (sym (shown_is port end c legal low)) (alike_marked target port tag idle (shown_raws port c) (shown_own c low))

-- ---- several hosts

alike_tail : (target : Target) (port : Port) (m : Marked) (ms : List Marked) → are_joined_alike target port (m ∷ ms) ≡ true → are_joined_alike target port ms ≡ true
alike_tail target port m [] alike = refl
alike_tail target port m (next ∷ later) alike = (and_parts (closes m || goes_on_alike target port m next) (are_joined_alike target port (next ∷ later)) alike).1

-- where each tag's commands are alike and whole commands follow one another, all are alike
alike_of_tags : (target : Target) (port : Port) (ms : List Marked) → are_whole ms ≡ true → ((h : ℕ) → are_joined_alike target port (with_tag h ms) ≡ true) → are_joined_alike target port ms ≡ true
alike_of_tags target port [] whole alike = refl
alike_of_tags target port (m ∷ []) whole alike = refl
alike_of_tags target port (m ∷ next ∷ later) whole alike =
    let both = and_parts (closes m || nat_eq m.tag next.tag) (are_whole (next ∷ later)) whole in
    ap₂ (λ a b. a && b) (here (closes m) refl both.0) (alike_of_tags target port (next ∷ later) both.1 (λ h. rest h (nat_eq m.tag h) refl (alike h)))
  where
    rest : (h : ℕ) (b : Bool) → nat_eq m.tag h ≡ b → are_joined_alike target port (with_tag h (m ∷ next ∷ later)) ≡ true → are_joined_alike target port (with_tag h (next ∷ later)) ≡ true
    rest h true e own =
        let kept : with_tag h (m ∷ next ∷ later) ≡ m ∷ with_tag h (next ∷ later) = ap (λ b. if b then m ∷ with_tag h (next ∷ later) else with_tag h (next ∷ later)) e in
        alike_tail target port m (with_tag h (next ∷ later)) (subst (λ l. are_joined_alike target port l ≡ true) kept own)
    rest h false e own =
        let kept : with_tag h (m ∷ next ∷ later) ≡ with_tag h (next ∷ later) = ap (λ b. if b then m ∷ with_tag h (next ∷ later) else with_tag h (next ∷ later)) e in
        subst (λ l. are_joined_alike target port l ≡ true) kept own

    here : (b : Bool) → closes m ≡ b → IsTrue (closes m || nat_eq m.tag next.tag) → (closes m || goes_on_alike target port m next) ≡ true
    here true e together = ap (λ b. b || goes_on_alike target port m next) e
    here false e together =
        let same : nat_eq m.tag next.tag ≡ true = subst (λ b. (b || nat_eq m.tag next.tag) ≡ true) e together in
        let tag : next.tag ≡ m.tag = sym (eqb-true m.tag next.tag same) in
        let first : nat_eq m.tag m.tag ≡ true = same_number m.tag in
        let second : nat_eq next.tag m.tag ≡ true = ap (λ t. nat_eq t m.tag) tag ∙ first in
        let kept : with_tag m.tag (m ∷ next ∷ later) ≡ m ∷ next ∷ with_tag m.tag later =
        ap (λ b. if b then m ∷ with_tag m.tag (next ∷ later) else with_tag m.tag (next ∷ later)) first
        ∙ ap (λ b. m ∷ (if b then next ∷ with_tag m.tag later else with_tag m.tag later)) second in
        (and_parts (closes m || goes_on_alike target port m next) (are_joined_alike target port (next ∷ with_tag m.tag later)) (subst (λ l. are_joined_alike target port l ≡ true) kept (alike m.tag))).0

pub whole_joins_alike : (target : Target) (port : Port) (end : ℕ) → ((c : ℕ) → c ≤ end → IsTrue (are_whole (shown_at port c))) →
    ((h c : ℕ) → c ≤ end → IsTrue (are_joined_alike target port (with_tag h (shown_at port c)))) → JoinsAlike target port end
whole_joins_alike target port end whole alike c low = alike_of_tags target port (shown_at port c) (whole c low) (λ h. alike h c low)
