-- A register hands on just the beats that it took, at least one cycle later.
use Rattle.std.proofs.Common.{ℕ, zero, suc, ◌≤◌, ◌≡◌, [], ◌∷◌, ◌++◌, Bool, true, false, not, ◌&&◌, ◌||◌, if◌then◌else◌, arith, refl, sym, ap, ap₂, ◌∙◌, subst, append-nil}
use Rattle.std.proofs.lemmas.Bool.{and_parts, and_right}
use Rattle.histories.specs.Laws.{prefix_refl, shown_is_accepted_and_standing}
use Rattle.memory_runs.specs.Laws.{accepts_shows}
use Rattle.histories.specs.History.{KeepsItems, IsPrefix, only_if, is_raised}
use Rattle.memory_runs.specs.Views.{Shape, Levels, levels_at}
use Rattle.memory_runs.specs.Commands.{Burst, shows, is_held, burst_before, burst_after, transfer_of}
use Rattle.memory_machines.specs.Link.{Port, Marked, AreLegalAt, takes, marked_at, taken_at, shown_at}
use Rattle.memory_machines.specs.Register.{IsRegister}
use Rattle.memory_machines.specs.SideLaws.{taken_is_shown}

abbrev pub shown_by : Levels → Bool
shown_by levels = is_raised levels.read || is_raised levels.write

abbrev marked_of : Shape → ℕ → ℕ → Levels → Burst → Marked
marked_of shape tag more levels burst = record { tag = tag; more = is_raised more; transfer = transfer_of shape levels burst }

pub same_marked : (shape shape' : Shape) (tag tag' more more' : ℕ) (levels levels' : Levels) (burst burst' : Burst) → shape ≡ shape' → tag ≡ tag' → more ≡ more' → levels ≡ levels' → burst ≡ burst' →
    marked_of shape tag more levels burst ≡ marked_of shape' tag' more' levels' burst'
same_marked shape shape' tag tag' more more' levels levels' burst burst' a b c d e =
    ap₂ (λ x y. marked_of x y more levels burst) a b ∙ ap₂ (λ x y. marked_of shape' tag' x y burst) c d ∙ ap (λ x. marked_of shape' tag' more' levels' x) e

and_true : (b : Bool) → (b && not false) ≡ b
and_true true = refl
and_true false = refl

-- one cycle of the register, on its values. `s` and `w`: it shows a beat, and the wait below
module _ (up down : Port) (register : IsRegister up down) where
  abbrev pub s : ℕ → Bool
  s c = shows down.commands.signals c

  abbrev pub stalls : ℕ → Bool
  stalls c = is_held down.commands.signals (takes down) c

  abbrev pub IsAhead : ℕ → Type 0
  IsAhead c =
      (taken_at up c ≡ taken_at down c ++ only_if (s c) (marked_at down c))
      × (burst_before up.shape up.commands.signals (takes up) c ≡ burst_after down.shape (levels_at down.commands.signals c) (s c) (burst_before down.shape down.commands.signals (takes down) c))

  pub takes_below : (c : ℕ) → stalls c ≡ false → takes down c ≡ s c
  takes_below c e = by_test (s c) (is_raised (down.commands.waitrequest c)) e
    where
      by_test : (s w : Bool) → (s && not (s && not w)) ≡ false → (s && not w) ≡ s
      by_test true true e = sym e
      by_test true false e = refl
      by_test false w e = refl

  pub takes_none : (c : ℕ) → stalls c ≡ true → takes down c ≡ false
  takes_none c e = by_test (s c) (is_raised (down.commands.waitrequest c)) e
    where
      by_test : (s w : Bool) → (s && not (s && not w)) ≡ true → (s && not w) ≡ false
      by_test true true e = refl
      by_test true false e = sym e
      by_test false w e = refl

  takes_above : (c : ℕ) (b : Bool) → stalls c ≡ b → takes up c ≡ (shows up.commands.signals c && not b)
  takes_above c b e = ap (λ x. shows up.commands.signals c && not x) (register.waitrequest c ∙ e)

  pub next_levels : (c : ℕ) (b : Bool) → stalls c ≡ b → levels_at down.commands.signals (suc c) ≡ (if b then levels_at down.commands.signals c else levels_at up.commands.signals c)
  next_levels c b e = register.levels c ∙ ap (λ b. if b then levels_at down.commands.signals c else levels_at up.commands.signals c) e

  step : (c : ℕ) → IsAhead c → IsAhead (suc c)
  step c ahead = by_stall (stalls c) refl
    where
      by_stall : (b : Bool) → stalls c ≡ b → IsAhead (suc c)
      by_stall true e =
          let none_up : takes up c ≡ false = takes_above c true e ∙ and_right (shows up.commands.signals c) (not true) refl in
          let none : takes down c ≡ false = takes_none c e in
          let levels = next_levels c true e in
          let still : s (suc c) ≡ s c = ap shown_by levels in
          let bursts : burst_before down.shape down.commands.signals (takes down) (suc c) ≡ burst_before down.shape down.commands.signals (takes down) c =
          ap (λ b. burst_after down.shape (levels_at down.commands.signals c) b (burst_before down.shape down.commands.signals (takes down) c)) none in
          let tags : down.commands.tag (suc c) ≡ down.commands.tag c = register.tag c ∙ ap (λ b. if b then down.commands.tag c else up.commands.tag c) e in
          let mores : down.commands.more (suc c) ≡ down.commands.more c = register.more c ∙ ap (λ b. if b then down.commands.more c else up.commands.more c) e in
          let same : marked_at down (suc c) ≡ marked_at down c = same_marked down.shape down.shape _ _ _ _ _ _ _ _ refl tags mores levels bursts in (
            ap (λ b. taken_at up c ++ only_if b (marked_at up c)) none_up ∙ append-nil (taken_at up c) ∙ ahead.0
                ∙ ap (λ l. l ++ only_if (s c) (marked_at down c)) (sym (append-nil (taken_at down c)))
                ∙ ap (λ b. (taken_at down c ++ only_if b (marked_at down c)) ++ only_if (s c) (marked_at down c)) (sym none)
                ∙ ap₂ (λ b m. (taken_at down c ++ only_if (takes down c) (marked_at down c)) ++ only_if b m) (sym still) (sym same),
            ap (λ b. burst_after up.shape (levels_at up.commands.signals c) b (burst_before up.shape up.commands.signals (takes up) c)) none_up ∙ ahead.1
                ∙ ap₂ (λ l b. burst_after down.shape l b (burst_before down.shape down.commands.signals (takes down) c)) (sym levels) (sym still)
                ∙ ap (λ b. burst_after down.shape (levels_at down.commands.signals (suc c)) (s (suc c)) b) (sym bursts),
          )
      by_stall false e =
          let some_up : takes up c ≡ shows up.commands.signals c = takes_above c false e ∙ and_true (shows up.commands.signals c) in
          let some : takes down c ≡ s c = takes_below c e in
          let levels = next_levels c false e in
          let now : s (suc c) ≡ takes up c = ap shown_by levels ∙ sym some_up in
          let bursts : burst_before down.shape down.commands.signals (takes down) (suc c) ≡ burst_before up.shape up.commands.signals (takes up) c =
          ap (λ b. burst_after down.shape (levels_at down.commands.signals c) b (burst_before down.shape down.commands.signals (takes down) c)) some ∙ sym ahead.1 in
          let tags : down.commands.tag (suc c) ≡ up.commands.tag c = register.tag c ∙ ap (λ b. if b then down.commands.tag c else up.commands.tag c) e in
          let mores : down.commands.more (suc c) ≡ up.commands.more c = register.more c ∙ ap (λ b. if b then down.commands.more c else up.commands.more c) e in
          let same : marked_at down (suc c) ≡ marked_at up c = same_marked down.shape up.shape _ _ _ _ _ _ _ _ register.shape tags mores levels bursts in (
            ap (λ l. l ++ only_if (takes up c) (marked_at up c)) (ahead.0 ∙ ap (λ b. taken_at down c ++ only_if b (marked_at down c)) (sym some))
                ∙ ap₂ (λ b m. (taken_at down c ++ only_if (takes down c) (marked_at down c)) ++ only_if b m) (sym now) (sym same),
            ap (λ shape. burst_after shape (levels_at up.commands.signals c) (takes up c) (burst_before up.shape up.commands.signals (takes up) c)) (sym register.shape)
                ∙ ap₂ (λ l b. burst_after down.shape l b (burst_before up.shape up.commands.signals (takes up) c)) (sym levels) (sym now)
                ∙ ap (λ b. burst_after down.shape (levels_at down.commands.signals (suc c)) (s (suc c)) b) (sym bursts),
          )

  pub is_ahead : (c : ℕ) → IsAhead c
  is_ahead zero = (ap (λ b. only_if b (marked_at down 0)) (sym register.empty), ap (λ b. burst_after down.shape (levels_at down.commands.signals 0) b (record { left = 0; done = 0; first = 0 })) (sym register.empty))
  is_ahead (suc c) = step c (is_ahead c)

  -- what was taken below by the end of a cycle was taken above before it
  pub taken_later : (c : ℕ) → IsPrefix (taken_at down (suc c)) (taken_at up c)
  taken_later c = subst (λ l. IsPrefix (taken_at down (suc c)) l) (sym (is_ahead c).0) (by_test (s c) (is_raised (down.commands.waitrequest c)))
    where
      by_test : (s w : Bool) → IsPrefix (taken_at down c ++ only_if (s && not w) (marked_at down c)) (taken_at down c ++ only_if s (marked_at down c))
      by_test true true = record { rest = marked_at down c ∷ []; joins = ap (λ l. l ++ marked_at down c ∷ []) (append-nil (taken_at down c)) }
      by_test true false = prefix_refl _
      by_test false w = prefix_refl _

  keeps : (end : ℕ) → KeepsItems (shows down.commands.signals) (takes down) (marked_at down) end
  keeps end = record {
    accepted = accepts_shows down.commands.signals down.commands.waitrequest;
    held = λ c low held.
        let levels = next_levels c true held in
        let none : takes down c ≡ false = takes_none c held in
        let bursts : burst_before down.shape down.commands.signals (takes down) (suc c) ≡ burst_before down.shape down.commands.signals (takes down) c =
        ap (λ b. burst_after down.shape (levels_at down.commands.signals c) b (burst_before down.shape down.commands.signals (takes down) c)) none in
        let tags : down.commands.tag (suc c) ≡ down.commands.tag c = register.tag c ∙ ap (λ b. if b then down.commands.tag c else up.commands.tag c) held in
        let mores : down.commands.more (suc c) ≡ down.commands.more c = register.more c ∙ ap (λ b. if b then down.commands.more c else up.commands.more c) held in (
          ap shown_by levels ∙ (and_parts (s c) (not (takes down c)) held).0,
          sym (same_marked down.shape down.shape _ _ _ _ _ _ _ _ refl tags mores levels bursts),
        );
  }

  -- and what is shown below too
  pub shown_later : (end c : ℕ) → AreLegalAt up end → c ≤ end → IsPrefix (shown_at down (suc c)) (shown_at up c)
  shown_later end c legal low =
      let all : shown_at down (suc c) ≡ taken_at down (suc c) ++ only_if (stalls c) (marked_at down c) = shown_is_accepted_and_standing _ _ _ (suc c) (suc c) (keeps (suc c)) (omega arith) in
      let whole : shown_at down (suc c) ≡ taken_at up c = all ∙ by_test (s c) (is_raised (down.commands.waitrequest c)) ∙ sym (is_ahead c).0 in
      subst (λ l. IsPrefix l (shown_at up c)) (sym whole) (taken_is_shown up end c legal low)
    where
      by_test : (s w : Bool) → (taken_at down c ++ only_if (s && not w) (marked_at down c)) ++ only_if (s && not (s && not w)) (marked_at down c) ≡ taken_at down c ++ only_if s (marked_at down c)
      by_test true true = ap (λ l. l ++ marked_at down c ∷ []) (append-nil (taken_at down c))
      by_test true false = append-nil _
      by_test false w = append-nil _
