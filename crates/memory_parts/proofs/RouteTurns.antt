-- In each cycle the route shows its beat to one place, and knows where a burst is under way and who owes words.
use Rattle.std.proofs.Common.{ℕ, zero, suc, ◌<◌, ◌≤◌, ◌≡◌, ◌+◌, ◌-◌, Bool, true, false, not, ◌&&◌, ◌||◌, if◌then◌else◌, nat_lt, nat_eq, arith, tests, refl, sym, ap, ap₂, ◌∙◌, subst, Option, Some, None}
use Rattle.std.proofs.lemmas.Bool.{and_parts, eqb-true, eqb-false, ltb-true, ltb-false, lt-ltb, le-ltb, ne_eqb}
use Rattle.histories.specs.History.{is_raised}
use Rattle.memory_runs.specs.Views.{System, Responses, levels_at}
use Rattle.memory_runs.specs.Views.Kind.{Reads, Writes}
use Rattle.memory_runs.specs.Commands.{Burst, shows, burst_before, burst_after, transfer_of, byte_address}
use Rattle.memory_runs.specs.Order.{is_agent, place_of}
use Rattle.memory_machines.specs.Link.{Port, Marked, takes, marked_at, AreLegalAt}
use Rattle.memory_machines.specs.Machines.{IsFitBeat, raw_at}
use Rattle.memory_machines.specs.SideLaws.{fit_when_shown}
use Rattle.memory_parts.specs.Queue.{by_option}
use Rattle.memory_machines.specs.Lines.{AreSingle}
use Rattle.memory_parts.specs.Route.{RouteState, IsRouteMachine, place_now, is_open, goes_to, kind_at}
use Rattle.memory_parts.proofs.Shared.{IsSameBurst, both_idle, same_after, same_transfer}

nothing : (b : Bool) → (b && false) ≡ false
nothing true = refl
nothing false = refl

pub of_agent : (a : ℕ) (o : Option ℕ) → is_agent a o ≡ true → o ≡ Some a
of_agent a None e = cc
of_agent a (Some k) e = let same = eqb-true a k e in ap Some (sym same)

pub at_agent : (a : ℕ) (o : Option ℕ) → o ≡ Some a → is_agent a o ≡ true
at_agent a o e = ap (is_agent a) e ∙ self a
  where
    self : (n : ℕ) → nat_eq n n ≡ true
    self n = grind (arith, tests)

last_or_more : (n : ℕ) → 1 ≤ n → not (nat_eq n 1) ≡ nat_lt 0 (n - 1)
last_or_more n some = by_test (nat_eq n 1) refl
  where
    by_test : (b : Bool) → nat_eq n 1 ≡ b → not (nat_eq n 1) ≡ nat_lt 0 (n - 1)
    by_test true e = let one = eqb-true n 1 e in ap not e ∙ sym (le-ltb 0 (n - 1) (omega (arith, one)))
    by_test false e = let other = eqb-false n 1 e in ap not e ∙ sym (lt-ltb 0 (n - 1) (omega (arith, other, some)))

gated : (b : Bool) (n : ℕ) → is_raised (if b then n else 0) ≡ (b && is_raised n)
gated true n = refl
gated false n = refl

module _ (responses : Responses) (system : System) (host room : ℕ) (up : Port) (down : ℕ → Port) (state : RouteState) (end : ℕ) (machine : IsRouteMachine responses system host room up down state end)
    (legal : AreLegalAt up end) (single : AreSingle up end) where
  abbrev pub place : ℕ → Option ℕ
  place c = place_now system host up state c

  abbrev pub gate : ℕ → Bool
  gate c = is_open system host up state c

  abbrev pub goes : ℕ → ℕ → Bool
  goes a c = goes_to system host up state a c

  abbrev pub burst_above : ℕ → Burst
  burst_above c = burst_before up.shape up.commands.signals (takes up) c

  abbrev pub burst_below : ℕ → ℕ → Burst
  burst_below a c = burst_before (down a).shape (down a).commands.signals (takes (down a)) c

  pub shows_down : (a c : ℕ) → a < system.agents → c < end → shows (down a).commands.signals c ≡ (goes a c && shows up.commands.signals c)
  shows_down a c there low =
      ap₂ (λ r w. r || w) (ap is_raised (machine.read a c there low) ∙ gated (goes a c) (up.commands.read c)) (ap is_raised (machine.write a c there low) ∙ gated (goes a c) (up.commands.write c))
      ∙ both (goes a c) (is_raised (up.commands.read c)) (is_raised (up.commands.write c))
    where
      both : (g r w : Bool) → ((g && r) || (g && w)) ≡ (g && (r || w))
      both true r w = refl
      both false r w = refl

  -- where the beat goes to a place, that place sees the levels of the beat
  pub levels_down : (a c : ℕ) → a < system.agents → c < end → goes a c ≡ true → levels_at (down a).commands.signals c ≡ levels_at up.commands.signals c
  levels_down a c there low go =
      let read : (down a).commands.read c ≡ up.commands.read c = machine.read a c there low ∙ ap (λ b. if b then up.commands.read c else 0) go in
      let write : (down a).commands.write c ≡ up.commands.write c = machine.write a c there low ∙ ap (λ b. if b then up.commands.write c else 0) go in
      let address = machine.address a c there low in
      let word = machine.word a c there low in
      let enables = machine.enables a c there low in
      let count = machine.count a c there low in
      cc

  pub takes_down : (a c : ℕ) → a < system.agents → c < end → takes (down a) c ≡ (takes up c && goes a c)
  takes_down a c there low = by_goes (goes a c) refl
    where
      by_goes : (b : Bool) → goes a c ≡ b → takes (down a) c ≡ (takes up c && goes a c)
      by_goes false e = ap (λ s. s && not (is_raised ((down a).commands.waitrequest c))) (shows_down a c there low ∙ ap (λ b. b && shows up.commands.signals c) e) ∙ sym (ap (λ b. takes up c && b) e ∙ nothing (takes up c))
      by_goes true e =
          let parts = and_parts (is_agent a (place c)) (gate c) e in
          let at = of_agent a (place c) parts.0 in
          let wait : is_raised (up.commands.waitrequest c) ≡ is_raised ((down a).commands.waitrequest c) = machine.wait c low ∙ ap₂ (λ o p. not o || by_option p false (λ a. is_raised ((down a).commands.waitrequest c))) parts.1 at in
          ap (λ s. s && not (is_raised ((down a).commands.waitrequest c))) (shows_down a c there low ∙ ap (λ b. b && shows up.commands.signals c) e)
          ∙ ap (λ w. shows up.commands.signals c && not w) (sym wait) ∙ sym (ap (λ b. takes up c && b) e ∙ whole (takes up c))
        where
          whole : (b : Bool) → (b && true) ≡ b
          whole true = refl
          whole false = refl

  -- what is taken has gone through the gate
  pub taken_open : (c : ℕ) → c < end → takes up c ≡ true → gate c ≡ true
  taken_open c low taken =
      first_false (gate c) (by_option (place c) false (λ a. is_raised ((down a).commands.waitrequest c))) (sym (machine.wait c low) ∙ calm (is_raised (up.commands.waitrequest c)) (and_parts (shows up.commands.signals c) (not (is_raised (up.commands.waitrequest c))) taken).1)
    where
      calm : (b : Bool) → not b ≡ true → b ≡ false
      calm true e = sym e
      calm false e = refl

      first_false : (g w : Bool) → (not g || w) ≡ false → g ≡ true
      first_false true w e = refl
      first_false false w e = sym e

  -- ---- where a burst is under way

  pub record Inside (c : ℕ) : Type 0 where
    pub inside : state.inside c ≡ nat_lt 0 (burst_above c).left
    pub kept : nat_lt 0 (burst_above c).left ≡ true → state.kept c ≡ system.place host Writes (burst_above c).first

  pub shown_of : (c : ℕ) → takes up c ≡ true → shows up.commands.signals c ≡ true
  shown_of c taken = (and_parts (shows up.commands.signals c) (not (is_raised (up.commands.waitrequest c))) taken).0

  -- the place of what is shown
  pub place_is : (c : ℕ) → c < end → Inside c → shows up.commands.signals c ≡ true → place c ≡ place_of system host (marked_at up c).transfer
  place_is c low at shown = by_both (nat_lt 0 (burst_above c).left) (is_raised (up.commands.write c)) refl refl
    where
      by_both : (l w : Bool) → nat_lt 0 (burst_above c).left ≡ l → is_raised (up.commands.write c) ≡ w → place c ≡ place_of system host (marked_at up c).transfer
      by_both true true l w =
          let busy : nat_eq (burst_above c).left 0 ≡ false = (let some = ltb-true 0 (burst_above c).left l in ne_eqb (burst_above c).left 0 (λ e. omega (arith, some, e))) in
          let kept = at.kept l in
          let inside : state.inside c ≡ true = at.inside ∙ l in
          rw (w, inside, busy) kept
      by_both true false l w = let quiet = legal.legal.finished c low l in let bad : ⊥ = cc in absurd bad
      by_both false true l w =
          let free : nat_eq (burst_above c).left 0 ≡ true = (let none = ltb-false 0 (burst_above c).left l in let zero_left : (burst_above c).left ≡ 0 = omega (arith, none) in ap (λ n. nat_eq n 0) zero_left) in
          let inside : state.inside c ≡ false = at.inside ∙ l in
          rw (w, inside, free) refl
      by_both false false l w = let inside : state.inside c ≡ false = at.inside ∙ l in rw (w, inside) refl

  next_inside : (c : ℕ) → suc c < end → Inside c → Inside (suc c)
  next_inside c low at = by_taken (takes up c) refl
    where
      by_taken : (b : Bool) → takes up c ≡ b → Inside (suc c)
      by_taken false none =
          let still : burst_above (suc c) ≡ burst_above c = ap (λ b. burst_after up.shape (levels_at up.commands.signals c) b (burst_above c)) none in
          record {
            inside = machine.stays c low ∙ ap (λ b. if b then is_raised (up.commands.more c) else state.inside c) none ∙ at.inside ∙ ap (λ (b : Burst). nat_lt 0 b.left) (sym still);
            kept = λ under.
                let there : nat_lt 0 (burst_above c).left ≡ true = ap (λ (b : Burst). nat_lt 0 b.left) (sym still) ∙ under in
                machine.keeps c low ∙ ap (λ b. if b then state.kept c else system.place host (kind_at up c) (byte_address up.shape (up.commands.address c))) (at.inside ∙ there) ∙ at.kept there ∙ ap (λ (b : Burst). system.place host Writes b.first) (sym still);
          }
      by_taken true taken = by_both (nat_lt 0 (burst_above c).left) (is_raised (up.commands.write c)) refl refl
        where
          more : state.inside (suc c) ≡ not (marked_at up c).transfer.ends
          more = machine.stays c low ∙ ap (λ b. if b then is_raised (up.commands.more c) else state.inside c) taken ∙ single c (omega arith) (shown_of c taken)

          moved : burst_above (suc c) ≡ burst_after up.shape (levels_at up.commands.signals c) true (burst_above c)
          moved = ap (λ b. burst_after up.shape (levels_at up.commands.signals c) b (burst_above c)) taken

          fits : IsFitBeat up.shape (burst_above c) (raw_at up c)
          fits = fit_when_shown up end c legal (omega arith) (shown_of c taken)

          by_both : (l w : Bool) → nat_lt 0 (burst_above c).left ≡ l → is_raised (up.commands.write c) ≡ w → Inside (suc c)
          by_both true false l w = let quiet = legal.legal.finished c (omega arith) l in let bad : ⊥ = (let shown = shown_of c taken in cc) in absurd bad
          by_both false false l w =
              let still : burst_above (suc c) ≡ burst_above c = moved ∙ rw w refl in
              let ends : (marked_at up c).transfer.ends ≡ true = rw w refl in
              record {
                inside = more ∙ ap not ends ∙ sym (ap (λ (b : Burst). nat_lt 0 b.left) still ∙ l);
                kept = λ under. (let bad : ⊥ = (let none = ap (λ (b : Burst). nat_lt 0 b.left) still in cc) in absurd bad);
              }
          by_both true true l w =
              let some = ltb-true 0 (burst_above c).left l in
              let busy : nat_eq (burst_above c).left 0 ≡ false = ne_eqb (burst_above c).left 0 (λ e. omega (arith, some, e)) in
              let next : burst_above (suc c) ≡ record { left = (burst_above c).left - 1; done = (burst_above c).done + 1; first = (burst_above c).first } = moved ∙ rw (w, busy) refl in
              let ends : (marked_at up c).transfer.ends ≡ nat_eq (burst_above c).left 1 = rw (w, busy) refl in
              record {
                inside = more ∙ ap not ends ∙ last_or_more (burst_above c).left some ∙ sym (ap (λ (b : Burst). nat_lt 0 b.left) next);
                kept = λ under. machine.keeps c low ∙ ap (λ b. if b then state.kept c else system.place host (kind_at up c) (byte_address up.shape (up.commands.address c))) (at.inside ∙ l) ∙ at.kept l ∙ ap (λ (b : Burst). system.place host Writes b.first) (sym next);
              }
          by_both false true l w =
              let none = ltb-false 0 (burst_above c).left l in
              let zero_left : (burst_above c).left ≡ 0 = omega (arith, none) in
              let free : nat_eq (burst_above c).left 0 ≡ true = ap (λ n. nat_eq n 0) zero_left in
              let next : burst_above (suc c) ≡ record { left = up.commands.count c - 1; done = 1; first = byte_address up.shape (up.commands.address c) } = moved ∙ rw (w, free) refl in
              let ends : (marked_at up c).transfer.ends ≡ nat_eq (up.commands.count c) 1 = rw (w, free) refl in
              record {
                inside = more ∙ ap not ends ∙ last_or_more (up.commands.count c) (fits.least l) ∙ sym (ap (λ (b : Burst). nat_lt 0 b.left) next);
                kept = λ under. machine.keeps c low ∙ ap (λ b. if b then state.kept c else system.place host (kind_at up c) (byte_address up.shape (up.commands.address c))) (at.inside ∙ l)
                    ∙ ap (λ b. system.place host (if b then Writes else Reads) (byte_address up.shape (up.commands.address c))) w ∙ ap (λ (b : Burst). system.place host Writes b.first) (sym next);
              }

  pub inside_at : (c : ℕ) → c < end → Inside c
  inside_at zero low = record { inside = machine.outside; kept = λ under. (let bad : ⊥ = cc in absurd bad) }
  inside_at (suc c) low = next_inside c low (inside_at c (omega arith))

  -- inside a burst the place stays
  place_inside : (c : ℕ) → c < end → nat_lt 0 (burst_above c).left ≡ true → place c ≡ state.kept c
  place_inside c low under = ap (λ b. if b then state.kept c else system.place host (kind_at up c) (byte_address up.shape (up.commands.address c))) ((inside_at c low).inside ∙ under)

  -- ---- where the bursts of the places stand

  pub record Bursts (c : ℕ) : Type 0 where
    pub held : (a : ℕ) → a < system.agents → nat_lt 0 (burst_above c).left ≡ true → state.kept c ≡ Some a → IsSameBurst (burst_below a c) (burst_above c)
    pub others : (a : ℕ) → a < system.agents → (nat_lt 0 (burst_above c).left ≡ true → state.kept c ≡ Some a → ⊥) → (burst_below a c).left ≡ 0

  left_none : (n : ℕ) → nat_lt 0 n ≡ false → n ≡ 0
  left_none n e = let none = ltb-false 0 n e in omega (arith, none)

  pub place_same : (a c : ℕ) → a < system.agents → c < end → Bursts c → place c ≡ Some a → IsSameBurst (burst_below a c) (burst_above c)
  place_same a c there low bursts at = by_left (nat_lt 0 (burst_above c).left) refl
    where
      by_left : (b : Bool) → nat_lt 0 (burst_above c).left ≡ b → IsSameBurst (burst_below a c) (burst_above c)
      by_left true e = bursts.held a there e (sym (place_inside c low e) ∙ at)
      by_left false e = both_idle (burst_below a c) (burst_above c) (bursts.others a there (λ under kept. let bad : ⊥ = cc in bad)) (left_none (burst_above c).left e)

  other_idle : (a c : ℕ) → a < system.agents → c < end → Bursts c → (place c ≡ Some a → ⊥) → (burst_below a c).left ≡ 0
  other_idle a c there low bursts other = bursts.others a there (λ under kept. other (place_inside c low under ∙ kept))

  still_down : (a c : ℕ) → takes (down a) c ≡ false → burst_below a (suc c) ≡ burst_below a c
  still_down a c none = ap (λ b. burst_after (down a).shape (levels_at (down a).commands.signals c) b (burst_below a c)) none

  next_bursts : (c : ℕ) → suc c < end → Bursts c → Bursts (suc c)
  next_bursts c low bursts = by_taken (takes up c) refl
    where
      now_low : c < end
      now_low = omega arith

      -- a place to which the beat doesn't go stays as it was
      idle_on : (a : ℕ) → a < system.agents → (place c ≡ Some a → ⊥) → (burst_below a (suc c)).left ≡ 0
      idle_on a there other =
          let none : takes (down a) c ≡ false = takes_down a c there now_low ∙ ap (λ b. takes up c && (b && gate c)) (apart (is_agent a (place c)) refl) ∙ nothing (takes up c) in
          ap (λ (b : Burst). b.left) (still_down a c none) ∙ other_idle a c there now_low bursts other
        where
          apart : (b : Bool) → is_agent a (place c) ≡ b → is_agent a (place c) ≡ false
          apart false e = e
          apart true e = absurd (other (of_agent a (place c) e))

      kept_next : state.kept (suc c) ≡ place c
      kept_next = machine.keeps c low

      by_taken : (b : Bool) → takes up c ≡ b → Bursts (suc c)
      by_taken false none =
          let still : burst_above (suc c) ≡ burst_above c = ap (λ b. burst_after up.shape (levels_at up.commands.signals c) b (burst_above c)) none in
          record {
            held = λ a there under kept.
                let quiet : takes (down a) c ≡ false = takes_down a c there now_low ∙ ap (λ b. b && goes a c) none in
                subst (λ b. IsSameBurst b (burst_above (suc c))) (sym (still_down a c quiet)) (subst (IsSameBurst (burst_below a c)) (sym still) (place_same a c there now_low bursts (sym kept_next ∙ kept)));
            others = λ a there other. by_place a there other none still (is_agent a (place c)) refl;
          }
        where
          by_place : (a : ℕ) → a < system.agents → (nat_lt 0 (burst_above (suc c)).left ≡ true → state.kept (suc c) ≡ Some a → ⊥) → takes up c ≡ false → burst_above (suc c) ≡ burst_above c → (b : Bool) → is_agent a (place c) ≡ b → (burst_below a (suc c)).left ≡ 0
          by_place a there other none still false e = idle_on a there (λ at. let yes = at_agent a (place c) at in let bad : ⊥ = cc in bad)
          by_place a there other none still true e =
              let at = of_agent a (place c) e in
              let quiet : takes (down a) c ≡ false = takes_down a c there now_low ∙ ap (λ b. b && goes a c) none in
              let free : nat_lt 0 (burst_above c).left ≡ false = no_burst (nat_lt 0 (burst_above c).left) refl in
              ap (λ (b : Burst). b.left) (still_down a c quiet) ∙ (place_same a c there now_low bursts at).left ∙ left_none (burst_above c).left free
            where
              no_burst : (b : Bool) → nat_lt 0 (burst_above c).left ≡ b → nat_lt 0 (burst_above c).left ≡ false
              no_burst false l = l
              no_burst true l = absurd (other (ap (λ (b : Burst). nat_lt 0 b.left) still ∙ l) (kept_next ∙ of_agent a (place c) e))
      by_taken true taken =
          record {
            held = λ a there under kept. now a there (sym kept_next ∙ kept);
            others = λ a there other. by_place a there other (is_agent a (place c)) refl;
          }
        where
          now : (a : ℕ) → a < system.agents → place c ≡ Some a → IsSameBurst (burst_below a (suc c)) (burst_above (suc c))
          now a there at =
              let go : goes a c ≡ true = ap₂ (λ x y. x && y) (at_agent a (place c) at) (taken_open c now_low taken) in
              let taken_too : takes (down a) c ≡ takes up c = takes_down a c there now_low ∙ ap (λ b. takes up c && b) go ∙ ap (λ b. b && true) taken ∙ sym taken in
              let next = same_after up.shape (levels_at up.commands.signals c) (takes up c) (burst_below a c) (burst_above c) (place_same a c there now_low bursts at) in
              subst (λ b. IsSameBurst b (burst_above (suc c))) (sym (ap₂ (λ s l. burst_after s l (takes (down a) c) (burst_below a c)) (machine.shapes a there) (levels_down a c there now_low go) ∙ ap (λ t. burst_after up.shape (levels_at up.commands.signals c) t (burst_below a c)) taken_too)) next

          by_place : (a : ℕ) → a < system.agents → (nat_lt 0 (burst_above (suc c)).left ≡ true → state.kept (suc c) ≡ Some a → ⊥) → (b : Bool) → is_agent a (place c) ≡ b → (burst_below a (suc c)).left ≡ 0
          by_place a there other false e = idle_on a there (λ at. let yes = at_agent a (place c) at in let bad : ⊥ = cc in bad)
          by_place a there other true e = (now a there (of_agent a (place c) e)).left ∙ left_none (burst_above (suc c)).left (no_burst (nat_lt 0 (burst_above (suc c)).left) refl)
            where
              no_burst : (b : Bool) → nat_lt 0 (burst_above (suc c)).left ≡ b → nat_lt 0 (burst_above (suc c)).left ≡ false
              no_burst false l = l
              no_burst true l = absurd (other l (kept_next ∙ of_agent a (place c) e))

  pub bursts_at : (c : ℕ) → c < end → Bursts c
  bursts_at zero low = record { held = λ a there under kept. both_idle (burst_below a 0) (burst_above 0) refl refl; others = λ a there other. refl }
  bursts_at (suc c) low = next_bursts c low (bursts_at c (omega arith))

  pub same_burst : (a c : ℕ) → a < system.agents → c < end → place c ≡ Some a → IsSameBurst (burst_below a c) (burst_above c)
  same_burst a c there low at = place_same a c there low (bursts_at c low) at

  -- the beat at a place is the route's, under the host's number
  abbrev pub retag : Marked → Marked
  retag x = record { tag = host; more = x.more; transfer = x.transfer }

  pub same_marked : (a c : ℕ) → a < system.agents → c < end → goes a c ≡ true → marked_at (down a) c ≡ retag (marked_at up c)
  same_marked a c there low go =
      let parts = and_parts (is_agent a (place c)) (gate c) go in
      let at = of_agent a (place c) parts.0 in
      ap₂ (λ t k. record { tag = t; more = is_raised k; transfer = transfer_of (down a).shape (levels_at (down a).commands.signals c) (burst_below a c) }) (machine.tag a c there low) (machine.more a c there low)
      ∙ ap₂ (λ s l. record { tag = host; more = is_raised (up.commands.more c); transfer = transfer_of s l (burst_below a c) }) (machine.shapes a there) (levels_down a c there low go)
      ∙ ap (λ t. record { tag = host; more = is_raised (up.commands.more c); transfer = t }) (same_transfer up.shape (levels_at up.commands.signals c) (burst_below a c) (burst_above c) (same_burst a c there low at))
