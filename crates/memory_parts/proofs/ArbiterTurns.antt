-- In each cycle the arbiter shows the beat of the one that it chooses, and takes it from that one alone.
use Rattle.std.proofs.Common.{ℕ, zero, suc, ◌<◌, ◌≡◌, Bool, true, false, not, ◌&&◌, ◌||◌, IsTrue, IsFalse, if◌then◌else◌, nat_eq, arith, tests, refl, sym, ap, ap₂, ◌∙◌, subst, Option, Some, None, MatchOption}
use Rattle.std.proofs.lemmas.Bool.{and_parts, eqb-true, eqb-false, false≢true}
use Rattle.histories.specs.History.{is_raised}
use Rattle.memory_runs.specs.Views.{System, levels_at}
use Rattle.memory_runs.specs.Commands.{Burst, shows, burst_before, burst_after}
use Rattle.memory_runs.specs.Order.{is_agent, is_joined}
use Rattle.memory_machines.specs.Link.{Port, takes, marked_at, closes}
use Rattle.memory_machines.specs.Lines.{TaggedPort}
use Rattle.memory_machines.specs.Machines.{Raw, raw_at, mark}
use Rattle.memory_machines.specs.Turns.{Grant, chosen, choice_of, open_after, asks_at, ends_at, seats_of}
use Rattle.histories.specs.Turns.{Round}
use Rattle.memory_machines.specs.SideLaws.{fit_when_shown}
use Rattle.memory_machines.specs.Lines.{AreFitToAsk}
use Rattle.memory_parts.specs.Arbiter.{IsArbiterMachine}
use Rattle.memory_parts.proofs.Rounds.{GrantFits, ChoiceFits, choice_fits, grant_fits, all_seated}
use Rattle.memory_parts.proofs.Shared.{IsSameBurst, both_idle, same_after, same_transfer, ended_idle}

abbrev Below : ℕ → ℕ → Type 0
Below hosts h = h < hosts

pub of_open : (holder : Option ℕ) (asks : ℕ → Bool) (round : Round) (k h : ℕ) → holder ≡ Some k → (choice_of holder asks round).host ≡ Some h → h ≡ k
of_open None asks round k h one two = cc
of_open (Some host) asks round k h one two = by_test (asks host) refl two
  where
    by_test : (b : Bool) → asks host ≡ b → (if b then Some host else None) ≡ Some h → h ≡ k
    by_test true is e = cc
    by_test false is e = cc

module _ (system : System) (agent : ℕ) (up : ℕ → Port) (down : TaggedPort) (grant : ℕ → Grant) (end : ℕ) (machine : IsArbiterMachine (seats_of system agent) system.hosts up down grant end)
    (joined : (h : ℕ) → IsTrue (is_joined system agent h) → h < system.hosts) (fit : AreFitToAsk system agent up end) where
  abbrev pub choice : ℕ → Option ℕ
  choice c = (chosen (grant c) (asks_at up c)).host

  abbrev pub burst_above : ℕ → ℕ → Burst
  burst_above h c = burst_before (up h).shape (up h).commands.signals (takes (up h)) c

  abbrev pub burst_below : ℕ → Burst
  burst_below c = burst_before down.shape down.commands.signals (takes down.port) c

  grants : (c : ℕ) → c < end → GrantFits (Below system.hosts) (grant c)
  grants zero low = subst (GrantFits (Below system.hosts)) (sym machine.begins) (record { holder = tt; round = record { all = all_seated system agent (Below system.hosts) joined; last = λ e. cc } })
  grants (suc c) low = subst (GrantFits (Below system.hosts)) (sym (machine.next c low)) (grant_fits (Below system.hosts) (grant c) (asks_at up c) (ends_at up down.port c) (grants c (omega arith)))

  -- who is chosen is a host that asks
  pub of_choice : (c h : ℕ) → c < end → choice c ≡ Some h → (h < system.hosts) × (shows (up h).commands.signals c ≡ true)
  of_choice c h low is =
      let fits = grants c low in
      subst (ChoiceFits (Below system.hosts) (asks_at up c)) is (choice_fits (Below system.hosts) (grant c).open_host (asks_at up c) (grant c).round fits.holder fits.round).0

  pub same_raw : (c h : ℕ) → c < end → choice c ≡ Some h → raw_at down.port c ≡ raw_at (up h) c
  same_raw c h low is = subst (λ o. MatchOption o (IsFalse (shows down.commands.signals c)) (λ host. raw_at down.port c ≡ raw_at (up host) c)) is (machine.shown c low)

  pub none_shown : (c : ℕ) → c < end → choice c ≡ None → shows down.commands.signals c ≡ false
  none_shown c low is = subst (λ o. MatchOption o (IsFalse (shows down.commands.signals c)) (λ host. raw_at down.port c ≡ raw_at (up host) c)) is (machine.shown c low)

  pub some_shown : (c h : ℕ) → c < end → choice c ≡ Some h → shows down.commands.signals c ≡ true
  some_shown c h low is = ap (λ (r : Raw). is_raised r.levels.read || is_raised r.levels.write) (same_raw c h low is) ∙ (of_choice c h low is).1

  pub takes_up : (h c : ℕ) → h < system.hosts → c < end → takes (up h) c ≡ (takes down.port c && is_agent h (choice c))
  takes_up h c there low = by_shown (shows (up h).commands.signals c) refl
    where
      none : (b : Bool) → (b && false) ≡ false
      none true = refl
      none false = refl

      -- who doesn't ask isn't chosen
      quiet_is_other : shows (up h).commands.signals c ≡ false → (o : Option ℕ) → choice c ≡ o → is_agent h o ≡ false
      quiet_is_other quiet None is = refl
      quiet_is_other quiet (Some k) is = by_same (nat_eq h k) refl
        where
          by_same : (b : Bool) → nat_eq h k ≡ b → nat_eq h k ≡ false
          by_same false e = e
          by_same true e = absurd (false≢true (sym quiet ∙ (of_choice c h low (is ∙ ap Some (sym (eqb-true h k e)))).1))

      quietly : shows (up h).commands.signals c ≡ false → takes (up h) c ≡ (takes down.port c && is_agent h (choice c))
      quietly quiet =
          ap (λ s. s && not (is_raised ((up h).commands.waitrequest c))) quiet
          ∙ sym (ap (λ b. takes down.port c && b) (quiet_is_other quiet (choice c) refl) ∙ none (takes down.port c))

      refused : is_raised ((up h).commands.waitrequest c) ≡ not (is_agent h (choice c)) || is_raised (down.commands.waitrequest c) → is_agent h (choice c) ≡ false → takes (up h) c ≡ (takes down.port c && is_agent h (choice c))
      refused wait e =
          ap (λ w. shows (up h).commands.signals c && not w) (wait ∙ ap (λ b. not b || is_raised (down.commands.waitrequest c)) e) ∙ none (shows (up h).commands.signals c)
          ∙ sym (ap (λ b. takes down.port c && b) e ∙ none (takes down.port c))

      by_same : is_raised ((up h).commands.waitrequest c) ≡ not (is_agent h (choice c)) || is_raised (down.commands.waitrequest c) → (k : ℕ) → choice c ≡ Some k → (b : Bool) → nat_eq h k ≡ b → takes (up h) c ≡ (takes down.port c && is_agent h (choice c))
      by_same wait k is false e = refused wait (ap (is_agent h) is ∙ e)
      by_same wait k is true e =
          let same : h ≡ k = eqb-true h k e in
          let it : is_agent h (choice c) ≡ true = ap (is_agent h) is ∙ e in
          let here : choice c ≡ Some h = is ∙ ap Some (sym same) in
          ap₂ (λ s w. s && not w) ((of_choice c h low here).1) (wait ∙ ap (λ b. not b || is_raised (down.commands.waitrequest c)) it)
          ∙ sym (ap₂ (λ s b. (s && not (is_raised (down.commands.waitrequest c))) && b) (some_shown c h low here) it ∙ whole (not (is_raised (down.commands.waitrequest c))))
        where
          whole : (b : Bool) → (b && true) ≡ b
          whole true = refl
          whole false = refl

      by_choice : is_raised ((up h).commands.waitrequest c) ≡ not (is_agent h (choice c)) || is_raised (down.commands.waitrequest c) → (o : Option ℕ) → choice c ≡ o → takes (up h) c ≡ (takes down.port c && is_agent h (choice c))
      by_choice wait None is = refused wait (ap (is_agent h) is)
      by_choice wait (Some k) is = by_same wait k is (nat_eq h k) refl

      by_shown : (b : Bool) → shows (up h).commands.signals c ≡ b → takes (up h) c ≡ (takes down.port c && is_agent h (choice c))
      by_shown false quiet = quietly quiet
      by_shown true asks = by_choice (machine.wait h c there low asks) (choice c) refl

  -- where the bursts stand
  pub record Bursts (c : ℕ) : Type 0 where
    pub held : (h : ℕ) → h < system.hosts → (grant c).open_host ≡ Some h → IsSameBurst (burst_above h c) (burst_below c)
    pub others : (h : ℕ) → h < system.hosts → ((grant c).open_host ≡ Some h → ⊥) → (burst_above h c).left ≡ 0
    pub free : (grant c).open_host ≡ None → (burst_below c).left ≡ 0

  chosen_same : (c h : ℕ) → c < end → Bursts c → choice c ≡ Some h → IsSameBurst (burst_above h c) (burst_below c)
  chosen_same c h low bursts is = by_open (grant c).open_host refl
    where
      by_open : (o : Option ℕ) → (grant c).open_host ≡ o → IsSameBurst (burst_above h c) (burst_below c)
      by_open None e = both_idle (burst_above h c) (burst_below c) (bursts.others h (of_choice c h low is).0 (λ other. let bad : ⊥ = cc in bad)) (bursts.free e)
      by_open (Some k) e =
          let same : h ≡ k = of_open (grant c).open_host (asks_at up c) (grant c).round k h e is in
          bursts.held h (of_choice c h low is).0 (e ∙ ap Some (sym same))

  -- a host that isn't chosen has no beat taken, and where another is chosen it isn't the open one
  not_open : (c h k : ℕ) → choice c ≡ Some k → (h ≡ k → ⊥) → (grant c).open_host ≡ Some h → ⊥
  not_open c h k is other e = other (sym (of_open (grant c).open_host (asks_at up c) (grant c).round h k e is))

  pub open_next : (c : ℕ) → suc c < end → (grant (suc c)).open_host ≡ open_after (grant c).open_host (choice c) (ends_at up down.port c)
  open_next c low = ap (λ (g : Grant). g.open_host) (machine.next c low)

  still_up : (h c : ℕ) → takes (up h) c ≡ false → burst_above h (suc c) ≡ burst_above h c
  still_up h c none = ap (λ b. burst_after (up h).shape (levels_at (up h).commands.signals c) b (burst_above h c)) none

  step : (c : ℕ) → suc c < end → Bursts c → Bursts (suc c)
  step c low bursts = by_choice (choice c) refl
    where
      by_choice : (o : Option ℕ) → choice c ≡ o → Bursts (suc c)
      by_choice None is =
          let same : (grant (suc c)).open_host ≡ (grant c).open_host = open_next c low ∙ ap (λ o. open_after (grant c).open_host o (ends_at up down.port c)) is in
          let quiet : takes down.port c ≡ false = ap (λ s. s && not (is_raised (down.commands.waitrequest c))) (none_shown c (omega arith) is) in
          let below : burst_below (suc c) ≡ burst_below c = ap (λ b. burst_after down.shape (levels_at down.commands.signals c) b (burst_below c)) quiet in
          record {
            held = λ h there e. subst (λ b. IsSameBurst b (burst_below (suc c))) (sym (above h there quiet)) (subst (IsSameBurst (burst_above h c)) (sym below) (bursts.held h there (sym same ∙ e)));
            others = λ h there e. ap (λ (b : Burst). b.left) (above h there quiet) ∙ bursts.others h there (λ other. e (same ∙ other));
            free = λ e. ap (λ (b : Burst). b.left) below ∙ bursts.free (sym same ∙ e);
          }
        where
          above : (h : ℕ) → h < system.hosts → takes down.port c ≡ false → burst_above h (suc c) ≡ burst_above h c
          above h there quiet = still_up h c (takes_up h c there (omega arith) ∙ ap (λ b. b && is_agent h (choice c)) quiet)
      by_choice (Some k) is = by_ends (ends_at up down.port c k) refl
        where
          there_k : k < system.hosts
          there_k = (of_choice c k (omega arith) is).0

          taken : takes (up k) c ≡ takes down.port c
          taken = takes_up k c there_k (omega arith) ∙ ap (λ b. takes down.port c && b) (ap (is_agent k) is ∙ same_self k) ∙ whole (takes down.port c)
            where
              same_self : (n : ℕ) → nat_eq n n ≡ true
              same_self n = grind (arith, tests)

              whole : (b : Bool) → (b && true) ≡ b
              whole true = refl
              whole false = refl

          now : IsSameBurst (burst_above k (suc c)) (burst_below (suc c))
          now =
              let same = chosen_same c k (omega arith) bursts is in
              let raw = same_raw c k (omega arith) is in
              let next = same_after down.shape (levels_at down.commands.signals c) (takes down.port c) (burst_above k c) (burst_below c) same in
              subst (λ b. IsSameBurst b (burst_below (suc c))) (sym (ap₂ (λ s l. burst_after s l (takes (up k) c) (burst_above k c)) (machine.shapes k there_k) (ap (λ (r : Raw). r.levels) (sym raw)) ∙ ap (λ t. burst_after down.shape (levels_at down.commands.signals c) t (burst_above k c)) taken)) next

          other_left : (h : ℕ) → h < system.hosts → (h ≡ k → ⊥) → (burst_above h (suc c)).left ≡ 0
          other_left h there other =
              let none : takes (up h) c ≡ false = takes_up h c there (omega arith) ∙ ap (λ b. takes down.port c && b) (ap (is_agent h) is ∙ apart h other) ∙ nothing (takes down.port c) in
              ap (λ (b : Burst). b.left) (still_up h c none) ∙ bursts.others h there (not_open c h k is other)
            where
              apart : (h : ℕ) → (h ≡ k → ⊥) → nat_eq h k ≡ false
              apart h other = by_test (nat_eq h k) refl
                where
                  by_test : (b : Bool) → nat_eq h k ≡ b → nat_eq h k ≡ false
                  by_test false e = e
                  by_test true e = absurd (other (eqb-true h k e))

              nothing : (b : Bool) → (b && false) ≡ false
              nothing true = refl
              nothing false = refl

          opened : (grant (suc c)).open_host ≡ (if ends_at up down.port c k then None else Some k)
          opened = open_next c low ∙ ap (λ o. open_after (grant c).open_host o (ends_at up down.port c)) is

          by_ends : (b : Bool) → ends_at up down.port c k ≡ b → Bursts (suc c)
          by_ends true ends =
              let parts = and_parts (takes down.port c) (closes (marked_at (up k) c)) ends in
              let shown = (of_choice c k (omega arith) is).1 in
              let fits = fit_when_shown (up k) end c (fit k there_k).legal (omega arith) shown in
              let last = (and_parts (marked_at (up k) c).transfer.ends (not (is_raised ((up k).commands.more c))) parts.1).0 in
              let idle : (burst_above k (suc c)).left ≡ 0 = ap (λ t. (burst_after (up k).shape (levels_at (up k).commands.signals c) t (burst_above k c)).left) (taken ∙ parts.0) ∙ ended_idle (up k).shape (raw_at (up k) c) (burst_above k c) fits shown last in
              let shut : (grant (suc c)).open_host ≡ None = opened ∙ ap (λ b. if b then None else Some k) ends in
              record {
                held = λ h there e. (let bad : ⊥ = cc in absurd bad);
                others = λ h there e. by_same h there (nat_eq h k) refl idle;
                free = λ e. sym now.left ∙ idle;
              }
            where
              by_same : (h : ℕ) → h < system.hosts → (b : Bool) → nat_eq h k ≡ b → (burst_above k (suc c)).left ≡ 0 → (burst_above h (suc c)).left ≡ 0
              by_same h there true e idle = subst (λ k. (burst_above k (suc c)).left ≡ 0) (sym (eqb-true h k e)) idle
              by_same h there false e idle = other_left h there (λ same. eqb-false h k e same)
          by_ends false ends =
              let held_on : (grant (suc c)).open_host ≡ Some k = opened ∙ ap (λ b. if b then None else Some k) ends in
              record {
                held = λ h there e. (let same : k ≡ h = cc in subst (λ h. IsSameBurst (burst_above h (suc c)) (burst_below (suc c))) same now);
                others = λ h there e. other_left h there (λ same. e (held_on ∙ ap Some (sym same)));
                free = λ e. (let bad : ⊥ = cc in absurd bad);
              }

  pub bursts_at : (c : ℕ) → c < end → Bursts c
  bursts_at zero low = record { held = λ h there e. both_idle (burst_above h 0) (burst_below 0) refl refl; others = λ h there e. refl; free = λ e. refl }
  bursts_at (suc c) low = step c low (bursts_at c (omega arith))

  pub burst_same : (c h : ℕ) → c < end → choice c ≡ Some h → IsSameBurst (burst_above h c) (burst_below c)
  burst_same c h low is = chosen_same c h low (bursts_at c low) is

  -- the beat below is the chosen one's
  pub same_marked : (c h : ℕ) → c < end → choice c ≡ Some h → marked_at down.port c ≡ marked_at (up h) c
  same_marked c h low is =
      let raw = same_raw c h low is in
      ap (λ (r : Raw). mark down.shape (burst_below c) r) raw
      ∙ ap (λ t. record { tag = (up h).commands.tag c; more = is_raised ((up h).commands.more c); transfer = t }) (sym (same_transfer down.shape (levels_at (up h).commands.signals c) (burst_above h c) (burst_below c) (burst_same c h low is)))
      ∙ ap (λ s. mark s (burst_above h c) (raw_at (up h) c)) (sym (machine.shapes h (of_choice c h low is).0))
