-- The machine of an arbiter takes turns by the rule at its ports.
use Rattle.std.proofs.Common.{ℕ, zero, suc, ◌<◌, ◌≡◌, List, ◌||◌, IsTrue, IsFalse, arith, sym, ap, ◌∙◌, subst, Option, Some, None, MatchOption}
use Rattle.histories.specs.History.{is_raised}
use Rattle.memory_runs.specs.Commands.{shows}
use Rattle.memory_machines.specs.Link.{Port}
use Rattle.memory_machines.specs.Lines.{TaggedPort}
use Rattle.memory_machines.specs.Machines.{Raw, raw_at}
use Rattle.memory_machines.specs.Turns.{Grant, chosen, grant_after, grant_before, asks_at, ends_at, TakesTurnsByRule}
use Rattle.histories.specs.Turns.{Seat}
use Rattle.memory_parts.specs.Arbiter.{IsArbiterMachine}
use Rattle.memory_parts.proofs.Rounds.{GrantFits, ChoiceFits, choice_fits, grant_fits}

abbrev Any : ℕ → Type 0
Any host = Unit {0}

module _ (seats : List Seat) (hosts : ℕ) (up : ℕ → Port) (down : TaggedPort) (grant : ℕ → Grant) (end : ℕ) (machine : IsArbiterMachine seats hosts up down grant end) where
  -- its registers are those of the rule
  grant_is : (c : ℕ) → c < end → grant c ≡ grant_before seats up down.port c
  grant_is zero low = machine.begins
  grant_is (suc c) low = machine.next c low ∙ ap (λ g. grant_after g (chosen g (asks_at up c)) (ends_at up down.port c)) (grant_is c (omega arith))

  grants : (c : ℕ) → c < end → GrantFits Any (grant c)
  grants zero low = subst (GrantFits Any) (sym machine.begins) (record { holder = tt; round = record { all = λ k d less. tt; last = λ e. tt } })
  grants (suc c) low = subst (GrantFits Any) (sym (machine.next c low)) (grant_fits Any (grant c) (asks_at up c) (ends_at up down.port c) (grants c (omega arith)))

  abbrev Shows : ℕ → Option ℕ → Type 0
  Shows c choice = MatchOption choice (IsFalse (shows down.commands.signals c)) (λ host. IsTrue (shows down.commands.signals c) × (down.commands.tag c ≡ (up host).commands.tag c))

  shows_choice : (c : ℕ) (choice : Option ℕ) → ChoiceFits Any (asks_at up c) choice →
      MatchOption choice (IsFalse (shows down.commands.signals c)) (λ host. raw_at down.port c ≡ raw_at (up host) c) → Shows c choice
  shows_choice c None fits shown = shown
  shows_choice c (Some host) fits shown = (
    ap (λ (r : Raw). is_raised r.levels.read || is_raised r.levels.write) shown ∙ fits.1,
    ap (λ (r : Raw). r.tag) shown,
  )

  pub takes_turns : TakesTurnsByRule seats up down.port end
  takes_turns c low =
      let fits = grants c low in
      subst (λ g. Shows c (chosen g (asks_at up c)).host) (grant_is c low)
      (shows_choice c (chosen (grant c) (asks_at up c)).host (choice_fits Any (grant c).open_host (asks_at up c) (grant c).round fits.holder fits.round).0 (machine.shown c low))
