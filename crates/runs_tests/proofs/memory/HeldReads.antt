-- Between words of one size a splitter and what drops beats hold reads back, with room for one.
use Rattle.std.proofs.Common.{ℕ, zero, suc, ◌≡◌, Bool, true, false, not, ◌&&◌, ◌||◌, [], ◌∷◌, if◌then◌else◌, arith, refl, ap, ap₂, ◌∙◌, length, nat_eq, nat_lt}
use Rattle.histories.specs.History.{is_raised, one_if}
use Rattle.memory_runs.specs.Commands.{shows}
use Rattle.memory_machines.specs.Link.{Port, takes, is_nonempty}
use Rattle.memory_machines.specs.Machines.{raw_at}
use Rattle.memory_links.specs.Driven.{split_above, split_below, split_state, drop_above, drop_below, drop_state}
use Rattle.memory_links.specs.Drops.{DropState, RunsAsDrop, Standing, sends, keeps}
use Rattle.memory_links.specs.Splits.{SplitState, RunsAsSplit, split_at, asked_at, are_same}
use Rattle.runs_tests.specs.LinkRuns.{one_piece, nothing_dropped}

module _ (run : RunsAsSplit 1 (split_above one_piece) (split_below one_piece) (split_state one_piece)) where
  abbrev upper : Port
  upper = split_above one_piece

  abbrev lower : Port
  lower = split_below one_piece

  abbrev registers : SplitState
  registers = split_state one_piece

  -- a read is owed its word
  record IsOwed (c : ℕ) : Type 0 where
    pub place : registers.place c ≡ 0
    pub reads : registers.reads c ≡ 1

  abbrev opens_by : ℕ → ℕ → ℕ → Bool
  opens_by c place reads = nat_lt reads 1 && (nat_lt 0 place || (nat_eq reads 0 || are_same (registers.set c) (asked_at upper lower c)))

  none_shown : (c : ℕ) → IsOwed c → shows lower.commands.signals c ≡ false
  none_shown c owed = run.shown c ∙ ap₂ (λ p r. opens_by c p r && nat_lt p (length (split_at upper lower c))) owed.place owed.reads

  none_taken : (c : ℕ) → IsOwed c → takes upper c ≡ false
  none_taken c owed =
      run.accepts c ∙ ap₂ (λ p r. opens_by c p r && (nat_eq (length (split_at upper lower c)) 0 || (takes lower c && nat_eq (suc (registers.place c)) (length (split_at upper lower c))))) owed.place owed.reads

  is_owed : (c : ℕ) → IsOwed (suc c)
  is_owed zero = record { place = refl; reads = refl }
  is_owed (suc c) =
      let owed = is_owed c in
      let above = none_taken (suc c) owed in
      let below = ap (λ s. s && not (is_raised (lower.commands.waitrequest (suc c)))) (none_shown (suc c) owed) in
      let none = ap (λ t. one_if (t && not (is_raised (upper.commands.write (suc c))))) above in
      let next = run.reads_next (suc c) in
      let before = owed.reads in
      record {
        place = run.place_next (suc c) ∙ ap₂ (λ u t. if u then 0 else if t then suc (registers.place (suc c)) else registers.place (suc c)) above below ∙ owed.place;
        reads = omega (arith, next, none, before);
      }

  pub splitter_holds : (c : ℕ) → shows lower.commands.signals (suc c) ≡ false
  splitter_holds c = none_shown (suc c) (is_owed c)

module _ (run : RunsAsDrop 1 (drop_above nothing_dropped) (drop_below nothing_dropped) (drop_state nothing_dropped)) where
  abbrev drop_upper : Port
  drop_upper = drop_above nothing_dropped

  abbrev drop_lower : Port
  drop_lower = drop_below nothing_dropped

  abbrev drop_registers : DropState
  drop_registers = drop_state nothing_dropped

  -- a read with a lane stands
  abbrev stands : Bool → ℕ → Standing
  stands holds reads = record { shown = true; writes = false; acts = true; more = false; holds = holds; reads = reads }

  record IsWaiting (c : ℕ) : Type 0 where
    pub kept : drop_registers.kept c ≡ []
    pub reads : drop_registers.reads c ≡ 1

  none_sent : (c : ℕ) → IsWaiting c → shows drop_lower.commands.signals c ≡ false
  none_sent c waits = run.shown c ∙ ap₂ (λ q r. sends 1 (stands (is_nonempty q) r)) waits.kept waits.reads

  is_waiting : (c : ℕ) → IsWaiting (suc c)
  is_waiting zero = record { kept = refl; reads = refl }
  is_waiting (suc c) =
      let waits = is_waiting c in
      let below = ap (λ s. s && not (is_raised (drop_lower.commands.waitrequest (suc c)))) (none_sent (suc c) waits) in
      let none = ap (λ t. one_if (t && not (is_raised (drop_lower.commands.write (suc c))))) below in
      let next = run.reads_next (suc c) in
      let before = waits.reads in
      record {
        kept = run.kept_next (suc c)
            ∙ ap₂ (λ q r. if keeps (stands (is_nonempty q) r) (takes drop_lower (suc c)) then raw_at drop_upper (suc c) ∷ [] else if takes drop_lower (suc c) then [] else drop_registers.kept (suc c)) waits.kept waits.reads
            ∙ ap (λ t. if keeps (stands false 1) t then raw_at drop_upper (suc c) ∷ [] else if t then [] else drop_registers.kept (suc c)) below ∙ waits.kept;
        reads = omega (arith, next, none, before);
      }

  pub dropper_holds : (c : ℕ) → shows drop_lower.commands.signals (suc c) ≡ false
  dropper_holds c = none_sent (suc c) (is_waiting c)
