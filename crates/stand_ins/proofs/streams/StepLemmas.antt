-- Steps that are left, and the cycles in which ready was high.
use Rattle.std.proofs.Common.{◌≡◌, ℕ, zero, suc, ◌+◌, ◌-◌, ◌<◌, ◌≤◌, List, [], ◌∷◌, ◌++◌, length, take, drop, refl, sym, ap, ◌∙◌, subst, add-one, arith}
use Rattle.std.specs.Prelude.{replicate, Option, slice_set}
use Rattle.std.proofs.Math.Nat.{le_of_suc-le-suc, not-suc-le-zero}
use Rattle.iface_roles.specs.declared.records.StreamPort.{StreamPort}
use Rattle.scenario_tables.specs.declared.statements.SourceStatement.{SourceStatement}
use Rattle.scenario_tables.specs.declared.statements.SourceStatement.TheVariants as states
use Rattle.scenario_tables.specs.Statements.{FollowPackets, open_behind}
use Rattle.stand_ins.specs.Step.{Step}
use Rattle.stand_ins.specs.Step.Step.{Quiet}
use Rattle.stand_ins.specs.StreamsSteps.{steps_of}
use Rattle.stand_ins.specs.Waiting.{AreLasting, AreLeft}

-- the last of a list alone
last_alone : {A : Type 0} (xs : List A) (n : ℕ) → length xs ≡ suc n → (x : A) × (drop n xs ≡ x ∷ [])
last_alone [] n e = absurd (omega (arith, e))
last_alone (x ∷ []) zero e = (x, refl)
last_alone (x ∷ y ∷ xs) zero e = absurd (omega (arith, e))
last_alone (x ∷ xs) (suc n) e = last_alone xs n (omega (arith, e))

pub put_first : {A : Type 0} (old new : List A) (x : A) → length old ≡ 8 → new ≡ drop (length old - 1) old ++ take (length old - 1) old → slice_set new 0 x ≡ x ∷ take 7 old
put_first {A} old new x e turned =
    let seven : length old - 1 ≡ 7 = omega arith in
    let last = last_alone old 7 e in
    ap (λ (xs : List A). slice_set xs 0 x) (turned ∙ ap (λ (n : ℕ). drop n old ++ take n old) seven ∙ ap (λ (xs : List A). xs ++ take 7 old) last.1)

-- a cycle of a gap, which isn't over
pub gap_cycle : (waited cycles : ℕ) (later : List Step) → waited < cycles
    → drop waited (replicate cycles Quiet ++ later) ≡ Quiet ∷ drop (suc waited) (replicate cycles Quiet ++ later)
gap_cycle waited zero later h = absurd (not-suc-le-zero h)
gap_cycle zero (suc cycles) later h = refl
gap_cycle (suc waited) (suc cycles) later h = gap_cycle waited cycles later (le_of_suc-le-suc h)

-- behind the gap
pub gap_over : (cycles : ℕ) (later : List Step) → drop cycles (replicate cycles Quiet ++ later) ≡ later
gap_over zero later = refl
gap_over (suc cycles) later = gap_over cycles later

-- the gaps of a script last
pub gaps_last : (port : StreamPort) (opened : Option ℕ) (script : List SourceStatement) → FollowPackets port opened script → AreLasting script
gaps_last port opened [] follow = tt
gaps_last port opened (states.Beat beat ∷ later) follow = gaps_last port (open_behind beat) later follow.1
gaps_last port opened (states.Gap cycles ∷ later) follow = (follow.0.0, gaps_last port opened later follow.1)

gap_first : (statements later : List SourceStatement) (first : SourceStatement) (cycles : ℕ) → statements ≡ first ∷ later → first ≡ states.Gap cycles → statements ≡ states.Gap cycles ∷ later
gap_first statements later first cycles is gap = is ∙ ap (λ (x : SourceStatement). x ∷ later) gap

-- where a gap stands first, not all of its cycles are over
pub gap_lasts : (statements later : List SourceStatement) (first : SourceStatement) (waited cycles : ℕ) → statements ≡ first ∷ later → first ≡ states.Gap cycles → AreLeft waited statements → waited < cycles
gap_lasts statements later first waited cycles is gap left =
    (let P : List SourceStatement → Type 0 = AreLeft waited in subst P (gap_first statements later first cycles is gap) left).0

pub gap_stands : (statements later : List SourceStatement) (first : SourceStatement) (waited cycles : ℕ) → statements ≡ first ∷ later → first ≡ states.Gap cycles → AreLeft waited statements
    → drop waited (steps_of statements) ≡ Quiet ∷ drop (waited + 1) (steps_of statements)
gap_stands statements later first waited cycles is gap left =
    let e = gap_first statements later first cycles is gap in
    ap (λ (xs : List SourceStatement). drop waited (steps_of xs)) e ∙ gap_cycle waited cycles (steps_of later) (gap_lasts statements later first waited cycles is gap left)
    ∙ ap (λ (xs : List SourceStatement). Quiet ∷ drop (suc waited) (steps_of xs)) (sym e) ∙ ap (λ (n : ℕ). Quiet ∷ drop n (steps_of statements)) (sym (add-one waited))

-- in the last cycle of the gap
pub gap_ends : (statements later : List SourceStatement) (first : SourceStatement) (waited cycles : ℕ) → statements ≡ first ∷ later → first ≡ states.Gap cycles → AreLeft waited statements → cycles ≤ waited + 1
    → drop waited (steps_of statements) ≡ Quiet ∷ steps_of later
gap_ends statements later first waited cycles is gap left ends =
    let lasts = gap_lasts statements later first waited cycles is gap left in
    let over : waited + 1 ≡ cycles = omega arith in
    gap_stands statements later first waited cycles is gap left
    ∙ ap (λ (xs : List SourceStatement). Quiet ∷ drop (waited + 1) (steps_of xs)) (gap_first statements later first cycles is gap)
    ∙ ap (λ (n : ℕ). Quiet ∷ drop n (replicate cycles Quiet ++ steps_of later)) over
    ∙ ap (λ (steps : List Step). Quiet ∷ steps) (gap_over cycles (steps_of later))
