-- What is shown in the steps of a statement, and what is left behind them.
use Rattle.std.proofs.Common.{◌≡◌, ◌+◌, ◌<◌, ℕ, zero, suc, Bool, true, false, ◌&&◌, if◌then◌else◌, List, [], ◌∷◌, ◌++◌, length, map, replicate, drop, slice_index, All, refl, sym, ap, ◌∙◌, subst, arith, add-one}
use Rattle.std.proofs.Math.Seq.{drop-append_seam}
use Rattle.std.proofs.lemmas.List.{length-map, length-replicate}
use Rattle.iface_roles.specs.declared.records.HostPort.{HostPort}
use Rattle.memory_runs.specs.Views.{Levels}
use Rattle.scenario_tables.specs.declared.statements.HostStatement.{HostStatement}
use Rattle.scenario_tables.specs.declared.statements.HostStatement.TheVariants.{Idle, Write, Read}
use Rattle.scenario_tables.specs.Statements.{FitsHost}
use Rattle.stand_ins.specs.Steps.{Step, steps_of, all_steps, shown, resting, left_after}
use Rattle.stand_ins.specs.Steps.Step.{Rests, Presents}
use Rattle.stand_ins.specs.HostsKept.{IsWithinFirst, has_beats, presents_first}

-- ---- what is shown

pub shown_rest : (port : HostPort) (cycles number : ℕ) → shown port (drop number (replicate cycles Rests)) ≡ resting port
shown_rest port zero zero = refl
shown_rest port zero (suc number) = refl
shown_rest port (suc cycles) zero = refl
shown_rest port (suc cycles) (suc number) = shown_rest port cycles number

pub shown_beat : (port : HostPort) (beat : ℕ → Levels) (words : List ℕ) (number : ℕ) → number < length words →
    shown port (drop number (map (λ word. Presents (beat word)) words)) ≡ beat (slice_index words number)
shown_beat port beat [] number within = absurd (omega arith)
shown_beat port beat (word ∷ words) zero within = refl
shown_beat port beat (word ∷ words) (suc number) within = shown_beat port beat words number (omega arith)

pub shown_front : (port : HostPort) (steps later : List Step) (number : ℕ) → number < length steps → shown port (drop number (steps ++ later)) ≡ shown port (drop number steps)
shown_front port [] later number within = absurd (omega arith)
shown_front port (Rests ∷ steps) later zero within = refl
shown_front port (Presents levels ∷ steps) later zero within = refl
shown_front port (step ∷ steps) later (suc number) within = shown_front port steps later number (omega arith)

-- ---- what is left

pub left_by_first : (left : List Step) (waits : Bool) → left_after left waits ≡ (if waits && presents_first left then left else drop 1 left)
left_by_first [] true = refl
left_by_first [] false = refl
left_by_first (Rests ∷ later) true = refl
left_by_first (Rests ∷ later) false = refl
left_by_first (Presents levels ∷ later) true = refl
left_by_first (Presents levels ∷ later) false = refl

first_rest : (cycles number : ℕ) (later : List Step) → number < length (replicate cycles Rests) → presents_first (drop number (replicate cycles Rests ++ later)) ≡ false
first_rest zero number later within = absurd (omega arith)
first_rest (suc cycles) zero later within = refl
first_rest (suc cycles) (suc number) later within = first_rest cycles number later (omega arith)

first_beat : (beat : ℕ → Levels) (words : List ℕ) (number : ℕ) (later : List Step) → number < length (map (λ word. Presents (beat word)) words) →
    presents_first (drop number (map (λ word. Presents (beat word)) words ++ later)) ≡ true
first_beat beat [] number later within = absurd (omega arith)
first_beat beat (word ∷ words) zero later within = refl
first_beat beat (word ∷ words) (suc number) later within = first_beat beat words number later (omega arith)

pub first_of_statement : (port : HostPort) (statement : HostStatement) (number : ℕ) (later : List Step) → number < length (steps_of port statement) →
    presents_first (drop number (steps_of port statement ++ later)) ≡ has_beats statement
first_of_statement port (Idle cycles) number later within = first_rest cycles number later within
first_of_statement port (Write address enables words) number later within = first_beat _ words number later within
first_of_statement port (Read address enables count) zero later within = refl
first_of_statement port (Read address enables count) (suc number) later within = absurd (omega arith)

some_steps : (port : HostPort) (statement : HostStatement) → FitsHost port statement → 0 < length (steps_of port statement)
some_steps port (Idle cycles) fits = simp (length-replicate) fits.0
some_steps port (Write address enables words) fits = simp (length-map) fits.command.some
some_steps port (Read address enables count) fits = omega arith

-- a script stands at its first step
pub begins_within : (port : HostPort) (script : List HostStatement) → All (FitsHost port) script → IsWithinFirst port script 0
begins_within port [] fits = refl
begins_within port (first ∷ later) fits = some_steps port first (fits 0 first (omega arith))

drop_after : {A : Type 0} (number : ℕ) (items : List A) → drop (suc number) items ≡ drop 1 (drop number items)
drop_after zero [] = refl
drop_after (suc number) [] = refl
drop_after zero (item ∷ items) = refl
drop_after (suc number) (item ∷ items) = drop_after number items

pub drop_more : {A : Type 0} (number : ℕ) (items : List A) → drop (number + 1) items ≡ drop 1 (drop number items)
drop_more number items = rw add-one (drop_after number items)

-- behind the last step of the first statement the others are left
pub behind_last : (port : HostPort) (first : HostStatement) (later : List HostStatement) (number : ℕ) → number + 1 ≡ length (steps_of port first) →
    all_steps port later ≡ drop 1 (drop number (all_steps port (first ∷ later)))
behind_last port first later number last =
    sym (drop-append_seam (steps_of port first) (all_steps port later)) ∙ ap (λ n. drop n (all_steps port (first ∷ later))) (sym last) ∙ drop_more number (all_steps port (first ∷ later))

-- the first of the steps that are left is one of the first statement
pub shown_by_first : (port : HostPort) (script : List HostStatement) (number : ℕ) (first : HostStatement) (later : List HostStatement) → script ≡ first ∷ later →
    IsWithinFirst port script number → shown port (drop number (steps_of port first)) ≡ shown port (drop number (all_steps port script))
shown_by_first port script number first later whole within =
    let inside : number < length (steps_of port first) = subst (λ script. IsWithinFirst port script number) whole within in
    sym (shown_front port (steps_of port first) (all_steps port later) number inside) ∙ ap (λ script. shown port (drop number (all_steps port script))) (sym whole)

pub presented_by_first : (port : HostPort) (script : List HostStatement) (number : ℕ) (first : HostStatement) (later : List HostStatement) → script ≡ first ∷ later →
    IsWithinFirst port script number → has_beats first ≡ presents_first (drop number (all_steps port script))
presented_by_first port script number first later whole within =
    let inside : number < length (steps_of port first) = subst (λ script. IsWithinFirst port script number) whole within in
    sym (first_of_statement port first number (all_steps port later) inside) ∙ ap (λ script. presents_first (drop number (all_steps port script))) (sym whole)
