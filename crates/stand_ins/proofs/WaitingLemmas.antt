-- The words that wait, by their commands.
use Rattle.std.proofs.Common.{◌≡◌, ◌+◌, ◌*◌, ◌<◌, ◌≤◌, ◌==◌, ℕ, zero, suc, true, false, List, [], ◌∷◌, ◌++◌, length, map, refl, sym, ap, ◌∙◌, arith, add-one, append_assoc, add-zero}
use Rattle.std.proofs.lemmas.Bool.{eq-eqb}
use Rattle.std.proofs.lemmas.Bool.Decides.{nat_tests}
use Rattle.std.proofs.lemmas.List.{length-append, length-map, map-append}
use Rattle.std.proofs.lemmas.List.Elements.{filter-append}
use Rattle.std.proofs.Math.Nat.{mul-le-mul_left, mul-add}
use Rattle.histories.specs.History.{numbers}
use Rattle.memory_runs.specs.Views.{AgentSide, Levels}
use Rattle.stand_ins.specs.declared.waiting.Waiting.{Waiting}
use Rattle.stand_ins.specs.Answers.{commands_among, asked_word, asked_words}
use Rattle.stand_ins.specs.Kept.{AreGrouped, FitRoom}

pub length_numbers : (first count : ℕ) → length (numbers first count) ≡ count
length_numbers first zero = refl
length_numbers first (suc count) = ap suc (length_numbers (suc first) count)

numbers_after : (first count : ℕ) → numbers first (suc count) ≡ numbers first count ++ (first + count) ∷ []
numbers_after first zero = ap (λ n. n ∷ []) (sym (add-zero first))
numbers_after first (suc count) = ap (λ later. first ∷ later) (numbers_after (suc first) count ∙ ap (λ n. numbers (suc first) count ++ n ∷ []) (omega arith))

pub numbers_more : (count : ℕ) → numbers 0 (count + 1) ≡ numbers 0 count ++ count ∷ []
numbers_more count = ap (numbers 0) (add-one count) ∙ numbers_after 0 count ∙ ap (λ n. numbers 0 count ++ n ∷ []) (omega arith)

-- ---- commands

commands_append : (waiting more : List Waiting) → commands_among (waiting ++ more) ≡ commands_among waiting + commands_among more
commands_append waiting more = ap length (filter-append (λ (one : Waiting). one.last) waiting more) ∙ length-append _ _

-- of the words of a read from one on, the last alone ends a command
one_ends : (side : AgentSide) (contents codes : ℕ → ℕ) (due : ℕ) (levels : Levels) (first more : ℕ) → first + suc more ≡ levels.count →
    commands_among (map (asked_word side contents codes due levels) (numbers first (suc more))) ≡ 1
one_ends side contents codes due levels first zero is =
    let last : (first + 1 == levels.count) ≡ true = eq-eqb (first + 1) levels.count (omega arith) in rw last refl
one_ends side contents codes due levels first (suc more) is =
    let last : (first + 1 == levels.count) ≡ false = grind (arith, nat_tests) in rw last (one_ends side contents codes due levels (suc first) more (omega arith))

pub one_command : (side : AgentSide) (contents codes : ℕ → ℕ) (due : ℕ) (levels : Levels) → 1 ≤ levels.count → commands_among (asked_words side contents codes due levels) ≡ 1
one_command side contents codes due levels some =
    elim (levels.count) as (λ count. count ≡ levels.count → 1 ≤ count → commands_among (map (asked_word side contents codes due levels) (numbers 0 count)) ≡ 1) [
      | zero ↦ λ is some. absurd (omega arith)
      | suc more ↦ λ is some. one_ends side contents codes due levels 0 more (omega arith)
    ] refl some

-- ---- groups

pub grouped_length : (longest : ℕ) (waiting : List Waiting) → AreGrouped longest waiting → length waiting ≤ longest * commands_among waiting
grouped_length longest [] grouped = omega arith
grouped_length longest (first ∷ later) grouped = grouped.0

grouped_append : (longest : ℕ) (waiting more : List Waiting) → AreGrouped longest waiting → AreGrouped longest more → AreGrouped longest (waiting ++ more)
grouped_append longest [] more grouped behind = behind
grouped_append longest (first ∷ later) more grouped behind =
    let parts : longest * commands_among (first ∷ later ++ more) ≡ longest * commands_among (first ∷ later) + longest * commands_among more =
    ap (λ n. longest * n) (commands_append (first ∷ later) more) ∙ mul-add longest (commands_among (first ∷ later)) (commands_among more) in
    (omega (arith, parts, length-append (first ∷ later) more, grouped.0, grouped_length longest more behind), grouped_append longest later more grouped.1 behind)

grouped_from : (side : AgentSide) (contents codes : ℕ → ℕ) (due : ℕ) (levels : Levels) (longest first more : ℕ) → first + more ≡ levels.count → levels.count ≤ longest →
    AreGrouped longest (map (asked_word side contents codes due levels) (numbers first more))
grouped_from side contents codes due levels longest first zero is short = tt
grouped_from side contents codes due levels longest first (suc more) is short =
    let one = one_ends side contents codes due levels first more is in
    let whole : longest * commands_among (map (asked_word side contents codes due levels) (numbers first (suc more))) ≡ longest = ap (λ n. longest * n) one ∙ omega arith in
    let long : length (map (asked_word side contents codes due levels) (numbers first (suc more))) ≡ suc more = length-map (numbers first (suc more)) (asked_word side contents codes due levels) ∙ length_numbers first (suc more) in
    (omega (arith, whole, long), grouped_from side contents codes due levels longest (suc first) more (omega arith) short)

-- ---- room

pub room_for : (waiting : List Waiting) (commands longest pending room count : ℕ) → FitRoom waiting commands longest pending room → commands < pending → count ≤ longest → length waiting + count ≤ room
room_for waiting commands longest pending room count fits few short =
    let most : longest * (commands + 1) ≤ longest * pending = mul-le-mul_left longest (omega arith) in
    let parts : longest * (commands + 1) ≡ longest * commands + longest = omega arith in
    let counted : longest * commands ≡ longest * commands_among waiting = ap (λ n. longest * n) fits.counted in
    omega (arith, most, parts, counted, fits.roomy, grouped_length longest waiting fits.grouped)

pub fits_more : (side : AgentSide) (contents codes : ℕ → ℕ) (due : ℕ) (levels : Levels) (waiting : List Waiting) (commands longest pending room : ℕ) → FitRoom waiting commands longest pending room →
    commands < pending → levels.count ≤ longest → 1 ≤ levels.count → FitRoom (waiting ++ asked_words side contents codes due levels) (commands + 1) longest pending room
fits_more side contents codes due levels waiting commands longest pending room fits few short some =
    record {
      counted = omega (arith, fits.counted, commands_append waiting (asked_words side contents codes due levels), one_command side contents codes due levels some);
      few = omega arith;
      grouped = grouped_append longest waiting (asked_words side contents codes due levels) fits.grouped (grouped_from side contents codes due levels longest 0 levels.count (omega arith) short);
      roomy = fits.roomy;
    }

-- ---- words that are let wait one by one

pub pushed_more : {X : Type 0} (f : ℕ → X) (old items : List X) (item : X) (count : ℕ) → items ≡ old ++ map f (numbers 0 count) → item ≡ f count →
    items ++ item ∷ [] ≡ old ++ map f (numbers 0 (count + 1))
pushed_more f old items item count pushed is =
    ap (λ front. front ++ item ∷ []) pushed
    ∙ append_assoc old (map f (numbers 0 count)) (item ∷ [])
    ∙ ap (λ last. old ++ (map f (numbers 0 count) ++ last ∷ [])) is
    ∙ ap (λ back. old ++ back) (sym (map-append f (numbers 0 count) (count ∷ [])))
    ∙ ap (λ all. old ++ map f all) (sym (numbers_more count))
