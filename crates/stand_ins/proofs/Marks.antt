-- The words of reads, marked where they end their commands.
use Rattle.std.proofs.Common.{◌≡◌, ◌+◌, ◌-◌, ◌<◌, ◌≤◌, ◌==◌, ℕ, zero, suc, Bool, true, false, nat_lt, List, [], ◌∷◌, ◌++◌, length, map, filter, flat_map, drop, if◌then◌else◌, refl, sym, ap, ◌∙◌, inl, inr, arith, zero-add}
use Rattle.std.proofs.lemmas.Bool.{eq-eqb, cases_lt}
use Rattle.std.proofs.lemmas.Bool.Decides.{nat_tests}
use Rattle.std.proofs.lemmas.List.{length-append, drop-append-le}
use Rattle.std.proofs.Math.Seq.{drop-append-add}
use Rattle.histories.specs.History.{numbers, total, unreached}
use Rattle.memory_runs.specs.Views.{AgentSide, Levels}
use Rattle.stand_ins.specs.declared.waiting.Waiting.{Waiting}
use Rattle.stand_ins.specs.Answers.{commands_among, asked_word, asked_words}

-- so many words: the last ends its command
abbrev pub marks : ℕ → List Bool
marks zero = []
marks (suc zero) = true ∷ []
marks (suc (suc more)) = false ∷ marks (suc more)

abbrev pub all_marks : List ℕ → List Bool
all_marks sizes = flat_map marks sizes

abbrev pub trues : List Bool → ℕ
trues [] = 0
trues (true ∷ later) = suc (trues later)
trues (false ∷ later) = trues later

abbrev pub AreSome : List ℕ → Type 0
AreSome [] = Unit {0}
AreSome (size ∷ sizes) = (1 ≤ size) × AreSome sizes

length_marks : (size : ℕ) → length (marks size) ≡ size
length_marks zero = refl
length_marks (suc zero) = refl
length_marks (suc (suc more)) = ap suc (length_marks (suc more))

pub length_all : (sizes : List ℕ) → length (all_marks sizes) ≡ total sizes
length_all [] = refl
length_all (size ∷ sizes) = length-append (marks size) (all_marks sizes) ∙ omega (arith, length_marks size, length_all sizes)

trues_append : (front back : List Bool) → trues (front ++ back) ≡ trues front + trues back
trues_append [] back = omega arith
trues_append (true ∷ later) back = omega (arith, trues_append later back)
trues_append (false ∷ later) back = trues_append later back

one_left : (size reached : ℕ) → reached < size → trues (drop reached (marks size)) ≡ 1
one_left zero reached less = absurd (omega arith)
one_left (suc zero) zero less = refl
one_left (suc zero) (suc reached) less = absurd (omega arith)
one_left (suc (suc more)) zero less = one_left (suc more) zero (omega arith)
one_left (suc (suc more)) (suc reached) less = one_left (suc more) reached (omega arith)

-- as many commands wait as the words that are reached leave unreached
pub trues_left : (sizes : List ℕ) (reached : ℕ) → trues (drop reached (all_marks sizes)) ≡ unreached sizes reached
trues_left [] zero = refl
trues_left [] (suc reached) = refl
trues_left (size ∷ sizes) reached =
    elim (cases_lt reached size) [
      | inl less ↦
          let test : nat_lt reached size ≡ true = grind (arith, nat_tests) in
          let none : reached - size ≡ 0 = omega arith in
          ap trues (drop-append-le reached (marks size) (all_marks sizes) (omega (arith, length_marks size)))
          ∙ trues_append (drop reached (marks size)) (all_marks sizes)
          ∙ ap (λ n. n + trues (all_marks sizes)) (one_left size reached less)
          ∙ ap (λ n. 1 + n) (trues_left sizes 0 ∙ ap (unreached sizes) (sym none))
          ∙ ap (λ t. (if t then 1 else 0) + unreached sizes (reached - size)) (sym test)
      | inr more ↦
          let test : nat_lt reached size ≡ false = grind (arith, nat_tests) in
          let parts : reached ≡ length (marks size) + (reached - size) = omega (arith, length_marks size) in
          ap (λ n. trues (drop n (marks size ++ all_marks sizes))) parts
          ∙ ap trues (drop-append-add (marks size) (all_marks sizes) (reached - size))
          ∙ trues_left sizes (reached - size)
          ∙ sym (zero-add (unreached sizes (reached - size)))
          ∙ ap (λ t. (if t then 1 else 0) + unreached sizes (reached - size)) (sym test)
    ]

-- a further command of some words is unreached
pub unreached_more : (sizes : List ℕ) (size reached : ℕ) → reached ≤ total sizes → 1 ≤ size → unreached (sizes ++ size ∷ []) reached ≡ unreached sizes reached + 1
unreached_more [] size reached low some = let test : nat_lt reached size ≡ true = grind (arith, nat_tests) in rw test refl
unreached_more (first ∷ sizes) size reached low some = omega (arith, unreached_more sizes size (reached - first) (omega arith) some)

-- ---- what waits

pub trues_of : (waiting : List Waiting) → trues (map (λ (one : Waiting). one.last) waiting) ≡ commands_among waiting
trues_of [] = refl
trues_of (first ∷ later) =
    elim (first.last) as (λ last. trues (last ∷ map (λ (one : Waiting). one.last) later) ≡ length (if last then first ∷ filter (λ (one : Waiting). one.last) later else filter (λ (one : Waiting). one.last) later)) [
      | true ↦ ap suc (trues_of later)
      | false ↦ trues_of later
    ]

marks_from : (side : AgentSide) (contents codes : ℕ → ℕ) (due : ℕ) (levels : Levels) (first more : ℕ) → first + more ≡ levels.count →
    map (λ (one : Waiting). one.last) (map (asked_word side contents codes due levels) (numbers first more)) ≡ marks more
marks_from side contents codes due levels first zero is = refl
marks_from side contents codes due levels first (suc zero) is =
    let last : (first + 1 == levels.count) ≡ true = eq-eqb (first + 1) levels.count (omega arith) in ap (λ b. b ∷ []) last
marks_from side contents codes due levels first (suc (suc more)) is =
    let last : (first + 1 == levels.count) ≡ false = grind (arith, nat_tests) in
    ap (λ b. b ∷ map (λ (one : Waiting). one.last) (map (asked_word side contents codes due levels) (numbers (suc first) (suc more)))) last
    ∙ ap (λ later. false ∷ later) (marks_from side contents codes due levels (suc first) (suc more) (omega arith))

pub marks_asked : (side : AgentSide) (contents codes : ℕ → ℕ) (due : ℕ) (levels : Levels) → map (λ (one : Waiting). one.last) (asked_words side contents codes due levels) ≡ marks levels.count
marks_asked side contents codes due levels = marks_from side contents codes due levels 0 levels.count (omega arith)
