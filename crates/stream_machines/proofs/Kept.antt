-- Symbols that pass a test on channels, with and without their errors.
use Rattle.std.proofs.Common.{◌≡◌, ℕ, suc, ◌≤◌, Bool, true, false, cond, ◌||◌, List, [], ◌∷◌, ◌++◌, map, filter, length, refl, ap, sym, ◌∙◌, arith}
use Rattle.std.specs.List.{list_any}
use Rattle.std.proofs.lemmas.List.{length-map}
use Rattle.std.proofs.lemmas.List.Sums.{length-filter, count_by-le-length}
use Rattle.histories.specs.History.{IsPrefix}
use Rattle.stream_runs.specs.Symbols.{Symbol, without_error}

abbrev pub passing : (ℕ → Bool) → Symbol → Bool
passing passes symbol = passes symbol.channel

pub filter-without_error : (passes : ℕ → Bool) (xs : List Symbol) → filter (passing passes) (map without_error xs) ≡ map without_error (filter (passing passes) xs)
filter-without_error passes [] = refl
filter-without_error passes (x ∷ xs) = step (passes x.channel) (filter-without_error passes xs)
  where
    step : (b : Bool) → filter (passing passes) (map without_error xs) ≡ map without_error (filter (passing passes) xs)
        → cond b (without_error x ∷ filter (passing passes) (map without_error xs)) (filter (passing passes) (map without_error xs)) ≡ map without_error (cond b (x ∷ filter (passing passes) xs) (filter (passing passes) xs))
    step true e = ap (λ ys. without_error x ∷ ys) e
    step false e = e

pub length-filter-le : {A : Type 0} (test : A → Bool) (xs : List A) → length (filter test xs) ≤ length xs
length-filter-le test xs = rw length-filter (count_by-le-length test xs)

-- a beginning of what passes whole passes whole
pub filter_front : {A : Type 0} (test : A → Bool) (xs rest : List A) → filter test (xs ++ rest) ≡ xs ++ rest → filter test xs ≡ xs
filter_front test [] rest e = refl
filter_front {A} test (x ∷ xs) rest e = step (test x) refl e (filter_front test xs rest)
  where
    step : (b : Bool) → test x ≡ b → cond b (x ∷ filter test (xs ++ rest)) (filter test (xs ++ rest)) ≡ x ∷ (xs ++ rest)
        → (filter test (xs ++ rest) ≡ xs ++ rest → filter test xs ≡ xs) → cond (test x) (x ∷ filter test xs) (filter test xs) ≡ x ∷ xs
    step true is e tail = rw is (ap (λ ys. x ∷ ys) (tail (cc)))
    step false is e tail = absurd (omega (arith, ap length e, length-filter-le test (xs ++ rest)))

-- what keeps its length under a test passes whole
pub filter_full : {A : Type 0} (test : A → Bool) (xs : List A) → length (filter test xs) ≡ length xs → filter test xs ≡ xs
filter_full test [] e = refl
filter_full {A} test (x ∷ xs) e = step (test x) refl e (filter_full test xs)
  where
    step : (b : Bool) → test x ≡ b → length (cond b (x ∷ filter test xs) (filter test xs)) ≡ suc (length xs)
        → (length (filter test xs) ≡ length xs → filter test xs ≡ xs) → cond (test x) (x ∷ filter test xs) (filter test xs) ≡ x ∷ xs
    step true is e tail = rw is (ap (λ ys. x ∷ ys) (tail (omega arith)))
    step false is e tail = absurd (omega (arith, length-filter-le test xs))

-- what passes the first test passes the second
pub filter_twice : {A : Type 0} (one two : A → Bool) → ((x : A) → one x ≡ true → two x ≡ true) → (xs : List A) → filter two (filter one xs) ≡ filter one xs
filter_twice one two passed [] = refl
filter_twice one two passed (x ∷ xs) = step (one x) refl (filter_twice one two passed xs)
  where
    step : (b : Bool) → one x ≡ b → filter two (filter one xs) ≡ filter one xs → filter two (cond b (x ∷ filter one xs) (filter one xs)) ≡ cond b (x ∷ filter one xs) (filter one xs)
    step true is e = rw (passed x is) (ap (λ ys. x ∷ ys) e)
    step false is e = e

-- what a chain's first part passes on, its second part passes
pub kept_in_middle : (one two : ℕ → Bool) (xs ys : List Symbol) → ((channel : ℕ) → one channel ≡ true → two channel ≡ true)
    → IsPrefix (map without_error ys) (map without_error (filter (passing one) xs)) → filter (passing two) ys ≡ ys
kept_in_middle one two xs ys passed p =
    let whole : filter (passing two) (map without_error (filter (passing one) xs)) ≡ map without_error (filter (passing one) xs) =
    filter-without_error two (filter (passing one) xs) ∙ ap (map without_error) (filter_twice (passing one) (passing two) (λ x h. passed x.channel h) xs) in
    let both : filter (passing two) (map without_error ys ++ p.rest) ≡ map without_error ys ++ p.rest =
    ap (filter (passing two)) p.joins ∙ (whole ∙ sym p.joins) in
    let front : filter (passing two) (map without_error ys) ≡ map without_error ys = filter_front (passing two) (map without_error ys) p.rest both in
    let same : map without_error (filter (passing two) ys) ≡ map without_error ys = sym (filter-without_error two ys) ∙ front in
    filter_full (passing two) ys (sym (length-map (filter (passing two) ys) without_error) ∙ (ap length same ∙ length-map ys without_error))

abbrev pub is_last : Symbol → Bool
is_last symbol = symbol.last

pub list_any-without_error : (xs : List Symbol) → list_any is_last (map without_error xs) ≡ list_any is_last xs
list_any-without_error [] = refl
list_any-without_error (x ∷ xs) = ap (λ b. x.last || b) (list_any-without_error xs)
