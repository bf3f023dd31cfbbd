-- A count of unanswered reads as a queue of reads of one word.
use Rattle.std.proofs.Common.{◌≡◌, ℕ, zero, suc, ◌+◌, ◌-◌, Bool, true, false, List, [], ◌∷◌, ◌++◌, length, refl, sym, ap, ◌∙◌, append-nil, arith}
use Rattle.histories.specs.History.{one_if, only_if}
use Rattle.memory_parts.specs.Queue.{Entry, answered}

abbrev pub one_word : Entry
one_word = record { tag = 0; left = 1 }

abbrev pub words_of : ℕ → List Entry
words_of zero = []
words_of (suc n) = one_word ∷ words_of n

pub words_count : (n : ℕ) → length (words_of n) ≡ n
words_count zero = refl
words_count (suc n) = ap suc (words_count n)

pub words_answered : (came : Bool) (n : ℕ) → answered came (words_of n) ≡ words_of (n - one_if came)
words_answered true zero = refl
words_answered false zero = refl
words_answered true (suc n) = ap words_of (let less : n ≡ suc n - 1 = omega arith in less)
words_answered false (suc n) = ap words_of (let same : suc n ≡ suc n - 0 = omega arith in same)

one_more : (n : ℕ) → words_of n ++ one_word ∷ [] ≡ words_of (suc n)
one_more zero = refl
one_more (suc n) = ap (λ (xs : List Entry). one_word ∷ xs) (one_more n)

pub words_taken : (taken : Bool) (n : ℕ) → words_of n ++ only_if taken one_word ≡ words_of (n + one_if taken)
words_taken true n = one_more n ∙ ap words_of (let more : suc n ≡ n + 1 = omega arith in more)
words_taken false n = append-nil (words_of n) ∙ ap words_of (let none : n ≡ n + 0 = omega arith in none)

pub words_next : (u next : ℕ) (came taken takes : Bool) (entry : Entry) → takes ≡ taken → entry ≡ one_word → next ≡ (u - one_if came) + one_if taken → words_of next ≡ answered came (words_of u) ++ only_if takes entry
words_next u next came taken takes entry e f is =
    ap words_of is ∙ sym (words_taken taken (u - one_if came)) ∙ ap (λ (xs : List Entry). xs ++ only_if taken one_word) (sym (words_answered came u))
    ∙ ap (λ t. answered came (words_of u) ++ only_if t one_word) (sym e) ∙ ap (λ (x : Entry). answered came (words_of u) ++ only_if takes x) (sym f)
