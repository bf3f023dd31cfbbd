-- Words that are given out in narrow words, as lists.
use Rattle.std.proofs.Common.{ℕ, zero, suc, ◌<◌, ◌≤◌, ◌≡◌, ◌+◌, ◌*◌, ◌%◌, Bool, true, false, List, [], ◌∷◌, ◌++◌, arith, refl, sym, ap, ◌∙◌, length, map, drop, append-nil, append_assoc, length-append, zero-mul, one-mul, add-mul, mul-le-mul_right, nat_lt, ltb-true, ltb-false}
use Rattle.std.proofs.lemmas.Bool.{le-ltb}
use Rattle.std.proofs.Math.Nat.{mod-eq_of_lt}
use Rattle.histories.specs.History.{total}
use Rattle.memory_runs.specs.Legal.{Word}
use Rattle.memory_links.proofs.Lanes.{cut}
use Rattle.memory_links.specs.Gathers.{Entry, first_entry}
use Rattle.memory_links.proofs.Gathered.{pieces_of}

abbrev pub count_of : Entry → ℕ
count_of e = e.count

abbrev pub AllSome : List Entry → Type 0
AllSome [] = Unit {0}
AllSome (e ∷ es) = (0 < e.count) × AllSome es

-- each read lies in a word of so many bytes
abbrev pub AllLie : ℕ → ℕ → List Entry → Type 0
AllLie b W [] = Unit {0}
AllLie b W (e ∷ es) = (e.offset + e.count * b ≤ W) × AllLie b W es

pub lie_drop : (b W n : ℕ) (es : List Entry) → AllLie b W es → AllLie b W (drop n es)
lie_drop b W zero es a = a
lie_drop b W (suc n) [] a = tt
lie_drop b W (suc n) (e ∷ es) a = lie_drop b W n es a.1

-- so each of its words stands there
pub place_inside : (b W g : ℕ) (es : List Entry) → 0 < b → AllLie b W es → 0 < length es → g < (first_entry es).count → ((first_entry es).offset + g * b) % W ≡ (first_entry es).offset + g * b
place_inside b W g [] some a more less = absurd (omega (arith, more))
place_inside b W g (e ∷ es) some a more less =
    let lies = a.0 in
    let next : suc g * b ≤ e.count * b = mul-le-mul_right b less in
    let s : suc g ≡ g + 1 = omega arith in
    let size : suc g * b ≡ g * b + b = ap (λ k. k * b) s ∙ add-mul g 1 b ∙ ap (λ k. g * b + k) (one-mul b) in
    mod-eq_of_lt (omega (arith, lies, next, size, some))

pub some_append : (es more : List Entry) → AllSome es → AllSome more → AllSome (es ++ more)
some_append [] more a b = b
some_append (e ∷ es) more a b = (a.0, some_append es more a.1 b)

pub some_drop : (n : ℕ) (es : List Entry) → AllSome es → AllSome (drop n es)
some_drop zero es a = a
some_drop (suc n) [] a = tt
some_drop (suc n) (e ∷ es) a = some_drop n es a.1

abbrev pub cut_entry : ℕ → Entry → Word → List Word
cut_entry b e w = pieces_of b e.offset e.count w

-- the narrow words of all words that have come
abbrev pub expand : ℕ → List Entry → List Word → List Word
expand b [] ws = []
expand b (e ∷ es) [] = []
expand b (e ∷ es) (w ∷ ws) = cut_entry b e w ++ expand b es ws

pub pieces_length : (b o n : ℕ) (w : Word) → length (pieces_of b o n w) ≡ n
pieces_length b o zero w = refl
pieces_length b o (suc n) w = ap suc (pieces_length b (o + b) n w)

pub expand_none : (b : ℕ) (es : List Entry) → expand b es [] ≡ []
expand_none b [] = refl
expand_none b (e ∷ es) = refl

pub expand_front : (b : ℕ) (es more : List Entry) (ws : List Word) → length ws ≤ length es → expand b (es ++ more) ws ≡ expand b es ws
expand_front b [] more [] h = expand_none b more
expand_front b [] more (w ∷ ws) h = absurd (omega (arith, h))
expand_front b (e ∷ es) more [] h = refl
expand_front b (e ∷ es) more (w ∷ ws) h = ap (λ l. cut_entry b e w ++ l) (expand_front b es more ws (omega (arith, h)))

pub expand_push : (b : ℕ) (es : List Entry) (ws : List Word) (w : Word) → length ws < length es → expand b es (ws ++ w ∷ []) ≡ expand b es ws ++ cut_entry b (first_entry (drop (length ws) es)) w
expand_push b [] ws w h = absurd (omega (arith, h))
expand_push b (e ∷ es) [] w h = ap (λ l. cut_entry b e w ++ l) (expand_none b es) ∙ append-nil (cut_entry b e w)
expand_push b (e ∷ es) (v ∷ ws) w h = ap (λ l. cut_entry b e v ++ l) (expand_push b es ws w (omega (arith, h))) ∙ sym (append_assoc (cut_entry b e v) (expand b es ws) (cut_entry b (first_entry (drop (length ws) es)) w))

-- one of the pieces, and those behind it
pub piece_at : (b o n g : ℕ) (w : Word) (rest : List Word) → g < n → drop g (pieces_of b o n w ++ rest) ≡ cut b (o + g * b) w ∷ drop (suc g) (pieces_of b o n w ++ rest)
piece_at b o zero g w rest h = absurd (omega (arith, h))
piece_at b o (suc n) zero w rest h = (let none = zero-mul b in let same : o ≡ o + 0 * b = omega (arith, none) in ap (λ p. cut b p w ∷ (pieces_of b (o + b) n w ++ rest)) same)
piece_at b o (suc n) (suc g) w rest h =
    let s : suc g ≡ g + 1 = omega arith in
    let size : suc g * b ≡ g * b + b = ap (λ k. k * b) s ∙ add-mul g 1 b ∙ ap (λ k. g * b + k) (one-mul b) in
    let same : (o + b) + g * b ≡ o + suc g * b = omega (arith, size) in
    piece_at b (o + b) n g w rest (omega (arith, h)) ∙ ap (λ p. cut b p w ∷ drop (suc g) (pieces_of b (o + b) n w ++ rest)) same

pub drop_all : {A : Type 0} (xs ys : List A) → drop (length xs) (xs ++ ys) ≡ ys
drop_all [] ys = refl
drop_all (x ∷ xs) ys = drop_all xs ys

-- how many there are
pub expand_length : (b : ℕ) (es : List Entry) (ws : List Word) → length (expand b es ws) ≤ total (map count_of es)
expand_length b [] ws = omega arith
expand_length b (e ∷ es) [] = omega arith
expand_length b (e ∷ es) (w ∷ ws) =
    let one = pieces_length b e.offset e.count w in
    let rest = expand_length b es ws in
    let both = length-append (cut_entry b e w) (expand b es ws) in
    omega (arith, one, rest, both)

-- all of them only where all words have come
pub expand_whole : (b : ℕ) (es : List Entry) (ws : List Word) → AllSome es → total (map count_of es) ≤ length (expand b es ws) → length es ≤ length ws
expand_whole b [] ws a h = omega arith
expand_whole b (e ∷ es) [] a h = (let some = a.0 in absurd (omega (arith, some, h)))
expand_whole b (e ∷ es) (w ∷ ws) a h =
    let one = pieces_length b e.offset e.count w in
    let both = length-append (cut_entry b e w) (expand b es ws) in
    let rest = expand_whole b es ws a.1 (omega (arith, one, both, h)) in
    omega (arith, rest)

pub expand_all : (b : ℕ) (es : List Entry) (ws : List Word) → length es ≤ length ws → length (expand b es ws) ≡ total (map count_of es)
expand_all b [] ws h = refl
expand_all b (e ∷ es) [] h = absurd (omega (arith, h))
expand_all b (e ∷ es) (w ∷ ws) h =
    let one = pieces_length b e.offset e.count w in
    let both = length-append (cut_entry b e w) (expand b es ws) in
    let rest = expand_all b es ws (omega (arith, h)) in
    omega (arith, one, both, rest)

-- some are lacking exactly where a word is
pub same_test : (b : ℕ) (es : List Entry) (ws : List Word) → AllSome es → nat_lt (length (expand b es ws)) (total (map count_of es)) ≡ nat_lt (length ws) (length es)
same_test b es ws some = by_test (nat_lt (length ws) (length es)) refl
  where
    by_test : (t : Bool) → nat_lt (length ws) (length es) ≡ t → nat_lt (length (expand b es ws)) (total (map count_of es)) ≡ nat_lt (length ws) (length es)
    by_test false e = (let most = ltb-false (length ws) (length es) e in let all = expand_all b es ws most in le-ltb (length (expand b es ws)) (total (map count_of es)) (omega (arith, all))) ∙ sym e
    by_test true e = by_whole (nat_lt (length (expand b es ws)) (total (map count_of es))) refl
      where
        by_whole : (t : Bool) → nat_lt (length (expand b es ws)) (total (map count_of es)) ≡ t → nat_lt (length (expand b es ws)) (total (map count_of es)) ≡ nat_lt (length ws) (length es)
        by_whole true f = f ∙ sym e
        by_whole false f =
            let most = ltb-false (length (expand b es ws)) (total (map count_of es)) f in
            let all = expand_whole b es ws some most in
            let less = ltb-true (length ws) (length es) e in
            absurd (omega (arith, all, less))

abbrev pub nil : (A : Type 0) → List A
nil A = []

pub drop_nil : (A : Type 0) (n : ℕ) → drop n (nil A) ≡ nil A
drop_nil A zero = refl
drop_nil A (suc n) = refl
