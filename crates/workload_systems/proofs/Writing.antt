-- Texts that are written piece by piece.
use Rattle.std.proofs.Common.{◌≡◌, ℕ, zero, suc, ◌+◌, List, [], ◌∷◌, ◌++◌, map, refl, sym, ap, ◌∙◌, append_assoc, false, rules, arith}
use Rattle.std.specs.Prelude.{◌==◌, codes}
use Rattle.std.proofs.lemmas.Bool.Decides.{nat_tests}
use Rattle.std.specs.List.{flat_map, range_with_len}
use Rattle.std.proofs.lemmas.List.{append-nil}
use Rattle.std.proofs.lemmas.List.FromFn.{map-range_with_len_more}
use Rattle.workload_systems.specs.Texts.{line_text, text_of}
use Rattle.workload_systems.specs.Components.{port, one_of, enables, empties}
use Rattle.workload_systems.specs.Systems.{below}

-- one piece behind another
pub joined : {X : Type 0} (old first rest middle new : List X) → middle ≡ old ++ first → new ≡ middle ++ rest → new ≡ old ++ (first ++ rest)
joined old first rest middle new e f = f ∙ ap (λ l. l ++ rest) e ∙ append_assoc old first rest

-- a word before the rest of its line
pub word_then : (old word rest middle new : List ℕ) → middle ≡ old ++ (word ++ 32 ∷ []) → new ≡ middle ++ rest → new ≡ old ++ (word ++ 32 ∷ rest)
word_then old word rest middle new e f = joined old (word ++ 32 ∷ []) rest middle new e f ∙ ap (λ l. old ++ l) (append_assoc word (32 ∷ []) rest)

-- a line before others
pub line_then : (old : List ℕ) (line : List (List ℕ)) (lines : List (List (List ℕ))) (middle new : List ℕ) → middle ≡ old ++ line_text line → new ≡ middle ++ text_of lines → new ≡ old ++ text_of (line ∷ lines)
unfolding text_of
line_then old line lines middle new e f = joined old (line_text line) (text_of lines) middle new e f

pub one_line : (old : List ℕ) (line : List (List ℕ)) (new : List ℕ) → new ≡ old ++ line_text line → new ≡ old ++ text_of (line ∷ [])
unfolding text_of
one_line old line new e = e ∙ ap (λ l. old ++ l) (sym (append-nil (line_text line)))

pub no_line : (old : List ℕ) → old ≡ old ++ text_of []
unfolding text_of
no_line old = sym (append-nil old)

pub text_append : (lines others : List (List (List ℕ))) → text_of (lines ++ others) ≡ text_of lines ++ text_of others
unfolding text_of
text_append [] others = refl
text_append (line ∷ lines) others = ap (λ l. line_text line ++ l) (text_append lines others) ∙ sym (append_assoc (line_text line) (text_of lines) (text_of others))

pub lines_then : (old : List ℕ) (lines others : List (List (List ℕ))) (middle new : List ℕ) → middle ≡ old ++ text_of lines → new ≡ middle ++ text_of others → new ≡ old ++ text_of (lines ++ others)
lines_then old lines others middle new e f = joined old (text_of lines) (text_of others) middle new e f ∙ ap (λ l. old ++ l) (sym (text_append lines others))

-- ---- a line, or some, for each number below a count

pub none_yet : (old : List ℕ) (f : ℕ → List (List ℕ)) → old ≡ old ++ text_of (map f (below 0))
none_yet old f = no_line old

pub one_more : (old : List ℕ) (f : ℕ → List (List ℕ)) (k : ℕ) (middle new : List ℕ) → middle ≡ old ++ text_of (map f (below k)) → new ≡ middle ++ line_text (f k) → new ≡ old ++ text_of (map f (below (k + 1)))
one_more old f k middle new e g =
    let added = lines_then old (map f (below k)) (f k ∷ []) middle new e (one_line middle (f k) new g) in
    added ∙ ap (λ l. old ++ text_of l) (sym (map-range_with_len_more f 0 k k (let here : 0 + k ≡ k = omega arith in here)))

flat_more : (f : ℕ → List (List (List ℕ))) (a n : ℕ) → flat_map f (range_with_len a (n + 1)) ≡ flat_map f (range_with_len a n) ++ f (a + n)
flat_more f a zero = let here : a + 0 ≡ a = omega arith in append-nil (f a) ∙ ap f (sym here)
flat_more f a (suc n) =
    let next : suc n + 1 ≡ suc (n + 1) = omega arith in
    let there : a + 1 + n ≡ a + suc n = omega arith in
    ap (λ m. flat_map f (range_with_len a m)) next ∙ ap (λ l. f a ++ l) (flat_more f (a + 1) n ∙ ap (λ m. flat_map f (range_with_len (a + 1) n) ++ f m) there)
    ∙ sym (append_assoc (f a) (flat_map f (range_with_len (a + 1) n)) (f (a + suc n)))

pub some_more : (old : List ℕ) (f : ℕ → List (List (List ℕ))) (k : ℕ) (middle new : List ℕ) → middle ≡ old ++ text_of (flat_map f (below k)) → new ≡ middle ++ text_of (f k) → new ≡ old ++ text_of (flat_map f (below (k + 1)))
some_more old f k middle new e g =
    let here : 0 + k ≡ k = omega arith in
    lines_then old (flat_map f (below k)) (f k) middle new e g ∙ ap (λ l. old ++ text_of l) (sym (flat_more f 0 k ∙ ap (λ m. flat_map f (below k) ++ f m) here))

-- ---- ports that are there or not

pub enables_none : (interface direction : List ℕ) (exponent : ℕ) → exponent ≡ 0 → enables interface direction exponent ≡ []
unfolding enables
enables_none interface direction exponent e = rw e refl

pub enables_some : (interface direction : List ℕ) (exponent : ℕ) → (exponent ≡ 0 → ⊥) → enables interface direction exponent ≡ port interface (codes "byteenable") direction (one_of (codes "1") (codes "2") (codes "4") (codes "8") exponent) ∷ []
unfolding enables
enables_some interface direction exponent e = let other : (exponent == 0) ≡ false = search (rules, nat_tests) in rw other refl

pub empties_none : (interface direction : List ℕ) (symbols : ℕ) → symbols ≡ 1 → empties interface direction symbols ≡ []
unfolding empties
empties_none interface direction symbols e = rw e refl

pub empties_two : (interface direction : List ℕ) (symbols : ℕ) → symbols ≡ 2 → empties interface direction symbols ≡ port interface (codes "empty") direction (codes "1") ∷ []
unfolding empties
empties_two interface direction symbols e = rw e refl

pub empties_more : (interface direction : List ℕ) (symbols : ℕ) → (symbols ≡ 1 → ⊥) → (symbols ≡ 2 → ⊥) → empties interface direction symbols ≡ port interface (codes "empty") direction (codes "2") ∷ []
unfolding empties
empties_more interface direction symbols e f =
    let one : (symbols == 1) ≡ false = search (rules, nat_tests) in
    let two : (symbols == 2) ≡ false = search (rules, nat_tests) in
    rw (one, two) refl

pub written_none : (old : List ℕ) (lines : List (List (List ℕ))) → lines ≡ [] → old ≡ old ++ text_of lines
written_none old lines e = no_line old ∙ ap (λ l. old ++ text_of l) (sym e)

pub written_one : (old : List ℕ) (lines : List (List (List ℕ))) (line : List (List ℕ)) (new : List ℕ) → lines ≡ line ∷ [] → new ≡ old ++ line_text line → new ≡ old ++ text_of lines
written_one old lines line new e f = one_line old line new f ∙ ap (λ l. old ++ text_of l) (sym e)

-- behind nothing
pub from_empty : {X : Type 0} (old rest new : List X) → old ≡ [] → new ≡ old ++ rest → new ≡ rest
from_empty old rest new none e = e ∙ ap (λ l. l ++ rest) none

-- four items, pushed one by one
pub pushed : {X : Type 0} (old : List X) (x y : X) (new : List X) → new ≡ old ++ x ∷ [] → x ≡ y → new ≡ old ++ y ∷ []
pushed old x y new e same = e ∙ ap (λ z. old ++ z ∷ []) same

pub four_pushed : {X : Type 0} (old : List X) (a b c d : X) (first second third new : List X) → first ≡ old ++ a ∷ [] → second ≡ first ++ b ∷ [] → third ≡ second ++ c ∷ [] → new ≡ third ++ d ∷ [] → new ≡ old ++ a ∷ b ∷ c ∷ d ∷ []
four_pushed old a b c d first second third new e f g h =
    joined old (a ∷ []) (b ∷ c ∷ d ∷ []) first new e (joined first (b ∷ []) (c ∷ d ∷ []) second new f (joined second (c ∷ []) (d ∷ []) third new g h))

pub joins_line : (old start end first second new : List ℕ) → first ≡ old ++ (codes "add_connection" ++ 32 ∷ []) → second ≡ first ++ (start ++ 32 ∷ []) → new ≡ second ++ (end ++ 10 ∷ [])
    → new ≡ old ++ line_text (codes "add_connection" ∷ start ∷ end ∷ [])
unfolding line_text
joins_line old start end first second new e f g = word_then old (codes "add_connection") (start ++ 32 ∷ (end ++ 10 ∷ [])) first new e (word_then first start (end ++ 10 ∷ []) second new f g)

pub creates_line : (old first new : List ℕ) → first ≡ old ++ (codes "create_system" ++ 32 ∷ []) → new ≡ first ++ (codes "w" ++ 10 ∷ []) → new ≡ old ++ line_text (codes "create_system" ∷ codes "w" ∷ [])
unfolding line_text
creates_line old first new e f = word_then old (codes "create_system") (codes "w" ++ 10 ∷ []) first new e f
