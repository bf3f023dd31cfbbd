-- Readers step by step: what each finds is what its part of a dump's reading is.
use Rattle.std.proofs.Common.{◌≡◌, ℕ, suc, ◌-◌, ◌<◌, ◌≤◌, ◌==◌, Bool, true, false, cond, List, [], ◌∷◌, length, take, drop, Option, Some, None, refl, sym, ap, ◌∙◌, arith}
use Rattle.std.specs.List.{prefix_len}
use Rattle.std.proofs.lemmas.List.{take_all, length-drop}
use Rattle.vcd_reader.specs.declared.rule.Rule.{Rule}
use Rattle.vcd_reader.specs.declared.rule.Rule.TheVariants.{OtherByte}
use Rattle.vcd_reader.specs.Found.{Found, followed, fixed, told_or, hole}
use Rattle.vcd_reader.specs.Reads.{same_len}

-- ---- fixed parts

same_by : (bs text : List ℕ) (t : Bool) → same_len bs text ≤ length bs → cond t (suc (same_len bs text)) 0 ≤ suc (length bs)
same_by bs text true h = omega arith
same_by bs text false h = omega arith

same_within : (part text : List ℕ) → same_len part text ≤ length part
same_within [] text = omega arith
same_within (b ∷ bs) [] = omega arith
same_within (b ∷ bs) (c ∷ text) = same_by bs text (c == b) (same_within bs text)

fixed_same : (b c : ℕ) (bs text : List ℕ) (t : Bool) → cond t (suc (same_len bs text)) 0 ≡ suc (length bs) → (same_len bs text ≡ length bs → fixed bs text ≡ Found.told tt (drop (same_len bs text) text))
    → cond t (fixed bs text) (Found.broken (c ∷ text) OtherByte) ≡ Found.told tt (drop (cond t (suc (same_len bs text)) 0) (c ∷ text))
fixed_same b c bs text true e more = more (omega arith)
fixed_same b c bs text false e more = absurd (omega arith)

pub fixed_whole : (part text : List ℕ) → same_len part text ≡ length part → fixed part text ≡ Found.told tt (drop (same_len part text) text)
fixed_whole [] text e = refl
fixed_whole (b ∷ bs) [] e = absurd (omega arith)
fixed_whole (b ∷ bs) (c ∷ text) e = fixed_same b c bs text (c == b) e (fixed_whole bs text)

fixed_other : (b c : ℕ) (bs text : List ℕ) (t : Bool) → cond t (suc (same_len bs text)) 0 < suc (length bs) → (same_len bs text < length bs → fixed bs text ≡ Found.broken (drop (same_len bs text) text) OtherByte)
    → cond t (fixed bs text) (Found.broken (c ∷ text) OtherByte) ≡ Found.broken (drop (cond t (suc (same_len bs text)) 0) (c ∷ text)) OtherByte
fixed_other b c bs text true e more = more (omega arith)
fixed_other b c bs text false e more = refl

pub fixed_differs : (part text : List ℕ) → same_len part text < length part → fixed part text ≡ Found.broken (drop (same_len part text) text) OtherByte
fixed_differs [] text e = absurd (omega arith)
fixed_differs (b ∷ bs) [] e = refl
fixed_differs (b ∷ bs) (c ∷ text) e = fixed_other b c bs text (c == b) e (fixed_differs bs text)

pub tail_is : (xs : List ℕ) (n : ℕ) → take (length xs - n) (drop n xs) ≡ drop n xs
tail_is xs n = let long = length-drop n xs in take_all (length xs - n) (drop n xs) (omega arith)

-- what a reader finds that reads as many bytes as are the same

pub fixed_tells : (part text seen rest : List ℕ) (same : ℕ) → seen ≡ text → same ≡ same_len part seen → rest ≡ drop same seen → length part ≤ same → fixed part text ≡ Found.told tt rest
fixed_tells part text seen rest same is count behind long =
    let here : same ≡ same_len part text = count ∙ ap (same_len part) is in
    let most = same_within part text in
    fixed_whole part text (omega arith) ∙ ap (λ (n : ℕ). Found.told tt (drop n text)) (sym here) ∙ ap (λ (t : List ℕ). Found.told tt (drop same t)) (sym is) ∙ ap (Found.told tt) (sym behind)

pub fixed_breaks : (part text seen rest : List ℕ) (same : ℕ) → seen ≡ text → same ≡ same_len part seen → rest ≡ drop same seen → same < length part → fixed part text ≡ Found.broken rest OtherByte
fixed_breaks part text seen rest same is count behind short =
    let here : same ≡ same_len part text = count ∙ ap (same_len part) is in
    fixed_differs part text (omega arith) ∙ ap (λ (n : ℕ). Found.broken (drop n text) OtherByte) (sym here) ∙ ap (λ (t : List ℕ). Found.broken (drop same t) OtherByte) (sym is)
    ∙ ap (λ (r : List ℕ). Found.broken r OtherByte) (sym behind)

-- ---- holes

pub hole_tells : {A : Type 0} (p : ℕ → Bool) (rule : Rule) (tells : List ℕ → Option A) (text run rest : List ℕ) (a : A) → run ≡ take (prefix_len p text) text → rest ≡ drop (prefix_len p text) text → tells run ≡ Some a
    → hole p rule tells text ≡ Found.told a rest
unfolding hole
hole_tells p rule tells text run rest a is behind e =
    ap (told_or rule text (drop (prefix_len p text) text)) (ap tells (sym is) ∙ e) ∙ ap (Found.told a) (sym behind)

pub hole_tells_run : (p : ℕ → Bool) (rule : Rule) (tells : List ℕ → Option (List ℕ)) (text run rest name : List ℕ) → run ≡ take (prefix_len p text) text → rest ≡ drop (prefix_len p text) text → tells run ≡ Some run → name ≡ run
    → hole p rule tells text ≡ Found.told name rest
hole_tells_run p rule tells text run rest name is behind e same = hole_tells p rule tells text run rest name is behind (e ∙ ap Some (sym same))

pub hole_breaks : {A : Type 0} (p : ℕ → Bool) (rule : Rule) (tells : List ℕ → Option A) (text run rest : List ℕ) → run ≡ take (prefix_len p text) text → rest ≡ text → tells run ≡ None
    → hole p rule tells text ≡ Found.broken rest rule
unfolding hole
hole_breaks p rule tells text run rest is stays e =
    ap (told_or rule text (drop (prefix_len p text) text)) (ap tells (sym is) ∙ e) ∙ ap (λ (r : List ℕ). Found.broken r rule) (sym stays)

-- ---- parts one after the other

pub on_told : {A B : Type 0} (found : Found A) (next : A → List ℕ → Found B) (a : A) (rest : List ℕ) (all : Found B) → found ≡ Found.told a rest → next a rest ≡ all → followed found next ≡ all
on_told found next a rest all e more = ap (λ (f : Found _). followed f next) e ∙ more

pub on_broken : {A B : Type 0} (found : Found A) (next : A → List ℕ → Found B) (rest : List ℕ) (rule : Rule) → found ≡ Found.broken rest rule → followed found next ≡ Found.broken rest rule
on_broken found next rest rule e = ap (λ (f : Found _). followed f next) e

-- what is made of what is told leaves a fault as it is
pub followed_twice : {A B C : Type 0} (found : Found A) (next : A → List ℕ → Found B) (last : B → List ℕ → Found C) → followed (followed found next) last ≡ followed found (λ a text. followed (next a text) last)
followed_twice (Found.told a rest) next last = refl
followed_twice (Found.broken rest rule) next last = refl
