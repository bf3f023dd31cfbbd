-- Names with a dot between them.
use Rattle.std.proofs.Common.{◌≡◌, ℕ, Bool, true, false, List, [], ◌∷◌, ◌++◌, drop, append_assoc, refl, sym, ap, ◌∙◌}
use Rattle.std.specs.Str.{bytes_eq}
use Rattle.std.proofs.lemmas.Slice.Eq.{bytes_eq-Decides}

by_false : (b : Bool) → (b ≡ true → ⊥) → false ≡ b
by_false true h = absurd (h refl)
by_false false h = refl

by_both : (a b : Bool) → (a ≡ true → b ≡ true) → (b ≡ true → a ≡ true) → a ≡ b
by_both true b h g = sym (h refl)
by_both false b h g = by_false b (λ e. absurd (let wrong = g e in cc))

behind_front : (front one other : List ℕ) → front ++ one ≡ front ++ other → one ≡ other
behind_front [] one other e = e
behind_front (byte ∷ rest) one other e = behind_front rest one other (ap (drop 1) e)

-- a word that doesn't begin with the first name is no such name
pub no_front : (word instance interface : List ℕ) → ((rest : List ℕ) → word ≡ instance ++ rest → ⊥) → false ≡ bytes_eq (instance ++ 46 ∷ [] ++ interface) word
no_front word instance interface none =
    by_false _ (λ e. none (46 ∷ interface) (sym ((bytes_eq-Decides (instance ++ 46 ∷ [] ++ interface) word).0 e) ∙ append_assoc instance (46 ∷ []) interface))

-- nor is one that goes on with something other than a dot
pub no_dot : (word instance interface dotted : List ℕ) → word ≡ instance ++ dotted → ((rest : List ℕ) → dotted ≡ 46 ∷ [] ++ rest → ⊥) → false ≡ bytes_eq (instance ++ 46 ∷ [] ++ interface) word
no_dot word instance interface dotted e none =
    by_false _ (λ same. none interface (behind_front instance dotted (46 ∷ [] ++ interface) (sym e ∙ sym ((bytes_eq-Decides (instance ++ 46 ∷ [] ++ interface) word).0 same) ∙ append_assoc instance (46 ∷ []) interface)))

-- and behind the dot stands the other name
pub behind_dot : (word instance interface dotted behind : List ℕ) → word ≡ instance ++ dotted → dotted ≡ 46 ∷ [] ++ behind
    → bytes_eq behind interface ≡ bytes_eq (instance ++ 46 ∷ [] ++ interface) word
behind_dot word instance interface dotted behind e d =
    let whole : word ≡ instance ++ 46 ∷ [] ++ behind = e ∙ ap (λ xs. instance ++ xs) d ∙ sym (append_assoc instance (46 ∷ []) behind) in
    by_both _ _
    (λ same. (bytes_eq-Decides (instance ++ 46 ∷ [] ++ interface) word).1 (ap (λ xs. instance ++ 46 ∷ [] ++ xs) (sym ((bytes_eq-Decides behind interface).0 same)) ∙ sym whole))
    (λ same. (bytes_eq-Decides behind interface).1 (sym (behind_front (instance ++ 46 ∷ []) interface behind ((bytes_eq-Decides (instance ++ 46 ∷ [] ++ interface) word).0 same ∙ whole))))
