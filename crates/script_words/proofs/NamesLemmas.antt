-- Where a name stands, seen through a map.
use Rattle.std.proofs.Common.{◌≡◌, ℕ, Bool, false, List, [], ◌∷◌, ◌++◌, length, map, Option, sym, ap, ◌∙◌}
use Rattle.std.specs.Prelude.{position, IsNone}
use Rattle.std.specs.List.{position_or_len, list_any, IsDistinct, AllByRecursion}
use Rattle.std.proofs.lemmas.List.{map-append}
use Rattle.std.specs.Prelude.{String, string_bytes, if◌then◌else◌}
use Rattle.std.specs.Str.{bytes_eq}
use Rattle.std.specs.String.{string_eq}
use Rattle.std.proofs.Common.{Global, subst}
use Rattle.script_words.specs.Laws.{position-map, none_passes}

-- no key has the bytes of a name that isn't in the table
pub absent : (keys : List (String Global)) (s : String Global) (name : List ℕ) → string_bytes s ≡ name → IsNone (position (bytes_eq name) (map string_bytes keys)) → (position_or_len (string_eq s) keys ≡ length keys) × (list_any (string_eq s) keys ≡ false)
absent keys s name e h =
    let P : Option ℕ → Type 0 = λ o. IsNone o in
    let at_name : IsNone (position (λ k. bytes_eq name (string_bytes k)) keys) = subst P (position-map (bytes_eq name) string_bytes keys) h in
    let Q : List ℕ → Type 0 = λ bs. IsNone (position (λ k. bytes_eq bs (string_bytes k)) keys) in
    none_passes (string_eq s) keys (subst Q (sym e) at_name)

pub added : (keys now : List (String Global)) (s : String Global) (name : List ℕ) → string_bytes s ≡ name → IsNone (position (bytes_eq name) (map string_bytes keys)) → now ≡ (if list_any (string_eq s) keys then keys else (keys ++ s ∷ [])) → map string_bytes now ≡ map string_bytes keys ++ name ∷ []
added keys now s name e h n =
    let none = (absent keys s name e h).1 in
    let is : now ≡ keys ++ s ∷ [] = n ∙ ap (λ (b : Bool). if b then keys else (keys ++ s ∷ [])) none in
    ap (map string_bytes) is ∙ map-append string_bytes keys (s ∷ []) ∙ ap (λ (bs : List ℕ). map string_bytes keys ++ bs ∷ []) e

-- texts that differ have bytes that differ
AllByRecursion-map : {A B : Type 0} (P : B → Type 0) (f : A → B) (xs : List A) → AllByRecursion (λ x. P (f x)) xs → AllByRecursion P (map f xs)
AllByRecursion-map P f [] h = h
AllByRecursion-map P f (x ∷ xs) h = (h.0, AllByRecursion-map P f xs h.1)

pub IsDistinct-bytes : (keys : List (String Global)) → IsDistinct string_eq keys → IsDistinct bytes_eq (map string_bytes keys)
unfolding IsDistinct
IsDistinct-bytes [] h = h
IsDistinct-bytes (k ∷ ks) h = (AllByRecursion-map (λ y. bytes_eq (string_bytes k) y ≡ false) string_bytes ks h.0, IsDistinct-bytes ks h.1)
