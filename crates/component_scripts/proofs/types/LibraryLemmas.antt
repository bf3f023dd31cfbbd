-- The places of types, with one component more.
use Rattle.std.proofs.Common.{◌≡◌, ℕ, ◌+◌, Bool, true, false, cond, eqb, List, [], ◌∷◌, ◌++◌, length, Some, None, refl, ap, ◌∙◌, arith}
use Rattle.std.specs.Prelude.{position, is_some}
use Rattle.std.specs.List.{position_or_len}
use Rattle.std.specs.Str.{bytes_eq}
use Rattle.std.proofs.lemmas.Bool.Decides.{nat_tests}
use Rattle.std.proofs.lemmas.List.{map-append, length-append, length-map}
use Rattle.std.proofs.lemmas.List.Folds.{position_or_len_push}
use Rattle.component_scripts.specs.Catalog.{type_place, types_of}
use Rattle.script_words.specs.Names.{place_of}
use Rattle.component_scripts.specs.Tables.{ComponentTable}
use Rattle.script_words.specs.Laws.{none_passes}

-- behind a list in which nothing passes, an item that passes is the first
pub position-last : {A : Type 0} (p : A → Bool) (xs : List A) (y : A) → position p xs ≡ None → position p (xs ++ y ∷ []) ≡ cond (p y) (Some (length xs)) None
position-last p xs y none =
    let all : position_or_len p xs ≡ length xs = (none_passes p xs (ap is_some none)).0 in
    let long : length (xs ++ y ∷ []) ≡ length xs + 1 = length-append xs (y ∷ []) in
    by (p y) refl (position_or_len_push p xs y) all long
  where
    by : (b : Bool) → p y ≡ b → position_or_len p (xs ++ y ∷ []) ≡ cond (eqb (position_or_len p xs) (length xs)) (length xs + cond (p y) 0 1) (position_or_len p xs)
        → position_or_len p xs ≡ length xs → length (xs ++ y ∷ []) ≡ length xs + 1 → position p (xs ++ y ∷ []) ≡ cond b (Some (length xs)) None
    by true e at all long = grind (arith, nat_tests)
    by false e at all long = grind (arith, nat_tests)

pub type_place-last : (components : List ComponentTable) (last : ComponentTable) (name : List ℕ) → type_place components name ≡ None
    → type_place (components ++ last ∷ []) name ≡ cond (bytes_eq name last.name) (Some (length components)) None
type_place-last components last name none =
    ap (λ ns. place_of ns name) (map-append (λ (c : ComponentTable). c.name) components (last ∷ []))
    ∙ position-last (bytes_eq name) (types_of components) last.name none
    ∙ ap (λ n. cond (bytes_eq name last.name) (Some n) None) (length-map components (λ (c : ComponentTable). c.name))
