-- The names that a module and its ports may have, as bytes.
use Rattle.std.specs.Prelude.{ℕ, Bool, false, ◌==◌, ◌||◌, nat_eq, List, [], ◌∷◌, IsTrue, codes}
use Rattle.std.specs.List.{list_all, list_any, ends_with}
use Rattle.std.specs.Char.{is_ascii_alphabetic, is_ascii_alphanumeric}

-- a letter, a digit or '_'
abbrev pub is_name_byte : ℕ → Bool
is_name_byte b = is_ascii_alphanumeric b || b == 95

-- '$'
abbrev pub is_dollar : ℕ → Bool
is_dollar b = b == 36

abbrev pub begins_with_letter : List ℕ → Bool
begins_with_letter [] = false
begins_with_letter (b ∷ bs) = is_ascii_alphabetic b

-- a letter, then letters, digits and '_', with "_interconnect" at the end
pub record IsModuleName (name : List ℕ) : Type 0 where
  pub first : IsTrue (begins_with_letter name)
  pub bytes : IsTrue (list_all is_name_byte name)
  pub suffix : IsTrue (ends_with nat_eq name (codes "_interconnect"))

-- a letter, then letters, digits, '_' and '$', with a '$' at least
pub record IsPortName (name : List ℕ) : Type 0 where
  pub first : IsTrue (begins_with_letter name)
  pub bytes : IsTrue (list_all (λ b. is_name_byte b || is_dollar b) name)
  pub dollar : IsTrue (list_any is_dollar name)
