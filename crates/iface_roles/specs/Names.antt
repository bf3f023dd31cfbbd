-- Names that are compared without regard to case.
use Rattle.std.specs.Prelude.{◌≡◌, ℕ, Bool, List, map}
use Rattle.std.specs.Char.{to_ascii_lowercase}
use Rattle.std.specs.Str.{bytes_eq}

-- a text in lower case, letters beyond ASCII as they are
abbrev pub lower : List ℕ → List ℕ
lower text = map to_ascii_lowercase text

-- the two texts are one name
abbrev pub IsSameName : List ℕ → List ℕ → Type 0
IsSameName a b = lower a ≡ lower b

-- the test of the same
abbrev pub same_name : List ℕ → List ℕ → Bool
same_name a b = bytes_eq (lower a) (lower b)
