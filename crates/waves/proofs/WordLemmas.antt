-- Words that are left.
use Rattle.std.proofs.Common.{◌≡◌, ℕ, ◌<◌, Bool, true, false, cond, nat_lt, List, [], ◌∷◌, length, drop, refl, arith}
use Rattle.waves.specs.Cuts.{blank, pieces, texts_from}
use Rattle.waves.specs.CutLaws.{some_piece}
use Rattle.waves.specs.Words.{is_none_left}

some_left : (ps : List (List ℕ)) → 0 < length ps → false ≡ is_none_left ps
some_left [] h = absurd (omega arith)
some_left (p ∷ ps) h = refl

none_by : (line : List ℕ) (at : ℕ) (b : Bool) → b ≡ is_none_left (cond b [] (pieces blank (drop at line)))
none_by line at true = refl
none_by line at false = some_left (pieces blank (drop at line)) (some_piece blank (drop at line))

-- no word is left behind the end of the line alone
pub none_left : (line : List ℕ) (at : ℕ) → nat_lt (length line) at ≡ is_none_left (texts_from at line)
none_left line at = none_by line at (nat_lt (length line) at)
