-- Scripts as lines of words.
use Rattle.std.specs.Prelude.{ℕ, List, [], ◌∷◌, ◌++◌}
use Rattle.std.specs.List.{flat_map}

-- the words with one blank between, and a line feed behind them
unfoldable pub line_text : List (List ℕ) → List ℕ
line_text [] = 10 ∷ []
line_text (word ∷ []) = word ++ 10 ∷ []
line_text (word ∷ next ∷ words) = word ++ 32 ∷ line_text (next ∷ words)

unfoldable pub text_of : List (List (List ℕ)) → List ℕ
text_of lines = flat_map line_text lines
