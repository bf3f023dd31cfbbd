-- Values that a generator draws, one after the other.
use Rattle.std.specs.Prelude.{ℕ, zero, suc, ◌+◌, ◌*◌, ◌/◌, ◌%◌, ◌^◌, Bool, ◌==◌, List, [], ◌∷◌, if◌then◌else◌}
use Rattle.scenario_tables.specs.declared.statements.Pattern.{Pattern}

-- what is drawn from a state of the generator, and the state behind it
abbrev pub Draws : Type 0 → Type 0
Draws X = ℕ → X × ℕ

-- nothing is drawn
abbrev pub always : {X : Type 0} → X → Draws X
always value = λ state. (value, state)

-- one draw behind another, which may rest on what the first gave
infixl 10 ◌>>=◌
abbrev pub ◌>>=◌ : {X Y : Type 0} → Draws X → (X → Draws Y) → Draws Y
first >>= then_draw = λ state. then_draw (first state).0 (first state).1

abbrev pub next_state : ℕ → ℕ
next_state state = (6364136223846793005 * state + 1442695040888963407) % 2 ^ 64

-- a number below the bound, of the state's highest 31 bits
unfoldable pub draw : ℕ → Draws ℕ
draw bound = λ state. (next_state state / 2 ^ 33 % bound, next_state state)

-- the same draw, so many times
unfoldable pub repeated : {X : Type 0} → ℕ → Draws X → Draws (List X)
repeated zero each = always []
repeated (suc count) each = do
  first ← each
  others ← repeated count each
  always (first ∷ others)

-- a draw for each item, in their order
abbrev pub for_each : {X Y : Type 0} → (X → Draws Y) → List X → Draws (List Y)
for_each each [] = always []
for_each each (item ∷ later) = do
  first ← each item
  others ← for_each each later
  always (first ∷ others)

-- symbols of so many bits, each drawn below the bound, behind so many others: the first of all has the highest-order bits of the
-- word, or the lowest
unfoldable pub word_behind : Bool → ℕ → ℕ → ℕ → ℕ → Draws ℕ
word_behind first_high bits bound before zero = always 0
word_behind first_high bits bound before (suc later) = do
  symbol ← draw bound
  others ← word_behind first_high bits bound (suc before) later
  always (symbol * 2 ^ (bits * (if first_high then later else before)) + others)

-- the word of so many symbols
abbrev pub word_of : Bool → ℕ → ℕ → ℕ → Draws ℕ
word_of first_high bits bound symbols = word_behind first_high bits bound 0 symbols

-- whether a cycle stalls: one in four does
unfoldable pub stalls : Draws Bool
stalls = do
  number ← draw 4
  always (number == 0)

unfoldable pub pattern : Draws Pattern
pattern = do
  cycles ← repeated 16 stalls
  always (record { stalls = cycles })
