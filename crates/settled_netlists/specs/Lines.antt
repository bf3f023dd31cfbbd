-- What is asked of operands whose values are known; lines with constants where values are known.
use Rattle.std.specs.Prelude.{◌≡◌, ℕ, ◌+◌, ◌<◌, ◌≤◌, List, length, slice_get, Option, Some, None}
use Rattle.av_base.specs.Word.{Word, IsWord}
use Rattle.netlist.specs.declared.line.Line.{Line}
use Rattle.netlist.specs.declared.line.Equation.{Equation}
use Rattle.netlist.specs.declared.line.Equation.TheVariants.{Input, Constant, And, Or, Xor, Add, Sub, Eq, Less, Concat, Not, Any, Mux, Slice, Reg, Read}
use Rattle.netlist.specs.Netlists.{Netlist, line_of}
use Rattle.settled_netlists.specs.Values.{value_at, given_by}

-- two known values have one width
abbrev pub AreAlike : Option Word → Option Word → Type 0
AreAlike a b = (x y : Word) → a ≡ Some x → b ≡ Some y → x.width ≡ y.width

-- two known values fit a word together
abbrev pub FitTogether : Option Word → Option Word → Type 0
FitTogether a b = (x y : Word) → a ≡ Some x → b ≡ Some y → x.width + y.width ≤ 128

-- a known value has these bits
pub record HasBits (a : Option Word) (high low : ℕ) : Type 0 where
  pub order : low ≤ high
  pub inside : (x : Word) → a ≡ Some x → high < x.width

-- the known operands are such as the equation asks for
abbrev pub MayGive : List (Option Word) → Equation → Type 0
MayGive values (Input port) = Unit {0}
MayGive values (Constant value) = Unit {0}
MayGive values (And a b) = AreAlike (value_at values a) (value_at values b)
MayGive values (Or a b) = AreAlike (value_at values a) (value_at values b)
MayGive values (Xor a b) = AreAlike (value_at values a) (value_at values b)
MayGive values (Add a b) = AreAlike (value_at values a) (value_at values b)
MayGive values (Sub a b) = AreAlike (value_at values a) (value_at values b)
MayGive values (Eq a b) = AreAlike (value_at values a) (value_at values b)
MayGive values (Less a b) = AreAlike (value_at values a) (value_at values b)
MayGive values (Concat a b) = FitTogether (value_at values a) (value_at values b)
MayGive values (Not a) = Unit {0}
MayGive values (Any a) = Unit {0}
MayGive values (Mux s a b) = Unit {0}
MayGive values (Slice a high low) = HasBits (value_at values a) high low
MayGive values (Reg reset next) = Unit {0}
MayGive values (Read m a) = Unit {0}

abbrev pub settled_line : Option Word → Line → Line
settled_line (Some value) line = line_of value.width (Constant value)
settled_line None line = line

-- the first lines, a constant where a net has a value
pub record AreSettledLines (whole : Netlist) (values : List (Option Word)) (count : ℕ) (lines : List Line) : Type 0 where
  pub few : length lines ≡ count
  pub each : (n : ℕ) (line : Line) → n < count → slice_get whole.lines n ≡ Some line
      → slice_get lines n ≡ Some (settled_line (value_at values n) line)
  pub words : (n : ℕ) (value : Word) → n < count → value_at values n ≡ Some value → IsWord value.width value.bits

-- the value that an equation gives where each register keeps its reset value
abbrev pub first_given : List (Option Word) → Equation → Option Word
first_given values (Reg reset next) = Some reset
first_given values equation = given_by values equation

-- the net has a value, and its equation gives it by the others
pub record IsHeld (netlist : Netlist) (values : List (Option Word)) (n : ℕ) : Type 0 where
  pub line : Line
  pub at : slice_get netlist.lines n ≡ Some line
  pub value : Word
  pub is : value_at values n ≡ Some value
  pub given : given_by values line.equation ≡ Some value
