-- Which value the equation of a net gives by values that are known of others.
use Rattle.std.specs.Prelude.{◌≡◌, ℕ, ◌<◌, ◌==◌, if◌then◌else◌, List, length, slice_get, slice_index_or, Option, Some, None, option_map}
use Rattle.av_base.specs.Word.{Word, and_of, or_of, xor_of, add_of, sub_of, eq_of, less_of, concat_of, not_of, any_of, slice_of}
use Rattle.netlist.specs.declared.line.Line.{Line}
use Rattle.netlist.specs.declared.line.Equation.{Equation}
use Rattle.netlist.specs.declared.line.Equation.TheVariants.{Input, Constant, And, Or, Xor, Add, Sub, Eq, Less, Concat, Not, Any, Mux, Slice, Reg, Read}
use Rattle.netlist.specs.Netlists.{Netlist, HasWidth}

-- the value of net n, where it is known
abbrev pub value_at : List (Option Word) → ℕ → Option Word
value_at values n = slice_index_or values n None

-- what an operator gives, where both operands are known
abbrev pub both : (Word → Word → Word) → Option Word → Option Word → Option Word
both operator (Some a) (Some b) = Some (operator a b)
both operator (Some a) None = None
both operator None b = None

-- a conjunction with 0 is 0
abbrev pub and_known : Option Word → Option Word → Option Word
and_known (Some a) (Some b) = Some (and_of a b)
and_known (Some a) None = if a.bits == 0 then Some a else None
and_known None (Some b) = if b.bits == 0 then Some b else None
and_known None None = None

-- a choice by a bit that is known, or between equal values
abbrev pub mux_known : Option Word → Option Word → Option Word → Option Word
mux_known (Some s) a b = if s.bits == 0 then b else a
mux_known None (Some a) (Some b) = if a.bits == b.bits then Some a else None
mux_known None (Some a) None = None
mux_known None None b = None

-- a register keeps its reset value where its next net has it
abbrev pub reg_known : Word → Option Word → Option Word
reg_known reset (Some next) = if next.bits == reset.bits then Some reset else None
reg_known reset None = None

-- the value that an equation gives, where these values of nets tell it
abbrev pub given_by : List (Option Word) → Equation → Option Word
given_by values (Input port) = None
given_by values (Constant value) = Some value
given_by values (And a b) = and_known (value_at values a) (value_at values b)
given_by values (Or a b) = both or_of (value_at values a) (value_at values b)
given_by values (Xor a b) = both xor_of (value_at values a) (value_at values b)
given_by values (Add a b) = both add_of (value_at values a) (value_at values b)
given_by values (Sub a b) = both sub_of (value_at values a) (value_at values b)
given_by values (Eq a b) = both eq_of (value_at values a) (value_at values b)
given_by values (Less a b) = both less_of (value_at values a) (value_at values b)
given_by values (Concat a b) = both concat_of (value_at values a) (value_at values b)
given_by values (Not a) = option_map not_of (value_at values a)
given_by values (Any a) = option_map any_of (value_at values a)
given_by values (Mux s a b) = mux_known (value_at values s) (value_at values a) (value_at values b)
given_by values (Slice a high low) = option_map (λ word. slice_of word high low) (value_at values a)
given_by values (Reg reset next) = reg_known reset (value_at values next)
given_by values (Read m a) = None

-- each value has its net's width
abbrev pub HaveWidths : Netlist → List (Option Word) → Type 0
HaveWidths netlist values = (n : ℕ) (value : Word) → value_at values n ≡ Some value → HasWidth netlist n value.width

-- the values hold each other up: each is what its net's equation gives by the others
pub record AreSettled (netlist : Netlist) (values : List (Option Word)) : Type 0 where
  pub widths : HaveWidths netlist values
  pub each : (n : ℕ) (line : Line) (value : Word) → slice_get netlist.lines n ≡ Some line → value_at values n ≡ Some value
      → given_by values line.equation ≡ Some value

-- no values that hold each other up tell more
abbrev pub AreAll : Netlist → List (Option Word) → Type 0
AreAll netlist values =
    (others : List (Option Word)) → AreSettled netlist others → (n : ℕ) (value : Word) → value_at others n ≡ Some value
    → value_at values n ≡ Some value

-- one value at most for each net, each of its net's width, and no values that hold each other up tell more
pub record AreBounds (netlist : Netlist) (values : List (Option Word)) : Type 0 where
  pub count : length values ≡ length netlist.lines
  pub widths : HaveWidths netlist values
  pub all : AreAll netlist values

-- the nets are some of the netlist's, among them each one with a value
pub record AreValued (netlist : Netlist) (values : List (Option Word)) (nets : List ℕ) : Type 0 where
  pub within : (k n : ℕ) → slice_get nets k ≡ Some n → n < length netlist.lines
  pub each : (n : ℕ) (value : Word) → value_at values n ≡ Some value → (k : ℕ) × (slice_get nets k ≡ Some n)
