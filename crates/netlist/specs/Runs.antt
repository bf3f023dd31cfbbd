-- Valuations and runs of a netlist.
use Rattle.std.specs.Prelude.{◌≡◌, ℕ, ◌+◌, ◌-◌, ◌^◌, ◌==◌, ◌&&◌, if◌then◌else◌, ◌<◌, ◌≤◌, true, List, length, slice_get, Option, Some, None, option_map, IfSome}
use Rattle.av_base.specs.Word.{word, and_of, or_of, xor_of, add_of, sub_of, eq_of, less_of, concat_of, not_of, any_of, slice_of}
use Rattle.netlist.specs.declared.line.Equation.{Equation}
use Rattle.netlist.specs.declared.line.Equation.TheVariants.{Input, Constant, And, Or, Xor, Add, Sub, Eq, Less, Concat, Not, Any, Mux, Slice, Reg, Read}
use Rattle.netlist.specs.declared.line.Line.{Line}
use Rattle.netlist.specs.declared.line.PortLine.{PortLine}
use Rattle.netlist.specs.declared.line.Memory.{Memory}
use Rattle.netlist.specs.declared.line.MemWrite.{MemWrite}
use Rattle.netlist.specs.Netlists.{Netlist, IsInputPort, width_at, is_register, next_of}

-- one cycle: the value at each input port, of each net, and of each word of each memory as the cycle begins
pub record Cycle : Type 0 where
  pub input : ℕ → ℕ
  pub net : ℕ → ℕ
  pub cell : ℕ → ℕ → ℕ

-- cycle after cycle: `input cycle port`, `net cycle number`, `cell cycle memory address`
pub record Run : Type 0 where
  pub input : ℕ → ℕ → ℕ
  pub net : ℕ → ℕ → ℕ
  pub cell : ℕ → ℕ → ℕ → ℕ

abbrev pub cycle_of : Run → ℕ → Cycle
cycle_of run c = record { input = run.input c; net = run.net c; cell = run.cell c }

-- the value that an equation gives its net of this width in a cycle, by the operators of `Val`; None where the value is state
abbrev pub value_of : List Line → Cycle → ℕ → Equation → Option ℕ
value_of lines cycle w (Input port) = Some (cycle.input port)
value_of lines cycle w (Constant value) = Some value.bits
value_of lines cycle w (And a b) = Some (and_of (word w (cycle.net a)) (word w (cycle.net b))).bits
value_of lines cycle w (Or a b) = Some (or_of (word w (cycle.net a)) (word w (cycle.net b))).bits
value_of lines cycle w (Xor a b) = Some (xor_of (word w (cycle.net a)) (word w (cycle.net b))).bits
value_of lines cycle w (Add a b) = Some (add_of (word w (cycle.net a)) (word w (cycle.net b))).bits
value_of lines cycle w (Sub a b) = Some (sub_of (word w (cycle.net a)) (word w (cycle.net b))).bits
value_of lines cycle w (Eq a b) = Some (eq_of (word w (cycle.net a)) (word w (cycle.net b))).bits
value_of lines cycle w (Less a b) = Some (less_of (word w (cycle.net a)) (word w (cycle.net b))).bits
value_of lines cycle w (Concat a b) =
    option_map (λ k. (concat_of (word (w - k) (cycle.net a)) (word k (cycle.net b))).bits) (width_at lines b)
value_of lines cycle w (Not a) = Some (not_of (word w (cycle.net a))).bits
value_of lines cycle w (Any a) = Some (any_of (word w (cycle.net a))).bits
value_of lines cycle w (Mux s a b) = Some (if cycle.net s == 0 then cycle.net b else cycle.net a)
value_of lines cycle w (Slice a high low) = Some (slice_of (word w (cycle.net a)) high low).bits
value_of lines cycle w (Reg reset next) = None
value_of lines cycle w (Read m a) = Some (cycle.cell m (cycle.net a))

-- net n has a value of its width, the one that its equation gives
pub record NetHolds (lines : List Line) (cycle : Cycle) (n : ℕ) (line : Line) : Type 0 where
  pub fits : cycle.net n < 2 ^ line.width
  pub value : IfSome (value_of lines cycle line.width line.equation) (λ x. cycle.net n ≡ x)

-- each word of each memory has its memory's width
abbrev pub WordsFit : List Memory → (ℕ → ℕ → ℕ) → Type 0
WordsFit memories cell =
    (m : ℕ) (memory : Memory) → slice_get memories m ≡ Some memory → (address : ℕ) → address < 2 ^ memory.address_bits
    → cell m address < 2 ^ memory.width

-- the equations hold in one cycle, in no order; what registers and memories hold is free, but that it fits
pub record IsValuation (netlist : Netlist) (cycle : Cycle) : Type 0 where
  pub nets : (n : ℕ) (line : Line) → slice_get netlist.lines n ≡ Some line → NetHolds netlist.lines cycle n line
  pub words : WordsFit netlist.memories cycle.cell

-- the value that a register has in the first cycle; None for the other equations
abbrev pub reset_of : Equation → Option ℕ
reset_of (Reg reset next) = Some reset.bits
reset_of _ = None

-- each register begins at its reset value; what memories hold at first is free
pub record StartsAt (netlist : Netlist) (first : Cycle) : Type 0 where
  pub registers : (n : ℕ) (line : Line) → slice_get netlist.lines n ≡ Some line
      → IfSome (reset_of line.equation) (λ x. first.net n ≡ x)

-- the word of memory m at an address after the clock's edge: the write's where it is enabled and goes there, else the one before
abbrev pub word_after : Cycle → MemWrite → ℕ → ℕ → ℕ
word_after before write m address =
    if (before.net write.enable == 1) && (before.net write.address == address) then before.net write.word
    else before.cell m address

-- the clock's edge between two cycles: each register takes what its next net was, and each memory what its write puts; one that
-- waits for either takes anything
pub record Steps (netlist : Netlist) (before after : Cycle) : Type 0 where
  pub registers : (n : ℕ) (line : Line) → slice_get netlist.lines n ≡ Some line
      → IfSome (next_of line) (λ m. after.net n ≡ before.net m)
  pub words : (m : ℕ) (memory : Memory) → slice_get netlist.memories m ≡ Some memory → (address : ℕ)
      → address < 2 ^ memory.address_bits
      → IfSome memory.write (λ write. after.cell m address ≡ word_after before write m address)

-- The run obeys the netlist for so many cycles. `reset` is no net and no port: it is 0 in each cycle, so
-- the emitted text's reset branches are never taken, and the first cycle has the reset values.
pub record IsRun (netlist : Netlist) (run : Run) (cycles : ℕ) : Type 0 where
  pub valuations : (c : ℕ) → c < cycles → IsValuation netlist (cycle_of run c)
  pub starts : 0 < cycles → StartsAt netlist (cycle_of run 0)
  pub steps : (c : ℕ) → c + 1 < cycles → Steps netlist (cycle_of run c) (cycle_of run (c + 1))

-- the run obeys the netlist in every cycle
abbrev pub IsEndlessRun : Netlist → Run → Type 0
IsEndlessRun netlist run = (cycles : ℕ) → IsRun netlist run cycles

-- P holds in each valuation, and so in each cycle of each run
abbrev pub Always : Netlist → (Cycle → Type 0) → Type 0
Always netlist P = (cycle : Cycle) → IsValuation netlist cycle → P cycle

-- the value at each input port fits its width
abbrev pub InputsFit : List PortLine → (ℕ → ℕ) → Type 0
InputsFit ports input = (k w : ℕ) → IsInputPort ports k w → input k < 2 ^ w

-- in each of so many cycles they do
abbrev pub AlwaysFit : List PortLine → (ℕ → ℕ → ℕ) → ℕ → Type 0
AlwaysFit ports inputs cycles = (c : ℕ) → c < cycles → InputsFit ports (inputs c)

-- each register's value and each word fits its width
pub record StateFits (netlist : Netlist) (cycle : Cycle) : Type 0 where
  pub registers : (n : ℕ) (line : Line) → slice_get netlist.lines n ≡ Some line → is_register line.equation ≡ true
      → cycle.net n < 2 ^ line.width
  pub words : WordsFit netlist.memories cycle.cell

-- two cycles with equal values at the input ports
abbrev pub SameInputs : Netlist → Cycle → Cycle → Type 0
SameInputs netlist x y = (k w : ℕ) → IsInputPort netlist.ports k w → x.input k ≡ y.input k

-- two cycles in which each register, and each word of each memory, is the same
pub record SameState (netlist : Netlist) (x y : Cycle) : Type 0 where
  pub registers : (n : ℕ) (line : Line) → slice_get netlist.lines n ≡ Some line → is_register line.equation ≡ true
      → x.net n ≡ y.net n
  pub words : (m : ℕ) (memory : Memory) → slice_get netlist.memories m ≡ Some memory → (address : ℕ)
      → address < 2 ^ memory.address_bits
      → x.cell m address ≡ y.cell m address

-- two cycles in which each net has the same value
abbrev pub SameNets : Netlist → Cycle → Cycle → Type 0
SameNets netlist x y = (n : ℕ) → n < length netlist.lines → x.net n ≡ y.net n

-- a valuation with these inputs and this state
pub record HasValuation (netlist : Netlist) (given : Cycle) : Type 0 where
  pub cycle : Cycle
  pub valuation : IsValuation netlist cycle
  pub inputs : cycle.input ≡ given.input
  pub state : SameState netlist given cycle

-- a run of so many cycles with these inputs, whose memories hold these words at first
pub record HasRun (netlist : Netlist) (inputs : ℕ → ℕ → ℕ) (contents : ℕ → ℕ → ℕ) (cycles : ℕ) : Type 0 where
  pub run : Run
  pub is_run : IsRun netlist run cycles
  pub inputs_are : run.input ≡ inputs
  pub contents_are : run.cell 0 ≡ contents

-- an endless run that begins with the first cycles of this one; from then on its inputs are 0
pub record GoesOn (netlist : Netlist) (run : Run) (cycles : ℕ) : Type 0 where
  pub endless : Run
  pub is_run : IsEndlessRun netlist endless
  pub begins : (c : ℕ) → c < cycles → cycle_of endless c ≡ cycle_of run c
  pub idles : (c : ℕ) → cycles ≤ c → (port : ℕ) → endless.input c port ≡ 0
