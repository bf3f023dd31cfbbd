-- Which nets have what their equations give, while blocks of others are stale.
use Rattle.std.specs.Prelude.{◌≡◌, ℕ, ◌<◌, Bool, true, false, List, length, slice_get, Some, IfSome}
use Rattle.av_base.specs.Word.{Word}
use Rattle.netlist.specs.declared.line.Line.{Line}
use Rattle.netlist.specs.declared.line.Equation.{Equation}
use Rattle.netlist.specs.declared.line.Equation.TheVariants.{Input, Reg}
use Rattle.netlist.specs.Netlists.{Netlist, is_input}
use Rattle.netlist.specs.Runs.{value_of}
use Rattle.cycle_sim.specs.Readers.{block_of, block_count}
use Rattle.cycle_sim.specs.Sims.{bits_at, cycle_with}

-- net n has what its equation gives from these values of nets and words
abbrev pub HasGiven : Netlist → List Word → List Word → ℕ → Line → Type 0
HasGiven netlist nets words n line =
    IfSome (value_of netlist.lines (cycle_with netlist nets words) line.width line.equation) (λ x. bits_at nets n ≡ x)

-- inputs aside, each net below k, and each other whose block isn't stale, has what its equation gives
pub record AreSettled (netlist : Netlist) (nets words : List Word) (stale : List Bool) (k : ℕ) : Type 0 where
  pub count : length stale ≡ block_count netlist
  pub below : (n : ℕ) (line : Line) → n < k → slice_get netlist.lines n ≡ Some line → is_input line.equation ≡ false
      → HasGiven netlist nets words n line
  pub others : (n : ℕ) (line : Line) → slice_get netlist.lines n ≡ Some line → is_input line.equation ≡ false
      → slice_get stale (block_of n) ≡ Some false → HasGiven netlist nets words n line

-- a net whose value comes from outside, or from the clock's edge
abbrev pub is_state : Equation → Bool
is_state (Input port) = true
is_state (Reg reset next) = true
is_state _ = false

-- those nets have what they had
abbrev pub StateStays : List Line → List Word → List Word → Type 0
StateStays lines nets after =
    (n : ℕ) (line : Line) → slice_get lines n ≡ Some line → is_state line.equation ≡ true → bits_at after n ≡ bits_at nets n
