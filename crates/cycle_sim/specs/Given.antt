-- What an equation gives its net.
use Rattle.std.specs.Prelude.{◌≡◌, ℕ, true, false, List, slice_get, Some, IfSome}
use Rattle.av_base.specs.Word.{Word}
use Rattle.netlist.specs.declared.line.Line.{Line}
use Rattle.netlist.specs.Netlists.{Netlist, is_input}
use Rattle.netlist.specs.Runs.{value_of}
use Rattle.cycle_sim.specs.Sims.{cycle_with}
use Rattle.cycle_sim.specs.Settled.{is_state}

-- The value of net n, whose line is this: an input's and a register's is the one that it has, and any other's the one that its
-- equation gives among these values of nets and words.
pub record IsGiven (netlist : Netlist) (words nets : List Word) (n : ℕ) (line : Line) (value : Word) : Type 0 where
  pub width : value.width ≡ line.width
  pub state : is_state line.equation ≡ true → slice_get nets n ≡ Some value
  pub computed : is_input line.equation ≡ false
      → IfSome (value_of netlist.lines (cycle_with netlist nets words) line.width line.equation) (λ x. value.bits ≡ x)
