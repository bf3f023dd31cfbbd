-- What registers take at the clock's edge.
use Rattle.std.specs.Prelude.{◌≡◌, ℕ, ◌<◌, List, slice_get, Some}
use Rattle.av_base.specs.Word.{Word}
use Rattle.cycle_sim.specs.declared.reading.registers.Register.{Register}
use Rattle.cycle_sim.specs.declared.order.Change.{Change}

-- the change gives a register the value of its next net
pub record IsChangeOf (registers : List Register) (nets : List Word) (change : Change) : Type 0 where
  pub place : ℕ
  pub register : Register
  pub is : slice_get registers place ≡ Some register
  pub net : change.net ≡ register.net
  pub value : slice_get nets register.next ≡ Some change.value

-- one of the changes before this place is the net's
pub record IsChanged (changes : List Change) (count n : ℕ) : Type 0 where
  pub place : ℕ
  pub change : Change
  pub before : place < count
  pub is : slice_get changes place ≡ Some change
  pub net : change.net ≡ n
