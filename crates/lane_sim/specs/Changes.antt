-- What registers take at the clock's edge.
use Rattle.std.specs.Prelude.{◌≡◌, ℕ, ◌<◌, List, slice_get, Some, map}
use Rattle.av_base.specs.Word.{Word}
use Rattle.cycle_sim.specs.declared.reading.registers.Register.{Register}
use Rattle.lane_sim.specs.LaneWords.{value_at}
use Rattle.lane_sim.specs.declared.order.Change.{Change}

-- what a register's net takes in one lane
pub record WordChange : Type 0 where
  pub net : ℕ
  pub value : Word

-- the changes in a lane
abbrev pub lane_changes : ℕ → List Change → List WordChange
lane_changes j changes = map (λ (change : Change). record { net = change.net; value = value_at change.value j }) changes

-- the change gives a register the value of its next net
pub record IsChangeOf (registers : List Register) (nets : List Word) (change : WordChange) : Type 0 where
  pub place : ℕ
  pub register : Register
  pub is : slice_get registers place ≡ Some register
  pub net : change.net ≡ register.net
  pub value : slice_get nets register.next ≡ Some change.value

-- one of the changes before this place is the net's
pub record IsChanged (changes : List WordChange) (count n : ℕ) : Type 0 where
  pub place : ℕ
  pub change : WordChange
  pub before : place < count
  pub is : slice_get changes place ≡ Some change
  pub net : change.net ≡ n
