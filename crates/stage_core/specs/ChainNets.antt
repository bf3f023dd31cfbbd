-- Two stages, one behind the other.
use Rattle.std.specs.Prelude.{◌≡◌, ℕ, ◌*◌, ◌<◌, ◌⊎◌, nat_lt, IsTrue}
use Rattle.netlist.specs.Netlists.{Netlist}
use Rattle.stream_machines.specs.Stage.{Shape, chain_shape}

-- the shapes of the two parts fit. It is `Fits`, but for what the nets between the parts do in a run
pub record ShapesFit (first second : Shape) : Type 0 where
  pub same_side : first.down ≡ second.up
  pub passed_on : (channel : ℕ) → IsTrue (first.passes channel) → IsTrue (second.passes channel)
  pub has_symbols : 0 < first.up.symbols
  pub divides : (parts : ℕ) × ((first.up.symbols ≡ second.up.symbols * parts) ⊎ (second.down.symbols ≡ second.up.symbols * parts))
  pub has_errors : 0 < second.down.error_bits → 0 < first.up.error_bits → 0 < second.up.error_bits
  pub delayed : IsTrue (nat_lt 0 second.up.pace.latency) → (first.hold ≡ 0) × (first.up.pace ≡ second.up.pace)

-- the shape is that of a chain of a part with one of these shapes and a part with one of those. Before a delayed side the
-- first part shows the ready that it sees, and where it needs an always ready sink, the second part passes ready on
pub record IsChainOf (firsts seconds passes_ready : Shape → Type 0) (shows_ready : Type 0) (shape : Shape) : Type 0 where
  pub first : Shape
  pub second : Shape
  pub is : shape ≡ chain_shape first second
  pub fit : ShapesFit first second
  pub first_has : firsts first
  pub second_has : seconds second
  pub shown : IsTrue (nat_lt 0 second.up.pace.latency) → shows_ready
  pub always_ready : IsTrue first.needs_ready → passes_ready second

-- both parts are kept, and their registers and memories are apart
pub record AreBothKept (one two : Netlist → Type 0) (ones twos one_memories two_memories : ℕ → Type 0)
    (netlist : Netlist) : Type 0 where
  pub first : one netlist
  pub second : two netlist
  pub apart : (n : ℕ) → ones n → ¬ twos n
  pub memories_apart : (m : ℕ) → one_memories m → ¬ two_memories m

-- between the two parts there is something that the first leads to and the second starts from
pub record HasMiddle {X : Type 0} (before behind : X → Type 0) : Type 0 where
  pub middle : X
  pub first : before middle
  pub second : behind middle
