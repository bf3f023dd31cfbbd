-- A simulator as contracts see it.
use Rattle.std.specs.Prelude.{◌≡◌, ℕ, ◌+◌, ◌^◌, ◌<◌, not, Bool, true, List, length, slice_get, slice_index_or, take, map, filter, sum_by, Some}
use Rattle.av_base.specs.Word.{Word, word}
use Rattle.netlist.specs.declared.line.PortLine.{PortLine}
use Rattle.netlist.specs.declared.line.Memory.{Memory}
use Rattle.netlist.specs.declared.line.Line.{Line}
use Rattle.netlist.specs.Netlists.{Netlist, IsValue, IsModule, input_net}
use Rattle.netlist.specs.Runs.{Cycle, IsValuation}

-- its module, the value of each net, the words of the memories, one memory after another, and whether the present cycle was
-- evaluated
pub record SimValue : Type 0 where
  pub netlist : Netlist
  pub nets : List Word
  pub words : List Word
  pub stepped : Bool

-- the bits of the value at a place
abbrev pub bits_at : List Word → ℕ → ℕ
bits_at values n = (slice_index_or values n (word 0 0)).bits

abbrev pub size_of : Memory → ℕ
size_of memory = 2 ^ memory.address_bits

-- where the words of memory m begin
abbrev pub place_of : List Memory → ℕ → ℕ
place_of memories m = sum_by size_of (take m memories)

-- the cycle with these values of nets and these words; what an input port has is the value of its net
abbrev pub cycle_with : Netlist → List Word → List Word → Cycle
cycle_with netlist nets words = record {
  input = λ k. bits_at nets (input_net netlist.ports k);
  net = bits_at nets;
  cell = λ m address. bits_at words (place_of netlist.memories m + address);
}

-- the present cycle; before it is evaluated, it is registers and words alone that mean something
abbrev pub present : SimValue → Cycle
present sim = cycle_with sim.netlist sim.nets sim.words

-- the widths of values, and of the input ports in header order
abbrev pub widths_of : List Word → List ℕ
widths_of values = map (λ (value : Word). value.width) values

abbrev pub input_widths : List PortLine → List ℕ
input_widths ports = map (λ (port : PortLine). port.width) (filter (λ (port : PortLine). not port.output) ports)

-- one value of the right width for each input port, in header order
abbrev pub AreInputs : Netlist → List Word → Type 0
AreInputs netlist inputs = widths_of inputs ≡ input_widths netlist.ports

-- the bits that these values give input port k
abbrev pub given_to : Netlist → List Word → ℕ → ℕ
given_to netlist inputs k = bits_at inputs (input_net netlist.ports k)

-- each net has a value of its width
pub record AreNets (lines : List Line) (nets : List Word) : Type 0 where
  pub count : length nets ≡ length lines
  pub fit : (n : ℕ) (line : Line) (value : Word) → slice_get lines n ≡ Some line → slice_get nets n ≡ Some value
      → IsValue value line.width

-- each memory has its words, of its width
pub record AreWords (memories : List Memory) (words : List Word) : Type 0 where
  pub count : length words ≡ place_of memories (length memories)
  pub fit : (m : ℕ) (memory : Memory) → slice_get memories m ≡ Some memory → (address : ℕ) (value : Word)
      → address < size_of memory
      → slice_get words (place_of memories m + address) ≡ Some value → IsValue value memory.width

-- where the words of each memory begin
pub record ArePlaces (memories : List Memory) (places : List ℕ) : Type 0 where
  pub count : length places ≡ length memories
  pub is : (m : ℕ) → m < length memories → slice_get places m ≡ Some (place_of memories m)

-- what each simulator keeps
pub record IsSim (sim : SimValue) : Type 0 where
  pub is_module : IsModule sim.netlist
  pub nets : AreNets sim.netlist.lines sim.nets
  pub words : AreWords sim.netlist.memories sim.words
  pub valuation : sim.stepped ≡ true → IsValuation sim.netlist (present sim)
