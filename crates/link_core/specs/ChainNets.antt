-- Two links, one behind the other.
use Rattle.std.specs.Prelude.{◌≡◌, ◌<◌, ℕ}
use Rattle.netlist.specs.Nets.{NetValue}
use Rattle.netlist.specs.Netlists.{Netlist}
use Rattle.command_nets.specs.declared.nets.AnswerNets.{AnswerNets}
use Rattle.link_core.specs.Form.{Form, FormsFit, form_of_chain}

-- the form is that of a chain of a part with one of these forms and a part with one of those
pub record IsChainOf (firsts seconds : Form → Type 0) (form : Form) : Type 0 where
  pub first : Form
  pub second : Form
  pub is : form ≡ form_of_chain first second
  pub fit : FormsFit first second
  pub first_has : firsts first
  pub second_has : seconds second

-- both parts have a law by which they are straight, and all words are those of the agent
pub record IsStraightChainOf (firsts seconds : Form → Type 0) (form : Form) : Type 0 where
  pub chain : IsChainOf firsts seconds form
  pub some : 0 < chain.first.up.word_bytes
  pub agent : chain.first.link.target.shape.word_bytes ≡ chain.first.up.word_bytes
  pub between : chain.first.down.word_bytes ≡ chain.first.up.word_bytes

-- both parts are kept, and their registers and memories are apart
pub record AreBothKept (one two : Netlist → Type 0) (ones twos one_memories two_memories : ℕ → Type 0)
    (netlist : Netlist) : Type 0 where
  pub first : one netlist
  pub second : two netlist
  pub apart : (n : ℕ) → ones n → ¬ twos n
  pub memories_apart : (m : ℕ) → one_memories m → ¬ two_memories m

-- between the two parts there is something that the first leads to and the second starts from
pub record HasMiddle {X : Type 0} (before behind : X → Type 0) : Type 0 where
  pub middle : X
  pub first : before middle
  pub second : behind middle

-- and a wait and an answer that the second leads to and the first starts from
pub record HasMiddleAnswer (before behind : NetValue → AnswerNets → Type 0) : Type 0 where
  pub wait : NetValue
  pub answer : AnswerNets
  pub first : before wait answer
  pub second : behind wait answer
