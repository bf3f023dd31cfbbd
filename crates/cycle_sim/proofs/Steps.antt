-- A step of a cycle: the inputs are taken, and then block after block is evaluated.
use Rattle.std.proofs.Common.{◌≡◌, ◌≢◌, ℕ, ◌+◌, ◌*◌, ◌<◌, ◌≤◌, Bool, true, List, length, slice_get, set, Some, inl, inr, refl, sym, subst, ap, ◌∙◌, arith}
use Rattle.std.proofs.lemmas.Bool.{false≢true}
use Rattle.std.proofs.lemmas.Option.{slice_get_within, same_Some}
use Rattle.av_base.specs.Word.{Word, IsWord}
use Rattle.netlist.specs.declared.line.Line.{Line}
use Rattle.netlist.specs.declared.line.Equation.{Equation}
use Rattle.netlist.specs.declared.line.Equation.TheVariants.{Input, Reg}
use Rattle.netlist.specs.Netlists.{Netlist, IsModule, IsInputPort, IsValue, is_input, is_register, input_net, line_of, width_at}
use Rattle.cycle_sim.specs.Sims.{AreInputs, AreNets, bits_at, given_to}
use Rattle.cycle_sim.specs.Given.{IsGiven}
use Rattle.cycle_sim.specs.Readers.{AreNetReaders, AreStale, StayStale, list_at}
use Rattle.cycle_sim.specs.Settled.{AreSettled, StateStays, is_state}
use Rattle.cycle_sim.proofs.Values.{split_more, width_at-line, bits_at-is, bits_at-set_same, bits_at-set_other}
use Rattle.cycle_sim.proofs.Inputs.{input_line, input_value, line_of_value}
use Rattle.cycle_sim.proofs.Evaluation.{set_net}
use Rattle.cycle_sim.proofs.Blocks.{same_or_other, stay_same, stay_further}
use Rattle.cycle_sim.proofs.Settling.{settled_state, settled_more}

-- inputs and registers are state
input_is_state : (e : Equation) → is_input e ≡ true → is_state e ≡ true
input_is_state (Input port) i = refl
input_is_state _ i = absurd (false≢true i)

pub register_is_state : (e : Equation) → is_register e ≡ true → is_state e ≡ true
register_is_state (Reg reset next) r = refl
register_is_state _ r = absurd (false≢true r)

input_no_register : (e : Equation) → is_input e ≡ true → is_register e ≡ true → ⊥
input_no_register (Input port) i r = absurd (false≢true r)
input_no_register _ i r = absurd (false≢true i)

-- ---- the inputs

-- each value stands for a net of its width
pub input_within : (b : Netlist) → IsModule b → (inputs : List Word) → AreInputs b inputs → (j : ℕ) → j < length inputs → j < length b.lines
input_within b h inputs given j lt = (let its = line_of_value b h inputs given j lt in slice_get_within b.lines j its.0 its.1)

pub input_width : (b : Netlist) → IsModule b → (inputs : List Word) → AreInputs b inputs → (j : ℕ) (value : Word) → slice_get inputs j ≡ Some value → (w : ℕ) → width_at b.lines j ≡ Some w → value.width ≡ w
input_width b h inputs given j value at w width =
    let its = line_of_value b h inputs given j (slice_get_within inputs j value at) in
    let stands = input_value b h inputs given j its.0 its.1 its.2 in
    let line = width_at-line b.lines j w width in
    ap (λ (x : Word). x.width) (same_Some _ _ (sym at ∙ stands.1)) ∙ stands.2 ∙ ap (λ (l : Line). l.width) (same_Some _ _ (sym its.1 ∙ line.1)) ∙ line.2

-- the first j input nets have their values
pub record AreInputsTaken (b : Netlist) (inputs before nets : List Word) (stale after : List Bool) (j : ℕ) : Type 0 where
  pub are_nets : AreNets b.lines nets
  pub stay : StayStale stale after
  pub settled : (words : List Word) → AreSettled b before words stale 0 → AreSettled b nets words after 0
  pub taken : (n : ℕ) → n < j → bits_at nets n ≡ bits_at inputs n
  pub registers : (n : ℕ) (line : Line) → slice_get b.lines n ≡ Some line → is_register line.equation ≡ true → bits_at nets n ≡ bits_at before n

pub inputs_none : (b : Netlist) (inputs nets : List Word) (stale : List Bool) → AreNets b.lines nets → AreInputsTaken b inputs nets nets stale stale 0
inputs_none b inputs nets stale h = record { are_nets = h; stay = stay_same stale; settled = λ words s. s; taken = λ n lt. absurd (omega arith); registers = λ n line at r. refl }

pub inputs_more : (b : Netlist) → IsModule b → (lists : List (List ℕ)) → AreNetReaders b lists (length b.lines) → (inputs before nets : List Word) → AreInputs b inputs → (stale then after : List Bool) (j : ℕ) (value : Word) →
    AreInputsTaken b inputs before nets stale then j → slice_get inputs j ≡ Some value → IsWord value.width value.bits → StayStale then after → (bits_at nets j ≢ value.bits → AreStale after (list_at lists j)) →
    AreInputsTaken b inputs before (set nets j value) stale after (j + 1)
inputs_more b h lists readers inputs before nets given stale then after j value t at word stay marks = record {
  are_nets = set_net b.lines nets j value t.are_nets (λ line there. fits line there);
  stay = stay_further stale then after t.stay stay;
  settled = λ words s. settled_state b lists readers words nets j value then after within (λ line there. input_is_state line.equation (is_one line there)) stay marks (t.settled words s);
  taken = λ n lt. elim (split_more n j lt) [
    | inl below ↦ bits_at-set_other nets j n value (λ e. omega arith) ∙ t.taken n below
    | inr e ↦ subst (λ m. bits_at (set nets j value) m ≡ bits_at inputs m) (sym e) (bits_at-set_same nets j value within ∙ sym (bits_at-is inputs j value at))
  ];
  registers = λ n line there r. elim (same_or_other n j) [
    | inl e ↦ absurd (input_no_register line.equation (is_one line (subst (λ m. slice_get b.lines m ≡ Some line) e there)) r)
    | inr d ↦ bits_at-set_other nets j n value d ∙ t.registers n line there r
  ];
} where
  its : (line : Line) × (slice_get b.lines j ≡ Some line) × (is_input line.equation ≡ true)
  its = line_of_value b h inputs given j (slice_get_within inputs j value at)

  within : j < length nets
  within = (let lt = slice_get_within b.lines j its.0 its.1 in let c = t.are_nets.count in omega arith)

  is_one : (line : Line) → slice_get b.lines j ≡ Some line → is_input line.equation ≡ true
  is_one line there = subst (λ (l : Line). is_input l.equation ≡ true) (same_Some _ _ (sym its.1 ∙ there)) its.2

  fits : (line : Line) → slice_get b.lines j ≡ Some line → IsValue value line.width
  fits line there =
      let stands = input_value b h inputs given j line there (is_one line there) in
      let same : stands.0 ≡ value = same_Some _ _ (sym stands.1 ∙ at) in
      record { word = word; width = ap (λ (x : Word). x.width) (sym same) ∙ stands.2 }

pub inputs_all : (b : Netlist) → IsModule b → (inputs before nets : List Word) → AreInputs b inputs → (stale after : List Bool) (j : ℕ) → length inputs ≤ j → AreInputsTaken b inputs before nets stale after j → (k w : ℕ) → IsInputPort b.ports k w →
    bits_at nets (input_net b.ports k) ≡ given_to b inputs k
inputs_all b h inputs before nets given stale after j all t k w i =
    let at = input_line b h k w i in
    let stands = input_value b h inputs given (input_net b.ports k) (line_of w (Input k)) at refl in
    t.taken (input_net b.ports k) (let lt = slice_get_within inputs (input_net b.ports k) stands.0 stands.1 in omega arith)

-- ---- a block

-- the nets below k are evaluated, and state is what it was
pub record IsEvaluatedIn (b : Netlist) (words before nets : List Word) (stale : List Bool) (k : ℕ) : Type 0 where
  pub are_nets : AreNets b.lines nets
  pub settled : AreSettled b nets words stale k
  pub state : StateStays b.lines before nets

pub evaluated_more : (b : Netlist) → IsModule b → (lists : List (List ℕ)) → AreNetReaders b lists (length b.lines) → (words before nets : List Word) (n : ℕ) (value : Word) (stale after : List Bool) → n < length b.lines →
    IsEvaluatedIn b words before nets stale n → IsWord value.width value.bits → ((line : Line) → slice_get b.lines n ≡ Some line → IsGiven b words nets n line value) → StayStale stale after →
    (bits_at nets n ≢ value.bits → AreStale after (list_at lists n)) → IsEvaluatedIn b words before (set nets n value) after (n + 1)
evaluated_more b h lists readers words before nets n value stale after within g word is stay marks = record {
  are_nets = set_net b.lines nets n value g.are_nets (λ line at. record { word = word; width = (is line at).width });
  settled = settled_more b h lists readers words nets n value stale after inside g.settled stay marks (λ line at i. (is line at).computed i);
  state = λ m line at s. elim (same_or_other m n) [
    | inl e ↦ (let there = subst (λ j. slice_get b.lines j ≡ Some line) e at in
        subst (λ j. bits_at (set nets n value) j ≡ bits_at before j) (sym e)
        (bits_at-set_same nets n value inside ∙ sym (bits_at-is nets n value ((is line there).state s)) ∙ g.state n line there s))
    | inr d ↦ bits_at-set_other nets n m value d ∙ g.state m line at s
  ];
} where
  inside : n < length nets
  inside = (let c = g.are_nets.count in omega arith)

-- ---- all blocks

-- the blocks below this one are evaluated, behind the inputs
pub record IsEvaluatedTo (b : Netlist) (inputs words before nets : List Word) (stale : List Bool) (block : ℕ) : Type 0 where
  pub are_nets : AreNets b.lines nets
  pub settled : AreSettled b nets words stale (block * 8)
  pub inputs_are : (k w : ℕ) → IsInputPort b.ports k w → bits_at nets (input_net b.ports k) ≡ given_to b inputs k
  pub registers : (n : ℕ) (line : Line) → slice_get b.lines n ≡ Some line → is_register line.equation ≡ true → bits_at nets n ≡ bits_at before n

-- the next is evaluated, or passed
pub evaluated_block : (b : Netlist) → IsModule b → (inputs words before nets later : List Word) (stale after : List Bool) (block : ℕ) → IsEvaluatedTo b inputs words before nets stale block → AreNets b.lines later → StateStays b.lines nets later →
    AreSettled b later words after (block * 8 + 8) → IsEvaluatedTo b inputs words before later after (block + 1)
evaluated_block b h inputs words before nets later stale after block g are_nets state settled = record {
  are_nets = are_nets;
  settled = subst (AreSettled b later words after) (let e : block * 8 + 8 ≡ (block + 1) * 8 = omega arith in e) settled;
  inputs_are = λ k w i. (let at = input_line b h k w i in state (input_net b.ports k) (line_of w (Input k)) at refl ∙ g.inputs_are k w i);
  registers = λ n line at r. state n line at (register_is_state line.equation r) ∙ g.registers n line at r;
}
