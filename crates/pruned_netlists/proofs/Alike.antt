-- Two runs of a module with the same inputs and the same first contents are the same.
use Rattle.std.proofs.Common.{◌≡◌, ℕ, zero, suc, ◌+◌, ◌^◌, ◌<◌, true, List, length, slice_get, Option, Some, None, refl, sym, subst, ◌∙◌, arith}
use Rattle.std.specs.Prelude.{IfSome}
use Rattle.netlist.specs.declared.line.Line.{Line}
use Rattle.netlist.specs.declared.line.Memory.{Memory}
use Rattle.netlist.specs.declared.line.MemWrite.{MemWrite}
use Rattle.netlist.specs.declared.line.Equation.{Equation}
use Rattle.netlist.specs.declared.line.Equation.TheVariants.{Reg}
use Rattle.netlist.specs.Netlists.{Netlist, IsModule, IsWellMade, IsWriteOf, width_at, is_register, next_in}
use Rattle.netlist.specs.Runs.{Cycle, Run, cycle_of, word_after, IsValuation, Steps, IsRun, reset_of, SameInputs, SameState, SameNets}
use Rattle.pruned_netlists.proofs.Sources.{not_waiting, next_is, width_within}

-- the law that no two valuations have the same inputs and state
abbrev pub Agree : Type 0
Agree = (netlist : Netlist) → IsWellMade netlist → (x y : Cycle) → IsValuation netlist x → IsValuation netlist y → SameInputs netlist x y → SameState netlist x y → SameNets netlist x y

same_resets : (e : Equation) (x y : ℕ) → is_register e ≡ true → IfSome (reset_of e) (λ v. x ≡ v) → IfSome (reset_of e) (λ v. y ≡ v) → x ≡ y
same_resets (Reg reset next) x y r h k = h ∙ sym k
same_resets _ x y r h k = cc

same_nexts : (lines : List Line) (before other : Cycle) (w x y : ℕ) (e : Equation) → ((n : ℕ) → n < length lines → before.net n ≡ other.net n) → IfSome (next_in e) (λ m. width_at lines m ≡ Some w) → is_register e ≡ true
    → IfSome (next_in e) (λ m. x ≡ before.net m) → IfSome (next_in e) (λ m. y ≡ other.net m) → x ≡ y
same_nexts lines before other w x y (Reg reset next) nets width r h k = h ∙ nets next (width_within lines next w width) ∙ sym k
same_nexts lines before other w x y _ nets width r h k = cc

same_words : (lines : List Line) (memory : Memory) (before other : Cycle) (m address x y : ℕ) (o : Option MemWrite) → ((n : ℕ) → n < length lines → before.net n ≡ other.net n) → before.cell m address ≡ other.cell m address
    → IfSome o (λ write. IsWriteOf lines memory write) → (o ≡ None → ⊥) → IfSome o (λ write. x ≡ word_after before write m address) → IfSome o (λ write. y ≡ word_after other write m address) → x ≡ y
same_words lines memory before other m address x y None nets cell sound some h k = absurd (some refl)
same_words lines memory before other m address x y (Some write) nets cell sound some h k =
    let enable = nets write.enable (width_within lines write.enable 1 sound.enable) in
    let place = nets write.address (width_within lines write.address memory.address_bits sound.address) in
    let word = nets write.word (width_within lines write.word memory.width sound.word) in
    h ∙ (rw (enable, place, word, cell) refl) ∙ sym k

-- two runs that begin alike
pub record BeginAlike (b : Netlist) (x y : Run) (cycles : ℕ) : Type 0 where
  pub one : IsRun b x cycles
  pub other : IsRun b y cycles
  pub inputs : (c : ℕ) → c < cycles → SameInputs b (cycle_of x c) (cycle_of y c)
  pub contents : 0 < cycles → (m : ℕ) (memory : Memory) → slice_get b.memories m ≡ Some memory → (address : ℕ) → address < 2 ^ memory.address_bits → x.cell 0 m address ≡ y.cell 0 m address

first_same : (b : Netlist) (x y : Run) (cycles : ℕ) → BeginAlike b x y cycles → 0 < cycles → SameState b (cycle_of x 0) (cycle_of y 0)
first_same b x y cycles h lt = record {
  registers = λ n line at is. same_resets line.equation (x.net 0 n) (y.net 0 n) is ((h.one.starts lt).registers n line at) ((h.other.starts lt).registers n line at);
  words = h.contents lt;
}

next_same : (b : Netlist) (before other after later : Cycle) → IsModule b → SameNets b before other → SameState b before other → Steps b before after → Steps b other later → SameState b after later
next_same b before other after later h nets state one two = record {
  registers = λ n line at is. (let next = next_is line (not_waiting b n line h at) in
      let sound = (h.well_made.lines n line at).next in
      same_nexts b.lines before other line.width (after.net n) (later.net n) line.equation nets (subst (λ (o : Option ℕ). IfSome o (λ m. width_at b.lines m ≡ Some line.width)) next sound) is
      (subst (λ (o : Option ℕ). IfSome o (λ m. after.net n ≡ before.net m)) next (one.registers n line at)) (subst (λ (o : Option ℕ). IfSome o (λ m. later.net n ≡ other.net m)) next (two.registers n line at)));
  words = λ m memory at address lt. same_words b.lines memory before other m address (after.cell m address) (later.cell m address) memory.write nets (state.words m memory at address lt)
      (h.well_made.memories m memory at).write (λ e. h.written m (record { memory = memory; is = at; waits = e })) (one.words m memory at address lt) (two.words m memory at address lt);
}

pub states_same : (b : Netlist) (x y : Run) (cycles c : ℕ) → IsModule b → Agree → BeginAlike b x y cycles → c < cycles → SameState b (cycle_of x c) (cycle_of y c)
states_same b x y cycles zero h agree alike lt = first_same b x y cycles alike lt
states_same b x y cycles (suc c) h agree alike lt =
    let below : c < cycles = omega arith in
    let state = states_same b x y cycles c h agree alike below in
    let nets = agree b h.well_made (cycle_of x c) (cycle_of y c) (alike.one.valuations c below) (alike.other.valuations c below) (alike.inputs c below) state in
    let next : c + 1 ≡ suc c = omega arith in
    let more : c + 1 < cycles = omega arith in
    subst (λ k. SameState b (cycle_of x k) (cycle_of y k)) next
    (next_same b (cycle_of x c) (cycle_of y c) (cycle_of x (c + 1)) (cycle_of y (c + 1)) h nets state (alike.one.steps c more) (alike.other.steps c more))

pub nets_same : (b : Netlist) (x y : Run) (cycles c : ℕ) → IsModule b → Agree → BeginAlike b x y cycles → c < cycles → SameNets b (cycle_of x c) (cycle_of y c)
nets_same b x y cycles c h agree alike lt =
    agree b h.well_made (cycle_of x c) (cycle_of y c) (alike.one.valuations c lt) (alike.other.valuations c lt) (alike.inputs c lt) (states_same b x y cycles c h agree alike lt)
