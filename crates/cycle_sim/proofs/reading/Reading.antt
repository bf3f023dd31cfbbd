-- Which blocks read a net, or a memory: lists that grow net by net.
use Rattle.std.proofs.Common.{◌≡◌, ℕ, ◌+◌, ◌<◌, List, [], length, slice_get, replicate, Option, Some, None, ◌⊎◌, inl, inr, sym, subst, ◌∙◌, arith}
use Rattle.std.proofs.lemmas.List.{length-replicate}
use Rattle.netlist.specs.declared.line.Line.{Line}
use Rattle.netlist.specs.declared.line.Equation.{Equation}
use Rattle.netlist.specs.declared.line.Equation.TheVariants.{Read}
use Rattle.netlist.specs.Netlists.{Netlist, IsModule, HasWidth, line_of}
use Rattle.cycle_sim.specs.declared.reading.readers.Operands.{Operands}
use Rattle.cycle_sim.specs.Readers.{AreNetReaders, AreMemoryReaders, HasBesides, IsListed, is_among, block_of, block_count, list_at, operands_of}
use Rattle.cycle_sim.proofs.reading.Values.{split_more}
use Rattle.cycle_sim.proofs.reading.Lines.{here, reads_below}
use Rattle.cycle_sim.proofs.reading.Blocks.{none_listed, block_within}

pub no_net_readers : (b : Netlist) → AreNetReaders b (replicate (length b.lines) []) 0
no_net_readers b = record {
  count = length-replicate (length b.lines) [];
  each = λ n a line lt at r. absurd (omega arith);
  inside = λ a block l. absurd (none_listed (length b.lines) a block l);
}

pub no_memory_readers : (b : Netlist) → AreMemoryReaders b (replicate (length b.memories) []) 0
no_memory_readers b = record {
  count = length-replicate (length b.memories) [];
  each = λ n m a line lt at e. absurd (omega arith);
  inside = λ m block l. absurd (none_listed (length b.memories) m block l);
}

-- three lists have a block besides
pub record HaveBesides (lists after : List (List ℕ)) (o : Operands) (block : ℕ) : Type 0 where
  pub count : length after ≡ length lists
  pub keeps : (n other : ℕ) → IsListed (list_at lists n) other → IsListed (list_at after n) other
  pub have : (a : ℕ) → is_among (Some o) a → IsListed (list_at after a) block
  pub only : (n other : ℕ) → IsListed (list_at after n) other → IsListed (list_at lists n) other ⊎ (other ≡ block)

pub three_besides : (lists one two three : List (List ℕ)) (o : Operands) (block : ℕ) → HasBesides lists one o.first block → HasBesides one two o.second block → HasBesides two three o.third block → HaveBesides lists three o block
three_besides lists one two three o block h k l = record {
  count = l.count ∙ k.count ∙ h.count;
  keeps = λ n other x. l.keeps n other (k.keeps n other (h.keeps n other x));
  have = λ a among. elim among [
    | inl e ↦ subst (λ m. IsListed (list_at three m) block) (sym e) (l.keeps o.first block (k.keeps o.first block h.has))
    | inr among2 ↦ elim among2 [
      | inl e ↦ subst (λ m. IsListed (list_at three m) block) (sym e) (l.keeps o.second block k.has)
      | inr e ↦ subst (λ m. IsListed (list_at three m) block) (sym e) l.has
    ]
  ];
  only = λ n other x. elim (l.only n other x) [
    | inl y ↦ elim (k.only n other y) [ inl z ↦ h.only n other z | inr e ↦ inr e ]
    | inr e ↦ inr e
  ];
}

-- what the next net reads stands in the list
pub operand_within : (b : Netlist) → IsModule b → (k : ℕ) → k < length b.lines → (e : Equation) → ((w : ℕ) → HasWidth b k w → slice_get b.lines k ≡ Some (line_of w e)) → (o : Operands) → operands_of e ≡ Some o →
    (a : ℕ) → is_among (Some o) a → a < length b.lines
operand_within b is_module k within e is o reads a among =
    let h = here b k e is_module within is in
    let lower = reads_below b k h.width e h.sound a (subst (λ (os : Option Operands). is_among os a) (sym reads) among) in
    omega arith

-- the next net reads these
pub net_reads : (b : Netlist) (lists after : List (List ℕ)) (k : ℕ) (o : Operands) → k < length b.lines → AreNetReaders b lists k → HaveBesides lists after o (block_of k) →
    ((line : Line) → slice_get b.lines k ≡ Some line → operands_of line.equation ≡ Some o) → AreNetReaders b after (k + 1)
net_reads b lists after k o within h more its = record {
  count = more.count ∙ h.count;
  each = λ n a line lt at r. elim (split_more n k lt) [
    | inl below ↦ more.keeps a (block_of n) (h.each n a line below at r)
    | inr e ↦ subst (λ m. IsListed (list_at after a) (block_of m)) (sym e) (more.have a (subst (λ (os : Option Operands). is_among os a) (its line (subst (λ m. slice_get b.lines m ≡ Some line) e at)) r))
  ];
  inside = λ a block l. elim (more.only a block l) [ inl old ↦ h.inside a block old | inr e ↦ subst (λ x. x < block_count b) (sym e) (block_within k (length b.lines) within) ];
}

-- or none
pub net_reads_none : (b : Netlist) (lists : List (List ℕ)) (k : ℕ) → AreNetReaders b lists k → ((line : Line) → slice_get b.lines k ≡ Some line → operands_of line.equation ≡ None) → AreNetReaders b lists (k + 1)
net_reads_none b lists k h its = record {
  count = h.count;
  each = λ n a line lt at r. elim (split_more n k lt) [
    | inl below ↦ h.each n a line below at r
    | inr e ↦ absurd (subst (λ (os : Option Operands). is_among os a) (its line (subst (λ m. slice_get b.lines m ≡ Some line) e at)) r)
  ];
  inside = h.inside;
}

-- the next net reads a word of this memory
pub memory_read : (b : Netlist) (lists after : List (List ℕ)) (k memory address : ℕ) → k < length b.lines → AreMemoryReaders b lists k → HasBesides lists after memory (block_of k) →
    ((line : Line) → slice_get b.lines k ≡ Some line → line.equation ≡ Read memory address) → AreMemoryReaders b after (k + 1)
memory_read b lists after k memory address within h more its = record {
  count = more.count ∙ h.count;
  each = λ n m a line lt at r. elim (split_more n k lt) [
    | inl below ↦ more.keeps m (block_of n) (h.each n m a line below at r)
    | inr e ↦ (let is : Read memory address ≡ Read m a = sym (its line (subst (λ j. slice_get b.lines j ≡ Some line) e at)) ∙ r in
        let same : memory ≡ m = cc in
        subst (λ j. IsListed (list_at after m) (block_of j)) (sym e) (subst (λ j. IsListed (list_at after j) (block_of k)) same more.has))
  ];
  inside = λ m block l. elim (more.only m block l) [ inl old ↦ h.inside m block old | inr e ↦ subst (λ x. x < block_count b) (sym e) (block_within k (length b.lines) within) ];
}

-- or of none
pub memory_read_none : (b : Netlist) (lists : List (List ℕ)) (k : ℕ) → AreMemoryReaders b lists k → ((line : Line) (m a : ℕ) → slice_get b.lines k ≡ Some line → line.equation ≡ Read m a → ⊥) → AreMemoryReaders b lists (k + 1)
memory_read_none b lists k h none = record {
  count = h.count;
  each = λ n m a line lt at r. elim (split_more n k lt) [
    | inl below ↦ h.each n m a line below at r
    | inr e ↦ absurd (none line m a (subst (λ j. slice_get b.lines j ≡ Some line) e at) r)
  ];
  inside = h.inside;
}
