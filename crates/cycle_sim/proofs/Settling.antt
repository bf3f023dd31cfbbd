-- What stays settled when a value changes.
use Rattle.std.proofs.Common.{◌≡◌, ◌≢◌, ℕ, ◌+◌, ◌*◌, ◌<◌, Bool, true, false, List, length, slice_get, set, Option, Some, None, inl, inr, refl, sym, subst, ap, ◌∙◌, arith}
use Rattle.std.specs.Prelude.{IfSome}
use Rattle.std.proofs.lemmas.Bool.{cases_lt, ne_eqb, false≢true}
use Rattle.std.proofs.lemmas.List.{length-set}
use Rattle.std.proofs.lemmas.Option.{slice_get_within, same_Some}
use Rattle.av_base.specs.Word.{Word}
use Rattle.netlist.specs.declared.line.Line.{Line}
use Rattle.netlist.specs.declared.line.Memory.{Memory}
use Rattle.netlist.specs.declared.line.MemWrite.{MemWrite}
use Rattle.netlist.specs.declared.line.MemLine.{MemLine}
use Rattle.netlist.specs.declared.line.Equation.{Equation}
use Rattle.netlist.specs.declared.line.Equation.TheVariants.{Input, Reg, Read}
use Rattle.netlist.specs.Netlists.{Netlist, IsModule, IsSound, is_input, memory_of}
use Rattle.netlist.specs.Runs.{value_of, word_after}
use Rattle.cycle_sim.specs.Sims.{AreNets, bits_at, cycle_with, place_of}
use Rattle.cycle_sim.specs.Readers.{AreMemoryReaders, AreNetReaders, AreStale, Reads, StayStale, block_of, block_count, list_at}
use Rattle.cycle_sim.specs.Settled.{AreSettled, HasGiven, is_state}
use Rattle.cycle_sim.proofs.Values.{split_more, slice_get-set, bits_at-set_same, bits_at-set_other}
use Rattle.cycle_sim.proofs.Blocks.{block_ends, block_is, fresh_before, same_or_other, stay_further, stay_same}
use Rattle.cycle_sim.proofs.Evaluation.{line_sound, reads_below, value_same, value_same_words}
use Rattle.cycle_sim.proofs.Access.{operand_fits}
use Rattle.cycle_sim.proofs.Runs.{PutsWords}

-- before the first cycle each block is stale
pub settled_none : (b : Netlist) (nets words : List Word) (stale : List Bool) → length stale ≡ block_count b → ((block : ℕ) → block < length stale → slice_get stale block ≡ Some true) → AreSettled b nets words stale 0
settled_none b nets words stale count all = record {
  count = count;
  below = λ n line lt at i. absurd (omega arith);
  others = λ n line at i fresh. absurd (false≢true (same_Some _ _ (sym fresh ∙ all (block_of n) (slice_get_within stale (block_of n) false fresh))));
}

-- what a net of a block that isn't stale reads didn't change
unread : (b : Netlist) (lists : List (List ℕ)) → AreNetReaders b lists (length b.lines) → (nets : List Word) (k : ℕ) (value : Word) (after : List Bool) → k < length nets →
    (bits_at nets k ≢ value.bits → AreStale after (list_at lists k)) → (n : ℕ) (line : Line) → slice_get b.lines n ≡ Some line → slice_get after (block_of n) ≡ Some false →
    (m : ℕ) → Reads line.equation m → bits_at nets m ≡ bits_at (set nets k value) m
unread b lists readers nets k value after within marks n line at fresh m reads = elim (same_or_other m k) [
  | inr d ↦ sym (bits_at-set_other nets k m value d)
  | inl e ↦ elim (same_or_other (bits_at nets k) value.bits) [
    | inl same ↦ subst (λ j. bits_at nets j ≡ bits_at (set nets k value) j) (sym e) (same ∙ sym (bits_at-set_same nets k value within))
    | inr d ↦ absurd (false≢true (same_Some _ _ (sym fresh
        ∙ marks d (block_of n) (readers.each n k line (slice_get_within b.lines n line at) at (subst (Reads line.equation) e reads)))))
  ]
]

-- a net that has what its equation gives still has it
given_still : (b : Netlist) (words nets : List Word) (k : ℕ) (value : Word) (n : ℕ) (line : Line) → is_input line.equation ≡ false → n ≢ k → ((m : ℕ) → Reads line.equation m → bits_at nets m ≡ bits_at (set nets k value) m) →
    HasGiven b nets words n line → HasGiven b (set nets k value) words n line
given_still b words nets k value n line i apart same h =
    subst (λ (o : Option ℕ). IfSome o (λ x. bits_at (set nets k value) n ≡ x)) (value_same b words nets (set nets k value) line.width line.equation i same)
    (subst (λ y. IfSome (value_of b.lines (cycle_with b nets words) line.width line.equation) (λ x. y ≡ x)) (sym (bits_at-set_other nets k n value apart)) h)

-- net n is evaluated, and those below it are settled
pub settled_more : (b : Netlist) → IsModule b → (lists : List (List ℕ)) → AreNetReaders b lists (length b.lines) → (words nets : List Word) (n : ℕ) (value : Word) (stale after : List Bool) → n < length nets →
    AreSettled b nets words stale n → StayStale stale after → (bits_at nets n ≢ value.bits → AreStale after (list_at lists n)) →
    ((line : Line) → slice_get b.lines n ≡ Some line → is_input line.equation ≡ false → IfSome (value_of b.lines (cycle_with b nets words) line.width line.equation) (λ x. value.bits ≡ x)) →
    AreSettled b (set nets n value) words after (n + 1)
settled_more b is_module lists readers words nets n value stale after within h stay marks given = record {
  count = stay.count ∙ h.count;
  below = lower;
  others = λ m line at i fresh. elim (cases_lt m (n + 1)) [
    | inl lt ↦ lower m line lt at i
    | inr le ↦ given_still b words nets n value m line i (λ e. omega arith) (unread b lists readers nets n value after within marks m line at fresh) (h.others m line at i (fresh_before stale after (block_of m) stay fresh))
  ];
} where
  operands_stay : (m : ℕ) (line : Line) → m < n + 1 → slice_get b.lines m ≡ Some line → (a : ℕ) → Reads line.equation a → bits_at nets a ≡ bits_at (set nets n value) a
  operands_stay m line lt at a r = (let lower = reads_below b m line.width line.equation (line_sound b is_module m line at) a r in sym (bits_at-set_other nets n a value (λ e. omega arith)))

  lower : (m : ℕ) (line : Line) → m < n + 1 → slice_get b.lines m ≡ Some line → is_input line.equation ≡ false → HasGiven b (set nets n value) words m line
  lower m line lt at i = elim (split_more m n lt) [
    | inl below ↦ given_still b words nets n value m line i (λ e. omega arith) (operands_stay m line lt at) (h.below m line below at i)
    | inr e ↦ subst (λ (o : Option ℕ). IfSome o (λ x. bits_at (set nets n value) m ≡ x)) (value_same b words nets (set nets n value) line.width line.equation i (operands_stay m line lt at))
        (subst (λ y. IfSome (value_of b.lines (cycle_with b nets words) line.width line.equation) (λ x. y ≡ x)) (sym (ap (bits_at (set nets n value)) e ∙ bits_at-set_same nets n value within))
        (given line (subst (λ j. slice_get b.lines j ≡ Some line) e at) i))
  ]

-- an equation of state gives no value, inputs aside
state_gives : (b : Netlist) (nets words : List Word) (n : ℕ) (w : ℕ) (e : Equation) → is_state e ≡ true → is_input e ≡ false → IfSome (value_of b.lines (cycle_with b nets words) w e) (λ x. bits_at nets n ≡ x)
state_gives b nets words n w (Reg reset next) s i = tt
state_gives b nets words n w (Input port) s i = absurd (false≢true (sym i))
state_gives b nets words n w _ s i = absurd (false≢true s)

-- an input or a register takes a value
pub settled_state : (b : Netlist) → (lists : List (List ℕ)) → AreNetReaders b lists (length b.lines) → (words nets : List Word) (k : ℕ) (value : Word) (stale after : List Bool) → k < length nets →
    ((line : Line) → slice_get b.lines k ≡ Some line → is_state line.equation ≡ true) → StayStale stale after → (bits_at nets k ≢ value.bits → AreStale after (list_at lists k)) →
    AreSettled b nets words stale 0 → AreSettled b (set nets k value) words after 0
settled_state b lists readers words nets k value stale after within state stay marks h = record {
  count = stay.count ∙ h.count;
  below = λ n line lt at i. absurd (omega arith);
  others = λ n line at i fresh. elim (same_or_other n k) [
    | inl e ↦ state_gives b (set nets k value) words n line.width line.equation (state line (subst (λ j. slice_get b.lines j ≡ Some line) e at)) i
    | inr d ↦ given_still b words nets k value n line i d (unread b lists readers nets k value after within marks n line at fresh) (h.others n line at i (fresh_before stale after (block_of n) stay fresh))
  ];
}

-- ---- blocks

-- a block that isn't stale is passed
pub settled_pass : (b : Netlist) (nets words : List Word) (stale : List Bool) (block : ℕ) → slice_get stale block ≡ Some false → AreSettled b nets words stale (block * 8) → AreSettled b nets words stale (block * 8 + 8)
settled_pass b nets words stale block fresh h = record {
  count = h.count;
  below = λ n line lt at i. elim (cases_lt n (block * 8)) [
    | inl below ↦ h.below n line below at i
    | inr le ↦ h.others n line at i (ap (slice_get stale) (block_is n block le lt) ∙ fresh)
  ];
  others = h.others;
}

-- a block is evaluated to its end, and isn't stale any longer
pub settled_block : (b : Netlist) (nets words : List Word) (stale : List Bool) (block k : ℕ) → block < length stale → ((n : ℕ) → n < block * 8 + 8 → n < length b.lines → n < k) → AreSettled b nets words stale k →
    AreSettled b nets words (set stale block false) (block * 8 + 8)
settled_block b nets words stale block k within all h = record {
  count = length-set stale block false ∙ h.count;
  below = λ n line lt at i. h.below n line (all n lt (slice_get_within b.lines n line at)) at i;
  others = λ n line at i fresh. elim (slice_get-set stale block (block_of n) false false fresh) [
    | inl old ↦ h.others n line at i old
    | inr here ↦ h.below n line (all n (ends n here.0) (slice_get_within b.lines n line at)) at i
  ];
} where
  ends : (n : ℕ) → block_of n ≡ block → n < block * 8 + 8
  ends n e = (let lt = block_ends n in subst (λ j. n < j * 8 + 8) e lt)

-- those that were settled from the first net on are so from none on
pub settled_again : (b : Netlist) (nets words : List Word) (stale : List Bool) (k : ℕ) → AreSettled b nets words stale k → AreSettled b nets words stale 0
settled_again b nets words stale k h = record { count = h.count; below = λ n line lt at i. absurd (omega arith); others = h.others }

-- ---- memories

-- the blocks that read memory m are stale if it is written
abbrev pub WrittenIsStale : Netlist → List Word → List (List ℕ) → List Bool → ℕ → Memory → Type 0
WrittenIsStale b nets lists after m memory = IfSome memory.write (λ write. bits_at nets write.enable ≡ 1 → AreStale after (list_at lists m))

-- the blocks that read one of the first k memories are stale where it is written
pub record AreWrittenStale (b : Netlist) (nets : List Word) (lists : List (List ℕ)) (stale after : List Bool) (k : ℕ) : Type 0 where
  pub stay : StayStale stale after
  pub marked : (m : ℕ) (memory : Memory) → m < k → slice_get b.memories m ≡ Some memory → WrittenIsStale b nets lists after m memory

pub written_stale_none : (b : Netlist) (nets : List Word) (lists : List (List ℕ)) (stale : List Bool) → AreWrittenStale b nets lists stale stale 0
written_stale_none b nets lists stale = record { stay = stay_same stale; marked = λ m memory lt at. absurd (omega arith) }

-- one more memory, which is written or isn't
pub written_stale_more : (b : Netlist) (nets : List Word) (lists : List (List ℕ)) (stale then after : List Bool) (k : ℕ) (line : MemLine) → AreWrittenStale b nets lists stale then k → slice_get b.memories k ≡ Some (memory_of line) →
    StayStale then after → (bits_at nets line.enable ≡ 1 → AreStale after (list_at lists k)) → AreWrittenStale b nets lists stale after (k + 1)
written_stale_more b nets lists stale then after k line h its stay marks = record {
  stay = stay_further stale then after h.stay stay;
  marked = λ m memory lt at. elim (split_more m k lt) [
    | inl below ↦ still memory.write m (h.marked m memory below at)
    | inr e ↦ (let is : memory ≡ memory_of line = same_Some _ _ (sym (subst (λ j. slice_get b.memories j ≡ Some memory) e at) ∙ its) in
        subst (λ (x : Memory). IfSome x.write (λ write. bits_at nets write.enable ≡ 1 → AreStale after (list_at lists m))) (sym is)
        (λ on. subst (λ j. AreStale after (list_at lists j)) (sym e) (marks on)))
  ];
} where
  still : (o : Option MemWrite) (m : ℕ) → IfSome o (λ write. bits_at nets write.enable ≡ 1 → AreStale then (list_at lists m)) → IfSome o (λ write. bits_at nets write.enable ≡ 1 → AreStale after (list_at lists m))
  still None m x = tt
  still (Some write) m x = (λ on block l. stay.stay block (x on block l))

word_stays : (o : Option MemWrite) (b : Netlist) (nets words later : List Word) (m address : ℕ) (after : List Bool) (blocks : List ℕ) (block : ℕ) → (o ≡ None → ⊥) → slice_get after block ≡ Some false → (AreStale after blocks → slice_get after block ≡ Some true) →
    IfSome o (λ write. bits_at nets write.enable ≡ 1 → AreStale after blocks) → IfSome o (λ write. bits_at later (place_of b.memories m + address) ≡ word_after (cycle_with b nets words) write m address) →
    bits_at words (place_of b.memories m + address) ≡ bits_at later (place_of b.memories m + address)
word_stays None b nets words later m address after blocks block some fresh listed marks written = absurd (some refl)
word_stays (Some write) b nets words later m address after blocks block some fresh listed marks written = elim (same_or_other (bits_at nets write.enable) 1) [
  | inl on ↦ absurd (false≢true (same_Some _ _ (sym fresh ∙ listed (marks on))))
  | inr off ↦ (let kept : word_after (cycle_with b nets words) write m address ≡ bits_at words (place_of b.memories m + address) = rw (ne_eqb (bits_at nets write.enable) 1 off) refl in sym (written ∙ kept))
]

pub settled_written : (b : Netlist) → IsModule b → (lists : List (List ℕ)) → AreMemoryReaders b lists (length b.lines) → (nets words later : List Word) → AreNets b.lines nets → (stale after : List Bool) →
    AreWrittenStale b nets lists stale after (length b.memories) → PutsWords b nets words later → AreSettled b nets words stale 0 → AreSettled b nets later after 0
settled_written b is_module lists readers nets words later hn stale after marks puts h = record {
  count = marks.stay.count ∙ h.count;
  below = λ n line lt at i. absurd (omega arith);
  others = λ n line at i fresh.
      subst (λ (o : Option ℕ). IfSome o (λ x. bits_at nets n ≡ x)) (value_same_words b words later nets line.width line.equation (λ m a e. reads_same n line at fresh m a e)) (h.others n line at i (fresh_before stale after (block_of n) marks.stay fresh));
} where
  reads_same : (n : ℕ) (line : Line) → slice_get b.lines n ≡ Some line → slice_get after (block_of n) ≡ Some false → (m a : ℕ) → line.equation ≡ Read m a →
      bits_at words (place_of b.memories m + bits_at nets a) ≡ bits_at later (place_of b.memories m + bits_at nets a)
  reads_same n line at fresh m a e =
      let sound = subst (λ (q : Equation). IsSound b.ports b.memories b.lines n line.width q) e (line_sound b is_module n line at) in
      let fits = operand_fits b.lines nets a sound.memory.address_bits hn sound.address.width in
      word_stays sound.memory.write b nets words later m (bits_at nets a) after (list_at lists m) (block_of n)
      (λ none. is_module.written m (record { memory = sound.memory; is = sound.is; waits = none })) fresh
      (λ all. all (block_of n) (readers.each n m a line (slice_get_within b.lines n line at) at e))
      (marks.marked m sound.memory (slice_get_within b.memories m sound.memory sound.is) sound.is) (puts.written m sound.memory sound.is (bits_at nets a) fits)
