use Rattle.std.proofs.Common.{◌≡◌, ℕ, ◌-◌, ◌<◌, ◌^◌, List, [], length, sym, ap, ◌∙◌, arith, length-append, ◌∷◌}
use Rattle.netlist.specs.declared.line.Memory.{Memory}
use Rattle.verilog_forms.specs.MemoryLines.{memory_form}
use Rattle.verilog_reader.specs.Spots.{found}
use Rattle.verilog_forms.specs.WholeTexts.{memories_form}
use Rattle.verilog_reader.proofs.SectionSteps.{leads_to, none_long, memories_begin, memories_on, no_memory_stands, late_memory_stands}
use Rattle.verilog_reader.proofs.sections.memories.Goals as goal

pub memory-init : goal.memory-init
memory-init c =
    let memories = c.new-memories.result.items in
    record {
      within = c.requires;
      few = none_long memories (2 ^ 16) c.new-memories.ensures.items;
      reads = λ most is. (memories_begin most memories c.args.bytes.now c.args.start c.new-memories.ensures.items);
    }

pub returns-then-len-eq-MOST_MEMORIES-clause-read : goal.returns-then-len-eq-MOST_MEMORIES-clause-read
returns-then-len-eq-MOST_MEMORIES-clause-read c = λ most is.
    let memories = c.memory.memories.items in
    let text = c.args.bytes.now in
    let spot = c.memory.spot in
    let m = length memories in
    let none : most - m ≡ 0 = omega (arith, is, c.len.ensures, c.if-len-eq-MOST_MEMORIES.true) in
    let line = sym c.is_memory_line.ensures ∙ c.memory-test.true in
    leads_to (memories_form most 0) text c.args.start memories (memories_form (most - m) m) spot c.late_memory.result (c.memory.invariant.reads most is) c.late_memory.ensures.within
    (late_memory_stands (most - m) m text spot none line ∙ c.late_memory.ensures.read [])

pub memory-preserved : goal.memory-preserved
memory-preserved c =
    let memories = c.memory.memories.items in
    let text = c.args.bytes.now in
    let x = c.memory_line-behind.result.0 in
    let fits : length memories < 2 ^ 16 = omega (arith, c.memory.invariant.few, c.len.ensures, c.if-len-eq-MOST_MEMORIES.false) in
    let pushed = c.in_ok-push.ensures.items in
    let line = sym c.is_memory_line.ensures ∙ c.memory-test.true in
    let same : length memories ≡ c.len-in-memory.result = omega (arith, c.len-in-memory.ensures) in
    let here = ap (λ (k : ℕ). found (memory_form k) text c.memory.spot) same ∙ c.memory_line-behind.ensures.read in
    record {
      within = c.memory_line-behind.ensures.within;
      few = omega (arith, fits, ap (λ (ms : List Memory). length ms) pushed, length-append memories (x ∷ []));
      reads = λ most is. (
          let room : length memories < most = omega (arith, fits, is) in
          memories_on most text c.args.start memories c.push.new.self.items c.memory.spot x c.memory_line-behind.result.1 c.memory.invariant.within c.memory_line-behind.ensures.within pushed room line here (c.memory.invariant.reads most is)
          );
    }

pub returns-clause-read : goal.returns-clause-read
returns-clause-read c = λ most is.
    let memories = c.memory.memories.items in
    let m = length memories in
    let line = sym c.is_memory_line.ensures ∙ c.memory-test.false in
    leads_to (memories_form most 0) c.args.bytes.now c.args.start memories (memories_form (most - m) m) c.memory.spot c.memory.spot (c.memory.invariant.reads most is) c.memory.invariant.within
    (no_memory_stands (most - m) m c.args.bytes.now c.memory.spot line)
