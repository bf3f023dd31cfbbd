use Rattle.std.proofs.Common.{ℕ, ◌≤◌, sym, subst, arith}
use Rattle.std.specs.Prelude.{Result, Ok, Err, OnOk}
use Rattle.netlist.specs.Nets.{NetValue}
use Rattle.netlist.specs.Netlists.{Netlist, WaitsForWrite}
use Rattle.net_parts.specs.Growth.{WriteWaitsWithout}
use Rattle.net_parts.specs.Laws.{if_ok}
use Rattle.net_parts.specs.Memories.{BackwardGrows, BackwardMemories, MemoriesSettle, backward_grown, memory_grows_fewer, memories_settle}
use Rattle.command_nets.specs.declared.nets.AnswerNets.{AnswerNets}
use Rattle.mm_width.specs.Links.{Width}
use Rattle.mm_width.specs.Kept.{WidthKept, WidthCommand, WidthAnswer, stores_width}
use Rattle.mm_width.specs.Widths.{AreBegunWidths, WidthInLonger, command_below}
use Rattle.mm_width.proofs.Machines.{AreLaws, machines_between}
use Rattle.mm_width.proofs.Numbers.{answers_of, memories_of, few_answers}
use Rattle.mm_width.proofs.Rows.{begun_last, begun_front}
use Rattle.mm_width.proofs.width.finish_width.Goals as goal

pub emit_answer-requires-clause-kept : goal.emit_answer-requires-clause-kept
emit_answer-requires-clause-kept c = (begun_last c.args.others.now c.args.one c.args.builder.now c.requires.begun).kept

-- what is told of a result that is there
on_each : {X E : Type 0} (r : Result X E) (P Q : Type 0) → (P → Q) → OnOk r P → OnOk r Q
on_each (Ok x) P Q f p = f p
on_each (Err e) P Q f p = tt

-- the memories of the links have their writes, and the others wait
settle : (width : Width) (kept : WidthKept) (old new : Netlist) → BackwardGrows (memories_of width) (answers_of width) old new → BackwardMemories (memories_of width) (stores_width kept) old new → MemoriesSettle (stores_width kept) old new
settle width kept old new grows written = memories_settle (memories_of width) (answers_of width) (stores_width kept) old new grows written

pub returns-clause-others : goal.returns-clause-others
returns-clause-others c =
    on_each c.emit_answer.result (BackwardMemories (memories_of c.args.one.link) (stores_width c.args.one.kept) c.args.builder.now c.emit_answer.new.builder) (AreBegunWidths c.args.others.now c.emit_answer.new.builder)
    (λ written. begun_front c.args.others.now c.args.one c.args.builder.now c.emit_answer.new.builder c.requires.begun (backward_grown _ _ _ _ c.emit_answer.ensures.grows).extends c.emit_answer.ensures.waits
    (settle c.args.one.link c.args.one.kept c.args.builder.now c.emit_answer.new.builder c.emit_answer.ensures.grows written).others) c.emit_answer.ensures.written

pub returns-clause-still_wait_for_write : goal.returns-clause-still_wait_for_write
returns-clause-still_wait_for_write c =
    on_each c.emit_answer.result (BackwardMemories (memories_of c.args.one.link) (stores_width c.args.one.kept) c.args.builder.now c.emit_answer.new.builder) ((m : ℕ) → ¬ stores_width c.args.one.kept m → WaitsForWrite c.args.builder.now m → WaitsForWrite c.emit_answer.new.builder m)
    (λ written. (settle c.args.one.link c.args.one.kept c.args.builder.now c.emit_answer.new.builder c.emit_answer.ensures.grows written).others) c.emit_answer.ensures.written

pub returns-clause-written : goal.returns-clause-written
returns-clause-written c =
    on_each c.emit_answer.result (BackwardMemories (memories_of c.args.one.link) (stores_width c.args.one.kept) c.args.builder.now c.emit_answer.new.builder) (WriteWaitsWithout (stores_width c.args.one.kept) c.args.builder.now c.emit_answer.new.builder)
    (λ written. (settle c.args.one.link c.args.one.kept c.args.builder.now c.emit_answer.new.builder c.emit_answer.ensures.grows written).settled) c.emit_answer.ensures.written

pub returns-clause-machine : goal.returns-clause-machine
returns-clause-machine c =
    let begun = begun_last c.args.others.now c.args.one c.args.builder.now c.requires.begun in
    let laws : AreLaws c.args.one.link = record { cut = c.law.ensures.machine; select = c.law-2.ensures.machine; gather = c.law-3.ensures.machine; split = c.law-4.ensures.machine; drop = c.law-5.ensures.machine } in
    if_ok c.emit_answer.result _
    (λ (p : NetValue × AnswerNets). WidthInLonger c.args.host.now c.args.agent.now c.emit_answer.new.builder c.args.one.from p.0 p.1 (command_below c.args.one.from c.args.one.to) c.args.wait c.args.answer)
    (λ p made. machines_between c.args.host.now c.args.agent.now c.args.stages c.requires.pair (subst AreLaws c.requires.link laws) c.args.one.from c.args.one.to c.args.one.kept c.args.wait c.args.answer p.0 p.1 c.args.builder.now c.emit_answer.new.builder c.requires.tag
    (subst (λ (width : Width). WidthCommand width c.args.one.from c.args.one.to c.args.one.kept c.args.builder.now) c.requires.link begun.made)
    (backward_grown _ _ _ _ c.emit_answer.ensures.grows).extends
    (subst (λ (width : Width). WidthAnswer width c.args.one.kept c.args.wait c.args.answer p.0 p.1 c.emit_answer.new.builder) c.requires.link made))
    c.emit_answer.ensures.made

pub returns-clause-grows : goal.returns-clause-grows
returns-clause-grows c =
    memory_grows_fewer _ _ _ _ _ _ (subst (λ (w : Width). answers_of w ≤ 310) (sym c.requires.link) (few_answers c.args.host.now c.args.agent.now c.args.stages)) (omega arith)
    (backward_grown (memories_of c.args.one.link) (answers_of c.args.one.link) c.args.builder.now c.emit_answer.new.builder c.emit_answer.ensures.grows)

pub returns-clause-full : goal.returns-clause-full
returns-clause-full c e =
    let few = subst (λ (w : Width). answers_of w ≤ 310) (sym c.requires.link) (few_answers c.args.host.now c.args.agent.now c.args.stages) in
    let full = c.emit_answer.ensures.full e in
    omega (arith, few, full)
