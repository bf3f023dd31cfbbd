use Rattle.std.proofs.Common.{◌+◌, ◌-◌, ◌%◌, ◌^◌, ◌<◌, subst, if◌then◌else◌, sym, ap, ◌∙◌, arith}
use Rattle.net_parts.specs.Laws.{extends_twice, adds_twice, adds_fewer, net_lasts}
use Rattle.net_parts.specs.Refusing.{handed_on}
use Rattle.histories.specs.History.{is_raised, one_if}
use Rattle.command_nets.specs.Groups.{chosen_raised}
use Rattle.mm_split.proofs.answer.next_registers.Goals as goal

pub returns-in_err-place-clause-adds : goal.returns-in_err-place-clause-adds
returns-in_err-place-clause-adds c = adds_fewer _ _ _ _ (omega arith) c.step_on.ensures.adds

pub returns-in_err-place-clause-full : goal.returns-in_err-place-clause-full
returns-in_err-place-clause-full c e =
    let full = c.step_on.ensures.full (handed_on _ _ _ _ c.in_err-place.was c.from_residual.ensures.1 e) in
    omega (arith, full)

pub returns-in_err-set-clause-adds : goal.returns-in_err-set-clause-adds
returns-in_err-set-clause-adds c = adds_fewer _ _ _ _ (omega arith) (adds_twice _ _ _ _ _ c.step_on.ensures.adds c.emit_word.ensures.adds)

pub returns-in_err-set-clause-full : goal.returns-in_err-set-clause-full
returns-in_err-set-clause-full c e =
    let most0 = c.step_on.ensures.adds.most in
    let full = c.emit_word.ensures.full (handed_on _ _ _ _ c.in_err-set.was c.from_residual-in_err-set.ensures.1 e) in
    omega (arith, most0, full)

pub returns-in_err-reads_above-clause-adds : goal.returns-in_err-reads_above-clause-adds
returns-in_err-reads_above-clause-adds c = adds_fewer _ _ _ _ (omega arith) (adds_twice _ _ _ _ _ (adds_twice _ _ _ _ _ c.step_on.ensures.adds c.emit_word.ensures.adds) c.emit.ensures.adds)

pub returns-in_err-reads_above-clause-full : goal.returns-in_err-reads_above-clause-full
returns-in_err-reads_above-clause-full c e =
    let most0 = c.step_on.ensures.adds.most in
    let most1 = c.emit_word.ensures.adds.most in
    let full = c.emit.ensures.full (handed_on _ _ _ _ c.in_err-reads_above.was c.from_residual-in_err-reads_above.ensures.1 e) in
    omega (arith, most0, most1, full)

pub returns-in_err-reads-clause-adds : goal.returns-in_err-reads-clause-adds
returns-in_err-reads-clause-adds c = adds_fewer _ _ _ _ (omega arith) (adds_twice _ _ _ _ _ (adds_twice _ _ _ _ _ (adds_twice _ _ _ _ _ c.step_on.ensures.adds c.emit_word.ensures.adds) c.emit.ensures.adds) c.count_reads.ensures.adds)

pub returns-in_err-reads-clause-full : goal.returns-in_err-reads-clause-full
returns-in_err-reads-clause-full c e =
    let most0 = c.step_on.ensures.adds.most in
    let most1 = c.emit_word.ensures.adds.most in
    let most2 = c.emit.ensures.adds.most in
    let full = c.count_reads.ensures.full (handed_on _ _ _ _ c.in_err-reads.was c.from_residual-in_err-reads.ensures.1 e) in
    omega (arith, most0, most1, most2, full)

pub returns-in_err-come-clause-adds : goal.returns-in_err-come-clause-adds
returns-in_err-come-clause-adds c = adds_fewer _ _ _ _ (omega arith) (adds_twice _ _ _ _ _ (adds_twice _ _ _ _ _ (adds_twice _ _ _ _ _ (adds_twice _ _ _ _ _ c.step_on.ensures.adds c.emit_word.ensures.adds) c.emit.ensures.adds) c.count_reads.ensures.adds) c.step_on-2.ensures.adds)

pub returns-in_err-come-clause-full : goal.returns-in_err-come-clause-full
returns-in_err-come-clause-full c e =
    let most0 = c.step_on.ensures.adds.most in
    let most1 = c.emit_word.ensures.adds.most in
    let most2 = c.emit.ensures.adds.most in
    let most3 = c.count_reads.ensures.adds.most in
    let full = c.step_on-2.ensures.full (handed_on _ _ _ _ c.in_err-come.was c.from_residual-in_err-come.ensures.1 e) in
    omega (arith, most0, most1, most2, most3, full)

pub returns-in_err-word-clause-adds : goal.returns-in_err-word-clause-adds
returns-in_err-word-clause-adds c = adds_fewer _ _ _ _ (omega arith) (adds_twice _ _ _ _ _ (adds_twice _ _ _ _ _ (adds_twice _ _ _ _ _ (adds_twice _ _ _ _ _ (adds_twice _ _ _ _ _ c.step_on.ensures.adds c.emit_word.ensures.adds) c.emit.ensures.adds) c.count_reads.ensures.adds) c.step_on-2.ensures.adds) c.choose.ensures.adds)

pub returns-in_err-word-clause-full : goal.returns-in_err-word-clause-full
returns-in_err-word-clause-full c e =
    let most0 = c.step_on.ensures.adds.most in
    let most1 = c.emit_word.ensures.adds.most in
    let most2 = c.emit.ensures.adds.most in
    let most3 = c.count_reads.ensures.adds.most in
    let most4 = c.step_on-2.ensures.adds.most in
    let full = c.choose.ensures.full (handed_on _ _ _ _ c.in_err-word.was c.from_residual-in_err-word.ensures.1 e) in
    omega (arith, most0, most1, most2, most3, most4, full)

pub returns-in_err-code-clause-adds : goal.returns-in_err-code-clause-adds
returns-in_err-code-clause-adds c = adds_fewer _ _ _ _ (omega arith) (adds_twice _ _ _ _ _ (adds_twice _ _ _ _ _ (adds_twice _ _ _ _ _ (adds_twice _ _ _ _ _ (adds_twice _ _ _ _ _ (adds_twice _ _ _ _ _ c.step_on.ensures.adds c.emit_word.ensures.adds) c.emit.ensures.adds) c.count_reads.ensures.adds) c.step_on-2.ensures.adds) c.choose.ensures.adds) c.step.ensures.adds)

pub returns-in_err-code-clause-full : goal.returns-in_err-code-clause-full
returns-in_err-code-clause-full c e =
    let most0 = c.step_on.ensures.adds.most in
    let most1 = c.emit_word.ensures.adds.most in
    let most2 = c.emit.ensures.adds.most in
    let most3 = c.count_reads.ensures.adds.most in
    let most4 = c.step_on-2.ensures.adds.most in
    let most5 = c.choose.ensures.adds.most in
    let full = c.step.ensures.full (handed_on _ _ _ _ c.in_err-code.was c.from_residual-in_err-code.ensures.1 e) in
    omega (arith, most0, most1, most2, most3, most4, most5, full)

pub returns-clause-adds : goal.returns-clause-adds
returns-clause-adds c = adds_fewer _ _ _ _ (omega arith) (adds_twice _ _ _ _ _ (adds_twice _ _ _ _ _ (adds_twice _ _ _ _ _ (adds_twice _ _ _ _ _ (adds_twice _ _ _ _ _ (adds_twice _ _ _ _ _ c.step_on.ensures.adds c.emit_word.ensures.adds) c.emit.ensures.adds) c.count_reads.ensures.adds) c.step_on-2.ensures.adds) c.choose.ensures.adds) c.step.ensures.adds)

pub returns-clause-full : goal.returns-clause-full
returns-clause-full c e = cc

pub emit_word-requires : goal.emit_word-requires
emit_word-requires c =
    let e = c.step_on.ensures.adds.grows.extends in
    let asked = net_lasts _ _ _ _ e c.requires.part.asked in
    let set = net_lasts _ _ _ _ e c.requires.registers.set in
    ((net_lasts _ _ _ _ e c.requires.taken.below, net_lasts _ _ _ _ e c.requires.part.below.write), asked.is_net, set.is_net, asked.has_width ∙ sym set.has_width)

pub emit-requires : goal.emit-requires
emit-requires c =
    let e = (extends_twice _ _ _ c.step_on.ensures.adds.grows.extends c.emit_word.ensures.adds.grows.extends) in
    (net_lasts _ _ _ _ e c.requires.taken.above, net_lasts _ _ _ _ e c.requires.from.write)

pub count_reads-requires-clause-goes : goal.count_reads-requires-clause-goes
count_reads-requires-clause-goes c = net_lasts _ _ _ _ (extends_twice _ _ _ c.step_on.ensures.adds.grows.extends (extends_twice _ _ _ c.emit_word.ensures.adds.grows.extends c.emit.ensures.adds.grows.extends)) c.requires.valid

pub step_on-requires-2-clause-register : goal.step_on-requires-2-clause-register
step_on-requires-2-clause-register c = (extends_twice _ _ _ c.step_on.ensures.adds.grows.extends (extends_twice _ _ _ c.emit_word.ensures.adds.grows.extends (extends_twice _ _ _ c.emit.ensures.adds.grows.extends c.count_reads.ensures.adds.grows.extends))).nets _ _ c.requires.registers.come.is_net

pub step_on-requires-2-clause-moves : goal.step_on-requires-2-clause-moves
step_on-requires-2-clause-moves c = net_lasts _ _ _ _ (extends_twice _ _ _ c.step_on.ensures.adds.grows.extends (extends_twice _ _ _ c.emit_word.ensures.adds.grows.extends (extends_twice _ _ _ c.emit.ensures.adds.grows.extends c.count_reads.ensures.adds.grows.extends))) c.requires.arrives

pub step_on-requires-2-clause-clears : goal.step_on-requires-2-clause-clears
step_on-requires-2-clause-clears c = net_lasts _ _ _ _ (extends_twice _ _ _ c.step_on.ensures.adds.grows.extends (extends_twice _ _ _ c.emit_word.ensures.adds.grows.extends (extends_twice _ _ _ c.emit.ensures.adds.grows.extends c.count_reads.ensures.adds.grows.extends))) c.requires.valid

pub choose-requires-clause-bit : goal.choose-requires-clause-bit
choose-requires-clause-bit c = net_lasts _ _ _ _ (extends_twice _ _ _ c.step_on.ensures.adds.grows.extends (extends_twice _ _ _ c.emit_word.ensures.adds.grows.extends (extends_twice _ _ _ c.emit.ensures.adds.grows.extends (extends_twice _ _ _ c.count_reads.ensures.adds.grows.extends c.step_on-2.ensures.adds.grows.extends)))) c.requires.arrives

pub choose-requires-clause-one : goal.choose-requires-clause-one
choose-requires-clause-one c = (extends_twice _ _ _ c.step_on.ensures.adds.grows.extends (extends_twice _ _ _ c.emit_word.ensures.adds.grows.extends (extends_twice _ _ _ c.emit.ensures.adds.grows.extends (extends_twice _ _ _ c.count_reads.ensures.adds.grows.extends c.step_on-2.ensures.adds.grows.extends)))).nets _ _ c.requires.coming.low.is_net

pub choose-requires-clause-other : goal.choose-requires-clause-other
choose-requires-clause-other c = (extends_twice _ _ _ c.step_on.ensures.adds.grows.extends (extends_twice _ _ _ c.emit_word.ensures.adds.grows.extends (extends_twice _ _ _ c.emit.ensures.adds.grows.extends (extends_twice _ _ _ c.count_reads.ensures.adds.grows.extends c.step_on-2.ensures.adds.grows.extends)))).nets _ _ c.requires.registers.word.is_net

pub choose-requires-clause-widths : goal.choose-requires-clause-widths
choose-requires-clause-widths c = c.requires.coming.low.has_width ∙ sym c.requires.registers.word.has_width

pub step-requires-clause-register : goal.step-requires-clause-register
step-requires-clause-register c = (extends_twice _ _ _ c.step_on.ensures.adds.grows.extends (extends_twice _ _ _ c.emit_word.ensures.adds.grows.extends (extends_twice _ _ _ c.emit.ensures.adds.grows.extends (extends_twice _ _ _ c.count_reads.ensures.adds.grows.extends (extends_twice _ _ _ c.step_on-2.ensures.adds.grows.extends c.choose.ensures.adds.grows.extends))))).nets _ _ c.requires.registers.code.is_net

pub step-requires-clause-moves : goal.step-requires-clause-moves
step-requires-clause-moves c = net_lasts _ _ _ _ (extends_twice _ _ _ c.step_on.ensures.adds.grows.extends (extends_twice _ _ _ c.emit_word.ensures.adds.grows.extends (extends_twice _ _ _ c.emit.ensures.adds.grows.extends (extends_twice _ _ _ c.count_reads.ensures.adds.grows.extends (extends_twice _ _ _ c.step_on-2.ensures.adds.grows.extends c.choose.ensures.adds.grows.extends))))) c.requires.arrives

pub step-requires-clause-clears : goal.step-requires-clause-clears
step-requires-clause-clears c = net_lasts _ _ _ _ (extends_twice _ _ _ c.step_on.ensures.adds.grows.extends (extends_twice _ _ _ c.emit_word.ensures.adds.grows.extends (extends_twice _ _ _ c.emit.ensures.adds.grows.extends (extends_twice _ _ _ c.count_reads.ensures.adds.grows.extends (extends_twice _ _ _ c.step_on-2.ensures.adds.grows.extends c.choose.ensures.adds.grows.extends))))) c.requires.valid

pub step-requires-clause-next : goal.step-requires-clause-next
step-requires-clause-next c = let code = net_lasts _ _ _ _ (extends_twice _ _ _ c.step_on.ensures.adds.grows.extends (extends_twice _ _ _ c.emit_word.ensures.adds.grows.extends (extends_twice _ _ _ c.emit.ensures.adds.grows.extends (extends_twice _ _ _ c.count_reads.ensures.adds.grows.extends (extends_twice _ _ _ c.step_on-2.ensures.adds.grows.extends c.choose.ensures.adds.grows.extends))))) c.requires.coming.code in record { is_net = code.is_net; has_width = code.has_width ∙ sym c.requires.registers.code.has_width }

pub returns-clause-nets : goal.returns-clause-nets
returns-clause-nets c = record {
  place = record { is_net = (extends_twice _ _ _ c.emit_word.ensures.adds.grows.extends (extends_twice _ _ _ c.emit.ensures.adds.grows.extends (extends_twice _ _ _ c.count_reads.ensures.adds.grows.extends (extends_twice _ _ _ c.step_on-2.ensures.adds.grows.extends (extends_twice _ _ _ c.choose.ensures.adds.grows.extends c.step.ensures.adds.grows.extends))))).nets _ _ c.in_ok-place.ensures.net.is_net; has_width = c.in_ok-place.ensures.net.has_width ∙ c.requires.registers.place.has_width };
  set = record { is_net = (extends_twice _ _ _ c.emit.ensures.adds.grows.extends (extends_twice _ _ _ c.count_reads.ensures.adds.grows.extends (extends_twice _ _ _ c.step_on-2.ensures.adds.grows.extends (extends_twice _ _ _ c.choose.ensures.adds.grows.extends c.step.ensures.adds.grows.extends)))).nets _ _ c.in_ok-set.ensures.net.is_net; has_width = c.in_ok-set.ensures.net.has_width ∙ c.requires.part.asked.has_width };
  reads = net_lasts _ _ _ _ (extends_twice _ _ _ c.step_on-2.ensures.adds.grows.extends (extends_twice _ _ _ c.choose.ensures.adds.grows.extends c.step.ensures.adds.grows.extends)) c.in_ok-reads.ensures.net;
  come = record { is_net = (extends_twice _ _ _ c.choose.ensures.adds.grows.extends c.step.ensures.adds.grows.extends).nets _ _ c.in_ok-come.ensures.net.is_net; has_width = c.in_ok-come.ensures.net.has_width ∙ c.requires.registers.come.has_width };
  word = record { is_net = c.step.ensures.adds.grows.extends.nets _ _ c.in_ok-word.ensures.net.is_net; has_width = c.in_ok-word.ensures.net.has_width ∙ c.requires.coming.low.has_width };
  code = record { is_net = c.in_ok-code.ensures.net.is_net; has_width = c.in_ok-code.ensures.net.has_width ∙ c.requires.registers.code.has_width };
}

pub returns-clause-value : goal.returns-clause-value
returns-clause-value c cycle v =
    let v5 = c.step.ensures.adds.grows.extends.valuations cycle v in
    let v4 = c.choose.ensures.adds.grows.extends.valuations cycle v5 in
    let v3 = c.step_on-2.ensures.adds.grows.extends.valuations cycle v4 in
    let v2 = c.count_reads.ensures.adds.grows.extends.valuations cycle v3 in
    let v1 = c.emit.ensures.adds.grows.extends.valuations cycle v2 in
    let v0 = c.emit_word.ensures.adds.grows.extends.valuations cycle v1 in
    record {
      place = c.in_ok-place.ensures.value cycle v0
          ∙ ap (λ n. if is_raised (cycle.net c.args.taken.now.above.number) then 0 else if is_raised (cycle.net c.args.taken.now.below.number) then (cycle.net c.args.registers.now.place.number + 1) % 2 ^ n else cycle.net c.args.registers.now.place.number) c.requires.registers.place.has_width;
      set = c.in_ok-set.ensures.value cycle v1;
      reads = λ few. c.in_ok-reads.ensures.value cycle v3 (subst (λ b. cycle.net c.args.registers.now.reads.number + one_if b < 2 ^ c.args.sizes.now.room_bits) (sym (c.in_ok-reads_above.ensures.value cycle v2)) few) ∙ ap (λ b. (cycle.net c.args.registers.now.reads.number + one_if b) - one_if (is_raised (cycle.net c.args.valid.number))) (c.in_ok-reads_above.ensures.value cycle v2);
      come = c.in_ok-come.ensures.value cycle v4
          ∙ ap (λ n. if is_raised (cycle.net c.args.valid.number) then 0 else if is_raised (cycle.net c.args.arrives.number) then (cycle.net c.args.registers.now.come.number + 1) % 2 ^ n else cycle.net c.args.registers.now.come.number) c.requires.registers.come.has_width;
      word = c.in_ok-word.ensures.value cycle v5 ∙ chosen_raised (cycle.net c.args.arrives.number) (cycle.net c.args.coming.now.low.number) (cycle.net c.args.registers.now.word.number);
      code = c.in_ok-code.ensures.value cycle v;
    }
