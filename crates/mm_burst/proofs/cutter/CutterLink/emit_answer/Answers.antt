use Rattle.std.proofs.Common.{◌^◌, sym, subst, ap, ap₂, ◌∙◌, arith, List, refl}
use Rattle.netlist.specs.Nets.{NetValue}
use Rattle.net_parts.specs.Groups.{InGroup, TakeAllNext, AreNets, AreWaiting, group_widths}
use Rattle.net_parts.specs.Laws.{net_lasts, grows_fewer, adds_grow, grows_twice, extends_twice}
use Rattle.command_nets.specs.Groups.{answer_lasts}
use Rattle.mm_burst.specs.Pieces.{registers_of, held_in, piece_in, behind_piece, registers_last, piece_lasts}
use Rattle.net_parts.specs.Refusing.{handed_on}
use Rattle.mm_burst.proofs.cutter.CutterLink.emit_answer.Goals as goal

pub returns-in_err-up-clause-grows : goal.returns-in_err-up-clause-grows
returns-in_err-up-clause-grows c = grows_fewer _ _ _ _ (omega arith) (adds_grow _ _ _ c.either.ensures.adds)

pub returns-in_err-up-clause-full : goal.returns-in_err-up-clause-full
returns-in_err-up-clause-full c e =
    let full = c.either.ensures.full (handed_on _ _ _ _ c.in_err-up.was c.from_residual.ensures.1 e) in
    omega (arith, full)

pub returns-in_err-taken-clause-grows : goal.returns-in_err-taken-clause-grows
returns-in_err-taken-clause-grows c = grows_fewer _ _ _ _ (omega arith) (grows_twice _ _ _ _ _ (adds_grow _ _ _ c.either.ensures.adds) (adds_grow _ _ _ c.unless.ensures.adds))

pub returns-in_err-taken-clause-full : goal.returns-in_err-taken-clause-full
returns-in_err-taken-clause-full c e =
    let most0 = c.either.ensures.adds.most in
    let full = c.unless.ensures.full (handed_on _ _ _ _ c.in_err-taken.was c.from_residual-in_err-taken.ensures.1 e) in
    omega (arith, most0, full)

pub returns-in_err-next-clause-grows : goal.returns-in_err-next-clause-grows
returns-in_err-next-clause-grows c = grows_fewer _ _ _ _ (omega arith) (grows_twice _ _ _ _ _ (grows_twice _ _ _ _ _ (adds_grow _ _ _ c.either.ensures.adds) (adds_grow _ _ _ c.unless.ensures.adds)) (adds_grow _ _ _ c.next_registers.ensures.adds))

pub returns-in_err-next-clause-full : goal.returns-in_err-next-clause-full
returns-in_err-next-clause-full c e =
    let most0 = c.either.ensures.adds.most in
    let most1 = c.unless.ensures.adds.most in
    let full = c.next_registers.ensures.full (handed_on _ _ _ _ c.in_err-next.was c.from_residual-in_err-next.ensures.1 e) in
    omega (arith, most0, most1, full)

pub returns-clause-grows : goal.returns-clause-grows
returns-clause-grows c = grows_fewer _ _ _ _ (omega arith) (grows_twice _ _ _ _ _ (grows_twice _ _ _ _ _ (grows_twice _ _ _ _ _ (adds_grow _ _ _ c.either.ensures.adds) (adds_grow _ _ _ c.unless.ensures.adds)) (adds_grow _ _ _ c.next_registers.ensures.adds)) c.set_all_next.ensures.grows)

pub returns-clause-full : goal.returns-clause-full
returns-clause-full c e = cc

pub next_registers-requires-clause-registers : goal.next_registers-requires-clause-registers
next_registers-requires-clause-registers c = registers_last _ _ _ (extends_twice _ _ _ c.either.ensures.adds.grows.extends c.unless.ensures.adds.grows.extends) c.requires.kept.registers

pub next_registers-requires-clause-piece : goal.next_registers-requires-clause-piece
next_registers-requires-clause-piece c = piece_lasts _ _ _ (extends_twice _ _ _ c.either.ensures.adds.grows.extends c.unless.ensures.adds.grows.extends) c.requires.kept.piece

pub next_registers-requires-clause-fits : goal.next_registers-requires-clause-fits
next_registers-requires-clause-fits c = c.requires.kept.fits

pub next_registers-requires-clause-taken : goal.next_registers-requires-clause-taken
next_registers-requires-clause-taken c = c.in_ok-taken.ensures.net

pub next_registers-requires-clause-within : goal.next_registers-requires-clause-within
next_registers-requires-clause-within c cycle v = c.requires.kept.within cycle (c.either.ensures.adds.grows.extends.valuations cycle (c.unless.ensures.adds.grows.extends.valuations cycle v))

pub next_registers-requires-clause-few : goal.next_registers-requires-clause-few
next_registers-requires-clause-few c =
    let count = c.requires.kept.count in
    let few = c.requires.kept.is.few in
    let lanes = c.lane_bits-lanes.ensures.few in
    omega (arith, count, few, lanes)

pub set_all_next-requires : goal.set_all_next-requires
set_all_next-requires c =
    let r = registers_last _ _ _ (extends_twice _ _ _ c.either.ensures.adds.grows.extends (extends_twice _ _ _ c.unless.ensures.adds.grows.extends c.next_registers.ensures.adds.grows.extends)) c.requires.kept.registers in
    let waits = c.requires.kept.waits in (
      omega arith,
      (
        subst (λ (group : List NetValue). AreNets c.next_registers.new.builder group) (sym c.group.ensures)
            (r.left, (r.next, (r.reads.is_net, (r.enables, (r.more.is_net, (r.tag, tt)))))),
        (
          subst (λ (group : List NetValue). AreWaiting c.next_registers.new.builder group) (sym c.group.ensures)
              (record { start = waits.start; numbers = waits.numbers; wait = λ n o. c.next_registers.ensures.adds.grows.waits n (c.unless.ensures.adds.grows.waits n (c.either.ensures.adds.grows.waits n (waits.wait n o))) }),
          (
            subst (λ (group : List NetValue). AreNets c.next_registers.new.builder group) (sym c.group-2.ensures) c.in_ok-next.ensures.nets,
            ap group_widths c.group.ensures ∙ c.in_ok-next.ensures.widths ∙ ap group_widths (sym c.group-2.ensures),
          ),
        ),
      ),
    )

pub returns-clause-wait : goal.returns-clause-wait
returns-clause-wait c = net_lasts _ _ _ _ (extends_twice _ _ _ c.unless.ensures.adds.grows.extends (extends_twice _ _ _ c.next_registers.ensures.adds.grows.extends c.set_all_next.ensures.grows.extends)) c.in_ok-up.ensures.net

pub returns-clause-answer : goal.returns-clause-answer
returns-clause-answer c =
    let answer = answer_lasts _ _ _ _ (extends_twice _ _ _ c.either.ensures.adds.grows.extends (extends_twice _ _ _ c.unless.ensures.adds.grows.extends (extends_twice _ _ _ c.next_registers.ensures.adds.grows.extends c.set_all_next.ensures.grows.extends))) c.requires.answer in
    record { valid = answer.valid; word = record { is_net = answer.word.is_net; has_width = c.requires.words }; code = answer.code }

pub returns-clause-made : goal.returns-clause-made
returns-clause-made c =
    record {
      waits = λ cycle v. (
          let v2 = c.set_all_next.ensures.grows.extends.valuations cycle v in
          let v1 = c.next_registers.ensures.adds.grows.extends.valuations cycle v2 in
          c.in_ok-up.ensures.value cycle (c.unless.ensures.adds.grows.extends.valuations cycle v1));
      back_is = refl;
      next = c.in_ok-next.next;
      next_is = λ cycle v. (
          let v2 = c.set_all_next.ensures.grows.extends.valuations cycle v in
          let v1 = c.next_registers.ensures.adds.grows.extends.valuations cycle v2 in
          c.in_ok-next.ensures.value cycle v2
          ∙ ap₂ (λ b t. behind_piece b (2 ^ c.args.kept.registers.next.width) (held_in cycle c.args.kept.registers) (piece_in cycle c.args.kept.piece) t) (sym c.lane_bits-lanes.ensures.power) (c.in_ok-taken.ensures.value cycle v1));
      takes = subst (λ (group : List NetValue). TakeAllNext c.set_all_next.new.builder group (registers_of c.in_ok-next.next)) c.group.ensures
          (subst (λ (next : List NetValue). TakeAllNext c.set_all_next.new.builder c.group.result next) c.group-2.ensures c.set_all_next.ensures.value);
    }

pub returns-clause-no_more_wait : goal.returns-clause-no_more_wait
returns-clause-no_more_wait c n w =
    let set = c.set_all_next.ensures.no_more_wait n w in
    (c.either.ensures.adds.grows.no_more_wait n (c.unless.ensures.adds.grows.no_more_wait n (c.next_registers.ensures.adds.grows.no_more_wait n set.0)), λ o. set.1 (subst (λ (group : List NetValue). InGroup group n) (sym c.group.ensures) o))

pub returns-in_err-up-clause-waits : goal.returns-in_err-up-clause-waits
returns-in_err-up-clause-waits c n apart w = c.either.ensures.adds.grows.waits n w

pub returns-in_err-taken-clause-waits : goal.returns-in_err-taken-clause-waits
returns-in_err-taken-clause-waits c n apart w = c.unless.ensures.adds.grows.waits n (c.either.ensures.adds.grows.waits n w)

pub returns-in_err-next-clause-waits : goal.returns-in_err-next-clause-waits
returns-in_err-next-clause-waits c n apart w = c.next_registers.ensures.adds.grows.waits n (c.unless.ensures.adds.grows.waits n (c.either.ensures.adds.grows.waits n w))

pub returns-clause-waits : goal.returns-clause-waits
returns-clause-waits c n apart w = c.set_all_next.ensures.still_wait n (λ o. apart (subst (λ (group : List NetValue). InGroup group n) c.group.ensures o)) (c.next_registers.ensures.adds.grows.waits n (c.unless.ensures.adds.grows.waits n (c.either.ensures.adds.grows.waits n w)))
