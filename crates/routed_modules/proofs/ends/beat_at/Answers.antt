use Rattle.std.proofs.Common.{◌≡◌, ◌+◌, refl, ap, subst, ◌∙◌, arith}
use Rattle.std.specs.Option.{is_some}
use Rattle.histories.specs.History.{one_if}
use Rattle.net_parts.specs.Laws.{net_lasts}
use Rattle.routed_modules.specs.Ends.{IsInputIf, marks_at}
use Rattle.routed_modules.proofs.InputPorts.{valid_port, word_port, first_port, last_port, empty_port, is_input_at, input_lasts}
use Rattle.routed_modules.proofs.ends.beat_at.Goals as goal

pub input-valid-requires : goal.input-valid-requires
input-valid-requires c = (1, valid_port c.args.builder.now c.args.place c.args.has c.requires.stands (c.args.place + 1) refl)

pub input-word-requires : goal.input-word-requires
input-word-requires c = (c.args.has.word, word_port c.args.builder.now c.args.place c.args.has c.requires.stands (c.args.place + 2) refl)

pub input-first-requires : goal.input-first-requires
input-first-requires c =
    let one : c.one_if.result ≡ one_if (is_some c.args.has.channel) = c.one_if.ensures.value ∙ ap (λ b. one_if b) c.is_some.ensures in
    (1, first_port c.args.builder.now c.args.place c.args.has c.requires.stands (c.args.place + 3 + c.one_if.result) c.requires.packets (omega (arith, one)))

pub input-last-requires : goal.input-last-requires
input-last-requires c =
    let one : c.one_if.result ≡ one_if (is_some c.args.has.channel) = c.one_if.ensures.value ∙ ap (λ b. one_if b) c.is_some.ensures in
    (1, last_port c.args.builder.now c.args.place c.args.has c.requires.stands (c.args.place + 3 + c.one_if.result + 1) c.requires.packets (omega (arith, one)))

pub empty_at-requires : goal.empty_at-requires
empty_at-requires c width some =
    let one : c.one_if.result ≡ one_if (is_some c.args.has.channel) = c.one_if.ensures.value ∙ ap (λ b. one_if b) c.is_some.ensures in
    empty_port c.args.builder.now c.args.place c.args.has c.requires.stands (c.args.place + 3 + c.one_if.result + 2) width c.requires.packets some (omega (arith, one))

pub returns-clause-nets : goal.returns-clause-nets
returns-clause-nets c =
    let one : c.one_if.result ≡ one_if (is_some c.args.has.channel) = c.one_if.ensures.value ∙ ap (λ b. one_if b) c.is_some.ensures in
    let e = c.empty_at.ensures.adds.grows.extends in
    let n = c.args.builder.now in
    let p = c.args.place in
    let has = c.args.has in
    record {
      valid = net_lasts n _ c.input-valid.result 1 e (is_input_at n (p + 1) 1 c.input-valid.result (valid_port n p has c.requires.stands (p + 1) refl) c.input-valid.ensures.net c.input-valid.ensures.number c.input-valid.ensures.width (p + 1) refl).is;
      word = e.nets _ _ c.input-word.ensures.net;
      first = net_lasts n _ c.input-first.result 1 e
          (is_input_at n (p + 3 + c.one_if.result) 1 c.input-first.result (first_port n p has c.requires.stands (p + 3 + c.one_if.result) c.requires.packets (omega (arith, one))) c.input-first.ensures.net c.input-first.ensures.number
          c.input-first.ensures.width (p + 3 + c.one_if.result) refl).is;
      last = net_lasts n _ c.input-last.result 1 e
          (is_input_at n (p + 3 + c.one_if.result + 1) 1 c.input-last.result (last_port n p has c.requires.stands (p + 3 + c.one_if.result + 1) c.requires.packets (omega (arith, one))) c.input-last.ensures.net c.input-last.ensures.number
          c.input-last.ensures.width (p + 3 + c.one_if.result + 1) refl).is;
      empty = c.in_ok-empty.ensures.net;
    }

pub returns-clause-at : goal.returns-clause-at
returns-clause-at c =
    let one : c.one_if.result ≡ one_if (is_some c.args.has.channel) = c.one_if.ensures.value ∙ ap (λ b. one_if b) c.is_some.ensures in
    let e = c.empty_at.ensures.adds.grows.extends in
    let n = c.args.builder.now in
    let p = c.args.place in
    let has = c.args.has in
    record {
      valid = input_lasts n _ (p + 1) 1 c.input-valid.result e
          (is_input_at n (p + 1) 1 c.input-valid.result (valid_port n p has c.requires.stands (p + 1) refl) c.input-valid.ensures.net c.input-valid.ensures.number c.input-valid.ensures.width (p + 1) refl);
      word = input_lasts n _ (p + 2) has.word c.input-word.result e
          (is_input_at n (p + 2) has.word c.input-word.result (word_port n p has c.requires.stands (p + 2) refl) c.input-word.ensures.net c.input-word.ensures.number c.input-word.ensures.width (p + 2) refl);
      first = input_lasts n _ (p + marks_at has) 1 c.input-first.result e
          (is_input_at n (p + 3 + c.one_if.result) 1 c.input-first.result (first_port n p has c.requires.stands (p + 3 + c.one_if.result) c.requires.packets (omega (arith, one))) c.input-first.ensures.net c.input-first.ensures.number
          c.input-first.ensures.width (p + marks_at has) (omega (arith, one)));
      last = input_lasts n _ (p + marks_at has + 1) 1 c.input-last.result e
          (is_input_at n (p + 3 + c.one_if.result + 1) 1 c.input-last.result (last_port n p has c.requires.stands (p + 3 + c.one_if.result + 1) c.requires.packets (omega (arith, one))) c.input-last.ensures.net c.input-last.ensures.number
          c.input-last.ensures.width (p + marks_at has + 1) (omega (arith, one)));
      empty = subst (λ k. IsInputIf c.empty_at.new.builder k has.empty c.in_ok-empty.empty) (omega (arith, one)) c.in_ok-empty.ensures.at;
    }
