use Rattle.std.proofs.Common.{◌≡◌, ◌+◌, ◌*◌, ◌%◌, ◌==◌, length, map, ap, ap₂, ◌∙◌, arith}
use Rattle.std.proofs.lemmas.List.{length-append, length-map}
use Rattle.std.proofs.Math.Nat.{add-mul-mod_self_right}
use Rattle.circular_buffer.specs.Buffer.{Buffer}
use Rattle.histories.specs.History.{numbers}
use Rattle.memory_runs.specs.Commands.{byte_address}
use Rattle.memory_runs.specs.Sides.{agent_side}
use Rattle.stand_ins.specs.Steps.{levels_of}
use Rattle.stand_ins.specs.declared.waiting.Waiting.{Waiting}
use Rattle.stand_ins.specs.Contents.{word_at}
use Rattle.stand_ins.specs.Codes.{code_at}
use Rattle.stand_ins.specs.Answers.{asked_word}
use Rattle.stand_ins.specs.Memory.{contents_of}
use Rattle.stand_ins.proofs.Bytes.{on_ok}
use Rattle.stand_ins.proofs.WaitingLemmas.{length_numbers, pushed_more}
use Rattle.stand_ins.proofs.waiting.push_words.Goals as goal

pub word_at-requires-clause-whole : goal.word_at-requires-clause-whole
word_at-requires-clause-whole c =
    let n = c.args.port.now.word_bytes in
    let first = c.byte_address-first.result in
    ap (λ b. (first + c.from.result * b) % n) c.from-in-words.ensures ∙ add-mul-mod_self_right first c.from.result n ∙ c.byte_address-first.ensures.whole

pub code_at-requires-clause-whole : goal.code_at-requires-clause-whole
code_at-requires-clause-whole c =
    let n = c.args.port.now.word_bytes in
    let first = c.byte_address-first.result in
    ap (λ b. (first + c.from.result * b) % n) c.from-in-words.ensures ∙ add-mul-mod_self_right first c.from.result n ∙ c.byte_address-first.ensures.whole

pub words-preserved : goal.words-preserved
words-preserved c =
    let side = agent_side c.args.port.now in
    let contents = contents_of c.args.memory.now in
    let levels = levels_of c.args.levels.now in
    let number = c.words.number in
    let codes = code_at side c.args.script.now in
    let word = asked_word side contents codes c.args.due levels in
    let old = c.args.words.now.items in
    let long : length c.words.words.items ≡ length old + number =
    ap length c.words.invariant.pushed ∙ length-append old (map word (numbers 0 number)) ∙ ap (λ n. length old + n) (length-map (numbers 0 number) word ∙ length_numbers 0 number) in
    let pushed = on_ok c.try_push_back.result _ (c.try_push_back.ensures.variant.1 (omega (arith, c.words.invariant.room))) c.try_push_back.ensures.ok in
    let first = byte_address side.shape levels.address in
    let address : c.byte_address-first.result + c.from.result * c.from-in-words.result ≡ first + number * c.args.port.now.word_bytes =
    ap (λ a. a + c.from.result * c.from-in-words.result) c.byte_address-first.ensures.value
    ∙ ap (λ n. first + n * c.from-in-words.result) c.from.ensures
    ∙ ap (λ b. first + number * b) c.from-in-words.ensures in
    let is : record { word = c.word_at.result; code = c.code_at.result; due = c.args.due; last = number + 1 == levels.count } ≡ word number =
    ap₂ (λ w k. let one : Waiting = record { word = w; code = k; due = c.args.due; last = number + 1 == levels.count } in one)
    (c.word_at.ensures ∙ ap (word_at side contents) address) (c.code_at.ensures ∙ ap codes address) in
    record {
      room = ap (λ (b : Buffer Waiting). b.capacity) pushed ∙ c.words.invariant.room;
      pushed = ap (λ (b : Buffer Waiting). b.items) pushed ∙ pushed_more word old c.words.words.items _ number c.words.invariant.pushed is;
    }
