use Rattle.std.proofs.Common.{◌+◌, refl}
use Rattle.routed_modules.proofs.InputPorts.{valid_port, word_port, is_input_at}
use Rattle.routed_modules.proofs.ends.word_at.Goals as goal

pub input-valid-requires : goal.input-valid-requires
input-valid-requires c = (1, valid_port c.args.builder.now c.args.place c.args.has c.requires.stands (c.args.place + 1) refl)

pub input-word-requires : goal.input-word-requires
input-word-requires c = (c.args.has.word, word_port c.args.builder.now c.args.place c.args.has c.requires.stands (c.args.place + 2) refl)

pub returns : goal.returns
returns c = record {
  valid = is_input_at c.args.builder.now (c.args.place + 1) 1 c.input-valid.result (valid_port c.args.builder.now c.args.place c.args.has c.requires.stands (c.args.place + 1) refl) c.input-valid.ensures.net c.input-valid.ensures.number
      c.input-valid.ensures.width (c.args.place + 1) refl;
  word = is_input_at c.args.builder.now (c.args.place + 2) c.args.has.word c.input-word.result (word_port c.args.builder.now c.args.place c.args.has c.requires.stands (c.args.place + 2) refl) c.input-word.ensures.net c.input-word.ensures.number
      c.input-word.ensures.width (c.args.place + 2) refl;
  channel = c.channel_at-channel.ensures;
}
