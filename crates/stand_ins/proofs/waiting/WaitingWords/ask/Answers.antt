use Rattle.std.proofs.Common.{◌<◌, ◌≤◌, ◌+◌, subst, sym, arith}
use Rattle.circular_buffer.specs.Buffer.{Buffer}
use Rattle.memory_runs.specs.Sides.{agent_side}
use Rattle.stand_ins.specs.Steps.{levels_of}
use Rattle.stand_ins.specs.declared.waiting.Waiting.{Waiting}
use Rattle.stand_ins.specs.Codes.{code_at}
use Rattle.stand_ins.specs.Answers.{commands_among}
use Rattle.stand_ins.specs.Kept.{WaitingValue, FitRoom}
use Rattle.stand_ins.specs.Memory.{contents_of}
use Rattle.stand_ins.proofs.WaitingLemmas.{room_for, fits_more}
use Rattle.stand_ins.proofs.waiting.WaitingWords.ask.Goals as goal

pub push_words-requires-clause-room : goal.push_words-requires-clause-room
push_words-requires-clause-room c =
    let few : commands_among c.self.inside.words.items < c.self.inside.pending = subst (λ (v : WaitingValue). commands_among v.waiting < v.pending) (sym c.self.view_is) c.requires.few in
    let short : c.args.levels.now.count ≤ c.self.inside.longest = subst (λ (v : WaitingValue). c.args.levels.now.count ≤ v.longest) (sym c.self.view_is) c.requires.short in
    room_for c.self.inside.words.items c.self.inside.commands c.self.inside.longest c.self.inside.pending c.self.inside.words.capacity c.args.levels.now.count c.self.invariant
    (omega (arith, c.self.invariant.counted)) short

pub invariant_of-self : goal.invariant_of-self
invariant_of-self c =
    let few : commands_among c.self.inside.words.items < c.self.inside.pending = subst (λ (v : WaitingValue). commands_among v.waiting < v.pending) (sym c.self.view_is) c.requires.few in
    let short : c.args.levels.now.count ≤ c.self.inside.longest = subst (λ (v : WaitingValue). c.args.levels.now.count ≤ v.longest) (sym c.self.view_is) c.requires.short in
    subst (λ (words : Buffer Waiting). FitRoom words.items (c.self.inside.commands + 1) c.self.inside.longest c.self.inside.pending words.capacity) (sym c.push_words.ensures)
    (fits_more (agent_side c.args.port.now) (contents_of c.args.memory.now) (code_at (agent_side c.args.port.now) c.args.script.now) c.args.due (levels_of c.args.levels.now) c.self.inside.words.items c.self.inside.commands c.self.inside.longest c.self.inside.pending
    c.self.inside.words.capacity c.self.invariant (omega (arith, c.self.invariant.counted)) short (omega arith))
