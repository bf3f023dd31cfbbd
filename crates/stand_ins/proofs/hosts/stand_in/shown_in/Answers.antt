use Rattle.std.proofs.Common.{length, ap, sym, ◌∙◌, arith, slice_index}
use Rattle.std.proofs.lemmas.List.{length-map}
use Rattle.stand_ins.specs.Steps.{write_beat}
use Rattle.stand_ins.proofs.hosts.Bounds.{few_beats}
use Rattle.stand_ins.proofs.hosts.Stepping.{shown_rest, shown_beat}
use Rattle.stand_ins.proofs.hosts.stand_in.shown_in.Goals as goal

pub write_beat-requires-clause-few : goal.write_beat-requires-clause-few
write_beat-requires-clause-few c =
    let fits = rw c.in-Write.is at c.requires.fits in
    omega (arith, few_beats c.args.port.now c.requires.bounded, fits.command.few, ap length c.as_slice.ensures)

pub returns-in-Idle : goal.returns-in-Idle
returns-in-Idle c = rw c.in-Idle.is (c.resting.ensures ∙ sym (shown_rest c.args.port.now c.in-Idle.cycles c.args.number))

pub returns-in-Write : goal.returns-in-Write
returns-in-Write c =
    let words = c.in-Write.words in
    let beat = write_beat c.args.port.now c.in-Write.address c.in-Write.enables in
    let within = rw c.in-Write.is at c.requires.within in
    rw c.in-Write.is (c.write_beat.ensures ∙ ap (λ words. beat (length words) (slice_index words c.args.number)) c.as_slice.ensures
    ∙ sym (shown_beat c.args.port.now (beat (length words)) words c.args.number (simp length-map at within)))
