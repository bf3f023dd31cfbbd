use Rattle.std.proofs.Common.{sym, subst}
use Rattle.std.specs.Prelude.{OnOk}
use Rattle.net_parts.specs.Growth.{WaitsWithout}
use Rattle.st_timing.specs.declared.timing.TimingKept.{TimingKept}
use Rattle.st_timing.specs.TimingNets.{timing_owns, TimingKeeps}
use Rattle.st_timing.proofs.TimingLaw.{buffer_kept, allowance_kept}
use Rattle.st_timing.proofs.timing.TimingStage.emit_backward.Goals as goal

pub emit_backward-requires-in-Buffered-clause-kept : goal.emit_backward-requires-in-Buffered-clause-kept
emit_backward-requires-in-Buffered-clause-kept c =
    buffer_kept c.args.self.now c.in-Buffered.kept c.args.builder.now c.new-in-Buffered.result.latency c.new-in-Buffered.ensures
    (subst (λ (kept : TimingKept). TimingKeeps c.args.self.now kept c.args.builder.now) c.in-Buffered.is c.requires.kept)

pub returns-in-Buffered-clause-no_more_wait : goal.returns-in-Buffered-clause-no_more_wait
returns-in-Buffered-clause-no_more_wait c =
    subst (λ (kept : TimingKept). OnOk c.emit_backward-in-Buffered.result (WaitsWithout (timing_owns kept) c.args.builder.now c.emit_backward-in-Buffered.new.builder)) (sym c.in-Buffered.is) c.emit_backward-in-Buffered.ensures.no_more_wait

pub emit_backward-requires-in-Allowed-clause-kept : goal.emit_backward-requires-in-Allowed-clause-kept
emit_backward-requires-in-Allowed-clause-kept c =
    allowance_kept c.args.self.now c.in-Allowed.kept c.args.builder.now (subst (λ (kept : TimingKept). TimingKeeps c.args.self.now kept c.args.builder.now) c.in-Allowed.is c.requires.kept)

pub returns-in-Allowed-clause-no_more_wait : goal.returns-in-Allowed-clause-no_more_wait
returns-in-Allowed-clause-no_more_wait c =
    subst (λ (kept : TimingKept). OnOk c.emit_backward-in-Allowed.result (WaitsWithout (timing_owns kept) c.args.builder.now c.emit_backward-in-Allowed.new.builder)) (sym c.in-Allowed.is) c.emit_backward-in-Allowed.ensures.no_more_wait
