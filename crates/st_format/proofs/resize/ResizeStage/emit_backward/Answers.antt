use Rattle.std.proofs.Common.{sym, subst}
use Rattle.std.specs.Prelude.{OnOk}
use Rattle.net_parts.specs.Growth.{WaitsWithout}
use Rattle.st_format.specs.ResizeNets.{resize_owns, ResizeKeeps}
use Rattle.st_format.proofs.ResizeLaw.{cut_kept, join_kept, slide_kept}
use Rattle.st_format.proofs.resize.ResizeStage.emit_backward.Goals as goal

pub emit_backward-requires-clause-kept : goal.emit_backward-requires-clause-kept
emit_backward-requires-clause-kept c = cut_kept c.args.self.now c.in-OfCut.stage c.in-OfCut.kept c.args.builder.now (subst (λ kept. ResizeKeeps c.args.self.now kept c.args.builder.now) c.in-OfCut.is c.requires.kept)

pub emit_backward-requires-in-OfJoin-clause-kept : goal.emit_backward-requires-in-OfJoin-clause-kept
emit_backward-requires-in-OfJoin-clause-kept c = join_kept c.args.self.now c.in-OfJoin.stage c.in-OfJoin.kept c.args.builder.now (subst (λ kept. ResizeKeeps c.args.self.now kept c.args.builder.now) c.in-OfJoin.is c.requires.kept)

pub emit_backward-requires-in-OfSlide-clause-kept : goal.emit_backward-requires-in-OfSlide-clause-kept
emit_backward-requires-in-OfSlide-clause-kept c = slide_kept c.args.self.now c.in-OfSlide.stage c.in-OfSlide.kept c.args.builder.now (subst (λ kept. ResizeKeeps c.args.self.now kept c.args.builder.now) c.in-OfSlide.is c.requires.kept)

pub returns-in-OfCut-clause-no_more_wait : goal.returns-in-OfCut-clause-no_more_wait
returns-in-OfCut-clause-no_more_wait c = subst (λ kept. OnOk c.emit_backward.result (WaitsWithout (resize_owns kept) c.args.builder.now c.emit_backward.new.builder)) (sym c.in-OfCut.is) c.emit_backward.ensures.no_more_wait

pub returns-in-OfJoin-clause-no_more_wait : goal.returns-in-OfJoin-clause-no_more_wait
returns-in-OfJoin-clause-no_more_wait c =
    subst (λ kept. OnOk c.emit_backward-in-OfJoin.result (WaitsWithout (resize_owns kept) c.args.builder.now c.emit_backward-in-OfJoin.new.builder)) (sym c.in-OfJoin.is) c.emit_backward-in-OfJoin.ensures.no_more_wait

pub returns-in-OfSlide-clause-no_more_wait : goal.returns-in-OfSlide-clause-no_more_wait
returns-in-OfSlide-clause-no_more_wait c =
    subst (λ kept. OnOk c.emit_backward-in-OfSlide.result (WaitsWithout (resize_owns kept) c.args.builder.now c.emit_backward-in-OfSlide.new.builder)) (sym c.in-OfSlide.is) c.emit_backward-in-OfSlide.ensures.no_more_wait
