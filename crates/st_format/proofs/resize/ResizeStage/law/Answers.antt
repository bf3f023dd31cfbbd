use Rattle.std.proofs.Common.{subst}
use Rattle.stage_core.specs.Beats.{view_of}
use Rattle.stage_core.specs.Law.{KeepsShape, ReadyPasses}
use Rattle.stage_core.specs.Between.{pass_between}
use Rattle.st_format.specs.ResizeNets.{resize_has, resize_passes, ResizeForward, ResizeBackward}
use Rattle.st_format.proofs.ResizeLaw.{when_equal, when_cut, when_joined, when_sliding}
use Rattle.st_format.proofs.resize.ResizeStage.law.Goals as goal

pub returns-in-Equal-clause-keeps : goal.returns-in-Equal-clause-keeps
returns-in-Equal-clause-keeps c shape from to kept ready up netlist p f b run endless =
    when_equal from to ready up netlist (KeepsShape shape (view_of run from up) (view_of run to ready))
    (λ same same_ready. pass_between shape from to ready up run (subst (λ r. resize_has r shape) c.in-Equal.is p) same same_ready c.pass_is_a_stage.ensures.keeps)
    kept (subst (λ r. ResizeForward r from to kept netlist) c.in-Equal.is f) (subst (λ r. ResizeBackward r kept ready up netlist) c.in-Equal.is b)

pub returns-in-Cut-clause-keeps : goal.returns-in-Cut-clause-keeps
returns-in-Cut-clause-keeps c shape from to kept ready up netlist p f b run endless =
    when_cut from to ready up netlist (KeepsShape shape (view_of run from up) (view_of run to ready)) c.in-Cut.stage
    (λ held g h. c.law.ensures.keeps shape from to held ready up netlist (subst (λ r. resize_has r shape) c.in-Cut.is p) g h run endless)
    kept (subst (λ r. ResizeForward r from to kept netlist) c.in-Cut.is f) (subst (λ r. ResizeBackward r kept ready up netlist) c.in-Cut.is b)

pub returns-in-Join-clause-keeps : goal.returns-in-Join-clause-keeps
returns-in-Join-clause-keeps c shape from to kept ready up netlist p f b run endless =
    when_joined from to ready up netlist (KeepsShape shape (view_of run from up) (view_of run to ready)) c.in-Join.stage
    (λ held g h. c.law-in-Join.ensures.keeps shape from to held ready up netlist (subst (λ r. resize_has r shape) c.in-Join.is p) g h run endless)
    kept (subst (λ r. ResizeForward r from to kept netlist) c.in-Join.is f) (subst (λ r. ResizeBackward r kept ready up netlist) c.in-Join.is b)

pub returns-in-Join-clause-ready : goal.returns-in-Join-clause-ready
returns-in-Join-clause-ready c shape from to kept ready up netlist p f b run endless =
    when_joined from to ready up netlist (ReadyPasses shape (view_of run from up) (view_of run to ready)) c.in-Join.stage
    (λ held g h. c.law-in-Join.ensures.ready shape from to held ready up netlist (subst (λ r. resize_passes r shape) c.in-Join.is p) g h run endless)
    kept (subst (λ r. ResizeForward r from to kept netlist) c.in-Join.is f) (subst (λ r. ResizeBackward r kept ready up netlist) c.in-Join.is b)

pub returns-in-Slide-clause-keeps : goal.returns-in-Slide-clause-keeps
returns-in-Slide-clause-keeps c shape from to kept ready up netlist p f b run endless =
    when_sliding from to ready up netlist (KeepsShape shape (view_of run from up) (view_of run to ready)) c.in-Slide.stage
    (λ held g h. c.law-in-Slide.ensures.keeps shape from to held ready up netlist (subst (λ r. resize_has r shape) c.in-Slide.is p) g h run endless)
    kept (subst (λ r. ResizeForward r from to kept netlist) c.in-Slide.is f) (subst (λ r. ResizeBackward r kept ready up netlist) c.in-Slide.is b)
