-- What changes how many symbols a beat has keeps the law of the stage that it is.
use Rattle.std.proofs.Common.{◌≡◌}
use Rattle.netlist.specs.Nets.{NetValue}
use Rattle.netlist.specs.Netlists.{Netlist}
use Rattle.stage_core.specs.declared.beat.BeatNets.{BeatNets}
use Rattle.st_format.specs.declared.narrow.Narrow.{Narrow}
use Rattle.st_format.specs.declared.narrow.NarrowKept.{NarrowKept}
use Rattle.st_format.specs.declared.widen.Widen.{Widen}
use Rattle.st_format.specs.declared.widen.WidenKept.{WidenKept}
use Rattle.st_format.specs.declared.resize.Resize.{Resize}
use Rattle.st_format.specs.declared.resize.Resize.TheVariants.{Equal, Cut, Join, Slide}
use Rattle.st_format.specs.declared.resize.ResizeKept.{ResizeKept}
use Rattle.st_format.specs.declared.resize.ResizeKept.TheVariants.{Straight, OfCut, OfJoin, OfSlide}
use Rattle.st_format.specs.NarrowNets.{NarrowKeeps, NarrowForward, NarrowBackward}
use Rattle.st_format.specs.WidenNets.{WidenKeeps, WidenForward, WidenBackward}
use Rattle.st_format.specs.ResizeNets.{ResizeKeeps, ResizeForward, ResizeBackward}
use Rattle.st_windows.specs.declared.window.Window.{Window}
use Rattle.st_windows.specs.declared.window.WindowKept.{WindowKept}
use Rattle.st_windows.specs.WindowNets.{WindowKeeps, WindowForward, WindowBackward}

-- ---- what is kept is of the stage that it is

pub cut_kept : (resize : Resize) (same : Narrow) (kept : NarrowKept) (netlist : Netlist) → ResizeKeeps resize (OfCut same kept) netlist → NarrowKeeps kept netlist
cut_kept (Cut stage) same kept netlist h = h.1
cut_kept _ same kept netlist h = absurd h

pub join_kept : (resize : Resize) (same : Widen) (kept : WidenKept) (netlist : Netlist) → ResizeKeeps resize (OfJoin same kept) netlist → WidenKeeps kept netlist
join_kept (Join stage) same kept netlist h = h.1
join_kept _ same kept netlist h = absurd h

pub slide_kept : (resize : Resize) (same : Window) (kept : WindowKept) (netlist : Netlist) → ResizeKeeps resize (OfSlide same kept) netlist → WindowKeeps kept netlist
slide_kept (Slide stage) same kept netlist h = h.1
slide_kept _ same kept netlist h = absurd h

-- ---- what follows from each stage's nets follows from those of the one that it is

module _ (from to : BeatNets) (ready up : NetValue) (netlist : Netlist) (P : Type 0) where
  pub when_equal : (to ≡ from → up ≡ ready → P) → (kept : ResizeKept) → ResizeForward Equal from to kept netlist → ResizeBackward Equal kept ready up netlist → P
  when_equal holds Straight f b = holds f b
  when_equal holds _ f b = absurd f

  pub when_cut : (stage : Narrow) → ((held : NarrowKept) → NarrowForward stage.sizes from to held netlist → NarrowBackward held ready up netlist → P) → (kept : ResizeKept) → ResizeForward (Cut stage) from to kept netlist → ResizeBackward (Cut stage) kept ready up netlist → P
  when_cut stage holds (OfCut same held) f b = holds held f b
  when_cut stage holds _ f b = absurd f

  pub when_joined : (stage : Widen) → ((held : WidenKept) → WidenForward stage from to held netlist → WidenBackward held ready up netlist → P) → (kept : ResizeKept) → ResizeForward (Join stage) from to kept netlist → ResizeBackward (Join stage) kept ready up netlist → P
  when_joined stage holds (OfJoin same held) f b = holds held f b
  when_joined stage holds _ f b = absurd f

  pub when_sliding : (stage : Window) → ((held : WindowKept) → WindowForward stage.sizes from to held netlist → WindowBackward held ready up netlist → P) → (kept : ResizeKept) → ResizeForward (Slide stage) from to kept netlist → ResizeBackward (Slide stage) kept ready up netlist → P
  when_sliding stage holds (OfSlide same held) f b = holds held f b
  when_sliding stage holds _ f b = absurd f
