-- What changes how many symbols a beat has, and what its two calls leave in a netlist.
use Rattle.std.specs.Prelude.{◌≡◌, ℕ, ◌+◌, ◌*◌, ◌%◌, ◌≤◌, Bool, true, false}
use Rattle.netlist.specs.Nets.{NetValue}
use Rattle.netlist.specs.Netlists.{Netlist, IsWaiting}
use Rattle.netlist.specs.Longer.{Extends}
use Rattle.stream_machines.specs.Stage.{Shape}
use Rattle.stage_core.specs.declared.beat.BeatNets.{BeatNets}
use Rattle.stage_core.specs.Beats.{Widths}
use Rattle.stage_core.specs.Groups.{IsOfBeat}
use Rattle.stage_core.specs.PassNets.{IsPassShape}
use Rattle.st_format.specs.declared.resize.Resize.{Resize}
use Rattle.st_format.specs.declared.resize.Resize.TheVariants.{Equal, Cut, Join, Slide}
use Rattle.st_format.specs.declared.resize.ResizeKept.{ResizeKept}
use Rattle.st_format.specs.declared.resize.ResizeKept.TheVariants.{Straight, OfCut, OfJoin, OfSlide}
use Rattle.st_format.specs.NarrowNets.{IsNarrowShape, NarrowKeeps, NarrowForward, NarrowBackward}
use Rattle.st_format.specs.NarrowNets as narrows
use Rattle.st_format.specs.WidenNets.{IsWidenShape, WidenKeeps, WidenForward, WidenBackward}
use Rattle.st_format.specs.WidenNets as widens
use Rattle.st_windows.specs.WindowNets.{IsWindowShape, WindowKeeps, WindowForward, WindowBackward}
use Rattle.st_windows.specs.WindowNets as windows

-- ---- which it is

-- beats of so many symbols, of packets or not, become beats of so many others: by nothing where they are as many, by parts where
-- one number divides the other, and else by a window
abbrev pub IsResizeOf : ℕ → ℕ → ℕ → Bool → Resize → Type 0
IsResizeOf from into bits packets Equal = from ≡ into
IsResizeOf from into bits packets (Cut stage) =
    (from ≡ into * stage.sizes.parts) × (stage.sizes.symbols ≡ into) × (stage.sizes.bits ≡ bits)
IsResizeOf from into bits packets (Join stage) =
    (into ≡ from * stage.sizes.parts) × (stage.sizes.symbols ≡ from) × (stage.sizes.bits ≡ bits) × (stage.packets ≡ packets)
IsResizeOf from into bits packets (Slide stage) =
    ¬ (from % into ≡ 0) × ¬ (into % from ≡ 0) × (stage.sizes.from ≡ from) × (stage.sizes.into ≡ into) × (stage.sizes.bits ≡ bits)

-- a beat may have symbols of several
abbrev pub joins_beats : Resize → Bool
joins_beats Equal = false
joins_beats (Cut stage) = false
joins_beats (Join stage) = true
joins_beats (Slide stage) = true

-- it shows ready throughout before a sink that is always ready: no beat goes in pieces
abbrev pub keeps_ready : Resize → Bool
keeps_ready Equal = true
keeps_ready (Cut stage) = false
keeps_ready (Join stage) = true
keeps_ready (Slide stage) = false

-- ---- as a stage

abbrev pub resize_has : Resize → Shape → Type 0
resize_has Equal shape = IsPassShape shape
resize_has (Cut stage) shape = IsNarrowShape stage.sizes shape
resize_has (Join stage) shape = IsWidenShape stage shape
resize_has (Slide stage) shape = IsWindowShape stage.sizes shape

abbrev pub resize_passes : Resize → Shape → Type 0
resize_passes Equal shape = IsPassShape shape
resize_passes (Cut stage) shape = ⊥
resize_passes (Join stage) shape = IsWidenShape stage shape
resize_passes (Slide stage) shape = ⊥

abbrev pub resize_takes : Resize → Widths → Type 0
resize_takes Equal widths = Unit {0}
resize_takes (Cut stage) widths =
    (widths.word ≡ stage.sizes.bits * (stage.sizes.symbols * stage.sizes.parts)) × (widths.empty ≤ 8)
resize_takes (Join stage) widths = (widths.word ≡ stage.sizes.bits * stage.sizes.symbols) × (widths.empty ≤ 8)
resize_takes (Slide stage) widths = (widths.word ≡ stage.sizes.bits * stage.sizes.from) × (widths.empty ≤ 8)

abbrev pub resize_gives : Resize → Widths → Widths
resize_gives Equal widths = widths
resize_gives (Cut stage) widths = record widths { word = stage.sizes.bits * stage.sizes.symbols; empty = stage.sizes.count }
resize_gives (Join stage) widths =
    record widths { word = stage.sizes.bits * (stage.sizes.symbols * stage.sizes.parts); empty = stage.sizes.count }
resize_gives (Slide stage) widths = record widths { word = stage.sizes.bits * stage.sizes.into; empty = stage.sizes.count }

abbrev pub resize_forward : Resize → ℕ
resize_forward Equal = 0
resize_forward (Cut stage) = 34
resize_forward (Join stage) = 5 * stage.sizes.parts + 29
resize_forward (Slide stage) = 16 * stage.sizes.into + 73

abbrev pub resize_backward : Resize → ℕ
resize_backward Equal = 0
resize_backward (Cut stage) = 10
resize_backward (Join stage) = 17
resize_backward (Slide stage) = 21

abbrev pub resize_nets : Resize → ℕ
resize_nets resize = resize_forward resize + resize_backward resize

-- the numbers of its registers
abbrev pub resize_owns : ResizeKept → ℕ → Type 0
resize_owns Straight n = ⊥
resize_owns (OfCut stage kept) n = IsOfBeat kept.held n
resize_owns (OfJoin stage kept) n = IsOfBeat kept.held n
resize_owns (OfSlide stage kept) n = IsOfBeat kept.held n

-- between the calls
abbrev pub ResizeKeeps : Resize → ResizeKept → Netlist → Type 0
ResizeKeeps Equal Straight netlist = Unit {0}
ResizeKeeps (Cut stage) (OfCut same kept) netlist = (same ≡ stage) × NarrowKeeps kept netlist
ResizeKeeps (Join stage) (OfJoin same kept) netlist = (same ≡ stage) × WidenKeeps kept netlist
ResizeKeeps (Slide stage) (OfSlide same kept) netlist = (same ≡ stage) × WindowKeeps kept netlist
ResizeKeeps _ _ netlist = ⊥

-- after the first call
abbrev pub ResizeForward : Resize → BeatNets → BeatNets → ResizeKept → Netlist → Type 0
ResizeForward Equal from to Straight netlist = to ≡ from
ResizeForward (Cut stage) from to (OfCut same kept) netlist = NarrowForward stage.sizes from to kept netlist
ResizeForward (Join stage) from to (OfJoin same kept) netlist = WidenForward stage from to kept netlist
ResizeForward (Slide stage) from to (OfSlide same kept) netlist = WindowForward stage.sizes from to kept netlist
ResizeForward _ from to _ netlist = ⊥

-- after the second call
abbrev pub ResizeBackward : Resize → ResizeKept → NetValue → NetValue → Netlist → Type 0
ResizeBackward Equal Straight ready up netlist = up ≡ ready
ResizeBackward (Cut stage) (OfCut same kept) ready up netlist = NarrowBackward kept ready up netlist
ResizeBackward (Join stage) (OfJoin same kept) ready up netlist = WidenBackward kept ready up netlist
ResizeBackward (Slide stage) (OfSlide same kept) ready up netlist = WindowBackward kept ready up netlist
ResizeBackward _ _ ready up netlist = ⊥

-- ---- what stands lasts. No contract reads these proofs; the law of the stage cites them

pub resize_keeps_lasts : (resize : Resize) (kept : ResizeKept) (old new : Netlist) → ResizeKeeps resize kept old → Extends old new
    → ((n : ℕ) → resize_owns kept n → IsWaiting old n → IsWaiting new n) → ResizeKeeps resize kept new
resize_keeps_lasts Equal Straight old new h e w = h
resize_keeps_lasts (Cut stage) (OfCut same kept) old new h e w = (h.0, narrows.keeps_lasts kept old new h.1 e w)
resize_keeps_lasts (Join stage) (OfJoin same kept) old new h e w = (h.0, widens.keeps_lasts kept old new h.1 e w)
resize_keeps_lasts (Slide stage) (OfSlide same kept) old new h e w = (h.0, windows.keeps_lasts kept old new h.1 e w)
resize_keeps_lasts _ _ old new h e w = absurd h

pub resize_forward_lasts : (resize : Resize) (from to : BeatNets) (kept : ResizeKept) (old new : Netlist)
    → ResizeForward resize from to kept old → Extends old new → ResizeForward resize from to kept new
resize_forward_lasts Equal from to Straight old new h e = h
resize_forward_lasts (Cut stage) from to (OfCut same kept) old new h e =
    narrows.forward_lasts stage.sizes from to kept old new h e
resize_forward_lasts (Join stage) from to (OfJoin same kept) old new h e = widens.forward_lasts stage from to kept old new h e
resize_forward_lasts (Slide stage) from to (OfSlide same kept) old new h e =
    windows.forward_lasts stage.sizes from to kept old new h e
resize_forward_lasts _ from to _ old new h e = absurd h

pub resize_backward_lasts : (resize : Resize) (kept : ResizeKept) (ready up : NetValue) (old new : Netlist)
    → ResizeBackward resize kept ready up old → Extends old new → ResizeBackward resize kept ready up new
resize_backward_lasts Equal Straight ready up old new h e = h
resize_backward_lasts (Cut stage) (OfCut same kept) ready up old new h e = narrows.backward_lasts kept ready up old new h e
resize_backward_lasts (Join stage) (OfJoin same kept) ready up old new h e = widens.backward_lasts kept ready up old new h e
resize_backward_lasts (Slide stage) (OfSlide same kept) ready up old new h e = windows.backward_lasts kept ready up old new h e
resize_backward_lasts _ _ ready up old new h e = absurd h
