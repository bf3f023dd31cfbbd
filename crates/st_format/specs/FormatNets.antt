-- What stands between a source and a sink whose beats have other forms.
use Rattle.std.specs.Prelude.{◌≡◌, ℕ, ◌+◌, ◌*◌, ◌<◌, ◌≤◌, Bool, false, not, ◌&&◌, ◌||◌, ◌==◌, nat_lt, IsTrue, IsFalse, Option, Some, None, IfSome, option_map, unwrap_or}
use Rattle.iface_roles.specs.declared.records.StreamPort.{StreamPort}
use Rattle.stream_runs.specs.View.{Side}
use Rattle.stream_machines.specs.Stage.{Shape, IsStill}
use Rattle.stage_core.specs.declared.chain.Chain.{Chain}
use Rattle.stage_core.specs.declared.maybe.Maybe.{Maybe}
use Rattle.stage_core.specs.Beats.{Widths}
use Rattle.stage_core.specs.ChainNets.{IsChainOf}
use Rattle.stage_core.specs.MaybeNets.{shape_of}
use Rattle.st_format.specs.declared.reorder.Reorder.{Reorder}
use Rattle.st_format.specs.declared.clear.Clear.{Clear}
use Rattle.st_format.specs.declared.resize.Resize.{Resize}
use Rattle.st_format.specs.ReorderNets.{IsReorderShape}
use Rattle.st_format.specs.ClearNets.{IsClearShape}
use Rattle.st_format.specs.ResizeNets.{IsResizeOf, joins_beats, keeps_ready, resize_has, resize_passes, resize_takes, resize_gives, resize_forward, resize_backward}

-- a turn and clearing, each where it is needed
abbrev pub OrderStages : Type 0
OrderStages = Chain (Maybe Reorder) (Maybe Clear)

-- and then what changes how many symbols a beat has
abbrev pub Stages : Type 0
Stages = Chain OrderStages Resize

-- ---- which they are

-- the beats have other numbers of symbols
abbrev pub changes : StreamPort → StreamPort → Bool
changes source sink = not (source.symbols == sink.symbols)

-- the first symbol is brought to the high-order bits, where the sink has it there or parts are changed
abbrev pub turns_first : StreamPort → StreamPort → Bool
turns_first source sink = not source.first_high && (sink.first_high || changes source sink)

-- empty symbols are cleared where parts are changed, unless a part is a single symbol
abbrev pub clears : StreamPort → StreamPort → Bool
clears source sink = changes source sink && nat_lt 0 source.empty_bits && nat_lt 1 sink.symbols

abbrev pub IsTurn : Bool → ℕ → ℕ → Option Reorder → Type 0
IsTurn turns symbols bits None = IsFalse turns
IsTurn turns symbols bits (Some stage) = IsTrue turns × (stage.symbols ≡ symbols) × (stage.bits ≡ bits)

abbrev pub IsClearing : Bool → ℕ → ℕ → Option Clear → Type 0
IsClearing clears symbols bits None = IsFalse clears
IsClearing clears symbols bits (Some stage) = IsTrue clears × (stage.symbols ≡ symbols) × (stage.bits ≡ bits)

-- which of them stand there
pub record IsFormatOf (source : StreamPort) (sink : StreamPort) (format : Stages) : Type 0 where
  pub turn : IsTurn (turns_first source sink) source.symbols source.symbol_bits format.first.first.stage
  pub clear : IsClearing (clears source sink) source.symbols source.symbol_bits format.first.second.stage
  pub resize : IsResizeOf source.symbols sink.symbols source.symbol_bits source.packets format.second

-- ---- as a stage

abbrev pub front_has : Option Reorder → Option Clear → Shape → Type 0
front_has turn clear shape =
    IsChainOf (shape_of (λ s shape. IsReorderShape s.symbols s.bits shape) turn)
    (shape_of (λ s shape. IsClearShape s.symbols s.bits shape) clear)
    (shape_of (λ s shape. IsClearShape s.symbols s.bits shape) clear) (IfSome turn (λ s. Unit {0})) shape

abbrev pub front_passes : Option Reorder → Option Clear → Shape → Type 0
front_passes turn clear shape =
    IsChainOf (λ first. shape_of (λ s shape. IsReorderShape s.symbols s.bits shape) turn first
    × shape_of (λ s shape. IsReorderShape s.symbols s.bits shape) turn first)
    (shape_of (λ s shape. IsClearShape s.symbols s.bits shape) clear)
    (shape_of (λ s shape. IsClearShape s.symbols s.bits shape) clear) (IfSome turn (λ s. Unit {0})) shape

-- each of the turn and clearing shows the ready that it sees
abbrev pub front_shows : Option Reorder → Option Clear → Type 0
front_shows turn clear = IfSome turn (λ s. Unit {0}) × IfSome clear (λ s. Unit {0})

-- the shapes with which all of them keep their law, one behind the other
abbrev pub format_has : Stages → Shape → Type 0
format_has format shape =
    IsChainOf (front_has format.first.first.stage format.first.second.stage) (resize_has format.second)
    (resize_passes format.second) (front_shows format.first.first.stage format.first.second.stage) shape

-- those with which they also pass ready on, before a sink that is always ready
abbrev pub format_passes : Stages → Shape → Type 0
format_passes format shape =
    IsChainOf (λ first. front_has format.first.first.stage format.first.second.stage first
    × front_passes format.first.first.stage format.first.second.stage first)
    (resize_passes format.second) (resize_passes format.second)
    (front_shows format.first.first.stage format.first.second.stage) shape

-- they keep the law from one side to another, with this test, and pass ready on where no beat goes in pieces; they hold a beat of
-- either end at most, and keep less than a beat of the sink for good
pub record LeadsTo (format : Stages) (passes : ℕ → Bool) (up down : Side) : Type 0 where
  pub shape : Shape
  pub has : format_has format shape
  pub passed : IsTrue (keeps_ready format.second) → format_passes format shape
  pub up_is : shape.up ≡ up
  pub down_is : shape.down ≡ down
  pub test : shape.passes ≡ passes
  pub free : shape.needs_ready ≡ false
  pub hold : shape.hold ≤ up.symbols + down.symbols
  pub rest : shape.rest < down.symbols

-- the turn and clearing keep the law from one side to another, with this test, pass ready on, show the ready that they see, and
-- are still
pub record Orders (order : OrderStages) (passes : ℕ → Bool) (up down : Side) : Type 0 where
  pub shape : Shape
  pub has : front_has order.first.stage order.second.stage shape
  pub passed : front_passes order.first.stage order.second.stage shape
  pub shows : front_shows order.first.stage order.second.stage
  pub up_is : shape.up ≡ up
  pub down_is : shape.down ≡ down
  pub test : shape.passes ≡ passes
  pub still : IsStill shape

-- what changes how many symbols a beat has keeps the law from one side to another, with this test, and passes ready on where no
-- beat goes in pieces; it holds a beat of either end at most, and keeps less than a beat downstream for good; a symbol raises its
-- rank by 1 at most, and its rank is at most a downstream beat's symbols
pub record Resizes (resize : Resize) (passes : ℕ → Bool) (up down : Side) : Type 0 where
  pub shape : Shape
  pub has : resize_has resize shape
  pub passed : IsTrue (keeps_ready resize) → resize_passes resize shape
  pub up_is : shape.up ≡ up
  pub down_is : shape.down ≡ down
  pub test : shape.passes ≡ passes
  pub free : shape.needs_ready ≡ false
  pub hold : shape.hold ≤ up.symbols + down.symbols
  pub rest : shape.rest < down.symbols
  pub step : shape.step ≤ 1
  pub largest : shape.largest ≤ down.symbols

-- a side of ready latency 0 as the source's beats have it; without packets there is one channel where beats are joined
pub record IsSideOf (source : StreamPort) (format : Stages) (side : Side) : Type 0 where
  pub symbols : side.symbols ≡ source.symbols
  pub bits : side.symbol_bits ≡ source.symbol_bits
  pub first_high : side.first_high ≡ source.first_high
  pub latency : side.pace.latency ≡ 0
  pub allowance : side.pace.allowance ≡ 0
  pub packets : side.packets ≡ source.packets
  pub channels : IsTrue (joins_beats format.second) → IsFalse side.packets → side.max_channel ≡ 0

-- behind the turn and clearing: the same side with the first symbol in the high-order bits where it was turned or stood there
abbrev pub turned : StreamPort → StreamPort → Side → Side
turned source sink side = record side { first_high = source.first_high || (sink.first_high || changes source sink) }

-- behind all of them: that side with the sink's symbols
abbrev pub formatted : StreamPort → StreamPort → Side → Side
formatted source sink side = record (turned source sink side) { symbols = sink.symbols }

-- ---- widths

-- a turn and clearing give what they take
abbrev pub turn_gives : Option Reorder → Widths → Widths
turn_gives turn widths = unwrap_or (option_map (λ s. widths) turn) widths

abbrev pub front_gives : Option Reorder → Option Clear → Widths → Widths
front_gives turn clear widths = unwrap_or (option_map (λ s. turn_gives turn widths) clear) (turn_gives turn widths)

abbrev pub front_takes : Option Reorder → Option Clear → Widths → Type 0
front_takes turn clear widths =
    IfSome turn (λ s. widths.word ≡ s.bits * s.symbols)
    × IfSome clear (λ s. ((turn_gives turn widths).word ≡ s.bits * s.symbols) × ((turn_gives turn widths).empty ≤ 8))

abbrev pub format_gives : Stages → Widths → Widths
format_gives format widths = resize_gives format.second (front_gives format.first.first.stage format.first.second.stage widths)

-- the turn and clearing take nets of these widths, and give nets of the same
pub record OrderTakes (order : OrderStages) (widths : Widths) : Type 0 where
  pub takes : front_takes order.first.stage order.second.stage widths
  pub gives : front_gives order.first.stage order.second.stage widths ≡ widths

-- what changes how many symbols a beat has takes nets of these widths, and gives a word of so many bits, and the other nets as
-- wide as they were but for empty
pub record ResizeTakes (resize : Resize) (widths : Widths) (word : ℕ) : Type 0 where
  pub takes : resize_takes resize widths
  pub gives : (resize_gives resize widths).word ≡ word
  pub channel : (resize_gives resize widths).channel ≡ widths.channel
  pub error : (resize_gives resize widths).error ≡ widths.error
  pub few : (resize_gives resize widths).empty ≤ 8

-- they take nets of these widths, and give a word of so many bits, and the other nets as wide as they were but for empty
pub record TakesTo (format : Stages) (widths : Widths) (word : ℕ) : Type 0 where
  pub front : front_takes format.first.first.stage format.first.second.stage widths
  pub back : resize_takes format.second (front_gives format.first.first.stage format.first.second.stage widths)
  pub gives : (format_gives format widths).word ≡ word
  pub channel : (format_gives format widths).channel ≡ widths.channel
  pub error : (format_gives format widths).error ≡ widths.error
  pub few : (format_gives format widths).empty ≤ 8

-- the most nets that they make
abbrev pub nets_where : {S : Type 0} → (S → ℕ) → Option S → ℕ
nets_where count stage = unwrap_or (option_map count stage) 0

abbrev pub order_forward : OrderStages → ℕ
order_forward order = nets_where (λ s. 2 * s.symbols) order.first.stage + nets_where (λ s. 6 * s.symbols + 4) order.second.stage

abbrev pub order_backward : OrderStages → ℕ
order_backward order = nets_where (λ s. 0) order.first.stage + nets_where (λ s. 0) order.second.stage

abbrev pub order_nets : OrderStages → ℕ
order_nets order = order_forward order + order_backward order

abbrev pub forward_nets : Stages → ℕ
forward_nets format = order_forward format.first + resize_forward format.second

abbrev pub backward_nets : Stages → ℕ
backward_nets format = order_backward format.first + resize_backward format.second

abbrev pub format_nets : Stages → ℕ
format_nets format = forward_nets format + backward_nets format
