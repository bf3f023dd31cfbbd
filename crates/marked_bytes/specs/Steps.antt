-- What an unpacker does with a byte.
use Rattle.std.specs.Prelude.{ℕ, Bool, true, false, ◌&&◌, not, bit_xor, Some, None, is_some, unwrap_or, if◌then◌else◌}
use Rattle.marked_bytes.specs.declared.symbols.Symbol.{Symbol as Kind}
use Rattle.marked_bytes.specs.declared.symbols.Symbol.TheVariants as kind
use Rattle.marked_bytes.specs.declared.unpacker.Fed.{Fed}
use Rattle.marked_bytes.specs.declared.unpacker.Fed.TheVariants.{More, Byte, Bad}
use Rattle.marked_bytes.specs.declared.unpacker.Awaits.{Awaits}
use Rattle.marked_bytes.specs.declared.unpacker.Awaits.TheVariants.{Symbol, Channel, EscapedChannel, EscapedByte, Nothing}
use Rattle.marked_bytes.specs.declared.unpacker.Unpacker.{Unpacker}
use Rattle.marked_bytes.specs.Symbols.{symbol_of}
use Rattle.marked_bytes.specs.Items.{may_stand}

-- the unpacker behind a byte, and its answer
pub record Step : Type 0 where
  pub after : Unpacker
  pub fed : Fed

abbrev pub step : Unpacker → Fed → Step
step after fed = record { after = after; fed = fed }

abbrev pub goes_on : Unpacker → Step
goes_on after = step after More

abbrev pub refuses : Unpacker → ℕ → Step
refuses before rule = step (record before { awaits = Nothing rule }) (Bad rule)

abbrev pub channel_now : Unpacker → ℕ
channel_now unpacker = unwrap_or unpacker.marked unpacker.channel

abbrev pub may_give : Unpacker → Bool
may_give unpacker = may_stand unpacker.is_inside unpacker.channel (channel_now unpacker) unpacker.first

abbrev pub gives : Unpacker → ℕ → Step
gives before byte = step
    (record {
      channel =
          channel_now before;
      is_inside = not before.last;
      first = false;
      last = false;
      marked = None;
      awaits = Symbol;
    })
    (Byte (record { channel = channel_now before; first = before.first; last = before.last; byte = byte }))

abbrev pub marks_channel : Unpacker → ℕ → Step
marks_channel before channel = goes_on (record before { marked = Some channel; awaits = Symbol })

abbrev pub awaits_next : Unpacker → Awaits → Step
awaits_next before next = goes_on (record before { awaits = next })

-- where marks or data are due
abbrev pub symbol_step : Unpacker → ℕ → Kind → Step
symbol_step before byte kind.First = goes_on (record before { first = true })
symbol_step before byte kind.Last = goes_on (record before { last = true })
symbol_step before byte kind.Channel = awaits_next before Channel
symbol_step before byte kind.Escape = if may_give before then awaits_next before EscapedByte else refuses before 2
symbol_step before byte kind.Plain = if may_give before then gives before byte else refuses before 2

-- where a channel is due
abbrev pub channel_step : Unpacker → ℕ → Kind → Step
channel_step before byte kind.First = refuses before 1
channel_step before byte kind.Last = refuses before 1
channel_step before byte kind.Channel = refuses before 1
channel_step before byte kind.Escape = awaits_next before EscapedChannel
channel_step before byte kind.Plain = marks_channel before byte

abbrev pub step_at : Awaits → Unpacker → ℕ → Step
step_at Symbol before byte = symbol_step before byte (symbol_of byte)
step_at Channel before byte = channel_step before byte (symbol_of byte)
step_at EscapedChannel before byte = marks_channel before (bit_xor byte 0x20)
step_at EscapedByte before byte = gives before (bit_xor byte 0x20)
step_at (Nothing rule) before byte = step before (Bad rule)

abbrev pub step_of : Unpacker → ℕ → Step
step_of before byte = step_at before.awaits before byte

abbrev pub awaits_symbol : Awaits → Bool
awaits_symbol Symbol = true
awaits_symbol Channel = false
awaits_symbol EscapedChannel = false
awaits_symbol EscapedByte = false
awaits_symbol (Nothing rule) = false

-- no item and no packet is begun
abbrev pub rests : Unpacker → Bool
rests unpacker =
    awaits_symbol unpacker.awaits
    && (not unpacker.is_inside && (not unpacker.first && (not unpacker.last && not (is_some unpacker.marked))))
