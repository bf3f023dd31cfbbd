-- The stages that bring beats to the sink's symbols, as parts.
use Rattle.std.proofs.Common.{◌≡◌, ℕ, zero, suc, ◌+◌, ◌-◌, ◌*◌, ◌%◌, ◌^◌, ◌≤◌, ◌<◌, Bool, refl, subst, arith}
use Rattle.std.specs.Prelude.{IsTrue}
use Rattle.std.proofs.Math.Nat.{mod-eq_of_lt}
use Rattle.iface_roles.specs.declared.records.StreamPort.{StreamPort}
use Rattle.stream_runs.specs.View.{Side}
use Rattle.stream_runs.specs.Ends.{Declared}
use Rattle.stream_machines.specs.Stage.{PassesAll}
use Rattle.st_format.specs.declared.resize.Resize.{Resize}
use Rattle.st_format.specs.declared.resize.Resize.TheVariants.{Equal, Cut, Join, Slide}
use Rattle.st_format.specs.ResizeNets.{IsResizeOf, joins_beats, keeps_ready, resize_has, resize_passes}
use Rattle.st_format.specs.FormatNets.{Stages, IsFormatOf, IsSideOf, Orders, Resizes, turned, formatted, front_has, front_passes}
use Rattle.st_timing.specs.Ends.{declared}
use Rattle.st_path.specs.Joining.{TakesWhole, CanJoin}
use Rattle.st_path.specs.Between.{joined_channel, joined_test, with_errors, formed, Bounds, still, LeadsOn}
use Rattle.st_path.proofs.Fronts.{joined_all}

-- ---- sizes that divide

-- a number leaves itself of one that is larger
not_divided : (few many : ℕ) → 0 < few → few < many → few % many ≡ 0 → ⊥
not_divided few many some less none = let same = mod-eq_of_lt less in omega (arith, some, none, same)

several_more : (size parts : ℕ) → 0 < size → 2 ≤ parts → size < size * parts
several_more size zero some several = absurd (omega (arith, several))
several_more size (suc zero) some several = absurd (omega (arith, several))
several_more size (suc (suc more)) some several = let spread : size * suc (suc more) ≡ size + size + size * more = omega arith in omega (arith, some, spread)

-- beats are joined only where the sink's symbols don't divide the source's
joins_where : (resize : Resize) (from into bits : ℕ) (packets : Bool) → 0 < from → IsResizeOf from into bits packets resize → IsTrue (joins_beats resize) → from % into ≡ 0 → ⊥
joins_where Equal from into bits packets some is joins none = cc
joins_where (Cut stage) from into bits packets some is joins none = cc
joins_where (Join stage) from into bits packets some is joins none = not_divided from into some (let more = several_more from stage.sizes.parts some stage.sizes.several in let size = is.0 in omega (arith, more, size)) none
joins_where (Slide stage) from into bits packets some is joins none = is.0 none

-- no beat goes in pieces where the source's symbols divide the sink's
whole_keeps : (resize : Resize) (from into bits : ℕ) (packets : Bool) → 0 < into → IsResizeOf from into bits packets resize → into % from ≡ 0 → IsTrue (keeps_ready resize)
whole_keeps Equal from into bits packets some is none = refl
whole_keeps (Cut stage) from into bits packets some is none = absurd (not_divided into from some (let more = several_more into stage.sizes.parts some stage.sizes.several in let size = is.0 in omega (arith, more, size)) none)
whole_keeps (Join stage) from into bits packets some is none = refl
whole_keeps (Slide stage) from into bits packets some is none = absurd (is.1 none)

-- the numbers of what changes the symbols of a beat
abbrev pub resize_bounds : Declared → Declared → Bounds
resize_bounds source sink = record { least = 0; most = source.symbols + sink.symbols; rest = sink.symbols - 1; step = 1; largest = sink.symbols }

module _ (from : StreamPort) (to : StreamPort) (format : Stages) (join : CanJoin (declared from) (declared to)) (is : IsFormatOf from to format) where
  abbrev source : Declared
  source = declared from

  abbrev sink : Declared
  sink = declared to

  -- between what turns and clears symbols, and what changes how many a beat has
  abbrev between : Side
  between = turned from to (with_errors source sink)

  -- beats are joined only where there is one channel
  one_channel : IsTrue (joins_beats format.second) → joined_channel source sink ≡ 0
  one_channel joins = by_port from.channel_bits refl
    where
      by_port : (bits : ℕ) → from.channel_bits ≡ bits → joined_channel source sink ≡ 0
      by_port zero none = (let few = join.source_fits.channels in let small : from.max_channel < 2 ^ 0 = subst (λ n. from.max_channel < 2 ^ n) none few in omega (arith, small))
      by_port (suc bits) some = absurd (joins_where format.second from.symbols to.symbols from.symbol_bits from.packets join.source_fits.some is.resize joins (join.channels (omega (arith, some))))

  side_is : IsSideOf from format (with_errors source sink)
  side_is = record {
    symbols = refl;
    bits = refl;
    first_high = refl;
    latency = refl;
    allowance = refl;
    packets = refl;
    channels = λ joins packets. one_channel joins;
  }

  all_pass : PassesAll (joined_test source sink) (with_errors source sink)
  all_pass = joined_all source sink (with_errors source sink) refl

  whole_beats : TakesWhole source sink → IsTrue (keeps_ready format.second)
  whole_beats whole = whole_keeps format.second from.symbols to.symbols from.symbol_bits from.packets join.sink_fits.some is.resize whole.whole

  pub order_part : ((passes : ℕ → Bool) (side : Side) → IsSideOf from format side → PassesAll passes side → Orders format.first passes side (turned from to side))
      → LeadsOn source sink (with_errors source sink) between still (front_has format.first.first.stage format.first.second.stage) (front_passes format.first.first.stage format.first.second.stage)
  order_part leading =
      let leads = leading (joined_test source sink) (with_errors source sink) side_is all_pass in
      record {
        shape = leads.shape;
        up_is = leads.up_is;
        down_is = leads.down_is;
        test = leads.test;
        room = omega arith;
        hold = (let none = leads.still.hold in omega (arith, none));
        rest = (let none = leads.still.rest in omega (arith, none));
        step = (let none = leads.still.step in omega (arith, none));
        largest = (let none = leads.still.largest in omega (arith, none));
        always_ready = λ needs. absurd (let none = leads.still.needs_ready in cc);
        keeps = leads.has;
        passes = λ whole. leads.passed;
      }

  pub resize_part : ((passes : ℕ → Bool) (side : Side) → IsSideOf from format side → PassesAll passes side → Resizes format.second passes (turned from to side) (formatted from to side))
      → LeadsOn source sink between (formed source sink) (resize_bounds source sink) (resize_has format.second) (resize_passes format.second)
  resize_part leading =
      let leads = leading (joined_test source sink) (with_errors source sink) side_is all_pass in
      record {
        shape = leads.shape;
        up_is = leads.up_is;
        down_is = leads.down_is;
        test = leads.test;
        room = omega arith;
        hold = leads.hold;
        rest = (let less : leads.shape.rest < to.symbols = leads.rest in omega (arith, less));
        step = leads.step;
        largest = leads.largest;
        always_ready = λ needs. absurd (let none = leads.free in cc);
        keeps = leads.has;
        passes = λ whole. leads.passed (whole_beats whole);
      }
