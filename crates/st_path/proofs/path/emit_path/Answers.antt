use Rattle.std.proofs.Common.{List, length, ap, ◌∙◌, arith, subst, sym}
use Rattle.netlist.specs.declared.line.Memory.{Memory}
use Rattle.stage_core.specs.declared.beat.BeatNets.{BeatNets}
use Rattle.stage_core.specs.Beats.{Widths, AreBeatNets}
use Rattle.st_path.specs.Ends.{ArePathNets}
use Rattle.st_path.specs.Serving.{ServesInLonger, IgnoresReady}
use Rattle.st_timing.specs.Ends.{declared}
use Rattle.st_path.specs.Between.{CarriesStream, ShowsUnreached}
use Rattle.net_parts.specs.Laws.{extends_none, extends_twice, grows_fewer, grows_within, adds_grow, net_lasts}
use Rattle.st_path.proofs.EndNets.{beat_nets, path_nets, ready_lasts, empty_width, fits_few, fits_none, drops_few, drops_none}
use Rattle.st_path.proofs.Growing.{without_memories, memories_behind, memories_before, adds_wait, adds_no_wait}
use Rattle.st_path.proofs.Runs.{serves_in_longer, carries_longer}
use Rattle.st_path.proofs.Ignores.{ignores_ready}
use Rattle.stage_core.specs.Law.{IgnoresInLonger}
use Rattle.stage_core.specs.Refusing.{handed_on}
use Rattle.st_path.proofs.path.emit_path.Goals as goal

pub returns-in_err-high-clause-grows : goal.returns-in_err-high-clause-grows
returns-in_err-high-clause-grows c = without_memories 2 8000 _ _ _ (grows_within 1 1 2 _ _ _ (adds_grow _ _ _ c.level.ensures.adds) (adds_grow _ _ _ c.ready_or_high.ensures.adds) (omega arith)) (omega arith)

pub returns-in_err-high-clause-few : goal.returns-in_err-high-clause-few
returns-in_err-high-clause-few c enough = grows_within 1 1 7 _ _ _ (adds_grow _ _ _ c.level.ensures.adds) (adds_grow _ _ _ c.ready_or_high.ensures.adds) (omega arith)

pub emit_stages-requires-clause-from : goal.emit_stages-requires-clause-from
emit_stages-requires-clause-from c =
    let longer = (grows_within 1 1 2 _ _ _ (adds_grow _ _ _ c.level.ensures.adds) (adds_grow _ _ _ c.ready_or_high.ensures.adds) (omega arith)) in
    let low = net_lasts _ _ c.in_ok-low.low 1 c.ready_or_high.ensures.adds.grows.extends c.in_ok-low.ensures.net in
    subst (λ (beat : BeatNets). AreBeatNets c.ready_or_high.new.builder beat) (sym (c.copied.ensures ∙ c.beat_of-start.ensures))
    (beat_nets c.args.builder.now c.ready_or_high.new.builder (declared c.args.source.now) c.args.from.now c.in_ok-low.low longer.extends low c.requires.from)

pub returns-in_err-made-clause-grows : goal.returns-in_err-made-clause-grows
returns-in_err-made-clause-grows c = memories_behind 2 7992 8000 _ _ _ _ (grows_within 1 1 2 _ _ _ (adds_grow _ _ _ c.level.ensures.adds) (adds_grow _ _ _ c.ready_or_high.ensures.adds) (omega arith)) c.emit_stages.ensures.grows (omega arith)

pub returns-in_err-made-clause-few : goal.returns-in_err-made-clause-few
returns-in_err-made-clause-few c enough = grows_within 2 5 7 _ _ _ (grows_within 1 1 2 _ _ _ (adds_grow _ _ _ c.level.ensures.adds) (adds_grow _ _ _ c.ready_or_high.ensures.adds) (omega arith)) (c.emit_stages.ensures.few enough) (omega arith)

pub returns-in_err-beat-clause-grows : goal.returns-in_err-beat-clause-grows
returns-in_err-beat-clause-grows c = memories_before 7994 _ 8000 _ _ _ _ (memories_behind 2 7992 7994 _ _ _ _ (grows_within 1 1 2 _ _ _ (adds_grow _ _ _ c.level.ensures.adds) (adds_grow _ _ _ c.ready_or_high.ensures.adds) (omega arith)) c.emit_stages.ensures.grows (omega arith)) (adds_grow _ _ _ c.fit_beat.ensures.adds) (let few = fits_few c.args.sink.now.empty_bits c.in_ok-made.made.beat.empty.width in omega (arith, few))

pub returns-in_err-beat-clause-few : goal.returns-in_err-beat-clause-few
returns-in_err-beat-clause-few c enough = grows_within 7 _ 7 _ _ _ (grows_within 2 5 7 _ _ _ (grows_within 1 1 2 _ _ _ (adds_grow _ _ _ c.level.ensures.adds) (adds_grow _ _ _ c.ready_or_high.ensures.adds) (omega arith)) (c.emit_stages.ensures.few enough) (omega arith)) (adds_grow _ _ _ c.fit_beat.ensures.adds) (let none = fits_none c.args.sink.now.empty_bits c.in_ok-made.made.beat.empty.width (λ some. ap (λ (w : Widths). w.empty) (c.in_ok-made.ensures.same_widths enough) ∙ ap (λ (beat : BeatNets). beat.empty.width) (c.copied.ensures ∙ c.beat_of-start.ensures) ∙ (let bits = enough.form.empty_bits in let wide = empty_width c.args.builder.now (declared c.args.source.now) c.args.from.now c.in_ok-low.low c.in_ok-low.ensures.net.has_width c.requires.from (omega (arith, some, bits)) in wide ∙ bits)) in omega (arith, none))

pub returns-in_err-beat-clause-waits : goal.returns-in_err-beat-clause-waits
returns-in_err-beat-clause-waits c n w = c.fit_beat.ensures.adds.grows.waits n (c.emit_stages.ensures.waits n (c.ready_or_high.ensures.adds.grows.waits n (c.level.ensures.adds.grows.waits n w)))

pub emit_dropped-requires-clause-from : goal.emit_dropped-requires-clause-from
emit_dropped-requires-clause-from c =
    let longer = (memories_before 7994 _ 7996 _ _ _ _ (memories_behind 2 7992 7994 _ _ _ _ (grows_within 1 1 2 _ _ _ (adds_grow _ _ _ c.level.ensures.adds) (adds_grow _ _ _ c.ready_or_high.ensures.adds) (omega arith)) c.emit_stages.ensures.grows (omega arith)) (adds_grow _ _ _ c.fit_beat.ensures.adds) (let few = fits_few c.args.sink.now.empty_bits c.in_ok-made.made.beat.empty.width in omega (arith, few))) in
    subst (λ (beat : BeatNets). AreBeatNets c.fit_beat.new.builder beat) (sym c.beat_of-start.ensures)
    (beat_nets c.args.builder.now c.fit_beat.new.builder (declared c.args.source.now) c.args.from.now c.in_ok-low.low longer.extends (net_lasts _ _ c.in_ok-low.low 1 c.fit_beat.ensures.adds.grows.extends (net_lasts _ _ c.in_ok-low.low 1 c.emit_stages.ensures.grows.extends (net_lasts _ _ c.in_ok-low.low 1 c.ready_or_high.ensures.adds.grows.extends c.in_ok-low.ensures.net))) c.requires.from)

pub emit_dropped-requires-clause-ready : goal.emit_dropped-requires-clause-ready
emit_dropped-requires-clause-ready c = net_lasts _ _ c.in_ok-made.made.ready 1 c.fit_beat.ensures.adds.grows.extends c.in_ok-made.ensures.nets.ready

pub emit_dropped-requires-clause-low : goal.emit_dropped-requires-clause-low
emit_dropped-requires-clause-low c = net_lasts _ _ c.in_ok-low.low 1 c.fit_beat.ensures.adds.grows.extends (net_lasts _ _ c.in_ok-low.low 1 c.emit_stages.ensures.grows.extends (net_lasts _ _ c.in_ok-low.low 1 c.ready_or_high.ensures.adds.grows.extends c.in_ok-low.ensures.net))

pub emit_dropped-requires-clause-is_low : goal.emit_dropped-requires-clause-is_low
emit_dropped-requires-clause-is_low c cycle v = c.in_ok-low.ensures.value cycle (c.ready_or_high.ensures.adds.grows.extends.valuations cycle (c.emit_stages.ensures.grows.extends.valuations cycle (c.fit_beat.ensures.adds.grows.extends.valuations cycle v)))

pub returns-in_err-dropped-clause-grows : goal.returns-in_err-dropped-clause-grows
returns-in_err-dropped-clause-grows c = memories_before 7996 _ 8000 _ _ _ _ (memories_before 7994 _ 7996 _ _ _ _ (memories_behind 2 7992 7994 _ _ _ _ (grows_within 1 1 2 _ _ _ (adds_grow _ _ _ c.level.ensures.adds) (adds_grow _ _ _ c.ready_or_high.ensures.adds) (omega arith)) c.emit_stages.ensures.grows (omega arith)) (adds_grow _ _ _ c.fit_beat.ensures.adds) (let few = fits_few c.args.sink.now.empty_bits c.in_ok-made.made.beat.empty.width in omega (arith, few))) (adds_grow _ _ _ c.emit_dropped.ensures.adds) (let few = drops_few c.args.sink.now.max_channel c.args.source.now.max_channel in omega (arith, few))

pub returns-in_err-dropped-clause-few : goal.returns-in_err-dropped-clause-few
returns-in_err-dropped-clause-few c enough = grows_within 7 _ 7 _ _ _ (grows_within 7 _ 7 _ _ _ (grows_within 2 5 7 _ _ _ (grows_within 1 1 2 _ _ _ (adds_grow _ _ _ c.level.ensures.adds) (adds_grow _ _ _ c.ready_or_high.ensures.adds) (omega arith)) (c.emit_stages.ensures.few enough) (omega arith)) (adds_grow _ _ _ c.fit_beat.ensures.adds) (let none = fits_none c.args.sink.now.empty_bits c.in_ok-made.made.beat.empty.width (λ some. ap (λ (w : Widths). w.empty) (c.in_ok-made.ensures.same_widths enough) ∙ ap (λ (beat : BeatNets). beat.empty.width) (c.copied.ensures ∙ c.beat_of-start.ensures) ∙ (let bits = enough.form.empty_bits in let wide = empty_width c.args.builder.now (declared c.args.source.now) c.args.from.now c.in_ok-low.low c.in_ok-low.ensures.net.has_width c.requires.from (omega (arith, some, bits)) in wide ∙ bits)) in omega (arith, none))) (adds_grow _ _ _ c.emit_dropped.ensures.adds) (let none = drops_none c.args.sink.now.max_channel c.args.source.now.max_channel enough.form.max_channel in omega (arith, none))

pub returns-in_err-dropped-clause-waits : goal.returns-in_err-dropped-clause-waits
returns-in_err-dropped-clause-waits c n w = c.emit_dropped.ensures.adds.grows.waits n (c.fit_beat.ensures.adds.grows.waits n (c.emit_stages.ensures.waits n (c.ready_or_high.ensures.adds.grows.waits n (c.level.ensures.adds.grows.waits n w))))

pub returns-clause-grows : goal.returns-clause-grows
returns-clause-grows c = memories_before 7996 _ 8000 _ _ _ _ (memories_before 7994 _ 7996 _ _ _ _ (memories_behind 2 7992 7994 _ _ _ _ (grows_within 1 1 2 _ _ _ (adds_grow _ _ _ c.level.ensures.adds) (adds_grow _ _ _ c.ready_or_high.ensures.adds) (omega arith)) c.emit_stages.ensures.grows (omega arith)) (adds_grow _ _ _ c.fit_beat.ensures.adds) (let few = fits_few c.args.sink.now.empty_bits c.in_ok-made.made.beat.empty.width in omega (arith, few))) (adds_grow _ _ _ c.emit_dropped.ensures.adds) (let few = drops_few c.args.sink.now.max_channel c.args.source.now.max_channel in omega (arith, few))

pub returns-clause-few : goal.returns-clause-few
returns-clause-few c enough = grows_within 7 _ 7 _ _ _ (grows_within 7 _ 7 _ _ _ (grows_within 2 5 7 _ _ _ (grows_within 1 1 2 _ _ _ (adds_grow _ _ _ c.level.ensures.adds) (adds_grow _ _ _ c.ready_or_high.ensures.adds) (omega arith)) (c.emit_stages.ensures.few enough) (omega arith)) (adds_grow _ _ _ c.fit_beat.ensures.adds) (let none = fits_none c.args.sink.now.empty_bits c.in_ok-made.made.beat.empty.width (λ some. ap (λ (w : Widths). w.empty) (c.in_ok-made.ensures.same_widths enough) ∙ ap (λ (beat : BeatNets). beat.empty.width) (c.copied.ensures ∙ c.beat_of-start.ensures) ∙ (let bits = enough.form.empty_bits in let wide = empty_width c.args.builder.now (declared c.args.source.now) c.args.from.now c.in_ok-low.low c.in_ok-low.ensures.net.has_width c.requires.from (omega (arith, some, bits)) in wide ∙ bits)) in omega (arith, none))) (adds_grow _ _ _ c.emit_dropped.ensures.adds) (let none = drops_none c.args.sink.now.max_channel c.args.source.now.max_channel enough.form.max_channel in omega (arith, none))

pub returns-clause-waits : goal.returns-clause-waits
returns-clause-waits c n w = c.emit_dropped.ensures.adds.grows.waits n (c.fit_beat.ensures.adds.grows.waits n (c.emit_stages.ensures.waits n (c.ready_or_high.ensures.adds.grows.waits n (c.level.ensures.adds.grows.waits n w))))

pub returns-clause-no_more_wait : goal.returns-clause-no_more_wait
returns-clause-no_more_wait c n w = c.level.ensures.adds.grows.no_more_wait n (c.ready_or_high.ensures.adds.grows.no_more_wait n (c.in_ok-made.ensures.no_more_wait n (c.fit_beat.ensures.adds.grows.no_more_wait n (c.emit_dropped.ensures.adds.grows.no_more_wait n w))))

pub returns-clause-still_wait_for_write : goal.returns-clause-still_wait_for_write
returns-clause-still_wait_for_write c m w =
    adds_wait _ _ _ c.emit_dropped.ensures.adds m (adds_wait _ _ _ c.fit_beat.ensures.adds m (c.in_ok-made.ensures.still_wait_for_write m (adds_wait _ _ _ c.ready_or_high.ensures.adds m (adds_wait _ _ _ c.level.ensures.adds m w))))

pub returns-clause-no_more_write : goal.returns-clause-no_more_write
returns-clause-no_more_write c m w =
    adds_no_wait _ _ _ c.level.ensures.adds m (adds_no_wait _ _ _ c.ready_or_high.ensures.adds m (c.in_ok-made.ensures.no_more_write m (adds_no_wait _ _ _ c.fit_beat.ensures.adds m (adds_no_wait _ _ _ c.emit_dropped.ensures.adds m w))))

pub returns-clause-nets : goal.returns-clause-nets
returns-clause-nets c =
    let longer = grows_within 2 4 6 _ _ _ (grows_fewer _ 2 _ _ (fits_few c.args.sink.now.empty_bits c.in_ok-made.made.beat.empty.width) (adds_grow _ _ _ c.fit_beat.ensures.adds)) (grows_fewer _ 4 _ _ (drops_few c.args.sink.now.max_channel c.args.source.now.max_channel) (adds_grow _ _ _ c.emit_dropped.ensures.adds)) (omega arith) in
    subst (λ (beat : BeatNets). ArePathNets c.emit_dropped.new.builder (declared c.args.sink.now) (record { ready = c.in_ok-made.made.ready; beat = beat; dropped = c.in_ok-dropped.dropped })) (sym c.in_ok-beat.ensures.others)
    (path_nets c.emit_stages.new.builder c.fit_beat.new.builder c.emit_dropped.new.builder (declared c.args.source.now) (declared c.args.sink.now) c.in_ok-made.made c.in_ok-beat.beat.empty c.in_ok-dropped.dropped
    longer.extends c.emit_dropped.ensures.adds.grows.extends c.in_ok-made.ensures.nets c.in_ok-beat.ensures.net c.in_ok-dropped.ensures.net)

pub returns-clause-serves : goal.returns-clause-serves
returns-clause-serves c =
    let source = declared c.args.source.now in
    let sink = declared c.args.sink.now in
    let longer = grows_within 2 4 6 _ _ _ (grows_fewer _ 2 _ _ (fits_few c.args.sink.now.empty_bits c.in_ok-made.made.beat.empty.width) (adds_grow _ _ _ c.fit_beat.ensures.adds)) (grows_fewer _ 4 _ _ (drops_few c.args.sink.now.max_channel c.args.source.now.max_channel) (adds_grow _ _ _ c.emit_dropped.ensures.adds)) (omega arith) in
    subst (λ (beat : BeatNets). ServesInLonger source sink c.args.depth c.args.from.now c.args.ready (record { ready = c.in_ok-made.made.ready; beat = beat; dropped = c.in_ok-dropped.dropped }) c.emit_dropped.new.builder) (sym c.in_ok-beat.ensures.others)
    (serves_in_longer source sink c.args.depth c.args.from.now c.args.ready c.emit_dropped.new.builder c.args.builder.now c.in_ok-low.low c.in_ok-high.high c.in_ok-beat.beat.empty c.in_ok-dropped.dropped c.in_ok-made.made
    c.requires.joined c.requires.ready
    (record {
      same_legal = c.same_beginnings.ensures.legal;
      same_served = c.same_beginnings.ensures.served;
      same_awake = c.same_beginnings.ensures.awake;
      ranks = record {
        delivers = c.rank_keeps_awake.ensures.delivers;
        accepts = c.rank_keeps_awake.ensures.accepts;
        shows = c.rank_keeps_awake.ensures.shows;
        frees = c.rank_keeps_awake.ensures.frees;
      };
      goes_on = λ run cycles r. c.goes_on.ensures c.emit_dropped.new.builder c.well_made.ensures run cycles r;
      tied = c.tie_is_a_stage.ensures.keeps;
    })
    (carries_longer source sink c.args.depth c.emit_stages.new.builder c.emit_dropped.new.builder _ c.in_ok-made.made c.in_ok-high.high (λ longer' e. extends_twice _ _ _ longer.extends e)
    (subst (λ (beat : BeatNets). CarriesStream source sink c.args.depth c.emit_stages.new.builder beat c.in_ok-made.made c.in_ok-high.high) (c.copied.ensures ∙ c.beat_of-start.ensures) c.in_ok-made.ensures.carries))
    (λ cycle v. c.in_ok-low.ensures.value cycle (c.ready_or_high.ensures.adds.grows.extends.valuations cycle (c.emit_stages.ensures.grows.extends.valuations cycle (longer.extends.valuations cycle v))))
    (ready_lasts _ _ c.args.ready c.in_ok-high.high longer.extends (ready_lasts _ _ c.args.ready c.in_ok-high.high c.emit_stages.ensures.grows.extends c.in_ok-high.ensures.ready))
    (extends_none c.emit_dropped.new.builder)
    (λ some cycle v. c.in_ok-beat.ensures.value some cycle (c.emit_dropped.ensures.adds.grows.extends.valuations cycle v))
    (subst (λ (beat : BeatNets). ShowsUnreached source sink c.emit_dropped.new.builder beat c.in_ok-made.made.ready c.in_ok-dropped.dropped) c.beat_of-start.ensures c.in_ok-dropped.ensures.shows))

pub returns-clause-ignores_ready : goal.returns-clause-ignores_ready
returns-clause-ignores_ready c =
    let longer = grows_within 2 4 6 _ _ _ (grows_fewer _ 2 _ _ (fits_few c.args.sink.now.empty_bits c.in_ok-made.made.beat.empty.width) (adds_grow _ _ _ c.fit_beat.ensures.adds)) (grows_fewer _ 4 _ _ (drops_few c.args.sink.now.max_channel c.args.source.now.max_channel) (adds_grow _ _ _ c.emit_dropped.ensures.adds)) (omega arith) in
    subst (λ (beat : BeatNets). IgnoresReady c.args.from.now (record { ready = c.in_ok-made.made.ready; beat = beat; dropped = c.in_ok-dropped.dropped }) c.emit_dropped.new.builder) (sym c.in_ok-beat.ensures.others)
    (ignores_ready c.args.sink.now.empty_bits c.args.from.now c.emit_dropped.new.builder c.emit_stages.new.builder c.in_ok-low.low c.in_ok-beat.beat.empty c.in_ok-made.made.beat
    (λ cycle v. c.in_ok-low.ensures.value cycle (c.ready_or_high.ensures.adds.grows.extends.valuations cycle (c.emit_stages.ensures.grows.extends.valuations cycle (longer.extends.valuations cycle v))))
    (λ some cycle v. c.in_ok-beat.ensures.value some cycle (c.emit_dropped.ensures.adds.grows.extends.valuations cycle v))
    c.in_ok-beat.ensures.none
    c.in_ok-made.made.ready c.in_ok-dropped.dropped longer.extends
    (subst (λ (beat : BeatNets). IgnoresInLonger c.emit_stages.new.builder beat c.in_ok-made.made.beat) (c.copied.ensures ∙ c.beat_of-start.ensures) c.in_ok-made.ensures.carries.ignores))

pub returns-in_err-low-clause-grows : goal.returns-in_err-low-clause-grows
returns-in_err-low-clause-grows c = without_memories _ _ _ _ _ (adds_grow _ _ _ c.level.ensures.adds) (omega arith)

pub returns-in_err-low-clause-few : goal.returns-in_err-low-clause-few
returns-in_err-low-clause-few c enough = grows_fewer _ _ _ _ (omega arith) (adds_grow _ _ _ c.level.ensures.adds)

pub returns-in_err-high-clause-waits : goal.returns-in_err-high-clause-waits
returns-in_err-high-clause-waits c n w = c.ready_or_high.ensures.adds.grows.waits n (c.level.ensures.adds.grows.waits n w)

pub returns-in_err-made-clause-waits : goal.returns-in_err-made-clause-waits
returns-in_err-made-clause-waits c n w = c.emit_stages.ensures.waits n (c.ready_or_high.ensures.adds.grows.waits n (c.level.ensures.adds.grows.waits n w))

pub returns-in_err-low-clause-full : goal.returns-in_err-low-clause-full
returns-in_err-low-clause-full c room e = let full = c.level.ensures.full (handed_on _ _ _ _ c.in_err-low.was c.from_residual.ensures.1 e) in omega (arith, full)

pub returns-in_err-high-clause-full : goal.returns-in_err-high-clause-full
returns-in_err-high-clause-full c room e = let most = c.level.ensures.adds.most in let full = c.ready_or_high.ensures.full (handed_on _ _ _ _ c.in_err-high.was c.from_residual-in_err-high.ensures.1 e) in omega (arith, most, full)

pub returns-in_err-made-clause-full : goal.returns-in_err-made-clause-full
returns-in_err-made-clause-full c room e = let most = c.level.ensures.adds.most in let more = c.ready_or_high.ensures.adds.most in let same = ap (λ (ms : List Memory). length ms) (c.ready_or_high.ensures.adds.grows.memories ∙ c.level.ensures.adds.grows.memories) in let full = c.emit_stages.ensures.full (omega (arith, room, same)) (handed_on _ _ _ _ c.in_err-made.was c.from_residual-in_err-made.ensures.1 e) in omega (arith, most, more, full)

pub returns-in_err-beat-clause-full : goal.returns-in_err-beat-clause-full
returns-in_err-beat-clause-full c room e = let most = c.level.ensures.adds.most in let more = c.ready_or_high.ensures.adds.most in let stages = c.emit_stages.ensures.grows.most in let full = c.fit_beat.ensures.full (handed_on _ _ _ _ c.in_err-beat.was c.from_residual-in_err-beat.ensures.1 e) in omega (arith, most, more, stages, full)

pub returns-in_err-dropped-clause-full : goal.returns-in_err-dropped-clause-full
returns-in_err-dropped-clause-full c room e = let most = c.level.ensures.adds.most in let more = c.ready_or_high.ensures.adds.most in let stages = c.emit_stages.ensures.grows.most in let fitted = c.fit_beat.ensures.adds.most in let few = fits_few c.args.sink.now.empty_bits c.in_ok-made.made.beat.empty.width in let full = c.emit_dropped.ensures.full (handed_on _ _ _ _ c.in_err-dropped.was c.from_residual-in_err-dropped.ensures.1 e) in omega (arith, most, more, stages, fitted, few, full)

pub returns-clause-full : goal.returns-clause-full
returns-clause-full c room e = cc
