-- A stage that leads from a source to a sink serves the stream, which never idles.
use Rattle.std.proofs.Common.{◌≡◌, ℕ, zero, suc, ◌+◌, ◌*◌, ◌≤◌, ◌<◌, Bool, true, false, ◌&&◌, IsTrue, List, [], ◌++◌, map, take, drop, length, refl, ap, sym, ◌∙◌, subst, arith, nat_lt, nat_le}
use Rattle.std.specs.Prelude.{if◌then◌else◌, ◌==◌, min, IsFalse}
use Rattle.std.proofs.lemmas.Bool.{and_parts, ltb-false, leb-true, le-leb}
use Rattle.histories.specs.History.{IsPrefix}
use Rattle.stream_runs.specs.View.{EndView, Pace, Side, is_high, is_ready_cycle, is_transfer}
use Rattle.stream_runs.specs.Source.{IsLegalAt, IsLegalSource}
use Rattle.stream_runs.specs.Symbols.{Symbol, without_error, shown_count, shown_symbols, delivered_symbols, kept_symbols, joined_error}
use Rattle.stream_runs.specs.Delivery.{DeliversPrefix, LagsWithin, StreamRun, IsServed, stream_lag, reaches}
use Rattle.stream_runs.specs.Awake.{Throughout, Sometime, stream_window, undelivered, on_the_way, makes_beat, beats_begun, NeverIdles}
use Rattle.stream_runs.specs.Ends.{Declared, side_of, stream_of}
use Rattle.stream_runs.specs.Laws.{kept_more}
use Rattle.stream_machines.specs.Stage.{Shape, StageRun, StageLaw, KeepsStageLaw}
use Rattle.stream_machines.specs.Allowances.{allowed_by_larger}
use Rattle.stage_core.specs.Law.{ReadyPasses}
use Rattle.st_path.specs.Joining.{TakesWhole, CanJoin}
use Rattle.st_path.specs.Between.{LeadsFrom, TakesIn, at_sink, joined_test, joined_channel}
use Rattle.st_path.proofs.AtPorts.{none_below, at_ports, same_given, delivers_at_ports, lags_at_ports, proper_at_ports}
use Rattle.st_path.proofs.Fronts.{side_channel}
use Rattle.st_path.proofs.Opens.{same_undelivered}

-- what the law of ranks says of stages
pub record RankLaw : Type 0 where
  pub delivers : (shape : Shape) (run : StageRun) (count : ℕ) → StageLaw shape run count → shape.rest < shape.down.symbols → (start width : ℕ) → start + width ≤ count → shape.largest < width
      → Throughout start width (λ c. IsTrue (is_ready_cycle shape.down.pace run.down c))
      → Throughout start width (λ c. IsTrue (makes_beat shape.down.symbols (undelivered shape.passes shape.up shape.down run.up run.down c)))
      → Sometime start width (λ c. IsTrue (is_transfer shape.down.pace run.down c))
  pub accepts : (shape : Shape) (run : StageRun) (count : ℕ) → StageLaw shape run count → IsLegalSource shape.up run.up count → shape.up.pace.latency ≤ shape.up.pace.allowance → (start width : ℕ) → start + width ≤ count
      → shape.largest + (shape.step + 1) * (shape.hold + shape.up.pace.allowance * shape.up.symbols) < width
      → Throughout start width (λ c. IsTrue (is_ready_cycle shape.down.pace run.down c))
      → Sometime start width (λ c. IsTrue (is_high run.up.ready c))
  pub shows : (shape : Shape) (run : StageRun) (count : ℕ) → StageLaw shape run count → shape.rest < shape.down.symbols → shape.down.pace.latency ≡ 0 → (start width : ℕ) → start + width ≤ count → shape.largest < width
      → Throughout start width (λ c. IsTrue (makes_beat shape.down.symbols (undelivered shape.passes shape.up shape.down run.up run.down c)))
      → Sometime start width (λ c. IsTrue (is_high run.down.valid c))
  pub frees : (shape : Shape) (run : StageRun) (count : ℕ) → StageLaw shape run count → shape.down.pace.latency ≡ 0 → (start width : ℕ) → start + width ≤ count → shape.largest < width
      → Throughout start width (λ c. IsTrue (is_high run.up.valid c))
      → Throughout start width (λ c. IsFalse (is_high run.down.valid c))
      → Sometime start width (λ c. IsTrue (is_transfer shape.up.pace run.up c))

-- a channel of the source that the sink takes is one that both ends have
same_test : (channel s k : ℕ) → channel ≤ s → nat_le channel (min s k) ≡ nat_le channel k
same_test channel s k most = by_test (nat_le channel k) refl
  where
    by_test : (b : Bool) → nat_le channel k ≡ b → nat_le channel (min s k) ≡ b
    by_test true takes = (let reached = leb-true channel k takes in le-leb channel (min s k) (omega (arith, most, reached)))
    by_test false takes = by_joined (nat_le channel (min s k)) refl
      where
        by_joined : (b : Bool) → nat_le channel (min s k) ≡ b → b ≡ false
        by_joined true joins = absurd (let joined = leb-true channel (min s k) joins in let reached = le-leb channel k (omega (arith, joined)) in cc)
        by_joined false joins = refl

module _ (source sink : Declared) (depth : ℕ) (shape : Shape) (up down : EndView) (rank : ℕ → ℕ) (leads : LeadsFrom source sink depth shape) (join : CanJoin source sink)
    (keeps : KeepsStageLaw shape (record { up = up; down = down; rank = rank }))
    (ready : TakesWhole source sink → (c : ℕ) → IsTrue (is_high down.ready c))
    (count : ℕ) (legal : IsLegalSource (side_of source) up count) where
  abbrev middle : Side
  middle = at_sink source sink

  source_channel : (side_of source).max_channel ≡ source.max_channel
  source_channel = side_channel source join.source_fits

  sink_channel : (side_of sink).max_channel ≡ sink.max_channel
  sink_channel = side_channel sink join.sink_fits

  legal_up : IsLegalSource shape.up up count
  legal_up = subst (λ side. IsLegalSource side up count) (sym leads.up) legal

  law : StageLaw shape (record { up = up; down = down; rank = rank }) count
  law = keeps.law count legal_up (λ needs c lt. ready (leads.always_ready needs) c)

  legal_down : (c : ℕ) → c < count → IsLegalAt middle down c
  legal_down c lt = subst (λ side. IsLegalAt side down c) leads.down (keeps.legal c (λ k below. legal_up k (omega arith)) (λ needs k below. ready (leads.always_ready needs) k))

  delivered : DeliversPrefix (joined_test source sink) (side_of source) middle up down count
  delivered =
      subst (λ passes. DeliversPrefix passes (side_of source) middle up down count) leads.passes
      (subst (λ side. DeliversPrefix shape.passes side middle up down count) leads.up (subst (λ side. DeliversPrefix shape.passes shape.up side up down count) leads.down law.prefix))

  lagged : LagsWithin shape.hold (joined_test source sink) (side_of source) middle up down count
  lagged =
      subst (λ passes. LagsWithin shape.hold passes (side_of source) middle up down count) leads.passes
      (subst (λ side. LagsWithin shape.hold shape.passes side middle up down count) leads.up (subst (λ side. LagsWithin shape.hold shape.passes shape.up side up down count) leads.down law.hold))

  -- without the port there is one channel
  no_channels : nat_lt 0 sink.channel_bits ≡ false → joined_channel source sink ≡ 0
  no_channels none = (let no_channel = none_below sink.channel_bits sink.max_channel (ltb-false 0 sink.channel_bits none) join.sink_fits.channels in omega (arith, no_channel))

  at_sink_ports : DeliversPrefix (joined_test source sink) (side_of source) middle up (at_ports sink down) count
  at_sink_ports = delivers_at_ports sink middle down count no_channels refl refl (λ c lt. (legal_down c lt).formed) (λ has. join.sink_fits.empties has) (joined_test source sink) (side_of source) up delivered

  lags_at_sink : LagsWithin shape.hold (joined_test source sink) (side_of source) middle up (at_ports sink down) count
  lags_at_sink = lags_at_ports sink middle down count no_channels refl refl (λ c lt. (legal_down c lt).formed) (λ has. join.sink_fits.empties has) (joined_test source sink) (side_of source) up shape.hold lagged

  -- ---- what passes is what the sink takes

  abbrev joined_kept : ℕ → List Symbol
  joined_kept c = kept_symbols (joined_test source sink) (side_of source) up c

  abbrev sink_kept : ℕ → List Symbol
  sink_kept c = kept_symbols (reaches (side_of sink)) (side_of source) up c

  in_range : (c : ℕ) → c < count → IsTrue (is_high up.valid c) → up.channel c ≤ source.max_channel
  in_range c lt shown = let most = ((legal c lt).formed shown).in_range in omega (arith, most, source_channel)

  test_at : (c : ℕ) → c < count → (is_transfer (side_of source).pace up c && joined_test source sink (up.channel c)) ≡ (is_transfer (side_of source).pace up c && reaches (side_of sink) (up.channel c))
  test_at c lt = by_transfer (is_transfer (side_of source).pace up c) refl
    where
      by_transfer : (b : Bool) → is_transfer (side_of source).pace up c ≡ b → (b && joined_test source sink (up.channel c)) ≡ (b && reaches (side_of sink) (up.channel c))
      by_transfer true moves =
          same_test (up.channel c) source.max_channel sink.max_channel (in_range c lt (and_parts (is_high up.valid c) _ moves).0) ∙ ap (λ n. nat_le (up.channel c) n) (sym sink_channel)
      by_transfer false stays = refl

  same_kept : (c : ℕ) → c ≤ count → joined_kept c ≡ sink_kept c
  same_kept zero le = refl
  same_kept (suc c) le =
      kept_more (joined_test source sink) (side_of source) up c
      ∙ ap (λ (xs : List Symbol). xs ++ (if is_transfer (side_of source).pace up c && joined_test source sink (up.channel c) then shown_symbols (side_of source) up c else [])) (same_kept c (omega arith))
      ∙ ap (λ b. sink_kept c ++ (if b then shown_symbols (side_of source) up c else [])) (test_at c le)
      ∙ sym (kept_more (reaches (side_of sink)) (side_of source) up c)

  pub served_by : (dropped : ℕ → ℕ) → ((c : ℕ) → c < count → (dropped c == 1) ≡ (is_transfer (side_of source).pace up c && nat_lt sink.max_channel (up.channel c)))
      → IsServed (stream_of source sink depth) (record { source = up; sink = at_ports sink down; dropped = dropped }) count
  served_by dropped shows = record {
    delivers = record {
      in_order = λ c le. subst (λ (xs : List Symbol). IsPrefix (map without_error (delivered_symbols (side_of sink) (at_ports sink down) c)) (map without_error xs)) (same_kept c le) (at_sink_ports.in_order c le);
      holds_data = at_sink_ports.holds_data;
      errors = λ some c lt moves. subst (λ (xs : List Symbol). (at_ports sink down).error c ≡ joined_error (take (shown_count (side_of sink) (at_ports sink down) c) (drop (length (delivered_symbols (side_of sink) (at_ports sink down) c)) xs)))
          (same_kept (suc c) lt) (at_sink_ports.errors some c lt moves);
    };
    lags = λ c le. subst (λ (xs : List Symbol). length xs ≤ length (delivered_symbols (side_of sink) (at_ports sink down) c) + stream_lag (stream_of source sink depth)) (same_kept c le) (let few = lags_at_sink c le in let most = leads.hold in omega (arith, few, most));
    proper = proper_at_ports sink down (side_of sink) count
        (λ c lt. record { allowed = allowed_by_larger (side_of sink).pace down count join.sink_fits.pace.ordered (λ k below. (legal_down k below).paced.allowed) c lt; held = (legal_down c lt).paced.held });
    drops = λ c lt. shows c lt ∙ ap (λ n. is_transfer (side_of source).pace up c && nat_lt n (up.channel c)) (sym sink_channel);
  }

  -- ---- the stream never idles

  abbrev window : ℕ
  window = stream_window (stream_of source sink depth)

  abbrev stage_run : StageRun
  stage_run = record { up = up; down = down; rank = rank }

  down_pace : shape.down.pace ≡ middle.pace
  down_pace = ap (λ (s : Side). s.pace) leads.down

  -- what is between the views of the nets is what is on the way to the sink's ports
  module _ (dropped : ℕ → ℕ) where
    abbrev stream_run : StreamRun
    stream_run = record { source = up; sink = at_ports sink down; dropped = dropped }

    way_at_ports : (c : ℕ) → c ≤ count → undelivered (joined_test source sink) (side_of source) middle up down c ≡ on_the_way (stream_of source sink depth) stream_run c
    way_at_ports c le =
        ap (λ (xs : List Symbol). drop (length (delivered_symbols middle down c)) xs) (same_kept c le)
        ∙ ap (λ (xs : List Symbol). drop (length xs) (sink_kept c)) (sym (same_given sink middle down count no_channels refl refl (λ k lt. (legal_down k lt).formed) (λ has. join.sink_fits.empties has) c le))

    way : (c : ℕ) → c ≤ count → undelivered shape.passes shape.up shape.down up down c ≡ on_the_way (stream_of source sink depth) stream_run c
    way c le = same_undelivered shape.passes (joined_test source sink) shape.up (side_of source) shape.down middle up down c leads.passes leads.up leads.down ∙ way_at_ports c le

    pub awake_by : RankLaw → (TakesWhole source sink → ReadyPasses shape up down) → (IsFalse shape.needs_ready → TakesIn source sink depth up down) → NeverIdles window (stream_of source sink depth) stream_run count
    awake_by laws passes takes =
        record {
          delivers = λ start le asked full.
              subst (λ (pace : Pace). Sometime start window (λ c. IsTrue (is_transfer pace down c))) down_pace
              (laws.delivers shape stage_run count law rest_fits start window le largest_fits (λ c after below. asked_of_stage c (asked c after below)) (λ c after below. full_of_stage c (omega (arith, le, below)) (full c after below)));
          accepts = λ start le asked. laws.accepts shape stage_run count law legal_up ordered start window le whole_fits (λ c after below. asked_of_stage c (asked c after below));
          takes_in = λ start le room. by_needs start le room shape.needs_ready refl;
          shows = λ at_once start le full.
              laws.shows shape stage_run count law rest_fits (ap (λ (pace : Pace). pace.latency) down_pace ∙ at_once) start window le largest_fits (λ c after below. full_of_stage c (omega (arith, le, below)) (full c after below));
          frees = λ at_once start le shown none.
              subst (λ (s : Side). Sometime start window (λ c. IsTrue (is_transfer s.pace up c))) leads.up
              (laws.frees shape stage_run count law (ap (λ (pace : Pace). pace.latency) down_pace ∙ at_once) start window le largest_fits shown none);
        }
      where
        rest_fits : shape.rest < shape.down.symbols
        rest_fits = subst (λ (s : Side). shape.rest < s.symbols) (sym leads.down) leads.rest

        ordered : shape.up.pace.latency ≤ shape.up.pace.allowance
        ordered = subst (λ (s : Side). s.pace.latency ≤ s.pace.allowance) (sym leads.up) join.source_fits.pace.ordered

        whole_fits : shape.largest + (shape.step + 1) * (shape.hold + shape.up.pace.allowance * shape.up.symbols) < window
        whole_fits = subst (λ (s : Side). shape.largest + (shape.step + 1) * (shape.hold + s.pace.allowance * s.symbols) < window) (sym leads.up) leads.window

        largest_fits : shape.largest < window
        largest_fits = let most = leads.window in omega (arith, most)

        asked_of_stage : (c : ℕ) → IsTrue (is_ready_cycle middle.pace down c) → IsTrue (is_ready_cycle shape.down.pace down c)
        asked_of_stage c asked = subst (λ (pace : Pace). IsTrue (is_ready_cycle pace down c)) (sym down_pace) asked

        full_of_stage : (c : ℕ) → c ≤ count → IsTrue (makes_beat sink.symbols (on_the_way (stream_of source sink depth) stream_run c)) → IsTrue (makes_beat shape.down.symbols (undelivered shape.passes shape.up shape.down up down c))
        full_of_stage c le full =
            subst (λ (s : Side). IsTrue (makes_beat s.symbols (undelivered shape.passes shape.up shape.down up down c))) (sym leads.down)
            (subst (λ (xs : List Symbol). IsTrue (makes_beat sink.symbols xs)) (sym (way c le)) full)

        by_needs : (start : ℕ) → start + window ≤ count → Throughout start window (λ c. beats_begun sink.symbols (on_the_way (stream_of source sink depth) stream_run c) + source.symbols ≤ depth)
            → (b : Bool) → shape.needs_ready ≡ b → Sometime start window (λ c. IsTrue (is_high up.ready c))
        by_needs start le room true needs =
            let whole = leads.always_ready needs in
            (start, omega arith, omega arith, passes whole start (λ k lt. legal_up k (omega (arith, le, lt))) (λ k lt. ready whole k))
        by_needs start le room false free =
            takes free count legal start le (λ c after below. subst (λ (xs : List Symbol). beats_begun sink.symbols xs + source.symbols ≤ depth) (sym (way_at_ports c (omega (arith, le, below)))) (room c after below))
