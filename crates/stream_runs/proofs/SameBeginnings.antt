-- What is asked and promised up to a cycle depends on what is shown up to it.
use Rattle.std.proofs.Common.{◌≡◌, ℕ, zero, suc, ◌+◌, ◌-◌, ◌≤◌, ◌<◌, Bool, ◌&&◌, ◌||◌, IsTrue, List, [], ◌++◌, map, length, take, drop, filter, refl, ap, sym, ◌∙◌, subst, arith, nat_lt, nat_le}
use Rattle.std.specs.Prelude.{IsFalse, if◌then◌else◌, ◌==◌}
use Rattle.histories.specs.History.{IsPrefix}
use Rattle.stream_runs.specs.View.{EndView, Beat, Pace, Side, beat_at, is_high, is_transfer, is_ready_cycle, AgreeBefore}
use Rattle.stream_runs.specs.Source.{was_ready, beats_since_ready, may_show, is_open, channel_before, IsHeld, KeepsPace, IsWellFormed, IsLegalSource, IsProperAtSink}
use Rattle.stream_runs.specs.Symbols.{Symbol, without_error, symbol_count, symbols_of, shown_count, shown_symbols, symbols_in, transferred_symbols, delivered_symbols, kept_symbols, joined_error}
use Rattle.stream_runs.specs.Delivery.{DeliversPrefix, LagsWithin, ShowsDropped, Stream, StreamRun, IsServed, RunsAgreeBefore, reaches, matched_symbols}
use Rattle.stream_runs.specs.Awake.{NeverIdles, undelivered, on_the_way, makes_beat, beats_begun}

pub agree_turned : (one two : EndView) (count : ℕ) → AgreeBefore one two count → AgreeBefore two one count
agree_turned one two count same = record {
  valid = λ c lt. sym (same.valid c lt);
  beat = λ c lt. sym (same.beat c lt);
  ready = λ c lt. sym (same.ready c lt);
}

module _ (one two : EndView) (count : ℕ) (same : AgreeBefore one two count) where
  high_valid : (c : ℕ) → c < count → is_high one.valid c ≡ is_high two.valid c
  high_valid c lt = ap (λ v. v == 1) (same.valid c lt)

  high_ready : (c : ℕ) → c < count → is_high one.ready c ≡ is_high two.ready c
  high_ready c lt = ap (λ v. v == 1) (same.ready c lt)

  pub same_transfer : (pace : Pace) (c : ℕ) → c < count → is_transfer pace one c ≡ is_transfer pace two c
  same_transfer pace c lt =
      ap (λ v. v && (nat_lt 0 pace.latency || is_high one.ready c)) (high_valid c lt)
      ∙ ap (λ r. is_high two.valid c && (nat_lt 0 pace.latency || r)) (high_ready c lt)

  pub same_ready_cycle : (pace : Pace) (c : ℕ) → c < count → is_ready_cycle pace one c ≡ is_ready_cycle pace two c
  same_ready_cycle pace c lt = ap (λ r. nat_le pace.latency c && r) (high_ready (c - pace.latency) (omega arith))

  same_was : (c : ℕ) → c < count → was_ready one c ≡ was_ready two c
  same_was zero lt = high_ready 0 lt
  same_was (suc c) lt = ap (λ r. r || was_ready one c) (high_ready (suc c) lt) ∙ ap (λ w. is_high two.ready (suc c) || w) (same_was c (omega arith))

  same_since : (pace : Pace) (c : ℕ) → c < count → beats_since_ready pace one c ≡ beats_since_ready pace two c
  same_since pace zero lt =
      ap (λ (r : Bool). if r then 0 else (if is_transfer pace one 0 then 1 else 0)) (high_ready 0 lt)
      ∙ ap (λ (t : Bool). if is_high two.ready 0 then 0 else (if t then 1 else 0)) (same_transfer pace 0 lt)
  same_since pace (suc c) lt =
      ap (λ (r : Bool). if r then 0 else beats_since_ready pace one c + (if is_transfer pace one (suc c) then 1 else 0)) (high_ready (suc c) lt)
      ∙ ap (λ (t : Bool). if is_high two.ready (suc c) then 0 else beats_since_ready pace one c + (if t then 1 else 0)) (same_transfer pace (suc c) lt)
      ∙ ap (λ n. if is_high two.ready (suc c) then 0 else n + (if is_transfer pace two (suc c) then 1 else 0)) (same_since pace c (omega arith))

  same_may : (pace : Pace) (c : ℕ) → c < count → may_show pace one c ≡ may_show pace two c
  same_may pace c lt =
      ap (λ w. (pace.latency == 0) || (if nat_lt pace.latency pace.allowance then nat_le pace.latency c && w && nat_le (beats_since_ready pace one c) pace.allowance else is_ready_cycle pace one c)) (same_was (c - pace.latency) (omega arith))
      ∙ ap (λ n. (pace.latency == 0) || (if nat_lt pace.latency pace.allowance then nat_le pace.latency c && was_ready two (c - pace.latency) && nat_le n pace.allowance else is_ready_cycle pace one c)) (same_since pace c lt)
      ∙ ap (λ r. (pace.latency == 0) || (if nat_lt pace.latency pace.allowance then nat_le pace.latency c && was_ready two (c - pace.latency) && nat_le (beats_since_ready pace two c) pace.allowance else r)) (same_ready_cycle pace c lt)

  same_open : (pace : Pace) (c : ℕ) → c ≤ count → is_open pace one c ≡ is_open pace two c
  same_open pace zero le = refl
  same_open pace (suc c) le =
      let lt : c < count = omega arith in
      let last : one.last c ≡ two.last c = ap (λ (b : Beat). b.last) (same.beat c lt) in
      rw (same_transfer pace c lt, last, same_open pace c (omega arith)) refl

  same_channel : (pace : Pace) (c : ℕ) → c ≤ count → channel_before pace one c ≡ channel_before pace two c
  same_channel pace zero le = refl
  same_channel pace (suc c) le =
      let lt : c < count = omega arith in
      let channel : one.channel c ≡ two.channel c = ap (λ (b : Beat). b.channel) (same.beat c lt) in
      rw (same_transfer pace c lt, channel, same_channel pace c (omega arith)) refl

  same_held : (pace : Pace) (c : ℕ) → c < count → IsHeld pace one c → IsHeld pace two c
  same_held pace zero lt h = h
  same_held pace (suc c) lt h = λ shown stays.
      (let before : c < count = omega arith in
      let held = h (subst IsTrue (sym (high_valid c before)) shown) (subst IsFalse (sym (same_transfer pace c before)) stays) in
      record {
        valid = sym (same.valid c before) ∙ held.valid ∙ same.valid (suc c) lt;
        beat = sym (same.beat c before) ∙ held.beat ∙ same.beat (suc c) lt;
      })

  same_pace : (pace : Pace) (c : ℕ) → c < count → KeepsPace pace one c → KeepsPace pace two c
  same_pace pace c lt h = record {
    allowed = λ shown. subst IsTrue (same_may pace c lt) (h.allowed (subst IsTrue (sym (high_valid c lt)) shown));
    held = same_held pace c lt h.held;
  }

  same_formed : (side : Side) (c : ℕ) → c < count → IsWellFormed side (is_open side.pace one c) (channel_before side.pace one c) (beat_at one c)
      → IsWellFormed side (is_open side.pace two c) (channel_before side.pace two c) (beat_at two c)
  same_formed side c lt h =
      subst (λ beat. IsWellFormed side (is_open side.pace two c) (channel_before side.pace two c) beat) (same.beat c lt)
      (subst (λ channel. IsWellFormed side (is_open side.pace two c) channel (beat_at one c)) (same_channel side.pace c (omega arith))
      (subst (λ opened. IsWellFormed side opened (channel_before side.pace one c) (beat_at one c)) (same_open side.pace c (omega arith)) h))

  pub same_legal : (side : Side) → IsLegalSource side one count → IsLegalSource side two count
  same_legal side h c lt = record {
    paced = same_pace side.pace c lt (h c lt).paced;
    formed = λ shown. same_formed side c lt ((h c lt).formed (subst IsTrue (sym (high_valid c lt)) shown));
  }

  pub same_proper : (side : Side) → IsProperAtSink side one count → IsProperAtSink side two count
  same_proper side h c lt = same_pace side.pace c lt (h c lt)

  pub same_count : (side : Side) (c : ℕ) → c < count → shown_count side one c ≡ shown_count side two c
  same_count side c lt = ap (λ (beat : Beat). symbol_count side beat) (same.beat c lt)

  same_symbols : (side : Side) (c : ℕ) → c < count → symbols_in side one c ≡ symbols_in side two c
  same_symbols side c lt =
      ap (λ (t : Bool). if t then shown_symbols side one c else []) (same_transfer side.pace c lt)
      ∙ ap (λ (beat : Beat). if is_transfer side.pace two c then symbols_of side beat else []) (same.beat c lt)

  pub same_transferred : (side : Side) (c : ℕ) → c ≤ count → transferred_symbols side one c ≡ transferred_symbols side two c
  same_transferred side zero le = refl
  same_transferred side (suc c) le =
      ap (λ (xs : List Symbol). xs ++ symbols_in side one c) (same_transferred side c (omega arith))
      ∙ ap (λ (xs : List Symbol). transferred_symbols side two c ++ xs) (same_symbols side c (omega arith))

  pub same_kept : (passes : ℕ → Bool) (side : Side) (c : ℕ) → c ≤ count → kept_symbols passes side one c ≡ kept_symbols passes side two c
  same_kept passes side c le = ap (filter (λ (symbol : Symbol). passes symbol.channel)) (same_transferred side c le)

module _ (passes : ℕ → Bool) (source sink : Side) (from to from' to' : EndView) (count : ℕ) (up : AgreeBefore from from' count) (down : AgreeBefore to to' count) where
  same_undelivered : (c : ℕ) → c ≤ count → undelivered passes source sink from to c ≡ undelivered passes source sink from' to' c
  same_undelivered c le =
      ap (λ (xs : List Symbol). drop (length xs) (kept_symbols passes source from c)) (same_transferred to to' count down sink c le)
      ∙ ap (drop (length (delivered_symbols sink to' c))) (same_kept from from' count up passes source c le)

  same_matched : (c : ℕ) → c < count → matched_symbols passes source sink from to c ≡ matched_symbols passes source sink from' to' c
  same_matched c lt =
      ap (λ n. take n (drop (length (delivered_symbols sink to c)) (kept_symbols passes source from (suc c)))) (same_count to to' count down sink c lt)
      ∙ ap (λ (xs : List Symbol). take (shown_count sink to' c) (drop (length xs) (kept_symbols passes source from (suc c)))) (same_transferred to to' count down sink c (omega arith))
      ∙ ap (λ (xs : List Symbol). take (shown_count sink to' c) (drop (length (delivered_symbols sink to' c)) xs)) (same_kept from from' count up passes source (suc c) (omega arith))

  same_delivery : DeliversPrefix passes source sink from to count → DeliversPrefix passes source sink from' to' count
  same_delivery h = record {
    in_order = λ c le.
        subst (λ (xs : List Symbol). IsPrefix (map without_error (delivered_symbols sink to' c)) (map without_error xs)) (same_kept from from' count up passes source c le)
        (subst (λ (xs : List Symbol). IsPrefix (map without_error xs) (map without_error (kept_symbols passes source from c))) (same_transferred to to' count down sink c le) (h.in_order c le));
    holds_data = λ c lt moves. subst (λ n. 0 < n) (same_count to to' count down sink c lt) (h.holds_data c lt (subst IsTrue (sym (same_transfer to to' count down sink.pace c lt)) moves));
    errors = λ some c lt moves.
        sym (ap (λ (b : Beat). b.error) (down.beat c lt))
        ∙ h.errors some c lt (subst IsTrue (sym (same_transfer to to' count down sink.pace c lt)) moves)
        ∙ ap joined_error (same_matched c lt);
  }

  same_lag : (limit : ℕ) → LagsWithin limit passes source sink from to count → LagsWithin limit passes source sink from' to' count
  same_lag limit h c le =
      subst (λ (xs : List Symbol). length xs ≤ length (delivered_symbols sink to' c) + limit) (same_kept from from' count up passes source c le)
      (subst (λ (xs : List Symbol). length (kept_symbols passes source from c) ≤ length xs + limit) (same_transferred to to' count down sink c le) (h c le))

same_drops : (source sink : Side) (from from' : EndView) (dropped dropped' : ℕ → ℕ) (count : ℕ) → AgreeBefore from from' count → ((c : ℕ) → c < count → dropped c ≡ dropped' c)
    → ShowsDropped source sink from dropped count → ShowsDropped source sink from' dropped' count
same_drops source sink from from' dropped dropped' count up same h c lt =
    sym (ap (λ v. v == 1) (same c lt))
    ∙ h c lt
    ∙ ap (λ t. t && nat_lt sink.max_channel (from.channel c)) (same_transfer from from' count up source.pace c lt)
    ∙ ap (λ (b : Beat). is_transfer source.pace from' c && nat_lt sink.max_channel b.channel) (up.beat c lt)

pub same_served : (stream : Stream) (one two : StreamRun) (count : ℕ) → RunsAgreeBefore one two count → IsServed stream one count → IsServed stream two count
same_served stream one two count same h = record {
  delivers = same_delivery (reaches stream.sink) stream.source stream.sink one.source one.sink two.source two.sink count same.source same.sink h.delivers;
  lags = same_lag (reaches stream.sink) stream.source stream.sink one.source one.sink two.source two.sink count same.source same.sink _ h.lags;
  proper = same_proper one.sink two.sink count same.sink stream.sink h.proper;
  drops = same_drops stream.source stream.sink one.source two.source one.dropped two.dropped count same.source same.dropped h.drops;
}

pub same_awake : (window : ℕ) (stream : Stream) (one two : StreamRun) (count : ℕ) → RunsAgreeBefore one two count → NeverIdles window stream one count → NeverIdles window stream two count
same_awake window stream one two count same h =
    record {
      delivers = λ start le ready beats. (
          let found = h.delivers start le (λ c from to. ready_back c (omega arith) (ready c from to)) (λ c from to. subst (λ (xs : List Symbol). IsTrue (makes_beat stream.sink.symbols xs)) (sym (way c (omega arith))) (beats c from to)) in
          (found.0, found.1, found.2, subst IsTrue (same_transfer one.sink two.sink count same.sink stream.sink.pace found.0 (omega arith)) found.3));
      accepts = λ start le ready. (
          let found = h.accepts start le (λ c from to. ready_back c (omega arith) (ready c from to)) in
          (found.0, found.1, found.2, accepted found.0 (omega arith) found.3));
      takes_in = λ start le room. (
          let found = h.takes_in start le (λ c from to. subst (λ (xs : List Symbol). beats_begun stream.sink.symbols xs + stream.source.symbols ≤ stream.fifo_depth) (sym (way c (omega arith))) (room c from to)) in
          (found.0, found.1, found.2, accepted found.0 (omega arith) found.3));
      shows = λ direct start le beats. (
          let found = h.shows direct start le (λ c from to. subst (λ (xs : List Symbol). IsTrue (makes_beat stream.sink.symbols xs)) (sym (way c (omega arith))) (beats c from to)) in
          (found.0, found.1, found.2, subst IsTrue (high_valid one.sink two.sink count same.sink found.0 (omega arith)) found.3));
      frees = λ direct start le sent quiet. (
          let found = h.frees direct start le
          (λ c from to. subst IsTrue (sym (high_valid one.source two.source count same.source c (omega arith))) (sent c from to))
          (λ c from to. subst IsFalse (sym (high_valid one.sink two.sink count same.sink c (omega arith))) (quiet c from to)) in
          (found.0, found.1, found.2, subst IsTrue (same_transfer one.source two.source count same.source stream.source.pace found.0 (omega arith)) found.3));
    }
  where
    way : (c : ℕ) → c ≤ count → on_the_way stream one c ≡ on_the_way stream two c
    way c le = same_undelivered (reaches stream.sink) stream.source stream.sink one.source one.sink two.source two.sink count same.source same.sink c le

    ready_back : (c : ℕ) → c < count → IsTrue (is_ready_cycle stream.sink.pace two.sink c) → IsTrue (is_ready_cycle stream.sink.pace one.sink c)
    ready_back c lt h = subst IsTrue (sym (same_ready_cycle one.sink two.sink count same.sink stream.sink.pace c lt)) h

    accepted : (c : ℕ) → c < count → IsTrue (is_high one.source.ready c) → IsTrue (is_high two.source.ready c)
    accepted c lt h = subst IsTrue (ap (λ v. v == 1) (same.source.ready c lt)) h
