-- A wire serves its stream.
use Rattle.std.proofs.Common.{◌≡◌, ℕ, zero, suc, ◌-◌, ◌≤◌, ◌<◌, Bool, true, false, cond, IsTrue, ◌||◌, ◌&&◌, List, [], ◌++◌, map, length, take, drop, refl, ap, sym, ◌∙◌, subst, arith, nat_lt, nat_le}
use Rattle.std.proofs.lemmas.List.{take_all, drop_at, drop_all}
use Rattle.std.proofs.lemmas.Bool.{and_parts, cond-true, le-leb, leb-true, le-ltb, or_left, eq-eqb, both_ways}
use Rattle.stream_runs.specs.View.{EndView, Side, beat_at, is_high, is_transfer, is_ready_cycle}
use Rattle.stream_runs.specs.Source.{IsLegalSource, KeepsPace, IsHeld}
use Rattle.stream_runs.specs.Symbols.{Symbol, without_error, shown_count, shown_symbols, symbols_in, transferred_symbols, kept_symbols, joined_error}
use Rattle.stream_runs.specs.Delivery.{DeliversPrefix, LagsWithin, ShowsDropped, IsServed, reaches, matched_symbols}
use Rattle.stream_runs.specs.Awake.{NeverIdles, stream_window, undelivered, makes_beat}
use Rattle.stream_runs.specs.Laws.{prefix_of_same, kept_more, joined_error_of_beat, length_in, legal_holds_data}
use Rattle.stream_runs.specs.Ends.{Declared, Signals, side_of, view_of, stream_of, run_of, AreAlike, IsWire, byte_packets, packet_signals}

-- two sides that read a beat alike
pub record ReadAlike (one two : Side) : Type 0 where
  pub latency : one.pace.latency ≡ two.pace.latency
  pub symbols : one.symbols ≡ two.symbols
  pub symbol_bits : one.symbol_bits ≡ two.symbol_bits
  pub first_high : one.first_high ≡ two.first_high

pub same_in : (one two : Side) (view : EndView) (c : ℕ) → ReadAlike one two → symbols_in one view c ≡ symbols_in two view c
same_in one two view c alike = rw (alike.latency, alike.symbols, alike.symbol_bits, alike.first_high) refl

pub same_transferred : (one two : Side) (view : EndView) (c : ℕ) → ReadAlike one two → transferred_symbols one view c ≡ transferred_symbols two view c
same_transferred one two view zero alike = refl
same_transferred one two view (suc c) alike = rw (same_transferred one two view c alike, same_in one two view c alike) refl

module _ (source sink : Side) (view : EndView) (count : ℕ) (alike : ReadAlike source sink) (positive : 0 < source.symbols)
    (reach : source.max_channel ≤ sink.max_channel) (legal : IsLegalSource source view count) where
  -- each beat holds a symbol, on a channel that the sink takes
  formed : (c : ℕ) → c < count → IsTrue (is_transfer source.pace view c) → (0 < shown_count source view c) × IsTrue (reaches sink (view.channel c))
  formed c h moves =
      let shown = (and_parts (is_high view.valid c) (nat_lt 0 source.pace.latency || is_high view.ready c) moves).0 in
      let beat = (legal c h).formed shown in
      (legal_holds_data source view count positive legal c h moves, le-leb (view.channel c) sink.max_channel (omega (arith, beat.in_range)))

  all_kept : (c : ℕ) → c ≤ count → kept_symbols (reaches sink) source view c ≡ transferred_symbols source view c
  all_kept zero h = refl
  all_kept (suc c) h =
      kept_more (reaches sink) source view c
      ∙ (ap (λ (xs : List Symbol). xs ++ cond (is_transfer source.pace view c && reaches sink (view.channel c)) (shown_symbols source view c) []) (all_kept c (omega arith))
      ∙ ap (λ (xs : List Symbol). transferred_symbols source view c ++ xs) (by_transfer (is_transfer source.pace view c) refl))
    where
      by_transfer : (b : Bool) → is_transfer source.pace view c ≡ b → cond (b && reaches sink (view.channel c)) (shown_symbols source view c) [] ≡ cond b (shown_symbols source view c) []
      by_transfer false stays = refl
      by_transfer true moves = cond-true (reaches sink (view.channel c)) (shown_symbols source view c) [] (formed c h moves).1

  delivered_is : (c : ℕ) → c ≤ count → kept_symbols (reaches sink) source view c ≡ transferred_symbols sink view c
  delivered_is c h = all_kept c h ∙ same_transferred source sink view c alike

  moves_too : (c : ℕ) → IsTrue (is_transfer sink.pace view c) → IsTrue (is_transfer source.pace view c)
  moves_too c moves = rw alike.latency moves

  same_count : (c : ℕ) → shown_count source view c ≡ shown_count sink view c
  same_count c = rw alike.symbols refl

  errors_at : (c : ℕ) → c < count → IsTrue (is_transfer sink.pace view c) → view.error c ≡ joined_error (matched_symbols (reaches sink) source sink view view c)
  errors_at c h moves =
      let some : 0 < shown_count sink view c = omega (arith, same_count c, (formed c h (moves_too c moves)).0) in
      let shown : symbols_in sink view c ≡ shown_symbols sink view c = cond-true (is_transfer sink.pace view c) (shown_symbols sink view c) [] moves in
      let later : kept_symbols (reaches sink) source view (suc c) ≡ transferred_symbols sink view c ++ shown_symbols sink view c =
      delivered_is (suc c) h ∙ ap (λ (xs : List Symbol). transferred_symbols sink view c ++ xs) shown in
      let part : matched_symbols (reaches sink) source sink view view c ≡ shown_symbols sink view c =
      ap (λ (xs : List Symbol). take (shown_count sink view c) (drop (length (transferred_symbols sink view c)) xs)) later
      ∙ (ap (take (shown_count sink view c)) (drop_at (transferred_symbols sink view c) (shown_symbols sink view c) (length (transferred_symbols sink view c)) refl)
      ∙ take_all (shown_count sink view c) (shown_symbols sink view c) (omega (arith, sym (ap length shown) ∙ length_in sink view c moves))) in
      sym (ap joined_error part ∙ joined_error_of_beat sink (beat_at view c) some)

  wire_delivers : DeliversPrefix (reaches sink) source sink view view count
  wire_delivers =
      record {
        in_order = λ c h. prefix_of_same _ _ (ap (map without_error) (sym (delivered_is c h)));
        holds_data = λ c h moves. omega (arith, same_count c, (formed c h (moves_too c moves)).0);
        errors = λ _. errors_at;
      }

  wire_lags : (limit : ℕ) → LagsWithin limit (reaches sink) source sink view view count
  wire_lags limit c h = omega (arith, ap length (delivered_is c h))

  wire_drops : (dropped : ℕ → ℕ) → ((c : ℕ) → c < count → dropped c ≡ 0) → ShowsDropped source sink view dropped count
  wire_drops dropped none c h = rw (none c h) (by_transfer (is_transfer source.pace view c) refl)
    where
      by_transfer : (b : Bool) → is_transfer source.pace view c ≡ b → false ≡ (b && nat_lt sink.max_channel (view.channel c))
      by_transfer false stays = refl
      by_transfer true moves = sym (le-ltb sink.max_channel (view.channel c) (leb-true (view.channel c) sink.max_channel (formed c h moves).1))

  nothing_on_the_way : (c : ℕ) → c ≤ count → undelivered (reaches sink) source sink view view c ≡ []
  nothing_on_the_way c h =
      ap (drop (length (transferred_symbols sink view c))) (delivered_is c h) ∙ drop_all (length (transferred_symbols sink view c)) (transferred_symbols sink view c) (omega arith)

-- where both ends are at ready latency 0
module _ (source sink : Declared) (from to : Signals) (dropped : ℕ → ℕ) (count : ℕ) (alike : AreAlike source sink) (positive : 0 < source.symbols) (wire : IsWire from to dropped count)
    (legal : IsLegalSource (side_of source) (view_of from) count) where
  reads : ReadAlike (side_of source) (side_of sink)
  reads = record {
    latency = rw (alike.source_ready, alike.sink_ready, alike.source_latency, alike.sink_latency) refl;
    symbols = alike.symbols;
    symbol_bits = alike.symbol_bits;
    first_high = alike.first_high;
  }

  direct : (side_of sink).pace.latency ≡ 0
  direct = rw (alike.sink_ready, alike.sink_latency) refl

  reach : (side_of source).max_channel ≤ (side_of sink).max_channel
  reach = rw alike.channel_bits (by_test (nat_lt 0 sink.channel_bits))
    where
      by_test : (b : Bool) → cond b source.max_channel 0 ≤ cond b sink.max_channel 0
      by_test true = alike.max_channel
      by_test false = omega arith

  same_pace : (c : ℕ) → KeepsPace (side_of source).pace (view_of from) c → KeepsPace (side_of sink).pace (view_of from) c
  same_pace c paced = record { allowed = λ _. or_left _ _ (eq-eqb (side_of sink).pace.latency 0 direct); held = by_cycle c paced.held }
    where
      by_cycle : (c : ℕ) → IsHeld (side_of source).pace (view_of from) c → IsHeld (side_of sink).pace (view_of from) c
      by_cycle zero held = tt
      by_cycle (suc c) held = λ shown stays. held shown (rw reads.latency stays)

  pub wire_serves : IsServed (stream_of source sink 0) (run_of from to dropped) count
  wire_serves =
      subst (λ (view : Signals). IsServed (stream_of source sink 0) (run_of from view dropped) count) (sym wire.joined)
      (record {
        delivers = wire_delivers (side_of source) (side_of sink) (view_of from) count reads positive reach legal;
        lags = wire_lags (side_of source) (side_of sink) (view_of from) count reads positive reach legal _;
        proper = λ c h. same_pace c (legal c h).paced;
        drops = wire_drops (side_of source) (side_of sink) (view_of from) count reads positive reach legal dropped wire.drops_none;
      })

  pub wire_never_idles : (window : ℕ) → 0 < window → NeverIdles window (stream_of source sink 0) (run_of from to dropped) count
  wire_never_idles window some =
      subst (λ (view : Signals). NeverIdles window (stream_of source sink 0) (run_of from view dropped) count) (sym wire.joined)
      (record {
        delivers = λ start h ready work. absurd (no_beat (nothing_on_the_way (side_of source) (side_of sink) (view_of from) count reads positive reach legal start (omega arith)) (work start (omega arith) (omega arith)));
        accepts = λ start h ready. (start, omega arith, omega arith, at_once start (ready start (omega arith) (omega arith)));
        takes_in = λ start h room. absurd (omega (arith, positive, room start (omega arith) (omega arith)));
        shows = λ _ start h work. absurd (no_beat (nothing_on_the_way (side_of source) (side_of sink) (view_of from) count reads positive reach legal start (omega arith)) (work start (omega arith) (omega arith)));
        frees = λ _ start h sent quiet. absurd (both_ways _ (quiet start (omega arith) (omega arith)) (sent start (omega arith) (omega arith)));
      })
    where
      at_once : (c : ℕ) → IsTrue (is_ready_cycle (side_of sink).pace (view_of from) c) → IsTrue (is_high (view_of from).ready c)
      at_once c ready =
          let same : c - (side_of sink).pace.latency ≡ c = omega (arith, direct) in
          subst (λ n. is_high (view_of from).ready n ≡ true) same (and_parts (nat_le (side_of sink).pace.latency c) (is_high (view_of from).ready (c - (side_of sink).pace.latency)) ready).1

      no_beat : {xs : List Symbol} → xs ≡ [] → IsTrue (makes_beat sink.symbols xs) → ⊥
      no_beat {xs} none made = both_ways (makes_beat sink.symbols []) (lt_none (nat_le sink.symbols 0) refl) (subst (λ (ys : List Symbol). makes_beat sink.symbols ys ≡ true) none made)
        where
          lt_none : (b : Bool) → nat_le sink.symbols 0 ≡ b → (b || false) ≡ false
          lt_none true few = absurd (omega (arith, positive, alike.symbols, leb-true sink.symbols 0 few))
          lt_none false few = refl

  pub wire_is_awake : NeverIdles (stream_window (stream_of source sink 0)) (stream_of source sink 0) (run_of from to dropped) count
  wire_is_awake = wire_never_idles (stream_window (stream_of source sink 0)) (omega arith)

-- the first form is an instance
pub byte_packets_alike : AreAlike byte_packets byte_packets
byte_packets_alike =
    record {
      symbols = refl;
      symbol_bits = refl;
      first_high = refl;
      source_ready = refl;
      sink_ready = refl;
      source_latency = refl;
      sink_latency = refl;
      channel_bits = refl;
      max_channel = omega arith;
      error_bits = refl;
      packets = refl;
      empty_bits = refl;
    }

pub byte_packets_served : (ready valid word first last dropped : ℕ → ℕ) (count : ℕ) → ((c : ℕ) → c < count → dropped c ≡ 0)
    → IsLegalSource (side_of byte_packets) (view_of (packet_signals ready valid word first last)) count
    → IsServed (stream_of byte_packets byte_packets 0) (run_of (packet_signals ready valid word first last) (packet_signals ready valid word first last) dropped) count
byte_packets_served ready valid word first last dropped count none legal =
    wire_serves byte_packets byte_packets (packet_signals ready valid word first last) (packet_signals ready valid word first last) dropped count byte_packets_alike (omega arith) (record { joined = refl; drops_none = none }) legal
