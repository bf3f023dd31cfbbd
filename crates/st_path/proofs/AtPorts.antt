-- What a sink sees at its ports is what stands on a stage's nets, though it has no port for some of them.
use Rattle.std.proofs.Common.{◌≡◌, ℕ, zero, suc, ◌+◌, ◌-◌, ◌%◌, ◌^◌, ◌≤◌, ◌<◌, Bool, true, false, ◌&&◌, ◌||◌, IsTrue, List, [], ◌++◌, map, length, take, drop, refl, ap, sym, ◌∙◌, subst, arith, nat_lt, nat_le}
use Rattle.std.specs.Prelude.{if◌then◌else◌, ◌==◌}
use Rattle.std.specs.List.{range_with_len}
use Rattle.std.proofs.Math.Nat.{mod-eq_of_lt}
use Rattle.std.proofs.lemmas.Bool.{and_parts, ltb-false}
use Rattle.histories.specs.History.{IsPrefix}
use Rattle.stream_runs.specs.View.{EndView, Beat, Pace, Side, beat_at, is_high, is_transfer, is_ready_cycle}
use Rattle.stream_runs.specs.Source.{was_ready, beats_since_ready, may_show, is_open, channel_before, IsHeld, IsWellFormed, IsProperAtSink}
use Rattle.stream_runs.specs.Symbols.{Symbol, without_error, value_of, shown_count, shown_symbols, symbols_in, transferred_symbols, delivered_symbols, kept_symbols, joined_error}
use Rattle.stream_runs.specs.Delivery.{DeliversPrefix, LagsWithin}
use Rattle.stream_runs.specs.Ends.{Declared}

-- the signal where there is a port, and else 0
abbrev pub kept_if : Bool → ℕ → ℕ
kept_if present level = if present then level else 0

-- as much of it as fits a port of so many bits
abbrev pub kept_bits : ℕ → ℕ → ℕ
kept_bits bits level = if nat_lt 0 bits then level % 2 ^ bits else 0

-- the beat without what an end has no port for
abbrev pub beat_at_ports : Declared → Beat → Beat
beat_at_ports end beat = record {
  word = beat.word;
  channel = kept_if (nat_lt 0 end.channel_bits) beat.channel;
  error = kept_if (nat_lt 0 end.error_bits) beat.error;
  first = kept_if end.packets beat.first;
  last = kept_if end.packets beat.last;
  empty = kept_bits end.empty_bits beat.empty;
}

abbrev pub at_ports : Declared → EndView → EndView
at_ports end view = record {
  valid = view.valid;
  word = view.word;
  channel = λ c. kept_if (nat_lt 0 end.channel_bits) (view.channel c);
  error = λ c. kept_if (nat_lt 0 end.error_bits) (view.error c);
  first = λ c. kept_if end.packets (view.first c);
  last = λ c. kept_if end.packets (view.last c);
  empty = λ c. kept_bits end.empty_bits (view.empty c);
  ready = view.ready;
}

kept_same : (present : Bool) (level : ℕ) → (present ≡ false → level ≡ 0) → kept_if present level ≡ level
kept_same true level none = refl
kept_same false level none = sym (none refl)

kept_high : (present : Bool) (level : ℕ) → (present ≡ false → (level == 1) ≡ false) → (kept_if present level == 1) ≡ (level == 1)
kept_high true level none = refl
kept_high false level none = sym (none refl)

-- a port of no bits bears 0 alone
pub none_below : (bits level : ℕ) → bits ≤ 0 → level < 2 ^ bits → level ≡ 0
none_below zero level none few = omega arith
none_below (suc bits) level none few = absurd (omega arith)

-- a number that fits the port is kept
kept_small : (bits level : ℕ) → level < 2 ^ bits → kept_bits bits level ≡ level
kept_small bits level few = by_port (nat_lt 0 bits) refl
  where
    by_port : (b : Bool) → nat_lt 0 bits ≡ b → (if b then level % 2 ^ bits else 0) ≡ level
    by_port true is = mod-eq_of_lt few
    by_port false is = sym (none_below bits level (ltb-false 0 bits is) few)

kept_count : (last : Bool) (symbols empty kept : ℕ) → (last ≡ true → kept ≡ empty) → (if last then symbols - kept else symbols) ≡ (if last then symbols - empty else symbols)
kept_count true symbols empty kept same = ap (λ n. symbols - n) (same refl)
kept_count false symbols empty kept same = refl

abbrev symbol_with : Side → ℕ → ℕ → ℕ → Bool → Bool → ℕ → ℕ → Symbol
symbol_with side word channel error first last count k =
    record { value = value_of side word k; channel = channel; first = first && (k == 0); last = last && (k + 1 == count); error = error }

symbols_by_parts : (side : Side) (w w' ch ch' e e' : ℕ) (f f' l l' : Bool) (n n' : ℕ) → w ≡ w' → ch ≡ ch' → e ≡ e' → f ≡ f' → l ≡ l' → n ≡ n'
    → map (symbol_with side w ch e f l n) (range_with_len 0 n) ≡ map (symbol_with side w' ch' e' f' l' n') (range_with_len 0 n')
symbols_by_parts side w w' ch ch' e e' f f' l l' n n' p0 p1 p2 p3 p4 p5 = rw (p0, p1, p2, p3, p4, p5) refl

module _ (end : Declared) (view : EndView) where
  was_same : (c : ℕ) → was_ready (at_ports end view) c ≡ was_ready view c
  was_same zero = refl
  was_same (suc c) = ap (λ w. is_high view.ready (suc c) || w) (was_same c)

  since_same : (pace : Pace) (c : ℕ) → beats_since_ready pace (at_ports end view) c ≡ beats_since_ready pace view c
  since_same pace zero = refl
  since_same pace (suc c) = ap (λ n. if is_high view.ready (suc c) then 0 else n + (if is_transfer pace view (suc c) then 1 else 0)) (since_same pace c)

  may_same : (pace : Pace) (c : ℕ) → may_show pace (at_ports end view) c ≡ may_show pace view c
  may_same pace c =
      ap (λ w. (pace.latency == 0) || (if nat_lt pace.latency pace.allowance then nat_le pace.latency c && w && nat_le (beats_since_ready pace (at_ports end view) c) pace.allowance else is_ready_cycle pace view c)) (was_same (c - pace.latency))
      ∙ ap (λ n. (pace.latency == 0) || (if nat_lt pace.latency pace.allowance then nat_le pace.latency c && was_ready view (c - pace.latency) && nat_le n pace.allowance else is_ready_cycle pace view c)) (since_same pace c)

  held_same : (pace : Pace) (c : ℕ) → IsHeld pace view c → IsHeld pace (at_ports end view) c
  held_same pace zero h = h
  held_same pace (suc c) h = λ shown stays. (let same = h shown stays in record { valid = same.valid; beat = ap (beat_at_ports end) same.beat })

  pub proper_at_ports : (side : Side) (count : ℕ) → IsProperAtSink side view count → IsProperAtSink side (at_ports end view) count
  proper_at_ports side count h c lt = record {
    allowed = λ shown. subst IsTrue (sym (may_same side.pace c)) ((h c lt).allowed shown);
    held = held_same side.pace c (h c lt).held;
  }

module _ (end : Declared) (side : Side) (view : EndView) (count : ℕ)
    (no_channels : nat_lt 0 end.channel_bits ≡ false → side.max_channel ≡ 0) (error_bits : side.error_bits ≡ end.error_bits) (packets : side.packets ≡ end.packets)
    (formed : (c : ℕ) → c < count → IsTrue (is_high view.valid c) → IsWellFormed side (is_open side.pace view c) (channel_before side.pace view c) (beat_at view c))
    (empties : IsTrue side.packets → side.symbols ≤ 2 ^ end.empty_bits) where
  shown_at : (c : ℕ) → IsTrue (is_transfer side.pace view c) → IsTrue (is_high view.valid c)
  shown_at c moves = (and_parts (is_high view.valid c) (nat_lt 0 side.pace.latency || is_high view.ready c) moves).0

  same_last : (c : ℕ) → c < count → IsTrue (is_transfer side.pace view c) → is_high (at_ports end view).last c ≡ is_high view.last c
  same_last c lt moves = kept_high end.packets (view.last c) (λ none. ((formed c lt (shown_at c moves)).unmarked (packets ∙ none)).1)

  -- an empty that counts fits the port
  same_empty : (c : ℕ) → c < count → IsTrue (is_transfer side.pace view c) → is_high view.last c ≡ true → kept_bits end.empty_bits (view.empty c) ≡ view.empty c
  same_empty c lt moves last =
      let of = formed c lt (shown_at c moves) in
      kept_small end.empty_bits (view.empty c) (let few = of.holds_data last in let room = empties (has_packets side.packets refl of) in omega (arith, few, room))
    where
      has_packets : (b : Bool) → side.packets ≡ b → IsWellFormed side (is_open side.pace view c) (channel_before side.pace view c) (beat_at view c) → side.packets ≡ true
      has_packets true is of = is
      has_packets false is of = absurd (let none = (of.unmarked is).1 in cc)

  same_count : (c : ℕ) → c < count → IsTrue (is_transfer side.pace view c) → shown_count side (at_ports end view) c ≡ shown_count side view c
  same_count c lt moves =
      ap (λ b. if b then side.symbols - kept_bits end.empty_bits (view.empty c) else side.symbols) (same_last c lt moves)
      ∙ kept_count (is_high view.last c) side.symbols (view.empty c) (kept_bits end.empty_bits (view.empty c)) (same_empty c lt moves)

  same_error : (c : ℕ) → c < count → IsTrue (is_transfer side.pace view c) → (at_ports end view).error c ≡ view.error c
  same_error c lt moves = kept_same (nat_lt 0 end.error_bits) (view.error c) (λ none. (formed c lt (shown_at c moves)).quiet (let few = ltb-false 0 end.error_bits none in omega arith))

  same_shown : (c : ℕ) → c < count → IsTrue (is_transfer side.pace view c) → shown_symbols side (at_ports end view) c ≡ shown_symbols side view c
  same_shown c lt moves =
      let of = formed c lt (shown_at c moves) in
      symbols_by_parts side (view.word c) (view.word c) ((at_ports end view).channel c) (view.channel c) ((at_ports end view).error c) (view.error c)
      (is_high (at_ports end view).first c) (is_high view.first c) (is_high (at_ports end view).last c) (is_high view.last c) (shown_count side (at_ports end view) c) (shown_count side view c)
      refl
      (kept_same (nat_lt 0 end.channel_bits) (view.channel c) (λ none. (let most = of.in_range in let low = no_channels none in omega arith)))
      (same_error c lt moves)
      (kept_high end.packets (view.first c) (λ none. (of.unmarked (packets ∙ none)).0))
      (same_last c lt moves)
      (same_count c lt moves)

  same_symbols : (c : ℕ) → c < count → symbols_in side (at_ports end view) c ≡ symbols_in side view c
  same_symbols c lt = by_transfer (is_transfer side.pace view c) refl
    where
      by_transfer : (b : Bool) → is_transfer side.pace view c ≡ b → (if b then shown_symbols side (at_ports end view) c else []) ≡ (if b then shown_symbols side view c else [])
      by_transfer true moves = same_shown c lt moves
      by_transfer false stays = refl

  pub same_given : (c : ℕ) → c ≤ count → delivered_symbols side (at_ports end view) c ≡ delivered_symbols side view c
  same_given zero h = refl
  same_given (suc c) h =
      ap (λ (xs : List Symbol). xs ++ symbols_in side (at_ports end view) c) (same_given c (omega arith))
      ∙ ap (λ (xs : List Symbol). transferred_symbols side view c ++ xs) (same_symbols c h)

  module _ (passes : ℕ → Bool) (source : Side) (from : EndView) where
    pub delivers_at_ports : DeliversPrefix passes source side from view count → DeliversPrefix passes source side from (at_ports end view) count
    delivers_at_ports h = record {
      in_order = λ c le. subst (λ (xs : List Symbol). IsPrefix (map without_error xs) (map without_error (kept_symbols passes source from c))) (sym (same_given c le)) (h.in_order c le);
      holds_data = λ c lt moves. subst (λ n. 0 < n) (sym (same_count c lt moves)) (h.holds_data c lt moves);
      errors = λ some c lt moves.
          same_error c lt moves ∙ h.errors some c lt moves
          ∙ ap (λ n. joined_error (take n (drop (length (delivered_symbols side view c)) (kept_symbols passes source from (suc c))))) (sym (same_count c lt moves))
          ∙ ap (λ (xs : List Symbol). joined_error (take (shown_count side (at_ports end view) c) (drop (length xs) (kept_symbols passes source from (suc c))))) (sym (same_given c (omega arith)));
    }

    pub lags_at_ports : (limit : ℕ) → LagsWithin limit passes source side from view count → LagsWithin limit passes source side from (at_ports end view) count
    lags_at_ports limit h c le = subst (λ (xs : List Symbol). length (kept_symbols passes source from c) ≤ length xs + limit) (sym (same_given c le)) (h c le)
