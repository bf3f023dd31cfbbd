-- Runs in which a machine does too much or too little are refused.
use Rattle.std.proofs.Common.{◌≡◌, ◌⊎◌, ℕ, zero, suc, ◌+◌, ◌-◌, ◌*◌, ◌≤◌, ◌<◌, Bool, true, false, ◌||◌, List, [], ◌∷◌, ◌++◌, map, length, refl, ap, ◌∙◌, subst, inl, inr, arith, lit<, lit≤, eqb, nat_lt, get_or, sym}
use Rattle.std.proofs.lemmas.List.{append-nil, length-map, get_or_append_left}
use Rattle.std.specs.List.{range_with_len}
use Rattle.std.proofs.lemmas.Bool.{cases_Bool, and_parts, and_from, and_left, and_right, le-leb, cond-true, cond-false}
use Rattle.stream_runs.specs.View.{EndView, beat_at, is_high, is_transfer}
use Rattle.histories.specs.History.{IsPrefix}
use Rattle.stream_runs.specs.Symbols.{Symbol, without_error, symbol_in, transferred_symbols, symbols_in, shown_symbols, kept_symbols, shown_count}
use Rattle.stream_runs.specs.Source.{IsLegalSource, IsHeld}
use Rattle.stream_runs.specs.Delivery.{DeliversPrefix}
use Rattle.stream_machines.specs.Stage.{StageLaw, KeepsStageLaw, RankMoves, is_drained, chain_shape, chain_run}
use Rattle.stream_machines.specs.Parts.{widen_shape}
use Rattle.stream_runs.specs.Rows.{byte_side, later, pair_side, both_wait, kept_out}
use Rattle.stream_machines.specs.Faults.{pair_of_channels, two_channel_source, waiting_source, eager_sink, noisy_source, quiet_sink, front_delay, back_wire, front_run, back_run, every_other, blinking, noisy_side, any_stage, idle_run, any_direct, held_back_run, hidden_run}
use Rattle.stream_machines.proofs.AwakeLaw.{rank_ends}
use Rattle.histories.specs.Laws.{prefix_length}

pub two_channels-legal : IsLegalSource (byte_side (later 0) 1) two_channel_source 2
two_channels-legal zero h = record { paced = record { allowed = λ _. refl; held = tt }; formed = λ _. record { begins = λ p. absurd (cc); unmarked = λ _. (refl, refl); holds_data = λ l. absurd (cc); in_range = lit≤ tt; one_channel = λ p. absurd (cc); quiet = λ _. refl } }
two_channels-legal (suc zero) h = record { paced = record { allowed = λ _. refl; held = λ s i. absurd (cc) }; formed = λ _. record { begins = λ p. absurd (cc); unmarked = λ _. (refl, refl); holds_data = λ l. absurd (cc); in_range = lit≤ tt; one_channel = λ p. absurd (cc); quiet = λ _. refl } }
two_channels-legal (suc (suc c)) h = absurd (omega arith)

-- what stands in a beginning stands in the whole, at the same place
prefix_get : {A : Type 0} (d : A) (xs ys : List A) (k : ℕ) → IsPrefix xs ys → k < length xs → get_or xs k d ≡ get_or ys k d
prefix_get d xs ys k p h = sym (get_or_append_left xs p.rest d k h) ∙ ap (λ zs. get_or zs k d) p.joins

no_symbol : Symbol
no_symbol = record { value = 0; channel = 0; first = false; last = false; error = 0 }

-- whatever it shows, no stage that may hold one symbol makes beats of two symbols of these
module _ (down : EndView) (rank : ℕ → ℕ) (keeps : KeepsStageLaw (widen_shape (λ _. true) 2 (byte_side (later 0) 1) pair_of_channels) (record { up = two_channel_source; down = down; rank = rank })) where
  law : StageLaw (widen_shape (λ _. true) 2 (byte_side (later 0) 1) pair_of_channels) (record { up = two_channel_source; down = down; rank = rank }) 2
  law = keeps.law 2 two_channels-legal (λ n. absurd (cc))

  shown_two : (c : ℕ) → c < 2 → is_transfer (later 0) down c ≡ true → shown_count pair_of_channels down c ≡ 2
  shown_two c h moves =
      let legal = keeps.legal c (λ b k. two_channels-legal b (omega arith)) (λ n. absurd (cc)) in
      let valid : is_high down.valid c ≡ true = (and_parts (is_high down.valid c) (nat_lt 0 0 || is_high down.ready c) moves).0 in
      cond-false (eqb (down.last c) 1) (2 - down.empty c) 2 ((legal.formed valid).unmarked refl).1

  pair_shown : (c : ℕ) → c < 2 → is_transfer (later 0) down c ≡ true → symbols_in pair_of_channels down c ≡ symbol_in pair_of_channels (beat_at down c) 0 ∷ (symbol_in pair_of_channels (beat_at down c) 1 ∷ [])
  pair_shown c h moves =
      cond-true (is_transfer (later 0) down c) (shown_symbols pair_of_channels down c) [] moves
      ∙ ap (λ n. map (symbol_in pair_of_channels (beat_at down c)) (range_with_len 0 n)) (shown_two c h moves)

  none_shown : (c : ℕ) → is_transfer (later 0) down c ≡ false → symbols_in pair_of_channels down c ≡ []
  none_shown c quiet = cond-false (is_transfer (later 0) down c) (shown_symbols pair_of_channels down c) [] quiet

  pub two_channels : ⊥
  two_channels = by_cycles (cases_Bool (is_transfer (later 0) down 0)) (cases_Bool (is_transfer (later 0) down 1))
    where
      by_cycles : (is_transfer (later 0) down 0 ≡ true) ⊎ (is_transfer (later 0) down 0 ≡ false) → (is_transfer (later 0) down 1 ≡ true) ⊎ (is_transfer (later 0) down 1 ≡ false) → ⊥
      by_cycles (inl early) second =
          let least : length (map without_error (transferred_symbols pair_of_channels down 1)) ≤ 1 = prefix_length (law.prefix.in_order 1 (lit≤ tt)) in
          omega (arith, least, length-map (transferred_symbols pair_of_channels down 1) without_error, ap length (pair_shown 0 (lit< tt) early))
      by_cycles (inr none) (inr none') =
          let lag : 2 ≤ length (transferred_symbols pair_of_channels down 2) + (2 - 1) * 1 = law.hold 2 (lit≤ tt) in
          let all : transferred_symbols pair_of_channels down 2 ≡ [] = ap (λ (xs : List Symbol). ([] ++ xs) ++ symbols_in pair_of_channels down 1) (none_shown 0 none) ∙ none_shown 1 none' in
          omega (arith, lag, ap length all)
      by_cycles (inr none) (inl late) =
          let all : transferred_symbols pair_of_channels down 2 ≡ symbol_in pair_of_channels (beat_at down 1) 0 ∷ (symbol_in pair_of_channels (beat_at down 1) 1 ∷ []) =
          ap (λ (xs : List Symbol). ([] ++ xs) ++ symbols_in pair_of_channels down 1) (none_shown 0 none) ∙ pair_shown 1 (lit< tt) late in
          let prefix = subst (λ (xs : List Symbol). IsPrefix (map without_error xs) (map without_error (kept_symbols (λ _. true) (byte_side (later 0) 1) two_channel_source 2))) all (law.prefix.in_order 2 (lit≤ tt)) in
          let zeroth : down.channel 1 ≡ 0 = ap (λ (symbol : Symbol). symbol.channel) (prefix_get no_symbol _ _ 0 prefix (lit< tt)) in
          let next : down.channel 1 ≡ 1 = ap (λ (symbol : Symbol). symbol.channel) (prefix_get no_symbol _ _ 1 prefix (lit< tt)) in
          omega (arith, zeroth, next)

-- a piece that goes out before its beat is accepted
pub eager : DeliversPrefix (λ _. true) (pair_side true) (byte_side (later 0) 0) waiting_source eager_sink 2 → ⊥
eager s = let p : 1 ≤ 0 = prefix_length (s.in_order 1 (lit≤ tt)) in omega arith

-- an error that is tied to 0 behind a source that shows one
pub tied_error : DeliversPrefix (λ _. true) noisy_side noisy_side noisy_source quiet_sink 1 → ⊥
tied_error s = let p : ◌≡◌ {A = ℕ} 0 1 = s.errors (lit< tt) 0 (lit< tt) refl in omega arith

-- a wire behind a delay: the rank of the chain rises where nothing goes out and the chain is not at rest
pub rank_rises : RankMoves (chain_shape front_delay back_wire) (chain_run front_delay back_wire front_run back_run) 0 → ⊥
rank_rises r = let p : 1 ≤ 0 = r.stays refl refl in omega arith

blinking-legal : (count : ℕ) → IsLegalSource (byte_side (later 1) 0) blinking count
blinking-legal count zero h = record { paced = record { allowed = λ s. absurd (cc); held = tt }; formed = λ s. absurd (cc) }
blinking-legal count (suc c) h = record { paced = record { allowed = λ s. absurd (cc); held = λ s i. absurd (cc) }; formed = λ s. absurd (cc) }

double : ℕ → ℕ
double zero = zero
double (suc k) = suc (suc (double k))

shown_then : (k : ℕ) → every_other (double k) ≡ 1
unfolding double
shown_then zero = refl
shown_then (suc k) = let earlier = shown_then k in omega (arith, earlier)

-- no stage to ready latency 0 shows ready in every other cycle while it is idle and its sink is always ready, whatever its rank
module _ (hold rest step largest : ℕ) (rank : ℕ → ℕ)
    (keeps : KeepsStageLaw (any_stage hold rest step largest) (idle_run rank)) where
  moves_at : (c : ℕ) → RankMoves (any_stage hold rest step largest) (idle_run rank) c
  moves_at c = (keeps.law (suc c) (blinking-legal (suc c)) (λ n. absurd (cc))).rank c (omega arith)

  falls_on : (k : ℕ) → rank (double k) + k ≤ rank 0
  unfolding double
  falls_on zero = omega arith
  falls_on (suc k) =
      let shown : every_other (double k) ≡ 1 = shown_then k in
      let shut : every_other (suc (double k)) ≡ 0 = omega (arith, shown) in
      let first : rank (suc (double k)) ≤ rank (double k) = (moves_at (double k)).stays refl (and_right _ _ refl) in
      let low : eqb (every_other (suc (double k))) 1 ≡ false = ap (λ n. eqb n 1) shut in
      let second : rank (suc (suc (double k))) < rank (suc (double k)) = (moves_at (suc (double k))).falls refl (and_from _ _ (le-leb 0 (suc (double k)) (omega arith)) refl) (and_left _ _ low) in
      omega (arith, falls_on k, first, second)

  pub no_rank_blinks : ⊥
  no_rank_blinks = omega (arith, falls_on (largest + 1), (moves_at 0).bounded)

-- where it shows no beat, no stage lets beats wait whatever its sink does
kept_out-legal : (count : ℕ) → IsLegalSource (byte_side (later 0) 0) kept_out.source count
kept_out-legal count c h =
    record {
      paced = record { allowed = λ _. refl; held = standing c };
      formed = λ _. record { begins = λ p. absurd (cc); unmarked = λ _. (refl, refl); holds_data = λ l. absurd (cc); in_range = lit≤ tt; one_channel = λ p. absurd (cc); quiet = λ _. refl };
    }
  where
    standing : (b : ℕ) → IsHeld (later 0) kept_out.source b
    standing zero = tt
    standing (suc b) = λ shown stays. record { valid = refl; beat = refl }

module _ (hold rest step largest : ℕ) (rank : ℕ → ℕ) (keeps : KeepsStageLaw (any_direct hold rest step largest) (held_back_run rank)) where
  held_back_moves : (c : ℕ) → RankMoves (any_direct hold rest step largest) (held_back_run rank) c
  held_back_moves c = (keeps.law (suc c) (kept_out-legal (suc c)) (λ n. absurd (cc))).rank c (omega arith)

  pub no_source_waits : ⊥
  no_source_waits =
      let (c, from, to, held) = rank_ends rank (λ _. false) 0 (suc largest) (omega (arith, (held_back_moves 0).bounded)) (λ c _ _ _. (held_back_moves c).advances refl refl (and_left _ (is_drained (any_direct hold rest step largest) (held_back_run rank) c) refl)) in
      let p : ◌≡◌ {A = Bool} false true = held in absurd (cc)

-- no stage that keeps nothing for good hides a beat, whatever its sink does
both_wait-legal : (count : ℕ) → IsLegalSource (byte_side (later 0) 0) both_wait.source count
both_wait-legal count zero h = record { paced = record { allowed = λ _. refl; held = tt }; formed = λ _. record { begins = λ p. absurd (cc); unmarked = λ _. (refl, refl); holds_data = λ l. absurd (cc); in_range = lit≤ tt; one_channel = λ p. absurd (cc); quiet = λ _. refl } }
both_wait-legal count (suc zero) h = record { paced = record { allowed = λ s. absurd (cc); held = λ s i. absurd (cc) }; formed = λ s. absurd (cc) }
both_wait-legal count (suc (suc c)) h = record { paced = record { allowed = λ s. absurd (cc); held = λ s i. absurd (cc) }; formed = λ s. absurd (cc) }

one_came : (c : ℕ) → transferred_symbols (byte_side (later 0) 0) both_wait.source (suc c) ≡ transferred_symbols (byte_side (later 0) 0) both_wait.source 1
one_came zero = refl
one_came (suc c) = append-nil _ ∙ one_came c

none_went : (c : ℕ) → transferred_symbols (byte_side (later 0) 0) both_wait.sink c ≡ []
none_went zero = refl
none_went (suc c) = append-nil _ ∙ none_went c

module _ (hold step largest : ℕ) (rank : ℕ → ℕ) (keeps : KeepsStageLaw (any_direct hold 0 step largest) (hidden_run rank)) where
  hidden_moves : (c : ℕ) → RankMoves (any_direct hold 0 step largest) (hidden_run rank) c
  hidden_moves c = (keeps.law (suc c) (both_wait-legal (suc c)) (λ n. absurd (cc))).rank c (omega arith)

  has_beat : (c : ℕ) → 1 ≤ c → is_drained (any_direct hold 0 step largest) (hidden_run rank) c ≡ false
  has_beat zero from = absurd (omega arith)
  has_beat (suc c) from = rw (one_came c, none_went (suc c)) refl

  pub no_beat_hides : ⊥
  no_beat_hides =
      let (c, from, to, held) = rank_ends rank (λ _. false) 1 (suc largest) (omega (arith, (hidden_moves 1).bounded)) (λ c from _ _. (hidden_moves c).advances refl refl (and_right _ _ (has_beat c from))) in
      let p : ◌≡◌ {A = Bool} false true = held in absurd (cc)
