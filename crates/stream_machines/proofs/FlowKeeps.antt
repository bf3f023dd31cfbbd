-- An adapter that passes symbols on as a flow does keeps the whole law of a stage.
use Rattle.std.proofs.Common.{◌≡◌, ℕ, zero, suc, ◌≤◌, ◌<◌, Bool, true, false, cond, IsTrue, ◌&&◌, ◌||◌, List, [], ◌∷◌, ◌++◌, map, filter, refl, ap, sym, ◌∙◌, subst, arith, append_assoc, nat_lt}
use Rattle.std.specs.List.{range_with_len}
use Rattle.std.proofs.lemmas.List.Elements.{filter-append}
use Rattle.std.proofs.lemmas.Bool.{and_parts}
use Rattle.stream_runs.specs.Laws.{filter_beat, legal_holds_data, shown_holds}
use Rattle.stream_runs.specs.View.{EndView, Side, beat_at, is_high, is_transfer}
use Rattle.stream_runs.specs.Symbols.{Symbol, without_error, shown_count, transferred_symbols, symbols_in, shown_symbols, kept_symbols}
use Rattle.stream_runs.specs.Source.{IsLegalSource, IsWellFormed, is_open, channel_before}
use Rattle.stream_machines.specs.Stage.{Shape, StageRun, KeepsStageLaw}
use Rattle.stream_machines.specs.Flow.{IsFlow, PassesOn, ShowsNext, kept_shown}
use Rattle.stream_machines.proofs.Fills.{HoldsData}
use Rattle.stream_machines.proofs.Quiet.{AllQuiet, quiet-append, quiet-filter, quiet_left, quiet_right, quiet_joined, quiet_shown, quiet_transferred}
use Rattle.stream_machines.proofs.FlowLaw.{Balance, balance_of, flow_law}
use Rattle.stream_machines.proofs.Marks.{open_after, channel_after, Come, come-append, come-left, come-right, come-without_error, come-with_error, formed-beat, open_is, channel_is, shown_in, come_shown, come_kept}

open_after-without_error : (opened : Bool) (xs : List Symbol) → open_after opened (map without_error xs) ≡ open_after opened xs
open_after-without_error opened [] = refl
open_after-without_error opened (x ∷ xs) = open_after-without_error _ xs

channel_after-without_error : (channel : ℕ) (xs : List Symbol) → channel_after channel (map without_error xs) ≡ channel_after channel xs
channel_after-without_error channel [] = refl
channel_after-without_error channel (x ∷ xs) = channel_after-without_error x.channel xs

module _ (side : Side) (view : EndView) (positive : 0 < side.symbols) where
  come_before : (c : ℕ) → IsLegalSource side view c → Come side.packets side.max_channel false 0 (transferred_symbols side view c)
  come_before zero legal = tt
  come_before (suc c) legal =
      come-append side.packets side.max_channel false 0 (transferred_symbols side view c) (symbols_in side view c) (come_before c (λ b h. legal b (omega arith)))
      (by_transfer (is_transfer side.pace view c) refl (come_shown side view c (legal_holds_data side view c positive (λ b h. legal b (omega arith))) (shown_holds side view positive c (legal c (omega arith))) (legal c (omega arith))))
    where
      by_transfer : (b : Bool) → is_transfer side.pace view c ≡ b
          → Come side.packets side.max_channel (open_after false (transferred_symbols side view c)) (channel_after 0 (transferred_symbols side view c)) (shown_in side view c)
          → Come side.packets side.max_channel (open_after false (transferred_symbols side view c)) (channel_after 0 (transferred_symbols side view c)) (cond b (shown_symbols side view c) [])
      by_transfer false stays shown = tt
      by_transfer true moves shown =
          let valid : is_high view.valid c ≡ true = (and_parts (is_high view.valid c) (nat_lt 0 side.pace.latency || is_high view.ready c) moves).0 in
          subst (λ b. Come side.packets side.max_channel (open_after false (transferred_symbols side view c)) (channel_after 0 (transferred_symbols side view c)) (cond b (shown_symbols side view c) [])) valid shown

  come_with_shown : (c : ℕ) → IsLegalSource side view (suc c) → Come side.packets side.max_channel false 0 (transferred_symbols side view c ++ shown_in side view c)
  come_with_shown c legal =
      come-append side.packets side.max_channel false 0 (transferred_symbols side view c) (shown_in side view c) (come_before c (λ b h. legal b (omega arith)))
      (come_shown side view c (legal_holds_data side view c positive (λ b h. legal b (omega arith))) (shown_holds side view positive c (legal c (omega arith))) (legal c (omega arith)))

kept_with_shown : (passes : ℕ → Bool) (side : Side) (view : EndView) (c : ℕ)
    → filter (λ (symbol : Symbol). passes symbol.channel) (transferred_symbols side view c ++ shown_in side view c) ≡ kept_symbols passes side view c ++ kept_shown passes side view c
kept_with_shown passes side view c =
    filter-append (λ (symbol : Symbol). passes symbol.channel) (transferred_symbols side view c) (shown_in side view c) ∙ ap (λ (xs : List Symbol). kept_symbols passes side view c ++ xs) (by_valid (is_high view.valid c))
  where
    by_valid : (b : Bool) → filter (λ (symbol : Symbol). passes symbol.channel) (cond b (shown_symbols side view c) []) ≡ cond (b && passes (view.channel c)) (shown_symbols side view c) []
    by_valid true = filter_beat passes side view c (range_with_len 0 (shown_count side view c)) (passes (view.channel c)) refl
    by_valid false = refl

module _ (shape : Shape) (run : StageRun) (store : ℕ → List Symbol) (flow : IsFlow shape run store) (positive : 0 < shape.up.symbols) (packets : shape.up.packets ≡ shape.down.packets)
    (no_errors : shape.down.error_bits ≡ 0 → shape.up.error_bits ≡ 0) (within : (channel : ℕ) → channel ≤ shape.up.max_channel → IsTrue (shape.passes channel) → channel ≤ shape.down.max_channel) where
  -- what passes of what came and is shown has gone, is there, or is shown
  kept_total : (c : ℕ) (b : Balance shape run store c) (s : ShowsNext shape run store c)
      → filter (λ (symbol : Symbol). shape.passes symbol.channel) (transferred_symbols shape.up run.up c ++ shown_in shape.up run.up c) ≡ b.gone ++ (s.front ++ s.rest)
  kept_total c b s =
      kept_with_shown shape.passes shape.up run.up c
      ∙ (ap (λ (xs : List Symbol). xs ++ kept_shown shape.passes shape.up run.up c) b.total
      ∙ (append_assoc b.gone (store c) (kept_shown shape.passes shape.up run.up c) ∙ ap (λ (xs : List Symbol). b.gone ++ xs) s.split))

  formed_at : (c : ℕ) → IsLegalSource shape.up run.up (suc c) → HoldsData shape.down run.down c → Balance shape run store c → ShowsNext shape run store c
      → IsWellFormed shape.down (is_open shape.down.pace run.down c) (channel_before shape.down.pace run.down c) (beat_at run.down c)
  formed_at c legal some b s =
      let upstream : Come shape.down.packets shape.up.max_channel false 0 (transferred_symbols shape.up run.up c ++ shown_in shape.up run.up c) =
      subst (λ p. Come p shape.up.max_channel false 0 (transferred_symbols shape.up run.up c ++ shown_in shape.up run.up c)) packets (come_with_shown shape.up run.up positive c legal) in
      let kept : Come shape.down.packets shape.down.max_channel false 0 (filter (λ (symbol : Symbol). shape.passes symbol.channel) (transferred_symbols shape.up run.up c ++ shown_in shape.up run.up c)) =
      come_kept shape.down.packets shape.passes shape.up.max_channel shape.down.max_channel within _ upstream in
      let total : filter (λ (symbol : Symbol). shape.passes symbol.channel) (transferred_symbols shape.up run.up c ++ shown_in shape.up run.up c) ≡ b.gone ++ (s.front ++ s.rest) = kept_total c b s in
      let behind : Come shape.down.packets shape.down.max_channel (open_after false b.gone) (channel_after 0 b.gone) (s.front ++ s.rest) =
      come-right shape.down.packets shape.down.max_channel false 0 b.gone (s.front ++ s.rest) (subst (Come shape.down.packets shape.down.max_channel false 0) total kept) in
      let plain : Come shape.down.packets shape.down.max_channel (open_after false b.gone) (channel_after 0 b.gone) (map without_error (shown_symbols shape.down run.down c)) =
      subst (Come shape.down.packets shape.down.max_channel (open_after false b.gone) (channel_after 0 b.gone)) s.same
      (come-without_error shape.down.packets shape.down.max_channel (open_after false b.gone) (channel_after 0 b.gone) s.front (come-left shape.down.packets shape.down.max_channel (open_after false b.gone) (channel_after 0 b.gone) s.front s.rest behind)) in
      let beat : Come shape.down.packets shape.down.max_channel (open_after false b.gone) (channel_after 0 b.gone) (shown_symbols shape.down run.down c) =
      come-with_error shape.down.packets shape.down.max_channel (open_after false b.gone) (channel_after 0 b.gone) (shown_symbols shape.down run.down c) plain in
      let opens : open_after false b.gone ≡ is_open shape.down.pace run.down c =
      sym (open_after-without_error false b.gone) ∙ (ap (open_after false) b.same ∙ (open_after-without_error false (transferred_symbols shape.down run.down c) ∙ sym (open_is shape.down run.down c some))) in
      let channels : channel_after 0 b.gone ≡ channel_before shape.down.pace run.down c =
      sym (channel_after-without_error 0 b.gone) ∙ (ap (channel_after 0) b.same ∙ (channel_after-without_error 0 (transferred_symbols shape.down run.down c) ∙ sym (channel_is shape.down run.down c some))) in
      subst (λ o. IsWellFormed shape.down o (channel_before shape.down.pace run.down c) (beat_at run.down c)) opens
      (subst (λ n. IsWellFormed shape.down (open_after false b.gone) n (beat_at run.down c)) channels
      (formed-beat shape.down (beat_at run.down c) (open_after false b.gone) (channel_after 0 b.gone) s.some beat quiet))
    where
      quiet : shape.down.error_bits ≡ 0 → run.down.error c ≡ 0
      quiet none =
          let zero_bits : shape.up.error_bits ≡ 0 = no_errors none in
          let seen : AllQuiet (transferred_symbols shape.up run.up c ++ shown_in shape.up run.up c) =
          quiet-append (transferred_symbols shape.up run.up c) (shown_in shape.up run.up c) (quiet_transferred shape.up run.up zero_bits c (λ d k. legal d (omega arith))) (by_valid zero_bits (is_high run.up.valid c) refl) in
          let all : AllQuiet (b.gone ++ (s.front ++ s.rest)) =
          subst AllQuiet (kept_total c b s) (quiet-filter (λ (symbol : Symbol). shape.passes symbol.channel) (transferred_symbols shape.up run.up c ++ shown_in shape.up run.up c) seen) in
          s.error ∙ quiet_joined s.front (quiet_left s.front s.rest (quiet_right b.gone (s.front ++ s.rest) all))
        where
          by_valid : shape.up.error_bits ≡ 0 → (v : Bool) → is_high run.up.valid c ≡ v → AllQuiet (cond v (shown_symbols shape.up run.up c) [])
          by_valid zero_bits false low = tt
          by_valid zero_bits true shown = quiet_shown shape.up run.up zero_bits c (legal c (omega arith)) shown

  pub flow_keeps : KeepsStageLaw shape run
  flow_keeps =
      record {
        law = flow_law shape run store flow;
        legal = λ c legal ready.
            let passed : (b : ℕ) → b < c → PassesOn shape run store b = λ b h. flow.passes_on b (λ d k. legal d (omega arith)) (λ n d k. ready n d (omega arith)) in
            record {
              paced = flow.paced c legal ready;
              formed = λ valid. formed_at c legal (λ b h moves. (passed b h).some moves) (balance_of shape run store flow c passed) (flow.shows c legal ready valid);
            };
      }
