-- The runs that were worked out by hand are right.
use Rattle.std.proofs.Common.{◌≡◌, ℕ, suc, ◌≤◌, ◌<◌, Bool, true, Some, length, refl, arith, nat_le}
use Rattle.std.proofs.lemmas.Bool.{leb-true}
use Rattle.histories.specs.History.{before}
use Rattle.histories.specs.Below.{OfEach, each_below, each_cycle_host}
use Rattle.stream_runs.specs.View.{EndView}
use Rattle.stream_runs.specs.Source.{IsLegalSource}
use Rattle.stream_runs.specs.Symbols.{accepted_symbols, delivered_symbols, shown_count}
use Rattle.stream_runs.specs.Rows.{word, closes}
use Rattle.routed_runs.specs.Routes.{symbols_on}
use Rattle.routed_runs.specs.Multiplexed.{IsMultiplexed, begun_elsewhere}
use Rattle.routed_runs.specs.Multiplexed
use Rattle.routed_runs.specs.Demultiplexed.{IsDemultiplexed}
use Rattle.routed_runs.specs.Demultiplexed
use Rattle.routed_runs.specs.Gathered.{IsGathered}
use Rattle.routed_runs.specs.Gathered
use Rattle.routed_runs.specs.Laws.{one_channel_inside}
use Rattle.routed_runs.specs.Rows.{two_inputs, multiplexed, right_output, two_outputs, zeroth_output, first_output, demultiplexed, two_channels, gathered, right_beats}
use Rattle.routed_runs.proofs.Computed.{follow_within, follow_within_true}

-- a test of each cycle up to the last and of each number below a bound
abbrev pub AllTrue : (ℕ → ℕ → Bool) → ℕ → ℕ → Type 0
AllTrue test last bound = OfEach (λ c. OfEach (λ i. test c i ≡ true) bound) (suc last)

all_true : (test : ℕ → ℕ → Bool) (last bound : ℕ) → AllTrue test last bound → (c i : ℕ) → c ≤ last → i < bound → test c i ≡ true
all_true test last bound each c i at_most below = each_cycle_host (λ c i. test c i ≡ true) last bound c i each at_most below

-- ---- the multiplexer

abbrev pub followed_input : ℕ → ℕ → Bool
followed_input c i =
    follow_within 2 (accepted_symbols (Multiplexed.input_side two_inputs) ((multiplexed right_output).inputs i) c)
    (symbols_on i (delivered_symbols (Multiplexed.output_side two_inputs) right_output c))

abbrev pub few_begun : ℕ → ℕ → Bool
few_begun c i = nat_le (length (before (begun_elsewhere two_inputs (multiplexed right_output) i) c)) 2

pub right_multiplexer : IsLegalSource (Multiplexed.output_side two_inputs) right_output 6 → AllTrue followed_input 6 2 → AllTrue few_begun 6 2 → IsMultiplexed two_inputs (multiplexed right_output) 6
right_multiplexer legal followed few =
    record {
      legal = legal;
      follows = λ i is c at_most. follow_within_true 2 _ _ (all_true followed_input 6 2 followed c i at_most is);
      whole = λ b c from to begun first goes moves. one_channel_inside 1 8 1 right_output 6 legal b begun c from to goes moves;
      fair = λ i is b c from to presented none. (let most = leb-true _ _ (all_true few_begun 6 2 few c i to is) in omega (arith, most));
      accepts = λ start within waiting. absurd (omega (arith, within));
      delivers = λ start within owed. absurd (omega (arith, within));
    }

-- ---- the demultiplexer

abbrev pub right_zeroth : EndView
right_zeroth = zeroth_output (Some (closes 0 (word 0x12)))

abbrev pub followed_output : ℕ → ℕ → Bool
followed_output c k =
    follow_within 2 (symbols_on k (accepted_symbols (Demultiplexed.input_side two_outputs) (demultiplexed right_zeroth first_output).input c))
    (delivered_symbols (Demultiplexed.output_side two_outputs) ((demultiplexed right_zeroth first_output).outputs k) c)

pub right_demultiplexer : ((k : ℕ) → k < 2 → IsLegalSource (Demultiplexed.output_side two_outputs) ((demultiplexed right_zeroth first_output).outputs k) 4) → AllTrue followed_output 4 2
    → IsDemultiplexed two_outputs (demultiplexed right_zeroth first_output) 4
right_demultiplexer legal followed =
    record {
      legal = legal;
      follows = λ k is c at_most. follow_within_true 2 _ _ (all_true followed_output 4 2 followed c k at_most is);
      accepts = λ start within waiting. absurd (omega (arith, within));
      delivers = λ start within owed. absurd (omega (arith, within));
    }

-- ---- the gatherer

abbrev pub followed_channel : ℕ → ℕ → Bool
followed_channel c k =
    follow_within 6 (symbols_on k (accepted_symbols (Gathered.input_side two_channels) (gathered right_beats).input c))
    (symbols_on k (delivered_symbols (Gathered.output_side two_channels) (gathered right_beats).output c))

full_at : (c : ℕ) → c < 6 → shown_count (Gathered.output_side two_channels) (gathered right_beats).output c ≡ 2
full_at c before = each_below (λ c. shown_count (Gathered.output_side two_channels) (gathered right_beats).output c ≡ 2) 6 c ((((((tt, refl), refl), refl), refl), refl), refl) before

pub right_gatherer : IsLegalSource (Gathered.output_side two_channels) (gathered right_beats).output 6 → AllTrue followed_channel 6 2
    → IsGathered two_channels (gathered right_beats) 6
right_gatherer legal followed =
    record {
      legal = legal;
      follows = λ k is c at_most. follow_within_true 6 _ _ (all_true followed_channel 6 2 followed c k at_most is);
      full = λ c before moves. full_at c before;
      accepts = λ start within ready. absurd (omega (arith, within));
      delivers = λ start within owed. absurd (omega (arith, within));
    }
