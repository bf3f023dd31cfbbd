-- Modules that accept symbols and deliver none stand still for too long.
use Rattle.std.proofs.Common.{◌≡◌, ℕ, zero, suc, ◌≤◌, Bool, true, false, [], refl, ◌∙◌, arith}
use Rattle.std.proofs.lemmas.List.{append-nil}
use Rattle.stream_runs.specs.Symbols.{transferred_symbols}
use Rattle.routed_runs.specs.Multiplexed.{IsMultiplexed, input_side, output_side, IsOwed}
use Rattle.routed_runs.specs.Demultiplexed.{IsDemultiplexed}
use Rattle.routed_runs.specs.Demultiplexed
use Rattle.routed_runs.specs.Gathered.{IsGathered}
use Rattle.routed_runs.specs.Gathered
use Rattle.routed_runs.specs.Rows.{two_inputs, swallowing_multiplexer, two_outputs, swallowing_demultiplexer, two_channels, swallowing_gatherer}

-- ---- the multiplexer

taken_at_input : (c : ℕ) → transferred_symbols (input_side two_inputs) (swallowing_multiplexer.inputs 0) (suc c) ≡ transferred_symbols (input_side two_inputs) (swallowing_multiplexer.inputs 0) 1
taken_at_input zero = refl
taken_at_input (suc c) = append-nil _ ∙ taken_at_input c

none_at_output : (c : ℕ) → transferred_symbols (output_side two_inputs) swallowing_multiplexer.output c ≡ []
none_at_output zero = refl
none_at_output (suc c) = append-nil _ ∙ none_at_output c

owed_by_multiplexer : (c : ℕ) → 1 ≤ c → IsOwed two_inputs swallowing_multiplexer c
owed_by_multiplexer zero from = absurd (omega arith)
owed_by_multiplexer (suc c) from = record { ready = refl; input = 0; is_input = omega arith; undelivered = rw (taken_at_input c, none_at_output (suc c)) (omega arith) }

pub multiplexer_swallows : IsMultiplexed two_inputs swallowing_multiplexer 9 → ⊥
multiplexer_swallows keeps =
    let (c, from, to, shown) = keeps.delivers 1 (omega arith) (λ c from to. owed_by_multiplexer c from) in
    let p : ◌≡◌ {A = Bool} false true = shown in absurd (cc)

-- ---- the demultiplexer

taken_by_demultiplexer : (c : ℕ) → transferred_symbols (Demultiplexed.input_side two_outputs) swallowing_demultiplexer.input (suc c) ≡ transferred_symbols (Demultiplexed.input_side two_outputs) swallowing_demultiplexer.input 1
taken_by_demultiplexer zero = refl
taken_by_demultiplexer (suc c) = append-nil _ ∙ taken_by_demultiplexer c

none_at_outputs : (c : ℕ) → transferred_symbols (Demultiplexed.output_side two_outputs) (swallowing_demultiplexer.outputs 0) c ≡ []
none_at_outputs zero = refl
none_at_outputs (suc c) = append-nil _ ∙ none_at_outputs c

owed_by_demultiplexer : (c : ℕ) → 1 ≤ c → Demultiplexed.IsOwed two_outputs swallowing_demultiplexer c
owed_by_demultiplexer zero from = absurd (omega arith)
owed_by_demultiplexer (suc c) from = record { ready = λ k is. refl; output = 0; is_output = omega arith; undelivered = rw (taken_by_demultiplexer c, none_at_outputs (suc c)) (omega arith) }

pub demultiplexer_swallows : IsDemultiplexed two_outputs swallowing_demultiplexer 9 → ⊥
demultiplexer_swallows keeps =
    let (c, from, to, (k, is, shown)) = keeps.delivers 1 (omega arith) (λ c from to. owed_by_demultiplexer c from) in
    let p : ◌≡◌ {A = Bool} false true = shown in absurd (cc)

-- ---- the gatherer

taken_by_gatherer : (c : ℕ) → transferred_symbols (Gathered.input_side two_channels) swallowing_gatherer.input (suc (suc c)) ≡ transferred_symbols (Gathered.input_side two_channels) swallowing_gatherer.input 2
taken_by_gatherer zero = refl
taken_by_gatherer (suc c) = append-nil _ ∙ taken_by_gatherer c

none_gathered : (c : ℕ) → transferred_symbols (Gathered.output_side two_channels) swallowing_gatherer.output c ≡ []
none_gathered zero = refl
none_gathered (suc c) = append-nil _ ∙ none_gathered c

owed_by_gatherer : (c : ℕ) → 2 ≤ c → Gathered.IsOwed two_channels swallowing_gatherer c
owed_by_gatherer zero from = absurd (omega arith)
owed_by_gatherer (suc zero) from = absurd (omega arith)
owed_by_gatherer (suc (suc c)) from = record { ready = refl; channel = 0; is_channel = omega arith; undelivered = rw (taken_by_gatherer c, none_gathered (suc (suc c))) (omega arith) }

pub gatherer_swallows : IsGathered two_channels swallowing_gatherer 10 → ⊥
gatherer_swallows keeps =
    let (c, from, to, shown) = keeps.delivers 2 (omega arith) (λ c from to. owed_by_gatherer c from) in
    let p : ◌≡◌ {A = Bool} false true = shown in absurd (cc)
