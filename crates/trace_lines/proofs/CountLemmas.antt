-- What a cycle adds to the counts.
use Rattle.std.proofs.Common.{◌≡◌, ℕ, suc, ◌+◌, Bool, true, false, List, [], ◌∷◌, ◌++◌, length, refl, ap, ◌∙◌, length-append, append-nil, arith}
use Rattle.std.specs.Prelude.{sum_by, flat_map, if◌then◌else◌}
use Rattle.std.proofs.lemmas.Grind.{flat_map-append}
use Rattle.std.proofs.lemmas.List.FromFn.{length-map-range_with_len}
use Rattle.std.proofs.lemmas.List.Sums.{sum_by-cons}
use Rattle.histories.specs.History.{before, only_if, one_if}
use Rattle.memory_runs.specs.Commands.{Transfer, agent_accepts, accepted}
use Rattle.memory_runs.specs.Legal.{gives_word, given, Word}
use Rattle.stream_runs.specs.View.{beat_at, is_high}
use Rattle.stream_runs.specs.Symbols.{symbol_count, symbol_in, symbols_of, delivered_symbols, symbols_in}
use Rattle.trace_lines.specs.declared.counts.Counts.{Counts}
use Rattle.trace_lines.specs.Told.{HostEnd, AgentEnd, StreamEnds, RunEnds, taken_at, moves_at}
use Rattle.trace_lines.specs.Counted.{beats_taken, words_given, symbols_delivered, beats_dropped, counts_before}
use Rattle.trace_lines.specs.Sums.{beats_taken_in, symbols_delivered_in, counts_in, with_counts}

sums_add : {X : Type 0} (f g h : X → ℕ) (xs : List X) → ((x : X) → f x ≡ g x + h x) → sum_by f xs ≡ sum_by g xs + sum_by h xs
sums_add {X} f g h [] each = refl
sums_add {X} f g h (x ∷ xs) each = let e = each x in let rest = sums_add f g h xs each in omega (arith, e, rest, sum_by-cons f x xs, sum_by-cons g x xs, sum_by-cons h x xs)

no_sum : {X : Type 0} (f : X → ℕ) (xs : List X) → ((x : X) → f x ≡ 0) → sum_by f xs ≡ 0
no_sum {X} f [] each = refl
no_sum {X} f (x ∷ xs) each = let e = each x in let rest = no_sum f xs each in omega (arith, e, rest, sum_by-cons f x xs)

length_only_if : {A : Type 0} (test : Bool) (x : A) → length (only_if test x) ≡ one_if test
length_only_if true x = refl
length_only_if false x = refl

-- a history of so many and what a cycle adds
longer : {A : Type 0} (xs ys : List A) (n : ℕ) → length ys ≡ n → length (xs ++ ys) ≡ length xs + n
longer {A} xs ys n e = length-append xs ys ∙ ap (λ k. length xs + k) e

words_next : (c : ℕ) (host : HostEnd) → words_given (suc c) host ≡ words_given c host + one_if (gives_word host.side host.view c)
words_next c host = let word : Word = record { word = host.view.readdata c; code = host.view.response c } in
    longer (given host.side host.view c) (only_if (gives_word host.side host.view c) word) (one_if (gives_word host.side host.view c)) (length_only_if (gives_word host.side host.view c) word)

dropped_next : (c : ℕ) (stream : StreamEnds) → beats_dropped (suc c) stream ≡ beats_dropped c stream + one_if (is_high stream.dropped c)
dropped_next c stream =
    longer (before (λ k. only_if (is_high stream.dropped k) k) c) (only_if (is_high stream.dropped c) c) (one_if (is_high stream.dropped c)) (length_only_if (is_high stream.dropped c) c)

length_where : {A : Type 0} (test : Bool) (xs : List A) (n : ℕ) → length xs ≡ n → length (if test then xs else []) ≡ (if test then n else 0)
length_where true xs n e = e
length_where false xs n e = refl

delivered_next : (c : ℕ) (stream : StreamEnds) → symbols_delivered (suc c) stream ≡ symbols_delivered c stream + symbols_delivered_in c stream
delivered_next c stream =
    let side = stream.sink.side in
    let beat = beat_at stream.sink.view c in
    longer (delivered_symbols side stream.sink.view c) (symbols_in side stream.sink.view c) (symbols_delivered_in c stream)
    (length_where (moves_at c stream.sink) (symbols_of side beat) (symbol_count side beat) (length-map-range_with_len (symbol_in side beat) 0 (symbol_count side beat)))

taken_once : (test : Bool) (transfer : Transfer) → length (flat_map (λ (t : Transfer). t.beats) (only_if test transfer)) ≡ (if test then length transfer.beats else 0)
taken_once true transfer = ap length (append-nil transfer.beats)
taken_once false transfer = refl

taken_next : (c : ℕ) (agent : AgentEnd) → beats_taken (suc c) agent ≡ beats_taken c agent + beats_taken_in c agent
taken_next c agent =
    let accepts = agent_accepts agent.side agent.view in
    let earlier = accepted agent.side.shape agent.view.signals accepts c in
    let now = only_if (accepts c) (taken_at c agent) in
    ap length (flat_map-append (λ (t : Transfer). t.beats) earlier now)
    ∙ longer (flat_map (λ (t : Transfer). t.beats) earlier) (flat_map (λ (t : Transfer). t.beats) now) (beats_taken_in c agent) (taken_once (accepts c) (taken_at c agent))

abbrev counts_of : ℕ → ℕ → ℕ → ℕ → Counts
counts_of taken answered delivered dropped = record { taken = taken; answered = answered; delivered = delivered; dropped = dropped }

same_counts : (t u a b d e x y : ℕ) → t ≡ u → a ≡ b → d ≡ e → x ≡ y → counts_of t a d x ≡ counts_of u b e y
same_counts t u a b d e x y taken answered delivered dropped =
    ap (λ n. counts_of n a d x) taken ∙ ap (λ n. counts_of u n d x) answered ∙ ap (λ n. counts_of u b n x) delivered ∙ ap (λ n. counts_of u b e n) dropped

pub no_counts : (run : RunEnds) → counts_before run 0 ≡ record { taken = 0; answered = 0; delivered = 0; dropped = 0 }
no_counts run =
    same_counts _ 0 _ 0 _ 0 _ 0 (no_sum (beats_taken 0) run.agents (λ agent. refl)) (no_sum (words_given 0) run.hosts (λ host. refl))
    (no_sum (symbols_delivered 0) run.streams (λ stream. refl)) (no_sum (beats_dropped 0) run.streams (λ stream. refl))

pub counts_next : (run : RunEnds) (c : ℕ) → counts_before run (suc c) ≡ with_counts (counts_before run c) (counts_in run c)
counts_next run c =
    same_counts _ _ _ _ _ _ _ _
    (sums_add (beats_taken (suc c)) (beats_taken c) (beats_taken_in c) run.agents (taken_next c))
    (sums_add (words_given (suc c)) (words_given c) (λ (host : HostEnd). one_if (gives_word host.side host.view c)) run.hosts (words_next c))
    (sums_add (symbols_delivered (suc c)) (symbols_delivered c) (symbols_delivered_in c) run.streams (delivered_next c))
    (sums_add (beats_dropped (suc c)) (beats_dropped c) (λ (stream : StreamEnds). one_if (is_high stream.dropped c)) run.streams (dropped_next c))
