-- What sources and sinks do, step by step.
use Rattle.std.proofs.Common.{◌≡◌, ℕ, ◌+◌, ◌≤◌, true, false, zero, suc, List, [], ◌∷◌, ◌++◌, length, drop, refl, sym, ap, subst, append_assoc, ◌∙◌, arith}
use Rattle.std.specs.Prelude.{nat_lt, slice_get, Some}
use Rattle.std.proofs.lemmas.List.{append-nil, drop_all}
use Rattle.std.proofs.lemmas.Option.{same_Some, none-some}
use Rattle.iface_roles.specs.declared.records.StreamPort.{StreamPort}
use Rattle.link_rules.specs.declared.plan_connections.StreamConnection.{StreamConnection}
use Rattle.scenario_tables.specs.declared.statements.Pattern.{Pattern}
use Rattle.scenario_tables.specs.declared.statements.SourceStatement.{SourceStatement}
use Rattle.scenario_tables.specs.declared.statements.SourceStatement.TheVariants.{Beat}
use Rattle.drawn_scenarios.specs.Draws.{Draws, draw, for_each, pattern, word_of}
use Rattle.drawn_scenarios.specs.Streams.{apart, symbol_bound, channel_of, beat_with, source_statement, source_script, sink_pattern, sink_script, stream_script, stream_scripts}

pub channel_drawn : (source : StreamPort) (from : ℕ) → nat_lt 0 source.channel_bits ≡ true → draw (source.max_channel + 1) from ≡ channel_of source from
unfolding channel_of
channel_drawn source from set = rw set refl

pub channel_none : (source : StreamPort) (from : ℕ) → nat_lt 0 source.channel_bits ≡ false → ◌≡◌ {A = ℕ × ℕ} (0, from) (channel_of source from)
unfolding channel_of
channel_none source from clear = rw clear refl

pub beat_drawn : (source : StreamPort) (from word then_at channel to : ℕ) → (word, then_at) ≡ word_of source.first_high source.symbol_bits (symbol_bound source.symbol_bits) source.symbols from
    → (channel, to) ≡ channel_of source then_at → (Beat (beat_with source word channel), to) ≡ source_statement source from
unfolding source_statement
beat_drawn source from word then_at channel to word_is channel_is =
    let P : ℕ × ℕ → SourceStatement × ℕ = λ p. (Beat (beat_with source word p.0), p.1) in
    let Q : ℕ × ℕ → SourceStatement × ℕ = λ p. (Beat (beat_with source p.0 (channel_of source p.1).0), (channel_of source p.1).1) in
    ap P channel_is ∙ ap Q word_is

pub sink_stalls : (sink : StreamPort) (from : ℕ) (drawn : Pattern) (to : ℕ) → sink.ready ≡ true → (drawn, to) ≡ pattern from → (drawn ∷ [], to) ≡ sink_script sink from
unfolding sink_script sink_pattern
sink_stalls sink from drawn to set e = let P : Pattern × ℕ → List Pattern × ℕ = λ p. (p.0 ∷ [], p.1) in rw set (ap P e)

pub sink_free : (sink : StreamPort) (from : ℕ) → sink.ready ≡ false → ◌≡◌ {A = List Pattern × ℕ} ([], from) (sink_script sink from)
unfolding sink_script
sink_free sink from clear = rw clear refl

pub stream_drawn : (link : StreamConnection) (from : ℕ) (beats : List SourceStatement) (then_at : ℕ) (stalls : List Pattern) (to : ℕ) → (beats, then_at) ≡ source_script link.source from → (stalls, to) ≡ sink_script link.sink then_at
    → ((beats, stalls), to) ≡ stream_script link from
unfolding stream_script
stream_drawn link from beats then_at stalls to beats_are stalls_are =
    let P : List Pattern × ℕ → (List SourceStatement × List Pattern) × ℕ = λ p. ((beats, p.0), p.1) in
    let Q : List SourceStatement × ℕ → (List SourceStatement × List Pattern) × ℕ = λ p. ((p.0, (sink_script link.sink p.1).0), (sink_script link.sink p.1).1) in
    ap P stalls_are ∙ ap Q beats_are

-- scripts that are there, before those that are drawn
abbrev pub both_prepended : List (List SourceStatement) → List (List Pattern) → List (List SourceStatement × List Pattern) × ℕ → (List (List SourceStatement) × List (List Pattern)) × ℕ
both_prepended sources sinks drawn = ((sources ++ (apart drawn.0).0, sinks ++ (apart drawn.0).1), drawn.1)

both_joined : (sources : List (List SourceStatement)) (sinks : List (List Pattern)) (first : (List SourceStatement × List Pattern) × ℕ) (rest : Draws (List (List SourceStatement × List Pattern))) (beats : List SourceStatement) (stalls : List Pattern) (to : ℕ) → ((beats, stalls), to) ≡ first
    → both_prepended sources sinks (first.0 ∷ (rest first.1).0, (rest first.1).1) ≡ both_prepended (sources ++ beats ∷ []) (sinks ++ stalls ∷ []) (rest to)
both_joined sources sinks first rest beats stalls to e =
    let P : (List SourceStatement × List Pattern) × ℕ → (List (List SourceStatement) × List (List Pattern)) × ℕ = λ p. both_prepended sources sinks (p.0 ∷ (rest p.1).0, (rest p.1).1) in
    let left = append_assoc sources (beats ∷ []) (apart (rest to).0).0 in
    let right = append_assoc sinks (stalls ∷ []) (apart (rest to).0).1 in
    ap P (sym e) ∙ (let same : P ((beats, stalls), to) ≡ both_prepended (sources ++ beats ∷ []) (sinks ++ stalls ∷ []) (rest to) = cc in same)

both_turn : (links : List StreamConnection) (k : ℕ) (link : StreamConnection) (sources : List (List SourceStatement)) (sinks : List (List Pattern)) (beats : List SourceStatement) (stalls : List Pattern) (from to : ℕ) → slice_get links k ≡ Some link
    → ((beats, stalls), to) ≡ stream_script link from
    → both_prepended sources sinks (for_each stream_script (drop k links) from) ≡ both_prepended (sources ++ beats ∷ []) (sinks ++ stalls ∷ []) (for_each stream_script (drop (suc k) links) to)
both_turn [] k link sources sinks beats stalls from to at e = absurd (none-some link at)
both_turn (z ∷ links) zero link sources sinks beats stalls from to at e =
    both_joined sources sinks (stream_script z from) (for_each stream_script links) beats stalls to (e ∙ ap (λ l. stream_script l from) (sym (same_Some z link at)))
both_turn (z ∷ links) (suc k) link sources sinks beats stalls from to at e = both_turn links k link sources sinks beats stalls from to at e

pub both_more : (links : List StreamConnection) (k : ℕ) (link : StreamConnection) (sources more_sources : List (List SourceStatement)) (sinks more_sinks : List (List Pattern)) (beats : List SourceStatement) (stalls : List Pattern) (from to : ℕ) (all : (List (List SourceStatement) × List (List Pattern)) × ℕ)
    → slice_get links k ≡ Some link → ((beats, stalls), to) ≡ stream_script link from → more_sources ≡ sources ++ beats ∷ [] → more_sinks ≡ sinks ++ stalls ∷ []
    → both_prepended sources sinks (for_each stream_script (drop k links) from) ≡ all → both_prepended more_sources more_sinks (for_each stream_script (drop (k + 1) links) to) ≡ all
both_more links k link sources more_sources sinks more_sinks beats stalls from to all at e sources_are sinks_are before =
    let next : k + 1 ≡ suc k = omega arith in
    let turned = both_turn links k link sources sinks beats stalls from to at e in
    rw (next, sources_are, sinks_are) (sym turned ∙ before)

pub both_done : (links : List StreamConnection) (k : ℕ) (sources : List (List SourceStatement)) (sinks : List (List Pattern)) (from : ℕ) (all : (List (List SourceStatement) × List (List Pattern)) × ℕ) → length links ≤ k
    → both_prepended sources sinks (for_each stream_script (drop k links) from) ≡ all → ((sources, sinks), from) ≡ all
both_done links k sources sinks from all done e =
    let P : List StreamConnection → Type 0 = λ l. both_prepended sources sinks (for_each stream_script l from) ≡ all in
    let at_end : ((sources ++ [], sinks ++ []), from) ≡ all = subst P (drop_all k links done) e in
    let left = append-nil sources in
    let right = append-nil sinks in
    cc

pub both_first : (links : List StreamConnection) (sources : List (List SourceStatement)) (sinks : List (List Pattern)) (from : ℕ) → sources ≡ [] → sinks ≡ [] → both_prepended sources sinks (for_each stream_script links from) ≡ stream_scripts links from
unfolding stream_scripts
both_first links sources sinks from none no_sinks = rw (none, no_sinks) refl
