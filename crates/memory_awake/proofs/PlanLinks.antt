-- Every plan without stages has links that suit it.
use Rattle.std.proofs.Common.{ℕ, zero, suc, ◌<◌, ◌≤◌, ◌≡◌, ◌-◌, ◌+◌, ◌*◌, ◌^◌, ◌&&◌, ◌||◌, Bool, true, false, not, nat_lt, nat_eq, arith, tests, refl, sym, ap, ◌∙◌, subst, le_refl, le-ltb, IsTrue, IsFalse}
use Rattle.std.proofs.lemmas.Bool.{ltb-true, ltb-false, eqb-true}
use Rattle.std.proofs.lemmas.Nat.{pow_pos, pow-add}
use Rattle.std.proofs.Math.Pow.{pow-lt}
use Rattle.memory_runs.specs.Views.{System, HostSide, AgentSide}
use Rattle.memory_runs.specs.Awake.{is_alike}
use Rattle.memory_runs.specs.Order.{is_joined}
use Rattle.memory_runs.specs.Plan.{IsMemoryPlan, IsPowerOfTwo}
use Rattle.memory_links.specs.Cutters.{reach_longest}
use Rattle.memory_machines.specs.Link.{Target}
use Rattle.memory_machines.specs.Lines.{target_of}
use Rattle.memory_awake.specs.RowRun.{Cutter, Fitter, Cutter.Uncut, Cutter.Cuts, Fitter.Unfitted, Fitter.Selects, Fitter.Splits, RowPlan, SuitsRow, SuitsDropper, SuitsFitter, SuitsGathering, by_cutter, by_fitter}
use Rattle.memory_awake.specs.LinkSystem.{LinkPlan, SuitsLinks, IsWireRow, links_for, fitter_for, row_of, inner_shape}

bits_below : (small large : ℕ) → 2 ^ small ≤ 2 ^ large → small ≤ large
bits_below small large low = by_test (nat_lt large small) refl
  where
    by_test : (b : Bool) → nat_lt large small ≡ b → small ≤ large
    by_test true less = let more = pow-lt (ltb-true large small less) in absurd (omega (arith, low, more))
    by_test false less = let few = ltb-false large small less in omega (arith, few)

-- a power of two is some times each smaller one
times_smaller : (small large : ℕ) → IsPowerOfTwo small → IsPowerOfTwo large → small < large → (times : ℕ) × (large ≡ times * small)
times_smaller small large one two less =
    let fits : 2 ^ one.0 ≤ 2 ^ two.0 = subst (λ n. n ≤ 2 ^ two.0) one.1 (subst (λ n. small ≤ n) two.1 (omega (arith, less))) in
    let few = bits_below one.0 two.0 fits in
    let sum : two.0 ≡ (two.0 - one.0) + one.0 = omega (arith, few) in
    (2 ^ (two.0 - one.0), two.1 ∙ ap (λ n. 2 ^ n) sum ∙ pow-add 2 (two.0 - one.0) one.0 ∙ ap (λ n. 2 ^ (two.0 - one.0) * n) (sym one.1))

more_than_once : (times small large : ℕ) → small < large → large ≡ times * small → 1 < times
more_than_once zero small large less whole = absurd (omega (arith, less, whole))
more_than_once (suc zero) small large less whole = absurd (omega (arith, less, whole))
more_than_once (suc (suc times)) small large less whole = omega arith

some_bytes : (size : ℕ) → IsPowerOfTwo size → 0 < size
some_bytes size power = subst (λ n. 0 < n) (sym power.1) (pow_pos power.0)

when_not : (b : Bool) → IsFalse (not b) → IsTrue b
when_not true no_more = refl
when_not false no_more = cc

unless : (b : Bool) → IsTrue (not b) → IsFalse b
unless false is = refl
unless true is = cc

none_dropped : (host agent : Bool) → IsTrue (not host || agent) → (host && not agent) ≡ false
none_dropped false agent may = refl
none_dropped true true may = refl
none_dropped true false may = cc

lanes_stay : (host agent : Bool) → (host && not agent) ≡ false → IsTrue (agent || not host)
lanes_stay false false none = refl
lanes_stay false true none = refl
lanes_stay true true none = refl
lanes_stay true false none = cc

lacks : (host agent : Bool) → (host && not agent) ≡ true → agent ≡ false
lacks host false some = refl
lacks false true some = cc
lacks true true some = cc

record IsAlikeTo (host : HostSide) (agent : AgentSide) : Type 0 where
  pub words : host.word_bytes ≡ agent.word_bytes
  pub plain : IsFalse host.has_burst
  pub enables : IsTrue (not host.has_enables || agent.has_enables)

alike_parts : (host : HostSide) (agent : AgentSide) → IsTrue (is_alike host agent) → IsAlikeTo host agent
alike_parts host agent alike = record {
  words = eqb-true host.word_bytes agent.word_bytes (first (nat_eq host.word_bytes agent.word_bytes) host.has_burst (not host.has_enables || agent.has_enables) alike);
  plain = second (nat_eq host.word_bytes agent.word_bytes) host.has_burst (not host.has_enables || agent.has_enables) alike;
  enables = third (nat_eq host.word_bytes agent.word_bytes) host.has_burst (not host.has_enables || agent.has_enables) alike;
}
  where
    first : (w b e : Bool) → IsTrue (w && not b && e) → IsTrue w
    first w b e t = grind (arith, tests, t)

    second : (w b e : Bool) → IsTrue (w && not b && e) → IsFalse b
    second w b e t = grind (arith, tests, t)

    third : (w b e : Bool) → IsTrue (w && not b && e) → IsTrue e
    third w b e t = grind (arith, tests, t)

-- a row by what stands in it
abbrev row_by : HostSide → AgentSide → Cutter → Fitter → Bool → RowPlan
row_by host agent cutter fitter drops = record {
  cutter = cutter;
  fitter = fitter;
  drops = drops;
  top = inner_shape host.word_bytes host.burst_bits;
  middle = inner_shape host.word_bytes (by_cutter cutter host.burst_bits (λ reach longest bits. bits));
  low = inner_shape agent.word_bytes (by_fitter fitter (by_cutter cutter host.burst_bits (λ reach longest bits. bits)) 1 1 1);
  bottom = inner_shape agent.word_bytes agent.burst_bits;
  room = 2;
}

-- below what fits words bursts are single beats, as above it
abbrev single_bits : Fitter → ℕ
single_bits fitter = by_fitter fitter 1 1 1 1

module _ (system : System) (is_plan : IsMemoryPlan system) where
  abbrev links : LinkPlan
  links = links_for system

  module _ (h a : ℕ) (low : h < system.hosts) (there : a < system.agents) (joined : IsTrue (is_joined system a h)) where
    abbrev host : HostSide
    host = system.host h

    abbrev agent : AgentSide
    agent = system.agent a

    abbrev target : Target
    target = target_of system a

    some_host : 0 < host.word_bytes
    some_host = some_bytes host.word_bytes (is_plan.hosts h low).word

    some_agent : 0 < agent.word_bytes
    some_agent = some_bytes agent.word_bytes (is_plan.agents a there).word

    some_burst : 0 < agent.burst_bits
    some_burst = (is_plan.agents a there).burst

    -- what stands there
    drops_are : links.drops h a ≡ (host.has_enables && not agent.has_enables)
    drops_are = rw joined refl

    fitter_is : links.fitter h a ≡ fitter_for host.word_bytes agent.word_bytes
    fitter_is = rw joined refl

    unfitted_at : host.word_bytes ≡ agent.word_bytes → fitter_for host.word_bytes agent.word_bytes ≡ Unfitted
    unfitted_at same = rw (le-ltb agent.word_bytes host.word_bytes (omega (arith, same)), le-ltb host.word_bytes agent.word_bytes (omega (arith, same))) refl

    cut_alike : IsTrue (is_alike host agent) → links.cutter h a ≡ Uncut
    cut_alike alike = rw (joined, alike) refl

    cut_other : IsFalse (is_alike host agent) → links.cutter h a ≡ Cuts (reach_longest 1) 1 1
    cut_other other = rw (joined, other) refl

    dropper : (drops : Bool) → (host.has_enables && not agent.has_enables) ≡ drops → SuitsDropper drops target (inner_shape agent.word_bytes 1) (inner_shape agent.word_bytes agent.burst_bits)
    dropper true is = record { some = some_agent; same = refl; units = refl; agent = refl; enables = lacks host.has_enables agent.has_enables is; one_beat = refl }
    dropper false is = (refl, some_burst, some_agent)

    -- a row of which single beats go down
    cut_row : (fitter : Fitter) → fitter_for host.word_bytes agent.word_bytes ≡ fitter → SuitsFitter fitter target (inner_shape host.word_bytes 1) (inner_shape agent.word_bytes (single_bits fitter)) → single_bits fitter ≡ 1 → SuitsGathering (Cuts (reach_longest 1) 1 1) fitter (inner_shape host.word_bytes host.burst_bits) (inner_shape host.word_bytes 1) →
        SuitsRow target (row_by host agent (Cuts (reach_longest 1) 1 1) fitter (host.has_enables && not agent.has_enables))
    cut_row fitter is fits one gathering = record {
      cutter = record { some = some_host; same = refl; bytes = refl; least = omega arith; most = omega arith; goes = λ address. omega arith; allowed = λ address. omega arith };
      fitter = fits;
      gathering = gathering;
      dropper = subst (λ n. SuitsDropper (host.has_enables && not agent.has_enables) target (inner_shape agent.word_bytes n) (inner_shape agent.word_bytes agent.burst_bits)) (sym one) (dropper _ refl);
      room = omega arith;
    }

    by_words : (wider narrower : Bool) → nat_lt agent.word_bytes host.word_bytes ≡ wider → nat_lt host.word_bytes agent.word_bytes ≡ narrower →
        (fitter : Fitter) × (fitter_for host.word_bytes agent.word_bytes ≡ fitter) × SuitsFitter fitter target (inner_shape host.word_bytes 1) (inner_shape agent.word_bytes (single_bits fitter)) × (single_bits fitter ≡ 1) × SuitsGathering (Cuts (reach_longest 1) 1 1) fitter (inner_shape host.word_bytes host.burst_bits) (inner_shape host.word_bytes 1)
    by_words true narrower w n =
        let less = ltb-true agent.word_bytes host.word_bytes w in
        let times = times_smaller agent.word_bytes host.word_bytes (is_plan.agents a there).word (is_plan.hosts h low).word less in
        let more = more_than_once times.0 agent.word_bytes host.word_bytes less times.1 in
        (Splits, rw w refl, (times.0, record { bytes = refl; some = some_agent; same = refl; one = omega (arith, more); whole = times.1; one_beat = refl }), refl, tt)
    by_words false true w n =
        let less = ltb-true host.word_bytes agent.word_bytes n in
        let times = times_smaller host.word_bytes agent.word_bytes (is_plan.hosts h low).word (is_plan.agents a there).word less in
        let more = more_than_once times.0 host.word_bytes agent.word_bytes less times.1 in
        (Selects, rw (w, n) refl, (times.0, record { some = some_host; more = more; whole = times.1; same = refl; bytes = refl; enables = is_plan.wider a h joined less; one_beat = refl; one_beat_below = refl }), refl, tt)
    by_words false false w n =
        let least = ltb-false agent.word_bytes host.word_bytes w in
        let most = ltb-false host.word_bytes agent.word_bytes n in
        let same : host.word_bytes ≡ agent.word_bytes = omega (arith, least, most) in
        (Unfitted, rw (w, n) refl, (ap (λ w. inner_shape w 1) same, le_refl 1, some_host), refl, tt)

    wire_row : IsAlikeTo host agent → SuitsRow target (row_by host agent Uncut Unfitted false)
    wire_row is = record {
      cutter = (refl, le_refl host.burst_bits, some_host);
      fitter = (ap (λ w. inner_shape w host.burst_bits) is.words, le_refl host.burst_bits, some_host);
      gathering = tt;
      dropper = (refl, (let one = is_plan.plain h low is.plain in let some = some_burst in omega (arith, one, some)), some_agent);
      room = omega arith;
    }

    place_in : (cutter : Cutter) (fitter : Fitter) (drops : Bool) → links.cutter h a ≡ cutter → links.fitter h a ≡ fitter → links.drops h a ≡ drops → SuitsRow target (row_by host agent cutter fitter drops) → SuitsRow target (row_of links h a)
    place_in cutter fitter drops k f d row =
        subst (λ c. SuitsRow target (row_by host agent c (links.fitter h a) (links.drops h a))) (sym k)
        (subst (λ x. SuitsRow target (row_by host agent cutter x (links.drops h a))) (sym f)
        (subst (λ y. SuitsRow target (row_by host agent cutter fitter y)) (sym d) row))

    row_suits : SuitsRow target (row_of links h a)
    row_suits = by_alike (is_alike host agent) refl
      where
        by_alike : (b : Bool) → is_alike host agent ≡ b → SuitsRow target (row_of links h a)
        by_alike true e =
            let parts = alike_parts host agent e in
            place_in Uncut Unfitted false (cut_alike e) (fitter_is ∙ unfitted_at parts.words) (drops_are ∙ none_dropped host.has_enables agent.has_enables parts.enables) (wire_row parts)
        by_alike false e =
            let found = by_words (nat_lt agent.word_bytes host.word_bytes) (nat_lt host.word_bytes agent.word_bytes) refl refl in
            place_in (Cuts (reach_longest 1) 1 1) found.0 (host.has_enables && not agent.has_enables) (cut_other e) (fitter_is ∙ found.1) drops_are (cut_row found.0 found.1 found.2 found.3 found.4)

  idle_row : (h a : ℕ) → IsFalse (is_joined system a h) → IsWireRow (row_of links h a)
  idle_row h a none = record { uncut = rw none refl; unfitted = rw none refl; undropped = rw none refl }

  past_is_apart : (h a : ℕ) → system.hosts ≤ h → IsFalse (is_joined system a h)
  past_is_apart h a past = by_test (is_joined system a h) refl
    where
      by_test : (b : Bool) → is_joined system a h ≡ b → IsFalse b
      by_test false e = refl
      by_test true e = let low = is_plan.joined a h e in absurd (omega (arith, low, past))

  pub links_suit_plan : system.stages ≡ 0 → SuitsLinks links
  links_suit_plan stages = record {
    idle = λ h a. not (is_joined system a h);
    stages = stages;
    rows = λ h a low there links. row_suits h a low there (when_not (is_joined system a h) links);
    wired = λ h a low there joined alike.
        let parts = alike_parts (system.host h) (system.agent a) alike in
        record {
          uncut = cut_alike h a low there joined alike;
          unfitted = fitter_is h a low there joined ∙ unfitted_at h a low there joined parts.words;
          undropped = drops_are h a low there joined ∙ none_dropped (system.host h).has_enables (system.agent a).has_enables parts.enables;
        };
    lanes = λ h a low there links none. lanes_stay (system.host h).has_enables (system.agent a).has_enables (sym (drops_are h a low there (when_not (is_joined system a h) links)) ∙ none);
    apart = λ h a low there idle. let none = unless (is_joined system a h) idle in (none, idle_row h a none);
    past = λ h a past. idle_row h a (past_is_apart h a past);
  }

pub links_suit : (system : System) → IsMemoryPlan system → system.stages ≡ 0 → SuitsLinks (links_for system)
links_suit system is_plan stages = links_suit_plan system is_plan stages
