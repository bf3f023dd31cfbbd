-- A plan gives what the machines rest on.
use Rattle.std.proofs.Common.{ℕ, ◌<◌, ◌≤◌, ◌≡◌, ◌-◌, ◌+◌, ◌*◌, ◌^◌, Bool, true, false, nat_lt, arith, refl, sym, ap, ◌∙◌, subst, ◌⊎◌, inl, inr, mul_assoc, one-mul, mul-one}
use Rattle.std.proofs.lemmas.Bool.{ltb-true, ltb-false}
use Rattle.std.proofs.lemmas.Nat.{pow_pos, pow-add}
use Rattle.std.proofs.Math.Pow.{pow-lt}
use Rattle.memory_runs.specs.Views.{Shape, System, Run}
use Rattle.memory_runs.specs.Plan.{IsMemoryPlan, IsPowerOfTwo, AreViews, footprint}
use Rattle.memory_parts.specs.Agent.{IsAgentPlan}
use Rattle.memory_parts.specs.AgentRun.{SuitsAgent}
use Rattle.memory_parts.specs.Route.{IsRoutePlan}
use Rattle.memory_parts.specs.Host.{ReadsWords}

bits_below : (small large : ℕ) → 2 ^ small ≤ 2 ^ large → small ≤ large
bits_below small large low = by_test (nat_lt large small) refl
  where
    by_test : (b : Bool) → nat_lt large small ≡ b → small ≤ large
    by_test true less = let more = pow-lt (ltb-true large small less) in absurd (omega (arith, low, more))
    by_test false less = let few = ltb-false large small less in omega (arith, few)

-- a power of two is a whole number of each smaller one
whole_number : (small large : ℕ) → IsPowerOfTwo small → IsPowerOfTwo large → small ≤ large → (times : ℕ) × (large ≡ times * small)
whole_number small large one two low =
    let fits : 2 ^ one.0 ≤ 2 ^ two.0 = subst (λ n. n ≤ 2 ^ two.0) one.1 (subst (λ n. small ≤ n) two.1 low) in
    let few = bits_below one.0 two.0 fits in
    let sum : two.0 ≡ (two.0 - one.0) + one.0 = omega (arith, few) in
    (2 ^ (two.0 - one.0), two.1 ∙ ap (λ n. 2 ^ n) sum ∙ pow-add 2 (two.0 - one.0) one.0 ∙ ap (λ n. 2 ^ (two.0 - one.0) * n) (sym one.1))

pub some_bytes : (size : ℕ) → IsPowerOfTwo size → 0 < size
some_bytes size power = subst (λ n. 0 < n) (sym power.1) (pow_pos power.0)

module _ (system : System) (plan : IsMemoryPlan system) where
  some_unit : (unit word : ℕ) → 0 < word → (unit ≡ 1) ⊎ (unit ≡ word) → 0 < unit
  some_unit unit word some (inl one) = omega (arith, one)
  some_unit unit word some (inr same) = omega (arith, same, some)

  in_a_word : (unit word : ℕ) → (unit ≡ 1) ⊎ (unit ≡ word) → (units : ℕ) × (word ≡ units * unit)
  in_a_word unit word (inl one) = (word, subst (λ n. word ≡ word * n) (sym one) (sym (mul-one word)))
  in_a_word unit word (inr same) = (1, sym same ∙ sym (one-mul unit))

  pub agent_plan : (a : ℕ) → a < system.agents → IsAgentPlan (system.agent a)
  agent_plan a there =
      let shape = plan.agents a there in
      let span = plan.span a there in
      let some = some_bytes (system.agent a).word_bytes shape.word in
      let words = whole_number (system.agent a).word_bytes (system.agent a).span shape.word span.0 span.1 in
      let low = span.1 in
      record {
        word = some;
        unit = some_unit (system.agent a).unit_bytes (system.agent a).word_bytes some shape.unit;
        pending = plan.pending a there;
        span = words.0;
        spans = words.1;
        some_span = omega (arith, some, low);
        one_word = λ fixed reads. plan.plain_agent a there (plan.fixed a there reads fixed);
      }

  pub agent_suits : (a : ℕ) (shape : Shape) → a < system.agents → shape.word_bytes ≡ (system.agent a).word_bytes → shape.burst_bits ≡ (system.agent a).burst_bits → SuitsAgent (system.agent a) shape
  agent_suits a shape there words bursts =
      let units = in_a_word (system.agent a).unit_bytes (system.agent a).word_bytes (plan.agents a there).unit in
      record { plan = agent_plan a there; words = words; bursts = bursts; plain = plan.plain_agent a there; units = units.0; whole = units.1 }

  -- a base is a whole number of footprints, and so of spans
  spans_of : (span word times base : ℕ) → IsPowerOfTwo span → IsPowerOfTwo word → base ≡ times * footprint span word → (spans : ℕ) × (base ≡ spans * span)
  spans_of span word times base one two is = by_test (nat_lt span word) refl
    where
      by_test : (b : Bool) → nat_lt span word ≡ b → (spans : ℕ) × (base ≡ spans * span)
      by_test true less =
          let low = ltb-true span word less in
          let larger : footprint span word ≡ word = omega (arith, low) in
          let whole = whole_number span word one two (omega (arith, low)) in
          (times * whole.0, is ∙ ap (λ n. times * n) (larger ∙ whole.1) ∙ sym (mul_assoc times whole.0 span))
      by_test false less =
          let high = ltb-false span word less in
          let larger : footprint span word ≡ span = omega (arith, high) in
          (times, is ∙ ap (λ n. times * n) larger)

  pub route_plan : (h : ℕ) (shape : Shape) → h < system.hosts → shape.word_bytes ≡ (system.host h).word_bytes → IsRoutePlan system h shape
  route_plan h shape there words = record {
    words = words;
    agents = λ kind address a is. ((plan.place h a address kind there).0 is).0;
    serves = λ kind address a is. ((plan.place h a address kind there).0 is).2;
    joined = λ kind address a is. ((plan.place h a address kind there).0 is).1.joined;
    base = λ kind address a is.
        let placed = (plan.place h a address kind there).0 is in
        let whole = plan.base h a placed.1.joined in
        let spans = spans_of (system.agent a).span (system.host h).word_bytes whole.0 (system.base h a) (plan.span a placed.0).0 (plan.hosts h there).word whole.1 in
        (spans.0, spans.1, placed.1.from_base);
  }

pub host_reads_words : (system : System) (run : Run) (h end : ℕ) → AreViews system run end → h < system.hosts → ReadsWords (system.host h) (run.at_host h) end
host_reads_words system run h end views there plain c low read = views.one_word h c there low plain read
