-- What holds of all systems of two hosts, two agents and the default agent with this map.
use Rattle.std.proofs.Common.{ℕ, zero, suc, ◌<◌, ◌≤◌, ◌≡◌, ◌+◌, ◌*◌, Bool, true, false, [], ◌∷◌, arith, refl, sym, ap, subst, ◌∙◌, inr, nat_eq, nat_lt, IsTrue, IsFalse, tests, Some, None, if◌then◌else◌, ltb-false, ltb-true, le-ltb, lt-ltb}
use Rattle.std.specs.List.{list_any}
use Rattle.histories.specs.Below.{each_below}
use Rattle.memory_runs.specs.Views.{Shape, HostSide, System, Kind}
use Rattle.memory_runs.specs.Views.Kind.{Reads, Writes}
use Rattle.memory_runs.specs.Commands.{shows}
use Rattle.memory_runs.specs.Order.{is_joined}
use Rattle.memory_runs.specs.Plan.{IsMemoryPlan, IsInFootprint, IsPowerOfTwo, IsShape, footprint, serves_kind}
use Rattle.memory_machines.specs.Link.{Port}
use Rattle.memory_parts.specs.Route.{IsRoutePlan}
use Rattle.runs_tests.specs.TwoByTwo.{small_agent, two_by_two, of_two}

pub two : (P : ℕ → Type 0) → P 0 → P 1 → (n : ℕ) → n < 2 → P n
two P x y n h = each_below P 2 n ((tt, x), y) h

pub pairs : (P : ℕ → ℕ → Type 0) → P 0 0 → P 0 1 → P 1 0 → P 1 1 → (h a : ℕ) → h < 2 → a < 2 → P h a
pairs P x y z w h a is there = two (λ h. P h a) (two (P 0) x y a there) (two (P 1) z w a there) h is

placed : (address a : ℕ) → (if nat_lt address 16 then Some 0 else if nat_lt address 32 then Some 1 else None) ≡ Some a → (a < 2) × (a * 16 ≤ address) × (address < a * 16 + 16)
placed address a is = by_tests (nat_lt address 16) (nat_lt address 32) refl refl is
  where
    by_tests : (x y : Bool) → nat_lt address 16 ≡ x → nat_lt address 32 ≡ y → (if x then Some 0 else if y then Some 1 else None) ≡ Some a → (a < 2) × (a * 16 ≤ address) × (address < a * 16 + 16)
    by_tests true y e g f = let same : 0 ≡ a = cc in let low = ltb-true address 16 e in (omega (arith, same), omega (arith, same), omega (arith, same, low))
    by_tests false true e g f = let same : 1 ≡ a = cc in let most = ltb-false address 16 e in let low = ltb-true address 32 g in (omega (arith, same), omega (arith, same, most), omega (arith, same, low))
    by_tests false false e g f = let bad : ⊥ = cc in absurd bad

in_place : (address a : ℕ) → a < 2 → a * 16 ≤ address → address < a * 16 + 16 → (if nat_lt address 16 then Some 0 else if nat_lt address 32 then Some 1 else None) ≡ Some a
in_place address zero there from low = ap (λ t. if t then Some 0 else if nat_lt address 32 then Some 1 else None) (lt-ltb address 16 (omega (arith, low)))
in_place address (suc zero) there from low =
    ap (λ t. if t then Some 0 else if nat_lt address 32 then Some 1 else None) (le-ltb address 16 (omega (arith, from)))
    ∙ ap (λ t. if t then Some 1 else None) (lt-ltb address 32 (omega (arith, low)))
in_place address (suc (suc a)) there from low = absurd (omega (arith, there))

no_true : IsTrue false → ⊥
no_true h = cc

pub joined_below : (h : ℕ) → IsTrue (list_any (nat_eq h) (0 ∷ 1 ∷ [])) → h < 2
joined_below zero is = omega arith
joined_below (suc zero) is = omega arith
joined_below (suc (suc n)) is =
    let e : nat_eq (suc (suc n)) 0 ≡ false = grind (arith, tests) in
    let f : nat_eq (suc (suc n)) 1 ≡ false = grind (arith, tests) in
    let none : IsTrue false = rw (e, f) at is in
    absurd (no_true none)

pub none_past : {A : Type 0} (first second none : A) (h : ℕ) → 2 ≤ h → of_two first second none h ≡ none
none_past {A} first second none zero past = absurd (omega (arith, past))
none_past {A} first second none (suc zero) past = absurd (omega (arith, past))
none_past {A} first second none (suc (suc n)) past =
    let e : nat_eq (suc (suc n)) 0 ≡ false = grind (arith, tests) in
    let f : nat_eq (suc (suc n)) 1 ≡ false = grind (arith, tests) in
    rw (e, f) refl

-- hosts past the second show nothing, where `none` doesn't
pub past_two : (first second none : Port) (c : ℕ) → IsFalse (shows none.commands.signals c) → (h : ℕ) → 2 ≤ h → IsFalse (shows (of_two first second none h).commands.signals c)
past_two first second none c quiet h past = subst (λ (port : Port). IsFalse (shows port.commands.signals c)) (sym (none_past first second none h past)) quiet

module _ (host : ℕ → HostSide) (bytes : ℕ → ℕ) (enables : ℕ → Bool) (stages : ℕ) where
  served : (a : ℕ) (kind : Kind) → IsTrue (serves_kind (small_agent (bytes a) (enables a)) kind)
  served a Reads = refl
  served a Writes = refl

  pub route_plan : (shape : Shape) (h : ℕ) → h < 2 → shape.word_bytes ≡ (host h).word_bytes → IsRoutePlan (two_by_two host (λ a. small_agent (bytes a) (enables a)) stages) h shape
  route_plan shape h is words = record {
    words = words;
    agents = λ kind address a at. (placed address a at).0;
    serves = λ kind address a at. served a kind;
    joined = λ kind address a at. two (λ h. IsTrue (is_joined (two_by_two host (λ a. small_agent (bytes a) (enables a)) stages) a h)) refl refl h is;
    base = λ kind address a at. (a, refl, (placed address a at).1);
  }

  abbrev system : System
  system = two_by_two host (λ a. small_agent (bytes a) (enables a)) stages

  -- what is left to say of the hosts and of the agents' words
  pub is_memory_plan : ((h : ℕ) → h < 2 → IsShape (host h).shape) → ((h : ℕ) → h < 2 → IsFalse (host h).has_burst → (host h).burst_bits ≡ 1) → ((h : ℕ) → h < 2 → (host h).word_bytes ≤ 16) →
      ((a : ℕ) → a < 2 → IsPowerOfTwo (bytes a)) → ((a : ℕ) → a < 2 → bytes a ≤ 16) → ((a h : ℕ) → h < 2 → (host h).word_bytes < bytes a → IsTrue (enables a)) → stages ≤ 4 → IsMemoryPlan system
  is_memory_plan shapes plain narrow powers few wide stages_few = record {
    hosts = shapes;
    agents = λ a there. record { word = powers a there; unit = inr refl; burst = omega arith };
    plain = plain;
    plain_agent = λ a there none. let bad : ⊥ = cc in absurd bad;
    pending = λ a there. omega arith;
    fixed = λ a there read none. let bad : ⊥ = cc in absurd bad;
    reads = λ a there valid. refl;
    waits = λ a there burst. refl;
    span = λ a there. ((4, refl), few a there);
    wider = λ a h joined less. wide a h (joined_below h joined) less;
    joined = λ a h joined. joined_below h joined;
    shares = λ a h joined. omega arith;
    few_shares = λ a h joined. omega arith;
    few_hosts = omega arith;
    few_stages = stages_few;
    base = λ h a joined. (a, ap (λ n. a * n) (whole_span h (joined_below h joined)));
    place = λ h a address kind there. (to h a address kind there, from h a address kind there);
  }
    where
      whole_span : (h : ℕ) → h < 2 → 16 ≡ footprint 16 (host h).word_bytes
      whole_span h there = let fits = narrow h there in omega (arith, fits)

      to : (h a address : ℕ) (kind : Kind) → h < 2 → system.place h kind address ≡ Some a → (a < 2) × IsInFootprint system h a address × IsTrue (serves_kind (system.agent a) kind)
      to h a address kind there at =
          let found = placed address a at in
          let low = found.2 in
          (found.0, record { joined = two (λ h. IsTrue (is_joined system a h)) refl refl h there; from_base = found.1; below_end = subst (λ n. address < a * 16 + n) (whole_span h there) low }, served a kind)

      from : (h a address : ℕ) (kind : Kind) → h < 2 → (a < 2) × IsInFootprint system h a address × IsTrue (serves_kind (system.agent a) kind) → system.place h kind address ≡ Some a
      from h a address kind there holds = in_place address a holds.0 holds.1.from_base (subst (λ n. address < a * 16 + n) (sym (whole_span h there)) holds.1.below_end)
