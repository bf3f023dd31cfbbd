-- Stages that lead from one side to another, one behind the other.
use Rattle.std.proofs.Common.{◌≡◌, ℕ, ◌+◌, ◌-◌, ◌*◌, ◌%◌, ◌<◌, ◌≤◌, Bool, true, false, not, ◌||◌, nat_lt, nat_le, if◌then◌else◌, IsTrue, IsFalse, Option, Some, None, refl, sym, subst, ap, ◌∙◌, arith, ◌⊎◌, inl, inr}
use Rattle.std.proofs.lemmas.Bool.{ltb-true, leb-false, both_ways}
use Rattle.std.proofs.lemmas.Nat.{mul-le}
use Rattle.stream_runs.specs.View.{Side}
use Rattle.stream_machines.specs.Stage.{Shape, PassesAll, chain_shape, pass_shape}
use Rattle.stream_machines.specs.Parts.{narrow_shape, widen_shape, of_symbols}
use Rattle.stream_machines.specs.Windows.{window_shape, window_hold}
use Rattle.stream_machines.specs.Wires.{wire_shape, turned_side}
use Rattle.stage_core.specs.ChainNets.{IsChainOf, ShapesFit}
use Rattle.stage_core.specs.MaybeNets.{shape_of}
use Rattle.st_format.specs.declared.reorder.Reorder.{Reorder}
use Rattle.st_format.specs.declared.clear.Clear.{Clear}
use Rattle.st_format.specs.declared.resize.Resize.{Resize}
use Rattle.st_format.specs.declared.resize.Resize.TheVariants.{Equal, Cut, Join, Slide}
use Rattle.st_format.specs.ReorderNets.{IsReorderShape}
use Rattle.st_format.specs.ClearNets.{IsClearShape}
use Rattle.st_format.specs.ResizeNets.{IsResizeOf, joins_beats, keeps_ready, resize_has, resize_passes}
use Rattle.std.proofs.Math.Nat.{mul_comm, mod_self}
use Rattle.st_format.proofs.SizesLemmas.{split_symbols, more_parts}
use Rattle.st_format.specs.FormatNets.{IsTurn, IsClearing}

-- a shape of these leads from one side to another, needs no sink that is always ready, holds so many symbols at most, keeps so
-- many for good, and a symbol raises its rank so much at most, which is so large at most
pub record Leads (has passing : Shape → Type 0) (can : Type 0) (passes : ℕ → Bool) (up down : Side) (most kept raise top : ℕ) : Type 0 where
  pub shape : Shape
  pub has_it : has shape
  pub passed : can → passing shape
  pub up_is : shape.up ≡ up
  pub down_is : shape.down ≡ down
  pub test : shape.passes ≡ passes
  pub free : shape.needs_ready ≡ false
  pub hold : shape.hold ≤ most
  pub rest : shape.rest ≤ kept
  pub step : shape.step ≤ raise
  pub largest : shape.largest ≤ top

never_late : (latency : ℕ) → latency ≡ 0 → IsTrue (nat_lt 0 latency) → ⊥
never_late latency none late = let some : 0 < latency = ltb-true 0 latency late in absurd (omega (arith, some, none))

or_neither : (a b : Bool) → a ≡ false → b ≡ false → (a || b) ≡ false
or_neither a b p q = rw (p, q) refl

-- a symbol that leaves the first part raises the rank by one more where the second part holds symbols
chain_step : (latency s1 s2 hold most more : ℕ) → latency ≡ 0 → hold ≤ most → (0 < most → 0 < more) →
    (if nat_lt 0 latency then s2 else (if nat_le hold 0 then s1 + s2 else s1 + s2 + 1)) ≤ s1 + s2 + more
chain_step latency s1 s2 hold most more direct few some = rw direct (by_test (nat_le hold 0) refl)
  where
    by_test : (t : Bool) → nat_le hold 0 ≡ t → (if t then s1 + s2 else s1 + s2 + 1) ≤ s1 + s2 + more
    by_test true e = omega arith
    by_test false e = let above = some (let held = leb-false hold 0 e in omega (arith, held, few)) in omega (arith, above)

chain_largest : (latency l1 l2 s1 hold t1 t2 r1 most : ℕ) → latency ≡ 0 → l1 ≤ t1 → l2 ≤ t2 → s1 ≤ r1 → hold ≤ most →
    (if nat_lt 0 latency then l2 else l1 + l2 + (s1 + 1) * hold) ≤ t1 + t2 + (r1 + 1) * most
chain_largest latency l1 l2 s1 hold t1 t2 r1 most direct one two step few =
    let held : (s1 + 1) * hold ≤ (r1 + 1) * most = mul-le (s1 + 1) hold (r1 + 1) most (omega (arith, step)) few in
    rw direct (add_three l1 l2 ((s1 + 1) * hold) t1 t2 ((r1 + 1) * most) one two held)
  where
    add_three : (a b c x y z : ℕ) → a ≤ x → b ≤ y → c ≤ z → a + b + c ≤ x + y + z
    add_three a b c x y z p q r = omega (arith, p, q, r)

pub chain_leads : (A PA B PB : Shape → Type 0) (S can : Type 0) (passes : ℕ → Bool) (up middle down : Side) (parts m1 k1 r1 t1 m2 k2 r2 t2 more : ℕ) → Leads A PA can passes up middle m1 k1 r1 t1 → Leads B PB can passes middle down m2 k2 r2 t2 → middle.pace.latency ≡ 0 → 0 < up.symbols → up.error_bits ≡ middle.error_bits
    → ((up.symbols ≡ middle.symbols * parts) ⊎ (down.symbols ≡ middle.symbols * parts)) → (0 < m2 → 0 < more) → Leads (IsChainOf A B PB S) (IsChainOf (λ first. A first × PA first) PB PB S) can passes up down (m1 + m2) (k1 + k2) (r1 + r2 + more) (t1 + t2 + (r1 + 1) * m2)
chain_leads A PA B PB S can passes up middle down parts m1 k1 r1 t1 m2 k2 r2 t2 more one two direct some errors divides one_more =
    let direct' : two.shape.up.pace.latency ≡ 0 = ap (λ (s : Side). s.pace.latency) two.up_is ∙ direct in
    let fit : ShapesFit one.shape two.shape = record {
      same_side = one.down_is ∙ sym two.up_is;
      passed_on = λ channel h. subst (λ (p : ℕ → Bool). IsTrue (p channel)) (one.test ∙ sym two.test) h;
      has_symbols = subst (λ (s : Side). 0 < s.symbols) (sym one.up_is) some;
      divides = (
        parts,
        elim divides [
          | inl e ↦ inl (ap (λ (s : Side). s.symbols) one.up_is ∙ e ∙ ap (λ (s : Side). s.symbols * parts) (sym two.up_is))
          | inr e ↦ inr (ap (λ (s : Side). s.symbols) two.down_is ∙ e ∙ ap (λ (s : Side). s.symbols * parts) (sym two.up_is))
        ],
      );
      has_errors = λ a b. (
          let here = ap (λ (s : Side). s.error_bits) one.up_is in
          let there = ap (λ (s : Side). s.error_bits) two.up_is in
          omega (arith, here, there, errors, b));
      delayed = λ late. absurd (never_late _ direct' late);
    } in
    record {
      shape = chain_shape one.shape two.shape;
      has_it = record { first = one.shape; second = two.shape; is = refl; fit = fit; first_has = one.has_it; second_has = two.has_it; shown = λ late. absurd (never_late _ direct' late); always_ready = λ needs. absurd (both_ways _ one.free needs) };
      passed = λ can. record {
        first = one.shape;
        second = two.shape;
        is = refl;
        fit = fit;
        first_has = (one.has_it, one.passed can);
        second_has = two.passed can;
        shown = λ late. absurd (never_late _ direct' late);
        always_ready = λ needs. absurd (both_ways _ one.free needs);
      };
      up_is = one.up_is;
      down_is = two.down_is;
      test = one.test;
      free = or_neither _ _ one.free two.free;
      hold = (let a = one.hold in let b = two.hold in omega arith);
      rest = (let a = one.rest in let b = two.rest in omega arith);
      step = (let rises = chain_step two.shape.up.pace.latency one.shape.step two.shape.step two.shape.hold m2 more direct' two.hold one_more in add_two one.shape.step two.shape.step more r1 r2 _ one.step two.step rises);
      largest = chain_largest two.shape.up.pace.latency one.shape.largest two.shape.largest one.shape.step two.shape.hold t1 t2 r1 m2 direct' one.largest two.largest one.step two.hold;
    }
  where
    add_two : (a b c x y s : ℕ) → a ≤ x → b ≤ y → s ≤ a + b + c → s ≤ x + y + c
    add_two a b c x y s p q r = omega (arith, p, q, r)

-- ---- each of them

pub turn_leads : (can : Type 0) (stage : Option Reorder) (passes : ℕ → Bool) (side : Side) (turns high : Bool) (symbols bits : ℕ) → IsTurn turns symbols bits stage → side.symbols ≡ symbols → side.symbol_bits ≡ bits → 0 < side.symbols → PassesAll passes side → side.pace.latency ≡ 0
    → (turns ≡ false → high ≡ side.first_high) → (turns ≡ true → high ≡ not side.first_high) →
    Leads (shape_of (λ (s : Reorder) (shape : Shape). IsReorderShape s.symbols s.bits shape) stage) (shape_of (λ (s : Reorder) (shape : Shape). IsReorderShape s.symbols s.bits shape) stage) can passes side (record side { first_high = high }) 0 0 0 0
turn_leads can None passes side turns high symbols bits is same same_bits some all direct stays changes = record {
  shape = pass_shape passes side;
  has_it = record { is = refl; some = some; passes = all };
  passed = λ c. record { is = refl; some = some; passes = all };
  up_is = refl;
  down_is = ap (λ b. record side { first_high = b }) (sym (stays is));
  test = refl;
  free = refl;
  hold = omega arith;
  rest = omega arith;
  step = omega arith;
  largest = omega (arith, direct);
}
turn_leads can (Some stage) passes side turns high symbols bits is same same_bits some all direct stays changes = record {
  shape = wire_shape passes side (turned_side side) side.pace.latency false;
  has_it = record { is = refl; symbols_are = same ∙ sym is.1; bits_are = same_bits ∙ sym is.2; some = some; passes = all };
  passed = λ c. record { is = refl; symbols_are = same ∙ sym is.1; bits_are = same_bits ∙ sym is.2; some = some; passes = all };
  up_is = refl;
  down_is = ap (λ b. record side { first_high = b }) (sym (changes is.0));
  test = refl;
  free = refl;
  hold = omega arith;
  rest = omega arith;
  step = omega arith;
  largest = omega (arith, direct);
}

pub clear_leads : (can : Type 0) (stage : Option Clear) (passes : ℕ → Bool) (side : Side) (clears : Bool) (symbols bits : ℕ) → IsClearing clears symbols bits stage → side.symbols ≡ symbols → side.symbol_bits ≡ bits → 0 < side.symbols → PassesAll passes side → side.pace.latency ≡ 0 → (clears ≡ true → side.first_high ≡ true) →
    Leads (shape_of (λ (s : Clear) (shape : Shape). IsClearShape s.symbols s.bits shape) stage) (shape_of (λ (s : Clear) (shape : Shape). IsClearShape s.symbols s.bits shape) stage) can passes side side 0 0 0 0
clear_leads can None passes side clears symbols bits is same same_bits some all direct high = record {
  shape = pass_shape passes side;
  has_it = record { is = refl; some = some; passes = all };
  passed = λ c. record { is = refl; some = some; passes = all };
  up_is = refl;
  down_is = refl;
  test = refl;
  free = refl;
  hold = omega arith;
  rest = omega arith;
  step = omega arith;
  largest = omega (arith, direct);
}
clear_leads can (Some stage) passes side clears symbols bits is same same_bits some all direct high = record {
  shape = wire_shape passes side side side.pace.latency false;
  has_it = record { is = refl; symbols_are = same ∙ sym is.1; bits_are = same_bits ∙ sym is.2; first_high = high is.0; some = some; passes = all };
  passed = λ c. record { is = refl; symbols_are = same ∙ sym is.1; bits_are = same_bits ∙ sym is.2; first_high = high is.0; some = some; passes = all };
  up_is = refl;
  down_is = refl;
  test = refl;
  free = refl;
  hold = omega arith;
  rest = omega arith;
  step = omega arith;
  largest = omega (arith, direct);
}

-- what is gathered for good is less than a wide beat
kept_few : (symbols s p parts wide : ℕ) → s ≡ symbols → p ≡ parts → wide ≡ symbols * parts → 0 < symbols → 2 ≤ p → (p - 1) * s + 1 ≤ wide
kept_few symbols s p parts wide same same_parts size some several =
    let sum = split_symbols symbols parts (omega arith) in
    let turned : (p - 1) * s ≡ symbols * (parts - 1) = ap (λ n. (n - 1) * s) same_parts ∙ ap (λ n. (parts - 1) * n) same ∙ mul_comm (parts - 1) symbols in
    omega (arith, sum, turned, size, some)

held_few : (from into : ℕ) → window_hold from into ≤ from + into
held_few from into = by_size (nat_le from into)
  where
    by_size : (t : Bool) → (if t then into - 1 else from - 1) ≤ from + into
    by_size true = omega arith
    by_size false = omega arith

-- what changes how many symbols a beat has, from a side of this many symbols
pub resize_leads : (resize : Resize) (passes : ℕ → Bool) (side : Side) (into bits : ℕ) → IsResizeOf side.symbols into bits side.packets resize → side.symbol_bits ≡ bits → 0 < side.symbols → 0 < into → PassesAll passes side → side.pace.latency ≡ 0 → side.pace.allowance ≡ 0 → ((side.symbols ≡ into → ⊥) → side.first_high ≡ true)
    → (IsTrue (joins_beats resize) → IsFalse side.packets → side.max_channel ≡ 0) → Leads (resize_has resize) (resize_passes resize) (IsTrue (keeps_ready resize)) passes side (of_symbols side into) (side.symbols + into) (into - 1) 0 0
resize_leads Equal passes side into bits is same_bits some some_into all direct strict high channels = record {
  shape = pass_shape passes side;
  has_it = record { is = refl; some = some; passes = all };
  passed = λ c. record { is = refl; some = some; passes = all };
  up_is = refl;
  down_is = ap (of_symbols side) is;
  test = refl;
  free = refl;
  hold = omega arith;
  rest = omega arith;
  step = omega arith;
  largest = omega (arith, direct);
}
resize_leads (Cut stage) passes side into bits is same_bits some some_into all direct strict high channels = record {
  shape = narrow_shape passes side (of_symbols side stage.sizes.symbols);
  has_it = record {
    is = refl;
    symbols_are = is.0 ∙ ap (λ n. n * stage.sizes.parts) (sym is.1);
    bits_are = same_bits ∙ sym is.2;
    first_high = high (λ same. (let several = stage.sizes.several in let size = is.0 in more_parts into stage.sizes.parts several some_into (sym same ∙ size)));
    at_once = direct;
    passes = all;
  };
  passed = λ c. absurd (cc);
  up_is = refl;
  down_is = ap (of_symbols side) is.1;
  test = refl;
  free = refl;
  hold = omega arith;
  rest = omega arith;
  step = omega arith;
  largest = omega arith;
}
resize_leads (Join stage) passes side into bits is same_bits some some_into all direct strict high channels =
    let parts : ℕ = stage.sizes.parts in
    let below = kept_few side.symbols stage.sizes.symbols parts parts into is.1 refl is.0 some stage.sizes.several in
    let same : (parts - 1) * side.symbols ≡ (parts - 1) * stage.sizes.symbols = ap (λ n. (parts - 1) * n) (sym is.1) in
    let has : resize_has (Join stage) (widen_shape passes stage.sizes.parts side (of_symbols side (stage.sizes.symbols * stage.sizes.parts))) = record {
      is = refl;
      symbols_are = sym is.1;
      bits_are = same_bits ∙ sym is.2;
      first_high = high (λ same. (let several = stage.sizes.several in let size = is.0 in more_parts side.symbols parts several some (same ∙ size)));
      at_once = direct;
      strict = strict;
      unmarked = λ none. sym is.3 ∙ none;
      channels = channels refl;
      passes = all;
    } in
    record {
      shape = widen_shape passes stage.sizes.parts side (of_symbols side (stage.sizes.symbols * stage.sizes.parts));
      has_it = has;
      passed = λ c. has;
      up_is = refl;
      down_is = ap (of_symbols side) (ap (λ n. n * stage.sizes.parts) is.1 ∙ sym is.0);
      test = refl;
      free = refl;
      hold = omega (arith, below, same);
      rest = omega (arith, below, same);
      step = omega arith;
      largest = omega arith;
    }
resize_leads (Slide stage) passes side into bits is same_bits some some_into all direct strict high channels = record {
  shape = window_shape passes side (of_symbols side stage.sizes.into);
  has_it = record {
    is = refl;
    symbols_are = sym is.2;
    bits_are = same_bits ∙ sym is.4;
    first_high = high (λ same. is.0 (subst (λ n. side.symbols % n ≡ 0) same (mod_self side.symbols)));
    at_once = direct;
    strict = strict;
    channels = channels refl;
    passes = all;
  };
  passed = λ c. absurd (cc);
  up_is = refl;
  down_is = ap (of_symbols side) is.3;
  test = refl;
  free = refl;
  hold = subst (λ n. window_hold side.symbols n ≤ side.symbols + into) (sym is.3) (held_few side.symbols into);
  rest = subst (λ n. n - 1 ≤ into - 1) (sym is.3) (omega arith);
  step = omega arith;
  largest = omega arith;
}
