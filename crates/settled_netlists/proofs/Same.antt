-- Valuations and runs of a module with constants are those of the module that it was made of, and nothing more can be known of it.
use Rattle.std.proofs.Common.{◌≡◌, ℕ, zero, suc, ◌+◌, ◌^◌, ◌<◌, ◌⊎◌, inl, inr, Bool, true, false, List, [], ◌∷◌, slice_get, Option, Some, None, refl, sym, ap, subst, ◌∙◌, arith}
use Rattle.std.specs.Prelude.{◌==◌, IfSome, option_map, unwrap_or, if◌then◌else◌}
use Rattle.std.proofs.Math.Path.{fun_ext}
use Rattle.std.proofs.lemmas.Bool.{eqb-true}
use Rattle.std.proofs.lemmas.Option.{same_Some}
use Rattle.av_base.specs.Word.{Word}
use Rattle.netlist.specs.declared.line.Line.{Line}
use Rattle.netlist.specs.declared.line.PortLine.{PortLine}
use Rattle.netlist.specs.declared.line.Memory.{Memory}
use Rattle.netlist.specs.declared.line.Equation.{Equation}
use Rattle.netlist.specs.declared.line.Equation.TheVariants.{Constant, Concat, Reg}
use Rattle.netlist.specs.Netlists.{Netlist, IsSound, driver_of, input_net, is_register, next_in, next_of, line_of}
use Rattle.netlist.specs.Runs.{Cycle, Run, cycle_of, value_of, reset_of, NetHolds, IsValuation, StartsAt, Steps, IsRun, SameState, WordsFit}
use Rattle.netlist.specs.Signals.{port_net, port_named, signal}
use Rattle.settled_netlists.specs.Values.{value_at, reg_known, given_by, HaveWidths, AreSettled}
use Rattle.settled_netlists.specs.Settled.{IsConstantAt, HasStateOf, IsSettled}
use Rattle.settled_netlists.proofs.Lists.{slice_get-some, get_or-past}
use Rattle.settled_netlists.proofs.Given.{Tells, Show, all_read, given_grows, given_shown, reset_given}
use Rattle.settled_netlists.proofs.Constants.{IsMade, line_made, value_wide, width_made, width_from}

-- ---- valuations

-- the line of a net with a value
record HasLine (whole made : Netlist) (n : ℕ) (v : Word) : Type 0 where
  pub line : Line
  pub at : slice_get whole.lines n ≡ Some line
  pub constant : slice_get made.lines n ≡ Some (line_of v.width (Constant v))

has_line : (whole made : Netlist) (values : List (Option Word)) (n : ℕ) (v : Word) → IsMade whole made values → value_at values n ≡ Some v → HasLine whole made n v
has_line whole made values n v m e =
    let within = get_or-past values n v e in
    let count = m.bounds.count in
    let some = slice_get-some whole.lines n (omega (arith, within, count)) in
    record { line = some.0; at = some.1; constant = line_made whole made values n some.0 (Some v) m some.1 e }

pub shown : (whole made : Netlist) (values : List (Option Word)) (cycle : Cycle) → IsMade whole made values → IsValuation made cycle → Show values cycle
shown whole made values cycle m v n x e = (v.nets n (line_of x.width (Constant x)) (has_line whole made values n x m e).constant).value

same_values : (whole made : Netlist) (values : List (Option Word)) (cycle : Cycle) (n w : ℕ) (e : Equation) → IsMade whole made values → IsSound whole.ports whole.memories whole.lines n w e → value_of made.lines cycle w e ≡ value_of whole.lines cycle w e
same_values whole made values cycle n w (Concat a c) m s = rw (width_made whole made values c s.low_width m s.low.width, s.low.width) refl
same_values whole made values cycle n w _ m s = refl

holds : (whole made : Netlist) (values : List (Option Word)) (cycle : Cycle) (n : ℕ) (line : Line) (o : Option Word) → IsMade whole made values → IsValuation made cycle → slice_get whole.lines n ≡ Some line → value_at values n ≡ o
    → NetHolds whole.lines cycle n line
holds whole made values cycle n line None m v at is =
    let its = v.nets n line (line_made whole made values n line None m at is) in
    record {
      fits = its.fits;
      value = subst (λ (x : Option ℕ). IfSome x (λ y. cycle.net n ≡ y)) (same_values whole made values cycle n line.width line.equation m (m.is_module.well_made.lines n line at).equation) its.value;
    }
holds whole made values cycle n line (Some x) m v at is =
    let its = v.nets n (line_of x.width (Constant x)) (line_made whole made values n line (Some x) m at is) in
    let given = given_shown whole values cycle n line.width line.equation x (m.is_module.well_made.lines n line at).equation m.bounds.widths (shown whole made values cycle m v) (m.settled.each n line x at is) in
    record {
      fits = subst (λ w. cycle.net n < 2 ^ w) (value_wide whole values n line x m.bounds at is) its.fits;
      value = subst (λ t. IfSome (value_of whole.lines cycle line.width line.equation) (λ y. t ≡ y)) (sym its.value) given;
    }

pub valuation : (whole made : Netlist) (values : List (Option Word)) (cycle : Cycle) → IsMade whole made values → IsValuation made cycle → IsValuation whole cycle
valuation whole made values cycle m v = record {
  nets = λ n line at. holds whole made values cycle n line (value_at values n) m v at refl;
  words = subst (λ (ms : List Memory). WordsFit ms cycle.cell) m.memories v.words;
}

-- ---- runs

starts_value : (values : List (Option Word)) (e : Equation) (v : Word) → given_by values e ≡ Some v → IfSome (reset_of e) (λ x. v.bits ≡ x)
starts_value values (Reg reset next) v e = ap (λ (u : Word). u.bits) (sym (reset_given reset (value_at values next) v e))
starts_value values _ v e = tt

starts_at : (whole made : Netlist) (values : List (Option Word)) (first : Cycle) (n : ℕ) (line : Line) (o : Option Word) → IsMade whole made values → Show values first → StartsAt made first → slice_get whole.lines n ≡ Some line → value_at values n ≡ o
    → IfSome (reset_of line.equation) (λ x. first.net n ≡ x)
starts_at whole made values first n line None m k s at is = s.registers n line (line_made whole made values n line None m at is)
starts_at whole made values first n line (Some v) m k s at is =
    subst (λ t. IfSome (reset_of line.equation) (λ y. t ≡ y)) (sym (k n v is)) (starts_value values line.equation v (m.settled.each n line v at is))

kept_next : (reset : Word) (o : Option Word) (v : Word) (x : ℕ) → ((u : Word) → o ≡ Some u → x ≡ u.bits) → reg_known reset o ≡ Some v → v.bits ≡ x
kept_next reset None v x h e = cc
kept_next reset (Some u) v x h e = same (u.bits == reset.bits) refl e where
  same : (t : Bool) → (u.bits == reset.bits) ≡ t → (if t then Some reset else None) ≡ Some v → v.bits ≡ x
  same true is f = ap (λ (y : Word). y.bits) (sym (same_Some _ _ f)) ∙ sym (eqb-true u.bits reset.bits is) ∙ sym (h u refl)
  same false is f = cc

next_value : (values : List (Option Word)) (before : Cycle) (waits : Bool) (e : Equation) (v : Word) → Show values before → given_by values e ≡ Some v → IfSome (if waits then None else next_in e) (λ j. v.bits ≡ before.net j)
next_value values before true e v k h = tt
next_value values before false (Reg reset next) v k h = kept_next reset (value_at values next) v (before.net next) (k next) h
next_value values before false _ v k h = tt

steps_at : (whole made : Netlist) (values : List (Option Word)) (before after : Cycle) (n : ℕ) (line : Line) (o : Option Word) → IsMade whole made values → Show values before → Show values after → Steps made before after
    → slice_get whole.lines n ≡ Some line → value_at values n ≡ o → IfSome (next_of line) (λ j. after.net n ≡ before.net j)
steps_at whole made values before after n line None m k l s at is = s.registers n line (line_made whole made values n line None m at is)
steps_at whole made values before after n line (Some v) m k l s at is =
    subst (λ t. IfSome (next_of line) (λ j. t ≡ before.net j)) (sym (l n v is)) (next_value values before line.waits line.equation v k (m.settled.each n line v at is))

pub run_is : (whole made : Netlist) (values : List (Option Word)) (run : Run) (cycles : ℕ) → IsMade whole made values → IsRun made run cycles → IsRun whole run cycles
run_is whole made values run cycles m h = record {
  valuations = λ c lt. valuation whole made values (cycle_of run c) m (h.valuations c lt);
  starts = λ lt. record {
    registers = λ n line at. starts_at whole made values (cycle_of run 0) n line (value_at values n) m (shown whole made values (cycle_of run 0) m (h.valuations 0 lt)) (h.starts lt) at refl;
  };
  steps = λ c lt. record {
    registers = λ n line at. (let below : c < cycles = omega arith in
        steps_at whole made values (cycle_of run c) (cycle_of run (c + 1)) n line (value_at values n) m (shown whole made values (cycle_of run c) m (h.valuations c below))
        (shown whole made values (cycle_of run (c + 1)) m (h.valuations (c + 1) lt)) (h.steps c lt) at refl);
    words = λ j memory at address below. (h.steps c lt).words j memory (subst (λ (ms : List Memory). slice_get ms j ≡ Some memory) (sym m.memories) at) address below;
  };
}

-- ---- signals

same_port : (whole made : Netlist) (values : List (Option Word)) (k : ℕ) → IsMade whole made values → port_net made k ≡ port_net whole k
same_port whole made values k m =
    ap (λ (o : Option ℕ). unwrap_or o (input_net made.ports k)) (m.drivers k) ∙ ap (λ (ps : List PortLine). unwrap_or (driver_of whole k) (input_net ps k)) m.ports

same_signal : (whole made : Netlist) (values : List (Option Word)) (run : Run) (name : List ℕ) → IsMade whole made values → signal made run name ≡ signal whole run name
same_signal whole made values run name m =
    ap (λ (f : ℕ → ℕ). option_map {U = ℕ → ℕ} (λ k. λ c. run.net c (f k)) (port_named made.ports name)) (fun_ext (λ k. same_port whole made values k m))
    ∙ ap (λ (ps : List PortLine). option_map {U = ℕ → ℕ} (λ k. λ c. run.net c (port_net whole k)) (port_named ps name)) m.ports

-- ---- states

abbrev state_or : Option Word → ℕ → ℕ
state_or (Some v) x = v.bits
state_or None x = x

same_state_at : (whole made : Netlist) (values : List (Option Word)) (state cycle : Cycle) (n : ℕ) (line : Line) (o : Option Word) → IsMade whole made values → IsValuation made cycle → SameState made state cycle
    → slice_get whole.lines n ≡ Some line → is_register line.equation ≡ true → value_at values n ≡ o → state_or o (state.net n) ≡ cycle.net n
same_state_at whole made values state cycle n line None m v s at register is = s.registers n line (line_made whole made values n line None m at is) register
same_state_at whole made values state cycle n line (Some x) m v s at register is = sym (shown whole made values cycle m v n x is)

state_of : (whole made : Netlist) (values : List (Option Word)) (state : Cycle) → IsMade whole made values → HasStateOf whole made state
state_of whole made values state m = record {
  whole_state = record { input = state.input; net = λ n. state_or (value_at values n) (state.net n); cell = state.cell };
  each = λ cycle v s. record {
    registers = λ n line at register. same_state_at whole made values state cycle n line (value_at values n) m v s at register refl;
    words = λ j memory at address lt. s.words j memory (subst (λ (ms : List Memory). slice_get ms j ≡ Some memory) (sym m.memories) at) address lt;
  };
}

-- ---- nothing is left

abbrev or_else : Option Word → Option Word → Option Word
or_else (Some v) other = Some v
or_else None other = other

joined : List (Option Word) → List (Option Word) → List (Option Word)
joined [] ys = ys
joined (x ∷ xs) [] = x ∷ joined xs []
joined (x ∷ xs) (y ∷ ys) = or_else x y ∷ joined xs ys

or_none : (x : Option Word) → x ≡ or_else x None
or_none None = refl
or_none (Some v) = refl

joined_at : (xs ys : List (Option Word)) (n : ℕ) → value_at (joined xs ys) n ≡ or_else (value_at xs n) (value_at ys n)
unfolding joined
joined_at [] ys n = refl
joined_at (x ∷ xs) [] zero = or_none x
joined_at (x ∷ xs) [] (suc n) = joined_at xs [] n
joined_at (x ∷ xs) (y ∷ ys) zero = refl
joined_at (x ∷ xs) (y ∷ ys) (suc n) = joined_at xs ys n

-- values of the module with constants are the constants' where there are such
others_are : (whole made : Netlist) (values others : List (Option Word)) (n : ℕ) (v : Word) (o : Option Word) → IsMade whole made values → AreSettled made others → value_at values n ≡ o → value_at others n ≡ Some v
    → or_else o (value_at others n) ≡ Some v
others_are whole made values others n v None m s is e = e
others_are whole made values others n v (Some u) m s is e = s.each n (line_of u.width (Constant u)) v (has_line whole made values n u m is).constant e

one_or_other : (x y : Option Word) (v : Word) → or_else x y ≡ Some v → (x ≡ Some v) ⊎ (x ≡ None) × (y ≡ Some v)
one_or_other (Some u) y v e = inl e
one_or_other None y v e = inr (refl, e)

joined_settled : (whole made : Netlist) (values others : List (Option Word)) → IsMade whole made values → AreSettled made others → AreSettled whole (joined values others)
joined_settled whole made values others m s = record {
  widths = widths;
  each = λ n line v at e. elim (one_or_other (value_at values n) (value_at others n) v (sym (joined_at values others n) ∙ e)) [
    | inl mine ↦ given_grows whole values all n line.width line.equation v (sound n line at) widths (all_read (λ a. Tells (value_at values a) (value_at all a)) mine_tell line.equation) (m.settled.each n line v at mine)
    | inr its ↦ given_grows whole others all n line.width line.equation v (sound n line at) widths (all_read (λ a. Tells (value_at others a) (value_at all a)) others_tell line.equation)
        (s.each n line v (line_made whole made values n line None m at its.0) its.1)
  ];
} where
  all : List (Option Word)
  all = joined values others

  sound : (n : ℕ) (line : Line) → slice_get whole.lines n ≡ Some line → IsSound whole.ports whole.memories whole.lines n line.width line.equation
  sound n line at = (m.is_module.well_made.lines n line at).equation

  mine_tell : (a : ℕ) → Tells (value_at values a) (value_at (joined values others) a)
  mine_tell a v e = joined_at values others a ∙ ap (λ (o : Option Word). or_else o (value_at others a)) e

  others_tell : (a : ℕ) → Tells (value_at others a) (value_at (joined values others) a)
  others_tell a v e = joined_at values others a ∙ others_are whole made values others a v (value_at values a) m s refl e

  widths : HaveWidths whole (joined values others)
  widths n v e = elim (one_or_other (value_at values n) (value_at others n) v (sym (joined_at values others n) ∙ e)) [
    | inl mine ↦ m.bounds.widths n v mine
    | inr its ↦ width_from whole made values n v.width m (s.widths n v its.1)
  ]

nothing : (whole made : Netlist) (values others : List (Option Word)) (n : ℕ) (v : Word) → IsMade whole made values → AreSettled made others → value_at others n ≡ Some v → slice_get made.lines n ≡ Some (line_of v.width (Constant v))
nothing whole made values others n v m s e =
    let all = m.bounds.all (joined values others) (joined_settled whole made values others m s) n v (joined_at values others n ∙ others_are whole made values others n v (value_at values n) m s refl e) in
    (has_line whole made values n v m all).constant

-- ---- the settled module

stays_or_constant : (whole made : Netlist) (values : List (Option Word)) (n : ℕ) (line : Line) (o : Option Word) → IsMade whole made values → slice_get whole.lines n ≡ Some line → value_at values n ≡ o
    → (slice_get made.lines n ≡ Some line) ⊎ IsConstantAt made n line
stays_or_constant whole made values n line None m at is = inl (line_made whole made values n line None m at is)
stays_or_constant whole made values n line (Some v) m at is =
    inr (record { value = v; is = subst (λ w. slice_get made.lines n ≡ Some (line_of w (Constant v))) (value_wide whole values n line v m.bounds at is) (line_made whole made values n line (Some v) m at is) })

constant_stays : (whole made : Netlist) (values : List (Option Word)) (n w : ℕ) (value : Word) (o : Option Word) → IsMade whole made values → slice_get whole.lines n ≡ Some (line_of w (Constant value)) → value_at values n ≡ o
    → slice_get made.lines n ≡ Some (line_of w (Constant value))
constant_stays whole made values n w value None m at is = line_made whole made values n (line_of w (Constant value)) None m at is
constant_stays whole made values n w value (Some v) m at is =
    let same : value ≡ v = same_Some _ _ (m.settled.each n (line_of w (Constant value)) v at is) in
    let wide : v.width ≡ w = value_wide whole values n (line_of w (Constant value)) v m.bounds at is in
    line_made whole made values n (line_of w (Constant value)) (Some v) m at is ∙ ap (λ (u : Word). Some (line_of v.width (Constant u))) (sym same) ∙ ap (λ t. Some (line_of t (Constant value))) wide

pub settled_is : (whole made : Netlist) (values : List (Option Word)) → IsMade whole made values → IsSettled whole made
settled_is whole made values m = record {
  name = m.name;
  ports = m.ports;
  drivers = m.drivers;
  memories = λ j. ap (λ (ms : List Memory). slice_get ms j) m.memories;
  count = m.lines.few;
  lines = λ n line at. stays_or_constant whole made values n line (value_at values n) m at refl;
  constants = λ n w value at. constant_stays whole made values n w value (value_at values n) m at refl;
  valuations = λ cycle v. valuation whole made values cycle m v;
  runs = λ run cycles h. run_is whole made values run cycles m h;
  signals = λ run name. same_signal whole made values run name m;
  states = λ state. state_of whole made values state m;
  nothing_left = λ others s n v e. nothing whole made values others n v m s e;
}
