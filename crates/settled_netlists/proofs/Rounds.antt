-- The values with which the rounds begin, and how a round leaves them.
use Rattle.std.proofs.Common.{◌≡◌, ℕ, zero, suc, ◌+◌, ◌<◌, ◌≤◌, ◌⊎◌, inl, inr, Bool, true, false, List, [], ◌∷◌, ◌++◌, length, set, slice_get, Option, Some, None, refl, sym, ap, subst, ◌∙◌, arith, length-append}
use Rattle.std.proofs.Math.ListN.{length-set}
use Rattle.std.proofs.lemmas.List.{get_or_append_left, get_or_push}
use Rattle.std.proofs.lemmas.Bool.{cases_lt}
use Rattle.std.proofs.lemmas.Option.{slice_get_within, same_Some}
use Rattle.av_base.specs.Word.{Word, word}
use Rattle.netlist.specs.declared.line.Line.{Line}
use Rattle.netlist.specs.declared.line.Equation.{Equation}
use Rattle.netlist.specs.declared.line.Equation.TheVariants.{Reg}
use Rattle.netlist.specs.Netlists.{Netlist, IsModule, IsSound, HasWidth, is_register}
use Rattle.settled_netlists.specs.Values.{value_at, given_by, HaveWidths, AreSettled, AreBounds, AreValued}
use Rattle.settled_netlists.specs.Lines.{first_given, IsHeld}
use Rattle.settled_netlists.proofs.Lists.{slice_get-some, slice_get-front, slice_get-last, slice_get-more, get_or-past, width_at-is}
use Rattle.settled_netlists.proofs.Given.{Tells, all_read, below_read, given_grows, given_wide, reset_given}

-- ---- the first values

pub record AreFirst (b : Netlist) (values : List (Option Word)) (count : ℕ) : Type 0 where
  pub few : length values ≡ count
  pub widths : HaveWidths b values
  pub all : (others : List (Option Word)) → AreSettled b others → (n : ℕ) (v : Word) → n < count → value_at others n ≡ Some v → value_at values n ≡ Some v

pub first_none : (b : Netlist) → AreFirst b [] 0
first_none b = record { few = refl; widths = λ n v e. cc; all = λ others s n v lt e. absurd (omega arith) }

value_more : (values : List (Option Word)) (x : Option Word) (m : ℕ) (v : Word) → value_at (values ++ x ∷ []) m ≡ Some v → (value_at values m ≡ Some v) ⊎ (m ≡ length values) × (x ≡ Some v)
value_more [] x zero v e = inr (refl, e)
value_more [] x (suc m) v e = cc
value_more (a ∷ xs) x zero v e = inl e
value_more (a ∷ xs) x (suc m) v e = elim (value_more xs x m v e) [ inl h ↦ inl h | inr h ↦ inr (ap suc h.0, h.1) ]

value_front : (values : List (Option Word)) (x : Option Word) (m : ℕ) (v : Word) → value_at values m ≡ Some v → value_at (values ++ x ∷ []) m ≡ Some v
value_front values x m v e = get_or_append_left values (x ∷ []) None m (get_or-past values m v e) ∙ e

first_register : (values others : List (Option Word)) (e : Equation) (v : Word) → is_register e ≡ true → given_by others e ≡ Some v → first_given values e ≡ Some v
first_register values others (Reg reset next) v r e = ap Some (reset_given reset (value_at others next) v e)
first_register values others _ v r e = cc

first_is : (values : List (Option Word)) (e : Equation) → is_register e ≡ false → first_given values e ≡ given_by values e
first_is values (Reg reset next) r = cc
first_is values _ r = refl

pub first_other : (values : List (Option Word)) (e : Equation) → ((reset : Word) (next : ℕ) → e ≡ Reg reset next → ⊥) → first_given values e ≡ given_by values e
first_other values (Reg reset next) h = absurd (h reset next refl)
first_other values _ h = refl

register_wide : (b : Netlist) (values : List (Option Word)) (n w : ℕ) (e : Equation) (v : Word) → IsSound b.ports b.memories b.lines n w e → is_register e ≡ true → first_given values e ≡ Some v → v.width ≡ w
register_wide b values n w (Reg reset next) v s r e = subst (λ (u : Word). u.width ≡ w) (same_Some _ _ e) s.width
register_wide b values n w _ v s r e = cc

first_wide : (b : Netlist) (values : List (Option Word)) (n w : ℕ) (e : Equation) (v : Word) (t : Bool) → is_register e ≡ t → IsSound b.ports b.memories b.lines n w e → HaveWidths b values → first_given values e ≡ Some v → v.width ≡ w
first_wide b values n w e v true r s h k = register_wide b values n w e v s r k
first_wide b values n w e v false r s h k = given_wide b values n w e v s h (sym (first_is values e r) ∙ k)

first_tells : (b : Netlist) (values others : List (Option Word)) (n w : ℕ) (e : Equation) (v : Word) (t : Bool) → is_register e ≡ t → IsSound b.ports b.memories b.lines n w e → HaveWidths b values
    → ((a : ℕ) → a < n → Tells (value_at others a) (value_at values a)) → given_by others e ≡ Some v → first_given values e ≡ Some v
first_tells b values others n w e v true r s h below k = first_register values others e v r k
first_tells b values others n w e v false r s h below k =
    first_is values e r ∙ given_grows b others values n w e v s h (below_read (λ a. Tells (value_at others a) (value_at values a)) b n w e s r below) k

pub first_more : (b : Netlist) (values : List (Option Word)) (n : ℕ) (line : Line) (x : Option Word) → IsModule b → AreFirst b values n → slice_get b.lines n ≡ Some line → x ≡ first_given values line.equation
    → AreFirst b (values ++ x ∷ []) (n + 1)
first_more b values n line x h f at is = record {
  few = (let one = length-append values (x ∷ []) in let few = f.few in omega (arith, one, few));
  widths = λ m v e. elim (value_more values x m v e) [
    | inl before ↦ f.widths m v before
    | inr here ↦ (let wide = first_wide b values n line.width line.equation v (is_register line.equation) refl sound f.widths (sym is ∙ here.1) in
        let place : m ≡ n = here.0 ∙ f.few in
        subst (λ j. HasWidth b j v.width) (sym place) (width_at-is b.lines n line at ∙ ap Some (sym wide)))
  ];
  all = λ others s m v lt e. elim (cases_lt m n) [
    | inl below ↦ value_front values x m v (f.all others s m v below e)
    | inr past ↦ (let place : m ≡ n = omega (arith, lt, past) in
        let there : value_at others n ≡ Some v = subst (λ j. value_at others j ≡ Some v) place e in
        let given = first_tells b values others n line.width line.equation v (is_register line.equation) refl sound f.widths (λ a less u k. f.all others s a u less k) (s.each n line v at there) in
        get_or_push values x None m (f.few ∙ sym place) ∙ is ∙ given)
  ];
} where
  sound : IsSound b.ports b.memories b.lines n line.width line.equation
  sound = (h.well_made.lines n line at).equation

pub first_bounds : (b : Netlist) (values : List (Option Word)) (count : ℕ) → count ≡ length b.lines → AreFirst b values count → AreBounds b values
first_bounds b values count e f = record {
  count = f.few ∙ e;
  widths = f.widths;
  all = λ others s n v is. (let has = s.widths n v is in f.all others s n v (let lt = within n v.width has in omega (arith, lt, e)) is);
} where
  within : (n w : ℕ) → HasWidth b n w → n < length b.lines
  within n w has = (let at = Rattle.settled_netlists.proofs.Lists.width_at-line b.lines n w has in slice_get_within b.lines n at.0 at.1)

-- ---- the nets that have a value

pub record AreValuedBelow (b : Netlist) (values : List (Option Word)) (count : ℕ) (nets : List ℕ) : Type 0 where
  pub within : (k n : ℕ) → slice_get nets k ≡ Some n → n < count
  pub each : (n : ℕ) (value : Word) → n < count → value_at values n ≡ Some value → (k : ℕ) × (slice_get nets k ≡ Some n)

pub valued_none : (b : Netlist) (values : List (Option Word)) → AreValuedBelow b values 0 []
valued_none b values = record { within = λ k n e. cc; each = λ n v lt e. absurd (omega arith) }

pub valued_more : (b : Netlist) (values : List (Option Word)) (count : ℕ) (nets : List ℕ) → AreValuedBelow b values count nets → AreValuedBelow b values (count + 1) (nets ++ count ∷ [])
valued_more b values count nets h = record {
  within = λ k n e. elim (slice_get-more nets count n k e) [ inl before ↦ (let lt = h.within k n before in omega (arith, lt)) | inr here ↦ omega (arith, here) ];
  each = λ n v lt e. elim (cases_lt n count) [
    | inl below ↦ (let its = h.each n v below e in (its.0, slice_get-front nets (count ∷ []) its.0 n its.1))
    | inr past ↦ (let place : count ≡ n = omega (arith, lt, past) in (length nets, slice_get-last nets count ∙ ap Some place))
  ];
}

pub valued_same : (b : Netlist) (values : List (Option Word)) (count : ℕ) (nets : List ℕ) → AreValuedBelow b values count nets → value_at values count ≡ None → AreValuedBelow b values (count + 1) nets
valued_same b values count nets h none = record {
  within = λ k n e. (let lt = h.within k n e in omega (arith, lt));
  each = λ n v lt e. elim (cases_lt n count) [
    | inl below ↦ h.each n v below e
    | inr past ↦ absurd (let place : n ≡ count = omega (arith, lt, past) in let there : value_at values count ≡ Some v = subst (λ j. value_at values j ≡ Some v) place e in cc)
  ];
}

pub valued_all : (b : Netlist) (values : List (Option Word)) (count : ℕ) (nets : List ℕ) → count ≡ length b.lines → length values ≡ length b.lines → AreValuedBelow b values count nets → AreValued b values nets
valued_all b values count nets e f h = record {
  within = λ k n at. (let lt = h.within k n at in omega (arith, lt, e));
  each = λ n v is. h.each n v (let lt = get_or-past values n v is in omega (arith, lt, e, f)) is;
}

-- ---- a round

-- the net is left, or its turn has yet to come
abbrev IsThere : List ℕ → ℕ → List ℕ → ℕ → Type 0
IsThere nets count left n = ((k : ℕ) × (slice_get left k ≡ Some n)) ⊎ ((k : ℕ) × (count ≤ k) × (slice_get nets k ≡ Some n))

pub record AreLeft (b : Netlist) (values : List (Option Word)) (nets : List ℕ) (count : ℕ) (left : List ℕ) : Type 0 where
  pub bounds : AreBounds b values
  pub within : (k n : ℕ) → slice_get left k ≡ Some n → n < length b.lines
  pub each : (n : ℕ) (v : Word) → value_at values n ≡ Some v → IsThere nets count left n
  pub fewer : length left ≤ count
  pub held : length left ≡ count → (k n : ℕ) → slice_get left k ≡ Some n → IsHeld b values n

pub left_none : (b : Netlist) (values : List (Option Word)) (nets : List ℕ) → AreBounds b values → AreValued b values nets → AreLeft b values nets 0 []
left_none b values nets h v = record {
  bounds = h;
  within = λ k n e. cc;
  each = λ n x e. (let its = v.each n x e in inr (its.0, (omega arith), its.1));
  fewer = omega arith;
  held = λ e k n is. cc;
}

pub left_kept : (b : Netlist) (values : List (Option Word)) (nets : List ℕ) (i n : ℕ) (left : List ℕ) → AreLeft b values nets i left → slice_get nets i ≡ Some n → n < length b.lines → IsHeld b values n
    → AreLeft b values nets (i + 1) (left ++ n ∷ [])
left_kept b values nets i n left h at lt its = record {
  bounds = h.bounds;
  within = λ k m e. elim (slice_get-more left n m k e) [ inl before ↦ h.within k m before | inr here ↦ subst (λ j. j < length b.lines) here lt ];
  each = λ m v e. elim (h.each m v e) [
    | inl there ↦ inl (there.0, slice_get-front left (n ∷ []) there.0 m there.1)
    | inr coming ↦ elim (cases_lt i coming.0) [
      | inl behind ↦ inr (coming.0, (omega arith), coming.2)
      | inr past ↦ (let k = coming.0 in let le = coming.1 in
          let place : k ≡ i = omega (arith, le, past) in
          let here : slice_get nets i ≡ Some m = subst (λ j. slice_get nets j ≡ Some m) place coming.2 in
          inl (length left, slice_get-last left n ∙ sym at ∙ here))
    ]
  ];
  fewer = (let one = length-append left (n ∷ []) in let few = h.fewer in omega (arith, one, few));
  held = λ e k m is. elim (slice_get-more left n m k is) [
    | inl before ↦ h.held (let one = length-append left (n ∷ []) in omega (arith, one, e)) k m before
    | inr here ↦ subst (IsHeld b values) here its
  ];
}

value_set : (values : List (Option Word)) (n m : ℕ) (v : Word) → value_at (set values n None) m ≡ Some v → (value_at values m ≡ Some v) × (m ≡ n → ⊥)
value_set [] n m v e = cc
value_set (a ∷ xs) zero zero v e = cc
value_set (a ∷ xs) zero (suc m) v e = (e, (λ p. absurd (omega (arith, p))))
value_set (a ∷ xs) (suc n) zero v e = (e, (λ p. absurd (omega (arith, p))))
value_set (a ∷ xs) (suc n) (suc m) v e = (let its = value_set xs n m v e in (its.0, (λ p. its.1 (let q : m ≡ n = omega (arith, p) in q))))

set_keeps : (values : List (Option Word)) (n m : ℕ) (v : Word) → value_at values m ≡ Some v → (value_at (set values n None) m ≡ Some v) ⊎ (m ≡ n)
set_keeps [] n m v e = cc
set_keeps (a ∷ xs) zero zero v e = inr refl
set_keeps (a ∷ xs) zero (suc m) v e = inl e
set_keeps (a ∷ xs) (suc n) zero v e = inl e
set_keeps (a ∷ xs) (suc n) (suc m) v e = elim (set_keeps xs n m v e) [ inl h ↦ inl h | inr h ↦ inr (ap suc h) ]

-- a value with the bits that the equation gives is held up
pub held_is : (b : Netlist) (values : List (Option Word)) (n : ℕ) (value given : Word) → IsModule b → HaveWidths b values → n < length b.lines → value_at values n ≡ Some value
    → ((line : Line) → slice_get b.lines n ≡ Some line → Some given ≡ given_by values line.equation) → value.bits ≡ given.bits → IsHeld b values n
held_is b values n value given m h lt is f bits =
    let some = slice_get-some b.lines n lt in
    let e = f some.0 some.1 in
    let one = given_wide b values n some.0.width some.0.equation given (m.well_made.lines n some.0 some.1).equation h (sym e) in
    let other : value.width ≡ some.0.width = same_Some _ _ (sym (h n value is) ∙ width_at-is b.lines n some.0 some.1) in
    let same : given ≡ value = ap (λ t. word t given.bits) (one ∙ sym other) ∙ ap (word value.width) (sym bits) in
    record { line = some.0; at = some.1; value = value; is = is; given = sym e ∙ ap Some same }

-- a value that others hold up is held up
held_by : (b : Netlist) (values others : List (Option Word)) (n : ℕ) (v : Word) → IsModule b → AreBounds b values → AreSettled b others → n < length b.lines → value_at others n ≡ Some v → IsHeld b values n
held_by b values others n v h bounds s lt e =
    let some = slice_get-some b.lines n lt in
    record {
      line = some.0;
      at = some.1;
      value = v;
      is = bounds.all others s n v e;
      given = given_grows b others values n some.0.width some.0.equation v (h.well_made.lines n some.0 some.1).equation bounds.widths
          (all_read (λ a. Tells (value_at others a) (value_at values a)) (λ a u k. bounds.all others s a u k) some.0.equation) (s.each n some.0 v some.1 e);
    }

bounds_set : (b : Netlist) (values : List (Option Word)) (n : ℕ) → IsModule b → AreBounds b values → n < length b.lines → ¬ IsHeld b values n → AreBounds b (set values n None)
bounds_set b values n h bounds lt free = record {
  count = length-set values n None ∙ bounds.count;
  widths = λ m v e. bounds.widths m v (value_set values n m v e).0;
  all = λ others s m v e. elim (set_keeps values n m v (bounds.all others s m v e)) [
    | inl kept ↦ kept
    | inr here ↦ absurd (free (held_by b values others n v h bounds s lt (subst (λ j. value_at others j ≡ Some v) here e)))
  ];
}

pub left_dropped : (b : Netlist) (values : List (Option Word)) (nets : List ℕ) (i n : ℕ) (left : List ℕ) → IsModule b → AreLeft b values nets i left → slice_get nets i ≡ Some n → n < length b.lines → ¬ IsHeld b values n
    → AreLeft b (set values n None) nets (i + 1) left
left_dropped b values nets i n left whole h at lt free = record {
  bounds = bounds_set b values n whole h.bounds lt free;
  within = h.within;
  each = λ m v e. (let was = value_set values n m v e in elim (h.each m v was.0) [
    | inl there ↦ inl there
    | inr coming ↦ elim (cases_lt i coming.0) [
      | inl behind ↦ inr (coming.0, (omega arith), coming.2)
      | inr past ↦ absurd (let k = coming.0 in let le = coming.1 in
          let place : k ≡ i = omega (arith, le, past) in
          let here : slice_get nets i ≡ Some m = subst (λ j. slice_get nets j ≡ Some m) place coming.2 in
          was.1 (same_Some _ _ (sym here ∙ at)))
    ]
  ]);
  fewer = (let few = h.fewer in omega (arith, few));
  held = λ e k m is. absurd (let few = h.fewer in omega (arith, few, e));
}

pub left_valued : (b : Netlist) (values : List (Option Word)) (nets : List ℕ) (count : ℕ) (left : List ℕ) → length nets ≤ count → AreLeft b values nets count left → AreValued b values left
left_valued b values nets count left few h = record {
  within = h.within;
  each = λ n v e. elim (h.each n v e) [ inl there ↦ there | inr coming ↦ absurd (let lt = slice_get_within nets coming.0 n coming.2 in let le = coming.1 in omega (arith, lt, le, few)) ];
}

pub left_settled : (b : Netlist) (values : List (Option Word)) (nets : List ℕ) (count : ℕ) (left : List ℕ) → length nets ≤ count → AreLeft b values nets count left → length left ≡ count → AreSettled b values
left_settled b values nets count left few h e = record {
  widths = h.bounds.widths;
  each = λ n line v at is. (let there = (left_valued b values nets count left few h).each n v is in
      let its = h.held e there.0 n there.1 in
      let line_is : its.line ≡ line = same_Some _ _ (sym its.at ∙ at) in
      let value_is : its.value ≡ v = same_Some _ _ (sym its.is ∙ is) in
      subst (λ (l : Line). given_by values l.equation ≡ Some v) line_is (its.given ∙ ap Some value_is));
}

-- ---- rounds

-- what stands after a round
pub record IsRound (b : Netlist) (values : List (Option Word)) (nets left : List ℕ) : Type 0 where
  pub bounds : AreBounds b values
  pub valued : AreValued b values left
  pub fewer : length left ≤ length nets
  pub settled : length left ≡ length nets → AreSettled b values
