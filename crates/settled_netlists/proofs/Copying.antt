-- Parts of a module, copied one after another.
use Rattle.std.proofs.Common.{◌≡◌, ℕ, zero, suc, ◌+◌, ◌<◌, ◌≤◌, inl, inr, false, List, [], ◌∷◌, ◌++◌, length, get_or, slice_get, Option, Some, None, refl, sym, ap, subst, ◌∙◌, arith, length-append}
use Rattle.std.proofs.lemmas.Bool.{cases_lt}
use Rattle.std.proofs.lemmas.List.{get_or_append_left, get_or_push}
use Rattle.std.proofs.lemmas.Option.{same_Some}
use Rattle.av_base.specs.Word.{Word, IsWord}
use Rattle.netlist.specs.declared.line.Line.{Line}
use Rattle.netlist.specs.declared.line.PortLine.{PortLine}
use Rattle.netlist.specs.declared.line.Equation.TheVariants.{Constant}
use Rattle.netlist.specs.Netlists.{Netlist, IsWellMade, driver_of, line_of}
use Rattle.settled_netlists.specs.Values.{value_at}
use Rattle.settled_netlists.specs.Lines.{settled_line, AreSettledLines}
use Rattle.settled_netlists.proofs.Lists.{slice_get-front, slice_get-last}

-- ---- lines

pub lines_none : (whole : Netlist) (values : List (Option Word)) → AreSettledLines whole values 0 []
lines_none whole values = record { few = refl; each = λ n line lt at. absurd (omega arith); words = λ n v lt e. absurd (omega arith) }

pub lines_more : (whole : Netlist) (values : List (Option Word)) (count : ℕ) (lines : List Line) (line : Line) → AreSettledLines whole values count lines → slice_get whole.lines count ≡ Some line
    → ((v : Word) → value_at values count ≡ Some v → IsWord v.width v.bits) → AreSettledLines whole values (count + 1) (lines ++ settled_line (value_at values count) line ∷ [])
lines_more whole values count lines line h at words = record {
  few = (let one = length-append lines (settled_line (value_at values count) line ∷ []) in let few = h.few in omega (arith, one, few));
  each = λ n l lt there. elim (cases_lt n count) [
    | inl below ↦ slice_get-front lines (settled_line (value_at values count) line ∷ []) n (settled_line (value_at values n) l) (h.each n l below there)
    | inr past ↦ (let place : count ≡ n = omega (arith, lt, past) in
        let here : slice_get whole.lines n ≡ Some line = subst (λ j. slice_get whole.lines j ≡ Some line) place at in
        let same : line ≡ l = same_Some _ _ (sym here ∙ there) in
        subst (λ j. slice_get (lines ++ settled_line (value_at values count) line ∷ []) j ≡ Some (settled_line (value_at values n) l)) (h.few ∙ place)
        (slice_get-last lines (settled_line (value_at values count) line) ∙ ap (λ j. Some (settled_line (value_at values j) line)) place ∙ ap (λ (x : Line). Some (settled_line (value_at values n) x)) same))
  ];
  words = λ n v lt e. elim (cases_lt n count) [
    | inl below ↦ h.words n v below e
    | inr past ↦ (let place : n ≡ count = omega (arith, lt, past) in words v (subst (λ j. value_at values j ≡ Some v) place e))
  ];
}

-- ---- drivers

pub record AreCopiedDrivers (b : Netlist) (count : ℕ) (drivers : List (Option ℕ)) : Type 0 where
  pub few : length drivers ≡ count
  pub each : (k : ℕ) → k < count → get_or drivers k None ≡ driver_of b k

pub drivers_none : (b : Netlist) → AreCopiedDrivers b 0 []
drivers_none b = record { few = refl; each = λ k lt. absurd (omega arith) }

pub drivers_more : (b : Netlist) (k : ℕ) (drivers : List (Option ℕ)) (o : Option ℕ) → AreCopiedDrivers b k drivers → o ≡ driver_of b k → AreCopiedDrivers b (k + 1) (drivers ++ o ∷ [])
drivers_more b k drivers o h e = record {
  few = (let one = length-append drivers (o ∷ []) in let few = h.few in omega (arith, one, few));
  each = λ j lt. elim (cases_lt j k) [
    | inl below ↦ get_or_append_left drivers (o ∷ []) None j (let few = h.few in omega (arith, few, below)) ∙ h.each j below
    | inr past ↦ (let place : j ≡ k = omega (arith, lt, past) in get_or_push drivers o None j (h.few ∙ sym place) ∙ e ∙ ap (driver_of b) (sym place))
  ];
}

-- an input has no driver
pub undriven_input : (b : Netlist) (k n : ℕ) (port : PortLine) → IsWellMade b → slice_get b.ports k ≡ Some port → port.output ≡ false → driver_of b k ≡ Some n → ⊥
undriven_input b k n port h at input e =
    let d = (h.drivers k n e).port in
    let there = d.is in
    let same : port ≡ d.port = cc in
    let output = d.output in
    cc

pub none_driven : (o : Option ℕ) → ((n : ℕ) → o ≡ Some n → ⊥) → None ≡ o
none_driven None h = refl
none_driven (Some n) h = absurd (h n refl)

past_none : (xs : List (Option ℕ)) (k : ℕ) → length xs ≤ k → get_or xs k None ≡ None
past_none [] k h = refl
past_none (x ∷ xs) zero h = absurd (omega arith)
past_none (x ∷ xs) (suc k) h = past_none xs k (omega arith)

pub all_drivers : (b : Netlist) (count k : ℕ) (drivers : List (Option ℕ)) → IsWellMade b → length b.ports ≡ count → AreCopiedDrivers b count drivers → get_or drivers k None ≡ driver_of b k
all_drivers b count k drivers h many d = elim (cases_lt k count) [
  | inl lt ↦ d.each k lt
  | inr le ↦ (let none : driver_of b k ≡ None = past_none b.drivers k (let places = h.places in omega (arith, places, many, le)) in
      past_none drivers k (let few = d.few in omega (arith, few, le)) ∙ sym none)
]

-- ---- one more line, as it is made

pub lines_some : (whole : Netlist) (values : List (Option Word)) (count : ℕ) (lines : List Line) (line made : Line) (v : Word) → AreSettledLines whole values count lines → slice_get whole.lines count ≡ Some line
    → value_at values count ≡ Some v → IsWord v.width v.bits → made ≡ line_of v.width (Constant v) → AreSettledLines whole values (count + 1) (lines ++ made ∷ [])
lines_some whole values count lines line made v h at is a_word e =
    subst (λ (l : Line). AreSettledLines whole values (count + 1) (lines ++ l ∷ [])) (ap (λ (o : Option Word). settled_line o line) is ∙ sym e)
    (lines_more whole values count lines line h at (λ u other. subst (λ (x : Word). IsWord x.width x.bits) (same_Some _ _ (sym is ∙ other)) a_word))

pub lines_kept : (whole : Netlist) (values : List (Option Word)) (count : ℕ) (lines : List Line) (line made : Line) → AreSettledLines whole values count lines → slice_get whole.lines count ≡ Some line → value_at values count ≡ None
    → made ≡ line → AreSettledLines whole values (count + 1) (lines ++ made ∷ [])
lines_kept whole values count lines line made h at is e =
    subst (λ (l : Line). AreSettledLines whole values (count + 1) (lines ++ l ∷ [])) (ap (λ (o : Option Word). settled_line o line) is ∙ sym e)
    (lines_more whole values count lines line h at (λ u other. absurd (let none : None ≡ Some u = sym is ∙ other in cc)))
