-- The marked items of a list, one after another.
use Rattle.std.proofs.Common.{◌≡◌, ℕ, zero, suc, ◌+◌, ◌<◌, ◌≤◌, ◌⊎◌, inl, inr, Bool, true, false, List, [], ◌∷◌, ◌++◌, length, get_or, slice_get, Option, Some, None, refl, sym, ap, subst, ◌∙◌, arith, length-append}
use Rattle.std.specs.Prelude.{option_map}
use Rattle.std.proofs.lemmas.List.{get_or_append_left, get_or_push}
use Rattle.netlist.specs.declared.line.PortLine.{PortLine}
use Rattle.netlist.specs.declared.line.Line.{Line}
use Rattle.netlist.specs.declared.line.Equation.{Equation}
use Rattle.netlist.specs.Netlists.{Netlist, HasWidth, IsWellMade, driver_of, line_of}
use Rattle.std.proofs.lemmas.Bool.{cases_lt}
use Rattle.pruned_netlists.specs.Numbers.{place, AreNumbers}
use Rattle.pruned_netlists.specs.Moved.{AreKept, moved, moved_line}
use Rattle.pruned_netlists.proofs.Lines.{slice_get-front, slice_get-last}
use Rattle.pruned_netlists.proofs.Places.{place_marked, place_unmarked, place_past}

-- below n + 1 is n, or below n
below_or : (m n : ℕ) → m < n + 1 → (m < n) ⊎ (m ≡ n)
below_or zero zero h = inr refl
below_or zero (suc n) h = inl (omega arith)
below_or (suc m) zero h = absurd (omega arith)
below_or (suc m) (suc n) h = elim (below_or m n (omega arith)) [ inl lt ↦ inl (omega (arith, lt)) | inr e ↦ inr (ap suc e) ]

pub kept_none : {X : Type 0} (marks : List Bool) (items : List X) (change : X → X) → AreKept marks items change 0 []
kept_none marks items change = record { few = refl; each = λ n item lt at m. absurd (omega arith) }

pub kept_more : {X : Type 0} (marks : List Bool) (items kept : List X) (change : X → X) (n : ℕ) (item : X) → AreKept marks items change n kept → slice_get marks n ≡ Some true → slice_get items n ≡ Some item
    → AreKept marks items change (n + 1) (kept ++ change item ∷ [])
kept_more marks items kept change n item h mark here = record {
  few = (let one = place_marked marks n mark in let most = length-append kept (change item ∷ []) in let z : n + 1 ≡ suc n = omega arith in rw z (let few = h.few in omega (arith, one, most, few)));
  each = λ m x lt at marked. elim (below_or m n lt) [
    | inl below ↦ slice_get-front kept (change item ∷ []) (place marks m) (change x) (h.each m x below at marked)
    | inr e ↦ (let there : slice_get items n ≡ Some x = subst (λ j. slice_get items j ≡ Some x) e at in
        let is : item ≡ x = cc in
        let number : length kept ≡ place marks m = h.few ∙ ap (place marks) (sym e) in
        subst (λ j. slice_get (kept ++ change item ∷ []) j ≡ Some (change x)) number (slice_get-last kept (change item) ∙ ap (λ y. Some (change y)) is))
  ];
}

pub kept_same : {X : Type 0} (marks : List Bool) (items kept : List X) (change : X → X) (n : ℕ) → AreKept marks items change n kept → slice_get marks n ≡ Some false → AreKept marks items change (n + 1) kept
kept_same marks items kept change n h mark = record {
  few = (let one = place_unmarked marks n mark in let z : n + 1 ≡ suc n = omega arith in rw z (let few = h.few in omega (arith, one, few)));
  each = λ m x lt at marked. elim (below_or m n lt) [
    | inl below ↦ h.each m x below at marked
    | inr e ↦ absurd (let there : slice_get marks n ≡ Some true = subst (λ j. slice_get marks j ≡ Some true) e marked in cc)
  ];
}

-- what drives the first ports, moved
pub record AreMovedDrivers (b : Netlist) (marks : List Bool) (count : ℕ) (drivers : List (Option ℕ)) : Type 0 where
  pub few : length drivers ≡ count
  pub each : (k : ℕ) → k < count → get_or drivers k None ≡ option_map (place marks) (driver_of b k)

-- ---- new numbers

pub numbers_more : (marks : List Bool) (places : List ℕ) (n count next : ℕ) → AreNumbers marks n places count → next ≡ place marks (suc n) → AreNumbers marks (n + 1) (places ++ count ∷ []) next
numbers_more marks places n count next h e = record {
  length_is = (let one = length-append places (count ∷ []) in let few = h.length_is in omega (arith, one, few));
  each = λ m lt. elim (below_or m n lt) [
    | inl below ↦ slice_get-front places (count ∷ []) m (place marks m) (h.each m below)
    | inr is ↦ (let here : length places ≡ m = h.length_is ∙ sym is in
        subst (λ j. slice_get (places ++ count ∷ []) j ≡ Some (place marks m)) here (slice_get-last places count ∙ ap Some (h.marked_is ∙ ap (place marks) (sym is))))
  ];
  marked_is = (let z : n + 1 ≡ suc n = omega arith in rw z e);
}

pub number_counted : (marks : List Bool) (n count : ℕ) → count ≡ place marks n → slice_get marks n ≡ Some true → count + 1 ≡ place marks (suc n)
number_counted marks n count e mark = let one = place_marked marks n mark in omega (arith, one, e)

pub number_passed : (marks : List Bool) (n count : ℕ) → count ≡ place marks n → slice_get marks n ≡ Some false → count ≡ place marks (suc n)
number_passed marks n count e mark = e ∙ sym (place_unmarked marks n mark)

-- ---- drivers

pub drivers_more : (b : Netlist) (marks : List Bool) (k : ℕ) (drivers : List (Option ℕ)) (o : Option ℕ) → AreMovedDrivers b marks k drivers → o ≡ option_map (place marks) (driver_of b k)
    → AreMovedDrivers b marks (k + 1) (drivers ++ o ∷ [])
drivers_more b marks k drivers o h e = record {
  few = (let one = length-append drivers (o ∷ []) in let few = h.few in omega (arith, one, few));
  each = λ j lt. elim (below_or j k lt) [
    | inl below ↦ get_or_append_left drivers (o ∷ []) None j (let few = h.few in omega (arith, few)) ∙ h.each j below
    | inr is ↦ get_or_push drivers o None j (h.few ∙ sym is) ∙ e ∙ ap (λ i. option_map (place marks) (driver_of b i)) (sym is)
  ];
}

-- an input has no driver
pub undriven_input : (b : Netlist) (k n : ℕ) (port : PortLine) → IsWellMade b → slice_get b.ports k ≡ Some port → port.output ≡ false → driver_of b k ≡ Some n → ⊥
undriven_input b k n port h at input e =
    let d = (h.drivers k n e).port in
    let there = d.is in
    let same : port ≡ d.port = cc in
    let output = d.output in
    cc

pub none_driven : (o : Option ℕ) → ((n : ℕ) → o ≡ Some n → ⊥) → o ≡ None
none_driven None h = refl
none_driven (Some n) h = absurd (h n refl)

past_none : (xs : List (Option ℕ)) (k : ℕ) → length xs ≤ k → get_or xs k None ≡ None
past_none [] k h = refl
past_none (x ∷ xs) zero h = absurd (omega arith)
past_none (x ∷ xs) (suc k) h = past_none xs k (omega arith)

pub all_drivers : (b : Netlist) (marks : List Bool) (count k : ℕ) (drivers : List (Option ℕ)) → IsWellMade b → length b.ports ≤ count → AreMovedDrivers b marks count drivers → length drivers ≡ length b.ports
    → get_or drivers k None ≡ option_map (place marks) (driver_of b k)
all_drivers b marks count k drivers h many d few = elim (cases_lt k (length b.ports)) [
  | inl lt ↦ d.each k (omega arith)
  | inr le ↦ (let none : driver_of b k ≡ None = past_none b.drivers k (let places = h.places in omega (arith, places)) in
      past_none drivers k (omega arith) ∙ sym (ap (option_map (place marks)) none))
]

pub number_past : (marks : List Bool) (places : List ℕ) (n count : ℕ) → AreNumbers marks (length marks) places count → length places ≤ n → count ≡ place marks n
number_past marks places n count h past = h.marked_is ∙ sym (place_past marks n (let few = h.length_is in omega (arith, few)))

-- a line that is made of a net's width and of its equation, moved
pub line_made : (b : Netlist) (marks memory_marks : List Bool) (n w : ℕ) (e now : Equation) (line : Line) → slice_get b.lines n ≡ Some line → HasWidth b n w
    → ((v : ℕ) → HasWidth b n v → slice_get b.lines n ≡ Some (line_of v e)) → now ≡ moved (place marks) (place memory_marks) e → line_of w now ≡ moved_line marks memory_marks line
line_made b marks memory_marks n w e now line at width f is =
    let there = f w width in
    let same : line ≡ line_of w e = cc in
    ap (λ (x : Equation). line_of w x) is ∙ ap (λ (l : Line). moved_line marks memory_marks l) (sym same)
