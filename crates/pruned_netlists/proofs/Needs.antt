-- Marking the needed nets, one after another.
use Rattle.std.proofs.Common.{◌≡◌, ℕ, zero, suc, ◌+◌, ◌*◌, ◌<◌, ◌≤◌, ◌⊎◌, inl, inr, Bool, true, false, List, [], ◌∷◌, ◌++◌, length, replicate, set, slice_get, Option, Some, None, refl, sym, ap, subst, ◌∙◌, arith, length-append}
use Rattle.std.specs.Prelude.{Result, Ok, Err, OnOk}
use Rattle.std.proofs.Math.ListN.{length-set}
use Rattle.std.proofs.lemmas.List.{length-replicate}
use Rattle.std.proofs.lemmas.Option.{slice_get_within}
use Rattle.netlist.specs.declared.line.Line.{Line}
use Rattle.netlist.specs.declared.line.Memory.{Memory}
use Rattle.netlist.specs.declared.line.MemWrite.{MemWrite}
use Rattle.netlist.specs.declared.line.Equation.{Equation}
use Rattle.netlist.specs.declared.line.Equation.TheVariants.{Input, Constant, And, Or, Xor, Add, Sub, Eq, Less, Concat, Not, Any, Mux, Slice, Reg, Read}
use Rattle.netlist.specs.Netlists.{Netlist, HasWidth, IsModule, IsWellMade, IsSound, driver_of, is_input, line_of}
use Rattle.pruned_netlists.specs.Needed.{IsOneOf, write_nets, memory_nets, sources, IsNeeded, IsReadFrom}
use Rattle.pruned_netlists.specs.Numbers.{IsMarked, AreMarks, AreMemoryMarks, AreInputs, AreRoots, ReadsWithin}
use Rattle.pruned_netlists.proofs.Lines.{slice_get-some, width_at-is, slice_get-set_kept, slice_get-set_newly, slice_get-set_same}
use Rattle.pruned_netlists.proofs.Sources.{needed_within}

-- ---- lists of numbers

pub one_front : (xs ys : List ℕ) (n : ℕ) → IsOneOf n xs → IsOneOf n (xs ++ ys)
one_front [] ys n h = absurd h
one_front (x ∷ xs) ys n (inl e) = inl e
one_front (x ∷ xs) ys n (inr h) = inr (one_front xs ys n h)

pub one_back : (xs ys : List ℕ) (n : ℕ) → IsOneOf n ys → IsOneOf n (xs ++ ys)
one_back [] ys n h = h
one_back (x ∷ xs) ys n h = inr (one_back xs ys n h)

pub one_split : (xs ys : List ℕ) (n : ℕ) → IsOneOf n (xs ++ ys) → IsOneOf n xs ⊎ IsOneOf n ys
one_split [] ys n h = inr h
one_split (x ∷ xs) ys n (inl e) = inl (inl e)
one_split (x ∷ xs) ys n (inr h) = elim (one_split xs ys n h) [ inl k ↦ inl (inr k) | inr k ↦ inr k ]

-- ---- marks

abbrev pub IsSeen : List Bool → List ℕ → ℕ → Type 0
IsSeen marks pending n = IsMarked marks n ⊎ IsOneOf n pending

-- what is needed is seen, as far as the marked nets tell, and nothing else
pub record IsMarking (b : Netlist) (marks : List Bool) (pending : List ℕ) : Type 0 where
  pub count : length marks ≡ length b.lines
  pub inputs : (n : ℕ) (line : Line) → slice_get b.lines n ≡ Some line → is_input line.equation ≡ true → IsSeen marks pending n
  pub drivers : (k n : ℕ) → driver_of b k ≡ Some n → IsSeen marks pending n
  pub sources_are : (n a : ℕ) (line : Line) → IsMarked marks n → slice_get b.lines n ≡ Some line → IsOneOf a (sources b.memories line.equation) → IsSeen marks pending a
  pub only : (n : ℕ) → IsSeen marks pending n → IsNeeded b n

-- the net that was taken is marked already
seen_skip : (marks : List Bool) (rest : List ℕ) (net n : ℕ) → IsMarked marks net → IsSeen marks (rest ++ net ∷ []) n → IsSeen marks rest n
seen_skip marks rest net n marked (inl m) = inl m
seen_skip marks rest net n marked (inr h) = elim (one_split rest (net ∷ []) n h) [
  | inl k ↦ inr k
  | inr k ↦ elim k [ inl e ↦ inl (subst (IsMarked marks) (sym e) marked) | inr none ↦ absurd none ]
]

pub skipped : (b : Netlist) (marks : List Bool) (rest : List ℕ) (net : ℕ) → IsMarking b marks (rest ++ net ∷ []) → IsMarked marks net → IsMarking b marks rest
skipped b marks rest net h marked = record {
  count = h.count;
  inputs = λ n line at e. seen_skip marks rest net n marked (h.inputs n line at e);
  drivers = λ k n e. seen_skip marks rest net n marked (h.drivers k n e);
  sources_are = λ n a line m at k. seen_skip marks rest net a marked (h.sources_are n a line m at k);
  only = λ n s. h.only n (elim s [ inl m ↦ inl m | inr k ↦ inr (one_front rest (net ∷ []) n k) ]);
}

marked_set : (marks : List Bool) (net n : ℕ) → IsMarked marks n → IsMarked (set marks net true) n
marked_set marks net n m = elim (slice_get-set_kept marks net n true true m) [ inl e ↦ e | inr e ↦ e.1 ]

seen_take : (marks : List Bool) (rest more : List ℕ) (net n : ℕ) → net < length marks → IsSeen marks (rest ++ net ∷ []) n → IsSeen (set marks net true) (rest ++ more) n
seen_take marks rest more net n lt (inl m) = inl (marked_set marks net n m)
seen_take marks rest more net n lt (inr h) = elim (one_split rest (net ∷ []) n h) [
  | inl k ↦ inr (one_front rest more n k)
  | inr k ↦ elim k [ inl e ↦ inl (subst (IsMarked (set marks net true)) (sym e) (slice_get-set_same marks net true lt)) | inr none ↦ absurd none ]
]

pub taken : (b : Netlist) (marks : List Bool) (rest : List ℕ) (net : ℕ) (line : Line) → IsMarking b marks (rest ++ net ∷ []) → slice_get b.lines net ≡ Some line
    → IsMarking b (set marks net true) (rest ++ sources b.memories line.equation)
taken b marks rest net line h at = record {
  count = length-set marks net true ∙ h.count;
  inputs = λ n l at' e. seen_take marks rest more net n lt (h.inputs n l at' e);
  drivers = λ k n e. seen_take marks rest more net n lt (h.drivers k n e);
  sources_are = by_net;
  only = each;
} where
  more : List ℕ
  more = sources b.memories line.equation

  lt : net < length marks
  lt = (let within = slice_get_within b.lines net line at in omega (arith, within, h.count))

  its : IsNeeded b net
  its = h.only net (inr (one_back rest (net ∷ []) net (inl refl)))

  by_net : (n a : ℕ) (l : Line) → IsMarked (set marks net true) n → slice_get b.lines n ≡ Some l → IsOneOf a (sources b.memories l.equation) → IsSeen (set marks net true) (rest ++ more) a
  by_net n a l m at' k = elim (slice_get-set_newly marks net n true true m) [
    | inl o ↦ seen_take marks rest more net a lt (h.sources_are n a l o.1 at' k)
    | inr o ↦ (let here : slice_get b.lines net ≡ Some l = subst (λ j. slice_get b.lines j ≡ Some l) o.0 at' in
        let is : l ≡ line = cc in
        inr (one_back rest more a (subst (λ (x : Line). IsOneOf a (sources b.memories x.equation)) is k)))
  ]

  each : (n : ℕ) → IsSeen (set marks net true) (rest ++ more) n → IsNeeded b n
  each n (inl m) = elim (slice_get-set_newly marks net n true true m) [ inl o ↦ h.only n (inl o.1) | inr o ↦ subst (IsNeeded b) (sym o.0) its ]
  each n (inr k) = elim (one_split rest more n k) [ inl o ↦ h.only n (inr (one_front rest (net ∷ []) n o)) | inr o ↦ IsNeeded.source net n line at o its ]

unseen : (n : ℕ) → ¬ IsOneOf n []
unseen n h = h

pub all_marked : (b : Netlist) (marks : List Bool) (n : ℕ) → IsMarking b marks [] → IsNeeded b n → IsMarked marks n
all_marked b marks n h (IsNeeded.input _ line at e) = elim (h.inputs n line at e) [ inl m ↦ m | inr none ↦ absurd none ]
all_marked b marks n h (IsNeeded.drives k _ e) = elim (h.drivers k n e) [ inl m ↦ m | inr none ↦ absurd none ]
all_marked b marks n h (IsNeeded.source m _ line at k needed) = elim (h.sources_are m n line (all_marked b marks m h needed) at k) [ inl m ↦ m | inr none ↦ absurd none ]

pub marks_are : (b : Netlist) (marks : List Bool) → IsMarking b marks [] → AreMarks b marks
marks_are b marks h = record { count = h.count; all = λ n needed. all_marked b marks n h needed; only = λ n m. h.only n (inl m) }

-- ---- how many aren't marked yet

pub unmarked : List Bool → ℕ
unmarked [] = 0
unmarked (true ∷ marks) = unmarked marks
unmarked (false ∷ marks) = suc (unmarked marks)

pub one_fewer : (marks : List Bool) (n : ℕ) → slice_get marks n ≡ Some false → suc (unmarked (set marks n true)) ≡ unmarked marks
unfolding unmarked
one_fewer [] n e = cc
one_fewer (true ∷ marks) zero e = cc
one_fewer (false ∷ marks) zero e = refl
one_fewer (true ∷ marks) (suc n) e = one_fewer marks n e
one_fewer (false ∷ marks) (suc n) e = ap suc (one_fewer marks n e)

write_few : (o : Option MemWrite) → length (write_nets o) ≤ 3
write_few None = omega arith
write_few (Some write) = omega arith

memory_few : (o : Option Memory) → length (memory_nets o) ≤ 3
memory_few None = omega arith
memory_few (Some memory) = write_few memory.write

pub sources_few : (memories : List Memory) (e : Equation) → length (sources memories e) ≤ 4
sources_few memories (Read m a) = let few = memory_few (slice_get memories m) in omega (arith, few)
sources_few memories (Input port) = omega arith
sources_few memories (Constant value) = omega arith
sources_few memories (And a b) = omega arith
sources_few memories (Or a b) = omega arith
sources_few memories (Xor a b) = omega arith
sources_few memories (Add a b) = omega arith
sources_few memories (Sub a b) = omega arith
sources_few memories (Eq a b) = omega arith
sources_few memories (Less a b) = omega arith
sources_few memories (Concat a b) = omega arith
sources_few memories (Not a) = omega arith
sources_few memories (Any a) = omega arith
sources_few memories (Mux s a b) = omega arith
sources_few memories (Slice a high low) = omega arith
sources_few memories (Reg reset next) = omega arith

-- each step leaves less to do
pub less_to_do : (memories : List Memory) (marks : List Bool) (rest : List ℕ) (net : ℕ) (e : Equation) → slice_get marks net ≡ Some false
    → 5 * unmarked (set marks net true) + length (rest ++ sources memories e) < 5 * unmarked marks + length (rest ++ net ∷ [])
less_to_do memories marks rest net e h =
    let fewer = one_fewer marks net h in
    let few = sources_few memories e in
    let one = length-append rest (sources memories e) in
    let other = length-append rest (net ∷ []) in
    omega (arith, fewer, few, one, other)

-- ---- memories that are read

-- those that the first needed nets read are marked
pub record AreReadBy (b : Netlist) (count : ℕ) (marks : List Bool) : Type 0 where
  pub length_is : length marks ≡ length b.memories
  pub all : (n w m a : ℕ) → n < count → IsNeeded b n → slice_get b.lines n ≡ Some (line_of w (Read m a)) → IsMarked marks m
  pub only : (m : ℕ) → IsMarked marks m → IsReadFrom b m

-- ---- the first of what is needed

-- what is read from a module is what stands there
pub told : (b : Netlist) (n : ℕ) (e : Equation) → ((w : ℕ) → HasWidth b n w → slice_get b.lines n ≡ Some (line_of w e)) → (line : Line) → slice_get b.lines n ≡ Some line → line ≡ line_of line.width e
told b n e f line at = let here = f line.width (width_at-is b.lines n line at) in let is : line ≡ line_of line.width e = cc in is

pub equation_told : (b : Netlist) (n : ℕ) (e : Equation) → ((w : ℕ) → HasWidth b n w → slice_get b.lines n ≡ Some (line_of w e)) → (line : Line) → slice_get b.lines n ≡ Some line → line.equation ≡ e
equation_told b n e f line at = ap (λ (x : Line). x.equation) (told b n e f line at)

reads_within : (b : Netlist) (n w : ℕ) (e : Equation) → IsSound b.ports b.memories b.lines n w e → ReadsWithin b e
reads_within b n w (Read m a) s = slice_get_within b.memories m s.memory s.is
reads_within b n w _ s = tt

pub told_within : (b : Netlist) (n : ℕ) (e : Equation) → IsModule b → n < length b.lines → ((w : ℕ) → HasWidth b n w → slice_get b.lines n ≡ Some (line_of w e)) → ReadsWithin b e
told_within b n e h lt f =
    let some = slice_get-some b.lines n lt in
    subst (ReadsWithin b) (equation_told b n e f some.0 some.1) (reads_within b n some.0.width some.0.equation (h.well_made.lines n some.0 some.1).equation)

pub on_ok : {T E : Type 0} (r : Result T E) (P Q : Type 0) → (P → Q) → OnOk r P → OnOk r Q
on_ok (Ok x) P Q f h = f h
on_ok (Err e) P Q f h = h

pub no_input : (e : Equation) → ((port : ℕ) → e ≡ Input port → ⊥) → is_input e ≡ false
no_input (Input port) h = absurd (h port refl)
no_input _ h = refl

below_or : (m n : ℕ) → m < n + 1 → (m < n) ⊎ (m ≡ n)
below_or zero zero h = inr refl
below_or zero (suc n) h = inl (omega arith)
below_or (suc m) zero h = absurd (omega arith)
below_or (suc m) (suc n) h = elim (below_or m n (omega arith)) [ inl lt ↦ inl (omega (arith, lt)) | inr e ↦ inr (ap suc e) ]

pub input_more : (b : Netlist) (n : ℕ) (pending : List ℕ) (line : Line) → AreInputs b n pending → slice_get b.lines n ≡ Some line → is_input line.equation ≡ true → AreInputs b (n + 1) (pending ++ n ∷ [])
input_more b n pending line h at e = record {
  inputs = λ m l lt there is. elim (below_or m n lt) [
    | inl below ↦ one_front pending (n ∷ []) m (h.inputs m l below there is)
    | inr same ↦ one_back pending (n ∷ []) m (inl same)
  ];
  only = λ m k. elim (one_split pending (n ∷ []) m k) [
    | inl o ↦ h.only m o
    | inr o ↦ elim o [ inl same ↦ subst (IsNeeded b) (sym same) (IsNeeded.input n line at e) | inr none ↦ absurd none ]
  ];
}

pub input_same : (b : Netlist) (n : ℕ) (pending : List ℕ) → AreInputs b n pending → ((line : Line) → slice_get b.lines n ≡ Some line → is_input line.equation ≡ false) → AreInputs b (n + 1) pending
input_same b n pending h other = record {
  inputs = λ m l lt there is. elim (below_or m n lt) [
    | inl below ↦ h.inputs m l below there is
    | inr same ↦ absurd (let here : slice_get b.lines n ≡ Some l = subst (λ j. slice_get b.lines j ≡ Some l) same there in let not = other l here in cc)
  ];
  only = h.only;
}

pub root_more : (b : Netlist) (k d : ℕ) (pending : List ℕ) → AreRoots b k pending → driver_of b k ≡ Some d → AreRoots b (k + 1) (pending ++ d ∷ [])
root_more b k d pending h e = record {
  inputs = record {
    inputs = λ m l lt there is. one_front pending (d ∷ []) m (h.inputs.inputs m l lt there is);
    only = λ m o. elim (one_split pending (d ∷ []) m o) [
      | inl i ↦ h.inputs.only m i
      | inr i ↦ elim i [ inl same ↦ subst (IsNeeded b) (sym same) (IsNeeded.drives k d e) | inr none ↦ absurd none ]
    ];
  };
  drivers = λ j n lt there. elim (below_or j k lt) [
    | inl below ↦ one_front pending (d ∷ []) n (h.drivers j n below there)
    | inr same ↦ (let here : driver_of b k ≡ Some n = subst (λ i. driver_of b i ≡ Some n) same there in let is : n ≡ d = cc in one_back pending (d ∷ []) n (inl is))
  ];
}

pub root_same : (b : Netlist) (k : ℕ) (pending : List ℕ) → AreRoots b k pending → ((n : ℕ) → driver_of b k ≡ Some n → ⊥) → AreRoots b (k + 1) pending
root_same b k pending h none = record {
  inputs = h.inputs;
  drivers = λ j n lt there. elim (below_or j k lt) [
    | inl below ↦ h.drivers j n below there
    | inr same ↦ absurd (none n (subst (λ i. driver_of b i ≡ Some n) same there))
  ];
}

none_marked : (count n : ℕ) → IsMarked (replicate count false) n → ⊥
none_marked zero n e = cc
none_marked (suc count) zero e = cc
none_marked (suc count) (suc n) e = none_marked count n e

pub begun : (b : Netlist) (marks : List Bool) (pending : List ℕ) → IsWellMade b → marks ≡ replicate (length b.lines) false → AreRoots b (length b.ports) pending → IsMarking b marks pending
begun b marks pending h e roots = record {
  count = ap length e ∙ length-replicate (length b.lines) false;
  inputs = λ n line at is. inr (roots.inputs.inputs n line (slice_get_within b.lines n line at) at is);
  drivers = λ k n d. inr (let port = (h.drivers k n d).port in roots.drivers k n (slice_get_within b.ports k port.port port.is) d);
  sources_are = λ n a line m at k. absurd (none_marked (length b.lines) n (subst (λ xs. IsMarked xs n) e m));
  only = λ n s. elim s [ inl m ↦ absurd (none_marked (length b.lines) n (subst (λ xs. IsMarked xs n) e m)) | inr o ↦ roots.inputs.only n o ];
}

-- the net that is taken is one of the module
pub next_within : (b : Netlist) (marks : List Bool) (pending rest : List ℕ) (net : ℕ) → IsModule b → IsMarking b marks pending → pending ≡ rest ++ net ∷ [] → net < length b.lines
next_within b marks pending rest net h m e = needed_within b net h (m.only net (inr (subst (IsOneOf net) (sym e) (one_back rest (net ∷ []) net (inl refl)))))

-- ---- memories

pub reading_begun : (b : Netlist) (marks : List Bool) → marks ≡ replicate (length b.memories) false → AreReadBy b 0 marks
reading_begun b marks e = record {
  length_is = ap length e ∙ length-replicate (length b.memories) false;
  all = λ n w m a lt needed at. absurd (omega arith);
  only = λ m marked. absurd (none_marked (length b.memories) m (subst (λ xs. IsMarked xs m) e marked));
}

pub reading_more : (b : Netlist) (marks : List Bool) (n w m a : ℕ) → AreReadBy b n marks → IsNeeded b n → slice_get b.lines n ≡ Some (line_of w (Read m a)) → m < length marks → AreReadBy b (n + 1) (set marks m true)
reading_more b marks n w m a h needed at within = record {
  length_is = length-set marks m true ∙ h.length_is;
  all = λ j v k x lt its there. elim (below_or j n lt) [
    | inl below ↦ marked_set marks m k (h.all j v k x below its there)
    | inr same ↦ (let here : slice_get b.lines n ≡ Some (line_of v (Read k x)) = subst (λ i. slice_get b.lines i ≡ Some (line_of v (Read k x))) same there in
        let lines : line_of w (Read m a) ≡ line_of v (Read k x) = cc in
        let reads : Read m a ≡ Read k x = ap (λ (l : Line). l.equation) lines in
        let is : m ≡ k = cc in
        subst (IsMarked (set marks m true)) is (slice_get-set_same marks m true within))
  ];
  only = λ k marked. elim (slice_get-set_newly marks m k true true marked) [
    | inl o ↦ h.only k o.1
    | inr o ↦ subst (IsReadFrom b) (sym o.0) (record { net = n; width = w; address = a; is = at; needed = needed })
  ];
}

-- the net reads no memory, or isn't needed
pub reading_same : (b : Netlist) (marks : List Bool) (n : ℕ) → AreReadBy b n marks → ((w m a : ℕ) → IsNeeded b n → slice_get b.lines n ≡ Some (line_of w (Read m a)) → ⊥) → AreReadBy b (n + 1) marks
reading_same b marks n h none = record {
  length_is = h.length_is;
  all = λ j v k x lt its there. elim (below_or j n lt) [
    | inl below ↦ h.all j v k x below its there
    | inr same ↦ absurd (none v k x (subst (IsNeeded b) same its) (subst (λ i. slice_get b.lines i ≡ Some (line_of v (Read k x))) same there))
  ];
  only = h.only;
}

pub memory_marks_are : (b : Netlist) (marks : List Bool) (count : ℕ) → length b.lines ≤ count → AreReadBy b count marks → AreMemoryMarks b marks
memory_marks_are b marks count many h = record {
  count = h.length_is;
  all = λ m r. h.all r.net r.width m r.address (let lt = slice_get_within b.lines r.net (line_of r.width (Read m r.address)) r.is in omega (arith, lt)) r.needed r.is;
  only = h.only;
}

pub no_items : (xs : List ℕ) → length xs ≡ 0 → xs ≡ []
no_items [] e = refl
no_items (x ∷ xs) e = absurd (omega (arith, e))
