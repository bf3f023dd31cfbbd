-- What the parts of each beat keep, the parts of a list of beats keep.
use Rattle.std.proofs.Common.{ℕ, ◌≤◌, ◌≡◌, ◌+◌, ◌-◌, ◌*◌, [], ◌∷◌, ◌++◌, List, Bool, arith, refl, sym, ap, ap₂, ◌∙◌, append_assoc, subst, length, filter, flat_map, nat_eq, length-append, mul-add}
use Rattle.std.proofs.lemmas.List.{map-append}
use Rattle.std.proofs.lemmas.Grind.{flat_map-append}
use Rattle.std.proofs.lemmas.List.Elements.{filter-append}
use Rattle.memory_machines.proofs.Wire.{total_sizes}
use Rattle.memory_machines.proofs.Stage.{burst_of_append, marked_append}
use Rattle.histories.specs.History.{total, AreWithin}
use Rattle.histories.specs.History.AreWithin.{all_placed, placed, next_room}
use Rattle.memory_runs.specs.Views.{Shape}
use Rattle.memory_runs.specs.Operations.{pieces}
use Rattle.memory_runs.specs.Commands.{Burst}
use Rattle.memory_machines.specs.Link.{Target, Marked, operations_in, operations_among, sizes, items_from, items_of, acted_after, beats_with}
use Rattle.memory_machines.specs.Machines.{Raw, mark, burst_past, marked, burst_of, IsFitBeat, AreFit, expand, acted_past, Expands}

pub items_append : (target : Target) (shape : Shape) (acted : Bool) (xs ys : List Marked) →
    items_from target shape acted (xs ++ ys) ≡ items_from target shape acted xs ++ items_from target shape (acted_past target shape acted xs) ys
items_append target shape acted [] ys = refl
items_append target shape acted (m ∷ xs) ys =
    ap (λ l. items_of target shape acted m ++ l) (items_append target shape (acted_after target shape acted m) xs ys)
    ∙ sym (append_assoc (items_of target shape acted m) (items_from target shape (acted_after target shape acted m) xs) _)

pub fit_append : (shape : Shape) (burst : Burst) (xs ys : List Raw) → AreFit shape burst xs → AreFit shape (burst_of shape burst xs) ys → AreFit shape burst (xs ++ ys)
fit_append shape burst [] ys fit later = later
fit_append shape burst (x ∷ xs) ys fit later = (fit.0, fit_append shape (burst_past shape burst x) xs ys fit.1 later)

pub expand_append : (shape : Shape) (parts : Burst → Raw → List Raw) (burst : Burst) (xs ys : List Raw) →
    expand shape parts burst (xs ++ ys) ≡ expand shape parts burst xs ++ expand shape parts (burst_of shape burst xs) ys
expand_append shape parts burst [] ys = refl
expand_append shape parts burst (x ∷ xs) ys =
    ap (λ l. parts burst x ++ l) (expand_append shape parts (burst_past shape burst x) xs ys)
    ∙ sym (append_assoc (parts burst x) (expand shape parts (burst_past shape burst x) xs) _)

fill : (ls : List ℕ) (room : ℕ) (lower upper : List ℕ) → total ls ≡ room → AreWithin lower upper → AreWithin (ls ++ lower) (room ∷ upper)
fill [] room lower upper sum within = subst (λ n. AreWithin lower (n ∷ upper)) sum (next_room within)
fill (l ∷ ls) room lower upper sum within = placed (omega (arith, sum)) (fill ls (room - l) lower upper (omega (arith, sum)) within)

module _ (target : Target) (wide narrow : Shape) (parts : Burst → Raw → List Raw)
    (Stands : Burst → Type 0) (stays : (burst : Burst) (raw : Raw) → IsFitBeat wide burst raw → Stands burst → Stands (burst_past wide burst raw))
    (law : (burst : Burst) (raw : Raw) (below : Burst) → IsFitBeat wide burst raw → Stands burst → below.left ≡ 0 → Expands target wide narrow parts burst raw below) where
  pub expand_fits : (burst : Burst) (xs : List Raw) (below : Burst) → AreFit wide burst xs → Stands burst → below.left ≡ 0 →
      AreFit narrow below (expand wide parts burst xs) × ((burst_of narrow below (expand wide parts burst xs)).left ≡ 0)
  expand_fits burst [] below fit stands none = (tt, none)
  expand_fits burst (x ∷ xs) below fit stands none =
      let here = law burst x below fit.0 stands none in
      let rest = expand_fits (burst_past wide burst x) xs (burst_of narrow below (parts burst x)) fit.1 (stays burst x fit.0 stands) here.free in (
        fit_append narrow below (parts burst x) (expand wide parts (burst_past wide burst x) xs) here.fit rest.0,
        ap (λ (b : Burst). b.left) (burst_of_append narrow below (parts burst x) (expand wide parts (burst_past wide burst x) xs)) ∙ rest.1,
      )

  pub expand_items : (burst : Burst) (xs : List Raw) (below : Burst) (acted : Bool) → AreFit wide burst xs → Stands burst → below.left ≡ 0 →
      items_from target narrow acted (marked narrow below (expand wide parts burst xs)) ≡ items_from target wide acted (marked wide burst xs)
  expand_items burst [] below acted fit stands none = refl
  expand_items burst (x ∷ xs) below acted fit stands none =
      let here = law burst x below fit.0 stands none in
      let first = marked narrow below (parts burst x) in
      let after = burst_of narrow below (parts burst x) in
      let later = marked narrow after (expand wide parts (burst_past wide burst x) xs) in
      ap (items_from target narrow acted) (marked_append narrow below (parts burst x) (expand wide parts (burst_past wide burst x) xs))
      ∙ items_append target narrow acted first later
      ∙ ap₂ (λ l m. l ++ m) (here.items acted)
      (ap (λ a. items_from target narrow a later) (here.acted acted) ∙ expand_items (burst_past wide burst x) xs after (acted_after target wide acted (mark wide burst x)) fit.1 (stays burst x fit.0 stands) here.free)

  pub expand_operations : (burst : Burst) (xs : List Raw) (below : Burst) → AreFit wide burst xs → Stands burst → below.left ≡ 0 →
      operations_among target narrow (marked narrow below (expand wide parts burst xs)) ≡ operations_among target wide (marked wide burst xs)
  expand_operations burst [] below fit stands none = refl
  expand_operations burst (x ∷ xs) below fit stands none =
      let here = law burst x below fit.0 stands none in
      let after = burst_of narrow below (parts burst x) in
      ap (operations_among target narrow) (marked_append narrow below (parts burst x) (expand wide parts (burst_past wide burst x) xs))
      ∙ flat_map-append (operations_in target narrow) (marked narrow below (parts burst x)) (marked narrow after (expand wide parts (burst_past wide burst x) xs))
      ∙ ap₂ (λ l m. l ++ m) here.operations (expand_operations (burst_past wide burst x) xs after fit.1 (stays burst x fit.0 stands) here.free)

  pub expand_within : (burst : Burst) (xs : List Raw) (below : Burst) → AreFit wide burst xs → Stands burst → below.left ≡ 0 →
      AreWithin (sizes target narrow (marked narrow below (expand wide parts burst xs))) (sizes target wide (marked wide burst xs))
  expand_within burst [] below fit stands none = all_placed
  expand_within burst (x ∷ xs) below fit stands none =
      let here = law burst x below fit.0 stands none in
      let first = marked narrow below (parts burst x) in
      let after = burst_of narrow below (parts burst x) in
      let later = marked narrow after (expand wide parts (burst_past wide burst x) xs) in
      let split : sizes target narrow (marked narrow below (expand wide parts burst (x ∷ xs))) ≡ sizes target narrow first ++ sizes target narrow later =
      ap (sizes target narrow) (marked_append narrow below (parts burst x) (expand wide parts (burst_past wide burst x) xs)) ∙ map-append (λ (m : Marked). length (operations_in target narrow m)) first later in
      let sum : total (sizes target narrow first) ≡ length (operations_in target wide (mark wide burst x)) = total_sizes target narrow first ∙ ap length here.operations in
      subst (λ l. AreWithin l (sizes target wide (marked wide burst (x ∷ xs)))) (sym split)
      (fill (sizes target narrow first) _ (sizes target narrow later) (sizes target wide (marked wide (burst_past wide burst x) xs)) sum (expand_within (burst_past wide burst x) xs after fit.1 (stays burst x fit.0 stands) here.free))

  beats_append : (tag : ℕ) (xs ys : List Marked) → beats_with tag (xs ++ ys) ≡ beats_with tag xs ++ beats_with tag ys
  beats_append tag xs ys = ap (flat_map (λ (m : Marked). m.transfer.beats)) (filter-append (λ (m : Marked). nat_eq m.tag tag) xs ys) ∙ flat_map-append (λ (m : Marked). m.transfer.beats) (filter (λ (m : Marked). nat_eq m.tag tag) xs) (filter (λ (m : Marked). nat_eq m.tag tag) ys)

  sum_up : (n a b c d s t : ℕ) → s ≡ a + b → t ≡ c + d → a ≤ n * c → b ≤ n * d → s ≤ n * t
  sum_up n a b c d s t is same first rest = let both : n * t ≡ n * c + n * d = ap (λ x. n * x) same ∙ mul-add n c d in omega (arith, is, both, first, rest)

  pub expand_beats : (tag : ℕ) (burst : Burst) (xs : List Raw) (below : Burst) → AreFit wide burst xs → Stands burst → below.left ≡ 0 →
      length (beats_with tag (marked narrow below (expand wide parts burst xs))) ≤ pieces wide narrow * length (beats_with tag (marked wide burst xs))
  expand_beats tag burst [] below fit stands none = omega arith
  expand_beats tag burst (x ∷ xs) below fit stands none =
      let here = law burst x below fit.0 stands none in
      let first = marked narrow below (parts burst x) in
      let after = burst_of narrow below (parts burst x) in
      let later = marked narrow after (expand wide parts (burst_past wide burst x) xs) in
      let above = marked wide (burst_past wide burst x) xs in
      sum_up (pieces wide narrow) (length (beats_with tag first)) (length (beats_with tag later)) (length (beats_with tag (mark wide burst x ∷ []))) (length (beats_with tag above)) _ _
      (ap (λ l. length (beats_with tag l)) (marked_append narrow below (parts burst x) (expand wide parts (burst_past wide burst x) xs)) ∙ ap length (beats_append tag first later) ∙ length-append (beats_with tag first) (beats_with tag later))
      (ap length (beats_append tag (mark wide burst x ∷ []) above) ∙ length-append (beats_with tag (mark wide burst x ∷ [])) (beats_with tag above))
      (here.beats tag) (expand_beats tag (burst_past wide burst x) xs after fit.1 (stays burst x fit.0 stands) here.free)
