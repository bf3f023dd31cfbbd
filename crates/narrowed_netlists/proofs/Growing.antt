-- Lists that grow by one place: masks, gaps and what stands in them.
use Rattle.std.proofs.Common.{◌≡◌, ℕ, ◌+◌, ◌<◌, ◌≤◌, inl, inr, List, [], ◌∷◌, ◌++◌, length, slice_get, get_or, Some, sym, ap, subst, ◌∙◌, arith, bit_or}
use Rattle.std.specs.Prelude.{◌%◌, ◌^◌, IfSome}
use Rattle.std.proofs.lemmas.Bool.{cases_lt}
use Rattle.std.proofs.lemmas.Option.{same_Some}
use Rattle.netlist.specs.declared.line.Line.{Line}
use Rattle.netlist.specs.declared.line.Memory.{Memory}
use Rattle.netlist.specs.Netlists.{Netlist}
use Rattle.narrowed_netlists.specs.declared.gaps.Gap.{Gap}
use Rattle.narrowed_netlists.specs.Gaps.{IsOpen, FitsIn}
use Rattle.narrowed_netlists.specs.Masks.{Allows, AreAllowed, AreMemoryGaps, AreNetGaps, AreOpen}
use Rattle.narrowed_netlists.proofs.Lists.{slice_get-front, slice_get-last}
use Rattle.narrowed_netlists.proofs.Allowing.{allows_held}

-- the last of one more
last_of : (n count : ℕ) → n < count + 1 → count ≤ n → n ≡ count
last_of n count lt from = omega (arith, lt, from)

pub allowed_more : (b : Netlist) (masks : List ℕ) (gaps : List Gap) (count : ℕ) (line : Line) (given w : ℕ) → AreAllowed b masks gaps count → slice_get b.lines count ≡ Some line → line.width ≡ w
    → Allows b masks gaps count line given → bit_or (get_or masks count 0) (given % 2 ^ w) ≡ get_or masks count 0 → AreAllowed b masks gaps (count + 1)
allowed_more b masks gaps count line given w before at wide h held n other lt there = elim (cases_lt n count) [
  | inl less ↦ before n other less there
  | inr from ↦ (let e = last_of n count lt from in
      let same : line ≡ other = same_Some _ _ (sym at ∙ subst (λ k. slice_get b.lines k ≡ Some other) e there) in
      subst (λ k. Allows b masks gaps k other (get_or masks k 0)) (sym e) (subst (λ (l : Line). Allows b masks gaps count l (get_or masks count 0)) same (allows_held b masks gaps count w line given (get_or masks count 0) wide h held)))
]

pub memory_gap_more : (b : Netlist) (gaps : List Gap) (gap : Gap) (count : ℕ) (memory : Memory) → length gaps ≡ count → AreMemoryGaps b gaps count → slice_get b.memories count ≡ Some memory → FitsIn gap memory.width
    → AreMemoryGaps b (gaps ++ gap ∷ []) (count + 1)
memory_gap_more b gaps gap count memory many before at fits m other lt there = elim (cases_lt m count) [
  | inl less ↦ (let has = before m other less there in record { gap = has.gap; is = slice_get-front gaps (gap ∷ []) m has.gap has.is; fits = has.fits })
  | inr from ↦ (let e = last_of m count lt from in
      let same : memory ≡ other = same_Some _ _ (sym at ∙ subst (λ k. slice_get b.memories k ≡ Some other) e there) in
      record { gap = gap; is = subst (λ k. slice_get (gaps ++ gap ∷ []) k ≡ Some gap) (many ∙ sym e) (slice_get-last gaps gap); fits = subst (λ (x : Memory). FitsIn gap x.width) same fits })
]

pub net_gap_more : (b : Netlist) (masks : List ℕ) (gaps : List Gap) (gap : Gap) (count w : ℕ) (line : Line) → length gaps ≡ count → AreNetGaps b masks gaps count → slice_get b.lines count ≡ Some line → line.width ≡ w → FitsIn gap w
    → IsOpen gap (get_or masks count 0) → AreNetGaps b masks (gaps ++ gap ∷ []) (count + 1)
net_gap_more b masks gaps gap count w line many before at wide fits clear n other lt there = elim (cases_lt n count) [
  | inl less ↦ (let has = before n other less there in record { gap = has.gap; is = slice_get-front gaps (gap ∷ []) n has.gap has.is; fits = has.fits; clear = has.clear })
  | inr from ↦ (let e = last_of n count lt from in
      let same : line ≡ other = same_Some _ _ (sym at ∙ subst (λ k. slice_get b.lines k ≡ Some other) e there) in
      record {
        gap = gap;
        is = subst (λ k. slice_get (gaps ++ gap ∷ []) k ≡ Some gap) (many ∙ sym e) (slice_get-last gaps gap);
        fits = subst (FitsIn gap) (sym wide ∙ ap (λ (l : Line). l.width) same) fits;
        clear = subst (λ k. IsOpen gap (get_or masks k 0)) (sym e) clear;
      })
]

pub open_more : (b : Netlist) (masks : List ℕ) (gaps : List Gap) (gap : Gap) (count : ℕ) (memory : Memory) → AreOpen b masks gaps count → slice_get b.memories count ≡ Some memory → slice_get gaps count ≡ Some gap
    → IfSome memory.write (λ write. IsOpen gap (get_or masks write.word 0)) → AreOpen b masks gaps (count + 1)
open_more b masks gaps gap count memory before at is clear m other its lt there its_is = elim (cases_lt m count) [
  | inl less ↦ before m other its less there its_is
  | inr from ↦ (let e = last_of m count lt from in
      let same : memory ≡ other = same_Some _ _ (sym at ∙ subst (λ k. slice_get b.memories k ≡ Some other) e there) in
      let same_gap : gap ≡ its = same_Some _ _ (sym is ∙ subst (λ k. slice_get gaps k ≡ Some its) e its_is) in
      subst (λ (g : Gap). IfSome other.write (λ write. IsOpen g (get_or masks write.word 0))) same_gap (subst (λ (x : Memory). IfSome x.write (λ write. IsOpen gap (get_or masks write.word 0))) same clear))
]
