-- What nets have at first.
use Rattle.std.proofs.Common.{◌≡◌, ℕ, ◌+◌, ◌<◌, List, [], ◌∷◌, ◌++◌, length, slice_get, Some, inl, inr, refl, sym, subst, ◌∙◌, arith}
use Rattle.std.specs.Prelude.{IfSome}
use Rattle.std.proofs.lemmas.List.{length-append}
use Rattle.av_base.specs.Word.{Word}
use Rattle.netlist.specs.declared.line.Line.{Line}
use Rattle.netlist.specs.Netlists.{IsValue}
use Rattle.netlist.specs.Runs.{reset_of}
use Rattle.cycle_sim.specs.Sims.{AreNets, bits_at}
use Rattle.lane_sim.proofs.Values.{split_more, slice_get-some, slice_get-push, slice_get-front, slice_get-last, bits_at-is}

-- the nets below k have what they begin with
pub record AreFirst (lines : List Line) (nets : List Word) (k : ℕ) : Type 0 where
  pub count : length nets ≡ k
  pub fit : (n : ℕ) (line : Line) (value : Word) → slice_get lines n ≡ Some line → slice_get nets n ≡ Some value → IsValue value line.width
  pub starts : (n : ℕ) (line : Line) → n < k → slice_get lines n ≡ Some line → IfSome (reset_of line.equation) (λ x. bits_at nets n ≡ x)

pub first_none : (lines : List Line) → AreFirst lines [] 0
first_none lines = record {
  count = refl;
  fit = λ n line value at stands. cc;
  starts = λ n line lt at. absurd (omega arith);
}

pub first_more : (lines : List Line) (nets : List Word) (k : ℕ) (value : Word) → AreFirst lines nets k → ((line : Line) → slice_get lines k ≡ Some line → IsValue value line.width) →
    ((line : Line) → slice_get lines k ≡ Some line → IfSome (reset_of line.equation) (λ x. value.bits ≡ x)) →
    AreFirst lines (nets ++ value ∷ []) (k + 1)
first_more lines nets k value h is starts = record {
  count = simp length-append (let c = h.count in omega arith);
  fit = λ n line v at stands. elim (slice_get-push nets value v n stands) [
    | inl o ↦ h.fit n line v at o
    | inr o ↦ subst (λ (x : Word). IsValue x line.width) o.1 (is line (subst (λ m. slice_get lines m ≡ Some line) (o.0 ∙ h.count) at))
  ];
  starts = λ n line lt at. elim (split_more n k lt) [
    | inl below ↦ (let some = slice_get-some nets n (let c = h.count in omega arith) in
        let same : bits_at (nets ++ value ∷ []) n ≡ bits_at nets n = bits_at-is (nets ++ value ∷ []) n some.0 (slice_get-front nets (value ∷ []) n some.0 some.1) ∙ sym (bits_at-is nets n some.0 some.1) in
        subst (λ y. IfSome (reset_of line.equation) (λ x. y ≡ x)) (sym same) (h.starts n line below at))
    | inr e ↦ (let last : bits_at (nets ++ value ∷ []) n ≡ value.bits = bits_at-is (nets ++ value ∷ []) n value
        (subst (λ j. slice_get (nets ++ value ∷ []) j ≡ Some value) (h.count ∙ sym e) (slice_get-last nets value)) in
        subst (λ y. IfSome (reset_of line.equation) (λ x. y ≡ x)) (sym last) (starts line (subst (λ m. slice_get lines m ≡ Some line) e at)))
  ];
}

pub first_nets : (lines : List Line) (nets : List Word) → AreFirst lines nets (length lines) → AreNets lines nets
first_nets lines nets h = record { count = h.count; fit = h.fit }
