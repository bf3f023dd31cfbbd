-- Ends among those of connections.
use Rattle.std.proofs.Common.{◌≡◌, ℕ, Bool, true, false, cond, sym, ap, ◌∙◌, arith}
use Rattle.std.specs.Prelude.{◌||◌}
use Rattle.std.proofs.Math.Bool.{or-true, or-false}
use Rattle.std.proofs.lemmas.Bool.Decides.{nat_tests}
use Rattle.script_words.specs.declared.system.joints.Terminal.{Terminal}
use Rattle.script_words.specs.Joints.{same_end}

pub same_end-true : (a b : Terminal) → same_end a b ≡ true → a ≡ b
same_end-true a b h =
    let instance : a.instance ≡ b.instance = grind (arith, nat_tests) in
    let interface : a.interface ≡ b.interface = grind (arith, nat_tests) in
    let at : ℕ → ℕ → Terminal = λ i k. record { instance = i; interface = k } in
    ap (λ i. at i a.interface) instance ∙ ap (at b.instance) interface

pub same_end-comm : (a b : Terminal) → same_end a b ≡ same_end b a
same_end-comm a b = grind (arith, nat_tests)

-- an end is there after another is added
pub there_after : (there : Bool) (added end : Terminal) → cond (same_end added end) true there ≡ (there || same_end end added)
there_after there added end = ap (λ b. cond b true there) (same_end-comm added end) ∙ by (same_end end added)
  where
    by : (b : Bool) → cond b true there ≡ (there || b)
    by true = sym (or-true there)
    by false = sym (or-false there)
