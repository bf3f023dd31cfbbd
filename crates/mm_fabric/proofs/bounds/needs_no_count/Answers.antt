use Rattle.std.proofs.Common.{◌≡◌, ℕ, ◌^◌, Bool, true, false, ◌&&◌, nat_lt, refl, sym, ap, ◌∙◌, arith}
use Rattle.std.proofs.lemmas.Bool.{ltb-true, ltb-false}
use Rattle.std.proofs.Math.Pow.{pow-lt}
use Rattle.mm_route.specs.Entries.{is_lone}
use Rattle.mm_fabric.specs.Bounds.{first_bears_few}
use Rattle.mm_fabric.proofs.bounds.needs_no_count.Goals as goal

-- the range of a host tells the width of its byte addresses
same_width : (m n : ℕ) → 2 ^ m ≡ 2 ^ n → m ≡ n
same_width m n e = by_case (nat_lt m n) (nat_lt n m) refl refl
  where
    by_case : (less more : Bool) → nat_lt m n ≡ less → nat_lt n m ≡ more → m ≡ n
    by_case true more f g = absurd (let low = pow-lt (ltb-true m n f) in omega (arith, low, e))
    by_case false true f g = absurd (let high = pow-lt (ltb-true n m g) in omega (arith, high, e))
    by_case false false f g = let below = ltb-false m n f in let above = ltb-false n m g in omega (arith, below, above)

pub returns-then-is_lone : goal.returns-then-is_lone
returns-then-is_lone c width range =
    let same = same_width c.byte_address_bits.result width (c.byte_address_bits.ensures ∙ sym range) in
    c.first_bears_few.ensures ∙ ap (λ t. t && first_bears_few c.args.plan.now c.args.host) (sym c.if-is_lone.true ∙ c.is_lone.ensures ∙ ap (is_lone c.args.routes.now) same)

pub returns-else-is_lone : goal.returns-else-is_lone
returns-else-is_lone c width range =
    let same = same_width c.byte_address_bits.result width (c.byte_address_bits.ensures ∙ sym range) in
    c.if-is_lone.false ∙ ap (λ t. t && first_bears_few c.args.plan.now c.args.host) (sym c.if-is_lone.false ∙ c.is_lone.ensures ∙ ap (is_lone c.args.routes.now) same)
