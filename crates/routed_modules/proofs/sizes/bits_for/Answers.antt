use Rattle.std.proofs.Common.{◌≡◌, ℕ, zero, suc, ◌^◌, ◌<◌, ◌≤◌, refl, arith}
use Rattle.routed_modules.proofs.sizes.bits_for.Goals as goal

three : (count fewer : ℕ) → 4 < count → 1 ≤ fewer → count ≤ 2 ^ fewer → 3 ≤ fewer
three count zero more some fits = absurd (omega (arith, some))
three count (suc zero) more some fits = absurd (let two : 2 ^ suc zero ≡ 2 = refl in omega (arith, fits, more, two))
three count (suc (suc zero)) more some fits = absurd (let four : 2 ^ suc (suc zero) ≡ 4 = refl in omega (arith, fits, more, four))
three count (suc (suc (suc fewer))) more some fits = omega arith

four : (count fewer : ℕ) → 8 < count → 1 ≤ fewer → count ≤ 2 ^ fewer → 4 ≤ fewer
four count zero more some fits = absurd (omega (arith, some))
four count (suc zero) more some fits = absurd (let two : 2 ^ suc zero ≡ 2 = refl in omega (arith, fits, more, two))
four count (suc (suc zero)) more some fits = absurd (let four : 2 ^ suc (suc zero) ≡ 4 = refl in omega (arith, fits, more, four))
four count (suc (suc (suc zero))) more some fits = absurd (let eight : 2 ^ suc (suc (suc zero)) ≡ 8 = refl in omega (arith, fits, more, eight))
four count (suc (suc (suc (suc fewer)))) more some fits = omega arith

pub returns-then-count-le8-clause-least : goal.returns-then-count-le8-clause-least
returns-then-count-le8-clause-least c fewer some fits = three c.args.count fewer (let more = c.if-count-le4.false in omega (arith, more)) some fits

pub returns-else-count-le8-clause-least : goal.returns-else-count-le8-clause-least
returns-else-count-le8-clause-least c fewer some fits = four c.args.count fewer (let more = c.if-count-le8.false in omega (arith, more)) some fits
