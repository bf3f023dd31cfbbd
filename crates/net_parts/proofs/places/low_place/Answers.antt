use Rattle.std.proofs.Common.{sym, subst, ◌∙◌, arith, inl, inr}
use Rattle.std.proofs.lemmas.Result.{IfOk-from_err}
use Rattle.net_parts.specs.Groups.{AreNumberedFrom, in_row, of_row, nets_last}
use Rattle.net_parts.specs.Laws.{net_lasts, extends_twice, grows_fewer}
use Rattle.net_parts.specs.Refusing.{handed_on}
use Rattle.netlist.specs.Netlists.{IsWaiting}
use Rattle.net_parts.proofs.places.low_place.Goals as goal

pub low_registers-requires : goal.low_registers-requires
low_registers-requires g c = ((let few = c.requires.few in omega arith), nets_last _ _ _ c.low_register.ensures.grows.extends c.requires.like.item)

pub returns-in_err-item-clause-grows : goal.returns-in_err-item-clause-grows
returns-in_err-item-clause-grows g c = record {
  extends = extends_twice _ _ _ c.low_register.ensures.grows.extends c.low_registers.ensures.grows.extends;
  most = (let few = c.low_register.ensures.grows.most in let more = c.low_registers.ensures.grows.most in omega arith);
  drivers = c.low_registers.ensures.grows.drivers ∙ c.low_register.ensures.grows.drivers;
  memories = c.low_registers.ensures.grows.memories ∙ c.low_register.ensures.grows.memories;
}

pub returns-clause-grows : goal.returns-clause-grows
returns-clause-grows g c = record {
  extends = extends_twice _ _ _ c.low_register.ensures.grows.extends c.low_registers.ensures.grows.extends;
  most = (let few = c.low_register.ensures.grows.most in let more = c.low_registers.ensures.grows.most in omega arith);
  drivers = c.low_registers.ensures.grows.drivers ∙ c.low_register.ensures.grows.drivers;
  memories = c.low_registers.ensures.grows.memories ∙ c.low_register.ensures.grows.memories;
}

pub returns-clause-place : goal.returns-clause-place
returns-clause-place g c =
    let mid = c.in_ok-full.ensures.count in record {
      nets_are = record { full = net_lasts _ _ _ _ c.low_registers.ensures.grows.extends (record { is_net = c.in_ok-full.ensures.net.is_net; has_width = c.in_ok-full.ensures.net.has_width ∙ c.requires.like.full.has_width }); item = c.in_ok-item.ensures.nets };
      widths = (let one = c.in_ok-full.ensures.net.has_width in let others = c.in_ok-item.ensures.widths in cc);
      numbers = (c.in_ok-full.ensures.number, subst (λ n. AreNumberedFrom n c.in_ok-item.item) mid c.in_ok-item.ensures.numbers);
      wait = λ n o. elim o [
        | inl e ↦ c.low_registers.ensures.still_wait n (subst (IsWaiting c.low_register.new.builder) (sym e) c.in_ok-full.ensures.waits)
        | inr p ↦ (let at = in_row _ _ c.in_ok-item.ensures.numbers n p in let high = at.below in c.in_ok-item.ensures.waits n (record { least = at.least; below = omega arith }))
      ];
    }

pub returns-clause-newly : goal.returns-clause-newly
returns-clause-newly g c n w = elim (c.in_ok-item.ensures.newly n w) [
  | inl before ↦ elim (c.low_register.ensures.newly n before) [ inl old ↦ inl old | inr one ↦ inr (inl (one ∙ sym c.in_ok-full.ensures.number)) ]
  | inr row ↦ inr (inr (of_row _ _ c.in_ok-item.ensures.numbers n (record { least = row.least; below = (let high = row.below in omega arith) })))
]

pub returns-in_err-full-clause-place : goal.returns-in_err-full-clause-place
returns-in_err-full-clause-place g c = IfOk-from_err _ _ c.from_residual.ensures.0

pub returns-in_err-item-clause-place : goal.returns-in_err-item-clause-place
returns-in_err-item-clause-place g c = IfOk-from_err _ _ c.from_residual-in_err-item.ensures.0

pub returns-in_err-full-clause-count : goal.returns-in_err-full-clause-count
returns-in_err-full-clause-count g c = IfOk-from_err _ _ c.from_residual.ensures.0

pub returns-in_err-item-clause-count : goal.returns-in_err-item-clause-count
returns-in_err-item-clause-count g c = IfOk-from_err _ _ c.from_residual-in_err-item.ensures.0

pub returns-in_err-full-clause-starts : goal.returns-in_err-full-clause-starts
returns-in_err-full-clause-starts g c = IfOk-from_err _ _ c.from_residual.ensures.0

pub returns-in_err-item-clause-starts : goal.returns-in_err-item-clause-starts
returns-in_err-item-clause-starts g c = IfOk-from_err _ _ c.from_residual-in_err-item.ensures.0

pub returns-in_err-full-clause-newly : goal.returns-in_err-full-clause-newly
returns-in_err-full-clause-newly g c = IfOk-from_err _ _ c.from_residual.ensures.0

pub returns-in_err-item-clause-newly : goal.returns-in_err-item-clause-newly
returns-in_err-item-clause-newly g c = IfOk-from_err _ _ c.from_residual-in_err-item.ensures.0

pub returns-in_err-full-clause-grows : goal.returns-in_err-full-clause-grows
returns-in_err-full-clause-grows g c = grows_fewer _ _ _ _ (omega arith) c.low_register.ensures.grows

pub returns-in_err-full-clause-still_wait : goal.returns-in_err-full-clause-still_wait
returns-in_err-full-clause-still_wait g c n w = c.low_register.ensures.still_wait n w

pub returns-in_err-item-clause-still_wait : goal.returns-in_err-item-clause-still_wait
returns-in_err-item-clause-still_wait g c n w = c.low_registers.ensures.still_wait n (c.low_register.ensures.still_wait n w)

pub returns-clause-still_wait : goal.returns-clause-still_wait
returns-clause-still_wait g c n w = c.low_registers.ensures.still_wait n (c.low_register.ensures.still_wait n w)

pub returns-in_err-full-clause-full : goal.returns-in_err-full-clause-full
returns-in_err-full-clause-full g c e = let full = c.low_register.ensures.full (handed_on _ _ _ _ c.in_err-full.was c.from_residual.ensures.1 e) in omega (arith, full)

pub returns-in_err-item-clause-full : goal.returns-in_err-item-clause-full
returns-in_err-item-clause-full g c e = let most = c.low_register.ensures.grows.most in let full = c.low_registers.ensures.full (handed_on _ _ _ _ c.in_err-item.was c.from_residual-in_err-item.ensures.1 e) in omega (arith, most, full)

pub returns-clause-full : goal.returns-clause-full
returns-clause-full g c e = cc
