use Rattle.std.proofs.Common.{◌≤◌, inl, arith}
use Rattle.std.proofs.Math.Nat.{mul-le-mul_left}
use Rattle.net_parts.specs.Refusing.{handed_on}
use Rattle.item_queues.proofs.storage.make_storage.Goals as goal

pub returns-in_err-places-clause-full : goal.returns-in_err-places-clause-full
returns-in_err-places-clause-full g c e =
    let full = c.make_places.ensures.full (handed_on _ _ _ _ c.in_err-places.was c.from_residual.ensures.1 e) in
    let few : c.args.bound ≤ 3 = omega arith in
    let most = mul-le-mul_left g.row.N few in
    inl (omega (arith, full, most))
