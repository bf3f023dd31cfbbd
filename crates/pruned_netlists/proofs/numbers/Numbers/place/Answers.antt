use Rattle.std.proofs.Common.{◌≡◌, ◌≤◌, length, sym, subst, arith}
use Rattle.std.proofs.lemmas.Bool.{ltb-false}
use Rattle.pruned_netlists.specs.Numbers.{place}
use Rattle.pruned_netlists.proofs.Keeping.{number_past}
use Rattle.pruned_netlists.proofs.numbers.Numbers.place.Goals as goal

pub returns-in-None : goal.returns-in-None
returns-in-None c =
    let past = ltb-false c.args.number (length c.deref.result.now) (sym c.in-None.ensures.lookup.0) in
    let behind : length c.self.inside.places.items ≤ c.args.number = omega (arith, past, c.deref.ensures.len) in
    subst (λ marks. c.self.inside.count ≡ place marks c.args.number) c.self.view_is (number_past c.self.inside.marks.items c.self.inside.places.items c.args.number c.self.inside.count c.self.invariant behind)
