use Rattle.std.proofs.Common.{◌*◌, ◌≤◌, sym, subst, arith}
use Rattle.std.proofs.lemmas.Nat.{pow_pos}
use Rattle.iface_roles.specs.declared.records.HostPort.{HostPort}
use Rattle.benches.specs.Outputs.{IsOutputIf}
use Rattle.benches.proofs.hosts.Widths.{is_value, most_bytes, wider}
use Rattle.benches.proofs.hosts.host.BenchHost.word.Goals as goal

pub level_at-bits-requires-clause-there : goal.level_at-bits-requires-clause-there
level_at-bits-requires-clause-there c =
    let inside = c.self.inside in
    let fits = rw (← c.self.view_is) at c.requires.fits in
    let few : inside.port.word_bytes ≤ 16 = most_bytes inside.port.word_bytes c.self.invariant.1.ports.word in
    wider c.args.sim.now.netlist (8 * inside.port.word_bytes) 128 inside.ports.word (omega arith)
    (subst (λ (port : HostPort). IsOutputIf c.args.sim.now.netlist (8 * port.word_bytes) inside.ports.word) (sym c.self.invariant.0) fits.word)

pub overflow_mul-self-inside : goal.overflow_mul-self-inside
overflow_mul-self-inside c =
    let few : c.self.inside.port.word_bytes ≤ 16 = most_bytes c.self.inside.port.word_bytes c.self.invariant.1.ports.word in
    omega arith

pub unwrap-requires : goal.unwrap-requires
unwrap-requires c =
    let inside = c.self.inside in
    let size = c.self.invariant.1.ports.word in
    let fits = rw (← c.self.view_is) at c.requires.fits in
    let there = subst (λ (port : HostPort). IsOutputIf c.args.sim.now.netlist (8 * port.word_bytes) inside.ports.word) (sym c.self.invariant.0) fits.word in
    c.new.ensures.some.1 (is_value inside.port.word_bytes c.level_at-bits.result size (c.level_at-bits.ensures.fits (8 * inside.port.word_bytes) there (pow_pos (8 * inside.port.word_bytes))))
