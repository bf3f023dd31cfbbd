use Rattle.std.proofs.Common.{arith}
use Rattle.net_parts.specs.Laws.{adds_twice, grows_once, adds_fewer, extends_twice, net_lasts}
use Rattle.net_parts.specs.Refusing.{handed_on}
use Rattle.mm_route.specs.Registers.{register_nets_last}
use Rattle.mm_route.proofs.Levels.{owes_level, gate_level}
use Rattle.mm_route.proofs.gate.open_gate.Goals as goal

pub returns-clause-owes_is : goal.returns-clause-owes_is
returns-clause-owes_is c cycle v5 =
    let v4 = c.either.ensures.adds.grows.extends.valuations cycle v5 in
    let v3 = c.may_read.ensures.adds.grows.extends.valuations cycle v4 in
    let v2 = c.owes_here.ensures.adds.grows.extends.valuations cycle v3 in
    let v1 = c.turned.ensures.adds.grows.extends.valuations cycle v2 in
    owes_level _ _ (c.in_ok-owes.ensures.value cycle v1).1

pub returns-clause-gate_is : goal.returns-clause-gate_is
returns-clause-gate_is c cycle v5 =
    let v4 = c.either.ensures.adds.grows.extends.valuations cycle v5 in
    let v3 = c.may_read.ensures.adds.grows.extends.valuations cycle v4 in
    let v2 = c.owes_here.ensures.adds.grows.extends.valuations cycle v3 in
    let v1 = c.turned.ensures.adds.grows.extends.valuations cycle v2 in
    gate_level (cycle.net c.args.write.number) (cycle.net c.args.registers.now.owed.number) (cycle.net c.args.registers.now.owing.number) (cycle.net c.args.place.number)
    _ _ _ _ _ (c.in_ok-owes.ensures.value cycle v1).1 (c.in_ok-free.ensures.value cycle v2) (c.in_ok-same.ensures.value cycle v3) (c.in_ok-reads.ensures.value cycle v4) (c.in_ok-gate.ensures.value cycle v5)

pub returns-clause-adds : goal.returns-clause-adds
returns-clause-adds c =
    adds_twice 1 4 _ _ _ (grows_once _ _ c.any.ensures.extends c.any.ensures.grows)
    (adds_twice 1 3 _ _ _ c.turned.ensures.adds (adds_twice 1 2 _ _ _ c.owes_here.ensures.adds (adds_twice 1 1 _ _ _ c.may_read.ensures.adds c.either.ensures.adds)))

pub returns-in_err-gate-clause-adds : goal.returns-in_err-gate-clause-adds
returns-in_err-gate-clause-adds c =
    adds_twice 1 4 _ _ _ (grows_once _ _ c.any.ensures.extends c.any.ensures.grows)
    (adds_twice 1 3 _ _ _ c.turned.ensures.adds (adds_twice 1 2 _ _ _ c.owes_here.ensures.adds (adds_twice 1 1 _ _ _ c.may_read.ensures.adds c.either.ensures.adds)))

pub returns-in_err-owes-clause-adds : goal.returns-in_err-owes-clause-adds
returns-in_err-owes-clause-adds c = adds_fewer _ _ _ _ (omega arith) (grows_once _ _ c.any.ensures.extends c.any.ensures.grows)

pub returns-in_err-owes-clause-full : goal.returns-in_err-owes-clause-full
returns-in_err-owes-clause-full c e = let full = c.any.ensures.full.0 (handed_on _ _ _ _ c.in_err-owes.was c.from_residual.ensures.1 e) in omega (arith, full)

pub returns-in_err-free-clause-adds : goal.returns-in_err-free-clause-adds
returns-in_err-free-clause-adds c = adds_fewer _ _ _ _ (omega arith) (adds_twice _ _ _ _ _ (grows_once _ _ c.any.ensures.extends c.any.ensures.grows) c.turned.ensures.adds)

pub returns-in_err-free-clause-full : goal.returns-in_err-free-clause-full
returns-in_err-free-clause-full c e = let most = c.any.ensures.grows.most in let full = c.turned.ensures.full (handed_on _ _ _ _ c.in_err-free.was c.from_residual-in_err-free.ensures.1 e) in omega (arith, most, full)

pub returns-in_err-same-clause-adds : goal.returns-in_err-same-clause-adds
returns-in_err-same-clause-adds c = adds_fewer _ _ _ _ (omega arith) (adds_twice _ _ _ _ _ (adds_twice _ _ _ _ _ (grows_once _ _ c.any.ensures.extends c.any.ensures.grows) c.turned.ensures.adds) c.owes_here.ensures.adds)

pub returns-in_err-same-clause-full : goal.returns-in_err-same-clause-full
returns-in_err-same-clause-full c e = let most = c.any.ensures.grows.most in let most2 = c.turned.ensures.adds.most in let full = c.owes_here.ensures.full (handed_on _ _ _ _ c.in_err-same.was c.from_residual-in_err-same.ensures.1 e) in omega (arith, most, most2, full)

pub returns-in_err-reads-clause-adds : goal.returns-in_err-reads-clause-adds
returns-in_err-reads-clause-adds c = adds_fewer _ _ _ _ (omega arith) (adds_twice _ _ _ _ _ (adds_twice _ _ _ _ _ (adds_twice _ _ _ _ _ (grows_once _ _ c.any.ensures.extends c.any.ensures.grows) c.turned.ensures.adds) c.owes_here.ensures.adds) c.may_read.ensures.adds)

pub returns-in_err-reads-clause-full : goal.returns-in_err-reads-clause-full
returns-in_err-reads-clause-full c e = let most = c.any.ensures.grows.most in let most2 = c.turned.ensures.adds.most in let most3 = c.owes_here.ensures.adds.most in let full = c.may_read.ensures.full (handed_on _ _ _ _ c.in_err-reads.was c.from_residual-in_err-reads.ensures.1 e) in omega (arith, most, most2, most3, full)

pub returns-in_err-gate-clause-full : goal.returns-in_err-gate-clause-full
returns-in_err-gate-clause-full c e = let most = c.any.ensures.grows.most in let most2 = c.turned.ensures.adds.most in let most3 = c.owes_here.ensures.adds.most in let most4 = c.may_read.ensures.adds.most in let full = c.either.ensures.full (handed_on _ _ _ _ c.in_err-gate.was c.from_residual-in_err-gate.ensures.1 e) in omega (arith, most, most2, most3, most4, full)

pub returns-clause-full : goal.returns-clause-full
returns-clause-full c e = cc

pub any-requires : goal.any-requires
any-requires c = record { a_is = c.requires.registers.owed.is_net }

pub turned-requires : goal.turned-requires
turned-requires c = record { a = record { is_net = c.in_ok-owes.ensures.net.0; has_width = c.in_ok-owes.ensures.net.1 } }

pub owes_here-requires-clause-registers : goal.owes_here-requires-clause-registers
owes_here-requires-clause-registers c = register_nets_last _ _ _ _ _ (extends_twice _ _ _ c.any.ensures.extends c.turned.ensures.adds.grows.extends) c.requires.registers

pub owes_here-requires-clause-place : goal.owes_here-requires-clause-place
owes_here-requires-clause-place c = net_lasts _ _ _ _ (extends_twice _ _ _ c.any.ensures.extends c.turned.ensures.adds.grows.extends) c.requires.place

pub may_read-requires-clause-free : goal.may_read-requires-clause-free
may_read-requires-clause-free c = net_lasts _ _ _ 1 c.owes_here.ensures.adds.grows.extends c.in_ok-free.ensures.net

pub may_read-requires-clause-same : goal.may_read-requires-clause-same
may_read-requires-clause-same c = c.in_ok-same.ensures.net

pub either-requires-clause-a : goal.either-requires-clause-a
either-requires-clause-a c =
    let e1 = extends_twice _ _ _ c.owes_here.ensures.adds.grows.extends c.may_read.ensures.adds.grows.extends in
    let e2 = extends_twice _ _ _ c.turned.ensures.adds.grows.extends e1 in
    net_lasts _ _ _ 1 (extends_twice _ _ _ c.any.ensures.extends e2) c.requires.write

pub either-requires-clause-b : goal.either-requires-clause-b
either-requires-clause-b c = c.in_ok-reads.ensures.net

pub returns-clause-gate : goal.returns-clause-gate
returns-clause-gate c = c.in_ok-gate.ensures.net

pub returns-clause-owes : goal.returns-clause-owes
returns-clause-owes c =
    let e1 = extends_twice _ _ _ c.may_read.ensures.adds.grows.extends c.either.ensures.adds.grows.extends in
    let e2 = extends_twice _ _ _ c.owes_here.ensures.adds.grows.extends e1 in
    net_lasts _ _ _ 1 (extends_twice _ _ _ c.turned.ensures.adds.grows.extends e2) (record { is_net = c.in_ok-owes.ensures.net.0; has_width = c.in_ok-owes.ensures.net.1 })
