use Rattle.std.proofs.Common.{refl, ◌∙◌, arith}
use Rattle.net_parts.specs.Laws.{extends_twice, adds_fewer, adds_twice}
use Rattle.net_parts.specs.Refusing.{handed_on}
use Rattle.mm_burst.proofs.registers.next_registers.Goals as goal

pub returns-clause-value : goal.returns-clause-value
returns-clause-value c cycle v =
    let v1 = c.next_reads.ensures.adds.grows.extends.valuations cycle v in
    let v0 = c.next_address.ensures.adds.grows.extends.valuations cycle v1 in
    let left = c.in_ok-left.ensures.value cycle v0 in
    let next = c.in_ok-next.ensures.value cycle v1 in
    let reads = c.in_ok-reads.ensures.value cycle v in
    rw (left, next, reads) refl

pub returns-clause-nets : goal.returns-clause-nets
returns-clause-nets c =
    let e = (extends_twice _ _ _ c.next_left.ensures.adds.grows.extends (extends_twice _ _ _ c.next_address.ensures.adds.grows.extends c.next_reads.ensures.adds.grows.extends)) in
    ((extends_twice _ _ _ c.next_address.ensures.adds.grows.extends c.next_reads.ensures.adds.grows.extends).nets _ _ c.in_ok-left.ensures.net.is_net, (c.next_reads.ensures.adds.grows.extends.nets _ _ c.in_ok-next.ensures.net.is_net, (c.in_ok-reads.ensures.net.is_net, (e.nets _ _ c.requires.piece.enables, (e.nets _ _ c.requires.piece.more.is_net, (e.nets _ _ c.requires.piece.tag, tt))))))

pub returns-clause-widths : goal.returns-clause-widths
returns-clause-widths c =
    let left = c.in_ok-left.ensures.net.has_width in
    let next = c.in_ok-next.ensures.net.has_width in
    let reads = c.in_ok-reads.ensures.net.has_width in
    let held = c.requires.registers.reads.has_width in
    let enables = c.requires.fits.enables in
    let more = c.requires.piece.more.has_width in
    let kept = c.requires.registers.more.has_width in
    let tag = c.requires.fits.tag in
    cc

pub next_left-requires-clause-left : goal.next_left-requires-clause-left
next_left-requires-clause-left c = record { is_net = c.requires.piece.left; has_width = c.requires.fits.left }

pub next_left-requires-clause-step : goal.next_left-requires-clause-step
next_left-requires-clause-step c = record { is_net = c.requires.piece.step.is_net; has_width = c.requires.piece.step.has_width ∙ c.requires.fits.left }

pub next_address-requires-clause-address : goal.next_address-requires-clause-address
next_address-requires-clause-address c = record { is_net = c.next_left.ensures.adds.grows.extends.nets _ _ c.requires.piece.address; has_width = c.requires.fits.address }

pub next_address-requires-clause-few : goal.next_address-requires-clause-few
next_address-requires-clause-few c =
    let few = c.requires.few in
    let step = c.requires.piece.step.has_width in
    let left = c.requires.fits.left in
    omega (arith, few, step, left)

pub returns-in_err-left-clause-adds : goal.returns-in_err-left-clause-adds
returns-in_err-left-clause-adds c = adds_fewer _ _ _ _ (omega arith) c.next_left.ensures.adds

pub returns-in_err-left-clause-full : goal.returns-in_err-left-clause-full
returns-in_err-left-clause-full c e =
    let full = c.next_left.ensures.full (handed_on _ _ _ _ c.in_err-left.was c.from_residual.ensures.1 e) in
    omega (arith, full)

pub returns-in_err-next-clause-adds : goal.returns-in_err-next-clause-adds
returns-in_err-next-clause-adds c = adds_fewer _ _ _ _ (omega arith) (adds_twice _ _ _ _ _ c.next_left.ensures.adds c.next_address.ensures.adds)

pub returns-in_err-next-clause-full : goal.returns-in_err-next-clause-full
returns-in_err-next-clause-full c e =
    let most0 = c.next_left.ensures.adds.most in
    let full = c.next_address.ensures.full (handed_on _ _ _ _ c.in_err-next.was c.from_residual-in_err-next.ensures.1 e) in
    omega (arith, most0, full)

pub returns-in_err-reads-clause-adds : goal.returns-in_err-reads-clause-adds
returns-in_err-reads-clause-adds c = adds_fewer _ _ _ _ (omega arith) (adds_twice _ _ _ _ _ (adds_twice _ _ _ _ _ c.next_left.ensures.adds c.next_address.ensures.adds) c.next_reads.ensures.adds)

pub returns-in_err-reads-clause-full : goal.returns-in_err-reads-clause-full
returns-in_err-reads-clause-full c e =
    let most0 = c.next_left.ensures.adds.most in
    let most1 = c.next_address.ensures.adds.most in
    let full = c.next_reads.ensures.full (handed_on _ _ _ _ c.in_err-reads.was c.from_residual-in_err-reads.ensures.1 e) in
    omega (arith, most0, most1, full)

pub returns-clause-adds : goal.returns-clause-adds
returns-clause-adds c = adds_fewer _ _ _ _ (omega arith) (adds_twice _ _ _ _ _ (adds_twice _ _ _ _ _ c.next_left.ensures.adds c.next_address.ensures.adds) c.next_reads.ensures.adds)

pub returns-clause-full : goal.returns-clause-full
returns-clause-full c e = cc
