use Rattle.std.proofs.Common.{◌≡◌, if◌then◌else◌, arith, ◌∙◌, sym}
use Rattle.netlist.specs.Runs.{Always}
use Rattle.net_parts.specs.Laws.{if_ok, bit_fits, adds_fewer, grows_once, adds_none}
use Rattle.net_parts.specs.Nets.{IsBit}
use Rattle.mm_route.specs.Entries.{serves, kind_of}
use Rattle.mm_route.proofs.Decoding.{if_read, if_written}
use Rattle.mm_route.proofs.decoder.of_kind.Goals as goal

pub returns-then-entry-clause-value : goal.returns-then-entry-clause-value
returns-then-entry-clause-value c =
    if_ok c.where_read.result _ (λ held. Always c.where_read.new.builder (λ cycle. cycle.net held.number ≡ (if serves c.args.entry.now (kind_of (cycle.net c.args.asked.now.write.number)) then cycle.net c.args.inside.number else 0)))
    (λ held value cycle v1. (
    let v0 = c.where_read.ensures.adds.grows.extends.valuations cycle v1 in
    if_read c.args.entry.now (cycle.net c.args.asked.now.write.number) (cycle.net c.args.asked.now.no_write.number) (cycle.net c.args.inside.number) (cycle.net held.number) c.if-entry.true c.if-entry-2.false
    (bit_fits _ _ c.requires.asked.write cycle v0) (c.requires.asked.turned cycle v0) (value cycle v1)))
    c.where_read.ensures.value

pub returns-then-entry-3-clause-value : goal.returns-then-entry-3-clause-value
returns-then-entry-3-clause-value c =
    if_ok c.and.result _ (λ held. Always c.and.new.self (λ cycle. cycle.net held.number ≡ (if serves c.args.entry.now (kind_of (cycle.net c.args.asked.now.write.number)) then cycle.net c.args.inside.number else 0)))
    (λ held value cycle v1. (
    let v0 = c.and.ensures.extends.valuations cycle v1 in
    if_written c.args.entry.now (cycle.net c.args.asked.now.write.number) (cycle.net c.args.inside.number) (cycle.net held.number) c.if-entry.false c.if-entry-3.true
    (bit_fits _ _ c.requires.asked.write cycle v0) (bit_fits _ _ c.requires.inside cycle v0) (value cycle v1).1))
    c.and.ensures.value

pub returns-then-entry-clause-adds : goal.returns-then-entry-clause-adds
returns-then-entry-clause-adds c = adds_fewer _ _ _ _ (omega arith) c.where_read.ensures.adds

pub returns-then-entry-clause-full : goal.returns-then-entry-clause-full
returns-then-entry-clause-full c e = let full = c.where_read.ensures.full e in omega (arith, full)

pub returns-then-entry-3-clause-adds : goal.returns-then-entry-3-clause-adds
returns-then-entry-3-clause-adds c = adds_fewer _ _ _ _ (omega arith) (grows_once _ _ c.and.ensures.extends c.and.ensures.grows)

pub returns-then-entry-3-clause-full : goal.returns-then-entry-3-clause-full
returns-then-entry-3-clause-full c e = let full = c.and.ensures.full.0 e in omega (arith, full)

pub returns-then-entry-2-clause-adds : goal.returns-then-entry-2-clause-adds
returns-then-entry-2-clause-adds c = adds_fewer _ _ _ _ (omega arith) (adds_none _)

pub returns-then-entry-2-clause-full : goal.returns-then-entry-2-clause-full
returns-then-entry-2-clause-full c e = cc

pub returns-then-entry-2-clause-net : goal.returns-then-entry-2-clause-net
returns-then-entry-2-clause-net c = c.requires.inside

pub returns-then-entry-clause-net : goal.returns-then-entry-clause-net
returns-then-entry-clause-net c = c.where_read.ensures.net

pub returns-clause-adds : goal.returns-clause-adds
returns-clause-adds c = adds_fewer _ _ _ _ (omega arith) c.level.ensures.adds

pub returns-clause-full : goal.returns-clause-full
returns-clause-full c e = let full = c.level.ensures.full e in omega (arith, full)

pub returns-clause-net : goal.returns-clause-net
returns-clause-net c = c.level.ensures.net

pub returns-then-entry-3-clause-net : goal.returns-then-entry-3-clause-net
returns-then-entry-3-clause-net c = if_ok c.and.result _ (IsBit c.and.new.self) (λ held net. record { is_net = net.0; has_width = net.1 ∙ c.requires.inside.has_width }) c.and.ensures.net

pub and-requires-clause-a_is : goal.and-requires-clause-a_is
and-requires-clause-a_is c = c.requires.inside.is_net

pub and-requires-clause-b_is : goal.and-requires-clause-b_is
and-requires-clause-b_is c = c.requires.asked.write.is_net

pub and-requires-clause-widths : goal.and-requires-clause-widths
and-requires-clause-widths c = c.requires.inside.has_width ∙ sym c.requires.asked.write.has_width
