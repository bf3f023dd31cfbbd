use Rattle.std.proofs.Common.{sym, arith}
use Rattle.mm_split.proofs.command.opens.Goals as goal

pub emit-requires : goal.emit-requires
emit-requires c =
    let reads = c.requires.reads.is_net in
    let few = c.requires.sizes.few_room in
    (c.requires.write, ((reads, (c.requires.sizes.some_room, omega (arith, few), c.requires.sizes.room_fits), c.requires.reads.has_width), (c.requires.place, (reads, (c.requires.set, c.requires.asked.is_net, sym c.requires.asked.has_width)))))
