use Rattle.std.proofs.Common.{◌+◌, ◌-◌, ◌/◌, arith}
use Rattle.address_map.specs.Maps.{IsRising}
use Rattle.address_map.proofs.EntryLemmas.{zeros, begun_up_to, others_from}
use Rattle.address_map.proofs.host_map.HostMap.begun.Goals as goal

pub loop-low-preserved-then-from-address : goal.loop-low-preserved-then-from-address
loop-low-preserved-then-from-address c =
    let middle = c.loop-low.low + (c.loop-low.high - c.loop-low.low) / 2 in
    let rising : IsRising c.entries-entries.result.now = rw c.entries-entries.ensures.value c.entries-entries.ensures.rising in
    record {
      order = omega arith;
      few = c.loop-low.invariant.few;
      begun = begun_up_to c.entries-entries.result.now middle c.args.address zeros rising (omega arith) (omega arith);
      others = c.loop-low.invariant.others;
    }

pub loop-low-preserved : goal.loop-low-preserved
loop-low-preserved c =
    let middle = c.loop-low.low + (c.loop-low.high - c.loop-low.low) / 2 in
    let rising : IsRising c.entries-entries.result.now = rw c.entries-entries.ensures.value c.entries-entries.ensures.rising in
    record {
      order = omega arith;
      few = omega arith;
      begun = c.loop-low.invariant.begun;
      others = others_from c.entries-entries.result.now middle c.args.address zeros rising (omega arith) (omega arith);
    }
