use Rattle.std.proofs.Common.{◌-◌, ◌<◌, ◌≤◌, length}
use Rattle.std.specs.List.{AllWithin}
use Rattle.address_map.proofs.host_map.HostMap.begun.Given as goal

abbrev pub invariant-loop-low : goal.invariant-loop-low
invariant-loop-low l = record {
  order : l.low ≤ l.high;
  few : l.high ≤ length l.entries;
  begun : AllWithin (λ e. e.first ≤ l.address) l.entries 0 l.low;
  others : AllWithin (λ e. l.address < e.first) l.entries l.high (length l.entries);
}

abbrev pub decreases-loop-low : goal.decreases-loop-low
decreases-loop-low l = l.high - l.low
