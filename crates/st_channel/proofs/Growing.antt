-- How many nets a choice adds.
use Rattle.std.proofs.Common.{◌≡◌, ℕ, ◌+◌, ◌<◌, ◌≤◌, Bool, true, false, if◌then◌else◌}
use Rattle.netlist.specs.Netlists.{Netlist}
use Rattle.net_parts.specs.Growth.{AddsNets}
use Rattle.net_parts.specs.Laws.{adds_fewer}

-- where the test holds, so many nets are few enough
pub adds_where : (t : Bool) (n m k : ℕ) (a b : Netlist) → t ≡ true → k ≤ n → AddsNets k a b → AddsNets (if t then n else m) a b
adds_where true n m k a b e h p = adds_fewer k n a b h p
adds_where false n m k a b e h p = cc

-- and so many lines too many
pub full_where : (t : Bool) (n m top lines : ℕ) → t ≡ true → top < lines + n → top < lines + (if t then n else m)
full_where true n m top lines e h = h
full_where false n m top lines e h = cc
