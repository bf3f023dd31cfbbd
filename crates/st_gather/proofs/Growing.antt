-- Netlists that grow by parts that are whole.
use Rattle.std.specs.Prelude.{ℕ, ◌+◌, ◌≤◌, ◌≡◌, List, slice_get, Some}
use Rattle.std.proofs.Common.{subst, ◌∙◌, arith}
use Rattle.netlist.specs.declared.line.Line.{Line}
use Rattle.netlist.specs.declared.line.Memory.{Memory}
use Rattle.netlist.specs.Netlists.{Netlist}
use Rattle.net_parts.specs.Growth.{AddsNets, StillWait, StillWaitForWrite}
use Rattle.net_parts.specs.Laws.{extends_twice}
use Rattle.st_gather.specs.Whole.{LeavesWhole}

-- the same lines wait, and the same memories
pub waiting_as : (old new : Netlist) → new.lines ≡ old.lines → StillWait new old
waiting_as old new e n w = record { line = w.line; is = subst (λ (lines : List Line). slice_get lines n ≡ Some w.line) e w.is; waits = w.waits }

pub unwritten_as : (old new : Netlist) → new.memories ≡ old.memories → StillWaitForWrite new old
unwritten_as old new e m w = record { memory = w.memory; is = subst (λ (memories : List Memory). slice_get memories m ≡ Some w.memory) e w.is; waits = w.waits }

pub leaves_of : (count : ℕ) (old new : Netlist) → AddsNets count old new → LeavesWhole count old new
leaves_of count old new h = record {
  extends = h.grows.extends;
  most = h.most;
  drivers = h.grows.drivers;
  waits = h.grows.no_more_wait;
  waits_for_write = unwritten_as old new h.grows.memories;
}

pub leaves_twice : (one two : ℕ) (a b c : Netlist) → LeavesWhole one a b → LeavesWhole two b c → LeavesWhole (one + two) a c
leaves_twice one two a b c p q = record {
  extends = extends_twice a b c p.extends q.extends;
  most = (let few = p.most in let more = q.most in omega arith);
  drivers = q.drivers ∙ p.drivers;
  waits = λ n w. p.waits n (q.waits n w);
  waits_for_write = λ m w. p.waits_for_write m (q.waits_for_write m w);
}

pub leaves_fewer : (one two : ℕ) (a b : Netlist) → one ≤ two → LeavesWhole one a b → LeavesWhole two a b
leaves_fewer one two a b h p = record { extends = p.extends; most = (let few = p.most in omega arith); drivers = p.drivers; waits = p.waits; waits_for_write = p.waits_for_write }
