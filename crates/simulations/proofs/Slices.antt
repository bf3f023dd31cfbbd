-- What is written through slices of vectors.
use Rattle.std.proofs.Common.{◌≡◌, ◌≤◌, ℕ, ◌+◌, List, ◌++◌, length, take, drop, subst, arith}
use Rattle.std.proofs.Math.Seq.{take-append_seam}
use Rattle.av_base.specs.Word.{Word}
use Rattle.link_rules.specs.Plans.{PlanTable}
use Rattle.netlist.specs.Runs.{Run}
use Rattle.cycle_sim.specs.Sims.{SimValue}
use Rattle.scenario_tables.specs.declared.scenario.Scenario.{Scenario}
use Rattle.trace_lines.specs.declared.counts.Counts.{Counts}
use Rattle.benches.specs.Counting.{HaveRoom}
use Rattle.benches.specs.Hosts.{BenchHostValue}
use Rattle.benches.specs.Agents.{BenchAgentValue}
use Rattle.benches.specs.Streams.{BenchStreamValue}
use Rattle.simulations.specs.Benches.{IsUnderWay}

-- a vector whose items were all written
pub refilled : {T : Type 0} (n : ℕ) (xs ys : List T) → length xs ≡ n → take n (xs ++ drop (length xs) ys) ≡ xs
refilled {T} n xs ys e = subst (λ k. take k (xs ++ drop (length xs) ys) ≡ xs) e (take-append_seam xs (drop (length xs) ys))

-- a bench is under way with the components that its vectors hold
pub under_way_with : (plan : PlanTable) (scenario : Scenario) (run : Run) (c : ℕ) (sim : SimValue) (row : List Word)
    (hosts hosts' : List BenchHostValue) (agents agents' : List BenchAgentValue) (streams streams' : List BenchStreamValue) → hosts' ≡ hosts → agents' ≡ agents → streams' ≡ streams
    → IsUnderWay plan scenario run c (record { sim = sim; row = row; hosts = hosts; agents = agents; streams = streams })
    → IsUnderWay plan scenario run c (record { sim = sim; row = row; hosts = hosts'; agents = agents'; streams = streams' })
under_way_with plan scenario run c sim row hosts hosts' agents agents' streams streams' p q r is = rw (p, q, r) is

-- ---- room for what is counted

pub room_for_fewer : (n m : ℕ) (counts : Counts) → n ≤ m → HaveRoom m counts → HaveRoom n counts
room_for_fewer n m counts fewer room = record {
  taken = (let h = room.taken in omega arith);
  answered = (let h = room.answered in omega arith);
  delivered = (let h = room.delivered in omega arith);
  dropped = (let h = room.dropped in omega arith);
}

-- room that is left behind some components
abbrev LeavesRoom : ℕ → Counts → Counts → Type 0
LeavesRoom n before after = (more : ℕ) → HaveRoom (n + more) before → HaveRoom more after

pub room_behind_one : (n m : ℕ) (counts one : Counts) → LeavesRoom n counts one → HaveRoom 64 counts → n ≤ 16 → m ≤ 32 → HaveRoom m one
room_behind_one n m counts one left room few fewer = left m (room_for_fewer (n + m) 64 counts (omega arith) room)

pub room_behind_two : (n m k : ℕ) (counts one two : Counts) → LeavesRoom n counts one → LeavesRoom m one two → HaveRoom 64 counts → n ≤ 16 → m ≤ 32 → k ≤ 16 → HaveRoom k two
room_behind_two n m k counts one two left behind room few fewer fewest = behind k (left (m + k) (room_for_fewer (n + (m + k)) 64 counts (omega arith) room))

pub room_behind_all : (n m k more : ℕ) (counts one two three : Counts) → LeavesRoom n counts one → LeavesRoom m one two → LeavesRoom k two three → HaveRoom (64 + more) counts → n ≤ 16 → m ≤ 32 → k ≤ 16 → HaveRoom more three
room_behind_all n m k more counts one two three left behind last room few fewer fewest =
    last more (behind (k + more) (left (m + (k + more)) (room_for_fewer (n + (m + (k + more))) (64 + more) counts (omega arith) room)))
