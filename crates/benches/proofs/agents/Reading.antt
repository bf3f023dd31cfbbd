-- Levels at the outputs that command an agent.
use Rattle.std.proofs.Common.{◌≡◌, ◌^◌, ◌<◌, ◌≤◌, ℕ, zero, suc, false, nat_eq, List, [], ◌∷◌, Option, Some, None, refl, sym, ap, subst, ◌∙◌, arith}
use Rattle.std.proofs.lemmas.Bool.{cond-false}
use Rattle.std.proofs.lemmas.List.{append-nil}
use Rattle.std.proofs.lemmas.Nat.{pow_pos}
use Rattle.std.proofs.Math.Pow.{pow_mono}
use Rattle.av_files.specs.Outside.{with_more}
use Rattle.iface_roles.specs.declared.records.AgentPort.{AgentPort}
use Rattle.iface_roles.specs.Proper.{IsWordSize}
use Rattle.netlist.specs.Netlists.{Netlist}
use Rattle.cycle_sim.specs.Sims.{SimValue}
use Rattle.histories.specs.History.{one_if}
use Rattle.scenario_tables.specs.Statements.{all_lanes}
use Rattle.stand_ins.specs.Whole.{AgentStandInValue, accepts}
use Rattle.benches.specs.Outputs.{IsOutputIf}
use Rattle.benches.specs.Writing.{text_of}
use Rattle.benches.specs.Agents.{BenchAgentValue, IsKept, commanded, taken_line, tells}

pub wider : (netlist : Netlist) (most more : ℕ) (port : Option ℕ) → most ≤ more → IsOutputIf netlist most port → IsOutputIf netlist more port
wider netlist most more None low h = tt
wider netlist most more (Some port) low h = record { width = h.width; is = h.is; few = (let few = h.few in omega arith) }

pub one_bit : (n : ℕ) → n < 2 → one_if (nat_eq n 1) ≡ n
one_bit zero low = refl
one_bit (suc zero) low = refl
one_bit (suc (suc n)) low = absurd (omega arith)

-- a word has at most 16 bytes
pub few_bytes : (bytes : ℕ) → IsWordSize bytes → bytes ≤ 16
few_bytes bytes size =
    let low : size.exponent ≤ 4 = size.small in
    let more : 2 ^ size.exponent ≤ 2 ^ 4 = pow_mono low in
    let is = size.power in
    omega arith

pub some_byte : (bytes : ℕ) → IsWordSize bytes → 1 ≤ bytes
some_byte bytes size =
    let some : 0 < 2 ^ size.exponent = pow_pos size.exponent in
    let is = size.power in
    omega arith

pub lanes_low : (bytes : ℕ) → all_lanes bytes < 2 ^ bytes
lanes_low bytes = let some : 0 < 2 ^ bytes = pow_pos bytes in omega arith

pub kept_few : (port : AgentPort) (stand_in : AgentStandInValue) → IsKept port stand_in → stand_in.port.word_bytes ≤ 16
kept_few port stand_in kept = subst (λ (one : AgentPort). one.word_bytes ≤ 16) (sym kept.same) (few_bytes port.word_bytes kept.bounded.ports.word)

with_nothing : (held : Option (List ℕ)) → held ≡ with_more held []
with_nothing None = refl
with_nothing (Some bytes) = ap Some (sym (append-nil bytes))

-- of an agent that takes nothing nothing is told
pub nothing_told : (agent : BenchAgentValue) (sim : SimValue) (c : ℕ) (held : Option (List ℕ)) → accepts agent.stand_in (commanded agent sim) ≡ false → held ≡ with_more held (text_of (tells agent sim c))
nothing_told agent sim c held idle =
    with_nothing held
    ∙ ap (λ (lines : List (List ℕ)). with_more held (text_of lines)) (sym (cond-false (accepts agent.stand_in (commanded agent sim)) (taken_line agent sim c (commanded agent sim) ∷ []) [] idle))
