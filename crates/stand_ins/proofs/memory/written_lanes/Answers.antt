use Rattle.std.proofs.Common.{◌≡◌, ◌-◌, ◌+◌, ℕ, suc, List, length, ap, sym, ◌∙◌, subst, arith, add-one, length-set, slice_set}
use Rattle.histories.specs.History.{numbers}
use Rattle.memory_runs.specs.Operations.{memory_after, byte_at}
use Rattle.stand_ins.specs.Memory.{MemoryValue, with_bytes, lane_writes}
use Rattle.stand_ins.proofs.Bytes.{lane_written, lane_skipped}
use Rattle.stand_ins.proofs.memory.written_lanes.Goals as goal
use Rattle.stand_ins.proofs.memory.written_lanes.Goals.{then-is_enabled, else-is_enabled}

pub lanes-init : goal.lanes-init
lanes-init c =
    let all : c.args.word_bytes - 0 ≡ c.args.word_bytes = omega arith in
    record {
      long = c.requires.len;
      ahead = λ memory number same.
          ap (λ n. memory_after (with_bytes memory number c.args.stored) (lane_writes c.args.word_bytes number c.args.word c.args.enables (numbers 0 n))) all;
    }

-- what the lanes from one on still write
abbrev Ahead : ℕ → ℕ → ℕ → List ℕ → MemoryValue → ℕ → ℕ → ℕ → ℕ
Ahead n word enables bytes memory number lane = memory_after (with_bytes memory number bytes) (lane_writes n number word enables (numbers lane (n - lane)))

pub lanes-preserved : goal.lanes-preserved
lanes-preserved c =
    let n = c.args.word_bytes in
    let word = c.args.word in
    let enables = c.args.enables in
    let lane = c.lanes.lane in
    let old = c.lanes.bytes in
    elim c.if-is_enabled.branch [
      | then-is_enabled w ↦
          let is : c.if-is_enabled.bytes ≡ slice_set old lane (byte_at word lane) = w.bytes-is ∙ ap (slice_set old lane) w.byte_at.ensures in
          record {
            long = ap length is ∙ length-set old lane (byte_at word lane) ∙ c.lanes.invariant.long;
            ahead = λ memory number same.
                ap (λ bytes. Ahead n word enables bytes memory number (lane + 1)) is
                ∙ ap (Ahead n word enables (slice_set old lane (byte_at word lane)) memory number) (add-one lane)
                ∙ sym (subst (λ m. Ahead m word enables old memory number lane ≡ Ahead m word enables (slice_set old lane (byte_at word lane)) memory number (suc lane)) same
                (lane_written memory number old word enables lane (omega arith) (omega arith) (sym c.is_enabled.ensures ∙ w.if-is_enabled.true)))
                ∙ c.lanes.invariant.ahead memory number same;
          }
      | else-is_enabled w ↦
          record {
            long = ap length w.bytes-is ∙ c.lanes.invariant.long;
            ahead = λ memory number same.
                ap (λ bytes. Ahead n word enables bytes memory number (lane + 1)) w.bytes-is
                ∙ ap (Ahead n word enables old memory number) (add-one lane)
                ∙ sym (subst (λ m. Ahead m word enables old memory number lane ≡ Ahead m word enables old memory number (suc lane)) same
                (lane_skipped memory number old word enables lane (omega arith) (sym c.is_enabled.ensures ∙ w.if-is_enabled.false)))
                ∙ c.lanes.invariant.ahead memory number same;
          }
    ]

pub returns : goal.returns
returns c = λ memory number same.
    let none : c.args.word_bytes - c.lanes.lane ≡ 0 = omega arith in
    sym (ap (λ n. memory_after (with_bytes memory number c.lanes.bytes) (lane_writes c.args.word_bytes number c.args.word c.args.enables (numbers c.lanes.lane n))) none)
    ∙ c.lanes.invariant.ahead memory number same
