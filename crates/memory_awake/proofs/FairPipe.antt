-- Few beats stand between an arbiter and its agent.
use Rattle.std.proofs.Common.{ℕ, zero, suc, ◌<◌, ◌≤◌, ◌≡◌, ◌+◌, ◌*◌, Bool, arith, refl, ap₂}
use Rattle.histories.specs.History.{one_if}
use Rattle.memory_machines.specs.Link.{Port, takes}
use Rattle.memory_awake.specs.Slack.{PassesOn}
use Rattle.memory_awake.specs.Ways.{count_in}

pub holds_two : (hold kept : ℕ) (up down : Port) (end : ℕ) → hold ≤ 2 → PassesOn (record { hold = hold; kept = kept }) up down end → PassesOn (record { hold = 2; kept = kept }) up down end
holds_two hold kept up down end few passes = record {
  beats = λ from size fit. let beats = passes.beats from size fit in omega (arith, beats, few);
  words = passes.words;
}

same_count : (one two : ℕ → Bool) (from size end : ℕ) → from + size ≤ end → ((c : ℕ) → c < end → one c ≡ two c) → count_in one from size ≡ count_in two from size
same_count one two from zero end fit same = refl
same_count one two from (suc size) end fit same =
    ap₂ (λ (n : ℕ) (b : Bool). n + one_if b) (same_count one two from size end (omega (arith, fit)) same) (same (from + size) (omega (arith, fit)))

pub down_the_pipe : (port : ℕ → Port) (stages end from size : ℕ) → from + size ≤ end → ((i : ℕ) → i < stages → PassesOn (record { hold = 2; kept = 1 }) (port (suc i)) (port i) end) →
    count_in (takes (port stages)) from size ≤ count_in (takes (port 0)) from size + 2 * stages
down_the_pipe port zero end from size fit pass = omega arith
down_the_pipe port (suc stages) end from size fit pass =
    let more = down_the_pipe port stages end from size fit (λ i low. pass i (omega (arith, low))) in
    let here = (pass stages (omega arith)).beats from size fit in
    omega (arith, more, here)

pub few_below : (port : ℕ → Port) (accepts : ℕ → Bool) (stages end from size : ℕ) → from + size ≤ end → ((i : ℕ) → i < stages → PassesOn (record { hold = 2; kept = 1 }) (port (suc i)) (port i) end) →
    ((c : ℕ) → c < end → takes (port 0) c ≡ accepts c) → count_in (takes (port stages)) from size ≤ count_in accepts from size + 2 * stages
few_below port accepts stages end from size fit pass same =
    let few = down_the_pipe port stages end from size fit pass in
    let all = same_count (takes (port 0)) accepts from size end fit same in
    omega (arith, few, all)
