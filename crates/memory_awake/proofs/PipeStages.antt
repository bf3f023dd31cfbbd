-- The stages of a pipe, numbered from below.
use Rattle.std.proofs.Common.{◌≡◌, ℕ, suc, ◌-◌, ◌<◌, arith, refl, subst, ap, ◌∙◌}
use Rattle.memory_machines.specs.Machines.{IsStageRun}
use Rattle.memory_links.specs.Pipes.{PipeSides, RunsAsPipe, side_of, tagged_side}
use Rattle.memory_awake.specs.PipeStages.{lower_of, stage_of}
use Rattle.memory_awake.specs.Theorem.{IsStageBetween}

pub stage_between : (stages : ℕ) (pipe : PipeSides) → RunsAsPipe stages pipe → (i : ℕ) → i < stages → IsStageBetween (stage_of stages pipe i) (lower_of stages pipe (suc i)) (lower_of stages pipe i)
stage_between stages pipe runs i low =
    let above = stages - suc i in
    let next : suc above ≡ stages - i = omega (arith, low) in
    let there : above < stages = omega (arith, low) in
    record {
      runs = subst (λ k. IsStageRun 2 (side_of pipe above) (side_of pipe k) (pipe.queue above)) next (runs.stage above there);
      some = omega arith;
      few = omega arith;
      ready = λ c few. runs.opens above c there few;
      up_is = refl;
      down_is = refl;
      tags = λ c. runs.answer_tag above c there ∙ ap (λ k. pipe.answer_tag k c) next;
    }

pub highest : (stages : ℕ) (pipe : PipeSides) → lower_of stages pipe stages ≡ tagged_side pipe 0
highest stages pipe = ap (tagged_side pipe) (let none : stages - stages ≡ 0 = omega arith in none)

pub lowest : (stages : ℕ) (pipe : PipeSides) → lower_of stages pipe 0 ≡ tagged_side pipe stages
lowest stages pipe = ap (tagged_side pipe) (let all : stages - 0 ≡ stages = omega arith in all)
