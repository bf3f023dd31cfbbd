-- What holds for so many cycles holds for fewer.
use Rattle.std.proofs.Common.{ℕ, zero, suc, ◌≡◌, ◌+◌, ◌*◌, ◌≤◌, Bool, arith}
use Rattle.memory_runs.specs.Views.{System}
use Rattle.memory_machines.specs.Link.{Port, AreLegalAt}
use Rattle.memory_machines.specs.Lines.{TaggedPort}
use Rattle.memory_parts.specs.Steps.{IsArbiterPart}
use Rattle.memory_awake.specs.Steps.{HasStepsLeft, HasSingleReads}

pub shorter_legal : (port : Port) (end less : ℕ) → less ≤ end → AreLegalAt port end → AreLegalAt port less
shorter_legal port end less h legal = record {
  legal = record {
    one_kind = λ c fit. legal.legal.one_kind c (omega (arith, fit, h));
    held = λ c fit. legal.legal.held c (omega (arith, fit, h));
    least = λ c fit. legal.legal.least c (omega (arith, fit, h));
    most = λ c fit. legal.legal.most c (omega (arith, fit, h));
    finished = λ c fit. legal.legal.finished c (omega (arith, fit, h));
  };
  tag = λ c fit. legal.tag c (omega (arith, fit, h));
  more = λ c fit. legal.more c (omega (arith, fit, h));
  joined = λ c fit. legal.joined c (omega (arith, fit, h));
}

pub shorter_arbiter : (system : System) (agent : ℕ) (up : ℕ → Port) (down : TaggedPort) (end less : ℕ) → less ≤ end → IsArbiterPart system agent up down end → IsArbiterPart system agent up down less
shorter_arbiter system agent up down end less h part = record {
  legal = λ k low. shorter_legal (up k) end less h (part.legal k low);
  joined = λ k c fit. part.joined k c (omega (arith, fit, h));
  own_tag = λ k c fit. part.own_tag k c (omega (arith, fit, h));
  turns = λ c fit. part.turns c (omega (arith, fit, h));
  tagged = λ k c low fit. part.tagged k c low (omega (arith, fit, h));
  taken = λ k c low fit. part.taken k c low (omega (arith, fit, h));
  same = λ k c low fit. part.same k c low (omega (arith, fit, h));
  words = λ k c low fit. part.words k c low (omega (arith, fit, h));
  in_order = λ c fit. part.in_order c (omega (arith, fit, h));
}

pub shorter_steps : (port : Port) (good : ℕ → Bool) (longest : ℕ) (rest : ℕ → ℕ) (end less : ℕ) → less ≤ end → HasStepsLeft port good longest rest end → HasStepsLeft port good longest rest less
shorter_steps port good longest rest end less h has = record {
  some = λ c fit. has.some c (omega (arith, fit, h));
  few = λ c fit. has.few c (omega (arith, fit, h));
  fewer = λ c fit. has.fewer c (omega (arith, fit, h));
  stays = λ c fit. has.stays c (omega (arith, fit, h));
  gaps = λ c fit. has.gaps c (omega (arith, fit, h));
}

pub shorter_reads : (port : Port) (rest : ℕ → ℕ) (end less : ℕ) → less ≤ end → HasSingleReads port rest end → HasSingleReads port rest less
shorter_reads port rest end less h has = record { few = λ c fit. has.few c (omega (arith, fit, h)); single = λ c fit. has.single c (omega (arith, fit, h)) }

pub at_least : (n m : ℕ) → 1 ≤ m → n ≤ n * m
at_least n m h = grows n
  where
    grows : (n : ℕ) → n ≤ n * m
    grows zero = omega arith
    grows (suc n) = let more = grows n in let all : suc n * m ≡ n * m + m = omega arith in omega (arith, more, all, h)
