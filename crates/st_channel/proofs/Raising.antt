-- A stage that passes each beat as it is also leads to a side with a larger largest channel.
use Rattle.std.proofs.Common.{ℕ, ◌≤◌, Bool, false, arith}
use Rattle.stream_runs.specs.View.{Side, EndView}
use Rattle.stream_runs.specs.Source.{IsLegalAt}
use Rattle.stream_machines.specs.Stage.{StageRun, KeepsStageLaw, pass_shape}
use Rattle.stream_machines.specs.Wires.{wire_shape, filtered_side}

legal_raised : (side : Side) (largest : ℕ) (view : EndView) (c : ℕ) → side.max_channel ≤ largest → IsLegalAt side view c → IsLegalAt (filtered_side side largest) view c
legal_raised side largest view c le h = record {
  paced = h.paced;
  formed = λ high. (let beat = h.formed high in record {
    begins = beat.begins;
    unmarked = beat.unmarked;
    holds_data = beat.holds_data;
    in_range = (let range = beat.in_range in omega (arith, range, le));
    one_channel = beat.one_channel;
    quiet = beat.quiet;
  });
}

pub raised : (passes : ℕ → Bool) (side : Side) (largest : ℕ) (run : StageRun) → side.max_channel ≤ largest → KeepsStageLaw (pass_shape passes side) run → KeepsStageLaw (wire_shape passes side (filtered_side side largest) side.pace.latency false) run
raised passes side largest run le h = record {
  law = λ count legal needs. (let law = h.law count legal needs in record {
    prefix = record { in_order = law.prefix.in_order; holds_data = law.prefix.holds_data; errors = law.prefix.errors };
    hold = law.hold;
    rank = λ c lt. (let moves = law.rank c lt in record { bounded = moves.bounded; stays = moves.stays; falls = moves.falls; rises = moves.rises; advances = moves.advances });
  });
  legal = λ c legal needs. legal_raised side largest run.down c le (h.legal c legal needs);
}
