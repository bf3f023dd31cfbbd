-- Replies that note a run.
use Rattle.std.specs.Prelude.{◌≡◌, ℕ, List}
use Rattle.packet_bytes.specs.Noted.{HasNoted}
use Rattle.scenario_runs.specs.declared.bridges.noted.NotingReplies.{NotingReplies}

-- so many write beats were noted, and these words, since the first; the transactions are the same
pub record HasNotedSince (first now : NotingReplies) (beats : ℕ) (words : List ℕ) : Type 0 where
  pub transfers : now.replies.transfers ≡ first.replies.transfers
  pub noted : HasNoted beats words now.replies
