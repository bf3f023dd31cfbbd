-- What replies have noted, cycle by cycle.
use Rattle.std.proofs.Common.{◌≡◌, ℕ, Bool, List, Option, Some, None, refl, sym, subst, ◌∙◌}
use Rattle.av_base.specs.Word.{Word}
use Rattle.simulations.specs.Noted.{with_beat as run_beat, with_word as run_word}
use Rattle.packet_bytes.specs.Noted.{HasNoted, with_beat, with_word}
use Rattle.scenario_runs.specs.declared.bridges.noted.NotingReplies.{NotingReplies}
use Rattle.scenario_runs.specs.Noting.{HasNotedSince}

words_are : (words : List ℕ) (word : Option Word) → with_word words word ≡ run_word words word
words_are words None = refl
words_are words (Some word) = refl

pub noted_more : (first before after : NotingReplies) (beats : ℕ) (words : List ℕ) (taken : Bool) (word : Option Word) → after.replies.transfers ≡ before.replies.transfers
    → HasNoted (with_beat beats taken) (with_word words word) after.replies → HasNotedSince first before beats words → HasNotedSince first after (run_beat beats taken) (run_word words word)
noted_more first before after beats words taken word same noted since = record {
  transfers = same ∙ since.transfers;
  noted = subst (λ (ws : List ℕ). HasNoted (run_beat beats taken) ws after.replies) (words_are words word) noted;
}
