-- What was noted of a run.
use Rattle.std.specs.Prelude.{◌≡◌, ℕ, ◌+◌, ◌-◌, ◌^◌, Bool, min, List, [], ◌∷◌, ◌++◌, length, take, Option, Some, None, if◌then◌else◌}
use Rattle.av_base.specs.Word.{Word}
use Rattle.packet_bytes.specs.declared.transfers.Transfers.{Transfers}
use Rattle.packet_bytes.specs.declared.replies.Replies.{Replies}
use Rattle.packet_bytes.specs.Answers.{replies_of, replies_text, bytes_of}

-- what is sent to transactions once so many write beats were accepted and these words given
abbrev pub sent : Transfers → ℕ → List ℕ → List ℕ
sent transfers beats words =
    replies_text (replies_of transfers.word_bytes transfers.packets.items beats (bytes_of transfers.word_bytes words))

-- so many write beats were noted, and these words
pub record HasNoted (beats : ℕ) (words : List ℕ) (replies : Replies) : Type 0 where
  pub beats_are : replies.beats ≡ min beats (2 ^ 32 - 1)
  pub bytes_are : replies.bytes.items ≡ bytes_of replies.transfers.word_bytes (take replies.due words)
  pub count : replies.words ≡ min replies.due (length words)

-- a cycle's write beat and word, behind those before it
abbrev pub with_beat : ℕ → Bool → ℕ
with_beat beats taken = if taken then beats + 1 else beats

abbrev pub with_word : List ℕ → Option Word → List ℕ
with_word words None = words
with_word words (Some word) = words ++ word.bits ∷ []
