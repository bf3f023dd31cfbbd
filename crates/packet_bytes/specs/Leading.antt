-- Which packets so many write beats and words are enough for.
use Rattle.std.specs.Prelude.{ℕ, ◌*◌, ◌≤◌, List}
use Rattle.std.specs.List.{sum_by}
use Rattle.packet_bytes.specs.declared.gathering.Packet.{Packet}
use Rattle.packet_bytes.specs.Answers.{beats_due, all_words_due}

-- how many write beats packets wait for
abbrev pub all_beats_due : ℕ → List Packet → ℕ
all_beats_due word_bytes packets = sum_by (λ (packet : Packet). beats_due word_bytes packet.bytes) packets

-- so many write beats, and words of so many bytes, are enough for all of these packets
pub record AreEnough (word_bytes : ℕ) (packets : List Packet) (beats given : ℕ) : Type 0 where
  pub beats_come : all_beats_due word_bytes packets ≤ beats
  pub words_come : word_bytes * all_words_due word_bytes packets ≤ given
