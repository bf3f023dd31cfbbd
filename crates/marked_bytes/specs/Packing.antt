-- Packets as marked bytes.
use Rattle.std.specs.Prelude.{◌≡◌, ℕ, ◌^◌, ◌<◌, ◌≤◌, Bool, bit_xor, List, [], ◌∷◌, ◌++◌, length, take, flat_map, Option, if◌then◌else◌}
use Rattle.std.specs.Bool.{OnTrue, OnFalse}
use Rattle.av_files.specs.Outside.{Rose, with_more}
use Rattle.marked_bytes.specs.Symbols.{is_plain}

-- a byte by itself where it stands for itself, and else behind an escape
abbrev pub spelled_byte : ℕ → List ℕ
spelled_byte byte = if is_plain byte then byte ∷ [] else 0x7d ∷ bit_xor byte 0x20 ∷ []

abbrev pub spelled_bytes : List ℕ → List ℕ
spelled_bytes bytes = flat_map spelled_byte bytes

-- the bytes of a packet, the last one behind its mark
abbrev pub body : List ℕ → List ℕ
body [] = []
body (byte ∷ []) = 0x7b ∷ spelled_byte byte
body (byte ∷ next ∷ rest) = spelled_byte byte ++ body (next ∷ rest)

-- a packet: the mark of its channel, that of a first byte, and its bytes
abbrev pub packed : ℕ → List ℕ → List ℕ
packed channel bytes = 0x7c ∷ spelled_byte channel ++ (0x7a ∷ body bytes)

-- what a call did that writes a text to a sink: where it answers true, the sink holds it besides, and else a proper part of it,
-- from its beginning on, and a fault was counted. No count falls, or goes past its last value.
pub record Writes (text : List ℕ) (held holds : Option (List ℕ)) (before after : ℕ) (whole : Bool) : Type 0 where
  pub all : OnTrue whole (holds ≡ with_more held text)
  pub part : OnFalse whole ((count : ℕ) × (count < length text) × (holds ≡ with_more held (take count text)))
  pub rose : OnFalse whole (Rose before after)
  pub grows : before ≤ after
  pub below : before < 2 ^ 64 → after < 2 ^ 64
