use Rattle.std.proofs.Common.{◌≡◌, ℕ, List, [], ◌∷◌, refl, ap, arith}
use Rattle.marked_bytes.specs.Items.{Spelled, Mark, Packet}
use Rattle.marked_bytes.proofs.Packets.{one_unpacking}
use Rattle.marked_bytes.proofs.laws.unpacked_bytes.Goals as goal

pub returns-clause-escaped : goal.returns-clause-escaped
returns-clause-escaped c = record {
  items = record { marks = Mark.IsFirst ∷ []; byte = Spelled.Itself 0x7f } ∷ record { marks = Mark.IsLast ∷ []; byte = Spelled.Escaped 0x5a } ∷ [];
  spelled = refl;
  proper = refl;
  made = refl;
  whole = refl;
}

pub returns-clause-lasting : goal.returns-clause-lasting
returns-clause-lasting c = record {
  items = record { marks = Mark.OnChannel (Spelled.Itself 5) ∷ Mark.IsFirst ∷ Mark.IsLast ∷ []; byte = Spelled.Itself 1 } ∷ record { marks = Mark.IsLast ∷ Mark.IsFirst ∷ []; byte = Spelled.Itself 2 } ∷ [];
  spelled = refl;
  proper = refl;
  made = refl;
  whole = refl;
}

pub returns-clause-last_channel : goal.returns-clause-last_channel
returns-clause-last_channel c = record {
  items = record { marks = Mark.OnChannel (Spelled.Itself 5) ∷ Mark.IsFirst ∷ Mark.OnChannel (Spelled.Itself 6) ∷ Mark.IsLast ∷ []; byte = Spelled.Itself 1 } ∷ [];
  spelled = refl;
  proper = refl;
  made = refl;
  whole = refl;
}

pub returns-clause-escaped_plain : goal.returns-clause-escaped_plain
returns-clause-escaped_plain c = record {
  items = record { marks = Mark.IsFirst ∷ Mark.IsLast ∷ []; byte = Spelled.Escaped 0x21 } ∷ [];
  spelled = refl;
  proper = refl;
  made = refl;
  whole = refl;
}

first_of : List ℕ → ℕ
first_of [] = 0
first_of (byte ∷ rest) = byte

first_byte : List Packet → ℕ
first_byte [] = 0
first_byte (packet ∷ rest) = first_of packet.bytes

different : (a b : ℕ) → a ≡ 0x21 → b ≡ 1 → a ≡ b → ⊥
different a b p q e = omega arith

pub returns-clause-turned : goal.returns-clause-turned
unfolding first_byte first_of
returns-clause-turned c = λ h.
    different 0x21 1 refl refl
    (ap first_byte (one_unpacking (0x7a ∷ 0x7b ∷ 0x7d ∷ 0x21 ∷ []) (record { channel = 0; bytes = 0x21 ∷ [] } ∷ []) (record { channel = 0; bytes = 1 ∷ [] } ∷ []) h (returns-clause-escaped_plain c)))
