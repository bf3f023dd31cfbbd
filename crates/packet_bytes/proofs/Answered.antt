-- Each stream is read, or has a first fault.
use Rattle.std.proofs.Common.{◌≡◌, ◌⊎◌, ℕ, suc, ◌+◌, ◌<◌, Bool, true, false, cond, inl, inr, List, [], ◌∷◌, ◌++◌, length, take, Option, Some, None, refl, sym, ap, subst, ◌∙◌, append_assoc, append-nil, length-append, arith}
use Rattle.std.specs.Prelude.{slice_index}
use Rattle.marked_bytes.specs.declared.unpacker.Unpacker.{Unpacker}
use Rattle.marked_bytes.specs.Items.{Item}
use Rattle.marked_bytes.specs.Unpacking.{IsFed, IsWhole, IsFaulty, are_items}
use Rattle.packet_bytes.specs.declared.codes.Code.{Code}
use Rattle.packet_bytes.specs.declared.codes.Code.TheVariants.{WriteFixed, WriteIncrementing, ReadFixed, ReadIncrementing, NoTransaction}
use Rattle.packet_bytes.specs.declared.gathering.Packet.{Packet}
use Rattle.packet_bytes.specs.declared.faults.PacketFault.{PacketFault}
use Rattle.packet_bytes.specs.declared.faults.PacketFault.TheVariants.{Refused, NoMemory}
use Rattle.packet_bytes.specs.Codes.{code_of}
use Rattle.packet_bytes.specs.Counts.{command_count}
use Rattle.packet_bytes.specs.Gathering.{gathered}
use Rattle.packet_bytes.specs.Streams.{AreRead, IsFaultyAt, IsOpen, IsStreamFault}
use Rattle.packet_bytes.specs.Rules.{has_length, is_in_place, transaction_fault, fault_by, packet_fault, or_later, first_fault, IsPacketFault, IsFaultOf}

-- the byte behind what was fed goes on, or is at fault
abbrev pub GoesOn : Type 0
GoesOn = (fed : List ℕ) (items : List Item) (unpacker : Unpacker) (byte : ℕ) → IsFed fed items unpacker
    → ((others : List Item) × (after : Unpacker) × IsFed (fed ++ byte ∷ []) others after) ⊎ ((rule : ℕ) × IsFaulty fed items byte rule)

-- what was fed is whole packets, or isn't
abbrev pub Ends : Type 0
Ends = (fed : List ℕ) (items : List Item) (unpacker : Unpacker) → IsFed fed items unpacker → IsWhole fed items ⊎ (¬ IsWhole fed items)

-- ---- streams

-- packets, or the first fault of a stream
abbrev StreamAnswer : List ℕ → Type 0
StreamAnswer bytes = ((packets : List Packet) × AreRead bytes packets) ⊎ ((place : ℕ) × (rule : ℕ) × IsStreamFault bytes (Refused place rule))

take_front : (one other : List ℕ) → take (length one) (one ++ other) ≡ one
take_front [] other = refl
take_front (x ∷ one) other = ap (λ (xs : List ℕ). x ∷ xs) (take_front one other)

at_seam : (one other : List ℕ) (byte : ℕ) → slice_index (one ++ byte ∷ other) (length one) ≡ byte
at_seam [] other byte = refl
at_seam (x ∷ one) other byte = at_seam one other byte

broken : (fed more : List ℕ) (items : List Item) (byte rule : ℕ) → IsFaulty fed items byte rule → StreamAnswer (fed ++ byte ∷ more)
broken fed more items byte rule faulty = inr (
  length fed,
  rule,
  inl (record {
    items = items;
    within = omega (arith, length-append fed (byte ∷ more));
    faulty = subst (λ (b : ℕ). IsFaulty (take (length fed) (fed ++ byte ∷ more)) items b rule) (sym (at_seam fed more byte)) (subst (λ (f : List ℕ). IsFaulty f items byte rule) (sym (take_front fed (byte ∷ more))) faulty);
  }),
)

ended : (fed : List ℕ) (items : List Item) (unpacker : Unpacker) → IsFed fed items unpacker → IsWhole fed items ⊎ (¬ IsWhole fed items) → StreamAnswer fed
ended fed items unpacker is (inl whole) = inl ((gathered items).packets, record { items = items; proper = is.proper; whole = whole; are = refl })
ended fed items unpacker is (inr open_still) = inr (length fed, 3, inr (refl, refl, record { items = items; unpacker = unpacker; fed = is; open_still = open_still }))

walk : GoesOn → Ends → (fed rest : List ℕ) (items : List Item) (unpacker : Unpacker) → IsFed fed items unpacker → StreamAnswer (fed ++ rest)
walk next end fed [] items unpacker is = subst StreamAnswer (sym (append-nil fed)) (ended fed items unpacker is (end fed items unpacker is))
walk next end fed (byte ∷ more) items unpacker is = elim (next fed items unpacker byte is) [
  | inl on ↦ subst StreamAnswer (append_assoc fed (byte ∷ []) more) (walk next end (fed ++ byte ∷ []) more on.0 on.1 on.2)
  | inr bad ↦ broken fed more items byte bad.0 bad.1
]

-- ---- their packets

-- a fault of packets is at a byte
abbrev IsPlaced : Option PacketFault → Type 0
IsPlaced None = Unit {0}
IsPlaced (Some (Refused place rule)) = Unit {0}
IsPlaced (Some NoMemory) = ⊥

placed_by : (a b d : Bool) (x y z p q r : ℕ) → IsPlaced (cond a (cond b (cond d (Some (Refused x p)) None) (Some (Refused y q))) (Some (Refused z r)))
placed_by true true true x y z p q r = tt
placed_by true true false x y z p q r = tt
placed_by true false d x y z p q r = tt
placed_by false b d x y z p q r = tt

code_placed : (word_bytes range before : ℕ) (packet : Packet) (code : Option Code) → IsPlaced (fault_by word_bytes range before packet code)
code_placed word_bytes range before packet None = tt
code_placed word_bytes range before packet (Some WriteFixed) = placed_by (has_length WriteFixed packet.bytes) (is_in_place word_bytes range WriteFixed packet.bytes) _ _ _ _ _ _ _
code_placed word_bytes range before packet (Some WriteIncrementing) = placed_by (has_length WriteIncrementing packet.bytes) (is_in_place word_bytes range WriteIncrementing packet.bytes) _ _ _ _ _ _ _
code_placed word_bytes range before packet (Some ReadFixed) = placed_by (has_length ReadFixed packet.bytes) (is_in_place word_bytes range ReadFixed packet.bytes) _ _ _ _ _ _ _
code_placed word_bytes range before packet (Some ReadIncrementing) = placed_by (has_length ReadIncrementing packet.bytes) (is_in_place word_bytes range ReadIncrementing packet.bytes) _ _ _ _ _ _ _
code_placed word_bytes range before packet (Some NoTransaction) = tt

first_placed : (one later : Option PacketFault) → IsPlaced one → IsPlaced later → IsPlaced (or_later one later)
first_placed (Some fault) later h g = h
first_placed None later h g = g

all_placed : (word_bytes range before : ℕ) (packets : List Packet) → IsPlaced (first_fault word_bytes range before packets)
all_placed word_bytes range before [] = tt
all_placed word_bytes range before (packet ∷ rest) =
    first_placed (packet_fault word_bytes range before packet) (first_fault word_bytes range (before + command_count word_bytes packet.bytes) rest)
    (code_placed word_bytes range before packet (code_of (slice_index packet.bytes 0))) (all_placed word_bytes range (before + command_count word_bytes packet.bytes) rest)

-- packets that break no rule, or the first fault of all
abbrev pub ReadAnswer : ℕ → ℕ → List ℕ → Type 0
ReadAnswer word_bytes range bytes =
    ((packets : List Packet) × AreRead bytes packets × (first_fault word_bytes range 0 packets ≡ None)) ⊎ ((place : ℕ) × (rule : ℕ) × IsFaultOf word_bytes range bytes (Refused place rule))

judged : (word_bytes range : ℕ) (bytes : List ℕ) (packets : List Packet) (o : Option PacketFault) → AreRead bytes packets → first_fault word_bytes range 0 packets ≡ o → IsPlaced o → ReadAnswer word_bytes range bytes
judged word_bytes range bytes packets None read e placed = inl (packets, read, e)
judged word_bytes range bytes packets (Some (Refused place rule)) read e placed = inr (place, rule, inr (record { packets = packets; read = read; first = e }))
judged word_bytes range bytes packets (Some NoMemory) read e placed = absurd placed

pub answered : GoesOn → Ends → (first : (unpacker : Unpacker) × IsFed [] [] unpacker) (word_bytes range : ℕ) (bytes : List ℕ) → ReadAnswer word_bytes range bytes
answered next end first word_bytes range bytes = elim (walk next end [] bytes [] first.0 first.1) [
  | inl read ↦ judged word_bytes range bytes read.0 (first_fault word_bytes range 0 read.0) read.1 refl (all_placed word_bytes range 0 read.0)
  | inr fault ↦ inr (fault.0, fault.1, inl fault.2)
]
