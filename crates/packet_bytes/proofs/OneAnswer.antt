-- A stream is read in one way or has one first fault.
use Rattle.std.proofs.Common.{◌≡◌, inl, inr, ℕ, ◌+◌, ◌<◌, true, List, ◌∷◌, ◌++◌, length, take, drop, get_or, Some, None, sym, ap, subst, ◌∙◌, arith}
use Rattle.std.proofs.lemmas.List.{take-append-drop, drop_more, take-take, length-take-le, get_or-take}
use Rattle.std.proofs.lemmas.Bool.Decides.{leb_tells}
use Rattle.marked_bytes.specs.declared.unpacker.Unpacker.{Unpacker}
use Rattle.marked_bytes.specs.Items.{Item}
use Rattle.marked_bytes.specs.Unpacking.{are_items, IsFed, IsFaulty, IsWhole}
use Rattle.packet_bytes.specs.declared.gathering.Packet.{Packet}
use Rattle.packet_bytes.specs.declared.faults.PacketFault.{PacketFault}
use Rattle.packet_bytes.specs.declared.faults.PacketFault.TheVariants.{Refused}
use Rattle.packet_bytes.specs.declared.transfers.Transfers.{Transfers}
use Rattle.packet_bytes.specs.Gathering.{gathered}
use Rattle.packet_bytes.specs.Streams.{AreRead, IsFaultyAt, IsStreamFault}
use Rattle.packet_bytes.specs.Rules.{first_fault, AreTransfers, IsFaultOf}

-- what holds of marked bytes
pub record Laws : Type 0 where
  pub reading : (fed : List ℕ) (items others : List Item) (one other : Unpacker) → IsFed fed items one → IsFed fed others other → items ≡ others
  pub rule : (fed : List ℕ) (items others : List Item) (byte one other : ℕ) → IsFaulty fed items byte one → IsFaulty fed others byte other → one ≡ other
  pub before : (fed : List ℕ) (items : List Item) (byte rule : ℕ) → IsFaulty fed items byte rule → (unpacker : Unpacker) × IsFed fed items unpacker
  pub end : (fed more : List ℕ) (items others : List Item) (byte rule : ℕ) (unpacker : Unpacker) → IsFaulty fed items byte rule → ¬ IsFed (fed ++ byte ∷ more) others unpacker
  pub whole : (fed : List ℕ) (items : List Item) → are_items items ≡ true → IsWhole fed items → (unpacker : Unpacker) × IsFed fed items unpacker

-- a list by one of its elements
cut_at : (xs : List ℕ) (place : ℕ) → place < length xs → take place xs ++ get_or xs place 0 ∷ drop (place + 1) xs ≡ xs
cut_at xs place l = ap (λ rest. take place xs ++ rest) (sym (drop_more xs place 0 l)) ∙ take-append-drop place xs

-- what begins a stream up to a later place goes on behind this one
goes_past : (bytes : List ℕ) (place later : ℕ) → place < later → later < length bytes
    → take place bytes ++ get_or bytes place 0 ∷ drop (place + 1) (take later bytes) ≡ take later bytes
goes_past bytes place later l within =
    let long : length (take later bytes) ≡ later = length-take-le later bytes (omega arith) in
    ap (λ xs. xs ++ get_or bytes place 0 ∷ drop (place + 1) (take later bytes)) (sym (take-take place later bytes (omega arith)))
    ∙ ap (λ b. take place (take later bytes) ++ b ∷ drop (place + 1) (take later bytes)) (sym (get_or-take later bytes place 0 l))
    ∙ cut_at (take later bytes) place (omega arith)

read_fed : (laws : Laws) (bytes : List ℕ) (packets : List Packet) (h : AreRead bytes packets) → (unpacker : Unpacker) × IsFed bytes h.items unpacker
read_fed laws bytes packets h = laws.whole bytes h.items h.proper h.whole

pub same_packets : (laws : Laws) (bytes : List ℕ) (one other : List Packet) → AreRead bytes one → AreRead bytes other → one ≡ other
same_packets laws bytes one other h g =
    let f = read_fed laws bytes one h in
    let e = read_fed laws bytes other g in
    h.are ∙ ap (λ items. (gathered items).packets) (laws.reading bytes h.items g.items f.0 e.0 f.1 e.1) ∙ sym g.are

-- a fault within a stream, and a reading of all of it
fault_or_fed : (laws : Laws) (bytes : List ℕ) (place rule : ℕ) (items : List Item) (unpacker : Unpacker) → IsFaultyAt bytes place rule → IsFed bytes items unpacker → ⊥
fault_or_fed laws bytes place rule items unpacker h f =
    laws.end (take place bytes) (drop (place + 1) bytes) h.items items (get_or bytes place 0) rule unpacker h.faulty
    (subst (λ xs. IsFed xs items unpacker) (sym (cut_at bytes place h.within)) f)

pub never_both : (laws : Laws) (bytes : List ℕ) (packets : List Packet) (place rule : ℕ) → AreRead bytes packets → IsStreamFault bytes (Refused place rule) → ⊥
never_both laws bytes packets place rule r (inl h) = let f = read_fed laws bytes packets r in fault_or_fed laws bytes place rule r.items f.0 h f.1
never_both laws bytes packets place rule r (inr h) =
    let f = read_fed laws bytes packets r in
    let o = h.2 in
    o.open_still (subst (λ items. IsWhole bytes items) (laws.reading bytes r.items o.items f.0 o.unpacker f.1 o.fed) r.whole)

-- of two faults none comes first
not_before : (laws : Laws) (bytes : List ℕ) (place later rule other : ℕ) → IsFaultyAt bytes place rule → IsFaultyAt bytes later other → place < later → ⊥
not_before laws bytes place later rule other h g l =
    let f = laws.before (take later bytes) g.items (get_or bytes later 0) other g.faulty in
    laws.end (take place bytes) (drop (place + 1) (take later bytes)) h.items g.items (get_or bytes place 0) rule f.0 h.faulty
    (subst (λ xs. IsFed xs g.items f.0) (sym (goes_past bytes place later l g.within)) f.1)

same_place : (laws : Laws) (bytes : List ℕ) (place later rule other : ℕ) → IsFaultyAt bytes place rule → IsFaultyAt bytes later other → place ≡ later
same_place laws bytes place later rule other h g = elim (leb_tells (place + 1) later) [
  | inl l ↦ absurd (not_before laws bytes place later rule other h g (let a = l.1 in omega arith))
  | inr m ↦ elim (leb_tells (later + 1) place) [
    | inl l ↦ absurd (not_before laws bytes later place other rule g h (let a = l.1 in omega arith))
    | inr n ↦ (let a = m.1 in let b = n.1 in omega arith)
  ]
]

refused_same : (place later rule other : ℕ) → place ≡ later → rule ≡ other → Refused place rule ≡ Refused later other
refused_same place later rule other p r = ap (λ n. Refused n rule) p ∙ ap (Refused later) r

same_stream_fault : (laws : Laws) (bytes : List ℕ) (place later rule other : ℕ) → IsStreamFault bytes (Refused place rule) → IsStreamFault bytes (Refused later other)
    → Refused place rule ≡ Refused later other
same_stream_fault laws bytes place later rule other (inl h) (inl g) =
    let p = same_place laws bytes place later rule other h g in
    refused_same place later rule other p
    (laws.rule (take later bytes) h.items g.items (get_or bytes later 0) rule other (subst (λ n. IsFaulty (take n bytes) h.items (get_or bytes n 0) rule) p h.faulty) g.faulty)
same_stream_fault laws bytes place later rule other (inl h) (inr g) = absurd (fault_or_fed laws bytes place rule g.2.items g.2.unpacker h g.2.fed)
same_stream_fault laws bytes place later rule other (inr h) (inl g) = absurd (fault_or_fed laws bytes later other h.2.items h.2.unpacker g h.2.fed)
same_stream_fault laws bytes place later rule other (inr h) (inr g) = refused_same place later rule other (h.0 ∙ sym g.0) (h.1 ∙ sym g.1)

some_same : (one other : PacketFault) → Some one ≡ Some other → one ≡ other
some_same one other e = cc

none_or_some : (fault : PacketFault) → None ≡ Some fault → ⊥
none_or_some fault e = cc

pub one_fault : (laws : Laws) (word_bytes range : ℕ) (bytes : List ℕ) (place later rule other : ℕ) → IsFaultOf word_bytes range bytes (Refused place rule) → IsFaultOf word_bytes range bytes (Refused later other)
    → Refused place rule ≡ Refused later other
one_fault laws word_bytes range bytes place later rule other (inl h) (inl g) = same_stream_fault laws bytes place later rule other h g
one_fault laws word_bytes range bytes place later rule other (inl h) (inr g) = absurd (never_both laws bytes g.packets place rule g.read h)
one_fault laws word_bytes range bytes place later rule other (inr h) (inl g) = absurd (never_both laws bytes h.packets later other h.read g)
one_fault laws word_bytes range bytes place later rule other (inr h) (inr g) =
    some_same (Refused place rule) (Refused later other) (sym h.first ∙ ap (first_fault word_bytes range 0) (same_packets laws bytes h.packets g.packets h.read g.read) ∙ g.first)

pub packets_or_fault : (laws : Laws) (word_bytes range : ℕ) (bytes : List ℕ) (packets : List Packet) (place rule : ℕ) → AreRead bytes packets → first_fault word_bytes range 0 packets ≡ None
    → IsFaultOf word_bytes range bytes (Refused place rule) → ⊥
packets_or_fault laws word_bytes range bytes packets place rule read faultless (inl h) = never_both laws bytes packets place rule read h
packets_or_fault laws word_bytes range bytes packets place rule read faultless (inr h) =
    none_or_some (Refused place rule) (sym faultless ∙ ap (first_fault word_bytes range 0) (same_packets laws bytes packets h.packets read h.read) ∙ h.first)

pub transfers_or_fault : (laws : Laws) (word_bytes range : ℕ) (bytes : List ℕ) (transfers : Transfers) (place rule : ℕ) → AreTransfers word_bytes range bytes transfers → IsFaultOf word_bytes range bytes (Refused place rule) → ⊥
transfers_or_fault laws word_bytes range bytes transfers place rule t f = packets_or_fault laws word_bytes range bytes transfers.packets.items place rule t.read t.faultless f
