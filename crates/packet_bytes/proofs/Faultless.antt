-- What is known of packets without a fault.
use Rattle.std.proofs.Common.{◌≡◌, ℕ, ◌+◌, ◌≤◌, cond, Bool, true, false, List, [], ◌∷◌, Option, Some, None, refl, ap, ◌∙◌, arith}
use Rattle.std.specs.Prelude.{nat_lt, not, ◌==◌, ◌&&◌, slice_index, length}
use Rattle.std.proofs.lemmas.Bool.Decides.{nat_tests}
use Rattle.std.proofs.lemmas.List.Sums.{sum_by-cons}
use Rattle.packet_bytes.specs.declared.codes.Code.{Code}
use Rattle.packet_bytes.specs.declared.codes.Code.TheVariants.{WriteFixed, WriteIncrementing, ReadFixed, ReadIncrementing, NoTransaction}
use Rattle.packet_bytes.specs.declared.gathering.Packet.{Packet}
use Rattle.packet_bytes.specs.declared.faults.PacketFault.{PacketFault}
use Rattle.packet_bytes.specs.declared.faults.PacketFault.TheVariants.{Refused}
use Rattle.packet_bytes.specs.Codes.{code_of, size_in}
use Rattle.packet_bytes.specs.Counts.{words_of, commands_by, command_count, commands_of, is_sized_by, are_sized}
use Rattle.packet_bytes.specs.Rules.{due_length, is_in_place, most_commands, transaction_fault, fault_by, packet_fault, or_later, first_fault}

pub record IsSound (word_bytes before : ℕ) (bytes : List ℕ) (code : Option Code) : Type 0 where
  pub sized : is_sized_by bytes code ≡ true
  pub few : before + commands_by word_bytes bytes code ≤ 4096

none_not_some : {A : Type 0} {x : A} → Some x ≡ None → ⊥
none_not_some e = cc

transaction_sound : (word_bytes range before : ℕ) (packet : Packet) (code : Code) → transaction_fault word_bytes range before packet code ≡ None
    → (not (size_in packet.bytes == 0) ≡ true) × (before + words_of word_bytes packet.bytes ≤ 4096)
transaction_sound word_bytes range before packet code h =
    by (not (size_in packet.bytes == 0)) (length packet.bytes == due_length code (size_in packet.bytes)) (is_in_place word_bytes range code packet.bytes) (nat_lt most_commands (before + words_of word_bytes packet.bytes)) refl refl h
  where
    by : (sized long placed many : Bool) → not (size_in packet.bytes == 0) ≡ sized → nat_lt most_commands (before + words_of word_bytes packet.bytes) ≡ many
        → cond (sized && long) (cond placed (cond many (Some (Refused packet.first_place 7)) None) (Some (Refused packet.first_place 6))) (Some (Refused packet.last_place 5)) ≡ None
        → (not (size_in packet.bytes == 0) ≡ true) × (before + words_of word_bytes packet.bytes ≤ 4096)
    by true true true false s m h = (s, grind (arith, nat_tests))
    by true true true true s m h = absurd (none_not_some h)
    by true true false many s m h = absurd (none_not_some h)
    by true false placed many s m h = absurd (none_not_some h)
    by false long placed many s m h = absurd (none_not_some h)

sound_by : (word_bytes range before : ℕ) (packet : Packet) (code : Option Code) → before ≤ 4096 → fault_by word_bytes range before packet code ≡ None → IsSound word_bytes before packet.bytes code
sound_by word_bytes range before packet None l h = absurd (none_not_some h)
sound_by word_bytes range before packet (Some WriteFixed) l h = let s = transaction_sound word_bytes range before packet WriteFixed h in record { sized = s.0; few = s.1 }
sound_by word_bytes range before packet (Some WriteIncrementing) l h = let s = transaction_sound word_bytes range before packet WriteIncrementing h in record { sized = s.0; few = s.1 }
sound_by word_bytes range before packet (Some ReadFixed) l h = let s = transaction_sound word_bytes range before packet ReadFixed h in record { sized = s.0; few = s.1 }
sound_by word_bytes range before packet (Some ReadIncrementing) l h = let s = transaction_sound word_bytes range before packet ReadIncrementing h in record { sized = s.0; few = s.1 }
sound_by word_bytes range before packet (Some NoTransaction) l h = record { sized = refl; few = omega arith }

first_none : (one later : Option PacketFault) → or_later one later ≡ None → (one ≡ None) × (later ≡ None)
first_none None later h = (refl, h)
first_none (Some fault) later h = absurd (none_not_some h)

pub record AreSound (word_bytes before : ℕ) (packets : List Packet) : Type 0 where
  pub sized : are_sized packets ≡ true
  pub few : before + commands_of word_bytes packets ≤ 4096

pub all_sound : (word_bytes range before : ℕ) (packets : List Packet) → before ≤ 4096 → first_fault word_bytes range before packets ≡ None → AreSound word_bytes before packets
all_sound word_bytes range before [] l h = record { sized = refl; few = omega arith }
all_sound word_bytes range before (packet ∷ rest) l h =
    let both = first_none (packet_fault word_bytes range before packet) (first_fault word_bytes range (before + command_count word_bytes packet.bytes) rest) h in
    let one = sound_by word_bytes range before packet (code_of (slice_index packet.bytes 0)) l both.0 in
    let more = all_sound word_bytes range (before + command_count word_bytes packet.bytes) rest one.few both.1 in
    let e = sum_by-cons (λ (p : Packet). command_count word_bytes p.bytes) packet rest in
    record {
      sized = ap (λ b. b && are_sized rest) one.sized ∙ more.sized;
      few = let a = more.few in omega arith;
    }
