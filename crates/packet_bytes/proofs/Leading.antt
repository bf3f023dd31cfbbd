-- Which packets are answered.
use Rattle.std.proofs.Common.{◌≡◌, ℕ, zero, suc, ◌+◌, ◌-◌, ◌*◌, ◌<◌, ◌≤◌, cond, Bool, true, false, List, [], ◌∷◌, length, take, drop, refl, sym, ap, subst, ◌∙◌, arith}
use Rattle.std.specs.Prelude.{nat_le, ◌↔◌}
use Rattle.std.proofs.lemmas.Bool.{le-leb, leb-true, and_parts, and_from}
use Rattle.std.proofs.lemmas.List.{length-drop}
use Rattle.std.proofs.lemmas.List.Sums.{sum_by-cons}
use Rattle.marked_bytes.specs.Items.{Packet as Reply}
use Rattle.packet_bytes.specs.declared.gathering.Packet.{Packet}
use Rattle.packet_bytes.specs.Answers.{beats_due, words_due, all_words_due, answer, is_answered, replies_of}
use Rattle.packet_bytes.specs.Leading.{all_beats_due, AreEnough}

some_left : (c : Bool) (k : ℕ) (reply : Reply) (more : List Reply) → k < length (cond c (reply ∷ more) []) → (c ≡ true) × (k < suc (length more))
some_left true k reply more l = (refl, l)
some_left false k reply more l = absurd (omega arith)

beats_more : (word_bytes : ℕ) (packet : Packet) (rest : List Packet) → all_beats_due word_bytes (packet ∷ rest) ≡ beats_due word_bytes packet.bytes + all_beats_due word_bytes rest
beats_more word_bytes packet rest = sum_by-cons (λ (p : Packet). beats_due word_bytes p.bytes) packet rest

words_more : (word_bytes : ℕ) (packet : Packet) (rest : List Packet) → word_bytes * all_words_due word_bytes (packet ∷ rest) ≡ word_bytes * words_due word_bytes packet.bytes + word_bytes * all_words_due word_bytes rest
words_more word_bytes packet rest =
    let e = ap (λ n. word_bytes * n) (sum_by-cons (λ (p : Packet). words_due word_bytes p.bytes) packet rest) in
    let d : word_bytes * (words_due word_bytes packet.bytes + all_words_due word_bytes rest) ≡ word_bytes * words_due word_bytes packet.bytes + word_bytes * all_words_due word_bytes rest = omega arith in
    e ∙ d

-- enough for a packet and for those behind it
enough_more : (word_bytes : ℕ) (packet : Packet) (rest : List Packet) (beats : ℕ) (given : List ℕ) → is_answered word_bytes packet.bytes beats given ≡ true
    → AreEnough word_bytes rest (beats - beats_due word_bytes packet.bytes) (length (drop (word_bytes * words_due word_bytes packet.bytes) given)) → AreEnough word_bytes (packet ∷ rest) beats (length given)
enough_more word_bytes packet rest beats given a h =
    let due = beats_due word_bytes packet.bytes in
    let needs = word_bytes * words_due word_bytes packet.bytes in
    let both = and_parts (nat_le due beats) (nat_le needs (length given)) a in
    let first : due ≤ beats = leb-true due beats both.0 in
    let second : needs ≤ length given = leb-true needs (length given) both.1 in
    let b = beats_more word_bytes packet rest in
    let w = words_more word_bytes packet rest in
    let x = h.beats_come in
    let y = h.words_come in
    record { beats_come = omega arith; words_come = omega (arith, length-drop needs given) }

enough_first : (word_bytes : ℕ) (packet : Packet) (rest : List Packet) (beats : ℕ) (given : List ℕ) → AreEnough word_bytes (packet ∷ rest) beats (length given)
    → (is_answered word_bytes packet.bytes beats given ≡ true) × AreEnough word_bytes rest (beats - beats_due word_bytes packet.bytes) (length (drop (word_bytes * words_due word_bytes packet.bytes) given))
enough_first word_bytes packet rest beats given h =
    let due = beats_due word_bytes packet.bytes in
    let needs = word_bytes * words_due word_bytes packet.bytes in
    let b = beats_more word_bytes packet rest in
    let w = words_more word_bytes packet rest in
    let x = h.beats_come in
    let y = h.words_come in (
      and_from (nat_le due beats) (nat_le needs (length given)) (le-leb due beats (omega arith)) (le-leb needs (length given) (omega arith)),
      record { beats_come = omega arith; words_come = omega (arith, length-drop needs given) },
    )

pub answered_enough : (word_bytes : ℕ) (packets : List Packet) (beats : ℕ) (given : List ℕ) (k : ℕ) → k < length (replies_of word_bytes packets beats given) → AreEnough word_bytes (take (suc k) packets) beats (length given)
answered_enough word_bytes [] beats given k l = absurd (omega arith)
answered_enough word_bytes (packet ∷ rest) beats given zero l =
    let reply : Reply = record { channel = packet.channel; bytes = answer word_bytes packet.bytes given } in
    let behind = replies_of word_bytes rest (beats - beats_due word_bytes packet.bytes) (drop (word_bytes * words_due word_bytes packet.bytes) given) in
    let one = some_left (is_answered word_bytes packet.bytes beats given) 0 reply behind l in
    enough_more word_bytes packet [] beats given one.0 (record { beats_come = omega arith; words_come = omega arith })
answered_enough word_bytes (packet ∷ rest) beats given (suc k) l =
    let reply : Reply = record { channel = packet.channel; bytes = answer word_bytes packet.bytes given } in
    let behind = replies_of word_bytes rest (beats - beats_due word_bytes packet.bytes) (drop (word_bytes * words_due word_bytes packet.bytes) given) in
    let one = some_left (is_answered word_bytes packet.bytes beats given) (suc k) reply behind l in
    let less : k < length behind = let m = one.1 in omega arith in
    enough_more word_bytes packet (take (suc k) rest) beats given one.0
    (answered_enough word_bytes rest (beats - beats_due word_bytes packet.bytes) (drop (word_bytes * words_due word_bytes packet.bytes) given) k less)

pub enough_answered : (word_bytes : ℕ) (packets : List Packet) (beats : ℕ) (given : List ℕ) (k : ℕ) → k < length packets → AreEnough word_bytes (take (suc k) packets) beats (length given)
    → k < length (replies_of word_bytes packets beats given)
enough_answered word_bytes [] beats given k l h = absurd (omega arith)
enough_answered word_bytes (packet ∷ rest) beats given zero l h =
    let reply : Reply = record { channel = packet.channel; bytes = answer word_bytes packet.bytes given } in
    let behind = replies_of word_bytes rest (beats - beats_due word_bytes packet.bytes) (drop (word_bytes * words_due word_bytes packet.bytes) given) in
    let one = enough_first word_bytes packet [] beats given h in
    subst (λ c. 0 < length (cond c (reply ∷ behind) [])) (sym one.0) (omega arith)
enough_answered word_bytes (packet ∷ rest) beats given (suc k) l h =
    let reply : Reply = record { channel = packet.channel; bytes = answer word_bytes packet.bytes given } in
    let behind = replies_of word_bytes rest (beats - beats_due word_bytes packet.bytes) (drop (word_bytes * words_due word_bytes packet.bytes) given) in
    let one = enough_first word_bytes packet (take (suc k) rest) beats given h in
    let less : k < length behind =
    enough_answered word_bytes rest (beats - beats_due word_bytes packet.bytes) (drop (word_bytes * words_due word_bytes packet.bytes) given) k (omega arith) one.1 in
    subst (λ c. suc k < length (cond c (reply ∷ behind) [])) (sym one.0) (omega arith)

pub answered : (word_bytes : ℕ) (packets : List Packet) (beats : ℕ) (given : List ℕ) (k : ℕ) → k < length packets
    → (k < length (replies_of word_bytes packets beats given) ↔ AreEnough word_bytes (take (k + 1) packets) beats (length given))
answered word_bytes packets beats given k l =
    let e : suc k ≡ k + 1 = omega arith in (
      λ h. subst (λ n. AreEnough word_bytes (take n packets) beats (length given)) e (answered_enough word_bytes packets beats given k h),
      λ h. enough_answered word_bytes packets beats given k l (subst (λ n. AreEnough word_bytes (take n packets) beats (length given)) (sym e) h),
    )

pub not_more : (word_bytes : ℕ) (packets : List Packet) (beats : ℕ) (given : List ℕ) → length (replies_of word_bytes packets beats given) ≤ length packets
not_more word_bytes [] beats given = omega arith
not_more word_bytes (packet ∷ rest) beats given =
    let reply : Reply = record { channel = packet.channel; bytes = answer word_bytes packet.bytes given } in
    let behind = replies_of word_bytes rest (beats - beats_due word_bytes packet.bytes) (drop (word_bytes * words_due word_bytes packet.bytes) given) in
    let few = not_more word_bytes rest (beats - beats_due word_bytes packet.bytes) (drop (word_bytes * words_due word_bytes packet.bytes) given) in
    by reply behind (is_answered word_bytes packet.bytes beats given) few
  where
    by : (reply : Reply) (behind : List Reply) (c : Bool) → length behind ≤ length rest → length (cond c (reply ∷ behind) []) ≤ suc (length rest)
    by reply behind true few = omega arith
    by reply behind false few = omega arith
