-- Replies as they are sent, one after the other.
use Rattle.std.proofs.Common.{◌≡◌, ℕ, ◌-◌, ◌*◌, cond, Bool, true, false, List, [], ◌∷◌, ◌++◌, length, take, drop, refl, sym, ap, ◌∙◌}
use Rattle.std.specs.Prelude.{◌&&◌}
use Rattle.std.proofs.lemmas.List.{take_rest}
use Rattle.marked_bytes.specs.Items.{Packet as Reply}
use Rattle.marked_bytes.specs.Packing.{packed}
use Rattle.packet_bytes.specs.declared.gathering.Packet.{Packet}
use Rattle.packet_bytes.specs.Counts.{is_sized, are_sized}
use Rattle.packet_bytes.specs.Answers.{beats_due, words_due, answer, is_answered, replies_of, replies_text}

pub text_none : (word_bytes : ℕ) (packets rest : List Packet) (packet : Packet) (beats : ℕ) (given : List ℕ) → packets ≡ packet ∷ rest → is_answered word_bytes packet.bytes beats given ≡ false
    → replies_text (replies_of word_bytes packets beats given) ≡ []
text_none word_bytes packets rest packet beats given e f =
    let reply : Reply = record { channel = packet.channel; bytes = answer word_bytes packet.bytes given } in
    let more = replies_of word_bytes rest (beats - beats_due word_bytes packet.bytes) (drop (word_bytes * words_due word_bytes packet.bytes) given) in
    ap (λ ps. replies_text (replies_of word_bytes ps beats given)) e ∙ ap (λ b. replies_text (cond b (reply ∷ more) [])) f

pub text_more : (word_bytes : ℕ) (packets rest : List Packet) (packet : Packet) (beats : ℕ) (given : List ℕ) → packets ≡ packet ∷ rest → is_answered word_bytes packet.bytes beats given ≡ true
    → packed packet.channel (answer word_bytes packet.bytes given) ++ replies_text (replies_of word_bytes rest (beats - beats_due word_bytes packet.bytes) (drop (word_bytes * words_due word_bytes packet.bytes) given))
    ≡ replies_text (replies_of word_bytes packets beats given)
text_more word_bytes packets rest packet beats given e t =
    let reply : Reply = record { channel = packet.channel; bytes = answer word_bytes packet.bytes given } in
    let more = replies_of word_bytes rest (beats - beats_due word_bytes packet.bytes) (drop (word_bytes * words_due word_bytes packet.bytes) given) in
    sym (ap (λ ps. replies_text (replies_of word_bytes ps beats given)) e ∙ ap (λ b. replies_text (cond b (reply ∷ more) [])) t)

and_first : (a b : Bool) → (a && b) ≡ true → a ≡ true
and_first true b e = refl
and_first false b e = e

and_second : (a b : Bool) → (a && b) ≡ true → b ≡ true
and_second true b e = e
and_second false b e = cc

pub sized_first : (packets rest : List Packet) (packet : Packet) → packets ≡ packet ∷ rest → are_sized packets ≡ true → is_sized packet.bytes ≡ true
sized_first packets rest packet e h = and_first (is_sized packet.bytes) (are_sized rest) (sym (ap are_sized e) ∙ h)

pub sized_rest : (packets rest : List Packet) (packet : Packet) → packets ≡ packet ∷ rest → are_sized packets ≡ true → are_sized rest ≡ true
sized_rest packets rest packet e h = and_second (is_sized packet.bytes) (are_sized rest) (sym (ap are_sized e) ∙ h)

-- what is left of the words is what stands behind those of a packet
pub rest_is : (word_bytes : ℕ) (rest : List Packet) (bytes : List ℕ) (beats : ℕ) (given : List ℕ) (due words : ℕ) → due ≡ beats_due word_bytes bytes → words ≡ words_due word_bytes bytes
    → replies_text (replies_of word_bytes rest (beats - due) (take (length given - word_bytes * words) (drop (word_bytes * words) given)))
    ≡ replies_text (replies_of word_bytes rest (beats - beats_due word_bytes bytes) (drop (word_bytes * words_due word_bytes bytes) given))
rest_is word_bytes rest bytes beats given due words d w =
    ap (λ g. replies_text (replies_of word_bytes rest (beats - due) g)) (take_rest given (word_bytes * words))
    ∙ ap (λ n. replies_text (replies_of word_bytes rest (beats - n) (drop (word_bytes * words) given))) d
    ∙ ap (λ n. replies_text (replies_of word_bytes rest (beats - beats_due word_bytes bytes) (drop (word_bytes * n) given))) w
