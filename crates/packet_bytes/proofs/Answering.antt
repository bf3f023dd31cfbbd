-- What is noted beyond what packets wait for changes nothing.
use Rattle.std.proofs.Common.{◌≡◌, ℕ, zero, suc, ◌+◌, ◌-◌, ◌*◌, ◌/◌, ◌%◌, ◌^◌, ◌<◌, ◌≤◌, inl, inr, min, cond, Bool, true, false, List, [], ◌∷◌, ◌++◌, length, take, drop, Option, Some, None, refl, sym, ap, subst, ◌∙◌, length-append, arith}
use Rattle.std.specs.Prelude.{nat_le, ◌&&◌, slice_index}
use Rattle.std.specs.Int.{byte_at, bytes_low_first}
use Rattle.std.proofs.lemmas.List.{take_all, take-append-le, drop-append-le, take-append-drop, length-take-le, length-drop, flat_map_more}
use Rattle.std.proofs.lemmas.List.Concat.{flat_map-append}
use Rattle.std.proofs.lemmas.List.Sums.{sum_by-cons}
use Rattle.std.proofs.lemmas.Bool.{le-leb}
use Rattle.std.proofs.lemmas.Bool.Decides.{leb_tells}
use Rattle.marked_bytes.specs.Items.{Packet as Reply}
use Rattle.packet_bytes.specs.declared.codes.Code.{Code}
use Rattle.packet_bytes.specs.declared.codes.Code.TheVariants.{WriteFixed, WriteIncrementing, ReadFixed, ReadIncrementing, NoTransaction}
use Rattle.packet_bytes.specs.declared.gathering.Packet.{Packet}
use Rattle.packet_bytes.specs.Codes.{code_of, size_in, address_in}
use Rattle.packet_bytes.specs.Rules.{IsWordSize}
use Rattle.packet_bytes.specs.Counts.{words_of, command_count, commands_of}
use Rattle.packet_bytes.specs.Commands.{first_lane}
use Rattle.packet_bytes.specs.Leading.{all_beats_due}
use Rattle.packet_bytes.specs.Answers.{asks_to_write, beats_due, words_due, all_words_due, bytes_read, answer_by, answer, replies_of, bytes_of}

pub some_bytes : (n : ℕ) → IsWordSize n → 0 < n
some_bytes n (inl e) = omega arith
some_bytes n (inr (inl e)) = omega arith
some_bytes n (inr (inr (inl e))) = omega arith
some_bytes n (inr (inr (inr (inl e)))) = omega arith
some_bytes n (inr (inr (inr (inr e)))) = omega arith

pub most_bytes : (n : ℕ) → IsWordSize n → n ≤ 16
most_bytes n (inl e) = omega arith
most_bytes n (inr (inl e)) = omega arith
most_bytes n (inr (inr (inl e))) = omega arith
most_bytes n (inr (inr (inr (inl e)))) = omega arith
most_bytes n (inr (inr (inr (inr e)))) = omega arith

covers : (n word_bytes : ℕ) → 0 < word_bytes → n ≤ word_bytes * ((n + (word_bytes - 1)) / word_bytes)
covers n word_bytes h = omega arith

-- the bytes of a transaction stand in its words
pub within_words : (word_bytes : ℕ) (bytes : List ℕ) → IsWordSize word_bytes → first_lane word_bytes bytes + size_in bytes ≤ word_bytes * words_of word_bytes bytes
within_words word_bytes bytes h = covers (address_in bytes % word_bytes + size_in bytes) word_bytes (some_bytes word_bytes h)

-- ---- how much packets wait for

beats_few : (word_bytes : ℕ) (bytes : List ℕ) → beats_due word_bytes bytes ≤ command_count word_bytes bytes
beats_few word_bytes bytes = elim (asks_to_write (code_of (slice_index bytes 0))) as (λ b. cond b (command_count word_bytes bytes) 0 ≤ command_count word_bytes bytes) [
  | true ↦ omega arith
  | false ↦ omega arith
]

words_few : (word_bytes : ℕ) (bytes : List ℕ) → words_due word_bytes bytes ≤ command_count word_bytes bytes
words_few word_bytes bytes = elim (asks_to_write (code_of (slice_index bytes 0))) as (λ b. cond b 0 (command_count word_bytes bytes) ≤ command_count word_bytes bytes) [
  | true ↦ omega arith
  | false ↦ omega arith
]

pub all_beats_few : (word_bytes : ℕ) (packets : List Packet) → all_beats_due word_bytes packets ≤ commands_of word_bytes packets
all_beats_few word_bytes [] = omega arith
all_beats_few word_bytes (packet ∷ rest) =
    let one = beats_few word_bytes packet.bytes in
    let more = all_beats_few word_bytes rest in
    let e = sum_by-cons (λ (p : Packet). beats_due word_bytes p.bytes) packet rest in
    let f = sum_by-cons (λ (p : Packet). command_count word_bytes p.bytes) packet rest in
    omega arith

pub all_words_few : (word_bytes : ℕ) (packets : List Packet) → all_words_due word_bytes packets ≤ commands_of word_bytes packets
all_words_few word_bytes [] = omega arith
all_words_few word_bytes (packet ∷ rest) =
    let one = words_few word_bytes packet.bytes in
    let more = all_words_few word_bytes rest in
    let e = sum_by-cons (λ (p : Packet). words_due word_bytes p.bytes) packet rest in
    let f = sum_by-cons (λ (p : Packet). command_count word_bytes p.bytes) packet rest in
    omega arith

-- ---- more than they wait for

beats_past : (word_bytes : ℕ) (packets : List Packet) (one other : ℕ) (given : List ℕ) → all_beats_due word_bytes packets ≤ one → all_beats_due word_bytes packets ≤ other
    → replies_of word_bytes packets one given ≡ replies_of word_bytes packets other given
beats_past word_bytes [] one other given p q = refl
beats_past word_bytes (packet ∷ rest) one other given p q =
    let due = beats_due word_bytes packet.bytes in
    let needs = word_bytes * words_due word_bytes packet.bytes in
    let given_enough = nat_le needs (length given) in
    let e = sum_by-cons (λ (p : Packet). beats_due word_bytes p.bytes) packet rest in
    let first : nat_le due one ≡ true = le-leb due one (omega arith) in
    let second : nat_le due other ≡ true = le-leb due other (omega arith) in
    let more = beats_past word_bytes rest (one - due) (other - due) (drop needs given) (omega arith) (omega arith) in
    let reply : Reply = record { channel = packet.channel; bytes = answer word_bytes packet.bytes given } in
    let made : Bool → List Reply → List Reply = λ b replies. cond (b && given_enough) (reply ∷ replies) [] in
    ap (λ b. made b (replies_of word_bytes rest (one - due) (drop needs given))) first ∙ ap (made true) more
    ∙ ap (λ b. made b (replies_of word_bytes rest (other - due) (drop needs given))) (sym second)

read_past : (word_bytes : ℕ) (bytes given more : List ℕ) → IsWordSize word_bytes → word_bytes * words_of word_bytes bytes ≤ length given
    → bytes_read word_bytes bytes (given ++ more) ≡ bytes_read word_bytes bytes given
read_past word_bytes bytes given more w l =
    let first = first_lane word_bytes bytes in
    let size = size_in bytes in
    let within = within_words word_bytes bytes w in
    ap (take size) (drop-append-le first given more (omega arith)) ∙ take-append-le size (drop first given) more (omega (arith, length-drop first given))

answer_past : (word_bytes : ℕ) (bytes given more : List ℕ) → IsWordSize word_bytes → word_bytes * words_due word_bytes bytes ≤ length given
    → answer word_bytes bytes (given ++ more) ≡ answer word_bytes bytes given
answer_past word_bytes bytes given more w l =
    by (code_of (slice_index bytes 0)) refl l
  where
    by : (code : Option Code) → code_of (slice_index bytes 0) ≡ code → word_bytes * words_due word_bytes bytes ≤ length given → answer_by word_bytes bytes (given ++ more) code ≡ answer_by word_bytes bytes given code
    by None e l = refl
    by (Some WriteFixed) e l = refl
    by (Some WriteIncrementing) e l = refl
    by (Some NoTransaction) e l = refl
    by (Some ReadFixed) e l = read_past word_bytes bytes given more w (rw e at l)
    by (Some ReadIncrementing) e l = read_past word_bytes bytes given more w (rw e at l)

words_past : (word_bytes : ℕ) (packets : List Packet) (beats : ℕ) (given more : List ℕ) → IsWordSize word_bytes → word_bytes * all_words_due word_bytes packets ≤ length given
    → replies_of word_bytes packets beats (given ++ more) ≡ replies_of word_bytes packets beats given
words_past word_bytes [] beats given more w l = refl
words_past word_bytes (packet ∷ rest) beats given more w l =
    let due = beats_due word_bytes packet.bytes in
    let words = words_due word_bytes packet.bytes in
    let needs = word_bytes * words in
    let e = sum_by-cons (λ (p : Packet). words_due word_bytes p.bytes) packet rest in
    let both : word_bytes * (words + all_words_due word_bytes rest) ≤ length given = subst (λ n. word_bytes * n ≤ length given) e l in
    let enough : needs ≤ length given = omega arith in
    let enough_more : needs ≤ length (given ++ more) = omega (arith, length-append given more) in
    let left : word_bytes * all_words_due word_bytes rest ≤ length (drop needs given) = omega (arith, length-drop needs given) in
    let again = words_past word_bytes rest (beats - due) (drop needs given) more w left in
    let beats_enough = nat_le due beats in
    let made : Bool → List ℕ → List Reply → List Reply = λ b bytes replies. cond (beats_enough && b) (record { channel = packet.channel; bytes = bytes } ∷ replies) [] in
    let answered = answer word_bytes packet.bytes in
    let going : List ℕ → List Reply = replies_of word_bytes rest (beats - due) in
    ap (λ b. made b (answered (given ++ more)) (going (drop needs (given ++ more)))) (le-leb needs (length (given ++ more)) enough_more)
    ∙ ap (λ bytes. made true bytes (going (drop needs (given ++ more)))) (answer_past word_bytes packet.bytes given more w enough)
    ∙ ap (λ given. made true (answered given) (going (drop needs (given ++ more)))) refl
    ∙ ap (λ bytes. made true (answered given) (going bytes)) (drop-append-le needs given more enough)
    ∙ ap (made true (answered given)) again
    ∙ ap (λ b. made b (answered given) (going (drop needs given))) (sym (le-leb needs (length given) enough))

-- ---- the bytes of words

pub length-bytes_low_first : (from count n : ℕ) → length (bytes_low_first from count n) ≡ count
length-bytes_low_first from zero n = refl
length-bytes_low_first from (suc count) n = ap suc (length-bytes_low_first (suc from) count n)

pub take-bytes_low_first : (from most count n : ℕ) → count ≤ most → take count (bytes_low_first from most n) ≡ bytes_low_first from count n
take-bytes_low_first from most zero n h = refl
take-bytes_low_first from zero (suc count) n h = absurd (omega arith)
take-bytes_low_first from (suc most) (suc count) n h = ap (λ bytes. byte_at from n ∷ bytes) (take-bytes_low_first (suc from) most count n (omega arith))

length-bytes_of : (word_bytes : ℕ) (words : List ℕ) → length (bytes_of word_bytes words) ≡ word_bytes * length words
length-bytes_of word_bytes [] = omega arith
length-bytes_of word_bytes (word ∷ rest) =
    let more = length-bytes_of word_bytes rest in
    let one = length-bytes_low_first 0 word_bytes word in
    let both = length-append (bytes_low_first 0 word_bytes word) (bytes_of word_bytes rest) in
    let e : word_bytes * suc (length rest) ≡ word_bytes + word_bytes * length rest = omega arith in
    both ∙ ap (λ n. n + length (bytes_of word_bytes rest)) one ∙ ap (λ n. word_bytes + n) more ∙ sym e

-- words and write beats as far as they are due are enough
pub noted_enough : (word_bytes : ℕ) (packets : List Packet) (beats due : ℕ) (words : List ℕ) → IsWordSize word_bytes → commands_of word_bytes packets ≤ 4096 → due ≡ all_words_due word_bytes packets
    → replies_of word_bytes packets (min beats (2 ^ 32 - 1)) (bytes_of word_bytes (take due words)) ≡ replies_of word_bytes packets beats (bytes_of word_bytes words)
noted_enough word_bytes packets beats due words w few e =
    by_min ∙ by_words
  where
    all : bytes_of word_bytes words ≡ bytes_of word_bytes (take due words) ++ bytes_of word_bytes (drop due words)
    all = ap (bytes_of word_bytes) (sym (take-append-drop due words)) ∙ flat_map-append (bytes_low_first 0 word_bytes) (take due words) (drop due words)

    cut_long : due ≤ length words → replies_of word_bytes packets beats (bytes_of word_bytes (take due words)) ≡ replies_of word_bytes packets beats (bytes_of word_bytes words)
    cut_long l =
        let long : word_bytes * all_words_due word_bytes packets ≤ length (bytes_of word_bytes (take due words)) =
        let n = length-bytes_of word_bytes (take due words) ∙ ap (λ n. word_bytes * n) (length-take-le due words l ∙ e) in omega arith in
        sym (ap (replies_of word_bytes packets beats) all ∙ words_past word_bytes packets beats (bytes_of word_bytes (take due words)) (bytes_of word_bytes (drop due words)) w long)

    by_words : replies_of word_bytes packets beats (bytes_of word_bytes (take due words)) ≡ replies_of word_bytes packets beats (bytes_of word_bytes words)
    by_words = elim (leb_tells due (length words)) [
      | inl h ↦ cut_long h.1
      | inr h ↦ ap (λ ws. replies_of word_bytes packets beats (bytes_of word_bytes ws)) (take_all due words (let l = h.1 in omega arith))
    ]

    many : 2 ^ 32 - 1 ≤ beats → replies_of word_bytes packets (min beats (2 ^ 32 - 1)) (bytes_of word_bytes (take due words)) ≡ replies_of word_bytes packets beats (bytes_of word_bytes (take due words))
    many l =
        let most = all_beats_few word_bytes packets in
        beats_past word_bytes packets (min beats (2 ^ 32 - 1)) beats (bytes_of word_bytes (take due words)) (omega arith) (omega arith)

    by_min : replies_of word_bytes packets (min beats (2 ^ 32 - 1)) (bytes_of word_bytes (take due words)) ≡ replies_of word_bytes packets beats (bytes_of word_bytes (take due words))
    by_min = elim (leb_tells (2 ^ 32 - 1) beats) [
      | inl h ↦ many h.1
      | inr h ↦ (let m : min beats (2 ^ 32 - 1) ≡ beats = (let l = h.1 in omega arith) in ap (λ n. replies_of word_bytes packets n (bytes_of word_bytes (take due words))) m)
    ]

-- a word more of those that are due
pub bytes_noted : (word_bytes due word : ℕ) (words : List ℕ) → length words < due
    → bytes_of word_bytes (take due words) ++ bytes_low_first 0 word_bytes word ≡ bytes_of word_bytes (take due (words ++ word ∷ []))
bytes_noted word_bytes due word words l =
    let long = length-append words (word ∷ []) in
    let before : take due words ≡ words = take_all due words (omega arith) in
    let after : take due (words ++ word ∷ []) ≡ words ++ word ∷ [] = take_all due (words ++ word ∷ []) (omega arith) in
    ap (λ ws. bytes_of word_bytes ws ++ bytes_low_first 0 word_bytes word) before ∙ flat_map_more (bytes_low_first 0 word_bytes) [] words word ∙ ap (bytes_of word_bytes) (sym after)

-- and one past them
pub bytes_stay : (word_bytes due word : ℕ) (words : List ℕ) → due ≤ length words → bytes_of word_bytes (take due words) ≡ bytes_of word_bytes (take due (words ++ word ∷ []))
bytes_stay word_bytes due word words l = ap (bytes_of word_bytes) (sym (take-append-le due words (word ∷ []) l))
