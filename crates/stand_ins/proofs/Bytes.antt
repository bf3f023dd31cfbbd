-- The bytes of a memory behind writes of a word.
use Rattle.std.proofs.Common.{◌≡◌, ◌+◌, ◌-◌, ◌*◌, ◌/◌, ◌%◌, ◌^◌, ◌<◌, ◌≤◌, ◌≢◌, ℕ, zero, suc, Bool, true, false, nat_eq, List, [], ◌∷◌, length, map, filter, slice_index, slice_set, if◌then◌else◌}
use Rattle.std.proofs.Common.{refl, sym, ap, ◌∙◌, subst, arith, get_or-set_other, get_or-set_same, add-one, replicate, eq-eqb, mul_comm, add-zero, zero-add, Result, Ok, Err}
use Rattle.std.proofs.Math.Path.{fun_ext}
use Rattle.std.proofs.lemmas.Nat.{div-mul-add, mod-mul-add}
use Rattle.std.proofs.Math.Nat.{div-add-mod, pow-succ', pow-le-pow_right}
use Rattle.std.proofs.lemmas.Bool.Decides.{nat_tests}
use Rattle.std.specs.Result.{IsOk, OnOk}
use Rattle.histories.specs.History.{numbers}
use Rattle.memory_runs.specs.Operations.{is_enabled, byte_at, written, memory_after}
use Rattle.stand_ins.specs.Contents.{number_of}
use Rattle.stand_ins.specs.declared.memory.StoredWord.{StoredWord}
use Rattle.stand_ins.specs.Memory.{MemoryValue, bytes_of_word, contents_of, with_bytes, lane_write, lane_writes}
use Rattle.stand_ins.proofs.Words.{IsStored}

own_at : (memory : MemoryValue) (number place : ℕ) (same : Bool) → (same ≡ true → number ≡ place / memory.word_bytes) →
    (if same then slice_index (bytes_of_word memory.words number) (place % memory.word_bytes) else contents_of memory place) ≡ contents_of memory place
own_at memory number place true is = ap (λ n. slice_index (bytes_of_word memory.words n) (place % memory.word_bytes)) (is refl)
own_at memory number place false is = refl

pub with_own : (memory : MemoryValue) (number : ℕ) → with_bytes memory number (bytes_of_word memory.words number) ≡ contents_of memory
with_own memory number = fun_ext (λ place. own_at memory number place (nat_eq number (place / memory.word_bytes)) (λ same. grind (arith, nat_tests)))

bytes_where : (same : Bool) (bytes other : List ℕ) (lane : ℕ) → slice_index (if same then bytes else other) lane ≡ (if same then slice_index bytes lane else slice_index other lane)
bytes_where true bytes other lane = refl
bytes_where false bytes other lane = refl

-- the contents where one word is stored
pub stored : (memory after : MemoryValue) (word : StoredWord) → after.word_bytes ≡ memory.word_bytes → IsStored memory.words after.words word → contents_of after ≡ with_bytes memory word.number word.bytes
stored memory after word same is = fun_ext (λ place.
    ap (λ n. slice_index (bytes_of_word after.words (place / n)) (place % n)) same
    ∙ ap (λ bytes. slice_index bytes (place % memory.word_bytes)) (is (place / memory.word_bytes))
    ∙ bytes_where (nat_eq word.number (place / memory.word_bytes)) word.bytes (bytes_of_word memory.words (place / memory.word_bytes)) (place % memory.word_bytes))

either_way : (here within : Bool) (byte new old elsewhere : ℕ) → (here ≡ true → (within ≡ true) × (new ≡ byte)) → (here ≡ false → within ≡ true → new ≡ old) →
    (if here then byte else (if within then old else elsewhere)) ≡ (if within then new else elsewhere)
either_way true true byte new old elsewhere same other = sym (same refl).1
either_way true false byte new old elsewhere same other = absurd (cc ((same refl).0))
either_way false true byte new old elsewhere same other = sym (other refl refl)
either_way false false byte new old elsewhere same other = refl

here_is : (number bytes lane place : ℕ) → lane < bytes → place ≡ number * bytes + lane → (nat_eq number (place / bytes) ≡ true) × (place % bytes ≡ lane)
here_is number bytes lane place inside is =
    (eq-eqb number (place / bytes) (sym (ap (λ n. n / bytes) is ∙ div-mul-add number bytes lane inside)), ap (λ n. n % bytes) is ∙ mod-mul-add number bytes lane inside)

not_here : (number bytes lane place : ℕ) → nat_eq place (number * bytes + lane) ≡ false → nat_eq number (place / bytes) ≡ true → place % bytes ≢ lane
not_here number bytes lane place other within same =
    let number_is : number ≡ place / bytes = grind (arith, nat_tests) in
    let whole : bytes * (place / bytes) + place % bytes ≡ place = div-add-mod place bytes in
    let turned : bytes * (place / bytes) ≡ number * bytes = ap (λ n. bytes * n) (sym number_is) ∙ mul_comm bytes number in
    let place_is : place ≡ number * bytes + lane = omega (arith, whole, turned, same) in
    absurd (cc (eq-eqb place (number * bytes + lane) place_is, other))

written_at : (memory : MemoryValue) (number : ℕ) (bytes : List ℕ) (lane byte place : ℕ) → lane < memory.word_bytes → memory.word_bytes ≤ length bytes →
    written (with_bytes memory number bytes) (number * memory.word_bytes + lane) byte place ≡ with_bytes memory number (slice_set bytes lane byte) place
written_at memory number bytes lane byte place inside long =
    let n = memory.word_bytes in
    either_way (nat_eq place (number * n + lane)) (nat_eq number (place / n)) byte (slice_index (slice_set bytes lane byte) (place % n)) (slice_index bytes (place % n)) (contents_of memory place)
    (λ here.
    let is : place ≡ number * n + lane = grind (arith, nat_tests) in
    let found = here_is number n lane place inside is in
    (found.0, ap (slice_index (slice_set bytes lane byte)) found.1 ∙ get_or-set_same bytes lane byte 0 (omega arith)))
    (λ other within. let away = not_here number n lane place other within in rw get_or-set_other refl)

pub written_is : (memory : MemoryValue) (number : ℕ) (bytes : List ℕ) (lane byte : ℕ) → lane < memory.word_bytes → memory.word_bytes ≤ length bytes →
    written (with_bytes memory number bytes) (number * memory.word_bytes + lane) byte ≡ with_bytes memory number (slice_set bytes lane byte)
written_is memory number bytes lane byte inside long = fun_ext (λ place. written_at memory number bytes lane byte place inside long)

mul_comm_first : (a b c : ℕ) → a * b + c ≡ b * a + c
mul_comm_first a b c = ap (λ n. n + c) (mul_comm a b)

-- a byte that is put at a place
pub put_is : (memory : MemoryValue) (place byte n : ℕ) (own : List ℕ) → n ≡ memory.word_bytes → own ≡ bytes_of_word memory.words (place / n) → length own ≡ 16 → 1 ≤ n → n ≤ 16 →
    with_bytes memory (place / n) (slice_set own (place % n) byte) ≡ written (contents_of memory) place byte
put_is memory place byte n own bytes own_is long some few =
    let number = place / n in
    let lane = place % n in
    let inside : lane < memory.word_bytes = subst (λ w. lane < w) bytes (omega arith) in
    let whole : number * memory.word_bytes + lane ≡ place = ap (λ w. number * w + lane) (sym bytes) ∙ mul_comm_first number n lane ∙ div-add-mod place n in
    sym (written_is memory number own lane byte inside (omega arith))
    ∙ ap (λ f. written f (number * memory.word_bytes + lane) byte) (ap (with_bytes memory number) own_is ∙ with_own memory number)
    ∙ ap (λ p. written (contents_of memory) p byte) whole

pub on_ok : {T E : Type 0} (r : Result T E) (P : Type 0) → IsOk r → OnOk r P → P
on_ok (Ok x) P ok holds = holds
on_ok (Err e) P ok holds = absurd (cc ok)

-- ---- the lanes of a word

numbers_next : (lane bytes : ℕ) → lane < bytes → numbers lane (bytes - lane) ≡ lane ∷ numbers (suc lane) (bytes - suc lane)
numbers_next lane bytes inside = let more : bytes - lane ≡ suc (bytes - suc lane) = omega arith in rw more refl

pub lane_written : (memory : MemoryValue) (number : ℕ) (bytes : List ℕ) (word enables lane : ℕ) → lane < memory.word_bytes → memory.word_bytes ≤ length bytes → is_enabled enables lane ≡ true →
    memory_after (with_bytes memory number bytes) (lane_writes memory.word_bytes number word enables (numbers lane (memory.word_bytes - lane)))
    ≡ memory_after (with_bytes memory number (slice_set bytes lane (byte_at word lane))) (lane_writes memory.word_bytes number word enables (numbers (suc lane) (memory.word_bytes - suc lane)))
lane_written memory number bytes word enables lane inside long enabled =
    let n = memory.word_bytes in
    let rest = filter (is_enabled enables) (numbers (suc lane) (n - suc lane)) in
    ap (λ lanes. memory_after (with_bytes memory number bytes) (lane_writes n number word enables lanes)) (numbers_next lane n inside)
    ∙ ap (λ kept. memory_after (with_bytes memory number bytes) (map (lane_write n number word) (if kept then lane ∷ rest else rest))) enabled
    ∙ ap (λ f. memory_after f (map (lane_write n number word) rest)) (written_is memory number bytes lane (byte_at word lane) inside long)

pub lane_skipped : (memory : MemoryValue) (number : ℕ) (bytes : List ℕ) (word enables lane : ℕ) → lane < memory.word_bytes → is_enabled enables lane ≡ false →
    memory_after (with_bytes memory number bytes) (lane_writes memory.word_bytes number word enables (numbers lane (memory.word_bytes - lane)))
    ≡ memory_after (with_bytes memory number bytes) (lane_writes memory.word_bytes number word enables (numbers (suc lane) (memory.word_bytes - suc lane)))
lane_skipped memory number bytes word enables lane inside enabled =
    let n = memory.word_bytes in
    let rest = filter (is_enabled enables) (numbers (suc lane) (n - suc lane)) in
    ap (λ lanes. memory_after (with_bytes memory number bytes) (lane_writes n number word enables lanes)) (numbers_next lane n inside)
    ∙ ap (λ kept. memory_after (with_bytes memory number bytes) (map (lane_write n number word) (if kept then lane ∷ rest else rest))) enabled

-- ---- a word of bytes

add_next : (from k : ℕ) → from + 1 + k ≡ from + suc k
add_next from k = omega arith

pub number_same : (one other : ℕ → ℕ) (from at count : ℕ) → ((k : ℕ) → k < count → one (from + k) ≡ other (at + k)) → number_of one from count ≡ number_of other at count
number_same one other from at zero same = refl
number_same one other from at (suc count) same =
    let first : one from ≡ other at = ap one (sym (add-zero from)) ∙ same 0 (omega arith) ∙ ap other (add-zero at) in
    let later = number_same one other (from + 1) (at + 1) count (λ k less. ap one (add_next from k) ∙ same (suc k) (omega arith) ∙ ap other (sym (add_next at k))) in
    ap (λ n. n + 256 * number_of one (from + 1) count) first ∙ ap (λ n. other at + 256 * n) later

pub room_for_byte : (word count : ℕ) → word < 256 ^ count → count < 16 → word * 256 + 255 < 2 ^ 128
room_for_byte word count small few =
    let more : 256 ^ suc count ≤ 256 ^ 16 = pow-le-pow_right (omega arith) few in
    omega (arith, pow-succ' 256 count)

pub highest_more : (bytes : ℕ → ℕ) (n k word byte : ℕ) → k < n → word ≡ number_of bytes (n - k) k → byte ≡ bytes (n - 1 - k) → word * 256 + byte ≡ number_of bytes (n - (k + 1)) (k + 1)
highest_more bytes n k word byte inside highest is =
    let from : n - (k + 1) + 1 ≡ n - k = omega arith in
    let at : n - 1 - k ≡ n - (k + 1) = omega arith in
    let whole : number_of bytes (n - (k + 1)) (suc k) ≡ byte + 256 * word =
    ap (λ b. b + 256 * number_of bytes (n - (k + 1) + 1) k) (ap bytes (sym at) ∙ sym is) ∙ ap (λ w. byte + 256 * w) (ap (λ f. number_of bytes f k) from ∙ sym highest) in
    let counted : number_of bytes (n - (k + 1)) (k + 1) ≡ number_of bytes (n - (k + 1)) (suc k) = ap (λ count. number_of bytes (n - (k + 1)) count) (add-one k) in
    omega (arith, whole, counted)

pub word_is : (memory : MemoryValue) (number : ℕ) →
    number_of (slice_index (bytes_of_word memory.words number)) 0 memory.word_bytes ≡ number_of (contents_of memory) (number * memory.word_bytes) memory.word_bytes
word_is memory number =
    number_same (slice_index (bytes_of_word memory.words number)) (contents_of memory) 0 (number * memory.word_bytes) memory.word_bytes (λ k less.
    ap (slice_index (bytes_of_word memory.words number)) (zero-add k)
    ∙ sym (ap (λ at. slice_index (bytes_of_word memory.words at) ((number * memory.word_bytes + k) % memory.word_bytes)) (div-mul-add number memory.word_bytes k less)
    ∙ ap (slice_index (bytes_of_word memory.words number)) (mod-mul-add number memory.word_bytes k less)))

pub byte_more : (word k byte : ℕ) → word < 256 ^ k → byte < 256 → word * 256 + byte < 256 ^ (k + 1)
byte_more word k byte small fits = rw add-one (omega (arith, pow-succ' 256 k))

pub zeros : (count index : ℕ) → slice_index (replicate count 0) index ≡ 0
zeros zero index = refl
zeros (suc count) zero = refl
zeros (suc count) (suc index) = zeros count index

-- a memory without a written word
pub blank : (memory : MemoryValue) → memory.words ≡ [] → contents_of memory ≡ (λ (place : ℕ). 0)
blank memory none = fun_ext (λ place. ap (λ words. slice_index (bytes_of_word words (place / memory.word_bytes)) (place % memory.word_bytes)) none ∙ zeros 16 (place % memory.word_bytes))
