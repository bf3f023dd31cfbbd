-- The items of the queues as reads and words, and the narrow word that is given of the oldest.
use Rattle.std.proofs.Common.{◌≡◌, ℕ, zero, suc, ◌+◌, ◌*◌, ◌/◌, ◌%◌, ◌^◌, ◌<◌, ◌≤◌, ◌==◌, if◌then◌else◌, Bool, true, false, IsTrue, List, [], ◌∷◌, ◌++◌, length, map, drop, refl, sym, ap, ap₂, ◌∙◌, arith, add-mul, mul_assoc, one-mul, mul-le-mul_right}
use Rattle.std.proofs.lemmas.List.{map-append}
use Rattle.std.proofs.lemmas.Nat.{pow_pos, mod-mul-add}
use Rattle.std.proofs.Math.Nat.{mul_comm, mod-add-mod, mod-lt, mod-eq-sub-div-mul, div-mul-le_self}
use Rattle.histories.specs.History.{is_raised, one_if, only_if}
use Rattle.item_queues.specs.Storages.{shown_oldest}
use Rattle.memory_runs.specs.Legal.{Word}
use Rattle.memory_machines.specs.Link.{is_nonempty}
use Rattle.memory_links.specs.Gathers.{Entry, first_entry, first_word}
use Rattle.mm_select.specs.Laws.{byte_powers}
use Rattle.mm_gather.specs.Reads.{entry_of, word_of}

-- ---- bits

pub bit_is : (t : Bool) → is_raised (if t then 1 else 0) ≡ t
bit_is true = refl
bit_is false = refl

pub high_is : (x : ℕ) → x < 2 → (x == 1) ≡ is_raised x
high_is zero h = refl
high_is (suc zero) h = refl
high_is (suc (suc x)) h = absurd (omega arith)

pub chosen_is : (bit one other : ℕ) → bit < 2 → (if bit == 0 then other else one) ≡ (if is_raised bit then one else other)
chosen_is zero one other h = refl
chosen_is (suc zero) one other h = refl
chosen_is (suc (suc bit)) one other h = absurd (omega arith)

abbrev pub word_by : ℕ → ℕ → Word
word_by word code = record { word = word; code = code }

-- ---- what is shown of the words

-- these are shown of the oldest word, that which comes among them
pub record IsShown (words : List Word) (comes : Bool) (coming : Word) (valid wide code : ℕ) : Type 0 where
  pub is_there : is_raised valid ≡ is_nonempty (words ++ only_if comes coming)
  pub oldest : IsTrue (is_nonempty (words ++ only_if comes coming)) → ((first_word (words ++ only_if comes coming)).word ≡ wide) × ((first_word (words ++ only_if comes coming)).code ≡ code)

abbrev head_of : List ℕ → ℕ
head_of [] = 0
head_of (x ∷ xs) = x

pub shown_word : (items : List (List ℕ)) (comes : Bool) (bit word code valid wide shown : ℕ) → bit < 2 → is_raised bit ≡ comes → valid ∷ wide ∷ shown ∷ [] ≡ shown_oldest items (bit ∷ word ∷ code ∷ []) →
    IsShown (map word_of items) comes (word_by word code) valid wide shown
shown_word [] comes bit word code valid wide shown fits is e =
    record { is_there = ap (λ (l : List ℕ). is_raised (head_of l)) e ∙ is ∙ nonempty comes; oldest = first comes }
  where
    nonempty : (t : Bool) → t ≡ is_nonempty ([] ++ only_if t (word_by word code))
    nonempty true = refl
    nonempty false = refl

    first : (t : Bool) → IsTrue (is_nonempty ([] ++ only_if t (word_by word code))) → ((first_word ([] ++ only_if t (word_by word code))).word ≡ wide) × ((first_word ([] ++ only_if t (word_by word code))).code ≡ shown)
    first true some = (sym (ap (λ (l : List ℕ). head_of (drop 1 l)) e), sym (ap (λ (l : List ℕ). head_of (drop 2 l)) e))
    first false some = cc
shown_word (item ∷ items) comes bit word code valid wide shown fits is e =
    let same : wide ∷ shown ∷ [] ≡ item = ap (drop 1) e in
    record {
      is_there = ap (λ (l : List ℕ). is_raised (head_of l)) e;
      oldest = λ some. (sym (ap (λ (l : List ℕ). (word_of l).word) same), sym (ap (λ (l : List ℕ). (word_of l).code) same));
    }

-- ---- the oldest read

pub record IsFirstEntry (bytes : ℕ) (entries : List Entry) (place count : ℕ) : Type 0 where
  pub place_is : (first_entry entries).offset ≡ place * bytes
  pub count_is : (first_entry entries).count ≡ count

pub first_entry_is : (bytes : ℕ) (items : List (List ℕ)) (place count : ℕ) → ((coming : List ℕ) → shown_oldest items coming ≡ 1 ∷ place ∷ count ∷ []) → IsFirstEntry bytes (map (entry_of bytes) items) place count
first_entry_is bytes [] place count shows = absurd (let none : 0 ≡ 1 = ap head_of (shows (0 ∷ [])) in cc)
first_entry_is bytes (item ∷ items) place count shows =
    let same : item ≡ place ∷ count ∷ [] = ap (drop 1) (shows []) in
    record { place_is = ap (λ (l : List ℕ). (entry_of bytes l).offset) same; count_is = ap (λ (l : List ℕ). (entry_of bytes l).count) same }

-- ---- from cycle to cycle

pub one_dropped : {A : Type 0} (f : List ℕ → A) (t : Bool) (items : List (List ℕ)) → map f (drop (one_if t) items) ≡ drop (one_if t) (map f items)
one_dropped f true [] = refl
one_dropped f true (item ∷ items) = refl
one_dropped f false items = refl

one_more : {A : Type 0} (f : List ℕ → A) (t : Bool) (item : List ℕ) (made : A) → f item ≡ made → map f (only_if t item) ≡ only_if t made
one_more f true item made e = ap (λ (x : _). x ∷ []) e
one_more f false item made e = refl

moved : {A : Type 0} (f : List ℕ → A) (l t : Bool) (items after : List (List ℕ)) (item : List ℕ) (made : A) → f item ≡ made → after ≡ drop (one_if l) (items ++ only_if t item) → map f after ≡ drop (one_if l) (map f items ++ only_if t made)
moved f l t items after item made e g =
    ap (map f) g ∙ one_dropped f l (items ++ only_if t item) ∙ ap (drop (one_if l)) (map-append f items (only_if t item) ∙ ap (λ (xs : List _). map f items ++ xs) (one_more f t item made e))

dropped_first : {A : Type 0} (l : Bool) (xs ys : List A) → (l ≡ true → 1 ≤ length xs) → drop (one_if l) (xs ++ ys) ≡ drop (one_if l) xs ++ ys
dropped_first true [] ys some = absurd (let none = some refl in omega (arith, none))
dropped_first true (x ∷ xs) ys some = refl
dropped_first false xs ys some = refl

pub words_moved : (l t : Bool) (items : List (List ℕ)) (word code : ℕ) (after : List (List ℕ)) → after ≡ drop (one_if l) (items ++ only_if t (word ∷ code ∷ [])) → map word_of after ≡ drop (one_if l) (map word_of items ++ only_if t (word_by word code))
words_moved l t items word code after e = moved word_of l t items after (word ∷ code ∷ []) (word_by word code) refl e

pub entries_moved : (bytes : ℕ) (l t : Bool) (items : List (List ℕ)) (place count : ℕ) (after : List (List ℕ)) (entry : Entry) → after ≡ drop (one_if l) (items ++ only_if t (place ∷ count ∷ [])) →
    (l ≡ true → 1 ≤ length (map (entry_of bytes) items)) → place * bytes ≡ entry.offset → count ≡ entry.count → map (entry_of bytes) after ≡ drop (one_if l) (map (entry_of bytes) items) ++ only_if t entry
entries_moved bytes l t items place count after entry e some offset size =
    moved (entry_of bytes) l t items after (place ∷ count ∷ []) entry (ap₂ entry_by offset size) e ∙ dropped_first l (map (entry_of bytes) items) (only_if t entry) some
  where
    entry_by : ℕ → ℕ → Entry
    entry_by o c = record { offset = o; count = c }

-- ---- the narrow word

-- a multiple modulo a multiple
scaled : (k many bytes : ℕ) → 0 < many → 0 < bytes → (k % many) * bytes ≡ (k * bytes) % (many * bytes)
scaled k many bytes more some =
    let r = k % many in
    let few : r < many = mod-lt k more in
    let parts : k ≡ k / many * many + r = (let low = mod-eq-sub-div-mul k many in let fits = div-mul-le_self k many in omega (arith, low, fits)) in
    let product : (k / many * many + r) * bytes ≡ k / many * (many * bytes) + r * bytes = add-mul (k / many * many) r bytes ∙ ap (λ n. n + r * bytes) (mul_assoc (k / many) many bytes) in
    let step : (r + 1) * bytes ≤ many * bytes = mul-le-mul_right bytes (omega (arith, few)) in
    let last : (r + 1) * bytes ≡ r * bytes + bytes = add-mul r 1 bytes ∙ ap (λ n. r * bytes + n) (one-mul bytes) in
    sym (ap (λ n. (n * bytes) % (many * bytes)) parts ∙ ap (λ n. n % (many * bytes)) product ∙ mod-mul-add (k / many) (many * bytes) (r * bytes) (omega (arith, step, last, some)))

-- the place in bytes, modulo the wide word
place_in_word : (bytes wide bits place given : ℕ) → 0 < bytes → wide ≡ bytes * 2 ^ bits → ((place + given % 2 ^ bits) % 2 ^ bits) * bytes ≡ (place * bytes + given * bytes) % wide
place_in_word bytes wide bits place given some ratio =
    let turned : place + given % 2 ^ bits ≡ given % 2 ^ bits + place = omega arith in
    let sum : given + place ≡ place + given = omega arith in
    ap (λ n. n * bytes) (ap (λ n. n % 2 ^ bits) turned ∙ mod-add-mod given (2 ^ bits) place ∙ ap (λ n. n % 2 ^ bits) sum)
    ∙ scaled (place + given) (2 ^ bits) bytes (pow_pos bits) some
    ∙ ap₂ (λ x y. x % y) (add-mul place given bytes) (mul_comm (2 ^ bits) bytes ∙ sym ratio)

pub word_given : (bytes wide bits word place given : ℕ) → 0 < bytes → wide ≡ bytes * 2 ^ bits →
    word / 2 ^ (bytes * 8 * ((place + given % 2 ^ bits) % 2 ^ bits)) % 2 ^ (bytes * 8) ≡ word / 256 ^ ((place * bytes + given * bytes) % wide) % 256 ^ bytes
word_given bytes wide bits word place given some ratio =
    let at = (place + given % 2 ^ bits) % 2 ^ bits in
    let product : bytes * 8 * at ≡ at * bytes * 8 = mul_comm (bytes * 8) at ∙ sym (mul_assoc at bytes 8) in
    ap₂ (λ x y. word / x % y) (ap (λ k. 2 ^ k) product ∙ byte_powers (at * bytes) ∙ ap (λ k. 256 ^ k) (place_in_word bytes wide bits place given some ratio)) (byte_powers bytes)
