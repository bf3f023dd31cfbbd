-- A word that stands on each place of a wide word has there the bytes that it has when it is moved to one of them.
use Rattle.std.proofs.Common.{ℕ, zero, suc, ◌<◌, ◌≤◌, ◌≡◌, ◌+◌, ◌-◌, ◌*◌, ◌/◌, ◌%◌, ◌^◌, arith, sym, ap, ap₂, subst, ◌∙◌, map, add-mul, mul_assoc, mul-le-mul_right, one-mul, zero-mul, mul-div_cancel}
use Rattle.std.proofs.lemmas.Nat.{pow-add, mod-mul-add}
use Rattle.std.proofs.Math.Nat.{mod-lt, mod-mod, div-div-eq-div-mul, one-le-pow, mod-eq-sub-div-mul, div-mul-le_self, div-eq_of_lt, add-mul-div_left, add-mul-mod_self_left, div-one}
use Rattle.memory_runs.specs.Views.{Shape, Kind}
use Rattle.memory_runs.specs.Operations.{Operation, operations_of, operation_of_kind, operation_at, filled_lanes, is_enabled, byte_at}
use Rattle.memory_machines.specs.Machines.{MaySelect}
use Rattle.memory_links.specs.Selects.{repeated}
use Rattle.memory_links.proofs.OneBeat.{beat_by}
use Rattle.memory_links.proofs.Lanes.{SelectsBeats, AllBelow, numbers_below, narrow_lanes, lanes_moved, same_where, map_twice, byte_of_cut}

-- the bytes of a word that is moved
pub byte_of_moved : (word offset lane : ℕ) → byte_at (word * 256 ^ offset) (offset + lane) ≡ byte_at word lane
byte_of_moved word offset lane =
    ap (λ n. ((word * 256 ^ offset) / n) % 256) (pow-add 256 offset lane) ∙ ap (λ n. n % 256) (sym (div-div-eq-div-mul (word * 256 ^ offset) (256 ^ offset) (256 ^ lane)))
    ∙ ap (λ n. (n / 256 ^ lane) % 256) (mul-div_cancel word (one-le-pow offset 256 (omega arith)))

-- and those of a word that is cut to its size
byte_of_low : (word bytes lane : ℕ) → lane < bytes → byte_at (word % 256 ^ bytes) lane ≡ byte_at word lane
byte_of_low word bytes lane h = ap (λ n. byte_at (n % 256 ^ bytes) lane) (sym (div-one word)) ∙ byte_of_cut word 0 bytes lane h ∙ (let same : 0 + lane ≡ lane = omega arith in ap (byte_at word) same)

byte_on_place : (bytes many place word lane : ℕ) → place < many → lane < bytes → byte_at (repeated bytes many word) (place * bytes + lane) ≡ byte_at word lane
byte_on_place bytes zero place word lane p h = absurd (omega arith)
byte_on_place bytes (suc many) zero word lane p h =
    let none = zero-mul bytes in
    let here : 0 * bytes + lane ≡ lane = omega (arith, none) in
    ap (byte_at (repeated bytes (suc many) word)) here ∙ sym (byte_of_low (repeated bytes (suc many) word) bytes lane h)
    ∙ ap (λ n. byte_at n lane) (add-mul-mod_self_left (word % 256 ^ bytes) (256 ^ bytes) (repeated bytes many word) ∙ mod-mod word (256 ^ bytes)) ∙ byte_of_low word bytes lane h
byte_on_place bytes (suc many) (suc place) word lane p h =
    let some = one-le-pow bytes 256 (omega arith) in
    let more = add-mul 1 place bytes in
    let one = one-mul bytes in
    let next : suc place ≡ 1 + place = omega arith in
    let place_is : suc place * bytes + lane ≡ bytes + (place * bytes + lane) = ap (λ n. n * bytes + lane) next ∙ omega (arith, more, one) in
    ap (λ n. (repeated bytes (suc many) word / n) % 256) (ap (λ n. 256 ^ n) place_is ∙ pow-add 256 bytes (place * bytes + lane))
    ∙ ap (λ n. n % 256) (sym (div-div-eq-div-mul (repeated bytes (suc many) word) (256 ^ bytes) (256 ^ (place * bytes + lane))))
    ∙ ap (λ n. (n / 256 ^ (place * bytes + lane)) % 256) (add-mul-div_left (word % 256 ^ bytes) (repeated bytes many word) some ∙ ap (λ n. n + repeated bytes many word) (div-eq_of_lt (mod-lt word some)))
    ∙ (let same : 0 + repeated bytes many word ≡ repeated bytes many word = omega arith in ap (λ n. byte_at n (place * bytes + lane)) same)
    ∙ byte_on_place bytes many place word lane (omega arith) h

-- the place of a whole narrow word in its wide word
place_of : (x narrow many wide : ℕ) → 0 < narrow → 0 < many → wide ≡ many * narrow → (x - x % narrow) % wide ≡ (x / narrow % many) * narrow
place_of x narrow many wide some more whole =
    let k = x / narrow in
    let multiple : x - x % narrow ≡ k * narrow = (let low = mod-eq-sub-div-mul x narrow in let fits = div-mul-le_self x narrow in omega (arith, low, fits)) in
    let r = k % many in
    let few : r < many = mod-lt k more in
    let parts : k ≡ k / many * many + r = (let low = mod-eq-sub-div-mul k many in let fits = div-mul-le_self k many in omega (arith, low, fits)) in
    let spread : (k / many * many + r) * narrow ≡ k / many * (many * narrow) + r * narrow = add-mul (k / many * many) r narrow ∙ ap (λ n. n + r * narrow) (mul_assoc (k / many) many narrow) in
    let step : (r + 1) * narrow ≤ many * narrow = mul-le-mul_right narrow (omega (arith, few)) in
    let last : (r + 1) * narrow ≡ r * narrow + narrow = add-mul r 1 narrow ∙ ap (λ n. r * narrow + n) (one-mul narrow) in
    ap₂ (λ a b. a % b) multiple whole ∙ ap (λ n. (n * narrow) % (many * narrow)) parts ∙ ap (λ n. n % (many * narrow)) spread ∙ mod-mul-add (k / many) (many * narrow) (r * narrow) (omega (arith, step, last, some))

pub byte_of_repeated : (x narrow many wide word lane : ℕ) → 0 < narrow → 0 < many → wide ≡ many * narrow → lane < narrow →
    byte_at (repeated narrow (wide / narrow) word) ((x - x % narrow) % wide + lane) ≡ byte_at word lane
byte_of_repeated x narrow many wide word lane some more whole h =
    ap₂ (λ m s. byte_at (repeated narrow m word) (s + lane)) (ap (λ n. n / narrow) whole ∙ mul-div_cancel many some) (place_of x narrow many wide some more whole)
    ∙ byte_on_place narrow many (x / narrow % many) word lane (mod-lt (x / narrow) more) h

-- two wide beats with the same bytes on the lanes of a narrow one have the same operations
pub same_operations_there : SelectsBeats → (narrow wide target : Shape) → MaySelect narrow wide target → (span : ℕ) (kind : Kind) (address word other enables moved offset : ℕ) → offset + narrow.word_bytes ≤ target.word_bytes → enables < 2 ^ narrow.word_bytes →
    moved ≡ enables * 2 ^ offset → ((lane : ℕ) → lane < narrow.word_bytes → byte_at word (offset + lane) ≡ byte_at other (offset + lane)) →
    operations_of wide target span (beat_by kind address word moved) ≡ operations_of wide target span (beat_by kind address other moved)
same_operations_there law narrow wide target may span kind address word other enables moved offset fits few same bytes =
    let there = ap (filled_lanes wide target) same ∙ lanes_moved law narrow wide target may enables offset fits few in
    let low = subst (AllBelow narrow.word_bytes) (sym (narrow_lanes narrow target may.some (omega (arith, fits)) may.enables enables)) (numbers_below (is_enabled enables) narrow.word_bytes 0 narrow.word_bytes (omega arith)) in
    let f : ℕ → Operation = operation_at span (beat_by kind address word moved) in
    let g : ℕ → Operation = operation_at span (beat_by kind address other moved) in
    ap (map f) there ∙ map_twice f (λ lane. offset + lane) (filled_lanes narrow target enables)
    ∙ same_where {A = Operation} narrow.word_bytes (λ lane. f (offset + lane)) (λ lane. g (offset + lane)) (λ lane h. ap (operation_of_kind kind ((address + (offset + lane)) % span)) (bytes lane h)) (filled_lanes narrow target enables) low
    ∙ sym (map_twice g (λ lane. offset + lane) (filled_lanes narrow target enables)) ∙ ap (map g) (sym there)
