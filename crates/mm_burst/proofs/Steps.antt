-- What the registers of a cutter keep from cycle to cycle: the read that it sends by itself, and the write burst under way.
use Rattle.std.proofs.Common.{◌≡◌, ℕ, zero, suc, ◌+◌, ◌-◌, ◌*◌, ◌%◌, ◌<◌, ◌≤◌, Bool, true, false, not, ◌&&◌, ◌||◌, if◌then◌else◌, nat_lt, nat_eq, refl, sym, subst, ap, ap₂, ◌∙◌, arith, add-mul, mul-le-mul_right}
use Rattle.std.specs.Prelude.{IsTrue}
use Rattle.std.proofs.Math.Nat.{mod-eq_of_lt}
use Rattle.std.proofs.lemmas.Bool.{lt-ltb, ltb-true, ltb-false, ne_eqb}
use Rattle.histories.specs.History.{is_raised, one_if}
use Rattle.memory_runs.specs.Views.{Shape}
use Rattle.memory_runs.specs.Commands.{Burst, byte_address}
use Rattle.memory_machines.specs.Machines.{Raw, IsFitBeat}
use Rattle.memory_links.specs.Cutters.{Rest, Place, Reach, IsPlaceIn, beats_of, read_burst_of, behind_burst, whole_read, write_of_burst}
use Rattle.command_nets.specs.Groups.{is_shown}
use Rattle.mm_burst.specs.Pieces.{Held, Piece, piece_by, shown_piece, behind_piece}

-- where another piece follows, the address behind this one is below the limit
abbrev pub IsBelow : ℕ → ℕ → Piece → Type 0
IsBelow bytes limit piece = nat_lt piece.step piece.left ≡ true → (piece.address + piece.step * bytes) % limit ≡ piece.address + piece.step * bytes

-- ---- numbers and bits

count_behind : (left step : ℕ) → (if nat_lt step left then left - step else 0) ≡ left - step
count_behind left step = by_test (nat_lt step left) refl
  where
    by_test : (t : Bool) → nat_lt step left ≡ t → (if t then left - step else 0) ≡ left - step
    by_test true e = refl
    by_test false e = let most = ltb-false step left e in omega (arith, most)

follows_where : (left step : ℕ) → nat_lt 0 (left - step) ≡ true → nat_lt step left ≡ true
follows_where left step e = let some = ltb-true 0 (left - step) e in lt-ltb step left (omega (arith, some))

words_apart : (left step bytes : ℕ) → step ≤ left → step * bytes + (left - step) * bytes ≡ left * bytes
words_apart left step bytes le =
    let whole : step + (left - step) ≡ left = omega (arith, le) in
    sym (add-mul step (left - step) bytes) ∙ ap (λ n. n * bytes) whole

within : (address step left bytes top : ℕ) → step ≤ left → address + left * bytes ≤ top → address + step * bytes ≤ top
within address step left bytes top le h =
    let more : step * bytes ≤ left * bytes = mul-le-mul_right bytes le in omega (arith, more, h)

none_where : (n : ℕ) → nat_lt 0 n ≡ false → n ≡ 0
none_where n e = let most = ltb-false 0 n e in omega (arith, most)

free_where : (n : ℕ) → nat_eq n 0 ≡ not (nat_lt 0 n)
free_where zero = refl
free_where (suc n) = let high : nat_lt 0 (suc n) ≡ true = lt-ltb 0 (suc n) (omega arith) in let some : nat_eq (suc n) 0 ≡ false = ne_eqb (suc n) 0 (omega arith) in rw (high, some) refl

and_true : (a : Bool) → (a && true) ≡ a
and_true true = refl
and_true false = refl

and_false : (a : Bool) → (a && false) ≡ false
and_false true = refl
and_false false = refl

pub accepted_where : (sends shown wait : Bool) → (shown && not (sends || wait)) ≡ (not sends && ((sends || shown) && not wait))
accepted_where true true wait = refl
accepted_where true false wait = refl
accepted_where false shown wait = refl

pub shown_where : (sends read write : Bool) → (is_raised (one_if ((sends || (read || write)) && not (write && not sends))) || is_raised (one_if (write && not sends))) ≡ (if sends then true else read || write)
shown_where true true true = refl
shown_where true true false = refl
shown_where true false true = refl
shown_where true false false = refl
shown_where false true true = refl
shown_where false true false = refl
shown_where false false true = refl
shown_where false false false = refl

-- ---- no address wraps

pub piece_top : (reach : Reach) (start bytes top : ℕ) (raw : Raw) (held : Held) (sends some write shown : Bool) → (sends ≡ true → some ≡ true) → (some ≡ true → held.next + held.left * bytes ≤ top) → start + raw.levels.count * bytes ≤ top →
    (piece_by reach start raw held sends some write shown).address + (piece_by reach start raw held sends some write shown).left * bytes ≤ top
piece_top reach start bytes top raw held true some write shown s old new = old (s refl)
piece_top reach start bytes top raw held false true true shown s old new = old refl
piece_top reach start bytes top raw held false true false shown s old new = new
piece_top reach start bytes top raw held false false write shown s old new = new

pub is_below : (bytes limit top : ℕ) (piece : Piece) → piece.address + piece.left * bytes ≤ top → top < limit → IsBelow bytes limit piece
is_below bytes limit top piece most few follows =
    let less = ltb-true piece.step piece.left follows in
    let inside = within piece.address piece.step piece.left bytes top (omega (arith, less)) most in
    mod-eq_of_lt (omega (arith, inside, few))

pub held_top : (bytes limit top : ℕ) (held : Held) (piece : Piece) (taken : Bool) → piece.follows ≡ nat_lt piece.step piece.left → piece.address + piece.left * bytes ≤ top → top < limit → (nat_lt 0 held.left ≡ true → held.next + held.left * bytes ≤ top) →
    nat_lt 0 (behind_piece bytes limit held piece taken).left ≡ true → (behind_piece bytes limit held piece taken).next + (behind_piece bytes limit held piece taken).left * bytes ≤ top
held_top bytes limit top held piece false e most few old some = old some
held_top bytes limit top held piece true e most few old some = by_follows piece.follows e some
  where
    by_follows : (f : Bool) → f ≡ nat_lt piece.step piece.left → nat_lt 0 (if f then piece.left - piece.step else 0) ≡ true →
        (piece.address + piece.step * bytes) % limit + (if f then piece.left - piece.step else 0) * bytes ≤ top
    by_follows false e some = absurd (cc)
    by_follows true e some =
        let less = ltb-true piece.step piece.left (sym e) in
        let apart = words_apart piece.left piece.step bytes (omega (arith, less)) in
        let is = is_below bytes limit top piece most few (sym e) in
        omega (arith, is, apart, most)

-- ---- the read that the cutter sends by itself

pub record IsKept (rest : Rest) (held : Held) : Type 0 where
  pub left : held.left ≡ rest.left
  pub next : held.next ≡ rest.address
  pub enables : held.enables ≡ rest.command.levels.enables
  pub more : held.more ≡ rest.command.more
  pub tag : held.tag ≡ rest.command.tag

pub record Matches (rest : Rest) (held : Held) : Type 0 where
  pub sends : nat_lt 0 rest.left ≡ (is_raised held.reads && nat_lt 0 held.left)
  pub kept : nat_lt 0 rest.left ≡ true → IsKept rest held

-- the registers behind a burst of a read of at most so many beats
abbrev behind_read : ℕ → ℕ → ℕ → ℕ → ℕ → ℕ → ℕ → ℕ → Held
behind_read far bytes limit left address enables more tag = record {
  left = if nat_lt far left then left - far else 0;
  next = (address + far * bytes) % limit;
  reads = 1;
  enables = enables;
  more = more;
  tag = tag;
}

read_on : (reach : Reach) (bytes limit left address : ℕ) (rest : Rest) (enables more tag : ℕ) → left ≡ rest.left → address ≡ rest.address → enables ≡ rest.command.levels.enables → more ≡ rest.command.more → tag ≡ rest.command.tag →
    (nat_lt (reach address) left ≡ true → (address + reach address * bytes) % limit ≡ address + reach address * bytes) → Matches (behind_burst reach bytes rest) (behind_read (reach address) bytes limit left address enables more tag)
read_on reach bytes limit left address rest enables more tag e0 e1 e2 e3 e4 below =
    let far : reach address ≡ reach rest.address = ap reach e1 in
    let count : (if nat_lt (reach address) left then left - reach address else 0) ≡ rest.left - reach rest.address = count_behind left (reach address) ∙ ap₂ (λ n k. n - k) e0 far in
    record {
      sends = ap (nat_lt 0) (sym count);
      kept = λ some. record {
        left = count;
        next = below (follows_where left (reach address) (ap₂ (λ n k. nat_lt 0 (n - k)) e0 far ∙ some)) ∙ ap₂ (λ n k. n + k * bytes) e1 far;
        enables = e2;
        more = e3;
        tag = e4;
      };
    }

pub rest_step : (reach : Reach) (limit : ℕ) (shape : Shape) (raw : Raw) (held : Held) (rest : Rest) (sends some write shown taken : Bool) →
    nat_lt 0 rest.left ≡ sends → (is_raised held.reads && nat_lt 0 held.left) ≡ sends → (sends ≡ true → IsKept rest held) →
    IsBelow shape.word_bytes limit (piece_by reach (byte_address shape raw.levels.address) raw held sends some write shown) →
    Matches (if sends then (if taken then behind_burst reach shape.word_bytes rest else rest) else if (not sends && taken) && not write then behind_burst reach shape.word_bytes (whole_read shape raw) else rest)
    (behind_piece shape.word_bytes limit held (piece_by reach (byte_address shape raw.levels.address) raw held sends some write shown) taken)
rest_step reach limit shape raw held rest true some true shown true e f kept below =
    let k = kept refl in read_on reach shape.word_bytes limit held.left held.next rest held.enables held.more held.tag k.left k.next k.enables k.more k.tag below
rest_step reach limit shape raw held rest true some false shown true e f kept below =
    let k = kept refl in read_on reach shape.word_bytes limit held.left held.next rest held.enables held.more held.tag k.left k.next k.enables k.more k.tag below
rest_step reach limit shape raw held rest true some write shown false e f kept below =
    let k = kept refl in record { sends = e ∙ sym f; kept = λ _. record { left = k.left; next = k.next; enables = k.enables; more = k.more; tag = k.tag } }
rest_step reach limit shape raw held rest false some write shown false e f kept below = record { sends = e ∙ sym f; kept = λ s. absurd (cc) }
rest_step reach limit shape raw held rest false some true shown true e f kept below = record { sends = e; kept = λ s. absurd (cc) }
rest_step reach limit shape raw held rest false true false shown true e f kept below =
    read_on reach shape.word_bytes limit raw.levels.count (byte_address shape raw.levels.address) (whole_read shape raw) raw.levels.enables raw.more raw.tag refl refl refl refl refl below
rest_step reach limit shape raw held rest false false false shown true e f kept below =
    read_on reach shape.word_bytes limit raw.levels.count (byte_address shape raw.levels.address) (whole_read shape raw) raw.levels.enables raw.more raw.tag refl refl refl refl refl below

-- ---- the write burst under way

abbrev pub place_of : Held → Place
place_of held = record { left = if is_raised held.reads then 0 else held.left; address = held.next }

-- while the cutter doesn't send by itself, the count is that of a write burst
pub place_left : (held : Held) → (is_raised held.reads && nat_lt 0 held.left) ≡ false → (place_of held).left ≡ held.left
place_left held e = by_reads (is_raised held.reads) e
  where
    by_reads : (reads : Bool) → (reads && nat_lt 0 held.left) ≡ false → (if reads then 0 else held.left) ≡ held.left
    by_reads true e = sym (none_where held.left e)
    by_reads false e = refl

none_left : (held : Held) → (is_raised held.reads && nat_lt 0 held.left) ≡ true → (place_of held).left ≡ 0
none_left held e = by_reads (is_raised held.reads) e
  where
    by_reads : (reads : Bool) → (reads && nat_lt 0 held.left) ≡ true → (if reads then 0 else held.left) ≡ 0
    by_reads true e = refl
    by_reads false e = absurd (cc)

-- no write burst is under way
none_in : (bytes : ℕ) (burst : Burst) (address : ℕ) → burst.left ≡ 0 → IsPlaceIn bytes burst (record { left = 0; address = address })
none_in bytes burst address e = record { left = sym e; address = λ some. absurd (omega (arith, e, some)) }

-- the burst behind a beat of a write, by whether none is under way
abbrev burst_by : Bool → Shape → Raw → Burst → Burst
burst_by free shape raw burst =
    if free
    then record { left = raw.levels.count - 1; done = 1; first = byte_address shape raw.levels.address }
    else record { left = burst.left - 1; done = burst.done + 1; first = burst.first }

write_on : (reach : Reach) (limit : ℕ) (shape : Shape) (raw : Raw) (held : Held) (burst : Burst) (shown free : Bool) → held.left ≡ burst.left → (0 < burst.left → held.next ≡ burst.first + burst.done * shape.word_bytes) → nat_eq burst.left 0 ≡ free →
    IsBelow shape.word_bytes limit (piece_by reach (byte_address shape raw.levels.address) raw held false (not free) true shown) →
    IsPlaceIn shape.word_bytes (burst_by free shape raw burst) (place_of (behind_piece shape.word_bytes limit held (piece_by reach (byte_address shape raw.levels.address) raw held false (not free) true shown) true))
write_on reach limit shape raw held burst shown true e at free below = record {
  left = count_behind raw.levels.count 1;
  address = λ some. below (lt-ltb 1 raw.levels.count (omega (arith, some)));
}
write_on reach limit shape raw held burst shown false e at free below = record {
  left = count_behind held.left 1 ∙ ap (λ n. n - 1) e;
  address = λ some. (
      let is = at (omega (arith, some)) in
      let more = add-mul burst.done 1 shape.word_bytes in
      below (lt-ltb 1 held.left (omega (arith, e, some))) ∙ omega (arith, is, more));
}

pub place_step : (reach : Reach) (limit : ℕ) (shape : Shape) (raw : Raw) (held : Held) (burst : Burst) (sends write taken : Bool) →
    (is_raised held.reads && nat_lt 0 held.left) ≡ sends → is_raised raw.levels.write ≡ write → IsPlaceIn shape.word_bytes burst (place_of held) →
    (sends ≡ false → taken ≡ true → IsFitBeat shape burst raw × IsTrue (is_raised raw.levels.read || write)) →
    IsBelow shape.word_bytes limit (piece_by reach (byte_address shape raw.levels.address) raw held sends (nat_lt 0 held.left) write (is_shown raw)) →
    IsPlaceIn shape.word_bytes (if (not sends && taken) && write then burst_by (nat_eq burst.left 0) shape raw burst else burst)
    (place_of (behind_piece shape.word_bytes limit held (piece_by reach (byte_address shape raw.levels.address) raw held sends (nat_lt 0 held.left) write (is_shown raw)) taken))
place_step reach limit shape raw held burst true write false s w at fit below = record { left = at.left; address = at.address }
place_step reach limit shape raw held burst false write false s w at fit below = record { left = at.left; address = at.address }
place_step reach limit shape raw held burst true true true s w at fit below = none_in shape.word_bytes burst _ (sym at.left ∙ none_left held s)
place_step reach limit shape raw held burst true false true s w at fit below = none_in shape.word_bytes burst _ (sym at.left ∙ none_left held s)
place_step reach limit shape raw held burst false false true s w at fit below = none_in shape.word_bytes burst _ (none_where burst.left (by_left (nat_lt 0 burst.left) refl))
  where
    by_left : (some : Bool) → nat_lt 0 burst.left ≡ some → some ≡ false
    by_left false e = refl
    by_left true e = let f = fit refl refl in let low = f.0.finished e in let high = f.1 in absurd (clash (is_raised raw.levels.read) low high)
      where
        clash : (r : Bool) → r ≡ false → (r || false) ≡ true → ⊥
        clash true l h = absurd (cc)
        clash false l h = absurd (cc)
place_step reach limit shape raw held burst false true true s w at fit below =
    let same : held.left ≡ burst.left = sym (place_left held s) ∙ at.left in
    let some : nat_lt 0 held.left ≡ not (nat_eq burst.left 0) = ap (nat_lt 0) same ∙ some_where burst.left in
    subst (λ t. IsBelow shape.word_bytes limit (piece_by reach (byte_address shape raw.levels.address) raw held false t true (is_shown raw)) → IsPlaceIn shape.word_bytes (burst_by (nat_eq burst.left 0) shape raw burst) (place_of (behind_piece shape.word_bytes limit held (piece_by reach (byte_address shape raw.levels.address) raw held false t true (is_shown raw)) true)))
    (sym some) (write_on reach limit shape raw held burst (is_shown raw) (nat_eq burst.left 0) same at.address refl) below
  where
    some_where : (n : ℕ) → nat_lt 0 n ≡ not (nat_eq n 0)
    some_where n = by_test (nat_lt 0 n) (free_where n)
      where
        by_test : (t : Bool) → nat_eq n 0 ≡ not t → t ≡ not (nat_eq n 0)
        by_test true e = sym (ap not e)
        by_test false e = sym (ap not e)

-- ---- the beat below

-- a burst of a read
read_shown : (reach : Reach) (left address enables more tag : ℕ) (rest : Rest) → left ≡ rest.left → address ≡ rest.address → enables ≡ rest.command.levels.enables → more ≡ rest.command.more → tag ≡ rest.command.tag →
    ◌≡◌ {A = Raw} (record {
      levels = record { read = 1; write = 0; address = address; word = 0; enables = enables; count = beats_of (reach address) left };
      more = if nat_lt (reach address) left && true then 1 else more;
      tag = tag;
    }) (read_burst_of reach rest)
read_shown reach left address enables more tag rest e0 e1 e2 e3 e4 = rw (and_true (nat_lt (reach address) left), e0, e1, e2, e3, e4) refl

-- a beat of a write, by whether it is the first of its burst
write_shown : (longest : ℕ) (shape : Shape) (raw : Raw) (left address : ℕ) (place : Place) (free : Bool) → place.left ≡ left → place.address ≡ address → nat_eq place.left 0 ≡ free →
    ◌≡◌ {A = Raw} (record {
      levels = record { read = 0; write = 1; address = if free then byte_address shape raw.levels.address else address; word = raw.levels.word; enables = raw.levels.enables; count = beats_of longest (if free then raw.levels.count else left) };
      more = if nat_lt 1 (if free then raw.levels.count else left) && false then 1 else raw.more;
      tag = raw.tag;
    }) (write_of_burst longest shape place raw)
write_shown longest shape raw left address place free e0 e1 e2 = rw (and_false (nat_lt 1 (if free then raw.levels.count else left)), e2, e0, e1) refl

pub beat_is : (reach : Reach) (longest : ℕ) (shape : Shape) (raw : Raw) (held : Held) (rest : Rest) (sends some write shown : Bool) →
    (is_raised held.reads && nat_lt 0 held.left) ≡ sends → nat_lt 0 held.left ≡ some → (sends ≡ true → IsKept rest held) → (sends || shown) ≡ true →
    shown_piece longest raw.levels.word (piece_by reach (byte_address shape raw.levels.address) raw held sends some write shown)
    ≡ (if sends then read_burst_of reach rest else if write then write_of_burst longest shape (place_of held) raw else read_burst_of reach (whole_read shape raw))
beat_is reach longest shape raw held rest true some true shown s l kept e =
    let k = kept refl in read_shown reach held.left held.next held.enables held.more held.tag rest k.left k.next k.enables k.more k.tag
beat_is reach longest shape raw held rest true some false shown s l kept e =
    let k = kept refl in read_shown reach held.left held.next held.enables held.more held.tag rest k.left k.next k.enables k.more k.tag
beat_is reach longest shape raw held rest false some write false s l kept e = absurd (cc)
beat_is reach longest shape raw held rest false true false true s l kept e =
    read_shown reach raw.levels.count (byte_address shape raw.levels.address) raw.levels.enables raw.more raw.tag (whole_read shape raw) refl refl refl refl refl
beat_is reach longest shape raw held rest false false false true s l kept e =
    read_shown reach raw.levels.count (byte_address shape raw.levels.address) raw.levels.enables raw.more raw.tag (whole_read shape raw) refl refl refl refl refl
beat_is reach longest shape raw held rest false true true true s l kept e =
    let same = place_left held s in
    let free : nat_eq (place_of held).left 0 ≡ false = ap (λ n. nat_eq n 0) same ∙ free_where held.left ∙ ap not l in
    write_shown longest shape raw held.left held.next (place_of held) false same refl free
beat_is reach longest shape raw held rest false false true true s l kept e =
    let same = place_left held s in
    let free : nat_eq (place_of held).left 0 ≡ true = ap (λ n. nat_eq n 0) same ∙ free_where held.left ∙ ap not l in
    write_shown longest shape raw held.left held.next (place_of held) true same refl free
