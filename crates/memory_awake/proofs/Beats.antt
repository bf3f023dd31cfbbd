-- Small facts on beats, bursts and lists of transfers.
use Rattle.std.proofs.Common.{ℕ, zero, suc, ◌<◌, ◌≤◌, ◌≡◌, ◌+◌, ◌-◌, Bool, true, false, not, ◌||◌, ◌&&◌, List, [], ◌∷◌, ◌++◌, arith, refl, sym, ap, subst, ◌∙◌, nat_lt, nat_eq, length, map, take, drop, filter, flat_map, IsTrue, IsFalse, tests, if◌then◌else◌, append-nil, length-append, Option, Some, None}
use Rattle.std.proofs.lemmas.Bool.{and_parts, or_left}
use Rattle.std.proofs.lemmas.List.{length-map}
use Rattle.std.proofs.lemmas.List.Elements.{filter-append}
use Rattle.std.proofs.lemmas.Grind.{flat_map-append}
use Rattle.std.specs.List.{list_any, list_all}
use Rattle.histories.specs.History.{is_raised, numbers, total, unreached}
use Rattle.memory_runs.specs.Views.{System, Shape, Signals, Levels}
use Rattle.memory_runs.specs.Views.Kind.{Writes}
use Rattle.memory_runs.specs.Operations.{Beat, filled_lanes}
use Rattle.memory_runs.specs.Commands.{is_held, Transfer, Burst, shows, transfer_of, burst_before, burst_after, read_beats as reads_in, is_of_reads, reads_among}
use Rattle.memory_runs.specs.Legal.{AreLegal, is_under_way}
use Rattle.memory_runs.specs.Order.{Asked, is_agent, place_of, transfer_operations, beat_operations as placed_operations}
use Rattle.memory_runs.specs.Awake.{is_place, count_for}
use Rattle.memory_machines.specs.Link.{Target, Marked, operations_among, operations_in, beat_operations, read_beats}
use Rattle.memory_machines.specs.Lines.{target_of, asked_among}
use Rattle.memory_awake.proofs.Bits.{no_true, not_by}

pub all_reached : (sizes : List ℕ) (n : ℕ) → total sizes ≤ n → unreached sizes n ≡ 0
all_reached [] n h = refl
all_reached (size ∷ sizes) n h =
    let first : nat_lt n size ≡ false = grind (arith, tests, h) in
    let rest = all_reached sizes (n - size) (omega (arith, h)) in
    rw (first, rest)

pub reads_total : (ts : List Transfer) → total (map (λ (t : Transfer). length t.beats) (reads_among ts)) ≡ length (reads_in ts)
reads_total [] = refl
reads_total (t ∷ ts) = by_kind (is_of_reads t.kind) (reads_total ts)
  where
    by_kind : (b : Bool) → total (map (λ (t : Transfer). length t.beats) (reads_among ts)) ≡ length (reads_in ts) →
        total (map (λ (t : Transfer). length t.beats) (if b then t ∷ reads_among ts else reads_among ts)) ≡ length (flat_map (λ (t : Transfer). t.beats) (if b then t ∷ reads_among ts else reads_among ts))
    by_kind true more = let long = length-append t.beats (reads_in ts) in omega (arith, long, more)
    by_kind false more = more

abbrev pub asked_one : Option ℕ → Beat → Asked
asked_one place beat = record { place = place; beat = beat }

pub asked_length : (system : System) (host : ℕ) (ts : List Transfer) → length (asked_among system host ts) ≡ length (reads_in ts)
asked_length system host [] = refl
asked_length system host (t ∷ ts) = by_kind (is_of_reads t.kind) (asked_length system host ts)
  where
    long : (place : Option ℕ) (beats : List Beat) → length (map (λ b. asked_one place b) beats) ≡ length beats
    long place [] = refl
    long place (b ∷ beats) = ap suc (long place beats)

    by_kind : (b : Bool) → length (asked_among system host ts) ≡ length (reads_in ts) →
        length (flat_map (λ (t : Transfer). map (λ b. asked_one (place_of system host t) b) t.beats) (if b then t ∷ reads_among ts else reads_among ts)) ≡ length (flat_map (λ (t : Transfer). t.beats) (if b then t ∷ reads_among ts else reads_among ts))
    by_kind true more =
        let l = long (place_of system host t) t.beats in
        let one = length-append (map (λ b. asked_one (place_of system host t) b) t.beats) (asked_among system host ts) in
        let two = length-append t.beats (reads_in ts) in
        omega (arith, l, one, two, more)
    by_kind false more = more

pub drop_all : {A : Type 0} (n : ℕ) (xs : List A) → length xs ≤ n → drop n xs ≡ []
drop_all {A} zero [] h = refl
drop_all {A} zero (x ∷ xs) h = absurd (omega (arith, h))
drop_all {A} (suc n) [] h = refl
drop_all {A} (suc n) (x ∷ xs) h = drop_all n xs (omega (arith, h))

pub both : (a b : Bool) → IsTrue a → IsTrue b → IsTrue (a && b)
both true true h k = refl
both true false h k = absurd (no_true k)
both false b h k = absurd (no_true h)

pub is_the_place : (a : ℕ) (place : Option ℕ) → IsTrue (is_place (Some a) place) → place ≡ Some a
is_the_place a None h = absurd (no_true h)
is_the_place a (Some b) h = let same : a ≡ b = grind (arith, tests, h) in ap Some (sym same)

pub same_place : (p r : Option ℕ) → IsTrue (is_place p r) → r ≡ p
same_place None None h = refl
same_place None (Some b) h = absurd (no_true h)
same_place (Some a) r h = is_the_place a r h

pub place_self : (place : Option ℕ) → IsTrue (is_place place place)
place_self None = refl
place_self (Some a) = grind (arith, tests)

-- ---- words that are asked

pub asked_append : (system : System) (host : ℕ) (xs ys : List Transfer) → asked_among system host (xs ++ ys) ≡ asked_among system host xs ++ asked_among system host ys
asked_append system host xs ys = ap (λ l. flat_map (λ (t : Transfer). map (λ b. asked_one (place_of system host t) b) t.beats) l) (filter-append (λ (t : Transfer). is_of_reads t.kind) xs ys)
    ∙ flat_map-append (λ (t : Transfer). map (λ b. asked_one (place_of system host t) b) t.beats) (filter (λ (t : Transfer). is_of_reads t.kind) xs) (filter (λ (t : Transfer). is_of_reads t.kind) ys)

-- the words of one transfer are asked of its place
pub all_of_transfer : (system : System) (host : ℕ) (t : Transfer) → IsTrue (list_all (λ (q : Asked). is_place (place_of system host t) q.place) (asked_among system host (t ∷ [])))
all_of_transfer system host t = by_kind (is_of_reads t.kind)
  where
    all_asked_of : (place : Option ℕ) (beats : List Beat) → IsTrue (list_all (λ (q : Asked). is_place place q.place) (map (λ b. asked_one place b) beats))
    all_asked_of place [] = refl
    all_asked_of place (b ∷ beats) = both _ _ (place_self place) (all_asked_of place beats)

    by_kind : (b : Bool) → IsTrue (list_all (λ (q : Asked). is_place (place_of system host t) q.place) (flat_map (λ (t : Transfer). map (λ b. asked_one (place_of system host t) b) t.beats) (if b then t ∷ [] else [])))
    by_kind true = subst (λ l. IsTrue (list_all (λ (q : Asked). is_place (place_of system host t) q.place) l)) (sym (append-nil (map (λ b. asked_one (place_of system host t) b) t.beats))) (all_asked_of (place_of system host t) t.beats)
    by_kind false = refl

-- the word past so many is asked of a place
abbrev pub next_at : Option ℕ → ℕ → List Asked → Bool
next_at place g l = list_any (λ (q : Asked). is_place place q.place) (take 1 (drop g l))

pub next_here : (place : Option ℕ) (g : ℕ) (xs ys : List Asked) → IsTrue (list_all (λ (q : Asked). is_place place q.place) xs) → g < length xs → IsTrue (next_at place g (xs ++ ys))
next_here place g [] ys all h = absurd (omega (arith, h))
next_here place zero (x ∷ xs) ys all h = or_left (is_place place x.place) _ (and_parts (is_place place x.place) _ all).0
next_here place (suc g) (x ∷ xs) ys all h = next_here place g xs ys (and_parts (is_place place x.place) _ all).1 (omega (arith, h))

-- what is next stays next as more is asked
pub next_stays : (place : Option ℕ) (g : ℕ) (xs ys : List Asked) → IsTrue (next_at place g xs) → IsTrue (next_at place g (xs ++ ys))
next_stays place zero [] ys h = absurd (no_true h)
next_stays place zero (x ∷ xs) ys h = h
next_stays place (suc g) [] ys h = absurd (no_true h)
next_stays place (suc g) (x ∷ xs) ys h = next_stays place g xs ys h

pub drop_past : {A : Type 0} (g : ℕ) (xs ys : List A) → length xs ≤ g → drop g (xs ++ ys) ≡ drop (g - length xs) ys
drop_past {A} g [] ys h = ap (λ n. drop n ys) (omega arith)
drop_past {A} zero (x ∷ xs) ys h = absurd (omega (arith, h))
drop_past {A} (suc g) (x ∷ xs) ys h = drop_past g xs ys (omega (arith, h)) ∙ ap (λ n. drop n ys) (omega arith)

-- ---- operations

-- the numbers of operations don't depend on the address
-- by the size of its word alone a side tells which lanes of a beat are filled
abbrev lanes_by : ℕ → Shape → ℕ → List ℕ
lanes_by bytes to enables = filled_lanes (record { word_bytes = bytes; unit_bytes = 1; burst_bits = 1; has_enables = true }) to enables

pub same_count : (system : System) (host agent : ℕ) (shape : Shape) (beats : List Beat) → (system.host host).word_bytes ≡ shape.word_bytes →
    length (flat_map (placed_operations system host agent) beats) ≡ length (flat_map (beat_operations (target_of system agent) shape) beats)
same_count system host agent shape [] e = refl
same_count system host agent shape (b ∷ beats) e =
    let more = same_count system host agent shape beats e in
    let one = length-append (placed_operations system host agent b) (flat_map (placed_operations system host agent) beats) in
    let two = length-append (beat_operations (target_of system agent) shape b) (flat_map (beat_operations (target_of system agent) shape) beats) in
    let left : length (placed_operations system host agent b) ≡ length (lanes_by (system.host host).word_bytes (system.agent agent).shape b.enables) = length-map (filled_lanes (system.host host).shape (system.agent agent).shape b.enables) _ in
    let right : length (beat_operations (target_of system agent) shape b) ≡ length (lanes_by shape.word_bytes (system.agent agent).shape b.enables) = length-map (filled_lanes shape (system.agent agent).shape b.enables) _ in
    let same = ap (λ n. length (lanes_by n (system.agent agent).shape b.enables)) e in
    omega (arith, more, one, two, left, right, same)

pub ops_append : (target : Target) (shape : Shape) (xs : List Marked) (m : Marked) → length (operations_among target shape (xs ++ m ∷ [])) ≡ length (operations_among target shape xs) + length (operations_in target shape m)
ops_append target shape [] m = let same = ap length (append-nil (operations_in target shape m)) in omega (arith, same)
ops_append target shape (x ∷ xs) m =
    let more = ops_append target shape xs m in
    let one = length-append (operations_in target shape x) (operations_among target shape (xs ++ m ∷ [])) in
    let two = length-append (operations_in target shape x) (operations_among target shape xs) in
    omega (arith, more, one, two)

pub count_append : (system : System) (host agent : ℕ) (xs : List Transfer) (t : Transfer) → count_for system host agent (xs ++ t ∷ []) ≡ count_for system host agent xs + (if is_agent agent (place_of system host t) then length (transfer_operations system host agent t) else 0)
count_append system host agent [] t = by_place (is_agent agent (place_of system host t))
  where
    by_place : (b : Bool) → length (flat_map (transfer_operations system host agent) (if b then t ∷ [] else [])) ≡ 0 + (if b then length (transfer_operations system host agent t) else 0)
    by_place true = let same = ap length (append-nil (transfer_operations system host agent t)) in omega (arith, same)
    by_place false = omega arith
count_append system host agent (x ∷ xs) t = by_place (is_agent agent (place_of system host x)) (count_append system host agent xs t)
  where
    by_place : (b : Bool) → count_for system host agent (xs ++ t ∷ []) ≡ count_for system host agent xs + (if is_agent agent (place_of system host t) then length (transfer_operations system host agent t) else 0) →
        length (flat_map (transfer_operations system host agent) (if b then x ∷ filter (λ s. is_agent agent (place_of system host s)) (xs ++ t ∷ []) else filter (λ s. is_agent agent (place_of system host s)) (xs ++ t ∷ [])))
        ≡ length (flat_map (transfer_operations system host agent) (if b then x ∷ filter (λ s. is_agent agent (place_of system host s)) xs else filter (λ s. is_agent agent (place_of system host s)) xs)) + (if is_agent agent (place_of system host t) then length (transfer_operations system host agent t) else 0)
    by_place true more =
        let one = length-append (transfer_operations system host agent x) (flat_map (transfer_operations system host agent) (filter (λ s. is_agent agent (place_of system host s)) (xs ++ t ∷ []))) in
        let two = length-append (transfer_operations system host agent x) (flat_map (transfer_operations system host agent) (filter (λ s. is_agent agent (place_of system host s)) xs)) in
        omega (arith, one, two, more)
    by_place false more = more

-- ---- bursts

module _ (shape : Shape) (signals : Signals) (accepts : ℕ → Bool) (end : ℕ) (legal : AreLegal shape signals accepts end) where
  under : ℕ → Bool
  under c = is_under_way shape signals accepts c

  -- a burst that begins has a beat
  pub some_beat : (c : ℕ) → c < end → IsTrue (shows signals c) → IsFalse (is_under_way shape signals accepts c) → 1 ≤ signals.count c
  some_beat zero h shown free = legal.least zero h shown free
  some_beat (suc c) h shown free = by_held (is_held signals accepts c) refl (some_beat c (omega (arith, h)))
    where
      by_accept : (a : Bool) → accepts c ≡ a → IsTrue (is_held signals accepts c) → IsFalse (is_under_way shape signals accepts c)
      by_accept true e held = absurd (no_true (sym (ap not e) ∙ (and_parts (shows signals c) (not (accepts c)) held).1))
      by_accept false e held = let same : burst_before shape signals accepts (suc c) ≡ burst_before shape signals accepts c = rw e refl in subst (λ (b : Burst). IsFalse (nat_lt 0 b.left)) same free

      by_held : (b : Bool) → is_held signals accepts c ≡ b → (IsTrue (shows signals c) → IsFalse (is_under_way shape signals accepts c) → 1 ≤ signals.count c) → 1 ≤ signals.count (suc c)
      by_held true e more =
          let same = ap (λ (l : Levels). l.count) (legal.held c h e) in
          let m = more (and_parts (shows signals c) (not (accepts c)) e).0 (by_accept (accepts c) refl e) in
          omega (arith, same, m)
      by_held false e more = legal.least (suc c) h (both _ _ shown (not_by (is_held signals accepts c) e)) free

  -- while a write burst is under way, what is shown is a write
  pub writes_on : (c : ℕ) → c < end → IsTrue (is_under_way shape signals accepts c) → IsTrue (shows signals c) → IsTrue (is_raised (signals.write c))
  writes_on c h under shown = second (is_raised (signals.read c)) (is_raised (signals.write c)) (legal.finished c h under) shown
    where
      second : (r w : Bool) → IsFalse r → IsTrue (r || w) → IsTrue w
      second true w f s = absurd cc
      second false w f s = s

-- a beat of a burst under way goes to its place
pub write_place : (system : System) (host : ℕ) (shape : Shape) (levels : Levels) (burst : Burst) → IsTrue (is_raised levels.write) → IsTrue (nat_lt 0 burst.left) →
    place_of system host (transfer_of shape levels burst) ≡ system.place host Writes burst.first
write_place system host shape levels burst write under = rw write (let none : nat_eq burst.left 0 ≡ false = grind (arith, tests, under) in rw none refl)

-- a beat that doesn't end its command leaves a burst under way, for the same place
pub record GoesOn (system : System) (host : ℕ) (shape : Shape) (levels : Levels) (burst : Burst) : Type 0 where
  pub left : IsTrue (nat_lt 0 (burst_after shape levels true burst).left)
  pub place : system.place host Writes (burst_after shape levels true burst).first ≡ place_of system host (transfer_of shape levels burst)

pub goes_on : (system : System) (host : ℕ) (shape : Shape) (levels : Levels) (burst : Burst) → (IsFalse (nat_lt 0 burst.left) → 1 ≤ levels.count) → IsFalse (transfer_of shape levels burst).ends → GoesOn system host shape levels burst
goes_on system host shape levels burst least open_end = by_write (is_raised levels.write) refl (nat_eq burst.left 0) refl open_end
  where
    by_write : (w : Bool) → is_raised levels.write ≡ w → (z : Bool) → nat_eq burst.left 0 ≡ z → IsFalse (transfer_of shape levels burst).ends → GoesOn system host shape levels burst
    by_write false e z ez f = let bad : IsFalse true = rw e at f in absurd cc
    by_write true e true ez f =
        let more : nat_eq levels.count 1 ≡ false = rw (e, ez) at f in
        let some : 1 ≤ levels.count = least (grind (arith, tests, ez)) in
        record { left = rw (e, ez) (grind (arith, tests, more, some)); place = rw (e, ez) refl }
    by_write true e false ez f =
        let more : nat_eq burst.left 1 ≡ false = rw (e, ez) at f in
        record { left = rw (e, ez) (grind (arith, tests, more, ez)); place = rw (e, ez) refl }

pub read_beats_append : (xs ys : List Marked) → read_beats (xs ++ ys) ≡ read_beats xs ++ read_beats ys
read_beats_append xs ys = ap (λ l. flat_map (λ (m : Marked). m.transfer.beats) l) (filter-append (λ (m : Marked). is_of_reads m.transfer.kind) xs ys)
    ∙ flat_map-append (λ (m : Marked). m.transfer.beats) (filter (λ (m : Marked). is_of_reads m.transfer.kind) xs) (filter (λ (m : Marked). is_of_reads m.transfer.kind) ys)

-- the words of one more transfer
pub reads_end : (ts : List Transfer) (t : Transfer) → length (reads_in (ts ++ t ∷ [])) ≡ length (reads_in ts) + length (reads_in (t ∷ []))
reads_end ts t =
    ap (λ l. length (flat_map (λ (t : Transfer). t.beats) l)) (filter-append (λ (t : Transfer). is_of_reads t.kind) ts (t ∷ []))
    ∙ ap length (flat_map-append (λ (t : Transfer). t.beats) (reads_among ts) (reads_among (t ∷ []))) ∙ length-append (reads_in ts) (reads_in (t ∷ []))

-- tags and `more` don't count
pub reads_marked : (ms : List Marked) → length (read_beats ms) ≡ length (reads_in (map (λ (m : Marked). m.transfer) ms))
reads_marked [] = refl
reads_marked (m ∷ ms) = by_kind (is_of_reads m.transfer.kind) (reads_marked ms)
  where
    by_kind : (b : Bool) → length (read_beats ms) ≡ length (reads_in (map (λ (m : Marked). m.transfer) ms)) →
        length (flat_map (λ (m : Marked). m.transfer.beats) (if b then m ∷ filter (λ (m : Marked). is_of_reads m.transfer.kind) ms else filter (λ (m : Marked). is_of_reads m.transfer.kind) ms))
        ≡ length (flat_map (λ (t : Transfer). t.beats) (if b then m.transfer ∷ reads_among (map (λ (m : Marked). m.transfer) ms) else reads_among (map (λ (m : Marked). m.transfer) ms)))
    by_kind true more =
        let one = length-append m.transfer.beats (read_beats ms) in
        let two = length-append m.transfer.beats (reads_in (map (λ (m : Marked). m.transfer) ms)) in
        omega (arith, one, two, more)
    by_kind false more = more

pub numbers_length : (first n : ℕ) → length (numbers first n) ≡ n
numbers_length first zero = refl
numbers_length first (suc n) = ap suc (numbers_length (suc first) n)
