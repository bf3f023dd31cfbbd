-- Where the beats that an agent takes are the touches of what a host has presented, each word that a read touches is read once.
use Rattle.std.proofs.Common.{ℕ, zero, suc, ◌<◌, ◌≤◌, ◌≡◌, ◌+◌, ◌-◌, Bool, true, false, ◌&&◌, List, [], ◌∷◌, ◌++◌, if◌then◌else◌, arith, refl, sym, ap, ap₂, ◌∙◌, length, map, filter, flat_map, take, drop, nat_eq, nat_lt, IsTrue, append_assoc, length-append, ltb-false, le_refl, Option, Some, None, MatchOption, slice_get, nat_le, lt-ltb}
use Rattle.std.specs.Bool.{⊤}
use Rattle.std.proofs.lemmas.Bool.{le-ltb, eqb-true, both_ways}
use Rattle.std.proofs.lemmas.List.{take-append-drop}
use Rattle.std.proofs.lemmas.List.Elements.{filter-append}
use Rattle.std.proofs.lemmas.Grind.{flat_map-append}
use Rattle.histories.specs.History.{IsPrefix, total}
use Rattle.memory_runs.specs.Views.{System, Run}
use Rattle.memory_runs.specs.Operations.{Beat}
use Rattle.memory_runs.specs.Commands.{Transfer, is_of_reads}
use Rattle.memory_runs.specs.Order.{TaggedBeat, beat_operations, transfer_operations, operations_at, beats_taken, host_transfers, for_agent}
use Rattle.memory_runs.specs.Packed.{Touch, touch_of, goes_on, operations_touched, beats_between, ReadsEachTouchedWordOnce}
use Rattle.memory_links.specs.Packs.{acting, system_touches, transfer_touches, TakesTouches}

-- beats with an operation between two numbers, by their sizes
abbrev counted : ℕ → ℕ → ℕ → List ℕ → ℕ
counted low high reached [] = 0
counted low high reached (z ∷ later) =
    (if nat_lt reached (reached + z) && nat_lt reached high && nat_lt low (reached + z) then 1 else 0) + counted low high (reached + z) later

none_added : (n : ℕ) → 0 + n ≡ n
none_added n = omega arith

total_append : (xs ys : List ℕ) → total (xs ++ ys) ≡ total xs + total ys
total_append [] ys = sym (none_added (total ys))
total_append (x ∷ xs) ys = (let rest = total_append xs ys in omega (arith, rest))

some_first : (m : ℕ) → 0 < m → nat_lt 0 m ≡ true
some_first m h = lt-ltb 0 m h

at_most_one : (b : Bool) → (if b then 1 else 0) ≤ 1
at_most_one true = le_refl 1
at_most_one false = omega arith

counted_acting : (low high reached : ℕ) (zs : List ℕ) → counted low high reached zs ≡ counted low high reached (acting zs)
counted_acting low high reached [] = refl
counted_acting low high reached (z ∷ zs) = by_size (nat_lt 0 z) refl (counted_acting low high (reached + z) zs)
  where
    by_size : (b : Bool) → nat_lt 0 z ≡ b → counted low high (reached + z) zs ≡ counted low high (reached + z) (acting zs) → counted low high reached (z ∷ zs) ≡ counted low high reached (if b then z ∷ acting zs else acting zs)
    by_size true e rest = ap (λ n. (if nat_lt reached (reached + z) && nat_lt reached high && nat_lt low (reached + z) then 1 else 0) + n) rest
    by_size false e rest =
        let none : z ≡ 0 = (let most = ltb-false 0 z e in omega (arith, most)) in
        let same : reached + z ≡ reached = omega (arith, none) in
        let still : nat_lt reached (reached + z) ≡ false = le-ltb reached (reached + z) (omega (arith, none)) in
        ap (λ b. (if b && nat_lt reached high && nat_lt low (reached + z) then 1 else 0) + counted low high (reached + z) zs) still
        ∙ none_added (counted low high (reached + z) zs) ∙ rest ∙ ap (λ n. counted low high n (acting zs)) same

-- what lies before the first number doesn't count
counted_before : (low high reached : ℕ) (xs ys : List ℕ) → reached + total xs ≤ low → counted low high reached (xs ++ ys) ≡ counted low high (reached + total xs) ys
counted_before low high reached [] ys h = (let same : reached ≡ reached + 0 = omega arith in ap (λ n. counted low high n ys) same)
counted_before low high reached (x ∷ xs) ys h =
    let past : nat_lt low (reached + x) ≡ false = le-ltb low (reached + x) (omega (arith, h)) in
    let rest = counted_before low high (reached + x) xs ys (omega (arith, h)) in
    let same : (reached + x) + total xs ≡ reached + (x + total xs) = omega arith in
    ap (λ b. (if b then 1 else 0) + counted low high (reached + x) (xs ++ ys)) (ap (λ b. nat_lt reached (reached + x) && nat_lt reached high && b) past ∙ none_both (nat_lt reached (reached + x) && nat_lt reached high))
    ∙ none_added (counted low high (reached + x) (xs ++ ys)) ∙ rest ∙ ap (λ n. counted low high n ys) same
  where
    none_both : (a : Bool) → a && false ≡ false
    none_both true = refl
    none_both false = refl

-- nor what lies behind the second one
counted_past : (low high reached : ℕ) (xs : List ℕ) → high ≤ reached → counted low high reached xs ≡ 0
counted_past low high reached [] h = refl
counted_past low high reached (x ∷ xs) h =
    let past : nat_lt reached high ≡ false = le-ltb reached high h in
    ap (λ b. (if nat_lt reached (reached + x) && b && nat_lt low (reached + x) then 1 else 0) + counted low high (reached + x) xs) past
    ∙ ap (λ b. (if b then 1 else 0) + counted low high (reached + x) xs) (none_mid (nat_lt reached (reached + x)) (nat_lt low (reached + x)))
    ∙ none_added (counted low high (reached + x) xs) ∙ counted_past low high (reached + x) xs (omega (arith, h))
  where
    none_mid : (a b : Bool) → a && false && b ≡ false
    none_mid true b = refl
    none_mid false b = refl

counted_few : (low high reached : ℕ) (xs ys : List ℕ) → high ≤ reached + total xs → counted low high reached (xs ++ ys) ≤ length xs
counted_few low high reached [] ys h = (let none = counted_past low high reached ys (omega (arith, h)) in omega (arith, none))
counted_few low high reached (x ∷ xs) ys h =
    let rest = counted_few low high (reached + x) xs ys (omega (arith, h)) in
    let one = at_most_one (nat_lt reached (reached + x) && nat_lt reached high && nat_lt low (reached + x)) in
    omega (arith, rest, one)

counted_front : (low high reached : ℕ) (xs ys : List ℕ) → counted low high reached xs ≤ counted low high reached (xs ++ ys)
counted_front low high reached [] ys = omega arith
counted_front low high reached (x ∷ xs) ys = (let rest = counted_front low high (reached + x) xs ys in omega (arith, rest))

module _ (system : System) (host agent : ℕ) where
  abbrev own : Beat → ℕ
  own beat = length (beat_operations system host agent beat)

  sizes_between : (low high reached : ℕ) (bs : List TaggedBeat) → beats_between system agent low high reached bs ≡ counted low high reached (map (λ (b : TaggedBeat). length (operations_at system agent b)) bs)
  sizes_between low high reached [] = refl
  sizes_between low high reached (b ∷ bs) =
      ap (λ n. (if nat_lt reached (reached + length (operations_at system agent b)) && nat_lt reached high && nat_lt low (reached + length (operations_at system agent b)) then 1 else 0) + n) (sizes_between low high (reached + length (operations_at system agent b)) bs)

  -- all touches of a read have its operations
  touches_total : (last : Option Touch) (size : ℕ) (beats : List Beat) → total (system_touches system host agent last size beats) ≡ size + length (flat_map (beat_operations system host agent) beats)
  touches_total last size [] = refl
  touches_total last size (b ∷ bs) =
      let both = length-append (beat_operations system host agent b) (flat_map (beat_operations system host agent) bs) in
      by_test (nat_eq (own b) 0) refl (goes_on last (touch_of system host agent b)) both
      (touches_total None 0 bs) (touches_total (Some (touch_of system host agent b)) (size + own b) bs) (touches_total (Some (touch_of system host agent b)) (own b) bs)
    where
      by_test : (x : Bool) → nat_eq (own b) 0 ≡ x → (y : Bool) → length (flat_map (beat_operations system host agent) (b ∷ bs)) ≡ own b + length (flat_map (beat_operations system host agent) bs) →
          total (system_touches system host agent None 0 bs) ≡ 0 + length (flat_map (beat_operations system host agent) bs) →
          total (system_touches system host agent (Some (touch_of system host agent b)) (size + own b) bs) ≡ (size + own b) + length (flat_map (beat_operations system host agent) bs) →
          total (system_touches system host agent (Some (touch_of system host agent b)) (own b) bs) ≡ own b + length (flat_map (beat_operations system host agent) bs) →
          total (if x then size ∷ system_touches system host agent None 0 bs
          else if y then system_touches system host agent (Some (touch_of system host agent b)) (size + own b) bs
          else size ∷ system_touches system host agent (Some (touch_of system host agent b)) (own b) bs) ≡ size + length (flat_map (beat_operations system host agent) (b ∷ bs))
      by_test true e y both p q r = (let none = eqb-true (own b) 0 e in omega (arith, both, p, none))
      by_test false e true both p q r = omega (arith, both, q)
      by_test false e false both p q r = omega (arith, both, r)

  -- the touch that is open, and those behind it
  record Opens (last : Option Touch) (size count : ℕ) (beats : List Beat) : Type 0 where
    pub head : ℕ
    pub rest : List ℕ
    pub is : system_touches system host agent last size beats ≡ head ∷ rest
    pub more : size ≤ head
    pub reaches : operations_touched system host agent count last beats + size ≡ head + total (take count (acting rest))

  opens : (count : ℕ) (last : Option Touch) (size : ℕ) (beats : List Beat) → Opens last size count beats
  opens count last size [] = record { head = size; rest = []; is = refl; more = le_refl size; reaches = (let none = taken_none count in omega (arith, none)) }
    where
      taken_none : (count : ℕ) → total (take count (acting [])) ≡ 0
      taken_none zero = refl
      taken_none (suc n) = refl
  opens count last size (b ∷ bs) = by_test (nat_eq (own b) 0) refl (goes_on last (touch_of system host agent b)) refl (opens count None 0 bs) (opens count (Some (touch_of system host agent b)) (size + own b) bs) (λ less. opens less (Some (touch_of system host agent b)) (own b) bs)
    where
      abbreviated : Bool → Bool → List ℕ
      abbreviated x y = if x then size ∷ system_touches system host agent None 0 bs
          else if y then system_touches system host agent (Some (touch_of system host agent b)) (size + own b) bs
          else size ∷ system_touches system host agent (Some (touch_of system host agent b)) (own b) bs

      reached_by : Bool → Bool → Bool → ℕ
      reached_by x y z = if x then operations_touched system host agent count None bs
          else if y then own b + operations_touched system host agent count (Some (touch_of system host agent b)) bs
          else if z then own b + operations_touched system host agent (count - 1) (Some (touch_of system host agent b)) bs
          else 0

      -- no touch is open behind a beat without operations
      closed : (bs : List Beat) → (o : Opens None 0 count bs) → o.head ≡ 0
      closed [] o = (let is = o.is in sym (head_of is))
        where
          head_of : {x y : ℕ} {xs ys : List ℕ} → x ∷ xs ≡ y ∷ ys → x ≡ y
          head_of e = cc
      closed (d ∷ bs) o = by_own (nat_eq (own d) 0) refl
        where
          by_own : (x : Bool) → nat_eq (own d) 0 ≡ x → o.head ≡ 0
          by_own true e = (let is = sym o.is ∙ ap (λ x. if x then 0 ∷ system_touches system host agent None 0 bs else 0 ∷ system_touches system host agent (Some (touch_of system host agent d)) (own d) bs) e in cc)
          by_own false e = (let is = sym o.is ∙ ap (λ x. if x then 0 ∷ system_touches system host agent None 0 bs else 0 ∷ system_touches system host agent (Some (touch_of system host agent d)) (own d) bs) e in cc)

      by_test : (x : Bool) → nat_eq (own b) 0 ≡ x → (y : Bool) → goes_on last (touch_of system host agent b) ≡ y → Opens None 0 count bs → Opens (Some (touch_of system host agent b)) (size + own b) count bs →
          ((less : ℕ) → Opens (Some (touch_of system host agent b)) (own b) less bs) → Opens last size count (b ∷ bs)
      by_test true e y f none on off = record {
        head = size;
        rest = none.head ∷ none.rest;
        is = ap₂ abbreviated e f ∙ ap (λ l. size ∷ l) none.is;
        more = le_refl size;
        reaches =
            let zeros = closed bs none in
            let reached : operations_touched system host agent count last (b ∷ bs) ≡ operations_touched system host agent count None bs = ap (λ x. reached_by x (goes_on last (touch_of system host agent b)) (nat_lt 0 count)) e in
            let same : acting (none.head ∷ none.rest) ≡ acting none.rest = ap (λ n. acting (n ∷ none.rest)) zeros in
            let rest = none.reaches in
            let taken = ap (λ l. total (take count l)) same in
            omega (arith, zeros, reached, rest, taken);
      }
      by_test false e true f none on off = record {
        head = on.head;
        rest = on.rest;
        is = ap₂ abbreviated e f ∙ on.is;
        more = (let m = on.more in omega (arith, m));
        reaches =
            let reached : operations_touched system host agent count last (b ∷ bs) ≡ own b + operations_touched system host agent count (Some (touch_of system host agent b)) bs = ap₂ (λ x y. reached_by x y (nat_lt 0 count)) e f in
            let rest = on.reaches in
            omega (arith, reached, rest);
      }
      by_test false e false f none on off = by_count count refl
        where
          some_own : 0 < own b
          some_own = by_zero (own b) refl
            where
              by_zero : (n : ℕ) → own b ≡ n → 0 < own b
              by_zero zero k = absurd (both_ways (nat_eq (own b) 0) e (ap (λ n. nat_eq n 0) k))
              by_zero (suc n) k = omega (arith, k)

          by_count : (n : ℕ) → count ≡ n → Opens last size count (b ∷ bs)
          by_count zero k =
              let one = off 0 in
              record {
                head = size;
                rest = one.head ∷ one.rest;
                is = ap₂ abbreviated e f ∙ ap (λ l. size ∷ l) one.is;
                more = le_refl size;
                reaches =
                    let reached : operations_touched system host agent count last (b ∷ bs) ≡ 0 = ap₂ (λ x y. reached_by x y (nat_lt 0 count)) e f ∙ ap (λ n. if nat_lt 0 n then own b + operations_touched system host agent (count - 1) (Some (touch_of system host agent b)) bs else 0) k in
                    let taken : total (take count (acting (one.head ∷ one.rest))) ≡ 0 = ap (λ n. total (take n (acting (one.head ∷ one.rest)))) k in
                    omega (arith, reached, taken);
              }
          by_count (suc n) k =
              let one = off n in
              record {
                head = size;
                rest = one.head ∷ one.rest;
                is = ap₂ abbreviated e f ∙ ap (λ l. size ∷ l) one.is;
                more = le_refl size;
                reaches =
                    let less : count - 1 ≡ n = omega (arith, k) in
                    let reached : operations_touched system host agent count last (b ∷ bs) ≡ own b + operations_touched system host agent n (Some (touch_of system host agent b)) bs =
                    ap₂ (λ x y. reached_by x y (nat_lt 0 count)) e f ∙ ap (λ m. if nat_lt 0 m then own b + operations_touched system host agent (m - 1) (Some (touch_of system host agent b)) bs else 0) k
                    ∙ ap (λ x. if x then own b + operations_touched system host agent (suc n - 1) (Some (touch_of system host agent b)) bs else 0) (some_first (suc n) (omega arith))
                    ∙ (let m : suc n - 1 ≡ n = omega arith in ap (λ j. own b + operations_touched system host agent j (Some (touch_of system host agent b)) bs) m) in
                    let more = one.more in
                    let first : acting (one.head ∷ one.rest) ≡ one.head ∷ acting one.rest = ap (λ x. if x then one.head ∷ acting one.rest else acting one.rest) (some_first one.head (omega (arith, more, some_own))) in
                    let taken : total (take count (acting (one.head ∷ one.rest))) ≡ one.head + total (take n (acting one.rest)) = ap₂ (λ m l. total (take m l)) k first in
                    let rest = one.reaches in
                    omega (arith, reached, taken, rest);
              }

  -- the operations of the first touches
  pub touched_are : (count : ℕ) (beats : List Beat) → operations_touched system host agent count None beats ≡ total (take count (acting (system_touches system host agent None 0 beats)))
  touched_are count [] = by_count count
    where
      by_count : (count : ℕ) → 0 ≡ total (take count [])
      by_count zero = refl
      by_count (suc n) = refl
  touched_are count (b ∷ bs) = (
      let one = opens count None 0 (b ∷ bs) in
      let rest = one.reaches in
      let zeros = first_closed one in
      let same : acting (system_touches system host agent None 0 (b ∷ bs)) ≡ acting one.rest = ap acting one.is ∙ ap (λ n. acting (n ∷ one.rest)) zeros in
      let taken = ap (λ l. total (take count l)) same in
      omega (arith, rest, zeros, taken))
    where
      first_closed : (o : Opens None 0 count (b ∷ bs)) → o.head ≡ 0
      first_closed o = by_own (nat_eq (own b) 0) refl
        where
          by_own : (x : Bool) → nat_eq (own b) 0 ≡ x → o.head ≡ 0
          by_own true e = (let is = sym o.is ∙ ap (λ x. if x then 0 ∷ system_touches system host agent None 0 bs else 0 ∷ system_touches system host agent (Some (touch_of system host agent b)) (own b) bs) e in cc)
          by_own false e = (let is = sym o.is ∙ ap (λ x. if x then 0 ∷ system_touches system host agent None 0 bs else 0 ∷ system_touches system host agent (Some (touch_of system host agent b)) (own b) bs) e in cc)

  -- ---- the whole

  touches_whole : (t : Transfer) → total (transfer_touches system host agent t) ≡ length (transfer_operations system host agent t)
  touches_whole t = by_kind (is_of_reads t.kind)
    where
      by_beats : (bs : List Beat) → total (map (λ (b : Beat). length (beat_operations system host agent b)) bs) ≡ length (flat_map (beat_operations system host agent) bs)
      by_beats [] = refl
      by_beats (b ∷ bs) = (let rest = by_beats bs in let both = length-append (beat_operations system host agent b) (flat_map (beat_operations system host agent) bs) in omega (arith, rest, both))

      by_kind : (k : Bool) → total (if k then system_touches system host agent None 0 t.beats else map (λ (b : Beat). length (beat_operations system host agent b)) t.beats) ≡ length (transfer_operations system host agent t)
      by_kind true = touches_total None 0 t.beats ∙ none_added (length (transfer_operations system host agent t))
      by_kind false = by_beats t.beats

  acting_total : (xs : List ℕ) → total (acting xs) ≡ total xs
  acting_total [] = refl
  acting_total (x ∷ xs) = by_size (nat_lt 0 x) refl (acting_total xs)
    where
      by_size : (b : Bool) → nat_lt 0 x ≡ b → total (acting xs) ≡ total xs → total (if b then x ∷ acting xs else acting xs) ≡ x + total xs
      by_size true e rest = ap (λ n. x + n) rest
      by_size false e rest = (let none = ltb-false 0 x e in omega (arith, none, rest))

  all_total : (ts : List Transfer) → total (flat_map (transfer_touches system host agent) ts) ≡ length (flat_map (transfer_operations system host agent) ts)
  all_total [] = refl
  all_total (t ∷ ts) =
      let one = touches_whole t in
      let rest = all_total ts in
      let sum = total_append (transfer_touches system host agent t) (flat_map (transfer_touches system host agent) ts) in
      let both = length-append (transfer_operations system host agent t) (flat_map (transfer_operations system host agent) ts) in
      omega (arith, one, rest, sum, both)

  split_at : (ts : List Transfer) (n : ℕ) (t : Transfer) → slice_get ts n ≡ Some t → ts ≡ take n ts ++ t ∷ drop (suc n) ts
  split_at [] n t e = cc
  split_at (u ∷ ts) zero t e = (let same : u ≡ t = cc in ap (λ x. x ∷ ts) same)
  split_at (u ∷ ts) (suc n) t e = ap (λ l. u ∷ l) (split_at ts n t e)

  read_touches : (t : Transfer) → is_of_reads t.kind ≡ true → transfer_touches system host agent t ≡ system_touches system host agent None 0 t.beats
  read_touches t e = ap (λ k. if k then system_touches system host agent None 0 t.beats else map (λ (b : Beat). length (beat_operations system host agent b)) t.beats) e

  few_beats : (zs : List ℕ) (ts : List Transfer) (number count : ℕ) (t : Transfer) → IsPrefix (acting zs) (acting (flat_map (transfer_touches system host agent) ts)) → slice_get ts number ≡ Some t → is_of_reads t.kind ≡ true →
      let low = length (flat_map (transfer_operations system host agent) (take number ts)) in
      counted low (low + operations_touched system host agent count None t.beats) 0 zs ≤ count
  few_beats zs ts number count t front there reads =
      let f = transfer_touches system host agent in
      let before = acting (flat_map f (take number ts)) in
      let own_touches = acting (f t) in
      let behind = acting (flat_map f (drop (suc number) ts)) in
      let low = length (flat_map (transfer_operations system host agent) (take number ts)) in
      let high = low + operations_touched system host agent count None t.beats in
      let parts : acting (flat_map f ts) ≡ before ++ (own_touches ++ behind) =
      ap (λ l. acting (flat_map f l)) (split_at ts number t there) ∙ ap acting (flat_map-append f (take number ts) (t ∷ drop (suc number) ts))
      ∙ filter-append (nat_lt 0) (flat_map f (take number ts)) (f t ++ flat_map f (drop (suc number) ts)) ∙ ap (λ l. before ++ l) (filter-append (nat_lt 0) (f t) (flat_map f (drop (suc number) ts))) in
      let cut : own_touches ≡ take count own_touches ++ drop count own_touches = sym (take-append-drop count own_touches) in
      let whole : before ++ (own_touches ++ behind) ≡ before ++ (take count own_touches ++ (drop count own_touches ++ behind)) =
      ap (λ l. before ++ (l ++ behind)) cut ∙ ap (λ l. before ++ l) (append_assoc (take count own_touches) (drop count own_touches) behind) in
      let sum : total before ≡ low = acting_total (flat_map f (take number ts)) ∙ all_total (take number ts) in
      let reach : operations_touched system host agent count None t.beats ≡ total (take count own_touches) = touched_are count t.beats ∙ ap (λ l. total (take count (acting l))) (sym (read_touches t reads)) in
      let skip = counted_before low high 0 before (take count own_touches ++ (drop count own_touches ++ behind)) (omega (arith, sum)) in
      let start : 0 + total before ≡ low = omega (arith, sum) in
      let few = counted_few low high (0 + total before) (take count own_touches) (drop count own_touches ++ behind) (omega (arith, start, reach)) in
      let size : length (take count own_touches) ≤ count = take_few count own_touches in
      let joined = ap (counted low high 0) (front.joins ∙ parts ∙ whole) in
      let grows = counted_front low high 0 (acting zs) front.rest in
      let same = counted_acting low high 0 zs in
      omega (arith, skip, few, size, joined, grows, same)
    where
      take_few : (n : ℕ) (xs : List ℕ) → length (take n xs) ≤ n
      take_few zero xs = omega arith
      take_few (suc n) [] = omega arith
      take_few (suc n) (x ∷ xs) = (let rest = take_few n xs in omega (arith, rest))

  pub touches_are_packed : (run : Run) (end : ℕ) → TakesTouches system run host agent end → ReadsEachTouchedWordOnce system run host agent end
  touches_are_packed run end takes_them c number count h = by_transfer (slice_get (for_agent system host agent (host_transfers system run host c)) number) refl
    where
      by_transfer : (o : Option Transfer) → slice_get (for_agent system host agent (host_transfers system run host c)) number ≡ o → MatchOption o ⊤ (λ t.
          IsTrue (is_of_reads t.kind) → IsTrue (nat_le (system.host host).word_bytes (system.agent agent).word_bytes) →
          beats_between system agent (length (flat_map (transfer_operations system host agent) (take number (for_agent system host agent (host_transfers system run host c)))))
          (length (flat_map (transfer_operations system host agent) (take number (for_agent system host agent (host_transfers system run host c)))) + operations_touched system host agent count None t.beats) 0
          (filter (λ (b : TaggedBeat). nat_eq b.tag host) (beats_taken system run agent c))
          ≤ count)
      by_transfer None e = tt
      by_transfer (Some t) e = λ reads smaller.
          let bs = filter (λ (b : TaggedBeat). nat_eq b.tag host) (beats_taken system run agent c) in
          let all = for_agent system host agent (host_transfers system run host c) in
          let low = length (flat_map (transfer_operations system host agent) (take number all)) in
          let same = sizes_between low (low + operations_touched system host agent count None t.beats) 0 bs in
          let few = few_beats (map (λ (b : TaggedBeat). length (operations_at system agent b)) bs) all number count t (takes_them c h) e reads in
          omega (arith, same, few)
