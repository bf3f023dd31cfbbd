-- Lists of transfers above a machine that drops beats without a lane, and of those below: order, sizes, tags, joined ones, and the last of all.
use Rattle.std.proofs.Common.{ℕ, ◌≤◌, ◌≡◌, ◌+◌, ◌-◌, Bool, true, false, not, ◌&&◌, ◌||◌, List, [], ◌∷◌, ◌++◌, if◌then◌else◌, arith, refl, sym, ap, ap₂, subst, ◌∙◌, length, map, flat_map, filter, nat_eq, nat_lt, append-nil, append_assoc, length-append, le_refl}
use Rattle.std.proofs.lemmas.Bool.{or_right, le-ltb}
use Rattle.histories.specs.History.{only_if, AreWithin, total, unreached}
use Rattle.histories.specs.History.AreWithin.{all_placed, placed, next_room}
use Rattle.memory_runs.specs.Views.{Shape}
use Rattle.memory_runs.specs.Operations.{Operation}
use Rattle.memory_runs.specs.Commands.{is_of_reads}
use Rattle.memory_machines.specs.Link.{Target, Marked, Item, closes, is_nonempty, operations_in, items_from, items_of, acted_after, beats_with, sizes}
use Rattle.memory_machines.specs.Link.Item.{Acts, Ends}
use Rattle.memory_machines.specs.PartRanks.{Accepted, held_back, behind}
use Rattle.memory_links.proofs.Stages.{accepted_of}

-- ---- what is kept and what is sent, by the transfers that were accepted

abbrev pub acts : Target → Shape → Marked → Bool
acts target shape m = is_nonempty (operations_in target shape m)

abbrev pub writes : Marked → Bool
writes m = not (is_of_reads m.transfer.kind)

-- the last of its command
abbrev pub last_one : Marked → Marked
last_one m = record m { more = false }

abbrev pub kept_by : Bool → Bool → Bool → List Marked → Marked → List Marked
kept_by a w c q m = if a then (if w && not c then m ∷ [] else []) else if c then [] else q

abbrev pub sent_by : Bool → Bool → Bool → List Marked → Marked → List Marked
sent_by a w c q m = if a then q ++ (if w && not c then [] else m ∷ []) else if c then map last_one q else []

module _ (target : Target) (shape : Shape) where
  abbrev pub kept_past : List Marked → Marked → List Marked
  kept_past q m = kept_by (acts target shape m) (writes m) (closes m) q m

  abbrev pub sent_past : List Marked → Marked → List Marked
  sent_past q m = sent_by (acts target shape m) (writes m) (closes m) q m

  abbrev pub kept_after : List Marked → List Marked → List Marked
  kept_after q [] = q
  kept_after q (m ∷ later) = kept_after (kept_past q m) later

  abbrev pub sent_after : List Marked → List Marked → List Marked
  sent_after q [] = []
  sent_after q (m ∷ later) = sent_past q m ++ sent_after (kept_past q m) later

  pub kept_push : (q ms : List Marked) (m : Marked) → kept_after q (ms ++ m ∷ []) ≡ kept_past (kept_after q ms) m
  kept_push q [] m = refl
  kept_push q (n ∷ ms) m = kept_push (kept_past q n) ms m

  pub sent_append : (q xs ys : List Marked) → sent_after q (xs ++ ys) ≡ sent_after q xs ++ sent_after (kept_after q xs) ys
  sent_append q [] ys = refl
  sent_append q (x ∷ xs) ys = ap (λ l. sent_past q x ++ l) (sent_append (kept_past q x) xs ys) ∙ sym (append_assoc (sent_past q x) (sent_after (kept_past q x) xs) (sent_after (kept_after (kept_past q x) xs) ys))

  pub sent_push : (q ms : List Marked) (m : Marked) → sent_after q (ms ++ m ∷ []) ≡ sent_after q ms ++ sent_past (kept_after q ms) m
  sent_push q ms m = sent_append q ms (m ∷ []) ∙ ap (λ l. sent_after q ms ++ l) (append-nil (sent_past (kept_after q ms) m))

-- ---- what is sent of alike commands

-- a write with an operation that another may follow
pub record IsKept (target : Target) (shape : Shape) (k : Marked) : Type 0 where
  pub acts : acts target shape k ≡ true
  pub kind : is_of_reads k.transfer.kind ≡ false
  pub more : k.more ≡ true
  pub ends : k.transfer.ends ≡ true

-- an empty write that goes on with the command of a kept one
pub record IsEmptyOf (target : Target) (shape : Shape) (k m : Marked) : Type 0 where
  pub none : operations_in target shape m ≡ []
  pub kind : is_of_reads m.transfer.kind ≡ false
  pub ends : m.transfer.ends ≡ true
  pub tag : k.tag ≡ m.tag

-- from what is kept at first, and whether the open command below has acted, to what is kept at last
pub data Drops (target : Target) (shape : Shape) : List Marked → Bool → List Marked → List Marked → List Marked → Type 0 where
  ended : (a : Bool) → Drops target shape [] a [] [] []
  waits : (a : Bool) (k : Marked) → IsKept target shape k → Drops target shape (k ∷ []) a [] [] (k ∷ [])
  goes : (a : Bool) (m : Marked) (us ds r : List Marked) → acts target shape m ≡ true → m.transfer.ends ≡ true → Drops target shape [] (acted_after target shape a m) us ds r → Drops target shape [] a (m ∷ us) (m ∷ ds) r
  keeps : (a : Bool) (m : Marked) (us ds r : List Marked) → IsKept target shape m → Drops target shape (m ∷ []) a us ds r → Drops target shape [] a (m ∷ us) ds r
  releases : (a : Bool) (k m : Marked) (us ds r : List Marked) → IsKept target shape k → Drops target shape [] true (m ∷ us) ds r → Drops target shape (k ∷ []) a (m ∷ us) (k ∷ ds) r
  ends_with : (a : Bool) (k m : Marked) (us ds r : List Marked) → IsKept target shape k → IsEmptyOf target shape k m → m.more ≡ false → Drops target shape [] false us ds r → Drops target shape (k ∷ []) a (m ∷ us) (last_one k ∷ ds) r
  skips : (m : Marked) (us ds r : List Marked) → operations_in target shape m ≡ [] → m.transfer.ends ≡ true → Drops target shape [] false us ds r → Drops target shape [] false (m ∷ us) ds r
  passes : (a : Bool) (k m : Marked) (us ds r : List Marked) → IsKept target shape k → IsEmptyOf target shape k m → m.more ≡ true → Drops target shape (k ∷ []) a us ds r → Drops target shape (k ∷ []) a (m ∷ us) ds r

module _ (target : Target) (shape : Shape) where
  abbrev D : List Marked → Bool → List Marked → List Marked → List Marked → Type 0
  D q a us ds r = Drops target shape q a us ds r

  abbrev pub ops : Marked → List Operation
  ops m = operations_in target shape m

  abbrev pub acts_of : List Marked → List Item
  acts_of q = flat_map (λ (k : Marked). map (Acts k.tag) (ops k)) q

  open_kept : (k : Marked) → IsKept target shape k → closes k ≡ false
  open_kept k is = ap₂ (λ e m. e && not m) is.ends is.more

  -- ---- sizes

  abbrev pub sum : List Marked → ℕ
  sum ms = total (sizes target shape ms)

  pub same_sum : {q : List Marked} {a : Bool} {us ds r : List Marked} → D q a us ds r → sum q + sum us ≡ sum ds + sum r
  same_sum (ended a) = omega arith
  same_sum (waits a k is) = omega arith
  same_sum (goes a m us ds r act ends rest) = let so = same_sum rest in omega (arith, so)
  same_sum (keeps a m us ds r is rest) = let so = same_sum rest in omega (arith, so)
  same_sum (releases a k m us ds r is rest) = let so = same_sum rest in omega (arith, so)
  same_sum (ends_with a k m us ds r is empty more rest) = let so = same_sum rest in let none = ap length empty.none in omega (arith, so, none)
  same_sum (skips m us ds r empty ends rest) = let so = same_sum rest in let none = ap length empty in omega (arith, so, none)
  same_sum (passes a k m us ds r is empty more rest) = let so = same_sum rest in let none = ap length empty.none in omega (arith, so, none)

  -- one more empty transfer takes no room
  more_room : {xs us : List ℕ} {x : ℕ} → AreWithin xs (x ∷ us) → AreWithin xs (x ∷ 0 ∷ us)
  more_room all_placed = all_placed
  more_room (placed fits w) = placed fits (more_room w)
  more_room (next_room w) = next_room (next_room w)

  filled : (s : ℕ) {xs us : List ℕ} → AreWithin xs us → AreWithin (s ∷ xs) (s ∷ us)
  filled s {xs} {us} w = let none : s - s ≡ 0 = omega arith in placed (le_refl s) (subst (λ n. AreWithin xs (n ∷ us)) (sym none) (next_room w))

  pub all_within : {q : List Marked} {a : Bool} {us ds r : List Marked} → D q a us ds r → AreWithin (sizes target shape ds) (sizes target shape (q ++ us))
  all_within (ended a) = all_placed
  all_within (waits a k is) = all_placed
  all_within (goes a m us ds r act ends rest) = filled (length (ops m)) (all_within rest)
  all_within (keeps a m us ds r is rest) = all_within rest
  all_within (releases a k m us ds r is rest) = filled (length (ops k)) (all_within rest)
  all_within (ends_with a k m us ds r is empty more rest) =
      filled (length (ops k)) (subst (λ (l : List Operation). AreWithin (sizes target shape ds) (length l ∷ sizes target shape us)) (sym empty.none) (next_room (all_within rest)))
  all_within (skips m us ds r empty ends rest) = subst (λ (l : List Operation). AreWithin (sizes target shape ds) (length l ∷ sizes target shape us)) (sym empty) (next_room (all_within rest))
  all_within (passes a k m us ds r is empty more rest) =
      subst (λ (l : List Operation). AreWithin (sizes target shape ds) (length (ops k) ∷ length l ∷ sizes target shape us)) (sym empty.none) (more_room (all_within rest))

  -- ---- tags

  abbrev count : ℕ → List Marked → ℕ
  count tag ms = length (beats_with tag ms)

  abbrev one_of : ℕ → Marked → ℕ
  one_of tag m = if nat_eq m.tag tag then length m.transfer.beats else 0

  counted : (tag : ℕ) (m : Marked) (ms : List Marked) → count tag (m ∷ ms) ≡ one_of tag m + count tag ms
  counted tag m ms = by_tag (nat_eq m.tag tag)
    where
      by_tag : (b : Bool) → length (flat_map (λ (m : Marked). m.transfer.beats) (if b then m ∷ filter (λ (m : Marked). nat_eq m.tag tag) ms else filter (λ (m : Marked). nat_eq m.tag tag) ms)) ≡ (if b then length m.transfer.beats else 0) + count tag ms
      by_tag true = length-append m.transfer.beats _
      by_tag false = omega arith

  pub fewer_tagged : (tag : ℕ) {q : List Marked} {a : Bool} {us ds r : List Marked} → D q a us ds r → count tag ds + count tag r ≤ count tag q + count tag us
  fewer_tagged tag (ended a) = omega arith
  fewer_tagged tag (waits a k is) = omega arith
  fewer_tagged tag (goes a m us ds r act ends rest) =
      let so = fewer_tagged tag rest in let x = counted tag m us in let y = counted tag m ds in omega (arith, so, x, y)
  fewer_tagged tag (keeps a m us ds r is rest) =
      let so = fewer_tagged tag rest in let x = counted tag m us in let y = counted tag m [] in omega (arith, so, x, y)
  fewer_tagged tag (releases a k m us ds r is rest) =
      let so = fewer_tagged tag rest in let x = counted tag k [] in let y = counted tag k ds in omega (arith, so, x, y)
  fewer_tagged tag (ends_with a k m us ds r is empty more rest) =
      let so = fewer_tagged tag rest in let x = counted tag k [] in let y = counted tag (last_one k) ds in let z = counted tag m us in omega (arith, so, x, y, z)
  fewer_tagged tag (skips m us ds r empty ends rest) = let so = fewer_tagged tag rest in let x = counted tag m us in omega (arith, so, x)
  fewer_tagged tag (passes a k m us ds r is empty more rest) = let so = fewer_tagged tag rest in let x = counted tag m us in omega (arith, so, x)

  -- ---- order

  pub same_items : {q : List Marked} {a : Bool} {us ds r : List Marked} → D q a us ds r → acts_of q ++ items_from target shape (is_nonempty q || a) us ≡ items_from target shape a ds ++ acts_of r
  same_items (ended a) = refl
  same_items (waits a k is) = append-nil (acts_of (k ∷ []))
  same_items (goes a m us ds r act ends rest) =
      ap (λ l. items_of target shape a m ++ l) (same_items rest) ∙ sym (append_assoc (items_of target shape a m) (items_from target shape (acted_after target shape a m) ds) (acts_of r))
  same_items (keeps a m us ds r is rest) =
      ap₂ (λ c b. (map (Acts m.tag) (ops m) ++ only_if (c && b) (Ends m.tag)) ++ items_from target shape (not c && b) us) (open_kept m is) (ap (λ b. a || b) is.acts ∙ or_right a true refl)
      ∙ same_items rest
  same_items (releases a k m us ds r is rest) =
      ap (λ l. (map (Acts k.tag) (ops k) ++ []) ++ l) (same_items rest)
      ∙ sym (append_assoc (map (Acts k.tag) (ops k) ++ []) (items_from target shape true ds) (acts_of r))
      ∙ ap (λ l. l ++ acts_of r) (ap₂ (λ c b. (map (Acts k.tag) (ops k) ++ only_if (c && b) (Ends k.tag)) ++ items_from target shape (not c && b) ds) (sym (open_kept k is)) (sym (ap (λ b. a || b) is.acts ∙ or_right a true refl)))
  same_items (ends_with a k m us ds r is empty more rest) =
      ap₂ (λ c o. (map (Acts k.tag) (ops k) ++ []) ++ ((map (Acts m.tag) o ++ only_if (c && true) (Ends m.tag)) ++ items_from target shape (not c && true) us)) (ap₂ (λ e m. e && not m) empty.ends more) empty.none
      ∙ ap (λ t. (map (Acts k.tag) (ops k) ++ []) ++ Ends t ∷ items_from target shape false us) (sym empty.tag)
      ∙ ap (λ l. l ++ Ends k.tag ∷ items_from target shape false us) (append-nil (map (Acts k.tag) (ops k)))
      ∙ ap (λ l. map (Acts k.tag) (ops k) ++ Ends k.tag ∷ l) (same_items rest)
      ∙ sym (append_assoc (map (Acts k.tag) (ops k)) (Ends k.tag ∷ []) (items_from target shape false ds ++ acts_of r))
      ∙ sym (append_assoc (map (Acts k.tag) (ops k) ++ Ends k.tag ∷ []) (items_from target shape false ds) (acts_of r))
      ∙ ap (λ l. l ++ acts_of r) (ap₂ (λ c b. (map (Acts k.tag) (ops k) ++ only_if (c && b) (Ends k.tag)) ++ items_from target shape (not c && b) ds) (sym (ap (λ e. e && true) is.ends)) (sym (ap (λ b. a || b) is.acts ∙ or_right a true refl)))
  same_items (skips m us ds r empty ends rest) =
      ap (λ o. (map (Acts m.tag) o ++ only_if (closes m && is_nonempty o) (Ends m.tag)) ++ items_from target shape (not (closes m) && is_nonempty o) us) empty
      ∙ ap₂ (λ x y. only_if x (Ends m.tag) ++ items_from target shape y us) (none_and (closes m)) (none_and (not (closes m))) ∙ same_items rest
    where
      none_and : (b : Bool) → b && false ≡ false
      none_and true = refl
      none_and false = refl
  same_items (passes a k m us ds r is empty more rest) =
      ap₂ (λ c o. (map (Acts k.tag) (ops k) ++ []) ++ ((map (Acts m.tag) o ++ only_if (c && true) (Ends m.tag)) ++ items_from target shape (not c && true) us)) (ap₂ (λ e m. e && not m) empty.ends more) empty.none
      ∙ same_items rest

  -- ---- what isn't reached

  pub few_left : {q : List Marked} {a : Bool} {us ds r : List Marked} → D q a us ds r → length r ≤ 1
  few_left (ended a) = omega arith
  few_left (waits a k is) = omega arith
  few_left (goes a m us ds r act ends rest) = few_left rest
  few_left (keeps a m us ds r is rest) = few_left rest
  few_left (releases a k m us ds r is rest) = few_left rest
  few_left (ends_with a k m us ds r is empty more rest) = few_left rest
  few_left (skips m us ds r empty ends rest) = few_left rest
  few_left (passes a k m us ds r is empty more rest) = few_left rest

  abbrev pub AllKept : List Marked → Type 0
  AllKept [] = Unit {0}
  AllKept (k ∷ ks) = IsKept target shape k × AllKept ks

  pub still_kept : {q : List Marked} {a : Bool} {us ds r : List Marked} → D q a us ds r → AllKept r
  still_kept (ended a) = tt
  still_kept (waits a k is) = (is, tt)
  still_kept (goes a m us ds r act ends rest) = still_kept rest
  still_kept (keeps a m us ds r is rest) = still_kept rest
  still_kept (releases a k m us ds r is rest) = still_kept rest
  still_kept (ends_with a k m us ds r is empty more rest) = still_kept rest
  still_kept (skips m us ds r empty ends rest) = still_kept rest
  still_kept (passes a k m us ds r is empty more rest) = still_kept rest

  past : (s n : ℕ) (rest : List ℕ) → unreached (s ∷ rest) (s + n) ≡ unreached rest n
  past s n rest = let over : nat_lt (s + n) s ≡ false = le-ltb (s + n) s (omega arith) in let left : (s + n) - s ≡ n = omega arith in rw (over, left) (omega arith)

  skipped : (n : ℕ) (rest : List ℕ) → unreached (0 ∷ rest) n ≡ unreached rest n
  skipped n rest = let over : nat_lt n 0 ≡ false = le-ltb n 0 (omega arith) in let left : n - 0 ≡ n = omega arith in rw (over, left) (omega arith)

  first_left : (k : Marked) → unreached (sizes target shape (k ∷ [])) 0 ≤ 1
  first_left k = by_size (nat_lt 0 (length (ops k)))
    where
      by_size : (b : Bool) → (if b then 1 else 0) + 0 ≤ 1
      by_size true = omega arith
      by_size false = omega arith

  pub few_unreached : {q : List Marked} {a : Bool} {us ds r : List Marked} → D q a us ds r → unreached (sizes target shape (q ++ us)) (sum ds) ≤ length r
  few_unreached (ended a) = le_refl 0
  few_unreached (waits a k is) = first_left k
  few_unreached (goes a m us ds r act ends rest) = let so = few_unreached rest in let one = past (length (ops m)) (sum ds) (sizes target shape us) in omega (arith, so, one)
  few_unreached (keeps a m us ds r is rest) = few_unreached rest
  few_unreached (releases a k m us ds r is rest) = let so = few_unreached rest in let one = past (length (ops k)) (sum ds) (sizes target shape (m ∷ us)) in omega (arith, so, one)
  few_unreached (ends_with a k m us ds r is empty more rest) =
      let so = few_unreached rest in
      let one = past (length (ops k)) (sum ds) (sizes target shape (m ∷ us)) in
      let two : unreached (sizes target shape (m ∷ us)) (sum ds) ≡ unreached (sizes target shape us) (sum ds) = ap (λ (l : List Operation). unreached (length l ∷ sizes target shape us) (sum ds)) empty.none ∙ skipped (sum ds) (sizes target shape us) in
      omega (arith, so, one, two)
  few_unreached (skips m us ds r empty ends rest) =
      let so = few_unreached rest in
      let two : unreached (sizes target shape (m ∷ us)) (sum ds) ≡ unreached (sizes target shape us) (sum ds) = ap (λ (l : List Operation). unreached (length l ∷ sizes target shape us) (sum ds)) empty ∙ skipped (sum ds) (sizes target shape us) in
      omega (arith, so, two)
  few_unreached (passes a k m us ds r is empty more rest) =
      let so = few_unreached rest in
      let two : unreached (sizes target shape (m ∷ us)) (sum ds - length (ops k)) ≡ unreached (sizes target shape us) (sum ds - length (ops k)) = ap (λ (l : List Operation). unreached (length l ∷ sizes target shape us) (sum ds - length (ops k))) empty.none ∙ skipped (sum ds - length (ops k)) (sizes target shape us) in
      let one : unreached (sizes target shape (k ∷ m ∷ us)) (sum ds) ≡ unreached (sizes target shape (k ∷ us)) (sum ds) = ap (λ n. (if nat_lt (sum ds) (length (ops k)) then 1 else 0) + n) two in
      omega (arith, so, one)

  abbrev pub held : List Marked → List Accepted
  held ms = map (accepted_of target shape) ms

  past_held : (x : Accepted) (n : ℕ) (rest : List Accepted) → held_back (x ∷ rest) (x.size + n) ≡ held_back rest n
  past_held x n rest = let over : nat_lt (x.size + n) x.size ≡ false = le-ltb (x.size + n) x.size (omega arith) in let left : (x.size + n) - x.size ≡ n = omega arith in rw (over, left) refl

  skipped_held : (c : Bool) (n : ℕ) (rest : List Accepted) → held_back (record { size = 0; closes = c } ∷ rest) n ≡ held_back rest n
  skipped_held c n rest = let over : nat_lt n 0 ≡ false = le-ltb n 0 (omega arith) in let left : n - 0 ≡ n = omega arith in rw (over, left) refl

  empty_held : (m : Marked) → ops m ≡ [] → (n : ℕ) (rest : List Accepted) → held_back (accepted_of target shape m ∷ rest) n ≡ held_back rest n
  empty_held m none n rest = ap (λ (l : List Operation). held_back (record { size = length l; closes = closes m } ∷ rest) n) none ∙ skipped_held (closes m) n rest

  first_held : (k : Marked) → held_back (held (k ∷ [])) 0 ≤ 1
  first_held k = by_size (nat_lt 0 (length (ops k)))
    where
      by_size : (b : Bool) → (if b then 1 + 0 else 0) ≤ 1
      by_size true = omega arith
      by_size false = omega arith

  pub few_held : {q : List Marked} {a : Bool} {us ds r : List Marked} → D q a us ds r → held_back (held (q ++ us)) (sum ds) ≤ length r
  few_held (ended a) = le_refl 0
  few_held (waits a k is) = first_held k
  few_held (goes a m us ds r act ends rest) = let so = few_held rest in let one = past_held (accepted_of target shape m) (sum ds) (held us) in omega (arith, so, one)
  few_held (keeps a m us ds r is rest) = few_held rest
  few_held (releases a k m us ds r is rest) = let so = few_held rest in let one = past_held (accepted_of target shape k) (sum ds) (held (m ∷ us)) in omega (arith, so, one)
  few_held (ends_with a k m us ds r is empty more rest) =
      let so = few_held rest in
      let one = past_held (accepted_of target shape k) (sum ds) (held (m ∷ us)) in
      let two = empty_held m empty.none (sum ds) (held us) in
      omega (arith, so, one, two)
  few_held (skips m us ds r empty ends rest) = let so = few_held rest in let two = empty_held m empty (sum ds) (held us) in omega (arith, so, two)
  few_held (passes a k m us ds r is empty more rest) =
      let so = few_held rest in
      let two = empty_held m empty.none (sum ds - length (ops k)) (held us) in
      let behind_it : behind (closes k) (held (m ∷ us)) ≡ behind (closes k) (held us) =
      ap₂ (λ c (l : List Operation). behind_two c (length l) (closes m)) (open_kept k is) empty.none ∙ ap (behind_two false 0) (ap₂ (λ e m. e && not m) empty.ends more) ∙ zero_more ∙ ap (λ c. behind c (held us)) (sym (open_kept k is)) in
      let one : held_back (held (k ∷ m ∷ us)) (sum ds) ≡ held_back (held (k ∷ us)) (sum ds) = ap₂ (λ x y. if nat_lt (sum ds) (length (ops k)) then 1 + x else y) behind_it two in
      omega (arith, so, one)
    where
      behind_two : Bool → ℕ → Bool → ℕ
      behind_two c s d = behind c (record { size = s; closes = d } ∷ held us)

      zero_more : 0 + behind false (held us) ≡ behind false (held us)
      zero_more = omega arith
