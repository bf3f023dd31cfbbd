-- Lists of transfers above a cutter of bursts and of what it makes of them: the parts of one are joined, and are the transfer itself in order.
use Rattle.std.proofs.Common.{ℕ, suc, ◌<◌, ◌≤◌, ◌≡◌, ◌+◌, ◌-◌, Bool, true, false, not, ◌&&◌, ◌||◌, List, [], ◌∷◌, ◌++◌, if◌then◌else◌, arith, refl, sym, ap, ap₂, subst, ◌∙◌, length, map, filter, flat_map, nat_eq, nat_lt, IsTrue, append-nil, append_assoc, length-append, le_refl, ltb-true}
use Rattle.std.specs.List.{list_all}
use Rattle.std.proofs.lemmas.Bool.{and_parts, and_from, or_right, eq-eqb}
use Rattle.std.proofs.lemmas.List.{map-append}
use Rattle.std.proofs.lemmas.Grind.{flat_map-append}
use Rattle.histories.specs.History.{only_if, AreWithin, total, unreached}
use Rattle.histories.specs.History.AreWithin.{all_placed, placed, next_room}
use Rattle.memory_runs.specs.Views.{Shape}
use Rattle.memory_runs.specs.Operations.{Beat, Operation}
use Rattle.memory_runs.specs.Commands.{is_of_reads}
use Rattle.memory_machines.specs.Link.{Target, Port, Marked, closes, is_nonempty, beat_operations, operations_in, operations_among, items_from, items_of, acted_after, sizes, beats_with, read_beats, is_last_joined}
use Rattle.memory_machines.specs.Link.Item.{Acts, Ends}
use Rattle.memory_machines.specs.PartRanks.{Accepted, held_back, behind, are_joined_alike, goes_on_alike, is_same}
use Rattle.memory_machines.specs.Rank.{is_last_write}
use Rattle.memory_links.proofs.Alike.{have_operations}
use Rattle.memory_links.proofs.Last.{last_is, last_behind, has_more, is_write, joined_is, written_is}
use Rattle.memory_links.proofs.Stages.{all_append, tail_alike}

-- a transfer that is accepted above, and its parts below
pub record Step : Type 0 where
  pub above : Marked
  pub parts : List Marked

abbrev pub above_of : Step → Marked
above_of s = s.above

abbrev pub parts_in : Step → List Marked
parts_in s = s.parts

abbrev pub parts_of : List Step → List Marked
parts_of ss = flat_map parts_in ss

abbrev pub beats_in : Marked → List Beat
beats_in m = m.transfer.beats

abbrev pub beats_of : List Marked → List Beat
beats_of ms = flat_map beats_in ms

-- a part of a transfer, whose operations those of its shape are
pub record IsPartOf (target : Target) (shape : Shape) (m p : Marked) : Type 0 where
  pub tag : p.tag ≡ m.tag
  pub kind : p.transfer.kind ≡ m.transfer.kind
  pub some : 0 < length p.transfer.beats
  pub closes_so : closes p ≡ not p.more
  pub acts : is_nonempty (operations_in target shape p) ≡ is_nonempty (operations_in target shape m)

-- one at least, joined, the last one as the transfer itself
abbrev pub AreParts : Target → Shape → Marked → List Marked → Type 0
AreParts target shape m [] = ⊥
AreParts target shape m (p ∷ []) = IsPartOf target shape m p × (p.more ≡ m.more)
AreParts target shape m (p ∷ q ∷ ps) = IsPartOf target shape m p × (p.more ≡ true) × AreParts target shape m (q ∷ ps)

pub record IsSent (target : Target) (shape : Shape) (s : Step) : Type 0 where
  pub parts : AreParts target shape s.above s.parts
  pub beats : beats_of s.parts ≡ s.above.transfer.beats
  pub closes_so : closes s.above ≡ not s.above.more

abbrev pub AllSent : Target → Shape → List Step → Type 0
AllSent target shape [] = Unit {0}
AllSent target shape (s ∷ ss) = IsSent target shape s × AllSent target shape ss

pub sent_push : (target : Target) (shape : Shape) (ss : List Step) (s : Step) → AllSent target shape ss → IsSent target shape s → AllSent target shape (ss ++ s ∷ [])
sent_push target shape [] s all one = (one, tt)
sent_push target shape (x ∷ ss) s all one = (all.0, sent_push target shape ss s all.1 one)

pub sent_front : (target : Target) (shape : Shape) (xs ys : List Step) → AllSent target shape (xs ++ ys) → AllSent target shape xs
sent_front target shape [] ys all = tt
sent_front target shape (x ∷ xs) ys all = (all.0, sent_front target shape xs ys all.1)

pub sent_behind : (target : Target) (shape : Shape) (xs ys : List Step) → AllSent target shape (xs ++ ys) → AllSent target shape ys
sent_behind target shape [] ys all = all
sent_behind target shape (x ∷ xs) ys all = sent_behind target shape xs ys all.1

-- the first part, and those behind it
pub record HasFirst (target : Target) (shape : Shape) (m : Marked) (ps : List Marked) : Type 0 where
  pub first : Marked
  pub later : List Marked
  pub whole : ps ≡ first ∷ later
  pub part : IsPartOf target shape m first

pub first_of : (target : Target) (shape : Shape) (m : Marked) (ps : List Marked) → AreParts target shape m ps → HasFirst target shape m ps
first_of target shape m [] are = absurd are
first_of target shape m (p ∷ []) are = record { first = p; later = []; whole = refl; part = are.0 }
first_of target shape m (p ∷ q ∷ ps) are = record { first = p; later = q ∷ ps; whole = refl; part = are.0 }

-- ---- what is reached

pub unreached_past : (xs ys : List ℕ) (n : ℕ) → total xs ≤ n → unreached (xs ++ ys) n ≤ length ys
unreached_past [] ys n h = few ys n
  where
    few : (ys : List ℕ) (n : ℕ) → unreached ys n ≤ length ys
    few [] n = le_refl 0
    few (y ∷ ys) n = let rest = few ys (n - y) in let one = small (nat_lt n y) in omega (arith, rest, one)
      where
        small : (b : Bool) → (if b then 1 else 0) ≤ 1
        small true = le_refl 1
        small false = omega arith
unreached_past (x ∷ xs) ys n h = by_size (nat_lt n x) refl (unreached_past xs ys (n - x) (omega (arith, h)))
  where
    by_size : (b : Bool) → nat_lt n x ≡ b → unreached (xs ++ ys) (n - x) ≤ length ys → (if b then 1 else 0) + unreached (xs ++ ys) (n - x) ≤ length ys
    by_size true e rest = let less = ltb-true n x e in absurd (omega (arith, h, less))
    by_size false e rest = omega (arith, rest)

pub held_past : (xs ys : List Accepted) (n : ℕ) → total (map (λ (a : Accepted). a.size) xs) ≤ n → held_back (xs ++ ys) n ≤ length ys
held_past [] ys n h = few ys n
  where
    behind_few : (ended : Bool) (ys : List Accepted) → behind ended ys ≤ length ys
    behind_few ended [] = le_refl 0
    behind_few ended (a ∷ ys) = let rest = behind_few (ended || a.closes) ys in let one = small (ended || nat_lt 0 a.size) in omega (arith, rest, one)
      where
        small : (b : Bool) → (if b then 1 else 0) ≤ 1
        small true = le_refl 1
        small false = omega arith

    few : (ys : List Accepted) (n : ℕ) → held_back ys n ≤ length ys
    few [] n = le_refl 0
    few (a ∷ ys) n = by_size (nat_lt n a.size) (behind_few a.closes ys) (few ys (n - a.size))
      where
        by_size : (b : Bool) → behind a.closes ys ≤ length ys → held_back ys (n - a.size) ≤ length ys → (if b then 1 + behind a.closes ys else held_back ys (n - a.size)) ≤ suc (length ys)
        by_size true p q = omega (arith, p)
        by_size false p q = omega (arith, q)
held_past (x ∷ xs) ys n h = by_size (nat_lt n x.size) refl (held_past xs ys (n - x.size) (omega (arith, h)))
  where
    by_size : (b : Bool) → nat_lt n x.size ≡ b → held_back (xs ++ ys) (n - x.size) ≤ length ys → (if b then 1 + behind x.closes (xs ++ ys) else held_back (xs ++ ys) (n - x.size)) ≤ length ys
    by_size true e rest = let less = ltb-true n x.size e in absurd (omega (arith, h, less))
    by_size false e rest = rest

pub within_front : (ls us : List ℕ) → AreWithin ls us → (xs rest : List ℕ) → xs ++ rest ≡ ls → AreWithin xs us
within_front ls us all_placed [] rest e = all_placed
within_front ls us all_placed (x ∷ xs) rest e = cc
within_front ls us (placed fits w) [] rest e = all_placed
within_front ls us (placed {size} {room} {lower} {upper} fits w) (x ∷ xs) rest e =
    let same : size ≡ x = cc in
    let later : xs ++ rest ≡ lower = cc in
    placed (subst (λ n. n ≤ room) same fits) (subst (λ n. AreWithin xs ((room - n) ∷ upper)) same (within_front lower _ w xs rest later))
within_front ls us (next_room w) xs rest e = next_room (within_front ls _ w xs rest e)

-- ---- a shape of the same words has the same operations

module _ (target : Target) (upper lower : Shape) (same : lower.word_bytes ≡ upper.word_bytes) where
  pub same_operations : (m : Marked) → operations_in target lower m ≡ operations_in target upper m
  same_operations m = ap (λ n. operations_in target (record upper { word_bytes = n }) m) same

  pub same_among : (ms : List Marked) → operations_among target lower ms ≡ operations_among target upper ms
  same_among ms = ap (λ n. operations_among target (record upper { word_bytes = n }) ms) same

  pub same_items : (acted : Bool) (ms : List Marked) → items_from target lower acted ms ≡ items_from target upper acted ms
  same_items acted ms = ap (λ n. items_from target (record upper { word_bytes = n }) acted ms) same

  pub same_sizes : (ms : List Marked) → sizes target lower ms ≡ sizes target upper ms
  same_sizes ms = ap (λ n. sizes target (record upper { word_bytes = n }) ms) same

  pub same_lanes : (ms : List Marked) → list_all (have_operations target lower) ms ≡ list_all (have_operations target upper) ms
  same_lanes ms = ap (λ n. list_all (have_operations target (record upper { word_bytes = n })) ms) same

pub same_joined : (target : Target) (up down : Port) → down.shape.word_bytes ≡ up.shape.word_bytes → (ms : List Marked) → are_joined_alike target down ms ≡ are_joined_alike target up ms
same_joined target up down same [] = refl
same_joined target up down same (m ∷ []) = refl
same_joined target up down same (m ∷ n ∷ later) =
    ap₂ (λ a b. a && b) (ap (λ k. closes m || goes_on_alike target (record up { shape = record up.shape { word_bytes = k } }) m n) same) (same_joined target up down same (n ∷ later))

-- ---- the parts of a list

pub or_nil : {A : Type 0} (xs : List A) → is_nonempty (xs ++ []) ≡ is_nonempty xs
or_nil [] = refl
or_nil (x ∷ xs) = refl

flat_flat : {A B C : Type 0} (f : A → List B) (g : B → List C) (xs : List A) → flat_map (λ x. flat_map g (f x)) xs ≡ flat_map g (flat_map f xs)
flat_flat f g [] = refl
flat_flat f g (x ∷ xs) = ap (λ l. flat_map g (f x) ++ l) (flat_flat f g xs) ∙ sym (flat_map-append g (f x) (flat_map f xs))

or_append : {A : Type 0} (a : Bool) (xs ys : List A) → (a || is_nonempty xs) || is_nonempty ys ≡ a || is_nonempty (xs ++ ys)
or_append true xs ys = refl
or_append false [] ys = refl
or_append false (x ∷ xs) ys = refl

module _ (target : Target) (shape : Shape) where
  abbrev ops : Marked → List Operation
  ops m = operations_in target shape m

  abbrev among : List Marked → List Operation
  among ms = operations_among target shape ms

  abbrev All : List Step → Type 0
  All ss = AllSent target shape ss

  parts_operations : (s : Step) → IsSent target shape s → among s.parts ≡ ops s.above
  parts_operations s sent = flat_flat beats_in (beat_operations target shape) s.parts ∙ ap (flat_map (beat_operations target shape)) sent.beats

  pub all_operations : (ss : List Step) → All ss → among (parts_of ss) ≡ among (map above_of ss)
  all_operations [] all = refl
  all_operations (s ∷ ss) all = flat_map-append ops s.parts (parts_of ss) ∙ ap₂ (λ x y. x ++ y) (parts_operations s all.0) (all_operations ss all.1)

  -- items
  part_items : (m : Marked) (ps : List Marked) → AreParts target shape m ps → (acted : Bool) (rest : List Marked) → items_from target shape acted (ps ++ rest)
      ≡ (map (Acts m.tag) (among ps) ++ only_if (not m.more && (acted || is_nonempty (among ps))) (Ends m.tag)) ++ items_from target shape (not (not m.more) && (acted || is_nonempty (among ps))) rest
  part_items m [] are acted rest = absurd are
  part_items m (p ∷ []) are acted rest =
      let is = are.0 in
      ap₂ (λ t o. (map (Acts t) o ++ only_if (closes p && (acted || is_nonempty o)) (Ends t)) ++ items_from target shape (not (closes p) && (acted || is_nonempty o)) rest) is.tag (sym (append-nil (ops p)))
      ∙ ap (λ k. (map (Acts m.tag) (among (p ∷ [])) ++ only_if (k && (acted || is_nonempty (among (p ∷ [])))) (Ends m.tag)) ++ items_from target shape (not k && (acted || is_nonempty (among (p ∷ [])))) rest) (is.closes_so ∙ ap not are.1)
  part_items m (p ∷ q ∷ ps) are acted rest =
      let is = are.0 in
      let o = ops p in
      let later = among (q ∷ ps) in
      ap₂ (λ t k. (map (Acts t) o ++ only_if (k && (acted || is_nonempty o)) (Ends t)) ++ items_from target shape (not k && (acted || is_nonempty o)) ((q ∷ ps) ++ rest)) is.tag (is.closes_so ∙ ap not are.1)
      ∙ ap (λ l. l ++ items_from target shape (acted || is_nonempty o) ((q ∷ ps) ++ rest)) (append-nil (map (Acts m.tag) o))
      ∙ ap (λ l. map (Acts m.tag) o ++ l) (part_items m (q ∷ ps) are.2 (acted || is_nonempty o) rest)
      ∙ sym (append_assoc (map (Acts m.tag) o) (map (Acts m.tag) later ++ only_if (not m.more && ((acted || is_nonempty o) || is_nonempty later)) (Ends m.tag)) _)
      ∙ ap (λ l. l ++ items_from target shape (not (not m.more) && ((acted || is_nonempty o) || is_nonempty later)) rest) (sym (append_assoc (map (Acts m.tag) o) (map (Acts m.tag) later) _) ∙ ap (λ l. l ++ only_if (not m.more && ((acted || is_nonempty o) || is_nonempty later)) (Ends m.tag)) (sym (map-append (Acts m.tag) o later)))
      ∙ ap (λ k. (map (Acts m.tag) (o ++ later) ++ only_if (not m.more && k) (Ends m.tag)) ++ items_from target shape (not (not m.more) && k) rest) (or_append acted o later)

  pub all_items : (ss : List Step) → All ss → (acted : Bool) → items_from target shape acted (parts_of ss) ≡ items_from target shape acted (map above_of ss)
  all_items [] all acted = refl
  all_items (s ∷ ss) all acted =
      let m = s.above in
      part_items m s.parts all.0.parts acted (parts_of ss)
      ∙ ap₂ (λ o k. (map (Acts m.tag) o ++ only_if (k && (acted || is_nonempty o)) (Ends m.tag)) ++ items_from target shape (not k && (acted || is_nonempty o)) (parts_of ss)) (parts_operations s all.0) (sym all.0.closes_so)
      ∙ ap (λ l. items_of target shape acted m ++ l) (all_items ss all.1 (acted_after target shape acted m))

  -- beats
  kept_parts : (test : Marked → Bool) (m : Marked) → ((p : Marked) → IsPartOf target shape m p → test p ≡ test m) → (ps : List Marked) → AreParts target shape m ps → (rest : List Marked) →
      beats_of (filter test (ps ++ rest)) ≡ (if test m then beats_of ps else []) ++ beats_of (filter test rest)
  kept_parts test m tests [] are rest = absurd are
  kept_parts test m tests (p ∷ []) are rest = ap (λ k. beats_of (if k then p ∷ filter test rest else filter test rest)) (tests p are.0) ∙ by_test (test m)
    where
      by_test : (k : Bool) → beats_of (if k then p ∷ filter test rest else filter test rest) ≡ (if k then p.transfer.beats ++ [] else []) ++ beats_of (filter test rest)
      by_test true = ap (λ l. l ++ beats_of (filter test rest)) (sym (append-nil p.transfer.beats))
      by_test false = refl
  kept_parts test m tests (p ∷ q ∷ ps) are rest = ap (λ k. beats_of (if k then p ∷ filter test ((q ∷ ps) ++ rest) else filter test ((q ∷ ps) ++ rest))) (tests p are.0) ∙ by_test (test m) (kept_parts test m tests (q ∷ ps) are.2 rest)
    where
      by_test : (k : Bool) → beats_of (filter test ((q ∷ ps) ++ rest)) ≡ (if k then beats_of (q ∷ ps) else []) ++ beats_of (filter test rest) →
          beats_of (if k then p ∷ filter test ((q ∷ ps) ++ rest) else filter test ((q ∷ ps) ++ rest)) ≡ (if k then beats_of (p ∷ q ∷ ps) else []) ++ beats_of (filter test rest)
      by_test true later = ap (λ l. p.transfer.beats ++ l) later ∙ sym (append_assoc p.transfer.beats (beats_of (q ∷ ps)) (beats_of (filter test rest)))
      by_test false later = later

  kept_all : (test : Marked → Bool) → ((m p : Marked) → IsPartOf target shape m p → test p ≡ test m) → (ss : List Step) → All ss → beats_of (filter test (parts_of ss)) ≡ beats_of (filter test (map above_of ss))
  kept_all test tests [] all = refl
  kept_all test tests (s ∷ ss) all =
      kept_parts test s.above (tests s.above) s.parts all.0.parts (parts_of ss)
      ∙ ap₂ (λ bs l. (if test s.above then bs else []) ++ l) all.0.beats (kept_all test tests ss all.1) ∙ by_test (test s.above)
    where
      by_test : (k : Bool) → (if k then s.above.transfer.beats else []) ++ beats_of (filter test (map above_of ss)) ≡ beats_of (if k then s.above ∷ filter test (map above_of ss) else filter test (map above_of ss))
      by_test true = refl
      by_test false = refl

  pub all_reads : (ss : List Step) → All ss → read_beats (parts_of ss) ≡ read_beats (map above_of ss)
  all_reads = kept_all (λ (m : Marked). is_of_reads m.transfer.kind) (λ m p is. ap is_of_reads is.kind)

  pub all_tagged : (tag : ℕ) (ss : List Step) → All ss → beats_with tag (parts_of ss) ≡ beats_with tag (map above_of ss)
  all_tagged tag = kept_all (λ (m : Marked). nat_eq m.tag tag) (λ m p is. ap (λ t. nat_eq t tag) is.tag)

  -- ---- lanes

  all_behind : {A : Type 0} (test : A → Bool) (xs ys : List A) → IsTrue (list_all test (xs ++ ys)) → IsTrue (list_all test xs) × IsTrue (list_all test ys)
  all_behind test [] ys h = (refl, h)
  all_behind test (x ∷ xs) ys h =
      let here = and_parts (test x) (list_all test (xs ++ ys)) h in
      let rest = all_behind test xs ys here.1 in
      (and_from _ _ here.0 rest.0, rest.1)

  parts_have : (ps : List Marked) → IsTrue (list_all (λ (b : Beat). is_nonempty (beat_operations target shape b)) (beats_of ps)) → IsTrue (list_all (have_operations target shape) ps)
  parts_have [] h = refl
  parts_have (p ∷ ps) h =
      let both = all_behind (λ (b : Beat). is_nonempty (beat_operations target shape b)) p.transfer.beats (beats_of ps) h in
      and_from _ _ both.0 (parts_have ps both.1)

  pub lanes_below : (ss : List Step) → All ss → IsTrue (list_all (have_operations target shape) (map above_of ss)) → IsTrue (list_all (have_operations target shape) (parts_of ss))
  lanes_below [] all h = refl
  lanes_below (s ∷ ss) all h =
      let both = and_parts (have_operations target shape s.above) (list_all (have_operations target shape) (map above_of ss)) h in
      all_append (have_operations target shape) s.parts (parts_of ss)
      (parts_have s.parts (subst (λ l. IsTrue (list_all (λ (b : Beat). is_nonempty (beat_operations target shape b)) l)) (sym all.0.beats) both.0)) (lanes_below ss all.1 both.1)

  -- ---- sizes

  fill : (m : Marked) (ps : List Marked) → AreParts target shape m ps → (ls us : List ℕ) → AreWithin ls us → AreWithin (sizes target shape ps ++ ls) (length (among ps) ∷ us)
  fill m [] are ls us within = absurd are
  fill m (p ∷ []) are ls us within =
      let room = length-append (ops p) [] in
      let none : length (among (p ∷ [])) - length (ops p) ≡ 0 = omega (arith, room) in
      placed (omega (arith, room)) (subst (λ n. AreWithin ls (n ∷ us)) (sym none) (next_room within))
  fill m (p ∷ q ∷ ps) are ls us within =
      let room = length-append (ops p) (among (q ∷ ps)) in
      let left : length (among (p ∷ q ∷ ps)) - length (ops p) ≡ length (among (q ∷ ps)) = omega (arith, room) in
      placed (omega (arith, room)) (subst (λ n. AreWithin (sizes target shape (q ∷ ps) ++ ls) (n ∷ us)) (sym left) (fill m (q ∷ ps) are.2 ls us within))

  pub within_below : (ss : List Step) → All ss → AreWithin (sizes target shape (parts_of ss)) (sizes target shape (map above_of ss))
  within_below [] all = all_placed
  within_below (s ∷ ss) all =
      subst (λ l. AreWithin l (sizes target shape (map above_of (s ∷ ss)))) (sym (map-append (λ (m : Marked). length (ops m)) s.parts (parts_of ss)))
      (subst (λ (o : List Operation). AreWithin (sizes target shape s.parts ++ sizes target shape (parts_of ss)) (length o ∷ sizes target shape (map above_of ss))) (parts_operations s all.0)
      (fill s.above s.parts all.0.parts (sizes target shape (parts_of ss)) (sizes target shape (map above_of ss)) (within_below ss all.1)))

  -- ---- the last of all

  module _ (test : Marked → Bool) (tests : (m p : Marked) → IsPartOf target shape m p → p.more ≡ m.more → test p ≡ test m) where
    last_part : (m : Marked) (ps : List Marked) → AreParts target shape m ps → last_is test ps ≡ test m
    last_part m [] are = absurd are
    last_part m (p ∷ []) are = tests m p are.0 are.1
    last_part m (p ∷ q ∷ ps) are = last_part m (q ∷ ps) are.2

    pub last_below : (ss : List Step) → All ss → last_is test (parts_of ss) ≡ last_is test (map above_of ss)
    last_below [] all = refl
    last_below (s ∷ []) all = ap (last_is test) (append-nil s.parts) ∙ last_part s.above s.parts all.0.parts
    last_below (s ∷ t ∷ ss) all =
        let head = first_of target shape t.above t.parts all.1.0.parts in
        let list : parts_of (t ∷ ss) ≡ head.first ∷ (head.later ++ parts_of ss) = ap (λ l. l ++ parts_of ss) head.whole in
        ap (λ l. last_is test (s.parts ++ l)) list ∙ last_behind test s.parts head.first (head.later ++ parts_of ss) ∙ ap (last_is test) (sym list) ∙ last_below (t ∷ ss) all.1

  pub more_below : (ss : List Step) → All ss → is_last_joined (parts_of ss) ≡ is_last_joined (map above_of ss)
  more_below ss all = joined_is (parts_of ss) ∙ last_below has_more (λ m p is more. more) ss all ∙ sym (joined_is (map above_of ss))

  pub write_below : (ss : List Step) → All ss → is_last_write (parts_of ss) ≡ is_last_write (map above_of ss)
  write_below ss all = written_is (parts_of ss) ∙ last_below is_write (λ m p is more. ap (λ k. not (is_of_reads k)) is.kind) ss all ∙ sym (written_is (map above_of ss))

-- ---- joined transfers

module _ (target : Target) (up : Port) where
  abbrev AreOf : Marked → List Marked → Type 0
  AreOf m ps = AreParts target up.shape m ps

  abbrev IsOf : Marked → Marked → Type 0
  IsOf m p = IsPartOf target up.shape m p

  goes_as : (m n p q : Marked) → IsOf m p → IsOf n q → goes_on_alike target up p q ≡ goes_on_alike target up m n
  goes_as m n p q a b =
      ap₂ (λ x y. x && y)
      (ap₂ (λ x y. x && y) (ap₂ nat_eq a.tag b.tag) (ap₂ (λ x y. is_same (is_of_reads x) (is_of_reads y)) a.kind b.kind))
      (ap₂ (λ x y. not x || y) (ap is_of_reads a.kind) (ap₂ (λ x y. is_same x y) a.acts b.acts))

  itself : (b : Bool) → IsTrue (is_same b b)
  itself true = refl
  itself false = refl

  goes_itself : (m : Marked) → IsTrue (goes_on_alike target up m m)
  goes_itself m = and_from _ _ (and_from _ _ (eq-eqb m.tag m.tag refl) (itself (is_of_reads m.transfer.kind))) (or_right (not (is_of_reads m.transfer.kind)) _ (itself (is_nonempty (operations_in target up.shape m))))

  parts_alike : (m : Marked) (ps : List Marked) → AreOf m ps → closes m ≡ not m.more → (ss : List Step) → AllSent target up.shape ss → IsTrue (are_joined_alike target up (m ∷ map above_of ss)) → IsTrue (are_joined_alike target up (parts_of ss)) →
      IsTrue (are_joined_alike target up (ps ++ parts_of ss))
  parts_alike m [] are close ss all joined rest = absurd are
  parts_alike m (p ∷ []) are close [] all joined rest = refl
  parts_alike m (p ∷ []) are close (s ∷ ss) all joined rest =
      let is = are.0 in
      let head = first_of target up.shape s.above s.parts all.0.parts in
      let both = and_parts (closes m || goes_on_alike target up m s.above) (are_joined_alike target up (s.above ∷ map above_of ss)) joined in
      let list : parts_of (s ∷ ss) ≡ head.first ∷ (head.later ++ parts_of ss) = ap (λ l. l ++ parts_of ss) head.whole in
      subst (λ l. IsTrue (are_joined_alike target up (p ∷ l))) (sym list)
      (and_from _ _ (ap₂ (λ x y. x || y) (is.closes_so ∙ ap not are.1 ∙ sym close) (goes_as m s.above p head.first is head.part) ∙ both.0) (subst (λ l. IsTrue (are_joined_alike target up l)) list rest))
  parts_alike m (p ∷ q ∷ ps) are close ss all joined rest =
      let head = first_of target up.shape m (q ∷ ps) are.2 in
      let same_first : q ≡ head.first = (let e = head.whole in cc) in
      let part : IsOf m q = subst (IsOf m) (sym same_first) head.part in
      and_from _ _ (or_right (closes p) _ (goes_as m m p q are.0 part ∙ goes_itself m)) (parts_alike m (q ∷ ps) are.2 close ss all joined rest)

  pub joins_below : (ss : List Step) → AllSent target up.shape ss → IsTrue (are_joined_alike target up (map above_of ss)) → IsTrue (are_joined_alike target up (parts_of ss))
  joins_below [] all h = refl
  joins_below (s ∷ ss) all h = parts_alike s.above s.parts all.0.parts all.0.closes_so ss all.1 h (joins_below ss all.1 (tail_alike target up s.above (map above_of ss) h))
