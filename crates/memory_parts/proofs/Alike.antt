-- Beats at an agent that do what the beats above it ask.
use Rattle.std.proofs.Common.{ℕ, zero, suc, ◌<◌, ◌≡◌, ◌+◌, ◌*◌, ◌/◌, ◌%◌, ◌^◌, [], ◌∷◌, ◌++◌, List, Bool, true, false, if◌then◌else◌, min, arith, refl, sym, ap, ap₂, ◌∙◌, length, map, filter, flat_map, nat_eq, append-nil, length-append, zero-mul}
use Rattle.std.specs.List.{list_any}
use Rattle.std.proofs.lemmas.List.{map-append}
use Rattle.std.proofs.lemmas.List.Elements.{filter-append}
use Rattle.std.proofs.lemmas.Grind.{flat_map-append}
use Rattle.std.proofs.Math.Nat.{mod-add-mod, two-pow-succ, div-div-eq-div-mul, div_self}
use Rattle.histories.specs.History.{numbers, total}
use Rattle.memory_runs.specs.Views.{Shape}
use Rattle.memory_runs.specs.Operations.{Beat, Operation, operation_at, operation_of_kind, byte_at, own_operations, operations_of, is_enabled, filled_lanes, filled_of_piece, pieces}
use Rattle.memory_runs.specs.Order.{Tagged, TaggedBeat}
use Rattle.memory_machines.specs.Link.{Target, Marked}
use Rattle.memory_machines.specs.Lines.{Group, group_of, groups_of, tagged_operations, beats_of}

-- ---- lanes

pub keeps_all : (f : ℕ → Bool) (first count : ℕ) → ((lane : ℕ) → lane < first + count → f lane ≡ true) → filter f (numbers first count) ≡ numbers first count
keeps_all f first zero all = refl
keeps_all f first (suc count) all = let here = all first (omega arith) in rw here (ap (λ l. first ∷ l) (keeps_all f (suc first) count (λ lane low. all lane (omega arith))))

twice_is : (n : ℕ) → n + n ≡ 2 * n
twice_is n = omega arith

-- all lanes are set in a value of all ones
pub all_set : (n ones lane : ℕ) → ones + 1 ≡ 2 ^ n → lane < n → is_enabled ones lane ≡ true
all_set zero ones lane e low = absurd (omega arith)
all_set (suc n) ones zero e low =
    let twice = two-pow-succ n in
    let odd : (ones / 2 ^ 0) % 2 ≡ 1 = omega (arith, twice, e) in
    ap (λ k. nat_eq k 1) odd
all_set (suc n) ones (suc lane) e low =
    let twice = two-pow-succ n in
    let half : ones / 2 + 1 ≡ 2 ^ n = omega (arith, twice, e) in
    let power = two-pow-succ lane in
    let step : ones / 2 ^ suc lane ≡ (ones / 2) / 2 ^ lane = ap (λ d. ones / d) (power ∙ twice_is (2 ^ lane)) ∙ sym (div-div-eq-div-mul ones 2 (2 ^ lane)) in
    ap (λ k. nat_eq (k % 2) 1) step ∙ all_set n (ones / 2) lane half (omega arith)

pub filled_are : (from to : Shape) (enables : ℕ) → from.word_bytes ≡ to.word_bytes → 0 < to.word_bytes →
    filled_lanes from to enables ≡ (if to.has_enables then filter (is_enabled enables) (numbers 0 to.word_bytes) else if list_any (is_enabled enables) (numbers 0 to.word_bytes) then numbers 0 to.word_bytes else [])
filled_are from to enables same some =
    let least : min from.word_bytes to.word_bytes ≡ to.word_bytes = omega (arith, same) in
    let one : pieces from to ≡ 1 = ap₂ (λ a b. a / b) same least ∙ div_self some in
    let none : 0 * to.word_bytes ≡ 0 = zero-mul to.word_bytes in
    ap (λ n. flat_map (filled_of_piece from to enables) (numbers 0 n)) one ∙ append-nil (filled_of_piece from to enables 0)
    ∙ ap (λ n. if to.has_enables then filter (is_enabled enables) (numbers (0 * n) n) else if list_any (is_enabled enables) (numbers (0 * n) n) then numbers (0 * n) n else []) least
    ∙ ap (λ n. if to.has_enables then filter (is_enabled enables) (numbers n to.word_bytes) else if list_any (is_enabled enables) (numbers n to.word_bytes) then numbers n to.word_bytes else []) none

-- ---- one beat

pub record IsAlike (from to : Shape) (span : ℕ) (above below : Beat) : Type 0 where
  pub kind : below.kind ≡ above.kind
  pub place : below.address % span ≡ above.address % span
  pub word : below.word ≡ above.word
  pub lanes : filter (is_enabled below.enables) (numbers 0 to.word_bytes) ≡ filled_lanes from to above.enables

pub map_same : {A B : Type 0} (f g : A → B) → ((x : A) → f x ≡ g x) → (xs : List A) → map f xs ≡ map g xs
map_same f g same [] = refl
map_same f g same (x ∷ xs) = ap₂ (λ y ys. y ∷ ys) (same x) (map_same f g same xs)

module _ (from to : Shape) (span : ℕ) where
  pub same_operations : (above below : Beat) → IsAlike from to span above below → own_operations to span below ≡ operations_of from to span above
  same_operations above below alike =
      ap (map (operation_at span below)) alike.lanes ∙ map_same (operation_at span below) (operation_at span above) same (filled_lanes from to above.enables)
    where
      same : (lane : ℕ) → operation_at span below lane ≡ operation_at span above lane
      same lane =
          ap₂ (λ k w. operation_of_kind k ((below.address + lane) % span) (byte_at w lane)) alike.kind alike.word
          ∙ ap (λ p. operation_of_kind above.kind p (byte_at above.word lane)) (sym (mod-add-mod below.address span lane) ∙ ap (λ p. (p + lane) % span) alike.place ∙ mod-add-mod above.address span lane)

  -- ---- lists of beats with their tags

  pub data AreAlike : List TaggedBeat → List TaggedBeat → Type 0 where
    no_beats : AreAlike [] []
    one_more : {above below : TaggedBeat} {aboves belows : List TaggedBeat} → below.tag ≡ above.tag → IsAlike from to span above.beat below.beat → AreAlike aboves belows → AreAlike (above ∷ aboves) (below ∷ belows)

  pub alike_append : {aboves belows more_above more_below : List TaggedBeat} → AreAlike aboves belows → AreAlike more_above more_below → AreAlike (aboves ++ more_above) (belows ++ more_below)
  alike_append no_beats more = more
  alike_append (one_more tag beat rest) more = one_more tag beat (alike_append rest more)

abbrev pub tag_all : ℕ → List Beat → List TaggedBeat
tag_all tag beats = map (λ b. record { tag = tag; beat = b }) beats

abbrev pub tagged_beats : List Marked → List TaggedBeat
tagged_beats ms = flat_map (λ (m : Marked). tag_all m.tag m.transfer.beats) ms

abbrev tagged_by : ℕ → Operation → Tagged
tagged_by tag o = record { tag = tag; operation = o }

-- what tagged beats do at the words of the other end
abbrev pub acts_of : Shape → Shape → ℕ → TaggedBeat → List Tagged
acts_of from to span t = map (tagged_by t.tag) (operations_of from to span t.beat)

abbrev pub own_acts : Shape → ℕ → TaggedBeat → List Tagged
own_acts to span t = map (tagged_by t.tag) (own_operations to span t.beat)

pub acts_alike : (from to : Shape) (span : ℕ) (aboves belows : List TaggedBeat) → AreAlike from to span aboves belows → flat_map (own_acts to span) belows ≡ flat_map (acts_of from to span) aboves
acts_alike from to span [] [] no_beats = refl
acts_alike from to span [] (below ∷ belows) x = elim x [ ]
acts_alike from to span (above ∷ aboves) [] x = elim x [ ]
acts_alike from to span (above ∷ aboves) (below ∷ belows) (one_more tag beat rest) =
    ap₂ (λ x y. x ++ y) (ap₂ (λ t l. map (tagged_by t) l) tag (same_operations from to span above.beat below.beat beat)) (acts_alike from to span aboves belows rest)

acts_of_beats : (from to : Shape) (span tag : ℕ) (beats : List Beat) → flat_map (acts_of from to span) (tag_all tag beats) ≡ map (tagged_by tag) (flat_map (operations_of from to span) beats)
acts_of_beats from to span tag [] = refl
acts_of_beats from to span tag (b ∷ beats) =
    ap (λ l. map (tagged_by tag) (operations_of from to span b) ++ l) (acts_of_beats from to span tag beats) ∙ sym (map-append (tagged_by tag) (operations_of from to span b) (flat_map (operations_of from to span) beats))

-- the operations of groups are those of their beats
pub acts_of_groups : (target : Target) (from : Shape) (ms : List Marked) → flat_map (acts_of from target.shape target.span) (tagged_beats ms) ≡ tagged_operations (groups_of target from ms)
acts_of_groups target from [] = refl
acts_of_groups target from (m ∷ ms) =
    flat_map-append (acts_of from target.shape target.span) (tag_all m.tag m.transfer.beats) (tagged_beats ms)
    ∙ ap₂ (λ x y. x ++ y) (acts_of_beats from target.shape target.span m.tag m.transfer.beats) (acts_of_groups target from ms)

-- as many beats with each tag
pub counts_alike : (from to : Shape) (span h : ℕ) (aboves belows : List TaggedBeat) → AreAlike from to span aboves belows →
    length (filter (λ (t : TaggedBeat). nat_eq t.tag h) belows) ≡ length (filter (λ (t : TaggedBeat). nat_eq t.tag h) aboves)
counts_alike from to span h [] [] no_beats = refl
counts_alike from to span h [] (below ∷ belows) x = elim x [ ]
counts_alike from to span h (above ∷ aboves) [] x = elim x [ ]
counts_alike from to span h (above ∷ aboves) (below ∷ belows) (one_more tag beat rest) = by_test (nat_eq above.tag h) refl (counts_alike from to span h aboves belows rest)
  where
    by_test : (b : Bool) → nat_eq above.tag h ≡ b → length (filter (λ (t : TaggedBeat). nat_eq t.tag h) belows) ≡ length (filter (λ (t : TaggedBeat). nat_eq t.tag h) aboves) →
        length (filter (λ (t : TaggedBeat). nat_eq t.tag h) (below ∷ belows)) ≡ length (filter (λ (t : TaggedBeat). nat_eq t.tag h) (above ∷ aboves))
    by_test true e ih = let low : nat_eq below.tag h ≡ true = ap (λ t. nat_eq t h) tag ∙ e in rw (e, low) (ap suc ih)
    by_test false e ih = let low : nat_eq below.tag h ≡ false = ap (λ t. nat_eq t h) tag ∙ e in rw (e, low) ih

beats_with_tag : (h tag : ℕ) (beats : List Beat) (b : Bool) → nat_eq tag h ≡ b → length (filter (λ (t : TaggedBeat). nat_eq t.tag h) (tag_all tag beats)) ≡ (if b then length beats else 0)
beats_with_tag h tag [] true e = refl
beats_with_tag h tag [] false e = refl
beats_with_tag h tag (x ∷ beats) true e = rw e (ap suc (beats_with_tag h tag beats true e))
beats_with_tag h tag (x ∷ beats) false e = rw e (beats_with_tag h tag beats false e)

pub counts_of_groups : (target : Target) (from : Shape) (h : ℕ) (ms : List Marked) → length (filter (λ (t : TaggedBeat). nat_eq t.tag h) (tagged_beats ms)) ≡ beats_of h (groups_of target from ms)
counts_of_groups target from h [] = refl
counts_of_groups target from h (m ∷ ms) = by_test (nat_eq m.tag h) refl (counts_of_groups target from h ms)
  where
    by_test : (b : Bool) → nat_eq m.tag h ≡ b → length (filter (λ (t : TaggedBeat). nat_eq t.tag h) (tagged_beats ms)) ≡ beats_of h (groups_of target from ms) →
        length (filter (λ (t : TaggedBeat). nat_eq t.tag h) (tag_all m.tag m.transfer.beats ++ tagged_beats ms)) ≡ total (map (λ (g : Group). g.beats) (if nat_eq m.tag h then group_of target from m ∷ filter (λ (g : Group). nat_eq g.tag h) (groups_of target from ms) else filter (λ (g : Group). nat_eq g.tag h) (groups_of target from ms)))
    by_test b e ih =
        ap length (filter-append (λ (t : TaggedBeat). nat_eq t.tag h) (tag_all m.tag m.transfer.beats) (tagged_beats ms))
        ∙ length-append (filter (λ (t : TaggedBeat). nat_eq t.tag h) (tag_all m.tag m.transfer.beats)) (filter (λ (t : TaggedBeat). nat_eq t.tag h) (tagged_beats ms))
        ∙ ap₂ (λ x y. x + y) (beats_with_tag h m.tag m.transfer.beats b e) ih ∙ sum b e
      where
        sum : (b : Bool) → nat_eq m.tag h ≡ b → (if b then length m.transfer.beats else 0) + beats_of h (groups_of target from ms) ≡ total (map (λ (g : Group). g.beats) (if nat_eq m.tag h then group_of target from m ∷ filter (λ (g : Group). nat_eq g.tag h) (groups_of target from ms) else filter (λ (g : Group). nat_eq g.tag h) (groups_of target from ms)))
        sum true e = rw e refl
        sum false e = rw e (omega arith)
