-- What drops beats without a lane: two steps for each beat above, one for a kept beat, and one for a word that it owes itself.
use Rattle.std.proofs.Common.{◌≡◌, ℕ, zero, suc, ◌+◌, ◌*◌, ◌<◌, ◌≤◌, ◌⊎◌, inl, inr, Bool, true, false, not, ◌&&◌, ◌||◌, List, [], ◌∷◌, ◌++◌, length, map, filter, flat_map, nat_eq, nat_lt, min, ◌/◌, if◌then◌else◌, arith, refl, sym, ap, ap₂, ◌∙◌, subst, IsTrue, IsFalse, tests, lt-ltb, ltb-false, zero-mul}
use Rattle.std.specs.List.{list_any}
use Rattle.std.proofs.lemmas.Bool.{and_parts}
use Rattle.histories.specs.History.{is_raised, one_if, numbers}
use Rattle.memory_runs.specs.Views.{Shape, Levels, levels_at}
use Rattle.memory_runs.specs.Laws.{same_pieces}
use Rattle.memory_runs.specs.Operations.{filled_lanes, filled_of_piece, operation_at, is_enabled, pieces}
use Rattle.memory_runs.specs.Commands.{shows, is_held, is_of_reads, read_beat, presents, longest_burst}
use Rattle.memory_runs.specs.Legal.{is_under_way}
use Rattle.memory_machines.specs.Link.{Target, Port, Marked, AreLegalAt, AnswersAreOwed, takes, taken_at, marked_at, closes, is_last_joined, is_nonempty, operations_in, words_at, words_owed}
use Rattle.memory_machines.specs.Machines.{Raw, raw_at}
use Rattle.memory_machines.specs.PartRanks.{JoinsAlike, are_joined_alike, goes_on_alike, is_same}
use Rattle.memory_machines.specs.SideLaws.{taken_is_shown}
use Rattle.memory_links.specs.Selects.{takes_read}
use Rattle.memory_links.specs.Drops.{DropState, RunsAsDrop, IsDropPlan, Standing, any_lane, sends, accepted, keeps, owes_itself, standing_at, sent_beat}
use Rattle.memory_awake.specs.Steps.{HasStepsLeft}
use Rattle.memory_parts.specs.Steps.{is_gone}
use Rattle.memory_waits.proofs.Bits.{no_true, no_both, takes_shows, not_shown, none_taken, one_taken}
use Rattle.memory_waits.proofs.Cuts.{read_asks, write_asks, took_asks, still_asks}
use Rattle.memory_waits.proofs.Rows.{few_words, joins_more, not_closed, last_joined_end, words_by}

-- ---- one cycle, by what stands above

abbrev pub now : Bool → Bool → Bool → Bool → Bool → ℕ → Standing
now s w a m h r = record { shown = s; writes = w; acts = a; more = m; holds = h; reads = r }

-- a beat is taken below that joins another: the beat above is accepted, or the kept one goes before it
record HandsOn (w a m u k o : Bool) : Type 0 where
  taken : u ≡ true
  more : m ≡ true
  free : o ≡ false
  which : (k ≡ true) ⊎ ((w ≡ false) × (a ≡ true))

record SendsKept (s a h u k o : Bool) : Type 0 where
  shown : s ≡ true
  acts : a ≡ true
  kept : h ≡ true
  waits : u ≡ false
  none : k ≡ false
  free : o ≡ false

abbrev Hands : Standing → Type 0
Hands n = HandsOn n.writes n.acts n.more (accepted n true) (keeps n true) (owes_itself n true) ⊎ SendsKept n.shown n.acts n.holds (accepted n true) (keeps n true) (owes_itself n true)

hands : (room : ℕ) (s w a m h : Bool) (r : ℕ) → sends room (now s w a m h r) ≡ true → (if h then a else m) ≡ true → Hands (now s w a m h r)
hands room false w a m h r e f = absurd cc
hands room true w false m true r e f = absurd cc
hands room true true true true true r e f = inl (record { taken = refl; more = refl; free = refl; which = inl refl })
hands room true true true false true r e f = inr (record { shown = refl; acts = refl; kept = refl; waits = refl; none = refl; free = refl })
hands room true false true m true r e f = inr (record { shown = refl; acts = refl; kept = refl; waits = refl; none = refl; free = refl })
hands room true w a false false r e f = absurd cc
hands room true w false true false r e f = absurd cc
hands room true true true true false r e f = absurd cc
hands room true false true true false r e f = inl (record { taken = refl; more = refl; free = refl; which = inr (refl, refl) })

-- a beat is accepted above, and none is taken below: it is kept, or it has no lane
pub record IsKeptNow (a m k o : Bool) : Type 0 where
  pub acts : a ≡ true
  pub more : m ≡ true
  pub kept : k ≡ true
  pub free : o ≡ false

pub record IsPassed (a m h : Bool) : Type 0 where
  pub empty : a ≡ false
  pub more : m ≡ true
  pub kept : h ≡ true

pub record IsGone (a h : Bool) : Type 0 where
  pub empty : a ≡ false
  pub none : h ≡ false

abbrev Swallows : Standing → Type 0
Swallows n = IsKeptNow n.acts n.more (keeps n false) (owes_itself n false) ⊎ (IsPassed n.acts n.more n.holds ⊎ IsGone n.acts n.holds)

no_and : (x : Bool) → (x && false) ≡ true → ⊥
no_and true e = cc
no_and false e = cc

swallows : (s w a m h : Bool) (r : ℕ) → accepted (now s w a m h r) false ≡ true → Swallows (now s w a m h r)
swallows false w a m h r e = absurd cc
swallows true true true true true r e = absurd cc
swallows true true true true false r e = inl (record { acts = refl; more = refl; kept = refl; free = refl })
swallows true true true false true r e = absurd cc
swallows true true true false false r e = absurd cc
swallows true false true m true r e = absurd cc
swallows true false true m false r e = absurd cc
swallows true w false true true r e = inr (inl (record { empty = refl; more = refl; kept = refl }))
swallows true w false false true r e = absurd (no_and _ e)
swallows true w false m false r e = inr (inr (record { empty = refl; none = refl }))

-- what stands and isn't shown is accepted, while no word is owed below
pub goes_in : (room : ℕ) (w a m h : Bool) → 0 < room → sends room (now true w a m h 0) ≡ false → accepted (now true w a m h 0) false ≡ true
goes_in room w true m true some e = absurd cc
goes_in room w false false true some e = absurd cc
goes_in room true false true true some e = refl
goes_in room false false true true some e = refl
goes_in room true true true false some e = refl
goes_in room true true false false some e = absurd cc
goes_in room false true m false some e = let less = lt-ltb 0 room some in absurd cc
goes_in room true false m false some e = refl
goes_in room false false m false some e = refl

-- ---- what is joined is alike

ends_in_lanes : Target → Shape → List Marked → Bool
ends_in_lanes target shape [] = false
ends_in_lanes target shape (m ∷ []) = is_of_reads m.transfer.kind && is_nonempty (operations_in target shape m)
ends_in_lanes target shape (m ∷ next ∷ later) = ends_in_lanes target shape (next ∷ later)

lanes_end : (target : Target) (shape : Shape) (xs : List Marked) (m : Marked) → ends_in_lanes target shape (xs ++ m ∷ []) ≡ (is_of_reads m.transfer.kind && is_nonempty (operations_in target shape m))
unfolding ends_in_lanes
lanes_end target shape [] m = refl
lanes_end target shape (x ∷ []) m = refl
lanes_end target shape (x ∷ y ∷ xs) m = lanes_end target shape (y ∷ xs) m

module _ (target : Target) (port : Port) where
  abbrev HasLanesToo : Marked → Type 0
  HasLanesToo n = IsTrue (is_of_reads n.transfer.kind) × IsTrue (is_nonempty (operations_in target port.shape n))

  by_parts : (ends more same r s x y : Bool) → IsTrue ((ends && not more) || ((same && is_same r s) && (not r || is_same x y))) → IsTrue more → IsTrue r → IsTrue x → IsTrue s × IsTrue y
  by_parts true true true true true true true h m r x = (refl, refl)
  by_parts false true true true true true true h m r x = (refl, refl)
  by_parts ends more same false s x y h m r z = absurd (no_true r)
  by_parts ends false same r s x y h m q z = absurd (no_true m)
  by_parts ends more same r s false y h m q z = absurd (no_true z)
  by_parts true true false true s true y h m r x = absurd (no_true h)
  by_parts false true false true s true y h m r x = absurd (no_true h)
  by_parts true true true true false true y h m r x = absurd (no_true h)
  by_parts false true true true false true y h m r x = absurd (no_true h)
  by_parts true true true true true true false h m r x = absurd (no_true h)
  by_parts false true true true true true false h m r x = absurd (no_true h)

  alike_last : (xs : List Marked) (n : Marked) → IsTrue (is_last_joined xs) → IsTrue (ends_in_lanes target port.shape xs) → IsTrue (are_joined_alike target port (xs ++ n ∷ [])) → HasLanesToo n
  unfolding ends_in_lanes
  alike_last [] n left lanes h = absurd (no_true left)
  alike_last (m ∷ []) n left lanes h =
      let of = and_parts (is_of_reads m.transfer.kind) (is_nonempty (operations_in target port.shape m)) lanes in
      by_parts m.transfer.ends m.more (nat_eq m.tag n.tag) (is_of_reads m.transfer.kind) (is_of_reads n.transfer.kind) _ _ (and_parts (closes m || goes_on_alike target port m n) true h).0 left of.0 of.1
  alike_last (m ∷ next ∷ later) n left lanes h = alike_last (next ∷ later) n left lanes (and_parts (closes m || goes_on_alike target port m next) _ h).1

  front_alike : (xs ys : List Marked) → IsTrue (are_joined_alike target port (xs ++ ys)) → IsTrue (are_joined_alike target port xs)
  front_alike [] ys h = refl
  front_alike (x ∷ []) ys h = refl
  front_alike (x ∷ y ∷ xs) ys h =
      let two = and_parts (closes x || goes_on_alike target port x y) _ h in
      both_true _ _ two.0 (front_alike (y ∷ xs) ys two.1)
    where
      both_true : (a b : Bool) → IsTrue a → IsTrue b → IsTrue (a && b)
      both_true true true h k = refl
      both_true true false h k = absurd (no_true k)
      both_true false b h k = absurd (no_true h)

  taken_alike : (end c : ℕ) → AreLegalAt port end → c ≤ end → JoinsAlike target port end → IsTrue (are_joined_alike target port (taken_at port c))
  taken_alike end c legal h alike =
      let front = taken_is_shown port end c legal h in
      front_alike (taken_at port c) front.rest (subst (λ l. IsTrue (are_joined_alike target port l)) (sym front.joins) (alike c h))

-- ---- a lane is an operation

-- all of a word where one is enabled
pub filled_are : (target lower : Shape) (enables : ℕ) → 0 < lower.word_bytes → target.word_bytes ≡ lower.word_bytes → target.has_enables ≡ false → filled_lanes lower target enables ≡ (if any_lane lower enables then numbers 0 lower.word_bytes else []) ++ []
filled_are target lower enables some same none =
    let one : pieces lower target ≡ 1 = ap (λ n. lower.word_bytes / min lower.word_bytes n) same ∙ same_pieces lower some in
    let start = zero-mul (min lower.word_bytes target.word_bytes) in
    let size : min lower.word_bytes target.word_bytes ≡ lower.word_bytes = omega arith in
    ap (λ n. flat_map (filled_of_piece lower target enables) (numbers 0 n)) one ∙ ap₂ (λ from n. body target.has_enables from n) start size ∙ ap (λ h. body h 0 lower.word_bytes) none
  where
    body : Bool → ℕ → ℕ → List ℕ
    body h from n = (if h then filter (is_enabled enables) (numbers from n) else if list_any (is_enabled enables) (numbers from n) then numbers from n else []) ++ []

lanes_are : (target lower : Shape) (enables : ℕ) → 0 < lower.word_bytes → target.word_bytes ≡ lower.word_bytes → target.has_enables ≡ false → is_nonempty (filled_lanes lower target enables) ≡ any_lane lower enables
lanes_are target lower enables some same none = ap is_nonempty (filled_are target lower enables some same none) ∙ by_any (any_lane lower enables) lower.word_bytes some
  where
    by_any : (b : Bool) (n : ℕ) → 0 < n → is_nonempty ((if b then numbers 0 n else []) ++ []) ≡ b
    by_any b zero h = absurd (omega (arith, h))
    by_any true (suc n) h = refl
    by_any false (suc n) h = refl

module _ (target : Target) (room : ℕ) (up down : Port) (state : DropState) (end : ℕ) (plan : IsDropPlan target up.shape down.shape) (runs : RunsAsDrop room up down state) (legal : AreLegalAt up end) where
  abbrev writes : ℕ → Bool
  writes c = is_raised (up.commands.write c)

  abbrev more : ℕ → Bool
  more c = is_raised (up.commands.more c)

  abbrev acts : ℕ → Bool
  acts c = any_lane up.shape (up.commands.enables c)

  abbrev kept : ℕ → Bool
  kept c = is_nonempty (state.kept c)

  abbrev keeps_at : ℕ → Bool
  keeps_at c = keeps (standing_at up state c) (takes down c)

  abbrev owes_at : ℕ → Bool
  owes_at c = owes_itself (standing_at up state c) (takes down c)

  one_first : (c : ℕ) → c < end → IsTrue (shows up.commands.signals c) → IsFalse (writes c) → IsTrue (presents up.commands.signals (takes up) c) → up.commands.count c ≡ 1
  one_first c fit shown kind first =
      let free = by_way (is_under_way up.shape up.commands.signals (takes up) c) refl in
      let least = legal.legal.least c fit first free in
      let most = legal.legal.most c fit first free in
      let bits : longest_burst up.shape.burst_bits ≡ 1 = ap longest_burst plan.one_beat in
      omega (arith, least, most, bits)
    where
      other : (a b : Bool) → IsTrue (a || b) → IsFalse b → IsTrue a
      other true b h k = refl
      other false b h k = absurd (no_both b h k)

      by_way : (b : Bool) → is_under_way up.shape up.commands.signals (takes up) c ≡ b → IsFalse b
      by_way false e = refl
      by_way true e = absurd (no_both _ (other (is_raised (up.commands.read c)) (writes c) shown kind) (legal.legal.finished c fit e))

  -- a read counts as one
  pub one_read : (c : ℕ) → c < end → IsTrue (shows up.commands.signals c) → IsFalse (writes c) → up.commands.count c ≡ 1
  one_read zero fit shown kind = one_first zero fit shown kind shown
  one_read (suc c) fit shown kind = by_held (is_held up.commands.signals (takes up) c) refl (one_read c (omega (arith, fit)))
    where
      by_held : (b : Bool) → is_held up.commands.signals (takes up) c ≡ b → (IsTrue (shows up.commands.signals c) → IsFalse (writes c) → up.commands.count c ≡ 1) → up.commands.count (suc c) ≡ 1
      by_held true e more_before =
          let same = legal.legal.held c fit e in
          let before = more_before (and_parts (shows up.commands.signals c) _ e).0 (ap (λ (l : Levels). is_raised l.write) same ∙ kind) in
          sym (ap (λ (l : Levels). l.count) same) ∙ before
      by_held false e more_before = one_first (suc c) fit shown kind (ap₂ (λ x y. x && not y) shown e)

  acts_read : (c : ℕ) → c < end → IsTrue (shows up.commands.signals c) → IsFalse (writes c) → is_nonempty (operations_in target up.shape (marked_at up c)) ≡ acts c
  acts_read c fit shown kind =
      rw (kind, one_read c fit shown kind) (only_map (filled_lanes up.shape target.shape (up.commands.enables c)) ∙ lanes_are target.shape up.shape (up.commands.enables c) plan.some plan.agent plan.enables)
    where
      only_map : (l : List ℕ) → is_nonempty (map (operation_at target.span (read_beat up.shape (levels_at up.commands.signals c) 0)) l ++ []) ≡ is_nonempty l
      only_map [] = refl
      only_map (x ∷ l) = refl

  -- ---- what is kept next

  pub kept_then : (c : ℕ) (k t : Bool) → keeps_at c ≡ k → takes down c ≡ t → kept (suc c) ≡ (if k then true else if t then false else kept c)
  kept_then c k t ek et = ap is_nonempty (runs.kept_next c) ∙ (rw (ek, et) (by_both k t))
    where
      by_both : (k t : Bool) → is_nonempty (if k then raw_at up c ∷ [] else if t then [] else state.kept c) ≡ (if k then true else if t then false else kept c)
      by_both true t = refl
      by_both false true = refl
      by_both false false = refl

  pub none_kept : (c : ℕ) → takes up c ≡ false → keeps_at c ≡ false
  none_kept c e = ap (λ b. b && ((writes c && more c) && acts c)) (sym (runs.accepts c) ∙ e)

  pub none_own : (c : ℕ) → takes up c ≡ false → state.own (suc c) ≡ false
  none_own c e = runs.own_next c ∙ ap (λ b. b && (not (writes c) && not (acts c))) (sym (runs.accepts c) ∙ e)

  pub swallows_at : (c : ℕ) → takes up c ≡ true → takes down c ≡ false → IsKeptNow (acts c) (more c) (keeps_at c) (owes_at c) ⊎ (IsPassed (acts c) (more c) (kept c) ⊎ IsGone (acts c) (kept c))
  swallows_at c eu ed =
      subst (λ t. IsKeptNow (acts c) (more c) (keeps (standing_at up state c) t) (owes_itself (standing_at up state c) t) ⊎ (IsPassed (acts c) (more c) (kept c) ⊎ IsGone (acts c) (kept c))) (sym ed)
      (swallows (shows up.commands.signals c) (writes c) (acts c) (more c) (kept c) (state.reads c) (ap (λ t. accepted (standing_at up state c) t) (sym ed) ∙ sym (runs.accepts c) ∙ eu))

  joins_next : (c : ℕ) → takes up c ≡ true → is_last_joined (taken_at up (suc c)) ≡ more c
  joins_next c e = ap is_last_joined (one_taken up c e) ∙ last_joined_end (taken_at up c) (marked_at up c)

  more_below : (c : ℕ) → takes down c ≡ true → is_raised (down.commands.more c) ≡ (if kept c then acts c else more c)
  more_below c e = ap (λ (r : Raw). is_raised r.more) (runs.beat c (takes_shows down c e)) ∙ by_kept (state.kept c)
    where
      raised : (b : Bool) → is_raised (one_if b) ≡ b
      raised true = refl
      raised false = refl

      by_kept : (q : List Raw) → is_raised (sent_beat q (raw_at up c) (acts c)).more ≡ (if is_nonempty q then acts c else more c)
      by_kept [] = refl
      by_kept (x ∷ q) = raised (acts c)

  hands_at : (c : ℕ) → takes down c ≡ true → is_raised (down.commands.more c) ≡ true → HandsOn (writes c) (acts c) (more c) (takes up c) (keeps_at c) (owes_at c) ⊎ SendsKept (shows up.commands.signals c) (acts c) (kept c) (takes up c) (keeps_at c) (owes_at c)
  hands_at c ed em =
      subst (λ u. HandsOn (writes c) (acts c) (more c) u (keeps_at c) (owes_at c) ⊎ SendsKept (shows up.commands.signals c) (acts c) (kept c) u (keeps_at c) (owes_at c)) (sym (runs.accepts c))
      (subst (λ t. HandsOn (writes c) (acts c) (more c) (accepted (standing_at up state c) t) (keeps (standing_at up state c) t) (owes_itself (standing_at up state c) t) ⊎ SendsKept (shows up.commands.signals c) (acts c) (kept c) (accepted (standing_at up state c) t) (keeps (standing_at up state c) t) (owes_itself (standing_at up state c) t)) (sym ed)
      (hands room (shows up.commands.signals c) (writes c) (acts c) (more c) (kept c) (state.reads c) (sym (runs.shown c) ∙ takes_shows down c ed) (sym (more_below c ed) ∙ em)))

  -- ---- what is left open below

  no_two : (x y : Bool) → (x && (y && false)) ≡ false
  no_two true true = refl
  no_two true false = refl
  no_two false y = refl

  stands_on : (c : ℕ) → suc c < end → shows up.commands.signals c ≡ true → takes up c ≡ false → acts c ≡ true → (shows up.commands.signals (suc c) ≡ true) × (acts (suc c) ≡ true)
  stands_on c low shown waits lane =
      let same = legal.legal.held c low (ap₂ (λ x y. x && not y) shown waits) in
      (sym (ap (λ (l : Levels). is_raised l.read || is_raised l.write) same) ∙ shown, sym (ap (λ (l : Levels). any_lane up.shape l.enables) same) ∙ lane)

  -- while a beat is kept, its command is open above
  pub kept_open : (c : ℕ) → kept c ≡ true → is_last_joined (taken_at up c) ≡ true
  kept_open zero some = let none = ap is_nonempty runs.kept_begins in cc
  kept_open (suc c) some = by_all (takes up c) (takes down c) (keeps_at c) refl refl refl (kept_open c)
    where
      keeps_more : keeps_at c ≡ true → more c ≡ true
      keeps_more k = (and_parts (writes c) (more c) (and_parts (writes c && more c) (acts c) (and_parts (accepted (standing_at up state c) (takes down c)) _ k).1).0).1

      keeps_takes : keeps_at c ≡ true → takes up c ≡ true
      keeps_takes k = runs.accepts c ∙ (and_parts (accepted (standing_at up state c) (takes down c)) _ k).0

      by_all : (u t k : Bool) → takes up c ≡ u → takes down c ≡ t → keeps_at c ≡ k → (kept c ≡ true → is_last_joined (taken_at up c) ≡ true) → is_last_joined (taken_at up (suc c)) ≡ true
      by_all u t true eu et ek more_before = joins_next c (keeps_takes ek) ∙ keeps_more ek
      by_all u true false eu et ek more_before = let none = kept_then c false true ek et in cc
      by_all false false false eu et ek more_before = ap is_last_joined (none_taken up c eu) ∙ more_before (sym (kept_then c false false ek et) ∙ some)
      by_all true false false eu et ek more_before = by_outcome (swallows_at c eu et)
        where
          by_outcome : IsKeptNow (acts c) (more c) (keeps_at c) (owes_at c) ⊎ (IsPassed (acts c) (more c) (kept c) ⊎ IsGone (acts c) (kept c)) → is_last_joined (taken_at up (suc c)) ≡ true
          by_outcome (inl now_kept) = joins_next c eu ∙ now_kept.more
          by_outcome (inr (inl passed)) = joins_next c eu ∙ passed.more
          by_outcome (inr (inr gone)) = let same = kept_then c false false ek et in let none = gone.none in cc

  record IsOpen (c : ℕ) : Type 0 where
    above : is_last_joined (taken_at up c) ≡ true
    way : (kept c ≡ true) ⊎ ((c < end → (shows up.commands.signals c ≡ true) × (acts c ≡ true)) ⊎ IsTrue (ends_in_lanes target up.shape (taken_at up c)))

  module _ (alike : JoinsAlike target up end) where
    -- what is left open below isn't ended without a beat
    not_gone : (c : ℕ) → c < end → IsOpen c → takes up c ≡ true → IsGone (acts c) (kept c) → ⊥
    not_gone c fit left took gone = by_way left.way
      where
        by_way : (kept c ≡ true) ⊎ ((c < end → (shows up.commands.signals c ≡ true) × (acts c ≡ true)) ⊎ IsTrue (ends_in_lanes target up.shape (taken_at up c))) → ⊥
        by_way (inl some) = no_both (kept c) some gone.none
        by_way (inr (inl stands)) = no_both (acts c) (stands fit).1 gone.empty
        by_way (inr (inr lanes)) =
            let here = alike_last target up (taken_at up c) (marked_at up c) left.above lanes (subst (λ l. IsTrue (are_joined_alike target up l)) (one_taken up c took) (taken_alike target up end (suc c) legal fit alike)) in
            by_write (writes c) refl here.0 here.1
          where
            by_write : (w : Bool) → writes c ≡ w → IsTrue (is_of_reads (marked_at up c).transfer.kind) → IsTrue (is_nonempty (operations_in target up.shape (marked_at up c))) → ⊥
            by_write true e reads some = no_true (rw e at reads)
            by_write false e reads some = no_both (acts c) (sym (acts_read c fit (takes_shows up c took) e) ∙ some) gone.empty

    opened : (c : ℕ) → c ≤ end → is_last_joined (taken_at down c) ≡ true → IsOpen c
    opened zero fit left = absurd (no_true left)
    opened (suc c) fit left = by_all (takes down c) (takes up c) refl refl (opened c (omega (arith, fit)))
      where
        by_all : (t u : Bool) → takes down c ≡ t → takes up c ≡ u → (is_last_joined (taken_at down c) ≡ true → IsOpen c) → IsOpen (suc c)
        by_all true u et eu before = by_sent (hands_at c et (sym (ap is_last_joined (one_taken down c et) ∙ last_joined_end (taken_at down c) (marked_at down c)) ∙ left))
          where
            by_sent : HandsOn (writes c) (acts c) (more c) (takes up c) (keeps_at c) (owes_at c) ⊎ SendsKept (shows up.commands.signals c) (acts c) (kept c) (takes up c) (keeps_at c) (owes_at c) → IsOpen (suc c)
            by_sent (inl on) = record { above = joins_next c on.taken ∙ on.more; way = by_which on.which }
              where
                by_which : (keeps_at c ≡ true) ⊎ ((writes c ≡ false) × (acts c ≡ true)) → (kept (suc c) ≡ true) ⊎ ((suc c < end → (shows up.commands.signals (suc c) ≡ true) × (acts (suc c) ≡ true)) ⊎ IsTrue (ends_in_lanes target up.shape (taken_at up (suc c))))
                by_which (inl k) = inl (kept_then c true true k et)
                by_which (inr reads) =
                    let ops = acts_read c fit (takes_shows up c on.taken) reads.0 ∙ reads.1 in
                    let kind : IsTrue (is_of_reads (marked_at up c).transfer.kind) = rw reads.0 refl in
                    inr (inr (ap (ends_in_lanes target up.shape) (one_taken up c on.taken) ∙ lanes_end target up.shape (taken_at up c) (marked_at up c) ∙ ap₂ (λ x y. x && y) kind ops))
            by_sent (inr sent) = record {
              above = ap is_last_joined (none_taken up c sent.waits) ∙ kept_open c sent.kept;
              way = inr (inl (λ low. stands_on c low sent.shown sent.waits sent.acts));
            }
        by_all false false et eu before =
            let is = before (sym (ap is_last_joined (none_taken down c et)) ∙ left) in
            record { above = ap is_last_joined (none_taken up c eu) ∙ is.above; way = by_way is.way }
          where
            by_way : (kept c ≡ true) ⊎ ((c < end → (shows up.commands.signals c ≡ true) × (acts c ≡ true)) ⊎ IsTrue (ends_in_lanes target up.shape (taken_at up c))) → (kept (suc c) ≡ true) ⊎ ((suc c < end → (shows up.commands.signals (suc c) ≡ true) × (acts (suc c) ≡ true)) ⊎ IsTrue (ends_in_lanes target up.shape (taken_at up (suc c))))
            by_way (inl some) = inl (kept_then c false false (none_kept c eu) et ∙ some)
            by_way (inr (inl stands)) = inr (inl (λ low. let two = stands fit in stands_on c low two.0 eu two.1))
            by_way (inr (inr lanes)) = inr (inr (ap (ends_in_lanes target up.shape) (none_taken up c eu) ∙ lanes))
        by_all false true et eu before = by_outcome (swallows_at c eu et)
          where
            is : IsOpen c
            is = before (sym (ap is_last_joined (none_taken down c et)) ∙ left)

            by_outcome : IsKeptNow (acts c) (more c) (keeps_at c) (owes_at c) ⊎ (IsPassed (acts c) (more c) (kept c) ⊎ IsGone (acts c) (kept c)) → IsOpen (suc c)
            by_outcome (inl now_kept) = record { above = joins_next c eu ∙ now_kept.more; way = inl (kept_then c true false now_kept.kept et) }
            by_outcome (inr (inl passed)) = record { above = joins_next c eu ∙ passed.more; way = inl (kept_then c false false (not_kept passed.empty) et ∙ passed.kept) }
              where
                not_kept : acts c ≡ false → keeps_at c ≡ false
                not_kept e = ap (λ a. accepted (standing_at up state c) (takes down c) && ((writes c && more c) && a)) e ∙ no_two (accepted (standing_at up state c) (takes down c)) (writes c && more c)
            by_outcome (inr (inr gone)) = absurd (not_gone c fit is eu gone)

    module _ (good : ℕ → Bool) (longest : ℕ) (rest : ℕ → ℕ) (some : 0 < room) (fine : (c : ℕ) → c < end → IsTrue (good c) → state.reads c ≡ 0) (legal_down : AreLegalAt down end) (above : HasStepsLeft up (λ c. good c && not (state.own c)) longest rest end) where
      abbrev value : ℕ → ℕ
      value c = 2 * rest c + one_if (kept c) + one_if (state.own c)

      -- where nothing is open below, the next command is to come
      abbrev pub steps_below : ℕ → ℕ
      steps_below c = if is_last_joined (taken_at down c) then value c else 2 * longest + 2

      when_open : (c : ℕ) → is_last_joined (taken_at down c) ≡ true → steps_below c ≡ value c
      when_open c e = rw e refl

      when_closed : (c : ℕ) → is_last_joined (taken_at down c) ≡ false → steps_below c ≡ 2 * longest + 2
      when_closed c e = rw e refl

      one_most : (b : Bool) → one_if b ≤ 1
      one_most true = omega arith
      one_most false = omega arith

      goes_on : (c : ℕ) → c < end → takes up c ≡ true → more c ≡ true → rest (suc c) + 1 ≤ rest c
      goes_on c fit took joins = above.fewer c fit took (not_closed (marked_at up c).transfer.ends (more c) joins)

      sent_less : (c : ℕ) → c < end → takes down c ≡ true → is_raised (down.commands.more c) ≡ true → value (suc c) + 1 ≤ 2 * rest c + one_if (kept c)
      sent_less c fit took joins = by_sent (hands_at c took joins)
        where
          by_sent : HandsOn (writes c) (acts c) (more c) (takes up c) (keeps_at c) (owes_at c) ⊎ SendsKept (shows up.commands.signals c) (acts c) (kept c) (takes up c) (keeps_at c) (owes_at c) → value (suc c) + 1 ≤ 2 * rest c + one_if (kept c)
          by_sent (inl on) =
              let less = goes_on c fit on.taken on.more in
              let most = one_most (kept (suc c)) in
              let own : one_if (state.own (suc c)) ≡ 0 = ap one_if (runs.own_next c ∙ on.free) in
              omega (arith, less, most, own)
          by_sent (inr sent) =
              let less = above.stays c fit sent.waits in
              let none : one_if (kept (suc c)) ≡ 0 = ap one_if (kept_then c false true sent.none took) in
              let one : one_if (kept c) ≡ 1 = ap one_if sent.kept in
              let own : one_if (state.own (suc c)) ≡ 0 = ap one_if (runs.own_next c ∙ sent.free) in
              omega (arith, less, none, one, own)

      swallowed_less : (c : ℕ) → c < end → IsOpen c → takes up c ≡ true → takes down c ≡ false → value (suc c) + 1 ≤ value c
      swallowed_less c fit is took none = by_outcome (swallows_at c took none)
        where
          by_outcome : IsKeptNow (acts c) (more c) (keeps_at c) (owes_at c) ⊎ (IsPassed (acts c) (more c) (kept c) ⊎ IsGone (acts c) (kept c)) → value (suc c) + 1 ≤ value c
          by_outcome (inl now_kept) =
              let less = goes_on c fit took now_kept.more in
              let most = one_most (kept (suc c)) in
              let own : one_if (state.own (suc c)) ≡ 0 = ap one_if (runs.own_next c ∙ now_kept.free) in
              omega (arith, less, most, own)
          by_outcome (inr (inl passed)) =
              let less = goes_on c fit took passed.more in
              let most = one_most (kept (suc c)) in
              let own = one_most (state.own (suc c)) in
              let one : one_if (kept c) ≡ 1 = ap one_if passed.kept in
              omega (arith, less, most, own, one)
          by_outcome (inr (inr gone)) = absurd (not_gone c fit is took gone)

      waits_so : (c : ℕ) → c < end → takes up c ≡ false → takes down c ≡ false → value (suc c) ≤ 2 * rest c + one_if (kept c)
      waits_so c fit waits none =
          let less = above.stays c fit waits in
          let same : one_if (kept (suc c)) ≡ one_if (kept c) = ap one_if (kept_then c false false (none_kept c waits) none) in
          let own : one_if (state.own (suc c)) ≡ 0 = ap one_if (none_own c waits) in
          omega (arith, less, same, own)

      pub drop_has_steps_left : HasStepsLeft down good (2 * longest + 2) steps_below end
      drop_has_steps_left = record { some = some_left; few = few_left; fewer = fewer; stays = stays; gaps = gaps }
        where
          some_left : (c : ℕ) → c ≤ end → 1 ≤ steps_below c
          some_left c fit = by_open (is_last_joined (taken_at down c)) refl
            where
              by_open : (b : Bool) → is_last_joined (taken_at down c) ≡ b → 1 ≤ steps_below c
              by_open true e = let is = when_open c e in let least = above.some c fit in omega (arith, is, least)
              by_open false e = let is = when_closed c e in omega (arith, is)

          few_left : (c : ℕ) → c ≤ end → steps_below c ≤ 2 * longest + 2
          few_left c fit = by_open (is_last_joined (taken_at down c)) refl
            where
              by_open : (b : Bool) → is_last_joined (taken_at down c) ≡ b → steps_below c ≤ 2 * longest + 2
              by_open true e =
                  let is = when_open c e in
                  let most = above.few c fit in
                  let one = one_most (kept c) in
                  let own = one_most (state.own c) in
                  omega (arith, is, most, one, own)
              by_open false e = let is = when_closed c e in omega (arith, is)

          fewer : (c : ℕ) → c < end → IsTrue (takes down c) → IsFalse (closes (marked_at down c)) → steps_below (suc c) + 1 ≤ steps_below c
          fewer c fit took goes = by_open (is_last_joined (taken_at down c)) refl
            where
              joins : is_raised (down.commands.more c) ≡ true
              joins = joins_more (marked_at down c).transfer.ends (is_raised (down.commands.more c)) (legal_down.joined c fit (takes_shows down c took)) goes

              by_open : (b : Bool) → is_last_joined (taken_at down c) ≡ b → steps_below (suc c) + 1 ≤ steps_below c
              by_open b e =
                  let less = sent_less c fit took joins in
                  let later = when_open (suc c) (ap is_last_joined (one_taken down c took) ∙ last_joined_end (taken_at down c) (marked_at down c) ∙ joins) in
                  by_now b e (omega (arith, less, later))
                where
                  by_now : (b : Bool) → is_last_joined (taken_at down c) ≡ b → steps_below (suc c) + 1 ≤ 2 * rest c + one_if (kept c) → steps_below (suc c) + 1 ≤ steps_below c
                  by_now true e less = let is = when_open c e in omega (arith, is, less)
                  by_now false e less =
                      let is = when_closed c e in
                      let most = above.few c (omega (arith, fit)) in
                      let one = one_most (kept c) in
                      omega (arith, is, less, most, one)

          stays : (c : ℕ) → c < end → IsFalse (takes down c) → steps_below (suc c) ≤ steps_below c
          stays c fit none = by_open (is_last_joined (taken_at down c)) refl
            where
              same : is_last_joined (taken_at down (suc c)) ≡ is_last_joined (taken_at down c)
              same = ap is_last_joined (none_taken down c none)

              by_open : (b : Bool) → is_last_joined (taken_at down c) ≡ b → steps_below (suc c) ≤ steps_below c
              by_open false e = let is = when_closed c e in let later = when_closed (suc c) (same ∙ e) in omega (arith, is, later)
              by_open true e = by_take (takes up c) refl
                where
                  by_take : (u : Bool) → takes up c ≡ u → steps_below (suc c) ≤ steps_below c
                  by_take true eu =
                      let is = when_open c e in
                      let later = when_open (suc c) (same ∙ e) in
                      let less = swallowed_less c fit (opened c (omega (arith, fit)) e) eu none in
                      omega (arith, is, later, less)
                  by_take false eu =
                      let is = when_open c e in
                      let later = when_open (suc c) (same ∙ e) in
                      let less = waits_so c fit eu none in
                      omega (arith, is, later, less)

          gaps : (c : ℕ) → c < end → IsTrue (is_last_joined (taken_at down c)) → IsFalse (shows down.commands.signals c) → IsTrue (good c) → steps_below (suc c) + 1 ≤ steps_below c
          gaps c fit e quiet well = by_less (by_take (takes up c) refl)
            where
              none : IsFalse (takes down c)
              none = not_shown down c quiet

              by_less : value (suc c) + 1 ≤ value c → steps_below (suc c) + 1 ≤ steps_below c
              by_less less =
                  let is = when_open c e in
                  let later = when_open (suc c) (ap is_last_joined (none_taken down c none) ∙ e) in
                  omega (arith, is, later, less)

              enters : shows up.commands.signals c ≡ true → takes up c ≡ true
              enters shown =
                  let reads = fine c fit well in
                  runs.accepts c ∙ ap (accepted (standing_at up state c)) none ∙ ap₂ (λ s r. accepted (now s (writes c) (acts c) (more c) (kept c) r) false) shown reads
                  ∙ goes_in room (writes c) (acts c) (more c) (kept c) some (sym (ap₂ (λ s r. sends room (now s (writes c) (acts c) (more c) (kept c) r)) shown reads) ∙ sym (runs.shown c) ∙ quiet)

              by_take : (u : Bool) → takes up c ≡ u → value (suc c) + 1 ≤ value c
              by_take true eu = swallowed_less c fit (opened c (omega (arith, fit)) e) eu none
              by_take false eu = by_shown (shows up.commands.signals c) refl (state.own c) refl
                where
                  both_good : (g o : Bool) → IsTrue g → o ≡ false → IsTrue (g && not o)
                  both_good true false h k = refl
                  both_good true true h k = absurd cc
                  both_good false o h k = absurd (no_true h)

                  by_shown : (s : Bool) → shows up.commands.signals c ≡ s → (o : Bool) → state.own c ≡ o → value (suc c) + 1 ≤ value c
                  by_shown true es o eo = absurd (no_both (takes up c) (enters es) eu)
                  by_shown false es true eo =
                      let less = waits_so c fit eu none in
                      let one : one_if (state.own c) ≡ 1 = ap one_if eo in
                      omega (arith, less, one)
                  by_shown false es false eo =
                      let less = above.gaps c fit (opened c (omega (arith, fit)) e).above es (both_good (good c) (state.own c) well eo) in
                      let same : one_if (kept (suc c)) ≡ one_if (kept c) = ap one_if (kept_then c false false (none_kept c eu) none) in
                      let own : one_if (state.own (suc c)) ≡ 0 = ap one_if (none_own c eu) in
                      omega (arith, less, same, own)

-- ---- words

reads_split : (room : ℕ) (s w a m h t : Bool) (r : ℕ) → (t ≡ true → sends room (now s w a m h r) ≡ true) → one_if (accepted (now s w a m h r) t && not w) ≡ one_if (owes_itself (now s w a m h r) t) + one_if (t && not (if h then true else w))
reads_split room s true a m h t r f = let above = no_one (accepted (now s true a m h r) t) in let below = no_one t in by_held h above below
  where
    no_one : (x : Bool) → one_if (x && false) ≡ 0
    no_one true = refl
    no_one false = refl

    by_held : (h : Bool) → one_if (accepted (now s true a m h r) t && false) ≡ 0 → one_if (t && false) ≡ 0 → one_if (accepted (now s true a m h r) t && false) ≡ one_if (accepted (now s true a m h r) t && false) + one_if (t && not (if h then true else true))
    by_held true above below = omega (arith, above, below)
    by_held false above below = omega (arith, above, below)
reads_split room false false a m h true r f = let e = f refl in absurd cc
reads_split room false false a m h false r f = refl
reads_split room true false true m true true r f = refl
reads_split room true false true m true false r f = refl
reads_split room true false true m false true r f = refl
reads_split room true false true m false false r f = refl
reads_split room true false false m false true r f = let e = f refl in absurd cc
reads_split room true false false m false false r f = omega arith
reads_split room true false false m true true r f = omega arith
reads_split room true false false m true false r f = omega arith

module _ (target : Target) (room : ℕ) (up down : Port) (state : DropState) (end : ℕ) (plan : IsDropPlan target up.shape down.shape) (runs : RunsAsDrop room up down state) (legal : AreLegalAt up end) (owed : AnswersAreOwed down end)
    (apart : (c : ℕ) → c < end → state.own c ≡ true → is_raised (down.answers.valid c) ≡ false) where
  writes_below : (c : ℕ) → takes down c ≡ true → is_raised (down.commands.write c) ≡ (if is_nonempty (state.kept c) then true else is_raised (up.commands.write c))
  writes_below c took = ap (λ (r : Raw). is_raised r.levels.write) (runs.beat c (takes_shows down c took)) ∙ by_kept (state.kept c)
    where
      by_kept : (q : List Raw) → is_raised (sent_beat q (raw_at up c) (any_lane up.shape (up.commands.enables c))).levels.write ≡ (if is_nonempty q then true else is_raised (up.commands.write c))
      by_kept [] = refl
      by_kept (x ∷ q) = refl

  split_at : (c : ℕ) → one_if (takes_read up c) ≡ one_if (state.own (suc c)) + one_if (takes_read down c)
  split_at c =
      ap (λ t. one_if (t && not (is_raised (up.commands.write c)))) (runs.accepts c)
      ∙ reads_split room (shows up.commands.signals c) (is_raised (up.commands.write c)) (any_lane up.shape (up.commands.enables c)) (is_raised (up.commands.more c)) (is_nonempty (state.kept c)) (takes down c) (state.reads c)
      (λ t. sym (runs.shown c) ∙ takes_shows down c t)
      ∙ ap₂ (λ x y. one_if x + one_if y) (sym (runs.own_next c)) (by_take (takes down c) refl)
    where
      by_take : (t : Bool) → takes down c ≡ t → (t && not (if is_nonempty (state.kept c) then true else is_raised (up.commands.write c))) ≡ (t && not (is_raised (down.commands.write c)))
      by_take true e = ap not (sym (writes_below c e))
      by_take false e = refl

  asks_by : (port : Port) (c : ℕ) → ((takes port c ≡ true) → is_raised (port.commands.write c) ≡ false → port.commands.count c ≡ 1) → words_owed port (suc c) ≡ words_owed port c + one_if (takes_read port c)
  asks_by port c one = by_all (takes port c) (is_raised (port.commands.write c)) refl refl
    where
      by_all : (t w : Bool) → takes port c ≡ t → is_raised (port.commands.write c) ≡ w → words_owed port (suc c) ≡ words_owed port c + one_if (t && not w)
      by_all false w et ew = let still = still_asks target port c et in omega (arith, still)
      by_all true true et ew = let took = took_asks target port c et in let none = write_asks target port c ew in omega (arith, took, none)
      by_all true false et ew = let took = took_asks target port c et in let asked = read_asks target port c ew in let count = one et ew in omega (arith, took, asked, count)

  asks_above : (c : ℕ) → c < end → words_owed up (suc c) ≡ words_owed up c + one_if (takes_read up c)
  asks_above c fit = asks_by up c (λ took kind. one_read target room up down state end plan runs legal c fit (takes_shows up c took) kind)

  pub one_read_below : (c : ℕ) → c < end → takes down c ≡ true → is_raised (down.commands.write c) ≡ false → down.commands.count c ≡ 1
  one_read_below c fit took kind = by_kept (state.kept c) refl
    where
      shown_above : IsTrue (shows up.commands.signals c)
      shown_above = (and_parts (shows up.commands.signals c) _ (sym (runs.shown c) ∙ takes_shows down c took)).0

      by_kept : (q : List Raw) → state.kept c ≡ q → down.commands.count c ≡ 1
      by_kept [] e =
          let same = runs.beat c (takes_shows down c took) ∙ ap (λ q. sent_beat q (raw_at up c) (any_lane up.shape (up.commands.enables c))) e in
          ap (λ (r : Raw). r.levels.count) same ∙ one_read target room up down state end plan runs legal c fit shown_above (sym (ap (λ (r : Raw). is_raised r.levels.write) same) ∙ kind)
      by_kept (x ∷ q) e =
          let writes = writes_below c took ∙ ap (λ q. if is_nonempty q then true else is_raised (up.commands.write c)) e in
          absurd (no_both (is_raised (down.commands.write c)) writes kind)

  asks_below : (c : ℕ) → c < end → words_owed down (suc c) ≡ words_owed down c + one_if (takes_read down c)
  asks_below c fit = asks_by down c (λ took kind. one_read_below c fit took kind)

  reads_are : (c : ℕ) → c ≤ end → state.reads c + length (words_at down c) ≡ words_owed down c
  reads_are zero fit = let none = runs.reads_begin in omega (arith, none)
  reads_are (suc c) fit =
      let before = reads_are c (omega (arith, fit)) in
      let next = runs.reads_next c in
      let asked = asks_below c fit in
      let words = words_by down c in
      let few = few_words down end owed c fit in
      omega (arith, before, next, asked, words, few)

  pub words_above : (c : ℕ) → c < end → length (words_at up (suc c)) + length (words_at down c) ≡ length (words_at up c) + length (words_at down (suc c)) + one_if (state.own c)
  words_above c fit =
      let high = words_by up c in
      let low = words_by down c in
      let valid : one_if (is_raised (up.answers.valid c)) ≡ one_if (state.own c) + one_if (is_raised (down.answers.valid c)) = ap one_if (runs.valid c) ∙ by_own (state.own c) (is_raised (down.answers.valid c)) (apart c fit) in
      omega (arith, high, low, valid)
    where
      by_own : (o v : Bool) → (o ≡ true → v ≡ false) → one_if (o || v) ≡ one_if o + one_if v
      by_own true true f = let e = f refl in absurd cc
      by_own true false f = refl
      by_own false v f = omega arith

  -- what is owed above is owed below, or by itself
  pub owed_are : (c : ℕ) → c ≤ end → words_owed up c + length (words_at down c) ≡ length (words_at up c) + words_owed down c + one_if (state.own c)
  owed_are zero fit = let none : one_if (state.own 0) ≡ 0 = ap one_if runs.own_begins in omega (arith, none)
  owed_are (suc c) fit =
      let before = owed_are c (omega (arith, fit)) in
      let above = asks_above c fit in
      let below = asks_below c fit in
      let split = split_at c in
      let given = words_above c fit in
      omega (arith, before, above, below, split, given)

  pub none_read : (c : ℕ) → c ≤ end → IsFalse (is_gone down c) → state.reads c ≡ 0
  none_read c fit quiet =
      let all = reads_are c fit in
      let most = ltb-false (length (words_at down c)) (words_owed down c) quiet in
      omega (arith, all, most)

  pub none_gone_above : (c : ℕ) → c ≤ end → IsFalse (is_gone down c) → state.own c ≡ false → IsFalse (is_gone up c)
  none_gone_above c fit quiet own =
      let all = owed_are c fit in
      let most = ltb-false (length (words_at down c)) (words_owed down c) quiet in
      let none : one_if (state.own c) ≡ 0 = ap one_if own in
      not_less (length (words_at up c)) (words_owed up c) (omega (arith, all, most, none))
    where
      not_less : (a b : ℕ) → b ≤ a → nat_lt a b ≡ false
      not_less a b h = grind (arith, tests, h)
