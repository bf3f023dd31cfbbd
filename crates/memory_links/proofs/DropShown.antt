-- What is shown below a machine that drops beats without a lane is legal, and each beat has an operation.
use Rattle.std.proofs.Common.{ℕ, zero, suc, ◌<◌, ◌≤◌, ◌≡◌, ◌+◌, ◌*◌, ◌/◌, Bool, true, false, not, ◌&&◌, ◌||◌, List, [], ◌∷◌, ◌++◌, if◌then◌else◌, arith, refl, sym, ap, ap₂, subst, ◌∙◌, map, filter, flat_map, min, nat_eq, IsTrue, zero-mul, lt-ltb}
use Rattle.std.specs.List.{list_all, list_any}
use Rattle.std.proofs.lemmas.Bool.{and_parts, not-true, or_right, ltb-true}
use Rattle.histories.specs.History.{is_raised, one_if, only_if, numbers}
use Rattle.memory_runs.specs.Views.{Shape, levels_at}
use Rattle.memory_runs.specs.Operations.{Beat, filled_lanes, filled_of_piece, is_enabled, pieces, operation_at}
use Rattle.memory_runs.specs.Laws.{same_pieces}
use Rattle.memory_runs.specs.Commands.{shows, is_held, byte_address}
use Rattle.memory_runs.specs.Views.Kind.{Reads, Writes}
use Rattle.memory_machines.specs.Link.{Target, Port, Marked, AreLegalAt, takes, beat_operations, is_nonempty}
use Rattle.memory_machines.specs.Lines.{HasLanes, HandsOn}
use Rattle.memory_machines.specs.Machines.{Raw, raw_at, raws}
use Rattle.memory_machines.specs.SideLaws.{legal_when_shown}
use Rattle.memory_links.specs.Selects.{takes_read}
use Rattle.memory_links.specs.Drops.{DropState, RunsAsDrop, IsDropPlan, Standing, any_lane, sends, accepted, keeps, sent_beat, standing_at}
use Rattle.memory_links.proofs.HandOn.{IsShownFor, hands_on_shown}
use Rattle.memory_links.proofs.OneBeat.{raw_by, beat_by, flat_mark, flat_shown, shown_raws, fit_alone, count_is_one}

abbrev pub stands_so : Bool → Bool → Bool → Bool → Bool → ℕ → Standing
stands_so s w a m h r = record { shown = s; writes = w; acts = a; more = m; holds = h; reads = r }

-- where a beat is shown and waits below, what stands above waits too
waits_above : (room : ℕ) (s w a m h : Bool) (r : ℕ) → sends room (stands_so s w a m h r) ≡ true → accepted (stands_so s w a m h r) false ≡ false
waits_above room false w a m h r e = refl
waits_above room true true true true true r e = refl
waits_above room true true true false true r e = refl
waits_above room true false true m true r e = refl
waits_above room true true false false true r e = refl
waits_above room true false false false true r e = by_none (nat_eq r 0)
  where
    by_none : (b : Bool) → b && false ≡ false
    by_none true = refl
    by_none false = refl
waits_above room true w false true true r e = cc
waits_above room true w false m false r e = cc
waits_above room true true true true false r e = cc
waits_above room true true true false false r e = refl
waits_above room true false true m false r e = refl

-- it is shown still where no more words are owed
shows_on : (room : ℕ) (s w a m h : Bool) (r q : ℕ) → q ≤ r → sends room (stands_so s w a m h r) ≡ true → sends room (stands_so s w a m h q) ≡ true
shows_on room false w a m h r q low e = cc
shows_on room true w a m true r q low e = e
shows_on room true w false m false r q low e = cc
shows_on room true true true m false r q low e = e
shows_on room true false true m false r q low e = let less = ltb-true r room e in lt-ltb q room (omega (arith, low, less))

-- what is shown by itself has a lane
acts_alone : (room : ℕ) (s w a m : Bool) (r : ℕ) → sends room (stands_so s w a m false r) ≡ true → a ≡ true
acts_alone room false w a m r e = cc
acts_alone room true w true m r e = refl
acts_alone room true w false m r e = cc

kept_parts : (s w a m h t : Bool) (r : ℕ) → keeps (stands_so s w a m h r) t ≡ true → (s ≡ true) × (a ≡ true)
kept_parts false w a m h t r e = cc
kept_parts true w true m h t r e = (refl, refl)
kept_parts true w false m h t r e = no_keep (accepted (stands_so true w false m h r) t) (w && m) e
  where
    no_keep : (x y : Bool) → x && (y && false) ≡ true → (true ≡ true) × (false ≡ true)
    no_keep true true e = cc
    no_keep true false e = cc
    no_keep false y e = cc

kept_writes : (s w a m h t : Bool) (r : ℕ) → keeps (stands_so s w a m h r) t ≡ true → w ≡ true
kept_writes s true a m h t r e = refl
kept_writes s false a m h t r e = no_keep (accepted (stands_so s false a m h r) t) e
  where
    no_keep : (x : Bool) → x && false ≡ true → false ≡ true
    no_keep true e = cc
    no_keep false e = cc

-- ---- a lane is an operation

pub lanes_are : (target lower : Shape) (enables : ℕ) → 0 < lower.word_bytes → target.word_bytes ≡ lower.word_bytes → is_nonempty (filled_lanes lower target enables) ≡ any_lane lower enables
lanes_are target lower enables some same =
    let one : pieces lower target ≡ 1 = ap (λ n. lower.word_bytes / min lower.word_bytes n) same ∙ same_pieces lower some in
    let start = zero-mul (min lower.word_bytes target.word_bytes) in
    let size : min lower.word_bytes target.word_bytes ≡ lower.word_bytes = omega arith in
    ap (λ n. is_nonempty (flat_map (filled_of_piece lower target enables) (numbers 0 n))) one ∙ ap₂ (λ from n. body target.has_enables from n) start size ∙ by_enables target.has_enables
  where
    body : Bool → ℕ → ℕ → Bool
    body h from n = is_nonempty ((if h then filter (is_enabled enables) (numbers from n) else if list_any (is_enabled enables) (numbers from n) then numbers from n else []) ++ [])

    by_any : (b : Bool) (n : ℕ) → 0 < n → is_nonempty ((if b then numbers 0 n else []) ++ []) ≡ b
    by_any b zero h = absurd (omega (arith, h))
    by_any true (suc n) h = refl
    by_any false (suc n) h = refl

    some_kept : (test : ℕ → Bool) (ns : List ℕ) → is_nonempty (filter test ns ++ []) ≡ list_any test ns
    some_kept test [] = refl
    some_kept test (n ∷ ns) = by_test (test n) (some_kept test ns)
      where
        by_test : (b : Bool) → is_nonempty (filter test ns ++ []) ≡ list_any test ns → is_nonempty ((if b then n ∷ filter test ns else filter test ns) ++ []) ≡ b || list_any test ns
        by_test true rest = refl
        by_test false rest = rest

    by_enables : (h : Bool) → body h 0 lower.word_bytes ≡ any_lane lower enables
    by_enables true = some_kept (is_enabled enables) (numbers 0 lower.word_bytes)
    by_enables false = by_any (any_lane lower enables) lower.word_bytes some

module _ (target : Target) (room : ℕ) (up down : Port) (state : DropState) (end : ℕ) (plan : IsDropPlan target up.shape down.shape) (run : RunsAsDrop room up down state) (legal : AreLegalAt up end) where
  abbrev pub now : ℕ → Standing
  now c = standing_at up state c

  -- a beat with a lane that counts as one
  pub record IsKept (raw : Raw) : Type 0 where
    pub lane : any_lane up.shape raw.levels.enables ≡ true
    pub one : raw.levels.count ≡ 1

  abbrev beat_of_raw : Raw → Beat
  beat_of_raw raw = beat_by (if is_raised raw.levels.write then Writes else Reads) (byte_address down.shape raw.levels.address + 0 * down.shape.word_bytes) (if is_raised raw.levels.write then raw.levels.word else 0) raw.levels.enables

  abbrev AllKept : List Raw → Type 0
  AllKept [] = Unit {0}
  AllKept (raw ∷ later) = IsKept raw × AllKept later

  kept_at : (c : ℕ) → c ≤ end → AllKept (state.kept c)
  kept_at zero h = subst AllKept (sym run.kept_begins) tt
  kept_at (suc c) h = subst AllKept (sym (run.kept_next c)) (by_keep (kept_at c (omega (arith, h))) (keeps (now c) (takes down c)) refl (takes down c))
    where
      by_keep : AllKept (state.kept c) → (k : Bool) → keeps (now c) (takes down c) ≡ k → (t : Bool) → AllKept (if k then raw_at up c ∷ [] else if t then [] else state.kept c)
      by_keep before false e true = tt
      by_keep before false e false = before
      by_keep before true e t =
          let parts = kept_parts (now c).shown (now c).writes (now c).acts (now c).more (now c).holds (takes down c) (now c).reads e in
          (record { lane = parts.1; one = count_is_one up end plan.one_beat legal c (omega (arith, h)) parts.0 }, tt)

  abbrev pub so : Raw → List Raw → ℕ → Standing
  so raw kept reads = stands_so (is_raised raw.levels.read || is_raised raw.levels.write) (is_raised raw.levels.write) (any_lane up.shape raw.levels.enables) (is_raised raw.more) (is_nonempty kept) reads

  pub sends_at : (c : ℕ) → shows down.commands.signals c ≡ true → sends room (so (raw_at up c) (state.kept c) (state.reads c)) ≡ true
  sends_at c shown = sym (run.shown c) ∙ shown

  pub above : (c : ℕ) → shows down.commands.signals c ≡ true → shows up.commands.signals c ≡ true
  above c shown = (and_parts (shows up.commands.signals c) _ (sends_at c shown)).0

  pub shown_is : (c : ℕ) → c < end → shows down.commands.signals c ≡ true → IsKept (raw_at down c)
  shown_is c h shown = subst IsKept (sym (run.beat c shown)) (by_kept (state.kept c) refl (kept_at c (omega (arith, h))))
    where
      by_kept : (q : List Raw) → state.kept c ≡ q → AllKept q → IsKept (sent_beat q (raw_at up c) (now c).acts)
      by_kept (raw ∷ later) e all = let here = all.0 in record { lane = here.lane; one = here.one }
      by_kept [] e all = record {
        lane = acts_alone room (now c).shown (now c).writes (now c).acts (now c).more (state.reads c) (subst (λ q. sends room (so (raw_at up c) q (state.reads c)) ≡ true) e (sends_at c shown));
        one = count_is_one up end plan.one_beat legal c h (above c shown);
      }

  one_kind : (c : ℕ) → c < end → shows down.commands.signals c ≡ true → IsTrue (not (is_raised (down.commands.read c) && is_raised (down.commands.write c)))
  one_kind c h shown = subst (λ (raw : Raw). IsTrue (not (is_raised raw.levels.read && is_raised raw.levels.write))) (sym (run.beat c shown)) (by_kept (state.kept c))
    where
      by_kept : (q : List Raw) → IsTrue (not (is_raised (sent_beat q (raw_at up c) (now c).acts).levels.read && is_raised (sent_beat q (raw_at up c) (now c).acts).levels.write))
      by_kept [] = legal.legal.one_kind c h
      by_kept (raw ∷ later) = refl

  -- what stands below waits above too
  pub stands_above : (c : ℕ) → is_held down.commands.signals (takes down) c ≡ true → is_held up.commands.signals (takes up) c ≡ true
  stands_above c held =
      let parts = and_parts (shows down.commands.signals c) (not (takes down c)) held in
      let not_taken = not-true (takes down c) parts.1 in
      let waits : takes up c ≡ false = run.accepts c ∙ ap (accepted (now c)) not_taken ∙ waits_above room (now c).shown (now c).writes (now c).acts (now c).more (now c).holds (now c).reads (sends_at c parts.0) in
      ap₂ (λ s t. s && not t) (above c parts.0) waits

  held_on : (c : ℕ) → suc c < end → is_held down.commands.signals (takes down) c ≡ true → raw_at down c ≡ raw_at down (suc c)
  held_on c h held =
      let parts = and_parts (shows down.commands.signals c) (not (takes down c)) held in
      let not_taken = not-true (takes down c) parts.1 in
      let stands = stands_above c held in
      let waits = not-true (takes up c) (and_parts (shows up.commands.signals c) (not (takes up c)) stands).1 in
      let same : raw_at up c ≡ raw_at up (suc c) =
      ap₂ (λ l m. raw_by l m (up.commands.tag c)) (legal.legal.held c h stands) (legal.more c h stands) ∙ ap (raw_by (levels_at up.commands.signals (suc c)) (up.commands.more (suc c))) (legal.tag c h stands) in
      let not_kept : keeps (now c) (takes down c) ≡ false = ap (λ b. b && (((now c).writes && (now c).more) && (now c).acts)) (sym (run.accepts c) ∙ waits) in
      let kept : state.kept (suc c) ≡ state.kept c = run.kept_next c ∙ ap₂ (λ k t. if k then raw_at up c ∷ [] else if t then [] else state.kept c) not_kept not_taken in
      let none : one_if (takes_read down c) ≡ 0 = ap (λ t. one_if (t && not (is_raised (down.commands.write c)))) not_taken in
      let reads = run.reads_next c in
      let later : sends room (so (raw_at up c) (state.kept c) (state.reads (suc c))) ≡ true =
      shows_on room (now c).shown (now c).writes (now c).acts (now c).more (now c).holds (state.reads c) (state.reads (suc c)) (omega (arith, reads, none)) (sends_at c parts.0) in
      let next : shows down.commands.signals (suc c) ≡ true =
      run.shown (suc c) ∙ ap₂ (λ q raw. sends room (so raw q (state.reads (suc c)))) kept (sym same) ∙ later in
      run.beat c parts.0 ∙ ap₂ (λ q (raw : Raw). sent_beat q raw (any_lane up.shape raw.levels.enables)) (sym kept) same ∙ sym (run.beat (suc c) next)

  pub one_shown : (c : ℕ) → c < end → shows down.commands.signals c ≡ true → down.commands.count c ≡ 1
  one_shown c h shown = (shown_is c h shown).one

  pub drop_legal : AreLegalAt down end
  drop_legal = legal_when_shown down.shape down.commands down.answers end (fit_alone down end one_shown one_kind) held_on

  -- ---- each beat has an operation

  push : (b : Bool) (q : List Raw) (raw : Raw) → AllKept q → (b ≡ true → IsKept raw) → AllKept (q ++ only_if b raw)
  push true [] raw all is = (is refl, tt)
  push false [] raw all is = tt
  push b (x ∷ q) raw all is = (all.0, push b q raw all.1 is)

  taken_kept : (c : ℕ) → c ≤ end → AllKept (raws down c)
  taken_kept zero h = tt
  taken_kept (suc c) h =
      push (takes down c) (raws down c) (raw_at down c) (taken_kept c (omega (arith, h)))
      (λ t. shown_is c (omega (arith, h)) (and_parts (shows down.commands.signals c) (not (is_raised (down.commands.waitrequest c))) t).0)

  shown_kept : (c : ℕ) → c ≤ end → AllKept (shown_raws down c)
  shown_kept zero h = tt
  shown_kept (suc c) h =
      push (is_held down.commands.signals (takes down) c) (raws down (suc c)) (raw_at down c) (taken_kept (suc c) h)
      (λ e. shown_is c (omega (arith, h)) (and_parts (shows down.commands.signals c) (not (takes down c)) e).0)

  have_lanes : (q : List Raw) → AllKept q → IsTrue (list_all (λ (m : Marked). list_all (λ (b : Beat). is_nonempty (beat_operations target down.shape b)) m.transfer.beats) (map (flat_mark down.shape) q))
  have_lanes [] all = refl
  have_lanes (raw ∷ later) all = ap₂ (λ x y. (x && true) && y) acts (have_lanes later all.1)
    where
      some_mapped : {A B : Type 0} (f : A → B) (l : List A) → is_nonempty l ≡ true → is_nonempty (map f l) ≡ true
      some_mapped f [] e = cc
      some_mapped f (x ∷ l) e = refl

      here : IsKept raw
      here = all.0

      acts : is_nonempty (beat_operations target down.shape (beat_of_raw raw)) ≡ true
      acts =
          let same = plan.same in
          let some = plan.some in
          some_mapped (operation_at target.span (beat_of_raw raw)) (filled_lanes down.shape target.shape raw.levels.enables)
          (lanes_are target.shape down.shape raw.levels.enables (omega (arith, same, some)) (plan.agent ∙ sym plan.same) ∙ ap (λ n. list_any (is_enabled raw.levels.enables) (numbers 0 n)) plan.same ∙ here.lane)

  pub drop_lanes : HasLanes target down end
  drop_lanes c h =
      or_right target.shape.has_enables _
      (subst (λ l. IsTrue (list_all (λ (m : Marked). list_all (λ (b : Beat). is_nonempty (beat_operations target down.shape b)) m.transfer.beats) l)) (sym (flat_shown down end drop_legal one_shown c h)) (have_lanes (shown_raws down c) (shown_kept c h)))

  -- ---- each beat below has the tag and the kind of one above

  record IsFrom (c : ℕ) (raw : Raw) : Type 0 where
    pub cycle : ℕ
    pub by_then : cycle < c
    pub shown : shows up.commands.signals cycle ≡ true
    pub writes : is_raised (up.commands.write cycle) ≡ true
    pub tag : raw.tag ≡ up.commands.tag cycle

  abbrev AllFrom : ℕ → List Raw → Type 0
  AllFrom c [] = Unit {0}
  AllFrom c (raw ∷ later) = IsFrom c raw × AllFrom c later

  later_from : (c : ℕ) (q : List Raw) → AllFrom c q → AllFrom (suc c) q
  later_from c [] all = tt
  later_from c (raw ∷ later) all =
      let here = all.0 in
      let before = here.by_then in
      (record { cycle = here.cycle; by_then = omega (arith, before); shown = here.shown; writes = here.writes; tag = here.tag }, later_from c later all.1)

  kept_from : (c : ℕ) → AllFrom c (state.kept c)
  kept_from zero = subst (AllFrom 0) (sym run.kept_begins) tt
  kept_from (suc c) = subst (AllFrom (suc c)) (sym (run.kept_next c)) (by_keep (later_from c (state.kept c) (kept_from c)) (keeps (now c) (takes down c)) refl (takes down c))
    where
      by_keep : AllFrom (suc c) (state.kept c) → (k : Bool) → keeps (now c) (takes down c) ≡ k → (t : Bool) → AllFrom (suc c) (if k then raw_at up c ∷ [] else if t then [] else state.kept c)
      by_keep before false e true = tt
      by_keep before false e false = before
      by_keep before true e t = (
        record {
          cycle = c;
          by_then = omega arith;
          shown = (kept_parts (now c).shown (now c).writes (now c).acts (now c).more (now c).holds (takes down c) (now c).reads e).0;
          writes = kept_writes (now c).shown (now c).writes (now c).acts (now c).more (now c).holds (takes down c) (now c).reads e;
          tag = refl;
        },
        tt,
      )

  shown_for : (c : ℕ) → c < end → shows down.commands.signals c ≡ true → (k : ℕ) × IsShownFor up down c k
  shown_for c h shown = by_kept (state.kept c) refl (kept_from c)
    where
      beat : (q : List Raw) → state.kept c ≡ q → raw_at down c ≡ sent_beat q (raw_at up c) (now c).acts
      beat q e = run.beat c shown ∙ ap (λ q. sent_beat q (raw_at up c) (now c).acts) e

      no_read : (r w : Bool) → w ≡ true → IsTrue (not (r && w)) → false ≡ r
      no_read false w e one = refl
      no_read true true e one = cc
      no_read true false e one = cc

      by_kept : (q : List Raw) → state.kept c ≡ q → AllFrom c q → (k : ℕ) × IsShownFor up down c k
      by_kept [] e all = (
        c,
        record {
          by_then = omega arith;
          shown = above c shown;
          tag = ap (λ (raw : Raw). raw.tag) (beat [] e);
          reads = ap (λ (raw : Raw). is_raised raw.levels.read) (beat [] e);
          writes = ap (λ (raw : Raw). is_raised raw.levels.write) (beat [] e);
        },
      )
      by_kept (raw ∷ later) e all =
          let here = all.0 in
          let before = here.by_then in (
            here.cycle,
            record {
              by_then = omega (arith, before);
              shown = here.shown;
              tag = ap (λ (raw : Raw). raw.tag) (beat (raw ∷ later) e) ∙ here.tag;
              reads = ap (λ (raw : Raw). is_raised raw.levels.read) (beat (raw ∷ later) e) ∙ no_read (is_raised (up.commands.read here.cycle)) (is_raised (up.commands.write here.cycle)) here.writes (legal.legal.one_kind here.cycle (omega (arith, before, h)));
              writes = ap (λ (raw : Raw). is_raised raw.levels.write) (beat (raw ∷ later) e) ∙ sym here.writes;
            },
          )

  pub drop_hands_on : HandsOn up down end
  drop_hands_on = hands_on_shown up down end shown_for
