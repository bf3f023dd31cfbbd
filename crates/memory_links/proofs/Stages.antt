-- A stage with a queue and an answer register keeps all that a link promises.
use Rattle.std.proofs.Common.{ℕ, zero, suc, ◌<◌, ◌≤◌, ◌≡◌, ◌+◌, ◌-◌, ◌⊎◌, inl, inr, Bool, true, false, not, ◌||◌, ◌&&◌, List, [], ◌∷◌, ◌++◌, Some, slice_get, arith, refl, sym, ap, ap₂, subst, ◌∙◌, nat_lt, length, drop, map, zip, flat_map, IsTrue, IsFalse, append-nil, append_assoc, length-append, ltb-true, ltb-false, lt-ltb, le-leb, le_refl, if◌then◌else◌}
use Rattle.std.specs.List.{list_all}
use Rattle.std.proofs.lemmas.Bool.{or_left, or_right, and_parts, or_parts, both_ways, and_from, le-ltb, leb-true}
use Rattle.std.proofs.lemmas.List.{length-map, map-append}
use Rattle.histories.specs.History.{is_raised, only_if, one_if, total, IsPrefix, all_accepted}
use Rattle.histories.specs.Laws.{prefix_refl, prefix_trans, prefix_filter, prefix_flat_map, prefix_length, before_extends, before_prefix}
use Rattle.memory_runs.specs.Views.{Shape}
use Rattle.memory_runs.specs.Operations.{Beat}
use Rattle.memory_runs.specs.Commands.{Burst, shows, is_held, words_before}
use Rattle.memory_runs.specs.Legal.{Word}
use Rattle.memory_machines.specs.Paths.{CommandView, AnswerView}
use Rattle.memory_machines.specs.Link.{Target, Port, Marked, KeepsLinkLaw, AreLegalAt, AnswersAreOwed, takes, taken_at, shown_at, read_beats, words_at, words_owed, operations_in, operations_among, closes, beat_operations, is_nonempty}
use Rattle.memory_machines.specs.Blocks.{Block, block, worded}
use Rattle.memory_machines.specs.Lines.{IsWordForWord, KeepsRow, HandsOn}
use Rattle.memory_machines.specs.PartRanks.{Accepted, HoldsBack, held_back, behind, are_joined_alike, goes_on_alike}
use Rattle.memory_machines.specs.Rank.{LinkRankFalls, has_commands, moves_commands, is_excused, is_owed}
use Rattle.memory_machines.specs.Machines.{Raw, Stage, RunsAsStage, WaitsOnlyWhenFull, above, below, raws, raw_at, mark, marked, burst_of, burst_past, idle, IsStageRun, ShowsHead, port_of, owing_rank}
use Rattle.memory_machines.specs.SideLaws.{taken_is_shown, same_counts, zip_front}
use Rattle.memory_links.proofs.Words.{words_move}
use Rattle.memory_links.specs.Going.{GoesOn, KeepsGoing, GivesWhatHasCome, is_behind, is_untaken}
use Rattle.memory_links.specs.Going.RowGoesOn.{at_end, further}
use Rattle.memory_links.specs.Links.{IsLink, BringsLanesDown, HandsOnJoins, OwesNothingBelow}
use Rattle.memory_links.specs.Pipes.{stage_form}
use Rattle.memory_links.proofs.HandOn.{IsShownFor, hands_on_shown}

-- what the machines' own crate says of a stage
pub record StageLaws : Type 0 where
  pub link : (stage : Stage) → RunsAsStage stage → (target : Target) (end : ℕ) → 0 < stage.shape.word_bytes → KeepsLinkLaw target stage.depth (above stage) (below stage) end
  pub rank : (stage : Stage) → RunsAsStage stage → 0 < stage.depth → WaitsOnlyWhenFull stage → (target : Target) (end : ℕ) → AreLegalAt (above stage) end → LinkRankFalls target (above stage) (below stage) (owing_rank (below stage)) 1 end
  pub later : (stage : Stage) → RunsAsStage stage → (end : ℕ) → AreLegalAt (above stage) end → (c : ℕ) → c < end → IsPrefix (shown_at (below stage) (suc c)) (taken_at (above stage) c)
  pub beats : (port : Port) (c : ℕ) → taken_at port c ≡ marked port.shape idle (raws port c)

no_true : IsTrue false → ⊥
no_true h = cc

none_taken : (port : Port) (c : ℕ) → IsFalse (takes port c) → taken_at port (suc c) ≡ taken_at port c
none_taken port c none = rw none (append-nil (taken_at port c))

pub marked_append : (shape : Shape) (burst : Burst) (xs ys : List Raw) → marked shape burst (xs ++ ys) ≡ marked shape burst xs ++ marked shape (burst_of shape burst xs) ys
marked_append shape burst [] ys = refl
marked_append shape burst (x ∷ xs) ys = ap (λ l. mark shape burst x ∷ l) (marked_append shape (burst_past shape burst x) xs ys)

pub length_marked : (shape : Shape) (burst : Burst) (xs : List Raw) → length (marked shape burst xs) ≡ length xs
length_marked shape burst [] = refl
length_marked shape burst (x ∷ xs) = ap (λ n. suc n) (length_marked shape (burst_past shape burst x) xs)

length_drop : {A : Type 0} (b : Bool) (xs : List A) → length (drop (if b then 1 else 0) xs) ≤ length xs
length_drop true [] = le_refl 0
length_drop true (x ∷ xs) = omega arith
length_drop false xs = le_refl _

bounded_step : (depth : ℕ) (b taken : Bool) (q : List Raw) (x : Raw) → length q ≤ depth → (taken ≡ true → length q < depth) → length (drop (if b then 1 else 0) q ++ only_if taken x) ≤ depth
bounded_step depth b true q x h room =
    let sum = length-append (drop (if b then 1 else 0) q) (x ∷ []) in
    let few = length_drop b q in
    let less = room refl in
    omega (arith, sum, few, less)
bounded_step depth b false q x h room = rw append-nil (let few = length_drop b q in omega (arith, few))

pub one_more_word : (port : Port) (c : ℕ) → length (words_at port (suc c)) ≡ length (words_at port c) + (if is_raised (port.answers.valid c) then 1 else 0)
one_more_word port c = by_valid (is_raised (port.answers.valid c))
  where
    by_valid : (b : Bool) → length (words_at port c ++ only_if b (record { word = port.answers.word c; code = port.answers.code c })) ≡ length (words_at port c) + (if b then 1 else 0)
    by_valid true = length-append (words_at port c) (record { word = port.answers.word c; code = port.answers.code c } ∷ [])
    by_valid false = let same = ap length (append-nil (words_at port c)) in omega (arith, same)

-- the rank of what is owed doesn't rise while nothing is taken
pub still_rank : (port : Port) (c : ℕ) → IsFalse (takes port c) → owing_rank port (suc c) ≤ owing_rank port c
still_rank port c none = by_tests (nat_lt (length (words_at port (suc c))) (words_owed port (suc c))) refl
  where
    by_tests : (b : Bool) → nat_lt (length (words_at port (suc c))) (words_owed port (suc c)) ≡ b → one_if b ≤ owing_rank port c
    by_tests false e = omega arith
    by_tests true e =
        let less = ltb-true (length (words_at port (suc c))) (words_owed port (suc c)) e in
        let same = ap (λ l. length (read_beats l)) (none_taken port c none) in
        let grow = one_more_word port c in
        let before = lt-ltb (length (words_at port c)) (words_owed port c) (omega (arith, less, same, grow)) in
        rw before (omega arith)

-- ---- what waits behind the beats that are taken below

behind_length : (ended : Bool) (xs : List Accepted) → behind ended xs ≤ length xs
behind_length ended [] = le_refl 0
behind_length ended (a ∷ later) =
    let rest = behind_length (ended || a.closes) later in
    let one = small (ended || nat_lt 0 a.size) in
    omega (arith, rest, one)
  where
    small : (b : Bool) → (if b then 1 else 0) ≤ 1
    small true = le_refl 1
    small false = omega arith

held_back_length : (xs : List Accepted) → held_back xs 0 ≤ length xs
held_back_length [] = le_refl 0
held_back_length (a ∷ later) = by_size (nat_lt 0 a.size) (behind_length a.closes later) (held_back_length later)
  where
    by_size : (b : Bool) → behind a.closes later ≤ length later → held_back later 0 ≤ length later → (if b then 1 + behind a.closes later else held_back later (0 - a.size)) ≤ suc (length later)
    by_size true few rest = omega (arith, few)
    by_size false few rest = let none : 0 - a.size ≡ 0 = omega arith in rw none (omega (arith, rest))

pub held_back_past : (xs ys : List Accepted) → held_back (xs ++ ys) (total (map (λ (a : Accepted). a.size) xs)) ≤ length ys
held_back_past [] ys = held_back_length ys
held_back_past (x ∷ xs) ys =
    let rest = held_back_past xs ys in
    let left : (x.size + total (map (λ (a : Accepted). a.size) xs)) - x.size ≡ total (map (λ (a : Accepted). a.size) xs) = omega arith in
    let past : nat_lt (x.size + total (map (λ (a : Accepted). a.size) xs)) x.size ≡ false = le-ltb _ x.size (omega arith) in
    rw (left, past) rest

abbrev pub accepted_of : Target → Shape → Marked → Accepted
accepted_of target shape m = record { size = length (operations_in target shape m); closes = closes m }

pub total_accepted : (target : Target) (shape : Shape) (transfers : List Marked) → total (map (λ (a : Accepted). a.size) (map (accepted_of target shape) transfers)) ≡ length (operations_among target shape transfers)
total_accepted target shape [] = refl
total_accepted target shape (m ∷ later) = ap (λ n. length (operations_in target shape m) + n) (total_accepted target shape later) ∙ sym (length-append (operations_in target shape m) _)

-- ---- joined commands of a front

alike_front : (target : Target) (port : Port) (xs ys : List Marked) → IsTrue (are_joined_alike target port (xs ++ ys)) → IsTrue (are_joined_alike target port xs)
alike_front target port [] ys h = refl
alike_front target port (m ∷ []) ys h = refl
alike_front target port (m ∷ next ∷ later) ys h =
    let parts = and_parts (closes m || goes_on_alike target port m next) (are_joined_alike target port (next ∷ later ++ ys)) h in
    and_from _ _ parts.0 (alike_front target port (next ∷ later) ys parts.1)

pub alike_prefix : (target : Target) (port : Port) {xs ys : List Marked} → IsPrefix xs ys → IsTrue (are_joined_alike target port ys) → IsTrue (are_joined_alike target port xs)
alike_prefix target port {xs} {ys} p h = alike_front target port xs p.rest (subst (λ l. IsTrue (are_joined_alike target port l)) (sym p.joins) h)

pub tail_alike : (target : Target) (port : Port) (m : Marked) (ms : List Marked) → IsTrue (are_joined_alike target port (m ∷ ms)) → IsTrue (are_joined_alike target port ms)
tail_alike target port m [] h = refl
tail_alike target port m (next ∷ later) h = (and_parts (closes m || goes_on_alike target port m next) (are_joined_alike target port (next ∷ later)) h).1

pub all_append : {A : Type 0} (test : A → Bool) (xs ys : List A) → IsTrue (list_all test xs) → IsTrue (list_all test ys) → IsTrue (list_all test (xs ++ ys))
all_append test [] ys a b = b
all_append test (x ∷ xs) ys a b = let parts = and_parts (test x) (list_all test xs) a in and_from _ _ parts.0 (all_append test xs ys parts.1 b)

pub all_front : {A : Type 0} (test : A → Bool) (xs ys : List A) → IsTrue (list_all test (xs ++ ys)) → IsTrue (list_all test xs)
all_front test [] ys h = refl
all_front test (x ∷ xs) ys h = let parts = and_parts (test x) (list_all test (xs ++ ys)) h in and_from _ _ parts.0 (all_front test xs ys parts.1)

-- ---- where an accepted item came from

get_last : {A : Type 0} (xs : List A) (y x : A) (n : ℕ) → slice_get (xs ++ y ∷ []) n ≡ Some x → (slice_get xs n ≡ Some x) ⊎ (y ≡ x)
get_last [] y x zero h = inr cc
get_last [] y x (suc n) h = cc
get_last (z ∷ zs) y x zero h = inl h
get_last (z ∷ zs) y x (suc n) h = get_last zs y x n h

pub accepted_from : {A : Type 0} (accepts : ℕ → Bool) (item : ℕ → A) (c n : ℕ) (x : A) → slice_get (all_accepted accepts item c) n ≡ Some x → (d : ℕ) × (d < c) × (accepts d ≡ true) × (item d ≡ x)
accepted_from accepts item zero n x h = cc
accepted_from {A} accepts item (suc c) n x h = by_test (accepted_from accepts item c n x) (accepts c) refl h
  where
    by_test : (slice_get (all_accepted accepts item c) n ≡ Some x → (d : ℕ) × (d < c) × (accepts d ≡ true) × (item d ≡ x)) → (b : Bool) → accepts c ≡ b → slice_get (all_accepted accepts item c ++ only_if b (item c)) n ≡ Some x → (d : ℕ) × (d < suc c) × (accepts d ≡ true) × (item d ≡ x)
    by_test before false e g = let there = before (subst (λ l. slice_get l n ≡ Some x) (append-nil (all_accepted accepts item c)) g) in (there.0, omega (arith, there.1), there.2, there.3)
    by_test before true e g =
        elim (get_last (all_accepted accepts item c) (item c) x n g) [
          | inl earlier ↦ (let there = before earlier in (there.0, omega (arith, there.1), there.2, there.3))
          | inr now ↦ (c, omega arith, e, now)
        ]

pub get_behind : {A : Type 0} (xs : List A) (x : A) (ys : List A) → slice_get (xs ++ x ∷ ys) (length xs) ≡ Some x
get_behind [] x ys = refl
get_behind (z ∷ zs) x ys = get_behind zs x ys

-- ---- words from below

zip_grows : (xs : List Beat) (ws more : List Word) → length ws ≤ length xs → IsPrefix (zip xs ws) (zip xs (ws ++ more))
zip_grows [] [] more h = record { rest = zip [] more; joins = refl }
zip_grows [] (w ∷ ws) more h = absurd (omega arith)
zip_grows (x ∷ xs) [] more h = record { rest = zip (x ∷ xs) more; joins = refl }
zip_grows (x ∷ xs) (w ∷ ws) more h = let p = zip_grows xs ws more (omega arith) in record { rest = p.rest; joins = ap (λ l. (x, w) ∷ l) p.joins }

-- fewer words for more beats are fewer blocks
pub blocks_front : (f : Beat × Word → List Block) (few all : List Beat) (ws words : List Word) → IsPrefix few all → IsPrefix ws words → length ws ≤ length few →
    IsPrefix (worded (flat_map f (zip all ws))) (worded (flat_map f (zip few words)))
blocks_front f few all ws words beats given enough =
    prefix_filter _ (prefix_flat_map f
    (subst (λ l. IsPrefix l (zip few words)) (sym (zip_front few beats.rest ws enough) ∙ ap (λ l. zip l ws) beats.joins)
    (subst (λ l. IsPrefix (zip few ws) (zip few l)) given.joins (zip_grows few ws given.rest enough))))

-- ---- a stage between its sides

abbrev quiet_answers : AnswerView
quiet_answers = record { valid = λ c. 0; word = λ c. 0; code = λ c. 0 }

module _ (laws : StageLaws) (depth : ℕ) (shape : Shape) (uc dc : CommandView) (ua da : AnswerView) (queue : ℕ → List Raw) (run : IsStageRun depth (port_of shape uc ua) (port_of shape dc da) queue) where
  abbrev up : Port
  up = port_of shape uc ua

  abbrev down : Port
  down = port_of shape dc da

  abbrev stage : Stage
  stage = record { depth = depth; shape = shape; sides = record { commands_above = uc; answers_above = ua; commands_below = dc; answers_below = da }; queue = queue }

  pub bounded : (c : ℕ) → length (queue c) ≤ depth
  bounded zero = rw run.begins (omega arith)
  bounded (suc c) = subst (λ q. length q ≤ depth) (sym (run.next c)) (bounded_step depth (takes down c) (takes up c) (queue c) (raw_at up c) (bounded c) (run.room c))

  step : (c : ℕ) (t : Bool) (q : List Raw) → takes down c ≡ t → ShowsHead down c q → q ≡ only_if t (raw_at down c) ++ drop (if t then 1 else 0) q
  step c true [] taken head = let bad = (and_parts (shows down.commands.signals c) (not (is_raised (down.commands.waitrequest c))) taken).0 in cc
  step c true (raw ∷ later) taken head = ap (λ r. r ∷ later) (sym head.1)
  step c false q taken head = refl

  -- what was taken above is what was taken below, and the queue
  pub queued : (c : ℕ) → raws up c ≡ raws down c ++ queue c
  queued zero = sym run.begins
  queued (suc c) =
      ap (λ l. l ++ only_if (takes up c) (raw_at up c)) (queued c ∙ ap (λ l. raws down c ++ l) (step c (takes down c) (queue c) refl (run.heads c)) ∙ sym (append_assoc (raws down c) (only_if (takes down c) (raw_at down c)) (drop (if takes down c then 1 else 0) (queue c))))
      ∙ append_assoc (raws down c ++ only_if (takes down c) (raw_at down c)) (drop (if takes down c then 1 else 0) (queue c)) (only_if (takes up c) (raw_at up c))
      ∙ ap (λ l. (raws down c ++ only_if (takes down c) (raw_at down c)) ++ l) (sym (run.next c))

  abbrev waiting : ℕ → List Marked
  waiting c = marked shape (burst_of shape idle (raws down c)) (queue c)

  pub taken_split : (c : ℕ) → taken_at up c ≡ taken_at down c ++ waiting c
  taken_split c =
      laws.beats up c ∙ ap (marked shape idle) (queued c) ∙ marked_append shape idle (raws down c) (queue c) ∙ ap (λ l. l ++ waiting c) (sym (laws.beats down c))

  pub taken_front : (c : ℕ) → IsPrefix (taken_at down c) (taken_at up c)
  taken_front c = record { rest = waiting c; joins = sym (taken_split c) }

  pub words_later : (c : ℕ) → words_at up (suc c) ≡ words_at down c
  words_later zero = rw run.quiet refl
  words_later (suc c) =
      ap₂ (λ xs ys. xs ++ ys) (words_later c)
      (ap₂ (λ v w. only_if (is_raised v) w) (run.valid c) (ap₂ (λ w k. record { word = w; code = k }) (run.word c) (run.code c)))

  pub holds_back : (target : Target) (end : ℕ) → HoldsBack depth target up down end
  holds_back target end c low =
      let f = accepted_of target shape in
      let split : map f (taken_at up c) ≡ map f (taken_at down c) ++ map f (waiting c) = ap (map f) (taken_split c) ∙ map-append f (taken_at down c) (waiting c) in
      let past = held_back_past (map f (taken_at down c)) (map f (waiting c)) in
      let few : length (map f (waiting c)) ≡ length (queue c) = length-map (waiting c) f ∙ length_marked shape _ (queue c) in
      let bound = bounded c in
      let all : held_back (map f (taken_at up c)) (length (operations_among target shape (taken_at down c))) ≤ length (map f (waiting c)) =
      subst (λ l. held_back l (length (operations_among target shape (taken_at down c))) ≤ length (map f (waiting c))) (sym split)
      (subst (λ n. held_back (map f (taken_at down c) ++ map f (waiting c)) n ≤ length (map f (waiting c))) (total_accepted target shape (taken_at down c)) past) in
      omega (arith, all, few, bound)

  -- the commands below are legal, whatever the answers are
  pub legal_down : (end : ℕ) → 0 < shape.word_bytes → AreLegalAt up end → AreLegalAt down end
  legal_down end some legal =
      let quiet : Stage = record { depth = depth; shape = shape; sides = record { commands_above = uc; answers_above = quiet_answers; commands_below = dc; answers_below = quiet_answers }; queue = queue } in
      let runs : RunsAsStage quiet = record { begins = run.begins; heads = run.heads; room = run.room; next = run.next; quiet = refl; valid = λ c. refl; word = λ c. refl; code = λ c. refl } in
      let target : Target = record { shape = shape; span = 0 } in
      let there = ((laws.link quiet runs target end some).commands end (le_refl end) (record { legal = legal.legal; tag = legal.tag; more = legal.more; joined = legal.joined }) (λ c low. none c)).legal in
      record { legal = there.legal; tag = there.tag; more = there.more; joined = there.joined }
    where
      none : (c : ℕ) → words_before quiet_answers.valid (suc c) ≤ words_owed (port_of shape dc quiet_answers) c
      none c = let empty = no_words (suc c) in omega (arith, empty)
        where
          no_words : (c : ℕ) → words_before quiet_answers.valid c ≡ 0
          no_words zero = refl
          no_words (suc c) = ap length (append-nil _) ∙ no_words c

  pub shown_below : (end c : ℕ) → AreLegalAt up end → c ≤ end → IsPrefix (shown_at down c) (taken_at up (c - 1))
  shown_below end zero legal low = prefix_refl []
  shown_below end (suc c) legal low =
      let back : suc c - 1 ≡ c = omega arith in
      subst (λ k. IsPrefix (shown_at down (suc c)) (taken_at up k)) (sym back) (laws.later stage run end legal c low)

  pub shown_front : (end c : ℕ) → AreLegalAt up end → c ≤ end → IsPrefix (shown_at down c) (shown_at up (c - 1))
  shown_front end c legal low = prefix_trans (shown_below end c legal low) (taken_is_shown up end (c - 1) legal (omega arith))

  -- a beat that is shown below was taken above in an earlier cycle
  pub shown_from : (c : ℕ) → shows dc.signals c ≡ true → (d : ℕ) × (d < c) × (takes up d ≡ true) × (raw_at up d ≡ raw_at down c)
  shown_from c shown = by_queue (queue c) refl (run.heads c)
    where
      by_queue : (q : List Raw) → queue c ≡ q → ShowsHead down c q → (d : ℕ) × (d < c) × (takes up d ≡ true) × (raw_at up d ≡ raw_at down c)
      by_queue [] is head = let bad = head in cc
      by_queue (raw ∷ later) is head =
          accepted_from (takes up) (raw_at up) c (length (raws down c)) (raw_at down c)
          (subst (λ l. slice_get l (length (raws down c)) ≡ Some (raw_at down c)) (sym (queued c ∙ ap (λ q. raws down c ++ q) is))
          (subst (λ r. slice_get (raws down c ++ raw ∷ later) (length (raws down c)) ≡ Some r) (sym head.1) (get_behind (raws down c) raw later)))

  pub stage_hands_on : (end : ℕ) → HandsOn up down end
  stage_hands_on end = hands_on_shown up down end from
    where
      from : (c : ℕ) → c < end → shows dc.signals c ≡ true → (above : ℕ) × IsShownFor up down c above
      from c low shown =
          let there = shown_from c shown in (
            there.0,
            record {
              by_then = omega (arith, there.1);
              shown = (and_parts (shows uc.signals there.0) (not (is_raised (uc.waitrequest there.0))) there.2).0;
              tag = ap (λ (r : Raw). r.tag) (sym there.3);
              reads = ap (λ (r : Raw). is_raised r.levels.read) (sym there.3);
              writes = ap (λ (r : Raw). is_raised r.levels.write) (sym there.3);
            },
          )

  -- words come up after those below, and no more than the beats taken there
  pub words_front : (c : ℕ) → IsPrefix (words_at up c) (words_at down c)
  words_front zero = prefix_refl []
  words_front (suc c) = subst (λ l. IsPrefix l (words_at down (suc c))) (sym (words_later c)) (before_extends _ c)

  beats_front : (c : ℕ) → IsPrefix (read_beats (taken_at down c)) (read_beats (taken_at up c))
  beats_front c = prefix_flat_map _ (prefix_filter _ (taken_front c))

  enough : (c : ℕ) → AnswersAreOwed down c → length (words_at up c) ≤ length (read_beats (taken_at down c))
  enough zero owed = omega arith
  enough (suc zero) owed = subst (λ l. length l ≤ length (read_beats (taken_at down 1))) (sym (words_later 0)) (omega arith)
  enough (suc (suc c)) owed =
      let counts : words_before da.valid (suc c) ≡ length (words_at down (suc c)) = same_counts (λ c. is_raised (da.valid c)) (λ c. c) (λ c. record { word = da.word c; code = da.code c }) (suc c) in
      let asked = owed c (omega arith) in
      let grown : length (read_beats (taken_at down c)) ≤ length (read_beats (taken_at down (suc (suc c)))) =
      prefix_length (prefix_flat_map _ (prefix_filter _ (prefix_trans (before_extends _ c) (before_extends _ (suc c))))) in
      let same = ap length (words_later (suc c)) in
      omega (arith, counts, asked, grown, same)

  pub stage_words : (target : Target) (end : ℕ) → IsWordForWord target up down end
  stage_words target end c low legal owed =
      blocks_front (block target down) (read_beats (taken_at down c)) (read_beats (taken_at up c)) (words_at up c) (words_at down c) (beats_front c) (words_front c) (enough c owed)

  module _ (deep : 0 < depth) (opens : (c : ℕ) → length (queue c) < depth → is_raised (uc.waitrequest c) ≡ false) (target : Target) (end : ℕ) (legal : AreLegalAt up end) (legal_below : AreLegalAt down end) where
    later_words : (c : ℕ) → length (words_at up (suc c)) ≡ length (words_at down c)
    later_words c = ap length (words_later c)

    words : GivesWhatHasCome target up down end
    words c h owed = by_parts (is_behind target up down c) refl (moves_commands up down c) refl (is_owed down c) refl (is_raised (da.valid c)) refl
      where
        by_head : IsFalse (is_behind target up down c) → IsFalse (moves_commands up down c) → (q : List Raw) → queue c ≡ q → ShowsHead down c q → queue c ≡ []
        by_head still rests [] eq heads = eq
        by_head still rests (r ∷ later) eq heads =
            let held = (or_parts (is_untaken target up down c) (is_held dc.signals (takes down) c) still).1 in
            let not_taken = (or_parts (takes down c) (takes up c) rests).0 in
            absurd (both_ways (is_held dc.signals (takes down) c) held (holds_it (shows dc.signals c) (takes down c) heads.0 not_taken))
          where
            holds_it : (s t : Bool) → IsTrue s → IsFalse t → IsTrue (s && not t)
            holds_it true false a b = refl
            holds_it true true a b = cc
            holds_it false t a b = absurd (no_true a)

        same_owed : IsFalse (is_behind target up down c) → IsFalse (moves_commands up down c) → words_owed up (suc c) ≡ words_owed down (suc c)
        same_owed still rests =
            let empty = by_head still rests (queue c) refl (run.heads c) in
            let two = or_parts (takes down c) (takes up c) rests in
            ap (λ l. length (read_beats l))
            (none_taken up c two.1 ∙ laws.beats up c ∙ ap (marked shape idle) (queued c ∙ ap (λ q. raws down c ++ q) empty ∙ append-nil (raws down c)) ∙ sym (laws.beats down c) ∙ sym (none_taken down c two.0))

        by_parts : (a : Bool) → is_behind target up down c ≡ a → (m : Bool) → moves_commands up down c ≡ m → (o : Bool) → is_owed down c ≡ o → (v : Bool) → is_raised (da.valid c) ≡ v →
            IsTrue (is_behind target up down c || (moves_commands up down c || is_raised (ua.valid (suc c))) || is_owed down c)
        by_parts true ea m em o eo v ev = or_left _ _ (or_left _ _ ea)
        by_parts false ea true em o eo v ev = or_left _ _ (or_right (is_behind target up down c) _ (or_left _ _ em))
        by_parts false ea false em true eo v ev = or_right _ (is_owed down c) eo
        by_parts false ea false em false eo true ev = or_left _ _ (or_right (is_behind target up down c) _ (or_right (moves_commands up down c) _ (ap is_raised (run.valid c) ∙ ev)))
        by_parts false ea false em false eo false ev =
            let same = same_owed ea em in
            let less = ltb-true (length (words_at up (suc c))) (words_owed up (suc c)) owed in
            let all = ltb-false (length (words_at down (suc c))) (words_owed down (suc c)) eo in
            let shift = later_words c in
            let grow = one_more_word down c ∙ ap (λ v. length (words_at down c) + (if v then 1 else 0)) ev in
            absurd (omega (arith, same, less, all, shift, grow))

    pub stage_keeps_going : KeepsGoing target up down (owing_rank down) 1 end
    stage_keeps_going = record {
      legal = legal;
      legal_down = legal_below;
      falls = words_move up down (record {
        bounded = λ c h. falls_commands.bounded c h;
        falls = λ c h w m e. two_of (has_commands target up down c) (is_held dc.signals (takes down) c) w
            (λ commands. falls_commands.falls c h commands m e)
            (λ held. absurd (both_ways (is_excused up down c) (by_not (is_excused up down c) e) (or_left _ _ (or_left _ _ held))));
        stays = λ c h w m. still_rank down c (not_or (takes down c) (takes up c) m);
      });
      words = words;
    }
      where
        falls_commands : LinkRankFalls target up down (owing_rank down) 1 end
        falls_commands = laws.rank stage run deep opens target end legal

        by_not : (b : Bool) → IsTrue (not b) → IsFalse b
        by_not true h = absurd (no_true h)
        by_not false h = refl

        not_or : (a b : Bool) → IsTrue (not (a || b)) → IsFalse a
        not_or true b h = absurd (no_true h)
        not_or false b h = refl

        two_of : (a b : Bool) {R : Type 0} → IsTrue (a || b) → (IsTrue a → R) → (IsTrue b → R) → R
        two_of true b h fa fb = fa refl
        two_of false b h fa fb = fb h

    pub stage_goes_on : GoesOn target (record { largest = 1; hold = depth }) up down end
    stage_goes_on = record { rank = owing_rank down; going = stage_keeps_going; holds = holds_back target end }

module _ (laws : StageLaws) (target : Target) (shape : Shape) (uc dc : CommandView) (ua da : AnswerView) (queue : ℕ → List Raw) (run : IsStageRun 2 (port_of shape uc ua) (port_of shape dc da) queue)
    (opens : (c : ℕ) → length (queue c) < 2 → is_raised (uc.waitrequest c) ≡ false) (some : 0 < shape.word_bytes)
    (row : (target : Target) (hold : ℕ) (up down : Port) (end : ℕ) → KeepsLinkLaw target hold up down end → ((c : ℕ) → c ≤ end → AreLegalAt up c → AnswersAreOwed down (c - 1) → HandsOn up down c) → KeepsRow target hold up down end) (end : ℕ) where
  abbrev top : Port
  top = port_of shape uc ua

  abbrev low_side : Port
  low_side = port_of shape dc da

  lanes : BringsLanesDown false target top low_side end
  lanes c low legal owed has k less =
      front_lanes target.shape.has_enables (shown_at low_side k) (shown_at top k)
      (prefix_trans (shown_front laws 2 shape uc dc ua da queue run c k legal less) (before_prefix _ (k - 1) k (omega arith))) (has refl k less)
    where
      front_lanes : (b : Bool) (xs ys : List Marked) → IsPrefix xs ys → IsTrue (b || list_all (λ (m : Marked). list_all (λ (b : Beat). is_nonempty (beat_operations target shape b)) m.transfer.beats) ys) →
          IsTrue (b || list_all (λ (m : Marked). list_all (λ (b : Beat). is_nonempty (beat_operations target shape b)) m.transfer.beats) xs)
      front_lanes true xs ys p h = refl
      front_lanes false xs ys p h = all_front _ xs p.rest (subst (λ l. IsTrue (list_all (λ (m : Marked). list_all (λ (b : Beat). is_nonempty (beat_operations target shape b)) m.transfer.beats) l)) (sym p.joins) h)

  joins : HandsOnJoins target top low_side end
  joins c low legal owed alike k less =
      alike_prefix target low_side (prefix_trans (shown_front laws 2 shape uc dc ua da queue run c k legal less) (before_prefix _ (k - 1) k (omega arith))) (alike k less)

  quiet : OwesNothingBelow top low_side end
  quiet c low legal owed answered =
      let more : length (read_beats (shown_at low_side c)) ≤ length (read_beats (shown_at top c)) =
      prefix_length (prefix_flat_map _ (prefix_filter _ (prefix_trans (shown_front laws 2 shape uc dc ua da queue run c c legal (le_refl c)) (before_prefix _ (c - 1) c (omega arith))))) in
      let given = leb-true (length (read_beats (shown_at top c))) (length (words_at top c)) answered in
      let below = prefix_length (words_front laws 2 shape uc dc ua da queue run c) in
      le-leb _ _ (omega (arith, more, given, below))

  pub stage_is_link : IsLink (stage_form target) top low_side end
  stage_is_link = record {
    row = row target 2 top low_side end (laws.link (record { depth = 2; shape = shape; sides = record { commands_above = uc; answers_above = ua; commands_below = dc; answers_below = da }; queue = queue }) run target end some)
        (λ c h legal owed. stage_hands_on laws 2 shape uc dc ua da queue run c);
    words = λ is. stage_words laws 2 shape uc dc ua da queue run target end;
    lanes = lanes;
    joins = joins;
    quiet = quiet;
    goes_on = λ legal owed alike. further (stage_goes_on laws 2 shape uc dc ua da queue run (omega arith) opens target end legal (legal_down laws 2 shape uc dc ua da queue run end some legal)) at_end;
  }
