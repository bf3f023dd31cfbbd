-- The commands of a splitter: it sends the parts of each beat in order, and accepts the beat with the last of them.
use Rattle.std.proofs.Common.{ℕ, zero, suc, ◌<◌, ◌≤◌, ◌≡◌, Bool, true, false, not, ◌&&◌, ◌||◌, List, [], ◌∷◌, ◌++◌, if◌then◌else◌, arith, refl, sym, ap, ap₂, ◌∙◌, length, take, drop, nat_lt, nat_eq, Some, slice_get, append-nil, ltb-true, lt-ltb, tests}
use Rattle.std.proofs.lemmas.Bool.{and_parts, not-true}
use Rattle.histories.specs.History.{is_raised, only_if, one_if}
use Rattle.memory_runs.specs.Views.{Levels, levels_at}
use Rattle.memory_runs.specs.Commands.{shows, is_held}
use Rattle.memory_runs.specs.Laws.{accepts_shows}
use Rattle.memory_machines.specs.Link.{Port, AreLegalAt, takes}
use Rattle.memory_machines.specs.Machines.{Raw, raw_at, parts_sent, IsExpanderRun, split_parts, beat_of}
use Rattle.memory_links.specs.Selects.{takes_read}
use Rattle.memory_links.specs.Splits.{SplitState, RunsAsSplit, opens, split_at, split_rest, asked_at, are_same, pieces_asked}

pub take_next : {A : Type 0} (xs : List A) (n : ℕ) (x : A) → slice_get xs n ≡ Some x → take n xs ++ x ∷ [] ≡ take (suc n) xs
take_next [] n x h = cc
take_next (y ∷ ys) zero x h = let same : y ≡ x = cc in ap (λ z. z ∷ []) (sym same)
take_next (y ∷ ys) (suc n) x h = ap (λ l. y ∷ l) (take_next ys n x h)

split_there : {A : Type 0} (xs : List A) (n : ℕ) (x : A) → slice_get xs n ≡ Some x → xs ≡ take n xs ++ x ∷ drop (suc n) xs
split_there [] n x h = cc
split_there (y ∷ ys) zero x h = let same : y ≡ x = cc in ap (λ z. z ∷ ys) same
split_there (y ∷ ys) (suc n) x h = ap (λ l. y ∷ l) (split_there ys n x h)

pub take_all : {A : Type 0} (xs : List A) (n : ℕ) → n ≡ length xs → take n xs ≡ xs
take_all [] zero h = refl
take_all [] (suc n) h = refl
take_all (x ∷ xs) zero h = absurd (omega arith)
take_all (x ∷ xs) (suc n) h = ap (λ l. x ∷ l) (take_all xs n (omega arith))

pub same_true : (n m : ℕ) → nat_eq n m ≡ true → n ≡ m
same_true n m h = grind (arith, tests)

pub no_parts : {A : Type 0} (xs : List A) → nat_eq (length xs) 0 ≡ true → xs ≡ []
no_parts [] h = refl
no_parts (x ∷ xs) h = let none_there = same_true (suc (length xs)) 0 h in absurd (omega (arith, none_there))

pub either_of : (a b : Bool) {R : Type 0} → (a || b) ≡ true → (a ≡ true → R) → (b ≡ true → R) → R
either_of true b h f g = f refl
either_of false b h f g = g h

module _ (room : ℕ) (up down : Port) (state : SplitState) (run : RunsAsSplit room up down state) (end : ℕ) (legal : AreLegalAt up end) where
  pub shown_above : (c : ℕ) → shows down.commands.signals c ≡ true → (shows up.commands.signals c ≡ true) × (opens room up down state c ≡ true)
  shown_above c shown = and_parts (shows up.commands.signals c) (opens room up down state c) (and_parts (shows up.commands.signals c && opens room up down state c) _ (sym (run.shown c) ∙ shown)).0

  pub shown_taken : (c : ℕ) → takes down c ≡ true → shows down.commands.signals c ≡ true
  shown_taken c t = accepts_shows down.commands.signals down.commands.waitrequest c t

  -- a beat that stands above is the same in the next cycle
  pub same_raw : (c : ℕ) → suc c < end → shows up.commands.signals c ≡ true → takes up c ≡ false → (raw_at up c ≡ raw_at up (suc c)) × (shows up.commands.signals (suc c) ≡ true)
  same_raw c h shown waits =
      let stands : is_held up.commands.signals (takes up) c ≡ true = ap₂ (λ s t. s && not t) shown waits in
      let levels = legal.legal.held c h stands in (
        ap₂ (λ l m. record { levels = l; more = m; tag = up.commands.tag c }) levels (legal.more c h stands)
            ∙ ap (λ t. record { levels = levels_at up.commands.signals (suc c); more = up.commands.more (suc c); tag = t }) (legal.tag c h stands),
        ap (λ (l : Levels). is_raised l.read || is_raised l.write) (sym levels) ∙ shown,
      )

  -- what has gone is as much of the parts as the register says
  abbrev pub Stands : ℕ → Type 0
  Stands c = (shows up.commands.signals c ≡ true → parts_sent up down c ≡ take (state.place c) (split_at up down c)) × (shows up.commands.signals c ≡ false → (parts_sent up down c ≡ []) × (state.place c ≡ 0))

  begins_anew : (c : ℕ) → parts_sent up down c ≡ [] → state.place c ≡ 0 → Stands c
  begins_anew c none_sent first = (λ shown. none_sent ∙ ap (λ n. take n (split_at up down c)) (sym first), λ quiet. (none_sent, first))

  pub stands : (c : ℕ) → c < end → Stands c
  stands zero h = begins_anew 0 refl run.place_begins
  stands (suc c) h = by_taken (stands c (omega arith)) (takes up c) refl (shows up.commands.signals c) refl (takes down c) refl
    where
      place_is : (t d : Bool) → takes up c ≡ t → takes down c ≡ d → state.place (suc c) ≡ (if t then 0 else if d then suc (state.place c) else state.place c)
      place_is t d e f = run.place_next c ∙ ap₂ (λ a b. if a then 0 else if b then suc (state.place c) else state.place c) e f

      sent_is : (t d : Bool) → takes up c ≡ t → takes down c ≡ d → parts_sent up down (suc c) ≡ (if t then [] else parts_sent up down c ++ only_if d (raw_at down c))
      sent_is t d e f = ap₂ (λ a b. if a then [] else parts_sent up down c ++ only_if b (raw_at down c)) e f

      by_taken : Stands c → (t : Bool) → takes up c ≡ t → (s : Bool) → shows up.commands.signals c ≡ s → (d : Bool) → takes down c ≡ d → Stands (suc c)
      by_taken so_far true t s shown d taken = begins_anew (suc c) (sent_is true d t taken) (place_is true d t taken)
      by_taken so_far false t false shown true taken = let bad = (shown_above c (shown_taken c taken)).0 in cc
      by_taken so_far false t false shown false taken =
          let there = so_far.1 shown in
          begins_anew (suc c) (sent_is false false t taken ∙ append-nil (parts_sent up down c) ∙ there.0) (place_is false false t taken ∙ there.1)
      by_taken so_far false t true shown d taken =
          let there = same_raw c h shown t in (
            λ later. sent_is false d t taken ∙ grown d taken (so_far.0 shown) ∙ ap₂ (λ n (r : Raw). take n (split_parts up.shape down.shape (record { left = 0; done = 0; first = 0 }) r)) (sym (place_is false d t taken)) there.0,
            λ quiet. (let both = there.1 in absurd (clash (shows up.commands.signals (suc c)) both quiet)),
          )
        where
          clash : (b : Bool) → b ≡ true → b ≡ false → ⊥
          clash true e f = cc
          clash false e f = cc

          grown : (d : Bool) → takes down c ≡ d → parts_sent up down c ≡ take (state.place c) (split_at up down c) →
              parts_sent up down c ++ only_if d (raw_at down c) ≡ take (if d then suc (state.place c) else state.place c) (split_at up down c)
          grown true taken e = ap (λ l. l ++ raw_at down c ∷ []) e ∙ take_next (split_at up down c) (state.place c) (raw_at down c) (run.part c (shown_taken c taken))
          grown false taken e = append-nil (parts_sent up down c) ∙ e

  pub part_there : (c : ℕ) → c < end → shows down.commands.signals c ≡ true → split_at up down c ≡ parts_sent up down c ++ raw_at down c ∷ split_rest up down state c
  part_there c h shown =
      split_there (split_at up down c) (state.place c) (raw_at down c) (run.part c shown)
      ∙ ap (λ l. l ++ raw_at down c ∷ split_rest up down state c) (sym ((stands c h).0 (shown_above c shown).0))

  pub accepted_whole : (c : ℕ) → c < end → takes up c ≡ true → parts_sent up down c ++ only_if (takes down c) (raw_at down c) ≡ split_at up down c
  accepted_whole c h t =
      let parts = and_parts (shows up.commands.signals c && opens room up down state c) _ (sym (run.accepts c) ∙ t) in
      let above = (and_parts (shows up.commands.signals c) (opens room up down state c) parts.0).0 in
      either_of (nat_eq (length (split_at up down c)) 0) (takes down c && nat_eq (suc (state.place c)) (length (split_at up down c))) parts.1
      (λ empty. without above (no_parts (split_at up down c) empty) (takes down c) refl)
      (λ last. with_last above (and_parts (takes down c) (nat_eq (suc (state.place c)) (length (split_at up down c))) last))
    where
      take_none : {A : Type 0} (n : ℕ) (xs : List A) → xs ≡ [] → take n xs ≡ []
      take_none zero xs e = refl
      take_none (suc n) xs e = ap (take (suc n)) e

      without : shows up.commands.signals c ≡ true → split_at up down c ≡ [] → (d : Bool) → takes down c ≡ d → parts_sent up down c ++ only_if d (raw_at down c) ≡ split_at up down c
      without above empty false e = append-nil (parts_sent up down c) ∙ (stands c h).0 above ∙ take_none (state.place c) (split_at up down c) empty ∙ sym empty
      without above empty true e = let got = ap (λ l. slice_get l (state.place c)) (sym empty) ∙ run.part c (shown_taken c e) in cc

      with_last : shows up.commands.signals c ≡ true → (takes down c ≡ true) × (nat_eq (suc (state.place c)) (length (split_at up down c)) ≡ true) → parts_sent up down c ++ only_if (takes down c) (raw_at down c) ≡ split_at up down c
      with_last above last =
          ap (λ d. parts_sent up down c ++ only_if d (raw_at down c)) last.0
          ∙ ap (λ l. l ++ raw_at down c ∷ []) ((stands c h).0 above)
          ∙ take_next (split_at up down c) (state.place c) (raw_at down c) (run.part c (shown_taken c last.0))
          ∙ take_all (split_at up down c) (suc (state.place c)) (same_true (suc (state.place c)) (length (split_at up down c)) last.1)

  pub waits_there : (c : ℕ) → is_held down.commands.signals (takes down) c ≡ true → takes up c ≡ false
  waits_there c held = by_taken (takes up c) refl
    where
      shown : shows down.commands.signals c ≡ true
      shown = (and_parts (shows down.commands.signals c) (not (takes down c)) held).0

      not_taken : takes down c ≡ false
      not_taken = not-true (takes down c) (and_parts (shows down.commands.signals c) (not (takes down c)) held).1

      by_taken : (t : Bool) → takes up c ≡ t → t ≡ false
      by_taken false e = refl
      by_taken true e =
          either_of (nat_eq (length (split_at up down c)) 0) (takes down c && nat_eq (suc (state.place c)) (length (split_at up down c))) (and_parts (shows up.commands.signals c && opens room up down state c) _ (sym (run.accepts c) ∙ e)).1
          (λ empty. (let got = ap (λ l. slice_get l (state.place c)) (sym (no_parts (split_at up down c) empty)) ∙ run.part c shown in cc))
          (λ last. sym (and_parts (takes down c) (nat_eq (suc (state.place c)) (length (split_at up down c))) last).0 ∙ not_taken)

  keeps_there : (c : ℕ) → suc c < end → is_held down.commands.signals (takes down) c ≡ true → shows down.commands.signals (suc c) ≡ true
  keeps_there c h held =
      let above = shown_above c shown in
      let later = same_raw c h above.0 (waits_there c held) in
      let room_left = (and_parts (shows up.commands.signals c && opens room up down state c) _ (sym (run.shown c) ∙ shown)).1 in
      run.shown (suc c)
      ∙ ap₂ (λ s n. (s && opens room up down state (suc c)) && n) later.1
      (ap₂ (λ n (r : Raw). nat_lt n (length (split_parts up.shape down.shape (record { left = 0; done = 0; first = 0 }) r))) same_place (sym later.0) ∙ room_left)
      ∙ ap (λ o. (true && o) && true) (still_open later.0 above.1)
    where
      shown : shows down.commands.signals c ≡ true
      shown = (and_parts (shows down.commands.signals c) (not (takes down c)) held).0

      not_taken : takes down c ≡ false
      not_taken = not-true (takes down c) (and_parts (shows down.commands.signals c) (not (takes down c)) held).1

      same_place : state.place (suc c) ≡ state.place c
      same_place = run.place_next c ∙ ap₂ (λ a b. if a then 0 else if b then suc (state.place c) else state.place c) (waits_there c held) not_taken

      same_set : state.set (suc c) ≡ state.set c
      same_set = run.set_next c ∙ ap (λ t. if t && not (is_raised (down.commands.write c)) then asked_at up down c else state.set c) not_taken

      fewer : state.reads (suc c) ≤ state.reads c
      fewer =
          let none_asked : one_if (takes_read up c) ≡ 0 = ap (λ t. one_if (t && not (is_raised (up.commands.write c)))) (waits_there c held) in
          let next = run.reads_next c in
          omega (arith, none_asked, next)

      by_parts : (w p l z s z' l' : Bool) → (w || (l && (p || (z || s)))) ≡ true → (l ≡ true → l' ≡ true) → (z ≡ true → z' ≡ true) → (w || (l' && (p || (z' || s)))) ≡ true
      by_parts true p l z s z' l' h f g = refl
      by_parts false true true z s z' l' h f g = rw (f refl) refl
      by_parts false true false z s z' l' h f g = cc
      by_parts false false true true s z' l' h f g = rw (f refl, g refl) refl
      by_parts false false true false true z' l' h f g = rw (f refl) (or_true z')
        where
          or_true : (b : Bool) → (b || true) ≡ true
          or_true true = refl
          or_true false = refl
      by_parts false false true false false z' l' h f g = cc
      by_parts false false false z s z' l' h f g = cc

      still_open : raw_at up c ≡ raw_at up (suc c) → opens room up down state c ≡ true → opens room up down state (suc c) ≡ true
      still_open same e =
          let levels : levels_at up.commands.signals c ≡ levels_at up.commands.signals (suc c) = ap (λ (r : Raw). r.levels) same in
          ap₂ (λ (l : Levels) n. is_raised l.write || (nat_lt (state.reads (suc c)) room && (nat_lt 0 n || (nat_eq (state.reads (suc c)) 0 || are_same (state.set (suc c)) (asked_by l))))) (sym levels) same_place
          ∙ ap (λ l. is_raised (up.commands.write c) || (nat_lt (state.reads (suc c)) room && (nat_lt 0 (state.place c) || (nat_eq (state.reads (suc c)) 0 || are_same l (asked_at up down c))))) same_set
          ∙ by_parts (is_raised (up.commands.write c)) (nat_lt 0 (state.place c)) (nat_lt (state.reads c) room) (nat_eq (state.reads c) 0) (are_same (state.set c) (asked_at up down c))
          (nat_eq (state.reads (suc c)) 0) (nat_lt (state.reads (suc c)) room) e
          (λ less. (let low = ltb-true (state.reads c) room less in lt-ltb (state.reads (suc c)) room (omega (arith, low, fewer))))
          (λ none. (let none_now = same_true (state.reads c) 0 none in zero_test (state.reads (suc c)) (omega (arith, none_now, fewer))))
        where
          asked_by : Levels → List ℕ
          asked_by l = pieces_asked up.shape down.shape (beat_of up.shape l)

          zero_test : (n : ℕ) → n ≡ 0 → nat_eq n 0 ≡ true
          zero_test n e = ap (λ k. nat_eq k 0) e

  -- what lets a read go on
  pub opened_read : (c : ℕ) → opens room up down state c ≡ true → is_raised (up.commands.write c) ≡ false →
      nat_lt (state.reads c) room && (nat_lt 0 (state.place c) || (nat_eq (state.reads c) 0 || are_same (state.set c) (asked_at up down c))) ≡ true
  opened_read c e reads =
      ap (λ w. w || (nat_lt (state.reads c) room && (nat_lt 0 (state.place c) || (nat_eq (state.reads c) 0 || are_same (state.set c) (asked_at up down c))))) (sym reads) ∙ e

  -- where a part of a read has gone there was room for it, and none was accepted since
  room_kept : (c : ℕ) → c < end → shows up.commands.signals c ≡ true → is_raised (up.commands.write c) ≡ false → 0 < state.place c → state.reads c < room
  room_kept zero h shown reads some = let first = run.place_begins in absurd (omega (arith, first, some))
  room_kept (suc c) h shown reads some = by_take (takes up c) refl (shows up.commands.signals c) refl (takes down c) refl (room_kept c (omega (arith, h)))
    where
      place_is : (t d : Bool) → takes up c ≡ t → takes down c ≡ d → state.place (suc c) ≡ (if t then 0 else if d then suc (state.place c) else state.place c)
      place_is t d e f = run.place_next c ∙ ap₂ (λ a b. if a then 0 else if b then suc (state.place c) else state.place c) e f

      by_take : (t : Bool) → takes up c ≡ t → (s : Bool) → shows up.commands.signals c ≡ s → (d : Bool) → takes down c ≡ d →
          (shows up.commands.signals c ≡ true → is_raised (up.commands.write c) ≡ false → 0 < state.place c → state.reads c < room) → state.reads (suc c) < room
      by_take true t s f d g earlier = let first = place_is true d t g in absurd (omega (arith, first, some))
      by_take false t false f true g earlier = let bad = (shown_above c (shown_taken c g)).0 in cc
      by_take false t false f false g earlier =
          let none = ((stands c (omega (arith, h))).1 f).1 in
          let same = place_is false false t g in
          absurd (omega (arith, none, same, some))
      by_take false t true f d g earlier =
          let level : is_raised (up.commands.write c) ≡ false = ap (λ (r : Raw). is_raised r.levels.write) (same_raw c h f t).0 ∙ reads in
          let low = by_below d g level in
          let none_asked : one_if (takes_read up c) ≡ 0 = ap (λ t. one_if (t && not (is_raised (up.commands.write c)))) t in
          let next = run.reads_next c in
          omega (arith, low, none_asked, next)
        where
          by_below : (d : Bool) → takes down c ≡ d → is_raised (up.commands.write c) ≡ false → state.reads c < room
          by_below true g level =
              ltb-true (state.reads c) room (and_parts (nat_lt (state.reads c) room) (nat_lt 0 (state.place c) || (nat_eq (state.reads c) 0 || are_same (state.set c) (asked_at up down c))) (opened_read c (shown_above c (shown_taken c g)).1 level)).0
          by_below false g level = let same = place_is false false t g in earlier f level (omega (arith, same, some))

  -- a beat of which a part has gone goes on
  pub goes_further : (c : ℕ) → c < end → shows up.commands.signals c ≡ true → 0 < state.place c → opens room up down state c ≡ true
  goes_further c h shown some = by_write (is_raised (up.commands.write c)) refl
    where
      by_write : (w : Bool) → is_raised (up.commands.write c) ≡ w → opens room up down state c ≡ true
      by_write true e = ap (λ w. w || (nat_lt (state.reads c) room && (nat_lt 0 (state.place c) || (nat_eq (state.reads c) 0 || are_same (state.set c) (asked_at up down c))))) e
      by_write false e =
          ap (λ w. w || (nat_lt (state.reads c) room && (nat_lt 0 (state.place c) || (nat_eq (state.reads c) 0 || are_same (state.set c) (asked_at up down c))))) e
          ∙ ap₂ (λ l p. l && (p || (nat_eq (state.reads c) 0 || are_same (state.set c) (asked_at up down c)))) (lt-ltb (state.reads c) room (room_kept c h shown e some)) (lt-ltb 0 (state.place c) some)

  pub splits : IsExpanderRun (split_parts up.shape down.shape) up down (parts_sent up down) (split_rest up down state) end
  splits = record {
    begins = refl;
    next = λ c. refl;
    stands = λ c h shown. (shown_above c shown).0;
    part = λ c h shown. part_there c h shown;
    accepts = λ c h t. accepted_whole c h t;
    waits = λ c h held. waits_there c held;
    keeps = λ c h held. keeps_there c h held;
  }
