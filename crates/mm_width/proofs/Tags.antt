-- Where all commands above bear one tag, the tag above can stand for that of the commands below each link.
use Rattle.std.proofs.Common.{◌≡◌, ℕ, zero, suc, ◌<◌, ◌&&◌, ◌||◌, Bool, true, false, if◌then◌else◌, List, [], ◌∷◌, length, Some, slice_get, nat_eq, nat_lt, refl, sym, subst, ap, ◌∙◌, arith}
use Rattle.std.proofs.lemmas.Bool.{ltb-true}
use Rattle.histories.specs.History.{is_raised}
use Rattle.memory_runs.specs.Operations.{Beat}
use Rattle.memory_runs.specs.Views.{Levels}
use Rattle.memory_runs.specs.Commands.{shows}
use Rattle.memory_machines.specs.Link.{Port, takes}
use Rattle.memory_machines.specs.Machines.{Raw, raw_at, joined}
use Rattle.memory_links.specs.Cutters.{Reach, Rest, CutterState, RunsAsCutter, is_sending, read_burst_of, write_of_burst, first_burst, whole_read, behind_burst}
use Rattle.memory_links.specs.Drops.{DropState, RunsAsDrop, keeps, sent_beat, standing_at}
use Rattle.memory_links.specs.Gathers.{GatherState, RunsAsGather}
use Rattle.memory_links.specs.Gathers as gathers
use Rattle.memory_links.specs.Selects.{RunsAsSelect, is_shut, takes_read}
use Rattle.memory_links.specs.Splits.{SplitState, RunsAsSplit, split_at, opens}
use Rattle.link_core.specs.Lines.{with_tag}

-- what is shown bears the tag that is above in that cycle
abbrev pub ShowsTags : (ℕ → ℕ) → Port → Type 0
ShowsTags tags port = (c : ℕ) → shows port.commands.signals c ≡ true → port.commands.tag c ≡ tags c

left_of : (a b : Bool) → (a && b) ≡ true → a ≡ true
left_of true b e = refl
left_of false b e = e

-- ---- a cutter

module _ (tag : ℕ) (up down : Port) (is : (c : ℕ) → up.commands.tag c ≡ tag) (reach : Reach) (longest : ℕ) (state : CutterState) (run : RunsAsCutter reach longest up down state) where
  -- the read that it sends by itself bears the tag
  abbrev Bears : Rest → Type 0
  Bears rest = 0 < rest.left → rest.command.tag ≡ tag

  bears_next : (c : ℕ) (sends taken reads : Bool) → Bears (state.rest c) →
      Bears (if sends then (if taken then behind_burst reach up.shape.word_bytes (state.rest c) else state.rest c) else if reads then behind_burst reach up.shape.word_bytes (whole_read up.shape (raw_at up c)) else state.rest c)
  bears_next c true true reads h = λ some. h (omega (arith, some))
  bears_next c true false reads h = h
  bears_next c false taken true h = λ some. is c
  bears_next c false taken false h = h

  rest_bears : (c : ℕ) → Bears (state.rest c)
  rest_bears zero = λ some. (let none = run.rest_begins in absurd (omega (arith, some, none)))
  rest_bears (suc c) = subst Bears (sym (run.rest_next c)) (bears_next c (is_sending state c) (takes down c) (takes_read up c) (rest_bears c))

  first_tag : (c : ℕ) (writes : Bool) → (if writes then write_of_burst longest up.shape (state.place c) (raw_at up c) else read_burst_of reach (whole_read up.shape (raw_at up c))).tag ≡ up.commands.tag c
  first_tag c true = refl
  first_tag c false = refl

  sent_tag : (c : ℕ) (sends : Bool) → (sends ≡ true → (state.rest c).command.tag ≡ tag) → (if sends then read_burst_of reach (state.rest c) else first_burst reach longest up.shape (state.place c) (raw_at up c)).tag ≡ up.commands.tag c
  sent_tag c true h = h refl ∙ sym (is c)
  sent_tag c false h = first_tag c (is_raised (up.commands.write c))

  abbrev sent : ℕ → Raw
  sent c = if is_sending state c then read_burst_of reach (state.rest c) else first_burst reach longest up.shape (state.place c) (raw_at up c)

  sent_bears : (c : ℕ) → (sent c).tag ≡ up.commands.tag c
  sent_bears c = sent_tag c (is_sending state c) (λ sends. rest_bears c (ltb-true 0 (state.rest c).left sends))

  pub cutter_shows_tags : ShowsTags up.commands.tag down
  cutter_shows_tags c shown = ap (λ (r : Raw). r.tag) (run.beat c shown) ∙ sent_bears c

  pub retagged_cutter : RunsAsCutter reach longest up (with_tag up.commands.tag down) state
  retagged_cutter = record {
    shown = run.shown;
    beat = λ c shown. ap (λ (r : Raw). record r { tag = up.commands.tag c }) (run.beat c shown) ∙ ap (λ t. record (sent c) { tag = t }) (sym (sent_bears c));
    accepts = run.accepts;
    place = run.place;
    rest_begins = run.rest_begins;
    rest_next = run.rest_next;
    valid = run.valid;
    word = run.word;
    code = run.code;
  }

-- ---- a selector

right_of : (a b : Bool) → b ≡ true → (a || b) ≡ true
right_of true b e = refl
right_of false b e = e

-- what is shown below is shown above
shown_above : (shut : Bool) (read write : ℕ) → (is_raised (if shut then 0 else read) || is_raised write) ≡ true → (is_raised read || is_raised write) ≡ true
shown_above true read write e = right_of (is_raised read) (is_raised write) e
shown_above false read write e = e

module _ (tags : ℕ → ℕ) (room : ℕ) (up down : Port) (offsets : ℕ → List ℕ) (run : RunsAsSelect room up down offsets) where
  pub retagged_select : RunsAsSelect room (with_tag tags up) (with_tag tags down) offsets
  retagged_select = record {
    levels = run.levels;
    more = run.more;
    tag = λ c. refl;
    waitrequest = run.waitrequest;
    begins = run.begins;
    next = run.next;
    valid = run.valid;
    word = run.word;
    code = run.code;
  }

  pub select_shows_tags : ShowsTags tags up → ShowsTags tags down
  select_shows_tags bears c shown =
      run.tag c ∙ bears c (shown_above (is_shut room up offsets c) (up.commands.read c) (up.commands.write c) (ap (λ (l : Levels). is_raised l.read || is_raised l.write) (sym (run.levels c)) ∙ shown))

-- ---- a gatherer

module _ (tags : ℕ → ℕ) (room : ℕ) (up down : Port) (state : GatherState) (run : RunsAsGather room up down state) where
  pub retagged_gather : RunsAsGather room (with_tag tags up) (with_tag tags down) state
  retagged_gather = record {
    levels = run.levels;
    more = run.more;
    tag = λ c. refl;
    waitrequest = run.waitrequest;
    entries_begin = run.entries_begin;
    entries_next = run.entries_next;
    words_begin = run.words_begin;
    words_next = run.words_next;
    given_begins = run.given_begins;
    given_next = run.given_next;
    valid = run.valid;
    word = run.word;
    code = run.code;
  }

  pub gather_shows_tags : ShowsTags tags up → ShowsTags tags down
  gather_shows_tags bears c shown =
      run.tag c ∙ bears c (shown_above (gathers.is_shut room up state c) (up.commands.read c) (up.commands.write c) (ap (λ (l : Levels). is_raised l.read || is_raised l.write) (sym (run.levels c)) ∙ shown))

-- ---- a splitter

abbrev AllBear : ℕ → List Raw → Type 0
AllBear tag [] = Unit {0}
AllBear tag (raw ∷ later) = (raw.tag ≡ tag) × AllBear tag later

joined_bear : (tag last : ℕ) (beats : List Beat) → AllBear tag (joined tag last beats)
joined_bear tag last [] = tt
joined_bear tag last (beat ∷ []) = (refl, tt)
joined_bear tag last (beat ∷ next ∷ later) = (refl, joined_bear tag last (next ∷ later))

-- as many, whatever their tag is
joined_many : (tag other last : ℕ) (beats : List Beat) → length (joined tag last beats) ≡ length (joined other last beats)
joined_many tag other last [] = refl
joined_many tag other last (beat ∷ []) = refl
joined_many tag other last (beat ∷ next ∷ later) = ap suc (joined_many tag other last (next ∷ later))

bears_at : (tag : ℕ) (raws : List Raw) (i : ℕ) (raw : Raw) → AllBear tag raws → slice_get raws i ≡ Some raw → raw.tag ≡ tag
bears_at tag [] i raw h e = absurd (cc)
bears_at tag (first ∷ later) zero raw h e = let same : first ≡ raw = cc in sym (ap (λ (r : Raw). r.tag) same) ∙ h.0
bears_at tag (first ∷ later) (suc i) raw h e = bears_at tag later i raw h.1 e

module _ (tags : ℕ → ℕ) (room : ℕ) (up down : Port) (state : SplitState) (run : RunsAsSplit room up down state) (bears : ShowsTags tags up) where
  many : (c : ℕ) → length (split_at up down c) ≡ length (split_at (with_tag tags up) down c)
  many c = joined_many (up.commands.tag c) (tags c) (up.commands.more c) _

  above : (c : ℕ) → shows down.commands.signals c ≡ true → up.commands.tag c ≡ tags c
  above c shown = bears c (left_of _ _ (left_of _ _ (sym (run.shown c) ∙ shown)))

  pub split_shows_tags : ShowsTags tags down
  split_shows_tags c shown = bears_at (up.commands.tag c) (split_at up down c) (state.place c) (raw_at down c) (joined_bear (up.commands.tag c) _ _) (run.part c shown) ∙ above c shown

  pub retagged_split : RunsAsSplit room (with_tag tags up) (with_tag tags down) state
  retagged_split = record {
    shown = λ c. run.shown c ∙ ap (λ many. (shows up.commands.signals c && opens room up down state c) && nat_lt (state.place c) many) (many c);
    part = λ c shown. ap (λ t. slice_get (split_at (with_tag (λ c. t) up) down c) (state.place c)) (sym (above c shown)) ∙ run.part c shown ∙ ap (λ t. Some (record (raw_at down c) { tag = t })) (split_shows_tags c shown);
    accepts = λ c. run.accepts c ∙ ap (λ many. (shows up.commands.signals c && opens room up down state c) && (nat_eq many 0 || (takes down c && nat_eq (suc (state.place c)) many))) (many c);
    place_begins = run.place_begins;
    place_next = run.place_next;
    set_next = run.set_next;
    reads_begin = run.reads_begin;
    reads_next = run.reads_next;
    come_begins = run.come_begins;
    come_next = run.come_next;
    gathered_begins = run.gathered_begins;
    gathered_stays = run.gathered_stays;
    gathered_more = run.gathered_more;
    gathered_anew = run.gathered_anew;
    valid = run.valid;
    given = run.given;
  }

-- ---- what drops beats

module _ (tag : ℕ) (tags : ℕ → ℕ) (is : (c : ℕ) → tags c ≡ tag) (room : ℕ) (up down : Port) (state : DropState) (run : RunsAsDrop room up down state) (bears : ShowsTags tags up) where
  -- a beat that is kept was shown above
  same_raw : (c : ℕ) → shows up.commands.signals c ≡ true → raw_at up c ≡ raw_at (with_tag tags up) c
  same_raw c shown = ap (λ t. record (raw_at up c) { tag = t }) (bears c shown)

  kept_step : (c : ℕ) (keep take : Bool) → keep ≡ keeps (standing_at up state c) (takes down c) → AllBear tag (state.kept c) → AllBear tag (if keep then raw_at up c ∷ [] else if take then [] else state.kept c)
  kept_step c true take e h = (bears c (left_of _ _ (left_of _ _ (sym e))) ∙ is c, tt)
  kept_step c false true e h = tt
  kept_step c false false e h = h

  kept_bears : (c : ℕ) → AllBear tag (state.kept c)
  kept_bears zero = subst (AllBear tag) (sym run.kept_begins) tt
  kept_bears (suc c) = subst (AllBear tag) (sym (run.kept_next c)) (kept_step c (keeps (standing_at up state c) (takes down c)) (takes down c) refl (kept_bears c))

  sent_same : (c : ℕ) (kept : List Raw) (follows : Bool) → AllBear tag kept → raw_at down c ≡ sent_beat kept (raw_at up c) follows → raw_at (with_tag tags down) c ≡ sent_beat kept (raw_at (with_tag tags up) c) follows
  sent_same c [] follows h e = ap (λ (r : Raw). record r { tag = tags c }) e
  sent_same c (kept ∷ later) follows h e = ap (λ (r : Raw). record r { tag = tags c }) e ∙ ap (λ t. record (sent_beat (kept ∷ later) (raw_at up c) follows) { tag = t }) (is c ∙ sym h.0)

  next_same : (c : ℕ) (keep take : Bool) → keep ≡ keeps (standing_at up state c) (takes down c) → (if keep then raw_at up c ∷ [] else if take then [] else state.kept c) ≡ (if keep then raw_at (with_tag tags up) c ∷ [] else if take then [] else state.kept c)
  next_same c true take e = ap (λ (r : Raw). r ∷ []) (same_raw c (left_of _ _ (left_of _ _ (sym e))))
  next_same c false take e = refl

  pub retagged_drop : RunsAsDrop room (with_tag tags up) (with_tag tags down) state
  retagged_drop = record {
    shown = run.shown;
    beat = λ c shown. sent_same c (state.kept c) (standing_at up state c).acts (kept_bears c) (run.beat c shown);
    accepts = run.accepts;
    kept_begins = run.kept_begins;
    kept_next = λ c. run.kept_next c ∙ next_same c (keeps (standing_at up state c) (takes down c)) (takes down c) refl;
    reads_begin = run.reads_begin;
    reads_next = run.reads_next;
    own_begins = run.own_begins;
    own_next = run.own_next;
    valid = run.valid;
    word = run.word;
    code = run.code;
  }
