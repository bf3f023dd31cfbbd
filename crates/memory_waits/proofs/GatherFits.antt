-- What gathers reads takes a beat on in the same cycle, or first gives out the words of the oldest read, where no more may be under way.
-- Once all words that were asked have come below, it gives one in each cycle until all are given.
use Rattle.std.proofs.Common.{◌≡◌, ℕ, zero, suc, ◌+◌, ◌-◌, ◌*◌, ◌/◌, ◌<◌, ◌≤◌, ◌⊎◌, inl, inr, min, Bool, true, false, not, ◌&&◌, ◌||◌, List, [], ◌∷◌, ◌++◌, length, drop, nat_lt, if◌then◌else◌, arith, refl, sym, ap, ap₂, ◌∙◌, subst, IsTrue, IsFalse, append-nil, append_assoc, ltb-false}
use Rattle.std.proofs.lemmas.Nat.{div-mul-add}
use Rattle.histories.specs.History.{is_raised, one_if, only_if}
use Rattle.memory_runs.specs.Views.{Shape}
use Rattle.memory_runs.specs.Operations.{pieces}
use Rattle.memory_runs.specs.Commands.{shows}
use Rattle.memory_runs.specs.Legal.{Word}
use Rattle.memory_machines.specs.Link.{Target, Port, AreLegalAt, AnswersAreOwed, takes, is_nonempty, words_at, words_owed}
use Rattle.memory_machines.specs.Lines.{KeepsRow}
use Rattle.memory_machines.specs.Machines.{ShowsFitBeats}
use Rattle.memory_machines.specs.SideLaws.{fit_when_shown}
use Rattle.memory_links.specs.Cutters.{Reach, CutterState, RunsAsCutter, IsTouchPlan, reach_words}
use Rattle.memory_links.specs.Links.{IsLink}
use Rattle.memory_links.specs.Selects.{EnablesFit, takes_read}
use Rattle.memory_links.specs.Gathers.{Entry, GatherState, IsGatherPlan, LieInWords, RunsAsGather, is_shut, gather_form, held, is_last, first_entry, entry_at}
use Rattle.memory_parts.specs.Steps.{is_gone}
use Rattle.memory_awake.specs.Rows.{CutsBursts, CutsBursts.cutter, CutsBursts.no_cutter, CutsAtWords}
use Rattle.memory_waits.specs.Watched.{stands_or_owes}
use Rattle.memory_waits.proofs.Bits.{no_both, no_true}
use Rattle.memory_waits.proofs.Cuts.{read_asks, write_asks, took_asks, still_asks}
use Rattle.memory_waits.proofs.Fitted.{Fitting}
use Rattle.memory_waits.proofs.GatherCounts.{comes_is, entries_are, held_size, last_some, rest_falls, rest_few, rest_of, rest_stays, same_takes, shown_is, shut_is, words_size}
use Rattle.memory_waits.proofs.Rows.{cut_at_words, few_words, words_by}
use Rattle.memory_waits.proofs.SelectFits.{nothing_held}
use Rattle.memory_waits.proofs.Shorter.{at_least}

-- ---- the words of reads under way

abbrev words_of : List Entry → ℕ
words_of [] = 0
words_of (e ∷ later) = e.count + words_of later

with_one : (b : Bool) (e : Entry) (es : List Entry) → words_of (es ++ only_if b e) ≡ words_of es + (if b then e.count else 0)
with_one true e [] = omega arith
with_one false e [] = omega arith
with_one b e (x ∷ es) = let more = with_one b e es in omega (arith, more)

none_of : (es : List Entry) → length es ≤ 0 → words_of es ≡ 0
none_of [] h = refl
none_of (e ∷ es) h = absurd (omega (arith, h))

drop_size : (b : Bool) (es : List Entry) → length (drop (one_if b) es) ≡ length es - one_if b
drop_size true [] = omega arith
drop_size true (e ∷ es) = let same : drop 0 es ≡ es = refl in omega arith
drop_size false es = omega arith

-- the oldest goes, of a front or from behind an empty one
drop_front : (b : Bool) (old new : List Entry) → (later : List Entry) × (drop (one_if b) (old ++ new) ≡ drop (one_if b) old ++ later)
drop_front false old new = (new, refl)
drop_front true [] new = (drop 1 new, refl)
drop_front true (e ∷ old) new = (new, refl)

-- a word that is given is one of the oldest, and with its last one the oldest goes
one_given : (n b : Bool) (old new : List Entry) (asked given next words : ℕ) → nat_lt (suc given) (first_entry (old ++ new)).count ≡ b → next ≡ (if n && not b then 0 else if n then suc given else given) →
    asked + given ≤ words + words_of old → asked + next ≤ (words + one_if n) + words_of (drop (one_if (n && not b)) old)
one_given false b old new asked given next words e is few = omega (arith, is, few)
one_given true true old new asked given next words e is few = omega (arith, is, few)
one_given true false [] new asked given next words e is few = omega (arith, is, few)
one_given true false (oldest ∷ old) new asked given next words e is few =
    let last = ltb-false (suc given) oldest.count e in
    let same : drop 0 old ≡ old = refl in
    omega (arith, is, few, last)

module _ (target : Target) (room many : ℕ) (up down : Port) (state : GatherState) (runs : RunsAsGather room up down state) (end : ℕ) (owes : AnswersAreOwed down end) where
  pub owed : (c : ℕ) → c < end → length (words_at down (suc c)) ≤ words_owed down c
  owed = few_words down end owes

  -- ---- what is asked above is given, or is of a read under way

  given_out : (c asked : ℕ) (old new : List Entry) → state.entries c ≡ old ++ new → asked + state.given c ≤ length (words_at up c) + words_of old →
      asked + state.given (suc c) ≤ length (words_at up (suc c)) + words_of (drop (one_if (is_last down state c)) old)
  given_out c asked old new are few =
      let came = words_by up c ∙ ap (λ v. length (words_at up c) + one_if v) (runs.valid c) in
      let next = one_given (is_nonempty (held down state c)) (nat_lt (suc (state.given c)) (first_entry (state.entries c)).count) old new asked (state.given c) (state.given (suc c)) (length (words_at up c))
      (ap (λ es. nat_lt (suc (state.given c)) (first_entry es).count) (sym are)) (runs.given_next c) few in
      omega (arith, came, next)

  abbrev read_words : ℕ → ℕ
  read_words c = if takes_read up c then up.commands.count c else 0

  asks_above : (c : ℕ) → words_owed up (suc c) ≡ words_owed up c + read_words c
  asks_above c = by_all (takes up c) (is_raised (up.commands.write c)) refl refl
    where
      by_all : (t w : Bool) → takes up c ≡ t → is_raised (up.commands.write c) ≡ w → words_owed up (suc c) ≡ words_owed up c + read_words c
      by_all false w et ew =
          let still = still_asks target up c et in
          let none : read_words c ≡ 0 = ap (λ t. if t && not (is_raised (up.commands.write c)) then up.commands.count c else 0) et in
          omega (arith, still, none)
      by_all true true et ew =
          let took = took_asks target up c et in
          let write = write_asks target up c ew in
          let none : read_words c ≡ 0 = ap₂ (λ t w. if t && not w then up.commands.count c else 0) et ew in
          omega (arith, took, write, none)
      by_all true false et ew =
          let took = took_asks target up c et in
          let read = read_asks target up c ew in
          let all : read_words c ≡ up.commands.count c = ap₂ (λ t w. if t && not w then up.commands.count c else 0) et ew in
          omega (arith, took, read, all)

  all_asked : (c : ℕ) → words_owed up c + state.given c ≤ length (words_at up c) + words_of (state.entries c)
  all_asked zero = let none = runs.given_begins in omega (arith, none)
  all_asked (suc c) =
      let before = given_out c (words_owed up c) (state.entries c) [] (sym (append-nil (state.entries c))) (all_asked c) in
      let asked = asks_above c in
      let next = ap words_of (runs.entries_next c) ∙ with_one (takes_read up c) (entry_at up down c) (drop (one_if (is_last down state c)) (state.entries c)) in
      omega (arith, before, asked, next)

  -- ---- from a cycle on, the reads that were under way in it

  module _ (c : ℕ) where
    record Kept (d : ℕ) : Type 0 where
      old : List Entry
      new : List Entry
      are : state.entries d ≡ old ++ new
      -- no more of them than words that came and aren't given out, or are to come
      few : length old ≤ (length (state.words d) + words_owed down c) - length (words_at down d)
      given : words_owed up c + state.given d ≤ length (words_at up d) + words_of old

    kept : (n : ℕ) → c + n ≤ end → Kept (c + n)
    kept zero fit =
        let same : c + 0 ≡ c = omega arith in
        let all = entries_are target room many up down state runs end owed c (omega (arith, fit)) in
        subst Kept (sym same) (record { old = state.entries c; new = []; are = sym (append-nil (state.entries c)); few = omega (arith, all); given = all_asked c })
    kept (suc n) fit = let same : c + suc n ≡ suc (c + n) = omega arith in subst Kept (sym same) (next (c + n) (omega (arith, fit)) (kept n (omega (arith, fit))))
      where
        next : (d : ℕ) → d < end → Kept d → Kept (suc d)
        next d fit was =
            let front = drop_front (is_last down state d) was.old was.new in
            let before = was.few in
            let size = drop_size (is_last down state d) was.old in
            let words = words_size target room many up down state runs end d in
            let all = held_size target room many up down state runs end d in
            let last = last_some target room many up down state runs end d in
            let come = comes_is target room many up down state runs end owed d fit in
            let came = words_by down d in
            record {
              old = drop (one_if (is_last down state d)) was.old;
              new = front.0 ++ only_if (takes_read up d) (entry_at up down d);
              are = runs.entries_next d ∙ ap (λ es. drop (one_if (is_last down state d)) es ++ only_if (takes_read up d) (entry_at up down d)) was.are ∙ ap (λ es. es ++ only_if (takes_read up d) (entry_at up down d)) front.1
                  ∙ append_assoc (drop (one_if (is_last down state d)) was.old) front.0 (only_if (takes_read up d) (entry_at up down d));
              few = omega (arith, before, size, words, all, last, come, came);
              given = given_out d (words_owed up c) was.old was.new was.are was.given;
            }

    -- where all words that were asked below by then have come, all above have, or one is given
    pub all_given : (d : ℕ) → c ≤ d → d ≤ end → words_owed down c ≤ length (words_at down d) → (words_owed up c ≤ length (words_at up d)) ⊎ IsTrue (is_raised (up.answers.valid d))
    all_given d near fit all = by_held (is_nonempty (held down state d)) refl
      where
        empty : (ws : List Word) → IsFalse (is_nonempty ws) → length ws ≡ 0
        empty [] h = refl
        empty (w ∷ ws) h = absurd (no_true (sym h))

        by_held : (b : Bool) → is_nonempty (held down state d) ≡ b → (words_owed up c ≤ length (words_at up d)) ⊎ IsTrue (is_raised (up.answers.valid d))
        by_held true e = inr (runs.valid d ∙ e)
        by_held false e =
            let at : c + (d - c) ≡ d = omega (arith, near) in
            let is : Kept d = subst Kept at (kept (d - c) (omega (arith, at, fit))) in
            let none = empty (held down state d) e in
            let size = held_size target room many up down state runs end d in
            let few = is.few in
            let given = is.given in
            let gone = none_of is.old (omega (arith, none, size, few, all)) in
            inl (omega (arith, given, gone))

  -- ---- a beat that stands above

  -- a step of its own, and one for each word that must be given before there is room
  abbrev pub gather_left : ℕ → ℕ
  gather_left c = suc (rest_of target room many up down state runs end owed c)

  module _ (deep : 1 < room) (some : 1 ≤ many) (short : (c : ℕ) → c < end → IsTrue (shows up.commands.signals c) → IsFalse (is_raised (up.commands.write c)) → up.commands.count c ≤ many) where
    stands_first : (s g t : Bool) → IsTrue s → IsFalse t → IsTrue ((s || g) && not t)
    stands_first true g false a b = refl
    stands_first true g true a b = absurd (no_true (sym b))
    stands_first false g t a b = absurd (no_true a)

    owes_first : (s g t : Bool) → IsTrue g → IsFalse t → IsTrue ((s || g) && not t)
    owes_first true g t a b = stands_first true g t refl b
    owes_first false true false a b = refl
    owes_first false true true a b = absurd (no_true (sym b))
    owes_first false false t a b = absurd (no_true a)

    goes : (c : ℕ) → c < end → IsFalse (takes up c) → IsTrue (shows up.commands.signals c) → IsFalse (stands_or_owes down c) → gather_left (suc c) < gather_left c
    goes c fit none shown stops = by_gone (is_gone down c) refl
      where
        still : takes down c ≡ false
        still = sym (same_takes target room many up down state runs end c) ∙ none

        by_gone : (g : Bool) → is_gone down c ≡ g → gather_left (suc c) < gather_left c
        by_gone true e = absurd (no_both (stands_or_owes down c) (owes_first (shows down.commands.signals c) (is_gone down c) (takes down c) e still) stops)
        by_gone false e = by_shut (is_shut room up state c) refl
          where
            by_shut : (b : Bool) → is_shut room up state c ≡ b → gather_left (suc c) < gather_left c
            by_shut true shut =
                let falls = rest_falls target room many up down state runs end owed deep some short c (omega (arith, fit)) still (ap not (shut_is target room many up down state runs end c shut).1) e in
                omega (arith, falls)
            by_shut false shut =
                let below = shown_is target room many up down state runs end c ∙ ap (λ b. is_raised (if b then 0 else up.commands.read c) || is_raised (up.commands.write c)) shut ∙ shown in
                absurd (no_both (stands_or_owes down c) (stands_first (shows down.commands.signals c) (is_gone down c) (takes down c) below still) stops)

    pub gather_fits : KeepsRow target 0 up down end → AreLegalAt up end → Fitting target up down (stands_or_owes down) gather_left (many + 1) end
    gather_fits row legal = record {
      some = λ c fit. omega arith;
      few = λ c fit. (let less = rest_few target room many up down state runs end owed deep some short c fit in omega (arith, less));
      stays = λ c fit none. (let less = rest_stays target room many up down state runs end owed deep some short c (sym (same_takes target room many up down state runs end c) ∙ none) in omega (arith, less));
      goes = goes;
      fewer = λ c fit none took. absurd (no_both (takes up c) (same_takes target room many up down state runs end c ∙ took) none);
      through = nothing_held target up down end row legal owes;
      come = λ c d near fit all. all_given c d near fit all;
    }

-- ---- below a cutter at the ends of wide words

abbrev pub GathersAreLinks : Type 0
GathersAreLinks =
    (target : Target) (up down : Port) (many room : ℕ) (state : GatherState) (end : ℕ) → IsGatherPlan target up.shape down.shape many → 1 < room → RunsAsGather room up down state → LieInWords up down.shape end →
    IsLink (gather_form target) up down end

abbrev pub TouchesLie : Type 0
TouchesLie =
    (many : ℕ) (up down : Port) (state : CutterState) (end : ℕ) (wide : Shape) → IsTouchPlan many up.shape down.shape → RunsAsCutter (reach_words up.shape.word_bytes many) 1 up down state →
    ShowsFitBeats up end → EnablesFit up end → wide.word_bytes ≡ many * up.shape.word_bytes → LieInWords down wide end

lie_below : TouchesLie → (many : ℕ) (top middle : Port) (end : ℕ) (wide : Shape) (cuts : CutsBursts top middle) → CutsAtWords many cuts → AreLegalAt top end → EnablesFit top end → wide.word_bytes ≡ many * middle.shape.word_bytes → LieInWords middle wide end
lie_below touches many top middle end wide (no_cutter wired) at legal fit whole = absurd at
lie_below touches many top middle end wide (cutter reach longest state plan runs) at legal fit whole =
    touches many top middle state end wide at.0
    (subst (λ n. RunsAsCutter (reach_words top.shape.word_bytes many) n top middle state) at.2 (subst (λ (r : Reach). RunsAsCutter r longest top middle state) at.1 runs))
    (λ c less shown. fit_when_shown top end c legal less shown) fit (whole ∙ ap (λ n. many * n) at.0.same)

module _ (links : GathersAreLinks) (touches : TouchesLie) (target : Target) (top middle low : Port) (many room : ℕ) (state : GatherState) (plan : IsGatherPlan target middle.shape low.shape many) (deep : 1 < room) (runs : RunsAsGather room middle low state) (end : ℕ) where
  -- what stands below a cutter that cuts reads at the ends of wide words
  pub gatherer_fits : (cuts : CutsBursts top middle) → CutsAtWords many cuts → AreLegalAt top end → EnablesFit top end → AreLegalAt middle end → AnswersAreOwed low end → (left : ℕ → ℕ) × Fitting target middle low (stands_or_owes low) left (many + 1) end
  gatherer_fits cuts at legal_top fit legal owes = (
    _,
    gather_fits target room many middle low state runs end owes deep (let more = plan.more in omega (arith, more)) (λ c less shown kind. cut_at_words many top middle cuts at c shown kind)
        (links target middle low many room state end plan deep runs (lie_below touches many top middle end low.shape cuts at legal_top fit plan.whole)).row legal,
  )

-- so many narrow words make a wide one
pub parts_of_wide : (wide narrow : Shape) (many : ℕ) → wide.word_bytes ≡ many * narrow.word_bytes → 0 < narrow.word_bytes → 1 ≤ many → many ≡ pieces wide narrow
parts_of_wide wide narrow many whole some more =
    let times = at_least narrow.word_bytes many more in
    let turned : many * narrow.word_bytes ≡ narrow.word_bytes * many = omega arith in
    let least : min wide.word_bytes narrow.word_bytes ≡ narrow.word_bytes = omega (arith, times, whole, turned) in
    let all : many * narrow.word_bytes ≡ many * narrow.word_bytes + 0 = omega arith in
    sym (ap₂ (λ (x y : ℕ). x / y) (whole ∙ all) least ∙ div-mul-add many narrow.word_bytes 0 some)

-- what fits for so many cycles does so for fewer, and by more steps
pub fits_for : {target : Target} {up down : Port} {waits : ℕ → Bool} {left : ℕ → ℕ} (many most end less : ℕ) → many ≤ most → less ≤ end → Fitting target up down waits left many end → Fitting target up down waits left most less
fits_for many most end less more h fits = record {
  some = λ c fit. fits.some c (omega (arith, fit, h));
  few = λ c fit. (let few = fits.few c (omega (arith, fit, h)) in omega (arith, few, more));
  stays = λ c fit. fits.stays c (omega (arith, fit, h));
  goes = λ c fit. fits.goes c (omega (arith, fit, h));
  fewer = λ c fit. fits.fewer c (omega (arith, fit, h));
  through = λ c fit. fits.through c (omega (arith, fit, h));
  come = λ c d near fit. fits.come c d near (omega (arith, fit, h));
}
