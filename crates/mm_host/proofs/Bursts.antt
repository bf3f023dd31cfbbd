-- The counts of unanswered reads, and the words that the oldest has got, as a queue of reads.
use Rattle.std.proofs.Common.{◌≡◌, ℕ, zero, suc, ◌+◌, ◌-◌, Bool, true, false, not, ◌&&◌, nat_eq, if◌then◌else◌, List, [], ◌∷◌, ◌++◌, length, map, drop, refl, sym, subst, ap, ◌∙◌, arith}
use Rattle.std.specs.Prelude.{◌≤◌, ◌<◌}
use Rattle.std.proofs.lemmas.List.{map-append}
use Rattle.std.proofs.lemmas.Bool.{eqb-true}
use Rattle.histories.specs.History.{one_if, only_if}
use Rattle.memory_parts.specs.Queue.{Entry, answered}
use Rattle.mm_host.specs.Queued.{IsOldestAnswered}
use Rattle.mm_host.proofs.Levels.{and_false}

abbrev pub entry : ℕ → Entry
entry count = record { tag = 0; left = count }

-- the reads with these counts, the oldest of which has got so many words
abbrev pub entries_of : ℕ → List ℕ → List Entry
entries_of got [] = []
entries_of got (count ∷ later) = entry (count - got) ∷ map entry later

-- the oldest hasn't got more words than it has
abbrev pub GotFits : ℕ → List ℕ → Type 0
GotFits got [] = got ≡ 0
GotFits got (count ∷ later) = got ≤ count

pub entries_count : (got : ℕ) (counts : List ℕ) → length (entries_of got counts) ≡ length counts
entries_count got [] = refl
entries_count got (count ∷ later) = ap suc (each later)
  where
    each : (xs : List ℕ) → length (map entry xs) ≡ length xs
    each [] = refl
    each (x ∷ xs) = ap suc (each xs)

with_coming : (taken : Bool) (count : ℕ) (later : List ℕ) → map entry (later ++ only_if taken count) ≡ map entry later ++ only_if taken (entry count)
with_coming true count later = map-append entry later (count ∷ [])
with_coming false count later = map-append entry later []

whole_entry : (count : ℕ) → entry (count - 0) ≡ entry count
whole_entry count = ap entry (let same : count - 0 ≡ count = omega arith in same)

from_start : (counts : List ℕ) → entries_of 0 counts ≡ map entry counts
from_start [] = refl
from_start (count ∷ later) = ap (λ (e : Entry). e ∷ map entry later) (whole_entry count)

fits_start : (counts : List ℕ) → GotFits 0 counts
fits_start [] = refl
fits_start (count ∷ later) = omega arith

one_fewer : (lacks : ℕ) → one_if (not (nat_eq lacks 0)) ≤ lacks
one_fewer zero = omega arith
one_fewer (suc lacks) = (let few = few_of (not (nat_eq (suc lacks) 0)) in omega (arith, few))
  where
    few_of : (t : Bool) → one_if t ≤ 1
    few_of true = omega arith
    few_of false = omega arith

less_by_one : (lacks : ℕ) → lacks - one_if (not (nat_eq lacks 0)) ≡ lacks - 1
less_by_one lacks = by_case (nat_eq lacks 0) refl
  where
    by_case : (t : Bool) → nat_eq lacks 0 ≡ t → lacks - one_if (not t) ≡ lacks - 1
    by_case true e = (let none = eqb-true lacks 0 e in omega (arith, none))
    by_case false e = refl

-- the counts after a cycle: that of a read that is taken comes, and the oldest one goes with its last word
abbrev pub IsNext : Bool → Bool → ℕ → List ℕ → List ℕ → Type 0
IsNext last taken count held after = after ≡ drop (one_if last) (held ++ only_if taken count)

pub record Step (came taken : Bool) (count got next : ℕ) (held after : List ℕ) : Type 0 where
  pub queue : entries_of next after ≡ answered came (entries_of got held) ++ only_if taken (entry count)
  pub fits : GotFits next after

-- no read is unanswered
from_empty : (came taken last : Bool) (count got next lacks : ℕ) (after : List ℕ) → got ≡ 0 → IsOldestAnswered came false lacks got last next → IsNext last taken count [] after → Step came taken count got next [] after
from_empty came taken last count got next lacks after none o e = record {
  queue = ap (λ n. entries_of n after) next_is ∙ ap (entries_of 0) after_is ∙ by_taken taken;
  fits = subst (λ n. GotFits n after) (sym next_is) (fits_start after);
} where
  stays : (came && false) ≡ false
  stays = and_false came

  no_last : last ≡ false
  no_last = o.ends ∙ ap (λ t. t && nat_eq lacks 1) stays

  next_is : next ≡ 0
  next_is = o.goes ∙ ap (λ t. if t then 0 else got + one_if ((came && false) && not (nat_eq lacks 0))) no_last ∙ ap (λ t. got + one_if (t && not (nat_eq lacks 0))) stays ∙ (let zero_more : got + 0 ≡ 0 = omega (arith, none) in zero_more)

  after_is : after ≡ only_if taken count
  after_is = e ∙ ap (λ t. drop (one_if t) (only_if taken count)) no_last

  by_taken : (t : Bool) → entries_of 0 (only_if t count) ≡ only_if t (entry count)
  by_taken true = ap (λ (x : Entry). x ∷ []) (whole_entry count)
  by_taken false = refl

-- some read is, and no word comes
none_comes : (taken last : Bool) (oldest count got next : ℕ) (later after : List ℕ) → got ≤ oldest → IsOldestAnswered false true (oldest - got) got last next → IsNext last taken count (oldest ∷ later) after → Step false taken count got next (oldest ∷ later) after
none_comes taken last oldest count got next later after few o e = record {
  queue = ap (λ n. entries_of n after) next_is ∙ ap (entries_of got) after_is ∙ ap (λ (es : List Entry). entry (oldest - got) ∷ es) (with_coming taken count later);
  fits = subst (λ n. GotFits n after) (sym next_is) (subst (GotFits got) (sym after_is) few);
} where
  next_is : next ≡ got
  next_is = o.goes ∙ ap (λ t. if t then 0 else got + 0) o.ends ∙ (let same : got + 0 ≡ got = omega arith in same)

  after_is : after ≡ oldest ∷ (later ++ only_if taken count)
  after_is = e ∙ ap (λ t. drop (one_if t) (oldest ∷ (later ++ only_if taken count))) o.ends

-- the last word of the oldest comes
last_comes : (taken last : Bool) (oldest count got next : ℕ) (later after : List ℕ) → nat_eq (oldest - got) 1 ≡ true → IsOldestAnswered true true (oldest - got) got last next → IsNext last taken count (oldest ∷ later) after → Step true taken count got next (oldest ∷ later) after
last_comes taken last oldest count got next later after one o e = record {
  queue = ap (λ n. entries_of n after) next_is ∙ ap (entries_of 0) after_is ∙ from_start (later ++ only_if taken count) ∙ with_coming taken count later
      ∙ sym (ap (λ t. (if t then map entry later else entry (oldest - got - 1) ∷ map entry later) ++ only_if taken (entry count)) one);
  fits = subst (λ n. GotFits n after) (sym next_is) (fits_start after);
} where
  is_last : last ≡ true
  is_last = o.ends ∙ one

  next_is : next ≡ 0
  next_is = o.goes ∙ ap (λ t. if t then 0 else got + one_if (not (nat_eq (oldest - got) 0))) is_last

  after_is : after ≡ later ++ only_if taken count
  after_is = e ∙ ap (λ t. drop (one_if t) (oldest ∷ (later ++ only_if taken count))) is_last

-- another word of the oldest comes
word_comes : (taken last : Bool) (oldest count got next : ℕ) (later after : List ℕ) → got ≤ oldest → nat_eq (oldest - got) 1 ≡ false → IsOldestAnswered true true (oldest - got) got last next → IsNext last taken count (oldest ∷ later) after → Step true taken count got next (oldest ∷ later) after
word_comes taken last oldest count got next later after few other o e = record {
  queue = ap (λ n. entries_of n after) next_is ∙ ap (entries_of (got + one_if (not (nat_eq (oldest - got) 0)))) after_is
      ∙ ap (λ (es : List Entry). entry (oldest - (got + one_if (not (nat_eq (oldest - got) 0)))) ∷ es) (with_coming taken count later)
      ∙ ap (λ n. entry n ∷ (map entry later ++ only_if taken (entry count))) lowered
      ∙ sym (ap (λ t. (if t then map entry later else entry (oldest - got - 1) ∷ map entry later) ++ only_if taken (entry count)) other);
  fits = subst (λ n. GotFits n after) (sym next_is) (subst (GotFits (got + one_if (not (nat_eq (oldest - got) 0)))) (sym after_is) (let less = one_fewer (oldest - got) in omega (arith, less, few)));
} where
  not_last : last ≡ false
  not_last = o.ends ∙ other

  next_is : next ≡ got + one_if (not (nat_eq (oldest - got) 0))
  next_is = o.goes ∙ ap (λ t. if t then 0 else got + one_if (not (nat_eq (oldest - got) 0))) not_last

  after_is : after ≡ oldest ∷ (later ++ only_if taken count)
  after_is = e ∙ ap (λ t. drop (one_if t) (oldest ∷ (later ++ only_if taken count))) not_last

  lowered : oldest - (got + one_if (not (nat_eq (oldest - got) 0))) ≡ oldest - got - 1
  lowered = (let parts = less_by_one (oldest - got) in omega (arith, parts))

-- the oldest read, where some is unanswered, and what a word does to it
pub record IsOldest (came some last : Bool) (oldest got next : ℕ) (later held : List ℕ) : Type 0 where
  pub held_is : held ≡ (if some then oldest ∷ later else [])
  pub fits : GotFits got held
  pub answered : got ≤ oldest → IsOldestAnswered came some (oldest - got) got last next

-- one goes only where one is held
pub some_held : (came some last : Bool) (oldest got next : ℕ) (later held : List ℕ) → IsOldest came some last oldest got next later held → last ≡ true → 0 < length held
some_held came true last oldest got next later held h e = subst (λ (xs : List ℕ). 0 < length xs) (sym h.held_is) (omega arith)
some_held came false last oldest got next later held h e =
    let none = subst (GotFits got) h.held_is h.fits in
    let ends = (h.answered (omega (arith, none))).ends in
    let no_last : last ≡ false = ends ∙ ap (λ t. t && nat_eq (oldest - got) 1) (and_false came) in
    absurd (cc)

-- one cycle of the queue
pub stepped : (came some taken last : Bool) (oldest count got next : ℕ) (later held after : List ℕ) → IsOldest came some last oldest got next later held → IsNext last taken count held after → Step came taken count got next held after
stepped came false taken last oldest count got next later held after h is =
    subst (λ (xs : List ℕ). Step came taken count got next xs after) (sym h.held_is)
    (let none = subst (GotFits got) h.held_is h.fits in
    from_empty came taken last count got next (oldest - got) after none (h.answered (omega (arith, none))) (subst (λ (xs : List ℕ). IsNext last taken count xs after) h.held_is is))
stepped false true taken last oldest count got next later held after h is =
    subst (λ (xs : List ℕ). Step false taken count got next xs after) (sym h.held_is)
    (let few = subst (GotFits got) h.held_is h.fits in none_comes taken last oldest count got next later after few (h.answered few) (subst (λ (xs : List ℕ). IsNext last taken count xs after) h.held_is is))
stepped true true taken last oldest count got next later held after h is = by_case (nat_eq (oldest - got) 1) refl
  where
    few : got ≤ oldest
    few = subst (GotFits got) h.held_is h.fits

    here : IsNext last taken count (oldest ∷ later) after
    here = subst (λ (xs : List ℕ). IsNext last taken count xs after) h.held_is is

    by_case : (t : Bool) → nat_eq (oldest - got) 1 ≡ t → Step true taken count got next held after
    by_case true one = subst (λ (xs : List ℕ). Step true taken count got next xs after) (sym h.held_is) (last_comes taken last oldest count got next later after one (h.answered few) here)
    by_case false other = subst (λ (xs : List ℕ). Step true taken count got next xs after) (sym h.held_is) (word_comes taken last oldest count got next later after few other (h.answered few) here)
