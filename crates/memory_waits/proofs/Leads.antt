-- Where each beat is shown before the arbiter at once, its command waits only while it stands there.
use Rattle.std.proofs.Common.{◌≡◌, ℕ, suc, zero, ◌<◌, ◌≤◌, ◌⊎◌, inl, inr, Bool, true, false, not, ◌&&◌, ◌||◌, if◌then◌else◌, length, nat_eq, nat_le, arith, refl, sym, ◌∙◌, IsTrue, IsFalse, tests}
use Rattle.std.proofs.lemmas.Bool.{and_parts, or_left, or_right}
use Rattle.histories.specs.History.{is_raised, only_if}
use Rattle.histories.specs.Laws.{prefix_flat_map, prefix_filter, prefix_length, before_prefix}
use Rattle.memory_runs.specs.Commands.{shows, is_of_reads}
use Rattle.memory_machines.specs.Link.{Target, Port, Marked, takes, taken_at, marked_at, operations_among, operations_in, words_at, words_owed}
use Rattle.histories.specs.Junction.{any_below}
use Rattle.memory_waits.specs.Waits.{LeadsDown}
use Rattle.memory_waits.specs.Watched.{LeadsBy}
use Rattle.memory_waits.proofs.Bits.{no_true, no_both, not_by, both, any_of, found_below}
use Rattle.memory_waits.proofs.Flush.{one_word, no_word}

abbrev pub stands_there : Port → ℕ → Bool
stands_there port c = shows port.commands.signals c && not (takes port c)

pub same_words : (up down : Port) (end : ℕ) → ((c : ℕ) → c < end → is_raised (up.answers.valid c) ≡ is_raised (down.answers.valid c)) → (c : ℕ) → c ≤ end → length (words_at up c) ≡ length (words_at down c)
same_words up down end same zero fit = refl
same_words up down end same (suc c) fit = by_valid (is_raised (down.answers.valid c)) refl (same c fit) (same_words up down end same c (omega (arith, fit)))
  where
    by_valid : (b : Bool) → is_raised (down.answers.valid c) ≡ b → is_raised (up.answers.valid c) ≡ is_raised (down.answers.valid c) → length (words_at up c) ≡ length (words_at down c) → length (words_at up (suc c)) ≡ length (words_at down (suc c))
    by_valid true e both more = let raised : is_raised (up.answers.valid c) ≡ true = cc in let one = one_word up c raised in let two = one_word down c e in omega (arith, one, two, more)
    by_valid false e both more = let raised : is_raised (up.answers.valid c) ≡ false = cc in let one = no_word up c raised in let two = no_word down c e in omega (arith, one, two, more)

pub none_left : (n : ℕ) → IsTrue (nat_eq n 0) → n ≡ 0
none_left n h = grind (arith, tests, h)

pub some_left : (n : ℕ) → IsFalse (nat_eq n 0) → 0 < n
some_left n h = grind (arith, tests, h)

pub shorter_lead : {target : Target} {top bottom : Port} {waits : ℕ → Bool} {left : ℕ → ℕ} {still : ℕ → ℕ → ℕ} {most : ℕ} (end less : ℕ) → less ≤ end → LeadsBy target top bottom waits left still most end → LeadsBy target top bottom waits left still most less
shorter_lead end less h leads = record {
  few = λ c fit. leads.few c (omega (arith, fit, h));
  stays = λ c fit. leads.stays c (omega (arith, fit, h));
  goes = λ c fit. leads.goes c (omega (arith, fit, h));
  few_still = λ s fit. leads.few_still s (omega (arith, fit, h));
  stays_still = λ s c near fit. leads.stays_still s c near (omega (arith, fit, h));
  goes_still = λ s c near fit. leads.goes_still s c near (omega (arith, fit, h));
  through = λ s c near fit. leads.through s c near (omega (arith, fit, h));
  come = λ s c d near later fit. leads.come s c d near later (omega (arith, fit, h));
}

-- and so it does where it waits in more cycles, and with more steps
pub waits_more : {target : Target} {top bottom : Port} {waits longer : ℕ → Bool} {left : ℕ → ℕ} {still : ℕ → ℕ → ℕ} {most more : ℕ} (end : ℕ) → ((c : ℕ) → IsFalse (longer c) → IsFalse (waits c)) → most ≤ more →
    LeadsBy target top bottom waits left still most end → LeadsBy target top bottom longer left still more end
waits_more end so h leads = record {
  few = λ c fit. (let few = leads.few c fit in omega (arith, few, h));
  stays = leads.stays;
  goes = λ c fit none shown stops. leads.goes c fit none shown (so c stops);
  few_still = λ s fit. (let few = leads.few_still s fit in omega (arith, few, h));
  stays_still = leads.stays_still;
  goes_still = λ s c near fit some stops. leads.goes_still s c near fit some (so c stops);
  through = leads.through;
  come = leads.come;
}

-- ---- what is taken grows

pub owed_grows : (port : Port) (c d : ℕ) → c ≤ d → words_owed port c ≤ words_owed port d
owed_grows port c d h = prefix_length (prefix_flat_map (λ (m : Marked). m.transfer.beats) (prefix_filter (λ (m : Marked). is_of_reads m.transfer.kind) (before_prefix (λ k. only_if (takes port k) (marked_at port k)) c d h)))

pub operations_grow : (target : Target) (port : Port) (c d : ℕ) → c ≤ d → length (operations_among target port.shape (taken_at port c)) ≤ length (operations_among target port.shape (taken_at port d))
operations_grow target port c d h = prefix_length (prefix_flat_map (λ m. operations_in target port.shape m) (before_prefix (λ k. only_if (takes port k) (marked_at port k)) c d h))

-- so what is asked earlier comes no later
pub come_before : (port : Port) (s c d : ℕ) → s ≤ c → (words_owed port c ≤ length (words_at port d)) ⊎ IsTrue (is_raised (port.answers.valid d)) → (words_owed port s ≤ length (words_at port d)) ⊎ IsTrue (is_raised (port.answers.valid d))
come_before port s c d near (inl all) = let asked = owed_grows port s c near in inl (omega (arith, asked, all))
come_before port s c d near (inr now) = inr now

-- ---- what takes no beat before all that it took is sent

-- `drained` says that all that was taken above is sent, and `left` is how many steps what stands or is held there is still to take
pub record Drains (target : Target) (top bottom : Port) (waits drained : ℕ → Bool) (left : ℕ → ℕ) (most end : ℕ) : Type 0 where
  pub few : (c : ℕ) → c ≤ end → left c ≤ most
  pub stays : (c : ℕ) → c < end → IsFalse (takes top c) → left (suc c) ≤ left c
  pub goes : (c : ℕ) → c < end → IsFalse (takes top c) → IsTrue (shows top.commands.signals c || not (drained c)) → IsFalse (waits c) → left (suc c) < left c
  pub fewer : (c : ℕ) → c < end → IsFalse (takes top c) → IsTrue (takes bottom c) → left (suc c) < left c
  pub empty : (c : ℕ) → c ≤ end → left c ≡ 0 → IsTrue (drained c)
  pub taken : (c : ℕ) → c < end → IsTrue (takes top c) → IsTrue (drained c)
  pub through : (c : ℕ) → c ≤ end → IsTrue (drained c) → length (operations_among target top.shape (taken_at top c)) ≤ length (operations_among target bottom.shape (taken_at bottom c))
  pub come : (c d : ℕ) → c ≤ d → d < end → IsTrue (drained c) → words_owed bottom c ≤ length (words_at bottom d) → (words_owed top c ≤ length (words_at top d)) ⊎ IsTrue (is_raised (top.answers.valid d))

-- a test has held in some cycle from s to c
abbrev pub since : (ℕ → Bool) → ℕ → ℕ → Bool
since test s c = any_below (λ k. nat_le s k && test k) (suc c)

pub since_now : (test : ℕ → Bool) (s c : ℕ) → s ≤ c → IsTrue (test c) → IsTrue (since test s c)
since_now test s c near now = any_of (λ k. nat_le s k && test k) (suc c) c (omega arith) (both (nat_le s c) (test c) (grind (arith, tests, near)) now)

pub since_found : (test : ℕ → Bool) (s c : ℕ) → IsTrue (since test s c) → (j : ℕ) × (s ≤ j) × (j ≤ c) × IsTrue (test j)
since_found test s c h =
    let found = found_below (λ k. nat_le s k && test k) (suc c) h in
    let two = and_parts (nat_le s found.0) (test found.0) found.2 in
    let low = two.0 in
    let less = found.1 in
    (found.0, grind (arith, tests, low), omega (arith, less), two.1)

pub not_since : (test : ℕ → Bool) (s c : ℕ) → s ≤ c → IsFalse (since test s c) → IsFalse (test c)
not_since test s c near none = by_test (test c) refl
  where
    by_test : (b : Bool) → test c ≡ b → IsFalse b
    by_test false e = refl
    by_test true e = absurd (no_both (since test s c) (since_now test s c near e) none)

module _ (target : Target) (top bottom : Port) (waits drained : ℕ → Bool) (left : ℕ → ℕ) (most end : ℕ) (drains : Drains target top bottom waits drained left most end) where
  pub waits_to_drain : (c : ℕ) → c < end → IsFalse (drained c) → IsFalse (takes top c)
  waits_to_drain c fit some = by_take (takes top c) refl
    where
      by_take : (b : Bool) → takes top c ≡ b → IsFalse b
      by_take false e = refl
      by_take true e = absurd (no_both (drained c) (drains.taken c fit e) some)

  -- what was taken before s is sent where it has been drained since
  abbrev pub still_left : ℕ → ℕ → ℕ
  still_left s c = if since drained s c then 0 else left c

  when_sent : (s c : ℕ) → since drained s c ≡ true → still_left s c ≡ 0
  when_sent s c e = rw e refl

  when_held : (s c : ℕ) → since drained s c ≡ false → still_left s c ≡ left c
  when_held s c e = rw e refl

  drained_then : (s c : ℕ) → s ≤ c → c ≤ end → still_left s c ≡ 0 → (j : ℕ) × (s ≤ j) × (j ≤ c) × IsTrue (drained j)
  drained_then s c near fit none = by_sent (since drained s c) refl
    where
      by_sent : (b : Bool) → since drained s c ≡ b → (j : ℕ) × (s ≤ j) × (j ≤ c) × IsTrue (drained j)
      by_sent true e = since_found drained s c e
      by_sent false e = absurd (no_both (drained c) (drains.empty c fit (sym (when_held s c e) ∙ none)) (not_since drained s c near e))

  pub drains_lead : LeadsBy target top bottom waits left still_left most end
  drains_lead = record {
    few = drains.few;
    stays = drains.stays;
    goes = λ c fit none shown stops. drains.goes c fit none (or_left (shows top.commands.signals c) (not (drained c)) shown) stops;
    few_still = λ s fit. few_still s fit (since drained s s) refl;
    stays_still = λ s c near fit. stays_still s c near fit (since drained s c) refl (since drained s (suc c)) refl;
    goes_still = λ s c near fit some stops. goes_still s c near fit some stops (since drained s c) refl (since drained s (suc c)) refl;
    through = λ s c near fit none. (let found = drained_then s c near fit none in
        let low = operations_grow target top s found.0 found.1 in
        let here = drains.through found.0 (let high = found.2 in omega (arith, high, fit)) found.3 in
        let high = operations_grow target bottom found.0 c found.2 in
        omega (arith, low, here, high));
    come = λ s c d near later fit none all. (let found = drained_then s c near (omega (arith, later, fit)) none in
        let high = found.2 in
        let asked = owed_grows bottom found.0 c high in
        come_before top s found.0 d found.1 (drains.come found.0 d (omega (arith, high, later)) fit found.3 (omega (arith, asked, all))));
  }
    where
      few_still : (s : ℕ) → s ≤ end → (b : Bool) → since drained s s ≡ b → still_left s s ≤ most
      few_still s fit true e = let is = when_sent s s e in omega (arith, is)
      few_still s fit false e = let is = when_held s s e in let few = drains.few s fit in omega (arith, is, few)

      held : (s c : ℕ) → s ≤ c → c < end → since drained s c ≡ false → IsFalse (takes top c)
      held s c near fit e = waits_to_drain c fit (not_since drained s c near e)

      stays_still : (s c : ℕ) → s ≤ c → c < end → (b : Bool) → since drained s c ≡ b → (n : Bool) → since drained s (suc c) ≡ n → still_left s (suc c) ≤ still_left s c
      stays_still s c near fit b e true en = let next = when_sent s (suc c) en in omega (arith, next)
      stays_still s c near fit true e false en = absurd (no_both (since drained s (suc c)) (or_right (nat_le s (suc c) && drained (suc c)) (since drained s c) e) en)
      stays_still s c near fit false e false en =
          let is = when_held s c e in
          let next = when_held s (suc c) en in
          let stays = drains.stays c fit (held s c near fit e) in
          omega (arith, is, next, stays)

      goes_still : (s c : ℕ) → s ≤ c → c < end → 0 < still_left s c → IsFalse (waits c) → (b : Bool) → since drained s c ≡ b → (n : Bool) → since drained s (suc c) ≡ n → still_left s (suc c) < still_left s c
      goes_still s c near fit some stops b e true en = let next = when_sent s (suc c) en in omega (arith, next, some)
      goes_still s c near fit some stops true e false en = let is = when_sent s c e in absurd (omega (arith, is, some))
      goes_still s c near fit some stops false e false en =
          let is = when_held s c e in
          let next = when_held s (suc c) en in
          let goes = drains.goes c fit (held s c near fit e) (or_right (shows top.commands.signals c) (not (drained c)) (not_by (drained c) (not_since drained s c near e))) stops in
          omega (arith, is, next, goes)

-- where a beat is shown or held above, it is shown below, or what waits here does so for another reason
module _ (target : Target) (top bottom : Port) (held : ℕ → ℕ) (most end : ℕ) (leads : LeadsDown target top bottom held most end) where
  abbrev drained : ℕ → Bool
  drained c = nat_eq (held c) 0

  pub shown_below : (c : ℕ) → c < end → IsTrue (shows top.commands.signals c || not (drained c)) → IsTrue (shows bottom.commands.signals c)
  shown_below c fit h = by_shown (shows top.commands.signals c) refl (drained c) refl h
    where
      by_shown : (s : Bool) → shows top.commands.signals c ≡ s → (d : Bool) → drained c ≡ d → IsTrue (s || not d) → IsTrue (shows bottom.commands.signals c)
      by_shown true e d ed h = leads.shown c fit e
      by_shown false e false ed h = leads.stands c fit (some_left (held c) ed)
      by_shown false e true ed h = absurd (no_true h)

  pub drains_at_once : Drains target top bottom (stands_there bottom) drained held most end
  drains_at_once = record {
    few = leads.few;
    stays = λ c fit none. stays c fit none (takes bottom c) refl;
    goes = λ c fit none some stops. leads.fewer c fit none (is_taken c (shown_below c fit some) stops);
    fewer = leads.fewer;
    empty = λ c fit none. (grind (arith, tests, none));
    taken = λ c fit took. (let none = (leads.taken c fit took).0 in grind (arith, tests, none));
    through = λ c fit none. leads.through c fit (none_left (held c) none);
    come = λ c d near fit none all. (let asked = leads.asked c (omega (arith, near, fit)) (none_left (held c) none) in let same = same_words top bottom end leads.words d (omega (arith, fit)) in inl (omega (arith, asked, same, all)));
  }
    where
      stays : (c : ℕ) → c < end → IsFalse (takes top c) → (b : Bool) → takes bottom c ≡ b → held (suc c) ≤ held c
      stays c fit none true e = let less = leads.fewer c fit none e in omega (arith, less)
      stays c fit none false e = leads.stays c fit none e

      is_taken : (c : ℕ) → IsTrue (shows bottom.commands.signals c) → IsFalse (stands_there bottom c) → IsTrue (takes bottom c)
      is_taken c shown stops = by_take (shows bottom.commands.signals c) (takes bottom c) shown stops
        where
          by_take : (s t : Bool) → IsTrue s → IsFalse (s && not t) → IsTrue t
          by_take true true a b = refl
          by_take true false a b = absurd (no_true (cc))
          by_take false t a b = absurd (no_true a)

  abbrev pub held_still : ℕ → ℕ → ℕ
  held_still = still_left target top bottom (stands_there bottom) drained held most end drains_at_once

  pub leads_at_once : LeadsBy target top bottom (stands_there bottom) held held_still most end
  leads_at_once = drains_lead target top bottom (stands_there bottom) drained held most end drains_at_once
