-- A cutter, and what fits words below it: what is left of a beat is counted in the steps that it takes below.
use Rattle.std.proofs.Common.{◌≡◌, ℕ, suc, ◌+◌, ◌*◌, ◌<◌, ◌≤◌, ◌⊎◌, inl, inr, Bool, true, false, not, ◌&&◌, ◌||◌, length, nat_eq, nat_lt, arith, refl, sym, ap₂, ◌∙◌, IsTrue, IsFalse, tests}
use Rattle.histories.specs.History.{is_raised}
use Rattle.memory_runs.specs.Commands.{shows}
use Rattle.memory_machines.specs.Link.{Target, Port, takes, taken_at, operations_among, words_at, words_owed}
use Rattle.memory_awake.specs.Wires.{IsWire}
use Rattle.memory_waits.specs.Waits.{LeadsDown}
use Rattle.memory_waits.specs.Watched.{stands_or_owes}
use Rattle.memory_waits.proofs.Bits.{no_true, no_both}
use Rattle.memory_waits.proofs.Cuts.{times_more}
use Rattle.memory_waits.proofs.Leads.{Drains, none_left, same_words, shown_below}
use Rattle.memory_waits.proofs.Wire.{wire_asked, wire_operations, wire_shows, wire_stays, wire_takes}

-- a beat that stands above takes at most so many steps below: one in each cycle that doesn't wait
pub record Fitting (target : Target) (up down : Port) (waits : ℕ → Bool) (left : ℕ → ℕ) (many end : ℕ) : Type 0 where
  pub some : (c : ℕ) → c ≤ end → 1 ≤ left c
  pub few : (c : ℕ) → c ≤ end → left c ≤ many
  pub stays : (c : ℕ) → c < end → IsFalse (takes up c) → left (suc c) ≤ left c
  pub goes : (c : ℕ) → c < end → IsFalse (takes up c) → IsTrue (shows up.commands.signals c) → IsFalse (waits c) → left (suc c) < left c
  pub fewer : (c : ℕ) → c < end → IsFalse (takes up c) → IsTrue (takes down c) → left (suc c) < left c
  pub through : (c : ℕ) → c ≤ end → length (operations_among target up.shape (taken_at up c)) ≤ length (operations_among target down.shape (taken_at down c))
  -- once all words that are asked below have come, so have those above, or one comes now
  pub come : (c d : ℕ) → c ≤ d → d ≤ end → words_owed down c ≤ length (words_at down d) → (words_owed up c ≤ length (words_at up d)) ⊎ IsTrue (is_raised (up.answers.valid d))

module _ (target : Target) (top middle low : Port) (held : ℕ → ℕ) (most : ℕ) (waits : ℕ → Bool) (left : ℕ → ℕ) (many end : ℕ) (leads : LeadsDown target top middle held most end) (fits : Fitting target middle low waits left many end) where
  abbrev both_left : ℕ → ℕ
  both_left c = held c * many + left c

  fewer_held : (c : ℕ) → c < end → IsFalse (takes top c) → IsTrue (takes middle c) → both_left (suc c) < both_left c
  fewer_held c fit none took =
      let fewer = leads.fewer c fit none took in
      let product = times_more (held (suc c) + 1) (held c) many (omega (arith, fewer)) in
      let one : (held (suc c) + 1) * many ≡ held (suc c) * many + many = omega arith in
      let small = fits.few (suc c) (omega (arith, fit)) in
      let some = fits.some c (omega (arith, fit)) in
      omega (arith, product, one, small, some)

  no_more_held : (c : ℕ) → c < end → IsFalse (takes top c) → IsFalse (takes middle c) → held (suc c) * many ≤ held c * many
  no_more_held c fit none still = times_more (held (suc c)) (held c) many (leads.stays c fit none still)

  pub fitted_drains : Drains target top low waits (λ c. nat_eq (held c) 0) both_left (most * many + many) end
  fitted_drains = record {
    few = λ c fit. (let product = times_more (held c) most many (leads.few c fit) in let small = fits.few c fit in omega (arith, product, small));
    stays = λ c fit none. by_take c fit none (takes middle c) refl;
    goes = λ c fit none some stops. goes c fit none some stops (takes middle c) refl;
    fewer = λ c fit none took. fewer c fit none took (takes middle c) refl;
    empty = λ c fit none. (let some = fits.some c fit in absurd (omega (arith, none, some)));
    taken = λ c fit took. (let none = (leads.taken c fit took).0 in grind (arith, tests, none));
    through = λ c fit none. (let high = leads.through c fit (none_left (held c) none) in let down = fits.through c fit in omega (arith, high, down));
    come = λ c d near fit none all. come c d near fit none (fits.come c d near (omega (arith, fit)) all);
  }
    where
      by_take : (c : ℕ) → c < end → IsFalse (takes top c) → (b : Bool) → takes middle c ≡ b → both_left (suc c) ≤ both_left c
      by_take c fit none true e = let less = fewer_held c fit none e in omega (arith, less)
      by_take c fit none false e = let high = no_more_held c fit none e in let down = fits.stays c fit e in omega (arith, high, down)

      goes : (c : ℕ) → c < end → IsFalse (takes top c) → IsTrue (shows top.commands.signals c || not (nat_eq (held c) 0)) → IsFalse (waits c) → (b : Bool) → takes middle c ≡ b → both_left (suc c) < both_left c
      goes c fit none some stops true e = fewer_held c fit none e
      goes c fit none some stops false e =
          let high = no_more_held c fit none e in
          let down = fits.goes c fit e (shown_below target top middle held most end leads c fit some) stops in
          omega (arith, high, down)

      fewer : (c : ℕ) → c < end → IsFalse (takes top c) → IsTrue (takes low c) → (b : Bool) → takes middle c ≡ b → both_left (suc c) < both_left c
      fewer c fit none took true e = fewer_held c fit none e
      fewer c fit none took false e = let high = no_more_held c fit none e in let down = fits.fewer c fit e took in omega (arith, high, down)

      come : (c d : ℕ) → c ≤ d → d < end → IsTrue (nat_eq (held c) 0) → (words_owed middle c ≤ length (words_at middle d)) ⊎ IsTrue (is_raised (middle.answers.valid d)) → (words_owed top c ≤ length (words_at top d)) ⊎ IsTrue (is_raised (top.answers.valid d))
      come c d near fit none (inl all) =
          let asked = leads.asked c (omega (arith, near, fit)) (none_left (held c) none) in
          let same = same_words top middle end leads.words d (omega (arith, fit)) in
          inl (omega (arith, asked, same, all))
      come c d near fit none (inr now) = inr (leads.words d fit ∙ now)

-- a wire below changes nothing of it
module _ (low bottom : Port) (wire : IsWire low bottom) where
  same_waits : (c : ℕ) → stands_or_owes bottom c ≡ stands_or_owes low c
  same_waits c =
      let words : length (words_at bottom c) ≡ length (words_at low c) = wire_stays low bottom wire (λ p. length (words_at p c) ≡ length (words_at low c)) refl in
      ap₂ (λ a t. a && not t) (ap₂ (λ s g. s || g) (wire_shows low bottom wire c) (ap₂ nat_lt words (wire_asked low bottom wire c))) (wire_takes low bottom wire c)

  pub by_wire : (target : Target) (top : Port) (drained : ℕ → Bool) (left : ℕ → ℕ) (most end : ℕ) → Drains target top low (stands_or_owes low) drained left most end → Drains target top bottom (stands_or_owes bottom) drained left most end
  by_wire target top drained left most end leads = record {
    few = leads.few;
    stays = leads.stays;
    goes = λ c fit none some stops. leads.goes c fit none some (sym (same_waits c) ∙ stops);
    fewer = λ c fit none took. leads.fewer c fit none (sym (wire_takes low bottom wire c) ∙ took);
    empty = leads.empty;
    taken = leads.taken;
    through = λ c fit none. (let high = leads.through c fit none in let same = wire_operations low bottom wire target c in omega (arith, high, same));
    come = λ c d near fit none all. leads.come c d near fit none (let same = wire_asked low bottom wire c in let words : length (words_at bottom d) ≡ length (words_at low d) = wire_stays low bottom wire (λ p. length (words_at p d) ≡ length (words_at low d)) refl in omega (arith, same, words, all));
  }

  -- and a wire may stand for what fits
  pub wire_fits : (target : Target) (many end : ℕ) → 1 ≤ many → Fitting target low bottom (stands_or_owes bottom) (λ c. 1) many end
  wire_fits target many end some = record {
    some = λ c fit. omega arith;
    few = λ c fit. some;
    stays = λ c fit none. omega arith;
    goes = λ c fit none shown stops. absurd (no_both (stands_or_owes bottom c) (waiting _ _ _ (wire_shows low bottom wire c ∙ shown) (wire_takes low bottom wire c ∙ none)) stops);
    fewer = λ c fit none took. absurd (no_both (takes low c) (sym (wire_takes low bottom wire c) ∙ took) none);
    through = λ c fit. (let same = wire_operations low bottom wire target c in omega (arith, same));
    come = λ c d near fit all. (let same = wire_asked low bottom wire c in let words : length (words_at bottom d) ≡ length (words_at low d) = wire_stays low bottom wire (λ p. length (words_at p d) ≡ length (words_at low d)) refl in inl (omega (arith, same, words, all)));
  }
    where
      waiting : (s g t : Bool) → IsTrue s → IsFalse t → IsTrue ((s || g) && not t)
      waiting true g false a b = refl
      waiting true g true a b = absurd (no_true (sym b))
      waiting false g t a b = absurd (no_true a)
