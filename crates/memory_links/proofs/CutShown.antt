-- What is shown below a machine that cuts bursts is fit where all above is, and legal: no burst is under way there but of the one above, and none is longer than may be.
-- It has the tags and kinds of what is shown above.
use Rattle.std.proofs.Common.{ℕ, zero, suc, ◌<◌, ◌≤◌, ◌≡◌, ◌+◌, ◌-◌, ◌*◌, ◌%◌, min, Bool, true, false, not, ◌&&◌, ◌||◌, if◌then◌else◌, arith, refl, sym, ap, ap₂, subst, ◌∙◌, nat_eq, nat_lt, IsTrue, ltb-true, one-mul, add-mul, zero-mul}
use Rattle.std.proofs.Math.Nat.{add-mul-mod_self_right, zero-mod}
use Rattle.std.proofs.lemmas.Bool.{and_parts, not-true, both_ways, eqb-true, eq-eqb, or_left, or_right}
use Rattle.histories.specs.History.{is_raised}
use Rattle.memory_runs.specs.Views.{Shape, Levels, levels_at}
use Rattle.memory_runs.specs.Commands.{Burst, shows, is_held, burst_before, burst_after, next_burst, byte_address, longest_burst, Transfer, write_transfer, read_transfer}
use Rattle.memory_machines.specs.Link.{Port, AreLegalAt, takes}
use Rattle.memory_machines.specs.Lines.{HandsOn}
use Rattle.memory_machines.specs.Machines.{Raw, raw_at, IsFitBeat, ShowsFitBeats}
use Rattle.memory_machines.specs.SideLaws.{legal_when_shown}
use Rattle.memory_links.specs.Cutters.{Reach, CutterState, Rest, RunsAsCutter, IsCutPlan, is_sending, beats_of, read_burst_of, behind_burst, whole_read, write_of_burst, first_burst}
use Rattle.memory_links.specs.Driven.{place_in}
use Rattle.memory_links.specs.Selects.{takes_read}
use Rattle.memory_links.proofs.HandOn.{IsShownFor, hands_on_shown}
use Rattle.memory_links.proofs.OneBeat.{raw_by, aligned, whole_address}
use Rattle.memory_links.proofs.CutRuns.{not_zero, beats_are, fits_before, free_at_read, some_left, some_read, placed}

-- a count that is cut has a beat at least, and no more than may be
cut_least : (longest n : ℕ) → 0 < longest → 0 < n → 1 ≤ beats_of longest n
cut_least longest n least some = (let size = beats_are longest n some in omega (arith, least, some, size))

cut_most : (longest n bound : ℕ) → longest ≤ bound → 0 < n → beats_of longest n ≤ bound
cut_most longest n bound most some = (let size = beats_are longest n some in omega (arith, most, size))

module _ (reach : Reach) (longest : ℕ) (up down : Port) (state : CutterState) (plan : IsCutPlan reach longest up.shape down.shape) (run : RunsAsCutter reach longest up down state) (end : ℕ) (fit : ShowsFitBeats up end) where
  abbrev above : ℕ → Burst
  above c = burst_before up.shape up.commands.signals (takes up) c

  abbrev below : ℕ → Burst
  below c = burst_before down.shape down.commands.signals (takes down) c

  pub shows_first : (c : ℕ) → is_sending state c ≡ false → shows down.commands.signals c ≡ shows up.commands.signals c
  shows_first c e = run.shown c ∙ ap (λ b. if b then true else shows up.commands.signals c) e

  pub sent_beat : (c : ℕ) → c < end → is_sending state c ≡ true → shows down.commands.signals c ≡ true → raw_at down c ≡ read_burst_of reach (state.rest c)
  sent_beat c h e shown = run.beat c shown ∙ ap (λ b. if b then read_burst_of reach (state.rest c) else first_burst reach longest up.shape (state.place c) (raw_at up c)) e

  -- a write beat at the place of the burst above
  abbrev pub written_at : ℕ → Raw
  written_at c = write_of_burst longest up.shape (place_in up.shape.word_bytes (above c)) (raw_at up c)

  pub first_beat : (c : ℕ) → c < end → is_sending state c ≡ false → shows down.commands.signals c ≡ true → (w : Bool) → is_raised (up.commands.write c) ≡ w →
      raw_at down c ≡ (if w then written_at c else read_burst_of reach (whole_read up.shape (raw_at up c)))
  first_beat c h e shown w f =
      run.beat c shown
      ∙ ap₂ (λ b w. if b then read_burst_of reach (state.rest c) else if w then write_of_burst longest up.shape (state.place c) (raw_at up c) else read_burst_of reach (whole_read up.shape (raw_at up c))) e f
      ∙ ap (λ r. if w then r else read_burst_of reach (whole_read up.shape (raw_at up c))) (placed longest up.shape (raw_at up c) (above c) (state.place c) (run.place c (fits_before up end fit c (omega (arith, h)))))

  pub takes_first : (c : ℕ) → is_sending state c ≡ false → takes up c ≡ takes down c
  takes_first c e = run.accepts c ∙ ap (λ b. not b && takes down c) e

  waits_sending : (c : ℕ) → is_sending state c ≡ true → takes up c ≡ false
  waits_sending c e = run.accepts c ∙ ap (λ b. not b && takes down c) e

  shown_taken : (port : Port) (c : ℕ) → takes port c ≡ true → shows port.commands.signals c ≡ true
  shown_taken port c t = (and_parts (shows port.commands.signals c) (not (is_raised (port.commands.waitrequest c))) t).0

  -- ---- where the next beat of a burst goes

  abbrev pub spot : Burst → ℕ
  spot burst = burst.first + burst.done * up.shape.word_bytes

  first_aligned : (c : ℕ) → (above c).first % up.shape.word_bytes ≡ 0
  first_aligned zero = zero-mod up.shape.word_bytes
  first_aligned (suc c) = step (takes up c && is_raised (up.commands.write c)) (nat_eq (above c).left 0) (first_aligned c)
    where
      step : (b z : Bool) → (above c).first % up.shape.word_bytes ≡ 0 →
          (if b then (if z then record { left = up.commands.count c - 1; done = 1; first = byte_address up.shape (up.commands.address c) } else record { left = (above c).left - 1; done = (above c).done + 1; first = (above c).first }) else above c).first % up.shape.word_bytes ≡ 0
      step false z e = e
      step true true e = aligned (up.commands.address c * up.shape.unit_bytes) up.shape.word_bytes
      step true false e = e

  -- the address of a whole word is a byte address below
  pub below_address : (a : ℕ) → a % up.shape.word_bytes ≡ 0 → byte_address down.shape a ≡ a
  below_address a low =
      let whole = whole_address a down.shape.unit_bytes down.shape.word_bytes plan.bytes (ap (λ n. a % n) plan.same ∙ low) in
      let none = zero-mul down.shape.word_bytes in
      omega (arith, whole, none)

  -- the address of a write beat below
  abbrev pub address_of : ℕ → ℕ
  address_of c = if nat_eq (above c).left 0 then byte_address up.shape (up.commands.address c) else (above c).first + (above c).done * up.shape.word_bytes

  pub address_is : (c : ℕ) → byte_address down.shape (address_of c) ≡ address_of c
  address_is c = below_address (address_of c) (by_free (nat_eq (above c).left 0))
    where
      by_free : (b : Bool) → (if b then byte_address up.shape (up.commands.address c) else (above c).first + (above c).done * up.shape.word_bytes) % up.shape.word_bytes ≡ 0
      by_free true = aligned (up.commands.address c * up.shape.unit_bytes) up.shape.word_bytes
      by_free false = add-mul-mod_self_right (above c).first (above c).done up.shape.word_bytes ∙ first_aligned c

  after_spot : (shape : Shape) (levels : Levels) (burst : Burst) → spot (next_burst shape levels burst) ≡ (if nat_eq burst.left 0 then byte_address shape levels.address else spot burst) + up.shape.word_bytes
  after_spot shape levels burst = by_free (nat_eq burst.left 0)
    where
      by_free : (b : Bool) → spot (if b then record { left = levels.count - 1; done = 1; first = byte_address shape levels.address } else record { left = burst.left - 1; done = burst.done + 1; first = burst.first })
          ≡ (if b then byte_address shape levels.address else spot burst) + up.shape.word_bytes
      by_free true = ap (λ n. byte_address shape levels.address + n) (one-mul up.shape.word_bytes)
      by_free false =
          let more = add-mul burst.done 1 up.shape.word_bytes in
          let one = one-mul up.shape.word_bytes in
          omega (arith, more, one)

  -- a burst below lies within the one above, at the same place, and none is under way while a read is sent
  pub record Within (c : ℕ) : Type 0 where
    pub left : (below c).left ≤ (above c).left
    pub place : nat_eq (below c).left 0 ≡ false → spot (below c) ≡ spot (above c)
    pub free : is_sending state c ≡ true → (above c).left ≡ 0

  pub busy_above : (c : ℕ) → Within c → nat_eq (below c).left 0 ≡ false → nat_eq (above c).left 0 ≡ false
  busy_above c now k = by_zero (nat_eq (above c).left 0) refl
    where
      by_zero : (b : Bool) → nat_eq (above c).left 0 ≡ b → nat_eq (above c).left 0 ≡ false
      by_zero false g = g
      by_zero true g =
          let none = eqb-true (above c).left 0 g in
          let low = now.left in
          let some = not_zero (below c).left k in
          absurd (omega (arith, none, low, some))

  -- what is left of a burst after one more of its beats
  after_one : (shape : Shape) (levels : Levels) (burst : Burst) → (next_burst shape levels burst).left ≡ (if nat_eq burst.left 0 then levels.count - 1 else burst.left - 1)
  after_one shape levels burst = by_free (nat_eq burst.left 0)
    where
      left_of : Burst → ℕ
      left_of b = b.left

      by_free : (b : Bool) → left_of (if b then record { left = levels.count - 1; done = 1; first = byte_address shape levels.address } else record { left = burst.left - 1; done = burst.done + 1; first = burst.first }) ≡ (if b then levels.count - 1 else burst.left - 1)
      by_free true = refl
      by_free false = refl

  fewer_left : (count u l : ℕ) → l ≤ u → (if nat_eq l 0 then min longest (if nat_eq u 0 then count else u) - 1 else l - 1) ≤ (if nat_eq u 0 then count - 1 else u - 1)
  fewer_left count u l low = by_zero (nat_eq u 0) refl (nat_eq l 0) refl
    where
      by_zero : (a : Bool) → nat_eq u 0 ≡ a → (b : Bool) → nat_eq l 0 ≡ b → (if b then min longest (if a then count else u) - 1 else l - 1) ≤ (if a then count - 1 else u - 1)
      by_zero true e true f = omega arith
      by_zero false e true f = omega arith
      by_zero false e false f = omega (arith, low)
      by_zero true e false f =
          let none = eqb-true u 0 e in
          let zero_too : l ≡ 0 = omega (arith, none, low) in
          absurd (both_ways (nat_eq l 0) f (eq-eqb l 0 zero_too))

  rest_still : (c : ℕ) → is_sending state c ≡ false → takes_read up c ≡ false → is_sending state (suc c) ≡ false
  rest_still c e f =
      ap (λ (r : Rest). nat_lt 0 r.left) (run.rest_next c ∙ ap₂ (λ b t. if b then (if takes down c then behind_burst reach up.shape.word_bytes (state.rest c) else state.rest c)
      else if t then behind_burst reach up.shape.word_bytes (whole_read up.shape (raw_at up c)) else state.rest c) e f) ∙ e

  pub within : (c : ℕ) → c ≤ end → Within c
  within zero h = record { left = omega arith; place = λ e. refl; free = λ e. refl }
  within (suc c) h = by_sends (within c (omega (arith, h))) (is_sending state c) refl
    where
      same_above : takes up c && is_raised (up.commands.write c) ≡ false → above (suc c) ≡ above c
      same_above e = ap (λ b. if b then next_burst up.shape (levels_at up.commands.signals c) (above c) else above c) e

      same_below : takes down c && is_raised (down.commands.write c) ≡ false → below (suc c) ≡ below c
      same_below e = ap (λ b. if b then next_burst down.shape (levels_at down.commands.signals c) (below c) else below c) e

      by_sends : Within c → (b : Bool) → is_sending state c ≡ b → Within (suc c)
      by_sends now true e =
          let up_same = same_above (ap (λ t. t && is_raised (up.commands.write c)) (waits_sending c e)) in
          let low_same = same_below (by_take (takes down c) refl) in
          let free = now.free e in
          let left = now.left in
          record {
            left = subst (λ (l : Burst). l.left ≤ (above (suc c)).left) (sym low_same) (subst (λ (a : Burst). (below c).left ≤ a.left) (sym up_same) left);
            place = λ on. ap spot low_same ∙ now.place (sym (ap (λ (l : Burst). nat_eq l.left 0) low_same) ∙ on) ∙ ap spot (sym up_same);
            free = λ on. ap (λ (b : Burst). b.left) up_same ∙ free;
          }
        where
          by_take : (t : Bool) → takes down c ≡ t → takes down c && is_raised (down.commands.write c) ≡ false
          by_take false t = ap (λ b. b && is_raised (down.commands.write c)) t
          by_take true t = ap₂ (λ b w. b && w) t (ap (λ (r : Raw). is_raised r.levels.write) (sent_beat c h e (shown_taken down c t)))
      by_sends now false e = by_take (takes up c) refl (is_raised (up.commands.write c)) refl
        where
          by_take : (t : Bool) → takes up c ≡ t → (w : Bool) → is_raised (up.commands.write c) ≡ w → Within (suc c)
          by_take false t w f =
              let up_same = same_above (ap (λ b. b && is_raised (up.commands.write c)) t) in
              let low_same = same_below (ap (λ b. b && is_raised (down.commands.write c)) (sym (takes_first c e) ∙ t)) in
              let left = now.left in
              record {
                left = subst (λ (l : Burst). l.left ≤ (above (suc c)).left) (sym low_same) (subst (λ (a : Burst). (below c).left ≤ a.left) (sym up_same) left);
                place = λ on. ap spot low_same ∙ now.place (sym (ap (λ (l : Burst). nat_eq l.left 0) low_same) ∙ on) ∙ ap spot (sym up_same);
                free = λ on. absurd (both_ways (is_sending state (suc c)) (rest_still c e (ap (λ b. b && not (is_raised (up.commands.write c))) t)) on);
              }
          by_take true t false f =
              let low = sym (takes_first c e) ∙ t in
              let up_same = same_above (ap₂ (λ b w. b && w) t f) in
              let low_same = same_below (ap₂ (λ b w. b && w) low (ap (λ (r : Raw). is_raised r.levels.write) (first_beat c h e (shown_taken down c low) false f))) in
              let none = free_at_read up end fit c h (shown_taken up c t) f in
              let left = now.left in
              record {
                left = subst (λ (l : Burst). l.left ≤ (above (suc c)).left) (sym low_same) (subst (λ (a : Burst). (below c).left ≤ a.left) (sym up_same) left);
                place = λ on. ap spot low_same ∙ now.place (sym (ap (λ (l : Burst). nat_eq l.left 0) low_same) ∙ on) ∙ ap spot (sym up_same);
                free = λ on. ap (λ (b : Burst). b.left) up_same ∙ none;
              }
          by_take true t true f =
              let low = sym (takes_first c e) ∙ t in
              let beat = first_beat c h e (shown_taken down c low) true f in
              let up_is : above (suc c) ≡ next_burst up.shape (levels_at up.commands.signals c) (above c) = ap (λ b. if b then next_burst up.shape (levels_at up.commands.signals c) (above c) else above c) (ap₂ (λ b w. b && w) t f) in
              let low_is : below (suc c) ≡ next_burst down.shape (levels_at down.commands.signals c) (below c) =
              ap (λ b. if b then next_burst down.shape (levels_at down.commands.signals c) (below c) else below c) (ap₂ (λ b w. b && w) low (ap (λ (r : Raw). is_raised r.levels.write) beat)) in
              let up_next : (above (suc c)).left ≡ (if nat_eq (above c).left 0 then up.commands.count c - 1 else (above c).left - 1) =
              ap (λ (b : Burst). b.left) up_is ∙ after_one up.shape (levels_at up.commands.signals c) (above c) in
              let count : down.commands.count c ≡ min longest (if nat_eq (above c).left 0 then up.commands.count c else (above c).left) =
              ap (λ (r : Raw). r.levels.count) beat ∙ beats_are longest (if nat_eq (above c).left 0 then up.commands.count c else (above c).left) (some_left up end fit c h (shown_taken up c t)) in
              let low_next : (below (suc c)).left ≡ (if nat_eq (below c).left 0 then down.commands.count c - 1 else (below c).left - 1) =
              ap (λ (b : Burst). b.left) low_is ∙ after_one down.shape (levels_at down.commands.signals c) (below c) in
              let few = fewer_left (up.commands.count c) (above c).left (below c).left now.left in
              let low_count = low_next ∙ ap (λ n. if nat_eq (below c).left 0 then n - 1 else (below c).left - 1) count in
              record {
                left = omega (arith, few, low_count, up_next);
                place = λ on. ap spot low_is ∙ after_spot down.shape (levels_at down.commands.signals c) (below c) ∙ ap (λ n. n + up.shape.word_bytes) (here (nat_eq (below c).left 0) refl (ap (λ (r : Raw). r.levels.address) beat)) ∙ sym (after_spot up.shape (levels_at up.commands.signals c) (above c)) ∙ ap spot (sym up_is);
                free = λ on. absurd (both_ways (is_sending state (suc c)) (rest_still c e (ap₂ (λ b w. b && not w) t f)) on);
              }
            where
              here : (b : Bool) → nat_eq (below c).left 0 ≡ b → down.commands.address c ≡ address_of c →
                  (if nat_eq (below c).left 0 then byte_address down.shape (down.commands.address c) else spot (below c)) ≡ (if nat_eq (above c).left 0 then byte_address up.shape (up.commands.address c) else spot (above c))
              here true k shown =
                  ap (λ b. if b then byte_address down.shape (down.commands.address c) else spot (below c)) k
                  ∙ ap (byte_address down.shape) shown ∙ address_is c
              here false k shown = ap (λ b. if b then byte_address down.shape (down.commands.address c) else spot (below c)) k ∙ now.place k ∙ ap (λ b. if b then byte_address up.shape (up.commands.address c) else spot (above c)) (sym (busy_above c now k))

  -- ---- each beat is fit

  ends_too : (count u l : ℕ) → l ≤ u → (if nat_eq u 0 then nat_eq count 1 else nat_eq u 1) ≡ true → (if nat_eq l 0 then nat_eq (min longest (if nat_eq u 0 then count else u)) 1 else nat_eq l 1) ≡ true
  ends_too count u l low ends = by_zero (nat_eq u 0) refl (nat_eq l 0) refl ends
    where
      by_zero : (a : Bool) → nat_eq u 0 ≡ a → (b : Bool) → nat_eq l 0 ≡ b → (if a then nat_eq count 1 else nat_eq u 1) ≡ true → (if b then nat_eq (min longest (if a then count else u)) 1 else nat_eq l 1) ≡ true
      by_zero true e true f g = let one = eqb-true count 1 g in let some = plan.least in eq-eqb (min longest count) 1 (omega (arith, one, some))
      by_zero false e true f g = let one = eqb-true u 1 g in let some = plan.least in eq-eqb (min longest u) 1 (omega (arith, one, some))
      by_zero false e false f g =
          let one = eqb-true u 1 g in
          let more : 0 < l = not_zero l f in
          eq-eqb l 1 (omega (arith, one, more, low))
      by_zero true e false f g =
          let none = eqb-true u 0 e in
          let zero_too : l ≡ 0 = omega (arith, none, low) in
          absurd (both_ways (nat_eq l 0) f (eq-eqb l 0 zero_too))

  -- a write beat below ends its burst, or `more` joins it to the next
  pub ends_or_joined : (c : ℕ) → c < end → shows up.commands.signals c ≡ true → is_raised (up.commands.write c) ≡ true →
      (write_transfer down.shape (written_at c).levels (below c)).ends || is_raised (up.commands.more c) ≡ true
  ends_or_joined c h shown f =
      ap (λ n. (if nat_eq (below c).left 0 then nat_eq n 1 else nat_eq (below c).left 1) || is_raised (up.commands.more c))
      (beats_are longest (if nat_eq (above c).left 0 then up.commands.count c else (above c).left) (some_left up end fit c h shown))
      ∙ by_ends (if nat_eq (above c).left 0 then nat_eq (up.commands.count c) 1 else nat_eq (above c).left 1) refl upper
    where
      now : Within c
      now = within c (omega (arith, h))

      ends_in : Transfer → Bool
      ends_in t = t.ends

      upper : (if nat_eq (above c).left 0 then nat_eq (up.commands.count c) 1 else nat_eq (above c).left 1) || is_raised (up.commands.more c) ≡ true
      upper =
          ap (λ w. ends_in (if w then write_transfer up.shape (levels_at up.commands.signals c) (above c) else read_transfer up.shape (levels_at up.commands.signals c)) || is_raised (up.commands.more c)) (sym f)
          ∙ (fit c h shown).joined

      by_ends : (b : Bool) → (if nat_eq (above c).left 0 then nat_eq (up.commands.count c) 1 else nat_eq (above c).left 1) ≡ b → b || is_raised (up.commands.more c) ≡ true →
          (if nat_eq (below c).left 0 then nat_eq (min longest (if nat_eq (above c).left 0 then up.commands.count c else (above c).left)) 1 else nat_eq (below c).left 1) || is_raised (up.commands.more c) ≡ true
      by_ends true g k = or_left _ (is_raised (up.commands.more c)) (ends_too (up.commands.count c) (above c).left (below c).left now.left g)
      by_ends false g k = or_right _ (is_raised (up.commands.more c)) k

  no_busy : (c : ℕ) → Within c → (above c).left ≡ 0 → IsTrue (nat_lt 0 (below c).left) → ⊥
  no_busy c now none busy = let some = ltb-true 0 (below c).left busy in let left = now.left in omega (arith, some, left, none)

  fit_read : (c : ℕ) → (rest : Rest) → 0 < rest.left → Within c → (above c).left ≡ 0 → IsFitBeat down.shape (below c) (read_burst_of reach rest)
  fit_read c rest some now none = record {
    one_kind = refl;
    least = λ free. cut_least (reach rest.address) rest.left (plan.goes rest.address) some;
    most = λ free. cut_most (reach rest.address) rest.left (longest_burst down.shape.burst_bits) (plan.allowed rest.address) some;
    finished = λ busy. absurd (no_busy c now none busy);
    joined = refl;
  }

  pub fit_below : (c : ℕ) → c < end → shows down.commands.signals c ≡ true → IsFitBeat down.shape (below c) (raw_at down c)
  fit_below c h shown = by_sends (is_sending state c) refl
    where
      now : Within c
      now = within c (omega (arith, h))

      by_sends : (b : Bool) → is_sending state c ≡ b → IsFitBeat down.shape (below c) (raw_at down c)
      by_sends true e = subst (IsFitBeat down.shape (below c)) (sym (sent_beat c h e shown)) (fit_read c (state.rest c) (ltb-true 0 (state.rest c).left e) now (now.free e))
      by_sends false e = by_write (is_raised (up.commands.write c)) refl
        where
          there : shows up.commands.signals c ≡ true
          there = sym (shows_first c e) ∙ shown

          by_write : (w : Bool) → is_raised (up.commands.write c) ≡ w → IsFitBeat down.shape (below c) (raw_at down c)
          by_write false f =
              let none = free_at_read up end fit c h there f in
              let some = some_read up end fit c h there f in
              subst (IsFitBeat down.shape (below c)) (sym (first_beat c h e shown false f)) (fit_read c (whole_read up.shape (raw_at up c)) some now none)
          by_write true f =
              subst (IsFitBeat down.shape (below c)) (sym (first_beat c h e shown true f)) (record {
                one_kind = refl;
                least = λ free. cut_least longest (if nat_eq (above c).left 0 then up.commands.count c else (above c).left) plan.least (some_left up end fit c h there);
                most = λ free. cut_most longest (if nat_eq (above c).left 0 then up.commands.count c else (above c).left) (longest_burst down.shape.burst_bits) plan.most (some_left up end fit c h there);
                finished = λ busy. refl;
                joined = ends_or_joined c h there f;
              })

  -- ---- each burst below stems from a beat above

  pub record IsOf (c k : ℕ) : Type 0 where
    pub before : k < c
    pub command : (state.rest c).command ≡ raw_at up k
    pub shown : shows up.commands.signals k ≡ true
    pub read : is_raised (up.commands.write k) ≡ false

  -- the read that is sent was accepted before
  pub sent_for : (c : ℕ) → is_sending state c ≡ true → (k : ℕ) × IsOf c k
  sent_for zero on = let none = run.rest_begins in let some = ltb-true 0 (state.rest 0).left on in absurd (omega (arith, none, some))
  sent_for (suc c) on = by_sends (is_sending state c) refl (sent_for c)
    where
      command_of : Rest → Raw
      command_of r = r.command

      next_with : (b t : Bool) → is_sending state c ≡ b → takes_read up c ≡ t → (state.rest (suc c)).command ≡ (if b then (state.rest c).command else if t then raw_at up c else (state.rest c).command)
      next_with b t e f =
          ap command_of (run.rest_next c ∙ ap₂ (λ b t. if b then (if takes down c then behind_burst reach up.shape.word_bytes (state.rest c) else state.rest c)
          else if t then behind_burst reach up.shape.word_bytes (whole_read up.shape (raw_at up c)) else state.rest c) e f) ∙ by_case b t (takes down c)
        where
          by_case : (b t d : Bool) → command_of (if b then (if d then behind_burst reach up.shape.word_bytes (state.rest c) else state.rest c) else if t then behind_burst reach up.shape.word_bytes (whole_read up.shape (raw_at up c)) else state.rest c)
              ≡ (if b then (state.rest c).command else if t then raw_at up c else (state.rest c).command)
          by_case true t true = refl
          by_case true t false = refl
          by_case false true d = refl
          by_case false false d = refl

      by_sends : (b : Bool) → is_sending state c ≡ b → (is_sending state c ≡ true → (k : ℕ) × IsOf c k) → (k : ℕ) × IsOf (suc c) k
      by_sends true e earlier =
          let there = earlier e in
          let is = there.1 in
          let low = is.before in
          (there.0, record { before = omega (arith, low); command = next_with true (takes_read up c) e refl ∙ is.command; shown = is.shown; read = is.read })
      by_sends false e earlier = by_read (takes_read up c) refl
        where
          by_read : (t : Bool) → takes_read up c ≡ t → (k : ℕ) × IsOf (suc c) k
          by_read false f = absurd (both_ways (is_sending state (suc c)) (rest_still c e f) on)
          by_read true f =
              let parts = and_parts (takes up c) (not (is_raised (up.commands.write c))) f in
              (c, record { before = omega arith; command = next_with false true e f; shown = shown_taken up c parts.0; read = not-true (is_raised (up.commands.write c)) parts.1 })

  one_kind : (k : ℕ) → k < end → shows up.commands.signals k ≡ true → is_raised (up.commands.read k) ≡ not (is_raised (up.commands.write k))
  one_kind k h shown = by_kinds (is_raised (up.commands.read k)) (is_raised (up.commands.write k)) shown (fit k h shown).one_kind
    where
      by_kinds : (r w : Bool) → r || w ≡ true → IsTrue (not (r && w)) → r ≡ not w
      by_kinds true true s o = cc
      by_kinds true false s o = refl
      by_kinds false true s o = refl
      by_kinds false false s o = cc

  pub cut_hands_on : HandsOn up down end
  cut_hands_on = hands_on_shown up down end (λ c low shown. from c low shown (is_sending state c) refl)
    where
      from : (c : ℕ) → c < end → shows down.commands.signals c ≡ true → (b : Bool) → is_sending state c ≡ b → (k : ℕ) × IsShownFor up down c k
      from c low shown true e =
          let there = sent_for c e in
          let is = there.1 in
          let before = is.before in
          let beat = sent_beat c low e shown in (
            there.0,
            record {
              by_then = omega (arith, before);
              shown = is.shown;
              tag = ap (λ (r : Raw). r.tag) beat ∙ ap (λ (r : Raw). r.tag) is.command;
              reads = ap (λ (r : Raw). is_raised r.levels.read) beat ∙ ap not (sym is.read) ∙ sym (one_kind there.0 (omega (arith, before, low)) is.shown);
              writes = ap (λ (r : Raw). is_raised r.levels.write) beat ∙ sym is.read;
            },
          )
      from c low shown false e = (c, by_write (is_raised (up.commands.write c)) refl)
        where
          there : shows up.commands.signals c ≡ true
          there = sym (shows_first c e) ∙ shown

          by_write : (w : Bool) → is_raised (up.commands.write c) ≡ w → IsShownFor up down c c
          by_write true f =
              let beat = first_beat c low e shown true f in
              record {
                by_then = omega arith;
                shown = there;
                tag = ap (λ (r : Raw). r.tag) beat;
                reads = ap (λ (r : Raw). is_raised r.levels.read) beat ∙ ap not (sym f) ∙ sym (one_kind c low there);
                writes = ap (λ (r : Raw). is_raised r.levels.write) beat ∙ sym f;
              }
          by_write false f =
              let beat = first_beat c low e shown false f in
              record {
                by_then = omega arith;
                shown = there;
                tag = ap (λ (r : Raw). r.tag) beat;
                reads = ap (λ (r : Raw). is_raised r.levels.read) beat ∙ ap not (sym f) ∙ sym (one_kind c low there);
                writes = ap (λ (r : Raw). is_raised r.levels.write) beat ∙ sym f;
              }

  -- ---- and held while it waits

  module _ (legal : AreLegalAt up end) where
    held_on : (c : ℕ) → suc c < end → is_held down.commands.signals (takes down) c ≡ true → raw_at down c ≡ raw_at down (suc c)
    held_on c h held = by_sends (is_sending state c) refl
      where
        parts : (shows down.commands.signals c ≡ true) × (not (takes down c) ≡ true)
        parts = and_parts (shows down.commands.signals c) (not (takes down c)) held

        not_taken : takes down c ≡ false
        not_taken = not-true (takes down c) parts.1

        rest_same : (b : Bool) → is_sending state c ≡ b → (takes_read up c ≡ false) → state.rest (suc c) ≡ state.rest c
        rest_same b e t =
            run.rest_next c ∙ ap₂ (λ d t. if is_sending state c then (if d then behind_burst reach up.shape.word_bytes (state.rest c) else state.rest c)
            else if t then behind_burst reach up.shape.word_bytes (whole_read up.shape (raw_at up c)) else state.rest c) not_taken t ∙ by_case (is_sending state c)
          where
            by_case : (x : Bool) → (if x then state.rest c else state.rest c) ≡ state.rest c
            by_case true = refl
            by_case false = refl

        by_sends : (b : Bool) → is_sending state c ≡ b → raw_at down c ≡ raw_at down (suc c)
        by_sends true e =
            let rest = rest_same true e (ap (λ t. t && not (is_raised (up.commands.write c))) (waits_sending c e)) in
            let next : is_sending state (suc c) ≡ true = ap (λ (r : Rest). nat_lt 0 r.left) rest ∙ e in
            sent_beat c (omega (arith, h)) e parts.0 ∙ ap (read_burst_of reach) (sym rest) ∙ sym (sent_beat (suc c) h next (run.shown (suc c) ∙ ap (λ b. if b then true else shows up.commands.signals (suc c)) next))
        by_sends false e =
            let above_shown = sym (shows_first c e) ∙ parts.0 in
            let not_up = takes_first c e ∙ not_taken in
            let stands : is_held up.commands.signals (takes up) c ≡ true = ap₂ (λ s t. s && not t) above_shown not_up in
            let levels = legal.legal.held c h stands in
            let same : raw_at up c ≡ raw_at up (suc c) =
            ap₂ (λ l m. raw_by l m (up.commands.tag c)) levels (legal.more c h stands) ∙ ap (raw_by (levels_at up.commands.signals (suc c)) (up.commands.more (suc c))) (legal.tag c h stands) in
            let next = rest_still c e (ap (λ t. t && not (is_raised (up.commands.write c))) not_up) in
            let burst : above (suc c) ≡ above c = ap (λ t. burst_after up.shape (levels_at up.commands.signals c) t (above c)) not_up in
            let later : shows down.commands.signals (suc c) ≡ true = shows_first (suc c) next ∙ ap (λ (l : Levels). is_raised l.read || is_raised l.write) (sym levels) ∙ above_shown in
            first_beat c (omega (arith, h)) e parts.0 (is_raised (up.commands.write c)) refl ∙ ap₂ (λ b r. first_burst reach longest up.shape (place_in up.shape.word_bytes b) r) (sym burst) same ∙ sym (first_beat (suc c) h next later (is_raised (up.commands.write (suc c))) refl)

    pub cut_legal : AreLegalAt down end
    cut_legal = legal_when_shown down.shape down.commands down.answers end fit_below held_on
