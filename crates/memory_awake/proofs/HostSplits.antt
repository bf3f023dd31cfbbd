-- A splitter: each beat above comes to so many steps below as it has pieces.
use Rattle.std.proofs.Common.{◌≡◌, ℕ, zero, suc, ◌+◌, ◌-◌, ◌*◌, ◌<◌, ◌≤◌, Bool, true, false, not, ◌&&◌, ◌||◌, List, [], ◌∷◌, length, filter, map, nat_eq, nat_lt, if◌then◌else◌, arith, refl, sym, ap, ap₂, ◌∙◌, subst, IsTrue, IsFalse, tests, inl, inr, ◌⊎◌, Some, ltb-true, ltb-false}
use Rattle.std.specs.Prelude.{slice_get}
use Rattle.std.proofs.lemmas.Bool.{and_parts}
use Rattle.histories.specs.History.{is_raised, numbers}
use Rattle.memory_runs.specs.Views.{Shape, Levels, levels_at}
use Rattle.memory_runs.specs.Operations.{Beat, pieces}
use Rattle.memory_runs.specs.Commands.{Burst, shows, burst_before, next_burst}
use Rattle.memory_machines.specs.Link.{Port, AreLegalAt, takes, taken_at, marked_at, closes, is_last_joined}
use Rattle.memory_machines.specs.Machines.{Raw, raw_at, split_parts, joined, single, or_first, beat_of, touched, is_touched, piece_of}
use Rattle.memory_links.specs.Splits.{SplitState, RunsAsSplit, opens, split_at}
use Rattle.memory_awake.proofs.Beats.{numbers_length}
use Rattle.memory_awake.proofs.Bits.{no_true, takes_shows, last_joined_end, none_taken, one_taken, holds, shown_again, not_shown}
use Rattle.memory_awake.specs.Steps.{HasStepsLeft}
use Rattle.memory_awake.proofs.HostGrants.{no_both}
use Rattle.memory_awake.proofs.HostRing.{more_of, one_off}

-- every part is a command of one beat, and the last one goes on as the beat does
record IsPart (more : ℕ) (parts : List Raw) (place : ℕ) (raw : Raw) : Type 0 where
  one : raw.levels.count ≡ 1
  last : suc place ≡ length parts → raw.more ≡ more

part_of : (tag more : ℕ) (beats : List Beat) (place : ℕ) (raw : Raw) → slice_get (joined tag more beats) place ≡ Some raw → IsPart more (joined tag more beats) place raw
part_of tag more [] place raw e = absurd cc
part_of tag more (beat ∷ []) zero raw e = let same : single tag more beat ≡ raw = cc in record { one = ap (λ (r : Raw). r.levels.count) (sym same); last = λ l. ap (λ (r : Raw). r.more) (sym same) }
part_of tag more (beat ∷ []) (suc place) raw e = absurd cc
part_of tag more (beat ∷ next ∷ later) zero raw e = let same : single tag 1 beat ≡ raw = cc in record { one = ap (λ (r : Raw). r.levels.count) (sym same); last = λ l. absurd (longer later l) }
  where
    some_more : (later : List Beat) → 1 ≤ length (joined tag more (next ∷ later))
    some_more [] = omega arith
    some_more (x ∷ xs) = omega arith

    longer : (later : List Beat) → suc zero ≡ suc (length (joined tag more (next ∷ later))) → ⊥
    longer later l = let long = some_more later in omega (arith, long, l)
part_of tag more (beat ∷ next ∷ later) (suc place) raw e =
    let rest = part_of tag more (next ∷ later) place raw e in
    record { one = rest.one; last = λ l. rest.last (omega (arith, l)) }

-- a beat without parts goes on
none_of_joined : (tag more : ℕ) (beats : List Beat) → length (joined tag more beats) ≡ 0 → beats ≡ []
none_of_joined tag more [] e = refl
none_of_joined tag more (beat ∷ []) e = absurd cc
none_of_joined tag more (beat ∷ next ∷ later) e = absurd (omega (arith, e))

none_of_first : (narrow : Shape) (needed : Bool) (beat : Beat) (pieces : List Beat) → or_first narrow needed beat pieces ≡ [] → IsFalse needed
none_of_first narrow true beat [] e = absurd cc
none_of_first narrow false beat [] e = refl
none_of_first narrow needed beat (piece ∷ later) e = absurd cc

goes_on_without : (wide narrow : Shape) (burst : Burst) (raw : Raw) → length (split_parts wide narrow burst raw) ≡ 0 → IsTrue (is_raised raw.more)
goes_on_without wide narrow burst raw e =
    let beat = beat_of wide raw.levels in
    let none = none_of_joined raw.tag raw.more (or_first narrow (not (is_raised raw.more) || not (is_raised raw.levels.write)) beat (touched wide narrow beat)) e in
    by_more (is_raised raw.more) (is_raised raw.levels.write) (none_of_first narrow (not (is_raised raw.more) || not (is_raised raw.levels.write)) beat (touched wide narrow beat) none)
  where
    by_more : (m w : Bool) → IsFalse (not m || not w) → IsTrue m
    by_more true w f = refl
    by_more false w f = absurd (no_true (sym f))

module _ (room many : ℕ) (up down : Port) (state : SplitState) (end : ℕ) (runs : RunsAsSplit room up down state) (legal : AreLegalAt up (suc end)) (few : (c : ℕ) → length (split_at up down c) ≤ many) (some : 1 ≤ many)
    (good : ℕ → Bool) (fine : (c : ℕ) → c < end → IsTrue (good c) → IsTrue (shows up.commands.signals c) → IsTrue (opens room up down state c))
    (longest : ℕ) (rest : ℕ → ℕ) (above : HasStepsLeft up good longest rest end) where
  abbrev parts : ℕ → List Raw
  parts c = split_at up down c

  place_zero : state.place 0 ≡ 0
  place_zero = runs.place_begins

  place_taken : (c : ℕ) → IsTrue (takes up c) → state.place (suc c) ≡ 0
  place_taken c e = runs.place_next c ∙ (rw e refl)

  place_more : (c : ℕ) → IsFalse (takes up c) → IsTrue (takes down c) → state.place (suc c) ≡ suc (state.place c)
  place_more c e d = runs.place_next c ∙ (rw (e, d) refl)

  place_still : (c : ℕ) → IsFalse (takes up c) → IsFalse (takes down c) → state.place (suc c) ≡ state.place c
  place_still c e d = runs.place_next c ∙ (rw (e, d) refl)

  three : (a b d : Bool) → IsTrue ((a && b) && d) → IsTrue a × IsTrue b × IsTrue d
  three true true true h = (refl, refl, refl)
  three true true false h = absurd (no_true h)
  three true false d h = absurd (no_true h)
  three false b d h = absurd (no_true h)

  down_shown : (c : ℕ) → IsTrue (shows down.commands.signals c) → IsTrue (shows up.commands.signals c) × IsTrue (opens room up down state c) × IsTrue (nat_lt (state.place c) (length (parts c)))
  down_shown c h = three _ _ _ (sym (runs.shown c) ∙ h)

  part_here : (c : ℕ) → IsTrue (shows down.commands.signals c) → IsPart (up.commands.more c) (parts c) (state.place c) (raw_at down c)
  part_here c h = part_of _ _ _ _ _ (runs.part c h)

  -- where a beat is taken above, all its parts have gone, or it has none
  taken_above : (c : ℕ) → IsTrue (takes up c) → (length (parts c) ≡ 0) ⊎ (IsTrue (takes down c) × (suc (state.place c) ≡ length (parts c)))
  taken_above c e = by_none (nat_eq (length (parts c)) 0) refl (sym (runs.accepts c) ∙ e)
    where
      by_none : (b : Bool) → nat_eq (length (parts c)) 0 ≡ b → IsTrue ((shows up.commands.signals c && opens room up down state c) && (nat_eq (length (parts c)) 0 || (takes down c && nat_eq (suc (state.place c)) (length (parts c))))) →
          (length (parts c) ≡ 0) ⊎ (IsTrue (takes down c) × (suc (state.place c) ≡ length (parts c)))
      by_none true f h = inl (grind (arith, tests, f))
      by_none false f h =
          let three_of = three (shows up.commands.signals c) (opens room up down state c) (nat_eq (length (parts c)) 0 || (takes down c && nat_eq (suc (state.place c)) (length (parts c)))) h in
          let last : IsTrue (takes down c && nat_eq (suc (state.place c)) (length (parts c))) = second (nat_eq (length (parts c)) 0) (takes down c && nat_eq (suc (state.place c)) (length (parts c))) f three_of.2 in
          let two = and_parts (takes down c) (nat_eq (suc (state.place c)) (length (parts c))) last in
          inr (two.0, grind (arith, tests, two.1))
        where
          second : (a b : Bool) → IsFalse a → IsTrue (a || b) → IsTrue b
          second false b x y = y
          second true b x y = absurd (no_true (sym x))

  -- and the last part that is taken takes the beat
  last_taken : (c : ℕ) → IsTrue (takes down c) → suc (state.place c) ≡ length (parts c) → IsTrue (takes up c)
  last_taken c d l =
      let its = down_shown c (takes_shows down c d) in
      let same : nat_eq (suc (state.place c)) (length (parts c)) ≡ true = grind (arith, tests, l) in
      runs.accepts c ∙ all _ _ (nat_eq (length (parts c)) 0) _ _ its.0 its.1 d same
    where
      all : (a b z d e : Bool) → IsTrue a → IsTrue b → IsTrue d → e ≡ true → ((a && b) && (z || (d && e))) ≡ true
      all true true true true true x y w q = refl
      all true true false true true x y w q = refl
      all true true z true false x y w q = absurd cc
      all true true z false e x y w q = absurd (no_true w)
      all true false z d e x y w q = absurd (no_true y)
      all false b z d e x y w q = absurd (no_true x)

  -- while some parts have gone, the beat stands with a part to go
  goes_on : (c : ℕ) → c < suc end → (state.place c ≡ 0) ⊎ (IsTrue (shows up.commands.signals c) × (state.place c < length (parts c)))
  goes_on zero fit = inl place_zero
  goes_on (suc c) fit = by_take (takes up c) refl (takes down c) refl (goes_on c (omega (arith, fit)))
    where
      same_parts : IsTrue (shows up.commands.signals c) → IsFalse (takes up c) → IsTrue (shows up.commands.signals (suc c)) × (length (parts (suc c)) ≡ length (parts c))
      same_parts shown still =
          let held = holds (shows up.commands.signals c) (takes up c) shown still in
          let levels = legal.legal.held c fit held in
          let more = legal.more c fit held in
          let tag = legal.tag c fit held in
          let raw : raw_at up (suc c) ≡ raw_at up c = raw_same (levels_at up.commands.signals c) (levels_at up.commands.signals (suc c)) (up.commands.more c) (up.commands.more (suc c)) (up.commands.tag c) (up.commands.tag (suc c)) levels more tag in
          let burst : burst_before up.shape up.commands.signals (takes up) (suc c) ≡ burst_before up.shape up.commands.signals (takes up) c = rw still refl in
          (shown_again up c (suc end) legal fit held, ap₂ (λ (b : Burst) (r : Raw). length (split_parts up.shape down.shape b r)) burst raw)
        where
          raw_same : (l k : Levels) (m n t u : ℕ) → l ≡ k → m ≡ n → t ≡ u → (let x : Raw = record { levels = k; more = n; tag = u } in x) ≡ (let x : Raw = record { levels = l; more = m; tag = t } in x)
          raw_same l k m n t u a b e = ap (λ x. record { levels = x; more = n; tag = u }) (sym a) ∙ ap (λ x. record { levels = l; more = x; tag = u }) (sym b) ∙ ap (λ x. record { levels = l; more = m; tag = x }) (sym e)

      by_take : (t : Bool) → takes up c ≡ t → (d : Bool) → takes down c ≡ d → (state.place c ≡ 0) ⊎ (IsTrue (shows up.commands.signals c) × (state.place c < length (parts c))) →
          (state.place (suc c) ≡ 0) ⊎ (IsTrue (shows up.commands.signals (suc c)) × (state.place (suc c) < length (parts (suc c))))
      by_take true et d ed was = inl (place_taken c et)
      by_take false et true ed was =
          let its = down_shown c (takes_shows down c ed) in
          let less = ltb-true _ _ its.2 in
          let next = place_more c et ed in
          let same = same_parts its.0 et in
          let long = same.1 in
          inr (same.0, by_last (nat_eq (suc (state.place c)) (length (parts c))) refl less next long)
        where
          by_last : (b : Bool) → nat_eq (suc (state.place c)) (length (parts c)) ≡ b → state.place c < length (parts c) → state.place (suc c) ≡ suc (state.place c) → length (parts (suc c)) ≡ length (parts c) → state.place (suc c) < length (parts (suc c))
          by_last true e less next long = let is : suc (state.place c) ≡ length (parts c) = grind (arith, tests, e) in absurd (no_both _ (last_taken c ed is) et)
          by_last false e less next long = let not_last : suc (state.place c) < length (parts c) = grind (arith, tests, e, less) in omega (arith, not_last, next, long)
      by_take false et false ed (inl none) = let next = place_still c et ed in inl (next ∙ none)
      by_take false et false ed (inr stands) =
          let next = place_still c et ed in
          let same = same_parts stands.0 et in
          let long = same.1 in
          let less = stands.1 in
          inr (same.0, omega (arith, next, long, less))

  place_few : (c : ℕ) → c < suc end → state.place c + 1 ≤ many
  place_few c fit = elim (goes_on c fit) [
    | inl none ↦ omega (arith, none, some)
    | inr stands ↦ let less = stands.1 in let most = few c in omega (arith, less, most)
  ]

  -- ---- steps

  abbrev pub steps_left : ℕ → ℕ
  steps_left c = (rest c - 1) * many + (many - state.place c)

  free_below : (c : ℕ) → c ≤ end → (burst_before down.shape down.commands.signals (takes down) c).left ≡ 0
  free_below zero fit = refl
  free_below (suc c) fit = by_take (takes down c) refl (free_below c (omega (arith, fit)))
    where
      by_take : (t : Bool) → takes down c ≡ t → (burst_before down.shape down.commands.signals (takes down) c).left ≡ 0 → (burst_before down.shape down.commands.signals (takes down) (suc c)).left ≡ 0
      by_take false e free = rw e free
      by_take true e free = rw e (by_write (is_raised (down.commands.write c)) free ((part_here c (takes_shows down c e)).one))
        where
          by_write : (w : Bool) → (burst_before down.shape down.commands.signals (takes down) c).left ≡ 0 → down.commands.count c ≡ 1 →
              (if w then next_burst down.shape (levels_at down.commands.signals c) (burst_before down.shape down.commands.signals (takes down) c) else burst_before down.shape down.commands.signals (takes down) c).left ≡ 0
          by_write false free one = free
          by_write true free one = let none : nat_eq (burst_before down.shape down.commands.signals (takes down) c).left 0 ≡ true = grind (arith, tests, free) in rw none (omega (arith, one))

  ends_below : (c : ℕ) → c ≤ end → IsTrue (shows down.commands.signals c) → IsTrue (marked_at down c).transfer.ends
  ends_below c fit shown = by_write (is_raised (down.commands.write c)) refl
    where
      by_write : (w : Bool) → is_raised (down.commands.write c) ≡ w → IsTrue (marked_at down c).transfer.ends
      by_write false e = rw e refl
      by_write true e =
          let free = free_below c fit in
          let none : nat_eq (burst_before down.shape down.commands.signals (takes down) c).left 0 ≡ true = grind (arith, tests, free) in
          let count = (part_here c shown).one in
          let one : nat_eq (down.commands.count c) 1 ≡ true = grind (arith, tests, count) in
          rw (e, none, one) refl

  open_above : (c : ℕ) → IsTrue (is_raised (up.commands.more c)) → IsFalse (closes (marked_at up c))
  open_above c more = by_ends (marked_at up c).transfer.ends (is_raised (up.commands.more c)) more
    where
      by_ends : (e m : Bool) → IsTrue m → IsFalse (e && not m)
      by_ends true true h = refl
      by_ends false m h = refl
      by_ends true false h = absurd (no_true h)

  more_below : (e m : Bool) → IsTrue e → IsFalse (e && not m) → IsTrue m
  more_below true true x f = refl
  more_below true false x f = absurd (no_true (sym f))
  more_below false m x f = absurd (no_true x)

  -- a beat that is taken above and leaves its command open is a step of all its parts
  one_beat_less : (c : ℕ) → c < end → IsTrue (takes up c) → IsTrue (is_raised (up.commands.more c)) → steps_left (suc c) + 1 ≤ steps_left c
  one_beat_less c fit took more =
      let less = above.fewer c fit took (open_above c more) in
      let next = above.some (suc c) fit in
      let place = place_taken c took in
      let room_left = place_few c (omega (arith, fit)) in
      let off = one_off (rest (suc c)) many next in
      let fewer = more_of (rest (suc c)) (rest c - 1) many (omega (arith, less)) in
      omega (arith, place, room_left, off, fewer)

  still_left : (c : ℕ) → c < end → IsFalse (takes up c) → (state.place c ≤ state.place (suc c)) → steps_left (suc c) + (state.place (suc c) - state.place c) ≤ steps_left c + 0 ⊎ (many < state.place (suc c))
  still_left c fit still grows = by_room (nat_lt many (state.place (suc c))) refl
    where
      by_room : (b : Bool) → nat_lt many (state.place (suc c)) ≡ b → steps_left (suc c) + (state.place (suc c) - state.place c) ≤ steps_left c + 0 ⊎ (many < state.place (suc c))
      by_room true e = inr (ltb-true many (state.place (suc c)) e)
      by_room false e =
          let fits = ltb-false many (state.place (suc c)) e in
          let less = above.stays c fit still in
          let fewer = more_of (rest (suc c) - 1) (rest c - 1) many (omega (arith, less)) in
          inl (omega (arith, fits, fewer, grows))

  swallowed : (c : ℕ) → length (parts c) ≡ 0 → IsTrue (is_raised (up.commands.more c))
  swallowed c none = goes_on_without up.shape down.shape (burst_before up.shape up.commands.signals (takes up) c) (raw_at up c) none

  joined_above : (c : ℕ) → c ≤ end → state.place c ≡ 0 → IsTrue (is_last_joined (taken_at down c)) → IsTrue (is_last_joined (taken_at up c))
  joined_above zero fit none h = absurd (no_true h)
  joined_above (suc c) fit none h = by_take (takes up c) refl (takes down c) refl (joined_above c (omega (arith, fit)))
    where
      by_take : (t : Bool) → takes up c ≡ t → (d : Bool) → takes down c ≡ d → (state.place c ≡ 0 → IsTrue (is_last_joined (taken_at down c)) → IsTrue (is_last_joined (taken_at up c))) → IsTrue (is_last_joined (taken_at up (suc c)))
      by_take true et d ed more =
          let up_is = ap is_last_joined (one_taken up c et) ∙ last_joined_end (taken_at up c) (marked_at up c) in
          elim (taken_above c et) [
            | inl empty ↦ up_is ∙ swallowed c empty
            | inr last ↦
                let down_is = ap is_last_joined (one_taken down c last.0) ∙ last_joined_end (taken_at down c) (marked_at down c) in
                let same = (part_here c (takes_shows down c last.0)).last last.1 in
                up_is ∙ ap is_raised (sym same) ∙ sym down_is ∙ h
          ]
      by_take false et true ed more = let next = place_more c et ed in absurd (omega (arith, next, none))
      by_take false et false ed more =
          let next = place_still c et ed in
          subst (λ l. IsTrue (is_last_joined l)) (sym (none_taken up c et)) (more (sym next ∙ none) (subst (λ l. IsTrue (is_last_joined l)) (none_taken down c ed) h))

  pub split_has_steps_left : HasStepsLeft down good (longest * many) steps_left end
  split_has_steps_left = record {
    some = λ c fit. let p = place_few c (omega (arith, fit)) in omega (arith, p);
    few = λ c fit.
        let most = above.few c fit in
        let least = above.some c fit in
        let off = one_off (rest c) many least in
        let all = more_of (rest c) longest many most in
        omega (arith, off, all);
    fewer = fewer;
    stays = stays;
    gaps = gaps;
  }
    where
      fewer : (c : ℕ) → c < end → IsTrue (takes down c) → IsFalse (closes (marked_at down c)) → steps_left (suc c) + 1 ≤ steps_left c
      fewer c fit took open_still = by_take (takes up c) refl
        where
          shown : IsTrue (shows down.commands.signals c)
          shown = takes_shows down c took

          by_take : (t : Bool) → takes up c ≡ t → steps_left (suc c) + 1 ≤ steps_left c
          by_take true et = elim (taken_above c et) [
            | inl empty ↦ let less = ltb-true _ _ (down_shown c shown).2 in absurd (omega (arith, less, empty))
            | inr last ↦
                let same = (part_here c shown).last last.1 in
                let more = more_below (marked_at down c).transfer.ends (is_raised (down.commands.more c)) (ends_below c (omega (arith, fit)) shown) open_still in
                one_beat_less c fit et (sym (ap is_raised same) ∙ more)
          ]
          by_take false et =
              let next = place_more c et took in
              let room_next = place_few (suc c) (omega (arith, fit)) in
              elim (still_left c fit et (omega (arith, next))) [
                | inl less ↦ omega (arith, less, next)
                | inr over ↦ absurd (omega (arith, over, room_next))
              ]

      stays : (c : ℕ) → c < end → IsFalse (takes down c) → steps_left (suc c) ≤ steps_left c
      stays c fit none = by_take (takes up c) refl
        where
          by_take : (t : Bool) → takes up c ≡ t → steps_left (suc c) ≤ steps_left c
          by_take true et = elim (taken_above c et) [
            | inl empty ↦ let less = one_beat_less c fit et (swallowed c empty) in omega (arith, less)
            | inr last ↦ absurd (no_both _ last.0 none)
          ]
          by_take false et =
              let next = place_still c et none in
              let room_next = place_few (suc c) (omega (arith, fit)) in
              elim (still_left c fit et (omega (arith, next))) [
                | inl less ↦ omega (arith, less, next)
                | inr over ↦ absurd (omega (arith, over, room_next))
              ]

      gaps : (c : ℕ) → c < end → IsTrue (is_last_joined (taken_at down c)) → IsFalse (shows down.commands.signals c) → IsTrue (good c) → steps_left (suc c) + 1 ≤ steps_left c
      gaps c fit opened quiet well = by_shown (shows up.commands.signals c) refl
        where
          down_still : IsFalse (takes down c)
          down_still = not_shown down c quiet

          by_shown : (s : Bool) → shows up.commands.signals c ≡ s → steps_left (suc c) + 1 ≤ steps_left c
          by_shown false es = elim (goes_on c (omega (arith, fit))) [
            | inr stands ↦ absurd (no_both _ stands.0 es)
            | inl none ↦
                let less = above.gaps c fit (joined_above c (omega (arith, fit)) none opened) es well in
                let next = place_still c (not_shown up c es) down_still in
                let least = above.some (suc c) fit in
                let off = one_off (rest (suc c)) many least in
                let fewer_all = more_of (rest (suc c)) (rest c - 1) many (omega (arith, less)) in
                omega (arith, next, none, off, fewer_all, some)
          ]
          by_shown true es =
              let opens_now = fine c fit well es in
              let past : nat_lt (state.place c) (length (parts c)) ≡ false = third _ _ _ es opens_now (sym (runs.shown c) ∙ quiet) in
              let most = ltb-false _ _ past in
              elim (goes_on c (omega (arith, fit))) [
                | inr stands ↦ let less = stands.1 in absurd (omega (arith, most, less))
                | inl none ↦
                    let empty : length (parts c) ≡ 0 = omega (arith, most, none) in
                    let zero_parts : nat_eq (length (parts c)) 0 ≡ true = grind (arith, tests, empty) in
                    let took : takes up c ≡ true = runs.accepts c ∙ all _ _ _ _ es opens_now zero_parts in
                    one_beat_less c fit took (swallowed c empty)
              ]
            where
              third : (a b d : Bool) → a ≡ true → IsTrue b → ((a && b) && d) ≡ false → d ≡ false
              third true true d x y z = z
              third true false d x y z = absurd (no_true y)
              third false b d x y z = absurd cc

              all : (a b z d : Bool) → a ≡ true → IsTrue b → z ≡ true → ((a && b) && (z || d)) ≡ true
              all true true true d x y z = refl
              all true true false d x y z = absurd cc
              all true false z d x y w = absurd (no_true y)
              all false b z d x y w = absurd cc

-- ---- how many pieces a beat has

joined_length : (tag more : ℕ) (beats : List Beat) → length (joined tag more beats) ≡ length beats
joined_length tag more [] = refl
joined_length tag more (beat ∷ []) = refl
joined_length tag more (beat ∷ next ∷ later) = ap suc (joined_length tag more (next ∷ later))

filter_few : (test : Beat → Bool) (xs : List Beat) → length (filter test xs) ≤ length xs
filter_few test [] = omega arith
filter_few test (x ∷ xs) = by_test (test x) (filter_few test xs)
  where
    by_test : (b : Bool) → length (filter test xs) ≤ length xs → length (if b then x ∷ filter test xs else filter test xs) ≤ suc (length xs)
    by_test true most = omega (arith, most)
    by_test false most = omega (arith, most)

map_length : (f : ℕ → Beat) (xs : List ℕ) → length (map f xs) ≡ length xs
map_length f [] = refl
map_length f (x ∷ xs) = ap suc (map_length f xs)

first_few : (narrow : Shape) (needed : Bool) (beat : Beat) (pieces : List Beat) (most : ℕ) → length pieces ≤ most → 1 ≤ most → length (or_first narrow needed beat pieces) ≤ most
first_few narrow true beat [] most few some = omega (arith, some)
first_few narrow false beat [] most few some = omega arith
first_few narrow needed beat (piece ∷ later) most few some = few

pub pieces_few : (wide narrow : Shape) (burst : Burst) (raw : Raw) (most : ℕ) → pieces wide narrow ≤ most → 1 ≤ most → length (split_parts wide narrow burst raw) ≤ most
pieces_few wide narrow burst raw most few some =
    let beat = beat_of wide raw.levels in
    let long = joined_length raw.tag raw.more (or_first narrow (not (is_raised raw.more) || not (is_raised raw.levels.write)) beat (touched wide narrow beat)) in
    let kept = filter_few is_touched (map (piece_of narrow.word_bytes beat) (numbers 0 (pieces wide narrow))) in
    let all = map_length (piece_of narrow.word_bytes beat) (numbers 0 (pieces wide narrow)) in
    let count = numbers_length 0 (pieces wide narrow) in
    let first = first_few narrow (not (is_raised raw.more) || not (is_raised raw.levels.write)) beat (touched wide narrow beat) most (omega (arith, kept, all, count, few)) some in
    omega (arith, long, first)
