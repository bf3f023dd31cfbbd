-- The parts that a cutter makes: a read goes as bursts of at most so many beats, and a write beat at its own place.
use Rattle.std.proofs.Common.{ℕ, zero, suc, ◌<◌, ◌≤◌, ◌≡◌, ◌+◌, ◌-◌, ◌*◌, ◌%◌, min, Bool, true, false, not, ◌&&◌, ◌||◌, List, [], ◌∷◌, ◌++◌, if◌then◌else◌, arith, refl, sym, ap, ap₂, subst, ◌∙◌, length, map, flat_map, nat_eq, nat_lt, IsTrue, append-nil, zero-mul, add-mul, le_refl, ltb-true, ltb-false, lt-ltb}
use Rattle.std.proofs.lemmas.Bool.{le-ltb, both_ways}
use Rattle.std.proofs.lemmas.List.{map-append, length-map}
use Rattle.std.proofs.Math.Nat.{add-mul-mod_self_right}
use Rattle.histories.specs.History.{is_raised, numbers}
use Rattle.memory_runs.specs.Views.{Shape, Levels, levels_at}
use Rattle.memory_runs.specs.Views.Kind.{Reads, Writes}
use Rattle.memory_runs.specs.Operations.{Beat, operation_at, filled_lanes}
use Rattle.memory_runs.specs.Commands.{Burst, Transfer, shows, is_of_reads, burst_before, byte_address, read_beat, write_transfer, read_transfer}
use Rattle.memory_machines.specs.Link.{Target, Port, Marked, AreLegalAt, takes, marked_at, closes, is_nonempty, beat_operations}
use Rattle.memory_machines.specs.Machines.{Raw, ShowsFitBeats, raw_at, idle, mark}
use Rattle.memory_links.specs.Selects.{takes_read}
use Rattle.memory_links.specs.Passes.{ShowsWrite}
use Rattle.memory_links.specs.Cutters.{Reach, CutterState, Rest, RunsAsCutter, IsCutPlan, is_sending, read_burst_of, behind_burst, whole_read}
use Rattle.memory_links.proofs.OneBeat.{aligned, beat_by}
use Rattle.memory_links.proofs.CutRuns.{beats_are, legal_fits, some_read}
use Rattle.memory_links.proofs.CutShown.{Within, within, below_address, address_is, spot, busy_above, ends_or_joined, sent_beat, written_at, first_beat, cut_legal, cut_hands_on}
use Rattle.memory_links.proofs.CutLists.{IsPartOf, AreParts, IsSent, beats_of}
use Rattle.memory_links.proofs.CutLink.{Cutting, cutter_shows_writes}

-- the bursts of a read from one of them on. `most` bounds their number
abbrev pub bursts_by : Reach → ℕ → ℕ → Rest → List Raw
bursts_by reach bytes zero rest = []
bursts_by reach bytes (suc most) rest = if nat_lt 0 rest.left then read_burst_of reach rest ∷ bursts_by reach bytes most (behind_burst reach bytes rest) else []

abbrev pub bursts_left : Reach → ℕ → Rest → List Raw
bursts_left reach bytes rest = bursts_by reach bytes rest.left rest

module _ (reach : Reach) (bytes : ℕ) (goes : (a : ℕ) → 0 < reach a) where
  abbrev next : Rest → Rest
  next rest = behind_burst reach bytes rest

  none_by : (most : ℕ) (rest : Rest) → rest.left ≡ 0 → bursts_by reach bytes most rest ≡ []
  none_by zero rest e = refl
  none_by (suc most) rest e = ap (λ n. if nat_lt 0 n then read_burst_of reach rest ∷ bursts_by reach bytes most (next rest) else []) e

  enough : (a b : ℕ) (rest : Rest) → rest.left ≤ a → rest.left ≤ b → bursts_by reach bytes a rest ≡ bursts_by reach bytes b rest
  enough zero b rest p q = sym (none_by b rest (omega (arith, p)))
  enough (suc a) zero rest p q = none_by (suc a) rest (omega (arith, q))
  enough (suc a) (suc b) rest p q =
      let shorter_a : (next rest).left ≤ a = (let some = goes rest.address in omega (arith, p, some)) in
      let shorter_b : (next rest).left ≤ b = (let some = goes rest.address in omega (arith, q, some)) in
      ap (λ l. if nat_lt 0 rest.left then read_burst_of reach rest ∷ l else []) (enough a b (next rest) shorter_a shorter_b)

  -- the first one, and those behind it
  pub left_step : (rest : Rest) → 0 < rest.left → bursts_left reach bytes rest ≡ read_burst_of reach rest ∷ bursts_left reach bytes (next rest)
  left_step rest h = by_left rest.left (le_refl rest.left) h
    where
      by_left : (n : ℕ) → rest.left ≤ n → 0 < n → bursts_by reach bytes n rest ≡ read_burst_of reach rest ∷ bursts_left reach bytes (next rest)
      by_left zero p q = absurd (omega (arith, q))
      by_left (suc n) p q =
          let shorter : (next rest).left ≤ n = (let some = goes rest.address in omega (arith, p, some)) in
          ap (λ b. if b then read_burst_of reach rest ∷ bursts_by reach bytes n (next rest) else []) (lt-ltb 0 rest.left h)
          ∙ ap (λ l. read_burst_of reach rest ∷ l) (enough n (next rest).left (next rest) shorter (le_refl (next rest).left))

-- ---- beats of a read

numbers_split : (k a b : ℕ) → numbers k (a + b) ≡ numbers k a ++ numbers (k + a) b
numbers_split k zero b = let whole : 0 + b ≡ b = omega arith in let start : k ≡ k + 0 = omega arith in ap (numbers k) whole ∙ ap (λ n. numbers n b) start
numbers_split k (suc a) b =
    let size : suc a + b ≡ suc (a + b) = omega arith in
    let start : suc k + a ≡ k + suc a = omega arith in
    ap (numbers k) size ∙ ap (λ l. k ∷ l) (numbers_split (suc k) a b ∙ ap (λ n. numbers (suc k) a ++ numbers n b) start)

mapped : {A B C : Type 0} (f : B → List C) (g : A → B) (xs : List A) → flat_map f (map g xs) ≡ flat_map (λ x. f (g x)) xs
mapped f g [] = refl
mapped f g (x ∷ xs) = ap (λ l. f (g x) ++ l) (mapped f g xs)

nonempty_by : {A B C : Type 0} (f : A → B → C) (l : List B) (x : A) (xs : List A) → is_nonempty (flat_map (λ a. map (f a) l) (x ∷ xs)) ≡ is_nonempty l
nonempty_by f (y ∷ l) x xs = refl
nonempty_by f [] x [] = refl
nonempty_by f [] x (z ∷ xs) = nonempty_by f [] z xs

-- a read of a beat at least has operations where its lanes have
read_acts : (target : Target) (shape : Shape) (beat : ℕ → Beat) (enables : ℕ) → ((k : ℕ) → (beat k).enables ≡ enables) → (k n : ℕ) → 0 < n →
    is_nonempty (flat_map (beat_operations target shape) (map beat (numbers k n))) ≡ is_nonempty (filled_lanes shape target.shape enables)
read_acts target shape beat enables same k zero h = absurd (omega (arith, h))
read_acts target shape beat enables same k (suc n) h =
    ap is_nonempty (mapped (beat_operations target shape) beat (numbers k (suc n)) ∙ ap (λ (f : ℕ → ℕ). flat_map (λ j. map (operation_at target.span (beat j)) (filled_lanes shape target.shape (f j))) (numbers k (suc n))) (λ i j. same j i))
    ∙ nonempty_by (λ j. operation_at target.span (beat j)) (filled_lanes shape target.shape enables) k (numbers (suc k) n)

module _ (target : Target) (reach : Reach) (longest : ℕ) (up down : Port) (state : CutterState) (plan : IsCutPlan reach longest up.shape down.shape) (run : RunsAsCutter reach longest up down state) (end : ℕ) (legal : AreLegalAt up end) where
  abbrev fit : ShowsFitBeats up end
  fit = legal_fits up end legal

  abbrev width : ℕ
  width = up.shape.word_bytes

  abbrev above : ℕ → Burst
  above c = burst_before up.shape up.commands.signals (takes up) c

  abbrev below : ℕ → Burst
  below c = burst_before down.shape down.commands.signals (takes down) c

  -- a read is marked alike whatever burst is under way
  abbrev pub low : Raw → Marked
  low raw = mark down.shape idle raw

  abbrev pub lows : Rest → List Marked
  lows rest = map low (bursts_left reach width rest)

  abbrev pub whole_at : ℕ → Rest
  whole_at c = whole_read up.shape (raw_at up c)

  abbrev pub written : ℕ → Marked
  written c = mark down.shape (below c) (written_at reach longest up down state plan run end fit c)

  abbrev pub parts : ℕ → List Marked
  parts c = if is_raised (up.commands.write c) then written c ∷ [] else lows (whole_at c)

  abbrev behind : ℕ → List Marked
  behind c = if is_raised (up.commands.write c) then [] else lows (behind_burst reach width (whole_at c))

  pub parts_when : (c : ℕ) (w : Bool) → is_raised (up.commands.write c) ≡ w → parts c ≡ (if w then written c ∷ [] else lows (whole_at c))
  parts_when c w e = ap (λ w. if w then written c ∷ [] else lows (whole_at c)) e

  shows_above : (c : ℕ) → is_sending state c ≡ false → shows down.commands.signals c ≡ shows up.commands.signals c
  shows_above c e = run.shown c ∙ ap (λ b. if b then true else shows up.commands.signals c) e

  -- ---- what is shown

  -- the beats of the next burst of a read
  abbrev size_of : Rest → ℕ
  size_of rest = (read_burst_of reach rest).levels.count

  some_of : (rest : Rest) → 0 < rest.left → 0 < size_of rest
  some_of rest some = (let size = beats_are (reach rest.address) rest.left some in let least = plan.goes rest.address in omega (arith, size, some, least))

  pub step_of : (rest : Rest) → 0 < rest.left → lows rest ≡ low (read_burst_of reach rest) ∷ lows (behind_burst reach width rest)
  step_of rest h = ap (map low) (left_step reach width plan.goes rest h)

  sends_some : (c : ℕ) → is_sending state c ≡ true → 0 < (state.rest c).left
  sends_some c e = ltb-true 0 (state.rest c).left e

  marked_sending : (c : ℕ) → c < end → is_sending state c ≡ true → marked_at down c ≡ low (read_burst_of reach (state.rest c))
  marked_sending c h e = ap (mark down.shape (below c)) (sent_beat reach longest up down state plan run end fit c h e (run.shown c ∙ ap (λ b. if b then true else shows up.commands.signals c) e))

  first_shown : (c : ℕ) → c < end → is_sending state c ≡ false → shows up.commands.signals c ≡ true → parts c ≡ marked_at down c ∷ behind c
  first_shown c h e shown = by_write (is_raised (up.commands.write c)) refl
    where
      there : shows down.commands.signals c ≡ true
      there = shows_above c e ∙ shown

      by_write : (w : Bool) → is_raised (up.commands.write c) ≡ w → (if is_raised (up.commands.write c) then written c ∷ [] else lows (whole_at c)) ≡ marked_at down c ∷ (if is_raised (up.commands.write c) then [] else lows (behind_burst reach width (whole_at c)))
      by_write true f =
          parts_when c true f ∙ ap (λ r. mark down.shape (below c) r ∷ []) (sym (first_beat reach longest up down state plan run end fit c h e there true f))
          ∙ ap (λ w. marked_at down c ∷ (if w then [] else lows (behind_burst reach width (whole_at c)))) (sym f)
      by_write false f =
          parts_when c false f ∙ step_of (whole_at c) (some_read up end fit c h shown f)
          ∙ ap (λ r. mark down.shape (below c) r ∷ lows (behind_burst reach width (whole_at c))) (sym (first_beat reach longest up down state plan run end fit c h e there false f))
          ∙ ap (λ w. marked_at down c ∷ (if w then [] else lows (behind_burst reach width (whole_at c)))) (sym f)

  -- ---- what is left

  none_left : (c : ℕ) → is_sending state c ≡ false → lows (state.rest c) ≡ []
  none_left c e = by_left (state.rest c).left refl
    where
      by_left : (n : ℕ) → (state.rest c).left ≡ n → lows (state.rest c) ≡ []
      by_left zero f = ap (map low) (none_by reach width plan.goes (state.rest c).left (state.rest c) f)
      by_left (suc n) f = absurd (both_ways (is_sending state c) e (lt-ltb 0 (state.rest c).left (omega (arith, f))))

  is_over : (c : ℕ) → lows (state.rest c) ≡ [] → is_sending state c ≡ false
  is_over c none = by_sends (is_sending state c) refl
    where
      by_sends : (b : Bool) → is_sending state c ≡ b → is_sending state c ≡ false
      by_sends false e = e
      by_sends true e = let step = step_of (state.rest c) (sends_some c e) in cc

  rest_goes : (c : ℕ) → is_sending state c ≡ true → lows (state.rest (suc c)) ≡ (if takes down c then lows (behind_burst reach width (state.rest c)) else lows (state.rest c))
  rest_goes c e =
      ap lows (run.rest_next c ∙ ap (λ b. if b then (if takes down c then behind_burst reach width (state.rest c) else state.rest c) else if takes_read up c then behind_burst reach width (whole_at c) else state.rest c) e)
      ∙ by_take (takes down c)
    where
      by_take : (d : Bool) → lows (if d then behind_burst reach width (state.rest c) else state.rest c) ≡ (if d then lows (behind_burst reach width (state.rest c)) else lows (state.rest c))
      by_take true = refl
      by_take false = refl

  rest_begins : (c : ℕ) → is_sending state c ≡ false → lows (state.rest (suc c)) ≡ (if takes up c then behind c else [])
  rest_begins c e =
      ap lows (run.rest_next c ∙ ap (λ b. if b then (if takes down c then behind_burst reach width (state.rest c) else state.rest c) else if takes_read up c then behind_burst reach width (whole_at c) else state.rest c) e)
      ∙ by_take (takes up c) (is_raised (up.commands.write c))
    where
      by_take : (t w : Bool) → lows (if t && not w then behind_burst reach width (whole_at c) else state.rest c) ≡ (if t then (if w then [] else lows (behind_burst reach width (whole_at c))) else [])
      by_take true true = none_left c e
      by_take true false = refl
      by_take false w = none_left c e

  -- ---- each transfer, as its parts

  pub transfer_when : (c : ℕ) (w : Bool) → is_raised (up.commands.write c) ≡ w → (marked_at up c).transfer ≡ (if w then write_transfer up.shape (levels_at up.commands.signals c) (above c) else read_transfer up.shape (levels_at up.commands.signals c))
  transfer_when c w e = ap (λ b. if b then write_transfer up.shape (levels_at up.commands.signals c) (above c) else read_transfer up.shape (levels_at up.commands.signals c)) e

  abbrev marked_as : ℕ → Transfer → Marked
  marked_as c transfer = record { tag = up.commands.tag c; more = is_raised (up.commands.more c); transfer = transfer }

  -- the beats of a burst of a read are beats of the read
  same_beats : (c address enables k j n : ℕ) → address ≡ byte_address up.shape (up.commands.address c) + k * width → (levels : Levels) → levels.address ≡ address → levels.enables ≡ up.commands.enables c →
      map (read_beat down.shape levels) (numbers j n) ≡ map (read_beat up.shape (levels_at up.commands.signals c)) (numbers (k + j) n)
  same_beats c address enables k j zero is levels at lanes = refl
  same_beats c address enables k j (suc n) is levels at lanes =
      let next : k + suc j ≡ suc (k + j) = omega arith in
      ap₂ (λ b l. b ∷ l) one (same_beats c address enables k (suc j) n is levels at lanes ∙ ap (λ m. map (read_beat up.shape (levels_at up.commands.signals c)) (numbers m n)) next)
    where
      place : byte_address down.shape address ≡ address
      place = below_address reach longest up down state plan run end fit address (ap (λ n. n % width) is ∙ add-mul-mod_self_right (byte_address up.shape (up.commands.address c)) k width ∙ aligned (up.commands.address c * up.shape.unit_bytes) width)

      one : read_beat down.shape levels j ≡ read_beat up.shape (levels_at up.commands.signals c) (k + j)
      one =
          let sum = add-mul k j width in
          ap₂ (λ a e. beat_by Reads a 0 e)
          (ap₂ (λ a w. byte_address down.shape a + j * w) at plan.same ∙ ap (λ a. a + j * width) (place ∙ is) ∙ (omega (arith, sum))) lanes

  module _ (c : ℕ) (h : c < end) (shown : shows up.commands.signals c ≡ true) where
    abbrev read_mark : Marked
    read_mark = marked_as c (read_transfer up.shape (levels_at up.commands.signals c))

    abbrev beat_above : ℕ → Beat
    beat_above k = read_beat up.shape (levels_at up.commands.signals c) k

    part_at : 0 < up.commands.count c → (rest : Rest) (k : ℕ) → rest.command ≡ raw_at up c → rest.address ≡ byte_address up.shape (up.commands.address c) + k * width → 0 < rest.left → IsPartOf target up.shape read_mark (low (read_burst_of reach rest))
    part_at counts rest k command is some = record {
      tag = ap (λ (r : Raw). r.tag) command;
      kind = refl;
      some =
          let size = length-map (numbers 0 (size_of rest)) (read_beat down.shape (read_burst_of reach rest).levels) in
          let many = length_numbers 0 (size_of rest) in
          let least = some_of rest some in
          omega (arith, size, many, least);
      closes_so = refl;
      acts = read_acts target up.shape (read_beat down.shape (read_burst_of reach rest).levels) (up.commands.enables c) (λ j. ap (λ (r : Raw). r.levels.enables) command) 0 (size_of rest) (some_of rest some)
          ∙ sym (read_acts target up.shape beat_above (up.commands.enables c) (λ j. refl) 0 (up.commands.count c) counts);
    }
      where
        length_numbers : (j n : ℕ) → length (numbers j n) ≡ n
        length_numbers j zero = refl
        length_numbers j (suc n) = ap suc (length_numbers (suc j) n)

    -- the bursts of a read from one of its beats on
    record Goes (k : ℕ) (rest : Rest) (ps : List Marked) : Type 0 where
      pub are : AreParts target up.shape read_mark ps
      pub beats : beats_of ps ≡ map beat_above (numbers k rest.left)

    bursts_go : 0 < up.commands.count c → (most : ℕ) (rest : Rest) (k : ℕ) → rest.command ≡ raw_at up c → rest.address ≡ byte_address up.shape (up.commands.address c) + k * width → rest.left ≤ most → 0 < rest.left → Goes k rest (lows rest)
    bursts_go counts zero rest k command is low_most some = absurd (omega (arith, low_most, some))
    bursts_go counts (suc most) rest k command is low_most some = by_last (bursts_go counts most (behind_burst reach width rest) (k + (reach rest.address)) command) (nat_lt 0 (behind_burst reach width rest).left) refl
      where
        part : IsPartOf target up.shape read_mark (low (read_burst_of reach rest))
        part = part_at counts rest k command is some

        list : lows rest ≡ low (read_burst_of reach rest) ∷ lows (behind_burst reach width rest)
        list = step_of rest some

        here : (low (read_burst_of reach rest)).transfer.beats ≡ map beat_above (numbers k (min (reach rest.address) rest.left))
        here =
            let start : k + 0 ≡ k = omega arith in
            same_beats c rest.address 0 k 0 (size_of rest) is (read_burst_of reach rest).levels refl (ap (λ (r : Raw). r.levels.enables) command)
            ∙ ap₂ (λ n m. map beat_above (numbers n m)) start (beats_are (reach rest.address) rest.left some)

        by_last : (rest.address + (reach rest.address) * width ≡ byte_address up.shape (up.commands.address c) + (k + (reach rest.address)) * width → rest.left - (reach rest.address) ≤ most → 0 < rest.left - (reach rest.address) →
            Goes (k + (reach rest.address)) (behind_burst reach width rest) (lows (behind_burst reach width rest))) → (b : Bool) → nat_lt 0 (behind_burst reach width rest).left ≡ b → Goes k rest (lows rest)
        by_last go false e =
            let none : (behind_burst reach width rest).left ≡ 0 = (let most = ltb-false 0 (behind_burst reach width rest).left e in omega (arith, most)) in
            let all : lows rest ≡ low (read_burst_of reach rest) ∷ [] = list ∙ ap (λ l. low (read_burst_of reach rest) ∷ map low l) (none_by reach width plan.goes (behind_burst reach width rest).left (behind_burst reach width rest) none) in
            let size : min (reach rest.address) rest.left ≡ rest.left = omega (arith, none) in
            let last : nat_lt (reach rest.address) rest.left ≡ false = le-ltb (reach rest.address) rest.left (omega (arith, none)) in
            subst (Goes k rest) (sym all) (record {
              are = (part, ap (λ b. is_raised (if b then 1 else rest.command.more)) last ∙ ap (λ (r : Raw). is_raised r.more) command);
              beats = append-nil _ ∙ here ∙ ap (λ n. map beat_above (numbers k n)) size;
            })
        by_last go true e =
            let more = ltb-true 0 (behind_burst reach width rest).left e in
            let least = plan.goes rest.address in
            let longer : reach rest.address < rest.left = omega (arith, more) in
            let size : min (reach rest.address) rest.left ≡ (reach rest.address) = omega (arith, longer) in
            let sum = add-mul k (reach rest.address) width in
            let later = go (omega (arith, is, sum)) (omega (arith, low_most, least)) more in
            let next = step_of (behind_burst reach width rest) more in
            let whole : (reach rest.address) + (rest.left - (reach rest.address)) ≡ rest.left = omega (arith, longer) in
            subst (Goes k rest) (sym list) (record {
              are = subst (λ l. AreParts target up.shape read_mark (low (read_burst_of reach rest) ∷ l)) (sym next)
                  (part, ap (λ b. is_raised (if b then 1 else rest.command.more)) (lt-ltb (reach rest.address) rest.left longer), subst (AreParts target up.shape read_mark) next later.are);
              beats = ap₂ (λ x y. x ++ y) (here ∙ ap (λ n. map beat_above (numbers k n)) size) later.beats
                  ∙ sym (map-append beat_above (numbers k (reach rest.address)) (numbers (k + (reach rest.address)) (rest.left - (reach rest.address)))) ∙ ap (map beat_above) (sym (numbers_split k (reach rest.address) (rest.left - (reach rest.address))) ∙ ap (numbers k) whole);
            })

    -- a write beat is the same below
    written_beats : (written c).transfer.beats ≡ (write_transfer up.shape (levels_at up.commands.signals c) (above c)).beats
    written_beats =
        ap (λ a. beat_by Writes a (up.commands.word c) (up.commands.enables c) ∷ []) (by_begins (nat_eq (below c).left 0) refl)
      where
        now : Within reach longest up down state plan run end fit c
        now = within reach longest up down state plan run end fit c (omega (arith, h))

        -- at the place of the burst above
        upper : (z : Bool) → nat_eq (above c).left 0 ≡ z → (if z then byte_address up.shape (up.commands.address c) else spot reach longest up down state plan run end fit (above c))
            ≡ (if nat_eq (above c).left 0 then byte_address up.shape (up.commands.address c) else (above c).first) + (if nat_eq (above c).left 0 then 0 else (above c).done) * width
        upper true e =
            let none = zero-mul width in
            (omega (arith, none)) ∙ ap (λ z. (if z then byte_address up.shape (up.commands.address c) else (above c).first) + (if z then 0 else (above c).done) * width) (sym e)
        upper false e = ap (λ z. (if z then byte_address up.shape (up.commands.address c) else (above c).first) + (if z then 0 else (above c).done) * width) (sym e)

        by_begins : (b : Bool) → nat_eq (below c).left 0 ≡ b →
            (if nat_eq (below c).left 0 then byte_address down.shape (if nat_eq (above c).left 0 then byte_address up.shape (up.commands.address c) else (above c).first + (above c).done * width) else (below c).first)
            + (if nat_eq (below c).left 0 then 0 else (below c).done) * down.shape.word_bytes
            ≡ (if nat_eq (above c).left 0 then byte_address up.shape (up.commands.address c) else (above c).first) + (if nat_eq (above c).left 0 then 0 else (above c).done) * width
        by_begins true e =
            let none = zero-mul down.shape.word_bytes in
            let address = address_is reach longest up down state plan run end fit c in
            ap (λ z. (if z then byte_address down.shape (if nat_eq (above c).left 0 then byte_address up.shape (up.commands.address c) else (above c).first + (above c).done * width) else (below c).first) + (if z then 0 else (below c).done) * down.shape.word_bytes) e
            ∙ (omega (arith, none, address)) ∙ upper (nat_eq (above c).left 0) refl
        by_begins false e =
            ap (λ z. (if z then byte_address down.shape (if nat_eq (above c).left 0 then byte_address up.shape (up.commands.address c) else (above c).first + (above c).done * width) else (below c).first) + (if z then 0 else (below c).done) * down.shape.word_bytes) e
            ∙ ap (λ n. (below c).first + (below c).done * n) plan.same ∙ now.place e ∙ upper false (busy_above reach longest up down state plan run end fit c now e)

    pub sent_at : IsSent target up.shape (record { above = marked_at up c; parts = parts c })
    sent_at = record {
      parts = by_write (is_raised (up.commands.write c)) refl;
      beats = beats_by (is_raised (up.commands.write c)) refl;
      closes_so = ends_so (marked_at up c).transfer.ends (is_raised (up.commands.more c)) (legal.joined c h shown);
    }
      where
        ends_so : (e m : Bool) → IsTrue (e || m) → e && not m ≡ not m
        ends_so true m h = refl
        ends_so false true h = refl
        ends_so false false h = cc

        go : is_raised (up.commands.write c) ≡ false → Goes 0 (whole_at c) (lows (whole_at c))
        go e =
            let none = zero-mul width in
            let some = some_read up end fit c h shown e in
            bursts_go some (up.commands.count c) (whole_at c) 0 refl (omega (arith, none)) (le_refl (up.commands.count c)) some

        by_write : (w : Bool) → is_raised (up.commands.write c) ≡ w → AreParts target up.shape (marked_at up c) (parts c)
        by_write true e =
            subst (AreParts target up.shape (marked_at up c)) (sym (parts_when c true e))
            (subst (λ (t : Transfer). AreParts target up.shape (marked_as c t) (written c ∷ [])) (sym (transfer_when c true e)) (
              record {
                tag = refl;
                kind = refl;
                some = omega arith;
                closes_so = closed;
                acts = ap (λ l. is_nonempty (flat_map (beat_operations target up.shape) l)) written_beats;
              },
              refl,
            ))
          where
            closed : closes (written c) ≡ not (is_raised (up.commands.more c))
            closed = ends_so (written c).transfer.ends (is_raised (up.commands.more c)) (ends_or_joined reach longest up down state plan run end fit c h shown e)
        by_write false e =
            subst (AreParts target up.shape (marked_at up c)) (sym (parts_when c false e))
            (subst (λ (t : Transfer). AreParts target up.shape (marked_as c t) (lows (whole_at c))) (sym (transfer_when c false e)) (go e).are)

        beats_by : (w : Bool) → is_raised (up.commands.write c) ≡ w → beats_of (parts c) ≡ (marked_at up c).transfer.beats
        beats_by true e = ap beats_of (parts_when c true e) ∙ append-nil _ ∙ written_beats ∙ ap (λ (t : Transfer). t.beats) (sym (transfer_when c true e))
        beats_by false e = ap beats_of (parts_when c false e) ∙ (go e).beats ∙ ap (λ (t : Transfer). t.beats) (sym (transfer_when c false e))

  -- ---- the whole

  asked : (c : ℕ) → c < end → is_sending state c ≡ true → (is_of_reads (marked_at down c).transfer.kind ≡ true) × (0 < length (marked_at down c).transfer.beats)
  asked c h e =
      subst (λ (m : Marked). (is_of_reads m.transfer.kind ≡ true) × (0 < length m.transfer.beats)) (sym (marked_sending c h e))
      (refl, some_beats (size_of (state.rest c)) (some_of (state.rest c) (sends_some c e)))
    where
      some_beats : (n : ℕ) → 0 < n → 0 < length (map (read_beat down.shape (read_burst_of reach (state.rest c)).levels) (numbers 0 n))
      some_beats zero k = absurd (omega (arith, k))
      some_beats (suc n) k = omega arith

  begins_below : (c : ℕ) → c < end → is_sending state c ≡ false → shows up.commands.signals c ≡ true → (marked_at up c).transfer.begins ≡ true → (marked_at down c).transfer.begins ≡ true
  begins_below c h e shown begins = by_write (is_raised (up.commands.write c)) refl
    where
      there : shows down.commands.signals c ≡ true
      there = shows_above c e ∙ shown

      shown_as : (w : Bool) → is_raised (up.commands.write c) ≡ w → marked_at down c ≡ mark down.shape (below c) (if w then written_at reach longest up down state plan run end fit c else read_burst_of reach (whole_at c))
      shown_as w f = ap (mark down.shape (below c)) (first_beat reach longest up down state plan run end fit c h e there w f)

      by_write : (w : Bool) → is_raised (up.commands.write c) ≡ w → (marked_at down c).transfer.begins ≡ true
      by_write false f = ap (λ (m : Marked). m.transfer.begins) (shown_as false f)
      by_write true f = ap (λ (m : Marked). m.transfer.begins) (shown_as true f) ∙ free (nat_eq (below c).left 0) refl
        where
          free_above : nat_eq (above c).left 0 ≡ true
          free_above = sym (ap (λ (t : Transfer). t.begins) (transfer_when c true f)) ∙ begins

          free : (b : Bool) → nat_eq (below c).left 0 ≡ b → nat_eq (below c).left 0 ≡ true
          free true g = g
          free false g = absurd (both_ways (nat_eq (above c).left 0) (busy_above reach longest up down state plan run end fit c (within reach longest up down state plan run end fit c (omega (arith, h))) g) free_above)

  pub cutting : Cutting target up down end
  cutting = record {
    legal = legal;
    legal_below = cut_legal reach longest up down state plan run end fit legal;
    hands_on = cut_hands_on reach longest up down state plan run end fit;
    some = plan.some;
    same = plan.same;
    sends = is_sending state;
    left = λ c. lows (state.rest c);
    parts = parts;
    later = λ c. lows (behind_burst reach width (state.rest c));
    behind = behind;
    shown = run.shown;
    accepts = run.accepts;
    begins = none_left 0 (ap (nat_lt 0) run.rest_begins);
    none = none_left;
    over = is_over;
    sending = λ c h e. step_of (state.rest c) (sends_some c e) ∙ ap (λ m. m ∷ lows (behind_burst reach width (state.rest c))) (sym (marked_sending c h e));
    goes = rest_goes;
    first = first_shown;
    accepted = rest_begins;
    is_sent = sent_at;
    asks = asked;
    alone = begins_below;
    valid = run.valid;
    word = run.word;
    code = run.code;
  }

-- its parts
pub parts_same : (target : Target) (reach : Reach) (longest : ℕ) (up down : Port) (state : CutterState) (plan : IsCutPlan reach longest up.shape down.shape) (run : RunsAsCutter reach longest up down state) (end : ℕ) (legal : AreLegalAt up end) →
    (c : ℕ) → (cutting target reach longest up down state plan run end legal).parts c ≡ parts target reach longest up down state plan run end legal c
unfolding cutting
parts_same target reach longest up down state plan run end legal c = refl

-- while it sends no read by itself, a write beat that ends its command is shown below
pub cut_shows_writes : (target : Target) (reach : Reach) (longest : ℕ) (up down : Port) (state : CutterState) → IsCutPlan reach longest up.shape down.shape → RunsAsCutter reach longest up down state → (end : ℕ) → AreLegalAt up end → (c : ℕ) → c < end → is_sending state c ≡ false → ShowsWrite up down c
unfolding cutting
cut_shows_writes target reach longest up down state plan run end legal = cutter_shows_writes target up down end (cutting target reach longest up down state plan run end legal)
