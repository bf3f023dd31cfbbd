-- The nets of a splitter are its machine.
use Rattle.std.proofs.Common.{ℕ, zero, suc, ◌<◌, ◌≤◌, ◌≡◌, ◌+◌, ◌-◌, ◌*◌, ◌/◌, ◌%◌, ◌^◌, min, Bool, true, false, not, ◌&&◌, ◌||◌, length, drop, slice_get, Some, if◌then◌else◌, ◌==◌, nat_eq, nat_lt, arith, refl, sym, ap, ap₂, subst, ◌∙◌, mul-div_cancel}
use Rattle.std.proofs.lemmas.Bool.{eqb-false, ltb-true, ltb-false}
use Rattle.std.proofs.Math.Nat.{min-eq_right, mul-le-mul_right, mod-eq_of_lt}
use Rattle.histories.specs.History.{is_raised, one_if}
use Rattle.netlist.specs.Nets.{NetValue}
use Rattle.netlist.specs.Netlists.{Netlist}
use Rattle.netlist.specs.Runs.{Run, cycle_of, IsEndlessRun, IsValuation}
use Rattle.net_parts.specs.Laws.{width_fits}
use Rattle.net_parts.specs.Groups.{values_of, all_low}
use Rattle.memory_runs.specs.Operations.{pieces}
use Rattle.memory_runs.specs.Commands.{shows, burst_before}
use Rattle.memory_machines.specs.Link.{Port, takes}
use Rattle.memory_machines.specs.Machines.{Raw, raw_at}
use Rattle.command_nets.specs.declared.nets.AnswerNets.{AnswerNets}
use Rattle.command_nets.specs.Nets.{raw_in, port_in}
use Rattle.command_nets.specs.Groups.{is_shown, first_value}
use Rattle.link_core.specs.Form.{Form}
use Rattle.mm_split.specs.declared.split.Split.{Split}
use Rattle.mm_split.specs.declared.split.SplitKept.{SplitKept}
use Rattle.mm_split.specs.Pieces.{lane, has_lane, is_marked, count_of, stands_at, fill, those}
use Rattle.mm_split.specs.Parts.{shows_part, stands_whole, count_in, IsAbove, IsBeatBelow, number_of, here_of, touched_of}
use Rattle.memory_links.specs.Splits.{SplitState, RunsAsSplit, opens, completes, piece_at, IsPut, AddsTo, split_at, asked_at, are_same}
use Rattle.mm_split.specs.SplitNets.{IsSplitForm, SplitCommand, SplitAnswer}
use Rattle.mm_split.specs.Registers.{group_of, low_group_of}
use Rattle.mm_split.specs.Comings.{NextAre, TellsComing}
use Rattle.memory_links.specs.Selects.{takes_read}
use Rattle.mm_split.proofs.Masks.{those_or_first, same_by_masks, those_count}
use Rattle.mm_split.proofs.Marks.{count_most, none_below}
use Rattle.mm_split.proofs.Same.{or_first_fits, filled_by, own_piece, kept_piece, low_put}
use Rattle.mm_split.proofs.Places.{lies, put_there}
use Rattle.mm_split.proofs.Fills.{filled_lane, whole_lane, last_lane, fill_none}
use Rattle.mm_split.proofs.Beat.{asked_is, parts_count, part_at, beat_is}

-- so many narrow words make a wide one
pieces_of : (wide narrow count : ℕ) → count * narrow ≡ wide → 1 ≤ narrow → 1 ≤ count → wide / min wide narrow ≡ count
pieces_of wide narrow count whole some one = ap (λ n. wide / n) least ∙ ap (λ n. n / narrow) (sym whole) ∙ mul-div_cancel count some
  where
    least : min wide narrow ≡ narrow
    least = min-eq_right (let more : 1 * narrow ≤ count * narrow = mul-le-mul_right narrow one in omega (arith, more, whole))

-- ---- bits

either_shown : (s w : Bool) (read write : ℕ) → read ≡ one_if (s && not w) → write ≡ one_if (s && w) → (is_raised read || is_raised write) ≡ s
either_shown true true read write r e = ap₂ (λ x y. is_raised x || is_raised y) r e
either_shown true false read write r e = ap₂ (λ x y. is_raised x || is_raised y) r e
either_shown false w read write r e = ap₂ (λ x y. is_raised x || is_raised y) r e

accepts_as : (s o x up : Bool) → up ≡ not (o && x) → (s && not up) ≡ ((s && o) && x)
accepts_as true true true up e = ap not e
accepts_as true true false up e = ap not e
accepts_as true false x up e = ap not e
accepts_as false o x up e = refl

as_done : (s d up t : Bool) → up ≡ not d → t ≡ (s && d) → (s && not up) ≡ t
as_done true true up t e h = ap not e ∙ sym h
as_done true false up t e h = ap not e ∙ sym h
as_done false d up t e h = sym h

few_in : (needed : Bool) (touched pieces : ℕ) → 1 ≤ pieces → touched ≤ pieces → (if touched == 0 then one_if needed else touched) ≤ pieces
few_in needed touched pieces some few = by_none (touched == 0) needed
  where
    by_none : (t n : Bool) → (if t then one_if n else touched) ≤ pieces
    by_none true true = some
    by_none true false = omega arith
    by_none false n = few

and_left : (a b : Bool) → (a && b) ≡ true → a ≡ true
and_left true b e = refl
and_left false b e = cc

and_right : (a b : Bool) → (a && b) ≡ true → b ≡ true
and_right true b e = e
and_right false b e = cc

last_low : (s o n l t : Bool) → t ≡ ((s && o) && (n || (true && l))) → (s && o) ≡ true → t ≡ false → l ≡ false
last_low true true true true t e h low = cc
last_low true true false true t e h low = cc
last_low s o n false t e h low = refl
last_low false o n true t e h low = cc
last_low true false n true t e h low = cc

stepped : (t s : Bool) (place limit : ℕ) → (t ≡ false → s ≡ true → suc place < limit) → (if t then 0 else if s then (place + 1) % limit else place) ≡ (if t then 0 else if s then suc place else place)
stepped true s place limit h = refl
stepped false true place limit h = let less = h refl refl in mod-eq_of_lt {n = place + 1} {m = limit} (omega (arith, less)) ∙ omega arith
stepped false false place limit h = refl

counted_on : (v t : Bool) (come limit : ℕ) → (t ≡ false → suc come < limit) → (if v && t then 0 else if v then (come + 1) % limit else come) ≡ (if v then (if t then 0 else suc come) else come)
counted_on true true come limit h = refl
counted_on true false come limit h = let less = h refl in mod-eq_of_lt {n = come + 1} {m = limit} (omega (arith, less)) ∙ omega arith
counted_on false t come limit h = refl

turned_low : (t : Bool) → not t ≡ true → t ≡ false
turned_low true e = cc
turned_low false e = refl

counted_few : (t : Bool) (reads room : ℕ) → reads ≤ room → (t ≡ true → reads < room) → reads + one_if t ≤ room
counted_few true reads room few h = let less = h refl in omega (arith, less)
counted_few false reads room few h = omega (arith, few)

module _ (split : Split) (form : Form) (kept : SplitKept) (wait up : NetValue) (answer back : AnswerNets) (netlist : Netlist) (p : IsSplitForm split form) (f : SplitCommand split kept.from kept.part.below kept netlist) (b : SplitAnswer split kept wait answer up back netlist) (run : Run) (endless : IsEndlessRun netlist run) where
  valued : (c : ℕ) → IsValuation netlist (cycle_of run c)
  valued c = (endless (c + 1)).valuations c (omega arith)

  abbrev above : Port
  above = port_in form.up run kept.from up back

  abbrev below : Port
  below = port_in form.down run kept.part.below wait answer

  abbrev pub state : SplitState
  state = record {
    place = λ c. run.net c kept.registers.place.number;
    set = λ c. those (is_marked (run.net c kept.registers.set.number)) kept.sizes.pieces;
    reads = λ c. run.net c kept.registers.reads.number;
    come = λ c. run.net c kept.registers.come.number;
    gathered = λ c. record { word = run.net c kept.registers.word.number; code = run.net c kept.registers.code.number };
  }

  abbrev raw : ℕ → Raw
  raw c = raw_in (cycle_of run c) kept.from

  narrow_is : form.down.word_bytes ≡ kept.sizes.narrow_bytes
  narrow_is = p.narrow ∙ sym f.sizes.narrow

  wide_is : form.up.word_bytes ≡ 2 ^ kept.sizes.wide_bits
  wide_is = p.wide ∙ sym f.sizes.wide

  pieces_is : pieces form.up form.down ≡ kept.sizes.pieces
  pieces_is =
      let whole = f.sizes.are.whole in
      let many = f.sizes.are.many in
      ap₂ (λ w n. w / min w n) wide_is narrow_is ∙ pieces_of (2 ^ kept.sizes.wide_bits) kept.sizes.narrow_bytes kept.sizes.pieces whole f.sizes.are.some_bytes (omega (arith, many))

  told : (c : ℕ) → IsAbove kept.sizes (raw c) (run.net c kept.registers.place.number) (run.net c kept.registers.reads.number) (run.net c kept.registers.set.number)
      (run.net c kept.part.asked.number) (run.net c kept.part.opens.number) (run.net c kept.part.above.shows.number) (run.net c kept.part.above.last.number) (run.net c kept.part.above.none.number)
  told c = (f.parts (cycle_of run c) (valued c)).told

  beat : (c : ℕ) → IsBeatBelow kept.sizes (raw c) (number_of kept.sizes (here_of kept.sizes (touched_of kept.sizes (raw c)) (run.net c kept.registers.place.number))) (run.net c kept.part.above.shows.number) (run.net c kept.part.above.last.number) (raw_in (cycle_of run c) kept.part.below)
  beat c = (f.parts (cycle_of run c) (valued c)).beat

  some_pieces : 1 ≤ kept.sizes.pieces
  some_pieces = let many = f.sizes.are.many in omega (arith, many)

  -- the pieces that are asked are those of the mask
  asked_list : (c : ℕ) → those (is_marked (run.net c kept.part.asked.number)) kept.sizes.pieces ≡ asked_at above below c
  asked_list c =
      let test = has_lane kept.sizes.narrow_bytes (raw c).levels.enables in
      ap (λ m. those (is_marked m) kept.sizes.pieces) (told c).asked_is ∙ those_or_first test kept.sizes.pieces some_pieces ∙ sym (asked_is form.up form.down kept.sizes narrow_is pieces_is (raw c))

  set_fits : (c : ℕ) → run.net c kept.registers.set.number < 2 ^ kept.sizes.pieces
  set_fits c = width_fits netlist kept.registers.set kept.sizes.pieces f.nets.set (cycle_of run c) (valued c)

  asked_fits : (c : ℕ) → run.net c kept.part.asked.number < 2 ^ kept.sizes.pieces
  asked_fits c = subst (λ n. n < 2 ^ kept.sizes.pieces) (sym (told c).asked_is) (or_first_fits (has_lane kept.sizes.narrow_bytes (raw c).levels.enables) kept.sizes.pieces some_pieces)

  opens_is : (c : ℕ) → opens split.reads above below state c ≡ is_raised (run.net c kept.part.opens.number)
  opens_is c =
      let set = run.net c kept.registers.set.number in
      let asked = run.net c kept.part.asked.number in
      let same : are_same (those (is_marked set) kept.sizes.pieces) (asked_at above below c) ≡ nat_eq set asked =
      ap (are_same (those (is_marked set) kept.sizes.pieces)) (sym (asked_list c)) ∙ same_by_masks set asked kept.sizes.pieces (set_fits c) (asked_fits c) in
      ap₂ (λ room t. is_raised (raw c).levels.write || (nat_lt (run.net c kept.registers.reads.number) room && (nat_lt 0 (run.net c kept.registers.place.number) || (nat_eq (run.net c kept.registers.reads.number) 0 || t)))) (sym f.sizes.room) same
      ∙ sym (told c).opens_is

  count_is : (c : ℕ) → length (split_at above below c) ≡ count_in kept.sizes (raw c)
  count_is c = parts_count form.up form.down kept.sizes narrow_is pieces_is (burst_before form.up above.commands.signals (takes above) c) (raw c)

  shows_below : (c : ℕ) → shows below.commands.signals c ≡ is_raised (run.net c kept.part.above.shows.number)
  shows_below c = either_shown (is_raised (run.net c kept.part.above.shows.number)) (is_raised (raw c).levels.write) _ _ (beat c).read (beat c).write

  pub shown : (c : ℕ) → shows below.commands.signals c ≡ (shows above.commands.signals c && opens split.reads above below state c) && nat_lt (run.net c kept.registers.place.number) (length (split_at above below c))
  shown c = shows_below c ∙ (told c).shows_is ∙ ap₂ (λ o n. (is_shown (raw c) && o) && nat_lt (run.net c kept.registers.place.number) n) (sym (opens_is c)) (sym (count_is c))

  pub part : (c : ℕ) → shows below.commands.signals c ≡ true → slice_get (split_at above below c) (run.net c kept.registers.place.number) ≡ Some (raw_at below c)
  part c h =
      let raised : is_raised (run.net c kept.part.above.shows.number) ≡ true = sym (shows_below c) ∙ h in
      let all : shows_part (raw c) (is_raised (run.net c kept.part.opens.number)) (run.net c kept.registers.place.number) (count_in kept.sizes (raw c)) ≡ true = sym (told c).shows_is ∙ raised in
      let inside : run.net c kept.registers.place.number < count_in kept.sizes (raw c) = ltb-true (run.net c kept.registers.place.number) (count_in kept.sizes (raw c)) (and_right (is_shown (raw c) && is_raised (run.net c kept.part.opens.number)) _ all) in
      part_at form.up form.down kept.sizes narrow_is pieces_is (burst_before form.up above.commands.signals (takes above) c) (raw c) (run.net c kept.registers.place.number) inside
      ∙ ap Some (beat_is form.up kept.sizes (raw c) (raw_in (cycle_of run c) kept.part.below) (number_of kept.sizes (here_of kept.sizes (touched_of kept.sizes (raw c)) (run.net c kept.registers.place.number))) (run.net c kept.part.above.shows.number) (run.net c kept.part.above.last.number) form.down.word_bytes
      (if nat_eq (suc (run.net c kept.registers.place.number)) (count_in kept.sizes (raw c)) then (raw c).more else 1) p.bytes wide_is narrow_is raised (ap (λ t. if t then (raw c).more else 1) (told c).last_is) (beat c))

  taken_below : (c : ℕ) → takes below c ≡ is_raised (run.net c b.taken.below.number)
  taken_below c = sym (b.below (cycle_of run c) (valued c))

  accepted : (c : ℕ) → takes above c ≡ (is_shown (raw c) && is_raised (run.net c kept.part.opens.number)) && (is_raised (run.net c kept.part.above.none.number) || (is_raised (run.net c b.taken.below.number) && is_raised (run.net c kept.part.above.last.number)))
  accepted c = accepts_as (is_shown (raw c)) (is_raised (run.net c kept.part.opens.number)) (is_raised (run.net c kept.part.above.none.number) || (is_raised (run.net c b.taken.below.number) && is_raised (run.net c kept.part.above.last.number))) (is_raised (run.net c up.number)) (b.waits (cycle_of run c) (valued c))

  pub accepts : (c : ℕ) → takes above c ≡ (shows above.commands.signals c && opens split.reads above below state c)
      && (nat_eq (length (split_at above below c)) 0 || (takes below c && nat_eq (suc (run.net c kept.registers.place.number)) (length (split_at above below c))))
  accepts c =
      accepted c
      ∙ ap₂ (λ o x. (is_shown (raw c) && o) && x) (sym (opens_is c))
      (ap₂ (λ n x. n || x) ((told c).none_is ∙ ap (λ n. nat_eq n 0) (sym (count_is c))) (ap₂ (λ t l. t && l) (sym (taken_below c)) ((told c).last_is ∙ ap (nat_eq (suc (run.net c kept.registers.place.number))) (sym (count_is c)))))

  -- ---- the registers

  next_of : (c : ℕ) → c + 1 ≡ suc c
  next_of c = omega arith

  step : (c : ℕ) → values_of (cycle_of run (suc c)) (group_of kept.registers) ≡ values_of (cycle_of run c) (group_of b.next)
  step c = sym (ap (λ k. values_of (cycle_of run k) (group_of kept.registers)) (next_of c)) ∙ b.moves run (c + 2) (endless (c + 2)) c (omega arith)

  starts : values_of (cycle_of run 0) (low_group_of kept.registers) ≡ all_low (low_group_of kept.registers)
  starts = f.starts run 1 (endless 1) (omega arith)

  nexts : (c : ℕ) → NextAre kept.sizes kept.registers kept.from kept.part b.taken b.coming answer.valid back.valid b.next (cycle_of run c)
  nexts c = b.nexts (cycle_of run c) (valued c)

  tells : (c : ℕ) → TellsComing kept.sizes kept.registers answer b.coming (cycle_of run c)
  tells c = b.tells (cycle_of run c) (valued c)

  taken_above : (c : ℕ) → takes above c ≡ is_raised (run.net c b.taken.above.number)
  taken_above c = as_done (is_shown (raw c)) _ _ _ (b.waits (cycle_of run c) (valued c)) (b.above (cycle_of run c) (valued c))

  pub set_next : (c : ℕ) → state.set (suc c) ≡ (if takes_read below c then asked_at above below c else state.set c)
  set_next c =
      ap (λ m. those (is_marked m) kept.sizes.pieces) (ap (λ l. first_value (drop 1 l)) (step c) ∙ (nexts c).set)
      ∙ by_read (is_raised (run.net c b.taken.below.number) && not (is_raised (run.net c kept.part.below.write.number)))
      ∙ ap (λ t. if t && not (is_raised (run.net c kept.part.below.write.number)) then asked_at above below c else state.set c) (sym (taken_below c))
    where
      by_read : (t : Bool) → those (is_marked (if t then run.net c kept.part.asked.number else run.net c kept.registers.set.number)) kept.sizes.pieces ≡ (if t then asked_at above below c else state.set c)
      by_read true = asked_list c
      by_read false = refl

  -- a part that is taken and isn't the last one has one behind it
  few_parts : (c : ℕ) → count_in kept.sizes (raw c) ≤ kept.sizes.pieces
  few_parts c = few_in (not (is_raised (raw c).more && is_raised (raw c).levels.write)) (count_of (is_marked (touched_of kept.sizes (raw c))) kept.sizes.pieces) kept.sizes.pieces some_pieces (count_most (is_marked (touched_of kept.sizes (raw c))) kept.sizes.pieces)

  more_parts : (c : ℕ) → takes above c ≡ false → takes below c ≡ true → suc (run.net c kept.registers.place.number) < 2 ^ kept.sizes.place_bits
  more_parts c up_kept down_taken =
      let place = run.net c kept.registers.place.number in
      let count = count_in kept.sizes (raw c) in
      let raised : is_raised (run.net c kept.part.above.shows.number) ≡ true = sym (shows_below c) ∙ and_left _ _ down_taken in
      let all : shows_part (raw c) (is_raised (run.net c kept.part.opens.number)) place count ≡ true = sym (told c).shows_is ∙ raised in
      let inside : place < count = ltb-true place count (and_right (is_shown (raw c) && is_raised (run.net c kept.part.opens.number)) _ all) in
      let apart : nat_eq (suc place) count ≡ false =
      last_low (is_shown (raw c)) (is_raised (run.net c kept.part.opens.number)) (is_raised (run.net c kept.part.above.none.number)) (nat_eq (suc place) count) (takes above c)
      (accepted c ∙ ap₂ (λ t l. (is_shown (raw c) && is_raised (run.net c kept.part.opens.number)) && (is_raised (run.net c kept.part.above.none.number) || (t && l))) (sym (taken_below c) ∙ down_taken) (told c).last_is) (and_left _ _ all) up_kept in
      let other = eqb-false (suc place) count apart in
      let few = few_parts c in
      let power = f.sizes.are.pieces in
      omega (arith, inside, other, few, power)

  pub place_next : (c : ℕ) → state.place (suc c) ≡ (if takes above c then 0 else if takes below c then suc (state.place c) else state.place c)
  place_next c =
      ap first_value (step c) ∙ (nexts c).place
      ∙ ap₂ (λ t s. if t then 0 else if s then (run.net c kept.registers.place.number + 1) % 2 ^ kept.sizes.place_bits else run.net c kept.registers.place.number) (sym (taken_above c)) (sym (taken_below c))
      ∙ stepped (takes above c) (takes below c) (run.net c kept.registers.place.number) (2 ^ kept.sizes.place_bits) (more_parts c)

  completes_is : (c : ℕ) → is_raised (run.net c b.coming.completes.number) ≡ completes state c
  completes_is c = (tells c).completes ∙ ap (λ n. nat_lt n (suc (suc (run.net c kept.registers.come.number)))) (sym (those_count (is_marked (run.net c kept.registers.set.number)) kept.sizes.pieces))

  pub valid : (c : ℕ) → is_raised (run.net c back.valid.number) ≡ (is_raised (run.net c answer.valid.number) && completes state c)
  valid c = b.valid (cycle_of run c) (valued c) ∙ ap (λ t. is_raised (run.net c answer.valid.number) && t) (completes_is c)

  more_come : (c : ℕ) → completes state c ≡ false → suc (run.net c kept.registers.come.number) < 2 ^ kept.sizes.place_bits
  more_come c e =
      let least = ltb-false (length (state.set c)) (suc (suc (run.net c kept.registers.come.number))) e in
      let count = those_count (is_marked (run.net c kept.registers.set.number)) kept.sizes.pieces in
      let most = count_most (is_marked (run.net c kept.registers.set.number)) kept.sizes.pieces in
      let power = f.sizes.are.pieces in
      omega (arith, least, count, most, power)

  pub come_next : (c : ℕ) → state.come (suc c) ≡ (if is_raised (run.net c answer.valid.number) then (if completes state c then 0 else suc (state.come c)) else state.come c)
  come_next c =
      ap (λ l. first_value (drop 3 l)) (step c) ∙ (nexts c).come
      ∙ ap (λ t. if t then 0 else if is_raised (run.net c answer.valid.number) then (run.net c kept.registers.come.number + 1) % 2 ^ kept.sizes.place_bits else run.net c kept.registers.come.number) (valid c)
      ∙ counted_on (is_raised (run.net c answer.valid.number)) (completes state c) (run.net c kept.registers.come.number) (2 ^ kept.sizes.place_bits) (more_come c)

  -- ---- the count of reads

  room_for : (c : ℕ) → takes_read above c ≡ true → run.net c kept.registers.reads.number < split.reads
  room_for c h =
      let taken = and_left (takes above c) _ h in
      let goes = and_right (is_shown (raw c)) _ (and_left _ _ (sym (accepted c) ∙ taken)) in
      let low : is_raised (raw c).levels.write ≡ false = turned_low _ (and_right (takes above c) _ h) in
      ltb-true (run.net c kept.registers.reads.number) split.reads (and_left _ _ (sym (ap (λ w. w || (nat_lt (run.net c kept.registers.reads.number) split.reads && (nat_lt 0 (run.net c kept.registers.place.number) || (nat_eq (run.net c kept.registers.reads.number) 0 || are_same (state.set c) (asked_at above below c))))) low) ∙ opens_is c ∙ goes))

  reads_fit : (c : ℕ) → run.net c kept.registers.reads.number ≤ split.reads → run.net c kept.registers.reads.number + one_if (is_raised (run.net c b.taken.above.number) && not (is_raised (raw c).levels.write)) < 2 ^ kept.sizes.room_bits
  reads_fit c few =
      let most = counted_few (takes_read above c) (run.net c kept.registers.reads.number) split.reads few (room_for c) in
      let room = f.sizes.room in
      let fits = f.sizes.are.room_fits in
      let same : one_if (takes_read above c) ≡ one_if (is_raised (run.net c b.taken.above.number) && not (is_raised (raw c).levels.write)) = ap (λ t. one_if (t && not (is_raised (raw c).levels.write))) (taken_above c) in
      omega (arith, most, room, fits, same)

  reads_step : (c : ℕ) → run.net c kept.registers.reads.number ≤ split.reads → state.reads (suc c) ≡ (state.reads c + one_if (takes_read above c)) - one_if (is_raised (run.net c back.valid.number))
  reads_step c few =
      ap (λ l. first_value (drop 2 l)) (step c) ∙ (nexts c).reads (reads_fit c few)
      ∙ ap (λ t. (run.net c kept.registers.reads.number + one_if (t && not (is_raised (raw c).levels.write))) - one_if (is_raised (run.net c back.valid.number))) (sym (taken_above c))

  reads_few : (c : ℕ) → run.net c kept.registers.reads.number ≤ split.reads
  reads_few zero = let none : run.net 0 kept.registers.reads.number ≡ 0 = ap (λ l. first_value (drop 1 l)) starts in omega (arith, none)
  reads_few (suc c) = let few = reads_few c in let next = reads_step c few in let most = counted_few (takes_read above c) (run.net c kept.registers.reads.number) split.reads few (room_for c) in omega (arith, next, most)

  pub reads_next : (c : ℕ) → state.reads (suc c) ≡ (state.reads c + one_if (takes_read above c)) - one_if (is_raised (run.net c back.valid.number))
  reads_next c = reads_step c (reads_few c)

  -- ---- the word that is gathered

  abbrev meant : ℕ → ℕ → Bool
  meant c = stands_at (is_marked (run.net c kept.registers.set.number)) (run.net c kept.registers.come.number)

  piece_fits : (c : ℕ) → run.net c answer.word.number < 2 ^ (kept.sizes.narrow_bytes * 8)
  piece_fits c = b.fits (cycle_of run c) (valued c)

  filled_low : (c : ℕ) → fill (is_marked (here_of kept.sizes (run.net c kept.registers.set.number) (run.net c kept.registers.come.number))) (kept.sizes.narrow_bytes * 8) (run.net c kept.registers.word.number) (run.net c answer.word.number) (kept.sizes.pieces - 1)
      ≡ fill (meant c) (kept.sizes.narrow_bytes * 8) (run.net c kept.registers.word.number) (run.net c answer.word.number) (kept.sizes.pieces - 1)
  filled_low c = filled_by (run.net c kept.registers.set.number) (run.net c kept.registers.come.number) (kept.sizes.narrow_bytes * 8) (run.net c kept.registers.word.number) (run.net c answer.word.number) kept.sizes.pieces (kept.sizes.pieces - 1) (omega arith)

  word_fits : (c : ℕ) → run.net c kept.registers.word.number < 2 ^ ((kept.sizes.pieces - 1) * (kept.sizes.narrow_bytes * 8))
  word_fits c = width_fits netlist kept.registers.word ((kept.sizes.pieces - 1) * (kept.sizes.narrow_bytes * 8)) f.nets.word (cycle_of run c) (valued c)

  last_comes : (c : ℕ) → completes state c ≡ true → count_of (is_marked (run.net c kept.registers.set.number)) kept.sizes.pieces ≤ suc (run.net c kept.registers.come.number)
  last_comes c done =
      let most = ltb-true (length (state.set c)) (suc (suc (run.net c kept.registers.come.number))) done in
      let count = those_count (is_marked (run.net c kept.registers.set.number)) kept.sizes.pieces in
      omega (arith, most, count)

  -- the word above
  word_put : (c : ℕ) → completes state c ≡ true → IsPut kept.sizes.narrow_bytes (drop (state.come c) (state.set c)) (run.net c kept.registers.word.number) (run.net c answer.word.number % 256 ^ kept.sizes.narrow_bytes) (run.net c b.coming.word.number)
  word_put c done =
      put_there kept.sizes.narrow_bytes (meant c) kept.sizes.pieces (run.net c kept.registers.word.number) (run.net c answer.word.number % 256 ^ kept.sizes.narrow_bytes) (run.net c b.coming.word.number) (drop (state.come c) (state.set c))
      (lies (is_marked (run.net c kept.registers.set.number)) (run.net c kept.registers.come.number) kept.sizes.pieces)
      (λ p low is. own p low is (nat_lt p (kept.sizes.pieces - 1)) refl)
      (λ q low is. kept_piece kept.sizes.narrow_bytes (run.net c kept.registers.word.number) (run.net c b.coming.word.number) q (run.net c answer.word.number) (meant c q) (lower q (omega (arith, low))) is)
    where
      word_is : run.net c b.coming.word.number ≡ run.net c answer.word.number * 2 ^ ((kept.sizes.pieces - 1) * (kept.sizes.narrow_bytes * 8)) + fill (meant c) (kept.sizes.narrow_bytes * 8) (run.net c kept.registers.word.number) (run.net c answer.word.number) (kept.sizes.pieces - 1)
      word_is = (tells c).word ∙ ap (λ n. run.net c answer.word.number * 2 ^ ((kept.sizes.pieces - 1) * (kept.sizes.narrow_bytes * 8)) + n) (by_whole (stands_whole kept.sizes (run.net c kept.registers.set.number)) refl)
        where
          by_whole : (t : Bool) → stands_whole kept.sizes (run.net c kept.registers.set.number) ≡ t → (if t then run.net c kept.registers.word.number else run.net c b.coming.low.number)
              ≡ fill (meant c) (kept.sizes.narrow_bytes * 8) (run.net c kept.registers.word.number) (run.net c answer.word.number) (kept.sizes.pieces - 1)
          by_whole true e =
              sym (fill_none (meant c) (kept.sizes.narrow_bytes * 8) (run.net c kept.registers.word.number) (run.net c answer.word.number) (kept.sizes.pieces - 1) (word_fits c)
              (none_below (is_marked (run.net c kept.registers.set.number)) (run.net c kept.registers.come.number) kept.sizes.pieces some_pieces (and_right _ _ e) (last_comes c done)))
          by_whole false e = (tells c).low ∙ filled_low c

      lower : (q : ℕ) → q < kept.sizes.pieces - 1 → lane (kept.sizes.narrow_bytes * 8) (run.net c b.coming.word.number) q ≡ (if meant c q then run.net c answer.word.number else lane (kept.sizes.narrow_bytes * 8) (run.net c kept.registers.word.number) q)
      lower q low =
          ap (λ n. lane (kept.sizes.narrow_bytes * 8) n q) word_is
          ∙ whole_lane (meant c) (kept.sizes.narrow_bytes * 8) (run.net c kept.registers.word.number) (run.net c answer.word.number) kept.sizes.pieces q (piece_fits c) some_pieces low

      own : (p : ℕ) → p < kept.sizes.pieces → meant c p ≡ true → (t : Bool) → nat_lt p (kept.sizes.pieces - 1) ≡ t → piece_at kept.sizes.narrow_bytes (run.net c b.coming.word.number) p ≡ run.net c answer.word.number % 256 ^ kept.sizes.narrow_bytes
      own p low is true e = own_piece kept.sizes.narrow_bytes (run.net c b.coming.word.number) p (run.net c answer.word.number) _ (meant c p) (piece_fits c) (lower p (ltb-true p (kept.sizes.pieces - 1) e)) is
      own p low is false e =
          let most = ltb-false p (kept.sizes.pieces - 1) e in
          let last : p ≡ kept.sizes.pieces - 1 = omega (arith, most, low) in
          own_piece kept.sizes.narrow_bytes (run.net c b.coming.word.number) p (run.net c answer.word.number) 0 true (piece_fits c)
          (ap (lane (kept.sizes.narrow_bytes * 8) (run.net c b.coming.word.number)) last ∙ ap (λ n. lane (kept.sizes.narrow_bytes * 8) n (kept.sizes.pieces - 1)) word_is
          ∙ last_lane (meant c) (kept.sizes.narrow_bytes * 8) (run.net c kept.registers.word.number) (run.net c answer.word.number) (kept.sizes.pieces - 1) (piece_fits c)) refl

  -- what is kept of it
  low_put_there : (c : ℕ) → completes state c ≡ false → IsPut kept.sizes.narrow_bytes (drop (state.come c) (state.set c)) (run.net c kept.registers.word.number) (run.net c answer.word.number % 256 ^ kept.sizes.narrow_bytes) (run.net c b.coming.low.number)
  low_put_there c e =
      let least = ltb-false (length (state.set c)) (suc (suc (run.net c kept.registers.come.number))) e in
      low_put (run.net c kept.registers.set.number) (run.net c kept.registers.come.number) kept.sizes.narrow_bytes (run.net c kept.registers.word.number) (run.net c answer.word.number % 256 ^ kept.sizes.narrow_bytes) (run.net c b.coming.low.number) kept.sizes.pieces some_pieces (omega (arith, least))
      (put_there kept.sizes.narrow_bytes (meant c) (kept.sizes.pieces - 1) (run.net c kept.registers.word.number) (run.net c answer.word.number % 256 ^ kept.sizes.narrow_bytes) (run.net c b.coming.low.number) (drop (run.net c kept.registers.come.number) (those (is_marked (run.net c kept.registers.set.number)) (kept.sizes.pieces - 1)))
      (lies (is_marked (run.net c kept.registers.set.number)) (run.net c kept.registers.come.number) (kept.sizes.pieces - 1))
      (λ p low is. own_piece kept.sizes.narrow_bytes (run.net c b.coming.low.number) p (run.net c answer.word.number) _ (meant c p) (piece_fits c) (lower p low) is)
      (λ q low is. kept_piece kept.sizes.narrow_bytes (run.net c kept.registers.word.number) (run.net c b.coming.low.number) q (run.net c answer.word.number) (meant c q) (lower q (omega (arith, low))) is))
    where
      lower : (q : ℕ) → q < kept.sizes.pieces - 1 → lane (kept.sizes.narrow_bytes * 8) (run.net c b.coming.low.number) q ≡ (if meant c q then run.net c answer.word.number else lane (kept.sizes.narrow_bytes * 8) (run.net c kept.registers.word.number) q)
      lower q low =
          ap (λ n. lane (kept.sizes.narrow_bytes * 8) n q) ((tells c).low ∙ filled_low c)
          ∙ filled_lane (meant c) (kept.sizes.narrow_bytes * 8) (run.net c kept.registers.word.number) (run.net c answer.word.number) (kept.sizes.pieces - 1) q (piece_fits c) low

  code_after : (c : ℕ) → (state.gathered (suc c)).code ≡ (if is_raised (run.net c answer.valid.number) && completes state c then 0 else if is_raised (run.net c answer.valid.number) then run.net c b.coming.code.number else (state.gathered c).code)
  code_after c =
      ap (λ l. first_value (drop 5 l)) (step c) ∙ (nexts c).code
      ∙ ap (λ t. if t then 0 else if is_raised (run.net c answer.valid.number) then run.net c b.coming.code.number else run.net c kept.registers.code.number) (valid c)

  word_after : (c : ℕ) → (state.gathered (suc c)).word ≡ (if is_raised (run.net c answer.valid.number) then run.net c b.coming.low.number else (state.gathered c).word)
  word_after c = ap (λ l. first_value (drop 4 l)) (step c) ∙ (nexts c).word

  pub gathered_stays : (c : ℕ) → is_raised (run.net c answer.valid.number) ≡ false → state.gathered (suc c) ≡ state.gathered c
  gathered_stays c e =
      let w : (state.gathered (suc c)).word ≡ (state.gathered c).word = word_after c ∙ ap (λ v. if v then run.net c b.coming.low.number else (state.gathered c).word) e in
      let r : (state.gathered (suc c)).code ≡ (state.gathered c).code = code_after c ∙ ap (λ v. if v && completes state c then 0 else if v then run.net c b.coming.code.number else (state.gathered c).code) e in
      rw (w, r) refl

  pub gathered_more : (c : ℕ) → is_raised (run.net c answer.valid.number) ≡ true → completes state c ≡ false → AddsTo below state c (state.gathered (suc c))
  gathered_more c e k = record {
    word = subst (λ n. IsPut n (drop (state.come c) (state.set c)) (run.net c kept.registers.word.number) (run.net c answer.word.number % 256 ^ n) (state.gathered (suc c)).word) (sym narrow_is)
        (subst (IsPut kept.sizes.narrow_bytes (drop (state.come c) (state.set c)) (run.net c kept.registers.word.number) (run.net c answer.word.number % 256 ^ kept.sizes.narrow_bytes)) (sym (word_after c ∙ ap (λ v. if v then run.net c b.coming.low.number else (state.gathered c).word) e)) (low_put_there c k));
    code = code_after c ∙ ap₂ (λ v t. if v && t then 0 else if v then run.net c b.coming.code.number else (state.gathered c).code) e k ∙ (tells c).code;
  }

  pub gathered_anew : (c : ℕ) → is_raised (run.net c answer.valid.number) ≡ true → completes state c ≡ true → (state.gathered (suc c)).code ≡ 0
  gathered_anew c e k = code_after c ∙ ap₂ (λ v t. if v && t then 0 else if v then run.net c b.coming.code.number else (state.gathered c).code) e k

  pub given : (c : ℕ) → is_raised (run.net c back.valid.number) ≡ true → AddsTo below state c (record { word = run.net c back.word.number; code = run.net c back.code.number })
  given c raised = record {
    word = subst (λ n. IsPut n (drop (state.come c) (state.set c)) (run.net c kept.registers.word.number) (run.net c answer.word.number % 256 ^ n) (run.net c back.word.number)) (sym narrow_is)
        (subst (IsPut kept.sizes.narrow_bytes (drop (state.come c) (state.set c)) (run.net c kept.registers.word.number) (run.net c answer.word.number % 256 ^ kept.sizes.narrow_bytes)) (sym (ap (λ (n : NetValue). run.net c n.number) b.word_is)) (word_put c (and_right _ _ (sym (valid c) ∙ raised))));
    code = ap (λ (n : NetValue). run.net c n.number) b.code_is ∙ (tells c).code;
  }

  pub runs_as_split : RunsAsSplit split.reads (port_in form.up run kept.from up back) (port_in form.down run kept.part.below wait answer) state
  runs_as_split = record {
    shown = shown;
    part = part;
    accepts = accepts;
    place_begins = ap first_value starts;
    place_next = place_next;
    set_next = set_next;
    reads_begin = ap (λ l. first_value (drop 1 l)) starts;
    reads_next = reads_next;
    come_begins = ap (λ l. first_value (drop 2 l)) starts;
    come_next = come_next;
    gathered_begins = ap (λ l. first_value (drop 4 l)) starts;
    gathered_stays = gathered_stays;
    gathered_more = gathered_more;
    gathered_anew = gathered_anew;
    valid = valid;
    given = given;
  }
