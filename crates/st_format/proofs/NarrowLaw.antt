-- The nets of a stage that takes beats apart are the machine that does.
use Rattle.std.proofs.Common.{◌≡◌, ℕ, zero, suc, ◌+◌, ◌-◌, ◌*◌, ◌%◌, ◌^◌, ◌<◌, ◌≤◌, Bool, true, false, not, ◌&&◌, ◌||◌, ◌==◌, if◌then◌else◌, List, [], ◌∷◌, drop, refl, sym, subst, ap, ◌∙◌, arith}
use Rattle.std.proofs.lemmas.Nat.{pow_pos}
use Rattle.std.proofs.Math.Nat.{mod-lt}
use Rattle.netlist.specs.Nets.{NetValue}
use Rattle.netlist.specs.Netlists.{Netlist}
use Rattle.netlist.specs.Runs.{Cycle, Run, cycle_of, IsEndlessRun, IsValuation}
use Rattle.stream_runs.specs.View.{EndView, Side, Beat, is_transfer}
use Rattle.stream_runs.specs.Symbols.{symbol_count}
use Rattle.stream_machines.specs.Stage.{Shape, KeepsStageLaw, PassesAll}
use Rattle.stream_machines.specs.Parts.{plain_run, IsNarrowRun, IsSplit, is_none, pieces_now, IsFirstOf, narrow_shape, of_symbols}
use Rattle.stream_machines.specs.Words.{pieces}
use Rattle.stage_core.specs.declared.beat.BeatNets.{BeatNets}
use Rattle.stage_core.specs.Beats.{view_of, ShowSame, beat_in}
use Rattle.stage_core.specs.Groups.{Shown, shown_in, IsOfBeat}
use Rattle.stage_core.specs.Law.{KeepsShape}
use Rattle.stage_core.specs.BeatLaws.{same_state, show_same, all_same}
use Rattle.net_parts.specs.Bits.{of_chosen}
use Rattle.st_format.specs.declared.sizes.Sizes.{Sizes}
use Rattle.st_format.specs.declared.narrow.NarrowKept.{NarrowKept}
use Rattle.st_format.specs.Counted.{counted, counted_beat}
use Rattle.st_format.specs.NarrowNets.{IsNarrowShape, NarrowForward, NarrowBackward, has_more, piece_of, rest_of, shown_piece, shown_rest, laid_above, now_of, shown_now}
use Rattle.st_format.proofs.PartsLemmas.{split, split_some, enough, parts_sum, parts_are, rest_empty, lowest_is_none}

-- what is held of a beat as a wide beat whose lowest part is 0
abbrev whole_of : Sizes → Beat → Beat
whole_of sizes beat = record beat { word = beat.word * 2 ^ (sizes.bits * sizes.symbols) }

-- the parts that are held
abbrev pub left_of : Sizes → Shown → List Beat
left_of sizes shown = if shown.valid == 1 then split sizes sizes.parts (whole_of sizes shown.beat) else []

-- where a beat is held, a part of it is gone
abbrev pub IsLate : Sizes → Shown → Type 0
IsLate sizes shown = (shown.valid == 1) ≡ true → sizes.symbols ≤ shown.beat.empty

abbrev pub parts_of : Sizes → Beat → List Beat
parts_of sizes beat = split sizes sizes.parts (counted_beat sizes.count beat)

more_than_none : (sizes : Sizes) → 1 ≤ sizes.parts
more_than_none sizes = let several = sizes.several in omega arith

split_is_some : (sizes : Sizes) (beat : Beat) → is_none (split sizes sizes.parts beat) ≡ false
split_is_some sizes beat = ap is_none (split_some sizes sizes.parts beat (more_than_none sizes))

now_some : (p : Beat → List Beat) (up : EndView) (xs : List Beat) (c : ℕ) → is_none xs ≡ false → pieces_now p up xs c ≡ xs
now_some p up [] c e = absurd (cc)
now_some p up (x ∷ xs) c e = refl

-- whether parts are held
pub none_left : (sizes : Sizes) (x : Shown) → is_none (left_of sizes x) ≡ not (x.valid == 1)
none_left sizes x = by_test (x.valid == 1)
  where
    by_test : (t : Bool) → is_none (if t then split sizes sizes.parts (whole_of sizes x.beat) else []) ≡ not t
    by_test true = split_is_some sizes (whole_of sizes x.beat)
    by_test false = refl

-- the parts that are to be sent
parts_now : (sizes : Sizes) (held from : Shown) (up : EndView) (c : ℕ) → IsLate sizes held → (record { word = up.word c; channel = up.channel c; error = up.error c; first = up.first c; last = up.last c; empty = up.empty c }) ≡ from.beat →
    pieces_now (parts_of sizes) up (left_of sizes held) c ≡ split sizes sizes.parts (now_of sizes held from).beat
parts_now sizes held from up c late is = by_test (held.valid == 1) refl
  where
    by_test : (t : Bool) → (held.valid == 1) ≡ t → pieces_now (parts_of sizes) up (if t then split sizes sizes.parts (whole_of sizes held.beat) else []) c ≡ split sizes sizes.parts (if t then laid_above sizes held from.beat.word else counted sizes.count from).beat
    by_test true e =
        now_some (parts_of sizes) up (split sizes sizes.parts (whole_of sizes held.beat)) c (split_is_some sizes (whole_of sizes held.beat))
        ∙ lowest_is_none sizes held.beat.word (from.beat.word % 2 ^ (sizes.bits * sizes.symbols)) held.beat (late e) (mod-lt from.beat.word (pow_pos (sizes.bits * sizes.symbols)))
    by_test false e = ap (parts_of sizes) is

-- valid of the wide beat
valid_now : (sizes : Sizes) (held from : Shown) → ((now_of sizes held from).valid == 1) ≡ (not (not (held.valid == 1)) || (from.valid == 1))
valid_now sizes held from = by_test (held.valid == 1) refl
  where
    by_test : (t : Bool) → (held.valid == 1) ≡ t → ((if t then laid_above sizes held from.beat.word else counted sizes.count from).valid == 1) ≡ (not (not t) || (from.valid == 1))
    by_test true e = e
    by_test false e = refl

first_of : (sizes : Sizes) (shown x : Beat) (xs : List Beat) → shown ≡ piece_of sizes x → xs ≡ split sizes sizes.parts x → IsFirstOf shown xs
first_of sizes shown x xs e is = subst (IsFirstOf shown) (sym (is ∙ split_some sizes sizes.parts x (more_than_none sizes))) e

-- what is left once the first part is gone
left_behind : (sizes : Sizes) (x : Shown) → left_of sizes (shown_rest sizes x) ≡ drop 1 (split sizes sizes.parts x.beat)
left_behind sizes x =
    by_more (has_more sizes x.beat) refl
    ∙ sym (ap (drop 1) (split_some sizes sizes.parts x.beat (more_than_none sizes)))
  where
    few : (k : ℕ) → sizes.parts ≡ suc k → has_more sizes x.beat ≡ true → sizes.symbols * sizes.parts ≤ sizes.symbols * (sizes.parts - 1) + (rest_of sizes x.beat).empty
    few k e more = let sum = parts_sum sizes in let gone = rest_empty sizes x.beat more in omega (arith, sum, gone)

    by_more : (t : Bool) → has_more sizes x.beat ≡ t → (if (if t then 1 else 0) == 1 then split sizes sizes.parts (rest_of sizes x.beat) else []) ≡ (if t then split sizes (sizes.parts - 1) (rest_of sizes x.beat) else [])
    by_more false e = refl
    by_more true e =
        let several = sizes.several in
        let back : sizes.parts ≡ suc (sizes.parts - 1) = omega (arith, several) in
        enough sizes sizes.parts (sizes.parts - 1) (rest_of sizes x.beat) (omega (arith, several)) (omega (arith, several)) (omega arith) (few (sizes.parts - 1) back e)

-- what is left once the first part is gone lacks a part
rest_late : (sizes : Sizes) (x : Shown) → IsLate sizes (shown_rest sizes x)
rest_late sizes x = by_more (has_more sizes x.beat) refl
  where
    by_more : (t : Bool) → has_more sizes x.beat ≡ t → ((if t then 1 else 0) == 1) ≡ true → sizes.symbols ≤ (rest_of sizes x.beat).empty
    by_more true more e = let gone = rest_empty sizes x.beat more in omega (arith, gone)
    by_more false more e = absurd (cc)

module _ (sizes : Sizes) (from to : BeatNets) (kept : NarrowKept) (ready up : NetValue) (netlist : Netlist) (run : Run) (f : NarrowForward sizes from to kept netlist) (b : NarrowBackward kept ready up netlist) (endless : IsEndlessRun netlist run) (side : Side) (direct : side.pace.latency ≡ 0) where
  valued : (c : ℕ) → IsValuation netlist (cycle_of run c)
  valued c = (endless (c + 1)).valuations c (omega arith)

  abbrev held : ℕ → Shown
  held c = shown_in (cycle_of run c) kept.held

  abbrev pub now : ℕ → Shown
  now c = shown_now sizes (cycle_of run c) kept.held from

  abbrev pub left : ℕ → List Beat
  left c = left_of sizes (held c)

  pub shown : (c : ℕ) → shown_in (cycle_of run c) to ≡ shown_piece sizes (now c)
  shown c = f.shows (cycle_of run c) (valued c)

  late : (c : ℕ) → IsLate sizes (held c)
  late zero = subst (IsLate sizes) (sym (f.starts run 1 (endless 1) (omega arith))) (λ v. absurd (cc))
  late (suc c) =
      let next : c + 1 ≡ suc c = omega arith in
      subst (λ n. IsLate sizes (held n)) next (subst (IsLate sizes) (sym (b.moves run (c + 2) (endless (c + 2)) c (omega arith))) (by_gone (late c) ((run.net c kept.shown.number == 1) && (run.net c ready.number == 1))))
    where
      by_gone : IsLate sizes (held c) → (t : Bool) → IsLate sizes (if t then shown_in (cycle_of run c) kept.rest else held c)
      by_gone before true = subst (IsLate sizes) (sym (f.rests (cycle_of run c) (valued c))) (rest_late sizes (now c))
      by_gone before false = before

  pub to_send : (c : ℕ) → pieces_now (parts_of sizes) (view_of run from up) (left c) c ≡ split sizes sizes.parts (now c).beat
  to_send c = parts_now sizes (held c) (shown_in (cycle_of run c) from) (view_of run from up) c (late c) refl

  pub goes : (c : ℕ) → is_transfer side.pace (view_of run to ready) c ≡ ((run.net c kept.shown.number == 1) && (run.net c ready.number == 1))
  goes c = rw direct (ap (λ (n : NetValue). (run.net c n.number == 1) && (run.net c ready.number == 1)) (sym f.shown_is))

  pub moved : (c : ℕ) → left (suc c) ≡ (if is_transfer side.pace (view_of run to ready) c then drop 1 (pieces_now (parts_of sizes) (view_of run from up) (left c) c) else left c)
  moved c =
      let next : c + 1 ≡ suc c = omega arith in
      let gone : Bool = (run.net c kept.shown.number == 1) && (run.net c ready.number == 1) in
      sym (ap left next)
      ∙ ap (left_of sizes) (b.moves run (c + 2) (endless (c + 2)) c (omega arith))
      ∙ of_chosen (left_of sizes) gone (shown_in (cycle_of run c) kept.rest) (held c)
      ∙ ap (λ (xs : List Beat). if gone then xs else left c) (ap (left_of sizes) (f.rests (cycle_of run c) (valued c)) ∙ left_behind sizes (now c) ∙ ap (drop 1) (sym (to_send c)))
      ∙ ap (λ t. if t then drop 1 (pieces_now (parts_of sizes) (view_of run from up) (left c) c) else left c) (sym (goes c))

  is_narrow_run : IsNarrowRun (parts_of sizes) side (of_symbols side sizes.symbols) (view_of run from up) (view_of run to ready) left
  is_narrow_run = record {
    starts = ap (left_of sizes) (f.starts run 1 (endless 1) (omega arith));
    asks = λ c. b.asks (cycle_of run c) (valued c) ∙ ap (λ t. t && (run.net c ready.number == 1)) (sym (none_left sizes (held c)));
    valid = λ c. ap (λ (x : Shown). x.valid == 1) (shown c) ∙ valid_now sizes (held c) (shown_in (cycle_of run c) from) ∙ ap (λ t. not t || (run.net c from.valid.number == 1)) (sym (none_left sizes (held c)));
    shows = λ c high. first_of sizes (beat_in (cycle_of run c) to) (now c).beat _ (ap (λ (x : Shown). x.beat) (shown c)) (to_send c);
    moves = moved;
  }

abbrev PiecesFit : Type 0
PiecesFit = (narrow wide : Side) (parts : ℕ) (whole : Beat) → 0 < narrow.symbols → wide.symbols ≡ narrow.symbols * parts → narrow.symbol_bits ≡ wide.symbol_bits → wide.first_high ≡ true → narrow.first_high ≡ true → 0 < parts → 0 < symbol_count wide whole → IsSplit narrow wide whole (pieces narrow wide parts whole)

pub narrow_between : (sizes : Sizes) (shape : Shape) (from to : BeatNets) (kept : NarrowKept) (ready up : NetValue) (netlist : Netlist) (run : Run) → IsNarrowShape sizes shape → NarrowForward sizes from to kept netlist → NarrowBackward kept ready up netlist → IsEndlessRun netlist run →
    PiecesFit →
    ((passes : ℕ → Bool) (pieces_of : Beat → List Beat) (wide narrow : Side) (up down : EndView) (left : ℕ → List Beat) → IsNarrowRun pieces_of wide narrow up down left → ((beat : Beat) → 0 < symbol_count wide beat → IsSplit narrow wide beat (pieces_of beat)) → 0 < narrow.symbols → 0 < wide.symbols → wide.pace.latency ≡ 0 → narrow.pace ≡ wide.pace → wide.packets ≡ narrow.packets → wide.error_bits ≡ narrow.error_bits → wide.max_channel ≡ narrow.max_channel → PassesAll passes wide → KeepsStageLaw (narrow_shape passes wide narrow) (plain_run up down)) →
    KeepsShape shape (view_of run from up) (view_of run to ready)
narrow_between sizes shape from to kept ready up netlist run p f b endless fit law =
    let some = sizes.some in
    let several = sizes.several in
    let sum = parts_sum sizes in
    let symbols = p.symbols_are in
    record {
      rank = λ _. 0;
      keeps = subst (λ (s : Shape). KeepsStageLaw s (plain_run (view_of run from up) (view_of run to ready))) (sym p.is)
          (law shape.passes (parts_of sizes) shape.up (of_symbols shape.up sizes.symbols) _ _ _ (is_narrow_run sizes from to kept ready up netlist run f b endless shape.up p.at_once)
          (λ beat holds. subst (IsSplit (of_symbols shape.up sizes.symbols) shape.up beat) (sym (parts_are sizes shape.up beat p.bits_are p.symbols_are holds))
          (fit (of_symbols shape.up sizes.symbols) shape.up sizes.parts beat some p.symbols_are refl p.first_high p.first_high (more_than_none sizes) holds))
          some (omega (arith, sum, symbols, some)) p.at_once refl refl refl refl p.passes);
    }

pub narrow_ignores : (sizes : Sizes) (from to : BeatNets) (kept : NarrowKept) (netlist : Netlist) (one other : Cycle) → NarrowForward sizes from to kept netlist → IsValuation netlist one → IsValuation netlist other → ((n : ℕ) → IsOfBeat kept.held n → one.net n ≡ other.net n) → ShowSame from one other → ShowSame to one other
narrow_ignores sizes from to kept netlist one other f v w state same =
    show_same to one other
    (f.shows one v
    ∙ ap (shown_piece sizes) (ap (λ (x : Shown). now_of sizes x (shown_in one from)) (same_state kept.held one other f.numbers state) ∙ ap (now_of sizes (shown_in other kept.held)) (all_same from one other same))
    ∙ sym (f.shows other w))
