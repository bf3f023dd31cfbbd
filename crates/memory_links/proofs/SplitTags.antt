-- A splitter makes no tags and no kinds of its own, and what holds nothing holds nothing back.
use Rattle.std.proofs.Common.{ℕ, zero, suc, ◌<◌, ◌≤◌, ◌≡◌, ◌+◌, ◌-◌, Bool, true, false, not, ◌&&◌, ◌||◌, List, [], ◌∷◌, if◌then◌else◌, arith, refl, sym, ap, subst, ◌∙◌, length, map, filter, nat_lt, IsTrue, Some, slice_get, le_refl}
use Rattle.std.proofs.lemmas.Bool.{and_parts}
use Rattle.histories.specs.History.{is_raised, unreached}
use Rattle.memory_runs.specs.Views.{Kind}
use Rattle.memory_runs.specs.Views.Kind.{Reads, Writes}
use Rattle.memory_runs.specs.Operations.{Beat}
use Rattle.memory_runs.specs.Commands.{shows, is_of_reads}
use Rattle.memory_machines.specs.Link.{Target, Port, Marked, AreLegalAt, taken_at, operations_in, operations_among, sizes, held_by}
use Rattle.memory_machines.specs.Lines.{HandsOn}
use Rattle.memory_machines.specs.PartRanks.{held_back, HoldsBack}
use Rattle.memory_machines.specs.Machines.{Raw, raw_at, single, joined, piece_of, is_touched, touched, or_first, beat_of}
use Rattle.memory_links.specs.Splits.{SplitState, RunsAsSplit, split_at, opens}
use Rattle.memory_links.proofs.HandOn.{IsShownFor, hands_on_shown}
use Rattle.memory_links.proofs.Stages.{accepted_of}

-- ---- what holds nothing

nothing_unreached : (target : Target) (up : Port) (ms : List Marked) (n : ℕ) → unreached (sizes target up.shape ms) n ≤ 0 → held_back (map (accepted_of target up.shape) ms) n ≤ 0
nothing_unreached target up [] n h = le_refl 0
nothing_unreached target up (m ∷ ms) n h = by_size (nothing_unreached target up ms (n - length (operations_in target up.shape m))) (nat_lt n (length (operations_in target up.shape m))) refl h
  where
    by_size : (unreached (sizes target up.shape ms) (n - length (operations_in target up.shape m)) ≤ 0 → held_back (map (accepted_of target up.shape) ms) (n - length (operations_in target up.shape m)) ≤ 0) →
        (b : Bool) → nat_lt n (length (operations_in target up.shape m)) ≡ b → (if b then 1 else 0) + unreached (sizes target up.shape ms) (n - length (operations_in target up.shape m)) ≤ 0 →
        held_back (map (accepted_of target up.shape) (m ∷ ms)) n ≤ 0
    by_size later true e g = absurd (omega (arith, g))
    by_size later false e g = rw e (later (omega (arith, g)))

pub holds_nothing_back : (target : Target) (up down : Port) (end : ℕ) → ((c : ℕ) → c ≤ end → held_by target up down c ≤ 0) → HoldsBack 0 target up down end
holds_nothing_back target up down end held c h = nothing_unreached target up (taken_at up c) (length (operations_among target down.shape (taken_at down c))) (held c h)

-- ---- tags and kinds of parts

abbrev AllOfKind : Kind → List Beat → Type 0
AllOfKind kind [] = Unit {0}
AllOfKind kind (b ∷ beats) = (b.kind ≡ kind) × AllOfKind kind beats

pub record Bears (mark : ℕ) (kind : Kind) (raw : Raw) : Type 0 where
  pub tag : raw.tag ≡ mark
  pub reads : is_raised raw.levels.read ≡ is_of_reads kind
  pub writes : is_raised raw.levels.write ≡ not (is_of_reads kind)
  pub count : raw.levels.count ≡ 1

abbrev AllBear : ℕ → Kind → List Raw → Type 0
AllBear tag kind [] = Unit {0}
AllBear tag kind (raw ∷ later) = Bears tag kind raw × AllBear tag kind later

one_bears : (tag more : ℕ) (kind : Kind) (beat : Beat) → beat.kind ≡ kind → Bears tag kind (single tag more beat)
one_bears tag more kind beat e = record {
  tag = refl;
  reads = ap (λ k. is_raised (if is_of_reads k then 1 else 0)) e ∙ high (is_of_reads kind);
  writes = ap (λ k. is_raised (if is_of_reads k then 0 else 1)) e ∙ low (is_of_reads kind);
  count = refl;
}
  where
    high : (b : Bool) → is_raised (if b then 1 else 0) ≡ b
    high true = refl
    high false = refl

    low : (b : Bool) → is_raised (if b then 0 else 1) ≡ not b
    low true = refl
    low false = refl

joined_bear : (tag last : ℕ) (kind : Kind) (beats : List Beat) → AllOfKind kind beats → AllBear tag kind (joined tag last beats)
joined_bear tag last kind [] all = tt
joined_bear tag last kind (b ∷ []) all = (one_bears tag last kind b all.0, tt)
joined_bear tag last kind (b ∷ next ∷ later) all = (one_bears tag 1 kind b all.0, joined_bear tag last kind (next ∷ later) all.1)

pieces_alike : (bytes : ℕ) (beat : Beat) (ns : List ℕ) → AllOfKind beat.kind (filter is_touched (map (piece_of bytes beat) ns))
pieces_alike bytes beat [] = tt
pieces_alike bytes beat (n ∷ ns) = by_test (is_touched (piece_of bytes beat n)) (pieces_alike bytes beat ns)
  where
    by_test : (b : Bool) → AllOfKind beat.kind (filter is_touched (map (piece_of bytes beat) ns)) →
        AllOfKind beat.kind (if b then piece_of bytes beat n ∷ filter is_touched (map (piece_of bytes beat) ns) else filter is_touched (map (piece_of bytes beat) ns))
    by_test true rest = (refl, rest)
    by_test false rest = rest

chosen_alike : (up down : Port) (needed : Bool) (beat : Beat) (beats : List Beat) → AllOfKind beat.kind beats → AllOfKind beat.kind (or_first down.shape needed beat beats)
chosen_alike up down true beat [] all = (refl, tt)
chosen_alike up down false beat [] all = tt
chosen_alike up down needed beat (b ∷ later) all = all

bears_at : (tag : ℕ) (kind : Kind) (xs : List Raw) (n : ℕ) (x : Raw) → AllBear tag kind xs → slice_get xs n ≡ Some x → Bears tag kind x
bears_at tag kind [] n x all got = cc
bears_at tag kind (y ∷ ys) zero x all got = let same : y ≡ x = cc in subst (Bears tag kind) same all.0
bears_at tag kind (y ∷ ys) (suc n) x all got = bears_at tag kind ys n x all.1 got

module _ (room : ℕ) (up down : Port) (state : SplitState) (run : RunsAsSplit room up down state) (end : ℕ) (legal : AreLegalAt up end) where
  all_bear : (c : ℕ) → AllBear (up.commands.tag c) (if is_raised (up.commands.write c) then Writes else Reads) (split_at up down c)
  all_bear c =
      let raw = raw_at up c in
      let beat = beat_of up.shape raw.levels in
      joined_bear raw.tag raw.more beat.kind (or_first down.shape (not (is_raised raw.more) || not (is_raised raw.levels.write)) beat (touched up.shape down.shape beat))
      (chosen_alike up down (not (is_raised raw.more) || not (is_raised raw.levels.write)) beat (touched up.shape down.shape beat) (pieces_alike down.shape.word_bytes beat _))

  -- what is shown below is a part of what stands above
  pub bears_shown : (c : ℕ) → shows down.commands.signals c ≡ true → Bears (up.commands.tag c) (if is_raised (up.commands.write c) then Writes else Reads) (raw_at down c)
  bears_shown c shown = bears_at (up.commands.tag c) (if is_raised (up.commands.write c) then Writes else Reads) (split_at up down c) (state.place c) (raw_at down c) (all_bear c) (run.part c shown)

  one_kind : (r w : Bool) → (r || w) ≡ true → IsTrue (not (r && w)) → (r ≡ is_of_reads (if w then Writes else Reads)) × (w ≡ not (is_of_reads (if w then Writes else Reads)))
  one_kind true true shown one = cc
  one_kind true false shown one = (refl, refl)
  one_kind false true shown one = (refl, refl)
  one_kind false false shown one = cc

  pub split_hands_on : HandsOn up down end
  split_hands_on = hands_on_shown up down end (λ c low shown. (c, from c low shown))
    where
      from : (c : ℕ) → c < end → shows down.commands.signals c ≡ true → IsShownFor up down c c
      from c low shown =
          let above = (and_parts (shows up.commands.signals c) (opens room up down state c) (and_parts (shows up.commands.signals c && opens room up down state c) _ (sym (run.shown c) ∙ shown)).0).0 in
          let kinds = one_kind (is_raised (up.commands.read c)) (is_raised (up.commands.write c)) above (legal.legal.one_kind c low) in
          let bears = bears_shown c shown in
          record { by_then = le_refl c; shown = above; tag = bears.tag; reads = bears.reads ∙ sym kinds.0; writes = bears.writes ∙ sym kinds.1 }
