-- The laws of rows of places. No contract reads a proof of these.
use Rattle.std.proofs.Common.{◌≡◌, ℕ, ◌+◌, ◌*◌, ◌<◌, ◌≤◌, Bool, true, false, ◌&&◌, ◌==◌, if◌then◌else◌, List, [], ◌∷◌, ◌++◌, length, length-append, refl, sym, subst, ap, ◌∙◌, arith, inl, inr}
use Rattle.netlist.specs.Nets.{NetValue}
use Rattle.netlist.specs.Netlists.{Netlist, IsWaiting}
use Rattle.netlist.specs.Runs.{Cycle, Run, cycle_of, IsRun, Always}
use Rattle.netlist.specs.Longer.{Extends}
use Rattle.net_parts.specs.declared.places.PlaceNets.{PlaceNets}
use Rattle.net_parts.specs.Nets.{IsBit}
use Rattle.net_parts.specs.Groups.{values_of, AreNumberedFrom, InGroup, StartAllLow, nets_last, in_row}
use Rattle.net_parts.specs.Growth.{GrowsBy, AddsNets, StillWait, WaitsBeside, WaitsWithout}
use Rattle.net_parts.specs.Laws.{net_lasts, extends_none, extends_twice, grows_none, grows_fewer, grows_within}
use Rattle.net_parts.specs.Places.{Place, first_or, filled, fill_row, no_place, shift_row, comes_into, loaded_place, AllEmpty}
use Rattle.net_parts.specs.PlaceLaws.{loads_place, fills_into}
use Rattle.net_parts.specs.PlaceRows.{nets_of, ArePlaceNets, place_of, place_in, row_in, IsPlace, IsRow, row_end, AreInRow, InRow, StartsAllEmpty, PlaceMoves, RowMoves, RowSteps, gives_item, last_full, row_lasts}

-- ---- one place

pub chosen_pair : (t : Bool) (x a b : ℕ) (xs ones others : List ℕ) → x ≡ (if t then a else b) → xs ≡ (if t then ones else others)
    → (x ∷ xs) ≡ (if t then a ∷ ones else b ∷ others)
chosen_pair true x a b xs ones others e f = cc
chosen_pair false x a b xs ones others e f = cc

pub place_lasts : {N : ℕ} (old new : Netlist) (place : PlaceNets N) → Extends old new → ArePlaceNets old place
    → ArePlaceNets new place
place_lasts old new place e h =
    record { full = net_lasts old new place.full 1 e h.full; item = nets_last old new place.item e h.item }

pub numbered_here : {N : ℕ} (place : PlaceNets N) (from : ℕ) → AreNumberedFrom from (nets_of place)
    → AreNumberedFrom place.full.number (nets_of place)
numbered_here place from h = subst (λ n. AreNumberedFrom n (nets_of place)) (sym h.0) h

-- ---- the numbers of a row

end_least : {N : ℕ} (from : ℕ) (row : List (PlaceNets N)) → from ≤ row_end from row
end_least from [] = omega arith
end_least from (place ∷ row) = let rest = end_least (from + length (nets_of place)) row in omega (arith, rest)

pub row_numbers : {N : ℕ} (netlist : Netlist) (like : PlaceNets N) (from : ℕ) (row : List (PlaceNets N))
    → IsRow netlist like from row → (n : ℕ) → InRow row n → (from ≤ n) × (n < row_end from row)
row_numbers netlist like from [] h n o = absurd o
row_numbers netlist like from (place ∷ row) h n (inl o) =
    let at = in_row from (nets_of place) h.0.numbers n o in
    let low = at.least in
    let below = at.below in
    let most = end_least (from + length (nets_of place)) row in
    (omega (arith, low), omega (arith, below, most))
row_numbers netlist like from (place ∷ row) h n (inr o) =
    let rest = row_numbers netlist like (from + length (nets_of place)) row h.1 n o in
    (omega (arith, rest.0), rest.1)

-- a place is apart from those behind it
pub place_apart : {N : ℕ} (netlist : Netlist) (like : PlaceNets N) (from : ℕ) (place : PlaceNets N) (row : List (PlaceNets N))
    → IsRow netlist like from (place ∷ row) → (n : ℕ) → InGroup (nets_of place) n → ¬ InRow row n
place_apart netlist like from place row h n o p =
    let at = in_row from (nets_of place) h.0.numbers n o in
    let below = at.below in
    let rest = row_numbers netlist like (from + length (nets_of place)) row h.1 n p in
    omega (arith, below, rest.0)

pub row_here : {N : ℕ} (a b : Netlist) (like : PlaceNets N) (row : List (PlaceNets N)) → Extends a b
    → ((n : ℕ) → InRow row n → IsWaiting a n → IsWaiting b n) → AreInRow a like row → AreInRow b like row
row_here a b like row e wait h = record { start = h.start; is_row = row_lasts a b like h.start row e wait h.is_row }

pub row_waits : {N : ℕ} (netlist : Netlist) (like : PlaceNets N) (from : ℕ) (row : List (PlaceNets N))
    → IsRow netlist like from row → (n : ℕ) → InRow row n → IsWaiting netlist n
row_waits netlist like from [] h n o = absurd o
row_waits netlist like from (place ∷ row) h n (inl o) = h.0.wait n o
row_waits netlist like from (place ∷ row) h n (inr o) = row_waits netlist like (from + length (nets_of place)) row h.1 n o

pub last_bit : {N : ℕ} (netlist : Netlist) (like : PlaceNets N) (from : ℕ) (first : PlaceNets N) (rest : List (PlaceNets N))
    → IsRow netlist like from (first ∷ rest) → IsBit netlist (last_full first rest)
last_bit netlist like from first [] h = h.0.nets_are.full
last_bit netlist like from first (next ∷ rest) h = last_bit netlist like (from + length (nets_of first)) next rest h.1

-- ---- making a row

row_push : {N : ℕ} (netlist : Netlist) (like : PlaceNets N) (from : ℕ) (row : List (PlaceNets N)) (place : PlaceNets N)
    → IsRow netlist like from row → IsPlace netlist like place (row_end from row) → IsRow netlist like from (row ++ place ∷ [])
row_push netlist like from [] place h p = (p, tt)
row_push netlist like from (first ∷ row) place h p = (h.0, row_push netlist like (from + length (nets_of first)) row place h.1 p)

end_push : {N : ℕ} (from : ℕ) (row : List (PlaceNets N)) (place : PlaceNets N)
    → row_end from (row ++ place ∷ []) ≡ row_end from row + length (nets_of place)
end_push from [] place = refl
end_push from (first ∷ row) place = end_push (from + length (nets_of first)) row place

in_pushed : {N : ℕ} (row : List (PlaceNets N)) (place : PlaceNets N) (n : ℕ) → InRow row n → InRow (row ++ place ∷ []) n
in_pushed [] place n o = absurd o
in_pushed (first ∷ row) place n (inl o) = inl o
in_pushed (first ∷ row) place n (inr o) = inr (in_pushed row place n o)

in_last : {N : ℕ} (row : List (PlaceNets N)) (place : PlaceNets N) (n : ℕ) → InGroup (nets_of place) n
    → InRow (row ++ place ∷ []) n
in_last [] place n o = inl o
in_last (first ∷ row) place n o = inr (in_last row place n o)

empty_push : {N : ℕ} (cycle : Cycle) (row : List (PlaceNets N)) (place : PlaceNets N) → AllEmpty (row_in cycle row)
    → (place_in cycle place).full ≡ false → AllEmpty (row_in cycle (row ++ place ∷ []))
empty_push cycle [] place h e = (e, tt)
empty_push cycle (first ∷ row) place h e = (h.0, empty_push cycle row place h.1 e)

-- so many places are made
pub record AreMade {N : ℕ} (old now : Netlist) (like : PlaceNets N) (places : List (PlaceNets N)) (count : ℕ) : Type 0 where
  pub row : IsRow now like (length old.lines) places
  pub count_is : length places ≡ count
  pub lines : length now.lines ≡ row_end (length old.lines) places
  pub starts : StartsAllEmpty now places
  pub grows : GrowsBy ((N + 1) * count) old now
  pub still_wait : StillWait old now
  pub newly : WaitsBeside (InRow places) old now

pub made_none : {N : ℕ} (old : Netlist) (like : PlaceNets N) → AreMade old old like [] 0
made_none old like = record {
  row = tt;
  count_is = refl;
  lines = refl;
  starts = λ run cycles r lt. tt;
  grows = grows_fewer 0 _ old old (omega arith) (grows_none old);
  still_wait = λ n w. w;
  newly = λ n w. inl w;
}

pub made_more : {N : ℕ} (old now new : Netlist) (like place : PlaceNets N) (row : List (PlaceNets N)) (count : ℕ)
    → AreMade old now like row count → GrowsBy (N + 1) now new → StillWait now new
    → WaitsBeside (InGroup (nets_of place)) now new →
    IsPlace new like place (length now.lines) → length new.lines ≡ length now.lines + length (nets_of place)
    → StartAllLow new (nets_of place) → AreMade old new like (row ++ place ∷ []) (count + 1)
made_more {N} old now new like place row count h grows wait newly is lines starts = record {
  row =
      row_push new like (length old.lines) row place
      (row_lasts now new like (length old.lines) row grows.extends (λ n o. wait n) h.row)
      (subst (IsPlace new like place) h.lines is);
  count_is = (let e = length-append row (place ∷ []) in let f = h.count_is in omega arith);
  lines = lines ∙ ap (λ n. n + length (nets_of place)) h.lines ∙ sym (end_push (length old.lines) row place);
  starts =
      λ run cycles r lt. empty_push (cycle_of run 0) row place (h.starts run cycles (grows.extends.runs run cycles r) lt)
      (ap (λ (values : List ℕ). (place_of values).full) (starts run cycles r lt));
  grows = grows_within ((N + 1) * count) (N + 1) _ old now new h.grows grows (omega arith);
  still_wait = λ n w. wait n (h.still_wait n w);
  newly = λ n w. elim (newly n w) [
    | inl before ↦ elim (h.newly n before) [ inl first ↦ inl first | inr made ↦ inr (in_pushed row place n made) ]
    | inr last ↦ inr (in_last row place n last)
  ];
}

-- ---- a row that moves

pub row_moves : {N : ℕ} (netlist : Netlist) (place from : PlaceNets N) (rest : List (PlaceNets N))
    (here behind comes shift : NetValue) →
    ((run : Run) (cycles : ℕ) → IsRun netlist run cycles → (c : ℕ) → c + 1 < cycles
    → (run.net c behind.number == 1)
    ≡ comes_into (row_in (cycle_of run c) rest) ((run.net c comes.number == 1) && (run.net c place.full.number == 1))) →
    PlaceMoves netlist place rest here behind shift from → RowMoves netlist rest behind comes shift from
    → RowMoves netlist (place ∷ rest) here comes shift from
row_moves netlist place from rest here behind comes shift is_behind first others run cycles r c lt =
    let sh = run.net c shift.number == 1 in
    let h = run.net c here.number == 1 in
    let come = run.net c comes.number == 1 in
    let item = values_of (cycle_of run c) from.item in
    let at = place_in (cycle_of run c) place in
    let row = row_in (cycle_of run c) rest in
    let into = is_behind run cycles r c lt in
    let one = first run cycles r c lt ∙ ap (λ t. loaded_place sh h t item at row) into ∙ loads_place sh h come item at row in
    let more = others run cycles r c lt ∙ ap
    (λ t. shift_row sh (no_place item) (fill_row t come item row)) into
    ∙ ap (shift_row sh (no_place item)) (fills_into (come && at.full) come item row) in
    ap (λ (x : Place (List ℕ)). x ∷ row_in (cycle_of run (c + 1)) rest) one
    ∙ ap (λ
    (xs : List (Place (List ℕ))). (if sh then first_or (fill_row (come && at.full) come item row) (no_place item)
    else filled h item at)
    ∷ xs) more

-- ---- the step of a row from its bits

pub row_steps : {N : ℕ} (before after : Cycle) (from : PlaceNets N) (row : List (PlaceNets N)) (ready comes shift : NetValue)
    → (before.net shift.number == 1) ≡ gives_item before row from ready →
    row_in after row
    ≡ shift_row (before.net shift.number == 1) (no_place (values_of before from.item))
    (fill_row (before.net comes.number == 1) (before.net comes.number == 1) (values_of before from.item)
    (row_in before row)) →
    RowSteps before after row from (before.net comes.number == 1) ready
row_steps before after from row ready comes shift gives moves =
    let c = before.net comes.number == 1 in
    let item = values_of before from.item in
    record {
      end =
          no_place item;
      empty =
          refl;
      is = moves ∙ ap (λ t. shift_row t (no_place item) (fill_row c c item (row_in before row))) gives;
    }

-- ---- a row whose first places are set

-- the places of a row before the rest have their next nets: the row moves where the rest does
pub record AreSet {N : ℕ} (old now : Netlist) (row rest : List (PlaceNets N)) (here into comes shift : NetValue)
    (from : PlaceNets N) : Type 0 where
  pub in_row : AreInRow now from rest
  pub into_is : IsBit now into
  pub moves : (later : Netlist) → Extends now later → RowMoves later rest into comes shift from
      → RowMoves later row here comes shift from
  pub extends : Extends old now
  pub most : length now.lines + (2 * N + 7) * length rest ≤ length old.lines + (2 * N + 7) * length row
  pub drivers : now.drivers ≡ old.drivers
  pub memories : now.memories ≡ old.memories
  pub within : (n : ℕ) → InRow rest n → InRow row n
  pub waits : (n : ℕ) → ¬ InRow row n → IsWaiting old n → IsWaiting now n
  pub no_more_wait : (n : ℕ) → IsWaiting now n → IsWaiting old n × (InRow row n → InRow rest n)

pub set_none : {N : ℕ} (old : Netlist) (row : List (PlaceNets N)) (here comes shift : NetValue) (from : PlaceNets N)
    → AreInRow old from row → IsBit old here → AreSet old old row row here here comes shift from
set_none old row here comes shift from h p = record {
  in_row = h;
  into_is = p;
  moves = λ later e m. m;
  extends = extends_none old;
  most = omega arith;
  drivers = refl;
  memories = refl;
  within = λ n o. o;
  waits = λ n out w. w;
  no_more_wait = λ n w. (w, λ o. o);
}

pub set_more : {N : ℕ} (old now a new : Netlist) (row others : List (PlaceNets N)) (place from : PlaceNets N)
    (here into behind comes shift : NetValue)
    → AreSet old now row (place ∷ others) here into comes shift from →
    AddsNets 1 now a → GrowsBy (2 * N + 6) a new → IsBit a behind →
    Always a (λ cycle. (cycle.net behind.number == 1)
    ≡ comes_into (row_in cycle others) ((cycle.net comes.number == 1) && (cycle.net place.full.number == 1)))
    → PlaceMoves new place others into behind shift from →
    ((n : ℕ) → ¬ InGroup (nets_of place) n → IsWaiting a n → IsWaiting new n) → WaitsWithout (InGroup (nets_of place)) a new →
    AreSet old new row others here behind comes shift from
set_more {N} old now a new row others place from here into behind comes shift h adds sets bit value moves still set =
    let more = extends_twice now a new adds.grows.extends sets.extends in
    record {
      in_row =
          row_here now new from others more
          (λ n o w. still n (λ i. place_apart now from h.in_row.start place others h.in_row.is_row n i o)
          (adds.grows.waits n w))
          (record { start = _; is_row = h.in_row.is_row.1 });
      into_is = net_lasts a new behind 1 sets.extends bit;
      moves = λ later e m. h.moves later (extends_twice now new later more e)
          (row_moves later place from others into behind comes shift
          (λ run cycles r c lt. value (cycle_of run c)
          (((extends_twice a new later sets.extends e).runs run cycles r).valuations c (omega arith)))
          (λ run cycles r. moves run cycles (e.runs run cycles r)) m);
      extends = extends_twice old now new h.extends more;
      most = (let before = h.most in let few = adds.most in let fewer = sets.most in omega arith);
      drivers = sets.drivers ∙ adds.grows.drivers ∙ h.drivers;
      memories = sets.memories ∙ adds.grows.memories ∙ h.memories;
      within = λ n o. h.within n (inr o);
      waits = λ n out w. still n (λ i. out (h.within n (inl i))) (adds.grows.waits n (h.waits n out w));
      no_more_wait = λ n w.
          (let late = set n w in
          let before = h.no_more_wait n (adds.grows.no_more_wait n late.0) in
          (before.0, λ o. elim (before.1 o) [ inl i ↦ absurd (late.1 i) | inr p ↦ p ]));
    }
