-- The memories of eight lanes, one lane after another.
use Rattle.std.proofs.Common.{◌≡◌, ◌≢◌, ℕ, ◌+◌, ◌<◌, ◌≤◌, List, [], ◌∷◌, ◌++◌, length, slice_get, get_or, set, Some, inl, inr, refl, sym, subst, ap, ◌∙◌, arith}
use Rattle.std.proofs.lemmas.Bool.{cases_lt}
use Rattle.std.proofs.lemmas.List.{get_or-set_same, get_or-set_other, length-set, length-append}
use Rattle.std.proofs.lemmas.Option.{get_or_from_slice_get}
use Rattle.netlist.specs.declared.line.Memory.{Memory}
use Rattle.netlist.specs.Netlists.{Netlist}
use Rattle.cycle_sim.specs.Sims.{bits_at}
use Rattle.lane_sim.specs.LaneWords.{LaneWord}
use Rattle.lane_sim.specs.LaneSims.{AreCells, AreLaneCells, CellsValue, cells_at, lane_words, no_cells}
use Rattle.lane_sim.proofs.Values.{slice_get-some, slice_get-front, slice_get-last, split_more}
use Rattle.lane_sim.proofs.Runs.{PutsWords}

-- the first k lanes have cleared memories
pub record AreFirstCells (memories : List Memory) (cells : List CellsValue) (k : ℕ) : Type 0 where
  pub count : length cells ≡ k
  pub each : (j : ℕ) → j < k → AreCells memories (cells_at cells j)
  pub cleared : (j : ℕ) → j < k → (n : ℕ) → bits_at (cells_at cells j).words n ≡ 0

pub first_cells_none : (memories : List Memory) → AreFirstCells memories [] 0
first_cells_none memories = record { count = refl; each = λ j lt. absurd (omega arith); cleared = λ j lt. absurd (omega arith) }

pushed : (P : CellsValue → Type 0) (xs : List CellsValue) (x : CellsValue) (k j : ℕ) → length xs ≡ k → P x → (j < k → P (cells_at xs j)) → j < k + 1 → P (cells_at (xs ++ x ∷ []) j)
pushed P xs x k j count here before lt = elim (split_more j k lt) [
  | inl below ↦ (let some = slice_get-some xs j (omega arith) in
      let same : cells_at (xs ++ x ∷ []) j ≡ cells_at xs j = get_or_from_slice_get (xs ++ x ∷ []) j some.0 no_cells (slice_get-front xs (x ∷ []) j some.0 some.1) ∙ sym (get_or_from_slice_get xs j some.0 no_cells some.1) in
      subst P (sym same) (before below))
  | inr e ↦ (let is : cells_at (xs ++ x ∷ []) j ≡ x = ap (cells_at (xs ++ x ∷ [])) (e ∙ sym count) ∙ get_or_from_slice_get (xs ++ x ∷ []) (length xs) x no_cells (slice_get-last xs x) in
      subst P (sym is) here)
]

pub first_cells_more : (memories : List Memory) (cells : List CellsValue) (k : ℕ) (x : CellsValue) → AreFirstCells memories cells k → AreCells memories x → ((n : ℕ) → bits_at x.words n ≡ 0) → AreFirstCells memories (cells ++ x ∷ []) (k + 1)
first_cells_more memories cells k x h its zeros = record {
  count = simp length-append (let c = h.count in omega arith);
  each = λ j lt. pushed (AreCells memories) cells x k j h.count its (λ below. h.each j below) lt;
  cleared = λ j lt. pushed (λ (c : CellsValue). (n : ℕ) → bits_at c.words n ≡ 0) cells x k j h.count zeros (λ below. h.cleared j below) lt;
}

-- a lane's memories after the clock's edge
pub record IsLaneWritten (b : Netlist) (nets : List LaneWord) (before after : CellsValue) (j : ℕ) : Type 0 where
  pub cells : AreCells b.memories after
  pub puts : PutsWords b (lane_words j nets) before.words after.words

-- those of the first k lanes are after it, and the others before it
pub record AreLanesWritten (b : Netlist) (nets : List LaneWord) (before cells : List CellsValue) (k : ℕ) : Type 0 where
  pub count : length cells ≡ 8
  pub done : (j : ℕ) → j < k → IsLaneWritten b nets (cells_at before j) (cells_at cells j) j
  pub rest : (j : ℕ) → k ≤ j → cells_at cells j ≡ cells_at before j

pub lanes_written_none : (b : Netlist) (nets : List LaneWord) (cells : List CellsValue) → length cells ≡ 8 → AreLanesWritten b nets cells cells 0
lanes_written_none b nets cells count = record { count = count; done = λ j lt. absurd (omega arith); rest = λ j le. refl }

pub lanes_written_more : (b : Netlist) (nets : List LaneWord) (before cells : List CellsValue) (k : ℕ) (x : CellsValue) → k < 8 → AreLanesWritten b nets before cells k → IsLaneWritten b nets (cells_at before k) x k →
    AreLanesWritten b nets before (set cells k x) (k + 1)
lanes_written_more b nets before cells k x lt h its = record {
  count = length-set cells k x ∙ h.count;
  done = λ j below. elim (split_more j k below) [
    | inl less ↦ subst (λ (c : CellsValue). IsLaneWritten b nets (cells_at before j) c j) (sym (get_or-set_other cells k j x no_cells (λ e. omega arith))) (h.done j less)
    | inr e ↦ (let here : cells_at (set cells k x) j ≡ x = ap (cells_at (set cells k x)) e ∙ get_or-set_same cells k x no_cells (let c = h.count in omega arith) in
        subst (λ (c : CellsValue). IsLaneWritten b nets (cells_at before j) c j) (sym here) (subst (λ i. IsLaneWritten b nets (cells_at before i) x i) (sym e) its))
  ];
  rest = λ j le. get_or-set_other cells k j x no_cells (λ e. omega arith) ∙ h.rest j (omega arith);
}

pub all_lanes : (b : Netlist) (nets : List LaneWord) (before cells : List CellsValue) (k : ℕ) → 8 ≤ k → AreLanesWritten b nets before cells k → AreLaneCells b.memories cells
all_lanes b nets before cells k all h = record { count = h.count; each = λ j lt. (h.done j (omega arith)).cells }

-- the memories of a lane, as they are read
pub cell_here : (cells : List CellsValue) (n : ℕ) (x : CellsValue) → n < length cells → get_or cells n x ≡ cells_at cells n
cell_here cells n x lt = (let some = slice_get-some cells n lt in get_or_from_slice_get cells n some.0 x some.1 ∙ sym (get_or_from_slice_get cells n some.0 no_cells some.1))
