-- Rows of eight lanes as inputs of all.
use Rattle.std.proofs.Common.{◌≡◌, ℕ, zero, suc, ◌+◌, ◌<◌, List, [], ◌∷◌, length, map, slice_get, slice_index_or, get_or, slice_set, Some, refl, sym, ap, ap₂, ◌∙◌, arith}
use Rattle.std.proofs.lemmas.List.{length-map}
use Rattle.std.proofs.Math.ListN.{get_or-map}
use Rattle.std.proofs.lemmas.Simd.{map-map}
use Rattle.av_base.specs.Word.{Word, word}
use Rattle.cycle_sim.specs.Sims.{widths_of}
use Rattle.lane_sim.specs.LaneWords.{LaneWord, value_at}
use Rattle.lane_sim.specs.LaneSims.{lane_words, widths_in}

pub lane_widths : (j : ℕ) (values : List LaneWord) → widths_of (lane_words j values) ≡ widths_in values
lane_widths j values = map-map (λ (value : Word). value.width) (λ (x : LaneWord). value_at x j) values

pub row_length : (row : List Word) → length (widths_of row) ≡ length row
row_length row = length-map row (λ (value : Word). value.width)

-- rows of the same widths have values of the same width at each place
pub same_width_at : (one two : List Word) (place : ℕ) → widths_of one ≡ widths_of two → (slice_index_or one place (word 0 0)).width ≡ (slice_index_or two place (word 0 0)).width
same_width_at one two place same =
    sym (get_or-map (λ (value : Word). value.width) one place (word 0 0)) ∙ ap (λ (widths : List ℕ). get_or widths place 0) same ∙ get_or-map (λ (value : Word). value.width) two place (word 0 0)

-- what has the values of a row in a lane has the row there
pub row_taken : (j : ℕ) (inputs : List LaneWord) (row : List Word) → length inputs ≡ length row → ((place : ℕ) (x : LaneWord) → slice_get inputs place ≡ Some x → value_at x j ≡ slice_index_or row place (word 0 0))
    → lane_words j inputs ≡ row
row_taken j [] [] same at = refl
row_taken j [] (w ∷ row) same at = absurd (omega arith)
row_taken j (x ∷ inputs) [] same at = absurd (omega arith)
row_taken j (x ∷ inputs) (w ∷ row) same at = ap₂ (λ (v : Word) (vs : List Word). v ∷ vs) (at 0 x refl) (row_taken j inputs row (omega arith) (λ place y there. at (suc place) y there))
