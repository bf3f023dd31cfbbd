-- Lists of values in eight lanes, as each lane has them.
use Rattle.std.proofs.Common.{◌≡◌, ℕ, ◌+◌, ◌^◌, ◌<◌, List, [], ◌∷◌, ◌++◌, length, slice_get, get_or, set, map, Some, refl, sym, subst, ap, ◌∙◌, arith}
use Rattle.std.specs.Prelude.{option_map}
use Rattle.std.proofs.Math.ListN.{get_or-map}
use Rattle.std.proofs.lemmas.List.{length-map, map-set, map-append}
use Rattle.std.proofs.lemmas.List as lists
use Rattle.std.proofs.lemmas.Option.{slice_get-map}
use Rattle.std.proofs.lemmas.Simd.{map-map}
use Rattle.av_base.specs.Word.{Word, word}
use Rattle.netlist.specs.declared.line.Line.{Line}
use Rattle.netlist.specs.Netlists.{width_at}
use Rattle.cycle_sim.specs.Sims.{bits_at, widths_of}
use Rattle.lane_sim.specs.LaneWords.{LaneWord, value_at}
use Rattle.lane_sim.specs.LaneSims.{AreLaneNets, lane_words, widths_in}
use Rattle.lane_sim.specs.Changes.{WordChange, lane_changes}
use Rattle.lane_sim.specs.declared.order.Change.{Change}
use Rattle.lane_sim.proofs.Lines.{within, operand, operand_width, same_width}

-- there is a lane 0
pub first : 0 < 8
first = omega arith

pub lane_count : (j : ℕ) (nets : List LaneWord) → length (lane_words j nets) ≡ length nets
lane_count j nets = length-map nets (λ (x : LaneWord). value_at x j)

pub lane_read : (j : ℕ) (nets : List LaneWord) (n : ℕ) (x : LaneWord) → x ≡ get_or nets n x → value_at x j ≡ get_or (lane_words j nets) n (value_at x j)
lane_read j nets n x is = ap (λ (y : LaneWord). value_at y j) is ∙ sym (get_or-map (λ (y : LaneWord). value_at y j) nets n x)

-- whatever stands for a net that there isn't
pub lane_bits : (j : ℕ) (nets : List LaneWord) (n : ℕ) (x : LaneWord) → n < length nets → (value_at (get_or nets n x) j).bits ≡ bits_at (lane_words j nets) n
lane_bits j nets n x lt = ap (λ (w : Word). w.bits) (sym (lists.get_or-map (λ (y : LaneWord). value_at y j) nets n x (word 0 0) lt))

pub read_bits : (j : ℕ) (nets : List LaneWord) (n : ℕ) (x : LaneWord) → n < length nets → x ≡ get_or nets n x → (value_at x j).bits ≡ bits_at (lane_words j nets) n
read_bits j nets n x lt is = ap (λ (y : LaneWord). (value_at y j).bits) is ∙ lane_bits j nets n x lt

pub lane_at : (j : ℕ) (nets : List LaneWord) (n : ℕ) (x : LaneWord) → slice_get nets n ≡ Some x → slice_get (lane_words j nets) n ≡ Some (value_at x j)
lane_at j nets n x at = slice_get-map (λ (y : LaneWord). value_at y j) nets n ∙ ap (option_map (λ (y : LaneWord). value_at y j)) at

pub lane_set : (j : ℕ) (nets : List LaneWord) (n : ℕ) (x : LaneWord) → lane_words j (set nets n x) ≡ set (lane_words j nets) n (value_at x j)
lane_set j nets n x = map-set (λ (y : LaneWord). value_at y j) nets n x

pub lane_push : (j : ℕ) (nets : List LaneWord) (x : LaneWord) → lane_words j (nets ++ x ∷ []) ≡ lane_words j nets ++ value_at x j ∷ []
lane_push j nets x = map-append (λ (y : LaneWord). value_at y j) nets (x ∷ [])

pub lane_widths : (j : ℕ) (values : List LaneWord) → widths_of (lane_words j values) ≡ widths_in values
lane_widths j values = map-map (λ (value : Word). value.width) (λ (x : LaneWord). value_at x j) values

pub change_count : (j : ℕ) (changes : List Change) → length (lane_changes j changes) ≡ length changes
change_count j changes = length-map changes (λ (change : Change). record { net = change.net; value = value_at change.value j })

abbrev pub lane_change : ℕ → Change → WordChange
lane_change j change = record { net = change.net; value = value_at change.value j }

pub change_at : (j : ℕ) (changes : List Change) (n : ℕ) (change : Change) → slice_get changes n ≡ Some change → slice_get (lane_changes j changes) n ≡ Some (lane_change j change)
change_at j changes n change at = slice_get-map (lane_change j) changes n ∙ ap (option_map (lane_change j)) at

pub change_set : (j : ℕ) (changes : List Change) (n : ℕ) (change : Change) → lane_changes j (set changes n change) ≡ set (lane_changes j changes) n (lane_change j change)
change_set j changes n change = map-set (lane_change j) changes n change

-- ---- operands, in each lane

pub within_lanes : (lines : List Line) (nets : List LaneWord) (a w : ℕ) → AreLaneNets lines nets → width_at lines a ≡ Some w → a < length nets
within_lanes lines nets a w h e = (let lt = within lines (lane_words 0 nets) a w (h 0 first) e in let c = lane_count 0 nets in omega arith)

pub lane_width : (lines : List Line) (nets : List LaneWord) (a w : ℕ) → AreLaneNets lines nets → width_at lines a ≡ Some w → (x : LaneWord) → x ≡ get_or nets a x → x.width ≡ w
lane_width lines nets a w h e x is = operand_width lines (lane_words 0 nets) a w (h 0 first) e (value_at x 0) (lane_read 0 nets a x is)

pub lane_same_width : (lines : List Line) (nets : List LaneWord) (a b w : ℕ) → AreLaneNets lines nets → width_at lines a ≡ Some w → width_at lines b ≡ Some w → (x y : LaneWord) → x ≡ get_or nets a x → y ≡ get_or nets b y → x.width ≡ y.width
lane_same_width lines nets a b w h ea eb x y ix iy = lane_width lines nets a w h ea x ix ∙ sym (lane_width lines nets b w h eb y iy)

pub lane_operand : (j : ℕ) → j < 8 → (lines : List Line) (nets : List LaneWord) (a w : ℕ) → AreLaneNets lines nets → width_at lines a ≡ Some w → (x : LaneWord) → x ≡ get_or nets a x → value_at x j ≡ word w (bits_at (lane_words j nets) a)
lane_operand j lt lines nets a w h e x is = operand lines (lane_words j nets) a w (h j lt) e (value_at x j) (lane_read j nets a x is)
