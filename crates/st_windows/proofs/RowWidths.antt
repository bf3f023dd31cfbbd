-- The widths of the nets of rows.
use Rattle.std.proofs.Common.{◌≡◌, ℕ, ◌*◌, refl, sym, ◌∙◌}
use Rattle.netlist.specs.Netlists.{Netlist}
use Rattle.stage_core.specs.declared.beat.BeatNets.{BeatNets}
use Rattle.stage_core.specs.Beats.{AreBeatNets, HaveSameWidths, Widths, widths_of}
use Rattle.st_windows.specs.declared.sizes.WindowSizes.{WindowSizes}
use Rattle.st_windows.specs.RowNets.{HaveRowWidths}

-- as wide as nets that are as wide
pub widths_through : (sizes : WindowSizes) (size other : ℕ) (like middle nets : BeatNets) → HaveRowWidths sizes size middle nets → HaveRowWidths sizes other like middle → HaveRowWidths sizes size like nets
widths_through sizes size other like middle nets h i = record { word = h.word; channel = h.channel ∙ i.channel; error = h.error ∙ i.error; empty = h.empty }

-- the same widths
pub widths_as : (sizes : WindowSizes) (size : ℕ) (like middle nets : BeatNets) → HaveSameWidths nets middle → HaveRowWidths sizes size like middle → HaveRowWidths sizes size like nets
widths_as sizes size like middle nets h i = record { word = h.word ∙ i.word; channel = h.channel ∙ i.channel; error = h.error ∙ i.error; empty = h.empty ∙ i.empty }

-- two rows of one size
pub rows_same : (sizes : WindowSizes) (size : ℕ) (old new : Netlist) (like one other : BeatNets) → AreBeatNets new one → AreBeatNets old other → HaveRowWidths sizes size like one → HaveRowWidths sizes size like other → HaveSameWidths one other
rows_same sizes size old new like one other a b h i = record {
  valid = a.valid.has_width ∙ sym b.valid.has_width;
  word = h.word ∙ sym i.word;
  channel = h.channel ∙ sym i.channel;
  error = h.error ∙ sym i.error;
  first = a.first.has_width ∙ sym b.first.has_width;
  last = a.last.has_width ∙ sym b.last.has_width;
  empty = h.empty ∙ sym i.empty;
}

-- what is held alone and what is joined, over what is held
pub rows_alike : (sizes : WindowSizes) (size other : ℕ) (old new : Netlist) (like held one joined : BeatNets) → AreBeatNets new one → AreBeatNets old joined → HaveRowWidths sizes size held one → HaveRowWidths sizes size like joined → HaveRowWidths sizes other like held → HaveSameWidths one joined
rows_alike sizes size other old new like held one joined a b h i through = rows_same sizes size old new like one joined a b (widths_through sizes size other like held one h through) i

pub given_widths : (sizes : WindowSizes) (size : ℕ) (like nets : BeatNets) → HaveRowWidths sizes size like nets → widths_of nets ≡ (let w : Widths = record (widths_of like) { word = sizes.bits * size; empty = sizes.count } in w)
given_widths sizes size like nets h = alike _ _ _ _ _ _ _ _ h.word h.channel h.error h.empty
  where
    alike : (a b c d e f g i : ℕ) → a ≡ b → c ≡ d → e ≡ f → g ≡ i → (let w : Widths = record { word = a; channel = c; error = e; empty = g } in w) ≡ (let w : Widths = record { word = b; channel = d; error = f; empty = i } in w)
    alike a b c d e f g i p q r s = rw (p, q, r, s) refl
