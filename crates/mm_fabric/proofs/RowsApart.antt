-- Registers and memories of links that are begun: whose they are.
use Rattle.std.proofs.Common.{ℕ, List, [], ◌∷◌, inl, inr}
use Rattle.netlist.specs.Netlists.{Netlist}
use Rattle.mm_width.specs.Widths.{BegunWidth, AreBegunWidths, IsOfAnyWidth, IsStoredByAnyWidth}
use Rattle.mm_fabric.specs.Rows.{IsOfRows, IsStoredByRows}

pub none_are_begun : (netlist : Netlist) → AreBegunWidths [] netlist
none_are_begun netlist = (tt, tt)

pub any_of_rows : (rows : List BegunWidth) (n : ℕ) → IsOfAnyWidth rows n → IsOfRows rows n
any_of_rows [] n h = absurd h
any_of_rows (row ∷ rows) n (inl own) = inl own
any_of_rows (row ∷ rows) n (inr later) = inr (any_of_rows rows n later)

pub stored_by_rows : (rows : List BegunWidth) (m : ℕ) → IsStoredByAnyWidth rows m → IsStoredByRows rows m
stored_by_rows [] m h = absurd h
stored_by_rows (row ∷ rows) m (inl own) = inl own
stored_by_rows (row ∷ rows) m (inr later) = inr (stored_by_rows rows m later)
