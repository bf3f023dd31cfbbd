-- The nets of a word that is gathered.
use Rattle.std.specs.Prelude.{ℕ}
use Rattle.netlist.specs.Netlists.{Netlist, IsNet}
use Rattle.netlist.specs.Longer.{Extends}
use Rattle.net_parts.specs.Nets.{IsNetOfWidth}
use Rattle.net_parts.specs.Laws.{net_lasts}
use Rattle.mm_split.specs.declared.gather.Gather.{Gather}

-- its pieces have so many bits
pub record IsGather (netlist : Netlist) (gather : Gather) (bits : ℕ) : Type 0 where
  pub here : IsNet netlist gather.here
  pub word : IsNet netlist gather.word
  pub piece : IsNetOfWidth netlist gather.piece bits

-- ---- what stands lasts. No contract reads this proof

pub gather_lasts : (old new : Netlist) (gather : Gather) (bits : ℕ) → Extends old new → IsGather old gather bits
    → IsGather new gather bits
gather_lasts old new gather bits e h = record {
  here = e.nets gather.here.number gather.here.width h.here;
  word = e.nets gather.word.number gather.word.width h.word;
  piece = net_lasts old new gather.piece bits e h.piece;
}
