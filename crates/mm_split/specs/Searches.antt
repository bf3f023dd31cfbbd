-- Where in a mask nets look.
use Rattle.netlist.specs.Netlists.{Netlist, IsNet}
use Rattle.net_parts.specs.Nets.{IsNetOfWidth}
use Rattle.netlist.specs.Longer.{Extends}
use Rattle.net_parts.specs.Counts.{AreZeros, zeros_last}
use Rattle.net_parts.specs.Laws.{net_lasts}
use Rattle.mm_split.specs.declared.lanes.Search.{Search}

-- the mask, a place of five bits, and zeros for a summand
pub record IsSearch (netlist : Netlist) (search : Search) : Type 0 where
  pub mask : IsNet netlist search.mask
  pub place : IsNetOfWidth netlist search.place 5
  pub zeros : AreZeros netlist search.zeros

-- ---- what stands lasts. No contract reads this proof

pub search_lasts : (old new : Netlist) (search : Search) → Extends old new → IsSearch old search → IsSearch new search
search_lasts old new search e h = record {
  mask = e.nets search.mask.number search.mask.width h.mask;
  place = net_lasts old new search.place 5 e h.place;
  zeros = zeros_last old new search.zeros e h.zeros;
}
