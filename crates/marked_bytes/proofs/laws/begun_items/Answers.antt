use Rattle.marked_bytes.proofs.Packets.{begun_items}
use Rattle.marked_bytes.proofs.laws.begun_items.Goals as goal

pub returns : goal.returns
returns c = begun_items
