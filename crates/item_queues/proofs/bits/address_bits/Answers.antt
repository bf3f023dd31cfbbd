use Rattle.std.proofs.Common.{refl, arith}
use Rattle.item_queues.proofs.Counts.{least_bits}
use Rattle.item_queues.proofs.bits.address_bits.Goals as goal

pub returns-then-words-le8-clause-least : goal.returns-then-words-le8-clause-least
returns-then-words-le8-clause-least c bits some fits = least_bits c.args.words bits 2 4 fits refl (omega arith)

pub returns-then-words-le16-clause-least : goal.returns-then-words-le16-clause-least
returns-then-words-le16-clause-least c bits some fits = least_bits c.args.words bits 3 8 fits refl (omega arith)

pub returns-then-words-le32-clause-least : goal.returns-then-words-le32-clause-least
returns-then-words-le32-clause-least c bits some fits = least_bits c.args.words bits 4 16 fits refl (omega arith)

pub returns-then-words-le64-clause-least : goal.returns-then-words-le64-clause-least
returns-then-words-le64-clause-least c bits some fits = least_bits c.args.words bits 5 32 fits refl (omega arith)

pub returns-then-words-le128-clause-least : goal.returns-then-words-le128-clause-least
returns-then-words-le128-clause-least c bits some fits = least_bits c.args.words bits 6 64 fits refl (omega arith)

pub returns-else-words-le128-clause-least : goal.returns-else-words-le128-clause-least
returns-else-words-le128-clause-least c bits some fits = least_bits c.args.words bits 7 128 fits refl (omega arith)
