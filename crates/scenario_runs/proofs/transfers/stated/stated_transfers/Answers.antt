use Rattle.std.proofs.Common.{ℕ, subst}
use Rattle.packet_bytes.specs.Rules.{AreTransfers}
use Rattle.scenario_runs.proofs.transfers.Whole.{is_size}
use Rattle.scenario_runs.proofs.transfers.stated.stated_transfers.Goals as goal

pub read-requires : goal.read-requires
read-requires c = is_size c.args.port.now c.requires.bounded

pub read_back-requires : goal.read_back-requires
read_back-requires c =
    c.transfers_are_stated.ensures c.args.plan.now.system c.args.port.now c.args.cycles c.args.bytes.now c.in_ok-transfers.transfers c.well_made.ensures.system c.requires.host c.requires.bounded c.requires.some
    c.requires.few (λ k. (c.type_inv.bytes k).fits)
    (subst (λ (range : ℕ). AreTransfers c.args.port.now.word_bytes range c.args.bytes.now c.in_ok-transfers.transfers) c.reach.ensures c.in_ok-transfers.ensures.transfers)
