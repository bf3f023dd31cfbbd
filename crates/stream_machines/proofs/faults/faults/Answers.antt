use Rattle.stream_machines.proofs.faults.faults.Goals as goal
use Rattle.stream_machines.proofs.FaultLemmas

pub returns-clause-legal : goal.returns-clause-legal
returns-clause-legal c = FaultLemmas.two_channels-legal

pub returns-clause-no_widen_of_channels : goal.returns-clause-no_widen_of_channels
returns-clause-no_widen_of_channels c = FaultLemmas.two_channels

pub returns-clause-no_early_piece : goal.returns-clause-no_early_piece
returns-clause-no_early_piece c = FaultLemmas.eager

pub returns-clause-no_lost_error : goal.returns-clause-no_lost_error
returns-clause-no_lost_error c = FaultLemmas.tied_error

pub returns-clause-no_blinking : goal.returns-clause-no_blinking
returns-clause-no_blinking c = FaultLemmas.no_rank_blinks

pub returns-clause-no_wire_behind_delay : goal.returns-clause-no_wire_behind_delay
returns-clause-no_wire_behind_delay c = FaultLemmas.rank_rises

pub returns-clause-no_waiting_source : goal.returns-clause-no_waiting_source
returns-clause-no_waiting_source c = FaultLemmas.no_source_waits

pub returns-clause-no_hidden_beat : goal.returns-clause-no_hidden_beat
returns-clause-no_hidden_beat c = FaultLemmas.no_beat_hides
