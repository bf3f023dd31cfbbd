use Rattle.std.proofs.Common.{arith}
use Rattle.memory_awake.proofs.FairPassing.{is_passed_by_few}
use Rattle.memory_awake.proofs.Building.{end_words}
use Rattle.memory_awake.proofs.FairPipe.{down_the_pipe}
use Rattle.memory_awake.proofs.fair.waiting_commands_are_passed_by_few.Goals as goal

pub returns : goal.returns
returns c = λ responses system run inside states ranks end agent late built legal there asks.
    let parts = c.machines_keep_their_records.ensures.parts responses system run inside states ranks end built legal in
    is_passed_by_few (record { seats = c.turns_keep_seats.ensures.seats; asked = c.turns_keep_seats.ensures.asked }) system run agent (λ h. inside.upper h agent 0) (inside.lower agent 0) (inside.lower agent system.stages) end there
    (c.commands_begin_by_turns.ensures responses system run inside states ranks end agent built legal there) (parts.arbiter agent there) (λ h low. end_words built.machines h agent low there)
    (λ k fit. down_the_pipe (λ i. (inside.lower agent i).port) system.stages end 0 k (omega (arith, fit)) (λ i low. parts.stage agent i there low)) late asks legal.hosts
    (λ host from size fit kept. c.askers_are_passed_by_few.ensures responses system run inside states ranks end agent host from size built legal there fit kept)
