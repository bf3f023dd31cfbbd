use Rattle.std.proofs.Common.{ℕ, ◌≡◌, ◌<◌, ◌∙◌, ap}
use Rattle.memory_runs.specs.Views.{Shape}
use Rattle.memory_machines.specs.Machines.{ShowsFitBeats}
use Rattle.memory_awake.proofs.Arbiter.{TurnLaws}
use Rattle.memory_awake.proofs.HostWired.{parts_of, top_rest, top_steps, top_reads}
use Rattle.memory_awake.proofs.hosts.routes_take_few_steps.Goals as goal

pub returns : goal.returns
returns c = λ responses system run inside states ranks end agent host built legal there low.
    let behind = λ (h a : ℕ). inside.upper h a (inside.links h a) in
    let up = λ (h : ℕ). inside.upper h agent 0 in
    let all = parts_of responses system run inside states ranks end agent built there (c.machines_keep_their_records.ensures.parts responses system run inside states ranks end built legal)
    (c.machines_keep_their_records.ensures.awake responses system run inside states ranks end built legal) (c.machines_are_awake.ensures.safe responses system run inside states ranks end built legal) in
    let fits : (h : ℕ) → h < system.hosts → ShowsFitBeats (inside.upper h agent (inside.links h agent)) end = λ h low. c.routes_show_fit_beats.ensures responses system run h (states.room h) (inside.after_host h) (λ a. inside.upper h a (inside.links h a)) (states.host h) (states.route h) end (legal.hosts h low) (built.machines.host h low) (built.machines.route h low) agent there in
    let bits : (h : ℕ) → h < system.hosts → (inside.upper h agent (inside.links h agent)).shape.burst_bits ≡ (system.host h).burst_bits = λ h low. ap (λ (s : Shape). s.burst_bits) ((built.machines.route h low).shapes agent there) ∙ (built.machines.host h low).bursts in
    let laws : TurnLaws = record { seats = c.turns_keep_seats.ensures.seats; asked = c.turns_keep_seats.ensures.asked } in (
      top_rest laws system run agent end inside.after_host behind up (inside.lower agent system.stages) all fits bits host,
      top_steps laws system run agent end inside.after_host behind up (inside.lower agent system.stages) all fits bits host low,
      top_reads laws system run agent end inside.after_host behind up (inside.lower agent system.stages) all fits bits host low,
    )
