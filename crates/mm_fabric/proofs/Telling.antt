-- What the agents of a host tell it.
use Rattle.std.proofs.Common.{◌≡◌, ℕ, zero, suc, ◌<◌, List, [], ◌∷◌, get_or, length, Some, slice_get, sym, subst, ap, ◌∙◌, arith}
use Rattle.std.specs.List.{AllZip}
use Rattle.std.proofs.lemmas.Option.{slice_get_within, slice_get-get_or}
use Rattle.netlist.specs.Netlists.{Netlist}
use Rattle.netlist.specs.Longer.{Extends}
use Rattle.net_parts.specs.Laws.{net_lasts}
use Rattle.memory_runs.specs.declared.sides.route.Route.{Route}
use Rattle.command_nets.specs.Nets.{AreAnswerNets}
use Rattle.command_nets.specs.Groups.{answer_lasts}
use Rattle.mm_route.specs.declared.back.BackNets.{BackNets}
use Rattle.mm_route.specs.Backward.{AreBackNets}
use Rattle.net_parts.specs.Nets.{IsBit}
use Rattle.mm_fabric.specs.declared.parts.Seat.{Seat}
use Rattle.mm_fabric.specs.declared.parts.AgentPart.{AgentPart}
use Rattle.mm_fabric.specs.Askers.{IsTold}
use Rattle.mm_fabric.specs.Fabrics.{seat_of}
use Rattle.mm_fabric.specs.Tells.{HasSeat, IsBackFor, AllCanTell, AllHaveSeats}

pub told_lasts : (old new : Netlist) (bits : ℕ) (seat : Seat) → IsTold old bits seat → Extends old new → IsTold new bits seat
told_lasts old new bits seat h e = record { wait = net_lasts old new seat.told.wait 1 e h.wait; answer = answer_lasts old new seat.told.answer bits e h.answer }

pub seat_at : (host : ℕ) (parts : List AgentPart) (routes : List Route) (k : ℕ) (d : Route) → AllHaveSeats host parts routes → k < length routes → (seat : Seat) × HasSeat host parts (get_or routes k d) seat
seat_at host parts [] k d h lt = absurd (omega arith)
seat_at host parts (route ∷ later) zero d h lt = h.0
seat_at host parts (route ∷ later) (suc k) d h lt = seat_at host parts later k d h.1 (omega arith)

pub same_part : (parts : List AgentPart) (n : ℕ) (part x : AgentPart) → slice_get parts n ≡ Some part → x ≡ get_or parts n x → part ≡ x
same_part parts n part x at is = let there = slice_get-get_or parts n x (slice_get_within parts n part at) in cc

pub can_have : (netlist : Netlist) (bits host : ℕ) (parts : List AgentPart) (routes : List Route) → AllCanTell netlist bits host parts routes → AllHaveSeats host parts routes
can_have netlist bits host parts [] h = tt
can_have netlist bits host parts (route ∷ routes) h = ((h.0.seat, h.0.has), can_have netlist bits host parts routes h.1)

pub same_seat : (host : ℕ) (parts : List AgentPart) (route : Route) (one other : Seat) → HasSeat host parts route one → HasSeat host parts route other → one ≡ other
same_seat host parts route one other h g =
    let same : h.part ≡ g.part = (let a = h.at in let b = g.at in cc) in
    let leads : seat_of host g.part.seats ≡ Some one = subst (λ (p : AgentPart). seat_of host p.seats ≡ Some one) same h.leads in
    let others = g.leads in
    cc

pub backs_stand : (netlist : Netlist) (bits host : ℕ) (parts : List AgentPart) (routes : List Route) (backs : List BackNets) → AllCanTell netlist bits host parts routes → AllZip (IsBackFor host parts) routes backs → AreBackNets netlist bits backs
backs_stand netlist bits host parts [] [] h b = tt
backs_stand netlist bits host parts [] (back ∷ backs) h b = absurd b
backs_stand netlist bits host parts (route ∷ routes) [] h b = absurd b
backs_stand netlist bits host parts (route ∷ routes) (back ∷ backs) h b =
    let same = same_seat host parts route h.0.seat b.0.seat h.0.has b.0.has in
    let is : h.0.seat.told ≡ back = ap (λ (s : Seat). s.told) same ∙ sym b.0.is in
    ((subst (λ (x : BackNets). IsBit netlist x.wait) is h.0.told.wait, subst (λ (x : BackNets). AreAnswerNets netlist x.answer bits) is h.0.told.answer), backs_stand netlist bits host parts routes backs h.1 b.1)
