-- The commands that are asked of an agent: their widths, their tags and what comes back.
use Rattle.std.proofs.Common.{◌≡◌, ℕ, ◌+◌, ◌≤◌, Bool, true, false, nat_lt, List, [], ◌∷◌, length, drop, Option, Some, None, IfSome, is_some, refl, sym, subst, ap, ◌∙◌, inl, inr, arith}
use Rattle.std.specs.List.{AllZip}
use Rattle.histories.specs.History.{one_if}
use Rattle.iface_roles.specs.declared.records.AgentPort.{AgentPort}
use Rattle.netlist.specs.Nets.{NetValue}
use Rattle.netlist.specs.Netlists.{Netlist, IsWaiting}
use Rattle.netlist.specs.Runs.{Always}
use Rattle.netlist.specs.Longer.{Extends}
use Rattle.net_parts.specs.Nets.{IsBit}
use Rattle.net_parts.specs.Groups.{group_widths}
use Rattle.command_nets.specs.declared.nets.CommandNets.{CommandNets}
use Rattle.command_nets.specs.Nets.{AreAnswerNets, Widths, group_of}
use Rattle.command_nets.specs.Groups.{first_value}
use Rattle.mm_agent.specs.Agents.{BearsOneTag, needs_queue}
use Rattle.mm_agent.specs.Forms.{nets_by, agent_nets, most_nets, agent_memories, NoRoomBy, HasNoRoom}
use Rattle.mm_arbiter.specs.declared.asker.Asker.{Asker}
use Rattle.mm_arbiter.specs.declared.back.BackNets.{BackNets}
use Rattle.mm_arbiter.specs.declared.back.BelowNets.{BelowNets}
use Rattle.mm_arbiter.specs.declared.arbiter.HeldArbiter.{HeldArbiter}
use Rattle.mm_arbiter.specs.declared.rounds.RoundNets.{RoundNets}
use Rattle.mm_arbiter.specs.Shown.{AreCommands, HaveWidths}
use Rattle.mm_arbiter.specs.Forward.{owns, registers_of, KeepsRound, ArbiterKeeps, ArbiterForward}
use Rattle.mm_arbiter.specs.Backward.{AreBacks, RoundBackward, lone_back}
use Rattle.mm_arbiter.specs.Machine.{BearsTag, ArbiterBackward}
use Rattle.net_parts.specs.Groups.{InGroup}
use Rattle.mm_fabric.specs.declared.parts.Seat.{Seat}
use Rattle.mm_fabric.specs.Parts.{backs_above}
use Rattle.mm_fabric.specs.Askers.{IsAsked, AreToldBelow, HasNoRoomFor}

-- ---- widths

abbrev pub all_widths : Widths → List ℕ
all_widths w = 1 ∷ 1 ∷ w.address ∷ w.word ∷ w.enables ∷ w.count ∷ 1 ∷ w.tag ∷ []

asked_widths : (netlist : Netlist) (widths : Widths) (asker : Asker) (command : CommandNets) → IsAsked netlist widths asker command → group_widths (group_of command) ≡ all_widths widths
asked_widths netlist widths asker command h =
    let read = h.nets.read.has_width in
    let write = h.nets.write.has_width in
    let more = h.nets.more.has_width in
    let same = h.widths_are in
    cc

module _ (netlist : Netlist) (widths : Widths) where
  pub asked_are_commands : (askers : List Asker) (commands : List CommandNets) → AllZip (IsAsked netlist widths) askers commands → AreCommands netlist commands
  asked_are_commands [] [] h = tt
  asked_are_commands [] (command ∷ commands) h = absurd h
  asked_are_commands (asker ∷ askers) [] h = absurd h
  asked_are_commands (asker ∷ askers) (command ∷ commands) h = (h.0.nets, asked_are_commands askers commands h.1)

  pub asked_have_widths : (askers : List Asker) (commands : List CommandNets) → AllZip (IsAsked netlist widths) askers commands → HaveWidths (all_widths widths) commands
  asked_have_widths [] [] h = tt
  asked_have_widths [] (command ∷ commands) h = absurd h
  asked_have_widths (asker ∷ askers) [] h = absurd h
  asked_have_widths (asker ∷ askers) (command ∷ commands) h = (asked_widths netlist widths asker command h.0, asked_have_widths askers commands h.1)

pub address_width : (widths : Widths) (command : CommandNets) → group_widths (group_of command) ≡ all_widths widths → command.address.width ≡ widths.address
address_width widths command e = ap (λ ws. first_value (drop 2 ws)) e

pub word_width : (widths : Widths) (command : CommandNets) → group_widths (group_of command) ≡ all_widths widths → command.word.width ≡ widths.word
word_width widths command e = ap (λ ws. first_value (drop 3 ws)) e

pub count_width : (widths : Widths) (command : CommandNets) → group_widths (group_of command) ≡ all_widths widths → command.count.width ≡ widths.count
count_width widths command e = ap (λ ws. first_value (drop 5 ws)) e

pub enables_width : (widths : Widths) (command : CommandNets) → group_widths (group_of command) ≡ all_widths widths → command.enables.width ≡ widths.enables
enables_width widths command e = ap (λ ws. first_value (drop 4 ws)) e

pub tag_width : (widths : Widths) (command : CommandNets) → group_widths (group_of command) ≡ all_widths widths → command.tag.width ≡ widths.tag
tag_width widths command e = ap (λ ws. first_value (drop 7 ws)) e

-- ---- one asker alone

pub none_of : {X : Type 0} (o : Option X) → is_some o ≡ false → o ≡ None
none_of None e = refl
none_of (Some x) e = absurd (cc)

one_tag : (netlist : Netlist) (widths : Widths) (askers : List Asker) (command : CommandNets) → AllZip (IsAsked netlist widths) askers (command ∷ []) → BearsOneTag netlist command
one_tag netlist widths [] command h = absurd h
one_tag netlist widths (asker ∷ askers) command h = record { tag = asker.host; always = h.0.tag }

-- the command below bears one tag
pub lone_bears : (old new : Netlist) (widths : Widths) (askers : List Asker) (commands : List CommandNets) (command : CommandNets) (held : HeldArbiter) → AllZip (IsAsked old widths) askers commands → Extends old new →
    ArbiterForward askers commands command held new → is_some held.round ≡ false → BearsOneTag new command
lone_bears old new widths askers commands command held h e f alone =
    let one = one_tag old widths askers command (subst (AllZip (IsAsked old widths) askers) (f.alone (none_of held.round alone)) h) in
    record { tag = one.tag; always = λ cycle v. one.always cycle (e.valuations cycle v) }

lone_tag : (netlist : Netlist) (widths : Widths) (asker : Asker) (command : CommandNets) → AllZip (IsAsked netlist widths) (asker ∷ []) (command ∷ []) → Always netlist (λ cycle. cycle.net command.tag.number ≡ asker.host)
lone_tag netlist widths asker command h = h.0.tag

-- and so does each answer
pub answers_bear : (old begun now : Netlist) (widths : Widths) (askers : List Asker) (commands : List CommandNets) (command : CommandNets) (held : HeldArbiter) (below : BelowNets) → AllZip (IsAsked old widths) askers commands → Extends old now →
    ArbiterForward askers commands command held begun → is_some held.round ≡ nat_lt 1 (length askers) → (nat_lt 1 (length askers) ≡ false → below.tag ≡ command.tag) → BearsTag now askers below
answers_bear old begun now widths [] commands command held below h e f kind tag = tt
answers_bear old begun now widths (asker ∷ []) commands command held below h e f kind tag =
    let same = tag refl in
    λ cycle v. ap (λ (net : NetValue). cycle.net net.number) same ∙ lone_tag old widths asker command (subst (AllZip (IsAsked old widths) (asker ∷ [])) (f.alone (none_of held.round kind)) h) cycle (e.valuations cycle v)
answers_bear old begun now widths (asker ∷ next ∷ later) commands command held below h e f kind tag = tt

-- ---- registers

waiting_of : (netlist : Netlist) (count : ℕ) (round : Option RoundNets) → IfSome round (KeepsRound count netlist) → (n : ℕ) → InGroup (registers_of round) n → IsWaiting netlist n
waiting_of netlist count None h n o = absurd o
waiting_of netlist count (Some round) h n o = h.wait.wait n o

pub owned_wait : (netlist : Netlist) (held : HeldArbiter) (count : ℕ) → ArbiterKeeps held count netlist → (n : ℕ) → owns held n → IsWaiting netlist n
owned_wait netlist held count h n o = waiting_of netlist count held.round h.round n o

-- ---- what comes back

abbrev AreBackNets : Netlist → ℕ → List BackNets → Type 0
AreBackNets netlist bits [] = Unit {0}
AreBackNets netlist bits (back ∷ backs) = (IsBit netlist back.wait × AreAnswerNets netlist back.answer bits) × AreBackNets netlist bits backs

of_round : (netlist : Netlist) (chosen : NetValue) (below : BelowNets) (bits seat : ℕ) (askers : List Asker) (backs : List BackNets) → AreBacks netlist chosen below bits seat askers backs → length backs ≡ length askers → AreBackNets netlist bits backs
of_round netlist chosen below bits seat askers [] h e = tt
of_round netlist chosen below bits seat [] (back ∷ backs) h e = absurd (omega (arith, e))
of_round netlist chosen below bits seat (asker ∷ askers) (back ∷ backs) h e = ((h.0.wait_net, h.0.nets), of_round netlist chosen below bits (seat + 1) askers backs h.1 (omega (arith, e)))

of_any : (netlist : Netlist) (round : Option RoundNets) (command : CommandNets) (below : BelowNets) (bits : ℕ) (askers : List Asker) (backs : List BackNets) → (round ≡ None → backs ≡ lone_back below ∷ []) → IfSome round (RoundBackward askers command below bits backs netlist) → length backs ≡ length askers →
    IsBit netlist below.wait → AreAnswerNets netlist below.answer bits → AreBackNets netlist bits backs
of_any netlist None command below bits askers backs alone h e wait answer = subst (AreBackNets netlist bits) (sym (alone refl)) ((wait, answer), tt)
of_any netlist (Some round) command below bits askers backs alone h e wait answer = of_round netlist round.chosen.seat below bits 0 askers backs h.given e

seats_told : (netlist : Netlist) (bits : ℕ) (seats : List Seat) → AreBackNets netlist bits (backs_above seats) → AreToldBelow netlist bits seats
seats_told netlist bits [] h = tt
seats_told netlist bits (seat ∷ seats) h = (record { wait = h.0.0; answer = h.0.1 }, seats_told netlist bits seats h.1)

pub told_of : (netlist : Netlist) (askers : List Asker) (held : HeldArbiter) (below : BelowNets) (bits : ℕ) (backs : List BackNets) (seats : List Seat) → ArbiterBackward askers held below bits backs netlist → length backs ≡ length askers →
    IsBit netlist below.wait → AreAnswerNets netlist below.answer bits → backs_above seats ≡ backs → AreToldBelow netlist bits seats
told_of netlist askers held below bits backs seats h e wait answer same = seats_told netlist bits seats (subst (AreBackNets netlist bits) (sym same) (of_any netlist held.round held.command below bits askers backs h.alone h.round e wait answer))

-- ---- numbers

nets_fewer : (several queued : Bool) → nets_by several queued ≤ most_nets
nets_fewer true true = omega arith
nets_fewer true false = omega arith
nets_fewer false true = omega arith
nets_fewer false false = omega arith

pub fewer_nets : (several : Bool) (port : AgentPort) → agent_nets several port ≤ most_nets
fewer_nets several port = nets_fewer several (needs_queue several port)

memories_fewer : (queued : Bool) → one_if queued ≤ 1
memories_fewer true = omega arith
memories_fewer false = omega arith

pub fewer_memories : (several : Bool) (port : AgentPort) → agent_memories several port ≤ 1
fewer_memories several port = memories_fewer (needs_queue several port)

no_room_by : (queued : Bool) (nets : ℕ) (netlist : Netlist) → nets ≤ most_nets → NoRoomBy queued nets netlist → HasNoRoomFor most_nets 1 netlist
no_room_by true nets netlist fewer h = elim h [ inl lines ↦ inl (omega (arith, lines, fewer)) | inr memories ↦ inr memories ]
no_room_by false nets netlist fewer h = inl (omega (arith, h, fewer))

pub no_room_for : (several : Bool) (port : AgentPort) (netlist : Netlist) → HasNoRoom several port netlist → HasNoRoomFor most_nets 1 netlist
no_room_for several port netlist h = no_room_by (needs_queue several port) (agent_nets several port) netlist (fewer_nets several port) h
