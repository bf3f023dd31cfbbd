use Rattle.std.proofs.Common.{rules, ◌≡◌, ◌+◌, ◌^◌, ◌<◌, ◌≤◌, ◌∙◌, Bool, true, false, List, length, ◌⊎◌, nat_lt, arith, inl, inr, refl, sym, subst, ap, ap₂, ℕ}
use Rattle.std.proofs.lemmas.Bool.{ltb-true, ltb-false}
use Rattle.iface_roles.specs.declared.records.HostPort.{HostPort}
use Rattle.iface_roles.specs.declared.records.AgentPort.{AgentPort}
use Rattle.netlist.specs.Netlists.{Netlist, IsWaiting, WaitsForWrite}
use Rattle.net_parts.specs.Growth.{GrowsInMemory}
use Rattle.net_parts.specs.Laws.{owned_same, waiting_within}
use Rattle.net_parts.specs.Memories.{ForwardGrows, ForwardMemories, MemoriesCome, forward_grown, memory_grows_fewer, memories_come, memory_within}
use Rattle.net_parts.specs.Refusing.{handed_on}
use Rattle.link_core.specs.Rooms.{WithRoomFor, room_told}
use Rattle.memory_machines.specs.Machines.{Raw}
use Rattle.command_nets.specs.declared.nets.CommandNets.{CommandNets}
use Rattle.command_nets.specs.Nets.{Widths, widths_of}
use Rattle.mm_width.specs.Links.{Width, width_of}
use Rattle.mm_width.specs.Kept.{WidthKept, WidthCommand, stores_width, command_lasts}
use Rattle.mm_width.specs.Widths.{BegunWidth, AreBegunWidths, IsOfAnyWidth, IsStoredByAnyWidth}
use Rattle.mm_width.proofs.Numbers.{nets_of, memories_of, few_nets, few_memories, widths_through, through, same_tag}
use Rattle.mm_width.proofs.Rows.{begun_push, last_owned, last_stored}
use Rattle.mm_width.proofs.Takes.{Takes, takes}
use Rattle.mm_width.proofs.Wires.{wired_command}
use Rattle.mm_width.proofs.width.begin_width.Goals as goal

-- the memories of the links
come : (width : Width) (kept : WidthKept) (old new : Netlist) → ForwardGrows (memories_of width) (nets_of width) old new → ForwardMemories (memories_of width) (stores_width kept) old new → MemoriesCome (stores_width kept) old new
come width kept old new grows written = memories_come (memories_of width) (nets_of width) (stores_width kept) old new grows written

pub emit_command-requires-clause-widths : goal.emit_command-requires-clause-widths
emit_command-requires-clause-widths c =
    subst (λ (n : CommandNets). Takes c.width_of-link.result (widths_of n)) (sym c.copied.ensures)
    (subst (λ (w : Width). Takes w (widths_of c.args.from)) (sym c.width_of-link.ensures) (takes c.args.host.now c.args.agent.now c.args.stages c.requires.stages c.requires.pair (widths_of c.args.from) c.requires.widths))

pub returns-clause-command : goal.returns-clause-command
returns-clause-command c =
    let to = c.in_ok-to.ensures.command in
    record {
      read = to.read;
      write = to.write;
      address = to.address;
      word = to.word;
      enables = to.enables;
      count = to.count;
      more = to.more;
      tag = (forward_grown _ _ _ _ c.emit_command.ensures.grows).extends.nets _ _ c.requires.from.tag;
    }

pub returns-clause-wire : goal.returns-clause-wire
returns-clause-wire c wire =
    let made = subst (λ (n : CommandNets). WidthCommand c.width_of-link.result n c.in_ok-to.to c.in_ok-to.kept c.emit_command.new.builder) c.copied.ensures c.in_ok-to.ensures.made in
    let here = subst (λ (w : Width). WidthCommand w c.args.from c.in_ok-to.to c.in_ok-to.kept c.emit_command.new.builder) c.width_of-link.ensures made in
    ap (λ (n : CommandNets). record n { tag = c.args.from.tag }) (wired_command c.args.host.now c.args.agent.now c.args.stages c.args.from c.in_ok-to.to c.in_ok-to.kept c.emit_command.new.builder wire here)

pub returns-clause-begun : goal.returns-clause-begun
returns-clause-begun c =
    let made = subst (λ (n : CommandNets). WidthCommand c.width_of-link.result n c.in_ok-to.to c.in_ok-to.kept c.emit_command.new.builder) c.copied.ensures c.in_ok-to.ensures.made in
    let here = subst (λ (n : CommandNets). WidthCommand c.width_of-link.result c.args.from n c.in_ok-to.kept c.emit_command.new.builder) (sym c.copied-2.ensures) made in
    subst (λ (l : List BegunWidth). AreBegunWidths l c.emit_command.new.builder) (sym {A = List BegunWidth} c.in_ok-push.ensures.items)
    (begun_push _ _ c.args.builder.now c.emit_command.new.builder c.requires.begun (forward_grown _ _ _ _ c.emit_command.ensures.grows).extends c.emit_command.ensures.waits
    (record { kept = c.in_ok-to.ensures.kept; made = here; waits = c.in_ok-to.ensures.own_wait }) c.in_ok-to.ensures.owned
    (come c.width_of-link.result c.in_ok-to.kept c.args.builder.now c.emit_command.new.builder c.emit_command.ensures.grows c.in_ok-to.ensures.written))

grown : (host : HostPort) (agent : AgentPort) (stages : ℕ) (width : Width) (old new : Netlist) → width ≡ width_of host agent stages → ForwardGrows (memories_of width) (nets_of width) old new → GrowsInMemory 418 4 old new
grown host agent stages width old new is grows =
    memory_grows_fewer (nets_of width) 418 (memories_of width) 4 old new (subst (λ (w : Width). nets_of w ≤ 418) (sym is) (few_nets host agent stages)) (subst (λ (w : Width). memories_of w ≤ 4) (sym is) (few_memories host agent stages))
    (forward_grown (memories_of width) (nets_of width) old new grows)

pub returns-in_err-to-clause-grows : goal.returns-in_err-to-clause-grows
returns-in_err-to-clause-grows c = grown c.args.host.now c.args.agent.now c.args.stages c.width_of-link.result c.args.builder.now c.emit_command.new.builder c.width_of-link.ensures c.emit_command.ensures.grows

-- with room for their memories the nets are too many
too_many : (nets stored lines memories : ℕ) (netlist : Netlist) → nets ≤ 418 → stored ≤ 4 → length netlist.lines ≡ lines → length netlist.memories ≡ memories → WithRoomFor stored netlist (2 ^ 20 < length netlist.lines + nets) → (2 ^ 20 < lines + 418) ⊎ (2 ^ 16 < memories + 4)
too_many nets stored lines memories netlist few less l m full = by (nat_lt (2 ^ 16) (memories + 4)) refl
  where
    by : (t : Bool) → nat_lt (2 ^ 16) (memories + 4) ≡ t → (2 ^ 20 < lines + 418) ⊎ (2 ^ 16 < memories + 4)
    by true e = inr (ltb-true (2 ^ 16) (memories + 4) e)
    by false e =
        let enough = ltb-false (2 ^ 16) (memories + 4) e in
        let most = room_told stored netlist (inr (omega (arith, enough, less, m))) full in
        inl (omega (arith, most, few, l))

pub returns-in_err-to-clause-full : goal.returns-in_err-to-clause-full
returns-in_err-to-clause-full c e =
    let few = subst (λ (w : Width). nets_of w ≤ 418) (sym c.width_of-link.ensures) (few_nets c.args.host.now c.args.agent.now c.args.stages) in
    let less = subst (λ (w : Width). memories_of w ≤ 4) (sym c.width_of-link.ensures) (few_memories c.args.host.now c.args.agent.now c.args.stages) in
    too_many (nets_of c.width_of-link.result) (memories_of c.width_of-link.result) _ _ c.args.builder.now few less refl refl (c.emit_command.ensures.full (handed_on _ _ _ _ c.in_err-to.was c.from_residual.ensures.1 e))

pub returns-in_err-push-clause-grows : goal.returns-in_err-push-clause-grows
returns-in_err-push-clause-grows c = grown c.args.host.now c.args.agent.now c.args.stages c.width_of-link.result c.args.builder.now c.emit_command.new.builder c.width_of-link.ensures c.emit_command.ensures.grows

pub returns-clause-grows : goal.returns-clause-grows
returns-clause-grows c = grown c.args.host.now c.args.agent.now c.args.stages c.width_of-link.result c.args.builder.now c.emit_command.new.builder c.width_of-link.ensures c.emit_command.ensures.grows

pub returns-clause-widths : goal.returns-clause-widths
returns-clause-widths c =
    let made : widths_of c.in_ok-to.to ≡ widths_through c.width_of-link.result (widths_of c.copied.result) = c.in_ok-to.ensures.widths in
    let here : widths_of c.in_ok-to.to ≡ widths_through (width_of c.args.host.now c.args.agent.now c.args.stages) (widths_of c.args.from) =
    made ∙ ap₂ (λ (w : Width) (n : CommandNets). widths_through w (widths_of n)) c.width_of-link.ensures c.copied.ensures in
    ap (λ (w : Widths). record w { tag = c.args.from.tag.width }) (here ∙ through c.args.host.now c.args.agent.now c.args.stages (widths_of c.args.from) c.requires.widths)
    ∙ same_tag c.args.host.now c.args.agent.now (widths_of c.args.from)

pub returns-clause-pushed : goal.returns-clause-pushed
returns-clause-pushed c = record {
  to = c.in_ok-to.to;
  kept = c.in_ok-to.kept;
  below_is = search rules;
  is = search rules;
  fresh = λ n own waits. (let below = waiting_within c.args.builder.now n waits in let from = c.in_ok-to.ensures.owned n own in omega (arith, below, from.0));
  fresh_memories = λ m own waits. (
      let below = memory_within c.args.builder.now m waits in
      let from = (come c.width_of-link.result c.in_ok-to.kept c.args.builder.now c.emit_command.new.builder c.emit_command.ensures.grows c.in_ok-to.ensures.written).between m own in
      omega (arith, below, from.0));
}

pub returns-clause-newly : goal.returns-clause-newly
returns-clause-newly c n w =
    subst (λ (l : List BegunWidth). IsWaiting c.args.builder.now n ⊎ IsOfAnyWidth l n) (sym c.in_ok-push.ensures.items)
    (elim (c.in_ok-to.ensures.newly n w) [ inl old ↦ inl old | inr own ↦ inr (last_owned _ _ n own) ])

pub returns-clause-still_wait_for_write : goal.returns-clause-still_wait_for_write
returns-clause-still_wait_for_write c = (come c.width_of-link.result c.in_ok-to.kept c.args.builder.now c.emit_command.new.builder c.emit_command.ensures.grows c.in_ok-to.ensures.written).still

pub returns-clause-newly_written : goal.returns-clause-newly_written
returns-clause-newly_written c m w =
    subst (λ (l : List BegunWidth). WaitsForWrite c.args.builder.now m ⊎ IsStoredByAnyWidth l m) (sym c.in_ok-push.ensures.items)
    (elim ((come c.width_of-link.result c.in_ok-to.kept c.args.builder.now c.emit_command.new.builder c.emit_command.ensures.grows c.in_ok-to.ensures.written).newly m w) [ inl old ↦ inl old | inr own ↦ inr (last_stored _ _ m own) ])

pub returns-clause-ignores_answer : goal.returns-clause-ignores_answer
returns-clause-ignores_answer c longer e one other v w state same =
    let made = subst (λ (n : CommandNets). WidthCommand c.width_of-link.result n c.in_ok-to.to c.in_ok-to.kept c.emit_command.new.builder) c.copied.ensures c.in_ok-to.ensures.made in
    let below = c.law.ensures.ignores_answer c.args.from c.in_ok-to.to c.in_ok-to.kept longer (command_lasts c.width_of-link.result c.args.from c.in_ok-to.to c.in_ok-to.kept c.emit_command.new.builder longer made e) one other v w
    (λ n o. owned_same c.emit_command.new.builder longer n one other c.well_made.ensures e (c.in_ok-to.ensures.own_wait n o) state) (λ m memory o is place within. state.words m memory is place within) same in
    ap₂ (λ (r : Raw) (t : ℕ). record r { tag = t }) below (ap (λ (r : Raw). r.tag) same)
