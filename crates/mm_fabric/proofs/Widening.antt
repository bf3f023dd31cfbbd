-- Commands on wider nets.
use Rattle.std.proofs.Common.{◌≡◌, ℕ, zero, suc, ◌+◌, ◌*◌, ◌^◌, ◌≤◌, ◌<◌, Bool, true, false, cond, if◌then◌else◌, nat_eq, List, [], ◌∷◌, ◌++◌, take, length, get_or, Some, refl, sym, subst, ap, ◌∙◌, arith}
use Rattle.std.proofs.lemmas.List.{take_more}
use Rattle.std.proofs.lemmas.Bool.{ltb-false}
use Rattle.std.proofs.lemmas.Option.{same_Some, none-some}
use Rattle.std.proofs.Math.Pow.{pow_mono}
use Rattle.std.specs.List.{AllZip, AllByRecursion}
use Rattle.iface_roles.specs.declared.records.AgentPort.{AgentPort}
use Rattle.iface_roles.specs.declared.records.HostPort.{HostPort}
use Rattle.iface_roles.specs.Proper.{span_of}
use Rattle.netlist.specs.Netlists.{Netlist}
use Rattle.netlist.specs.Longer.{Extends}
use Rattle.command_nets.specs.declared.nets.CommandNets.{CommandNets}
use Rattle.command_nets.specs.Nets.{AreCommandNets, Widths, widths_of}
use Rattle.command_nets.specs.Groups.{command_lasts}
use Rattle.memory_machines.specs.Machines.{Raw}
use Rattle.mm_arbiter.specs.declared.asker.Asker.{Asker}
use Rattle.mm_arbiter.specs.Shown.{AreCommands}
use Rattle.mm_arbiter.specs.declared.back.BackNets.{BackNets as ArbiterBackNets}
use Rattle.mm_arbiter.specs.Forward.{ArbiterForward}
use Rattle.mm_arbiter.specs.Machine.{RunsAsArbiter}
use Rattle.mm_host.specs.Reads.{unanswered_in}
use Rattle.mm_route.specs.declared.back.BackNets.{BackNets}
use Rattle.mm_burst.specs.CutterNets.{given_widths}
use Rattle.mm_width.specs.Pairs.{MayAskOf, keeps_beats, bits_between, needs_cut, cutter_between, widths_below}
use Rattle.mm_width.specs.Widths.{BegunWidth}
use Rattle.memory_runs.specs.Sides.{burst_width}
use Rattle.netlist.specs.Nets.{NetValue}
use Rattle.netlist.specs.Runs.{Always}
use Rattle.net_parts.specs.Laws.{extends_twice}
use Rattle.mm_fabric.specs.declared.parts.Asking.{Asking}
use Rattle.mm_fabric.specs.declared.parts.AgentPart.{AgentPart}
use Rattle.mm_fabric.specs.declared.parts.Seat.{Seat}
use Rattle.mm_fabric.specs.Askers.{IsAsked, AreAsked, AreToldBelow}
use Rattle.mm_fabric.specs.Lasting.{agent_part_lasts}
use Rattle.mm_fabric.specs.Bounds.{reads_at}
use Rattle.mm_fabric.specs.Fabrics.{seat_of}
use Rattle.mm_fabric.specs.Lone.{BoundsReads}
use Rattle.mm_fabric.specs.Parts.{IsAgentPart, askers_of, commands_above, backs_above}
use Rattle.mm_fabric.specs.Rows.{AllThree, MayLead, LeadsBelow, LeadsToSeat, TellsSeat, told_seat, told_seats}
use Rattle.mm_fabric.specs.Wide.{AsksFor, ReachWithin, AreWithin, IsWidened, IsSeated}
use Rattle.mm_fabric.proofs.BurstWidths.{some_width}
use Rattle.mm_fabric.proofs.RowsOfLinks.{leads_last}

-- ---- the command at a place

pub command_at : (netlist : Netlist) (commands : List CommandNets) (k : ℕ) (command : CommandNets) → AreCommands netlist commands → k < length commands → command ≡ get_or commands k command → AreCommandNets netlist command
command_at netlist [] k command h lt e = absurd (omega arith)
command_at netlist (first ∷ later) zero command h lt e = subst (AreCommandNets netlist) (sym e) h.0
command_at netlist (first ∷ later) (suc k) command h lt e = command_at netlist later k command h.1 (omega arith) e

pub within_at : (address count : ℕ) (commands : List CommandNets) (k : ℕ) (command : CommandNets) → AreWithin address count commands → k < length commands → command ≡ get_or commands k command → (command.address.width ≤ address) × (command.count.width ≤ count)
within_at address count [] k command h lt e = absurd (omega arith)
within_at address count (first ∷ later) zero command h lt e = subst (λ (c : CommandNets). (c.address.width ≤ address) × (c.count.width ≤ count)) (sym e) h.0
within_at address count (first ∷ later) (suc k) command h lt e = within_at address count later k command h.1 (omega arith) e

pub taken_one : {A : Type 0} (items : List A) (k : ℕ) (item : A) → k < length items → item ≡ get_or items k item → take k items ++ item ∷ [] ≡ take (k + 1) items
taken_one {A} items k item lt e = sym (take_more items k item lt ∙ ap (λ (x : A). take k items ++ x ∷ []) (sym e))

pub taken_with : (commands : List CommandNets) (k : ℕ) (command : CommandNets) → k < length commands → command ≡ get_or commands k command → take k commands ++ command ∷ [] ≡ take (k + 1) commands
taken_with commands k command lt e = sym (take_more commands k command lt ∙ ap (λ (c : CommandNets). take k commands ++ c ∷ []) (sym e))

-- ---- one more command

pub reach_more : (old address : ℕ) (commands : List CommandNets) (command : CommandNets) → ReachWithin old commands → old ≤ address → command.address.width ≤ address → ReachWithin address (commands ++ command ∷ [])
reach_more old address [] command h e a = (a, tt)
reach_more old address (first ∷ commands) command h e a = (let w = h.0 in omega (arith, w, e), reach_more old address commands command h.1 e a)

widened_last : (old new : Netlist) (address count : ℕ) (commands wide : List CommandNets) → AllZip (IsWidened old address count) commands wide → Extends old new → AllZip (IsWidened new address count) commands wide
widened_last old new address count [] [] h e = tt
widened_last old new address count [] (w ∷ wide) h e = absurd h
widened_last old new address count (command ∷ commands) [] h e = absurd h
widened_last old new address count (command ∷ commands) (w ∷ wide) h e =
    (record { nets = command_lasts old new w e h.0.nets; widths = h.0.widths; beat = λ cycle v. h.0.beat cycle (e.valuations cycle v) }, widened_last old new address count commands wide h.1 e)

pub zip_push : {A B : Type 0} (R : A → B → Type 0) (xs : List A) (ys : List B) (x : A) (y : B) → AllZip R xs ys → R x y → AllZip R (xs ++ x ∷ []) (ys ++ y ∷ [])
zip_push R [] [] x y h r = (r, tt)
zip_push R [] (b ∷ ys) x y h r = absurd h
zip_push R (a ∷ xs) [] x y h r = absurd h
zip_push R (a ∷ xs) (b ∷ ys) x y h r = (h.0, zip_push R xs ys x y h.1 r)

pub widened_more : (old new : Netlist) (address count : ℕ) (commands wide : List CommandNets) (command made : CommandNets) → AllZip (IsWidened old address count) commands wide → Extends old new → IsWidened new address count command made → AllZip (IsWidened new address count) (commands ++ command ∷ []) (wide ++ made ∷ [])
widened_more old new address count commands wide command made h e m = zip_push (IsWidened new address count) commands wide command made (widened_last old new address count commands wide h e) m

-- ---- what leads below

pub all_may_lead : (netlist : Netlist) (port : AgentPort) (askers : List Asker) (asking : List Asking) → AllZip (AsksFor netlist port) askers asking → AllByRecursion (MayLead netlist port) asking
all_may_lead netlist port [] [] h = tt
all_may_lead netlist port [] (one ∷ asking) h = absurd h
all_may_lead netlist port (asker ∷ askers) [] h = absurd h
all_may_lead netlist port (asker ∷ askers) (one ∷ asking) h = (record { nets = h.0.nets; pair = h.0.pair; widths = h.0.widths; bears = record { tag = asker.host; always = h.0.bears } }, all_may_lead netlist port askers asking h.1)

-- the links don't make an address shorter
address_grows : (host : HostPort) (port : AgentPort) (widths : Widths) → widths.address ≤ (widths_below host port widths).address
address_grows host port widths = by (needs_cut host port)
  where
    by : (b : Bool) → widths.address ≤ (if b then given_widths (cutter_between host port) widths else widths).address
    by true = omega arith
    by false = omega arith

-- nor a count longer than the agent's
count_fits : (host : HostPort) (port : AgentPort) (widths : Widths) → MayAskOf host port widths → (widths_below host port widths).count ≤ burst_width port.burst_bits
count_fits host port widths may = by (needs_cut host port) refl
  where
    between : (b : Bool) → (if b then burst_width port.burst_bits else 1) ≤ burst_width port.burst_bits
    between true = omega arith
    between false = some_width port.burst_bits

    by : (b : Bool) → needs_cut host port ≡ b → (if b then bits_between host port else widths.count) ≤ burst_width port.burst_bits
    by true cut = between (keeps_beats host port)
    by false whole =
        let most = between (keeps_beats host port) in
        let least = ltb-false (bits_between host port) (burst_width host.burst_bits) whole in
        let own = may.count in
        omega (arith, most, least, own)

-- below the links of an asker: words of the agent, an address that reaches its span, a count of the agent's bursts at most, and the number of the host
record IsBelow (netlist : Netlist) (port : AgentPort) (asker : Asker) (command : CommandNets) : Type 0 where
  nets : AreCommandNets netlist command
  word : command.word.width ≡ port.word_bytes * 8
  enables : command.enables.width ≡ port.word_bytes
  reaches : span_of port ≤ 2 ^ command.address.width
  count : command.count.width ≤ burst_width port.burst_bits
  tag : command.tag.width ≡ 4
  bears : Always netlist (λ cycle. cycle.net command.tag.number ≡ asker.host)

is_below : (old now : Netlist) (port : AgentPort) (stages : ℕ) (asker : Asker) (one : Asking) (row : BegunWidth) (command : CommandNets) → AsksFor old port asker one → LeadsBelow now port stages one row command → Extends old now → IsBelow now port asker command
is_below old now port stages asker one row command h b e = record {
  nets = b.nets;
  word = ap (λ (w : Widths). w.word) b.widths;
  enables = ap (λ (w : Widths). w.enables) b.widths;
  reaches = (let far = pow_mono (address_grows one.port port (widths_of one.command)) in let near = h.reaches in subst (λ n. span_of port ≤ 2 ^ n) (sym (ap (λ (w : Widths). w.address) b.widths)) (omega (arith, far, near)));
  count = subst (λ n. n ≤ burst_width port.burst_bits) (sym (ap (λ (w : Widths). w.count) b.widths)) (count_fits one.port port (widths_of one.command) h.widths);
  tag = ap (λ (net : NetValue). net.width) b.tag ∙ h.tag;
  bears = λ cycle v. ap (λ (net : NetValue). cycle.net net.number) b.tag ∙ h.bears cycle (e.valuations cycle v);
}

all_below : (old now : Netlist) (port : AgentPort) (stages : ℕ) (askers : List Asker) (asking : List Asking) (rows : List BegunWidth) (commands : List CommandNets) → AllZip (AsksFor old port) askers asking → AllThree (LeadsBelow now port stages) asking rows commands → Extends old now → AllZip (IsBelow now port) askers commands
all_below old now port stages [] [] [] [] h b e = tt
all_below old now port stages [] [] [] (command ∷ commands) h b e = absurd b
all_below old now port stages [] [] (row ∷ rows) commands h b e = absurd b
all_below old now port stages [] (one ∷ asking) rows commands h b e = absurd h
all_below old now port stages (asker ∷ askers) [] rows commands h b e = absurd h
all_below old now port stages (asker ∷ askers) (one ∷ asking) [] commands h b e = absurd b
all_below old now port stages (asker ∷ askers) (one ∷ asking) (row ∷ rows) [] h b e = absurd b
all_below old now port stages (asker ∷ askers) (one ∷ asking) (row ∷ rows) (command ∷ commands) h b e = (is_below old now port stages asker one row command h.0 b.0 e, all_below old now port stages askers asking rows commands h.1 b.1 e)

pub below_are_commands : (netlist : Netlist) (port : AgentPort) (stages : ℕ) (asking : List Asking) (rows : List BegunWidth) (commands : List CommandNets) → AllThree (LeadsBelow netlist port stages) asking rows commands → AreCommands netlist commands
below_are_commands netlist port stages [] [] [] h = tt
below_are_commands netlist port stages [] [] (command ∷ commands) h = absurd h
below_are_commands netlist port stages [] (row ∷ rows) commands h = absurd h
below_are_commands netlist port stages (one ∷ asking) [] commands h = absurd h
below_are_commands netlist port stages (one ∷ asking) (row ∷ rows) [] h = absurd h
below_are_commands netlist port stages (one ∷ asking) (row ∷ rows) (command ∷ commands) h = (h.0.nets, below_are_commands netlist port stages asking rows commands h.1)

-- ---- what the parts next to an agent ask

abbrev asked_widths : AgentPort → ℕ → Widths
asked_widths port address = record { address = address; word = port.word_bytes * 8; enables = port.word_bytes; count = burst_width port.burst_bits; tag = 4 }

wide_asked : (old new : Netlist) (port : AgentPort) (address : ℕ) (asker : Asker) (command wide : CommandNets) → IsBelow old port asker command → IsWidened new address (burst_width port.burst_bits) command wide → Extends old new → IsAsked new (asked_widths port address) asker wide
wide_asked old new port address asker command wide h w e = record {
  nets = w.nets;
  widths_are = (let same = w.widths in let word = h.word in let enables = h.enables in let tag = h.tag in cc);
  tag = λ cycle v. ap (λ (raw : Raw). raw.tag) (w.beat cycle v) ∙ h.bears cycle (e.valuations cycle v);
}

all_asked : (old new : Netlist) (port : AgentPort) (address : ℕ) (askers : List Asker) (commands wide : List CommandNets) → AllZip (IsBelow old port) askers commands → AllZip (IsWidened new address (burst_width port.burst_bits)) commands wide → Extends old new →
    AllZip (IsAsked new (asked_widths port address)) askers wide
all_asked old new port address [] [] [] h w e = tt
all_asked old new port address [] [] (made ∷ wide) h w e = absurd w
all_asked old new port address [] (command ∷ commands) wide h w e = absurd h
all_asked old new port address (asker ∷ askers) [] wide h w e = absurd h
all_asked old new port address (asker ∷ askers) (command ∷ commands) [] h w e = absurd w
all_asked old new port address (asker ∷ askers) (command ∷ commands) (made ∷ wide) h w e = (wide_asked old new port address asker command made h.0 w.0 e, all_asked old new port address askers commands wide h.1 w.1 e)

reaches_far : (netlist : Netlist) (port : AgentPort) (address : ℕ) (askers : List Asker) (commands : List CommandNets) → AllZip (IsBelow netlist port) askers commands → ReachWithin address commands → 1 ≤ length askers → span_of port ≤ 2 ^ address
reaches_far netlist port address [] commands h w some = absurd (omega (arith, some))
reaches_far netlist port address (asker ∷ askers) [] h w some = absurd h
reaches_far netlist port address (asker ∷ askers) (command ∷ commands) h w some = let more = pow_mono w.0 in let reaches = h.0.reaches in omega (arith, more, reaches)

wide_are_asked : (old new : Netlist) (port : AgentPort) (address : ℕ) (askers : List Asker) (commands wide : List CommandNets) → AllZip (IsBelow old port) askers commands → ReachWithin address commands → 1 ≤ length askers →
    AllZip (IsWidened new address (burst_width port.burst_bits)) commands wide → Extends old new → AreAsked new port askers wide
wide_are_asked old new port address askers commands wide h within some w e = record {
  widths = asked_widths port address;
  reaches = reaches_far old port address askers commands h within some;
  word = refl;
  enables = refl;
  count = refl;
  tag = refl;
  each = all_asked old new port address askers commands wide h w e;
}

pub asked_wide : (old begun new : Netlist) (port : AgentPort) (stages address : ℕ) (askers : List Asker) (asking : List Asking) (rows : List BegunWidth) (commands wide : List CommandNets) → AllZip (AsksFor old port) askers asking → AllThree (LeadsBelow begun port stages) asking rows commands → Extends old begun →
    ReachWithin address commands → 1 ≤ length askers → AllZip (IsWidened new address (burst_width port.burst_bits)) commands wide → Extends begun new → AreAsked new port askers wide
asked_wide old begun new port stages address askers asking rows commands wide h b e within some w f = wide_are_asked begun new port address askers commands wide (all_below old begun port stages askers asking rows commands h b e) within some w f

both_within : (netlist : Netlist) (port : AgentPort) (address : ℕ) (askers : List Asker) (commands : List CommandNets) → AllZip (IsBelow netlist port) askers commands → ReachWithin address commands → AreWithin address (burst_width port.burst_bits) commands
both_within netlist port address [] [] h w = tt
both_within netlist port address [] (command ∷ commands) h w = absurd h
both_within netlist port address (asker ∷ askers) [] h w = absurd h
both_within netlist port address (asker ∷ askers) (command ∷ commands) h w = ((w.0, h.0.count), both_within netlist port address askers commands h.1 w.1)

-- no count below the links is longer than the agent's
pub below_within : (old begun : Netlist) (port : AgentPort) (stages address : ℕ) (askers : List Asker) (asking : List Asking) (rows : List BegunWidth) (commands : List CommandNets) → AllZip (AsksFor old port) askers asking → AllThree (LeadsBelow begun port stages) asking rows commands → Extends old begun →
    ReachWithin address commands → AreWithin address (burst_width port.burst_bits) commands
below_within old begun port stages address askers asking rows commands h b e within = both_within begun port address askers commands (all_below old begun port stages askers asking rows commands h b e) within

-- ---- the seats of the links

pub all_to_seats : (begun wide now : Netlist) (port : AgentPort) (stages address count : ℕ) (asking : List Asking) (rows : List BegunWidth) (commands : List CommandNets) (seats : List Seat) → AllThree (LeadsBelow begun port stages) asking rows commands →
    AllZip (IsWidened wide address count) commands (commands_above seats) → AreToldBelow now (port.word_bytes * 8) seats → Extends begun wide → Extends wide now → AllThree (LeadsToSeat now port stages) asking rows seats
all_to_seats begun wide now port stages address count [] [] [] [] h w t e f = tt
all_to_seats begun wide now port stages address count [] [] [] (seat ∷ seats) h w t e f = absurd w
all_to_seats begun wide now port stages address count [] [] (command ∷ commands) seats h w t e f = absurd h
all_to_seats begun wide now port stages address count [] (row ∷ rows) commands seats h w t e f = absurd h
all_to_seats begun wide now port stages address count (one ∷ asking) [] commands seats h w t e f = absurd h
all_to_seats begun wide now port stages address count (one ∷ asking) (row ∷ rows) [] seats h w t e f = absurd h
all_to_seats begun wide now port stages address count (one ∷ asking) (row ∷ rows) (command ∷ commands) [] h w t e f = absurd w
all_to_seats begun wide now port stages address count (one ∷ asking) (row ∷ rows) (command ∷ commands) (seat ∷ seats) h w t e f = (
  record { below = command; leads = leads_last begun now port stages one row command (extends_twice begun wide now e f) h.0; beat = λ cycle v. w.0.beat cycle (f.valuations cycle v); told = t.0 },
  all_to_seats begun wide now port stages address count asking rows commands seats h.1 w.1 t.1 e f,
)

-- ---- the seats, told by their links

module _ (netlist : Netlist) (port : AgentPort) where
  pub all_seated : (asking : List Asking) (seats : List Seat) (told : List BackNets) → AllThree (TellsSeat netlist port) asking seats told → AllZip (IsSeated netlist port) asking (told_seats seats told)
  all_seated [] [] [] h = tt
  all_seated [] [] (back ∷ told) h = absurd h
  all_seated [] (seat ∷ seats) told h = absurd h
  all_seated (one ∷ asking) [] told h = absurd h
  all_seated (one ∷ asking) (seat ∷ seats) [] h = absurd h
  all_seated (one ∷ asking) (seat ∷ seats) (back ∷ told) h = (h.0, all_seated asking seats told h.1)

pub told_askers : (seats : List Seat) (told : List BackNets) → length told ≡ length seats → askers_of (told_seats seats told) ≡ askers_of seats
told_askers [] told h = refl
told_askers (seat ∷ seats) [] h = absurd (omega (arith, h))
told_askers (seat ∷ seats) (back ∷ told) h = ap (λ (xs : List Asker). record { host = seat.host; shares = seat.shares } ∷ xs) (told_askers seats told (omega (arith, h)))

pub told_commands : (seats : List Seat) (told : List BackNets) → length told ≡ length seats → commands_above (told_seats seats told) ≡ commands_above seats
told_commands [] told h = refl
told_commands (seat ∷ seats) [] h = absurd (omega (arith, h))
told_commands (seat ∷ seats) (back ∷ told) h = ap (λ (ws : List CommandNets). seat.command ∷ ws) (told_commands seats told (omega (arith, h)))

pub told_backs : (seats : List Seat) (told : List BackNets) → length told ≡ length seats → backs_above (told_seats seats told) ≡ backs_above seats
told_backs [] told h = refl
told_backs (seat ∷ seats) [] h = absurd (omega (arith, h))
told_backs (seat ∷ seats) (back ∷ told) h = ap (λ (bs : List ArbiterBackNets). record { wait = seat.back.wait; answer = seat.back.answer } ∷ bs) (told_backs seats told (omega (arith, h)))

-- the part next to the agent doesn't ask what the links tell
abbrev part_with : AgentPart → List Seat → AgentPart
part_with part seats = record part { seats = seats }

pub part_lasts_told : (old new : Netlist) (stages : ℕ) (part : AgentPart) (told : List BackNets) → length told ≡ length part.seats → IsAgentPart old stages part → Extends old new → IsAgentPart new stages (part_with part (told_seats part.seats told))
part_lasts_told old new stages part told many h e =
    let stands = agent_part_lasts old new stages part h e in
    let askers = told_askers part.seats told many in
    let commands = told_commands part.seats told many in
    let backs = told_backs part.seats told many in
    record {
      bounded = stands.bounded;
      nets = stands.nets;
      command = stands.command;
      word = stands.word;
      enables = stands.enables;
      count = stands.count;
      tag = stands.tag;
      made = stands.made;
      registers = stands.registers;
      ignores = stands.ignores;
      runs = stands.runs;
      arbiter_registers = stands.arbiter_registers;
      chosen = subst (λ (xs : List Asker). ArbiterForward xs (commands_above (told_seats part.seats told)) part.asked part.arbiter new) (sym askers)
          (subst (λ (ws : List CommandNets). ArbiterForward (askers_of part.seats) ws part.asked part.arbiter new) (sym commands) stands.chosen);
      turns = subst (λ (xs : List Asker). RunsAsArbiter new xs (commands_above (told_seats part.seats told)) part.asked part.told (backs_above (told_seats part.seats told))) (sym askers)
          (subst (λ (ws : List CommandNets). RunsAsArbiter new (askers_of part.seats) ws part.asked part.told (backs_above (told_seats part.seats told))) (sym commands)
          (subst (λ (bs : List ArbiterBackNets). RunsAsArbiter new (askers_of part.seats) (commands_above part.seats) part.asked part.told bs) (sym backs) stands.turns));
      stages_run = stands.stages_run;
      stages_ignore = stands.stages_ignore;
      no_stage = stands.no_stage;
    }

-- a seat that is told was one with the same command and the same back
record WasSeat (host : ℕ) (seats : List Seat) (seat : Seat) : Type 0 where
  first : Seat
  found : seat_of host seats ≡ Some first
  command : first.command ≡ seat.command
  back : first.back ≡ seat.back

was_told : (host : ℕ) (seats : List Seat) (told : List BackNets) (seat : Seat) → length told ≡ length seats → seat_of host (told_seats seats told) ≡ Some seat → WasSeat host seats seat
was_told host [] told seat many found = absurd (none-some seat found)
was_told host (first ∷ seats) [] seat many found = absurd (omega (arith, many))
was_told host (first ∷ seats) (back ∷ told) seat many found = by (nat_eq first.host host) refl found (was_told host seats told seat (omega (arith, many)))
  where
    by : (b : Bool) → nat_eq first.host host ≡ b → cond b (Some (told_seat first back)) (seat_of host (told_seats seats told)) ≡ Some seat → (seat_of host (told_seats seats told) ≡ Some seat → WasSeat host seats seat) → WasSeat host (first ∷ seats) seat
    by true own is rest =
        let same = same_Some (told_seat first back) seat is in
        record { first = first; found = ap (λ b. cond b (Some first) (seat_of host seats)) own; command = ap (λ (s : Seat). s.command) same; back = ap (λ (s : Seat). s.back) same }
    by false other is rest = (let was = rest is in record { first = was.first; found = ap (λ b. cond b (Some first) (seat_of host seats)) other ∙ was.found; command = was.command; back = was.back })

pub bounds_told : (old new : Netlist) (stages : ℕ) (part : AgentPart) (told : List BackNets) → length told ≡ length part.seats → BoundsReads old stages part → Extends old new → BoundsReads new stages (part_with part (told_seats part.seats told))
bounds_told old new stages part told many h e reads plain host seat found =
    let was = was_told host part.seats told seat many found in
    let most = h reads plain host was.first was.found in
    λ longer f run endless c. (
    subst (λ (back : BackNets). unanswered_in run seat.command.read back.wait back.answer.valid c ≤ reads_at part.port + 3 * stages) was.back
    (subst (λ (command : CommandNets). unanswered_in run command.read was.first.back.wait was.first.back.answer.valid c ≤ reads_at part.port + 3 * stages) was.command (most longer (extends_twice old new longer e f) run endless c)))
