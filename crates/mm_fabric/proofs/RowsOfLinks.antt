-- Links that are begun one after the other, and finished from the last on.
use Rattle.std.proofs.Common.{◌≡◌, ℕ, zero, suc, ◌*◌, ◌<◌, ◌⊎◌, true, List, [], ◌∷◌, ◌++◌, take, drop, length, get_or, refl, sym, subst, ap, ◌∙◌, inl, inr, arith}
use Rattle.std.proofs.Math.Path.{fun_ext}
use Rattle.std.specs.List.{AllByRecursion}
use Rattle.iface_roles.specs.declared.records.AgentPort.{AgentPort}
use Rattle.netlist.specs.Nets.{NetValue}
use Rattle.netlist.specs.Netlists.{Netlist}
use Rattle.netlist.specs.Runs.{Run, cycle_of, IsEndlessRun, IsValuation}
use Rattle.netlist.specs.Longer.{Extends}
use Rattle.net_parts.specs.Nets.{IsBit}
use Rattle.net_parts.specs.Laws.{extends_twice, net_lasts}
use Rattle.memory_runs.specs.Views.{Shape}
use Rattle.memory_machines.specs.Paths.{CommandView}
use Rattle.memory_machines.specs.Machines.{Raw, port_of}
use Rattle.memory_machines.specs.Link.{Port}
use Rattle.command_nets.specs.declared.nets.CommandNets.{CommandNets}
use Rattle.command_nets.specs.declared.nets.AnswerNets.{AnswerNets}
use Rattle.command_nets.specs.Nets.{AreAnswerNets, raw_in, port_in, answer_view}
use Rattle.command_nets.specs.Groups.{command_lasts, answer_lasts}
use Rattle.mm_route.specs.declared.back.BackNets.{BackNets}
use Rattle.mm_width.specs.Pairs.{BearsOneTag, is_wire_pair, needs_drop}
use Rattle.memory_runs.specs.Sides.{burst_width}
use Rattle.mm_width.specs.Widths.{BegunWidth, WidthInLonger, RunsAsWidth, inner_shape, command_below, owns_width, stores_width}
use Rattle.mm_fabric.specs.declared.parts.Asking.{Asking}
use Rattle.mm_fabric.specs.declared.parts.Seat.{Seat}
use Rattle.mm_fabric.specs.Lasting.{meets_lasts}
use Rattle.mm_fabric.specs.Rows.{AllThree, MayLead, LeadsBelow, LeadsToSeat, IsOfRows, IsStoredByRows, TellsSeat, told_seat}

-- ---- three lists

pub three_push : {A B C : Type 0} (R : A → B → C → Type 0) (us : List A) (vs : List B) (ws : List C) (a : A) (b : B) (c : C) → AllThree R us vs ws → R a b c → AllThree R (us ++ a ∷ []) (vs ++ b ∷ []) (ws ++ c ∷ [])
three_push R [] [] [] a b c h r = (r, tt)
three_push R [] [] (z ∷ ws) a b c h r = absurd h
three_push R [] (y ∷ vs) ws a b c h r = absurd h
three_push R (x ∷ us) [] ws a b c h r = absurd h
three_push R (x ∷ us) (y ∷ vs) [] a b c h r = absurd h
three_push R (x ∷ us) (y ∷ vs) (z ∷ ws) a b c h r = (h.0, three_push R us vs ws a b c h.1 r)

pub three_map : {A B C : Type 0} (R S : A → B → C → Type 0) (us : List A) (vs : List B) (ws : List C) → ((a : A) (b : B) (c : C) → R a b c → S a b c) → AllThree R us vs ws → AllThree S us vs ws
three_map R S [] [] [] f h = tt
three_map R S [] [] (z ∷ ws) f h = absurd h
three_map R S [] (y ∷ vs) ws f h = absurd h
three_map R S (x ∷ us) [] ws f h = absurd h
three_map R S (x ∷ us) (y ∷ vs) [] f h = absurd h
three_map R S (x ∷ us) (y ∷ vs) (z ∷ ws) f h = (f x y z h.0, three_map R S us vs ws f h.1)

pub three_first : {A B C : Type 0} (R : A → B → C → Type 0) (us : List A) (vs : List B) (ws : List C) → AllThree R us vs ws → length vs ≡ length us
three_first R [] [] [] h = refl
three_first R [] [] (z ∷ ws) h = refl
three_first R [] (y ∷ vs) ws h = absurd h
three_first R (x ∷ us) [] ws h = absurd h
three_first R (x ∷ us) (y ∷ vs) [] h = absurd h
three_first R (x ∷ us) (y ∷ vs) (z ∷ ws) h = ap suc (three_first R us vs ws h.1)

pub three_last : {A B C : Type 0} (R : A → B → C → Type 0) (us : List A) (vs : List B) (ws : List C) → AllThree R us vs ws → length vs ≡ length ws
three_last R [] [] [] h = refl
three_last R [] [] (z ∷ ws) h = absurd h
three_last R [] (y ∷ vs) ws h = absurd h
three_last R (x ∷ us) [] ws h = absurd h
three_last R (x ∷ us) (y ∷ vs) [] h = absurd h
three_last R (x ∷ us) (y ∷ vs) (z ∷ ws) h = ap suc (three_last R us vs ws h.1)

-- the last of those that are left
pub three_pop : {A B C : Type 0} (R : A → B → C → Type 0) (us : List A) (vs : List B) (ws : List C) (u : A) (v : B) (w : C) → AllThree R (take (suc (length vs)) us) (vs ++ v ∷ []) (take (suc (length vs)) ws) → length vs < length us → length vs < length ws →
    AllThree R (take (length vs) us) vs (take (length vs) ws) × R (get_or us (length vs) u) v (get_or ws (length vs) w)
three_pop R [] vs ws u v w h low below = absurd (omega (arith, low))
three_pop R (x ∷ us) vs [] u v w h low below = absurd (omega (arith, below))
three_pop R (x ∷ us) [] (z ∷ ws) u v w h low below = (tt, h.0)
three_pop R (x ∷ us) (y ∷ vs) (z ∷ ws) u v w h low below = let rest = three_pop R us vs ws u v w h.1 (omega (arith, low)) (omega (arith, below)) in ((h.0, rest.0), rest.1)

-- one before those that are there
pub three_before : {A B C : Type 0} (R : A → B → C → Type 0) (k : ℕ) (us : List A) (vs : List B) (ws : List C) (u : A) (v : B) (w : C) → AllThree R (drop (suc k) us) (drop (suc k) vs) ws → R (get_or us k u) (get_or vs k v) w → k < length us → k < length vs → AllThree R (drop k us) (drop k vs) (w ∷ ws)
three_before R k [] vs ws u v w h r low below = absurd (omega (arith, low))
three_before R k (x ∷ us) [] ws u v w h r low below = absurd (omega (arith, below))
three_before R zero (x ∷ us) (y ∷ vs) ws u v w h r low below = (r, h)
three_before R (suc k) (x ∷ us) (y ∷ vs) ws u v w h r low below = three_before R k us vs ws u v w h r (omega (arith, low)) (omega (arith, below))

pub may_at : (netlist : Netlist) (agent : AgentPort) (asking : List Asking) (k : ℕ) (one : Asking) → AllByRecursion (MayLead netlist agent) asking → k < length asking → one ≡ get_or asking k one → MayLead netlist agent one
may_at netlist agent [] k one h low e = absurd (omega (arith, low))
may_at netlist agent (first ∷ later) zero one h low e = subst (MayLead netlist agent) (sym e) h.0
may_at netlist agent (first ∷ later) (suc k) one h low e = may_at netlist agent later k one h.1 (omega (arith, low)) e

-- ---- registers

pub of_rows_more : (rows : List BegunWidth) (row : BegunWidth) (n : ℕ) → IsOfRows rows n → IsOfRows (rows ++ row ∷ []) n
of_rows_more [] row n o = absurd o
of_rows_more (first ∷ rows) row n o = elim o [ inl own ↦ inl own | inr later ↦ inr (of_rows_more rows row n later) ]

pub of_rows_last : (rows : List BegunWidth) (row : BegunWidth) (n : ℕ) → owns_width row.kept n → IsOfRows (rows ++ row ∷ []) n
of_rows_last [] row n o = inl o
of_rows_last (first ∷ rows) row n o = inr (of_rows_last rows row n o)

pub of_rows_either : (rows : List BegunWidth) (row : BegunWidth) (n : ℕ) → IsOfRows (rows ++ row ∷ []) n → IsOfRows rows n ⊎ owns_width row.kept n
of_rows_either [] row n o = elim o [ inl own ↦ inr own | inr none ↦ absurd none ]
of_rows_either (first ∷ rows) row n o = elim o [ inl own ↦ inl (inl own) | inr later ↦ elim (of_rows_either rows row n later) [ inl more ↦ inl (inr more) | inr own ↦ inr own ] ]

-- ---- memories

pub stored_more : (rows : List BegunWidth) (row : BegunWidth) (m : ℕ) → IsStoredByRows rows m → IsStoredByRows (rows ++ row ∷ []) m
stored_more [] row m o = absurd o
stored_more (first ∷ rows) row m o = elim o [ inl own ↦ inl own | inr later ↦ inr (stored_more rows row m later) ]

pub stored_last : (rows : List BegunWidth) (row : BegunWidth) (m : ℕ) → stores_width row.kept m → IsStoredByRows (rows ++ row ∷ []) m
stored_last [] row m o = inl o
stored_last (first ∷ rows) row m o = inr (stored_last rows row m o)

pub stored_either : (rows : List BegunWidth) (row : BegunWidth) (m : ℕ) → IsStoredByRows (rows ++ row ∷ []) m → IsStoredByRows rows m ⊎ stores_width row.kept m
stored_either [] row m o = elim o [ inl own ↦ inr own | inr none ↦ absurd none ]
stored_either (first ∷ rows) row m o = elim o [ inl own ↦ inl (inl own) | inr later ↦ elim (stored_either rows row m later) [ inl more ↦ inl (inr more) | inr own ↦ inr own ] ]

-- ---- what is begun lasts

pub bears_last : (old new : Netlist) (command : CommandNets) → BearsOneTag old command → Extends old new → BearsOneTag new command
bears_last old new command h e = record { tag = h.tag; always = λ cycle v. h.always cycle (e.valuations cycle v) }

pub leads_last : (old new : Netlist) (agent : AgentPort) (stages : ℕ) (asking : Asking) (row : BegunWidth) (below : CommandNets) → Extends old new → LeadsBelow old agent stages asking row below → LeadsBelow new agent stages asking row below
leads_last old new agent stages asking row below e h = record {
  row_is = record { pair = h.row_is.pair; bears = bears_last old new asking.command h.row_is.bears e; link = h.row_is.link; from = h.row_is.from };
  nets = command_lasts old new below e h.nets;
  is = h.is;
  widths = h.widths;
  tag = h.tag;
  ignores = λ longer f. h.ignores longer (extends_twice old new longer e f);
  wire = h.wire;
}

pub tells_last : (old new : Netlist) (agent : AgentPort) (asking : Asking) (seat : Seat) (told : BackNets) → Extends old new → TellsSeat old agent asking seat told → TellsSeat new agent asking seat told
tells_last old new agent asking seat told e h = record {
  meets = meets_lasts old new asking.port agent asking.command (told_seat seat told) h.meets e;
  told = record { wait = net_lasts old new told.wait 1 e h.told.wait; answer = answer_lasts old new told.answer _ e h.told.answer };
}

-- ---- a seat whose links are finished

abbrev commands_by : (ℕ → Raw) → (ℕ → ℕ) → CommandView
commands_by raws wait = record {
  signals = record {
    read = λ c. (raws c).levels.read;
    write = λ c. (raws c).levels.write;
    address = λ c. (raws c).levels.address;
    word = λ c. (raws c).levels.word;
    enables = λ c. (raws c).levels.enables;
    count = λ c. (raws c).levels.count;
  };
  more = λ c. (raws c).more;
  tag = λ c. (raws c).tag;
  waitrequest = wait;
}

-- commands that show one beat are of one side
same_port : (shape : Shape) (run : Run) (below wide : CommandNets) (wait : NetValue) (answer : AnswerNets) → ((c : ℕ) → raw_in (cycle_of run c) wide ≡ raw_in (cycle_of run c) below) → port_in shape run below wait answer ≡ port_in shape run wide wait answer
same_port shape run below wide wait answer beat = ap (λ (raws : ℕ → Raw). port_of shape (commands_by raws (λ c. run.net c wait.number)) (answer_view run answer)) (fun_ext (λ c. sym (beat c)))

always_valued : (netlist longer : Netlist) → Extends netlist longer → (run : Run) → IsEndlessRun longer run → (c : ℕ) → IsValuation netlist (cycle_of run c)
always_valued netlist longer e run endless c = e.valuations (cycle_of run c) ((endless (suc c)).valuations c (omega arith))

-- what the last call of the links gave
pub record IsFinishedRow (now : Netlist) (agent : AgentPort) (asking : Asking) (row : BegunWidth) (back told : BackNets) : Type 0 where
  pub wait : IsBit now told.wait
  pub answer : AreAnswerNets now told.answer (asking.port.word_bytes * 8)
  pub wire : is_wire_pair asking.port agent ≡ true → (told.wait ≡ back.wait) × (told.answer ≡ back.answer)
  pub machine : WidthInLonger asking.port agent now row.from told.wait told.answer (command_below row.from row.to) back.wait back.answer

-- the links are machines between the command and the wide one too
machine_to : (old now : Netlist) (agent : AgentPort) (stages : ℕ) (asking : Asking) (row : BegunWidth) (seat : Seat) (told : BackNets) → LeadsToSeat old agent stages asking row seat → Extends old now → IsFinishedRow now agent asking row seat.back told →
    WidthInLonger asking.port agent now asking.command told.wait told.answer seat.command seat.back.wait seat.back.answer
machine_to old now agent stages asking row seat told h e f longer further run endless target of_agent =
    let beats : (c : ℕ) → raw_in (cycle_of run c) seat.command ≡ raw_in (cycle_of run c) h.below = λ c. h.beat (cycle_of run c) (always_valued old longer (extends_twice old now longer e further) run endless c) in
    let made = f.machine longer further run endless target of_agent in
    let above = subst (λ (from : CommandNets). RunsAsWidth (needs_drop asking.port agent) target (port_in (inner_shape asking.port.word_bytes (burst_width asking.port.burst_bits)) run from told.wait told.answer) (port_in (inner_shape agent.word_bytes (burst_width agent.burst_bits)) run (command_below row.from row.to) seat.back.wait seat.back.answer)) h.leads.row_is.from made in
    let here = subst (λ (to : CommandNets). RunsAsWidth (needs_drop asking.port agent) target (port_in (inner_shape asking.port.word_bytes (burst_width asking.port.burst_bits)) run asking.command told.wait told.answer) (port_in (inner_shape agent.word_bytes (burst_width agent.burst_bits)) run to seat.back.wait seat.back.answer)) (sym h.leads.is) above in
    subst (λ (port : Port). RunsAsWidth (needs_drop asking.port agent) target (port_in (inner_shape asking.port.word_bytes (burst_width asking.port.burst_bits)) run asking.command told.wait told.answer) port) (same_port (inner_shape agent.word_bytes (burst_width agent.burst_bits)) run h.below seat.command seat.back.wait seat.back.answer beats) here

same_back : (back told : BackNets) → told.wait ≡ back.wait → told.answer ≡ back.answer → back ≡ told
same_back back told wait answer =
    let one : BackNets = record { wait = told.wait; answer = back.answer } in
    let first : back ≡ one = ap (λ (w : NetValue). record { wait = w; answer = back.answer }) (sym wait) in
    first ∙ ap (λ (a : AnswerNets). record { wait = told.wait; answer = a }) (sym answer)

pub tells_seat : (old now : Netlist) (agent : AgentPort) (stages : ℕ) (asking : Asking) (row : BegunWidth) (seat : Seat) (told : BackNets) → LeadsToSeat old agent stages asking row seat → Extends old now → IsFinishedRow now agent asking row seat.back told → TellsSeat now agent asking seat told
tells_seat old now agent stages asking row seat told h e f = record {
  meets = record {
    runs = machine_to old now agent stages asking row seat told h e f;
    ignores = λ longer further one other v w state same. (
        let whole = extends_twice old now longer e further in
        h.beat one (whole.valuations one v) ∙ h.leads.ignores longer whole one other v w state same ∙ sym (h.beat other (whole.valuations other w)));
    wire = λ alike. (
      (λ cycle v. (h.beat cycle (e.valuations cycle v) ∙ ap (λ (command : CommandNets). raw_in cycle command) (h.leads.wire alike))),
      (let same = f.wire alike in same_back seat.back told same.0 same.1),
    );
  };
  told = record { wait = f.wait; answer = f.answer };
}
