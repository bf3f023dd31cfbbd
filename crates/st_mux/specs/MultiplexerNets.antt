-- The nets of a multiplexer, and that they are the machine of one.
use Rattle.std.specs.Prelude.{ℕ, zero, suc, ◌+◌, ◌%◌, ◌^◌, ◌<◌, ◌≤◌, ◌≡◌, ◌≢◌, ◌⊎◌, Bool, true, false, ◌&&◌, ◌==◌, not, if◌then◌else◌, IsTrue, List, [], ◌∷◌, length, map}
use Rattle.std.proofs.Common.{refl, sym, ap, ◌∙◌, arith, subst, get_or}
use Rattle.std.proofs.lemmas.List.{get_or-map, length-map}
use Rattle.std.proofs.Math.Nat.{mod-eq_of_lt}
use Rattle.netlist.specs.Nets.{NetValue}
use Rattle.netlist.specs.Netlists.{Netlist, IsWaiting}
use Rattle.netlist.specs.Runs.{Run, Cycle, cycle_of, Always, IsEndlessRun, IsValuation}
use Rattle.netlist.specs.Longer.{Extends}
use Rattle.net_parts.specs.Nets.{IsBit, IsNetOfWidth, StartsLow, TakesNext}
use Rattle.net_parts.specs.Laws.{net_lasts}
use Rattle.routed_runs.specs.Multiplexed.{Multiplexer, MultiplexerRun, AreLegalInputs, IsMultiplexed}
use Rattle.routed_runs.specs.Multiplexing.{turns_to, Turns, IsMultiplexerRun, asks}
use Rattle.st_mux.specs.declared.packet.PacketNets.{PacketNets}
use Rattle.st_mux.specs.declared.mux.MultiplexerNets.{MultiplexerNets}
use Rattle.st_mux.specs.declared.mux.Turns.{Turns as TurnNets}
use Rattle.st_mux.specs.Packets.{ArePacketNets, packet_view}
use Rattle.st_mux.specs.PacketChoices.{shown_in, AreAlike, IsLike, packet_lasts}
use Rattle.st_mux.specs.Selecting.{AreBits, Selects, bits_last}
use Rattle.st_mux.specs.Each.{AreSetWhere}
use Rattle.st_mux.specs.Splitting.{led_to}
use Rattle.st_mux.specs.Choosing.{is_set, set_at}
use Rattle.st_mux.specs.Chosen.{IsChosen}

-- the numbers of the registers
abbrev pub owns_turns : TurnNets → ℕ → Type 0
owns_turns turns n = (n ≡ turns.holder.number) ⊎ (n ≡ turns.locked.number)

-- they begin at 0 and wait for what they take
pub record AreTurns (netlist : Netlist) (bits : ℕ) (turns : TurnNets) : Type 0 where
  pub holder : IsNetOfWidth netlist turns.holder bits
  pub locked : IsBit netlist turns.locked
  pub holder_starts : StartsLow netlist turns.holder
  pub locked_starts : StartsLow netlist turns.locked
  pub holder_waits : IsWaiting netlist turns.holder.number
  pub locked_waits : IsWaiting netlist turns.locked.number
  pub apart : turns.locked.number ≢ turns.holder.number

abbrev pub valid_nets : List PacketNets → List NetValue
valid_nets inputs = map (λ (input : PacketNets). input.valid) inputs

-- the choice stays: a beat is shown that isn't the last of its packet, or isn't taken; or none is, and it has to stay
abbrev pub stays_in : Cycle → PacketNets → NetValue → NetValue → Bool
stays_in cycle beat ready locked =
    if cycle.net beat.valid.number == 1 then not ((cycle.net ready.number == 1) && (cycle.net beat.last.number == 1))
    else cycle.net locked.number == 1

-- the nets lead the chosen input to the output, and show its ready to it alone
pub record Leads (netlist : Netlist) (inputs : List PacketNets) (turns : TurnNets) (bits : ℕ) (ready : NetValue)
    (made : MultiplexerNets) : Type 0 where
  pub beat : ArePacketNets netlist made.beat
  pub like : IsLike made.beat inputs
  pub channel : IsNetOfWidth netlist made.channel bits
  pub readies : AreBits netlist made.readies.items
  pub count : length made.readies.items ≡ length inputs
  pub chosen : Always netlist (λ cycle. IsChosen (length inputs) (cycle.net turns.holder.number)
      (is_set cycle (valid_nets inputs)) (cycle.net turns.locked.number == 1) (cycle.net made.channel.number))
  pub led : Always netlist (λ cycle. Selects (shown_in cycle) (cycle.net made.channel.number) bits inputs made.beat)
  pub shown : Always netlist (AreSetWhere (led_to ready made.channel bits) made.readies.items)

-- all nets of a multiplexer: what leads its inputs, and what its registers take
pub record AreMultiplexerNets (netlist : Netlist) (inputs : List PacketNets) (bits : ℕ) (ready : NetValue)
    (made : MultiplexerNets) : Type 0 where
  pub turns : TurnNets
  pub stays : NetValue
  pub leads : Leads netlist inputs turns bits ready made
  pub stays_value : Always netlist (λ cycle. (cycle.net stays.number == 1) ≡ stays_in cycle made.beat ready turns.locked)
  pub holder_starts : StartsLow netlist turns.holder
  pub locked_starts : StartsLow netlist turns.locked
  pub holder_takes : TakesNext netlist turns.holder made.channel
  pub locked_takes : TakesNext netlist turns.locked stays

-- a run of a multiplexer: each input with a ready of its own, and at the output the beat with its channel
abbrev pub multiplexer_run : Run → List PacketNets → MultiplexerNets → NetValue → MultiplexerRun
multiplexer_run run inputs made ready =
    record {
      inputs = λ i. packet_view run (get_or inputs i made.beat) (λ c. 0) (get_or made.readies.items i made.channel);
      output = packet_view run made.beat (λ c. run.net c made.channel.number) ready;
    }

-- in each cycle of each endless run of each longer netlist the beat shows what some input shows
abbrev pub ShowsSomeInput : Netlist → List PacketNets → PacketNets → Type 0
ShowsSomeInput netlist inputs beat =
    (longer : Netlist) → Extends netlist longer → (run : Run) → IsEndlessRun longer run → (c : ℕ)
    → (i : ℕ) × (i < length inputs)
    × ((other : PacketNets) → shown_in (cycle_of run c) beat ≡ shown_in (cycle_of run c) (get_or inputs i other))

-- in each endless run of each longer netlist they are a multiplexer as long as the inputs are legal
abbrev pub MultiplexesInLonger : Netlist → List PacketNets → MultiplexerNets → NetValue → Type 0
MultiplexesInLonger netlist inputs made ready =
    (longer : Netlist) → Extends netlist longer → (run : Run) → IsEndlessRun longer run
    → (mux : Multiplexer) → mux.inputs ≡ length inputs → (count : ℕ)
    → AreLegalInputs mux (multiplexer_run run inputs made ready) count
    → IsMultiplexed mux (multiplexer_run run inputs made ready) count

-- ---- laws. No contract reads a proof of these

both_turned : (a b : Bool) → (a && b) ≡ (b && a)
both_turned true true = refl
both_turned true false = refl
both_turned false true = refl
both_turned false false = refl

pub valids_are_bits : (netlist : Netlist) (inputs : List PacketNets) → AreAlike netlist inputs
    → AreBits netlist (valid_nets inputs)
valids_are_bits netlist [] alike other k below = absurd (omega (arith, below))
valids_are_bits netlist (input ∷ inputs) alike other k below =
    let size : length (valid_nets (input ∷ inputs)) ≡ length (input ∷ inputs) = length-map (input ∷ inputs)
    (λ (input : PacketNets). input.valid) in
    let inside : k < length (input ∷ inputs) = omega (arith, below, size) in
    subst (IsBit netlist) (sym (get_or-map (λ (input : PacketNets). input.valid) (input ∷ inputs) k input other inside))
    (alike.nets input k inside).valid

pub leads_last : (a b : Netlist) (inputs : List PacketNets) (turns : TurnNets) (bits : ℕ) (ready : NetValue)
    (made : MultiplexerNets)
    → Extends a b → Leads a inputs turns bits ready made → Leads b inputs turns bits ready made
leads_last a b inputs turns bits ready made e l = record {
  beat = packet_lasts a b made.beat e l.beat;
  like = l.like;
  channel = net_lasts a b made.channel bits e l.channel;
  readies = bits_last a b made.readies.items e l.readies;
  count = l.count;
  chosen = λ cycle v. l.chosen cycle (e.valuations cycle v);
  led = λ cycle v. l.led cycle (e.valuations cycle v);
  shown = λ cycle v. l.shown cycle (e.valuations cycle v);
}

pub all_last : (a b : Netlist) (inputs : List PacketNets) (bits : ℕ) (ready : NetValue) (made : MultiplexerNets) → Extends a b
    → AreMultiplexerNets a inputs bits ready made → AreMultiplexerNets b inputs bits ready made
all_last a b inputs bits ready made e m = record {
  turns = m.turns;
  stays = m.stays;
  leads = leads_last a b inputs m.turns bits ready made e m.leads;
  stays_value = λ cycle v. m.stays_value cycle (e.valuations cycle v);
  holder_starts = λ run cycles r. m.holder_starts run cycles (e.runs run cycles r);
  locked_starts = λ run cycles r. m.locked_starts run cycles (e.runs run cycles r);
  holder_takes = λ run cycles r. m.holder_takes run cycles (e.runs run cycles r);
  locked_takes = λ run cycles r. m.locked_takes run cycles (e.runs run cycles r);
}

module _ (netlist : Netlist) (inputs : List PacketNets) (bits : ℕ) (ready : NetValue) (made : MultiplexerNets)
    (m : AreMultiplexerNets netlist inputs bits ready made)
    (some : 0 < length inputs) (few : length inputs ≤ 2 ^ bits) (run : Run) (endless : IsEndlessRun netlist run) where
  abbrev turns : TurnNets
  turns = m.turns

  at : (c : ℕ) → IsValuation netlist (cycle_of run c)
  at c = (endless (c + 1)).valuations c (omega arith)

  chosen_at : (c : ℕ)
      → IsChosen (length inputs) (run.net c turns.holder.number) (is_set (cycle_of run c) (valid_nets inputs))
      (run.net c turns.locked.number == 1) (run.net c made.channel.number)
  chosen_at c = m.leads.chosen (cycle_of run c) (at c)

  takes : (register next : NetValue) → TakesNext netlist register next → (c : ℕ)
      → run.net (suc c) register.number ≡ run.net c next.number
  takes register next moves c =
      subst (λ k. run.net k register.number ≡ run.net c next.number) (omega arith)
      (moves run (c + 2) (endless (c + 2)) c (omega arith))

  holds : (c : ℕ) → run.net c turns.holder.number < length inputs
  holds zero = let low = m.holder_starts run 1 (endless 1) (omega arith) in omega (arith, low, some)
  holds (suc c) =
      let next = takes turns.holder made.channel m.holder_takes c in
      let inside = (chosen_at c).is_input (holds c) in omega (arith, next, inside)

  inside : (c : ℕ) → run.net c made.channel.number < length inputs
  inside c = (chosen_at c).is_input (holds c)

  small : (c : ℕ) → run.net c made.channel.number % 2 ^ bits ≡ run.net c made.channel.number
  small c = mod-eq_of_lt (let below = inside c in omega (arith, below, few))

  abbrev view : MultiplexerRun
  view = multiplexer_run run inputs made ready

  asks_is : (c i : ℕ) → i < length inputs → is_set (cycle_of run c) (valid_nets inputs) i ≡ asks view c i
  asks_is c i below =
      let size : length (valid_nets inputs) ≡ length inputs = length-map inputs (λ (input : PacketNets). input.valid) in
      set_at (cycle_of run c) (valid_nets inputs) i made.beat.valid (omega (arith, below, size))
      ∙ ap (λ (net : NetValue). run.net c net.number == 1)
      (get_or-map (λ (input : PacketNets). input.valid) inputs i made.beat made.beat.valid below)

  led_by : (c : ℕ) (other : PacketNets)
      → shown_in (cycle_of run c) made.beat ≡ shown_in (cycle_of run c) (get_or inputs (run.net c made.channel.number) other)
  led_by c other = m.leads.led (cycle_of run c) (at c) other (run.net c made.channel.number) (inside c) (small c)

  pub shows_some : (c : ℕ)
      → (i : ℕ) × (i < length inputs)
      × ((other : PacketNets) → shown_in (cycle_of run c) made.beat ≡ shown_in (cycle_of run c) (get_or inputs i other))
  shows_some c = (run.net c made.channel.number, inside c, led_by c)

  abbrev pub turns_in : Turns
  turns_in =
      record {
        chosen =
            λ c. run.net c made.channel.number;
        holder =
            λ c. run.net c turns.holder.number;
        locked = λ c. run.net c turns.locked.number == 1;
      }

  pub multiplexer_here : (mux : Multiplexer) → mux.inputs ≡ length inputs → IsMultiplexerRun mux view turns_in
  multiplexer_here mux same = record {
    starts = (let below = holds 0 in omega (arith, below, same));
    starts_free = ap (λ n. n == 1) (m.locked_starts run 1 (endless 1) (omega arith));
    is_input = λ c. (let below = inside c in omega (arith, below, same));
    keeps = λ c is. (chosen_at c).keeps is;
    asked = λ c free i below asking. (
        let asks_i = subst IsTrue (sym (asks_is c i (omega (arith, below, same)))) asking in
        subst IsTrue (asks_is c (run.net c made.channel.number) (inside c))
        ((chosen_at c).asked free i (omega (arith, below, same)) asks_i));
    first = λ c free i below asking. (
        let asks_i = subst IsTrue (sym (asks_is c i (omega (arith, below, same)))) asking in
        subst (λ n. turns_to n (run.net c turns.holder.number) (run.net c made.channel.number)
        ≤ turns_to n (run.net c turns.holder.number) i)
        (sym same) ((chosen_at c).first free i (omega (arith, below, same)) asks_i));
    valid = λ c. ap (λ shown. shown.valid == 1) (led_by c made.beat);
    beat =
        λ c high. ap (λ shown. record {
          word =
              shown.word;
          channel =
              run.net c made.channel.number;
          error = 0;
          first = shown.first;
          last = shown.last;
          empty = shown.empty;
        })
        (led_by c made.beat);
    ready = λ c i below.
        (m.leads.shown (cycle_of run c) (at c) made.channel i (let count = m.leads.count in omega (arith, below, same, count))
        ∙ ap (λ n. (run.net c ready.number == 1) && (n == i)) (small c)
        ∙ both_turned (run.net c ready.number == 1) (run.net c made.channel.number == i));
    holds = λ c. takes turns.holder made.channel m.holder_takes c;
    locks = λ c. ap (λ n. n == 1) (takes turns.locked m.stays m.locked_takes c) ∙ m.stays_value (cycle_of run c) (at c);
  }
