-- What an agent is shown depends on the command and on the registers alone.
use Rattle.std.proofs.Common.{◌≡◌, ℕ, ◌%◌, refl, Bool, true, false, not, ◌&&◌, nat_lt, if◌then◌else◌, Option, Some, None, inl, sym, subst, ap, ◌∙◌}
use Rattle.histories.specs.History.{is_raised}
use Rattle.iface_roles.specs.declared.records.AgentPort.{AgentPort}
use Rattle.iface_roles.specs.Proper.{IsBoundedAgent, span_of}
use Rattle.netlist.specs.Nets.{NetValue}
use Rattle.netlist.specs.Netlists.{Netlist}
use Rattle.netlist.specs.Runs.{Cycle, IsValuation}
use Rattle.net_parts.specs.Laws.{bit_fits}
use Rattle.memory_runs.specs.Commands.{byte_address}
use Rattle.memory_machines.specs.Machines.{Raw}
use Rattle.memory_runs.specs.Sides.{bound_of}
use Rattle.command_nets.specs.declared.nets.CommandNets.{CommandNets}
use Rattle.mm_agent.specs.declared.nets.AgentNets.{AgentNets}
use Rattle.mm_agent.specs.declared.nets.AgentMade.{AgentMade}
use Rattle.mm_agent.specs.declared.reads.HeldReads.{HeldReads}
use Rattle.mm_agent.specs.declared.reads.HeldReads.TheVariants.{Never, Counts, Row, Queued}
use Rattle.command_nets.specs.Ports.{value_or, SameLevel}
use Rattle.mm_agent.specs.Agents.{shape_above}
use Rattle.mm_agent.specs.Reads.{owns_reads, AreReadsHeld}
use Rattle.mm_agent.specs.Forms.{IsAgentPart, IgnoresAnswer}
use Rattle.command_nets.specs.Levels.{bit_same}
use Rattle.mm_agent.proofs.Levels.{same_address}

of_values : (net : Option NetValue) (one other : Cycle) → value_or 0 net one ≡ value_or 0 net other → SameLevel net one other
of_values None one other e = tt
of_values (Some net) one other e = e

where_there : (there : Bool) (shown : NetValue) (one other : Cycle) → (there ≡ true → one.net shown.number ≡ other.net shown.number) → SameLevel (if there then Some shown else None) one other
where_there true shown one other e = e refl
where_there false shown one other e = tt

module _ (netlist : Netlist) (port : AgentPort) (one other : Cycle) (v : IsValuation netlist one) (w : IsValuation netlist other) where
  raised_same : (read shown : NetValue) (reads : HeldReads) → AreReadsHeld netlist port read shown reads → ((n : ℕ) → owns_reads reads n → one.net n ≡ other.net n) → one.net read.number ≡ other.net read.number → port.reads ≡ true → is_raised (one.net shown.number) ≡ is_raised (other.net shown.number)
  raised_same read shown Never k state e some = absurd (let none = k.reads in cc)
  raised_same read shown (Row row) k state e some =
      (let same : shown ≡ read = k.shows in
      ap (λ (n : NetValue). is_raised (one.net n.number)) same ∙ ap is_raised e ∙ sym (ap (λ (n : NetValue). is_raised (other.net n.number)) same))
  raised_same read shown (Counts unanswered full) k state e some =
      (let full_same : is_raised (one.net full.number) ≡ is_raised (other.net full.number) = k.is_full one v ∙ ap (λ n. not (nat_lt n (bound_of port))) (state unanswered.number refl) ∙ sym (k.is_full other w) in
      k.shows one v ∙ ap (λ n. is_raised n && not (is_raised (one.net full.number))) e ∙ ap (λ t. is_raised (other.net read.number) && not t) full_same ∙ sym (k.shows other w))
  raised_same read shown (Queued queue) k state e some =
      (let same : ℕ → Bool = λ n. not (nat_lt n queue.bound) in
      let full_same : is_raised (one.net queue.full.number) ≡ is_raised (other.net queue.full.number) = k.is.made.is_full one v ∙ ap same (state queue.pointers.unanswered.number (inl (inl refl))) ∙ sym (k.is.made.is_full other w) in
      k.shows one v ∙ ap (λ n. is_raised n && not (is_raised (one.net queue.full.number))) e ∙ ap (λ t. is_raised (other.net read.number) && not t) full_same ∙ sym (k.shows other w))

pub ignores : (several : Bool) (port : AgentPort) (nets : AgentNets) (netlist : Netlist) (command : CommandNets) (made : AgentMade) → IsBoundedAgent port → IsAgentPart netlist several port nets command made → IgnoresAnswer netlist command made
ignores several port nets netlist command made bounded h one other v w state same =
    let address : one.net command.address.number ≡ other.net command.address.number = ap (λ (r : Raw). r.levels.address) same in
    let read : one.net command.read.number ≡ other.net command.read.number = ap (λ (r : Raw). r.levels.read) same in
    let offset : ℕ → ℕ = λ n. byte_address (shape_above port) n % span_of port in
    record {
      address = of_values made.address one other (same_address port.byte_units port.word_bytes bounded.ports.word.exponent _ _ bounded.ports.word.power (h.address one v ∙ ap offset address ∙ sym (h.address other w)));
      read = subst (λ (o : Option NetValue). SameLevel o one other) (sym h.read) (where_there port.reads h.shown one other (λ some.
          bit_same _ _ (bit_fits netlist h.shown h.shown_bit one v) (bit_fits netlist h.shown h.shown_bit other w) (raised_same netlist port one other v w command.read h.shown made.reads h.held state read some)));
    }
