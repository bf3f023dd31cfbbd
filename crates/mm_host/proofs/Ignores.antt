-- The command of a host depends on the host and on the registers alone.
use Rattle.std.proofs.Common.{◌≡◌, ℕ, Bool, false, not, ◌&&◌, nat_eq, nat_lt, Option, Some, None, refl, sym, ap, ◌∙◌, inl, inr}
use Rattle.histories.specs.History.{is_raised, one_if}
use Rattle.iface_roles.specs.declared.records.HostPort.{HostPort}
use Rattle.netlist.specs.Nets.{NetValue}
use Rattle.netlist.specs.Netlists.{Netlist}
use Rattle.netlist.specs.Runs.{Cycle, IsValuation}
use Rattle.net_parts.specs.Laws.{bit_fits}
use Rattle.memory_runs.specs.Commands.{byte_address}
use Rattle.memory_runs.specs.Sides.{host_side, burst_width}
use Rattle.memory_machines.specs.Machines.{Raw}
use Rattle.mm_host.specs.declared.reads.HeldReads.{HeldReads}
use Rattle.mm_host.specs.declared.reads.HeldReads.TheVariants.{Never, Asks, Counts, Queues, Unbounded}
use Rattle.mm_host.specs.declared.writes.HeldWrites.{HeldWrites}
use Rattle.mm_host.specs.declared.host.HeldHost.{HeldHost}
use Rattle.mm_host.specs.Hosts.{bursts}
use Rattle.mm_host.specs.Reads.{owns_reads, AreCounted, AreReadsHeld}
use Rattle.mm_host.specs.Writes.{owns_writes, AreWritesHeld, beats_of}
use Rattle.mm_host.specs.Forms.{IsHeld, IgnoresAnswer}
use Rattle.command_nets.specs.Levels.{bit_same}
use Rattle.command_nets.specs.Ports.{HasNet, value_or, all_ones, SameLevel}

-- a port that isn't there shows its default
pub absent : (netlist : Netlist) (there : Bool) (bits : ℕ) (net : Option NetValue) → there ≡ false → HasNet netlist there bits net → (cycle : Cycle) → value_or 0 net cycle ≡ 0
absent netlist there bits None none k cycle = refl
absent netlist there bits (Some net) none k cycle = absurd (let some = k.0 in cc)

pub single : (netlist : Netlist) (port : HostPort) → port.burst_bits ≡ 0 → (net : Option NetValue) → HasNet netlist (bursts port) (burst_width port.burst_bits) net → (cycle : Cycle) → value_or 1 net cycle ≡ 1
single netlist port words None k cycle = refl
single netlist port words (Some net) k cycle = absurd (let none : bursts port ≡ false = ap (λ n. not (nat_eq n 0)) words in let some = k.0 in cc)

level_same : (level : ℕ) (net : Option NetValue) (one other : Cycle) → SameLevel net one other → value_or level net one ≡ value_or level net other
level_same level None one other h = refl
level_same level (Some net) one other h = h

module _ (netlist : Netlist) (port : HostPort) (one other : Cycle) (v : IsValuation netlist one) (w : IsValuation netlist other) where
  counted_same : (read shown unanswered full : NetValue) → AreCounted netlist read shown unanswered full → one.net unanswered.number ≡ other.net unanswered.number → one.net read.number ≡ other.net read.number → is_raised (one.net shown.number) ≡ is_raised (other.net shown.number)
  counted_same read shown unanswered full k same e =
      (let full_same : is_raised (one.net full.number) ≡ is_raised (other.net full.number) = k.is_full one v ∙ ap (λ n. not (nat_lt n 16)) same ∙ sym (k.is_full other w) in
      k.shows one v ∙ ap (λ n. is_raised n && not (is_raised (one.net full.number))) e ∙ ap (λ t. is_raised (other.net read.number) && not t) full_same ∙ sym (k.shows other w))

  read_same : (read shown : NetValue) (reads : HeldReads) → AreReadsHeld netlist port read shown reads → ((n : ℕ) → owns_reads reads n → one.net n ≡ other.net n) → one.net read.number ≡ other.net read.number → is_raised (one.net shown.number) ≡ is_raised (other.net shown.number)
  read_same read shown Never k state e = ap (λ (n : NetValue). is_raised (one.net n.number)) k.shows ∙ ap is_raised e ∙ sym (ap (λ (n : NetValue). is_raised (other.net n.number)) k.shows)
  read_same read shown (Asks asked) k state e =
      k.shows one v ∙ ap (λ n. is_raised n && not (is_raised (one.net asked.number))) e ∙ ap (λ n. is_raised (other.net read.number) && not (is_raised n)) (state asked.number refl) ∙ sym (k.shows other w)
  read_same read shown (Counts unanswered full) k state e = counted_same read shown unanswered full k.counted (state unanswered.number refl) e
  read_same read shown (Queues unanswered full) k state e = counted_same read shown unanswered full k.counted (state unanswered.number refl) e
  read_same read shown Unbounded k state e = ap (λ (n : NetValue). is_raised (one.net n.number)) k.shows ∙ ap is_raised e ∙ sym (ap (λ (n : NetValue). is_raised (other.net n.number)) k.shows)

  more_same : (write count more : NetValue) (writes : Option HeldWrites) → AreWritesHeld netlist port write count more writes → ((n : ℕ) → owns_writes writes n → one.net n ≡ other.net n) → one.net write.number ≡ other.net write.number → one.net count.number ≡ other.net count.number → one.net more.number ≡ other.net more.number
  more_same write count more None k state e f = k.low one v ∙ sym (k.low other w)
  more_same write count more (Some held) k state e f =
      (let beats : one.net held.beats.number ≡ other.net held.beats.number =
      k.beats_are one v ∙ ap (λ n. beats_of n (one.net count.number)) (state held.left.number refl) ∙ ap (λ n. beats_of (other.net held.left.number) n) f ∙ sym (k.beats_are other w) in
      k.joins one v ∙ ap (λ n. one_if (is_raised n && not (nat_eq (one.net held.beats.number) 1))) e ∙ ap (λ n. one_if (is_raised (other.net write.number) && not (nat_eq n 1))) beats ∙ sym (k.joins other w))

raw_same : {r w a d e c m t r' w' a' d' e' c' m' t' : ℕ} → r ≡ r' → w ≡ w' → a ≡ a' → d ≡ d' → e ≡ e' → c ≡ c' → m ≡ m' → t ≡ t' →
    ◌≡◌ {A = Raw} (record { levels = record { read = r; write = w; address = a; word = d; enables = e; count = c }; more = m; tag = t }) (record { levels = record { read = r'; write = w'; address = a'; word = d'; enables = e'; count = c' }; more = m'; tag = t' })
raw_same p1 p2 p3 p4 p5 p6 p7 p8 = cc

pub ignores : (port : HostPort) (netlist : Netlist) (held : HeldHost) → IsHeld netlist port held → IgnoresAnswer netlist held
ignores port netlist held h one other v w state same =
    let a = h.values one v in
    let b = h.values other w in
    let read : one.net held.read.number ≡ other.net held.read.number = a.read ∙ level_same 0 held.nets.read one other same.read ∙ sym b.read in
    let write : one.net held.command.write.number ≡ other.net held.command.write.number = a.write ∙ level_same 0 held.nets.write one other same.write ∙ sym b.write in
    let count : one.net held.command.count.number ≡ other.net held.command.count.number = a.count ∙ level_same 1 held.nets.burstcount one other same.burstcount ∙ sym b.count in
    raw_same
    (bit_same _ _ (bit_fits netlist held.command.read h.shown one v) (bit_fits netlist held.command.read h.shown other w) (read_same netlist port one other v w held.read held.command.read held.reads h.reads (λ n o. state n (inl o)) read))
    write
    (a.address ∙ ap (byte_address (host_side port).shape) same.address ∙ sym b.address)
    (a.word ∙ level_same 0 held.nets.writedata one other same.writedata ∙ sym b.word)
    (a.enables ∙ level_same (all_ones port.word_bytes) held.nets.byteenable one other same.byteenable ∙ sym b.enables)
    count
    (more_same netlist port one other v w held.command.write held.command.count held.command.more held.writes h.writes (λ n o. state n (inr o)) write count)
    (a.tag ∙ sym b.tag)
