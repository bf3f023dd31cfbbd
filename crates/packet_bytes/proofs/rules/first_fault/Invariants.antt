use Rattle.std.proofs.Common.{◌≡◌, ◌≤◌, drop}
use Rattle.packet_bytes.specs.Rules.{first_fault}
use Rattle.packet_bytes.proofs.rules.first_fault.Given as goal

abbrev pub invariant-packets : goal.invariant-packets
invariant-packets l = record {
  few : l.before ≤ 4096;
  same : first_fault l.word_bytes l.range 0 l.packets ≡ first_fault l.word_bytes l.range l.before (drop l.packet-index l.packets);
}
