-- Where nothing stands between a host and an agent the command below is the one above.
use Rattle.std.proofs.Common.{◌≡◌, ℕ, Bool, true, false, not, ◌&&◌, ◌==◌, nat_lt, refl, ap, ap₂, ◌∙◌, arith}
use Rattle.std.proofs.lemmas.Bool.{eqb-true, le-ltb}
use Rattle.iface_roles.specs.declared.records.HostPort.{HostPort}
use Rattle.iface_roles.specs.declared.records.AgentPort.{AgentPort}
use Rattle.netlist.specs.Netlists.{Netlist}
use Rattle.command_nets.specs.declared.nets.CommandNets.{CommandNets}
use Rattle.mm_width.specs.Pairs.{is_wire_pair, packs, selects, needs_cut, needs_drop}
use Rattle.mm_width.specs.Links.{cutter_if, fitting_by, width_of}
use Rattle.mm_width.specs.Kept.{WidthKept, WidthCommand}

record AreWires (same drops cuts : Bool) : Type 0 where
  words : same ≡ true
  kept : drops ≡ false
  whole : cuts ≡ false

wires_of : (same drops cuts : Bool) → ((same && not drops) && not cuts) ≡ true → AreWires same drops cuts
wires_of true false false e = record { words = refl; kept = refl; whole = refl }
wires_of true false true e = absurd (cc)
wires_of true true cuts e = absurd (cc)
wires_of false drops cuts e = absurd (cc)

wired_by : (cuts selected gathered wider drops : Bool) → cuts ≡ false → selected ≡ false → gathered ≡ false → wider ≡ false → drops ≡ false →
    (host : HostPort) (agent : AgentPort) (stages : ℕ) (from to : CommandNets) (kept : WidthKept) (netlist : Netlist) →
    WidthCommand (record { first = record { link = cutter_if cuts host agent }; second = fitting_by selected gathered wider drops host agent stages }) from to kept netlist → to ≡ from
wired_by false false false false false c s g w d host agent stages from to kept netlist h = h.second.second ∙ h.second.first.second ∙ h.second.first.first.second ∙ h.second.first.first.first ∙ h.first
wired_by true selected gathered wider drops c s g w d host agent stages from to kept netlist h = absurd (cc)
wired_by false true gathered wider drops c s g w d host agent stages from to kept netlist h = absurd (cc)
wired_by false false true wider drops c s g w d host agent stages from to kept netlist h = absurd (cc)
wired_by false false false true drops c s g w d host agent stages from to kept netlist h = absurd (cc)
wired_by false false false false true c s g w d host agent stages from to kept netlist h = absurd (cc)

pub wired_command : (host : HostPort) (agent : AgentPort) (stages : ℕ) (from to : CommandNets) (kept : WidthKept) (netlist : Netlist) →
    is_wire_pair host agent ≡ true → WidthCommand (width_of host agent stages) from to kept netlist → to ≡ from
wired_command host agent stages from to kept netlist wire h =
    let are = wires_of (host.word_bytes == agent.word_bytes) (needs_drop host agent) (needs_cut host agent) wire in
    let words = eqb-true host.word_bytes agent.word_bytes are.words in
    let not_narrower = le-ltb host.word_bytes agent.word_bytes (omega (arith, words)) in
    let alone = ap (λ b. b && nat_lt 1 host.burst_bits) not_narrower in
    wired_by (needs_cut host agent) (selects host agent) (packs host agent) (nat_lt agent.word_bytes host.word_bytes) (needs_drop host agent)
    are.whole (ap₂ (λ b p. b && not p) not_narrower alone) alone (le-ltb agent.word_bytes host.word_bytes (omega (arith, words))) are.kept host agent stages from to kept netlist h
