use Rattle.std.proofs.Common.{◌≡◌, ◌-◌, ◌^◌, ◌&&◌, ◌∷◌, [], ◌++◌, ℕ, List, codes, ap, sym, subst, ◌∙◌}
use Rattle.std.specs.Prelude.{All, nat_lt}
use Rattle.std.proofs.lemmas.List.Elements.{All-push}
use Rattle.netlist.specs.declared.line.PortLine.{PortLine}
use Rattle.verilog_forms.specs.Forms.{next}
use Rattle.verilog_forms.specs.Headers.{is_next}
use Rattle.verilog_reader.specs.Spots.{ahead_of}
use Rattle.verilog_reader.specs.PortNames.{AreNamed, HasWires}
use Rattle.verilog_reader.proofs.HeaderSteps.{Listed, one_listed, all_listed}
use Rattle.verilog_reader.proofs.header_lines.port_lines.Goals as goal

pub ports-preserved : goal.ports-preserved
ports-preserved c =
    let text = c.args.bytes.now in
    let ports = c.ports.ports in
    let port = c.in_ok-port.port in
    let comma = is_next (codes ",") (next (ahead_of text c.ports.at)) in
    let more = ap (λ (k : ℕ). nat_lt k (2 ^ 32 - 1) && comma) (sym c.len.ensures) ∙ sym c.port_next.ensures ∙ c.ports-test.true in
    let pushed : ports ++ port ∷ [] ≡ c.push.new.self = sym c.in_ok-push.ensures.ok in
    record {
      within = c.in_ok-port.ensures.within;
      named = subst (λ (ps : List PortLine). AreNamed ps c.add_name.new.names) pushed (c.in_ok-add_name.ensures ports c.ports.invariant.named);
      widths = subst (All HasWires) pushed (All-push HasWires ports port c.ports.invariant.widths c.in_ok-port.ensures.widths);
      listed = subst (λ (ps : List PortLine). Listed text c.args.spot c.in_ok-port.behind ps) pushed
          (one_listed text c.args.spot c.ports.at c.in_ok-port.behind ports port more c.ports.invariant.within c.in_ok-port.ensures.within (c.in_ok-port.ensures.read ports c.ports.invariant.named) c.ports.invariant.listed);
    }

pub returns-clause-read : goal.returns-clause-read
returns-clause-read c =
    let text = c.args.bytes.now in
    let comma = is_next (codes ",") (next (ahead_of text c.ports.at)) in
    let none = ap (λ (k : ℕ). nat_lt k (2 ^ 32 - 1) && comma) (sym c.len.ensures) ∙ sym c.port_next.ensures ∙ c.ports-test.false in
    all_listed text c.args.spot c.ports.at c.ports.ports none c.ports.invariant.listed
