use Rattle.std.proofs.Common.{ℕ, ◌+◌, [], List, length, drop, sym, ap, subst, ◌∙◌}
use Rattle.std.proofs.lemmas.List.{drop_all}
use Rattle.netlist.specs.declared.line.PortLine.{PortLine}
use Rattle.verilog_forms.specs.Forms.{Form}
use Rattle.verilog_forms.specs.WholeTexts.{inputs_form}
use Rattle.verilog_reader.specs.Spots.{found}
use Rattle.verilog_reader.specs.Sections.{Leads}
use Rattle.verilog_reader.proofs.SectionSteps.{flawed_same, leads_to, port_due}
use Rattle.verilog_reader.proofs.sections.inputs.Goals as goal

pub returns-then-is_flawed-clause-read : goal.returns-then-is_flawed-clause-read
returns-then-is_flawed-clause-read c =
    let ports = c.args.ports.now in
    let text = c.args.bytes.now in
    let start = c.args.start in
    let behind = c.in_ok-spot.spot in
    let all = inputs_form 0 0 ports in
    let lines = c.add_port.new.lines.items in
    let flawed = sym c.is_flawed.ensures ∙ c.if-is_flawed.true in
    let later = drop (c.port.port-index + 1) ports in
    let leads = c.in_ok-spot.ensures.leads all start later (port_due ports text start c.port.lines.items c.port.number c.port.port-index c.port-item.result c.port.spot c.port.invariant.counted c.port-test.true c.port-item.is c.port.invariant.reads) in
    let form = inputs_form (length lines) (c.port.number + 1) later in
    leads_to all text start lines form behind behind leads c.in_ok-spot.ensures.within (flawed_same form (Form.whole []) text behind flawed)
    ∙ flawed_same (Form.whole lines) (Form.whole c.new.result.items) text behind flawed

pub port-preserved : goal.port-preserved
port-preserved c =
    let ports = c.args.ports.now in
    let text = c.args.bytes.now in
    let start = c.args.start in
    let all = inputs_form 0 0 ports in
    let i = c.port.port-index in
    let lines = c.add_port.new.lines.items in
    let later = drop (i + 1) ports in
    let good = sym c.is_flawed.ensures ∙ c.if-is_flawed.false in
    let leads = c.in_ok-spot.ensures.leads all start later (port_due ports text start c.port.lines.items c.port.number i c.port-item.result c.port.spot c.port.invariant.counted c.port-test.true c.port-item.is c.port.invariant.reads) in
    record {
      within = c.in_ok-spot.ensures.within;
      counted = ap (λ (k : ℕ). k + 1) c.port.invariant.counted;
      few = c.in_ok-spot.ensures.room good c.port.invariant.few;
      widths = c.in_ok-spot.ensures.widths;
      reads = subst (λ (k : ℕ). Leads all text start lines (inputs_form (length lines) (k + 1) later) c.in_ok-spot.spot) c.port.invariant.counted leads;
    }

pub returns-clause-read : goal.returns-clause-read
returns-clause-read c =
    let ports = c.args.ports.now in
    let text = c.args.bytes.now in
    let lines = c.port.lines.items in
    let i = c.port.port-index in
    let none = drop_all i ports c.port-test.false in
    leads_to (inputs_form 0 0 ports) text c.args.start lines (inputs_form (length lines) i (drop i ports)) c.port.spot c.port.spot c.port.invariant.reads c.port.invariant.within
    (ap (λ (ps : List PortLine). found (inputs_form (length lines) i ps) text c.port.spot) none)
