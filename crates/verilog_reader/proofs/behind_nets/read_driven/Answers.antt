use Rattle.std.proofs.Common.{◌≡◌, ℕ, ◌+◌, ◌<◌, ◌≤◌, ◌||◌, Bool, false, List, [], length, drop, Option, refl, sym, ap, subst, arith}
use Rattle.std.proofs.lemmas.List.{drop_all}
use Rattle.netlist.specs.declared.line.PortLine.{PortLine}
use Rattle.verilog_forms.specs.Forms.{Form}
use Rattle.verilog_reader.specs.Spots.{found}
use Rattle.verilog_forms.specs.WholeTexts.{all_driven_form}
use Rattle.verilog_reader.specs.Sections.{Leads}
use Rattle.verilog_reader.proofs.SectionSteps.{leads_to}
use Rattle.verilog_reader.proofs.BehindSteps.{here_item, driven_on}
use Rattle.verilog_reader.proofs.behind_nets.read_driven.Goals as goal

pub ports-preserved : goal.ports-preserved
ports-preserved c =
    let ports = c.args.ports.now in
    let bytes = c.args.bytes.now in
    let start = c.args.start in
    let spot = c.ports.spot in
    let i = c.ports.port-index in
    let port = c.port-item.result in
    let drivers = c.ports.drivers.items in
    let assigned = c.ports.assigned in
    let x = c.driven-driver.result.0 in
    let behind = c.driven-driver.result.1 in
    let inside : i < length ports = omega arith in
    let ahead = drop (i + 1) ports in
    let at = here_item ports ports i port inside refl c.port-item.is in
    record {
      within = c.driven-driver.ensures.within;
      leads = λ old all same many.
          let form = all_driven_form all old false ports in
          let now = subst (λ (ps : List PortLine). Leads form bytes start drivers (all_driven_form all old assigned ps) spot) at (c.ports.invariant.leads old all same many) in
          let on = driven_on all old assigned ports ahead port bytes start spot behind drivers x c.ports.invariant.within c.driven-driver.ensures.within now (c.driven-driver.ensures.read old all same many) in
          let pushed = subst (λ (ds : List (Option ℕ)). Leads form bytes start ds (all_driven_form all old (assigned || port.output) ahead) behind) (sym c.in_ok-push.ensures.items) on in
          subst (λ (t : Bool). Leads form bytes start c.push.new.self.items (all_driven_form all old t ahead) behind) (sym c.either-assigned.ensures) pushed;
    }

pub returns-clause-read : goal.returns-clause-read
returns-clause-read c = λ old all same many.
    let ports = c.args.ports.now in
    let bytes = c.args.bytes.now in
    let spot = c.ports.spot in
    let i = c.ports.port-index in
    let assigned = c.ports.assigned in
    let over : length ports ≤ i = omega arith in
    let none : Form (List (Option ℕ)) = Form.whole [] in
    let ended : found (all_driven_form all old assigned (drop i ports)) bytes spot ≡ found none bytes spot = ap (λ (ps : List PortLine). found (all_driven_form all old assigned ps) bytes spot) (drop_all i ports over) in
    leads_to (all_driven_form all old false ports) bytes c.args.start c.ports.drivers.items (all_driven_form all old assigned (drop i ports)) spot spot (c.ports.invariant.leads old all same many) c.ports.invariant.within ended
