use Rattle.std.proofs.Common.{List, ◌≡◌, ◌<◌, ◌==◌, [], ◌∷◌, length, length-append, sym, ap, refl, ◌∙◌, arith}
use Rattle.std.proofs.lemmas.Result.{err_from_is_err_and}
use Rattle.std.proofs.lemmas.List.{length-map}
use Rattle.av_base.specs.Word.{Word}
use Rattle.vcd_text.specs.declared.port.DumpPort.{DumpPort}
use Rattle.vcd_text.specs.Dumps.{widths_of}
use Rattle.vcd_reader.specs.Readings.{width_at}
use Rattle.vcd_reader.proofs.ValueSteps.{this_port, values_behind, one_value, value_breaks, all_values}
use Rattle.vcd_reader.proofs.values.first_values.Goals as goal

pub returns-in_err-value-clause-stop : goal.returns-in_err-value-clause-stop
returns-in_err-value-clause-stop c =
    let ports = c.args.ports.now in
    let widths = widths_of ports in
    let row = c.ports.row.items in
    let k = length row in
    let w = width_at widths k in
    let long = length-map ports (λ (port : DumpPort). port.width) in
    let here : c.len-in-ports.result ≡ k = omega arith in
    let inside : k < length widths = omega arith in
    let p = err_from_is_err_and c.from_residual.result c.from_residual.ensures.1 in rw (p.1, p.2) (c.ports.invariant.goes_on ∙ value_breaks widths row c.ports.reader c.first_value.new.reader c.in_err-value.field-0.0 inside
    (c.in_err-value.ensures (λ _. w) (λ port. port == k) (this_port widths c.len-in-ports.result k w here refl)))

pub ports-preserved : goal.ports-preserved
ports-preserved c =
    let ports = c.args.ports.now in
    let widths = widths_of ports in
    let row = c.ports.row.items in
    let k = length row in
    let w = width_at widths k in
    let long = length-map ports (λ (port : DumpPort). port.width) in
    let here : c.len-in-ports.result ≡ k = omega arith in
    let inside : k < length widths = omega arith in
    let pushed = c.in_ok-push_value.ensures in
    record {
      few = omega (arith, ap length pushed, length-append row (c.in_ok-value.value ∷ []));
      goes_on = c.ports.invariant.goes_on
          ∙ one_value widths row c.ports.reader c.first_value.new.reader c.in_ok-value.field-0-0 c.in_ok-value.value inside (c.in_ok-value.ensures (λ _. w) (λ port. port == k) (this_port widths c.len-in-ports.result k w here refl))
          ∙ ap (λ (r : List Word). values_behind widths r c.first_value.new.reader) (sym pushed);
    }

pub returns-clause-read : goal.returns-clause-read
returns-clause-read c =
    let ports = c.args.ports.now in
    let long = length-map ports (λ (port : DumpPort). port.width) in
    c.ports.invariant.goes_on ∙ all_values (widths_of ports) c.ports.row.items c.ports.reader (omega arith)
