use Rattle.std.proofs.Common.{◌≡◌, ◌++◌, ◌∷◌, [], List, Bool, suc, length, ap, sym, subst, ◌∙◌}
use Rattle.std.specs.Prelude.{All}
use Rattle.std.proofs.lemmas.Result.{err_from_is_err_and}
use Rattle.std.proofs.lemmas.List.Elements.{All-push}
use Rattle.vcd_text.specs.declared.port.DumpPort.{DumpPort}
use Rattle.vcd_reader.specs.Found.{Found}
use Rattle.vcd_reader.specs.Readings.{port_line, port_lines}
use Rattle.vcd_reader.specs.Reads.{AreNamed, HasBits}
use Rattle.vcd_reader.proofs.HeaderSteps.{AreListed, one_listed, all_listed, sign_breaks, line_breaks, shorter_line, stop_on}
use Rattle.vcd_reader.proofs.header.port_lines.Goals as goal

pub returns-in_err-port_follows-clause-read : goal.returns-in_err-port_follows-clause-read
returns-in_err-port_follows-clause-read c =
    let p = err_from_is_err_and c.from_residual.result c.from_residual.ensures.1 in rw (p.1, p.2) (sign_breaks c.args.reader.now c.ports.ports c.ports.reader c.port_follows.new.reader c.in_err-port_follows.field-0.0 c.ports.invariant.listed c.in_err-port_follows.ensures)

pub returns-in_err-port-clause-read : goal.returns-in_err-port-clause-read
returns-in_err-port-clause-read c =
    let start = c.args.reader.now in
    let ports = c.ports.ports in
    let middle = c.port_follows.new.reader in
    let rest = c.port_line.new.reader in
    let more = c.in_ok-port_follows.ensures ∙ ap (λ (t : Bool). Found.told t middle) c.if-branch.true in
    let p = err_from_is_err_and c.from_residual-in_err-port.result c.from_residual-in_err-port.ensures.1 in rw (p.1, p.2) (stop_on (port_line ports middle) (port_lines (suc (length start)) [] start) rest c.in_err-port.field-0.0
    (λ rule e. line_breaks start ports c.ports.reader middle rest rule c.ports.invariant.listed more e) (c.in_err-port.ensures.read ports c.len.ensures c.ports.invariant.named))

pub ports-smaller : goal.ports-smaller
ports-smaller c =
    let ports = c.ports.ports in
    let middle = c.port_follows.new.reader in
    let more = c.in_ok-port_follows.ensures ∙ ap (λ (t : Bool). Found.told t middle) c.if-branch.true in
    shorter_line ports c.in_ok-port.port c.ports.reader middle c.port_line.new.reader more (c.in_ok-port.ensures.read ports c.len.ensures c.ports.invariant.named)

pub ports-preserved : goal.ports-preserved
ports-preserved c =
    let start = c.args.reader.now in
    let ports = c.ports.ports in
    let port = c.in_ok-port.port in
    let middle = c.port_follows.new.reader in
    let rest = c.port_line.new.reader in
    let more = c.in_ok-port_follows.ensures ∙ ap (λ (t : Bool). Found.told t middle) c.if-branch.true in
    let line = c.in_ok-port.ensures.read ports c.len.ensures c.ports.invariant.named in
    let pushed : ports ++ port ∷ [] ≡ c.push.new.self = sym c.in_ok-push.ensures.ok in
    record {
      named = subst (λ (ps : List DumpPort). AreNamed ps c.port_line.new.names) pushed (c.in_ok-port.ensures.named ports c.ports.invariant.named);
      bits = subst (All HasBits) pushed (All-push HasBits ports port c.ports.invariant.bits c.in_ok-port.ensures.bits);
      listed = subst (λ (ps : List DumpPort). AreListed start ps rest) pushed (one_listed start ports port c.ports.reader middle rest c.ports.invariant.listed more line);
    }

pub returns-clause-read : goal.returns-clause-read
returns-clause-read c =
    let rest = c.port_follows.new.reader in
    all_listed c.args.reader.now c.ports.ports c.ports.reader rest c.ports.invariant.listed (c.in_ok-port_follows.ensures ∙ ap (λ (t : Bool). Found.told t rest) c.if-branch.false)
