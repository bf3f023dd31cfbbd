use Rattle.std.proofs.Common.{◌≡◌, ℕ, List, IfOk, ◌∙◌, subst}
use Rattle.port_tables.specs.Ports.{name_at}
use Rattle.port_tables.proofs.Names.{port_name-is}
use Rattle.port_tables.proofs.header.name_of_port.Goals as goal

pub returns : goal.returns
returns c =
    let name = name_at c.args.plan.now.system c.args.end in
    let is = port_name-is name c.args.word.now _ _ _ (c.as_str.ensures.value ∙ c.in_ok-name.ensures.ok) c.instance_name-instance.ensures c.interface_name-interface.ensures in
    subst (λ (text : List ℕ). IfOk c.copy.result (λ (name : List ℕ). name ≡ text)) is c.copy.ensures
