use Rattle.std.proofs.Common.{◌≡◌, List, ℕ, Option, Some, ap, ◌∙◌}
use Rattle.system_tables.specs.Kept.{kept_table}
use Rattle.system_scripts.proofs.system_draft.SystemDraft.with_tables.Goals as goal

same_name : (a b : List ℕ) (stated : Option (List ℕ)) → stated ≡ Some a → stated ≡ Some b → a ≡ b
same_name a b stated p q = cc

pub new-requires : goal.new-requires
new-requires c = (rw (← c.self.view_is) at c.requires.system) c.unwrap.result c.unwrap.ensures

pub returns : goal.returns
returns c =
    let stages = c.self.inside.stages in
    let instances = c.self.inside.instances.items in
    rw (← c.self.view_is)
    (λ name named. c.new.ensures ∙ ap (λ n. kept_table n stages c.args.tables.0 instances c.args.tables.1) (same_name c.unwrap.result name c.self.inside.name c.unwrap.ensures named))
