use Rattle.std.proofs.Common.{◌≡◌, ◌+◌, drop}
use Rattle.std.specs.Str.{bytes_eq}
use Rattle.std.specs.List.{position_or_len}
use Rattle.map_text.specs.Text.{end_name}
use Rattle.scenarios.proofs.interfaces.place_len.Given as goal

abbrev pub invariant-ends : goal.invariant-ends
invariant-ends l = (l.count ≡ l.end-index)
    × (position_or_len (λ end. bytes_eq (end_name l.plan.system end) l.word) l.ends ≡ l.count + position_or_len (λ end. bytes_eq (end_name l.plan.system end) l.word) (drop l.end-index l.ends))
