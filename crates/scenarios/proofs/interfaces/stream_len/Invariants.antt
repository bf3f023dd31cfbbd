use Rattle.std.proofs.Common.{◌≡◌, ◌+◌, drop}
use Rattle.std.specs.Str.{bytes_eq}
use Rattle.std.specs.List.{position_or_len}
use Rattle.link_rules.specs.declared.plan_connections.StreamConnection.{StreamConnection}
use Rattle.map_text.specs.Text.{end_name}
use Rattle.scenarios.specs.Interfaces.{stream_end}
use Rattle.scenarios.proofs.interfaces.stream_len.Given as goal

abbrev pub invariant-streams : goal.invariant-streams
invariant-streams l = (l.count ≡ l.link-index)
    × (position_or_len (λ (link : StreamConnection). bytes_eq (end_name l.plan.system (stream_end l.side link)) l.word) l.link-items ≡ l.count + position_or_len (λ (link : StreamConnection). bytes_eq (end_name l.plan.system (stream_end l.side link)) l.word) (drop l.link-index l.link-items))
