use Rattle.std.proofs.Common.{ℕ, List, ◌++◌, codes, decimal, string_bytes, ap, ◌∙◌}
use Rattle.map_text.proofs.TextLemmas.{all_nine}
use Rattle.map_text.proofs.put_counts.Goals as goal

pub returns : goal.returns
returns c =
    let pieces = all_nine (codes "accepted hosts ") (decimal c.args.hosts) (codes " agents ") (decimal c.args.agents) (codes " streams ") (decimal c.args.streams) (codes " weight ") (decimal c.args.weight) (codes "\n") in
    c.in_ok-write.ensures.bytes ∙ ap (λ (t : List ℕ). string_bytes c.args.text.now ++ t) pieces
