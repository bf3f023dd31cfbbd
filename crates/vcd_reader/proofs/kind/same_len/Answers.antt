use Rattle.std.proofs.Common.{◌≡◌, ℕ, ◌≤◌, List, [], ◌∷◌, length, drop, refl, ap, ◌∙◌, arith}
use Rattle.std.proofs.lemmas.List.{drop_all}
use Rattle.vcd_reader.specs.Reads.{same_len}
use Rattle.vcd_reader.proofs.kind.same_len.Goals as goal

same_none : (part : List ℕ) → same_len part [] ≡ 0
same_none [] = refl
same_none (b ∷ bs) = refl

text_ended : (part bytes : List ℕ) (count : ℕ) → length bytes ≤ count → same_len part (drop count bytes) ≡ 0
text_ended part bytes count end_ = ap (same_len part) (drop_all count bytes end_) ∙ same_none part

pub returns-then-count-bytes-clause-length : goal.returns-then-count-bytes-clause-length
returns-then-count-bytes-clause-length c =
    let none = text_ended (drop c.part.byte-index c.args.part.now) c.args.bytes.now c.part.count (omega arith) in
    omega (arith, none, c.part.invariant.goes_on)
