use Rattle.std.proofs.Common.{◌==◌, ◌≤◌, ℕ, length, sym, arith}
use Rattle.std.proofs.lemmas.Bool.{ne_eqb, eq-eqb}
use Rattle.std.proofs.lemmas.List.Sums.{position_or_len_is}
use Rattle.tcl_words.proofs.words.before_zero.Goals as goal

pub returns-then-byte-eq0 : goal.returns-then-byte-eq0
returns-then-byte-eq0 c =
    sym (position_or_len_is (λ (byte : ℕ). byte == 0) c.args.bytes.now c.loop-at.at 0 (omega arith) (λ k below. ne_eqb _ 0 (c.loop-at.invariant k below)) (λ _. eq-eqb _ 0 (omega arith)))

pub returns : goal.returns
returns c =
    let all : length c.args.bytes.now ≤ c.loop-at.at = omega arith in
    sym (position_or_len_is (λ (byte : ℕ). byte == 0) c.args.bytes.now (length c.args.bytes.now) 0 (omega arith) (λ k below. ne_eqb _ 0 (c.loop-at.invariant k (omega arith))) (λ past. absurd (omega arith)))
