use Rattle.std.proofs.Common.{◌≡◌, ℕ, ◌+◌, ◌-◌, ◌≤◌, List, [], ◌∷◌, ◌++◌, length, take, drop, get_or, true, false, sym, ap, ◌∙◌, arith}
use Rattle.std.proofs.lemmas.List.{take_rest, drop_all, length-drop}
use Rattle.tcl_words.specs.Bytes.{space, begins_with_line_end}
use Rattle.tcl_words.specs.Reading.{join_tail, braced}
use Rattle.tcl_words.proofs.Steps.{here, pair_taken, behind_join, behind_pair, brace_end, brace_close, brace_open, brace_join, brace_pair, brace_plain, brace_none}
use Rattle.tcl_words.proofs.pieces.braced.Goals as goal

pub returns-in-125-clause-found : goal.returns-in-125-clause-found
returns-in-125-clause-found c =
    let bytes = c.args.bytes.now in
    let at = c.braced.at in
    let rest : List ℕ = drop (at + 1) bytes in
    let byte : ℕ = get_or bytes at 0 in
    sym c.braced.invariant.reads ∙ ap (braced 0 at c.braced.depth c.braced.text) (here bytes at c.braced-test.true) ∙ brace_end at c.braced.depth c.braced.text byte rest (omega arith) (omega arith)

pub braced-preserved-in-125-2 : goal.braced-preserved-in-125-2
braced-preserved-in-125-2 c =
    let bytes = c.args.bytes.now in
    let at = c.braced.at in
    let text = c.braced.text in
    let rest : List ℕ = drop (at + 1) bytes in
    let byte : ℕ = get_or bytes at 0 in
    record {
      some = omega arith;
      deep = omega arith;
      within = omega arith;
      reads = ap (λ (t : List ℕ). braced 0 (at + 1) (c.braced.depth - 1) t rest) c.in_ok-push-in-125-2.ensures.ok
          ∙ sym (brace_close at c.braced.depth text byte rest (omega arith) (λ e. omega arith))
          ∙ ap (braced 0 at c.braced.depth text) (sym (here bytes at c.braced-test.true)) ∙ c.braced.invariant.reads;
    }

pub braced-preserved-in-123 : goal.braced-preserved-in-123
braced-preserved-in-123 c =
    let bytes = c.args.bytes.now in
    let at = c.braced.at in
    let text = c.braced.text in
    let rest : List ℕ = drop (at + 1) bytes in
    let byte : ℕ = get_or bytes at 0 in
    record {
      some = omega arith;
      deep = omega arith;
      within = omega arith;
      reads = ap (λ (t : List ℕ). braced 0 (at + 1) (c.braced.depth + 1) t rest) c.in_ok-push-in-123.ensures.ok
          ∙ sym (brace_open at c.braced.depth text byte rest (omega arith))
          ∙ ap (braced 0 at c.braced.depth text) (sym (here bytes at c.braced-test.true)) ∙ c.braced.invariant.reads;
    }

pub braced-preserved-then-begins_with_line_end : goal.braced-preserved-then-begins_with_line_end
braced-preserved-then-begins_with_line_end c =
    let bytes = c.args.bytes.now in
    let at = c.braced.at in
    let text = c.braced.text in
    let rest : List ℕ = drop (at + 1) bytes in
    let byte : ℕ = get_or bytes at 0 in
    let whole : take (length bytes - (at + 1)) rest ≡ rest = take_rest bytes (at + 1) in
    let joins : begins_with_line_end rest ≡ true = ap begins_with_line_end (sym whole) ∙ sym c.begins_with_line_end.ensures ∙ c.if-begins_with_line_end.true in
    let tail : c.join_tail.result ≡ join_tail rest = c.join_tail.ensures.tail ∙ ap join_tail whole in
    let end : at + (1 + c.join_tail.result) ≡ at + (1 + join_tail rest) = omega arith in
    let short : c.join_tail.result ≤ length rest = omega (arith, c.join_tail.ensures.within, ap length whole) in
    record {
      some = omega arith;
      deep = omega arith;
      within = omega (arith, length-drop (at + 1) bytes, short);
      reads = ap (λ (t : List ℕ). braced 0 (at + (1 + c.join_tail.result)) c.braced.depth t (drop (at + (1 + c.join_tail.result)) bytes)) c.in_ok-push-in-92.ensures.ok
          ∙ ap (λ (n : ℕ). braced 0 n c.braced.depth (text ++ space ∷ []) (drop n bytes)) end
          ∙ ap (braced 0 (at + (1 + join_tail rest)) c.braced.depth (text ++ space ∷ [])) (sym (behind_join bytes at c.braced-test.true))
          ∙ sym (brace_join at c.braced.depth text byte rest (omega arith) joins)
          ∙ ap (braced 0 at c.braced.depth text) (sym (here bytes at c.braced-test.true)) ∙ c.braced.invariant.reads;
    }

pub braced-preserved-in-92-2 : goal.braced-preserved-in-92-2
braced-preserved-in-92-2 c =
    let bytes = c.args.bytes.now in
    let at = c.braced.at in
    let text = c.braced.text in
    let rest : List ℕ = drop (at + 1) bytes in
    let byte : ℕ = get_or bytes at 0 in
    let whole : take (length bytes - (at + 1)) rest ≡ rest = take_rest bytes (at + 1) in
    let pairs : begins_with_line_end rest ≡ false = ap begins_with_line_end (sym whole) ∙ sym c.begins_with_line_end.ensures ∙ c.if-begins_with_line_end.false in
    let taken : take (c.min.result - at) (drop at bytes) ≡ take 2 (drop at bytes) = ap (λ (n : ℕ). take (n - at) (drop at bytes)) c.min.ensures ∙ pair_taken bytes at c.braced-test.true in
    record {
      some = omega arith;
      deep = omega arith;
      within = omega arith;
      reads = ap (λ (t : List ℕ). braced 0 (at + 2) c.braced.depth t (drop (at + 2) bytes)) (c.in_ok-append-in-92-2.ensures.ok ∙ ap (λ (t : List ℕ). text ++ t) (taken ∙ ap (take 2) (here bytes at c.braced-test.true)))
          ∙ ap (braced 0 (at + 2) c.braced.depth (text ++ take 2 (byte ∷ rest))) (sym (behind_pair bytes at c.braced-test.true))
          ∙ sym (brace_pair at c.braced.depth text byte rest (omega arith) pairs)
          ∙ ap (braced 0 at c.braced.depth text) (sym (here bytes at c.braced-test.true)) ∙ c.braced.invariant.reads;
    }

pub braced-preserved : goal.braced-preserved
braced-preserved c =
    let bytes = c.args.bytes.now in
    let at = c.braced.at in
    let text = c.braced.text in
    let rest : List ℕ = drop (at + 1) bytes in
    let byte : ℕ = get_or bytes at 0 in
    record {
      some = omega arith;
      deep = omega arith;
      within = omega arith;
      reads = ap (λ (t : List ℕ). braced 0 (at + 1) c.braced.depth t rest) c.in_ok-push_kept-in_default.ensures
          ∙ sym (brace_plain at c.braced.depth text byte rest (λ e. omega arith) (λ e. omega arith) (λ e. omega arith))
          ∙ ap (braced 0 at c.braced.depth text) (sym (here bytes at c.braced-test.true)) ∙ c.braced.invariant.reads;
    }

pub returns-clause-found : goal.returns-clause-found
returns-clause-found c =
    rw c.flaw.ensures (sym c.braced.invariant.reads ∙ ap (braced 0 c.braced.at c.braced.depth c.braced.text) (drop_all c.braced.at c.args.bytes.now (omega arith)) ∙ brace_none c.braced.at c.braced.depth c.braced.text)
