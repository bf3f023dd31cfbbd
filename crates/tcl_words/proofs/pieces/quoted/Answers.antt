use Rattle.std.proofs.Common.{◌≡◌, ℕ, ◌+◌, ◌-◌, ◌≤◌, List, [], ◌∷◌, ◌++◌, length, take, drop, get_or, true, false, sym, ap, ◌∙◌, arith}
use Rattle.std.proofs.lemmas.List.{take_rest, drop_all, length-drop}
use Rattle.tcl_words.specs.Bytes.{space, begins_with_line_end}
use Rattle.tcl_words.specs.Reading.{join_tail, quoted}
use Rattle.tcl_words.proofs.Steps.{here, behind_join, quote_end, quote_refused, quote_join, quote_alone, quote_plain, quote_none}
use Rattle.tcl_words.proofs.pieces.quoted.Goals as goal

pub returns-then-byte-eq34-clause-found : goal.returns-then-byte-eq34-clause-found
returns-then-byte-eq34-clause-found c =
    let bytes = c.args.bytes.now in
    let at = c.quoted.at in
    sym c.quoted.invariant.reads ∙ ap (quoted 0 at c.quoted.text) (here bytes at c.quoted-test.true) ∙ quote_end at 0 c.quoted.text (get_or bytes at 0) (drop (at + 1) bytes) c.if-byte-eq34.true

pub quoted-preserved-then-byte-eq92 : goal.quoted-preserved-then-byte-eq92
quoted-preserved-then-byte-eq92 c =
    let bytes = c.args.bytes.now in
    let at = c.quoted.at in
    let text = c.quoted.text in
    let rest : List ℕ = drop (at + 1) bytes in
    let byte : ℕ = get_or bytes at 0 in
    let whole : take (length bytes - (at + 1)) rest ≡ rest = take_rest bytes (at + 1) in
    let joins : begins_with_line_end rest ≡ true = ap begins_with_line_end (sym whole) ∙ sym c.begins_with_line_end.ensures ∙ c.if-not-begins_with_line_end.false in
    let tail : c.join_tail.result ≡ join_tail rest = c.join_tail.ensures.tail ∙ ap join_tail whole in
    let end : at + (1 + c.join_tail.result) ≡ at + (1 + join_tail rest) = omega arith in
    let short : c.join_tail.result ≤ length rest = omega (arith, c.join_tail.ensures.within, ap length whole) in
    record {
      some = omega arith;
      within = omega (arith, length-drop (at + 1) bytes, short);
      reads = ap (λ (t : List ℕ). quoted 0 (at + (1 + c.join_tail.result)) t (drop (at + (1 + c.join_tail.result)) bytes)) c.in_ok-push.ensures.ok
          ∙ ap (λ (n : ℕ). quoted 0 n (text ++ space ∷ []) (drop n bytes)) end
          ∙ ap (quoted 0 (at + (1 + join_tail rest)) (text ++ space ∷ [])) (sym (behind_join bytes at c.quoted-test.true))
          ∙ sym (quote_join at 0 text byte rest c.if-byte-eq92.true joins)
          ∙ ap (quoted 0 at text) (sym (here bytes at c.quoted-test.true)) ∙ c.quoted.invariant.reads;
    }

pub returns-then-substitutes-clause-found : goal.returns-then-substitutes-clause-found
returns-then-substitutes-clause-found c =
    let bytes = c.args.bytes.now in
    let at = c.quoted.at in
    rw c.flaw.ensures (sym c.quoted.invariant.reads ∙ ap (quoted 0 at c.quoted.text) (here bytes at c.quoted-test.true)
    ∙ quote_refused at 0 c.quoted.text (get_or bytes at 0) (drop (at + 1) bytes) c.if-byte-eq34.false (sym c.substitutes.ensures ∙ c.if-substitutes.true))

pub returns-then-not-begins_with_line_end-clause-found : goal.returns-then-not-begins_with_line_end-clause-found
returns-then-not-begins_with_line_end-clause-found c =
    let bytes = c.args.bytes.now in
    let at = c.quoted.at in
    let rest : List ℕ = drop (at + 1) bytes in
    let whole : take (length bytes - (at + 1)) rest ≡ rest = take_rest bytes (at + 1) in
    let alone : begins_with_line_end rest ≡ false = ap begins_with_line_end (sym whole) ∙ sym c.begins_with_line_end.ensures ∙ c.if-not-begins_with_line_end.true in
    rw c.flaw-then-not-begins_with_line_end.ensures
    (sym c.quoted.invariant.reads ∙ ap (quoted 0 at c.quoted.text) (here bytes at c.quoted-test.true) ∙ quote_alone at 0 c.quoted.text (get_or bytes at 0) rest c.if-byte-eq92.true alone)

pub quoted-preserved : goal.quoted-preserved
quoted-preserved c =
    let bytes = c.args.bytes.now in
    let at = c.quoted.at in
    let text = c.quoted.text in
    let rest : List ℕ = drop (at + 1) bytes in
    let byte : ℕ = get_or bytes at 0 in
    record {
      some = omega arith;
      within = omega arith;
      reads = ap (λ (t : List ℕ). quoted 0 (at + 1) t rest) c.in_ok-push_kept.ensures
          ∙ sym (quote_plain at 0 text byte rest c.if-byte-eq34.false (sym c.substitutes.ensures ∙ c.if-substitutes.false) c.if-byte-eq92.false)
          ∙ ap (quoted 0 at text) (sym (here bytes at c.quoted-test.true)) ∙ c.quoted.invariant.reads;
    }

pub returns-clause-found : goal.returns-clause-found
returns-clause-found c =
    rw c.flaw-2.ensures (sym c.quoted.invariant.reads ∙ ap (quoted 0 c.quoted.at c.quoted.text) (drop_all c.quoted.at c.args.bytes.now (omega arith)) ∙ quote_none c.quoted.at c.quoted.text)
