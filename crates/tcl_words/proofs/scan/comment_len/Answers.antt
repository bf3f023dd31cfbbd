use Rattle.std.proofs.Common.{◌≡◌, ℕ, ◌+◌, ◌<◌, Bool, List, ◌∷◌, ◌&&◌, length, drop, get_or, true, false, sym, ap, ◌∙◌, arith}
use Rattle.std.proofs.lemmas.List.{take_rest, drop_all}
use Rattle.tcl_words.specs.Bytes.{begins_with_line_feed}
use Rattle.tcl_words.specs.Reading.{comment_len}
use Rattle.tcl_words.proofs.Steps.{here, comment_stops, comment_feed, comment_backslash, comment_return, comment_other, comment_none}
use Rattle.tcl_words.proofs.scan.comment_len.Goals.{in-10-2, in-92, in-13+then-odd, in-13+else-odd, in_default}
use Rattle.tcl_words.proofs.scan.comment_len.Goals as goal

pub returns-in-10-clause-length : goal.returns-in-10-clause-length
returns-in-10-clause-length c =
    let bytes = c.args.bytes.now in
    let at = c.comment.at in
    let stops : comment_len c.comment.odd (drop at bytes) ≡ 0 = ap (comment_len c.comment.odd) (here bytes at c.comment-test.true) ∙ comment_stops c.comment.odd (get_or bytes at 0) (drop (at + 1) bytes) (omega arith) (cc) in
    omega (arith, stops, c.comment.invariant.1)

-- one byte on
goes_on : (bytes : List ℕ) (at : ℕ) (odd next : Bool) (total : ℕ) → at < length bytes → comment_len odd (get_or bytes at 0 ∷ drop (at + 1) bytes) ≡ 1 + comment_len next (drop (at + 1) bytes)
    → at + comment_len odd (drop at bytes) ≡ total → at + 1 + comment_len next (drop (at + 1) bytes) ≡ total
goes_on bytes at odd next total inside step so_far = let here_is = ap (comment_len odd) (here bytes at inside) in omega (arith, here_is, step, so_far)

pub comment-preserved : goal.comment-preserved
comment-preserved c =
    let bytes = c.args.bytes.now in
    let at = c.comment.at in
    let odd : Bool = c.comment.odd in
    let next : Bool = c.match-bytes-at.odd in
    let byte : ℕ = get_or bytes at 0 in
    let rest : List ℕ = drop (at + 1) bytes in
    let on : comment_len odd (byte ∷ rest) ≡ 1 + comment_len next rest = elim c.match-bytes-at.branch [
      | in-10-2 w ↦ comment_feed odd byte rest (omega arith) (cc) ∙ ap (λ (t : Bool). 1 + comment_len t rest) (sym w.odd-is)
      | in-92 w ↦ comment_backslash odd byte rest (omega arith) ∙ ap (λ (t : Bool). 1 + comment_len t rest) (sym w.odd-is)
      | in-13+then-odd w ↦
          let is : odd ≡ true = cc in
          let feeds : begins_with_line_feed rest ≡ next = ap begins_with_line_feed (sym (take_rest bytes (at + 1))) ∙ sym w.begins_with_line_feed-odd.ensures ∙ sym w.odd-is in
          comment_return odd byte rest (omega arith) ∙ ap (λ (t : Bool). 1 + comment_len (t && begins_with_line_feed rest) rest) is ∙ ap (λ (t : Bool). 1 + comment_len t rest) feeds
      | in-13+else-odd w ↦
          let is : odd ≡ false = cc in
          comment_return odd byte rest (omega arith) ∙ ap (λ (t : Bool). 1 + comment_len (t && begins_with_line_feed rest) rest) is ∙ ap (λ (t : Bool). 1 + comment_len t rest) (sym is ∙ sym w.odd-is)
      | in_default w ↦ comment_other odd byte rest (λ e. omega arith) (λ e. omega arith) (λ e. omega arith) ∙ ap (λ (t : Bool). 1 + comment_len t rest) (sym w.odd-is)
    ] in
    (omega arith, goes_on bytes at odd next (comment_len false bytes) c.comment-test.true on c.comment.invariant.1)

pub returns-clause-length : goal.returns-clause-length
returns-clause-length c =
    let bytes = c.args.bytes.now in
    let at = c.comment.at in
    let stops : comment_len c.comment.odd (drop at bytes) ≡ 0 = ap (comment_len c.comment.odd) (drop_all at bytes (omega arith)) ∙ comment_none c.comment.odd in
    omega (arith, stops, c.comment.invariant.1)
