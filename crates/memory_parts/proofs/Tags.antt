-- The tag of the oldest unanswered read is that of the next word that is asked.
use Rattle.std.proofs.Common.{ℕ, zero, suc, ◌<◌, ◌≤◌, ◌≡◌, ◌-◌, [], ◌∷◌, ◌++◌, List, Bool, true, false, nat_lt, arith, refl, sym, ap, ap₂, ◌∙◌, length, map, flat_map, drop, replicate, append_assoc}
use Rattle.std.proofs.lemmas.Bool.{ltb-true, ltb-false}
use Rattle.std.proofs.lemmas.List.Elements.{All-tail}
use Rattle.std.proofs.Math.Seq.{drop-append_seam}
use Rattle.histories.specs.History.{IsPrefix}
use Rattle.memory_runs.specs.Operations.{Beat}
use Rattle.memory_runs.specs.Commands.{is_of_reads}
use Rattle.memory_machines.specs.Link.{Marked}
use Rattle.memory_machines.specs.Lines.{asked_tags}
use Rattle.memory_parts.specs.Queue.{Entry, head_tag}
use Rattle.memory_parts.proofs.Queued.{entries, left_after}
use Rattle.memory_parts.proofs.Queued.{AllAsk, HasWords, words_of}

abbrev pub tags_of : List Entry → List ℕ
tags_of es = flat_map (λ (e : Entry). replicate e.left e.tag) es

one_tag : (tag : ℕ) (beats : List Beat) → map (λ (_ : Beat). tag) beats ≡ replicate (length beats) tag
one_tag tag [] = refl
one_tag tag (b ∷ beats) = ap (λ l. tag ∷ l) (one_tag tag beats)

pub asked_are : (ms : List Marked) → asked_tags ms ≡ tags_of (entries ms)
asked_are [] = refl
asked_are (m ∷ ms) = by_test (is_of_reads m.transfer.kind) refl (asked_are ms)
  where
    by_test : (b : Bool) → is_of_reads m.transfer.kind ≡ b → asked_tags ms ≡ tags_of (entries ms) → asked_tags (m ∷ ms) ≡ tags_of (entries (m ∷ ms))
    by_test true is ih = rw is (ap₂ (λ x y. x ++ y) (one_tag m.tag m.transfer.beats) ih)
    by_test false is ih = rw is ih

drop_low : (k w tag : ℕ) (rest : List ℕ) → w ≤ k → drop w (replicate k tag ++ rest) ≡ replicate (k - w) tag ++ rest
drop_low k zero tag rest low = let same : k - 0 ≡ k = omega arith in ap (λ n. replicate n tag ++ rest) (sym same)
drop_low zero (suc w) tag rest low = absurd (omega arith)
drop_low (suc k) (suc w) tag rest low = let same : suc k - suc w ≡ k - w = omega arith in drop_low k w tag rest (omega arith) ∙ ap (λ n. replicate n tag ++ rest) (sym same)

drop_high : (k w tag : ℕ) (rest : List ℕ) → k ≤ w → drop w (replicate k tag ++ rest) ≡ drop (w - k) rest
drop_high zero w tag rest low = let same : w - 0 ≡ w = omega arith in ap (λ n. drop n rest) (sym same)
drop_high (suc k) zero tag rest low = absurd (omega arith)
drop_high (suc k) (suc w) tag rest low = let same : suc w - suc k ≡ w - k = omega arith in drop_high k w tag rest (omega arith) ∙ ap (λ n. drop n rest) (sym same)

pub left_tags : (es : List Entry) (w : ℕ) → drop w (tags_of es) ≡ tags_of (left_after es w)
left_tags [] zero = refl
left_tags [] (suc w) = refl
left_tags (e ∷ later) w = by_test (nat_lt w e.left) refl (left_tags later (w - e.left))
  where
    by_test : (b : Bool) → nat_lt w e.left ≡ b → drop (w - e.left) (tags_of later) ≡ tags_of (left_after later (w - e.left)) → drop w (tags_of (e ∷ later)) ≡ tags_of (left_after (e ∷ later) w)
    by_test true is ih = let low = ltb-true w e.left is in rw is (drop_low e.left w e.tag (tags_of later) (omega (arith, low)))
    by_test false is ih = let high = ltb-false w e.left is in rw is (drop_high e.left w e.tag (tags_of later) high ∙ ih)

-- what is left begins with a word that is owed
head_of : (es : List Entry) (w : ℕ) → w < words_of es → AllAsk es → (rest : List ℕ) × (tags_of (left_after es w) ≡ head_tag (left_after es w) ∷ rest)
head_of [] w low all = absurd (omega arith)
head_of (e ∷ later) w low all = by_test (nat_lt w e.left) refl (λ high. head_of later (w - e.left) (omega arith) (All-tail HasWords e later all))
  where
    by_test : (b : Bool) → nat_lt w e.left ≡ b → (e.left ≤ w → (rest : List ℕ) × (tags_of (left_after later (w - e.left)) ≡ head_tag (left_after later (w - e.left)) ∷ rest)) →
        (rest : List ℕ) × (tags_of (left_after (e ∷ later) w) ≡ head_tag (left_after (e ∷ later) w) ∷ rest)
    by_test true is go =
        let less = ltb-true w e.left is in
        let more : e.left - w ≡ suc (e.left - suc w) = omega (arith, less) in
        rw is (replicate (e.left - suc w) e.tag ++ tags_of later, ap (λ n. replicate n e.tag ++ tags_of later) more)
    by_test false is go = rw is (go (ltb-false w e.left is))

-- so a word under that tag comes in order
pub tag_in_order : (es : List Entry) (tags : List ℕ) → AllAsk es → IsPrefix tags (tags_of es) → length tags < words_of es → IsPrefix (tags ++ head_tag (left_after es (length tags)) ∷ []) (tags_of es)
tag_in_order es tags all p low =
    let head = head_of es (length tags) low all in
    let rest : p.rest ≡ head_tag (left_after es (length tags)) ∷ head.0 = sym (ap (drop (length tags)) (sym p.joins) ∙ drop-append_seam tags p.rest) ∙ left_tags es (length tags) ∙ head.1 in
    record { rest = head.0; joins = append_assoc tags (head_tag (left_after es (length tags)) ∷ []) head.0 ∙ ap (λ l. tags ++ l) (sym rest) ∙ p.joins }
