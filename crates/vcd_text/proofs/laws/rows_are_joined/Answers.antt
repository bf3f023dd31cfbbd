use Rattle.std.proofs.Common.{◌≡◌, ℕ, ◌+◌, List, [], ◌∷◌, ◌++◌, length, append_assoc, append-nil, sym, ap, ◌∙◌, Bool, cond, arith}
use Rattle.std.proofs.lemmas.Bool.{ne_eqb}
use Rattle.av_base.specs.Word.{Word}
use Rattle.vcd_text.specs.Text.{first_text, later_text, later_texts, rows_text, row_text, last_row}
use Rattle.vcd_text.proofs.laws.rows_are_joined.Goals as goal

later_more : (time : ℕ) (before row : List Word) (rows : List (List Word))
    → later_texts time before (rows ++ row ∷ []) ≡ later_texts time before rows ++ later_text (time + length rows) (last_row before rows) row
later_more time before row [] = let e : time + 0 ≡ time = omega arith in append-nil (later_text time before row) ∙ ap (λ (t : ℕ). later_text t before row) (sym e)
later_more time before row (next ∷ rows) =
    let e : time + 1 + length rows ≡ time + length (next ∷ rows) = omega arith in
    ap (λ (bs : List ℕ). later_text time before next ++ bs) (later_more (time + 1) next row rows)
    ∙ sym (append_assoc (later_text time before next) (later_texts (time + 1) next rows) (later_text (time + 1 + length rows) (last_row next rows) row))
    ∙ ap (λ (t : ℕ). later_text time before next ++ later_texts (time + 1) next rows ++ later_text t (last_row next rows) row) e

joined : (before row : List Word) (rows : List (List Word)) → rows_text (rows ++ row ∷ []) ≡ rows_text rows ++ row_text (length rows) (last_row before rows) row
joined before row [] = append-nil (first_text row)
joined before row (next ∷ rows) =
    let e : 1 + length rows ≡ length (next ∷ rows) = omega arith in
    ap (λ (bs : List ℕ). first_text next ++ bs) (later_more 1 next row rows)
    ∙ sym (append_assoc (first_text next) (later_texts 1 next rows) (later_text (1 + length rows) (last_row next rows) row))
    ∙ ap (λ (t : ℕ). first_text next ++ later_texts 1 next rows ++ later_text t (last_row next rows) row) e
    ∙ ap (λ (bs : List ℕ). first_text next ++ later_texts 1 next rows ++ bs) (sym (later (length (next ∷ rows)) (λ z. omega arith)))
  where
    later : (n : ℕ) → (n ≡ 0 → ⊥) → row_text n (last_row next rows) row ≡ later_text n (last_row next rows) row
    later n some = ap (λ (t : Bool). cond t (first_text row) (later_text n (last_row next rows) row)) (ne_eqb n 0 some)

pub returns : goal.returns
returns c = joined
