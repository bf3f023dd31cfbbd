-- Words whose codes are the greatest of their answers' codes: one word more, and more answers.
use Rattle.std.proofs.Common.{ℕ, ◌<◌, ◌≤◌, ◌≡◌, ◌+◌, [], ◌∷◌, ◌++◌, List, arith, refl, sym, ap, ap₂, ◌∙◌, subst, append_assoc, length, take, drop, replicate, length-append, length-drop}
use Rattle.std.proofs.lemmas.List.{take-append-le, drop-append-le, drop-drop}
use Rattle.std.proofs.Math.ListN.{length-replicate}
use Rattle.memory_machines.specs.Blocks.{Block, flat, sizes_of, highest, AreGreatest}
use Rattle.histories.specs.History.{total}

pub length_flat : (bs : List Block) → length (flat bs) ≡ total (sizes_of bs)
length_flat [] = refl
length_flat (b ∷ bs) = length-append (replicate b.size b.code) (flat bs) ∙ ap₂ (λ a c. a + c) (length-replicate b.size b.code) (length_flat bs)

pub flat_append : (xs ys : List Block) → flat (xs ++ ys) ≡ flat xs ++ flat ys
flat_append [] ys = refl
flat_append (b ∷ bs) ys = ap (λ l. replicate b.size b.code ++ l) (flat_append bs ys) ∙ sym (append_assoc (replicate b.size b.code) (flat bs) (flat ys))

-- more answers below change nothing
pub greatest_grows : (bs : List Block) (codes more : List ℕ) → total (sizes_of bs) ≤ length codes → AreGreatest bs codes → AreGreatest bs (codes ++ more)
greatest_grows [] codes more h g = tt
greatest_grows (b ∷ bs) codes more h g =
    let enough : b.size ≤ length codes = omega arith in
    let left : total (sizes_of bs) ≤ length (drop b.size codes) = simp length-drop (omega arith) in (
      (λ some. g.0 some ∙ ap highest (sym (take-append-le b.size codes more enough))),
      subst (λ l. AreGreatest bs l) (sym (drop-append-le b.size codes more enough)) (greatest_grows bs (drop b.size codes) more left g.1),
    )

-- one block more
pub greatest_push : (bs : List Block) (b : Block) (codes : List ℕ) → AreGreatest bs codes → (0 < b.size → b.code ≡ highest (take b.size (drop (total (sizes_of bs)) codes))) → AreGreatest (bs ++ b ∷ []) codes
greatest_push [] b codes g own = (own, tt)
greatest_push (a ∷ bs) b codes g own =
    (g.0, greatest_push bs b (drop a.size codes) g.1 (λ some. own some ∙ ap (λ l. highest (take b.size l)) (sym (drop-drop (total (sizes_of bs)) a.size codes))))
