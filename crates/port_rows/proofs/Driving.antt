-- Levels driven one after another.
use Rattle.std.proofs.Common.{◌≡◌, ℕ, ◌+◌, ◌<◌, List, [], ◌∷◌, ◌++◌, length, take, drop, slice_index_or, sym, ap, subst, ◌∙◌, add-one, drop-cons}
use Rattle.std.proofs.lemmas.List.{take_more, append-nil}
use Rattle.std.proofs.lemmas.List.Concat.{flat_map-append}
use Rattle.av_base.specs.Word.{Word}
use Rattle.port_rows.specs.declared.driven.Driven.{Driven}
use Rattle.port_rows.specs.Levels.{Level, level_if, levels_for, set_levels, AllFit}
use Rattle.port_rows.proofs.Standing.{set_in_two, fits_behind}

abbrev of_one : Driven → List Level
of_one one = level_if one.place one.bits

-- one more is set, and the rest still fits
pub one_more : (start row new : List Word) (driven : List Driven) (i : ℕ) (d : Driven) → i < length driven → row ≡ set_levels start (levels_for (take i driven)) → AllFit row (levels_for (drop i driven))
    → new ≡ set_levels row (level_if (slice_index_or driven i d).place (slice_index_or driven i d).bits)
    → (new ≡ set_levels start (levels_for (take (i + 1) driven))) × AllFit new (levels_for (drop (i + 1) driven))
one_more start row new driven i d inside set fits is =
    let next = slice_index_or driven i d in
    let more : levels_for (take (i + 1) driven) ≡ levels_for (take i driven) ++ of_one next =
    ap levels_for (take_more driven i d inside) ∙ flat_map-append of_one (take i driven) (next ∷ []) ∙ ap (λ (ls : List Level). levels_for (take i driven) ++ ls) (append-nil (of_one next)) in
    let rest : levels_for (drop i driven) ≡ of_one next ++ levels_for (drop (i + 1) driven) =
    rw add-one (ap levels_for (drop-cons driven i d inside)) in
    let behind = fits_behind row (of_one next) (levels_for (drop (i + 1) driven)) (subst (AllFit row) rest fits) in (
      is ∙ ap (λ (r : List Word). set_levels r (of_one next)) set ∙ sym (set_in_two start (levels_for (take i driven)) (of_one next)) ∙ ap (set_levels start) (sym more),
      subst (λ (r : List Word). AllFit r (levels_for (drop (i + 1) driven))) (sym is) behind,
    )
