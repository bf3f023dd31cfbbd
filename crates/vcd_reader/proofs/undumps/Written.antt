-- Texts that are written piece by piece.
use Rattle.std.proofs.Common.{◌≡◌, ℕ, suc, ◌+◌, ◌<◌, ◌≤◌, List, [], ◌∷◌, ◌++◌, length, drop, get_or, map, slice_get, Some, sym, ap, ◌∙◌, append_assoc, append-nil, arith}
use Rattle.std.proofs.Math.Seq.{drop-cons}
use Rattle.std.proofs.lemmas.List.{drop_all, length-map}
use Rattle.std.proofs.lemmas.Option.{slice_get_within, get_or_from_slice_get}
use Rattle.av_base.specs.Word.{Word}
use Rattle.vcd_text.specs.declared.port.DumpPort.{DumpPort}
use Rattle.vcd_text.specs.Text.{DumpValue}
use Rattle.vcd_text.specs.Dumps.{IsDump}
use Rattle.vcd_reader.specs.Undumps.{value_text, values_text, row_line, row_lines}

-- what is left to write, after one more piece of it
pub written_more : (old new add rest next total : List ℕ) → new ≡ old ++ add → rest ≡ add ++ next → old ++ rest ≡ total → new ++ next ≡ total
written_more old new add rest next total now is known =
    ap (λ (t : List ℕ). t ++ next) now ∙ append_assoc old add next ∙ ap (λ (t : List ℕ). old ++ t) (sym is) ∙ known

-- three pieces written one after the other
pub written_thrice : (old a b c x y z : List ℕ) → a ≡ old ++ x → b ≡ a ++ y → c ≡ b ++ z → c ≡ old ++ (x ++ y ++ z)
written_thrice old a b c x y z e f g = let all : c ≡ old ++ x ++ y ++ z = cc in all ∙ together
  where
    together : old ++ x ++ y ++ z ≡ old ++ (x ++ y ++ z)
    together = simp append_assoc

behind : {X : Type 0} (xs : List X) (k : ℕ) (d : X) → k < length xs → drop k xs ≡ get_or xs k d ∷ drop (k + 1) xs
behind xs k d inside = let one : suc k ≡ k + 1 = omega arith in drop-cons xs k d inside ∙ ap (λ (n : ℕ). get_or xs k d ∷ drop n xs) one

pub values_step : (ports : List DumpPort) (row : List Word) (k : ℕ) (port : DumpPort) (value : Word) → k < length ports → k < length row → port ≡ get_or ports k port → value ≡ get_or row k value
    → values_text (drop k ports) (drop k row) ≡ value_text port.name value ++ values_text (drop (k + 1) ports) (drop (k + 1) row)
values_step ports row k port value there here is at =
    ap (λ (ps : List DumpPort). values_text ps (drop k row)) (behind ports k port there ∙ ap (λ (p : DumpPort). p ∷ drop (k + 1) ports) (sym is))
    ∙ ap (values_text (port ∷ drop (k + 1) ports)) (behind row k value here ∙ ap (λ (v : Word). v ∷ drop (k + 1) row) (sym at))

pub values_end : (ports : List DumpPort) (row : List Word) (k : ℕ) → length ports ≤ k → values_text (drop k ports) (drop k row) ≡ []
values_end ports row k end_ = ap (λ (ps : List DumpPort). values_text ps (drop k row)) (drop_all k ports end_)

pub written_all : (old new rest total : List ℕ) → rest ≡ [] → new ++ rest ≡ total → new ≡ total
written_all old new rest total none known = sym (append-nil new) ∙ ap (λ (t : List ℕ). new ++ t) (sym none) ∙ known

pub rows_step : (ports : List DumpPort) (rows : List (List Word)) (k : ℕ) (row : List Word) → slice_get rows k ≡ Some row → row_lines ports k (drop k rows) ≡ row_line ports k row ++ row_lines ports (k + 1) (drop (k + 1) rows)
rows_step ports rows k row at =
    let inside = slice_get_within rows k row at in
    ap (row_lines ports k) (behind rows k row inside ∙ ap (λ (r : List Word). r ∷ drop (k + 1) rows) (get_or_from_slice_get rows k row row at))

pub rows_end : (ports : List DumpPort) (rows : List (List Word)) (k : ℕ) → length rows ≤ k → row_lines ports k (drop k rows) ≡ []
rows_end ports rows k end_ = ap (row_lines ports k) (drop_all k rows end_)

-- a row of a dump has a value for each port
pub row_is_long : (dump : DumpValue) (k : ℕ) (row : List Word) → IsDump dump → slice_get dump.rows k ≡ Some row → length row ≡ length dump.ports
row_is_long dump k row is at =
    let inside = slice_get_within dump.rows k row at in
    let here = is.rows k row inside in
    let same = get_or_from_slice_get dump.rows k row row at in
    sym (length-map row (λ (value : Word). value.width)) ∙ ap (λ (r : List Word). length (map (λ (value : Word). value.width) r)) (sym same) ∙ ap length here.widths ∙ length-map dump.ports (λ (port : DumpPort). port.width)
