-- What stands at the places of a list.
use Rattle.std.proofs.Common.{◌≡◌, ℕ, zero, suc, ◌+◌, ◌<◌, ◌⊎◌, inl, inr, List, [], ◌∷◌, ◌++◌, length, take, slice_get, get_or, Option, Some, None, refl, sym, ap, ◌∙◌, arith}
use Rattle.std.proofs.lemmas.Option.{same_Some, slice_get-get_or}
use Rattle.netlist.specs.declared.line.Line.{Line}
use Rattle.netlist.specs.Netlists.{width_at}

pub slice_get-some : {X : Type 0} (xs : List X) (n : ℕ) → n < length xs → (x : X) × (slice_get xs n ≡ Some x)
slice_get-some [] n h = absurd (omega arith)
slice_get-some (x ∷ xs) zero h = (x, refl)
slice_get-some (x ∷ xs) (suc n) h = slice_get-some xs n (omega arith)

pub slice_get-front : {X : Type 0} (xs ys : List X) (n : ℕ) (x : X) → slice_get xs n ≡ Some x → slice_get (xs ++ ys) n ≡ Some x
slice_get-front [] ys n x e = cc
slice_get-front (a ∷ xs) ys zero x e = e
slice_get-front (a ∷ xs) ys (suc n) x e = slice_get-front xs ys n x e

pub slice_get-last : {X : Type 0} (xs : List X) (x : X) → slice_get (xs ++ x ∷ []) (length xs) ≡ Some x
slice_get-last [] x = refl
slice_get-last (a ∷ xs) x = slice_get-last xs x

-- what stands in a list with one more item
pub slice_get-more : {X : Type 0} (xs : List X) (y x : X) (k : ℕ) → slice_get (xs ++ y ∷ []) k ≡ Some x → (slice_get xs k ≡ Some x) ⊎ (y ≡ x)
slice_get-more [] y x zero e = inr (cc)
slice_get-more [] y x (suc k) e = cc
slice_get-more (a ∷ xs) y x zero e = inl e
slice_get-more (a ∷ xs) y x (suc k) e = slice_get-more xs y x k e

take-suc : {X : Type 0} (xs : List X) (n : ℕ) (x : X) → slice_get xs n ≡ Some x → take (suc n) xs ≡ take n xs ++ x ∷ []
take-suc [] n x e = cc
take-suc (a ∷ xs) zero x e = ap (λ y. y ∷ []) (same_Some _ _ e)
take-suc (a ∷ xs) (suc n) x e = ap (λ ys. a ∷ ys) (take-suc xs n x e)

pub take-more : {X : Type 0} (xs : List X) (n : ℕ) (x : X) → slice_get xs n ≡ Some x → take (n + 1) xs ≡ take n xs ++ x ∷ []
take-more xs n x e = let next : n + 1 ≡ suc n = omega arith in rw next (take-suc xs n x e)

pub get_or-past : {X : Type 0} (xs : List (Option X)) (n : ℕ) (x : X) → get_or xs n None ≡ Some x → n < length xs
get_or-past [] n x e = cc
get_or-past (a ∷ xs) zero x e = omega arith
get_or-past (a ∷ xs) (suc n) x e = let h = get_or-past xs n x e in omega (arith, h)

-- two lists with the same at each place are the same
pub same_lists : {X : Type 0} (xs ys : List X) → ((n : ℕ) → slice_get xs n ≡ slice_get ys n) → xs ≡ ys
same_lists [] [] h = refl
same_lists [] (y ∷ ys) h = let e = h 0 in cc
same_lists (x ∷ xs) [] h = let e = h 0 in cc
same_lists (x ∷ xs) (y ∷ ys) h =
    let e = h 0 in
    let head : x ≡ y = cc in
    let rest = same_lists xs ys (λ n. h (suc n)) in
    rw (head, rest) refl

-- what is read within a list hangs on no default
pub read_any : {X : Type 0} (xs : List (Option X)) (n : ℕ) (d x : Option X) → n < length xs → get_or xs n d ≡ x → get_or xs n None ≡ x
read_any xs n d x lt e = same_Some _ _ (sym (slice_get-get_or xs n None lt) ∙ slice_get-get_or xs n d lt) ∙ e

pub width_at-line : (xs : List Line) (n w : ℕ) → width_at xs n ≡ Some w → (line : Line) × (slice_get xs n ≡ Some line) × (line.width ≡ w)
width_at-line [] n w e = cc
width_at-line (x ∷ xs) zero w e = (x, refl, (cc))
width_at-line (x ∷ xs) (suc n) w e = width_at-line xs n w e

pub width_at-is : (xs : List Line) (n : ℕ) (line : Line) → slice_get xs n ≡ Some line → width_at xs n ≡ Some line.width
width_at-is xs n line e = rw e refl
