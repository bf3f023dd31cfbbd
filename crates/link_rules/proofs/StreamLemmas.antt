-- Lists that are made of the connections of a system, one by one.
use Rattle.std.proofs.Common.{◌≡◌, ℕ, ◌+◌, ◌<◌, suc, false, List, [], ◌∷◌, ◌++◌, Option, Some, None, length, get_or, take, sym, ap, ◌∙◌, arith}
use Rattle.std.specs.List.{filter_map, enumerate_from, cons_option}
use Rattle.std.proofs.lemmas.List.{append-nil, take_more, length-take}
use Rattle.std.proofs.lemmas.List.Elements.{filter_map-append}
use Rattle.iface_roles.specs.declared.kinds.Kind.TheVariants.{Clock}
use Rattle.system_tables.specs.declared.tables.Connection.{Connection}

-- what is read past the end of a list of connections
abbrev pub zeros : Connection
zeros = record { start = record { instance = 0; interface = 0 }; end = record { instance = 0; interface = 0 }; kind = Clock; base = 0; shares = 0; fifo = 0; clock_fits = false }

-- one more item beside its number
enumerate_from-push : {X : Type 0} (n : ℕ) (xs : List X) (x : X) → enumerate_from n (xs ++ x ∷ []) ≡ enumerate_from n xs ++ (n + length xs, x) ∷ []
enumerate_from-push n [] x = let zero : n ≡ n + 0 = omega arith in ap (λ k. (k, x) ∷ []) zero
enumerate_from-push n (y ∷ xs) x =
    let next : n + 1 + length xs ≡ n + suc (length xs) = omega arith in
    ap (λ l. (n, y) ∷ l) (enumerate_from-push (n + 1) xs x ∙ ap (λ k. enumerate_from (n + 1) xs ++ (k, x) ∷ []) next)

-- what the first items give, each beside its number
abbrev pub made_before : {X Y : Type 0} → (ℕ × X → Option Y) → List X → ℕ → List Y
made_before f xs n = filter_map f (enumerate_from 0 (take n xs))

pub made_before-next : {X Y : Type 0} (f : ℕ × X → Option Y) (xs : List X) (i : ℕ) (d : X) → i < length xs
    → made_before f xs (i + 1) ≡ made_before f xs i ++ cons_option (f (i, get_or xs i d)) []
made_before-next {X} f xs i d within =
    let long : 0 + length (take i xs) ≡ i = omega (arith, length-take i xs) in
    ap (λ (l : List X). filter_map f (enumerate_from 0 l)) (take_more xs i d within)
    ∙ ap (filter_map f) (enumerate_from-push 0 (take i xs) (get_or xs i d))
    ∙ filter_map-append f (enumerate_from 0 (take i xs)) ((0 + length (take i xs), get_or xs i d) ∷ [])
    ∙ ap (λ n. made_before f xs i ++ cons_option (f (n, get_or xs i d)) []) long

-- one more, and none
pub made_more : {X Y : Type 0} (f : ℕ × X → Option Y) (xs : List X) (i : ℕ) (d : X) (y : Y) → i < length xs → f (i, get_or xs i d) ≡ Some y
    → made_before f xs i ++ y ∷ [] ≡ made_before f xs (i + 1)
made_more f xs i d y within is = sym (made_before-next f xs i d within ∙ ap (λ o. made_before f xs i ++ cons_option o []) is)

pub made_no_more : {X Y : Type 0} (f : ℕ × X → Option Y) (xs : List X) (i : ℕ) (d : X) → i < length xs → f (i, get_or xs i d) ≡ None
    → made_before f xs i ≡ made_before f xs (i + 1)
made_no_more f xs i d within is = sym (made_before-next f xs i d within ∙ ap (λ o. made_before f xs i ++ cons_option o []) is ∙ append-nil (made_before f xs i))
