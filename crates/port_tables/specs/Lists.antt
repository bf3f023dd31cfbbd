-- Lists by place.
use Rattle.std.proofs.Common.{◌≡◌, ◌≢◌, ◌⊎◌, inl, inr, ℕ, zero, suc, ◌+◌, ◌<◌, ◌≤◌, Bool, true, false, cond, List, [], ◌∷◌, ◌++◌, length, map, take, drop, slice_get, Option, Some, None, refl, sym, ap, subst, ◌∙◌, arith, AllPairs, append-nil}
use Rattle.std.proofs.lemmas.Grind.{flat_map-append}
use Rattle.std.specs.List.{position_from, filter, filter_map, cons_option, flat_map}
use Rattle.std.proofs.lemmas.Option.{slice_get-get_or}

-- the list from a place on
pub drop_at : {X : Type 0} (xs : List X) (i : ℕ) (x : X) → slice_get xs i ≡ Some x → drop i xs ≡ x ∷ drop (i + 1) xs
drop_at [] i x e = cc
drop_at (y ∷ xs) zero x e = let is : y ≡ x = cc in rw is refl
drop_at (y ∷ xs) (suc i) x e = let n : suc i + 1 ≡ suc (i + 1) = omega arith in rw n (drop_at xs i x e)

-- the first place from i on at which a test holds
pub position_at : {X : Type 0} (test : X → Bool) (xs : List X) (i : ℕ) (x : X) → slice_get xs i ≡ Some x
    → position_from test i (drop i xs) ≡ cond (test x) (Some i) (position_from test (i + 1) (drop (i + 1) xs))
position_at test xs i x e = ap (position_from test i) (drop_at xs i x e)

pub position_past : {X : Type 0} (test : X → Bool) (xs : List X) (n i : ℕ) → length xs ≤ i
    → position_from test n (drop i xs) ≡ None
position_past test [] n zero h = refl
position_past test [] n (suc i) h = refl
position_past test (x ∷ xs) n zero h = absurd (omega arith)
position_past test (x ∷ xs) n (suc i) h = position_past test xs n i (omega arith)

-- ---- what is among the elements of a list

abbrev pub Among : {X : Type 0} → X → List X → Type 0
Among x [] = ⊥
Among x (y ∷ ys) = (y ≡ x) ⊎ Among x ys

pub among_at : {X : Type 0} (xs : List X) (k : ℕ) (x : X) → slice_get xs k ≡ Some x → Among x xs
among_at [] k x e = absurd (let n : None ≡ Some x = e in cc)
among_at (y ∷ ys) zero x e = inl (cc)
among_at (y ∷ ys) (suc k) x e = inr (among_at ys k x e)

-- a place of an element
pub record IsAt {X : Type 0} (xs : List X) (x : X) : Type 0 where
  pub place : ℕ
  pub is : slice_get xs place ≡ Some x

pub at_among : {X : Type 0} (xs : List X) (x : X) → Among x xs → IsAt xs x
at_among [] x h = absurd h
at_among (y ∷ ys) x (inl e) = record { place = 0; is = ap Some e }
at_among (y ∷ ys) x (inr h) = let rest = at_among ys x h in record { place = suc rest.place; is = rest.is }

pub among_append : {X : Type 0} (xs ys : List X) (x : X) → Among x (xs ++ ys) → Among x xs ⊎ Among x ys
among_append [] ys x h = inr h
among_append (z ∷ xs) ys x (inl e) = inl (inl e)
among_append (z ∷ xs) ys x (inr h) = elim (among_append xs ys x h) [ inl k ↦ inl (inr k) | inr k ↦ inr k ]

pub among_front : {X : Type 0} (xs ys : List X) (x : X) → Among x xs → Among x (xs ++ ys)
among_front [] ys x h = absurd h
among_front (z ∷ xs) ys x (inl e) = inl e
among_front (z ∷ xs) ys x (inr h) = inr (among_front xs ys x h)

pub among_back : {X : Type 0} (xs ys : List X) (x : X) → Among x ys → Among x (xs ++ ys)
among_back [] ys x h = h
among_back (z ∷ xs) ys x h = inr (among_back xs ys x h)

pub among_flat : {X Y : Type 0} (f : X → List Y) (xs : List X) (x : X) (y : Y) → Among x xs → Among y (f x)
    → Among y (flat_map f xs)
among_flat f [] x y h k = absurd h
among_flat f (z ∷ xs) x y (inl e) k = among_front (f z) (flat_map f xs) y (subst (λ w. Among y (f w)) (sym e) k)
among_flat f (z ∷ xs) x y (inr h) k = among_back (f z) (flat_map f xs) y (among_flat f xs x y h k)

-- what an element of a list that was made of another comes from
pub record ComesFrom {X Y : Type 0} (xs : List X) (y : Y) (Makes : X → Y → Type 0) : Type 0 where
  pub from : X
  pub among : Among from xs
  pub makes : Makes from y

pub among_map : {X Y : Type 0} (f : X → Y) (xs : List X) (y : Y) → Among y (map f xs) → ComesFrom xs y (λ x y. f x ≡ y)
among_map f [] y h = absurd h
among_map f (x ∷ xs) y (inl e) = record { from = x; among = inl refl; makes = e }
among_map f (x ∷ xs) y (inr h) =
    let rest = among_map f xs y h in record { from = rest.from; among = inr rest.among; makes = rest.makes }

pub among_flat_map : {X Y : Type 0} (f : X → List Y) (xs : List X) (y : Y) → Among y (flat_map f xs)
    → ComesFrom xs y (λ x y. Among y (f x))
among_flat_map f [] y h = absurd h
among_flat_map f (x ∷ xs) y h =
    elim (among_append (f x) (flat_map f xs) y h) [
      | inl k ↦ record { from = x; among = inl refl; makes = k }
      | inr k ↦ (let rest = among_flat_map f xs y k in record { from = rest.from; among = inr rest.among; makes = rest.makes })
    ]

kept_among : {X : Type 0} (test : X → Bool) (ys : List X) (x y : X) → (Among x (filter test ys) → Among x ys × (test x ≡ true))
    → (b : Bool) → test y ≡ b
    → Among x (cond b (y ∷ filter test ys) (filter test ys)) → Among x (y ∷ ys) × (test x ≡ true)
kept_among test ys x y rest true e (inl same) = (inl same, ap test (sym same) ∙ e)
kept_among test ys x y rest true e (inr k) = (inr (rest k).0, (rest k).1)
kept_among test ys x y rest false e k = (inr (rest k).0, (rest k).1)

pub among_filter : {X : Type 0} (test : X → Bool) (xs : List X) (x : X) → Among x (filter test xs) → Among x xs × (test x ≡ true)
among_filter test [] x h = absurd h
among_filter test (y ∷ ys) x h = kept_among test ys x y (λ k. among_filter test ys x k) (test y) refl h

made_among : {X Y : Type 0} (h : X → Option Y) (xs : List X) (x : X) (y : Y)
    → (Among y (filter_map h xs) → ComesFrom xs y (λ x y. h x ≡ Some y)) → (o : Option Y) → h x ≡ o
    → Among y (cons_option o (filter_map h xs)) → ComesFrom (x ∷ xs) y (λ x y. h x ≡ Some y)
made_among h xs x y rest None e a = let from = rest a in record { from = from.from; among = inr from.among; makes = from.makes }
made_among h xs x y rest (Some z) e (inl same) = record { from = x; among = inl refl; makes = e ∙ ap Some same }
made_among h xs x y rest (Some z) e (inr a) =
    let from = rest a in record { from = from.from; among = inr from.among; makes = from.makes }

pub among_filter_map : {X Y : Type 0} (h : X → Option Y) (xs : List X) (y : Y) → Among y (filter_map h xs)
    → ComesFrom xs y (λ x y. h x ≡ Some y)
among_filter_map h [] y a = absurd a
among_filter_map h (x ∷ xs) y a = made_among h xs x y (λ k. among_filter_map h xs y k) (h x) refl a

-- ---- lists in which no element stands twice

abbrev pub Distinct : {X : Type 0} → List X → Type 0
Distinct [] = Unit {0}
Distinct (x ∷ xs) = (Among x xs → ⊥) × Distinct xs

kept_distinct : {X : Type 0} (test : X → Bool) (xs : List X) (x : X) → (Among x xs → ⊥) → Distinct (filter test xs) → (b : Bool)
    → Distinct (cond b (x ∷ filter test xs) (filter test xs))
kept_distinct test xs x new rest true = (λ k. new (among_filter test xs x k).0, rest)
kept_distinct test xs x new rest false = rest

pub distinct_filter : {X : Type 0} (test : X → Bool) (xs : List X) → Distinct xs → Distinct (filter test xs)
distinct_filter test [] h = tt
distinct_filter test (x ∷ xs) h = kept_distinct test xs x h.0 (distinct_filter test xs h.1) (test x)

pub distinct_append : {X : Type 0} (xs ys : List X) → Distinct xs → Distinct ys → ((x : X) → Among x xs → Among x ys → ⊥)
    → Distinct (xs ++ ys)
distinct_append [] ys h k apart = k
distinct_append (x ∷ xs) ys h k apart = (
  λ a. elim (among_append xs ys x a) [ inl b ↦ h.0 b | inr b ↦ apart x (inl refl) b ],
  distinct_append xs ys h.1 k (λ y a b. apart y (inr a) b),
)

-- a function that keeps different elements apart
pub distinct_map : {X Y : Type 0} (f : X → Y) (xs : List X) → ((a b : X) → Among a xs → Among b xs → f a ≡ f b → a ≡ b)
    → Distinct xs → Distinct (map f xs)
distinct_map f [] apart h = tt
distinct_map f (x ∷ xs) apart h = (
  λ a. (let from = among_map f xs (f x) a in
      h.0 (subst (λ z. Among z xs) (apart from.from x (inr from.among) (inl refl) from.makes) from.among)),
  distinct_map f xs (λ a b k l e. apart a b (inr k) (inr l) e) h.1,
)

pub distinct_flat_map : {X Y : Type 0} (f : X → List Y) (xs : List X) → ((a : X) → Among a xs → Distinct (f a))
    → ((a b : X) (y : Y) → Among a xs → Among b xs → Among y (f a) → Among y (f b) → a ≡ b) → Distinct xs
    → Distinct (flat_map f xs)
distinct_flat_map f [] each apart h = tt
distinct_flat_map f (x ∷ xs) each apart h =
    distinct_append (f x) (flat_map f xs) (each x (inl refl))
    (distinct_flat_map f xs (λ a k. each a (inr k)) (λ a b y k l m n. apart a b y (inr k) (inr l) m n) h.1)
    (λ y a b. (let from = among_flat_map f xs y b in
    h.0 (subst (λ z. Among z xs) (apart from.from x y (inr from.among) (inl refl) from.makes a) from.among)))

made_distinct : {X Y : Type 0} (h : X → Option Y) (xs : List X) (x : X) → ((y : Y) → h x ≡ Some y → Among y (filter_map h xs) → ⊥)
    → Distinct (filter_map h xs) → (o : Option Y) → h x ≡ o
    → Distinct (cons_option o (filter_map h xs))
made_distinct h xs x apart rest None e = rest
made_distinct h xs x apart rest (Some y) e = (apart y e, rest)

pub distinct_filter_map : {X Y : Type 0} (h : X → Option Y) (xs : List X)
    → ((a b : X) (y : Y) → Among a xs → Among b xs → h a ≡ Some y → h b ≡ Some y → a ≡ b) → Distinct xs
    → Distinct (filter_map h xs)
distinct_filter_map h [] apart d = tt
distinct_filter_map h (x ∷ xs) apart d =
    made_distinct h xs x
    (λ y e a. (let from = among_filter_map h xs y a in
    d.0 (subst (λ z. Among z xs) (apart from.from x y (inr from.among) (inl refl) from.makes e) from.among)))
    (distinct_filter_map h xs (λ a b y k l e f. apart a b y (inr k) (inr l) e f) d.1) (h x) refl

pub distinct_pairs : {X : Type 0} (xs : List X) → Distinct xs → AllPairs (λ (x y : X). x ≢ y) xs
distinct_pairs [] h i j d below inside same = absurd (omega arith)
distinct_pairs (x ∷ xs) h zero zero d below inside same = absurd (omega arith)
distinct_pairs (x ∷ xs) h zero (suc j) d below inside same =
    h.0 (among_at xs j x (slice_get-get_or xs j d (omega arith) ∙ ap Some (sym same)))
distinct_pairs (x ∷ xs) h (suc i) zero d below inside same = absurd (omega arith)
distinct_pairs (x ∷ xs) h (suc i) (suc j) d below inside same = distinct_pairs xs h.1 i j d (omega arith) (omega arith) same

pub among_image : {X Y : Type 0} (f : X → Y) (xs : List X) (x : X) → Among x xs → Among (f x) (map f xs)
among_image f [] x h = absurd h
among_image f (y ∷ xs) x (inl e) = inl (ap f e)
among_image f (y ∷ xs) x (inr h) = inr (among_image f xs x h)

among_cond : {X : Type 0} (x y : X) (ys : List X) (b : Bool) → Among x ys → Among x (cond b (y ∷ ys) ys)
among_cond x y ys true h = inr h
among_cond x y ys false h = h

pub among_kept : {X : Type 0} (test : X → Bool) (xs : List X) (x : X) → Among x xs → test x ≡ true → Among x (filter test xs)
among_kept test [] x h e = absurd h
among_kept test (y ∷ xs) x (inl same) e = let is : test y ≡ true = ap test same ∙ e in rw is (inl same)
among_kept test (y ∷ xs) x (inr h) e = among_cond x y (filter test xs) (test y) (among_kept test xs x h e)

-- ---- places in lists

pub slice_get-append : {X : Type 0} (xs ys : List X) (k : ℕ) → slice_get (xs ++ ys) (length xs + k) ≡ slice_get ys k
slice_get-append [] ys k = let n : 0 + k ≡ k = omega arith in rw n refl
slice_get-append (x ∷ xs) ys k =
    let n : suc (length xs) + k ≡ suc (length xs + k) = omega arith in rw n (slice_get-append xs ys k)

pub slice_get-front : {X : Type 0} (xs ys : List X) (k : ℕ) (x : X) → slice_get xs k ≡ Some x → slice_get (xs ++ ys) k ≡ Some x
slice_get-front [] ys k x e = absurd (let n : None ≡ Some x = e in cc)
slice_get-front (y ∷ xs) ys zero x e = e
slice_get-front (y ∷ xs) ys (suc k) x e = slice_get-front xs ys k x e

pub slice_get-some : {X : Type 0} (xs : List X) (k : ℕ) → k < length xs → (x : X) × (slice_get xs k ≡ Some x)
slice_get-some [] k h = absurd (omega arith)
slice_get-some (x ∷ xs) zero h = (x, refl)
slice_get-some (x ∷ xs) (suc k) h = slice_get-some xs k (omega arith)

-- the list around one place
pub record IsAround {X : Type 0} (xs : List X) (k : ℕ) (x : X) : Type 0 where
  pub rest : List X
  pub is : xs ≡ take k xs ++ x ∷ rest

pub around : {X : Type 0} (xs : List X) (k : ℕ) (x : X) → slice_get xs k ≡ Some x → IsAround xs k x
around [] k x e = absurd (let n : None ≡ Some x = e in cc)
around (y ∷ xs) zero x e = let is : y ≡ x = cc in record { rest = xs; is = ap (λ z. z ∷ xs) is }
around (y ∷ xs) (suc k) x e = let more = around xs k x e in record { rest = more.rest; is = ap (λ zs. y ∷ zs) more.is }

-- a list up to a place, and one more
pub take_one_more : {X : Type 0} (xs : List X) (k : ℕ) (x : X) → slice_get xs k ≡ Some x → take (k + 1) xs ≡ take k xs ++ x ∷ []
take_one_more [] k x e = absurd (let n : None ≡ Some x = e in cc)
take_one_more (y ∷ xs) zero x e = let is : y ≡ x = cc in rw is refl
take_one_more (y ∷ xs) (suc k) x e =
    let n : suc k + 1 ≡ suc (k + 1) = omega arith in rw n (ap (λ zs. y ∷ zs) (take_one_more xs k x e))

pub flat_one_more : {X Y Z : Type 0} (f : Y → List Z) (g : X → List Y) (xs : List X) (k : ℕ) (x : X) → slice_get xs k ≡ Some x
    → flat_map f (flat_map g (take (k + 1) xs)) ≡ flat_map f (flat_map g (take k xs)) ++ flat_map f (g x)
flat_one_more f g xs k x e =
    ap (λ zs. flat_map f (flat_map g zs)) (take_one_more xs k x e)
    ∙ ap (flat_map f) (flat_map-append g (take k xs) (x ∷ []) ∙ ap (λ ys. flat_map g (take k xs) ++ ys) (append-nil (g x)))
    ∙ flat_map-append f (flat_map g (take k xs)) (g x)

-- ---- numbers

pub nat_less : (n number : ℕ) → n < number + 1 → (n < number) ⊎ (n ≡ number)
nat_less n zero h = inr (omega (arith, h))
nat_less zero (suc number) h = inl (omega arith)
nat_less (suc n) (suc number) h =
    elim (nat_less n number (omega (arith, h))) [ inl e ↦ inl (omega (arith, e)) | inr e ↦ inr (ap suc e) ]
