-- Blocks of nets, and lists of them.
use Rattle.std.proofs.Common.{◌≡◌, ◌≢◌, ℕ, ◌+◌, ◌*◌, ◌%◌, ◌<◌, ◌≤◌, Bool, true, false, List, [], ◌∷◌, ◌++◌, length, slice_get, get_or, set, replicate, Some, ◌⊎◌, inl, inr, refl, sym, subst, ap, ◌∙◌, arith}
use Rattle.std.proofs.Math.Nat.{div-add-mod, mod-lt}
use Rattle.std.proofs.lemmas.Bool.{cases_lt, false≢true}
use Rattle.std.proofs.lemmas.List.{get_or-set_same, get_or-set_other, get_or-replicate, get_or_past, length-set, length-replicate}
use Rattle.std.proofs.lemmas.Option.{slice_get_within, get_or_from_slice_get, same_Some}
use Rattle.cycle_sim.specs.Readers.{HasBesides, IsListed, StayStale, AreStale, block_of, list_at}
use Rattle.cycle_sim.proofs.reading.Values.{slice_get-some, slice_get-front, slice_get-last, slice_get-push}

pub same_or_other : (n k : ℕ) → (n ≡ k) ⊎ (n ≢ k)
same_or_other n k = elim (cases_lt n k) [
  | inl lt ↦ inr (λ e. omega arith)
  | inr le ↦ elim (cases_lt k n) [ inl gt ↦ inr (λ e. omega arith) | inr ge ↦ inl (omega arith) ]
]

-- the nets of a block
pub block_begins : (n : ℕ) → block_of n * 8 ≤ n
block_begins n = (let e = div-add-mod n 8 in omega (arith, e))

pub block_ends : (n : ℕ) → n < block_of n * 8 + 8
block_ends n = (let e = div-add-mod n 8 in let lt : n % 8 < 8 = mod-lt n (omega arith) in omega (arith, e, lt))

pub block_is : (n block : ℕ) → block * 8 ≤ n → n < block * 8 + 8 → block_of n ≡ block
block_is n block from to = (let begins = block_begins n in let ends = block_ends n in omega (arith, begins, ends, from, to))

pub block_within : (n count : ℕ) → n < count → block_of n < block_of count + 1
block_within n count lt = (let begins = block_begins n in let ends = block_ends count in omega (arith, begins, ends, lt))

-- ---- lists of blocks

pub none_listed : (k n other : ℕ) → IsListed (list_at (replicate k []) n) other → ⊥
none_listed k n other l = elim (cases_lt n k) [
  | inl lt ↦ (let e : list_at (replicate k []) n ≡ [] = get_or-replicate k n [] [] lt in
      let at : slice_get [] l.place ≡ Some other = subst (λ xs. slice_get xs l.place ≡ Some other) e l.is in cc)
  | inr le ↦ (let e : list_at (replicate k []) n ≡ [] = get_or_past (replicate k []) n [] (simp length-replicate le) in
      let at : slice_get [] l.place ≡ Some other = subst (λ xs. slice_get xs l.place ≡ Some other) e l.is in cc)
]

-- a block that stands in its list already
pub besides_same : (lists : List (List ℕ)) (number block : ℕ) → IsListed (list_at lists number) block → HasBesides lists lists number block
besides_same lists number block l = record { count = refl; keeps = λ n other k. k; has = l; only = λ n other k. inl k }

-- and one that is added to it
pub besides_added : (lists : List (List ℕ)) (number block : ℕ) → number < length lists → HasBesides lists (set lists number (list_at lists number ++ block ∷ [])) number block
besides_added lists number block lt = record {
  count = length-set lists number (list_at lists number ++ block ∷ []);
  keeps = λ n other k. elim (same_or_other n number) [
    | inl e ↦ subst (λ m. IsListed (list_at (set lists number (list_at lists number ++ block ∷ [])) m) other) (sym e)
        (subst (λ xs. IsListed xs other) (sym here) (record { place = k.place; is = slice_get-front (list_at lists number) (block ∷ []) k.place other (subst (λ m. slice_get (list_at lists m) k.place ≡ Some other) e k.is) }))
    | inr d ↦ subst (λ xs. IsListed xs other) (sym (get_or-set_other lists number n (list_at lists number ++ block ∷ []) [] d)) k
  ];
  has = subst (λ xs. IsListed xs block) (sym here) (record { place = length (list_at lists number); is = slice_get-last (list_at lists number) block });
  only = λ n other k. elim (same_or_other n number) [
    | inl e ↦ (let there : slice_get (list_at lists number ++ block ∷ []) k.place ≡ Some other = subst (λ xs. slice_get xs k.place ≡ Some other) (ap (list_at (set lists number (list_at lists number ++ block ∷ []))) e ∙ here) k.is in
        elim (slice_get-push (list_at lists number) block other k.place there) [
          | inl o ↦ inl (record { place = k.place; is = subst (λ m. slice_get (list_at lists m) k.place ≡ Some other) (sym e) o })
          | inr o ↦ inr (sym o.1)
        ])
    | inr d ↦ inl (subst (λ xs. IsListed xs other) (get_or-set_other lists number n (list_at lists number ++ block ∷ []) [] d) k)
  ];
} where
  here : list_at (set lists number (list_at lists number ++ block ∷ [])) number ≡ list_at lists number ++ block ∷ []
  here = get_or-set_same lists number (list_at lists number ++ block ∷ []) [] lt

-- ---- stale blocks

pub stay_same : (stale : List Bool) → StayStale stale stale
stay_same stale = record { count = refl; stay = λ block at. at }

pub stay_further : (stale then after : List Bool) → StayStale stale then → StayStale then after → StayStale stale after
stay_further stale then after h k = record { count = k.count ∙ h.count; stay = λ block at. k.stay block (h.stay block at) }

-- one more block is stale
set_true : (stale : List Bool) (block n : ℕ) → block < length stale → slice_get stale n ≡ Some true → slice_get (set stale block true) n ≡ Some true
set_true stale block n lt at =
    let within = slice_get_within stale n true at in
    let some = slice_get-some (set stale block true) n (let c = length-set stale block true in omega arith) in
    elim (same_or_other n block) [
      | inl e ↦ (let is : some.0 ≡ true = sym (get_or_from_slice_get (set stale block true) n some.0 false some.1) ∙ ap (λ m. get_or (set stale block true) m false) e ∙ get_or-set_same stale block true false lt in
          some.1 ∙ ap Some is)
      | inr d ↦ (let is : some.0 ≡ true = sym (get_or_from_slice_get (set stale block true) n some.0 false some.1) ∙ get_or-set_other stale block n true false d ∙ get_or_from_slice_get stale n true false at in
          some.1 ∙ ap Some is)
    ]

pub set_here : (stale : List Bool) (block : ℕ) → block < length stale → slice_get (set stale block true) block ≡ Some true
set_here stale block lt =
    let some = slice_get-some (set stale block true) block (let c = length-set stale block true in omega arith) in
    some.1 ∙ ap Some (sym (get_or_from_slice_get (set stale block true) block some.0 false some.1) ∙ get_or-set_same stale block true false lt)

pub stay_set : (stale : List Bool) (block : ℕ) → block < length stale → StayStale stale (set stale block true)
stay_set stale block lt = record { count = length-set stale block true; stay = λ n at. set_true stale block n lt at }

-- the first j of these blocks are stale
pub record AreMarked (blocks : List ℕ) (stale after : List Bool) (j : ℕ) : Type 0 where
  pub stays : StayStale stale after
  pub marked : (i block : ℕ) → i < j → slice_get blocks i ≡ Some block → slice_get after block ≡ Some true

pub marked_none : (blocks : List ℕ) (stale : List Bool) → AreMarked blocks stale stale 0
marked_none blocks stale = record { stays = stay_same stale; marked = λ i block lt at. absurd (omega arith) }

pub marked_more : (blocks : List ℕ) (stale after : List Bool) (j block : ℕ) → slice_get blocks j ≡ Some block → block < length stale → AreMarked blocks stale after j → AreMarked blocks stale (set after block true) (j + 1)
marked_more blocks stale after j block at lt h =
    let within : block < length after = (let c = h.stays.count in omega arith) in
    record {
      stays = stay_further stale after (set after block true) h.stays (stay_set after block within);
      marked = λ i other before at_i. elim (cases_lt i j) [
        | inl less ↦ set_true after block other within (h.marked i other less at_i)
        | inr le ↦ (let e : i ≡ j = omega arith in
            let same : block ≡ other = same_Some _ _ (sym at ∙ subst (λ k. slice_get blocks k ≡ Some other) e at_i) in
            subst (λ n. slice_get (set after block true) n ≡ Some true) same (set_here after block within))
      ];
    }

pub marked_all : (blocks : List ℕ) (stale after : List Bool) (j : ℕ) → length blocks ≤ j → AreMarked blocks stale after j → AreStale after blocks
marked_all blocks stale after j all h block l = (let lt = slice_get_within blocks l.place block l.is in h.marked l.place block (omega arith) l.is)

-- a block that isn't stale wasn't before
pub fresh_before : (stale after : List Bool) (block : ℕ) → StayStale stale after → slice_get after block ≡ Some false → slice_get stale block ≡ Some false
fresh_before stale after block h at =
    let within = slice_get_within after block false at in
    let some = slice_get-some stale block (let c = h.count in omega arith) in
    by_value some.0 some.1 where
      by_value : (t : Bool) → slice_get stale block ≡ Some t → slice_get stale block ≡ Some false
      by_value true e = absurd (false≢true (same_Some _ _ (sym at ∙ h.stay block e)))
      by_value false e = e
