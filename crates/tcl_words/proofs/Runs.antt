-- Tests of bytes, the runs that pass one, and line joins.
use Rattle.std.proofs.Common.{◌≡◌, ℕ, suc, ◌+◌, ◌≤◌, Bool, true, false, ◌&&◌, ◌==◌, cond, List, [], ◌∷◌, ◌++◌, length, take, drop, refl, sym, ap, subst, ◌∙◌, inl, inr, ◌⊎◌, arith}
use Rattle.std.specs.List.{list_all, prefix_len}
use Rattle.std.proofs.lemmas.Bool.{eqb-true, and_parts, true≢false}
use Rattle.std.proofs.lemmas.List.Sums.{prefix_len-le-length}
use Rattle.tcl_words.specs.Bytes.{line_feed, carriage_return, backslash, is_space_or_tab, begins_with, begins_with_line_feed, begins_with_line_end, kept}
use Rattle.tcl_words.specs.Reading.{join_tail}
use Rattle.tcl_words.specs.Spelling.{IsJoin, IsLineEnd}

-- which way a test went
pub chosen : {X : Type 0} (b : Bool) (x y z : X) → cond b x y ≡ z → ((b ≡ true) × (x ≡ z)) ⊎ ((b ≡ false) × (y ≡ z))
chosen true x y z e = inl (refl, e)
chosen false x y z e = inr (refl, e)

pub one-plus : (n : ℕ) → 1 + n ≡ suc n
one-plus n = omega arith

-- ---- runs

run_passes_more : (p : ℕ → Bool) (x : ℕ) (xs : List ℕ) (b : Bool) → p x ≡ b → list_all p (take (prefix_len p xs) xs) ≡ true
    → list_all p (take (cond b (1 + prefix_len p xs) 0) (x ∷ xs)) ≡ true
run_passes_more p x xs true e ih = rw (one-plus, e) ih
run_passes_more p x xs false e ih = refl

-- the run at the front passes
pub run_passes : (p : ℕ → Bool) (xs : List ℕ) → list_all p (take (prefix_len p xs) xs) ≡ true
run_passes p [] = refl
run_passes p (x ∷ xs) = run_passes_more p x xs (p x) refl (run_passes p xs)

run_stops_more : (p : ℕ → Bool) (x : ℕ) (xs : List ℕ) (b : Bool) → p x ≡ b → begins_with p (drop (prefix_len p xs) xs) ≡ false
    → begins_with p (drop (cond b (1 + prefix_len p xs) 0) (x ∷ xs)) ≡ false
run_stops_more p x xs true e ih = rw one-plus ih
run_stops_more p x xs false e ih = e

-- and what follows doesn't
pub run_stops : (p : ℕ → Bool) (xs : List ℕ) → begins_with p (drop (prefix_len p xs) xs) ≡ false
run_stops p [] = refl
run_stops p (x ∷ xs) = run_stops_more p x xs (p x) refl (run_stops p xs)

none_passes : (p : ℕ → Bool) (rest : List ℕ) → begins_with p rest ≡ false → prefix_len p rest ≡ 0
none_passes p [] e = refl
none_passes p (x ∷ rest) e = rw e refl

-- where the one passes and the other doesn't, the one is the run
pub run_is : (p : ℕ → Bool) (xs rest : List ℕ) → list_all p xs ≡ true → begins_with p rest ≡ false → prefix_len p (xs ++ rest) ≡ length xs
run_is p [] rest h e = none_passes p rest e
run_is p (x ∷ xs) rest h e =
    let parts = and_parts (p x) (list_all p xs) h in
    rw parts.0 (one-plus (prefix_len p (xs ++ rest)) ∙ ap suc (run_is p xs rest parts.1 e))

-- ---- what a text begins with, seen behind bytes that don't count

pub begins_with-before : (p : ℕ → Bool) (xs ys : List ℕ) → begins_with p ys ≡ false → begins_with p (xs ++ ys) ≡ begins_with p xs
begins_with-before p [] ys e = e
begins_with-before p (y ∷ xs) ys e = refl

pub begins_with-append : (p : ℕ → Bool) (xs : List ℕ) (x : ℕ) (ys : List ℕ) → p x ≡ false → begins_with p (xs ++ x ∷ ys) ≡ begins_with p xs
begins_with-append p xs x ys e = begins_with-before p xs (x ∷ ys) e

pub kept-before : (byte : ℕ) (xs ys : List ℕ) → begins_with_line_feed ys ≡ false → kept byte (xs ++ ys) ≡ kept byte xs
kept-before byte xs ys e = ap (λ (t : Bool). cond (byte == carriage_return && t) [] (byte ∷ [])) (begins_with-before (λ b. b == line_feed) xs ys e)

pub kept-append : (byte : ℕ) (xs : List ℕ) (x : ℕ) (ys : List ℕ) → (x == line_feed) ≡ false → kept byte (xs ++ x ∷ ys) ≡ kept byte xs
kept-append byte xs x ys e = kept-before byte xs (x ∷ ys) e

pub begins_with_line_end-append : (byte : ℕ) (xs : List ℕ) (x : ℕ) (ys : List ℕ) → (x == line_feed) ≡ false → begins_with_line_end (byte ∷ (xs ++ x ∷ ys)) ≡ begins_with_line_end (byte ∷ xs)
begins_with_line_end-append byte xs x ys e = rw (begins_with-append (λ b. b == line_feed) xs x ys e) refl

-- ---- line joins

join_at_feed : (byte : ℕ) (rest : List ℕ) → (byte == line_feed) ≡ true → IsJoin (backslash ∷ take (join_tail (byte ∷ rest)) (byte ∷ rest)) (drop (join_tail (byte ∷ rest)) (byte ∷ rest))
join_at_feed byte rest is = rw (is, one-plus) record {
  end = line_feed ∷ [];
  blanks = take (prefix_len is_space_or_tab rest) rest;
  parts = rw (eqb-true byte line_feed is) refl;
  is_end = inl refl;
  are_blank = run_passes is_space_or_tab rest;
  are_all = run_stops is_space_or_tab rest;
}

join_at_return : (byte other : ℕ) (rest : List ℕ) → (byte == line_feed) ≡ false → byte ≡ carriage_return → other ≡ line_feed
    → IsJoin (backslash ∷ take (join_tail (byte ∷ other ∷ rest)) (byte ∷ other ∷ rest)) (drop (join_tail (byte ∷ other ∷ rest)) (byte ∷ other ∷ rest))
join_at_return byte other rest no_feed is is_feed =
    let two : 2 + prefix_len is_space_or_tab rest ≡ suc (suc (prefix_len is_space_or_tab rest)) = omega arith in
    rw (no_feed, two) record {
      end = carriage_return ∷ line_feed ∷ [];
      blanks = take (prefix_len is_space_or_tab rest) rest;
      parts = rw (is, is_feed) refl;
      is_end = inr refl;
      are_blank = run_passes is_space_or_tab rest;
      are_all = run_stops is_space_or_tab rest;
    }

no_return_alone : (b : Bool) → (b && false) ≡ true → ⊥
no_return_alone true h = true≢false (sym h)
no_return_alone false h = true≢false (sym h)

join_at : (byte : ℕ) (rest : List ℕ) (feed : Bool) → (byte == line_feed) ≡ feed → begins_with_line_end (byte ∷ rest) ≡ true
    → IsJoin (backslash ∷ take (join_tail (byte ∷ rest)) (byte ∷ rest)) (drop (join_tail (byte ∷ rest)) (byte ∷ rest))
join_at byte rest true e h = join_at_feed byte rest e
join_at byte [] false e h = absurd (no_return_alone (byte == carriage_return) (rw e at h))
join_at byte (other ∷ rest) false e h =
    let parts = and_parts (byte == carriage_return) (other == line_feed) (rw e at h) in
    join_at_return byte other rest e (eqb-true byte carriage_return parts.0) (eqb-true other line_feed parts.1)

-- a backslash before the end of a line begins a join
pub join_is : (rest : List ℕ) → begins_with_line_end rest ≡ true → IsJoin (backslash ∷ take (join_tail rest) rest) (drop (join_tail rest) rest)
join_is [] h = absurd (true≢false (sym h))
join_is (byte ∷ rest) h = join_at byte rest (byte == line_feed) refl h

-- what reading makes of a join
pub record ReadsJoin (join rest : List ℕ) : Type 0 where
  pub tail : List ℕ
  pub begins : join ≡ backslash ∷ tail
  pub is_end : begins_with_line_end (tail ++ rest) ≡ true
  pub is_tail : join_tail (tail ++ rest) ≡ length tail

join_again : (end blanks rest : List ℕ) → IsLineEnd end → list_all is_space_or_tab blanks ≡ true → begins_with is_space_or_tab rest ≡ false → ReadsJoin (backslash ∷ (end ++ blanks)) rest
join_again end blanks rest (inl e) h stops = rw e record {
  tail = line_feed ∷ blanks;
  begins = refl;
  is_end = refl;
  is_tail = one-plus (prefix_len is_space_or_tab (blanks ++ rest)) ∙ ap suc (run_is is_space_or_tab blanks rest h stops);
}
join_again end blanks rest (inr e) h stops =
    let two : 2 + prefix_len is_space_or_tab (blanks ++ rest) ≡ suc (suc (prefix_len is_space_or_tab (blanks ++ rest))) = omega arith in
    rw e record {
      tail = carriage_return ∷ line_feed ∷ blanks;
      begins = refl;
      is_end = refl;
      is_tail = two ∙ ap (λ (n : ℕ). suc (suc n)) (run_is is_space_or_tab blanks rest h stops);
    }

pub join_reads : {join rest : List ℕ} → IsJoin join rest → ReadsJoin join rest
join_reads {join} {rest} is = subst (λ (j : List ℕ). ReadsJoin j rest) (sym is.parts) (join_again is.end is.blanks rest is.is_end is.are_blank is.are_all)

-- a join before other text that begins with neither a space nor a tab
pub join_before : {join rest : List ℕ} (other : List ℕ) → begins_with is_space_or_tab other ≡ false → IsJoin join rest → IsJoin join other
join_before other e is = record { end = is.end; blanks = is.blanks; parts = is.parts; is_end = is.is_end; are_blank = is.are_blank; are_all = e }

tail-le_feed : (byte : ℕ) (rest : List ℕ) → (byte == line_feed) ≡ true → join_tail (byte ∷ rest) ≤ length (byte ∷ rest)
tail-le_feed byte rest is = rw is (omega (arith, prefix_len-le-length is_space_or_tab rest))

tail-le_return : (byte other : ℕ) (rest : List ℕ) → (byte == line_feed) ≡ false → join_tail (byte ∷ other ∷ rest) ≤ length (byte ∷ other ∷ rest)
tail-le_return byte other rest e = rw e (omega (arith, prefix_len-le-length is_space_or_tab rest))

tail-le_at : (byte : ℕ) (rest : List ℕ) (feed : Bool) → (byte == line_feed) ≡ feed → begins_with_line_end (byte ∷ rest) ≡ true → join_tail (byte ∷ rest) ≤ length (byte ∷ rest)
tail-le_at byte rest true e h = tail-le_feed byte rest e
tail-le_at byte [] false e h = absurd (no_return_alone (byte == carriage_return) (rw e at h))
tail-le_at byte (other ∷ rest) false e h = tail-le_return byte other rest e

-- a join lies within the text
pub join_tail-le : (rest : List ℕ) → begins_with_line_end rest ≡ true → join_tail rest ≤ length rest
join_tail-le [] h = absurd (true≢false (sym h))
join_tail-le (byte ∷ rest) h = tail-le_at byte rest (byte == line_feed) refl h
