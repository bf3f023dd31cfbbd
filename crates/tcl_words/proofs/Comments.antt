-- Comments: what is read is a comment, and a comment is read.
use Rattle.std.proofs.Common.{◌≡◌, ℕ, zero, suc, ◌+◌, ◌%◌, ◌≤◌, Bool, true, false, ◌&&◌, ◌==◌, cond, List, [], ◌∷◌, ◌++◌, length, take, drop, refl, sym, ap, subst, ◌∙◌, inl, inr, ◌⊎◌, arith, append_assoc}
use Rattle.std.specs.Prelude.{not, reverse}
use Rattle.std.specs.List.{prefix_len}
use Rattle.std.proofs.lemmas.Bool.{eqb-true, true≢false, cases_Bool}
use Rattle.std.proofs.lemmas.Bool.Decides.{nat_tests}
use Rattle.std.proofs.lemmas.List.{append-nil, reverse-append}
use Rattle.tcl_words.specs.Bytes.{line_feed, carriage_return, backslash, hash, begins_with_line_feed}
use Rattle.tcl_words.specs.Reading.{comment_len}
use Rattle.tcl_words.specs.Spelling.{IsComment, without_return, ends_with_odd_backslashes}
use Rattle.tcl_words.proofs.Runs.{one-plus}

-- whether an odd number of backslashes stands at the very end
ends_odd : List ℕ → Bool
ends_odd bytes = prefix_len (λ byte. byte == backslash) (reverse bytes) % 2 == 1

reverse_push : (front : List ℕ) (byte : ℕ) → reverse (front ++ byte ∷ []) ≡ byte ∷ reverse front
reverse_push front byte = reverse-append front (byte ∷ [])

odd_next : (n : ℕ) → ((1 + n) % 2 == 1) ≡ not (n % 2 == 1)
odd_next n = grind (arith, nat_tests)

odd_push_at : (n : ℕ) (b : Bool) → (cond b (1 + n) 0 % 2 == 1) ≡ cond b (not (n % 2 == 1)) false
odd_push_at n true = odd_next n
odd_push_at n false = refl

ends_odd_push : (front : List ℕ) (byte : ℕ) → ends_odd (front ++ byte ∷ []) ≡ cond (byte == backslash) (not (ends_odd front)) false
unfolding ends_odd
ends_odd_push front byte =
    ap (λ (r : List ℕ). prefix_len (λ b. b == backslash) r % 2 == 1) (reverse_push front byte)
    ∙ odd_push_at (prefix_len (λ b. b == backslash) (reverse front)) (byte == backslash)

return_push_at : (before : List ℕ) (byte : ℕ) (b : Bool)
    → (prefix_len (λ b. b == backslash) (cond b before (byte ∷ before)) % 2 == 1) ≡ cond b (prefix_len (λ b. b == backslash) before % 2 == 1) (prefix_len (λ b. b == backslash) (byte ∷ before) % 2 == 1)
return_push_at before byte true = refl
return_push_at before byte false = refl

odd_push : (front : List ℕ) (byte : ℕ) → ends_with_odd_backslashes (front ++ byte ∷ []) ≡ cond (byte == carriage_return) (ends_odd front) (ends_odd (front ++ byte ∷ []))
unfolding ends_odd
odd_push front byte =
    ap (λ (r : List ℕ). prefix_len (λ b. b == backslash) (without_return r) % 2 == 1) (reverse_push front byte)
    ∙ return_push_at (reverse front) byte (byte == carriage_return)
    ∙ ap (λ (r : List ℕ). cond (byte == carriage_return) (prefix_len (λ b. b == backslash) (reverse front) % 2 == 1) (prefix_len (λ b. b == backslash) r % 2 == 1)) (sym (reverse_push front byte))

-- what the parameter `odd` of reading stands for, with these bytes before and those to come
pub tracked : List ℕ → List ℕ → Bool
tracked front bytes = cond (begins_with_line_feed bytes) (ends_with_odd_backslashes front) (ends_odd front)

next_odd : Bool → ℕ → List ℕ → Bool
next_odd odd byte rest = cond (byte == line_feed) false (cond (byte == backslash) (not odd) (odd && (byte == carriage_return && begins_with_line_feed rest)))

-- the number of a line feed and of a backslash
feed_is : (byte : ℕ) → byte ≡ line_feed → ((byte == backslash) ≡ false) × ((byte == carriage_return) ≡ false)
feed_is byte e = rw e (refl, refl)

backslash_is : (byte : ℕ) → byte ≡ backslash → (byte == carriage_return) ≡ false
backslash_is byte e = rw e refl

both_false : (t : Bool) → cond t false false ≡ false
both_false true = refl
both_false false = refl

same_twice : (t x : Bool) → cond t x x ≡ x
same_twice true x = refl
same_twice false x = refl

return_or_not : (odd returns feed : Bool) → cond feed (cond returns odd false) false ≡ (odd && (returns && feed))
return_or_not true true true = refl
return_or_not true true false = refl
return_or_not true false true = refl
return_or_not true false false = refl
return_or_not false true true = refl
return_or_not false true false = refl
return_or_not false false true = refl
return_or_not false false false = refl

-- what is tracked behind a byte, by what the byte is
behind : (front : List ℕ) (byte : ℕ) (rest : List ℕ)
    → tracked (front ++ byte ∷ []) rest ≡ cond (begins_with_line_feed rest) (cond (byte == carriage_return) (ends_odd front) (cond (byte == backslash) (not (ends_odd front)) false)) (cond (byte == backslash) (not (ends_odd front)) false)
unfolding tracked
behind front byte rest =
    ap (λ (a : Bool). cond (begins_with_line_feed rest) a (ends_odd (front ++ byte ∷ []))) (odd_push front byte)
    ∙ ap (λ (p : Bool). cond (begins_with_line_feed rest) (cond (byte == carriage_return) (ends_odd front) p) p) (ends_odd_push front byte)

behind_by : (front : List ℕ) (rest : List ℕ) (returns escapes : Bool) → Bool
behind_by front rest returns escapes = cond (begins_with_line_feed rest) (cond returns (ends_odd front) (cond escapes (not (ends_odd front)) false)) (cond escapes (not (ends_odd front)) false)

tracked_feed : (front : List ℕ) (byte : ℕ) (rest : List ℕ) → (byte == line_feed) ≡ true → tracked (front ++ byte ∷ []) rest ≡ false
unfolding behind_by
tracked_feed front byte rest e =
    let tests = feed_is byte (eqb-true byte line_feed e) in
    behind front byte rest ∙ ap (λ (r : Bool). behind_by front rest r (byte == backslash)) tests.1 ∙ ap (behind_by front rest false) tests.0 ∙ both_false (begins_with_line_feed rest)

tracked_backslash : (front : List ℕ) (byte : ℕ) (rest : List ℕ) → (byte == backslash) ≡ true → tracked (front ++ byte ∷ []) rest ≡ not (ends_odd front)
unfolding behind_by
tracked_backslash front byte rest e =
    behind front byte rest ∙ ap (λ (r : Bool). behind_by front rest r (byte == backslash)) (backslash_is byte (eqb-true byte backslash e)) ∙ ap (behind_by front rest false) e ∙ same_twice (begins_with_line_feed rest) (not (ends_odd front))

tracked_other : (front : List ℕ) (byte : ℕ) (rest : List ℕ) → (byte == backslash) ≡ false → tracked (front ++ byte ∷ []) rest ≡ (ends_odd front && (byte == carriage_return && begins_with_line_feed rest))
unfolding behind_by
tracked_other front byte rest e =
    behind front byte rest ∙ ap (behind_by front rest (byte == carriage_return)) e ∙ return_or_not (ends_odd front) (byte == carriage_return) (begins_with_line_feed rest)

-- before a byte that is no line feed
not_at_feed : (front : List ℕ) (byte : ℕ) (rest : List ℕ) → (byte == line_feed) ≡ false → tracked front (byte ∷ rest) ≡ ends_odd front
unfolding tracked
not_at_feed front byte rest e = ap (λ (t : Bool). cond t (ends_with_odd_backslashes front) (ends_odd front)) e

at_feed : (front : List ℕ) (byte : ℕ) (rest : List ℕ) → (byte == line_feed) ≡ true → tracked front (byte ∷ rest) ≡ ends_with_odd_backslashes front
unfolding tracked
at_feed front byte rest e = ap (λ (t : Bool). cond t (ends_with_odd_backslashes front) (ends_odd front)) e

-- one byte of a comment: how long the comment goes on, and what is tracked behind the byte
record Step (odd : Bool) (front : List ℕ) (byte : ℕ) (rest : List ℕ) : Type 0 where
  next : Bool
  len : comment_len odd (byte ∷ rest) ≡ suc (comment_len next rest)
  tracks : next ≡ tracked (front ++ byte ∷ []) rest

step_feed : (odd : Bool) (front : List ℕ) (byte : ℕ) (rest : List ℕ) → (byte == line_feed) ≡ true → odd ≡ true → Step odd front byte rest
unfolding comment_len
step_feed odd front byte rest e is = record {
  next = false;
  len = rw (e, is) (one-plus (comment_len false rest));
  tracks = sym (tracked_feed front byte rest e);
}

step_backslash : (odd : Bool) (front : List ℕ) (byte : ℕ) (rest : List ℕ) → (byte == line_feed) ≡ false → (byte == backslash) ≡ true → odd ≡ tracked front (byte ∷ rest) → Step odd front byte rest
unfolding comment_len
step_backslash odd front byte rest no_feed e is = record {
  next = not odd;
  len = rw (no_feed, e) (one-plus (comment_len (not odd) rest));
  tracks = ap not (is ∙ not_at_feed front byte rest no_feed) ∙ sym (tracked_backslash front byte rest e);
}

step_other : (odd : Bool) (front : List ℕ) (byte : ℕ) (rest : List ℕ) → (byte == line_feed) ≡ false → (byte == backslash) ≡ false → odd ≡ tracked front (byte ∷ rest) → Step odd front byte rest
unfolding comment_len
step_other odd front byte rest no_feed e is =
    let next : Bool = odd && (byte == carriage_return && begins_with_line_feed rest) in
    record {
      next = next;
      len = rw (no_feed, e) (one-plus (comment_len next rest));
      tracks = ap (λ (o : Bool). o && (byte == carriage_return && begins_with_line_feed rest)) (is ∙ not_at_feed front byte rest no_feed) ∙ sym (tracked_other front byte rest e);
    }

-- a comment goes on, or ends before a line feed
step : (odd : Bool) (front : List ℕ) (byte : ℕ) (rest : List ℕ) → odd ≡ tracked front (byte ∷ rest)
    → (Step odd front byte rest) ⊎ ((comment_len odd (byte ∷ rest) ≡ 0) × (byte ≡ line_feed) × (ends_with_odd_backslashes front ≡ false))
unfolding comment_len
step odd front byte rest is =
    elim (cases_Bool (byte == line_feed)) [
      | inl feed ↦ elim (cases_Bool odd) [
        | inl goes ↦ inl (step_feed odd front byte rest feed goes)
        | inr stops ↦ inr (rw (feed, stops) refl, eqb-true byte line_feed feed, sym (at_feed front byte rest feed) ∙ sym is ∙ stops)
      ]
      | inr other ↦ elim (cases_Bool (byte == backslash)) [
        | inl escapes ↦ inl (step_backslash odd front byte rest other escapes is)
        | inr plain ↦ inl (step_other odd front byte rest other plain is)
      ]
    ]

-- ---- what is read is a comment

head_is : (byte : ℕ) (taken back : List ℕ) → byte ∷ taken ≡ line_feed ∷ back → byte ≡ line_feed
head_is byte taken back e = cc

tail_is : (byte x : ℕ) (taken others : List ℕ) → byte ∷ taken ≡ x ∷ others → (byte ≡ x) × (taken ≡ others)
tail_is byte x taken others e = (cc, cc)

no_front : (front back : List ℕ) → [] ≡ front ++ line_feed ∷ back → ⊥
no_front [] back e = cc
no_front (x ∷ front) back e = cc

nothing_taken : (n : ℕ) → take {A = ℕ} n [] ≡ []
nothing_taken zero = refl
nothing_taken (suc n) = refl

pub nothing_left : (n : ℕ) → drop {A = ℕ} n [] ≡ []
nothing_left zero = refl
nothing_left (suc n) = refl

-- a line feed that goes on has an odd number before it
odd_at_feed : (byte : ℕ) (rest : List ℕ) (odd : Bool) (before : List ℕ) → odd ≡ tracked before (byte ∷ rest) → Step odd before byte rest → byte ≡ line_feed → odd ≡ true
unfolding comment_len
odd_at_feed byte rest true before is s e = refl
odd_at_feed byte rest false before is s e =
    let none : comment_len false (byte ∷ rest) ≡ 0 = rw e refl in
    absurd (omega (arith, none, s.len))

goes_from : (byte : ℕ) (rest : List ℕ) (odd : Bool) (before : List ℕ) → odd ≡ tracked before (byte ∷ rest)
    → ((next : Bool) → next ≡ tracked (before ++ byte ∷ []) rest → (front back : List ℕ) → take (comment_len next rest) rest ≡ front ++ line_feed ∷ back → ends_with_odd_backslashes ((before ++ byte ∷ []) ++ front) ≡ true)
    → (s : Step odd before byte rest) (front back : List ℕ) → byte ∷ take (comment_len s.next rest) rest ≡ front ++ line_feed ∷ back → ends_with_odd_backslashes (before ++ front) ≡ true
goes_from byte rest odd before is ih s [] back e =
    let feed : byte ≡ line_feed = head_is byte _ back e in
    let at : (byte == line_feed) ≡ true = rw feed refl in
    ap ends_with_odd_backslashes (append-nil before) ∙ sym (at_feed before byte rest at) ∙ sym is ∙ odd_at_feed byte rest odd before is s feed
goes_from byte rest odd before is ih s (x ∷ front) back e =
    let parts = tail_is byte x _ (front ++ line_feed ∷ back) e in
    ap (λ (b : ℕ). ends_with_odd_backslashes (before ++ b ∷ front)) (sym parts.0)
    ∙ ap ends_with_odd_backslashes (sym (append_assoc before (byte ∷ []) front))
    ∙ ih s.next s.tracks front back parts.1

-- each line feed in the comment stands behind an odd number of backslashes
pub comment_goes : (bytes : List ℕ) (odd : Bool) (before : List ℕ) → odd ≡ tracked before bytes → (front back : List ℕ) → take (comment_len odd bytes) bytes ≡ front ++ line_feed ∷ back
    → ends_with_odd_backslashes (before ++ front) ≡ true
comment_goes [] odd before is front back e = absurd (no_front front back (sym (nothing_taken (comment_len odd [])) ∙ e))
comment_goes (byte ∷ rest) odd before is front back e =
    elim (step odd before byte rest is) [
      | inl s ↦ goes_from byte rest odd before is (λ next. comment_goes rest next (before ++ byte ∷ [])) s front back (ap (λ (n : ℕ). take n (byte ∷ rest)) (sym s.len) ∙ e)
      | inr ended ↦ absurd (no_front front back (ap (λ (n : ℕ). take n (byte ∷ rest)) (sym ended.0) ∙ e))
    ]

-- what stands behind a comment that was read
abbrev pub Ends : List ℕ → List ℕ → Type 0
Ends comment rest = (rest ≡ []) ⊎ ((after : List ℕ) × (rest ≡ line_feed ∷ after) × (ends_with_odd_backslashes comment ≡ false))

ends_behind : (byte : ℕ) (rest : List ℕ) (odd : Bool) (before : List ℕ) (s : Step odd before byte rest)
    → Ends ((before ++ byte ∷ []) ++ take (comment_len s.next rest) rest) (drop (comment_len s.next rest) rest)
    → Ends (before ++ take (comment_len odd (byte ∷ rest)) (byte ∷ rest)) (drop (comment_len odd (byte ∷ rest)) (byte ∷ rest))
ends_behind byte rest odd before s ends =
    rw s.len (subst (λ (c : List ℕ). Ends c (drop (comment_len s.next rest) rest)) (append_assoc before (byte ∷ []) (take (comment_len s.next rest) rest)) ends)

ends_here : (byte : ℕ) (rest : List ℕ) (odd : Bool) (before : List ℕ) → comment_len odd (byte ∷ rest) ≡ 0 → byte ≡ line_feed → ends_with_odd_backslashes before ≡ false
    → Ends (before ++ take (comment_len odd (byte ∷ rest)) (byte ∷ rest)) (drop (comment_len odd (byte ∷ rest)) (byte ∷ rest))
ends_here byte rest odd before none is even = rw none (inr (rest, ap (λ (b : ℕ). b ∷ rest) is, ap ends_with_odd_backslashes (append-nil before) ∙ even))

pub comment_ends : (bytes : List ℕ) (odd : Bool) (before : List ℕ) → odd ≡ tracked before bytes → Ends (before ++ take (comment_len odd bytes) bytes) (drop (comment_len odd bytes) bytes)
comment_ends [] odd before is = inl (nothing_left (comment_len odd []))
comment_ends (byte ∷ rest) odd before is =
    elim (step odd before byte rest is) [
      | inl s ↦ ends_behind byte rest odd before s (comment_ends rest s.next (before ++ byte ∷ []) s.tracks)
      | inr ended ↦ ends_here byte rest odd before ended.0 ended.1 ended.2
    ]

-- the hash stands before each line feed
goes_in : (taken : List ℕ) → ((front back : List ℕ) → taken ≡ front ++ line_feed ∷ back → ends_with_odd_backslashes (hash ∷ front) ≡ true)
    → (front back : List ℕ) → hash ∷ taken ≡ front ++ line_feed ∷ back → ends_with_odd_backslashes front ≡ true
goes_in taken goes [] back e = absurd cc
goes_in taken goes (x ∷ front) back e =
    let parts = tail_is hash x taken (front ++ line_feed ∷ back) e in
    ap (λ (b : ℕ). ends_with_odd_backslashes (b ∷ front)) (sym parts.0) ∙ goes front back parts.1

-- a comment that was read
pub comment_is : (bytes : List ℕ) → IsComment (hash ∷ take (comment_len false bytes) bytes) (drop (comment_len false bytes) bytes)
unfolding tracked ends_odd
comment_is bytes =
    let is : false ≡ tracked (hash ∷ []) bytes = sym (both_false (begins_with_line_feed bytes)) in
    record {
      goes_on = goes_in (take (comment_len false bytes) bytes) (comment_goes bytes false (hash ∷ []) is);
      ends = comment_ends bytes false (hash ∷ []) is;
    }

-- ---- a comment is read

-- each line feed in some bytes, behind others, stands behind an odd number of backslashes
abbrev GoesOn : List ℕ → List ℕ → Type 0
GoesOn before bytes = (front back : List ℕ) → bytes ≡ front ++ line_feed ∷ back → ends_with_odd_backslashes (before ++ front) ≡ true

goes_on_behind : (before : List ℕ) (byte : ℕ) (bytes : List ℕ) → GoesOn before (byte ∷ bytes) → GoesOn (before ++ byte ∷ []) bytes
goes_on_behind before byte bytes goes front back e =
    ap ends_with_odd_backslashes (append_assoc before (byte ∷ []) front) ∙ goes (byte ∷ front) back (ap (λ (b : List ℕ). byte ∷ b) e)

again_here : (odd : Bool) (before rest : List ℕ) → odd ≡ tracked before rest → Ends (before ++ []) rest → comment_len odd rest ≡ 0
unfolding comment_len
again_here odd before rest is (inl e) = ap (comment_len odd) e
again_here odd before rest is (inr (after, e, even)) =
    let none : odd ≡ false = is ∙ ap (tracked before) e ∙ at_feed before line_feed after refl ∙ ap ends_with_odd_backslashes (sym (append-nil before)) ∙ even in
    ap (comment_len odd) e ∙ ap (λ (o : Bool). cond o (1 + comment_len false after) 0) none

pub comment-again : (bytes : List ℕ) (odd : Bool) (before rest : List ℕ) → odd ≡ tracked before (bytes ++ rest) → GoesOn before bytes → Ends (before ++ bytes) rest → comment_len odd (bytes ++ rest) ≡ length bytes
comment-again [] odd before rest is goes ends = again_here odd before rest is ends
comment-again (byte ∷ bytes) odd before rest is goes ends =
    elim (step odd before byte (bytes ++ rest) is) [
      | inl s ↦ s.len ∙ ap suc (comment-again bytes s.next (before ++ byte ∷ []) rest s.tracks (goes_on_behind before byte bytes goes)
          (subst (λ (c : List ℕ). Ends c rest) (sym (append_assoc before (byte ∷ []) bytes)) ends))
      | inr ended ↦ absurd (true≢false (sym (goes [] bytes (ap (λ (b : ℕ). b ∷ bytes) ended.1)) ∙ ap ends_with_odd_backslashes (append-nil before) ∙ ended.2))
    ]

pub comment_reads : (bytes rest : List ℕ) → IsComment (hash ∷ bytes) rest → comment_len false (bytes ++ rest) ≡ length bytes
unfolding tracked ends_odd
comment_reads bytes rest c =
    let is : false ≡ tracked (hash ∷ []) (bytes ++ rest) = sym (both_false (begins_with_line_feed (bytes ++ rest))) in
    comment-again bytes false (hash ∷ []) rest is (λ front back e. c.goes_on (hash ∷ front) back (ap (λ (b : List ℕ). hash ∷ b) e)) c.ends

-- ---- a comment lies within the text

le_more : (byte : ℕ) (rest : List ℕ) (feed escapes odd next : Bool) → comment_len false rest ≤ length rest → comment_len (not odd) rest ≤ length rest → comment_len next rest ≤ length rest
    → cond feed (cond odd (1 + comment_len false rest) 0) (cond escapes (1 + comment_len (not odd) rest) (1 + comment_len next rest)) ≤ length (byte ∷ rest)
le_more byte rest true escapes true next a b c = omega arith
le_more byte rest true escapes false next a b c = omega arith
le_more byte rest false true odd next a b c = omega arith
le_more byte rest false false odd next a b c = omega arith

pub comment-le : (odd : Bool) (bytes : List ℕ) → comment_len odd bytes ≤ length bytes
unfolding comment_len
comment-le odd [] = omega arith
comment-le odd (byte ∷ rest) =
    let next : Bool = odd && (byte == carriage_return && begins_with_line_feed rest) in
    le_more byte rest (byte == line_feed) (byte == backslash) odd next (comment-le false rest) (comment-le (not odd) rest) (comment-le next rest)
