-- What a sink holds of texts that are written one behind the other.
use Rattle.std.proofs.Common.{◌≡◌, ◌+◌, ◌≤◌, ℕ, List, [], ◌++◌, length, length-append, append_assoc, Bool, true, false, take, Option, Some, None, refl, sym, ap, ◌∙◌, arith}
use Rattle.std.proofs.lemmas.List.{append-nil, take-append-le}
use Rattle.std.proofs.lemmas.List.Concat.{flat_map-append}
use Rattle.std.proofs.Math.Seq.{take-append-add}
use Rattle.std.specs.Bool.{OnTrue, OnFalse}
use Rattle.av_files.specs.Outside.{Rose, with_more}
use Rattle.benches.specs.Writing.{text_of, HoldsPart}

pub with_nothing : (held : Option (List ℕ)) → held ≡ with_more held []
with_nothing None = refl
with_nothing (Some bytes) = ap Some (sym (append-nil bytes))

pub with_both : (held : Option (List ℕ)) (one other : List ℕ) → with_more (with_more held one) other ≡ with_more held (one ++ other)
with_both None one other = refl
with_both (Some bytes) one other = ap Some (append_assoc bytes one other)

pub text_joined : (one other : List (List ℕ)) → text_of (one ++ other) ≡ text_of one ++ text_of other
text_joined one other = flat_map-append (λ (line : List ℕ). line) one other

-- all of both
pub both_held : (start middle holds : Option (List ℕ)) (one other : List (List ℕ)) → middle ≡ with_more start (text_of one) → holds ≡ with_more middle (text_of other) → holds ≡ with_more start (text_of (one ++ other))
both_held start middle holds one other p q =
    q ∙ ap (λ (h : Option (List ℕ)). with_more h (text_of other)) p ∙ with_both start (text_of one) (text_of other) ∙ ap (with_more start) (sym (text_joined one other))

-- a part of the first
pub front_held : (start holds : Option (List ℕ)) (one other : List (List ℕ)) → HoldsPart start holds (text_of one) → HoldsPart start holds (text_of (one ++ other))
front_held start holds one other part =
    let long : length (text_of (one ++ other)) ≡ length (text_of one) + length (text_of other) = ap length (text_joined one other) ∙ length-append (text_of one) (text_of other) in
    let low : part.count ≤ length (text_of one) = (let p = part.part in omega arith) in
    record {
      count = part.count;
      part = (let p = part.part in omega (arith, long));
      written = part.written ∙ ap (with_more start) (sym (ap (take part.count) (text_joined one other) ∙ take-append-le part.count (text_of one) (text_of other) low));
    }

-- all of the first, and a part of the other
pub back_held : (start middle holds : Option (List ℕ)) (one other : List (List ℕ)) → middle ≡ with_more start (text_of one) → HoldsPart middle holds (text_of other) → HoldsPart start holds (text_of (one ++ other))
back_held start middle holds one other p part =
    let front = text_of one in
    let long : length (text_of (one ++ other)) ≡ length front + length (text_of other) = ap length (text_joined one other) ∙ length-append front (text_of other) in
    let taken : take (length front + part.count) (text_of (one ++ other)) ≡ front ++ take part.count (text_of other) =
    ap (take (length front + part.count)) (text_joined one other) ∙ take-append-add front (text_of other) part.count in
    record {
      count = length front + part.count;
      part = (let q = part.part in omega (arith, long));
      written = part.written ∙ ap (λ (h : Option (List ℕ)). with_more h (take part.count (text_of other))) p ∙ with_both start front (take part.count (text_of other)) ∙ ap (with_more start) (sym taken);
    }

pub rose_since : (start before after : ℕ) → start ≤ before → Rose before after → Rose start after
rose_since start before after grows rose = omega arith

-- the same where it is told whether all was written
pub all_if : (all : Bool) (start middle holds : Option (List ℕ)) (one other : List (List ℕ)) → middle ≡ with_more start (text_of one) → OnTrue all (holds ≡ with_more middle (text_of other))
    → OnTrue all (holds ≡ with_more start (text_of (one ++ other)))
all_if true start middle holds one other p q = both_held start middle holds one other p q
all_if false start middle holds one other p q = tt

pub part_if : (all : Bool) (start middle holds : Option (List ℕ)) (one other : List (List ℕ)) → middle ≡ with_more start (text_of one) → OnFalse all (HoldsPart middle holds (text_of other))
    → OnFalse all (HoldsPart start holds (text_of (one ++ other)))
part_if true start middle holds one other p q = tt
part_if false start middle holds one other p q = back_held start middle holds one other p q
