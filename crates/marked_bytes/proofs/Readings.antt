-- Marked bytes have one reading: the spellings of items are told apart byte by byte.
use Rattle.std.proofs.Common.{◌≡◌, ℕ, true, false, List, [], ◌∷◌, ◌++◌, refl, sym, ap, ◌∙◌, append_assoc, arith}
use Rattle.std.specs.List.{list_all}
use Rattle.std.proofs.lemmas.Bool.{and_parts}
use Rattle.marked_bytes.specs.declared.unpacker.Awaits.{Awaits}
use Rattle.marked_bytes.specs.declared.unpacker.Awaits.TheVariants.{Symbol, Channel, EscapedChannel, EscapedByte, Nothing}
use Rattle.marked_bytes.specs.declared.unpacker.Unpacker.{Unpacker}
use Rattle.marked_bytes.specs.Symbols.{is_plain}
use Rattle.marked_bytes.specs.Items.{Spelled, Mark, Item, spelling, is_spelled, mark_spelling, is_mark, is_item, marks_spelling, item_spelling, items_spelling, given, are_in_packets}
use Rattle.marked_bytes.specs.Unpacking.{begun, IsFed}

not_plain : (byte special : ℕ) → byte ≡ special → is_plain special ≡ false → is_plain byte ≡ true → ⊥
not_plain byte special e n p = let t : true ≡ false = sym p ∙ ap is_plain e ∙ n in cc

same_spelled : (s t : Spelled) (x y : List ℕ) → is_spelled s ≡ true → is_spelled t ≡ true → spelling s ++ x ≡ spelling t ++ y → (s ≡ t) × (x ≡ y)
same_spelled (Spelled.Itself a) (Spelled.Itself b) x y p q e = let h : a ≡ b = cc in (ap (λ n. Spelled.Itself n) h, cc)
same_spelled (Spelled.Itself a) (Spelled.Escaped b) x y p q e = absurd (not_plain a 0x7d (cc) refl p)
same_spelled (Spelled.Escaped a) (Spelled.Itself b) x y p q e = absurd (not_plain b 0x7d (cc) refl q)
same_spelled (Spelled.Escaped a) (Spelled.Escaped b) x y p q e = let h : a ≡ b = cc in (ap (λ n. Spelled.Escaped n) h, cc)

no_spelling : (s : Spelled) (x : List ℕ) → [] ≡ spelling s ++ x → ⊥
no_spelling (Spelled.Itself a) x e = cc
no_spelling (Spelled.Escaped a) x e = cc

-- a spelled byte begins with no mark
begins_no_mark : (s : Spelled) (special : ℕ) (x y : List ℕ) → is_plain special ≡ false → (special ≡ 0x7d → ⊥) → is_spelled s ≡ true → special ∷ x ≡ spelling s ++ y → ⊥
begins_no_mark (Spelled.Itself a) special x y n d p e = not_plain a special (cc) n p
begins_no_mark (Spelled.Escaped a) special x y n d p e = d (cc)

no_mark : (m : Mark) (s : Spelled) (x y : List ℕ) → is_spelled s ≡ true → mark_spelling m ++ x ≡ spelling s ++ y → ⊥
no_mark Mark.IsFirst s x y p e = begins_no_mark s 0x7a x y refl (λ h. omega arith) p e
no_mark Mark.IsLast s x y p e = begins_no_mark s 0x7b x y refl (λ h. omega arith) p e
no_mark (Mark.OnChannel c) s x y p e = begins_no_mark s 0x7c (spelling c ++ x) y refl (λ h. omega arith) p e

apart : (a b : ℕ) (x y : List ℕ) → (a ≡ b → ⊥) → a ∷ x ≡ b ∷ y → ⊥
apart a b x y n e = n (cc)

rest_of : (a : ℕ) (x y : List ℕ) → a ∷ x ≡ a ∷ y → x ≡ y
rest_of a x y e = cc

same_mark : (m n : Mark) (x y : List ℕ) → is_mark m ≡ true → is_mark n ≡ true → mark_spelling m ++ x ≡ mark_spelling n ++ y → (m ≡ n) × (x ≡ y)
same_mark Mark.IsFirst Mark.IsFirst x y p q e = (refl, rest_of 0x7a x y e)
same_mark Mark.IsFirst Mark.IsLast x y p q e = absurd (apart 0x7a 0x7b x y (λ h. omega arith) e)
same_mark Mark.IsFirst (Mark.OnChannel d) x y p q e = absurd (apart 0x7a 0x7c x (spelling d ++ y) (λ h. omega arith) e)
same_mark Mark.IsLast Mark.IsFirst x y p q e = absurd (apart 0x7b 0x7a x y (λ h. omega arith) e)
same_mark Mark.IsLast Mark.IsLast x y p q e = (refl, rest_of 0x7b x y e)
same_mark Mark.IsLast (Mark.OnChannel d) x y p q e = absurd (apart 0x7b 0x7c x (spelling d ++ y) (λ h. omega arith) e)
same_mark (Mark.OnChannel c) Mark.IsFirst x y p q e = absurd (apart 0x7c 0x7a (spelling c ++ x) y (λ h. omega arith) e)
same_mark (Mark.OnChannel c) Mark.IsLast x y p q e = absurd (apart 0x7c 0x7b (spelling c ++ x) y (λ h. omega arith) e)
same_mark (Mark.OnChannel c) (Mark.OnChannel d) x y p q e =
    let same = same_spelled c d x y p q (rest_of 0x7c (spelling c ++ x) (spelling d ++ y) e) in
    (ap (λ s. Mark.OnChannel s) same.0, same.1)

-- a mark in front of the marks that follow it, and what stands behind them all
in_front : (m : Mark) (ms : List Mark) (x : List ℕ) → marks_spelling (m ∷ ms) ++ x ≡ mark_spelling m ++ (marks_spelling ms ++ x)
in_front m ms x = append_assoc (mark_spelling m) (marks_spelling ms) x

same_data : (ms ns : List Mark) (s t : Spelled) (x y : List ℕ) → list_all is_mark ms ≡ true → list_all is_mark ns ≡ true → is_spelled s ≡ true → is_spelled t ≡ true
    → marks_spelling ms ++ (spelling s ++ x) ≡ marks_spelling ns ++ (spelling t ++ y) → (ms ≡ ns) × (s ≡ t) × (x ≡ y)
same_data [] [] s t x y p q u v e = let same = same_spelled s t x y u v e in (refl, same.0, same.1)
same_data [] (n ∷ ns) s t x y p q u v e = absurd (no_mark n s (marks_spelling ns ++ (spelling t ++ y)) x u (sym (in_front n ns (spelling t ++ y)) ∙ sym e))
same_data (m ∷ ms) [] s t x y p q u v e = absurd (no_mark m t (marks_spelling ms ++ (spelling s ++ x)) y v (sym (in_front m ms (spelling s ++ x)) ∙ e))
same_data (m ∷ ms) (n ∷ ns) s t x y p q u v e =
    let mp = and_parts (is_mark m) (list_all is_mark ms) p in
    let np = and_parts (is_mark n) (list_all is_mark ns) q in
    let first = same_mark m n (marks_spelling ms ++ (spelling s ++ x)) (marks_spelling ns ++ (spelling t ++ y)) mp.0 np.0
    (sym (in_front m ms (spelling s ++ x)) ∙ e ∙ in_front n ns (spelling t ++ y)) in
    let rest = same_data ms ns s t x y mp.1 np.1 u v first.1 in
    (ap (λ k. k ∷ ms) first.0 ∙ ap (λ ks. n ∷ ks) rest.0, rest.1, rest.2)

-- what is begun and no whole mark or byte

begun_no_mark : (a : Awaits) (n : Mark) (z : List ℕ) → is_mark n ≡ true → begun a ≡ mark_spelling n ++ z → ⊥
begun_no_mark Symbol Mark.IsFirst z p e = cc
begun_no_mark Symbol Mark.IsLast z p e = cc
begun_no_mark Symbol (Mark.OnChannel c) z p e = cc
begun_no_mark Channel Mark.IsFirst z p e = apart 0x7c 0x7a [] z (λ h. omega arith) e
begun_no_mark Channel Mark.IsLast z p e = apart 0x7c 0x7b [] z (λ h. omega arith) e
begun_no_mark Channel (Mark.OnChannel c) z p e = no_spelling c z (rest_of 0x7c [] (spelling c ++ z) e)
begun_no_mark EscapedChannel Mark.IsFirst z p e = apart 0x7c 0x7a (0x7d ∷ []) z (λ h. omega arith) e
begun_no_mark EscapedChannel Mark.IsLast z p e = apart 0x7c 0x7b (0x7d ∷ []) z (λ h. omega arith) e
begun_no_mark EscapedChannel (Mark.OnChannel (Spelled.Itself b)) z p e = let f = rest_of 0x7c (0x7d ∷ []) (b ∷ z) e in not_plain b 0x7d (cc) refl p
begun_no_mark EscapedChannel (Mark.OnChannel (Spelled.Escaped b)) z p e = let f = rest_of 0x7c (0x7d ∷ []) (0x7d ∷ b ∷ z) e in let g : [] ≡ b ∷ z = cc in cc
begun_no_mark EscapedByte Mark.IsFirst z p e = apart 0x7d 0x7a [] z (λ h. omega arith) e
begun_no_mark EscapedByte Mark.IsLast z p e = apart 0x7d 0x7b [] z (λ h. omega arith) e
begun_no_mark EscapedByte (Mark.OnChannel c) z p e = apart 0x7d 0x7c [] (spelling c ++ z) (λ h. omega arith) e
begun_no_mark (Nothing rule) Mark.IsFirst z p e = cc
begun_no_mark (Nothing rule) Mark.IsLast z p e = cc
begun_no_mark (Nothing rule) (Mark.OnChannel c) z p e = cc

begun_no_byte : (a : Awaits) (s : Spelled) (z : List ℕ) → is_spelled s ≡ true → begun a ≡ spelling s ++ z → ⊥
begun_no_byte Symbol s z p e = no_spelling s z e
begun_no_byte Channel s z p e = begins_no_mark s 0x7c [] z refl (λ h. omega arith) p e
begun_no_byte EscapedChannel s z p e = begins_no_mark s 0x7c (0x7d ∷ []) z refl (λ h. omega arith) p e
begun_no_byte EscapedByte (Spelled.Itself b) z p e = not_plain b 0x7d (cc) refl p
begun_no_byte EscapedByte (Spelled.Escaped b) z p e = let g : [] ≡ b ∷ z = cc in cc
begun_no_byte (Nothing rule) s z p e = no_spelling s z e

no_end : (ms ns : List Mark) (a : Awaits) (s : Spelled) (y : List ℕ) → list_all is_mark ms ≡ true → list_all is_mark ns ≡ true → is_spelled s ≡ true
    → marks_spelling ms ++ begun a ≡ marks_spelling ns ++ (spelling s ++ y) → ⊥
no_end [] [] a s y p q u e = begun_no_byte a s y u e
no_end [] (n ∷ ns) a s y p q u e = begun_no_mark a n (marks_spelling ns ++ (spelling s ++ y)) (and_parts (is_mark n) (list_all is_mark ns) q).0 (e ∙ in_front n ns (spelling s ++ y))
no_end (m ∷ ms) [] a s y p q u e = no_mark m s (marks_spelling ms ++ begun a) y u (sym (in_front m ms (begun a)) ∙ e)
no_end (m ∷ ms) (n ∷ ns) a s y p q u e =
    let mp = and_parts (is_mark m) (list_all is_mark ms) p in
    let np = and_parts (is_mark n) (list_all is_mark ns) q in
    no_end ms ns a s y mp.1 np.1 u
    (same_mark m n (marks_spelling ms ++ begun a) (marks_spelling ns ++ (spelling s ++ y)) mp.0 np.0 (sym (in_front m ms (begun a)) ∙ e ∙ in_front n ns (spelling s ++ y))).1

item_in_front : (i : Item) (is : List Item) (x : List ℕ) → items_spelling (i ∷ is) ++ x ≡ marks_spelling i.marks ++ (spelling i.byte ++ (items_spelling is ++ x))
item_in_front i is x = append_assoc (item_spelling i) (items_spelling is) x ∙ append_assoc (marks_spelling i.marks) (spelling i.byte) (items_spelling is ++ x)

same_item : (i j : Item) → i.marks ≡ j.marks → i.byte ≡ j.byte → i ≡ j
same_item i j m b =
    let made : List Mark → Spelled → Item = λ ms s. record { marks = ms; byte = s } in
    ap (λ ms. made ms i.byte) m ∙ ap (λ s. made j.marks s) b

pub same_items : (is js : List Item) (ms ns : List Mark) (a b : Awaits) → list_all is_item is ≡ true → list_all is_item js ≡ true → list_all is_mark ms ≡ true → list_all is_mark ns ≡ true
    → items_spelling is ++ (marks_spelling ms ++ begun a) ≡ items_spelling js ++ (marks_spelling ns ++ begun b) → is ≡ js
same_items [] [] ms ns a b p q u v e = refl
same_items [] (j ∷ js) ms ns a b p q u v e =
    let jp = and_parts (is_item j) (list_all is_item js) q in
    let parts = and_parts (list_all is_mark j.marks) (is_spelled j.byte) jp.0 in
    absurd (no_end ms j.marks a j.byte (items_spelling js ++ (marks_spelling ns ++ begun b)) u parts.0 parts.1 (e ∙ item_in_front j js (marks_spelling ns ++ begun b)))
same_items (i ∷ is) [] ms ns a b p q u v e =
    let ip = and_parts (is_item i) (list_all is_item is) p in
    let parts = and_parts (list_all is_mark i.marks) (is_spelled i.byte) ip.0 in
    absurd (no_end ns i.marks b i.byte (items_spelling is ++ (marks_spelling ms ++ begun a)) v parts.0 parts.1 (sym e ∙ item_in_front i is (marks_spelling ms ++ begun a)))
same_items (i ∷ is) (j ∷ js) ms ns a b p q u v e =
    let ip = and_parts (is_item i) (list_all is_item is) p in
    let jp = and_parts (is_item j) (list_all is_item js) q in
    let iparts = and_parts (list_all is_mark i.marks) (is_spelled i.byte) ip.0 in
    let jparts = and_parts (list_all is_mark j.marks) (is_spelled j.byte) jp.0 in
    let same = same_data i.marks j.marks i.byte j.byte (items_spelling is ++ (marks_spelling ms ++ begun a)) (items_spelling js ++ (marks_spelling ns ++ begun b)) iparts.0 jparts.0 iparts.1 jparts.1
    (sym (item_in_front i is (marks_spelling ms ++ begun a)) ∙ e ∙ item_in_front j js (marks_spelling ns ++ begun b)) in
    ap (λ k. k ∷ is) (same_item i j same.0 same.1) ∙ ap (λ ks. j ∷ ks) (same_items is js ms ns a b ip.1 jp.1 u v same.2)

pub one_reading : (fed : List ℕ) (items others : List Item) (one other : Unpacker) → IsFed fed items one → IsFed fed others other → items ≡ others
one_reading fed items others one other h g =
    same_items items others h.marks g.marks one.awaits other.awaits
    (and_parts (list_all is_item items) (are_in_packets false 0 (given 0 items)) h.proper).0 (and_parts (list_all is_item others) (are_in_packets false 0 (given 0 others)) g.proper).0
    h.proper_marks g.proper_marks (sym h.bytes ∙ g.bytes)
