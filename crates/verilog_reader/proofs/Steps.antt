-- What a form finds from a spot on, part after part. A flaw stays, so each step is one equation.
use Rattle.std.proofs.Common.{◌≡◌, ℕ, suc, ◌+◌, ◌-◌, ◌==◌, ◌<◌, ◌≤◌, Bool, true, false, cond, List, [], ◌∷◌, length, take, drop, get_or, Option, Some, None, refl, sym, ap, subst, ◌∙◌, arith, length-append}
use Rattle.std.specs.List.{prefix_len}
use Rattle.std.proofs.Math.Seq.{drop-cons}
use Rattle.std.proofs.lemmas.Bool.{eq-eqb, ne_eqb}
use Rattle.std.proofs.lemmas.List.{drop-drop, length-drop}
use Rattle.std.proofs.lemmas.List.Sums.{prefix_len-le-length}
use Rattle.std.proofs.lemmas.List.Folds.{length-prefix_len}
use Rattle.verilog_forms.specs.declared.rule.Rule.{Rule}
use Rattle.verilog_forms.specs.declared.rule.Rule.TheVariants.{OtherByte}
use Rattle.verilog_reader.specs.declared.spot.Spot.{Spot}
use Rattle.verilog_reader.specs.declared.spot.Spot.TheVariants.{At, Flawed}
use Rattle.verilog_forms.specs.Forms.{Form, is_hole_byte, next, fixed, followed}
use Rattle.verilog_forms.specs.Walks.{Outcome, pushed, behind_test, walk}
use Rattle.verilog_reader.specs.Spots.{found, IsWithin, IfGood, ahead_of, run_from, moved, refused, fixed_at, fixed_from, past, hole_from, Takes}
use Rattle.verilog_forms.specs.WalkLaws.{pushed_zero, pushed_twice, same_good, same_bad, apart, walk_reads}

pub here : (bytes : List ℕ) (at : ℕ) → at < length bytes → drop at bytes ≡ get_or bytes at 0 ∷ drop (at + 1) bytes
here bytes at inside = let one : suc at ≡ at + 1 = omega arith in drop-cons bytes at 0 inside ∙ ap (λ (k : ℕ). get_or bytes at 0 ∷ drop k bytes) one

-- the bytes of a fixed part

pub fixed_stops : (b c : ℕ) (bs text : List ℕ) (at : ℕ) → (c ≡ b → ⊥) → fixed_at (b ∷ bs) (c ∷ text) at ≡ Flawed at OtherByte
fixed_stops b c bs text at other = ap (λ (t : Bool). cond t (fixed_at bs text (at + 1)) (Flawed at OtherByte)) (ne_eqb c b other)

pub fixed_goes_on : (b c : ℕ) (bs text : List ℕ) (at : ℕ) → c ≡ b → fixed_at (b ∷ bs) (c ∷ text) at ≡ fixed_at bs text (at + 1)
fixed_goes_on b c bs text at same = ap (λ (t : Bool). cond t (fixed_at bs text (at + 1)) (Flawed at OtherByte)) (eq-eqb c b same)

bad_at : {A : Type 0} (at : ℕ) (rule : Rule) → pushed at (let o : Outcome A = Outcome.bad 0 rule in o) ≡ Outcome.bad at rule
bad_at at rule = let e : at + 0 ≡ at = omega arith in ap (λ (k : ℕ). Outcome.bad k rule) e

one_on : (at : ℕ) (c : ℕ) (rest text : List ℕ) → c ∷ rest ≡ drop at text → rest ≡ drop (at + 1) text
one_on at c rest text e = ap (drop 1) e ∙ drop-drop 1 at text

fixed_at_found : {A : Type 0} (part : List ℕ) (form : Form A) (text rest : List ℕ) (at : ℕ) → rest ≡ drop at text → pushed at (walk (fixed part form) rest) ≡ found form text (fixed_at part rest at)
unfolding found
fixed_at_found [] form text rest at e = ap (λ (t : List ℕ). pushed at (walk form t)) e
fixed_at_found (b ∷ bs) form text [] at e = bad_at at OtherByte
fixed_at_found (b ∷ bs) form text (c ∷ rest) at e = by_test (fixed_at_found bs form text rest (at + 1) (one_on at c rest text e)) (c == b)
  where
    by_test : pushed (at + 1) (walk (fixed bs form) rest) ≡ found form text (fixed_at bs rest (at + 1)) → (t : Bool)
        → pushed at (cond t (pushed 1 (walk (fixed bs form) rest)) (Outcome.bad 0 OtherByte)) ≡ found form text (cond t (fixed_at bs rest (at + 1)) (Flawed at OtherByte))
    by_test more true = pushed_twice at 1 (at + 1) (walk (fixed bs form) rest) refl ∙ more
    by_test more false = bad_at at OtherByte

fixed_at_spot : {A : Type 0} (part : List ℕ) (form : Form A) (text : List ℕ) (spot : Spot) → found (fixed part form) text spot ≡ found form text (fixed_from part text spot)
unfolding found
fixed_at_spot part form text (At at) = fixed_at_found part form text (drop at text) at refl
fixed_at_spot part form text (Flawed at rule) = refl

pub fixed_found : {A : Type 0} (part : List ℕ) (form : Form A) (text : List ℕ) (spot behind : Spot) → behind ≡ fixed_from part text spot → found (fixed part form) text spot ≡ found form text behind
fixed_found part form text spot behind e = fixed_at_spot part form text spot ∙ ap (found form text) (sym e)

-- a hole

hole_at : {A : Type 0} (test : List ℕ → Option Rule) (form : List ℕ → Form A) (text : List ℕ) (at : ℕ) → found (Form.hole test form) text (At at) ≡ found (form (run_from text (At at))) text (hole_from test text (At at))
unfolding found
hole_at {A} test form text at = by_test (test run)
  where
    rest : List ℕ
    rest = drop at text

    run : List ℕ
    run = run_from text (At at)

    k : ℕ
    k = prefix_len is_hole_byte rest

    by_test : (o : Option Rule) → pushed at (behind_test o k (walk (form run) (drop k rest))) ≡ found (form run) text (past o (length run) (At at))
    by_test None =
        let counted : length run ≡ k = length-prefix_len is_hole_byte rest in
        let same : at + k ≡ at + length run = omega (arith, counted) in
        pushed_twice at k (at + k) (walk (form run) (drop k rest)) refl
        ∙ ap (λ (t : List ℕ). pushed (at + k) (walk (form run) t)) (drop-drop k at text)
        ∙ ap (λ (j : ℕ). pushed j (walk (form run) (drop j text))) same
    by_test (Some rule) = bad_at at rule

pub hole_found : {A : Type 0} (test : List ℕ → Option Rule) (form : List ℕ → Form A) (text : List ℕ) (spot behind : Spot) → behind ≡ hole_from test text spot → found (Form.hole test form) text spot ≡ found (form (run_from text spot)) text behind
unfolding found
hole_found test form text (At at) behind e = hole_at test form text at ∙ ap (found (form (run_from text (At at))) text) (sym e)
hole_found test form text (Flawed at rule) behind e = flawed (test []) e
  where
    flawed : (o : Option Rule) → behind ≡ past o 0 (Flawed at rule) → found (Form.hole test form) text (Flawed at rule) ≡ found (form []) text behind
    flawed None e = sym (ap (found (form []) text) e)
    flawed (Some other) e = sym (ap (found (form []) text) e)

-- what is told where there is no flaw may stand for what is asked

pub told_found : {A X : Type 0} (form : X → Form A) (text : List ℕ) (spot : Spot) (x y : X) → IfGood spot (x ≡ y) → found (form y) text spot ≡ found (form x) text spot
unfolding found
told_found form text (At at) x y e = ap (λ z. found (form z) text (At at)) (sym e)
told_found form text (Flawed at rule) x y e = refl

pub taken_found : {A X : Type 0} (test : List ℕ → Option Rule) (value : List ℕ → X) (form : X → Form A) (text : List ℕ) (spot : Spot) (x : X) (behind : Spot) → Takes test value text spot x behind
    → found (Form.hole test (λ run. form (value run))) text spot ≡ found (form x) text behind
taken_found test value form text spot x behind t =
    hole_found test (λ run. form (value run)) text spot behind t.leads ∙ told_found form text behind x (value (run_from text spot)) t.tells

-- the next byte, the text ahead, a refusal

pub turn_found : {A : Type 0} (form : Option ℕ → Form A) (text : List ℕ) (spot : Spot) (b : Option ℕ) → b ≡ next (ahead_of text spot) → found (Form.turn form) text spot ≡ found (form b) text spot
unfolding found
turn_found form text (At at) b e = ap (λ (o : Option ℕ). found (form o) text (At at)) (sym e)
turn_found form text (Flawed at rule) b e = refl

pub ahead_found : {A : Type 0} (form : List ℕ → Form A) (text : List ℕ) (spot : Spot) → found (Form.ahead form) text spot ≡ found (form (ahead_of text spot)) text spot
unfolding found
ahead_found form text (At at) = refl
ahead_found form text (Flawed at rule) = refl

refused_at : {A : Type 0} (rule : Rule) (form : Form A) (text : List ℕ) (spot : Spot) → found (Form.refuse rule) text spot ≡ found form text (refused rule spot)
unfolding found
refused_at rule form text (At at) = bad_at at rule
refused_at rule form text (Flawed at other) = refl

pub refuse_found : {A : Type 0} (rule : Rule) (form : Form A) (text : List ℕ) (spot behind : Spot) → behind ≡ refused rule spot → found (Form.refuse rule) text spot ≡ found form text behind
refuse_found rule form text spot behind e = refused_at rule form text spot ∙ ap (found form text) (sym e)

-- two forms in a row

abbrev continued : {A B : Type 0} → (A → Form B) → ℕ → Outcome A → Outcome B
continued later n (Outcome.good a rest) = pushed (n - length rest) (walk (later a) rest)
continued later n (Outcome.bad at rule) = Outcome.bad at rule

shorter : {A : Type 0} (form : Form A) (text : List ℕ) (a : A) (rest : List ℕ) → walk form text ≡ Outcome.good a rest → length rest ≤ length text
shorter form text a rest e = let r = walk_reads form text a rest e in omega (arith, ap length r.parts, length-append r.front rest)

pushed_on : {A B : Type 0} (later : A → Form B) (k n m : ℕ) (o : Outcome A) → k + n ≡ m → ((a : A) (rest : List ℕ) → o ≡ Outcome.good a rest → length rest ≤ n)
    → pushed k (continued later n o) ≡ continued later m (pushed k o)
pushed_on later k n m (Outcome.good a rest) e short =
    let less : length rest ≤ n = short a rest refl in
    pushed_twice k (n - length rest) (m - length rest) (walk (later a) rest) (omega (arith, less, e))
pushed_on later k n m (Outcome.bad at rule) e short = refl

followed_walks : {A B : Type 0} (form : Form A) (later : A → Form B) (text : List ℕ) → walk (followed form later) text ≡ continued later (length text) (walk form text)
followed_walks (Form.whole a) later text =
    let none : length text - length text ≡ 0 = omega arith in
    sym (ap (λ (k : ℕ). pushed k (walk (later a) text)) none ∙ pushed_zero (walk (later a) text))
followed_walks (Form.byte b form) later [] = refl
followed_walks {A} {B} (Form.byte b form) later (c ∷ text) = by_test (followed_walks form later text) (c == b)
  where
    by_test : walk (followed form later) text ≡ continued later (length text) (walk form text) → (t : Bool) → cond t (pushed 1 (walk (followed form later) text)) (Outcome.bad 0 OtherByte) ≡ continued later (suc (length text)) (cond t (pushed 1 (walk form text)) (Outcome.bad 0 OtherByte))
    by_test more true = ap (pushed 1) more ∙ pushed_on later 1 (length text) (suc (length text)) (walk form text) (omega arith) (shorter form text)
    by_test more false = refl
followed_walks {A} {B} (Form.hole test form) later text =
    let n = prefix_len is_hole_byte text in
    by_test (followed_walks (form (take n text)) later (drop n text)) (test (take n text))
  where
    k : ℕ
    k = prefix_len is_hole_byte text

    run : List ℕ
    run = take k text

    by_test : walk (followed (form run) later) (drop k text) ≡ continued later (length (drop k text)) (walk (form run) (drop k text)) → (o : Option Rule) → behind_test o k (walk (followed (form run) later) (drop k text)) ≡ continued later (length text) (behind_test o k (walk (form run) (drop k text)))
    by_test more None =
        let most : k ≤ length text = prefix_len-le-length is_hole_byte text in
        let count : k + length (drop k text) ≡ length text = omega (arith, most, length-drop k text) in
        ap (pushed k) more ∙ pushed_on later k (length (drop k text)) (length text) (walk (form run) (drop k text)) count (shorter (form run) (drop k text))
    by_test more (Some rule) = refl
followed_walks (Form.turn form) later text = followed_walks (form (next text)) later text
followed_walks (Form.ahead form) later text = followed_walks (form text) later text
followed_walks (Form.refuse rule) later text = refl

bad_same : {B : Type 0} (at place : ℕ) (rule other : Rule) → at ≡ place → rule ≡ other → (let o : Outcome B = Outcome.bad at rule in o) ≡ Outcome.bad place other
bad_same at place rule other e f = ap (λ (k : ℕ). Outcome.bad k rule) e ∙ ap (λ (r : Rule). Outcome.bad place r) f

continued_good : {A B : Type 0} (later : A → Form B) (text : List ℕ) (at k : ℕ) (a : A) (o : Outcome A) → at ≤ length text → k ≤ length text → ((b : A) (rest : List ℕ) → o ≡ Outcome.good b rest → length rest ≤ length (drop at text))
    → pushed at o ≡ Outcome.good a (drop k text) → pushed at (continued later (length (drop at text)) o) ≡ pushed k (walk (later a) (drop k text))
continued_good later text at k a (Outcome.good b rest) from_ to_ short e =
    let same = same_good b a rest (drop k text) e in
    let count : at + (length (drop at text) - length rest) ≡ k = omega (arith, short b rest refl, ap length same.rest, length-drop at text, length-drop k text, from_, to_) in
    pushed_twice at (length (drop at text) - length rest) k (walk (later b) rest) count
    ∙ ap (λ x. pushed k (walk (later x) rest)) same.value ∙ ap (λ (t : List ℕ). pushed k (walk (later a) t)) same.rest
continued_good later text at k a (Outcome.bad q rule) from_ to_ short e = absurd (apart a (drop k text) (at + q) rule (sym e))

continued_bad : {A B : Type 0} (later : A → Form B) (n at place : ℕ) (rule : Rule) (o : Outcome A) → pushed at o ≡ Outcome.bad place rule → pushed at (continued later n o) ≡ Outcome.bad place rule
continued_bad later n at place rule (Outcome.good b rest) e = absurd (apart b rest place rule e)
continued_bad {A} later n at place rule (Outcome.bad q other) e = let same = same_bad A (at + q) place other rule e in bad_same (at + q) place other rule same.same_place same.same_rule

pub followed_found : {A B : Type 0} (form : Form A) (later : A → Form B) (text : List ℕ) (spot : Spot) (a : A) (behind : Spot) → IsWithin text spot → IsWithin text behind
    → found form text spot ≡ found (Form.whole a) text behind → found (followed form later) text spot ≡ found (later a) text behind
unfolding found
followed_found form later text (At at) a (At k) from_ to_ e =
    ap (pushed at) (followed_walks form later (drop at text)) ∙ continued_good later text at k a (walk form (drop at text)) from_ to_ (shorter form (drop at text)) e
followed_found form later text (At at) a (Flawed place rule) from_ to_ e =
    ap (pushed at) (followed_walks form later (drop at text)) ∙ continued_bad later (length (drop at text)) at place rule (walk form (drop at text)) e
followed_found form later text (Flawed q other) a (At k) from_ to_ e = absurd (apart a (drop k text) q other (sym e))
followed_found {A} form later text (Flawed q other) a (Flawed place rule) from_ to_ e = let same = same_bad A q place other rule e in bad_same q place other rule same.same_place same.same_rule

twice_walks : {A B C : Type 0} (form : Form A) (middle : A → Form B) (later : B → Form C) (text : List ℕ) → walk (followed (followed form middle) later) text ≡ walk (followed form (λ a. followed (middle a) later)) text
twice_walks (Form.whole a) middle later text = refl
twice_walks (Form.byte b form) middle later [] = refl
twice_walks (Form.byte b form) middle later (c ∷ text) = ap (λ o. cond (c == b) (pushed 1 o) (Outcome.bad 0 OtherByte)) (twice_walks form middle later text)
twice_walks (Form.hole test form) middle later text =
    let k = prefix_len is_hole_byte text in ap (λ o. behind_test (test (take k text)) k o) (twice_walks (form (take k text)) middle later (drop k text))
twice_walks (Form.turn form) middle later text = twice_walks (form (next text)) middle later text
twice_walks (Form.ahead form) middle later text = twice_walks (form text) middle later text
twice_walks (Form.refuse rule) middle later text = refl

pub followed_twice : {A B C : Type 0} (form : Form A) (middle : A → Form B) (later : B → Form C) (text : List ℕ) (spot : Spot)
    → found (followed (followed form middle) later) text spot ≡ found (followed form (λ a. followed (middle a) later)) text spot
unfolding found
followed_twice form middle later text (At at) = ap (pushed at) (twice_walks form middle later (drop at text))
followed_twice form middle later text (Flawed at rule) = refl

-- the hole ahead lies within the text

pub run_within : (text : List ℕ) (spot : Spot) → IsWithin text spot → IsWithin text (moved (length (run_from text spot)) spot)
run_within text (At at) within =
    let rest = drop at text in
    omega (arith, within, length-prefix_len is_hole_byte rest, prefix_len-le-length is_hole_byte rest, length-drop at text)
run_within text (Flawed at rule) within = tt

pub refused_within : (text : List ℕ) (rule : Rule) (spot : Spot) → IsWithin text (refused rule spot)
refused_within text rule (At at) = tt
refused_within text rule (Flawed at other) = tt

-- what a hole tells is told where its test lets it pass
good_tells : {T : Type 0} (spot : Spot) (v w : T) → v ≡ w → IfGood spot (v ≡ w)
good_tells (At at) v w e = e
good_tells (Flawed at rule) v w e = tt

refused_tells : (P : Type 0) (rule : Rule) (spot : Spot) → IfGood (refused rule spot) P
refused_tells P rule (At at) = tt
refused_tells P rule (Flawed at other) = tt

pub takes_good : {T : Type 0} (test : List ℕ → Option Rule) (value : List ℕ → T) (text run : List ℕ) (spot : Spot) (v : T) → run ≡ run_from text spot → test run ≡ None → v ≡ value run
    → Takes test value text spot v (moved (length run) spot)
takes_good test value text run spot v is none tells = record {
  leads = ap (λ (o : Option Rule). past o (length run) spot) (sym none) ∙ ap (λ (r : List ℕ). past (test r) (length r) spot) is;
  tells = good_tells (moved (length run) spot) v (value (run_from text spot)) (tells ∙ ap value is);
}

pub takes_bad : {T : Type 0} (test : List ℕ → Option Rule) (value : List ℕ → T) (text run : List ℕ) (spot : Spot) (v : T) (rule : Rule) → run ≡ run_from text spot → test run ≡ Some rule
    → Takes test value text spot v (refused rule spot)
takes_bad test value text run spot v rule is breaks = record {
  leads = ap (λ (o : Option Rule). past o (length run) spot) (sym breaks) ∙ ap (λ (r : List ℕ). past (test r) (length r) spot) is;
  tells = refused_tells (v ≡ value (run_from text spot)) rule spot;
}

-- what is good behind a fixed part was good before it
pub good_before : (P : Type 0) (part text : List ℕ) (spot behind : Spot) → behind ≡ fixed_from part text spot → IfGood spot P → IfGood behind P
good_before P part text (At at) behind e p = anywhere behind p
  where
    anywhere : (spot : Spot) → P → IfGood spot P
    anywhere (At k) p = p
    anywhere (Flawed k rule) p = tt
good_before P part text (Flawed at rule) behind e p = subst (λ (s : Spot). IfGood s P) (sym e) tt
