-- Each text has what a form asks or has one first fault.
use Rattle.std.proofs.Common.{◌≡◌, ◌≢◌, ℕ, suc, ◌+◌, Bool, true, false, cond, List, [], ◌∷◌, ◌++◌, length, take, drop, take_at, drop_at, Option, Some, None, refl, sym, ap, subst, ◌∙◌, inl, inr, arith, append_assoc, length-append}
use Rattle.std.proofs.lemmas.Bool.{eq-eqb}
use Rattle.std.proofs.lemmas.Bool.Decides.{eqb_tells}
use Rattle.std.proofs.lemmas.Option.{none-some}
use Rattle.verilog_forms.specs.declared.rule.Rule.{Rule}
use Rattle.verilog_forms.specs.declared.rule.Rule.TheVariants.{OtherByte}
use Rattle.verilog_forms.specs.Forms.{is_hole_byte, next, Form, ends_hole, IsHole, Due, Misfits, Reads, HasFault}
use Rattle.verilog_forms.specs.Walks.{Outcome, pushed, behind_test, walk}
use Rattle.verilog_forms.specs.Spellings.{stops, prefix_run}

pub pushed_zero : {A : Type 0} (o : Outcome A) → pushed 0 o ≡ o
pushed_zero (Outcome.good a rest) = refl
pushed_zero (Outcome.bad at rule) = let e : 0 + at ≡ at = omega arith in ap (λ (k : ℕ). Outcome.bad k rule) e

pub pushed_twice : {A : Type 0} (j k l : ℕ) (o : Outcome A) → j + k ≡ l → pushed j (pushed k o) ≡ pushed l o
pushed_twice j k l (Outcome.good a rest) e = refl
pushed_twice j k l (Outcome.bad at rule) e = let f : j + (k + at) ≡ l + at = omega (arith, e) in ap (λ (m : ℕ). Outcome.bad m rule) f

ends_stops : (bs : List ℕ) → ends_hole bs ≡ true → stops is_hole_byte bs ≡ true
ends_stops [] h = refl
ends_stops (b ∷ bs) h = h

-- a hole is walked
hole_walks : {A : Type 0} (test : List ℕ → Option Rule) (form : List ℕ → Form A) (run behind : List ℕ) → IsHole run behind
    → walk (Form.hole test form) (run ++ behind) ≡ behind_test (test run) (length run) (walk (form run) behind)
hole_walks {A} test form run behind is =
    let k = prefix_run is_hole_byte run behind is.bytes (ends_stops behind is.ends) in
    let there = λ (t d : List ℕ) (n : ℕ). behind_test {A = A} (test t) n (walk (form t) d) in
    ap (λ (n : ℕ). there (take n (run ++ behind)) (drop n (run ++ behind)) n) k
    ∙ ap (λ (t : List ℕ). there t (drop (length run) (run ++ behind)) (length run)) (take_at run behind (length run) refl)
    ∙ ap (λ (d : List ℕ). there run d (length run)) (drop_at run behind (length run) refl)

due_walks : {A : Type 0} {due : Form A} {rest : List ℕ} {form : Form A} {front : List ℕ} → Due due rest form front → walk form (front ++ rest) ≡ pushed (length front) (walk due rest)
due_walks {A} {due} {rest} Due.nothing = sym (pushed_zero (walk due rest))
due_walks {A} {due} {rest} (Due.byte {form} {front} b d) =
    let one : 1 + length front ≡ suc (length front) = omega arith in
    ap (λ (t : Bool). cond t (pushed 1 (walk form (front ++ rest))) (Outcome.bad 0 OtherByte)) (eq-eqb b b refl)
    ∙ ap (pushed 1) (due_walks d) ∙ pushed_twice 1 (length front) (suc (length front)) (walk due rest) one
due_walks {A} {due} {rest} (Due.hole {front} test form run is none d) =
    ap (walk (Form.hole test form)) (append_assoc run front rest)
    ∙ hole_walks test form run (front ++ rest) is
    ∙ ap (λ (o : Option Rule). behind_test o (length run) (walk (form run) (front ++ rest))) none
    ∙ ap (pushed (length run)) (due_walks d)
    ∙ pushed_twice (length run) (length front) (length (run ++ front)) (walk due rest) (sym (length-append run front))
due_walks (Due.turn form d) = due_walks d
due_walks (Due.ahead form d) = due_walks d

differs_walks : {A : Type 0} (text : List ℕ) (b : ℕ) (form : Form A) → next text ≢ Some b → walk (Form.byte b form) text ≡ Outcome.bad 0 OtherByte
differs_walks [] b form h = refl
differs_walks (c ∷ text) b form h =
    elim (eqb_tells c b) [
      | inl same ↦ absurd (h (ap (λ (n : ℕ). Some n) same.1))
      | inr other ↦ ap (λ (t : Bool). cond t (pushed 1 (walk form text)) (Outcome.bad 0 OtherByte)) other.0
    ]

misfit_walks : {A : Type 0} {text : List ℕ} {form : Form A} {rule : Rule} → Misfits text form rule → walk form text ≡ Outcome.bad 0 rule
misfit_walks {A} {text} (Misfits.byte b form h) = differs_walks text b form h
misfit_walks (Misfits.hole test form run behind rule parts is breaks) =
    ap (walk (Form.hole test form)) parts ∙ hole_walks test form run behind is ∙ ap (λ (o : Option Rule). behind_test o (length run) (walk (form run) behind)) breaks
misfit_walks (Misfits.refuse rule) = refl

pub reads_walks : {A : Type 0} (form : Form A) (text : List ℕ) (a : A) (rest : List ℕ) → Reads form text a rest → walk form text ≡ Outcome.good a rest
reads_walks form text a rest r = ap (walk form) r.parts ∙ due_walks r.good

pub fault_walks : {A : Type 0} (form : Form A) (text : List ℕ) (at : ℕ) (rule : Rule) → HasFault form text at rule → walk form text ≡ Outcome.bad at rule
fault_walks form text at rule f =
    let none : length f.front + 0 ≡ at = omega (arith, f.place) in
    ap (walk form) f.parts ∙ due_walks f.good ∙ ap (pushed (length f.front)) (misfit_walks f.misfit) ∙ ap (λ (k : ℕ). Outcome.bad k rule) none

-- one value, one fault, and never both

pub record SameReading {A : Type 0} (a b : A) (r s : List ℕ) : Type 0 where
  pub value : a ≡ b
  pub rest : r ≡ s

pub same_good : {A : Type 0} (a b : A) (r s : List ℕ) → Outcome.good a r ≡ Outcome.good b s → SameReading a b r s
same_good a b r s e = record { value = cc; rest = cc }

pub one_value : {A : Type 0} (form : Form A) (text : List ℕ) (a b : A) (r s : List ℕ) → Reads form text a r → Reads form text b s → SameReading a b r s
one_value form text a b r s x y = same_good a b r s (sym (reads_walks form text a r x) ∙ reads_walks form text b s y)

pub record SameFault (at at' : ℕ) (rule rule' : Rule) : Type 0 where
  pub same_place : at ≡ at'
  pub same_rule : rule ≡ rule'

pub same_bad : (A : Type 0) (at at' : ℕ) (rule rule' : Rule) → (let x : Outcome A = Outcome.bad at rule in x) ≡ Outcome.bad at' rule' → SameFault at at' rule rule'
same_bad A at at' rule rule' e = record { same_place = cc; same_rule = cc }

pub one_fault : {A : Type 0} (form : Form A) (text : List ℕ) (at at' : ℕ) (rule rule' : Rule) → HasFault form text at rule → HasFault form text at' rule' → SameFault at at' rule rule'
one_fault {A} form text at at' rule rule' x y = same_bad A at at' rule rule' (sym (fault_walks form text at rule x) ∙ fault_walks form text at' rule' y)

pub apart : {A : Type 0} (a : A) (rest : List ℕ) (at : ℕ) (rule : Rule) → Outcome.good a rest ≡ Outcome.bad at rule → ⊥
apart a rest at rule e = cc

pub never_both : {A : Type 0} (form : Form A) (text : List ℕ) (a : A) (rest : List ℕ) (at : ℕ) (rule : Rule) → Reads form text a rest → HasFault form text at rule → ⊥
never_both form text a rest at rule x y = apart a rest at rule (sym (reads_walks form text a rest x) ∙ fault_walks form text at rule y)

-- and one of them is always there

pub data Judged {A : Type 0} (form : Form A) (text : List ℕ) : Type 0 where
  reads : (a : A) (rest : List ℕ) → Reads form text a rest → Judged form text
  breaks : (at : ℕ) (rule : Rule) → HasFault form text at rule → Judged form text

byte_judged : {A : Type 0} (b : ℕ) (form : Form A) (text : List ℕ) → Judged form text → Judged (Form.byte b form) (b ∷ text)
byte_judged b form text (Judged.reads a rest r) = Judged.reads a rest (record { front = b ∷ r.front; parts = ap (λ (t : List ℕ). b ∷ t) r.parts; good = Due.byte b r.good })
byte_judged b form text (Judged.breaks at rule f) =
    Judged.breaks (suc at) rule (record { front = b ∷ f.front; rest = f.rest; parts = ap (λ (t : List ℕ). b ∷ t) f.parts; place = ap suc f.place; due = f.due; good = Due.byte b f.good; misfit = f.misfit })

misfit_judged : {A : Type 0} (form : Form A) (text : List ℕ) (rule : Rule) → Misfits text form rule → Judged form text
misfit_judged form text rule m = Judged.breaks 0 rule (record { front = []; rest = text; parts = refl; place = refl; due = form; good = Due.nothing; misfit = m })

some_is : (c b : ℕ) → Some c ≡ Some b → c ≡ b
some_is c b e = cc

differs : (c b : ℕ) → c ≢ b → Some c ≢ Some b
differs c b other e = other (some_is c b e)

hole_judged : {A : Type 0} (test : List ℕ → Option Rule) (form : List ℕ → Form A) (run behind : List ℕ) → IsHole run behind → test run ≡ None → Judged (form run) behind → Judged (Form.hole test form) (run ++ behind)
hole_judged test form run behind is none (Judged.reads a rest r) = Judged.reads a rest (record {
  front = run ++ r.front;
  parts = ap (λ (t : List ℕ). run ++ t) r.parts ∙ sym (append_assoc run r.front rest);
  good = Due.hole test form run (subst (IsHole run) r.parts is) none r.good;
})
hole_judged test form run behind is none (Judged.breaks at rule f) = Judged.breaks (length run + at) rule (record {
  front = run ++ f.front;
  rest = f.rest;
  parts = ap (λ (t : List ℕ). run ++ t) f.parts ∙ sym (append_assoc run f.front f.rest);
  place = length-append run f.front ∙ ap (λ (k : ℕ). length run + k) f.place;
  due = f.due;
  good = Due.hole test form run (subst (IsHole run) f.parts is) none f.good;
  misfit = f.misfit;
})

turn_judged : {A : Type 0} (form : Option ℕ → Form A) (text : List ℕ) → Judged (form (next text)) text → Judged (Form.turn form) text
turn_judged form text (Judged.reads a rest r) =
    Judged.reads a rest (record { front = r.front; parts = r.parts; good = Due.turn form (subst (λ (t : List ℕ). Due (Form.whole a) rest (form (next t)) r.front) r.parts r.good) })
turn_judged form text (Judged.breaks at rule f) =
    Judged.breaks at rule (record { front = f.front; rest = f.rest; parts = f.parts; place = f.place; due = f.due; good = Due.turn form (subst (λ (t : List ℕ). Due f.due f.rest (form (next t)) f.front) f.parts f.good); misfit = f.misfit })

ahead_judged : {A : Type 0} (form : List ℕ → Form A) (text : List ℕ) → Judged (form text) text → Judged (Form.ahead form) text
ahead_judged form text (Judged.reads a rest r) =
    Judged.reads a rest (record { front = r.front; parts = r.parts; good = Due.ahead form (subst (λ (t : List ℕ). Due (Form.whole a) rest (form t) r.front) r.parts r.good) })
ahead_judged form text (Judged.breaks at rule f) =
    Judged.breaks at rule (record { front = f.front; rest = f.rest; parts = f.parts; place = f.place; due = f.due; good = Due.ahead form (subst (λ (t : List ℕ). Due f.due f.rest (form t) f.front) f.parts f.good); misfit = f.misfit })

pub record Split (text : List ℕ) : Type 0 where
  pub run : List ℕ
  pub behind : List ℕ
  pub parts : text ≡ run ++ behind
  pub is : IsHole run behind

split_as : (b : ℕ) (bs : List ℕ) (t : Bool) → is_hole_byte b ≡ t → Split bs → Split (b ∷ bs)
split_as b bs true h s = record { run = b ∷ s.run; behind = s.behind; parts = ap (λ (t : List ℕ). b ∷ t) s.parts; is = record { bytes = rw h s.is.bytes; ends = s.is.ends } }
split_as b bs false h s = record { run = []; behind = b ∷ bs; parts = refl; is = record { bytes = refl; ends = rw h refl } }

split : (text : List ℕ) → Split text
split [] = record { run = []; behind = []; parts = refl; is = record { bytes = refl; ends = refl } }
split (b ∷ bs) = split_as b bs (is_hole_byte b) refl (split bs)

hole_as : {A : Type 0} (test : List ℕ → Option Rule) (form : List ℕ → Form A) (run behind : List ℕ) → IsHole run behind → (o : Option Rule) → test run ≡ o → Judged (form run) behind → Judged (Form.hole test form) (run ++ behind)
hole_as test form run behind is None e later = hole_judged test form run behind is e later
hole_as test form run behind is (Some rule) e later = misfit_judged (Form.hole test form) (run ++ behind) rule (Misfits.hole test form run behind rule refl is e)

pub judge : {A : Type 0} (form : Form A) (text : List ℕ) → Judged form text
judge (Form.whole a) text = Judged.reads a text (record { front = []; parts = refl; good = Due.nothing })
judge (Form.byte b form) [] = misfit_judged (Form.byte b form) [] OtherByte (Misfits.byte b form (none-some b))
judge (Form.byte b form) (c ∷ text) =
    elim (eqb_tells c b) [
      | inl same ↦ subst (λ (x : ℕ). Judged (Form.byte b form) (x ∷ text)) (sym same.1) (byte_judged b form text (judge form text))
      | inr other ↦ misfit_judged (Form.byte b form) (c ∷ text) OtherByte (Misfits.byte b form (differs c b other.1))
    ]
judge (Form.hole test form) text =
    let s = split text in
    subst (Judged (Form.hole test form)) (sym s.parts) (hole_as test form s.run s.behind s.is (test s.run) refl (judge (form s.run) s.behind))
judge (Form.turn form) text = turn_judged form text (judge (form (next text)) text)
judge (Form.ahead form) text = ahead_judged form text (judge (form text) text)
judge (Form.refuse rule) text = misfit_judged (Form.refuse rule) text rule (Misfits.refuse rule)

-- what a walk finds stands in the text

pub walk_reads : {A : Type 0} (form : Form A) (text : List ℕ) (a : A) (rest : List ℕ) → walk form text ≡ Outcome.good a rest → Reads form text a rest
walk_reads form text a rest e =
    elim (judge form text) [
      | Judged.reads b back r ↦
          let same = same_good b a back rest (sym (reads_walks form text b back r) ∙ e) in
          rw (sym same.value, sym same.rest) r
      | Judged.breaks at rule f ↦ absurd (apart a rest at rule (sym e ∙ fault_walks form text at rule f))
    ]

pub walk_refuses : {A : Type 0} (form : Form A) (text : List ℕ) (at : ℕ) (rule : Rule) → walk form text ≡ Outcome.bad at rule → HasFault form text at rule
walk_refuses {A} form text at rule e =
    elim (judge form text) [
      | Judged.reads a rest r ↦ absurd (apart a rest at rule (sym (reads_walks form text a rest r) ∙ e))
      | Judged.breaks place other f ↦
          let same = same_bad A place at other rule (sym (fault_walks form text place other f) ∙ e) in
          rw (sym same.same_place, sym same.same_rule) f
    ]
