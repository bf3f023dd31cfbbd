-- A form and the one behind it are walked together, and apart.
use Rattle.std.proofs.Common.{◌≡◌, ℕ, ◌+◌, ◌-◌, ◌<◌, ◌≤◌, ◌^◌, List, [], ◌∷◌, ◌++◌, None, refl, sym, ap, subst, ◌∙◌, arith, codes, decimal, append_assoc}
use Rattle.std.specs.Prelude.{nat_lt}
use Rattle.std.proofs.lemmas.Bool.{lt-ltb, ltb-true}
use Rattle.std.proofs.lemmas.List.{append_cancel_right}
use Rattle.verilog_writer.specs.Text.{range_text}
use Rattle.verilog_forms.specs.declared.rule.Rule.TheVariants.{Width}
use Rattle.verilog_forms.specs.Forms.{Form, fixed, followed, next, IsHole, Due, Reads}
use Rattle.verilog_forms.specs.RightSides.{value_of}
use Rattle.verilog_forms.specs.WireLines.{high_test, range_form}
use Rattle.verilog_forms.proofs.RightReads.{fixed_due, number_passes, numbered_due}
use Rattle.verilog_forms.specs.Walked.{inverted, Walked}
use Rattle.verilog_forms.proofs.RightSound.{number_held, fixed_walked}

-- a form and the one behind it are walked together
pub followed_due : {A B : Type 0} {first : Form A} {middle : List ℕ} {form : Form A} {front : List ℕ} (a : A) (later : A → Form B) (due : Form B) (back rest : List ℕ) → first ≡ Form.whole a → middle ≡ back ++ rest
    → Due first middle form front → Due due rest (later a) back → Due due rest (followed form later) (front ++ back)
followed_due {A} {B} {first} a later due back rest whole at Due.nothing more = subst (λ (f : Form A). Due due rest (followed f later) back) (sym whole) more
followed_due a later due back rest whole at (Due.byte b d) more = Due.byte b (followed_due a later due back rest whole at d more)
followed_due {A} {B} {first} {middle} a later due back rest whole at (Due.hole {front} test form run is none d) more =
    let behind : front ++ middle ≡ (front ++ back) ++ rest = ap (λ (t : List ℕ). front ++ t) at ∙ sym (append_assoc front back rest) in
    let all = Due.hole test (λ r. followed (form r) later) run (subst (IsHole run) behind is) none (followed_due a later due back rest whole at d more) in
    subst (λ (t : List ℕ). Due due rest (followed (Form.hole test form) later) t) (sym (append_assoc run front back)) all
followed_due {A} {B} {first} {middle} a later due back rest whole at (Due.turn {front} form d) more =
    let behind : front ++ middle ≡ (front ++ back) ++ rest = ap (λ (t : List ℕ). front ++ t) at ∙ sym (append_assoc front back rest) in
    let below = followed_due a later due back rest whole at d more in
    Due.turn (λ b. followed (form b) later) (subst (λ (t : List ℕ). Due due rest (followed (form (next t)) later) (front ++ back)) behind below)
followed_due {A} {B} {first} {middle} a later due back rest whole at (Due.ahead {front} form d) more =
    let behind : front ++ middle ≡ (front ++ back) ++ rest = ap (λ (t : List ℕ). front ++ t) at ∙ sym (append_assoc front back rest) in
    let below = followed_due a later due back rest whole at d more in
    Due.ahead (λ text. followed (form text) later) (subst (λ (t : List ℕ). Due due rest (followed (form t) later) (front ++ back)) behind below)

-- and apart
pub record Apart {A B : Type 0} (b : B) (rest : List ℕ) (form : Form A) (later : A → Form B) (front : List ℕ) : Type 0 where
  pub value : A
  pub ahead : List ℕ
  pub behind : List ℕ
  pub parts : front ≡ ahead ++ behind
  pub first : Due (Form.whole value) (behind ++ rest) form ahead
  pub second : Walked b rest (later value) behind

pub followed_walked : {A B : Type 0} (b : B) (rest : List ℕ) (form : Form A) (later : A → Form B) (front : List ℕ) → Walked b rest (followed form later) front → Apart b rest form later front
followed_walked b rest (Form.whole a) later front d = record { value = a; ahead = []; behind = front; parts = refl; first = Due.nothing; second = d }
followed_walked b rest (Form.byte c form) later front d =
    let one = inverted b refl d in
    let more = followed_walked b rest form later one.0 one.2 in
    record { value = more.value; ahead = c ∷ more.ahead; behind = more.behind; parts = one.1 ∙ ap (λ (t : List ℕ). c ∷ t) more.parts; first = Due.byte c more.first; second = more.second }
followed_walked b rest (Form.hole test form) later front d =
    let (run, left, parts, none, walked, ends) = inverted b refl d in
    let more = followed_walked b rest (form run) later left walked in
    let stands : left ++ rest ≡ more.ahead ++ (more.behind ++ rest) = ap (λ (t : List ℕ). t ++ rest) more.parts ∙ append_assoc more.ahead more.behind rest in
    record {
      value = more.value;
      ahead = run ++ more.ahead;
      behind = more.behind;
      parts = parts ∙ ap (λ (t : List ℕ). run ++ t) more.parts ∙ sym (append_assoc run more.ahead more.behind);
      first = Due.hole test form run (subst (IsHole run) stands ends) none more.first;
      second = more.second;
    }
followed_walked {A} b rest (Form.turn form) later front d =
    let more = followed_walked b rest (form (next (front ++ rest))) later front (inverted b refl d) in
    let stands : front ++ rest ≡ more.ahead ++ (more.behind ++ rest) = ap (λ (t : List ℕ). t ++ rest) more.parts ∙ append_assoc more.ahead more.behind rest in
    record {
      value = more.value;
      ahead = more.ahead;
      behind = more.behind;
      parts = more.parts;
      first = Due.turn form (subst (λ (t : List ℕ). Due (Form.whole more.value) (more.behind ++ rest) (form (next t)) more.ahead) stands more.first);
      second = more.second;
    }
followed_walked {A} b rest (Form.ahead form) later front d =
    let more = followed_walked b rest (form (front ++ rest)) later front (inverted b refl d) in
    let stands : front ++ rest ≡ more.ahead ++ (more.behind ++ rest) = ap (λ (t : List ℕ). t ++ rest) more.parts ∙ append_assoc more.ahead more.behind rest in
    record {
      value = more.value;
      ahead = more.ahead;
      behind = more.behind;
      parts = more.parts;
      first = Due.ahead form (subst (λ (t : List ℕ). Due (Form.whole more.value) (more.behind ++ rest) (form t) more.ahead) stands more.first);
      second = more.second;
    }
followed_walked b rest (Form.refuse rule) later front d = absurd (inverted b refl d)

pub then_due : {A B : Type 0} (form : Form A) (later : A → Form B) (a : A) (due : Form B) (rest front back : List ℕ) → Due (Form.whole a) (back ++ rest) form front → Due due rest (later a) back
    → Due due rest (followed form later) (front ++ back)
then_due form later a due rest front back d more = followed_due a later due back rest refl refl d more

-- what is read is walked
pub reads_due : {A : Type 0} (form : Form A) (text : List ℕ) (a : A) (rest : List ℕ) → Reads form (text ++ rest) a rest → Due (Form.whole a) rest form text
reads_due form text a rest r = subst (λ (t : List ℕ). Due (Form.whole a) rest form t) (sym (append_cancel_right text r.front rest r.parts)) r.good

-- the bits of a net

range_regroup : (a b c r : List ℕ) → a ++ (b ++ (c ++ r)) ≡ (a ++ b ++ c) ++ r
range_regroup a b c r = simp append_assoc

pub ranged_due : {A : Type 0} (due : Form A) (rest : List ℕ) (make : ℕ → Form A) (w : ℕ) (front : List ℕ) → 1 ≤ w → w ≤ 128 → Due due rest (make w) front → Due due rest (range_form make) (range_text w ++ front)
ranged_due due rest make w front some small d =
    let back : (w - 1) + 1 ≡ w = omega (arith, some) in
    let low : w - 1 < 128 = omega (arith, some, small) in
    let below : w - 1 < 2 ^ 64 = omega (arith, low) in
    let closed = fixed_due due rest (codes ":0]") (make ((w - 1) + 1)) front (subst (λ (v : ℕ). Due due rest (make v) front) (sym back) d) in
    let high = numbered_due due rest high_test (λ k. fixed (codes ":0]") (make (k + 1))) (w - 1) _ below refl (number_passes (w - 1) (λ k. nat_lt k 128) Width (λ k. None) below (lt-ltb (w - 1) 128 low)) closed in
    subst (λ (t : List ℕ). Due due rest (range_form make) t) (range_regroup (codes "[") (decimal (w - 1)) (codes ":0]") front) (fixed_due due rest (codes "[") _ _ high)

pub record Ranged {A : Type 0} (a : A) (rest : List ℕ) (make : ℕ → Form A) (front : List ℕ) : Type 0 where
  pub width : ℕ
  pub later : List ℕ
  pub some_bit : 1 ≤ width
  pub small : width ≤ 128
  pub spelled : front ≡ range_text width ++ later
  pub walked : Walked a rest (make width) later

pub ranged_walked : {A : Type 0} (a : A) (rest : List ℕ) (make : ℕ → Form A) (front : List ℕ) → Walked a rest (range_form make) front → Ranged a rest make front
ranged_walked a rest make front d =
    let opened = fixed_walked a rest (codes "[") _ front d in
    let (run, left, parts, none, walked, ends) = inverted a refl opened.2 in
    let high = number_held run (λ k. nat_lt k 128) Width (λ k. None) (λ t. omega (arith, ltb-true (value_of run) 128 t)) none in
    let w = value_of run + 1 in
    let below : value_of run < 128 = ltb-true (value_of run) 128 high.1 in
    let one : value_of run ≡ w - 1 = omega arith in
    let closed = fixed_walked a rest (codes ":0]") (make w) left walked in
    let is_run : run ≡ decimal (w - 1) = high.0 ∙ ap (λ (k : ℕ). decimal k) one in
    record {
      width = w;
      later = closed.0;
      some_bit = omega arith;
      small = omega (arith, below);
      spelled = opened.1 ∙ ap (λ (t : List ℕ). codes "[" ++ t) (parts ∙ ap (λ (t : List ℕ). t ++ left) is_run ∙ ap (λ (t : List ℕ). decimal (w - 1) ++ t) closed.1)
          ∙ range_regroup (codes "[") (decimal (w - 1)) (codes ":0]") closed.0;
      walked = closed.2;
    }
