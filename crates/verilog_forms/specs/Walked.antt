-- What a form that was walked whole says.
use Rattle.std.proofs.Common.{◌≡◌, ℕ, ◌<◌, ◌^◌, ◌&&◌, cond, Bool, true, false, not, List, [], ◌∷◌, ◌++◌, None, refl, sym, ap, subst, ◌∙◌}
use Rattle.std.specs.Prelude.{nat_lt}
use Rattle.std.proofs.lemmas.Bool.{ltb-true}
use Rattle.verilog_forms.specs.declared.rule.Rule.TheVariants.{TooManyNets}
use Rattle.verilog_forms.specs.Forms.{next, Form, IsHole, Due}
use Rattle.verilog_forms.specs.Spellings.{true_false}
use Rattle.verilog_forms.specs.WholeTexts.{is_net_line, room_form}

-- what a form that was walked whole says, by its kind
abbrev pub Inverted : {A : Type 0} → A → List ℕ → Form A → List ℕ → Type 0
Inverted a rest (Form.whole b) front = (b ≡ a) × (front ≡ [])
Inverted a rest (Form.byte b form) front = (later : List ℕ) × (front ≡ b ∷ later) × Due (Form.whole a) rest form later
Inverted a rest (Form.hole test form) front = (run later : List ℕ) × (front ≡ run ++ later) × (test run ≡ None) × Due (Form.whole a) rest (form run) later × IsHole run (later ++ rest)
Inverted a rest (Form.turn form) front = Due (Form.whole a) rest (form (next (front ++ rest))) front
Inverted a rest (Form.ahead form) front = Due (Form.whole a) rest (form (front ++ rest)) front
Inverted a rest (Form.refuse rule) front = ⊥

pub inverted : {A : Type 0} {due : Form A} {rest : List ℕ} {form : Form A} {front : List ℕ} (a : A) → due ≡ Form.whole a → Due due rest form front → Inverted a rest form front
inverted {A} {due} {rest} a e Due.nothing = subst (λ (f : Form A). Inverted a rest f []) (sym e) (refl, refl)
inverted {A} {due} {rest} a e (Due.byte {form} {front} b d) = (front, refl, subst (λ (f : Form A). Due f rest form front) e d)
inverted {A} {due} {rest} a e (Due.hole {front} test form run is none d) = (run, front, refl, none, subst (λ (f : Form A). Due f rest (form run) front) e d, is)
inverted {A} {due} {rest} a e (Due.turn {front} form d) = subst (λ (f : Form A). Due f rest (form (next (front ++ rest))) front) e d
inverted {A} {due} {rest} a e (Due.ahead {front} form d) = subst (λ (f : Form A). Due f rest (form (front ++ rest)) front) e d

abbrev pub Walked : {A : Type 0} → A → List ℕ → Form A → List ℕ → Type 0
Walked e rest form front = Due (Form.whole e) rest form front

room_walked_as : {A : Type 0} (e : A) (rest : List ℕ) (form : Form A) (front : List ℕ) (t b : Bool) → t ≡ b → Walked e rest (cond t (Form.refuse TooManyNets) form) front → (t ≡ false) × Walked e rest form front
room_walked_as e rest form front true b is d = absurd (inverted e refl d)
room_walked_as e rest form front false b is d = (refl, d)

below_as : (b : Bool) → (true && not b) ≡ false → b ≡ true
below_as true e = refl
below_as false e = absurd (true_false e)

-- a line of a net is read only where there is room for it
pub room_walked : {A : Type 0} (n : ℕ) (form : Form A) (e : A) (rest front : List ℕ) → Walked e rest (room_form n form) front → (is_net_line (front ++ rest) ≡ true → n < 2 ^ 20) × Walked e rest form front
room_walked n form e rest front d =
    let test = is_net_line (front ++ rest) && not (nat_lt n (2 ^ 20)) in
    let w = room_walked_as e rest form front test test refl (inverted e refl d) in
    (λ line. ltb-true n (2 ^ 20) (below_as (nat_lt n (2 ^ 20)) (ap (λ (b : Bool). b && not (nat_lt n (2 ^ 20))) (sym line) ∙ w.0)), w.1)
