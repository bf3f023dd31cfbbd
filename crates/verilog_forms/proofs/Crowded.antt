-- Where there is no room for a net, and nowhere else.
use Rattle.std.proofs.Common.{◌≡◌, ◌≢◌, ℕ, List, [], ◌∷◌, ◌++◌, Option, Some, None, inl, inr, ◌⊎◌, refl, sym, ap, subst, ◌∙◌, append_assoc}
use Rattle.verilog_forms.specs.declared.rule.Rule.{Rule}
use Rattle.verilog_forms.specs.declared.rule.Rule.TheVariants.{OtherByte, TooManyNets}
use Rattle.verilog_forms.specs.Forms.{Form, next, followed, IsHole, Due, Misfits}

-- the form breaks here for want of room
pub record Broken {A : Type 0} (form : Form A) (front rest : List ℕ) : Type 0 where
  pub due : Form A
  pub good : Due due rest form front
  pub misfit : Misfits rest due TooManyNets

-- a form that never does

abbrev pub Never : {A : Type 0} → Form A → Type 0
Never (Form.whole a) = Unit {0}
Never (Form.byte b form) = Never form
Never (Form.hole test form) = ((run : List ℕ) → test run ≢ Some TooManyNets) × ((run : List ℕ) → Never (form run))
Never (Form.turn form) = (b : Option ℕ) → Never (form b)
Never (Form.ahead form) = (text : List ℕ) → Never (form text)
Never (Form.refuse rule) = rule ≢ TooManyNets

abbrev pub MisfitIn : {A : Type 0} → List ℕ → Form A → Rule → Type 0
MisfitIn text (Form.whole a) rule = ⊥
MisfitIn text (Form.byte b form) rule = rule ≡ OtherByte
MisfitIn text (Form.hole test form) rule = (run behind : List ℕ) × (text ≡ run ++ behind) × IsHole run behind × (test run ≡ Some rule)
MisfitIn text (Form.turn form) rule = ⊥
MisfitIn text (Form.ahead form) rule = ⊥
MisfitIn text (Form.refuse other) rule = other ≡ rule

pub misfitted : {A : Type 0} {text : List ℕ} {form : Form A} {rule : Rule} → Misfits text form rule → MisfitIn text form rule
misfitted (Misfits.byte b form h) = refl
misfitted (Misfits.hole test form run behind rule parts is e) = (run, behind, parts, is, e)
misfitted (Misfits.refuse rule) = refl

other_rule : {X : Type 0} → TooManyNets ≡ OtherByte → X
other_rule e = absurd (let clash : TooManyNets ≡ OtherByte = e in cc)

never_misfits : {A : Type 0} (text : List ℕ) (form : Form A) → Never form → MisfitIn text form TooManyNets → ⊥
never_misfits text (Form.whole a) never m = m
never_misfits text (Form.byte b form) never m = other_rule m
never_misfits text (Form.hole test form) never m = never.0 m.0 m.4
never_misfits text (Form.turn form) never m = m
never_misfits text (Form.ahead form) never m = m
never_misfits text (Form.refuse other) never m = never m

due_never : {A : Type 0} {due : Form A} {rest : List ℕ} {form : Form A} {front : List ℕ} → Due due rest form front → Never form → Never due
due_never Due.nothing never = never
due_never (Due.byte b d) never = due_never d never
due_never (Due.hole test form run is none d) never = due_never d (never.1 run)
due_never {rest = rest} (Due.turn {front} form d) never = due_never d (never (next (front ++ rest)))
due_never {rest = rest} (Due.ahead {front} form d) never = due_never d (never (front ++ rest))

pub never_broken : {A X : Type 0} (form : Form A) (front rest : List ℕ) → Never form → Broken form front rest → X
never_broken form front rest never b = absurd (never_misfits rest b.due (due_never b.good never) (misfitted b.misfit))

-- a step through a form

abbrev pub Step : {A : Type 0} → Form A → List ℕ → Form A → List ℕ → Type 0
Step due rest (Form.whole a) front = (due ≡ Form.whole a) × (front ≡ [])
Step due rest (Form.byte b form) front = ((due ≡ Form.byte b form) × (front ≡ [])) ⊎ ((later : List ℕ) × (front ≡ b ∷ later) × Due due rest form later)
Step due rest (Form.hole test form) front =
    ((due ≡ Form.hole test form) × (front ≡ [])) ⊎ ((run later : List ℕ) × (front ≡ run ++ later) × (test run ≡ None) × Due due rest (form run) later × IsHole run (later ++ rest))
Step due rest (Form.turn form) front = ((due ≡ Form.turn form) × (front ≡ [])) ⊎ Due due rest (form (next (front ++ rest))) front
Step due rest (Form.ahead form) front = ((due ≡ Form.ahead form) × (front ≡ [])) ⊎ Due due rest (form (front ++ rest)) front
Step due rest (Form.refuse rule) front = (due ≡ Form.refuse rule) × (front ≡ [])

no_step : {A : Type 0} (due : Form A) (rest : List ℕ) → Step due rest due []
no_step (Form.whole a) rest = (refl, refl)
no_step (Form.byte b form) rest = inl (refl, refl)
no_step (Form.hole test form) rest = inl (refl, refl)
no_step (Form.turn form) rest = inl (refl, refl)
no_step (Form.ahead form) rest = inl (refl, refl)
no_step (Form.refuse rule) rest = (refl, refl)

pub stepped : {A : Type 0} {due : Form A} {rest : List ℕ} {form : Form A} {front : List ℕ} → Due due rest form front → Step due rest form front
stepped {due = due} {rest = rest} Due.nothing = no_step due rest
stepped (Due.byte {front = front} b d) = inr (front, refl, d)
stepped (Due.hole {front} test form run is none d) = inr (run, front, refl, none, d, is)
stepped (Due.turn form d) = inr d
stepped (Due.ahead form d) = inr d

-- what breaks for want of room breaks in the first form or in the one behind it

pub record Later {A B : Type 0} (form : Form A) (later : A → Form B) (front rest : List ℕ) : Type 0 where
  pub value : A
  pub ahead : List ℕ
  pub behind : List ℕ
  pub parts : front ≡ ahead ++ behind
  pub first : Due (Form.whole value) (behind ++ rest) form ahead
  pub second : Broken (later value) behind rest

abbrev Either : {A B : Type 0} → Form A → (A → Form B) → List ℕ → List ℕ → Type 0
Either form later front rest = Broken form front rest ⊎ Later form later front rest

stuck : {B : Type 0} (form : Form B) (due : Form B) (rest : List ℕ) → due ≡ form → Misfits rest due TooManyNets → MisfitIn rest form TooManyNets
stuck {B} form due rest e m = subst (λ (f : Form B). MisfitIn rest f TooManyNets) e (misfitted m)

byte_either : {A B : Type 0} (c : ℕ) (form : Form A) (later : A → Form B) (front back rest : List ℕ) → front ≡ c ∷ back → Either form later back rest → Either (Form.byte c form) later front rest
byte_either {A} {B} c form later front back rest at (inl b) = inl (subst (λ (t : List ℕ). Broken (Form.byte c form) t rest) (sym at) (record { due = b.due; good = Due.byte c b.good; misfit = b.misfit }))
byte_either c form later front back rest at (inr l) =
    inr (record { value = l.value; ahead = c ∷ l.ahead; behind = l.behind; parts = at ∙ ap (λ (t : List ℕ). c ∷ t) l.parts; first = Due.byte c l.first; second = l.second })

hole_either : {A B : Type 0} (test : List ℕ → Option Rule) (form : List ℕ → Form A) (later : A → Form B) (front run back rest : List ℕ) → front ≡ run ++ back → test run ≡ None → IsHole run (back ++ rest) → Either (form run) later back rest
    → Either (Form.hole test form) later front rest
hole_either test form later front run back rest at none is (inl b) =
    inl (subst (λ (t : List ℕ). Broken (Form.hole test form) t rest) (sym at) (record { due = b.due; good = Due.hole test form run is none b.good; misfit = b.misfit }))
hole_either test form later front run back rest at none is (inr l) =
    let stands : back ++ rest ≡ l.ahead ++ (l.behind ++ rest) = ap (λ (t : List ℕ). t ++ rest) l.parts ∙ append_assoc l.ahead l.behind rest in
    inr (record {
      value = l.value;
      ahead = run ++ l.ahead;
      behind = l.behind;
      parts = at ∙ ap (λ (t : List ℕ). run ++ t) l.parts ∙ sym (append_assoc run l.ahead l.behind);
      first = Due.hole test form run (subst (IsHole run) stands is) none l.first;
      second = l.second;
    })

turn_either : {A B : Type 0} (form : Option ℕ → Form A) (later : A → Form B) (front rest : List ℕ) → Either (form (next (front ++ rest))) later front rest → Either (Form.turn form) later front rest
turn_either form later front rest (inl b) = inl (record { due = b.due; good = Due.turn form b.good; misfit = b.misfit })
turn_either form later front rest (inr l) =
    let stands : front ++ rest ≡ l.ahead ++ (l.behind ++ rest) = ap (λ (t : List ℕ). t ++ rest) l.parts ∙ append_assoc l.ahead l.behind rest in
    inr (record {
      value = l.value;
      ahead = l.ahead;
      behind = l.behind;
      parts = l.parts;
      first = Due.turn form (subst (λ (t : List ℕ). Due (Form.whole l.value) (l.behind ++ rest) (form (next t)) l.ahead) stands l.first);
      second = l.second;
    })

ahead_either : {A B : Type 0} (form : List ℕ → Form A) (later : A → Form B) (front rest : List ℕ) → Either (form (front ++ rest)) later front rest → Either (Form.ahead form) later front rest
ahead_either form later front rest (inl b) = inl (record { due = b.due; good = Due.ahead form b.good; misfit = b.misfit })
ahead_either form later front rest (inr l) =
    let stands : front ++ rest ≡ l.ahead ++ (l.behind ++ rest) = ap (λ (t : List ℕ). t ++ rest) l.parts ∙ append_assoc l.ahead l.behind rest in
    inr (record {
      value = l.value;
      ahead = l.ahead;
      behind = l.behind;
      parts = l.parts;
      first = Due.ahead form (subst (λ (t : List ℕ). Due (Form.whole l.value) (l.behind ++ rest) (form t) l.ahead) stands l.first);
      second = l.second;
    })

pub followed_broken : {A B : Type 0} (form : Form A) (later : A → Form B) (front rest : List ℕ) → Broken (followed form later) front rest → Either form later front rest
followed_broken (Form.whole a) later front rest b = inr (record { value = a; ahead = []; behind = front; parts = refl; first = Due.nothing; second = b })
followed_broken {A} {B} (Form.byte c form) later front rest b =
    elim (stepped b.good) [
      | inl stop ↦ other_rule (stuck (Form.byte c (followed form later)) b.due rest stop.0 b.misfit)
      | inr go ↦ byte_either c form later front go.0 rest go.1 (followed_broken form later go.0 rest (record { due = b.due; good = go.2; misfit = b.misfit }))
    ]
followed_broken {A} {B} (Form.hole test form) later front rest b =
    elim (stepped b.good) [
      | inl stop ↦
          let m = stuck (Form.hole test (λ run. followed (form run) later)) b.due rest stop.0 b.misfit in
          let misfit : Misfits rest (Form.hole test form) TooManyNets = Misfits.hole test form m.0 m.1 TooManyNets m.2 m.3 m.4 in
          let here : Broken (Form.hole test form) [] rest = record { due = Form.hole test form; good = Due.nothing; misfit = misfit } in
          inl (subst (λ (t : List ℕ). Broken (Form.hole test form) t rest) (sym stop.1) here)
      | inr go ↦ hole_either test form later front go.0 go.1 rest go.2 go.3 go.5 (followed_broken (form go.0) later go.1 rest (record { due = b.due; good = go.4; misfit = b.misfit }))
    ]
followed_broken {A} {B} (Form.turn form) later front rest b =
    elim (stepped b.good) [
      | inl stop ↦ absurd (stuck (Form.turn (λ c. followed (form c) later)) b.due rest stop.0 b.misfit)
      | inr go ↦ turn_either form later front rest (followed_broken (form (next (front ++ rest))) later front rest (record { due = b.due; good = go; misfit = b.misfit }))
    ]
followed_broken {A} {B} (Form.ahead form) later front rest b =
    elim (stepped b.good) [
      | inl stop ↦ absurd (stuck (Form.ahead (λ t. followed (form t) later)) b.due rest stop.0 b.misfit)
      | inr go ↦ ahead_either form later front rest (followed_broken (form (front ++ rest)) later front rest (record { due = b.due; good = go; misfit = b.misfit }))
    ]
followed_broken {A} {B} (Form.refuse rule) later front rest b =
    let stop = stepped b.good in
    let m = stuck (Form.refuse rule) b.due rest stop.0 b.misfit in
    let form : Form A = Form.refuse rule in
    let misfit : Misfits rest form TooManyNets = subst (λ (r : Rule). Misfits rest form r) m (Misfits.refuse rule) in
    let here : Broken form [] rest = record { due = form; good = Due.nothing; misfit = misfit } in
    inl (subst (λ (t : List ℕ). Broken form t rest) (sym stop.1) here)
