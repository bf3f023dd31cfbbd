-- A form: what has to stand next in a text, and with which rule a text is refused that has something else there.
-- A form is walked from left to right. What was walked is good; the first fault stands where the next part doesn't fit.
use Rattle.std.specs.Prelude.{◌≡◌, ◌≢◌, ◌⊎◌, ℕ, Bool, true, ◌||◌, not, List, [], ◌∷◌, ◌++◌, length, Option, Some, None}
use Rattle.std.specs.List.{list_all}
use Rattle.netlist.specs.Names.{is_name_byte, is_dollar}
use Rattle.verilog_forms.specs.declared.rule.Rule.{Rule}
use Rattle.verilog_forms.specs.declared.rule.Rule.TheVariants.{OtherByte}

-- a byte of a hole: a letter, a digit, '_' or '$'
abbrev pub is_hole_byte : ℕ → Bool
is_hole_byte b = is_name_byte b || is_dollar b

-- the first byte, if there is one
abbrev pub next : List ℕ → Option ℕ
next [] = None
next (b ∷ bs) = Some b

-- What has to stand in a text, up to a value that is then known: one byte, or a hole, of which a test names the rule that it
-- breaks, if any. The next byte may turn the form one way or another, and so may the text ahead, which tells the kind of a line.
-- A place may be refused for what stands before it.
pub data Form (A : Type 0) : Type 0 where
  whole : A → Form A
  byte : ℕ → Form A → Form A
  hole : (List ℕ → Option Rule) → (List ℕ → Form A) → Form A
  turn : (Option ℕ → Form A) → Form A
  ahead : (List ℕ → Form A) → Form A
  refuse : Rule → Form A

-- the bytes, and then the form
abbrev pub fixed : {A : Type 0} → List ℕ → Form A → Form A
fixed [] form = form
fixed (b ∷ bs) form = Form.byte b (fixed bs form)

-- no further byte of a hole stands in front
abbrev pub ends_hole : List ℕ → Bool
ends_hole [] = true
ends_hole (b ∷ bs) = not (is_hole_byte b)

-- a hole and what stands behind it
pub record IsHole (run behind : List ℕ) : Type 0 where
  pub bytes : list_all is_hole_byte run ≡ true
  pub ends : ends_hole behind ≡ true

-- The bytes `front` are good, and `due` has to stand in the rest behind them.
pub data Due {A : Type 0} (due : Form A) (rest : List ℕ) : Form A → List ℕ → Type 0 where
  nothing : Due due rest due []
  byte : {form : Form A} {front : List ℕ} (b : ℕ) → Due due rest form front → Due due rest (Form.byte b form) (b ∷ front)
  hole : {front : List ℕ} (test : List ℕ → Option Rule) (form : List ℕ → Form A) (run : List ℕ) → IsHole run (front ++ rest)
      → test run ≡ None → Due due rest (form run) front
      → Due due rest (Form.hole test form) (run ++ front)
  turn : {front : List ℕ} (form : Option ℕ → Form A) → Due due rest (form (next (front ++ rest))) front
      → Due due rest (Form.turn form) front
  ahead : {front : List ℕ} (form : List ℕ → Form A) → Due due rest (form (front ++ rest)) front
      → Due due rest (Form.ahead form) front

-- a text whose first part doesn't fit, and the rule that it breaks
pub data Misfits {A : Type 0} (text : List ℕ) : Form A → Rule → Type 0 where
  byte : (b : ℕ) (form : Form A) → next text ≢ Some b → Misfits text (Form.byte b form) OtherByte
  hole : (test : List ℕ → Option Rule) (form : List ℕ → Form A) (run behind : List ℕ) (rule : Rule) → text ≡ run ++ behind
      → IsHole run behind → test run ≡ Some rule
      → Misfits text (Form.hole test form) rule
  refuse : (rule : Rule) → Misfits text (Form.refuse rule) rule

-- The text begins with what the form asks, which tells `value`; `rest` stands behind it.
pub record Reads {A : Type 0} (form : Form A) (text : List ℕ) (value : A) (rest : List ℕ) : Type 0 where
  pub front : List ℕ
  pub parts : text ≡ front ++ rest
  pub good : Due (Form.whole value) rest form front

-- The text is good up to `at`, and what stands there breaks the rule.
pub record HasFault {A : Type 0} (form : Form A) (text : List ℕ) (at : ℕ) (rule : Rule) : Type 0 where
  pub front : List ℕ
  pub rest : List ℕ
  pub parts : text ≡ front ++ rest
  pub place : length front ≡ at
  pub due : Form A
  pub good : Due due rest form front
  pub misfit : Misfits rest due rule

-- each text begins with what the form asks or has a first fault, never both, and no second value or fault
pub record IsJudged {A : Type 0} (form : Form A) : Type 0 where
  pub either : (text : List ℕ)
      → ((value : A) × (rest : List ℕ) × Reads form text value rest) ⊎ ((at : ℕ) × (rule : Rule) × HasFault form text at rule)
  pub never_both : (text : List ℕ) (value : A) (rest : List ℕ) (at : ℕ) (rule : Rule) → Reads form text value rest
      → ¬ HasFault form text at rule
  pub one_value : (text : List ℕ) (one other : A) (rest back : List ℕ) → Reads form text one rest → Reads form text other back
      → (one ≡ other) × (rest ≡ back)
  pub one_fault : (text : List ℕ) (at place : ℕ) (rule other : Rule) → HasFault form text at rule → HasFault form text place other
      → (at ≡ place) × (rule ≡ other)

-- one form, and behind it another that its value chooses
abbrev pub followed : {A B : Type 0} → Form A → (A → Form B) → Form B
followed (Form.whole a) later = later a
followed (Form.byte b form) later = Form.byte b (followed form later)
followed (Form.hole test form) later = Form.hole test (λ run. followed (form run) later)
followed (Form.turn form) later = Form.turn (λ b. followed (form b) later)
followed (Form.ahead form) later = Form.ahead (λ text. followed (form text) later)
followed (Form.refuse rule) later = Form.refuse rule
