-- What is read is a sound right side.
use Rattle.std.proofs.Common.{◌≡◌, ℕ, ◌+◌, ◌/◌, ◌==◌, ◌<◌, ◌≤◌, ◌^◌, ◌||◌, cond, inl, inr, ◌⊎◌, Bool, true, false, not, List, [], ◌∷◌, ◌++◌, length, slice_get, Option, Some, None, refl, sym, ap, subst, ◌∙◌, arith, codes, decimal, append_assoc}
use Rattle.std.specs.Prelude.{nat_lt}
use Rattle.std.specs.List.{list_all}
use Rattle.std.specs.Char.{is_digit}
use Rattle.std.specs.Str.Parse.{AllDigits, digits_value}
use Rattle.std.proofs.lemmas.Bool.{eq-eqb, eqb-true, ltb-true, and_parts}
use Rattle.std.proofs.lemmas.List.{append-nil}
use Rattle.std.proofs.lemmas.Fmt.{decimal-digits_value}
use Rattle.std.proofs.lemmas.Str.Parse.{numerals_by_value, tells_digits}
use Rattle.std.proofs.lemmas.Option.{none-some}
use Rattle.netlist.specs.declared.line.Equation.{Equation}
use Rattle.netlist.specs.declared.line.Equation.TheVariants.{Constant, And, Or, Xor, Add, Sub, Eq, Less, Concat, Not, Any, Mux, Read}
use Rattle.netlist.specs.declared.line.Line.{Line}
use Rattle.netlist.specs.declared.line.PortLine.{PortLine}
use Rattle.netlist.specs.declared.line.Memory.{Memory}
use Rattle.av_base.specs.declared.value.Val.{Val}
use Rattle.netlist.specs.Netlists.{width_at, IsOperand, AreOperands, IsComparison, IsValue}
use Rattle.verilog_forms.proofs.Nets.{slice_get-some}
use Rattle.verilog_writer.specs.Text.{hex_digits, net_name, memory_name, infix_text, right_text, constant_text}
use Rattle.verilog_forms.specs.declared.rule.Rule.{Rule}
use Rattle.verilog_forms.specs.declared.rule.Rule.TheVariants.{Width, Spelling, NotThere, Bounds}
use Rattle.verilog_forms.specs.Forms.{next, Form, fixed, IsHole, Due, Reads}
use Rattle.verilog_forms.specs.RightSides.{unless, guarded, same_bytes, value_of, well_led, is_number, net_of, is_net, width_of, fit_any, operand, second, choice_form, sign_form, slice_form, behind_form, constant_form, is_constant, words_of, bits_of, read_form, concat_form, begun_form, right_form, Here, IsRightSide}
use Rattle.verilog_forms.specs.Spellings.{digit, all_digits, true_false, same_equal, number_spelled}
use Rattle.verilog_forms.specs.Walked.{inverted, Walked}

some_none : {X : Type 0} (rule : Rule) → Some rule ≡ None → X
some_none rule e = absurd (none-some rule (sym e))

pub unless_held : (t : Bool) (rule : Rule) (later : Option Rule) → unless t rule later ≡ None → (t ≡ true) × (later ≡ None)
unless_held true rule later e = (refl, e)
unless_held false rule later e = some_none rule e

pub net_spelled : (run : List ℕ) → is_net run ≡ true → net_of run < 2 ^ 64 → run ≡ net_name (net_of run)
net_spelled [] h small = absurd (true_false (sym h))
net_spelled (c ∷ run) h small =
    let parts = and_parts (c == 110) (is_number run) h in
    ap (λ (b : ℕ). b ∷ run) (eqb-true c 110 parts.0) ∙ ap (λ (t : List ℕ). 110 ∷ t) (number_spelled run parts.1 small)

guarded_walked : (e : Equation) (rest : List ℕ) (t : Bool) (rule : Rule) (form : Form Equation) (front : List ℕ) → Walked e rest (guarded t rule form) front → (t ≡ true) × Walked e rest form front
guarded_walked e rest true rule form front d = (refl, d)
guarded_walked e rest false rule form front d = absurd (inverted e refl d)

pub cond_walked : {A : Type 0} (e : A) (rest : List ℕ) (t : Bool) (f g : Form A) (front : List ℕ) → Walked e rest (cond t f g) front → Walked e rest f front ⊎ Walked e rest g front
cond_walked e rest true f g front d = inl d
cond_walked e rest false f g front d = inr d

pub fixed_walked : {A : Type 0} (e : A) (rest bs : List ℕ) (form : Form A) (front : List ℕ) → Walked e rest (fixed bs form) front → (later : List ℕ) × (front ≡ bs ++ later) × Walked e rest form later
fixed_walked e rest [] form front d = (front, refl, d)
fixed_walked e rest (b ∷ bs) form front d =
    let one = inverted e refl d in
    let more = fixed_walked e rest bs form one.0 one.2 in
    (more.0, one.1 ∙ ap (λ (t : List ℕ). b ∷ t) more.1, more.2)

pub record OperandRead {A : Type 0} (lines : List Line) (n : ℕ) (fits : ℕ → Bool) (form : ℕ → Form A) (e : A) (rest front : List ℕ) : Type 0 where
  pub net : ℕ
  pub later : List ℕ
  pub spelled : front ≡ net_name net ++ later
  pub is : IsOperand lines n net (width_of lines net)
  pub fit : fits (width_of lines net) ≡ true
  pub walked : Walked e rest (form net) later

width_there : (lines : List Line) (a : ℕ) → a < length lines → width_at lines a ≡ Some (width_of lines a)
width_there lines a h = let found = slice_get-some lines a h in rw found.1 refl

pub operand_walked : {A : Type 0} (lines : List Line) (n : ℕ) (fits : ℕ → Bool) (form : ℕ → Form A) (e : A) (rest front : List ℕ) → n < 2 ^ 64 → n ≤ length lines → Walked e rest (operand lines n fits form) front → OperandRead lines n fits form e rest front
operand_walked lines n fits form e rest front few room d =
    let (run, later, parts, none, walked, ends) = inverted e refl d in
    let spelled = unless_held (is_net run) Spelling _ none in
    let below = unless_held (nat_lt (net_of run) n) NotThere _ spelled.1 in
    let fit = unless_held (fits (width_of lines (net_of run))) Width None below.1 in
    let low : net_of run < n = ltb-true (net_of run) n below.0 in
    record {
      net = net_of run;
      later = later;
      spelled = parts ∙ ap (λ (t : List ℕ). t ++ later) (net_spelled run spelled.0 (omega (arith, low, few)));
      is = record { below = low; width = width_there lines (net_of run) (omega (arith, low, room)) };
      fit = fit.0;
      walked = walked;
    }

-- a net on the right, of a known width
wide : (lines : List Line) (n a w : ℕ) → IsOperand lines n a (width_of lines a) → (width_of lines a == w) ≡ true → IsOperand lines n a w
wide lines n a w o e = subst (λ (v : ℕ). IsOperand lines n a v) (eqb-true (width_of lines a) w e) o

pub record Meaning (ports : List PortLine) (memories : List Memory) (lines : List Line) (n w : ℕ) (e : Equation) (front : List ℕ) : Type 0 where
  pub spelled : front ≡ right_text ports e
  pub sound : IsRightSide ports memories lines n w e

abbrev Side : List PortLine → List Memory → List Line → ℕ → ℕ → Equation → List ℕ → Type 0
Side ports memories lines n w e front = Meaning ports memories lines n w e front

ended : (front later : List ℕ) (a : ℕ) → front ≡ net_name a ++ later → later ≡ [] → front ≡ net_name a
ended front later a e f = e ∙ ap (λ (t : List ℕ). net_name a ++ t) f ∙ append-nil (net_name a)

-- an operator and its second operand
second_walked : (lines : List Line) (n : ℕ) (op : List ℕ) (fits : ℕ → Bool) (make : ℕ → Equation) (e : Equation) (rest front : List ℕ) → n < 2 ^ 64 → n ≤ length lines → Walked e rest (second lines n op fits make) front
    → (b : ℕ) × (front ≡ op ++ net_name b) × IsOperand lines n b (width_of lines b) × (fits (width_of lines b) ≡ true) × (make b ≡ e)
second_walked lines n op fits make e rest front few room d =
    let sign = fixed_walked e rest op _ front d in
    let o = operand_walked lines n fits (λ m. Form.whole (make m)) e rest sign.0 few room sign.2 in
    let last = inverted e refl o.walked in
    (o.net, sign.1 ∙ ap (λ (t : List ℕ). op ++ t) (ended sign.0 o.later o.net o.spelled last.1), o.is, o.fit, last.0)

not_walked : (ports : List PortLine) (memories : List Memory) (lines : List Line) (n w : ℕ) (e : Equation) (rest front : List ℕ) → Here memories lines n w
    → Walked e rest (Form.byte 126 (operand lines n (λ v. v == w) (λ a. Form.whole (Not a)))) front → Side ports memories lines n w e front
not_walked ports memories lines n w e rest front at d =
    let s = second_walked lines n (126 ∷ []) (λ v. v == w) Not e rest front at.few at.room d in
    subst (λ (x : Equation). Side ports memories lines n w x front) s.4 (record { spelled = s.1; sound = record { sound = wide lines n s.0 w s.2 s.3; no_input = refl; no_register = refl } })

any_walked : (ports : List PortLine) (memories : List Memory) (lines : List Line) (n w : ℕ) (e : Equation) (rest front : List ℕ) → Here memories lines n w
    → Walked e rest (guarded (w == 1) Width (Form.byte 124 (operand lines n fit_any (λ a. Form.whole (Any a))))) front → Side ports memories lines n w e front
any_walked ports memories lines n w e rest front at d =
    let g = guarded_walked e rest (w == 1) Width _ front d in
    let s = second_walked lines n (124 ∷ []) fit_any Any e rest front at.few at.room g.1 in
    subst (λ (x : Equation). Side ports memories lines n w x front) s.4 (record { spelled = s.1; sound = record { sound = record { width = width_of lines s.0; operand = s.2; one_bit = eqb-true w 1 g.0 }; no_input = refl; no_register = refl } })

together : (a b c d e : List ℕ) → a ++ b ++ c ++ d ++ e ≡ a ++ (b ++ (c ++ (d ++ e)))
together a b c d e = simp append_assoc

concat_walked : (ports : List PortLine) (memories : List Memory) (lines : List Line) (n w : ℕ) (e : Equation) (rest front : List ℕ) → Here memories lines n w → Walked e rest (concat_form lines n w) front → Side ports memories lines n w e front
concat_walked ports memories lines n w e rest front at d =
    let opened = inverted e refl d in
    let a = operand_walked lines n fit_any (λ x. fixed (codes ", ") (operand lines n (λ v. width_of lines x + v == w) (λ b. Form.byte 125 (Form.whole (Concat x b))))) e rest opened.0 at.few at.room opened.2 in
    let comma = fixed_walked e rest (codes ", ") _ a.later a.walked in
    let b = operand_walked lines n (λ v. width_of lines a.net + v == w) (λ m. Form.byte 125 (Form.whole (Concat a.net m))) e rest comma.0 at.few at.room comma.2 in
    let close = inverted e refl b.walked in
    let last = inverted e refl close.2 in
    let text : front ≡ 123 ∷ (net_name a.net ++ (codes ", " ++ (net_name b.net ++ (125 ∷ [])))) =
    opened.1 ∙ ap (λ (t : List ℕ). 123 ∷ t) (a.spelled ∙ ap (λ (t : List ℕ). net_name a.net ++ t) (comma.1 ∙ ap (λ (t : List ℕ). codes ", " ++ t) (b.spelled ∙ ap (λ (t : List ℕ). net_name b.net ++ t) (close.1 ∙ ap (λ (t : List ℕ). 125 ∷ t) last.1)))) in
    subst (λ (x : Equation). Side ports memories lines n w x front) last.0 (record {
      spelled = text ∙ sym (together (codes "{") (net_name a.net) (codes ", ") (net_name b.net) (codes "}"));
      sound = record { sound = record { high_width = width_of lines a.net; low_width = width_of lines b.net; high = a.is; low = b.is; sum = sym (eqb-true _ w b.fit) }; no_input = refl; no_register = refl };
    })

-- from an operator sign on, behind net a and a blank

pub record Sign (ports : List PortLine) (memories : List Memory) (lines : List Line) (n w a : ℕ) (e : Equation) (front : List ℕ) : Type 0 where
  pub op : List ℕ
  pub b : ℕ
  pub spelled : front ≡ op ++ net_name b
  pub whole : net_name a ++ (32 ∷ (op ++ net_name b)) ≡ right_text ports e
  pub sound : IsRightSide ports memories lines n w e

infix_whole : (a o b : List ℕ) → a ++ (32 ∷ ((o ++ (32 ∷ [])) ++ b)) ≡ a ++ (32 ∷ []) ++ o ++ (32 ∷ []) ++ b
infix_whole a o b = simp append_assoc

-- an operator between two nets of the net's width
same_walked : (ports : List PortLine) (memories : List Memory) (lines : List Line) (n w a s : ℕ) (make : ℕ → Equation) (e : Equation) (rest front : List ℕ) → Here memories lines n w → IsOperand lines n a (width_of lines a)
    → ((b : ℕ) → AreOperands lines n a b w → IsRightSide ports memories lines n w (make b)) → ((b : ℕ) → right_text ports (make b) ≡ infix_text a (s ∷ []) b)
    → Walked e rest (guarded (width_of lines a == w) Width (second lines n (s ∷ codes " ") (λ u. u == w) make)) front → Sign ports memories lines n w a e front
same_walked ports memories lines n w a s make e rest front at o sound text d =
    let g = guarded_walked e rest (width_of lines a == w) Width _ front d in
    let b = second_walked lines n (s ∷ codes " ") (λ u. u == w) make e rest front at.few at.room g.1 in
    subst (λ (x : Equation). Sign ports memories lines n w a x front) b.4 (record {
      op = s ∷ codes " ";
      b = b.0;
      spelled = b.1;
      whole = infix_whole (net_name a) (s ∷ []) (net_name b.0) ∙ sym (text b.0);
      sound = sound b.0 (record { left = wide lines n a w o g.0; right = wide lines n b.0 w b.2 b.3 });
    })

-- and between two nets that are compared
compared_walked : (ports : List PortLine) (memories : List Memory) (lines : List Line) (n w a s : ℕ) (op : List ℕ) (make : ℕ → Equation) (e : Equation) (rest front : List ℕ) → Here memories lines n w → IsOperand lines n a (width_of lines a)
    → ((b : ℕ) → IsComparison lines n w a b → IsRightSide ports memories lines n w (make b)) → ((b : ℕ) → right_text ports (make b) ≡ infix_text a (s ∷ op) b)
    → Walked e rest (guarded (w == 1) Width (second lines n (s ∷ (op ++ codes " ")) (λ u. u == width_of lines a) make)) front → Sign ports memories lines n w a e front
compared_walked ports memories lines n w a s op make e rest front at o sound text d =
    let g = guarded_walked e rest (w == 1) Width _ front d in
    let b = second_walked lines n (s ∷ (op ++ codes " ")) (λ u. u == width_of lines a) make e rest front at.few at.room g.1 in
    subst (λ (x : Equation). Sign ports memories lines n w a x front) b.4 (record {
      op = s ∷ (op ++ codes " ");
      b = b.0;
      spelled = b.1;
      whole = infix_whole (net_name a) (s ∷ op) (net_name b.0) ∙ sym (text b.0);
      sound = sound b.0 (record { width = width_of lines a; operands = record { left = o; right = wide lines n b.0 (width_of lines a) b.2 b.3 }; one_bit = eqb-true w 1 g.0 });
    })

choice_whole : (s q a c b : List ℕ) → s ++ (32 ∷ ((q ++ (a ++ c)) ++ b)) ≡ s ++ (32 ∷ q) ++ a ++ c ++ b
choice_whole s q a c b = simp append_assoc

choice_walked : (ports : List PortLine) (memories : List Memory) (lines : List Line) (n w s : ℕ) (e : Equation) (rest front : List ℕ) → Here memories lines n w → IsOperand lines n s (width_of lines s)
    → Walked e rest (guarded (width_of lines s == 1) Width (choice_form lines n w s)) front → Sign ports memories lines n w s e front
choice_walked ports memories lines n w s e rest front at o d =
    let g = guarded_walked e rest (width_of lines s == 1) Width _ front d in
    let q = fixed_walked e rest (codes "? ") _ front g.1 in
    let a = operand_walked lines n (λ v. v == w) (λ x. fixed (codes " : ") (operand lines n (λ v. v == w) (λ b. Form.whole (Mux s x b)))) e rest q.0 at.few at.room q.2 in
    let b = second_walked lines n (codes " : ") (λ v. v == w) (Mux s a.net) e rest a.later at.few at.room a.walked in
    let op = codes "? " ++ (net_name a.net ++ codes " : ") in
    let text : front ≡ codes "? " ++ (net_name a.net ++ (codes " : " ++ net_name b.0)) = q.1 ∙ ap (λ (t : List ℕ). codes "? " ++ t) (a.spelled ∙ ap (λ (t : List ℕ). net_name a.net ++ t) b.1) in
    let grouped : codes "? " ++ (net_name a.net ++ (codes " : " ++ net_name b.0)) ≡ op ++ net_name b.0 = ap (λ (t : List ℕ). codes "? " ++ t) (sym (append_assoc (net_name a.net) (codes " : ") (net_name b.0))) in
    subst (λ (x : Equation). Sign ports memories lines n w s x front) b.4 (record {
      op = op;
      b = b.0;
      spelled = text ∙ grouped;
      whole = choice_whole (net_name s) (codes "? ") (net_name a.net) (codes " : ") (net_name b.0);
      sound = record { sound = record { test = wide lines n s 1 o g.0; branches = record { left = wide lines n a.net w a.is a.fit; right = wide lines n b.0 w b.2 b.3 } }; no_input = refl; no_register = refl };
    })

sign_walked : (ports : List PortLine) (memories : List Memory) (lines : List Line) (n w a : ℕ) (e : Equation) (rest front : List ℕ) (o : Option ℕ) → Here memories lines n w → IsOperand lines n a (width_of lines a)
    → Walked e rest (sign_form lines n w a o) front → Sign ports memories lines n w a e front
sign_walked ports memories lines n w a e rest front None at is d = absurd (inverted e refl d)
sign_walked ports memories lines n w a e rest front (Some s) at is d =
    elim (cond_walked e rest (s == 38) _ _ front d) [
      | inl x ↦ same_walked ports memories lines n w a 38 (And a) e rest front at is (λ b h. (record { sound = h; no_input = refl; no_register = refl })) (λ b. refl) x
      | inr d ↦ elim (cond_walked e rest (s == 124) _ _ front d) [
        | inl x ↦ same_walked ports memories lines n w a 124 (Or a) e rest front at is (λ b h. (record { sound = h; no_input = refl; no_register = refl })) (λ b. refl) x
        | inr d ↦ elim (cond_walked e rest (s == 94) _ _ front d) [
          | inl x ↦ same_walked ports memories lines n w a 94 (Xor a) e rest front at is (λ b h. (record { sound = h; no_input = refl; no_register = refl })) (λ b. refl) x
          | inr d ↦ elim (cond_walked e rest (s == 43) _ _ front d) [
            | inl x ↦ same_walked ports memories lines n w a 43 (Add a) e rest front at is (λ b h. (record { sound = h; no_input = refl; no_register = refl })) (λ b. refl) x
            | inr d ↦ elim (cond_walked e rest (s == 45) _ _ front d) [
              | inl x ↦ same_walked ports memories lines n w a 45 (Sub a) e rest front at is (λ b h. (record { sound = h; no_input = refl; no_register = refl })) (λ b. refl) x
              | inr d ↦ elim (cond_walked e rest (s == 61) _ _ front d) [
                | inl x ↦ compared_walked ports memories lines n w a 61 (61 ∷ []) (Eq a) e rest front at is (λ b h. (record { sound = h; no_input = refl; no_register = refl })) (λ b. refl) x
                | inr d ↦ elim (cond_walked e rest (s == 60) _ _ front d) [
                  | inl x ↦ compared_walked ports memories lines n w a 60 [] (Less a) e rest front at is (λ b h. (record { sound = h; no_input = refl; no_register = refl })) (λ b. refl) x
                  | inr d ↦ elim (cond_walked e rest (s == 63) _ _ front d) [
                    | inl x ↦ choice_walked ports memories lines n w a e rest front at is x
                    | inr d ↦ absurd (inverted e refl d)
                  ]
                ]
              ]
            ]
          ]
        ]
      ]
    ]

-- behind a first operand: the rest of the right side

pub record Tail (ports : List PortLine) (memories : List Memory) (lines : List Line) (n w a : ℕ) (e : Equation) (front : List ℕ) : Type 0 where
  pub whole : net_name a ++ front ≡ right_text ports e
  pub sound : IsRightSide ports memories lines n w e

pub number_held : (run : List ℕ) (t : ℕ → Bool) (rule : Rule) (later : ℕ → Option Rule) → (t (value_of run) ≡ true → value_of run < 2 ^ 64) → unless (is_number run) Spelling (unless (t (value_of run)) rule (later (value_of run))) ≡ None
    → (run ≡ decimal (value_of run)) × (t (value_of run) ≡ true) × (later (value_of run) ≡ None)
number_held run t rule later few none =
    let spelled = unless_held (is_number run) Spelling _ none in
    let fits = unless_held (t (value_of run)) rule _ spelled.1 in
    (number_spelled run spelled.0 (few fits.0), fits.0, fits.1)

slice_whole : (a o h c l e : List ℕ) → a ++ (o ++ (h ++ (c ++ (l ++ e)))) ≡ a ++ o ++ h ++ c ++ l ++ e
slice_whole a o h c l e = simp append_assoc

slice_walked : (ports : List PortLine) (memories : List Memory) (lines : List Line) (n w a : ℕ) (e : Equation) (rest front : List ℕ) → Here memories lines n w → IsOperand lines n a (width_of lines a)
    → Walked e rest (slice_form lines w a) front → Tail ports memories lines n w a e front
slice_walked ports memories lines n w a e rest front at o d =
    let some = at.some_bit in
    let narrow = at.small a (width_of lines a) o.width in
    let opened = inverted e refl d in
    let (high_run, high_later, high_parts, high_none, high_walked, high_ends) = inverted e refl opened.2 in
    let high = number_held high_run (λ m. nat_lt m (width_of lines a)) Bounds (λ m. None) (λ t. omega (arith, ltb-true (value_of high_run) (width_of lines a) t, narrow)) high_none in
    let colon = inverted e refl high_walked in
    let (low_run, low_later, low_parts, low_none, low_walked, low_ends) = inverted e refl colon.2 in
    let inside : value_of high_run < width_of lines a = ltb-true (value_of high_run) (width_of lines a) high.1 in
    let low = number_held low_run (λ m. m + w == value_of high_run + 1) Bounds (λ m. None) (λ t. omega (arith, eqb-true (value_of low_run + w) (value_of high_run + 1) t, inside, narrow)) low_none in
    let closed = inverted e refl low_walked in
    let last = inverted e refl closed.2 in
    let h = value_of high_run in
    let l = value_of low_run in
    let count : l + w ≡ h + 1 = eqb-true (l + w) (h + 1) low.1 in
    let end : low_later ≡ 93 ∷ [] = closed.1 ∙ ap (λ (t : List ℕ). 93 ∷ t) last.1 in
    let lower : colon.0 ≡ decimal l ++ (93 ∷ []) = low_parts ∙ ap (λ (t : List ℕ). t ++ low_later) low.0 ∙ ap (λ (t : List ℕ). decimal l ++ t) end in
    let upper : opened.0 ≡ decimal h ++ (58 ∷ (decimal l ++ (93 ∷ []))) = high_parts ∙ ap (λ (t : List ℕ). t ++ high_later) high.0 ∙ ap (λ (t : List ℕ). decimal h ++ t) (colon.1 ∙ ap (λ (t : List ℕ). 58 ∷ t) lower) in
    let text : front ≡ 91 ∷ (decimal h ++ (58 ∷ (decimal l ++ (93 ∷ [])))) = opened.1 ∙ ap (λ (t : List ℕ). 91 ∷ t) upper in
    subst (λ (x : Equation). Tail ports memories lines n w a x front) last.0 (record {
      whole = ap (λ (t : List ℕ). net_name a ++ t) text ∙ slice_whole (net_name a) (codes "[") (decimal h) (codes ":") (decimal l) (codes "]");
      sound = record { sound = record { width = width_of lines a; operand = o; order = omega (arith, count, some); inside = inside; bits = omega (arith, count, some) }; no_input = refl; no_register = refl };
    })

behind_walked : (ports : List PortLine) (memories : List Memory) (lines : List Line) (n w a : ℕ) (e : Equation) (rest front : List ℕ) (o : Option ℕ) → Here memories lines n w → IsOperand lines n a (width_of lines a)
    → Walked e rest (behind_form lines n w a o) front → Tail ports memories lines n w a e front
behind_walked ports memories lines n w a e rest front None at is d = absurd (inverted e refl d)
behind_walked ports memories lines n w a e rest front (Some b) at is d =
    elim (cond_walked e rest (b == 91) _ _ front d) [
      | inl x ↦ slice_walked ports memories lines n w a e rest front at is x
      | inr d ↦
          let blank = inverted e refl d in
          let turned = inverted e refl blank.2 in
          let sign = sign_walked ports memories lines n w a e rest blank.0 (next (blank.0 ++ rest)) at is turned in
          record { whole = ap (λ (t : List ℕ). net_name a ++ t) (blank.1 ∙ ap (λ (t : List ℕ). 32 ∷ t) sign.spelled) ∙ sign.whole; sound = sign.sound }
    ]

net_walked : (ports : List PortLine) (memories : List Memory) (lines : List Line) (n w : ℕ) (e : Equation) (rest front : List ℕ) → Here memories lines n w
    → Walked e rest (operand lines n fit_any (λ a. Form.turn (behind_form lines n w a))) front → Side ports memories lines n w e front
net_walked ports memories lines n w e rest front at d =
    let a = operand_walked lines n fit_any (λ x. Form.turn (behind_form lines n w x)) e rest front at.few at.room d in
    let tail = behind_walked ports memories lines n w a.net e rest a.later (next (a.later ++ rest)) at a.is (inverted e refl a.walked) in
    record { spelled = a.spelled ∙ tail.whole; sound = tail.sound }

read_whole : (m o a e : List ℕ) → m ++ (o ++ (a ++ e)) ≡ m ++ o ++ a ++ e
read_whole m o a e = simp append_assoc

abbrev address_form : List Memory → List Line → ℕ → ℕ → Form Equation
address_form memories lines n m = Form.byte 91 (operand lines n (λ v. v == bits_of (slice_get memories m)) (λ a. Form.byte 93 (Form.whole (Read m a))))

word_walked : (ports : List PortLine) (memories : List Memory) (lines : List Line) (n w : ℕ) (e : Equation) (rest front : List ℕ) → Here memories lines n w → Walked e rest (read_form memories lines n w) front → Side ports memories lines n w e front
word_walked ports memories lines n w e rest front at d =
    let begun = inverted e refl d in
    let (run, later, parts, none, walked, ends) = inverted e refl begun.2 in
    let number = number_held run (λ k. nat_lt k (length memories)) NotThere (λ k. unless (words_of (slice_get memories k) == w) Width None) (λ t. omega (arith, ltb-true (value_of run) (length memories) t, at.few_memories)) none in
    let m = value_of run in
    let words = unless_held (words_of (slice_get memories m) == w) Width None number.2 in
    let there = slice_get-some memories m (ltb-true m (length memories) number.1) in
    let opened = inverted e refl walked in
    let a = operand_walked lines n (λ v. v == bits_of (slice_get memories m)) (λ k. Form.byte 93 (Form.whole (Read m k))) e rest opened.0 at.few at.room opened.2 in
    let closed = inverted e refl a.walked in
    let last = inverted e refl closed.2 in
    let text : front ≡ 109 ∷ (decimal m ++ (91 ∷ (net_name a.net ++ (93 ∷ [])))) =
    begun.1 ∙ ap (λ (t : List ℕ). 109 ∷ t) (parts ∙ ap (λ (t : List ℕ). t ++ later) number.0 ∙ ap (λ (t : List ℕ). decimal m ++ t) (opened.1 ∙ ap (λ (t : List ℕ). 91 ∷ t)
    (a.spelled ∙ ap (λ (t : List ℕ). net_name a.net ++ t) (closed.1 ∙ ap (λ (t : List ℕ). 93 ∷ t) last.1)))) in
    let width : there.0.width ≡ w = sym (ap words_of there.1) ∙ eqb-true _ w words.0 in
    let bits : bits_of (slice_get memories m) ≡ there.0.address_bits = ap bits_of there.1 in
    subst (λ (x : Equation). Side ports memories lines n w x front) last.0 (record {
      spelled = text ∙ read_whole (memory_name m) (codes "[") (net_name a.net) (codes "]");
      sound = record { sound = record { memory = there.0; is = there.1; width = width; address = subst (λ (v : ℕ). IsOperand lines n a.net v) (eqb-true (width_of lines a.net) _ a.fit ∙ bits) a.is }; no_input = refl; no_register = refl };
    })

constant_whole : (d h x : List ℕ) → d ++ (h ++ (x ++ [])) ≡ d ++ h ++ x
constant_whole d h x = simp (append_assoc, append-nil)

pub record ConstantRead (w : ℕ) (e : Equation) (front : List ℕ) : Type 0 where
  pub value : Val
  pub is : e ≡ Constant value
  pub spelled : front ≡ constant_text value.width value.bits
  pub good : IsValue value w

pub constant_read_as : (w : ℕ) (e : Equation) (rest front : List ℕ) → 1 ≤ w → w ≤ 128 → Walked e rest (constant_form w) front → ConstantRead w e front
constant_read_as w e rest front some small d =
    let (width_run, later, parts, none, walked, ends) = inverted e refl d in
    let width = number_held width_run (λ k. k == w) Width (λ k. None) (λ t. omega (arith, eqb-true (value_of width_run) w t, small)) none in
    let is_w : value_of width_run ≡ w = eqb-true (value_of width_run) w width.1 in
    let mark = fixed_walked e rest (codes "'h") (Form.hole (λ run. unless (is_constant w run) Spelling None) (λ run. Form.whole (Constant (record { width = w; bits = digits_value 16 run })))) later walked in
    let (run, after, run_parts, run_none, run_walked, run_ends) = inverted e refl mark.2 in
    let held = unless_held (is_constant w run) Spelling None run_none in
    let bits = digits_value 16 run in
    let hex = hex_digits ((w + 3) / 4) bits in
    let both = and_parts (same_bytes run hex) (nat_lt bits (2 ^ w)) held.0 in
    let last = inverted e refl run_walked in
    let text : front ≡ decimal w ++ (codes "'h" ++ (hex ++ [])) =
    parts ∙ ap (λ (t : List ℕ). t ++ later) (width.0 ∙ ap (λ (k : ℕ). decimal k) is_w) ∙ ap (λ (t : List ℕ). decimal w ++ t) (mark.1 ∙ ap (λ (t : List ℕ). codes "'h" ++ t)
    (run_parts ∙ ap (λ (t : List ℕ). t ++ after) (same_equal run hex both.0) ∙ ap (λ (t : List ℕ). hex ++ t) last.1)) in
    record {
      value = record { width = w; bits = bits };
      is = sym last.0;
      spelled = text ∙ constant_whole (decimal w) (codes "'h") hex;
      good = record { word = record { some_bit = some; small = small; fits = ltb-true bits (2 ^ w) both.1 }; width = refl };
    }

constant_walked : (ports : List PortLine) (memories : List Memory) (lines : List Line) (n w : ℕ) (e : Equation) (rest front : List ℕ) → 1 ≤ w → w ≤ 128 → Walked e rest (constant_form w) front → Side ports memories lines n w e front
constant_walked ports memories lines n w e rest front some small d =
    let c = constant_read_as w e rest front some small d in
    subst (λ (x : Equation). Side ports memories lines n w x front) (sym c.is) (record { spelled = c.spelled; sound = record { sound = c.good; no_input = refl; no_register = refl } })

pub begun_walked : (ports : List PortLine) (memories : List Memory) (lines : List Line) (n w : ℕ) (e : Equation) (rest front : List ℕ) (o : Option ℕ) → Here memories lines n w
    → Walked e rest (begun_form memories lines n w o) front → Side ports memories lines n w e front
begun_walked ports memories lines n w e rest front None at d = absurd (inverted e refl d)
begun_walked ports memories lines n w e rest front (Some b) at d =
    elim (cond_walked e rest (is_digit b 10) _ _ front d) [
      | inl x ↦ constant_walked ports memories lines n w e rest front at.some_bit at.bits x
      | inr d ↦ elim (cond_walked e rest (b == 126) _ _ front d) [
        | inl x ↦ not_walked ports memories lines n w e rest front at x
        | inr d ↦ elim (cond_walked e rest (b == 124) _ _ front d) [
          | inl x ↦ any_walked ports memories lines n w e rest front at x
          | inr d ↦ elim (cond_walked e rest (b == 123) _ _ front d) [
            | inl x ↦ concat_walked ports memories lines n w e rest front at x
            | inr d ↦ elim (cond_walked e rest (b == 110) _ _ front d) [
              | inl x ↦ net_walked ports memories lines n w e rest front at x
              | inr d ↦ elim (cond_walked e rest (b == 109) _ _ front d) [
                | inl x ↦ word_walked ports memories lines n w e rest front at x
                | inr d ↦ absurd (inverted e refl d)
              ]
            ]
          ]
        ]
      ]
    ]

pub right_sound : (ports : List PortLine) (memories : List Memory) (lines : List Line) (n w : ℕ) (e : Equation) (text rest : List ℕ) → Here memories lines n w
    → Reads (right_form memories lines n w) text e rest → (text ≡ right_text ports e ++ rest) × IsRightSide ports memories lines n w e
right_sound ports memories lines n w e text rest at r =
    let m = begun_walked ports memories lines n w e rest r.front (next (r.front ++ rest)) at (inverted e refl r.good) in
    (r.parts ∙ ap (λ (t : List ℕ). t ++ rest) m.spelled, m.sound)
