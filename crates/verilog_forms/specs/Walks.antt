-- What a walk through a text finds.
use Rattle.std.specs.Prelude.{ℕ, ◌+◌, ◌==◌, cond, List, [], ◌∷◌, take, drop, Option, Some, None}
use Rattle.std.specs.List.{prefix_len}
use Rattle.verilog_forms.specs.declared.rule.Rule.{Rule}
use Rattle.verilog_forms.specs.declared.rule.Rule.TheVariants.{OtherByte}
use Rattle.verilog_forms.specs.Forms.{Form, is_hole_byte, next}

pub data Outcome (A : Type 0) : Type 0 where
  good : A → List ℕ → Outcome A
  bad : ℕ → Rule → Outcome A

abbrev pub pushed : {A : Type 0} → ℕ → Outcome A → Outcome A
pushed k (Outcome.good a rest) = Outcome.good a rest
pushed k (Outcome.bad at rule) = Outcome.bad (k + at) rule

abbrev pub behind_test : {A : Type 0} → Option Rule → ℕ → Outcome A → Outcome A
behind_test None k later = pushed k later
behind_test (Some rule) k later = Outcome.bad 0 rule

-- what a walk through a text finds
abbrev pub walk : {A : Type 0} → Form A → List ℕ → Outcome A
walk (Form.whole a) text = Outcome.good a text
walk (Form.byte b form) [] = Outcome.bad 0 OtherByte
walk (Form.byte b form) (c ∷ text) = cond (c == b) (pushed 1 (walk form text)) (Outcome.bad 0 OtherByte)
walk (Form.hole test form) text =
    let k = prefix_len is_hole_byte text in behind_test (test (take k text)) k (walk (form (take k text)) (drop k text))
walk (Form.turn form) text = walk (form (next text)) text
walk (Form.ahead form) text = walk (form text) text
walk (Form.refuse rule) text = Outcome.bad 0 rule
