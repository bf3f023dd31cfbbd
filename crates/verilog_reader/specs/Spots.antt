-- Where a walk through a text is on its way, and what it finds from there: at a byte, or stopped by a flaw, which then stays.
use Rattle.std.specs.Prelude.{◌≡◌, ℕ, ◌+◌, ◌≤◌, ◌==◌, cond, List, [], ◌∷◌, length, take, drop, Option, Some, None, Result, Ok, Err}
use Rattle.std.specs.List.{prefix_len}
use Rattle.verilog_forms.specs.declared.rule.Rule.{Rule}
use Rattle.verilog_forms.specs.declared.rule.Rule.TheVariants.{OtherByte}
use Rattle.verilog_reader.specs.declared.spot.Spot.{Spot}
use Rattle.verilog_reader.specs.declared.spot.Spot.TheVariants.{At, Flawed}
use Rattle.verilog_forms.specs.Forms.{Form, is_hole_byte}
use Rattle.verilog_forms.specs.Walks.{Outcome, pushed, walk}

-- what it finds from a spot on
unfoldable pub found : {A : Type 0} → Form A → List ℕ → Spot → Outcome A
found form text (At at) = pushed at (walk form (drop at text))
found form text (Flawed at rule) = Outcome.bad at rule

abbrev pub IsWithin : List ℕ → Spot → Type 0
IsWithin text (At at) = at ≤ length text
IsWithin text (Flawed at rule) = Unit {0}

-- what holds unless there is a flaw
abbrev pub IfGood : Spot → Type 0 → Type 0
IfGood (At at) p = p
IfGood (Flawed at rule) p = Unit {0}

-- the text ahead; none behind a flaw
abbrev pub ahead_of : List ℕ → Spot → List ℕ
ahead_of text (At at) = drop at text
ahead_of text (Flawed at rule) = []

-- the hole ahead
abbrev pub run_from : List ℕ → Spot → List ℕ
run_from text spot = take (prefix_len is_hole_byte (ahead_of text spot)) (ahead_of text spot)

-- the spot so many bytes on
abbrev pub moved : ℕ → Spot → Spot
moved k (At at) = At (at + k)
moved k (Flawed at rule) = Flawed at rule

-- the spot where this rule refuses what is ahead
abbrev pub refused : Rule → Spot → Spot
refused rule (At at) = Flawed at rule
refused rule (Flawed at other) = Flawed at other

-- the spot behind a fixed part
abbrev pub fixed_at : List ℕ → List ℕ → ℕ → Spot
fixed_at [] text at = At at
fixed_at (b ∷ bs) [] at = Flawed at OtherByte
fixed_at (b ∷ bs) (c ∷ text) at = cond (c == b) (fixed_at bs text (at + 1)) (Flawed at OtherByte)

abbrev pub fixed_from : List ℕ → List ℕ → Spot → Spot
fixed_from part text (At at) = fixed_at part (drop at text) at
fixed_from part text (Flawed at rule) = Flawed at rule

-- the spot behind a hole, by what its test says
abbrev pub past : Option Rule → ℕ → Spot → Spot
past None k spot = moved k spot
past (Some rule) k spot = refused rule spot

abbrev pub hole_from : (List ℕ → Option Rule) → List ℕ → Spot → Spot
hole_from test text spot = past (test (run_from text spot)) (length (run_from text spot)) spot

-- what a hole tells, or the rule that its test names
abbrev pub Judges : {T : Type 0} → (List ℕ → Option Rule) → (List ℕ → T) → List ℕ → Result T Rule → Type 0
Judges test value run (Ok v) = (test run ≡ None) × (v ≡ value run)
Judges test value run (Err rule) = test run ≡ Some rule

-- the hole ahead is taken: where that leads to, and what the hole tells if its test lets it pass
pub record Takes {T : Type 0} (test : List ℕ → Option Rule) (value : List ℕ → T) (text : List ℕ) (spot : Spot) (v : T)
    (behind : Spot) : Type 0 where
  pub leads : behind ≡ hole_from test text spot
  pub tells : IfGood behind (v ≡ value (run_from text spot))
