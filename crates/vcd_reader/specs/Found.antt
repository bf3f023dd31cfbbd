-- What is found where a part of a text has to stand. A text is read from left to right: what was read is good, and the first
-- fault stands where the next part doesn't fit.
use Rattle.std.specs.Prelude.{ℕ, Bool, ◌==◌, List, [], ◌∷◌, take, drop, Option, Some, None, if◌then◌else◌}
use Rattle.std.specs.List.{prefix_len}
use Rattle.vcd_reader.specs.declared.rule.Rule.{Rule}
use Rattle.vcd_reader.specs.declared.rule.Rule.TheVariants.{OtherByte}

-- what the part tells and the text behind it, or the text from where on a rule is broken
pub data Found (A : Type 0) : Type 0 where
  told : A → List ℕ → Found A
  broken : List ℕ → Rule → Found A

-- a part, and the one behind it, which may depend on what the first tells
abbrev pub followed : {A B : Type 0} → Found A → (A → List ℕ → Found B) → Found B
followed (Found.told a rest) next = next a rest
followed (Found.broken rest rule) next = Found.broken rest rule

-- these bytes
abbrev pub fixed : List ℕ → List ℕ → Found (Unit {0})
fixed [] text = Found.told tt text
fixed (b ∷ bs) [] = Found.broken [] OtherByte
fixed (b ∷ bs) (c ∷ text) = if c == b then fixed bs text else Found.broken (c ∷ text) OtherByte

-- what a run tells, or the rule that it breaks
abbrev pub told_or : {A : Type 0} → Rule → List ℕ → List ℕ → Option A → Found A
told_or rule text rest None = Found.broken text rule
told_or rule text rest (Some a) = Found.told a rest

-- a hole: the longest run of such bytes
unfoldable pub hole : {A : Type 0} → (ℕ → Bool) → Rule → (List ℕ → Option A) → List ℕ → Found A
hole is_of_run rule tells text =
    told_or rule text (drop (prefix_len is_of_run text) text) (tells (take (prefix_len is_of_run text) text))
