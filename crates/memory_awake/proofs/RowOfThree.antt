-- Three links in a row: between them commands are legal and joined ones alike, and answers are owed.
use Rattle.std.proofs.Common.{ℕ, zero, suc, ◌≤◌, ◌-◌, arith, le_refl}
use Rattle.memory_machines.specs.Shorter.{legal_at_before}
use Rattle.memory_machines.specs.Link.{Target, Port, AreLegalAt, AnswersAreOwed}
use Rattle.memory_machines.specs.Lines.{IsCarrier}
use Rattle.memory_machines.specs.PartRanks.{JoinsAlike}
use Rattle.memory_links.specs.Links.{HandsOnJoins}

-- what a link does with commands and answers
pub record Carries (target : Target) (up down : Port) (end : ℕ) : Type 0 where
  pub hold : ℕ
  pub carries : IsCarrier target hold up down end
  pub joins : HandsOnJoins target up down end

module _ (target : Target) (top middle low down : Port) (end : ℕ) (legal : AreLegalAt top end) (owed : AnswersAreOwed down end) (alike : JoinsAlike target top end)
    (high : Carries target top middle end) (mid : Carries target middle low end) (lowest : (c : ℕ) → JoinsAlike target low c → Carries target low down c) where
  pub record IsSettled (c : ℕ) : Type 0 where
    pub legal_middle : AreLegalAt middle c
    pub alike_middle : JoinsAlike target middle c
    pub owed_middle : AnswersAreOwed middle c
    pub legal_low : AreLegalAt low c
    pub alike_low : JoinsAlike target low c
    pub owed_low : AnswersAreOwed low c

  -- from the answers of earlier cycles
  settled_by : (c : ℕ) → c ≤ end → AnswersAreOwed middle (c - 1) → AnswersAreOwed low (c - 1) → IsSettled c
  settled_by c h middle_before low_before = record {
    legal_middle = legal_middle;
    alike_middle = alike_middle;
    owed_middle = (mid.carries.answers c h legal_middle owed_low).owed;
    legal_low = legal_low;
    alike_low = alike_low;
    owed_low = owed_low;
  }
    where
      legal_top : AreLegalAt top c
      legal_top = legal_at_before top c end h legal

      legal_middle : AreLegalAt middle c
      legal_middle = (high.carries.commands c h legal_top middle_before).legal

      alike_middle : JoinsAlike target middle c
      alike_middle = high.joins c h legal_top middle_before (λ k less. alike k (omega (arith, less, h)))

      legal_low : AreLegalAt low c
      legal_low = (mid.carries.commands c h legal_middle low_before).legal

      alike_low : JoinsAlike target low c
      alike_low = mid.joins c h legal_middle low_before alike_middle

      owed_low : AnswersAreOwed low c
      owed_low = ((lowest c alike_low).carries.answers c (le_refl c) legal_low (λ k less. owed k (omega (arith, less, h)))).owed

  pub settled : (c : ℕ) → c ≤ end → IsSettled c
  settled zero h = settled_by zero h (λ k less. absurd (omega (arith, less))) (λ k less. absurd (omega (arith, less)))
  settled (suc c) h =
      let before = settled c (omega (arith, h)) in
      settled_by (suc c) h (λ k less. before.owed_middle k (omega (arith, less))) (λ k less. before.owed_low k (omega (arith, less)))
