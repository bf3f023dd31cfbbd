-- Laws of histories, of legality and of links.
use Rattle.std.proofs.Common.{ℕ, zero, suc, ◌≤◌, ◌≡◌, ◌-◌, arith, refl, nat_eq, true, eq-eqb}
use Rattle.memory_machines.specs.Shorter.{legal_at_before}
use Rattle.memory_machines.specs.Link.{Target, Port, KeepsLinkLaw, AreLegalAt, AnswersAreOwed}

pub same_number : (n : ℕ) → nat_eq n n ≡ true
same_number n = eq-eqb n n refl

-- two parts in a row: the upper one gives legal commands on, and the lower one answers what is owed
module _ (up middle down : Port) (end : ℕ)
    (legal_on : (c : ℕ) → c ≤ end → AreLegalAt up c → AnswersAreOwed middle (c - 1) → AreLegalAt middle c)
    (owed_back : (c : ℕ) → c ≤ end → AreLegalAt middle c → AnswersAreOwed down c → AnswersAreOwed middle c) where
  -- the commands between them are legal
  pub legal_between : (c : ℕ) → c ≤ end → AreLegalAt up c → AnswersAreOwed down (c - 1) → AreLegalAt middle c
  legal_between zero h legal owed = legal_on zero h legal (λ c low. absurd (omega arith))
  legal_between (suc c) h legal owed =
      let earlier : AnswersAreOwed down c = λ k low. owed k (omega arith) in
      let legal_earlier : AreLegalAt middle c = legal_between c (omega arith) (legal_at_before up c (suc c) (omega arith) legal) (λ k low. earlier k (omega arith)) in
      let owed_there : AnswersAreOwed middle c = owed_back c (omega arith) legal_earlier earlier in
      legal_on (suc c) h legal (λ k low. owed_there k (omega arith))

  -- and the answers there are owed
  pub owed_between : (c : ℕ) → c ≤ end → AreLegalAt up c → AnswersAreOwed down c → AnswersAreOwed middle c
  owed_between c h legal owed = owed_back c h (legal_between c h legal (λ k low. owed k (omega arith))) owed

-- two links in a row
module _ (target : Target) (first_hold second_hold : ℕ) (up middle down : Port) (end : ℕ)
    (first : KeepsLinkLaw target first_hold up middle end) (second : KeepsLinkLaw target second_hold middle down end) where
  pub middle_legal : (c : ℕ) → c ≤ end → AreLegalAt up c → AnswersAreOwed down (c - 1) → AreLegalAt middle c
  middle_legal = legal_between up middle down end (λ c h legal owed. (first.commands c h legal owed).legal) (λ c h legal owed. (second.answers c h legal owed).owed)

  pub middle_owed : (c : ℕ) → c ≤ end → AreLegalAt up c → AnswersAreOwed down c → AnswersAreOwed middle c
  middle_owed = owed_between up middle down end (λ c h legal owed. (first.commands c h legal owed).legal) (λ c h legal owed. (second.answers c h legal owed).owed)

  -- and answer what is owed
  pub chain_owed : (c : ℕ) → c ≤ end → AreLegalAt up c → AnswersAreOwed down c → AnswersAreOwed up c
  chain_owed c h legal owed = (first.answers c h legal (middle_owed c h legal owed)).owed
