-- Two links in a row, each of which keeps its law where joined commands above it are alike, keep it as one link there.
use Rattle.std.proofs.Common.{◌≡◌, ℕ, zero, suc, ◌≤◌, ◌-◌, sym, subst, arith, le_refl}
use Rattle.memory_machines.specs.Link.{Target, Port, AreLegalAt, AnswersAreOwed}
use Rattle.memory_machines.specs.PartRanks.{JoinsAlike}
use Rattle.memory_machines.specs.Shorter.{legal_at_before}
use Rattle.memory_links.specs.Links.{LinkForm, IsLink, FormsFit, chain_form}

-- what a link keeps in each cycle in which its commands are legal and its answers owed, it keeps
by_cycles : (form : LinkForm) (up down : Port) (end : ℕ) → JoinsAlike form.target up end → ((c : ℕ) → c ≤ end → AreLegalAt up c → AnswersAreOwed down (c - 1) → IsLink form up down c) → IsLink form up down end
by_cycles form up down end alike each = record {
  row = record {
    carries = record {
      commands = λ c low legal owed. (each c low legal owed).row.carries.commands c (le_refl c) legal owed;
      answers = λ c low legal owed. (each c low legal (earlier c owed)).row.carries.answers c (le_refl c) legal owed;
    };
    codes = λ c low legal owed. (each c low legal (earlier c owed)).row.codes c (le_refl c) legal owed;
    hands_on = λ c low legal owed. (each c low legal owed).row.hands_on c (le_refl c) legal owed;
  };
  words = λ is c low legal owed. (each c low legal (earlier c owed)).words is c (le_refl c) legal owed;
  lanes = λ c low legal owed. (each c low legal owed).lanes c (le_refl c) legal owed;
  joins = λ c low legal owed. (each c low legal owed).joins c (le_refl c) legal owed;
  quiet = λ c low legal owed. (each c low legal (earlier c owed)).quiet c (le_refl c) legal owed;
  goes_on = λ legal owed. (each end (le_refl end) legal (earlier end owed)).goes_on legal owed;
} where
  earlier : (c : ℕ) → AnswersAreOwed down c → AnswersAreOwed down (c - 1)
  earlier c owed k less = owed k (omega (arith, less))

module _ (first second : LinkForm) (up middle down : Port) (fit : FormsFit first second up middle down)
    (chain : (first second : LinkForm) (up middle down : Port) (end : ℕ) → FormsFit first second up middle down → IsLink first up middle end → IsLink second middle down end → IsLink (chain_form first second) up down end)
    (limit : ℕ) (one : (end : ℕ) → end ≤ limit → JoinsAlike first.target up end → IsLink first up middle end) (two : (end : ℕ) → end ≤ limit → JoinsAlike second.target middle end → IsLink second middle down end) where
  -- between the two commands are legal, joined ones alike, and answers owed
  record IsSettled (c : ℕ) : Type 0 where
    legal : AreLegalAt middle c
    alike : JoinsAlike second.target middle c
    owed : AnswersAreOwed middle (c - 1)

  settled_by : (c : ℕ) → c ≤ limit → JoinsAlike first.target up c → AreLegalAt up c → AnswersAreOwed middle (c - 1) → IsSettled c
  settled_by c few alike legal owed = record {
    legal = ((one c few alike).row.carries.commands c (le_refl c) legal owed).legal;
    alike = subst (λ (t : Target). JoinsAlike t middle c) fit.target ((one c few alike).joins c (le_refl c) legal owed alike);
    owed = owed;
  }

  settled : (c : ℕ) → c ≤ limit → JoinsAlike first.target up c → AreLegalAt up c → AnswersAreOwed down (c - 1) → IsSettled c
  settled zero few alike legal owed = settled_by zero few alike legal (λ k less. absurd (omega (arith, less)))
  settled (suc c) few alike legal owed =
      let back : suc c - 1 ≡ c = omega arith in
      let owed_now : AnswersAreOwed down c = subst (AnswersAreOwed down) back owed in
      let fewer : c ≤ limit = omega (arith, few) in
      let before = settled c fewer (λ k less. alike k (omega (arith, less))) (legal_at_before up c (suc c) (omega arith) legal) (λ k less. owed_now k (omega (arith, less))) in
      settled_by (suc c) few alike legal (subst (AnswersAreOwed middle) (sym back) ((two c fewer before.alike).row.carries.answers c (le_refl c) before.legal owed_now).owed)

  pub alike_chain : (end : ℕ) → end ≤ limit → JoinsAlike first.target up end → IsLink (chain_form first second) up down end
  alike_chain end few alike =
      by_cycles (chain_form first second) up down end alike (λ c low legal owed. (
      let here : JoinsAlike first.target up c = λ k less. alike k (omega (arith, less, low)) in
      let fewer : c ≤ limit = omega (arith, low, few) in
      chain first second up middle down c fit (one c fewer here) (two c fewer (settled c fewer here legal owed).alike)))

  -- in the middle, where commands above are legal and joined ones alike, and answers below are owed
  pub legal_middle : (c : ℕ) → c ≤ limit → JoinsAlike first.target up c → AreLegalAt up c → AnswersAreOwed down c → AreLegalAt middle c
  legal_middle c few alike legal owed = (settled c few alike legal (λ k less. owed k (omega (arith, less)))).legal

  pub alike_middle : (c : ℕ) → c ≤ limit → JoinsAlike first.target up c → AreLegalAt up c → AnswersAreOwed down c → JoinsAlike second.target middle c
  alike_middle c few alike legal owed = (settled c few alike legal (λ k less. owed k (omega (arith, less)))).alike

  pub owed_middle : (c : ℕ) → c ≤ limit → JoinsAlike first.target up c → AreLegalAt up c → AnswersAreOwed down c → AnswersAreOwed middle c
  owed_middle c few alike legal owed = ((two c few (alike_middle c few alike legal owed)).row.carries.answers c (le_refl c) (legal_middle c few alike legal owed) owed).owed
