-- Two straight links in a row, of which all words are those of the agent, are straight.
use Rattle.std.proofs.Common.{◌≡◌, ℕ, ◌<◌, ◌≤◌, le_refl, Bool, false, IsTrue, sym, subst}
use Rattle.netlist.specs.Nets.{NetValue}
use Rattle.netlist.specs.Runs.{Run}
use Rattle.memory_runs.specs.Views.{Shape}
use Rattle.memory_machines.specs.Link.{Target, Port, AreLegalAt, AnswersAreOwed, marked_at, operations_in, is_nonempty}
use Rattle.memory_machines.specs.PartRanks.{JoinsAlike}
use Rattle.memory_machines.specs.Straight.{GoesStraightThrough, shows_plain}
use Rattle.memory_links.specs.InStep.{GoesInStep, AreInStep}
use Rattle.memory_links.specs.Links.{LinkForm, IsLink, FormsFit, chain_form}
use Rattle.command_nets.specs.declared.nets.CommandNets.{CommandNets}
use Rattle.command_nets.specs.declared.nets.AnswerNets.{AnswerNets}
use Rattle.command_nets.specs.Nets.{port_in}
use Rattle.link_core.specs.Form.{Form, KeepsLaw, KeepsStraight, IsStraight}
use Rattle.link_core.specs.ChainNets.{IsStraightChainOf}
use Rattle.link_core.proofs.AlikeChain.{legal_middle, alike_middle, owed_middle}

-- what machines of links in a row keep
pub record RowLaws : Type 0 where
  pub chain : (first second : LinkForm) (up middle down : Port) (end : ℕ) → FormsFit first second up middle down → IsLink first up middle end → IsLink second middle down end → IsLink (chain_form first second) up down end
  pub straight : (ahead : Bool) (first second : LinkForm) (up middle down : Port) (end : ℕ) → first.target ≡ second.target → IsLink first up middle end → IsLink second middle down end → AreLegalAt up end → AnswersAreOwed down end → AreInStep ahead first.target up middle down end →
      GoesStraightThrough (λ c. ahead) first.target up middle end → GoesStraightThrough (λ c. ahead) first.target middle down end → GoesStraightThrough (λ c. ahead) first.target up down end
  pub step : (ahead : Bool) (first second : LinkForm) (up middle down : Port) (end : ℕ) → first.target ≡ second.target → IsLink first up middle end → IsLink second middle down end → AreLegalAt up end → AnswersAreOwed down end → AreInStep ahead first.target up middle down end →
      GoesStraightThrough (λ c. ahead) first.target up middle end → up.shape.word_bytes ≡ middle.shape.word_bytes → GoesInStep ahead first.target up down end
  pub acts : (target : Target) (port : Port) (c : ℕ) → 0 < port.shape.word_bytes → target.shape.word_bytes ≡ port.shape.word_bytes → IsTrue (shows_plain port c) → IsTrue (is_nonempty (operations_in target port.shape (marked_at port c)))

module _ (laws : RowLaws) (first second : LinkForm) (up middle down : Port) (fit : FormsFit first second up middle down)
    (some : 0 < up.shape.word_bytes) (agent : first.target.shape.word_bytes ≡ up.shape.word_bytes) (between : middle.shape.word_bytes ≡ up.shape.word_bytes)
    (end : ℕ) (one : (c : ℕ) → c ≤ end → JoinsAlike first.target up c → IsLink first up middle c) (two : (c : ℕ) → c ≤ end → JoinsAlike second.target middle c → IsLink second middle down c) where
  pub straight_chain : (AreLegalAt up end → AnswersAreOwed middle end → JoinsAlike first.target up end → IsStraight first.target up middle end) →
      (AreLegalAt middle end → AnswersAreOwed down end → JoinsAlike second.target middle end → IsStraight second.target middle down end) → AreLegalAt up end → AnswersAreOwed down end → JoinsAlike first.target up end → IsStraight first.target up down end
  straight_chain high low legal owed alike =
      let legal_there = legal_middle first second up middle down fit laws.chain end one two end (le_refl end) alike legal owed in
      let alike_there = alike_middle first second up middle down fit laws.chain end one two end (le_refl end) alike legal owed in
      let above = high legal (owed_middle first second up middle down fit laws.chain end one two end (le_refl end) alike legal owed) alike in
      let below : IsStraight first.target middle down end = subst (λ (t : Target). IsStraight t middle down end) (sym fit.target) (low legal_there owed alike_there) in
      let steps : AreInStep false first.target up middle down end = record { words = λ same. between; acts = λ c less plain. laws.acts first.target up c some agent plain; first = above.step; second = below.step } in
      record {
        straight = laws.straight false first second up middle down end fit.target (one end (le_refl end) alike) (two end (le_refl end) alike_there) legal owed steps above.straight below.straight;
        step = laws.step false first second up middle down end fit.target (one end (le_refl end) alike) (two end (le_refl end) alike_there) legal owed steps above.straight (sym between);
      }

pub straight_between : (laws : RowLaws) (form : Form) (run : Run) (from middle to : CommandNets) (up between wait : NetValue) (back inner answer : AnswerNets) (firsts seconds : Form → Type 0) (p : IsStraightChainOf firsts seconds form) (end : ℕ) →
    ((c : ℕ) → c ≤ end → KeepsLaw p.chain.first (port_in p.chain.first.up run from up back) (port_in p.chain.first.down run middle between inner) c) →
    ((c : ℕ) → c ≤ end → KeepsLaw p.chain.second (port_in p.chain.second.up run middle between inner) (port_in p.chain.second.down run to wait answer) c) →
    KeepsStraight p.chain.first (port_in p.chain.first.up run from up back) (port_in p.chain.first.down run middle between inner) end →
    KeepsStraight p.chain.second (port_in p.chain.second.up run middle between inner) (port_in p.chain.second.down run to wait answer) end →
    KeepsStraight form (port_in form.up run from up back) (port_in form.down run to wait answer) end
straight_between laws form run from middle to up between wait back inner answer firsts seconds p end one two high low =
    let first = p.chain.first in
    let second = p.chain.second in
    let fit = p.chain.fit in
    let side = λ (keeps : Port → Type 0) (h : keeps (port_in second.up run middle between inner)). subst (λ (s : Shape). keeps (port_in s run middle between inner)) (sym fit.same_side) h in
    subst (λ (f : Form). KeepsStraight f (port_in f.up run from up back) (port_in f.down run to wait answer) end) (sym p.chain.is)
    (straight_chain laws first.link second.link (port_in first.up run from up back) (port_in first.down run middle between inner) (port_in second.down run to wait answer)
    (record { target = fit.target; pieces = fit.pieces; words = fit.words }) p.some p.agent p.between end one (side (λ port. (c : ℕ) → c ≤ end → KeepsLaw second port (port_in second.down run to wait answer) c) two)
    high (side (λ port. KeepsStraight second port (port_in second.down run to wait answer) end) low))
