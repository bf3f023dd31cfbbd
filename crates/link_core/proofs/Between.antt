-- The laws of links between the views of nets.
use Rattle.std.proofs.Common.{◌≡◌, ℕ, ◌<◌, ◌≤◌, le_refl, sym, subst, Option, Some, None, Bool, false}
use Rattle.std.specs.Prelude.{IsSomeAnd}
use Rattle.netlist.specs.Nets.{NetValue}
use Rattle.netlist.specs.Netlists.{Netlist}
use Rattle.netlist.specs.Runs.{Run, Cycle}
use Rattle.memory_runs.specs.Views.{Shape}
use Rattle.memory_machines.specs.Link.{Target, Port}
use Rattle.memory_links.specs.InStep.{GoesInStep}
use Rattle.memory_links.specs.Links.{LinkForm, IsLink, IsStraightLink, pass_form, chain_form}
use Rattle.command_nets.specs.declared.nets.CommandNets.{CommandNets}
use Rattle.command_nets.specs.declared.nets.AnswerNets.{AnswerNets}
use Rattle.command_nets.specs.Nets.{port_in, ShowSame}
use Rattle.net_parts.specs.Memories.{SameWords}
use Rattle.link_core.specs.Form.{Form, FormsFit, KeepsLaw, KeepsStraight, form_of_chain}
use Rattle.link_core.specs.ChainNets.{HasMiddle}
use Rattle.link_core.specs.MaybeNets.{command_of, answer_of}
use Rattle.link_core.specs.PassNets.{IsPassForm}
use Rattle.memory_links.specs.Links as links
use Rattle.link_core.proofs.AlikeChain.{alike_chain}

-- ---- a link of no nets

pub at_pass : (P : Port → Port → Type 0) (form : Form) (from to : CommandNets) (wait up : NetValue) (answer back : AnswerNets) (run : Run) → IsPassForm form → to ≡ from → (up ≡ wait) × (back ≡ answer) →
    P (port_in form.up run from wait answer) (port_in form.up run from wait answer) → P (port_in form.up run from up back) (port_in form.down run to wait answer)
at_pass P form from to wait up answer back run p f b h =
    subst (λ (s : Shape). P (port_in form.up run from up back) (port_in s run to wait answer)) (sym p.same)
    (subst (λ (n : CommandNets). P (port_in form.up run from up back) (port_in form.up run n wait answer)) (sym f)
    (subst (λ (n : NetValue). P (port_in form.up run from n back) (port_in form.up run from wait answer)) (sym b.0)
    (subst (λ (n : AnswerNets). P (port_in form.up run from wait n) (port_in form.up run from wait answer)) (sym b.1) h)))

pub pass_between : (form : Form) (from to : CommandNets) (wait up : NetValue) (answer back : AnswerNets) (run : Run) (end : ℕ) → IsPassForm form → to ≡ from → (up ≡ wait) × (back ≡ answer) →
    ((target : Target) (port : Port) (end : ℕ) → 0 < port.shape.word_bytes → IsLink (pass_form target) port port end) →
    KeepsLaw form (port_in form.up run from up back) (port_in form.down run to wait answer) end
pass_between form from to wait up answer back run end p f b law =
    at_pass (λ above below. KeepsLaw form above below end) form from to wait up answer back run p f b
    (λ alike. subst (λ (f : LinkForm). IsLink f (port_in form.up run from wait answer) (port_in form.up run from wait answer) end) (sym p.is) (law form.link.target (port_in form.up run from wait answer) end p.some))

pub pass_straight_between : (form : Form) (from to : CommandNets) (wait up : NetValue) (answer back : AnswerNets) (run : Run) (end : ℕ) → IsPassForm form → to ≡ from → (up ≡ wait) × (back ≡ answer) →
    ((few : ℕ) (ahead may_burst : Bool) (target : Target) (port : Port) (end : ℕ) → IsStraightLink few ahead may_burst target port port end) → ((ahead : Bool) (target : Target) (port : Port) (end : ℕ) → GoesInStep ahead target port port end) →
    KeepsStraight form (port_in form.up run from up back) (port_in form.down run to wait answer) end
pass_straight_between form from to wait up answer back run end p f b straight step =
    at_pass (λ above below. KeepsStraight form above below end) form from to wait up answer back run p f b
    (λ legal owed alike. record {
      straight = (straight 0 false false form.link.target (port_in form.up run from wait answer) end).straight legal owed;
      step = step false form.link.target (port_in form.up run from wait answer) end;
    })

-- ---- two in a row

pub chain_between : (first second form : Form) (run : Run) (from middle to : CommandNets) (up between wait : NetValue) (back inner answer : AnswerNets) → form ≡ form_of_chain first second → FormsFit first second → (end : ℕ) →
    ((first second : LinkForm) (up middle down : Port) (end : ℕ) → links.FormsFit first second up middle down → IsLink first up middle end → IsLink second middle down end → IsLink (chain_form first second) up down end) →
    ((c : ℕ) → c ≤ end → KeepsLaw first (port_in first.up run from up back) (port_in first.down run middle between inner) c) →
    ((c : ℕ) → c ≤ end → KeepsLaw second (port_in second.up run middle between inner) (port_in second.down run to wait answer) c) →
    KeepsLaw form (port_in form.up run from up back) (port_in form.down run to wait answer) end
chain_between first second form run from middle to up between wait back inner answer is fit end chain one two =
    subst (λ (f : Form). KeepsLaw f (port_in f.up run from up back) (port_in f.down run to wait answer) end) (sym is)
    (alike_chain first.link second.link (port_in first.up run from up back) (port_in first.down run middle between inner) (port_in second.down run to wait answer)
    (record { target = fit.target; pieces = fit.pieces; words = fit.words }) chain end one
    (subst (λ (s : Shape). (c : ℕ) → c ≤ end → KeepsLaw second (port_in s run middle between inner) (port_in second.down run to wait answer) c) (sym fit.same_side) two) end (le_refl end))

-- what the two ask of the commands above them, where the second one asks it of what the first one shows
pub record AreAsked (first second : Form) (run : Run) (from middle : CommandNets) (up between : NetValue) (back inner : AnswerNets) (firsts seconds : Target → Port → ℕ → Type 0) (end : ℕ) : Type 0 where
  pub above : (c : ℕ) → c ≤ end → firsts first.link.target (port_in first.up run from up back) c
  pub inside : (c : ℕ) → c ≤ end → seconds second.link.target (port_in second.up run middle between inner) c

pub asks_between : (first second form : Form) (run : Run) (from middle : CommandNets) (up between : NetValue) (back inner : AnswerNets) (firsts seconds : Target → Port → ℕ → Type 0) (runs : Target → Port → Port → Type 0) → form ≡ form_of_chain first second → FormsFit first second →
    runs first.link.target (port_in first.up run from up back) (port_in first.down run middle between inner) → (end : ℕ) →
    ((c : ℕ) → c ≤ end → firsts form.link.target (port_in form.up run from up back) c × ((port : Port) → runs form.link.target (port_in form.up run from up back) port → seconds form.link.target port c)) →
    AreAsked first second run from middle up between back inner firsts seconds end
asks_between first second form run from middle up between back inner firsts seconds runs is fit machine end asked =
    let here = subst (λ (f : Form). (c : ℕ) → c ≤ end → firsts f.link.target (port_in f.up run from up back) c × ((port : Port) → runs f.link.target (port_in f.up run from up back) port → seconds f.link.target port c)) is asked in
    record {
      above = λ c low. (here c low).0;
      inside = λ c low. subst (λ (t : Target). seconds t (port_in second.up run middle between inner) c) fit.target
          (subst (λ (s : Shape). seconds first.link.target (port_in s run middle between inner) c) fit.same_side ((here c low).1 (port_in first.down run middle between inner) machine));
    }

pub row_between : (first second form : Form) (run : Run) (from middle to : CommandNets) (up between wait : NetValue) (back inner answer : AnswerNets) (firsts seconds : Target → Port → Port → Type 0) → form ≡ form_of_chain first second → FormsFit first second →
    firsts first.link.target (port_in first.up run from up back) (port_in first.down run middle between inner) →
    seconds second.link.target (port_in second.up run middle between inner) (port_in second.down run to wait answer) →
    HasMiddle (λ port. firsts form.link.target (port_in form.up run from up back) port) (λ port. seconds form.link.target port (port_in form.down run to wait answer))
row_between first second form run from middle to up between wait back inner answer firsts seconds is fit one two =
    subst (λ (f : Form). HasMiddle (λ port. firsts f.link.target (port_in f.up run from up back) port) (λ port. seconds f.link.target port (port_in f.down run to wait answer))) (sym is)
    (record {
      middle = port_in first.down run middle between inner;
      first = one;
      second = subst (λ (s : Shape). seconds first.link.target (port_in s run middle between inner) (port_in second.down run to wait answer)) (sym fit.same_side)
          (subst (λ (t : Target). seconds t (port_in second.up run middle between inner) (port_in second.down run to wait answer)) (sym fit.target) two);
    })

-- ---- a link where one is needed

-- what a part has made says what was kept of it
pub of_some : {L H : Type 0} (command_in : L → CommandNets → CommandNets → H → Netlist → Type 0) (answer_in : L → H → NetValue → AnswerNets → NetValue → AnswerNets → Netlist → Type 0) (link : L) (from to : CommandNets) (kept : Option H) (wait up : NetValue) (answer back : AnswerNets) (netlist : Netlist) (P : Type 0) →
    ((held : H) → command_in link from to held netlist → answer_in link held wait answer up back netlist → P) → command_of command_in (Some link) from to kept netlist → answer_of answer_in (Some link) kept wait answer up back netlist → P
of_some command_in answer_in link from to (Some held) wait up answer back netlist P law f b = law held f b
of_some command_in answer_in link from to None wait up answer back netlist P law f b = absurd f

-- a link that may be left out shows the same where its part does
pub kept_ignores : {L H : Type 0} (command_in : L → CommandNets → CommandNets → H → Netlist → Type 0) (owns memories : H → ℕ → Type 0) (link : L) (from to : CommandNets) (kept : Option H) (netlist : Netlist) (one other : Cycle) →
    ((held : H) → command_in link from to held netlist → ((n : ℕ) → owns held n → one.net n ≡ other.net n) → SameWords (memories held) netlist one other → ShowSame from one other → ShowSame to one other) →
    command_of command_in (Some link) from to kept netlist → ((n : ℕ) → IsSomeAnd kept (λ held. owns held n) → one.net n ≡ other.net n) → SameWords (λ m. IsSomeAnd kept (λ held. memories held m)) netlist one other → ShowSame from one other → ShowSame to one other
kept_ignores command_in owns memories link from to (Some held) netlist one other law f state words same = law held f state words same
kept_ignores command_in owns memories link from to None netlist one other law f state words same = absurd f
