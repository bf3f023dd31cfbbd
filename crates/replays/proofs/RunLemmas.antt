-- Runs that gain a cycle, and the texts of runs that are the same.
use Rattle.std.proofs.Common.{◌≡◌, ℕ, zero, suc, ◌+◌, ◌<◌, ◌≤◌, Bool, true, false, List, [], ◌∷◌, ◌++◌, length, drop, slice_get, Option, Some, None, refl, sym, ap, subst, ◌∙◌, eq-eqb, below_more, arith}
use Rattle.std.specs.Prelude.{if◌then◌else◌, unwrap_or, codes, decimal}
use Rattle.std.proofs.lemmas.Bool.{ne_eqb}
use Rattle.std.proofs.lemmas.Option.{slice_get_within, same_Some}
use Rattle.av_base.specs.Word.{Word}
use Rattle.netlist.specs.declared.line.Line.{Line}
use Rattle.netlist.specs.declared.line.PortLine.{PortLine}
use Rattle.netlist.specs.Netlists.{Netlist, IsModule, IsInputPort, driver_of, input_net, width_at}
use Rattle.netlist.specs.Runs.{Cycle, Run, cycle_of, SameInputs, SameNets}
use Rattle.netlist.specs.Signals.{port_net}
use Rattle.cycle_sim.specs.Sims.{SimValue, given_to, present}
use Rattle.cycle_sim.specs.Standing.{StandsFor, IsClearedRun, with_cycle}
use Rattle.replays.specs.Traces.{value_text, port_text, ports_text, cycle_line, cycle_lines, end_line, trace_text}
use Rattle.replays.specs.Replays.{IsRunOn}

-- ---- a run with one more cycle

-- one of two cycles
abbrev chosen : Bool → Cycle → Cycle → Cycle
chosen b x y = record {
  input = λ port. if b then x.input port else y.input port;
  net = λ n. if b then x.net n else y.net n;
  cell = λ m address. if b then x.cell m address else y.cell m address;
}

pub at_cycle : (run : Run) (c : ℕ) (x : Cycle) → cycle_of (with_cycle run c x) c ≡ x
at_cycle run c x = ap (λ (b : Bool). chosen b x (cycle_of run c)) (eq-eqb c c refl)

pub before_cycle : (run : Run) (c : ℕ) (x : Cycle) (k : ℕ) → k < c → cycle_of (with_cycle run c x) k ≡ cycle_of run k
before_cycle run c x k less = ap (λ (b : Bool). chosen b x (cycle_of run k)) (ne_eqb k c (λ e. omega arith))

lines_before : (netlist : Netlist) (run : Run) (c : ℕ) (x : Cycle) (n : ℕ) → n ≤ c → cycle_lines netlist (with_cycle run c x) n ≡ cycle_lines netlist run n
lines_before netlist run c x zero few = refl
lines_before netlist run c x (suc n) few =
    ap (λ (t : List ℕ). t ++ cycle_line netlist n (cycle_of (with_cycle run c x) n)) (lines_before netlist run c x n (omega arith))
    ∙ ap (λ (y : Cycle). cycle_lines netlist run n ++ cycle_line netlist n y) (before_cycle run c x n (omega arith))

lines_more : (netlist : Netlist) (run : Run) (c : ℕ) (x : Cycle) → cycle_lines netlist (with_cycle run c x) (c + 1) ≡ cycle_lines netlist run c ++ cycle_line netlist c x
lines_more netlist run c x =
    let one : c + 1 ≡ suc c = omega arith in
    ap (cycle_lines netlist (with_cycle run c x)) one
    ∙ ap (λ (t : List ℕ). t ++ cycle_line netlist c (cycle_of (with_cycle run c x) c)) (lines_before netlist run c x c (omega arith))
    ∙ ap (λ (y : Cycle). cycle_lines netlist run c ++ cycle_line netlist c y) (at_cycle run c x)

-- What stands while a simulator of this module is traced: it took so many edges, in a run on the first of these rows, whose lines are written.
pub record IsTraced (netlist : Netlist) (rows : List (List Word)) (sim : SimValue) (cycles : ℕ) (text : List ℕ) : Type 0 where
  pub same : sim.netlist ≡ netlist
  pub run : Run
  pub stands : StandsFor sim run cycles
  pub inputs : (c : ℕ) → c < cycles → (row : List Word) → slice_get rows c ≡ Some row → (k w : ℕ) → IsInputPort netlist.ports k w → (cycle_of run c).input k ≡ given_to netlist row k
  pub text_is : text ≡ cycle_lines netlist run cycles

still : Run
still = record { input = λ c port. 0; net = λ c n. 0; cell = λ c m address. 0 }

pub none_traced : (rows : List (List Word)) (sim : SimValue) → ((run : Run) → StandsFor sim run 0) → IsTraced sim.netlist rows sim 0 []
none_traced rows sim new = record { same = refl; run = still; stands = new still; inputs = λ c less. absurd (omega arith); text_is = refl }

-- the present cycle is evaluated with a row, told, and left
pub record IsTurn (rows : List (List Word)) (old stepped new : SimValue) (c : ℕ) (row : List Word) (text next : List ℕ) : Type 0 where
  pub is_row : slice_get rows c ≡ Some row
  pub step_netlist : stepped.netlist ≡ old.netlist
  pub step_inputs : (k w : ℕ) → IsInputPort stepped.netlist.ports k w → (present stepped).input k ≡ given_to stepped.netlist row k
  pub step_stands : (run : Run) (cycles : ℕ) → StandsFor old run cycles → StandsFor stepped run cycles
  pub edge_netlist : new.netlist ≡ stepped.netlist
  pub edge_stands : (run : Run) (cycles : ℕ) → StandsFor stepped run cycles → StandsFor new (with_cycle run cycles (present stepped)) (cycles + 1)
  pub told : next ≡ text ++ cycle_line stepped.netlist c (present stepped)

pub next_traced : (netlist : Netlist) (rows : List (List Word)) (old stepped new : SimValue) (c : ℕ) (row : List Word) (text next : List ℕ)
    → IsTraced netlist rows old c text → IsTurn rows old stepped new c row text next → IsTraced netlist rows new (c + 1) next
next_traced netlist rows old stepped new c row text next h turn =
    let x = present stepped in
    let run = with_cycle h.run c x in
    let same : stepped.netlist ≡ netlist = turn.step_netlist ∙ h.same in
    record {
      same = turn.edge_netlist ∙ same;
      run = run;
      stands = turn.edge_stands h.run c (turn.step_stands h.run c h.stands);
      inputs = below_more (λ d. (other : List Word) → slice_get rows d ≡ Some other → (k w : ℕ) → IsInputPort netlist.ports k w → (cycle_of run d).input k ≡ given_to netlist other k) c
          (λ d less other at k w is. ap (λ (y : Cycle). y.input k) (before_cycle h.run c x d less) ∙ h.inputs d less other at k w is)
          (λ other at k w is.
          ap (λ (y : Cycle). y.input k) (at_cycle h.run c x)
          ∙ subst (λ (b : Netlist). IsInputPort b.ports k w → x.input k ≡ given_to b row k) same (turn.step_inputs k w) is
          ∙ ap (λ (r : List Word). given_to netlist r k) (same_Some row other (sym turn.is_row ∙ at)));
      text_is = turn.told ∙ ap (λ (t : List ℕ). t ++ cycle_line stepped.netlist c x) h.text_is
          ∙ ap (λ (b : Netlist). cycle_lines netlist h.run c ++ cycle_line b c x) same ∙ sym (lines_more netlist h.run c x);
    }

-- all rows are taken
pub all_traced : (netlist : Netlist) (rows : List (List Word)) (sim : SimValue) (cycles : ℕ) (text whole : List ℕ) → cycles ≡ length rows → IsTraced netlist rows sim cycles text
    → whole ≡ text ++ end_line cycles → (run : Run) × IsRunOn netlist rows run × (whole ≡ trace_text netlist run (length rows))
all_traced netlist rows sim cycles text whole all h is = (
  h.run,
  record {
    is_run = subst (λ (n : ℕ). IsClearedRun netlist h.run n) all (subst (λ (b : Netlist). IsClearedRun b h.run cycles) h.same h.stands.passed);
    inputs = λ c row at. let within = slice_get_within rows c row at in h.inputs c (omega arith) row at;
  },
  is ∙ ap (λ (t : List ℕ). t ++ end_line cycles) h.text_is ∙ ap (trace_text netlist h.run) all,
)

-- ---- runs with the same nets have one text

width_within : (lines : List Line) (n w : ℕ) (o : Option Line) → slice_get lines n ≡ o → width_at lines n ≡ Some w → n < length lines
width_within lines n w (Some line) e h = slice_get_within lines n line e
width_within lines n w None e h = let none : width_at lines n ≡ None = rw e refl in cc

-- an output's net is one of the module's
driven : (netlist : Netlist) → IsModule netlist → (k : ℕ) (port : PortLine) → slice_get netlist.ports k ≡ Some port → port.output ≡ true
    → (o : Option ℕ) → driver_of netlist k ≡ o → port_net netlist k < length netlist.lines
driven netlist sound k port at out (Some n) e =
    let net = (sound.well_made.drivers k n e).net in
    subst (λ (o : Option ℕ). unwrap_or o (input_net netlist.ports k) < length netlist.lines) (sym e) (width_within netlist.lines n _ (slice_get netlist.lines n) refl net)
driven netlist sound k port at out None e =
    let some = sound.driven k port.width (record { port = port; is = at; output = out; width = refl }) in
    cc

same_port : (netlist : Netlist) (x y : Cycle) → IsModule netlist → SameNets netlist x y → (k : ℕ) (port : PortLine) → slice_get netlist.ports k ≡ Some port
    → (b : Bool) → port.output ≡ b → port_text netlist x k port ≡ port_text netlist y k port
same_port netlist x y sound same k port at true out =
    let net = same (port_net netlist k) (driven netlist sound k port at out (driver_of netlist k) refl) in
    rw out (ap (value_text port.name port.width) net)
same_port netlist x y sound same k port at false out = rw out refl

record IsFront {X : Type 0} (xs : List X) (k : ℕ) (x : X) (rest : List X) : Type 0 where
  at : slice_get xs k ≡ Some x
  behind : drop (k + 1) xs ≡ rest

front : {X : Type 0} (xs : List X) (k : ℕ) (x : X) (rest : List X) → drop k xs ≡ x ∷ rest → IsFront xs k x rest
front xs zero x rest e = record { at = ap (λ ys. slice_get ys 0) e; behind = ap (drop 1) e }
front [] (suc k) x rest e = cc
front (y ∷ ys) (suc k) x rest e = let h = front ys k x rest e in record { at = h.at; behind = (let more : suc k + 1 ≡ suc (k + 1) = omega arith in ap (λ (n : ℕ). drop n (y ∷ ys)) more ∙ h.behind) }

same_ports : (netlist : Netlist) (x y : Cycle) → IsModule netlist → SameNets netlist x y → (k : ℕ) (ports : List PortLine) → drop k netlist.ports ≡ ports
    → ports_text netlist x k ports ≡ ports_text netlist y k ports
same_ports netlist x y sound same k [] e = refl
same_ports netlist x y sound same k (port ∷ ports) e =
    let at = front netlist.ports k port ports e in
    ap (λ (t : List ℕ). t ++ ports_text netlist x (k + 1) ports) (same_port netlist x y sound same k port at.at port.output refl)
    ∙ ap (λ (t : List ℕ). port_text netlist y k port ++ t) (same_ports netlist x y sound same (k + 1) ports at.behind)

same_lines : (netlist : Netlist) (x y : Run) (n : ℕ) → IsModule netlist → ((c : ℕ) → c < n → SameNets netlist (cycle_of x c) (cycle_of y c)) → cycle_lines netlist x n ≡ cycle_lines netlist y n
same_lines netlist x y zero sound same = refl
same_lines netlist x y (suc n) sound same =
    ap (λ (t : List ℕ). t ++ cycle_line netlist n (cycle_of x n)) (same_lines netlist x y n sound (λ c less. same c (omega arith)))
    ∙ ap (λ (t : List ℕ). cycle_lines netlist y n ++ (decimal n ++ t ++ codes "\n")) (same_ports netlist (cycle_of x n) (cycle_of y n) sound (same n (omega arith)) 0 netlist.ports refl)

pub same_trace : (netlist : Netlist) (x y : Run) (n : ℕ) → IsModule netlist → ((c : ℕ) → c < n → SameNets netlist (cycle_of x c) (cycle_of y c)) → trace_text netlist x n ≡ trace_text netlist y n
same_trace netlist x y n sound same = ap (λ (t : List ℕ). t ++ end_line n) (same_lines netlist x y n sound same)

row_there : (rows : List (List Word)) (c : ℕ) → c < length rows → (row : List Word) × (slice_get rows c ≡ Some row)
row_there [] c less = absurd (omega arith)
row_there (row ∷ rows) zero less = (row, refl)
row_there (row ∷ rows) (suc c) less = row_there rows c (omega arith)

-- two runs on the same rows have the same inputs
pub same_inputs : (netlist : Netlist) (rows : List (List Word)) (x y : Run) → IsRunOn netlist rows x → IsRunOn netlist rows y → (c : ℕ) → c < length rows
    → SameInputs netlist (cycle_of x c) (cycle_of y c)
same_inputs netlist rows x y one other c less k w is =
    let row = row_there rows c less in
    one.inputs c row.0 row.1 k w is ∙ sym (other.inputs c row.0 row.1 k w is)
