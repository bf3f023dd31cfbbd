-- Runs that gain a cycle, and the dumps of their rows.
use Rattle.std.proofs.Common.{◌≡◌, ℕ, zero, suc, ◌+◌, ◌<◌, ◌≤◌, Bool, true, List, [], ◌∷◌, ◌++◌, length, length-append, take, drop, map, slice_get, Option, Some, refl, sym, ap, subst, ◌∙◌, eq-eqb, below_more, append_assoc, append-nil, arith}
use Rattle.std.specs.Prelude.{if◌then◌else◌}
use Rattle.std.proofs.lemmas.Bool.{ne_eqb}
use Rattle.std.proofs.lemmas.List.{take_all, take-append-le}
use Rattle.std.proofs.lemmas.Option.{slice_get_within, same_Some}
use Rattle.av_base.specs.Word.{Word}
use Rattle.netlist.specs.declared.line.PortLine.{PortLine}
use Rattle.netlist.specs.Netlists.{Netlist, IsInputPort}
use Rattle.netlist.specs.Runs.{Cycle, Run, cycle_of}
use Rattle.cycle_sim.specs.Sims.{SimValue, given_to, present}
use Rattle.cycle_sim.specs.Standing.{StandsFor, IsClearedRun, with_cycle}
use Rattle.vcd_text.specs.Dumps.{DumperValue, port_of}
use Rattle.vcd_text.specs.Text.{head_text, rows_text, row_text, time_line, last_row, dump_text}
use Rattle.dumps.specs.Rows.{port_row, run_rows, dump_of, IsRunOn}

-- ---- a run with one more cycle

-- one of two cycles
abbrev chosen : Bool → Cycle → Cycle → Cycle
chosen b x y = record {
  input = λ port. if b then x.input port else y.input port;
  net = λ n. if b then x.net n else y.net n;
  cell = λ m address. if b then x.cell m address else y.cell m address;
}

at_cycle : (run : Run) (c : ℕ) (x : Cycle) → cycle_of (with_cycle run c x) c ≡ x
at_cycle run c x = ap (λ (b : Bool). chosen b x (cycle_of run c)) (eq-eqb c c refl)

before_cycle : (run : Run) (c : ℕ) (x : Cycle) (k : ℕ) → k < c → cycle_of (with_cycle run c x) k ≡ cycle_of run k
before_cycle run c x k less = ap (λ (b : Bool). chosen b x (cycle_of run k)) (ne_eqb k c (λ e. omega arith))

rows_before : (netlist : Netlist) (run : Run) (c : ℕ) (x : Cycle) (n : ℕ) → n ≤ c → run_rows netlist (with_cycle run c x) n ≡ run_rows netlist run n
rows_before netlist run c x zero few = refl
rows_before netlist run c x (suc n) few =
    ap (λ (rows : List (List Word)). rows ++ port_row netlist (cycle_of (with_cycle run c x) n) 0 netlist.ports ∷ []) (rows_before netlist run c x n (omega arith))
    ∙ ap (λ (y : Cycle). run_rows netlist run n ++ port_row netlist y 0 netlist.ports ∷ []) (before_cycle run c x n (omega arith))

rows_more : (netlist : Netlist) (run : Run) (c : ℕ) (x : Cycle) → run_rows netlist (with_cycle run c x) (c + 1) ≡ run_rows netlist run c ++ port_row netlist x 0 netlist.ports ∷ []
rows_more netlist run c x =
    let one : c + 1 ≡ suc c = omega arith in
    ap (run_rows netlist (with_cycle run c x)) one
    ∙ ap (λ (rows : List (List Word)). rows ++ port_row netlist (cycle_of (with_cycle run c x) c) 0 netlist.ports ∷ []) (rows_before netlist run c x c (omega arith))
    ∙ ap (λ (y : Cycle). run_rows netlist run c ++ port_row netlist y 0 netlist.ports ∷ []) (at_cycle run c x)

rows_count : (netlist : Netlist) (run : Run) (n : ℕ) → length (run_rows netlist run n) ≡ n
rows_count netlist run zero = refl
rows_count netlist run (suc n) = omega (arith, length-append (run_rows netlist run n) (port_row netlist (cycle_of run n) 0 netlist.ports ∷ []), rows_count netlist run n)

last_more : (before row : List Word) (rows : List (List Word)) → last_row before (rows ++ row ∷ []) ≡ row
last_more before row [] = refl
last_more before row (next ∷ rows) = last_more next row rows

-- What stands while the run of a simulator of this module is dumped: it took so many edges, in a run on the first of these rows, which the writer has written behind the header.
pub record IsDumped (netlist : Netlist) (rows : List (List Word)) (sim : SimValue) (cycles : ℕ) (bytes : List ℕ) (dumper : DumperValue) : Type 0 where
  pub same : sim.netlist ≡ netlist
  pub run : Run
  pub stands : StandsFor sim run cycles
  pub inputs : (c : ℕ) → c < cycles → (row : List Word) → slice_get rows c ≡ Some row → (k w : ℕ) → IsInputPort netlist.ports k w → (cycle_of run c).input k ≡ given_to netlist row k
  pub ports_are : dumper.ports ≡ map port_of netlist.ports
  pub cycles_are : dumper.cycles ≡ cycles
  pub before : List Word
  pub row_is : dumper.row ≡ last_row before (run_rows netlist run cycles)
  pub bytes_are : bytes ≡ head_text netlist.name (map port_of netlist.ports) ++ rows_text (run_rows netlist run cycles)

still : Run
still = record { input = λ c port. 0; net = λ c n. 0; cell = λ c m address. 0 }

pub none_dumped : (rows : List (List Word)) (sim : SimValue) (bytes : List ℕ) (dumper : DumperValue) → ((run : Run) → StandsFor sim run 0)
    → dumper.ports ≡ map port_of sim.netlist.ports → dumper.cycles ≡ 0 → bytes ≡ head_text sim.netlist.name (map port_of sim.netlist.ports) → IsDumped sim.netlist rows sim 0 bytes dumper
none_dumped rows sim bytes dumper new ports none is = record {
  same = refl;
  run = still;
  stands = new still;
  inputs = λ c less. absurd (omega arith);
  ports_are = ports;
  cycles_are = none;
  before = dumper.row;
  row_is = refl;
  bytes_are = is ∙ sym (append-nil (head_text sim.netlist.name (map port_of sim.netlist.ports)));
}

-- the present cycle is evaluated with a row, dumped, and left
pub record IsTurn (rows : List (List Word)) (old stepped new : SimValue) (c : ℕ) (given row : List Word) (bytes next : List ℕ) (dumper later : DumperValue) : Type 0 where
  pub is_row : slice_get rows c ≡ Some given
  pub step_netlist : stepped.netlist ≡ old.netlist
  pub step_inputs : (k w : ℕ) → IsInputPort stepped.netlist.ports k w → (present stepped).input k ≡ given_to stepped.netlist given k
  pub step_stands : (run : Run) (cycles : ℕ) → StandsFor old run cycles → StandsFor stepped run cycles
  pub edge_netlist : new.netlist ≡ stepped.netlist
  pub edge_stands : (run : Run) (cycles : ℕ) → StandsFor stepped run cycles → StandsFor new (with_cycle run cycles (present stepped)) (cycles + 1)
  pub row_is : row ≡ port_row stepped.netlist (present stepped) 0 stepped.netlist.ports
  pub told : next ≡ bytes ++ row_text dumper.cycles dumper.row row
  pub kept : later ≡ record dumper { cycles = dumper.cycles + 1; row = row }

-- the rows' lines, one after the other, are their text
abbrev pub AreJoined : Type 0
AreJoined = (before row : List Word) (rows : List (List Word)) → rows_text (rows ++ row ∷ []) ≡ rows_text rows ++ row_text (length rows) (last_row before rows) row

pub next_dumped : AreJoined → (netlist : Netlist) (rows : List (List Word)) (old stepped new : SimValue) (c : ℕ) (given row : List Word) (bytes next : List ℕ) (dumper later : DumperValue)
    → IsDumped netlist rows old c bytes dumper → IsTurn rows old stepped new c given row bytes next dumper later → IsDumped netlist rows new (c + 1) next later
next_dumped joined netlist rows old stepped new c given row bytes next dumper later h turn =
    let x = present stepped in
    let run = with_cycle h.run c x in
    let same : stepped.netlist ≡ netlist = turn.step_netlist ∙ h.same in
    let front = run_rows netlist h.run c in
    let head = head_text netlist.name (map port_of netlist.ports) in
    let row_here : row ≡ port_row netlist x 0 netlist.ports = turn.row_is ∙ ap (λ (b : Netlist). port_row b x 0 b.ports) same in
    let all : run_rows netlist run (c + 1) ≡ front ++ row ∷ [] = rows_more netlist h.run c x ∙ ap (λ (r : List Word). front ++ r ∷ []) (sym row_here) in
    let count : dumper.cycles ≡ length front = h.cycles_are ∙ sym (rows_count netlist h.run c) in
    record {
      same = turn.edge_netlist ∙ same;
      run = run;
      stands = turn.edge_stands h.run c (turn.step_stands h.run c h.stands);
      inputs = below_more (λ d. (other : List Word) → slice_get rows d ≡ Some other → (k w : ℕ) → IsInputPort netlist.ports k w → (cycle_of run d).input k ≡ given_to netlist other k) c
          (λ d less other at k w is. ap (λ (y : Cycle). y.input k) (before_cycle h.run c x d less) ∙ h.inputs d less other at k w is)
          (λ other at k w is.
          ap (λ (y : Cycle). y.input k) (at_cycle h.run c x)
          ∙ subst (λ (b : Netlist). IsInputPort b.ports k w → x.input k ≡ given_to b given k) same (turn.step_inputs k w) is
          ∙ ap (λ (r : List Word). given_to netlist r k) (same_Some given other (sym turn.is_row ∙ at)));
      ports_are = ap (λ (d : DumperValue). d.ports) turn.kept ∙ h.ports_are;
      cycles_are = ap (λ (d : DumperValue). d.cycles) turn.kept ∙ ap (λ (n : ℕ). n + 1) h.cycles_are;
      before = h.before;
      row_is = ap (λ (d : DumperValue). d.row) turn.kept ∙ sym (last_more h.before row front) ∙ ap (last_row h.before) (sym all);
      bytes_are = turn.told
          ∙ ap (λ (bs : List ℕ). bs ++ row_text dumper.cycles dumper.row row) h.bytes_are
          ∙ ap (λ (r : List Word). head ++ rows_text front ++ row_text dumper.cycles r row) h.row_is
          ∙ ap (λ (n : ℕ). head ++ rows_text front ++ row_text n (last_row h.before front) row) count
          ∙ append_assoc head (rows_text front) (row_text (length front) (last_row h.before front) row)
          ∙ ap (λ (bs : List ℕ). head ++ bs) (sym (joined h.before row front))
          ∙ ap (λ (rs : List (List Word)). head ++ rows_text rs) (sym all);
    }

-- all rows are taken
pub all_dumped : (netlist : Netlist) (rows : List (List Word)) (sim : SimValue) (cycles : ℕ) (bytes whole : List ℕ) (dumper : DumperValue) → cycles ≡ length rows → IsDumped netlist rows sim cycles bytes dumper
    → whole ≡ bytes ++ time_line dumper.cycles → (run : Run) × IsRunOn netlist rows run × (whole ≡ dump_text (dump_of netlist run (length rows)))
all_dumped netlist rows sim cycles bytes whole dumper all h is = (
  h.run,
  record {
    is_run = subst (λ (n : ℕ). IsClearedRun netlist h.run n) all (subst (λ (b : Netlist). IsClearedRun b h.run cycles) h.same h.stands.passed);
    inputs = λ c row at. let within = slice_get_within rows c row at in h.inputs c (omega arith) row at;
  },
  is ∙ ap (λ (bs : List ℕ). bs ++ time_line dumper.cycles) h.bytes_are
      ∙ ap (λ (n : ℕ). head_text netlist.name (map port_of netlist.ports) ++ rows_text (run_rows netlist h.run cycles) ++ time_line n) (h.cycles_are ∙ sym (rows_count netlist h.run cycles))
      ∙ ap (λ (n : ℕ). dump_text (dump_of netlist h.run n)) all,
)

-- ---- what is kept and written back

-- what stands in a vector of which all items were written
pub written_back : {X : Type 0} (into items : List X) (len : ℕ) → len ≡ length items → length into ≡ length items → take len (into ++ drop (length into) items) ≡ into
written_back into items len e f =
    let all : len ≡ length into = e ∙ sym f in
    let few : len ≤ length into = omega arith in
    take-append-le len into (drop (length into) items) few ∙ take_all len into (omega arith)

pub gathered : (new bytes : List ℕ) → Some new ≡ Some bytes → new ≡ bytes
gathered new bytes e = cc

pub row_count : (netlist : Netlist) (cycle : Cycle) (k : ℕ) (ports : List PortLine) → length (port_row netlist cycle k ports) ≡ length ports
row_count netlist cycle k [] = refl
row_count netlist cycle k (port ∷ ports) = ap suc (row_count netlist cycle (k + 1) ports)
