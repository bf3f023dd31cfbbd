-- The codes of a script; and those that come fit its port.
use Rattle.std.proofs.Common.{◌≡◌, ◌+◌, ◌-◌, ◌≤◌, ℕ, zero, suc, Bool, true, false, ◌&&◌, nat_le, List, [], ◌∷◌, ◌++◌, map, All, if◌then◌else◌, refl, arith}
use Rattle.std.proofs.Math.Path.{fun_ext}
use Rattle.std.proofs.lemmas.List.Elements.{All-tail}
use Rattle.iface_roles.specs.declared.records.AgentPort.{AgentPort}
use Rattle.histories.specs.History.{numbers}
use Rattle.memory_runs.specs.Views.{Levels, levels_at, AgentSide, AgentView}
use Rattle.memory_runs.specs.Sides.{agent_side}
use Rattle.scenario_tables.specs.declared.statements.AgentStatement.{AgentStatement}
use Rattle.scenario_tables.specs.declared.statements.AgentStatement.TheVariants.{Stall, Latency, Fill, Code}
use Rattle.scenario_tables.specs.Statements.{FitsAgent, FitsCode, IsAgentScript}
use Rattle.stand_ins.specs.declared.waiting.Waiting.{Waiting}
use Rattle.stand_ins.specs.Codes.{holds, codes_stated, last_or, code_at}
use Rattle.stand_ins.specs.Contents.{contents_before}
use Rattle.stand_ins.specs.Answers.{takes_read, is_borne, still_waiting, latency_of, asked_word, asked_words, waiting_before, code_due, code_asked_in, code_behind}
use Rattle.stand_ins.specs.StandIns.{code_in}

either : {X : Type 0} (P : X → Type 0) (test : Bool) (one other : X) → P one → P other → P (if test then one else other)
either P true one other h k = h
either P false one other h k = k

-- ---- a statement of something else says nothing of codes

pub uncoded : (side : AgentSide) (first : AgentStatement) (later : List AgentStatement) → ((offset code : ℕ) → first ≡ Code offset code → ⊥) → code_at side (first ∷ later) ≡ code_at side later
uncoded side (Stall pattern) later other = fun_ext (λ address. refl)
uncoded side (Latency cycles) later other = fun_ext (λ address. refl)
uncoded side (Fill offset bytes) later other = fun_ext (λ address. refl)
uncoded side (Code offset code) later other = absurd (other offset code refl)

-- ---- what holds of 0 and of each code that is stated, holds of each code that comes

module _ (P : ℕ → Type 0) (of_zero : P 0) where
  abbrev AreSo : List ℕ → Type 0
  AreSo [] = Unit {0}
  AreSo (code ∷ later) = P code × AreSo later

  last_so : (other : ℕ) (codes : List ℕ) → P other → AreSo codes → P (last_or other codes)
  last_so other [] h so = h
  last_so other (code ∷ later) h so = last_so code later so.0 so.1

  abbrev WaitSo : List Waiting → Type 0
  WaitSo [] = Unit {0}
  WaitSo (first ∷ later) = P first.code × WaitSo later

  wait_append : (one other : List Waiting) → WaitSo one → WaitSo other → WaitSo (one ++ other)
  wait_append [] other h k = k
  wait_append (first ∷ later) other h k = (h.0, wait_append later other h.1 k)

  still_so : (c : ℕ) (waiting : List Waiting) → WaitSo waiting → WaitSo (still_waiting c waiting)
  still_so c [] h = tt
  still_so c (first ∷ later) h = either WaitSo (nat_le first.due c) later (first ∷ later) h.1 h

  due_so : (c : ℕ) (waiting : List Waiting) → WaitSo waiting → P (code_due c waiting)
  due_so c [] h = of_zero
  due_so c (first ∷ later) h = either P (nat_le first.due c) first.code 0 h.0 of_zero

  asked_so : (side : AgentSide) (contents codes : ℕ → ℕ) (due : ℕ) (levels : Levels) (asked : List ℕ) → ((address : ℕ) → P (codes address)) → WaitSo (map (asked_word side contents codes due levels) asked)
  asked_so side contents codes due levels [] each = tt
  asked_so side contents codes due levels (number ∷ later) each = (each _, asked_so side contents codes due levels later each)

  module _ (side : AgentSide) (script : List AgentStatement) (view : AgentView) (each : (address : ℕ) → P (code_at side script address)) where
    waiting_so : (c : ℕ) → WaitSo (waiting_before side script view c)
    waiting_so zero = tt
    waiting_so (suc c) =
        let levels = levels_at view.signals c in
        let before = waiting_before side script view c in
        let asked = asked_words side (contents_before side script view c) (code_at side script) (c + latency_of script) levels in
        let still = still_so c before (waiting_so c) in
        either WaitSo (takes_read side view c && is_borne side (still_waiting c before) levels.count) (still_waiting c before ++ asked) (still_waiting c before)
        (wait_append (still_waiting c before) asked still (asked_so side (contents_before side script view c) (code_at side script) (c + latency_of script) levels (numbers 0 levels.count) each)) still

    asked_in_so : (c : ℕ) → P (code_asked_in side script view c)
    asked_in_so c = either P (takes_read side view c) _ 0 (each _) of_zero

    behind_so : (c : ℕ) → P (code_behind side script view c)
    behind_so c = either P (nat_le side.read_latency c) _ 0 (asked_in_so (c - side.read_latency)) of_zero

  pub code_so : (port : AgentPort) (script : List AgentStatement) (view : AgentView) → ((address : ℕ) → AreSo (codes_stated (agent_side port) script address)) → (c : ℕ) → P (code_in port script view c)
  code_so port script view each c =
      let side = agent_side port in
      let so : (address : ℕ) → P (code_at side script address) = λ address. last_so 0 (codes_stated side script address) of_zero (each address) in
      either P port.readdatavalid (code_due c (waiting_before side script view c)) (code_behind side script view c)
      (due_so c (waiting_before side script view c) (waiting_so side script view so c)) (behind_so side script view so c)

  pub stated_so : (port : AgentPort) (script : List AgentStatement) (address : ℕ) → ((offset code : ℕ) → FitsCode port offset code → P code) → All (FitsAgent port) script → AreSo (codes_stated (agent_side port) script address)
  stated_so port [] address each fits = tt
  stated_so port (Stall pattern ∷ later) address each fits = stated_so port later address each (All-tail (FitsAgent port) (Stall pattern) later fits)
  stated_so port (Latency cycles ∷ later) address each fits = stated_so port later address each (All-tail (FitsAgent port) (Latency cycles) later fits)
  stated_so port (Fill offset bytes ∷ later) address each fits = stated_so port later address each (All-tail (FitsAgent port) (Fill offset bytes) later fits)
  stated_so port (Code offset code ∷ later) address each fits =
      let first : FitsCode port offset code = fits 0 (Code offset code) (omega arith) in
      let rest = stated_so port later address each (All-tail (FitsAgent port) (Code offset code) later fits) in
      either AreSo (holds (agent_side port) address offset) (code ∷ codes_stated (agent_side port) later address) (codes_stated (agent_side port) later address) (each offset code first, rest) rest

pub few : (port : AgentPort) (script : List AgentStatement) (view : AgentView) (c : ℕ) → IsAgentScript port script → code_in port script view c ≤ 3
few port script view c kept =
    code_so (λ code. code ≤ 3) (omega arith) port script view (λ address. stated_so (λ code. code ≤ 3) (omega arith) port script address (λ offset code fits. fits.few) kept.each) c

pub none : (port : AgentPort) (script : List AgentStatement) (view : AgentView) (c : ℕ) → IsAgentScript port script → port.response ≡ false → code_in port script view c ≡ 0
none port script view c kept absent =
    code_so (λ code. code ≡ 0) refl port script view
    (λ address. stated_so (λ code. code ≡ 0) refl port script address (λ offset code fits. let there : port.response ≡ true = fits.answers in absurd (cc)) kept.each) c
