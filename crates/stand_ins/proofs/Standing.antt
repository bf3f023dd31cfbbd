-- From cycle to cycle a stand-in stands for its run.
use Rattle.std.proofs.Common.{◌*◌, slice_get, Some, ◌≡◌, ◌+◌, ◌-◌, ◌<◌, ℕ, zero, suc, Bool, true, false, not, ◌&&◌, nat_eq, nat_le, List, [], ◌∷◌, ◌++◌, length, map, filter, flat_map, drop, slice_index_or, if◌then◌else◌, refl, sym, ap, ap₂, ◌∙◌, subst, inl, inr, arith, add-one, append-nil, add-zero, ◌⊎◌}
use Rattle.std.proofs.lemmas.Bool.Decides.{nat_tests}
use Rattle.std.proofs.Math.Nat.{eq-or-lt_of_le}
use Rattle.std.proofs.lemmas.List.{length-append}
use Rattle.std.proofs.lemmas.Grind.{flat_map-append}
use Rattle.iface_roles.specs.declared.records.AgentPort.{AgentPort}
use Rattle.histories.specs.History.{is_raised, one_if, only_if, numbers}
use Rattle.memory_runs.specs.Views.{Shape, Levels, levels_at, AgentSide, AgentView}
use Rattle.memory_runs.specs.Operations.{Beat, own_operations, operation_at, is_enabled, memory_after}
use Rattle.memory_runs.specs.Commands.{Transfer, Burst, byte_address, accepted, agent_accepts, burst_after, burst_before, stood_before, transfer_of, write_transfer, read_transfer, read_beat}
use Rattle.memory_runs.specs.Sides.{agent_side}
use Rattle.scenario_tables.specs.declared.statements.AgentStatement.{AgentStatement}
use Rattle.stand_ins.specs.Contents.{filled, contents_before}
use Rattle.stand_ins.specs.declared.delayed.Answer.{Answer}
use Rattle.stand_ins.specs.Codes.{code_at}
use Rattle.stand_ins.specs.Answers.{latency_of, takes_read, is_due, word_due, code_due, word_asked, word_asked_in, word_behind, code_asked, code_asked_in, code_behind, answer, answer_behind, no_answer, waiting_after, waiting_before}
use Rattle.stand_ins.specs.StandIns.{stalls_in}
use Rattle.stand_ins.specs.Memory.{contents_of}
use Rattle.stand_ins.specs.Whole.{AgentStandInValue, carries, wait_of, accepts, reads, word_now, code_now, answer_asked, codes_of, IsBehind, StandsFor, ShowsAsDefined, TakesAsDefined}
use Rattle.stand_ins.proofs.Legality.{raised_if}
use Rattle.stand_ins.proofs.OperationLemmas.{memory_append}

-- ---- reads leave the bytes as they are

lanes_leave : (contents : ℕ → ℕ) (span : ℕ) (shape : Shape) (levels : Levels) (number : ℕ) (lanes : List ℕ) → memory_after contents (map (operation_at span (read_beat shape levels number)) lanes) ≡ contents
lanes_leave contents span shape levels number [] = refl
lanes_leave contents span shape levels number (lane ∷ later) = lanes_leave contents span shape levels number later

reads_leave : (contents : ℕ → ℕ) (span : ℕ) (shape : Shape) (levels : Levels) (numbers_of : List ℕ) → memory_after contents (flat_map (own_operations shape span) (map (read_beat shape levels) numbers_of)) ≡ contents
reads_leave contents span shape levels [] = refl
reads_leave contents span shape levels (number ∷ later) =
    memory_append contents (own_operations shape span (read_beat shape levels number)) (flat_map (own_operations shape span) (map (read_beat shape levels) later))
    ∙ ap (λ f. memory_after f (flat_map (own_operations shape span) (map (read_beat shape levels) later)))
    (lanes_leave contents span shape levels number (filter (is_enabled levels.enables) (numbers 0 shape.word_bytes)))
    ∙ reads_leave contents span shape levels later

taken_leaves : (shape : Shape) (span : ℕ) (levels : Levels) (written : Transfer) (contents : ℕ → ℕ) (taken writes : Bool) →
    memory_after contents (flat_map (own_operations shape span) (flat_map (λ (t : Transfer). t.beats) (only_if taken (if writes then written else read_transfer shape levels))))
    ≡ (if taken && writes then memory_after contents (flat_map (own_operations shape span) written.beats) else contents)
taken_leaves shape span levels written contents true true = ap (λ beats. memory_after contents (flat_map (own_operations shape span) beats)) (append-nil written.beats)
taken_leaves shape span levels written contents true false =
    ap (λ beats. memory_after contents (flat_map (own_operations shape span) beats)) (append-nil (map (read_beat shape levels) (numbers 0 levels.count)))
    ∙ reads_leave contents span shape levels (numbers 0 levels.count)
taken_leaves shape span levels written contents false writes = refl

-- ---- the words under way

read_front : {X : Type 0} (items : List X) (item none : X) (k : ℕ) → k < length items → slice_index_or (items ++ item ∷ []) k none ≡ slice_index_or items k none
read_front [] item none k inside = absurd (omega arith)
read_front (first ∷ later) item none zero inside = refl
read_front (first ∷ later) item none (suc k) inside = read_front later item none k (omega arith)

read_last : {X : Type 0} (items : List X) (item none : X) → slice_index_or (items ++ item ∷ []) (length items) none ≡ item
read_last [] item none = refl
read_last (first ∷ later) item none = read_last later item none

line_shift : {X : Type 0} (words : List X) (word none : X) (k : ℕ) → suc k < length words → slice_index_or (drop 1 (words ++ word ∷ [])) k none ≡ slice_index_or words (suc k) none
line_shift [] word none k inside = absurd (omega arith)
line_shift (first ∷ later) word none k inside = read_front later word none k (omega arith)

line_last : {X : Type 0} (words : List X) (word none : X) (k : ℕ) → suc k ≡ length words → slice_index_or (drop 1 (words ++ word ∷ [])) k none ≡ word
line_last [] word none k inside = absurd (omega arith)
line_last (first ∷ later) word none k inside = let last : k ≡ length later = omega arith in ap (λ at. slice_index_or (later ++ word ∷ []) at none) last ∙ read_last later word none

line_length : {X : Type 0} (words : List X) (word : X) → length (drop 1 (words ++ word ∷ [])) ≡ length words
line_length [] word = refl
line_length (first ∷ later) word = length-append later (word ∷ []) ∙ omega arith

guarded : (late one other : Bool) → (late ≡ true → one ≡ other) → (late && one) ≡ (late && other)
guarded true one other same = same refl
guarded false one other same = refl

lt_or_last : (k n : ℕ) → k < n → (suc k < n) ⊎ (suc k ≡ n)
lt_or_last k n inside = elim (eq-or-lt_of_le inside) [ inl same ↦ inr same | inr less ↦ inl less ]

-- what is asked for in a cycle comes as many cycles behind it as the latency has
comes_behind : (asked : ℕ → ℕ) (latency cycle later : ℕ) → later ≡ cycle + latency → asked cycle ≡ (if nat_le latency later then asked (later - latency) else 0)
comes_behind asked latency cycle later is =
    let behind : nat_le latency later ≡ true = grind (arith, nat_tests) in
    let back : later - latency ≡ cycle = omega arith in
    ap asked (sym back) ∙ ap (λ test. if test then asked (later - latency) else 0) (sym behind)

word_comes : (side : AgentSide) (script : List AgentStatement) (view : AgentView) (cycle later : ℕ) → later ≡ cycle + side.read_latency → word_asked_in side script view cycle ≡ word_behind side script view later
word_comes side script view cycle later is = comes_behind (word_asked_in side script view) side.read_latency cycle later is

code_comes : (side : AgentSide) (script : List AgentStatement) (view : AgentView) (cycle later : ℕ) → later ≡ cycle + side.read_latency → code_asked_in side script view cycle ≡ code_behind side script view later
code_comes side script view cycle later is = comes_behind (code_asked_in side script view) side.read_latency cycle later is

-- ---- one cycle

module _ (script : List AgentStatement) (agent : AgentStandInValue) (view : AgentView) (stands : StandsFor script agent view) where
  waits_is : view.waitrequest agent.cycle ≡ one_if (stalls_in agent.stalls agent.cycle) → is_raised (view.waitrequest agent.cycle) ≡ stalls_in agent.stalls agent.cycle
  waits_is waits = ap is_raised waits ∙ raised_if (stalls_in agent.stalls agent.cycle)

  pub accepts_is : view.waitrequest agent.cycle ≡ one_if (stalls_in agent.stalls agent.cycle) → agent_accepts (agent_side agent.port) view agent.cycle ≡ accepts agent (levels_at view.signals agent.cycle)
  accepts_is waits =
      let side = agent_side agent.port in
      let levels = levels_at view.signals agent.cycle in
      ap (λ w. if agent.port.waitrequest then (carries levels && not w) else (carries levels && nat_eq (stood_before side view agent.cycle) (wait_of side levels))) (waits_is waits)
      ∙ ap (λ stood. if agent.port.waitrequest then (carries levels && not (stalls_in agent.stalls agent.cycle)) else (carries levels && nat_eq stood (wait_of side levels))) (sym stands.stood)

  pub reads_is : view.waitrequest agent.cycle ≡ one_if (stalls_in agent.stalls agent.cycle) → takes_read (agent_side agent.port) view agent.cycle ≡ reads agent (levels_at view.signals agent.cycle)
  reads_is waits = ap (λ taken. taken && not (is_raised (view.write agent.cycle))) (accepts_is waits)

  word_is : view.waitrequest agent.cycle ≡ one_if (stalls_in agent.stalls agent.cycle) → word_now agent (levels_at view.signals agent.cycle) ≡ word_asked_in (agent_side agent.port) script view agent.cycle
  word_is waits =
      let side = agent_side agent.port in
      let levels = levels_at view.signals agent.cycle in
      ap (λ asks. word_asked side (contents_of agent.memory) levels asks) (sym (reads_is waits))
      ∙ ap (λ contents. word_asked side contents levels (takes_read side view agent.cycle)) stands.contents

  code_is : view.waitrequest agent.cycle ≡ one_if (stalls_in agent.stalls agent.cycle) → code_now agent (levels_at view.signals agent.cycle) ≡ code_asked_in (agent_side agent.port) script view agent.cycle
  code_is waits =
      let side = agent_side agent.port in
      let levels = levels_at view.signals agent.cycle in
      ap (code_asked side (codes_of agent) levels) (sym (reads_is waits))
      ∙ ap (λ codes. code_asked side codes levels (takes_read side view agent.cycle)) stands.codes

  answer_is : view.waitrequest agent.cycle ≡ one_if (stalls_in agent.stalls agent.cycle) → (later : ℕ) → later ≡ agent.cycle + agent.port.read_latency
      → answer_asked agent (levels_at view.signals agent.cycle) (reads agent (levels_at view.signals agent.cycle)) ≡ answer_behind (agent_side agent.port) script view later
  answer_is waits later is =
      let side = agent_side agent.port in
      ap₂ answer (word_is waits ∙ word_comes side script view agent.cycle later is) (code_is waits ∙ code_comes side script view agent.cycle later is)

  module _ (after : AgentStandInValue) (waits : view.waitrequest agent.cycle ≡ one_if (stalls_in agent.stalls agent.cycle)) (behind : IsBehind agent (levels_at view.signals agent.cycle) after) where
    -- what is said of the old port and the next cycle is said of the new ones
    there : {X : Type 0} (f : AgentPort → ℕ → X) → f agent.port (suc agent.cycle) ≡ f after.port after.cycle
    there f = ap (λ port. f port (suc agent.cycle)) (sym behind.port) ∙ ap (f after.port) (sym (behind.cycle ∙ add-one agent.cycle))

    stood_next : after.stood ≡ stood_before (agent_side after.port) view after.cycle
    stood_next =
        behind.stood
        ∙ ap (λ stood. if carries (levels_at view.signals agent.cycle) && not (nat_eq stood (wait_of (agent_side agent.port) (levels_at view.signals agent.cycle))) then stood + 1 else 0) stands.stood
        ∙ there (λ port c. stood_before (agent_side port) view c)

    burst_next : after.burst ≡ burst_before (agent_side after.port).shape view.signals (agent_accepts (agent_side after.port) view) after.cycle
    burst_next =
        let shape = (agent_side agent.port).shape in
        let levels = levels_at view.signals agent.cycle in
        behind.burst
        ∙ ap (λ taken. burst_after shape levels taken agent.burst) (sym (accepts_is waits))
        ∙ ap (burst_after shape levels (agent_accepts (agent_side agent.port) view agent.cycle)) stands.burst
        ∙ there (λ port c. burst_before (agent_side port).shape view.signals (agent_accepts (agent_side port) view) c)

    contents_next : contents_of after.memory ≡ contents_before (agent_side after.port) script view after.cycle
    contents_next =
        let side = agent_side agent.port in
        let levels = levels_at view.signals agent.cycle in
        let taken = agent_accepts side view in
        let own = own_operations side.shape side.span in
        let beats = λ (t : Transfer). t.beats in
        let burst = burst_before side.shape view.signals taken agent.cycle in
        let earlier = accepted side.shape view.signals taken agent.cycle in
        let now = only_if (taken agent.cycle) (transfer_of side.shape levels burst) in
        let left = λ (contents : ℕ → ℕ) (burst : Burst) (takes : Bool). if takes && is_raised levels.write then memory_after contents (flat_map own (write_transfer side.shape levels burst).beats) else contents in
        behind.contents
        ∙ ap (λ contents. left contents agent.burst (accepts agent levels)) stands.contents
        ∙ ap (λ burst. left (contents_before side script view agent.cycle) burst (accepts agent levels)) stands.burst
        ∙ ap (left (contents_before side script view agent.cycle) burst) (sym (accepts_is waits))
        ∙ sym (taken_leaves side.shape side.span levels (write_transfer side.shape levels burst) (contents_before side script view agent.cycle) (taken agent.cycle) (is_raised levels.write))
        ∙ sym (memory_append (filled script) (flat_map own (flat_map beats earlier)) (flat_map own (flat_map beats now)))
        ∙ ap (memory_after (filled script)) (sym (ap (flat_map own) (flat_map-append beats earlier now) ∙ flat_map-append own (flat_map beats earlier) (flat_map beats now)))
        ∙ there (λ port c. contents_before (agent_side port) script view c)

    waiting_next : agent.port.readdatavalid ≡ true → after.waiting ≡ waiting_before (agent_side after.port) script view after.cycle
    waiting_next late =
        let side = agent_side agent.port in
        let levels = levels_at view.signals agent.cycle in
        behind.waiting late
        ∙ ap (λ latency. waiting_after side latency agent.cycle (contents_of agent.memory) (codes_of agent) levels (reads agent levels) agent.waiting) stands.latency
        ∙ ap₂ (λ contents codes. waiting_after side (latency_of script) agent.cycle contents codes levels (reads agent levels) agent.waiting) stands.contents stands.codes
        ∙ ap (λ asks. waiting_after side (latency_of script) agent.cycle (contents_before side script view agent.cycle) (code_at side script) levels asks agent.waiting) (sym (reads_is waits))
        ∙ ap (waiting_after side (latency_of script) agent.cycle (contents_before side script view agent.cycle) (code_at side script) levels (takes_read side view agent.cycle)) (stands.waiting late)
        ∙ there (λ port c. waiting_before (agent_side port) script view c)

    delay_next : agent.port.readdatavalid ≡ false → length after.delayed ≡ agent.port.read_latency
    delay_next fixed = ap length (behind.delayed fixed) ∙ line_length agent.delayed _ ∙ stands.delay fixed

    delayed_next : agent.port.readdatavalid ≡ false → (k : ℕ) → k < agent.port.read_latency → slice_index_or after.delayed k no_answer ≡ answer_behind (agent_side agent.port) script view (suc agent.cycle + k)
    delayed_next fixed k inside =
        let side = agent_side agent.port in
        let levels = levels_at view.signals agent.cycle in
        let word = answer_asked agent levels (reads agent levels) in
        ap (λ (words : List Answer). slice_index_or words k no_answer) (behind.delayed fixed)
        ∙ elim (lt_or_last k agent.port.read_latency inside) [
          | inl less ↦
              line_shift agent.delayed word no_answer k (omega (arith, stands.delay fixed)) ∙ stands.delayed fixed (suc k) less ∙ ap (answer_behind side script view) (omega arith)
          | inr last ↦
              line_last agent.delayed word no_answer k (omega (arith, stands.delay fixed)) ∙ answer_is waits (suc agent.cycle + k) (omega arith)
        ]

    pub stands_next : StandsFor script after view
    stands_next = record {
      stalls = behind.stalls ∙ stands.stalls;
      latency = behind.latency ∙ stands.latency;
      codes = ap₂ (λ (port : AgentPort) (coded : List AgentStatement). code_at (agent_side port) coded) behind.port behind.coded ∙ stands.codes ∙ ap (λ (port : AgentPort). code_at (agent_side port) script) (sym behind.port);
      stood = stood_next;
      burst = burst_next;
      contents = contents_next;
      waiting = λ late. waiting_next (ap (λ (port : AgentPort). port.readdatavalid) (sym behind.port) ∙ late);
      delay = λ fixed. delay_next (ap (λ (port : AgentPort). port.readdatavalid) (sym behind.port) ∙ fixed) ∙ ap (λ (port : AgentPort). port.read_latency) (sym behind.port);
      delayed = λ fixed k inside.
          delayed_next (ap (λ (port : AgentPort). port.readdatavalid) (sym behind.port) ∙ fixed) k (subst (λ (port : AgentPort). k < port.read_latency) behind.port inside)
          ∙ there (λ port c. answer_behind (agent_side port) script view (c + k));
    }

  pub shows : ShowsAsDefined script agent view
  shows =
      let side = agent_side agent.port in
      let by_kind = λ (late : Bool). if late then word_due agent.cycle (waiting_before side script view agent.cycle) else word_behind side script view agent.cycle in
      let shown_by_kind = λ (late : Bool). if late then word_due agent.cycle agent.waiting else (slice_index_or agent.delayed 0 no_answer).word in
      let code_by_kind = λ (late : Bool). if late then code_due agent.cycle (waiting_before side script view agent.cycle) else code_behind side script view agent.cycle in
      let code_shown_by_kind = λ (late : Bool). if late then code_due agent.cycle agent.waiting else (slice_index_or agent.delayed 0 no_answer).code in
      record {
        waitrequest = ap (λ pattern. stalls_in pattern agent.cycle) stands.stalls;
        readdatavalid = guarded agent.port.readdatavalid _ _ (λ late. ap (is_due agent.cycle) (stands.waiting late));
        late = λ late. ap shown_by_kind late ∙ ap (word_due agent.cycle) (stands.waiting late) ∙ sym (ap by_kind late);
        fixed = λ fixed some. ap shown_by_kind fixed ∙ ap (λ (one : Answer). one.word) (stands.delayed fixed 0 some) ∙ ap (word_behind side script view) (add-zero agent.cycle) ∙ sym (ap by_kind fixed);
        at_once = λ fixed none waits. word_is waits ∙ word_comes side script view agent.cycle agent.cycle (omega arith) ∙ sym (ap by_kind fixed);
        late_code = λ late. ap code_shown_by_kind late ∙ ap (code_due agent.cycle) (stands.waiting late) ∙ sym (ap code_by_kind late);
        fixed_code = λ fixed some. ap code_shown_by_kind fixed ∙ ap (λ (one : Answer). one.code) (stands.delayed fixed 0 some) ∙ ap (code_behind side script view) (add-zero agent.cycle) ∙ sym (ap code_by_kind fixed);
        code_at_once = λ fixed none waits. code_is waits ∙ code_comes side script view agent.cycle agent.cycle (omega arith) ∙ sym (ap code_by_kind fixed);
      }

-- ---- where the words lie that are taken

some_is : {X : Type 0} (one other : X) → Some one ≡ Some other → one ≡ other
some_is one other same = cc

first_written : (shape : Shape) (levels : Levels) (burst : Burst) (beat : Beat) → slice_get (write_transfer shape levels burst).beats 0 ≡ Some beat →
    beat.address ≡ (if nat_eq burst.left 0 then byte_address shape levels.address else burst.first) + (if nat_eq burst.left 0 then 0 else burst.done) * shape.word_bytes
first_written shape levels burst beat there = ap (λ (b : Beat). b.address) (sym (some_is _ beat there))

first_read : (shape : Shape) (levels : Levels) (beat : Beat) (count : ℕ) → slice_get (map (read_beat shape levels) (numbers 0 count)) 0 ≡ Some beat → beat.address ≡ byte_address shape levels.address
first_read shape levels beat zero there = absurd (cc there)
first_read shape levels beat (suc count) there = ap (λ (b : Beat). b.address) (sym (some_is (read_beat shape levels 0) beat there)) ∙ omega arith

first_address : (shape : Shape) (levels : Levels) (burst : Burst) (beat : Beat) (writes : Bool) → slice_get (if writes then write_transfer shape levels burst else read_transfer shape levels).beats 0 ≡ Some beat →
    beat.address
    ≡ (if writes then (if nat_eq burst.left 0 then byte_address shape levels.address else burst.first) + (if nat_eq burst.left 0 then 0 else burst.done) * shape.word_bytes else byte_address shape levels.address)
first_address shape levels burst beat true there = first_written shape levels burst beat there
first_address shape levels burst beat false there = first_read shape levels beat levels.count there

pub takes : (script : List AgentStatement) (agent : AgentStandInValue) (view : AgentView) → StandsFor script agent view → view.waitrequest agent.cycle ≡ one_if (stalls_in agent.stalls agent.cycle) → TakesAsDefined agent view
takes script agent view stands waits = record {
  accepted = sym (accepts_is script agent view stands waits);
  address = λ beat there.
      let shape = (agent_side agent.port).shape in
      let levels = levels_at view.signals agent.cycle in
      first_address shape levels agent.burst beat (is_raised levels.write)
      (ap (λ burst. slice_get (transfer_of shape levels burst).beats 0) stands.burst ∙ there);
}
