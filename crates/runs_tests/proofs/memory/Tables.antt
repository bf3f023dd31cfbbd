-- A system whose boundaries and registers are told cycle by cycle is one of machines: each equation of a machine is a test, which holds of each cycle before the end.
use Rattle.std.proofs.Common.{ℕ, zero, suc, ◌<◌, ◌≡◌, ◌+◌, ◌*◌, ◌^◌, ◌%◌, Bool, true, false, not, ◌&&◌, ◌||◌, arith, refl, ap, nat_eq, nat_lt, nat_le, IsTrue, IsFalse, Option, Some, None, if◌then◌else◌, MatchOption, eqb-true, leb-true, ltb-true}
use Rattle.std.proofs.lemmas.Bool.{and_parts}
use Rattle.histories.specs.Below.{OfEach, each_below}
use Rattle.histories.specs.History.{is_raised, one_if}
use Rattle.memory_runs.specs.Views.{System, Run, Shape, Levels, levels_at}
use Rattle.memory_runs.specs.Views.Responses.{AreZero}
use Rattle.memory_runs.specs.Commands.{byte_address, shows, is_held, longest_burst, agent_accepts, words_before}
use Rattle.memory_runs.specs.Legal.{host_accepts, is_under_way, words_asked}
use Rattle.memory_runs.specs.Plan.{FitsPorts}
use Rattle.memory_runs.specs.Whole.{IsLegalRun}
use Rattle.memory_machines.specs.Link.{Port, takes}
use Rattle.memory_machines.specs.Lines.{TaggedPort}
use Rattle.memory_machines.specs.Machines.{Raw, raw_at}
use Rattle.memory_machines.specs.Turns.{Grant, seats_of, chosen, asks_at, grant_before}
use Rattle.memory_parts.specs.Agent.{AgentState, IsAgentMachine, is_full, is_busy}
use Rattle.memory_parts.specs.Arbiter.{IsArbiterMachine, chooses}
use Rattle.memory_parts.specs.Host.{HostState, IsHostMachine, is_shut, ends_now, left_past}
use Rattle.memory_parts.specs.Queue.{QueuesReads, head_tag, takes_read, by_option}
use Rattle.memory_parts.specs.Route.{RouteState, IsRouteMachine, goes_to, is_open, is_same_place, place_now, read_count}

-- ---- tests of numbers below a bound

abbrev pub below : ℕ → (ℕ → Bool) → Bool
below zero test = true
below (suc n) test = below n test && test n

pub record EachOne (n : ℕ) (test : ℕ → Bool) : Type 0 where
  pub holds : IsTrue (below n test)

-- of a host or an agent and a cycle
pub record Each (n end : ℕ) (test : ℕ → ℕ → Bool) : Type 0 where
  pub holds : IsTrue (below n (λ i. below end (test i)))

-- of a host, an agent and a cycle, or of an agent, a host and a cycle
pub record EachPair (n m end : ℕ) (test : ℕ → ℕ → ℕ → Bool) : Type 0 where
  pub holds : IsTrue (below n (λ i. below m (λ j. below end (test i j))))

all_below : (n : ℕ) (test : ℕ → Bool) → IsTrue (below n test) → OfEach (λ i. IsTrue (test i)) n
all_below zero test all = tt
all_below (suc n) test all = let parts = and_parts (below n test) (test n) all in (all_below n test parts.0, parts.1)

by_bound : (n : ℕ) (test : ℕ → Bool) → IsTrue (below n test) → (i : ℕ) → i < n → IsTrue (test i)
by_bound n test all i low = each_below (λ i. IsTrue (test i)) n i (all_below n test all) low

one : {n : ℕ} {test : ℕ → Bool} → EachOne n test → (i : ℕ) → i < n → IsTrue (test i)
one {n} {test} all i low = by_bound n test all.holds i low

pub each : {n end : ℕ} {test : ℕ → ℕ → Bool} → Each n end test → (i : ℕ) → i < n → (c : ℕ) → c < end → IsTrue (test i c)
each {n} {end} {test} all i low c fit = by_bound end (test i) (by_bound n (λ i. below end (test i)) all.holds i low) c fit

each_pair : {n m end : ℕ} {test : ℕ → ℕ → ℕ → Bool} → EachPair n m end test → (i : ℕ) → i < n → (j c : ℕ) → j < m → c < end → IsTrue (test i j c)
each_pair {n} {m} {end} {test} all i low j c there fit =
    by_bound end (test i j) (by_bound m (λ j. below end (test i j)) (by_bound n (λ i. below m (λ j. below end (test i j))) all.holds i low) j there) c fit

-- ---- tests of equations

abbrev pub alike : Bool → Bool → Bool
alike true b = b
alike false b = not b

same_bool : (a b : Bool) → IsTrue (alike a b) → a ≡ b
same_bool true true e = refl
same_bool true false e = cc
same_bool false true e = cc
same_bool false false e = refl

same_option : (a b : Option ℕ) → IsTrue (is_same_place a b) → a ≡ b
same_option None None e = refl
same_option None (Some y) e = cc
same_option (Some x) None e = cc
same_option (Some x) (Some y) e = ap Some (eqb-true x y e)

-- a test under a condition
abbrev pub where_holds : Bool → Bool → Bool
where_holds a b = if a then b else true

under : (a b : Bool) → IsTrue (where_holds a b) → IsTrue a → IsTrue b
under true b e h = e
under false b e h = cc

under_false : (a b : Bool) → IsTrue (where_holds (not a) b) → IsFalse a → IsTrue b
under_false false b e h = e
under_false true b e h = cc

false_of : (b : Bool) → IsTrue (not b) → IsFalse b
false_of false e = refl
false_of true e = cc

pub never : (b : Bool) → IsTrue b → IsFalse b → ⊥
never true h g = cc
never false h g = cc

abbrev pub same_shapes : Shape → Shape → Bool
same_shapes s t = nat_eq s.word_bytes t.word_bytes && (nat_eq s.unit_bytes t.unit_bytes && (nat_eq s.burst_bits t.burst_bits && alike s.has_enables t.has_enables))

shape_with : ℕ → ℕ → ℕ → Bool → Shape
shape_with words units bursts enables = record { word_bytes = words; unit_bytes = units; burst_bits = bursts; has_enables = enables }

shapes_are : (s t : Shape) → IsTrue (same_shapes s t) → s ≡ t
unfolding shape_with
shapes_are s t e =
    let first = and_parts (nat_eq s.word_bytes t.word_bytes) (nat_eq s.unit_bytes t.unit_bytes && (nat_eq s.burst_bits t.burst_bits && alike s.has_enables t.has_enables)) e in
    let second = and_parts (nat_eq s.unit_bytes t.unit_bytes) (nat_eq s.burst_bits t.burst_bits && alike s.has_enables t.has_enables) first.1 in
    let third = and_parts (nat_eq s.burst_bits t.burst_bits) (alike s.has_enables t.has_enables) second.1 in
    let words = eqb-true s.word_bytes t.word_bytes first.0 in
    let units = eqb-true s.unit_bytes t.unit_bytes second.0 in
    let bursts = eqb-true s.burst_bits t.burst_bits third.0 in
    let enables = same_bool s.has_enables t.has_enables third.1 in
    let same : shape_with s.word_bytes s.unit_bytes s.burst_bits s.has_enables ≡ shape_with t.word_bytes t.unit_bytes t.burst_bits t.has_enables = cc in
    same

abbrev pub same_levels : Levels → Levels → Bool
same_levels x y = nat_eq x.read y.read && (nat_eq x.write y.write && (nat_eq x.address y.address && (nat_eq x.word y.word && (nat_eq x.enables y.enables && nat_eq x.count y.count))))

levels_with : ℕ → ℕ → ℕ → ℕ → ℕ → ℕ → Levels
levels_with read write address word enables count = record { read = read; write = write; address = address; word = word; enables = enables; count = count }

levels_are : (x y : Levels) → IsTrue (same_levels x y) → x ≡ y
unfolding levels_with
levels_are x y e =
    let p = and_parts (nat_eq x.read y.read) (nat_eq x.write y.write && (nat_eq x.address y.address && (nat_eq x.word y.word && (nat_eq x.enables y.enables && nat_eq x.count y.count)))) e in
    let q = and_parts (nat_eq x.write y.write) (nat_eq x.address y.address && (nat_eq x.word y.word && (nat_eq x.enables y.enables && nat_eq x.count y.count))) p.1 in
    let r = and_parts (nat_eq x.address y.address) (nat_eq x.word y.word && (nat_eq x.enables y.enables && nat_eq x.count y.count)) q.1 in
    let s = and_parts (nat_eq x.word y.word) (nat_eq x.enables y.enables && nat_eq x.count y.count) r.1 in
    let t = and_parts (nat_eq x.enables y.enables) (nat_eq x.count y.count) s.1 in
    let read = eqb-true x.read y.read p.0 in
    let write = eqb-true x.write y.write q.0 in
    let address = eqb-true x.address y.address r.0 in
    let word = eqb-true x.word y.word s.0 in
    let enables = eqb-true x.enables y.enables t.0 in
    let count = eqb-true x.count y.count t.1 in
    let same : levels_with x.read x.write x.address x.word x.enables x.count ≡ levels_with y.read y.write y.address y.word y.enables y.count = cc in
    same

abbrev pub same_raws : Raw → Raw → Bool
same_raws x y = same_levels x.levels y.levels && (nat_eq x.more y.more && nat_eq x.tag y.tag)

raw_with : Levels → ℕ → ℕ → Raw
raw_with levels more tag = record { levels = levels; more = more; tag = tag }

raws_are : (x y : Raw) → IsTrue (same_raws x y) → x ≡ y
unfolding raw_with
raws_are x y e =
    let p = and_parts (same_levels x.levels y.levels) (nat_eq x.more y.more && nat_eq x.tag y.tag) e in
    let q = and_parts (nat_eq x.more y.more) (nat_eq x.tag y.tag) p.1 in
    let levels = levels_are x.levels y.levels p.0 in
    let more = eqb-true x.more y.more q.0 in
    let tag = eqb-true x.tag y.tag q.1 in
    let same : raw_with x.levels x.more x.tag ≡ raw_with y.levels y.more y.tag = cc in
    same

-- ---- hosts

pub record HostTables (system : System) (run : Run) (down : ℕ → Port) (state : ℕ → HostState) (end : ℕ) : Type 0 where
  pub has : EachOne system.hosts (λ h. (system.host h).has_readdatavalid)
  pub words : EachOne system.hosts (λ h. nat_eq (down h).shape.word_bytes (system.host h).word_bytes)
  pub units : EachOne system.hosts (λ h. nat_eq (down h).shape.unit_bytes 1)
  pub bursts : EachOne system.hosts (λ h. nat_eq (down h).shape.burst_bits (system.host h).burst_bits)
  pub read : Each system.hosts end (λ h c. nat_eq ((down h).commands.read c) (if is_shut (system.host h) (state h) c then 0 else (run.at_host h).read c))
  pub write : Each system.hosts end (λ h c. nat_eq ((down h).commands.write c) ((run.at_host h).write c))
  pub address : Each system.hosts end (λ h c. nat_eq ((down h).commands.address c) (byte_address (system.host h).shape ((run.at_host h).address c)))
  pub word : Each system.hosts end (λ h c. nat_eq ((down h).commands.word c) ((run.at_host h).word c))
  pub enables : Each system.hosts end (λ h c. nat_eq ((down h).commands.enables c) ((run.at_host h).enables c))
  pub count : Each system.hosts end (λ h c. nat_eq ((down h).commands.count c) ((run.at_host h).count c))
  pub more : Each system.hosts end (λ h c. nat_eq ((down h).commands.more c) (one_if (not (ends_now (run.at_host h) (state h) c))))
  pub tag : Each system.hosts end (λ h c. nat_eq ((down h).commands.tag c) 0)
  pub wait : Each system.hosts end (λ h c. alike (is_raised ((run.at_host h).waitrequest c))
      (if is_raised ((run.at_host h).read c) && not (system.host h).has_readdatavalid then not ((state h).asked c && is_raised ((down h).answers.valid c)) else (is_shut (system.host h) (state h) c && is_raised ((run.at_host h).read c)) || is_raised ((down h).commands.waitrequest c)))
  pub starts : EachOne system.hosts (λ h. nat_eq ((state h).left 0) 0)
  pub lasts : Each system.hosts end (λ h c. nat_eq ((state h).left (suc c)) (if takes (down h) c && is_raised ((run.at_host h).write c) then left_past (run.at_host h) (state h) c else (state h).left c))
  pub quiet : EachOne system.hosts (λ h. not ((state h).asked 0))
  pub queues : (h : ℕ) → h < system.hosts → QueuesReads (down h) (down h).answers.valid (state h).queue end
  pub valid : Each system.hosts end (λ h c. alike (is_raised ((run.at_host h).readdatavalid c)) (is_raised ((down h).answers.valid c)))
  pub answer : Each system.hosts end (λ h c. nat_eq ((run.at_host h).readdata c) ((down h).answers.word c))
  pub response : Each system.hosts end (λ h c. nat_eq ((run.at_host h).response c) 0)

pub host_machine : (system : System) (run : Run) (down : ℕ → Port) (state : ℕ → HostState) (end : ℕ) → HostTables system run down state end →
    (h : ℕ) → h < system.hosts → IsHostMachine AreZero (system.host h) (run.at_host h) (down h) (state h) end
host_machine system run down state end t h is = record {
  words = eqb-true _ _ (one t.words h is);
  units = eqb-true _ _ (one t.units h is);
  bursts = eqb-true _ _ (one t.bursts h is);
  read = λ c low. eqb-true _ _ (each t.read h is c low);
  write = λ c low. eqb-true _ _ (each t.write h is c low);
  address = λ c low. eqb-true _ _ (each t.address h is c low);
  word = λ c low. eqb-true _ _ (each t.word h is c low);
  enables = λ c low. eqb-true _ _ (each t.enables h is c low);
  count = λ c low. eqb-true _ _ (each t.count h is c low);
  more = λ c low. eqb-true _ _ (each t.more h is c low);
  tag = λ c low. eqb-true _ _ (each t.tag h is c low);
  wait = λ c low. same_bool _ _ (each t.wait h is c low);
  starts = eqb-true _ _ (one t.starts h is);
  lasts = λ c low. eqb-true _ _ (each t.lasts h is c (omega (arith, low)));
  quiet = false_of _ (one t.quiet h is);
  asks = λ c low none. absurd (never (system.host h).has_readdatavalid (one t.has h is) none);
  queues = λ has. t.queues h is;
  valid = λ c low has. same_bool _ _ (each t.valid h is c low);
  answer = λ c low comes. eqb-true _ _ (each t.answer h is c low);
  response = λ c low. eqb-true _ _ (each t.response h is c low);
}

-- ---- routes

pub record RouteTables (system : System) (room : ℕ → ℕ) (up : ℕ → Port) (down : ℕ → ℕ → Port) (state : ℕ → RouteState) (end : ℕ) : Type 0 where
  pub shapes : EachPair system.hosts system.agents 1 (λ h a c. same_shapes (down h a).shape (up h).shape)
  pub read : EachPair system.hosts system.agents end (λ h a c. nat_eq ((down h a).commands.read c) (if goes_to system h (up h) (state h) a c then (up h).commands.read c else 0))
  pub write : EachPair system.hosts system.agents end (λ h a c. nat_eq ((down h a).commands.write c) (if goes_to system h (up h) (state h) a c then (up h).commands.write c else 0))
  pub address : EachPair system.hosts system.agents end (λ h a c. nat_eq ((down h a).commands.address c) ((up h).commands.address c))
  pub word : EachPair system.hosts system.agents end (λ h a c. nat_eq ((down h a).commands.word c) ((up h).commands.word c))
  pub enables : EachPair system.hosts system.agents end (λ h a c. nat_eq ((down h a).commands.enables c) ((up h).commands.enables c))
  pub count : EachPair system.hosts system.agents end (λ h a c. nat_eq ((down h a).commands.count c) ((up h).commands.count c))
  pub more : EachPair system.hosts system.agents end (λ h a c. nat_eq ((down h a).commands.more c) ((up h).commands.more c))
  pub tag : EachPair system.hosts system.agents end (λ h a c. nat_eq ((down h a).commands.tag c) h)
  pub wait : Each system.hosts end (λ h c. alike (is_raised ((up h).commands.waitrequest c)) (not (is_open system h (up h) (state h) c) || by_option (place_now system h (up h) (state h) c) false (λ a. is_raised ((down h a).commands.waitrequest c))))
  pub outside : EachOne system.hosts (λ h. not ((state h).inside 0))
  pub stays : Each system.hosts end (λ h c. alike ((state h).inside (suc c)) (if takes (up h) c then is_raised ((up h).commands.more c) else (state h).inside c))
  pub keeps : Each system.hosts end (λ h c. is_same_place ((state h).kept (suc c)) (place_now system h (up h) (state h) c))
  pub nothing : EachOne system.hosts (λ h. nat_eq ((state h).owed 0) 0)
  pub nobody : EachOne system.hosts (λ h. is_same_place ((state h).owing 0) None)
  pub counts : Each system.hosts end (λ h c. nat_eq ((state h).owed (suc c) + one_if (is_raised ((up h).answers.valid c))) ((state h).owed c + read_count (up h) c))
  pub owes : Each system.hosts end (λ h c. is_same_place ((state h).owing (suc c)) (if takes_read (up h) c then place_now system h (up h) (state h) c else (state h).owing c))
  pub valid : Each system.hosts end (λ h c. alike (is_raised ((up h).answers.valid c)) (by_option ((state h).owing c) (nat_lt 0 ((state h).owed c)) (λ a. is_raised ((down h a).answers.valid c))))
  pub answer : Each system.hosts end (λ h c. nat_eq ((up h).answers.word c) (by_option ((state h).owing c) 0 (λ a. (down h a).answers.word c)))
  pub code : Each system.hosts end (λ h c. nat_eq ((up h).answers.code c) (by_option ((state h).owing c) 0 (λ a. (down h a).answers.code c)))

pub route_machine : (system : System) (room : ℕ → ℕ) (up : ℕ → Port) (down : ℕ → ℕ → Port) (state : ℕ → RouteState) (end : ℕ) → RouteTables system room up down state end →
    (h : ℕ) → h < system.hosts → IsRouteMachine AreZero system h (room h) (up h) (down h) (state h) end
route_machine system room up down state end t h is = record {
  shapes = λ a there. shapes_are _ _ (each_pair t.shapes h is a 0 there (omega arith));
  read = λ a c there low. eqb-true _ _ (each_pair t.read h is a c there low);
  write = λ a c there low. eqb-true _ _ (each_pair t.write h is a c there low);
  address = λ a c there low. eqb-true _ _ (each_pair t.address h is a c there low);
  word = λ a c there low. eqb-true _ _ (each_pair t.word h is a c there low);
  enables = λ a c there low. eqb-true _ _ (each_pair t.enables h is a c there low);
  count = λ a c there low. eqb-true _ _ (each_pair t.count h is a c there low);
  more = λ a c there low. eqb-true _ _ (each_pair t.more h is a c there low);
  tag = λ a c there low. eqb-true _ _ (each_pair t.tag h is a c there low);
  wait = λ c low. same_bool _ _ (each t.wait h is c low);
  outside = false_of _ (one t.outside h is);
  stays = λ c low. same_bool _ _ (each t.stays h is c (omega (arith, low)));
  keeps = λ c low. same_option _ _ (each t.keeps h is c (omega (arith, low)));
  nothing = eqb-true _ _ (one t.nothing h is);
  nobody = same_option _ _ (one t.nobody h is);
  counts = λ c low few some. eqb-true _ _ (each t.counts h is c (omega (arith, low)));
  owes = λ c low. same_option _ _ (each t.owes h is c (omega (arith, low)));
  valid = λ c low. same_bool _ _ (each t.valid h is c low);
  answer = λ c low comes. eqb-true _ _ (each t.answer h is c low);
  code = λ c low comes. eqb-true _ _ (each t.code h is c low);
}

-- ---- arbiters, whose grants are those of the turn rule

pub record ArbiterTables (system : System) (up : ℕ → ℕ → Port) (down : ℕ → TaggedPort) (grant : ℕ → ℕ → Grant) (end : ℕ) : Type 0 where
  pub shapes : EachPair system.agents system.hosts 1 (λ a h c. same_shapes (up h a).shape (down a).shape)
  pub grants : (a c : ℕ) → grant a c ≡ grant_before (seats_of system a) (λ h. up h a) (down a).port c
  pub shown : Each system.agents end (λ a c. by_option (chosen (grant a c) (asks_at (λ h. up h a) c)).host (not (shows (down a).commands.signals c)) (λ host. same_raws (raw_at (down a).port c) (raw_at (up host a) c)))
  pub wait : EachPair system.agents system.hosts end (λ a h c. alike (is_raised ((up h a).commands.waitrequest c)) (not (chooses (grant a) (λ h. up h a) c h) || is_raised ((down a).commands.waitrequest c)))
  pub valid : EachPair system.agents system.hosts end (λ a h c. alike (is_raised ((up h a).answers.valid c)) (is_raised ((down a).answers.valid c) && nat_eq ((down a).answer_tag c) h))
  pub word : EachPair system.agents system.hosts end (λ a h c. nat_eq ((up h a).answers.word c) ((down a).answers.word c))
  pub code : EachPair system.agents system.hosts end (λ a h c. nat_eq ((up h a).answers.code c) ((down a).answers.code c))

pub arbiter_machine : (system : System) (up : ℕ → ℕ → Port) (down : ℕ → TaggedPort) (grant : ℕ → ℕ → Grant) (end : ℕ) → ArbiterTables system up down grant end →
    (a : ℕ) → a < system.agents → IsArbiterMachine (seats_of system a) system.hosts (λ h. up h a) (down a) (grant a) end
arbiter_machine system up down grant end t a there = record {
  shapes = λ h is. shapes_are _ _ (each_pair t.shapes a there h 0 is (omega arith));
  begins = t.grants a 0;
  next = λ c low. rw (t.grants a c, t.grants a (suc c)) refl;
  shown = λ c low. by_choice c (chosen (grant a c) (asks_at (λ h. up h a) c)).host (each t.shown a there c low);
  wait = λ h c is low asks. same_bool _ _ (each_pair t.wait a there h c is low);
  valid = λ h c is low. same_bool _ _ (each_pair t.valid a there h c is low);
  word = λ h c is low valid. eqb-true _ _ (each_pair t.word a there h c is low);
  code = λ h c is low valid. eqb-true _ _ (each_pair t.code a there h c is low);
}
  where
    by_choice : (c : ℕ) (o : Option ℕ) → IsTrue (by_option o (not (shows (down a).commands.signals c)) (λ host. same_raws (raw_at (down a).port c) (raw_at (up host a) c))) →
        MatchOption o (IsFalse (shows (down a).commands.signals c)) (λ host. raw_at (down a).port c ≡ raw_at (up host a) c)
    by_choice c None e = false_of _ e
    by_choice c (Some host) e = raws_are _ _ e

-- ---- agents with waitrequest and readdatavalid

pub record AgentTables (system : System) (run : Run) (up : ℕ → TaggedPort) (state : ℕ → AgentState) (end : ℕ) : Type 0 where
  pub has_read : EachOne system.agents (λ a. (system.agent a).has_read)
  pub has_write : EachOne system.agents (λ a. (system.agent a).has_write)
  pub has_wait : EachOne system.agents (λ a. (system.agent a).has_waitrequest)
  pub has_valid : EachOne system.agents (λ a. (system.agent a).has_readdatavalid)
  pub words : EachOne system.agents (λ a. nat_eq (up a).shape.word_bytes (system.agent a).word_bytes)
  pub bursts : EachOne system.agents (λ a. nat_eq (up a).shape.burst_bits (system.agent a).burst_bits)
  pub plain : EachOne system.agents (λ a. where_holds (not (system.agent a).has_burst) (nat_eq (system.agent a).burst_bits 1))
  pub read : Each system.agents end (λ a c. nat_eq ((run.at_agent a).read c) (if is_full (system.agent a) (state a) c then 0 else (up a).commands.read c))
  pub write : Each system.agents end (λ a c. nat_eq ((run.at_agent a).write c) ((up a).commands.write c))
  pub address : Each system.agents end (λ a c. nat_eq ((run.at_agent a).address c * (system.agent a).unit_bytes) (byte_address (up a).shape ((up a).commands.address c) % (system.agent a).span))
  pub word : Each system.agents end (λ a c. nat_eq ((run.at_agent a).word c) ((up a).commands.word c))
  pub enables : Each system.agents end (λ a c. where_holds (system.agent a).has_enables (nat_eq ((run.at_agent a).enables c) ((up a).commands.enables c)))
  pub all_lanes : Each system.agents end (λ a c. where_holds (not (system.agent a).has_enables) (nat_eq ((run.at_agent a).enables c + 1) (2 ^ (system.agent a).word_bytes)))
  pub count : Each system.agents end (λ a c. nat_eq ((run.at_agent a).count c) (if (system.agent a).has_burst then (up a).commands.count c else 1))
  pub grant : Each system.agents end (λ a c. nat_eq ((run.at_agent a).grant c) ((up a).commands.tag c))
  pub wait : Each system.agents end (λ a c. alike (is_raised ((up a).commands.waitrequest c)) ((is_full (system.agent a) (state a) c && is_raised ((up a).commands.read c)) || is_busy (system.agent a) (run.at_agent a) (state a) c))
  pub stood : EachOne system.agents (λ a. nat_eq ((state a).stood 0) 0)
  pub queues : (a : ℕ) → a < system.agents → QueuesReads (up a).port (run.at_agent a).readdatavalid (state a).queue end
  pub valid : Each system.agents end (λ a c. alike (is_raised ((up a).answers.valid c)) (is_raised ((run.at_agent a).readdatavalid c)))
  pub answer : Each system.agents end (λ a c. nat_eq ((up a).answers.word c) ((run.at_agent a).readdata c))
  pub code : Each system.agents end (λ a c. nat_eq ((up a).answers.code c) 0)
  pub tag : Each system.agents end (λ a c. nat_eq ((up a).answer_tag c) (head_tag ((state a).queue c)))

pub agent_machine : (system : System) (run : Run) (up : ℕ → TaggedPort) (state : ℕ → AgentState) (end : ℕ) → AgentTables system run up state end →
    (a : ℕ) → a < system.agents → IsAgentMachine AreZero (system.agent a) (run.at_agent a) (up a) (state a) end
agent_machine system run up state end t a there = record {
  commands = record {
    words = eqb-true _ _ (one t.words a there);
    bursts = eqb-true _ _ (one t.bursts a there);
    plain = λ none. eqb-true _ _ (under_false (system.agent a).has_burst _ (one t.plain a there) none);
    read = λ c low has. eqb-true _ _ (each t.read a there c low);
    no_read = λ c low none. absurd (never (system.agent a).has_read (one t.has_read a there) none);
    write = λ c low has. eqb-true _ _ (each t.write a there c low);
    no_write = λ c low none. absurd (never (system.agent a).has_write (one t.has_write a there) none);
    address = λ c low. eqb-true _ _ (each t.address a there c low);
    word = λ c low has. eqb-true _ _ (each t.word a there c low);
    no_word = λ c low none. absurd (never (system.agent a).has_write (one t.has_write a there) none);
    enables = λ c low has. eqb-true _ _ (under (system.agent a).has_enables _ (each t.enables a there c low) has);
    all_lanes = λ c low none. eqb-true _ _ (under_false (system.agent a).has_enables _ (each t.all_lanes a there c low) none);
    count = λ c low. eqb-true _ _ (each t.count a there c low);
    grant = λ c low. eqb-true _ _ (each t.grant a there c low);
    wait = λ c low. same_bool _ _ (each t.wait a there c low);
    stood_first = eqb-true _ _ (one t.stood a there);
    stood_next = λ c low none. absurd (never (system.agent a).has_waitrequest (one t.has_wait a there) none);
    queues = λ has. t.queues a there;
  };
  queued = λ has. record {
    valid = λ c low. same_bool _ _ (each t.valid a there c low);
    word = λ c low. eqb-true _ _ (each t.answer a there c low);
    code = λ c low. eqb-true _ _ (each t.code a there c low);
    tag = λ c low some. eqb-true _ _ (each t.tag a there c low);
  };
  fixed = λ none. absurd (never (system.agent a).has_readdatavalid (one t.has_valid a there) none);
}

-- ---- legal components

pub record LegalTables (system : System) (run : Run) (end : ℕ) : Type 0 where
  pub one_kind : Each system.hosts end (λ h c. not (is_raised ((run.at_host h).read c) && is_raised ((run.at_host h).write c)))
  pub held : Each system.hosts end (λ h c. where_holds (is_held (run.at_host h).signals (host_accepts (run.at_host h)) c) (same_levels (levels_at (run.at_host h).signals c) (levels_at (run.at_host h).signals (suc c))))
  pub least : Each system.hosts end (λ h c. nat_le 1 ((run.at_host h).count c))
  pub most : Each system.hosts end (λ h c. nat_le ((run.at_host h).count c) (longest_burst (system.host h).burst_bits))
  pub finished : Each system.hosts end (λ h c. where_holds (is_under_way (system.host h).shape (run.at_host h).signals (host_accepts (run.at_host h)) c) (not (is_raised ((run.at_host h).read c))))
  pub owed : Each system.agents end (λ a c. nat_le (words_before (run.at_agent a).readdatavalid (suc c)) (words_asked (system.agent a).shape (run.at_agent a).signals (agent_accepts (system.agent a) (run.at_agent a)) c))

pub legal_run : (system : System) (run : Run) (end : ℕ) → LegalTables system run end → IsLegalRun system run end
legal_run system run end t = record {
  hosts = λ h is. record {
    one_kind = λ c low. each t.one_kind h is c low;
    held = λ c low stands. levels_are _ _ (under (is_held (run.at_host h).signals (host_accepts (run.at_host h)) c) _ (each t.held h is c (omega (arith, low))) stands);
    least = λ c low first free. leb-true _ _ (each t.least h is c low);
    most = λ c low first free. leb-true _ _ (each t.most h is c low);
    finished = λ c low left. false_of _ (under (is_under_way (system.host h).shape (run.at_host h).signals (host_accepts (run.at_host h)) c) _ (each t.finished h is c low) left);
  };
  agents = λ a there. record { owed = λ has c low. leb-true _ _ (each t.owed a there c low) };
}

-- ---- views of the ports

-- what hosts show fits their ports
pub record ShownTables (system : System) (run : Run) (end : ℕ) : Type 0 where
  pub enables : Each system.hosts end (λ h c. nat_lt ((run.at_host h).enables c) (2 ^ (system.host h).word_bytes))
  pub all_lanes : Each system.hosts end (λ h c. where_holds (not (system.host h).has_enables) (nat_eq ((run.at_host h).enables c + 1) (2 ^ (system.host h).word_bytes)))
  pub word : Each system.hosts end (λ h c. nat_lt ((run.at_host h).word c) (256 ^ (system.host h).word_bytes))
  pub one_beat : Each system.hosts end (λ h c. where_holds (not (system.host h).has_burst) (nat_eq ((run.at_host h).count c) 1))

pub host_views : (system : System) (run : Run) (end : ℕ) → ShownTables system run end → (h : ℕ) → h < system.hosts → FitsPorts (system.host h).shape (system.host h).has_burst (run.at_host h).signals end
host_views system run end t h is = record {
  enables = λ c low. ltb-true _ _ (each t.enables h is c low);
  all_lanes = λ none c low. eqb-true _ _ (under_false (system.host h).has_enables _ (each t.all_lanes h is c low) none);
  word = λ c low. ltb-true _ _ (each t.word h is c low);
  one_beat = λ none c low. eqb-true _ _ (under_false (system.host h).has_burst _ (each t.one_beat h is c low) none);
}
