-- What is noted of a host, by what a run shows of it.
use Rattle.std.proofs.Common.{◌≡◌, ◌+◌, ◌*◌, ◌<◌, ◌&&◌, ℕ, zero, suc, Bool, true, false, not, cond, List, [], ◌∷◌, ◌++◌, length, get_or, Option, Some, None, map, slice_get, refl, sym, ap, ap₂, subst, ◌∙◌, append-nil, arith}
use Rattle.std.proofs.lemmas.List.{map-append}
use Rattle.std.proofs.lemmas.Option.{slice_get-get_or}
use Rattle.av_base.specs.Word.{Word as Bits, word}
use Rattle.histories.specs.History.{is_raised, only_if}
use Rattle.cycle_sim.specs.Sims.{SimValue, present}
use Rattle.cycle_sim.specs.Standing.{with_cycle}
use Rattle.link_rules.specs.Plans.{PlanTable}
use Rattle.netlist.specs.Netlists.{Netlist}
use Rattle.netlist.specs.Runs.{Run, Cycle}
use Rattle.memory_plans.specs.Systems.{memory_system}
use Rattle.interconnect.specs.Memory.{host_in}
use Rattle.scenario_tables.specs.declared.scenario.Scenario.{Scenario}
use Rattle.memory_runs.specs.Views.{Levels, HostSide, HostView}
use Rattle.memory_runs.specs.Beginnings.{HostsAgree}
use Rattle.memory_runs.specs.Legal.{Word, gives_word, given}
use Rattle.memory_runs.specs.Sides.{host_side}
use Rattle.benches.specs.Outputs.{level_now}
use Rattle.benches.specs.Hosts.{BenchHostValue, IsHostOf, IsSeen, is_given, is_write_taken, word_given}
use Rattle.simulations.specs.Benches.{BenchValue, IsSetUp, IsUnderWay}
use Rattle.simulations.specs.Cycles.{run_with}
use Rattle.simulations.specs.Noted.{IsNoted, takes_write, with_beat, with_word, write_beats_before}
use Rattle.simulations.proofs.Ends.{host_side_is}
use Rattle.simulations.proofs.Simulating.{GoesOn, simulated_whole}

-- ---- runs that show the same before a cycle

takes_same : (one two : HostView) (end c : ℕ) → HostsAgree one two end → c < end → takes_write one c ≡ takes_write two c
takes_same one two end c agree low =
    ap₂ (λ (w l : ℕ). is_raised w && not (is_raised l)) (ap (λ (l : Levels). l.write) (agree.signals c low)) (agree.waitrequest c low)

beats_up_to : (one two : HostView) (end c : ℕ) → HostsAgree one two end → ((k : ℕ) → k < c → k < end) → write_beats_before one c ≡ write_beats_before two c
beats_up_to one two end zero agree low = refl
beats_up_to one two end (suc c) agree low =
    ap₂ with_beat (beats_up_to one two end c agree (λ k h. low k (omega (arith, h)))) (takes_same one two end c agree (low c (omega arith)))

pub same_beats : (one two : HostView) (end : ℕ) → HostsAgree one two end → write_beats_before one end ≡ write_beats_before two end
same_beats one two end agree = beats_up_to one two end end agree (λ k h. h)

-- the words that a host is given
abbrev pub words_given : HostSide → HostView → ℕ → List ℕ
words_given side view c = map (λ (w : Word). w.word) (given side view c)

-- what it is given in one cycle
abbrev given_in : HostSide → HostView → ℕ → List Word
given_in side view c = only_if (gives_word side view c) (record { word = view.readdata c; code = view.response c })

given_by : (late : Bool) (valid read waits word code valid' read' waits' word' code' : ℕ) → valid ≡ valid' → read ≡ read' → waits ≡ waits' → word ≡ word' → code ≡ code' →
    let one : Word = record { word = word; code = code } in
    let two : Word = record { word = word'; code = code' } in
    only_if (cond late (is_raised valid) (is_raised read && not (is_raised waits))) one ≡ only_if (cond late (is_raised valid') (is_raised read' && not (is_raised waits'))) two
given_by late valid read waits word code valid' read' waits' word' code' a b c d e = rw (a, b, c, d, e) refl

given_same : (side : HostSide) (one two : HostView) (end c : ℕ) → HostsAgree one two end → c < end → given_in side one c ≡ given_in side two c
given_same side one two end c agree low =
    given_by side.has_readdatavalid (one.readdatavalid c) (one.read c) (one.waitrequest c) (one.readdata c) (one.response c) (two.readdatavalid c) (two.read c) (two.waitrequest c) (two.readdata c) (two.response c)
    (agree.readdatavalid c low) (ap (λ (l : Levels). l.read) (agree.signals c low)) (agree.waitrequest c low) (agree.readdata c low) (agree.response c low)

words_up_to : (side : HostSide) (one two : HostView) (end c : ℕ) → HostsAgree one two end → ((k : ℕ) → k < c → k < end) → given side one c ≡ given side two c
words_up_to side one two end zero agree low = refl
words_up_to side one two end (suc c) agree low =
    ap₂ (λ (x y : List Word). x ++ y) (words_up_to side one two end c agree (λ k h. low k (omega (arith, h)))) (given_same side one two end c agree (low c (omega arith)))

pub same_words : (side : HostSide) (one two : HostView) (end : ℕ) → HostsAgree one two end → words_given side one end ≡ words_given side two end
same_words side one two end agree = ap (map (λ (w : Word). w.word)) (words_up_to side one two end end agree (λ k h. h))

-- ---- the present cycle

pub beat_is : (view : HostView) (c : ℕ) (sim : SimValue) (host : BenchHostValue) → IsSeen view c sim host → is_write_taken host sim ≡ takes_write view c
beat_is view c sim host seen = ap₂ (λ (w l : ℕ). is_raised w && not (is_raised l)) (sym (ap (λ (l : Levels). l.write) seen.signals)) (sym seen.waitrequest)

word_by : (is : Bool) (n code : ℕ) (bits : Bits) (words : List ℕ) → bits.bits ≡ n →
    let given : Word = record { word = n; code = code } in
    words ++ map (λ (w : Word). w.word) (only_if is given) ≡ with_word words (cond is (Some bits) None)
word_by true n code bits words e = ap (λ (m : ℕ). words ++ m ∷ []) (sym e)
word_by false n code bits words e = append-nil words

gives_by : (late : Bool) (valid read waits valid' read' waits' : ℕ) → valid ≡ valid' → read ≡ read' → waits ≡ waits'
    → cond late (is_raised valid) (is_raised read && not (is_raised waits)) ≡ cond late (is_raised valid') (is_raised read' && not (is_raised waits'))
gives_by late valid read waits valid' read' waits' a b c = rw (a, b, c) refl

given_is : (view : HostView) (c : ℕ) (sim : SimValue) (host : BenchHostValue) → IsSeen view c sim host → gives_word (host_side host.stand_in.port) view c ≡ is_given host sim
given_is view c sim host seen =
    gives_by host.stand_in.port.readdatavalid (view.readdatavalid c) (view.read c) (view.waitrequest c) _ _ _ seen.readdatavalid (ap (λ (l : Levels). l.read) seen.signals) seen.waitrequest

pub word_is : (view : HostView) (c : ℕ) (sim : SimValue) (host : BenchHostValue) → IsSeen view c sim host
    → words_given (host_side host.stand_in.port) view (suc c) ≡ with_word (words_given (host_side host.stand_in.port) view c) (word_given host sim)
word_is view c sim host seen =
    let side = host_side host.stand_in.port in
    map-append (λ (w : Word). w.word) (given side view c) (given_in side view c)
    ∙ word_by (gives_word side view c) (view.readdata c) (view.response c) (word (8 * host.stand_in.port.word_bytes) (level_now sim 0 host.ports.word)) (words_given side view c) (sym seen.readdata)
    ∙ ap (λ (t : Bool). with_word (words_given side view c) (cond t (Some (word (8 * host.stand_in.port.word_bytes) (level_now sim 0 host.ports.word))) None)) (given_is view c sim host seen)

-- a host of this number
pub host_at : (hosts : List BenchHostValue) (n : ℕ) → n < length hosts → (host : BenchHostValue) × (slice_get hosts n ≡ Some host)
host_at [] n low = absurd (omega arith)
host_at (host ∷ hosts) n low = (get_or (host ∷ hosts) n host, slice_get-get_or (host ∷ hosts) n host low)

-- ---- a cycle more, and the end

-- what a host did in the cycles of a run so far is noted
pub record NotesSoFar (plan : PlanTable) (scenario : Scenario) (netlist : Netlist) (c : ℕ) (bench : BenchValue) (host beats : ℕ) (words : List ℕ) : Type 0 where
  pub run : Run
  pub netlist_is : bench.sim.netlist ≡ netlist
  pub set : IsSetUp plan scenario bench.sim.netlist
  pub under_way : IsUnderWay plan scenario run c bench
  pub beats_are : beats ≡ write_beats_before (host_in plan bench.sim.netlist run host) c
  pub words_are : words ≡ words_given ((memory_system plan).host host) (host_in plan bench.sim.netlist run host) c

abbrev EarlierHosts : Type 0
EarlierHosts = (plan : PlanTable) (netlist : Netlist) (run : Run) (c : ℕ) (cycle : Cycle) (h : ℕ) → HostsAgree (host_in plan netlist run h) (host_in plan netlist (with_cycle run c cycle) h) c

beats_next : (before now : HostView) (c : ℕ) (sim : SimValue) (host : BenchHostValue) (beats : ℕ) → HostsAgree before now c → IsSeen now c sim host → beats ≡ write_beats_before before c
    → with_beat beats (is_write_taken host sim) ≡ write_beats_before now (suc c)
beats_next before now c sim host beats agree seen is = ap₂ with_beat (is ∙ same_beats before now c agree) (beat_is now c sim host seen)

words_next : (side : HostSide) (before now : HostView) (c : ℕ) (sim : SimValue) (host : BenchHostValue) (words : List ℕ) → side ≡ host_side host.stand_in.port → HostsAgree before now c → IsSeen now c sim host
    → words ≡ words_given side before c → with_word words (word_given host sim) ≡ words_given side now (suc c)
words_next side before now c sim host words same agree seen is =
    ap (λ (ws : List ℕ). with_word ws (word_given host sim)) (is ∙ same_words side before now c agree ∙ ap (λ (s : HostSide). words_given s now c) same)
    ∙ sym (word_is now c sim host seen) ∙ ap (λ (s : HostSide). words_given s now (suc c)) (sym same)

pub notes_on : EarlierHosts → (plan : PlanTable) (scenario : Scenario) (netlist : Netlist) (c : ℕ) (bench evaluated after : BenchValue) (number beats : ℕ) (words : List ℕ) (host : BenchHostValue)
    (so_far : NotesSoFar plan scenario netlist c bench number beats words) → GoesOn plan scenario so_far.run c bench evaluated after → slice_get evaluated.hosts number ≡ Some host → IsHostOf plan.system number host
    → NotesSoFar plan scenario netlist (c + 1) after number (with_beat beats (is_write_taken host evaluated.sim)) (with_word words (word_given host evaluated.sim))
notes_on earlier plan scenario netlist c bench evaluated after number beats words host so_far on at of =
    let later : suc c ≡ c + 1 = omega arith in
    let run = so_far.run in
    let set = subst (IsSetUp plan scenario) (sym on.same) on.set in
    let seen = on.evaluated_is.hosts number host at in
    let side = (memory_system plan).host number in
    let agree = earlier plan evaluated.sim.netlist run c (present evaluated.sim) number in
    let before = host_in plan evaluated.sim.netlist run number in
    let now = host_in plan evaluated.sim.netlist (run_with run c evaluated) number in
    let beats_so_far : beats ≡ write_beats_before before c = so_far.beats_are ∙ ap (λ (n : Netlist). write_beats_before (host_in plan n run number) c) (sym on.same) in
    let words_so_far : words ≡ words_given side before c = so_far.words_are ∙ ap (λ (n : Netlist). words_given side (host_in plan n run number) c) (sym on.same) in
    subst (λ (k : ℕ). NotesSoFar plan scenario netlist k after number (with_beat beats (is_write_taken host evaluated.sim)) (with_word words (word_given host evaluated.sim))) later (record {
      run = run_with run c evaluated;
      netlist_is = on.same_after ∙ on.same ∙ so_far.netlist_is;
      set = subst (IsSetUp plan scenario) (sym on.same_after) set;
      under_way = on.under_way;
      beats_are = beats_next before now c evaluated.sim host beats agree seen beats_so_far
          ∙ ap (λ (n : Netlist). write_beats_before (host_in plan n (run_with run c evaluated) number) (suc c)) (sym on.same_after);
      words_are = words_next side before now c evaluated.sim host words (host_side_is plan number host.stand_in.port of.at) agree seen words_so_far
          ∙ ap (λ (n : Netlist). words_given side (host_in plan n (run_with run c evaluated) number) (suc c)) (sym on.same_after);
    })

-- by what was read of the cycle
pub notes_with : (plan : PlanTable) (scenario : Scenario) (netlist : Netlist) (c : ℕ) (bench : BenchValue) (number beats : ℕ) (words : List ℕ) (read taken : Bool) (found given : Option Bits) → read ≡ taken → found ≡ given
    → NotesSoFar plan scenario netlist c bench number (with_beat beats taken) (with_word words given) → NotesSoFar plan scenario netlist c bench number (with_beat beats read) (with_word words found)
notes_with plan scenario netlist c bench number beats words read taken found given same also so_far = rw (same, also) so_far

pub noted_whole : (plan : PlanTable) (scenario : Scenario) (netlist : Netlist) (c : ℕ) (bench : BenchValue) (number beats : ℕ) (words : List ℕ) → NotesSoFar plan scenario netlist c bench number beats words → c ≡ scenario.cycles
    → IsNoted plan scenario netlist number beats words
noted_whole plan scenario netlist c bench number beats words so_far last =
    let side = (memory_system plan).host number in
    record {
      run = so_far.run;
      simulated = simulated_whole plan scenario netlist bench.sim.netlist so_far.run c so_far.netlist_is last so_far.under_way.simulated;
      beats_are = so_far.beats_are ∙ ap (λ (n : Netlist). write_beats_before (host_in plan n so_far.run number) c) so_far.netlist_is ∙ ap (write_beats_before (host_in plan netlist so_far.run number)) last;
      words_are = so_far.words_are ∙ ap (λ (n : Netlist). words_given side (host_in plan n so_far.run number) c) so_far.netlist_is ∙ ap (words_given side (host_in plan netlist so_far.run number)) last;
    }
