-- the one answer that the files of a task call for
use Rattle.std.proofs.Common.{◌≡◌, ◌<◌, ◌≤◌, ◌+◌, ◌-◌, ℕ, List, length, map, ◌⊎◌, inl, inr, ⊎_elim, Option, subst, refl, sym, ap, ◌∙◌, arith}
use Rattle.std.proofs.lemmas.List.{length-map}
use Rattle.link_rules.specs.Plans.{PlanTable}
use Rattle.replays.specs.declared.faults.ReplayFault.{ReplayFault}
use Rattle.replays.specs.declared.faults.ReplayFault.TheVariants as fault
use Rattle.replays.specs.Texts.{CanReplayText, IsReplayOfText, IsReplayTextFault}
use Rattle.vcd_reader.specs.declared.undumps.UndumpFault.{UndumpFault}
use Rattle.vcd_reader.specs.declared.undumps.UndumpFault.TheVariants as undump
use Rattle.vcd_reader.specs.Undumps.{CanUndump, IsUndumpOf, IsUndumpFault}
use Rattle.system_plan.specs.declared.faults.Refusal.{Refusal}
use Rattle.system_plan.specs.declared.faults.Refusal.TheVariants as refusal
use Rattle.system_plan.specs.Plans.{IsPlanned, IsAccepted, IsRefusedBy, IsCause}
use Rattle.answer_lines.specs.declared.exit.Exit.{Exit}
use Rattle.answer_lines.specs.declared.exit.Exit.TheVariants as exit
use Rattle.answer_lines.specs.Lines.{exit_of}
use Rattle.task_words.specs.declared.Task.{Task}
use Rattle.task_words.specs.declared.Task.TheVariants.{Generate, Check, Simulate, Replay, Dump, Undump, Campaign, Bridge, Workload, Module}
use Rattle.task_words.specs.Words.{AsksFor, AreItsFiles, file_words, named_by}
use Rattle.task_words.specs.OneTask.{one_task}
use Rattle.avalon_top.specs.Refused.{IsAnswerOf, DoneOrRefused}
use Rattle.avalon_top.specs.Done.{CallsForDone}
use Rattle.avalon_top.specs.Systems.{system_files, second_file, answer_of_system}
use Rattle.avalon_top.specs.Simulate.{answer_of_simulation, SimulateCallsFor}
use Rattle.avalon_top.specs.Campaign.{CampaignCallsFor}
use Rattle.avalon_top.specs.Bridge.{answer_of_bridge, BridgeCallsFor}
use Rattle.scenario_runs.specs.declared.bridges.faults.BridgeFault.{BridgeFault}
use Rattle.scenario_runs.specs.declared.bridges.faults.BridgeFault.TheVariants as bridge
use Rattle.scenario_runs.specs.Refused.{CanBridge, IsBridgeFault}
use Rattle.scenario_runs.specs.declared.faults.SimulateFault.{SimulateFault}
use Rattle.scenario_runs.specs.declared.faults.SimulateFault.TheVariants as simulate
use Rattle.scenario_runs.specs.Simulations.{CanSimulate, IsSimulateFault}
use Rattle.av_files.specs.Outside.{WhereTold}
use Rattle.avalon_top.specs.Run.{Reads, Writes, most_bytes, AreLoaded, AreFiles, IsFilesLimit, IsBytesLimit, IsCalledFor, SystemCallsFor, ReplayCallsFor, UndumpCallsFor, text_in, waves_in, dump_in, answer_of, answer_of_dump, CallsFor, IsOnly, IsOnlyAnswer, NothingFails}
use Rattle.avalon_top.specs.Loading.{IsStop, StopsAtFile, StopsFiles, StopsLoading, Stops}
use Rattle.avalon_top.proofs.FileLemmas.{told_files, not_long, system_file_count}

-- ---- what can be done, or is refused

-- an answer that refuses files
abbrev RefusesFiles : Exit → Type 0
RefusesFiles exit.Done = ⊥
RefusesFiles exit.Usage = ⊥
RefusesFiles (exit.ReadFault file) = ⊥
RefusesFiles exit.WriteFault = ⊥
RefusesFiles _ = Unit {0}

-- what is known of it: it can be done or is refused, never both, and for one reason
pub record AreJudged {F : Type 0} (Can : Type 0) (IsFault : F → Type 0) : Type 0 where
  pub either : Can ⊎ ((f : F) × IsFault f)
  pub never_both : (f : F) → Can → ¬ IsFault f
  pub one_fault : (f g : F) → IsFault f → IsFault g → f ≡ g

-- what stops a run where its answer is no result
stopped : (IsCalled : Exit → Type 0) (e : Exit) → RefusesFiles e → (e ≡ exit.NoMemory) ⊎ IsOnly IsCalled e → IsStop IsCalled e
stopped IsCalled exit.Done refuses is = absurd refuses
stopped IsCalled exit.Usage refuses is = absurd refuses
stopped IsCalled (exit.ReadFault file) refuses is = absurd refuses
stopped IsCalled exit.WriteFault refuses is = absurd refuses
stopped IsCalled (exit.ScriptRefused place rule) refuses is = is
stopped IsCalled (exit.LinkRefused connection rule other) refuses is = is
stopped IsCalled (exit.Limit which count) refuses is = is
stopped IsCalled (exit.VerilogRefused byte rule) refuses is = is
stopped IsCalled (exit.ScenarioRefused file line rule) refuses is = is
stopped IsCalled (exit.DumpRefused byte rule) refuses is = is
stopped IsCalled (exit.PacketRefused byte rule) refuses is = is
stopped IsCalled exit.NoMemory refuses is = is

module _ {F : Type 0} (Can : Type 0) (IsFault : F → Type 0) (answer : F → Exit) (refuses : (f : F) → RefusesFiles (answer f)) where
  -- what is called for is a result, or a refusal
  cases : (e : Exit) → DoneOrRefused Can IsFault answer e → ((e ≡ exit.Done) × Can) ⊎ IsAnswerOf IsFault answer e
  cases exit.Done h = inl (refl, h)
  cases exit.Usage h = inr h
  cases (exit.ReadFault file) h = inr h
  cases exit.WriteFault h = inr h
  cases (exit.ScriptRefused place rule) h = inr h
  cases (exit.LinkRefused connection rule other) h = inr h
  cases (exit.Limit which count) h = inr h
  cases (exit.VerilogRefused byte rule) h = inr h
  cases (exit.ScenarioRefused file line rule) h = inr h
  cases (exit.DumpRefused byte rule) h = inr h
  cases (exit.PacketRefused byte rule) h = inr h
  cases exit.NoMemory h = inr h

  refused : (e : Exit) → RefusesFiles e → IsAnswerOf IsFault answer e → DoneOrRefused Can IsFault answer e
  refused exit.Done names h = absurd names
  refused exit.Usage names h = h
  refused (exit.ReadFault file) names h = h
  refused exit.WriteFault names h = h
  refused (exit.ScriptRefused place rule) names h = h
  refused (exit.LinkRefused connection rule other) names h = h
  refused (exit.Limit which count) names h = h
  refused (exit.VerilogRefused byte rule) names h = h
  refused (exit.ScenarioRefused file line rule) names h = h
  refused (exit.DumpRefused byte rule) names h = h
  refused (exit.PacketRefused byte rule) names h = h
  refused exit.NoMemory names h = h

  only_done : AreJudged Can IsFault → Can → IsOnly (DoneOrRefused Can IsFault answer) exit.Done
  only_done judged can = record {
    called = can;
    only = λ other h. ⊎_elim (λ done. done.0) (λ r. absurd (judged.never_both r.fault can r.refused)) (cases other h);
  }

  only_refused : (f : F) → AreJudged Can IsFault → IsFault f → IsOnly (DoneOrRefused Can IsFault answer) (answer f)
  only_refused f judged is = record {
    called = refused (answer f) (refuses f) (record { fault = f; refused = is; answer_is = refl });
    only = λ other h. ⊎_elim
        (λ done. absurd (judged.never_both f done.1 is))
        (λ r. r.answer_is ∙ ap answer (judged.one_fault r.fault f r.refused is))
        (cases other h);
  }

  answer_for : AreJudged Can IsFault → (e : Exit) × IsOnly (DoneOrRefused Can IsFault answer) e
  answer_for judged =
      ⊎_elim
      (λ can. (exit.Done, only_done judged can))
      (λ is. (answer is.0, only_refused is.0 judged is.1))
      judged.either

  -- what wasn't done is refused, or memory was wanted
  stops_for : (f : F) → AreJudged Can IsFault → (answer f ≡ exit.NoMemory) ⊎ IsFault f → IsStop (DoneOrRefused Can IsFault answer) (answer f)
  stops_for f judged is = stopped (DoneOrRefused Can IsFault answer) (answer f) (refuses f) (⊎_elim (λ e. inl e) (λ r. inr (only_refused f judged r)) is)

  -- no other answer is called for
  of_called : (e : Exit) → DoneOrRefused Can IsFault answer e → (e ≡ exit.Done) ⊎ RefusesFiles e
  of_called e h = ⊎_elim (λ done. inl done.0) (λ r. inr (subst RefusesFiles (sym r.answer_is) (refuses r.fault))) (cases e h)

-- ---- the files of a system

system_refuses : (r : Refusal) → RefusesFiles (exit_of r)
system_refuses (refusal.Script place rule) = tt
system_refuses (refusal.Link connection rule other) = tt
system_refuses (refusal.Limit which count) = tt
system_refuses refusal.NoMemory = tt

-- the files are refused, or memory was wanted
pub refused_files : (files : List (List ℕ)) (r : Refusal) → AreJudged (IsAccepted files) (IsRefusedBy files) → IsCause files r → IsStop (SystemCallsFor files) (exit_of r)
refused_files files r judged cause = stops_for (IsAccepted files) (IsRefusedBy files) exit_of system_refuses r judged (⊎_elim (λ e. inl (ap exit_of e)) (λ is. inr is) cause)

abbrev pub accepted_files : (files : List (List ℕ)) (plan : PlanTable) → IsPlanned files plan → IsAccepted files
accepted_files files plan is = record { system = plan.system; stated = is.stated; maps = is.is_plan.maps.kept; links = is.is_plan.links; limits = is.is_plan.limits }

-- they state a plan
pub done_files : (files : List (List ℕ)) (plan : PlanTable) → AreJudged (IsAccepted files) (IsRefusedBy files) → IsPlanned files plan → IsOnly (SystemCallsFor files) exit.Done
done_files files plan judged is = only_done (IsAccepted files) (IsRefusedBy files) exit_of system_refuses judged (accepted_files files plan is)

-- ---- a text and waves

replay_refuses : (f : ReplayFault) → RefusesFiles (answer_of f)
replay_refuses (fault.TextRefused byte rule) = tt
replay_refuses fault.TooManyNets = tt
replay_refuses (fault.WavesRefused line rule) = tt
replay_refuses (fault.TooManyValues count) = tt
replay_refuses fault.NoMemory = tt

-- what was not replayed is refused, or memory was wanted
pub replay_stops : (text waves : List ℕ) (f : ReplayFault) → AreJudged (CanReplayText text waves) (IsReplayTextFault text waves) → (f ≡ fault.NoMemory) ⊎ IsReplayTextFault text waves f
    → IsStop (ReplayCallsFor text waves) (answer_of f)
replay_stops text waves f judged is =
    stops_for (CanReplayText text waves) (IsReplayTextFault text waves) answer_of replay_refuses f judged (⊎_elim (λ e. inl (ap answer_of e)) (λ r. inr r) is)

can_replay : (text waves trace : List ℕ) → IsReplayOfText text waves trace → CanReplayText text waves
can_replay text waves trace is = record {
  netlist = is.netlist;
  is_module = is.is_module;
  is_text = is.is_text;
  holds = record { rows = is.holds.rows; are_waves = is.holds.are_waves; few = is.holds.few };
}

-- what can be replayed calls for its result
pub can_be_replayed : (text waves : List ℕ) → AreJudged (CanReplayText text waves) (IsReplayTextFault text waves) → CanReplayText text waves → IsOnly (ReplayCallsFor text waves) exit.Done
can_be_replayed text waves judged can = only_done (CanReplayText text waves) (IsReplayTextFault text waves) answer_of replay_refuses judged can

pub replay_done : (text waves trace : List ℕ) → AreJudged (CanReplayText text waves) (IsReplayTextFault text waves) → IsReplayOfText text waves trace → IsOnly (ReplayCallsFor text waves) exit.Done
replay_done text waves trace judged is = can_be_replayed text waves judged (can_replay text waves trace is)

-- ---- a dump

undump_refuses : (f : UndumpFault) → RefusesFiles (answer_of_dump f)
undump_refuses (undump.Refused byte rule) = tt
undump_refuses (undump.TooManyValues count) = tt
undump_refuses undump.NoMemory = tt

pub undump_stops : (dump : List ℕ) (f : UndumpFault) → AreJudged (CanUndump dump) (IsUndumpFault dump) → (f ≡ undump.NoMemory) ⊎ IsUndumpFault dump f → IsStop (UndumpCallsFor dump) (answer_of_dump f)
undump_stops dump f judged is =
    stops_for (CanUndump dump) (IsUndumpFault dump) answer_of_dump undump_refuses f judged (⊎_elim (λ e. inl (ap answer_of_dump e)) (λ r. inr r) is)

pub undump_done : (dump text : List ℕ) → AreJudged (CanUndump dump) (IsUndumpFault dump) → IsUndumpOf dump text → IsOnly (UndumpCallsFor dump) exit.Done
undump_done dump text judged is =
    only_done (CanUndump dump) (IsUndumpFault dump) answer_of_dump undump_refuses judged (record { dump = is.dump; is_dump = is.is_dump; is_text = is.is_text; few = is.few })

-- ---- a system and a scenario

pub by_words_refuses : (task : Task) (r : Refusal) → RefusesFiles (answer_of_system task r)
by_words_refuses task (refusal.Script place rule) = tt
by_words_refuses task (refusal.Link connection rule other) = tt
by_words_refuses task (refusal.Limit which count) = tt
by_words_refuses task refusal.NoMemory = tt

simulate_refuses : (f : SimulateFault) → RefusesFiles (answer_of_simulation f)
simulate_refuses (simulate.SystemRefused refused) = by_words_refuses Simulate refused
simulate_refuses (simulate.ScenarioRefused line rule) = tt
simulate_refuses (simulate.TooManyValues count) = tt
simulate_refuses simulate.NoMemory = tt

-- what was not prepared is refused, or memory was wanted
pub simulate_stops : (files : List (List ℕ)) (scenario : List ℕ) (f : SimulateFault) → AreJudged (CanSimulate files scenario) (IsSimulateFault files scenario)
    → (f ≡ simulate.NoMemory) ⊎ IsSimulateFault files scenario f → IsStop (SimulateCallsFor files scenario) (answer_of_simulation f)
simulate_stops files scenario f judged is =
    stops_for (CanSimulate files scenario) (IsSimulateFault files scenario) answer_of_simulation simulate_refuses f judged (⊎_elim (λ e. inl (ap answer_of_simulation e)) (λ r. inr r) is)

-- what was prepared calls for its trace
pub simulate_done : (files : List (List ℕ)) (scenario : List ℕ) → AreJudged (CanSimulate files scenario) (IsSimulateFault files scenario) → CanSimulate files scenario
    → IsOnly (SimulateCallsFor files scenario) exit.Done
simulate_done files scenario judged can = only_done (CanSimulate files scenario) (IsSimulateFault files scenario) answer_of_simulation simulate_refuses judged can

-- ---- a campaign

-- its system is refused, or memory was wanted
pub campaign_stops : (number : ℕ) (files : List (List ℕ)) (r : Refusal) → AreJudged (IsAccepted files) (IsRefusedBy files) → IsCause files r
    → IsStop (CampaignCallsFor number files) (answer_of_system (Campaign number) r)
campaign_stops number files r judged cause =
    stops_for (IsAccepted files) (IsRefusedBy files) (answer_of_system (Campaign number)) (by_words_refuses (Campaign number)) r judged
    (⊎_elim (λ e. inl (ap (answer_of_system (Campaign number)) e)) (λ is. inr is) cause)

-- its system states a plan
pub campaign_done : (number : ℕ) (files : List (List ℕ)) (plan : PlanTable) → AreJudged (IsAccepted files) (IsRefusedBy files) → IsPlanned files plan
    → IsOnly (CampaignCallsFor number files) exit.Done
campaign_done number files plan judged is =
    only_done (IsAccepted files) (IsRefusedBy files) (answer_of_system (Campaign number)) (by_words_refuses (Campaign number)) judged (accepted_files files plan is)

-- ---- a bridge

bridge_refuses : (cycles : ℕ) (f : BridgeFault) → RefusesFiles (answer_of_bridge cycles f)
bridge_refuses cycles (bridge.SystemRefused refused) = by_words_refuses (Bridge cycles) refused
bridge_refuses cycles (bridge.PacketRefused byte rule) = tt
bridge_refuses cycles (bridge.TooManyValues count) = tt
bridge_refuses cycles bridge.NoMemory = tt

-- it is refused, or memory was wanted
pub bridge_stops : (cycles : ℕ) (files : List (List ℕ)) (bytes : List ℕ) (f : BridgeFault) → AreJudged (CanBridge files bytes cycles) (IsBridgeFault files bytes cycles)
    → (f ≡ bridge.NoMemory) ⊎ IsBridgeFault files bytes cycles f → IsStop (BridgeCallsFor cycles files bytes) (answer_of_bridge cycles f)
bridge_stops cycles files bytes f judged is =
    stops_for (CanBridge files bytes cycles) (IsBridgeFault files bytes cycles) (answer_of_bridge cycles) (bridge_refuses cycles) f judged
    (⊎_elim (λ e. inl (ap (answer_of_bridge cycles) e)) (λ r. inr r) is)

-- it calls for its replies
pub bridge_done : (cycles : ℕ) (files : List (List ℕ)) (bytes : List ℕ) → AreJudged (CanBridge files bytes cycles) (IsBridgeFault files bytes cycles) → CanBridge files bytes cycles
    → IsOnly (BridgeCallsFor cycles files bytes) exit.Done
bridge_done cycles files bytes judged can = only_done (CanBridge files bytes cycles) (IsBridgeFault files bytes cycles) (answer_of_bridge cycles) (bridge_refuses cycles) judged can

-- ---- what is done whatever else

only_to_do : (e : Exit) → CallsForDone e → e ≡ exit.Done
only_to_do exit.Done h = refl
only_to_do exit.Usage h = absurd h
only_to_do (exit.ReadFault file) h = absurd h
only_to_do exit.WriteFault h = absurd h
only_to_do (exit.ScriptRefused place rule) h = absurd h
only_to_do (exit.LinkRefused connection rule other) h = absurd h
only_to_do (exit.Limit which count) h = absurd h
only_to_do (exit.VerilogRefused byte rule) h = absurd h
only_to_do (exit.ScenarioRefused file line rule) h = absurd h
only_to_do (exit.DumpRefused byte rule) h = absurd h
only_to_do (exit.PacketRefused byte rule) h = absurd h
only_to_do exit.NoMemory h = absurd h

-- no other answer is called for
pub is_done : IsOnly CallsForDone exit.Done
is_done = record { called = tt; only = only_to_do }

-- ---- any files of a task

-- what is known of all files
pub record AreAllJudged (files : List (List ℕ)) : Type 0 where
  pub system : 1 ≤ length files → AreJudged (IsAccepted files) (IsRefusedBy files)
  pub simulated : 1 ≤ length (system_files files) → AreJudged (CanSimulate (system_files files) (second_file files)) (IsSimulateFault (system_files files) (second_file files))
  pub bridged : (cycles : ℕ) → 1 ≤ length (system_files files) → AreJudged (CanBridge (system_files files) (second_file files) cycles) (IsBridgeFault (system_files files) (second_file files) cycles)
  pub replayed : AreJudged (CanReplayText (text_in files) (waves_in files)) (IsReplayTextFault (text_in files) (waves_in files))
  pub undumped : AreJudged (CanUndump (dump_in files)) (IsUndumpFault (dump_in files))

-- of two files or more one or more are a system's
some_system : (files : List (List ℕ)) → 2 ≤ length files → 1 ≤ length (system_files files)
some_system files two = omega (arith, two, system_file_count files two)

system_answer : (files : List (List ℕ)) → AreJudged (IsAccepted files) (IsRefusedBy files) → (e : Exit) × IsOnly (SystemCallsFor files) e
system_answer files judged = answer_for (IsAccepted files) (IsRefusedBy files) exit_of system_refuses judged

replay_answer : (text waves : List ℕ) → AreJudged (CanReplayText text waves) (IsReplayTextFault text waves) → (e : Exit) × IsOnly (ReplayCallsFor text waves) e
replay_answer text waves judged = answer_for (CanReplayText text waves) (IsReplayTextFault text waves) answer_of replay_refuses judged

pub one_answer : (task : Task) (files : List (List ℕ)) → AreAllJudged files → AreItsFiles task (length files) → (answer : Exit) × IsOnlyAnswer task files answer
one_answer Generate files judged are = system_answer files (judged.system (omega (arith, are.enough, are.count)))
one_answer Check files judged are = system_answer files (judged.system (omega (arith, are.enough, are.count)))
one_answer Simulate files judged are =
    answer_for (CanSimulate (system_files files) (second_file files)) (IsSimulateFault (system_files files) (second_file files)) answer_of_simulation simulate_refuses (judged.simulated (some_system files (omega (arith, are.enough, are.count))))
one_answer Replay files judged are = replay_answer (text_in files) (waves_in files) judged.replayed
one_answer Dump files judged are = replay_answer (text_in files) (waves_in files) judged.replayed
one_answer Undump files judged are = answer_for (CanUndump (dump_in files)) (IsUndumpFault (dump_in files)) answer_of_dump undump_refuses judged.undumped
one_answer (Campaign number) files judged are =
    answer_for (IsAccepted files) (IsRefusedBy files) (answer_of_system (Campaign number)) (by_words_refuses (Campaign number)) (judged.system (omega (arith, are.enough, are.count)))
one_answer (Bridge cycles) files judged are =
    answer_for (CanBridge (system_files files) (second_file files) cycles) (IsBridgeFault (system_files files) (second_file files) cycles) (answer_of_bridge cycles) (bridge_refuses cycles)
    (judged.bridged cycles (some_system files (omega (arith, are.enough, are.count))))
one_answer (Workload number) files judged are = (exit.Done, is_done)
one_answer (Module wanted) files judged are = (exit.Done, is_done)

-- what files can call for
of_files : (task : Task) (files : List (List ℕ)) (e : Exit) → CallsFor task files e → (e ≡ exit.Done) ⊎ RefusesFiles e
of_files Generate files e h = of_called (IsAccepted files) (IsRefusedBy files) exit_of system_refuses e h
of_files Check files e h = of_called (IsAccepted files) (IsRefusedBy files) exit_of system_refuses e h
of_files Simulate files e h =
    of_called (CanSimulate (system_files files) (second_file files)) (IsSimulateFault (system_files files) (second_file files)) answer_of_simulation simulate_refuses e h
of_files Replay files e h = of_called (CanReplayText (text_in files) (waves_in files)) (IsReplayTextFault (text_in files) (waves_in files)) answer_of replay_refuses e h
of_files Dump files e h = of_called (CanReplayText (text_in files) (waves_in files)) (IsReplayTextFault (text_in files) (waves_in files)) answer_of replay_refuses e h
of_files Undump files e h = of_called (CanUndump (dump_in files)) (IsUndumpFault (dump_in files)) answer_of_dump undump_refuses e h
of_files (Campaign number) files e h = of_called (IsAccepted files) (IsRefusedBy files) (answer_of_system (Campaign number)) (by_words_refuses (Campaign number)) e h
of_files (Bridge cycles) files e h =
    of_called (CanBridge (system_files files) (second_file files) cycles) (IsBridgeFault (system_files files) (second_file files) cycles) (answer_of_bridge cycles) (bridge_refuses cycles) e h
of_files (Workload number) files e h = inl (only_to_do e h)
of_files (Module wanted) files e h = inl (only_to_do e h)

-- so these answers aren't called for
never_called : (task : Task) (files : List (List ℕ)) (e : Exit) → (e ≡ exit.Done → ⊥) → (RefusesFiles e → ⊥) → CallsFor task files e → ⊥
never_called task files e other none h = ⊎_elim (λ done. other done) (λ r. none r) (of_files task files e h)

-- ---- from files to words

-- what files call for stops the run of the words that name them
pub files_stop : (words : List (List ℕ)) (reads : Reads) (task : Task) (files : List (List ℕ)) (e : Exit) → AsksFor words task → AreFiles task reads.told (file_words task (length words)) files
    → StopsFiles task files e → Stops words reads e
files_stop words reads task files (exit.ScriptRefused place rule) asks are s = ⊎_elim (λ e. (cc)) (λ is. (task, asks, record { files = files; are_files = are; only = is })) s
files_stop words reads task files (exit.LinkRefused connection rule other) asks are s = ⊎_elim (λ e. (cc)) (λ is. (task, asks, record { files = files; are_files = are; only = is })) s
files_stop words reads task files (exit.Limit which count) asks are s = ⊎_elim (λ e. (cc)) (λ is. (task, asks, inr (inr record { files = files; are_files = are; only = is }))) s
files_stop words reads task files exit.NoMemory asks are s = (task, asks, are.few)
files_stop words reads task files exit.Done asks are s = absurd s
files_stop words reads task files exit.Usage asks are s = ⊎_elim (λ e. (cc)) (λ is. absurd (never_called task files exit.Usage (λ d. (cc)) (λ r. r) is.called)) s
files_stop words reads task files (exit.ReadFault file) asks are s = ⊎_elim (λ e. (cc)) (λ is. absurd (never_called task files (exit.ReadFault file) (λ d. (cc)) (λ r. r) is.called)) s
files_stop words reads task files exit.WriteFault asks are s = ⊎_elim (λ e. (cc)) (λ is. absurd (never_called task files exit.WriteFault (λ d. (cc)) (λ r. r) is.called)) s
files_stop words reads task files (exit.VerilogRefused byte rule) asks are s = ⊎_elim (λ e. (cc)) (λ is. (task, asks, record { files = files; are_files = are; only = is })) s
files_stop words reads task files (exit.ScenarioRefused file line rule) asks are s = ⊎_elim (λ e. (cc)) (λ is. (task, asks, record { files = files; are_files = are; only = is })) s
files_stop words reads task files (exit.DumpRefused byte rule) asks are s = ⊎_elim (λ e. (cc)) (λ is. (task, asks, record { files = files; are_files = are; only = is })) s
files_stop words reads task files (exit.PacketRefused byte rule) asks are s = ⊎_elim (λ e. (cc)) (λ is. (task, asks, record { files = files; are_files = are; only = is })) s

-- what stops a file, behind others that were loaded, stops the loading of all
pub stops_at : (task : Task) (words file : ℕ) (earlier : List (List ℕ)) (here reads : Reads) (e : Exit) → AreLoaded task reads.told earlier → length earlier + 1 ≡ file → file < words → words ≤ 65
    → ((k : ℕ) → here.told k ≡ reads.told k) → reads.before ≤ here.before → here.after ≡ reads.after → here.failed ≡ reads.failed → StopsAtFile task file here e → StopsLoading task words reads e
stops_at task words file earlier here reads (exit.ReadFault f) loaded count inside few told less after failed s = record {
  few = few;
  earlier = earlier;
  loaded = loaded;
  inside = omega (arith, count, inside);
  number = s.0 ∙ ap (named_by task) (sym count);
  rose = omega (arith, s.1);
  is_failed = sym failed ∙ s.2 ∙ sym s.0;
}
stops_at task words file earlier here reads (exit.Limit which number) loaded count inside few told less after failed s = record {
  limit = s.0;
  few = few;
  earlier = earlier;
  loaded = loaded;
  inside = omega arith;
  count_is = subst (λ (n : ℕ). number ≡ most_bytes task n + 1) (sym count) s.1;
  long = subst (λ (n : ℕ). WhereTold (reads.told (named_by task n)) (λ bytes. most_bytes task n < length bytes)) (sym count)
      (subst (λ (o : Option (List ℕ)). WhereTold o (λ bytes. most_bytes task file < length bytes)) (told (named_by task file)) s.2);
}
stops_at task words file earlier here reads exit.NoMemory loaded count inside few told less after failed s = tt
stops_at task words file earlier here reads exit.Done loaded count inside few told less after failed s = absurd s
stops_at task words file earlier here reads exit.Usage loaded count inside few told less after failed s = absurd s
stops_at task words file earlier here reads exit.WriteFault loaded count inside few told less after failed s = absurd s
stops_at task words file earlier here reads (exit.ScriptRefused place rule) loaded count inside few told less after failed s = absurd s
stops_at task words file earlier here reads (exit.LinkRefused connection rule other) loaded count inside few told less after failed s = absurd s
stops_at task words file earlier here reads (exit.VerilogRefused byte rule) loaded count inside few told less after failed s = absurd s
stops_at task words file earlier here reads (exit.ScenarioRefused at line rule) loaded count inside few told less after failed s = absurd s
stops_at task words file earlier here reads (exit.DumpRefused byte rule) loaded count inside few told less after failed s = absurd s
stops_at task words file earlier here reads (exit.PacketRefused byte rule) loaded count inside few told less after failed s = absurd s

-- what stops the loading of the files stops the run of the words that name them
stops_here : (words : List (List ℕ)) (reads : Reads) (task : Task) (e : Exit) → AsksFor words task → file_words task (length words) ≤ 65
    → StopsLoading task (file_words task (length words)) reads e → Stops words reads e
stops_here words reads task (exit.ReadFault file) asks few s = (task, asks, s)
stops_here words reads task (exit.Limit which count) asks few s = (task, asks, inr (inl s))
stops_here words reads task exit.NoMemory asks few s = (task, asks, few)
stops_here words reads task exit.Done asks few s = absurd s
stops_here words reads task exit.Usage asks few s = absurd s
stops_here words reads task exit.WriteFault asks few s = absurd s
stops_here words reads task (exit.ScriptRefused place rule) asks few s = absurd s
stops_here words reads task (exit.LinkRefused connection rule other) asks few s = absurd s
stops_here words reads task (exit.VerilogRefused byte rule) asks few s = absurd s
stops_here words reads task (exit.ScenarioRefused file line rule) asks few s = absurd s
stops_here words reads task (exit.DumpRefused byte rule) asks few s = absurd s
stops_here words reads task (exit.PacketRefused byte rule) asks few s = absurd s

pub loading_stops : {X : Type 0} (f : X → List ℕ) (words : List X) (reads : Reads) (task : Task) (named : ℕ) (e : Exit) → AsksFor (map f words) task → named ≡ file_words task (length words)
    → named ≤ 65 → StopsLoading task named reads e → Stops (map f words) reads e
loading_stops f words reads task named e asks is few s =
    let same : named ≡ file_words task (length (map f words)) = is ∙ ap (file_words task) (sym (length-map words f)) in
    stops_here (map f words) reads task e asks (subst (λ (n : ℕ). n ≤ 65) same few) (subst (λ (n : ℕ). StopsLoading task n reads e) same s)

-- more words than files are read
pub files_limit : (words : ℕ) → 64 < words - 1 → IsFilesLimit 7 (words - 1) words
files_limit words passed = record { limit = refl; count_is = omega arith; passed = passed }

-- where nothing fails in another task of the words, nothing fails in this
same_well : (words : List (List ℕ)) (reads : Reads) (writes : Writes) (asked task : Task) (files : List (List ℕ)) → AsksFor words asked → NothingFails task files words reads writes
    → NothingFails asked files words reads writes
same_well words reads writes asked task files asks well = subst (λ (t : Task). NothingFails t files words reads writes) (one_task words task asked well.asks asks) well

-- the answer of the files that were loaded is that of the files that are told
pub same_answer : (words : List (List ℕ)) (reads : Reads) (writes : Writes) (e : Exit) (asked task : Task) (files loaded : List (List ℕ)) → AsksFor words asked
    → AreFiles asked reads.told (file_words asked (length words)) loaded → NothingFails task files words reads writes → IsOnlyAnswer asked loaded e → IsOnlyAnswer task files e
same_answer words reads writes e asked task files loaded asks are well only =
    let here = same_well words reads writes asked task files asks well in
    let same : loaded ≡ files = told_files asked reads.told (file_words asked (length words)) loaded files are here.count here.told in
    let answer : IsOnlyAnswer asked files e = subst (λ (fs : List (List ℕ)). IsOnlyAnswer asked fs e) same only in
    subst (λ (t : Task). IsOnlyAnswer t files e) (one_task words asked task asks well.asks) answer

called_for : (words : List (List ℕ)) (reads : Reads) (writes : Writes) (e : Exit) (asked task : Task) (files : List (List ℕ)) → AsksFor words asked
    → IsCalledFor asked (file_words asked (length words)) reads.told e → NothingFails task files words reads writes → IsOnlyAnswer task files e
called_for words reads writes e asked task files asks is well = same_answer words reads writes e asked task files is.files asks is.are_files well is.only

-- where nothing fails, there are neither more files than are read nor longer ones
not_many : (words : List (List ℕ)) (reads : Reads) (writes : Writes) (asked task : Task) (files : List (List ℕ)) (which count : ℕ) → AsksFor words asked
    → IsFilesLimit which count (file_words asked (length words)) → NothingFails task files words reads writes → ⊥
not_many words reads writes asked task files which count asks many well =
    let here = same_well words reads writes asked task files asks well in
    omega (arith, here.few, here.count, many.passed, many.count_is)

none_long : (words : List (List ℕ)) (reads : Reads) (writes : Writes) (asked task : Task) (files : List (List ℕ)) (which count : ℕ) → AsksFor words asked
    → IsBytesLimit asked which count (file_words asked (length words)) reads.told → NothingFails task files words reads writes → ⊥
none_long words reads writes asked task files which count asks long well =
    let here = same_well words reads writes asked task files asks well in
    not_long asked (file_words asked (length words)) reads.told files long.earlier long.inside long.long here.count here.told here.short

-- what stops a run where nothing fails is the answer that the files call for, or want of memory
pub completes : (words : List (List ℕ)) (reads : Reads) (writes : Writes) (e : Exit) → Stops words reads e
    → (task : Task) (files : List (List ℕ)) → NothingFails task files words reads writes → (e ≡ exit.NoMemory) ⊎ IsOnlyAnswer task files e
completes words reads writes exit.NoMemory s task files well = inl refl
completes words reads writes exit.Usage s task files well = absurd (s task well.asks)
completes words reads writes exit.Done s task files well = absurd s.2
completes words reads writes exit.WriteFault s task files well = absurd s.2
completes words reads writes (exit.ReadFault file) s task files well = absurd (well.reads_well s.2.rose)
completes words reads writes (exit.ScriptRefused place rule) s task files well = inr (called_for words reads writes (exit.ScriptRefused place rule) s.0 task files s.1 s.2 well)
completes words reads writes (exit.LinkRefused connection rule other) s task files well = inr (called_for words reads writes (exit.LinkRefused connection rule other) s.0 task files s.1 s.2 well)
completes words reads writes (exit.VerilogRefused byte rule) s task files well = inr (called_for words reads writes (exit.VerilogRefused byte rule) s.0 task files s.1 s.2 well)
completes words reads writes (exit.ScenarioRefused file line rule) s task files well = inr (called_for words reads writes (exit.ScenarioRefused file line rule) s.0 task files s.1 s.2 well)
completes words reads writes (exit.DumpRefused byte rule) s task files well = inr (called_for words reads writes (exit.DumpRefused byte rule) s.0 task files s.1 s.2 well)
completes words reads writes (exit.PacketRefused byte rule) s task files well = inr (called_for words reads writes (exit.PacketRefused byte rule) s.0 task files s.1 s.2 well)
completes words reads writes (exit.Limit which count) s task files well =
    ⊎_elim
    (λ many. absurd (not_many words reads writes s.0 task files which count s.1 many well))
    (λ rest. ⊎_elim
    (λ long. absurd (none_long words reads writes s.0 task files which count s.1 long well))
    (λ is. inr (called_for words reads writes (exit.Limit which count) s.0 task files s.1 is well))
    rest)
    s.2
