-- From what an agent takes of a host up to what the host has presented for it: at each part the sizes below are a front of those above.
use Rattle.std.proofs.Common.{ℕ, ◌<◌, ◌≤◌, ◌≡◌, ◌*◌, ◌-◌, Bool, true, false, List, [], arith, refl, sym, ap, ap₂, subst, ◌∙◌, IsTrue, length, map, filter, flat_map, nat_eq, nat_le, Option, Some, None, MatchOption, zero, suc, ◌++◌, nat_lt, slice_get, zero-mul}
use Rattle.std.specs.Bool.{⊤}
use Rattle.std.proofs.lemmas.Bool.{and_parts, false≢true, leb-true}
use Rattle.histories.specs.History.{IsPrefix, only_if}
use Rattle.histories.specs.Laws.{prefix_trans, prefix_filter, prefix_flat_map, before_prefix}
use Rattle.memory_runs.specs.Views.{Responses, Shape, System, Run}
use Rattle.memory_runs.specs.Commands.{Transfer, shows}
use Rattle.memory_runs.specs.Order.{TaggedBeat, beats_taken, operations_at, for_agent, host_transfers, is_agent, place_of}
use Rattle.memory_runs.specs.Packed.{ReadsEachTouchedWordOnce}
use Rattle.memory_runs.specs.Shorter.{owed_before}
use Rattle.memory_runs.specs.Whole.{IsLegalRun}
use Rattle.memory_machines.specs.Link.{Target, Port, Marked, AreLegalAt, AnswersAreOwed, takes, marked_at, shown_at, taken_at}
use Rattle.memory_machines.specs.Lines.{TaggedPort, AreOwedByTag, target_of, with_tag}
use Rattle.memory_machines.specs.PartRanks.{JoinsAlike}
use Rattle.memory_machines.specs.Settled.{IsSettled}
use Rattle.memory_machines.specs.SideLaws.{taken_is_shown}
use Rattle.memory_links.specs.Packs.{PacksReads, TakesTouches, acting, beat_sizes, touches_of, transfer_touches}
use Rattle.memory_links.specs.Selects.{EnablesFit}
use Rattle.memory_awake.specs.Fair.{AreParts}
use Rattle.memory_awake.specs.Rows.{CutsBursts, FitsWords, DropsBeats, GathersBelowCut}
use Rattle.memory_awake.specs.RowSystem.{RowPorts, AreRows, boundaries_of}
use Rattle.memory_awake.specs.Theorem.{Boundaries, States, LinkRanks, ArePlanned, AreMachines, KeepLines, KeepRows, IsBuilt, inside_of}
use Rattle.memory_awake.specs.Packed.{RowPacks, RowsPack}
use Rattle.memory_awake.proofs.packed.Agent.{agent_takes}
use Rattle.memory_awake.proofs.packed.Above.{arbiter_takes, route_takes, host_gives}

-- what the rows, the systems and the touches promise
pub record Laws : Type 0 where
  pub rows : (target : Target) (top middle low down : Port) (end : ℕ) (cuts : CutsBursts top middle) (fits : FitsWords target middle low) → DropsBeats target low down →
      GathersBelowCut cuts fits → RowPacks cuts fits → top.shape.word_bytes ≤ target.shape.word_bytes → down.shape.word_bytes ≡ target.shape.word_bytes →
      (times : ℕ) → 0 < times → target.span ≡ times * target.shape.word_bytes → EnablesFit top end → AreLegalAt top end → PacksReads target top down end
  pub once : (system : System) (run : Run) (host agent end : ℕ) → TakesTouches system run host agent end → ReadsEachTouchedWordOnce system run host agent end
  pub built : (responses : Responses) (system : System) (run : Run) (ports : RowPorts) (states : States) (end : ℕ) →
      ArePlanned system (boundaries_of ports) states → AreMachines responses system run (boundaries_of ports) states end → AreRows system run ports end → IsLegalRun system run end →
      (ranks : LinkRanks) × IsBuilt responses system run (boundaries_of ports) states ranks end
  pub settled : (responses : Responses) (system : System) (run : Run) (ports : RowPorts) (states : States) (end : ℕ) →
      ArePlanned system (boundaries_of ports) states → AreMachines responses system run (boundaries_of ports) states end → AreRows system run ports end → IsLegalRun system run end →
      (h a : ℕ) → h < system.hosts → a < system.agents →
      AreLegalAt (ports.after_route h a) end × AnswersAreOwed (ports.before_arbiter h a) end × JoinsAlike (target_of system a) (ports.after_route h a) end × EnablesFit (ports.after_route h a) end
  pub lines : (responses : Responses) (system : System) (run : Run) (inside : Boundaries) (states : States) (end : ℕ) → ArePlanned system inside states → AreMachines responses system run inside states end →
      KeepLines responses system run inside states end
  pub settle : (responses : Responses) (system : System) (run : Run) (inside : Boundaries) (states : States) (end : ℕ) → ArePlanned system inside states → KeepRows system run inside states end →
      AreMachines responses system run inside states end → IsLegalRun system run end → IsSettled system run (inside_of system inside) states.room end
  pub parts : (responses : Responses) (system : System) (run : Run) (inside : Boundaries) (states : States) (ranks : LinkRanks) (end : ℕ) →
      IsBuilt responses system run inside states ranks end → IsLegalRun system run end → AreParts system run inside end

-- where nothing is shown nothing is taken
none_taken : (port : Port) (end : ℕ) → ((c : ℕ) → c < end → shows port.commands.signals c ≡ true → ⊥) → (c : ℕ) → c ≤ end → taken_at port c ≡ []
none_taken port end quiet zero h = refl
none_taken port end quiet (suc c) h =
    ap (λ l. l ++ only_if (takes port c) (marked_at port c)) (none_taken port end quiet c (omega (arith, h))) ∙ by_take (takes port c) refl
  where
    by_take : (t : Bool) → takes port c ≡ t → only_if t (marked_at port c) ≡ []
    by_take false t = refl
    by_take true t = absurd (quiet c (omega (arith, h)) (and_parts (shows port.commands.signals c) _ t).0)

unasked : {A : Type 0} (o : Option A) (F : A → Type 0) → ((x : A) → F x) → MatchOption o ⊤ F
unasked None F all = tt
unasked (Some x) F all = all x

some_span : (span times word : ℕ) → span ≡ times * word → 0 < span → 0 < times
some_span span zero word e some = (let none = zero-mul word in omega (arith, e, none, some))
some_span span (suc times) word e some = omega arith

module _ (laws : Laws) (responses : Responses) (system : System) (run : Run) (ports : RowPorts) (states : States) (end : ℕ) (plan : ArePlanned system (boundaries_of ports) states)
    (machines : AreMachines responses system run (boundaries_of ports) states end) (rows : AreRows system run ports end) (packs : RowsPack rows) (legal : IsLegalRun system run end) where
  abbrev inside : Boundaries
  inside = boundaries_of ports

  built : (ranks : LinkRanks) × IsBuilt responses system run (boundaries_of ports) states ranks end
  built = laws.built responses system run ports states end plan machines rows legal

  parts : AreParts system run (boundaries_of ports) end
  parts = laws.parts responses system run (boundaries_of ports) states built.0 end built.1 legal

  settle : IsSettled system run (inside_of system (boundaries_of ports)) states.room end
  settle = laws.settle responses system run (boundaries_of ports) states end plan built.1.rows machines legal

  lines : KeepLines responses system run (boundaries_of ports) states end
  lines = laws.lines responses system run (boundaries_of ports) states end plan machines

  module _ (h a : ℕ) (is : h < system.hosts) (there : a < system.agents) where
    abbrev target : Target
    target = target_of system a

    abbrev near : TaggedPort
    near = ports.lower a 0

    abbrev far : TaggedPort
    far = ports.lower a system.stages

    abbrev before_arbiter : Port
    before_arbiter = ports.before_arbiter h a

    abbrev after_route : Port
    after_route = ports.after_route h a

    abbrev sizes : Port → List Marked → List ℕ
    sizes port ms = acting (flat_map (beat_sizes target port.shape) ms)

    -- ---- the agent, its pipe and its arbiter

    owed_near : AreOwedByTag system (ports.lower a 0) (end - 1)
    owed_near tag c is_tag low =
        ((lines.agent a there).answers end (omega arith) (settle.before_agent a there) (legal.agents a there)).owed tag c is_tag (omega (arith, low))

    piped : (c : ℕ) → c ≤ end → IsPrefix (taken_at (ports.lower a 0).port c) (taken_at (ports.lower a system.stages).port c)
    piped c low =
        prefix_trans (((built.1.rows.pipe a there).commands end (omega arith) (settle.after_arbiter a there).legal owed_near).taken c low)
        (before_prefix (λ k. only_if (takes far.port k) (marked_at far.port k)) (c - system.stages) c (omega arith))

    pub below_arbiter : (c : ℕ) → c ≤ end →
        IsPrefix (acting (map (λ (b : TaggedBeat). length (operations_at system a b)) (filter (λ (b : TaggedBeat). nat_eq b.tag h) (beats_taken system run a c))))
        (acting (flat_map (beat_sizes target before_arbiter.shape) (taken_at before_arbiter c)))
    below_arbiter c low =
        let own = agent_takes system run a h near (states.agent a) end (machines.agent a there).commands (plan.agents a there) (settle.before_agent a there) (λ c low. parts.agent a c there low) c low in
        let front = prefix_filter (nat_lt 0) (prefix_flat_map (beat_sizes target near.shape) (prefix_filter (λ (m : Marked). nat_eq m.tag h) (piped c low))) in
        let shapes : near.shape ≡ before_arbiter.shape = sym (built.1.rows.pipe a there).same ∙ sym ((machines.arbiter a there).shapes h is) in
        let behind : sizes near.port (with_tag h (taken_at far.port c)) ≡ sizes before_arbiter (taken_at before_arbiter c) =
        ap₂ (λ s ms. acting (flat_map (beat_sizes target s) ms)) shapes (arbiter_takes system a h end (λ h. ports.before_arbiter h a) far (parts.arbiter a there) is c low) in
        subst (λ l. IsPrefix l (sizes before_arbiter (taken_at before_arbiter c))) (sym own) (subst (IsPrefix (sizes near.port (with_tag h (taken_at near.port c)))) behind front)

    -- ---- the row

    pub row_fronts : IsTrue (nat_le (system.host h).word_bytes (system.agent a).word_bytes) → (c : ℕ) → c ≤ end →
        IsPrefix (acting (flat_map (beat_sizes target before_arbiter.shape) (taken_at before_arbiter c))) (acting (flat_map (touches_of target after_route.shape) (taken_at after_route c)))
    row_fronts narrow c low = by_idle (rows.idle h a) refl
      where
        words : before_arbiter.shape.word_bytes ≡ target.shape.word_bytes
        words = ap (λ (s : Shape). s.word_bytes) ((machines.arbiter a there).shapes h is ∙ (built.1.rows.pipe a there).same) ∙ (machines.agent a there).commands.words

        own_words : after_route.shape.word_bytes ≡ (system.host h).word_bytes
        own_words = ap (λ (s : Shape). s.word_bytes) ((parts.route h is).shape a there) ∙ (plan.places h is).words

        fits : after_route.shape.word_bytes ≤ target.shape.word_bytes
        fits = (let least = leb-true (system.host h).word_bytes (system.agent a).word_bytes narrow in omega (arith, own_words, least))

        by_idle : (b : Bool) → rows.idle h a ≡ b →
            IsPrefix (acting (flat_map (beat_sizes target before_arbiter.shape) (taken_at before_arbiter c))) (acting (flat_map (touches_of target after_route.shape) (taken_at after_route c)))
        by_idle true e =
            let apart = (rows.apart h a is there e).0 in
            let none = none_taken before_arbiter end (λ k early shown. false≢true (sym apart ∙ ((parts.arbiter a there).joined h k early shown).1)) c low in
            subst (λ l. IsPrefix (acting (flat_map (beat_sizes target before_arbiter.shape) l)) (acting (flat_map (touches_of target after_route.shape) (taken_at after_route c)))) (sym none)
            (record { rest = acting (flat_map (touches_of target after_route.shape) (taken_at after_route c)); joins = refl })
        by_idle false e =
            let all = laws.settled responses system run ports states end plan machines rows legal h a is there in
            laws.rows target after_route (ports.below_cutter h a) (ports.above_dropper h a) before_arbiter end (rows.cuts h a is there e) (rows.fits h a is there e) (rows.drops h a is there e)
            (rows.gathers h a is there e) (packs h a is there e) fits words (plan.agents a there).span (some_span (system.agent a).span (plan.agents a there).span (system.agent a).word_bytes (plan.agents a there).spans (plan.agents a there).some_span)
            (plan.agents a there).spans all.3 all.0 c low

    -- ---- the route and the host

    pub above_route : (c : ℕ) → c ≤ end →
        IsPrefix (acting (flat_map (touches_of target after_route.shape) (taken_at after_route c))) (acting (flat_map (transfer_touches system h a) (for_agent system h a (host_transfers system run h c))))
    above_route c low =
        let up = ports.after_host h in
        let line = (lines.host h is).commands end (omega arith) (legal.hosts h is) (owed_before _ _ (end - 1) end (omega arith) (settle.owed h is)) in
        let given = host_gives (taken_at up c) (shown_at up c) (host_transfers system run h c) (taken_is_shown up end c (settle.legal h is) low) (line.in_order c low) in
        let front = prefix_filter (nat_lt 0) (prefix_flat_map (transfer_touches system h a) (prefix_filter (λ (t : Transfer). is_agent a (place_of system h t)) given)) in
        subst (λ l. IsPrefix (acting l) (acting (flat_map (transfer_touches system h a) (for_agent system h a (host_transfers system run h c)))))
        (sym (route_takes system h a end up (λ a. ports.after_route h a) (parts.route h is) (plan.places h is) there c low)) front

    takes_touches : IsTrue (nat_le (system.host h).word_bytes (system.agent a).word_bytes) → TakesTouches system run h a end
    takes_touches narrow c low = prefix_trans (below_arbiter c low) (prefix_trans (row_fronts narrow c low) (above_route c low))

pub read_once : Laws → (responses : Responses) (system : System) (run : Run) (ports : RowPorts) (states : States) (end : ℕ) → ArePlanned system (boundaries_of ports) states →
    AreMachines responses system run (boundaries_of ports) states end → (rows : AreRows system run ports end) → RowsPack rows → IsLegalRun system run end →
    (host agent : ℕ) → host < system.hosts → agent < system.agents → ReadsEachTouchedWordOnce system run host agent end
read_once laws responses system run ports states end plan machines rows packs legal h a is there = by_words (nat_le (system.host h).word_bytes (system.agent a).word_bytes) refl
  where
    by_words : (b : Bool) → nat_le (system.host h).word_bytes (system.agent a).word_bytes ≡ b → ReadsEachTouchedWordOnce system run h a end
    by_words true e = laws.once system run h a end (takes_touches laws responses system run ports states end plan machines rows packs legal h a is there e)
    by_words false e = λ c number count low. unasked (slice_get (for_agent system h a (host_transfers system run h c)) number) _ (λ t reads narrow. absurd (false≢true (sym e ∙ narrow)))
