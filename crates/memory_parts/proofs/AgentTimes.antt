-- When the words of an agent go up: each in its cycle, or at latency 0 in the next.
use Rattle.std.proofs.Common.{ℕ, zero, suc, ◌<◌, ◌≤◌, ◌≡◌, ◌-◌, [], ◌∷◌, List, Bool, true, false, ◌&&◌, IsFalse, nat_le, nat_lt, if◌then◌else◌, max, arith, tests, refl, sym, ap, ap₂, ◌∙◌, length, filter, length-append, le_of_eq}
use Rattle.std.proofs.lemmas.List.{length-map}
use Rattle.histories.specs.History.{before, only_if, one_if, is_raised}
use Rattle.histories.specs.Laws.{prefix_length, prefix_flat_map, prefix_filter, before_extends}
use Rattle.memory_runs.specs.Views.{Shape, Responses, System, Run, AgentSide, AgentView}
use Rattle.memory_runs.specs.Operations.{Beat}
use Rattle.memory_runs.specs.Commands.{agent_accepts, is_of_reads}
use Rattle.memory_runs.specs.Legal.{IsLegalAgent, Word}
use Rattle.memory_runs.specs.Order.{TaggedBeat, beats_taken, is_read_beat, words_given_in}
use Rattle.memory_machines.specs.Link.{Marked, takes, taken_at, words_at, words_owed, read_beats}
use Rattle.memory_machines.specs.Lines.{TaggedPort, IsFit, AreTaggedInOrder, word_tags}
use Rattle.memory_machines.specs.SideLaws.{same_counts}
use Rattle.memory_parts.specs.Queue.{takes_read}
use Rattle.memory_parts.specs.Agent.{AgentState, IsAgentMachine, IsAgentPlan, row_places}
use Rattle.memory_parts.specs.Steps.{words_from_agent}
use Rattle.memory_parts.proofs.Alike.{AreAlike, tag_all, tagged_beats}
use Rattle.memory_parts.proofs.Alike.AreAlike.{no_beats, one_more}
use Rattle.memory_parts.proofs.Pairs.{TaggedWord, words_up, tags_are, reads_up}
use Rattle.memory_parts.proofs.AgentShown.{same_takes}
use Rattle.memory_parts.proofs.AgentBeats.{all_alike}
use Rattle.memory_parts.proofs.AgentWords.{GivesInOrder, queued_in_order, asked_tags_are, alike_reads, reads_split}
use Rattle.memory_parts.proofs.AgentRow.{valid_is, gives_read, fixed_in_order}

alike_length : (from to : Shape) (span : ℕ) (aboves belows : List TaggedBeat) → AreAlike from to span aboves belows → length aboves ≡ length belows
alike_length from to span [] [] no_beats = refl
alike_length from to span [] (below ∷ belows) x = elim x [ ]
alike_length from to span (above ∷ aboves) [] x = elim x [ ]
alike_length from to span (above ∷ aboves) (below ∷ belows) (one_more tag beat rest) = ap suc (alike_length from to span aboves belows rest)

reads_length : (ms : List Marked) → length (reads_up ms) ≡ length (read_beats ms)
reads_length [] = refl
reads_length (m ∷ ms) = by_kind (is_of_reads m.transfer.kind) refl (reads_length ms)
  where
    by_kind : (b : Bool) → is_of_reads m.transfer.kind ≡ b → length (reads_up ms) ≡ length (read_beats ms) → length (reads_up (m ∷ ms)) ≡ length (read_beats (m ∷ ms))
    by_kind true e more = rw e (
        let one = length-append (tag_all m.tag m.transfer.beats) (reads_up ms) in
        let two = length-append m.transfer.beats (read_beats ms) in
        let same = length-map {B = TaggedBeat} m.transfer.beats (λ (b : Beat). record { tag = m.tag; beat = b }) in
        omega (arith, one, two, same, more)
        )
    by_kind false e more = rw e more

-- histories that grow by as much in each cycle are as long
pub as_long : {A B : Type 0} (f : ℕ → List A) (g : ℕ → List B) (end c : ℕ) → ((k : ℕ) → k < end → length (f k) ≡ length (g k)) → c ≤ end → length (before f c) ≡ length (before g c)
as_long f g end zero same low = refl
as_long f g end (suc c) same low =
    let more = as_long f g end c same (omega (arith, low)) in
    let now = same c (omega (arith, low)) in
    let one = length-append (before f c) (f c) in
    let two = length-append (before g c) (g c) in
    omega (arith, more, now, one, two)

-- and one cycle later
as_long_later : {A B : Type 0} (f : ℕ → List A) (g : ℕ → List B) (end c : ℕ) → (0 < end → length (f 0) ≡ 0) → ((k : ℕ) → suc k < end → length (f (suc k)) ≡ length (g k)) → c < end → length (before f (suc c)) ≡ length (before g c)
as_long_later f g end zero first same low = first low
as_long_later f g end (suc c) first same low =
    let more = as_long_later f g end c first same (omega (arith, low)) in
    let now = same c low in
    let one = length-append (before f (suc c)) (f (suc c)) in
    let two = length-append (before g c) (g c) in
    omega (arith, more, now, one, two)

one_long : {A : Type 0} (b : Bool) (x : A) → length (only_if b x) ≡ one_if b
one_long true x = refl
one_long false x = refl

-- by how many words an agent is told of above
pub record IsTimely (system : System) (run : Run) (agent : ℕ) (up : TaggedPort) (end : ℕ) : Type 0 where
  pub given : (c : ℕ) → c ≤ end → length (words_at up.port c) ≤ words_from_agent system run agent c
  pub come : (c : ℕ) → c < end → IsFalse (agent_accepts (system.agent agent) (run.at_agent agent) c) → words_from_agent system run agent (suc c) ≤ length (words_at up.port (suc c))
  pub asked : (c : ℕ) → c < end → words_from_agent system run agent c ≤ words_owed up.port c

module _ (responses : Responses) (system : System) (run : Run) (agent : ℕ) (up : TaggedPort) (state : AgentState) (end : ℕ) (machine : IsAgentMachine responses (system.agent agent) (run.at_agent agent) up state end) (plan : IsAgentPlan (system.agent agent))
    (fit : IsFit system agent up.port end) (proper : IsLegalAgent (system.agent agent) (run.at_agent agent) end) where
  abbrev side : AgentSide
  side = system.agent agent

  abbrev view : AgentView
  view = run.at_agent agent

  gives : GivesInOrder responses system run agent up end
  gives = by_has side.has_readdatavalid refl
    where
      by_has : (b : Bool) → side.has_readdatavalid ≡ b → GivesInOrder responses system run agent up end
      by_has true has = queued_in_order system run agent up state end machine.commands plan fit responses proper has (machine.queued has)
      by_has false has = fixed_in_order system run agent up state end machine.commands plan fit responses has (machine.fixed has)

  pub tags_in_order : AreTaggedInOrder up end
  tags_in_order = gives.tags

  abbrev words : ℕ → ℕ
  words c = length (words_at up.port c)

  -- the read beats that the agent has taken are those that were taken above
  pub reads_are : (c : ℕ) → c ≤ end → length (filter is_read_beat (beats_taken system run agent c)) ≡ words_owed up.port c
  reads_are c low =
      let same = alike_length up.shape side.shape side.span (filter is_read_beat (tagged_beats (taken_at up.port c))) (filter is_read_beat (beats_taken system run agent c))
      (alike_reads up.shape side.shape side.span (tagged_beats (taken_at up.port c)) (beats_taken system run agent c) (all_alike system run agent up state end machine.commands plan fit.legal fit.kinds fit.lanes c low)) in
      sym same ∙ ap length (sym (reads_split up.port c)) ∙ reads_length (taken_at up.port c)

  few : (c : ℕ) → c < end → words (suc c) ≤ words_owed up.port c
  few c low =
      let p = prefix_length (gives.tags c low) in
      let left : length (word_tags up (suc c)) ≡ words (suc c) =
      ap length (tags_are up (suc c)) ∙ length-map (words_up up (suc c)) (λ (w : TaggedWord). w.tag)
      ∙ same_counts (λ c. is_raised (up.answers.valid c)) (λ c. record { tag = up.answer_tag c; word = record { word = up.answers.word c; code = up.answers.code c } }) (λ c. record { word = up.answers.word c; code = up.answers.code c }) (suc c) in
      let right = ap length (asked_tags_are (taken_at up.port c)) ∙ length-map (reads_up (taken_at up.port c)) (λ (t : TaggedBeat). t.tag) ∙ reads_length (taken_at up.port c) in
      omega (arith, p, left, right)

  owed_grows : (c : ℕ) → words_owed up.port c ≤ words_owed up.port (suc c)
  owed_grows c = prefix_length (prefix_flat_map (λ (m : Marked). m.transfer.beats) (prefix_filter (λ (m : Marked). is_of_reads m.transfer.kind) (before_extends (λ c. only_if (takes up.port c) _) c)))

  -- each word goes up in its cycle
  at_once : ((c : ℕ) → c ≤ end → words c ≡ words_from_agent system run agent c) → IsTimely system run agent up end
  at_once same = record {
    given = λ c low. le_of_eq (same c low);
    come = λ c low none. le_of_eq (sym (same (suc c) low));
    asked = asked;
  }
    where
      asked : (c : ℕ) → c < end → words_from_agent system run agent c ≤ words_owed up.port c
      asked zero low = omega arith
      asked (suc c) low = let is = same (suc c) (omega (arith, low)) in let most = few c (omega (arith, low)) in let more = owed_grows c in omega (arith, is, most, more)

  -- each word goes up one cycle later
  one_later : ((c : ℕ) → c < end → words (suc c) ≡ words_from_agent system run agent c) → ((c : ℕ) → c < end → IsFalse (agent_accepts side view c) → words_from_agent system run agent (suc c) ≡ words_from_agent system run agent c) → IsTimely system run agent up end
  one_later late still = record {
    given = given;
    come = λ c low none. le_of_eq (still c low none ∙ sym (late c low));
    asked = λ c low. let is = late c low in let most = few c low in omega (arith, is, most);
  }
    where
      given : (c : ℕ) → c ≤ end → words c ≤ words_from_agent system run agent c
      given zero low = omega arith
      given (suc c) low = let is = late c low in let grows = prefix_length (before_extends (words_given_in system run agent) c) in omega (arith, is, grows)

  abbrev up_in : ℕ → List Word
  up_in c = only_if (is_raised (up.answers.valid c)) (record { word = up.answers.word c; code = up.answers.code c })

  abbrev reads : ℕ → Bool
  reads c = takes_read up.port c

  queued_timely : side.has_readdatavalid ≡ true → IsTimely system run agent up end
  queued_timely has = at_once (λ c low. as_long up_in (words_given_in system run agent) end c now low)
    where
      word_in : Bool → Bool → ℕ → List Word
      word_in h v c = only_if (if h then v else nat_le side.read_latency c && is_raised (view.read (c - side.read_latency)) && agent_accepts side view (c - side.read_latency)) (record { word = view.readdata c; code = view.response c })

      now : (c : ℕ) → c < end → length (up_in c) ≡ length (words_given_in system run agent c)
      now c low =
          one_long (is_raised (up.answers.valid c)) _ ∙ ap one_if ((machine.queued has).valid c low)
          ∙ sym (ap (λ h. length (word_in h (is_raised (view.readdatavalid c)) c)) has ∙ one_long (is_raised (view.readdatavalid c)) _)

  -- without readdatavalid the agent gives a word for each read, so many cycles later
  fixed_in : side.has_readdatavalid ≡ false → (c : ℕ) → c < end → length (words_given_in system run agent c) ≡ one_if (nat_le side.read_latency c && reads (c - side.read_latency))
  fixed_in has c low =
      ap (λ h. length (word_in h)) has ∙ one_long (nat_le side.read_latency c && is_raised (view.read (c - side.read_latency)) && agent_accepts side view (c - side.read_latency)) _
      ∙ ap one_if (assoc (nat_le side.read_latency c) (is_raised (view.read (c - side.read_latency))) (agent_accepts side view (c - side.read_latency)) ∙ ap (λ b. nat_le side.read_latency c && b) (gives_read system run agent up state end machine.commands plan fit responses has (machine.fixed has) (c - side.read_latency) (omega (arith, low))))
    where
      word_in : Bool → List Word
      word_in h = only_if (if h then is_raised (view.readdatavalid c) else nat_le side.read_latency c && is_raised (view.read (c - side.read_latency)) && agent_accepts side view (c - side.read_latency)) (record { word = view.readdata c; code = view.response c })

      assoc : (a b c : Bool) → ((a && b) && c) ≡ (a && (b && c))
      assoc true b c = refl
      assoc false b c = refl

  valid_in : (has : side.has_readdatavalid ≡ false) → (c : ℕ) → c < end → length (up_in c) ≡ one_if (nat_lt (row_places side - 1) c && reads (c - suc (row_places side - 1)))
  valid_in has c low = one_long (is_raised (up.answers.valid c)) _ ∙ ap one_if (valid_is system run agent up state end machine.commands plan fit responses has (machine.fixed has) c low)

  fixed_timely : side.has_readdatavalid ≡ false → (l : ℕ) → side.read_latency ≡ l → IsTimely system run agent up end
  fixed_timely has zero none = one_later (λ c low. as_long_later up_in (words_given_in system run agent) end c first now low) still
    where
      last_is : row_places side - 1 ≡ 0
      last_is = ap (λ n. max 1 n - 1) none ∙ (omega arith)

      given_in : (c : ℕ) → c < end → length (words_given_in system run agent c) ≡ one_if (reads c)
      given_in c low = fixed_in has c low ∙ ap (λ n. one_if (nat_le n c && reads (c - n))) none ∙ plain
        where
          plain : one_if (nat_le 0 c && reads (c - 0)) ≡ one_if (reads c)
          plain = let same : c - 0 ≡ c = omega arith in let low : nat_le 0 c ≡ true = grind (arith, tests) in ap₂ (λ b k. one_if (b && reads k)) low same

      first : 0 < end → length (up_in 0) ≡ 0
      first some = valid_in has 0 some ∙ ap (λ n. one_if (nat_lt n 0 && reads (0 - suc n))) last_is

      now : (c : ℕ) → suc c < end → length (up_in (suc c)) ≡ length (words_given_in system run agent c)
      now c low =
          valid_in has (suc c) low ∙ ap (λ n. one_if (nat_lt n (suc c) && reads (suc c - suc n))) last_is ∙ plain ∙ sym (given_in c (omega (arith, low)))
        where
          plain : one_if (nat_lt 0 (suc c) && reads (suc c - 1)) ≡ one_if (reads c)
          plain = let same : suc c - 1 ≡ c = omega arith in let some : nat_lt 0 (suc c) ≡ true = grind (arith, tests) in ap₂ (λ b k. one_if (b && reads k)) some same

      still : (c : ℕ) → c < end → IsFalse (agent_accepts side view c) → words_from_agent system run agent (suc c) ≡ words_from_agent system run agent c
      still c low none =
          let one = length-append (before (words_given_in system run agent) c) (words_given_in system run agent c) in
          let no_read : reads c ≡ false = ap (λ t. t && is_raised (up.commands.read c)) (same_takes side view up state end machine.commands plan fit.legal fit.kinds c low ∙ none) in
          let now = given_in c low ∙ ap one_if no_read in
          omega (arith, one, now)
  fixed_timely has (suc l) some = at_once (λ c low. as_long up_in (words_given_in system run agent) end c now low)
    where
      last_is : row_places side - 1 ≡ l
      last_is = ap (λ n. max 1 n - 1) some ∙ (omega arith)

      now : (c : ℕ) → c < end → length (up_in c) ≡ length (words_given_in system run agent c)
      now c low =
          valid_in has c low ∙ ap (λ n. one_if (nat_lt n c && reads (c - suc n))) last_is ∙ ap (λ b. one_if (b && reads (c - suc l))) same ∙ sym (fixed_in has c low ∙ ap (λ n. one_if (nat_le n c && reads (c - n))) some)
        where
          same : nat_lt l c ≡ nat_le (suc l) c
          same = grind (arith, tests)

  pub timely : IsTimely system run agent up end
  timely = by_has side.has_readdatavalid refl
    where
      by_has : (b : Bool) → side.has_readdatavalid ≡ b → IsTimely system run agent up end
      by_has true has = queued_timely has
      by_has false has = fixed_timely has side.read_latency refl
