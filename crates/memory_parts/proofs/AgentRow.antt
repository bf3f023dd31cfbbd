-- The words that go up from an agent of fixed latency.
use Rattle.std.proofs.Common.{ℕ, zero, suc, ◌<◌, ◌≤◌, ◌≡◌, ◌-◌, ◌^◌, [], ◌∷◌, ◌++◌, ◌∷◌, List, Bool, true, false, not, ◌&&◌, if◌then◌else◌, nat_lt, nat_le, arith, tests, refl, sym, ap, ap₂, ◌∙◌, subst, length, map, append-nil, replicate, Option, Some, None, is_some}
use Rattle.std.specs.Prelude.{MatchOption}
use Rattle.std.proofs.lemmas.Bool.{and_parts, ltb-true, ltb-false, lt-ltb, le-ltb}
use Rattle.std.proofs.lemmas.List.{map-append}
use Rattle.std.proofs.lemmas.Grind.{flat_map-append}
use Rattle.histories.specs.History.{IsPrefix, before, only_if, is_raised}
use Rattle.histories.specs.Laws.{prefix_refl, prefix_map, before_extends, before_prefix}
use Rattle.memory_runs.specs.Views.{System, Run, Responses, AgentSide, AgentView}
use Rattle.memory_runs.specs.Commands.{shows, agent_accepts, burst_before}
use Rattle.memory_runs.specs.Legal.{Word}
use Rattle.memory_runs.specs.Order.{words_given_in}
use Rattle.memory_machines.specs.Link.{takes, taken_at}
use Rattle.memory_machines.specs.Lines.{TaggedPort, asked_tags, word_tags}
use Rattle.memory_machines.specs.SideLaws.{fit_when_shown}
use Rattle.memory_parts.specs.Queue.{Entry, entry_at, takes_read, by_option}
use Rattle.memory_parts.proofs.Queued.{entries}
use Rattle.memory_machines.specs.Lines.{IsFit}
use Rattle.memory_parts.specs.Agent.{AgentState, ShowsToAgent, GivesFixed, IsAgentPlan, row_places}
use Rattle.memory_parts.proofs.AgentShown.{same_takes, read_is, reads_none}
use Rattle.memory_parts.proofs.AgentWords.{GivesInOrder, strip, given_by}
use Rattle.memory_parts.proofs.Queued.{entries_more}
use Rattle.memory_parts.proofs.Tags.{asked_are, tags_of}
use Rattle.memory_parts.proofs.Pairs.{TaggedWord, words_up}

-- a history that comes some cycles late
shift : {A : Type 0} (f : ℕ → List A) (i c : ℕ) → before (λ c. if nat_lt i c then f (c - suc i) else []) c ≡ before f (c - suc i)
shift f i zero = let none : 0 - suc i ≡ 0 = omega arith in ap (before f) (sym none)
shift f i (suc c) = ap (λ l. l ++ (if nat_lt i c then f (c - suc i) else [])) (shift f i c) ∙ by_test (nat_lt i c) refl
  where
    by_test : (b : Bool) → nat_lt i c ≡ b → before f (c - suc i) ++ (if nat_lt i c then f (c - suc i) else []) ≡ before f (suc c - suc i)
    by_test true is =
        let low = ltb-true i c is in
        let more : suc c - suc i ≡ suc (c - suc i) = omega (arith, low) in
        rw is (ap (before f) (sym more))
    by_test false is =
        let high = ltb-false i c is in
        let none : c - suc i ≡ 0 = omega (arith, high) in
        let still : suc c - suc i ≡ 0 = omega (arith, high) in
        rw is (append-nil (before f (c - suc i)) ∙ ap (before f) (none ∙ sym still))

and_assoc : (a b c : Bool) → ((a && b) && c) ≡ (a && (b && c))
and_assoc true b c = refl
and_assoc false b c = refl

same_le : (k c : ℕ) → nat_le (suc k) c ≡ nat_lt k c
same_le k c = grind (arith, tests)

module _ (system : System) (run : Run) (agent : ℕ) (up : TaggedPort) (state : AgentState) (end : ℕ) (machine : ShowsToAgent (system.agent agent) (run.at_agent agent) up state end) (plan : IsAgentPlan (system.agent agent))
    (fit : IsFit system agent up.port end) (responses : Responses) (fixed : (system.agent agent).has_readdatavalid ≡ false) (g : GivesFixed responses (system.agent agent) (run.at_agent agent) up state end) where
  abbrev side : AgentSide
  side = system.agent agent

  abbrev view : AgentView
  view = run.at_agent agent

  abbrev reads : ℕ → Bool
  reads c = takes_read up.port c

  abbrev fresh : ℕ → List ℕ
  fresh c = only_if (reads c) (up.commands.tag c)

  abbrev came : ℕ → ℕ → Option ℕ
  came c i = if nat_lt i c then (if reads (c - suc i) then Some (up.commands.tag (c - suc i)) else None) else None

  row_is : (c i : ℕ) → c < end → state.row c i ≡ came c i
  row_is zero i low = let none : nat_lt i 0 ≡ false = le-ltb i 0 (omega arith) in g.empty i ∙ sym (ap (λ b. if b then (if reads (0 - suc i) then Some (up.commands.tag (0 - suc i)) else None) else None) none)
  row_is (suc c) zero low =
      let some : nat_lt 0 (suc c) ≡ true = lt-ltb 0 (suc c) (omega arith) in
      let now : suc c - 1 ≡ c = omega arith in
      g.first c low ∙ sym (ap₂ (λ b k. if b then (if reads k then Some (up.commands.tag k) else None) else None) some now)
  row_is (suc c) (suc i) low =
      let same : nat_lt (suc i) (suc c) ≡ nat_lt i c = grind (arith, tests) in
      let back : suc c - suc (suc i) ≡ c - suc i = omega arith in
      g.next c i low ∙ row_is c i (omega arith) ∙ sym (ap₂ (λ b k. if b then (if reads k then Some (up.commands.tag k) else None) else None) same back)

  abbrev last : ℕ
  last = row_places side - 1

  -- the tags of the words are those of the reads, some cycles late
  tag_in : (c : ℕ) → c < end → only_if (is_raised (up.answers.valid c)) (up.answer_tag c) ≡ (if nat_lt last c then fresh (c - suc last) else [])
  tag_in c low = told (state.row c last) (is_raised (up.answers.valid c)) (up.answer_tag c) (g.valid c low) (g.tag c low) ∙ ap (λ o. by_option o [] (λ tag. tag ∷ [])) (row_is c last low) ∙ by_both (nat_lt last c) (reads (c - suc last))
    where
      told : (o : Option ℕ) (v : Bool) (t : ℕ) → v ≡ is_some o → MatchOption o (Unit {0}) (λ tag. t ≡ tag) → only_if v t ≡ by_option o [] (λ tag. tag ∷ [])
      told None v t valid tag = ap (λ b. only_if b t) valid
      told (Some x) v t valid tag = ap₂ (λ (b : Bool) (k : ℕ). only_if b k) valid tag

      by_both : (b r : Bool) → by_option (if b then (if r then Some (up.commands.tag (c - suc last)) else None) else None) [] (λ tag. tag ∷ [])
          ≡ (if b then only_if r (up.commands.tag (c - suc last)) else [])
      by_both true true = refl
      by_both true false = refl
      by_both false r = refl

  tags_late : (c : ℕ) → c ≤ end → word_tags up c ≡ before (λ c. if nat_lt last c then fresh (c - suc last) else []) c
  tags_late zero low = refl
  tags_late (suc c) low = ap₂ (λ x y. x ++ y) (tags_late c (omega arith)) (tag_in c low)

  -- a read asks for one word
  one_asked : (c : ℕ) → c < end → reads c ≡ true → up.commands.count c ≡ 1
  one_asked c low taken = by_read side.has_read refl
    where
      parts : (takes up.port c ≡ true) × (is_raised (up.commands.read c) ≡ true)
      parts = and_parts (takes up.port c) (is_raised (up.commands.read c)) taken

      by_left : side.has_read ≡ true → (b : Bool) → nat_lt 0 (burst_before up.shape up.commands.signals (takes up.port) c).left ≡ b → up.commands.count c ≡ 1
      by_left has true under = let quiet = fit.legal.legal.finished c low under in let read = parts.1 in let bad : ⊥ = cc in absurd bad
      by_left has false free =
          let fits = fit_when_shown up.port end c fit.legal low (and_parts (shows up.commands.signals c) (not (is_raised (up.commands.waitrequest c))) parts.0).0 in
          let least = fits.least free in
          let most : up.commands.count c ≤ 2 ^ (1 - 1) = subst (λ b. up.commands.count c ≤ 2 ^ (b - 1)) (machine.bursts ∙ plan.one_word fixed has) (fits.most free) in
          omega (arith, least, most)

      by_read : (b : Bool) → side.has_read ≡ b → up.commands.count c ≡ 1
      by_read true has = by_left has (nat_lt 0 (burst_before up.shape up.commands.signals (takes up.port) c).left) refl
      by_read false has = let none = reads_none (is_raised (up.commands.read c)) (is_raised (up.commands.write c)) side.has_read side.has_write has (fit.kinds c low) in let read = parts.1 in let bad : ⊥ = cc in absurd bad

  asked_ones : (c : ℕ) → c ≤ end → asked_tags (taken_at up.port c) ≡ before fresh c
  asked_ones zero low = refl
  asked_ones (suc c) low =
      asked_are (taken_at up.port (suc c)) ∙ ap tags_of (entries_more up.port end fit.legal c low)
      ∙ flat_map-append (λ (e : Entry). replicate e.left e.tag) (entries (taken_at up.port c)) (only_if (reads c) (entry_at up.port c))
      ∙ ap₂ (λ x y. x ++ y) (sym (asked_are (taken_at up.port c)) ∙ asked_ones c (omega arith)) (one (reads c) refl)
    where
      one : (b : Bool) → reads c ≡ b → tags_of (only_if b (entry_at up.port c)) ≡ only_if b (up.commands.tag c)
      one true is = ap (λ n. replicate n (up.commands.tag c) ++ []) (one_asked c low is)
      one false is = refl

  -- the agent gives a word for each read, as many cycles later
  pub gives_read : (c : ℕ) → c < end → (is_raised (view.read c) && agent_accepts side view c) ≡ reads c
  gives_read c low =
      ap₂ (λ r a. r && a) (read_is side view up state end machine plan fit.legal fit.kinds c low) (sym (same_takes side view up state end machine plan fit.legal fit.kinds c low))
      ∙ ap (λ b. (not (b && not (nat_lt (length (state.queue c)) side.pending)) && is_raised (up.commands.read c)) && takes up.port c) fixed ∙ swap (is_raised (up.commands.read c)) (takes up.port c)
    where
      swap : (a b : Bool) → (a && b) ≡ (b && a)
      swap true true = refl
      swap true false = refl
      swap false true = refl
      swap false false = refl

  abbrev word_now : ℕ → Word
  word_now c = record { word = up.answers.word c; code = up.answers.code c }

  abbrev up_words : ℕ → List Word
  up_words c = map (λ (w : TaggedWord). w.word) (words_up up c)

  words_in : (c : ℕ) → up_words (suc c) ≡ up_words c ++ only_if (is_raised (up.answers.valid c)) (word_now c)
  words_in c = map-append (λ (w : TaggedWord). w.word) (words_up up c) _ ∙ ap (λ l. up_words c ++ l) (one (is_raised (up.answers.valid c)))
    where
      one : (b : Bool) → map (λ (w : TaggedWord). w.word) (only_if b (record { tag = up.answer_tag c; word = word_now c })) ≡ only_if b (word_now c)
      one true = refl
      one false = refl

  pub valid_is : (c : ℕ) → c < end → is_raised (up.answers.valid c) ≡ (nat_lt last c && reads (c - suc last))
  valid_is c low = g.valid c low ∙ ap is_some (row_is c last low) ∙ by_both (nat_lt last c) (reads (c - suc last))
    where
      by_both : (b r : Bool) → is_some (if b then (if r then Some (up.commands.tag (c - suc last)) else None) else None) ≡ (b && r)
      by_both true true = refl
      by_both true false = refl
      by_both false r = refl

  strip_one : (b : Bool) (w : Word) → map (strip responses) (only_if b w) ≡ only_if b (strip responses w)
  strip_one true w = refl
  strip_one false w = refl

  -- at latency 1 or more, the word goes up as it is given
  module _ (k : ℕ) (latency : side.read_latency ≡ suc k) where
    last_is : last ≡ k
    last_is = omega (arith, latency)

    direct : (c : ℕ) → c ≤ end → up_words c ≡ map (strip responses) (given_by system run agent c)
    direct zero low = refl
    direct (suc c) low =
        words_in c ∙ ap₂ (λ x y. x ++ y) (direct c (omega arith)) (ap₂ (λ v w. only_if v w) (valid_is c low ∙ ap (λ i. nat_lt i c && reads (c - suc i)) last_is) word ∙ sym (strip_one (nat_lt k c && reads (c - suc k)) now) ∙ ap (λ b. map (strip responses) (only_if b now)) (sym given))
        ∙ sym (map-append (strip responses) (given_by system run agent c) (words_given_in system run agent c))
      where
        now : Word
        now = record { word = view.readdata c; code = view.response c }

        word : word_now c ≡ strip responses now
        word = let some : 1 ≤ side.read_latency = omega (arith, latency) in ap₂ (λ w k. record { word = w; code = k }) (g.word c low some) (g.code c low some)

        given : (if side.has_readdatavalid then is_raised (view.readdatavalid c) else nat_le side.read_latency c && is_raised (view.read (c - side.read_latency)) && agent_accepts side view (c - side.read_latency)) ≡ (nat_lt k c && reads (c - suc k))
        given =
            ap (λ h. if h then is_raised (view.readdatavalid c) else nat_le side.read_latency c && is_raised (view.read (c - side.read_latency)) && agent_accepts side view (c - side.read_latency)) fixed
            ∙ ap (λ l. nat_le l c && is_raised (view.read (c - l)) && agent_accepts side view (c - l)) latency
            ∙ and_assoc (nat_le (suc k) c) (is_raised (view.read (c - suc k))) (agent_accepts side view (c - suc k))
            ∙ ap₂ (λ a b. a && b) (same_le k c) (gives_read (c - suc k) (omega arith))

  -- at latency 0 it goes up one cycle later
  module _ (latency : side.read_latency ≡ 0) where
    last_none : last ≡ 0
    last_none = omega (arith, latency)

    late : (c : ℕ) → c < end → up_words (suc c) ≡ map (strip responses) (given_by system run agent c)
    late zero low =
        words_in 0 ∙ ap (λ b. only_if b (word_now 0)) (valid_is 0 low ∙ ap (λ i. nat_lt i 0 && reads (0 - suc i)) last_none)
    late (suc c) low =
        words_in (suc c) ∙ ap₂ (λ x y. x ++ y) (late c (omega arith)) (ap₂ (λ v w. only_if v w) valid word ∙ sym (strip_one (reads c) now) ∙ ap (λ b. map (strip responses) (only_if b now)) (sym given))
        ∙ sym (map-append (strip responses) (given_by system run agent c) (words_given_in system run agent c))
      where
        now : Word
        now = record { word = view.readdata c; code = view.response c }

        word : word_now (suc c) ≡ strip responses now
        word = ap₂ (λ w k. record { word = w; code = k }) (g.word_late c low latency) (g.code_late c low latency)

        valid : is_raised (up.answers.valid (suc c)) ≡ reads c
        valid =
            let some : nat_lt 0 (suc c) ≡ true = lt-ltb 0 (suc c) (omega arith) in
            let back : suc c - 1 ≡ c = omega arith in
            valid_is (suc c) low ∙ ap (λ i. nat_lt i (suc c) && reads (suc c - suc i)) last_none ∙ ap₂ (λ b k. b && reads k) some back

        given : (if side.has_readdatavalid then is_raised (view.readdatavalid c) else nat_le side.read_latency c && is_raised (view.read (c - side.read_latency)) && agent_accepts side view (c - side.read_latency)) ≡ reads c
        given =
            let none : nat_le 0 c ≡ true = grind (arith, tests) in
            let still : c - 0 ≡ c = omega arith in
            ap (λ h. if h then is_raised (view.readdatavalid c) else nat_le side.read_latency c && is_raised (view.read (c - side.read_latency)) && agent_accepts side view (c - side.read_latency)) fixed
            ∙ ap (λ l. nat_le l c && is_raised (view.read (c - l)) && agent_accepts side view (c - l)) latency
            ∙ ap₂ (λ b k. b && is_raised (view.read k) && agent_accepts side view k) none still ∙ gives_read c (omega arith)

    late_front : (c : ℕ) → c ≤ end → IsPrefix (up_words c) (map (strip responses) (given_by system run agent c))
    late_front zero low = prefix_refl []
    late_front (suc c) low = subst (λ l. IsPrefix l (map (strip responses) (given_by system run agent (suc c)))) (sym (late c low)) (prefix_map (strip responses) (before_extends (words_given_in system run agent) c))

  words_front : (l : ℕ) → side.read_latency ≡ l → (c : ℕ) → c ≤ end → IsPrefix (up_words c) (map (strip responses) (given_by system run agent c))
  words_front zero latency = late_front latency
  words_front (suc k) latency = λ c low. subst (λ l. IsPrefix (up_words c) l) (direct k latency c low) (prefix_refl (up_words c))

  pub fixed_in_order : GivesInOrder responses system run agent up end
  fixed_in_order = record {
    words = words_front side.read_latency refl;
    tags = λ c low. subst (λ l. IsPrefix l (asked_tags (taken_at up.port c))) (sym (tags_late (suc c) low ∙ shift fresh last (suc c)))
        (subst (λ l. IsPrefix (before fresh (suc c - suc last)) l) (sym (asked_ones c (omega arith))) (before_prefix fresh (suc c - suc last) c (omega arith)));
  }
