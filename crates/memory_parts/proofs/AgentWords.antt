-- The words that go up from an agent with readdatavalid, and the reads that they answer.
use Rattle.std.proofs.Common.{ℕ, zero, suc, ◌<◌, ◌≤◌, ◌≡◌, ◌+◌, ◌-◌, [], ◌∷◌, ◌++◌, List, Bool, true, false, if◌then◌else◌, nat_eq, arith, refl, sym, ap, ap₂, ◌∙◌, subst, length, map, filter, flat_map, zip, append-nil, length-append}
use Rattle.std.proofs.lemmas.List.{map-append}
use Rattle.std.proofs.lemmas.List.Elements.{filter-append}
use Rattle.std.proofs.lemmas.Grind.{flat_map-append}
use Rattle.histories.specs.History.{IsPrefix, before, only_if, one_if, is_raised, numbers}
use Rattle.histories.specs.Laws.{prefix_refl, prefix_trans, prefix_map, prefix_filter, prefix_flat_map, before_extends}
use Rattle.memory_runs.specs.Views.{System, Run, Responses, Shape, AgentSide, AgentView, levels_at}
use Rattle.memory_runs.specs.Views.Responses.{AreCodes}
use Rattle.memory_runs.specs.Operations.{Beat, byte_at, is_enabled}
use Rattle.memory_runs.specs.Commands.{is_of_reads, words_before, read_beat}
use Rattle.memory_runs.specs.Legal.{Word, IsLegalAgent}
use Rattle.memory_runs.specs.Order.{Answer, TaggedBeat, is_read_beat, beats_taken, words_given_in, answers, answers_in, answers_to}
use Rattle.memory_machines.specs.Link.{Port, Marked, takes, marked_at, taken_at, bytes_in}
use Rattle.memory_machines.specs.Lines.{TaggedPort, asked_tags, word_tags, answers_with, target_of, bytes_of}
use Rattle.memory_machines.specs.Blocks.{codes_of}
use Rattle.memory_parts.specs.Queue.{Entry, head_tag}
use Rattle.memory_parts.proofs.Queued.{some_left, entries, left_after}
use Rattle.memory_machines.specs.Lines.{IsFit}
use Rattle.memory_parts.specs.Agent.{AgentState, ShowsToAgent, GivesQueued, IsAgentPlan, code_by}
use Rattle.memory_parts.proofs.Alike.{AreAlike, tag_all, tagged_beats}
use Rattle.memory_parts.proofs.Alike.AreAlike.{no_beats, one_more}
use Rattle.memory_parts.proofs.AgentBeats.{all_alike}
use Rattle.memory_parts.proofs.AgentLegal.{asked_is, queue_holds}
use Rattle.memory_parts.proofs.Queued.{words_of, word_more, all_ask}
use Rattle.memory_parts.proofs.Tags.{asked_are, tag_in_order}
use Rattle.memory_parts.proofs.Pairs.{TaggedWord, words_up, of_tag, words_of_tag, tags_are, reads_up, beats_with_tag, read_beats_are, AreUnderTags, under_tags, same_answers}

abbrev pub strip : Responses → Word → Word
strip responses w = record { word = w.word; code = code_by responses w.code }

abbrev pub given_by : System → Run → ℕ → ℕ → List Word
given_by system run agent c = before (words_given_in system run agent) c

-- ---- lists

pub zip_front : {A B : Type 0} (xs : List A) {us vs : List B} → IsPrefix us vs → IsPrefix (zip xs us) (zip xs vs)
zip_front xs {us} {vs} p = subst (λ l. IsPrefix (zip xs us) (zip xs l)) p.joins (front xs us p.rest)
  where
    front : {A B : Type 0} (xs : List A) (us rest : List B) → IsPrefix (zip xs us) (zip xs (us ++ rest))
    front [] [] rest = record { rest = _; joins = refl }
    front [] (u ∷ us) rest = record { rest = []; joins = refl }
    front (x ∷ xs) [] rest = record { rest = _; joins = refl }
    front (x ∷ xs) (u ∷ us) rest = let p = front xs us rest in record { rest = p.rest; joins = ap (λ l. (x, u) ∷ l) p.joins }

tags_map : (tag : ℕ) (beats : List Beat) → map (λ (_ : Beat). tag) beats ≡ map (λ (t : TaggedBeat). t.tag) (tag_all tag beats)
tags_map tag [] = refl
tags_map tag (b ∷ beats) = ap (λ l. tag ∷ l) (tags_map tag beats)

pub asked_tags_are : (ms : List Marked) → asked_tags ms ≡ map (λ (t : TaggedBeat). t.tag) (reads_up ms)
asked_tags_are [] = refl
asked_tags_are (m ∷ ms) = by_test (is_of_reads m.transfer.kind) refl (asked_tags_are ms)
  where
    by_test : (b : Bool) → is_of_reads m.transfer.kind ≡ b → asked_tags ms ≡ map (λ (t : TaggedBeat). t.tag) (reads_up ms) → asked_tags (m ∷ ms) ≡ map (λ (t : TaggedBeat). t.tag) (reads_up (m ∷ ms))
    by_test true is ih = rw is (ap₂ (λ x y. x ++ y) (tags_map m.tag m.transfer.beats) ih ∙ sym (map-append (λ (t : TaggedBeat). t.tag) (tag_all m.tag m.transfer.beats) (reads_up ms)))
    by_test false is ih = rw is ih

-- of alike beats the reads are alike
pub alike_reads : (from to : Shape) (span : ℕ) (aboves belows : List TaggedBeat) → AreAlike from to span aboves belows → AreAlike from to span (filter is_read_beat aboves) (filter is_read_beat belows)
alike_reads from to span [] [] no_beats = no_beats
alike_reads from to span [] (below ∷ belows) x = elim x [ ]
alike_reads from to span (above ∷ aboves) [] x = elim x [ ]
alike_reads from to span (above ∷ aboves) (below ∷ belows) (one_more tag beat rest) = by_test (is_of_reads above.beat.kind) refl (alike_reads from to span aboves belows rest)
  where
    by_test : (b : Bool) → is_of_reads above.beat.kind ≡ b → AreAlike from to span (filter is_read_beat aboves) (filter is_read_beat belows) → AreAlike from to span (filter is_read_beat (above ∷ aboves)) (filter is_read_beat (below ∷ belows))
    by_test true is ih = let low : is_of_reads below.beat.kind ≡ true = ap is_of_reads beat.kind ∙ is in rw (is, low) (one_more tag beat ih)
    by_test false is ih = let low : is_of_reads below.beat.kind ≡ false = ap is_of_reads beat.kind ∙ is in rw (is, low) ih

-- a side's read beats are those of its reads
pub reads_split : (port : Port) (c : ℕ) → reads_up (taken_at port c) ≡ filter is_read_beat (tagged_beats (taken_at port c))
reads_split port zero = refl
reads_split port (suc c) =
    ap (flat_map (λ (m : Marked). tag_all m.tag m.transfer.beats)) (filter-append (λ (m : Marked). is_of_reads m.transfer.kind) (taken_at port c) (only_if (takes port c) (marked_at port c)))
    ∙ flat_map-append (λ (m : Marked). tag_all m.tag m.transfer.beats) (filter (λ (m : Marked). is_of_reads m.transfer.kind) (taken_at port c)) (filter (λ (m : Marked). is_of_reads m.transfer.kind) (only_if (takes port c) (marked_at port c)))
    ∙ ap₂ (λ x y. x ++ y) (reads_split port c) (one (takes port c) (is_raised (port.commands.write c)) refl)
    ∙ sym (ap (filter is_read_beat) (flat_map-append (λ (m : Marked). tag_all m.tag m.transfer.beats) (taken_at port c) (only_if (takes port c) (marked_at port c))) ∙ filter-append is_read_beat (tagged_beats (taken_at port c)) (tagged_beats (only_if (takes port c) (marked_at port c))))
  where
    all_reads : (xs : List ℕ) → tag_all (port.commands.tag c) (map (read_beat port.shape (levels_at port.commands.signals c)) xs) ≡ filter is_read_beat (tag_all (port.commands.tag c) (map (read_beat port.shape (levels_at port.commands.signals c)) xs))
    all_reads [] = refl
    all_reads (x ∷ xs) = ap (λ l. record { tag = port.commands.tag c; beat = read_beat port.shape (levels_at port.commands.signals c) x } ∷ l) (all_reads xs)

    one : (t w : Bool) → is_raised (port.commands.write c) ≡ w → reads_up (only_if t (marked_at port c)) ≡ filter is_read_beat (tagged_beats (only_if t (marked_at port c)))
    one false w is = refl
    one true true is = rw is refl
    one true false is =
        let beats : List TaggedBeat = tag_all (port.commands.tag c) (map (read_beat port.shape (levels_at port.commands.signals c)) (numbers 0 (port.commands.count c))) in
        rw is (append-nil beats ∙ all_reads (numbers 0 (port.commands.count c)) ∙ ap (filter is_read_beat) (sym (append-nil beats)))

-- the bytes of answers don't depend on the codes of their words
strip_bytes : (responses : Responses) (shape : Shape) (h : ℕ) (ts : List TaggedBeat) (ws : List Word) →
    bytes_of (answers_to h (flat_map (λ (p : TaggedBeat × Word). answers_in shape p.0 p.1) (zip ts (map (strip responses) ws)))) ≡ bytes_of (answers_to h (flat_map (λ (p : TaggedBeat × Word). answers_in shape p.0 p.1) (zip ts ws)))
strip_bytes responses shape h [] [] = refl
strip_bytes responses shape h [] (w ∷ ws) = refl
strip_bytes responses shape h (t ∷ ts) [] = refl
strip_bytes responses shape h (t ∷ ts) (w ∷ ws) = cut (strip responses w) (zip ts (map (strip responses) ws)) ∙ ap₂ (λ x y. x ++ y) (one (filter (is_enabled t.beat.enables) (numbers 0 shape.word_bytes))) (strip_bytes responses shape h ts ws) ∙ sym (cut w (zip ts ws))
  where
    cut : (w : Word) (rest : List (TaggedBeat × Word)) → bytes_of (answers_to h (flat_map (λ (p : TaggedBeat × Word). answers_in shape p.0 p.1) ((t, w) ∷ rest))) ≡ bytes_of (answers_to h (answers_in shape t w)) ++ bytes_of (answers_to h (flat_map (λ (p : TaggedBeat × Word). answers_in shape p.0 p.1) rest))
    cut w rest = ap bytes_of (filter-append (λ (a : Answer). nat_eq a.tag h) (answers_in shape t w) (flat_map (λ (p : TaggedBeat × Word). answers_in shape p.0 p.1) rest)) ∙ map-append (λ (a : Answer). a.byte) (answers_to h (answers_in shape t w)) (answers_to h (flat_map (λ (p : TaggedBeat × Word). answers_in shape p.0 p.1) rest))

    one : (lanes : List ℕ) → bytes_of (answers_to h (map (λ lane. record { tag = t.tag; byte = byte_at w.word lane; code = code_by responses w.code }) lanes)) ≡ bytes_of (answers_to h (map (λ lane. record { tag = t.tag; byte = byte_at w.word lane; code = w.code }) lanes))
    one [] = refl
    one (lane ∷ lanes) = by_test (nat_eq t.tag h) (one lanes)
      where
        by_test : (b : Bool) → bytes_of (answers_to h (map (λ lane. record { tag = t.tag; byte = byte_at w.word lane; code = code_by responses w.code }) lanes)) ≡ bytes_of (answers_to h (map (λ lane. record { tag = t.tag; byte = byte_at w.word lane; code = w.code }) lanes)) →
            bytes_of (if b then record { tag = t.tag; byte = byte_at w.word lane; code = code_by responses w.code } ∷ answers_to h (map (λ lane. record { tag = t.tag; byte = byte_at w.word lane; code = code_by responses w.code }) lanes) else answers_to h (map (λ lane. record { tag = t.tag; byte = byte_at w.word lane; code = code_by responses w.code }) lanes))
            ≡ bytes_of (if b then record { tag = t.tag; byte = byte_at w.word lane; code = w.code } ∷ answers_to h (map (λ lane. record { tag = t.tag; byte = byte_at w.word lane; code = w.code }) lanes) else answers_to h (map (λ lane. record { tag = t.tag; byte = byte_at w.word lane; code = w.code }) lanes))
        by_test true ih = ap (λ l. byte_at w.word lane ∷ l) ih
        by_test false ih = ih

strip_codes : (ws : List Word) → map (strip AreCodes) ws ≡ ws
strip_codes [] = refl
strip_codes (w ∷ ws) = ap (λ l. w ∷ l) (strip_codes ws)

-- ---- what every way to give words has to show

pub record GivesInOrder (responses : Responses) (system : System) (run : Run) (agent : ℕ) (up : TaggedPort) (end : ℕ) : Type 0 where
  pub words : (c : ℕ) → c ≤ end → IsPrefix (map (λ (w : TaggedWord). w.word) (words_up up c)) (map (strip responses) (given_by system run agent c))
  pub tags : (c : ℕ) → c < end → IsPrefix (word_tags up (suc c)) (asked_tags (taken_at up.port c))

module _ (system : System) (run : Run) (agent : ℕ) (up : TaggedPort) (state : AgentState) (end : ℕ) (machine : ShowsToAgent (system.agent agent) (run.at_agent agent) up state end) (plan : IsAgentPlan (system.agent agent))
    (fit : IsFit system agent up.port end) where
  abbrev side : AgentSide
  side = system.agent agent

  abbrev view : AgentView
  view = run.at_agent agent

  later_asked : (c : ℕ) → IsPrefix (asked_tags (taken_at up.port c)) (asked_tags (taken_at up.port (suc c)))
  later_asked c = prefix_flat_map _ (prefix_filter _ (before_extends _ c))

  module _ (responses : Responses) (gives : GivesInOrder responses system run agent up end) where
    under : (c : ℕ) → c ≤ end → AreUnderTags (reads_up (taken_at up.port c)) (words_up up c)
    under c low = under_tags (reads_up (taken_at up.port c)) (words_up up c) (subst (λ l. IsPrefix l (map (λ (t : TaggedBeat). t.tag) (reads_up (taken_at up.port c)))) (tags_are up c) (subst (λ l. IsPrefix (word_tags up c) l) (asked_tags_are (taken_at up.port c)) (front c low)))
      where
        front : (c : ℕ) → c ≤ end → IsPrefix (word_tags up c) (asked_tags (taken_at up.port c))
        front zero low = prefix_refl []
        front (suc c) low = prefix_trans (gives.tags c low) (later_asked c)

    alike : (c : ℕ) → c ≤ end → AreAlike up.shape side.shape side.span (reads_up (taken_at up.port c)) (filter is_read_beat (beats_taken system run agent c))
    alike c low = subst (λ l. AreAlike up.shape side.shape side.span l (filter is_read_beat (beats_taken system run agent c))) (sym (reads_split up.port c)) (alike_reads up.shape side.shape side.span (tagged_beats (taken_at up.port c)) (beats_taken system run agent c) (all_alike system run agent up state end machine plan fit.legal fit.kinds fit.lanes c low))

    abbrev down : ℕ → ℕ → List Word → List Answer
    down h c ws = answers_to h (flat_map (λ (p : TaggedBeat × Word). answers_in side.shape p.0 p.1) (zip (filter is_read_beat (beats_taken system run agent c)) ws))

    up_is : (h c : ℕ) → answers_with h (target_of system agent) up c ≡ flat_map (λ (p : Beat × Word). bytes_in (target_of system agent) up.shape p.0 p.1) (zip (beats_with_tag h (reads_up (taken_at up.port c))) (of_tag h (words_up up c)))
    up_is h c = ap₂ (λ bs ws. flat_map (λ (p : Beat × Word). bytes_in (target_of system agent) up.shape p.0 p.1) (zip bs ws)) (read_beats_are h (taken_at up.port c)) (words_of_tag h up c)

    down_front : (h c : ℕ) → c ≤ end → IsPrefix (down h c (map (λ (w : TaggedWord). w.word) (words_up up c))) (down h c (map (strip responses) (given_by system run agent c)))
    down_front h c low = prefix_filter _ (prefix_flat_map _ (zip_front (filter is_read_beat (beats_taken system run agent c)) (gives.words c low)))

    pub bytes_front : (h c : ℕ) → c ≤ end → IsPrefix (bytes_of (answers_with h (target_of system agent) up c)) (bytes_of (answers_to h (answers system run agent c)))
    bytes_front h c low =
        let same = ap bytes_of (up_is h c) ∙ same_answers (target_of system agent) up.shape side.span h (λ (a : Answer). a.byte) (λ w lane. byte_at w.word lane) (λ tag w lane. refl) (reads_up (taken_at up.port c)) (filter is_read_beat (beats_taken system run agent c)) (words_up up c) (alike c low) (under c low) in
        subst (λ l. IsPrefix l (bytes_of (answers_to h (answers system run agent c)))) (sym same)
        (subst (λ l. IsPrefix (bytes_of (down h c (map (λ (w : TaggedWord). w.word) (words_up up c)))) l) (strip_bytes responses side.shape h (filter is_read_beat (beats_taken system run agent c)) (given_by system run agent c)) (prefix_map _ (down_front h c low)))

    pub codes_front : responses ≡ AreCodes → (h c : ℕ) → c ≤ end → IsPrefix (codes_of (answers_with h (target_of system agent) up c)) (codes_of (answers_to h (answers system run agent c)))
    codes_front are h c low =
        let same = ap codes_of (up_is h c) ∙ same_answers (target_of system agent) up.shape side.span h (λ (a : Answer). a.code) (λ w lane. w.code) (λ tag w lane. refl) (reads_up (taken_at up.port c)) (filter is_read_beat (beats_taken system run agent c)) (words_up up c) (alike c low) (under c low) in
        let all : map (strip responses) (given_by system run agent c) ≡ given_by system run agent c = ap (λ r. map (strip r) (given_by system run agent c)) are ∙ strip_codes (given_by system run agent c) in
        subst (λ l. IsPrefix l (codes_of (answers_to h (answers system run agent c)))) (sym same)
        (subst (λ l. IsPrefix (codes_of (down h c (map (λ (w : TaggedWord). w.word) (words_up up c)))) (codes_of (down h c l))) all (prefix_map _ (down_front h c low)))

  -- with readdatavalid
  module _ (responses : Responses) (proper : IsLegalAgent side view end) (has : side.has_readdatavalid ≡ true) (g : GivesQueued responses view up state end) where
    less : IsLegalAgent side view (end - 1)
    less = record { owed = λ has c low. proper.owed has c (omega (arith, low)) }

    same_words : (c : ℕ) → c ≤ end → map (λ (w : TaggedWord). w.word) (words_up up c) ≡ map (strip responses) (given_by system run agent c)
    same_words zero low = refl
    same_words (suc c) low =
        map-append (λ (w : TaggedWord). w.word) (words_up up c) _
        ∙ ap₂ (λ x y. x ++ y) (same_words c (omega arith)) (one (is_raised (view.readdatavalid c)) refl)
        ∙ sym (map-append (strip responses) (given_by system run agent c) (words_given_in system run agent c))
      where
        one : (b : Bool) → is_raised (view.readdatavalid c) ≡ b → map (λ (w : TaggedWord). w.word) (only_if (is_raised (up.answers.valid c)) (record { tag = up.answer_tag c; word = record { word = up.answers.word c; code = up.answers.code c } })) ≡ map (strip responses) (words_given_in system run agent c)
        one b is =
            let valid = g.valid c low ∙ is in
            let word = g.word c low in
            let code = g.code c low in
            by_test b is valid word code
          where
            by_test : (b : Bool) → is_raised (view.readdatavalid c) ≡ b → is_raised (up.answers.valid c) ≡ b → up.answers.word c ≡ view.readdata c → up.answers.code c ≡ code_by responses (view.response c) →
                map (λ (w : TaggedWord). w.word) (only_if (is_raised (up.answers.valid c)) (record { tag = up.answer_tag c; word = record { word = up.answers.word c; code = up.answers.code c } })) ≡ map (strip responses) (words_given_in system run agent c)
            by_test true is valid word code = rw (has, is, valid) (ap₂ (λ w k. record { word = w; code = k } ∷ []) word code)
            by_test false is valid word code = rw (has, is, valid) refl

    -- one word more
    tag_step : (c : ℕ) → c < end → IsPrefix (word_tags up c) (asked_tags (taken_at up.port c)) → length (word_tags up c) ≡ words_before view.readdatavalid c → (b : Bool) → is_raised (view.readdatavalid c) ≡ b →
        IsPrefix (word_tags up (suc c)) (asked_tags (taken_at up.port c)) × (length (word_tags up (suc c)) ≡ words_before view.readdatavalid (suc c))
    tag_step c low p counted true is =
        let valid : is_raised (up.answers.valid c) ≡ true = g.valid c low ∙ is in
        let more = word_more view.readdatavalid c ∙ ap (λ b. words_before view.readdatavalid c + one_if b) is in
        let few = proper.owed has c low in
        let asked = asked_is side view up state end machine plan fit.legal fit.kinds c (omega arith) in
        let es : List Entry = entries (taken_at up.port c) in
        let within : length (word_tags up c) < words_of es = omega (arith, more, few, asked, counted) in
        let tag : up.answer_tag c ≡ head_tag (left_after es (length (word_tags up c))) =
        g.tag c low (let some = some_left es (words_before view.readdatavalid c) (omega (arith, within, counted)) in let size = ap length (queue_holds side view up state end machine plan fit.legal fit.kinds less has c low) in omega (arith, some, size)) ∙ ap head_tag (queue_holds side view up state end machine plan fit.legal fit.kinds less has c low ∙ ap (left_after es) (sym counted)) in
        let next = tag_in_order es (word_tags up c) (all_ask up.port end fit.legal c (omega arith)) (subst (IsPrefix (word_tags up c)) (asked_are (taken_at up.port c)) p) within in
        let tags : word_tags up (suc c) ≡ word_tags up c ++ head_tag (left_after es (length (word_tags up c))) ∷ [] = ap₂ (λ b t. word_tags up c ++ only_if b t) valid tag in
        let size = ap length tags ∙ length-append (word_tags up c) (head_tag (left_after es (length (word_tags up c))) ∷ []) in (
          subst (λ l. IsPrefix l (asked_tags (taken_at up.port c))) (sym tags) (subst (IsPrefix (word_tags up c ++ head_tag (left_after es (length (word_tags up c))) ∷ [])) (sym (asked_are (taken_at up.port c))) next),
          omega (arith, size, more, counted),
        )
    tag_step c low p counted false is =
        let valid : is_raised (up.answers.valid c) ≡ false = g.valid c low ∙ is in
        let more = word_more view.readdatavalid c ∙ ap (λ b. words_before view.readdatavalid c + one_if b) is in
        let tags : word_tags up (suc c) ≡ word_tags up c = ap (λ b. word_tags up c ++ only_if b (up.answer_tag c)) valid ∙ append-nil (word_tags up c) in
        let size = ap length tags in (
          subst (λ l. IsPrefix l (asked_tags (taken_at up.port c))) (sym tags) p,
          omega (arith, size, more, counted),
        )

    tags_until : (c : ℕ) → c ≤ end → IsPrefix (word_tags up c) (asked_tags (taken_at up.port c)) × (length (word_tags up c) ≡ words_before view.readdatavalid c)
    tags_until zero low = (prefix_refl [], refl)
    tags_until (suc c) low =
        let ih = tags_until c (omega arith) in
        let now = tag_step c low ih.0 ih.1 (is_raised (view.readdatavalid c)) refl in
        (prefix_trans now.0 (later_asked c), now.1)

    pub queued_in_order : GivesInOrder responses system run agent up end
    queued_in_order = record {
      words = λ c low. subst (λ l. IsPrefix (map (λ (w : TaggedWord). w.word) (words_up up c)) l) (same_words c low) (prefix_refl (map (λ (w : TaggedWord). w.word) (words_up up c)));
      tags = λ c low. (let ih = tags_until c (omega arith) in (tag_step c low ih.0 ih.1 (is_raised (view.readdatavalid c)) refl).0);
    }
