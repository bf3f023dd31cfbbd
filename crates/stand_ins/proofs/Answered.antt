-- Where a side keeps to what an agent bears, all words that it asks are given or wait.
use Rattle.std.proofs.Common.{◌≡◌, ◌+◌, ◌-◌, ◌<◌, ◌≤◌, ℕ, zero, suc, Bool, true, false, not, ◌&&◌, ◌||◌, nat_lt, nat_le, List, [], ◌∷◌, ◌++◌, length, map, flat_map, drop, if◌then◌else◌, refl, sym, ap, ap₂, ◌∙◌, subst, arith, append-nil, add-zero, add-one, append_assoc}
use Rattle.std.proofs.lemmas.Bool.{and_parts, and_from, false≢true}
use Rattle.std.proofs.lemmas.Bool.Decides.{nat_tests}
use Rattle.std.proofs.lemmas.List.{length-append, length-map, map-append, drop-append-le, drop-map, length-drop}
use Rattle.std.proofs.lemmas.List.Elements.{filter-append}
use Rattle.std.proofs.lemmas.Grind.{flat_map-append}
use Rattle.iface_roles.specs.declared.records.AgentPort.{AgentPort}
use Rattle.histories.specs.History.{is_raised, one_if, only_if, numbers, stands_on, total, unreached}
use Rattle.memory_runs.specs.Views.{Shape, Signals, Levels, levels_at, AgentSide, AgentView}
use Rattle.memory_runs.specs.Commands.{Transfer, accepted, agent_accepts, burst_after, burst_before, is_of_reads, longest_burst, presents, read_beats, read_beat, read_transfer, reads_among, shows, transfer_of, words_before}
use Rattle.memory_runs.specs.Legal.{AreLegal, IsWithinPendingBound, is_under_way, words_asked}
use Rattle.memory_runs.specs.Sides.{agent_side}
use Rattle.scenario_tables.specs.declared.statements.AgentStatement.{AgentStatement}
use Rattle.stand_ins.specs.declared.delayed.Answer.{Answer}
use Rattle.stand_ins.specs.declared.waiting.Waiting.{Waiting}
use Rattle.stand_ins.specs.Contents.{contents_before}
use Rattle.stand_ins.specs.Codes.{code_at}
use Rattle.stand_ins.specs.Answers.{commands_among, is_borne, is_due, still_waiting, asked_words, takes_read, latency_of, waiting_before, asked_word, word_due, word_behind, code_due, code_behind, answer, answer_of}
use Rattle.stand_ins.specs.StandIns.{IsAgentStandIn, words_given, words_found}
use Rattle.stand_ins.proofs.Legality.{given_in, word_more}
use Rattle.stand_ins.proofs.WaitingLemmas.{length_numbers}
use Rattle.stand_ins.proofs.Marks.{marks, all_marks, trues, AreSome, length_all, trues_left, unreached_more, trues_of, marks_asked}

-- ---- a legal side asks for as many words as a burst may have

module _ (shape : Shape) (signals : Signals) (accepts : ℕ → Bool) (end : ℕ) (legal : AreLegal shape signals accepts end) where
  pub begins_fit : (c : ℕ) → c < end → shows signals c ≡ true → is_under_way shape signals accepts c ≡ false → (1 ≤ signals.count c) × (signals.count c ≤ longest_burst shape.burst_bits)
  begins_fit zero low shown begins = (legal.least zero low shown begins, legal.most zero low shown begins)
  begins_fit (suc c) low shown begins =
      elim (stands_on (shows signals) accepts c) as (λ stays. stands_on (shows signals) accepts c ≡ stays → (1 ≤ signals.count (suc c)) × (signals.count (suc c) ≤ longest_burst shape.burst_bits)) [
        | true ↦ λ stays.
            let parts = and_parts (shows signals c) (not (accepts c)) stays in
            let refused : accepts c ≡ false = elim (accepts c) as (λ a. not a ≡ true → a ≡ false) [ true ↦ λ h. absurd (cc h) | false ↦ λ h. refl ] parts.1 in
            let same : levels_at signals c ≡ levels_at signals (suc c) = legal.held c low stays in
            let before : is_under_way shape signals accepts c ≡ false = ap (λ taken. nat_lt 0 (burst_after shape (levels_at signals c) taken (burst_before shape signals accepts c)).left) (sym refused) ∙ begins in
            let earlier = begins_fit c (omega arith) parts.0 before in
            let counts : signals.count c ≡ signals.count (suc c) = ap (λ (levels : Levels). levels.count) same in
            (omega (arith, earlier.0), omega (arith, earlier.1))
        | false ↦ λ goes.
            let first : presents signals accepts (suc c) ≡ true = ap (λ stays. shows signals (suc c) && not stays) goes ∙ ap (λ shown. shown && true) shown in
            (legal.least (suc c) low first begins, legal.most (suc c) low first begins)
      ] refl

-- ---- the commands that were accepted

sizes_of : List Transfer → List ℕ
sizes_of transfers = map (λ (t : Transfer). length t.beats) (reads_among transfers)

sizes_append : (before more : List Transfer) → sizes_of (before ++ more) ≡ sizes_of before ++ sizes_of more
unfolding sizes_of
sizes_append before more = ap (map (λ (t : Transfer). length t.beats)) (filter-append (λ (t : Transfer). is_of_reads t.kind) before more) ∙ map-append (λ (t : Transfer). length t.beats) (reads_among before) (reads_among more)

-- a read that is taken adds its words, any other cycle adds none
size_added : (shape : Shape) (levels : Levels) (written : Transfer) (taken writes : Bool) → is_of_reads written.kind ≡ false →
    sizes_of (only_if taken (if writes then written else read_transfer shape levels)) ≡ (if taken && not writes then levels.count ∷ [] else [])
unfolding sizes_of
size_added shape levels written true true kind = ap (λ reads. map (λ (t : Transfer). length t.beats) (if reads then written ∷ [] else [])) kind
size_added shape levels written true false kind = ap (λ n. n ∷ []) (length-map (numbers 0 levels.count) (read_beat shape levels) ∙ length_numbers 0 levels.count)
size_added shape levels written false writes kind = refl

total_beats : (transfers : List Transfer) → length (read_beats transfers) ≡ total (sizes_of transfers)
unfolding sizes_of
total_beats [] = refl
total_beats (t ∷ later) =
    elim (is_of_reads t.kind) as (λ reads. length (flat_map (λ (t : Transfer). t.beats) (if reads then t ∷ reads_among later else reads_among later)) ≡ total (map (λ (t : Transfer). length t.beats) (if reads then t ∷ reads_among later else reads_among later))) [
      | true ↦ length-append t.beats (read_beats later) ∙ ap (λ n. length t.beats + n) (total_beats later)
      | false ↦ total_beats later
    ]

some_append : (sizes : List ℕ) (size : ℕ) → AreSome sizes → 1 ≤ size → AreSome (sizes ++ size ∷ [])
some_append [] size some one = (one, tt)
some_append (first ∷ sizes) size some one = (some.0, some_append sizes size some.1 one)

-- ---- one cycle

-- what waits and what is given, by the words that are asked
record Answers (given : ℕ) (waiting : List Waiting) (sizes : List ℕ) : Type 0 where
  asked : given ≤ total sizes
  marked : map (λ (one : Waiting). one.last) waiting ≡ drop given (all_marks sizes)
  some : AreSome sizes

drop_after : {A : Type 0} (count : ℕ) (items : List A) → drop (suc count) items ≡ drop 1 (drop count items)
drop_after zero [] = refl
drop_after (suc count) [] = refl
drop_after zero (item ∷ items) = refl
drop_after (suc count) (item ∷ items) = drop_after count items

due_waits : (cycle : ℕ) (waiting : List Waiting) → is_due cycle waiting ≡ true → 1 ≤ length waiting
due_waits cycle [] due = absurd (cc due)
due_waits cycle (first ∷ later) due = omega arith

length_left : (given : ℕ) (waiting : List Waiting) (sizes : List ℕ) → Answers given waiting sizes → given + length waiting ≡ total sizes
length_left given waiting sizes answers =
    let long : length waiting ≡ total sizes - given =
    sym (length-map waiting (λ (one : Waiting). one.last)) ∙ ap length answers.marked ∙ length-drop given (all_marks sizes) ∙ ap (λ n. n - given) (length_all sizes) in
    omega (arith, answers.asked)

given_or_not : (due : Bool) (given : ℕ) (waiting : List Waiting) (sizes : List ℕ) → (due ≡ true → 1 ≤ length waiting) → Answers given waiting sizes →
    Answers (given + one_if due) (if due then drop 1 waiting else waiting) sizes
given_or_not true given waiting sizes some answers = record {
  asked = omega (arith, length_left given waiting sizes answers, some refl);
  marked = sym (drop-map (λ (one : Waiting). one.last) 1 waiting) ∙ ap (drop 1) answers.marked ∙ sym (drop_after given (all_marks sizes)) ∙ ap (λ n. drop n (all_marks sizes)) (sym (add-one given));
  some = answers.some;
}
given_or_not false given waiting sizes some answers = subst (λ n. Answers n waiting sizes) (sym (add-zero given)) answers

after_given : (cycle given : ℕ) (waiting : List Waiting) (sizes : List ℕ) → Answers given waiting sizes → Answers (given + one_if (is_due cycle waiting)) (still_waiting cycle waiting) sizes
after_given cycle given waiting sizes answers = given_or_not (is_due cycle waiting) given waiting sizes (due_waits cycle waiting) answers

total_more : (sizes : List ℕ) (size : ℕ) → total (sizes ++ size ∷ []) ≡ total sizes + size
total_more [] size = omega arith
total_more (first ∷ sizes) size = omega (arith, total_more sizes size)

after_read : (side : AgentSide) (contents codes : ℕ → ℕ) (due : ℕ) (levels : Levels) (given : ℕ) (waiting : List Waiting) (sizes : List ℕ) → 1 ≤ levels.count → Answers given waiting sizes →
    Answers given (waiting ++ asked_words side contents codes due levels) (sizes ++ levels.count ∷ [])
after_read side contents codes due levels given waiting sizes some answers =
    let last = λ (one : Waiting). one.last in
    record {
      asked = omega (arith, total_more sizes levels.count, answers.asked);
      marked =
          map-append last waiting (asked_words side contents codes due levels)
          ∙ ap (λ front. front ++ map last (asked_words side contents codes due levels)) answers.marked
          ∙ ap (λ back. drop given (all_marks sizes) ++ back) (marks_asked side contents codes due levels ∙ sym (append-nil (marks levels.count)))
          ∙ sym (drop-append-le given (all_marks sizes) (marks levels.count ++ []) (omega (arith, length_all sizes, answers.asked)))
          ∙ ap (drop given) (sym (flat_map-append marks sizes (levels.count ∷ [])));
      some = some_append sizes levels.count answers.some some;
    }

read_or_not : (takes borne : Bool) (side : AgentSide) (contents codes : ℕ → ℕ) (due : ℕ) (levels : Levels) (given : ℕ) (waiting : List Waiting) (sizes : List ℕ) →
    (takes ≡ true → (borne ≡ true) × (1 ≤ levels.count)) → Answers given waiting sizes →
    Answers given (if takes && borne then waiting ++ asked_words side contents codes due levels else waiting) (sizes ++ (if takes then levels.count ∷ [] else []))
read_or_not true true side contents codes due levels given waiting sizes fits answers = after_read side contents codes due levels given waiting sizes (fits refl).1 answers
read_or_not true false side contents codes due levels given waiting sizes fits answers = absurd (cc ((fits refl).0))
read_or_not false borne side contents codes due levels given waiting sizes fits answers = subst (Answers given waiting) (sym (append-nil sizes)) answers

-- ---- what a taken read shows

shown_either : (waits shown free stood : Bool) → (if waits then (shown && free) else (shown && stood)) ≡ true → shown ≡ true
shown_either true shown free stood taken = (and_parts shown free taken).0
shown_either false shown free stood taken = (and_parts shown stood taken).0

read_left : (reads writes : Bool) → (reads || writes) ≡ true → not writes ≡ true → reads ≡ true
read_left true writes shown other = refl
read_left false true shown other = absurd (cc other)
read_left false false shown other = absurd (cc shown)

not_true : (test : Bool) → (test ≡ true → ⊥) → test ≡ false
not_true true never = absurd (never refl)
not_true false never = refl

less_test : (a b : ℕ) → a < b → nat_lt a b ≡ true
less_test a b less = grind (arith, nat_tests)

most_test : (a b : ℕ) → a ≤ b → nat_le a b ≡ true
most_test a b low = grind (arith, nat_tests)

-- ---- the words themselves

words_of : {A B : Type 0} (word : A → B) (f : ℕ → A) (items : List ℕ) → map word (map f items) ≡ map (λ n. word (f n)) items
words_of word f [] = refl
words_of word f (item ∷ items) = ap (λ later. word (f item) ∷ later) (words_of word f items)

-- the word that is given was the first of those that waited
moved : (cycle : ℕ) (waiting : List Waiting) (front : List Answer) →
    (front ++ only_if (is_due cycle waiting) (answer (word_due cycle waiting) (code_due cycle waiting))) ++ map answer_of (still_waiting cycle waiting) ≡ front ++ map answer_of waiting
moved cycle [] front = append-nil (front ++ [])
moved cycle (first ∷ later) front =
    elim (nat_le first.due cycle) as (λ due. (front ++ only_if due (answer (if due then first.word else 0) (if due then first.code else 0))) ++ map answer_of (if due then later else first ∷ later) ≡ front ++ map answer_of (first ∷ later)) [
      | true ↦ append_assoc front (answer_of first ∷ []) (map answer_of later)
      | false ↦ ap (λ front. front ++ map answer_of (first ∷ later)) (append-nil front)
    ]

found_more : (takes borne : Bool) (front : List Answer) (waiting asked : List Waiting) → (takes ≡ true → borne ≡ true) →
    front ++ map answer_of (if takes && borne then waiting ++ asked else waiting) ≡ (front ++ map answer_of waiting) ++ (if takes then map answer_of asked else [])
found_more true true front waiting asked fits = ap (λ back. front ++ back) (map-append answer_of waiting asked) ∙ sym (append_assoc front (map answer_of waiting) (map answer_of asked))
found_more true false front waiting asked fits = absurd (cc (fits refl))
found_more false borne front waiting asked fits = sym (append-nil (front ++ map answer_of waiting))

-- ---- a whole run

module _ (port : AgentPort) (script : List AgentStatement) (view : AgentView) (end : ℕ) (late : port.readdatavalid ≡ true) (stand_in : IsAgentStandIn port script view end)
    (legal : AreLegal (agent_side port).shape view.signals (agent_accepts (agent_side port) view) end) (bounded : IsWithinPendingBound (agent_side port) view end) where
  taken : ℕ → Bool
  taken c = agent_accepts (agent_side port) view c

  sizes_at : ℕ → List ℕ
  sizes_at c = sizes_of (accepted (agent_side port).shape view.signals (agent_accepts (agent_side port) view) c)

  waiting_at : ℕ → List Waiting
  waiting_at c = waiting_before (agent_side port) script view c

  read_fits : (c : ℕ) → c < end → takes_read (agent_side port) view c ≡ true → (1 ≤ view.count c) × (view.count c ≤ longest_burst (agent_side port).burst_bits)
  read_fits c low takes =
      let side = agent_side port in
      let parts = and_parts (agent_accepts side view c) (not (is_raised (view.write c))) takes in
      let shown : shows view.signals c ≡ true = shown_either port.waitrequest (shows view.signals c) _ _ parts.0 in
      let read : is_raised (view.read c) ≡ true = read_left (is_raised (view.read c)) (is_raised (view.write c)) shown parts.1 in
      begins_fit side.shape view.signals (agent_accepts side view) end legal c low shown
      (not_true (is_under_way side.shape view.signals (agent_accepts side view) c) (λ under_way. false≢true (sym (legal.finished c low under_way) ∙ read)))

  sizes_next : (c : ℕ) → sizes_at (suc c) ≡ sizes_at c ++ (if takes_read (agent_side port) view c then view.count c ∷ [] else [])
  unfolding sizes_at
  sizes_next c =
      let side = agent_side port in
      let accepts = agent_accepts side view in
      let levels = levels_at view.signals c in
      sizes_append (accepted side.shape view.signals accepts c) (only_if (accepts c) (transfer_of side.shape levels (burst_before side.shape view.signals accepts c)))
      ∙ ap (λ more. sizes_of (accepted side.shape view.signals accepts c) ++ more) (size_added side.shape levels _ (accepts c) (is_raised levels.write) refl)

  given_next : (c : ℕ) → c < end → words_before view.readdatavalid (suc c) ≡ words_before view.readdatavalid c + one_if (is_due c (waiting_at c))
  unfolding waiting_at
  given_next c low = word_more view.readdatavalid c ∙ ap (λ test. words_before view.readdatavalid c + one_if test) (given_in port script view end late stand_in c low)

  read_borne : (c : ℕ) → c < end → Answers (words_before view.readdatavalid (suc c)) (still_waiting c (waiting_at c)) (sizes_at c) → takes_read (agent_side port) view c ≡ true →
      is_borne (agent_side port) (still_waiting c (waiting_at c)) (view.count c) ≡ true
  unfolding sizes_at sizes_of
  read_borne c low answers takes =
      let side = agent_side port in
      let given = words_before view.readdatavalid (suc c) in
      let fits = read_fits c low takes in
      let commands : commands_among (still_waiting c (waiting_at c)) ≡ unreached (sizes_at c) given =
      sym (trues_of (still_waiting c (waiting_at c))) ∙ ap trues answers.marked ∙ trues_left (sizes_at c) given in
      let sizes : sizes_at (suc c) ≡ sizes_at c ++ view.count c ∷ [] = sizes_next c ∙ ap (λ test. sizes_at c ++ (if test then view.count c ∷ [] else [])) takes in
      let more : unreached (sizes_at (suc c)) given ≡ unreached (sizes_at c) given + 1 = ap (λ sizes. unreached sizes given) sizes ∙ unreached_more (sizes_at c) (view.count c) given answers.asked fits.0 in
      let few : unreached (sizes_at (suc c)) given ≤ side.pending = bounded c low late in
      and_from _ _ (less_test (commands_among (still_waiting c (waiting_at c))) side.pending (omega (arith, commands, more, few))) (most_test (view.count c) (longest_burst side.burst_bits) fits.1)

  answers_at : (c : ℕ) → c ≤ end → Answers (words_before view.readdatavalid c) (waiting_at c) (sizes_at c)
  unfolding sizes_at waiting_at sizes_of
  answers_at zero low = record { asked = omega arith; marked = refl; some = tt }
  answers_at (suc c) low =
      let side = agent_side port in
      let levels = levels_at view.signals c in
      let given = subst (λ n. Answers n (still_waiting c (waiting_at c)) (sizes_at c)) (sym (given_next c (omega arith))) (after_given c (words_before view.readdatavalid c) (waiting_at c) (sizes_at c) (answers_at c (omega arith))) in
      subst (Answers (words_before view.readdatavalid (suc c)) (waiting_at (suc c))) (sym (sizes_next c))
      (read_or_not (takes_read side view c) (is_borne side (still_waiting c (waiting_at c)) levels.count) side (contents_before side script view c) (code_at side script) (c + latency_of script) levels
      (words_before view.readdatavalid (suc c)) (still_waiting c (waiting_at c)) (sizes_at c) (λ takes. (read_borne c (omega arith) given takes, (read_fits c (omega arith) takes).0)) given)

  pub all_answered : (c : ℕ) → c ≤ end →
      words_before view.readdatavalid c + length (waiting_before (agent_side port) script view c) ≡ words_asked (agent_side port).shape view.signals (agent_accepts (agent_side port) view) c
  unfolding sizes_at waiting_at
  all_answered c low =
      length_left (words_before view.readdatavalid c) (waiting_at c) (sizes_at c) (answers_at c low)
      ∙ sym (total_beats (accepted (agent_side port).shape view.signals (agent_accepts (agent_side port) view) c))

  pub in_order : (c : ℕ) → c ≤ end → words_given view c ++ map answer_of (waiting_before (agent_side port) script view c) ≡ words_found port script view c
  unfolding sizes_at waiting_at
  in_order zero low = refl
  in_order (suc c) low =
      let side = agent_side port in
      let levels = levels_at view.signals c in
      let contents = contents_before side script view c in
      let waiting = waiting_before side script view c in
      let codes = code_at side script in
      let asked = asked_words side contents codes (c + latency_of script) levels in
      let now : c < end = omega arith in
      let word : view.readdata c ≡ word_due c waiting = stand_in.readdata c now ∙ ap (λ kind. if kind then word_due c waiting else word_behind side script view c) late in
      let code : view.response c ≡ code_due c waiting = stand_in.response c now ∙ ap (λ kind. if kind then code_due c waiting else code_behind side script view c) late in
      let given = subst (λ n. Answers n (still_waiting c waiting) (sizes_at c)) (sym (given_next c now)) (after_given c (words_before view.readdatavalid c) waiting (sizes_at c) (answers_at c (omega arith))) in
      let due = answer (word_due c waiting) (code_due c waiting) in
      let front : words_given view (suc c) ≡ words_given view c ++ only_if (is_due c waiting) due =
      ap (λ test. words_given view c ++ only_if test (answer (view.readdata c) (view.response c))) (given_in port script view end late stand_in c now)
      ∙ ap₂ (λ word code. words_given view c ++ only_if (is_due c waiting) (answer word code)) word code in
      ap (λ front. front ++ map answer_of (waiting_before side script view (suc c))) front
      ∙ found_more (takes_read side view c) (is_borne side (still_waiting c waiting) levels.count) (words_given view c ++ only_if (is_due c waiting) due) (still_waiting c waiting) asked
      (read_borne c now given)
      ∙ ap (λ words. words ++ (if takes_read side view c then map answer_of asked else [])) (moved c waiting (words_given view c) ∙ in_order c (omega arith))
      ∙ ap (λ words. words_found port script view c ++ (if takes_read side view c then words else [])) (words_of answer_of (asked_word side contents codes (c + latency_of script) levels) (numbers 0 levels.count))
