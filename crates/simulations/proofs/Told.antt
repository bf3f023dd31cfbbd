-- What is told and counted of interfaces that show the same in a cycle.
use Rattle.std.proofs.Common.{◌≡◌, ℕ, zero, suc, ◌+◌, ◌*◌, ◌%◌, ◌==◌, ◌&&◌, ◌||◌, not, nat_lt, Bool, List, [], ◌∷◌, ◌++◌, length, map, flat_map, slice_get, Some, None, if◌then◌else◌, refl, sym, ap, ap₂, ◌∙◌, arith}
use Rattle.std.specs.Prelude.{sum_by}
use Rattle.std.proofs.lemmas.List.Sums.{sum_by-cons}
use Rattle.av_base.specs.Word.{word}
use Rattle.histories.specs.History.{is_raised, numbers, only_if}
use Rattle.memory_runs.specs.Views.{Levels, HostSide, HostView, AgentSide, AgentView, levels_at}
use Rattle.memory_runs.specs.Operations.{Beat as MemoryBeat}
use Rattle.memory_runs.specs.Commands.{Transfer, agent_accepts, is_of_reads, transfer_at}
use Rattle.memory_runs.specs.Legal.{gives_word}
use Rattle.stream_runs.specs.View.{EndView, Beat, Side, beat_at}
use Rattle.stream_runs.specs.Symbols.{symbol_count}
use Rattle.trace_lines.specs.declared.counts.Counts.{Counts}
use Rattle.trace_lines.specs.declared.events.ShownBeat.{ShownBeat}
use Rattle.trace_lines.specs.Lines.{get_line, write_line, read_line, sent_line, got_line, dropped_line}
use Rattle.trace_lines.specs.Told.{told_of_host, told_of_agent, told_of_stream}
use Rattle.trace_lines.specs.Sums.{beats_taken_in, symbols_delivered_in}

-- ---- lists

pub flat_same : {X Y : Type 0} (f : Y → List (List ℕ)) (v w : X → Y) (xs : List X) → ((x : X) → f (v x) ≡ f (w x)) → flat_map f (map v xs) ≡ flat_map f (map w xs)
flat_same {X} {Y} f v w [] same = refl
flat_same {X} {Y} f v w (x ∷ xs) same = ap₂ (λ (a b : List (List ℕ)). a ++ b) (same x) (flat_same f v w xs same)

pub sum_same : {X Y : Type 0} (f : Y → ℕ) (v w : X → Y) (xs : List X) → ((x : X) → f (v x) ≡ f (w x)) → sum_by f (map v xs) ≡ sum_by f (map w xs)
sum_same {X} {Y} f v w [] same = refl
sum_same {X} {Y} f v w (x ∷ xs) same = sum_by-cons f (v x) (map v xs) ∙ ap₂ (λ (a b : ℕ). a + b) (same x) (sum_same f v w xs same) ∙ sym (sum_by-cons f (w x) (map w xs))

-- items beside others
pub flat_beside : {E Y C : Type 0} (f : Y → List (List ℕ)) (v : E → Y) (g : C → List (List ℕ)) (es : List E) (items : List C) → length items ≡ length es
    → ((k : ℕ) (e : E) (item : C) → slice_get es k ≡ Some e → slice_get items k ≡ Some item → f (v e) ≡ g item) → flat_map f (map v es) ≡ flat_map g items
flat_beside {E} {Y} {C} f v g [] [] count each = refl
flat_beside {E} {Y} {C} f v g [] (item ∷ items) count each = absurd (omega arith)
flat_beside {E} {Y} {C} f v g (e ∷ es) [] count each = absurd (omega arith)
flat_beside {E} {Y} {C} f v g (e ∷ es) (item ∷ items) count each =
    ap₂ (λ (a b : List (List ℕ)). a ++ b) (each 0 e item refl refl) (flat_beside f v g es items (omega arith) (λ k x y a b. each (suc k) x y a b))

pub sum_beside : {E Y C : Type 0} (f : Y → ℕ) (v : E → Y) (g : C → ℕ) (es : List E) (items : List C) → length items ≡ length es
    → ((k : ℕ) (e : E) (item : C) → slice_get es k ≡ Some e → slice_get items k ≡ Some item → f (v e) ≡ g item) → sum_by f (map v es) ≡ sum_by g items
sum_beside {E} {Y} {C} f v g [] [] count each = refl
sum_beside {E} {Y} {C} f v g [] (item ∷ items) count each = absurd (omega arith)
sum_beside {E} {Y} {C} f v g (e ∷ es) [] count each = absurd (omega arith)
sum_beside {E} {Y} {C} f v g (e ∷ es) (item ∷ items) count each =
    sum_by-cons f (v e) (map v es) ∙ ap₂ (λ (a b : ℕ). a + b) (each 0 e item refl refl) (sum_beside f v g es items (omega arith) (λ k x y a b. each (suc k) x y a b)) ∙ sym (sum_by-cons g item items)

pub sum_of_none : {C : Type 0} (items : List C) → sum_by (λ (c : C). 0) items ≡ 0
sum_of_none {C} [] = refl
sum_of_none {C} (item ∷ items) = sum_by-cons (λ (c : C). 0) item items ∙ (let rest = sum_of_none items in omega arith)

pub length-numbers : (first n : ℕ) → length (numbers first n) ≡ n
length-numbers first zero = refl
length-numbers first (suc n) = ap suc (length-numbers (suc first) n)

-- the number at a place of those from one on
number_at : (first n k e : ℕ) → slice_get (numbers first n) k ≡ Some e → e ≡ first + k
number_at first zero k e at = absurd (let no : None ≡ Some e = at in cc)
number_at first (suc n) zero e at = let same : first ≡ e = cc in omega arith
number_at first (suc n) (suc k) e at = let rest = number_at (suc first) n k e at in omega arith

pub numbered : (n k e : ℕ) → slice_get (numbers 0 n) k ≡ Some e → e ≡ k
numbered n k e at = let is = number_at 0 n k e at in omega arith

-- ---- one interface

abbrev is_given : HostSide → Levels → ℕ → ℕ → Bool
is_given side levels wait valid = if side.has_readdatavalid then is_raised valid else is_raised levels.read && not (is_raised wait)

pub same_given : (c : ℕ) (side : HostSide) (one two : HostView) → levels_at one.signals c ≡ levels_at two.signals c → one.waitrequest c ≡ two.waitrequest c → one.readdatavalid c ≡ two.readdatavalid c
    → gives_word side one c ≡ gives_word side two c
same_given c side one two levels wait valid =
    ap₂ (λ (l : Levels) (w : ℕ). is_given side l w (one.readdatavalid c)) levels wait ∙ ap (is_given side (levels_at two.signals c) (two.waitrequest c)) valid

abbrev given_line : ℕ → List ℕ → HostSide → Bool → ℕ → ℕ → List (List ℕ)
given_line c name side is bits code = only_if is (get_line c name (word (8 * side.word_bytes) bits) (if side.has_response then Some code else None))

pub same_host : (c : ℕ) (name : List ℕ) (side : HostSide) (one two : HostView) → levels_at one.signals c ≡ levels_at two.signals c → one.waitrequest c ≡ two.waitrequest c → one.readdatavalid c ≡ two.readdatavalid c
    → one.readdata c ≡ two.readdata c → one.response c ≡ two.response c → told_of_host c (record { name = name; side = side; view = one }) ≡ told_of_host c (record { name = name; side = side; view = two })
same_host c name side one two levels wait valid bits code =
    ap₂ (λ (b : Bool) (d : ℕ). given_line c name side b d (one.response c)) (same_given c side one two levels wait valid) bits
    ∙ ap (given_line c name side (gives_word side two c) (two.readdata c)) code

abbrev taken_lines : ℕ → List ℕ → AgentSide → Bool → Transfer → ℕ → ℕ → List (List ℕ)
taken_lines c name side accepts transfer grant enables =
    if accepts then
    (if is_of_reads transfer.kind
    then read_line c name grant (transfer.first % side.span) (word side.word_bytes enables) (length transfer.beats) ∷ []
    else map (λ (beat : MemoryBeat). write_line c name grant (beat.address % side.span) (word side.word_bytes beat.enables) (word (8 * side.word_bytes) beat.word)) transfer.beats)
    else []

pub same_agent : (c : ℕ) (name : List ℕ) (side : AgentSide) (one two : AgentView) → agent_accepts side one c ≡ agent_accepts side two c
    → transfer_at side.shape one.signals (agent_accepts side one) c ≡ transfer_at side.shape two.signals (agent_accepts side two) c → levels_at one.signals c ≡ levels_at two.signals c → one.grant c ≡ two.grant c
    → told_of_agent c (record { name = name; side = side; view = one }) ≡ told_of_agent c (record { name = name; side = side; view = two })
same_agent c name side one two accepts transfer levels grant =
    ap₂ (λ (a : Bool) (t : Transfer). taken_lines c name side a t (one.grant c) (one.enables c)) accepts transfer
    ∙ ap₂ (λ (g : ℕ) (l : Levels). taken_lines c name side (agent_accepts side two c) (transfer_at side.shape two.signals (agent_accepts side two) c) g l.enables) grant levels

pub same_beats : (c : ℕ) (name : List ℕ) (side : AgentSide) (one two : AgentView) → agent_accepts side one c ≡ agent_accepts side two c
    → transfer_at side.shape one.signals (agent_accepts side one) c ≡ transfer_at side.shape two.signals (agent_accepts side two) c
    → beats_taken_in c (record { name = name; side = side; view = one }) ≡ beats_taken_in c (record { name = name; side = side; view = two })
same_beats c name side one two accepts transfer = ap₂ (λ (a : Bool) (t : Transfer). if a then length t.beats else 0) accepts transfer

abbrev told_beat : Side → Beat → ShownBeat
told_beat side beat = record {
  word = word (side.symbols * side.symbol_bits) beat.word;
  channel = beat.channel;
  error = beat.error;
  first = beat.first == 1;
  last = beat.last == 1;
  empty = beat.empty;
}

abbrev moves : Side → ℕ → ℕ → Bool
moves side valid ready = (valid == 1) && (nat_lt 0 side.pace.latency || (ready == 1))

-- an end of a stream shows the same in a cycle
pub record EndsAlike (c : ℕ) (one two : EndView) : Type 0 where
  pub valid : one.valid c ≡ two.valid c
  pub beat : beat_at one c ≡ beat_at two c
  pub ready : one.ready c ≡ two.ready c

moves_same : (c : ℕ) (side : Side) (one two : EndView) → EndsAlike c one two → moves side (one.valid c) (one.ready c) ≡ moves side (two.valid c) (two.ready c)
moves_same c side one two same = ap₂ (moves side) same.valid same.ready

pub same_stream : (c : ℕ) (source_name sink_name : List ℕ) (source_side sink_side : Side) (source source' sink sink' : EndView) (dropped dropped' : ℕ → ℕ) → EndsAlike c source source' → EndsAlike c sink sink'
    → dropped c ≡ dropped' c
    → told_of_stream c (record { source = record { name = source_name; side = source_side; view = source }; sink = record { name = sink_name; side = sink_side; view = sink }; dropped = dropped })
    ≡ told_of_stream c (record { source = record { name = source_name; side = source_side; view = source' }; sink = record { name = sink_name; side = sink_side; view = sink' }; dropped = dropped' })
same_stream c source_name sink_name source_side sink_side source source' sink sink' dropped dropped' a b d =
    let sent = ap₂ (λ (m : Bool) (beat : Beat). only_if m (sent_line c source_name (told_beat source_side beat))) (moves_same c source_side source source' a) a.beat in
    let got = ap₂ (λ (m : Bool) (beat : Beat). only_if m (got_line c sink_name (told_beat sink_side beat))) (moves_same c sink_side sink sink' b) b.beat in
    let lost = ap (λ (level : ℕ). only_if (level == 1) (dropped_line c sink_name)) d in
    ap₂ (λ (x y : List (List ℕ)). x ++ y) (ap₂ (λ (x y : List (List ℕ)). x ++ y) sent got) lost

pub same_symbols : (c : ℕ) (source_name sink_name : List ℕ) (source_side sink_side : Side) (source source' sink sink' : EndView) (dropped dropped' : ℕ → ℕ) → EndsAlike c sink sink'
    → symbols_delivered_in c (record { source = record { name = source_name; side = source_side; view = source }; sink = record { name = sink_name; side = sink_side; view = sink }; dropped = dropped })
    ≡ symbols_delivered_in c (record { source = record { name = source_name; side = source_side; view = source' }; sink = record { name = sink_name; side = sink_side; view = sink' }; dropped = dropped' })
same_symbols c source_name sink_name source_side sink_side source source' sink sink' dropped dropped' b =
    ap₂ (λ (m : Bool) (beat : Beat). if m then symbol_count sink_side beat else 0) (moves_same c sink_side sink sink' b) b.beat

pub same_counts : (a b c d a' b' c' d' : ℕ) → a ≡ a' → b ≡ b' → c ≡ c' → d ≡ d' →
    let one : Counts = record { taken = a; answered = b; delivered = c; dropped = d } in
    let two : Counts = record { taken = a'; answered = b'; delivered = c'; dropped = d' } in
    one ≡ two
same_counts a b c d a' b' c' d' p q r s = rw (p, q, r, s) refl
