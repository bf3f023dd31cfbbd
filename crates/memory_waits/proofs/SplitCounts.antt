-- The words below a splitter by number: of those that were asked, which have come, and how many of the next word above.
use Rattle.std.proofs.Common.{ℕ, zero, suc, ◌<◌, ◌≤◌, ◌≡◌, ◌+◌, ◌-◌, ◌*◌, ◌⊎◌, inl, inr, Bool, true, false, not, ◌&&◌, ◌||◌, List, [], ◌∷◌, ◌++◌, if◌then◌else◌, arith, refl, sym, ap, ap₂, ◌∙◌, length, map, filter, flat_map, nat_eq, nat_lt, IsTrue, IsFalse, Some, slice_get, zero-mul, length-append, ltb-true, tests}
use Rattle.std.proofs.lemmas.Bool.{and_parts, not-true, eqb-true, ltb-false}
use Rattle.std.proofs.lemmas.List.{length-map}
use Rattle.std.proofs.lemmas.List.Elements.{filter-append}
use Rattle.std.proofs.lemmas.Grind.{flat_map-append}
use Rattle.histories.specs.History.{is_raised, one_if, only_if, numbers}
use Rattle.memory_runs.specs.Views.{Shape, Levels}
use Rattle.memory_runs.specs.Operations.{Beat, pieces}
use Rattle.memory_runs.specs.Commands.{shows, is_of_reads, words_before}
use Rattle.memory_runs.specs.Legal.{Word}
use Rattle.memory_machines.specs.Link.{Port, Marked, AreLegalAt, AnswersAreOwed, takes, taken_at, marked_at, read_beats, words_at, words_owed}
use Rattle.memory_machines.specs.Machines.{Raw, raw_at, single, joined, or_first, touched, is_touched, piece_of, beat_of}
use Rattle.memory_machines.specs.SideLaws.{same_counts}
use Rattle.memory_links.specs.Selects.{takes_read}
use Rattle.memory_links.specs.Splits.{SplitState, RunsAsSplit, split_at, asked_at, opens, completes, or_first_piece, pieces_asked, are_same}
use Rattle.memory_waits.proofs.Bits.{no_true, takes_shows, none_taken, one_taken}

-- ---- what is sent of a beat

-- one of the joined commands is that of its beat
pub record IsOf (r : Raw) (b : Beat) : Type 0 where
  pub enables : r.levels.enables ≡ b.enables
  pub writes : is_raised r.levels.write ≡ not (is_of_reads b.kind)
  pub count : r.levels.count ≡ 1

is_single : (tag more : ℕ) (b : Beat) → IsOf (single tag more b) b
is_single tag more b = record { enables = refl; writes = by_kind (is_of_reads b.kind); count = refl }
  where
    by_kind : (k : Bool) → is_raised (if k then 0 else 1) ≡ not k
    by_kind true = refl
    by_kind false = refl

same_of : (r s : Raw) (b : Beat) → IsOf s b → s ≡ r → IsOf r b
same_of r s b is same = record {
  enables = ap (λ (x : Raw). x.levels.enables) (sym same) ∙ is.enables;
  writes = ap (λ (x : Raw). is_raised x.levels.write) (sym same) ∙ is.writes;
  count = ap (λ (x : Raw). x.levels.count) (sym same) ∙ is.count;
}

pub command_at : (tag more : ℕ) (beats : List Beat) (n : ℕ) (r : Raw) → slice_get (joined tag more beats) n ≡ Some r → (b : Beat) × (slice_get beats n ≡ Some b) × IsOf r b
command_at tag more [] n r at = absurd cc
command_at tag more (b ∷ []) zero r at = let same : single tag more b ≡ r = cc in (b, refl, same_of r (single tag more b) b (is_single tag more b) same)
command_at tag more (b ∷ []) (suc n) r at = absurd cc
command_at tag more (b ∷ next ∷ later) zero r at = let same : single tag 1 b ≡ r = cc in (b, refl, same_of r (single tag 1 b) b (is_single tag 1 b) same)
command_at tag more (b ∷ next ∷ later) (suc n) r at = command_at tag more (next ∷ later) n r at

pub joined_size : (tag last : ℕ) (beats : List Beat) → length (joined tag last beats) ≡ length beats
joined_size tag last [] = refl
joined_size tag last (b ∷ []) = refl
joined_size tag last (b ∷ next ∷ later) = ap suc (joined_size tag last (next ∷ later))

kind_at : (bytes : ℕ) (beat b : Beat) (ns : List ℕ) (n : ℕ) → slice_get (filter is_touched (map (piece_of bytes beat) ns)) n ≡ Some b → b.kind ≡ beat.kind
kind_at bytes beat b [] n at = absurd cc
kind_at bytes beat b (p ∷ ns) n at = by_test (is_touched (piece_of bytes beat p)) n at (λ k later. kind_at bytes beat b ns k later)
  where
    by_test : (t : Bool) (n : ℕ) → slice_get (if t then piece_of bytes beat p ∷ filter is_touched (map (piece_of bytes beat) ns) else filter is_touched (map (piece_of bytes beat) ns)) n ≡ Some b →
        ((k : ℕ) → slice_get (filter is_touched (map (piece_of bytes beat) ns)) k ≡ Some b → b.kind ≡ beat.kind) → b.kind ≡ beat.kind
    by_test false n at more = more n at
    by_test true zero at more = let same : piece_of bytes beat p ≡ b = cc in ap (λ (x : Beat). x.kind) (sym same)
    by_test true (suc n) at more = more n at

kind_of : (narrow : Shape) (needed : Bool) (beat : Beat) (touches : List Beat) (n : ℕ) (b : Beat) → (slice_get touches n ≡ Some b → b.kind ≡ beat.kind) → slice_get (or_first narrow needed beat touches) n ≡ Some b → b.kind ≡ beat.kind
kind_of narrow false beat [] n b so at = absurd cc
kind_of narrow true beat [] zero b so at = let same : piece_of narrow.word_bytes beat 0 ≡ b = cc in ap (λ (x : Beat). x.kind) (sym same)
kind_of narrow true beat [] (suc n) b so at = absurd cc
kind_of narrow needed beat (t ∷ ts) n b so at = so at

pub mapped : {A B : Type 0} (test : B → Bool) (f : A → B) (xs : List A) → filter test (map f xs) ≡ map f (filter (λ x. test (f x)) xs)
mapped test f [] = refl
mapped test f (x ∷ xs) = by_test (test (f x)) (mapped test f xs)
  where
    by_test : (b : Bool) → filter test (map f xs) ≡ map f (filter (λ x. test (f x)) xs) → (if b then f x ∷ filter test (map f xs) else filter test (map f xs)) ≡ map f (if b then x ∷ filter (λ x. test (f x)) xs else filter (λ x. test (f x)) xs)
    by_test true rest = ap (λ l. f x ∷ l) rest
    by_test false rest = rest

-- of a read as many pieces are sent as are asked
asked_size : (narrow : Shape) (more : Bool) (beat : Beat) (ns : List ℕ) → length (or_first narrow (more || true) beat (filter is_touched (map (piece_of narrow.word_bytes beat) ns))) ≡ length (or_first_piece (filter (λ p. is_touched (piece_of narrow.word_bytes beat p)) ns))
asked_size narrow more beat ns = ap (λ l. length (or_first narrow (more || true) beat l)) (mapped is_touched (piece_of narrow.word_bytes beat) ns) ∙ by_list more (filter (λ p. is_touched (piece_of narrow.word_bytes beat p)) ns)
  where
    by_list : (b : Bool) (l : List ℕ) → length (or_first narrow (b || true) beat (map (piece_of narrow.word_bytes beat) l)) ≡ length (or_first_piece l)
    by_list true [] = refl
    by_list false [] = refl
    by_list b (x ∷ xs) = ap suc (length-map xs (piece_of narrow.word_bytes beat))

some_asked : (l : List ℕ) → 0 < length (or_first_piece l)
some_asked [] = omega arith
some_asked (x ∷ xs) = omega arith

same_lists : (xs ys : List ℕ) → IsTrue (are_same xs ys) → xs ≡ ys
same_lists [] [] h = refl
same_lists [] (y ∷ ys) h = cc
same_lists (x ∷ xs) [] h = cc
same_lists (x ∷ xs) (y ∷ ys) h = let parts = and_parts (nat_eq x y) (are_same xs ys) h in ap₂ (λ a l. a ∷ l) (eqb-true x y parts.0) (same_lists xs ys parts.1)

-- ---- numbers

one_more_time : (n l : ℕ) (b : Bool) → (n + one_if b) * l ≡ n * l + (if b then l else 0)
one_more_time n l true = grind arith
one_more_time n l false = grind arith

times_moved : (l r s : ℕ) (x a : Bool) → s + one_if x ≡ r + one_if a → s * l + (if x then l else 0) ≡ r * l + (if a then l else 0)
times_moved l r s x a same = sym (one_more_time s l x) ∙ ap (λ n. n * l) same ∙ one_more_time r l a

no_times : (n l : ℕ) → n ≡ 0 → n * l ≡ 0
no_times n l none = ap (λ k. k * l) none ∙ zero-mul l

beats_push : (xs : List Marked) (m : Marked) → length (read_beats (xs ++ m ∷ [])) ≡ length (read_beats xs) + length (read_beats (m ∷ []))
beats_push xs m =
    ap (λ l. length (flat_map (λ (m : Marked). m.transfer.beats) l)) (filter-append (λ (m : Marked). is_of_reads m.transfer.kind) xs (m ∷ []))
    ∙ ap length (flat_map-append (λ (m : Marked). m.transfer.beats) (filter (λ (m : Marked). is_of_reads m.transfer.kind) xs) (filter (λ (m : Marked). is_of_reads m.transfer.kind) (m ∷ [])))
    ∙ length-append (read_beats xs) (read_beats (m ∷ []))

one_word_more : (b : Bool) (x : Word) (xs : List Word) → length (xs ++ only_if b x) ≡ length xs + one_if b
one_word_more true x xs = length-append xs (x ∷ [])
one_word_more false x xs = length-append xs []

self_eq : (n : ℕ) → IsTrue (nat_eq n n)
self_eq n = grind (arith, tests)

-- ---- the machine

module _ (room : ℕ) (up down : Port) (state : SplitState) (run : RunsAsSplit room up down state) (end : ℕ) (legal : AreLegalAt up end) (owed : AnswersAreOwed down end) where
  abbrev beat : ℕ → Beat
  beat c = beat_of up.shape (raw_at up c).levels

  abbrev needed : ℕ → Bool
  needed c = not (is_raised (up.commands.more c)) || not (is_raised (up.commands.write c))

  abbrev pub sent : ℕ → List Beat
  sent c = or_first down.shape (needed c) (beat c) (touched up.shape down.shape (beat c))

  abbrev size : ℕ → ℕ
  size c = length (split_at up down c)

  -- the pieces of a read that have gone before it is accepted
  abbrev gone : ℕ → ℕ
  gone c = if is_raised (up.commands.write c) then 0 else state.place c

  abbrev set_size : ℕ → ℕ
  set_size c = length (state.set c)

  pub part : (c : ℕ) → IsTrue (takes down c) → (b : Beat) × (slice_get (sent c) (state.place c) ≡ Some b) × IsOf (raw_at down c) b
  part c taken = command_at (up.commands.tag c) (up.commands.more c) (sent c) (state.place c) (raw_at down c) (run.part c (takes_shows down c taken))

  pub same_kind : (c : ℕ) → IsTrue (takes down c) → is_raised (down.commands.write c) ≡ is_raised (up.commands.write c)
  same_kind c taken =
      let p = part c taken in
      p.2.writes ∙ ap (λ k. not (is_of_reads k)) (kind_of down.shape (needed c) (beat c) (touched up.shape down.shape (beat c)) (state.place c) p.0 (kind_at down.shape.word_bytes (beat c) p.0 (numbers 0 (pieces up.shape down.shape)) (state.place c)) p.1)
      ∙ by_write (is_raised (up.commands.write c)) refl
    where
      by_write : (w : Bool) → is_raised (up.commands.write c) ≡ w → not (is_of_reads (beat c).kind) ≡ w
      by_write true e = rw e refl
      by_write false e = rw e refl

  pub there : (c : ℕ) → IsTrue (takes down c) → IsTrue (shows up.commands.signals c && opens room up down state c)
  there c taken = (and_parts (shows up.commands.signals c && opens room up down state c) _ (sym (run.shown c) ∙ takes_shows down c taken)).0

  pub in_size : (c : ℕ) → IsTrue (takes down c) → state.place c < size c
  in_size c taken = ltb-true (state.place c) (size c) (and_parts (shows up.commands.signals c && opens room up down state c) _ (sym (run.shown c) ∙ takes_shows down c taken)).1

  read_size : (c : ℕ) → IsFalse (is_raised (up.commands.write c)) → size c ≡ length (asked_at up down c)
  read_size c read =
      joined_size (up.commands.tag c) (up.commands.more c) (sent c)
      ∙ ap (λ w. length (or_first down.shape (not (is_raised (up.commands.more c)) || not w) (beat c) (touched up.shape down.shape (beat c)))) read
      ∙ asked_size down.shape (not (is_raised (up.commands.more c))) (beat c) (numbers 0 (pieces up.shape down.shape))

  some_size : (c : ℕ) → IsFalse (is_raised (up.commands.write c)) → 0 < size c
  some_size c read = let same = read_size c read in let some = some_asked (filter (λ p. is_touched (piece_of down.shape.word_bytes (beat c) p)) (numbers 0 (pieces up.shape down.shape))) in omega (arith, same, some)

  -- each read below asks a word
  owed_next : (c : ℕ) → words_owed down (suc c) ≡ words_owed down c + one_if (takes_read down c)
  owed_next c = by_take (takes down c) refl (is_raised (down.commands.write c)) refl
    where
      one_read : (w : Bool) → is_raised (down.commands.write c) ≡ w → down.commands.count c ≡ 1 → length (read_beats (marked_at down c ∷ [])) ≡ one_if (not w)
      one_read true e one = rw e refl
      one_read false e one = rw (e, one) refl

      by_take : (t : Bool) → takes down c ≡ t → (w : Bool) → is_raised (down.commands.write c) ≡ w → words_owed down (suc c) ≡ words_owed down c + one_if (takes down c && not (is_raised (down.commands.write c)))
      by_take false e w f = let same = ap (λ l. length (read_beats l)) (none_taken down c e) in let none = ap (λ t. one_if (t && not (is_raised (down.commands.write c)))) e in omega (arith, same, none)
      by_take true e w f =
          let more = ap (λ l. length (read_beats l)) (one_taken down c e) ∙ beats_push (taken_at down c) (marked_at down c) in
          let one = one_read w f (part c e).2.count in
          let is = ap₂ (λ t w. one_if (t && not w)) e f in
          omega (arith, more, one, is)

  pub came_next : (c : ℕ) → length (words_at down (suc c)) ≡ length (words_at down c) + one_if (is_raised (down.answers.valid c))
  came_next c = one_word_more (is_raised (down.answers.valid c)) (record { word = down.answers.word c; code = down.answers.code c }) (words_at down c)

  -- no word comes that wasn't asked
  within : (c : ℕ) → c < end → length (words_at down c) + one_if (is_raised (down.answers.valid c)) ≤ words_owed down c
  within c h =
      let asked = owed c h in
      let counts : words_before down.answers.valid (suc c) ≡ length (words_at down (suc c)) = same_counts (λ c. is_raised (down.answers.valid c)) (λ c. c) (λ c. record { word = down.answers.word c; code = down.answers.code c }) (suc c) in
      let more = came_next c in
      omega (arith, asked, counts, more)

  pub record Now (c : ℕ) : Type 0 where
    pub owes : words_owed down c + state.come c ≡ length (words_at down c) + (state.reads c * set_size c + gone c)
    pub few : state.come c ≤ set_size c - 1
    pub left : gone c ≤ set_size c - 1
    pub stands : 0 < state.place c → IsTrue (shows up.commands.signals c)
    pub same : 0 < gone c → state.set c ≡ asked_at up down c

  -- ---- one cycle

  place_is : (c : ℕ) (u t : Bool) → takes up c ≡ u → takes down c ≡ t → state.place (suc c) ≡ (if u then 0 else if t then suc (state.place c) else state.place c)
  place_is c u t e f = run.place_next c ∙ ap₂ (λ a b. if a then 0 else if b then suc (state.place c) else state.place c) e f

  -- which reads are taken below and accepted above, and how many pieces have gone after it
  pub record Move (c : ℕ) : Type 0 where
    pub accepts : Bool
    pub accepts_is : takes_read up c ≡ accepts
    pub asks : Bool
    pub asks_is : takes_read down c ≡ asks
    pub both : IsTrue accepts → IsTrue asks
    pub sum : gone (suc c) + (if accepts then size c else 0) ≡ gone c + one_if asks
    pub small : IsTrue asks → gone (suc c) < size c
    pub less : IsFalse asks → gone (suc c) ≤ gone c
    pub stands_on : 0 < state.place (suc c) → IsTrue (shows up.commands.signals (suc c))
    pub goes_on : 0 < gone (suc c) → asked_at up down (suc c) ≡ asked_at up down c

  nothing_gone : (c n : ℕ) → n ≡ 0 → (if is_raised (up.commands.write c) then 0 else n) ≡ 0
  nothing_gone c n none = ap (λ k. if is_raised (up.commands.write c) then 0 else k) none ∙ by_write (is_raised (up.commands.write c))
    where
      by_write : (w : Bool) → (if w then 0 else 0) ≡ zero
      by_write true = refl
      by_write false = refl

  none_above : (n : ℕ) {A : Type 0} → n ≡ 0 → 0 < n → A
  none_above n none some = absurd (omega (arith, none, some))

  pub move : (c : ℕ) → suc c < end → Now c → Move c
  move c h now = by_case (takes up c) refl (takes down c) refl (is_raised (up.commands.write c)) refl (shows up.commands.signals c) refl
    where
      reads_up : (u w : Bool) → takes up c ≡ u → is_raised (up.commands.write c) ≡ w → takes_read up c ≡ (u && not w)
      reads_up u w e f = ap₂ (λ x y. x && not y) e f

      reads_down : (t w : Bool) → takes down c ≡ t → is_raised (down.commands.write c) ≡ w → takes_read down c ≡ (t && not w)
      reads_down t w e f = ap₂ (λ x y. x && not y) e f

      gone_is : (w : Bool) → is_raised (up.commands.write c) ≡ w → gone c ≡ (if w then 0 else state.place c)
      gone_is w e = ap (λ w. if w then 0 else state.place c) e

      stays : takes up c ≡ false → shows up.commands.signals c ≡ true → raw_at up c ≡ raw_at up (suc c)
      stays e f =
          let held = ap₂ (λ s t. s && not t) f e in
          ap₂ (λ (l : Levels) m. record { levels = l; more = m; tag = up.commands.tag c }) (legal.legal.held c h held) (legal.more c h held) ∙ ap (λ t. record { levels = (raw_at up (suc c)).levels; more = up.commands.more (suc c); tag = t }) (legal.tag c h held)

      later_write : (w : Bool) → takes up c ≡ false → shows up.commands.signals c ≡ true → is_raised (up.commands.write c) ≡ w → gone (suc c) ≡ (if w then 0 else state.place (suc c))
      later_write w e f g = ap (λ w. if w then 0 else state.place (suc c)) (sym (ap (λ (r : Raw). is_raised r.levels.write) (stays e f)) ∙ g)

      same_asked : takes up c ≡ false → shows up.commands.signals c ≡ true → asked_at up down (suc c) ≡ asked_at up down c
      same_asked e f = ap (λ (r : Raw). pieces_asked up.shape down.shape (beat_of up.shape r.levels)) (sym (stays e f))

      shown_on : takes up c ≡ false → shows up.commands.signals c ≡ true → IsTrue (shows up.commands.signals (suc c))
      shown_on e f = sym (ap (λ (r : Raw). is_raised r.levels.read || is_raised r.levels.write) (stays e f)) ∙ f

      last_taken : IsTrue (takes up c) → IsFalse (is_raised (up.commands.write c)) → IsTrue (takes down c) × (suc (state.place c) ≡ size c)
      last_taken e f = by_parts (nat_eq (size c) 0) refl (and_parts (shows up.commands.signals c && opens room up down state c) _ (sym (run.accepts c) ∙ e)).1
        where
          by_parts : (b : Bool) → nat_eq (size c) 0 ≡ b → IsTrue (b || (takes down c && nat_eq (suc (state.place c)) (size c))) → IsTrue (takes down c) × (suc (state.place c) ≡ size c)
          by_parts true g is = let none = eqb-true (size c) 0 g in let some = some_size c f in absurd (omega (arith, none, some))
          by_parts false g is = let both = and_parts (takes down c) (nat_eq (suc (state.place c)) (size c)) is in (both.0, eqb-true (suc (state.place c)) (size c) both.1)

      not_last : takes up c ≡ false → IsTrue (takes down c) → suc (state.place c) ≡ size c → ⊥
      not_last e f last = no_true (sym e ∙ (run.accepts c ∙ ap₂ (λ x y. x && (nat_eq (size c) 0 || (y && nat_eq (suc (state.place c)) (size c)))) (there c f) f ∙ by_or (nat_eq (size c) 0) (ap (λ n. nat_eq n (size c)) last ∙ self_eq (size c))))
        where
          by_or : (b : Bool) {x : Bool} → IsTrue x → IsTrue (b || x)
          by_or true is = refl
          by_or false is = is

      by_case : (u : Bool) → takes up c ≡ u → (t : Bool) → takes down c ≡ t → (w : Bool) → is_raised (up.commands.write c) ≡ w → (s : Bool) → shows up.commands.signals c ≡ s → Move c
      by_case true e t f true g s k =
          let none = nothing_gone (suc c) (state.place (suc c)) (place_is c true t e f) in
          let before = gone_is true g in
          record {
            accepts = false;
            both = λ x. absurd (no_true x);
            accepts_is = reads_up true true e g;
            asks = false;
            asks_is = no_read t f;
            sum = omega (arith, none, before);
            small = λ x. absurd (no_true x);
            less = λ x. omega (arith, none);
            stands_on = none_above (state.place (suc c)) (place_is c true t e f);
            goes_on = none_above (gone (suc c)) none;
          }
        where
          no_read : (t : Bool) → takes down c ≡ t → takes_read down c ≡ false
          no_read false f = ap (λ x. x && not (is_raised (down.commands.write c))) f
          no_read true f = reads_down true true f (same_kind c f ∙ g)
      by_case true e t f false g s k =
          let last = last_taken e g in
          let none = nothing_gone (suc c) (state.place (suc c)) (place_is c true t e f) in
          let before = gone_is false g in
          let all = last.1 in
          let some = some_size c g in
          record {
            accepts = true;
            both = λ x. refl;
            accepts_is = reads_up true false e g;
            asks = true;
            asks_is = reads_down true false last.0 (same_kind c last.0 ∙ g);
            sum = omega (arith, none, before, all);
            small = λ x. omega (arith, none, some);
            less = λ x. absurd (no_true (sym x));
            stands_on = none_above (state.place (suc c)) (place_is c true t e f);
            goes_on = none_above (gone (suc c)) none;
          }
      by_case false e true f true g s k =
          let shown = (and_parts (shows up.commands.signals c) (opens room up down state c) (there c f)).0 in
          let none = later_write true e shown g in
          let before = gone_is true g in
          record {
            accepts = false;
            both = λ x. absurd (no_true x);
            accepts_is = reads_up false true e g;
            asks = false;
            asks_is = reads_down true true f (same_kind c f ∙ g);
            sum = omega (arith, none, before);
            small = λ x. absurd (no_true x);
            less = λ x. omega (arith, none);
            stands_on = λ some. shown_on e shown;
            goes_on = none_above (gone (suc c)) none;
          }
      by_case false e true f false g s k =
          let shown = (and_parts (shows up.commands.signals c) (opens room up down state c) (there c f)).0 in
          let next = later_write false e shown g in
          let place = place_is c false true e f in
          let before = gone_is false g in
          let low = in_size c f in
          record {
            accepts = false;
            both = λ x. absurd (no_true x);
            accepts_is = reads_up false false e g;
            asks = true;
            asks_is = reads_down true false f (same_kind c f ∙ g);
            sum = omega (arith, next, place, before);
            small = λ x. by_last next place low (not_last e f);
            less = λ x. absurd (no_true (sym x));
            stands_on = λ some. shown_on e shown;
            goes_on = λ some. same_asked e shown;
          }
        where
          by_last : gone (suc c) ≡ state.place (suc c) → state.place (suc c) ≡ suc (state.place c) → state.place c < size c → (suc (state.place c) ≡ size c → ⊥) → gone (suc c) < size c
          by_last next place low other = by_less (nat_lt (suc (state.place c)) (size c)) refl
            where
              by_less : (b : Bool) → nat_lt (suc (state.place c)) (size c) ≡ b → gone (suc c) < size c
              by_less true e = let less = ltb-true (suc (state.place c)) (size c) e in omega (arith, less, next, place)
              by_less false e = let high = ltb-false (suc (state.place c)) (size c) e in absurd (other (omega (arith, high, low)))
      by_case false e false f w g true k =
          let next = later_write w e k g in
          let place = place_is c false false e f in
          let before = gone_is w g in
          let same = ap (λ n. if w then 0 else n) place in
          record {
            accepts = false;
            both = λ x. absurd (no_true x);
            accepts_is = reads_up false w e g;
            asks = false;
            asks_is = ap (λ x. x && not (is_raised (down.commands.write c))) f;
            sum = omega (arith, next, same, before);
            small = λ x. absurd (no_true x);
            less = λ x. omega (arith, next, same, before);
            stands_on = λ some. shown_on e k;
            goes_on = λ some. same_asked e k;
          }
      by_case false e false f w g false k =
          let place = place_is c false false e f in
          let nothing = nothing_stands k in
          let none = nothing_gone (suc c) (state.place (suc c)) (omega (arith, place, nothing)) in
          let before = nothing_gone c (state.place c) nothing in
          record {
            accepts = false;
            both = λ x. absurd (no_true x);
            accepts_is = reads_up false w e g;
            asks = false;
            asks_is = ap (λ x. x && not (is_raised (down.commands.write c))) f;
            sum = omega (arith, none, before);
            small = λ x. absurd (no_true x);
            less = λ x. omega (arith, none);
            stands_on = none_above (state.place (suc c)) (omega (arith, place, nothing));
            goes_on = none_above (gone (suc c)) none;
          }
        where
          nothing_stands : shows up.commands.signals c ≡ false → state.place c ≡ 0
          nothing_stands k = by_zero (state.place c) refl
            where
              by_zero : (n : ℕ) → state.place c ≡ n → n ≡ 0
              by_zero zero e = refl
              by_zero (suc n) e = absurd (no_true (sym k ∙ now.stands (omega (arith, e))))

  -- the pieces that are asked stay the same, or none was under way
  pub record IsFresh (c : ℕ) : Type 0 where
    pub reads : state.reads c ≡ 0
    pub place : state.place c ≡ 0
    pub read : takes_read down c ≡ true

  set_is : (c : ℕ) → takes_read down c ≡ true → state.set (suc c) ≡ asked_at up down c
  set_is c e = run.set_next c ∙ ap (λ b. if b then asked_at up down c else state.set c) e

  pub set_stays : (c : ℕ) → Now c → (state.set (suc c) ≡ state.set c) ⊎ IsFresh c
  set_stays c now = by_read (takes_read down c) refl
    where
      by_read : (b : Bool) → takes_read down c ≡ b → (state.set (suc c) ≡ state.set c) ⊎ IsFresh c
      by_read false e = inl (run.set_next c ∙ ap (λ b. if b then asked_at up down c else state.set c) e)
      by_read true e = by_place (nat_lt 0 (state.place c)) refl
        where
          taken : IsTrue (takes down c)
          taken = (and_parts (takes down c) (not (is_raised (down.commands.write c))) e).0

          read : IsFalse (is_raised (up.commands.write c))
          read = sym (same_kind c taken) ∙ not-true (is_raised (down.commands.write c)) (and_parts (takes down c) (not (is_raised (down.commands.write c))) e).1

          by_place : (b : Bool) → nat_lt 0 (state.place c) ≡ b → (state.set (suc c) ≡ state.set c) ⊎ IsFresh c
          by_place true f =
              let some = ltb-true 0 (state.place c) f in
              let gone_is : gone c ≡ state.place c = ap (λ w. if w then 0 else state.place c) read in
              inl (set_is c e ∙ sym (now.same (omega (arith, some, gone_is))))
          by_place false f = by_gate (nat_eq (state.reads c) 0) refl gate
            where
              gate : IsTrue (nat_eq (state.reads c) 0 || are_same (state.set c) (asked_at up down c))
              gate =
                  let opened = (and_parts (shows up.commands.signals c) (opens room up down state c) (there c taken)).1 in
                  (and_parts (nat_lt (state.reads c) room) (nat_eq (state.reads c) 0 || are_same (state.set c) (asked_at up down c))
                  (ap₂ (λ w p. w || (nat_lt (state.reads c) room && (p || (nat_eq (state.reads c) 0 || are_same (state.set c) (asked_at up down c))))) (sym read) (sym f) ∙ opened)).1

              by_gate : (b : Bool) → nat_eq (state.reads c) 0 ≡ b → IsTrue (b || are_same (state.set c) (asked_at up down c)) → (state.set (suc c) ≡ state.set c) ⊎ IsFresh c
              by_gate true g is = inr (record { reads = eqb-true (state.reads c) 0 g; place = (let low = ltb-false 0 (state.place c) f in omega (arith, low)); read = e })
              by_gate false g is = inl (set_is c e ∙ sym (same_lists (state.set c) (asked_at up down c) is))

  -- while none is under way, no word comes, and none has
  record IsBare (c : ℕ) : Type 0 where
    pub come : state.come c ≡ 0
    pub none : one_if (is_raised (down.answers.valid c)) ≡ 0
    pub all : words_owed down c ≡ length (words_at down c)

  bare : (c : ℕ) → c < end → Now c → IsFresh c → IsBare c
  bare c h now fresh =
      let owes = now.owes in
      let no_reads = no_times (state.reads c) (set_size c) fresh.reads in
      let none_gone = nothing_gone c (state.place c) fresh.place in
      let legal = within c h in
      record { come = omega (arith, owes, no_reads, none_gone, legal); none = omega (arith, owes, no_reads, none_gone, legal); all = omega (arith, owes, no_reads, none_gone, legal) }

  -- a word that comes has a place in the next one, and completes that of a read which is accepted
  record HasPlace (c : ℕ) : Type 0 where
    pub low : suc (state.come c) ≤ set_size c
    pub last : suc (state.come c) ≡ set_size c → 0 < state.reads c

  has_place : (c : ℕ) → c < end → Now c → is_raised (down.answers.valid c) ≡ true → HasPlace c
  has_place c h now comes =
      let owes = now.owes in
      let few = now.few in
      let left = now.left in
      let legal = within c h in
      let one = ap one_if comes in
      by_reads (state.reads c) refl owes few left legal one
    where
      by_reads : (n : ℕ) → state.reads c ≡ n → words_owed down c + state.come c ≡ length (words_at down c) + (state.reads c * set_size c + gone c) → state.come c ≤ set_size c - 1 → gone c ≤ set_size c - 1 →
          length (words_at down c) + one_if (is_raised (down.answers.valid c)) ≤ words_owed down c → one_if (is_raised (down.answers.valid c)) ≡ 1 → HasPlace c
      by_reads zero e owes few left legal one =
          let none = no_times (state.reads c) (set_size c) e in
          record { low = omega (arith, owes, left, legal, one, none); last = λ is. absurd (omega (arith, owes, left, legal, one, none, is)) }
      by_reads (suc n) e owes few left legal one = record { low = by_size (set_size c) refl; last = λ is. omega (arith, e) }
        where
          no_size : (r l : ℕ) → l ≡ 0 → r * l ≡ 0
          no_size r l none = ap (λ k. r * k) none ∙ grind arith

          by_size : (l : ℕ) → set_size c ≡ l → suc (state.come c) ≤ set_size c
          by_size zero f = let none = no_size (state.reads c) (set_size c) f in absurd (omega (arith, owes, left, legal, one, none, f))
          by_size (suc l) f = omega (arith, few, f)

  -- how the words come
  pub record Coming (c : ℕ) : Type 0 where
    pub completed : Bool
    pub given : is_raised (up.answers.valid c) ≡ completed
    pub sum : state.come (suc c) + (if completed then set_size c else 0) ≡ state.come c + one_if (is_raised (down.answers.valid c))
    pub few : state.come (suc c) ≤ set_size c - 1
    pub some : IsTrue completed → 0 < state.reads c

  pub coming : (c : ℕ) → c < end → Now c → Coming c
  coming c h now = by_valid (is_raised (down.answers.valid c)) refl (completes state c) refl
    where
      next : (v d : Bool) → is_raised (down.answers.valid c) ≡ v → completes state c ≡ d → state.come (suc c) ≡ (if v then (if d then 0 else suc (state.come c)) else state.come c)
      next v d e f = run.come_next c ∙ ap₂ (λ v d. if v then (if d then 0 else suc (state.come c)) else state.come c) e f

      by_valid : (v : Bool) → is_raised (down.answers.valid c) ≡ v → (d : Bool) → completes state c ≡ d → Coming c
      by_valid false e d f =
          let is = next false d e f in
          let none = ap one_if e in
          let few = now.few in
          record { completed = false; given = run.valid c ∙ ap (λ v. v && completes state c) e; sum = omega (arith, is, none); few = omega (arith, is, few); some = λ x. absurd (no_true x) }
      by_valid true e false f =
          let is = next true false e f in
          let one = ap one_if e in
          let left = ltb-false (set_size c) (suc (suc (state.come c))) f in
          record { completed = false; given = run.valid c ∙ ap₂ (λ v d. v && d) e f; sum = omega (arith, is, one); few = omega (arith, left, is); some = λ x. absurd (no_true x) }
      by_valid true e true f =
          let is = next true true e f in
          let one = ap one_if e in
          let low = (has_place c h now e).low in
          let high = ltb-true (set_size c) (suc (suc (state.come c))) f in
          let last : suc (state.come c) ≡ set_size c = omega (arith, low, high) in
          record { completed = true; given = run.valid c ∙ ap₂ (λ v d. v && d) e f; sum = omega (arith, is, one, last); few = omega (arith, is); some = λ x. (has_place c h now e).last last }

  few_next : (c : ℕ) → c < end → Now c → state.come (suc c) ≤ set_size (suc c) - 1
  few_next c h now = elim (set_stays c now) [
    | inl same ↦ (let few = (coming c h now).few in let size_is = ap length same in omega (arith, few, size_is))
    | inr fresh ↦ (let b = bare c h now fresh in let sum = (coming c h now).sum in let come = b.come in let none = b.none in omega (arith, sum, come, none))
  ]

  next_now : (c : ℕ) → suc c < end → Now c → Now (suc c)
  next_now c h now = record {
    owes = elim (set_stays c now) [
      | inl same ↦ owes_on same
      | inr fresh ↦ owes_first fresh
    ];
    few = few_next c (omega (arith, h)) now;
    left = by_asks m.asks refl;
    stands = m.stands_on;
    same = λ some. by_read (takes_read down c) refl some;
  }
    where
      m : Move c
      m = move c h now

      w : Coming c
      w = coming c (omega (arith, h)) now

      read_below : takes_read down c ≡ true → IsFalse (is_raised (up.commands.write c))
      read_below e =
          let parts = and_parts (takes down c) (not (is_raised (down.commands.write c))) e in
          sym (same_kind c parts.0) ∙ not-true (is_raised (down.commands.write c)) parts.1

      asked_now : takes_read down c ≡ true → set_size (suc c) ≡ size c
      asked_now e = ap length (set_is c e) ∙ sym (read_size c (read_below e))

      set_kept : takes_read down c ≡ false → state.set (suc c) ≡ state.set c
      set_kept e = run.set_next c ∙ ap (λ b. if b then asked_at up down c else state.set c) e

      by_asks : (b : Bool) → m.asks ≡ b → gone (suc c) ≤ set_size (suc c) - 1
      by_asks true e = let less = m.small e in let sizes = asked_now (m.asks_is ∙ e) in omega (arith, less, sizes)
      by_asks false e = let less = m.less e in let left = now.left in let sizes = ap length (set_kept (m.asks_is ∙ e)) in omega (arith, less, left, sizes)

      by_read : (b : Bool) → takes_read down c ≡ b → 0 < gone (suc c) → state.set (suc c) ≡ asked_at up down (suc c)
      by_read true e some = set_is c e ∙ sym (m.goes_on some)
      by_read false e some = let less = m.less (sym m.asks_is ∙ e) in set_kept e ∙ now.same (omega (arith, less, some)) ∙ sym (m.goes_on some)

      accepted_size : (b : Bool) → m.accepts ≡ b → (if b then set_size (suc c) else 0) ≡ (if b then size c else 0)
      accepted_size true e = asked_now (m.asks_is ∙ m.both e)
      accepted_size false e = refl

      moved : state.reads (suc c) + one_if w.completed ≡ state.reads c + one_if m.accepts
      moved =
          let is = run.reads_next c in
          let accepts = ap one_if m.accepts_is in
          let given = ap one_if w.given in
          by_completed w.completed refl (omega (arith, is, accepts, given))
        where
          by_completed : (b : Bool) → w.completed ≡ b → state.reads (suc c) ≡ (state.reads c + one_if m.accepts) - one_if w.completed → state.reads (suc c) + one_if w.completed ≡ state.reads c + one_if m.accepts
          by_completed true e is = let some = w.some e in let one = ap one_if e in omega (arith, is, some, one)
          by_completed false e is = let none = ap one_if e in omega (arith, is, none)

      accepted_now : (if m.accepts then set_size (suc c) else 0) ≡ (if m.accepts then size c else 0)
      accepted_now = accepted_size m.accepts refl

      owes_on : state.set (suc c) ≡ state.set c → words_owed down (suc c) + state.come (suc c) ≡ length (words_at down (suc c)) + (state.reads (suc c) * set_size (suc c) + gone (suc c))
      owes_on same =
          let sizes = ap length same in
          let times = times_moved (set_size c) (state.reads c) (state.reads (suc c)) w.completed m.accepts moved in
          let product = ap (λ l. state.reads (suc c) * l) sizes in
          let accepted_same = ap (λ l. if m.accepts then l else 0) sizes in
          let accepted = accepted_now in
          let gone_sum = m.sum in
          let come_sum = w.sum in
          let asked = owed_next c in
          let asks = ap one_if m.asks_is in
          let came = came_next c in
          let owes = now.owes in
          omega (arith, times, product, accepted_same, accepted, gone_sum, come_sum, asked, asks, came, owes)

      owes_first : IsFresh c → words_owed down (suc c) + state.come (suc c) ≡ length (words_at down (suc c)) + (state.reads (suc c) * set_size (suc c) + gone (suc c))
      owes_first fresh = by_completed w.completed refl
        where
          by_completed : (b : Bool) → w.completed ≡ b → words_owed down (suc c) + state.come (suc c) ≡ length (words_at down (suc c)) + (state.reads (suc c) * set_size (suc c) + gone (suc c))
          by_completed true e = let some = w.some e in let none = fresh.reads in absurd (omega (arith, some, none))
          by_completed false e =
              let b = bare c (omega (arith, h)) now fresh in
              let come = b.come in
              let none = b.none in
              let all = b.all in
              let times = times_moved (set_size (suc c)) (state.reads c) (state.reads (suc c)) w.completed m.accepts moved in
              let no_reads = no_times (state.reads c) (set_size (suc c)) fresh.reads in
              let not_completed = ap (λ b. if b then set_size (suc c) else 0) e in
              let not_given = ap (λ b. if b then set_size c else 0) e in
              let none_gone = nothing_gone c (state.place c) fresh.place in
              let accepted = accepted_now in
              let gone_sum = m.sum in
              let come_sum = w.sum in
              let asked = owed_next c in
              let asks = ap one_if fresh.read in
              let asks_so = ap one_if m.asks_is in
              let came = came_next c in
              omega (arith, come, none, all, times, no_reads, not_completed, not_given, none_gone, accepted, gone_sum, come_sum, asked, asks, asks_so, came)

  pub now_at : (c : ℕ) → c < end → Now c
  now_at zero h = record {
    owes = (let begins = run.come_begins in let reads = no_times (state.reads 0) (set_size 0) run.reads_begin in let none = nothing_gone 0 (state.place 0) run.place_begins in omega (arith, begins, reads, none));
    few = (let begins = run.come_begins in omega (arith, begins));
    left = (let none = nothing_gone 0 (state.place 0) run.place_begins in omega (arith, none));
    stands = none_above (state.place 0) run.place_begins;
    same = none_above (gone 0) (nothing_gone 0 (state.place 0) run.place_begins);
  }
  now_at (suc c) h = next_now c h (now_at c (omega (arith, h)))

  -- of the next word above not all have come
  pub few_come : (c : ℕ) → c < end → state.come (suc c) ≤ set_size (suc c) - 1
  few_come c h = few_next c h (now_at c h)
