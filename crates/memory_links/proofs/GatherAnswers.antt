-- The answers that a gatherer gives above are a front of those that have come below.
use Rattle.std.proofs.Common.{ℕ, zero, suc, ◌<◌, ◌≤◌, ◌≡◌, ◌+◌, ◌*◌, ◌^◌, Bool, true, false, not, ◌&&◌, List, [], ◌∷◌, ◌++◌, arith, refl, sym, ap, ap₂, subst, ◌∙◌, length, map, flat_map, zip, append-nil, length-append}
use Rattle.std.proofs.lemmas.Bool.{and_parts}
use Rattle.std.proofs.lemmas.List.{map-append, length-map}
use Rattle.std.proofs.lemmas.Grind.{flat_map-append}
use Rattle.histories.specs.History.{is_raised, only_if, all_accepted, IsPrefix, total, numbers}
use Rattle.histories.specs.Laws.{prefix_flat_map, prefix_length}
use Rattle.memory_runs.specs.Views.{Shape, levels_at}
use Rattle.memory_runs.specs.Views.Kind.{Reads}
use Rattle.memory_runs.specs.Legal.{Word}
use Rattle.memory_runs.specs.Order.{Answer}
use Rattle.memory_runs.specs.Operations.{Beat, filled_lanes}
use Rattle.memory_runs.specs.Commands.{shows, byte_address, read_beat, words_before}
use Rattle.memory_machines.specs.Link.{Target, Port, AreLegalAt, AnswersAreOwed, takes, marked_at, taken_at, read_beats, words_at, words_owed, answers_at, bytes_in}
use Rattle.memory_machines.specs.SideLaws.{same_counts}
use Rattle.memory_links.specs.Selects.{takes_read}
use Rattle.memory_links.proofs.OneBeat.{beat_by, reads_in, reads_append, reads_of_one}
use Rattle.memory_links.proofs.Lanes.{SelectsBeats}
use Rattle.memory_links.specs.Gathers.{RunsAsGather, IsGatherPlan, GatherState, LieInWords, Entry, entry_at, spread}
use Rattle.memory_links.proofs.Gathered.{AllHave, gathered_bytes, answer_in}
use Rattle.memory_links.proofs.Gathering.{gather_gate, may, smaller, above_is, enables_below}
use Rattle.memory_links.proofs.Shutting.{takes_same, below_is}
use Rattle.memory_links.proofs.Expand.{AllSome, AllLie, count_of, cut_entry, expand, pieces_length, expand_length}
use Rattle.memory_links.proofs.GatherWords.{Stands, stands, words_there, words_front}

-- a read that is taken: its narrow beats, the wide one, and what is kept of it
pub record Part : Type 0 where
  pub uppers : List Beat
  pub lower : Beat
  pub entry : Entry
  pub enables : ℕ

abbrev pub uppers_of : Part → List Beat
uppers_of p = p.uppers

abbrev pub lower_of : Part → Beat
lower_of p = p.lower

abbrev pub entry_of : Part → Entry
entry_of p = p.entry

pub record IsGathered (b W : ℕ) (p : Part) : Type 0 where
  pub size : length p.uppers ≡ p.entry.count
  pub have : AllHave p.enables p.uppers
  pub lower : p.lower.enables ≡ spread b p.entry.count p.enables * 2 ^ p.entry.offset
  pub few : p.enables < 2 ^ b
  pub within : p.entry.offset + p.entry.count * b ≤ W
  pub some : 0 < p.entry.count

abbrev pub AllGathered : ℕ → ℕ → List Part → Type 0
AllGathered b W [] = Unit {0}
AllGathered b W (p ∷ ps) = IsGathered b W p × AllGathered b W ps

gathered_push : (b W : ℕ) (ps : List Part) (p : Part) → AllGathered b W ps → IsGathered b W p → AllGathered b W (ps ++ p ∷ [])
gathered_push b W [] p all one = (one, tt)
gathered_push b W (q ∷ ps) p all one = (all.0, gathered_push b W ps p all.1 one)

all_some : (b W : ℕ) (ps : List Part) → AllGathered b W ps → AllSome (map entry_of ps)
all_some b W [] all = tt
all_some b W (p ∷ ps) all = (all.0.some, all_some b W ps all.1)

all_lie : (b W : ℕ) (ps : List Part) → AllGathered b W ps → AllLie b W (map entry_of ps)
all_lie b W [] all = tt
all_lie b W (p ∷ ps) all = (all.0.within, all_lie b W ps all.1)

pub all_sizes : (b W : ℕ) (ps : List Part) → AllGathered b W ps → length (flat_map uppers_of ps) ≡ total (map count_of (map entry_of ps))
all_sizes b W [] all = refl
all_sizes b W (p ∷ ps) all = length-append p.uppers (flat_map uppers_of ps) ∙ ap₂ (λ x y. x + y) all.0.size (all_sizes b W ps all.1)

abbrev nil : (B : Type 0) → List B
nil B = []

zip_none : {A B : Type 0} (xs : List A) → zip xs (nil B) ≡ []
zip_none [] = refl
zip_none (x ∷ xs) = refl

zip_append : {A B : Type 0} (xs : List A) (ys : List B) (more : List A) (rest : List B) → length xs ≡ length ys → zip (xs ++ more) (ys ++ rest) ≡ zip xs ys ++ zip more rest
zip_append [] [] more rest e = refl
zip_append [] (y ∷ ys) more rest e = cc
zip_append (x ∷ xs) [] more rest e = cc
zip_append (x ∷ xs) (y ∷ ys) more rest e = ap (λ l. (x, y) ∷ l) (zip_append xs ys more rest (omega (arith, e)))

pub zip_prefix : {A B : Type 0} (xs : List A) (ys rest : List B) → IsPrefix (zip xs ys) (zip xs (ys ++ rest))
zip_prefix [] ys rest = record { rest = []; joins = refl }
zip_prefix (x ∷ xs) [] rest = record { rest = zip (x ∷ xs) rest; joins = refl }
zip_prefix (x ∷ xs) (y ∷ ys) rest = let later = zip_prefix xs ys rest in record { rest = later.rest; joins = ap (λ l. (x, y) ∷ l) later.joins }

module _ (law : SelectsBeats) (target : Target) (up down : Port) (many room : ℕ) (state : GatherState)
    (plan : IsGatherPlan target up.shape down.shape many) (run : RunsAsGather room up down state) (end : ℕ) (lie : LieInWords up down.shape end) (legal : AreLegalAt up end) where
  abbrev width : ℕ
  width = up.shape.word_bytes

  abbrev part_at : ℕ → Part
  part_at c = record {
    uppers = map (read_beat up.shape (levels_at up.commands.signals c)) (numbers 0 (up.commands.count c));
    lower = beat_by Reads (byte_address down.shape (down.commands.address c) + 0 * down.shape.word_bytes) 0 (down.commands.enables c);
    entry = entry_at up down c;
    enables = up.commands.enables c;
  }

  abbrev pub parts : ℕ → List Part
  parts c = all_accepted (takes_read up) part_at c

  abbrev pub asked : ℕ → List Entry
  asked c = all_accepted (takes_read up) (entry_at up down) c

  pub asked_are : (c : ℕ) → asked c ≡ map entry_of (parts c)
  asked_are zero = refl
  asked_are (suc c) = ap₂ (λ x y. x ++ y) (asked_are c) (by_take (takes_read up c)) ∙ sym (map-append entry_of (parts c) (only_if (takes_read up c) (part_at c)))
    where
      by_take : (t : Bool) → only_if t (entry_at up down c) ≡ map entry_of (only_if t (part_at c))
      by_take true = refl
      by_take false = refl

  shown_taken : (c : ℕ) → takes up c ≡ true → shows up.commands.signals c ≡ true
  shown_taken c t = (and_parts (shows up.commands.signals c) (not (is_raised (up.commands.waitrequest c))) t).0

  -- what a cycle adds
  up_more : (c : ℕ) → c < end → (t w : Bool) → takes up c ≡ t → is_raised (up.commands.write c) ≡ w → read_beats (only_if t (marked_at up c)) ≡ flat_map uppers_of (only_if (t && not w) (part_at c))
  up_more c h false w e f = refl
  up_more c h true true e f =
      reads_of_one (marked_at up c) ∙ ap reads_in (above_is law target up down many room state plan run end lie legal c h (shown_taken c e) true f)
  up_more c h true false e f =
      reads_of_one (marked_at up c) ∙ ap reads_in (above_is law target up down many room state plan run end lie legal c h (shown_taken c e) false f)

  down_more : (c : ℕ) → c < end → (t w : Bool) → takes down c ≡ t → is_raised (up.commands.write c) ≡ w → read_beats (only_if t (marked_at down c)) ≡ map lower_of (only_if (t && not w) (part_at c))
  down_more c h false w e f = refl
  down_more c h true true e f = reads_of_one (marked_at down c) ∙ ap reads_in (below_is (gather_gate room up down state run) c true f)
  down_more c h true false e f = reads_of_one (marked_at down c) ∙ ap reads_in (below_is (gather_gate room up down state run) c false f)

  pub up_reads : (c : ℕ) → c ≤ end → read_beats (taken_at up c) ≡ flat_map uppers_of (parts c)
  up_reads zero h = refl
  up_reads (suc c) h =
      reads_append (taken_at up c) (only_if (takes up c) (marked_at up c))
      ∙ ap₂ (λ x y. x ++ y) (up_reads c (omega (arith, h))) (up_more c h (takes up c) (is_raised (up.commands.write c)) refl refl)
      ∙ sym (flat_map-append uppers_of (parts c) (only_if (takes_read up c) (part_at c)))

  pub down_reads : (c : ℕ) → c ≤ end → read_beats (taken_at down c) ≡ map lower_of (parts c)
  down_reads zero h = refl
  down_reads (suc c) h =
      reads_append (taken_at down c) (only_if (takes down c) (marked_at down c))
      ∙ ap₂ (λ x y. x ++ y) (down_reads c (omega (arith, h))) (down_more c h (takes down c) (is_raised (up.commands.write c)) refl refl ∙ ap (λ t. map lower_of (only_if (t && not (is_raised (up.commands.write c))) (part_at c))) (takes_same (gather_gate room up down state run) c))
      ∙ sym (map-append lower_of (parts c) (only_if (takes_read up c) (part_at c)))

  all_have : (c j n : ℕ) → AllHave (up.commands.enables c) (map (read_beat up.shape (levels_at up.commands.signals c)) (numbers j n))
  all_have c j zero = tt
  all_have c j (suc n) = (refl, all_have c (suc j) n)

  length_numbers : (j n : ℕ) → length (numbers j n) ≡ n
  length_numbers j zero = refl
  length_numbers j (suc n) = ap suc (length_numbers (suc j) n)

  pub are_gathered : (c : ℕ) → c ≤ end → AllGathered width target.shape.word_bytes (parts c)
  are_gathered zero h = tt
  are_gathered (suc c) h = by_take (takes_read up c) refl (are_gathered c (omega (arith, h)))
    where
      by_take : (t : Bool) → takes_read up c ≡ t → AllGathered width target.shape.word_bytes (parts c) → AllGathered width target.shape.word_bytes (parts c ++ only_if (takes_read up c) (part_at c))
      by_take false e all = subst (λ t. AllGathered width target.shape.word_bytes (parts c ++ only_if t (part_at c))) (sym e) (subst (AllGathered width target.shape.word_bytes) (sym (append-nil (parts c))) all)
      by_take true e all =
          let shown = shown_taken c (and_parts (takes up c) (not (is_raised (up.commands.write c))) e).0 in
          let lies = lie c h shown in
          let within = lies.within in
          let same = plan.same in
          subst (λ t. AllGathered width target.shape.word_bytes (parts c ++ only_if t (part_at c))) (sym e) (gathered_push width target.shape.word_bytes (parts c) (part_at c) all (record {
            size = length-map (numbers 0 (up.commands.count c)) (read_beat up.shape (levels_at up.commands.signals c)) ∙ length_numbers 0 (up.commands.count c);
            have = all_have c 0 (up.commands.count c);
            lower = enables_below law target up down many room state plan run end lie legal c h shown;
            few = lies.few;
            within = omega (arith, within, same);
            some = lies.some;
          }))

  pub asked_some : (c : ℕ) → c ≤ end → AllSome (asked c)
  asked_some c h = subst AllSome (sym (asked_are c)) (all_some width target.shape.word_bytes (parts c) (are_gathered c h))

  pub asked_lie : (c : ℕ) → c ≤ end → AllLie width down.shape.word_bytes (asked c)
  asked_lie c h = subst (AllLie width down.shape.word_bytes) (sym (asked_are c)) (subst (λ W. AllLie width W (map entry_of (parts c))) (sym plan.same) (all_lie width target.shape.word_bytes (parts c) (are_gathered c h)))

  pub owed_below : (c : ℕ) → c ≤ end → words_owed down c ≡ length (asked c)
  owed_below c h = ap length (down_reads c h) ∙ length-map (parts c) lower_of ∙ sym (ap length (asked_are c) ∙ length-map (parts c) entry_of)

  pub owed_above : (c : ℕ) → c ≤ end → words_owed up c ≡ total (map count_of (asked c))
  owed_above c h = ap length (up_reads c h) ∙ all_sizes width target.shape.word_bytes (parts c) (are_gathered c h) ∙ ap (λ l. total (map count_of l)) (sym (asked_are c))

  -- ---- answers

  abbrev bytes_at : Shape → Beat × Word → List Answer
  bytes_at shape p = bytes_in target shape p.0 p.1

  all_answers : (ps : List Part) (ws : List Word) → AllGathered width target.shape.word_bytes ps →
      flat_map (bytes_at up.shape) (zip (flat_map uppers_of ps) (expand width (map entry_of ps) ws)) ≡ flat_map (bytes_at down.shape) (zip (map lower_of ps) ws)
  all_answers [] ws all = refl
  all_answers (p ∷ ps) [] all = ap (flat_map (bytes_at up.shape)) (zip_none (p.uppers ++ flat_map uppers_of ps))
  all_answers (p ∷ ps) (w ∷ ws) all =
      let is = all.0 in
      ap (flat_map (bytes_at up.shape)) (zip_append p.uppers (cut_entry width p.entry w) (flat_map uppers_of ps) (expand width (map entry_of ps) ws) (is.size ∙ sym (pieces_length width p.entry.offset p.entry.count w)))
      ∙ flat_map-append (bytes_at up.shape) (zip p.uppers (cut_entry width p.entry w)) (zip (flat_map uppers_of ps) (expand width (map entry_of ps) ws))
      ∙ ap₂ (λ x y. x ++ y)
      (gathered_bytes law target up.shape down.shape (may law target up down many room state plan run) (smaller law target up down many room state plan run) p.enables p.entry.count p.entry.offset w p.uppers is.few is.within is.size is.have
      ∙ ap (λ e. map (λ lane. answer_in law target up.shape down.shape (may law target up down many room state plan run) (smaller law target up down many room state plan run) w lane) (filled_lanes down.shape target.shape e)) (sym is.lower))
      (all_answers ps ws all.1)

  module _ (owed : AnswersAreOwed down end) where
    pub few_come : (c : ℕ) → c < end → is_raised (down.answers.valid c) ≡ true → length (words_at down c) < length (asked c)
    few_come c h e =
        let counts : words_before down.answers.valid (suc c) ≡ length (words_at down (suc c)) = same_counts (λ c. is_raised (down.answers.valid c)) (λ c. c) (λ c. record { word = down.answers.word c; code = down.answers.code c }) (suc c) in
        let there = owed c h in
        let same = owed_below c (omega (arith, h)) in
        let more : length (words_at down (suc c)) ≡ length (words_at down c) + 1 =
        ap (λ v. length (words_at down c ++ only_if v (record { word = down.answers.word c; code = down.answers.code c }))) e ∙ length-append (words_at down c) _ in
        omega (arith, counts, there, same, more)

    pub standing_now : (c : ℕ) → c ≤ end → Stands room up down state run end few_come asked_some asked_lie plan.some c
    standing_now = stands room up down state run end few_come asked_some asked_lie plan.some

    pub answers_front : (c : ℕ) → c ≤ end → IsPrefix (answers_at target up c) (answers_at target down c)
    answers_front c h =
        let front = words_there room up down state run end few_come asked_some asked_lie plan.some c h in
        let reads = up_reads c h in
        let low = down_reads c h in
        let whole : flat_map (bytes_at up.shape) (zip (read_beats (taken_at up c)) (expand width (asked c) (words_at down c))) ≡ answers_at target down c =
        ap₂ (λ l es. flat_map (bytes_at up.shape) (zip l (expand width es (words_at down c)))) reads (asked_are c) ∙ all_answers (parts c) (words_at down c) (are_gathered c h)
        ∙ ap (λ l. flat_map (bytes_at down.shape) (zip l (words_at down c))) (sym low) in
        subst (IsPrefix (answers_at target up c)) whole
        (subst (λ l. IsPrefix (answers_at target up c) (flat_map (bytes_at up.shape) (zip (read_beats (taken_at up c)) l))) front.joins
        (prefix_flat_map (bytes_at up.shape) (zip_prefix (read_beats (taken_at up c)) (words_at up c) front.rest)))

    -- no more words are given than are owed
    pub owed_up : AnswersAreOwed up end
    owed_up c h =
        let counts : words_before up.answers.valid (suc c) ≡ length (words_at up (suc c)) = same_counts (λ c. is_raised (up.answers.valid c)) (λ c. c) (λ c. record { word = up.answers.word c; code = up.answers.code c }) (suc c) in
        let front = prefix_length (words_front room up down state run end few_come asked_some asked_lie plan.some c h) in
        let most = expand_length width (asked c) (words_at down (suc c)) in
        let all = owed_above c (omega (arith, h)) in
        omega (arith, counts, front, most, all)
