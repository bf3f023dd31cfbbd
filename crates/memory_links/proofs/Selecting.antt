-- A lane selector keeps all that a link promises.
use Rattle.std.proofs.Common.{ℕ, zero, suc, ◌<◌, ◌≤◌, ◌≡◌, ◌+◌, ◌-◌, ◌*◌, ◌/◌, ◌%◌, ◌^◌, Bool, true, false, not, ◌&&◌, List, [], ◌∷◌, ◌++◌, if◌then◌else◌, arith, refl, sym, ap, ap₂, subst, ◌∙◌, length, flat_map, zip, drop, take, min, IsTrue, append-nil, length-append, le_refl, zero-mul, lt-ltb, MatchOption, slice_get, length-drop, mul-le-mul_right, one-mul, le_of_lt}
use Rattle.std.specs.List.{list_all}
use Rattle.std.proofs.lemmas.Bool.{and_parts}
use Rattle.std.proofs.lemmas.List.{drop-append-le, drop-drop}
use Rattle.histories.specs.History.{is_raised, only_if, all_accepted, IsPrefix}
use Rattle.histories.specs.Laws.{prefix_refl, prefix_length, prefix_flat_map, prefix_filter, before_extends}
use Rattle.memory_runs.specs.Views.{Shape, Levels, levels_at}
use Rattle.memory_runs.specs.Views.Kind.{Reads, Writes}
use Rattle.memory_runs.specs.Laws.{same_pieces}
use Rattle.memory_runs.specs.Legal.{Word}
use Rattle.memory_runs.specs.Order.{HoldsAnswers}
use Rattle.memory_runs.specs.Operations.{Beat, byte_at, operations_of, filled_lanes, pieces}
use Rattle.memory_runs.specs.Commands.{Transfer, shows, is_of_reads, burst_before, byte_address, words_before}
use Rattle.memory_machines.specs.Link.{Target, Port, Marked, KeepsLinkLaw, AreLegalAt, AnswersAreOwed, takes, marked_at, taken_at, shown_at, read_beats, words_at, words_owed, answers_at, bytes_in, beat_operations, is_nonempty, reads_of, HasGreatestCode, IsAnswered}
use Rattle.memory_machines.specs.Blocks.{block, blocks_at, worded}
use Rattle.memory_machines.specs.Lines.{KeepsRow, IsWordForWord, HandsOn}
use Rattle.memory_machines.specs.Machines.{MaySelect, LiesInOneWord, select_of}
use Rattle.memory_machines.specs.Rank.{is_owed}
use Rattle.memory_machines.specs.SideLaws.{same_counts}
use Rattle.memory_links.specs.Begins.{BeginsBelow}
use Rattle.memory_links.specs.Going.RowGoesOn.{at_end, further}
use Rattle.memory_links.specs.Links.{IsLink}
use Rattle.memory_links.proofs.Beginning.{gate_begins}
use Rattle.memory_links.specs.Selects.{RunsAsSelect, IsSelectPlan, EnablesFit, select_form, selected, offset_in, takes_read, is_shut, first_of}
use Rattle.memory_links.proofs.Alike.{IsAlike}
use Rattle.memory_links.proofs.Shutting.{ShutsReads, no_longer, shut_reads, shut_full, shows_same, takes_same, below_is, shut_hands_on, legal_below}
use Rattle.memory_links.proofs.Gated.{gate_carries, gate_joins, gate_lanes, gate_quiet, gate_goes_on, owed_counts, word_counts}
use Rattle.memory_links.proofs.OneBeat.{aligned, whole_address, beat_by, beat_is, transfer_by, one_transfer, reads_in, reads_of_one, reads_append, free_before, count_is_one}
use Rattle.memory_links.proofs.Repeating.{byte_of_moved, byte_of_repeated, same_operations_there}
use Rattle.memory_links.proofs.Lanes.{SelectsBeats, cut, bytes_moved, lanes_count, lies_within}

abbrev word_by : ℕ → ℕ → Word
word_by word code = record { word = word; code = code }

-- ---- words that are cut out of others

cuts : ℕ → List ℕ → List Word → List Word
cuts bytes [] ws = []
cuts bytes (o ∷ os) [] = []
cuts bytes (o ∷ os) (w ∷ ws) = cut bytes o w ∷ cuts bytes os ws

cuts_front : (bytes : ℕ) (os more : List ℕ) (ws : List Word) → length ws ≤ length os → cuts bytes (os ++ more) ws ≡ cuts bytes os ws
unfolding cuts
cuts_front bytes [] [] [] h = refl
cuts_front bytes [] (o ∷ more) [] h = refl
cuts_front bytes [] more (w ∷ ws) h = absurd (omega arith)
cuts_front bytes (o ∷ os) more [] h = refl
cuts_front bytes (o ∷ os) more (w ∷ ws) h = ap (λ l. cut bytes o w ∷ l) (cuts_front bytes os more ws (omega arith))

cuts_push : (bytes : ℕ) (os : List ℕ) (ws : List Word) (w : Word) → length ws < length os → cuts bytes os (ws ++ w ∷ []) ≡ cuts bytes os ws ++ cut bytes (first_of (drop (length ws) os)) w ∷ []
unfolding cuts
cuts_push bytes [] ws w h = absurd (omega arith)
cuts_push bytes (o ∷ []) [] w h = refl
cuts_push bytes (o ∷ p ∷ os) [] w h = refl
cuts_push bytes (o ∷ os) (v ∷ ws) w h = ap (λ l. cut bytes o v ∷ l) (cuts_push bytes os ws w (omega arith))

cuts_none : (bytes : ℕ) (os : List ℕ) → cuts bytes os [] ≡ []
unfolding cuts
cuts_none bytes [] = refl
cuts_none bytes (o ∷ os) = refl

-- ---- beats and the offsets at which they stand

record IsMoved (narrow target : Shape) (upper lower : Beat) (offset : ℕ) : Type 0 where
  pub enables : lower.enables ≡ upper.enables * 2 ^ offset
  pub few : upper.enables < 2 ^ narrow.word_bytes
  pub fits : offset + narrow.word_bytes ≤ target.word_bytes

abbrev AllMoved : Shape → Shape → List Beat → List Beat → List ℕ → Type 0
AllMoved narrow target [] [] [] = Unit {0}
AllMoved narrow target (b ∷ bs) (d ∷ ds) (o ∷ os) = IsMoved narrow target b d o × AllMoved narrow target bs ds os
AllMoved narrow target [] [] (o ∷ os) = ⊥
AllMoved narrow target [] (d ∷ ds) os = ⊥
AllMoved narrow target (b ∷ bs) [] os = ⊥
AllMoved narrow target (b ∷ bs) (d ∷ ds) [] = ⊥

moved_push : (narrow target : Shape) (bs ds : List Beat) (os : List ℕ) (b d : Beat) (o : ℕ) → AllMoved narrow target bs ds os → IsMoved narrow target b d o → AllMoved narrow target (bs ++ b ∷ []) (ds ++ d ∷ []) (os ++ o ∷ [])
moved_push narrow target [] [] [] b d o all one = (one, tt)
moved_push narrow target [] [] (p ∷ os) b d o all one = absurd all
moved_push narrow target [] (e ∷ ds) os b d o all one = absurd all
moved_push narrow target (c ∷ bs) [] os b d o all one = absurd all
moved_push narrow target (c ∷ bs) (e ∷ ds) [] b d o all one = absurd all
moved_push narrow target (c ∷ bs) (e ∷ ds) (p ∷ os) b d o all one = (all.0, moved_push narrow target bs ds os b d o all.1 one)

moved_length : (narrow target : Shape) (bs ds : List Beat) (os : List ℕ) → AllMoved narrow target bs ds os → length os ≡ length bs
moved_length narrow target [] [] [] all = refl
moved_length narrow target [] [] (p ∷ os) all = absurd all
moved_length narrow target [] (e ∷ ds) os all = absurd all
moved_length narrow target (c ∷ bs) [] os all = absurd all
moved_length narrow target (c ∷ bs) (e ∷ ds) [] all = absurd all
moved_length narrow target (c ∷ bs) (e ∷ ds) (p ∷ os) all = ap (λ n. suc n) (moved_length narrow target bs ds os all.1)

module _ (law : SelectsBeats) (target : Target) (up down : Port) (may : MaySelect up.shape down.shape target.shape) where
  moved_answers : (bs ds : List Beat) (os : List ℕ) (ws : List Word) → AllMoved up.shape target.shape bs ds os →
      flat_map (λ (p : Beat × Word). bytes_in target up.shape p.0 p.1) (zip bs (cuts up.shape.word_bytes os ws)) ≡ flat_map (λ (p : Beat × Word). bytes_in target down.shape p.0 p.1) (zip ds ws)
  unfolding cuts
  moved_answers [] [] [] [] all = refl
  moved_answers [] [] [] (w ∷ ws) all = refl
  moved_answers [] [] (p ∷ os) ws all = absurd all
  moved_answers [] (e ∷ ds) os ws all = absurd all
  moved_answers (c ∷ bs) [] os ws all = absurd all
  moved_answers (c ∷ bs) (e ∷ ds) [] ws all = absurd all
  moved_answers (c ∷ bs) (e ∷ ds) (p ∷ os) [] all = refl
  moved_answers (c ∷ bs) (e ∷ ds) (p ∷ os) (w ∷ ws) all =
      ap₂ (λ x y. x ++ y) (bytes_moved law target up.shape down.shape may c e p w all.0.fits all.0.few all.0.enables) (moved_answers bs ds os ws all.1)

  moved_blocks : (bs ds : List Beat) (os : List ℕ) (ws : List Word) → AllMoved up.shape target.shape bs ds os →
      flat_map (block target up) (zip bs (cuts up.shape.word_bytes os ws)) ≡ flat_map (block target down) (zip ds ws)
  unfolding cuts
  moved_blocks [] [] [] [] all = refl
  moved_blocks [] [] [] (w ∷ ws) all = refl
  moved_blocks [] [] (p ∷ os) ws all = absurd all
  moved_blocks [] (e ∷ ds) os ws all = absurd all
  moved_blocks (c ∷ bs) [] os ws all = absurd all
  moved_blocks (c ∷ bs) (e ∷ ds) [] ws all = absurd all
  moved_blocks (c ∷ bs) (e ∷ ds) (p ∷ os) [] all = refl
  moved_blocks (c ∷ bs) (e ∷ ds) (p ∷ os) (w ∷ ws) all =
      ap₂ (λ n l. record { size = n; code = w.code } ∷ l) (lanes_count law up.shape down.shape target.shape may c e p all.0.fits all.0.few all.0.enables) (moved_blocks bs ds os ws all.1)

-- ---- the machine

pub select_gate : (room : ℕ) (up down : Port) (offsets : ℕ → List ℕ) → RunsAsSelect room up down offsets → ShutsReads room up down (selected up.shape down.shape) (λ c. length (offsets c))
select_gate room up down offsets run = record {
  levels = run.levels;
  reads = λ l. refl;
  writes = λ l. refl;
  single = λ l. refl;
  more = run.more;
  tag = run.tag;
  waitrequest = run.waitrequest;
  fewer = λ c none. subst (λ l. length l ≤ length (offsets c)) (sym (run.next c)) (no_longer (if is_raised (down.answers.valid c) then 1 else 0) (offsets c) (takes_read up c) (offset_in up.shape down.shape (up.commands.address c)) none);
}

module _ (law : SelectsBeats) (target : Target) (up down : Port) (many room : ℕ) (offsets : ℕ → List ℕ)
    (plan : IsSelectPlan target up.shape down.shape many) (deep : 1 < room) (run : RunsAsSelect room up down offsets) where
  abbrev gate : ShutsReads room up down (selected up.shape down.shape) (λ c. length (offsets c))
  gate = select_gate room up down offsets run

  may : MaySelect up.shape down.shape target.shape
  may = record { some = plan.some; same = plan.same; enables = plan.enables }

  module _ (end : ℕ) (fit : EnablesFit up end) (legal : AreLegalAt up end) where
    above_is : (c : ℕ) → c < end → shows up.commands.signals c ≡ true → (marked_at up c).transfer ≡ transfer_by up.shape (levels_at up.commands.signals c) (is_raised (up.commands.write c))
    above_is c h shown = one_transfer up.shape (levels_at up.commands.signals c) (burst_before up.shape up.commands.signals (takes up) c) (free_before up end plan.one_beat legal c (omega (arith, h))) (count_is_one up end plan.one_beat legal c h shown) (is_raised (up.commands.write c))

    abbrev offset : ℕ → ℕ
    offset c = offset_in up.shape down.shape (up.commands.address c)

    fits_there : (c : ℕ) → offset c + up.shape.word_bytes ≤ down.shape.word_bytes
    fits_there c = lies_within (up.commands.address c * up.shape.unit_bytes) up.shape.word_bytes many down.shape.word_bytes plan.some (let more = plan.more in omega (arith, more)) plan.whole

    -- the beat below is the selected one
    below_beat : (c : ℕ) → select_of target.shape.word_bytes (beat_by (if is_raised (up.commands.write c) then Writes else Reads) (byte_address up.shape (up.commands.address c) + 0 * up.shape.word_bytes) (if is_raised (up.commands.write c) then up.commands.word c else 0) (up.commands.enables c))
        ≡ beat_by (if is_raised (up.commands.write c) then Writes else Reads) (byte_address down.shape (down.commands.address c) + 0 * down.shape.word_bytes) ((if is_raised (up.commands.write c) then up.commands.word c else 0) * 256 ^ offset c) (down.commands.enables c)
    below_beat c =
        let a = byte_address up.shape (up.commands.address c) in
        let none = zero-mul up.shape.word_bytes in
        let here : a + 0 * up.shape.word_bytes ≡ a = omega (arith, none) in
        let there : (a + 0 * up.shape.word_bytes) % target.shape.word_bytes ≡ offset c = ap₂ (λ x y. x % y) here (sym plan.same) in
        let address : down.commands.address c ≡ a - offset c = ap (λ (l : Levels). l.address) (run.levels c) in
        let enables : down.commands.enables c ≡ up.commands.enables c * 2 ^ offset c = ap (λ (l : Levels). l.enables) (run.levels c) in
        beat_is (if is_raised (up.commands.write c) then Writes else Reads) _ _ _ _ _ _
        (ap₂ (λ x y. x - y) here there ∙ sym (whole_address (a - offset c) down.shape.unit_bytes down.shape.word_bytes plan.bytes (aligned a down.shape.word_bytes))
        ∙ ap (λ x. byte_address down.shape x + 0 * down.shape.word_bytes) (sym address))
        (ap (λ s. (if is_raised (up.commands.write c) then up.commands.word c else 0) * 256 ^ s) there)
        (ap (λ s. up.commands.enables c * 2 ^ s) there ∙ sym enables)

    -- the word below has the same bytes there as one that is moved
    same_bytes : (c i : ℕ) → i < up.shape.word_bytes → byte_at ((if is_raised (up.commands.write c) then up.commands.word c else 0) * 256 ^ offset c) (offset c + i) ≡ byte_at (if is_raised (up.commands.write c) then down.commands.word c else 0) (offset c + i)
    same_bytes c i h = by_write (is_raised (up.commands.write c))
      where
        by_write : (b : Bool) → byte_at ((if b then up.commands.word c else 0) * 256 ^ offset c) (offset c + i) ≡ byte_at (if b then down.commands.word c else 0) (offset c + i)
        by_write false = ap (λ n. byte_at n (offset c + i)) (zero-mul (256 ^ offset c))
        by_write true =
            byte_of_moved (up.commands.word c) (offset c) i
            ∙ sym (byte_of_repeated (up.commands.address c * up.shape.unit_bytes) up.shape.word_bytes many down.shape.word_bytes (up.commands.word c) i plan.some (let more = plan.more in omega (arith, more)) plan.whole h)
            ∙ ap (λ n. byte_at n (offset c + i)) (sym (ap (λ (l : Levels). l.word) (run.levels c)))

    same_operations : (c : ℕ) → c < end → shows up.commands.signals c ≡ true → operations_of down.shape target.shape target.span (beat_by (if is_raised (up.commands.write c) then Writes else Reads) (byte_address down.shape (down.commands.address c) + 0 * down.shape.word_bytes) (if is_raised (up.commands.write c) then down.commands.word c else 0) (down.commands.enables c))
        ≡ operations_of up.shape target.shape target.span (beat_by (if is_raised (up.commands.write c) then Writes else Reads) (byte_address up.shape (up.commands.address c) + 0 * up.shape.word_bytes) (if is_raised (up.commands.write c) then up.commands.word c else 0) (up.commands.enables c))
    same_operations c h shown =
        let none = zero-mul up.shape.word_bytes in
        let here : byte_address up.shape (up.commands.address c) + 0 * up.shape.word_bytes ≡ byte_address up.shape (up.commands.address c) = omega (arith, none) in
        let there : (byte_address up.shape (up.commands.address c) + 0 * up.shape.word_bytes) % target.shape.word_bytes ≡ offset c = ap₂ (λ x y. x % y) here (sym plan.same) in
        let fits = fits_there c in
        let lies : LiesInOneWord up.shape target.shape (byte_address up.shape (up.commands.address c) + 0 * up.shape.word_bytes) (up.commands.enables c) =
        record { lanes = (let same = plan.same in omega (arith, there, fits, same)); few = fit c h shown } in
        sym (same_operations_there law up.shape down.shape target.shape may target.span (if is_raised (up.commands.write c) then Writes else Reads) (byte_address down.shape (down.commands.address c) + 0 * down.shape.word_bytes) _ _ (up.commands.enables c) (down.commands.enables c) (offset c)
        (let same = plan.same in omega (arith, fits, same)) (fit c h shown) (ap (λ (l : Levels). l.enables) (run.levels c)) (same_bytes c))
        ∙ ap (operations_of down.shape target.shape target.span) (sym (below_beat c)) ∙ sym (law up.shape down.shape target.shape target.span may _ lies)

    pub alike : (c : ℕ) → c < end → shows up.commands.signals c ≡ true → IsAlike target up.shape down.shape true (marked_at up c) (marked_at down c)
    alike c h shown =
        let above = above_is c h shown in
        let below = below_is gate c (is_raised (up.commands.write c)) refl in
        let ops = same_operations c h shown in
        record {
          tag = run.tag c;
          more = ap is_raised (run.more c);
          ends = ap (λ (t : Transfer). t.ends) below ∙ sym (ap (λ (t : Transfer). t.ends) above);
          kind = ap (λ (t : Transfer). t.kind) below ∙ sym (ap (λ (t : Transfer). t.kind) above);
          operations = ap (λ (t : Transfer). flat_map (beat_operations target down.shape) t.beats) below ∙ ap (λ l. l ++ []) ops ∙ sym (ap (λ (t : Transfer). flat_map (beat_operations target up.shape) t.beats) above);
          beats = (let u = ap (λ (t : Transfer). length t.beats) above in let d = ap (λ (t : Transfer). length t.beats) below in omega (arith, u, d));
          same = λ is. ap (λ (t : Transfer). length t.beats) below ∙ sym (ap (λ (t : Transfer). length t.beats) above);
          lanes = λ is. ap (λ (t : Transfer). list_all (λ (b : Beat). is_nonempty (beat_operations target down.shape b)) t.beats) below ∙ ap (λ l. is_nonempty l && true) ops
              ∙ sym (ap (λ (t : Transfer). list_all (λ (b : Beat). is_nonempty (beat_operations target up.shape b)) t.beats) above);
        }

    -- ---- the offsets of the reads

    abbrev asked : ℕ → List ℕ
    asked c = all_accepted (takes_read up) offset c

    abbrev Step : ℕ → Bool → Bool → Bool → Type 0
    Step c t d w = AllMoved up.shape target.shape (read_beats (taken_at up c ++ only_if t (marked_at up c))) (read_beats (taken_at down c ++ only_if d (marked_at down c))) (asked c ++ only_if (t && not w) (offset c))

    moved : (c : ℕ) → c ≤ end → AllMoved up.shape target.shape (read_beats (taken_at up c)) (read_beats (taken_at down c)) (asked c)
    moved zero h = tt
    moved (suc c) h = by_take (moved c (omega arith)) (takes up c) refl (is_raised (up.commands.write c)) refl
      where
        by_write : AllMoved up.shape target.shape (read_beats (taken_at up c)) (read_beats (taken_at down c)) (asked c) → takes up c ≡ true → (w : Bool) → is_raised (up.commands.write c) ≡ w → Step c true true w
        by_write so_far t w e =
            let shown = (and_parts (shows up.commands.signals c) (not (is_raised (up.commands.waitrequest c))) t).0 in
            let upper = reads_append (taken_at up c) (marked_at up c ∷ []) ∙ ap (λ l. read_beats (taken_at up c) ++ l) (reads_of_one (marked_at up c) ∙ ap reads_in (above_is c (omega arith) shown ∙ ap (transfer_by up.shape (levels_at up.commands.signals c)) e)) in
            let lower = reads_append (taken_at down c) (marked_at down c ∷ []) ∙ ap (λ l. read_beats (taken_at down c) ++ l) (reads_of_one (marked_at down c) ∙ ap reads_in (below_is gate c w e)) in
            subst (λ l. AllMoved up.shape target.shape l (read_beats (taken_at down c ++ marked_at down c ∷ [])) (asked c ++ only_if (not w) (offset c))) (sym upper)
            (subst (λ l. AllMoved up.shape target.shape (read_beats (taken_at up c) ++ reads_in (transfer_by up.shape (levels_at up.commands.signals c) w)) l (asked c ++ only_if (not w) (offset c))) (sym lower) (pushed w so_far))
          where
            pushed : (w : Bool) → AllMoved up.shape target.shape (read_beats (taken_at up c)) (read_beats (taken_at down c)) (asked c) →
                AllMoved up.shape target.shape (read_beats (taken_at up c) ++ reads_in (transfer_by up.shape (levels_at up.commands.signals c) w)) (read_beats (taken_at down c) ++ reads_in (transfer_by down.shape (levels_at down.commands.signals c) w)) (asked c ++ only_if (not w) (offset c))
            pushed true so_far = rw (append-nil (read_beats (taken_at up c)), append-nil (read_beats (taken_at down c)), append-nil (asked c)) so_far
            pushed false so_far = moved_push up.shape target.shape (read_beats (taken_at up c)) (read_beats (taken_at down c)) (asked c) _ _ (offset c) so_far (record {
              enables = ap (λ (l : Levels). l.enables) (run.levels c);
              few = fit c (omega arith) (and_parts (shows up.commands.signals c) (not (is_raised (up.commands.waitrequest c))) t).0;
              fits = (let there = fits_there c in let same = plan.same in omega (arith, there, same));
            })

        by_take : AllMoved up.shape target.shape (read_beats (taken_at up c)) (read_beats (taken_at down c)) (asked c) → (t : Bool) → takes up c ≡ t → (w : Bool) → is_raised (up.commands.write c) ≡ w →
            AllMoved up.shape target.shape (read_beats (taken_at up (suc c))) (read_beats (taken_at down (suc c))) (asked (suc c))
        by_take so_far true t w e = subst (λ d. Step c (takes up c) d (is_raised (up.commands.write c))) (sym (takes_same gate c)) (subst (λ t. Step c t t (is_raised (up.commands.write c))) (sym t) (subst (Step c true true) (sym e) (by_write so_far t w e)))
        by_take so_far false t w e =
            subst (λ d. Step c (takes up c) d (is_raised (up.commands.write c))) (sym (takes_same gate c)) (subst (λ t. Step c t t (is_raised (up.commands.write c))) (sym t)
            (subst (λ l. AllMoved up.shape target.shape (read_beats l) (read_beats (taken_at down c ++ [])) (asked c ++ [])) (sym (append-nil (taken_at up c)))
            (subst (λ l. AllMoved up.shape target.shape (read_beats (taken_at up c)) (read_beats l) (asked c ++ [])) (sym (append-nil (taken_at down c)))
            (subst (AllMoved up.shape target.shape (read_beats (taken_at up c)) (read_beats (taken_at down c))) (sym (append-nil (asked c))) so_far))))

    -- ---- the answers

    valid_same : (c : ℕ) → is_raised (up.answers.valid c) ≡ is_raised (down.answers.valid c)
    valid_same c = ap is_raised (run.valid c)

    counted : (c : ℕ) → c ≤ end → length (asked c) ≡ words_owed down c
    counted c h =
        moved_length up.shape target.shape (read_beats (taken_at up c)) (read_beats (taken_at down c)) (asked c) (moved c h)
        ∙ owed_counts target true up down (λ c. not (is_shut room up offsets c)) (shows_same gate) (takes_same gate) end alike legal (legal_below gate end legal) refl valid_same c h

    few_words : (c : ℕ) → suc c ≤ end → AnswersAreOwed down (suc c) → length (words_at down (suc c)) ≤ length (asked c)
    few_words c h owed =
        let counts : words_before down.answers.valid (suc c) ≡ length (words_at down (suc c)) = same_counts (λ c. is_raised (down.answers.valid c)) (λ c. c) (λ c. record { word = down.answers.word c; code = down.answers.code c }) (suc c) in
        let enough = owed c (omega arith) in
        let same = counted c (omega (arith, h)) in
        omega (arith, counts, enough, same)

    one_more : (c : ℕ) → length (words_at down (suc c)) ≡ length (words_at down c) + (if is_raised (down.answers.valid c) then 1 else 0)
    one_more c = by_valid (is_raised (down.answers.valid c))
      where
        by_valid : (b : Bool) → length (words_at down c ++ only_if b (record { word = down.answers.word c; code = down.answers.code c })) ≡ length (words_at down c) + (if b then 1 else 0)
        by_valid true = length-append (words_at down c) (record { word = down.answers.word c; code = down.answers.code c } ∷ [])
        by_valid false = let same = ap length (append-nil (words_at down c)) in omega (arith, same)

    -- the queue holds the offsets of the words that haven't come
    queue_is : (c : ℕ) → c ≤ end → AnswersAreOwed down c → offsets c ≡ drop (length (words_at down c)) (asked c)
    queue_is zero h owed = run.begins
    queue_is (suc c) h owed =
        let earlier = queue_is c (omega arith) (λ k less. owed k (omega arith)) in
        let few = few_words c h owed in
        let more = one_more c in
        run.next c
        ∙ ap (λ l. drop (if is_raised (down.answers.valid c) then 1 else 0) l ++ only_if (takes_read up c) (offset c)) earlier
        ∙ ap (λ l. l ++ only_if (takes_read up c) (offset c)) (drop-drop (if is_raised (down.answers.valid c) then 1 else 0) (length (words_at down c)) (asked c) ∙ ap (λ n. drop n (asked c)) (sym more))
        ∙ sym (drop-append-le (length (words_at down (suc c))) (asked c) (only_if (takes_read up c) (offset c)) few)

    words_are : (c : ℕ) → c ≤ end → AnswersAreOwed down c → words_at up c ≡ cuts up.shape.word_bytes (asked c) (words_at down c)
    words_are zero h owed = sym (cuts_none up.shape.word_bytes (asked 0))
    words_are (suc c) h owed = by_valid (words_are c (omega arith) (λ k less. owed k (omega arith))) (is_raised (down.answers.valid c)) refl
      where
        queued : offsets c ≡ drop (length (words_at down c)) (asked c)
        queued = queue_is c (omega arith) (λ k less. owed k (omega arith))

        by_valid : words_at up c ≡ cuts up.shape.word_bytes (asked c) (words_at down c) → (b : Bool) → is_raised (down.answers.valid c) ≡ b → words_at up (suc c) ≡ cuts up.shape.word_bytes (asked (suc c)) (words_at down (suc c))
        by_valid so_far false e =
            let few = few_words c h owed in
            let more = one_more c in
            ap (λ b. words_at up c ++ only_if b (record { word = up.answers.word c; code = up.answers.code c })) (valid_same c ∙ e) ∙ append-nil (words_at up c) ∙ so_far
            ∙ sym (cuts_front up.shape.word_bytes (asked c) (only_if (takes_read up c) (offset c)) (words_at down c) (omega (arith, few, more)))
            ∙ ap (cuts up.shape.word_bytes (asked (suc c))) (sym (append-nil (words_at down c)) ∙ ap (λ b. words_at down c ++ only_if b (record { word = down.answers.word c; code = down.answers.code c })) (sym e))
        by_valid so_far true e =
            let w : Word = record { word = down.answers.word c; code = down.answers.code c } in
            let few = few_words c h owed in
            let more = one_more c ∙ ap {B = ℕ} (λ b. length (words_at down c) + (if b then 1 else 0)) e in
            let held = ap length queued ∙ length-drop (length (words_at down c)) (asked c) in
            let pushed : length (words_at down c ++ w ∷ []) ≡ length (words_at down c) + 1 = length-append (words_at down c) (w ∷ []) in
            let mine : record { word = up.answers.word c; code = up.answers.code c } ≡ cut up.shape.word_bytes (first_of (drop (length (words_at down c)) (asked c))) w =
            ap₂ (λ x y. word_by x y) (run.word c (omega (arith, few, more, held)) ∙ ap (λ q. (down.answers.word c / 256 ^ first_of q) % 256 ^ up.shape.word_bytes) queued) (run.code c) in
            ap (λ b. words_at up c ++ only_if b (record { word = up.answers.word c; code = up.answers.code c })) (valid_same c ∙ e)
            ∙ ap₂ (λ l x. l ++ x ∷ []) so_far mine
            ∙ sym (cuts_push up.shape.word_bytes (asked c) (words_at down c) w (omega (arith, few, more)))
            ∙ sym (cuts_front up.shape.word_bytes (asked c) (only_if (takes_read up c) (offset c)) (words_at down c ++ w ∷ []) (omega (arith, few, more, pushed)))
            ∙ ap (cuts up.shape.word_bytes (asked (suc c))) (ap (λ b. words_at down c ++ only_if b w) (sym e))

    answers_same : (c : ℕ) → c ≤ end → AnswersAreOwed down c → answers_at target up c ≡ answers_at target down c
    answers_same c h owed =
        ap (λ l. flat_map (λ (p : Beat × Word). bytes_in target up.shape p.0 p.1) (zip (read_beats (taken_at up c)) l)) (words_are c h owed)
        ∙ moved_answers law target up down may (read_beats (taken_at up c)) (read_beats (taken_at down c)) (asked c) (words_at down c) (moved c h)

    pub select_words : IsWordForWord target up down end
    select_words c h legal_c owed =
        subst (λ l. IsPrefix (worded l) (worded (blocks_at target down c)))
        (sym (ap (λ l. flat_map (block target up) (zip (read_beats (taken_at up c)) l)) (words_are c h owed) ∙ moved_blocks law target up down may (read_beats (taken_at up c)) (read_beats (taken_at down c)) (asked c) (words_at down c) (moved c h)))
        (prefix_refl _)

    -- a read that is held back waits for a word
    pub shut_owes : AnswersAreOwed down end → (c : ℕ) → c < end → shows up.commands.signals c ≡ true → not (is_shut room up offsets c) ≡ false → (is_of_reads (marked_at up c).transfer.kind ≡ true) × IsTrue (is_owed down c)
    shut_owes owed c h shown e =
        let full = shut_full gate c e in
        let queued = ap length (queue_is c (omega (arith, h)) (λ k less. owed k (omega (arith, h, less)))) ∙ length-drop (length (words_at down c)) (asked c) in
        let asks = counted c (omega (arith, h)) in
        let grown : words_owed down c ≤ words_owed down (suc c) = prefix_length (prefix_flat_map (λ (m : Marked). m.transfer.beats) (prefix_filter (λ (m : Marked). is_of_reads m.transfer.kind) (before_extends _ c))) in
        let more = one_more c in
        let small = at_most_one (is_raised (down.answers.valid c)) in (
          ap (λ (t : Transfer). is_of_reads t.kind) (above_is c h shown) ∙ ap (λ w. is_of_reads (if w then Writes else Reads)) (shut_reads gate c e),
          lt-ltb (length (words_at down (suc c))) (words_owed down (suc c)) (omega (arith, full, queued, asks, grown, more, small, deep)),
        )
      where
        at_most_one : (b : Bool) → (if b then 1 else 0) ≤ 1
        at_most_one true = le_refl 1
        at_most_one false = omega arith

-- ---- the whole

module _ (law : SelectsBeats) (wire : (target : Target) (port : Port) (end : ℕ) → 0 < port.shape.word_bytes → KeepsLinkLaw target 0 port port end)
    (row : (target : Target) (hold : ℕ) (up down : Port) (end : ℕ) → KeepsLinkLaw target hold up down end → ((c : ℕ) → c ≤ end → AreLegalAt up c → AnswersAreOwed down (c - 1) → HandsOn up down c) → KeepsRow target hold up down end)
    (target : Target) (up down : Port) (many room : ℕ) (offsets : ℕ → List ℕ) (end : ℕ) (plan : IsSelectPlan target up.shape down.shape many) (deep : 1 < room) (run : RunsAsSelect room up down offsets) (fit : EnablesFit up end) where
  abbrev lets : ℕ → Bool
  lets c = not (is_shut room up offsets c)

  shown_alike : (c : ℕ) → shows down.commands.signals c ≡ shows up.commands.signals c && lets c
  shown_alike = shows_same (select_gate room up down offsets run)

  taken_at_once : (c : ℕ) → takes down c ≡ takes up c
  taken_at_once = takes_same (select_gate room up down offsets run)

  fit_before : (c : ℕ) → c ≤ end → EnablesFit up c
  fit_before c h k less = fit k (omega (arith, h, less))

  alike_before : (c : ℕ) → c ≤ end → AreLegalAt up c → (k : ℕ) → k < c → shows up.commands.signals k ≡ true → IsAlike target up.shape down.shape true (marked_at up k) (marked_at down k)
  alike_before c h legal = alike law target up down many room offsets plan deep run c (fit_before c h) legal

  legal_before : (c : ℕ) → c ≤ end → AreLegalAt up c → AreLegalAt down c
  legal_before c h legal = legal_below (select_gate room up down offsets run) c legal

  same_valid : (c : ℕ) → is_raised (up.answers.valid c) ≡ is_raised (down.answers.valid c)
  same_valid c = ap is_raised (run.valid c)

  one_piece : pieces up.shape down.shape ≡ 1
  one_piece =
      let smaller = mul-le-mul_right up.shape.word_bytes (le_of_lt plan.more) in
      let unit = one-mul up.shape.word_bytes in
      let whole = plan.whole in
      let least : min up.shape.word_bytes down.shape.word_bytes ≡ up.shape.word_bytes = omega (arith, smaller, unit, whole) in
      let self : min up.shape.word_bytes up.shape.word_bytes ≡ up.shape.word_bytes = omega arith in
      ap (λ n. up.shape.word_bytes / n) least ∙ ap (λ n. up.shape.word_bytes / n) (sym self) ∙ same_pieces up.shape plan.some

  every_valid : up.answers.valid ≡ down.answers.valid
  every_valid = λ i c. run.valid c i

  owed_above : (c : ℕ) → c ≤ end → AreLegalAt up c → AnswersAreOwed down c → AnswersAreOwed up c
  owed_above c h legal owed k less =
      let there = owed k less in
      let same = owed_counts target true up down lets shown_alike taken_at_once c (alike_before c h legal) legal (legal_before c h legal) refl same_valid k (omega (arith, less)) in
      subst (λ (v : ℕ → ℕ). words_before v (suc k) ≤ words_owed up k) (sym every_valid) (omega (arith, there, same))

  link_law : KeepsLinkLaw target 0 up down end
  link_law = record {
    commands = λ c h legal owed. gate_carries target true up down lets shown_alike taken_at_once c (alike_before c h legal) legal (legal_before c h legal) one_piece;
    answers = λ c h legal owed. record {
      answered = λ k less valid. answered c h legal owed k less valid;
      owed = owed_above c h legal owed;
    };
  }
    where
      answered : (c : ℕ) → c ≤ end → AreLegalAt up c → AnswersAreOwed down c → (k : ℕ) → k < c → IsTrue (is_raised (up.answers.valid k)) → IsAnswered target up down (length (words_at up k)) k
      answered c h legal owed k less valid =
          let own = ((wire target up c plan.some).answers c (le_refl c) legal (owed_above c h legal owed)).answered k less valid in
          let n = length (words_at up k) in
          let beats = read_beats (shown_at up (suc k)) in
          subst (λ l. MatchOption (slice_get beats n) ⊥ (λ beat.
          HoldsAnswers (filled_lanes up.shape target.shape beat.enables) (drop (reads_of target up.shape (take n beats)) l) (record { word = up.answers.word k; code = up.answers.code k })
          × HasGreatestCode (filled_lanes up.shape target.shape beat.enables) (drop (reads_of target up.shape (take n beats)) l) (record { word = up.answers.word k; code = up.answers.code k })))
          (answers_same law target up down many room offsets plan deep run c (fit_before c h) legal (suc k) less (λ j low. owed j (omega (arith, low, less)))) own

  pub select_is_link : IsLink (select_form target) up down end
  select_is_link = record {
    row = row target 0 up down end link_law (λ c h legal owed. shut_hands_on (select_gate room up down offsets run) c);
    words = λ is c h legal owed. select_words law target up down many room offsets plan deep run c (fit_before c h) legal c (le_refl c) legal owed;
    lanes = λ c h legal owed has. gate_lanes target true up down lets shown_alike taken_at_once c (alike_before c h legal) legal (legal_before c h legal) refl (has refl);
    joins = λ c h legal owed alike k less. gate_joins target true up down lets shown_alike taken_at_once c (alike_before c h legal) legal (legal_before c h legal) k less (alike k less);
    quiet = λ c h legal owed answered. gate_quiet target true up down lets shown_alike taken_at_once c (alike_before c h legal) legal (legal_before c h legal) refl same_valid c (le_refl c) answered;
    goes_on = λ legal owed alike.
        further (gate_goes_on target true up down lets shown_alike taken_at_once end (alike_before end (le_refl end) legal) legal (legal_before end (le_refl end) legal) refl same_valid
        (shut_owes law target up down many room offsets plan deep run end fit legal owed) alike) at_end;
  }

  shut_while_owed : AreLegalAt up end → AnswersAreOwed down end → (c : ℕ) → c < end → lets c ≡ false → length (words_at up c) < words_owed up c
  shut_while_owed legal owed c h e =
      let full = shut_full (select_gate room up down offsets run) c e in
      let queued = ap length (queue_is law target up down many room offsets plan deep run end fit legal c (omega (arith, h)) (λ k less. owed k (omega (arith, h, less)))) ∙ length-drop (length (words_at down c)) _ in
      let asks = counted law target up down many room offsets plan deep run end fit legal c (omega (arith, h)) in
      let same = owed_counts target true up down lets shown_alike taken_at_once end (alike_before end (le_refl end) legal) legal (legal_before end (le_refl end) legal) refl same_valid c (omega (arith, h)) in
      let words = word_counts target true up down lets shown_alike taken_at_once end (alike_before end (le_refl end) legal) legal (legal_before end (le_refl end) legal) refl same_valid c in
      omega (arith, full, queued, asks, same, words, deep)

  pub select_begins : AreLegalAt up end → AnswersAreOwed down end → (few : ℕ) (may_burst : Bool) → BeginsBelow few may_burst target up down end
  select_begins legal owed few may_burst =
      gate_begins target true up down lets shown_alike taken_at_once end (alike_before end (le_refl end) legal) legal (legal_before end (le_refl end) legal) (shut_while_owed legal owed) few may_burst
