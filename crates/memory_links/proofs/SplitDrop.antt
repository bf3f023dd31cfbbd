-- A splitter over a machine that drops beats without a lane: what that keeps goes on with the next piece.
use Rattle.std.proofs.Common.{ℕ, suc, ◌<◌, ◌≤◌, ◌≡◌, ◌+◌, ◌⊎◌, inl, inr, Bool, true, false, ◌&&◌, List, [], ◌∷◌, ◌++◌, if◌then◌else◌, arith, refl, sym, ap, ap₂, subst, ◌∙◌, length, map, flat_map, nat_eq, nat_lt, append-nil, length-append, lt-ltb, ltb-true}
use Rattle.std.proofs.lemmas.Bool.{and_parts, both_ways, or_right, eq-eqb}
use Rattle.std.proofs.lemmas.List.{map-append}
use Rattle.std.proofs.lemmas.Grind.{flat_map-append}
use Rattle.std.proofs.Math.Nat.{eq-or-lt_of_le}
use Rattle.histories.specs.History.{is_raised, IsPrefix}
use Rattle.histories.specs.Laws.{prefix_flat_map, prefix_length}
use Rattle.memory_runs.specs.Commands.{shows}
use Rattle.memory_machines.specs.Link.{Target, Port, Marked, AreLegalAt, AnswersAreOwed, takes, marked_at, taken_at, shown_at, operations_in, operations_among, is_nonempty, words_at, words_owed}
use Rattle.memory_machines.specs.Machines.{Raw, raw_at, raws, parts_sent, split_parts, MaySplit}
use Rattle.memory_machines.specs.PartRanks.{JoinsAlike}
use Rattle.memory_machines.specs.SideLaws.{taken_is_shown}
use Rattle.memory_machines.specs.Straight.{may_be_prompt}
use Rattle.memory_links.specs.Begins.{BeginsBelow, operations_taken}
use Rattle.memory_links.specs.Drops.{DropState, RunsAsDrop, IsDropPlan, sends, keeps, standing_at}
use Rattle.memory_links.specs.Splits.{SplitState, RunsAsSplit, split_at, split_rest, opens}
use Rattle.memory_links.proofs.Beginning.{IsFirstShown, first_parts, taken_one, taken_later}
use Rattle.memory_links.proofs.DropLink.{legal_below}
use Rattle.memory_links.proofs.DropPrompt.{last_of, kept_alone, sends_kept, lane_at, all_taken, taken_level, goes_beyond, sends_at, no_empty}
use Rattle.memory_links.proofs.DropShown.{stands_so}
use Rattle.memory_links.proofs.DropStraight.{none_owed}
use Rattle.memory_links.proofs.DropTaken.{lane, kept_next}
use Rattle.memory_links.proofs.DropWords.{words_are_owed}
use Rattle.memory_links.proofs.Gather.{HasPieces}
use Rattle.memory_links.proofs.OneBeat.{flat_mark, flat_taken}
use Rattle.memory_links.proofs.Prompt.{some_in}
use Rattle.memory_links.proofs.SplitLink.{Carries, carried, one_down, up_taken, split_joins}
use Rattle.memory_links.proofs.SplitPart.{Acts, above_is, there_is, acts_above, all_parts, part_shown, last_taken, shows_there}
use Rattle.memory_links.proofs.SplitParts.{parts_of, raws_below, reads_among}
use Rattle.memory_links.proofs.SplitPrompt.{all_sizes, front_acts}
use Rattle.memory_links.proofs.SplitPrompt.{accepted as all_accepted}
use Rattle.memory_links.proofs.Splitting.{shown_above, shown_taken, same_raw, part_there, goes_further}
use Rattle.memory_links.proofs.SplitWords.{owed_below, quiet_below}

module _ (law : HasPieces) (carries : Carries) (target : Target) (count deep room : ℕ) (up middle down : Port) (splits : SplitState) (drops : DropState) (may : MaySplit target up.shape middle.shape count) (some_deep : 0 < deep) (split : RunsAsSplit deep up middle splits)
    (plan : IsDropPlan target middle.shape down.shape) (some_room : 0 < room) (drop : RunsAsDrop room middle down drops) (end : ℕ) (legal : AreLegalAt up end) (alike : JoinsAlike target up end) (owed : AnswersAreOwed down end) where
  legal_there : AreLegalAt middle end
  legal_there = (carried law carries target count deep up middle splits may some_deep split end legal).legal

  owed_there : AnswersAreOwed middle end
  owed_there = words_are_owed target room middle down drops end plan drop legal_there owed

  alike_there : JoinsAlike target middle end
  alike_there k h = split_joins law carries target count deep up middle splits may some_deep split end legal k h (alike k h)

  lane_there : (c : ℕ) → c < end → Acts law carries target count deep up middle splits may some_deep split end legal (raw_at up c) → shows middle.commands.signals c ≡ true → lane target room middle down drops end plan drop legal_there alike_there c ≡ true
  lane_there c h act shown =
      lane_at target room middle down drops end plan drop legal_there alike_there owed some_room c h shown
      (ap (λ (m : Marked). is_nonempty (operations_in target middle.shape m)) (there_is law carries target count deep up middle splits may some_deep split end legal c h shown) ∙ (part_shown law carries target count deep up middle splits may some_deep split end legal c h shown).acts_so ∙ act)

  taken_by : (c : ℕ) → c < end → IsFirstShown false target up c → takes up c ≡ true → operations_taken target up c < operations_taken target down (suc c)
  taken_by c h is t =
      let act = acts_above law carries target count deep up middle splits may some_deep split end legal c h is.shown is.acts in
      let last = last_taken law carries target count deep up middle splits may some_deep split end legal c h t act in
      let shown = shown_taken deep up middle splits split end legal c last.0 in
      let ends = last_of up.shape (raw_at up c) (ap (may_be_prompt false) (sym (above_is law carries target count deep up middle splits may some_deep split end legal c h is.shown)) ∙ is.may) in
      let ends_there : is_raised (middle.commands.write c) && is_raised (middle.commands.more c) ≡ false = ap₂ (λ w m. w && is_raised m) (part_shown law carries target count deep up middle splits may some_deep split end legal c h shown).writes last.1 ∙ ends in
      let level = taken_level target room middle down drops end plan drop legal_there alike_there owed some_room c h last.0 (lane_there c h act shown) ends_there in
      let all = all_accepted law carries target count deep up middle splits may some_deep split end legal owed_there (suc c) h in
      let one = taken_one target up c t in
      let some = some_in (operations_in target up.shape (marked_at up c)) is.acts in
      omega (arith, level, all, one, some)

  -- ---- what waits

  -- where a part has gone, more operations are taken below than those accepted
  more_gone : (c : ℕ) → c < end → Acts law carries target count deep up middle splits may some_deep split end legal (raw_at up c) → shows middle.commands.signals c ≡ true → 0 < length (parts_sent up middle c) → operations_taken target up c < operations_taken target middle c
  more_gone c h act shown some =
      let before = flat_map (parts_of up.shape middle.shape) (raws up c) in
      let ops : operations_among target middle.shape (taken_at middle c) ≡ operations_among target middle.shape (map (flat_mark middle.shape) before) ++ operations_among target middle.shape (map (flat_mark middle.shape) (parts_sent up middle c)) =
      ap (operations_among target middle.shape) (flat_taken middle end legal_there (one_down law carries target count deep up middle splits may some_deep split end legal) c (omega (arith, h))
      ∙ ap (map (flat_mark middle.shape)) (raws_below deep up middle splits split end legal c (omega (arith, h))) ∙ map-append (flat_mark middle.shape) before (parts_sent up middle c))
      ∙ flat_map-append (operations_in target middle.shape) (map (flat_mark middle.shape) before) (map (flat_mark middle.shape) (parts_sent up middle c)) in
      let size = ap length ops ∙ length-append (operations_among target middle.shape (map (flat_mark middle.shape) before)) (operations_among target middle.shape (map (flat_mark middle.shape) (parts_sent up middle c))) in
      let first : length (operations_among target middle.shape (map (flat_mark middle.shape) before)) ≡ operations_taken target up c =
      all_sizes law target up.shape middle.shape count may (raws up c) ∙ ap (λ l. length (operations_among target up.shape l)) (sym (up_taken law carries target count deep up middle splits may some_deep split end legal c (omega (arith, h)))) in
      let front : IsPrefix (parts_sent up middle c) (split_at up middle c ++ []) =
      record { rest = raw_at middle c ∷ split_rest up middle splits c; joins = sym (part_there deep up middle splits split end legal c h shown) ∙ sym (append-nil (split_at up middle c)) } in
      let more = front_acts law target up.shape middle.shape count may (raw_at up c) (split_at up middle c) (all_parts law carries target count deep up middle splits may some_deep split end legal (raw_at up c)) act (parts_sent up middle c) front some in
      omega (arith, size, first, more)

  -- where none has, no word is owed below
  none_asked : (c : ℕ) → c < end → words_owed up c ≤ length (words_at up c) → parts_sent up middle c ≡ [] → drops.reads c ≡ 0
  none_asked c h given none =
      let owed_c : AnswersAreOwed middle c = λ k less. owed_there k (omega (arith, h, less)) in
      let asks = owed_below law target count deep up middle splits may split end legal c (omega (arith, h)) in
      let quiet = quiet_below law target count deep up middle splits may split end legal c (omega (arith, h)) owed_c given in
      let left = ap (λ l. length (reads_among l)) none in
      none_owed target room middle down drops end plan drop legal_there alike_there owed some_room c (omega (arith, h)) (omega (arith, asks, quiet, left))

  -- behind a part that is taken the next one is shown
  next_shown : (c : ℕ) → suc c < end → shows up.commands.signals c ≡ true → takes up c ≡ false → takes middle c ≡ true → shows middle.commands.signals (suc c) ≡ true
  next_shown c h shown not_taken taken =
      split.shown (suc c) ∙ ap₂ (λ x y. x && y) (ap₂ (λ x y. x && y) still.1 open_next) (lt-ltb (splits.place (suc c)) (length (split_at up middle (suc c))) (omega (arith, place, size, left)))
    where
      still : (raw_at up c ≡ raw_at up (suc c)) × (shows up.commands.signals (suc c) ≡ true)
      still = same_raw deep up middle splits split end legal c h shown not_taken

      there : shows middle.commands.signals c ≡ true
      there = shown_taken deep up middle splits split end legal c taken

      place : splits.place (suc c) ≡ suc (splits.place c)
      place = split.place_next c ∙ ap₂ (λ a b. if a then 0 else if b then suc (splits.place c) else splits.place c) not_taken taken

      size : length (split_at up middle (suc c)) ≡ length (split_at up middle c)
      size = ap (λ (r : Raw). length (split_parts up.shape middle.shape (record { left = 0; done = 0; first = 0 }) r)) (sym still.0)

      low : splits.place c < length (split_at up middle c)
      low = ltb-true (splits.place c) (length (split_at up middle c)) (and_parts (shows up.commands.signals c && opens deep up middle splits c) (nat_lt (splits.place c) (length (split_at up middle c))) (sym (split.shown c) ∙ there)).1

      left : suc (splits.place c) < length (split_at up middle c)
      left = by_last (eq-or-lt_of_le low)
        where
          by_last : (suc (splits.place c) ≡ length (split_at up middle c)) ⊎ (suc (splits.place c) < length (split_at up middle c)) → suc (splits.place c) < length (split_at up middle c)
          by_last (inr less) = less
          by_last (inl same) =
              let above = shown_above deep up middle splits split end legal c there in
              let done = split.accepts c ∙ ap₂ (λ x y. x && y) (ap₂ (λ x y. x && y) above.0 above.1) (or_right (nat_eq (length (split_at up middle c)) 0) _ (ap₂ (λ x y. x && y) taken (eq-eqb _ _ same))) in
              absurd (both_ways (takes up c) not_taken done)

      open_next : opens deep up middle splits (suc c) ≡ true
      open_next = goes_further deep up middle splits split end legal (suc c) h still.1 (omega (arith, place))

  waits_by : (few c : ℕ) → 0 < few → c + few < end → IsFirstShown false target up c → takes up c ≡ false → operations_taken target up c ≤ operations_taken target down c → words_owed up c ≤ length (words_at up c) →
      operations_taken target up c < length (operations_among target down.shape (shown_at down (suc (c + few))))
  waits_by few c later h is not_taken reached given = by_kept (is_nonempty (drops.kept c)) refl
    where
      now : c < end
      now = omega (arith, h)

      act : Acts law carries target count deep up middle splits may some_deep split end legal (raw_at up c)
      act = acts_above law carries target count deep up middle splits may some_deep split end legal c now is.shown is.acts

      shown : shows middle.commands.signals c ≡ true
      shown = shows_there law carries target count deep up middle splits may some_deep split end legal owed_there c now is.shown not_taken given

      has : lane target room middle down drops end plan drop legal_there alike_there c ≡ true
      has = lane_there c now act shown

      beyond : (d : ℕ) → c ≤ d → d ≤ c + few → shows down.commands.signals d ≡ true → operations_taken target up c < length (operations_among target down.shape (shown_at down (suc (c + few))))
      beyond d low high there =
          let more = goes_beyond target room middle down drops end plan drop legal_there alike_there owed some_room d (c + few) high (omega (arith, high, h)) there in
          let grown = taken_later target down c d low in
          omega (arith, more, grown, reached)

      none : is_nonempty (drops.kept c) ≡ false → drops.kept c ≡ []
      none e = by_list (drops.kept c) e
        where
          by_list : (q : List Raw) → is_nonempty q ≡ false → q ≡ []
          by_list [] e = refl
          by_list (k ∷ q) e = cc

      -- the piece goes straight through
      through : is_nonempty (drops.kept c) ≡ false → is_raised (middle.commands.write c) && is_raised (middle.commands.more c) ≡ false → (sent : List Raw) → parts_sent up middle c ≡ sent →
          operations_taken target up c < length (operations_among target down.shape (shown_at down (suc (c + few))))
      through free last [] e =
          let quiet = none_asked c now given e in
          beyond c (omega arith) (omega arith) (sends_at target room middle down drops end plan drop legal_there alike_there owed some_room c now shown has last (λ read. omega (arith, quiet, some_room)))
      through free last (x ∷ sent) e =
          let gone = more_gone c now act shown (let size = ap length e in omega (arith, size)) in
          let level = all_taken target room middle down drops end plan drop legal_there alike_there owed some_room c (omega (arith, now)) (none free) in
          let grown = taken_later target down c (suc (c + few)) (omega arith) in
          let all = prefix_length (prefix_flat_map (operations_in target down.shape) (taken_is_shown down end (suc (c + few)) (legal_below target room middle down drops end plan drop legal_there alike_there) (omega (arith, h)))) in
          omega (arith, gone, level, grown, all)

      -- or it is kept, and goes on with the next one
      kept_first : is_nonempty (drops.kept c) ≡ false → is_raised (middle.commands.write c) && is_raised (middle.commands.more c) ≡ true →
          operations_taken target up c < length (operations_among target down.shape (shown_at down (suc (c + few))))
      kept_first free more = beyond (suc c) (omega arith) (omega (arith, later)) (drop.shown (suc c) ∙ sends_next (is_nonempty (drops.kept (suc c))) (ap is_nonempty kept_now))
        where
          next : suc c < end
          next = omega (arith, h, later)

          taken : takes middle c ≡ true
          taken =
              drop.accepts c
              ∙ kept_alone (shows middle.commands.signals c) (is_raised (middle.commands.write c)) (lane target room middle down drops end plan drop legal_there alike_there c) (is_raised (middle.commands.more c)) (is_nonempty (drops.kept c)) (takes down c) (drops.reads c) shown has more free

          keeps_now : keeps (standing_at middle drops c) (takes down c) ≡ true
          keeps_now = ap₂ (λ x y. x && y) (sym (drop.accepts c) ∙ taken) (ap₂ (λ x y. x && y) more has)

          kept_now : drops.kept (suc c) ≡ raw_at middle c ∷ []
          kept_now = kept_next target room middle down drops end plan drop legal_there alike_there c true (takes down c) keeps_now refl

          still : (raw_at up c ≡ raw_at up (suc c)) × (shows up.commands.signals (suc c) ≡ true)
          still = same_raw deep up middle splits split end legal c next is.shown not_taken

          shown_next : shows middle.commands.signals (suc c) ≡ true
          shown_next = next_shown c next is.shown not_taken taken

          has_next : lane target room middle down drops end plan drop legal_there alike_there (suc c) ≡ true
          has_next = lane_there (suc c) next (subst (Acts law carries target count deep up middle splits may some_deep split end legal) still.0 act) shown_next

          sends_next : (b : Bool) → b ≡ true → sends room (stands_so (shows middle.commands.signals (suc c)) (is_raised (middle.commands.write (suc c))) (lane target room middle down drops end plan drop legal_there alike_there (suc c)) (is_raised (middle.commands.more (suc c))) b (drops.reads (suc c))) ≡ true
          sends_next true e = sends_kept room (shows middle.commands.signals (suc c)) (is_raised (middle.commands.write (suc c))) (lane target room middle down drops end plan drop legal_there alike_there (suc c)) (is_raised (middle.commands.more (suc c))) (drops.reads (suc c)) shown_next has_next
          sends_next false e = cc

      by_kept : (b : Bool) → is_nonempty (drops.kept c) ≡ b → operations_taken target up c < length (operations_among target down.shape (shown_at down (suc (c + few))))
      by_kept true e =
          let sends_it : shows down.commands.signals c ≡ true =
          drop.shown c
          ∙ ap (λ b. sends room (stands_so (shows middle.commands.signals c) (is_raised (middle.commands.write c)) (lane target room middle down drops end plan drop legal_there alike_there c) (is_raised (middle.commands.more c)) b (drops.reads c))) e
          ∙ sends_kept room (shows middle.commands.signals c) (is_raised (middle.commands.write c)) (lane target room middle down drops end plan drop legal_there alike_there c) (is_raised (middle.commands.more c)) (drops.reads c) shown has in
          beyond c (omega arith) (omega arith) sends_it
      by_kept false e = by_last (is_raised (middle.commands.write c) && is_raised (middle.commands.more c)) refl
        where
          by_last : (b : Bool) → is_raised (middle.commands.write c) && is_raised (middle.commands.more c) ≡ b → operations_taken target up c < length (operations_among target down.shape (shown_at down (suc (c + few))))
          by_last true more = kept_first e more
          by_last false last = through e last (parts_sent up middle c) refl

  pub split_begins_over_drop : (few : ℕ) → 0 < few → BeginsBelow few false target up down end
  split_begins_over_drop few later = record {
    taken = λ c h first t. taken_by c h (first_parts false target up c first) t;
    waits = λ c h first not_taken reached given. waits_by few c later h (first_parts false target up c first) not_taken reached given;
    empty = λ c h empty. absurd (no_empty target room middle down drops end plan drop legal_there alike_there owed some_room c h empty);
  }
