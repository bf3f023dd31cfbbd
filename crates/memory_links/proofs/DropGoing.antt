-- How a machine that drops beats without a lane goes on: its rank is 1 while a word is owed below, and each word comes in its cycle or in the next one.
use Rattle.std.proofs.Common.{ℕ, zero, suc, ◌<◌, ◌≤◌, ◌≡◌, ◌⊎◌, inl, inr, Bool, true, false, not, ◌&&◌, ◌||◌, List, [], ◌∷◌, ◌++◌, if◌then◌else◌, arith, refl, sym, ap, ap₂, subst, ◌∙◌, length, map, nat_lt, nat_eq, IsTrue, IsFalse, append-nil, ltb-true, ltb-false, lt-ltb}
use Rattle.std.proofs.lemmas.Bool.{and_parts, or_left, or_right, or_parts, both_ways}
use Rattle.histories.specs.History.{is_raised, one_if, only_if}
use Rattle.histories.specs.Laws.{shown_is_accepted_and_standing}
use Rattle.memory_runs.specs.Views.Kind.{Reads, Writes}
use Rattle.memory_runs.specs.Commands.{shows, is_held, is_of_reads}
use Rattle.memory_machines.specs.Link.{Target, Port, Marked, AreLegalAt, AnswersAreOwed, takes, marked_at, taken_at, shown_at, operations_among, words_at, words_owed, is_last_joined, is_nonempty}
use Rattle.memory_machines.specs.Machines.{Raw, raws}
use Rattle.memory_machines.specs.PartRanks.{JoinsAlike, are_joined_alike}
use Rattle.memory_machines.specs.Rank.{moves_commands, is_excused, is_owed, is_unclosed, is_last_write, may_rest, is_writing}
use Rattle.memory_machines.specs.SideLaws.{marked_keeps}
use Rattle.memory_links.proofs.Words.{words_move}
use Rattle.memory_links.specs.Going.{GoesOn, GivesWhatHasCome, has_link_work, is_behind}
use Rattle.memory_links.specs.Selects.{takes_read}
use Rattle.memory_links.specs.Drops.{DropState, RunsAsDrop, IsDropPlan, sends, accepted, standing_at}
use Rattle.memory_links.proofs.Alike.{alike_last_joined, alike_last_write}
use Rattle.memory_links.proofs.DropJoins.{EndsInWrite, kept_is_open, open_above, after_closed}
use Rattle.memory_links.proofs.DropLink.{low, high, sent, kept, all_alike, down_taken, so_far, level_sum, IsLevel, IsAhead, no_one, holds_back}
use Rattle.memory_links.proofs.DropLists.{sum, same_sum}
use Rattle.memory_links.proofs.DropShown.{stands_so, drop_legal}
use Rattle.memory_links.proofs.DropTaken.{dropped_taken, joined_taken, kept_one, up_one, OneOf}
use Rattle.memory_links.proofs.DropWords.{counts, reads_are, asked_up, asked_down, counted}
use Rattle.memory_links.proofs.Gated.{total_sizes, read_after_write, four_of, open_rests, by_not}
use Rattle.memory_links.proofs.InStep.{shown_with}
use Rattle.memory_links.proofs.OneBeat.{flat_at}

same_less : (a b x y : ℕ) → (a < b → x < y) → (x < y → a < b) → nat_lt a b ≡ nat_lt x y
same_less a b x y f g = by_test (nat_lt a b) refl (nat_lt x y) refl
  where
    by_test : (p : Bool) → nat_lt a b ≡ p → (q : Bool) → nat_lt x y ≡ q → nat_lt a b ≡ nat_lt x y
    by_test true d true e = d ∙ sym e
    by_test false d false e = d ∙ sym e
    by_test true d false e = absurd (both_ways (nat_lt x y) e (lt-ltb x y (f (ltb-true a b d))))
    by_test false d true e = absurd (both_ways (nat_lt a b) d (lt-ltb a b (g (ltb-true x y e))))

-- where a write stands behind a kept one, it is accepted or one of them is shown
behind_stuck : (room : ℕ) (w a m : Bool) (r : ℕ) → w ≡ true → sends room (stands_so true w a m true r) ≡ false → accepted (stands_so true w a m true r) false ≡ false → ⊥
behind_stuck room false a m r g e f = cc
behind_stuck room true true m r g e f = cc
behind_stuck room true false false r g e f = cc
behind_stuck room true false true r g e f = cc

-- where nothing is kept, a read alone may stand and not be shown, and only while words are owed
alone_stuck : (room : ℕ) (w a m : Bool) (r : ℕ) → 0 < room → sends room (stands_so true w a m false r) ≡ false → accepted (stands_so true w a m false r) false ≡ false → (w ≡ false) × (0 < r)
alone_stuck room true true true r some e f = cc
alone_stuck room true true false r some e f = cc
alone_stuck room true false m r some e f = cc
alone_stuck room false true m r some e f = let most = ltb-false r room e in (refl, omega (arith, some, most))
alone_stuck room false false m r some e f = (refl, by_zero r f)
  where
    by_zero : (r : ℕ) → nat_eq r 0 && true ≡ false → 0 < r
    by_zero zero f = cc
    by_zero (suc r) f = omega arith

module _ (target : Target) (room : ℕ) (up down : Port) (state : DropState) (end : ℕ) (plan : IsDropPlan target up.shape down.shape) (run : RunsAsDrop room up down state) (legal : AreLegalAt up end) (alike : JoinsAlike target up end) (owed : AnswersAreOwed down end) (some : 0 < room) where
  -- ---- words

  owes_below : (c : ℕ) → c < end → is_owed down c ≡ nat_lt 0 (state.reads (suc c))
  owes_below c h =
      let all = reads_are target room up down state end plan run legal owed (suc c) h in
      let words = counted target room up down state end plan run legal owed down (suc c) in
      same_less (length (words_at down (suc c))) (words_owed down (suc c)) 0 (state.reads (suc c)) (λ less. omega (arith, all, words, less)) (λ less. omega (arith, all, words, less))

  -- where nothing is accepted, a word that is owed above is owed below
  owes_above : (c : ℕ) → c < end → takes up c ≡ false → takes down c ≡ false → is_owed up c ≡ is_owed down c
  owes_above c h t d =
      let now = counts target room up down state end plan run legal owed c h in
      let words = now.words in
      let asked = now.asked in
      let above = asked_up target room up down state end plan run legal owed c h in
      let below = asked_down target room up down state end plan run legal owed c h in
      let none : one_if (takes_read up c) ≡ 0 = ap (λ b. one_if (b && not (is_raised (up.commands.write c)))) t in
      let none_low : one_if (takes_read down c) ≡ 0 = ap (λ b. one_if (b && not (is_raised (down.commands.write c)))) d in
      let up_words = counted target room up down state end plan run legal owed up (suc c) in
      let down_words = counted target room up down state end plan run legal owed down (suc c) in
      same_less (length (words_at up (suc c))) (words_owed up (suc c)) (length (words_at down (suc c))) (words_owed down (suc c))
      (λ less. omega (arith, words, asked, above, below, none, none_low, up_words, down_words, less)) (λ less. omega (arith, words, asked, above, below, none, none_low, up_words, down_words, less))

  gives : GivesWhatHasCome target up down end
  gives c h owes = by_take (takes up c) refl (takes down c) refl
    where
      by_take : (t : Bool) → takes up c ≡ t → (d : Bool) → takes down c ≡ d → IsTrue (is_behind target up down c || (moves_commands up down c || is_raised (up.answers.valid (suc c))) || is_owed down c)
      by_take true t d e = or_left _ _ (or_right (is_behind target up down c) _ (or_left _ _ (or_right (takes down c) (takes up c) t)))
      by_take false t true e = or_left _ _ (or_right (is_behind target up down c) _ (or_left _ _ (or_left _ _ e)))
      by_take false t false e = or_right _ (is_owed down c) (sym (owes_above c (omega (arith, h)) t e) ∙ owes)

  -- ---- what is left open

  -- what is left open below is left open above
  pub left_open : (c : ℕ) (h : c ≤ end) → IsLevel target room up down state end plan run legal alike c → is_last_joined (taken_at down c) ≡ true → (is_last_joined (taken_at up c) ≡ true) × (is_last_write (taken_at up c) ≡ is_last_write (taken_at down c))
  left_open c h level left =
      let list = all_alike target room up down state end plan run legal alike (raws down c) in
      let joined : is_last_joined (sent target room up down state end plan run legal alike c) ≡ true =
      ap is_last_joined (sym level.sent) ∙ sym (ap is_last_joined (down_taken target room up down state end plan run legal alike c h) ∙ alike_last_joined target up.shape down.shape true _ _ list) ∙ left in
      let write : is_last_write (taken_at down c) ≡ is_last_write (sent target room up down state end plan run legal alike c) =
      ap is_last_write (down_taken target room up down state end plan run legal alike c h) ∙ alike_last_write target up.shape down.shape true _ _ list ∙ ap is_last_write level.sent in
      let there = open_above target up (no_one target room up down state end plan run legal alike) refl refl (dropped_taken target room up down state end plan run legal alike c h)
      (after_closed target up (no_one target room up down state end plan run legal alike) (taken_at up c) refl (joined_taken target room up down state end plan run legal alike c h)) (past (sent target room up down state end plan run legal alike c) joined) in
      (before (taken_at up c) there.joined, same (taken_at up c) (sent target room up down state end plan run legal alike c) there.joined joined there.write ∙ sym write)
    where
      past : (ms : List Marked) → is_last_joined ms ≡ true → is_last_joined (no_one target room up down state end plan run legal alike ∷ ms) ≡ true
      past [] e = cc
      past (m ∷ ms) e = e

      before : (ms : List Marked) → is_last_joined (no_one target room up down state end plan run legal alike ∷ ms) ≡ true → is_last_joined ms ≡ true
      before [] e = e
      before (m ∷ ms) e = e

      same : (ms ns : List Marked) → is_last_joined (no_one target room up down state end plan run legal alike ∷ ms) ≡ true → is_last_joined ns ≡ true →
          is_last_write (no_one target room up down state end plan run legal alike ∷ ms) ≡ is_last_write (no_one target room up down state end plan run legal alike ∷ ns) → is_last_write ms ≡ is_last_write ns
      same [] ns e f g = cc
      same ms [] e f g = cc
      same (m ∷ ms) (n ∷ ns) e f g = g

  -- while a beat is kept, or a write is left open below, a write is left open above
  open_write : (c : ℕ) (h : c ≤ end) → (is_nonempty (kept target room up down state end plan run legal alike c) ≡ true) ⊎ ((is_last_joined (taken_at down c) ≡ true) × (is_last_write (taken_at down c) ≡ true)) → EndsInWrite target up (taken_at up c)
  open_write c h (inl e) = kept_is_open target up (dropped_taken target room up down state end plan run legal alike c h) e
  open_write c h (inr e) = by_so_far (so_far target room up down state end plan run legal alike c h)
    where
      by_so_far : IsLevel target room up down state end plan run legal alike c ⊎ IsAhead target room up down state end plan run legal alike c → EndsInWrite target up (taken_at up c)
      by_so_far (inl level) = let there = left_open c h level e.0 in record { joined = there.0; write = there.1 ∙ e.1 }
      by_so_far (inr ahead) = kept_is_open target up (dropped_taken target room up down state end plan run legal alike c h) ahead.some

  -- behind an open write stands no read
  pub no_read : (c : ℕ) → c < end → shows up.commands.signals c ≡ true → is_raised (up.commands.write c) ≡ false → EndsInWrite target up (taken_at up c) → ⊥
  no_read c h shown w left =
      let kind : is_of_reads (marked_at up c).transfer.kind ≡ true =
      ap (λ (m : Marked). is_of_reads m.transfer.kind) (flat_at up end legal (up_one target room up down state end plan run legal alike) c h shown) ∙ ap (λ w. is_of_reads (if w then Writes else Reads)) w in
      read_after_write target up (taken_at up c) (marked_at up c) (subst (λ l. IsTrue (are_joined_alike target up l)) (shown_with up end legal c h shown) (alike (suc c) h)) left.joined left.write kind

  same_taken : (port : Port) (c : ℕ) → takes port c ≡ false → taken_at port (suc c) ≡ taken_at port c
  same_taken port c e = ap (λ b. taken_at port c ++ only_if b (marked_at port c)) e ∙ append-nil (taken_at port c)

  -- what stands and isn't shown is a read behind words that are owed
  pub record Waits (c : ℕ) : Type 0 where
    pub owes : 0 < state.reads c
    pub given : nat_lt 0 (state.reads (suc c)) ≡ false

  stuck : (c : ℕ) → c < end → IsTrue (has_link_work target up down c) → IsTrue (not (moves_commands up down c)) → IsTrue (not (is_excused up down c)) → Waits c
  stuck c h work still must =
      let two = or_parts (takes down c) (takes up c) (by_not (takes down c || takes up c) still) in
      let first = or_parts (is_held down.commands.signals (takes down) c || (is_owed down c && not (is_writing down c))) (may_rest up c) (by_not (is_excused up down c) must) in
      let second = or_parts (is_held down.commands.signals (takes down) c) (is_owed down c && not (is_writing down c)) first.0 in
      by_shown (shows up.commands.signals c) refl two.0 two.1 (quiet two.0 second.0) second.0 second.1 first.1
    where
      quiet : takes down c ≡ false → is_held down.commands.signals (takes down) c ≡ false → shows down.commands.signals c ≡ false
      quiet t held = by_low (shows down.commands.signals c) refl
        where
          by_low : (b : Bool) → shows down.commands.signals c ≡ b → shows down.commands.signals c ≡ false
          by_low false e = e
          by_low true e = absurd (both_ways (is_held down.commands.signals (takes down) c) held (ap₂ (λ s t. s && not t) e t))

      not_sent : (q : List Raw) → state.kept c ≡ q → shows down.commands.signals c ≡ false → sends room (stands_so (shows up.commands.signals c) (is_raised (up.commands.write c)) (standing_at up state c).acts (is_raised (up.commands.more c)) (is_nonempty q) (state.reads c)) ≡ false
      not_sent q e shown = subst (λ q. sends room (stands_so (shows up.commands.signals c) (is_raised (up.commands.write c)) (standing_at up state c).acts (is_raised (up.commands.more c)) (is_nonempty q) (state.reads c)) ≡ false) e (sym (run.shown c) ∙ shown)

      waits_so : (q : List Raw) → state.kept c ≡ q → takes down c ≡ false → takes up c ≡ false → accepted (stands_so (shows up.commands.signals c) (is_raised (up.commands.write c)) (standing_at up state c).acts (is_raised (up.commands.more c)) (is_nonempty q) (state.reads c)) false ≡ false
      waits_so q e d t =
          subst (λ q. accepted (stands_so (shows up.commands.signals c) (is_raised (up.commands.write c)) (standing_at up state c).acts (is_raised (up.commands.more c)) (is_nonempty q) (state.reads c)) false ≡ false) e
          (ap (accepted (standing_at up state c)) (sym d) ∙ sym (run.accepts c) ∙ t)

      by_shown : (s : Bool) → shows up.commands.signals c ≡ s → takes down c ≡ false → takes up c ≡ false → shows down.commands.signals c ≡ false → is_held down.commands.signals (takes down) c ≡ false →
          IsFalse (is_owed down c && not (is_writing down c)) → IsFalse (may_rest up c) → Waits c
      by_shown true s d t low held owes rest = by_kept (kept_one target room up down state end plan run legal alike c)
        where
          by_kept : OneOf target room up down state end plan run legal alike (state.kept c) → Waits c
          by_kept (inr k) =
              absurd (behind_stuck room (is_raised (up.commands.write c)) (standing_at up state c).acts (is_raised (up.commands.more c)) (state.reads c) (writes (is_raised (up.commands.write c)) refl)
              (ap (λ s. sends room (stands_so s (is_raised (up.commands.write c)) (standing_at up state c).acts (is_raised (up.commands.more c)) true (state.reads c))) (sym s) ∙ not_sent (k.0 ∷ []) k.1 low)
              (ap (λ s. accepted (stands_so s (is_raised (up.commands.write c)) (standing_at up state c).acts (is_raised (up.commands.more c)) true (state.reads c)) false) (sym s) ∙ waits_so (k.0 ∷ []) k.1 d t))
            where
              left : IsLevel target room up down state end plan run legal alike c ⊎ IsAhead target room up down state end plan run legal alike c → EndsInWrite target up (taken_at up c)
              left (inl level) = open_write c (omega (arith, h)) (inl (ap is_nonempty (sym level.kept ∙ ap (map (high target room up down state end plan run legal alike)) k.1)))
              left (inr ahead) = open_write c (omega (arith, h)) (inl ahead.some)

              writes : (w : Bool) → is_raised (up.commands.write c) ≡ w → is_raised (up.commands.write c) ≡ true
              writes true e = e
              writes false e = absurd (no_read c h s e (left (so_far target room up down state end plan run legal alike c (omega (arith, h)))))
          by_kept (inl none) =
              let reads = alone_stuck room (is_raised (up.commands.write c)) (standing_at up state c).acts (is_raised (up.commands.more c)) (state.reads c) some
              (ap (λ s. sends room (stands_so s (is_raised (up.commands.write c)) (standing_at up state c).acts (is_raised (up.commands.more c)) false (state.reads c))) (sym s) ∙ not_sent [] none low)
              (ap (λ s. accepted (stands_so s (is_raised (up.commands.write c)) (standing_at up state c).acts (is_raised (up.commands.more c)) false (state.reads c)) false) (sym s) ∙ waits_so [] none d t) in
              record { owes = reads.1; given = sym (owes_below c h) ∙ by_owed reads.0 (is_owed down c) refl }
            where
              writing : (b x : Bool) → b ≡ true → IsFalse (b && not x) → x ≡ true
              writing true true e f = refl
              writing true false e f = cc
              writing false x e f = cc

              by_owed : is_raised (up.commands.write c) ≡ false → (b : Bool) → is_owed down c ≡ b → is_owed down c ≡ false
              by_owed w false e = e
              by_owed w true e =
                  let open_one = and_parts (is_unclosed down c) (is_last_write (taken_at down (suc c))) (writing (is_owed down c) (is_writing down c) e owes) in
                  absurd (no_read c h s w (open_write c (omega (arith, h)) (inr (ap is_last_joined (sym (same_taken down c d)) ∙ open_one.0, ap is_last_write (sym (same_taken down c d)) ∙ open_one.1))))
      by_shown false s d t low held owes rest = absurd (by_so_far (so_far target room up down state end plan run legal alike c (omega (arith, h))))
        where
          held_up : is_held up.commands.signals (takes up) c ≡ false
          held_up = ap (λ s. s && not (takes up c)) s

          all : shown_at up (suc c) ≡ taken_at up c
          all =
              shown_is_accepted_and_standing (shows up.commands.signals) (takes up) (marked_at up) end (suc c) (marked_keeps up end legal) h
              ∙ ap (λ b. taken_at up (suc c) ++ only_if b (marked_at up c)) held_up ∙ append-nil (taken_at up (suc c)) ∙ same_taken up c t

          rests : is_last_joined (taken_at up c) ≡ true → is_last_write (taken_at up c) ≡ true → ⊥
          rests j w =
              both_ways (may_rest up c) rest
              (ap₂ (λ (l : List Marked) s. is_last_joined l && not s && (is_last_write l || not (is_owed up c))) (same_taken up c t) s ∙ ap₂ (λ j w. j && true && (w || not (is_owed up c))) j w)

          by_so_far : IsLevel target room up down state end plan run legal alike c ⊎ IsAhead target room up down state end plan run legal alike c → ⊥
          by_so_far (inr ahead) = both_ways (shows up.commands.signals c) s (ahead.now h).0
          by_so_far (inl level) =
              four_of (is_held up.commands.signals (takes up) c)
              (nat_lt (length (operations_among target down.shape (taken_at down (suc c)))) (length (operations_among target up.shape (shown_at up (suc c))))) (is_unclosed down c) (is_held down.commands.signals (takes down) c) work
              (λ w. both_ways (is_held up.commands.signals (takes up) c) held_up w)
              untaken
              unclosed
              (λ w. both_ways (is_held down.commands.signals (takes down) c) held w)
            where
              untaken : IsTrue (nat_lt (length (operations_among target down.shape (taken_at down (suc c)))) (length (operations_among target up.shape (shown_at up (suc c))))) → ⊥
              untaken w =
                  let less = ltb-true (length (operations_among target down.shape (taken_at down (suc c)))) (length (operations_among target up.shape (shown_at up (suc c)))) w in
                  let below = ap (λ l. length (operations_among target down.shape l)) (same_taken down c d) ∙ level_sum target room up down state end plan run legal alike c (omega (arith, h)) level in
                  let above = ap (λ l. length (operations_among target up.shape l)) all ∙ sym (total_sizes target up.shape (taken_at up c)) in
                  let sums = same_sum target up.shape (dropped_taken target room up down state end plan run legal alike c (omega (arith, h))) in
                  let left = open_write c (omega (arith, h)) (inl (some_kept (kept target room up down state end plan run legal alike c) (omega (arith, less, below, above, sums)))) in
                  rests left.joined left.write
                where
                  some_kept : (ms : List Marked) → 0 < sum target up.shape ms → is_nonempty ms ≡ true
                  some_kept [] less = absurd (omega (arith, less))
                  some_kept (m ∷ ms) less = refl

              unclosed : IsTrue (is_unclosed down c) → ⊥
              unclosed w =
                  let left = left_open c (omega (arith, h)) level (ap is_last_joined (sym (same_taken down c d)) ∙ w) in
                  let up_same = same_taken up c t in
                  let down_same = same_taken down c d in
                  open_rests (is_unclosed up c) (is_last_write (taken_at up (suc c))) (is_owed up c) (is_owed down c) (ap is_last_joined up_same ∙ left.0) (owes_above c h t d)
                  (ap₂ (λ u l. is_owed down c && not (u && l)) (ap is_last_joined up_same ∙ left.0 ∙ sym w) (ap is_last_write up_same ∙ left.1 ∙ ap is_last_write (sym down_same)) ∙ owes)
                  (ap (λ s. is_unclosed up c && not s && (is_last_write (taken_at up (suc c)) || not (is_owed up c))) (sym s) ∙ rest)

  pub drop_goes_on : GoesOn target (record { largest = 1; hold = 1 }) up down end
  drop_goes_on = record {
    rank = λ c. one_if (nat_lt 0 (state.reads c));
    going = record {
      legal = legal;
      legal_down = drop_legal target room up down state end plan run legal;
      falls = words_move up down (record {
        bounded = λ c h. at_most (nat_lt 0 (state.reads c));
        falls = λ c h work still must.
            let waits = stuck c h work still must in
            let before = ap one_if (lt-ltb 0 (state.reads c) waits.owes) in
            let after = ap one_if waits.given in
            omega (arith, before, after);
        stays = λ c h work still. no_rise c (or_parts (takes down c) (takes up c) (by_not (takes down c || takes up c) still)).0;
      });
      words = gives;
    };
    holds = holds_back target room up down state end plan run legal alike;
  }
    where
      at_most : (b : Bool) → one_if b ≤ 1
      at_most true = omega arith
      at_most false = omega arith

      no_rise : (c : ℕ) → takes down c ≡ false → one_if (nat_lt 0 (state.reads (suc c))) ≤ one_if (nat_lt 0 (state.reads c))
      no_rise c d = by_now (nat_lt 0 (state.reads c)) refl (nat_lt 0 (state.reads (suc c))) refl
        where
          by_now : (a : Bool) → nat_lt 0 (state.reads c) ≡ a → (b : Bool) → nat_lt 0 (state.reads (suc c)) ≡ b → one_if (nat_lt 0 (state.reads (suc c))) ≤ one_if (nat_lt 0 (state.reads c))
          by_now true e b f = let one = ap one_if e in let most = at_most (nat_lt 0 (state.reads (suc c))) in omega (arith, one, most)
          by_now a e false f = let none = ap one_if f in omega (arith, none)
          by_now false e true f =
              let none = ltb-false 0 (state.reads c) e in
              let more = ltb-true 0 (state.reads (suc c)) f in
              let step = run.reads_next c in
              let no_take : one_if (takes_read down c) ≡ 0 = ap (λ b. one_if (b && not (is_raised (down.commands.write c)))) d in
              absurd (omega (arith, none, more, step, no_take))
