-- A splitter keeps all that a link promises.
use Rattle.std.proofs.Common.{ℕ, zero, suc, ◌<◌, ◌≤◌, ◌≡◌, ◌+◌, ◌-◌, Bool, true, false, not, ◌&&◌, ◌||◌, List, [], ◌∷◌, ◌++◌, if◌then◌else◌, arith, refl, sym, ap, ap₂, subst, ◌∙◌, length, map, flat_map, take, nat_lt, nat_eq, IsTrue, append-nil, length-append, ltb-true, ltb-false, lt-ltb, le_refl, le-leb, leb-true}
use Rattle.std.specs.List.{list_all}
use Rattle.std.proofs.lemmas.Bool.{or_right, or_parts, both_ways}
use Rattle.histories.specs.History.{is_raised, only_if, one_if, total, unreached, standing, IsPrefix}
use Rattle.histories.specs.Laws.{shown_is_accepted_and_standing, prefix_map, prefix_filter, prefix_flat_map, prefix_length}
use Rattle.memory_runs.specs.Commands.{shows, is_held, is_of_reads}
use Rattle.memory_runs.specs.Views.Kind.{Reads, Writes}
use Rattle.memory_machines.specs.Link.{Target, Port, Marked, AreLegalAt, AnswersAreOwed, CarriesCommands, takes, marked_at, taken_at, shown_at, is_last_joined, operations_among, sizes, words_at, words_owed, read_beats}
use Rattle.memory_machines.specs.Lines.{HasLanes, KeepsRow}
use Rattle.memory_machines.specs.Machines.{Raw, raw_at, raws, parts_sent, MaySplit, owing_rank}
use Rattle.memory_machines.specs.PartRanks.{JoinsAlike, are_joined_alike}
use Rattle.memory_machines.specs.Rank.{moves_commands, is_excused, is_owed, is_unclosed, is_last_write, may_rest, is_writing}
use Rattle.memory_machines.specs.SideLaws.{marked_keeps}
use Rattle.memory_machines.specs.Straight.{are_answered}
use Rattle.memory_links.proofs.Words.{words_move}
use Rattle.memory_links.specs.Going.{GoesOn, has_link_work}
use Rattle.memory_links.specs.Going.RowGoesOn.{at_end, further}
use Rattle.memory_links.specs.Links.{IsLink}
use Rattle.memory_links.specs.Splits.{SplitState, RunsAsSplit, split_form, split_at, asked_at, opens, are_same}
use Rattle.memory_links.proofs.Alike.{have_operations}
use Rattle.memory_links.proofs.Gated.{read_after_write, total_sizes, four_of, by_not}
use Rattle.memory_links.proofs.Gather.{HasPieces}
use Rattle.memory_links.proofs.Groups.{pieces_of_all}
use Rattle.memory_links.proofs.OneBeat.{flat_mark, shown_raws, flat_taken, flat_shown, flat_at, count_is_one}
use Rattle.memory_links.proofs.Stages.{all_front, alike_prefix, still_rank}
use Rattle.memory_links.proofs.Splitting.{stands, goes_further}
use Rattle.memory_links.proofs.SplitTags.{holds_nothing_back, split_hands_on, bears_shown}
use Rattle.memory_links.proofs.SplitParts.{parts_of, raws_below, place_low, reads_among, raw_enables, asks, reads_of_all, reads_of_raws, asked_above}
use Rattle.memory_links.proofs.SplitWords.{brings_back, greatest, reads_owe, owed_owes, quiet_below, owed_above, few_above}
use Rattle.memory_links.proofs.SplitShown.{shown_front}
use Rattle.memory_links.proofs.SplitJoins.{lanes_down, joins_down, more_down, write_down, joined_last, written_last, flat_reads}

no_true : IsTrue false → ⊥
no_true h = cc

pub reached_all : (ns : List ℕ) (n : ℕ) → unreached ns n ≤ 0 → total ns ≤ n
reached_all [] n h = omega arith
reached_all (size ∷ ns) n h = by_size (nat_lt n size) refl h (reached_all ns (n - size))
  where
    by_size : (b : Bool) → nat_lt n size ≡ b → (if b then 1 else 0) + unreached ns (n - size) ≤ 0 → (unreached ns (n - size) ≤ 0 → total ns ≤ n - size) → size + total ns ≤ n
    by_size true e g rest = absurd (omega (arith, g))
    by_size false e g rest =
        let more = ltb-false n size e in
        let later = rest (omega (arith, g)) in
        omega (arith, more, later)

abbrev pub Carries : Type 0
Carries = (target : Target) (up down : Port) (room count : ℕ) (state : SplitState) (end : ℕ) → MaySplit target up.shape down.shape count → RunsAsSplit room up down state → AreLegalAt up end → CarriesCommands target 0 up down end

module _ (law : HasPieces) (carries : Carries) (target : Target) (count room : ℕ) (up down : Port) (state : SplitState) (may : MaySplit target up.shape down.shape count) (some_room : 0 < room) (run : RunsAsSplit room up down state)
    (end : ℕ) (legal : AreLegalAt up end) where
  pub carried : CarriesCommands target 0 up down end
  carried = carries target up down room count state end may run legal

  pub one_up : (c : ℕ) → c < end → shows up.commands.signals c ≡ true → up.commands.count c ≡ 1
  one_up = count_is_one up end may.one_beat legal

  pub one_down : (c : ℕ) → c < end → shows down.commands.signals c ≡ true → down.commands.count c ≡ 1
  one_down c h shown = (bears_shown room up down state run end legal c shown).count

  abbrev parts : List Raw → List Raw
  parts rs = flat_map (parts_of up.shape down.shape) rs

  pub up_shown : (k : ℕ) → k ≤ end → shown_at up k ≡ map (flat_mark up.shape) (shown_raws up k)
  up_shown = flat_shown up end legal one_up

  -- what is shown below is a front of the parts
  pub down_shown : (k : ℕ) → k ≤ end → IsPrefix (shown_at down k) (map (flat_mark down.shape) (parts (shown_raws up k)))
  down_shown k h =
      subst (λ l. IsPrefix l (map (flat_mark down.shape) (parts (shown_raws up k)))) (sym (flat_shown down end carried.legal one_down k h))
      (prefix_map (flat_mark down.shape) (shown_front room up down state run end legal k h))

  pub split_lanes : HasLanes target up end → HasLanes target down end
  split_lanes has k h = by_enables target.shape.has_enables (has k h)
    where
      by_enables : (b : Bool) → IsTrue (b || list_all (have_operations target up.shape) (shown_at up k)) → IsTrue (b || list_all (have_operations target down.shape) (shown_at down k))
      by_enables true all = refl
      by_enables false all =
          let front = down_shown k h in
          all_front (have_operations target down.shape) (shown_at down k) front.rest
          (subst (λ l. IsTrue (list_all (have_operations target down.shape) l)) (sym front.joins)
          (lanes_down law target up down count may (shown_raws up k) (subst (λ l. IsTrue (list_all (have_operations target up.shape) l)) (up_shown k h) all)))

  pub split_joins : (k : ℕ) → k ≤ end → IsTrue (are_joined_alike target up (shown_at up k)) → IsTrue (are_joined_alike target down (shown_at down k))
  split_joins k h joined =
      alike_prefix target down (down_shown k h)
      (joins_down law target up down count may (shown_raws up k) (subst (λ l. IsTrue (are_joined_alike target up l)) (up_shown k h) joined))

  pub split_quiet : AnswersAreOwed down end → (c : ℕ) → c ≤ end → IsTrue (are_answered up (shown_at up c) c) → IsTrue (are_answered down (shown_at down c) c)
  split_quiet owed c h answered =
      let owed_c : AnswersAreOwed down c = λ k less. owed k (omega (arith, h, less)) in
      let given = leb-true (length (read_beats (shown_at up c))) (length (words_at up c)) answered in
      let shown : length (read_beats (shown_at up c)) ≡ length (reads_among (shown_raws up c)) = ap (λ l. length (read_beats l)) (up_shown c h) ∙ flat_reads up.shape (shown_raws up c) in
      let taken : words_owed up c ≡ length (asked_above room up down state run end legal c) = owed_above law target count room up down state may run end legal c h in
      let same : length (asked_above room up down state run end legal c) ≡ length (reads_among (raws up c)) = ap length (reads_of_raws up c) in
      let few = few_above law target count room up down state may run end legal c h owed_c in
      let base : IsPrefix (raws up c) (shown_raws up c) = record { rest = standing (shows up.commands.signals) (takes up) (raw_at up) c; joins = refl } in
      let front : IsPrefix (reads_among (raws up c)) (reads_among (shown_raws up c)) = prefix_map raw_enables (prefix_filter asks base) in
      let less = prefix_length front in
      let all : reads_among (shown_raws up c) ≡ reads_among (raws up c) = whole front (omega (arith, given, shown, taken, same, few, less)) in
      let below : length (read_beats (shown_at down c)) ≤ length (read_beats (map (flat_mark down.shape) (parts (shown_raws up c)))) =
      prefix_length (prefix_flat_map (λ (m : Marked). m.transfer.beats) (prefix_filter _ (down_shown c h))) in
      let pieces : length (read_beats (map (flat_mark down.shape) (parts (shown_raws up c)))) ≡ length (pieces_of_all up.shape down.shape (asked_above room up down state run end legal c)) =
      flat_reads down.shape (parts (shown_raws up c)) ∙ ap length (reads_of_all up.shape down.shape (shown_raws up c) ∙ ap (pieces_of_all up.shape down.shape) (all ∙ sym (reads_of_raws up c))) in
      let quiet = quiet_below law target count room up down state may run end legal c h owed_c (omega (arith, given, shown, taken, same, less)) in
      le-leb _ _ (omega (arith, below, pieces, quiet))
    where
      whole : {xs ys : List ℕ} → (p : IsPrefix xs ys) → length ys ≤ length xs → ys ≡ xs
      whole {xs} {ys} p h = by_rest p.rest p.joins
        where
          by_rest : (rest : List ℕ) → xs ++ rest ≡ ys → ys ≡ xs
          by_rest [] e = sym e ∙ append-nil xs
          by_rest (x ∷ rest) e = let size = ap length (sym e) ∙ length-append xs (x ∷ rest) in absurd (omega (arith, size, h))

  -- ---- how it goes on

  -- nothing of the beat above has gone in this cycle or before
  nothing_gone : (c : ℕ) → c < end → takes down c ≡ false → takes up c ≡ false → parts_sent up down c ≡ [] → taken_at down (suc c) ≡ map (flat_mark down.shape) (parts (raws up (suc c)))
  nothing_gone c h not_down not_up none =
      let sent : parts_sent up down (suc c) ≡ [] = ap₂ (λ t d. if t then [] else parts_sent up down c ++ only_if d (raw_at down c)) not_up not_down ∙ append-nil (parts_sent up down c) ∙ none in
      flat_taken down end carried.legal one_down (suc c) h
      ∙ ap (map (flat_mark down.shape)) (raws_below room up down state run end legal (suc c) h ∙ ap (λ l. parts (raws up (suc c)) ++ l) sent ∙ append-nil (parts (raws up (suc c))))

  pub up_taken : (c : ℕ) → c ≤ end → taken_at up c ≡ map (flat_mark up.shape) (raws up c)
  up_taken = flat_taken up end legal one_up

  open_above : (c : ℕ) → c < end → taken_at down (suc c) ≡ map (flat_mark down.shape) (parts (raws up (suc c))) → is_unclosed down c ≡ true → is_unclosed up c ≡ true
  open_above c h same e =
      ap is_last_joined (up_taken (suc c) h) ∙ joined_last up.shape (raws up (suc c))
      ∙ more_down law target up down count may (raws up (suc c)) (sym (joined_last down.shape (parts (raws up (suc c)))) ∙ ap is_last_joined (sym same) ∙ e)

  written_above : (c : ℕ) → c < end → taken_at down (suc c) ≡ map (flat_mark down.shape) (parts (raws up (suc c))) → is_last_write (taken_at down (suc c)) ≡ true → is_last_write (taken_at up (suc c)) ≡ true
  written_above c h same e =
      ap is_last_write (up_taken (suc c) h) ∙ written_last up.shape (raws up (suc c))
      ∙ write_down law target up down count may (raws up (suc c)) (sym (written_last down.shape (parts (raws up (suc c)))) ∙ ap is_last_write (sym same) ∙ e)

  -- what holds a beat back above: a read that waits for other reads
  pub record IsShut (c : ℕ) : Type 0 where
    pub reads : is_raised (up.commands.write c) ≡ false
    pub first : state.place c ≡ 0
    pub some : 0 < state.reads c

  pub shut : (c : ℕ) → c < end → shows up.commands.signals c ≡ true → takes up c ≡ false → shows down.commands.signals c ≡ false → IsShut c
  shut c h shown not_taken not_shown = by_open (opens room up down state c) refl
    where
      none_zero : (n : ℕ) → nat_lt 0 n ≡ false → n ≡ 0
      none_zero n e = let most = ltb-false 0 n e in omega (arith, most)

      closed : opens room up down state c ≡ false → IsShut c
      closed e = by_bits (is_raised (up.commands.write c)) refl (nat_lt 0 (state.place c)) refl e
        where
          by_bits : (w : Bool) → is_raised (up.commands.write c) ≡ w → (p : Bool) → nat_lt 0 (state.place c) ≡ p → w || (nat_lt (state.reads c) room && (p || (nat_eq (state.reads c) 0 || are_same (state.set c) (asked_at up down c)))) ≡ false → IsShut c
          by_bits true f p g k = cc
          by_bits false f true g k = absurd (both_ways (opens room up down state c) e (goes_further room up down state run end legal c h shown (ltb-true 0 (state.place c) g)))
          by_bits false f false g k = record { reads = f; first = none_zero (state.place c) g; some = by_reads (state.reads c) k }
            where
              by_reads : (n : ℕ) → nat_lt n room && (nat_eq n 0 || are_same (state.set c) (asked_at up down c)) ≡ false → 0 < n
              by_reads zero k = let less = lt-ltb 0 room some_room in let bad : true ≡ false = sym (ap (λ b. b && true) less) ∙ k in cc
              by_reads (suc n) k = omega arith

      by_open : (o : Bool) → opens room up down state c ≡ o → IsShut c
      by_open false e = closed e
      by_open true e = by_size (nat_lt 0 (length (split_at up down c))) refl
        where
          by_size : (b : Bool) → nat_lt 0 (length (split_at up down c)) ≡ b → IsShut c
          by_size true some =
              let low = place_low room up down state run end legal c h shown (ltb-true 0 (length (split_at up down c)) some) in
              let there : shows down.commands.signals c ≡ true = run.shown c ∙ ap₂ (λ x y. x && y) (ap₂ (λ x y. x && y) shown e) (lt-ltb (state.place c) (length (split_at up down c)) low) in
              absurd (both_ways (shows down.commands.signals c) not_shown there)
          by_size false none =
              let empty = none_zero (length (split_at up down c)) none in
              let taken : takes up c ≡ true = run.accepts c ∙ ap₂ (λ x n. x && (nat_eq n 0 || (takes down c && nat_eq (suc (state.place c)) (length (split_at up down c))))) (ap₂ (λ x y. x && y) shown e) empty in
              absurd (both_ways (takes up c) not_taken taken)

  none_sent_first : (c : ℕ) → c < end → shows up.commands.signals c ≡ true → state.place c ≡ 0 → parts_sent up down c ≡ []
  none_sent_first c h shown first = (stands room up down state run end legal c h).0 shown ∙ ap (λ n. take n (split_at up down c)) first

  module _ (owed : AnswersAreOwed down end) (joined : JoinsAlike target up end) where
    owed_before : (c : ℕ) → c ≤ end → AnswersAreOwed down c
    owed_before c h k less = owed k (omega (arith, h, less))

    owed_up_down : (c : ℕ) → c < end → IsTrue (is_owed up c) → IsTrue (is_owed down c)
    owed_up_down c h above =
        lt-ltb _ _ (owed_owes law target count room up down state may run end legal (suc c) h (owed_before (suc c) h) (ltb-true (length (words_at up (suc c))) (words_owed up (suc c)) above))

    falls : (c : ℕ) → c < end → IsTrue (has_link_work target up down c) → IsTrue (not (moves_commands up down c)) → IsTrue (not (is_excused up down c)) → owing_rank down (suc c) < owing_rank down c
    falls c h work still must =
        let two = or_parts (takes down c) (takes up c) (by_not (takes down c || takes up c) still) in
        let first = or_parts (is_held down.commands.signals (takes down) c || (is_owed down c && not (is_writing down c))) (may_rest up c) (by_not (is_excused up down c) must) in
        let second = or_parts (is_held down.commands.signals (takes down) c) (is_owed down c && not (is_writing down c)) first.0 in
        by_shown (shows up.commands.signals c) refl two.0 two.1 second.0 second.1 first.1
      where
        up_side : shown_at up (suc c) ≡ taken_at up (suc c) ++ only_if (is_held up.commands.signals (takes up) c) (marked_at up c)
        up_side = shown_is_accepted_and_standing (shows up.commands.signals) (takes up) (marked_at up) end (suc c) (marked_keeps up end legal) h

        rank_is : (b : Bool) → is_owed down c ≡ b → owing_rank down (suc c) ≡ one_if b
        rank_is b e = ap one_if e

        written : (o u w : Bool) → o ≡ true → o && not (u && w) ≡ false → (u ≡ true) × (w ≡ true)
        written true true true a b = (refl, refl)
        written true true false a b = cc
        written true false w a b = cc
        written false u w a b = cc

        by_owed : IsShut c → shows up.commands.signals c ≡ true → takes down c ≡ false → takes up c ≡ false → is_owed down c && not (is_writing down c) ≡ false → (b : Bool) → is_owed down c ≡ b → owing_rank down (suc c) < owing_rank down c
        by_owed closed shown not_down not_up owes false e =
            let less = reads_owe law target count room up down state may run end legal c (omega (arith, h)) (owed_before c (omega (arith, h))) closed.some in
            let now : owing_rank down c ≡ 1 = ap one_if (lt-ltb (length (words_at down c)) (words_owed down c) less) in
            let next = rank_is false e in
            omega (arith, now, next)
        by_owed closed shown not_down not_up owes true e =
            let same = nothing_gone c h not_down not_up (none_sent_first c h shown closed.first) in
            let both = written (is_owed down c) (is_unclosed down c) (is_last_write (taken_at down (suc c))) e owes in
            let held_up : is_held up.commands.signals (takes up) c ≡ true = ap₂ (λ s t. s && not t) shown not_up in
            let reads : is_of_reads (marked_at up c).transfer.kind ≡ true =
            ap (λ (m : Marked). is_of_reads m.transfer.kind) (flat_at up end legal one_up c h shown) ∙ ap (λ w. is_of_reads (if w then Writes else Reads)) closed.reads in
            absurd (read_after_write target up (taken_at up (suc c)) (marked_at up c)
            (subst (λ l. IsTrue (are_joined_alike target up l)) (up_side ∙ ap (λ b. taken_at up (suc c) ++ only_if b (marked_at up c)) held_up) (joined (suc c) h))
            (open_above c h same both.0) (written_above c h same both.1) reads)

        -- what is left open below is left open above, and then it isn't waited for in vain
        left_open : (uu lu ou ud ld od : Bool) → ud ≡ true → (ud ≡ true → uu ≡ true) → (ld ≡ true → lu ≡ true) → (ou ≡ true → od ≡ true) → od && not (ud && ld) ≡ false → uu && true && (lu || not ou) ≡ false → ⊥
        left_open uu lu ou false ld od e open_up write_up owed_down owes rest = cc
        left_open false lu ou true ld od e open_up write_up owed_down owes rest = let bad = open_up refl in cc
        left_open true true ou true ld od e open_up write_up owed_down owes rest = cc
        left_open true false false true ld od e open_up write_up owed_down owes rest = cc
        left_open true false true true true od e open_up write_up owed_down owes rest = let bad = write_up refl in cc
        left_open true false true true false true e open_up write_up owed_down owes rest = cc
        left_open true false true true false false e open_up write_up owed_down owes rest = let bad = owed_down refl in cc

        by_shown : (s : Bool) → shows up.commands.signals c ≡ s → takes down c ≡ false → takes up c ≡ false → is_held down.commands.signals (takes down) c ≡ false → is_owed down c && not (is_writing down c) ≡ false → may_rest up c ≡ false →
            owing_rank down (suc c) < owing_rank down c
        by_shown true e not_down not_up held owes rest = by_below (shows down.commands.signals c) refl
          where
            by_below : (d : Bool) → shows down.commands.signals c ≡ d → owing_rank down (suc c) < owing_rank down c
            by_below true d = absurd (both_ways (is_held down.commands.signals (takes down) c) held (ap₂ (λ s t. s && not t) d not_down))
            by_below false d = by_owed (shut c h e not_up d) e not_down not_up owes (is_owed down c) refl
        by_shown false e not_down not_up held owes rest =
            let none = ((stands room up down state run end legal c h).1 e).0 in
            let same = nothing_gone c h not_down not_up none in
            let held_up : is_held up.commands.signals (takes up) c ≡ false = ap (λ s. s && not (takes up c)) e in
            let all : shown_at up (suc c) ≡ taken_at up (suc c) = up_side ∙ ap (λ b. taken_at up (suc c) ++ only_if b (marked_at up c)) held_up ∙ append-nil (taken_at up (suc c)) in
            let reached = reached_all (sizes target up.shape (taken_at up (suc c))) (length (operations_among target down.shape (taken_at down (suc c)))) (carried.held (suc c) h) in
            let sum = total_sizes target up.shape (taken_at up (suc c)) in
            let shown = ap (λ l. length (operations_among target up.shape l)) all in
            absurd (four_of (is_held up.commands.signals (takes up) c)
            (nat_lt (length (operations_among target down.shape (taken_at down (suc c)))) (length (operations_among target up.shape (shown_at up (suc c))))) (is_unclosed down c) (is_held down.commands.signals (takes down) c) work
            (λ w. both_ways (is_held up.commands.signals (takes up) c) held_up w)
            (λ w. (let less = ltb-true (length (operations_among target down.shape (taken_at down (suc c)))) (length (operations_among target up.shape (shown_at up (suc c)))) w in omega (arith, less, reached, sum, shown)))
            (λ w. left_open (is_unclosed up c) (is_last_write (taken_at up (suc c))) (is_owed up c) (is_unclosed down c) (is_last_write (taken_at down (suc c))) (is_owed down c) w
            (λ u. open_above c h same u) (λ l. written_above c h same l) (λ o. owed_up_down c h o) owes
            (ap (λ s. is_unclosed up c && not s && (is_last_write (taken_at up (suc c)) || not (is_owed up c))) (sym e) ∙ rest))
            (λ w. both_ways (is_held down.commands.signals (takes down) c) held w))

    pub split_goes_on : GoesOn target (record { largest = 1; hold = 0 }) up down end
    split_goes_on = record {
      rank = owing_rank down;
      going = record {
        legal = legal;
        legal_down = carried.legal;
        falls = words_move up down (record {
          bounded = λ c h. small (nat_lt (length (words_at down c)) (words_owed down c));
          falls = falls;
          stays = λ c h work still. still_rank down c (or_parts (takes down c) (takes up c) (by_not (takes down c || takes up c) still)).0;
        });
        words = λ c h above. or_right _ (is_owed down c) (owed_up_down c (omega (arith, h)) above);
      };
      holds = holds_nothing_back target up down end carried.held;
    }
      where
        small : (b : Bool) → one_if b ≤ 1
        small true = le_refl 1
        small false = omega arith

-- ---- the whole

module _ (law : HasPieces) (carries : Carries) (target : Target) (count room : ℕ) (up down : Port) (state : SplitState) (may : MaySplit target up.shape down.shape count) (some_room : 0 < room) (run : RunsAsSplit room up down state) (end : ℕ) where
  split_row : KeepsRow target 0 up down end
  split_row = record {
    carries = record {
      commands = λ c h legal owed. carried law carries target count room up down state may some_room run c legal;
      answers = λ c h legal owed. brings_back law target count room up down state may run c legal owed;
    };
    codes = λ c h legal owed. greatest law target count room up down state may run c legal c (le_refl c) owed;
    hands_on = λ c h legal owed. split_hands_on room up down state run c legal;
  }

  pub split_is_link : IsLink (split_form target) up down end
  split_is_link = record {
    row = split_row;
    words = λ is. absurd (no_true is);
    lanes = λ c h legal owed has. split_lanes law carries target count room up down state may some_room run c legal (has refl);
    joins = λ c h legal owed alike k less. split_joins law carries target count room up down state may some_room run c legal k less (alike k less);
    quiet = λ c h legal owed answered. split_quiet law carries target count room up down state may some_room run c legal owed c (le_refl c) answered;
    goes_on = λ legal owed alike. further (split_goes_on law carries target count room up down state may some_room run end legal owed alike) at_end;
  }
