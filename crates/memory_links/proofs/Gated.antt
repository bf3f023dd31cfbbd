-- A link that hands each transfer on in its cycle, alike, and holds reads back at most while a word is owed.
use Rattle.std.proofs.Common.{ℕ, zero, suc, ◌<◌, ◌≤◌, ◌≡◌, ◌+◌, Bool, true, false, not, ◌&&◌, ◌||◌, List, [], ◌∷◌, ◌++◌, arith, refl, sym, ap, ap₂, subst, ◌∙◌, length, map, nat_lt, nat_eq, IsTrue, IsFalse, append-nil, append_assoc, length-append, le_refl, le_of_eq, le-leb, tests}
use Rattle.std.specs.List.{list_all}
use Rattle.std.proofs.lemmas.Bool.{and_parts, or_right, or_parts, both_ways, leb-true}
use Rattle.histories.specs.History.{only_if, is_raised, IsPrefix, total, AreWithin}
use Rattle.histories.specs.Laws.{prefix_flat_map, prefix_filter, prefix_length, prefix_map}
use Rattle.memory_runs.specs.Views.{Shape}
use Rattle.memory_runs.specs.Operations.{pieces}
use Rattle.memory_runs.specs.Commands.{shows, is_held, is_of_reads}
use Rattle.memory_machines.specs.Link.{Target, Port, Marked, CarriesCommands, AreLegalAt, takes, marked_at, taken_at, shown_at, operations_in, operations_among, items_from, items_of, acted_after, items, closes, sizes, read_beats, words_at, words_owed, is_last_joined}
use Rattle.memory_machines.specs.Lines.{HasLanes}
use Rattle.memory_machines.specs.PartRanks.{Accepted, held_back, HoldsBack, JoinsAlike, are_joined_alike, goes_on_alike, is_same}
use Rattle.memory_machines.specs.Rank.{moves_commands, is_excused, is_owed, is_unclosed, is_writing, is_last_write, may_rest}
use Rattle.memory_machines.specs.SideLaws.{all_reached, prefix_within}
use Rattle.memory_machines.specs.Straight.{are_answered}
use Rattle.memory_links.proofs.Words.{words_move}
use Rattle.memory_links.specs.Going.{GoesOn, has_link_work}
use Rattle.memory_links.proofs.Alike.{IsAlike, AllAlike, have_operations, Fronts, shown_fronts, taken_alike, shown_up, alike_operations, alike_items, alike_sizes, alike_tagged, alike_reads, alike_lanes, alike_last_joined, alike_last_write, alike_joins}
use Rattle.memory_links.proofs.Stages.{all_front, alike_prefix, held_back_past, accepted_of, total_accepted}

items_front : (target : Target) (shape : Shape) (acted : Bool) (xs rest : List Marked) → IsPrefix (items_from target shape acted xs) (items_from target shape acted (xs ++ rest))
items_front target shape acted [] rest = record { rest = items_from target shape acted rest; joins = refl }
items_front target shape acted (m ∷ xs) rest =
    let later = items_front target shape (acted_after target shape acted m) xs rest in
    record { rest = later.rest; joins = append_assoc (items_of target shape acted m) (items_from target shape (acted_after target shape acted m) xs) later.rest ∙ ap (λ l. items_of target shape acted m ++ l) later.joins }

pub items_prefix : (target : Target) (shape : Shape) (acted : Bool) {xs ys : List Marked} → IsPrefix xs ys → IsPrefix (items_from target shape acted xs) (items_from target shape acted ys)
items_prefix target shape acted {xs} p = subst (λ l. IsPrefix (items_from target shape acted xs) (items_from target shape acted l)) p.joins (items_front target shape acted xs p.rest)

pub total_sizes : (target : Target) (shape : Shape) (transfers : List Marked) → total (sizes target shape transfers) ≡ length (operations_among target shape transfers)
total_sizes target shape [] = refl
total_sizes target shape (m ∷ later) = ap (λ n. length (operations_in target shape m) + n) (total_sizes target shape later) ∙ sym (length-append (operations_in target shape m) _)

no_true : IsTrue false → ⊥
no_true h = cc

-- a read doesn't go on with a write
not_joined : (ends more tag reads later x rest : Bool) → IsTrue ((ends && not more || (tag && is_same reads later && x)) && rest) → more ≡ true → not reads ≡ true → later ≡ true → ⊥
not_joined ends false tag reads later x rest h m r l = cc
not_joined ends true tag true later x rest h m r l = cc
not_joined ends true tag false false x rest h m r l = cc
not_joined true true true false true x rest h m r l = cc
not_joined true true false false true x rest h m r l = cc
not_joined false true true false true x rest h m r l = cc
not_joined false true false false true x rest h m r l = cc

pub read_after_write : (target : Target) (port : Port) (ms : List Marked) (n : Marked) → IsTrue (are_joined_alike target port (ms ++ n ∷ [])) → IsTrue (is_last_joined ms) → IsTrue (is_last_write ms) → is_of_reads n.transfer.kind ≡ true → ⊥
read_after_write target port [] n h joined write read = no_true joined
read_after_write target port (m ∷ []) n h joined write read =
    not_joined m.transfer.ends m.more _ (is_of_reads m.transfer.kind) (is_of_reads n.transfer.kind) _ true h joined write read
read_after_write target port (m ∷ k ∷ ms) n h joined write read =
    read_after_write target port (k ∷ ms) n (and_parts (closes m || goes_on_alike target port m k) (are_joined_alike target port (k ∷ ms ++ n ∷ [])) h).1 joined write read

-- what is left open isn't excused only while its words are owed above and not below
pub open_rests : (op lw above below : Bool) → IsTrue op → above ≡ below → IsFalse (below && not (op && lw)) → IsFalse (op && true && (lw || not above)) → ⊥
open_rests true true true below w e f g = cc
open_rests true true false below w e f g = cc
open_rests true false true true w e f g = cc
open_rests true false true false w e f g = cc
open_rests true false false below w e f g = cc
open_rests false lw above below w e f g = no_true w

written : (o u w : Bool) → IsTrue o → IsFalse (o && not (u && w)) → IsTrue u × IsTrue w
written true true true a b = (refl, refl)
written true true false a b = cc
written true false w a b = cc
written false u w a b = absurd (no_true a)

pub four_of : (a b c d : Bool) → IsTrue ((a || b || c) || d) → (IsTrue a → ⊥) → (IsTrue b → ⊥) → (IsTrue c → ⊥) → (IsTrue d → ⊥) → ⊥
four_of true b c d h fa fb fc fd = fa refl
four_of false true c d h fa fb fc fd = fb refl
four_of false false true d h fa fb fc fd = fc refl
four_of false false false true h fa fb fc fd = fd refl
four_of false false false false h fa fb fc fd = no_true h

pub never_less : (n : ℕ) → IsTrue (nat_lt n n) → ⊥
never_less n h = let bad : n < n = grind (arith, tests) in omega (arith, bad)

pub by_not : (b : Bool) → IsTrue (not b) → IsFalse b
by_not true h = absurd (no_true h)
by_not false h = refl

module _ (target : Target) (each : Bool) (up down : Port) (lets : ℕ → Bool) (shows_same : (c : ℕ) → shows down.commands.signals c ≡ shows up.commands.signals c && lets c)
    (takes_same : (c : ℕ) → takes down c ≡ takes up c) (end : ℕ) (alike : (c : ℕ) → c < end → shows up.commands.signals c ≡ true → IsAlike target up.shape down.shape each (marked_at up c) (marked_at down c))
    (legal_up : AreLegalAt up end) (legal_down : AreLegalAt down end) where
  abbrev fronts : (k : ℕ) → k ≤ end → Fronts target each up down lets shows_same takes_same end alike legal_up legal_down k
  fronts k h = shown_fronts target each up down lets shows_same takes_same end alike legal_up legal_down k h

  taken : (k : ℕ) → k ≤ end → AllAlike target up.shape down.shape each (taken_at up k) (taken_at down k)
  taken k h = taken_alike target each up down lets shows_same takes_same end alike legal_up legal_down k h

  pub gate_carries : pieces up.shape down.shape ≡ 1 → CarriesCommands target 0 up down end
  gate_carries one = record {
    in_order = λ k h. let f = fronts k h in subst (λ l. IsPrefix l (items target up k)) (sym (alike_items target up.shape down.shape each false f.front (shown_at down k) f.same)) (items_prefix target up.shape false f.is_front);
    beats = λ k tag h.
        let f = fronts k h in
        let same = alike_tagged target up.shape down.shape each tag f.front (shown_at down k) f.same in
        let fewer = prefix_length (prefix_flat_map (λ (m : Marked). m.transfer.beats) (prefix_filter (λ (m : Marked). nat_eq m.tag tag) f.is_front)) in
        rw one (omega (arith, same, fewer));
    legal = legal_down;
    held = λ k h.
        let same = ap length (alike_operations target up.shape down.shape each (taken_at up k) (taken_at down k) (taken k h)) in
        let sum = total_sizes target up.shape (taken_at up k) in
        le_of_eq (all_reached (sizes target up.shape (taken_at up k)) (length (operations_among target down.shape (taken_at down k))) (omega (arith, same, sum)));
    whole = λ k h.
        let f = fronts k h in
        subst (λ l. AreWithin l (sizes target up.shape (shown_at up k))) (sym (alike_sizes target up.shape down.shape each f.front (shown_at down k) f.same))
        (prefix_within (prefix_map (λ (m : Marked). length (operations_in target up.shape m)) f.is_front));
  }

  pub gate_joins : (k : ℕ) → k ≤ end → IsTrue (are_joined_alike target up (shown_at up k)) → IsTrue (are_joined_alike target down (shown_at down k))
  gate_joins k h joined = let f = fronts k h in alike_joins target up.shape down.shape each up down refl refl f.front (shown_at down k) f.same ∙ alike_prefix target up f.is_front joined

  pub gate_lanes : IsTrue each → HasLanes target up end → HasLanes target down end
  gate_lanes is has k h = by_enables target.shape.has_enables (has k h)
    where
      by_enables : (b : Bool) → IsTrue (b || list_all (have_operations target up.shape) (shown_at up k)) → IsTrue (b || list_all (have_operations target down.shape) (shown_at down k))
      by_enables true all = refl
      by_enables false all =
          let f = fronts k h in
          alike_lanes target up.shape down.shape each is f.front (shown_at down k) f.same
          ∙ all_front (have_operations target up.shape) f.front f.is_front.rest (subst (λ l. IsTrue (list_all (have_operations target up.shape) l)) (sym f.is_front.joins) all)

  -- `quiet`: no word is given above around the cycle
  module _ (quiet : ℕ → Bool) (shut : (c : ℕ) → c < end → IsTrue (quiet c) → shows up.commands.signals c ≡ true → lets c ≡ false → (is_of_reads (marked_at up c).transfer.kind ≡ true) × IsTrue (is_owed down c))
      (owed_same : (c : ℕ) → c < end → IsTrue (quiet c) → is_owed up c ≡ is_owed down c) (joined : JoinsAlike target up end) where
    pub never : (c : ℕ) → c < end → IsTrue (quiet c) → IsTrue (has_link_work target up down c) → IsTrue (not (moves_commands up down c)) → IsTrue (not (is_excused up down c)) → ⊥
    never c h silent work still must =
        let two = or_parts (takes down c) (takes up c) (by_not (takes down c || takes up c) still) in
        let first = or_parts (is_held down.commands.signals (takes down) c || (is_owed down c && not (is_writing down c))) (may_rest up c) (by_not (is_excused up down c) must) in
        let second = or_parts (is_held down.commands.signals (takes down) c) (is_owed down c && not (is_writing down c)) first.0 in
        by_shown (shows up.commands.signals c) refl two.1 second.0 second.1 first.1
      where
        unclosed : is_unclosed down c ≡ is_unclosed up c
        unclosed = alike_last_joined target up.shape down.shape each (taken_at up (suc c)) (taken_at down (suc c)) (taken (suc c) h)

        writes : is_last_write (taken_at down (suc c)) ≡ is_last_write (taken_at up (suc c))
        writes = alike_last_write target up.shape down.shape each (taken_at up (suc c)) (taken_at down (suc c)) (taken (suc c) h)

        up_side : shown_at up (suc c) ≡ taken_at up (suc c) ++ only_if (is_held up.commands.signals (takes up) c) (marked_at up c)
        up_side = shown_up target each up down lets shows_same takes_same end alike legal_up legal_down (suc c) h

        by_let : (l : Bool) → lets c ≡ l → shows up.commands.signals c ≡ true → IsFalse (takes up c) → IsFalse (is_held down.commands.signals (takes down) c) → IsFalse (is_owed down c && not (is_writing down c)) → ⊥
        by_let true e shown taken held owed =
            let there : is_held down.commands.signals (takes down) c ≡ true = ap₂ (λ s t. s && not t) (shows_same c ∙ ap₂ (λ s l. s && l) shown e) (takes_same c ∙ taken) in
            both_ways (is_held down.commands.signals (takes down) c) held there
        by_let false e shown taken held owed =
            let kept = shut c h silent shown e in
            let open_write = written (is_owed down c) (is_unclosed down c) (is_last_write (taken_at down (suc c))) kept.1 owed in
            let held_up : is_held up.commands.signals (takes up) c ≡ true = ap₂ (λ s t. s && not t) shown taken in
            read_after_write target up (taken_at up (suc c)) (marked_at up c)
            (subst (λ l. IsTrue (are_joined_alike target up l)) (up_side ∙ ap (λ b. taken_at up (suc c) ++ only_if b (marked_at up c)) held_up) (joined (suc c) h))
            (sym unclosed ∙ open_write.0) (sym writes ∙ open_write.1) kept.0

        by_shown : (s : Bool) → shows up.commands.signals c ≡ s → IsFalse (takes up c) → IsFalse (is_held down.commands.signals (takes down) c) → IsFalse (is_owed down c && not (is_writing down c)) → IsFalse (may_rest up c) → ⊥
        by_shown true e not_taken held owed rest = by_let (lets c) refl e not_taken held owed
        by_shown false e not_taken held owed rest =
            let held_up : is_held up.commands.signals (takes up) c ≡ false = ap (λ s. s && not (takes up c)) e in
            let all : shown_at up (suc c) ≡ taken_at up (suc c) = up_side ∙ ap (λ b. taken_at up (suc c) ++ only_if b (marked_at up c)) held_up ∙ append-nil (taken_at up (suc c)) in
            let ops = ap length (alike_operations target up.shape down.shape each (taken_at up (suc c)) (taken_at down (suc c)) (taken (suc c) h)) in
            four_of (is_held up.commands.signals (takes up) c)
            (nat_lt (length (operations_among target down.shape (taken_at down (suc c)))) (length (operations_among target up.shape (shown_at up (suc c))))) (is_unclosed down c) (is_held down.commands.signals (takes down) c) work
            (λ w. both_ways (is_held up.commands.signals (takes up) c) held_up w)
            (λ w. never_less (length (operations_among target up.shape (taken_at up (suc c)))) (subst (λ l. IsTrue (nat_lt l (length (operations_among target up.shape (taken_at up (suc c)))))) ops
            (subst (λ l. IsTrue (nat_lt (length (operations_among target down.shape (taken_at down (suc c)))) (length (operations_among target up.shape l)))) all w)))
            (λ w. open_rests (is_unclosed up c) (is_last_write (taken_at up (suc c))) (is_owed up c) (is_owed down c) (sym unclosed ∙ w) (owed_same c h silent)
            (ap₂ (λ u l. is_owed down c && not (u && l)) (sym unclosed) (sym writes) ∙ owed)
            (ap (λ s. is_unclosed up c && not s && (is_last_write (taken_at up (suc c)) || not (is_owed up c))) (sym e) ∙ rest))
            (λ w. both_ways (is_held down.commands.signals (takes down) c) held w)

  pub gate_holds : HoldsBack 0 target up down end
  gate_holds c h =
      let f = accepted_of target up.shape in
      let same = ap length (alike_operations target up.shape down.shape each (taken_at up c) (taken_at down c) (taken c h)) in
      let past = held_back_past (map f (taken_at up c)) [] in
      let sum = total_accepted target up.shape (taken_at up c) ∙ sym same in
      subst (λ n. held_back (map f (taken_at up c)) n ≤ 0) sum (subst (λ l. held_back l (total (map (λ (a : Accepted). a.size) (map f (taken_at up c)))) ≤ 0) (append-nil (map f (taken_at up c))) past)

  module _ (is : IsTrue each) (valid_same : (c : ℕ) → is_raised (up.answers.valid c) ≡ is_raised (down.answers.valid c)) where
    pub word_counts : (c : ℕ) → length (words_at up c) ≡ length (words_at down c)
    word_counts zero = refl
    word_counts (suc c) = length-append (words_at up c) _ ∙ ap₂ (λ a b. a + b) (word_counts c) (one _ _ (is_raised (up.answers.valid c)) (is_raised (down.answers.valid c)) (valid_same c)) ∙ sym (length-append (words_at down c) _)
      where
        one : {A B : Type 0} (x : A) (y : B) (b d : Bool) → b ≡ d → length (only_if b x) ≡ length (only_if d y)
        one x y true true e = refl
        one x y false false e = refl
        one x y true false e = cc
        one x y false true e = cc

    pub owed_counts : (c : ℕ) → c ≤ end → words_owed up c ≡ words_owed down c
    owed_counts c h = sym (alike_reads target up.shape down.shape each is (taken_at up c) (taken_at down c) (taken c h))

    pub owed_same : (c : ℕ) → c < end → is_owed up c ≡ is_owed down c
    owed_same c h = ap₂ (λ a b. nat_lt a b) (word_counts (suc c)) (owed_counts (suc c) h)

    pub gate_quiet : (c : ℕ) → c ≤ end → IsTrue (are_answered up (shown_at up c) c) → IsTrue (are_answered down (shown_at down c) c)
    gate_quiet c h answered =
        let f = fronts c h in
        let same = alike_reads target up.shape down.shape each is f.front (shown_at down c) f.same in
        let fewer = prefix_length (prefix_flat_map (λ (m : Marked). m.transfer.beats) (prefix_filter (λ (m : Marked). is_of_reads m.transfer.kind) f.is_front)) in
        let given = leb-true (length (read_beats (shown_at up c))) (length (words_at up c)) answered in
        let words = word_counts c in
        le-leb _ _ (omega (arith, same, fewer, given, words))

    module _ (shut : (c : ℕ) → c < end → shows up.commands.signals c ≡ true → lets c ≡ false → (is_of_reads (marked_at up c).transfer.kind ≡ true) × IsTrue (is_owed down c)) (joined : JoinsAlike target up end) where
      pub gate_goes_on : GoesOn target (record { largest = 0; hold = 0 }) up down end
      gate_goes_on = record {
        rank = λ c. 0;
        going = record {
          legal = legal_up;
          legal_down = legal_down;
          falls = words_move up down (record {
            bounded = λ c h. le_refl 0;
            falls = λ c h work still must. absurd (never (λ d. true) (λ d low silent shown e. shut d low shown e) (λ d low silent. owed_same d low) joined c h refl work still must);
            stays = λ c h work still. le_refl 0;
          });
          words = λ c h owed. or_right _ (is_owed down c) (sym (owed_same c (omega (arith, h))) ∙ owed);
        };
        holds = gate_holds;
      }
