-- A stage with a queue is a link.
use Rattle.std.proofs.Common.{ℕ, zero, suc, ◌<◌, ◌≤◌, ◌≡◌, ◌+◌, ◌-◌, [], ◌∷◌, ◌++◌, List, Bool, true, false, IsTrue, arith, refl, sym, ap, ap₂, ◌∙◌, append_assoc, append-nil, subst, length, drop, take, zip, flat_map, map, Some, slice_get, MatchOption, nat_lt, if◌then◌else◌, length-append, le_of_eq, le_refl, nat_eq}
use Rattle.std.proofs.lemmas.List.{map-append, length-map, take-append-le}
use Rattle.std.proofs.lemmas.Bool.{le-ltb}
use Rattle.std.proofs.Math.Seq.{drop-append_seam}
use Rattle.histories.specs.Laws.{prefix_flat_map, prefix_filter, prefix_trans, before_extends, prefix_length, prefix_map, unreached_length}
use Rattle.memory_machines.proofs.Wire.{own_code, total_sizes, asks_of, asked_taken}
use Rattle.memory_runs.specs.Laws.{same_pieces}
use Rattle.memory_machines.proofs.ChainAnswers.{answers_extend}
use Rattle.memory_machines.proofs.Stage.{prefix_behind, shown_front, stage_legal, taken_split}
use Rattle.histories.specs.History.{only_if, is_raised, IsPrefix, unreached, total, AreWithin}
use Rattle.memory_runs.specs.Views.{Shape}
use Rattle.memory_machines.specs.Paths.{CommandView, AnswerView}
use Rattle.memory_runs.specs.Commands.{Burst, words_before}
use Rattle.memory_runs.specs.Operations.{Beat, filled_lanes}
use Rattle.memory_runs.specs.Legal.{Word}
use Rattle.memory_runs.specs.Order.{Answer, HoldsAnswers, greatest_code}
use Rattle.memory_machines.specs.Link.{Target, Marked, KeepsLinkLaw, AreLegalAt, AnswersAreOwed, takes, shown_at, taken_at, operations_in, operations_among, read_beats, words_at, answers_at, bytes_in, reads_of, beat_operations, IsAnswered, HasGreatestCode, sizes, held_by, items_from, items_of, acted_after}
use Rattle.memory_machines.specs.Machines.{Raw, raw_at, raws, idle, burst_past, marked, burst_of, IsStageRun, port_of}
use Rattle.memory_machines.specs.SideLaws.{own_bytes, taken_is_shown, zip_push, zip_length, same_counts, prefix_get, prefix_take, prefix_within}

items_front : (target : Target) (shape : Shape) (acted : Bool) (xs rest : List Marked) → IsPrefix (items_from target shape acted xs) (items_from target shape acted (xs ++ rest))
items_front target shape acted [] rest = record { rest = items_from target shape acted rest; joins = refl }
items_front target shape acted (m ∷ xs) rest = prefix_behind (items_of target shape acted m) (items_front target shape (acted_after target shape acted m) xs rest)

pub items_prefix : (target : Target) (shape : Shape) (acted : Bool) {xs ys : List Marked} → IsPrefix xs ys → IsPrefix (items_from target shape acted xs) (items_from target shape acted ys)
items_prefix target shape acted {xs} p = subst (λ l. IsPrefix (items_from target shape acted xs) (items_from target shape acted l)) p.joins (items_front target shape acted xs p.rest)

pub unreached_past : (xs ys : List ℕ) → unreached (xs ++ ys) (total xs) ≤ length ys
unreached_past [] ys = unreached_length ys 0
unreached_past (x ∷ xs) ys =
    let rest = unreached_past xs ys in
    let left : (x + total xs) - x ≡ total xs = omega arith in
    let past : nat_lt (x + total xs) x ≡ false = le-ltb (x + total xs) x (omega arith) in
    rw (left, past) (omega (arith, rest))

pub transfers_within : (target : Target) (shape : Shape) {xs ys : List Marked} → IsPrefix xs ys → AreWithin (sizes target shape xs) (sizes target shape ys)
transfers_within target shape p = prefix_within (prefix_map (λ (m : Marked). length (operations_in target shape m)) p)

length_marked : (shape : Shape) (burst : Burst) (xs : List Raw) → length (marked shape burst xs) ≡ length xs
length_marked shape burst [] = refl
length_marked shape burst (x ∷ xs) = ap (λ n. suc n) (length_marked shape (burst_past shape burst x) xs)

length_drop : {A : Type 0} (b : Bool) (xs : List A) → length (drop (if b then 1 else 0) xs) ≤ length xs
length_drop true [] = le_refl 0
length_drop true (x ∷ xs) = omega arith
length_drop false xs = le_refl _

bounded_step : (depth : ℕ) (b taken : Bool) (q : List Raw) (x : Raw) → length q ≤ depth → (taken ≡ true → length q < depth) → length (drop (if b then 1 else 0) q ++ only_if taken x) ≤ depth
bounded_step depth b true q x h room =
    let sum = length-append (drop (if b then 1 else 0) q) (x ∷ []) in
    let few = length_drop b q in
    let less = room refl in
    omega (arith, sum, few, less)
bounded_step depth b false q x h room = rw append-nil (let few = length_drop b q in omega (arith, few))

-- a word that its beat's lanes are answered by, before others
stage_word : (target : Target) (shape : Shape) (all now : List Beat) (ws : List Word) (w : Word) (answers rest : List Answer) (x : Beat) →
    answers ≡ flat_map (λ p. bytes_in target shape p.0 p.1) (zip now (ws ++ w ∷ [])) ++ rest →
    slice_get all (length ws) ≡ Some x → slice_get now (length ws) ≡ Some x → take (length ws) all ≡ take (length ws) now →
    MatchOption (slice_get all (length ws)) ⊥ (λ beat.
    HoldsAnswers (filled_lanes shape target.shape beat.enables) (drop (reads_of target shape (take (length ws) all)) answers) w
    × HasGreatestCode (filled_lanes shape target.shape beat.enables) (drop (reads_of target shape (take (length ws) all)) answers) w)
stage_word target shape all now ws w answers rest x is got_all got_now same =
    let earlier = flat_map (λ (p : Beat × Word). bytes_in target shape p.0 p.1) (zip now ws) in
    let pushed = zip_push (λ (p : Beat × Word). bytes_in target shape p.0 p.1) now ws w x got_now in
    let counts = zip_length (λ (p : Beat × Word). bytes_in target shape p.0 p.1) (beat_operations target shape)
    (λ x w. length-map (filled_lanes shape target.shape x.enables) _ ∙ sym (length-map (filled_lanes shape target.shape x.enables) _)) now ws in
    let total : reads_of target shape (take (length ws) all) ≡ length earlier = ap (λ l. reads_of target shape l) same ∙ sym counts in
    let lanes = filled_lanes shape target.shape x.enables in
    let bytes = bytes_in target shape x w in
    let whole : answers ≡ earlier ++ (bytes ++ rest) = is ∙ ap (λ l. l ++ rest) pushed ∙ append_assoc earlier bytes rest in
    let own : drop (reads_of target shape (take (length ws) all)) answers ≡ bytes ++ rest = ap₂ (λ n l. drop n l) total whole ∙ drop-append_seam earlier (bytes ++ rest) in
    let enough : length lanes ≤ length bytes = le_of_eq (sym (length-map lanes _)) in
    let front : take (length lanes) (bytes ++ rest) ≡ take (length lanes) bytes = take-append-le (length lanes) bytes rest enough in
    let sum = length-append bytes rest in
    let holds : HoldsAnswers lanes (bytes ++ rest) w = record { enough = omega (arith, enough, sum); bytes = own_bytes w lanes ∙ ap (map (λ (a : Answer). a.byte)) (sym front) } in
    let code : HasGreatestCode lanes (bytes ++ rest) w = λ some. own_code w lanes some ∙ ap greatest_code (sym front) in
    subst (λ o. MatchOption o ⊥ (λ beat.
    HoldsAnswers (filled_lanes shape target.shape beat.enables) (drop (reads_of target shape (take (length ws) all)) answers) w
    × HasGreatestCode (filled_lanes shape target.shape beat.enables) (drop (reads_of target shape (take (length ws) all)) answers) w))
    (sym got_all)
    (subst (λ l. HoldsAnswers lanes l w × HasGreatestCode lanes l w) (sym own) (holds, code))

module _ (depth : ℕ) (shape : Shape) (uc dc : CommandView) (ua da : AnswerView) (queue : ℕ → List Raw) (run : IsStageRun depth (port_of shape uc ua) (port_of shape dc da) queue) where
  bounded : (c : ℕ) → length (queue c) ≤ depth
  bounded zero = rw run.begins (omega arith)
  bounded (suc c) = subst (λ q. length q ≤ depth) (sym (run.next c)) (bounded_step depth (takes (port_of shape dc da) c) (takes (port_of shape uc ua) c) (queue c) (raw_at (port_of shape uc ua) c) (bounded c) (run.room c))

  held : (target : Target) (k : ℕ) → held_by target (port_of shape uc ua) (port_of shape dc da) k ≤ depth
  held target k =
      let q = marked shape (burst_of shape idle (raws (port_of shape dc da) k)) (queue k) in
      let split : sizes target shape (taken_at (port_of shape uc ua) k) ≡ sizes target shape (taken_at (port_of shape dc da) k) ++ sizes target shape q =
      ap (sizes target shape) (taken_split depth shape uc dc ua da queue run k) ∙ map-append (λ (m : Marked). length (operations_in target shape m)) (taken_at (port_of shape dc da) k) q in
      let past = unreached_past (sizes target shape (taken_at (port_of shape dc da) k)) (sizes target shape q) in
      let few : length (sizes target shape q) ≡ length (queue k) = length-map q _ ∙ length_marked shape _ (queue k) in
      let bound = bounded k in
      let all : unreached (sizes target shape (taken_at (port_of shape uc ua) k)) (length (operations_among target shape (taken_at (port_of shape dc da) k))) ≤ length (sizes target shape q) =
      subst (λ l. unreached l (length (operations_among target shape (taken_at (port_of shape dc da) k))) ≤ length (sizes target shape q)) (sym split)
      (subst (λ n. unreached (sizes target shape (taken_at (port_of shape dc da) k) ++ sizes target shape q) n ≤ length (sizes target shape q)) (total_sizes target shape (taken_at (port_of shape dc da) k)) past) in
      omega (arith, all, few, bound)

  -- the words are those below, one cycle later
  pub words_later : (c : ℕ) → words_at (port_of shape uc ua) (suc c) ≡ words_at (port_of shape dc da) c
  words_later zero = rw run.quiet refl
  words_later (suc c) =
      ap₂ (λ xs ys. xs ++ ys) (words_later c)
      (ap₂ (λ v w. only_if (is_raised v) w) (run.valid c) (ap₂ (λ w k. record { word = w; code = k }) (run.word c) (run.code c)))

  module _ (target : Target) (end : ℕ) (legal : AreLegalAt (port_of shape uc ua) end) where
    above : (k : ℕ) → k ≤ end → IsPrefix (shown_at (port_of shape dc da) k) (shown_at (port_of shape uc ua) k)
    above k h = prefix_trans (shown_front depth shape uc dc ua da queue run end legal k h) (taken_is_shown (port_of shape uc ua) end k legal h)

    taken_above : (k : ℕ) → IsPrefix (taken_at (port_of shape dc da) k) (taken_at (port_of shape uc ua) k)
    taken_above k = record { rest = marked shape (burst_of shape idle (raws (port_of shape dc da) k)) (queue k); joins = sym (taken_split depth shape uc dc ua da queue run k) }

    owed_there : AnswersAreOwed (port_of shape dc da) end → AnswersAreOwed (port_of shape uc ua) end
    owed_there owed zero h = rw run.quiet (omega arith)
    owed_there owed (suc j) h =
        let counts : words_before ua.valid (suc (suc j)) ≡ length (words_at (port_of shape uc ua) (suc (suc j))) = same_counts (λ c. is_raised (ua.valid c)) (λ c. c) (λ c. record { word = ua.word c; code = ua.code c }) (suc (suc j)) in
        let there : words_before da.valid (suc j) ≡ length (words_at (port_of shape dc da) (suc j)) = same_counts (λ c. is_raised (da.valid c)) (λ c. c) (λ c. record { word = da.word c; code = da.code c }) (suc j) in
        let later = ap length (words_later (suc j)) in
        let asked = owed j (omega arith) in
        let grows : length (read_beats (taken_at (port_of shape dc da) j)) ≤ length (read_beats (taken_at (port_of shape uc ua) (suc j))) =
        prefix_length (prefix_flat_map _ (prefix_filter _ (prefix_trans (taken_above j) (before_extends _ j)))) in
        omega (arith, counts, there, later, asked, grows)

    answered : AnswersAreOwed (port_of shape dc da) end → (c : ℕ) → c < end → IsTrue (is_raised (ua.valid c)) → IsAnswered target (port_of shape uc ua) (port_of shape dc da) (length (words_at (port_of shape uc ua) c)) c
    answered owed zero h valid = let quiet = run.quiet in cc
    answered owed (suc j) h valid =
        let valid_there : IsTrue (is_raised (da.valid j)) = ap is_raised (sym (run.valid j)) ∙ valid in
        let asks = asks_of (port_of shape dc da) end j owed (omega arith) valid_there in
        let w : Word = record { word = da.word j; code = da.code j } in
        let ws = words_at (port_of shape dc da) j in
        let more = answers_extend target (port_of shape dc da) (suc j) in
        let now = read_beats (taken_at (port_of shape dc da) (suc j)) in
        let all = read_beats (shown_at (port_of shape uc ua) (suc (suc j))) in
        let up_front : IsPrefix (read_beats (taken_at (port_of shape dc da) j)) all =
        prefix_flat_map _ (prefix_filter _ (prefix_trans (taken_above j) (prefix_trans (taken_is_shown (port_of shape uc ua) end j legal (omega arith)) (prefix_trans (before_extends _ j) (before_extends _ (suc j)))))) in
        let down_front = asked_taken (port_of shape dc da) j in
        let word = stage_word target shape all now ws w (answers_at target (port_of shape dc da) (suc (suc j))) more.rest asks.beat
        (sym more.joins ∙ ap (λ l. flat_map (λ (p : Beat × Word). bytes_in target shape p.0 p.1) (zip now l) ++ more.rest) asks.word)
        (prefix_get up_front (length ws) asks.beat asks.got) (prefix_get down_front (length ws) asks.beat asks.got)
        (prefix_take up_front (length ws) (omega (arith, asks.within)) ∙ sym (prefix_take down_front (length ws) (omega (arith, asks.within)))) in
        subst (λ (ws : List Word). IsAnsweredBy (length ws)) (sym (words_later j)) (subst (λ (w : Word). Holds w) (sym (ap₂ (λ w k. record { word = w; code = k }) (run.word j) (run.code j))) word)
      where
        IsAnsweredBy : ℕ → Type 0
        IsAnsweredBy n = IsAnswered target (port_of shape uc ua) (port_of shape dc da) n (suc j)

        Holds : Word → Type 0
        Holds w = MatchOption (slice_get (read_beats (shown_at (port_of shape uc ua) (suc (suc j)))) (length (words_at (port_of shape dc da) j))) ⊥ (λ beat.
            HoldsAnswers (filled_lanes shape target.shape beat.enables) (drop (reads_of target shape (take (length (words_at (port_of shape dc da) j)) (read_beats (shown_at (port_of shape uc ua) (suc (suc j)))))) (answers_at target (port_of shape dc da) (suc (suc j)))) w
            × HasGreatestCode (filled_lanes shape target.shape beat.enables) (drop (reads_of target shape (take (length (words_at (port_of shape dc da) j)) (read_beats (shown_at (port_of shape uc ua) (suc (suc j)))))) (answers_at target (port_of shape dc da) (suc (suc j)))) w)

  -- a stage is a link that holds what its queue holds
  pub stage_is_link : (target : Target) (end : ℕ) → 0 < shape.word_bytes → KeepsLinkLaw target depth (port_of shape uc ua) (port_of shape dc da) end
  stage_is_link target end words = record {
    commands = λ c h legal owed. record {
      in_order = λ k low. items_prefix target shape false (above target c legal k low);
      beats = λ k tag low. let fewer = prefix_length (prefix_flat_map (λ (m : Marked). m.transfer.beats) (prefix_filter (λ (m : Marked). nat_eq m.tag tag) (above target c legal k low))) in rw (same_pieces shape words) (omega (arith, fewer));
      legal = stage_legal depth shape uc dc ua da queue run c legal;
      held = λ k low. held target k;
      whole = λ k low. transfers_within target shape (above target c legal k low);
    };
    answers = λ c h legal owed. record { answered = answered target c legal owed; owed = owed_there target c legal owed };
  }
