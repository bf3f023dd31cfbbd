-- Two links in a row are one link.
use Rattle.std.proofs.Common.{ℕ, zero, suc, ◌≤◌, ◌≡◌, ◌+◌, ◌-◌, ◌*◌, Bool, true, false, ◌&&◌, ◌||◌, ◌++◌, List, arith, refl, sym, subst, IsTrue, IsFalse}
use Rattle.memory_runs.specs.Operations.{pieces}
use Rattle.memory_machines.specs.Shorter.{legal_at_before}
use Rattle.memory_machines.specs.Link.{Target, Port, AreLegalAt, AnswersAreOwed}
use Rattle.memory_machines.specs.LinkPair.{LinkPair, KeepRows, AddsNoPieces}
use Rattle.memory_machines.specs.Lines.{IsCarrier, IsWordForWord, KeepsRow}
use Rattle.memory_links.specs.Going.{Pace, RowGoesOn}
use Rattle.memory_links.specs.Going.RowGoesOn.{at_end, further}
use Rattle.memory_links.specs.Links.{LinkForm, IsLink, FormsFit, BringsLanesDown, HandsOnJoins, OwesNothingBelow, chain_form}

pub rows_join : {target : Target} {end : ℕ} {first second : List Pace} {up middle down : Port} → RowGoesOn target end first up middle → RowGoesOn target end second middle down → RowGoesOn target end (first ++ second) up down
rows_join at_end second = second
rows_join (further one rest) second = further one (rows_join rest second)

module _ (target : Target) (first_hold second_hold : ℕ) (up middle down : Port) (end : ℕ)
    (one : IsCarrier target first_hold up middle end) (two : IsCarrier target second_hold middle down end) where
  -- the commands in the middle are legal
  there_before : (c : ℕ) → c ≤ end → AreLegalAt up c → AnswersAreOwed down (c - 1) → AreLegalAt middle c
  there_before zero h legal owed = (one.commands zero h legal (λ k less. absurd (omega arith))).legal
  there_before (suc c) h legal owed =
      let earlier : AnswersAreOwed down c = λ k less. owed k (omega arith) in
      let legal_earlier = there_before c (omega arith) (legal_at_before up c (suc c) (omega arith) legal) (λ k less. earlier k (omega arith)) in
      let owed_there = (two.answers c (omega arith) legal_earlier earlier).owed in
      (one.commands (suc c) h legal (λ k less. owed_there k (omega arith))).legal

  pub middle_legal : (c : ℕ) → c ≤ end → AreLegalAt up c → AnswersAreOwed down c → AreLegalAt middle c
  middle_legal c low legal owed = there_before c low legal (λ k less. owed k (omega arith))

  -- and the answers there are owed
  pub middle_owed : (c : ℕ) → c ≤ end → AreLegalAt up c → AnswersAreOwed down c → AnswersAreOwed middle c
  middle_owed c low legal owed = (two.answers c low (middle_legal c low legal owed) owed).owed

  owed_before : (c : ℕ) → c ≤ end → AreLegalAt up c → AnswersAreOwed down (c - 1) → AnswersAreOwed middle (c - 1)
  owed_before c low legal owed = middle_owed (c - 1) (omega arith) (legal_at_before up (c - 1) c (omega arith) legal) owed

  pub both_lanes : (a b : Bool) → BringsLanesDown a target up middle end → BringsLanesDown b target middle down end → BringsLanesDown (a || b) target up down end
  both_lanes a b first second c low legal owed has =
      second c low (there_before c low legal owed) owed (λ none. first c low legal (owed_before c low legal owed) (λ no_first. has (neither a b no_first none)))
    where
      neither : (a b : Bool) → IsFalse a → IsFalse b → IsFalse (a || b)
      neither true b h g = h
      neither false b h g = g

  pub both_joins : HandsOnJoins target up middle end → HandsOnJoins target middle down end → HandsOnJoins target up down end
  both_joins first second c low legal owed alike =
      second c low (there_before c low legal owed) owed (first c low legal (owed_before c low legal owed) alike)

  pub both_quiet : OwesNothingBelow up middle end → OwesNothingBelow middle down end → OwesNothingBelow up down end
  both_quiet first second c low legal owed answered =
      second c low (middle_legal c low legal owed) owed (first c low legal (middle_owed c low legal owed) answered)

abbrev pair_of : (first second : LinkForm) → Port → Port → Port → LinkPair
pair_of first second up middle down = record { target = first.target; up = up; middle = middle; down = down; first_hold = first.hold; second_hold = second.hold }

module _ (upper : (pair : LinkPair) (end : ℕ) → KeepRows pair end → AddsNoPieces pair → IsWordForWord pair.target pair.up pair.middle end → KeepsRow pair.target (pair.first_hold + pair.second_hold) pair.up pair.down end)
    (lower : (pair : LinkPair) (end : ℕ) → KeepRows pair end → AddsNoPieces pair → IsWordForWord pair.target pair.middle pair.down end → KeepsRow pair.target (pair.first_hold + pair.second_hold) pair.up pair.down end)
    (both : (pair : LinkPair) (end : ℕ) → KeepRows pair end → AddsNoPieces pair → IsWordForWord pair.target pair.up pair.middle end → IsWordForWord pair.target pair.middle pair.down end → IsWordForWord pair.target pair.up pair.down end)
    (up middle down : Port) (end : ℕ) where
  two_links : (first second : LinkForm) → first.target ≡ second.target → pieces middle.shape down.shape * pieces up.shape middle.shape ≤ pieces up.shape down.shape → IsTrue (first.word_for_word || second.word_for_word) →
      IsLink first up middle end → IsLink (record second { target = first.target }) middle down end → IsLink (chain_form first second) up down end
  two_links first second same between words above below =
      let one = above.row.carries in
      let two = below.row.carries in
      let there = middle_legal first.target first.hold second.hold up middle down end one two in
      let owed_at = middle_owed first.target first.hold second.hold up middle down end one two in
      let pair = pair_of first second up middle down in
      record {
        row = by_words first.word_for_word second.word_for_word words (λ is. upper pair end (record { first = above.row; second = below.row }) between (above.words is))
            (λ is. lower pair end (record { first = above.row; second = below.row }) between (below.words is));
        words = λ is. both pair end (record { first = above.row; second = below.row }) between (above.words (left first.word_for_word second.word_for_word is)) (below.words (right first.word_for_word second.word_for_word is));
        lanes = both_lanes first.target first.hold second.hold up middle down end one two first.makes_lanes second.makes_lanes above.lanes below.lanes;
        joins = both_joins first.target first.hold second.hold up middle down end one two above.joins below.joins;
        quiet = both_quiet first.target first.hold second.hold up middle down end one two above.quiet below.quiet;
        goes_on = λ legal owed alike.
            rows_join (above.goes_on legal (owed_at end (omega arith) legal owed) alike)
            (below.goes_on (there end (omega arith) legal owed) owed (above.joins end (omega arith) legal (λ k less. owed_at end (omega arith) legal owed k (omega arith)) alike));
      }
    where
      left : (a b : Bool) → IsTrue (a && b) → IsTrue a
      left true b h = refl
      left false b h = h

      right : (a b : Bool) → IsTrue (a && b) → IsTrue b
      right true b h = h
      right false b h = cc

      by_words : (a b : Bool) → IsTrue (a || b) → {R : Type 0} → (IsTrue a → R) → (IsTrue b → R) → R
      by_words true b some f g = f refl
      by_words false b some f g = g some

  pub chain_is_link : (first second : LinkForm) → FormsFit first second up middle down → IsLink first up middle end → IsLink second middle down end → IsLink (chain_form first second) up down end
  chain_is_link first second fit above below =
      two_links first second fit.target fit.pieces fit.words above (subst (λ t. IsLink (record second { target = t }) middle down end) (sym fit.target) below)
