-- A cutter of bursts begins below what waits above, and lets a plain command straight through once all earlier words are given.
use Rattle.std.proofs.Common.{ℕ, suc, ◌<◌, ◌≤◌, ◌≡◌, Bool, true, false, not, ◌&&◌, ◌||◌, List, ◌∷◌, ◌++◌, if◌then◌else◌, arith, refl, sym, ap, ap₂, ◌∙◌, length, filter, flat_map, IsTrue, length-append, le-leb, leb-true, le_of_eq}
use Rattle.std.proofs.lemmas.Bool.{and_parts, both_ways, not-true, or_left, or_right, eqb-true}
use Rattle.histories.specs.History.{is_raised}
use Rattle.histories.specs.Laws.{prefix_length}
use Rattle.memory_runs.specs.Views.{levels_at}
use Rattle.memory_runs.specs.Operations.{Beat}
use Rattle.memory_runs.specs.Commands.{shows, is_of_reads, burst_before, write_transfer, read_transfer}
use Rattle.memory_machines.specs.Link.{Target, Port, Marked, AreLegalAt, AnswersAreOwed, takes, marked_at, taken_at, operations_in, beat_operations, closes, is_nonempty, words_at, words_owed, read_beats}
use Rattle.memory_machines.specs.Straight.{GoesStraightThrough, may_be_prompt, are_answered, are_taken_below, are_just_taken, earlier_shown, shows_plain}
use Rattle.memory_links.specs.Begins.{BeginsBelow, shows_first}
use Rattle.memory_links.specs.Links.{IsStraightLink}
use Rattle.memory_links.proofs.OneBeat.{reads_append}
use Rattle.memory_links.proofs.Beginning.{IsFirstShown, first_parts, first_from, begun_is_shown, pass_begins}
use Rattle.memory_links.proofs.InStep.{plain_parts, earlier_is, both}
use Rattle.memory_links.proofs.CutLists.{beats_of, IsPartOf, same_operations, all_reads}
use Rattle.memory_links.proofs.CutLink.{Cutting, one_part, first_is, steps, gone, up_steps, all_sent, shows_same, waits_sending, takes_same, left_first, few_words, words_same, reads_front, operations_gone, cutter_shows_writes}

module _ (target : Target) (up down : Port) (end : ℕ) (cut : Cutting target up down end) (owed : AnswersAreOwed down end) where
  -- while a part is left a word is owed above
  sending_owes : (c : ℕ) → c < end → cut.sends c ≡ true → length (words_at up c) < words_owed up c
  sending_owes c h e =
      let asks = cut.asks c h e in
      let low : c ≤ end = omega (arith, h) in
      let all : words_owed up c ≡ length (read_beats (taken_at down c ++ cut.left c)) =
      ap (λ l. length (read_beats l)) (up_steps target up down end cut c) ∙ ap length (sym (all_reads target up.shape (steps target up down end cut c) (all_sent target up down end cut c low)))
      ∙ ap (λ l. length (read_beats l)) (sym (gone target up down end cut c low)) in
      let split = ap length (reads_append (taken_at down c) (cut.left c)) ∙ length-append (read_beats (taken_at down c)) (read_beats (cut.left c)) in
      let left = ap (λ l. length (read_beats l)) (cut.sending c h e)
      ∙ ap (λ k. length (beats_of (if k then marked_at down c ∷ read_marks c else read_marks c))) asks.0
      ∙ length-append (marked_at down c).transfer.beats (read_beats (cut.later c)) in
      let few = few_words target up down end cut c (λ k less. owed k (omega (arith, h, less))) in
      let words = ap length (words_same target up down end cut c) in
      let some = asks.1 in
      omega (arith, all, split, left, few, words, some)
    where
      read_marks : ℕ → List Marked
      read_marks c = filter (λ (m : Marked). is_of_reads m.transfer.kind) (cut.later c)

  pub idle_when_given : (c : ℕ) → c < end → words_owed up c ≤ length (words_at up c) → cut.sends c ≡ false
  idle_when_given c h given = by_sends (cut.sends c) refl
    where
      by_sends : (b : Bool) → cut.sends c ≡ b → cut.sends c ≡ false
      by_sends false e = e
      by_sends true e = let owes = sending_owes c h e in absurd (omega (arith, owes, given))

  pub record IsPlainAt (c : ℕ) : Type 0 where
    pub shown : shows up.commands.signals c ≡ true
    pub one : length (marked_at up c).transfer.beats ≡ 1

  pub plain_at : (c : ℕ) → IsTrue (shows_plain up c) → IsPlainAt c
  plain_at c plain = (let p = plain_parts up c plain in record { shown = p.shown; one = eqb-true (length (marked_at up c).transfer.beats) 1 p.one })

  -- while no read is sent, a plain command is shown below
  pub goes_through : (c : ℕ) → c < end → IsPlainAt c → cut.sends c ≡ false → (shows down.commands.signals c ≡ true) × (operations_in target down.shape (marked_at down c) ≡ operations_in target up.shape (marked_at up c))
  goes_through c h p idle = (
    shows_same target up down end cut c idle ∙ p.shown,
    same_operations target up.shape down.shape cut.same (marked_at down c) ∙ ap (λ (l : List Beat). flat_map (beat_operations target up.shape) l) (one_part target up down end cut c h idle p.shown p.one).beats,
  )

  straight : GoesStraightThrough (λ c. false) target up down end
  straight = record {
    shown = λ c h same plain may. (let p = plain_at c plain in goes_through c h p (idle_at c h p.shown may));
    accepted = λ c h same plain may. takes_same target up down end cut c (idle_at c h (plain_at c plain).shown may);
    kept = λ c h same plain taken. kept c h (plain_at c plain) taken;
  }
    where
      idle_at : (c : ℕ) → c < end → shows up.commands.signals c ≡ true → IsTrue (are_just_taken target up down (earlier_shown up c) c && (false || are_answered up (earlier_shown up c) c)) → cut.sends c ≡ false
      idle_at c h shown may =
          let answered = (and_parts (are_just_taken target up down (earlier_shown up c) c) (are_answered up (earlier_shown up c) c) may).1 in
          let given = leb-true (length (read_beats (earlier_shown up c))) (length (words_at up c)) answered in
          let same = ap (λ l. length (read_beats l)) (earlier_is up end cut.legal c h shown) in
          idle_when_given c h (omega (arith, given, same))

      kept : (c : ℕ) → c < end → IsPlainAt c → takes up c ≡ true → IsTrue (are_taken_below target up down (taken_at up (suc c)) (suc c))
      kept c h p taken = by_sends (cut.sends c) refl
        where
          by_sends : (b : Bool) → cut.sends c ≡ b → IsTrue (are_taken_below target up down (taken_at up (suc c)) (suc c))
          by_sends true e = absurd (both_ways (takes up c) (waits_sending target up down end cut c e) taken)
          by_sends false e =
              let next = cut.over (suc c) (left_first target up down end cut c true e taken ∙ (one_part target up down end cut c h e p.shown p.one).none) in
              le-leb _ _ (le_of_eq (sym (operations_gone target up down end cut (suc c) h next)))

  -- a write that is shown below stands above
  idle_at_write : (c : ℕ) → c < end → not (is_of_reads (marked_at down c).transfer.kind) ≡ true → cut.sends c ≡ false
  idle_at_write c h write = by_sends (cut.sends c) refl
    where
      by_sends : (b : Bool) → cut.sends c ≡ b → cut.sends c ≡ false
      by_sends false e = e
      by_sends true e = absurd (both_ways (is_of_reads (marked_at down c).transfer.kind) (not-true (is_of_reads (marked_at down c).transfer.kind) write) (cut.asks c h e).0)

  pub idle_taken : (c : ℕ) → takes up c ≡ true → cut.sends c ≡ false
  idle_taken c taken = by_sends (cut.sends c) refl
    where
      by_sends : (b : Bool) → cut.sends c ≡ b → cut.sends c ≡ false
      by_sends false e = e
      by_sends true e = absurd (both_ways (takes up c) (waits_sending target up down end cut c e) taken)

  -- ---- over a link that begins what waits above it

  module _ (few : ℕ) (may_burst : Bool) (low : Port) (below : BeginsBelow few may_burst target down low end) where
    -- what is to be begun promptly is so below
    first_there : (c : ℕ) → c < end → IsFirstShown may_burst target up c → cut.sends c ≡ false → IsTrue (shows_first may_burst target down c)
    first_there c h is idle = first_from may_burst target down c (record {
      shown = shows_same target up down end cut c idle ∙ is.shown;
      may = by_kind (is_of_reads (marked_at up c).transfer.kind) refl (closes (marked_at up c)) refl (is_raised (up.commands.write c)) refl is.may;
      acts = ap is_nonempty (same_operations target up.shape down.shape cut.same (marked_at down c)) ∙ part.acts ∙ is.acts;
    })
      where
        part : IsPartOf target up.shape (marked_at up c) (marked_at down c)
        part = first_is target up down end cut c h idle is.shown

        by_kind : (r : Bool) → is_of_reads (marked_at up c).transfer.kind ≡ r → (e : Bool) → closes (marked_at up c) ≡ e → (w : Bool) → is_raised (up.commands.write c) ≡ w →
            is_of_reads (marked_at up c).transfer.kind || closes (marked_at up c) || may_burst ≡ true → may_be_prompt may_burst (marked_at down c) ≡ true
        by_kind true r e f w g may = or_left _ may_burst (or_left _ (closes (marked_at down c)) (ap is_of_reads part.kind ∙ r))
        by_kind false r true f true g may =
            or_left _ may_burst (or_right (is_of_reads (marked_at down c).transfer.kind) _ (cutter_shows_writes target up down end cut c h idle is.shown g f).2)
        by_kind false r true f false g may = absurd (both_ways (is_of_reads (marked_at up c).transfer.kind) r (kind_of g))
          where
            kind_of : is_raised (up.commands.write c) ≡ false → is_of_reads (marked_at up c).transfer.kind ≡ true
            kind_of g =
                ap (λ w. is_of_reads (if w then write_transfer up.shape (levels_at up.commands.signals c) (burst_before up.shape up.commands.signals (takes up) c) else read_transfer up.shape (levels_at up.commands.signals c)).kind) g
        by_kind false r false f w g may = or_right _ may_burst (sym (ap₂ (λ x y. x || y || may_burst) r f) ∙ may)

    pub cut_begins : BeginsBelow few may_burst target up low end
    cut_begins = record {
      taken = λ c h first t.
          let idle = idle_taken c t in
          let there = below.taken c h (first_there c h (first_parts may_burst target up c first) idle) (sym (takes_same target up down end cut c idle) ∙ t) in
          let same = operations_gone target up down end cut c (omega (arith, h)) idle in
          omega (arith, there, same);
      waits = λ c h first not_taken reached given.
          let now : c < end = omega (arith, h) in
          let idle = idle_when_given c now given in
          let same = operations_gone target up down end cut c (omega (arith, h)) idle in
          let fewer = prefix_length (reads_front target up down end cut c (omega (arith, h))) in
          let words = ap length (words_same target up down end cut c) in
          let there = below.waits c h (first_there c now (first_parts may_burst target up c first) idle) (sym (takes_same target up down end cut c idle) ∙ not_taken) (omega (arith, same, reached)) (omega (arith, fewer, words, given)) in
          omega (arith, there, same);
      empty = λ c h empty.
          let there = below.empty c h empty in
          let writes = and_parts (shows down.commands.signals c) (not (is_of_reads (marked_at down c).transfer.kind)) there.0 in
          let idle = idle_at_write c h writes.1 in
          let above = sym (shows_same target up down end cut c idle) ∙ writes.0 in
          (both above (ap (λ k. not (is_of_reads k)) (sym (first_is target up down end cut c h idle above).kind) ∙ writes.1), λ t. there.1 (sym (takes_same target up down end cut c idle) ∙ t));
    }

module _ (target : Target) (up down : Port) (end : ℕ) (cuts : AreLegalAt up end → Cutting target up down end) where
  pub cut_is_straight : (few : ℕ) (may_burst : Bool) → IsStraightLink few false may_burst target up down end
  cut_is_straight few may_burst = record {
    straight = λ legal owed. straight target up down end (cuts legal) owed;
    prompt = λ legal owed.
        let cut = cuts legal in
        begun_is_shown few may_burst target up down end legal cut.legal_below (cut_begins target up down end cut owed few may_burst down (pass_begins few may_burst target down end cut.legal_below));
  }
