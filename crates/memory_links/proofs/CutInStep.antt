-- A cutter of bursts goes in step with the links beside it.
use Rattle.std.proofs.Common.{ℕ, ◌<◌, ◌≤◌, ◌≡◌, true, false, not, List, arith, sym, ap, ap₂, ◌∙◌, length, nat_eq, IsTrue, le-leb, leb-true}
use Rattle.std.specs.List.{list_any}
use Rattle.std.proofs.lemmas.Bool.{and_parts}
use Rattle.histories.specs.History.{numbers}
use Rattle.histories.specs.Laws.{prefix_flat_map, prefix_length}
use Rattle.memory_runs.specs.Operations.{Beat, is_enabled}
use Rattle.memory_runs.specs.Commands.{shows}
use Rattle.memory_machines.specs.Link.{Target, Port, AnswersAreOwed, marked_at, taken_at, operations_among, operations_in, is_nonempty, closes, words_at, read_beats, is_last_joined}
use Rattle.memory_machines.specs.Straight.{earlier_shown, shows_plain}
use Rattle.memory_links.specs.InStep.{GoesInStep, is_next}
use Rattle.memory_links.proofs.CutLists.{all_operations, more_below}
use Rattle.memory_links.proofs.CutLink.{Cutting, IsOnePart, one_part, first_is, steps, taken_front, up_steps, all_sent, shows_same, takes_same, all_gone, words_same, reads_front, same_taken}
use Rattle.memory_links.proofs.InStep.{IsShownPlain, plain_parts, plain_from, earlier_is, of_next}
use Rattle.memory_links.proofs.CutStraight.{plain_at, idle_when_given, idle_taken, goes_through}

module _ (target : Target) (up down : Port) (end : ℕ) (cut : Cutting target up down end) (owed : AnswersAreOwed down end) where
  after : (c : ℕ) → c ≤ end → length (operations_among target down.shape (taken_at down c)) ≤ length (operations_among target up.shape (taken_at up c))
  after c h =
      let fewer = prefix_length (prefix_flat_map (operations_in target up.shape) (taken_front target up down end cut c h)) in
      let taken = ap length (same_taken target up down end cut c) in
      let whole = ap length (all_operations target up.shape (steps target up down end cut c) (all_sent target up down end cut c h)) in
      let above = ap (λ l. length (operations_among target up.shape l)) (up_steps target up down end cut c) in
      omega (arith, fewer, taken, whole, above)

  plain_below : (c : ℕ) → c < end → IsTrue (shows_plain up c) → cut.sends c ≡ false → IsTrue (shows_plain down c)
  plain_below c h plain idle =
      let ends = and_parts (marked_at down c).transfer.ends (not (marked_at down c).more) closed in
      plain_from down c (record {
        shown = there;
        begins = cut.alone c h idle p.shown p.begins;
        alone = ap not joined ∙ p.alone;
        ends = ends.0;
        closing = ends.1;
        one = ap (λ (l : List Beat). nat_eq (length l) 1) one.beats ∙ p.one;
        lane = ap₂ (λ (l : List Beat) n. list_any (λ (b : Beat). list_any (is_enabled b.enables) (numbers 0 n)) l) one.beats cut.same ∙ p.lane;
      })
    where
      p : IsShownPlain up c
      p = plain_parts up c plain

      there : shows down.commands.signals c ≡ true
      there = shows_same target up down end cut c idle ∙ p.shown

      one : IsOnePart (marked_at up c) (marked_at down c) (cut.behind c)
      one = one_part target up down end cut c h idle p.shown (plain_at target up down end cut owed c plain).one

      joined : is_last_joined (earlier_shown down c) ≡ is_last_joined (earlier_shown up c)
      joined =
          ap is_last_joined (earlier_is down end cut.legal_below c h there ∙ all_gone target up down end cut c (omega (arith, h)) idle)
          ∙ more_below target up.shape (steps target up down end cut c) (all_sent target up down end cut c (omega (arith, h)))
          ∙ ap is_last_joined (sym (up_steps target up down end cut c) ∙ sym (earlier_is up end cut.legal c h p.shown))

      closed : IsTrue (closes (marked_at down c))
      closed = (first_is target up down end cut c h idle p.shown).closes_so ∙ ap not one.more ∙ p.closing

  idle_next : (c : ℕ) → c < end → IsTrue (is_next false target up down c) → cut.sends c ≡ false
  idle_next c h next =
      let is = of_next false target up down c next in
      let p = plain_at target up down end cut owed c is.plain in
      let given = leb-true (length (read_beats (earlier_shown up c))) (length (words_at up c)) is.given in
      let same = ap (λ l. length (read_beats l)) (earlier_is up end cut.legal c h p.shown) in
      idle_when_given target up down end cut owed c h (omega (arith, given, same))

  pub cut_in_step : GoesInStep false target up down end
  cut_in_step = record {
    accepts = after;
    full = λ c h next shown.
        let is = of_next false target up down c next in
        ap is_nonempty (goes_through target up down end cut owed c h (plain_at target up down end cut owed c is.plain) (idle_next c h next)).1 ∙ is.acts;
    plain = λ c h next. plain_below c h (of_next false target up down c next).plain (idle_next c h next);
    at_once = λ c h plain taken. (let idle = idle_taken target up down end cut owed c taken in (plain_below c h plain idle, sym (takes_same target up down end cut c idle) ∙ taken));
    quiet = λ c h answered.
        let fewer = prefix_length (reads_front target up down end cut c h) in
        let words = ap length (words_same target up down end cut c) in
        let given = leb-true (length (read_beats (taken_at up c))) (length (words_at up c)) answered in
        le-leb (length (read_beats (taken_at down c))) (length (words_at down c)) (omega (arith, fewer, words, given));
  }
