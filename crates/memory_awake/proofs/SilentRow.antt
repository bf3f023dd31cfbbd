-- A row at which nothing is shown keeps all that is asked of rows, whatever its words.
use Rattle.std.proofs.Common.{ℕ, zero, suc, ◌<◌, ◌≤◌, ◌≡◌, ◌+◌, ◌&&◌, ◌||◌, not, Bool, true, false, [], arith, refl, sym, subst, ◌∙◌, IsTrue, IsFalse}
use Rattle.std.proofs.lemmas.Bool.{and_parts, both_ways, or_right, ltb-true}
use Rattle.histories.specs.History.{is_raised, is_first, AreWithin.all_placed}
use Rattle.histories.specs.Laws.{prefix_refl}
use Rattle.memory_runs.specs.Views.{System, Run}
use Rattle.memory_runs.specs.Commands.{shows, burst_before, is_held, words_before, accepts_by}
use Rattle.memory_machines.specs.Link.{Target, Port, AreLegalAt, AnswersAreOwed, takes, taken_at, shown_at}
use Rattle.memory_machines.specs.Lines.{IsFit, KeepsRow, BringsLanes, BringsLanes.made, target_of}
use Rattle.memory_machines.specs.Paths.{CommandView, AnswerView}
use Rattle.memory_links.specs.Going.{KeepsGoing, has_link_work}
use Rattle.memory_awake.specs.Rows.{IsModestRow, ports_of_three, one_beat_lowest}
use Rattle.memory_awake.specs.Slack.{Slack, PassesWhileStill, brings_next}
use Rattle.memory_awake.specs.Ways.{count_in}
use Rattle.memory_awake.specs.Wires.{HandsAllOn}
use Rattle.memory_awake.proofs.Bits.{none_taken, not_shown, no_true}

abbrev pub IsQuiet : Port → ℕ → Type 0
IsQuiet port end = (c : ℕ) → c < end → IsFalse (shows port.commands.signals c)

not_both : (a b : Bool) → IsFalse (a || b) → IsTrue (not (a && b))
not_both false b none = refl
not_both true b none = cc

neither : (a b may_read may_write : Bool) → IsFalse (a || b) → IsTrue ((not a || may_read) && (not b || may_write))
neither false false may_read may_write none = refl
neither false true may_read may_write none = cc
neither true b may_read may_write none = cc

module _ (port : Port) (end : ℕ) (quiet : IsQuiet port end) where
  pub never_taken : (n : ℕ) → n ≤ end → taken_at port n ≡ []
  never_taken zero fit = refl
  never_taken (suc n) fit = none_taken port n (not_shown port n (quiet n (omega (arith, fit)))) ∙ never_taken n (omega (arith, fit))

  not_first : (n : ℕ) → n < end → is_first (shows port.commands.signals) (takes port) n ≡ false
  not_first zero fit = quiet zero fit
  not_first (suc n) fit = rw (quiet (suc n) fit) refl

  never_shown : (n : ℕ) → n ≤ end → shown_at port n ≡ []
  never_shown zero fit = refl
  never_shown (suc n) fit = rw (never_shown n (omega (arith, fit)), not_first n (omega (arith, fit))) refl

  no_burst : (n : ℕ) → n ≤ end → (burst_before port.shape port.commands.signals (takes port) n).left ≡ 0
  no_burst zero fit = refl
  no_burst (suc n) fit = rw (not_shown port n (quiet n (omega (arith, fit)))) (no_burst n (omega (arith, fit)))

  nothing_held : (c : ℕ) → c < end → IsTrue (is_held port.commands.signals (takes port) c) → ⊥
  nothing_held c h held = both_ways (shows port.commands.signals c) (quiet c h) (and_parts (shows port.commands.signals c) (not (takes port c)) held).0

  quiet_is_legal : AreLegalAt port end
  quiet_is_legal = record {
    legal = record {
      one_kind = λ c h. not_both (is_raised (port.commands.read c)) (is_raised (port.commands.write c)) (quiet c h);
      held = λ c h held. absurd (nothing_held c (omega (arith, h)) held);
      least = λ c h first free. absurd (both_ways _ (not_first c h) first);
      most = λ c h first free. absurd (both_ways _ (not_first c h) first);
      finished = λ c h under. absurd (no_true (rw (no_burst c (omega (arith, h))) at under));
    };
    tag = λ c h held. absurd (nothing_held c (omega (arith, h)) held);
    more = λ c h held. absurd (nothing_held c (omega (arith, h)) held);
    joined = λ c h shown. absurd (both_ways _ (quiet c h) shown);
  }

  -- nothing fits each agent
  pub quiet_is_fit : (system : System) (agent : ℕ) → IsFit system agent port end
  quiet_is_fit system agent = record {
    legal = quiet_is_legal;
    lanes = λ c h. rw (never_shown c h) (or_right (system.agent agent).has_enables true refl);
    tags = λ c h shown. absurd (both_ways _ (quiet c h) shown);
    kinds = λ c h. neither (is_raised (port.commands.read c)) (is_raised (port.commands.write c)) (system.agent agent).has_read (system.agent agent).has_write (quiet c h);
  }

module _ (target : Target) (up down : Port) (end : ℕ) (on : HandsAllOn up down) (quiet : IsQuiet up end) where
  pub quiet_below : IsQuiet down end
  quiet_below c h = subst (λ (v : CommandView). IsFalse (shows v.signals c)) on.commands (quiet c h)

  owed_above : (c : ℕ) → c ≤ end → AnswersAreOwed down c → AnswersAreOwed up c
  owed_above c h owed k less =
      let above = never_taken up end quiet k (omega (arith, less, h)) in
      let below = never_taken down end quiet_below k (omega (arith, less, h)) in
      let none : words_before down.answers.valid (suc k) ≤ 0 = rw below at (owed k less) in
      rw above (subst (λ (v : AnswerView). words_before v.valid (suc k) ≤ 0) (sym on.answers) none)

  pub silent_row : (hold : ℕ) → KeepsRow target hold up down end
  silent_row hold = record {
    carries = record {
      commands = λ c h legal owed. record {
        in_order = λ k less. rw (never_shown up end quiet k (omega (arith, less, h)), never_shown down end quiet_below k (omega (arith, less, h))) (prefix_refl []);
        beats = λ k tag less. rw (never_shown down end quiet_below k (omega (arith, less, h))) (omega arith);
        legal = quiet_is_legal down c (λ k less. quiet_below k (omega (arith, less, h)));
        held = λ k less. rw (never_taken up end quiet k (omega (arith, less, h))) (omega arith);
        whole = λ k less. rw (never_shown down end quiet_below k (omega (arith, less, h))) all_placed;
      };
      answers = λ c h legal owed. record {
        bytes = λ k less. rw (never_taken up end quiet k (omega (arith, less, h)), never_taken down end quiet_below k (omega (arith, less, h))) (prefix_refl []);
        owed = owed_above c h owed;
      };
    };
    codes = λ c h legal owed. rw (never_taken up end quiet c h) tt;
    hands_on = λ c h legal owed. record {
      tags = λ may bears k less shown. absurd (both_ways _ (quiet_below k (omega (arith, less, h))) shown);
      kinds = λ side serves k less. neither (is_raised (down.commands.read k)) (is_raised (down.commands.write k)) side.has_read side.has_write (quiet_below k (omega (arith, less, h)));
    };
  }

  pub silent_going : KeepsGoing target up down (λ c. 0) 0 end
  silent_going = record {
    legal = quiet_is_legal up end quiet;
    legal_down = quiet_is_legal down end quiet_below;
    falls = record {
      bounded = λ c h. omega arith;
      falls = λ c h work still free. absurd (no_work c h work);
      stays = λ c h work still. omega arith;
    };
    words = λ c h owed.
        let less = ltb-true _ _ (rw (never_taken up end quiet (suc c) (omega (arith, h))) at owed) in
        absurd (omega (arith, less));
  }
    where
      no_work : (c : ℕ) → c < end → IsTrue (has_link_work target up down c) → ⊥
      no_work c h work = no_true (rw (never_taken down end quiet_below (suc c) h, never_shown up end quiet (suc c) h, quiet c h, quiet_below c h) at work)

  pub silent_passes : (slack : Slack) (top : Port) → PassesWhileStill slack top up down end
  silent_passes slack top = record {
    beats = λ from size h still. subst (λ (v : CommandView). count_in (takes up) from size ≤ count_in (accepts_by v.signals v.waitrequest) from size + slack.hold) on.commands (omega arith);
    words = λ from size h still. subst (λ (v : AnswerView). count_in (brings_next up) from size ≤ count_in (λ c. is_raised (v.valid (suc c))) from size + slack.kept) on.answers (omega arith);
  }

-- nothing is shown behind the route: so the three links of a row hand all on, and hold nothing back
module _ (target : Target) (top middle low down : Port) (end : ℕ) (high : HandsAllOn top middle) (mid : HandsAllOn middle low) (last : HandsAllOn low down) (quiet : IsQuiet top end) where
  all_on : HandsAllOn top down
  all_on = record { commands = high.commands ∙ mid.commands ∙ last.commands; answers = high.answers ∙ mid.answers ∙ last.answers }

  quiet_middle : IsQuiet middle end
  quiet_middle = quiet_below target top middle end high quiet

  quiet_low : IsQuiet low end
  quiet_low = quiet_below target middle low end mid quiet_middle

  pub silent_is_modest : IsModestRow target 3 (ports_of_three down low middle top) (λ i. record { rank = λ c. 0; largest = 0 }) one_beat_lowest end
  silent_is_modest = record {
    going = goes;
    pass = passes;
    few = omega arith;
    first = λ some. record { hold = omega arith; kept = omega arith; rank = omega arith };
    second = λ some. record { hold = omega arith; kept = omega arith; rank = omega arith };
    third = λ some. record { hold = omega arith; kept = omega arith; rank = omega arith };
  }
    where
      goes : (i : ℕ) → i < 3 → KeepsGoing target (ports_of_three down low middle top (suc i)) (ports_of_three down low middle top i) (λ c. 0) 0 end
      goes zero h = silent_going target low down end last quiet_low
      goes (suc zero) h = silent_going target middle low end mid quiet_middle
      goes (suc (suc zero)) h = silent_going target top middle end high quiet
      goes (suc (suc (suc i))) h = absurd (omega (arith, h))

      passes : (i : ℕ) → i < 3 → PassesWhileStill (one_beat_lowest i) top (ports_of_three down low middle top (suc i)) (ports_of_three down low middle top i) end
      passes zero h = silent_passes target low down end last quiet_low (one_beat_lowest 0) top
      passes (suc zero) h = silent_passes target middle low end mid quiet_middle (one_beat_lowest 1) top
      passes (suc (suc zero)) h = silent_passes target top middle end high quiet (one_beat_lowest 2) top
      passes (suc (suc (suc i))) h = absurd (omega (arith, h))

  pub silent_keeps : KeepsRow target 2 top down end
  silent_keeps = silent_row target top down end all_on quiet 2

pub silent_lanes : (system : System) (run : Run) (host agent : ℕ) (top middle low down : Port) (end : ℕ) → HandsAllOn top middle → HandsAllOn middle low → HandsAllOn low down → IsQuiet top end → BringsLanes system run host agent top down end
silent_lanes system run host agent top middle low down end high mid last quiet = made (λ c h legal owed k less.
    let below = quiet_below (target_of system agent) top down end (all_on (target_of system agent) top middle low down end high mid last quiet) quiet in
    rw (never_shown down end below k (omega (arith, less, h))) (or_right (system.agent agent).has_enables true refl))
