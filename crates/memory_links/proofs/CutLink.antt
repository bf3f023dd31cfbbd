-- A cutter of bursts keeps all that a link promises, whatever bursts it makes.
use Rattle.std.proofs.Common.{ℕ, zero, suc, ◌<◌, ◌≤◌, ◌≡◌, ◌/◌, min, Bool, true, false, not, ◌&&◌, ◌||◌, List, [], ◌∷◌, ◌++◌, if◌then◌else◌, arith, refl, sym, ap, ap₂, subst, ◌∙◌, length, map, take, zip, flat_map, nat_lt, nat_eq, IsTrue, IsFalse, append-nil, append_assoc, length-append, ltb-true, le_refl, le-leb, leb-true}
use Rattle.std.specs.List.{list_all}
use Rattle.std.proofs.lemmas.Bool.{and_parts, not-true, or_left, or_right, or_parts, both_ways}
use Rattle.std.proofs.lemmas.List.{map-append, length-map}
use Rattle.std.proofs.lemmas.Grind.{flat_map-append}
use Rattle.histories.specs.History.{is_raised, only_if, all_accepted, standing, total, unreached, IsPrefix, AreWithin}
use Rattle.histories.specs.Laws.{shown_is_accepted_and_standing, prefix_refl, prefix_trans, prefix_map, prefix_filter, prefix_flat_map, prefix_length, before_extends}
use Rattle.memory_runs.specs.Legal.{Word}
use Rattle.memory_runs.specs.Laws.{same_pieces}
use Rattle.memory_runs.specs.Operations.{Beat, pieces, filled_lanes}
use Rattle.memory_runs.specs.Views.{levels_at}
use Rattle.memory_runs.specs.Commands.{Transfer, shows, is_held, is_of_reads, words_before, burst_before, write_transfer, read_transfer}
use Rattle.memory_machines.specs.Link.{Target, Port, Marked, AreLegalAt, AnswersAreOwed, CarriesCommands, takes, marked_at, taken_at, shown_at, operations_among, operations_in, items, items_from, beats_with, sizes, read_beats, words_at, words_owed, answers_at, bytes_in, is_last_joined}
use Rattle.memory_machines.specs.Blocks.{blocks_at, worded, codes_of, AreGreatest}
use Rattle.memory_machines.specs.Lines.{BringsBack, KeepsRow, HasLanes, bytes_of, HandsOn}
use Rattle.memory_machines.specs.PartRanks.{HoldsBack, held_back, are_joined_alike}
use Rattle.memory_machines.specs.Rank.{moves_commands, is_excused, is_owed, is_unclosed, is_last_write, may_rest, is_writing}
use Rattle.memory_machines.specs.SideLaws.{marked_keeps, same_counts, zip_front}
use Rattle.memory_machines.specs.Shorter.{legal_at_before}
use Rattle.memory_machines.specs.Straight.{are_answered}
use Rattle.memory_links.proofs.Words.{words_move}
use Rattle.memory_links.specs.Going.{GoesOn, GivesWhatHasCome, has_link_work, is_behind, is_untaken}
use Rattle.memory_links.specs.Going.RowGoesOn.{at_end, further}
use Rattle.memory_links.specs.Passes.{ShowsWrite}
use Rattle.memory_links.specs.Links.{IsLink}
use Rattle.memory_links.specs.Cutters.{cut_form}
use Rattle.memory_links.proofs.Alike.{have_operations}
use Rattle.memory_links.proofs.Gated.{items_prefix, total_sizes, four_of, by_not, open_rests}
use Rattle.memory_links.proofs.Stages.{all_front, alike_prefix, accepted_of, total_accepted}
use Rattle.memory_links.proofs.CutLists.{Step, above_of, parts_in, parts_of, beats_in, beats_of, IsPartOf, AreParts, HasFirst, first_of, IsSent, AllSent, sent_push, sent_front, same_among, same_items, same_sizes, same_lanes, same_joined, all_operations, all_items, all_reads, all_tagged, lanes_below, joins_below, within_below, more_below, write_below, unreached_past, held_past, within_front}

-- what the laws of a cutter rest on: the parts of each transfer, which ones are left, and when it shows them
pub record Cutting (target : Target) (up down : Port) (end : ℕ) : Type 0 where
  pub legal : AreLegalAt up end
  pub legal_below : AreLegalAt down end
  pub hands_on : HandsOn up down end
  pub some : 0 < up.shape.word_bytes
  pub same : down.shape.word_bytes ≡ up.shape.word_bytes
  -- as each cycle begins: whether it sends a read by itself, the parts of it that are left, and those of what stands above
  pub sends : ℕ → Bool
  pub left : ℕ → List Marked
  pub parts : ℕ → List Marked
  -- behind the part that is shown
  pub later : ℕ → List Marked
  pub behind : ℕ → List Marked
  pub shown : (c : ℕ) → shows down.commands.signals c ≡ (if sends c then true else shows up.commands.signals c)
  pub accepts : (c : ℕ) → takes up c ≡ not (sends c) && takes down c
  pub begins : left 0 ≡ []
  pub none : (c : ℕ) → sends c ≡ false → left c ≡ []
  pub over : (c : ℕ) → left c ≡ [] → sends c ≡ false
  pub sending : (c : ℕ) → c < end → sends c ≡ true → left c ≡ marked_at down c ∷ later c
  pub goes : (c : ℕ) → sends c ≡ true → left (suc c) ≡ (if takes down c then later c else left c)
  pub first : (c : ℕ) → c < end → sends c ≡ false → shows up.commands.signals c ≡ true → parts c ≡ marked_at down c ∷ behind c
  pub accepted : (c : ℕ) → sends c ≡ false → left (suc c) ≡ (if takes up c then behind c else [])
  pub is_sent : (c : ℕ) → c < end → shows up.commands.signals c ≡ true → IsSent target up.shape (record { above = marked_at up c; parts = parts c })
  -- what it sends by itself asks a word
  pub asks : (c : ℕ) → c < end → sends c ≡ true → (is_of_reads (marked_at down c).transfer.kind ≡ true) × (0 < length (marked_at down c).transfer.beats)
  -- where a command begins above, one begins below
  pub alone : (c : ℕ) → c < end → sends c ≡ false → shows up.commands.signals c ≡ true → (marked_at up c).transfer.begins ≡ true → (marked_at down c).transfer.begins ≡ true
  -- answers are wires
  pub valid : (c : ℕ) → up.answers.valid c ≡ down.answers.valid c
  pub word : (c : ℕ) → up.answers.word c ≡ down.answers.word c
  pub code : (c : ℕ) → up.answers.code c ≡ down.answers.code c

-- a transfer of one beat has one part, and it is the same
pub record IsOnePart (m p : Marked) (rest : List Marked) : Type 0 where
  pub none : rest ≡ []
  pub more : p.more ≡ m.more
  pub beats : p.transfer.beats ≡ m.transfer.beats

abbrev word_by : ℕ → ℕ → Word
word_by word code = record { word = word; code = code }

module _ (target : Target) (up down : Port) (end : ℕ) (cut : Cutting target up down end) where
  abbrev step : ℕ → Step
  step c = record { above = marked_at up c; parts = cut.parts c }

  abbrev pub steps : ℕ → List Step
  steps c = all_accepted (takes up) step c

  abbrev All : List Step → Type 0
  All ss = AllSent target up.shape ss

  pub shows_taken : (port : Port) (c : ℕ) → takes port c ≡ true → shows port.commands.signals c ≡ true
  shows_taken port c t = (and_parts (shows port.commands.signals c) (not (is_raised (port.commands.waitrequest c))) t).0

  pub shows_sending : (c : ℕ) → cut.sends c ≡ true → shows down.commands.signals c ≡ true
  shows_sending c e = cut.shown c ∙ ap (λ b. if b then true else shows up.commands.signals c) e

  pub shows_same : (c : ℕ) → cut.sends c ≡ false → shows down.commands.signals c ≡ shows up.commands.signals c
  shows_same c e = cut.shown c ∙ ap (λ b. if b then true else shows up.commands.signals c) e

  pub waits_sending : (c : ℕ) → cut.sends c ≡ true → takes up c ≡ false
  waits_sending c e = cut.accepts c ∙ ap (λ b. not b && takes down c) e

  pub takes_same : (c : ℕ) → cut.sends c ≡ false → takes up c ≡ takes down c
  takes_same c e = cut.accepts c ∙ ap (λ b. not b && takes down c) e

  pub left_sending : (c : ℕ) (d : Bool) → cut.sends c ≡ true → takes down c ≡ d → cut.left (suc c) ≡ (if d then cut.later c else cut.left c)
  left_sending c d e f = cut.goes c e ∙ ap (λ t. if t then cut.later c else cut.left c) f

  pub left_first : (c : ℕ) (t : Bool) → cut.sends c ≡ false → takes up c ≡ t → cut.left (suc c) ≡ (if t then cut.behind c else [])
  left_first c t e f = cut.accepted c e ∙ ap (λ t. if t then cut.behind c else []) f

  -- ---- what is shown of a transfer

  -- what is shown below is the first part of what stands above
  pub first_is : (c : ℕ) → c < end → cut.sends c ≡ false → shows up.commands.signals c ≡ true → IsPartOf target up.shape (marked_at up c) (marked_at down c)
  first_is c h idle shown =
      let head = first_of target up.shape (marked_at up c) (cut.parts c) (cut.is_sent c h shown).parts in
      let list = cut.first c h idle shown in
      let whole = head.whole in
      let is : marked_at down c ≡ head.first = cc in
      subst (IsPartOf target up.shape (marked_at up c)) (sym is) head.part

  only_part : (s : Step) → IsSent target up.shape s → length s.above.transfer.beats ≡ 1 → (p : Marked) (rest : List Marked) → s.parts ≡ p ∷ rest → IsOnePart s.above p rest
  only_part s sent one p rest e = by_parts rest (subst (AreParts target up.shape s.above) e sent.parts) (ap beats_of (sym e) ∙ sent.beats)
    where
      by_parts : (rest : List Marked) → AreParts target up.shape s.above (p ∷ rest) → beats_of (p ∷ rest) ≡ s.above.transfer.beats → IsOnePart s.above p rest
      by_parts [] are beats = record { none = refl; more = are.1; beats = sym (append-nil p.transfer.beats) ∙ beats }
      by_parts (q ∷ qs) are beats =
          let here = are.0.some in
          let next = head_some (first_of target up.shape s.above (q ∷ qs) are.2) in
          let size = ap length beats in
          let split = length-append p.transfer.beats (beats_of (q ∷ qs)) in
          let later = length-append q.transfer.beats (beats_of qs) in
          absurd (omega (arith, one, here, next, size, split, later))
        where
          head_some : HasFirst target up.shape s.above (q ∷ qs) → 0 < length q.transfer.beats
          head_some head =
              let whole = head.whole in
              let is : q ≡ head.first = cc in
              subst (λ (x : Marked). 0 < length x.transfer.beats) (sym is) head.part.some

  pub one_part : (c : ℕ) → c < end → cut.sends c ≡ false → shows up.commands.signals c ≡ true → length (marked_at up c).transfer.beats ≡ 1 → IsOnePart (marked_at up c) (marked_at down c) (cut.behind c)
  one_part c h idle shown one = only_part (step c) (cut.is_sent c h shown) one (marked_at down c) (cut.behind c) (cut.first c h idle shown)

  -- ---- what has gone

  pub up_steps : (c : ℕ) → taken_at up c ≡ map above_of (steps c)
  up_steps zero = refl
  up_steps (suc c) = ap₂ (λ x y. x ++ y) (up_steps c) (by_take (takes up c)) ∙ sym (map-append above_of (steps c) (only_if (takes up c) (step c)))
    where
      by_take : (t : Bool) → only_if t (marked_at up c) ≡ map above_of (only_if t (step c))
      by_take true = refl
      by_take false = refl

  -- the parts of all that was accepted are those that have gone, and those that are left
  pub gone : (c : ℕ) → c ≤ end → taken_at down c ++ cut.left c ≡ parts_of (steps c)
  gone zero h = cut.begins
  gone (suc c) h = by_sends (gone c (omega (arith, h))) (cut.sends c) refl (takes down c) refl
    where
      same_steps : takes up c ≡ false → steps (suc c) ≡ steps c
      same_steps e = ap (λ b. steps c ++ only_if b (step c)) e ∙ append-nil (steps c)

      none_taken : takes down c ≡ false → taken_at down (suc c) ≡ taken_at down c
      none_taken e = ap (λ b. taken_at down c ++ only_if b (marked_at down c)) e ∙ append-nil (taken_at down c)

      one_taken : takes down c ≡ true → taken_at down (suc c) ≡ taken_at down c ++ marked_at down c ∷ []
      one_taken e = ap (λ b. taken_at down c ++ only_if b (marked_at down c)) e

      by_sends : taken_at down c ++ cut.left c ≡ parts_of (steps c) → (b : Bool) → cut.sends c ≡ b → (d : Bool) → takes down c ≡ d → taken_at down (suc c) ++ cut.left (suc c) ≡ parts_of (steps (suc c))
      by_sends so_far true e false f =
          ap₂ (λ r l. r ++ l) (none_taken f) (left_sending c false e f) ∙ so_far ∙ ap parts_of (sym (same_steps (waits_sending c e)))
      by_sends so_far true e true f =
          ap₂ (λ r l. r ++ l) (one_taken f) (left_sending c true e f)
          ∙ append_assoc (taken_at down c) (marked_at down c ∷ []) (cut.later c)
          ∙ ap (λ l. taken_at down c ++ l) (sym (cut.sending c (omega (arith, h)) e))
          ∙ so_far ∙ ap parts_of (sym (same_steps (waits_sending c e)))
      by_sends so_far false e false f =
          let not_up = takes_same c e ∙ f in
          ap₂ (λ r l. r ++ l) (none_taken f) (left_first c false e not_up ∙ sym (cut.none c e)) ∙ so_far ∙ ap parts_of (sym (same_steps not_up))
      by_sends so_far false e true f =
          let is_up = takes_same c e ∙ f in
          let before : taken_at down c ≡ parts_of (steps c) = sym (append-nil (taken_at down c)) ∙ ap (λ l. taken_at down c ++ l) (sym (cut.none c e)) ∙ so_far in
          ap₂ (λ r l. r ++ l) (one_taken f) (left_first c true e is_up)
          ∙ append_assoc (taken_at down c) (marked_at down c ∷ []) (cut.behind c)
          ∙ ap₂ (λ r l. r ++ l) before (sym (cut.first c (omega (arith, h)) e (shows_taken up c is_up)) ∙ sym (append-nil (cut.parts c)))
          ∙ sym (flat_map-append parts_in (steps c) (step c ∷ [])) ∙ ap (λ b. parts_of (steps c ++ only_if b (step c))) (sym is_up)

  pub all_sent : (c : ℕ) → c ≤ end → All (steps c)
  all_sent zero h = tt
  all_sent (suc c) h = by_take (all_sent c (omega (arith, h))) (takes up c) refl
    where
      by_take : All (steps c) → (t : Bool) → takes up c ≡ t → All (steps c ++ only_if (takes up c) (step c))
      by_take so_far true t = subst (λ b. All (steps c ++ only_if b (step c))) (sym t) (sent_push target up.shape (steps c) (step c) so_far (cut.is_sent c (omega (arith, h)) (shows_taken up c t)))
      by_take so_far false t = subst (λ b. All (steps c ++ only_if b (step c))) (sym t) (subst All (sym (append-nil (steps c))) so_far)

  -- ---- what stands and what is shown

  abbrev shown_steps : ℕ → List Step
  shown_steps c = steps c ++ standing (shows up.commands.signals) (takes up) step c

  up_shown : (c : ℕ) → c ≤ end → shown_at up c ≡ map above_of (shown_steps c)
  up_shown c h =
      shown_is_accepted_and_standing (shows up.commands.signals) (takes up) (marked_at up) end c (marked_keeps up end cut.legal) h
      ∙ ap₂ (λ x y. x ++ y) (up_steps c) (stood c) ∙ sym (map-append above_of (steps c) (standing (shows up.commands.signals) (takes up) step c))
    where
      stood : (c : ℕ) → standing (shows up.commands.signals) (takes up) (marked_at up) c ≡ map above_of (standing (shows up.commands.signals) (takes up) step c)
      stood zero = refl
      stood (suc c) = by_held (is_held up.commands.signals (takes up) c)
        where
          by_held : (b : Bool) → only_if b (marked_at up c) ≡ map above_of (only_if b (step c))
          by_held true = refl
          by_held false = refl

  all_shown : (c : ℕ) → c ≤ end → All (shown_steps c)
  all_shown zero h = tt
  all_shown (suc c) h = by_held (is_held up.commands.signals (takes up) c) refl
    where
      by_held : (b : Bool) → is_held up.commands.signals (takes up) c ≡ b → All (steps (suc c) ++ only_if b (step c))
      by_held true e = sent_push target up.shape (steps (suc c)) (step c) (all_sent (suc c) h) (cut.is_sent c (omega (arith, h)) (and_parts (shows up.commands.signals c) (not (takes up c)) e).0)
      by_held false e = subst All (sym (append-nil (steps (suc c)))) (all_sent (suc c) h)

  pub taken_front : (c : ℕ) → c ≤ end → IsPrefix (taken_at down c) (parts_of (steps c))
  taken_front c h = record { rest = cut.left c; joins = gone c h }

  -- what is shown below is a front of the parts of what is shown above
  down_shown : (c : ℕ) → c ≤ end → IsPrefix (shown_at down c) (parts_of (shown_steps c))
  down_shown c h =
      subst (λ l. IsPrefix l (parts_of (shown_steps c))) (sym (shown_is_accepted_and_standing (shows down.commands.signals) (takes down) (marked_at down) end c (marked_keeps down end cut.legal_below) h)) (fronts c h)
    where
      fronts : (c : ℕ) → c ≤ end → IsPrefix (taken_at down c ++ standing (shows down.commands.signals) (takes down) (marked_at down) c) (parts_of (shown_steps c))
      fronts zero h = record { rest = []; joins = refl }
      fronts (suc c) h = by_held (is_held down.commands.signals (takes down) c) refl
        where
          whole : parts_of (shown_steps (suc c)) ≡ parts_of (steps (suc c)) ++ parts_of (only_if (is_held up.commands.signals (takes up) c) (step c))
          whole = flat_map-append parts_in (steps (suc c)) (only_if (is_held up.commands.signals (takes up) c) (step c))

          wider : {xs : List Marked} → IsPrefix xs (parts_of (steps (suc c))) → IsPrefix xs (parts_of (shown_steps (suc c)))
          wider {xs} p = prefix_trans p (record { rest = parts_of (only_if (is_held up.commands.signals (takes up) c) (step c)); joins = sym whole })

          by_held : (b : Bool) → is_held down.commands.signals (takes down) c ≡ b → IsPrefix (taken_at down (suc c) ++ only_if b (marked_at down c)) (parts_of (shown_steps (suc c)))
          by_held false e = subst (λ l. IsPrefix l (parts_of (shown_steps (suc c)))) (sym (append-nil (taken_at down (suc c)))) (wider (taken_front (suc c) h))
          by_held true e = by_sends (cut.sends c) refl
            where
              not_taken : takes down c ≡ false
              not_taken = not-true (takes down c) (and_parts (shows down.commands.signals c) (not (takes down c)) e).1

              by_sends : (b : Bool) → cut.sends c ≡ b → IsPrefix (taken_at down (suc c) ++ marked_at down c ∷ []) (parts_of (shown_steps (suc c)))
              by_sends true s = wider (record {
                rest = cut.later c;
                joins = append_assoc (taken_at down (suc c)) (marked_at down c ∷ []) (cut.later c)
                    ∙ ap (λ l. taken_at down (suc c) ++ l) (sym (left_sending c false s not_taken ∙ cut.sending c (omega (arith, h)) s)) ∙ gone (suc c) h;
              })
              by_sends false s =
                  let shown = (and_parts (shows down.commands.signals c) (not (takes down c)) e).0 in
                  let above = sym (shows_same c s) ∙ shown in
                  let not_up = takes_same c s ∙ not_taken in
                  let stands : is_held up.commands.signals (takes up) c ≡ true = ap₂ (λ s t. s && not t) above not_up in
                  let taken : taken_at down (suc c) ≡ parts_of (steps (suc c)) = sym (append-nil (taken_at down (suc c))) ∙ ap (λ l. taken_at down (suc c) ++ l) (sym (left_first c false s not_up)) ∙ gone (suc c) h in
                  record {
                    rest = cut.behind c;
                    joins = append_assoc (taken_at down (suc c)) (marked_at down c ∷ []) (cut.behind c)
                        ∙ ap₂ (λ r l. r ++ l) taken (sym (cut.first c (omega (arith, h)) s above) ∙ sym (append-nil (cut.parts c)) ∙ ap (λ b. parts_of (only_if b (step c))) (sym stands))
                        ∙ sym whole;
                  }

  -- ---- one transfer at most is held

  abbrev first_part : Step → List Marked
  first_part s = take 1 s.parts

  pub record Holds (c : ℕ) : Type 0 where
    pub front : List Step
    pub last : List Step
    pub whole : steps c ≡ front ++ last
    pub few : length last ≤ 1
    pub reached : IsPrefix (parts_of front) (taken_at down c)
    pub begun : IsPrefix (parts_of front ++ flat_map first_part last) (taken_at down c)

  pub holds : (c : ℕ) → c ≤ end → Holds c
  holds zero h = record { front = []; last = []; whole = refl; few = omega arith; reached = prefix_refl []; begun = prefix_refl [] }
  holds (suc c) h = by_take (holds c (omega (arith, h))) (takes up c) refl
    where
      extends : IsPrefix (taken_at down c) (taken_at down (suc c))
      extends = before_extends (λ k. only_if (takes down k) (marked_at down k)) c

      by_take : Holds c → (t : Bool) → takes up c ≡ t → Holds (suc c)
      by_take now false t = record {
        front = now.front;
        last = now.last;
        whole = ap (λ b. steps c ++ only_if b (step c)) t ∙ append-nil (steps c) ∙ now.whole;
        few = now.few;
        reached = prefix_trans now.reached extends;
        begun = prefix_trans now.begun extends;
      }
      by_take now true t = by_sends (cut.sends c) refl
        where
          by_sends : (b : Bool) → cut.sends c ≡ b → Holds (suc c)
          by_sends true s = absurd (both_ways (takes up c) (waits_sending c s) t)
          by_sends false s =
              let before : taken_at down c ≡ parts_of (steps c) = sym (append-nil (taken_at down c)) ∙ ap (λ l. taken_at down c ++ l) (sym (cut.none c s)) ∙ gone c (omega (arith, h)) in
              let taken : takes down c ≡ true = sym (takes_same c s) ∙ t in
              let first : first_part (step c) ≡ marked_at down c ∷ [] = ap (take 1) (cut.first c (omega (arith, h)) s (shows_taken up c t)) in
              record {
                front = steps c;
                last = step c ∷ [];
                whole = ap (λ b. steps c ++ only_if b (step c)) t;
                few = omega arith;
                reached = subst (λ l. IsPrefix l (taken_at down (suc c))) before extends;
                begun = record {
                  rest = [];
                  joins = append-nil _ ∙ ap₂ (λ x y. x ++ y) (sym before) (append-nil (first_part (step c)) ∙ first) ∙ ap (λ b. taken_at down c ++ only_if b (marked_at down c)) (sym taken);
                };
              }

  -- operations that are taken below, as those of the words above
  pub same_taken : (c : ℕ) → operations_among target down.shape (taken_at down c) ≡ operations_among target up.shape (taken_at down c)
  same_taken c = same_among target up.shape down.shape cut.same (taken_at down c)

  -- the operations of all but the last one are taken
  reached_below : (c : ℕ) (h : c ≤ end) → (now : Holds c) → total (sizes target up.shape (map above_of now.front)) ≤ length (operations_among target down.shape (taken_at down c))
  reached_below c h now =
      let sent = sent_front target up.shape now.front now.last (subst All now.whole (all_sent c h)) in
      let sum = total_sizes target up.shape (map above_of now.front) in
      let same = ap length (all_operations target up.shape now.front sent) in
      let fewer = prefix_length (prefix_flat_map (operations_in target up.shape) now.reached) in
      let taken = ap length (same_taken c) in
      omega (arith, sum, same, fewer, taken)

  one_piece : pieces up.shape down.shape ≡ 1
  one_piece = ap (λ n. up.shape.word_bytes / min up.shape.word_bytes n) cut.same ∙ same_pieces up.shape cut.some

  carried : CarriesCommands target 1 up down end
  carried = record {
    in_order = λ k h.
        subst (λ l. IsPrefix (items target down k) (items_from target up.shape false l)) (sym (up_shown k h))
        (subst (λ l. IsPrefix (items target down k) l) (same_items target up.shape down.shape cut.same false (parts_of (shown_steps k)) ∙ all_items target up.shape (shown_steps k) (all_shown k h) false) (items_prefix target down.shape false (down_shown k h)));
    beats = λ k tag h.
        let fewer = prefix_length (prefix_flat_map beats_in (prefix_filter (λ (m : Marked). nat_eq m.tag tag) (down_shown k h))) in
        let same = ap length (all_tagged target up.shape tag (shown_steps k) (all_shown k h) ∙ ap (beats_with tag) (sym (up_shown k h))) in
        rw one_piece (omega (arith, fewer, same));
    legal = cut.legal_below;
    held = λ k h.
        let now = holds k h in
        let split : sizes target up.shape (taken_at up k) ≡ sizes target up.shape (map above_of now.front) ++ sizes target up.shape (map above_of now.last) =
        ap (sizes target up.shape) (up_steps k ∙ ap (map above_of) now.whole ∙ map-append above_of now.front now.last)
        ∙ map-append (λ (m : Marked). length (operations_in target up.shape m)) (map above_of now.front) (map above_of now.last) in
        let most = unreached_past (sizes target up.shape (map above_of now.front)) (sizes target up.shape (map above_of now.last)) (length (operations_among target down.shape (taken_at down k))) (reached_below k h now) in
        let size = length-map (map above_of now.last) (λ (m : Marked). length (operations_in target up.shape m)) ∙ length-map now.last above_of in
        let few = now.few in
        let all = ap (λ l. unreached l (length (operations_among target down.shape (taken_at down k)))) split in
        omega (arith, most, size, few, all);
    whole = λ k h.
        let p = prefix_map (λ (m : Marked). length (operations_in target up.shape m)) (down_shown k h) in
        subst (λ l. AreWithin l (sizes target up.shape (shown_at up k))) (sym (same_sizes target up.shape down.shape cut.same (shown_at down k)))
        (subst (λ l. AreWithin (sizes target up.shape (shown_at down k)) (sizes target up.shape l)) (sym (up_shown k h))
        (within_front _ _ (within_below target up.shape (shown_steps k) (all_shown k h)) (sizes target up.shape (shown_at down k)) p.rest p.joins));
  }

  cut_lanes : HasLanes target up end → HasLanes target down end
  cut_lanes has k h = by_enables target.shape.has_enables (has k h)
    where
      by_enables : (b : Bool) → IsTrue (b || list_all (have_operations target up.shape) (shown_at up k)) → IsTrue (b || list_all (have_operations target down.shape) (shown_at down k))
      by_enables true all = refl
      by_enables false all =
          let front = down_shown k h in
          same_lanes target up.shape down.shape cut.same (shown_at down k)
          ∙ all_front (have_operations target up.shape) (shown_at down k) front.rest
          (subst (λ l. IsTrue (list_all (have_operations target up.shape) l)) (sym front.joins)
          (lanes_below target up.shape (shown_steps k) (all_shown k h) (subst (λ l. IsTrue (list_all (have_operations target up.shape) l)) (up_shown k h) all)))

  cut_joins : (k : ℕ) → k ≤ end → IsTrue (are_joined_alike target up (shown_at up k)) → IsTrue (are_joined_alike target down (shown_at down k))
  cut_joins k h joined =
      same_joined target up down cut.same (shown_at down k)
      ∙ alike_prefix target up (down_shown k h) (joins_below target up (shown_steps k) (all_shown k h) (subst (λ l. IsTrue (are_joined_alike target up l)) (up_shown k h) joined))

  -- ---- answers are wires

  every_valid : up.answers.valid ≡ down.answers.valid
  every_valid = λ i c. cut.valid c i

  pub words_same : (c : ℕ) → words_at up c ≡ words_at down c
  words_same zero = refl
  words_same (suc c) = ap₂ (λ x y. x ++ y) (words_same c) (ap₂ (λ v w. only_if (is_raised v) w) (cut.valid c) (ap₂ (λ w k. word_by w k) (cut.word c) (cut.code c)))

  pub reads_front : (c : ℕ) → c ≤ end → IsPrefix (read_beats (taken_at down c)) (read_beats (taken_at up c))
  reads_front c h =
      subst (λ l. IsPrefix (read_beats (taken_at down c)) l) (all_reads target up.shape (steps c) (all_sent c h) ∙ ap read_beats (sym (up_steps c)))
      (prefix_flat_map beats_in (prefix_filter (λ (m : Marked). is_of_reads m.transfer.kind) (taken_front c h)))

  pub few_words : (c : ℕ) → AnswersAreOwed down c → length (words_at down c) ≤ words_owed down c
  few_words zero owed = omega arith
  few_words (suc c) owed =
      let there = owed c (omega arith) in
      let counts : words_before down.answers.valid (suc c) ≡ length (words_at down (suc c)) = same_counts (λ c. is_raised (down.answers.valid c)) (λ c. c) (λ c. record { word = down.answers.word c; code = down.answers.code c }) (suc c) in
      let grown : words_owed down c ≤ words_owed down (suc c) = prefix_length (prefix_flat_map (λ (m : Marked). m.transfer.beats) (prefix_filter (λ (m : Marked). is_of_reads m.transfer.kind) (before_extends _ c))) in
      omega (arith, there, counts, grown)

  paired : (c : ℕ) → c ≤ end → AnswersAreOwed down c → zip (read_beats (taken_at up c)) (words_at up c) ≡ zip (read_beats (taken_at down c)) (words_at down c)
  paired c h owed =
      let front = reads_front c h in
      ap₂ (λ bs ws. zip bs ws) (sym front.joins) (words_same c) ∙ zip_front (read_beats (taken_at down c)) front.rest (words_at down c) (few_words c owed)

  answers_same : (c : ℕ) → c ≤ end → AnswersAreOwed down c → answers_at target up c ≡ answers_at target down c
  answers_same c h owed =
      ap (flat_map (λ (p : Beat × Word). bytes_in target up.shape p.0 p.1)) (paired c h owed)
      ∙ ap (λ n. flat_map (λ (p : Beat × Word). bytes_in target (record up.shape { word_bytes = n }) p.0 p.1) (zip (read_beats (taken_at down c)) (words_at down c))) (sym cut.same)

  blocks_same : (c : ℕ) → c ≤ end → AnswersAreOwed down c → blocks_at target up c ≡ blocks_at target down c
  blocks_same c h owed =
      ap (flat_map (λ (p : Beat × Word). record { size = length (filled_lanes up.shape target.shape p.0.enables); code = p.1.code } ∷ [])) (paired c h owed)
      ∙ ap (λ n. flat_map (λ (p : Beat × Word). record { size = length (filled_lanes (record up.shape { word_bytes = n }) target.shape p.0.enables); code = p.1.code } ∷ []) (zip (read_beats (taken_at down c)) (words_at down c))) (sym cut.same)

  brings_back : AnswersAreOwed down end → BringsBack target up down end
  brings_back owed = record {
    bytes = λ c h. subst (λ l. IsPrefix (bytes_of l) (bytes_of (answers_at target down c))) (sym (answers_same c h (λ k less. owed k (omega (arith, h, less))))) (prefix_refl _);
    owed = λ c h.
        let there = owed c h in
        let more = prefix_length (reads_front c (omega (arith, h))) in
        subst (λ (v : ℕ → ℕ). words_before v (suc c) ≤ words_owed up c) (sym every_valid) (omega (arith, there, more));
  }

  greatest : (row : KeepsRow target 0 down down end) → (c : ℕ) → c ≤ end → AnswersAreOwed down end → AreGreatest (worded (blocks_at target up c)) (codes_of (answers_at target down c))
  greatest row c h owed =
      subst (λ bs. AreGreatest (worded bs) (codes_of (answers_at target down c))) (sym (blocks_same c h (λ k less. owed k (omega (arith, h, less)))))
      (row.codes c h (legal_at_before down c end h cut.legal_below) (λ k less. owed k (omega (arith, h, less))))

  cut_words : (c : ℕ) → c ≤ end → AnswersAreOwed down c → IsPrefix (worded (blocks_at target up c)) (worded (blocks_at target down c))
  cut_words c h owed = subst (λ bs. IsPrefix (worded bs) (worded (blocks_at target down c))) (sym (blocks_same c h owed)) (prefix_refl _)

  cut_quiet : (c : ℕ) → c ≤ end → IsTrue (are_answered up (shown_at up c) c) → IsTrue (are_answered down (shown_at down c) c)
  cut_quiet c h answered =
      let given = leb-true (length (read_beats (shown_at up c))) (length (words_at up c)) answered in
      let fewer = prefix_length (prefix_flat_map beats_in (prefix_filter (λ (m : Marked). is_of_reads m.transfer.kind) (down_shown c h))) in
      let same = ap length (all_reads target up.shape (shown_steps c) (all_shown c h) ∙ ap read_beats (sym (up_shown c h))) in
      let words = ap length (words_same c) in
      le-leb _ _ (omega (arith, given, fewer, same, words))

  -- ---- how it goes on

  -- where nothing is left, all that was accepted is taken
  pub all_gone : (c : ℕ) → c ≤ end → cut.sends c ≡ false → taken_at down c ≡ parts_of (steps c)
  all_gone c h e = sym (append-nil (taken_at down c)) ∙ ap (λ l. taken_at down c ++ l) (sym (cut.none c e)) ∙ gone c h

  owed_when_gone : (c : ℕ) → c < end → cut.sends (suc c) ≡ false → is_owed up c ≡ is_owed down c
  owed_when_gone c h e =
      ap₂ (λ a b. nat_lt a b) (ap length (words_same (suc c)))
      (ap (λ l. length (read_beats l)) (up_steps (suc c)) ∙ ap length (sym (all_reads target up.shape (steps (suc c)) (all_sent (suc c) h))) ∙ ap (λ l. length (read_beats l)) (sym (all_gone (suc c) h e)))

  pub still_sending : (c : ℕ) → cut.sends c ≡ false → takes up c ≡ false → cut.sends (suc c) ≡ false
  still_sending c e t = cut.over (suc c) (left_first c false e t)

  -- as many operations are taken below as above, where nothing is left
  pub operations_gone : (c : ℕ) → c ≤ end → cut.sends c ≡ false → length (operations_among target down.shape (taken_at down c)) ≡ length (operations_among target up.shape (taken_at up c))
  operations_gone c h e =
      ap length (same_taken c ∙ ap (operations_among target up.shape) (all_gone c h e) ∙ all_operations target up.shape (steps c) (all_sent c h)) ∙ ap (λ l. length (operations_among target up.shape l)) (sym (up_steps c))

  gives : GivesWhatHasCome target up down end
  gives c h owed = by_next (cut.sends (suc c)) refl
    where
      by_next : (b : Bool) → cut.sends (suc c) ≡ b → IsTrue (is_behind target up down c || (moves_commands up down c || is_raised (up.answers.valid (suc c))) || is_owed down c)
      by_next false e = or_right _ (is_owed down c) (sym (owed_when_gone c (omega (arith, h)) e) ∙ owed)
      by_next true e = by_sends (cut.sends c) refl (takes down c) refl
        where
          by_sends : (b : Bool) → cut.sends c ≡ b → (d : Bool) → takes down c ≡ d → IsTrue (is_behind target up down c || (moves_commands up down c || is_raised (up.answers.valid (suc c))) || is_owed down c)
          by_sends b s true d = or_left _ _ (or_right (is_behind target up down c) _ (or_left _ _ (or_left _ _ d)))
          by_sends true s false d = or_left _ _ (or_left _ _ (or_right (is_untaken target up down c) _ (ap₂ (λ x y. x && not y) (shows_sending c s) d)))
          by_sends false s false d = absurd (both_ways (cut.sends (suc c)) (still_sending c s (takes_same c s ∙ d)) e)

  never : (c : ℕ) → c < end → IsTrue (has_link_work target up down c) → IsTrue (not (moves_commands up down c)) → IsTrue (not (is_excused up down c)) → ⊥
  never c h work still must =
      let two = or_parts (takes down c) (takes up c) (by_not (takes down c || takes up c) still) in
      let first = or_parts (is_held down.commands.signals (takes down) c || (is_owed down c && not (is_writing down c))) (may_rest up c) (by_not (is_excused up down c) must) in
      let second = or_parts (is_held down.commands.signals (takes down) c) (is_owed down c && not (is_writing down c)) first.0 in
      by_sends (cut.sends c) refl (shows up.commands.signals c) refl two.0 two.1 second.0 second.1 first.1
    where
      by_sends : (b : Bool) → cut.sends c ≡ b → (s : Bool) → shows up.commands.signals c ≡ s → IsFalse (takes down c) → IsFalse (takes up c) → IsFalse (is_held down.commands.signals (takes down) c) → IsFalse (is_owed down c && not (is_writing down c)) → IsFalse (may_rest up c) → ⊥
      by_sends true e s f not_down not_up held owes rest = both_ways (is_held down.commands.signals (takes down) c) held (ap₂ (λ x y. x && not y) (shows_sending c e) not_down)
      by_sends false e true f not_down not_up held owes rest = both_ways (is_held down.commands.signals (takes down) c) held (ap₂ (λ x y. x && not y) (shows_same c e ∙ f) not_down)
      by_sends false e false f not_down not_up held owes rest =
          let next = still_sending c e not_up in
          let same = all_gone (suc c) h next in
          let sent = all_sent (suc c) h in
          let ups = up_steps (suc c) in
          let held_up : is_held up.commands.signals (takes up) c ≡ false = ap (λ s. s && not (takes up c)) f in
          let all : shown_at up (suc c) ≡ taken_at up (suc c) =
          shown_is_accepted_and_standing (shows up.commands.signals) (takes up) (marked_at up) end (suc c) (marked_keeps up end cut.legal) h
          ∙ ap (λ b. taken_at up (suc c) ++ only_if b (marked_at up c)) held_up ∙ append-nil (taken_at up (suc c)) in
          let ops = operations_gone (suc c) h next in
          let shown = ap (λ l. length (operations_among target up.shape l)) all in
          let unclosed : is_unclosed up c ≡ is_unclosed down c = ap is_last_joined ups ∙ sym (more_below target up.shape (steps (suc c)) sent) ∙ ap is_last_joined (sym same) in
          let writes : is_last_write (taken_at up (suc c)) ≡ is_last_write (taken_at down (suc c)) = ap is_last_write ups ∙ sym (write_below target up.shape (steps (suc c)) sent) ∙ ap is_last_write (sym same) in
          four_of (is_held up.commands.signals (takes up) c)
          (nat_lt (length (operations_among target down.shape (taken_at down (suc c)))) (length (operations_among target up.shape (shown_at up (suc c))))) (is_unclosed down c) (is_held down.commands.signals (takes down) c) work
          (λ w. both_ways (is_held up.commands.signals (takes up) c) held_up w)
          (λ w. (let less = ltb-true (length (operations_among target down.shape (taken_at down (suc c)))) (length (operations_among target up.shape (shown_at up (suc c)))) w in omega (arith, less, ops, shown)))
          (λ w. open_rests (is_unclosed up c) (is_last_write (taken_at up (suc c))) (is_owed up c) (is_owed down c) (unclosed ∙ w) (owed_when_gone c h next)
          (ap₂ (λ u l. is_owed down c && not (u && l)) unclosed writes ∙ owes)
          (ap (λ s. is_unclosed up c && not s && (is_last_write (taken_at up (suc c)) || not (is_owed up c))) (sym f) ∙ rest))
          (λ w. both_ways (is_held down.commands.signals (takes down) c) held w)

  holds_back : HoldsBack 1 target up down end
  holds_back c h =
      let now = holds c h in
      let f = accepted_of target up.shape in
      let split : map f (taken_at up c) ≡ map f (map above_of now.front) ++ map f (map above_of now.last) = ap (map f) (up_steps c ∙ ap (map above_of) now.whole ∙ map-append above_of now.front now.last) ∙ map-append f (map above_of now.front) (map above_of now.last) in
      let sum = total_accepted target up.shape (map above_of now.front) in
      let sizes_sum = total_sizes target up.shape (map above_of now.front) in
      let reached = reached_below c h now in
      let most = held_past (map f (map above_of now.front)) (map f (map above_of now.last)) (length (operations_among target down.shape (taken_at down c))) (omega (arith, sum, sizes_sum, reached)) in
      let size = length-map (map above_of now.last) f ∙ length-map now.last above_of in
      let few = now.few in
      let all = ap (λ l. held_back l (length (operations_among target down.shape (taken_at down c)))) split in
      omega (arith, most, size, few, all)

  cut_goes_on : GoesOn target (record { largest = 0; hold = 1 }) up down end
  cut_goes_on = record {
    rank = λ c. 0;
    going = record {
      legal = cut.legal;
      legal_down = cut.legal_below;
      falls = words_move up down (record {
        bounded = λ c h. le_refl 0;
        falls = λ c h work still must. absurd (never c h work still must);
        stays = λ c h work still. le_refl 0;
      });
      words = gives;
    };
    holds = holds_back;
  }

-- ---- a write beat that ends its command

-- a cutter of bursts, while it sends no read by itself
pub cutter_shows_writes : (target : Target) (up down : Port) (end : ℕ) (cut : Cutting target up down end) → (c : ℕ) → c < end → cut.sends c ≡ false → ShowsWrite up down c
cutter_shows_writes target up down end cut c h idle shown write ends = (
  shows_same target up down end cut c idle ∙ shown,
  by_write (is_raised (down.commands.write c)) refl,
  part.closes_so ∙ ap not (one_part target up down end cut c h idle shown one).more ∙ (and_parts (marked_at up c).transfer.ends (not (is_raised (up.commands.more c))) ends).1,
)
  where
    part : IsPartOf target up.shape (marked_at up c) (marked_at down c)
    part = first_is target up down end cut c h idle shown

    transfer_when : (port : Port) (w : Bool) → is_raised (port.commands.write c) ≡ w →
        (marked_at port c).transfer ≡ (if w then write_transfer port.shape (levels_at port.commands.signals c) (burst_before port.shape port.commands.signals (takes port) c) else read_transfer port.shape (levels_at port.commands.signals c))
    transfer_when port w e = ap (λ w. if w then write_transfer port.shape (levels_at port.commands.signals c) (burst_before port.shape port.commands.signals (takes port) c) else read_transfer port.shape (levels_at port.commands.signals c)) e

    one : length (marked_at up c).transfer.beats ≡ 1
    one = ap (λ (t : Transfer). length t.beats) (transfer_when up true write)

    by_write : (w : Bool) → is_raised (down.commands.write c) ≡ w → is_raised (down.commands.write c) ≡ true
    by_write true e = e
    by_write false e =
        let reads : is_of_reads (marked_at down c).transfer.kind ≡ true = ap (λ (t : Transfer). is_of_reads t.kind) (transfer_when down false e) in
        let writes : is_of_reads (marked_at up c).transfer.kind ≡ false = ap (λ (t : Transfer). is_of_reads t.kind) (transfer_when up true write) in
        absurd (both_ways (is_of_reads (marked_at down c).transfer.kind) (ap is_of_reads part.kind ∙ writes) reads)

-- ---- the whole

module _ (wire : (target : Target) (port : Port) (end : ℕ) → 0 < port.shape.word_bytes → KeepsRow target 0 port port end) (target : Target) (up down : Port) (end : ℕ) (some : 0 < down.shape.word_bytes)
    (cuts : (c : ℕ) → c ≤ end → AreLegalAt up c → Cutting target up down c) where
  cut_row : KeepsRow target 1 up down end
  cut_row = record {
    carries = record {
      commands = λ c h legal owed. carried target up down c (cuts c h legal);
      answers = λ c h legal owed. brings_back target up down c (cuts c h legal) owed;
    };
    codes = λ c h legal owed. greatest target up down c (cuts c h legal) (wire target down c some) c (le_refl c) owed;
    hands_on = λ c h legal owed. (cuts c h legal).hands_on;
  }

  pub cut_is_link : IsLink (cut_form target) up down end
  cut_is_link = record {
    row = cut_row;
    words = λ is c h legal owed. cut_words target up down c (cuts c h legal) c (le_refl c) owed;
    lanes = λ c h legal owed has. cut_lanes target up down c (cuts c h legal) (has refl);
    joins = λ c h legal owed alike k less. cut_joins target up down c (cuts c h legal) k less (alike k less);
    quiet = λ c h legal owed answered. cut_quiet target up down c (cuts c h legal) c (le_refl c) answered;
    goes_on = λ legal owed alike. further (cut_goes_on target up down end (cuts end (le_refl end) legal)) at_end;
  }
