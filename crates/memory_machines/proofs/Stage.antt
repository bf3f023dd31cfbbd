-- What a side takes is told by its list of beats; what a stage with a queue shows is legal, and was taken above before.
use Rattle.std.proofs.Common.{ℕ, zero, suc, ◌<◌, ◌≤◌, ◌≡◌, [], ◌∷◌, ◌++◌, List, Bool, true, false, not, ◌&&◌, arith, refl, sym, ap, ap₂, ◌∙◌, append_assoc, append-nil, subst, drop, if◌then◌else◌}
use Rattle.std.proofs.lemmas.Bool.{not-true, and_parts}
use Rattle.histories.specs.Laws.{shown_is_accepted_and_standing}
use Rattle.histories.specs.History.{standing, only_if, is_raised, IsPrefix}
use Rattle.memory_runs.specs.Views.{Shape, levels_at}
use Rattle.memory_machines.specs.Paths.{CommandView, AnswerView}
use Rattle.memory_runs.specs.Commands.{Burst, burst_after, burst_before, shows, is_held}
use Rattle.memory_machines.specs.Link.{Port, Marked, takes, marked_at, taken_at, shown_at, AreLegalAt}
use Rattle.memory_machines.specs.Machines.{Raw, raw_at, raws, idle, mark, burst_past, marked, burst_of, IsFitBeat, ShowsHead, IsStageRun, port_of, AreFit}
use Rattle.memory_machines.specs.SideLaws.{marked_keeps, fit_when_shown, legal_when_shown}

pub burst_of_append : (shape : Shape) (burst : Burst) (xs ys : List Raw) → burst_of shape burst (xs ++ ys) ≡ burst_of shape (burst_of shape burst xs) ys
burst_of_append shape burst [] ys = refl
burst_of_append shape burst (x ∷ xs) ys = burst_of_append shape (burst_past shape burst x) xs ys

pub marked_append : (shape : Shape) (burst : Burst) (xs ys : List Raw) → marked shape burst (xs ++ ys) ≡ marked shape burst xs ++ marked shape (burst_of shape burst xs) ys
marked_append shape burst [] ys = refl
marked_append shape burst (x ∷ xs) ys = ap (λ l. mark shape burst x ∷ l) (marked_append shape (burst_past shape burst x) xs ys)

burst_step : (port : Port) (c : ℕ) (old : Burst) → burst_before port.shape port.commands.signals (takes port) c ≡ old → (b : Bool) →
    burst_after port.shape (levels_at port.commands.signals c) b (burst_before port.shape port.commands.signals (takes port) c) ≡ burst_of port.shape old (only_if b (raw_at port c))
burst_step port c old same true = ap (λ s. burst_after port.shape (levels_at port.commands.signals c) true s) same
burst_step port c old same false = same

-- where a side's burst stands is told by what it has taken
pub burst_is : (port : Port) (c : ℕ) → burst_before port.shape port.commands.signals (takes port) c ≡ burst_of port.shape idle (raws port c)
burst_is port zero = refl
burst_is port (suc c) =
    burst_step port c (burst_of port.shape idle (raws port c)) (burst_is port c) (takes port c)
    ∙ sym (burst_of_append port.shape idle (raws port c) (only_if (takes port c) (raw_at port c)))

mark_step : (port : Port) (c : ℕ) (b : Bool) → only_if b (marked_at port c) ≡ marked port.shape (burst_of port.shape idle (raws port c)) (only_if b (raw_at port c))
mark_step port c true = ap (λ s. mark port.shape s (raw_at port c) ∷ []) (burst_is port c)
mark_step port c false = refl

-- and so are its transfers
pub taken_is : (port : Port) (c : ℕ) → taken_at port c ≡ marked port.shape idle (raws port c)
taken_is port zero = refl
taken_is port (suc c) = ap₂ (λ xs ys. xs ++ ys) (taken_is port c) (mark_step port c (takes port c)) ∙ sym (marked_append port.shape idle (raws port c) (only_if (takes port c) (raw_at port c)))

pub fit_push : (shape : Shape) (burst : Burst) (xs : List Raw) (raw : Raw) → AreFit shape burst xs → IsFitBeat shape (burst_of shape burst xs) raw → AreFit shape burst (xs ++ raw ∷ [])
fit_push shape burst [] raw fits fit = (fit, tt)
fit_push shape burst (x ∷ xs) raw fits fit = (fits.0, fit_push shape (burst_past shape burst x) xs raw fits.1 fit)

pub fit_at : (shape : Shape) (burst : Burst) (xs : List Raw) (raw : Raw) (later : List Raw) → AreFit shape burst (xs ++ raw ∷ later) → IsFitBeat shape (burst_of shape burst xs) raw
fit_at shape burst [] raw later fits = fits.0
fit_at shape burst (x ∷ xs) raw later fits = fit_at shape (burst_past shape burst x) xs raw later fits.1

-- all that a legal side has taken is fit
pub fits : (port : Port) (end c : ℕ) → AreLegalAt port end → c ≤ end → AreFit port.shape idle (raws port c)
fits port end zero legal h = tt
fits port end (suc c) legal h =
    by_test (takes port c) refl (fits port end c legal (omega arith))
  where
    by_test : (b : Bool) → takes port c ≡ b → AreFit port.shape idle (raws port c) → AreFit port.shape idle (raws port c ++ only_if b (raw_at port c))
    by_test true taken earlier =
        let fit = fit_when_shown port end c legal (omega arith) (and_parts (shows port.commands.signals c) (not (is_raised (port.commands.waitrequest c))) taken).0 in
        fit_push port.shape idle (raws port c) (raw_at port c) earlier (subst (λ b. IsFitBeat port.shape b (raw_at port c)) (burst_is port c) fit)
    by_test false taken earlier = subst (AreFit port.shape idle) (sym (append-nil (raws port c))) earlier

pub prefix_behind : {A : Type 0} (xs : List A) {some all : List A} → IsPrefix some all → IsPrefix (xs ++ some) (xs ++ all)
prefix_behind xs {some} p = record { rest = p.rest; joins = append_assoc xs some p.rest ∙ ap (λ l. xs ++ l) p.joins }

module _ (depth : ℕ) (up down : Port) (queue : ℕ → List Raw) (run : IsStageRun depth up down queue) where
  step : (c : ℕ) (t : Bool) (q : List Raw) → takes down c ≡ t → ShowsHead down c q → q ≡ only_if t (raw_at down c) ++ drop (if t then 1 else 0) q
  step c true [] taken head = let bad = (and_parts (shows down.commands.signals c) (not (is_raised (down.commands.waitrequest c))) taken).0 in cc
  step c true (raw ∷ later) taken head = ap (λ r. r ∷ later) (sym head.1)
  step c false q taken head = refl

  -- what was taken above is what was taken below and what is queued
  pub all_there : (c : ℕ) → raws up c ≡ raws down c ++ queue c
  all_there zero = sym run.begins
  all_there (suc c) =
      ap (λ l. l ++ only_if (takes up c) (raw_at up c)) (all_there c ∙ ap (λ l. raws down c ++ l) (step c (takes down c) (queue c) refl (run.heads c)) ∙ sym (append_assoc (raws down c) (only_if (takes down c) (raw_at down c)) (drop (if takes down c then 1 else 0) (queue c))))
      ∙ append_assoc (raws down c ++ only_if (takes down c) (raw_at down c)) (drop (if takes down c then 1 else 0) (queue c)) (only_if (takes up c) (raw_at up c))
      ∙ ap (λ l. (raws down c ++ only_if (takes down c) (raw_at down c)) ++ l) (sym (run.next c))

-- the same, where both sides have one shape
module _ (depth : ℕ) (shape : Shape) (uc dc : CommandView) (ua da : AnswerView) (queue : ℕ → List Raw) (run : IsStageRun depth (port_of shape uc ua) (port_of shape dc da) queue) where
  -- a held beat is the head of the queue
  held_head : (c : ℕ) → is_held dc.signals (takes (port_of shape dc da)) c ≡ true → (later : List Raw) × (queue (suc c) ≡ raw_at (port_of shape dc da) c ∷ later)
  held_head c held = by_queue (queue c) (run.heads c) (run.next c)
    where
      by_queue : (q : List Raw) → ShowsHead (port_of shape dc da) c q → queue (suc c) ≡ drop (if takes (port_of shape dc da) c then 1 else 0) q ++ only_if (takes (port_of shape uc ua) c) (raw_at (port_of shape uc ua) c) →
          (later : List Raw) × (queue (suc c) ≡ raw_at (port_of shape dc da) c ∷ later)
      by_queue [] head next = let bad = (and_parts (shows dc.signals c) (not (takes (port_of shape dc da) c)) held).0 in cc
      by_queue (raw ∷ later) head next =
          let not_accepted : takes (port_of shape dc da) c ≡ false = not-true (takes (port_of shape dc da) c) (and_parts (shows dc.signals c) (not (takes (port_of shape dc da) c)) held).1 in (
            later ++ only_if (takes (port_of shape uc ua) c) (raw_at (port_of shape uc ua) c),
            next ∙ ap (λ t. drop (if t then 1 else 0) (raw ∷ later) ++ only_if (takes (port_of shape uc ua) c) (raw_at (port_of shape uc ua) c)) not_accepted ∙ ap (λ r. r ∷ (later ++ only_if (takes (port_of shape uc ua) c) (raw_at (port_of shape uc ua) c))) (sym head.1),
          )

  held_on : (c : ℕ) → is_held dc.signals (takes (port_of shape dc da)) c ≡ true → raw_at (port_of shape dc da) c ≡ raw_at (port_of shape dc da) (suc c)
  held_on c held =
      let there = held_head c held in
      let head : ShowsHead (port_of shape dc da) (suc c) (raw_at (port_of shape dc da) c ∷ there.0) = subst (ShowsHead (port_of shape dc da) (suc c)) there.1 (run.heads (suc c)) in
      sym head.1

  pub taken_split : (k : ℕ) → taken_at (port_of shape uc ua) k ≡ taken_at (port_of shape dc da) k ++ marked shape (burst_of shape idle (raws (port_of shape dc da) k)) (queue k)
  taken_split k =
      taken_is (port_of shape uc ua) k ∙ ap (marked shape idle) (all_there depth (port_of shape uc ua) (port_of shape dc da) queue run k)
      ∙ marked_append shape idle (raws (port_of shape dc da) k) (queue k)
      ∙ ap (λ l. l ++ marked shape (burst_of shape idle (raws (port_of shape dc da) k)) (queue k)) (sym (taken_is (port_of shape dc da) k))

  module _ (end : ℕ) (legal : AreLegalAt (port_of shape uc ua) end) where
    -- what is shown below is fit
    fit_below : (c : ℕ) → c < end → shows dc.signals c ≡ true → IsFitBeat shape (burst_before shape dc.signals (takes (port_of shape dc da)) c) (raw_at (port_of shape dc da) c)
    fit_below c h shown = by_queue (queue c) refl (run.heads c)
      where
        by_queue : (q : List Raw) → queue c ≡ q → ShowsHead (port_of shape dc da) c q → IsFitBeat shape (burst_before shape dc.signals (takes (port_of shape dc da)) c) (raw_at (port_of shape dc da) c)
        by_queue [] is head = cc
        by_queue (raw ∷ later) is head =
            let all : raws (port_of shape uc ua) c ≡ raws (port_of shape dc da) c ++ raw ∷ later = all_there depth (port_of shape uc ua) (port_of shape dc da) queue run c ∙ ap (λ q. raws (port_of shape dc da) c ++ q) is in
            let fit = fit_at shape idle (raws (port_of shape dc da) c) raw later (subst (AreFit shape idle) all (fits (port_of shape uc ua) end c legal (omega arith))) in
            subst (λ b. IsFitBeat shape b (raw_at (port_of shape dc da) c)) (sym (burst_is (port_of shape dc da) c))
            (subst (IsFitBeat shape (burst_of shape idle (raws (port_of shape dc da) c))) (sym head.1) fit)

    pub stage_legal : AreLegalAt (port_of shape dc da) end
    stage_legal = legal_when_shown shape dc da end fit_below (λ c h held. held_on c held)

    -- what stands is the head of the queue
    standing_front : (k : ℕ) → IsPrefix (standing (shows dc.signals) (takes (port_of shape dc da)) (marked_at (port_of shape dc da)) k) (marked shape (burst_of shape idle (raws (port_of shape dc da) k)) (queue k))
    standing_front zero = record { rest = marked shape idle (queue 0); joins = refl }
    standing_front (suc c) = by_test (is_held dc.signals (takes (port_of shape dc da)) c) refl
      where
        by_test : (b : Bool) → is_held dc.signals (takes (port_of shape dc da)) c ≡ b → IsPrefix (only_if b (marked_at (port_of shape dc da) c)) (marked shape (burst_of shape idle (raws (port_of shape dc da) (suc c))) (queue (suc c)))
        by_test false held = record { rest = _; joins = refl }
        by_test true held =
            let there = held_head c held in
            let not_accepted : takes (port_of shape dc da) c ≡ false = not-true (takes (port_of shape dc da) c) (and_parts (shows dc.signals c) (not (takes (port_of shape dc da) c)) held).1 in
            let same : raws (port_of shape dc da) (suc c) ≡ raws (port_of shape dc da) c = ap (λ b. raws (port_of shape dc da) c ++ only_if b (raw_at (port_of shape dc da) c)) not_accepted ∙ append-nil _ in
            let old = burst_of shape idle (raws (port_of shape dc da) c) in
            subst (λ q. IsPrefix (marked_at (port_of shape dc da) c ∷ []) (marked shape (burst_of shape idle (raws (port_of shape dc da) (suc c))) q)) (sym there.1)
            (subst (λ l. IsPrefix (marked_at (port_of shape dc da) c ∷ []) (marked shape (burst_of shape idle l) (raw_at (port_of shape dc da) c ∷ there.0))) (sym same)
            (record { rest = marked shape (burst_past shape old (raw_at (port_of shape dc da) c)) there.0; joins = ap (λ b. mark shape b (raw_at (port_of shape dc da) c) ∷ marked shape (burst_past shape old (raw_at (port_of shape dc da) c)) there.0) (burst_is (port_of shape dc da) c) }))

    -- what is shown below was taken above
    pub shown_front : (k : ℕ) → k ≤ end → IsPrefix (shown_at (port_of shape dc da) k) (taken_at (port_of shape uc ua) k)
    shown_front k h =
        subst (λ l. IsPrefix l (taken_at (port_of shape uc ua) k)) (sym (shown_is_accepted_and_standing _ _ (marked_at (port_of shape dc da)) end k (marked_keeps (port_of shape dc da) end stage_legal) h))
        (subst (λ l. IsPrefix (taken_at (port_of shape dc da) k ++ standing (shows dc.signals) (takes (port_of shape dc da)) (marked_at (port_of shape dc da)) k) l) (sym (taken_split k)) (prefix_behind (taken_at (port_of shape dc da) k) (standing_front k)))

front_of : (taken rest : List Marked) (m : Marked) (s d : Bool) → (d ≡ true → s ≡ true) → (s ≡ true → (later : List Marked) × (rest ≡ m ∷ later)) →
    IsPrefix ((taken ++ only_if d m) ++ only_if (s && not d) m) (taken ++ rest)
front_of taken rest m true true shown head =
    let there = head refl in
    record { rest = there.0; joins = ap (λ l. l ++ there.0) (append-nil (taken ++ m ∷ [])) ∙ append_assoc taken (m ∷ []) there.0 ∙ ap (λ l. taken ++ l) (sym there.1) }
front_of taken rest m true false shown head =
    let there = head refl in
    record { rest = there.0; joins = ap (λ l. (l ++ m ∷ []) ++ there.0) (append-nil taken) ∙ append_assoc taken (m ∷ []) there.0 ∙ ap (λ l. taken ++ l) (sym there.1) }
front_of taken rest m false true shown head = let bad = shown refl in cc
front_of taken rest m false false shown head = record { rest = rest; joins = ap (λ l. l ++ rest) (append-nil (taken ++ []) ∙ append-nil taken) }

-- a command goes on no less than one cycle later
module _ (depth : ℕ) (shape : Shape) (uc dc : CommandView) (ua da : AnswerView) (queue : ℕ → List Raw) (run : IsStageRun depth (port_of shape uc ua) (port_of shape dc da) queue) (end : ℕ) (legal : AreLegalAt (port_of shape uc ua) end) where
  head_of : (c : ℕ) (q : List Raw) → ShowsHead (port_of shape dc da) c q → shows dc.signals c ≡ true →
      (later : List Marked) × (marked shape (burst_of shape idle (raws (port_of shape dc da) c)) q ≡ marked_at (port_of shape dc da) c ∷ later)
  head_of c [] head shown = cc
  head_of c (raw ∷ later) head shown =
      let old = burst_of shape idle (raws (port_of shape dc da) c) in (
        marked shape (burst_past shape old raw) later,
        ap (λ m. m ∷ marked shape (burst_past shape old raw) later) (ap₂ (mark shape) (sym (burst_is (port_of shape dc da) c)) (sym head.1)),
      )

  pub stage_is_later : (c : ℕ) → c < end → IsPrefix (shown_at (port_of shape dc da) (suc c)) (taken_at (port_of shape uc ua) c)
  stage_is_later c h =
      let below = stage_legal depth shape uc dc ua da queue run end legal in
      subst (λ l. IsPrefix l (taken_at (port_of shape uc ua) c)) (sym (shown_is_accepted_and_standing _ _ (marked_at (port_of shape dc da)) end (suc c) (marked_keeps (port_of shape dc da) end below) h))
      (subst (λ l. IsPrefix ((taken_at (port_of shape dc da) c ++ only_if (takes (port_of shape dc da) c) (marked_at (port_of shape dc da) c)) ++ only_if (is_held dc.signals (takes (port_of shape dc da)) c) (marked_at (port_of shape dc da) c)) l)
      (sym (taken_split depth shape uc dc ua da queue run c))
      (front_of (taken_at (port_of shape dc da) c) (marked shape (burst_of shape idle (raws (port_of shape dc da) c)) (queue c)) (marked_at (port_of shape dc da) c) (shows dc.signals c) (takes (port_of shape dc da) c)
      (λ taken. (and_parts (shows dc.signals c) (not (is_raised (dc.waitrequest c))) taken).0) (λ shown. head_of c (queue c) (run.heads c) shown)))
