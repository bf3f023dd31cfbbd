-- Beats that fit, and commands of one beat: each beat that is shown ends its own. Links keep it so.
use Rattle.std.proofs.Common.{◌≡◌, ℕ, zero, suc, ◌-◌, ◌+◌, ◌^◌, ◌<◌, ◌≤◌, ◌⊎◌, inl, inr, Bool, true, false, ◌||◌, nat_eq, nat_lt, if◌then◌else◌, List, [], ◌∷◌, Some, slice_get, IsTrue, refl, sym, subst, ap, ap₂, ◌∙◌, arith}
use Rattle.std.proofs.lemmas.Bool.{and_parts}
use Rattle.std.proofs.Math.Pow.{pow_mono}
use Rattle.histories.specs.History.{is_raised}
use Rattle.memory_runs.specs.Views.{Shape, Signals, Levels, levels_at}
use Rattle.memory_runs.specs.Operations.{Beat}
use Rattle.memory_runs.specs.Commands.{Burst, shows, burst_before, burst_after, next_burst, transfer_of, write_transfer, read_transfer, byte_address}
use Rattle.memory_machines.specs.Link.{Port, Target, takes}
use Rattle.memory_machines.specs.Machines.{Raw, raw_at, joined, single, IsFitBeat, ShowsFitBeats}
use Rattle.mm_arbiter.specs.Machine.{JoinsBeats}
use Rattle.memory_links.specs.Cutters.{Reach, CutterState, RunsAsCutter, IsCutPlan}
use Rattle.memory_links.specs.Drops.{DropState, RunsAsDrop, standing_at, keeps, sends, sent_beat}
use Rattle.memory_awake.specs.Rows.{CutsBursts, CutsBursts.cutter, CutsBursts.no_cutter, FitsWords, FitsWords.selector, FitsWords.gatherer, FitsWords.splitter, FitsWords.no_width, DropsBeats, DropsBeats.dropper, DropsBeats.no_dropper}
use Rattle.memory_awake.specs.Wires.{IsWire, shape_with, with_bursts}

-- each beat that is shown is a command by itself
abbrev pub HaveOneBeat : Port → ℕ → Type 0
HaveOneBeat port end = (c : ℕ) → c < end → IsTrue (shows port.commands.signals c) → port.commands.count c ≡ 1

-- ---- it ends its command

left_past : (levels : Levels) (shape : Shape) (burst : Burst) → burst.left ≡ 0 → levels.count ≡ 1 → (next_burst shape levels burst).left ≡ 0
left_past levels shape burst none one =
    let begun : Burst = record { left = levels.count - 1; done = 1; first = byte_address shape levels.address } in
    let later : Burst = record { left = burst.left - 1; done = burst.done + 1; first = burst.first } in
    ap (λ n. (if nat_eq n 0 then begun else later).left) none ∙ ap (λ n. n - 1) one

left_after : (shape : Shape) (levels : Levels) (accepts : Bool) (burst : Burst) → burst.left ≡ 0 → (accepts ≡ true → levels.count ≡ 1) → (burst_after shape levels accepts burst).left ≡ 0
left_after shape levels false burst none one = none
left_after shape levels true burst none one = by (is_raised levels.write) refl
  where
    by : (w : Bool) → is_raised levels.write ≡ w → (burst_after shape levels true burst).left ≡ 0
    by true e = ap (λ w. (if w then next_burst shape levels burst else burst).left) e ∙ left_past levels shape burst none (one refl)
    by false e = ap (λ w. (if w then next_burst shape levels burst else burst).left) e ∙ none

ends_alone : (shape : Shape) (levels : Levels) (burst : Burst) → burst.left ≡ 0 → levels.count ≡ 1 → (transfer_of shape levels burst).ends ≡ true
ends_alone shape levels burst none one = by (is_raised levels.write) refl
  where
    by : (w : Bool) → is_raised levels.write ≡ w → (transfer_of shape levels burst).ends ≡ true
    by true e =
        ap (λ w. (if w then write_transfer shape levels burst else read_transfer shape levels).ends) e
        ∙ ap₂ (λ n m. if nat_eq n 0 then nat_eq m 1 else nat_eq n 1) none one
    by false e = ap (λ w. (if w then write_transfer shape levels burst else read_transfer shape levels).ends) e

module _ (port : Port) (end : ℕ) (one : HaveOneBeat port end) where
  -- no burst is under way
  none_left : (c : ℕ) → c ≤ end → (burst_before port.shape port.commands.signals (takes port) c).left ≡ 0
  none_left zero fit = refl
  none_left (suc c) fit =
      left_after port.shape (levels_at port.commands.signals c) (takes port c) (burst_before port.shape port.commands.signals (takes port) c) (none_left c (omega (arith, fit)))
      (λ taken. one c (omega (arith, fit)) (and_parts _ _ taken).0)

  pub singles_join : JoinsBeats port end
  singles_join c low shown =
      ap (λ b. b || is_raised (port.commands.more c))
      (ends_alone port.shape (levels_at port.commands.signals c) (burst_before port.shape port.commands.signals (takes port) c) (none_left c (omega (arith, low))) (one c low shown))

-- ---- beats that fit

pub fit_join : (port : Port) (end : ℕ) → ShowsFitBeats port end → JoinsBeats port end
fit_join port end fit c low shown = (fit c low shown).joined

-- where bursts have one beat, what fits is a command by itself
module _ (port : Port) (end : ℕ) (fit : ShowsFitBeats port end) (short : port.shape.burst_bits ≡ 1) where
  one_count : (c : ℕ) → c < end → (burst_before port.shape port.commands.signals (takes port) c).left ≡ 0 → IsTrue (shows port.commands.signals c) → port.commands.count c ≡ 1
  one_count c low none shown =
      let here = fit c low shown in
      let free = ap (nat_lt 0) none in
      let least = here.least free in
      let most = subst (λ n. port.commands.count c ≤ 2 ^ (n - 1)) short (here.most free) in
      omega (arith, least, most)

  no_burst : (c : ℕ) → c ≤ end → (burst_before port.shape port.commands.signals (takes port) c).left ≡ 0
  no_burst zero within = refl
  no_burst (suc c) within =
      let before = no_burst c (omega (arith, within)) in
      left_after port.shape (levels_at port.commands.signals c) (takes port c) (burst_before port.shape port.commands.signals (takes port) c) before
      (λ taken. one_count c (omega (arith, within)) before (and_parts _ _ taken).0)

  pub fit_singles : HaveOneBeat port end
  fit_singles c low shown = one_count c low (no_burst c (omega (arith, low))) shown

-- bursts are under way alike where a longer one may be
same_bursts : (bits : ℕ) (shape : Shape) (signals : Signals) (accepts : ℕ → Bool) (c : ℕ) → burst_before shape signals accepts c ≡ burst_before (shape_with bits shape) signals accepts c
same_bursts bits shape signals accepts zero = refl
same_bursts bits shape signals accepts (suc c) = ap (burst_after shape (levels_at signals c) (accepts c)) (same_bursts bits shape signals accepts c)

fits_longer : (bits : ℕ) (shape : Shape) (burst : Burst) (raw : Raw) → shape.burst_bits ≤ bits → IsFitBeat shape burst raw → IsFitBeat (shape_with bits shape) burst raw
fits_longer bits shape burst raw longer fit = record {
  one_kind = fit.one_kind;
  least = fit.least;
  most = λ free. (let most = fit.most free in let more = pow_mono (let less : shape.burst_bits - 1 ≤ bits - 1 = omega (arith, longer) in less) in omega (arith, most, more));
  finished = fit.finished;
  joined = fit.joined;
}

pub wire_fits : (up down : Port) (end : ℕ) → IsWire up down → ShowsFitBeats up end → ShowsFitBeats down end
wire_fits up down end wire fit =
    let bits : ℕ = down.shape.burst_bits in
    let longer : ShowsFitBeats (with_bursts bits up) end = λ c low shown.
    (let here : Burst = burst_before up.shape up.commands.signals (takes up) c in
    let same = same_bursts bits up.shape up.commands.signals (takes up) c in
    let fits = fits_longer bits up.shape here (raw_at up c) wire.longer (fit c low shown) in
    subst (λ (burst : Burst). IsFitBeat (shape_with bits up.shape) burst (raw_at up c)) same fits) in
    subst (λ (p : Port). ShowsFitBeats p end) wire.same longer

-- ---- links keep it so

wire_keeps : (up down : Port) (end : ℕ) → IsWire up down → HaveOneBeat up end → HaveOneBeat down end
wire_keeps up down end wire one = subst (λ (p : Port). HaveOneBeat p end) wire.same one

-- what a splitter sends are commands of one beat
single_count : (tag last : ℕ) (beats : List Beat) (k : ℕ) (raw : Raw) → slice_get (joined tag last beats) k ≡ Some raw → raw.levels.count ≡ 1
single_count tag last [] k raw there = absurd cc
single_count tag last (beat ∷ []) zero raw there = let same : single tag last beat ≡ raw = cc in ap (λ (r : Raw). r.levels.count) (sym same)
single_count tag last (beat ∷ []) (suc k) raw there = absurd cc
single_count tag last (beat ∷ next ∷ later) zero raw there = let same : single tag 1 beat ≡ raw = cc in ap (λ (r : Raw). r.levels.count) (sym same)
single_count tag last (beat ∷ next ∷ later) (suc k) raw there = single_count tag last (next ∷ later) k raw there

pub fits_keep : (target : Target) (up down : Port) (end : ℕ) → FitsWords target up down → HaveOneBeat up end → HaveOneBeat down end
fits_keep target up down end (selector many room offsets plan some run) one = λ c low shown. ap (λ (levels : Levels). levels.count) (run.levels c)
fits_keep target up down end (gatherer many room state plan some run) one = λ c low shown. ap (λ (levels : Levels). levels.count) (run.levels c)
fits_keep target up down end (splitter count room state plan some run) one =
    λ c low shown. single_count (up.commands.tag c) (up.commands.more c) _ (state.place c) (raw_at down c) (run.part c shown)
fits_keep target up down end (no_width wired) one = wire_keeps up down end wired.wire one

-- the beat that is kept, if there is one, is such a command
abbrev pub KeepsOne : List Raw → Type 0
KeepsOne [] = Unit {0}
KeepsOne (raw ∷ later) = raw.levels.count ≡ 1

next_kept : (keep taken : Bool) (raw : Raw) (kept : List Raw) → (keep ≡ true → raw.levels.count ≡ 1) → KeepsOne kept → KeepsOne (if keep then raw ∷ [] else if taken then [] else kept)
next_kept true taken raw kept one before = one refl
next_kept false true raw kept one before = tt
next_kept false false raw kept one before = before

sent_count : (kept : List Raw) (raw : Raw) (follows : Bool) → KeepsOne kept → raw.levels.count ≡ 1 → (sent_beat kept raw follows).levels.count ≡ 1
sent_count [] raw follows kept one = one
sent_count (first ∷ later) raw follows kept one = kept

module _ (up down : Port) (room : ℕ) (state : DropState) (run : RunsAsDrop room up down state) (end : ℕ) (one : HaveOneBeat up end) where
  kept_one : (c : ℕ) → c ≤ end → KeepsOne (state.kept c)
  kept_one zero fit = subst (λ (kept : List Raw). KeepsOne kept) (sym run.kept_begins) tt
  kept_one (suc c) fit =
      subst (λ (kept : List Raw). KeepsOne kept) (sym (run.kept_next c))
      (next_kept (keeps (standing_at up state c) (takes down c)) (takes down c) (raw_at up c) (state.kept c)
      (λ keep. one c (omega (arith, fit)) (and_parts _ _ (and_parts _ _ keep).0).0) (kept_one c (omega (arith, fit))))

  sent_one : HaveOneBeat down end
  sent_one = λ c low shown.
      (let sent : sends room (standing_at up state c) ≡ true = sym (run.shown c) ∙ shown in
      ap (λ (raw : Raw). raw.levels.count) (run.beat c shown)
      ∙ sent_count (state.kept c) (raw_at up c) (standing_at up state c).acts (kept_one c (omega (arith, low))) (one c low (and_parts _ _ sent).0))

pub drops_keep : (target : Target) (up down : Port) (end : ℕ) → DropsBeats target up down → HaveOneBeat up end → HaveOneBeat down end
drops_keep target up down end (dropper room state plan some run) one = sent_one up down room state run end one
drops_keep target up down end (no_dropper wired) one = wire_keeps up down end wired.wire one

-- ---- all links of a host and an agent

-- what a cutter shows fits where all fits that it is shown
abbrev pub CuttersShowFit : Type 0
CuttersShowFit = (reach : Reach) (longest : ℕ) (up down : Port) (state : CutterState) (end : ℕ) → IsCutPlan reach longest up.shape down.shape → RunsAsCutter reach longest up down state → ShowsFitBeats up end → ShowsFitBeats down end

pub cuts_keep : CuttersShowFit → (up down : Port) (end : ℕ) → CutsBursts up down → ShowsFitBeats up end → ShowsFitBeats down end
cuts_keep law up down end (cutter reach longest state plan run) fit = law reach longest up down state end plan run fit
cuts_keep law up down end (no_cutter wired) fit = wire_fits up down end wired.wire fit

-- words are fitted to single beats, or made single beats
pub words_keep : (target : Target) (up down : Port) (end : ℕ) → FitsWords target up down → ShowsFitBeats up end → ShowsFitBeats down end ⊎ HaveOneBeat down end
words_keep target up down end (selector many room offsets plan some run) fit = inr (fits_keep target up down end (selector many room offsets plan some run) (fit_singles up end fit plan.one_beat))
words_keep target up down end (gatherer many room state plan some run) fit = inr (λ c low shown. ap (λ (levels : Levels). levels.count) (run.levels c))
words_keep target up down end (splitter count room state plan some run) fit = inr (fits_keep target up down end (splitter count room state plan some run) (fit_singles up end fit plan.one_beat))
words_keep target up down end (no_width wired) fit = inl (wire_fits up down end wired.wire fit)

pub drops_join : (target : Target) (up down : Port) (end : ℕ) → DropsBeats target up down → ShowsFitBeats up end ⊎ HaveOneBeat up end → JoinsBeats down end
drops_join target up down end drops (inr one) = singles_join down end (drops_keep target up down end drops one)
drops_join target up down end (dropper room state plan some run) (inl fit) = singles_join down end (drops_keep target up down end (dropper room state plan some run) (fit_singles up end fit plan.one_beat))
drops_join target up down end (no_dropper wired) (inl fit) = fit_join down end (wire_fits up down end wired.wire fit)
