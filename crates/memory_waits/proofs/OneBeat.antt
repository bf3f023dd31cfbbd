-- Of a port whose bursts have one beat each read asks one word at most; and the byte enables below a cutter of bursts.
use Rattle.std.proofs.Common.{◌≡◌, ℕ, zero, suc, ◌<◌, ◌≤◌, ◌^◌, Bool, true, false, not, ◌&&◌, ◌||◌, if◌then◌else◌, nat_lt, arith, refl, sym, ap, ◌∙◌, subst, IsTrue, IsFalse, tests}
use Rattle.std.proofs.lemmas.Bool.{and_parts}
use Rattle.histories.specs.History.{is_raised}
use Rattle.memory_runs.specs.Views.{Levels}
use Rattle.memory_runs.specs.Commands.{Burst, shows, burst_before, longest_burst, is_held}
use Rattle.memory_machines.specs.Link.{Port, AreLegalAt, takes}
use Rattle.memory_machines.specs.Machines.{Raw, raw_at}
use Rattle.memory_links.specs.Cutters.{Reach, CutterState, Rest, RunsAsCutter, IsCutPlan, is_sending, behind_burst, first_burst, read_burst_of, whole_read, write_of_burst}
use Rattle.memory_links.specs.Selects.{EnablesFit, takes_read}
use Rattle.memory_awake.specs.Rows.{CutsBursts, CutsBursts.cutter, CutsBursts.no_cutter}
use Rattle.memory_waits.proofs.Bits.{no_both, no_true, takes_shows}

-- a shown beat of a legal host, at which no burst is under way, begins a burst that isn't too long
module _ (port : Port) (end : ℕ) (legal : AreLegalAt port end) where
  abbrev burst : ℕ → Burst
  burst c = burst_before port.shape port.commands.signals (takes port) c

  few_shown : (c : ℕ) → c < end → IsTrue (shows port.commands.signals c) → IsFalse (nat_lt 0 (burst c).left) → port.commands.count c ≤ longest_burst port.shape.burst_bits
  few_shown zero fit shown free = legal.legal.most 0 fit shown free
  few_shown (suc c) fit shown free = by_held (is_held port.commands.signals (takes port) c) refl (few_shown c (omega (arith, fit)))
    where
      parts_of_held : (s t : Bool) → IsTrue (s && not t) → IsTrue s × IsFalse t
      parts_of_held true false h = (refl, refl)
      parts_of_held true true h = absurd (no_true h)
      parts_of_held false t h = absurd (no_true h)

      first : (s h : Bool) → IsTrue s → IsFalse h → IsTrue (s && not h)
      first s h x y = grind (arith, tests)

      by_held : (b : Bool) → is_held port.commands.signals (takes port) c ≡ b →
          (IsTrue (shows port.commands.signals c) → IsFalse (nat_lt 0 (burst c).left) → port.commands.count c ≤ longest_burst port.shape.burst_bits) → port.commands.count (suc c) ≤ longest_burst port.shape.burst_bits
      by_held false e more = legal.legal.most (suc c) fit (first (shows port.commands.signals (suc c)) (is_held port.commands.signals (takes port) c) shown e) free
      by_held true e more =
          let its = parts_of_held (shows port.commands.signals c) (takes port c) e in
          let same = ap (λ (l : Levels). l.count) (legal.legal.held c fit e) in
          let still : burst (suc c) ≡ burst c = rw its.1 refl in
          subst (λ n. n ≤ longest_burst port.shape.burst_bits) same (more its.0 (subst (λ (b : Burst). IsFalse (nat_lt 0 b.left)) still free))

  read_shown : (r w : Bool) → IsTrue (r || w) → IsFalse w → IsTrue r
  read_shown true w h f = refl
  read_shown false w h f = absurd (no_both w h f)

  pub one_read : port.shape.burst_bits ≡ 1 → (c : ℕ) → c < end → IsTrue (shows port.commands.signals c) → IsFalse (is_raised (port.commands.write c)) → port.commands.count c ≤ 1
  one_read bits c fit shown kind = by_left (nat_lt 0 (burst c).left) refl
    where
      by_left : (b : Bool) → nat_lt 0 (burst c).left ≡ b → port.commands.count c ≤ 1
      by_left false free = subst (λ n. port.commands.count c ≤ longest_burst n) bits (few_shown c fit shown free)
      by_left true e = absurd (no_both _ (read_shown (is_raised (port.commands.read c)) (is_raised (port.commands.write c)) shown kind) (legal.legal.finished c fit e))

-- ---- below a cutter of bursts

-- what it shows has the byte enables of what stands above, or of the read that it sends by itself
module _ (reach : Reach) (longest : ℕ) (up down : Port) (state : CutterState) (end : ℕ) (plan : IsCutPlan reach longest up.shape down.shape) (run : RunsAsCutter reach longest up down state) (fit : EnablesFit up end) where
  abbrev Fits : Rest → Type 0
  Fits rest = IsTrue (nat_lt 0 rest.left) → rest.command.levels.enables < 2 ^ up.shape.word_bytes

  abbrev later : Rest → Rest
  later rest = behind_burst reach up.shape.word_bytes rest

  rest_fits : (c : ℕ) → c ≤ end → Fits (state.rest c)
  rest_fits zero h = λ some. absurd (no_true (sym (ap (nat_lt 0) run.rest_begins) ∙ some))
  rest_fits (suc c) h = subst Fits (sym (run.rest_next c)) (by_sending (rest_fits c (omega (arith, h))) (is_sending state c) refl)
    where
      by_take : Fits (state.rest c) → (t : Bool) → IsTrue (is_sending state c) → Fits (if t then later (state.rest c) else state.rest c)
      by_take before true e some = before e
      by_take before false e some = before e

      by_read : Fits (state.rest c) → (t : Bool) → takes_read up c ≡ t → Fits (if t then later (whole_read up.shape (raw_at up c)) else state.rest c)
      by_read before true e some = fit c (omega (arith, h)) (takes_shows up c (and_parts (takes up c) (not (is_raised (up.commands.write c))) e).0)
      by_read before false e some = before some

      by_sending : Fits (state.rest c) → (b : Bool) → is_sending state c ≡ b → Fits (if b then (if takes down c then later (state.rest c) else state.rest c) else if takes_read up c then later (whole_read up.shape (raw_at up c)) else state.rest c)
      by_sending before true e = by_take before (takes down c) e
      by_sending before false e = by_read before (takes_read up c) refl

  below_fits : EnablesFit down end
  below_fits c h shown = subst (λ n. down.commands.enables c < 2 ^ n) (sym plan.same) (by_sending (is_sending state c) refl)
    where
      enables_of : Raw → ℕ
      enables_of raw = raw.levels.enables

      by_write : (w : Bool) → enables_of (if w then write_of_burst longest up.shape (state.place c) (raw_at up c) else read_burst_of reach (whole_read up.shape (raw_at up c))) ≡ up.commands.enables c
      by_write true = refl
      by_write false = refl

      enables_are : (b : Bool) → is_sending state c ≡ b → down.commands.enables c ≡ enables_of (if b then read_burst_of reach (state.rest c) else first_burst reach longest up.shape (state.place c) (raw_at up c))
      enables_are b e = ap enables_of (run.beat c shown) ∙ ap (λ b. enables_of (if b then read_burst_of reach (state.rest c) else first_burst reach longest up.shape (state.place c) (raw_at up c))) e

      by_sending : (b : Bool) → is_sending state c ≡ b → down.commands.enables c < 2 ^ up.shape.word_bytes
      by_sending true e = let same = enables_are true e in let few = rest_fits c (omega (arith, h)) e in omega (arith, same, few)
      by_sending false e =
          let above : shows up.commands.signals c ≡ true = ap (λ b. if b then true else shows up.commands.signals c) (sym e) ∙ sym (run.shown c) ∙ shown in
          let same = enables_are false e ∙ by_write (is_raised (up.commands.write c)) in
          let few = fit c h above in
          omega (arith, same, few)

-- byte enables that fit above a cutter of bursts, or a wire, fit below it
pub enables_below : {up down : Port} (end : ℕ) → CutsBursts up down → EnablesFit up end → EnablesFit down end
enables_below {up} {down} end (cutter reach longest state plan run) fit = below_fits reach longest up down state end plan run fit
enables_below {up} {down} end (no_cutter wired) fit = subst (λ p. EnablesFit p end) wired.wire.same fit
