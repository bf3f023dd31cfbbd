-- What the part next to an agent shows to it in a cycle is what stands above, and is accepted with it.
use Rattle.std.proofs.Common.{ℕ, zero, suc, ◌<◌, ◌≤◌, ◌≡◌, ◌-◌, ◌*◌, ◌/◌, ◌%◌, ◌^◌, Bool, true, false, not, ◌&&◌, ◌||◌, IsFalse, if◌then◌else◌, nat_lt, nat_eq, arith, refl, sym, ap, ap₂, ◌∙◌, subst}
use Rattle.std.proofs.lemmas.Bool.{and_parts, eqb-true, false≢true}
use Rattle.std.proofs.Math.Nat.{mod-mod_of_dvd, dvd-mul_left, mod-eq-zero_of_dvd}
use Rattle.std.proofs.lemmas.Nat.{div-add-mod'}
use Rattle.std.proofs.Math.Nat.{zero-mod}
use Rattle.histories.specs.History.{is_raised}
use Rattle.memory_runs.specs.Views.{AgentSide, AgentView, levels_at}
use Rattle.memory_runs.specs.Commands.{Burst, shows, byte_address, stood_before, stood_after, wait_time, agent_accepts, burst_before, burst_after, next_burst}
use Rattle.memory_machines.specs.Link.{takes, AreLegalAt}
use Rattle.memory_machines.specs.Lines.{TaggedPort}
use Rattle.memory_machines.specs.SideLaws.{fit_when_shown}
use Rattle.memory_machines.specs.Lines.{ServesKinds}
use Rattle.memory_parts.specs.Agent.{AgentState, ShowsToAgent, IsAgentPlan, is_full, is_busy}

gated : (b : Bool) (n : ℕ) → is_raised (if b then 0 else n) ≡ not b && is_raised n
gated true n = refl
gated false n = refl

pub reads_none : (r w hr hw : Bool) → hr ≡ false → ((not r || hr) && (not w || hw)) ≡ true → r ≡ false
reads_none true w true hw e k = e
reads_none true w false hw e k = sym k
reads_none false w hr hw e k = refl

writes_none : (r w hr hw : Bool) → hw ≡ false → ((not r || hr) && (not w || hw)) ≡ true → w ≡ false
writes_none r false hr hw e k = refl
writes_none r true hr true e k = e
writes_none true true true false e k = sym k
writes_none true true false false e k = sym k
writes_none false true hr false e k = sym k

and_none : (b : Bool) → (b && false) ≡ false
and_none true = refl
and_none false = refl

same_test : (f r w b : Bool) → not (r && w) ≡ true → ((r || w) && not ((f && r) || b)) ≡ (((not f && r) || w) && not b)
same_test true true true b e = cc
same_test true true false b e = refl
same_test true false w b e = refl
same_test false r w b e = refl

not_not : (b : Bool) → not (not b) ≡ b
not_not true = refl
not_not false = refl

minus_none : (n : ℕ) → n - 0 ≡ n
minus_none n = omega arith

-- an aligned address within a span that is whole words is aligned
pub aligned_rest : (y w k s : ℕ) → s ≡ k * w → ((y - y % w) % s) % w ≡ 0
aligned_rest y w k s e =
    let whole = div-add-mod' y w in
    let low : y - y % w ≡ (y / w) * w = omega (arith, whole) in
    ap (λ s. ((y - y % w) % s) % w) e ∙ mod-mod_of_dvd w (y - y % w) (dvd-mul_left w k) ∙ ap (λ n. n % w) low ∙ mod-eq-zero_of_dvd w (dvd-mul_left w (y / w))

abbrev pub cut : ℕ → Burst → Burst
cut span b = record { left = b.left; done = b.done; first = b.first % span }

module _ (side : AgentSide) (view : AgentView) (up : TaggedPort) (state : AgentState) (end : ℕ) (machine : ShowsToAgent side view up state end) (plan : IsAgentPlan side)
    (legal : AreLegalAt up.port end) (kinds : ServesKinds side up.port end) where
  abbrev pub full : ℕ → Bool
  full c = is_full side state c

  abbrev pub accepts : ℕ → Bool
  accepts = agent_accepts side view

  pub read_is : (c : ℕ) → c < end → is_raised (view.read c) ≡ not (full c) && is_raised (up.commands.read c)
  read_is c low = by_has side.has_read refl
    where
      by_has : (b : Bool) → side.has_read ≡ b → is_raised (view.read c) ≡ not (full c) && is_raised (up.commands.read c)
      by_has true has = ap is_raised (machine.read c low has) ∙ gated (full c) (up.commands.read c)
      by_has false has =
          let none = reads_none (is_raised (up.commands.read c)) (is_raised (up.commands.write c)) side.has_read side.has_write has (kinds c low) in
          ap is_raised (machine.no_read c low has) ∙ sym (ap (λ r. not (full c) && r) none ∙ and_none (not (full c)))

  pub write_is : (c : ℕ) → c < end → is_raised (view.write c) ≡ is_raised (up.commands.write c)
  write_is c low = by_has side.has_write refl
    where
      by_has : (b : Bool) → side.has_write ≡ b → is_raised (view.write c) ≡ is_raised (up.commands.write c)
      by_has true has = ap is_raised (machine.write c low has)
      by_has false has = ap is_raised (machine.no_write c low has) ∙ sym (writes_none (is_raised (up.commands.read c)) (is_raised (up.commands.write c)) side.has_read side.has_write has (kinds c low))

  -- the word of a write is shown
  pub word_is : (c : ℕ) → c < end → is_raised (up.commands.write c) ≡ true → view.word c ≡ up.commands.word c
  word_is c low writes = by_has side.has_write refl
    where
      by_has : (b : Bool) → side.has_write ≡ b → view.word c ≡ up.commands.word c
      by_has true has = machine.word c low has
      by_has false has =
          let none = writes_none (is_raised (up.commands.read c)) (is_raised (up.commands.write c)) side.has_read side.has_write has (kinds c low) in
          absurd (false≢true (sym none ∙ writes))

  pub shows_is : (c : ℕ) → c < end → shows view.signals c ≡ ((not (full c) && is_raised (up.commands.read c)) || is_raised (up.commands.write c))
  shows_is c low = ap₂ (λ r w. r || w) (read_is c low) (write_is c low)

  stood_is : IsFalse side.has_waitrequest → (c : ℕ) → c < end → state.stood c ≡ stood_before side view c
  stood_is fixed zero low = machine.stood_first
  stood_is fixed (suc c) low = machine.stood_next c low fixed ∙ ap (stood_after side view c) (stood_is fixed c (omega arith))

  accepts_is : (c : ℕ) → c < end → accepts c ≡ (shows view.signals c && not (is_busy side view state c))
  accepts_is c low = by_has side.has_waitrequest refl
    where
      by_has : (b : Bool) → side.has_waitrequest ≡ b → accepts c ≡ (shows view.signals c && not (is_busy side view state c))
      by_has true has = rw has refl
      by_has false has = rw has (ap (λ n. shows view.signals c && nat_eq n (wait_time side view c)) (sym (stood_is has c low)) ∙ ap (λ b. shows view.signals c && b) (sym (not_not (nat_eq (state.stood c) (wait_time side view c)))))

  -- a beat is taken above just where the agent accepts it
  pub same_takes : (c : ℕ) → c < end → takes up.port c ≡ accepts c
  same_takes c low =
      ap (λ w. shows up.commands.signals c && not w) (machine.wait c low)
      ∙ same_test (full c) (is_raised (up.commands.read c)) (is_raised (up.commands.write c)) (is_busy side view state c) (legal.legal.one_kind c low)
      ∙ ap (λ s. s && not (is_busy side view state c)) (sym (shows_is c low)) ∙ sym (accepts_is c low)

  pub address_is : (c : ℕ) → c < end → byte_address side.shape (view.address c) ≡ byte_address up.shape (up.commands.address c) % side.span
  address_is c low =
      let at = machine.address c low in
      let y = up.commands.address c * up.shape.unit_bytes in
      let words = machine.words in
      let aligned : (byte_address up.shape (up.commands.address c) % side.span) % side.word_bytes ≡ 0 =
      ap (λ w. ((y - y % w) % side.span) % side.word_bytes) words ∙ aligned_rest y side.word_bytes plan.span side.span plan.spans in
      ap (λ n. n - n % side.word_bytes) at ∙ ap (λ n. byte_address up.shape (up.commands.address c) % side.span - n) aligned ∙ minus_none (byte_address up.shape (up.commands.address c) % side.span)

  -- where a command begins, its count is right
  pub count_is : (c : ℕ) → c < end → shows up.commands.signals c ≡ true → nat_lt 0 (burst_before up.shape up.commands.signals (takes up.port) c).left ≡ false → view.count c ≡ up.commands.count c
  count_is c low shown free = machine.count c low ∙ by_has side.has_burst refl
    where
      by_has : (b : Bool) → side.has_burst ≡ b → (if side.has_burst then up.commands.count c else 1) ≡ up.commands.count c
      by_has true has = rw has refl
      by_has false has =
          let fit = fit_when_shown up.port end c legal low shown in
          let least = fit.least free in
          let bits : up.shape.burst_bits ≡ 1 = machine.bursts ∙ machine.plain has in
          let most : up.commands.count c ≤ 2 ^ (1 - 1) = subst (λ b. up.commands.count c ≤ 2 ^ (b - 1)) bits (fit.most free) in
          rw has (omega (arith, least, most))

  abbrev pub above : ℕ → Burst
  above c = burst_before up.shape up.commands.signals (takes up.port) c

  next_left : (b : Bool) (c : ℕ) → suc c ≤ end → takes up.port c ≡ true → nat_eq (above c).left 0 ≡ b →
      burst_after side.shape (levels_at view.signals c) true (cut side.span (above c)) ≡ cut side.span (burst_after up.shape (levels_at up.commands.signals c) true (above c))
  next_left b c low taken left = by_kind (is_raised (up.commands.write c)) refl
    where
      shown : shows up.commands.signals c ≡ true
      shown = (and_parts (shows up.commands.signals c) (not (is_raised (up.commands.waitrequest c))) taken).0

      by_left : (b : Bool) → nat_eq (above c).left 0 ≡ b → next_burst side.shape (levels_at view.signals c) (cut side.span (above c)) ≡ cut side.span (next_burst up.shape (levels_at up.commands.signals c) (above c))
      by_left true e =
          let none : nat_lt 0 (above c).left ≡ false = ap (λ n. nat_lt 0 n) (eqb-true (above c).left 0 e) in
          rw e (ap₂ (λ n f. record { left = n - 1; done = 1; first = f }) (count_is c low shown none) (address_is c low))
      by_left false e = rw e refl

      by_kind : (b : Bool) → is_raised (up.commands.write c) ≡ b →
          burst_after side.shape (levels_at view.signals c) true (cut side.span (above c)) ≡ cut side.span (burst_after up.shape (levels_at up.commands.signals c) true (above c))
      by_kind true e = let below = write_is c low ∙ e in rw (e, below) (by_left (nat_eq (above c).left 0) refl)
      by_kind false e = let below = write_is c low ∙ e in rw (e, below) refl

  pub same_burst : (c : ℕ) → c ≤ end → burst_before side.shape view.signals accepts c ≡ cut side.span (above c)
  same_burst zero low = ap (λ n. record { left = 0; done = 0; first = n }) (sym (zero-mod side.span))
  same_burst (suc c) low = by_takes (takes up.port c) refl (same_burst c (omega arith))
    where
      one : (b : Bool) → takes up.port c ≡ b → burst_after side.shape (levels_at view.signals c) b (cut side.span (above c)) ≡ cut side.span (burst_after up.shape (levels_at up.commands.signals c) b (above c))
      one true e = next_left (nat_eq (above c).left 0) c low e refl
      one false e = refl

      by_takes : (b : Bool) → takes up.port c ≡ b → burst_before side.shape view.signals accepts c ≡ cut side.span (above c) → burst_before side.shape view.signals accepts (suc c) ≡ cut side.span (above (suc c))
      by_takes b e ih =
          ap₂ (λ a b. burst_after side.shape (levels_at view.signals c) a b) (sym (same_takes c low) ∙ e) ih ∙ one b e
          ∙ ap (λ a. cut side.span (burst_after up.shape (levels_at up.commands.signals c) a (above c))) (sym e)
