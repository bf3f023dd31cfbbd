-- What stands on the two sides of a wire.
use Rattle.std.proofs.Common.{arith, ◌∙◌, le_refl, ℕ, zero, suc, ◌≡◌, Bool, length, refl, sym, ap, subst}
use Rattle.std.proofs.Math.Path.{fun_ext}
use Rattle.memory_runs.specs.Views.{Shape, Signals, levels_at}
use Rattle.memory_runs.specs.Commands.{burst_before, burst_after}
use Rattle.memory_machines.specs.Link.{Target, Port, takes, taken_at, operations_among, words_owed, read_beats}
use Rattle.memory_awake.specs.Wires.{IsWire, shape_with, with_bursts}
use Rattle.histories.specs.History.{is_raised}
use Rattle.memory_runs.specs.Commands.{shows}
use Rattle.memory_waits.specs.Waits.{LeadsDown}
use Rattle.memory_waits.proofs.Bits.{no_both}

-- how long bursts may be changes nothing of the burst that is under way
burst_same : (bits : ℕ) (shape : Shape) (signals : Signals) (accepts : ℕ → Bool) (c : ℕ) → burst_before (shape_with bits shape) signals accepts c ≡ burst_before shape signals accepts c
burst_same bits shape signals accepts zero = refl
burst_same bits shape signals accepts (suc c) = ap (burst_after shape (levels_at signals c) (accepts c)) (burst_same bits shape signals accepts c)

module _ (bits : ℕ) (port : Port) where
  pub bursts : burst_before (shape_with bits port.shape) port.commands.signals (takes port) ≡ burst_before port.shape port.commands.signals (takes port)
  bursts = fun_ext (burst_same bits port.shape port.commands.signals (takes port))

  taken_same : (c : ℕ) → taken_at (with_bursts bits port) c ≡ taken_at port c
  taken_same c = rw bursts refl

module _ (up down : Port) (wire : IsWire up down) where
  abbrev bits_below : ℕ
  bits_below = down.shape.burst_bits

  pub wire_stays : (P : Port → Type 0) → P (with_bursts bits_below up) → P down
  wire_stays P holds = subst P wire.same holds

  pub wire_operations : (target : Target) (c : ℕ) → length (operations_among target down.shape (taken_at down c)) ≡ length (operations_among target up.shape (taken_at up c))
  wire_operations target c = subst (λ p. length (operations_among target p.shape (taken_at p c)) ≡ length (operations_among target up.shape (taken_at up c))) wire.same (ap (λ l. length (operations_among target up.shape l)) (taken_same bits_below up c))

  pub wire_takes : (c : ℕ) → takes down c ≡ takes up c
  wire_takes c = wire_stays (λ p. takes p c ≡ takes up c) refl

  pub wire_shows : (c : ℕ) → shows down.commands.signals c ≡ shows up.commands.signals c
  wire_shows c = wire_stays (λ p. shows p.commands.signals c ≡ shows up.commands.signals c) refl

  pub wire_asked : (c : ℕ) → words_owed down c ≡ words_owed up c
  wire_asked c = wire_stays (λ p. words_owed p c ≡ words_owed up c) (ap (λ l. length (read_beats l)) (taken_same bits_below up c))

  -- it holds nothing
  pub wire_leads : (target : Target) (end : ℕ) → LeadsDown target up down (λ c. 0) 0 end
  wire_leads target end = record {
    few = λ c fit. omega arith;
    shown = λ c fit shown. wire_shows c ∙ shown;
    fewer = λ c fit none took. absurd (no_both (takes up c) (sym (wire_takes c) ∙ took) none);
    stays = λ c fit none still. omega arith;
    taken = λ c fit took. (refl, wire_takes c ∙ took);
    stands = λ c fit some. absurd (omega (arith, some));
    through = λ c fit none. (let same = wire_operations target c in omega (arith, same));
    asked = λ c fit none. (let same = wire_asked c in omega (arith, same));
    words = λ c fit. wire_stays (λ p. is_raised (up.answers.valid c) ≡ is_raised (p.answers.valid c)) refl;
  }

  -- nor does it change what is held above it
  pub leads_behind_wire : (target : Target) (top : Port) (held : ℕ → ℕ) (most end : ℕ) → LeadsDown target top up held most end → LeadsDown target top down held most end
  leads_behind_wire target top held most end leads = record {
    few = leads.few;
    shown = λ c fit shown. wire_shows c ∙ leads.shown c fit shown;
    fewer = λ c fit none took. leads.fewer c fit none (sym (wire_takes c) ∙ took);
    stays = λ c fit none still. leads.stays c fit none (sym (wire_takes c) ∙ still);
    taken = λ c fit took. (let is = leads.taken c fit took in (is.0, wire_takes c ∙ is.1));
    stands = λ c fit some. wire_shows c ∙ leads.stands c fit some;
    through = λ c fit none. (let same = wire_operations target c in let led = leads.through c fit none in omega (arith, same, led));
    asked = λ c fit none. (let same = wire_asked c in let led = leads.asked c fit none in omega (arith, same, led));
    words = λ c fit. leads.words c fit ∙ wire_stays (λ p. is_raised (up.answers.valid c) ≡ is_raised (p.answers.valid c)) refl;
  }

-- the port itself is one
pub wire_self : (port : Port) → IsWire port port
wire_self port = record { same = refl; longer = le_refl port.shape.burst_bits }
