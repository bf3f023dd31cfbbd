-- What a register shows is legal where what it takes is.
use Rattle.std.proofs.Common.{ℕ, zero, suc, ◌<◌, ◌≤◌, ◌≡◌, ◌-◌, ◌^◌, Bool, true, false, not, ◌&&◌, ◌||◌, IsTrue, IsFalse, if◌then◌else◌, nat_lt, arith, refl, sym, ap, ap₂, ◌∙◌, subst}
use Rattle.std.proofs.lemmas.Bool.{and_parts, not-true}
use Rattle.memory_machines.proofs.RegisterBeats.{is_ahead, next_levels, takes_none, takes_below, shown_by, stalls}
use Rattle.histories.specs.History.{is_raised}
use Rattle.memory_runs.specs.Views.{Shape, Levels, levels_at}
use Rattle.memory_runs.specs.Commands.{shows, is_held, presents, burst_before, burst_after, transfer_at, transfer_of}
use Rattle.memory_runs.specs.Legal.{is_under_way}
use Rattle.memory_machines.specs.Link.{Port, AreLegalAt, takes}
use Rattle.memory_machines.specs.Register.{IsRegister}

none_is_one : (r w : Bool) → (r || w) ≡ false → not (r && w) ≡ true
none_is_one true w e = cc
none_is_one false w e = refl

-- the count of a beat that begins a command is right as long as it stands
module _ (port : Port) (end : ℕ) (legal : AreLegalAt port end) (P : ℕ → Type 0)
    (begins : (c : ℕ) → c < end → IsTrue (presents port.commands.signals (takes port) c) → IsFalse (is_under_way port.shape port.commands.signals (takes port) c) → P (port.commands.count c)) where
  pub standing_count : (c : ℕ) → c < end → shows port.commands.signals c ≡ true → IsFalse (is_under_way port.shape port.commands.signals (takes port) c) → P (port.commands.count c)
  standing_count zero low shown idle = begins zero low shown idle
  standing_count (suc c) low shown idle = by_held (is_held port.commands.signals (takes port) c) refl (λ shown idle. standing_count c (omega arith) shown idle)
    where
      by_held : (b : Bool) → is_held port.commands.signals (takes port) c ≡ b → (shows port.commands.signals c ≡ true → IsFalse (is_under_way port.shape port.commands.signals (takes port) c) → P (port.commands.count c)) → P (port.commands.count (suc c))
      by_held true e go =
          let same = legal.legal.held c low e in
          let parts = and_parts (shows port.commands.signals c) (not (takes port c)) e in
          let refused : takes port c ≡ false = not-true (takes port c) parts.1 in
          let burst : burst_before port.shape port.commands.signals (takes port) (suc c) ≡ burst_before port.shape port.commands.signals (takes port) c =
          ap (λ b. burst_after port.shape (levels_at port.commands.signals c) b (burst_before port.shape port.commands.signals (takes port) c)) refused in
          subst P (ap (λ (l : Levels). l.count) same) (go parts.0 (subst (λ b. nat_lt 0 b.left ≡ false) burst idle))
      by_held false e go = begins (suc c) low (rw (shown, e) refl) idle

module _ (up down : Port) (register : IsRegister up down) (end : ℕ) (legal : AreLegalAt up end) where
  -- the burst that the register is in
  same_burst : (c : ℕ) → stalls up down register c ≡ false → burst_before down.shape down.commands.signals (takes down) (suc c) ≡ burst_before up.shape up.commands.signals (takes up) c
  same_burst c e =
      ap (λ b. burst_after down.shape (levels_at down.commands.signals c) b (burst_before down.shape down.commands.signals (takes down) c)) (takes_below up down register c e) ∙ sym (is_ahead up down register c).1

  still_burst : (c : ℕ) → stalls up down register c ≡ true → burst_before down.shape down.commands.signals (takes down) (suc c) ≡ burst_before down.shape down.commands.signals (takes down) c
  still_burst c e = ap (λ b. burst_after down.shape (levels_at down.commands.signals c) b (burst_before down.shape down.commands.signals (takes down) c)) (takes_none up down register c e)

  one_kind : (c : ℕ) → c < end → IsTrue (not (is_raised (down.commands.read c) && is_raised (down.commands.write c)))
  one_kind zero low = none_is_one (is_raised (down.commands.read 0)) (is_raised (down.commands.write 0)) register.empty
  one_kind (suc c) low = by_stall (stalls up down register c) refl (one_kind c (omega arith))
    where
      by_stall : (b : Bool) → stalls up down register c ≡ b → IsTrue (not (is_raised (down.commands.read c) && is_raised (down.commands.write c))) → IsTrue (not (is_raised (down.commands.read (suc c)) && is_raised (down.commands.write (suc c))))
      by_stall true e ih = ap (λ (l : Levels). not (is_raised l.read && is_raised l.write)) (next_levels up down register c true e) ∙ ih
      by_stall false e ih = ap (λ (l : Levels). not (is_raised l.read && is_raised l.write)) (next_levels up down register c false e) ∙ legal.legal.one_kind c (omega arith)

  counts : (P : ℕ → Type 0) → ((c : ℕ) → c < end → IsTrue (presents up.commands.signals (takes up) c) → IsFalse (is_under_way up.shape up.commands.signals (takes up) c) → P (up.commands.count c)) →
      (c : ℕ) → c < end → IsTrue (presents down.commands.signals (takes down) c) → IsFalse (is_under_way down.shape down.commands.signals (takes down) c) → P (down.commands.count c)
  counts P begins zero low shown idle = let bad : ⊥ = let none = register.empty in cc in absurd bad
  counts P begins (suc c) low shown idle =
      let parts = and_parts (shows down.commands.signals (suc c)) (not (stalls up down register c)) shown in
      let free : stalls up down register c ≡ false = not-true (stalls up down register c) parts.1 in
      let levels = next_levels up down register c false free in
      subst P (ap (λ (l : Levels). l.count) (sym levels))
      (standing_count up end legal P begins c (omega arith) (ap shown_by (sym levels) ∙ parts.0) (subst (λ b. nat_lt 0 b.left ≡ false) (same_burst c free) idle))

  finished : (c : ℕ) → c < end → IsTrue (is_under_way down.shape down.commands.signals (takes down) c) → IsFalse (is_raised (down.commands.read c))
  finished zero low under = cc
  finished (suc c) low under = by_stall (stalls up down register c) refl (finished c (omega arith))
    where
      by_stall : (b : Bool) → stalls up down register c ≡ b → (IsTrue (is_under_way down.shape down.commands.signals (takes down) c) → IsFalse (is_raised (down.commands.read c))) → IsFalse (is_raised (down.commands.read (suc c)))
      by_stall true e ih = ap (λ (l : Levels). is_raised l.read) (next_levels up down register c true e) ∙ ih (subst (λ b. nat_lt 0 b.left ≡ true) (still_burst c e) under)
      by_stall false e ih = ap (λ (l : Levels). is_raised l.read) (next_levels up down register c false e) ∙ legal.legal.finished c (omega arith) (subst (λ b. nat_lt 0 b.left ≡ true) (same_burst c e) under)

  -- a beat that ends no burst has `more` high
  joined : (c : ℕ) → c < end → IsTrue (shows down.commands.signals c) → IsTrue ((transfer_at down.shape down.commands.signals (takes down) c).ends || is_raised (down.commands.more c))
  joined zero low shown = let bad : ⊥ = let none = register.empty in cc in absurd bad
  joined (suc c) low shown = by_stall (stalls up down register c) refl (joined c (omega arith))
    where
      by_stall : (b : Bool) → stalls up down register c ≡ b → (IsTrue (shows down.commands.signals c) → IsTrue ((transfer_at down.shape down.commands.signals (takes down) c).ends || is_raised (down.commands.more c))) →
          IsTrue ((transfer_at down.shape down.commands.signals (takes down) (suc c)).ends || is_raised (down.commands.more (suc c)))
      by_stall true e ih =
          let levels = next_levels up down register c true e in
          ap₂ (λ t m. t || is_raised m) (ap₂ (λ l b. (transfer_of down.shape l b).ends) levels (still_burst c e)) (register.more c ∙ ap (λ b. if b then down.commands.more c else up.commands.more c) e)
          ∙ ih (ap shown_by (sym levels) ∙ shown)
      by_stall false e ih =
          let levels = next_levels up down register c false e in
          ap₂ (λ t m. t || is_raised m) (ap₂ (λ l b. (transfer_of down.shape l b).ends) levels (same_burst c e)) (register.more c ∙ ap (λ b. if b then down.commands.more c else up.commands.more c) e)
          ∙ ap (λ s. (transfer_of s (levels_at up.commands.signals c) (burst_before up.shape up.commands.signals (takes up) c)).ends || is_raised (up.commands.more c)) register.shape
          ∙ legal.joined c (omega arith) (ap shown_by (sym levels) ∙ shown)

  pub register_legal : AreLegalAt down end
  register_legal = record {
    legal = record {
      one_kind = one_kind;
      held = λ c low held. sym (next_levels up down register c true held);
      least = counts (λ n. 1 ≤ n) legal.legal.least;
      most = λ c low shown idle. counts (λ n. n ≤ 2 ^ (down.shape.burst_bits - 1)) (λ c low shown idle. subst (λ (s : Shape). up.commands.count c ≤ 2 ^ (s.burst_bits - 1)) (sym register.shape) (legal.legal.most c low shown idle)) c low shown idle;
      finished = finished;
    };
    tag = λ c low held. sym (register.tag c ∙ ap (λ b. if b then down.commands.tag c else up.commands.tag c) held);
    more = λ c low held. sym (register.more c ∙ ap (λ b. if b then down.commands.more c else up.commands.more c) held);
    joined = joined;
  }
