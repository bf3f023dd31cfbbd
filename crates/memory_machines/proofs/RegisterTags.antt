-- A register makes no tags and no kinds of its own.
use Rattle.std.proofs.Common.{ℕ, zero, suc, ◌<◌, ◌≡◌, Bool, true, false, not, ◌&&◌, ◌||◌, if◌then◌else◌, IsTrue, arith, sym, ap, ◌∙◌, subst, refl}
use Rattle.memory_machines.proofs.RegisterBeats.{shown_by, stalls, next_levels}
use Rattle.histories.specs.History.{is_raised}
use Rattle.memory_runs.specs.Views.{Levels, levels_at, AgentSide}
use Rattle.memory_runs.specs.Commands.{shows}
use Rattle.memory_machines.specs.Link.{Port}
use Rattle.memory_machines.specs.Register.{IsRegister}
use Rattle.memory_machines.specs.Lines.{BearsTags, ServesKinds, HandsOn, serves_at}

abbrev serves_levels : AgentSide → Levels → Bool
serves_levels side levels = (not (is_raised levels.read) || side.has_read) && (not (is_raised levels.write) || side.has_write)

quiet_serves : (side : AgentSide) (r w : Bool) → (r || w) ≡ false → ((not r || side.has_read) && (not w || side.has_write)) ≡ true
quiet_serves side false false e = refl
quiet_serves side true w e = let bad : ⊥ = cc in absurd bad
quiet_serves side false true e = let bad : ⊥ = cc in absurd bad

module _ (up down : Port) (register : IsRegister up down) where
  tags_on : (may : ℕ → Bool) (end : ℕ) → BearsTags may up end → BearsTags may down end
  tags_on may end bears zero low shown = let bad : ⊥ = not_both (shows down.commands.signals 0) register.empty shown in absurd bad
    where
      not_both : (b : Bool) → b ≡ false → b ≡ true → ⊥
      not_both b e k = cc
  tags_on may end bears (suc c) low shown = by_stall (stalls up down register c) refl (λ less seen. tags_on may end bears c less seen)
    where
      by_stall : (b : Bool) → stalls up down register c ≡ b → (c < end → IsTrue (shows down.commands.signals c) → IsTrue (may (down.commands.tag c))) → IsTrue (may (down.commands.tag (suc c)))
      by_stall true e before =
          let tags : down.commands.tag (suc c) ≡ down.commands.tag c = register.tag c ∙ ap (λ b. if b then down.commands.tag c else up.commands.tag c) e in
          let still : shows down.commands.signals c ≡ true = ap shown_by (sym (next_levels up down register c true e)) ∙ shown in
          subst (λ t. IsTrue (may t)) (sym tags) (before (omega arith) still)
      by_stall false e before =
          let tags : down.commands.tag (suc c) ≡ up.commands.tag c = register.tag c ∙ ap (λ b. if b then down.commands.tag c else up.commands.tag c) e in
          let still : shows up.commands.signals c ≡ true = ap shown_by (sym (next_levels up down register c false e)) ∙ shown in
          subst (λ t. IsTrue (may t)) (sym tags) (bears c (omega arith) still)

  kinds_on : (side : AgentSide) (end : ℕ) → ServesKinds side up end → ServesKinds side down end
  kinds_on side end serves zero low = quiet_serves side (is_raised (down.commands.read 0)) (is_raised (down.commands.write 0)) register.empty
  kinds_on side end serves (suc c) low = by_stall (stalls up down register c) refl (kinds_on side end serves c (omega arith))
    where
      by_stall : (b : Bool) → stalls up down register c ≡ b → IsTrue (serves_at side down c) → serves_levels side (levels_at down.commands.signals (suc c)) ≡ true
      by_stall true e before = ap (serves_levels side) (next_levels up down register c true e) ∙ before
      by_stall false e before = ap (serves_levels side) (next_levels up down register c false e) ∙ serves c (omega arith)

  pub register_hands_on : (end : ℕ) → HandsOn up down end
  register_hands_on end = record { tags = λ may. tags_on may end; kinds = λ side. kinds_on side end }
