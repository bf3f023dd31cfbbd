-- The command below depends on the registers and on the commands above alone.
use Rattle.std.proofs.Common.{◌≡◌, ℕ, zero, suc, ◌<◌, Bool, List, [], ◌∷◌, length, get_or, Option, Some, None, IfSome, inl, inr, refl, subst, ap, ◌∙◌, arith}
use Rattle.netlist.specs.Netlists.{Netlist}
use Rattle.netlist.specs.Runs.{Cycle, IsValuation}
use Rattle.net_parts.specs.Groups.{InGroup}
use Rattle.memory_machines.specs.Machines.{Raw}
use Rattle.command_nets.specs.declared.nets.CommandNets.{CommandNets}
use Rattle.command_nets.specs.Nets.{raw_in, ShowSame}
use Rattle.command_nets.specs.Groups.{is_shown}
use Rattle.mm_arbiter.specs.declared.asker.Asker.{Asker}
use Rattle.mm_arbiter.specs.declared.rounds.RoundNets.{RoundNets}
use Rattle.mm_arbiter.specs.declared.arbiter.HeldArbiter.{HeldArbiter}
use Rattle.mm_arbiter.specs.Shown.{asks_in, ShowAllSame}
use Rattle.mm_arbiter.specs.Forward.{registers_of, owns, RunsRound, ArbiterForward}

pub same_asks : (commands : List CommandNets) (one other : Cycle) → ShowAllSame commands one other → asks_in one commands ≡ asks_in other commands
same_asks [] one other h = refl
same_asks (command ∷ later) one other h = ap (λ (raw : Raw). is_shown raw ∷ asks_in one later) h.0 ∙ ap (λ (bits : List Bool). is_shown (raw_in other command) ∷ bits) (same_asks later one other h.1)

pub same_at : (commands : List CommandNets) (k : ℕ) (d : CommandNets) (one other : Cycle) → ShowAllSame commands one other → k < length commands → ShowSame (get_or commands k d) one other
same_at [] k d one other h lt = absurd (omega arith)
same_at (command ∷ later) zero d one other h lt = h.0
same_at (command ∷ later) (suc k) d one other h lt = same_at later k d one other h.1 (omega arith)

by_round : (o : Option RoundNets) (askers : List Asker) (commands : List CommandNets) (command : CommandNets) (netlist : Netlist) → IfSome o (RunsRound askers commands command netlist) → (o ≡ None → commands ≡ command ∷ []) → (one other : Cycle) → IsValuation netlist one → IsValuation netlist other →
    ((n : ℕ) → InGroup (registers_of o) n → one.net n ≡ other.net n) → ShowAllSame commands one other → ShowSame command one other
by_round None askers commands command netlist f alone one other v w state same = (subst (λ (xs : List CommandNets). ShowAllSame xs one other) (alone refl) same).0
by_round (Some round) askers commands command netlist f alone one other v w state same =
    f.reads one other v w
    (record { holder = state round.turns.holder.number (inl refl); left = state round.turns.left.number (inr (inl refl)); inside = state round.turns.inside.number (inr (inr (inl refl))) })
    same

pub ignores_answers : (askers : List Asker) (commands : List CommandNets) (command : CommandNets) (held : HeldArbiter) (netlist : Netlist) → ArbiterForward askers commands command held netlist → (one other : Cycle) → IsValuation netlist one → IsValuation netlist other →
    ((n : ℕ) → owns held n → one.net n ≡ other.net n) → ShowAllSame commands one other → ShowSame command one other
ignores_answers askers commands command held netlist f one other v w state same = by_round held.round askers commands command netlist f.round f.alone one other v w state same
