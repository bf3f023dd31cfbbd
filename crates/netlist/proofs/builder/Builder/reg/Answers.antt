use Rattle.std.proofs.Common.{◌≡◌, ℕ, ◌<◌, refl}
use Rattle.netlist.specs.Netlists.{IsWaiting}
use Rattle.netlist.specs.Runs.{Run, IsRun}
use Rattle.netlist.proofs.Growth.{if_ok, register_starts, register_waits}
use Rattle.netlist.proofs.builder.Builder.reg.Goals as goal

pub returns-clause-value : goal.returns-clause-value
returns-clause-value c =
    if_ok c.append.result _ (λ n. (run : Run) (cycles : ℕ) → IsRun c.append.new.self run cycles → 0 < cycles → run.net 0 n.number ≡ c.args.reset.bits)
    (λ n made. register_starts c.args.self.now c.append.new.self n _ _ c.args.reset made) c.append.ensures.line

pub returns-clause-waits : goal.returns-clause-waits
returns-clause-waits c =
    if_ok c.append.result _ (λ n. IsWaiting c.append.new.self n.number) (λ n made. register_waits c.args.self.now c.append.new.self n _ refl made) c.append.ensures.line
