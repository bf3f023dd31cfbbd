use Rattle.std.proofs.Common.{◌≡◌, ℕ, ◌==◌, if◌then◌else◌, Option, sym, ap, ◌∙◌, arith}
use Rattle.netlist.specs.Runs.{Cycle, Always}
use Rattle.net_parts.specs.Laws.{if_ok, adds_fewer, adds_twice}
use Rattle.net_parts.specs.Refusing.{handed_on}
use Rattle.mm_route.specs.declared.registers.LatchNets.{LatchNets}
use Rattle.mm_route.specs.Forward.{latched_in, place_in}
use Rattle.mm_route.proofs.gate.place_now.Goals as goal

same_latch : (cycle : Cycle) (one other : Option LatchNets) (place : ℕ) → one ≡ other → latched_in cycle other place ≡ latched_in cycle one place
same_latch cycle one other place e = sym (ap (λ (latch : Option LatchNets). latched_in cycle latch place) e)

pub returns-in-None-clause-value : goal.returns-in-None-clause-value
returns-in-None-clause-value c cycle v = c.in_ok-hits.ensures.value cycle v ∙ same_latch cycle _ _ _ c.in-None.is

pub returns-in-Some-clause-value : goal.returns-in-Some-clause-value
returns-in-Some-clause-value c =
    if_ok c.choose.result _ (λ place. Always c.choose.new.builder (λ cycle. cycle.net place.number ≡ place_in cycle c.args.entries.now c.args.registers.now c.args.command.now))
    (λ place value cycle v. (
    let before = c.choose.ensures.adds.grows.extends.valuations cycle v in
    value cycle v ∙ ap (λ n. if cycle.net c.in-Some.latch.inside.number == 0 then n else cycle.net c.in-Some.latch.kept.number) (c.in_ok-hits.ensures.value cycle before)
    ∙ same_latch cycle _ _ _ c.in-Some.is))
    c.choose.ensures.value

pub returns-in_err-hits-clause-adds : goal.returns-in_err-hits-clause-adds
returns-in_err-hits-clause-adds c = adds_fewer _ _ _ _ (omega arith) c.decode_command.ensures.adds

pub returns-in_err-hits-clause-full : goal.returns-in_err-hits-clause-full
returns-in_err-hits-clause-full c e = let full = c.decode_command.ensures.full (handed_on _ _ _ _ c.in_err-hits.was c.from_residual.ensures.1 e) in omega (arith, full)

pub returns-in-None-clause-adds : goal.returns-in-None-clause-adds
returns-in-None-clause-adds c = adds_fewer _ _ _ _ (omega arith) c.decode_command.ensures.adds

pub returns-in-None-clause-full : goal.returns-in-None-clause-full
returns-in-None-clause-full c e = cc

pub returns-in-None-clause-net : goal.returns-in-None-clause-net
returns-in-None-clause-net c = c.in_ok-hits.ensures.net

pub returns-in-Some-clause-adds : goal.returns-in-Some-clause-adds
returns-in-Some-clause-adds c = adds_fewer _ _ _ _ (omega arith) (adds_twice _ _ _ _ _ c.decode_command.ensures.adds c.choose.ensures.adds)

pub returns-in-Some-clause-full : goal.returns-in-Some-clause-full
returns-in-Some-clause-full c e = let most = c.decode_command.ensures.adds.most in let full = c.choose.ensures.full e in omega (arith, most, full)
