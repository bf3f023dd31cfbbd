use Rattle.std.proofs.Common.{◌≡◌, List, length, Option, IfSome, sym, subst, arith}
use Rattle.net_parts.specs.Groups.{InGroup}
use Rattle.net_parts.specs.Growth.{WaitsWithout}
use Rattle.net_parts.specs.Laws.{if_ok, grows_within, adds_grow}
use Rattle.command_nets.specs.declared.nets.CommandNets.{CommandNets}
use Rattle.mm_arbiter.specs.declared.rounds.RoundNets.{RoundNets}
use Rattle.mm_arbiter.specs.Forward.{registers_of, owns, ArbiterForward}
use Rattle.mm_arbiter.specs.Backward.{RoundBackward}
use Rattle.mm_arbiter.specs.Machine.{ArbiterBackward, RunsAsArbiter}
use Rattle.mm_arbiter.proofs.Picks.{both_ok}
use Rattle.mm_arbiter.proofs.Machine.{nets_are_an_arbiter, nets_are_a_wire, one_asker, ok_of}
use Rattle.mm_arbiter.specs.Passes.{PassesOn}
use Rattle.mm_arbiter.proofs.Passes.{round_passes, wire_passes}
use Rattle.mm_arbiter.proofs.arbiter.finish_arbiter.Goals as goal

pub returns-in-None-clause-machine : goal.returns-in-None-clause-machine
returns-in-None-clause-machine c =
    if_ok c.back_to_one.result _ (λ backs. (commands : List CommandNets) (command : CommandNets) → length commands ≡ length c.args.askers.now → ArbiterForward c.args.askers.now commands command c.args.held.now c.args.builder.now
    → RunsAsArbiter c.args.builder.now c.args.askers.now commands command c.args.below.now backs.items)
    (λ backs is commands command same f.
    nets_are_a_wire c.lone_arbiter_is_a_wire.ensures c.args.builder.now c.args.askers.now commands command c.args.below.now backs.items
    (one_asker c.args.held.now.round (length c.args.askers.now) c.requires.held.kind c.in-None.is c.requires.some_askers) (f.alone c.in-None.is) c.requires.tag is)
    c.back_to_one.ensures.made

pub returns-in-None-clause-passes : goal.returns-in-None-clause-passes
returns-in-None-clause-passes c =
    if_ok c.back_to_one.result _ (λ backs. (commands : List CommandNets) (command : CommandNets) → length commands ≡ length c.args.askers.now → ArbiterForward c.args.askers.now commands command c.args.held.now c.args.builder.now
    → PassesOn c.args.builder.now c.args.askers.now commands command c.args.below.now backs.items)
    (λ backs is commands command same f. wire_passes c.args.builder.now c.args.askers.now commands command c.args.below.now backs.items (f.alone c.in-None.is) is)
    c.back_to_one.ensures.made

pub returns-in_ok-step_turns-in-Some-clause-made : goal.returns-in_ok-step_turns-in-Some-clause-made
returns-in_ok-step_turns-in-Some-clause-made c =
    if_ok c.all_backs.result _ (λ backs. ArbiterBackward c.args.askers.now c.args.held.now c.args.below.now c.args.word_bits backs.items c.all_backs.new.builder)
    (λ backs given. record {
      alone = λ none. (let some = c.in-Some.is in absurd (cc));
      round = subst (λ (round : Option RoundNets). IfSome round (RoundBackward c.args.askers.now c.args.held.now.command c.args.below.now c.args.word_bits backs.items c.all_backs.new.builder)) (sym c.in-Some.is)
          (record { steps = λ run cycles r. c.in_ok-step_turns-in-Some.ensures.value run cycles (c.all_backs.ensures.adds.grows.extends.runs run cycles r); given = given });
    })
    c.all_backs.ensures.made

pub returns-in_ok-step_turns-in-Some-clause-machine : goal.returns-in_ok-step_turns-in-Some-clause-machine
returns-in_ok-step_turns-in-Some-clause-machine c =
    both_ok c.all_backs.result _ _ (λ backs. (commands : List CommandNets) (command : CommandNets) → length commands ≡ length c.args.askers.now → ArbiterForward c.args.askers.now commands command c.args.held.now c.all_backs.new.builder
    → RunsAsArbiter c.all_backs.new.builder c.args.askers.now commands command c.args.below.now backs.items)
    (λ backs count given commands command same f.
    nets_are_an_arbiter c.all_backs.new.builder c.args.askers.now commands command c.args.held.now c.in-Some.round c.args.below.now c.args.word_bits backs.items c.in-Some.is f
    (record { steps = λ run cycles r. c.in_ok-step_turns-in-Some.ensures.value run cycles (c.all_backs.ensures.adds.grows.extends.runs run cycles r); given = given }) same count c.requires.some_askers c.requires.apart)
    c.all_backs.ensures.count c.all_backs.ensures.made

pub returns-in_ok-step_turns-in-Some-clause-passes : goal.returns-in_ok-step_turns-in-Some-clause-passes
returns-in_ok-step_turns-in-Some-clause-passes c =
    if_ok c.all_backs.result _ (λ backs. (commands : List CommandNets) (command : CommandNets) → length commands ≡ length c.args.askers.now → ArbiterForward c.args.askers.now commands command c.args.held.now c.all_backs.new.builder
    → PassesOn c.all_backs.new.builder c.args.askers.now commands command c.args.below.now backs.items)
    (λ backs given commands command same f.
    round_passes c.all_backs.new.builder c.args.askers.now commands command c.args.held.now c.in-Some.round c.args.below.now c.args.word_bits backs.items c.in-Some.is f
    (record { steps = λ run cycles r. c.in_ok-step_turns-in-Some.ensures.value run cycles (c.all_backs.ensures.adds.grows.extends.runs run cycles r); given = given }) same c.requires.some_askers)
    c.all_backs.ensures.made

pub returns-in_ok-step_turns-in-Some-clause-grows : goal.returns-in_ok-step_turns-in-Some-clause-grows
returns-in_ok-step_turns-in-Some-clause-grows c = grows_within 2 _ _ _ _ _ c.step_turns.ensures.grows (adds_grow _ _ _ c.all_backs.ensures.adds) (omega arith)

pub returns-in_ok-step_turns-in-Some-clause-no_more_wait : goal.returns-in_ok-step_turns-in-Some-clause-no_more_wait
returns-in_ok-step_turns-in-Some-clause-no_more_wait c =
    ok_of c.all_backs.result (WaitsWithout (owns c.args.held.now) c.args.builder.now c.all_backs.new.builder)
    (λ n w. (
    let h = c.in_ok-step_turns-in-Some.ensures.no_more_wait n (c.all_backs.ensures.adds.grows.no_more_wait n w) in
    (h.0, λ o. h.1 (subst (λ (round : Option RoundNets). InGroup (registers_of round) n) c.in-Some.is o))))
