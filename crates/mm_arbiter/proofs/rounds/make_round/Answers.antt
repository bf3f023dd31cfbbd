use Rattle.std.proofs.Common.{subst, arith, sym, inl, inr, length}
use Rattle.net_parts.specs.Groups.{InGroup, AreWaiting}
use Rattle.net_parts.specs.Growth.{AreMadeBetween, WaitsBeside}
use Rattle.net_parts.specs.Laws.{if_ok, adds_grow, grows_fewer, grows_twice}
use Rattle.mm_arbiter.specs.declared.turns.TurnNets.{TurnNets}
use Rattle.mm_arbiter.specs.Shown.{commands_last}
use Rattle.mm_arbiter.specs.Turns.{turns_of, TurnsStart, turns_start_on}
use Rattle.mm_arbiter.specs.Rounds.{owned_by}
use Rattle.net_parts.specs.Refusing.{handed_on}
use Rattle.mm_arbiter.proofs.rounds.make_round.Goals as goal

pub take_turns-requires-clause-commands : goal.take_turns-requires-clause-commands
take_turns-requires-clause-commands c = commands_last _ _ _ c.make_turns.ensures.grows.extends c.requires.commands

pub returns-clause-owned : goal.returns-clause-owned
returns-clause-owned c =
    if_ok c.take_turns.result _ (λ p. AreMadeBetween (owned_by p.1) c.args.builder.now c.take_turns.new.builder)
    (λ p same n o. (
    let h = c.in_ok-turns.ensures.owned n (subst (λ (turns : TurnNets). InGroup (turns_of turns) n) same o) in
    let more = c.take_turns.ensures.adds.grows.extends.count in
    (h.0, omega (arith, h.1, more))))
    c.take_turns.ensures.turns

pub returns-in_err-turns-clause-grows : goal.returns-in_err-turns-clause-grows
returns-in_err-turns-clause-grows c = grows_fewer _ _ _ _ (omega arith) c.make_turns.ensures.grows

pub returns-in_err-turns-clause-still_wait : goal.returns-in_err-turns-clause-still_wait
returns-in_err-turns-clause-still_wait c n w = c.make_turns.ensures.still_wait n w

pub returns-in_err-turns-clause-full : goal.returns-in_err-turns-clause-full
returns-in_err-turns-clause-full c e = let full = c.make_turns.ensures.full (handed_on _ _ _ _ c.in_err-turns.was c.from_residual.ensures.1 e) in omega (arith, full)

pub returns-clause-command : goal.returns-clause-command
returns-clause-command c = c.take_turns.ensures.command

pub returns-clause-kept : goal.returns-clause-kept
returns-clause-kept c = c.take_turns.ensures.kept

pub returns-clause-made : goal.returns-clause-made
returns-clause-made c = c.take_turns.ensures.made

pub returns-clause-reads : goal.returns-clause-reads
returns-clause-reads c = c.take_turns.ensures.reads

pub returns-clause-grows : goal.returns-clause-grows
returns-clause-grows c = grows_fewer _ _ _ _ (omega arith) (grows_twice _ _ _ _ _ c.make_turns.ensures.grows (adds_grow _ _ _ c.take_turns.ensures.adds))

pub returns-clause-still_wait : goal.returns-clause-still_wait
returns-clause-still_wait c n w = c.take_turns.ensures.adds.grows.waits n (c.make_turns.ensures.still_wait n w)

pub returns-clause-full : goal.returns-clause-full
returns-clause-full c e =
    let most0 = c.make_turns.ensures.grows.most in
    let full = c.take_turns.ensures.full e in
    omega (arith, most0, full)

pub take_turns-requires-clause-turns : goal.take_turns-requires-clause-turns
take_turns-requires-clause-turns c = c.in_ok-turns.ensures.nets

pub take_turns-requires-clause-some : goal.take_turns-requires-clause-some
take_turns-requires-clause-some c = c.requires.some

pub take_turns-requires-clause-same : goal.take_turns-requires-clause-same
take_turns-requires-clause-same c = c.requires.same

pub take_turns-requires-clause-few : goal.take_turns-requires-clause-few
take_turns-requires-clause-few c = c.requires.few

pub take_turns-requires-clause-askers : goal.take_turns-requires-clause-askers
take_turns-requires-clause-askers c = c.requires.askers

pub take_turns-requires-clause-alike : goal.take_turns-requires-clause-alike
take_turns-requires-clause-alike c = c.requires.alike

pub returns-clause-wait : goal.returns-clause-wait
returns-clause-wait c =
    let waits = c.in_ok-turns.ensures.wait in
    if_ok c.take_turns.result _ (λ p. AreWaiting c.take_turns.new.builder (turns_of p.1.turns))
    (λ p same. subst (λ (turns : TurnNets). AreWaiting c.take_turns.new.builder (turns_of turns)) (sym same)
    (record { start = waits.start; numbers = waits.numbers; wait = λ n o. c.take_turns.ensures.adds.grows.waits n (waits.wait n o) }))
    c.take_turns.ensures.turns

pub returns-clause-starts : goal.returns-clause-starts
returns-clause-starts c =
    if_ok c.take_turns.result _ (λ p. TurnsStart c.take_turns.new.builder p.1.turns (length c.args.commands.now))
    (λ p same. subst (λ (turns : TurnNets). TurnsStart c.take_turns.new.builder turns (length c.args.commands.now)) (sym same) (turns_start_on _ _ _ _ c.take_turns.ensures.adds.grows.extends c.in_ok-turns.ensures.starts))
    c.take_turns.ensures.turns

pub returns-clause-newly : goal.returns-clause-newly
returns-clause-newly c =
    if_ok c.take_turns.result _ (λ p. WaitsBeside (owned_by p.1) c.args.builder.now c.take_turns.new.builder)
    (λ p same n w. elim (c.in_ok-turns.ensures.newly n (c.take_turns.ensures.adds.grows.no_more_wait n w)) [
      | inl old ↦ inl old
      | inr own ↦ inr (subst (λ (turns : TurnNets). InGroup (turns_of turns) n) (sym same) own)
    ])
    c.take_turns.ensures.turns
