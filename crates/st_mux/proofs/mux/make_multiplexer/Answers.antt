use Rattle.std.proofs.Common.{arith, inl, inr}
use Rattle.net_parts.specs.Laws.{extends_twice, adds_grow, grows_twice, grows_fewer}
use Rattle.st_mux.specs.MultiplexerNets.{leads_last}
use Rattle.st_mux.proofs.mux.make_multiplexer.Goals as goal

pub returns-in_err-made-clause-grows : goal.returns-in_err-made-clause-grows
returns-in_err-made-clause-grows c = grows_fewer _ _ _ _ (omega (arith, c.requires.some)) (grows_twice _ _ _ _ _ c.make_turns.ensures.grows (adds_grow _ _ _ c.lead.ensures.adds))

pub returns-in_err-stays-clause-grows : goal.returns-in_err-stays-clause-grows
returns-in_err-stays-clause-grows c =
    grows_fewer _ _ _ _ (omega (arith, c.requires.some))
    (grows_twice _ _ _ _ _ (grows_twice _ _ _ _ _ c.make_turns.ensures.grows (adds_grow _ _ _ c.lead.ensures.adds)) (adds_grow _ _ _ c.stays_locked.ensures.adds))

pub returns-clause-grows : goal.returns-clause-grows
returns-clause-grows c =
    grows_fewer _ _ _ _ (omega (arith, c.requires.some))
    (grows_twice _ _ _ _ _ (grows_twice _ _ _ _ _ (grows_twice _ _ _ _ _ c.make_turns.ensures.grows (adds_grow _ _ _ c.lead.ensures.adds)) (adds_grow _ _ _ c.stays_locked.ensures.adds)) c.set_turns.ensures.grows)

pub returns-clause-no_more_wait : goal.returns-clause-no_more_wait
returns-clause-no_more_wait c n w =
    let last = c.set_turns.ensures.no_more_wait n w in
    let before = c.lead.ensures.adds.grows.no_more_wait n (c.stays_locked.ensures.adds.grows.no_more_wait n last.0) in
    elim (c.in_ok-turns.ensures.newly n before) [ inl old ↦ old | inr made ↦ absurd (last.1 made) ]

pub returns-clause-nets : goal.returns-clause-nets
returns-clause-nets c =
    let last = c.set_turns.ensures.grows.extends in
    let led = extends_twice _ _ _ c.stays_locked.ensures.adds.grows.extends last in
    let whole = extends_twice _ _ _ c.lead.ensures.adds.grows.extends led in
    let turns = c.in_ok-turns.ensures.turns in
    record {
      turns = c.in_ok-turns.turns;
      stays = c.in_ok-stays.stays;
      leads = leads_last _ _ c.args.inputs.now c.in_ok-turns.turns c.args.bits c.args.ready c.in_ok-made.made led c.in_ok-made.ensures.leads;
      stays_value = λ cycle v. c.in_ok-stays.ensures.value cycle (last.valuations cycle v);
      holder_starts = λ run cycles r. turns.holder_starts run cycles (whole.runs run cycles r);
      locked_starts = λ run cycles r. turns.locked_starts run cycles (whole.runs run cycles r);
      holder_takes = c.set_turns.ensures.holder;
      locked_takes = c.set_turns.ensures.locked;
    }
