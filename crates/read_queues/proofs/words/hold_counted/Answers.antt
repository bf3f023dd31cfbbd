use Rattle.std.proofs.Common.{◌≡◌, ◌+◌, ◌-◌, sym, ◌∙◌, arith, subst, inl, inr}
use Rattle.net_parts.specs.Laws.{width_fits, grows_once, adds_grow, grows_fewer, grows_twice}
use Rattle.read_queues.proofs.Levels.{high_bits_of}
use Rattle.net_parts.specs.Refusing.{handed_on}
use Rattle.netlist.specs.Netlists.{IsWaiting}
use Rattle.read_queues.proofs.words.hold_counted.Goals as goal

pub returns-clause-held : goal.returns-clause-held
returns-clause-held c =
    let more = c.register.ensures.grows.extends in
    let some = c.requires.some in
    let cut : c.args.bits + c.args.tag_bits - 1 - c.args.tag_bits + 1 ≡ c.args.bits = omega (arith, some) in
    let wide = c.in_ok-count.ensures.net.1 ∙ cut in
    record {
      count_net = more.nets _ _ c.in_ok-count.ensures.net.0;
      got_net = record { is_net = c.in_ok-got.ensures.net.is_net; has_width = c.in_ok-got.ensures.net.has_width ∙ sym wide };
      starts = c.in_ok-got.ensures.starts;
      count_is = λ cycle v.
          (let v1 = more.valuations cycle v in
          let v0 = c.slice.ensures.extends.valuations cycle v1 in
          high_bits_of _ c.args.bits c.args.tag_bits _ some (width_fits _ _ _ c.requires.oldest cycle v0) (c.in_ok-count.ensures.value cycle v1).1);
    }

pub returns-in_err-count-clause-grows : goal.returns-in_err-count-clause-grows
returns-in_err-count-clause-grows c = grows_fewer _ _ _ _ (omega arith) (adds_grow _ _ _ (grows_once _ _ c.slice.ensures.extends c.slice.ensures.grows))

pub returns-in_err-count-clause-still_wait : goal.returns-in_err-count-clause-still_wait
returns-in_err-count-clause-still_wait c n w = c.slice.ensures.grows.waits n w

pub returns-in_err-count-clause-full : goal.returns-in_err-count-clause-full
returns-in_err-count-clause-full c e = let full = c.slice.ensures.full.0 (handed_on _ _ _ _ c.in_err-count.was c.from_residual.ensures.1 e) in omega (arith, full)

pub returns-in_err-got-clause-grows : goal.returns-in_err-got-clause-grows
returns-in_err-got-clause-grows c = grows_fewer _ _ _ _ (omega arith) (grows_twice _ _ _ _ _ (adds_grow _ _ _ (grows_once _ _ c.slice.ensures.extends c.slice.ensures.grows)) c.register.ensures.grows)

pub returns-in_err-got-clause-still_wait : goal.returns-in_err-got-clause-still_wait
returns-in_err-got-clause-still_wait c n w = c.register.ensures.still_wait n (c.slice.ensures.grows.waits n w)

pub returns-in_err-got-clause-full : goal.returns-in_err-got-clause-full
returns-in_err-got-clause-full c e =
    let most0 = c.slice.ensures.grows.most in
    let full = c.register.ensures.full (handed_on _ _ _ _ c.in_err-got.was c.from_residual-in_err-got.ensures.1 e) in
    omega (arith, most0, full)

pub returns-clause-grows : goal.returns-clause-grows
returns-clause-grows c = grows_fewer _ _ _ _ (omega arith) (grows_twice _ _ _ _ _ (adds_grow _ _ _ (grows_once _ _ c.slice.ensures.extends c.slice.ensures.grows)) c.register.ensures.grows)

pub returns-clause-still_wait : goal.returns-clause-still_wait
returns-clause-still_wait c n w = c.register.ensures.still_wait n (c.slice.ensures.grows.waits n w)

pub returns-clause-full : goal.returns-clause-full
returns-clause-full c e = cc

pub slice-requires-clause-a_is : goal.slice-requires-clause-a_is
slice-requires-clause-a_is c = c.requires.oldest.is_net

pub register-requires-clause-some : goal.register-requires-clause-some
register-requires-clause-some c = c.requires.some

pub returns-clause-owned : goal.returns-clause-owned
returns-clause-owned c n o =
    let sooner = c.slice.ensures.extends.count in
    let number = c.in_ok-got.ensures.number in
    let within = c.in_ok-got.ensures.within in
    (omega (arith, o, number, sooner), omega (arith, o, within))

pub returns-clause-own_wait : goal.returns-clause-own_wait
returns-clause-own_wait c n o = subst (IsWaiting c.register.new.builder) (sym o) c.in_ok-got.ensures.waits

pub returns-clause-newly : goal.returns-clause-newly
returns-clause-newly c n w = elim (c.in_ok-got.ensures.newly n w) [ inl old ↦ inl (c.slice.ensures.grows.no_more_wait n old) | inr e ↦ inr e ]
