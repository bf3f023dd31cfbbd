use Rattle.std.proofs.Common.{◌<◌, ◌+◌, length, refl, sym, subst, arith, inl, inr}
use Rattle.net_parts.specs.Laws.{grows_twice, grows_fewer, extends_twice, net_lasts}
use Rattle.net_parts.specs.Groups.{in_row}
use Rattle.net_parts.specs.Refusing.{handed_on}
use Rattle.netlist.specs.Netlists.{IsWaiting}
use Rattle.mm_split.specs.Registers.{group_of}
use Rattle.mm_split.specs.declared.registers.SplitRegisters.{SplitRegisters}
use Rattle.mm_split.proofs.registers.hold.Goals as goal

pub returns-in_err-place-clause-grows : goal.returns-in_err-place-clause-grows
returns-in_err-place-clause-grows c = grows_fewer _ _ _ _ (omega arith) c.register.ensures.grows

pub returns-in_err-place-clause-still_wait : goal.returns-in_err-place-clause-still_wait
returns-in_err-place-clause-still_wait c n w = (c.register.ensures.still_wait n w)

pub returns-in_err-place-clause-full : goal.returns-in_err-place-clause-full
returns-in_err-place-clause-full c e =
    let full = c.register.ensures.full (handed_on _ _ _ _ c.in_err-place.was c.from_residual.ensures.1 e) in
    omega (arith, full)

pub returns-in_err-set-clause-grows : goal.returns-in_err-set-clause-grows
returns-in_err-set-clause-grows c = grows_fewer _ _ _ _ (omega arith) (grows_twice _ _ _ _ _ c.register.ensures.grows c.full_register.ensures.grows)

pub returns-in_err-set-clause-still_wait : goal.returns-in_err-set-clause-still_wait
returns-in_err-set-clause-still_wait c n w = (c.full_register.ensures.still_wait n (c.register.ensures.still_wait n w))

pub returns-in_err-set-clause-full : goal.returns-in_err-set-clause-full
returns-in_err-set-clause-full c e =
    let most0 = c.register.ensures.grows.most in
    let full = c.full_register.ensures.full (handed_on _ _ _ _ c.in_err-set.was c.from_residual-in_err-set.ensures.1 e) in
    omega (arith, most0, full)

pub returns-in_err-reads-clause-grows : goal.returns-in_err-reads-clause-grows
returns-in_err-reads-clause-grows c = grows_fewer _ _ _ _ (omega arith) (grows_twice _ _ _ _ _ (grows_twice _ _ _ _ _ c.register.ensures.grows c.full_register.ensures.grows) c.register-2.ensures.grows)

pub returns-in_err-reads-clause-still_wait : goal.returns-in_err-reads-clause-still_wait
returns-in_err-reads-clause-still_wait c n w = (c.register-2.ensures.still_wait n (c.full_register.ensures.still_wait n (c.register.ensures.still_wait n w)))

pub returns-in_err-reads-clause-full : goal.returns-in_err-reads-clause-full
returns-in_err-reads-clause-full c e =
    let most0 = c.register.ensures.grows.most in
    let most1 = c.full_register.ensures.grows.most in
    let full = c.register-2.ensures.full (handed_on _ _ _ _ c.in_err-reads.was c.from_residual-in_err-reads.ensures.1 e) in
    omega (arith, most0, most1, full)

pub returns-in_err-come-clause-grows : goal.returns-in_err-come-clause-grows
returns-in_err-come-clause-grows c = grows_fewer _ _ _ _ (omega arith) (grows_twice _ _ _ _ _ (grows_twice _ _ _ _ _ (grows_twice _ _ _ _ _ c.register.ensures.grows c.full_register.ensures.grows) c.register-2.ensures.grows) c.register-3.ensures.grows)

pub returns-in_err-come-clause-still_wait : goal.returns-in_err-come-clause-still_wait
returns-in_err-come-clause-still_wait c n w = (c.register-3.ensures.still_wait n (c.register-2.ensures.still_wait n (c.full_register.ensures.still_wait n (c.register.ensures.still_wait n w))))

pub returns-in_err-come-clause-full : goal.returns-in_err-come-clause-full
returns-in_err-come-clause-full c e =
    let most0 = c.register.ensures.grows.most in
    let most1 = c.full_register.ensures.grows.most in
    let most2 = c.register-2.ensures.grows.most in
    let full = c.register-3.ensures.full (handed_on _ _ _ _ c.in_err-come.was c.from_residual-in_err-come.ensures.1 e) in
    omega (arith, most0, most1, most2, full)

pub returns-in_err-word-clause-grows : goal.returns-in_err-word-clause-grows
returns-in_err-word-clause-grows c = grows_fewer _ _ _ _ (omega arith) (grows_twice _ _ _ _ _ (grows_twice _ _ _ _ _ (grows_twice _ _ _ _ _ (grows_twice _ _ _ _ _ c.register.ensures.grows c.full_register.ensures.grows) c.register-2.ensures.grows) c.register-3.ensures.grows) c.register-4.ensures.grows)

pub returns-in_err-word-clause-still_wait : goal.returns-in_err-word-clause-still_wait
returns-in_err-word-clause-still_wait c n w = (c.register-4.ensures.still_wait n (c.register-3.ensures.still_wait n (c.register-2.ensures.still_wait n (c.full_register.ensures.still_wait n (c.register.ensures.still_wait n w)))))

pub returns-in_err-word-clause-full : goal.returns-in_err-word-clause-full
returns-in_err-word-clause-full c e =
    let most0 = c.register.ensures.grows.most in
    let most1 = c.full_register.ensures.grows.most in
    let most2 = c.register-2.ensures.grows.most in
    let most3 = c.register-3.ensures.grows.most in
    let full = c.register-4.ensures.full (handed_on _ _ _ _ c.in_err-word.was c.from_residual-in_err-word.ensures.1 e) in
    omega (arith, most0, most1, most2, most3, full)

pub returns-in_err-code-clause-grows : goal.returns-in_err-code-clause-grows
returns-in_err-code-clause-grows c = grows_fewer _ _ _ _ (omega arith) (grows_twice _ _ _ _ _ (grows_twice _ _ _ _ _ (grows_twice _ _ _ _ _ (grows_twice _ _ _ _ _ (grows_twice _ _ _ _ _ c.register.ensures.grows c.full_register.ensures.grows) c.register-2.ensures.grows) c.register-3.ensures.grows) c.register-4.ensures.grows) c.register-5.ensures.grows)

pub returns-in_err-code-clause-still_wait : goal.returns-in_err-code-clause-still_wait
returns-in_err-code-clause-still_wait c n w = (c.register-5.ensures.still_wait n (c.register-4.ensures.still_wait n (c.register-3.ensures.still_wait n (c.register-2.ensures.still_wait n (c.full_register.ensures.still_wait n (c.register.ensures.still_wait n w))))))

pub returns-in_err-code-clause-full : goal.returns-in_err-code-clause-full
returns-in_err-code-clause-full c e =
    let most0 = c.register.ensures.grows.most in
    let most1 = c.full_register.ensures.grows.most in
    let most2 = c.register-2.ensures.grows.most in
    let most3 = c.register-3.ensures.grows.most in
    let most4 = c.register-4.ensures.grows.most in
    let full = c.register-5.ensures.full (handed_on _ _ _ _ c.in_err-code.was c.from_residual-in_err-code.ensures.1 e) in
    omega (arith, most0, most1, most2, most3, most4, full)

pub returns-clause-grows : goal.returns-clause-grows
returns-clause-grows c = grows_fewer _ _ _ _ (omega arith) (grows_twice _ _ _ _ _ (grows_twice _ _ _ _ _ (grows_twice _ _ _ _ _ (grows_twice _ _ _ _ _ (grows_twice _ _ _ _ _ c.register.ensures.grows c.full_register.ensures.grows) c.register-2.ensures.grows) c.register-3.ensures.grows) c.register-4.ensures.grows) c.register-5.ensures.grows)

pub returns-clause-still_wait : goal.returns-clause-still_wait
returns-clause-still_wait c n w = (c.register-5.ensures.still_wait n (c.register-4.ensures.still_wait n (c.register-3.ensures.still_wait n (c.register-2.ensures.still_wait n (c.full_register.ensures.still_wait n (c.register.ensures.still_wait n w))))))

pub returns-clause-full : goal.returns-clause-full
returns-clause-full c e = cc

pub returns-clause-registers : goal.returns-clause-registers
returns-clause-registers c =
    let count0 = c.in_ok-place.ensures.count in
    let at0 = c.in_ok-place.ensures.number in
    let count1 = c.in_ok-set.ensures.count in
    let at1 = c.in_ok-set.ensures.number in
    let count2 = c.in_ok-reads.ensures.count in
    let at2 = c.in_ok-reads.ensures.number in
    let count3 = c.in_ok-come.ensures.count in
    let at3 = c.in_ok-come.ensures.number in
    let count4 = c.in_ok-word.ensures.count in
    let at4 = c.in_ok-word.ensures.number in
    let count5 = c.in_ok-code.ensures.count in
    let at5 = c.in_ok-code.ensures.number in
    record {
      nets = record {
        place = net_lasts _ _ _ _ (extends_twice _ _ _ c.full_register.ensures.grows.extends (extends_twice _ _ _ c.register-2.ensures.grows.extends (extends_twice _ _ _ c.register-3.ensures.grows.extends (extends_twice _ _ _ c.register-4.ensures.grows.extends c.register-5.ensures.grows.extends)))) c.in_ok-place.ensures.net;
        set = net_lasts _ _ _ _ (extends_twice _ _ _ c.register-2.ensures.grows.extends (extends_twice _ _ _ c.register-3.ensures.grows.extends (extends_twice _ _ _ c.register-4.ensures.grows.extends c.register-5.ensures.grows.extends))) c.in_ok-set.ensures.net;
        reads = net_lasts _ _ _ _ (extends_twice _ _ _ c.register-3.ensures.grows.extends (extends_twice _ _ _ c.register-4.ensures.grows.extends c.register-5.ensures.grows.extends)) c.in_ok-reads.ensures.net;
        come = net_lasts _ _ _ _ (extends_twice _ _ _ c.register-4.ensures.grows.extends c.register-5.ensures.grows.extends) c.in_ok-come.ensures.net;
        word = net_lasts _ _ _ _ c.register-5.ensures.grows.extends c.in_ok-word.ensures.net;
        code = c.in_ok-code.ensures.net;
      };
      starts = λ run cycles r h. (let e0 = c.in_ok-place.ensures.starts run cycles ((extends_twice _ _ _ c.full_register.ensures.grows.extends (extends_twice _ _ _ c.register-2.ensures.grows.extends (extends_twice _ _ _ c.register-3.ensures.grows.extends (extends_twice _ _ _ c.register-4.ensures.grows.extends c.register-5.ensures.grows.extends)))).runs run cycles r) h in let e1 = c.in_ok-reads.ensures.starts run cycles ((extends_twice _ _ _ c.register-3.ensures.grows.extends (extends_twice _ _ _ c.register-4.ensures.grows.extends c.register-5.ensures.grows.extends)).runs run cycles r) h in let e2 = c.in_ok-come.ensures.starts run cycles ((extends_twice _ _ _ c.register-4.ensures.grows.extends c.register-5.ensures.grows.extends).runs run cycles r) h in let e3 = c.in_ok-word.ensures.starts run cycles (c.register-5.ensures.grows.extends.runs run cycles r) h in let e4 = c.in_ok-code.ensures.starts run cycles r h in rw (e0, e1, e2, e3, e4) refl);
      full = λ run cycles r. c.in_ok-set.ensures.starts run cycles ((extends_twice _ _ _ c.register-2.ensures.grows.extends (extends_twice _ _ _ c.register-3.ensures.grows.extends (extends_twice _ _ _ c.register-4.ensures.grows.extends c.register-5.ensures.grows.extends))).runs run cycles r);
      wait = record {
        start = length c.args.builder.now.lines;
        numbers = (omega (arith, at0), (omega (arith, at1, count0), (omega (arith, at2, count0, count1), (omega (arith, at3, count0, count1, count2), (omega (arith, at4, count0, count1, count2, count3), (omega (arith, at5, count0, count1, count2, count3, count4), tt))))));
        wait = λ n o. elim o [ inl e ↦ subst (IsWaiting c.register-5.new.builder) (sym e) (c.register-5.ensures.still_wait _ (c.register-4.ensures.still_wait _ (c.register-3.ensures.still_wait _ (c.register-2.ensures.still_wait _ (c.full_register.ensures.still_wait _ c.in_ok-place.ensures.waits))))) | inr p ↦ elim p [ inl e ↦ subst (IsWaiting c.register-5.new.builder) (sym e) (c.register-5.ensures.still_wait _ (c.register-4.ensures.still_wait _ (c.register-3.ensures.still_wait _ (c.register-2.ensures.still_wait _ c.in_ok-set.ensures.waits)))) | inr p ↦ elim p [ inl e ↦ subst (IsWaiting c.register-5.new.builder) (sym e) (c.register-5.ensures.still_wait _ (c.register-4.ensures.still_wait _ (c.register-3.ensures.still_wait _ c.in_ok-reads.ensures.waits))) | inr p ↦ elim p [ inl e ↦ subst (IsWaiting c.register-5.new.builder) (sym e) (c.register-5.ensures.still_wait _ (c.register-4.ensures.still_wait _ c.in_ok-come.ensures.waits)) | inr p ↦ elim p [ inl e ↦ subst (IsWaiting c.register-5.new.builder) (sym e) (c.register-5.ensures.still_wait _ c.in_ok-word.ensures.waits) | inr p ↦ elim p [ inl e ↦ subst (IsWaiting c.register-5.new.builder) (sym e) c.in_ok-code.ensures.waits | inr p ↦ absurd p ] ] ] ] ] ];
      };
    }

pub returns-clause-owned : goal.returns-clause-owned
returns-clause-owned c n o =
    let count0 = c.in_ok-place.ensures.count in
    let at0 = c.in_ok-place.ensures.number in
    let count1 = c.in_ok-set.ensures.count in
    let at1 = c.in_ok-set.ensures.number in
    let count2 = c.in_ok-reads.ensures.count in
    let at2 = c.in_ok-reads.ensures.number in
    let count3 = c.in_ok-come.ensures.count in
    let at3 = c.in_ok-come.ensures.number in
    let count4 = c.in_ok-word.ensures.count in
    let at4 = c.in_ok-word.ensures.number in
    let count5 = c.in_ok-code.ensures.count in
    let at5 = c.in_ok-code.ensures.number in
    let made : SplitRegisters = record { place = c.in_ok-place.place; set = c.in_ok-set.set; reads = c.in_ok-reads.reads; come = c.in_ok-come.come; word = c.in_ok-word.word; code = c.in_ok-code.code } in
    let at = in_row (length c.args.builder.now.lines) (group_of made) (omega (arith, at0), (omega (arith, at1, count0), (omega (arith, at2, count0, count1), (omega (arith, at3, count0, count1, count2), (omega (arith, at4, count0, count1, count2, count3), (omega (arith, at5, count0, count1, count2, count3, count4), tt)))))) n o in
    (at.least, (let below : n < length c.args.builder.now.lines + 6 = at.below in omega (arith, below, count0, count1, count2, count3, count4, count5)))

pub returns-clause-newly : goal.returns-clause-newly
returns-clause-newly c n w = elim (c.in_ok-code.ensures.newly n w) [ inl old ↦ elim (c.in_ok-word.ensures.newly n old) [ inl old ↦ elim (c.in_ok-come.ensures.newly n old) [ inl old ↦ elim (c.in_ok-reads.ensures.newly n old) [ inl old ↦ elim (c.in_ok-set.ensures.newly n old) [ inl old ↦ elim (c.in_ok-place.ensures.newly n old) [ inl old ↦ inl old | inr e ↦ inr (inl e) ] | inr e ↦ inr (inr (inl e)) ] | inr e ↦ inr (inr (inr (inl e))) ] | inr e ↦ inr (inr (inr (inr (inl e)))) ] | inr e ↦ inr (inr (inr (inr (inr (inl e))))) ] | inr e ↦ inr (inr (inr (inr (inr (inr (inl e)))))) ]
