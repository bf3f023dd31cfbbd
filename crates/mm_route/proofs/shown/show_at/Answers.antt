use Rattle.std.proofs.Common.{◌≡◌, ◌-◌, ◌+◌, ◌<◌, ◌==◌, ◌&&◌, if◌then◌else◌, refl, subst, ◌∙◌, sym, arith}
use Rattle.histories.specs.History.{is_raised}
use Rattle.net_parts.specs.Laws.{bit_fits, extends_twice, net_lasts, adds_twice, grows_once, adds_fewer}
use Rattle.command_nets.specs.Groups.{command_lasts}
use Rattle.net_parts.specs.Refusing.{handed_on}
use Rattle.mm_route.proofs.Levels.{bit_is, bit_at_fits, shown_level}
use Rattle.mm_route.proofs.shown.show_at.Goals as goal

pub returns-clause-made : goal.returns-clause-made
returns-clause-made c =
    let s = c.requires.shown in
    let one : c.args.k - c.args.k + 1 ≡ 1 = omega arith in
    let e2 = extends_twice _ _ _ c.in_ok-read.ensures.extends c.in_ok-write.ensures.extends in
    let e3 = extends_twice _ _ _ c.in_ok-goes.ensures.extends e2 in
    let e4 = extends_twice _ _ _ c.in_ok-here.ensures.extends e3 in
    let old = command_lasts _ _ _ e4 s.command in
    let wide = c.in_ok-here.ensures.net.1 ∙ one in
    let goes = c.in_ok-goes.ensures.net.1 ∙ wide in
    record {
      nets = record {
        read = net_lasts _ _ _ 1 c.in_ok-write.ensures.extends (record { is_net = c.in_ok-read.ensures.net.0; has_width = c.in_ok-read.ensures.net.1 ∙ goes });
        write = record { is_net = c.in_ok-write.ensures.net.0; has_width = c.in_ok-write.ensures.net.1 ∙ goes };
        address = old.address;
        word = old.word;
        enables = old.enables;
        count = old.count;
        more = old.more;
        tag = e4.nets _ _ s.tag;
      };
      read = λ cycle v4.
          (let v3 = c.in_ok-write.ensures.extends.valuations cycle v4 in
          let v2 = c.in_ok-read.ensures.extends.valuations cycle v3 in
          let v1 = c.in_ok-goes.ensures.extends.valuations cycle v2 in
          let v0 = c.in_ok-here.ensures.extends.valuations cycle v1 in
          let here = bit_is _ c.args.k _ (c.in_ok-here.ensures.value cycle v1).1 in
          subst (λ n. cycle.net c.in_ok-read.read.number ≡ (if (n == 1) && is_raised (cycle.net c.args.shown.now.gate.number) then cycle.net c.args.shown.now.command.read.number else 0)) here
          (shown_level _ _ _ _ _ (subst (λ n. n < 2) (sym here) (bit_at_fits (cycle.net c.args.shown.now.place.number) c.args.k)) (bit_fits _ _ s.gate cycle v0) (bit_fits _ _ s.command.read cycle v0) (c.in_ok-goes.ensures.value cycle v2).1 (c.in_ok-read.ensures.value cycle v3).1));
      write = λ cycle v4.
          (let v3 = c.in_ok-write.ensures.extends.valuations cycle v4 in
          let v2 = c.in_ok-read.ensures.extends.valuations cycle v3 in
          let v1 = c.in_ok-goes.ensures.extends.valuations cycle v2 in
          let v0 = c.in_ok-here.ensures.extends.valuations cycle v1 in
          let here = bit_is _ c.args.k _ (c.in_ok-here.ensures.value cycle v1).1 in
          subst (λ n. cycle.net c.in_ok-write.write.number ≡ (if (n == 1) && is_raised (cycle.net c.args.shown.now.gate.number) then cycle.net c.args.shown.now.command.write.number else 0)) here
          (shown_level _ _ _ _ _ (subst (λ n. n < 2) (sym here) (bit_at_fits (cycle.net c.args.shown.now.place.number) c.args.k)) (bit_fits _ _ s.gate cycle v0) (bit_fits _ _ s.command.write cycle v0) (c.in_ok-goes.ensures.value cycle v2).1 (c.in_ok-write.ensures.value cycle v4).1));
      address = refl;
      word = refl;
      enables = refl;
      count = refl;
      more = refl;
      tag = refl;
    }

pub returns-clause-adds : goal.returns-clause-adds
returns-clause-adds c =
    adds_twice 1 3 _ _ _ (grows_once _ _ c.slice.ensures.extends c.slice.ensures.grows) (adds_twice 1 2 _ _ _ (grows_once _ _ c.and.ensures.extends c.and.ensures.grows)
    (adds_twice 1 1 _ _ _ (grows_once _ _ c.and-2.ensures.extends c.and-2.ensures.grows) (grows_once _ _ c.and-3.ensures.extends c.and-3.ensures.grows)))

pub returns-in_err-here-clause-adds : goal.returns-in_err-here-clause-adds
returns-in_err-here-clause-adds c = adds_fewer _ _ _ _ (omega arith) (grows_once _ _ c.slice.ensures.extends c.slice.ensures.grows)

pub returns-in_err-here-clause-full : goal.returns-in_err-here-clause-full
returns-in_err-here-clause-full c e = let full = c.slice.ensures.full.0 (handed_on _ _ _ _ c.in_err-here.was c.from_residual.ensures.1 e) in omega (arith, full)

pub returns-in_err-goes-clause-adds : goal.returns-in_err-goes-clause-adds
returns-in_err-goes-clause-adds c = adds_fewer _ _ _ _ (omega arith) (adds_twice _ _ _ _ _ (grows_once _ _ c.slice.ensures.extends c.slice.ensures.grows) (grows_once _ _ c.and.ensures.extends c.and.ensures.grows))

pub returns-in_err-goes-clause-full : goal.returns-in_err-goes-clause-full
returns-in_err-goes-clause-full c e = let most = c.slice.ensures.grows.most in let full = c.and.ensures.full.0 (handed_on _ _ _ _ c.in_err-goes.was c.from_residual-in_err-goes.ensures.1 e) in omega (arith, most, full)

pub returns-in_err-read-clause-adds : goal.returns-in_err-read-clause-adds
returns-in_err-read-clause-adds c = adds_fewer _ _ _ _ (omega arith) (adds_twice _ _ _ _ _ (adds_twice _ _ _ _ _ (grows_once _ _ c.slice.ensures.extends c.slice.ensures.grows) (grows_once _ _ c.and.ensures.extends c.and.ensures.grows)) (grows_once _ _ c.and-2.ensures.extends c.and-2.ensures.grows))

pub returns-in_err-read-clause-full : goal.returns-in_err-read-clause-full
returns-in_err-read-clause-full c e = let most = c.slice.ensures.grows.most in let most2 = c.and.ensures.grows.most in let full = c.and-2.ensures.full.0 (handed_on _ _ _ _ c.in_err-read.was c.from_residual-in_err-read.ensures.1 e) in omega (arith, most, most2, full)

pub returns-in_err-write-clause-adds : goal.returns-in_err-write-clause-adds
returns-in_err-write-clause-adds c = adds_fewer _ _ _ _ (omega arith) (adds_twice _ _ _ _ _ (adds_twice _ _ _ _ _ (adds_twice _ _ _ _ _ (grows_once _ _ c.slice.ensures.extends c.slice.ensures.grows) (grows_once _ _ c.and.ensures.extends c.and.ensures.grows)) (grows_once _ _ c.and-2.ensures.extends c.and-2.ensures.grows)) (grows_once _ _ c.and-3.ensures.extends c.and-3.ensures.grows))

pub returns-in_err-write-clause-full : goal.returns-in_err-write-clause-full
returns-in_err-write-clause-full c e = let most = c.slice.ensures.grows.most in let most2 = c.and.ensures.grows.most in let most3 = c.and-2.ensures.grows.most in let full = c.and-3.ensures.full.0 (handed_on _ _ _ _ c.in_err-write.was c.from_residual-in_err-write.ensures.1 e) in omega (arith, most, most2, most3, full)

pub returns-clause-full : goal.returns-clause-full
returns-clause-full c e = cc

pub slice-requires-clause-a_is : goal.slice-requires-clause-a_is
slice-requires-clause-a_is c = c.requires.shown.place.is_net

pub slice-requires-clause-inside : goal.slice-requires-clause-inside
slice-requires-clause-inside c = let bit = c.requires.bit in let width = c.requires.shown.place.has_width in omega (arith, bit, width)

pub and-requires-clause-a_is : goal.and-requires-clause-a_is
and-requires-clause-a_is c = c.in_ok-here.ensures.net.0

pub and-requires-clause-b_is : goal.and-requires-clause-b_is
and-requires-clause-b_is c = c.slice.ensures.extends.nets _ _ c.requires.shown.gate.is_net

pub and-requires-clause-widths : goal.and-requires-clause-widths
and-requires-clause-widths c = (let one : c.args.k - c.args.k + 1 ≡ 1 = omega arith in c.in_ok-here.ensures.net.1 ∙ one) ∙ sym c.requires.shown.gate.has_width

pub and-requires-2-clause-a_is : goal.and-requires-2-clause-a_is
and-requires-2-clause-a_is c = c.in_ok-goes.ensures.net.0

pub and-requires-2-clause-b_is : goal.and-requires-2-clause-b_is
and-requires-2-clause-b_is c = (extends_twice _ _ _ c.slice.ensures.extends c.and.ensures.extends).nets _ _ c.requires.shown.command.read.is_net

pub and-requires-2-clause-widths : goal.and-requires-2-clause-widths
and-requires-2-clause-widths c = c.in_ok-goes.ensures.net.1 ∙ (let one : c.args.k - c.args.k + 1 ≡ 1 = omega arith in c.in_ok-here.ensures.net.1 ∙ one) ∙ sym c.requires.shown.command.read.has_width

pub and-requires-3-clause-a_is : goal.and-requires-3-clause-a_is
and-requires-3-clause-a_is c = c.and-2.ensures.extends.nets _ _ c.in_ok-goes.ensures.net.0

pub and-requires-3-clause-b_is : goal.and-requires-3-clause-b_is
and-requires-3-clause-b_is c = (extends_twice _ _ _ c.slice.ensures.extends (extends_twice _ _ _ c.and.ensures.extends c.and-2.ensures.extends)).nets _ _ c.requires.shown.command.write.is_net

pub and-requires-3-clause-widths : goal.and-requires-3-clause-widths
and-requires-3-clause-widths c = c.in_ok-goes.ensures.net.1 ∙ (let one : c.args.k - c.args.k + 1 ≡ 1 = omega arith in c.in_ok-here.ensures.net.1 ∙ one) ∙ sym c.requires.shown.command.write.has_width
