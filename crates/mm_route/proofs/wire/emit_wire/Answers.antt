use Rattle.std.proofs.Common.{◌≡◌, List, [], ◌∷◌, ◌++◌, refl, sym, subst, ap, ◌∙◌, arith}
use Rattle.net_parts.specs.Laws.{extends_twice, net_lasts, adds_grow, grows_twice, grows_fewer}
use Rattle.command_nets.specs.declared.nets.CommandNets.{CommandNets}
use Rattle.command_nets.specs.Groups.{command_lasts}
use Rattle.net_parts.specs.Refusing.{handed_on}
use Rattle.mm_route.specs.Shown.{AreCommandsOf, widths_below}
use Rattle.mm_route.proofs.wire.emit_wire.Goals as goal

pub returns-in_err-tag-clause-grows : goal.returns-in_err-tag-clause-grows
returns-in_err-tag-clause-grows c = grows_twice 1 1 _ _ _ c.register.ensures.grows (adds_grow _ _ _ c.constant.ensures.adds)

pub returns-in_err-push-clause-grows : goal.returns-in_err-push-clause-grows
returns-in_err-push-clause-grows c = grows_twice 1 1 _ _ _ c.register.ensures.grows (adds_grow _ _ _ c.constant.ensures.adds)

pub returns-clause-grows : goal.returns-clause-grows
returns-clause-grows c = grows_twice 1 1 _ _ _ c.register.ensures.grows (adds_grow _ _ _ c.constant.ensures.adds)

pub returns-clause-commands : goal.returns-clause-commands
returns-clause-commands c =
    let e = extends_twice _ _ _ c.register.ensures.grows.extends c.constant.ensures.adds.grows.extends in
    let old = command_lasts _ _ _ e c.requires.command in
    let below : CommandNets = record c.args.command { tag = c.in_ok-tag.tag } in
    let made : c.push.new.self.items ≡ below ∷ [] = c.in_ok-push.ensures.items ∙ ap (λ (cs : List CommandNets). cs ++ below ∷ []) c.new-commands.ensures.items in
    subst (λ (cs : List CommandNets). AreCommandsOf c.constant.new.builder (widths_below c.args.command c.args.tag_bits) cs) (sym made) (
      (
        record {
          read = old.read;
          write = old.write;
          address = old.address;
          word = old.word;
          enables = old.enables;
          count = old.count;
          more = old.more;
          tag = c.in_ok-tag.ensures.net.is_net;
        },
        ap (widths_below c.args.command) c.in_ok-tag.ensures.net.has_width,
      ),
      tt,
    )

pub returns-clause-kept : goal.returns-clause-kept
returns-clause-kept c =
    let late = c.constant.ensures.adds.grows in
    record {
      one = refl;
      owing = net_lasts _ _ _ 1 late.extends c.in_ok-owing.ensures.net;
      waits = late.waits _ c.in_ok-owing.ensures.waits;
      command = command_lasts _ _ _ (extends_twice _ _ _ c.register.ensures.grows.extends late.extends) c.requires.command;
    }

pub returns-in_err-owing-clause-full : goal.returns-in_err-owing-clause-full
returns-in_err-owing-clause-full c e = let full = c.register.ensures.full (handed_on _ _ _ _ c.in_err-owing.was c.from_residual.ensures.1 e) in omega (arith, full)

pub returns-in_err-tag-clause-full : goal.returns-in_err-tag-clause-full
returns-in_err-tag-clause-full c e = let most = c.register.ensures.grows.most in let full = c.constant.ensures.full (handed_on _ _ _ _ c.in_err-tag.was c.from_residual-in_err-tag.ensures.1 e) in omega (arith, most, full)

pub returns-clause-full : goal.returns-clause-full
returns-clause-full c e = cc

pub returns-in_err-owing-clause-grows : goal.returns-in_err-owing-clause-grows
returns-in_err-owing-clause-grows c = grows_fewer _ _ _ _ (omega arith) c.register.ensures.grows

pub returns-in_err-tag-clause-waits : goal.returns-in_err-tag-clause-waits
returns-in_err-tag-clause-waits c n w = c.constant.ensures.adds.grows.waits n (c.register.ensures.still_wait n w)

pub returns-in_err-push-clause-waits : goal.returns-in_err-push-clause-waits
returns-in_err-push-clause-waits c n w = c.constant.ensures.adds.grows.waits n (c.register.ensures.still_wait n w)

pub returns-clause-waits : goal.returns-clause-waits
returns-clause-waits c n w = c.constant.ensures.adds.grows.waits n (c.register.ensures.still_wait n w)

pub returns-clause-newly : goal.returns-clause-newly
returns-clause-newly c n w = c.in_ok-owing.ensures.newly n (c.constant.ensures.adds.grows.no_more_wait n w)

pub returns-clause-owned : goal.returns-clause-owned
returns-clause-owned c n e = let number = c.in_ok-owing.ensures.number in let one = c.in_ok-owing.ensures.count in let more = c.constant.ensures.adds.grows.extends.count in (omega (arith, e, number), omega (arith, e, number, one, more))

pub returns-clause-starts : goal.returns-clause-starts
returns-clause-starts c run cycles r = c.in_ok-owing.ensures.starts run cycles (c.constant.ensures.adds.grows.extends.runs run cycles r)

pub returns-clause-tag : goal.returns-clause-tag
returns-clause-tag c = c.in_ok-tag.ensures.value

pub returns-clause-only : goal.returns-clause-only
returns-clause-only c =
    let below : CommandNets = record c.args.command { tag = c.in_ok-tag.tag } in
    c.in_ok-push.ensures.items ∙ ap (λ (cs : List CommandNets). cs ++ below ∷ []) c.new-commands.ensures.items
