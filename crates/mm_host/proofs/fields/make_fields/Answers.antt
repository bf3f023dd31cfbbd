use Rattle.std.proofs.Common.{subst, arith, sym}
use Rattle.net_parts.specs.Nets.{IsNetOfWidth}
use Rattle.net_parts.specs.Laws.{extends_twice, net_lasts, adds_fewer, adds_twice, extends_none}
use Rattle.command_nets.specs.Levels.{one_fits}
use Rattle.std.specs.Prelude.{ℕ, Bool, Option, Some, None, IfSome}
use Rattle.netlist.specs.Nets.{NetValue}
use Rattle.netlist.specs.Netlists.{Netlist}
use Rattle.netlist.specs.Longer.{Extends}
use Rattle.command_nets.specs.Ports.{HasNet}
use Rattle.net_parts.specs.Refusing.{handed_on}
use Rattle.mm_host.proofs.fields.make_fields.Goals as goal

-- a net at a port lasts
some_lasts : (old new : Netlist) (there : Bool) (bits : ℕ) (net : Option NetValue) → Extends old new → HasNet old there bits net → IfSome net (λ given. IsNetOfWidth new given bits)
some_lasts old new there bits None e h = tt
some_lasts old new there bits (Some net) e h = net_lasts old new net bits e h.1

pub given_or-requires-4-clause-fits : goal.given_or-requires-4-clause-fits
given_or-requires-4-clause-fits c = one_fits _ c.count_bits.ensures.some

pub returns-in_err-enables-clause-adds : goal.returns-in_err-enables-clause-adds
returns-in_err-enables-clause-adds c = adds_fewer _ _ _ _ (omega arith) (adds_twice _ _ _ _ _ (adds_twice _ _ _ _ _ (adds_twice _ _ _ _ _ (adds_twice _ _ _ _ _ c.given_or.ensures.adds c.given_or-2.ensures.adds) c.in_bytes.ensures.adds) c.given_or-3.ensures.adds) c.given_enables.ensures.adds)

pub returns-in_err-count-clause-adds : goal.returns-in_err-count-clause-adds
returns-in_err-count-clause-adds c = adds_fewer _ _ _ _ (omega arith) (adds_twice _ _ _ _ _ (adds_twice _ _ _ _ _ (adds_twice _ _ _ _ _ (adds_twice _ _ _ _ _ (adds_twice _ _ _ _ _ c.given_or.ensures.adds c.given_or-2.ensures.adds) c.in_bytes.ensures.adds) c.given_or-3.ensures.adds) c.given_enables.ensures.adds) c.given_or-4.ensures.adds)

pub returns-in_err-tag-clause-adds : goal.returns-in_err-tag-clause-adds
returns-in_err-tag-clause-adds c = adds_fewer _ _ _ _ (omega arith) (adds_twice _ _ _ _ _ (adds_twice _ _ _ _ _ (adds_twice _ _ _ _ _ (adds_twice _ _ _ _ _ (adds_twice _ _ _ _ _ (adds_twice _ _ _ _ _ c.given_or.ensures.adds c.given_or-2.ensures.adds) c.in_bytes.ensures.adds) c.given_or-3.ensures.adds) c.given_enables.ensures.adds) c.given_or-4.ensures.adds) c.given_or-5.ensures.adds)

pub returns-clause-adds : goal.returns-clause-adds
returns-clause-adds c = adds_fewer _ _ _ _ (omega arith) (adds_twice _ _ _ _ _ (adds_twice _ _ _ _ _ (adds_twice _ _ _ _ _ (adds_twice _ _ _ _ _ (adds_twice _ _ _ _ _ (adds_twice _ _ _ _ _ c.given_or.ensures.adds c.given_or-2.ensures.adds) c.in_bytes.ensures.adds) c.given_or-3.ensures.adds) c.given_enables.ensures.adds) c.given_or-4.ensures.adds) c.given_or-5.ensures.adds)

pub returns-clause-fields : goal.returns-clause-fields
returns-clause-fields c = record {
  read = net_lasts _ _ _ _ (extends_twice _ _ _ c.given_or-2.ensures.adds.grows.extends (extends_twice _ _ _ c.in_bytes.ensures.adds.grows.extends (extends_twice _ _ _ c.given_or-3.ensures.adds.grows.extends (extends_twice _ _ _ c.given_enables.ensures.adds.grows.extends (extends_twice _ _ _ c.given_or-4.ensures.adds.grows.extends c.given_or-5.ensures.adds.grows.extends))))) c.in_ok-read.ensures.net;
  write = net_lasts _ _ _ _ (extends_twice _ _ _ c.in_bytes.ensures.adds.grows.extends (extends_twice _ _ _ c.given_or-3.ensures.adds.grows.extends (extends_twice _ _ _ c.given_enables.ensures.adds.grows.extends (extends_twice _ _ _ c.given_or-4.ensures.adds.grows.extends c.given_or-5.ensures.adds.grows.extends)))) c.in_ok-write.ensures.net;
  address = (extends_twice _ _ _ c.given_or-3.ensures.adds.grows.extends (extends_twice _ _ _ c.given_enables.ensures.adds.grows.extends (extends_twice _ _ _ c.given_or-4.ensures.adds.grows.extends c.given_or-5.ensures.adds.grows.extends))).nets _ _ c.in_ok-address.ensures.net;
  reaches = c.in_ok-address.ensures.reaches;
  word = subst (IsNetOfWidth c.given_or-5.new.builder c.in_ok-word.word) c.word_bits.ensures.bits (net_lasts _ _ _ _ (extends_twice _ _ _ c.given_enables.ensures.adds.grows.extends (extends_twice _ _ _ c.given_or-4.ensures.adds.grows.extends c.given_or-5.ensures.adds.grows.extends)) c.in_ok-word.ensures.net);
  enables = net_lasts _ _ _ _ (extends_twice _ _ _ c.given_or-4.ensures.adds.grows.extends c.given_or-5.ensures.adds.grows.extends) c.in_ok-enables.ensures.net;
  count = subst (IsNetOfWidth c.given_or-5.new.builder c.in_ok-count.count) c.count_bits.ensures.bits (net_lasts _ _ _ _ c.given_or-5.ensures.adds.grows.extends c.in_ok-count.ensures.net);
  tag = c.in_ok-tag.ensures.net;
}

pub returns-clause-value : goal.returns-clause-value
returns-clause-value c cycle v6 =
    let v5 = c.given_or-5.ensures.adds.grows.extends.valuations cycle v6 in
    let v4 = c.given_or-4.ensures.adds.grows.extends.valuations cycle v5 in
    let v3 = c.given_enables.ensures.adds.grows.extends.valuations cycle v4 in
    let v2 = c.given_or-3.ensures.adds.grows.extends.valuations cycle v3 in
    let v1 = c.in_bytes.ensures.adds.grows.extends.valuations cycle v2 in
    let v0 = c.given_or-2.ensures.adds.grows.extends.valuations cycle v1 in
    record {
      read = c.in_ok-read.ensures.value cycle v0;
      write = c.in_ok-write.ensures.value cycle v1;
      address = c.in_ok-address.ensures.value cycle v2;
      word = c.in_ok-word.ensures.value cycle v3;
      enables = c.in_ok-enables.ensures.value cycle v4;
      count = c.in_ok-count.ensures.value cycle v5;
      tag = c.in_ok-tag.ensures.value cycle v6;
    }

pub given_or-requires-clause-net : goal.given_or-requires-clause-net
given_or-requires-clause-net c = some_lasts _ _ _ _ _ (extends_none _) c.requires.nets.read

pub given_or-requires-2-clause-net : goal.given_or-requires-2-clause-net
given_or-requires-2-clause-net c = some_lasts _ _ _ _ _ c.given_or.ensures.adds.grows.extends c.requires.nets.write

pub in_bytes-requires-clause-address : goal.in_bytes-requires-clause-address
in_bytes-requires-clause-address c = net_lasts _ _ _ _ (extends_twice _ _ _ c.given_or.ensures.adds.grows.extends c.given_or-2.ensures.adds.grows.extends) c.requires.nets.address

pub given_or-requires-3-clause-net : goal.given_or-requires-3-clause-net
given_or-requires-3-clause-net c = subst (λ n. IfSome c.args.nets.now.writedata (λ given. IsNetOfWidth c.in_bytes.new.builder given n)) (sym c.word_bits.ensures.bits) (some_lasts _ _ _ _ _ (extends_twice _ _ _ c.given_or.ensures.adds.grows.extends (extends_twice _ _ _ c.given_or-2.ensures.adds.grows.extends c.in_bytes.ensures.adds.grows.extends)) c.requires.nets.writedata)

pub given_enables-requires-clause-nets : goal.given_enables-requires-clause-nets
given_enables-requires-clause-nets c = some_lasts _ _ _ _ _ (extends_twice _ _ _ c.given_or.ensures.adds.grows.extends (extends_twice _ _ _ c.given_or-2.ensures.adds.grows.extends (extends_twice _ _ _ c.in_bytes.ensures.adds.grows.extends c.given_or-3.ensures.adds.grows.extends))) c.requires.nets.byteenable

pub given_or-requires-4-clause-net : goal.given_or-requires-4-clause-net
given_or-requires-4-clause-net c = subst (λ n. IfSome c.args.nets.now.burstcount (λ given. IsNetOfWidth c.given_enables.new.builder given n)) (sym c.count_bits.ensures.bits) (some_lasts _ _ _ _ _ (extends_twice _ _ _ c.given_or.ensures.adds.grows.extends (extends_twice _ _ _ c.given_or-2.ensures.adds.grows.extends (extends_twice _ _ _ c.in_bytes.ensures.adds.grows.extends (extends_twice _ _ _ c.given_or-3.ensures.adds.grows.extends c.given_enables.ensures.adds.grows.extends)))) c.requires.nets.burstcount)

pub given_or-requires-5-clause-net : goal.given_or-requires-5-clause-net
given_or-requires-5-clause-net c = tt

pub returns-in_err-read-clause-adds : goal.returns-in_err-read-clause-adds
returns-in_err-read-clause-adds c = adds_fewer _ _ _ _ (omega arith) c.given_or.ensures.adds

pub returns-in_err-read-clause-full : goal.returns-in_err-read-clause-full
returns-in_err-read-clause-full c e = let full = c.given_or.ensures.full (handed_on _ _ _ _ c.in_err-read.was c.from_residual.ensures.1 e) in omega (arith, full)

pub returns-in_err-write-clause-adds : goal.returns-in_err-write-clause-adds
returns-in_err-write-clause-adds c = adds_fewer _ _ _ _ (omega arith) (adds_twice _ _ _ _ _ c.given_or.ensures.adds c.given_or-2.ensures.adds)

pub returns-in_err-write-clause-full : goal.returns-in_err-write-clause-full
returns-in_err-write-clause-full c e =
    let most0 = c.given_or.ensures.adds.most in
    let full = c.given_or-2.ensures.full (handed_on _ _ _ _ c.in_err-write.was c.from_residual-in_err-write.ensures.1 e) in
    omega (arith, most0, full)

pub returns-in_err-address-clause-adds : goal.returns-in_err-address-clause-adds
returns-in_err-address-clause-adds c = adds_fewer _ _ _ _ (omega arith) (adds_twice _ _ _ _ _ (adds_twice _ _ _ _ _ c.given_or.ensures.adds c.given_or-2.ensures.adds) c.in_bytes.ensures.adds)

pub returns-in_err-address-clause-full : goal.returns-in_err-address-clause-full
returns-in_err-address-clause-full c e =
    let most0 = c.given_or.ensures.adds.most in
    let most1 = c.given_or-2.ensures.adds.most in
    let full = c.in_bytes.ensures.full (handed_on _ _ _ _ c.in_err-address.was c.from_residual-in_err-address.ensures.1 e) in
    omega (arith, most0, most1, full)

pub returns-in_err-word-clause-adds : goal.returns-in_err-word-clause-adds
returns-in_err-word-clause-adds c = adds_fewer _ _ _ _ (omega arith) (adds_twice _ _ _ _ _ (adds_twice _ _ _ _ _ (adds_twice _ _ _ _ _ c.given_or.ensures.adds c.given_or-2.ensures.adds) c.in_bytes.ensures.adds) c.given_or-3.ensures.adds)

pub returns-in_err-word-clause-full : goal.returns-in_err-word-clause-full
returns-in_err-word-clause-full c e =
    let most0 = c.given_or.ensures.adds.most in
    let most1 = c.given_or-2.ensures.adds.most in
    let most2 = c.in_bytes.ensures.adds.most in
    let full = c.given_or-3.ensures.full (handed_on _ _ _ _ c.in_err-word.was c.from_residual-in_err-word.ensures.1 e) in
    omega (arith, most0, most1, most2, full)

pub returns-in_err-enables-clause-full : goal.returns-in_err-enables-clause-full
returns-in_err-enables-clause-full c e =
    let most0 = c.given_or.ensures.adds.most in
    let most1 = c.given_or-2.ensures.adds.most in
    let most2 = c.in_bytes.ensures.adds.most in
    let most3 = c.given_or-3.ensures.adds.most in
    let full = c.given_enables.ensures.full (handed_on _ _ _ _ c.in_err-enables.was c.from_residual-in_err-enables.ensures.1 e) in
    omega (arith, most0, most1, most2, most3, full)

pub returns-in_err-count-clause-full : goal.returns-in_err-count-clause-full
returns-in_err-count-clause-full c e =
    let most0 = c.given_or.ensures.adds.most in
    let most1 = c.given_or-2.ensures.adds.most in
    let most2 = c.in_bytes.ensures.adds.most in
    let most3 = c.given_or-3.ensures.adds.most in
    let most4 = c.given_enables.ensures.adds.most in
    let full = c.given_or-4.ensures.full (handed_on _ _ _ _ c.in_err-count.was c.from_residual-in_err-count.ensures.1 e) in
    omega (arith, most0, most1, most2, most3, most4, full)

pub returns-in_err-tag-clause-full : goal.returns-in_err-tag-clause-full
returns-in_err-tag-clause-full c e =
    let most0 = c.given_or.ensures.adds.most in
    let most1 = c.given_or-2.ensures.adds.most in
    let most2 = c.in_bytes.ensures.adds.most in
    let most3 = c.given_or-3.ensures.adds.most in
    let most4 = c.given_enables.ensures.adds.most in
    let most5 = c.given_or-4.ensures.adds.most in
    let full = c.given_or-5.ensures.full (handed_on _ _ _ _ c.in_err-tag.was c.from_residual-in_err-tag.ensures.1 e) in
    omega (arith, most0, most1, most2, most3, most4, most5, full)

pub returns-clause-full : goal.returns-clause-full
returns-clause-full c e = cc
