use Rattle.std.proofs.Common.{◌≡◌, ℕ, ◌-◌, ◌^◌, ◌<◌, ◌∷◌, List, length, take, drop, ap, ◌∙◌, arith, Bool}
use Rattle.std.proofs.lemmas.List.{length-map}
use Rattle.netlist.specs.Runs.{Always}
use Rattle.command_nets.specs.declared.nets.CommandNets.{CommandNets}
use Rattle.command_nets.specs.Nets.{raw_in}
use Rattle.command_nets.specs.Groups.{is_shown}
use Rattle.mm_arbiter.specs.Asks.{number}
use Rattle.mm_arbiter.specs.Shown.{asks_in, ShowAllSame}
use Rattle.mm_arbiter.specs.Turns.{StandsAt, HoldSame, turn_nets_last}
use Rattle.mm_arbiter.specs.Rounds.{seat_in, AreChosen}
use Rattle.mm_arbiter.proofs.Words.{any_seat}
use Rattle.mm_arbiter.proofs.Picks.{three_ok, split_whole, both_ok}
use Rattle.mm_arbiter.specs.Depends.{AnyTwo, IsSame}
use Rattle.mm_arbiter.proofs.Same.{same_by_one, same_any}
use Rattle.mm_arbiter.proofs.Ignores.{same_asks}
use Rattle.net_parts.specs.Laws.{adds_fewer, adds_twice}
use Rattle.net_parts.specs.Refusing.{handed_on}
use Rattle.mm_arbiter.proofs.choice.choose_asker.Goals as goal

pub returns-clause-value : goal.returns-clause-value
returns-clause-value c =
    let turns = c.args.turns.now in
    let commands = c.args.commands.now in
    let whole = ap (λ (first : CommandNets). first ∷ take (length commands - 1) (drop 1 commands)) c.index-commands-0.is ∙ split_whole commands _ (omega arith) in
    three_ok c.choose_by.result _ _ _ (λ chosen. Always c.choose_by.new.builder (λ cycle. (k : ℕ) → k < length commands → cycle.net turns.holder.number ≡ 2 ^ k → AreChosen cycle turns chosen commands k))
    (λ chosen seat stays some cycle v2 k lt is. (
    let v1 = c.choose_by.ensures.adds.grows.extends.valuations cycle v2 in
    let at : StandsAt cycle (length commands) c.in_ok-asks.asks turns.holder (asks_in cycle commands) k = record {
      count_is = length-map commands (λ (command : CommandNets). is_shown (raw_in cycle command));
      asks_are = c.in_ok-asks.ensures.value cycle v1 ∙ ap (λ (all : List CommandNets). number (asks_in cycle all)) whole;
      holder_is = is;
      within = lt;
    } in
    record {
      seat = seat cycle v2 (asks_in cycle commands) k at;
      some = any_seat (seat_in cycle turns commands k) _ _ (seat cycle v2 (asks_in cycle commands) k at) (some cycle v2);
      stays = stays cycle v2 (asks_in cycle commands) k at;
    }))
    c.choose_by.ensures.seat c.choose_by.ensures.stays c.choose_by.ensures.some_is

pub returns-clause-reads : goal.returns-clause-reads
returns-clause-reads c =
    let turns = c.args.turns.now in
    let commands = c.args.commands.now in
    let whole = ap (λ (first : CommandNets). first ∷ take (length commands - 1) (drop 1 commands)) c.index-commands-0.is ∙ split_whole commands _ (omega arith) in
    both_ok c.choose_by.result _ _ (λ chosen. AnyTwo c.choose_by.new.builder (λ one other. HoldSame turns one other → ShowAllSame commands one other → IsSame chosen.seat one other × IsSame chosen.some one other))
    (λ chosen reads some one other v2 w2 same shown. (
    let v1 = c.choose_by.ensures.adds.grows.extends.valuations one v2 in
    let w1 = c.choose_by.ensures.adds.grows.extends.valuations other w2 in
    let asks = same_by_one (λ (all : List Bool). number all) (c.in_ok-asks.ensures.value one v1 ∙ ap (λ (all : List CommandNets). number (asks_in one all)) whole) (c.in_ok-asks.ensures.value other w1 ∙ ap (λ (all : List CommandNets). number (asks_in other all)) whole)
    (same_asks commands one other shown) in
    let seat = reads one other v2 w2 same asks in
    (seat, same_any (some one v2) (some other w2) seat)))
    c.choose_by.ensures.reads c.choose_by.ensures.some_is

pub returns-in_err-asks-clause-adds : goal.returns-in_err-asks-clause-adds
returns-in_err-asks-clause-adds c = adds_fewer _ _ _ _ (omega arith) c.ask_bits.ensures.adds

pub returns-in_err-asks-clause-full : goal.returns-in_err-asks-clause-full
returns-in_err-asks-clause-full c e = let full = c.ask_bits.ensures.full (handed_on _ _ _ _ c.in_err-asks.was c.from_residual.ensures.1 e) in omega (arith, full)

pub returns-clause-nets : goal.returns-clause-nets
returns-clause-nets c = c.choose_by.ensures.nets

pub returns-clause-adds : goal.returns-clause-adds
returns-clause-adds c = adds_fewer _ _ _ _ (omega arith) (adds_twice _ _ _ _ _ c.ask_bits.ensures.adds c.choose_by.ensures.adds)

pub returns-clause-full : goal.returns-clause-full
returns-clause-full c e =
    let most0 = c.ask_bits.ensures.adds.most in
    let full = c.choose_by.ensures.full e in
    omega (arith, most0, full)

pub choose_by-requires-clause-turns : goal.choose_by-requires-clause-turns
choose_by-requires-clause-turns c = turn_nets_last _ _ _ _ c.ask_bits.ensures.adds.grows.extends c.requires.turns
