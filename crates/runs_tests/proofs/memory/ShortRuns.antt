-- What a link says of commands, cycle by cycle in a short run.
use Rattle.std.proofs.Common.{ℕ, zero, suc, ◌<◌, ◌≤◌, ◌≡◌, ◌-◌, ◌*◌, ◌^◌, Bool, false, not, ◌&&◌, List, [], ◌∷◌, arith, refl, nat_eq, length, IsTrue, IsFalse, eqb-true, ne_eqb, ◌||◌, true}
use Rattle.std.proofs.lemmas.Bool.{and_parts}
use Rattle.std.specs.List.{list_all}
use Rattle.histories.specs.Below.{OfEach, each_below}
use Rattle.histories.specs.History.{IsPrefix, AreWithin, is_raised}
use Rattle.memory_runs.specs.Operations.{pieces}
use Rattle.memory_runs.specs.Commands.{is_held, shows, transfer_at}
use Rattle.memory_runs.specs.Legal.{is_under_way}
use Rattle.memory_machines.specs.Link.{Target, Port, Marked, CarriesCommands, AreLegalAt, items, beats_with, shown_at, sizes, held_by, takes}

-- the tag of each is 0
abbrev pub have_one_tag : List Marked → Bool
have_one_tag ms = list_all (λ (m : Marked). nat_eq m.tag 0) ms

no_others : (ms : List Marked) (t : ℕ) → IsTrue (have_one_tag ms) → beats_with (suc t) ms ≡ []
no_others [] t one = refl
no_others (m ∷ ms) t one =
    let parts = and_parts (nat_eq m.tag 0) (have_one_tag ms) one in
    let zero_tag = eqb-true m.tag 0 parts.0 in
    let other : nat_eq m.tag (suc t) ≡ false = ne_eqb m.tag (suc t) (λ same. omega (arith, same, zero_tag)) in
    rw other (no_others ms t parts.1)

counted_by_tag : (up down : List Marked) (factor tag : ℕ) → IsTrue (have_one_tag down) → length (beats_with 0 down) ≤ factor * length (beats_with 0 up) → length (beats_with tag down) ≤ factor * length (beats_with tag up)
counted_by_tag up down factor zero one h = h
counted_by_tag up down factor (suc t) one h = rw (no_others down t one) (omega arith)

-- the commands of a side whose beats never wait
pub legal_by_cycles : (port : Port) (end : ℕ) →
    OfEach (λ c. IsTrue (is_held port.commands.signals (takes port) c) → ⊥) end →
    OfEach (λ c. IsTrue (not (is_raised (port.commands.read c) && is_raised (port.commands.write c)))) end →
    OfEach (λ c. 1 ≤ port.commands.count c) end →
    OfEach (λ c. port.commands.count c ≤ 2 ^ (port.shape.burst_bits - 1)) end →
    OfEach (λ c. IsTrue (is_under_way port.shape port.commands.signals (takes port) c) → IsFalse (is_raised (port.commands.read c))) end →
    OfEach (λ c. IsTrue (shows port.commands.signals c) → IsTrue ((transfer_at port.shape port.commands.signals (takes port) c).ends || is_raised (port.commands.more c))) end → AreLegalAt port end
legal_by_cycles port end none one_kind least most finished joined = record {
  legal = record {
    one_kind = λ c h. each_below (λ c. IsTrue (not (is_raised (port.commands.read c) && is_raised (port.commands.write c)))) end c one_kind h;
    held = λ c h held. absurd (never c (omega arith) held);
    least = λ c h _ _. each_below (λ c. 1 ≤ port.commands.count c) end c least h;
    most = λ c h _ _. each_below (λ c. port.commands.count c ≤ 2 ^ (port.shape.burst_bits - 1)) end c most h;
    finished = λ c h. each_below (λ c. IsTrue (is_under_way port.shape port.commands.signals (takes port) c) → IsFalse (is_raised (port.commands.read c))) end c finished h;
  };
  tag = λ c h held. absurd (never c (omega arith) held);
  more = λ c h held. absurd (never c (omega arith) held);
  joined = λ c h. each_below (λ c. IsTrue (shows port.commands.signals c) → IsTrue ((transfer_at port.shape port.commands.signals (takes port) c).ends || is_raised (port.commands.more c))) end c joined h;
}
  where
    never : (c : ℕ) → c < end → IsTrue (is_held port.commands.signals (takes port) c) → ⊥
    never c h = each_below (λ c. IsTrue (is_held port.commands.signals (takes port) c) → ⊥) end c none h

-- all that a link says of commands, where there is one tag
pub carries_by_cycles : (target : Target) (hold : ℕ) (up down : Port) (end : ℕ) →
    OfEach (λ c. IsPrefix (items target down c) (items target up c)) (suc end) →
    OfEach (λ c. IsTrue (have_one_tag (shown_at down c))) (suc end) →
    OfEach (λ c. length (beats_with 0 (shown_at down c)) ≤ pieces up.shape down.shape * length (beats_with 0 (shown_at up c))) (suc end) →
    OfEach (λ c. held_by target up down c ≤ hold) (suc end) →
    OfEach (λ c. AreWithin (sizes target down.shape (shown_at down c)) (sizes target up.shape (shown_at up c))) (suc end) →
    AreLegalAt down end → CarriesCommands target hold up down end
carries_by_cycles target hold up down end in_order one_tag beats held whole legal = record {
  in_order = λ c h. each_below (λ c. IsPrefix (items target down c) (items target up c)) (suc end) c in_order (omega arith);
  beats = λ c tag h. counted_by_tag (shown_at up c) (shown_at down c) (pieces up.shape down.shape) tag
      (each_below (λ c. IsTrue (have_one_tag (shown_at down c))) (suc end) c one_tag (omega arith))
      (each_below (λ c. length (beats_with 0 (shown_at down c)) ≤ pieces up.shape down.shape * length (beats_with 0 (shown_at up c))) (suc end) c beats (omega arith));
  legal = legal;
  held = λ c h. each_below (λ c. held_by target up down c ≤ hold) (suc end) c held (omega arith);
  whole = λ c h. each_below (λ c. AreWithin (sizes target down.shape (shown_at down c)) (sizes target up.shape (shown_at up c))) (suc end) c whole (omega arith);
}

-- one excuse of several is enough
pub second_excuse : (a b d : Bool) → IsTrue b → IsTrue (not (a || b || d)) → ⊥
second_excuse true b d h g = cc
second_excuse false true d h g = cc
second_excuse false false d h g = cc

pub last_excuse : (a b : Bool) → IsTrue b → IsTrue (not (a || b && true)) → ⊥
last_excuse true b h g = cc
last_excuse false true h g = cc
last_excuse false false h g = cc
