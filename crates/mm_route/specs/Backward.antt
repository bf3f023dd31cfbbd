-- What the second call leaves in a netlist: the wait and the word above, and what the registers take.
use Rattle.std.specs.Prelude.{◌≡◌, ℕ, ◌+◌, ◌*◌, ◌^◌, ◌<◌, ◌≤◌, Bool, not, ◌||◌, ◌==◌, if◌then◌else◌, nat_lt, List, [], ◌∷◌, map, IfSome}
use Rattle.std.specs.Int.{bit_at}
use Rattle.histories.specs.History.{is_raised, one_if}
use Rattle.netlist.specs.Nets.{NetValue}
use Rattle.netlist.specs.Netlists.{Netlist}
use Rattle.netlist.specs.Runs.{Cycle, Always}
use Rattle.netlist.specs.Longer.{Extends}
use Rattle.net_parts.specs.Nets.{IsBit}
use Rattle.net_parts.specs.Groups.{values_of}
use Rattle.net_parts.specs.Laws.{net_lasts}
use Rattle.command_nets.specs.declared.nets.AnswerNets.{AnswerNets}
use Rattle.command_nets.specs.Nets.{AreAnswerNets}
use Rattle.mm_route.specs.declared.back.BackNets.{BackNets}
use Rattle.mm_route.specs.declared.registers.LatchNets.{LatchNets}
use Rattle.mm_route.specs.declared.route.HeldRoute.{HeldRoute}
use Rattle.mm_route.specs.declared.route.HeldRoute.TheVariants.{Wired, Routed}
use Rattle.mm_route.specs.declared.router.HeldRouter.{HeldRouter}
use Rattle.mm_route.specs.declared.shown.ShownNets.{ShownNets}
use Rattle.mm_route.specs.Taken.{taken_in, reads_in, asked_in, EachStep}
use Rattle.mm_route.specs.Wire.{WireBackward, wire_backward_lasts}

-- what comes back from each entry is of this netlist, and its words have so many bits
abbrev pub AreBackNets : Netlist → ℕ → List BackNets → Type 0
AreBackNets netlist word_bits [] = Unit {0}
AreBackNets netlist word_bits (back ∷ later) =
    (IsBit netlist back.wait × AreAnswerNets netlist back.answer word_bits) × AreBackNets netlist word_bits later

abbrev pub answer_group : AnswerNets → List NetValue
answer_group answer = answer.valid ∷ answer.word ∷ answer.code ∷ []

-- the value of the first high bit from bit k on; `none` where there is none
abbrev pub picked : {A : Type 0} → ℕ → ℕ → List A → A → A
picked {A} k bits [] none = none
picked {A} k bits (x ∷ later) none = if bit_at bits k == 0 then picked (k + 1) bits later none else x

abbrev pub waits_in : Cycle → List BackNets → List ℕ
waits_in cycle backs = map (λ (back : BackNets). cycle.net back.wait.number) backs

abbrev pub answers_in : Cycle → List BackNets → List (List ℕ)
answers_in cycle backs = map (λ (back : BackNets). values_of cycle (answer_group back.answer)) backs

-- the command above waits where the gate is shut, or where its place waits
abbrev pub WaitsAbove : Cycle → ShownNets → List BackNets → NetValue → Type 0
WaitsAbove cycle shown backs wait =
    is_raised (cycle.net wait.number)
    ≡ (not (is_raised (cycle.net shown.gate.number))
    || is_raised (picked 0 (cycle.net shown.place.number) (waits_in cycle backs) 0))

-- the answer above is that of the place that owes; the default agent gives a word of 0 with code 3 while words are owed
abbrev pub AnswersAbove : Cycle → HeldRouter → List BackNets → AnswerNets → Type 0
AnswersAbove cycle held backs answer =
    values_of cycle (answer_group answer)
    ≡ picked 0 (cycle.net held.registers.owing.number) (answers_in cycle backs)
    (one_if (nat_lt 0 (cycle.net held.registers.owed.number)) ∷ 0 ∷ 3 ∷ [])

-- the words owed after a cycle: those asked more, and one less for a word that comes, if that fits below `room`
abbrev pub IsNextOwed : ℕ → ℕ → ℕ → ℕ → ℕ → Type 0
IsNextOwed room owed asked words next = owed + asked < room → words ≤ owed + asked → next + words ≡ owed + asked

-- what is owed after a cycle, and by which place
pub record IsNextDebt (cycle : Cycle) (held : HeldRouter) (room_bits : ℕ) (wait valid : NetValue) (words place : ℕ) : Type 0 where
  pub owed : IsNextOwed (2 ^ room_bits) (cycle.net held.registers.owed.number) (asked_in cycle held.shown.command wait)
      (one_if (is_raised (cycle.net valid.number))) words
  pub owing : place
      ≡ (if reads_in cycle held.shown.command wait then cycle.net held.shown.place.number
      else cycle.net held.registers.owing.number)

-- a latch after a cycle, in which a beat is taken or not: whether that beat had `more` high, and the place
pub record IsNextLatch (shown : ShownNets) (taken : Bool) (cycle next : Cycle) (latch : LatchNets) : Type 0 where
  pub inside : next.net latch.inside.number
      ≡ (if taken then cycle.net shown.command.more.number else cycle.net latch.inside.number)
  pub kept : next.net latch.kept.number ≡ cycle.net shown.place.number

-- the registers after a cycle
pub record IsNext (held : HeldRouter) (room_bits : ℕ) (wait valid : NetValue) (cycle next : Cycle) : Type 0 where
  pub debt : IsNextDebt cycle held room_bits wait valid (next.net held.registers.owed.number)
      (next.net held.registers.owing.number)
  pub latch : IfSome held.registers.latch (IsNextLatch held.shown (taken_in cycle held.shown.command wait) cycle next)

-- the most nets that the second call makes for so many entries
abbrev pub backward_nets : ℕ → ℕ
backward_nets entries = 19 + 6 * entries

-- after the second call, of a router
pub record RouterBackward (held : HeldRouter) (room_bits : ℕ) (backs : List BackNets) (wait : NetValue) (answer : AnswerNets)
    (netlist : Netlist) : Type 0 where
  pub waits : Always netlist (λ cycle. WaitsAbove cycle held.shown backs wait)
  pub answers : Always netlist (λ cycle. AnswersAbove cycle held backs answer)
  pub steps : EachStep netlist (IsNext held room_bits wait answer.valid)

-- after the second call
abbrev pub RouteBackward : HeldRoute → ℕ → List BackNets → NetValue → AnswerNets → Netlist → Type 0
RouteBackward (Wired wire) room_bits backs wait answer netlist = WireBackward wire backs wait answer netlist
RouteBackward (Routed router) room_bits backs wait answer netlist = RouterBackward router room_bits backs wait answer netlist

-- ---- what stands lasts

pub router_backward_lasts : (held : HeldRouter) (room_bits : ℕ) (backs : List BackNets) (wait : NetValue) (answer : AnswerNets)
    (old new : Netlist)
    → RouterBackward held room_bits backs wait answer old →
    Extends old new → RouterBackward held room_bits backs wait answer new
router_backward_lasts held room_bits backs wait answer old new h e = record {
  waits = λ cycle v. h.waits cycle (e.valuations cycle v);
  answers = λ cycle v. h.answers cycle (e.valuations cycle v);
  steps = λ run cycles r. h.steps run cycles (e.runs run cycles r);
}

pub backward_lasts : (held : HeldRoute) (room_bits : ℕ) (backs : List BackNets) (wait : NetValue) (answer : AnswerNets)
    (old new : Netlist)
    → RouteBackward held room_bits backs wait answer old →
    Extends old new → RouteBackward held room_bits backs wait answer new
backward_lasts (Wired wire) room_bits backs wait answer old new h e = wire_backward_lasts wire backs wait answer old new h e
backward_lasts (Routed router) room_bits backs wait answer old new h e =
    router_backward_lasts router room_bits backs wait answer old new h e

answer_lasts : (a b : Netlist) (answer : AnswerNets) (bits : ℕ) → Extends a b → AreAnswerNets a answer bits
    → AreAnswerNets b answer bits
answer_lasts a b answer bits e h =
    record {
      valid =
          net_lasts a b answer.valid 1 e h.valid;
      word =
          net_lasts a b answer.word bits e h.word;
      code = net_lasts a b answer.code 2 e h.code;
    }

pub backs_last : (a b : Netlist) (bits : ℕ) (backs : List BackNets) → Extends a b → AreBackNets a bits backs
    → AreBackNets b bits backs
backs_last a b bits [] e h = tt
backs_last a b bits (back ∷ later) e h =
    ((net_lasts a b back.wait 1 e h.0.0, answer_lasts a b back.answer bits e h.0.1), backs_last a b bits later e h.1)
