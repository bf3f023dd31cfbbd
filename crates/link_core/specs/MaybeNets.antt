-- A link where one is needed, and else nothing.
use Rattle.std.specs.Prelude.{◌≡◌, ℕ, Option, Some, None, IsSomeAnd}
use Rattle.netlist.specs.Nets.{NetValue}
use Rattle.netlist.specs.Netlists.{Netlist, IsWaiting, WaitsForWrite}
use Rattle.netlist.specs.Longer.{Extends}
use Rattle.command_nets.specs.declared.nets.CommandNets.{CommandNets}
use Rattle.command_nets.specs.declared.nets.AnswerNets.{AnswerNets}
use Rattle.memory_machines.specs.Link.{Target, Port}
use Rattle.link_core.specs.Form.{Form}
use Rattle.link_core.specs.PassNets.{IsPassForm}

-- the form is one of the part's, and without a part one that passes each command as it is
abbrev pub form_of : {L : Type 0} → (L → Form → Type 0) → Option L → Form → Type 0
form_of forms (Some link) form = forms link form
form_of forms None form = IsPassForm form

-- and it does what the part does, or passes all on
abbrev pub runs_of : {L : Type 0} → (L → Target → Port → Port → Type 0) → Option L → Target → Port → Port → Type 0
runs_of runs (Some link) target up down = runs link target up down
runs_of runs None target up down = up ≡ down

-- between the calls the part keeps what it does, and without a part nothing is kept
abbrev pub kept_of : {L H : Type 0} → (L → H → Netlist → Type 0) → Option L → Option H → Netlist → Type 0
kept_of is_kept (Some link) (Some held) netlist = is_kept link held netlist
kept_of is_kept (Some link) None netlist = ⊥
kept_of is_kept None (Some held) netlist = ⊥
kept_of is_kept None None netlist = Unit {0}

-- what is kept of a part without memories owns none
abbrev pub stores_none : {H : Type 0} → Option H → ℕ → Type 0
stores_none kept m = IsSomeAnd kept (λ held. ⊥)

-- after the first call
abbrev pub command_of : {L H : Type 0} → (L → CommandNets → CommandNets → H → Netlist → Type 0) → Option L → CommandNets
    → CommandNets → Option H → Netlist → Type 0
command_of command_in (Some link) from to (Some held) netlist = command_in link from to held netlist
command_of command_in (Some link) from to None netlist = ⊥
command_of command_in None from to kept netlist = to ≡ from

-- after the second call
abbrev pub answer_of : {L H : Type 0} → (L → H → NetValue → AnswerNets → NetValue → AnswerNets → Netlist → Type 0) → Option L
    → Option H → NetValue → AnswerNets → NetValue → AnswerNets → Netlist → Type 0
answer_of answer_in (Some link) (Some held) wait answer up back netlist = answer_in link held wait answer up back netlist
answer_of answer_in (Some link) None wait answer up back netlist = ⊥
answer_of answer_in None kept wait answer up back netlist = (up ≡ wait) × (back ≡ answer)

-- ---- what stands lasts. No contract reads these proofs; the law of the link cites them

pub none_stored : {H : Type 0} (kept : Option H) (m : ℕ) → ¬ stores_none kept m
none_stored (Some held) m o = o
none_stored None m o = o

pub kept_lasts : {L H : Type 0} (is_kept : L → H → Netlist → Type 0) (owns owns_memories : H → ℕ → Type 0) →
    ((link : L) (held : H) (old new : Netlist) → is_kept link held old → Extends old new
    → ((n : ℕ) → owns held n → IsWaiting old n → IsWaiting new n)
    → ((m : ℕ) → owns_memories held m → WaitsForWrite old m → WaitsForWrite new m) → is_kept link held new) →
    (link : Option L) (kept : Option H) (old new : Netlist) → kept_of is_kept link kept old → Extends old new
    → ((n : ℕ) → IsSomeAnd kept (λ held. owns held n) → IsWaiting old n → IsWaiting new n) →
    ((m : ℕ) → IsSomeAnd kept (λ held. owns_memories held m) → WaitsForWrite old m → WaitsForWrite new m)
    → kept_of is_kept link kept new
kept_lasts is_kept owns owns_memories lasts (Some link) (Some held) old new h e w v = lasts link held old new h e w v
kept_lasts is_kept owns owns_memories lasts (Some link) None old new h e w v = h
kept_lasts is_kept owns owns_memories lasts None (Some held) old new h e w v = h
kept_lasts is_kept owns owns_memories lasts None None old new h e w v = h

pub command_lasts : {L H : Type 0} (command_in : L → CommandNets → CommandNets → H → Netlist → Type 0) →
    ((link : L) (from to : CommandNets) (held : H) (old new : Netlist) → command_in link from to held old → Extends old new
    → command_in link from to held new) →
    (link : Option L) (from to : CommandNets) (kept : Option H) (old new : Netlist) → command_of command_in link from to kept old
    → Extends old new → command_of command_in link from to kept new
command_lasts command_in lasts (Some link) from to (Some held) old new h e = lasts link from to held old new h e
command_lasts command_in lasts (Some link) from to None old new h e = h
command_lasts command_in lasts None from to kept old new h e = h

pub answer_lasts : {L H : Type 0} (answer_in : L → H → NetValue → AnswerNets → NetValue → AnswerNets → Netlist → Type 0) →
    ((link : L) (held : H) (wait : NetValue) (answer : AnswerNets) (up : NetValue) (back : AnswerNets) (old new : Netlist)
    → answer_in link held wait answer up back old → Extends old new → answer_in link held wait answer up back new) →
    (link : Option L) (kept : Option H) (wait : NetValue) (answer : AnswerNets) (up : NetValue) (back : AnswerNets)
    (old new : Netlist) →
    answer_of answer_in link kept wait answer up back old → Extends old new
    → answer_of answer_in link kept wait answer up back new
answer_lasts answer_in lasts (Some link) (Some held) wait answer up back old new h e =
    lasts link held wait answer up back old new h e
answer_lasts answer_in lasts (Some link) None wait answer up back old new h e = h
answer_lasts answer_in lasts None kept wait answer up back old new h e = h
