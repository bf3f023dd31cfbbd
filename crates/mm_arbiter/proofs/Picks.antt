-- The asker that is picked out of a list, and the choice between two parts of it.
use Rattle.std.proofs.Common.{◌≡◌, ℕ, zero, suc, ◌-◌, ◌<◌, ◌≤◌, Bool, true, false, ◌==◌, List, [], ◌∷◌, length, get_or, take, drop, nat_le, if◌then◌else◌, Result, Ok, Err, IfOk, refl, sym, ap, ◌∙◌, arith}
use Rattle.std.proofs.lemmas.Bool.{leb-true, leb-false}
use Rattle.std.proofs.lemmas.List.{get_or-map, take_all}
use Rattle.histories.specs.History.{is_raised}
use Rattle.netlist.specs.Netlists.{Netlist}
use Rattle.netlist.specs.Runs.{Cycle}
use Rattle.command_nets.specs.declared.nets.CommandNets.{CommandNets}
use Rattle.command_nets.specs.Nets.{AreCommandNets, raw_in, group_of}
use Rattle.command_nets.specs.Groups.{nothing_shown}
use Rattle.net_parts.specs.Groups.{group_widths}
use Rattle.mm_arbiter.specs.declared.asker.Asker.{Asker}
use Rattle.mm_arbiter.specs.declared.pick.SeatNets.{SeatNets}
use Rattle.mm_arbiter.specs.Shown.{AreAskers, AreCommands, HaveWidths, IsSeatOf}

pub both_ok : {X E : Type 0} (r : Result X E) (P Q R : X → Type 0) → ((x : X) → P x → Q x → R x) → IfOk r P → IfOk r Q → IfOk r R
both_ok (Ok x) P Q R f p q = f x p q
both_ok (Err e) P Q R f p q = tt

pub asker_at : (askers : List Asker) (k : ℕ) (d : Asker) → AreAskers askers → k < length askers → (1 ≤ (get_or askers k d).shares) × ((get_or askers k d).shares ≤ 63)
asker_at [] k d h lt = absurd (omega arith)
asker_at (asker ∷ later) zero d h lt = h.0
asker_at (asker ∷ later) (suc k) d h lt = asker_at later k d h.1 (omega arith)

pub command_at : (netlist : Netlist) (commands : List CommandNets) (k : ℕ) (d : CommandNets) → AreCommands netlist commands → k < length commands → AreCommandNets netlist (get_or commands k d)
command_at netlist [] k d h lt = absurd (omega arith)
command_at netlist (command ∷ later) zero d h lt = h.0
command_at netlist (command ∷ later) (suc k) d h lt = command_at netlist later k d h.1 (omega arith)

pub widths_at : (widths : List ℕ) (commands : List CommandNets) (k : ℕ) (d : CommandNets) → HaveWidths widths commands → k < length commands → group_widths (group_of (get_or commands k d)) ≡ widths
widths_at widths [] k d h lt = absurd (omega arith)
widths_at widths (command ∷ later) zero d h lt = h.0
widths_at widths (command ∷ later) (suc k) d h lt = widths_at widths later k d h.1 (omega arith)

pub seat_here : (cycle : Cycle) (made : SeatNets) (k : ℕ) (askers : List Asker) (commands : List CommandNets) (d : Asker) (e : CommandNets) → k < length askers → k < length commands →
    made.command ≡ get_or commands k e → cycle.net made.spare.number ≡ (get_or askers k d).shares - 1 → IsSeatOf cycle made k askers commands
seat_here cycle made k askers commands d e lt lt' same spare = record {
  command = ap (raw_in cycle) same ∙ sym (get_or-map (λ (command : CommandNets). raw_in cycle command) commands k e nothing_shown lt');
  spare = spare ∙ sym (get_or-map (λ (asker : Asker). asker.shares - 1) askers k d 0 lt);
}

pub seat_chosen : (cycle : Cycle) (made high low : SeatNets) (upper middle k : ℕ) (askers : List Asker) (commands : List CommandNets) → upper ≡ (if nat_le middle k then 1 else 0) →
    raw_in cycle made.command ≡ (if is_raised upper then raw_in cycle high.command else raw_in cycle low.command) → cycle.net made.spare.number ≡ (if upper == 0 then cycle.net low.spare.number else cycle.net high.spare.number) →
    (middle ≤ k → IsSeatOf cycle high k askers commands) → (k < middle → IsSeatOf cycle low k askers commands) → IsSeatOf cycle made k askers commands
seat_chosen cycle made high low upper middle k askers commands u raw spare above below = by_order (nat_le middle k) refl
  where
    by_order : (t : Bool) → nat_le middle k ≡ t → IsSeatOf cycle made k askers commands
    by_order true e =
        let one : upper ≡ 1 = u ∙ ap (λ (t : Bool). if t then 1 else 0) e in
        let seat = above (leb-true middle k e) in
        record {
          command = raw ∙ ap (λ n. if is_raised n then raw_in cycle high.command else raw_in cycle low.command) one ∙ seat.command;
          spare = spare ∙ ap (λ n. if n == 0 then cycle.net low.spare.number else cycle.net high.spare.number) one ∙ seat.spare;
        }
    by_order false e =
        let none : upper ≡ 0 = u ∙ ap (λ (t : Bool). if t then 1 else 0) e in
        let seat = below (leb-false middle k e) in
        record {
          command = raw ∙ ap (λ n. if is_raised n then raw_in cycle high.command else raw_in cycle low.command) none ∙ seat.command;
          spare = spare ∙ ap (λ n. if n == 0 then cycle.net low.spare.number else cycle.net high.spare.number) none ∙ seat.spare;
        }

-- the first and the others are all
pub split_whole : (commands : List CommandNets) (d : CommandNets) → 1 ≤ length commands → get_or commands 0 d ∷ take (length commands - 1) (drop 1 commands) ≡ commands
split_whole [] d h = absurd (omega arith)
split_whole (command ∷ later) d h = ap (λ (xs : List CommandNets). command ∷ xs) (take_all (length (command ∷ later) - 1) later (omega arith))

pub nil_of : (commands : List CommandNets) → 0 ≡ length commands → commands ≡ []
nil_of [] e = refl
nil_of (command ∷ later) e = absurd (omega (arith, e))

pub three_ok : {X E : Type 0} (r : Result X E) (P Q S R : X → Type 0) → ((x : X) → P x → Q x → S x → R x) → IfOk r P → IfOk r Q → IfOk r S → IfOk r R
three_ok (Ok x) P Q S R f p q s = f x p q s
three_ok (Err e) P Q S R f p q s = tt
