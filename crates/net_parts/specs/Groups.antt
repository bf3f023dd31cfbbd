-- A group of nets, as the signals of one command, one answer or one beat: registers, a choice and next nets of all at once.
use Rattle.std.specs.Prelude.{◌≡◌, ℕ, ◌+◌, ◌<◌, ◌≤◌, Bool, true, false, ◌==◌, ◌⊎◌, if◌then◌else◌, List, [], ◌∷◌, length, map}
use Rattle.std.proofs.Common.{refl, sym, ◌∙◌, inl, inr, arith}
use Rattle.std.proofs.lemmas.Bool.{eqb-true, eqb-false}
use Rattle.netlist.specs.Nets.{NetValue}
use Rattle.netlist.specs.Netlists.{Netlist, IsNet, IsWaiting}
use Rattle.netlist.specs.Runs.{Cycle, Run, cycle_of, IsRun, Always}
use Rattle.netlist.specs.Longer.{Extends}

-- each net of the group is one of this netlist
abbrev pub AreNets : Netlist → List NetValue → Type 0
AreNets netlist [] = Unit {0}
AreNets netlist (net ∷ group) = IsNet netlist net × AreNets netlist group

abbrev pub group_widths : List NetValue → List ℕ
group_widths group = map (λ (net : NetValue). net.width) group

-- the values of its nets in a cycle
abbrev pub values_of : Cycle → List NetValue → List ℕ
values_of cycle group = map (λ (net : NetValue). cycle.net net.number) group

-- the nets have numbers in a row, from this one on
abbrev pub AreNumberedFrom : ℕ → List NetValue → Type 0
AreNumberedFrom from [] = Unit {0}
AreNumberedFrom from (net ∷ group) = (net.number ≡ from) × AreNumberedFrom (from + 1) group

-- the number is one of so many in a row, from this one on
pub record IsInRow (from count n : ℕ) : Type 0 where
  pub least : from ≤ n
  pub below : n < from + count

-- as many zeros
abbrev pub all_low : List NetValue → List ℕ
all_low group = map (λ _. 0) group

-- in each run they begin low
abbrev pub StartAllLow : Netlist → List NetValue → Type 0
StartAllLow netlist group =
    (run : Run) (cycles : ℕ) → IsRun netlist run cycles → 0 < cycles → values_of (cycle_of run 0) group ≡ all_low group

-- in each run they have the values of the other nets in the cycle before
abbrev pub TakeAllNext : Netlist → List NetValue → List NetValue → Type 0
TakeAllNext netlist group next =
    (run : Run) (cycles : ℕ) → IsRun netlist run cycles → (c : ℕ) → c + 1 < cycles
    → values_of (cycle_of run (c + 1)) group ≡ values_of (cycle_of run c) next

-- in each run they take the values of the other nets where the bit is high, and else keep theirs
abbrev pub LoadsAll : Netlist → NetValue → List NetValue → List NetValue → Type 0
LoadsAll netlist loads group next =
    (run : Run) (cycles : ℕ) → IsRun netlist run cycles → (c : ℕ) → c + 1 < cycles
    → values_of (cycle_of run (c + 1)) group
    ≡ (if run.net c loads.number == 1 then values_of (cycle_of run c) next else values_of (cycle_of run c) group)

-- in each cycle the group has the values of one group where the bit is high, and else those of the other
abbrev pub ChooseAll : Netlist → NetValue → List NetValue → List NetValue → List NetValue → Type 0
ChooseAll netlist bit one other group =
    Always netlist (λ cycle. values_of cycle group
    ≡ (if cycle.net bit.number == 0 then values_of cycle other else values_of cycle one))

-- the number is that of a net of the group
abbrev pub InGroup : List NetValue → ℕ → Type 0
InGroup [] n = ⊥
InGroup (net ∷ group) n = (n ≡ net.number) ⊎ InGroup group n

-- each net waits for its next net, and their numbers are in a row
pub record AreWaiting (netlist : Netlist) (group : List NetValue) : Type 0 where
  pub start : ℕ
  pub numbers : AreNumberedFrom start group
  pub wait : (n : ℕ) → InGroup group n → IsWaiting netlist n

-- ---- laws. No contract reads a proof of these

pub nets_last : (a b : Netlist) (group : List NetValue) → Extends a b → AreNets a group → AreNets b group
nets_last a b [] e h = tt
nets_last a b (net ∷ group) e h = (e.nets net.number net.width h.0, nets_last a b group e h.1)

-- the numbers of a group
pub in_row : (from : ℕ) (group : List NetValue) → AreNumberedFrom from group → (n : ℕ) → InGroup group n
    → IsInRow from (length group) n
in_row from [] h n o = absurd o
in_row from (net ∷ group) h n (inl e) =
    record { least = (let at = h.0 in omega (arith, at, e)); below = (let at = h.0 in omega (arith, at, e)) }
in_row from (net ∷ group) h n (inr o) =
    let rest = in_row (from + 1) group h.1 n o in
    record { least = (let low = rest.least in omega arith); below = (let high = rest.below in omega arith) }

-- a number in a row is one of the group
pub of_row : (from : ℕ) (group : List NetValue) → AreNumberedFrom from group → (n : ℕ) → IsInRow from (length group) n
    → InGroup group n
of_row from [] h n o = absurd (let low = o.least in let high = o.below in omega arith)
of_row from (net ∷ group) h n o = by_first (of_row (from + 1) group h.1 n) (n == from) refl
  where
    by_first : (IsInRow (from + 1) (length group) n → InGroup group n) → (t : Bool) → (n == from) ≡ t → InGroup (net ∷ group) n
    by_first rest true e = inl (eqb-true n from e ∙ sym h.0)
    by_first rest false e =
        inr
        (rest
        (record {
          least =
              (let low = o.least in let apart = eqb-false n from e in omega (arith, apart));
          below =
              (let high = o.below in omega arith);
        }))
