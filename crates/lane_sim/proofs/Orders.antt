-- The clock's edge over the registers.
use Rattle.std.proofs.Common.{◌≡◌, ◌≢◌, ℕ, ◌+◌, ◌<◌, ◌≤◌, Bool, true, false, List, [], ◌∷◌, ◌++◌, length, slice_get, get_or, set, Option, Some, None, ◌⊎◌, inl, inr, refl, sym, subst, ap, ◌∙◌, arith}
use Rattle.std.specs.Prelude.{IfSome}
use Rattle.std.proofs.lemmas.Bool.{cases_lt, false≢true}
use Rattle.std.proofs.lemmas.List.{length-set, get_or-set_same, get_or-set_other}
use Rattle.std.proofs.lemmas.Option.{slice_get_within, slice_get-get_or, get_or_from_slice_get, same_Some}
use Rattle.av_base.specs.Word.{Word}
use Rattle.netlist.specs.declared.line.Line.{Line}
use Rattle.netlist.specs.declared.line.Equation.{Equation}
use Rattle.netlist.specs.declared.line.Equation.TheVariants.{Reg}
use Rattle.netlist.specs.Netlists.{Netlist, IsModule, IsValue, is_register, next_of, width_at}
use Rattle.cycle_sim.specs.declared.reading.registers.Register.{Register}
use Rattle.cycle_sim.specs.Sims.{AreNets, bits_at}
use Rattle.cycle_sim.specs.Registers.{IsRegisterOf, HasRegister, AreRegisters}
use Rattle.lane_sim.specs.Changes.{WordChange, IsChangeOf, IsChanged}
use Rattle.cycle_sim.specs.Settled.{AreSettled}
use Rattle.cycle_sim.specs.Readers.{AreNetReaders, AreStale, StayStale, list_at}
use Rattle.lane_sim.proofs.Values.{split_more, slice_get-some, slice_get-set, slice_get-push, slice_get-front, slice_get-last, width_at-line, bits_at-is, bits_at-set_same, bits_at-set_other}
use Rattle.lane_sim.proofs.Runs.{register_of_next}
use Rattle.lane_sim.proofs.Evaluation.{set_net}
use Rattle.lane_sim.proofs.Blocks.{same_or_other, stay_further}
use Rattle.lane_sim.proofs.Settling.{settled_state}
use Rattle.lane_sim.proofs.Steps.{register_is_state}

-- the net that a register takes its value from
pub register_next : (b : Netlist) → IsModule b → (register : Register) → (its : IsRegisterOf b.lines register) → width_at b.lines register.next ≡ Some its.line.width
register_next b h register its =
    subst (λ (o : Option ℕ). IfSome o (λ m. width_at b.lines m ≡ Some its.line.width)) its.next (h.well_made.lines register.net its.line its.is).next

pub next_within : (b : Netlist) → IsModule b → (registers : List Register) → AreRegisters b.lines registers → (nets : List Word) → AreNets b.lines nets → (j : ℕ) (register : Register) → slice_get registers j ≡ Some register → register.next < length nets
next_within b h registers hr nets hn j register at =
    let its = hr.each j register at in
    let net = width_at-line b.lines register.next its.line.width (register_next b h register its) in
    let lt = slice_get_within b.lines register.next net.0 net.1 in
    omega (arith, hn.count, lt)

pub net_within : (b : Netlist) → (registers : List Register) → AreRegisters b.lines registers → (nets : List Word) → AreNets b.lines nets → (j : ℕ) (register : Register) → slice_get registers j ≡ Some register → register.net < length nets
net_within b registers hr nets hn j register at =
    let its = hr.each j register at in
    let lt = slice_get_within b.lines register.net its.line its.is in
    omega (arith, hn.count, lt)

-- the register at a place of the list
abbrev pub register_at : List Register → ℕ → Register
register_at registers j = get_or registers j (record { net = 0; next = 0 })

pub registered_at : (registers : List Register) (j : ℕ) → j < length registers → slice_get registers j ≡ Some (register_at registers j)
registered_at registers j lt = slice_get-get_or registers j (record { net = 0; next = 0 }) lt

-- a net has one next net
one_next : (lines : List Line) (first second : Register) → IsRegisterOf lines first → IsRegisterOf lines second → first.net ≡ second.net → first.next ≡ second.next
one_next lines first second f s e =
    let same : f.line ≡ s.line = same_Some _ _ (sym f.is ∙ subst (λ n. slice_get lines n ≡ Some s.line) (sym e) s.is) in
    same_Some _ _ (sym f.next ∙ ap next_of same ∙ s.next)

-- what the first j registers take is gathered, as far as it is new
pub record AreGathered (registers : List Register) (nets : List Word) (changes : List WordChange) (count j : ℕ) : Type 0 where
  pub places : length changes ≡ length registers
  pub few : count ≤ j
  pub each : (i : ℕ) (change : WordChange) → i < count → slice_get changes i ≡ Some change → IsChangeOf registers nets change
  pub others : (i : ℕ) (register : Register) → i < j → slice_get registers i ≡ Some register → IsChanged changes count register.net ⊎ (bits_at nets register.net ≡ bits_at nets register.next)

pub gathered_none : (registers : List Register) (nets : List Word) (changes : List WordChange) → length changes ≡ length registers → AreGathered registers nets changes 0 0
gathered_none registers nets changes e = record { places = e; few = omega arith; each = λ i change lt at. absurd (omega arith); others = λ i register lt at. absurd (omega arith) }

-- the next has what it takes already
pub gathered_same : (registers : List Register) (nets : List Word) (changes : List WordChange) (count j : ℕ) (register : Register) → AreGathered registers nets changes count j → slice_get registers j ≡ Some register →
    bits_at nets register.net ≡ bits_at nets register.next → AreGathered registers nets changes count (j + 1)
gathered_same registers nets changes count j register h at same = record {
  places = h.places;
  few = (let few = h.few in omega arith);
  each = h.each;
  others = λ i other lt at_i. elim (split_more i j lt) [
    | inl below ↦ h.others i other below at_i
    | inr e ↦ inr (subst (λ (r : Register). bits_at nets r.net ≡ bits_at nets r.next) (same_Some _ _ (sym at ∙ subst (λ k. slice_get registers k ≡ Some other) e at_i)) same)
  ];
}

-- the item at a place that was set, and those elsewhere
set_there : {X : Type 0} (xs : List X) (k : ℕ) (x : X) → k < length xs → slice_get (set xs k x) k ≡ Some x
set_there xs k x lt =
    let some = slice_get-some (set xs k x) k (let c = length-set xs k x in omega arith) in
    some.1 ∙ ap Some (sym (get_or_from_slice_get (set xs k x) k some.0 x some.1) ∙ get_or-set_same xs k x x lt)

set_elsewhere : {X : Type 0} (xs : List X) (k n : ℕ) (x y : X) → n ≢ k → slice_get xs n ≡ Some y → slice_get (set xs k x) n ≡ Some y
set_elsewhere xs k n x y d at =
    let within = slice_get_within xs n y at in
    let some = slice_get-some (set xs k x) n (let c = length-set xs k x in omega arith) in
    some.1 ∙ ap Some (sym (get_or_from_slice_get (set xs k x) n some.0 y some.1) ∙ get_or-set_other xs k n x y d ∙ get_or_from_slice_get xs n y y at)

-- or takes something new
pub gathered_more : (registers : List Register) (nets : List Word) (changes : List WordChange) (count j : ℕ) (register : Register) (change : WordChange) → AreGathered registers nets changes count j → slice_get registers j ≡ Some register →
    change.net ≡ register.net → slice_get nets register.next ≡ Some change.value → AreGathered registers nets (set changes count change) (count + 1) (j + 1)
gathered_more registers nets changes count j register change h at net value = record {
  places = length-set changes count change ∙ h.places;
  few = (let few = h.few in omega arith);
  each = λ i other lt at_i. elim (slice_get-set changes count i change other at_i) [
    | inl old ↦ elim (split_more i count lt) [
      | inl below ↦ h.each i other below old
      | inr e ↦ subst (IsChangeOf registers nets) (same_Some _ _ (sym (set_there changes count change within) ∙ subst (λ k. slice_get (set changes count change) k ≡ Some other) e at_i)) its
    ]
    | inr new ↦ subst (IsChangeOf registers nets) new.1 its
  ];
  others = λ i other lt at_i. elim (split_more i j lt) [
    | inl below ↦ elim (h.others i other below at_i) [
      | inl c ↦ (let before = c.before in inl (record { place = c.place; change = c.change; before = omega arith; is = set_elsewhere changes count c.place change c.change (λ e. omega arith) c.is; net = c.net }))
      | inr same ↦ inr same
    ]
    | inr e ↦ (let is : register ≡ other = same_Some _ _ (sym at ∙ subst (λ k. slice_get registers k ≡ Some other) e at_i) in
        inl (record { place = count; change = change; before = omega arith; is = set_there changes count change within; net = net ∙ ap (λ (r : Register). r.net) is }))
  ];
} where
  within : count < length changes
  within = (let few = h.few in let places = h.places in let lt = slice_get_within registers j register at in omega arith)

  its : IsChangeOf registers nets change
  its = record { place = j; register = register; is = at; net = net; value = value }

-- a change from place j on is the net's
pub record IsPending (changes : List WordChange) (j count n : ℕ) : Type 0 where
  pub place : ℕ
  pub change : WordChange
  pub from : j ≤ place
  pub before : place < count
  pub is : slice_get changes place ≡ Some change
  pub net : change.net ≡ n

-- the first j changes are made, and what is no register has what it had
pub record AreTaken (b : Netlist) (registers : List Register) (changes : List WordChange) (count : ℕ) (before nets : List Word) (stale after : List Bool) (j : ℕ) : Type 0 where
  pub are_nets : AreNets b.lines nets
  pub stay : StayStale stale after
  pub settled : (words : List Word) → AreSettled b before words stale 0 → AreSettled b nets words after 0
  pub taken : (i : ℕ) (register : Register) → slice_get registers i ≡ Some register → IsPending changes j count register.net ⊎ (bits_at nets register.net ≡ bits_at before register.next)
  pub others : (n : ℕ) (line : Line) → slice_get b.lines n ≡ Some line → is_register line.equation ≡ false → bits_at nets n ≡ bits_at before n

pub taken_more : (b : Netlist) → IsModule b → (lists : List (List ℕ)) → AreNetReaders b lists (length b.lines) → (registers : List Register) → AreRegisters b.lines registers → (changes : List WordChange) (count : ℕ) (before nets : List Word) → AreNets b.lines before →
    (stale then after : List Bool) (j : ℕ) (change : WordChange) → AreTaken b registers changes count before nets stale then j → slice_get changes j ≡ Some change → IsChangeOf registers before change → StayStale then after →
    (bits_at nets change.net ≢ change.value.bits → AreStale after (list_at lists change.net)) → AreTaken b registers changes count before (set nets change.net change.value) stale after (j + 1)
taken_more b h lists readers registers hr changes count before nets hb stale then after j change t at its stay marks = record {
  are_nets = set_net b.lines nets change.net change.value t.are_nets (λ line there. (
      let same : from.line ≡ line = same_Some _ _ (sym from.is ∙ subst (λ n. slice_get b.lines n ≡ Some line) its.net there) in
      subst (λ (l : Line). IsValue change.value l.width) same (subst (IsValue change.value) source.2 (hb.fit its.register.next source.0 change.value source.1 its.value))));
  stay = stay_further stale then after t.stay stay;
  settled = λ words s. settled_state b lists readers words nets change.net change.value then after within
      (λ line there. register_is_state line.equation (is_one line (subst (λ n. slice_get b.lines n ≡ Some line) its.net there))) stay marks (t.settled words s);
  taken = λ i other at_i. elim (same_or_other other.net change.net) [
    | inl same ↦ inr (subst (λ n. bits_at (set nets change.net change.value) n ≡ bits_at before other.next) (sym same)
        (bits ∙ ap (bits_at before) (one_next b.lines its.register other from (hr.each i other at_i) (sym its.net ∙ sym same))))
    | inr apart ↦ elim (t.taken i other at_i) [
      | inl p ↦ elim (cases_lt j p.place) [
        | inl later ↦ inl (record { place = p.place; change = p.change; from = omega arith; before = p.before; is = p.is; net = p.net })
        | inr le ↦ (let first = p.from in let e : p.place ≡ j = omega arith in
            let same : p.change ≡ change = same_Some _ _ (sym p.is ∙ subst (λ k. slice_get changes k ≡ Some change) (sym e) at) in
            absurd (apart (sym p.net ∙ ap (λ (c : WordChange). c.net) same)))
      ]
      | inr done ↦ inr (bits_at-set_other nets change.net other.net change.value apart ∙ done)
    ]
  ];
  others = λ n line there r. elim (same_or_other n change.net) [
    | inl e ↦ absurd (false≢true (sym r ∙ is_one line (subst (λ m. slice_get b.lines m ≡ Some line) (e ∙ its.net) there)))
    | inr apart ↦ bits_at-set_other nets change.net n change.value apart ∙ t.others n line there r
  ];
} where
  from : IsRegisterOf b.lines its.register
  from = hr.each its.place its.register its.is

  source : (line : Line) × (slice_get b.lines its.register.next ≡ Some line) × (line.width ≡ from.line.width)
  source = width_at-line b.lines its.register.next from.line.width (register_next b h its.register from)

  within : change.net < length nets
  within = (let lt = slice_get_within b.lines its.register.net from.line from.is in let c = t.are_nets.count in let e = its.net in omega arith)

  bits : bits_at (set nets change.net change.value) change.net ≡ bits_at before its.register.next
  bits = bits_at-set_same nets change.net change.value within ∙ sym (bits_at-is before its.register.next change.value its.value)

  is_one : (line : Line) → slice_get b.lines its.register.net ≡ Some line → is_register line.equation ≡ true
  is_one line there =
      let same : from.line ≡ line = same_Some _ _ (sym from.is ∙ there) in
      subst (λ (l : Line). is_register l.equation ≡ true) same (register_of_next from.line its.register.next from.next)

taken_at : (o : Option ℕ) (net : ℕ → ℕ) (v : ℕ) → ((m : ℕ) → o ≡ Some m → v ≡ net m) → IfSome o (λ m. v ≡ net m)
taken_at None net v h = tt
taken_at (Some m) net v h = h m refl

pub taken_all : (b : Netlist) (registers : List Register) → AreRegisters b.lines registers → (changes : List WordChange) (count : ℕ) (before nets : List Word) (stale after : List Bool) (j : ℕ) → count ≤ j → AreTaken b registers changes count before nets stale after j →
    (n : ℕ) (line : Line) → slice_get b.lines n ≡ Some line → IfSome (next_of line) (λ m. bits_at nets n ≡ bits_at before m)
taken_all b registers hr changes count before nets stale after j all t n line at =
    taken_at (next_of line) (bits_at before) (bits_at nets n) (λ m e. (
    let has = hr.all n line at (register_of_next line m e) in
    let its = hr.each has.place has.register has.is in
    let same : its.line ≡ line = same_Some _ _ (sym its.is ∙ subst (λ k. slice_get b.lines k ≡ Some line) (sym has.net) at) in
    let next : has.register.next ≡ m = same_Some _ _ (sym its.next ∙ ap next_of same ∙ e) in
    let took : bits_at nets has.register.net ≡ bits_at before has.register.next = elim (t.taken has.place has.register has.is) [
      | inl p ↦ (let from = p.from in let to = p.before in absurd (omega arith))
      | inr done ↦ done
    ] in
    ap (bits_at nets) (sym has.net) ∙ took ∙ ap (bits_at before) next))
