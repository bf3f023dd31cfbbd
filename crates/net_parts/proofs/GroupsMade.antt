-- Groups of nets that are made one by one.
use Rattle.std.proofs.Common.{◌≡◌, ℕ, zero, suc, ◌+◌, ◌<◌, ◌≤◌, Bool, true, false, ◌==◌, nat_lt, if◌then◌else◌, List, [], ◌∷◌, ◌++◌, length, length-append, get_or, map, take, ◌⊎◌, refl, sym, subst, ap, ◌∙◌, arith, inl, inr}
use Rattle.std.proofs.lemmas.Bool.{ltb-true, ltb-false}
use Rattle.netlist.specs.Nets.{NetValue}
use Rattle.netlist.specs.Netlists.{Netlist, IsNet, IsWaiting}
use Rattle.netlist.specs.Runs.{Cycle, Run, IsRun, Always}
use Rattle.netlist.specs.Longer.{Extends}
use Rattle.net_parts.specs.Nets.{IsNetOfWidth, StartsLow}
use Rattle.net_parts.specs.Growth.{GrowsBy, AddsNets, GrowsAlike, StillWait, WaitsBeside, WaitsWithout}
use Rattle.net_parts.specs.Laws.{extends_twice, extends_none, alike_twice}
use Rattle.net_parts.specs.Groups.{AreNets, group_widths, values_of, AreNumberedFrom, InGroup, IsInRow, StartAllLow, TakeAllNext, ChooseAll, nets_last, in_row}

-- so many registers are made
pub record RegistersMade (old now : Netlist) (like made : List NetValue) (count : ℕ) : Type 0 where
  pub nets : AreNets now made
  pub widths : group_widths made ≡ group_widths like
  pub numbers : AreNumberedFrom (length old.lines) made
  pub count_is : length made ≡ count
  pub lines : length now.lines ≡ length old.lines + count
  pub starts : StartAllLow now made
  pub waits : (n : ℕ) → IsInRow (length old.lines) count n → IsWaiting now n
  pub extends : Extends old now
  pub drivers : now.drivers ≡ old.drivers
  pub memories : now.memories ≡ old.memories
  pub still_wait : StillWait old now
  pub newly : WaitsBeside (IsInRow (length old.lines) count) old now

-- so many choices are made
pub record ChoicesMade (old now : Netlist) (bit : NetValue) (one other made : List NetValue) (count : ℕ) : Type 0 where
  pub nets : AreNets now made
  pub widths : group_widths made ≡ group_widths one
  pub chosen : ChooseAll now bit one other made
  pub grows : GrowsAlike old now
  pub most : length now.lines ≤ length old.lines + count

-- the first registers of a group have their next nets
pub record NextAreSet (old now : Netlist) (group next : List NetValue) : Type 0 where
  pub takes : TakeAllNext now group next
  pub extends : Extends old now
  pub lines : length now.lines ≡ length old.lines
  pub drivers : now.drivers ≡ old.drivers
  pub memories : now.memories ≡ old.memories
  pub still_wait : (n : ℕ) → ¬ InGroup group n → IsWaiting old n → IsWaiting now n
  pub no_more_wait : WaitsWithout (InGroup group) old now

-- ---- a net of a group

pub net_at : (netlist : Netlist) (group : List NetValue) (k : ℕ) (d : NetValue) → k < length group → AreNets netlist group → IsNet netlist (get_or group k d)
net_at netlist [] k d lt h = absurd (omega arith)
net_at netlist (net ∷ group) zero d lt h = h.0
net_at netlist (net ∷ group) (suc k) d lt h = net_at netlist group k d (omega arith) h.1

pub width_at : (one other : List NetValue) (k : ℕ) (d e : NetValue) → k < length one → k < length other → group_widths one ≡ group_widths other → (get_or one k d).width ≡ (get_or other k e).width
width_at [] other k d e lt within h = absurd (omega arith)
width_at (a ∷ one) [] k d e lt within h = absurd (omega arith)
width_at (a ∷ one) (b ∷ other) zero d e lt within h = cc
width_at (a ∷ one) (b ∷ other) (suc k) d e lt within h = width_at one other k d e (omega arith) (omega arith) (cc)

-- ---- one more net

pub map_push : {X Y : Type 0} (f : X → Y) (xs : List X) (x : X) → map f (xs ++ x ∷ []) ≡ map f xs ++ f x ∷ []
map_push f [] x = refl
map_push f (a ∷ xs) x = ap (λ (ys : List _). f a ∷ ys) (map_push f xs x)

nets_push : (netlist : Netlist) (group : List NetValue) (net : NetValue) → AreNets netlist group → IsNet netlist net → AreNets netlist (group ++ net ∷ [])
nets_push netlist [] net h i = (i, tt)
nets_push netlist (first ∷ group) net h i = (h.0, nets_push netlist group net h.1 i)

numbered_push : (from : ℕ) (group : List NetValue) (net : NetValue) → AreNumberedFrom from group → net.number ≡ from + length group → AreNumberedFrom from (group ++ net ∷ [])
numbered_push from [] net h e = (omega arith, tt)
numbered_push from (first ∷ group) net h e = (h.0, numbered_push (from + 1) group net h.1 (omega arith))

length_push : (group : List NetValue) (net : NetValue) → length (group ++ net ∷ []) ≡ length group + 1
length_push group net = length-append group (net ∷ [])

push_same : {X Y : Type 0} (f g : X → Y) (xs ys : List X) (x y : X) → map f xs ≡ map g ys → f x ≡ g y → map f (xs ++ x ∷ []) ≡ map g (ys ++ y ∷ [])
push_same f g xs ys x y e p = map_push f xs x ∙ ap (λ (zs : List _). zs ++ f x ∷ []) e ∙ ap (λ z. map g ys ++ z ∷ []) p ∙ sym (map_push g ys y)

pub registers_more : (old now new : Netlist) (like made : List NetValue) (count : ℕ) (x y : NetValue) → RegistersMade old now like made count →
    IsNetOfWidth new y x.width → y.number ≡ length now.lines → length new.lines ≡ length now.lines + 1 → StartsLow new y → IsWaiting new y.number →
    GrowsBy 1 now new → StillWait now new → WaitsBeside (λ n. n ≡ length now.lines) now new → RegistersMade old new (like ++ x ∷ []) (made ++ y ∷ []) (count + 1)
registers_more old now new like made count x y h net number more starts waits grows still newly = record {
  nets = nets_push new made y (nets_last now new made grows.extends h.nets) net.is_net;
  widths = push_same (λ (n : NetValue). n.width) (λ (n : NetValue). n.width) made like y x h.widths net.has_width;
  numbers = numbered_push (length old.lines) made y h.numbers (let e = h.lines in let f = h.count_is in omega arith);
  count_is = (let e = length_push made y in let f = h.count_is in omega arith);
  lines = (let e = h.lines in omega arith);
  starts = λ run cycles r lt. push_same (λ (n : NetValue). run.net 0 n.number) (λ _. 0) made made y y (h.starts run cycles (grows.extends.runs run cycles r) lt) (starts run cycles r lt);
  waits = λ n o. by_place n o (nat_lt n (length now.lines)) refl;
  extends = extends_twice old now new h.extends grows.extends;
  drivers = grows.drivers ∙ h.drivers;
  memories = grows.memories ∙ h.memories;
  still_wait = λ n w. still n (h.still_wait n w);
  newly = λ n w. elim (newly n w) [
    | inl before ↦ elim (h.newly n before) [ inl first ↦ inl first | inr one ↦ inr (record { least = one.least; below = (let lt = one.below in omega arith) }) ]
    | inr same ↦ inr (record { least = (let e = h.lines in omega (arith, same)); below = (let e = h.lines in omega (arith, same)) })
  ];
} where
  by_place : (n : ℕ) → IsInRow (length old.lines) (count + 1) n → (t : Bool) → nat_lt n (length now.lines) ≡ t → IsWaiting new n
  by_place n o true e = still n (h.waits n (record { least = o.least; below = (let lt = ltb-true n (length now.lines) e in let l = h.lines in omega (arith, lt)) }))
  by_place n o false e =
      let le = ltb-false n (length now.lines) e in
      let below = o.below in
      let l = h.lines in
      subst (IsWaiting new) (omega (arith, number, le)) waits

pub choices_more : (old now new : Netlist) (bit : NetValue) (one other made : List NetValue) (count : ℕ) (x y z : NetValue) → ChoicesMade old now bit one other made count →
    IsNetOfWidth new z x.width → Always new (λ cycle. cycle.net z.number ≡ (if cycle.net bit.number == 0 then cycle.net y.number else cycle.net x.number)) → AddsNets 1 now new →
    ChoicesMade old new bit (one ++ x ∷ []) (other ++ y ∷ []) (made ++ z ∷ []) (count + 1)
choices_more old now new bit one other made count x y z h net value adds = record {
  nets = nets_push new made z (nets_last now new made adds.grows.extends h.nets) net.is_net;
  widths = push_same (λ (n : NetValue). n.width) (λ (n : NetValue). n.width) made one z x h.widths net.has_width;
  chosen = λ cycle v. by_bit cycle (cycle.net bit.number == 0) (h.chosen cycle (adds.grows.extends.valuations cycle v)) (value cycle v);
  grows = alike_twice old now new h.grows adds.grows;
  most = (let few = h.most in let more = adds.most in omega arith);
} where
  by_bit : (cycle : Cycle) (t : Bool) → values_of cycle made ≡ (if t then values_of cycle other else values_of cycle one) → cycle.net z.number ≡ (if t then cycle.net y.number else cycle.net x.number) →
      values_of cycle (made ++ z ∷ []) ≡ (if t then values_of cycle (other ++ y ∷ []) else values_of cycle (one ++ x ∷ []))
  by_bit cycle true e p = push_same (λ (n : NetValue). cycle.net n.number) (λ (n : NetValue). cycle.net n.number) made other z y e p
  by_bit cycle false e p = push_same (λ (n : NetValue). cycle.net n.number) (λ (n : NetValue). cycle.net n.number) made one z x e p

-- ---- next nets

in_pushed : (group : List NetValue) (net : NetValue) (n : ℕ) → InGroup group n → InGroup (group ++ net ∷ []) n
in_pushed [] net n o = absurd o
in_pushed (first ∷ group) net n (inl e) = inl e
in_pushed (first ∷ group) net n (inr o) = inr (in_pushed group net n o)

in_last : (group : List NetValue) (net : NetValue) (n : ℕ) → n ≡ net.number → InGroup (group ++ net ∷ []) n
in_last [] net n e = inl e
in_last (first ∷ group) net n e = inr (in_last group net n e)

of_pushed : (group : List NetValue) (net : NetValue) (n : ℕ) → InGroup (group ++ net ∷ []) n → InGroup group n ⊎ (n ≡ net.number)
of_pushed [] net n (inl e) = inr e
of_pushed [] net n (inr o) = absurd o
of_pushed (first ∷ group) net n (inl e) = inl (inl e)
of_pushed (first ∷ group) net n (inr o) = elim (of_pushed group net n o) [ inl p ↦ inl (inr p) | inr e ↦ inr e ]

-- a net of the group is one of it
pub at_in : (group : List NetValue) (k : ℕ) (d : NetValue) → k < length group → InGroup group (get_or group k d).number
at_in [] k d lt = absurd (omega arith)
at_in (net ∷ group) zero d lt = inl refl
at_in (net ∷ group) (suc k) d lt = inr (at_in group k d (omega arith))

number_at : (from : ℕ) (group : List NetValue) (k : ℕ) (d : NetValue) → k < length group → AreNumberedFrom from group → (get_or group k d).number ≡ from + k
number_at from [] k d lt h = absurd (omega arith)
number_at from (net ∷ group) zero d lt h = (let e = h.0 in omega arith)
number_at from (net ∷ group) (suc k) d lt h = (let e = number_at (from + 1) group k d (omega arith) h.1 in omega (arith, e))

first_numbered : (from : ℕ) (group : List NetValue) (k : ℕ) → AreNumberedFrom from group → AreNumberedFrom from (take k group)
first_numbered from group zero h = tt
first_numbered from [] (suc k) h = tt
first_numbered from (net ∷ group) (suc k) h = (h.0, first_numbered (from + 1) group k h.1)

-- it is none of those before it
pub at_apart : (from : ℕ) (group : List NetValue) (k : ℕ) (d : NetValue) → k < length group → AreNumberedFrom from group → ¬ InGroup (take k group) (get_or group k d).number
at_apart from group k d lt h o =
    let row = in_row from (take k group) (first_numbered from group k h) (get_or group k d).number o in
    let at = number_at from group k d lt h in
    let few = length_take k group in
    let below = row.below in
    omega (arith, at, few, below)
  where
    length_take : (k : ℕ) (xs : List NetValue) → length (take k xs) ≤ k
    length_take zero xs = omega arith
    length_take (suc k) [] = omega arith
    length_take (suc k) (x ∷ xs) = (let e = length_take k xs in omega (arith, e))

pub next_more : (old now new : Netlist) (group next : List NetValue) (x y : NetValue) → NextAreSet old now group next →
    ((run : Run) (cycles : ℕ) → IsRun new run cycles → (c : ℕ) → c + 1 < cycles → run.net (c + 1) x.number ≡ run.net c y.number) → Extends now new → length new.lines ≡ length now.lines →
    new.drivers ≡ now.drivers → new.memories ≡ now.memories → ((n : ℕ) → (n ≡ x.number → ⊥) → IsWaiting now n → IsWaiting new n) → ((n : ℕ) → IsWaiting new n → IsWaiting now n × (n ≡ x.number → ⊥)) →
    NextAreSet old new (group ++ x ∷ []) (next ++ y ∷ [])
next_more old now new group next x y h takes e lines drivers memories still no_more = record {
  takes = λ run cycles r c lt. push_same (λ (n : NetValue). run.net (c + 1) n.number) (λ (n : NetValue). run.net c n.number) group next x y (h.takes run cycles (e.runs run cycles r) c lt) (takes run cycles r c lt);
  extends = extends_twice old now new h.extends e;
  lines = lines ∙ h.lines;
  drivers = drivers ∙ h.drivers;
  memories = memories ∙ h.memories;
  still_wait = λ n apart w. still n (λ same. apart (in_last group x n same)) (h.still_wait n (λ o. apart (in_pushed group x n o)) w);
  no_more_wait = λ n w. (let now_w = no_more n w in let before = h.no_more_wait n now_w.0 in (before.0, λ o. elim (of_pushed group x n o) [ inl p ↦ before.1 p | inr same ↦ now_w.1 same ]));
}

pub next_none : (old : Netlist) → NextAreSet old old [] []
next_none old = record { takes = λ run cycles r c lt. refl; extends = extends_none old; lines = refl; drivers = refl; memories = refl; still_wait = λ n apart w. w; no_more_wait = λ n w. (w, λ o. o) }
