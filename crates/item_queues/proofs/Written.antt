-- Memories and nets that are made, read and written one by one.
use Rattle.std.proofs.Common.{◌≡◌, ℕ, zero, suc, ◌+◌, ◌^◌, ◌<◌, ◌≤◌, Bool, true, false, ◌==◌, ◌&&◌, if◌then◌else◌, List, [], ◌∷◌, ◌++◌, length, length-append, length-set, get_or, map, take, slice_get, ◌⊎◌, Some, refl, sym, subst, ap, ◌∙◌, arith, inl, inr}
use Rattle.netlist.specs.declared.line.Line.{Line}
use Rattle.netlist.specs.declared.line.Memory.{Memory}
use Rattle.netlist.specs.Nets.{NetValue, MemValue}
use Rattle.netlist.specs.Netlists.{Netlist, IsNet, IsMem, WaitsForWrite, with_write, write_of}
use Rattle.netlist.specs.Runs.{Run, IsRun, cycle_of, Always}
use Rattle.netlist.specs.Longer.{Extends}
use Rattle.net_parts.specs.Growth.{AddsNets, GrowsAlike, GrowsInMemory, StillWaitForWrite, WriteWaitsBeside, WriteWaitsWithout}
use Rattle.net_parts.specs.Laws.{extends_twice, extends_none, alike_twice, alike_none}
use Rattle.net_parts.specs.Groups.{AreNets, group_widths, values_of, nets_last}
use Rattle.item_queues.specs.Memories.{IsMemOf, AreMems, AreMemsFrom, InMems, mem_widths, item_at, TakesItems, mems_last, mems_in_row}

-- ---- one of a list

map_push : {X Y : Type 0} (f : X → Y) (xs : List X) (x : X) → map f (xs ++ x ∷ []) ≡ map f xs ++ f x ∷ []
map_push f [] x = refl
map_push f (a ∷ xs) x = ap (λ (ys : List _). f a ∷ ys) (map_push f xs x)

push_same : {X Y Z : Type 0} (f : X → Z) (g : Y → Z) (xs : List X) (ys : List Y) (x : X) (y : Y) → map f xs ≡ map g ys → f x ≡ g y → map f (xs ++ x ∷ []) ≡ map g (ys ++ y ∷ [])
push_same f g xs ys x y e p = map_push f xs x ∙ ap (λ (zs : List _). zs ++ f x ∷ []) e ∙ ap (λ z. map g ys ++ z ∷ []) p ∙ sym (map_push g ys y)

nets_push : (netlist : Netlist) (group : List NetValue) (net : NetValue) → AreNets netlist group → IsNet netlist net → AreNets netlist (group ++ net ∷ [])
nets_push netlist [] net h i = (i, tt)
nets_push netlist (first ∷ group) net h i = (h.0, nets_push netlist group net h.1 i)

mems_push : (netlist : Netlist) (bits : ℕ) (mems : List MemValue) (mem : MemValue) → AreMems netlist bits mems → IsMemOf netlist bits mem → AreMems netlist bits (mems ++ mem ∷ [])
mems_push netlist bits [] mem h i = (i, tt)
mems_push netlist bits (first ∷ mems) mem h i = (h.0, mems_push netlist bits mems mem h.1 i)

numbered_push : (from : ℕ) (mems : List MemValue) (mem : MemValue) → AreMemsFrom from mems → mem.number ≡ from + length mems → AreMemsFrom from (mems ++ mem ∷ [])
numbered_push from [] mem h e = (omega arith, tt)
numbered_push from (first ∷ mems) mem h e = (h.0, numbered_push (from + 1) mems mem h.1 (omega arith))

pub net_at : (netlist : Netlist) (group : List NetValue) (k : ℕ) (d : NetValue) → k < length group → AreNets netlist group → IsNet netlist (get_or group k d)
net_at netlist [] k d lt h = absurd (omega arith)
net_at netlist (net ∷ group) zero d lt h = h.0
net_at netlist (net ∷ group) (suc k) d lt h = net_at netlist group k d (omega arith) h.1

pub mem_at : (netlist : Netlist) (bits : ℕ) (mems : List MemValue) (k : ℕ) (d : MemValue) → k < length mems → AreMems netlist bits mems → IsMemOf netlist bits (get_or mems k d)
mem_at netlist bits [] k d lt h = absurd (omega arith)
mem_at netlist bits (mem ∷ mems) zero d lt h = h.0
mem_at netlist bits (mem ∷ mems) (suc k) d lt h = mem_at netlist bits mems k d (omega arith) h.1

pub width_at : (mems : List MemValue) (group : List NetValue) (k : ℕ) (d : MemValue) (e : NetValue) → k < length mems → k < length group → mem_widths mems ≡ group_widths group → (get_or mems k d).width ≡ (get_or group k e).width
width_at [] group k d e lt within h = absurd (omega arith)
width_at (a ∷ mems) [] k d e lt within h = absurd (omega arith)
width_at (a ∷ mems) (b ∷ group) zero d e lt within h = cc
width_at (a ∷ mems) (b ∷ group) (suc k) d e lt within h = width_at mems group k d e (omega arith) (omega arith) (cc)

in_pushed : (mems : List MemValue) (mem : MemValue) (m : ℕ) → InMems mems m → InMems (mems ++ mem ∷ []) m
in_pushed [] mem m o = absurd o
in_pushed (first ∷ mems) mem m (inl e) = inl e
in_pushed (first ∷ mems) mem m (inr o) = inr (in_pushed mems mem m o)

in_last : (mems : List MemValue) (mem : MemValue) (m : ℕ) → m ≡ mem.number → InMems (mems ++ mem ∷ []) m
in_last [] mem m e = inl e
in_last (first ∷ mems) mem m e = inr (in_last mems mem m e)

of_pushed : (mems : List MemValue) (mem : MemValue) (m : ℕ) → InMems (mems ++ mem ∷ []) m → InMems mems m ⊎ (m ≡ mem.number)
of_pushed [] mem m (inl e) = inr e
of_pushed [] mem m (inr o) = absurd o
of_pushed (first ∷ mems) mem m (inl e) = inl (inl e)
of_pushed (first ∷ mems) mem m (inr o) = elim (of_pushed mems mem m o) [ inl p ↦ inl (inr p) | inr e ↦ inr e ]

pub at_in : (mems : List MemValue) (k : ℕ) (d : MemValue) → k < length mems → InMems mems (get_or mems k d).number
at_in [] k d lt = absurd (omega arith)
at_in (mem ∷ mems) zero d lt = inl refl
at_in (mem ∷ mems) (suc k) d lt = inr (at_in mems k d (omega arith))

number_at : (from : ℕ) (mems : List MemValue) (k : ℕ) (d : MemValue) → k < length mems → AreMemsFrom from mems → (get_or mems k d).number ≡ from + k
number_at from [] k d lt h = absurd (omega arith)
number_at from (mem ∷ mems) zero d lt h = (let e = h.0 in omega arith)
number_at from (mem ∷ mems) (suc k) d lt h = (let e = number_at (from + 1) mems k d (omega arith) h.1 in omega (arith, e))

first_numbered : (from : ℕ) (mems : List MemValue) (k : ℕ) → AreMemsFrom from mems → AreMemsFrom from (take k mems)
first_numbered from mems zero h = tt
first_numbered from [] (suc k) h = tt
first_numbered from (mem ∷ mems) (suc k) h = (h.0, first_numbered (from + 1) mems k h.1)

-- a memory is none of those before it
pub at_apart : (from : ℕ) (mems : List MemValue) (k : ℕ) (d : MemValue) → k < length mems → AreMemsFrom from mems → ¬ InMems (take k mems) (get_or mems k d).number
at_apart from mems k d lt h o =
    let row = mems_in_row from (take k mems) (first_numbered from mems k h) (get_or mems k d).number o in
    let at = number_at from mems k d lt h in
    let few = length_take k mems in
    let below = row.below in
    omega (arith, at, few, below)
  where
    length_take : (k : ℕ) (xs : List MemValue) → length (take k xs) ≤ k
    length_take zero xs = omega arith
    length_take (suc k) [] = omega arith
    length_take (suc k) (x ∷ xs) = (let e = length_take k xs in omega (arith, e))

-- ---- memories that are made

pub record MemsMade (old now : Netlist) (bits : ℕ) (like : List NetValue) (made : List MemValue) (count : ℕ) : Type 0 where
  pub mems : AreMems now bits made
  pub widths : mem_widths made ≡ group_widths like
  pub numbers : AreMemsFrom (length old.memories) made
  pub count_is : length made ≡ count
  pub memories : length now.memories ≡ length old.memories + count
  pub waits : (m : ℕ) → InMems made m → WaitsForWrite now m
  pub extends : Extends old now
  pub lines : now.lines ≡ old.lines
  pub drivers : now.drivers ≡ old.drivers
  pub still : StillWaitForWrite old now
  pub newly : WriteWaitsBeside (InMems made) old now

pub mems_none : (old : Netlist) (bits : ℕ) → MemsMade old old bits [] [] 0
mems_none old bits = record { mems = tt; widths = refl; numbers = tt; count_is = refl; memories = omega arith; waits = λ m o. absurd o; extends = extends_none old; lines = refl; drivers = refl; still = λ m w. w; newly = λ m w. inl w }

pub mems_more : (old now new : Netlist) (bits : ℕ) (like : List NetValue) (made : List MemValue) (count : ℕ) (x : NetValue) (y : MemValue) → MemsMade old now bits like made count →
    IsMem new y → y.width ≡ x.width → y.address_bits ≡ bits → y.number ≡ length now.memories → length new.memories ≡ length now.memories + 1 → WaitsForWrite new y.number →
    GrowsInMemory 0 1 now new → new.lines ≡ now.lines → StillWaitForWrite now new → WriteWaitsBeside (λ m. m ≡ length now.memories) now new → MemsMade old new bits (like ++ x ∷ []) (made ++ y ∷ []) (count + 1)
mems_more old now new bits like made count x y h mem width address number more waits grows lines still newly = record {
  mems = mems_push new bits made y (mems_last now new bits made h.mems grows.extends) (record { is_mem = mem; has_address = address });
  widths = push_same (λ (m : MemValue). m.width) (λ (n : NetValue). n.width) made like y x h.widths width;
  numbers = numbered_push (length old.memories) made y h.numbers (let e = h.memories in let f = h.count_is in omega (arith, number));
  count_is = (let e = length-append made (y ∷ []) in let f = h.count_is in omega arith);
  memories = (let e = h.memories in omega (arith, more));
  waits = λ m o. elim (of_pushed made y m o) [ inl p ↦ still m (h.waits m p) | inr e ↦ subst (WaitsForWrite new) (sym e) waits ];
  extends = extends_twice old now new h.extends grows.extends;
  lines = lines ∙ h.lines;
  drivers = grows.drivers ∙ h.drivers;
  still = λ m w. still m (h.still m w);
  newly = λ m w. elim (newly m w) [
    | inl before ↦ elim (h.newly m before) [ inl first ↦ inl first | inr own ↦ inr (in_pushed made y m own) ]
    | inr e ↦ inr (in_last made y m (e ∙ sym number))
  ];
}

-- so many of them, and one more, that may have failed
pub mems_grow : (old now new : Netlist) (bits : ℕ) (like : List NetValue) (made : List MemValue) (count most : ℕ) → MemsMade old now bits like made count → GrowsInMemory 0 1 now new → count + 1 ≤ most → GrowsInMemory 0 most old new
mems_grow old now new bits like made count most h g few = record {
  extends = extends_twice old now new h.extends g.extends;
  most = (let lines = ap (length {A = Line}) h.lines in let more = g.most in omega (arith, lines, more));
  most_memories = (let count_is = h.memories in let more = g.most_memories in omega (arith, count_is, more, few));
  drivers = g.drivers ∙ h.drivers;
}

-- ---- an item that is read

pub record ItemRead (old now : Netlist) (place : NetValue) (mems : List MemValue) (made : List NetValue) (count : ℕ) : Type 0 where
  pub nets : AreNets now made
  pub widths : group_widths made ≡ mem_widths mems
  pub value : Always now (λ cycle. values_of cycle made ≡ item_at cycle mems (cycle.net place.number))
  pub grows : GrowsAlike old now
  pub most : length now.lines ≤ length old.lines + count

pub read_none : (old : Netlist) (place : NetValue) → ItemRead old old place [] [] 0
read_none old place = record { nets = tt; widths = refl; value = λ cycle v. refl; grows = alike_none old; most = omega arith }

pub read_more : (old now new : Netlist) (place : NetValue) (mems : List MemValue) (made : List NetValue) (count : ℕ) (x : MemValue) (y : NetValue) → ItemRead old now place mems made count →
    IsNet new y → y.width ≡ x.width → Always new (λ cycle. cycle.net y.number ≡ cycle.cell x.number (cycle.net place.number)) → AddsNets 1 now new →
    ItemRead old new place (mems ++ x ∷ []) (made ++ y ∷ []) (count + 1)
read_more old now new place mems made count x y h net width value adds = record {
  nets = nets_push new made y (nets_last now new made adds.grows.extends h.nets) net;
  widths = push_same (λ (n : NetValue). n.width) (λ (m : MemValue). m.width) made mems y x h.widths width;
  value = λ cycle v. push_same (λ (n : NetValue). cycle.net n.number) (λ (m : MemValue). cycle.cell m.number (cycle.net place.number)) made mems y x (h.value cycle (adds.grows.extends.valuations cycle v)) (value cycle v);
  grows = alike_twice old now new h.grows adds.grows;
  most = (let few = h.most in let more = adds.most in omega arith);
}

-- ---- an item that is written

pub record ItemWritten (old now : Netlist) (comes place : NetValue) (mems : List MemValue) (item : List NetValue) : Type 0 where
  pub takes : TakesItems now mems comes place item
  pub extends : Extends old now
  pub lines : now.lines ≡ old.lines
  pub drivers : now.drivers ≡ old.drivers
  pub memories : length now.memories ≡ length old.memories
  pub still : (m : ℕ) → ¬ InMems mems m → WaitsForWrite old m → WaitsForWrite now m
  pub no_more : WriteWaitsWithout (InMems mems) old now

chosen_none : (t : Bool) → ◌≡◌ {A = List ℕ} [] (if t then [] else [])
chosen_none true = refl
chosen_none false = refl

pub written_none : (old : Netlist) (comes place : NetValue) → ItemWritten old old comes place [] []
written_none old comes place = record {
  takes = λ run cycles r c lt k low. chosen_none _;
  extends = extends_none old;
  lines = refl;
  drivers = refl;
  memories = refl;
  still = λ m apart w. w;
  no_more = λ m w. (w, λ o. o);
}

-- the memory's write leaves as many memories
pub count_kept : (now new : Netlist) (mem : MemValue) (comes place word : ℕ) → IsMem now mem → ((memory : Memory) → slice_get now.memories mem.number ≡ Some memory → new ≡ with_write now mem.number memory (write_of comes place word)) → length new.memories ≡ length now.memories
count_kept now new mem comes place word h is =
    ap (λ (n : Netlist). length n.memories) (is h.memory h.is) ∙ length-set now.memories mem.number (record h.memory { write = Some (write_of comes place word) })

pub written_more : (old now new : Netlist) (comes place : NetValue) (mems : List MemValue) (item : List NetValue) (x : MemValue) (y : NetValue) → ItemWritten old now comes place mems item →
    x.address_bits ≡ place.width →
    ((run : Run) (cycles : ℕ) → IsRun new run cycles → (c : ℕ) → c + 1 < cycles → (k : ℕ) → k < 2 ^ x.address_bits
    → run.cell (c + 1) x.number k ≡ (if (run.net c comes.number == 1) && (run.net c place.number == k) then run.net c y.number else run.cell c x.number k)) →
    Extends now new → new.lines ≡ now.lines → new.drivers ≡ now.drivers → length new.memories ≡ length now.memories → ((m : ℕ) → (m ≡ x.number → ⊥) → WaitsForWrite now m → WaitsForWrite new m) →
    ((m : ℕ) → WaitsForWrite new m → WaitsForWrite now m × (m ≡ x.number → ⊥)) → ItemWritten old new comes place (mems ++ x ∷ []) (item ++ y ∷ [])
written_more old now new comes place mems item x y h address value e lines drivers memories still no_more = record {
  takes = λ run cycles r c lt k low.
      by_bit run c k ((run.net c comes.number == 1) && (run.net c place.number == k)) (h.takes run cycles (e.runs run cycles r) c lt k low) (value run cycles r c lt k (subst (λ bits. k < 2 ^ bits) (sym address) low));
  extends = extends_twice old now new h.extends e;
  lines = lines ∙ h.lines;
  drivers = drivers ∙ h.drivers;
  memories = memories ∙ h.memories;
  still = λ m apart w. still m (λ same. apart (in_last mems x m same)) (h.still m (λ o. apart (in_pushed mems x m o)) w);
  no_more = λ m w. (let now_w = no_more m w in let before = h.no_more m now_w.0 in (before.0, λ o. elim (of_pushed mems x m o) [ inl p ↦ before.1 p | inr same ↦ now_w.1 same ]));
} where
  by_bit : (run : Run) (c k : ℕ) (t : Bool) → item_at (cycle_of run (c + 1)) mems k ≡ (if t then values_of (cycle_of run c) item else item_at (cycle_of run c) mems k) →
      run.cell (c + 1) x.number k ≡ (if t then run.net c y.number else run.cell c x.number k) →
      item_at (cycle_of run (c + 1)) (mems ++ x ∷ []) k ≡ (if t then values_of (cycle_of run c) (item ++ y ∷ []) else item_at (cycle_of run c) (mems ++ x ∷ []) k)
  by_bit run c k true p q = push_same (λ (m : MemValue). run.cell (c + 1) m.number k) (λ (n : NetValue). run.net c n.number) mems item x y p q
  by_bit run c k false p q = push_same (λ (m : MemValue). run.cell (c + 1) m.number k) (λ (m : MemValue). run.cell c m.number k) mems mems x x p q
