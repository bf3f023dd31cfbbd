-- Netlists that grow in several steps, and what holds of a net in each longer netlist. No contract reads a proof of these.
use Rattle.std.proofs.Common.{◌≡◌, ℕ, zero, suc, ◌+◌, ◌^◌, ◌<◌, ◌≤◌, List, [], ◌∷◌, ◌++◌, length, length-append, slice_get, Option, Some, None, true, false, refl, sym, subst, ap, ◌∙◌, arith, inl, inr}
use Rattle.std.specs.Prelude.{Result, Ok, Err, IfOk, OnOk, IfSome}
use Rattle.netlist.specs.declared.line.Line.{Line}
use Rattle.netlist.specs.declared.line.Memory.{Memory}
use Rattle.netlist.specs.declared.line.MemWrite.{MemWrite}
use Rattle.netlist.specs.declared.line.Equation.{Equation}
use Rattle.netlist.specs.declared.line.Equation.TheVariants.{Reg}
use Rattle.netlist.specs.Nets.{NetValue}
use Rattle.netlist.specs.Netlists.{Netlist, HasWidth, IsNet, width_at, IsWaiting, IsWellMade, appended, is_register, next_set}
use Rattle.netlist.specs.Runs.{Cycle, IsValuation, SameState}
use Rattle.netlist.specs.Longer.{IsKept, IsKeptMemory, Keeps, Extends, GrowsByOne}
use Rattle.net_parts.specs.Nets.{IsNetOfWidth, IsBit, IsRegister}
use Rattle.net_parts.specs.Growth.{GrowsBy, AddsNets, GrowsInMemory, GrowsAlike}

-- ---- what a longer netlist keeps

kept_twice : (x y z : Line) → IsKept x y → IsKept y z → IsKept x z
kept_twice x y z (inl e) k = subst (λ (l : Line). IsKept l z) e k
kept_twice x y z (inr s) (inl f) = inr (record { waits = s.waits; next = s.next; is = f ∙ s.is })
kept_twice x y z (inr s) (inr t) =
    absurd (let set : y.waits ≡ false = ap (λ (l : Line). l.waits) s.is in let waits = t.waits in cc)

write_twice : (x y z : Option MemWrite) → IfSome x (λ write. y ≡ Some write) → IfSome y (λ write. z ≡ Some write)
    → IfSome x (λ write. z ≡ Some write)
write_twice None y z p q = tt
write_twice (Some write) y z p q = subst (λ (o : Option MemWrite). IfSome o (λ w. z ≡ Some w)) p q

memory_twice : (x y z : Memory) → IsKeptMemory x y → IsKeptMemory y z → IsKeptMemory x z
memory_twice x y z p q =
    record {
      width =
          q.width ∙ p.width;
      address_bits =
          q.address_bits ∙ p.address_bits;
      write = write_twice x.write y.write z.write p.write q.write;
    }

pub keeps_twice : (a b c : Netlist) → Keeps a b → Keeps b c → Keeps a c
keeps_twice a b c p q = record {
  name = q.name ∙ p.name;
  ports = q.ports ∙ p.ports;
  lines =
      λ n line at. (let l = p.lines n line at in
      let m = q.lines n l.later l.is in
      record { later = m.later; is = m.is; kept = kept_twice line l.later m.later l.kept m.kept });
  drivers = λ k n d. q.drivers k n (p.drivers k n d);
  memories =
      λ m memory at. (let l = p.memories m memory at in
      let k = q.memories m l.later l.is in
      record { later = k.later; is = k.is; kept = memory_twice memory l.later k.later l.kept k.kept });
}

pub extends_twice : (a b c : Netlist) → Extends a b → Extends b c → Extends a c
extends_twice a b c p q = record {
  keeps = keeps_twice a b c p.keeps q.keeps;
  nets = λ n w h. q.nets n w (p.nets n w h);
  memories = λ mem h. q.memories mem (p.memories mem h);
  valuations = λ cycle v. p.valuations cycle (q.valuations cycle v);
  runs = λ run cycles r. p.runs run cycles (q.runs run cycles r);
  count = (let few = p.count in let more = q.count in omega arith);
}

kept_write : (o : Option MemWrite) → IfSome o (λ write. o ≡ Some write)
kept_write None = tt
kept_write (Some write) = refl

kept_same : (memory : Memory) → IsKeptMemory memory memory
kept_same memory = record { width = refl; address_bits = refl; write = kept_write memory.write }

pub extends_none : (a : Netlist) → Extends a a
extends_none a = record {
  keeps =
      record {
        name =
            refl;
        ports =
            refl;
        lines =
            λ n line at. record { later = line; is = at; kept = inl refl };
        drivers =
            λ k n d. d;
        memories = λ m memory at. record { later = memory; is = at; kept = kept_same memory };
      };
  nets = λ n w h. h;
  memories = λ mem h. h;
  valuations = λ cycle v. v;
  runs = λ run cycles r. r;
  count = omega arith;
}

-- ---- growth in steps

pub grows_twice : (k m : ℕ) (a b c : Netlist) → GrowsBy k a b → GrowsBy m b c → GrowsBy (k + m) a c
grows_twice k m a b c p q = record {
  extends = extends_twice a b c p.extends q.extends;
  most = (let few = p.most in let more = q.most in omega arith);
  drivers = q.drivers ∙ p.drivers;
  memories = q.memories ∙ p.memories;
}

pub grows_fewer : (k m : ℕ) (a b : Netlist) → k ≤ m → GrowsBy k a b → GrowsBy m a b
grows_fewer k m a b h p =
    record { extends = p.extends; most = (let few = p.most in omega arith); drivers = p.drivers; memories = p.memories }

-- both at once: so many nets at most in two steps
pub grows_within : (k m n : ℕ) (a b c : Netlist) → GrowsBy k a b → GrowsBy m b c → k + m ≤ n → GrowsBy n a c
grows_within k m n a b c p q h = grows_fewer (k + m) n a c h (grows_twice k m a b c p q)

pub grows_none : (a : Netlist) → GrowsBy 0 a a
grows_none a = record { extends = extends_none a; most = omega arith; drivers = refl; memories = refl }

pub alike_none : (a : Netlist) → GrowsAlike a a
alike_none a = record { extends = extends_none a; drivers = refl; memories = refl; waits = λ n w. w; no_more_wait = λ n w. w }

pub alike_once : (a b : Netlist) → Extends a b → GrowsByOne a b → GrowsAlike a b
alike_once a b e g =
    record { extends = e; drivers = g.drivers; memories = g.memories; waits = g.waits; no_more_wait = g.no_more_wait }

pub alike_twice : (a b c : Netlist) → GrowsAlike a b → GrowsAlike b c → GrowsAlike a c
alike_twice a b c p q = record {
  extends = extends_twice a b c p.extends q.extends;
  drivers = q.drivers ∙ p.drivers;
  memories = q.memories ∙ p.memories;
  waits = λ n w. q.waits n (p.waits n w);
  no_more_wait = λ n w. p.no_more_wait n (q.no_more_wait n w);
}

pub adds_of : (k : ℕ) (a b : Netlist) → GrowsAlike a b → length b.lines ≤ length a.lines + k → AddsNets k a b
adds_of k a b grows most = record { grows = grows; most = most }

pub adds_none : (a : Netlist) → AddsNets 0 a a
adds_none a = record { grows = alike_none a; most = omega arith }

pub grows_once : (a b : Netlist) → Extends a b → GrowsByOne a b → AddsNets 1 a b
grows_once a b e g = record { grows = alike_once a b e g; most = g.most }

pub adds_twice : (k m : ℕ) (a b c : Netlist) → AddsNets k a b → AddsNets m b c → AddsNets (k + m) a c
adds_twice k m a b c p q =
    record { grows = alike_twice a b c p.grows q.grows; most = (let few = p.most in let more = q.most in omega arith) }

pub adds_fewer : (k m : ℕ) (a b : Netlist) → k ≤ m → AddsNets k a b → AddsNets m a b
adds_fewer k m a b h p = record { grows = p.grows; most = (let few = p.most in omega arith) }

-- nets that are no registers are so many nets
pub adds_grow : (k : ℕ) (a b : Netlist) → AddsNets k a b → GrowsBy k a b
adds_grow k a b p = record { extends = p.grows.extends; most = p.most; drivers = p.grows.drivers; memories = p.grows.memories }

-- what tactics close growth by
pub ruleset growing = (extends_twice, alike_once, alike_twice, adds_of)

pub grows_without_memory : (k : ℕ) (a b : Netlist) → GrowsBy k a b → GrowsInMemory k 0 a b
grows_without_memory k a b p =
    record {
      extends =
          p.extends;
      most = p.most;
      most_memories = (let e = ap (length {A = Memory}) p.memories in omega arith);
      drivers = p.drivers;
    }

pub memory_grows_twice : (k m r s : ℕ) (a b c : Netlist) → GrowsInMemory k r a b → GrowsInMemory m s b c
    → GrowsInMemory (k + m) (r + s) a c
memory_grows_twice k m r s a b c p q = record {
  extends = extends_twice a b c p.extends q.extends;
  most = (let few = p.most in let more = q.most in omega arith);
  most_memories = (let few = p.most_memories in let more = q.most_memories in omega arith);
  drivers = q.drivers ∙ p.drivers;
}

-- a maker's line is one more
pub one_more : (a b : Netlist) (l : Line) → b ≡ appended a l → length b.lines ≡ length a.lines + 1
one_more a b l e = ap (λ (n : Netlist). length n.lines) e ∙ length-append a.lines (l ∷ [])

-- ---- outcomes

pub on_ok : {X E : Type 0} (r : Result X E) (P Q : Type 0) → (P → Q) → OnOk r P → OnOk r Q
on_ok (Ok x) P Q f h = f h
on_ok (Err e) P Q f h = tt

pub if_ok : {X E : Type 0} (r : Result X E) (P Q : X → Type 0) → ((x : X) → P x → Q x) → IfOk r P → IfOk r Q
if_ok (Ok x) P Q f h = f x h
if_ok (Err e) P Q f h = tt

-- ---- a net in a longer netlist

pub net_lasts : (a b : Netlist) (net : NetValue) (w : ℕ) → Extends a b → IsNetOfWidth a net w → IsNetOfWidth b net w
net_lasts a b net w e h = record { is_net = e.nets net.number net.width h.is_net; has_width = h.has_width }

still_register : (e : Equation) (m : ℕ) → is_register e ≡ true → is_register (next_set e m) ≡ true
still_register (Reg r n) m h = refl
still_register e m h = h

register_kept : (line later : Line) → IsKept line later → is_register line.equation ≡ true → is_register later.equation ≡ true
register_kept line later (inl e) h = ap (λ (l : Line). is_register l.equation) e ∙ h
register_kept line later (inr s) h = ap (λ (l : Line). is_register l.equation) s.is ∙ still_register line.equation s.next h

pub register_lasts : (a b : Netlist) (n : ℕ) → Extends a b → IsRegister a n → IsRegister b n
register_lasts a b n e is =
    let kept = e.keeps.lines n is.line is.is in
    record { line = kept.later; is = kept.is; register = register_kept is.line kept.later kept.kept is.register }

-- a line stands behind the ones before it
behind : {X : Type 0} (xs : List X) (x : X) → slice_get (xs ++ x ∷ []) (length xs) ≡ Some x
behind [] x = refl
behind (y ∷ xs) x = behind xs x

-- a line of a register that was appended
pub new_register : (old new : Netlist) (n : ℕ) (line : Line) → new ≡ appended old line → n ≡ length old.lines
    → is_register line.equation ≡ true → IsRegister new n
new_register old new n line e f register =
    let whole : IsRegister (appended old line) (length old.lines) = record { line = line; is = behind old.lines line; register = register } in
    subst (λ (netlist : Netlist). IsRegister netlist n) (sym e) (subst (IsRegister (appended old line)) (sym f) whole)

-- a register that waits is one, and the same in two cycles with one state
pub waiting_register : (a : Netlist) (n : ℕ) → IsWellMade a → IsWaiting a n → IsRegister a n
waiting_register a n made w = record { line = w.line; is = w.is; register = (made.lines n w.line w.is).waits w.waits }

pub owned_same : (netlist longer : Netlist) (n : ℕ) (one other : Cycle) → IsWellMade netlist → Extends netlist longer
    → IsWaiting netlist n → SameState longer one other → one.net n ≡ other.net n
owned_same netlist longer n one other made e waits state =
    let r = register_lasts netlist longer n e (waiting_register netlist n made waits) in
    state.registers n r.line r.is r.register

line_within : {X : Type 0} (xs : List X) (n : ℕ) (x : X) → slice_get xs n ≡ Some x → n < length xs
line_within [] n x e = cc
line_within (a ∷ xs) zero x e = omega arith
line_within (a ∷ xs) (suc n) x e = let i = line_within xs n x e in omega arith

-- a register that waits is one of the nets
pub waiting_within : (a : Netlist) (n : ℕ) → IsWaiting a n → n < length a.lines
waiting_within a n w = line_within a.lines n w.line w.is

-- ---- what a net can show

line_of_width : (lines : List Line) (n w : ℕ) → width_at lines n ≡ Some w
    → (line : Line) × (slice_get lines n ≡ Some line) × (line.width ≡ w)
line_of_width [] n w e = cc
line_of_width (x ∷ xs) zero w e = (x, refl, (cc))
line_of_width (x ∷ xs) (suc n) w e = line_of_width xs n w e

-- a net's value has the net's width
pub valued_fits : (a : Netlist) (cycle : Cycle) → IsValuation a cycle → (n w : ℕ) → HasWidth a n w → cycle.net n < 2 ^ w
valued_fits a cycle v n w h =
    let line = line_of_width a.lines n w h in
    subst (λ k. cycle.net n < 2 ^ k) line.2 ((v.nets n line.0 line.1).fits)

pub net_fits : (a : Netlist) (net : NetValue) → IsNet a net → (cycle : Cycle) → IsValuation a cycle
    → cycle.net net.number < 2 ^ net.width
net_fits a net h cycle v = valued_fits a cycle v net.number net.width h

pub width_fits : (a : Netlist) (net : NetValue) (w : ℕ) → IsNetOfWidth a net w → (cycle : Cycle) → IsValuation a cycle
    → cycle.net net.number < 2 ^ w
width_fits a net w h cycle v = subst (λ k. cycle.net net.number < 2 ^ k) h.has_width (net_fits a net h.is_net cycle v)

-- a net of one bit is 0 or 1
pub bit_fits : (a : Netlist) (net : NetValue) → IsBit a net → (cycle : Cycle) → IsValuation a cycle → cycle.net net.number < 2
bit_fits a net h cycle v = width_fits a net 1 h cycle v
