-- What is read of copies.
use Rattle.std.proofs.Common.{◌≡◌, ℕ, ◌+◌, ◌-◌, ◌^◌, ◌<◌, Bool, true, false, List, length, slice_get, get_or, Option, Some, None, refl, sym, ap, subst, ◌∙◌, arith}
use Rattle.std.specs.Prelude.{◌==◌, ◌&&◌, if◌then◌else◌}
use Rattle.std.proofs.lemmas.List.{get_or-set_other}
use Rattle.std.proofs.lemmas.Option.{get_or_from_slice_get, same_Some, slice_get_within}
use Rattle.av_base.specs.declared.value.Val.{Val}
use Rattle.netlist.specs.declared.line.Line.{Line}
use Rattle.netlist.specs.declared.line.PortLine.{PortLine}
use Rattle.netlist.specs.declared.line.Memory.{Memory}
use Rattle.netlist.specs.declared.line.MemWrite.{MemWrite}
use Rattle.netlist.specs.declared.line.Equation.{Equation}
use Rattle.netlist.specs.declared.line.Equation.TheVariants.{Reg}
use Rattle.netlist.specs.Nets.{NetValue, MemValue, mem_of}
use Rattle.netlist.specs.Netlists.{Netlist, HasWidth, IsClocked, IsMem, IsModule, WaitsForWrite, driver_of, is_register, with_driver}
use Rattle.netlist.specs.Runs.{Cycle, Run, cycle_of, IsRun, IsValuation}
use Rattle.net_parts.specs.Nets.{IsNetOfWidth}
use Rattle.narrowed_netlists.specs.declared.gaps.Gap.{Gap}
use Rattle.narrowed_netlists.specs.Gaps.{narrowed, FitsIn}
use Rattle.narrowed_netlists.specs.Masks.{AreNetGaps, AreMemoryGaps}
use Rattle.narrowed_netlists.specs.Copies.{AreMems, HaveCopies, HaveMemories, number_at}
use Rattle.narrowed_netlists.proofs.Law.{number_is}
use Rattle.narrowed_netlists.proofs.Lists.{slice_get-some, width_at-line}

-- the net that stands for a net of this width
pub copy_net : (whole b : Netlist) (registers memories : List Gap) (nets cores : List NetValue) (a w : ℕ) (net : NetValue) → HaveCopies whole b registers memories nets cores (length whole.lines) → HasWidth whole a w → slice_get nets a ≡ Some net
    → IsNetOfWidth b net w
copy_net whole b registers memories nets cores a w net h wide at =
    let line = width_at-line whole.lines a w wide in
    let has = h a line.0 (slice_get_within whole.lines a line.0 line.1) line.1 in
    let same : has.net ≡ net = same_Some _ _ (sym has.net_at ∙ at) in
    subst (λ (x : NetValue). IsNetOfWidth b x w) same (record { is_net = has.copy.net_is.is_net; has_width = has.copy.net_is.has_width ∙ line.2 })

-- the core of a register
pub copy_core : (whole b : Netlist) (registers memories : List Gap) (nets cores : List NetValue) (n : ℕ) (line : Line) (core : NetValue) (gap : Gap) → HaveCopies whole b registers memories nets cores (length whole.lines)
    → slice_get whole.lines n ≡ Some line → is_register line.equation ≡ true → slice_get cores n ≡ Some core → slice_get registers n ≡ Some gap → IsNetOfWidth b core (line.width - gap.zeros)
copy_core whole b registers memories nets cores n line core gap h at register core_at gap_at =
    let has = h n line (slice_get_within whole.lines n line at) at in
    let same : has.core ≡ core = same_Some _ _ (sym has.core_at ∙ core_at) in
    subst (λ (x : NetValue). IsNetOfWidth b x (line.width - gap.zeros)) same (has.copy.register gap gap_at register).core_is

pub fits_gap : (whole : Netlist) (masks : List ℕ) (registers : List Gap) (n : ℕ) (line : Line) (gap : Gap) → AreNetGaps whole masks registers (length whole.lines) → slice_get whole.lines n ≡ Some line → slice_get registers n ≡ Some gap
    → FitsIn gap line.width
fits_gap whole masks registers n line gap h at is =
    let has = h n line (slice_get_within whole.lines n line at) at in
    let same : has.gap ≡ gap = same_Some _ _ (sym has.is ∙ is) in
    subst (λ (g : Gap). FitsIn g line.width) same has.fits

pub not_reg : (e : Equation) → ((reset : Val) (next : ℕ) → e ≡ Reg reset next → ⊥) → is_register e ≡ false
not_reg (Reg reset next) h = absurd (h reset next refl)
not_reg _ h = refl

-- ---- places of lists

pub item_at : {X : Type 0} (xs : List X) (n : ℕ) (x : X) → n < length xs → x ≡ get_or xs n x → slice_get xs n ≡ Some x
item_at xs n x lt e = let some = slice_get-some xs n lt in some.1 ∙ ap Some (sym (e ∙ get_or_from_slice_get xs n some.0 x some.1))

-- ---- memories

pub fits_memory : (whole : Netlist) (gaps : List Gap) (m : ℕ) (memory : Memory) (gap : Gap) → AreMemoryGaps whole gaps (length whole.memories) → slice_get whole.memories m ≡ Some memory → slice_get gaps m ≡ Some gap → FitsIn gap memory.width
fits_memory whole gaps m memory gap h at is =
    let has = h m memory (slice_get_within whole.memories m memory at) at in
    let same : has.gap ≡ gap = same_Some _ _ (sym has.is ∙ is) in
    subst (λ (g : Gap). FitsIn g memory.width) same has.fits

pub gap_within : (whole : Netlist) (gaps : List Gap) (m : ℕ) (memory : Memory) → AreMemoryGaps whole gaps (length whole.memories) → slice_get whole.memories m ≡ Some memory → m < length gaps
gap_within whole gaps m memory h at = let has = h m memory (slice_get_within whole.memories m memory at) at in slice_get_within gaps m has.gap has.is

pub mem_within : (whole : Netlist) (gaps : List Gap) (mems : List MemValue) (m : ℕ) (memory : Memory) (gap : Gap) → AreMems whole gaps mems (length whole.memories) → slice_get whole.memories m ≡ Some memory → slice_get gaps m ≡ Some gap
    → m < length mems
mem_within whole gaps mems m memory gap h at gap_at = slice_get_within mems m (mem_of m (memory.width - gap.zeros) memory.address_bits) (h m memory gap (slice_get_within whole.memories m memory at) at gap_at)

pub mem_is : (whole : Netlist) (gaps : List Gap) (mems : List MemValue) (m : ℕ) (memory : Memory) (gap : Gap) (mem : MemValue) → AreMems whole gaps mems (length whole.memories) → slice_get whole.memories m ≡ Some memory
    → slice_get gaps m ≡ Some gap → slice_get mems m ≡ Some mem → mem ≡ mem_of m (memory.width - gap.zeros) memory.address_bits
mem_is whole gaps mems m memory gap mem h at gap_at mem_at = same_Some _ _ (sym mem_at ∙ h m memory gap (slice_get_within whole.memories m memory at) at gap_at)

pub narrow_mem : (whole b : Netlist) (gaps : List Gap) (mems : List MemValue) (m : ℕ) (memory : Memory) (gap : Gap) (mem : MemValue) → AreMems whole gaps mems (length whole.memories)
    → HaveMemories whole b gaps (length whole.memories) → slice_get whole.memories m ≡ Some memory → slice_get gaps m ≡ Some gap → slice_get mems m ≡ Some mem → IsMem b mem
narrow_mem whole b gaps mems m memory gap mem h narrow at gap_at mem_at =
    let has = narrow m memory (slice_get_within whole.memories m memory at) at in
    let same : has.gap ≡ gap = same_Some _ _ (sym has.gap_at ∙ gap_at) in
    let is = mem_is whole gaps mems m memory gap mem h at gap_at mem_at in
    subst (IsMem b) (sym is) (subst (λ (g : Gap). IsMem b (mem_of m (memory.width - g.zeros) memory.address_bits)) same has.is)

-- which memories wait for their write hangs on the memories alone
pub waits_same : (a b : Netlist) (m : ℕ) → b.memories ≡ a.memories → WaitsForWrite a m → WaitsForWrite b m
waits_same a b m e w = record { memory = w.memory; is = subst (λ (ms : List Memory). slice_get ms m ≡ Some w.memory) (sym e) w.is; waits = w.waits }

-- which registers wait hangs on the lines alone
pub clocked_same : (a b : Netlist) → b.lines ≡ a.lines → IsClocked a → IsClocked b
clocked_same a b e h n w = h n (record { line = w.line; is = subst (λ (ls : List Line). slice_get ls n ≡ Some w.line) e w.is; waits = w.waits })

-- a memory takes what the nets show that stand for those of its write
pub write_set : (b : Netlist) (nets : List NetValue) (gap : Gap) (count : ℕ) (memory : Memory) (write : MemWrite) (mem : MemValue) (enable address net word : NetValue) → mem ≡ mem_of count (memory.width - gap.zeros) memory.address_bits
    → slice_get nets write.enable ≡ Some enable → slice_get nets write.address ≡ Some address → slice_get nets write.word ≡ Some net
    → ((cycle : Cycle) → IsValuation b cycle → cycle.net word.number ≡ narrowed gap (cycle.net net.number))
    → ((run : Run) (cycles : ℕ) → IsRun b run cycles → (c : ℕ) → c + 1 < cycles → (place : ℕ) → place < 2 ^ mem.address_bits
    → run.cell (c + 1) mem.number place ≡ (if (run.net c enable.number == 1) && (run.net c address.number == place) then run.net c word.number else run.cell c mem.number place))
    → (run : Run) (cycles : ℕ) → IsRun b run cycles → (c : ℕ) → c + 1 < cycles → (place : ℕ) → place < 2 ^ memory.address_bits
    → run.cell (c + 1) count place
    ≡ (if (run.net c (number_at nets write.enable) == 1) && (run.net c (number_at nets write.address) == place) then narrowed gap (run.net c (number_at nets write.word)) else run.cell c count place)
write_set b nets gap count memory write mem enable address net word is enable_at address_at net_at value takes run cycles r c lt place below =
    let number : mem.number ≡ count = ap (λ (m : MemValue). m.number) is in
    let bits : mem.address_bits ≡ memory.address_bits = ap (λ (m : MemValue). m.address_bits) is in
    let taken = takes run cycles r c lt place (subst (λ t. place < 2 ^ t) (sym bits) below) in
    let here = subst (λ k. run.cell (c + 1) k place ≡ (if (run.net c enable.number == 1) && (run.net c address.number == place) then run.net c word.number else run.cell c k place)) number taken in
    here
    ∙ ap (λ x. if (run.net c enable.number == 1) && (run.net c address.number == place) then x else run.cell c count place) (value (cycle_of run c) (r.valuations c (omega (arith, lt))))
    ∙ ap (λ k. if (run.net c k == 1) && (run.net c address.number == place) then narrowed gap (run.net c net.number) else run.cell c count place) (sym (number_is nets write.enable enable enable_at))
    ∙ ap (λ k. if (run.net c (number_at nets write.enable) == 1) && (run.net c k == place) then narrowed gap (run.net c net.number) else run.cell c count place) (sym (number_is nets write.address address address_at))
    ∙ ap (λ k. if (run.net c (number_at nets write.enable) == 1) && (run.net c (number_at nets write.address) == place) then narrowed gap (run.net c k) else run.cell c count place) (sym (number_is nets write.word net net_at))

-- ---- outputs

-- another port has the driver that it had
pub other_driver : (a b : Netlist) (k n j : ℕ) → b ≡ with_driver a k n → (j ≡ k → ⊥) → driver_of b j ≡ driver_of a j
other_driver a b k n j e ne = ap (λ (x : Netlist). driver_of x j) e ∙ get_or-set_other a.drivers k j (Some n) None ne

-- a port that is no output has no driver
pub no_driver : (whole : Netlist) (k : ℕ) (port : PortLine) → IsModule whole → slice_get whole.ports k ≡ Some port → port.output ≡ false → driver_of whole k ≡ None
no_driver whole k port m at input = by_driver (driver_of whole k) refl where
  both : (t : Bool) → t ≡ true → t ≡ false → ⊥
  both t p q = cc

  by_driver : (o : Option ℕ) → driver_of whole k ≡ o → driver_of whole k ≡ None
  by_driver None e = e
  by_driver (Some n) e =
      (let driver = m.well_made.drivers k n e in
      let same : driver.port.port ≡ port = same_Some _ _ (sym driver.port.is ∙ at) in
      absurd (both port.output (subst (λ (p : PortLine). p.output ≡ true) same driver.port.output) input))
