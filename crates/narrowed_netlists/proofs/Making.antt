-- Nets that were made in steps, and what stands for the operands of an equation.
use Rattle.std.proofs.Common.{◌≡◌, ℕ, ◌+◌, ◌-◌, ◌^◌, ◌<◌, false, List, length, slice_get, Some, sym, ap, subst, ◌∙◌, arith}
use Rattle.std.specs.Prelude.{Result, Ok, Err, IfOk, IfSome}
use Rattle.std.proofs.lemmas.Option.{same_Some, slice_get_within}
use Rattle.av_base.specs.declared.value.Val.{Val}
use Rattle.netlist.specs.declared.fault.NetFault.{NetFault}
use Rattle.netlist.specs.declared.line.Line.{Line}
use Rattle.netlist.specs.declared.line.Memory.{Memory}
use Rattle.netlist.specs.declared.line.Equation.{Equation}
use Rattle.netlist.specs.declared.line.Equation.TheVariants.{Input, Constant, Read}
use Rattle.netlist.specs.Nets.{NetValue, MemValue, mem_of}
use Rattle.netlist.specs.Netlists.{Netlist, IsOperand, AreOperands, appended, is_register, line_of}
use Rattle.netlist.specs.Runs.{Cycle, IsValuation, value_of}
use Rattle.netlist.specs.Longer.{Extends, GrowsByOne}
use Rattle.netlist.specs.Makers.{IsMade}
use Rattle.net_parts.specs.Nets.{IsNetOfWidth}
use Rattle.net_parts.specs.Growth.{GrowsAlike}
use Rattle.net_parts.specs.Laws.{alike_once, alike_twice}
use Rattle.narrowed_netlists.specs.declared.gaps.Gap.{Gap}
use Rattle.narrowed_netlists.specs.Gaps.{widened, FitsIn}
use Rattle.narrowed_netlists.specs.Copies.{IsNetThat, Shows, AreNets, IsOperatorCopy}
use Rattle.narrowed_netlists.proofs.Copying.{fits_in}
use Rattle.narrowed_netlists.proofs.Lists.{width_at-line}

-- ---- one net

pub made_that : (old new : Netlist) (outcome : Result NetValue NetFault) (width : ℕ) (equation : Equation) (value : Cycle → ℕ) (w : ℕ) (f : Cycle → ℕ) → IsMade old new outcome width equation value → width ≡ w
    → ((cycle : Cycle) → IsValuation new cycle → value cycle ≡ f cycle) → IfOk outcome (λ n. IsNetThat old new n w f)
made_that old new (Ok n) width equation value w f m e h = record {
  net_is = record { is_net = m.net.0; has_width = m.net.1 ∙ e };
  is = λ cycle v. (m.value cycle v).1 ∙ h cycle v;
  grows = alike_once old new m.extends m.grows;
}
made_that old new (Err fault) width equation value w f m e h = tt

pub that_later : (old middle new : Netlist) (outcome : Result NetValue NetFault) (w : ℕ) (f : Cycle → ℕ) → GrowsAlike old middle → IfOk outcome (λ n. IsNetThat middle new n w f) → IfOk outcome (λ n. IsNetThat old new n w f)
that_later old middle new (Ok n) w f g h = record { net_is = h.net_is; is = h.is; grows = alike_twice old middle new g h.grows }
that_later old middle new (Err fault) w f g h = tt

-- ---- an equation's net

-- what a maker gives is the copy of a net of this equation
pub operator_made : (whole old new : Netlist) (gaps : List Gap) (nets : List NetValue) (n : ℕ) (line : Line) (e f : Equation) (outcome : Result NetValue NetFault) (width : ℕ) (value : Cycle → ℕ) → IsMade old new outcome width f value
    → line.equation ≡ e → is_register e ≡ false → ((port : ℕ) → e ≡ Input port → ⊥) → ((value : Val) → e ≡ Constant value → f ≡ Constant value) → width ≡ line.width
    → ((cycle seen : Cycle) → IsValuation old cycle → Shows nets gaps cycle seen → IfSome (value_of whole.lines seen line.width e) (λ x. value cycle ≡ x)) → IfOk outcome (λ net. IsOperatorCopy whole old new gaps nets n line net)
operator_made whole old new gaps nets n line e f (Err fault) width value m is plain no_input constant wide h = tt
operator_made whole old new gaps nets n line e f (Ok net) width value m is plain no_input constant wide h = record {
  net_is = record { is_net = m.net.0; has_width = m.net.1 ∙ wide };
  holds = λ cycle v seen s same. record {
    fits = subst (λ w. seen.net n < 2 ^ w) wide (subst (λ t. t < 2 ^ width) (sym same) (m.value cycle v).0);
    value = subst (λ (x : Equation). IfSome (value_of whole.lines seen line.width x) (λ y. seen.net n ≡ y)) (sym is)
        (subst (λ t. IfSome (value_of whole.lines seen line.width e) (λ y. t ≡ y)) (sym (same ∙ (m.value cycle v).1)) (h cycle seen (m.extends.valuations cycle v) s));
  };
  input = λ port input. absurd (no_input port (sym is ∙ input));
  same = λ port input. absurd (no_input port (sym is ∙ input));
  constant = λ its its_is. record {
    appended = subst (λ w. new ≡ appended old (line_of w (Constant its))) wide
        (subst (λ (x : Equation). new ≡ appended old (line_of width x)) (constant its (sym is ∙ its_is)) m.line.0);
    number = ap (λ (x : NetValue). x.number) m.line.1;
  };
  plain = subst (λ (x : Equation). is_register x ≡ false) (sym is) plain;
  grows = alike_once old new m.extends m.grows;
}

-- what is read of a memory, with zeros in the memory's gap
pub read_made : (whole old middle new : Netlist) (gaps : List Gap) (nets : List NetValue) (n m a : ℕ) (line : Line) (memory : Memory) (gap : Gap) (mem : MemValue) (address word : NetValue) (outcome : Result NetValue NetFault)
    → line.equation ≡ Read m a → memory.width ≡ line.width → FitsIn gap memory.width → slice_get gaps m ≡ Some gap → slice_get nets a ≡ Some address → mem ≡ mem_of m (memory.width - gap.zeros) memory.address_bits
    → Extends old middle → GrowsByOne old middle → word.width ≡ mem.width
    → ((cycle : Cycle) → IsValuation middle cycle → (cycle.net word.number < 2 ^ mem.width) × (cycle.net word.number ≡ cycle.cell mem.number (cycle.net address.number)))
    → IfOk outcome (λ net. IsNetThat middle new net (word.width + gap.zeros) (λ cycle. widened gap (cycle.net word.number))) → IfOk outcome (λ net. IsOperatorCopy whole old new gaps nets n line net)
read_made whole old middle new gaps nets n m a line memory gap mem address word (Err fault) is wide fits gap_at address_at mem_is extends grows word_wide reads h = tt
read_made whole old middle new gaps nets n m a line memory gap mem address word (Ok net) is wide fits gap_at address_at mem_is extends grows word_wide reads h = record {
  net_is = net_is;
  holds = λ cycle v seen shows same. record {
    fits = subst (λ t. t < 2 ^ line.width) (sym same) (fits_in new net line.width cycle net_is v);
    value = subst (λ (x : Equation). IfSome (value_of whole.lines seen line.width x) (λ y. seen.net n ≡ y)) (sym is) (value cycle v seen shows same);
  };
  input = λ port e. absurd (no_input port (sym is ∙ e));
  same = λ port e. absurd (no_input port (sym is ∙ e));
  constant = λ value e. absurd (no_constant value (sym is ∙ e));
  plain = ap is_register is;
  grows = alike_twice old middle new (alike_once old middle extends grows) h.grows;
} where
  net_is : IsNetOfWidth new net line.width
  net_is = record {
    is_net = h.net_is.is_net;
    has_width = (let one = h.net_is.has_width in
        let other : mem.width ≡ memory.width - gap.zeros = ap (λ (x : MemValue). x.width) mem_is in
        let some_bit = fits.some_bit in omega (arith, one, word_wide, other, wide, some_bit));
  }

  value : (cycle : Cycle) → IsValuation new cycle → (seen : Cycle) → Shows nets gaps cycle seen → seen.net n ≡ cycle.net net.number → seen.net n ≡ seen.cell m (seen.net a)
  value cycle v seen shows same =
      same ∙ h.is cycle v ∙ ap (widened gap) ((reads cycle (h.grows.extends.valuations cycle v)).1) ∙ ap (λ (x : MemValue). widened gap (cycle.cell x.number (cycle.net address.number))) mem_is
      ∙ sym (shows.cell m gap gap_at (cycle.net address.number)) ∙ ap (seen.cell m) (sym (shows.net a address address_at))

  no_input : (port : ℕ) → Read m a ≡ Input port → ⊥
  no_input port e = cc

  no_constant : (value : Val) → Read m a ≡ Constant value → ⊥
  no_constant value e = cc

-- ---- operands

operand_has : (whole old : Netlist) (nets : List NetValue) (n a w : ℕ) → AreNets whole old nets n → IsOperand whole.lines n a w → (net : NetValue) × (slice_get nets a ≡ Some net) × IsNetOfWidth old net w
operand_has whole old nets n a w h o =
    let at = width_at-line whole.lines a w o.width in
    let has = h a at.0 o.below at.1 in
    (has.net, has.net_at, record { is_net = has.net_is.is_net; has_width = has.net_is.has_width ∙ at.2 })

pub operand_within : (whole old : Netlist) (nets : List NetValue) (n a w : ℕ) → AreNets whole old nets n → IsOperand whole.lines n a w → a < length nets
operand_within whole old nets n a w h o = let has = operand_has whole old nets n a w h o in slice_get_within nets a has.0 has.1

pub operand_net : (whole old : Netlist) (nets : List NetValue) (n a w : ℕ) (net : NetValue) → AreNets whole old nets n → IsOperand whole.lines n a w → slice_get nets a ≡ Some net → IsNetOfWidth old net w
operand_net whole old nets n a w net h o at =
    let has = operand_has whole old nets n a w h o in
    let same : has.0 ≡ net = same_Some _ _ (sym has.1 ∙ at) in
    subst (λ (x : NetValue). IsNetOfWidth old x w) same has.2

-- the widths of two operands
pub operands_alike : (whole old : Netlist) (nets : List NetValue) (n a c w : ℕ) (one other : NetValue) → AreNets whole old nets n → AreOperands whole.lines n a c w → slice_get nets a ≡ Some one → slice_get nets c ≡ Some other → one.width ≡ other.width
operands_alike whole old nets n a c w one other h o at there = (operand_net whole old nets n a w one h o.left at).has_width ∙ sym (operand_net whole old nets n c w other h o.right there).has_width

-- a fact of each line, where there is an outcome
pub under_ok : {T E : Type 0} (L : Line → Type 0) (P : Line → T → Type 0) (o : Result T E) → ((line : Line) → L line → IfOk o (P line)) → IfOk o (λ x. (line : Line) → L line → P line x)
under_ok L P (Ok x) h = h
under_ok L P (Err e) h = tt
