-- Copies of nets, in longer netlists and longer lists.
use Rattle.std.proofs.Common.{◌≡◌, ℕ, zero, suc, ◌+◌, ◌-◌, ◌^◌, ◌<◌, ◌≤◌, ◌⊎◌, inl, inr, true, false, List, [], ◌∷◌, ◌++◌, length, slice_get, Option, Some, None, refl, sym, ap, subst, ◌∙◌, arith}
use Rattle.std.specs.Prelude.{IfSome}
use Rattle.std.proofs.lemmas.Bool.{cases_lt}
use Rattle.std.proofs.lemmas.Option.{same_Some, slice_get_within}
use Rattle.av_base.specs.declared.value.Val.{Val}
use Rattle.netlist.specs.declared.line.Line.{Line}
use Rattle.netlist.specs.declared.line.Equation.{Equation}
use Rattle.netlist.specs.declared.line.Equation.TheVariants.{Input, Reg}
use Rattle.netlist.specs.Nets.{NetValue}
use Rattle.netlist.specs.Netlists.{Netlist, IsWaiting, IsClocked, is_register, next_in}
use Rattle.netlist.specs.Runs.{Cycle, Run, IsRun, IsValuation, NetHolds, reset_of, value_of}
use Rattle.netlist.specs.Longer.{Extends}
use Rattle.net_parts.specs.Nets.{IsNetOfWidth}
use Rattle.net_parts.specs.Growth.{GrowsAlike}
use Rattle.net_parts.specs.Laws.{net_lasts, register_lasts}
use Rattle.narrowed_netlists.specs.declared.gaps.Gap.{Gap}
use Rattle.narrowed_netlists.specs.Gaps.{narrowed}
use Rattle.narrowed_netlists.specs.Masks.{AreNetGaps}
use Rattle.narrowed_netlists.specs.Copies.{number_at, Shows, IsCoreOf, HasCopy, HaveCopies, AreNets, IsOperatorCopy, IsRegisterCopy, IsRegisterCore, IsLaterCore, AreWaiting, HaveNext}
use Rattle.narrowed_netlists.proofs.Lists.{slice_get-front, slice_get-last, width_at-line}

-- ---- longer lists

pub split_last : {X : Type 0} (xs : List X) (y x : X) (n : ℕ) → slice_get (xs ++ y ∷ []) n ≡ Some x → (slice_get xs n ≡ Some x) ⊎ (n ≡ length xs) × (y ≡ x)
split_last [] y x zero e = inr (refl, same_Some _ _ e)
split_last [] y x (suc n) e = cc
split_last (a ∷ xs) y x zero e = inl e
split_last (a ∷ xs) y x (suc n) e = elim (split_last xs y x n e) [
  | inl there ↦ inl there
  | inr last ↦ (let k = last.0 in inr (omega (arith, k), last.1))
]

shows_fewer : (nets : List NetValue) (net : NetValue) (gaps : List Gap) (cycle seen : Cycle) → Shows (nets ++ net ∷ []) gaps cycle seen → Shows nets gaps cycle seen
shows_fewer nets net gaps cycle seen s = record { input = s.input; net = λ n x at. s.net n x (slice_get-front nets (net ∷ []) n x at); cell = s.cell }

-- ---- longer netlists

starts_later : (a b : Netlist) (o : Option ℕ) (gap : Gap) (core : NetValue) → Extends a b → IfSome o (λ x. (run : Run) (cycles : ℕ) → IsRun a run cycles → 0 < cycles → run.net 0 core.number ≡ narrowed gap x)
    → IfSome o (λ x. (run : Run) (cycles : ℕ) → IsRun b run cycles → 0 < cycles → run.net 0 core.number ≡ narrowed gap x)
starts_later a b None gap core e h = tt
starts_later a b (Some x) gap core e h = λ run cycles r lt. h run cycles (e.runs run cycles r) lt

core_later : (a b : Netlist) (gap : Gap) (w : ℕ) (equation : Equation) (net core : NetValue) → Extends a b → IsCoreOf a gap w equation net core → IsCoreOf b gap w equation net core
core_later a b gap w equation net core e h = record {
  core_is = net_lasts a b core (w - gap.zeros) e h.core_is;
  register = register_lasts a b core.number e h.register;
  wide = λ cycle v. h.wide cycle (e.valuations cycle v);
  starts = starts_later a b (reset_of equation) gap core e h.starts;
}

pub copy_later : (whole a b : Netlist) (registers memories : List Gap) (nets cores : List NetValue) (n : ℕ) (line : Line) → Extends a b → HasCopy whole a registers memories nets cores n line → HasCopy whole b registers memories nets cores n line
copy_later whole a b registers memories nets cores n line e h = record {
  net = h.net;
  net_at = h.net_at;
  core = h.core;
  core_at = h.core_at;
  copy = record {
    net_is = net_lasts a b h.net line.width e h.copy.net_is;
    holds = λ cycle v seen s. h.copy.holds cycle (e.valuations cycle v) seen s;
    input = h.copy.input;
    register = λ gap at register. core_later a b gap line.width line.equation h.net h.core e (h.copy.register gap at register);
  };
}

pub copies_later : (whole a b : Netlist) (registers memories : List Gap) (nets cores : List NetValue) (count : ℕ) → Extends a b → HaveCopies whole a registers memories nets cores count → HaveCopies whole b registers memories nets cores count
copies_later whole a b registers memories nets cores count e h n line lt at = copy_later whole a b registers memories nets cores n line e (h n line lt at)

copy_longer : (whole b : Netlist) (registers memories : List Gap) (nets cores : List NetValue) (net core : NetValue) (n : ℕ) (line : Line) → HasCopy whole b registers memories nets cores n line
    → HasCopy whole b registers memories (nets ++ net ∷ []) (cores ++ core ∷ []) n line
copy_longer whole b registers memories nets cores net core n line h = record {
  net = h.net;
  net_at = slice_get-front nets (net ∷ []) n h.net h.net_at;
  core = h.core;
  core_at = slice_get-front cores (core ∷ []) n h.core h.core_at;
  copy = record {
    net_is = h.copy.net_is;
    holds = λ cycle v seen s. h.copy.holds cycle v seen (shows_fewer nets net memories cycle seen s);
    input = h.copy.input;
    register = h.copy.register;
  };
}

-- the nets that stand for those below a place
pub nets_of : (whole b : Netlist) (registers memories : List Gap) (nets cores : List NetValue) (count : ℕ) → HaveCopies whole b registers memories nets cores count → AreNets whole b nets count
nets_of whole b registers memories nets cores count h n line lt at = (let has = h n line lt at in record { net = has.net; net_at = has.net_at; net_is = has.copy.net_is })

-- ---- one net more

copies_push : (whole old new : Netlist) (registers memories : List Gap) (nets cores : List NetValue) (net core : NetValue) (count : ℕ) (line : Line) → Extends old new → HaveCopies whole old registers memories nets cores count
    → slice_get whole.lines count ≡ Some line → HasCopy whole new registers memories (nets ++ net ∷ []) (cores ++ core ∷ []) count line
    → HaveCopies whole new registers memories (nets ++ net ∷ []) (cores ++ core ∷ []) (count + 1)
copies_push whole old new registers memories nets cores net core count line e before at has n other lt there = elim (cases_lt n count) [
  | inl less ↦ copy_longer whole new registers memories nets cores net core n other (copy_later whole old new registers memories nets cores n other e (before n other less there))
  | inr from ↦ (let same : n ≡ count = omega (arith, lt, from) in
      let same_line : line ≡ other = same_Some _ _ (sym at ∙ subst (λ k. slice_get whole.lines k ≡ Some other) same there) in
      subst (λ k. HasCopy whole new registers memories (nets ++ net ∷ []) (cores ++ core ∷ []) k other) (sym same)
      (subst (HasCopy whole new registers memories (nets ++ net ∷ []) (cores ++ core ∷ []) count) same_line has))
]

last_at : {X : Type 0} (xs : List X) (x : X) (n : ℕ) → length xs ≡ n → slice_get (xs ++ x ∷ []) n ≡ Some x
last_at xs x n e = subst (λ k. slice_get (xs ++ x ∷ []) k ≡ Some x) e (slice_get-last xs x)

not_both : (e : Equation) → is_register e ≡ true → is_register e ≡ false → ⊥
not_both e p q = let r : true ≡ false = sym p ∙ q in cc

pub push_net : (whole old new : Netlist) (registers memories : List Gap) (nets cores : List NetValue) (net : NetValue) (count : ℕ) (line : Line) → length nets ≡ count → length cores ≡ count
    → HaveCopies whole old registers memories nets cores count → slice_get whole.lines count ≡ Some line → IsOperatorCopy whole old new memories nets count line net
    → HaveCopies whole new registers memories (nets ++ net ∷ []) (cores ++ net ∷ []) (count + 1)
push_net whole old new registers memories nets cores net count line many many_cores before at o =
    let net_at = last_at nets net count many in
    copies_push whole old new registers memories nets cores net net count line o.grows.extends before at (record {
      net = net;
      net_at = net_at;
      core = net;
      core_at = last_at cores net count many_cores;
      copy = record {
        net_is = o.net_is;
        holds = λ cycle v seen s. o.holds cycle v seen (shows_fewer nets net memories cycle seen s) (s.net count net net_at);
        input = o.input;
        register = λ gap its register. absurd (not_both line.equation register o.plain);
      };
    })

-- a register's net keeps to its width
pub fits_in : (b : Netlist) (net : NetValue) (w : ℕ) (cycle : Cycle) → IsNetOfWidth b net w → IsValuation b cycle → cycle.net net.number < 2 ^ w
fits_in b net w cycle h v =
    let at = width_at-line b.lines net.number net.width h.is_net in
    subst (λ t. cycle.net net.number < 2 ^ t) (at.2 ∙ h.has_width) (v.nets net.number at.0 at.1).fits

register_holds : (lines : List Line) (cycle : Cycle) (n : ℕ) (line : Line) (reset : Val) (next : ℕ) → line.equation ≡ Reg reset next → cycle.net n < 2 ^ line.width → NetHolds lines cycle n line
register_holds lines cycle n line reset next is fits = record { fits = fits; value = subst (λ (e : Equation). IfSome (value_of lines cycle line.width e) (λ x. cycle.net n ≡ x)) (sym is) tt }

pub push_register : (whole old new : Netlist) (registers memories : List Gap) (nets cores : List NetValue) (net core : NetValue) (count : ℕ) (line : Line) (gap : Gap) (reset : Val) (next : ℕ)
    → length nets ≡ count → length cores ≡ count → HaveCopies whole old registers memories nets cores count → slice_get whole.lines count ≡ Some line → line.equation ≡ Reg reset next → slice_get registers count ≡ Some gap
    → IsRegisterCopy old new gap line.width (Reg reset next) net core → HaveCopies whole new registers memories (nets ++ net ∷ []) (cores ++ core ∷ []) (count + 1)
push_register whole old new registers memories nets cores net core count line gap reset next many many_cores before at is gap_at r =
    let net_at = last_at nets net count many in
    copies_push whole old new registers memories nets cores net core count line r.extends before at (record {
      net = net;
      net_at = net_at;
      core = core;
      core_at = last_at cores core count many_cores;
      copy = record {
        net_is = r.net_is;
        holds = λ cycle v seen s. register_holds whole.lines seen count line reset next is (subst (λ t. t < 2 ^ line.width) (sym (s.net count net net_at)) (fits_in new net line.width cycle r.net_is v));
        input = λ port input. absurd (no_input port (sym is ∙ input));
        register = λ other its register. (let same : gap ≡ other = same_Some _ _ (sym gap_at ∙ its) in
            subst (λ (g : Gap). IsCoreOf new g line.width line.equation net core) same (subst (λ (e : Equation). IsCoreOf new gap line.width e net core) (sym is) r.kept));
      };
    })
  where
    no_input : (port : ℕ) → Reg reset next ≡ Input port → ⊥
    no_input port e = cc

-- ---- registers that wait

pub wait_none : (whole b : Netlist) → IsClocked b → AreWaiting whole b [] 0 0
wait_none whole b h = record {
  all = λ n core low lt is. absurd (omega (arith, lt));
  only = λ number w. absurd (h number w);
  rising = λ i j one other lt is_one is_other. absurd (let e = is_other.core_at in nothing j other e);
} where
  nothing : (j : ℕ) (other : NetValue) → slice_get [] j ≡ Some other → ⊥
  nothing j other e = cc

core_fewer : (whole : Netlist) (cores : List NetValue) (last core : NetValue) (n : ℕ) → n < length cores → IsRegisterCore whole (cores ++ last ∷ []) n core → IsRegisterCore whole cores n core
core_fewer whole cores last core n lt h = record { line = h.line; at = h.at; register = h.register; core_at = there } where
  there : slice_get cores n ≡ Some core
  there = elim (split_last cores last core n h.core_at) [
    | inl e ↦ e
    | inr e ↦ (let k = e.0 in absurd (omega (arith, lt, k)))
  ]

core_longer : (whole : Netlist) (cores : List NetValue) (last core : NetValue) (n : ℕ) → IsRegisterCore whole cores n core → IsRegisterCore whole (cores ++ last ∷ []) n core
core_longer whole cores last core n h = record { line = h.line; at = h.at; register = h.register; core_at = slice_get-front cores (last ∷ []) n core h.core_at }

-- a place in a list with one item more
core_place : (whole : Netlist) (cores : List NetValue) (last core : NetValue) (n : ℕ) → IsRegisterCore whole (cores ++ last ∷ []) n core → (n < length cores) ⊎ (n ≡ length cores) × (last ≡ core)
core_place whole cores last core n h = elim (split_last cores last core n h.core_at) [
  | inl e ↦ inl (slice_get_within cores n core e)
  | inr e ↦ inr e
]

later_longer : (whole : Netlist) (cores : List NetValue) (last : NetValue) (count number : ℕ) → IsLaterCore whole cores 0 count number → IsLaterCore whole (cores ++ last ∷ []) 0 (count + 1) number
later_longer whole cores last count number h = record {
  place = h.place;
  from = h.from;
  below = (let lt = h.below in omega (arith, lt));
  core = h.core;
  is = core_longer whole cores last h.core h.place h.is;
  number_is = h.number_is;
}

pub wait_net : (whole old new : Netlist) (cores : List NetValue) (net : NetValue) (count : ℕ) (line : Line) → length cores ≡ count → slice_get whole.lines count ≡ Some line → is_register line.equation ≡ false → GrowsAlike old new
    → AreWaiting whole old cores 0 count → AreWaiting whole new (cores ++ net ∷ []) 0 (count + 1)
wait_net whole old new cores net count line many at plain grows before = record {
  all = λ n core low lt is. (let in_front = front n core is in grows.waits core.number (before.all n core low (omega (arith, in_front, many)) (core_fewer whole cores net core n in_front is)));
  only = λ number w. later_longer whole cores net count number (before.only number (grows.no_more_wait number w));
  rising = λ i j one other lt is_one is_other. before.rising i j one other lt (core_fewer whole cores net one i (front i one is_one) is_one) (core_fewer whole cores net other j (front j other is_other) is_other);
} where
  front : (n : ℕ) (core : NetValue) → IsRegisterCore whole (cores ++ net ∷ []) n core → n < length cores
  front n core is = elim (core_place whole cores net core n is) [
    | inl lt ↦ lt
    | inr e ↦ absurd (let same : is.line ≡ line = same_Some _ _ (sym (subst (λ k. slice_get whole.lines k ≡ Some is.line) (e.0 ∙ many) is.at) ∙ at) in
        not_both line.equation (subst (λ (l : Line). is_register l.equation ≡ true) same is.register) plain)
  ]

pub wait_register : (whole old new : Netlist) (cores : List NetValue) (net core : NetValue) (count : ℕ) (line : Line) (gap : Gap) (e : Equation) → length cores ≡ count → slice_get whole.lines count ≡ Some line
    → is_register line.equation ≡ true → ((n : ℕ) (one : NetValue) → IsRegisterCore whole cores n one → one.number < length old.lines) → IsRegisterCopy old new gap line.width e net core → AreWaiting whole old cores 0 count
    → AreWaiting whole new (cores ++ core ∷ []) 0 (count + 1)
wait_register whole old new cores net core count line gap e many at register below r before = record { all = all; only = only; rising = rising } where
  all : (n : ℕ) (one : NetValue) → 0 ≤ n → n < count + 1 → IsRegisterCore whole (cores ++ core ∷ []) n one → IsWaiting new one.number
  all n one low lt is = elim (core_place whole cores core one n is) [
    | inl less ↦ r.still_wait one.number (before.all n one low (omega (arith, less, many)) (core_fewer whole cores core one n less is))
    | inr same ↦ subst (λ (x : NetValue). IsWaiting new x.number) same.1 r.core_waits
  ]

  only : (number : ℕ) → IsWaiting new number → IsLaterCore whole (cores ++ core ∷ []) 0 (count + 1) number
  only number w = elim (r.newly number w) [
    | inl old_one ↦ later_longer whole cores core count number (before.only number old_one)
    | inr same ↦ record {
      place = count;
      from = omega arith;
      below = omega arith;
      core = core;
      is = record { line = line; at = at; register = register; core_at = last_at cores core count many };
      number_is = same;
    }
  ]

  rising : (i j : ℕ) (one other : NetValue) → i < j → IsRegisterCore whole (cores ++ core ∷ []) i one → IsRegisterCore whole (cores ++ core ∷ []) j other → one.number < other.number
  rising i j one other lt is_one is_other = elim (core_place whole cores core other j is_other) [
    | inl less ↦ before.rising i j one other lt (core_fewer whole cores core one i (omega (arith, lt, less)) is_one) (core_fewer whole cores core other j less is_other)
    | inr same ↦
        (let k = same.0 in
        let first = below i one (core_fewer whole cores core one i (omega (arith, lt, k)) is_one) in
        let new_one = r.core_is_new in
        subst (λ (x : NetValue). one.number < x.number) same.1 (omega (arith, first, new_one)))
  ]

-- the cores of registers are nets of the netlist
pub cores_within : (whole b : Netlist) (masks : List ℕ) (registers memories : List Gap) (nets cores : List NetValue) (count : ℕ) → length cores ≡ count → AreNetGaps whole masks registers (length whole.lines)
    → HaveCopies whole b registers memories nets cores count → (n : ℕ) (core : NetValue) → IsRegisterCore whole cores n core → core.number < length b.lines
cores_within whole b masks registers memories nets cores count many gaps h n core is =
    let lt = slice_get_within cores n core is.core_at in
    let has = h n is.line (omega (arith, lt, many)) is.at in
    let gap = gaps n is.line (slice_get_within whole.lines n is.line is.at) is.at in
    let same : has.core ≡ core = same_Some _ _ (sym has.core_at ∙ is.core_at) in
    let kept = has.copy.register gap.gap gap.is is.register in
    let line = width_at-line b.lines has.core.number has.core.width kept.core_is.is_net in
    subst (λ (x : NetValue). x.number < length b.lines) same (slice_get_within b.lines has.core.number line.0 line.1)

-- ---- next nets

-- no register is left behind the last
pub all_set : (whole b : Netlist) (cores : List NetValue) (count : ℕ) → AreWaiting whole b cores count count → IsClocked b
all_set whole b cores count h n w = (let it = h.only n w in let from = it.from in let below = it.below in omega (arith, from, below))

none_set : (whole b : Netlist) (cores : List NetValue) (n count : ℕ) (line : Line) → slice_get whole.lines n ≡ Some line → is_register line.equation ≡ false → (place : ℕ) (core : NetValue) → IsRegisterCore whole cores place core → place ≡ n → ⊥
none_set whole b cores n count line at plain place core is e =
    let same : is.line ≡ line = same_Some _ _ (sym (subst (λ k. slice_get whole.lines k ≡ Some is.line) e is.at) ∙ at) in
    not_both line.equation (subst (λ (l : Line). is_register l.equation ≡ true) same is.register) plain

pub past_net : (whole b : Netlist) (cores : List NetValue) (n count : ℕ) (line : Line) → slice_get whole.lines n ≡ Some line → is_register line.equation ≡ false → AreWaiting whole b cores n count → AreWaiting whole b cores (n + 1) count
past_net whole b cores n count line at plain h = record {
  all = λ m core low lt is. h.all m core (omega (arith, low)) lt is;
  only = λ number w. (let it = h.only number w in
      let from = it.from in
      let below = it.below in
      elim (cases_lt n it.place) [
        | inl more ↦ record { place = it.place; from = omega (arith, more); below = below; core = it.core; is = it.is; number_is = it.number_is }
        | inr same ↦ absurd (none_set whole b cores n count line at plain it.place it.core it.is (omega (arith, same, from)))
      ]);
  rising = h.rising;
}

-- a register got its next net
pub past_register : (whole a b : Netlist) (cores : List NetValue) (n count : ℕ) (core : NetValue) → IsRegisterCore whole cores n core → AreWaiting whole a cores n count
    → ((k : ℕ) → (k ≡ core.number → ⊥) → IsWaiting a k → IsWaiting b k) → ((k : ℕ) → IsWaiting b k → IsWaiting a k × (k ≡ core.number → ⊥)) → AreWaiting whole b cores (n + 1) count
past_register whole a b cores n count core is h still no_more = record {
  all = λ m one low lt other. (let less = h.rising n m core one (omega (arith, low)) is other in still one.number (λ e. omega (arith, less, e)) (h.all m one (omega (arith, low)) lt other));
  only = λ number w. (let was = no_more number w in
      let it = h.only number was.0 in
      let from = it.from in
      let below = it.below in
      elim (cases_lt n it.place) [
        | inl more ↦ record { place = it.place; from = omega (arith, more); below = below; core = it.core; is = it.is; number_is = it.number_is }
        | inr same ↦
            (let e : it.place ≡ n = omega (arith, same, from) in
            let one : it.core ≡ core = same_Some _ _ (sym (subst (λ k. slice_get cores k ≡ Some it.core) e it.is.core_at) ∙ is.core_at) in
            absurd (was.1 (it.number_is ∙ ap (λ (x : NetValue). x.number) one)))
      ]);
  rising = h.rising;
}

next_later : (a b : Netlist) (o : Option ℕ) (gap : Gap) (nets : List NetValue) (core : NetValue) → Extends a b
    → IfSome o (λ next. (run : Run) (cycles : ℕ) → IsRun a run cycles → (c : ℕ) → c + 1 < cycles → run.net (c + 1) core.number ≡ narrowed gap (run.net c (number_at nets next)))
    → IfSome o (λ next. (run : Run) (cycles : ℕ) → IsRun b run cycles → (c : ℕ) → c + 1 < cycles → run.net (c + 1) core.number ≡ narrowed gap (run.net c (number_at nets next)))
next_later a b None gap nets core e h = tt
next_later a b (Some next) gap nets core e h = λ run cycles r c lt. h run cycles (e.runs run cycles r) c lt

pub next_lasts : (whole a b : Netlist) (registers : List Gap) (nets cores : List NetValue) (count : ℕ) → Extends a b → HaveNext whole a registers nets cores count → HaveNext whole b registers nets cores count
next_lasts whole a b registers nets cores count e h n line core gap lt at core_at gap_at = next_later a b (next_in line.equation) gap nets core e (h n line core gap lt at core_at gap_at)

pub next_past_net : (whole b : Netlist) (registers : List Gap) (nets cores : List NetValue) (n : ℕ) (line : Line) → slice_get whole.lines n ≡ Some line → is_register line.equation ≡ false → HaveNext whole b registers nets cores n
    → HaveNext whole b registers nets cores (n + 1)
next_past_net whole b registers nets cores n line at plain h m other core gap lt there core_at gap_at = elim (cases_lt m n) [
  | inl less ↦ h m other core gap less there core_at gap_at
  | inr from ↦
      (let same : m ≡ n = omega (arith, lt, from) in
      let same_line : line ≡ other = same_Some _ _ (sym at ∙ subst (λ k. slice_get whole.lines k ≡ Some other) same there) in
      no_next other.equation (subst (λ (l : Line). is_register l.equation ≡ false) same_line plain) core gap)
] where
  no_next : (e : Equation) → is_register e ≡ false → (core : NetValue) (gap : Gap)
      → IfSome (next_in e) (λ next. (run : Run) (cycles : ℕ) → IsRun b run cycles → (c : ℕ) → c + 1 < cycles → run.net (c + 1) core.number ≡ narrowed gap (run.net c (number_at nets next)))
  no_next (Reg reset next) f core gap = cc
  no_next _ f core gap = tt

pub next_set : (whole a b : Netlist) (registers : List Gap) (nets cores : List NetValue) (n : ℕ) (line : Line) (reset : Val) (next : ℕ) (core : NetValue) (gap : Gap) → slice_get whole.lines n ≡ Some line
    → line.equation ≡ Reg reset next → slice_get cores n ≡ Some core → slice_get registers n ≡ Some gap → Extends a b → HaveNext whole a registers nets cores n
    → ((run : Run) (cycles : ℕ) → IsRun b run cycles → (c : ℕ) → c + 1 < cycles → run.net (c + 1) core.number ≡ narrowed gap (run.net c (number_at nets next))) → HaveNext whole b registers nets cores (n + 1)
next_set whole a b registers nets cores n line reset next core gap at is core_is gap_is e h step m other one its lt there one_at its_at = elim (cases_lt m n) [
  | inl less ↦ next_later a b (next_in other.equation) its nets one e (h m other one its less there one_at its_at)
  | inr from ↦
      (let same : m ≡ n = omega (arith, lt, from) in
      let same_line : line ≡ other = same_Some _ _ (sym at ∙ subst (λ k. slice_get whole.lines k ≡ Some other) same there) in
      let same_core : core ≡ one = same_Some _ _ (sym core_is ∙ subst (λ k. slice_get cores k ≡ Some one) same one_at) in
      let same_gap : gap ≡ its = same_Some _ _ (sym gap_is ∙ subst (λ k. slice_get registers k ≡ Some its) same its_at) in
      subst (λ (x : Equation). IfSome (next_in x) (λ j. (run : Run) (cycles : ℕ) → IsRun b run cycles → (c : ℕ) → c + 1 < cycles → run.net (c + 1) one.number ≡ narrowed its (run.net c (number_at nets j))))
      (sym is ∙ ap (λ (l : Line). l.equation) same_line)
      (subst (λ (g : Gap). (run : Run) (cycles : ℕ) → IsRun b run cycles → (c : ℕ) → c + 1 < cycles → run.net (c + 1) one.number ≡ narrowed g (run.net c (number_at nets next))) same_gap
      (subst (λ (x : NetValue). (run : Run) (cycles : ℕ) → IsRun b run cycles → (c : ℕ) → c + 1 < cycles → run.net (c + 1) x.number ≡ narrowed gap (run.net c (number_at nets next))) same_core step)))
]
