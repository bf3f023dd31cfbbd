-- The stages of a format lead from the source's side to the sink's symbols.
use Rattle.std.proofs.Common.{◌≡◌, ℕ, zero, suc, ◌+◌, ◌-◌, ◌*◌, ◌%◌, ◌<◌, ◌≤◌, Bool, true, false, not, ◌&&◌, ◌||◌, ◌==◌, nat_lt, Option, Some, None, refl, sym, subst, ap, ◌∙◌, arith, inl}
use Rattle.std.specs.Prelude.{IfSome, IsNone, IsTrue}
use Rattle.std.proofs.lemmas.Bool.{and_parts, or_right, eqb-true, eq-eqb, both_ways}
use Rattle.iface_roles.specs.declared.records.StreamPort.{StreamPort}
use Rattle.stream_runs.specs.View.{Side}
use Rattle.stream_machines.specs.Stage.{PassesAll}
use Rattle.stage_core.specs.Beats.{Widths}
use Rattle.st_format.specs.declared.reorder.Reorder.{Reorder}
use Rattle.st_format.specs.declared.clear.Clear.{Clear}
use Rattle.st_format.specs.declared.resize.Resize.{Resize}
use Rattle.st_format.specs.declared.resize.Resize.TheVariants.{Equal, Cut, Join, Slide}
use Rattle.st_format.specs.ResizeNets.{IsResizeOf, keeps_ready, resize_has, resize_passes, resize_nets}
use Rattle.st_format.specs.FormatNets.{Stages, changes, turns_first, clears, IsTurn, IsClearing, IsFormatOf, front_has, front_passes, IsSideOf, LeadsTo, Orders, Resizes, turned, formatted, TakesTo, OrderTakes, ResizeTakes, turn_gives, front_gives, nets_where, format_nets, order_nets}
use Rattle.st_format.proofs.Leading.{Leads, chain_leads, turn_leads, clear_leads, resize_leads}
use Rattle.st_format.proofs.PartsLemmas.{few_symbols}
use Rattle.st_format.proofs.SizesLemmas.{more_parts}
use Rattle.std.proofs.Math.Nat.{mod_self}

-- ---- which stages

stays : (high x : Bool) → (not high && x) ≡ false → (high || x) ≡ high
stays true x e = refl
stays false x e = e

turned_over : (high x : Bool) → (not high && x) ≡ true → (high || x) ≡ not high
turned_over true x e = absurd (cc)
turned_over false x e = e

-- a stage that may be there shows the ready that it sees
shows_always : {S : Type 0} (stage : Option S) → IfSome stage (λ s. Unit {0})
shows_always None = tt
shows_always (Some s) = tt

not_equal : (a b : ℕ) → ((a ≡ b) → ⊥) → not (a == b) ≡ true
not_equal a b apart = by_test (a == b) refl
  where
    by_test : (t : Bool) → (a == b) ≡ t → not t ≡ true
    by_test true e = absurd (apart (eqb-true a b e))
    by_test false e = refl

module _ (source : StreamPort) (sink : StreamPort) (format : Stages) (is : IsFormatOf source sink format) (some : 1 ≤ source.symbols) (sink_some : 1 ≤ sink.symbols) where
  abbrev high : Bool
  high = source.first_high || (sink.first_high || changes source sink)

  high_where : changes source sink ≡ true → high ≡ true
  high_where e = or_right source.first_high _ (or_right sink.first_high _ e)

  module _ (passes : ℕ → Bool) (side : Side) (at : IsSideOf source format side) (all : PassesAll passes side) where
    here : 0 < side.symbols
    here = let same = at.symbols in omega (arith, some, same)

    single : side.symbols ≡ side.symbols * 1
    single = omega arith

    -- the turn and clearing
    order_leads : (can : Type 0) → Leads (front_has format.first.first.stage format.first.second.stage) (front_passes format.first.first.stage format.first.second.stage) can passes side (turned source sink side) 0 0 0 0
    order_leads can =
        let turn = turn_leads can format.first.first.stage passes side (turns_first source sink) high source.symbols source.symbol_bits is.turn at.symbols at.bits here all at.latency
        (λ e. stays source.first_high (sink.first_high || changes source sink) e ∙ sym at.first_high) (λ e. turned_over source.first_high (sink.first_high || changes source sink) e ∙ ap not (sym at.first_high)) in
        let clear = clear_leads can format.first.second.stage passes (turned source sink side) (clears source sink) source.symbols source.symbol_bits is.clear at.symbols at.bits here all at.latency (λ e. high_where ((and_parts (changes source sink) _ ((and_parts (changes source sink && nat_lt 0 source.empty_bits) _ e).0)).0)) in
        chain_leads _ _ _ _ _ can passes side (turned source sink side) (turned source sink side) 1 0 0 0 0 0 0 0 0 0 turn clear at.latency here refl (inl single) (λ h. h)

    -- what changes how many symbols a beat has
    resize_part : Leads (resize_has format.second) (resize_passes format.second) (IsTrue (keeps_ready format.second)) passes (turned source sink side) (formatted source sink side) (side.symbols + sink.symbols) (sink.symbols - 1) 0 0
    resize_part =
        resize_leads format.second passes (turned source sink side) sink.symbols source.symbol_bits (subst (λ p. IsResizeOf side.symbols sink.symbols source.symbol_bits p format.second) (sym at.packets) (subst (λ n. IsResizeOf n sink.symbols source.symbol_bits source.packets format.second) (sym at.symbols) is.resize)) at.bits here sink_some all at.latency at.allowance
        (λ apart. high_where (not_equal source.symbols sink.symbols (λ same. apart (at.symbols ∙ same)))) at.channels

    pub format_orders : Orders format.first passes side (turned source sink side)
    format_orders =
        let order = order_leads (Unit {0}) in
        record {
          shape = order.shape;
          has = order.has_it;
          passed = order.passed tt;
          shows = (shows_always format.first.first.stage, shows_always format.first.second.stage);
          up_is = order.up_is;
          down_is = order.down_is;
          test = order.test;
          still = record {
            hold = (let none = order.hold in omega (arith, none));
            rest = (let none = order.rest in omega (arith, none));
            step = (let none = order.step in omega (arith, none));
            largest = (let none = order.largest in omega (arith, none));
            needs_ready = order.free;
          };
        }

    pub format_resizes : Resizes format.second passes (turned source sink side) (formatted source sink side)
    format_resizes =
        let resize = resize_part in
        record {
          shape = resize.shape;
          has = resize.has_it;
          passed = resize.passed;
          up_is = resize.up_is;
          down_is = resize.down_is;
          test = resize.test;
          free = resize.free;
          hold = resize.hold;
          rest = (let kept = resize.rest in omega (arith, kept, sink_some));
          step = (let few = resize.step in omega (arith, few));
          largest = (let most = resize.largest in omega (arith, most));
        }

    pub format_leads : LeadsTo format passes side (formatted source sink side)
    format_leads =
        let whole = chain_leads _ _ _ _ _ (IsTrue (keeps_ready format.second)) passes side (turned source sink side) (formatted source sink side) 1 _ _ _ _ _ _ _ _ 1 (order_leads (IsTrue (keeps_ready format.second))) resize_part at.latency here refl (inl single) (λ h. omega arith) in
        record { shape = whole.shape; has = whole.has_it; passed = whole.passed; up_is = whole.up_is; down_is = whole.down_is; test = whole.test; free = whole.free; hold = (let most = whole.hold in omega (arith, most)); rest = (let kept = whole.rest in omega (arith, kept, sink_some)) }

  -- ---- widths

  turn_takes : (stage : Option Reorder) (turns : Bool) (symbols bits word : ℕ) → IsTurn turns symbols bits stage → word ≡ bits * symbols → IfSome stage (λ s. word ≡ s.bits * s.symbols)
  turn_takes None turns symbols bits word is e = tt
  turn_takes (Some s) turns symbols bits word is e = e ∙ ap (λ b. b * symbols) (sym is.2) ∙ ap (λ n. s.bits * n) (sym is.1)

  clear_takes : (stage : Option Clear) (clears : Bool) (symbols bits word empty : ℕ) → IsClearing clears symbols bits stage → word ≡ bits * symbols → empty ≤ 8 → IfSome stage (λ s. (word ≡ s.bits * s.symbols) × (empty ≤ 8))
  clear_takes None clears symbols bits word empty is e few = tt
  clear_takes (Some s) clears symbols bits word empty is e few = (e ∙ ap (λ b. b * symbols) (sym is.2) ∙ ap (λ n. s.bits * n) (sym is.1), few)

  turn_same : (stage : Option Reorder) (widths : Widths) → turn_gives stage widths ≡ widths
  turn_same None widths = refl
  turn_same (Some s) widths = refl

  front_same : (turn : Option Reorder) (clear : Option Clear) (widths : Widths) → front_gives turn clear widths ≡ widths
  front_same turn None widths = turn_same turn widths
  front_same turn (Some s) widths = turn_same turn widths

  pub order_takes : (widths : Widths) → widths.word ≡ source.symbol_bits * source.symbols → widths.empty ≤ 8 → OrderTakes format.first widths
  order_takes widths word few =
      let turn = format.first.first.stage in
      let same : turn_gives turn widths ≡ widths = turn_same turn widths in
      record {
        takes = (
          turn_takes turn (turns_first source sink) source.symbols source.symbol_bits widths.word is.turn word,
          clear_takes format.first.second.stage (clears source sink) source.symbols source.symbol_bits (turn_gives turn widths).word (turn_gives turn widths).empty is.clear (ap (λ (w : Widths). w.word) same ∙ word) (subst (λ (w : Widths). w.empty ≤ 8) (sym same) few),
        );
        gives = front_same turn format.first.second.stage widths;
      }

  sized : (resize : Resize) (from into bits : ℕ) (packets : Bool) (widths : Widths) → IsResizeOf from into bits packets resize → widths.word ≡ bits * from → widths.empty ≤ 8 → ResizeTakes resize widths (bits * into)
  sized Equal from into bits packets widths is word few = record { takes = tt; gives = word ∙ ap (λ n. bits * n) is; channel = refl; error = refl; few = few }
  sized (Cut s) from into bits packets widths is word few = record {
    takes = (word ∙ ap (λ n. bits * n) (is.0 ∙ ap (λ n. n * s.sizes.parts) (sym is.1)) ∙ ap (λ b. b * (s.sizes.symbols * s.sizes.parts)) (sym is.2), few);
    gives = ap (λ b. b * s.sizes.symbols) is.2 ∙ ap (λ n. bits * n) is.1;
    channel = refl;
    error = refl;
    few = s.sizes.few_count;
  }
  sized (Join s) from into bits packets widths is word few = record {
    takes = (word ∙ ap (λ n. bits * n) (sym is.1) ∙ ap (λ b. b * s.sizes.symbols) (sym is.2), few);
    gives = ap (λ b. b * (s.sizes.symbols * s.sizes.parts)) is.2 ∙ ap (λ n. bits * (n * s.sizes.parts)) is.1 ∙ ap (λ n. bits * n) (sym is.0);
    channel = refl;
    error = refl;
    few = s.sizes.few_count;
  }
  sized (Slide s) from into bits packets widths is word few = record {
    takes = (word ∙ ap (λ n. bits * n) (sym is.2) ∙ ap (λ b. b * s.sizes.from) (sym is.4), few);
    gives = ap (λ b. b * s.sizes.into) is.4 ∙ ap (λ n. bits * n) is.3;
    channel = refl;
    error = refl;
    few = s.sizes.few_count;
  }

  pub resize_widths : (widths : Widths) → widths.word ≡ source.symbol_bits * source.symbols → widths.empty ≤ 8 → ResizeTakes format.second widths (source.symbol_bits * sink.symbols)
  resize_widths widths word few = sized format.second source.symbols sink.symbols source.symbol_bits source.packets widths is.resize word few

  pub format_takes : (widths : Widths) → widths.word ≡ source.symbol_bits * source.symbols → widths.empty ≤ 8 → TakesTo format widths (source.symbol_bits * sink.symbols)
  format_takes widths word few =
      let order = order_takes widths word few in
      let front = front_gives format.first.first.stage format.first.second.stage widths in
      let same : front ≡ widths = order.gives in
      let resize = resize_widths front (ap (λ (w : Widths). w.word) same ∙ word) (subst (λ (w : Widths). w.empty ≤ 8) (sym same) few) in
      record {
        front = order.takes;
        back = resize.takes;
        gives = resize.gives;
        channel = resize.channel ∙ ap (λ (w : Widths). w.channel) same;
        error = resize.error ∙ ap (λ (w : Widths). w.error) same;
        few = resize.few;
      }

  -- ---- nets

  few_of : (bits symbols : ℕ) → 1 ≤ bits → bits * symbols ≤ 128 → symbols ≤ 128
  few_of zero symbols h small = absurd (omega arith)
  few_of (suc bits) symbols h small = let spread : suc bits * symbols ≡ bits * symbols + symbols = omega arith in omega (arith, small, spread)

  at_most : {S : Type 0} (count : S → ℕ) (k : ℕ) → ((s : S) → count s ≤ k) → (stage : Option S) → nets_where count stage ≤ k
  at_most count k few None = omega arith
  at_most count k few (Some s) = few s

  no_nets : {S : Type 0} (count : S → ℕ) (stage : Option S) → IsNone stage → nets_where count stage ≡ 0
  no_nets count None none = refl
  no_nets count (Some s) none = absurd (cc)

  pub order_few : order_nets format.first ≤ 1050
  order_few =
      let a = at_most (λ (s : Reorder). 2 * s.symbols) 256 (λ s. (let few = few_of s.bits s.symbols s.some_bits s.small in omega (arith, few))) format.first.first.stage in
      let b = at_most (λ (s : Clear). 6 * s.symbols + 4) 772 (λ s. (let few = few_of s.bits s.symbols s.some_bits s.small in omega (arith, few))) format.first.second.stage in
      let c = at_most (λ (s : Reorder). 0) 0 (λ s. omega arith) format.first.first.stage in
      let d = at_most (λ (s : Clear). 0) 0 (λ s. omega arith) format.first.second.stage in
      omega (arith, a, b, c, d)

  nets_few : (resize : Resize) → resize_nets resize ≤ 2200
  nets_few Equal = omega arith
  nets_few (Cut s) = omega arith
  nets_few (Join s) = (let few = few_of s.sizes.symbols s.sizes.parts s.sizes.some (few_symbols s.sizes) in omega (arith, few))
  nets_few (Slide s) = (let few = few_of s.sizes.bits s.sizes.into s.sizes.some_bits s.sizes.into_fits in omega (arith, few))

  pub resize_few : resize_nets format.second ≤ 2200
  resize_few = nets_few format.second

  pub format_few : format_nets format ≤ 3250
  format_few = let order = order_few in let resize = resize_few in omega (arith, order, resize)

  no_turn : (stage : Option Reorder) (turns : Bool) (symbols bits : ℕ) → IsTurn turns symbols bits stage → turns ≡ false → IsNone stage
  no_turn None turns symbols bits is none = refl
  no_turn (Some s) turns symbols bits is none = absurd (both_ways _ none is.0)

  no_clear : (stage : Option Clear) (clears : Bool) (symbols bits : ℕ) → IsClearing clears symbols bits stage → clears ≡ false → IsNone stage
  no_clear None clears symbols bits is none = refl
  no_clear (Some s) clears symbols bits is none = absurd (both_ways _ none is.0)

  unchanged : source.symbols ≡ sink.symbols → changes source sink ≡ false
  unchanged same = ap not (eq-eqb source.symbols sink.symbols same)

  unturned : (one other x : Bool) → one ≡ other → x ≡ false → (not one && (other || x)) ≡ false
  unturned true other x e none = refl
  unturned false other x e none = rw (sym e, none) refl

  pub order_none : source.symbols ≡ sink.symbols → source.first_high ≡ sink.first_high → order_nets format.first ≡ 0
  order_none same high =
      let turn = no_turn format.first.first.stage (turns_first source sink) source.symbols source.symbol_bits is.turn (unturned source.first_high sink.first_high (changes source sink) high (unchanged same)) in
      let clear = no_clear format.first.second.stage (clears source sink) source.symbols source.symbol_bits is.clear (ap (λ t. t && nat_lt 0 source.empty_bits && nat_lt 1 sink.symbols) (unchanged same)) in
      let a = no_nets (λ (s : Reorder). 2 * s.symbols) format.first.first.stage turn in
      let b = no_nets (λ (s : Clear). 6 * s.symbols + 4) format.first.second.stage clear in
      let c = no_nets (λ (s : Reorder). 0) format.first.first.stage turn in
      let d = no_nets (λ (s : Clear). 0) format.first.second.stage clear in
      omega (arith, a, b, c, d)

  nets_none : (resize : Resize) (from into bits : ℕ) (packets : Bool) → IsResizeOf from into bits packets resize → from ≡ into → 1 ≤ from → resize_nets resize ≡ 0
  nets_none Equal from into bits packets is same some = refl
  nets_none (Cut s) from into bits packets is same some = absurd (let several = s.sizes.several in let size = is.0 in more_parts into s.sizes.parts several (subst (λ n. 1 ≤ n) same some) (sym same ∙ size))
  nets_none (Join s) from into bits packets is same some = absurd (let several = s.sizes.several in let size = is.0 in more_parts from s.sizes.parts several some (same ∙ size))
  nets_none (Slide s) from into bits packets is same some = absurd (is.0 (subst (λ n. from % n ≡ 0) same (mod_self from)))

  pub resize_none : source.symbols ≡ sink.symbols → resize_nets format.second ≡ 0
  resize_none same = nets_none format.second source.symbols sink.symbols source.symbol_bits source.packets is.resize same some

  pub format_none : source.symbols ≡ sink.symbols → source.first_high ≡ sink.first_high → format_nets format ≡ 0
  format_none same high = let order = order_none same high in let resize = resize_none same in omega (arith, order, resize)
