-- The nets of a beat with its empty symbols set to 0 are the machine that clears them.
use Rattle.std.proofs.Common.{◌≡◌, ℕ, suc, ◌+◌, ◌-◌, ◌*◌, ◌/◌, ◌%◌, ◌^◌, ◌<◌, ◌≤◌, Bool, true, false, ◌==◌, nat_eq, nat_lt, if◌then◌else◌, refl, sym, subst, ap, ◌∙◌, arith}
use Rattle.std.proofs.lemmas.Bool.{ltb-true, ltb-false, le-ltb, ne_eqb}
use Rattle.std.proofs.Math.Nat.{div-eq_of_lt}
use Rattle.std.proofs.Math.Pow.{shr_mod, pow_mono}
use Rattle.netlist.specs.Nets.{NetValue}
use Rattle.netlist.specs.Netlists.{Netlist}
use Rattle.netlist.specs.Runs.{Cycle, Run, Always, cycle_of, IsEndlessRun, IsValuation}
use Rattle.stream_runs.specs.View.{EndView, Side, Beat}
use Rattle.stream_machines.specs.Stage.{Shape, KeepsStageLaw, PassesReady, PassesAll, ready_cycles}
use Rattle.stream_machines.specs.Wires.{wire_shape, wire_run, IsClearRun}
use Rattle.stream_machines.specs.Words.{cleared_beat}
use Rattle.stage_core.specs.declared.beat.BeatNets.{BeatNets}
use Rattle.net_parts.specs.Nets.{IsNetOfWidth}
use Rattle.stage_core.specs.Beats.{view_of, beat_in, ShowSame}
use Rattle.net_parts.specs.Growth.{AddsNets}
use Rattle.stage_core.specs.Law.{KeepsShape, ReadyPasses}
use Rattle.st_format.specs.ClearNets.{IsClearShape, ClearsBeat, without_low, without_empty, cleared}
use Rattle.st_format.proofs.WidenLemmas.{chosen_by}

-- ---- the nets

pub low_some : (x high zeros y low k width : ℕ) → (w : ℕ) → low < width → x < 2 ^ width → k ≡ low → high ≡ x / 2 ^ low % 2 ^ (w - 1 - low + 1) → zeros ≡ 0 → y ≡ high * 2 ^ k + zeros → w ≡ width → y ≡ without_low low x
low_some x high zeros y low k width w inside fits at cut none is wide =
    let sum : width - low + low ≡ width = omega (arith, inside) in
    let below : x < 2 ^ (width - low + low) = subst (λ n. x < 2 ^ n) (sym sum) fits in
    let bits : w - 1 - low + 1 ≡ width - low = omega (arith, inside, wide) in
    let top : high ≡ x / 2 ^ low = cut ∙ ap (λ n. x / 2 ^ low % 2 ^ n) bits ∙ shr_mod {n = x} (width - low) low below in
    let bare : high * 2 ^ k + zeros ≡ high * 2 ^ k = omega (arith, none) in
    is ∙ bare ∙ ap (λ n. high * 2 ^ n) at ∙ ap (λ n. n * 2 ^ low) top

pub low_all : (x low : ℕ) → x < 2 ^ low → 0 ≡ without_low low x
low_all x low fits = let none : x / 2 ^ low ≡ 0 = div-eq_of_lt {n = x} {m = 2 ^ low} fits in let bare : 0 ≡ 0 * 2 ^ low = omega arith in bare ∙ sym (ap (λ n. n * 2 ^ low) none)

pub more_cleared : (count number empty more cleared shorter o e : ℕ) → number ≡ count → more ≡ (if nat_lt number empty then 1 else 0) → shorter ≡ o → e ≡ (if more == 0 then cleared else shorter) → e ≡ (if nat_lt count empty then o else cleared)
more_cleared count number empty more cleared shorter o e at is shorts chosen =
    chosen_by (nat_lt count empty) more cleared shorter e (is ∙ ap (λ n. if nat_lt n empty then 1 else 0) at) chosen ∙ ap (λ n. if nat_lt count empty then n else cleared) shorts

-- no number of so many bits is above the largest one
pub none_above : (count empty limit cleared shorter : ℕ) → count + 1 ≡ limit → empty < limit → cleared ≡ (if nat_lt count empty then shorter else cleared)
none_above count empty limit cleared shorter largest fits = ap (λ t. if t then shorter else cleared) (sym (le-ltb count empty (omega (arith, largest, fits))))

-- and of 8 bits or more the largest one is 255 at least
pub not_largest : (bits number : ℕ) → number < 128 → 8 ≤ bits → nat_eq (number + 1) (2 ^ bits) ≡ false
not_largest bits number small many = let large : 2 ^ 8 ≤ 2 ^ bits = pow_mono many in ne_eqb (number + 1) (2 ^ bits) (λ same. omega (arith, small, large, same))

-- so many of the lowest symbols are cleared, where they are empty
pub record AreCleared (bits done : ℕ) (word empty made : NetValue) (old new : Netlist) : Type 0 where
  pub adds : AddsNets (6 * done) old new
  pub net : IsNetOfWidth new made word.width
  pub value : Always new (λ cycle. cycle.net made.number ≡ without_empty bits done (cycle.net empty.number) (cycle.net word.number))

pub none_cleared : (bits empty word : ℕ) → word ≡ without_empty bits 0 empty word
none_cleared bits empty word =
    let none : bits * (0 - (0 - empty)) ≡ 0 = (let zeroed : 0 - (0 - empty) ≡ 0 = omega arith in ap (λ n. bits * n) zeroed ∙ omega arith) in
    let whole : word ≡ word / 1 * 1 = omega arith in
    whole ∙ sym (ap (λ n. without_low n word) none)

pub one_cleared : (bits done empty word before after : ℕ) → before ≡ without_empty bits done empty word → after ≡ (if nat_lt done empty then without_low (bits * done + bits) word else before) → after ≡ without_empty bits (done + 1) empty word
one_cleared bits done empty word before after is chosen = chosen ∙ by_test (nat_lt done empty) refl
  where
    by_test : (t : Bool) → nat_lt done empty ≡ t → (if t then without_low (bits * done + bits) word else before) ≡ without_empty bits (done + 1) empty word
    by_test true e =
        let more : done < empty = ltb-true done empty e in
        let all : done + 1 - (done + 1 - empty) ≡ suc done = omega (arith, more) in
        let sum : bits * suc done ≡ bits * done + bits = omega arith in
        ap (λ n. without_low n word) (sym (ap (λ n. bits * n) all ∙ sum))
    by_test false e =
        let few : empty ≤ done = ltb-false done empty e in
        let same : done - (done - empty) ≡ done + 1 - (done + 1 - empty) = omega (arith, few) in
        is ∙ ap (λ n. without_low (bits * n) word) same

-- ---- the machine

-- the cleared beat is that of the machine
pub clears_alike : (side : Side) (symbols bits : ℕ) (beat : Beat) → side.symbols ≡ symbols → side.symbol_bits ≡ bits → cleared symbols bits beat ≡ cleared_beat side beat
clears_alike side symbols bits beat same same_bits =
    ap (λ n. record beat { word = without_low n beat.word })
    (ap (λ b. b * (symbols - (symbols - (if beat.last == 1 then beat.empty else 0)))) (sym same_bits)
    ∙ ap (λ s. side.symbol_bits * (s - (s - (if beat.last == 1 then beat.empty else 0)))) (sym same)
    ∙ ap (λ n. side.symbol_bits * (side.symbols - n)) (by_last (beat.last == 1)))
  where
    by_last : (t : Bool) → side.symbols - (if t then beat.empty else 0) ≡ (if t then side.symbols - beat.empty else side.symbols)
    by_last true = refl
    by_last false = omega arith

module _ (shape : Shape) (symbols bits : ℕ) (from to : BeatNets) (ready up : NetValue) (netlist : Netlist) (run : Run) (p : IsClearShape symbols bits shape) (f : ClearsBeat symbols bits from to netlist) (b : up ≡ ready) (endless : IsEndlessRun netlist run) where
  is_clear_run : IsClearRun shape.up (view_of run from up) (view_of run to ready)
  is_clear_run = record {
    asks = λ c. ap (λ (n : NetValue). run.net c n.number) b;
    valid = λ c. ap (λ (n : NetValue). run.net c n.number) f.valid;
    shows = λ c. f.shows (cycle_of run c) ((endless (c + 1)).valuations c (omega arith)) ∙ clears_alike shape.up symbols bits (beat_in (cycle_of run c) from) p.symbols_are p.bits_are;
  }

  pub clear_between :
      ((passes : ℕ → Bool) (side : Side) (up down : EndView) → IsClearRun side up down → side.first_high ≡ true → 0 < side.symbols → PassesAll passes side → KeepsStageLaw (wire_shape passes side side side.pace.latency false) (wire_run side up down)) →
      KeepsShape shape (view_of run from up) (view_of run to ready)
  clear_between law = record {
    rank = ready_cycles shape.up.pace.latency (view_of run from up);
    keeps = subst (λ (s : Shape). KeepsStageLaw s (wire_run shape.up (view_of run from up) (view_of run to ready))) (sym p.is) (law shape.passes shape.up _ _ is_clear_run p.first_high p.some p.passes);
  }

  pub clear_ready : ((passes : ℕ → Bool) (side : Side) (up down : EndView) → IsClearRun side up down → PassesReady (wire_shape passes side side side.pace.latency false) (wire_run side up down)) →
      ReadyPasses shape (view_of run from up) (view_of run to ready)
  clear_ready law = subst (λ (s : Shape). ReadyPasses s (view_of run from up) (view_of run to ready)) (sym p.is) (law shape.passes shape.up _ _ is_clear_run)

pub clears_ignores : (symbols bits : ℕ) (from to : BeatNets) (netlist : Netlist) (one other : Cycle) → ClearsBeat symbols bits from to netlist → IsValuation netlist one → IsValuation netlist other → ShowSame from one other → ShowSame to one other
clears_ignores symbols bits from to netlist one other f v w same = record {
  valid = ap (λ (n : NetValue). one.net n.number) f.valid ∙ same.valid ∙ sym (ap (λ (n : NetValue). other.net n.number) f.valid);
  beat = f.shows one v ∙ ap (cleared symbols bits) same.beat ∙ sym (f.shows other w);
}
