-- Through a wire each beat goes as it is: bursts may be longer below.
use Rattle.std.proofs.Common.{ℕ, zero, suc, ◌<◌, ◌≤◌, ◌≡◌, ◌+◌, ◌-◌, ◌^◌, Bool, true, false, List, [], ◌∷◌, ◌++◌, if◌then◌else◌, arith, refl, sym, ap, ap₂, subst, ◌∙◌, length, flat_map, nat_eq, Option, Some, None}
use Rattle.std.proofs.Math.Nat.{pow-le-pow_right}
use Rattle.std.proofs.Math.Path.{fun_ext}
use Rattle.histories.specs.History.{IsPrefix}
use Rattle.histories.specs.Laws.{prefix_refl}
use Rattle.memory_runs.specs.Views.{Shape, Signals, levels_at}
use Rattle.memory_runs.specs.Operations.{Beat}
use Rattle.memory_runs.specs.Commands.{burst_before, burst_after, is_of_reads}
use Rattle.memory_runs.specs.Packed.{Touch, goes_on}
use Rattle.memory_machines.specs.Link.{Target, Port, Marked, AreLegalAt, takes, taken_at, beat_operations}
use Rattle.memory_links.specs.Packs.{touch_in, touches_from, touches_of, beat_sizes, acting}
use Rattle.memory_links.specs.Selects.{EnablesFit}
use Rattle.memory_awake.specs.Wires.{IsWire, shape_with, with_bursts}
use Rattle.memory_awake.specs.Packed.{KeepsSizes}

burst_same : (bits : ℕ) (shape : Shape) (signals : Signals) (accepts : ℕ → Bool) (c : ℕ) → burst_before (shape_with bits shape) signals accepts c ≡ burst_before shape signals accepts c
burst_same bits shape signals accepts zero = refl
burst_same bits shape signals accepts (suc c) = ap (burst_after shape (levels_at signals c) (accepts c)) (burst_same bits shape signals accepts c)

more_beats : (x y : ℕ) → x ≤ y → 2 ^ x ≤ 2 ^ y
more_beats x y h = let some : 0 < 2 = omega arith in pow-le-pow_right some h

touches_same : (bits : ℕ) (target : Target) (shape : Shape) (last : Option Touch) (size : ℕ) (beats : List Beat) → touches_from target (shape_with bits shape) last size beats ≡ touches_from target shape last size beats
touches_same bits target shape last size [] = refl
touches_same bits target shape last size (b ∷ beats) =
    by_own (nat_eq (length (beat_operations target shape b)) 0) (goes_on last (touch_in target b)) (λ last size. touches_same bits target shape last size beats)
  where
    by_own : (x y : Bool) → ((last : Option Touch) (size : ℕ) → touches_from target (shape_with bits shape) last size beats ≡ touches_from target shape last size beats) →
        (if x then size ∷ touches_from target (shape_with bits shape) None 0 beats
        else if y then touches_from target (shape_with bits shape) (Some (touch_in target b)) (size + length (beat_operations target shape b)) beats
        else size ∷ touches_from target (shape_with bits shape) (Some (touch_in target b)) (length (beat_operations target shape b)) beats)
        ≡ (if x then size ∷ touches_from target shape None 0 beats
        else if y then touches_from target shape (Some (touch_in target b)) (size + length (beat_operations target shape b)) beats
        else size ∷ touches_from target shape (Some (touch_in target b)) (length (beat_operations target shape b)) beats)
    by_own true y rest = ap (λ l. size ∷ l) (rest None 0)
    by_own false true rest = rest (Some (touch_in target b)) (size + length (beat_operations target shape b))
    by_own false false rest = ap (λ l. size ∷ l) (rest (Some (touch_in target b)) (length (beat_operations target shape b)))

all_touches_same : (bits : ℕ) (target : Target) (shape : Shape) (ms : List Marked) → flat_map (touches_of target (shape_with bits shape)) ms ≡ flat_map (touches_of target shape) ms
all_touches_same bits target shape [] = refl
all_touches_same bits target shape (m ∷ ms) = ap₂ (λ x y. x ++ y) (by_kind (is_of_reads m.transfer.kind)) (all_touches_same bits target shape ms)
  where
    by_kind : (b : Bool) → (if b then touches_from target (shape_with bits shape) None 0 m.transfer.beats else beat_sizes target shape m) ≡ (if b then touches_from target shape None 0 m.transfer.beats else beat_sizes target shape m)
    by_kind true = touches_same bits target shape None 0 m.transfer.beats
    by_kind false = refl

module _ (bits : ℕ) (port : Port) where
  abbrev wide : Port
  wide = with_bursts bits port

  bursts : burst_before (shape_with bits port.shape) port.commands.signals (takes port) ≡ burst_before port.shape port.commands.signals (takes port)
  bursts = fun_ext (burst_same bits port.shape port.commands.signals (takes port))

  taken_same : (c : ℕ) → taken_at wide c ≡ taken_at port c
  taken_same c = rw bursts refl

  legal_wide : port.shape.burst_bits ≤ bits → (end : ℕ) → AreLegalAt port end → AreLegalAt wide end
  legal_wide longer end legal = record {
    legal = record {
      one_kind = legal.legal.one_kind;
      held = legal.legal.held;
      least = λ c h first free. legal.legal.least c h first (rw bursts at free);
      most = λ c h first free.
          let most = legal.legal.most c h first (rw bursts at free) in
          let more = more_beats (port.shape.burst_bits - 1) (bits - 1) (omega (arith, longer)) in
          omega (arith, most, more);
      finished = λ c h under. legal.legal.finished c h (rw bursts at under);
    };
    tag = legal.tag;
    more = legal.more;
    joined = λ c h shown. rw bursts (legal.joined c h shown);
  }

module _ (up down : Port) (w : IsWire up down) where
  abbrev bits_below : ℕ
  bits_below = down.shape.burst_bits

  pub wire_words : up.shape.word_bytes ≡ down.shape.word_bytes
  wire_words = ap (λ (p : Port). p.shape.word_bytes) w.same

  pub wire_legal : (end : ℕ) → AreLegalAt up end → AreLegalAt down end
  wire_legal end legal = subst (λ p. AreLegalAt p end) w.same (legal_wide bits_below up w.longer end legal)

  pub wire_enables : (end : ℕ) → EnablesFit up end → EnablesFit down end
  wire_enables end fit = subst (λ p. EnablesFit p end) w.same fit

  pub wire_sizes : (target : Target) (c : ℕ) → flat_map (beat_sizes target down.shape) (taken_at down c) ≡ flat_map (beat_sizes target up.shape) (taken_at up c)
  wire_sizes target c = ap (λ (p : Port). flat_map (beat_sizes target p.shape) (taken_at p c)) (sym w.same) ∙ ap (flat_map (beat_sizes target up.shape)) (taken_same bits_below up c)

  pub wire_touches : (target : Target) (c : ℕ) → flat_map (touches_of target down.shape) (taken_at down c) ≡ flat_map (touches_of target up.shape) (taken_at up c)
  wire_touches target c =
      ap (λ (p : Port). flat_map (touches_of target p.shape) (taken_at p c)) (sym w.same)
      ∙ ap (flat_map (touches_of target (shape_with bits_below up.shape))) (taken_same bits_below up c) ∙ all_touches_same bits_below target up.shape (taken_at up c)

  pub wire_keeps : (target : Target) (end : ℕ) → KeepsSizes target up down end
  wire_keeps target end c h = subst (λ l. IsPrefix (acting l) (acting (flat_map (beat_sizes target up.shape) (taken_at up c)))) (sym (wire_sizes target c)) (prefix_refl _)
