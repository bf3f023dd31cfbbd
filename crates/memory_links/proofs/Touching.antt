-- A cutter at wide words: what it shows below lies in one of them.
use Rattle.std.proofs.Common.{ℕ, ◌<◌, ◌≤◌, ◌≡◌, ◌+◌, ◌-◌, ◌*◌, ◌/◌, ◌%◌, ◌^◌, Bool, true, false, arith, refl, sym, ap, ap₂, subst, ◌∙◌, add-mul, one-mul, mul_assoc, mul-le-mul_right, mul-one}
use Rattle.std.proofs.lemmas.Bool.{ltb-true}
use Rattle.std.proofs.lemmas.Nat.{mod-mul-add}
use Rattle.std.proofs.Math.Nat.{mod-lt, mod-eq-sub-div-mul, div-mul-le_self, one-le-pow}
use Rattle.histories.specs.History.{is_raised}
use Rattle.memory_runs.specs.Views.{Shape, levels_at}
use Rattle.memory_runs.specs.Commands.{shows}
use Rattle.memory_machines.specs.Link.{Port}
use Rattle.memory_machines.specs.Machines.{Raw, raw_at, ShowsFitBeats}
use Rattle.memory_links.specs.Selects.{offset_in, EnablesFit}
use Rattle.memory_links.specs.Cutters.{CutterState, is_sending, Rest, beats_of, whole_read}
use Rattle.memory_links.proofs.CutRuns.{some_read, beats_are}
use Rattle.memory_links.specs.Cutters.{RunsAsCutter, IsCutPlan, IsTouchPlan, reach_words, read_burst_of}
use Rattle.memory_links.specs.Gathers.{LiesInWord, LieInWords}
use Rattle.memory_links.proofs.CutShown.{sent_beat, first_beat, sent_for, shows_first}

-- where a narrow word stands in its wide word
pub place_of : (x narrow many : ℕ) → 0 < narrow → 0 < many → (x - x % narrow) % (many * narrow) ≡ (x / narrow % many) * narrow
place_of x narrow many some more =
    let k = x / narrow in
    let multiple : x - x % narrow ≡ k * narrow = (let low = mod-eq-sub-div-mul x narrow in let fits = div-mul-le_self x narrow in omega (arith, low, fits)) in
    let r = k % many in
    let few : r < many = mod-lt k more in
    let parts : k ≡ k / many * many + r = (let low = mod-eq-sub-div-mul k many in let fits = div-mul-le_self k many in omega (arith, low, fits)) in
    let spread : (k / many * many + r) * narrow ≡ k / many * (many * narrow) + r * narrow = add-mul (k / many * many) r narrow ∙ ap (λ n. n + r * narrow) (mul_assoc (k / many) many narrow) in
    let step : (r + 1) * narrow ≤ many * narrow = mul-le-mul_right narrow (omega (arith, few)) in
    let last : (r + 1) * narrow ≡ r * narrow + narrow = add-mul r 1 narrow ∙ ap (λ n. r * narrow + n) (one-mul narrow) in
    ap (λ a. a % (many * narrow)) multiple ∙ ap (λ n. (n * narrow) % (many * narrow)) parts ∙ ap (λ n. n % (many * narrow)) spread ∙ mod-mul-add (k / many) (many * narrow) (r * narrow) (omega (arith, step, last, some))

-- ---- the plan

pub touches_are_cuts : (many : ℕ) (up down : Shape) → IsTouchPlan many up down → IsCutPlan (reach_words up.word_bytes many) 1 up down
touches_are_cuts many up down plan = record {
  some = plan.some;
  same = plan.same;
  bytes = plan.bytes;
  least = omega arith;
  most = one-le-pow (down.burst_bits - 1) 2 (omega arith);
  goes = λ a. (let few = mod-lt (a / up.word_bytes) plan.more in omega (arith, few));
  allowed = λ a. (let most = plan.most in omega (arith, most));
}

-- ---- what it shows

module _ (many : ℕ) (up down : Port) (state : CutterState) (plan : IsTouchPlan many up.shape down.shape) (run : RunsAsCutter (reach_words up.shape.word_bytes many) 1 up down state) (end : ℕ)
    (fit : ShowsFitBeats up end) (enables : EnablesFit up end) (wide : Shape) (whole : wide.word_bytes ≡ many * up.shape.word_bytes) where
  abbrev b : ℕ
  b = up.shape.word_bytes

  abbrev cuts : IsCutPlan (reach_words b many) 1 up.shape down.shape
  cuts = touches_are_cuts many up.shape down.shape plan

  -- a burst that goes to the end of its wide word at most
  in_word : (address n : ℕ) → n ≤ reach_words b many address → offset_in down.shape wide address + n * b ≤ wide.word_bytes
  in_word address n low =
      let same : address * down.shape.unit_bytes ≡ address = ap (λ n. address * n) plan.bytes ∙ mul-one address in
      let place : offset_in down.shape wide address ≡ (address / b % many) * b =
      ap₂ (λ x w. (x - x % w) % wide.word_bytes) same plan.same ∙ ap (λ n. (address - address % b) % n) whole ∙ place_of address b many plan.some plan.more in
      let few = mod-lt (address / b) plan.more in
      let room : address / b % many + n ≤ many = omega (arith, few, low) in
      let sum = add-mul (address / b % many) n b in
      let most : (address / b % many + n) * b ≤ many * b = mul-le-mul_right b room in
      omega (arith, place, sum, most, whole)

  lies_by : (raw : Raw) → (rest : Rest) → raw ≡ read_burst_of (reach_words b many) rest → 0 < rest.left → rest.command.levels.enables < 2 ^ b → LiesInWord down.shape wide raw.levels
  lies_by raw rest e some few = subst (λ (r : Raw). LiesInWord down.shape wide r.levels) (sym e) (record {
    few = subst (λ n. rest.command.levels.enables < 2 ^ n) (sym plan.same) few;
    some = (let size = beats_are (reach_words b many rest.address) rest.left some in let least = cuts.goes rest.address in omega (arith, size, least, some));
    within = subst (λ n. offset_in down.shape wide rest.address + beats_of (reach_words b many rest.address) rest.left * n ≤ wide.word_bytes) (sym plan.same)
        (in_word rest.address (beats_of (reach_words b many rest.address) rest.left) (let size = beats_are (reach_words b many rest.address) rest.left some in omega (arith, size)));
    single = λ w. cc;
  })

  pub lie_below : LieInWords down wide end
  lie_below c h shown = by_sends (is_sending state c) refl
    where
      by_sends : (s : Bool) → is_sending state c ≡ s → LiesInWord down.shape wide (levels_at down.commands.signals c)
      by_sends true e =
          let there = sent_for (reach_words b many) 1 up down state cuts run end fit c e in
          let is = there.1 in
          let before = is.before in
          let few = enables there.0 (omega (arith, before, h)) is.shown in
          lies_by (raw_at down c) (state.rest c) (sent_beat (reach_words b many) 1 up down state cuts run end fit c h e shown) (ltb-true 0 (state.rest c).left e) (subst (λ (r : Raw). r.levels.enables < 2 ^ b) (sym is.command) few)
      by_sends false e = by_write (is_raised (up.commands.write c)) refl
        where
          above : shows up.commands.signals c ≡ true
          above = sym (shows_first (reach_words b many) 1 up down state cuts run end fit c e) ∙ shown

          by_write : (w : Bool) → is_raised (up.commands.write c) ≡ w → LiesInWord down.shape wide (levels_at down.commands.signals c)
          by_write false f =
              lies_by (raw_at down c) (whole_read up.shape (raw_at up c)) (first_beat (reach_words b many) 1 up down state cuts run end fit c h e shown false f) (some_read up end fit c h above f) (enables c h above)
          by_write true f =
              let beat = first_beat (reach_words b many) 1 up down state cuts run end fit c h e shown true f in
              let count : down.commands.count c ≡ 1 = ap (λ (r : Raw). r.levels.count) beat in
              let lanes : down.commands.enables c ≡ up.commands.enables c = ap (λ (r : Raw). r.levels.enables) beat in
              let few = enables c h above in
              record {
                few = subst (λ n. down.commands.enables c < 2 ^ n) (sym plan.same) (omega (arith, lanes, few));
                some = omega (arith, count);
                within = subst (λ n. offset_in down.shape wide (down.commands.address c) + down.commands.count c * n ≤ wide.word_bytes) (sym plan.same)
                    (in_word (down.commands.address c) (down.commands.count c) (let least = cuts.goes (down.commands.address c) in omega (arith, count, least)));
                single = λ w. count;
              }
