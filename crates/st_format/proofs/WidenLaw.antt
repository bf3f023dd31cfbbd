-- The nets of a stage that joins beats are the machine that does.
use Rattle.std.proofs.Common.{◌≡◌, ℕ, zero, suc, ◌+◌, ◌-◌, ◌*◌, ◌/◌, ◌%◌, ◌^◌, ◌<◌, ◌≤◌, Bool, true, false, not, ◌&&◌, ◌||◌, ◌==◌, if◌then◌else◌, bit_or, IsTrue, IsFalse, List, [], ◌∷◌, ◌++◌, length, refl, sym, subst, ap, ◌∙◌, arith, length-append}
use Rattle.std.proofs.lemmas.Bool.{and_parts, and_from, or_right, eqb-true, eq-eqb, both_ways}
use Rattle.std.proofs.Math.Nat.{mod-eq_of_lt, mul-le-mul_left, add-mod_right, div-one, mod-one}
use Rattle.std.proofs.Math.Pow.{mod-mod-pow}
use Rattle.std.proofs.lemmas.Nat.{shl-shr, mod-pow-add, shr_high, mod-mul-add}
use Rattle.netlist.specs.Nets.{NetValue}
use Rattle.netlist.specs.Netlists.{Netlist}
use Rattle.netlist.specs.Runs.{Cycle, Run, cycle_of, IsEndlessRun, IsValuation}
use Rattle.stream_runs.specs.View.{EndView, Side, Beat, beat_at, is_high, is_transfer}
use Rattle.stream_runs.specs.Source.{IsLegalSource}
use Rattle.stream_machines.specs.Stage.{Shape, KeepsStageLaw, PassesReady, PassesAll}
use Rattle.stream_machines.specs.Parts.{plain_run, IsWidenRun, IsJoined, completes, is_none, first_of_row, joined_errors, widen_shape, HoldsWords, of_symbols}
use Rattle.stream_machines.specs.Words.{joined_word, joined_beat}
use Rattle.stage_core.specs.declared.beat.BeatNets.{BeatNets}
use Rattle.stage_core.specs.Beats.{view_of, ShowSame}
use Rattle.stage_core.specs.Groups.{Shown, shown_in, nothing_shown, IsOfBeat}
use Rattle.stage_core.specs.Law.{KeepsShape, ReadyPasses}
use Rattle.stage_core.specs.BeatLaws.{same_state, show_same, all_same, shown_same}
use Rattle.st_format.specs.declared.sizes.Sizes.{Sizes}
use Rattle.st_format.specs.declared.widen.Widen.{Widen}
use Rattle.st_format.specs.declared.widen.WidenKept.{WidenKept}
use Rattle.st_format.specs.WidenNets.{IsWidenShape, WidenForward, WidenBackward, laid, joined_by, held_of, is_full, missing_in, shown_joined, shown_filled, shown_next}
use Rattle.st_format.proofs.WidenLemmas.{with_word}
use Rattle.st_format.proofs.PartsLemmas.{parts_sum}
use Rattle.st_format.proofs.JoinedLemmas.{joined_below, joined_up, joined_behind, laid_joined, in_last_place, errors_more}

-- what the registers hold of these beats
abbrev pub first_in : List Beat → ℕ
first_in [] = 0
first_in (beat ∷ beats) = beat.first

-- as many places as are held with packets, and else just those of the beats
abbrev pub places_of : Widen → List Beat → ℕ
places_of stage beats = if stage.packets then stage.sizes.parts - 1 else length beats

abbrev pub state_of : Widen → Side → List Beat → Shown
state_of stage narrow beats =
    record {
      valid = if is_none beats then 0 else 1;
      beat = record { word = joined_word narrow (places_of stage beats) beats; channel = 0; error = joined_errors beats; first = first_in beats; last = 0; empty = narrow.symbols * length beats };
    }

-- what counts of the word that is held: with packets all of it where something is gathered, and without as many symbols as are
abbrev pub word_of : Widen → Shown → ℕ
word_of stage held = if stage.packets then (if held.valid == 1 then held.beat.word else 0) else held.beat.word % 2 ^ (stage.sizes.bits * held.beat.empty)

abbrev pub gathered_in : Widen → Shown → Shown
gathered_in stage held = record { valid = held.valid; beat = record held.beat { word = word_of stage held } }

-- nothing, whatever the word is
cleared_is : (stage : Widen) (narrow : Side) (word : ℕ) → gathered_in stage (with_word nothing_shown word) ≡ state_of stage narrow []
cleared_is stage narrow word = shown_same (gathered_in stage (with_word nothing_shown word)) (state_of stage narrow []) refl (by_packets stage.packets) refl refl refl refl (omega arith)
  where
    none : word % 2 ^ (stage.sizes.bits * 0) ≡ 0
    none = (let bare : stage.sizes.bits * 0 ≡ 0 = omega arith in ap (λ n. word % 2 ^ n) bare) ∙ mod-one word

    by_packets : (p : Bool) → (if p then (if 0 == 1 then word else 0) else word % 2 ^ (stage.sizes.bits * 0)) ≡ 0
    by_packets true = refl
    by_packets false = none

-- where something is gathered it is shown
marked : (narrow : Side) (places : ℕ) (beats : List Beat) → (if (if is_none beats then 0 else 1) == 1 then joined_word narrow places beats else 0) ≡ joined_word narrow places beats
marked narrow places [] = refl
marked narrow places (x ∷ xs) = refl

first_joined : (beats : List Beat) (latest : Beat) → (if (if is_none beats then 0 else 1) == 1 then first_in beats else latest.first) ≡ first_of_row beats latest
first_joined [] latest = refl
first_joined (x ∷ xs) latest = refl

first_filled : (beats : List Beat) (latest : Beat) → first_of_row beats latest ≡ first_in (beats ++ latest ∷ [])
first_filled [] latest = refl
first_filled (x ∷ xs) latest = refl

some_filled : (beats : List Beat) (latest : Beat) → is_none (beats ++ latest ∷ []) ≡ false
some_filled [] latest = refl
some_filled (x ∷ xs) latest = refl

pub one_if : (t : Bool) → ((if t then 1 else 0) == 1) ≡ t
one_if true = refl
one_if false = refl

-- the lowest bits of a row of words
low_row : (held word bits wide : ℕ) → word < 2 ^ wide → (held * 2 ^ wide + word) % 2 ^ (bits + wide) ≡ held % 2 ^ bits * 2 ^ wide + word
low_row held word bits wide fits =
    mod-pow-add (held * 2 ^ wide + word) bits wide
    ∙ ap (λ n. n % 2 ^ bits * 2 ^ wide + (held * 2 ^ wide + word) % 2 ^ wide) (shr_high held wide word fits)
    ∙ ap (λ n. held % 2 ^ bits * 2 ^ wide + n) (mod-mul-add held (2 ^ wide) word fits)

-- cut twice is cut to the fewer bits
cut_twice : (word few many : ℕ) → few ≤ many → word % 2 ^ many % 2 ^ few ≡ word % 2 ^ few
cut_twice word few many h = (let split : many ≡ (many - few) + few = omega (arith, h) in ap (λ n. word % 2 ^ n % 2 ^ few) split) ∙ mod-mod-pow word (many - few) few

-- empty of what is joined, where it fits
missing_few : (limit all held empty : ℕ) → held ≤ all → all < limit → empty < limit → (all - held) + empty < limit → ((all + (limit - held)) % limit + empty % limit) % limit ≡ (all - held) + empty
missing_few limit all held empty within fits small room =
    let round : all + (limit - held) ≡ (all - held) + limit = omega (arith, within, fits) in
    let left : (all + (limit - held)) % limit ≡ all - held = ap (λ n. n % limit) round ∙ add-mod_right (all - held) limit ∙ mod-eq_of_lt (omega (arith, fits)) in
    ap (λ n. (n + empty % limit) % limit) left ∙ ap (λ n. ((all - held) + n) % limit) (mod-eq_of_lt small) ∙ mod-eq_of_lt room

module _ (stage : Widen) (side : Side) (symbols_are : side.symbols ≡ stage.sizes.symbols) (bits_are : side.symbol_bits ≡ stage.sizes.bits) where
  abbrev sizes : Sizes
  sizes = stage.sizes

  abbrev wide : Side
  wide = of_symbols side (sizes.symbols * sizes.parts)

  abbrev pub held_by : List Beat → Shown
  held_by beats = state_of stage side beats

  some_symbols : 1 ≤ side.symbols
  some_symbols = let some = sizes.some in omega (arith, symbols_are, some)

  narrow_bits : side.symbol_bits * side.symbols ≡ sizes.bits * sizes.symbols
  narrow_bits = ap (λ b. b * side.symbols) bits_are ∙ ap (λ s. sizes.bits * s) symbols_are

  -- the words of beats in one place more
  raised : (beats : List Beat) → length beats < sizes.parts → joined_word side (sizes.parts - 1) beats * 2 ^ (sizes.bits * sizes.symbols) ≡ joined_word side sizes.parts beats
  raised beats few =
      let several = sizes.several in
      let last : suc (sizes.parts - 1) ≡ sizes.parts = omega (arith, several) in
      ap (λ n. joined_word side (sizes.parts - 1) beats * 2 ^ n) (sym narrow_bits)
      ∙ sym (joined_up side sizes.parts some_symbols (sizes.parts - 1) beats (omega (arith, few)))
      ∙ ap (λ n. joined_word side n beats) last

  -- with these beats gathered, the joined word in its places
  word_laid : (beats : List Beat) (x : Beat) → length beats < sizes.parts → x.word < 2 ^ (sizes.bits * sizes.symbols) →
      laid sizes.bits sizes.symbols sizes.parts (joined_word side (sizes.parts - 1) beats * 2 ^ (sizes.bits * sizes.symbols)) x.word (side.symbols * length beats) sizes.parts ≡ joined_word side sizes.parts (beats ++ x ∷ [])
  word_laid beats x few fits =
      let fit : x.word < 2 ^ (side.symbol_bits * side.symbols) = subst (λ n. x.word < 2 ^ n) (sym narrow_bits) fits in
      ap (λ h. laid sizes.bits sizes.symbols sizes.parts h x.word (side.symbols * length beats) sizes.parts) (raised beats few)
      ∙ ap (λ b. laid b sizes.symbols sizes.parts (joined_word side sizes.parts beats) x.word (side.symbols * length beats) sizes.parts) (sym bits_are)
      ∙ ap (λ s. laid side.symbol_bits s sizes.parts (joined_word side sizes.parts beats) x.word (side.symbols * length beats) sizes.parts) (sym symbols_are)
      ∙ laid_joined side sizes.parts some_symbols sizes.parts (joined_word side sizes.parts beats) (length beats) beats x (omega arith) (omega arith) few fit (mod-eq_of_lt (joined_below side sizes.parts some_symbols sizes.parts beats))

  -- and behind the others
  word_behind : (beats : List Beat) (x : Beat) → x.word < 2 ^ (sizes.bits * sizes.symbols) → joined_word side (length beats) beats * 2 ^ (sizes.bits * sizes.symbols) + x.word ≡ joined_word side (length beats + 1) (beats ++ x ∷ [])
  word_behind beats x fits =
      let next : suc (length beats) ≡ length beats + 1 = omega arith in
      ap (λ n. joined_word side (length beats) beats * 2 ^ n + x.word) (sym narrow_bits)
      ∙ joined_behind side sizes.parts some_symbols (length beats) beats x refl (subst (λ n. x.word < 2 ^ n) (sym narrow_bits) fits)
      ∙ ap (λ n. joined_word side n (beats ++ x ∷ [])) next

  -- without packets a word is whole only in the last place
  pub word_joined : (beats : List Beat) (x : Beat) → length beats < sizes.parts → x.word < 2 ^ (sizes.bits * sizes.symbols) → (stage.packets ≡ false → length beats + 1 ≡ sizes.parts) →
      joined_by stage (if is_none beats then 0 else 1) (joined_word side (places_of stage beats) beats) x.word (side.symbols * length beats) ≡ joined_word side sizes.parts (beats ++ x ∷ [])
  word_joined beats x few fits place = by_packets stage.packets place
    where
      by_packets : (p : Bool) → (p ≡ false → length beats + 1 ≡ sizes.parts) →
          (if p then laid sizes.bits sizes.symbols sizes.parts ((if (if is_none beats then 0 else 1) == 1 then joined_word side (if p then sizes.parts - 1 else length beats) beats else 0) * 2 ^ (sizes.bits * sizes.symbols)) x.word (side.symbols * length beats) sizes.parts
          else joined_word side (if p then sizes.parts - 1 else length beats) beats * 2 ^ (sizes.bits * sizes.symbols) + x.word) ≡ joined_word side sizes.parts (beats ++ x ∷ [])
      by_packets true at =
          ap (λ h. laid sizes.bits sizes.symbols sizes.parts (h * 2 ^ (sizes.bits * sizes.symbols)) x.word (side.symbols * length beats) sizes.parts) (marked side (sizes.parts - 1) beats) ∙ word_laid beats x few fits
      by_packets false at = word_behind beats x fits ∙ ap (λ n. joined_word side n (beats ++ x ∷ [])) (at refl)

  -- the bits of all parts but one
  rest_bits : side.symbol_bits * (side.symbols * (sizes.parts - 1)) ≡ sizes.bits * (sizes.symbols * (sizes.parts - 1))
  rest_bits = ap (λ b. b * (side.symbols * (sizes.parts - 1))) bits_are ∙ ap (λ s. sizes.bits * (s * (sizes.parts - 1))) symbols_are

  -- the bits of so many words
  row_bits : (n : ℕ) → side.symbol_bits * (side.symbols * n) ≡ sizes.bits * (side.symbols * n)
  row_bits n = ap (λ b. b * (side.symbols * n)) bits_are

  -- what counts of what is held then is the word of all these beats
  word_held : (beats : List Beat) (x : Beat) (some held gathered : ℕ) → gathered ≡ side.symbols * length beats → length beats + 1 < sizes.parts → x.word < 2 ^ (sizes.bits * sizes.symbols) →
      (if stage.packets then (if some == 1 then held else 0) else held % 2 ^ (sizes.bits * gathered)) ≡ joined_word side (places_of stage beats) beats →
      (if stage.packets then held_of stage (joined_by stage some held x.word gathered) else held_of stage (joined_by stage some held x.word gathered) % 2 ^ (sizes.bits * (side.symbols * length (beats ++ x ∷ [])))) ≡ joined_word side (places_of stage (beats ++ x ∷ [])) (beats ++ x ∷ [])
  word_held beats x some held gathered counted few fits is = by_packets stage.packets is
    where
      count : length (beats ++ x ∷ []) ≡ length beats + 1
      count = length-append beats (x ∷ [])

      in_places : joined_word side (sizes.parts - 1) (beats ++ x ∷ []) < 2 ^ (sizes.bits * (sizes.symbols * (sizes.parts - 1)))
      in_places = subst (λ n. joined_word side (sizes.parts - 1) (beats ++ x ∷ []) < 2 ^ n) rest_bits (joined_below side sizes.parts some_symbols (sizes.parts - 1) (beats ++ x ∷ []))

      -- the words before it stand above the coming one, whatever is above them
      row_more : (held * 2 ^ (sizes.bits * sizes.symbols) + x.word) % 2 ^ (sizes.bits * (side.symbols * (length beats + 1))) ≡ held % 2 ^ (sizes.bits * gathered) * 2 ^ (sizes.bits * sizes.symbols) + x.word
      row_more =
          let sum : sizes.bits * (side.symbols * (length beats + 1)) ≡ sizes.bits * gathered + sizes.bits * sizes.symbols =
          (let spread : sizes.bits * (side.symbols * (length beats + 1)) ≡ sizes.bits * (side.symbols * length beats) + sizes.bits * side.symbols = omega arith in spread)
          ∙ ap (λ n. sizes.bits * n + sizes.bits * side.symbols) (sym counted) ∙ ap (λ s. sizes.bits * gathered + sizes.bits * s) symbols_are in
          ap (λ n. (held * 2 ^ (sizes.bits * sizes.symbols) + x.word) % 2 ^ n) sum ∙ low_row held x.word (sizes.bits * gathered) (sizes.bits * sizes.symbols) fits

      shorter : sizes.bits * (side.symbols * (length beats + 1)) ≤ sizes.bits * (sizes.symbols * (sizes.parts - 1))
      shorter =
          let symbols : side.symbols * (length beats + 1) ≤ side.symbols * (sizes.parts - 1) = mul-le-mul_left side.symbols (omega (arith, few)) in
          let bits : sizes.bits * (side.symbols * (length beats + 1)) ≤ sizes.bits * (side.symbols * (sizes.parts - 1)) = mul-le-mul_left sizes.bits symbols in
          let same : sizes.bits * (side.symbols * (sizes.parts - 1)) ≡ sizes.bits * (sizes.symbols * (sizes.parts - 1)) = ap (λ s. sizes.bits * (s * (sizes.parts - 1))) symbols_are in
          omega (arith, bits, same)

      by_packets : (p : Bool) → (if p then (if some == 1 then held else 0) else held % 2 ^ (sizes.bits * gathered)) ≡ joined_word side (if p then sizes.parts - 1 else length beats) beats →
          (if p then (if p then laid sizes.bits sizes.symbols sizes.parts ((if some == 1 then held else 0) * 2 ^ (sizes.bits * sizes.symbols)) x.word gathered sizes.parts
          else held * 2 ^ (sizes.bits * sizes.symbols) + x.word) / 2 ^ (if p then sizes.bits * sizes.symbols else 0) % 2 ^ (sizes.bits * (sizes.symbols * (sizes.parts - 1)))
          else (if p then laid sizes.bits sizes.symbols sizes.parts ((if some == 1 then held else 0) * 2 ^ (sizes.bits * sizes.symbols)) x.word gathered sizes.parts
          else held * 2 ^ (sizes.bits * sizes.symbols) + x.word) / 2 ^ (if p then sizes.bits * sizes.symbols else 0) % 2 ^ (sizes.bits * (sizes.symbols * (sizes.parts - 1))) % 2 ^ (sizes.bits * (side.symbols * length (beats ++ x ∷ []))))
          ≡ joined_word side (if p then sizes.parts - 1 else length (beats ++ x ∷ [])) (beats ++ x ∷ [])
      by_packets true is =
          let low : length (beats ++ x ∷ []) < sizes.parts = omega (arith, count, few) in
          ap (λ h. laid sizes.bits sizes.symbols sizes.parts (h * 2 ^ (sizes.bits * sizes.symbols)) x.word gathered sizes.parts / 2 ^ (sizes.bits * sizes.symbols) % 2 ^ (sizes.bits * (sizes.symbols * (sizes.parts - 1)))) is
          ∙ ap (λ g. laid sizes.bits sizes.symbols sizes.parts (joined_word side (sizes.parts - 1) beats * 2 ^ (sizes.bits * sizes.symbols)) x.word g sizes.parts / 2 ^ (sizes.bits * sizes.symbols) % 2 ^ (sizes.bits * (sizes.symbols * (sizes.parts - 1)))) counted
          ∙ ap (λ n. n / 2 ^ (sizes.bits * sizes.symbols) % 2 ^ (sizes.bits * (sizes.symbols * (sizes.parts - 1)))) (word_laid beats x (omega (arith, few)) fits ∙ sym (raised (beats ++ x ∷ []) low))
          ∙ ap (λ n. n % 2 ^ (sizes.bits * (sizes.symbols * (sizes.parts - 1)))) (shl-shr (joined_word side (sizes.parts - 1) (beats ++ x ∷ [])) (sizes.bits * sizes.symbols))
          ∙ mod-eq_of_lt in_places
      by_packets false is =
          ap (λ n. (held * 2 ^ (sizes.bits * sizes.symbols) + x.word) / 2 ^ 0 % 2 ^ (sizes.bits * (sizes.symbols * (sizes.parts - 1))) % 2 ^ (sizes.bits * (side.symbols * n))) count
          ∙ ap (λ n. n % 2 ^ (sizes.bits * (sizes.symbols * (sizes.parts - 1))) % 2 ^ (sizes.bits * (side.symbols * (length beats + 1)))) (div-one (held * 2 ^ (sizes.bits * sizes.symbols) + x.word))
          ∙ cut_twice (held * 2 ^ (sizes.bits * sizes.symbols) + x.word) (sizes.bits * (side.symbols * (length beats + 1))) (sizes.bits * (sizes.symbols * (sizes.parts - 1))) shorter
          ∙ row_more
          ∙ ap (λ n. n * 2 ^ (sizes.bits * sizes.symbols) + x.word) is
          ∙ word_behind beats x fits
          ∙ ap (λ n. joined_word side n (beats ++ x ∷ [])) (sym count)

  full_by : (beats : List Beat) (x : Shown) → length beats < sizes.parts → is_full sizes (held_by beats) x ≡ ((x.beat.last == 1) || (length beats + 1 == sizes.parts))
  full_by beats x few =
      ap (λ s. (x.beat.last == 1) || (side.symbols * length beats == s * (sizes.parts - 1))) (sym symbols_are)
      ∙ ap (λ t. (x.beat.last == 1) || t) (in_last_place side sizes.parts some_symbols (length beats) few)

  -- how many symbols are there
  pub counted_few : (beats : List Beat) → length beats < sizes.parts → side.symbols * length beats ≤ sizes.symbols * (sizes.parts - 1)
  counted_few beats few =
      let most : side.symbols * length beats ≤ side.symbols * (sizes.parts - 1) = mul-le-mul_left side.symbols (omega arith) in
      let same : side.symbols * (sizes.parts - 1) ≡ sizes.symbols * (sizes.parts - 1) = ap (λ s. s * (sizes.parts - 1)) symbols_are in
      omega (arith, most, same)

  -- what is gathered with one more
  filled_is : (held : Shown) (beats : List Beat) (x : Shown) → gathered_in stage held ≡ held_by beats → length beats + 1 < sizes.parts → x.beat.word < 2 ^ (sizes.bits * sizes.symbols) → x.valid ≡ 1 → gathered_in stage (shown_filled stage held x) ≡ held_by (beats ++ x.beat ∷ [])
  filled_is held beats x state few fits shown =
      shown_same (gathered_in stage (shown_filled stage held x)) (held_by (beats ++ x.beat ∷ []))
      (shown ∙ sym (ap (λ t. if t then 0 else 1) (some_filled beats x.beat)))
      words refl (ap (λ (z : Shown). bit_or z.beat.error x.beat.error) state ∙ sym (errors_more beats x.beat))
      (ap (λ (z : Shown). if z.valid == 1 then z.beat.first else x.beat.first) state ∙ first_joined beats x.beat ∙ first_filled beats x.beat) refl empties
    where
      counted : held.beat.empty ≡ side.symbols * length beats
      counted = ap (λ (z : Shown). z.beat.empty) state

      empties : (held.beat.empty + sizes.symbols) % 2 ^ sizes.count ≡ side.symbols * length (beats ++ x.beat ∷ [])
      empties =
          let count = length-append beats (x.beat ∷ []) in
          let spread : side.symbols * (length beats + 1) ≡ side.symbols * length beats + side.symbols = omega arith in
          let more : held.beat.empty + sizes.symbols ≡ side.symbols * length (beats ++ x.beat ∷ []) = omega (arith, spread, symbols_are, counted) ∙ ap (λ n. side.symbols * n) (sym count) in
          let most = counted_few (beats ++ x.beat ∷ []) (omega (arith, count, few)) in
          let sum = parts_sum sizes in
          let counts = sizes.counts in
          let some = sizes.some in
          mod-eq_of_lt (omega (arith, more, most, sum, counts, some)) ∙ more

      words : word_of stage (shown_filled stage held x) ≡ joined_word side (places_of stage (beats ++ x.beat ∷ [])) (beats ++ x.beat ∷ [])
      words =
          ap (λ v. if stage.packets then (if v == 1 then held_of stage (joined_by stage held.valid held.beat.word x.beat.word held.beat.empty) else 0) else held_of stage (joined_by stage held.valid held.beat.word x.beat.word held.beat.empty) % 2 ^ (sizes.bits * ((held.beat.empty + sizes.symbols) % 2 ^ sizes.count))) shown
          ∙ ap (λ n. if stage.packets then held_of stage (joined_by stage held.valid held.beat.word x.beat.word held.beat.empty) else held_of stage (joined_by stage held.valid held.beat.word x.beat.word held.beat.empty) % 2 ^ (sizes.bits * n)) empties
          ∙ word_held beats x.beat held.valid held.beat.word held.beat.empty counted few fits (ap (λ (z : Shown). z.beat.word) state)

  -- the joined beat is made of what counts alone
  joined_same : (held : Shown) (beats : List Beat) (x : Shown) → gathered_in stage held ≡ held_by beats → held.beat.word < 2 ^ (sizes.bits * (sizes.symbols * (sizes.parts - 1))) → (stage.packets ≡ false → length beats + 1 ≡ sizes.parts) → shown_joined stage held x ≡ shown_joined stage (held_by beats) x
  joined_same held beats x state fits place =
      ap (λ word. record { valid = (shown_joined stage held x).valid; beat = record (shown_joined stage held x).beat { word = word } }) (by_packets stage.packets place) ∙ ap (λ (z : Shown). shown_joined stage z x) state
    where
      counted : held.beat.empty ≡ side.symbols * length beats
      counted = ap (λ (z : Shown). z.beat.empty) state

      all_held : length beats + 1 ≡ sizes.parts → held.beat.word ≡ held.beat.word % 2 ^ (sizes.bits * held.beat.empty)
      all_held last =
          let bits : sizes.bits * (sizes.symbols * (sizes.parts - 1)) ≡ sizes.bits * held.beat.empty =
          ap (λ n. sizes.bits * (sizes.symbols * n)) (let below : sizes.parts - 1 ≡ length beats = omega (arith, last) in below) ∙ ap (λ s. sizes.bits * (s * length beats)) (sym symbols_are) ∙ ap (λ n. sizes.bits * n) (sym counted) in
          sym (mod-eq_of_lt (subst (λ n. held.beat.word < 2 ^ n) bits fits))

      by_some : (t : Bool) → (if t then held.beat.word else 0) ≡ (if t then (if t then held.beat.word else 0) else 0)
      by_some true = refl
      by_some false = refl

      by_packets : (p : Bool) → (p ≡ false → length beats + 1 ≡ sizes.parts) →
          (if p then laid sizes.bits sizes.symbols sizes.parts ((if held.valid == 1 then held.beat.word else 0) * 2 ^ (sizes.bits * sizes.symbols)) x.beat.word held.beat.empty sizes.parts else held.beat.word * 2 ^ (sizes.bits * sizes.symbols) + x.beat.word)
          ≡ (if p then laid sizes.bits sizes.symbols sizes.parts ((if held.valid == 1 then (if p then (if held.valid == 1 then held.beat.word else 0) else held.beat.word % 2 ^ (sizes.bits * held.beat.empty)) else 0) * 2 ^ (sizes.bits * sizes.symbols)) x.beat.word held.beat.empty sizes.parts
          else (if p then (if held.valid == 1 then held.beat.word else 0) else held.beat.word % 2 ^ (sizes.bits * held.beat.empty)) * 2 ^ (sizes.bits * sizes.symbols) + x.beat.word)
      by_packets true at = ap (λ h. laid sizes.bits sizes.symbols sizes.parts (h * 2 ^ (sizes.bits * sizes.symbols)) x.beat.word held.beat.empty sizes.parts) (by_some (held.valid == 1))
      by_packets false at = ap (λ h. h * 2 ^ (sizes.bits * sizes.symbols) + x.beat.word) (all_held (at refl))

  -- empty of a joined beat that ends a packet
  pub empty_joined : (beats : List Beat) (empty : ℕ) → length beats < sizes.parts → empty < side.symbols → missing_in sizes (side.symbols * length beats) empty ≡ sizes.symbols * sizes.parts - side.symbols * (length beats + 1) + empty
  empty_joined beats empty few fits =
      let most = counted_few beats few in
      let sum = parts_sum sizes in
      let counts = sizes.counts in
      let some = sizes.some in
      let spread : side.symbols * (length beats + 1) ≡ side.symbols * length beats + side.symbols = omega arith in
      missing_few (2 ^ sizes.count) (sizes.symbols * (sizes.parts - 1)) (side.symbols * length beats) empty most (omega (arith, sum, counts, some)) (omega (arith, sum, counts, fits, symbols_are)) (omega (arith, sum, counts, fits, symbols_are))
      ∙ omega (arith, most, sum, spread, symbols_are)

  -- the beat joins those that are gathered with the one that is shown
  joins_now : (beats : List Beat) (x : Shown) → length beats < sizes.parts → x.beat.word < 2 ^ (sizes.bits * sizes.symbols) → (stage.packets ≡ false → length beats + 1 ≡ sizes.parts) → (IsTrue (x.beat.last == 1) → x.beat.empty < side.symbols) →
      IsJoined side wide beats x.beat (joined_beat side wide sizes.parts beats x.beat) → IsJoined side wide beats x.beat (shown_joined stage (held_by beats) x).beat
  joins_now beats x few fits place within fit = record {
    words = subst (λ n. HoldsWords side wide n 0 (beats ++ x.beat ∷ [])) (sym (word_joined beats x.beat few fits place)) fit.words;
    channel = refl;
    error = sym (errors_more beats x.beat);
    first = first_joined beats x.beat;
    last = refl;
    empty = λ ends. empty_joined beats x.beat.empty few (within ends);
  }

module _ (stage : Widen) (from to : BeatNets) (kept : WidenKept) (ready up : NetValue) (netlist : Netlist) (run : Run) (f : WidenForward stage from to kept netlist) (b : WidenBackward kept ready up netlist) (endless : IsEndlessRun netlist run)
    (side : Side) (symbols_are : side.symbols ≡ stage.sizes.symbols) (bits_are : side.symbol_bits ≡ stage.sizes.bits) (unmarked : stage.packets ≡ false → IsFalse side.packets) (direct : side.pace.latency ≡ 0) where
  abbrev parts : ℕ
  parts = stage.sizes.parts

  valued : (c : ℕ) → IsValuation netlist (cycle_of run c)
  valued c = (endless (c + 1)).valuations c (omega arith)

  abbrev pub upward : EndView
  upward = view_of run from up

  abbrev pub downward : EndView
  downward = view_of run to ready

  abbrev pub coming : ℕ → Shown
  coming c = shown_in (cycle_of run c) from

  abbrev pub after : List Beat → ℕ → List Beat
  after beats c = if is_transfer side.pace upward c then (if completes parts upward beats c then [] else beats ++ beat_at upward c ∷ []) else beats

  abbrev pub gathered : ℕ → List Beat
  gathered zero = []
  gathered (suc c) = after (gathered c) c

  -- the registers hold the beats that are gathered
  pub record Holds (c : ℕ) (beats : List Beat) : Type 0 where
    pub state : gathered_in stage (shown_in (cycle_of run c) kept.held) ≡ held_by stage side symbols_are bits_are beats
    pub few : length beats < parts

  pub shown : (c : ℕ) (beats : List Beat) → Holds c beats → (stage.packets ≡ false → length beats + 1 ≡ parts) → shown_in (cycle_of run c) to ≡ shown_joined stage (held_by stage side symbols_are bits_are beats) (coming c)
  shown c beats h place = f.shows (cycle_of run c) (valued c) ∙ joined_same stage side symbols_are bits_are (shown_in (cycle_of run c) kept.held) beats (coming c) h.state (f.held_fits (cycle_of run c) (valued c)) place

  pub full_is : (c : ℕ) (beats : List Beat) → Holds c beats → (run.net c to.valid.number == 1) ≡ completes parts upward beats c
  full_is c beats h =
      ap (λ (x : Shown). x.valid == 1) (f.shows (cycle_of run c) (valued c))
      ∙ one_if ((run.net c from.valid.number == 1) && is_full stage.sizes (gathered_in stage (shown_in (cycle_of run c) kept.held)) (coming c))
      ∙ ap (λ (x : Shown). (run.net c from.valid.number == 1) && is_full stage.sizes x (coming c)) h.state
      ∙ ap (λ t. (run.net c from.valid.number == 1) && t) (full_by stage side symbols_are bits_are beats (coming c) h.few)

  kept_full : (c : ℕ) (beats : List Beat) → Holds c beats → (run.net c kept.full.number == 1) ≡ completes parts upward beats c
  kept_full c beats h = ap (λ (n : NetValue). run.net c n.number == 1) f.full_is ∙ full_is c beats h

  comes : (c : ℕ) → ((run.net c kept.coming.number == 1) && (run.net c up.number == 1)) ≡ is_transfer side.pace upward c
  comes c = rw direct (ap (λ (n : NetValue). (run.net c n.number == 1) && (run.net c up.number == 1)) f.coming_is)

  abbrev held_at : ℕ → Shown
  held_at c = shown_in (cycle_of run c) kept.held

  moved : (c : ℕ) (beats : List Beat) → Holds c beats → held_at (c + 1) ≡
      (if is_transfer side.pace upward c then shown_next (completes parts upward beats c) nothing_shown (shown_filled stage (held_at c) (coming c)) else held_at c)
  moved c beats h =
      b.moves run (c + 2) (endless (c + 2)) c (omega arith)
      ∙ ap (λ t. if t then shown_next (run.net c kept.full.number == 1) (shown_in (cycle_of run c) kept.none) (shown_in (cycle_of run c) kept.filled) else held_at c) (comes c)
      ∙ ap (λ t. if is_transfer side.pace upward c then shown_next t (shown_in (cycle_of run c) kept.none) (shown_in (cycle_of run c) kept.filled) else held_at c) (kept_full c beats h)
      ∙ ap (λ (x : Shown). if is_transfer side.pace upward c then shown_next (completes parts upward beats c) x (shown_in (cycle_of run c) kept.filled) else held_at c) (f.empties (cycle_of run c) (valued c))
      ∙ ap (λ (x : Shown). if is_transfer side.pace upward c then shown_next (completes parts upward beats c) nothing_shown x else held_at c) (f.fills (cycle_of run c) (valued c))

  next_holds : (c : ℕ) (beats : List Beat) → Holds c beats → Holds (c + 1) (after beats c)
  next_holds c beats h = by_both (is_transfer side.pace upward c) refl (completes parts upward beats c) refl (moved c beats h)
    where
      came : is_transfer side.pace upward c ≡ true → run.net c from.valid.number ≡ 1
      came t = eqb-true (run.net c from.valid.number) 1 ((and_parts (run.net c from.valid.number == 1) _ t).0)

      not_last : run.net c from.valid.number ≡ 1 → completes parts upward beats c ≡ false → length beats + 1 < parts
      not_last valid d = by_place (length beats + 1 == parts) refl
        where
          completed : run.net c from.valid.number ≡ 1 → (length beats + 1 == parts) ≡ true → completes parts upward beats c ≡ true
          completed valid e = and_from _ _ (eq-eqb (run.net c from.valid.number) 1 valid) (or_right _ _ e)

          by_place : (p : Bool) → (length beats + 1 == parts) ≡ p → length beats + 1 < parts
          by_place true e = absurd (both_ways _ d (completed valid e))
          by_place false e = let few = h.few in let apart : length beats + 1 ≡ parts → ⊥ = (λ same. both_ways _ e (eq-eqb (length beats + 1) parts same)) in omega (arith, few, apart)

      by_both : (t : Bool) → is_transfer side.pace upward c ≡ t → (d : Bool) → completes parts upward beats c ≡ d →
          held_at (c + 1) ≡ (if t then shown_next d nothing_shown (shown_filled stage (held_at c) (coming c)) else held_at c) →
          Holds (c + 1) (if t then (if d then [] else beats ++ beat_at upward c ∷ []) else beats)
      by_both false e d k is = record { state = ap (gathered_in stage) is ∙ h.state; few = h.few }
      by_both true e true k is = record { state = ap (gathered_in stage) is ∙ cleared_is stage side _; few = (let several = stage.sizes.several in omega (arith, several)) }
      by_both true e false k is = record {
        state = ap (gathered_in stage) is ∙ filled_is stage side symbols_are bits_are (held_at c) beats (coming c) h.state (not_last (came e) k) (f.word_fits (cycle_of run c) (valued c)) (came e);
        few = (let count = length-append beats (beat_at upward c ∷ []) in let below = not_last (came e) k in omega (arith, count, below));
      }

  pub holds : (c : ℕ) → Holds c (gathered c)
  holds zero = record { state = ap (gathered_in stage) (f.starts run 1 (endless 1) (omega arith)) ∙ cleared_is stage side 0; few = (let several = stage.sizes.several in omega (arith, several)) }
  holds (suc c) = let next : c + 1 ≡ suc c = omega arith in subst (λ n. Holds n (after (gathered c) c)) next (next_holds c (gathered c) (holds c))

  -- without packets a wide beat is whole in the last place alone
  pub in_last : (c : ℕ) (beats : List Beat) → IsLegalSource side upward (suc c) → completes parts upward beats c ≡ true → stage.packets ≡ false → length beats + 1 ≡ parts
  in_last c beats legal done none =
      let parted : (is_high upward.valid c ≡ true) × (((run.net c from.last.number == 1) || (length beats + 1 == parts)) ≡ true) = and_parts (is_high upward.valid c) _ done in
      let goes : (run.net c from.last.number == 1) ≡ false = (((legal c (omega arith)).formed parted.0).unmarked (unmarked none)).1 in
      eqb-true (length beats + 1) parts (second _ _ goes parted.1)
    where
      second : (x y : Bool) → x ≡ false → (x || y) ≡ true → y ≡ true
      second true y p q = absurd (cc)
      second false y p q = q

  is_widen_run : ((earlier : List Beat) (latest : Beat) → length earlier < parts → IsJoined side (wide stage side symbols_are bits_are) earlier latest (joined_beat side (wide stage side symbols_are bits_are) parts earlier latest)) →
      IsWidenRun parts side (wide stage side symbols_are bits_are) upward downward gathered
  is_widen_run fit = record {
    starts = refl;
    asks = λ c. b.asks (cycle_of run c) (valued c) ∙ ap (λ t. not t || (run.net c ready.number == 1)) (kept_full c (gathered c) (holds c));
    valid = λ c. full_is c (gathered c) (holds c);
    shows = λ c legal high. (
        let h = holds c in
        let done = sym (full_is c (gathered c) h) ∙ high in
        let valid = (and_parts (is_high upward.valid c) _ done).0 in
        subst (IsJoined side (wide stage side symbols_are bits_are) (gathered c) (beat_at upward c)) (sym (ap (λ (x : Shown). x.beat) (shown c (gathered c) h (in_last c (gathered c) legal done))))
        (joins_now stage side symbols_are bits_are (gathered c) (coming c) h.few (f.word_fits (cycle_of run c) (valued c)) (in_last c (gathered c) legal done) ((legal c (omega arith)).formed valid).holds_data
        (fit (gathered c) (beat_at upward c) h.few)));
    same = λ b c before legal first second e same.
        (let shows : (d : ℕ) → d ≤ c → IsTrue (is_high downward.valid d) → beat_at downward d ≡ (shown_joined stage (held_by stage side symbols_are bits_are (gathered d)) (record { valid = 0; beat = beat_at upward d })).beat =
        (λ d within high. ap (λ (x : Shown). x.beat) (shown d (gathered d) (holds d) (in_last d (gathered d) (λ n below. legal n (omega (arith, below, within))) (sym (full_is d (gathered d) (holds d)) ∙ high)))) in
        shows b (omega (arith, before)) first
        ∙ ap (λ (beats : List Beat). (shown_joined stage (held_by stage side symbols_are bits_are beats) (record { valid = 0; beat = beat_at upward b })).beat) e
        ∙ ap (λ (x : Beat). (shown_joined stage (held_by stage side symbols_are bits_are (gathered c)) (record { valid = 0; beat = x })).beat) same
        ∙ sym (shows c (omega arith) second));
    moves = λ c. refl;
  }

abbrev JoinedFit : Type 0
JoinedFit = (narrow wide : Side) (parts : ℕ) → 0 < narrow.symbols → wide.symbols ≡ narrow.symbols * parts → narrow.symbol_bits ≡ wide.symbol_bits → wide.first_high ≡ true → narrow.first_high ≡ true → (earlier : List Beat) (latest : Beat) → length earlier < parts → IsJoined narrow wide earlier latest (joined_beat narrow wide parts earlier latest)

module _ (stage : Widen) (shape : Shape) (from to : BeatNets) (kept : WidenKept) (ready up : NetValue) (netlist : Netlist) (run : Run) (p : IsWidenShape stage shape) (f : WidenForward stage from to kept netlist) (b : WidenBackward kept ready up netlist) (endless : IsEndlessRun netlist run) (fit : JoinedFit) where
  size : stage.sizes.symbols * stage.sizes.parts ≡ shape.up.symbols * stage.sizes.parts
  size = ap (λ s. s * stage.sizes.parts) (sym p.symbols_are)

  some_here : 0 < shape.up.symbols
  some_here = let some = stage.sizes.some in let symbols = p.symbols_are in omega (arith, some, symbols)

  runs : IsWidenRun stage.sizes.parts shape.up (of_symbols shape.up (stage.sizes.symbols * stage.sizes.parts)) (view_of run from up) (view_of run to ready) (gathered stage from to kept ready up netlist run f b endless shape.up p.symbols_are p.bits_are p.unmarked p.at_once)
  runs = is_widen_run stage from to kept ready up netlist run f b endless shape.up p.symbols_are p.bits_are p.unmarked p.at_once
      (fit shape.up (of_symbols shape.up (stage.sizes.symbols * stage.sizes.parts)) stage.sizes.parts some_here size refl p.first_high p.first_high)

  pub widen_between :
      ((passes : ℕ → Bool) (parts : ℕ) (narrow wide : Side) (up down : EndView) (gathered : ℕ → List Beat) → IsWidenRun parts narrow wide up down gathered → 0 < parts → 0 < narrow.symbols → wide.symbols ≡ narrow.symbols * parts → narrow.pace.latency ≡ 0 → narrow.pace.allowance ≡ 0 → wide.pace ≡ narrow.pace → narrow.packets ≡ wide.packets → narrow.error_bits ≡ wide.error_bits → narrow.max_channel ≡ wide.max_channel → (IsFalse narrow.packets → 1 < parts → narrow.max_channel ≡ 0) → PassesAll passes narrow → KeepsStageLaw (widen_shape passes parts narrow wide) (plain_run up down)) →
      KeepsShape shape (view_of run from up) (view_of run to ready)
  widen_between law =
      let several = stage.sizes.several in
      record {
        rank = λ _. 0;
        keeps = subst (λ (s : Shape). KeepsStageLaw s (plain_run (view_of run from up) (view_of run to ready))) (sym p.is)
            (law shape.passes stage.sizes.parts shape.up (of_symbols shape.up (stage.sizes.symbols * stage.sizes.parts)) _ _ _ runs (omega (arith, several)) some_here size p.at_once p.strict refl refl refl refl (λ none _. p.channels none) p.passes);
      }

  pub widen_ready : ((passes : ℕ → Bool) (parts : ℕ) (narrow wide : Side) (up down : EndView) (gathered : ℕ → List Beat) → IsWidenRun parts narrow wide up down gathered → PassesReady (widen_shape passes parts narrow wide) (plain_run up down)) →
      ReadyPasses shape (view_of run from up) (view_of run to ready)
  widen_ready law = subst (λ (s : Shape). ReadyPasses s (view_of run from up) (view_of run to ready)) (sym p.is) (law shape.passes stage.sizes.parts shape.up (of_symbols shape.up (stage.sizes.symbols * stage.sizes.parts)) _ _ _ runs)

pub widen_ignores : (stage : Widen) (from to : BeatNets) (kept : WidenKept) (netlist : Netlist) (one other : Cycle) → WidenForward stage from to kept netlist → IsValuation netlist one → IsValuation netlist other → ((n : ℕ) → IsOfBeat kept.held n → one.net n ≡ other.net n) → ShowSame from one other → ShowSame to one other
widen_ignores stage from to kept netlist one other f v w state same =
    show_same to one other
    (f.shows one v
    ∙ ap (λ (x : Shown). shown_joined stage x (shown_in one from)) (same_state kept.held one other f.numbers state)
    ∙ ap (shown_joined stage (shown_in other kept.held)) (all_same from one other same)
    ∙ sym (f.shows other w))
