-- Words ask for one module. No contract reads a proof of it; the crate above cites it.
use Rattle.std.specs.Prelude.{◌≡◌, ◌≢◌, ℕ, zero, suc, ◌+◌, ◌*◌, ◌≤◌, List, [], ◌∷◌, length, codes, decimal, slice_get, Some}
use Rattle.std.proofs.Common.{refl, sym, ap, ◌∙◌, get_or, arith}
use Rattle.std.proofs.lemmas.Fmt.{decimal_injective}
use Rattle.std.proofs.lemmas.Option.{same_Some}
use Rattle.routed_modules.specs.declared.routed.Routed.{Routed}
use Rattle.routed_modules.specs.declared.routed.Routed.TheVariants as routed
use Rattle.routed_modules.specs.Demultiplexers.{AreSizes}
use Rattle.task_words.specs.Asking.{AsksForModule}

-- so few bits that they are spelled in one way
pub bits_few : (symbols bits : ℕ) → 1 ≤ symbols → symbols * bits ≤ 128 → bits ≤ 128
bits_few zero bits some few = absurd (omega (arith, some))
bits_few (suc symbols) bits some few =
    let whole : suc symbols * bits ≡ symbols * bits + bits = omega arith in omega (arith, whole, few)

pub gathered_bits : (symbols parts bits : ℕ) → 1 ≤ symbols → 2 ≤ parts → symbols * parts * bits ≤ 128 → bits ≤ 128
gathered_bits symbols parts bits some some_parts few =
    bits_few (symbols * parts) bits (some_product symbols parts some (omega (arith, some_parts))) few
  where
    some_product : (a b : ℕ) → 1 ≤ a → 1 ≤ b → 1 ≤ a * b
    some_product zero b some more = absurd (omega (arith, some))
    some_product (suc a) b some more = let whole : suc a * b ≡ a * b + b = omega arith in omega (arith, whole, more)

same_number : (m n place : ℕ) (words : List (List ℕ)) → m ≤ 128 → n ≤ 128 → slice_get words place ≡ Some (decimal m)
    → slice_get words place ≡ Some (decimal n) → m ≡ n
same_number m n place words few less is also =
    decimal_injective m n (omega (arith, few)) (omega (arith, less)) (same_Some _ _ (sym is ∙ also))

module _ (words : List (List ℕ)) (word other : List ℕ) (a b c d e f : ℕ)
    (asks : words ≡ word ∷ decimal a ∷ decimal b ∷ decimal c ∷ [])
    (others : words ≡ other ∷ decimal d ∷ decimal e ∷ decimal f ∷ [])
    (sizes : AreSizes a b c) (sizes_too : AreSizes d e f) where
  here : (place : ℕ) → slice_get words place ≡ slice_get (word ∷ decimal a ∷ decimal b ∷ decimal c ∷ []) place
  here place = ap (λ (ws : List (List ℕ)). slice_get ws place) asks

  there : (place : ℕ) → slice_get words place ≡ slice_get (other ∷ decimal d ∷ decimal e ∷ decimal f ∷ []) place
  there place = ap (λ (ws : List (List ℕ)). slice_get ws place) others

  pub same_word : word ≡ other
  same_word = same_Some _ _ (sym (here 0) ∙ there 0)

  pub same_ends : a ≡ d
  same_ends =
      let few = sizes.few_ends in
      let less = sizes_too.few_ends in same_number a d 1 words (omega (arith, few)) (omega (arith, less)) (here 1) (there 1)

  pub same_symbols : b ≡ e
  same_symbols =
      let few = sizes.few_symbols in
      let less = sizes_too.few_symbols in same_number b e 2 words (omega (arith, few)) (omega (arith, less)) (here 2) (there 2)

  pub same_bits : c ≡ f
  same_bits =
      same_number c f 3 words (bits_few b c sizes.some_symbols sizes.narrow)
      (bits_few e f sizes_too.some_symbols sizes_too.narrow)
      (here 3) (there 3)

-- the words of two kinds of module differ
pub mux_apart : codes "mux" ≢ codes "demux"
mux_apart same =
    absurd (let no : get_or (codes "mux") 0 0 ≡ get_or (codes "demux") 0 0 = ap (λ w. get_or w 0 0) same in omega (arith, no))

pub one_module : (words : List (List ℕ)) (one other : Routed) → AsksForModule one words → AsksForModule other words → one ≡ other
one_module words (routed.Multiplexer a b c) (routed.Multiplexer d e f) asks others =
    let p = asks.words_are in
    let q = others.words_are in
    rw
    (same_ends words _ _ a b c d e f p q asks.sizes others.sizes, same_symbols words _ _ a b c d e f p q asks.sizes others.sizes, same_bits words _ _ a b c d e f p q asks.sizes others.sizes) refl
one_module words (routed.Demultiplexer a b c) (routed.Demultiplexer d e f) asks others =
    let p = asks.words_are in
    let q = others.words_are in
    rw
    (same_ends words _ _ a b c d e f p q asks.sizes others.sizes, same_symbols words _ _ a b c d e f p q asks.sizes others.sizes, same_bits words _ _ a b c d e f p q asks.sizes others.sizes) refl
one_module words (routed.Multiplexer a b c) (routed.Demultiplexer d e f) asks others =
    absurd
    (mux_apart
    (same_word words (codes "mux") (codes "demux") a b c d e f asks.words_are others.words_are asks.sizes others.sizes))
one_module words (routed.Demultiplexer a b c) (routed.Multiplexer d e f) asks others =
    absurd
    (mux_apart
    (sym
    (same_word words (codes "demux") (codes "mux") a b c d e f asks.words_are others.words_are asks.sizes others.sizes)))
one_module words (routed.Gatherer a b c d) (routed.Gatherer e f g h) asks others =
    let here = λ (place : ℕ). ap (λ (ws : List (List ℕ)). slice_get ws place) asks.words_are in
    let there = λ (place : ℕ). ap (λ (ws : List (List ℕ)). slice_get ws place) others.words_are in
    let few = asks.sizes.few_channels in
    let less = others.sizes.few_channels in
    let few_symbols = asks.sizes.few_symbols in
    let less_symbols = others.sizes.few_symbols in
    let few_parts = asks.sizes.few_parts in
    let less_parts = others.sizes.few_parts in
    let channels : a ≡ e = same_number a e 1 words (omega (arith, few)) (omega (arith, less)) (here 1) (there 1) in
    let symbols : b ≡ f = same_number b f 2 words (omega (arith, few_symbols)) (omega (arith, less_symbols)) (here 2) (there 2) in
    let parts : c ≡ g = same_number c g 3 words (omega (arith, few_parts)) (omega (arith, less_parts)) (here 3) (there 3) in
    let bits : d ≡ h = same_number d h 4 words (gathered_bits b c d asks.sizes.some_symbols asks.sizes.some_parts asks.sizes.narrow) (gathered_bits f g h others.sizes.some_symbols others.sizes.some_parts others.sizes.narrow) (here 4) (there 4) in
    rw (channels, symbols, parts, bits) refl
one_module words (routed.Multiplexer a b c) (routed.Gatherer e f g h) asks others =
    absurd (let same = ap (λ (ws : List (List ℕ)). length ws) (sym asks.words_are ∙ others.words_are) in omega (arith, same))
one_module words (routed.Gatherer a b c d) (routed.Multiplexer e f g) asks others =
    absurd (let same = ap (λ (ws : List (List ℕ)). length ws) (sym asks.words_are ∙ others.words_are) in omega (arith, same))
one_module words (routed.Demultiplexer a b c) (routed.Gatherer e f g h) asks others =
    absurd (let same = ap (λ (ws : List (List ℕ)). length ws) (sym asks.words_are ∙ others.words_are) in omega (arith, same))
one_module words (routed.Gatherer a b c d) (routed.Demultiplexer e f g) asks others =
    absurd (let same = ap (λ (ws : List (List ℕ)). length ws) (sym asks.words_are ∙ others.words_are) in omega (arith, same))
