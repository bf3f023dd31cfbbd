use Rattle.std.proofs.Common.{◌≡◌, ℕ, List, length, codes, refl, sym, subst, ◌∙◌, arith}
use Rattle.std.specs.Prelude.{string_bytes, decimal}
use Rattle.routed_modules.specs.declared.routed.Routed.TheVariants.{Gatherer}
use Rattle.routed_modules.specs.Routed.{HaveSizes}
use Rattle.task_words.specs.Asking.{AsksForModule}
use Rattle.task_words.proofs.routed.WordsLemmas.{five_words, asked_five, gatherer_asked_as, one_spelled, the_word}
use Rattle.task_words.proofs.routed.read_gatherer.Goals as goal

pub returns-in_default-three_numbers : goal.returns-in_default-three_numbers
returns-in_default-three_numbers c channels symbols parts bits asks =
    let size = asked_five string_bytes c.args.words.now channels symbols parts bits asks in
    let whole = five_words string_bytes c.args.words.now c.command-item.result c.channels-item.result c.symbols-item.result c.parts-item.result c.bits-item.result size c.command-item.is c.channels-item.is c.symbols-item.is c.parts-item.is c.bits-item.is in
    let asked = gatherer_asked_as _ _ _ _ _ channels symbols parts bits (subst (λ (ws : List (List ℕ)). AsksForModule (Gatherer channels symbols parts bits) ws) whole asks) in
    c.in_default-three_numbers.ensures channels symbols parts
    (record {
      first_is = record { is = c.as_str-2.ensures.value ∙ asked.spelled.first_is.is; small = asked.spelled.first_is.small };
      second_is = record { is = c.as_str-3.ensures.value ∙ asked.spelled.second_is.is; small = asked.spelled.second_is.small };
      third_is = record { is = c.as_str-4.ensures.value ∙ asked.spelled.third_is.is; small = asked.spelled.third_is.small };
    })

pub returns-else-has_sizes : goal.returns-else-has_sizes
returns-else-has_sizes c channels symbols parts bits asks =
    let size = asked_five string_bytes c.args.words.now channels symbols parts bits asks in
    let whole = five_words string_bytes c.args.words.now c.command-item.result c.channels-item.result c.symbols-item.result c.parts-item.result c.bits-item.result size c.command-item.is c.channels-item.is c.symbols-item.is c.parts-item.is c.bits-item.is in
    let asked = gatherer_asked_as _ _ _ _ _ channels symbols parts bits (subst (λ (ws : List (List ℕ)). AsksForModule (Gatherer channels symbols parts bits) ws) whole asks) in
    let same_channels : channels ≡ c.in-Some.channels = one_spelled _ _ _ _ (sym c.as_str-2.ensures.value) asked.spelled.first_is c.in-Some.ensures.first_is in
    let same_symbols : symbols ≡ c.in-Some.symbols = one_spelled _ _ _ _ (sym c.as_str-3.ensures.value) asked.spelled.second_is c.in-Some.ensures.second_is in
    let same_parts : parts ≡ c.in-Some.parts = one_spelled _ _ _ _ (sym c.as_str-4.ensures.value) asked.spelled.third_is c.in-Some.ensures.third_is in
    let same_bits : bits ≡ c.in-Some-small_number_of.bits = one_spelled _ _ _ _ (sym c.as_str-5.ensures.value) asked.last c.in-Some-small_number_of.ensures in
    let sizes : HaveSizes (Gatherer c.in-Some.channels c.in-Some.symbols c.in-Some.parts c.in-Some-small_number_of.bits) =
    subst (λ n. HaveSizes (Gatherer n c.in-Some.symbols c.in-Some.parts c.in-Some-small_number_of.bits)) same_channels
    (subst (λ s. HaveSizes (Gatherer channels s c.in-Some.parts c.in-Some-small_number_of.bits)) same_symbols
    (subst (λ p. HaveSizes (Gatherer channels symbols p c.in-Some-small_number_of.bits)) same_parts (subst (λ b. HaveSizes (Gatherer channels symbols parts b)) same_bits asks.sizes))) in
    let yes = c.has_sizes.ensures.1 sizes in let no = c.if-has_sizes.false in cc

pub returns-in_default-small_number_of : goal.returns-in_default-small_number_of
returns-in_default-small_number_of c channels symbols parts bits asks =
    let size = asked_five string_bytes c.args.words.now channels symbols parts bits asks in
    let whole = five_words string_bytes c.args.words.now c.command-item.result c.channels-item.result c.symbols-item.result c.parts-item.result c.bits-item.result size c.command-item.is c.channels-item.is c.symbols-item.is c.parts-item.is c.bits-item.is in
    let asked = gatherer_asked_as _ _ _ _ _ channels symbols parts bits (subst (λ (ws : List (List ℕ)). AsksForModule (Gatherer channels symbols parts bits) ws) whole asks) in
    c.in_default-small_number_of.ensures bits (record { is = c.as_str-5.ensures.value ∙ asked.last.is; small = asked.last.small })

pub returns-then-has_sizes : goal.returns-then-has_sizes
returns-then-has_sizes c =
    let size : length c.args.words.now ≡ 5 = omega (arith, c.in-len5.len_at_least, c.in-len5.len_below) in
    let whole = five_words string_bytes c.args.words.now c.command-item.result c.channels-item.result c.symbols-item.result c.parts-item.result c.bits-item.result size c.command-item.is c.channels-item.is c.symbols-item.is c.parts-item.is c.bits-item.is in
    let word : string_bytes c.command-item.result ≡ codes "gather" = sym c.as_str.ensures.value ∙ the_word c.as_str.result.now (codes "gather") c.ne.result c.ne.ensures c.if-ne.false in
    let first : string_bytes c.channels-item.result ≡ decimal c.in-Some.channels = sym c.as_str-2.ensures.value ∙ c.in-Some.ensures.first_is.is in
    let second : string_bytes c.symbols-item.result ≡ decimal c.in-Some.symbols = sym c.as_str-3.ensures.value ∙ c.in-Some.ensures.second_is.is in
    let third : string_bytes c.parts-item.result ≡ decimal c.in-Some.parts = sym c.as_str-4.ensures.value ∙ c.in-Some.ensures.third_is.is in
    let fourth : string_bytes c.bits-item.result ≡ decimal c.in-Some-small_number_of.bits = sym c.as_str-5.ensures.value ∙ c.in-Some-small_number_of.ensures.is in
    record { words_are = whole ∙ rw (word, first, second, third, fourth) refl; sizes = c.has_sizes.ensures.0 c.if-has_sizes.true }
