use Rattle.std.proofs.Common.{◌≡◌, ℕ, List, sym, subst, ◌∙◌}
use Rattle.std.specs.Prelude.{string_bytes}
use Rattle.routed_modules.specs.Routed.{HaveSizes}
use Rattle.task_words.specs.Asking.{AsksForModule}
use Rattle.task_words.proofs.routed.WordsLemmas.{four_words, asked_four, asked_as, one_spelled, known_by, numbers_same}
use Rattle.task_words.proofs.routed.read_packets.Goals as goal

pub returns-in_default-three_numbers : goal.returns-in_default-three_numbers
returns-in_default-three_numbers c wanted has asks =
    let size = asked_four string_bytes c.args.words.now wanted has asks in
    let whole = four_words string_bytes c.args.words.now c.command-item.result c.ends-item.result c.symbols-item.result c.bits-item.result size c.command-item.is c.ends-item.is c.symbols-item.is c.bits-item.is in
    let asked = asked_as _ _ _ _ wanted has (subst (λ (ws : List (List ℕ)). AsksForModule wanted ws) whole asks) in
    c.in_default-three_numbers.ensures asked.ends asked.symbols asked.bits
    (record {
      first_is = record { is = c.as_str.ensures.value ∙ asked.spelled.first_is.is; small = asked.spelled.first_is.small };
      second_is = record { is = c.as_str-2.ensures.value ∙ asked.spelled.second_is.is; small = asked.spelled.second_is.small };
      third_is = record { is = c.as_str-3.ensures.value ∙ asked.spelled.third_is.is; small = asked.spelled.third_is.small };
    })

pub returns-in_default-module_of : goal.returns-in_default-module_of
returns-in_default-module_of c wanted has asks =
    let size = asked_four string_bytes c.args.words.now wanted has asks in
    let whole = four_words string_bytes c.args.words.now c.command-item.result c.ends-item.result c.symbols-item.result c.bits-item.result size c.command-item.is c.ends-item.is c.symbols-item.is c.bits-item.is in
    let asked = asked_as _ _ _ _ wanted has (subst (λ (ws : List (List ℕ)). AsksForModule wanted ws) whole asks) in
    c.in_default-module_of.ensures (wanted, has, sym asked.first_is ∙ sym c.as_str-4.ensures.value)

pub returns-else-has_sizes : goal.returns-else-has_sizes
returns-else-has_sizes c wanted has asks =
    let size = asked_four string_bytes c.args.words.now wanted has asks in
    let whole = four_words string_bytes c.args.words.now c.command-item.result c.ends-item.result c.symbols-item.result c.bits-item.result size c.command-item.is c.ends-item.is c.symbols-item.is c.bits-item.is in
    let asked = asked_as _ _ _ _ wanted has (subst (λ (ws : List (List ℕ)). AsksForModule wanted ws) whole asks) in
    let ends : asked.ends ≡ c.in-Some.ends = one_spelled _ _ _ _ (sym c.as_str.ensures.value) asked.spelled.first_is c.in-Some.ensures.first_is in
    let symbols : asked.symbols ≡ c.in-Some.symbols = one_spelled _ _ _ _ (sym c.as_str-2.ensures.value) asked.spelled.second_is c.in-Some.ensures.second_is in
    let bits : asked.bits ≡ c.in-Some.bits = one_spelled _ _ _ _ (sym c.as_str-3.ensures.value) asked.spelled.third_is c.in-Some.ensures.third_is in
    let same : wanted ≡ c.in-Some-module_of.routed =
    known_by wanted c.in-Some-module_of.routed (sym asked.first_is ∙ sym c.as_str-4.ensures.value ∙ sym c.in-Some-module_of.ensures.0) (asked.numbers ∙ numbers_same _ _ _ _ _ _ ends symbols bits ∙ sym c.in-Some-module_of.ensures.1) in
    let sizes : HaveSizes c.in-Some-module_of.routed = subst HaveSizes same asks.sizes in
    let yes = c.has_sizes.ensures.1 sizes in let no = c.if-has_sizes.false in cc
