-- Words with the tags of their commands, in order, are owed for each tag by itself.
use Rattle.std.proofs.Common.{ℕ, zero, suc, ◌≡◌, ◌+◌, [], ◌∷◌, ◌++◌, List, Bool, true, false, ◌&&◌, if◌then◌else◌, arith, refl, sym, ap, ap₂, ◌∙◌, length, map, filter, flat_map, nat_eq, length-append}
use Rattle.std.proofs.lemmas.List.Elements.{filter-append}
use Rattle.histories.specs.Laws.{prefix_filter, prefix_length}
use Rattle.histories.specs.History.{only_if, is_raised}
use Rattle.memory_runs.specs.Views.{System}
use Rattle.memory_runs.specs.Operations.{Beat}
use Rattle.memory_runs.specs.Commands.{is_of_reads}
use Rattle.memory_runs.specs.Legal.{Word}
use Rattle.memory_machines.specs.Link.{Marked, read_beats, taken_at}
use Rattle.memory_machines.specs.Lines.{TaggedPort, AreOwedByTag, AreTaggedInOrder, word_tags, asked_tags, words_with, with_tag}

abbrev count_with : ℕ → List ℕ → ℕ
count_with h tags = length (filter (λ t. nat_eq t h) tags)

count_append : (h : ℕ) (xs ys : List ℕ) → count_with h (xs ++ ys) ≡ count_with h xs + count_with h ys
count_append h xs ys = ap length (filter-append (λ t. nat_eq t h) xs ys) ∙ length-append (filter (λ t. nat_eq t h) xs) (filter (λ t. nat_eq t h) ys)

words_counted : (tagged : TaggedPort) (h c : ℕ) → length (words_with h tagged c) ≡ count_with h (word_tags tagged c)
words_counted tagged h zero = refl
words_counted tagged h (suc c) =
    length-append (words_with h tagged c) _ ∙ ap₂ (λ a b. a + b) (words_counted tagged h c) (one (is_raised (tagged.answers.valid c)) (nat_eq (tagged.answer_tag c) h) refl _)
    ∙ sym (count_append h (word_tags tagged c) _)
  where
    one : (v t : Bool) → nat_eq (tagged.answer_tag c) h ≡ t → (w : Word) → length (only_if (v && t) w) ≡ count_with h (only_if v (tagged.answer_tag c))
    one true true e w = rw e refl
    one true false e w = rw e refl
    one false t e w = refl

own_beats : (h tag : ℕ) (beats : List Beat) (t : Bool) → nat_eq tag h ≡ t → count_with h (map (λ (_ : Beat). tag) beats) ≡ (if t then length beats else 0)
own_beats h tag [] true e = refl
own_beats h tag [] false e = refl
own_beats h tag (b ∷ beats) true e = rw e (ap suc (own_beats h tag beats true e))
own_beats h tag (b ∷ beats) false e = rw e (own_beats h tag beats false e)

beats_counted : (h : ℕ) (ms : List Marked) → length (read_beats (with_tag h ms)) ≡ count_with h (asked_tags ms)
beats_counted h [] = refl
beats_counted h (m ∷ ms) = by_both (nat_eq m.tag h) (is_of_reads m.transfer.kind) refl refl (beats_counted h ms)
  where
    by_both : (t r : Bool) → nat_eq m.tag h ≡ t → is_of_reads m.transfer.kind ≡ r → length (read_beats (with_tag h ms)) ≡ count_with h (asked_tags ms) →
        length (read_beats (if t then m ∷ with_tag h ms else with_tag h ms)) ≡ count_with h (flat_map (λ (m : Marked). map (λ (_ : Beat). m.tag) m.transfer.beats) (if r then m ∷ filter (λ (m : Marked). is_of_reads m.transfer.kind) ms else filter (λ (m : Marked). is_of_reads m.transfer.kind) ms))
    by_both true true e k rest =
        rw k (length-append m.transfer.beats (read_beats (with_tag h ms)) ∙ ap₂ (λ a b. a + b) (sym (own_beats h m.tag m.transfer.beats true e)) rest ∙ sym (count_append h (map (λ (_ : Beat). m.tag) m.transfer.beats) (asked_tags ms)))
    by_both true false e k rest = rw k rest
    by_both false true e k rest =
        let none = own_beats h m.tag m.transfer.beats false e in
        let sum = count_append h (map (λ (_ : Beat). m.tag) m.transfer.beats) (asked_tags ms) in
        omega (arith, none, sum, rest)
    by_both false false e k rest = rest

pub owed_by_tag : (system : System) (tagged : TaggedPort) (end : ℕ) → AreTaggedInOrder tagged end → AreOwedByTag system tagged end
owed_by_tag system tagged end ordered h c is low =
    let few = prefix_length (prefix_filter (λ t. nat_eq t h) (ordered c low)) in
    let words = words_counted tagged h (suc c) in
    let beats = beats_counted h (taken_at tagged.port c) in
    omega (arith, few, words, beats)
