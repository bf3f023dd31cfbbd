-- Four words, and what words of a module are.
use Rattle.std.proofs.Common.{◌≡◌, ◌⊎◌, inl, inr, ℕ, List, [], ◌∷◌, length, map, get_or, codes, refl, sym, ap, ◌∙◌, arith}
use Rattle.std.specs.Prelude.{decimal, Bool, true, false, not}
use Rattle.std.specs.Str.{bytes_eq}
use Rattle.std.proofs.lemmas.Bool.{cases_Bool}
use Rattle.std.proofs.lemmas.Slice.Eq.{bytes_eq-Decides}
use Rattle.std.proofs.lemmas.List.{length-map}
use Rattle.std.proofs.lemmas.Fmt.{decimal_injective}
use Rattle.routed_modules.specs.declared.routed.Routed.{Routed}
use Rattle.routed_modules.specs.declared.routed.Routed.TheVariants.{Multiplexer, Demultiplexer, Gatherer}
use Rattle.routed_modules.specs.Demultiplexers.{AreSizes}
use Rattle.task_words.specs.Asking.{module_word, numbers_of, HasPackets, AsksForModule, IsSpelled, AreSpelled}
use Rattle.task_words.specs.OneModule.{bits_few, gathered_bits, mux_apart}

-- four words, each by its place
pub four_words : {A B : Type 0} (f : A → B) (ws : List A) (a b c d : A) → length ws ≡ 4 → a ≡ get_or ws 0 a → b ≡ get_or ws 1 b → c ≡ get_or ws 2 c → d ≡ get_or ws 3 d
    → map f ws ≡ f a ∷ f b ∷ f c ∷ f d ∷ []
four_words f [] a b c d e p q r s = absurd (omega (arith, e))
four_words f (v ∷ []) a b c d e p q r s = absurd (omega (arith, e))
four_words f (v ∷ w ∷ []) a b c d e p q r s = absurd (omega (arith, e))
four_words f (v ∷ w ∷ x ∷ []) a b c d e p q r s = absurd (omega (arith, e))
four_words f (v ∷ w ∷ x ∷ y ∷ []) a b c d e p q r s = rw (p, q, r, s) refl
four_words f (v ∷ w ∷ x ∷ y ∷ z ∷ more) a b c d e p q r s = absurd (omega (arith, e))

pub five_words : {A B : Type 0} (f : A → B) (ws : List A) (a b c d e : A) → length ws ≡ 5 → a ≡ get_or ws 0 a → b ≡ get_or ws 1 b → c ≡ get_or ws 2 c → d ≡ get_or ws 3 d → e ≡ get_or ws 4 e
    → map f ws ≡ f a ∷ f b ∷ f c ∷ f d ∷ f e ∷ []
five_words f [] a b c d e size p q r s t = absurd (omega (arith, size))
five_words {B = B} f (v ∷ ws) a b c d e size p q r s t = rw p (ap (λ (more : List B). f v ∷ more) (four_words f ws b c d e (omega (arith, size)) q r s t))

-- words of a module with packets are four
pub asked_four : {A : Type 0} (f : A → List ℕ) (ws : List A) (wanted : Routed) → HasPackets wanted → AsksForModule wanted (map f ws) → length ws ≡ 4
asked_four f ws (Gatherer channels symbols parts bits) has asks = absurd has
asked_four f ws (Multiplexer inputs symbols bits) has asks = let size : length (map f ws) ≡ length ws = length-map ws f in sym size ∙ ap length asks.words_are
asked_four f ws (Demultiplexer outputs symbols bits) has asks = let size : length (map f ws) ≡ length ws = length-map ws f in sym size ∙ ap length asks.words_are

-- the first of them is the word of the module, and the others spell its numbers
pub record AreAsked (wanted : Routed) (first second third fourth : List ℕ) : Type 0 where
  pub ends : ℕ
  pub symbols : ℕ
  pub bits : ℕ
  pub first_is : first ≡ module_word wanted
  pub numbers : numbers_of wanted ≡ ends ∷ symbols ∷ bits ∷ []
  pub spelled : AreSpelled second third fourth ends symbols bits

spelled_of : (a b c d word : List ℕ) (ends symbols bits : ℕ) → a ∷ b ∷ c ∷ d ∷ [] ≡ word ∷ decimal ends ∷ decimal symbols ∷ decimal bits ∷ [] → AreSizes ends symbols bits → AreSpelled b c d ends symbols bits
spelled_of a b c d word ends symbols bits e sizes =
    let most = sizes.few_ends in
    let few = sizes.few_symbols in
    let narrow = bits_few symbols bits sizes.some_symbols sizes.narrow in
    record {
      first_is = record { is = ap (λ (ws : List (List ℕ)). get_or ws 1 []) e; small = omega (arith, most) };
      second_is = record { is = ap (λ (ws : List (List ℕ)). get_or ws 2 []) e; small = omega (arith, few) };
      third_is = record { is = ap (λ (ws : List (List ℕ)). get_or ws 3 []) e; small = omega (arith, narrow) };
    }

pub asked_as : (a b c d : List ℕ) (wanted : Routed) → HasPackets wanted → AsksForModule wanted (a ∷ b ∷ c ∷ d ∷ []) → AreAsked wanted a b c d
asked_as a b c d (Gatherer channels symbols parts bits) has asks = absurd has
asked_as a b c d (Multiplexer inputs symbols bits) has asks = record {
  ends = inputs;
  symbols = symbols;
  bits = bits;
  first_is = ap (λ (ws : List (List ℕ)). get_or ws 0 []) asks.words_are;
  numbers = refl;
  spelled = spelled_of a b c d (codes "mux") inputs symbols bits asks.words_are asks.sizes;
}
asked_as a b c d (Demultiplexer outputs symbols bits) has asks = record {
  ends = outputs;
  symbols = symbols;
  bits = bits;
  first_is = ap (λ (ws : List (List ℕ)). get_or ws 0 []) asks.words_are;
  numbers = refl;
  spelled = spelled_of a b c d (codes "demux") outputs symbols bits asks.words_are asks.sizes;
}

-- a module is known by its word and its numbers
pub known_by : (one other : Routed) → module_word one ≡ module_word other → numbers_of one ≡ numbers_of other → one ≡ other
known_by (Multiplexer a b c) (Multiplexer d e f) word numbers = cc
known_by (Demultiplexer a b c) (Demultiplexer d e f) word numbers = cc
known_by (Gatherer a b c d) (Gatherer e f g h) word numbers = cc
known_by (Multiplexer a b c) (Gatherer e f g h) word numbers = absurd (let same = ap length numbers in omega (arith, same))
known_by (Gatherer a b c d) (Multiplexer e f g) word numbers = absurd (let same = ap length numbers in omega (arith, same))
known_by (Demultiplexer a b c) (Gatherer e f g h) word numbers = absurd (let same = ap length numbers in omega (arith, same))
known_by (Gatherer a b c d) (Demultiplexer e f g) word numbers = absurd (let same = ap length numbers in omega (arith, same))
known_by (Multiplexer a b c) (Demultiplexer d e f) word numbers = absurd (mux_apart word)
known_by (Demultiplexer a b c) (Multiplexer d e f) word numbers = absurd (mux_apart (sym word))

pub numbers_same : (a b c d e f : ℕ) → a ≡ d → b ≡ e → c ≡ f → a ∷ b ∷ c ∷ [] ≡ d ∷ e ∷ f ∷ []
numbers_same a b c d e f p q r = rw (p, q, r) refl

-- a word spells one number
pub one_spelled : (word other : List ℕ) (m n : ℕ) → word ≡ other → IsSpelled word m → IsSpelled other n → m ≡ n
one_spelled word other m n e p q = let few = p.small in let less = q.small in decimal_injective m n (omega (arith, few)) (omega (arith, less)) (sym p.is ∙ e ∙ q.is)

-- those with packets have one of two words
pub packets_words : (word : List ℕ) (wanted : Routed) → HasPackets wanted → module_word wanted ≡ word → (word ≡ codes "mux") ⊎ (word ≡ codes "demux")
packets_words word (Multiplexer inputs symbols bits) has e = inl (sym e)
packets_words word (Demultiplexer outputs symbols bits) has e = inr (sym e)
packets_words word (Gatherer channels symbols parts bits) has e = absurd has

-- a module has packets, or is a gatherer
pub packets_or : (word : List ℕ) (wanted : Routed) → module_word wanted ≡ word → HasPackets wanted ⊎ (word ≡ codes "gather")
packets_or word (Multiplexer inputs symbols bits) e = inl tt
packets_or word (Demultiplexer outputs symbols bits) e = inl tt
packets_or word (Gatherer channels symbols parts bits) e = inr (sym e)

pub none_asked : (words : List (List ℕ)) → ((wanted : Routed) → HasPackets wanted → ¬ AsksForModule wanted words)
    → ((channels symbols parts bits : ℕ) → ¬ AsksForModule (Gatherer channels symbols parts bits) words) → (wanted : Routed) → ¬ AsksForModule wanted words
none_asked words packets gatherers (Multiplexer inputs symbols bits) asks = packets (Multiplexer inputs symbols bits) tt asks
none_asked words packets gatherers (Demultiplexer outputs symbols bits) asks = packets (Demultiplexer outputs symbols bits) tt asks
none_asked words packets gatherers (Gatherer channels symbols parts bits) asks = gatherers channels symbols parts bits asks

-- ---- gatherers

-- their words are five
pub asked_five : {A : Type 0} (f : A → List ℕ) (ws : List A) (channels symbols parts bits : ℕ) → AsksForModule (Gatherer channels symbols parts bits) (map f ws) → length ws ≡ 5
asked_five f ws channels symbols parts bits asks = let size : length (map f ws) ≡ length ws = length-map ws f in sym size ∙ ap length asks.words_are

-- all but the first spell their numbers
pub record SpellGatherer (second third fourth fifth : List ℕ) (channels symbols parts bits : ℕ) : Type 0 where
  pub spelled : AreSpelled second third fourth channels symbols parts
  pub last : IsSpelled fifth bits

pub gatherer_asked_as : (a b c d e : List ℕ) (channels symbols parts bits : ℕ) → AsksForModule (Gatherer channels symbols parts bits) (a ∷ b ∷ c ∷ d ∷ e ∷ []) → SpellGatherer b c d e channels symbols parts bits
gatherer_asked_as a b c d e channels symbols parts bits asks =
    let ends = asks.sizes.few_channels in
    let few = asks.sizes.few_symbols in
    let pieces = asks.sizes.few_parts in
    let narrow = gathered_bits symbols parts bits asks.sizes.some_symbols asks.sizes.some_parts asks.sizes.narrow in
    record {
      spelled = record {
        first_is = record { is = ap (λ (ws : List (List ℕ)). get_or ws 1 []) asks.words_are; small = omega (arith, ends) };
        second_is = record { is = ap (λ (ws : List (List ℕ)). get_or ws 2 []) asks.words_are; small = omega (arith, few) };
        third_is = record { is = ap (λ (ws : List (List ℕ)). get_or ws 3 []) asks.words_are; small = omega (arith, pieces) };
      };
      last = record { is = ap (λ (ws : List (List ℕ)). get_or ws 4 []) asks.words_are; small = omega (arith, narrow) };
    }

-- a word that isn't another is the one
pub the_word : (word other : List ℕ) (differ : Bool) → differ ≡ not (bytes_eq word other) → differ ≡ false → word ≡ other
the_word word other differ is same = by_case (cases_Bool (bytes_eq word other))
  where
    by_case : (bytes_eq word other ≡ true) ⊎ (bytes_eq word other ≡ false) → word ≡ other
    by_case (inl alike) = (bytes_eq-Decides word other).0 alike
    by_case (inr apart) = absurd (let e : differ ≡ true = is ∙ ap not apart in cc)
