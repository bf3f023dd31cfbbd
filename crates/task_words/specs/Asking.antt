-- The words that ask for a module that leads beats by their channels.
use Rattle.std.specs.Prelude.{◌≡◌, ℕ, ◌+◌, ◌<◌, List, [], ◌∷◌, codes, decimal, length, map}
use Rattle.routed_modules.specs.declared.routed.Routed.{Routed}
use Rattle.routed_modules.specs.declared.routed.Routed.TheVariants as routed
use Rattle.routed_modules.specs.Routed.{HaveSizes}

-- its word, and its numbers
abbrev pub module_word : Routed → List ℕ
module_word (routed.Multiplexer inputs symbols bits) = codes "mux"
module_word (routed.Demultiplexer outputs symbols bits) = codes "demux"
module_word (routed.Gatherer channels symbols parts bits) = codes "gather"

abbrev pub numbers_of : Routed → List ℕ
numbers_of (routed.Multiplexer inputs symbols bits) = inputs ∷ symbols ∷ bits ∷ []
numbers_of (routed.Demultiplexer outputs symbols bits) = outputs ∷ symbols ∷ bits ∷ []
numbers_of (routed.Gatherer channels symbols parts bits) = channels ∷ symbols ∷ parts ∷ bits ∷ []

-- it is one of those with packets
abbrev pub HasPackets : Routed → Type 0
HasPackets (routed.Multiplexer inputs symbols bits) = Unit {0}
HasPackets (routed.Demultiplexer outputs symbols bits) = Unit {0}
HasPackets (routed.Gatherer channels symbols parts bits) = ⊥

-- the word is that of one with packets
abbrev pub IsPacketsWord : List ℕ → Type 0
IsPacketsWord word = (wanted : Routed) × HasPackets wanted × (module_word wanted ≡ word)

-- the word is that of such a module
abbrev pub IsModuleWord : List ℕ → Type 0
IsModuleWord word = (wanted : Routed) × (module_word wanted ≡ word)

-- so many words are the module's, and its numbers are in their ranges
abbrev pub AreWordsOf : Routed → ℕ → Type 0
AreWordsOf wanted words = (words ≡ length (numbers_of wanted) + 1) × HaveSizes wanted

-- the words are its own, each number in decimal without leading zeros, and the numbers are in their ranges
pub record AsksForModule (wanted : Routed) (words : List (List ℕ)) : Type 0 where
  pub words_are : words ≡ module_word wanted ∷ map decimal (numbers_of wanted)
  pub sizes : HaveSizes wanted

-- a word spells a number below 256
pub record IsSpelled (word : List ℕ) (number : ℕ) : Type 0 where
  pub is : word ≡ decimal number
  pub small : number < 256

-- three words spell these numbers
pub record AreSpelled (first second third : List ℕ) (a b c : ℕ) : Type 0 where
  pub first_is : IsSpelled first a
  pub second_is : IsSpelled second b
  pub third_is : IsSpelled third c
