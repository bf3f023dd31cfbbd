-- The codes of words: a word is a block of answers with one code.
use Rattle.std.specs.Prelude.{◌≡◌, ℕ, ◌<◌, max, List, [], ◌∷◌, ◌++◌, length, map, take, drop, filter, flat_map, zip, replicate, nat_lt}
use Rattle.memory_runs.specs.Operations.{Beat, filled_lanes}
use Rattle.memory_runs.specs.Legal.{Word}
use Rattle.memory_runs.specs.Order.{Answer}
use Rattle.memory_machines.specs.Link.{Target, Port, read_beats, taken_at, words_at}

abbrev pub highest : List ℕ → ℕ
highest [] = 0
highest (x ∷ xs) = max x (highest xs)

-- a word that holds so many answers, and its code
pub record Block : Type 0 where
  pub size : ℕ
  pub code : ℕ

abbrev pub flat : List Block → List ℕ
flat [] = []
flat (b ∷ bs) = replicate b.size b.code ++ flat bs

abbrev pub sizes_of : List Block → List ℕ
sizes_of bs = map (λ (b : Block). b.size) bs

-- each word's code is the greatest of the codes of its own answers below
abbrev pub AreGreatest : List Block → List ℕ → Type 0
AreGreatest [] codes = Unit {0}
AreGreatest (b ∷ bs) codes = (0 < b.size → b.code ≡ highest (take b.size codes)) × AreGreatest bs (drop b.size codes)

-- the words that hold an answer
abbrev pub worded : List Block → List Block
worded bs = filter (λ (b : Block). nat_lt 0 b.size) bs

abbrev pub codes_of : List Answer → List ℕ
codes_of answers = map (λ (a : Answer). a.code) answers

abbrev pub block : Target → Port → Beat × Word → List Block
block target port p = record { size = length (filled_lanes port.shape target.shape p.0.enables); code = p.1.code } ∷ []

-- the words that have come at a side
abbrev pub blocks_at : Target → Port → ℕ → List Block
blocks_at target port c = flat_map (block target port) (zip (read_beats (taken_at port c)) (words_at port c))
