-- A machine that is a gatherer: it keeps the words that came on each channel until the last part of a beat comes, which goes
-- through with them.
use Rattle.std.specs.Prelude.{ℕ, suc, ◌+◌, ◌*◌, ◌^◌, ◌<◌, ◌≡◌, ◌==◌, Bool, not, ◌&&◌, ◌||◌, if◌then◌else◌, IsTrue, List, [], ◌∷◌, length}
use Rattle.stream_runs.specs.View.{Beat, beat_at, is_high, is_transfer}
use Rattle.routed_runs.specs.Routes.{direct}
use Rattle.routed_runs.specs.Gathered.{Gatherer, GathererRun}

-- words of so many bits side by side, the latest first and in the low-order bits
abbrev pub side_by_side : ℕ → List ℕ → ℕ
side_by_side bits [] = 0
side_by_side bits (word ∷ words) = side_by_side bits words * 2 ^ bits + word

-- with one more word these make a beat
abbrev pub completes : Gatherer → List ℕ → Bool
completes gatherer words = length words + 1 == gatherer.parts

-- a beat with no marks
abbrev pub plain_beat : ℕ → ℕ → Beat
plain_beat channel word = record { word = word; channel = channel; error = 0; first = 0; last = 0; empty = 0 }

-- the words that channel k has behind a cycle, if it had these
abbrev pub words_after : Gatherer → GathererRun → ℕ → ℕ → List ℕ → List ℕ
words_after gatherer run k c words =
    if is_transfer direct run.input c && (run.input.channel c == k)
    then (if completes gatherer words then [] else run.input.word c ∷ words) else words

-- the words of each channel as a cycle begins, the latest first, and whether the word that comes may complete a beat
pub record Started : Type 0 where
  pub held : ℕ → ℕ → List ℕ
  pub ends : ℕ → Bool

pub record IsGathererRun (gatherer : Gatherer) (run : GathererRun) (started : Started) : Type 0 where
  pub starts : (k : ℕ) → k < gatherer.channels → started.held 0 k ≡ []
  pub moves : (c k : ℕ) → k < gatherer.channels → started.held (suc c) k ≡ words_after gatherer run k c (started.held c k)
  pub fits : (c : ℕ) → run.input.word c < 2 ^ (gatherer.bits * gatherer.symbols)
  pub ends_is : (c : ℕ) → run.input.channel c < gatherer.channels
      → started.ends c ≡ completes gatherer (started.held c (run.input.channel c))
  -- the beat that a word completes goes out with it
  pub valid : (c : ℕ) → is_high run.output.valid c ≡ (is_high run.input.valid c && started.ends c)
  pub beat : (c : ℕ) → run.input.channel c < gatherer.channels → IsTrue (is_high run.output.valid c)
      → beat_at run.output c
      ≡ plain_beat (run.input.channel c)
      (side_by_side (gatherer.bits * gatherer.symbols) (run.input.word c ∷ started.held c (run.input.channel c)))
  -- another word is taken at once
  pub ready : (c : ℕ) → is_high run.input.ready c ≡ (not (started.ends c) || is_high run.output.ready c)
