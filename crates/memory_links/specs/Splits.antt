-- The machine of a splitter: commands of one beat go from wide words to the narrow words of the agent, piece by piece, and their
-- answers are gathered.
use Rattle.std.specs.Prelude.{◌≡◌, ℕ, suc, ◌+◌, ◌-◌, ◌*◌, ◌/◌, ◌%◌, ◌^◌, ◌<◌, max, Bool, true, false, ◌&&◌, ◌||◌, List, [], ◌∷◌, length, filter, drop, if◌then◌else◌, nat_lt, nat_eq, Some, slice_get}
use Rattle.histories.specs.History.{is_raised, one_if, numbers}
use Rattle.memory_runs.specs.Views.{Shape, levels_at}
use Rattle.memory_runs.specs.Operations.{Beat, pieces}
use Rattle.memory_runs.specs.Commands.{shows}
use Rattle.memory_runs.specs.Legal.{Word}
use Rattle.memory_machines.specs.Link.{Target, Port, takes}
use Rattle.memory_machines.specs.Machines.{Raw, raw_at, parts_at, split_parts, beat_of, piece_of, is_touched}
use Rattle.memory_links.specs.Selects.{takes_read}
use Rattle.memory_links.specs.Links.{LinkForm}

abbrev pub or_first_piece : List ℕ → List ℕ
or_first_piece [] = 0 ∷ []
or_first_piece (x ∷ xs) = x ∷ xs

-- the pieces that are asked of a read beat, by number: those with an enabled lane, or the first one where none has
abbrev pub pieces_asked : Shape → Shape → Beat → List ℕ
pieces_asked wide narrow beat =
    or_first_piece (filter (λ piece. is_touched (piece_of narrow.word_bytes beat piece)) (numbers 0 (pieces wide narrow)))

abbrev pub are_same : List ℕ → List ℕ → Bool
are_same [] [] = true
are_same [] (y ∷ ys) = false
are_same (x ∷ xs) [] = false
are_same (x ∷ xs) (y ∷ ys) = nat_eq x y && are_same xs ys

-- the registers, as each cycle begins
pub record SplitState : Type 0 where
  pub place : ℕ → ℕ  -- how many parts of the beat that stands have gone
  pub set : ℕ → List ℕ  -- the pieces of the reads under way, the same for all
  pub reads : ℕ → ℕ  -- reads accepted above and not answered
  pub come : ℕ → ℕ  -- how many pieces of the next word have come
  pub gathered : ℕ → Word  -- what they hold

abbrev pub asked_at : Port → Port → ℕ → List ℕ
asked_at up down c = pieces_asked up.shape down.shape (beat_of up.shape (levels_at up.commands.signals c))

abbrev pub split_at : Port → Port → ℕ → List Raw
split_at up down c = parts_at (split_parts up.shape down.shape) up c

-- a read goes on only where there is room, and begins only where no read under way has other pieces
abbrev pub opens : ℕ → Port → Port → SplitState → ℕ → Bool
opens room up down state c =
    is_raised (up.commands.write c)
    || (nat_lt (state.reads c) room
    && (nat_lt 0 (state.place c) || (nat_eq (state.reads c) 0 || are_same (state.set c) (asked_at up down c))))

-- the word that comes below is the last one of a word above
abbrev pub completes : SplitState → ℕ → Bool
completes state c = nat_lt (length (state.set c)) (suc (suc (state.come c)))

abbrev pub nothing : Word
nothing = record { word = 0; code = 0 }

-- a piece over the pieces below it, at the first of these places; with no place it is left out
abbrev pub put_piece : ℕ → List ℕ → ℕ → ℕ → ℕ
put_piece bytes [] gathered piece = gathered
put_piece bytes (place ∷ later) gathered piece = gathered % 256 ^ (place * bytes) + piece * 256 ^ (place * bytes)

-- the piece of a word with this number, of so many bytes
abbrev pub piece_at : ℕ → ℕ → ℕ → ℕ
piece_at bytes word place = (word / 256 ^ (place * bytes)) % 256 ^ bytes

-- a piece is put at the first of these places, and those below it stay. The others are free, and with no place all are
abbrev pub IsPut : ℕ → List ℕ → ℕ → ℕ → ℕ → Type 0
IsPut bytes [] before piece after = Unit {0}
IsPut bytes (place ∷ later) before piece after =
    (piece_at bytes after place ≡ piece)
    × ((lower : ℕ) → lower < place → piece_at bytes after lower ≡ piece_at bytes before lower)

-- what is gathered with the word that comes
pub record IsAdded (bytes : ℕ) (places : List ℕ) (before came after : Word) : Type 0 where
  pub word : IsPut bytes places before.word (came.word % 256 ^ bytes) after.word
  pub code : after.code ≡ max before.code came.code

-- and in a cycle
abbrev pub AddsTo : Port → SplitState → ℕ → Word → Type 0
AddsTo down state c after =
    IsAdded down.shape.word_bytes (drop (state.come c) (state.set c)) (state.gathered c)
    (record { word = down.answers.word c; code = down.answers.code c }) after

pub record RunsAsSplit (room : ℕ) (up down : Port) (state : SplitState) : Type 0 where
  -- commands
  pub shown : (c : ℕ)
      → shows down.commands.signals c
      ≡ (shows up.commands.signals c && opens room up down state c) && nat_lt (state.place c) (length (split_at up down c))
  pub part : (c : ℕ) → shows down.commands.signals c ≡ true
      → slice_get (split_at up down c) (state.place c) ≡ Some (raw_at down c)
  pub accepts : (c : ℕ) → takes up c ≡ (shows up.commands.signals c && opens room up down state c)
      && (nat_eq (length (split_at up down c)) 0 || (takes down c && nat_eq (suc (state.place c)) (length (split_at up down c))))
  pub place_begins : state.place 0 ≡ 0
  pub place_next : (c : ℕ)
      → state.place (suc c) ≡ (if takes up c then 0 else if takes down c then suc (state.place c) else state.place c)
  pub set_next : (c : ℕ) → state.set (suc c) ≡ (if takes_read down c then asked_at up down c else state.set c)
  pub reads_begin : state.reads 0 ≡ 0
  -- a word that isn't owed leaves the count at 0
  pub reads_next : (c : ℕ)
      → state.reads (suc c) ≡ (state.reads c + one_if (takes_read up c)) - one_if (is_raised (up.answers.valid c))
  -- answers
  pub come_begins : state.come 0 ≡ 0
  pub come_next : (c : ℕ)
      → state.come (suc c)
      ≡ (if is_raised (down.answers.valid c) then (if completes state c then 0 else suc (state.come c)) else state.come c)
  pub gathered_begins : (state.gathered 0).code ≡ 0
  pub gathered_stays : (c : ℕ) → is_raised (down.answers.valid c) ≡ false → state.gathered (suc c) ≡ state.gathered c
  pub gathered_more : (c : ℕ) → is_raised (down.answers.valid c) ≡ true → completes state c ≡ false
      → AddsTo down state c (state.gathered (suc c))
  pub gathered_anew : (c : ℕ) → is_raised (down.answers.valid c) ≡ true → completes state c ≡ true
      → (state.gathered (suc c)).code ≡ 0
  pub valid : (c : ℕ) → is_raised (up.answers.valid c) ≡ (is_raised (down.answers.valid c) && completes state c)
  -- pieces that weren't asked are free
  pub given : (c : ℕ) → is_raised (up.answers.valid c) ≡ true
      → AddsTo down state c (record { word = up.answers.word c; code = up.answers.code c })

-- the parts behind the one that is shown
abbrev pub split_rest : Port → Port → SplitState → ℕ → List Raw
split_rest up down state c = drop (suc (state.place c)) (split_at up down c)

-- it holds nothing. Its rank is 1 while a word is owed below, and its words are gathered, so not word for word
abbrev pub split_form : Target → LinkForm
split_form target =
    record
    { target = target; hold = 0; paces = record { largest = 1; hold = 0 } ∷ []; word_for_word = false; makes_lanes = false }
