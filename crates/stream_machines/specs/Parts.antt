-- A beat of more symbols and the beats of fewer symbols that it is made of or comes apart into; both have the first
-- symbol in the high-order bits.
use Rattle.std.specs.Prelude.{ℕ, suc, ◌+◌, ◌-◌, ◌*◌, ◌<◌, ◌≡◌, Bool, true, false, not, ◌&&◌, ◌||◌, ◌==◌, if◌then◌else◌, IsTrue, List, [], ◌∷◌, ◌++◌, map, length, fold, bit_or, drop}
use Rattle.stream_runs.specs.View.{EndView, Beat, Side, beat_at, is_high, is_transfer}
use Rattle.stream_runs.specs.Symbols.{symbol_count, value_of}
use Rattle.stream_runs.specs.Source.{IsLegalSource}
use Rattle.stream_machines.specs.Stage.{Shape, StageRun}

-- the same side with so many symbols in a beat
abbrev pub of_symbols : Side → ℕ → Side
of_symbols side symbols = record side { symbols = symbols }

-- from part number t on the word holds the data of these beats
abbrev pub HoldsWords : Side → Side → ℕ → ℕ → List Beat → Type 0
HoldsWords narrow wide word t [] = Unit {0}
HoldsWords narrow wide word t (beat ∷ beats) =
    ((i : ℕ) → i < symbol_count narrow beat → value_of wide word (narrow.symbols * t + i) ≡ value_of narrow beat.word i)
    × HoldsWords narrow wide word (t + 1) beats

-- all bits that are set in the error of one of the beats
abbrev pub joined_errors : List Beat → ℕ
joined_errors beats = fold bit_or 0 (map (λ (beat : Beat). beat.error) beats)

-- the mark of the first of the beats
abbrev pub first_of_row : List Beat → Beat → ℕ
first_of_row [] latest = latest.first
first_of_row (beat ∷ beats) latest = beat.first

-- the wide beat that joins the beats that came earlier and the latest one. Its empty counts where it ends a packet
pub record IsJoined (narrow wide : Side) (earlier : List Beat) (latest joined : Beat) : Type 0 where
  pub words : HoldsWords narrow wide joined.word 0 (earlier ++ latest ∷ [])
  pub channel : joined.channel ≡ latest.channel
  pub error : joined.error ≡ joined_errors (earlier ++ latest ∷ [])
  pub first : joined.first ≡ first_of_row earlier latest
  pub last : joined.last ≡ latest.last
  pub empty : IsTrue (latest.last == 1) → joined.empty ≡ wide.symbols - narrow.symbols * (length earlier + 1) + latest.empty

-- the beat that is shown upstream makes a wide beat complete
abbrev pub completes : ℕ → EndView → List Beat → ℕ → Bool
completes parts up earlier c = is_high up.valid c && (is_high up.last c || (length earlier + 1 == parts))

-- a machine that gathers beats: it keeps all but the one that completes a wide beat. What it shows of beats that aren't
-- legal is free, since their empty need not fit
pub record IsWidenRun (parts : ℕ) (narrow wide : Side) (up down : EndView) (gathered : ℕ → List Beat) : Type 0 where
  pub starts : gathered 0 ≡ []
  pub asks : (c : ℕ) → is_high up.ready c ≡ (not (completes parts up (gathered c) c) || is_high down.ready c)
  pub valid : (c : ℕ) → is_high down.valid c ≡ completes parts up (gathered c) c
  pub shows : (c : ℕ) → IsLegalSource narrow up (suc c) → IsTrue (is_high down.valid c)
      → IsJoined narrow wide (gathered c) (beat_at up c) (beat_at down c)
  pub same : (b c : ℕ) → b < c → IsLegalSource narrow up (suc c) → IsTrue (is_high down.valid b) → IsTrue (is_high down.valid c)
      → gathered b ≡ gathered c → beat_at up b ≡ beat_at up c → beat_at down b ≡ beat_at down c
  pub moves : (c : ℕ)
      → gathered (suc c)
      ≡ (if is_transfer narrow.pace up c then (if completes parts up (gathered c) c then [] else gathered c ++ beat_at up c ∷ [])
      else gathered c)

-- what the machine promises
abbrev pub widen_shape : (ℕ → Bool) → ℕ → Side → Side → Shape
widen_shape passes parts narrow wide =
    record {
      up =
          narrow;
      down =
          wide;
      passes =
          passes;
      hold =
          (parts - 1) * narrow.symbols;
      rest = (parts - 1) * narrow.symbols;
      step = 0;
      largest = 0;
      needs_ready = false;
    }

-- a run of a stage whose rank is always 0
abbrev pub plain_run : EndView → EndView → StageRun
plain_run up down = record { up = up; down = down; rank = λ _. 0 }

-- ---- a beat that comes apart

-- the last of the beats bears this last mark
abbrev pub LastIs : ℕ → List Beat → Type 0
LastIs last [] = Unit {0}
LastIs last (beat ∷ []) = beat.last ≡ last
LastIs last (beat ∷ (next ∷ beats)) = (beat.last ≡ 0) × LastIs last (next ∷ beats)

-- the first bears this first mark, and the others none
abbrev pub OthersUnmarked : List Beat → Type 0
OthersUnmarked [] = Unit {0}
OthersUnmarked (beat ∷ beats) = (beat.first ≡ 0) × OthersUnmarked beats

abbrev pub FirstIs : ℕ → List Beat → Type 0
FirstIs first [] = Unit {0}
FirstIs first (beat ∷ beats) = (beat.first ≡ first) × OthersUnmarked beats

-- each has this channel and this error, and holds a symbol
abbrev pub AllBear : Side → ℕ → ℕ → List Beat → Type 0
AllBear side channel error [] = Unit {0}
AllBear side channel error (beat ∷ beats) =
    (beat.channel ≡ channel) × (beat.error ≡ error) × (0 < symbol_count side beat) × AllBear side channel error beats

-- how many symbols the beats hold
abbrev pub symbols_held : Side → List Beat → ℕ
symbols_held side [] = 0
symbols_held side (beat ∷ beats) = symbol_count side beat + symbols_held side beats

-- the beats that a wide beat comes apart into
pub record IsSplit (narrow wide : Side) (whole : Beat) (pieces : List Beat) : Type 0 where
  pub words : HoldsWords narrow wide whole.word 0 pieces
  pub bear : AllBear narrow whole.channel whole.error pieces
  pub first : FirstIs whole.first pieces
  pub last : LastIs whole.last pieces
  pub all : symbols_held narrow pieces ≡ symbol_count wide whole

abbrev pub is_none : List Beat → Bool
is_none [] = true
is_none (beat ∷ beats) = false

-- what is to be sent: what is left of a beat, or else the pieces of the beat that is shown upstream
abbrev pub pieces_now : (Beat → List Beat) → EndView → List Beat → ℕ → List Beat
pieces_now pieces_of up [] c = pieces_of (beat_at up c)
pieces_now pieces_of up (beat ∷ beats) c = beat ∷ beats

-- the beat is the first of these
abbrev pub IsFirstOf : Beat → List Beat → Type 0
IsFirstOf shown [] = Unit {0}
IsFirstOf shown (beat ∷ beats) = shown ≡ beat

-- a machine that takes a beat apart: the first piece passes through, and the others are kept
pub record IsNarrowRun (pieces_of : Beat → List Beat) (wide narrow : Side) (up down : EndView)
    (left : ℕ → List Beat) : Type 0 where
  pub starts : left 0 ≡ []
  pub asks : (c : ℕ) → is_high up.ready c ≡ (is_none (left c) && is_high down.ready c)
  pub valid : (c : ℕ) → is_high down.valid c ≡ (not (is_none (left c)) || is_high up.valid c)
  pub shows : (c : ℕ) → IsTrue (is_high down.valid c) → IsFirstOf (beat_at down c) (pieces_now pieces_of up (left c) c)
  pub moves : (c : ℕ)
      → left (suc c) ≡ (if is_transfer narrow.pace down c then drop 1 (pieces_now pieces_of up (left c) c) else left c)

-- what the machine promises
abbrev pub narrow_shape : (ℕ → Bool) → Side → Side → Shape
narrow_shape passes wide narrow =
    record {
      up =
          wide;
      down =
          narrow;
      passes = passes;
      hold = wide.symbols - narrow.symbols;
      rest = 0;
      step = 0;
      largest = 0;
      needs_ready = false;
    }
