-- Symbols in a row on the nets of a beat, whose empty says how many they are.
use Rattle.std.specs.Prelude.{ℕ, ◌+◌, ◌-◌, ◌%◌, ◌^◌, Bool, ◌&&◌, ◌||◌, ◌==◌, nat_lt, if◌then◌else◌, bit_or}
use Rattle.stage_core.specs.Groups.{Shown}
use Rattle.st_windows.specs.declared.sizes.WindowSizes.{WindowSizes}
use Rattle.st_windows.specs.Cuts.{cut_of, front_at, rest_at, chosen_at, chosen_below}

-- so many held and those of the beat that comes
abbrev pub joined_count : WindowSizes → ℕ → Shown → ℕ
joined_count sizes held from =
    (held
    + (sizes.from
    + (2 ^ sizes.count
    - (if from.beat.last == 1 then from.beat.empty % 2 ^ sizes.count else 0))) % 2 ^ sizes.count) % 2 ^ sizes.count

-- what is held makes a beat by itself
abbrev pub is_alone : WindowSizes → Shown → Bool
is_alone sizes held = nat_lt (sizes.into - 1) held.beat.empty || (held.beat.last == 1)

-- the symbols of a beat: those that are held, and behind them those of this word
abbrev pub front_of : WindowSizes → Shown → ℕ → ℕ
front_of sizes held coming =
    chosen_below held.beat.empty (front_at sizes.bits sizes.from sizes.into sizes.held held.beat.word coming)
    (cut_of sizes.bits sizes.held 0 sizes.into held.beat.word) sizes.into

-- what is held and behind it what comes, valid where it makes a beat, with this word
abbrev pub joined_with : WindowSizes → Shown → Shown → ℕ → Shown
joined_with sizes held from word =
    record {
      valid =
          if (from.valid == 1) && (nat_lt (sizes.into - 1) (joined_count sizes held.beat.empty from) || (from.beat.last == 1))
          then 1 else 0;
      beat = record {
        word = word;
        channel = from.beat.channel;
        error = bit_or held.beat.error from.beat.error;
        first = if held.beat.empty == 0 then from.beat.first else held.beat.first;
        last = from.beat.last;
        empty = joined_count sizes held.beat.empty from;
      };
    }

-- and with the word of a beat
abbrev pub row_joined : WindowSizes → Shown → Shown → Shown
row_joined sizes held from = joined_with sizes held from (front_of sizes held from.beat.word)

-- what is held, alone, with this word
abbrev pub alone_with : Shown → ℕ → Shown
alone_with held word = record { valid = 1; beat = record held.beat { word = word } }

-- and with the word of a beat, in which nothing comes behind what is held
abbrev pub row_alone : WindowSizes → Shown → Shown
row_alone sizes held = alone_with held (front_of sizes held 0)

-- what goes out next
abbrev pub row_next : WindowSizes → Shown → Shown → Shown
row_next sizes held from = if is_alone sizes held then row_alone sizes held else row_joined sizes held from

-- the beat with the first symbols of a row
abbrev pub shown_front : WindowSizes → Shown → Shown
shown_front sizes row =
    record {
      valid = row.valid;
      beat = record row.beat {
        last = if nat_lt sizes.into row.beat.empty then 0 else row.beat.last;
        empty = (sizes.into + (2 ^ sizes.count - row.beat.empty)) % 2 ^ sizes.count;
      };
    }

-- what is left of a row behind a beat, with this word and where something is left with this error
abbrev pub shown_left : WindowSizes → Shown → ℕ → ℕ → Shown
shown_left sizes row word error =
    record {
      valid = 0;
      beat = record {
        word = word;
        channel = row.beat.channel;
        error = if nat_lt sizes.into row.beat.empty then error else 0;
        first = 0;
        last = if nat_lt sizes.into row.beat.empty then row.beat.last else 0;
        empty =
            if nat_lt sizes.into row.beat.empty then (row.beat.empty + (2 ^ sizes.count - sizes.into)) % 2 ^ sizes.count else 0;
      };
    }

-- of the bits of a count those that what is held needs
abbrev pub held_few : WindowSizes → Shown → Shown
held_few sizes x = record { valid = x.valid; beat = record x.beat { empty = x.beat.empty % 2 ^ sizes.held_count } }

-- what is left once a beat has gone
abbrev pub row_behind : WindowSizes → Shown → Shown → Shown
row_behind sizes held from =
    shown_left sizes (row_next sizes held from)
    (if is_alone sizes held then cut_of sizes.bits sizes.held sizes.into sizes.held held.beat.word
    else chosen_at held.beat.empty (rest_at sizes.bits sizes.from sizes.into sizes.held from.beat.word) (sizes.into - 1))
    (if is_alone sizes held then held.beat.error else from.beat.error)

-- what is held then
abbrev pub row_left : WindowSizes → Shown → Shown → Shown
row_left sizes held from = held_few sizes (row_behind sizes held from)

-- and once one has come while none goes
abbrev pub row_gathered : WindowSizes → Shown → Shown
row_gathered sizes row =
    held_few sizes
    (record { valid = 0; beat = record row.beat { word = cut_of sizes.bits sizes.into 0 sizes.held row.beat.word } })
