-- Symbols of words that have the first symbol in the high-order bits.
use Rattle.std.specs.Prelude.{ℕ, zero, suc, ◌+◌, ◌-◌, ◌*◌, ◌/◌, ◌%◌, ◌^◌, ◌==◌, nat_le, if◌then◌else◌}

-- symbol k of a word of so many
abbrev pub symbol : ℕ → ℕ → ℕ → ℕ → ℕ
symbol bits size word k = word / 2 ^ (bits * (size - 1 - k)) % 2 ^ bits

-- the symbols of a word behind so many, so many as are wanted, with zeros where the word has no more
abbrev pub cut_of : ℕ → ℕ → ℕ → ℕ → ℕ → ℕ
cut_of bits size skipped wanted word =
    if nat_le size skipped
    then 0
    else (if nat_le wanted (size - skipped)
    then word / 2 ^ (bits * (size - skipped - wanted)) % 2 ^ (bits * wanted)
    else word % 2 ^ (bits * (size - skipped)) * 2 ^ (bits * (wanted - (size - skipped))))

-- so many symbols of a word that is held, and behind them those of the word that comes, as many as fit
abbrev pub front_at : ℕ → ℕ → ℕ → ℕ → ℕ → ℕ → ℕ → ℕ
front_at bits from into held word coming k =
    if k == 0 then cut_of bits from 0 into coming
    else cut_of bits held 0 k word * 2 ^ (bits * (into - k)) + cut_of bits from 0 (into - k) coming

-- what is left of the word that comes, behind those
abbrev pub rest_at : ℕ → ℕ → ℕ → ℕ → ℕ → ℕ → ℕ
rest_at bits from into held coming k = cut_of bits from (into - k) held coming

-- a choice by a count, up to a largest one: where it is none of these, as for none
abbrev pub chosen_at : ℕ → (ℕ → ℕ) → ℕ → ℕ
chosen_at count choice zero = choice 0
chosen_at count choice (suc k) = if count == suc k then choice (suc k) else chosen_at count choice k

-- a choice by a count below a bound: where it is none of these, this one
abbrev pub chosen_below : ℕ → (ℕ → ℕ) → ℕ → ℕ → ℕ
chosen_below count choice other zero = other
chosen_below count choice other (suc k) = if count == k then choice k else chosen_below count choice other k
