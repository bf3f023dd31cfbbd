-- The joined error of symbols, from their errors alone.
use Rattle.std.proofs.Common.{◌≡◌, ℕ, List, [], ◌∷◌, map, refl}
use Rattle.std.specs.List.{fold}
use Rattle.std.specs.Int.Bits.{bit_or}
use Rattle.stream_runs.specs.Symbols.{Symbol, joined_error}

joined_from : (a : ℕ) (xs : List Symbol) → fold (λ error (symbol : Symbol). bit_or error symbol.error) a xs ≡ fold bit_or a (map (λ (symbol : Symbol). symbol.error) xs)
joined_from a [] = refl
joined_from a (x ∷ xs) = joined_from (bit_or a x.error) xs

pub joined_is : (xs : List Symbol) → joined_error xs ≡ fold bit_or 0 (map (λ (symbol : Symbol). symbol.error) xs)
joined_is xs = joined_from 0 xs
