-- Where a base is a multiple of the agent's span, the operations don't depend on whether it is subtracted.
use Rattle.std.proofs.Common.{ℕ, ◌≤◌, ◌≡◌, ◌+◌, ◌-◌, ◌*◌, ◌%◌, [], ◌∷◌, List, arith, refl, sym, ap, ap₂, ◌∙◌, map}
use Rattle.std.proofs.Math.Nat.{add-mul-mod_self_right}
use Rattle.memory_runs.specs.Views.{Shape}
use Rattle.memory_runs.specs.Operations.{Beat, operation_at, operation_of_kind, operations_of, filled_lanes, byte_at}
use Rattle.memory_runs.specs.Order.{from_base}

same_offset : (address base lane span k : ℕ) → base ≡ k * span → base ≤ address → ((address - base) + lane) % span ≡ (address + lane) % span
same_offset address base lane span k e low =
    let sum : address + lane ≡ ((address - base) + lane) + k * span = omega (arith, e, low) in
    sym (ap (λ n. n % span) sum ∙ add-mul-mod_self_right ((address - base) + lane) k span)

pub no_base_needed : (from to : Shape) (span base k : ℕ) (beat : Beat) → base ≡ k * span → base ≤ beat.address → operations_of from to span (from_base base beat) ≡ operations_of from to span beat
no_base_needed from to span base k beat e low = over (filled_lanes from to beat.enables)
  where
    over : (lanes : List ℕ) → map (operation_at span (from_base base beat)) lanes ≡ map (operation_at span beat) lanes
    over [] = refl
    over (lane ∷ lanes) = ap₂ (λ o l. operation_of_kind beat.kind o (byte_at beat.word lane) ∷ l) (same_offset beat.address base lane span k e low) (over lanes)
