-- A source whose first packet waits is legal.
use Rattle.std.proofs.Common.{◌≡◌, ℕ, zero, suc, Bool, true, false, not, refl, sym, ap, arith}
use Rattle.stream_runs.specs.Source.{IsLegalAt, IsHeld, is_open}
use Rattle.routed_runs.specs.Routes.{direct}
use Rattle.routed_runs.specs.Multiplexed.{input_side}
use Rattle.routed_runs.specs.Rows.{two_inputs, waiting_input}

never_open : (c : ℕ) → is_open direct waiting_input c ≡ false
never_open zero = refl
never_open (suc c) = never_open c

held : (c : ℕ) → IsHeld direct waiting_input c
held zero = tt
held (suc c) = λ shown stays. record { valid = refl; beat = refl }

pub waiting_is_legal : (c : ℕ) → IsLegalAt (input_side two_inputs) waiting_input c
waiting_is_legal c =
    record {
      paced = record { allowed = λ shown. refl; held = held c };
      formed = λ shown. record {
        begins = λ packets. sym (ap not (never_open c));
        unmarked = λ none. (let p : ◌≡◌ {A = Bool} true false = none in absurd (cc));
        holds_data = λ ends. omega arith;
        in_range = omega arith;
        one_channel = λ packets opened. (let p : ◌≡◌ {A = Bool} false true = (rw (never_open c) at opened) in absurd (cc));
        quiet = λ none. refl;
      };
    }
