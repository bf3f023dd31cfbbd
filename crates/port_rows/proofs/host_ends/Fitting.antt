-- What a host's stand-in shows fits its ports.
use Rattle.std.proofs.Common.{◌≡◌, ◌-◌, ◌*◌, ◌/◌, ◌^◌, ◌<◌, ◌≤◌, ℕ, zero, suc, Bool, true, false, nat_eq, List, [], ◌∷◌, length, All, IsTrue, IsFalse, if◌then◌else◌, refl, sym, subst, arith}
use Rattle.std.proofs.lemmas.Bool.Decides.{nat_tests}
use Rattle.std.proofs.lemmas.List.Elements.{All-nil, All-cons, All-append, All-map, All-replicate, All-tail}
use Rattle.std.proofs.lemmas.Nat.{pow_pos}
use Rattle.std.proofs.Math.Nat.{div-lt_iff_lt-mul}
use Rattle.std.proofs.Math.Pow.{pow-lt}
use Rattle.iface_roles.specs.declared.records.HostPort.{HostPort}
use Rattle.iface_roles.specs.Proper.{IsWordSize, IsBoundedHost}
use Rattle.histories.specs.History.{is_raised}
use Rattle.port_tables.specs.Ports.{bits_if}
use Rattle.scenario_tables.specs.declared.statements.HostStatement.{HostStatement}
use Rattle.scenario_tables.specs.declared.statements.HostStatement.TheVariants.{Idle, Write, Read}
use Rattle.scenario_tables.specs.Statements.{FitsCommand, FitsHost, all_lanes}
use Rattle.stand_ins.specs.Steps.{Step, all_steps, left_after, port_address, read_command, resting, shown, steps_of, write_beat}
use Rattle.stand_ins.specs.Steps.Step.{Rests, Presents}
use Rattle.stand_ins.specs.HostsStandIns.{left_before}
use Rattle.port_rows.specs.Inputs.{FitsPort}
use Rattle.port_rows.specs.Hosts.{FitsPorts}

-- ---- one signal

some_bytes : (bytes : ℕ) → IsWordSize bytes → 0 < bytes
some_bytes bytes size = subst (λ (n : ℕ). 0 < n) (sym size.power) (pow_pos size.exponent)

low_fits : (width : ℕ) → FitsPort width 0 0
low_fits width = record { room = λ some. pow_pos width; default = λ none. refl }

high_fits : (present : Bool) → IsTrue present → FitsPort (bits_if present 1) 0 1
high_fits true there = record { room = λ some. omega arith; default = λ none. absurd (omega arith) }
high_fits false there = absurd (cc)

word_fits : (present : Bool) (width word : ℕ) → IsTrue present → 0 < width → word < 2 ^ width → FitsPort (bits_if present width) 0 word
word_fits true width word there some fits = record { room = λ _. fits; default = λ none. absurd (omega arith) }
word_fits false width word there some fits = absurd (cc)

enables_fit : (present : Bool) (bytes enables : ℕ) → 0 < bytes → enables ≤ all_lanes bytes → (IsFalse present → enables ≡ all_lanes bytes)
    → FitsPort (bits_if present bytes) (all_lanes bytes) enables
enables_fit true bytes enables some within all = let power = pow_pos bytes in record { room = λ _. omega arith; default = λ none. absurd (omega arith) }
enables_fit false bytes enables some within all = record { room = λ one. absurd (omega arith); default = λ none. all refl }

resting_enables_fit : (present : Bool) (bytes : ℕ) → 0 < bytes → FitsPort (bits_if present bytes) (all_lanes bytes) (if present then 0 else all_lanes bytes)
resting_enables_fit true bytes some = record { room = λ _. pow_pos bytes; default = λ none. absurd (omega arith) }
resting_enables_fit false bytes some = record { room = λ one. absurd (omega arith); default = λ none. refl }

count_fits : (bits count : ℕ) → 1 ≤ count → count ≤ 2 ^ (bits - 1) → FitsPort bits 1 count
count_fits zero count some few = record { room = λ one. absurd (omega arith); default = λ none. omega arith }
count_fits (suc bits) count some few =
    let more : 2 ^ (suc bits - 1) < 2 ^ suc bits = pow-lt (omega arith) in
    record { room = λ one. omega arith; default = λ none. absurd (omega arith) }

resting_count_fits : (bits : ℕ) → FitsPort bits 1 (if nat_eq bits 0 then 1 else 0)
resting_count_fits zero = record { room = λ one. absurd (omega arith); default = λ none. refl }
resting_count_fits (suc bits) =
    let some : nat_eq (suc bits) 0 ≡ false = grind (arith, nat_tests) in
    rw some (record { room = λ _. pow_pos (suc bits); default = λ none. absurd (omega arith) })

counted_fits : (in_bytes : Bool) (bits bytes address : ℕ) → 0 < bytes → address < 2 ^ bits * (if in_bytes then 1 else bytes)
    → (if in_bytes then address else address / bytes) < 2 ^ bits
counted_fits true bits bytes address some fits = omega arith
counted_fits false bits bytes address some fits = (div-lt_iff_lt-mul some).1 fits

address_fits : (port : HostPort) (address enables count : ℕ) → IsBoundedHost port → FitsCommand port address enables count → FitsPort port.address_bits 0 (port_address port address)
address_fits port address enables count bounded fits =
    let addressed = bounded.addressed in
    record {
      room = λ _. counted_fits port.byte_units port.address_bits port.word_bytes address (some_bytes port.word_bytes bounded.ports.word) fits.address_is;
      default = λ none. absurd (omega arith);
    }

-- ---- a step

resting_fits : (port : HostPort) → IsBoundedHost port → FitsPorts port (resting port)
resting_fits port bounded = record {
  address = low_fits port.address_bits;
  read = low_fits (bits_if port.reads 1);
  write = low_fits (bits_if port.writes 1);
  word = low_fits (bits_if port.writes (8 * port.word_bytes));
  enables = resting_enables_fit port.enables port.word_bytes (some_bytes port.word_bytes bounded.ports.word);
  count = resting_count_fits port.burst_bits;
}

write_fits : (port : HostPort) (address enables count word : ℕ) → IsBoundedHost port → IsTrue port.writes → FitsCommand port address enables count → word < 2 ^ (8 * port.word_bytes)
    → FitsPorts port (write_beat port address enables count word)
write_fits port address enables count word bounded writes fits room =
    let some = some_bytes port.word_bytes bounded.ports.word in
    record {
      address = address_fits port address enables count bounded fits;
      read = low_fits (bits_if port.reads 1);
      write = high_fits port.writes writes;
      word = word_fits port.writes (8 * port.word_bytes) word writes (omega arith) room;
      enables = enables_fit port.enables port.word_bytes enables some fits.enables_are fits.all_enabled;
      count = count_fits port.burst_bits count fits.some fits.few;
    }

read_fits : (port : HostPort) (address enables count : ℕ) → IsBoundedHost port → IsTrue port.reads → FitsCommand port address enables count → FitsPorts port (read_command port address enables count)
read_fits port address enables count bounded reads fits = record {
  address = address_fits port address enables count bounded fits;
  read = high_fits port.reads reads;
  write = low_fits (bits_if port.writes 1);
  word = low_fits (bits_if port.writes (8 * port.word_bytes));
  enables = enables_fit port.enables port.word_bytes enables (some_bytes port.word_bytes bounded.ports.word) fits.enables_are fits.all_enabled;
  count = count_fits port.burst_bits count fits.some fits.few;
}

-- ---- the steps of a script

-- a beat fits the ports
abbrev pub StepFits : HostPort → Step → Type 0
StepFits port Rests = Unit {0}
StepFits port (Presents levels) = FitsPorts port levels

statement_fits : (port : HostPort) (statement : HostStatement) → IsBoundedHost port → FitsHost port statement → All (StepFits port) (steps_of port statement)
statement_fits port (Idle cycles) bounded fits = All-replicate (StepFits port) cycles Rests tt
statement_fits port (Write address enables words) bounded fits =
    All-map (StepFits port) (λ word. Presents (write_beat port address enables (length words) word)) words
    (λ k d less. write_fits port address enables (length words) _ bounded fits.writes fits.command (fits.fit k d less))
statement_fits port (Read address enables count) bounded fits =
    All-cons (StepFits port) _ [] (read_fits port address enables count bounded fits.reads fits.command) (All-nil (StepFits port))

pub script_fits : (port : HostPort) → IsBoundedHost port → (script : List HostStatement) → All (FitsHost port) script → All (StepFits port) (all_steps port script)
script_fits port bounded [] fits = All-nil (StepFits port)
script_fits port bounded (first ∷ later) fits =
    All-append (StepFits port) (steps_of port first) (all_steps port later) (statement_fits port first bounded (fits 0 first (omega arith)))
    (script_fits port bounded later (All-tail (FitsHost port) first later fits))

left_fits : (port : HostPort) (steps : List Step) (waits : Bool) → All (StepFits port) steps → All (StepFits port) (left_after steps waits)
left_fits port [] waits fits = fits
left_fits port (Rests ∷ later) waits fits = All-tail (StepFits port) Rests later fits
left_fits port (Presents levels ∷ later) true fits = fits
left_fits port (Presents levels ∷ later) false fits = All-tail (StepFits port) (Presents levels) later fits

pub left_before_fits : (port : HostPort) (steps : List Step) (waitrequest : ℕ → ℕ) (c : ℕ) → All (StepFits port) steps → All (StepFits port) (left_before steps waitrequest c)
left_before_fits port steps waitrequest zero fits = fits
left_before_fits port steps waitrequest (suc c) fits = left_fits port (left_before steps waitrequest c) (is_raised (waitrequest c)) (left_before_fits port steps waitrequest c fits)

pub shown_fits : (port : HostPort) → IsBoundedHost port → (steps : List Step) → All (StepFits port) steps → FitsPorts port (shown port steps)
shown_fits port bounded [] fits = resting_fits port bounded
shown_fits port bounded (Rests ∷ later) fits = resting_fits port bounded
shown_fits port bounded (Presents levels ∷ later) fits = fits 0 (Presents levels) (omega arith)
