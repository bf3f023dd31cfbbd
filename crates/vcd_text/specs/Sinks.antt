-- What a call that writes a part of a text did.
use Rattle.std.specs.Prelude.{◌≡◌, ℕ, ◌<◌, Bool, true, false, List, length, take, Option}
use Rattle.av_files.specs.Outside.{Rose, with_more}

-- what a sink held and counted before, and what it does now
pub record Written : Type 0 where
  pub held : Option (List ℕ)
  pub holds : Option (List ℕ)
  pub before : ℕ
  pub after : ℕ

-- a proper prefix of the part was written, and a fault counted
pub record IsCutOff (part : List ℕ) (written : Written) : Type 0 where
  pub count : ℕ
  pub proper : count < length part
  pub prefix : written.holds ≡ with_more written.held (take count part)
  pub fault : Rose written.before written.after

-- the whole part was written, or a proper prefix of it
abbrev pub Puts : List ℕ → Written → Bool → Type 0
Puts part written true = written.holds ≡ with_more written.held part
Puts part written false = IsCutOff part written

abbrev pub written_by : {A : Type 0} → (A → Option (List ℕ)) → (A → ℕ) → A → A → Written
written_by held faults old new = record { held = held old; holds = held new; before = faults old; after = faults new }
