-- A stage where one is needed, and else nothing.
use Rattle.std.specs.Prelude.{◌≡◌, ℕ, Option, Some, None, IsSomeAnd}
use Rattle.netlist.specs.Nets.{NetValue}
use Rattle.netlist.specs.Netlists.{Netlist, IsWaiting, WaitsForWrite}
use Rattle.netlist.specs.Longer.{Extends}
use Rattle.stream_machines.specs.Stage.{Shape}
use Rattle.stage_core.specs.declared.beat.BeatNets.{BeatNets}
use Rattle.stage_core.specs.PassNets.{IsPassShape}

-- the shape is one of the part's, and without a part one that passes each beat as it is
abbrev pub shape_of : {S : Type 0} → (S → Shape → Type 0) → Option S → Shape → Type 0
shape_of shapes (Some stage) shape = shapes stage shape
shape_of shapes None shape = IsPassShape shape

-- between the calls the part keeps what it does, and without a part nothing is kept
abbrev pub kept_of : {S H : Type 0} → (S → H → Netlist → Type 0) → Option S → Option H → Netlist → Type 0
kept_of is_kept (Some stage) (Some held) netlist = is_kept stage held netlist
kept_of is_kept (Some stage) None netlist = ⊥
kept_of is_kept None (Some held) netlist = ⊥
kept_of is_kept None None netlist = Unit {0}

-- after the first call
abbrev pub forward_of : {S H : Type 0} → (S → BeatNets → BeatNets → H → Netlist → Type 0) → Option S → BeatNets → BeatNets
    → Option H → Netlist → Type 0
forward_of forward_in (Some stage) from to (Some held) netlist = forward_in stage from to held netlist
forward_of forward_in (Some stage) from to None netlist = ⊥
forward_of forward_in None from to kept netlist = to ≡ from

-- after the second call
abbrev pub backward_of : {S H : Type 0} → (S → H → NetValue → NetValue → Netlist → Type 0) → Option S → Option H → NetValue
    → NetValue → Netlist → Type 0
backward_of backward_in (Some stage) (Some held) ready up netlist = backward_in stage held ready up netlist
backward_of backward_in (Some stage) None ready up netlist = ⊥
backward_of backward_in None kept ready up netlist = up ≡ ready

-- ---- what stands lasts. No contract reads these proofs; the law of the stage cites them

pub kept_lasts : {S H : Type 0} (is_kept : S → H → Netlist → Type 0) (owns memories : H → ℕ → Type 0) →
    ((stage : S) (held : H) (old new : Netlist) → is_kept stage held old → Extends old new
    → ((n : ℕ) → owns held n → IsWaiting old n → IsWaiting new n)
    → ((m : ℕ) → memories held m → WaitsForWrite old m → WaitsForWrite new m) → is_kept stage held new) →
    (stage : Option S) (kept : Option H) (old new : Netlist) → kept_of is_kept stage kept old → Extends old new
    → ((n : ℕ) → IsSomeAnd kept (λ held. owns held n) → IsWaiting old n → IsWaiting new n) →
    ((m : ℕ) → IsSomeAnd kept (λ held. memories held m) → WaitsForWrite old m → WaitsForWrite new m)
    → kept_of is_kept stage kept new
kept_lasts is_kept owns memories lasts (Some stage) (Some held) old new h e w v = lasts stage held old new h e w v
kept_lasts is_kept owns memories lasts (Some stage) None old new h e w v = h
kept_lasts is_kept owns memories lasts None (Some held) old new h e w v = h
kept_lasts is_kept owns memories lasts None None old new h e w v = h

pub forward_lasts : {S H : Type 0} (forward_in : S → BeatNets → BeatNets → H → Netlist → Type 0) →
    ((stage : S) (from to : BeatNets) (held : H) (old new : Netlist) → forward_in stage from to held old → Extends old new
    → forward_in stage from to held new) →
    (stage : Option S) (from to : BeatNets) (kept : Option H) (old new : Netlist) → forward_of forward_in stage from to kept old
    → Extends old new → forward_of forward_in stage from to kept new
forward_lasts forward_in lasts (Some stage) from to (Some held) old new h e = lasts stage from to held old new h e
forward_lasts forward_in lasts (Some stage) from to None old new h e = h
forward_lasts forward_in lasts None from to kept old new h e = h

pub backward_lasts : {S H : Type 0} (backward_in : S → H → NetValue → NetValue → Netlist → Type 0) →
    ((stage : S) (held : H) (ready up : NetValue) (old new : Netlist) → backward_in stage held ready up old → Extends old new
    → backward_in stage held ready up new) →
    (stage : Option S) (kept : Option H) (ready up : NetValue) (old new : Netlist)
    → backward_of backward_in stage kept ready up old → Extends old new → backward_of backward_in stage kept ready up new
backward_lasts backward_in lasts (Some stage) (Some held) ready up old new h e = lasts stage held ready up old new h e
backward_lasts backward_in lasts (Some stage) None ready up old new h e = h
backward_lasts backward_in lasts None kept ready up old new h e = h
