-- Levels at ports: they fit their nets, and where there is no port they are the stated ones.
use Rattle.std.proofs.Common.{◌≡◌, ℕ, zero, suc, ◌+◌, ◌*◌, ◌^◌, ◌<◌, Bool, true, false, Option, Some, None, if◌then◌else◌, refl, sym, subst, ap, ◌∙◌, arith}
use Rattle.std.proofs.Math.Nat.{pow-suc}
use Rattle.std.proofs.lemmas.Nat.{pow-add, pow_pos}
use Rattle.std.proofs.lemmas.Bool.{false≢true}
use Rattle.netlist.specs.Nets.{NetValue}
use Rattle.netlist.specs.Netlists.{Netlist}
use Rattle.netlist.specs.Runs.{Cycle, IsValuation}
use Rattle.net_parts.specs.Laws.{width_fits}
use Rattle.command_nets.specs.Ports.{HasNet, value_or, all_ones, SameLevel}

pub level_fits : (netlist : Netlist) (there : Bool) (bits level : ℕ) (net : Option NetValue) → HasNet netlist there bits net → level < 2 ^ bits → (cycle : Cycle) → IsValuation netlist cycle → value_or level net cycle < 2 ^ bits
level_fits netlist there bits level None has low cycle v = low
level_fits netlist there bits level (Some net) has low cycle v = width_fits netlist net bits has.1 cycle v

pub level_absent : (netlist : Netlist) (there : Bool) (bits level : ℕ) (net : Option NetValue) → HasNet netlist there bits net → there ≡ false → (cycle : Cycle) → value_or level net cycle ≡ level
level_absent netlist there bits level None has absent cycle = refl
level_absent netlist there bits level (Some net) has absent cycle = absurd (false≢true (sym absent ∙ has.0))

-- a byte is eight bits
byte_power : (bytes : ℕ) → 2 ^ (bytes * 8) ≡ 256 ^ bytes
byte_power zero = refl
byte_power (suc bytes) =
    let more : suc bytes * 8 ≡ bytes * 8 + 8 = omega arith in
    ap (λ k. 2 ^ k) more ∙ pow-add 2 (bytes * 8) 8 ∙ ap (λ k. k * 256) (byte_power bytes) ∙ sym (pow-suc 256 bytes)

pub bytes_fit : (bytes level : ℕ) → level < 2 ^ (bytes * 8) → level < 256 ^ bytes
bytes_fit bytes level low = subst (λ n. level < n) (byte_power bytes) low

pub ones_fit : (bits : ℕ) → all_ones bits < 2 ^ bits
ones_fit bits = let some = pow_pos bits in omega (arith, some)

pub ones_are_all : (bits : ℕ) → all_ones bits + 1 ≡ 2 ^ bits
ones_are_all bits = let some = pow_pos bits in omega (arith, some)

pub either_below : (b : Bool) (x y most : ℕ) → x < most → y < most → (if b then x else y) < most
either_below true x y most h k = h
either_below false x y most h k = k

-- ---- the same in two cycles

pub same_level : (level : ℕ) (net : Option NetValue) (one other : Cycle) → value_or level net one ≡ value_or level net other → SameLevel net one other
same_level level None one other same = tt
same_level level (Some net) one other same = same

pub same_value : (level : ℕ) (net : Option NetValue) (one other : Cycle) → SameLevel net one other → value_or level net one ≡ value_or level net other
same_value level None one other same = refl
same_value level (Some net) one other same = same
