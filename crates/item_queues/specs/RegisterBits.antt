-- How many bits registers keep, by the widths of their lines in a netlist.
use Rattle.std.specs.Prelude.{ℕ, ◌+◌, ◌≤◌, ◌⊎◌, List, [], ◌∷◌, ◌++◌}
use Rattle.std.proofs.Common.{inl, inr, arith}
use Rattle.netlist.specs.Nets.{NetValue}
use Rattle.netlist.specs.Netlists.{Netlist}
use Rattle.netlist.specs.Longer.{Extends}
use Rattle.net_parts.specs.Groups.{AreNets, InGroup, nets_last}

-- the bits of these nets together
abbrev pub bits_in : List NetValue → ℕ
bits_in [] = 0
bits_in (net ∷ nets) = net.width + bits_in nets

-- the registers with these numbers have at most so many bits together: there are nets of this netlist, each with the width of its
-- line, among which is every one of these numbers, and which have no more bits
pub record HaveFewBits (most : ℕ) (numbers : ℕ → Type 0) (netlist : Netlist) : Type 0 where
  pub nets : List NetValue
  pub are_nets : AreNets netlist nets
  pub each : (n : ℕ) → numbers n → InGroup nets n
  pub few : bits_in nets ≤ most

-- ---- laws. No contract reads a proof of these

-- in a longer netlist they are the same
pub few_bits_last : (most : ℕ) (numbers : ℕ → Type 0) (old new : Netlist) → HaveFewBits most numbers old → Extends old new
    → HaveFewBits most numbers new
few_bits_last most numbers old new h e =
    record { nets = h.nets; are_nets = nets_last old new h.nets e h.are_nets; each = h.each; few = h.few }

bits_joined : (one other : List NetValue) → bits_in (one ++ other) ≤ bits_in one + bits_in other
bits_joined [] other = omega arith
bits_joined (net ∷ one) other = let rest = bits_joined one other in omega (arith, rest)

nets_joined : (netlist : Netlist) (one other : List NetValue) → AreNets netlist one → AreNets netlist other
    → AreNets netlist (one ++ other)
nets_joined netlist [] other p q = q
nets_joined netlist (net ∷ one) other p q = (p.0, nets_joined netlist one other p.1 q)

in_first : (one other : List NetValue) (n : ℕ) → InGroup one n → InGroup (one ++ other) n
in_first [] other n o = absurd o
in_first (net ∷ one) other n (inl e) = inl e
in_first (net ∷ one) other n (inr o) = inr (in_first one other n o)

in_second : (one other : List NetValue) (n : ℕ) → InGroup other n → InGroup (one ++ other) n
in_second [] other n o = o
in_second (net ∷ one) other n o = inr (in_second one other n o)

either_in : (one other : List NetValue) (P Q : ℕ → Type 0) (n : ℕ) → (P n → InGroup one n) → (Q n → InGroup other n) → P n ⊎ Q n
    → InGroup (one ++ other) n
either_in one other P Q n p q (inl o) = in_first one other n (p o)
either_in one other P Q n p q (inr o) = in_second one other n (q o)

-- registers of two kinds have the bits of both
pub few_bits_of_both : (most more : ℕ) (P Q : ℕ → Type 0) (netlist : Netlist) → HaveFewBits most P netlist
    → HaveFewBits more Q netlist → HaveFewBits (most + more) (λ n. P n ⊎ Q n) netlist
few_bits_of_both most more P Q netlist p q = record {
  nets = p.nets ++ q.nets;
  are_nets = nets_joined netlist p.nets q.nets p.are_nets q.are_nets;
  each = λ n o. either_in p.nets q.nets P Q n (p.each n) (q.each n) o;
  few = (let joined = bits_joined p.nets q.nets in let one = p.few in let other = q.few in omega (arith, joined, one, other));
}
