-- What is told of a link that makes memories is told where the netlist has room for them.
use Rattle.std.proofs.Common.{◌≡◌, ℕ, zero, suc, ◌+◌, ◌^◌, ◌≤◌, ◌⊎◌, length, refl, inl, inr, arith}
use Rattle.netlist.specs.Netlists.{Netlist}

-- a link without memories needs no room
abbrev pub WithRoomFor : ℕ → Netlist → Type 0 → Type 0
WithRoomFor zero netlist told = told
WithRoomFor (suc more) netlist told = length netlist.memories + suc more ≤ 2 ^ 16 → told

-- ---- laws. No contract reads a proof of these

abbrev HasRoom : ℕ → Netlist → Type 0
HasRoom count netlist = (count ≡ 0) ⊎ (length netlist.memories + count ≤ 2 ^ 16)

pub room_told : {told : Type 0} (count : ℕ) (netlist : Netlist) → HasRoom count netlist → WithRoomFor count netlist told → told
room_told {told} zero netlist room is = is
room_told {told} (suc more) netlist room is = is (elim room [ inl none ↦ absurd (omega (arith, none)) | inr few ↦ few ])

pub with_room : {told : Type 0} (count : ℕ) (netlist : Netlist) → (HasRoom count netlist → told) → WithRoomFor count netlist told
with_room {told} zero netlist tells = tells (inl refl)
with_room {told} (suc more) netlist tells = λ few. tells (inr few)

-- where there is room for both parts, there is for the first, and then for the second
pub first_told : {one told : Type 0} (first second : ℕ) (netlist : Netlist) → (one → told) → WithRoomFor first netlist one
    → WithRoomFor (first + second) netlist told
first_told {one} {told} first second netlist tells is =
    with_room
    (first
    + second) netlist (λ room. tells
    (room_told first netlist (elim room [ inl none ↦ inl (omega (arith, none)) | inr few ↦ inr (omega (arith, few)) ]) is))

pub second_told : {one told : Type 0} (first second : ℕ) (netlist longer : Netlist)
    → length longer.memories ≤ length netlist.memories + first → (one → told) → WithRoomFor second longer one
    → WithRoomFor (first + second) netlist told
second_told {one} {told} first second netlist longer most tells is =
    with_room
    (first
    + second) netlist (λ room. tells
    (room_told second longer
    (elim room [ inl none ↦ inl (omega (arith, none)) | inr few ↦ inr (omega (arith, few, most)) ]) is))
