-- The ports of an end, one by one, and what drives them.
use Rattle.std.proofs.Common.{◌≡◌, ℕ, suc, ◌+◌, Bool, true, false, not, List, [], ◌∷◌, ◌++◌, length, codes, slice_get, Option, Some, None, refl, ap, ◌∙◌, arith, append_assoc}
use Rattle.std.specs.Option.{is_some}
use Rattle.histories.specs.History.{one_if}
use Rattle.netlist.specs.declared.line.PortLine.{PortLine}
use Rattle.netlist.specs.Nets.{NetValue}
use Rattle.st_mux.specs.declared.packet.PacketNets.{PacketNets}
use Rattle.routed_modules.specs.declared.header.EndPorts.{EndPorts}
use Rattle.routed_modules.specs.Ports.{port_line, port_if, mark_ports, end_ports}
use Rattle.routed_modules.specs.Drivers.{coming_drivers, going_drivers, driver_if, none_if}
use Rattle.routed_modules.specs.Ends.{marks_at}

-- past what may stand in front
past_if : (end role : List ℕ) (o : Option ℕ) (output : Bool) (rest : List PortLine) (j : ℕ) → slice_get (port_if end role o output ++ rest) (one_if (is_some o) + j) ≡ slice_get rest j
past_if end role None output rest j = let n : 0 + j ≡ j = omega arith in rw n refl
past_if end role (Some width) output rest j = let n : 1 + j ≡ suc j = omega arith in rw n refl

module _ (comes : Bool) (has : EndPorts) (end : List ℕ) where
  behind_three : (j : ℕ) → slice_get (end_ports comes has end) (marks_at has + j)
      ≡ slice_get (mark_ports end has.packets (not comes) ++ port_if end (codes "empty") has.empty (not comes)) j
  behind_three j =
      let n : marks_at has + j ≡ suc (suc (suc (one_if (is_some has.channel) + j))) = omega arith in
      ap (λ m. slice_get (end_ports comes has end) m) n ∙ past_if end (codes "channel") has.channel (not comes) _ j

  pub first_item : has.packets ≡ true → slice_get (end_ports comes has end) (marks_at has) ≡ Some (port_line end (codes "startofpacket") 1 (not comes))
  first_item is =
      let n : marks_at has ≡ marks_at has + 0 = omega arith in
      ap (λ m. slice_get (end_ports comes has end) m) n ∙ behind_three 0
      ∙ ap (λ b. slice_get (mark_ports end b (not comes) ++ port_if end (codes "empty") has.empty (not comes)) 0) is

  pub last_item : has.packets ≡ true → slice_get (end_ports comes has end) (marks_at has + 1) ≡ Some (port_line end (codes "endofpacket") 1 (not comes))
  last_item is = behind_three 1 ∙ ap (λ b. slice_get (mark_ports end b (not comes) ++ port_if end (codes "empty") has.empty (not comes)) 1) is

  pub empty_item : has.packets ≡ true → (width : ℕ) → has.empty ≡ Some width → slice_get (end_ports comes has end) (marks_at has + 2) ≡ Some (port_line end (codes "empty") width (not comes))
  empty_item is width some =
      behind_three 2 ∙ ap (λ b. slice_get (mark_ports end b (not comes) ++ port_if end (codes "empty") has.empty (not comes)) 2) is
      ∙ ap (λ o. slice_get (mark_ports end true (not comes) ++ port_if end (codes "empty") o (not comes)) 2) some

  pub channel_item : (width : ℕ) → has.channel ≡ Some width → slice_get (end_ports comes has end) 3 ≡ Some (port_line end (codes "channel") width (not comes))
  channel_item width some = ap (λ o. slice_get (port_if end (codes "channel") o (not comes) ++ (mark_ports end has.packets (not comes) ++ port_if end (codes "empty") has.empty (not comes))) 0) some

-- how many ports an end with packets has
count_if : (end role : List ℕ) (o : Option ℕ) (output : Bool) → length (port_if end role o output) ≡ one_if (is_some o)
count_if end role None output = refl
count_if end role (Some width) output = refl

count_drivers : (b : Bool) (net : NetValue) → length (driver_if b net) ≡ one_if b
count_drivers true net = refl
count_drivers false net = refl

count_none : (b : Bool) → length (none_if b) ≡ one_if b
count_none true = refl
count_none false = refl

pub end_length : (comes : Bool) (word : ℕ) (channel empty : Option ℕ) (end : List ℕ)
    → length (end_ports comes (record { word = word; channel = channel; packets = true; empty = empty }) end) ≡ 5 + one_if (is_some channel) + one_if (is_some empty)
end_length comes word None empty end = let one = count_if end (codes "empty") empty (not comes) in omega (arith, one)
end_length comes word (Some width) empty end = let one = count_if end (codes "empty") empty (not comes) in omega (arith, one)

pub coming_length : (ready : NetValue) (channel empty : Bool) → length (coming_drivers ready channel empty) ≡ 5 + one_if channel + one_if empty
coming_length ready true empty = let one = count_none empty in omega (arith, one)
coming_length ready false empty = let one = count_none empty in omega (arith, one)

pub going_length : (beat : PacketNets) (channel : Option NetValue) (empty : Bool) → length (going_drivers beat channel empty) ≡ 5 + one_if (is_some channel) + one_if empty
going_length beat None empty = let one = count_drivers empty beat.empty in omega (arith, one)
going_length beat (Some channel) empty = let one = count_drivers empty beat.empty in omega (arith, one)

-- the ports of an end, appended one after the other
pub end_appended : {A : Type 0} (old : List A) (a b c : A) (x y z : List A) → (((((old ++ a ∷ []) ++ b ∷ []) ++ c ∷ []) ++ x) ++ y) ++ z ≡ old ++ (a ∷ b ∷ c ∷ (x ++ (y ++ z)))
end_appended old a b c x y z =
    append_assoc ((((old ++ a ∷ []) ++ b ∷ []) ++ c ∷ []) ++ x) y z
    ∙ append_assoc (((old ++ a ∷ []) ++ b ∷ []) ++ c ∷ []) x (y ++ z)
    ∙ append_assoc ((old ++ a ∷ []) ++ b ∷ []) (c ∷ []) (x ++ (y ++ z))
    ∙ append_assoc (old ++ a ∷ []) (b ∷ []) (c ∷ (x ++ (y ++ z)))
    ∙ append_assoc old (a ∷ []) (b ∷ c ∷ (x ++ (y ++ z)))
