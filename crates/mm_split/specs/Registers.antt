-- The registers of a splitter.
use Rattle.std.specs.Prelude.{◌≡◌, ℕ, ◌-◌, ◌*◌, ◌^◌, ◌<◌, List, [], ◌∷◌}
use Rattle.netlist.specs.Nets.{NetValue}
use Rattle.netlist.specs.Netlists.{Netlist, IsWaiting}
use Rattle.netlist.specs.Runs.{Run, IsRun}
use Rattle.netlist.specs.Longer.{Extends}
use Rattle.net_parts.specs.Nets.{IsNetOfWidth}
use Rattle.net_parts.specs.Laws.{net_lasts}
use Rattle.std.proofs.Common.{refl, sym, ◌∙◌}
use Rattle.net_parts.specs.Groups.{AreNets, InGroup, AreWaiting, StartAllLow, group_widths}
use Rattle.mm_split.specs.declared.sizes.Sizes.{Sizes}
use Rattle.mm_split.specs.declared.registers.SplitRegisters.{SplitRegisters}

abbrev pub group_of : SplitRegisters → List NetValue
group_of made = made.place ∷ made.set ∷ made.reads ∷ made.come ∷ made.word ∷ made.code ∷ []

-- those that begin at 0
abbrev pub low_group_of : SplitRegisters → List NetValue
low_group_of made = made.place ∷ made.reads ∷ made.come ∷ made.word ∷ made.code ∷ []

abbrev pub owns : SplitRegisters → ℕ → Type 0
owns made n = InGroup (group_of made) n

-- their widths
pub record AreRegisterNets (netlist : Netlist) (sizes : Sizes) (made : SplitRegisters) : Type 0 where
  pub place : IsNetOfWidth netlist made.place sizes.place_bits
  pub set : IsNetOfWidth netlist made.set sizes.pieces
  pub reads : IsNetOfWidth netlist made.reads sizes.room_bits
  pub come : IsNetOfWidth netlist made.come sizes.place_bits
  pub word : IsNetOfWidth netlist made.word ((sizes.pieces - 1) * (sizes.narrow_bytes * 8))
  pub code : IsNetOfWidth netlist made.code 2

-- the mask of pieces begins full and the others at 0, and they wait
pub record AreRegisters (netlist : Netlist) (sizes : Sizes) (made : SplitRegisters) : Type 0 where
  pub nets : AreRegisterNets netlist sizes made
  pub starts : StartAllLow netlist (low_group_of made)
  pub full : (run : Run) (cycles : ℕ) → IsRun netlist run cycles → 0 < cycles → run.net 0 made.set.number ≡ 2 ^ sizes.pieces - 1
  pub wait : AreWaiting netlist (group_of made)

-- ---- what stands lasts. No contract reads these proofs; the law of the splitter cites them

pub register_nets_last : (old new : Netlist) (sizes : Sizes) (made : SplitRegisters) → Extends old new
    → AreRegisterNets old sizes made → AreRegisterNets new sizes made
register_nets_last old new sizes made e h = record {
  place = net_lasts old new made.place sizes.place_bits e h.place;
  set = net_lasts old new made.set sizes.pieces e h.set;
  reads = net_lasts old new made.reads sizes.room_bits e h.reads;
  come = net_lasts old new made.come sizes.place_bits e h.come;
  word = net_lasts old new made.word ((sizes.pieces - 1) * (sizes.narrow_bytes * 8)) e h.word;
  code = net_lasts old new made.code 2 e h.code;
}

pub registers_last : (old new : Netlist) (sizes : Sizes) (made : SplitRegisters) → Extends old new
    → ((n : ℕ) → owns made n → IsWaiting old n → IsWaiting new n) → AreRegisters old sizes made → AreRegisters new sizes made
registers_last old new sizes made e w h = record {
  nets = register_nets_last old new sizes made e h.nets;
  starts = λ run cycles r. h.starts run cycles (e.runs run cycles r);
  full = λ run cycles r. h.full run cycles (e.runs run cycles r);
  wait = record { start = h.wait.start; numbers = h.wait.numbers; wait = λ n o. w n o (h.wait.wait n o) };
}

pub nets_of_registers : (netlist : Netlist) (sizes : Sizes) (made : SplitRegisters) → AreRegisterNets netlist sizes made
    → AreNets netlist (group_of made)
nets_of_registers netlist sizes made h =
    (h.place.is_net, (h.set.is_net, (h.reads.is_net, (h.come.is_net, (h.word.is_net, (h.code.is_net, tt))))))

pub widths_same : (netlist longer : Netlist) (sizes : Sizes) (made next : SplitRegisters) → AreRegisterNets netlist sizes made
    → AreRegisterNets longer sizes next → group_widths (group_of made) ≡ group_widths (group_of next)
widths_same netlist longer sizes made next h k =
    let e0 = h.place.has_width ∙ sym k.place.has_width in
    let e1 = h.set.has_width ∙ sym k.set.has_width in
    let e2 = h.reads.has_width ∙ sym k.reads.has_width in
    let e3 = h.come.has_width ∙ sym k.come.has_width in
    let e4 = h.word.has_width ∙ sym k.word.has_width in
    let e5 = h.code.has_width ∙ sym k.code.has_width in
    rw (e0, e1, e2, e3, e4, e5) refl
