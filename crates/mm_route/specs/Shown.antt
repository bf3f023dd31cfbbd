-- The commands that a route shows, one for each entry.
use Rattle.std.specs.Prelude.{◌≡◌, ℕ, ◌+◌, ◌*◌, ◌^◌, ◌<◌, Bool, ◌&&◌, ◌==◌, if◌then◌else◌, List, [], ◌∷◌, ◌++◌, length}
use Rattle.std.proofs.Common.{refl, subst, ap, ◌∙◌, length-append, arith}
use Rattle.std.specs.Int.{bit_at}
use Rattle.histories.specs.History.{is_raised}
use Rattle.netlist.specs.Nets.{NetValue}
use Rattle.netlist.specs.Netlists.{Netlist, IsNet}
use Rattle.netlist.specs.Runs.{Cycle, Always}
use Rattle.netlist.specs.Longer.{Extends}
use Rattle.net_parts.specs.Nets.{IsNetOfWidth, IsBit}
use Rattle.net_parts.specs.Growth.{AddsNets}
use Rattle.net_parts.specs.Laws.{net_lasts, adds_none, adds_twice, adds_fewer}
use Rattle.command_nets.specs.declared.nets.CommandNets.{CommandNets}
use Rattle.command_nets.specs.Nets.{AreCommandNets, Widths, widths_of}
use Rattle.command_nets.specs.Groups.{command_lasts}
use Rattle.mm_route.specs.declared.shown.ShownNets.{ShownNets}

-- the nets that commands are made of are nets of this netlist
pub record AreShownNets (netlist : Netlist) (shown : ShownNets) (count : ℕ) : Type 0 where
  pub place : IsNetOfWidth netlist shown.place count
  pub gate : IsBit netlist shown.gate
  pub tag : IsNet netlist shown.tag
  pub command : AreCommandNets netlist shown.command

-- the command goes to the place of this bit
abbrev pub goes_in : Cycle → ShownNets → ℕ → Bool
goes_in cycle shown k = (bit_at (cycle.net shown.place.number) k == 1) && is_raised (cycle.net shown.gate.number)

-- a command below: it is shown where the command above goes to its place, and is else the one above, with this tag
pub record IsShownAt (netlist : Netlist) (shown : ShownNets) (k : ℕ) (made : CommandNets) : Type 0 where
  pub nets : AreCommandNets netlist made
  pub read : Always netlist (λ cycle. cycle.net made.read.number
      ≡ (if goes_in cycle shown k then cycle.net shown.command.read.number else 0))
  pub write : Always netlist (λ cycle. cycle.net made.write.number
      ≡ (if goes_in cycle shown k then cycle.net shown.command.write.number else 0))
  pub address : made.address ≡ shown.command.address
  pub word : made.word ≡ shown.command.word
  pub enables : made.enables ≡ shown.command.enables
  pub count : made.count ≡ shown.command.count
  pub more : made.more ≡ shown.command.more
  pub tag : made.tag ≡ shown.tag

-- those of the bits from this one on
abbrev pub AreShown : Netlist → ShownNets → ℕ → List CommandNets → Type 0
AreShown netlist shown k [] = Unit {0}
AreShown netlist shown k (made ∷ later) = IsShownAt netlist shown k made × AreShown netlist shown (k + 1) later

-- each of the commands is one of this netlist, of these widths
abbrev pub AreCommandsOf : Netlist → Widths → List CommandNets → Type 0
AreCommandsOf netlist widths [] = Unit {0}
AreCommandsOf netlist widths (made ∷ later) =
    (AreCommandNets netlist made × (widths_of made ≡ widths)) × AreCommandsOf netlist widths later

-- the widths of the commands below: those of the command above, but the tag
abbrev pub widths_below : CommandNets → ℕ → Widths
widths_below command tag =
    record {
      address =
          command.address.width;
      word = command.word.width;
      enables = command.enables.width;
      count = command.count.width;
      tag = tag;
    }

-- ---- laws. No contract reads a proof of these

pub shown_nets_last : (a b : Netlist) (shown : ShownNets) (count : ℕ) → Extends a b → AreShownNets a shown count
    → AreShownNets b shown count
shown_nets_last a b shown count e h = record {
  place = net_lasts a b shown.place count e h.place;
  gate = net_lasts a b shown.gate 1 e h.gate;
  tag = e.nets _ _ h.tag;
  command = command_lasts a b shown.command e h.command;
}

shown_at_lasts : (a b : Netlist) (shown : ShownNets) (k : ℕ) (made : CommandNets) → Extends a b → IsShownAt a shown k made
    → IsShownAt b shown k made
shown_at_lasts a b shown k made e h = record {
  nets = command_lasts a b made e h.nets;
  read = λ cycle v. h.read cycle (e.valuations cycle v);
  write = λ cycle v. h.write cycle (e.valuations cycle v);
  address = h.address;
  word = h.word;
  enables = h.enables;
  count = h.count;
  more = h.more;
  tag = h.tag;
}

pub shown_last : (a b : Netlist) (shown : ShownNets) (k : ℕ) (made : List CommandNets) → Extends a b → AreShown a shown k made
    → AreShown b shown k made
shown_last a b shown k [] e h = tt
shown_last a b shown k (first ∷ later) e h = (shown_at_lasts a b shown k first e h.0, shown_last a b shown (k + 1) later e h.1)

pub shown_more : (netlist : Netlist) (shown : ShownNets) (k n : ℕ) (made : List CommandNets) (last : CommandNets)
    → AreShown netlist shown k made → n ≡ k + length made →
    IsShownAt netlist shown n last → AreShown netlist shown k (made ++ last ∷ [])
shown_more netlist shown k n [] last h e p = (subst (λ m. IsShownAt netlist shown m last) (e ∙ omega arith) p, tt)
shown_more netlist shown k n (first ∷ later) last h e p =
    (h.0, shown_more netlist shown (k + 1) n later last h.1 (omega (arith, e)) p)

widths_are : (netlist : Netlist) (shown : ShownNets) (k : ℕ) (made : CommandNets) → IsShownAt netlist shown k made
    → widths_of made ≡ widths_below shown.command shown.tag.width
widths_are netlist shown k made h =
    let w : NetValue → ℕ = λ net. net.width in
    let a = ap w h.address in
    let b = ap w h.word in
    let c = ap w h.enables in
    let d = ap w h.count in
    let t = ap w h.tag in
    cc

pub shown_are_commands : (netlist : Netlist) (shown : ShownNets) (k : ℕ) (made : List CommandNets) → AreShown netlist shown k made
    → AreCommandsOf netlist (widths_below shown.command shown.tag.width) made
shown_are_commands netlist shown k [] h = tt
shown_are_commands netlist shown k (first ∷ later) h =
    ((h.0.nets, widths_are netlist shown k first h.0), shown_are_commands netlist shown (k + 1) later h.1)

-- so many commands are made
pub record AreShownSoFar (old now : Netlist) (shown : ShownNets) (made : List CommandNets) (count : ℕ) : Type 0 where
  pub made_are : AreShown now shown 0 made
  pub count_is : length made ≡ count
  pub adds : AddsNets (4 * count) old now

pub none_shown : (old : Netlist) (shown : ShownNets) → AreShownSoFar old old shown [] 0
none_shown old shown = record { made_are = tt; count_is = refl; adds = adds_none old }

pub one_more_shown : (old now new : Netlist) (shown : ShownNets) (made : List CommandNets) (last : CommandNets) (count : ℕ)
    → AreShownSoFar old now shown made count → AddsNets 4 now new →
    IsShownAt new shown count last → AreShownSoFar old new shown (made ++ last ∷ []) (count + 1)
one_more_shown old now new shown made last count h adds p = record {
  made_are =
      shown_more new shown 0 count made last (shown_last now new shown 0 made adds.grows.extends h.made_are)
      (let f = h.count_is in omega arith) p;
  count_is = (let e = length-append made (last ∷ []) in let f = h.count_is in omega arith);
  adds = adds_fewer (4 * count + 4) _ old new (omega arith) (adds_twice (4 * count) 4 old now new h.adds adds);
}

pub shown_within : (old now new : Netlist) (shown : ShownNets) (made : List CommandNets) (k count : ℕ)
    → AreShownSoFar old now shown made k → k < count → AddsNets 4 now new → AddsNets (4 * count) old new
shown_within old now new shown made k count h lt adds =
    adds_fewer (4 * k + 4) _ old new (omega arith) (adds_twice (4 * k) 4 old now new h.adds adds)

pub shown_full : (old now : Netlist) (shown : ShownNets) (made : List CommandNets) (k count : ℕ)
    → AreShownSoFar old now shown made k → k < count → 2 ^ 20 < length now.lines + 4 → 2 ^ 20 < length old.lines + 4 * count
shown_full old now shown made k count h lt full = let few = h.adds.most in omega (arith, few, full, lt)
