-- What each maker of a net does.
use Rattle.std.specs.Prelude.{◌≡◌, ◌↔◌, ℕ, ◌^◌, ◌<◌, length, Result, Err, IfOk, OnErr}
use Rattle.netlist.specs.declared.fault.NetFault.{NetFault}
use Rattle.netlist.specs.declared.fault.NetFault.TheVariants.{TooManyNets}
use Rattle.netlist.specs.declared.line.Equation.{Equation}
use Rattle.netlist.specs.Nets.{NetValue, net_of}
use Rattle.netlist.specs.Netlists.{Netlist, IsNet, line_of, appended}
use Rattle.netlist.specs.Runs.{Cycle, NetHolds, Always}
use Rattle.netlist.specs.Longer.{Extends, GrowsByOne}

-- the netlist has one more line, of this width and equation, and the outcome is its net, of which this holds in each cycle. After
-- a refusal the netlist is as it was; TooManyNets comes exactly where it was full
pub record Appends (old new : Netlist) (outcome : Result NetValue NetFault) (width : ℕ) (equation : Equation)
    (holds : ℕ → Cycle → Type 0) : Type 0 where
  pub line : IfOk outcome (λ n. (new ≡ appended old (line_of width equation)) × (n ≡ net_of (length old.lines) width))
  pub net : IfOk outcome (λ n. IsNet new n × (n.width ≡ width))
  pub value : IfOk outcome (λ n. Always new (holds n.number))
  pub extends : Extends old new
  pub grows : GrowsByOne old new
  pub err : OnErr outcome (new ≡ old)
  pub full : (outcome ≡ Err TooManyNets) ↔ (length old.lines ≡ 2 ^ 20)

-- the net has the value that the equation gives
abbrev pub IsAppended : Netlist → Netlist → Result NetValue NetFault → ℕ → Equation → Type 0
IsAppended old new outcome width equation =
    Appends old new outcome width equation (λ n cycle. NetHolds new.lines cycle n (line_of width equation))

-- the net has this value, which fits
abbrev pub IsMade : Netlist → Netlist → Result NetValue NetFault → ℕ → Equation → (Cycle → ℕ) → Type 0
IsMade old new outcome width equation value =
    Appends old new outcome width equation (λ n cycle. (cycle.net n < 2 ^ width) × (cycle.net n ≡ value cycle))
