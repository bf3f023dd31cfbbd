-- The ports of a header: their widths, and their names in a set.
use Rattle.std.specs.Prelude.{◌≡◌, ◌≤◌, ℕ, String, List}
use Rattle.std.specs.HashSet.{HashSet, contains_text}
use Rattle.std.specs.declared.alloc.Global.{Global}
use Rattle.std.specs.declared.hash.FoldHasher.{FoldHasher}
use Rattle.std.specs.declared.hash.BuildHasherDefault.{BuildHasherDefault}
use Rattle.netlist.specs.declared.line.PortLine.{PortLine}
use Rattle.verilog_forms.specs.Headers.{is_named}

-- a port of 1 to 128 bits
pub record HasWires (port : PortLine) : Type 0 where
  pub some_bit : 1 ≤ port.width
  pub small : port.width ≤ 128

-- the set has exactly the names of these ports
abbrev pub AreNamed : List PortLine → HashSet (String Global) (BuildHasherDefault FoldHasher) → Type 0
AreNamed ports names = (name : List ℕ) → contains_text names name ≡ is_named name ports
