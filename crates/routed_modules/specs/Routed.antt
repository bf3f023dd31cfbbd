-- Modules that lead beats by their channels, by what they are and their numbers.
use Rattle.netlist.specs.Netlists.{Netlist}
use Rattle.routed_modules.specs.declared.routed.Routed.{Routed}
use Rattle.routed_modules.specs.declared.routed.Routed.TheVariants as routed
use Rattle.routed_modules.specs.Demultiplexers.{AreSizes, demultiplexer, IsDemultiplexerModule}
use Rattle.routed_modules.specs.Multiplexers.{multiplexer, IsMultiplexerModule}
use Rattle.routed_modules.specs.Gatherers.{AreGathererSizes, gatherer, IsGathererModule}

-- its numbers are in their ranges
abbrev pub HaveSizes : Routed → Type 0
HaveSizes (routed.Multiplexer inputs symbols bits) = AreSizes inputs symbols bits
HaveSizes (routed.Demultiplexer outputs symbols bits) = AreSizes outputs symbols bits
HaveSizes (routed.Gatherer channels symbols parts bits) = AreGathererSizes channels symbols parts bits

-- the module is the one that is wanted
abbrev pub IsRoutedModule : Routed → Netlist → Type 0
IsRoutedModule (routed.Multiplexer inputs symbols bits) netlist = IsMultiplexerModule (multiplexer inputs symbols bits) netlist
IsRoutedModule (routed.Demultiplexer outputs symbols bits) netlist =
    IsDemultiplexerModule (demultiplexer outputs symbols bits) netlist
IsRoutedModule (routed.Gatherer channels symbols parts bits) netlist =
    IsGathererModule (gatherer channels symbols parts bits) netlist
