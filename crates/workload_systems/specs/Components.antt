-- The component scripts of the workload systems: hosts and agents by the exponent of their bytes, sources and sinks by their
-- symbols.
use Rattle.std.specs.Prelude.{ℕ, ◌+◌, ◌==◌, List, [], ◌∷◌, ◌++◌, map, codes, if◌then◌else◌}

abbrev pub Lines : Type 0
Lines = List (List (List ℕ))

abbrev pub digit : ℕ → List ℕ
digit number = (48 + number) ∷ []

-- one of four texts, by a number from 0 on
abbrev pub one_of : List ℕ → List ℕ → List ℕ → List ℕ → ℕ → List ℕ
one_of first second third fourth number =
    if number == 0 then first else (if number == 1 then second else (if number == 2 then third else fourth))

-- the bits of a word of 1, 2, 4 and 8 bytes
abbrev pub bits : ℕ → List ℕ
bits exponent = one_of (codes "8") (codes "16") (codes "32") (codes "64") exponent

unfoldable pub type_name : List ℕ → List (List ℕ)
type_name name = codes "set_module_property" ∷ codes "NAME" ∷ name ∷ []

unfoldable pub interface : List ℕ → List ℕ → List ℕ → List (List ℕ)
interface name kind direction = codes "add_interface" ∷ name ∷ kind ∷ direction ∷ []

-- a role's port has the role's name
unfoldable pub port : List ℕ → List ℕ → List ℕ → List ℕ → List (List ℕ)
port interface role direction width = codes "add_interface_port" ∷ interface ∷ role ∷ role ∷ direction ∷ width ∷ []

unfoldable pub property : List ℕ → List ℕ → List ℕ → List (List ℕ)
property interface name value = codes "set_interface_property" ∷ interface ∷ name ∷ value ∷ []

-- ---- hosts and agents

abbrev pub host_name : ℕ → List ℕ
host_name exponent = one_of (codes "m8") (codes "m16") (codes "m32") (codes "m64") exponent

abbrev pub agent_name : ℕ → List ℕ
agent_name exponent = one_of (codes "s8") (codes "s16") (codes "s32") (codes "s64") exponent

-- a word of one byte has no byte enables
unfoldable pub enables : List ℕ → List ℕ → ℕ → Lines
enables interface direction exponent =
    if exponent == 0 then []
    else port interface (codes "byteenable") direction (one_of (codes "1") (codes "2") (codes "4") (codes "8") exponent) ∷ []

-- what a host gives its agents, or an agent takes
unfoldable pub command_ports : List ℕ → List ℕ → List ℕ → ℕ → Lines
command_ports interface direction address exponent =
    port interface (codes "address") direction address
    ∷ port interface (codes "read") direction (codes "1")
    ∷ port interface (codes "write") direction (codes "1")
    ∷ port interface (codes "writedata") direction (bits exponent)
    ∷ enables interface direction exponent

-- and what it is answered
unfoldable pub answer_ports : List ℕ → List ℕ → ℕ → Lines
answer_ports interface direction exponent =
    port interface (codes "waitrequest") direction (codes "1")
    ∷ port interface (codes "readdata") direction (bits exponent)
    ∷ port interface (codes "readdatavalid") direction (codes "1") ∷ []

-- of 20 address bits, which count bytes
unfoldable pub host_lines : ℕ → Lines
host_lines exponent =
    type_name (host_name exponent) ∷ interface (codes "m") (codes "avalon") (codes "host")
    ∷ command_ports (codes "m") (codes "output") (codes "20") exponent ++ answer_ports (codes "m") (codes "input") exponent

-- of 12 address bits, which count bytes, and 4 pending reads
unfoldable pub agent_lines : ℕ → Lines
agent_lines exponent =
    type_name (agent_name exponent) ∷ interface (codes "s") (codes "avalon") (codes "agent")
    ∷ property (codes "s") (codes "addressUnits") (codes "SYMBOLS")
    ∷ property (codes "s") (codes "maximumPendingReadTransactions") (codes "4")
    ∷ command_ports (codes "s") (codes "input") (codes "12") exponent ++ answer_ports (codes "s") (codes "output") exponent

-- ---- sources and sinks

-- the bits of 1 to 4 symbols
abbrev pub beat_bits : ℕ → List ℕ
beat_bits symbols =
    if symbols == 1 then codes "8" else (if symbols == 2 then codes "16" else (if symbols == 3 then codes "24" else codes "32"))

-- one symbol needs no `empty`
unfoldable pub empties : List ℕ → List ℕ → ℕ → Lines
empties interface direction symbols =
    if symbols == 1 then [] else port interface (codes "empty") direction (if symbols == 2 then codes "1" else codes "2") ∷ []

-- what a source gives, or a sink takes
unfoldable pub beat_ports : List ℕ → List ℕ → ℕ → Lines
beat_ports interface direction symbols =
    port interface (codes "valid") direction (codes "1")
    ∷ port interface (codes "data") direction (beat_bits symbols)
    ∷ port interface (codes "startofpacket") direction (codes "1")
    ∷ port interface (codes "endofpacket") direction (codes "1")
    ∷ empties interface direction symbols

abbrev pub source_name : ℕ → ℕ → List ℕ
source_name latency symbols = codes "o" ++ digit symbols ++ codes "_" ++ digit latency

abbrev pub sink_name : ℕ → List ℕ
sink_name symbols = codes "i" ++ digit symbols

unfoldable pub source_lines : ℕ → ℕ → Lines
source_lines latency symbols =
    type_name (source_name latency symbols) ∷ interface (codes "o") (codes "avalon_streaming") (codes "source")
    ∷ property (codes "o") (codes "readyLatency") (digit latency)
    ∷ port (codes "o") (codes "ready") (codes "input") (codes "1")
    ∷ beat_ports (codes "o") (codes "output") symbols

unfoldable pub sink_lines : ℕ → Lines
sink_lines symbols =
    type_name (sink_name symbols) ∷ interface (codes "i") (codes "avalon_streaming") (codes "sink")
    ∷ port (codes "i") (codes "ready") (codes "output") (codes "1")
    ∷ beat_ports (codes "i") (codes "input") symbols

abbrev pub four : List ℕ
four = 0 ∷ 1 ∷ 2 ∷ 3 ∷ []

abbrev pub one_to_four : List ℕ
one_to_four = 1 ∷ 2 ∷ 3 ∷ 4 ∷ []

-- the component scripts, which are the same for all numbers
abbrev pub component_lines : List Lines
component_lines =
    map host_lines four ++ map agent_lines four ++ map (source_lines 0) one_to_four ++ map (source_lines 1) one_to_four
    ++ map sink_lines one_to_four
