-- The system script of the workload system of a number, and all its files.
use Rattle.std.specs.Prelude.{ℕ, ◌+◌, ◌*◌, ◌/◌, ◌%◌, List, [], ◌∷◌, ◌++◌, map, codes}
use Rattle.std.specs.List.{flat_map, range_with_len}
use Rattle.workload_systems.specs.Texts.{text_of}
use Rattle.workload_systems.specs.Components.{Lines, digit, host_name, agent_name, source_name, sink_name, component_lines}

abbrev pub hosts : ℕ → ℕ
hosts number = 1 + number % 4

abbrev pub agents : ℕ → ℕ
agents number = 1 + number / 4 % 6

abbrev pub streams : ℕ → ℕ
streams number = number % 3

-- the numbers below a count
abbrev pub below : ℕ → List ℕ
below count = range_with_len 0 count

unfoldable pub instance : List ℕ → List ℕ → List (List ℕ)
instance name type_name = codes "add_instance" ∷ name ∷ type_name ∷ []

unfoldable pub host_instance : ℕ → ℕ → List (List ℕ)
host_instance number i = instance (codes "h" ++ digit i) (host_name ((number + i) % 4))

unfoldable pub agent_instance : ℕ → ℕ → List (List ℕ)
agent_instance number j = instance (codes "a" ++ digit j) (agent_name ((number + 2 * j) % 4))

unfoldable pub source_instance : ℕ → ℕ → List (List ℕ)
source_instance number k = instance (codes "s" ++ digit k) (source_name (k % 3) (1 + (number + k) % 4))

unfoldable pub sink_instance : ℕ → ℕ → List (List ℕ)
sink_instance number k = instance (codes "k" ++ digit k) (sink_name (1 + (number + 2 * k) % 4))

abbrev pub host_end : ℕ → List ℕ
host_end i = codes "h" ++ digit i ++ codes ".m"

abbrev pub agent_end : ℕ → List ℕ
agent_end j = codes "a" ++ digit j ++ codes ".s"

unfoldable pub parameter : ℕ → ℕ → List ℕ → List ℕ → List (List ℕ)
parameter i j name value = codes "set_connection_parameter_value" ∷ (host_end i ++ codes "/" ++ agent_end j) ∷ name ∷ value ∷ []

-- a host at an agent: base 0x1000 times the agent's number, and 1 to 3 shares
unfoldable pub memory_lines : ℕ → ℕ → Lines
memory_lines i j =
    (codes "add_connection" ∷ host_end i ∷ agent_end j ∷ [])
    ∷ parameter i j (codes "baseAddress") (codes "0x" ++ digit j ++ codes "000")
    ∷ parameter i j (codes "arbitrationPriority") (digit (1 + i % 3)) ∷ []

-- a host at each of so many agents
unfoldable pub host_links : ℕ → ℕ → Lines
host_links agents i = flat_map (memory_lines i) (below agents)

unfoldable pub stream_line : ℕ → List (List ℕ)
stream_line k = codes "add_connection" ∷ (codes "s" ++ digit k ++ codes ".o") ∷ (codes "k" ++ digit k ++ codes ".i") ∷ []

unfoldable pub system_lines : ℕ → Lines
system_lines number =
    (codes "create_system" ∷ codes "w" ∷ [])
    ∷ map (host_instance number) (below (hosts number))
    ++ map (agent_instance number) (below (agents number))
    ++ map (source_instance number) (below (streams number))
    ++ map (sink_instance number) (below (streams number))
    ++ flat_map (host_links (agents number)) (below (hosts number))
    ++ map stream_line (below (streams number))

-- the system file, then the component files
abbrev pub files_of : ℕ → List (List ℕ)
files_of number = text_of (system_lines number) ∷ map text_of component_lines
