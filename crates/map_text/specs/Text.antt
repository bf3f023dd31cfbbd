-- The text that says what was accepted, in this order: for each host its line and a line for each entry of its map, a line for
-- each stream, and a line of counts.
use Rattle.std.specs.Prelude.{ℕ, ◌-◌, false, List, [], ◌++◌, codes, decimal, length, replicate, slice_get, flat_map}
use Rattle.std.specs.Fmt.{digits}
use Rattle.std.specs.List.{zip}
use Rattle.std.specs.Option.{option_map_or}
use Rattle.system_tables.specs.declared.tables.Connection.{Connection}
use Rattle.system_tables.specs.declared.tables.EndId.{EndId}
use Rattle.system_tables.specs.Tables.{SystemTable}
use Rattle.address_map.specs.declared.host_map.MapEntry.{MapEntry}
use Rattle.address_map.specs.Maps.{hosts_of, agents_of}
use Rattle.link_rules.specs.Links.{streams_of, weight_of}
use Rattle.link_rules.specs.Plans.{PlanTable, instance_name_at, interface_name_at}

-- the name of an end, `INSTANCE.INTERFACE`; an end of the system has both
abbrev pub end_name : SystemTable → EndId → List ℕ
end_name system end = instance_name_at system end ++ codes "." ++ interface_name_at system end

-- `0`
abbrev pub zero_digit : ℕ
zero_digit = 48

-- an address in lower-case hexadecimal digits, behind so many zeros that there are eight
abbrev pub address_text : ℕ → List ℕ
address_text address = replicate (8 - length (digits 16 false address)) zero_digit ++ digits 16 false address

-- the first and the last address of an entry
abbrev pub range_text : MapEntry → List ℕ
range_text entry = address_text entry.first ++ codes "-" ++ address_text entry.last

-- what stands behind the agent's name in the line of an entry
abbrev pub shares_text : ℕ → ℕ → List ℕ
shares_text number shares = codes " connection " ++ decimal number ++ codes " shares " ++ decimal shares ++ codes "\n"

-- the line of an entry of this connection
abbrev pub entry_line_of : SystemTable → MapEntry → Connection → List ℕ
entry_line_of system entry connection =
    codes "  " ++ range_text entry ++ codes " " ++ end_name system connection.end
    ++ shares_text entry.connection connection.shares

-- the line of an entry, by the number of its connection
abbrev pub entry_line : SystemTable → MapEntry → List ℕ
entry_line system entry = option_map_or (entry_line_of system entry) (slice_get system.connections entry.connection) []

-- the line of a host, and those of its map
abbrev pub host_lines : SystemTable → EndId → List MapEntry → List ℕ
host_lines system host entries = codes "host " ++ end_name system host ++ codes "\n" ++ flat_map (entry_line system) entries

-- the lines of the hosts by their numbers, each with its map
abbrev pub hosts_text : PlanTable → List ℕ
hosts_text plan = flat_map (λ mapped. host_lines plan.system mapped.0 mapped.1) (zip (hosts_of plan.system) plan.maps)

-- the line of a stream of this number and connection
abbrev pub stream_line_of : SystemTable → ℕ → Connection → List ℕ
stream_line_of system number connection =
    codes "stream " ++ end_name system connection.start ++ codes " to " ++ end_name system connection.end ++ codes " connection "
    ++ decimal number ++ codes "\n"

-- the line of a stream, by the number of its connection
abbrev pub stream_line : SystemTable → ℕ → List ℕ
stream_line system number = option_map_or (stream_line_of system number) (slice_get system.connections number) []

-- the lines of the streams by their numbers
abbrev pub streams_text : SystemTable → List ℕ
streams_text system = flat_map (stream_line system) (streams_of system)

abbrev pub counts_line : ℕ → ℕ → ℕ → ℕ → List ℕ
counts_line hosts agents streams weight =
    codes "accepted hosts " ++ decimal hosts ++ codes " agents " ++ decimal agents ++ codes " streams " ++ decimal streams
    ++ codes " weight " ++ decimal weight ++ codes "\n"

-- how many hosts, agents and streams there are, and the weight
abbrev pub accepted_line : SystemTable → List ℕ
accepted_line system =
    counts_line (length (hosts_of system)) (length (agents_of system)) (length (streams_of system)) (weight_of system)

-- the text of a plan
abbrev pub map_text : PlanTable → List ℕ
map_text plan = hosts_text plan ++ streams_text plan.system ++ accepted_line plan.system
