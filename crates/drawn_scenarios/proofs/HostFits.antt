-- What is drawn for hosts fits them.
use Rattle.std.proofs.Common.{◌≡◌, ℕ, ◌+◌, ◌*◌, ◌^◌, ◌<◌, ◌≤◌, Bool, true, false, ◌&&◌, ◌||◌, cond, not, List, [], refl, subst, arith}
use Rattle.std.specs.Prelude.{◌==◌, nat_lt, IsTrue, slice_get, Option, Some, None}
use Rattle.std.proofs.Math.Nat.{le-max_left, one-le-pow}
use Rattle.iface_roles.specs.declared.records.HostPort.{HostPort}
use Rattle.iface_roles.specs.Proper.{IsBoundedHost, range_of}
use Rattle.link_rules.specs.declared.plan_connections.MemoryConnection.{MemoryConnection}
use Rattle.scenario_tables.specs.declared.statements.HostStatement.TheVariants.{Read}
use Rattle.scenario_tables.specs.Statements.{all_lanes, longest_of, FitsCommand, FitsHost, IsHostScript}
use Rattle.drawn_scenarios.specs.Draws.{draw}
use Rattle.drawn_scenarios.specs.Hosts.{words_reached, write, is_write, transfer, reach, access, idle, host_statement, host_script, IsReached}
use Rattle.drawn_scenarios.proofs.DrawLemmas.{draw_small, word_fits, all_cons, repeated_count, repeated_keeps}
use Rattle.drawn_scenarios.proofs.HostLemmas.{below_range}

one_beat : (host : HostPort) → 1 ≤ longest_of host
one_beat host = one-le-pow _ 2 (omega arith)

command_fits : (host : HostPort) (address : ℕ) → address < range_of host → FitsCommand host address (all_lanes host.word_bytes) 1
command_fits host address below = record { address_is = below; enables_are = omega arith; all_enabled = λ absent. refl; some = omega arith; few = one_beat host }

-- a host has the role for what it does
write_role : (writes few reads : Bool) → (writes && (few || not reads)) ≡ true → IsTrue writes
write_role true few reads e = refl
write_role false few reads e = cc

read_role : (writes few reads : Bool) → (writes && (few || not reads)) ≡ false → IsTrue (reads || writes) → IsTrue reads
read_role writes few true e some = refl
read_role true true false e some = cc
read_role true false false e some = cc
read_role false few false e some = cc

write_fits : (host : HostPort) (address state : ℕ) → IsTrue host.writes → address < range_of host → FitsHost host (write host address state).0
unfolding write
write_fits host address state writes below =
    let fits = word_fits false 8 256 host.word_bytes state (omega arith) (omega arith) in
    record { writes = writes; command = command_fits host address below; fit = all_cons (λ word. word < 2 ^ (8 * host.word_bytes)) _ [] fits (λ k d less. absurd (omega arith)) }

transfer_by : (host : HostPort) (choice address state : ℕ) (b : Bool) → is_write host choice ≡ b → IsBoundedHost host → address < range_of host → FitsHost host (transfer host choice address state).0
unfolding transfer
transfer_by host choice address state true e bounded below =
    rw e (write_fits host address state (write_role host.writes (nat_lt choice 2) host.reads e) below)
transfer_by host choice address state false e bounded below =
    let fits : FitsHost host (Read address (all_lanes host.word_bytes) 1) = record { reads = read_role host.writes (nat_lt choice 2) host.reads e bounded.ports.transfers; command = command_fits host address below } in
    rw e fits

one_word : (link : MemoryConnection) → 0 < words_reached link
one_word link = le-max_left 1 _

reach_fits : (choice : ℕ) (link : MemoryConnection) (state : ℕ) → IsReached link → FitsHost link.host (reach choice (Some link) state).0
unfolding reach
reach_fits choice link state reached =
    let below = below_range link (draw (words_reached link) state).0 reached (draw_small (words_reached link) state (one_word link)) in
    transfer_by link.host choice _ _ (is_write link.host choice) refl reached.host below

reach_any : (host : HostPort) (choice : ℕ) (link : Option MemoryConnection) (state : ℕ) → ((own : MemoryConnection) → link ≡ Some own → (own.host ≡ host) × IsReached own) → FitsHost host (reach choice link state).0
unfolding reach
reach_any host choice None state own = (omega arith, omega arith)
reach_any host choice (Some link) state own =
    let is = own link refl in
    let P : HostPort → Type 0 = λ h. FitsHost h (reach choice (Some link) state).0 in
    subst P is.0 (reach_fits choice link state is.1)

rest_fits : (state : ℕ) → (1 ≤ 1 + (draw 8 state).0) × (1 + (draw 8 state).0 ≤ 65536)
rest_fits state = let small = draw_small 8 state (omega arith) in (omega arith, omega arith)

statement_by : (host : HostPort) (links : List MemoryConnection) (choice state : ℕ) (b : Bool) → ((k : ℕ) (link : MemoryConnection) → slice_get links k ≡ Some link → (link.host ≡ host) × IsReached link)
    → FitsHost host (cond b idle (access links choice) state).0
unfolding idle access
statement_by host links choice state true own = rest_fits state
statement_by host links choice state false own = reach_any host choice _ _ (λ link at. own _ link at)

pub script_fits : (host : HostPort) (links : List MemoryConnection) (state : ℕ) → ((k : ℕ) (link : MemoryConnection) → slice_get links k ≡ Some link → (link.host ≡ host) × IsReached link) → IsHostScript host (host_script links state).0
unfolding host_script host_statement
script_fits host links state own =
    let count = repeated_count (host_statement links) 16 state in
    record { short = omega arith; each = repeated_keeps (FitsHost host) (host_statement links) (λ s. statement_by host links (draw 4 s).0 (draw 4 s).1 ((draw 4 s).0 == 3) own) 16 state }
