-- The system script of a number is that of its residue by 24.
use Rattle.std.proofs.Common.{◌≡◌, ℕ, ◌+◌, ◌*◌, ◌/◌, ◌%◌, List, [], ◌∷◌, ◌++◌, map, refl, ap, ◌∙◌, arith}
use Rattle.std.specs.Prelude.{codes}
use Rattle.std.specs.List.{flat_map}
use Rattle.link_rules.specs.declared.plan_connections.MemoryConnection.{MemoryConnection}
use Rattle.link_rules.specs.declared.plan_connections.StreamConnection.{StreamConnection}
use Rattle.workload_systems.specs.Workloads.{host_port, agent_port, stream_port, workload_link, links_of_host, workload_links, workload_stream, workload_streams}
use Rattle.workload_systems.proofs.Accepting.{workload_facts}
use Rattle.workload_systems.specs.Components.{digit, host_name, agent_name, source_name, sink_name}
use Rattle.workload_systems.specs.Systems.{hosts, agents, streams, below, instance, host_instance, agent_instance, source_instance, sink_instance, host_links, stream_line, system_lines}

by_four : (n : ℕ) → n % 4 ≡ n % 24 % 4
by_four n = omega arith

by_three : (n : ℕ) → n % 3 ≡ n % 24 % 3
by_three n = omega arith

by_six : (n : ℕ) → n / 4 % 6 ≡ n % 24 / 4 % 6
by_six n = omega arith

shifted : (n i : ℕ) → (n + i) % 4 ≡ (n % 24 + i) % 4
shifted n i = omega arith

all_same : {X Y : Type 0} (f g : X → Y) → ((x : X) → f x ≡ g x) → (xs : List X) → map f xs ≡ map g xs
all_same f g same [] = refl
all_same f g same (x ∷ xs) = ap (λ y. y ∷ map f xs) (same x) ∙ ap (λ ys. g x ∷ ys) (all_same f g same xs)

same_hosts : (n : ℕ) → hosts n ≡ hosts (n % 24)
same_hosts n = ap (λ k. 1 + k) (by_four n)

same_agents : (n : ℕ) → agents n ≡ agents (n % 24)
same_agents n = ap (λ k. 1 + k) (by_six n)

pub same_lines : (n : ℕ) → system_lines n ≡ system_lines (n % 24)
unfolding system_lines host_instance agent_instance source_instance sink_instance
same_lines n =
    let r = n % 24 in
    let of_hosts : map (host_instance n) (below (hosts n)) ≡ map (host_instance r) (below (hosts r)) =
    all_same (host_instance n) (host_instance r) (λ i. ap (λ e. instance (codes "h" ++ digit i) (host_name e)) (shifted n i)) (below (hosts n)) ∙ ap (λ c. map (host_instance r) (below c)) (same_hosts n) in
    let of_agents : map (agent_instance n) (below (agents n)) ≡ map (agent_instance r) (below (agents r)) =
    all_same (agent_instance n) (agent_instance r) (λ j. ap (λ e. instance (codes "a" ++ digit j) (agent_name e)) (shifted n (2 * j))) (below (agents n)) ∙ ap (λ c. map (agent_instance r) (below c)) (same_agents n) in
    let of_sources : map (source_instance n) (below (streams n)) ≡ map (source_instance r) (below (streams r)) =
    all_same (source_instance n) (source_instance r) (λ k. ap (λ e. instance (codes "s" ++ digit k) (source_name (k % 3) (1 + e))) (shifted n k)) (below (streams n)) ∙ ap (λ c. map (source_instance r) (below c)) (by_three n) in
    let of_sinks : map (sink_instance n) (below (streams n)) ≡ map (sink_instance r) (below (streams r)) =
    all_same (sink_instance n) (sink_instance r) (λ k. ap (λ e. instance (codes "k" ++ digit k) (sink_name (1 + e))) (shifted n (2 * k))) (below (streams n)) ∙ ap (λ c. map (sink_instance r) (below c)) (by_three n) in
    let of_links : flat_map (host_links (agents n)) (below (hosts n)) ≡ flat_map (host_links (agents r)) (below (hosts r)) =
    ap (λ c. flat_map (host_links c) (below (hosts n))) (same_agents n) ∙ ap (λ c. flat_map (host_links (agents r)) (below c)) (same_hosts n) in
    let of_streams : map stream_line (below (streams n)) ≡ map stream_line (below (streams r)) = ap (λ c. map stream_line (below c)) (by_three n) in
    cc

-- ---- and so are the links of the workload system

all_same_flat : {X Y : Type 0} (f g : X → List Y) → ((x : X) → f x ≡ g x) → (xs : List X) → flat_map f xs ≡ flat_map g xs
all_same_flat f g same [] = refl
all_same_flat f g same (x ∷ xs) = ap (λ l. l ++ flat_map f xs) (same x) ∙ ap (λ l. g x ++ l) (all_same_flat f g same xs)

abbrev link_with : ℕ → ℕ → ℕ → ℕ → ℕ → MemoryConnection
link_with count i j host agent = record { connection = count * i + j; host_number = i; agent_number = j; host = host_port host; agent = agent_port agent; base = 4096 * j; shares = 1 + i % 3 }

same_link : (n i j : ℕ) → workload_link n i j ≡ workload_link (n % 24) i j
same_link n i j =
    let r = n % 24 in
    ap (λ c. link_with c i j ((n + i) % 4) ((n + 2 * j) % 4)) (same_agents n) ∙ ap (λ e. link_with (agents r) i j e ((n + 2 * j) % 4)) (shifted n i) ∙ ap (λ e. link_with (agents r) i j ((r + i) % 4) e) (shifted n (2 * j))

same_links_of : (n i : ℕ) → links_of_host n i ≡ links_of_host (n % 24) i
same_links_of n i =
    all_same (workload_link n i) (workload_link (n % 24) i) (same_link n i) (below (agents n)) ∙ ap (λ c. map (workload_link (n % 24) i) (below c)) (same_agents n)

pub same_links : (n : ℕ) → workload_links n ≡ workload_links (n % 24)
same_links n =
    all_same_flat (links_of_host n) (links_of_host (n % 24)) (same_links_of n) (below (hosts n)) ∙ ap (λ c. flat_map (links_of_host (n % 24)) (below c)) (same_hosts n)

abbrev stream_with : ℕ → ℕ → ℕ → ℕ → ℕ → ℕ → StreamConnection
stream_with h a t k source sink = record {
  connection = h * a + k;
  source_end = record { instance = h + a + k; interface = 0 };
  sink_end = record { instance = h + a + t + k; interface = 0 };
  source = stream_port (k % 3) (1 + source);
  sink = stream_port 0 (1 + sink);
  fifo = 0;
}

same_stream : (n k : ℕ) → workload_stream n k ≡ workload_stream (n % 24) k
same_stream n k =
    let r = n % 24 in
    ap (λ h. stream_with h (agents n) (streams n) k ((n + k) % 4) ((n + 2 * k) % 4)) (same_hosts n)
    ∙ ap (λ a. stream_with (hosts r) a (streams n) k ((n + k) % 4) ((n + 2 * k) % 4)) (same_agents n)
    ∙ ap (λ t. stream_with (hosts r) (agents r) t k ((n + k) % 4) ((n + 2 * k) % 4)) (by_three n)
    ∙ ap (λ e. stream_with (hosts r) (agents r) (streams r) k e ((n + 2 * k) % 4)) (shifted n k)
    ∙ ap (λ e. stream_with (hosts r) (agents r) (streams r) k ((r + k) % 4) e) (shifted n (2 * k))

pub same_streams : (n : ℕ) → workload_streams n ≡ workload_streams (n % 24)
same_streams n =
    all_same (workload_stream n) (workload_stream (n % 24)) (same_stream n) (below (streams n)) ∙ ap (λ c. map (workload_stream (n % 24)) (below c)) (by_three n)

pub same_facts : (n : ℕ) → workload_facts n ≡ workload_facts (n % 24)
same_facts n =
    let links = same_links n in
    let of_streams = same_streams n in
    let of_hosts = same_hosts n in
    let of_agents = same_agents n in
    cc
