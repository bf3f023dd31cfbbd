-- In a window in which all hosts show plain writes, each beat taken behind the arbiter is a whole command.
use Rattle.std.proofs.Common.{ℕ, zero, suc, ◌<◌, ◌≤◌, ◌≡◌, ◌+◌, ◌-◌, ◌*◌, Bool, true, false, List, [], ◌∷◌, ◌++◌, length, map, take, drop, arith, refl, sym, ap, ap₂, ◌∙◌, append_assoc, append-nil, length-append, IsTrue}
use Rattle.std.proofs.lemmas.List.{map-append, drop-map, length-map}
use Rattle.histories.specs.History.{IsPrefix, only_if, one_if}
use Rattle.histories.specs.Laws.{prefix_map, before_prefix}
use Rattle.memory_runs.specs.Views.{System, Run}
use Rattle.memory_runs.specs.Order.{Owner, is_joined}
use Rattle.memory_runs.specs.Awake.{begun, begun_within}
use Rattle.memory_machines.specs.Link.{Port, Marked, takes, marked_at, taken_at, closes, is_nonempty, operations_in}
use Rattle.memory_machines.specs.Begun.{groups_whole}
use Rattle.memory_machines.specs.Lines.{Group, TaggedPort, groups_of, group_of, target_of}
use Rattle.memory_parts.specs.Steps.{IsArbiterPart}
use Rattle.memory_awake.specs.Fair.{AreAmong, BeginsByTurns, EndsThere, hosts_taken}
use Rattle.memory_awake.specs.Ways.{count_in}
use Rattle.memory_awake.proofs.Wanted.{same_operations}
use Rattle.memory_awake.proofs.FairOwners.{Every, IsWholeCommand}
use Rattle.memory_awake.proofs.FairAgent.{front_whole}
use Rattle.memory_awake.proofs.FairSkips.{firsts, Skips, skips, each_after, same_window}

-- what a side takes in so many cycles
abbrev pub taken_in : Port → ℕ → ℕ → List Marked
taken_in port from zero = []
taken_in port from (suc size) = only_if (takes port from) (marked_at port from) ++ taken_in port (suc from) size

pub taken_split : (port : Port) (from size : ℕ) → taken_at port (from + size) ≡ taken_at port from ++ taken_in port from size
taken_split port from zero = let same : from + zero ≡ from = omega arith in ap (taken_at port) same ∙ sym (append-nil (taken_at port from))
taken_split port from (suc size) =
    let same : from + suc size ≡ suc from + size = omega arith in
    ap (taken_at port) same ∙ taken_split port (suc from) size ∙ append_assoc (taken_at port from) (only_if (takes port from) (marked_at port from)) (taken_in port (suc from) size)

pub taken_length : (port : Port) (c : ℕ) → length (taken_at port c) ≡ count_in (takes port) 0 c
taken_length port zero = refl
taken_length port (suc c) =
    let more = taken_length port c in
    let split = length-append (taken_at port c) (only_if (takes port c) (marked_at port c)) in
    let one = by_take (takes port c) in
    let here = ap (λ n. one_if (takes port n)) (let same : c ≡ 0 + c = omega arith in same) in
    omega (arith, more, split, one, here)
  where
    by_take : (b : Bool) → length (only_if b (marked_at port c)) ≡ one_if b
    by_take true = refl
    by_take false = refl

module _ (system : System) (run : Run) (agent : ℕ) (up : ℕ → Port) (near far : TaggedPort) (from size end : ℕ) (fit : from + size ≤ end) (begins : BeginsByTurns system run agent near far end)
    (arbiter : IsArbiterPart system agent up far end) (joined : (h : ℕ) → IsTrue (is_joined system agent h) → h < system.hosts)
    (words : (h : ℕ) → h < system.hosts → (up h).shape.word_bytes ≡ far.shape.word_bytes)
    (plain : (h c : ℕ) → IsTrue (is_joined system agent h) → from ≤ c → c < from + size → EndsThere (target_of system agent) (up h) c)
    (few : count_in (takes far.port) 0 from ≤ count_in (takes near.port) 0 from + 2 * system.stages) where
  abbrev groups : List Marked → List Group
  groups ms = groups_of (target_of system agent) far.shape ms

  -- a beat that is taken behind the arbiter is a joined host's
  taken_whole : (c : ℕ) → from ≤ c → c < from + size → IsTrue (takes far.port c) → IsWholeCommand (group_of (target_of system agent) far.shape (marked_at far.port c))
  taken_whole c low high taken =
      let inside : c < end = omega (arith, fit, high) in
      let h = far.port.commands.tag c in
      let is = begins.tags c inside taken in
      let there = joined h is in
      let at = plain h c is low high in
      let same = arbiter.same h c there inside refl taken in
      record {
        closes = ap closes (sym same) ∙ at.ends;
        acts = ap (λ m. is_nonempty (operations_in (target_of system agent) far.shape m)) (sym same)
            ∙ ap is_nonempty (sym (same_operations (target_of system agent) (up h).shape far.shape (marked_at (up h) c) (words h there))) ∙ at.acts;
      }

  all_whole : (c left : ℕ) → from ≤ c → c + left ≤ from + size → Every IsWholeCommand (groups (taken_in far.port c left))
  all_whole c zero low high = tt
  all_whole c (suc left) low high = by_take (takes far.port c) refl (all_whole (suc c) left (omega (arith, low)) (omega (arith, high)))
    where
      by_take : (b : Bool) → takes far.port c ≡ b → Every IsWholeCommand (groups (taken_in far.port (suc c) left)) → Every IsWholeCommand (groups (only_if b (marked_at far.port c) ++ taken_in far.port (suc c) left))
      by_take true e rest = (taken_whole c low (omega (arith, high)) e, rest)
      by_take false e rest = rest

  their_hosts : (c left : ℕ) → map (λ (g : Group). g.tag) (groups (taken_in far.port c left)) ≡ hosts_taken far.port c left
  their_hosts c zero = refl
  their_hosts c (suc left) = by_take (takes far.port c) (their_hosts (suc c) left)
    where
      by_take : (b : Bool) → map (λ (g : Group). g.tag) (groups (taken_in far.port (suc c) left)) ≡ hosts_taken far.port (suc c) left →
          map (λ (g : Group). g.tag) (groups (only_if b (marked_at far.port c) ++ taken_in far.port (suc c) left)) ≡ only_if b (far.port.commands.tag c) ++ hosts_taken far.port (suc c) left
      by_take true rest = ap (λ l. far.port.commands.tag c ∷ l) rest
      by_take false rest = rest

  pub among : AreAmong (begun_within system run agent from size) far.port from size
  among = record {
    first = (length (groups (taken_at near.port from)) + skip.past) - length (groups (taken_at far.port from));
    few = length (groups new.rest) - skip.past;
    same =
        sym (drop-map (λ (o : Owner). o.tag) (length (begun system run agent from) + (8 + 2 * system.stages)) (begun system run agent (from + size)))
        ∙ ap₂ (λ n l. drop (n + (8 + 2 * system.stages)) l) started (begins.begun (from + size) fit ∙ ap (λ l. map (λ (o : Owner). o.tag) (firsts l)) (sym grown))
        ∙ skip.same
        ∙ same_window (groups (taken_at near.port from)) (groups new.rest) through.rest (groups (taken_at far.port from)) (groups (taken_in far.port from size)) skip.past joins (let enough = skip.enough in omega (arith, short, enough))
        ∙ ap (λ l. take (length (groups new.rest) - skip.past) (drop ((length (groups (taken_at near.port from)) + skip.past) - length (groups (taken_at far.port from))) l)) (their_hosts from size);
  }
    where
      new : IsPrefix (taken_at near.port from) (taken_at near.port (from + size))
      new = before_prefix _ from (from + size) (omega arith)

      through : IsPrefix (groups (taken_at near.port (from + size))) (groups (taken_at far.port (from + size)))
      through = prefix_map (group_of (target_of system agent) far.shape) (begins.pipe (from + size) fit)

      grown : groups (taken_at near.port from) ++ groups new.rest ≡ groups (taken_at near.port (from + size))
      grown = sym (map-append (group_of (target_of system agent) far.shape) (taken_at near.port from) new.rest) ∙ ap groups new.joins

      joins : (groups (taken_at near.port from) ++ groups new.rest) ++ through.rest ≡ groups (taken_at far.port from) ++ groups (taken_in far.port from size)
      joins = ap (λ l. l ++ through.rest) grown ∙ through.joins ∙ ap groups (taken_split far.port from size) ∙ map-append (group_of (target_of system agent) far.shape) (taken_at far.port from) (taken_in far.port from size)

      short : length (groups (taken_at far.port from)) ≤ length (groups (taken_at near.port from)) + 2 * system.stages
      short =
          let a = length-map (taken_at far.port from) (group_of (target_of system agent) far.shape) in
          let b = length-map (taken_at near.port from) (group_of (target_of system agent) far.shape) in
          let x = taken_length far.port from in
          let y = taken_length near.port from in
          omega (arith, a, b, x, y, few)

      started : length (begun system run agent from) ≡ length (firsts (groups (taken_at near.port from)))
      started = sym (length-map (begun system run agent from) (λ (o : Owner). o.tag)) ∙ ap length (begins.begun from (omega (arith, fit))) ∙ length-map (firsts (groups (taken_at near.port from))) (λ (o : Owner). o.tag)

      whole : groups_whole (groups (taken_at near.port from) ++ groups new.rest) ≡ true
      whole = ap groups_whole grown ∙ front_whole (groups (taken_at near.port (from + size))) through.rest (ap groups_whole through.joins ∙ begins.whole (from + size) fit)

      skip : Skips (groups (taken_at near.port from)) (groups new.rest) (2 * system.stages)
      skip = skips (groups (taken_at near.port from)) (groups new.rest) (2 * system.stages) whole
          (each_after (groups (taken_at near.port from)) (groups new.rest) through.rest (groups (taken_at far.port from)) (groups (taken_in far.port from size)) (2 * system.stages) joins short (all_whole from size (omega arith) (omega arith)))
