-- The reads among the operations for a place are those of the read beats for it. No contract reads a proof of theirs; the crates
-- above cite them.
use Rattle.std.proofs.Common.{ℕ, if◌then◌else◌, zero, suc, ◌≡◌, ◌+◌, [], ◌∷◌, ◌++◌, List, Bool, true, false, Option, arith, refl, sym, ap, ap₂, ◌∙◌, length, map, filter, flat_map, nat_eq, ◌*◌, length-append, append-nil}
use Rattle.std.proofs.lemmas.Grind.{flat_map-append}
use Rattle.std.proofs.lemmas.List.Elements.{filter-append}
use Rattle.std.specs.Prelude.{⊤}
use Rattle.histories.specs.History.{only_if, is_first, is_raised, numbers}
use Rattle.memory_machines.specs.Lines.{Sent, sent_of, placed, placed_group, operations_of_groups, asked_among}
use Rattle.memory_machines.specs.Link.{closes, Port, Marked, shown_at, marked_at, takes}
use Rattle.memory_runs.specs.Commands.{Transfer, Burst, burst_before, byte_address, transfer_of, write_transfer, read_transfer, read_beat, is_of_reads, reads_among, shows}
use Rattle.memory_runs.specs.Operations.{Beat, Operation, is_read, operation_at, operation_of_kind, filled_lanes}
use Rattle.memory_runs.specs.Order.{Asked, transfer_operations, beat_operations, place_of, is_agent, reads_for, from_base}
use Rattle.memory_runs.specs.Views.{System, Shape, Levels, levels_at, Kind}
use Rattle.memory_runs.specs.Views.Kind.{Reads, Writes}

same_test : (f : ℕ → Operation) (b : Bool) (lanes : List ℕ) → ((lane : ℕ) → is_read (f lane) ≡ b)
    → length (filter is_read (map f lanes)) ≡ (if b then length (map f lanes) else 0)
same_test f true [] all = refl
same_test f false [] all = refl
same_test f true (lane ∷ lanes) all = rw (all lane) (ap suc (same_test f true lanes all))
same_test f false (lane ∷ lanes) all = rw (all lane) (same_test f false lanes all)

kind_reads : (kind : Kind) (offset byte : ℕ) → is_read (operation_of_kind kind offset byte) ≡ is_of_reads kind
kind_reads Reads offset byte = refl
kind_reads Writes offset byte = refl

module _ (system : System) (host agent : ℕ) where
  abbrev reads_in : List Operation → ℕ
  reads_in operations = length (filter is_read operations)

  reads_append : (xs ys : List Operation) → reads_in (xs ++ ys) ≡ reads_in xs + reads_in ys
  reads_append xs ys = ap length (filter-append is_read xs ys) ∙ length-append (filter is_read xs) (filter is_read ys)

  of_beat : (beat : Beat)
      → reads_in (beat_operations system host agent beat)
      ≡ (if is_of_reads beat.kind then length (beat_operations system host agent beat) else 0)
  of_beat beat =
      same_test (operation_at (system.agent agent).span (from_base (system.base host agent) beat)) (is_of_reads beat.kind)
      (filled_lanes (system.host host).shape (system.agent agent).shape beat.enables) (λ lane. kind_reads beat.kind _ _)

  of_read_beats : (shape : Shape) (levels : Levels) (ns : List ℕ) →
      reads_in (flat_map (beat_operations system host agent) (map (read_beat shape levels) ns))
      ≡ length (flat_map (beat_operations system host agent) (map (read_beat shape levels) ns))
  of_read_beats shape levels [] = refl
  of_read_beats shape levels (n ∷ ns) =
      reads_append (beat_operations system host agent (read_beat shape levels n))
      (flat_map (beat_operations system host agent) (map (read_beat shape levels) ns))
      ∙ ap₂ (λ a b. a + b) (of_beat (read_beat shape levels n)) (of_read_beats shape levels ns)
      ∙ sym (length-append (beat_operations system host agent (read_beat shape levels n)) _)

  abbrev IsUniform : Transfer → Type 0
  IsUniform t =
      reads_in (transfer_operations system host agent t)
      ≡ (if is_of_reads t.kind then length (transfer_operations system host agent t) else 0)

  abbrev written : Shape → Levels → Burst → Beat
  written shape levels burst = record {
    kind = Writes;
    address =
        (if nat_eq burst.left 0 then byte_address shape levels.address else burst.first)
        + (if nat_eq burst.left 0 then 0 else burst.done) * shape.word_bytes;
    word = levels.word;
    enables = levels.enables;
  }

  pub of_transfer : (shape : Shape) (levels : Levels) (burst : Burst) → IsUniform (transfer_of shape levels burst)
  of_transfer shape levels burst = by_test (is_raised levels.write)
    where
      write : reads_in (transfer_operations system host agent (write_transfer shape levels burst)) ≡ 0
      write =
          ap reads_in (append-nil (beat_operations system host agent (written shape levels burst)))
          ∙ of_beat (written shape levels burst)

      by_test : (b : Bool)
          → reads_in
          (transfer_operations system host agent (if b then write_transfer shape levels burst else read_transfer shape levels))
          ≡ (if is_of_reads (if b then write_transfer shape levels burst else read_transfer shape levels).kind
          then length
          (transfer_operations system host agent
          (if b then write_transfer shape levels burst else read_transfer shape levels))
          else 0)
      by_test true = write
      by_test false = of_read_beats shape levels (numbers 0 levels.count)

  abbrev pub AllUniform : List Marked → Type 0
  AllUniform [] = ⊤
  AllUniform (m ∷ ms) = IsUniform m.transfer × AllUniform ms

  pub uniform_append : (xs ys : List Marked) → AllUniform xs → AllUniform ys → AllUniform (xs ++ ys)
  uniform_append [] ys h k = k
  uniform_append (x ∷ xs) ys h k = (h.0, uniform_append xs ys h.1 k)

  pub uniform_shown : (port : Port) (c : ℕ) → AllUniform (shown_at port c)
  uniform_shown port zero = tt
  uniform_shown port (suc c) =
      uniform_append (shown_at port c) _ (uniform_shown port c) (by_test (is_first (shows port.commands.signals) (takes port) c))
    where
      by_test : (b : Bool) → AllUniform (only_if b (marked_at port c))
      by_test true = (
        of_transfer port.shape (levels_at port.commands.signals c)
            (burst_before port.shape port.commands.signals (takes port) c),
        tt,
      )
      by_test false = tt

  abbrev asked_of : Transfer → List Asked
  asked_of t = map (λ b. record { place = place_of system host t; beat = b }) t.beats

  abbrev pub operations_for : List Asked → List Operation
  operations_for qs =
      flat_map (λ (q : Asked). beat_operations system host agent q.beat) (filter (λ (q : Asked). is_agent agent q.place) qs)

  pub for_append : (xs ys : List Asked)
      → length (operations_for (xs ++ ys)) ≡ length (operations_for xs) + length (operations_for ys)
  for_append xs ys =
      ap (λ l. length (flat_map (λ (q : Asked). beat_operations system host agent q.beat) l))
      (filter-append (λ (q : Asked). is_agent agent q.place) xs ys)
      ∙ ap length
      (flat_map-append (λ (q : Asked). beat_operations system host agent q.beat)
      (filter (λ (q : Asked). is_agent agent q.place) xs) (filter (λ (q : Asked). is_agent agent q.place) ys))
      ∙ length-append (operations_for xs) (operations_for ys)

  there : (place : Option ℕ) (bs : List Beat) → is_agent agent place ≡ true
      → operations_for (map (λ b. record { place = place; beat = b }) bs) ≡ flat_map (beat_operations system host agent) bs
  there place [] e = refl
  there place (b ∷ bs) e = rw e (ap (λ l. beat_operations system host agent b ++ l) (there place bs e))

  elsewhere : (place : Option ℕ) (bs : List Beat) → is_agent agent place ≡ false
      → operations_for (map (λ b. record { place = place; beat = b }) bs) ≡ []
  elsewhere place [] e = refl
  elsewhere place (b ∷ bs) e = rw e (elsewhere place bs e)

  one_match : (p k : Bool) (t : Transfer) (s : Sent) (groups : List Sent) (ts : List Transfer) → s.transfer ≡ t
      → is_agent agent (place_of system host t) ≡ p →
      reads_in (transfer_operations system host agent t) ≡ (if k then length (transfer_operations system host agent t) else 0) →
      reads_in (operations_of_groups (map (placed_group system host agent) groups))
      ≡ length (operations_for (flat_map asked_of ts)) →
      reads_in (operations_of_groups (map (placed_group system host agent) (if p then s ∷ groups else groups)))
      ≡ length (operations_for (flat_map asked_of (if k then t ∷ ts else ts)))
  one_match true true t s groups ts same place uniform rest =
      reads_append (transfer_operations system host agent s.transfer)
      (operations_of_groups (map (placed_group system host agent) groups))
      ∙ ap₂ (λ a b. a + b)
      (ap (λ t. reads_in (transfer_operations system host agent t)) same ∙ uniform
      ∙ ap length (sym (there (place_of system host t) t.beats place))) rest
      ∙ sym (for_append (asked_of t) (flat_map asked_of ts))
  one_match true false t s groups ts same place uniform rest =
      let none : reads_in (transfer_operations system host agent s.transfer) ≡ 0 = ap
      (λ t. reads_in (transfer_operations system host agent t)) same ∙ uniform in
      let sum = reads_append (transfer_operations system host agent s.transfer) (operations_of_groups (map (placed_group system host agent) groups)) in
      omega (arith, none, sum, rest)
  one_match false true t s groups ts same place uniform rest =
      let none : length (operations_for (asked_of t)) ≡ 0 = ap length (elsewhere (place_of system host t) t.beats place) in
      let sum = for_append (asked_of t) (flat_map asked_of ts) in
      omega (arith, none, sum, rest)
  one_match false false t s groups ts same place uniform rest = rest

  -- the reads among the operations for a place are those of the read beats for it
  pub reads_match : (ms : List Marked) → AllUniform ms
      → length (filter is_read (operations_of_groups (placed system host agent (sent_of ms))))
      ≡ reads_for system host agent (asked_among system host (map (λ (m : Marked). m.transfer) ms))
  reads_match [] h = refl
  reads_match (m ∷ ms) h =
      one_match (is_agent agent (place_of system host m.transfer)) (is_of_reads m.transfer.kind) m.transfer
      (record { transfer = m.transfer; closes = closes m })
      (filter (λ (s : Sent). is_agent agent (place_of system host s.transfer)) (sent_of ms))
      (reads_among (map (λ (m : Marked). m.transfer) ms)) refl refl h.0 (reads_match ms h.1)
