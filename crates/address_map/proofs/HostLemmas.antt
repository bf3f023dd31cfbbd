-- The ends on one side of connections of hosts to agents.
use Rattle.std.proofs.Common.{◌≡◌, ℕ, ◌+◌, ◌<◌, Bool, true, false, cond, List, [], ◌∷◌, ◌++◌, length, get_or, take, map, ap, ◌∙◌}
use Rattle.std.specs.Prelude.{filter}
use Rattle.std.proofs.lemmas.List.{map-append, append-nil}
use Rattle.std.proofs.lemmas.List.Elements.{filter_more}
use Rattle.iface_roles.specs.declared.kinds.Kind.TheVariants.{Clock}
use Rattle.iface_roles.specs.declared.kinds.Side.{Side}
use Rattle.system_tables.specs.declared.tables.Connection.{Connection}
use Rattle.system_tables.specs.declared.tables.EndId.{EndId}
use Rattle.address_map.specs.Ends.{each_once, with_end}
use Rattle.address_map.specs.Maps.{is_mm, end_at}
use Rattle.address_map.proofs.EndsLemmas.{each_once-push}

-- what is read past the end of a list of connections
abbrev pub zeros : Connection
zeros = record { start = record { instance = 0; interface = 0 }; end = record { instance = 0; interface = 0 }; kind = Clock; base = 0; shares = 0; fifo = 0; clock_fits = false }

-- the ends of the first connections
abbrev pub ends_before : Side → List Connection → ℕ → List EndId
ends_before side connections n = each_once (map (end_at side) (filter (λ connection. is_mm connection.kind) (take n connections)))

front : (side : Side) (kept : List Connection) (connection : Connection) (b : Bool) → each_once (map (end_at side) (kept ++ cond b (connection ∷ []) [])) ≡ cond b (with_end (each_once (map (end_at side) kept)) (end_at side connection)) (each_once (map (end_at side) kept))
front side kept connection true = ap each_once (map-append (end_at side) kept (connection ∷ [])) ∙ each_once-push (map (end_at side) kept) (end_at side connection)
front side kept connection false = ap (λ (l : List Connection). each_once (map (end_at side) l)) (append-nil kept)

pub ends_before-next : (side : Side) (connections : List Connection) (i : ℕ) (d : Connection) → i < length connections
    → ends_before side connections (i + 1) ≡ cond (is_mm (get_or connections i d).kind) (with_end (ends_before side connections i) (end_at side (get_or connections i d))) (ends_before side connections i)
ends_before-next side connections i d within =
    ap (λ (l : List Connection). each_once (map (end_at side) l)) (filter_more (λ connection. is_mm connection.kind) connections i d within)
    ∙ front side (filter (λ connection. is_mm connection.kind) (take i connections)) (get_or connections i d) (is_mm (get_or connections i d).kind)
