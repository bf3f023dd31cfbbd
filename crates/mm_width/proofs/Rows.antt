-- The links of pairs that are begun stay so while a netlist grows and leaves their registers and memories waiting.
use Rattle.std.proofs.Common.{ℕ, List, [], ◌∷◌, ◌++◌, arith, inl, inr}
use Rattle.std.specs.Prelude.{Result, Ok, Err, OnOk}
use Rattle.netlist.specs.Netlists.{Netlist, IsWaiting, WaitsForWrite}
use Rattle.netlist.specs.Longer.{Extends}
use Rattle.net_parts.specs.Growth.{AreMadeBetween, StillWait}
use Rattle.net_parts.specs.Laws.{waiting_within}
use Rattle.net_parts.specs.Memories.{MemoriesCome, memory_within}
use Rattle.link_core.specs.Rows.{IsBegun, AreBegun, IsApart}
use Rattle.mm_width.specs.Kept.{WidthKeeps, WidthCommand, owns_width, stores_width}
use Rattle.mm_width.specs.Widths.{BegunWidth, AreBegunWidths, IsOfAnyWidth, IsStoredByAnyWidth, AreStoredApart, WaitForWrites, one_lasts}

abbrev pub IsOne : BegunWidth → Netlist → Type 0
IsOne begun netlist = IsBegun WidthKeeps WidthCommand owns_width begun netlist

abbrev AreRows : List BegunWidth → Netlist → Type 0
AreRows begun netlist = AreBegun WidthKeeps WidthCommand owns_width begun netlist

abbrev AreApart : BegunWidth → List BegunWidth → Type 0
AreApart begun others = IsApart WidthKeeps WidthCommand owns_width begun others

apart_push : (begun : BegunWidth) (others : List BegunWidth) (one : BegunWidth) → AreApart begun others → ((n : ℕ) → owns_width begun.kept n → ¬ owns_width one.kept n) → AreApart begun (others ++ one ∷ [])
apart_push begun [] one apart last = (last, tt)
apart_push begun (other ∷ others) one apart last = (apart.0, apart_push begun others one apart.1 last)

stored_push : (begun : BegunWidth) (others : List BegunWidth) (one : BegunWidth) → AreStoredApart begun others → ((m : ℕ) → stores_width begun.kept m → ¬ stores_width one.kept m) → AreStoredApart begun (others ++ one ∷ [])
stored_push begun [] one apart last = (last, tt)
stored_push begun (other ∷ others) one apart last = (apart.0, stored_push begun others one apart.1 last)

rows_push : (row : List BegunWidth) (one : BegunWidth) (old new : Netlist) → AreRows row old → WaitForWrites row old → Extends old new → StillWait old new → IsOne one new → AreMadeBetween (owns_width one.kept) old new → MemoriesCome (stores_width one.kept) old new → AreRows (row ++ one ∷ []) new
rows_push [] one old new row writes e wait here made come = (here, (tt, tt))
rows_push (begun ∷ row) one old new all writes e wait here made come = (
  one_lasts begun old new all.0 e (λ n o. wait n) (λ m o. come.still m),
  (
    apart_push begun row one all.1.0 (λ n o p. (let below = waiting_within old n (all.0.waits n o) in let from = made n p in absurd (omega (arith, below, from.0)))),
    rows_push row one old new all.1.1 writes.1.1 e wait here made come,
  ),
)

writes_push : (row : List BegunWidth) (one : BegunWidth) (old new : Netlist) → WaitForWrites row old → MemoriesCome (stores_width one.kept) old new → WaitForWrites (row ++ one ∷ []) new
writes_push [] one old new all come = (come.own, (tt, tt))
writes_push (begun ∷ row) one old new all come = (
  λ m o. come.still m (all.0 m o),
  (
    stored_push begun row one all.1.0 (λ m o p. (let below = memory_within old m (all.0 m o) in let from = come.between m p in absurd (omega (arith, below, from.0)))),
    writes_push row one old new all.1.1 come,
  ),
)

-- one more is begun: its registers and memories are new
pub begun_push : (row : List BegunWidth) (one : BegunWidth) (old new : Netlist) → AreBegunWidths row old → Extends old new → StillWait old new → IsOne one new → AreMadeBetween (owns_width one.kept) old new → MemoriesCome (stores_width one.kept) old new → AreBegunWidths (row ++ one ∷ []) new
begun_push row one old new all e wait here made come = (rows_push row one old new all.0 all.1 e wait here made come, writes_push row one old new all.1 come)

apart_last : (begun : BegunWidth) (others : List BegunWidth) (one : BegunWidth) → AreApart begun (others ++ one ∷ []) → AreApart begun others × ((n : ℕ) → owns_width begun.kept n → ¬ owns_width one.kept n)
apart_last begun [] one apart = (tt, apart.0)
apart_last begun (other ∷ others) one apart = let rest = apart_last begun others one apart.1 in ((apart.0, rest.0), rest.1)

stored_last : (begun : BegunWidth) (others : List BegunWidth) (one : BegunWidth) → AreStoredApart begun (others ++ one ∷ []) → AreStoredApart begun others × ((m : ℕ) → stores_width begun.kept m → ¬ stores_width one.kept m)
stored_last begun [] one apart = (tt, apart.0)
stored_last begun (other ∷ others) one apart = let rest = stored_last begun others one apart.1 in ((apart.0, rest.0), rest.1)

row_last : (row : List BegunWidth) (one : BegunWidth) (old : Netlist) → AreRows (row ++ one ∷ []) old → IsOne one old
row_last [] one old all = all.0
row_last (begun ∷ row) one old all = row_last row one old all.1.1

-- the last one is begun
pub begun_last : (row : List BegunWidth) (one : BegunWidth) (old : Netlist) → AreBegunWidths (row ++ one ∷ []) old → IsOne one old
begun_last row one old all = row_last row one old all.0

rows_front : (row : List BegunWidth) (one : BegunWidth) (old new : Netlist) → AreRows (row ++ one ∷ []) old → WaitForWrites (row ++ one ∷ []) old → Extends old new → ((n : ℕ) → ¬ owns_width one.kept n → IsWaiting old n → IsWaiting new n) →
    ((m : ℕ) → ¬ stores_width one.kept m → WaitsForWrite old m → WaitsForWrite new m) → AreRows row new
rows_front [] one old new all writes e wait still = tt
rows_front (begun ∷ row) one old new all writes e wait still =
    let apart = apart_last begun row one all.1.0 in
    let stored = stored_last begun row one writes.1.0 in
    (one_lasts begun old new all.0 e (λ n o. wait n (apart.1 n o)) (λ m o. still m (stored.1 m o)), (apart.0, rows_front row one old new all.1.1 writes.1.1 e wait still))

writes_front : (row : List BegunWidth) (one : BegunWidth) (old new : Netlist) → WaitForWrites (row ++ one ∷ []) old → ((m : ℕ) → ¬ stores_width one.kept m → WaitsForWrite old m → WaitsForWrite new m) → WaitForWrites row new
writes_front [] one old new all still = tt
writes_front (begun ∷ row) one old new all still =
    let stored = stored_last begun row one all.1.0 in
    (λ m o. still m (stored.1 m o) (all.0 m o), (stored.0, writes_front row one old new all.1.1 still))

-- and when it is finished, the others stay begun
pub begun_front : (row : List BegunWidth) (one : BegunWidth) (old new : Netlist) → AreBegunWidths (row ++ one ∷ []) old → Extends old new → ((n : ℕ) → ¬ owns_width one.kept n → IsWaiting old n → IsWaiting new n) →
    ((m : ℕ) → ¬ stores_width one.kept m → WaitsForWrite old m → WaitsForWrite new m) → AreBegunWidths row new
begun_front row one old new all e wait still = (rows_front row one old new all.0 all.1 e wait still, writes_front row one old new all.1 still)

pub last_owned : (row : List BegunWidth) (one : BegunWidth) (n : ℕ) → owns_width one.kept n → IsOfAnyWidth (row ++ one ∷ []) n
last_owned [] one n own = inl own
last_owned (begun ∷ row) one n own = inr (last_owned row one n own)

pub last_stored : (row : List BegunWidth) (one : BegunWidth) (m : ℕ) → stores_width one.kept m → IsStoredByAnyWidth (row ++ one ∷ []) m
last_stored [] one m own = inl own
last_stored (begun ∷ row) one m own = inr (last_stored row one m own)

pub on_any : {X E : Type 0} (r : Result X E) (P : Type 0) → P → OnOk r P
on_any (Ok x) P p = p
on_any (Err e) P p = tt
