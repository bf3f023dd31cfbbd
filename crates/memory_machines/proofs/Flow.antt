-- A word that is owed above a link isn't wholly asked below it, or has come, or is owed below: this follows from the order of the operations.
use Rattle.std.proofs.Common.{ℕ, zero, suc, ◌≤◌, ◌≡◌, ◌+◌, ◌%◌, List, [], ◌∷◌, ◌++◌, Bool, true, false, ◌||◌, ◌&&◌, arith, refl, sym, ap, ap₂, ◌∙◌, subst, nat_lt, length, take, map, flat_map, if◌then◌else◌, IsTrue, tests, append-nil, length-append, ltb-false, ltb-true, lt-ltb, le-leb}
use Rattle.std.proofs.lemmas.List.{length-map}
use Rattle.std.proofs.lemmas.Grind.{flat_map-append}
use Rattle.memory_runs.specs.Views.{Kind, Shape, Levels, levels_at}
use Rattle.memory_runs.specs.Views.Kind.{Reads, Writes}
use Rattle.histories.specs.History.{IsPrefix, before, only_if, is_raised, is_first, numbers}
use Rattle.memory_runs.specs.Operations.{Beat, Operation, operation_of_kind, operation_at, filled_lanes, is_read, byte_at}
use Rattle.memory_runs.specs.Commands.{Burst, burst_before, transfer_of, write_transfer, read_transfer, read_beat, is_of_reads, shows}
use Rattle.memory_machines.specs.Link.{Target, Port, Marked, Item, AreLegalAt, takes, taken_at, shown_at, marked_at, items, items_from, items_of, acted_after, operations_among, operations_in, beat_operations, closes, has_acted, words_at, words_owed, read_beats, reads_of, answers_at, bytes_in, has_word_ready}
use Rattle.memory_machines.specs.Link.Item.{Acts, Ends}
use Rattle.memory_machines.specs.Rank.{is_owed}
use Rattle.histories.specs.Laws.{prefix_filter, prefix_flat_map, prefix_trans, prefix_length}
use Rattle.std.proofs.lemmas.Bool.{and_from}
use Rattle.memory_machines.specs.SideLaws.{taken_is_shown, zip_length}

-- the operations among items
ops_in : List Item → List Operation
ops_in [] = []
ops_in (Acts tag operation ∷ later) = operation ∷ ops_in later
ops_in (Ends tag ∷ later) = ops_in later

ops_append : (xs ys : List Item) → ops_in (xs ++ ys) ≡ ops_in xs ++ ops_in ys
unfolding ops_in
ops_append [] ys = refl
ops_append (Acts tag operation ∷ xs) ys = ap (λ l. operation ∷ l) (ops_append xs ys)
ops_append (Ends tag ∷ xs) ys = ops_append xs ys

ops_of_acts : (tag : ℕ) (ops : List Operation) → ops_in (map (Acts tag) ops) ≡ ops
unfolding ops_in
ops_of_acts tag [] = refl
ops_of_acts tag (o ∷ ops) = ap (λ l. o ∷ l) (ops_of_acts tag ops)

ops_of_end : (b : Bool) (tag : ℕ) → ops_in (only_if b (Ends tag)) ≡ []
unfolding ops_in
ops_of_end true tag = refl
ops_of_end false tag = refl

ops_of_items : (target : Target) (shape : Shape) (acted : Bool) (ms : List Marked) → ops_in (items_from target shape acted ms) ≡ operations_among target shape ms
unfolding ops_in
ops_of_items target shape acted [] = refl
ops_of_items target shape acted (m ∷ later) =
    ops_append (items_of target shape acted m) (items_from target shape (acted_after target shape acted m) later)
    ∙ ap₂ (λ a b. a ++ b)
    (ops_append (map (Acts m.tag) (operations_in target shape m)) (only_if (closes m && has_acted target shape acted m) (Ends m.tag))
    ∙ ap₂ (λ a b. a ++ b) (ops_of_acts m.tag (operations_in target shape m)) (ops_of_end (closes m && has_acted target shape acted m) m.tag)
    ∙ append-nil (operations_in target shape m))
    (ops_of_items target shape (acted_after target shape acted m) later)

ops_prefix : {xs ys : List Item} → IsPrefix xs ys → IsPrefix (ops_in xs) (ops_in ys)
ops_prefix {xs} p = record { rest = ops_in p.rest; joins = sym (ops_append xs p.rest) ∙ ap ops_in p.joins }

-- how many of the operations read
read_ops : List Operation → ℕ
read_ops [] = 0
read_ops (o ∷ ops) = (if is_read o then 1 else 0) + read_ops ops

read_ops_append : (xs ys : List Operation) → read_ops (xs ++ ys) ≡ read_ops xs + read_ops ys
unfolding read_ops
read_ops_append [] ys = omega arith
read_ops_append (x ∷ xs) ys = let rest = read_ops_append xs ys in omega (arith, rest)

lane_reads : (kind : Kind) (f g : ℕ → ℕ) (lanes : List ℕ) → read_ops (map (λ l. operation_of_kind kind (f l) (g l)) lanes) ≡ (if is_of_reads kind then length lanes else 0)
unfolding read_ops
lane_reads Reads f g [] = refl
lane_reads Reads f g (l ∷ lanes) = let rest = lane_reads Reads f g lanes in omega (arith, rest)
lane_reads Writes f g [] = refl
lane_reads Writes f g (l ∷ lanes) = let rest = lane_reads Writes f g lanes in omega (arith, rest)

-- all beats have one kind
abbrev AllOf : Kind → List Beat → Type 0
AllOf kind [] = Unit {0}
AllOf kind (b ∷ beats) = (b.kind ≡ kind) × AllOf kind beats

abbrev KindsFit : List Marked → Type 0
KindsFit [] = Unit {0}
KindsFit (m ∷ ms) = AllOf m.transfer.kind m.transfer.beats × KindsFit ms

beats_read : (target : Target) (shape : Shape) (kind : Kind) (beats : List Beat) → AllOf kind beats →
    read_ops (flat_map (beat_operations target shape) beats) ≡ (if is_of_reads kind then reads_of target shape beats else 0)
unfolding read_ops
beats_read target shape Reads [] fit = refl
beats_read target shape Writes [] fit = refl
beats_read target shape Reads (b ∷ beats) fit =
    let rest = beats_read target shape Reads beats fit.1 in
    let lanes = filled_lanes shape target.shape b.enables in
    let one = lane_reads b.kind (λ l. (b.address + l) % target.span) (λ l. byte_at b.word l) lanes in
    let kind = fit.0 in
    let here : read_ops (beat_operations target shape b) ≡ length lanes = one ∙ ap (λ k. if is_of_reads k then length lanes else 0) kind in
    let split = read_ops_append (beat_operations target shape b) (flat_map (beat_operations target shape) beats) in
    let long = length-append (beat_operations target shape b) (flat_map (beat_operations target shape) beats) in
    let size = length-map lanes (operation_at target.span b) in
    omega (arith, rest, here, split, long, size)
beats_read target shape Writes (b ∷ beats) fit =
    let rest = beats_read target shape Writes beats fit.1 in
    let lanes = filled_lanes shape target.shape b.enables in
    let one = lane_reads b.kind (λ l. (b.address + l) % target.span) (λ l. byte_at b.word l) lanes in
    let kind = fit.0 in
    let here : read_ops (beat_operations target shape b) ≡ 0 = one ∙ ap (λ k. if is_of_reads k then length lanes else 0) kind in
    let split = read_ops_append (beat_operations target shape b) (flat_map (beat_operations target shape) beats) in
    omega (arith, rest, here, split)

reads_append : (target : Target) (shape : Shape) (xs ys : List Beat) → reads_of target shape (xs ++ ys) ≡ reads_of target shape xs + reads_of target shape ys
reads_append target shape xs ys = ap length (flat_map-append (beat_operations target shape) xs ys) ∙ length-append (flat_map (beat_operations target shape) xs) (flat_map (beat_operations target shape) ys)

-- the reads among operations are those of the read beats
among_read : (target : Target) (shape : Shape) (ms : List Marked) → KindsFit ms → read_ops (operations_among target shape ms) ≡ reads_of target shape (read_beats ms)
unfolding read_ops
among_read target shape [] fit = refl
among_read target shape (m ∷ later) fit =
    by_kind m.transfer.kind refl
    (read_ops_append (operations_in target shape m) (operations_among target shape later))
    (beats_read target shape m.transfer.kind m.transfer.beats fit.0)
    (among_read target shape later fit.1)
  where
    by_kind : (kind : Kind) → m.transfer.kind ≡ kind →
        read_ops (operations_in target shape m ++ operations_among target shape later) ≡ read_ops (operations_in target shape m) + read_ops (operations_among target shape later) →
        read_ops (operations_in target shape m) ≡ (if is_of_reads m.transfer.kind then reads_of target shape m.transfer.beats else 0) →
        read_ops (operations_among target shape later) ≡ reads_of target shape (read_beats later) →
        read_ops (operations_in target shape m ++ operations_among target shape later) ≡ reads_of target shape (read_beats (m ∷ later))
    by_kind Reads e split here rest =
        let here' = here ∙ ap (λ k. if is_of_reads k then reads_of target shape m.transfer.beats else 0) e in
        let whole = reads_append target shape m.transfer.beats (read_beats later) in
        rw e (omega (arith, split, here', rest, whole))
    by_kind Writes e split here rest =
        let here' = here ∙ ap (λ k. if is_of_reads k then reads_of target shape m.transfer.beats else 0) e in
        rw e (omega (arith, split, here', rest))

all_read : (shape : Shape) (levels : Levels) (ns : List ℕ) → AllOf Reads (map (read_beat shape levels) ns)
all_read shape levels [] = tt
all_read shape levels (n ∷ ns) = (refl, all_read shape levels ns)

transfer_fits : (shape : Shape) (levels : Levels) (burst : Burst) → AllOf (transfer_of shape levels burst).kind (transfer_of shape levels burst).beats
transfer_fits shape levels burst = by_write (is_raised levels.write)
  where
    by_write : (b : Bool) → let t = if b then write_transfer shape levels burst else read_transfer shape levels in AllOf t.kind t.beats
    by_write true = (refl, tt)
    by_write false = all_read shape levels (numbers 0 levels.count)

kinds_append : (xs ys : List Marked) → KindsFit xs → KindsFit ys → KindsFit (xs ++ ys)
kinds_append [] ys a b = b
kinds_append (x ∷ xs) ys a b = (a.0, kinds_append xs ys a.1 b)

kinds_before : (port : Port) (test : ℕ → Bool) (c : ℕ) → KindsFit (before (λ c. only_if (test c) (marked_at port c)) c)
kinds_before port test zero = tt
kinds_before port test (suc c) = kinds_append (before (λ c. only_if (test c) (marked_at port c)) c) _ (kinds_before port test c) (one (test c))
  where
    one : (b : Bool) → KindsFit (only_if b (marked_at port c))
    one true = (transfer_fits port.shape (levels_at port.commands.signals c) (burst_before port.shape port.commands.signals (takes port) c), tt)
    one false = tt

take_all : {A : Type 0} (xs : List A) (n : ℕ) → length xs ≤ n → take n xs ≡ xs
take_all [] zero h = refl
take_all [] (suc n) h = refl
take_all (x ∷ xs) zero h = absurd (omega arith)
take_all (x ∷ xs) (suc n) h = ap (λ l. x ∷ l) (take_all xs n (omega arith))

reads_take : (target : Target) (shape : Shape) (n : ℕ) (beats : List Beat) → reads_of target shape (take n beats) ≤ reads_of target shape beats
reads_take target shape zero beats = omega arith
reads_take target shape (suc n) [] = omega arith
reads_take target shape (suc n) (b ∷ beats) =
    let rest = reads_take target shape n beats in
    let one = length-append (beat_operations target shape b) (flat_map (beat_operations target shape) (take n beats)) in
    let two = length-append (beat_operations target shape b) (flat_map (beat_operations target shape) beats) in
    omega (arith, rest, one, two)

-- where each asked word has come, all answers have
answers_all : (target : Target) (port : Port) (c : ℕ) → words_owed port c ≤ length (words_at port c) → length (answers_at target port c) ≡ reads_of target port.shape (read_beats (taken_at port c))
answers_all target port c h =
    zip_length (λ p. bytes_in target port.shape p.0 p.1) (beat_operations target port.shape)
    (λ b w. length-map (filled_lanes port.shape target.shape b.enables) _ ∙ sym (length-map (filled_lanes port.shape target.shape b.enables) _))
    (read_beats (taken_at port c)) (words_at port c)
    ∙ ap (reads_of target port.shape) (take_all (read_beats (taken_at port c)) (length (words_at port c)) h)

prefix_reads : (xs ys : List Operation) → IsPrefix xs ys → length ys ≤ length xs → read_ops ys ≡ read_ops xs
unfolding read_ops
prefix_reads xs ys p h =
    let long = ap length (sym p.joins) ∙ length-append xs p.rest in
    let split = ap read_ops (sym p.joins) ∙ read_ops_append xs p.rest in
    let none = nothing p.rest (omega (arith, long, h)) in
    omega (arith, split, none)
  where
    nothing : (rest : List Operation) → length rest ≤ 0 → read_ops rest ≡ 0
    nothing [] h = refl
    nothing (o ∷ rest) h = absurd (omega arith)

word_is_ready : (target : Target) (up down : Port) (end c : ℕ) → AreLegalAt up end → AreLegalAt down end → suc c ≤ end → IsPrefix (items target down (suc c)) (items target up (suc c)) →
    IsTrue (is_owed up c) → length (operations_among target up.shape (shown_at up (suc c))) ≤ length (operations_among target down.shape (taken_at down (suc c))) →
    words_owed down (suc c) ≤ length (words_at down (suc c)) → IsTrue (has_word_ready target up down (suc c))
word_is_ready target up down end c legal_up legal_down h order owed all_taken come =
    let in_order : IsPrefix (operations_among target down.shape (shown_at down (suc c))) (operations_among target up.shape (shown_at up (suc c))) =
    subst (λ l. IsPrefix l (operations_among target up.shape (shown_at up (suc c)))) (ops_of_items target down.shape false (shown_at down (suc c)))
    (subst (λ l. IsPrefix (ops_in (items target down (suc c))) l) (ops_of_items target up.shape false (shown_at up (suc c))) (ops_prefix order)) in
    let taken : IsPrefix (operations_among target down.shape (taken_at down (suc c))) (operations_among target down.shape (shown_at down (suc c))) = prefix_flat_map (operations_in target down.shape) (taken_is_shown down end (suc c) legal_down h) in
    let same = prefix_reads (operations_among target down.shape (taken_at down (suc c))) (operations_among target up.shape (shown_at up (suc c))) (prefix_trans taken in_order) all_taken in
    let above = among_read target up.shape (shown_at up (suc c)) (kinds_before up (is_first (shows up.commands.signals) (takes up)) (suc c)) in
    let below = among_read target down.shape (taken_at down (suc c)) (kinds_before down (takes down) (suc c)) in
    let answers = answers_all target down (suc c) come in
    let some = reads_take target up.shape (suc (length (words_at up (suc c)))) (read_beats (shown_at up (suc c))) in
    let asked : length (read_beats (taken_at up (suc c))) ≤ length (read_beats (shown_at up (suc c))) = prefix_length (prefix_flat_map _ (prefix_filter _ (taken_is_shown up end (suc c) legal_up h))) in
    let few = ltb-true (length (words_at up (suc c))) (words_owed up (suc c)) owed in
    and_from _ _ (lt-ltb (length (words_at up (suc c))) (length (read_beats (shown_at up (suc c)))) (omega (arith, asked, few)))
    (le-leb (reads_of target up.shape (take (suc (length (words_at up (suc c)))) (read_beats (shown_at up (suc c))))) (length (answers_at target down (suc c))) (omega (arith, same, above, below, answers, some)))

-- an owed word isn't wholly asked below, or is ready, or is owed below
pub answers_flow : (target : Target) (up down : Port) (end c : ℕ) → AreLegalAt up end → AreLegalAt down end → suc c ≤ end → IsPrefix (items target down (suc c)) (items target up (suc c)) →
    IsTrue (is_owed up c) →
    IsTrue (nat_lt (length (operations_among target down.shape (taken_at down (suc c)))) (length (operations_among target up.shape (shown_at up (suc c)))) || has_word_ready target up down (suc c) || is_owed down c)
answers_flow target up down end c legal_up legal_down h order owed =
    by_tests (nat_lt (length (operations_among target down.shape (taken_at down (suc c)))) (length (operations_among target up.shape (shown_at up (suc c))))) refl (is_owed down c) refl
  where
    last_of_three : (a b : Bool) → IsTrue (a || b || true)
    last_of_three a b = grind (arith, tests)

    first_of_two : (a b : Bool) → IsTrue a → IsTrue (a || b)
    first_of_two a b h = grind (arith, tests)

    by_tests : (untaken : Bool) → nat_lt (length (operations_among target down.shape (taken_at down (suc c)))) (length (operations_among target up.shape (shown_at up (suc c)))) ≡ untaken →
        (below : Bool) → is_owed down c ≡ below → IsTrue (untaken || has_word_ready target up down (suc c) || below)
    by_tests true e below f = refl
    by_tests false e true f = last_of_three false (has_word_ready target up down (suc c))
    by_tests false e false f = first_of_two (has_word_ready target up down (suc c)) false
        (word_is_ready target up down end c legal_up legal_down h order owed (ltb-false _ _ e) (ltb-false _ _ f))
