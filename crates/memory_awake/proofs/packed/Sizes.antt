-- How many operations the beats have that a side takes: the levels of each cycle tell.
use Rattle.std.proofs.Common.{ℕ, zero, suc, ◌<◌, ◌≡◌, Bool, true, false, List, [], ◌∷◌, ◌++◌, if◌then◌else◌, arith, refl, sym, ap, ap₂, ◌∙◌, length, map, flat_map, nat_lt, append-nil, filter, min, ◌*◌, ◌/◌, ◌||◌, zero-mul}
use Rattle.std.specs.List.{list_any}
use Rattle.std.proofs.lemmas.Bool.{and_parts}
use Rattle.std.proofs.lemmas.List.{length-map}
use Rattle.std.proofs.lemmas.List.Elements.{filter-append}
use Rattle.std.proofs.lemmas.Grind.{flat_map-append}
use Rattle.std.proofs.Math.Nat.{div_self}
use Rattle.histories.specs.History.{before, is_raised, numbers, only_if}
use Rattle.memory_runs.specs.Views.{Shape, Levels, levels_at}
use Rattle.memory_runs.specs.Operations.{Beat, filled_lanes, filled_of_piece, is_enabled, pieces}
use Rattle.memory_runs.specs.Commands.{Burst, burst_before, read_beat, read_transfer, shows, write_transfer, transfer_of}
use Rattle.memory_machines.specs.Link.{AreLegalAt, Target, Port, Marked, takes, marked_at, taken_at, beat_operations}
use Rattle.memory_links.specs.Packs.{beat_sizes, acting}

pub map_const : {A B : Type 0} (f : B → ℕ) (g : A → B) (n : ℕ) → ((x : A) → f (g x) ≡ n) → (xs : List A) → map f (map g xs) ≡ map (λ _. n) xs
map_const f g n same [] = refl
map_const f g n same (x ∷ xs) = ap₂ (λ k l. k ∷ l) (same x) (map_const f g n same xs)

-- the operations of a beat with these byte enables
abbrev pub lanes_of : Target → Shape → ℕ → ℕ
lanes_of target shape enables = length (filled_lanes shape target.shape enables)

-- those of each beat of what a cycle shows, where one beat has so many
abbrev pub each_of : Levels → ℕ → List ℕ
each_of levels n = if is_raised levels.write then n ∷ [] else map (λ _. n) (numbers 0 levels.count)

-- whatever is counted of a beat, if it is told by the byte enables
pub counted_of : (f : Beat → ℕ) (own : Shape) (levels : Levels) (burst : Burst) (n : ℕ) → ((b : Beat) → b.enables ≡ levels.enables → f b ≡ n) →
    map f (transfer_of own levels burst).beats ≡ each_of levels n
counted_of f own levels burst n same = by_write (is_raised levels.write)
  where
    by_write : (w : Bool) → map f (if w then write_transfer own levels burst else read_transfer own levels).beats ≡ (if w then n ∷ [] else map (λ _. n) (numbers 0 levels.count))
    by_write true = ap (λ k. k ∷ []) (same _ refl)
    by_write false = map_const f (read_beat own levels) n (λ k. same (read_beat own levels k) refl) (numbers 0 levels.count)

pub size_of : (target : Target) (shape : Shape) (b : Beat) (enables : ℕ) → b.enables ≡ enables → length (beat_operations target shape b) ≡ lanes_of target shape enables
size_of target shape b enables e = length-map (filled_lanes shape target.shape b.enables) _ ∙ ap (lanes_of target shape) e

abbrev pub sizes_now : Target → Shape → Levels → List ℕ
sizes_now target shape levels = each_of levels (lanes_of target shape levels.enables)

pub transfer_sizes : (target : Target) (shape own : Shape) (levels : Levels) (burst : Burst) →
    map (λ (b : Beat). length (beat_operations target shape b)) (transfer_of own levels burst).beats ≡ sizes_now target shape levels
transfer_sizes target shape own levels burst = counted_of (λ (b : Beat). length (beat_operations target shape b)) own levels burst (lanes_of target shape levels.enables) (λ b e. size_of target shape b levels.enables e)

-- the sizes of what is taken, cycle by cycle
abbrev pub sizes_at : Target → Shape → Port → ℕ → List ℕ
sizes_at target shape port c = if takes port c then sizes_now target shape (levels_at port.commands.signals c) else []

pub sizes_taken : (target : Target) (shape : Shape) (port : Port) (c : ℕ) → flat_map (beat_sizes target shape) (taken_at port c) ≡ before (sizes_at target shape port) c
sizes_taken target shape port zero = refl
sizes_taken target shape port (suc c) =
    flat_map-append (beat_sizes target shape) (taken_at port c) (only_if (takes port c) (marked_at port c)) ∙ ap₂ (λ x y. x ++ y) (sizes_taken target shape port c) (by_take (takes port c))
  where
    by_take : (t : Bool) → flat_map (beat_sizes target shape) (only_if t (marked_at port c)) ≡ (if t then sizes_now target shape (levels_at port.commands.signals c) else [])
    by_take true = append-nil (beat_sizes target shape (marked_at port c)) ∙ transfer_sizes target shape port.shape (levels_at port.commands.signals c) (burst_before port.shape port.commands.signals (takes port) c)
    by_take false = refl

pub acting_append : (xs ys : List ℕ) → acting (xs ++ ys) ≡ acting xs ++ acting ys
acting_append xs ys = filter-append (nat_lt 0) xs ys

-- where each cycle adds the same, but for empty ones
pub same_acting : (f g : ℕ → List ℕ) (c : ℕ) → ((k : ℕ) → k < c → acting (f k) ≡ acting (g k)) → acting (before f c) ≡ acting (before g c)
same_acting f g zero same = refl
same_acting f g (suc c) same =
    acting_append (before f c) (f c) ∙ ap₂ (λ x y. x ++ y) (same_acting f g c (λ k low. same k (omega arith))) (same c (omega arith)) ∙ sym (acting_append (before g c) (g c))

-- sizes don't depend on how long bursts may be, nor on the units of addresses
pub same_words : (target : Target) (one other : Shape) → one.word_bytes ≡ other.word_bytes → (ms : List Marked) → flat_map (beat_sizes target one) ms ≡ flat_map (beat_sizes target other) ms
same_words target one other e ms = ap (λ n. flat_map (beat_sizes target (record other { word_bytes = n })) ms) e

-- between equal words
pub filled_are : (from to : Shape) (enables : ℕ) → from.word_bytes ≡ to.word_bytes → 0 < to.word_bytes →
    filled_lanes from to enables ≡ (if to.has_enables then filter (is_enabled enables) (numbers 0 to.word_bytes) else if list_any (is_enabled enables) (numbers 0 to.word_bytes) then numbers 0 to.word_bytes else [])
filled_are from to enables same some =
    let least : min from.word_bytes to.word_bytes ≡ to.word_bytes = omega (arith, same) in
    let one : pieces from to ≡ 1 = ap₂ (λ a b. a / b) same least ∙ div_self some in
    let none : 0 * to.word_bytes ≡ 0 = zero-mul to.word_bytes in
    ap (λ n. flat_map (filled_of_piece from to enables) (numbers 0 n)) one ∙ append-nil (filled_of_piece from to enables 0)
    ∙ ap (λ n. if to.has_enables then filter (is_enabled enables) (numbers (0 * n) n) else if list_any (is_enabled enables) (numbers (0 * n) n) then numbers (0 * n) n else []) least
    ∙ ap (λ n. if to.has_enables then filter (is_enabled enables) (numbers n to.word_bytes) else if list_any (is_enabled enables) (numbers n to.word_bytes) then numbers n to.word_bytes else []) none

no_ones : (ks : List ℕ) → acting (map (λ _. 0) ks) ≡ []
no_ones [] = refl
no_ones (k ∷ ks) = no_ones ks

-- beats without an operation are left out
pub none_act : (levels : Levels) (n : ℕ) → n ≡ 0 → acting (each_of levels n) ≡ []
none_act levels n none = ap (λ n. acting (each_of levels n)) none ∙ by_write (is_raised levels.write)
  where
    by_write : (w : Bool) → acting (if w then 0 ∷ [] else map (λ _. 0) (numbers 0 levels.count)) ≡ []
    by_write true = refl
    by_write false = no_ones (numbers 0 levels.count)

-- a read is taken where no burst is under way, so its count is that of a command
pub read_begins : (port : Port) (end c : ℕ) → AreLegalAt port end → c < end → takes port c ≡ true → is_raised (port.commands.write c) ≡ false →
    nat_lt 0 (burst_before port.shape port.commands.signals (takes port) c).left ≡ false
read_begins port end c legal low taken reads = free (nat_lt 0 (burst_before port.shape port.commands.signals (takes port) c).left) refl
  where
    raised : (r w : Bool) → (r || w) ≡ true → w ≡ false → r ≡ true
    raised true w e f = refl
    raised false w e f = sym f ∙ e

    free : (b : Bool) → nat_lt 0 (burst_before port.shape port.commands.signals (takes port) c).left ≡ b → b ≡ false
    free false e = refl
    free true e =
        sym (raised (is_raised (port.commands.read c)) (is_raised (port.commands.write c)) (and_parts (shows port.commands.signals c) _ taken).0 reads)
        ∙ legal.legal.finished c low e
