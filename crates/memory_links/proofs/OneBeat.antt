-- A side whose commands have one beat: no burst is ever under way, and each read asks one word.
use Rattle.std.proofs.Common.{ℕ, zero, suc, ◌<◌, ◌≤◌, ◌≡◌, ◌+◌, ◌*◌, ◌/◌, ◌%◌, ◌-◌, ◌^◌, Bool, true, false, not, ◌&&◌, List, [], ◌∷◌, ◌++◌, if◌then◌else◌, arith, refl, sym, ap, ap₂, ◌∙◌, map, filter, flat_map, nat_lt, IsTrue, IsFalse, append-nil, zero-mul, mul-one}
use Rattle.std.proofs.lemmas.Bool.{and_parts, ltb-true, or_left}
use Rattle.std.proofs.lemmas.List.{map-append}
use Rattle.std.proofs.lemmas.List.Elements.{filter-append}
use Rattle.std.proofs.lemmas.Grind.{flat_map-append}
use Rattle.std.proofs.Math.Nat.{mul-mod_left, mod-eq-sub-div-mul, div-mul-le_self, one-le-pow}
use Rattle.histories.specs.History.{is_raised, only_if, all_accepted, standing}
use Rattle.histories.specs.Laws.{shown_is_accepted_and_standing}
use Rattle.memory_runs.specs.Views.{Shape, Levels, levels_at, Kind}
use Rattle.memory_runs.specs.Views.Kind.{Reads, Writes}
use Rattle.memory_runs.specs.Operations.{Beat}
use Rattle.memory_runs.specs.Commands.{Burst, Transfer, shows, is_held, is_of_reads, burst_before, write_transfer, read_transfer, byte_address, burst_after, next_burst}
use Rattle.memory_machines.specs.Link.{Port, Marked, AreLegalAt, takes, marked_at, taken_at, shown_at, read_beats}
use Rattle.memory_machines.specs.Machines.{Raw, raw_at, raws, IsFitBeat}
use Rattle.memory_machines.specs.SideLaws.{fit_when_shown, marked_keeps}
use Rattle.memory_links.specs.Selects.{takes_read}

pub aligned : (x bytes : ℕ) → (x - x % bytes) % bytes ≡ 0
aligned x bytes =
    let whole : x - x % bytes ≡ x / bytes * bytes = (let low = mod-eq-sub-div-mul x bytes in let fits = div-mul-le_self x bytes in omega (arith, low, fits)) in
    ap (λ n. n % bytes) whole ∙ mul-mod_left (x / bytes) bytes

pub whole_address : (a unit bytes : ℕ) → unit ≡ 1 → a % bytes ≡ 0 → (a * unit - (a * unit) % bytes) + 0 * bytes ≡ a
whole_address a unit bytes one low =
    let same : a * unit ≡ a = ap (λ n. a * n) one ∙ mul-one a in
    let none = zero-mul bytes in
    rw (same, low, none) (omega arith)

abbrev pub raw_by : Levels → ℕ → ℕ → Raw
raw_by levels more tag = record { levels = levels; more = more; tag = tag }

abbrev pub beat_by : Kind → ℕ → ℕ → ℕ → Beat
beat_by kind address word enables = record { kind = kind; address = address; word = word; enables = enables }

pub beat_is : (kind : Kind) (a b w v e f : ℕ) → a ≡ b → w ≡ v → e ≡ f → beat_by kind a w e ≡ beat_by kind b v f
beat_is kind a b w v e f p q r = ap₂ (λ x y. beat_by kind x y e) p q ∙ ap (beat_by kind b v) r

abbrev pub transfer_by : Shape → Levels → Bool → Transfer
transfer_by shape levels w = record {
  kind = if w then Writes else Reads;
  first = byte_address shape levels.address;
  begins = true;
  ends = true;
  beats = beat_by (if w then Writes else Reads) (byte_address shape levels.address + 0 * shape.word_bytes) (if w then levels.word else 0) levels.enables ∷ [];
}

pub one_transfer : (shape : Shape) (levels : Levels) (burst : Burst) → burst.left ≡ 0 → levels.count ≡ 1 → (w : Bool) →
    (if w then write_transfer shape levels burst else read_transfer shape levels) ≡ transfer_by shape levels w
one_transfer shape levels burst none one true = ap₂ (λ l n. write_transfer shape (record levels { count = n }) (record { left = l; done = burst.done; first = burst.first })) none one
one_transfer shape levels burst none one false = ap (λ n. read_transfer shape (record levels { count = n })) one

-- the read beats of one transfer
abbrev pub reads_in : Transfer → List Beat
reads_in t = if is_of_reads t.kind then t.beats ++ [] else []

pub reads_of_one : (m : Marked) → read_beats (m ∷ []) ≡ reads_in m.transfer
reads_of_one m = by_kind (is_of_reads m.transfer.kind)
  where
    by_kind : (b : Bool) → flat_map (λ (m : Marked). m.transfer.beats) (if b then m ∷ [] else []) ≡ (if b then m.transfer.beats ++ [] else [])
    by_kind true = refl
    by_kind false = refl

pub reads_append : (xs ys : List Marked) → read_beats (xs ++ ys) ≡ read_beats xs ++ read_beats ys
reads_append xs ys = ap (flat_map (λ (m : Marked). m.transfer.beats)) (filter-append (λ (m : Marked). is_of_reads m.transfer.kind) xs ys) ∙ flat_map-append (λ (m : Marked). m.transfer.beats) (filter (λ (m : Marked). is_of_reads m.transfer.kind) xs) (filter (λ (m : Marked). is_of_reads m.transfer.kind) ys)

-- a burst of one beat leaves none under way
pub kept_alone : (a : Bool) (shape : Shape) (levels : Levels) (burst : Burst) → burst.left ≡ 0 → (a && is_raised levels.write ≡ true → levels.count ≡ 1) → (burst_after shape levels a burst).left ≡ 0
kept_alone a shape levels burst none one = by_test (a && is_raised levels.write) refl
  where
    by_test : (b : Bool) → a && is_raised levels.write ≡ b → (if b then next_burst shape levels burst else burst).left ≡ 0
    by_test false e = none
    by_test true e = let single = one e in rw (none, single) refl

pub kept_left : (a : Bool) (shape : Shape) (levels : Levels) (burst : Burst) → burst.left ≡ 0 → (a ≡ true → levels.count ≡ 1) → (burst_after shape levels a burst).left ≡ 0
kept_left a shape levels burst none one = kept_alone a shape levels burst none (λ both. one (and_parts a (is_raised levels.write) both).0)

abbrev pub enables_in : Beat → ℕ
enables_in beat = beat.enables

-- where each beat that is taken counts as one
module _ (port : Port) (end : ℕ) (one : (c : ℕ) → c < end → takes port c ≡ true → port.commands.count c ≡ 1) where
  pub stays_free : (c : ℕ) → c ≤ end → (burst_before port.shape port.commands.signals (takes port) c).left ≡ 0
  stays_free zero h = refl
  stays_free (suc c) h = kept_left (takes port c) port.shape (levels_at port.commands.signals c) (burst_before port.shape port.commands.signals (takes port) c) (stays_free c (omega (arith, h))) (λ t. one c (omega (arith, h)) t)

  pub transfer_is : (c : ℕ) → c < end → port.commands.count c ≡ 1 → (marked_at port c).transfer ≡ transfer_by port.shape (levels_at port.commands.signals c) (is_raised (port.commands.write c))
  transfer_is c h single = one_transfer port.shape (levels_at port.commands.signals c) (burst_before port.shape port.commands.signals (takes port) c) (stays_free c (omega (arith, h))) single (is_raised (port.commands.write c))

  -- the byte enables of the reads that are asked
  pub enables_asked : (c : ℕ) → c ≤ end → map enables_in (read_beats (taken_at port c)) ≡ all_accepted (takes_read port) port.commands.enables c
  enables_asked zero h = refl
  enables_asked (suc c) h = by_take (enables_asked c (omega (arith, h))) (takes port c) refl (is_raised (port.commands.write c)) refl
    where
      one_more : (w : Bool) → is_raised (port.commands.write c) ≡ w → takes port c ≡ true → map enables_in (read_beats (marked_at port c ∷ [])) ≡ only_if (not w) (port.commands.enables c)
      one_more w e t =
          ap (map enables_in) (reads_of_one (marked_at port c) ∙ ap reads_in (transfer_is c (omega (arith, h)) (one c (omega (arith, h)) t) ∙ ap (transfer_by port.shape (levels_at port.commands.signals c)) e)) ∙ by_write w
        where
          by_write : (w : Bool) → map enables_in (reads_in (transfer_by port.shape (levels_at port.commands.signals c) w)) ≡ only_if (not w) (port.commands.enables c)
          by_write true = refl
          by_write false = refl

      by_take : map enables_in (read_beats (taken_at port c)) ≡ all_accepted (takes_read port) port.commands.enables c → (t : Bool) → takes port c ≡ t → (w : Bool) → is_raised (port.commands.write c) ≡ w →
          map enables_in (read_beats (taken_at port c ++ only_if (takes port c) (marked_at port c))) ≡ all_accepted (takes_read port) port.commands.enables c ++ only_if (takes port c && not (is_raised (port.commands.write c))) (port.commands.enables c)
      by_take so_far true t w e =
          ap (λ b. map enables_in (read_beats (taken_at port c ++ only_if b (marked_at port c)))) t
          ∙ ap (map enables_in) (reads_append (taken_at port c) (marked_at port c ∷ []))
          ∙ map-append enables_in (read_beats (taken_at port c)) (read_beats (marked_at port c ∷ []))
          ∙ ap₂ (λ x y. x ++ y) so_far (one_more w e t)
          ∙ ap₂ (λ b d. all_accepted (takes_read port) port.commands.enables c ++ only_if (b && not d) (port.commands.enables c)) (sym t) (sym e)
      by_take so_far false t w e =
          ap (λ b. map enables_in (read_beats (taken_at port c ++ only_if b (marked_at port c)))) t
          ∙ ap (λ l. map enables_in (read_beats l)) (append-nil (taken_at port c)) ∙ so_far ∙ sym (append-nil (all_accepted (takes_read port) port.commands.enables c))
          ∙ ap (λ b. all_accepted (takes_read port) port.commands.enables c ++ only_if (b && not (is_raised (port.commands.write c))) (port.commands.enables c)) (sym t)

-- a beat that isn't in a burst, as a transfer
abbrev pub flat_mark : Shape → Raw → Marked
flat_mark shape raw = record { tag = raw.tag; more = is_raised raw.more; transfer = transfer_by shape raw.levels (is_raised raw.levels.write) }

-- the beats that a side has shown before a cycle
abbrev pub shown_raws : Port → ℕ → List Raw
shown_raws port k = raws port k ++ standing (shows port.commands.signals) (takes port) (raw_at port) k

module _ (port : Port) (end : ℕ) (legal : AreLegalAt port end) (one : (c : ℕ) → c < end → shows port.commands.signals c ≡ true → port.commands.count c ≡ 1) where
  when_taken : (c : ℕ) → c < end → takes port c ≡ true → port.commands.count c ≡ 1
  when_taken c h t = one c h (and_parts (shows port.commands.signals c) (not (is_raised (port.commands.waitrequest c))) t).0

  pub flat_at : (c : ℕ) → c < end → shows port.commands.signals c ≡ true → marked_at port c ≡ flat_mark port.shape (raw_at port c)
  flat_at c h shown = ap (λ (t : Transfer). marked_by (port.commands.tag c) (is_raised (port.commands.more c)) t) (transfer_is port end when_taken c h (one c h shown))
    where
      marked_by : ℕ → Bool → Transfer → Marked
      marked_by tag more transfer = record { tag = tag; more = more; transfer = transfer }

  pub flat_taken : (c : ℕ) → c ≤ end → taken_at port c ≡ map (flat_mark port.shape) (raws port c)
  flat_taken zero h = refl
  flat_taken (suc c) h =
      ap₂ (λ x y. x ++ y) (flat_taken c (omega (arith, h))) (by_take (takes port c) refl) ∙ sym (map-append (flat_mark port.shape) (raws port c) (only_if (takes port c) (raw_at port c)))
    where
      by_take : (t : Bool) → takes port c ≡ t → only_if t (marked_at port c) ≡ map (flat_mark port.shape) (only_if t (raw_at port c))
      by_take false t = refl
      by_take true t = ap (λ m. m ∷ []) (flat_at c (omega (arith, h)) (and_parts (shows port.commands.signals c) (not (is_raised (port.commands.waitrequest c))) t).0)

  pub flat_shown : (c : ℕ) → c ≤ end → shown_at port c ≡ map (flat_mark port.shape) (shown_raws port c)
  flat_shown c h =
      shown_is_accepted_and_standing (shows port.commands.signals) (takes port) (marked_at port) end c (marked_keeps port end legal) h
      ∙ ap₂ (λ x y. x ++ y) (flat_taken c h) (stood c h) ∙ sym (map-append (flat_mark port.shape) (raws port c) (standing (shows port.commands.signals) (takes port) (raw_at port) c))
    where
      stood : (c : ℕ) → c ≤ end → standing (shows port.commands.signals) (takes port) (marked_at port) c ≡ map (flat_mark port.shape) (standing (shows port.commands.signals) (takes port) (raw_at port) c)
      stood zero h = refl
      stood (suc c) h = by_held (is_held port.commands.signals (takes port) c) refl
        where
          by_held : (b : Bool) → is_held port.commands.signals (takes port) c ≡ b → only_if b (marked_at port c) ≡ map (flat_mark port.shape) (only_if b (raw_at port c))
          by_held false e = refl
          by_held true e = ap (λ m. m ∷ []) (flat_at c (omega (arith, h)) (and_parts (shows port.commands.signals c) (not (takes port c)) e).0)

-- a legal side without bursts
module _ (port : Port) (end : ℕ) (one_beat : port.shape.burst_bits ≡ 1) (legal : AreLegalAt port end) where
  count_when_free : (c : ℕ) → c < end → shows port.commands.signals c ≡ true → (burst_before port.shape port.commands.signals (takes port) c).left ≡ 0 → port.commands.count c ≡ 1
  count_when_free c h shown free =
      let fits = fit_when_shown port end c legal h shown in
      let none : IsFalse (nat_lt 0 (burst_before port.shape port.commands.signals (takes port) c).left) = rw free refl in
      let most : port.commands.count c ≤ 2 ^ (port.shape.burst_bits - 1) = fits.most none in
      let least = fits.least none in
      let single : 2 ^ (port.shape.burst_bits - 1) ≡ 1 = ap (λ n. 2 ^ (n - 1)) one_beat in
      omega (arith, most, least, single)

  pub free_before : (c : ℕ) → c ≤ end → (burst_before port.shape port.commands.signals (takes port) c).left ≡ 0
  free_before zero h = refl
  free_before (suc c) h =
      let earlier = free_before c (omega arith) in
      kept_left (takes port c) port.shape (levels_at port.commands.signals c) (burst_before port.shape port.commands.signals (takes port) c) earlier
      (λ t. count_when_free c (omega arith) (and_parts (shows port.commands.signals c) (not (is_raised (port.commands.waitrequest c))) t).0 earlier)

  pub count_is_one : (c : ℕ) → c < end → shows port.commands.signals c ≡ true → port.commands.count c ≡ 1
  count_is_one c h shown = count_when_free c h shown (free_before c (omega (arith, h)))

-- beats that each count as one and have one kind are those of a legal side
pub fit_alone : (port : Port) (end : ℕ) → ((c : ℕ) → c < end → shows port.commands.signals c ≡ true → port.commands.count c ≡ 1) →
    ((c : ℕ) → c < end → shows port.commands.signals c ≡ true → IsTrue (not (is_raised (port.commands.read c) && is_raised (port.commands.write c)))) →
    (c : ℕ) → c < end → shows port.commands.signals c ≡ true → IsFitBeat port.shape (burst_before port.shape port.commands.signals (takes port) c) (raw_at port c)
fit_alone port end single kind c h shown =
    let one = single c h shown in
    let free = stays_free port end (λ k low t. single k low (and_parts (shows port.commands.signals k) (not (is_raised (port.commands.waitrequest k))) t).0) c (omega (arith, h)) in
    record {
      one_kind = kind c h shown;
      least = λ f. omega (arith, one);
      most = λ f. (let some = one-le-pow (port.shape.burst_bits - 1) 2 (omega arith) in omega (arith, one, some));
      finished = λ busy. absurd (no_busy (burst_before port.shape port.commands.signals (takes port) c).left free busy);
      joined = or_left _ (is_raised (port.commands.more c)) (ap (λ (t : Transfer). t.ends) (one_transfer port.shape (levels_at port.commands.signals c) (burst_before port.shape port.commands.signals (takes port) c) free one (is_raised (port.commands.write c))));
    }
  where
    no_busy : (n : ℕ) → n ≡ 0 → IsTrue (nat_lt 0 n) → ⊥
    no_busy n e busy = let less = ltb-true 0 n busy in omega (arith, e, less)
