-- The byte enables of what is shown behind a route and below a cutter of bursts, and the operations of a host without byte enables.
use Rattle.std.proofs.Common.{ℕ, zero, suc, ◌≡◌, ◌<◌, ◌≤◌, ◌+◌, ◌*◌, ◌/◌, ◌%◌, ◌^◌, Bool, true, false, not, ◌&&◌, ◌||◌, List, [], ◌∷◌, if◌then◌else◌, arith, refl, sym, ap, ap₂, subst, ◌∙◌, length, map, filter, nat_lt, nat_eq, zero-mul, IsTrue, IsFalse}
use Rattle.std.proofs.lemmas.Bool.{and_parts, or_left, or_right, not-true}
use Rattle.std.proofs.lemmas.List.Folds.{list_all-append, list_all-map}
use Rattle.std.proofs.Math.Nat.{two-pow-succ}
use Rattle.std.specs.List.{list_any, list_all}
use Rattle.histories.specs.History.{is_raised, is_first, only_if, numbers}
use Rattle.memory_runs.specs.Views.{Shape, Levels, System, Run, levels_at}
use Rattle.memory_runs.specs.Views.Kind.{Writes}
use Rattle.memory_runs.specs.Operations.{Beat, filled_lanes, is_enabled, operation_at, piece_bytes}
use Rattle.memory_runs.specs.Commands.{Burst, Transfer, shows, burst_before, byte_address, read_beat, read_transfer, transfer_at, transfer_of, write_transfer}
use Rattle.memory_runs.specs.Legal.{host_accepts}
use Rattle.memory_runs.specs.Order.{beat_operations as placed_operations, from_base, host_transfers, is_agent, place_of}
use Rattle.memory_runs.specs.Plan.{FitsPorts}
use Rattle.memory_machines.specs.Link.{Port, takes, is_nonempty}
use Rattle.memory_machines.specs.Lines.{Sent, HavePlacedLanes, sent_by}
use Rattle.memory_machines.specs.Machines.{Raw, raw_at}
use Rattle.memory_links.specs.Cutters.{Reach, CutterState, Rest, RunsAsCutter, IsCutPlan, is_sending, behind_burst, first_burst, read_burst_of, whole_read, write_of_burst}
use Rattle.memory_links.specs.Selects.{EnablesFit, takes_read}
use Rattle.memory_awake.specs.Rows.{CutsBursts, CutsBursts.cutter, CutsBursts.no_cutter}
use Rattle.memory_awake.proofs.Bits.{no_true, takes_shows}
use Rattle.memory_awake.proofs.FairWaiting.{some_lanes}

-- ---- below a cutter of bursts

-- what it shows has the byte enables of what stands above, or of the read that it sends by itself
module _ (reach : Reach) (longest : ℕ) (up down : Port) (state : CutterState) (end : ℕ) (plan : IsCutPlan reach longest up.shape down.shape) (run : RunsAsCutter reach longest up down state) (fit : EnablesFit up end) where
  abbrev Fits : Rest → Type 0
  Fits rest = IsTrue (nat_lt 0 rest.left) → rest.command.levels.enables < 2 ^ up.shape.word_bytes

  abbrev later : Rest → Rest
  later rest = behind_burst reach up.shape.word_bytes rest

  rest_fits : (c : ℕ) → c ≤ end → Fits (state.rest c)
  rest_fits zero h = λ some. absurd (no_true (sym (ap (nat_lt 0) run.rest_begins) ∙ some))
  rest_fits (suc c) h = subst Fits (sym (run.rest_next c)) (by_sending (rest_fits c (omega (arith, h))) (is_sending state c) refl)
    where
      by_take : Fits (state.rest c) → (t : Bool) → IsTrue (is_sending state c) → Fits (if t then later (state.rest c) else state.rest c)
      by_take before true e some = before e
      by_take before false e some = before e

      by_read : Fits (state.rest c) → (t : Bool) → takes_read up c ≡ t → Fits (if t then later (whole_read up.shape (raw_at up c)) else state.rest c)
      by_read before true e some = fit c (omega (arith, h)) (takes_shows up c (and_parts (takes up c) (not (is_raised (up.commands.write c))) e).0)
      by_read before false e some = before some

      by_sending : Fits (state.rest c) → (b : Bool) → is_sending state c ≡ b → Fits (if b then (if takes down c then later (state.rest c) else state.rest c) else if takes_read up c then later (whole_read up.shape (raw_at up c)) else state.rest c)
      by_sending before true e = by_take before (takes down c) e
      by_sending before false e = by_read before (takes_read up c) refl

  below_fits : EnablesFit down end
  below_fits c h shown = subst (λ n. down.commands.enables c < 2 ^ n) (sym plan.same) (by_sending (is_sending state c) refl)
    where
      enables_of : Raw → ℕ
      enables_of raw = raw.levels.enables

      by_write : (w : Bool) → enables_of (if w then write_of_burst longest up.shape (state.place c) (raw_at up c) else read_burst_of reach (whole_read up.shape (raw_at up c))) ≡ up.commands.enables c
      by_write true = refl
      by_write false = refl

      enables_are : (b : Bool) → is_sending state c ≡ b → down.commands.enables c ≡ enables_of (if b then read_burst_of reach (state.rest c) else first_burst reach longest up.shape (state.place c) (raw_at up c))
      enables_are b e = ap enables_of (run.beat c shown) ∙ ap (λ b. enables_of (if b then read_burst_of reach (state.rest c) else first_burst reach longest up.shape (state.place c) (raw_at up c))) e

      by_sending : (b : Bool) → is_sending state c ≡ b → down.commands.enables c < 2 ^ up.shape.word_bytes
      by_sending true e = let same = enables_are true e in let few = rest_fits c (omega (arith, h)) e in omega (arith, same, few)
      by_sending false e =
          let above : shows up.commands.signals c ≡ true = ap (λ b. if b then true else shows up.commands.signals c) (sym e) ∙ sym (run.shown c) ∙ shown in
          let same = enables_are false e ∙ by_write (is_raised (up.commands.write c)) in
          let few = fit c h above in
          omega (arith, same, few)

-- byte enables that fit above a cutter of bursts, or a wire, fit below it
pub enables_below : {up down : Port} (end : ℕ) → CutsBursts up down → EnablesFit up end → EnablesFit down end
enables_below {up} {down} end (cutter reach longest state plan run) fit = below_fits reach longest up down state end plan run fit
enables_below {up} {down} end (no_cutter wired) fit = subst (λ p. EnablesFit p end) wired.wire.same fit

-- ---- a host without byte enables

lowest_lane : (bytes ones : ℕ) → 0 < bytes → ones + 1 ≡ 2 ^ bytes → is_enabled ones 0 ≡ true
lowest_lane zero ones some all = absurd (omega (arith, some))
lowest_lane (suc n) ones some all =
    let twice = two-pow-succ n in
    let odd : (ones / 2 ^ 0) % 2 ≡ 1 = omega (arith, twice, all) in
    ap (λ k. nat_eq k 1) odd

some_nonempty : {A : Type 0} (xs : List A) → 0 < length xs → is_nonempty xs ≡ true
some_nonempty {A} [] some = absurd (omega (arith, some))
some_nonempty {A} (x ∷ xs) some = refl

nonempty_map : {A B : Type 0} (f : A → B) (xs : List A) → is_nonempty (map f xs) ≡ is_nonempty xs
nonempty_map f [] = refl
nonempty_map f (x ∷ xs) = refl

-- the first lane of a beat with all lanes is filled
all_filled : (from to : Shape) (ones : ℕ) → 0 < from.word_bytes → 0 < to.word_bytes → IsFalse to.has_enables → ones + 1 ≡ 2 ^ from.word_bytes → is_nonempty (filled_lanes from to ones) ≡ true
all_filled from to ones some there none all = some_nonempty (filled_lanes from to ones) (some_lanes from to ones (by_has to.has_enables none (piece_bytes from to) (0 * piece_bytes from to) (omega (arith, some, there)) (zero-mul (piece_bytes from to))))
  where
    by_has : (has : Bool) → IsFalse has → (n first : ℕ) → 0 < n → first ≡ 0 →
        0 < length (if has then filter (is_enabled ones) (numbers first n) else if list_any (is_enabled ones) (numbers first n) then numbers first n else [])
    by_has true e n first more at = absurd (no_true (sym e))
    by_has false e zero first more at = absurd (omega (arith, more))
    by_has false e (suc n) first more at =
        let on : is_enabled ones first ≡ true = ap (is_enabled ones) at ∙ lowest_lane from.word_bytes ones some all in
        let size = ap (λ b. length (if b || list_any (is_enabled ones) (numbers (suc first) n) then numbers first (suc n) else [])) on in
        omega (arith, size)

module _ (system : System) (run : Run) (host agent end : ℕ) (some : 0 < (system.host host).word_bytes) (there : 0 < (system.agent agent).word_bytes) (none : IsFalse (system.agent agent).has_enables)
    (all : (c : ℕ) → c < end → (run.at_host host).enables c + 1 ≡ 2 ^ (system.host host).word_bytes) where
  abbrev acts : Beat → Bool
  acts b = is_nonempty (placed_operations system host agent b)

  beat_acts : (b : Beat) → b.enables + 1 ≡ 2 ^ (system.host host).word_bytes → acts b ≡ true
  beat_acts b ones = nonempty_map (operation_at (system.agent agent).span (from_base (system.base host agent) b)) (filled_lanes (system.host host).shape (system.agent agent).shape b.enables)
      ∙ all_filled (system.host host).shape (system.agent agent).shape b.enables some there none ones

  all_act : (shape : Shape) (levels : Levels) (burst : Burst) → levels.enables + 1 ≡ 2 ^ (system.host host).word_bytes → list_all acts (transfer_of shape levels burst).beats ≡ true
  all_act shape levels burst ones = by_write (is_raised levels.write)
    where
      reads_act : (ns : List ℕ) → list_all acts (map (read_beat shape levels) ns) ≡ true
      reads_act [] = refl
      reads_act (n ∷ ns) = ap₂ (λ x y. x && y) (beat_acts (read_beat shape levels n) ones) (reads_act ns)

      by_write : (w : Bool) → list_all acts (if w then write_transfer shape levels burst else read_transfer shape levels).beats ≡ true
      by_write true = ap (λ x. x && true) (beat_acts (record {
        kind = Writes;
        address = (if nat_eq burst.left 0 then byte_address shape levels.address else burst.first) + (if nat_eq burst.left 0 then 0 else burst.done) * shape.word_bytes;
        word = levels.word;
        enables = levels.enables;
      }) ones)
      by_write false = reads_act (numbers 0 levels.count)

  abbrev acts_there : Transfer → Bool
  acts_there t = not (is_agent agent (place_of system host t)) || list_all acts t.beats

  one_acts : (t : Transfer) → list_all acts t.beats ≡ true → (b : Bool) → list_all acts_there (only_if b t) ≡ true
  one_acts t beats true = ap (λ x. x && true) (or_right (not (is_agent agent (place_of system host t))) (list_all acts t.beats) beats)
  one_acts t beats false = refl

  abbrev first_in : ℕ → Bool
  first_in c = is_first (shows (run.at_host host).signals) (host_accepts (run.at_host host)) c

  abbrev transfer_in : ℕ → Transfer
  transfer_in c = transfer_at (system.host host).shape (run.at_host host).signals (host_accepts (run.at_host host)) c

  transfer_acts : (c : ℕ) → c < end → list_all acts (transfer_in c).beats ≡ true
  transfer_acts c h = all_act (system.host host).shape (levels_at (run.at_host host).signals c) (burst_before (system.host host).shape (run.at_host host).signals (host_accepts (run.at_host host)) c) (all c h)

  shown_act : (c : ℕ) → c ≤ end → list_all acts_there (host_transfers system run host c) ≡ true
  shown_act zero h = refl
  shown_act (suc c) h =
      list_all-append acts_there (host_transfers system run host c) (only_if (first_in c) (transfer_in c))
      ∙ ap₂ (λ x y. x && y) (shown_act c (omega (arith, h))) (one_acts (transfer_in c) (transfer_acts c (omega (arith, h))) (first_in c))

-- a host without byte enables presents no beat without an operation
pub lanes_placed : (system : System) (run : Run) (host agent end : ℕ) → 0 < (system.host host).word_bytes → 0 < (system.agent agent).word_bytes →
    FitsPorts (system.host host).shape (system.host host).has_burst (run.at_host host).signals end → IsTrue ((system.agent agent).has_enables || not (system.host host).has_enables) →
    (c : ℕ) → c ≤ end → HavePlacedLanes system host agent (sent_by (host_transfers system run host c))
lanes_placed system run host agent end some there fits may c h = by_has (system.agent agent).has_enables refl
  where
    by_has : (b : Bool) → (system.agent agent).has_enables ≡ b → HavePlacedLanes system host agent (sent_by (host_transfers system run host c))
    by_has true e = or_left (system.agent agent).has_enables _ e
    by_has false e =
        let absent = not-true (system.host host).has_enables (ap (λ b. b || not (system.host host).has_enables) (sym e) ∙ may) in
        or_right (system.agent agent).has_enables _
        (list_all-map (λ (s : Sent). not (is_agent agent (place_of system host s.transfer)) || list_all (λ (b : Beat). is_nonempty (placed_operations system host agent b)) s.transfer.beats) (λ (t : Transfer). record { transfer = t; closes = t.ends }) (host_transfers system run host c)
        ∙ shown_act system run host agent end some there e (λ k less. fits.all_lanes absent k less) c h)
