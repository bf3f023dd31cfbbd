-- What a gatherer shows below: each transfer as one beat that does the same, and legal.
use Rattle.std.proofs.Common.{ℕ, zero, suc, ◌<◌, ◌≤◌, ◌≡◌, ◌+◌, ◌-◌, ◌*◌, ◌%◌, ◌^◌, Bool, true, false, not, [], ◌++◌, if◌then◌else◌, arith, refl, sym, ap, ap₂, subst, ◌∙◌, length, map, flat_map, append-nil, zero-mul, one-mul, mul-le-mul_right, le_of_lt}
use Rattle.std.proofs.lemmas.Bool.{and_parts}
use Rattle.std.proofs.lemmas.List.{length-map}
use Rattle.histories.specs.History.{is_raised, one_if, numbers}
use Rattle.memory_runs.specs.Views.{Levels, levels_at}
use Rattle.memory_runs.specs.Views.Kind.{Reads, Writes}
use Rattle.memory_runs.specs.Operations.{byte_at, operations_of}
use Rattle.memory_runs.specs.Commands.{Transfer, shows, burst_before, byte_address, write_transfer, read_transfer, read_beat}
use Rattle.memory_machines.specs.Link.{Target, Port, AreLegalAt, takes, marked_at, beat_operations}
use Rattle.memory_machines.specs.Machines.{MaySelect, LiesInOneWord, select_of}
use Rattle.memory_links.specs.Selects.{offset_in, takes_read}
use Rattle.memory_links.proofs.OneBeat.{aligned, whole_address, beat_by, beat_is, transfer_by, one_transfer, kept_alone}
use Rattle.memory_links.proofs.Repeating.{byte_of_moved, byte_of_repeated, same_operations_there}
use Rattle.memory_links.proofs.Lanes.{SelectsBeats, lies_within}
use Rattle.memory_links.specs.Gathers.{RunsAsGather, IsGatherPlan, GatherState, LieInWords, gathered, spread, is_last, entry_at}
use Rattle.memory_links.proofs.Gathered.{gathered_operations, enables_whole, spread_one}
use Rattle.memory_links.proofs.Alike.{IsAlike}
use Rattle.memory_links.proofs.Shutting.{ShutsReads, no_longer, below_is}

pub gather_gate : (room : ℕ) (up down : Port) (state : GatherState) → RunsAsGather room up down state → ShutsReads room up down (gathered up.shape down.shape) (λ c. length (state.entries c))
gather_gate room up down state run = record {
  levels = run.levels;
  reads = λ l. refl;
  writes = λ l. refl;
  single = λ l. refl;
  more = run.more;
  tag = run.tag;
  waitrequest = run.waitrequest;
  fewer = λ c none. subst (λ l. length l ≤ length (state.entries c)) (sym (run.entries_next c)) (no_longer (one_if (is_last down state c)) (state.entries c) (takes_read up c) (entry_at up down c) none);
}

module _ (law : SelectsBeats) (target : Target) (up down : Port) (many room : ℕ) (state : GatherState)
    (plan : IsGatherPlan target up.shape down.shape many) (run : RunsAsGather room up down state) where
  pub may : MaySelect up.shape down.shape target.shape
  may = record { some = plan.some; same = plan.same; enables = plan.enables }

  pub smaller : up.shape.word_bytes ≤ target.shape.word_bytes
  smaller =
      let more = mul-le-mul_right up.shape.word_bytes (le_of_lt plan.more) in
      let unit = one-mul up.shape.word_bytes in
      let whole = plan.whole in
      let same = plan.same in
      omega (arith, more, unit, whole, same)

  module _ (end : ℕ) (lie : LieInWords up down.shape end) (legal : AreLegalAt up end) where
    shown_taken : (c : ℕ) → takes up c ≡ true → shows up.commands.signals c ≡ true
    shown_taken c t = (and_parts (shows up.commands.signals c) (not (is_raised (up.commands.waitrequest c))) t).0

    pub free_above : (c : ℕ) → c ≤ end → (burst_before up.shape up.commands.signals (takes up) c).left ≡ 0
    free_above zero h = refl
    free_above (suc c) h =
        kept_alone (takes up c) up.shape (levels_at up.commands.signals c) (burst_before up.shape up.commands.signals (takes up) c) (free_above c (omega (arith, h)))
        (λ both. (let parts = and_parts (takes up c) (is_raised (up.commands.write c)) both in (lie c h (shown_taken c parts.0)).single parts.1))

    pub above_is : (c : ℕ) → c < end → shows up.commands.signals c ≡ true → (w : Bool) → is_raised (up.commands.write c) ≡ w →
        (marked_at up c).transfer ≡ (if w then transfer_by up.shape (levels_at up.commands.signals c) true else read_transfer up.shape (levels_at up.commands.signals c))
    above_is c h shown true e =
        ap (λ w. if w then write_transfer up.shape (levels_at up.commands.signals c) (burst_before up.shape up.commands.signals (takes up) c) else read_transfer up.shape (levels_at up.commands.signals c)) e
        ∙ one_transfer up.shape (levels_at up.commands.signals c) (burst_before up.shape up.commands.signals (takes up) c) (free_above c (omega (arith, h))) ((lie c h shown).single e) true
    above_is c h shown false e =
        ap (λ w. if w then write_transfer up.shape (levels_at up.commands.signals c) (burst_before up.shape up.commands.signals (takes up) c) else read_transfer up.shape (levels_at up.commands.signals c)) e

    abbrev pub offset : ℕ → ℕ
    offset c = offset_in up.shape down.shape (up.commands.address c)

    abbrev pub start : ℕ → ℕ
    start c = byte_address up.shape (up.commands.address c)

    fits_there : (c : ℕ) → offset c + up.shape.word_bytes ≤ down.shape.word_bytes
    fits_there c = lies_within (up.commands.address c * up.shape.unit_bytes) up.shape.word_bytes many down.shape.word_bytes plan.some (let more = plan.more in omega (arith, more)) plan.whole

    -- where the wide beat stands
    wide_address : (c : ℕ) → byte_address down.shape (down.commands.address c) + 0 * down.shape.word_bytes ≡ start c - offset c
    wide_address c =
        let address : down.commands.address c ≡ start c - offset c = ap (λ (l : Levels). l.address) (run.levels c) in
        ap (λ x. byte_address down.shape x + 0 * down.shape.word_bytes) address ∙ whole_address (start c - offset c) down.shape.unit_bytes down.shape.word_bytes plan.bytes (aligned (start c) down.shape.word_bytes)

    pub enables_below : (c : ℕ) → c < end → shows up.commands.signals c ≡ true → down.commands.enables c ≡ spread up.shape.word_bytes (up.commands.count c) (up.commands.enables c) * 2 ^ offset c
    enables_below c h shown =
        let lies = lie c h shown in
        ap (λ (l : Levels). l.enables) (run.levels c) ∙ enables_whole up.shape.word_bytes down.shape.word_bytes (up.commands.count c) (offset c) (up.commands.enables c) lies.few lies.within

    -- ---- a write

    write_operations : (c : ℕ) → c < end → shows up.commands.signals c ≡ true → is_raised (up.commands.write c) ≡ true →
        operations_of down.shape target.shape target.span (beat_by Writes (byte_address down.shape (down.commands.address c) + 0 * down.shape.word_bytes) (down.commands.word c) (down.commands.enables c))
        ≡ operations_of up.shape target.shape target.span (beat_by Writes (start c + 0 * up.shape.word_bytes) (up.commands.word c) (up.commands.enables c))
    write_operations c h shown e =
        let lies = lie c h shown in
        let none = zero-mul up.shape.word_bytes in
        let here : start c + 0 * up.shape.word_bytes ≡ start c = omega (arith, none) in
        let there : (start c + 0 * up.shape.word_bytes) % target.shape.word_bytes ≡ offset c = ap₂ (λ x y. x % y) here (sym plan.same) in
        let fits = fits_there c in
        let same = plan.same in
        let in_word : LiesInOneWord up.shape target.shape (start c + 0 * up.shape.word_bytes) (up.commands.enables c) = record { lanes = omega (arith, there, fits, same); few = lies.few } in
        let enables : down.commands.enables c ≡ up.commands.enables c * 2 ^ offset c =
        enables_below c h shown ∙ ap (λ n. n * 2 ^ offset c) (ap (λ n. spread up.shape.word_bytes n (up.commands.enables c)) (lies.single e) ∙ spread_one up.shape.word_bytes (up.commands.enables c)) in
        let moved : select_of target.shape.word_bytes (beat_by Writes (start c + 0 * up.shape.word_bytes) (up.commands.word c) (up.commands.enables c))
        ≡ beat_by Writes (byte_address down.shape (down.commands.address c) + 0 * down.shape.word_bytes) (up.commands.word c * 256 ^ offset c) (down.commands.enables c) =
        beat_is Writes _ _ _ _ _ _ (ap₂ (λ x y. x - y) here there ∙ sym (wide_address c)) (ap (λ s. up.commands.word c * 256 ^ s) there) (ap (λ s. up.commands.enables c * 2 ^ s) there ∙ sym enables) in
        sym (same_operations_there law up.shape down.shape target.shape may target.span Writes (byte_address down.shape (down.commands.address c) + 0 * down.shape.word_bytes) (up.commands.word c * 256 ^ offset c) (down.commands.word c) (up.commands.enables c) (down.commands.enables c) (offset c)
        (omega (arith, fits, same)) lies.few enables (bytes c))
        ∙ ap (operations_of down.shape target.shape target.span) (sym moved) ∙ sym (law up.shape down.shape target.shape target.span may (beat_by Writes (start c + 0 * up.shape.word_bytes) (up.commands.word c) (up.commands.enables c)) in_word)
      where
        bytes : (c i : ℕ) → i < up.shape.word_bytes → byte_at (up.commands.word c * 256 ^ offset c) (offset c + i) ≡ byte_at (down.commands.word c) (offset c + i)
        bytes c i h =
            byte_of_moved (up.commands.word c) (offset c) i
            ∙ sym (byte_of_repeated (up.commands.address c * up.shape.unit_bytes) up.shape.word_bytes many down.shape.word_bytes (up.commands.word c) i plan.some (let more = plan.more in omega (arith, more)) plan.whole h)
            ∙ ap (λ n. byte_at n (offset c + i)) (sym (ap (λ (l : Levels). l.word) (run.levels c)))

    -- ---- a read

    read_operations : (c : ℕ) → c < end → shows up.commands.signals c ≡ true →
        operations_of down.shape target.shape target.span (beat_by Reads (byte_address down.shape (down.commands.address c) + 0 * down.shape.word_bytes) 0 (down.commands.enables c))
        ≡ flat_map (beat_operations target up.shape) (map (read_beat up.shape (levels_at up.commands.signals c)) (numbers 0 (up.commands.count c)))
    read_operations c h shown =
        let lies = lie c h shown in
        let same = plan.same in
        let place : start c % target.shape.word_bytes ≡ offset c = ap (λ n. start c % n) (sym same) in
        let within = lies.within in
        let count : (0 + up.commands.count c) * up.shape.word_bytes ≡ up.commands.count c * up.shape.word_bytes = (let zeros : 0 + up.commands.count c ≡ up.commands.count c = omega arith in ap (λ n. n * up.shape.word_bytes) zeros) in
        let none = zero-mul up.shape.word_bytes in
        let at : start c % target.shape.word_bytes + 0 * up.shape.word_bytes ≡ offset c = omega (arith, place, none) in
        let address : start c - start c % target.shape.word_bytes ≡ byte_address down.shape (down.commands.address c) + 0 * down.shape.word_bytes = ap (λ o. start c - o) place ∙ sym (wide_address c) in
        sym (gathered_operations law target up.shape down.shape may smaller (start c) (up.commands.enables c) (up.commands.count c) 0 lies.few (omega (arith, within, place, same, count))
        ∙ ap₂ (λ a s. operations_of down.shape target.shape target.span (beat_by Reads a 0 s)) address (ap (λ o. spread up.shape.word_bytes (up.commands.count c) (up.commands.enables c) * 2 ^ o) at ∙ sym (enables_below c h shown)))

    pub alike : (c : ℕ) → c < end → shows up.commands.signals c ≡ true → IsAlike target up.shape down.shape false (marked_at up c) (marked_at down c)
    alike c h shown = by_write (is_raised (up.commands.write c)) refl
      where
        by_write : (w : Bool) → is_raised (up.commands.write c) ≡ w → IsAlike target up.shape down.shape false (marked_at up c) (marked_at down c)
        by_write true e =
            let above = above_is c h shown true e in
            let below = below_is (gather_gate room up down state run) c true e in
            record {
              tag = run.tag c;
              more = ap is_raised (run.more c);
              ends = ap (λ (t : Transfer). t.ends) below ∙ sym (ap (λ (t : Transfer). t.ends) above);
              kind = ap (λ (t : Transfer). t.kind) below ∙ sym (ap (λ (t : Transfer). t.kind) above);
              operations = ap (λ (t : Transfer). flat_map (beat_operations target down.shape) t.beats) below ∙ ap (λ l. l ++ []) (write_operations c h shown e) ∙ sym (ap (λ (t : Transfer). flat_map (beat_operations target up.shape) t.beats) above);
              beats = (let u = ap (λ (t : Transfer). length t.beats) above in let d = ap (λ (t : Transfer). length t.beats) below in omega (arith, u, d));
              same = λ is. cc;
              lanes = λ is. cc;
            }
        by_write false e =
            let above = above_is c h shown false e in
            let below = below_is (gather_gate room up down state run) c false e in
            let some = (lie c h shown).some in
            record {
              tag = run.tag c;
              more = ap is_raised (run.more c);
              ends = ap (λ (t : Transfer). t.ends) below ∙ sym (ap (λ (t : Transfer). t.ends) above);
              kind = ap (λ (t : Transfer). t.kind) below ∙ sym (ap (λ (t : Transfer). t.kind) above);
              operations = ap (λ (t : Transfer). flat_map (beat_operations target down.shape) t.beats) below ∙ append-nil _ ∙ read_operations c h shown ∙ sym (ap (λ (t : Transfer). flat_map (beat_operations target up.shape) t.beats) above);
              beats = (let u = ap (λ (t : Transfer). length t.beats) above ∙ length-map (numbers 0 (up.commands.count c)) (read_beat up.shape (levels_at up.commands.signals c)) ∙ length_numbers 0 (up.commands.count c) in
                  let d = ap (λ (t : Transfer). length t.beats) below in omega (arith, u, d, some));
              same = λ is. cc;
              lanes = λ is. cc;
            }
          where
            length_numbers : (j n : ℕ) → length (numbers j n) ≡ n
            length_numbers j zero = refl
            length_numbers j (suc n) = ap suc (length_numbers (suc j) n)
