-- What a cutter at wide words takes below are the touches of what it has accepted.
use Rattle.std.proofs.Common.{ℕ, zero, suc, ◌<◌, ◌≤◌, ◌≡◌, ◌+◌, ◌-◌, ◌*◌, ◌/◌, ◌%◌, min, Bool, true, false, not, List, [], ◌∷◌, ◌++◌, if◌then◌else◌, arith, refl, sym, ap, ap₂, subst, ◌∙◌, length, map, flat_map, nat_eq, nat_lt, append-nil, length-append, zero-mul, one-mul, add-mul, ltb-true, ltb-false, le_refl, Option, Some, None, mul-div_cancel}
use Rattle.std.proofs.lemmas.Bool.{and_parts}
use Rattle.std.proofs.lemmas.List.{map-append, length-map}
use Rattle.std.proofs.lemmas.List.Elements.{filter-append}
use Rattle.std.proofs.lemmas.Grind.{flat_map-append}
use Rattle.std.proofs.Math.Nat.{mod-lt}
use Rattle.histories.specs.History.{is_raised, numbers, only_if, IsPrefix}
use Rattle.histories.specs.Laws.{prefix_map, prefix_filter}
use Rattle.memory_runs.specs.Views.{Shape, Levels, levels_at}
use Rattle.memory_runs.specs.Views.Kind.{Writes}
use Rattle.memory_runs.specs.Operations.{Beat, operation_at, filled_lanes}
use Rattle.memory_runs.specs.Commands.{Transfer, shows, is_of_reads, read_beat, byte_address, burst_before}
use Rattle.memory_runs.specs.Packed.{Touch, goes_on}
use Rattle.memory_machines.specs.Link.{Target, Port, Marked, AreLegalAt, takes, marked_at, taken_at, beat_operations, operations_in, sizes}
use Rattle.memory_machines.specs.Machines.{Raw, raw_at}
use Rattle.memory_links.specs.Cutters.{CutterState, Rest, beats_of, whole_read}
use Rattle.memory_links.proofs.CutRuns.{some_read, beats_are, legal_fits}
use Rattle.memory_links.proofs.CutLists.{parts_in, parts_of, same_operations}
use Rattle.memory_links.proofs.CutLink.{Cutting, steps, taken_front}
use Rattle.memory_links.specs.Cutters.{Reach, RunsAsCutter, IsCutPlan, IsTouchPlan, reach_words, read_burst_of, behind_burst}
use Rattle.memory_links.specs.Packs.{touch_in, touches_from, touches_of, acting}
use Rattle.memory_links.proofs.Spread.{numbers_split}
use Rattle.memory_links.proofs.CutParts.{cutting, bursts_by, low, lows, parts, written, parts_same, sent_at, parts_when, step_of, transfer_when}
use Rattle.memory_links.proofs.Packing.{beat, p, q, address_is, one_touch, no_touches, stops, place_rises}
use Rattle.memory_links.proofs.Touching.{touches_are_cuts}

ops_count : (target : Target) (shape : Shape) (levels : Levels) (k n : ℕ) → length (flat_map (beat_operations target shape) (map (read_beat shape levels) (numbers k n))) ≡ n * length (filled_lanes shape target.shape levels.enables)
ops_count target shape levels k zero = sym (zero-mul (length (filled_lanes shape target.shape levels.enables)))
ops_count target shape levels k (suc n) =
    let one = length-map (filled_lanes shape target.shape levels.enables) (operation_at target.span (read_beat shape levels k)) in
    let rest = ops_count target shape levels (suc k) n in
    let both = length-append (beat_operations target shape (read_beat shape levels k)) (flat_map (beat_operations target shape) (map (read_beat shape levels) (numbers (suc k) n))) in
    let next : suc n ≡ 1 + n = omega arith in
    let sum = ap (λ m. m * length (filled_lanes shape target.shape levels.enables)) next ∙ add-mul 1 n (length (filled_lanes shape target.shape levels.enables)) in
    let unit = one-mul (length (filled_lanes shape target.shape levels.enables)) in
    omega (arith, one, rest, both, sum, unit)

pub acting_append : (xs ys : List ℕ) → acting (xs ++ ys) ≡ acting xs ++ acting ys
acting_append xs ys = filter-append (nat_lt 0) xs ys

times_none : (n : ℕ) → n * 0 ≡ 0
times_none zero = zero-mul 0
times_none (suc n) = (let next : suc n ≡ 1 + n = omega arith in let sum = ap (λ m. m * 0) next ∙ add-mul 1 n 0 in let one = one-mul 0 in let rest = times_none n in omega (arith, sum, one, rest))

abbrev touches_by : Target → Shape → Transfer → List ℕ
touches_by target shape t = if is_of_reads t.kind then touches_from target shape None 0 t.beats else map (λ (b : Beat). length (beat_operations target shape b)) t.beats

-- sizes that are all 0
acting_none : (xs : List Marked) (size : Marked → ℕ) → ((m : Marked) → size m ≡ 0) → acting (map size xs) ≡ []
acting_none [] size none = refl
acting_none (m ∷ xs) size none = ap (λ n. if nat_lt 0 n then size m ∷ acting (map size xs) else acting (map size xs)) (none m) ∙ acting_none xs size none

module _ (target : Target) (many s : ℕ) (up down : Port) (state : CutterState) (plan : IsTouchPlan many up.shape down.shape) (run : RunsAsCutter (reach_words up.shape.word_bytes many) 1 up down state) (end : ℕ) (legal : AreLegalAt up end)
    (spans : 0 < s) (word : target.shape.word_bytes ≡ many * up.shape.word_bytes) (span : target.span ≡ s * target.shape.word_bytes) where
  abbrev width : ℕ
  width = up.shape.word_bytes

  abbrev reach : Reach
  reach = reach_words width many

  abbrev cuts : IsCutPlan reach 1 up.shape down.shape
  cuts = touches_are_cuts many up.shape down.shape plan

  abbrev lows_of : Rest → List Marked
  lows_of rest = lows target reach 1 up down state cuts run end legal rest

  abbrev low_of : Raw → Marked
  low_of raw = low target reach 1 up down state cuts run end legal raw

  module _ (c : ℕ) where
    abbrev levels : Levels
    levels = levels_at up.commands.signals c

    abbrev each : ℕ
    each = p target up.shape many s plan.some plan.more spans word span levels

    abbrev beat_above : ℕ → Beat
    beat_above k = beat target up.shape many s plan.some plan.more spans word span levels k

    abbrev number : ℕ → ℕ
    number k = q target up.shape many s plan.some plan.more spans word span levels k

    -- a burst has the operations of its beats
    part_size : (rest : Rest) → rest.command ≡ raw_at up c → length (operations_in target down.shape (low_of (read_burst_of reach rest))) ≡ beats_of (reach rest.address) rest.left * each
    part_size rest command =
        ops_count target down.shape (read_burst_of reach rest).levels 0 (beats_of (reach rest.address) rest.left)
        ∙ ap₂ (λ n e. beats_of (reach rest.address) rest.left * length (filled_lanes (record up.shape { word_bytes = n }) target.shape e)) plan.same (ap (λ (r : Raw). r.levels.enables) command)

    list_of : (rest : Rest) → 0 < rest.left → lows_of rest ≡ low_of (read_burst_of reach rest) ∷ lows_of (behind_burst reach width rest)
    list_of rest some = step_of target reach 1 up down state cuts run end legal rest some

    none_of : (rest : Rest) → rest.left ≡ 0 → lows_of rest ≡ []
    none_of rest none = by_left rest.left none
      where
        by_left : (n : ℕ) → n ≡ 0 → map low_of (bursts_by reach width n rest) ≡ []
        by_left zero e = refl
        by_left (suc n) e = absurd (omega (arith, e))

    module _ (acts : 0 < each) where
      bursts_pack : (most : ℕ) (rest : Rest) (k : ℕ) → rest.command ≡ raw_at up c → rest.address ≡ byte_address up.shape (up.commands.address c) + k * width → rest.left ≤ most → 0 < rest.left →
          (last : Option Touch) (size : ℕ) → goes_on last (touch_in target (beat_above k)) ≡ false →
          acting (touches_from target up.shape last size (map beat_above (numbers k rest.left))) ≡ acting (size ∷ []) ++ acting (sizes target down.shape (lows_of rest))
      bursts_pack zero rest k command at low_most some last size off = absurd (omega (arith, low_most, some))
      bursts_pack (suc most) rest k command at low_most some last size off =
          by_rest (bursts_pack most (behind_burst reach width rest) (k + now) command) (nat_lt 0 (rest.left - now)) refl
        where
          now : ℕ
          now = reach rest.address

          far : ℕ
          far = beats_of (reach rest.address) rest.left

          far_is : far ≡ min now rest.left
          far_is = beats_are (reach rest.address) rest.left some

          now_some : 0 < now
          now_some = cuts.goes rest.address

          far_some : 0 < far
          far_some = omega (arith, far_is, now_some, some)

          enough : far ≤ rest.left
          enough = omega (arith, far_is)

          place : rest.address / width % many ≡ number k % many
          place =
              let is = address_is target up.shape many s plan.some plan.more spans word span levels k in
              ap (λ n. n / width % many) (at ∙ is) ∙ ap (λ n. n % many) (mul-div_cancel (number k) plan.some)

          before : ℕ
          before = far - 1

          fits : number k % many + before < many
          fits = (let few = mod-lt (number k) plan.more in omega (arith, place, few, far_some, far_is))

          split : map beat_above (numbers k rest.left) ≡ map beat_above (numbers k (suc before)) ++ map beat_above (numbers (k + far) (rest.left - far))
          split =
              let whole : rest.left ≡ far + (rest.left - far) = omega (arith, enough) in
              let same : far ≡ suc before = omega (arith, far_some) in
              ap (λ n. map beat_above (numbers k n)) whole ∙ ap (map beat_above) (numbers_split k far (rest.left - far)) ∙ map-append beat_above (numbers k far) (numbers (k + far) (rest.left - far))
              ∙ ap (λ n. map beat_above (numbers k n) ++ map beat_above (numbers (k + far) (rest.left - far))) same

          first : touches_from target up.shape last size (map beat_above (numbers k rest.left))
              ≡ size ∷ touches_from target up.shape (Some (touch_in target (beat_above (k + before)))) (far * each) (map beat_above (numbers (k + far) (rest.left - far)))
          first =
              let same : suc before ≡ far = omega (arith, far_some) in
              ap (touches_from target up.shape last size) split
              ∙ one_touch target up.shape many s plan.some plan.more spans word span levels acts last size k before (map beat_above (numbers (k + far) (rest.left - far))) off fits
              ∙ ap (λ n. size ∷ touches_from target up.shape (Some (touch_in target (beat_above (k + before)))) (n * each) (map beat_above (numbers (k + far) (rest.left - far)))) same

          sizes_first : acting (sizes target down.shape (lows_of rest)) ≡ acting (far * each ∷ []) ++ acting (sizes target down.shape (lows_of (behind_burst reach width rest)))
          sizes_first =
              ap (λ l. acting (sizes target down.shape l)) (list_of rest some)
              ∙ ap (λ n. acting (n ∷ sizes target down.shape (lows_of (behind_burst reach width rest)))) (part_size rest command)
              ∙ acting_append (far * each ∷ []) (sizes target down.shape (lows_of (behind_burst reach width rest)))

          by_rest : (rest.address + now * width ≡ byte_address up.shape (up.commands.address c) + (k + now) * width → rest.left - now ≤ most → 0 < rest.left - now →
              (last : Option Touch) (size : ℕ) → goes_on last (touch_in target (beat_above (k + now))) ≡ false →
              acting (touches_from target up.shape last size (map beat_above (numbers (k + now) (rest.left - now)))) ≡ acting (size ∷ []) ++ acting (sizes target down.shape (lows_of (behind_burst reach width rest)))) →
              (b : Bool) → nat_lt 0 (rest.left - now) ≡ b → acting (touches_from target up.shape last size (map beat_above (numbers k rest.left))) ≡ acting (size ∷ []) ++ acting (sizes target down.shape (lows_of rest))
          by_rest go false e =
              let past : rest.left - now ≡ 0 = (let most_left = ltb-false 0 (rest.left - now) e in omega (arith, most_left)) in
              let none : rest.left - far ≡ 0 = omega (arith, past, far_is) in
              ap acting first
              ∙ ap (λ n. acting (size ∷ touches_from target up.shape (Some (touch_in target (beat_above (k + before)))) (far * each) (map beat_above (numbers (k + far) n)))) none
              ∙ acting_append (size ∷ []) (far * each ∷ [])
              ∙ ap (λ l. acting (size ∷ []) ++ l) (sym (sizes_first ∙ ap (λ l. acting (far * each ∷ []) ++ acting (sizes target down.shape l)) (none_of (behind_burst reach width rest) past) ∙ append-nil (acting (far * each ∷ []))))
          by_rest go true e =
              let more = ltb-true 0 (rest.left - now) e in
              let same : far ≡ now = omega (arith, far_is, more) in
              let sum = add-mul k now width in
              let whole : number k % many + now ≡ many = (let few = mod-lt (number k) plan.more in omega (arith, place, few)) in
              let at_end : number (k + before) % many + 1 ≡ many =
              (let next : number (k + before) ≡ number k + before = omega arith in let rises = ap (λ n. n % many) next ∙ place_rises target up.shape many s plan.some plan.more spans word span levels (number k) before fits in omega (arith, rises, whole, far_some, same)) in
              let behind_is : suc (k + before) ≡ k + now = omega (arith, far_some, same) in
              let stopped = stops target up.shape many s plan.some plan.more spans word span levels (k + before) at_end in
              let apart = ap (λ j. goes_on (Some (touch_in target (beat_above (k + before)))) (touch_in target (beat_above j))) (sym behind_is) ∙ stopped in
              let later = go (omega (arith, at, sum)) (omega (arith, low_most, now_some, some)) more (Some (touch_in target (beat_above (k + before)))) (far * each) apart in
              ap acting first
              ∙ acting_append (size ∷ []) (touches_from target up.shape (Some (touch_in target (beat_above (k + before)))) (far * each) (map beat_above (numbers (k + far) (rest.left - far))))
              ∙ ap (λ l. acting (size ∷ []) ++ l) (ap (λ n. acting (touches_from target up.shape (Some (touch_in target (beat_above (k + before)))) (far * each) (map beat_above (numbers (k + n) (rest.left - n))))) same ∙ later ∙ sym sizes_first)

    -- ---- a transfer that is accepted

    module _ (h : c < end) (shown : shows up.commands.signals c ≡ true) where
      read_packs : is_raised (up.commands.write c) ≡ false → acting (sizes target down.shape (lows_of (whole_read up.shape (raw_at up c)))) ≡ acting (touches_from target up.shape None 0 (map beat_above (numbers 0 (up.commands.count c))))
      read_packs e = by_acts (nat_lt 0 each) refl
        where
          by_acts : (b : Bool) → nat_lt 0 each ≡ b → acting (sizes target down.shape (lows_of (whole_read up.shape (raw_at up c)))) ≡ acting (touches_from target up.shape None 0 (map beat_above (numbers 0 (up.commands.count c))))
          by_acts true f =
              let none = zero-mul width in
              let start : byte_address up.shape (up.commands.address c) ≡ byte_address up.shape (up.commands.address c) + 0 * width = omega (arith, none) in
              sym (bursts_pack (ltb-true 0 each f) (up.commands.count c) (whole_read up.shape (raw_at up c)) 0 refl start (le_refl (up.commands.count c)) (some_read up end (legal_fits up end legal) c h shown e) None 0 refl)
          by_acts false f =
              let none : each ≡ 0 = (let most = ltb-false 0 each f in omega (arith, most)) in
              all_none (up.commands.count c) (whole_read up.shape (raw_at up c)) refl (le_refl (up.commands.count c)) none ∙ sym (no_touches target up.shape many s plan.some plan.more spans word span levels none None 0 0 (up.commands.count c))
            where
              all_none : (most : ℕ) (rest : Rest) → rest.command ≡ raw_at up c → rest.left ≤ most → each ≡ 0 → acting (sizes target down.shape (lows_of rest)) ≡ []
              all_none zero rest command low_most none = ap (λ l. acting (sizes target down.shape l)) (none_of rest (omega (arith, low_most)))
              all_none (suc most) rest command low_most none = by_left (nat_lt 0 rest.left) refl (all_none most (behind_burst reach width rest) command)
                where
                  by_left : (b : Bool) → nat_lt 0 rest.left ≡ b → (rest.left - reach rest.address ≤ most → each ≡ 0 → acting (sizes target down.shape (lows_of (behind_burst reach width rest))) ≡ []) → acting (sizes target down.shape (lows_of rest)) ≡ []
                  by_left false k later = ap (λ l. acting (sizes target down.shape l)) (none_of rest (let m = ltb-false 0 rest.left k in omega (arith, m)))
                  by_left true k later =
                      let some = ltb-true 0 rest.left k in
                      let far_some = cuts.goes rest.address in
                      let zeros : beats_of (reach rest.address) rest.left * each ≡ 0 = ap (λ n. beats_of (reach rest.address) rest.left * n) none ∙ times_none (beats_of (reach rest.address) rest.left) in
                      ap (λ l. acting (sizes target down.shape l)) (list_of rest some)
                      ∙ ap (λ n. acting (n ∷ sizes target down.shape (lows_of (behind_burst reach width rest)))) (part_size rest command ∙ zeros)
                      ∙ later (omega (arith, low_most, far_some, some)) none

      abbrev beat_of_write : ℕ → Beat
      beat_of_write c = record {
        kind = Writes;
        address = (if nat_eq (burst_before up.shape up.commands.signals (takes up) c).left 0 then byte_address up.shape (up.commands.address c) else (burst_before up.shape up.commands.signals (takes up) c).first) + (if nat_eq (burst_before up.shape up.commands.signals (takes up) c).left 0 then 0 else (burst_before up.shape up.commands.signals (takes up) c).done) * up.shape.word_bytes;
        word = up.commands.word c;
        enables = up.commands.enables c;
      }

      step_packs : acting (sizes target down.shape (parts target reach 1 up down state cuts run end legal c)) ≡ acting (touches_of target up.shape (marked_at up c))
      step_packs = by_write (is_raised (up.commands.write c)) refl
        where
          by_write : (w : Bool) → is_raised (up.commands.write c) ≡ w → acting (sizes target down.shape (parts target reach 1 up down state cuts run end legal c)) ≡ acting (touches_by target up.shape (marked_at up c).transfer)
          by_write false e =
              ap (λ l. acting (sizes target down.shape l)) (parts_when target reach 1 up down state cuts run end legal c false e) ∙ read_packs e
              ∙ ap (λ (t : Transfer). acting (touches_by target up.shape t)) (sym (transfer_when target reach 1 up down state cuts run end legal c false e))
          by_write true e =
              let are = parts_when target reach 1 up down state cuts run end legal c true e in
              let sent = sent_at target reach 1 up down state cuts run end legal c h shown in
              let one = written target reach 1 up down state cuts run end legal c in
              let beats : one.transfer.beats ≡ (marked_at up c).transfer.beats = sym (append-nil one.transfer.beats) ∙ ap (flat_map (λ (m : Marked). m.transfer.beats)) (sym are) ∙ sent.beats in
              let size : length (operations_in target down.shape one) ≡ length (flat_map (beat_operations target up.shape) (marked_at up c).transfer.beats) =
              ap length (same_operations target up.shape down.shape plan.same one) ∙ ap (λ l. length (flat_map (beat_operations target up.shape) l)) beats in
              let there = transfer_when target reach 1 up down state cuts run end legal c true e in
              ap (λ l. acting (sizes target down.shape l)) are ∙ ap (λ n. acting (n ∷ [])) (size ∙ ap (λ (t : Transfer). length (flat_map (beat_operations target up.shape) t.beats)) there ∙ ap length (append-nil (beat_operations target up.shape (beat_of_write c))))
              ∙ ap (λ (t : Transfer). acting (touches_by target up.shape t)) (sym there)

  abbrev cut : Cutting target up down end
  cut = cutting target reach 1 up down state cuts run end legal

  abbrev parts_now : ℕ → List Marked
  parts_now c = cut.parts c

  abbrev gone_before : ℕ → List Marked
  gone_before c = parts_of (steps target up down end cut c)

  all_pack : (c : ℕ) → c ≤ end → acting (sizes target down.shape (parts_of (steps target up down end cut c))) ≡ acting (flat_map (touches_of target up.shape) (taken_at up c))
  all_pack zero h = refl
  all_pack (suc c) h = by_take (takes up c) refl (all_pack c (omega (arith, h)))
    where
      by_take : (t : Bool) → takes up c ≡ t → acting (sizes target down.shape (gone_before c)) ≡ acting (flat_map (touches_of target up.shape) (taken_at up c)) →
          acting (sizes target down.shape (parts_of (steps target up down end cut (suc c)))) ≡ acting (flat_map (touches_of target up.shape) (taken_at up (suc c)))
      by_take t e so_far =
          ap (λ b. acting (sizes target down.shape (parts_of (steps target up down end cut c ++ only_if b (record { above = marked_at up c; parts = parts_now c }))))) e
          ∙ by_case t e ∙ ap (λ b. acting (flat_map (touches_of target up.shape) (taken_at up c ++ only_if b (marked_at up c)))) (sym e)
        where
          by_case : (t : Bool) → takes up c ≡ t → acting (sizes target down.shape (parts_of (steps target up down end cut c ++ only_if t (record { above = marked_at up c; parts = parts_now c })))) ≡ acting (flat_map (touches_of target up.shape) (taken_at up c ++ only_if t (marked_at up c)))
          by_case false k = ap (λ l. acting (sizes target down.shape (parts_of l))) (append-nil (steps target up down end cut c)) ∙ so_far ∙ ap (λ l. acting (flat_map (touches_of target up.shape) l)) (sym (append-nil (taken_at up c)))
          by_case true k =
              ap (λ l. acting (sizes target down.shape l)) (flat_map-append parts_in (steps target up down end cut c) (record { above = marked_at up c; parts = parts_now c } ∷ []) ∙ ap (λ l. gone_before c ++ l) (append-nil (parts_now c)))
              ∙ ap acting (map-append (λ (m : Marked). length (operations_in target down.shape m)) (gone_before c) (parts_now c)) ∙ acting_append (sizes target down.shape (gone_before c)) (sizes target down.shape (parts_now c))
              ∙ ap₂ (λ x y. x ++ y) so_far (ap (λ l. acting (sizes target down.shape l)) (parts_same target reach 1 up down state cuts run end legal c) ∙ step_packs c (omega (arith, h)) (and_parts (shows up.commands.signals c) (not (is_raised (up.commands.waitrequest c))) k).0)
              ∙ sym (acting_append (flat_map (touches_of target up.shape) (taken_at up c)) (touches_of target up.shape (marked_at up c)))
              ∙ ap acting (sym (flat_map-append (touches_of target up.shape) (taken_at up c) (marked_at up c ∷ []) ∙ ap (λ l. flat_map (touches_of target up.shape) (taken_at up c) ++ l) (append-nil (touches_of target up.shape (marked_at up c)))))

  -- the bursts that are taken below are the touches of what was accepted above
  pub cut_packs : (c : ℕ) → c ≤ end → IsPrefix (acting (sizes target down.shape (taken_at down c))) (acting (flat_map (touches_of target up.shape) (taken_at up c)))
  cut_packs c h =
      subst (IsPrefix (acting (sizes target down.shape (taken_at down c)))) (all_pack c h)
      (prefix_filter (nat_lt 0) (prefix_map (λ (m : Marked). length (operations_in target down.shape m)) (taken_front target up down end cut c h)))
