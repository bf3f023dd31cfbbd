-- Between equal words each beat is a touch, so what hands beats on as they are packs reads.
use Rattle.std.proofs.Common.{ℕ, zero, suc, ◌<◌, ◌≡◌, ◌+◌, ◌*◌, ◌%◌, Bool, true, false, List, [], ◌∷◌, ◌++◌, if◌then◌else◌, arith, refl, sym, ap, ap₂, subst, ◌∙◌, length, map, flat_map, nat_lt, append-nil, one-mul, ltb-true, ltb-false, Option, Some, None}
use Rattle.std.proofs.lemmas.List.{map-append}
use Rattle.std.proofs.lemmas.List.Elements.{filter-append}
use Rattle.std.proofs.lemmas.Grind.{flat_map-append}
use Rattle.std.proofs.Math.Nat.{mod-lt}
use Rattle.histories.specs.History.{is_raised, numbers, only_if, IsPrefix}
use Rattle.histories.specs.Laws.{prefix_refl, prefix_filter, prefix_flat_map}
use Rattle.memory_runs.specs.Views.{Shape, Levels, levels_at}
use Rattle.memory_runs.specs.Operations.{Beat}
use Rattle.memory_runs.specs.Commands.{Transfer, is_of_reads, burst_before, read_transfer, write_transfer}
use Rattle.memory_runs.specs.Packed.{Touch, goes_on}
use Rattle.memory_machines.specs.Link.{Target, Port, Marked, takes, marked_at, taken_at, beat_operations}
use Rattle.memory_links.proofs.CutLists.{Step, above_of, parts_of, beats_of, AllSent}
use Rattle.memory_links.proofs.CutLink.{Cutting, steps, up_steps, all_sent, taken_front}
use Rattle.memory_links.specs.Packs.{touch_in, touches_from, touches_of, beat_sizes, acting, PacksReads}
use Rattle.memory_links.proofs.Packing.{beat, p, q, one_touch, no_touches, stops, ops_are}

module _ (target : Target) (shape : Shape) (s : ℕ) (some : 0 < shape.word_bytes) (one : 0 < 1) (spans : 0 < s) (word : target.shape.word_bytes ≡ 1 * shape.word_bytes) (span : target.span ≡ s * target.shape.word_bytes) where
  abbrev size_of : Beat → ℕ
  size_of b = length (beat_operations target shape b)

  acting_append : (xs ys : List ℕ) → acting (xs ++ ys) ≡ acting xs ++ acting ys
  acting_append xs ys = filter-append (nat_lt 0) xs ys

  module _ (levels : Levels) where
    abbrev beat_at : ℕ → Beat
    beat_at k = beat target shape 1 s some one spans word span levels k

    abbrev each : ℕ
    each = p target shape 1 s some one spans word span levels

    alone : (k : ℕ) → q target shape 1 s some one spans word span levels k % 1 ≡ 0
    alone k = (let low = mod-lt (q target shape 1 s some one spans word span levels k) one in omega (arith, low))

    each_touch : 0 < each → (n k size : ℕ) (last : Option Touch) → goes_on last (touch_in target (beat_at k)) ≡ false →
        acting (touches_from target shape last size (map beat_at (numbers k n))) ≡ acting (size ∷ []) ++ acting (map size_of (map beat_at (numbers k n)))
    each_touch acts zero k size last off = sym (append-nil (acting (size ∷ [])))
    each_touch acts (suc n) k size last off =
        let none = alone k in
        let here : k + 0 ≡ k = omega arith in
        let rest = map beat_at (numbers (suc k) n) in
        let mine : 1 * each ≡ size_of (beat_at k) = one-mul each ∙ sym (ops_are target shape 1 s some one spans word span levels k) in
        let apart = stops target shape 1 s some one spans word span levels k (omega (arith, none)) in
        let later = each_touch acts n (suc k) (size_of (beat_at k)) (Some (touch_in target (beat_at k))) apart in
        ap acting (one_touch target shape 1 s some one spans word span levels acts last size k 0 rest off (omega (arith, none)))
        ∙ ap₂ (λ j m. acting (size ∷ touches_from target shape (Some (touch_in target (beat_at j))) m rest)) here mine
        ∙ acting_append (size ∷ []) (touches_from target shape (Some (touch_in target (beat_at k))) (size_of (beat_at k)) rest)
        ∙ ap (λ l. acting (size ∷ []) ++ l) (later ∙ sym (acting_append (size_of (beat_at k) ∷ []) (map size_of rest)))

    none_acts : each ≡ 0 → (n k : ℕ) → acting (map size_of (map beat_at (numbers k n))) ≡ []
    none_acts none zero k = refl
    none_acts none (suc n) k = ap (λ m. if nat_lt 0 m then size_of (beat_at k) ∷ acting (map size_of (map beat_at (numbers (suc k) n))) else acting (map size_of (map beat_at (numbers (suc k) n)))) (ops_are target shape 1 s some one spans word span levels k ∙ none) ∙ none_acts none n (suc k)

    read_touches : (n : ℕ) → acting (touches_from target shape None 0 (map beat_at (numbers 0 n))) ≡ acting (map size_of (map beat_at (numbers 0 n)))
    read_touches n = by_acts (nat_lt 0 each) refl
      where
        by_acts : (b : Bool) → nat_lt 0 each ≡ b → acting (touches_from target shape None 0 (map beat_at (numbers 0 n))) ≡ acting (map size_of (map beat_at (numbers 0 n)))
        by_acts true e = each_touch (ltb-true 0 each e) n 0 0 None refl
        by_acts false e =
            let none : each ≡ 0 = (let most = ltb-false 0 each e in omega (arith, most)) in
            no_touches target shape 1 s some one spans word span levels none None 0 0 n ∙ sym (none_acts none n 0)

  -- of whatever stands at a side
  transfer_touches : (levels : Levels) (t : Transfer) → (w : Bool) → (written : Transfer) → is_of_reads written.kind ≡ false → t ≡ (if w then written else read_transfer shape levels) →
      acting (if is_of_reads t.kind then touches_from target shape None 0 t.beats else map size_of t.beats) ≡ acting (map size_of t.beats)
  transfer_touches levels t true written is e =
      ap (λ (t : Transfer). acting (if is_of_reads t.kind then touches_from target shape None 0 t.beats else map size_of t.beats)) e
      ∙ ap (λ b. acting (if b then touches_from target shape None 0 written.beats else map size_of written.beats)) is ∙ ap (λ (t : Transfer). acting (map size_of t.beats)) (sym e)
  transfer_touches levels t false written is e =
      ap (λ (t : Transfer). acting (if is_of_reads t.kind then touches_from target shape None 0 t.beats else map size_of t.beats)) e
      ∙ read_touches levels levels.count ∙ ap (λ (t : Transfer). acting (map size_of t.beats)) (sym e)

pub taken_touches : (target : Target) (port : Port) (s : ℕ) → 0 < port.shape.word_bytes → 0 < s → target.shape.word_bytes ≡ port.shape.word_bytes → target.span ≡ s * target.shape.word_bytes →
    (c : ℕ) → acting (flat_map (touches_of target port.shape) (taken_at port c)) ≡ acting (flat_map (beat_sizes target port.shape) (taken_at port c))
taken_touches target port s some spans word span zero = refl
taken_touches target port s some spans word span (suc c) =
    ap acting (flat_map-append (touches_of target port.shape) (taken_at port c) (only_if (takes port c) (marked_at port c)))
    ∙ filter-append (nat_lt 0) (flat_map (touches_of target port.shape) (taken_at port c)) (flat_map (touches_of target port.shape) (only_if (takes port c) (marked_at port c)))
    ∙ ap₂ (λ x y. x ++ y) (taken_touches target port s some spans word span c) (by_take (takes port c))
    ∙ sym (ap acting (flat_map-append (beat_sizes target port.shape) (taken_at port c) (only_if (takes port c) (marked_at port c)))
    ∙ filter-append (nat_lt 0) (flat_map (beat_sizes target port.shape) (taken_at port c)) (flat_map (beat_sizes target port.shape) (only_if (takes port c) (marked_at port c))))
  where
    levels : Levels
    levels = levels_at port.commands.signals c

    by_take : (t : Bool) → acting (flat_map (touches_of target port.shape) (only_if t (marked_at port c))) ≡ acting (flat_map (beat_sizes target port.shape) (only_if t (marked_at port c)))
    by_take false = refl
    by_take true =
        ap acting (append-nil (touches_of target port.shape (marked_at port c)))
        ∙ transfer_touches target port.shape s some (omega arith) spans (word ∙ sym (one-mul port.shape.word_bytes)) span (levels_at port.commands.signals c) (marked_at port c).transfer (is_raised (port.commands.write c))
        (write_transfer port.shape (levels_at port.commands.signals c) (burst_before port.shape port.commands.signals (takes port) c)) refl refl
        ∙ ap acting (sym (append-nil (beat_sizes target port.shape (marked_at port c))))

-- ---- a wire, and a cutter of whatever bursts

pub wire_packs : (target : Target) (port : Port) (s end : ℕ) → 0 < port.shape.word_bytes → 0 < s → target.shape.word_bytes ≡ port.shape.word_bytes → target.span ≡ s * target.shape.word_bytes → PacksReads target port port end
wire_packs target port s end some spans word span c h = subst (λ l. IsPrefix (acting (flat_map (beat_sizes target port.shape) (taken_at port c))) l) (sym (taken_touches target port s some spans word span c)) (prefix_refl _)

module _ (target : Target) (up down : Port) (end : ℕ) (cut : Cutting target up down end) where
  same_sizes : (ms : List Marked) → flat_map (beat_sizes target down.shape) ms ≡ flat_map (beat_sizes target up.shape) ms
  same_sizes ms = ap (λ n. flat_map (beat_sizes target (record up.shape { word_bytes = n })) ms) cut.same

  of_beats : (ms : List Marked) → flat_map (beat_sizes target up.shape) ms ≡ map (λ (b : Beat). length (beat_operations target up.shape b)) (beats_of ms)
  of_beats [] = refl
  of_beats (m ∷ ms) = ap (λ l. beat_sizes target up.shape m ++ l) (of_beats ms) ∙ sym (map-append (λ (b : Beat). length (beat_operations target up.shape b)) m.transfer.beats (beats_of ms))

  same_beats : (ss : List Step) → AllSent target up.shape ss → beats_of (parts_of ss) ≡ beats_of (map above_of ss)
  same_beats [] all = refl
  same_beats (x ∷ ss) all = flat_map-append (λ (m : Marked). m.transfer.beats) x.parts (parts_of ss) ∙ ap₂ (λ a b. a ++ b) all.0.beats (same_beats ss all.1)

  pub cutter_packs : (s : ℕ) → 0 < s → target.shape.word_bytes ≡ up.shape.word_bytes → target.span ≡ s * target.shape.word_bytes → PacksReads target up down end
  cutter_packs s spans word span c h =
      let front = prefix_filter (nat_lt 0) (prefix_flat_map (beat_sizes target down.shape) (taken_front target up down end cut c h)) in
      let all : flat_map (beat_sizes target down.shape) (parts_of (steps target up down end cut c)) ≡ flat_map (beat_sizes target up.shape) (taken_at up c) =
      same_sizes (parts_of (steps target up down end cut c)) ∙ of_beats (parts_of (steps target up down end cut c))
      ∙ ap (map (λ (b : Beat). length (beat_operations target up.shape b))) (same_beats (steps target up down end cut c) (all_sent target up down end cut c h) ∙ ap beats_of (sym (up_steps target up down end cut c))) ∙ sym (of_beats (taken_at up c)) in
      subst (IsPrefix (acting (flat_map (beat_sizes target down.shape) (taken_at down c)))) (ap acting all ∙ sym (taken_touches target up s cut.some spans word span c)) front
