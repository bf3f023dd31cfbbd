-- A lane selector packs reads: its commands have one beat, and each is a touch.
use Rattle.std.proofs.Common.{ℕ, ◌<◌, ◌≡◌, ◌+◌, ◌*◌, Bool, true, false, not, List, [], ◌∷◌, ◌++◌, if◌then◌else◌, refl, sym, ap, ap₂, subst, ◌∙◌, length, map, flat_map, nat_eq, nat_lt, append-nil, None}
use Rattle.std.proofs.lemmas.Bool.{eqb-true}
use Rattle.std.proofs.lemmas.List.Elements.{filter-append}
use Rattle.histories.specs.History.{is_raised, IsPrefix}
use Rattle.histories.specs.Laws.{prefix_refl}
use Rattle.memory_runs.specs.Views.{Shape}
use Rattle.memory_runs.specs.Operations.{Beat}
use Rattle.memory_runs.specs.Views.Kind.{Reads, Writes}
use Rattle.memory_runs.specs.Commands.{is_of_reads, byte_address}
use Rattle.memory_machines.specs.Link.{Target, Port, AreLegalAt, taken_at, beat_operations, operations_in, sizes}
use Rattle.memory_machines.specs.Machines.{Raw, raws}
use Rattle.memory_links.specs.Selects.{RunsAsSelect, IsSelectPlan, EnablesFit, is_shut}
use Rattle.memory_links.proofs.Alike.{taken_alike, alike_sizes}
use Rattle.memory_links.proofs.Lanes.{SelectsBeats}
use Rattle.memory_links.proofs.OneBeat.{flat_mark, flat_taken, transfer_by, beat_by, count_is_one}
use Rattle.memory_links.proofs.Selecting.{select_gate, alike}
use Rattle.memory_links.proofs.Shutting.{shows_same, takes_same, legal_below}
use Rattle.memory_links.specs.Packs.{touches_from, touches_of, beat_sizes, acting, PacksReads}

-- a single beat is one touch
one_beat : (target : Target) (shape : Shape) (b : Beat) → acting (touches_from target shape None 0 (b ∷ [])) ≡ acting (length (beat_operations target shape b) ∷ [])
one_beat target shape b = by_own (nat_eq (length (beat_operations target shape b)) 0) refl
  where
    by_own : (x : Bool) → nat_eq (length (beat_operations target shape b)) 0 ≡ x → acting (touches_from target shape None 0 (b ∷ [])) ≡ acting (length (beat_operations target shape b) ∷ [])
    by_own true e =
        let none = eqb-true (length (beat_operations target shape b)) 0 e in
        ap (λ x. acting (if x then 0 ∷ 0 ∷ [] else 0 ∷ length (beat_operations target shape b) ∷ [])) e ∙ ap (λ n. acting (n ∷ [])) (sym none)
    by_own false e = ap (λ x. acting (if x then 0 ∷ 0 ∷ [] else 0 ∷ length (beat_operations target shape b) ∷ [])) e

abbrev beat_in : Shape → Raw → Bool → Beat
beat_in shape raw w = beat_by (if w then Writes else Reads) (byte_address shape raw.levels.address + 0 * shape.word_bytes) (if w then raw.levels.word else 0) raw.levels.enables

flat_touch : (target : Target) (shape : Shape) (raw : Raw) → acting (touches_of target shape (flat_mark shape raw)) ≡ acting (length (operations_in target shape (flat_mark shape raw)) ∷ [])
flat_touch target shape raw = by_write (is_raised raw.levels.write)
  where
    by_write : (w : Bool) → acting (if is_of_reads (transfer_by shape raw.levels w).kind then touches_from target shape None 0 (transfer_by shape raw.levels w).beats else map (λ (b : Beat). length (beat_operations target shape b)) (transfer_by shape raw.levels w).beats)
        ≡ acting (length (flat_map (beat_operations target shape) (transfer_by shape raw.levels w).beats) ∷ [])
    by_write true = ap (λ l. acting (length l ∷ [])) (sym (append-nil (beat_operations target shape (beat_in shape raw true))))
    by_write false = one_beat target shape (beat_in shape raw false) ∙ ap (λ l. acting (length l ∷ [])) (sym (append-nil (beat_operations target shape (beat_in shape raw false))))

flat_sizes : (target : Target) (shape : Shape) (rs : List Raw) → flat_map (beat_sizes target shape) (map (flat_mark shape) rs) ≡ sizes target shape (map (flat_mark shape) rs)
flat_sizes target shape [] = refl
flat_sizes target shape (r ∷ rs) = ap₂ (λ n l. n ∷ l) (ap length (sym (append-nil (beat_operations target shape (beat_in shape r (is_raised r.levels.write)))))) (flat_sizes target shape rs)

flat_touches : (target : Target) (shape : Shape) (rs : List Raw) → acting (flat_map (touches_of target shape) (map (flat_mark shape) rs)) ≡ acting (sizes target shape (map (flat_mark shape) rs))
flat_touches target shape [] = refl
flat_touches target shape (r ∷ rs) =
    filter-append (nat_lt 0) (touches_of target shape (flat_mark shape r)) (flat_map (touches_of target shape) (map (flat_mark shape) rs))
    ∙ ap₂ (λ x y. x ++ y) (flat_touch target shape r) (flat_touches target shape rs)
    ∙ sym (filter-append (nat_lt 0) (length (operations_in target shape (flat_mark shape r)) ∷ []) (sizes target shape (map (flat_mark shape) rs)))

pub select_packs : SelectsBeats → (target : Target) (up down : Port) (many room : ℕ) (offsets : ℕ → List ℕ) (end : ℕ) → IsSelectPlan target up.shape down.shape many → 1 < room → RunsAsSelect room up down offsets → EnablesFit up end → AreLegalAt up end →
    PacksReads target up down end
select_packs law target up down many room offsets end plan deep run fit legal c h =
    let low = legal_below (select_gate room up down offsets run) end legal in
    let high_list = flat_taken up end legal (count_is_one up end plan.one_beat legal) c h in
    let low_list = flat_taken down end low (count_is_one down end plan.one_beat_below low) c h in
    let same = alike_sizes target up.shape down.shape true (taken_at up c) (taken_at down c)
    (taken_alike target true up down (λ k. not (is_shut room up offsets k)) (shows_same (select_gate room up down offsets run)) (takes_same (select_gate room up down offsets run)) end (alike law target up down many room offsets plan deep run end fit legal) legal low c h) in
    let below : flat_map (beat_sizes target down.shape) (taken_at down c) ≡ sizes target down.shape (taken_at down c) = ap (flat_map (beat_sizes target down.shape)) low_list ∙ flat_sizes target down.shape (raws down c) ∙ ap (sizes target down.shape) (sym low_list) in
    let above : acting (flat_map (touches_of target up.shape) (taken_at up c)) ≡ acting (sizes target up.shape (taken_at up c)) =
    ap (λ l. acting (flat_map (touches_of target up.shape) l)) high_list ∙ flat_touches target up.shape (raws up c) ∙ ap (λ l. acting (sizes target up.shape l)) (sym high_list) in
    subst (IsPrefix (acting (flat_map (beat_sizes target down.shape) (taken_at down c)))) (ap acting (below ∙ same) ∙ sym above) (prefix_refl _)
