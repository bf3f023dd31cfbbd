-- Laws of flows: they compose, and each part's line is one.
use Rattle.std.proofs.Common.{ℕ, ◌≤◌, ◌≡◌, ◌+◌, ◌-◌, ◌*◌, [], ◌∷◌, ◌++◌, List, Bool, true, false, not, ◌&&◌, ◌||◌, if◌then◌else◌, arith, refl, sym, ap, ap₂, ◌∙◌, subst, length, take, map, filter, flat_map, append-nil, mul-le-mul_left, mul_assoc, nat_eq, length-append}
use Rattle.std.proofs.lemmas.Grind.{flat_map-append}
use Rattle.std.proofs.Math.Seq.{take-append_seam}
use Rattle.histories.specs.Laws.{prefix_trans, prefix_map, prefix_flat_map}
use Rattle.memory_machines.proofs.Held.{unreached_through, front_within, within_trans}
use Rattle.histories.specs.History.{IsPrefix, unreached, total, AreWithin, only_if}
use Rattle.memory_runs.specs.Views.{Shape}
use Rattle.memory_runs.specs.Operations.{Operation, pieces}
use Rattle.memory_machines.specs.Link.{Target, Port, Marked, Item, items_from, items, closes, sizes, operations_in, operations_among, is_nonempty, beats_with, CarriesCommands, shown_at, taken_at}
use Rattle.memory_machines.specs.Link.Item.{Acts, Ends}
use Rattle.memory_machines.specs.Lines.{Flow, Carries, Group, items_among, sizes_of, operations_of_groups, beats_of, groups_of, port_flow}
use Rattle.memory_machines.specs.SideLaws.{total_of}

-- ---- two flows in a row

pub counted : (upper taken lower lower_taken : List ℕ) (first_hold second_hold n : ℕ) → IsPrefix taken upper → IsPrefix lower_taken lower → AreWithin lower upper →
    unreached taken (total lower_taken) ≤ first_hold → unreached lower_taken n ≤ second_hold → unreached taken n ≤ first_hold + second_hold
counted upper taken lower lower_taken first_hold second_hold n up_front low_front within one two =
    let part : AreWithin lower_taken upper = front_within lower_taken low_front.rest lower upper within low_front.joins in
    let through = unreached_through lower_taken upper n (length taken) part in
    let same : take (length taken) upper ≡ taken = ap (λ l. take (length taken) l) (sym up_front.joins) ∙ take-append_seam taken up_front.rest in
    let bound : unreached taken n ≤ unreached taken (total lower_taken) + unreached lower_taken n = subst (λ l. unreached l n ≤ unreached l (total lower_taken) + unreached lower_taken n) same through in
    omega (arith, bound, one, two)

both_beats : (a b c f g : ℕ) → a ≤ g * b → b ≤ f * c → a ≤ (g * f) * c
both_beats a b c f g first second =
    let wide : g * b ≤ g * (f * c) = mul-le-mul_left _ second in
    let same : (g * f) * c ≡ g * (f * c) = mul_assoc _ _ _ in
    omega (arith, first, wide, same)

-- what was accepted is the front of what was presented
abbrev pub AreFronts : Flow → ℕ → Type 0
AreFronts flow end = (c : ℕ) → c ≤ end → IsPrefix (flow.taken c) (flow.shown c)

pub carries_trans : (tag first_hold second_hold first_delay second_delay f g : ℕ) (up middle down : Flow) (end : ℕ) → AreFronts up end → AreFronts middle end →
    Carries tag first_hold first_delay f up middle end → Carries tag second_hold second_delay g middle down end →
    Carries tag (first_hold + second_hold) (first_delay + second_delay) (g * f) up down end
carries_trans tag first_hold second_hold first_delay second_delay f g up middle down end up_front middle_front first second = record {
  in_order = λ c low.
      let delays : (c - second_delay) - first_delay ≡ c - (first_delay + second_delay) = omega arith in
      subst (λ k. IsPrefix (items_among false (down.shown c)) (items_among false (up.shown k))) delays
      (prefix_trans (second.in_order c low) (first.in_order (c - second_delay) (omega arith)));
  beats = λ c low. both_beats _ _ _ f g (second.beats c low) (first.beats c low);
  held = λ c low.
      counted (sizes_of (up.shown c)) (sizes_of (up.taken c)) (sizes_of (middle.shown c)) (sizes_of (middle.taken c)) first_hold second_hold (total (sizes_of (down.taken c)))
      (prefix_map _ (up_front c low)) (prefix_map _ (middle_front c low)) (first.within c low) (first.held c low) (second.held c low);
  within = λ c low. within_trans _ _ _ (second.within c low) (first.within c low);
}

-- ---- items and operations

abbrev pub act_of : Item → List Operation
act_of (Acts tag operation) = operation ∷ []
act_of (Ends tag) = []

acts_of_map : (tag : ℕ) (operations : List Operation) → flat_map act_of (map (Acts tag) operations) ≡ operations
acts_of_map tag [] = refl
acts_of_map tag (o ∷ os) = ap (λ l. o ∷ l) (acts_of_map tag os)

no_acts : (b : Bool) (tag : ℕ) → flat_map act_of (only_if b (Ends tag)) ≡ []
no_acts true tag = refl
no_acts false tag = refl

acts_of_items : (acted : Bool) (groups : List Group) → flat_map act_of (items_among acted groups) ≡ operations_of_groups groups
acts_of_items acted [] = refl
acts_of_items acted (g ∷ later) =
    let ends = only_if (g.closes && (acted || is_nonempty g.operations)) (Ends g.tag) in
    flat_map-append act_of (map (Acts g.tag) g.operations ++ ends) _
    ∙ ap₂ (λ a b. a ++ b)
    (flat_map-append act_of (map (Acts g.tag) g.operations) ends ∙ ap₂ (λ a b. a ++ b) (acts_of_map g.tag g.operations) (no_acts (g.closes && (acted || is_nonempty g.operations)) g.tag) ∙ append-nil g.operations)
    (acts_of_items (not g.closes && (acted || is_nonempty g.operations)) later)

-- where items are a front, so are operations
pub operations_front : (xs ys : List Group) → IsPrefix (items_among false xs) (items_among false ys) → IsPrefix (operations_of_groups xs) (operations_of_groups ys)
operations_front xs ys p =
    subst (λ l. IsPrefix l (operations_of_groups ys)) (acts_of_items false xs)
    (subst (λ l. IsPrefix (flat_map act_of (items_among false xs)) l) (acts_of_items false ys) (prefix_flat_map act_of p))

-- ---- links

items_same : (target : Target) (shape : Shape) (acted : Bool) (ms : List Marked) → items_from target shape acted ms ≡ items_among acted (groups_of target shape ms)
items_same target shape acted [] = refl
items_same target shape acted (m ∷ ms) =
    ap (λ l. (map (Acts m.tag) (operations_in target shape m) ++ only_if (closes m && (acted || is_nonempty (operations_in target shape m))) (Ends m.tag)) ++ l)
    (items_same target shape (not (closes m) && (acted || is_nonempty (operations_in target shape m))) ms)

sizes_same : (target : Target) (shape : Shape) (ms : List Marked) → sizes_of (groups_of target shape ms) ≡ sizes target shape ms
sizes_same target shape [] = refl
sizes_same target shape (m ∷ ms) = ap (λ l. length (operations_in target shape m) ∷ l) (sizes_same target shape ms)

among_same : (target : Target) (shape : Shape) (ms : List Marked) → operations_of_groups (groups_of target shape ms) ≡ operations_among target shape ms
among_same target shape [] = refl
among_same target shape (m ∷ ms) = ap (λ l. operations_in target shape m ++ l) (among_same target shape ms)

beats_same : (target : Target) (shape : Shape) (tag : ℕ) (ms : List Marked) → beats_of tag (groups_of target shape ms) ≡ length (beats_with tag ms)
beats_same target shape tag [] = refl
beats_same target shape tag (m ∷ ms) = by_test (nat_eq m.tag tag) (beats_same target shape tag ms)
  where
    by_test : (b : Bool) → beats_of tag (groups_of target shape ms) ≡ length (beats_with tag ms) →
        total (map (λ (g : Group). g.beats) (if b then record { tag = m.tag; operations = operations_in target shape m; closes = closes m; beats = length m.transfer.beats } ∷ filter (λ (g : Group). nat_eq g.tag tag) (groups_of target shape ms) else filter (λ (g : Group). nat_eq g.tag tag) (groups_of target shape ms)))
        ≡ length (flat_map (λ (m : Marked). m.transfer.beats) (if b then m ∷ filter (λ (m : Marked). nat_eq m.tag tag) ms else filter (λ (m : Marked). nat_eq m.tag tag) ms))
    by_test true rest = ap (λ n. length m.transfer.beats + n) rest ∙ sym (length-append m.transfer.beats _)
    by_test false rest = rest

pub carries_of_links : (tag : ℕ) (target : Target) (hold : ℕ) (up down : Port) (end : ℕ) → CarriesCommands target hold up down end →
    Carries tag hold 0 (pieces up.shape down.shape) (port_flow target up) (port_flow target down) end
carries_of_links tag target hold up down end carries = record {
  in_order = λ c low.
      let now : c ≡ c - 0 = omega arith in
      subst (λ k. IsPrefix (items_among false (groups_of target down.shape (shown_at down c))) (items_among false (groups_of target up.shape (shown_at up k)))) now
      (subst (λ l. IsPrefix l (items_among false (groups_of target up.shape (shown_at up c)))) (items_same target down.shape false (shown_at down c))
      (subst (λ l. IsPrefix (items target down c) l) (items_same target up.shape false (shown_at up c)) (carries.in_order c low)));
  beats = λ c low. rw (beats_same target down.shape tag (shown_at down c), beats_same target up.shape tag (shown_at up c)) (carries.beats c tag low);
  held = λ c low.
      rw (total_of (groups_of target down.shape (taken_at down c)), among_same target down.shape (taken_at down c), sizes_same target up.shape (taken_at up c)) (carries.held c low);
  within = λ c low. rw (sizes_same target down.shape (shown_at down c), sizes_same target up.shape (shown_at up c)) (carries.whole c low);
}
