-- Two sides whose transfers do the same, those below in no more beats: each is handed on in its cycle, or held back before
-- anything of it is shown below.
use Rattle.std.proofs.Common.{ℕ, zero, suc, ◌<◌, ◌≤◌, ◌≡◌, ◌+◌, Bool, true, false, not, ◌&&◌, ◌||◌, IsTrue, List, [], ◌∷◌, ◌++◌, if◌then◌else◌, arith, refl, sym, ap, ap₂, subst, ◌∙◌, length, map, filter, flat_map, nat_eq, append-nil, length-append}
use Rattle.std.specs.List.{list_all}
use Rattle.std.proofs.lemmas.Bool.{and_parts, not-true}
use Rattle.histories.specs.History.{only_if, is_raised, standing, IsPrefix}
use Rattle.histories.specs.Laws.{shown_is_accepted_and_standing, prefix_refl}
use Rattle.memory_runs.specs.Views.{Shape}
use Rattle.memory_runs.specs.Operations.{Beat}
use Rattle.memory_runs.specs.Commands.{shows, is_held, is_of_reads}
use Rattle.memory_machines.specs.Link.{Target, Port, Marked, AreLegalAt, takes, marked_at, taken_at, shown_at, operations_in, operations_among, items_from, items_of, acted_after, closes, is_nonempty, beats_with, sizes, read_beats, is_last_joined, beat_operations}
use Rattle.memory_machines.specs.Link.Item.{Acts, Ends}
use Rattle.memory_machines.specs.PartRanks.{are_joined_alike, goes_on_alike, is_same}
use Rattle.memory_machines.specs.Rank.{is_last_write}
use Rattle.memory_machines.specs.SideLaws.{marked_keeps}

-- each beat of a transfer has an operation
abbrev pub have_operations : Target → Shape → Marked → Bool
have_operations target shape m = list_all (λ (b : Beat). is_nonempty (beat_operations target shape b)) m.transfer.beats

-- two transfers do the same: where `each`, beat by beat, and else the one below in no more beats
pub record IsAlike (target : Target) (upper lower : Shape) (each : Bool) (m n : Marked) : Type 0 where
  pub tag : n.tag ≡ m.tag
  pub more : n.more ≡ m.more
  pub ends : n.transfer.ends ≡ m.transfer.ends
  pub kind : n.transfer.kind ≡ m.transfer.kind
  pub operations : operations_in target lower n ≡ operations_in target upper m
  pub beats : length n.transfer.beats ≤ length m.transfer.beats
  pub same : IsTrue each → length n.transfer.beats ≡ length m.transfer.beats
  pub lanes : IsTrue each → have_operations target lower n ≡ have_operations target upper m

abbrev pub AllAlike : Target → Shape → Shape → Bool → List Marked → List Marked → Type 0
AllAlike target upper lower each [] [] = Unit {0}
AllAlike target upper lower each [] (n ∷ ns) = ⊥
AllAlike target upper lower each (m ∷ ms) [] = ⊥
AllAlike target upper lower each (m ∷ ms) (n ∷ ns) = IsAlike target upper lower each m n × AllAlike target upper lower each ms ns

module _ (target : Target) (upper lower : Shape) (each : Bool) where
  abbrev Alike : List Marked → List Marked → Type 0
  Alike ms ns = AllAlike target upper lower each ms ns

  closes_same : (m n : Marked) → IsAlike target upper lower each m n → closes n ≡ closes m
  closes_same m n a = ap₂ (λ e k. e && not k) a.ends a.more

  pub alike_append : (ms ns others rest : List Marked) → Alike ms ns → Alike others rest → Alike (ms ++ others) (ns ++ rest)
  alike_append [] [] others rest a b = b
  alike_append [] (n ∷ ns) others rest a b = absurd a
  alike_append (m ∷ ms) [] others rest a b = absurd a
  alike_append (m ∷ ms) (n ∷ ns) others rest a b = (a.0, alike_append ms ns others rest a.1 b)

  pub alike_operations : (ms ns : List Marked) → Alike ms ns → operations_among target lower ns ≡ operations_among target upper ms
  alike_operations [] [] a = refl
  alike_operations [] (n ∷ ns) a = absurd a
  alike_operations (m ∷ ms) [] a = absurd a
  alike_operations (m ∷ ms) (n ∷ ns) a = ap₂ (λ x y. x ++ y) a.0.operations (alike_operations ms ns a.1)

  one_items : (acted : Bool) (m n : Marked) → IsAlike target upper lower each m n → items_of target lower acted n ≡ items_of target upper acted m
  one_items acted m n a =
      ap₂ (λ t o. map (Acts t) o ++ only_if (closes n && (acted || is_nonempty o)) (Ends t)) a.tag a.operations
      ∙ ap (λ c. map (Acts m.tag) (operations_in target upper m) ++ only_if (c && (acted || is_nonempty (operations_in target upper m))) (Ends m.tag)) (closes_same m n a)

  one_acted : (acted : Bool) (m n : Marked) → IsAlike target upper lower each m n → acted_after target lower acted n ≡ acted_after target upper acted m
  one_acted acted m n a = ap₂ (λ c o. not c && (acted || is_nonempty o)) (closes_same m n a) a.operations

  pub alike_items : (acted : Bool) (ms ns : List Marked) → Alike ms ns → items_from target lower acted ns ≡ items_from target upper acted ms
  alike_items acted [] [] a = refl
  alike_items acted [] (n ∷ ns) a = absurd a
  alike_items acted (m ∷ ms) [] a = absurd a
  alike_items acted (m ∷ ms) (n ∷ ns) a =
      ap₂ (λ x y. x ++ y) (one_items acted m n a.0)
      (ap (λ b. items_from target lower b ns) (one_acted acted m n a.0) ∙ alike_items (acted_after target upper acted m) ms ns a.1)

  pub alike_sizes : (ms ns : List Marked) → Alike ms ns → sizes target lower ns ≡ sizes target upper ms
  alike_sizes [] [] a = refl
  alike_sizes [] (n ∷ ns) a = absurd a
  alike_sizes (m ∷ ms) [] a = absurd a
  alike_sizes (m ∷ ms) (n ∷ ns) a = ap₂ (λ x y. length x ∷ y) a.0.operations (alike_sizes ms ns a.1)

  pub alike_lanes : IsTrue each → (ms ns : List Marked) → Alike ms ns → list_all (have_operations target lower) ns ≡ list_all (have_operations target upper) ms
  alike_lanes is [] [] a = refl
  alike_lanes is [] (n ∷ ns) a = absurd a
  alike_lanes is (m ∷ ms) [] a = absurd a
  alike_lanes is (m ∷ ms) (n ∷ ns) a = ap₂ (λ x y. x && y) (a.0.lanes is) (alike_lanes is ms ns a.1)

  few_beats : (x y : Bool) (m n : Marked) (xs ys : List Beat) → y ≡ x → length n.transfer.beats ≤ length m.transfer.beats → length ys ≤ length xs →
      length ((if y then n.transfer.beats else []) ++ ys) ≤ length ((if x then m.transfer.beats else []) ++ xs)
  few_beats x true m n xs ys e one rest = subst (λ b. length (n.transfer.beats ++ ys) ≤ length ((if b then m.transfer.beats else []) ++ xs)) e
      (let low = length-append n.transfer.beats ys in let high = length-append m.transfer.beats xs in omega (arith, low, high, one, rest))
  few_beats x false m n xs ys e one rest = subst (λ b. length ys ≤ length ((if b then m.transfer.beats else []) ++ xs)) e rest

  some_beats : (x y : Bool) (m n : Marked) (xs ys : List Beat) → y ≡ x → length n.transfer.beats ≡ length m.transfer.beats → length ys ≡ length xs →
      length ((if y then n.transfer.beats else []) ++ ys) ≡ length ((if x then m.transfer.beats else []) ++ xs)
  some_beats x true m n xs ys e one rest = subst (λ b. length (n.transfer.beats ++ ys) ≡ length ((if b then m.transfer.beats else []) ++ xs)) e (length-append n.transfer.beats ys ∙ ap₂ (λ a b. a + b) one rest ∙ sym (length-append m.transfer.beats xs))
  some_beats x false m n xs ys e one rest = subst (λ b. length ys ≡ length ((if b then m.transfer.beats else []) ++ xs)) e rest

  where_kept : (b : Bool) (m : Marked) (ms : List Marked) → flat_map (λ (m : Marked). m.transfer.beats) (if b then m ∷ ms else ms) ≡ (if b then m.transfer.beats else []) ++ flat_map (λ (m : Marked). m.transfer.beats) ms
  where_kept true m ms = refl
  where_kept false m ms = refl

  pub alike_tagged : (tag : ℕ) (ms ns : List Marked) → Alike ms ns → length (beats_with tag ns) ≤ length (beats_with tag ms)
  alike_tagged tag [] [] a = omega arith
  alike_tagged tag [] (n ∷ ns) a = absurd a
  alike_tagged tag (m ∷ ms) [] a = absurd a
  alike_tagged tag (m ∷ ms) (n ∷ ns) a =
      let low = ap length (where_kept (nat_eq n.tag tag) n (filter (λ (m : Marked). nat_eq m.tag tag) ns)) in
      let high = ap length (where_kept (nat_eq m.tag tag) m (filter (λ (m : Marked). nat_eq m.tag tag) ms)) in
      let some = few_beats (nat_eq m.tag tag) (nat_eq n.tag tag) m n (beats_with tag ms) (beats_with tag ns) (ap (λ t. nat_eq t tag) a.0.tag) a.0.beats (alike_tagged tag ms ns a.1) in
      omega (arith, low, high, some)

  pub alike_reads : IsTrue each → (ms ns : List Marked) → Alike ms ns → length (read_beats ns) ≡ length (read_beats ms)
  alike_reads is [] [] a = refl
  alike_reads is [] (n ∷ ns) a = absurd a
  alike_reads is (m ∷ ms) [] a = absurd a
  alike_reads is (m ∷ ms) (n ∷ ns) a =
      ap length (where_kept (is_of_reads n.transfer.kind) n (filter (λ (m : Marked). is_of_reads m.transfer.kind) ns))
      ∙ some_beats (is_of_reads m.transfer.kind) (is_of_reads n.transfer.kind) m n (read_beats ms) (read_beats ns) (ap is_of_reads a.0.kind) (a.0.same is) (alike_reads is ms ns a.1)
      ∙ ap length (sym (where_kept (is_of_reads m.transfer.kind) m (filter (λ (m : Marked). is_of_reads m.transfer.kind) ms)))

  pub alike_last_joined : (ms ns : List Marked) → Alike ms ns → is_last_joined ns ≡ is_last_joined ms
  alike_last_joined [] [] a = refl
  alike_last_joined [] (n ∷ ns) a = absurd a
  alike_last_joined (m ∷ ms) [] a = absurd a
  alike_last_joined (m ∷ []) (n ∷ []) a = a.0.more
  alike_last_joined (m ∷ []) (n ∷ k ∷ ns) a = absurd a.1
  alike_last_joined (m ∷ k ∷ ms) (n ∷ []) a = absurd a.1
  alike_last_joined (m ∷ k ∷ ms) (n ∷ l ∷ ns) a = alike_last_joined (k ∷ ms) (l ∷ ns) a.1

  pub alike_last_write : (ms ns : List Marked) → Alike ms ns → is_last_write ns ≡ is_last_write ms
  alike_last_write [] [] a = refl
  alike_last_write [] (n ∷ ns) a = absurd a
  alike_last_write (m ∷ ms) [] a = absurd a
  alike_last_write (m ∷ []) (n ∷ []) a = ap (λ k. not (is_of_reads k)) a.0.kind
  alike_last_write (m ∷ []) (n ∷ k ∷ ns) a = absurd a.1
  alike_last_write (m ∷ k ∷ ms) (n ∷ []) a = absurd a.1
  alike_last_write (m ∷ k ∷ ms) (n ∷ l ∷ ns) a = alike_last_write (k ∷ ms) (l ∷ ns) a.1

  pub alike_joins : (up down : Port) → up.shape ≡ upper → down.shape ≡ lower → (ms ns : List Marked) → Alike ms ns → are_joined_alike target down ns ≡ are_joined_alike target up ms
  alike_joins up down is_up is_down [] [] a = refl
  alike_joins up down is_up is_down [] (n ∷ ns) a = absurd a
  alike_joins up down is_up is_down (m ∷ ms) [] a = absurd a
  alike_joins up down is_up is_down (m ∷ []) (n ∷ []) a = refl
  alike_joins up down is_up is_down (m ∷ []) (n ∷ k ∷ ns) a = absurd a.1
  alike_joins up down is_up is_down (m ∷ k ∷ ms) (n ∷ []) a = absurd a.1
  alike_joins up down is_up is_down (m ∷ k ∷ ms) (n ∷ l ∷ ns) a = ap₂ (λ x y. x && y) (ap₂ (λ c g. c || g) (closes_same m n a.0) on) (alike_joins up down is_up is_down (k ∷ ms) (l ∷ ns) a.1)
    where
      ops_of : (p q : Marked) → IsAlike target upper lower each p q → operations_in target down.shape q ≡ operations_in target up.shape p
      ops_of p q b = ap (λ s. operations_in target s q) is_down ∙ b.operations ∙ ap (λ s. operations_in target s p) (sym is_up)

      on : goes_on_alike target down n l ≡ goes_on_alike target up m k
      on =
          ap₂ (λ x y. x && y)
          (ap₂ (λ x y. x && y) (ap₂ nat_eq a.0.tag a.1.0.tag) (ap₂ (λ x y. is_same (is_of_reads x) (is_of_reads y)) a.0.kind a.1.0.kind))
          (ap₂ (λ x y. not x || y) (ap is_of_reads a.0.kind) (ap₂ (λ x y. is_same (is_nonempty x) (is_nonempty y)) (ops_of m n a.0) (ops_of k l a.1.0)))

-- ---- two sides, of which the lower one hands on what the upper one shows, where it lets it through

module _ (target : Target) (each : Bool) (up down : Port) (lets : ℕ → Bool) (shows_same : (c : ℕ) → shows down.commands.signals c ≡ shows up.commands.signals c && lets c)
    (takes_same : (c : ℕ) → takes down c ≡ takes up c) (end : ℕ) (alike : (c : ℕ) → c < end → shows up.commands.signals c ≡ true → IsAlike target up.shape down.shape each (marked_at up c) (marked_at down c))
    (legal_up : AreLegalAt up end) (legal_down : AreLegalAt down end) where
  shows_taken : (c : ℕ) → takes up c ≡ true → shows up.commands.signals c ≡ true
  shows_taken c t = (and_parts (shows up.commands.signals c) (not (is_raised (up.commands.waitrequest c))) t).0

  only_alike : (c : ℕ) (b d : Bool) → b ≡ d → (d ≡ true → IsAlike target up.shape down.shape each (marked_at up c) (marked_at down c)) → AllAlike target up.shape down.shape each (only_if d (marked_at up c)) (only_if b (marked_at down c))
  only_alike c true true e a = (a refl, tt)
  only_alike c false false e a = tt
  only_alike c true false e a = cc
  only_alike c false true e a = cc

  pub taken_alike : (k : ℕ) → k ≤ end → AllAlike target up.shape down.shape each (taken_at up k) (taken_at down k)
  taken_alike zero h = tt
  taken_alike (suc c) h =
      alike_append target up.shape down.shape each (taken_at up c) (taken_at down c) (only_if (takes up c) (marked_at up c)) (only_if (takes down c) (marked_at down c)) (taken_alike c (omega arith))
      (only_alike c (takes down c) (takes up c) (takes_same c) (λ t. alike c (omega arith) (shows_taken c t)))

  pub shown_up : (k : ℕ) → k ≤ end → shown_at up k ≡ taken_at up k ++ standing (shows up.commands.signals) (takes up) (marked_at up) k
  shown_up k h = shown_is_accepted_and_standing (shows up.commands.signals) (takes up) (marked_at up) end k (marked_keeps up end legal_up) h

  pub shown_down : (k : ℕ) → k ≤ end → shown_at down k ≡ taken_at down k ++ standing (shows down.commands.signals) (takes down) (marked_at down) k
  shown_down k h = shown_is_accepted_and_standing (shows down.commands.signals) (takes down) (marked_at down) end k (marked_keeps down end legal_down) h

  -- what is shown below is alike to a front of what is shown above
  pub record Fronts (k : ℕ) : Type 0 where
    pub front : List Marked
    pub is_front : IsPrefix front (shown_at up k)
    pub same : AllAlike target up.shape down.shape each front (shown_at down k)

  pub shown_fronts : (k : ℕ) → k ≤ end → Fronts k
  shown_fronts zero h = record { front = []; is_front = prefix_refl []; same = tt }
  shown_fronts (suc c) h = by_let (is_held down.commands.signals (takes down) c) refl
    where
      up_side : shown_at up (suc c) ≡ taken_at up (suc c) ++ only_if (is_held up.commands.signals (takes up) c) (marked_at up c)
      up_side = shown_up (suc c) h

      down_side : shown_at down (suc c) ≡ taken_at down (suc c) ++ only_if (is_held down.commands.signals (takes down) c) (marked_at down c)
      down_side = shown_down (suc c) h

      by_let : (b : Bool) → is_held down.commands.signals (takes down) c ≡ b → Fronts (suc c)
      by_let false e = record {
        front = taken_at up (suc c);
        is_front = record { rest = only_if (is_held up.commands.signals (takes up) c) (marked_at up c); joins = sym up_side };
        same = subst (AllAlike target up.shape down.shape each (taken_at up (suc c))) (sym (down_side ∙ ap (λ b. taken_at down (suc c) ++ only_if b (marked_at down c)) e ∙ append-nil (taken_at down (suc c)))) (taken_alike (suc c) h);
      }
      by_let true e =
          let parts = and_parts (shows down.commands.signals c) (not (takes down c)) e in
          let shown = (and_parts (shows up.commands.signals c) (lets c) (sym (shows_same c) ∙ parts.0)).0 in
          let held : is_held up.commands.signals (takes up) c ≡ true = ap₂ (λ s t. s && not t) shown (sym (takes_same c) ∙ not-true (takes down c) parts.1) in
          record {
            front = shown_at up (suc c);
            is_front = prefix_refl (shown_at up (suc c));
            same = subst (λ l. AllAlike target up.shape down.shape each l (shown_at down (suc c))) (sym (up_side ∙ ap (λ b. taken_at up (suc c) ++ only_if b (marked_at up c)) held))
                (subst (AllAlike target up.shape down.shape each (taken_at up (suc c) ++ marked_at up c ∷ [])) (sym (down_side ∙ ap (λ b. taken_at down (suc c) ++ only_if b (marked_at down c)) e))
                (alike_append target up.shape down.shape each (taken_at up (suc c)) (taken_at down (suc c)) (marked_at up c ∷ []) (marked_at down c ∷ []) (taken_alike (suc c) h) (alike c (omega arith) shown, tt)));
          }
