-- The law of a chain, from the laws of its parts.
use Rattle.std.proofs.Common.{◌≡◌, ◌⊎◌, ℕ, suc, ◌+◌, ◌-◌, ◌*◌, ◌≤◌, ◌<◌, Bool, true, false, cond, not, IsTrue, ◌||◌, ◌&&◌, List, [], ◌∷◌, ◌++◌, map, length, drop, refl, ap, sym, ◌∙◌, subst, inl, inr, arith, append_assoc, length-append, length-drop, nat_lt, nat_le}
use Rattle.std.proofs.Math.Nat.{mul-le-mul_left}
use Rattle.std.specs.List.{list_any}
use Rattle.std.proofs.lemmas.List.{map-append, length-map, drop_at, drop-map}
use Rattle.std.proofs.lemmas.List.FromFn.{length-map-range_with_len}
use Rattle.std.proofs.lemmas.List.Folds.{list_any-append}
use Rattle.std.proofs.lemmas.Bool.{cases_Bool, and_parts, and_from, and_left, and_right, or_left, leb-true, le-leb, not-true, not_from_false, ltb-false, both_ways, cond-true, cond-false}
use Rattle.stream_runs.specs.View.{Pace, is_high, is_transfer, is_stalled, is_ready_cycle}
use Rattle.histories.specs.History.{IsPrefix}
use Rattle.stream_runs.specs.Symbols.{transferred_symbols, symbols_in, kept_symbols, Symbol, without_error, shown_count}
use Rattle.stream_runs.specs.Delivery.{LagsWithin}
use Rattle.stream_machines.specs.Stage.{Shape, StageRun, inside, is_drained, is_at_rest, is_idle, is_delayed, gives, RankMoves, StageLaw, chain_shape, chain_rank, chain_run}
use Rattle.histories.specs.Laws.{prefix_trans, prefix_length}
use Rattle.stream_machines.proofs.Kept.{kept_in_middle, is_last, list_any-without_error}
use Rattle.stream_machines.proofs.Direct.{ready_at_once, drained_with, open_frees}

-- what is between the ends is what is in the second part, and then what is in the first
split_between : {A : Type 0} (xs ys zs : List A) → IsPrefix xs ys → IsPrefix ys zs → drop (length xs) zs ≡ drop (length xs) ys ++ drop (length ys) zs
split_between xs ys zs p q =
    let late : drop (length ys) zs ≡ q.rest = rw (sym q.joins) (drop_at ys q.rest (length ys) refl) in
    let early : drop (length xs) ys ≡ p.rest = rw (sym p.joins) (drop_at xs p.rest (length xs) refl) in
    let whole : zs ≡ xs ++ (p.rest ++ q.rest) = sym q.joins ∙ (ap (λ ws. ws ++ q.rest) (sym p.joins) ∙ append_assoc xs p.rest q.rest) in
    let both : drop (length xs) zs ≡ p.rest ++ q.rest = ap (drop (length xs)) whole ∙ drop_at xs (p.rest ++ q.rest) (length xs) refl in
    cc

between : (xs ys zs : List Symbol) → IsPrefix (map without_error xs) (map without_error ys) → IsPrefix (map without_error ys) (map without_error zs)
    → map without_error (drop (length xs) zs) ≡ map without_error (drop (length xs) ys ++ drop (length ys) zs)
between xs ys zs p q =
    let split = split_between (map without_error xs) (map without_error ys) (map without_error zs) p q in
    let split' : drop (length xs) (map without_error zs) ≡ drop (length xs) (map without_error ys) ++ drop (length ys) (map without_error zs) =
    subst (λ n. drop n (map without_error zs) ≡ drop n (map without_error ys) ++ drop (length ys) (map without_error zs)) (length-map xs without_error)
    (subst (λ n. drop (length (map without_error xs)) (map without_error zs) ≡ drop (length (map without_error xs)) (map without_error ys) ++ drop n (map without_error zs)) (length-map ys without_error) split) in
    sym (drop-map without_error (length xs) zs) ∙ (split' ∙ (simp (drop-map, map-append)))

between_length : (xs ys zs : List Symbol) → IsPrefix (map without_error xs) (map without_error ys) → IsPrefix (map without_error ys) (map without_error zs)
    → length (drop (length xs) zs) ≡ length (drop (length xs) ys) + length (drop (length ys) zs)
between_length xs ys zs p q =
    sym (length-map (drop (length xs) zs) without_error) ∙ (ap length (between xs ys zs p q) ∙ (length-map (drop (length xs) ys ++ drop (length ys) zs) without_error ∙ length-append (drop (length xs) ys) (drop (length ys) zs)))

between_last : (xs ys zs : List Symbol) → IsPrefix (map without_error xs) (map without_error ys) → IsPrefix (map without_error ys) (map without_error zs)
    → list_any is_last (drop (length xs) zs) ≡ (list_any is_last (drop (length xs) ys) || list_any is_last (drop (length ys) zs))
between_last xs ys zs p q =
    sym (list_any-without_error (drop (length xs) zs)) ∙ (ap (list_any is_last) (between xs ys zs p q) ∙ (list_any-without_error (drop (length xs) ys ++ drop (length ys) zs) ∙ list_any-append is_last (drop (length xs) ys) (drop (length ys) zs)))

-- the first part with the second's upstream side as its downstream side
abbrev pub first_of : Shape → Shape → Shape
first_of first second = record first { down = second.up }

abbrev pub one_of : StageRun → StageRun → StageRun
one_of one two = record one { down = two.up }

-- the rank of a chain whose middle has ready latency 0: a number that falls by what comes into the second part, and rises by what goes out of it
rank_total : (s t f f' i o a a' b b' : ℕ) → f' + i ≡ f + o → a' ≤ a + s * i → b' ≤ b + t * o → a' + b' + (s + 1) * f' + i ≤ a + b + (s + 1) * f + (s + t + 1) * o
rank_total s t f f' i o a a' b b' e p q = omega (arith, ap (λ x. (s + 1) * x) e)

rank_total_held_none : (s t i o a a' b b' : ℕ) → i ≡ o → a' ≤ a + s * i → b' ≤ b + t * o → a' + b' ≤ a + b + (s + t) * o
rank_total_held_none s t i o a a' b b' e p q = omega (arith, ap (λ x. s * x) e)

or_none : {a b : Bool} → a ≡ false → b ≡ false → (a || b) ≡ false
or_none {a} {b} p q = rw (p, q) refl

-- where no beat waits and none transfers, none is shown
none_shown : (v t : Bool) → t ≡ false → not (v && not t) ≡ true → v ≡ false
none_shown false t kept free = refl
none_shown true true kept free = absurd (cc)
none_shown true false kept free = absurd (cc)

-- a stage out of which no beat goes gives no symbol
gives_none : (shape : Shape) (run : StageRun) (c : ℕ) → gives shape run c ≡ false → length (symbols_in shape.down run.down c) ≡ 0
gives_none shape run c e = rw e refl

empty_list : {A : Type 0} (xs : List A) → length xs ≡ 0 → xs ≡ []
empty_list [] e = refl
empty_list (x ∷ xs) e = absurd (omega arith)

same_le : (x x' y y' : ℕ) → x' ≡ y' → x ≡ y → y' ≤ y → x' ≤ x
same_le x x' y y' p q h = omega arith

same_lt : (x x' y y' : ℕ) → x' ≡ y' → x ≡ y → y' < y → x' < x
same_lt x x' y y' p q h = omega arith

same_rise : (x x' y y' s t o : ℕ) → x' ≡ y' → x ≡ y → s ≡ t → y' ≤ y + t * o → x' ≤ x + s * o
same_rise x x' y y' s t o p q e h = omega (arith, ap (λ n. n * o) e)

-- a beat that goes out holds a symbol
gives_some : (shape : Shape) (run : StageRun) (c : ℕ) → gives shape run c ≡ true → 0 < shown_count shape.down run.down c → 0 < length (symbols_in shape.down run.down c)
gives_some shape run c e h = rw e (rw (length-map-range_with_len) h)

module _ (first second : Shape) (one two : StageRun) (passed : (channel : ℕ) → IsTrue (first.passes channel) → IsTrue (second.passes channel)) (count : ℕ)
    (law_one : StageLaw (first_of first second) (one_of one two) count) (law_two : StageLaw second two count) where
  middle_kept : (c : ℕ) → c ≤ count → kept_symbols second.passes second.up two.up c ≡ transferred_symbols second.up two.up c
  middle_kept c h = kept_in_middle first.passes second.passes (transferred_symbols first.up one.up c) (transferred_symbols second.up two.up c) passed (law_one.prefix.in_order c h)

  second_in_order : (c : ℕ) → c ≤ count → IsPrefix (map without_error (transferred_symbols second.down two.down c)) (map without_error (transferred_symbols second.up two.up c))
  second_in_order c h = subst (λ (xs : List Symbol). IsPrefix (map without_error (transferred_symbols second.down two.down c)) (map without_error xs)) (middle_kept c h) (law_two.prefix.in_order c h)

  pub chain-in_order : (c : ℕ) → c ≤ count → IsPrefix (map without_error (transferred_symbols second.down two.down c)) (map without_error (kept_symbols first.passes first.up one.up c))
  chain-in_order c h = prefix_trans (second_in_order c h) (law_one.prefix.in_order c h)

  pub chain-held : LagsWithin (first.hold + second.hold) first.passes first.up second.down one.up two.down count
  chain-held c h =
      let middle : length (kept_symbols second.passes second.up two.up c) ≡ length (transferred_symbols second.up two.up c) = ap length (middle_kept c h) in
      omega (arith, law_one.hold c h, law_two.hold c h)

  inside_second : (c : ℕ) → c ≤ count → inside second two c ≡ drop (length (transferred_symbols second.down two.down c)) (transferred_symbols second.up two.up c)
  inside_second c h = ap (drop (length (transferred_symbols second.down two.down c))) (middle_kept c h)

  inside_length : (c : ℕ) → c ≤ count → length (inside (chain_shape first second) (chain_run first second one two) c) ≡ length (inside second two c) + length (inside (first_of first second) (one_of one two) c)
  inside_length c h = between_length _ _ _ (second_in_order c h) (law_one.prefix.in_order c h) ∙ ap (λ (xs : List Symbol). length xs + length (inside (first_of first second) (one_of one two) c)) (sym (inside_second c h))

  inside_last : (c : ℕ) → c ≤ count → list_any is_last (inside (chain_shape first second) (chain_run first second one two) c) ≡ (list_any is_last (inside second two c) || list_any is_last (inside (first_of first second) (one_of one two) c))
  inside_last c h = between_last _ _ _ (second_in_order c h) (law_one.prefix.in_order c h) ∙ ap (λ (xs : List Symbol). list_any is_last xs || list_any is_last (inside (first_of first second) (one_of one two) c)) (sym (inside_second c h))

  -- what comes in and goes out of the second part in a cycle
  flow : (c : ℕ) → c < count → length (inside second two (suc c)) + length (symbols_in second.down two.down c) ≡ length (inside second two c) + length (symbols_in second.up two.up c)
  flow c h =
      let now : length (inside second two c) ≡ length (transferred_symbols second.up two.up c) - length (transferred_symbols second.down two.down c) = ap length (inside_second c (omega arith)) ∙ length-drop _ _ in
      let later : length (inside second two (suc c)) ≡ length (transferred_symbols second.up two.up (suc c)) - length (transferred_symbols second.down two.down (suc c)) = ap length (inside_second (suc c) (omega arith)) ∙ length-drop _ _ in
      let shorter : length (transferred_symbols second.down two.down c) ≤ length (transferred_symbols second.up two.up c) = chain_shorter c (omega arith) in
      let shorter' : length (transferred_symbols second.down two.down (suc c)) ≤ length (transferred_symbols second.up two.up (suc c)) = chain_shorter (suc c) (omega arith) in
      omega (arith, length-append (transferred_symbols second.up two.up c) (symbols_in second.up two.up c), length-append (transferred_symbols second.down two.down c) (symbols_in second.down two.down c))
    where
      chain_shorter : (b : ℕ) → b ≤ count → length (transferred_symbols second.down two.down b) ≤ length (transferred_symbols second.up two.up b)
      chain_shorter b k = omega (arith, prefix_length (second_in_order b k), length-map (transferred_symbols second.down two.down b) without_error, length-map (transferred_symbols second.up two.up b) without_error)

  -- the second part holds no more than it may
  within : (c : ℕ) → c ≤ count → length (inside second two c) ≤ second.hold
  within c h = omega (arith, length-drop (length (transferred_symbols second.down two.down c)) (kept_symbols second.passes second.up two.up c), law_two.hold c h)

  -- the number that a chain's rank is where its middle has ready latency 0
  abbrev sum_of : ℕ → ℕ
  sum_of c = one.rank c + two.rank c + (first.step + 1) * (second.hold - length (inside second two c))

  moves_one : nat_lt 0 second.up.pace.latency ≡ false → (c : ℕ) → c < count → one.rank (suc c) ≤ one.rank c + first.step * length (symbols_in second.up two.up c)
  moves_one direct c h = by_cases (cases_Bool (gives (first_of first second) (one_of one two) c))
    where
      by_cases : (gives (first_of first second) (one_of one two) c ≡ true) ⊎ (gives (first_of first second) (one_of one two) c ≡ false) → one.rank (suc c) ≤ one.rank c + first.step * length (symbols_in second.up two.up c)
      by_cases (inl given) = (law_one.rank c h).rises given (and_right _ _ (and_right _ _ direct))
      by_cases (inr kept) = omega (arith, (law_one.rank c h).stays kept (and_right _ _ (and_right _ _ direct)))

  moves_two : nat_lt 0 second.up.pace.latency ≡ false → (c : ℕ) → c < count → two.rank (suc c) ≤ two.rank c + second.step * length (symbols_in second.down two.down c)
  moves_two direct c h = by_cases (cases_Bool (gives second two c))
    where
      by_cases : (gives second two c ≡ true) ⊎ (gives second two c ≡ false) → two.rank (suc c) ≤ two.rank c + second.step * length (symbols_in second.down two.down c)
      by_cases (inl given) = (law_two.rank c h).rises given (and_right _ _ (and_left _ _ direct))
      by_cases (inr kept) = omega (arith, (law_two.rank c h).stays kept (and_right _ _ (and_left _ _ direct)))

  room_flow : (c : ℕ) → c < count → (second.hold - length (inside second two (suc c))) + length (symbols_in second.up two.up c) ≡ (second.hold - length (inside second two c)) + length (symbols_in second.down two.down c)
  room_flow c h = omega (arith, flow c h, within c (omega arith), within (suc c) (omega arith))

  total : nat_lt 0 second.up.pace.latency ≡ false → (c : ℕ) → c < count
      → sum_of (suc c) + length (symbols_in second.up two.up c) ≤ sum_of c + (first.step + second.step + 1) * length (symbols_in second.down two.down c)
  total direct c h = rank_total first.step second.step _ _ (length (symbols_in second.up two.up c)) (length (symbols_in second.down two.down c)) (one.rank c) _ (two.rank c) _ (room_flow c h) (moves_one direct c h) (moves_two direct c h)

  -- a chain of two drained parts is drained
  both_drained : (c : ℕ) → c ≤ count → is_drained second two c ≡ true → is_drained (first_of first second) (one_of one two) c ≡ true → is_drained (chain_shape first second) (chain_run first second one two) c ≡ true
  both_drained c h late early =
      let late_parts = and_parts (nat_le (length (inside second two c)) second.rest) _ late in
      let early_parts = and_parts (nat_le (length (inside (first_of first second) (one_of one two) c)) first.rest) _ early in
      let few_two : length (inside second two c) ≤ second.rest = leb-true _ _ late_parts.0 in
      let few_one : length (inside (first_of first second) (one_of one two) c) ≤ first.rest = leb-true _ _ early_parts.0 in
      let few_both : length (inside (chain_shape first second) (chain_run first second one two) c) ≤ first.rest + second.rest = omega (arith, inside_length c h) in
      let unmarked_both : list_any is_last (inside (chain_shape first second) (chain_run first second one two) c) ≡ false = inside_last c h ∙ or_none (not-true _ late_parts.1) (not-true _ early_parts.1) in
      and_from _ _ (le-leb _ _ few_both) (not_from_false _ unmarked_both)

  -- the second part is at rest and so is the first, as far as its symbols go: then the chain is
  both_rest : (c : ℕ) → c ≤ count → is_at_rest second two c ≡ true → is_high one.up.ready c ≡ true → is_drained (first_of first second) (one_of one two) c ≡ true → is_at_rest (chain_shape first second) (chain_run first second one two) c ≡ true
  both_rest c h rest ready early = and_from _ _ ready (both_drained c h (and_parts (is_high two.up.ready c) _ rest).1 early)

  -- while nothing goes out, the sum falls where a beat goes from the first part to the second or the rank of one of them falls
  sum_falls : nat_lt 0 second.up.pace.latency ≡ false → (c : ℕ) → c < count → gives second two c ≡ false
      → (gives (first_of first second) (one_of one two) c ≡ false → (one.rank (suc c) < one.rank c) ⊎ (two.rank (suc c) < two.rank c)) → sum_of (suc c) < sum_of c
  sum_falls direct c h quiet one_falls = by_first (cases_Bool (gives (first_of first second) (one_of one two) c))
    where
      none_out : length (symbols_in second.down two.down c) ≡ 0
      none_out = gives_none second two c quiet

      less_by_moved : sum_of (suc c) + length (symbols_in second.up two.up c) ≤ sum_of c
      less_by_moved = let t = total direct c h in let e = subst (λ n. sum_of (suc c) + length (symbols_in second.up two.up c) ≤ sum_of c + (first.step + second.step + 1) * n) none_out t in omega (arith, e)

      same_room : gives (first_of first second) (one_of one two) c ≡ false → (second.hold - length (inside second two (suc c))) ≡ (second.hold - length (inside second two c))
      same_room kept = omega (arith, room_flow c h, none_out, gives_none (first_of first second) (one_of one two) c kept)

      one_stays : gives (first_of first second) (one_of one two) c ≡ false → one.rank (suc c) ≤ one.rank c
      one_stays kept = (law_one.rank c h).stays kept (and_right _ _ (and_right _ _ direct))

      two_stays : two.rank (suc c) ≤ two.rank c
      two_stays = (law_two.rank c h).stays quiet (and_right _ _ (and_left _ _ direct))

      by_rank : gives (first_of first second) (one_of one two) c ≡ false → (one.rank (suc c) < one.rank c) ⊎ (two.rank (suc c) < two.rank c) → sum_of (suc c) < sum_of c
      by_rank kept (inl fallen) = omega (arith, fallen, two_stays, ap (λ n. (first.step + 1) * n) (same_room kept))
      by_rank kept (inr fallen) = omega (arith, fallen, one_stays kept, ap (λ n. (first.step + 1) * n) (same_room kept))

      by_first : (gives (first_of first second) (one_of one two) c ≡ true) ⊎ (gives (first_of first second) (one_of one two) c ≡ false) → sum_of (suc c) < sum_of c
      by_first (inl given) =
          let some = gives_some (first_of first second) (one_of one two) c given (law_one.prefix.holds_data c h given) in
          omega (arith, less_by_moved, some)
      by_first (inr kept) = by_rank kept (one_falls kept)

  middle_direct : nat_lt 0 second.up.pace.latency ≡ false → second.up.pace.latency ≡ 0
  middle_direct direct = omega (arith, ltb-false 0 second.up.pace.latency direct)

  falls_direct : nat_lt 0 second.up.pace.latency ≡ false → (c : ℕ) → c < count → gives second two c ≡ false → is_ready_cycle second.down.pace two.down c ≡ true
      → is_at_rest (chain_shape first second) (chain_run first second one two) c ≡ false → sum_of (suc c) < sum_of c
  falls_direct direct c h quiet ready restless = sum_falls direct c h quiet (λ kept. by_rest kept (cases_Bool (is_at_rest second two c)) (cases_Bool (is_at_rest (first_of first second) (one_of one two) c)))
    where
      by_rest : gives (first_of first second) (one_of one two) c ≡ false → (is_at_rest second two c ≡ true) ⊎ (is_at_rest second two c ≡ false)
          → (is_at_rest (first_of first second) (one_of one two) c ≡ true) ⊎ (is_at_rest (first_of first second) (one_of one two) c ≡ false) → (one.rank (suc c) < one.rank c) ⊎ (two.rank (suc c) < two.rank c)
      by_rest kept (inr restless_two) one_rests = inr ((law_two.rank c h).falls quiet ready restless_two)
      by_rest kept (inl rest_two) (inr restless_one) =
          inl ((law_one.rank c h).falls kept (ready_at_once second.up.pace two.up c (middle_direct direct) (and_parts (is_high two.up.ready c) _ rest_two).0) restless_one)
      by_rest kept (inl rest_two) (inl rest_one) =
          let parts = and_parts (is_high one.up.ready c) _ rest_one in
          absurd (both_ways _ restless (both_rest c (omega arith) rest_two parts.0 parts.1))

  -- while no beat is shown, the middle shows one, or else what is to give or waits is before it
  advances_direct : nat_lt 0 second.up.pace.latency ≡ false → (c : ℕ) → c < count → second.down.pace.latency ≡ 0 → is_high two.down.valid c ≡ false
      → is_idle (chain_shape first second) (chain_run first second one two) c ≡ false → sum_of (suc c) < sum_of c
  advances_direct direct c h down_direct low busy = sum_falls direct c h (and_left _ _ low) (λ kept. by_idle kept (cases_Bool (is_idle second two c)) (cases_Bool (is_idle (first_of first second) (one_of one two) c)))
    where
      by_idle : gives (first_of first second) (one_of one two) c ≡ false → (is_idle second two c ≡ true) ⊎ (is_idle second two c ≡ false)
          → (is_idle (first_of first second) (one_of one two) c ≡ true) ⊎ (is_idle (first_of first second) (one_of one two) c ≡ false) → (one.rank (suc c) < one.rank c) ⊎ (two.rank (suc c) < two.rank c)
      by_idle kept (inr busy_two) one_idles = inr ((law_two.rank c h).advances down_direct low busy_two)
      by_idle kept (inl idle_two) (inr busy_one) =
          let free = (and_parts (not (is_stalled second.up.pace two.up c)) _ idle_two).0 in
          inl ((law_one.rank c h).advances (middle_direct direct) (none_shown (is_high two.up.valid c) (is_transfer second.up.pace two.up c) kept free) busy_one)
      by_idle kept (inl idle_two) (inl idle_one) =
          let late = and_parts (not (is_stalled second.up.pace two.up c)) _ idle_two in
          let early = and_parts (not (is_stalled first.up.pace one.up c)) _ idle_one in
          absurd (both_ways _ busy (and_from _ _ early.0 (both_drained c (omega arith) late.1 early.1)))

  ranked_direct : nat_lt 0 second.up.pace.latency ≡ false → (c : ℕ) → c < count → RankMoves (chain_shape first second) (chain_run first second one two) c
  ranked_direct direct c h =
      record {
        bounded = same_le _ _ _ _ (rank_is c) (cond-false _ _ _ direct) (omega (arith, (law_one.rank c h).bounded, (law_two.rank c h).bounded, mul-le-mul_left (first.step + 1) room));
        stays = λ quiet _. same_le _ _ _ _ (rank_is (suc c)) (rank_is c) (stays quiet);
        falls = λ quiet ready restless. same_lt _ _ _ _ (rank_is (suc c)) (rank_is c) (falls_direct direct c h quiet ready restless);
        rises = λ given _. same_rise _ _ _ _ _ _ _ (rank_is (suc c)) (rank_is c) (cond-false _ _ _ direct) (rises (cases_Bool (nat_le second.hold 0)));
        advances = λ down_direct low busy. same_lt _ _ _ _ (rank_is (suc c)) (rank_is c) (advances_direct direct c h down_direct low busy);
      }
    where
      rank_is : (b : ℕ) → chain_rank first second one two b ≡ sum_of b
      rank_is b = cond-false _ _ _ direct

      room : (second.hold - length (inside second two c)) ≤ second.hold
      room = omega arith

      stays : gives second two c ≡ false → sum_of (suc c) ≤ sum_of c
      stays quiet = let t = total direct c h in let e = subst (λ n. sum_of (suc c) + length (symbols_in second.up two.up c) ≤ sum_of c + (first.step + second.step + 1) * n) (gives_none second two c quiet) t in omega (arith, e)

      rises : (nat_le second.hold 0 ≡ true) ⊎ (nat_le second.hold 0 ≡ false)
          → sum_of (suc c) ≤ sum_of c + (cond (nat_le second.hold 0) (first.step + second.step) (first.step + second.step + 1)) * length (symbols_in second.down two.down c)
      rises (inl held_none) =
          let none = leb-true second.hold 0 held_none in
          let now : second.hold - length (inside second two c) ≡ 0 = omega arith in
          let later : second.hold - length (inside second two (suc c)) ≡ 0 = omega arith in
          let through : length (symbols_in second.up two.up c) ≡ length (symbols_in second.down two.down c) = omega (arith, room_flow c h) in
          rw (held_none, now, later) (omega (arith, rank_total_held_none first.step second.step (length (symbols_in second.up two.up c)) (length (symbols_in second.down two.down c)) (one.rank c) _ (two.rank c) _ through (moves_one direct c h) (moves_two direct c h)))
      rises (inr held_some) = rw held_some (omega (arith, total direct c h))

  ranked_delayed : nat_lt 0 second.up.pace.latency ≡ true → first.hold ≡ 0 → first.up.pace ≡ second.up.pace → ((c : ℕ) → is_high one.up.ready c ≡ is_high two.up.ready c)
      → (c : ℕ) → c < count → RankMoves (chain_shape first second) (chain_run first second one two) c
  ranked_delayed delayed holds_none same_pace same_ready c h =
      record {
        bounded = same_le _ _ _ _ (rank_is c) (cond-true _ _ _ delayed) (law_two.rank c h).bounded;
        stays = λ quiet moving. same_le _ _ _ _ (rank_is (suc c)) (rank_is c) ((law_two.rank c h).stays quiet (not_both moving (cases_Bool (is_at_rest second two c))));
        falls = λ quiet ready restless. same_lt _ _ _ _ (rank_is (suc c)) (rank_is c) ((law_two.rank c h).falls quiet ready (second_restless restless (cases_Bool (is_at_rest second two c))));
        rises = λ given moving. same_rise _ _ _ _ _ _ _ (rank_is (suc c)) (rank_is c) (cond-true _ _ _ delayed) ((law_two.rank c h).rises given (not_both moving (cases_Bool (is_at_rest second two c))));
        advances = λ down_direct low busy. same_lt _ _ _ _ (rank_is (suc c)) (rank_is c) ((law_two.rank c h).advances down_direct low (second_busy busy (cases_Bool (is_idle second two c))));
      }
    where
      rank_is : (b : ℕ) → chain_rank first second one two b ≡ two.rank b
      rank_is b = cond-true _ _ _ delayed

      empty_one : length (inside (first_of first second) (one_of one two) c) ≡ 0
      empty_one = omega (arith, length-drop (length (transferred_symbols second.up two.up c)) (kept_symbols first.passes first.up one.up c), law_one.hold c (omega arith))

      drained_one : is_drained (first_of first second) (one_of one two) c ≡ true
      drained_one = drained_with (first_of first second) (one_of one two) c [] (empty_list (inside (first_of first second) (one_of one two) c) empty_one) (omega arith) refl

      chain_rest : is_at_rest second two c ≡ true → is_at_rest (chain_shape first second) (chain_run first second one two) c ≡ true
      chain_rest rest =
          let parts = and_parts (is_high two.up.ready c) _ rest in
          let ready : is_high one.up.ready c ≡ true = same_ready c ∙ parts.0 in
          both_rest c (omega arith) rest ready drained_one

      second_restless : is_at_rest (chain_shape first second) (chain_run first second one two) c ≡ false → (is_at_rest second two c ≡ true) ⊎ (is_at_rest second two c ≡ false) → is_at_rest second two c ≡ false
      second_restless restless (inl rest) = absurd (both_ways _ restless (chain_rest rest))
      second_restless restless (inr kept) = kept

      -- behind a delayed side no beat waits
      free : is_stalled first.up.pace one.up c ≡ false
      free = open_frees first.up.pace one.up c (or_left _ _ (subst (λ (pace : Pace). nat_lt 0 pace.latency ≡ true) (sym same_pace) delayed))

      second_busy : is_idle (chain_shape first second) (chain_run first second one two) c ≡ false → (is_idle second two c ≡ true) ⊎ (is_idle second two c ≡ false) → is_idle second two c ≡ false
      second_busy busy (inr other) = other
      second_busy busy (inl idle) =
          let late = and_parts (not (is_stalled second.up.pace two.up c)) _ idle in
          absurd (both_ways _ busy (and_from _ _ (ap not free) (both_drained c (omega arith) late.1 drained_one)))

      not_both : (is_at_rest (chain_shape first second) (chain_run first second one two) c && is_delayed (chain_shape first second)) ≡ false
          → (is_at_rest second two c ≡ true) ⊎ (is_at_rest second two c ≡ false) → (is_at_rest second two c && is_delayed second) ≡ false
      not_both moving (inl rest) =
          let direct : is_delayed (chain_shape first second) ≡ false = subst (λ b. (b && is_delayed (chain_shape first second)) ≡ false) (chain_rest rest) moving in
          and_right _ _ (subst (λ (pace : Pace). (nat_lt 0 pace.latency && nat_lt 0 second.down.pace.latency) ≡ false) same_pace direct)
      not_both moving (inr kept) = and_left _ _ kept

  pub chain-ranked : (IsTrue (nat_lt 0 second.up.pace.latency) → (first.hold ≡ 0) × (first.up.pace ≡ second.up.pace) × ((c : ℕ) → is_high one.up.ready c ≡ is_high two.up.ready c))
      → (c : ℕ) → c < count → RankMoves (chain_shape first second) (chain_run first second one two) c
  chain-ranked joined c h = by_delay (cases_Bool (nat_lt 0 second.up.pace.latency))
    where
      by_delay : (nat_lt 0 second.up.pace.latency ≡ true) ⊎ (nat_lt 0 second.up.pace.latency ≡ false) → RankMoves (chain_shape first second) (chain_run first second one two) c
      by_delay (inl delayed) = let j = joined delayed in ranked_delayed delayed j.0 j.1 j.2 c h
      by_delay (inr direct) = ranked_direct direct c h
