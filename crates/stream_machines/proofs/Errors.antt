-- The errors of a chain's beats.
use Rattle.std.proofs.Common.{◌≡◌, ◌⊎◌, ◌≢◌, ℕ, zero, suc, ◌+◌, ◌-◌, ◌*◌, ◌≤◌, ◌<◌, Bool, true, false, cond, IsTrue, ◌&&◌, List, [], ◌∷◌, ◌++◌, map, length, take, drop, replicate, refl, ap, sym, ◌∙◌, subst, inl, inr, arith, length-append, length-drop}
use Rattle.std.specs.List.{range_with_len, fold}
use Rattle.std.specs.Int.Bits.{bit_or, or_self, or_zero_l, or_zero_r}
use Rattle.std.proofs.lemmas.Nat.Bits.{bit_at_or, same_from_bits}
use Rattle.std.proofs.lemmas.List.{append-nil, map-append, length-map, drop_at, take_at, drop-map, take-map, take-append-le, drop-append-le, drop_all, drop-drop, drop-take, take-take, length-replicate}
use Rattle.std.proofs.lemmas.List.FromFn.{length-range_with_len, take-map-range_with_len}
use Rattle.std.proofs.Math.Seq.{take-append-add, take-add}
use Rattle.std.proofs.lemmas.Bool.{cases_lt, cond-true, cond-false}
use Rattle.stream_runs.specs.View.{EndView, Side, is_transfer}
use Rattle.histories.specs.History.{IsPrefix}
use Rattle.stream_runs.specs.Symbols.{transferred_symbols, symbols_in, shown_symbols, shown_symbol, kept_symbols, Symbol, without_error, shown_count, joined_error}
use Rattle.histories.specs.Laws.{prefix_length}
use Rattle.stream_runs.specs.Laws.{symbols_grow, kept_grow, kept_more, length_in, length_in_order}
use Rattle.stream_machines.proofs.Fills.{fill, fill-append, fill-without_error, fill-at_divisor, fill_within, fill_before, fill_kept, HoldsData}

-- what the sink is given, with the errors of its beats, whatever their width
pub record GivesErrors (passes : ℕ → Bool) (source sink : Side) (from to : EndView) (count : ℕ) : Type 0 where
  pub in_order : (c : ℕ) → c ≤ count → IsPrefix (map without_error (transferred_symbols sink to c)) (map without_error (kept_symbols passes source from c))
  pub holds_data : (c : ℕ) → c < count → IsTrue (is_transfer sink.pace to c) → 0 < shown_count sink to c
  pub errors : (c : ℕ) → c < count → IsTrue (is_transfer sink.pace to c)
      → to.error c ≡ joined_error (take (shown_count sink to c) (drop (length (transferred_symbols sink to c)) (kept_symbols passes source from (suc c))))

or_assoc : (a b c : ℕ) → bit_or (bit_or a b) c ≡ bit_or a (bit_or b c)
or_assoc a b c = same_from_bits _ _ (λ i. rw (bit_at_or (bit_or a b) c i, bit_at_or a b i, bit_at_or a (bit_or b c) i, bit_at_or b c i) (omega arith))

-- the errors of symbols
abbrev pub errors_of : List Symbol → List ℕ
errors_of symbols = map (λ (symbol : Symbol). symbol.error) symbols

abbrev pub join : List ℕ → ℕ
join errors = fold bit_or 0 errors

joined_from : (a : ℕ) (xs : List Symbol) → fold (λ error (symbol : Symbol). bit_or error symbol.error) a xs ≡ fold bit_or a (errors_of xs)
joined_from a [] = refl
joined_from a (x ∷ xs) = joined_from (bit_or a x.error) xs

pub joined_is : (xs : List Symbol) → joined_error xs ≡ join (errors_of xs)
joined_is xs = joined_from 0 xs

join_from : (a : ℕ) (xs : List ℕ) → fold bit_or a xs ≡ bit_or a (join xs)
join_from a [] = sym (or_zero_r a)
join_from a (x ∷ xs) = join_from (bit_or a x) xs ∙ (or_assoc a x (join xs) ∙ ap (bit_or a) (ap (λ y. bit_or y (join xs)) (sym (or_zero_l x)) ∙ sym (join_from (bit_or 0 x) xs)))

pub join-append : (xs ys : List ℕ) → join (xs ++ ys) ≡ bit_or (join xs) (join ys)
join-append [] ys = sym (or_zero_l (join ys))
join-append (x ∷ xs) ys =
    join_from (bit_or 0 x) (xs ++ ys) ∙ (ap (bit_or (bit_or 0 x)) (join-append xs ys) ∙ (sym (or_assoc (bit_or 0 x) (join xs) (join ys)) ∙ ap (λ n. bit_or n (join ys)) (sym (join_from (bit_or 0 x) xs))))

join-replicate : (n e : ℕ) → join (replicate (suc n) e) ≡ e
join-replicate zero e = or_zero_l e
join-replicate (suc n) e = join_from (bit_or 0 e) (replicate (suc n) e) ∙ (ap (bit_or (bit_or 0 e)) (join-replicate n e) ∙ (ap (λ m. bit_or m e) (or_zero_l e) ∙ or_self e))

pub join_same : (n e : ℕ) → 0 < n → join (replicate n e) ≡ e
join_same zero e h = absurd (omega arith)
join_same (suc n) e h = join-replicate n e

errors_made : (side : Side) (view : EndView) (c : ℕ) (js : List ℕ) → errors_of (map (shown_symbol side view c) js) ≡ replicate (length js) (view.error c)
errors_made side view c [] = refl
errors_made side view c (j ∷ js) = ap (λ ns. view.error c ∷ ns) (errors_made side view c js)

pub errors_of_beat : (side : Side) (view : EndView) (c : ℕ) → errors_of (shown_symbols side view c) ≡ replicate (shown_count side view c) (view.error c)
errors_of_beat side view c = errors_made side view c (range_with_len 0 (shown_count side view c)) ∙ ap (λ n. replicate n (view.error c)) (length-range_with_len 0 (shown_count side view c))

errors_of_part : (xs : List Symbol) (p h : ℕ) → errors_of (take h (drop p xs)) ≡ take h (drop p (errors_of xs))
errors_of_part xs p h = sym (take-map (λ (symbol : Symbol). symbol.error) h (drop p xs)) ∙ ap (take h) (sym (drop-map (λ (symbol : Symbol). symbol.error) p xs))

-- a part of a list in which all is the same
part-replicate : (m e p h : ℕ) → p + h ≤ m → take h (drop p (replicate m e)) ≡ replicate h e
part-replicate m e zero zero l = refl
part-replicate zero e zero (suc h) l = absurd (omega arith)
part-replicate (suc m) e zero (suc h) l = ap (λ ns. e ∷ ns) (part-replicate m e zero h (omega arith))
part-replicate zero e (suc p) h l = absurd (omega arith)
part-replicate (suc m) e (suc p) h l = part-replicate m e p h (omega arith)

-- a part that lies in the beginning
part_in_front : {A : Type 0} (xs ys : List A) (p h : ℕ) → p + h ≤ length xs → take h (drop p (xs ++ ys)) ≡ take h (drop p xs)
part_in_front xs ys p h l =
    let fits : h ≤ length (drop p xs) = omega (arith, length-drop p xs) in
    ap (take h) (drop-append-le p xs ys (omega arith)) ∙ take-append-le h (drop p xs) ys fits

pub part_of_prefix : {A : Type 0} (xs ys : List A) (p h : ℕ) → IsPrefix xs ys → p + h ≤ length xs → take h (drop p ys) ≡ take h (drop p xs)
part_of_prefix xs ys p h q l = ap (λ zs. take h (drop p zs)) (sym q.joins) ∙ part_in_front xs q.rest p h l

-- the begun beat depends on the marks alone
pub fill_front : (size : ℕ) (xs ys : List Symbol) (n : ℕ) → IsPrefix (map without_error xs) (map without_error ys) → n ≤ length xs → fill size 0 (take n ys) ≡ fill size 0 (take n xs)
fill_front size xs ys n p l =
    let shorter : n ≤ length (map without_error xs) = omega (arith, length-map xs without_error) in
    let same : take n (map without_error ys) ≡ take n (map without_error xs) = ap (take n) (sym p.joins) ∙ take-append-le n (map without_error xs) p.rest shorter in
    sym (fill-without_error size 0 (take n ys)) ∙ (ap (fill size 0) (sym (take-map without_error n ys) ∙ (same ∙ take-map without_error n xs)) ∙ fill-without_error size 0 (take n xs))

-- ---- the middle divides the upstream beat: a middle beat lies in one upstream beat

-- the step of the next lemma: symbols of one error come behind whole small beats
one_error_more : (small p h m e : ℕ) (old new : List Symbol) → errors_of new ≡ replicate m e → fill small 0 old ≡ 0 → p + h ≤ length (old ++ new)
    → ((j : ℕ) → 0 < j → j < h → fill small 0 (take (p + j) (old ++ new)) ≢ 0)
    → (p + h ≤ length old → ((j : ℕ) → 0 < j → j < h → fill small 0 (take (p + j) old) ≢ 0) → (e : ℕ) × errors_of (take h (drop p old)) ≡ replicate h e)
    → (e : ℕ) × errors_of (take h (drop p (old ++ new))) ≡ replicate h e
one_error_more small p h m e old new same whole l inner earlier = by_place (cases_lt (length old) (p + h)) (cases_lt p (length old))
  where
    size : length new ≡ m
    size = sym (length-map new (λ (symbol : Symbol). symbol.error)) ∙ (ap length same ∙ length-replicate m e)

    by_place : (length old < p + h) ⊎ (p + h ≤ length old) → (p < length old) ⊎ (length old ≤ p) → (e : ℕ) × errors_of (take h (drop p (old ++ new))) ≡ replicate h e
    by_place (inr inside) start =
        let found = earlier inside (λ j some less z. inner j some less (ap (fill small 0) (take-append-le (p + j) old new (omega arith)) ∙ z)) in
        (found.0, ap errors_of (part_in_front old new p h inside) ∙ found.1)
    by_place (inl beyond) (inl before) =
        let at : p + (length old - p) ≡ length old = omega arith in
        let front : take (p + (length old - p)) (old ++ new) ≡ old = ap (λ n. take n (old ++ new)) at ∙ take_at old new (length old) refl in
        absurd (inner (length old - p) (omega arith) (omega arith) (ap (fill small 0) front ∙ whole))
    by_place (inl beyond) (inr after) =
        let at : p ≡ length old + (p - length old) = omega arith in
        let behind : drop p (old ++ new) ≡ drop (p - length old) new = ap (λ n. drop n (old ++ new)) at ∙ (sym (drop-drop (p - length old) (length old) (old ++ new)) ∙ ap (drop (p - length old)) (drop_at old new (length old) refl)) in
        let room : (p - length old) + h ≤ m = omega (arith, length-append old new, size) in
        (e, ap (λ xs. errors_of (take h xs)) behind ∙ (errors_of_part new (p - length old) h ∙ (ap (λ ns. take h (drop (p - length old) ns)) same ∙ part-replicate m e (p - length old) h room)))

-- symbols among which no beat of the small size begins have one error
pub one_error : (passes : ℕ → Bool) (side : Side) (view : EndView) (count small parts : ℕ) → HoldsData side view count → side.symbols ≡ small * parts → 0 < side.symbols
    → (b : ℕ) → b ≤ count → (p h : ℕ) → p + h ≤ length (kept_symbols passes side view b)
    → ((j : ℕ) → 0 < j → j < h → fill small 0 (take (p + j) (kept_symbols passes side view b)) ≢ 0)
    → (e : ℕ) × errors_of (take h (drop p (kept_symbols passes side view b))) ≡ replicate h e
one_error passes side view count small parts some e positive zero k p h l inner = (0, let none : h ≡ 0 = omega arith in rw none refl)
one_error passes side view count small parts some e positive (suc b) k p h l inner =
    let Goal : List Symbol → Type 0 = λ whole. p + h ≤ length whole → ((j : ℕ) → 0 < j → j < h → fill small 0 (take (p + j) whole) ≢ 0) → (e : ℕ) × errors_of (take h (drop p whole)) ≡ replicate h e in
    let new = errors_new (is_transfer side.pace view b && passes (view.channel b)) in
    let whole : fill small 0 (kept_symbols passes side view b) ≡ 0 = fill-at_divisor small parts side.symbols positive e (kept_symbols passes side view b) (fill_kept passes side view count some b (omega arith)) in
    subst Goal (sym (kept_more passes side view b))
    (λ room apart. one_error_more small p h new.0 (view.error b) (kept_symbols passes side view b) _ new.1 whole room apart (one_error passes side view count small parts some e positive b (omega arith) p h))
    l inner
  where
    errors_new : (t : Bool) → (m : ℕ) × errors_of (cond t (shown_symbols side view b) []) ≡ replicate m (view.error b)
    errors_new true = (shown_count side view b, errors_of_beat side view b)
    errors_new false = (0, refl)

-- in the midst of a beat, so many symbols of it have come
fill_inside : (side : Side) (view : EndView) (count : ℕ) → HoldsData side view count → (c j : ℕ) → c < count → IsTrue (is_transfer side.pace view c) → j < shown_count side view c
    → fill side.symbols 0 (take (length (transferred_symbols side view c) + j) (transferred_symbols side view (suc c))) ≡ j
fill_inside side view count some c j h moves part =
    let shown : symbols_in side view c ≡ shown_symbols side view c = cond-true _ _ _ moves in
    let front : take (length (transferred_symbols side view c) + j) (transferred_symbols side view (suc c)) ≡ transferred_symbols side view c ++ take j (shown_symbols side view c) =
    take-append-add (transferred_symbols side view c) (symbols_in side view c) j ∙ ap (λ (xs : List Symbol). transferred_symbols side view c ++ take j xs) shown in
    let begun : fill side.symbols 0 (take j (shown_symbols side view c)) ≡ j =
    ap (fill side.symbols 0) (take-map-range_with_len (shown_symbol side view c) 0 (shown_count side view c) j (omega arith)) ∙ fill_within side view c j part in
    ap (fill side.symbols 0) front ∙ (fill-append side.symbols 0 (transferred_symbols side view c) (take j (shown_symbols side view c)) ∙ (ap (λ n. fill side.symbols n (take j (shown_symbols side view c))) (fill_before side view count some c (omega arith)) ∙ begun))

-- one more beat of one error
follow_more : (old beat kept more : List Symbol) (h e : ℕ) → errors_of old ≡ take (length old) (errors_of kept) → IsPrefix kept more → length old ≤ length kept
    → errors_of beat ≡ replicate h e → errors_of (take h (drop (length old) more)) ≡ replicate h e → errors_of (old ++ beat) ≡ take (length (old ++ beat)) (errors_of more)
follow_more old beat kept more h e same grows room made matched =
    let size : length beat ≡ h = sym (length-map beat (λ (symbol : Symbol). symbol.error)) ∙ (ap length made ∙ length-replicate h e) in
    let longer : length (old ++ beat) ≡ length old + h = length-append old beat ∙ ap (λ n. length old + n) size in
    let front : take (length old) (errors_of more) ≡ take (length old) (errors_of kept) =
    ap (λ (xs : List Symbol). take (length old) (errors_of xs)) (sym grows.joins) ∙ (ap (take (length old)) (map-append (λ (symbol : Symbol). symbol.error) kept grows.rest) ∙ take-append-le (length old) (errors_of kept) (errors_of grows.rest) (omega (arith, length-map kept (λ (symbol : Symbol). symbol.error)))) in
    let behind : take h (drop (length old) (errors_of more)) ≡ replicate h e = sym (errors_of_part more (length old) h) ∙ matched in
    map-append (λ (symbol : Symbol). symbol.error) old beat ∙ (ap (λ ns. ns ++ errors_of beat) (same ∙ sym front) ∙ (ap (λ ns. take (length old) (errors_of more) ++ ns) (made ∙ sym behind) ∙ (sym (take-add (length old) h (errors_of more)) ∙ ap (λ n. take n (errors_of more)) (sym longer))))

-- where the sink's beats divide the source's, each delivered symbol has the error of its source beat
pub errors_follow : (passes : ℕ → Bool) (source sink : Side) (from to : EndView) (count parts : ℕ) → GivesErrors passes source sink from to count → HoldsData source from count
    → source.symbols ≡ sink.symbols * parts → 0 < source.symbols
    → (c : ℕ) → c ≤ count → errors_of (transferred_symbols sink to c) ≡ take (length (transferred_symbols sink to c)) (errors_of (kept_symbols passes source from c))
errors_follow passes source sink from to count parts streamed some e positive zero h = refl
errors_follow passes source sink from to count parts streamed some e positive (suc c) h =
    let beat = beat_error (is_transfer sink.pace to c) refl in
    follow_more (transferred_symbols sink to c) (symbols_in sink to c) (kept_symbols passes source from c) (kept_symbols passes source from (suc c)) beat.0 (to.error c)
    (errors_follow passes source sink from to count parts streamed some e positive c (omega arith)) (kept_grow passes source from c (suc c) (omega arith)) (length_in_order _ _ (streamed.in_order c (omega arith))) beat.1 beat.2
  where
    beat_error : (b : Bool) → is_transfer sink.pace to c ≡ b
        → (n : ℕ) × (errors_of (symbols_in sink to c) ≡ replicate n (to.error c)) × (errors_of (take n (drop (length (transferred_symbols sink to c)) (kept_symbols passes source from (suc c)))) ≡ replicate n (to.error c))
    beat_error false stays = (0, ap errors_of (cond-false (is_transfer sink.pace to c) (shown_symbols sink to c) [] stays), refl)
    beat_error true moves = (shown_count sink to c, ap errors_of (cond-true (is_transfer sink.pace to c) (shown_symbols sink to c) [] moves) ∙ errors_of_beat sink to c, matched)
      where
        whole : length (transferred_symbols sink to (suc c)) ≡ length (transferred_symbols sink to c) + shown_count sink to c
        whole = length-append (transferred_symbols sink to c) (symbols_in sink to c) ∙ ap (λ n. length (transferred_symbols sink to c) + n) (length_in sink to c moves)

        found : (x : ℕ) × errors_of (take (shown_count sink to c) (drop (length (transferred_symbols sink to c)) (kept_symbols passes source from (suc c)))) ≡ replicate (shown_count sink to c) x
        found = one_error passes source from count sink.symbols parts some e positive (suc c) h (length (transferred_symbols sink to c)) (shown_count sink to c)
            (omega (arith, whole, length_in_order _ _ (streamed.in_order (suc c) h)))
            (λ j some_in less z. let inside = sym (fill_front sink.symbols (transferred_symbols sink to (suc c)) (kept_symbols passes source from (suc c)) (length (transferred_symbols sink to c) + j) (streamed.in_order (suc c) h) (omega (arith, whole))) ∙ z in
            omega (arith, sym inside ∙ fill_inside sink to count streamed.holds_data c j h moves less))

        is_it : found.0 ≡ to.error c
        is_it = sym (streamed.errors c h moves ∙ (joined_is (take (shown_count sink to c) (drop (length (transferred_symbols sink to c)) (kept_symbols passes source from (suc c)))) ∙ (ap join found.1 ∙ join_same (shown_count sink to c) found.0 (streamed.holds_data c h moves))))

        matched : errors_of (take (shown_count sink to c) (drop (length (transferred_symbols sink to c)) (kept_symbols passes source from (suc c)))) ≡ replicate (shown_count sink to c) (to.error c)
        matched = found.1 ∙ ap (replicate (shown_count sink to c)) is_it

-- a sink that takes these symbols sees the same joined errors
pub joined_where_they_follow : (symbols kept : List Symbol) (p h : ℕ) → errors_of symbols ≡ take (length symbols) (errors_of kept) → p + h ≤ length symbols
    → joined_error (take h (drop p symbols)) ≡ joined_error (take h (drop p kept))
joined_where_they_follow symbols kept p h same l =
    let cut : take h (drop p (take (p + (length symbols - p)) (errors_of kept))) ≡ take h (drop p (errors_of kept)) =
    ap (take h) (drop-take p (length symbols - p) (errors_of kept)) ∙ take-take h (length symbols - p) (drop p (errors_of kept)) (omega arith) in
    let whole : p + (length symbols - p) ≡ length symbols = omega arith in
    joined_is (take h (drop p symbols)) ∙ (ap join (errors_of_part symbols p h ∙ (ap (λ ns. take h (drop p ns)) (same ∙ ap (λ n. take n (errors_of kept)) (sym whole)) ∙ (cut ∙ sym (errors_of_part kept p h)))) ∙ sym (joined_is (take h (drop p kept))))

-- ---- the middle divides the downstream beat: a downstream beat holds whole middle beats

-- the step of the next lemma: one more beat, with the error of what it holds
joined_more : (beat old kept : List Symbol) (from h e : ℕ) → from ≤ length old → length beat ≡ h → join (errors_of beat) ≡ e → e ≡ join (errors_of (take h (drop (length old) kept)))
    → join (errors_of (drop from old)) ≡ join (errors_of (take (length old - from) (drop from kept)))
    → join (errors_of (drop from (old ++ beat))) ≡ join (errors_of (take (length (old ++ beat) - from) (drop from kept)))
joined_more beat old kept from h e l size made held earlier =
    let error_at : Symbol → ℕ = λ symbol. symbol.error in
    let left : errors_of (drop from (old ++ beat)) ≡ errors_of (drop from old) ++ errors_of beat = ap errors_of (drop-append-le from old beat l) ∙ map-append error_at (drop from old) beat in
    let longer : length (old ++ beat) - from ≡ (length old - from) + h = omega (arith, length-append old beat) in
    let at : from + (length old - from) ≡ length old = omega arith in
    let later : drop (length old - from) (drop from kept) ≡ drop (length old) kept = drop-drop (length old - from) from kept ∙ ap (λ n. drop n kept) at in
    let right : errors_of (take (length (old ++ beat) - from) (drop from kept)) ≡ errors_of (take (length old - from) (drop from kept)) ++ errors_of (take h (drop (length old) kept)) =
    ap (λ n. errors_of (take n (drop from kept))) longer ∙ (ap errors_of (take-add (length old - from) h (drop from kept)) ∙ (map-append error_at (take (length old - from) (drop from kept)) (take h (drop (length old - from) (drop from kept))) ∙ ap (λ (xs : List Symbol). errors_of (take (length old - from) (drop from kept)) ++ errors_of (take h xs)) later)) in
    ap join left ∙ (join-append (errors_of (drop from old)) (errors_of beat) ∙ (ap (λ n. bit_or n (join (errors_of beat))) earlier ∙ (ap (bit_or (join (errors_of (take (length old - from) (drop from kept))))) (made ∙ held) ∙ (sym (join-append (errors_of (take (length old - from) (drop from kept))) (errors_of (take h (drop (length old) kept)))) ∙ ap join (sym right)))))

-- over whole beats the joined errors of what was delivered are those of what was kept
pub joined_over_beats : (passes : ℕ → Bool) (source sink : Side) (from to : EndView) (count : ℕ) → GivesErrors passes source sink from to count
    → (a b : ℕ) → a ≤ b → b ≤ count
    → join (errors_of (drop (length (transferred_symbols sink to a)) (transferred_symbols sink to b)))
    ≡ join (errors_of (take (length (transferred_symbols sink to b) - length (transferred_symbols sink to a)) (drop (length (transferred_symbols sink to a)) (kept_symbols passes source from count))))
joined_over_beats passes source sink from to count streamed a zero h l = let none : a ≡ 0 = omega arith in rw none refl
joined_over_beats passes source sink from to count streamed a (suc b) h l = by_place (cases_lt b a) (joined_over_beats passes source sink from to count streamed a b)
  where
    place : ℕ
    place = length (transferred_symbols sink to a)

    by_transfer : a ≤ b → (t : Bool) → is_transfer sink.pace to b ≡ t
        → join (errors_of (drop (length (transferred_symbols sink to a)) (transferred_symbols sink to b))) ≡ join (errors_of (take (length (transferred_symbols sink to b) - length (transferred_symbols sink to a)) (drop (length (transferred_symbols sink to a)) (kept_symbols passes source from count))))
        → join (errors_of (drop (length (transferred_symbols sink to a)) (transferred_symbols sink to (suc b)))) ≡ join (errors_of (take (length (transferred_symbols sink to (suc b)) - length (transferred_symbols sink to a)) (drop (length (transferred_symbols sink to a)) (kept_symbols passes source from count))))
    by_transfer k false stays earlier =
        let none : symbols_in sink to b ≡ [] = cond-false (is_transfer sink.pace to b) (shown_symbols sink to b) [] stays in
        let same : transferred_symbols sink to b ≡ transferred_symbols sink to (suc b) = sym (append-nil (transferred_symbols sink to b)) ∙ ap (λ (xs : List Symbol). transferred_symbols sink to b ++ xs) (sym none) in
        subst (λ (xs : List Symbol). join (errors_of (drop (length (transferred_symbols sink to a)) xs)) ≡ join (errors_of (take (length xs - length (transferred_symbols sink to a)) (drop (length (transferred_symbols sink to a)) (kept_symbols passes source from count))))) same earlier
    by_transfer k true moves earlier =
        joined_more (symbols_in sink to b) (transferred_symbols sink to b) (kept_symbols passes source from count) (length (transferred_symbols sink to a)) (shown_count sink to b) (to.error b)
        (prefix_length (symbols_grow sink to a b k)) (length_in sink to b moves) made matched earlier
      where
        made : join (errors_of (symbols_in sink to b)) ≡ to.error b
        made = ap (λ (xs : List Symbol). join (errors_of xs)) (cond-true (is_transfer sink.pace to b) (shown_symbols sink to b) [] moves) ∙ (ap join (errors_of_beat sink to b) ∙ join_same (shown_count sink to b) (to.error b) (streamed.holds_data b l moves))

        fits : length (transferred_symbols sink to b) + shown_count sink to b ≤ length (kept_symbols passes source from (suc b))
        fits = omega (arith, length_in sink to b moves, length-append (transferred_symbols sink to b) (symbols_in sink to b), length_in_order _ _ (streamed.in_order (suc b) l))

        matched : to.error b ≡ join (errors_of (take (shown_count sink to b) (drop (length (transferred_symbols sink to b)) (kept_symbols passes source from count))))
        matched =
            streamed.errors b l moves
            ∙ (joined_is (take (shown_count sink to b) (drop (length (transferred_symbols sink to b)) (kept_symbols passes source from (suc b))))
            ∙ ap (λ (xs : List Symbol). join (errors_of xs)) (sym (part_of_prefix (kept_symbols passes source from (suc b)) (kept_symbols passes source from count) (length (transferred_symbols sink to b)) (shown_count sink to b) (kept_grow passes source from (suc b) count l) fits)))

    by_place : (b < a) ⊎ (a ≤ b)
        → (a ≤ b → b ≤ count → join (errors_of (drop (length (transferred_symbols sink to a)) (transferred_symbols sink to b))) ≡ join (errors_of (take (length (transferred_symbols sink to b) - length (transferred_symbols sink to a)) (drop (length (transferred_symbols sink to a)) (kept_symbols passes source from count)))))
        → join (errors_of (drop (length (transferred_symbols sink to a)) (transferred_symbols sink to (suc b)))) ≡ join (errors_of (take (length (transferred_symbols sink to (suc b)) - length (transferred_symbols sink to a)) (drop (length (transferred_symbols sink to a)) (kept_symbols passes source from count))))
    by_place (inr before) earlier = by_transfer before (is_transfer sink.pace to b) refl (earlier before (omega arith))
    by_place (inl same) earlier =
        let e : a ≡ suc b = omega arith in
        let nothing : drop (length (transferred_symbols sink to (suc b))) (transferred_symbols sink to (suc b)) ≡ [] = drop_all (length (transferred_symbols sink to (suc b))) (transferred_symbols sink to (suc b)) (omega arith) in
        let zero_left : length (transferred_symbols sink to (suc b)) - length (transferred_symbols sink to (suc b)) ≡ 0 = omega arith in
        subst (λ d. join (errors_of (drop (length (transferred_symbols sink to d)) (transferred_symbols sink to (suc b)))) ≡ join (errors_of (take (length (transferred_symbols sink to (suc b)) - length (transferred_symbols sink to d)) (drop (length (transferred_symbols sink to d)) (kept_symbols passes source from count))))) (sym e)
        (ap (λ (xs : List Symbol). join (errors_of xs)) nothing ∙ sym (ap (λ n. join (errors_of (take n (drop (length (transferred_symbols sink to (suc b))) (kept_symbols passes source from count))))) zero_left))
