-- Places that are made, shown and shifted one by one.
use Rattle.std.proofs.Common.{◌≡◌, ℕ, zero, suc, ◌+◌, ◌-◌, ◌*◌, ◌^◌, ◌<◌, ◌≤◌, Bool, true, false, ◌==◌, if◌then◌else◌, List, [], ◌∷◌, ◌++◌, length, length-append, get_or, ◌⊎◌, refl, sym, subst, ap, ◌∙◌, arith, inl, inr}
use Rattle.std.proofs.Math.Nat.{mul-le-mul_left}
use Rattle.std.proofs.lemmas.Bool.{eqb-true, eqb-false}
use Rattle.netlist.specs.Nets.{NetValue}
use Rattle.netlist.specs.Netlists.{Netlist, IsWaiting}
use Rattle.netlist.specs.Runs.{Cycle, Always}
use Rattle.netlist.specs.Longer.{Extends}
use Rattle.net_parts.specs.Groups.{AreNets, group_widths, values_of, AreNumberedFrom, IsInRow, InGroup, LoadsAll, in_row, of_row, nets_last}
use Rattle.net_parts.specs.Growth.{GrowsBy, AddsNets, StillWait, WaitsBeside, WaitsWithout}
use Rattle.net_parts.specs.Laws.{extends_none, extends_twice, grows_none, grows_fewer, grows_within, adds_none, adds_fewer, adds_twice}
use Rattle.item_queues.specs.Places.{IsPlaceFrom, ArePlacesFrom, ArePlaces, InPlaces, values_in, ShiftsOn, item_in, places_last}

-- ---- the numbers of a row

pub places_above : (netlist : Netlist) (like : List NetValue) (from : ℕ) (row : List (List NetValue)) → ArePlacesFrom netlist like from row → (n : ℕ) → InPlaces row n → from ≤ n
places_above netlist like from [] h n o = absurd o
places_above netlist like from (place ∷ row) h n (inl o) = (in_row from place h.0.numbers n o).least
places_above netlist like from (place ∷ row) h n (inr o) = let above = places_above netlist like (from + length place) row h.1 n o in omega (arith, above)

-- a place is apart from those behind it
pub place_apart : (netlist : Netlist) (like : List NetValue) (from : ℕ) (place : List NetValue) (row : List (List NetValue)) → ArePlacesFrom netlist like from (place ∷ row) → (n : ℕ) → InGroup place n → ¬ InPlaces row n
place_apart netlist like from place row h n o p =
    let below = (in_row from place h.0.numbers n o).below in
    let above = places_above netlist like (from + length place) row h.1 n p in
    omega (arith, below, above)

-- places like another item of the same widths
pub places_like : (netlist : Netlist) (like other : List NetValue) (from : ℕ) (row : List (List NetValue)) → group_widths like ≡ group_widths other → ArePlacesFrom netlist like from row → ArePlacesFrom netlist other from row
places_like netlist like other from [] e h = tt
places_like netlist like other from (place ∷ row) e h = (record { nets = h.0.nets; widths = h.0.widths ∙ e; numbers = h.0.numbers }, places_like netlist like other (from + length place) row e h.1)

-- ---- shifting

both_chosen : (t : Bool) (x a b : List ℕ) (xs ones others : List (List ℕ)) → x ≡ (if t then a else b) → xs ≡ (if t then ones else others) → (x ∷ xs) ≡ (if t then a ∷ ones else b ∷ others)
both_chosen true x a b xs ones others e f = cc
both_chosen false x a b xs ones others e f = cc

pub shifts_more : (netlist : Netlist) (comes : NetValue) (below place : List NetValue) (row : List (List NetValue)) → LoadsAll netlist comes place below → ShiftsOn netlist comes place row → ShiftsOn netlist comes below (place ∷ row)
shifts_more netlist comes below place row one rest run cycles r c lt = both_chosen (run.net c comes.number == 1) _ _ _ _ _ _ (one run cycles r c lt) (rest run cycles r c lt)

-- places that are shifted up to the rest of them
pub record ShiftsSet (old now : Netlist) (row rest : List (List NetValue)) (comes : NetValue) (below into : List NetValue) (size : ℕ) : Type 0 where
  pub extends : Extends old now
  pub most : length now.lines + size * length rest ≤ length old.lines + size * length row
  pub drivers : now.drivers ≡ old.drivers
  pub memories : now.memories ≡ old.memories
  pub places : ArePlaces now into rest
  pub waits : (n : ℕ) → InPlaces rest n → IsWaiting now n
  pub into_is : AreNets now into
  pub moves : (later : Netlist) → Extends now later → ShiftsOn later comes into rest → ShiftsOn later comes below row
  pub still : (n : ℕ) → ¬ InPlaces row n → IsWaiting old n → IsWaiting now n
  pub no_more : (n : ℕ) → IsWaiting now n → IsWaiting old n × (InPlaces row n → InPlaces rest n)
  pub within : (n : ℕ) → InPlaces rest n → InPlaces row n

pub set_none : (old : Netlist) (row : List (List NetValue)) (comes : NetValue) (below : List NetValue) (size : ℕ) → ArePlaces old below row → ((n : ℕ) → InPlaces row n → IsWaiting old n) → AreNets old below → ShiftsSet old old row row comes below below size
set_none old row comes below size places waits nets = record {
  extends = extends_none old;
  most = omega arith;
  drivers = refl;
  memories = refl;
  places = places;
  waits = waits;
  into_is = nets;
  moves = λ later e m. m;
  still = λ n apart w. w;
  no_more = λ n w. (w, λ o. o);
  within = λ n o. o;
}

pub set_more : (old now new : Netlist) (row rest : List (List NetValue)) (comes : NetValue) (below into place : List NetValue) (size : ℕ) → ShiftsSet old now row (place ∷ rest) comes below into size →
    LoadsAll new comes place into → GrowsBy size now new → ((n : ℕ) → ¬ InGroup place n → IsWaiting now n → IsWaiting new n) → WaitsWithout (InGroup place) now new → ShiftsSet old new row rest comes below place size
set_more old now new row rest comes below into place size h loads grows still without =
    let one = h.places.from_start.0 in
    let others = h.places.from_start.1 in
    record {
      extends = extends_twice old now new h.extends grows.extends;
      most = (let before = h.most in let more = grows.most in omega (arith, before, more));
      drivers = grows.drivers ∙ h.drivers;
      memories = grows.memories ∙ h.memories;
      places = record { start = h.places.start + length place; from_start = places_like new into place _ rest (sym one.widths) (places_last now new into _ rest others grows.extends) };
      waits = λ n o. still n (λ p. place_apart now into h.places.start place rest h.places.from_start n p o) (h.waits n (inr o));
      into_is = nets_last now new place grows.extends one.nets;
      moves = λ later e m. h.moves later (extends_twice now new later grows.extends e) (shifts_more later comes into place rest (λ run cycles r. loads run cycles (e.runs run cycles r)) m);
      still = λ n apart w. still n (λ p. apart (h.within n (inl p))) (h.still n apart w);
      no_more = λ n w. (let set = without n w in let before = h.no_more n set.0 in (before.0, λ o. elim (before.1 o) [ inl p ↦ absurd (set.1 p) | inr p ↦ p ]));
      within = λ n o. h.within n (inr o);
    }

-- before a place is set, with the nets that are made for it
pub set_grows : (old now new : Netlist) (row rest : List (List NetValue)) (comes : NetValue) (below into place : List NetValue) (size : ℕ) → ShiftsSet old now row (place ∷ rest) comes below into size → GrowsBy size now new → GrowsBy (size * length row) old new
set_grows old now new row rest comes below into place size h grows = record {
  extends = extends_twice old now new h.extends grows.extends;
  most = (let before = h.most in let more = grows.most in omega (arith, before, more));
  drivers = grows.drivers ∙ h.drivers;
  memories = grows.memories ∙ h.memories;
}

pub set_full : (old now : Netlist) (row rest : List (List NetValue)) (comes : NetValue) (below into place : List NetValue) (size : ℕ) → ShiftsSet old now row (place ∷ rest) comes below into size → 2 ^ 20 < length now.lines + size → 2 ^ 20 < length old.lines + size * length row
set_full old now row rest comes below into place size h full = let before = h.most in omega (arith, before, full)

pub set_all : (old now : Netlist) (row rest : List (List NetValue)) (comes : NetValue) (below into : List NetValue) (size : ℕ) → ShiftsSet old now row rest comes below into size → GrowsBy (size * length row) old now
set_all old now row rest comes below into size h = record { extends = h.extends; most = (let most = h.most in omega (arith, most)); drivers = h.drivers; memories = h.memories }

-- ---- choosing

pub chosen_here : (t : Bool) (number count here : ℕ) (made place other : List ℕ) → (count == number) ≡ t → here ≡ (if count == number then 1 else 0) → made ≡ (if here == 0 then other else place) → made ≡ (if count == number then place else other)
chosen_here true number count here made place other e h m = m ∙ ap (λ k. if k == 0 then other else place) (h ∙ ap (λ t. if t then 1 else 0) e) ∙ sym (ap (λ t. if t then place else other) e)
chosen_here false number count here made place other e h m = m ∙ ap (λ k. if k == 0 then other else place) (h ∙ ap (λ t. if t then 1 else 0) e) ∙ sym (ap (λ t. if t then place else other) e)

push_here : (xs : List (List ℕ)) (x d : List ℕ) → get_or (xs ++ x ∷ []) (length xs) d ≡ x
push_here [] x d = refl
push_here (a ∷ xs) x d = push_here xs x d

push_apart : (xs : List (List ℕ)) (x d : List ℕ) (j : ℕ) → (j ≡ length xs → ⊥) → get_or (xs ++ x ∷ []) j d ≡ get_or xs j d
push_apart [] x d zero apart = absurd (apart refl)
push_apart [] x d (suc j) apart = refl
push_apart (a ∷ xs) x d zero apart = refl
push_apart (a ∷ xs) x d (suc j) apart = push_apart xs x d j (λ e. apart (ap suc e))

-- one more place to choose from
item_pushed : (first : List ℕ) (xs : List (List ℕ)) (x made shown : List ℕ) (count number : ℕ) (t : Bool) → (count == number) ≡ t → number ≡ length xs + 2 → 1 ≤ count → made ≡ (if count == number then x else shown) → shown ≡ item_in (first ∷ xs) (count - 1) → made ≡ item_in (first ∷ xs ++ x ∷ []) (count - 1)
item_pushed first xs x made shown count number true e n some m s =
    let same = eqb-true count number e in
    let place : count - 1 ≡ length (first ∷ xs) = omega (arith, same, n) in
    m ∙ ap (λ t. if t then x else shown) e ∙ sym (push_here (first ∷ xs) x first) ∙ ap (λ k. get_or (first ∷ xs ++ x ∷ []) k first) (sym place)
item_pushed first xs x made shown count number false e n some m s =
    let other = eqb-false count number e in
    m ∙ ap (λ t. if t then x else shown) e ∙ s ∙ sym (push_apart (first ∷ xs) x first (count - 1) (λ same. other (let all : count ≡ number = omega (arith, same, n, some) in all)))

-- the item in a place of some of the first places
pub record ItemShown (old now : Netlist) (count : NetValue) (first : List NetValue) (rest : List (List NetValue)) (shown : List NetValue) (size k : ℕ) : Type 0 where
  pub nets : AreNets now shown
  pub widths : group_widths shown ≡ group_widths first
  pub value : Always now (λ cycle. 1 ≤ cycle.net count.number → values_of cycle shown ≡ item_in (values_in cycle (first ∷ rest)) (cycle.net count.number - 1))
  pub adds : AddsNets (size * k) old now
  pub count_is : length rest ≡ k

pub shown_none : (old : Netlist) (count : NetValue) (first : List NetValue) (size : ℕ) → AreNets old first → ItemShown old old count first [] first size 0
shown_none old count first size h = record { nets = h; widths = refl; value = λ cycle v some. first_alone (values_of cycle first) (cycle.net count.number - 1); adds = adds_fewer 0 _ old old (omega arith) (adds_none old); count_is = refl }
  where
    first_alone : (item : List ℕ) (k : ℕ) → item ≡ item_in (item ∷ []) k
    first_alone item zero = refl
    first_alone item (suc k) = refl

values_push : (cycle : Cycle) (row : List (List NetValue)) (place : List NetValue) → values_in cycle (row ++ place ∷ []) ≡ values_in cycle row ++ values_of cycle place ∷ []
values_push cycle [] place = refl
values_push cycle (first ∷ row) place = ap (λ (items : List (List ℕ)). values_of cycle first ∷ items) (values_push cycle row place)

pub values_count : (cycle : Cycle) (row : List (List NetValue)) → length (values_in cycle row) ≡ length row
values_count cycle [] = refl
values_count cycle (first ∷ row) = ap suc (values_count cycle row)

pub shown_more : (old now new : Netlist) (count : NetValue) (first place : List NetValue) (rest : List (List NetValue)) (shown made : List NetValue) (size k number : ℕ) → ItemShown old now count first rest shown size k → number ≡ k + 2 →
    AreNets new made → group_widths made ≡ group_widths place → group_widths place ≡ group_widths first → AddsNets size now new →
    Always new (λ cycle. values_of cycle made ≡ (if cycle.net count.number == number then values_of cycle place else values_of cycle shown)) → ItemShown old new count first (rest ++ place ∷ []) made size (k + 1)
shown_more old now new count first place rest shown made size k number h n nets widths like adds value = record {
  nets = nets;
  widths = widths ∙ like;
  value = λ cycle v some.
      (let count_is = h.count_is in let many = values_count cycle rest in
      item_pushed (values_of cycle first) (values_in cycle rest) (values_of cycle place) (values_of cycle made) (values_of cycle shown) (cycle.net count.number) number (cycle.net count.number == number) refl (omega (arith, n, count_is, many)) some (value cycle v) (h.value cycle (adds.grows.extends.valuations cycle v) some)
      ∙ ap (λ (items : List (List ℕ)). item_in (values_of cycle first ∷ items) (cycle.net count.number - 1)) (sym (values_push cycle rest place)));
  adds = adds_fewer _ _ old new (omega arith) (adds_twice (size * k) size old now new h.adds adds);
  count_is = (let all = length-append rest (place ∷ []) in let f = h.count_is in omega (arith, all, f));
}

pub shown_grows : (old now new : Netlist) (count : NetValue) (first : List NetValue) (rest : List (List NetValue)) (shown : List NetValue) (size k most : ℕ) → ItemShown old now count first rest shown size k → AddsNets size now new → k < most → AddsNets (size * most) old new
shown_grows old now new count first rest shown size k most h adds lt =
    let next : k + 1 ≤ most = omega arith in
    let few = mul-le-mul_left size next in
    adds_fewer _ _ old new (omega (arith, few)) (adds_twice (size * k) size old now new h.adds adds)

pub shown_full : (old now : Netlist) (count : NetValue) (first : List NetValue) (rest : List (List NetValue)) (shown : List NetValue) (size k most : ℕ) → ItemShown old now count first rest shown size k → k < most → 2 ^ 20 < length now.lines + size → 2 ^ 20 < length old.lines + size * most
shown_full old now count first rest shown size k most h lt full =
    let next : k + 1 ≤ most = omega arith in
    let few = mul-le-mul_left size next in
    let lines = h.adds.most in
    omega (arith, few, lines, full)

-- one of the places
pub place_at : (netlist : Netlist) (like : List NetValue) (from : ℕ) (row : List (List NetValue)) (k : ℕ) (d : List NetValue) → ArePlacesFrom netlist like from row → k < length row → AreNets netlist (get_or row k d) × (group_widths (get_or row k d) ≡ group_widths like)
place_at netlist like from [] k d h lt = absurd (omega arith)
place_at netlist like from (place ∷ row) zero d h lt = (h.0.nets, h.0.widths)
place_at netlist like from (place ∷ row) (suc k) d h lt = place_at netlist like (from + length place) row k d h.1 (omega arith)

-- ---- making

places_push : (netlist : Netlist) (like : List NetValue) (size from : ℕ) (row : List (List NetValue)) (place : List NetValue) → length like ≡ size → ArePlacesFrom netlist like from row → ((p : List NetValue) → group_widths p ≡ group_widths like → length p ≡ size) → IsPlaceFrom netlist like (from + size * length row) place → ArePlacesFrom netlist like from (row ++ place ∷ [])
places_push netlist like size from [] place e h long p = (subst (λ k. IsPlaceFrom netlist like k place) (let none : from + size * 0 ≡ from = omega arith in none) p, tt)
places_push netlist like size from (first ∷ row) place e h long p = (
  h.0,
  places_push netlist like size (from + length first) row place e h.1 long
      (subst (λ k. IsPlaceFrom netlist like k place) (let same = long first h.0.widths in let all : from + size * suc (length row) ≡ from + length first + size * length row = omega (arith, same) in all) p),
)

in_pushed : (row : List (List NetValue)) (place : List NetValue) (n : ℕ) → InPlaces row n → InPlaces (row ++ place ∷ []) n
in_pushed [] place n o = absurd o
in_pushed (first ∷ row) place n (inl o) = inl o
in_pushed (first ∷ row) place n (inr o) = inr (in_pushed row place n o)

in_last : (row : List (List NetValue)) (place : List NetValue) (n : ℕ) → InGroup place n → InPlaces (row ++ place ∷ []) n
in_last [] place n o = inl o
in_last (first ∷ row) place n o = inr (in_last row place n o)

of_pushed : (row : List (List NetValue)) (place : List NetValue) (n : ℕ) → InPlaces (row ++ place ∷ []) n → InPlaces row n ⊎ InGroup place n
of_pushed [] place n (inl o) = inr o
of_pushed [] place n (inr o) = absurd o
of_pushed (first ∷ row) place n (inl o) = inl (inl o)
of_pushed (first ∷ row) place n (inr o) = elim (of_pushed row place n o) [ inl p ↦ inl (inr p) | inr p ↦ inr p ]

same_length : (one other : List NetValue) → group_widths one ≡ group_widths other → length one ≡ length other
same_length [] [] e = refl
same_length [] (b ∷ other) e = absurd (cc)
same_length (a ∷ one) [] e = absurd (cc)
same_length (a ∷ one) (b ∷ other) e = ap suc (same_length one other (cc))

-- so many places
pub record PlacesMade (old now : Netlist) (like : List NetValue) (size : ℕ) (row : List (List NetValue)) (count : ℕ) : Type 0 where
  pub places : ArePlacesFrom now like (length old.lines) row
  pub count_is : length row ≡ count
  pub lines : length now.lines ≡ length old.lines + size * count
  pub grows : GrowsBy (size * count) old now
  pub still_wait : StillWait old now
  pub own_wait : (n : ℕ) → InPlaces row n → IsWaiting now n
  pub newly : WaitsBeside (InPlaces row) old now

pub made_none : (old : Netlist) (like : List NetValue) (size : ℕ) → PlacesMade old old like size [] 0
made_none old like size = record {
  places = tt;
  count_is = refl;
  lines = omega arith;
  grows = grows_fewer 0 _ old old (omega arith) (grows_none old);
  still_wait = λ n w. w;
  own_wait = λ n o. absurd o;
  newly = λ n w. inl w;
}

pub made_more : (old now new : Netlist) (like : List NetValue) (size : ℕ) (row : List (List NetValue)) (count : ℕ) (place : List NetValue) → length like ≡ size → PlacesMade old now like size row count →
    AreNets new place → group_widths place ≡ group_widths like → AreNumberedFrom (length now.lines) place → length new.lines ≡ length now.lines + size →
    ((n : ℕ) → IsInRow (length now.lines) size n → IsWaiting new n) → GrowsBy size now new → StillWait now new → WaitsBeside (IsInRow (length now.lines) size) now new →
    PlacesMade old new like size (row ++ place ∷ []) (count + 1)
made_more old now new like size row count place e h nets widths numbers lines wait grows still newly =
    let long : length place ≡ size = same_length place like widths ∙ e in
    record {
      places = places_push new like size (length old.lines) row place e (places_last now new like (length old.lines) row h.places grows.extends) (λ p w. same_length p like w ∙ e)
          (record { nets = nets; widths = widths; numbers = subst (λ k. AreNumberedFrom k place) (h.lines ∙ ap (λ k. length old.lines + size * k) (sym h.count_is)) numbers });
      count_is = (let all = length-append row (place ∷ []) in let f = h.count_is in omega (arith, all, f));
      lines = (let before = h.lines in omega (arith, before, lines));
      grows = grows_within (size * count) size _ old now new h.grows grows (omega arith);
      still_wait = λ n w. still n (h.still_wait n w);
      own_wait = λ n o. elim (of_pushed row place n o) [ inl p ↦ still n (h.own_wait n p) | inr p ↦ wait n (subst (λ k. IsInRow (length now.lines) k n) long (in_row (length now.lines) place numbers n p)) ];
      newly = λ n w. elim (newly n w) [
        | inl before ↦ elim (h.newly n before) [ inl first ↦ inl first | inr own ↦ inr (in_pushed row place n own) ]
        | inr p ↦ inr (in_last row place n (of_row (length now.lines) place numbers n (subst (λ k. IsInRow (length now.lines) k n) (sym long) p)))
      ];
    }

-- with one more place, that may have failed
pub made_grows : (old now new : Netlist) (like : List NetValue) (size : ℕ) (row : List (List NetValue)) (k count : ℕ) → PlacesMade old now like size row k → GrowsBy size now new → k < count → GrowsBy (size * count) old new
made_grows old now new like size row k count h grows lt =
    let next : k + 1 ≤ count = omega arith in
    let most = mul-le-mul_left size next in
    grows_within (size * k) size (size * count) old now new h.grows grows (omega (arith, most))

pub made_full : (old now : Netlist) (like : List NetValue) (size : ℕ) (row : List (List NetValue)) (k count : ℕ) → PlacesMade old now like size row k → k < count → 2 ^ 20 < length now.lines + size → 2 ^ 20 < length old.lines + size * count
made_full old now like size row k count h lt full =
    let next : k + 1 ≤ count = omega arith in
    let most = mul-le-mul_left size next in
    let lines = h.grows.most in
    omega (arith, most, lines, full)

-- their numbers are those of nets that were made
places_below : (netlist : Netlist) (like : List NetValue) (size from : ℕ) (row : List (List NetValue)) → length like ≡ size → ArePlacesFrom netlist like from row → (n : ℕ) → InPlaces row n → n < from + size * length row
places_below netlist like size from [] e h n o = absurd o
places_below netlist like size from (place ∷ row) e h n (inl o) =
    let below = (in_row from place h.0.numbers n o).below in
    let long : length place ≡ size = same_length place like h.0.widths ∙ e in
    let some : size ≤ size * suc (length row) = omega arith in
    omega (arith, below, long, some)
places_below netlist like size from (place ∷ row) e h n (inr o) =
    let below = places_below netlist like size (from + length place) row e h.1 n o in
    let long : length place ≡ size = same_length place like h.0.widths ∙ e in
    omega (arith, below, long)

pub places_between : (old now : Netlist) (like : List NetValue) (size : ℕ) (row : List (List NetValue)) (count : ℕ) → length like ≡ size → PlacesMade old now like size row count → (n : ℕ) → InPlaces row n → (length old.lines ≤ n) × (n < length now.lines)
places_between old now like size row count e h n o =
    let count_is = h.count_is in
    let lines = h.lines in
    let below = places_below now like size (length old.lines) row e h.places n o in
    (places_above now like (length old.lines) row h.places n o, subst (λ k. n < k) (ap (λ k. length old.lines + size * k) count_is ∙ sym lines) below)
