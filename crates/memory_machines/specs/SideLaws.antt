-- Laws of what one side shows, takes and is answered, and of its flows. No contract reads a proof of theirs; the crates above
-- cite them.
use Rattle.std.proofs.Common.{ℕ, if◌then◌else◌, zero, suc, ◌<◌, ◌≤◌, ◌≡◌, ◌+◌, ◌-◌, [], ◌∷◌, ◌++◌, List, Bool, true, false, IsTrue, arith, refl, sym, ap, ◌∙◌, append_assoc, append-nil, subst, ap₂, length, map, flat_map, take, zip, Some, slice_get, le_refl, nat_lt, length-append, not, ◌&&◌, ◌||◌, IsFalse, filter, nat_eq}
use Rattle.std.proofs.lemmas.Bool.{le-ltb, not-true, and_parts}
use Rattle.std.proofs.lemmas.List.{take-append-le, map-append}
use Rattle.std.proofs.lemmas.List.Elements.{filter-append}
use Rattle.histories.specs.History.{KeepsItems, before, only_if, is_raised, unreached, total, AreWithin, IsPrefix}
use Rattle.histories.specs.History.AreWithin.{all_placed, next_room, placed as room_placed}
use Rattle.histories.specs.Laws.{accepted_prefix}
use Rattle.memory_machines.specs.Lines.{Group, sizes_of, items_among, operations_of_groups, groups_of, with_tag, tagged_operations}
use Rattle.memory_machines.specs.Link.{Target, Port, Marked, AreLegalAt, takes, marked_at, shown_at, taken_at, operations_in, sizes, is_nonempty}
use Rattle.memory_machines.specs.Link.Item.{Acts, Ends}
use Rattle.memory_machines.specs.Machines.{Raw, raw_at, IsFitBeat, port_of}
use Rattle.memory_machines.specs.Paths.{CommandView, AnswerView}
use Rattle.memory_runs.specs.Commands.{shows, burst_before, is_held, presents}
use Rattle.memory_runs.specs.Laws.{accepts_shows, legal_keeps}
use Rattle.memory_runs.specs.Legal.{Word, is_under_way}
use Rattle.memory_runs.specs.Operations.{byte_at, Operation}
use Rattle.memory_runs.specs.Order.{Answer, of_host, has_tag, Tagged}
use Rattle.memory_runs.specs.Views.{Shape, levels_at}

pub marked_keeps : (port : Port) (end : ℕ) → AreLegalAt port end
    → KeepsItems (shows port.commands.signals) (takes port) (marked_at port) end
marked_keeps port end legal =
    let keeps = legal_keeps port.shape port.commands.signals (takes port) end (accepts_shows port.commands.signals port.commands.waitrequest) legal.legal in
    record {
      accepted = keeps.accepted;
      held = λ c h stands.
          let same = (keeps.held c h stands).1 in
          let tag = legal.tag c h stands in
          let more = ap is_raised (legal.more c h stands) in
          ((keeps.held c h stands).0, cc);
    }

-- what a legal side has taken is the front of what it has shown
pub taken_is_shown : (port : Port) (end c : ℕ) → AreLegalAt port end → c ≤ end → IsPrefix (taken_at port c) (shown_at port c)
taken_is_shown port end c legal h = accepted_prefix _ _ _ end c (marked_keeps port end legal) h

pub all_reached : (sizes : List ℕ) (n : ℕ) → total sizes ≤ n → unreached sizes n ≡ 0
all_reached [] n h = refl
all_reached (size ∷ sizes) n h =
    let first : nat_lt n size ≡ false = le-ltb n size (omega arith) in
    let rest = all_reached sizes (n - size) (omega arith) in
    rw (first, rest)

pub same_counts : {A B : Type 0} (test : ℕ → Bool) (f : ℕ → A) (g : ℕ → B) (c : ℕ) →
    length (before (λ c. only_if (test c) (f c)) c) ≡ length (before (λ c. only_if (test c) (g c)) c)
same_counts test f g zero = refl
same_counts test f g (suc c) =
    length-append (before (λ c. only_if (test c) (f c)) c) _
    ∙ ap₂ (λ a b. a + b) (same_counts test f g c) (one (test c) (f c) (g c))
    ∙ sym (length-append (before (λ c. only_if (test c) (g c)) c) _)
  where
    one : {A B : Type 0} (b : Bool) (x : A) (y : B) → length (only_if b x) ≡ length (only_if b y)
    one true x y = refl
    one false x y = refl

-- one more word answers one more beat
pub zip_push : {A B C : Type 0} (g : A × B → List C) (xs : List A) (ws : List B) (w : B) (x : A)
    → slice_get xs (length ws) ≡ Some x →
    flat_map g (zip xs (ws ++ w ∷ [])) ≡ flat_map g (zip xs ws) ++ g (x, w)
zip_push g [] ws w x h = cc
zip_push g (y ∷ []) [] w x h = let same : y ≡ x = cc in ap (λ y. g (y, w) ++ []) same ∙ append-nil _
zip_push g (y ∷ z ∷ ys) [] w x h = let same : y ≡ x = cc in ap (λ y. g (y, w) ++ []) same ∙ append-nil _
zip_push g (y ∷ ys) (v ∷ vs) w x h =
    ap (λ l. g (y, v) ++ l) (zip_push g ys vs w x h) ∙ sym (append_assoc (g (y, v)) (flat_map g (zip ys vs)) (g (x, w)))

pub zip_length : {A B C D : Type 0} (g : A × B → List C) (f : A → List D) → ((x : A) (w : B) → length (g (x, w)) ≡ length (f x)) →
    (xs : List A) (ws : List B) → length (flat_map g (zip xs ws)) ≡ length (flat_map f (take (length ws) xs))
zip_length g f same [] [] = refl
zip_length g f same [] (v ∷ vs) = refl
zip_length g f same (y ∷ ys) [] = refl
zip_length g f same (y ∷ ys) (v ∷ vs) =
    length-append (g (y, v)) _ ∙ ap₂ (λ a b. a + b) (same y v) (zip_length g f same ys vs) ∙ sym (length-append (f y) _)

pub zip_front : {A B : Type 0} (xs ys : List A) (ws : List B) → length ws ≤ length xs → zip (xs ++ ys) ws ≡ zip xs ws
zip_front [] [] [] h = refl
zip_front [] (y ∷ ys) [] h = refl
zip_front [] ys (w ∷ ws) h = absurd (omega arith)
zip_front (x ∷ xs) ys [] h = refl
zip_front (x ∷ xs) ys (w ∷ ws) h = ap (λ l. (x, w) ∷ l) (zip_front xs ys ws (omega arith))

get_append : {A : Type 0} (xs rest : List A) (j : ℕ) (x : A) → slice_get xs j ≡ Some x → slice_get (xs ++ rest) j ≡ Some x
get_append [] rest j x h = cc
get_append (y ∷ ys) rest zero x h = h
get_append (y ∷ ys) rest (suc j) x h = get_append ys rest j x h

pub prefix_get : {A : Type 0} {xs ys : List A} → IsPrefix xs ys → (j : ℕ) (x : A) → slice_get xs j ≡ Some x
    → slice_get ys j ≡ Some x
prefix_get {A} {xs} p j x h = subst (λ l. slice_get l j ≡ Some x) p.joins (get_append xs p.rest j x h)

pub prefix_take : {A : Type 0} {xs ys : List A} → IsPrefix xs ys → (j : ℕ) → j ≤ length xs → take j ys ≡ take j xs
prefix_take {A} {xs} p j h = subst (λ l. take j l ≡ take j xs) p.joins (take-append-le j xs p.rest h)

-- the answers of one word hold themselves
abbrev pub answer_of : Word → ℕ → Answer
answer_of given lane = record { tag = 0; byte = byte_at given.word lane; code = given.code }

pub own_bytes : (given : Word) (lanes : List ℕ)
    → map (byte_at given.word) lanes ≡ map (λ (a : Answer). a.byte) (take (length lanes) (map (answer_of given) lanes))
own_bytes given [] = refl
own_bytes given (lane ∷ lanes) = ap (λ l. byte_at given.word lane ∷ l) (own_bytes given lanes)

-- what a legal side shows is fit
pub fit_when_shown : (port : Port) (end c : ℕ) → AreLegalAt port end → c < end → IsTrue (shows port.commands.signals c) →
    IsFitBeat port.shape (burst_before port.shape port.commands.signals (takes port) c) (raw_at port c)
fit_when_shown port end zero legal h shown = record {
  one_kind = legal.legal.one_kind 0 h;
  least = λ free. legal.legal.least 0 h shown free;
  most = λ free. legal.legal.most 0 h shown free;
  finished = λ busy. legal.legal.finished 0 h busy;
  joined = legal.joined 0 h shown;
}
fit_when_shown port end (suc c) legal h shown =
    by_test (is_held port.commands.signals (takes port) c) refl
    (λ held. fit_when_shown port end c legal (omega arith)
    (and_parts (shows port.commands.signals c) (not (takes port c)) held).0)
  where
    by_test : (b : Bool) → is_held port.commands.signals (takes port) c ≡ b →
        (is_held port.commands.signals (takes port) c ≡ true
        → IsFitBeat port.shape (burst_before port.shape port.commands.signals (takes port) c) (raw_at port c)) →
        IsFitBeat port.shape (burst_before port.shape port.commands.signals (takes port) (suc c)) (raw_at port (suc c))
    by_test true held before =
        let same : levels_at port.commands.signals c ≡ levels_at port.commands.signals (suc c) = legal.legal.held c h held in
        let not_accepted : takes port c ≡ false = not-true (takes port c) (and_parts (shows port.commands.signals c) (not (takes port c)) held).1 in
        let burst : burst_before port.shape port.commands.signals (takes port) c ≡ burst_before port.shape port.commands.signals (takes port) (suc c) = rw not_accepted in
        let raws_same : raw_at port c ≡ raw_at port (suc c) =
        ap (λ l. record { levels = l; more = port.commands.more c; tag = port.commands.tag c }) same
        ∙ ap₂ (λ m t. record { levels = levels_at port.commands.signals (suc c); more = m; tag = t }) (legal.more c h held)
        (legal.tag c h held) in
        subst (λ b. IsFitBeat port.shape b (raw_at port (suc c))) burst
        (subst (IsFitBeat port.shape (burst_before port.shape port.commands.signals (takes port) c)) raws_same (before held))
    by_test false free before =
        let presented : IsTrue (presents port.commands.signals (takes port) (suc c)) = rw (shown, free) refl in
        record {
          one_kind = legal.legal.one_kind (suc c) h;
          least = λ free. legal.legal.least (suc c) h presented free;
          most = λ free. legal.legal.most (suc c) h presented free;
          finished = λ busy. legal.legal.finished (suc c) h busy;
          joined = legal.joined (suc c) h shown;
        }

-- a side is legal whose beats are fit, and are held while they wait
module _ (shape : Shape) (dc : CommandView) (da : AnswerView) (end : ℕ)
    (fit : (c : ℕ) → c < end → shows dc.signals c ≡ true
    → IsFitBeat shape (burst_before shape dc.signals (takes (port_of shape dc da)) c) (raw_at (port_of shape dc da) c))
    (held : (c : ℕ) → suc c < end → is_held dc.signals (takes (port_of shape dc da)) c ≡ true
    → raw_at (port_of shape dc da) c ≡ raw_at (port_of shape dc da) (suc c)) where
  neither : (r w : Bool) → (r || w) ≡ false → (r ≡ false) × (not (r && w) ≡ true)
  neither true w h = cc
  neither false w h = (refl, refl)

  one_kind : (c : ℕ) → c < end → (b : Bool) → shows dc.signals c ≡ b
      → IsTrue (not (is_raised (dc.read c) && is_raised (dc.write c)))
  one_kind c h true shown = (fit c h shown).one_kind
  one_kind c h false shown = (neither (is_raised (dc.read c)) (is_raised (dc.write c)) shown).1

  shown_of : (c : ℕ) → presents dc.signals (takes (port_of shape dc da)) c ≡ true → shows dc.signals c ≡ true
  shown_of zero presented = presented
  shown_of (suc c) presented =
      (and_parts (shows dc.signals (suc c)) (not (is_held dc.signals (takes (port_of shape dc da)) c)) presented).0

  finished : (c : ℕ) → c < end → IsTrue (is_under_way shape dc.signals (takes (port_of shape dc da)) c) → (b : Bool)
      → shows dc.signals c ≡ b → IsFalse (is_raised (dc.read c))
  finished c h busy true shown = (fit c h shown).finished busy
  finished c h busy false shown = (neither (is_raised (dc.read c)) (is_raised (dc.write c)) shown).0

  pub legal_when_shown : AreLegalAt (port_of shape dc da) end
  legal_when_shown = record {
    legal = record {
      one_kind = λ c h. one_kind c h (shows dc.signals c) refl;
      held = λ c h stands. ap (λ (r : Raw). r.levels) (held c h stands);
      least = λ c h presented free. (fit c h (shown_of c presented)).least free;
      most = λ c h presented free. (fit c h (shown_of c presented)).most free;
      finished = λ c h busy. finished c h busy (shows dc.signals c) refl;
    };
    tag = λ c h stands. ap (λ (r : Raw). r.tag) (held c h stands);
    more = λ c h stands. ap (λ (r : Raw). r.more) (held c h stands);
    joined = λ c h shown. (fit c h shown).joined;
  }

abbrev pub acted_by : Bool → List Group → Bool
acted_by acted [] = acted
acted_by acted (g ∷ later) = acted_by (not g.closes && (acted || is_nonempty g.operations)) later

items_append : (acted : Bool) (xs ys : List Group)
    → items_among acted (xs ++ ys) ≡ items_among acted xs ++ items_among (acted_by acted xs) ys
items_append acted [] ys = refl
items_append acted (g ∷ xs) ys =
    ap (λ l. (map (Acts g.tag) g.operations ++ only_if (g.closes && (acted || is_nonempty g.operations)) (Ends g.tag)) ++ l)
    (items_append (not g.closes && (acted || is_nonempty g.operations)) xs ys)
    ∙ sym
    (append_assoc
    (map (Acts g.tag) g.operations ++ only_if (g.closes && (acted || is_nonempty g.operations)) (Ends g.tag)) _ _)

pub prefix_items : (acted : Bool) {xs ys : List Group} → IsPrefix xs ys → IsPrefix (items_among acted xs) (items_among acted ys)
prefix_items acted {xs} p =
    record
    { rest = items_among (acted_by acted xs) p.rest; joins = sym (items_append acted xs p.rest) ∙ ap (items_among acted) p.joins }

pub total_of : (groups : List Group) → total (sizes_of groups) ≡ length (operations_of_groups groups)
total_of [] = refl
total_of (g ∷ groups) = ap (λ n. length g.operations + n) (total_of groups) ∙ sym (length-append g.operations _)

pub total_front : {xs ys : List ℕ} → IsPrefix xs ys → total xs ≤ total ys
total_front {xs} p = subst (λ l. total xs ≤ total l) p.joins (below xs p.rest)
  where
    below : (xs ys : List ℕ) → total xs ≤ total (xs ++ ys)
    below [] ys = omega arith
    below (x ∷ xs) ys = let rest = below xs ys in omega (arith, rest)

front_is_within : (xs ys : List ℕ) → AreWithin xs (xs ++ ys)
front_is_within [] ys = all_placed
front_is_within (x ∷ xs) ys =
    room_placed (le_refl x) (let none : x - x ≡ 0 = omega arith in rw none (next_room (front_is_within xs ys)))

pub prefix_within : {xs ys : List ℕ} → IsPrefix xs ys → AreWithin xs ys
prefix_within {xs} p = subst (λ l. AreWithin xs l) p.joins (front_is_within xs p.rest)

abbrev tagged_all : ℕ → List Operation → List Tagged
tagged_all tag operations = map (λ o. record { tag = tag; operation = o }) operations

one_group : (host tag : ℕ) (operations : List Operation)
    → map (λ (t : Tagged). t.operation) (filter (has_tag host) (tagged_all tag operations))
    ≡ (if nat_eq tag host then operations else [])
one_group host tag operations = by_test (nat_eq tag host) refl operations
  where
    step : (b : Bool) → nat_eq tag host ≡ b → (o : Operation) (os : List Operation)
        → map (λ (t : Tagged). t.operation) (filter (has_tag host) (tagged_all tag os)) ≡ (if b then os else []) →
        map (λ (t : Tagged). t.operation) (filter (has_tag host) (tagged_all tag (o ∷ os))) ≡ (if b then o ∷ os else [])
    step true is o os rest = rw is (ap (λ l. o ∷ l) rest)
    step false is o os rest = rw is rest

    by_test : (b : Bool) → nat_eq tag host ≡ b → (operations : List Operation)
        → map (λ (t : Tagged). t.operation) (filter (has_tag host) (tagged_all tag operations))
        ≡ (if nat_eq tag host then operations else [])
    by_test true is [] = rw is refl
    by_test false is [] = rw is refl
    by_test b is (o ∷ os) =
        subst (λ x. map (λ (t : Tagged). t.operation) (filter (has_tag host) (tagged_all tag (o ∷ os)))
        ≡ (if x then o ∷ os else []))
        (sym is)
        (step b is o os
        (subst (λ b. map (λ (t : Tagged). t.operation) (filter (has_tag host) (tagged_all tag os)) ≡ (if b then os else [])) is
        (by_test b is os)))

pub of_host_same : (host : ℕ) (target : Target) (shape : Shape) (ms : List Marked) →
    of_host host (tagged_operations (groups_of target shape ms))
    ≡ operations_of_groups (groups_of target shape (with_tag host ms))
of_host_same host target shape [] = refl
of_host_same host target shape (m ∷ ms) =
    ap (map (λ (t : Tagged). t.operation))
    (filter-append (has_tag host) (tagged_all m.tag (operations_in target shape m))
    (tagged_operations (groups_of target shape ms)))
    ∙ map-append (λ (t : Tagged). t.operation) (filter (has_tag host) (tagged_all m.tag (operations_in target shape m)))
    (filter (has_tag host) (tagged_operations (groups_of target shape ms)))
    ∙ ap₂ (λ a b. a ++ b) (one_group host m.tag (operations_in target shape m)) (of_host_same host target shape ms)
    ∙ by_test (nat_eq m.tag host)
  where
    by_test : (b : Bool)
        → (if b then operations_in target shape m else []) ++ operations_of_groups (groups_of target shape (with_tag host ms))
        ≡ operations_of_groups (groups_of target shape (if b then m ∷ with_tag host ms else with_tag host ms))
    by_test true = refl
    by_test false = refl

pub total_append : (xs ys : List ℕ) → total (xs ++ ys) ≡ total xs + total ys
total_append [] ys = omega arith
total_append (x ∷ xs) ys = let rest = total_append xs ys in omega (arith, rest)
