-- Links that show first beats promptly show a waiting host's operation before the arbiter within a few cycles.
use Rattle.std.proofs.Common.{ℕ, zero, suc, ◌<◌, ◌≤◌, ◌≡◌, ◌+◌, ◌*◌, Bool, true, false, not, ◌&&◌, List, [], ◌∷◌, ◌++◌, length, map, filter, flat_map, take, nat_lt, if◌then◌else◌, arith, refl, sym, ap, ap₂, subst, ◌∙◌, append-nil, length-append, tests, IsTrue, Some, slice_get}
use Rattle.std.specs.List.{list_any, list_all}
use Rattle.std.proofs.lemmas.List.Elements.{filter-append}
use Rattle.std.proofs.lemmas.Bool.{and_parts, both_ways}
use Rattle.histories.specs.History.{only_if, numbers}
use Rattle.histories.specs.Laws.{shown_is_accepted_and_standing}
use Rattle.memory_runs.specs.Views.{System, Run, Shape}
use Rattle.memory_runs.specs.Operations.{filled_of_piece, filled_lanes, lanes_of_piece, piece_bytes, is_enabled, pieces}
use Rattle.memory_runs.specs.Commands.{Transfer, shows, transfer_at, is_of_reads, reads_among, read_beats as reads_in}
use Rattle.memory_runs.specs.Legal.{host_accepts}
use Rattle.memory_runs.specs.Order.{is_agent, place_of, transfer_operations, for_agent}
use Rattle.memory_runs.specs.Awake.{count_for}
use Rattle.memory_machines.specs.Link.{Target, Port, Marked, takes, taken_at, shown_at, marked_at, operations_in, operations_among, read_beats, AreLegalAt}
use Rattle.memory_machines.specs.Lines.{target_of, asked_among}
use Rattle.memory_machines.specs.SideLaws.{marked_keeps}
use Rattle.memory_parts.specs.Steps.{IsHostPart, IsRoutePart, place_shown, is_open}
use Rattle.memory_awake.specs.Fair.{ShowsOperation}
use Rattle.memory_awake.proofs.Bits.{one_taken, none_taken, takes_shows}
use Rattle.memory_awake.proofs.Beats.{same_count, ops_append, asked_append}
use Rattle.memory_awake.proofs.Places.{taken_end, cnt, cnt_none, cnt_append, one_transfer}
use Rattle.memory_awake.proofs.FairOwners.{Every}
use Rattle.memory_awake.proofs.FairWaiting.{some_piece, some_pieces}
use Rattle.memory_awake.proofs.FairWrites.{some_there}

-- ---- lists

pub record MapSplit (T : List Marked) (xs : List Transfer) (y : Transfer) : Type 0 where
  pub front : List Marked
  pub one : Marked
  pub rest : List Marked
  pub joins : front ++ one ∷ rest ≡ T
  pub same : map (λ (m : Marked). m.transfer) front ≡ xs
  pub first : one.transfer ≡ y

pub map_split : (T : List Marked) (xs : List Transfer) (y : Transfer) (ys : List Transfer) → map (λ (m : Marked). m.transfer) T ≡ xs ++ y ∷ ys → MapSplit T xs y
map_split [] [] y ys e = absurd cc
map_split [] (x ∷ xs) y ys e = absurd cc
map_split (m ∷ T) [] y ys e = let head : m.transfer ≡ y = cc in record { front = []; one = m; rest = T; joins = refl; same = refl; first = head }
map_split (m ∷ T) (x ∷ xs) y ys e =
    let head : m.transfer ≡ x = cc in
    let tail : map (λ (m : Marked). m.transfer) T ≡ xs ++ y ∷ ys = cc in
    let more = map_split T xs y ys tail in
    record { front = m ∷ more.front; one = more.one; rest = more.rest; joins = ap (λ l. m ∷ l) more.joins; same = ap₂ (λ a l. a ∷ l) head more.same; first = more.first }

pub every_front : {A : Type 0} (P : A → Type 0) (xs ys : List A) → Every P (xs ++ ys) → Every P xs
every_front {A} P [] ys all = tt
every_front {A} P (x ∷ xs) ys all = (all.0, every_front P xs ys all.1)

pub every_end : {A : Type 0} (P : A → Type 0) (xs : List A) (x : A) → Every P xs → P x → Every P (xs ++ x ∷ [])
every_end {A} P [] x all one = (one, tt)
every_end {A} P (y ∷ xs) x all one = (all.0, every_end P xs x all.1 one)

pub every_at : {A : Type 0} (P : A → Type 0) (xs : List A) (x : A) (ys : List A) → Every P (xs ++ x ∷ ys) → P x
every_at {A} P [] x ys all = all.0
every_at {A} P (y ∷ xs) x ys all = every_at P xs x ys all.1

pub get_there : (xs ys : List Marked) (y : Marked) → slice_get (xs ++ y ∷ ys) (length xs) ≡ Some y
get_there [] ys y = refl
get_there (x ∷ xs) ys y = get_there xs ys y

pub take_there : (xs ys : List Marked) → take (length xs) (xs ++ ys) ≡ xs
take_there [] ys = refl
take_there (x ∷ xs) ys = ap (λ l. x ∷ l) (take_there xs ys)

reads_one_more : (t : Transfer) (ts : List Transfer) → length (reads_in (t ∷ ts)) ≡ length (reads_in (t ∷ [])) + length (reads_in ts)
reads_one_more t ts = by_kind (is_of_reads t.kind)
  where
    by_kind : (b : Bool) → length (flat_map (λ (t : Transfer). t.beats) (if b then t ∷ reads_among ts else reads_among ts)) ≡ length (flat_map (λ (t : Transfer). t.beats) (if b then t ∷ [] else [])) + length (reads_in ts)
    by_kind true =
        let one = length-append t.beats (reads_in ts) in
        let two = ap length (append-nil t.beats) in
        omega (arith, one, two)
    by_kind false = omega arith

-- ---- the lanes of a first word

all_below : (most first count : ℕ) → first + count ≤ most → IsTrue (list_all (λ lane. nat_lt lane most) (numbers first count))
all_below most first zero fit = refl
all_below most first (suc count) fit =
    let here : nat_lt first most ≡ true = grind (arith, tests, fit) in
    rw (here, all_below most (suc first) count (omega (arith, fit))) refl

kept_below : (test keep : ℕ → Bool) (xs : List ℕ) → IsTrue (list_all test xs) → IsTrue (list_all test (filter keep xs))
kept_below test keep [] all = refl
kept_below test keep (x ∷ xs) all = by_keep (keep x) (kept_below test keep xs parts.1)
  where
    parts : IsTrue (test x) × IsTrue (list_all test xs)
    parts = and_parts (test x) (list_all test xs) all

    by_keep : (b : Bool) → IsTrue (list_all test (filter keep xs)) → IsTrue (list_all test (if b then x ∷ filter keep xs else filter keep xs))
    by_keep true more = rw (parts.0, more) refl
    by_keep false more = more

some_of_all : (test : ℕ → Bool) (xs ys : List ℕ) → 0 < length xs → IsTrue (list_all test xs) → IsTrue (list_any test (xs ++ ys))
some_of_all test [] ys some all = absurd (omega (arith, some))
some_of_all test (x ∷ xs) ys some all = let here = (and_parts (test x) (list_all test xs) all).0 in rw here refl

pub first_lane : (from to : Shape) (enables : ℕ) → 0 < length (filled_of_piece from to enables 0) → IsTrue (list_any (λ lane. nat_lt lane (piece_bytes from to)) (filled_lanes from to enables))
first_lane from to enables some = by_pieces (pieces from to) (some_pieces from to (some_piece from to enables some))
  where
    zeroth : 0 * piece_bytes from to + piece_bytes from to ≤ piece_bytes from to
    zeroth = omega arith

    all : IsTrue (list_all (λ lane. nat_lt lane (piece_bytes from to)) (filled_of_piece from to enables 0))
    all = by_enables to.has_enables (all_below (piece_bytes from to) (0 * piece_bytes from to) (piece_bytes from to) zeroth) (list_any (is_enabled enables) (lanes_of_piece from to 0))
      where
        by_enables : (b : Bool) → IsTrue (list_all (λ lane. nat_lt lane (piece_bytes from to)) (lanes_of_piece from to 0)) → (x : Bool) →
            IsTrue (list_all (λ lane. nat_lt lane (piece_bytes from to)) (if b then filter (is_enabled enables) (lanes_of_piece from to 0) else if x then lanes_of_piece from to 0 else []))
        by_enables true low x = kept_below (λ lane. nat_lt lane (piece_bytes from to)) (is_enabled enables) (lanes_of_piece from to 0) low
        by_enables false low true = low
        by_enables false low false = refl

    by_pieces : (n : ℕ) → 0 < n → IsTrue (list_any (λ lane. nat_lt lane (piece_bytes from to)) (flat_map (filled_of_piece from to enables) (numbers 0 n)))
    by_pieces zero none = absurd (omega (arith, none))
    by_pieces (suc n) more = some_of_all (λ lane. nat_lt lane (piece_bytes from to)) (filled_of_piece from to enables 0) (flat_map (filled_of_piece from to enables) (numbers 1 n)) some all

-- ---- what a side shows in a cycle

pub shown_now : (port : Port) (end c : ℕ) → AreLegalAt port end → c < end → shown_at port (suc c) ≡ taken_at port c ++ only_if (shows port.commands.signals c) (marked_at port c)
shown_now port end c legal fit =
    shown_is_accepted_and_standing (shows port.commands.signals) (takes port) (marked_at port) end (suc c) (marked_keeps port end legal) fit
    ∙ by_take (takes port c) refl (shows port.commands.signals c) refl
  where
    by_take : (a : Bool) → takes port c ≡ a → (s : Bool) → shows port.commands.signals c ≡ s →
        (taken_at port c ++ only_if (takes port c) (marked_at port c)) ++ only_if (shows port.commands.signals c && not (takes port c)) (marked_at port c) ≡ taken_at port c ++ only_if (shows port.commands.signals c) (marked_at port c)
    by_take true e true f = rw (e, f) (append-nil (taken_at port c ++ marked_at port c ∷ []))
    by_take true e false f = absurd (both_ways (shows port.commands.signals c) f (takes_shows port c e))
    by_take false e true f = rw (e, f) (ap (λ l. l ++ marked_at port c ∷ []) (append-nil (taken_at port c)))
    by_take false e false f = rw (e, f) (append-nil (taken_at port c ++ []))

-- an operation more is shown below than was taken there, so it stands there
pub stands_below : (target : Target) (port : Port) (end c n : ℕ) → AreLegalAt port end → c < end → length (operations_among target port.shape (taken_at port c)) ≤ n →
    n < length (operations_among target port.shape (shown_at port (suc c))) → ShowsOperation target port c
stands_below target port end c n legal fit few more = by_shown (shows port.commands.signals c) refl
  where
    by_shown : (s : Bool) → shows port.commands.signals c ≡ s → ShowsOperation target port c
    by_shown false e =
        let same = ap (λ l. length (operations_among target port.shape l)) (shown_now port end c legal fit ∙ ap (λ s. taken_at port c ++ only_if s (marked_at port c)) e ∙ append-nil (taken_at port c)) in
        absurd (omega (arith, same, few, more))
    by_shown true e =
        let split = ap (λ l. length (operations_among target port.shape l)) (shown_now port end c legal fit ∙ ap (λ s. taken_at port c ++ only_if s (marked_at port c)) e) ∙ ops_append target port.shape (taken_at port c) (marked_at port c) in
        (e, some_there (operations_in target port.shape (marked_at port c)) (omega (arith, split, few, more)))

-- ---- behind the route

module _ (system : System) (run : Run) (host agent : ℕ) (middle : Port) (down : ℕ → Port) (end : ℕ) (there : agent < system.agents) (part : IsHostPart system run host middle end) (route : IsRoutePart system host middle down end) where
  abbrev top : Port
  top = down agent

  seen_above : (c : ℕ) → c < end → IsTrue (shows top.commands.signals c) → IsTrue (shows middle.commands.signals c) × IsTrue (is_agent agent (place_shown system host middle c))
  seen_above c fit shown =
      and_parts (shows middle.commands.signals c) (is_agent agent (place_shown system host middle c))
      (and_parts (shows middle.commands.signals c && is_agent agent (place_shown system host middle c)) (is_open system host middle (Some agent) c) (sym (route.shown agent c there fit) ∙ shown)).0

  pub same_now : (c : ℕ) → c < end → IsTrue (shows top.commands.signals c) → (marked_at top c).transfer ≡ transfer_at (system.host host).shape (run.at_host host).signals (host_accepts (run.at_host host)) c
  same_now c fit shown = route.same agent c there fit shown ∙ part.same c fit (seen_above c fit shown).0

  pub more_now : (c : ℕ) → c < end → IsTrue (shows top.commands.signals c) → (marked_at top c).more ≡ not (marked_at top c).transfer.ends
  more_now c fit shown = route.more agent c there fit shown ∙ part.more c fit (seen_above c fit shown).0 ∙ ap (λ (t : Transfer). not t.ends) (sym (route.same agent c there fit shown))

  filter_end : (xs : List Transfer) (t : Transfer) → for_agent system host agent (xs ++ t ∷ []) ≡ for_agent system host agent xs ++ (if is_agent agent (place_of system host t) then t ∷ [] else [])
  filter_end xs t = filter-append (λ (t : Transfer). is_agent agent (place_of system host t)) xs (t ∷ [])

  -- what is taken behind the route for an agent is what is taken above it for that agent
  pub its_transfers : (c : ℕ) → c ≤ end → map (λ (m : Marked). m.transfer) (taken_at top c) ≡ for_agent system host agent (map (λ (m : Marked). m.transfer) (taken_at middle c))
  its_transfers zero fit = refl
  its_transfers (suc c) fit = by_take (takes middle c) refl (takes top c) refl (its_transfers c (omega (arith, fit)))
    where
      inside : c < end
      inside = omega (arith, fit)

      Same : ℕ → Type 0
      Same c = map (λ (m : Marked). m.transfer) (taken_at top c) ≡ for_agent system host agent (map (λ (m : Marked). m.transfer) (taken_at middle c))

      placed : IsTrue (takes top c) → IsTrue (is_agent agent (place_shown system host middle c))
      placed taken = (seen_above c inside (takes_shows top c taken)).1

      by_place : (b : Bool) → is_agent agent (place_shown system host middle c) ≡ b → takes top c ≡ false → takes middle c ≡ true → Same c → Same (suc c)
      by_place true e none some more = let same = route.accepts agent c there inside e in let bad : true ≡ false = sym some ∙ same ∙ none in absurd cc
      by_place false e none some more =
          ap (map (λ (m : Marked). m.transfer)) (none_taken top c none) ∙ more
          ∙ sym (ap (for_agent system host agent) (taken_end middle c some) ∙ filter_end (map (λ (m : Marked). m.transfer) (taken_at middle c)) (marked_at middle c).transfer
          ∙ ap (λ b. for_agent system host agent (map (λ (m : Marked). m.transfer) (taken_at middle c)) ++ (if b then (marked_at middle c).transfer ∷ [] else [])) e
          ∙ append-nil (for_agent system host agent (map (λ (m : Marked). m.transfer) (taken_at middle c))))

      by_take : (a : Bool) → takes middle c ≡ a → (b : Bool) → takes top c ≡ b → Same c → Same (suc c)
      by_take false e false f more = ap (map (λ (m : Marked). m.transfer)) (none_taken top c f) ∙ more ∙ ap (λ l. for_agent system host agent (map (λ (m : Marked). m.transfer) l)) (sym (none_taken middle c e))
      by_take false e true f more = let same = route.accepts agent c there inside (placed f) in let bad : false ≡ true = sym e ∙ same ∙ f in absurd cc
      by_take true e false f more = by_place (is_agent agent (place_shown system host middle c)) refl f e more
      by_take true e true f more =
          taken_end top c f ∙ ap₂ (λ l t. l ++ t ∷ []) more (route.same agent c there inside (takes_shows top c f))
          ∙ sym (ap (for_agent system host agent) (taken_end middle c e) ∙ filter_end (map (λ (m : Marked). m.transfer) (taken_at middle c)) (marked_at middle c).transfer
          ∙ ap (λ b. for_agent system host agent (map (λ (m : Marked). m.transfer) (taken_at middle c)) ++ (if b then (marked_at middle c).transfer ∷ [] else [])) (placed f))

  pub all_more : (c : ℕ) → c ≤ end → Every (λ m. m.more ≡ not m.transfer.ends) (taken_at top c)
  all_more zero fit = tt
  all_more (suc c) fit = by_take (takes top c) refl (all_more c (omega (arith, fit)))
    where
      by_take : (b : Bool) → takes top c ≡ b → Every (λ m. m.more ≡ not m.transfer.ends) (taken_at top c) → Every (λ m. m.more ≡ not m.transfer.ends) (taken_at top (suc c))
      by_take false e more = subst (Every (λ m. m.more ≡ not m.transfer.ends)) (sym (none_taken top c e)) more
      by_take true e more = subst (Every (λ m. m.more ≡ not m.transfer.ends)) (sym (one_taken top c e)) (every_end (λ m. m.more ≡ not m.transfer.ends) (taken_at top c) (marked_at top c) more (more_now c (omega (arith, fit)) (takes_shows top c e)))

  -- their operations and read beats
  pub ops_of : (ms : List Marked) (ts : List Transfer) → map (λ (m : Marked). m.transfer) ms ≡ for_agent system host agent ts → length (operations_among (target_of system agent) top.shape ms) ≡ count_for system host agent ts
  ops_of ms ts same = counted ms ∙ ap (λ l. length (flat_map (transfer_operations system host agent) l)) same
    where
      bytes : (system.host host).word_bytes ≡ top.shape.word_bytes
      bytes = sym part.bytes ∙ sym (ap (λ (s : Shape). s.word_bytes) (route.shape agent there))

      counted : (ms : List Marked) → length (operations_among (target_of system agent) top.shape ms) ≡ length (flat_map (transfer_operations system host agent) (map (λ (m : Marked). m.transfer) ms))
      counted [] = refl
      counted (m ∷ ms) =
          let more = counted ms in
          let one = length-append (operations_in (target_of system agent) top.shape m) (operations_among (target_of system agent) top.shape ms) in
          let two = length-append (transfer_operations system host agent m.transfer) (flat_map (transfer_operations system host agent) (map (λ (m : Marked). m.transfer) ms)) in
          let same = same_count system host agent top.shape m.transfer.beats bytes in
          omega (arith, more, one, two, same)

  pub reads_of : (ms : List Marked) (ts : List Transfer) → map (λ (m : Marked). m.transfer) ms ≡ for_agent system host agent ts → length (read_beats ms) ≡ cnt agent (asked_among system host ts)
  reads_of ms ts same = own ms ∙ ap (λ l. length (reads_in l)) same ∙ sym (placed ts)
    where
      own : (ms : List Marked) → length (read_beats ms) ≡ length (reads_in (map (λ (m : Marked). m.transfer) ms))
      own [] = refl
      own (m ∷ ms) = by_kind (is_of_reads m.transfer.kind) (own ms)
        where
          by_kind : (b : Bool) → length (read_beats ms) ≡ length (reads_in (map (λ (m : Marked). m.transfer) ms)) →
              length (flat_map (λ (m : Marked). m.transfer.beats) (if b then m ∷ filter (λ (m : Marked). is_of_reads m.transfer.kind) ms else filter (λ (m : Marked). is_of_reads m.transfer.kind) ms))
              ≡ length (flat_map (λ (t : Transfer). t.beats) (if b then m.transfer ∷ reads_among (map (λ (m : Marked). m.transfer) ms) else reads_among (map (λ (m : Marked). m.transfer) ms)))
          by_kind true more =
              let one = length-append m.transfer.beats (read_beats ms) in
              let two = length-append m.transfer.beats (reads_in (map (λ (m : Marked). m.transfer) ms)) in
              omega (arith, one, two, more)
          by_kind false more = more

      placed : (ts : List Transfer) → cnt agent (asked_among system host ts) ≡ length (reads_in (for_agent system host agent ts))
      placed [] = cnt_none agent
      placed (t ∷ ts) =
          let split = ap (cnt agent) (asked_append system host (t ∷ []) ts) ∙ cnt_append agent (asked_among system host (t ∷ [])) (asked_among system host ts) in
          let one = one_transfer system host agent t in
          by_place (is_agent agent (place_of system host t)) (omega (arith, split, one, placed ts))
        where
          by_place : (b : Bool) → cnt agent (asked_among system host (t ∷ ts)) ≡ (if b then length (reads_in (t ∷ [])) else 0) + length (reads_in (for_agent system host agent ts)) →
              cnt agent (asked_among system host (t ∷ ts)) ≡ length (reads_in (if b then t ∷ for_agent system host agent ts else for_agent system host agent ts))
          by_place false e = omega (arith, e)
          by_place true e = let more = reads_one_more t (for_agent system host agent ts) in omega (arith, e, more)
