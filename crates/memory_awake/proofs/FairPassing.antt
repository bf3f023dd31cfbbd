-- A waiting command is passed by few others: those that stand in the pipe, and those that begin at the arbiter before it.
use Rattle.std.proofs.Common.{ℕ, zero, suc, ◌<◌, ◌≤◌, ◌≡◌, ◌+◌, ◌-◌, ◌*◌, Bool, true, false, List, [], ◌∷◌, ◌++◌, length, nat_eq, nat_le, nat_lt, arith, refl, sym, ap, ap₂, subst, ◌∙◌, append_assoc, length-append, tests, IsTrue, IsFalse, Some}
use Rattle.std.specs.List.{list_any}
use Rattle.std.proofs.lemmas.List.{map-append, length-map}
use Rattle.histories.specs.History.{IsPrefix, only_if}
use Rattle.histories.specs.Laws.{prefix_map, prefix_filter, prefix_flat_map, prefix_length, before_prefix}
use Rattle.memory_runs.specs.Views.{System, Run}
use Rattle.memory_runs.specs.Commands.{Transfer, shows}
use Rattle.memory_runs.specs.Legal.{IsLegalHost}
use Rattle.memory_runs.specs.Laws.{taken_prefix}
use Rattle.memory_runs.specs.Order.{Tagged, has_tag, of_host, taken, place_of}
use Rattle.memory_runs.specs.Awake.{Sometime, IsWaiting, IsPassedByFew, has_begun, begun, begun_by_others, shares_of_others, is_for, is_place, may_be_counted}
use Rattle.memory_machines.specs.Link.{Port, Marked, takes, marked_at, taken_at, operations_in, operations_among, is_nonempty}
use Rattle.memory_machines.specs.Lines.{Group, TaggedPort, groups_of, group_of, target_of, with_tag}
use Rattle.memory_machines.specs.Begun.{groups_whole}
use Rattle.memory_machines.specs.SideLaws.{marked_keeps}
use Rattle.memory_machines.specs.Turns.{seats_of, others_begun, IsKeptAsking}
use Rattle.memory_parts.specs.Steps.{IsArbiterPart}
use Rattle.memory_awake.specs.Fair.{BeginsByTurns, AsksWithin, ShowsOperation, WaitsThere}
use Rattle.memory_awake.specs.Ways.{count_in}
use Rattle.memory_awake.proofs.Arbiter.{TurnLaws}
use Rattle.memory_awake.proofs.Beats.{ops_append}
use Rattle.memory_awake.proofs.Bits.{no_true, one_taken, holds}
use Rattle.memory_awake.proofs.Numbers.{of_is, none_above, whole}
use Rattle.memory_awake.proofs.Wanted.{own_taken, tagged_of_host}
use Rattle.memory_awake.proofs.FairAgent.{front_whole}
use Rattle.memory_awake.proofs.FairOthers.{others, others_among, others_by_tags, endings, endings_append, few_endings, few_more}
use Rattle.memory_awake.proofs.FairPassed.{ended_few, begun_split, one_a_cycle, passed_while_asking}
use Rattle.memory_awake.proofs.FairQuiet.{before_it, still_any, some_own, quiet, same_before, same_before_it, enough_taken}
use Rattle.memory_awake.proofs.FairSkips.{firsts}
use Rattle.memory_awake.proofs.FairWaiting.{all_stay_finished}
use Rattle.memory_awake.proofs.FairWindow.{taken_in, taken_split, taken_length}

-- of two fronts of a list the shorter one is a front of the other
pub shorter_front : {A : Type 0} (xs ys us vs : List A) → xs ++ us ≡ ys ++ vs → length xs ≤ length ys → IsPrefix xs ys
shorter_front {A} [] ys us vs e less = record { rest = ys; joins = refl }
shorter_front {A} (x ∷ xs) [] us vs e less = absurd (omega (arith, less))
shorter_front {A} (x ∷ xs) (y ∷ ys) us vs e less =
    let head : x ≡ y = cc in
    let tail : xs ++ us ≡ ys ++ vs = cc in
    let more = shorter_front xs ys us vs tail (omega (arith, less)) in
    record { rest = more.rest; joins = ap₂ (λ a l. a ∷ l) head more.joins }

same_rest : {A : Type 0} (front xs ys : List A) → front ++ xs ≡ front ++ ys → xs ≡ ys
same_rest {A} [] xs ys e = e
same_rest {A} (x ∷ front) xs ys e = let tail : front ++ xs ≡ front ++ ys = cc in same_rest front xs ys tail

some_long : {A : Type 0} (xs : List A) → IsTrue (is_nonempty xs) → 0 < length xs
some_long {A} [] none = absurd cc
some_long {A} (x ∷ xs) some = omega arith

module _ (laws : TurnLaws) (system : System) (run : Run) (agent : ℕ) (up : ℕ → Port) (near far : TaggedPort) (end : ℕ) (there : agent < system.agents) (begins : BeginsByTurns system run agent near far end)
    (arbiter : IsArbiterPart system agent up far end) (words : (h : ℕ) → h < system.hosts → (up h).shape.word_bytes ≡ far.shape.word_bytes)
    (pipe : (c : ℕ) → c ≤ end → count_in (takes far.port) 0 c ≤ count_in (takes near.port) 0 c + 2 * system.stages) (late : ℕ) (asks : AsksWithin late system run up agent end)
    (host : ℕ) (is_host : host < system.hosts) (legal : IsLegalHost (system.host host) (run.at_host host) end) (most : ℕ)
    (few : (from size : ℕ) → from + size ≤ end → IsKeptAsking (seats_of system agent) up far.port host from size → others_begun (seats_of system agent) up far.port host from size ≤ most) where
  abbrev groups : List Marked → List Group
  groups ms = groups_of (target_of system agent) far.shape ms

  -- the host's operations among these
  abbrev its : List Marked → ℕ
  its ms = length (operations_among (target_of system agent) far.shape (with_tag host ms))

  its_front : {xs ys : List Marked} → IsPrefix xs ys → its xs ≤ its ys
  its_front p = prefix_length (prefix_flat_map (operations_in (target_of system agent) far.shape) (prefix_filter (λ (m : Marked). nat_eq m.tag host) p))

  its_near : (c : ℕ) → c ≤ end → length (of_host host (taken system run agent c)) ≡ its (taken_at near.port c)
  its_near c fit = ap (λ l. length (of_host host l)) (begins.operations c fit) ∙ tagged_of_host (target_of system agent) far.shape (taken_at near.port c) host

  abbrev asked : ℕ → ℕ
  asked c = length (operations_among (target_of system agent) (up host).shape (taken_at (up host) c))

  its_far : (c : ℕ) → c ≤ end → asked c ≡ its (taken_at far.port c)
  its_far c fit = own_taken system agent up far end arbiter (target_of system agent) host is_host (words host is_host) c fit

  -- where what the agent has taken is the front of what was taken behind the arbiter by a cycle, few others have begun since an earlier one
  passed_by : (from later size : ℕ) → from ≤ later → later ≤ end → from + size ≤ end → length (taken_at near.port later) ≤ length (taken_at far.port (from + size)) → from + size ≤ later →
      others_begun (seats_of system agent) up far.port host from size ≤ late + most →
      begun_by_others system run agent host later ≤ begun_by_others system run agent host from + (late + most) + (2 * system.stages + 2)
  passed_by from later size low fit within short early few_begin =
      let ends = ended_few laws system agent up far end arbiter host from size within in
      let added = few_more host (groups (taken_at near.port from)) (groups new.rest) whole in
      let left = ap (others host) (ap firsts grown) in
      let all = counts later fit in
      let old = counts from (omega (arith, low, fit)) in
      let splits = endings_append host (groups new.rest) window.rest in
      let joins = ap (endings host) rests in
      let more = endings_append host (groups piped.rest) (groups (taken_in far.port from size)) in
      let held = few_endings host (groups piped.rest) in
      let size_is = length-map piped.rest (group_of (target_of system agent) far.shape) in
      let stand = standing in
      let begin_few = few_begin in
      omega (arith, ends, added, left, all, old, splits, joins, more, held, size_is, stand, begin_few)
    where
      new : IsPrefix (taken_at near.port from) (taken_at near.port later)
      new = before_prefix _ from later low

      piped : IsPrefix (taken_at near.port from) (taken_at far.port from)
      piped = begins.pipe from (omega (arith, low, fit))

      grown : groups (taken_at near.port from) ++ groups new.rest ≡ groups (taken_at near.port later)
      grown = sym (map-append (group_of (target_of system agent) far.shape) (taken_at near.port from) new.rest) ∙ ap groups new.joins

      through : IsPrefix (taken_at near.port later) (taken_at far.port (from + size))
      through =
          let all = begins.pipe later fit in
          let front : IsPrefix (taken_at far.port (from + size)) (taken_at far.port later) = before_prefix _ (from + size) later early in
          shorter_front (taken_at near.port later) (taken_at far.port (from + size)) all.rest front.rest (all.joins ∙ sym front.joins) short

      window : IsPrefix (groups (taken_at near.port later)) (groups (taken_at far.port (from + size)))
      window = prefix_map (group_of (target_of system agent) far.shape) through

      whole : groups_whole (groups (taken_at near.port from) ++ groups new.rest) ≡ true
      whole = ap groups_whole grown ∙ front_whole (groups (taken_at near.port later)) window.rest (ap groups_whole window.joins ∙ begins.whole (from + size) within)

      counts : (c : ℕ) → c ≤ end → begun_by_others system run agent host c ≡ others host (firsts (groups (taken_at near.port c)))
      counts c low = others_by_tags host (begun system run agent c) ∙ ap (others_among host) (begins.begun c low) ∙ sym (others_by_tags host (firsts (groups (taken_at near.port c))))

      rests : groups new.rest ++ window.rest ≡ groups piped.rest ++ groups (taken_in far.port from size)
      rests = same_rest (groups (taken_at near.port from)) (groups new.rest ++ window.rest) (groups piped.rest ++ groups (taken_in far.port from size))
          (sym (append_assoc (groups (taken_at near.port from)) (groups new.rest) window.rest) ∙ ap (λ l. l ++ window.rest) grown ∙ window.joins ∙ ap groups (taken_split far.port from size)
          ∙ map-append (group_of (target_of system agent) far.shape) (taken_at far.port from) (taken_in far.port from size)
          ∙ ap (λ l. groups l ++ groups (taken_in far.port from size)) (sym piped.joins)
          ∙ ap (λ l. l ++ groups (taken_in far.port from size)) (map-append (group_of (target_of system agent) far.shape) (taken_at near.port from) piped.rest)
          ∙ append_assoc (groups (taken_at near.port from)) (groups piped.rest) (groups (taken_in far.port from size)))

      standing : length piped.rest ≤ 2 * system.stages
      standing =
          let all = ap length piped.joins in
          let split = length-append (taken_at near.port from) piped.rest in
          let x = taken_length far.port from in
          let y = taken_length near.port from in
          let held = pipe from (omega (arith, low, fit)) in
          omega (arith, all, split, x, y, held)

  -- ---- a waiting command

  module _ (from last k : ℕ) (low : from ≤ last) (fit : last < end) (waiting : IsWaiting system run agent host (suc k) from) (unbegun : IsFalse (has_begun system run agent host (suc k) (suc last))) where
    -- the operations of the commands before it
    abbrev earlier : ℕ
    earlier = before_it system run host end legal agent there k from

    quiet_there : length (of_host host (taken system run agent (suc last))) ≤ earlier
    quiet_there =
        let for_it = still_any system run host end legal (λ (t : Transfer). is_place (Some agent) (place_of system host t)) (suc k) from last low fit waiting.presented in
        let counted = still_any system run host end legal (may_be_counted system host agent) (suc k) from last low fit waiting.counted in
        let some = some_own system run host end legal agent there k last fit for_it counted in
        let few = quiet system run host end legal agent there k last fit some unbegun in
        let same = same_before_it system run host end legal agent there k from (omega (arith, low, fit)) waiting.earlier last low fit in
        omega (arith, few, same)

    enough : (c : ℕ) → from ≤ c → c ≤ end → earlier ≤ asked c
    enough c least high =
        let all = enough_taken system run host end legal agent there k from (omega (arith, low, fit)) waiting.earlier in
        let grown = prefix_length (prefix_map (λ (t : Tagged). t.operation) (prefix_filter (has_tag host) (taken_prefix system run agent from c least))) in
        let near_is = its_near c high in
        let less = its_front (begins.pipe c high) in
        let far_is = its_far c high in
        omega (arith, all, grown, near_is, less, far_is)

    -- it waits while nothing of it was taken at the arbiter
    waits_so : (c : ℕ) → from ≤ c → c ≤ last → asked c ≤ earlier → WaitsThere system run agent (up host) host (suc k) c
    waits_so c least high untaken = record {
      presented = still_any system run host end legal (λ (t : Transfer). is_place (Some agent) (place_of system host t)) (suc k) from c least (omega (arith, fit, high)) waiting.presented;
      counted = still_any system run host end legal (may_be_counted system host agent) (suc k) from c least (omega (arith, fit, high)) waiting.counted;
      earlier = all_stay_finished system run host end legal from c least (omega (arith, fit, high)) (suc k) waiting.earlier;
      untaken = let same = same_before system run host end legal agent there k from (omega (arith, low, fit)) waiting.earlier c least (omega (arith, fit, high)) in omega (arith, untaken, same);
    }

    -- and an operation that it shows isn't taken while nothing is
    not_taken : (c : ℕ) → from ≤ c → c ≤ last → ShowsOperation (target_of system agent) (up host) c → asked (suc c) ≤ earlier → IsFalse (takes (up host) c)
    not_taken c least high now next = by_take (takes (up host) c) refl
      where
        by_take : (b : Bool) → takes (up host) c ≡ b → IsFalse b
        by_take false e = refl
        by_take true e =
            let split = ap (λ l. length (operations_among (target_of system agent) (up host).shape l)) (one_taken (up host) c e) ∙ ops_append (target_of system agent) (up host).shape (taken_at (up host) c) (marked_at (up host) c) in
            let some = some_long (operations_in (target_of system agent) (up host).shape (marked_at (up host) c)) now.1 in
            let enough_there = enough c least (omega (arith, fit, high)) in
            absurd (omega (arith, split, some, enough_there, next))

    not_taken_below : (c : ℕ) → from ≤ c → c ≤ last → ShowsOperation (target_of system agent) (up host) c → asked (suc c) ≤ earlier → far.port.commands.tag c ≡ host → IsFalse (takes far.port c)
    not_taken_below c least high now next tag = sym (arbiter.taken host c is_host (omega (arith, fit, high)) tag) ∙ not_taken c least high now next

    -- so it stands on
    stands_there : (first n : ℕ) → from ≤ first → first + n ≤ last → ((c : ℕ) → first ≤ c → c < first + n → asked (suc c) ≤ earlier) → ShowsOperation (target_of system agent) (up host) first → ShowsOperation (target_of system agent) (up host) (first + n)
    stands_there first zero least high untaken now = let same : first ≡ first + zero = omega arith in subst (ShowsOperation (target_of system agent) (up host)) same now
    stands_there first (suc n) least high untaken now =
        let here = stands_there first n least (omega (arith, high)) (λ c low less. untaken c low (omega (arith, less))) now in
        let open_one = not_taken (first + n) (omega (arith, least)) (omega (arith, high)) here (untaken (first + n) (omega arith) (omega arith)) in
        let keeps = marked_keeps (up host) end (arbiter.legal host is_host) in
        let held = keeps.held (first + n) (omega (arith, high, fit)) (holds (shows (up host).commands.signals (first + n)) (takes (up host) (first + n)) here.0 open_one) in
        let next : suc (first + n) ≡ first + suc n = omega arith in
        subst (ShowsOperation (target_of system agent) (up host)) next (held.0, subst (λ m. IsTrue (is_nonempty (operations_in (target_of system agent) (up host).shape m))) held.1 here.1)

    -- the cycle up to which nothing of it is taken at the arbiter
    record Stop : Type 0 where
      size : ℕ
      early : from + size ≤ suc last
      untaken : (c : ℕ) → from ≤ c → c < from + size → (asked c ≤ earlier) × (asked (suc c) ≤ earlier)
      short : length (taken_at near.port (suc last)) ≤ length (taken_at far.port (from + size))

    -- what has come through by then
    through_short : (e : ℕ) → e ≤ suc last → earlier < asked e → length (taken_at near.port (suc last)) < length (taken_at far.port e)
    through_short e high more = by_long (nat_lt (length (taken_at near.port (suc last))) (length (taken_at far.port e))) refl
      where
        by_long : (b : Bool) → nat_lt (length (taken_at near.port (suc last))) (length (taken_at far.port e)) ≡ b → length (taken_at near.port (suc last)) < length (taken_at far.port e)
        by_long true b = grind (arith, tests, b)
        by_long false b =
            let long : length (taken_at far.port e) ≤ length (taken_at near.port (suc last)) = grind (arith, tests, b) in
            let all = begins.pipe (suc last) fit in
            let front : IsPrefix (taken_at far.port e) (taken_at far.port (suc last)) = before_prefix _ e (suc last) high in
            let less = its_front (shorter_front (taken_at far.port e) (taken_at near.port (suc last)) front.rest all.rest (front.joins ∙ sym all.joins) long) in
            let far_is = its_far e (omega (arith, high, fit)) in
            let near_is = its_near (suc last) fit in
            let quiet_is = quiet_there in
            absurd (omega (arith, less, far_is, near_is, quiet_is, more))

    one_more_taken : (c : ℕ) → length (taken_at far.port (suc c)) ≤ suc (length (taken_at far.port c))
    one_more_taken c = let split = length-append (taken_at far.port c) (only_if (takes far.port c) (marked_at far.port c)) in let one = by_take (takes far.port c) in omega (arith, split, one)
      where
        by_take : (b : Bool) → length (only_if b (marked_at far.port c)) ≤ 1
        by_take true = omega arith
        by_take false = omega arith

    search_stop : (left size : ℕ) → (from + size) + left ≡ suc last → ((c : ℕ) → from ≤ c → c < from + size → (asked c ≤ earlier) × (asked (suc c) ≤ earlier)) → asked (from + size) ≤ earlier → Stop
    search_stop zero size at all here = record {
      size = size;
      early = omega (arith, at);
      untaken = all;
      short =
          let same : suc last ≡ from + size = omega (arith, at) in
          subst (λ e. length (taken_at near.port (suc last)) ≤ length (taken_at far.port e)) same (prefix_length (begins.pipe (suc last) fit));
    }
    search_stop (suc left) size at all here =
        by_next (λ next. let long : from + suc size ≡ suc (from + size) = omega arith in
        search_stop left (suc size) (omega (arith, at)) (λ c least less. by_last c least (nat_eq c (from + size)) refl less next) (subst (λ n. asked n ≤ earlier) (sym long) next))
        (nat_le (asked (suc (from + size))) earlier) refl
      where
        by_last : (c : ℕ) → from ≤ c → (b : Bool) → nat_eq c (from + size) ≡ b → c < from + suc size → asked (suc (from + size)) ≤ earlier → (asked c ≤ earlier) × (asked (suc c) ≤ earlier)
        by_last c least true e less next = let same : from + size ≡ c = grind (arith, tests, e) in (subst (λ n. asked n ≤ earlier) same here, subst (λ n. asked (suc n) ≤ earlier) same next)
        by_last c least false e less next = let before : c < from + size = grind (arith, tests, e, less) in all c least before

        by_next : (asked (suc (from + size)) ≤ earlier → Stop) → (b : Bool) → nat_le (asked (suc (from + size))) earlier ≡ b → Stop
        by_next go true e = go (grind (arith, tests, e))
        by_next go false e = record {
          size = size;
          early = omega (arith, at);
          untaken = all;
          short =
              let more : earlier < asked (suc (from + size)) = grind (arith, tests, e) in
              let less = through_short (suc (from + size)) (omega (arith, at)) more in
              let one = one_more_taken (from + size) in
              omega (arith, less, one);
        }

    -- few begin at the arbiter by then
    few_begin : (stop : Stop) → others_begun (seats_of system agent) up far.port host from stop.size ≤ late + most
    few_begin stop = by_size (nat_le stop.size late) refl
      where
        early_is : from + stop.size ≤ suc last
        early_is = stop.early

        by_size : (b : Bool) → nat_le stop.size late ≡ b → others_begun (seats_of system agent) up far.port host from stop.size ≤ late + most
        by_size true e =
            let short : stop.size ≤ late = grind (arith, tests, e) in
            let count = one_a_cycle laws system agent up far end arbiter host from stop.size in
            omega (arith, short, count)
        by_size false e =
            let long : late < stop.size = grind (arith, tests, e) in
            by_found (asks host (suc k) from is_host (let early = stop.early in omega (arith, early, fit, long)) (λ c least less. waits_so c least (let early = stop.early in omega (arith, early, less, long)) (stop.untaken c least (omega (arith, less, long))).0)) long
          where
            by_found : Sometime from (suc late) (ShowsOperation (target_of system agent) (up host)) → late < stop.size → others_begun (seats_of system agent) up far.port host from stop.size ≤ late + most
            by_found found long =
                let first : ℕ = found.0 in
                let least = found.1 in
                let soon = found.2 in
                let before : from + (first - from) ≡ first = omega (arith, least) in
                let size : (first - from) + (stop.size - (first - from)) ≡ stop.size = omega (arith, least, soon, long) in
                let split = begun_split laws system agent up far end arbiter host from (first - from) (stop.size - (first - from)) in
                let whole = ap (others_begun (seats_of system agent) up far.port host from) size in
                let moved = ap (λ c. others_begun (seats_of system agent) up far.port host c (stop.size - (first - from))) before in
                let count = one_a_cycle laws system agent up far end arbiter host from (first - from) in
                let early = stop.early in
                let showing : (c : ℕ) → first ≤ c → c < first + (stop.size - (first - from)) → ShowsOperation (target_of system agent) (up host) c =
                λ c low less. let there_is : first + (c - first) ≡ c = omega (arith, low) in
                subst (ShowsOperation (target_of system agent) (up host)) there_is
                (stands_there first (c - first) least (omega (arith, low, less, size, before, early)) (λ i down up_to. (stop.untaken i (omega (arith, least, down)) (omega (arith, up_to, low, less, size, before))).1) found.3) in
                let passed = passed_while_asking laws system agent up far end arbiter host most few first (stop.size - (first - from)) (omega (arith, size, before, early, fit)) (λ c low less. (showing c low less).0)
                (λ c low less tag. not_taken_below c (omega (arith, least, low)) (omega (arith, low, less, size, before, early)) (showing c low less) (stop.untaken c (omega (arith, least, low)) (omega (arith, less, size, before))).1 tag) in
                omega (arith, split, whole, moved, count, passed, least, soon)

    pub passed_few : begun_by_others system run agent host (suc last) ≤ begun_by_others system run agent host from + (late + most) + (2 * system.stages + 2)
    passed_few = by_first (nat_le (asked from) earlier) refl
      where
        by_stop : Stop → begun_by_others system run agent host (suc last) ≤ begun_by_others system run agent host from + (late + most) + (2 * system.stages + 2)
        by_stop stop = passed_by from (suc last) stop.size (omega (arith, low)) fit (let early = stop.early in omega (arith, early, fit)) stop.short stop.early (few_begin stop)

        by_first : (b : Bool) → nat_le (asked from) earlier ≡ b → begun_by_others system run agent host (suc last) ≤ begun_by_others system run agent host from + (late + most) + (2 * system.stages + 2)
        by_first true e =
            let same : from ≡ from + zero = omega arith in
            by_stop (search_stop (suc last - from) zero (omega (arith, low)) (λ c least less. absurd (omega (arith, least, less))) (subst (λ n. asked n ≤ earlier) same (grind (arith, tests, e))))
        by_first false e =
            let more : earlier < asked from = grind (arith, tests, e) in
            let same : from ≡ from + zero = omega arith in
            by_stop (record { size = zero; early = omega (arith, low); untaken = λ c least less. absurd (omega (arith, least, less)); short = subst (λ n. length (taken_at near.port (suc last)) ≤ length (taken_at far.port n)) same (let less = through_short from (omega (arith, low)) more in omega (arith, less)) })

-- ---- the bound

module _ (laws : TurnLaws) (system : System) (run : Run) (agent : ℕ) (up : ℕ → Port) (near far : TaggedPort) (end : ℕ) (there : agent < system.agents) (begins : BeginsByTurns system run agent near far end)
    (arbiter : IsArbiterPart system agent up far end) (words : (h : ℕ) → h < system.hosts → (up h).shape.word_bytes ≡ far.shape.word_bytes)
    (pipe : (c : ℕ) → c ≤ end → count_in (takes far.port) 0 c ≤ count_in (takes near.port) 0 c + 2 * system.stages) (late : ℕ) (asks : AsksWithin late system run up agent end)
    (legal : (h : ℕ) → h < system.hosts → IsLegalHost (system.host h) (run.at_host h) end)
    (few : (host from size : ℕ) → from + size ≤ end → IsKeptAsking (seats_of system agent) up far.port host from size → others_begun (seats_of system agent) up far.port host from size ≤ shares_of_others system agent host) where
  pub is_passed_by_few : IsPassedByFew (late + (2 * system.stages + 2)) system run agent end
  is_passed_by_few from later host number low high is_host waiting unbegun = by_same (nat_eq from later) refl
    where
      Passed : ℕ → Type 0
      Passed c = begun_by_others system run agent host c ≤ begun_by_others system run agent host from + shares_of_others system agent host + (late + (2 * system.stages + 2))

      by_number : (n : ℕ) → n ≡ number → (last : ℕ) → suc last ≡ later → from ≤ last → Passed (suc last)
      by_number zero e last same least =
          let none = of_is system run host end (legal host is_host) from 0 (omega (arith, least, same, high)) ∙ none_above system host (λ i. nat_eq i 0) 1 (whole system run host end (legal host is_host) from) (λ i above. grind (arith, tests, above)) in
          absurd (no_true (subst (λ l. IsTrue (list_any (λ (t : Transfer). is_place (Some agent) (place_of system host t)) l)) none (subst (λ n. IsTrue (is_for system run host (Some agent) n (suc from))) (sym e) waiting.presented)))
      by_number (suc k) e last same least =
          let most = passed_few laws system run agent up near far end there begins arbiter words pipe late asks host is_host (legal host is_host) (shares_of_others system agent host) (few host) from last k least (omega (arith, same, high))
          (subst (λ n. IsWaiting system run agent host n from) (sym e) waiting) (subst (λ n. IsFalse (has_begun system run agent host n (suc last))) (sym e) (subst (λ c. IsFalse (has_begun system run agent host number c)) (sym same) unbegun)) in
          omega (arith, most)

      by_later : (c : ℕ) → c ≡ later → from < later → Passed later
      by_later zero e less = absurd (omega (arith, e, less))
      by_later (suc last) e less = subst Passed e (by_number number refl last e (omega (arith, e, less)))

      by_same : (b : Bool) → nat_eq from later ≡ b → Passed later
      by_same true e = let same : from ≡ later = grind (arith, tests, e) in subst Passed same (omega arith)
      by_same false e = by_later later refl (grind (arith, tests, e, low))

pub more_may_pass : (few more : ℕ) (system : System) (run : Run) (agent end : ℕ) → few ≤ more → IsPassedByFew few system run agent end → IsPassedByFew more system run agent end
more_may_pass few more system run agent end less passed from later host number low high is_host waiting unbegun =
    let all = passed from later host number low high is_host waiting unbegun in omega (arith, all, less)
