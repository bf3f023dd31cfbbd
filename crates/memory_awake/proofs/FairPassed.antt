-- How many commands of others end behind an arbiter, and begin there while a host asks.
use Rattle.std.proofs.Common.{ℕ, zero, suc, ◌<◌, ◌≤◌, ◌≡◌, ◌+◌, Bool, true, false, not, ◌&&◌, List, ◌++◌, nat_eq, if◌then◌else◌, arith, refl, sym, ap, subst, ◌∙◌, tests, IsTrue, IsFalse, Option, Some, None}
use Rattle.std.specs.Prelude.{MatchOption, is_none}
use Rattle.std.proofs.lemmas.Bool.{and_parts, both_ways}
use Rattle.histories.specs.History.{only_if, one_if}
use Rattle.histories.specs.Turns.{Round}
use Rattle.memory_runs.specs.Views.{System}
use Rattle.memory_runs.specs.Commands.{shows}
use Rattle.memory_machines.specs.Link.{Port, takes, marked_at, closes}
use Rattle.memory_machines.specs.Lines.{TaggedPort, Group, groups_of, target_of}
use Rattle.memory_machines.specs.Turns.{choice_of, chosen, Grant, grant_before, open_after, asks_at, ends_at, seats_of, begins_at, others_begun, IsKeptAsking}
use Rattle.memory_parts.specs.Steps.{IsArbiterPart}
use Rattle.memory_awake.proofs.Bits.{no_true, takes_shows}
use Rattle.memory_awake.proofs.Arbiter.{TurnLaws, chosen_asks}
use Rattle.memory_awake.proofs.FairOthers.{endings}
use Rattle.memory_awake.proofs.FairWindow.{taken_in}

-- 1 where a command of another host is open
abbrev open_other : ℕ → Option ℕ → ℕ
open_other host None = 0
open_other host (Some k) = one_if (not (nat_eq k host))

-- one cycle: what ends was open, or begins
one_cycle : (host : ℕ) (open_host : Option ℕ) (asks ends : ℕ → Bool) (round : Round) (shown taken closing : Bool) (tag : ℕ) →
    MatchOption (choice_of open_host asks round).host (IsFalse shown) (λ k. IsTrue shown × (tag ≡ k)) → (IsTrue taken → IsTrue shown) → (IsTrue shown → ends tag ≡ (taken && closing)) →
    one_if (taken && (closing && not (nat_eq tag host))) + open_other host (open_after open_host (choice_of open_host asks round).host ends)
    ≤ one_if (is_none open_host && shown && not (nat_eq tag host)) + open_other host open_host
one_cycle host None asks ends round shown taken closing tag turn seen closed = by_choice (choice_of None asks round).host turn
  where
    by_end : (t c o e : Bool) → e ≡ (t && c) → one_if (t && (c && o)) + open_other host (if e then None else Some tag) ≤ one_if o → one_if (t && (c && o)) + open_other host (if e then None else Some tag) ≤ one_if o + 0
    by_end t c o e same few = omega (arith, few)

    counted : (t c e : Bool) → e ≡ (t && c) → one_if (t && (c && not (nat_eq tag host))) + open_other host (if e then None else Some tag) ≤ one_if (not (nat_eq tag host))
    counted true true true same = by_other (not (nat_eq tag host))
      where
        by_other : (o : Bool) → one_if o + 0 ≤ one_if o
        by_other o = omega arith
    counted true true false same = absurd cc
    counted true false true same = absurd cc
    counted true false false same = omega arith
    counted false c true same = absurd cc
    counted false c false same = omega arith

    by_choice : (choice : Option ℕ) → MatchOption choice (IsFalse shown) (λ k. IsTrue shown × (tag ≡ k)) →
        one_if (taken && (closing && not (nat_eq tag host))) + open_other host (open_after None choice ends) ≤ one_if (true && shown && not (nat_eq tag host)) + 0
    by_choice None none = let nothing : taken ≡ false = not_taken taken seen in rw (nothing, none) (omega arith)
      where
        not_taken : (t : Bool) → (IsTrue t → IsTrue shown) → t ≡ false
        not_taken true go = absurd (both_ways shown none (go refl))
        not_taken false go = refl
    by_choice (Some k) some =
        subst (λ x. one_if (taken && (closing && not (nat_eq tag host))) + open_other host (if ends x then None else Some x) ≤ one_if (true && shown && not (nat_eq tag host)) + 0) some.1
        (subst (λ s. one_if (taken && (closing && not (nat_eq tag host))) + open_other host (if ends tag then None else Some tag) ≤ one_if (true && s && not (nat_eq tag host)) + 0) (sym some.0)
        (by_end taken closing (not (nat_eq tag host)) (ends tag) (closed some.0) (counted taken closing (ends tag) (closed some.0))))
one_cycle host (Some k) asks ends round shown taken closing tag turn seen closed = by_ask (asks k) turn
  where
    counted : (t c e : Bool) → e ≡ (t && c) → one_if (t && (c && not (nat_eq k host))) + open_other host (if e then None else Some k) ≤ one_if (not (nat_eq k host))
    counted true true true same = omega arith
    counted true true false same = absurd cc
    counted true false true same = absurd cc
    counted true false false same = omega arith
    counted false c true same = absurd cc
    counted false c false same = omega arith

    by_ask : (b : Bool) → MatchOption (if b then Some k else None) (IsFalse shown) (λ k. IsTrue shown × (tag ≡ k)) →
        one_if (taken && (closing && not (nat_eq tag host))) + open_other host (open_after (Some k) (if b then Some k else None) ends) ≤ 0 + one_if (not (nat_eq k host))
    by_ask false none = let nothing : taken ≡ false = not_taken taken seen in rw nothing (omega arith)
      where
        not_taken : (t : Bool) → (IsTrue t → IsTrue shown) → t ≡ false
        not_taken true go = absurd (both_ways shown none (go refl))
        not_taken false go = refl
    by_ask true some =
        let few = subst (λ x. one_if (taken && (closing && not (nat_eq x host))) + open_other host (if ends k then None else Some k) ≤ one_if (not (nat_eq k host))) (sym some.1)
        (counted taken closing (ends k) (subst (λ x. ends x ≡ (taken && closing)) some.1 (closed some.0))) in
        omega (arith, few)

module _ (laws : TurnLaws) (system : System) (agent : ℕ) (up : ℕ → Port) (down : TaggedPort) (end : ℕ) (arbiter : IsArbiterPart system agent up down end) (host : ℕ) where
  abbrev grant_at : ℕ → Grant
  grant_at c = grant_before (seats_of system agent) up down.port c

  abbrev groups_in : ℕ → ℕ → List Group
  groups_in c size = groups_of (target_of system agent) down.shape (taken_in down.port c size)

  -- the host that is chosen, by its own number
  turn_at : (c : ℕ) → c < end → MatchOption (chosen (grant_at c) (asks_at up c)).host (IsFalse (shows down.port.commands.signals c)) (λ k. IsTrue (shows down.port.commands.signals c) × (down.port.commands.tag c ≡ k) × (k < system.hosts))
  turn_at c low = by_choice (chosen (grant_at c) (asks_at up c)).host refl (arbiter.turns c low)
    where
      by_choice : (choice : Option ℕ) → (chosen (grant_at c) (asks_at up c)).host ≡ choice →
          MatchOption choice (IsFalse (shows down.port.commands.signals c)) (λ k. IsTrue (shows down.port.commands.signals c) × (down.port.commands.tag c ≡ (up k).commands.tag c)) →
          MatchOption choice (IsFalse (shows down.port.commands.signals c)) (λ k. IsTrue (shows down.port.commands.signals c) × (down.port.commands.tag c ≡ k) × (k < system.hosts))
      by_choice None e shown = shown
      by_choice (Some k) e shown =
          let asked = chosen_asks laws (grant_at c).open_host (asks_at up c) (grant_at c).round k e in
          (shown.0, shown.1 ∙ arbiter.own_tag k c low asked, (arbiter.joined k c low asked).0)

  -- what closes is told below
  closed_at : (c : ℕ) → c < end → IsTrue (shows down.port.commands.signals c) → ends_at up down.port c (down.port.commands.tag c) ≡ (takes down.port c && closes (marked_at down.port c))
  closed_at c low shown = by_take (takes down.port c) refl
    where
      there : (choice : Option ℕ) → MatchOption choice (IsFalse (shows down.port.commands.signals c)) (λ k. IsTrue (shows down.port.commands.signals c) × (down.port.commands.tag c ≡ k) × (k < system.hosts)) → down.port.commands.tag c < system.hosts
      there None none = absurd (both_ways (shows down.port.commands.signals c) none shown)
      there (Some k) some = subst (λ x. x < system.hosts) (sym some.1) some.2

      by_take : (t : Bool) → takes down.port c ≡ t → (t && closes (marked_at (up (down.port.commands.tag c)) c)) ≡ (t && closes (marked_at down.port c))
      by_take false e = refl
      by_take true e = ap closes (arbiter.same (down.port.commands.tag c) c (there (chosen (grant_at c) (asks_at up c)).host (turn_at c low)) low refl e)

  weaker : (choice : Option ℕ) (c : ℕ) → MatchOption choice (IsFalse (shows down.port.commands.signals c)) (λ k. IsTrue (shows down.port.commands.signals c) × (down.port.commands.tag c ≡ k) × (k < system.hosts)) →
      MatchOption choice (IsFalse (shows down.port.commands.signals c)) (λ k. IsTrue (shows down.port.commands.signals c) × (down.port.commands.tag c ≡ k))
  weaker None c none = none
  weaker (Some k) c some = (some.0, some.1)

  -- commands that end in a window begin in it, but for one
  ended : (c size : ℕ) → c + size ≤ end → endings host (groups_in c size) + open_other host (grant_at (c + size)).open_host ≤ others_begun (seats_of system agent) up down.port host c size + open_other host (grant_at c).open_host
  ended c zero fit = let same : c + zero ≡ c = omega arith in subst (λ n. 0 + open_other host (grant_at n).open_host ≤ 0 + open_other host (grant_at c).open_host) (sym same) (omega arith)
  ended c (suc size) fit =
      let low : c < end = omega (arith, fit) in
      let more = ended (suc c) size (omega (arith, fit)) in
      let here = one_cycle host (grant_at c).open_host (asks_at up c) (ends_at up down.port c) (grant_at c).round (shows down.port.commands.signals c) (takes down.port c) (closes (marked_at down.port c)) (down.port.commands.tag c)
      (weaker (chosen (grant_at c) (asks_at up c)).host c (turn_at c low)) (takes_shows down.port c) (closed_at c low) in
      let first = by_take (takes down.port c) in
      let same : c + suc size ≡ suc c + size = omega arith in
      subst (λ n. endings host (groups_in c (suc size)) + open_other host (grant_at n).open_host ≤ others_begun (seats_of system agent) up down.port host c (suc size) + open_other host (grant_at c).open_host) (sym same)
      (omega (arith, more, here, first))
    where
      by_take : (t : Bool) → endings host (groups_of (target_of system agent) down.shape (only_if t (marked_at down.port c) ++ taken_in down.port (suc c) size))
          ≡ one_if (t && (closes (marked_at down.port c) && not (nat_eq (down.port.commands.tag c) host))) + endings host (groups_in (suc c) size)
      by_take true = refl
      by_take false = omega arith

  pub ended_few : (c size : ℕ) → c + size ≤ end → endings host (groups_in c size) ≤ others_begun (seats_of system agent) up down.port host c size + 1
  ended_few c size fit = let all = ended c size fit in let one = at_most_one (grant_at c).open_host in omega (arith, all, one)
    where
      at_most_one : (o : Option ℕ) → open_other host o ≤ 1
      at_most_one None = omega arith
      at_most_one (Some k) = by_other (not (nat_eq k host))
        where
          by_other : (b : Bool) → one_if b ≤ 1
          by_other true = omega arith
          by_other false = omega arith

  -- ---- while a host asks and isn't taken

  pub begun_split : (c one two : ℕ) → others_begun (seats_of system agent) up down.port host c (one + two) ≡ others_begun (seats_of system agent) up down.port host c one + others_begun (seats_of system agent) up down.port host (c + one) two
  begun_split c zero two =
      let none : zero + two ≡ two = omega arith in
      let same : c ≡ c + zero = omega arith in
      ap (others_begun (seats_of system agent) up down.port host c) none ∙ ap (λ n. others_begun (seats_of system agent) up down.port host n two) same ∙ (let it : (m : ℕ) → m ≡ 0 + m = λ m. omega arith in it (others_begun (seats_of system agent) up down.port host (c + zero) two))
  begun_split c (suc one) two =
      let more = begun_split (suc c) one two in
      let long : suc one + two ≡ suc (one + two) = omega arith in
      let same : suc c + one ≡ c + suc one = omega arith in
      let moved = ap (λ n. others_begun (seats_of system agent) up down.port host n two) same in
      let whole = ap (others_begun (seats_of system agent) up down.port host c) long in
      omega (arith, more, moved, whole)

  pub one_a_cycle : (c size : ℕ) → others_begun (seats_of system agent) up down.port host c size ≤ size
  one_a_cycle c zero = omega arith
  one_a_cycle c (suc size) = let more = one_a_cycle (suc c) size in let one = at_most (begins_at (seats_of system agent) up down.port (λ tag. not (nat_eq tag host)) c) in omega (arith, more, one)
    where
      at_most : (b : Bool) → one_if b ≤ 1
      at_most true = omega arith
      at_most false = omega arith

  -- its open command stays open, and no other begins
  none_begins : (c size : ℕ) → c + size ≤ end → (grant_at c).open_host ≡ Some host → ((k : ℕ) → c ≤ k → k < c + size → down.port.commands.tag k ≡ host → IsFalse (takes down.port k)) →
      others_begun (seats_of system agent) up down.port host c size ≡ 0
  none_begins c zero fit open_one untaken = refl
  none_begins c (suc size) fit open_one untaken =
      let low : c < end = omega (arith, fit) in
      let stays : (grant_at (suc c)).open_host ≡ Some host =
      subst (λ o. open_after o (choice_of o (asks_at up c) (grant_at c).round).host (ends_at up down.port c) ≡ Some host) (sym open_one) (by_ask (asks_at up c host) (subst (λ o. MatchOption (choice_of o (asks_at up c) (grant_at c).round).host (IsFalse (shows down.port.commands.signals c)) (λ k. IsTrue (shows down.port.commands.signals c) × (down.port.commands.tag c ≡ k) × (k < system.hosts))) open_one (turn_at c low))) in
      let more = none_begins (suc c) size (omega (arith, fit)) stays (λ k from high tag. untaken k (omega (arith, from)) (omega (arith, high)) tag) in
      let here : is_none (grant_at c).open_host ≡ false = ap is_none open_one in
      let first = ap (λ b. one_if (b && shows down.port.commands.signals c && not (nat_eq (down.port.commands.tag c) host))) here in
      omega (arith, more, first)
    where
      by_ask : (b : Bool) → MatchOption (if b then Some host else None) (IsFalse (shows down.port.commands.signals c)) (λ k. IsTrue (shows down.port.commands.signals c) × (down.port.commands.tag c ≡ k) × (k < system.hosts)) →
          open_after (Some host) (if b then Some host else None) (ends_at up down.port c) ≡ Some host
      by_ask false none = refl
      by_ask true some = let none = untaken c (omega arith) (omega arith) some.1 in rw none refl

  -- a command of the host that begins, and isn't taken, is open in the next cycle
  opens : (c : ℕ) → c < end → IsTrue (begins_at (seats_of system agent) up down.port (nat_eq host) c) → (down.port.commands.tag c ≡ host → IsFalse (takes down.port c)) → ((grant_at (suc c)).open_host ≡ Some host) × (nat_eq (down.port.commands.tag c) host ≡ true)
  opens c low begins untaken = by_open (grant_at c).open_host refl outer.1 (and_parts (is_none (grant_at c).open_host) (shows down.port.commands.signals c) outer.0)
    where
      outer : IsTrue (is_none (grant_at c).open_host && shows down.port.commands.signals c) × IsTrue (nat_eq host (down.port.commands.tag c))
      outer = and_parts (is_none (grant_at c).open_host && shows down.port.commands.signals c) (nat_eq host (down.port.commands.tag c)) begins

      by_open : (o : Option ℕ) → (grant_at c).open_host ≡ o → IsTrue (nat_eq host (down.port.commands.tag c)) → IsTrue (is_none (grant_at c).open_host) × IsTrue (shows down.port.commands.signals c) →
          ((grant_at (suc c)).open_host ≡ Some host) × (nat_eq (down.port.commands.tag c) host ≡ true)
      by_open (Some k) e own parts = absurd (no_true (sym (ap is_none e) ∙ parts.0))
      by_open None e own parts =
          let tag : down.port.commands.tag c ≡ host = grind (arith, tests, own) in (
            subst (λ o. open_after o (choice_of o (asks_at up c) (grant_at c).round).host (ends_at up down.port c) ≡ Some host) (sym e)
                (by_choice parts.1 tag (choice_of None (asks_at up c) (grant_at c).round).host (subst (λ o. MatchOption (choice_of o (asks_at up c) (grant_at c).round).host (IsFalse (shows down.port.commands.signals c)) (λ k. IsTrue (shows down.port.commands.signals c) × (down.port.commands.tag c ≡ k) × (k < system.hosts))) e (turn_at c low))),
            grind (arith, tests, tag),
          )
        where
          by_choice : IsTrue (shows down.port.commands.signals c) → down.port.commands.tag c ≡ host → (choice : Option ℕ) →
              MatchOption choice (IsFalse (shows down.port.commands.signals c)) (λ k. IsTrue (shows down.port.commands.signals c) × (down.port.commands.tag c ≡ k) × (k < system.hosts)) → open_after None choice (ends_at up down.port c) ≡ Some host
          by_choice shown tag None none = absurd (both_ways (shows down.port.commands.signals c) none shown)
          by_choice shown tag (Some k) some =
              let same : k ≡ host = sym some.1 ∙ tag in
              let none = untaken tag in
              rw none (ap Some same)

  module _ (most : ℕ) (few : (from size : ℕ) → from + size ≤ end → IsKeptAsking (seats_of system agent) up down.port host from size → others_begun (seats_of system agent) up down.port host from size ≤ most) where
    -- until its command begins it is passed by few, and from then on by none
    passed : (from before size : ℕ) → (from + before) + size ≤ end → IsKeptAsking (seats_of system agent) up down.port host from before →
        ((c : ℕ) → from ≤ c → c < (from + before) + size → IsTrue (asks_at up c host)) → ((c : ℕ) → from ≤ c → c < (from + before) + size → down.port.commands.tag c ≡ host → IsFalse (takes down.port c)) →
        others_begun (seats_of system agent) up down.port host from (before + size) ≤ most
    passed from before zero fit kept asks untaken = let same : before + zero ≡ before = omega arith in subst (λ n. others_begun (seats_of system agent) up down.port host from n ≤ most) (sym same) (few from before (omega (arith, fit)) kept)
    passed from before (suc size) fit kept asks untaken =
        by_begin (λ k. let long : before + suc size ≡ suc before + size = omega arith in
        subst (λ n. others_begun (seats_of system agent) up down.port host from n ≤ most) (sym long) (passed from (suc before) size (omega (arith, fit)) k (λ c low high. asks c low (omega (arith, high))) (λ c low high. untaken c low (omega (arith, high)))))
        (begins_at (seats_of system agent) up down.port (nat_eq host) (from + before)) refl
      where
        by_begin : (IsKeptAsking (seats_of system agent) up down.port host from (suc before) → others_begun (seats_of system agent) up down.port host from (before + suc size) ≤ most) →
            (b : Bool) → begins_at (seats_of system agent) up down.port (nat_eq host) (from + before) ≡ b → others_begun (seats_of system agent) up down.port host from (before + suc size) ≤ most
        by_begin go true e =
            let now = opens (from + before) (omega (arith, fit)) e (untaken (from + before) (omega arith) (omega arith)) in
            let rest = none_begins (suc (from + before)) size (omega (arith, fit)) now.0 (λ k low high. untaken k (omega (arith, low)) (omega (arith, high))) in
            let split = begun_split from before (suc size) in
            let first = few from before (omega (arith, fit)) kept in
            let own = by_tag (is_none (grant_at (from + before)).open_host) (shows down.port.commands.signals (from + before)) (nat_eq (down.port.commands.tag (from + before)) host) now.1 in
            omega (arith, rest, split, first, own)
          where
            by_tag : (a s t : Bool) → t ≡ true → one_if (a && s && not t) ≡ 0
            by_tag a s false t = absurd cc
            by_tag true true true t = refl
            by_tag true false true t = refl
            by_tag false s true t = refl
        by_begin go false e = go (λ c low high. by_last c low (nat_eq c (from + before)) refl high)
          where
            by_last : (c : ℕ) → from ≤ c → (b : Bool) → nat_eq c (from + before) ≡ b → c < from + suc before → IsTrue (asks_at up c host) × IsFalse (begins_at (seats_of system agent) up down.port (nat_eq host) c)
            by_last c low true e' high = let same : c ≡ from + before = grind (arith, tests, e') in (asks c low (omega (arith, same)), subst (λ n. IsFalse (begins_at (seats_of system agent) up down.port (nat_eq host) n)) (sym same) e)
            by_last c low false e' high = let less : c < from + before = grind (arith, tests, e', high) in kept c low less

    pub passed_while_asking : (from size : ℕ) → from + size ≤ end → ((c : ℕ) → from ≤ c → c < from + size → IsTrue (asks_at up c host)) →
        ((c : ℕ) → from ≤ c → c < from + size → down.port.commands.tag c ≡ host → IsFalse (takes down.port c)) → others_begun (seats_of system agent) up down.port host from size ≤ most
    passed_while_asking from size fit asks untaken =
        let none : zero + size ≡ size = omega arith in
        subst (λ n. others_begun (seats_of system agent) up down.port host from n ≤ most) none
        (passed from zero size (omega (arith, fit)) (λ c low high. absurd (omega (arith, low, high))) (λ c low high. asks c low (omega (arith, high))) (λ c low high. untaken c low (omega (arith, high))))
