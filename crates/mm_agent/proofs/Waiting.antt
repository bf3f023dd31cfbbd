-- For how long a beat has stood, by a register that doesn't rise above its largest value.
use Rattle.std.proofs.Common.{◌≡◌, ℕ, zero, suc, ◌+◌, ◌-◌, ◌^◌, ◌%◌, ◌<◌, ◌≤◌, min, Bool, true, false, not, ◌&&◌, ◌||◌, nat_eq, if◌then◌else◌, Option, Some, None, refl, sym, ap, ◌∙◌, arith}
use Rattle.std.proofs.lemmas.Bool.{eqb-true, eqb-false, ne_eqb}
use Rattle.std.proofs.Math.Nat.{mod-eq_of_lt}
use Rattle.histories.specs.History.{is_raised}
use Rattle.iface_roles.specs.declared.records.AgentPort.{AgentPort}
use Rattle.netlist.specs.Nets.{NetValue}
use Rattle.netlist.specs.Netlists.{Netlist}
use Rattle.netlist.specs.Runs.{Always}
use Rattle.net_parts.specs.Nets.{IsBit}
use Rattle.net_parts.specs.Laws.{bit_fits}
use Rattle.command_nets.specs.Ports.{HasNet, value_or}
use Rattle.command_nets.specs.Levels.{bit_same, one_fits}
use Rattle.mm_agent.specs.declared.waits.HeldWait.{HeldWait}
use Rattle.mm_agent.specs.declared.waits.HeldWait.TheVariants.{Given, Soon, Counts}
use Rattle.mm_agent.specs.Agents.{AcceptsAtOnce}
use Rattle.mm_agent.specs.Waits.{stood_next, IsWaitHeld}

-- ---- a count that stops at its largest value

-- below the largest value it is the same
pub eq_capped : (a w top : ℕ) → w < top → nat_eq (min a top) w ≡ nat_eq a w
eq_capped a w top h = by_case (nat_eq a w) refl
  where
    by_case : (t : Bool) → nat_eq a w ≡ t → nat_eq (min a top) w ≡ t
    by_case true e = (let same = eqb-true a w e in let low : min a top ≡ a = omega arith in ap (λ n. nat_eq n w) low ∙ e)
    by_case false e = (let apart = eqb-false a w e in ne_eqb (min a top) w (λ f. absurd (omega (arith, f, apart))))

capped_next : (stands : Bool) (a top : ℕ) → (if stands then min (min a top + 1) top else 0) ≡ min (if stands then a + 1 else 0) top
capped_next true a top = omega arith
capped_next false a top = omega arith

pub stood_capped : (wait : ℕ → ℕ) (shows : ℕ → Bool) (r a : ℕ → ℕ) (top : ℕ) → ((c : ℕ) → wait c < top) → r 0 ≡ 0 → a 0 ≡ 0 →
    ((c : ℕ) → r (suc c) ≡ (if shows c && not (nat_eq (r c) (wait c)) then min (r c + 1) top else 0)) →
    ((c : ℕ) → a (suc c) ≡ (if shows c && not (nat_eq (a c) (wait c)) then a c + 1 else 0)) → (c : ℕ) → r c ≡ min (a c) top
stood_capped wait shows r a top few r0 a0 next more zero = omega (arith, r0, a0)
stood_capped wait shows r a top few r0 a0 next more (suc c) =
    let here : r c ≡ min (a c) top = stood_capped wait shows r a top few r0 a0 next more c in
    let same : nat_eq (r c) (wait c) ≡ nat_eq (a c) (wait c) = ap (λ n. nat_eq n (wait c)) here ∙ eq_capped (a c) (wait c) top (few c) in
    next c
    ∙ ap (λ t. if shows c && not t then min (r c + 1) top else 0) same
    ∙ ap (λ n. if shows c && not (nat_eq (a c) (wait c)) then min (n + 1) top else 0) here
    ∙ capped_next (shows c && not (nat_eq (a c) (wait c))) (a c) top
    ∙ ap (λ n. min n top) (sym (more c))

pub still_none : (wait : ℕ → ℕ) (shows : ℕ → Bool) (a : ℕ → ℕ) → a 0 ≡ 0 → ((c : ℕ) → (shows c && not (nat_eq 0 (wait c))) ≡ false) →
    ((c : ℕ) → a (suc c) ≡ (if shows c && not (nat_eq (a c) (wait c)) then a c + 1 else 0)) → (c : ℕ) → a c ≡ 0
still_none wait shows a a0 soon next zero = a0
still_none wait shows a a0 soon next (suc c) =
    let here : a c ≡ 0 = still_none wait shows a a0 soon next c in
    next c
    ∙ ap (λ n. if shows c && not (nat_eq n (wait c)) then a c + 1 else 0) here
    ∙ ap (λ t. if t then a c + 1 else 0) (soon c)

-- a sum that stops at the largest value of so many bits
risen_is : (w stood others rises more risen : ℕ) → 1 ≤ w → stood < 2 ^ w → others ≡ 2 ^ w - 1 - stood → rises ≡ (if nat_eq others 0 then 0 else 1) → more ≡ rises % 2 ^ w → risen ≡ (stood + more) % 2 ^ w → risen ≡ min (stood + 1) (2 ^ w - 1)
risen_is w stood others rises more risen bit fits e1 e2 e3 e4 = by_case (nat_eq others 0) refl
  where
    by_case : (t : Bool) → nat_eq others 0 ≡ t → risen ≡ min (stood + 1) (2 ^ w - 1)
    by_case true e =
        (let two = one_fits w bit in
        let top = eqb-true others 0 e in
        let none : rises ≡ 0 = e2 ∙ ap (λ t. if t then 0 else 1) e in
        let more_is : more ≡ rises = e3 ∙ mod-eq_of_lt (omega (arith, two, none)) in
        let sum : risen ≡ stood + more = e4 ∙ mod-eq_of_lt (omega (arith, fits, none, more_is)) in
        omega (arith, sum, more_is, none, top, e1, fits))
    by_case false e =
        (let two = one_fits w bit in
        let room = eqb-false others 0 e in
        let one : rises ≡ 1 = e2 ∙ ap (λ t. if t then 0 else 1) e in
        let more_is : more ≡ rises = e3 ∙ mod-eq_of_lt (omega (arith, two, one)) in
        let sum : risen ≡ stood + more = e4 ∙ mod-eq_of_lt (omega (arith, fits, one, more_is, room, e1)) in
        omega (arith, sum, more_is, one, room, e1, fits))

pub next_capped : (w s stood others rises more risen none next : ℕ) → 1 ≤ w → stood < 2 ^ w → s < 2 → others ≡ 2 ^ w - 1 - stood → rises ≡ (if nat_eq others 0 then 0 else 1) →
    more ≡ rises % 2 ^ w → risen ≡ (stood + more) % 2 ^ w → none ≡ 0 → next ≡ (if nat_eq s 0 then none else risen) → next ≡ stood_next w (is_raised s) stood
next_capped w zero stood others rises more risen none next bit fits small e1 e2 e3 e4 e5 e6 = e6 ∙ e5
next_capped w (suc zero) stood others rises more risen none next bit fits small e1 e2 e3 e4 e5 e6 = e6 ∙ risen_is w stood others rises more risen bit fits e1 e2 e3 e4
next_capped w (suc (suc s)) stood others rises more risen none next bit fits small e1 e2 e3 e4 e5 e6 = absurd (omega arith)

-- ---- times

pub time_is : (writes : Bool) (write r w rn wn time : ℕ) → writes ≡ true → write < 2 → rn ≡ r → wn ≡ w → time ≡ (if nat_eq write 0 then rn else wn) → time ≡ (if is_raised (if writes then write else 0) then w else r)
time_is true zero r w rn wn time e small f g h = h ∙ f
time_is true (suc zero) r w rn wn time e small f g h = h ∙ g
time_is true (suc (suc write)) r w rn wn time e small f g h = absurd (omega arith)
time_is false write r w rn wn time e small f g h = cc

-- no time is longer than the longest
pub longest : (writes : Bool) (write r w long : ℕ) → r ≤ long → (writes ≡ true → w ≤ long) → (if is_raised (if writes then write else 0) then w else r) ≤ long
longest true write r w long e f = by_case (is_raised write)
  where
    by_case : (t : Bool) → (if t then w else r) ≤ long
    by_case true = f refl
    by_case false = e
longest false write r w long e f = e

pub raised_same : (x y over : ℕ) → over ≡ (if nat_eq x y then 1 else 0) → is_raised over ≡ nat_eq x y
raised_same x y over e = ap is_raised e ∙ by_case (nat_eq x y)
  where
    by_case : (t : Bool) → is_raised (if t then 1 else 0) ≡ t
    by_case true = refl
    by_case false = refl

-- ---- waits

not_twice : (t : Bool) → not (not t) ≡ true → t ≡ true
not_twice true e = refl
not_twice false e = cc

zero_of : (n : ℕ) → not (not (nat_eq n 0)) ≡ true → n ≡ 0
zero_of n e = eqb-true n 0 (not_twice (nat_eq n 0) e)

and_first : (a b : Bool) → (a && b) ≡ true → a ≡ true
and_first true b e = refl
and_first false b e = cc

and_second : (a b : Bool) → (a && b) ≡ true → b ≡ true
and_second true b e = e
and_second false b e = cc

and_false : (a b : Bool) → b ≡ false → (a && b) ≡ false
and_false true b e = e
and_false false b e = refl

at_once : (t : Bool) (r w : ℕ) → r ≡ 0 → w ≡ 0 → not (nat_eq 0 (if t then w else r)) ≡ false
at_once true r w e f = ap (λ n. not (nat_eq 0 n)) f
at_once false r w e f = ap (λ n. not (nat_eq 0 n)) e

write_at_once : (t : Bool) (r w : ℕ) → w ≡ 0 → (t && not (nat_eq 0 (if t then w else r))) ≡ false
write_at_once true r w e = ap (λ n. not (nat_eq 0 n)) e
write_at_once false r w e = refl

-- an agent of which no kind waits accepts what it is shown
pub soon_accepted : (reads writes : Bool) (read_wait write_wait read write : ℕ) → (not (writes && not (nat_eq write_wait 0)) && not (reads && not (nat_eq read_wait 0))) ≡ true →
    ((is_raised (if reads then read else 0) || is_raised (if writes then write else 0)) && not (nat_eq 0 (if is_raised (if writes then write else 0) then write_wait else read_wait))) ≡ false
soon_accepted true true r w read write e =
    and_false (is_raised read || is_raised write) _ (at_once (is_raised write) r w (zero_of r (and_second (not (not (nat_eq w 0))) (not (not (nat_eq r 0))) e)) (zero_of w (and_first (not (not (nat_eq w 0))) (not (not (nat_eq r 0))) e)))
soon_accepted true false r w read write e = and_false (is_raised read || false) _ (ap (λ n. not (nat_eq 0 n)) (zero_of r e))
soon_accepted false true r w read write e = write_at_once (is_raised write) r w (zero_of w (and_first (not (not (nat_eq w 0))) true e))
soon_accepted false false r w read write e = refl

pub soon_at_once : (reads writes : Bool) (read_wait write_wait : ℕ) → read_wait ≡ 0 → write_wait ≡ 0 → (not (writes && not (nat_eq write_wait 0)) && not (reads && not (nat_eq read_wait 0))) ≡ true
soon_at_once true true r w e f = ap (λ n. not (not (nat_eq n 0)) && not (not (nat_eq r 0))) f ∙ ap (λ n. not (not (nat_eq n 0))) e
soon_at_once true false r w e f = ap (λ n. not (not (nat_eq n 0))) e
soon_at_once false true r w e f = ap (λ n. not (not (nat_eq n 0)) && true) f
soon_at_once false false r w e f = refl

low_bit : (x : ℕ) → x < 2 → is_raised x ≡ false → x ≡ 0
low_bit x h e = bit_same x 0 h (omega arith) e

-- where no agent without waitrequest waits, it is busy exactly by its waitrequest
pub as_given : (netlist : Netlist) (port : AgentPort) (given : Option NetValue) (write busy : NetValue) (held : HeldWait) → HasNet netlist port.waitrequest 1 given → IsBit netlist busy → IsWaitHeld netlist port given write busy held →
    (port.waitrequest ≡ false → AcceptsAtOnce port) → Always netlist (λ cycle. cycle.net busy.number ≡ value_or 0 given cycle)
as_given netlist port given write busy Given has bit h served cycle v = ap (λ (o : Option NetValue). value_or 0 o cycle) (sym h.is)
as_given netlist port None write busy Soon has bit h served cycle v =
    let once = served has in
    low_bit (cycle.net busy.number) (bit_fits netlist busy bit cycle v) (h.is_busy cycle v ∙ at_once (is_raised (if port.writes then cycle.net write.number else 0)) port.read_wait port.write_wait once.read once.write)
as_given netlist port (Some net) write busy Soon has bit h served cycle v = absurd (let there = has.0 in let none = h.waits in cc)
as_given netlist port given write busy (Counts stood) has bit h served cycle v =
    let once = served h.waits in
    absurd (let soon = soon_at_once port.reads port.writes port.read_wait port.write_wait once.read once.write in let late = h.late in cc)
