-- The unanswered reads of an agent, by a count where all bear one tag, or by a queue.
use Rattle.std.proofs.Common.{◌≡◌, ℕ, zero, suc, ◌+◌, ◌-◌, ◌<◌, ◌≤◌, Bool, true, false, nat_eq, if◌then◌else◌, List, [], ◌∷◌, ◌++◌, length, refl, sym, ap, ◌∙◌, append-nil, arith}
use Rattle.histories.specs.History.{is_raised, one_if, only_if}
use Rattle.netlist.specs.Runs.{Run, cycle_of}
use Rattle.memory_machines.specs.Link.{Port}
use Rattle.memory_parts.specs.Queue.{Entry, answered, head_tag, takes_read, entry_at, queue_after}
use Rattle.read_queues.specs.declared.queue.ReadTraffic.{ReadTraffic}
use Rattle.read_queues.specs.Held.{entry_in}
use Rattle.read_queues.specs.Queues.{queue_in}

abbrev pub one_word : ℕ → Entry
one_word tag = record { tag = tag; left = 1 }

abbrev pub words_of : ℕ → ℕ → List Entry
words_of tag zero = []
words_of tag (suc n) = one_word tag ∷ words_of tag n

pub words_count : (tag n : ℕ) → length (words_of tag n) ≡ n
words_count tag zero = refl
words_count tag (suc n) = ap suc (words_count tag n)

pub words_tag : (tag n : ℕ) → 0 < length (words_of tag n) → tag ≡ head_tag (words_of tag n)
words_tag tag zero some = absurd (omega arith)
words_tag tag (suc n) some = refl

words_answered : (tag : ℕ) (came : Bool) (n : ℕ) → answered came (words_of tag n) ≡ words_of tag (n - one_if came)
words_answered tag true zero = refl
words_answered tag false zero = refl
words_answered tag true (suc n) = ap (words_of tag) (let less : n ≡ suc n - 1 = omega arith in less)
words_answered tag false (suc n) = ap (words_of tag) (let same : suc n ≡ suc n - 0 = omega arith in same)

one_more : (tag n : ℕ) → words_of tag n ++ one_word tag ∷ [] ≡ words_of tag (suc n)
one_more tag zero = refl
one_more tag (suc n) = ap (λ (xs : List Entry). one_word tag ∷ xs) (one_more tag n)

words_taken : (tag : ℕ) (taken : Bool) (n : ℕ) → words_of tag n ++ only_if taken (one_word tag) ≡ words_of tag (n + one_if taken)
words_taken tag true n = one_more tag n ∙ ap (words_of tag) (let more : suc n ≡ n + 1 = omega arith in more)
words_taken tag false n = append-nil (words_of tag n) ∙ ap (words_of tag) (let none : n ≡ n + 0 = omega arith in none)

only_same : (takes : Bool) (x y : Entry) → (takes ≡ true → x ≡ y) → only_if takes y ≡ only_if takes x
only_same true x y e = ap (λ (z : Entry). z ∷ []) (sym (e refl))
only_same false x y e = refl

pub words_next : (tag u next : ℕ) (came taken takes : Bool) (entry : Entry) → takes ≡ taken → (takes ≡ true → entry ≡ one_word tag) → next ≡ (u - one_if came) + one_if taken → words_of tag next ≡ answered came (words_of tag u) ++ only_if takes entry
words_next tag u next came taken takes entry e f is =
    ap (words_of tag) is ∙ sym (words_taken tag taken (u - one_if came)) ∙ ap (λ (xs : List Entry). xs ++ only_if taken (one_word tag)) (sym (words_answered tag came u))
    ∙ ap (λ t. answered came (words_of tag u) ++ only_if t (one_word tag)) (sym e) ∙ ap (λ (xs : List Entry). answered came (words_of tag u) ++ xs) (only_same takes entry (one_word tag) f)

-- ---- a queue

-- the reads that were taken and aren't answered as a cycle begins
abbrev pub queue_at : Port → (ℕ → ℕ) → ℕ → List Entry
queue_at port valid zero = []
queue_at port valid (suc c) = queue_after port valid (queue_at port valid c) c

-- the traffic of a queue that takes the reads of a port
pub queue_same : (port : Port) (valid : ℕ → ℕ) (traffic : ReadTraffic) (run : Run) (end : ℕ) → ((c : ℕ) → c < end → is_raised (valid c) ≡ is_raised (run.net c traffic.valid.number)) → ((c : ℕ) → c < end → takes_read port c ≡ is_raised (run.net c traffic.taken.number)) →
    ((c : ℕ) → c < end → takes_read port c ≡ true → entry_at port c ≡ entry_in traffic (cycle_of run c)) → (c : ℕ) → c ≤ end → queue_at port valid c ≡ queue_in traffic run c
queue_same port valid traffic run end words takes entries zero le = refl
queue_same port valid traffic run end words takes entries (suc c) le =
    let lt : c < end = omega (arith, le) in
    let here = queue_same port valid traffic run end words takes entries c (omega (arith, le)) in
    ap (λ t. answered t (queue_at port valid c) ++ only_if (takes_read port c) (entry_at port c)) (words c lt)
    ∙ ap (λ (xs : List Entry). answered (is_raised (run.net c traffic.valid.number)) xs ++ only_if (takes_read port c) (entry_at port c)) here
    ∙ ap (λ (xs : List Entry). answered (is_raised (run.net c traffic.valid.number)) (queue_in traffic run c) ++ xs) (sym (only_same (takes_read port c) (entry_at port c) (entry_in traffic (cycle_of run c)) (entries c lt)))
    ∙ ap (λ t. answered (is_raised (run.net c traffic.valid.number)) (queue_in traffic run c) ++ only_if t (entry_in traffic (cycle_of run c))) (takes c lt)

-- ---- one tag

-- each read bears it
abbrev pub BearTag : ℕ → List Entry → Type 0
BearTag tag [] = Unit {0}
BearTag tag (e ∷ later) = (e.tag ≡ tag) × BearTag tag later

bear_rest : (tag : ℕ) (last : Bool) (e : Entry) (later : List Entry) → e.tag ≡ tag → BearTag tag later → BearTag tag (if last then later else record { tag = e.tag; left = e.left - 1 } ∷ later)
bear_rest tag true e later here h = h
bear_rest tag false e later here h = (here, h)

bear_answered : (tag : ℕ) (came : Bool) (queue : List Entry) → BearTag tag queue → BearTag tag (answered came queue)
bear_answered tag came [] h = tt
bear_answered tag true (e ∷ later) h = bear_rest tag (nat_eq e.left 1) e later h.0 h.1
bear_answered tag false (e ∷ later) h = h

bear_taken : (tag : ℕ) (taken : Bool) (queue : List Entry) (e : Entry) → BearTag tag queue → e.tag ≡ tag → BearTag tag (queue ++ only_if taken e)
bear_taken tag true [] e h here = (here, tt)
bear_taken tag false [] e h here = tt
bear_taken tag taken (x ∷ later) e h here = (h.0, bear_taken tag taken later e h.1 here)

pub queue_bears : (port : Port) (valid : ℕ → ℕ) (tag : ℕ) → ((c : ℕ) → port.commands.tag c ≡ tag) → (c : ℕ) → BearTag tag (queue_at port valid c)
queue_bears port valid tag one zero = tt
queue_bears port valid tag one (suc c) =
    bear_taken tag (takes_read port c) (answered (is_raised (valid c)) (queue_at port valid c)) (entry_at port c) (bear_answered tag (is_raised (valid c)) (queue_at port valid c) (queue_bears port valid tag one c)) (one c)

pub head_bears : (tag : ℕ) (queue : List Entry) → BearTag tag queue → 0 < length queue → tag ≡ head_tag queue
head_bears tag [] h some = absurd (omega arith)
head_bears tag (e ∷ later) h some = sym h.0
