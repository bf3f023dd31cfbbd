-- What is unfinished by the numbers of the commands is wanted at the host's port; and what was accepted in time is taken later.
use Rattle.std.proofs.Common.{ℕ, zero, suc, ◌<◌, ◌≤◌, ◌≡◌, ◌+◌, ◌-◌, Bool, true, false, not, ◌||◌, ◌&&◌, List, [], ◌∷◌, ◌++◌, arith, refl, sym, ap, ap₂, subst, ◌∙◌, nat_lt, nat_le, nat_eq, length, map, take, drop, filter, flat_map, zip, IsTrue, IsFalse, tests, inl, inr, ◌⊎◌, if◌then◌else◌, append-nil, append_assoc, length-append, le-leb, lt-ltb, ltb-true, ltb-false, Option, Some, None}
use Rattle.std.proofs.lemmas.Bool.{and_parts, or_parts, or_right, both_ways}
use Rattle.std.specs.List.{list_any, list_all}
use Rattle.memory_runs.specs.Views.{System}
use Rattle.memory_runs.specs.Operations.{Beat}
use Rattle.memory_runs.specs.Commands.{Transfer, read_beats, is_of_reads, reads_among}
use Rattle.memory_runs.specs.Order.{Asked, place_of, is_agent, command_numbers, transfer_operations, for_agent}
use Rattle.memory_runs.specs.Awake.{is_place, up_to, of_command, count_for}
use Rattle.memory_machines.specs.Lines.{asked_among}
use Rattle.histories.specs.History.{is_raised, numbers, only_if, KeepsItems, IsPrefix}
use Rattle.histories.specs.Laws.{shown_is_accepted_and_standing, before_prefix}
use Rattle.memory_runs.specs.Views.{Run, Shape, Signals, Levels, levels_at}
use Rattle.memory_runs.specs.Views.Kind.{Writes}
use Rattle.memory_runs.specs.Commands.{Burst, shows, transfer_at, transfer_of, burst_before, burst_after}
use Rattle.memory_runs.specs.Legal.{IsLegalHost, host_accepts, given, gives_word}
use Rattle.memory_runs.specs.Order.{host_transfers, of_host, taken}
use Rattle.memory_runs.specs.Awake.{is_for, is_oldest, is_finished, are_taken, are_given, are_finished_before, commands_begun, is_given_from}
use Rattle.memory_machines.specs.Lines.{host_accepted}
use Rattle.memory_parts.specs.Steps.{given_before}
use Rattle.memory_awake.specs.Front.{shows_for, are_all_given, owes_next, is_bursting}
use Rattle.memory_runs.specs.Awake.{lacks_beats}
use Rattle.memory_waits.proofs.Bits.{no_true, both}
use Rattle.memory_waits.proofs.Beats.{same_place, place_self, asked_append, next_at, next_here, next_stays, drop_past, some_beat, writes_on}

-- the transfers whose number passes a test; the first one has number `n` if it begins a command, and commands are numbered by their ends
unfoldable pub chosen : (ℕ → Bool) → ℕ → List Transfer → List Transfer
chosen test n [] = []
chosen test n (t ∷ later) = (if test n then t ∷ [] else []) ++ chosen test (if t.ends then n + 1 else n) later

unfoldable pub ends_in : List Transfer → ℕ
ends_in [] = 0
ends_in (t ∷ later) = (if t.ends then 1 else 0) + ends_in later

unfoldable pub begins_in : List Transfer → ℕ
begins_in [] = 0
begins_in (t ∷ later) = (if t.begins then 1 else 0) + begins_in later

unfoldable pub reads_in : List Transfer → ℕ
reads_in [] = 0
reads_in (t ∷ later) = (if is_of_reads t.kind then length t.beats else 0) + reads_in later

abbrev asked_one : Option ℕ → Beat → Asked
asked_one place beat = record { place = place; beat = beat }

module _ (system : System) (host : ℕ) where
  abbrev goes_to : Transfer → Option ℕ
  goes_to t = place_of system host t

  abbrev pub after_one : Option (Option ℕ) → Transfer → Option (Option ℕ)
  after_one opened t = if t.ends then None else Some (goes_to t)

  -- commands that stand together, each at one place. `opened` is the place of the one that is open
  unfoldable pub Steady : Option (Option ℕ) → List Transfer → Type 0
  Steady opened [] = Unit {0}
  Steady None (t ∷ later) = IsTrue t.begins × (IsTrue (is_of_reads t.kind) → IsTrue t.ends) × Steady (after_one None t) later
  Steady (Some p) (t ∷ later) = IsFalse t.begins × IsFalse (is_of_reads t.kind) × (goes_to t ≡ p) × Steady (after_one (Some p) t) later

  unfoldable pub after : Option (Option ℕ) → List Transfer → Option (Option ℕ)
  after opened [] = opened
  after opened (t ∷ later) = after (after_one opened t) later

  steady_end : (opened : Option (Option ℕ)) (ts : List Transfer) (t : Transfer) → Steady opened ts → Steady (after opened ts) (t ∷ []) → Steady opened (ts ++ t ∷ [])
  unfolding Steady after
  steady_end opened [] t s last = last
  steady_end None (x ∷ ts) t s last = (s.0, s.1, steady_end (after_one None x) ts t s.2 last)
  steady_end (Some p) (x ∷ ts) t s last = (s.0, s.1, s.2, steady_end (after_one (Some p) x) ts t s.3 last)

  pub after_end : (opened : Option (Option ℕ)) (ts : List Transfer) (t : Transfer) → after opened (ts ++ t ∷ []) ≡ after_one (after opened ts) t
  unfolding after
  after_end opened [] t = refl
  after_end opened (x ∷ ts) t = after_end (after_one opened x) ts t

  unfoldable pub is_some : Option (Option ℕ) → ℕ
  is_some None = 0
  is_some (Some p) = 1

  pub some_after_one : (opened : Option (Option ℕ)) (t : Transfer) → is_some (after_one opened t) + (if t.ends then 1 else 0) ≡ 1
  unfolding is_some
  some_after_one opened t = by_end t.ends
    where
      by_end : (b : Bool) → is_some (if b then None else Some (goes_to t)) + (if b then 1 else 0) ≡ 1
      by_end true = refl
      by_end false = refl

  pub begins_and_ends : (opened : Option (Option ℕ)) (ts : List Transfer) → Steady opened ts → begins_in ts + is_some opened ≡ ends_in ts + is_some (after opened ts)
  unfolding Steady after is_some begins_in ends_in
  begins_and_ends opened [] s = refl
  begins_and_ends None (t ∷ ts) s =
      let more = begins_and_ends (after_one None t) ts s.2 in
      let one = some_after_one None t in
      let b : (if t.begins then 1 else 0) ≡ suc zero = rw s.0 refl in
      omega (arith, more, one, b)
  begins_and_ends (Some p) (t ∷ ts) s =
      let more = begins_and_ends (after_one (Some p) t) ts s.3 in
      let one = some_after_one (Some p) t in
      let b : (if t.begins then 1 else 0) ≡ zero = rw s.0 refl in
      omega (arith, more, one, b)

  -- numbers by begins are numbers by ends
  abbrev with_number : (ℕ → Bool) → ℕ → List Transfer → List Transfer
  with_number test begun ts = map (λ (p : ℕ × Transfer). p.1) (filter (λ (p : ℕ × Transfer). test p.0) (zip (command_numbers begun ts) ts))

  one_more : (test : ℕ → Bool) (k : ℕ) (t : Transfer) (ts : List Transfer) (rest : List (ℕ × Transfer)) → map (λ (p : ℕ × Transfer). p.1) (filter (λ (p : ℕ × Transfer). test p.0) rest) ≡ ts →
      map (λ (p : ℕ × Transfer). p.1) (filter (λ (p : ℕ × Transfer). test p.0) ((k, t) ∷ rest)) ≡ (if test k then t ∷ [] else []) ++ ts
  one_more test k t ts rest e = by_test (test k)
    where
      by_test : (b : Bool) → map (λ (p : ℕ × Transfer). p.1) (if b then (k, t) ∷ filter (λ (p : ℕ × Transfer). test p.0) rest else filter (λ (p : ℕ × Transfer). test p.0) rest) ≡ (if b then t ∷ [] else []) ++ ts
      by_test true = ap (λ l. t ∷ l) e
      by_test false = e

  numbered : (test : ℕ → Bool) (opened : Option (Option ℕ)) (begun n : ℕ) (ts : List Transfer) → Steady opened ts → n + is_some opened ≡ begun + 1 → with_number test begun ts ≡ chosen test n ts
  unfolding Steady chosen is_some
  numbered test opened begun n [] s e = refl
  numbered test None begun n (t ∷ ts) s e =
      let k : (if t.begins then begun + 1 else begun) ≡ n = rw s.0 (omega (arith, e)) in
      subst (λ k. map (λ (p : ℕ × Transfer). p.1) (filter (λ (p : ℕ × Transfer). test p.0) ((k, t) ∷ zip (command_numbers k ts) ts)) ≡ (if test n then t ∷ [] else []) ++ chosen test (if t.ends then n + 1 else n) ts) (sym k)
      (one_more test n t (chosen test (if t.ends then n + 1 else n) ts) (zip (command_numbers n ts) ts) (by_end (λ o m st f. numbered test o n m ts st f) t.ends refl))
    where
      by_end : ((o : Option (Option ℕ)) (m : ℕ) → Steady o ts → m + is_some o ≡ n + 1 → with_number test n ts ≡ chosen test m ts) → (b : Bool) → t.ends ≡ b → with_number test n ts ≡ chosen test (if b then n + 1 else n) ts
      by_end more true f = more None (n + 1) (subst (λ b. Steady (if b then None else Some (goes_to t)) ts) f s.2) (omega arith)
      by_end more false f = more (Some (goes_to t)) n (subst (λ b. Steady (if b then None else Some (goes_to t)) ts) f s.2) (omega arith)
  numbered test (Some p) begun n (t ∷ ts) s e =
      let k : (if t.begins then begun + 1 else begun) ≡ n = rw s.0 (omega (arith, e)) in
      subst (λ k. map (λ (p : ℕ × Transfer). p.1) (filter (λ (p : ℕ × Transfer). test p.0) ((k, t) ∷ zip (command_numbers k ts) ts)) ≡ (if test n then t ∷ [] else []) ++ chosen test (if t.ends then n + 1 else n) ts) (sym k)
      (one_more test n t (chosen test (if t.ends then n + 1 else n) ts) (zip (command_numbers n ts) ts) (by_end (λ o m st f. numbered test o n m ts st f) t.ends refl))
    where
      by_end : ((o : Option (Option ℕ)) (m : ℕ) → Steady o ts → m + is_some o ≡ n + 1 → with_number test n ts ≡ chosen test m ts) → (b : Bool) → t.ends ≡ b → with_number test n ts ≡ chosen test (if b then n + 1 else n) ts
      by_end more true f = more None (n + 1) (subst (λ b. Steady (if b then None else Some (goes_to t)) ts) f s.3) (omega arith)
      by_end more false f = more (Some (goes_to t)) n (subst (λ b. Steady (if b then None else Some (goes_to t)) ts) f s.3) (omega arith)

  -- ---- what is chosen

  pub next_number : (n : ℕ) (b : Bool) (e : ℕ) → (if b then n + 1 else n) + e ≡ n + ((if b then 1 else 0) + e)
  next_number n true e = omega arith
  next_number n false e = omega arith

  pub next_least : (n : ℕ) (b : Bool) → n ≤ (if b then n + 1 else n)
  next_least n true = omega arith
  next_least n false = omega arith

  pub chosen_append : (test : ℕ → Bool) (n : ℕ) (xs ys : List Transfer) → chosen test n (xs ++ ys) ≡ chosen test n xs ++ chosen test (n + ends_in xs) ys
  unfolding chosen ends_in
  chosen_append test n [] ys = ap (λ k. chosen test k ys) (omega arith)
  chosen_append test n (x ∷ xs) ys =
      ap (λ l. (if test n then x ∷ [] else []) ++ l) (chosen_append test (if x.ends then n + 1 else n) xs ys ∙ ap (λ k. chosen test (if x.ends then n + 1 else n) xs ++ chosen test k ys) (next_number n x.ends (ends_in xs)))
      ∙ sym (append_assoc (if test n then x ∷ [] else []) (chosen test (if x.ends then n + 1 else n) xs) (chosen test (n + ((if x.ends then 1 else 0) + ends_in xs)) ys))

  -- nothing with a number above
  pub none_above : (test : ℕ → Bool) (n : ℕ) (xs : List Transfer) → ((k : ℕ) → n ≤ k → IsFalse (test k)) → chosen test n xs ≡ []
  unfolding chosen
  none_above test n [] none = refl
  none_above test n (x ∷ xs) none =
      let first : test n ≡ false = none n (omega arith) in
      rw first (none_above test (if x.ends then n + 1 else n) xs (λ k h. none k (let l = next_least n x.ends in omega (arith, h, l))))

  pub reads_append : (xs ys : List Transfer) → reads_in (xs ++ ys) ≡ reads_in xs + reads_in ys
  unfolding reads_in
  reads_append [] ys = omega arith
  reads_append (x ∷ xs) ys = let more = reads_append xs ys in omega (arith, more)

  pub reads_one : (b : Bool) (t : Transfer) → reads_in (if b then t ∷ [] else []) ≡ (if b then (if is_of_reads t.kind then length t.beats else 0) else 0)
  unfolding reads_in
  reads_one true t = omega arith
  reads_one false t = refl

  pub reads_length : (ts : List Transfer) → length (read_beats ts) ≡ reads_in ts
  unfolding reads_in
  reads_length [] = refl
  reads_length (t ∷ ts) = by_kind (is_of_reads t.kind) (reads_length ts)
    where
      by_kind : (b : Bool) → length (read_beats ts) ≡ reads_in ts → length (flat_map (λ (t : Transfer). t.beats) (if b then t ∷ reads_among ts else reads_among ts)) ≡ (if b then length t.beats else 0) + reads_in ts
      by_kind true more = let l = length-append t.beats (read_beats ts) in omega (arith, l, more)
      by_kind false more = omega (arith, more)

  -- the reads up to a command are those before it and its own
  reads_step : (k n : ℕ) (xs : List Transfer) → reads_in (chosen (λ i. nat_le i (suc k)) n xs) ≡ reads_in (chosen (λ i. nat_le i k) n xs) + reads_in (chosen (λ i. nat_eq i (suc k)) n xs)
  unfolding chosen reads_in
  reads_step k n [] = refl
  reads_step k n (x ∷ xs) =
      let more = reads_step k (if x.ends then n + 1 else n) xs in
      let a = reads_append (if nat_le n (suc k) then x ∷ [] else []) (chosen (λ i. nat_le i (suc k)) (if x.ends then n + 1 else n) xs) in
      let b = reads_append (if nat_le n k then x ∷ [] else []) (chosen (λ i. nat_le i k) (if x.ends then n + 1 else n) xs) in
      let c = reads_append (if nat_eq n (suc k) then x ∷ [] else []) (chosen (λ i. nat_eq i (suc k)) (if x.ends then n + 1 else n) xs) in
      let one = own n k (if is_of_reads x.kind then length x.beats else 0) in
      let d = reads_one (nat_le n (suc k)) x in
      let e = reads_one (nat_le n k) x in
      let f = reads_one (nat_eq n (suc k)) x in
      omega (arith, more, a, b, c, one, d, e, f)
    where
      own : (n k r : ℕ) → (if nat_le n (suc k) then r else 0) ≡ (if nat_le n k then r else 0) + (if nat_eq n (suc k) then r else 0)
      own n k r = by_tests (nat_le n k) refl (nat_eq n (suc k)) refl
        where
          by_tests : (a : Bool) → nat_le n k ≡ a → (b : Bool) → nat_eq n (suc k) ≡ b → (if nat_le n (suc k) then r else 0) ≡ (if a then r else 0) + (if b then r else 0)
          by_tests true ea true eb = absurd (grind (arith, tests, ea, eb))
          by_tests true ea false eb = let t : nat_le n (suc k) ≡ true = grind (arith, tests, ea) in rw t (omega arith)
          by_tests false ea true eb = let t : nat_le n (suc k) ≡ true = grind (arith, tests, eb) in rw t (omega arith)
          by_tests false ea false eb = let t : nat_le n (suc k) ≡ false = grind (arith, tests, ea, eb) in rw t refl

  -- a read ends its command
  reads_ended : (opened : Option (Option ℕ)) (k n : ℕ) (xs : List Transfer) → Steady opened xs → n + ends_in xs ≤ suc k → reads_in xs ≤ reads_in (chosen (λ i. nat_le i k) n xs)
  unfolding Steady chosen reads_in ends_in
  reads_ended opened k n [] s h = omega arith
  reads_ended None k n (x ∷ xs) s h =
      let more = reads_ended (after_one None x) k (if x.ends then n + 1 else n) xs s.2 (let q = next_number n x.ends (ends_in xs) in omega (arith, q, h)) in
      let b = reads_append (if nat_le n k then x ∷ [] else []) (chosen (λ i. nat_le i k) (if x.ends then n + 1 else n) xs) in
      let e = reads_one (nat_le n k) x in
      by_kind (is_of_reads x.kind) refl more b e
    where
      by_kind : (r : Bool) → is_of_reads x.kind ≡ r → reads_in xs ≤ reads_in (chosen (λ i. nat_le i k) (if x.ends then n + 1 else n) xs) →
          reads_in ((if nat_le n k then x ∷ [] else []) ++ chosen (λ i. nat_le i k) (if x.ends then n + 1 else n) xs) ≡ reads_in (if nat_le n k then x ∷ [] else []) + reads_in (chosen (λ i. nat_le i k) (if x.ends then n + 1 else n) xs) →
          reads_in (if nat_le n k then x ∷ [] else []) ≡ (if nat_le n k then (if is_of_reads x.kind then length x.beats else 0) else 0) →
          (if r then length x.beats else 0) + reads_in xs ≤ reads_in ((if nat_le n k then x ∷ [] else []) ++ chosen (λ i. nat_le i k) (if x.ends then n + 1 else n) xs)
      by_kind false er more b e = omega (arith, more, b)
      by_kind true er more b e =
          let ends : (if x.ends then 1 else 0) ≡ suc zero = rw (s.1 er) refl in
          let in_time : nat_le n k ≡ true = le-leb n k (omega (arith, h, ends)) in
          let own : (if nat_le n k then (if is_of_reads x.kind then length x.beats else 0) else 0) ≡ length x.beats = rw (in_time, er) refl in
          omega (arith, more, b, e, own)
  reads_ended (Some p) k n (x ∷ xs) s h =
      let more = reads_ended (after_one (Some p) x) k (if x.ends then n + 1 else n) xs s.3 (let q = next_number n x.ends (ends_in xs) in omega (arith, q, h)) in
      let b = reads_append (if nat_le n k then x ∷ [] else []) (chosen (λ i. nat_le i k) (if x.ends then n + 1 else n) xs) in
      let none : (if is_of_reads x.kind then length x.beats else 0) ≡ zero = rw s.1 refl in
      omega (arith, more, b, none)

  -- ---- operations

  unfoldable pub ops_for : ℕ → List Transfer → ℕ
  ops_for a [] = 0
  ops_for a (t ∷ later) = (if is_agent a (goes_to t) then length (transfer_operations system host a t) else 0) + ops_for a later

  pub ops_count : (a : ℕ) (ts : List Transfer) → count_for system host a ts ≡ ops_for a ts
  unfolding ops_for
  ops_count a [] = refl
  ops_count a (t ∷ ts) = by_place (is_agent a (goes_to t)) (ops_count a ts)
    where
      by_place : (b : Bool) → count_for system host a ts ≡ ops_for a ts → length (flat_map (transfer_operations system host a) (if b then t ∷ for_agent system host a ts else for_agent system host a ts)) ≡ (if b then length (transfer_operations system host a t) else 0) + ops_for a ts
      by_place true more = let l = length-append (transfer_operations system host a t) (flat_map (transfer_operations system host a) (for_agent system host a ts)) in omega (arith, l, more)
      by_place false more = omega (arith, more)

  pub ops_append : (a : ℕ) (xs ys : List Transfer) → ops_for a (xs ++ ys) ≡ ops_for a xs + ops_for a ys
  unfolding ops_for
  ops_append a [] ys = omega arith
  ops_append a (x ∷ xs) ys = let more = ops_append a xs ys in omega (arith, more)

  ops_chosen : (a : ℕ) (test : ℕ → Bool) (n : ℕ) (xs : List Transfer) → ops_for a (chosen test n xs) ≤ ops_for a xs
  unfolding ops_for chosen
  ops_chosen a test n [] = omega arith
  ops_chosen a test n (x ∷ xs) =
      let more = ops_chosen a test (if x.ends then n + 1 else n) xs in
      let split = ops_append a (if test n then x ∷ [] else []) (chosen test (if x.ends then n + 1 else n) xs) in
      let one = own (test n) in
      omega (arith, more, split, one)
    where
      own : (b : Bool) → ops_for a (if b then x ∷ [] else []) ≤ (if is_agent a (goes_to x) then length (transfer_operations system host a x) else 0)
      own true = omega arith
      own false = omega arith

  -- ---- places

  abbrev pub all_at : Option ℕ → List Transfer → Bool
  all_at place ts = list_all (λ (t : Transfer). is_place place (goes_to t)) ts

  all_append : (place : Option ℕ) (xs ys : List Transfer) → IsTrue (all_at place xs) → IsTrue (all_at place ys) → IsTrue (all_at place (xs ++ ys))
  all_append place [] ys a b = b
  all_append place (x ∷ xs) ys a b = let parts = and_parts (is_place place (goes_to x)) _ a in both _ _ parts.0 (all_append place xs ys parts.1 b)

  all_one : (place : Option ℕ) (b : Bool) (t : Transfer) → IsTrue (is_place place (goes_to t)) → IsTrue (all_at place (if b then t ∷ [] else []))
  all_one place true t h = both _ _ h refl
  all_one place false t h = refl

  all_first : (p : Option ℕ) (n : ℕ) (xs : List Transfer) → Steady (Some p) xs → IsTrue (all_at p (chosen (λ i. nat_eq i n) n xs))
  unfolding Steady chosen
  all_first p n [] s = refl
  all_first p n (x ∷ xs) s =
      all_append p (if nat_eq n n then x ∷ [] else []) (chosen (λ i. nat_eq i n) (if x.ends then n + 1 else n) xs)
      (all_one p (nat_eq n n) x (ap (is_place p) s.2 ∙ place_self p)) (by_end (λ q st. all_first q n xs st) x.ends refl)
    where
      by_end : ((q : Option ℕ) → Steady (Some q) xs → IsTrue (all_at q (chosen (λ i. nat_eq i n) n xs))) → (b : Bool) → x.ends ≡ b → IsTrue (all_at p (chosen (λ i. nat_eq i n) (if b then n + 1 else n) xs))
      by_end more true e = subst (λ l. IsTrue (all_at p l)) (sym (none_above (λ i. nat_eq i n) (n + 1) xs (λ k h. grind (arith, tests, h)))) refl
      by_end more false e = more p (subst (λ q. Steady (Some q) xs) s.2 (subst (λ b. Steady (if b then None else Some (goes_to x)) xs) e s.3))

  -- the transfers of one command have one place
  pub one_place : (opened : Option (Option ℕ)) (k n : ℕ) (xs : List Transfer) → Steady opened xs → (p : Option ℕ) × IsTrue (all_at p (chosen (λ i. nat_eq i k) n xs))
  unfolding Steady chosen
  one_place opened k n [] s = (None, refl)
  one_place opened k n (x ∷ xs) s = by_number (λ o m st. one_place o k m xs st) (nat_eq n k) refl
    where
      later : Steady (after_one opened x) xs
      later = later_of opened s
        where
          later_of : (o : Option (Option ℕ)) → Steady o (x ∷ xs) → Steady (after_one o x) xs
          later_of None s = s.2
          later_of (Some p) s = s.3

      by_end : (b : Bool) → x.ends ≡ b → n ≡ k → IsTrue (all_at (goes_to x) (chosen (λ i. nat_eq i k) (if b then n + 1 else n) xs))
      by_end true e same = subst (λ l. IsTrue (all_at (goes_to x) l)) (sym (none_above (λ i. nat_eq i k) (n + 1) xs (λ i h. grind (arith, tests, h, same)))) refl
      by_end false e same = subst (λ m. IsTrue (all_at (goes_to x) (chosen (λ i. nat_eq i m) n xs))) same (all_first (goes_to x) n xs (subst (λ b. Steady (if b then None else Some (goes_to x)) xs) e later))

      by_number : ((o : Option (Option ℕ)) (m : ℕ) → Steady o xs → (p : Option ℕ) × IsTrue (all_at p (chosen (λ i. nat_eq i k) m xs))) → (b : Bool) → nat_eq n k ≡ b → (p : Option ℕ) × IsTrue (all_at p ((if b then x ∷ [] else []) ++ chosen (λ i. nat_eq i k) (if x.ends then n + 1 else n) xs))
      by_number more true e = (goes_to x, both _ _ (place_self (goes_to x)) (by_end x.ends refl (grind (arith, tests, e))))
      by_number more false e = more (after_one opened x) (if x.ends then n + 1 else n) later

  -- the place of the command that is still open
  still_open : (p : Option ℕ) (xs : List Transfer) → Steady (Some p) xs → ends_in xs ≡ 0 → after (Some p) xs ≡ Some p
  unfolding Steady after ends_in
  still_open p [] s none = refl
  still_open p (x ∷ xs) s none = by_end (λ q st f. still_open q xs st f) x.ends refl
    where
      by_end : ((q : Option ℕ) → Steady (Some q) xs → ends_in xs ≡ 0 → after (Some q) xs ≡ Some q) → (b : Bool) → x.ends ≡ b → after (if b then None else Some (goes_to x)) xs ≡ Some p
      by_end more true e = let one : (if x.ends then 1 else 0) ≡ suc zero = rw e refl in absurd (omega (arith, none, one))
      by_end more false e =
          let m = more (goes_to x) (subst (λ b. Steady (if b then None else Some (goes_to x)) xs) e s.3) (omega (arith, none)) in
          m ∙ ap Some s.2

  abbrev any_at : Option ℕ → List Transfer → Bool
  any_at place ts = list_any (λ (t : Transfer). is_place place (goes_to t)) ts

  any_parts : (place : Option ℕ) (b : Bool) (t : Transfer) (ts : List Transfer) {R : Type 0} → IsTrue (any_at place ((if b then t ∷ [] else []) ++ ts)) → (IsTrue b → IsTrue (is_place place (goes_to t)) → R) → (IsTrue (any_at place ts) → R) → R
  any_parts place false t ts {R = R} h f g = g h
  any_parts place true t ts {R = R} h f g = by_place (is_place place (goes_to t)) refl h
    where
      by_place : (b : Bool) → is_place place (goes_to t) ≡ b → IsTrue (b || any_at place ts) → R
      by_place true e h = f refl e
      by_place false e h = g h

  -- a transfer of the last command, where it isn't ended, tells the place that is left open
  open_place : (opened : Option (Option ℕ)) (place : Option ℕ) (n k : ℕ) (xs : List Transfer) → Steady opened xs → k ≡ n + ends_in xs → IsTrue (any_at place (chosen (λ i. nat_eq i k) n xs)) → after opened xs ≡ Some place
  unfolding Steady after ends_in chosen
  open_place opened place n k [] s e any = absurd (no_true any)
  open_place opened place n k (x ∷ xs) s e any =
      any_parts place (nat_eq n k) x (chosen (λ i. nat_eq i k) (if x.ends then n + 1 else n) xs) any
      (λ here is. by_end (grind (arith, tests, here)) is x.ends refl)
      (λ rest. open_place (after_one opened x) place (if x.ends then n + 1 else n) k xs later (let q = next_number n x.ends (ends_in xs) in omega (arith, e, q)) rest)
    where
      later : Steady (after_one opened x) xs
      later = later_of opened s
        where
          later_of : (o : Option (Option ℕ)) → Steady o (x ∷ xs) → Steady (after_one o x) xs
          later_of None s = s.2
          later_of (Some p) s = s.3

      by_end : n ≡ k → IsTrue (is_place place (goes_to x)) → (b : Bool) → x.ends ≡ b → after (if b then None else Some (goes_to x)) xs ≡ Some place
      by_end same is true f = let one : (if x.ends then 1 else 0) ≡ suc zero = rw f refl in absurd (omega (arith, same, e, one))
      by_end same is false f =
          still_open (goes_to x) xs (subst (λ b. Steady (if b then None else Some (goes_to x)) xs) f later) (omega (arith, same, e)) ∙ ap Some (same_place place (goes_to x) is)

  -- ---- words

  pub asked_one_by_one : (t : Transfer) (ts : List Transfer) → asked_among system host (t ∷ ts) ≡ asked_among system host (t ∷ []) ++ asked_among system host ts
  asked_one_by_one t ts = by_kind (is_of_reads t.kind)
    where
      by_kind : (b : Bool) → flat_map (λ (t : Transfer). map (λ (b : Beat). asked_one (goes_to t) b) t.beats) (if b then t ∷ reads_among ts else reads_among ts)
          ≡ flat_map (λ (t : Transfer). map (λ (b : Beat). asked_one (goes_to t) b) t.beats) (if b then t ∷ [] else []) ++ asked_among system host ts
      by_kind true = sym (ap (λ l. l ++ asked_among system host ts) (append-nil (map (λ (b : Beat). asked_one (goes_to t) b) t.beats)))
      by_kind false = refl

  -- a word past those of the earlier commands and before the end of one is for its place
  next_word : (opened : Option (Option ℕ)) (place : Option ℕ) (k n g : ℕ) (xs : List Transfer) → Steady opened xs → reads_in (chosen (λ i. nat_le i k) n xs) ≤ g → g < reads_in (chosen (λ i. nat_le i (suc k)) n xs) →
      IsTrue (all_at place (chosen (λ i. nat_eq i (suc k)) n xs)) → IsTrue (next_at place g (asked_among system host xs))
  unfolding Steady reads_in chosen
  next_word opened place k n g [] s low high all = absurd (omega (arith, high))
  next_word opened place k n g (x ∷ xs) s low high all = subst (λ l. IsTrue (next_at place g l)) (sym (asked_one_by_one x xs)) (by_number (λ g low high all. next_word (after_one opened x) place k (if x.ends then n + 1 else n) g xs later low high all) (nat_le n k) refl (nat_eq n (suc k)) refl)
    where
      later : Steady (after_one opened x) xs
      later = later_of opened s
        where
          later_of : (o : Option (Option ℕ)) → Steady o (x ∷ xs) → Steady (after_one o x) xs
          later_of None s = s.2
          later_of (Some p) s = s.3

      own_length : length (asked_among system host (x ∷ [])) ≡ (if is_of_reads x.kind then length x.beats else 0)
      own_length = by_kind (is_of_reads x.kind)
        where
          long : (place : Option ℕ) (beats : List Beat) → length (map (λ b. asked_one place b) beats) ≡ length beats
          long place [] = refl
          long place (b ∷ beats) = ap suc (long place beats)

          by_kind : (b : Bool) → length (flat_map (λ (t : Transfer). map (λ (b : Beat). asked_one (goes_to t) b) t.beats) (if b then x ∷ [] else [])) ≡ (if b then length x.beats else 0)
          by_kind true = ap length (append-nil (map (λ (b : Beat). asked_one (goes_to x) b) x.beats)) ∙ long (goes_to x) x.beats
          by_kind false = refl

      own_places : IsTrue (is_place place (goes_to x)) → IsTrue (list_all (λ (q : Asked). is_place place q.place) (asked_among system host (x ∷ [])))
      own_places is = by_kind (is_of_reads x.kind)
        where
          each : (beats : List Beat) → IsTrue (list_all (λ (q : Asked). is_place place q.place) (map (λ b. asked_one (goes_to x) b) beats))
          each [] = refl
          each (b ∷ beats) = both _ _ is (each beats)

          by_kind : (b : Bool) → IsTrue (list_all (λ (q : Asked). is_place place q.place) (flat_map (λ (t : Transfer). map (λ (b : Beat). asked_one (goes_to t) b) t.beats) (if b then x ∷ [] else [])))
          by_kind true = subst (λ l. IsTrue (list_all (λ (q : Asked). is_place place q.place) l)) (sym (append-nil (map (λ b. asked_one (goes_to x) b) x.beats))) (each x.beats)
          by_kind false = refl

      upper : reads_in (chosen (λ i. nat_le i (suc k)) n (x ∷ xs)) ≡ reads_in (if nat_le n (suc k) then x ∷ [] else []) + reads_in (chosen (λ i. nat_le i (suc k)) (if x.ends then n + 1 else n) xs)
      upper = reads_append (if nat_le n (suc k) then x ∷ [] else []) (chosen (λ i. nat_le i (suc k)) (if x.ends then n + 1 else n) xs)

      lower : reads_in (chosen (λ i. nat_le i k) n (x ∷ xs)) ≡ reads_in (if nat_le n k then x ∷ [] else []) + reads_in (chosen (λ i. nat_le i k) (if x.ends then n + 1 else n) xs)
      lower = reads_append (if nat_le n k then x ∷ [] else []) (chosen (λ i. nat_le i k) (if x.ends then n + 1 else n) xs)

      past : (if is_of_reads x.kind then length x.beats else 0) ≤ g → IsTrue (next_at place (g - length (asked_among system host (x ∷ []))) (asked_among system host xs)) → IsTrue (next_at place g (asked_among system host (x ∷ []) ++ asked_among system host xs))
      past less rest = subst (λ l. IsTrue (list_any (λ (q : Asked). is_place place q.place) (take 1 l))) (sym (drop_past g (asked_among system host (x ∷ [])) (asked_among system host xs) (let l = own_length in omega (arith, less, l)))) rest

      rest_all : (b : Bool) → IsTrue (all_at place ((if b then x ∷ [] else []) ++ chosen (λ i. nat_eq i (suc k)) (if x.ends then n + 1 else n) xs)) → IsTrue (all_at place (chosen (λ i. nat_eq i (suc k)) (if x.ends then n + 1 else n) xs))
      rest_all true h = (and_parts (is_place place (goes_to x)) _ h).1
      rest_all false h = h

      less_or : (g own : ℕ) → (g < own) ⊎ (own ≤ g)
      less_or g own = by_test (nat_lt g own) refl
        where
          by_test : (b : Bool) → nat_lt g own ≡ b → (g < own) ⊎ (own ≤ g)
          by_test true e = inl (ltb-true g own e)
          by_test false e = inr (ltb-false g own e)

      by_number : ((g : ℕ) → reads_in (chosen (λ i. nat_le i k) (if x.ends then n + 1 else n) xs) ≤ g → g < reads_in (chosen (λ i. nat_le i (suc k)) (if x.ends then n + 1 else n) xs) →
          IsTrue (all_at place (chosen (λ i. nat_eq i (suc k)) (if x.ends then n + 1 else n) xs)) → IsTrue (next_at place g (asked_among system host xs))) →
          (p : Bool) → nat_le n k ≡ p → (q : Bool) → nat_eq n (suc k) ≡ q → IsTrue (next_at place g (asked_among system host (x ∷ []) ++ asked_among system host xs))
      by_number more true ep q eq =
          let up_too : nat_le n (suc k) ≡ true = grind (arith, tests, ep) in
          let a = ap (λ b. reads_in (if b then x ∷ [] else [])) up_too ∙ reads_one true x in
          let b = ap (λ b. reads_in (if b then x ∷ [] else [])) ep ∙ reads_one true x in
          let u = upper in
          let l = lower in
          let o = own_length in
          past (omega (arith, low, l, b)) (more (g - length (asked_among system host (x ∷ []))) (omega (arith, low, l, b, o)) (omega (arith, high, u, a, o, low, l, b)) (rest_all (nat_eq n (suc k)) all))
      by_number more false ep true eq =
          let up_too : nat_le n (suc k) ≡ true = grind (arith, tests, eq) in
          let a = ap (λ b. reads_in (if b then x ∷ [] else [])) up_too ∙ reads_one true x in
          let u = upper in
          let o = own_length in
          let head = (and_parts (is_place place (goes_to x)) _ (subst (λ b. IsTrue (all_at place ((if b then x ∷ [] else []) ++ chosen (λ i. nat_eq i (suc k)) (if x.ends then n + 1 else n) xs))) eq all)).0 in
          let none : reads_in (chosen (λ i. nat_le i k) (if x.ends then n + 1 else n) xs) ≡ 0 = ap reads_in (none_above (λ i. nat_le i k) (if x.ends then n + 1 else n) xs (λ i h. (let least = next_least n x.ends in le_not i k n (omega (arith, h, least)) ep))) in
          elim (less_or g (if is_of_reads x.kind then length x.beats else 0)) [
            | inl here ↦ next_here place g (asked_among system host (x ∷ [])) (asked_among system host xs) (own_places head) (omega (arith, here, o))
            | inr beyond ↦ past beyond (more (g - length (asked_among system host (x ∷ []))) (omega (arith, none)) (omega (arith, high, u, a, o, beyond)) (rest_all (nat_eq n (suc k)) all))
          ]
        where
          le_not : (i k n : ℕ) → n ≤ i → IsFalse (nat_le n k) → IsFalse (nat_le i k)
          le_not i k n h f = grind (arith, tests, h, f)
      by_number more false ep false eq =
          let none : reads_in (chosen (λ i. nat_le i (suc k)) n (x ∷ xs)) ≡ 0 = ap reads_in (none_above (λ i. nat_le i (suc k)) n (x ∷ xs) (λ i h. not_le i k n h ep eq)) in
          absurd (omega (arith, none, high))
        where
          not_le : (i k n : ℕ) → n ≤ i → IsFalse (nat_le n k) → IsFalse (nat_eq n (suc k)) → IsFalse (nat_le i (suc k))
          not_le i k n h f g = grind (arith, tests, h, f, g)

module _ (system : System) (host : ℕ) where
  -- where all have one place and one has another, the two are one
  pub any_of_all : (p place : Option ℕ) (ts : List Transfer) → IsTrue (list_all (λ (t : Transfer). is_place p (place_of system host t)) ts) → IsTrue (list_any (λ (t : Transfer). is_place place (place_of system host t)) ts) → p ≡ place
  any_of_all p place [] all any = absurd (no_true any)
  any_of_all p place (t ∷ ts) all any = by_head (is_place place (place_of system host t)) refl any (any_of_all p place ts parts.1)
    where
      parts : IsTrue (is_place p (place_of system host t)) × IsTrue (list_all (λ (t : Transfer). is_place p (place_of system host t)) ts)
      parts = and_parts (is_place p (place_of system host t)) _ all

      by_head : (b : Bool) → is_place place (place_of system host t) ≡ b → IsTrue (b || list_any (λ (t : Transfer). is_place place (place_of system host t)) ts) → (IsTrue (list_any (λ (t : Transfer). is_place place (place_of system host t)) ts) → p ≡ place) → p ≡ place
      by_head true e any more = sym (same_place p (place_of system host t) parts.0) ∙ same_place place (place_of system host t) e
      by_head false e any more = more any

  none_elsewhere : (b : ℕ) (p : Option ℕ) (ts : List Transfer) → IsTrue (list_all (λ (t : Transfer). is_place p (place_of system host t)) ts) → IsFalse (is_agent b p) → ops_for system host b ts ≡ 0
  unfolding ops_for
  none_elsewhere b p [] all other = refl
  none_elsewhere b p (t ∷ ts) all other =
      let parts = and_parts (is_place p (place_of system host t)) _ all in
      let more = none_elsewhere b p ts parts.1 other in
      let here : is_agent b (place_of system host t) ≡ false = ap (is_agent b) (same_place p (place_of system host t) parts.0) ∙ other in
      let one : (if is_agent b (place_of system host t) then length (transfer_operations system host b t) else 0) ≡ zero = rw here refl in
      omega (arith, more, one)

  some_there : (b : ℕ) (p : Option ℕ) (ts : List Transfer) → IsTrue (list_all (λ (t : Transfer). is_place p (place_of system host t)) ts) → 0 < ops_for system host b ts → p ≡ Some b
  some_there b p ts all some = by_agent (is_agent b p) refl
    where
      the_agent : (p : Option ℕ) → IsTrue (is_agent b p) → p ≡ Some b
      the_agent None h = absurd (no_true h)
      the_agent (Some x) h = let same : b ≡ x = grind (arith, tests, h) in ap Some (sym same)

      by_agent : (a : Bool) → is_agent b p ≡ a → p ≡ Some b
      by_agent true e = the_agent p e
      by_agent false e = let none = none_elsewhere b p ts all e in absurd (omega (arith, none, some))

pub ends_length : (ts : List Transfer) → length (filter (λ (t : Transfer). t.ends) ts) ≡ ends_in ts
unfolding ends_in
ends_length [] = refl
ends_length (t ∷ ts) = by_end t.ends (ends_length ts)
  where
    by_end : (b : Bool) → length (filter (λ (t : Transfer). t.ends) ts) ≡ ends_in ts → length (if b then t ∷ filter (λ (t : Transfer). t.ends) ts else filter (λ (t : Transfer). t.ends) ts) ≡ (if b then 1 else 0) + ends_in ts
    by_end true more = omega (arith, more)
    by_end false more = omega (arith, more)

pub begins_length : (ts : List Transfer) → length (filter (λ (t : Transfer). t.begins) ts) ≡ begins_in ts
unfolding begins_in
begins_length [] = refl
begins_length (t ∷ ts) = by_end t.begins (begins_length ts)
  where
    by_end : (b : Bool) → length (filter (λ (t : Transfer). t.begins) ts) ≡ begins_in ts → length (if b then t ∷ filter (λ (t : Transfer). t.begins) ts else filter (λ (t : Transfer). t.begins) ts) ≡ (if b then 1 else 0) + begins_in ts
    by_end true more = omega (arith, more)
    by_end false more = omega (arith, more)

begins_append : (xs ys : List Transfer) → begins_in (xs ++ ys) ≡ begins_in xs + begins_in ys
unfolding begins_in
begins_append [] ys = omega arith
begins_append (x ∷ xs) ys = let more = begins_append xs ys in omega (arith, more)

some_fails : (test : ℕ → Bool) (first count : ℕ) → IsFalse (list_all test (numbers first count)) → (b : ℕ) × IsFalse (test b)
some_fails test first zero h = absurd (both_ways true h refl)
some_fails test first (suc count) h = by_test (test first) refl h (some_fails test (suc first) count)
  where
    by_test : (b : Bool) → test first ≡ b → IsFalse (b && list_all test (numbers (suc first) count)) → (IsFalse (list_all test (numbers (suc first) count)) → (b : ℕ) × IsFalse (test b)) → (b : ℕ) × IsFalse (test b)
    by_test true e h more = more h
    by_test false e h more = (first, e)

pub each_holds : (test : ℕ → Bool) (first count k : ℕ) → IsTrue (list_all test (numbers first count)) → first ≤ k → k < first + count → IsTrue (test k)
each_holds test first zero k h low high = absurd (omega (arith, low, high))
each_holds test first (suc count) k h low high = by_same (nat_eq first k) refl (each_holds test (suc first) count k)
  where
    parts : IsTrue (test first) × IsTrue (list_all test (numbers (suc first) count))
    parts = and_parts (test first) _ h

    by_same : (b : Bool) → nat_eq first k ≡ b → (IsTrue (list_all test (numbers (suc first) count)) → suc first ≤ k → k < suc first + count → IsTrue (test k)) → IsTrue (test k)
    by_same true e more = let same : first ≡ k = grind (arith, tests, e) in subst (λ x. IsTrue (test x)) same parts.0
    by_same false e more = more parts.1 (grind (arith, tests, e, low)) (omega (arith, high))

not_reached : (own all reached : ℕ) → IsFalse (nat_eq own 0 || nat_le all reached) → (0 < own) × (reached < all)
not_reached own all reached h = let p = or_parts (nat_eq own 0) (nat_le all reached) h in let a = p.0 in let b = p.1 in (grind (arith, tests, a), grind (arith, tests, b))

-- what a host wants, by the numbers of its commands
pub data Outcome (system : System) (run : Run) (host : ℕ) (place : Option ℕ) (number c : ℕ) : Type 0 where
  a_beat : IsTrue (lacks_beats system run host number c) → IsTrue (shows_for system run host place c) → IsTrue (are_all_given system run host c) → Outcome system run host place number c
  an_operation : IsFalse (lacks_beats system run host number c) → (b : ℕ) → place ≡ Some b → IsFalse (are_taken system run host number c b) → Outcome system run host place number c
  a_word : IsFalse (lacks_beats system run host number c) → IsFalse (gives_word (system.host host) (run.at_host host) c) → IsTrue (owes_next system run host place c) → Outcome system run host place number c
  a_given : IsFalse (lacks_beats system run host number c) → IsTrue (is_given_from system run place c host) → IsFalse (are_given system run host number c) → Outcome system run host place number c

module _ (system : System) (run : Run) (host end : ℕ) (legal : IsLegalHost (system.host host) (run.at_host host) end) where
  abbrev shape : Shape
  shape = (system.host host).shape

  abbrev signals : Signals
  signals = (run.at_host host).signals

  abbrev accepts : ℕ → Bool
  accepts = host_accepts (run.at_host host)

  abbrev now : ℕ → Transfer
  now c = transfer_at shape signals accepts c

  abbrev burst : ℕ → Burst
  burst c = burst_before shape signals accepts c

  abbrev opened_by : Burst → Option (Option ℕ)
  opened_by b = if nat_lt 0 b.left then Some (system.place host Writes b.first) else None

  abbrev all_accepted_by : ℕ → List Transfer
  all_accepted_by c = host_accepted system run host c

  record Step (levels : Levels) (b : Burst) : Type 0 where
    steady : Steady system host (opened_by b) (transfer_of shape levels b ∷ [])
    next : after_one system host (opened_by b) (transfer_of shape levels b) ≡ opened_by (burst_after shape levels true b)

  step : (levels : Levels) (b : Burst) → (IsTrue (nat_lt 0 b.left) → IsTrue (is_raised levels.write)) → (IsFalse (nat_lt 0 b.left) → 1 ≤ levels.count) → Step levels b
  unfolding Steady
  step levels b writes some = by_cases (nat_eq b.left 0) refl (is_raised levels.write) refl
    where
      by_cases : (z : Bool) → nat_eq b.left 0 ≡ z → (w : Bool) → is_raised levels.write ≡ w → Step levels b
      by_cases true ez true ew =
          let none : nat_lt 0 b.left ≡ false = grind (arith, tests, ez) in
          let least = some none in
          by_count (nat_eq levels.count 1) refl none least
        where
          by_count : (n : Bool) → nat_eq levels.count 1 ≡ n → nat_lt 0 b.left ≡ false → 1 ≤ levels.count → Step levels b
          by_count true en none least =
              let last : nat_lt 0 (levels.count - 1) ≡ false = grind (arith, tests, en) in
              record { steady = rw (ew, none, ez) (refl, λ r. cc, tt); next = rw (ew, ez, en, last) refl }
          by_count false en none least =
              let more : nat_lt 0 (levels.count - 1) ≡ true = grind (arith, tests, en, least) in
              record { steady = rw (ew, none, ez) (refl, λ r. cc, tt); next = rw (ew, ez, en, more) refl }
      by_cases true ez false ew =
          let none : nat_lt 0 b.left ≡ false = grind (arith, tests, ez) in
          record { steady = rw (ew, none) (refl, λ r. refl, tt); next = rw (ew, none) refl }
      by_cases false ez true ew =
          let under : nat_lt 0 b.left ≡ true = grind (arith, tests, ez) in
          by_left (nat_eq b.left 1) refl under
        where
          by_left : (n : Bool) → nat_eq b.left 1 ≡ n → nat_lt 0 b.left ≡ true → Step levels b
          by_left true en under =
              let last : nat_lt 0 (b.left - 1) ≡ false = grind (arith, tests, en) in
              record { steady = rw (ew, under, ez) (refl, refl, refl, tt); next = rw (ew, ez, en, last) refl }
          by_left false en under =
              let more : nat_lt 0 (b.left - 1) ≡ true = grind (arith, tests, en, ez) in
              record { steady = rw (ew, under, ez) (refl, refl, refl, tt); next = rw (ew, ez, en, more) refl }
      by_cases false ez false ew =
          let under : nat_lt 0 b.left ≡ true = grind (arith, tests, ez) in
          absurd (no_true (sym ew ∙ writes under))

  step_at : (c : ℕ) → c < end → IsTrue (shows signals c) → Step (levels_at signals c) (burst c)
  step_at c h shown = step (levels_at signals c) (burst c) (λ under. writes_on shape signals accepts end legal c h under shown) (λ free. some_beat shape signals accepts end legal c h shown free)

  accepts_shows : (c : ℕ) → IsTrue (accepts c) → IsTrue (shows signals c)
  accepts_shows c h = (and_parts (shows signals c) (not (is_raised ((run.at_host host).waitrequest c))) h).0

  pub record Stands (c : ℕ) : Type 0 where
    pub steady : Steady system host None (all_accepted_by c)
    pub opened : after system host None (all_accepted_by c) ≡ opened_by (burst c)

  pub stands : (c : ℕ) → c ≤ end → Stands c
  unfolding Steady after
  stands zero h = record { steady = tt; opened = refl }
  stands (suc c) h = by_accept (accepts c) refl (stands c (omega (arith, h)))
    where
      by_accept : (b : Bool) → accepts c ≡ b → Stands c → Stands (suc c)
      by_accept false e s =
          let same : all_accepted_by (suc c) ≡ all_accepted_by c = rw e (append-nil (all_accepted_by c)) in
          let still : burst (suc c) ≡ burst c = rw e refl in
          record { steady = subst (Steady system host None) (sym same) s.steady; opened = ap (after system host None) same ∙ s.opened ∙ sym (ap opened_by still) }
      by_accept true e s =
          let same : all_accepted_by (suc c) ≡ all_accepted_by c ++ now c ∷ [] = rw e refl in
          let on : burst (suc c) ≡ burst_after shape (levels_at signals c) true (burst c) = rw e refl in
          let st = step_at c (omega (arith, h)) (accepts_shows c e) in
          record {
            steady = subst (Steady system host None) (sym same) (steady_end system host None (all_accepted_by c) (now c) s.steady (subst (λ o. Steady system host o (now c ∷ [])) (sym s.opened) st.steady));
            opened = ap (after system host None) same ∙ after_end system host None (all_accepted_by c) (now c) ∙ ap (λ o. after_one system host o (now c)) s.opened ∙ st.next ∙ sym (ap opened_by on);
          }

  keeps_items : KeepsItems (shows signals) accepts now end
  keeps_items = record {
    accepted = λ c h. accepts_shows c h;
    held = λ c h held.
        let same = legal.held c h held in
        let none : accepts c ≡ false = by_not (accepts c) (and_parts (shows signals c) (not (accepts c)) held).1 in
        let still : burst c ≡ burst (suc c) = rw none refl in
        (ap (λ (l : Levels). is_raised l.read || is_raised l.write) (sym same) ∙ (and_parts (shows signals c) (not (accepts c)) held).0, ap₂ (transfer_of shape) same still);
  }
    where
      by_not : (b : Bool) → IsTrue (not b) → b ≡ false
      by_not true h = absurd (no_true h)
      by_not false h = refl

  -- what was presented by the end of a cycle: what was accepted before it, and the beat that it shows
  pub presented_is : (c : ℕ) → c < end → host_transfers system run host (suc c) ≡ all_accepted_by c ++ only_if (shows signals c) (now c)
  presented_is c h = shown_is_accepted_and_standing (shows signals) accepts now end (suc c) keeps_items (omega (arith, h)) ∙ by_accept (accepts c) refl (shows signals c) refl
    where
      by_accept : (a : Bool) → accepts c ≡ a → (s : Bool) → shows signals c ≡ s → (all_accepted_by c ++ only_if (accepts c) (now c)) ++ only_if (shows signals c && not (accepts c)) (now c) ≡ all_accepted_by c ++ only_if (shows signals c) (now c)
      by_accept true e true f = rw (e, f) (append-nil (all_accepted_by c ++ now c ∷ []))
      by_accept true e false f = absurd (no_true (sym f ∙ accepts_shows c e))
      by_accept false e true f = rw (e, f) (ap (λ l. l ++ now c ∷ []) (append-nil (all_accepted_by c)))
      by_accept false e false f = rw (e, f) (append-nil (all_accepted_by c ++ []))

  last_beat : ℕ → List Transfer
  last_beat c = only_if (shows signals c) (now c)

  abbrev pub whole : ℕ → List Transfer
  whole c = all_accepted_by c ++ only_if (shows signals c) (now c)

  pub whole_steady : (c : ℕ) → c < end → Steady system host None (whole c)
  unfolding Steady
  whole_steady c h = by_shown (shows signals c) refl
    where
      by_shown : (b : Bool) → shows signals c ≡ b → Steady system host None (all_accepted_by c ++ only_if b (now c))
      by_shown true e = let s = stands c (omega (arith, h)) in steady_end system host None (all_accepted_by c) (now c) s.steady (subst (λ o. Steady system host o (now c ∷ [])) (sym s.opened) (step_at c h e).steady)
      by_shown false e = subst (Steady system host None) (sym (append-nil (all_accepted_by c))) (stands c (omega (arith, h))).steady

  -- of the commands up to a number that have ended, nothing lies in the beat that is shown
  pub within : (c k : ℕ) → k < 1 + ends_in (all_accepted_by c) → (test : ℕ → Bool) → ((i : ℕ) → IsTrue (test i) → i ≤ k) → chosen test 1 (whole c) ≡ chosen test 1 (all_accepted_by c)
  within c k h test low =
      chosen_append system host test 1 (all_accepted_by c) (only_if (shows signals c) (now c))
      ∙ ap (λ l. chosen test 1 (all_accepted_by c) ++ l) (none_above system host test (1 + ends_in (all_accepted_by c)) (only_if (shows signals c) (now c)) (λ i above. by_test (test i) i refl above))
      ∙ append-nil (chosen test 1 (all_accepted_by c))
    where
      by_test : (b : Bool) → (i : ℕ) → test i ≡ b → 1 + ends_in (all_accepted_by c) ≤ i → IsFalse b
      by_test true i e above = let l = low i e in absurd (omega (arith, l, above, h))
      by_test false i e above = refl

  pub of_is : (c j : ℕ) → c < end → of_command j (host_transfers system run host (suc c)) ≡ chosen (λ i. nat_eq i j) 1 (whole c)
  unfolding is_some
  of_is c j h = ap (of_command j) (presented_is c h) ∙ numbered system host (λ i. nat_eq i j) None 0 1 (whole c) (whole_steady c h) (omega arith)

  pub up_is : (c j : ℕ) → c < end → up_to j (host_transfers system run host (suc c)) ≡ chosen (λ i. nat_le i j) 1 (whole c)
  unfolding is_some
  up_is c j h = ap (up_to j) (presented_is c h) ∙ numbered system host (λ i. nat_le i j) None 0 1 (whole c) (whole_steady c h) (omega arith)

  -- where all operations that were accepted by the end of a command are taken, its own are
  pub taken_later : (t c number b : ℕ) → t ≤ c → c < end → number ≤ ends_in (all_accepted_by t) → count_for system host b (all_accepted_by t) ≤ length (of_host host (taken system run b c)) → IsTrue (are_taken system run host number c b)
  unfolding ends_in
  taken_later t c number b low fit ended all =
      or_right (nat_eq (count_for system host b (of_command number (host_transfers system run host (suc c)))) 0) (nat_le (count_for system host b (up_to number (host_transfers system run host (suc c)))) (length (of_host host (taken system run b c)))) (
      let asks = ap (count_for system host b) (up_is c number fit ∙ within c number (omega (arith, ended, longer)) (λ i. nat_le i number) low_test ∙ early) ∙ ops_count system host b (chosen (λ i. nat_le i number) 1 (all_accepted_by t)) in
      let most = ops_chosen system host b (λ i. nat_le i number) 1 (all_accepted_by t) in
      let count = ops_count system host b (all_accepted_by t) in
      le-leb (count_for system host b (up_to number (host_transfers system run host (suc c)))) (length (of_host host (taken system run b c))) (omega (arith, all, asks, most, count))
      )
    where
      grown : IsPrefix (all_accepted_by t) (all_accepted_by c)
      grown = before_prefix (λ k. only_if (accepts k) (now k)) t c low

      low_test : (i : ℕ) → IsTrue (nat_le i number) → i ≤ number
      low_test i h = grind (arith, tests, h)

      ends_split : (xs ys : List Transfer) → ends_in (xs ++ ys) ≡ ends_in xs + ends_in ys
      ends_split [] ys = omega arith
      ends_split (x ∷ xs) ys = let more = ends_split xs ys in omega (arith, more)

      longer : ends_in (all_accepted_by t) ≤ ends_in (all_accepted_by c)
      longer = let joins = ap ends_in grown.joins in let split = ends_split (all_accepted_by t) grown.rest in omega (arith, joins, split)

      above : (i : ℕ) → 1 + ends_in (all_accepted_by t) ≤ i → (test : Bool) → nat_le i number ≡ test → IsFalse test
      above i past true e = let l = low_test i e in absurd (omega (arith, past, l, ended))
      above i past false e = refl

      early : chosen (λ i. nat_le i number) 1 (all_accepted_by c) ≡ chosen (λ i. nat_le i number) 1 (all_accepted_by t)
      early =
          ap (chosen (λ i. nat_le i number) 1) (sym grown.joins)
          ∙ chosen_append system host (λ i. nat_le i number) 1 (all_accepted_by t) grown.rest
          ∙ ap (λ l. chosen (λ i. nat_le i number) 1 (all_accepted_by t) ++ l) (none_above system host (λ i. nat_le i number) (1 + ends_in (all_accepted_by t)) grown.rest (λ i past. above i past (nat_le i number) refl))
          ∙ append-nil (chosen (λ i. nat_le i number) 1 (all_accepted_by t))

  nat_le_zero : (i : ℕ) → 1 ≤ i → IsFalse (nat_le i 0)
  nat_le_zero i h = grind (arith, tests, h)

  pub finished_given : (c j : ℕ) → c < end → IsTrue (is_finished system run host j c) → (reads_in (chosen (λ i. nat_eq i j) 1 (whole c)) ≡ 0) ⊎ (reads_in (chosen (λ i. nat_le i j) 1 (whole c)) ≤ given_before system run host c)
  finished_given c j h done =
      by_own (nat_eq (length (read_beats (of_command j (host_transfers system run host (suc c))))) 0) refl (and_parts (nat_le j _ && list_all (are_taken system run host j c) (numbers 0 system.agents)) (are_given system run host j c) done).1
    where
      by_own : (b : Bool) → nat_eq (length (read_beats (of_command j (host_transfers system run host (suc c))))) 0 ≡ b → IsTrue (b || nat_le (length (read_beats (up_to j (host_transfers system run host (suc c))))) (given_before system run host c)) →
          (reads_in (chosen (λ i. nat_eq i j) 1 (whole c)) ≡ 0) ⊎ (reads_in (chosen (λ i. nat_le i j) 1 (whole c)) ≤ given_before system run host c)
      by_own true e r =
          let none : length (read_beats (of_command j (host_transfers system run host (suc c)))) ≡ 0 = grind (arith, tests, e) in
          inl (sym (ap reads_in (of_is c j h)) ∙ sym (reads_length system host (of_command j (host_transfers system run host (suc c)))) ∙ none)
      by_own false e r =
          let all : length (read_beats (up_to j (host_transfers system run host (suc c)))) ≤ given_before system run host c = grind (arith, tests, r) in
          let a = reads_length system host (up_to j (host_transfers system run host (suc c))) in
          let b = ap reads_in (up_is c j h) in
          inr (omega (arith, all, a, b))

  pub earlier_given : (c k : ℕ) → c < end → ((j : ℕ) → 1 ≤ j → j ≤ k → IsTrue (is_finished system run host j c)) → reads_in (chosen (λ i. nat_le i k) 1 (whole c)) ≤ given_before system run host c
  unfolding reads_in
  earlier_given c zero h all = let none = ap reads_in (none_above system host (λ i. nat_le i 0) 1 (whole c) (λ i low. nat_le_zero i low)) in omega (arith, none)
  earlier_given c (suc k) h all =
      let more = earlier_given c k h (λ j low high. all j low (omega (arith, high))) in
      let split = reads_step system host k 1 (whole c) in
      elim (finished_given c (suc k) h (all (suc k) (omega arith) (omega arith))) [
        | inl none ↦ omega (arith, more, split, none)
        | inr given ↦ given
      ]

  not_both : (a b : Bool) → IsTrue (not (a && b)) → IsFalse a ⊎ IsFalse b
  not_both true true h = absurd (no_true h)
  not_both true false h = inr refl
  not_both false b h = inl refl

  module _ (c k : ℕ) (place : Option ℕ) (h : c < end) (oldest : IsTrue (is_oldest system run host (suc k) c)) (for_place : IsTrue (is_for system run host place (suc k) (suc c)))
      (bursts : IsTrue (is_bursting system run host place c) → IsTrue (shows signals c)) where
    abbrev number : ℕ
    number = suc k

    unfinished : IsTrue (nat_le 1 number && nat_le number (commands_begun system run host (suc c))) × IsTrue (not (is_finished system run host number c))
    unfinished = and_parts (nat_le 1 number && nat_le number (commands_begun system run host (suc c))) (not (is_finished system run host number c)) (and_parts _ (are_finished_before system run host number c) oldest).0

    all_finished : (j : ℕ) → 1 ≤ j → j ≤ k → IsTrue (is_finished system run host j c)
    all_finished j low high = each_holds (λ earlier. is_finished system run host earlier c) 1 (number - 1) j (and_parts _ (are_finished_before system run host number c) oldest).1 low (omega (arith, high))

    has_begun : number ≤ begins_in (whole c)
    has_begun =
        let t = (and_parts (nat_le 1 number) (nat_le number (commands_begun system run host (suc c))) unfinished.0).1 in
        let n : number ≤ commands_begun system run host (suc c) = grind (arith, tests, t) in
        let a = begins_length (host_transfers system run host (suc c)) in
        let b = ap begins_in (presented_is c h) in
        omega (arith, n, a, b)

    any_for : IsTrue (list_any (λ (t : Transfer). is_place place (place_of system host t)) (chosen (λ i. nat_eq i number) 1 (whole c)))
    any_for = subst (λ l. IsTrue (list_any (λ (t : Transfer). is_place place (place_of system host t)) l)) (of_is c number h) for_place

    all_for : IsTrue (list_all (λ (t : Transfer). is_place place (place_of system host t)) (chosen (λ i. nat_eq i number) 1 (whole c)))
    all_for =
        let one = one_place system host None number 1 (whole c) (whole_steady c h) in
        subst (λ p. IsTrue (list_all (λ (t : Transfer). is_place p (place_of system host t)) (chosen (λ i. nat_eq i number) 1 (whole c)))) (any_of_all system host one.0 place (chosen (λ i. nat_eq i number) 1 (whole c)) one.1 any_for) one.1

    -- the command hasn't ended: its beat is shown
    goes_on : ends_in (all_accepted_by c) < number → Outcome system run host place number c
    unfolding is_some Steady chosen begins_in
    goes_on less = by_shown (shows signals c) refl
      where
        st : Stands c
        st = stands c (omega (arith, h))

        balance : begins_in (all_accepted_by c) + is_some system host None ≡ ends_in (all_accepted_by c) + is_some system host (after system host None (all_accepted_by c))
        balance = begins_and_ends system host None (all_accepted_by c) (stands c (omega (arith, h))).steady

        at_most_one : (o : Option (Option ℕ)) → is_some system host o ≤ 1
        at_most_one None = omega arith
        at_most_one (Some p) = omega arith

        opened_so : (b : Bool) (x : Option ℕ) → (if b then Some x else None) ≡ Some place → IsTrue b × (x ≡ place)
        opened_so true x e = (refl, cc)
        opened_so false x e = absurd cc

        any_append : (xs ys : List Transfer) → IsTrue (list_any (λ (t : Transfer). is_place place (place_of system host t)) (xs ++ ys)) → IsTrue (list_any (λ (t : Transfer). is_place place (place_of system host t)) xs) ⊎ IsTrue (list_any (λ (t : Transfer). is_place place (place_of system host t)) ys)
        any_append [] ys any = inr any
        any_append (x ∷ xs) ys any = by_head (is_place place (place_of system host x)) any (any_append xs ys)
          where
            by_head : (b : Bool) → IsTrue (b || list_any (λ (t : Transfer). is_place place (place_of system host t)) (xs ++ ys)) →
                (IsTrue (list_any (λ (t : Transfer). is_place place (place_of system host t)) (xs ++ ys)) → IsTrue (list_any (λ (t : Transfer). is_place place (place_of system host t)) xs) ⊎ IsTrue (list_any (λ (t : Transfer). is_place place (place_of system host t)) ys)) →
                IsTrue (b || list_any (λ (t : Transfer). is_place place (place_of system host t)) xs) ⊎ IsTrue (list_any (λ (t : Transfer). is_place place (place_of system host t)) ys)
            by_head true any more = inl refl
            by_head false any more = more any

        place_left : number ≡ 1 + ends_in (all_accepted_by c) → IsTrue (list_any (λ (t : Transfer). is_place place (place_of system host t)) (chosen (λ i. nat_eq i number) 1 (all_accepted_by c))) → after system host None (all_accepted_by c) ≡ Some place
        place_left e any = open_place system host None place 1 number (all_accepted_by c) (stands c (omega (arith, h))).steady e any

        by_shown : (b : Bool) → shows signals c ≡ b → Outcome system run host place number c
        by_shown false e =
            let bal = balance in
            let most = at_most_one (after system host None (all_accepted_by c)) in
            let nothing : whole c ≡ all_accepted_by c = rw e (append-nil (all_accepted_by c)) in
            let begun = has_begun in
            let same = ap begins_in nothing in
            let open_now = place_left (omega (arith, less, bal, most, begun, same)) (subst (λ l. IsTrue (list_any (λ (t : Transfer). is_place place (place_of system host t)) (chosen (λ i. nat_eq i number) 1 l))) nothing any_for) in
            let is = opened_so (nat_lt 0 (burst c).left) (system.place host Writes (burst c).first) (sym (stands c (omega (arith, h))).opened ∙ open_now) in
            let shown = bursts (both _ _ is.0 (ap (is_place place) is.1 ∙ place_self place)) in
            absurd (no_true (sym e ∙ shown))
        by_shown true e = a_beat (let f = ends_length (all_accepted_by c) in lt-ltb (length (filter (λ (t : Transfer). t.ends) (all_accepted_by c))) number (omega (arith, less, f))) (both _ _ e here) all_given
          where
            whole_is : whole c ≡ all_accepted_by c ++ now c ∷ []
            whole_is = rw e refl

            steady_now : Steady system host (after system host None (all_accepted_by c)) (now c ∷ [])
            steady_now = subst (λ o. Steady system host o (now c ∷ [])) (sym (stands c (omega (arith, h))).opened) (step_at c h e).steady

            one_begins : (o : Option (Option ℕ)) → Steady system host o (now c ∷ []) → begins_in (now c ∷ []) + is_some system host o ≡ 1
            one_begins None s = let b : (if (now c).begins then 1 else 0) ≡ suc zero = rw s.0 refl in omega (arith, b)
            one_begins (Some p) s = let b : (if (now c).begins then 1 else 0) ≡ zero = rw s.0 refl in omega (arith, b)

            numbered_so : number ≡ 1 + ends_in (all_accepted_by c)
            numbered_so =
                let bal = balance in
                let one = one_begins (after system host None (all_accepted_by c)) steady_now in
                let begun = has_begun in
                let split = ap begins_in whole_is ∙ begins_append (all_accepted_by c) (now c ∷ []) in
                omega (arith, less, bal, one, begun, split)

            place_of_open : (o : Option (Option ℕ)) → o ≡ Some place → Steady system host o (now c ∷ []) → IsTrue (is_place place (place_of system host (now c)))
            place_of_open None f s = absurd cc
            place_of_open (Some p) f s = let same : p ≡ place = cc in ap (is_place place) (s.2 ∙ same) ∙ place_self place

            own_place : (b : Bool) → IsTrue (list_any (λ (t : Transfer). is_place place (place_of system host t)) ((if b then now c ∷ [] else []) ++ [])) → IsTrue (is_place place (place_of system host (now c)))
            own_place true any = by_head (is_place place (place_of system host (now c))) any
              where
                by_head : (b : Bool) → IsTrue (b || false) → IsTrue b
                by_head true y = refl
                by_head false y = absurd (no_true y)
            own_place false any = absurd (no_true any)

            here : IsTrue (is_place place (place_of system host (now c)))
            here =
                let split = ap (chosen (λ i. nat_eq i number) 1) whole_is ∙ chosen_append system host (λ i. nat_eq i number) 1 (all_accepted_by c) (now c ∷ []) in
                elim (any_append (chosen (λ i. nat_eq i number) 1 (all_accepted_by c)) (chosen (λ i. nat_eq i number) (1 + ends_in (all_accepted_by c)) (now c ∷ [])) (subst (λ l. IsTrue (list_any (λ (t : Transfer). is_place place (place_of system host t)) l)) split any_for)) [
                  | inl before ↦ place_of_open (after system host None (all_accepted_by c)) (place_left numbered_so before) steady_now
                  | inr own ↦ own_place (nat_eq (1 + ends_in (all_accepted_by c)) number) own
                ]

            all_given : IsTrue (are_all_given system run host c)
            all_given =
                let n = numbered_so in
                let a = reads_length system host (all_accepted_by c) in
                let b = reads_ended system host None k 1 (all_accepted_by c) (stands c (omega (arith, h))).steady (omega (arith, n)) in
                let w = ap reads_in (within c k (omega (arith, n)) (λ i. nat_le i k) (λ i t. leb_true i k t)) in
                let g = earlier_given c k h all_finished in
                le-leb (length (read_beats (all_accepted_by c))) (given_before system run host c) (omega (arith, a, b, w, g))
              where
                leb_true : (i n : ℕ) → IsTrue (nat_le i n) → i ≤ n
                leb_true i n t = grind (arith, tests, t)

    -- it has: an operation isn't taken, or a word isn't given
    has_ended : number ≤ ends_in (all_accepted_by c) → IsTrue (not (is_finished system run host number c)) → Outcome system run host place number c
    has_ended more open_still = by_parts (not_both (nat_le number (length (filter (λ (t : Transfer). t.ends) (all_accepted_by c))) && list_all (are_taken system run host number c) (numbers 0 system.agents)) (are_given system run host number c) open_still)
      where
        ended : IsTrue (nat_le number (length (filter (λ (t : Transfer). t.ends) (all_accepted_by c))))
        ended = let e = ends_length (all_accepted_by c) in le-leb number (length (filter (λ (t : Transfer). t.ends) (all_accepted_by c))) (omega (arith, more, e))

        not_lacking : IsFalse (lacks_beats system run host number c)
        not_lacking = let e = ends_length (all_accepted_by c) in (let most : number ≤ length (filter (λ (t : Transfer). t.ends) (all_accepted_by c)) = omega (arith, more, e) in grind (arith, tests, most))

        second : (a b : Bool) → IsTrue a → IsFalse (a && b) → IsFalse b
        second true b h f = f
        second false b h f = absurd (no_true h)

        upto_same : chosen (λ i. nat_le i number) 1 (whole c) ≡ chosen (λ i. nat_le i number) 1 (all_accepted_by c)
        upto_same = within c number (omega (arith, more)) (λ i. nat_le i number) (λ i t. leb_true i number t)
          where
            leb_true : (i n : ℕ) → IsTrue (nat_le i n) → i ≤ n
            leb_true i n t = grind (arith, tests, t)

        from_operation : (b : ℕ) → IsFalse (are_taken system run host number c b) → Outcome system run host place number c
        from_operation b not_taken =
            let r0 = (not_reached (count_for system host b (of_command number (host_transfers system run host (suc c)))) (count_for system host b (up_to number (host_transfers system run host (suc c)))) (length (of_host host (taken system run b c))) not_taken).0 in
            let own = ap (count_for system host b) (of_is c number h) ∙ ops_count system host b (chosen (λ i. nat_eq i number) 1 (whole c)) in
            an_operation not_lacking b (some_there system host b place (chosen (λ i. nat_eq i number) 1 (whole c)) all_for (omega (arith, r0, own))) not_taken

        from_word : IsFalse (are_given system run host number c) → Outcome system run host place number c
        from_word not_given = by_given (gives_word (system.host host) (run.at_host host) c) refl
          where
            r : given_before system run host c < reads_in (chosen (λ i. nat_le i number) 1 (whole c))
            r =
                let n = (not_reached (length (read_beats (of_command number (host_transfers system run host (suc c))))) (length (read_beats (up_to number (host_transfers system run host (suc c))))) (given_before system run host c) not_given).1 in
                let a = reads_length system host (up_to number (host_transfers system run host (suc c))) in
                let b = ap reads_in (up_is c number h) in
                omega (arith, n, a, b)

            low : reads_in (chosen (λ i. nat_le i k) 1 (whole c)) ≤ given_before system run host c
            low = earlier_given c k h all_finished

            by_given : (b : Bool) → gives_word (system.host host) (run.at_host host) c ≡ b → Outcome system run host place number c
            by_given true e =
                let next = next_word system host None place k 1 (given_before system run host c) (whole c) (whole_steady c h) low r all_for in
                a_given not_lacking (both _ _ e (subst (λ l. IsTrue (list_any (λ (q : Asked). is_place place q.place) (take 1 (drop (given_before system run host c) (asked_among system host l))))) (sym (presented_is c h)) next)) not_given
            by_given false e =
                let lower_same = within c k (omega (arith, more)) (λ i. nat_le i k) (λ i t. leb_true i k t) in
                let own_same = within c number (omega (arith, more)) (λ i. nat_eq i number) (λ i t. eq_low i number t) in
                let low' = ap reads_in lower_same in
                let high' = ap reads_in upto_same in
                let l = low in
                let u = r in
                let next = next_word system host None place k 1 (given_before system run host c) (all_accepted_by c) (stands c (omega (arith, h))).steady (omega (arith, l, low')) (omega (arith, u, high')) (subst (λ ts. IsTrue (list_all (λ (t : Transfer). is_place place (place_of system host t)) ts)) own_same all_for) in
                let still : given_before system run host (suc c) ≡ given_before system run host c = ap length (rw e (append-nil (given (system.host host) (run.at_host host) c))) in
                a_word not_lacking e (subst (λ n. IsTrue (list_any (λ (q : Asked). is_place place q.place) (take 1 (drop n (asked_among system host (all_accepted_by (suc c))))))) (sym still)
                (subst (λ l. IsTrue (list_any (λ (q : Asked). is_place place q.place) (take 1 (drop (given_before system run host c) l)))) (sym (asked_append system host (all_accepted_by c) (only_if (accepts c) (now c)))) (next_stays place (given_before system run host c) (asked_among system host (all_accepted_by c)) (asked_among system host (only_if (accepts c) (now c))) next)))
              where
                leb_true : (i n : ℕ) → IsTrue (nat_le i n) → i ≤ n
                leb_true i n t = grind (arith, tests, t)

                eq_low : (i n : ℕ) → IsTrue (nat_eq i n) → i ≤ n
                eq_low i n t = grind (arith, tests, t)

        by_parts : IsFalse (nat_le number (length (filter (λ (t : Transfer). t.ends) (all_accepted_by c))) && list_all (are_taken system run host number c) (numbers 0 system.agents)) ⊎ IsFalse (are_given system run host number c) → Outcome system run host place number c
        by_parts (inl f) = let found = some_fails (are_taken system run host number c) 0 system.agents (second (nat_le number (length (filter (λ (t : Transfer). t.ends) (all_accepted_by c)))) _ ended f) in from_operation found.0 found.1
        by_parts (inr f) = from_word f

    pub outcome : Outcome system run host place number c
    outcome = by_ends (nat_lt (ends_in (all_accepted_by c)) number) refl
      where
        by_ends : (b : Bool) → nat_lt (ends_in (all_accepted_by c)) number ≡ b → Outcome system run host place number c
        by_ends true e = goes_on (ltb-true _ _ e)
        by_ends false e = has_ended (ltb-false _ _ e) unfinished.1
