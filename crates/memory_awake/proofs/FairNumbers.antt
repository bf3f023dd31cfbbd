-- Commands of a host that have operations at an agent have different turns there.
use Rattle.std.proofs.Common.{ℕ, zero, suc, ◌<◌, ◌≤◌, ◌≡◌, ◌+◌, Bool, true, false, not, ◌&&◌, ◌||◌, List, [], ◌∷◌, ◌++◌, length, replicate, nat_eq, nat_le, if◌then◌else◌, arith, refl, sym, ap, subst, ◌∙◌, tests, IsTrue, Option, Some, None}
use Rattle.std.specs.List.{list_any}
use Rattle.memory_runs.specs.Views.{System, Run}
use Rattle.memory_runs.specs.Operations.{Operation}
use Rattle.memory_runs.specs.Commands.{Transfer}
use Rattle.memory_runs.specs.Legal.{IsLegalHost}
use Rattle.memory_runs.specs.Order.{is_agent, place_of, host_transfers, transfer_operations}
use Rattle.memory_machines.specs.Link.{is_nonempty}
use Rattle.memory_machines.specs.Begun.{turn_of}
use Rattle.memory_awake.proofs.Bits.{no_true}
use Rattle.memory_awake.proofs.Beats.{is_the_place}
use Rattle.memory_awake.proofs.Numbers.{Steady, after_one, presented_is, whole_steady}
use Rattle.memory_awake.proofs.FairRoom.{rest_is}
use Rattle.memory_awake.proofs.FairBegun.{owners_among}

abbrev pub is_among : ℕ → List ℕ → Bool
is_among i xs = list_any (nat_eq i) xs

past_copies : (i k x : ℕ) (rest : List ℕ) → nat_eq i x ≡ false → is_among i (replicate k x ++ rest) ≡ is_among i rest
past_copies i zero x rest e = refl
past_copies i (suc k) x rest e = rw e (past_copies i k x rest e)

module _ (system : System) (host agent : ℕ) where
  abbrev own : ℕ → List Transfer → List ℕ
  own number ts = owners_among system host agent number ts

  abbrev here : Transfer → Bool
  here t = is_agent agent (place_of system host t)

  abbrev acts : Transfer → Bool
  acts t = is_nonempty (transfer_operations system host agent t)

  abbrev next : ℕ → Transfer → ℕ
  next number t = if t.ends then number + 1 else number

  abbrev more_turns : ℕ → Bool → Transfer → ℕ
  more_turns n acted t = if here t && (t.ends && (acted || acts t)) then suc n else n

  abbrev still_acted : Bool → Transfer → Bool
  still_acted acted t = if here t then not t.ends && (acted || acts t) else acted

  no_less : (n : ℕ) (b : Bool) → n ≤ (if b then suc n else n)
  no_less n true = omega arith
  no_less n false = omega arith

  next_up : (number : ℕ) (b : Bool) → number ≤ (if b then number + 1 else number)
  next_up number true = omega arith
  next_up number false = omega arith

  -- turns don't fall
  least : (number n : ℕ) (acted : Bool) (ts : List Transfer) (j : ℕ) → n ≤ turn_of system host agent number n acted ts j
  least number n acted [] j = omega arith
  least number n acted (t ∷ ts) j =
      let more = least (next number t) (more_turns n acted t) (still_acted acted t) ts j in
      let grown = no_less n (here t && (t.ends && (acted || acts t))) in
      by_past (nat_le j number) (omega (arith, more, grown))
    where
      by_past : (b : Bool) → n ≤ turn_of system host agent (next number t) (more_turns n acted t) (still_acted acted t) ts j →
          n ≤ (if b then n else turn_of system host agent (next number t) (more_turns n acted t) (still_acted acted t) ts j)
      by_past true more = omega arith
      by_past false more = more

  in_rest : (i number : ℕ) (t : Transfer) (ts : List Transfer) → nat_eq i number ≡ false → is_among i (own number (t ∷ ts)) ≡ is_among i (own (next number t) ts)
  in_rest i number t ts e = by_here (here t)
    where
      by_here : (b : Bool) → is_among i ((if b then replicate (length (transfer_operations system host agent t)) number else []) ++ own (next number t) ts) ≡ is_among i (own (next number t) ts)
      by_here true = past_copies i (length (transfer_operations system host agent t)) number (own (next number t) ts) e
      by_here false = refl

  -- numbers don't fall
  above : (i number : ℕ) (ts : List Transfer) → IsTrue (is_among i (own number ts)) → number ≤ i
  above i number [] is = absurd (no_true is)
  above i number (t ∷ ts) is = by_own (λ is. above i (next number t) ts is) (nat_eq i number) refl
    where
      by_own : (IsTrue (is_among i (own (next number t) ts)) → next number t ≤ i) → (b : Bool) → nat_eq i number ≡ b → number ≤ i
      by_own rest true e = let same : i ≡ number = grind (arith, tests, e) in omega (arith, same)
      by_own rest false e = let low = rest (sym (in_rest i number t ts e) ∙ is) in let up = next_up number t.ends in omega (arith, low, up)

  later_past : (j number : ℕ) → number < j → (nat_le j number ≡ false) × (nat_eq j number ≡ false)
  later_past j number less = (grind (arith, tests, less), grind (arith, tests, less))

  -- where a command that has acted is under way, later commands have a later turn
  open_turn : (number n j : ℕ) (ts : List Transfer) → Steady system host (Some (Some agent)) ts → number < j → IsTrue (is_among j (own number ts)) → n < turn_of system host agent number n true ts j
  unfolding Steady
  open_turn number n j [] steady less is = absurd (no_true is)
  open_turn number n j (t ∷ ts) steady less is =
      let past = later_past j number less in
      let place : here t ≡ true = ap (is_agent agent) steady.2 ∙ (let same : nat_eq agent agent ≡ true = grind (arith, tests) in same) in
      rw (past.0, place) (by_end (λ st m. open_turn number n j ts st less m) t.ends refl (sym (in_rest j number t ts past.1) ∙ is))
    where
      by_end : (Steady system host (Some (Some agent)) ts → IsTrue (is_among j (own number ts)) → n < turn_of system host agent number n true ts j) → (b : Bool) → t.ends ≡ b →
          IsTrue (is_among j (own (if b then number + 1 else number) ts)) →
          n < turn_of system host agent (if b then number + 1 else number) (if b && true then suc n else n) (not b && true) ts j
      by_end go true e is = let more = least (number + 1) (suc n) false ts j in omega (arith, more)
      by_end go false e is = go (subst (λ q. Steady system host (Some q) ts) steady.2 (subst (λ b. Steady system host (if b then None else Some (place_of system host t)) ts) e steady.3)) is

  -- of two commands with operations the later one has the later turn
  pub later_turn : (opened : Option (Option ℕ)) (number n : ℕ) (acted : Bool) (ts : List Transfer) (i j : ℕ) → Steady system host opened ts → i < j →
      IsTrue (is_among i (own number ts)) → IsTrue (is_among j (own number ts)) →
      turn_of system host agent number n acted ts i < turn_of system host agent number n acted ts j
  unfolding Steady
  later_turn opened number n acted [] i j steady less is after = absurd (no_true is)
  later_turn opened number n acted (t ∷ ts) i j steady less is after =
      let low = above i number (t ∷ ts) is in
      let past = later_past j number (omega (arith, low, less)) in
      let there = sym (in_rest j number t ts past.1) ∙ after in
      let rest = rest_is system host opened t ts steady in
      rw past.0 (by_own (λ is. later_turn (after_one system host opened t) (next number t) (more_turns n acted t) (still_acted acted t) ts i j rest less is there) there rest (nat_eq i number) refl low)
    where
      after_it : ℕ → ℕ
      after_it k = turn_of system host agent (next number t) (more_turns n acted t) (still_acted acted t) ts k

      by_acts : (IsTrue (is_among i (own (next number t) ts)) → after_it i < after_it j) → IsTrue (is_among j (own (next number t) ts)) → Steady system host (after_one system host opened t) ts → i ≡ number →
          (h : Bool) → here t ≡ h → (o : List Operation) → transfer_operations system host agent t ≡ o → IsTrue (is_among i ((if h then replicate (length o) number else []) ++ own (next number t) ts)) → n < after_it j
      by_acts go there rest same false f o e is = let more = go is in let low = least (next number t) (more_turns n acted t) (still_acted acted t) ts i in let grown = no_less n (here t && (t.ends && (acted || acts t))) in omega (arith, more, low, grown)
      by_acts go there rest same true f [] e is = let more = go is in let low = least (next number t) (more_turns n acted t) (still_acted acted t) ts i in let grown = no_less n (here t && (t.ends && (acted || acts t))) in omega (arith, more, low, grown)
      by_acts go there rest same true f (x ∷ o) e is =
          let some : acts t ≡ true = ap is_nonempty e in
          rw (f, some, or_true acted) (by_end t.ends refl)
        where
          or_true : (b : Bool) → (b || true) ≡ true
          or_true true = refl
          or_true false = refl

          by_end : (b : Bool) → t.ends ≡ b → n < turn_of system host agent (if b then number + 1 else number) (if b && true then suc n else n) (not b && true) ts j
          by_end true k = let more = least (number + 1) (suc n) false ts j in omega (arith, more)
          by_end false k =
              let place : place_of system host t ≡ Some agent = is_the_place agent (place_of system host t) f in
              let left : after_one system host opened t ≡ Some (Some agent) = rw k (ap Some place) in
              open_turn number n j ts (subst (λ q. Steady system host q ts) left rest) (omega (arith, same, less)) (subst (λ b. IsTrue (is_among j (own (if b then number + 1 else number) ts))) k there)

      by_own : (IsTrue (is_among i (own (next number t) ts)) → after_it i < after_it j) → IsTrue (is_among j (own (next number t) ts)) → Steady system host (after_one system host opened t) ts → (b : Bool) → nat_eq i number ≡ b → number ≤ i →
          (if nat_le i number then n else after_it i) < after_it j
      by_own go there rest true e low =
          let same : i ≡ number = grind (arith, tests, e) in
          let first : nat_le i number ≡ true = grind (arith, tests, same) in
          rw first (by_acts go there rest same (here t) refl (transfer_operations system host agent t) refl is)
      by_own go there rest false e low =
          let up : nat_le i number ≡ false = grind (arith, tests, e, low) in
          rw up (go (sym (in_rest i number t ts e) ∙ is))

-- what a host has presented stands steady
pub presented_steady : (system : System) (run : Run) (host end : ℕ) → IsLegalHost (system.host host) (run.at_host host) end → (c : ℕ) → c ≤ end → Steady system host None (host_transfers system run host c)
unfolding Steady
presented_steady system run host end legal zero low = tt
presented_steady system run host end legal (suc c) low = subst (Steady system host None) (sym (presented_is system run host end legal c low)) (whole_steady system run host end legal c low)
