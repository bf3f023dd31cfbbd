-- An arbiter passes beats and words on in every run.
use Rattle.std.proofs.Common.{◌≡◌, ℕ, zero, suc, ◌+◌, ◌-◌, ◌^◌, ◌<◌, ◌≤◌, Bool, true, false, not, ◌&&◌, ◌||◌, ◌==◌, if◌then◌else◌, nat_eq, List, [], ◌∷◌, length, get_or, Option, Some, None, IfSome, refl, sym, subst, ap, ◌∙◌, arith}
use Rattle.std.proofs.lemmas.Bool.{eqb-true, eq-eqb, false≢true}
use Rattle.std.proofs.lemmas.List.{length-map}
use Rattle.std.proofs.lemmas.Nat.Bits.{bit_at-pow_other, bit_at-zero}
use Rattle.std.proofs.lemmas.Option.{same_Some, none-some}
use Rattle.std.specs.Int.{bit_at}
use Rattle.histories.specs.History.{is_raised}
use Rattle.netlist.specs.Netlists.{Netlist}
use Rattle.netlist.specs.Longer.{Extends}
use Rattle.netlist.specs.Runs.{Cycle, Run, cycle_of, IsEndlessRun, IsValuation}
use Rattle.memory_machines.specs.Machines.{Raw}
use Rattle.command_nets.specs.declared.nets.CommandNets.{CommandNets}
use Rattle.command_nets.specs.Nets.{raw_in}
use Rattle.command_nets.specs.Groups.{nothing_shown, is_shown}
use Rattle.mm_arbiter.specs.declared.asker.Asker.{Asker}
use Rattle.mm_arbiter.specs.declared.back.BackNets.{BackNets}
use Rattle.mm_arbiter.specs.declared.back.BelowNets.{BelowNets}
use Rattle.mm_arbiter.specs.declared.rounds.RoundNets.{RoundNets}
use Rattle.mm_arbiter.specs.declared.arbiter.HeldArbiter.{HeldArbiter}
use Rattle.mm_arbiter.specs.Asks.{seat_bit, chosen_seat, holder_after, first_high, first_after, past, or_else, one_more, stays_on}
use Rattle.mm_arbiter.specs.Shown.{asks_in, raws_in}
use Rattle.mm_arbiter.specs.Rounds.{seat_in, IsTurn}
use Rattle.mm_arbiter.specs.Forward.{RunsRound, ArbiterForward, forward_lasts}
use Rattle.mm_arbiter.specs.Backward.{IsBackOf, AreBacks, IsStep, RoundBackward, lone_back, round_backward_lasts}
use Rattle.mm_arbiter.specs.Passes.{IsPassed, ArePassed, PassesOn}

-- ---- the seat that is chosen is one of them

first_within : (bits : List Bool) (s : ℕ) → first_high bits ≡ Some s → s < length bits
first_within [] s e = absurd (none-some s e)
first_within (true ∷ later) s e = let same = same_Some 0 s e in omega (arith, same)
first_within (false ∷ later) s e = by (first_high later) refl e (first_within later)
  where
    by : (o : Option ℕ) → first_high later ≡ o → one_more o ≡ Some s → ((k : ℕ) → first_high later ≡ Some k → k < length later) → s < suc (length later)
    by None none e rest = absurd (none-some s e)
    by (Some k) some e rest = (let low = rest k some in let same = same_Some (suc k) s e in omega (arith, low, same))

past_length : (k : ℕ) (bits : List Bool) → length (past k bits) ≡ length bits
past_length zero bits = refl
past_length (suc k) [] = refl
past_length (suc k) (bit ∷ later) = ap suc (past_length k later)

after_within : (k s : ℕ) (bits : List Bool) → first_after k bits ≡ Some s → s < length bits
after_within k s bits e = by (first_high (past (suc k) bits)) refl e
  where
    by : (o : Option ℕ) → first_high (past (suc k) bits) ≡ o → or_else o (first_high bits) ≡ Some s → s < length bits
    by None none e = first_within bits s e
    by (Some j) some e = (let low = first_within (past (suc k) bits) j some in let same = same_Some j s e in let long = past_length (suc k) bits in omega (arith, low, same, long))

chosen_within : (inside : Bool) (k left s : ℕ) (bits : List Bool) → k < length bits → chosen_seat inside k left bits ≡ Some s → s < length bits
chosen_within true k left s bits low e = by (get_or bits k false) e
  where
    by : (t : Bool) → (if t then Some k else None) ≡ Some s → s < length bits
    by true e = (let same = same_Some k s e in omega (arith, low, same))
    by false e = absurd (none-some s e)
chosen_within false k left s bits low e = by (stays_on k left bits) e
  where
    by : (t : Bool) → (if t then Some k else first_after k bits) ≡ Some s → s < length bits
    by true e = (let same = same_Some k s e in omega (arith, low, same))
    by false e = after_within k s bits e

holder_within : (k count : ℕ) (o : Option ℕ) → k < count → ((s : ℕ) → o ≡ Some s → s < count) → holder_after k o < count
holder_within k count None low h = low
holder_within k count (Some s) low h = h s refl

-- ---- what its bit says

chosen_by_bit : (o : Option ℕ) (seat : ℕ) → (bit_at (seat_bit o) seat == 1) ≡ true → o ≡ Some seat
chosen_by_bit None seat e = absurd (false≢true (ap (λ n. n == 1) (sym (bit_at-zero seat)) ∙ e))
chosen_by_bit (Some s) seat e = by (nat_eq seat s) refl
  where
    by : (t : Bool) → nat_eq seat s ≡ t → Some s ≡ Some seat
    by true same = ap Some (sym (eqb-true seat s same))
    by false other = absurd (false≢true (ap (λ n. n == 1) (sym (bit_at-pow_other s seat (λ same. false≢true (sym other ∙ eq-eqb seat s same)))) ∙ e))

low_parts : (chosen waits told : Bool) → told ≡ (not chosen || waits) → told ≡ false → (chosen ≡ true) × (waits ≡ false)
low_parts true waits told e low = (refl, sym e ∙ low)
low_parts false waits told e low = absurd (false≢true (sym low ∙ e))

came_when : (valid same told : Bool) → told ≡ (valid && same) → valid ≡ true → same ≡ true → told ≡ true
came_when valid same told e v s = e ∙ ap (λ t. t && same) v ∙ s

-- ---- each cycle of a run

-- one of the seats holds the turn
record Holds (run : Run) (round : RoundNets) (commands : List CommandNets) (c : ℕ) : Type 0 where
  place : ℕ
  within : place < length commands
  holder : run.net c round.turns.holder.number ≡ 2 ^ place

module _ (netlist : Netlist) (askers : List Asker) (commands : List CommandNets) (command : CommandNets) (round : RoundNets) (below : BelowNets) (word_bits : ℕ) (backs : List BackNets) (f : RunsRound askers commands command netlist round)
    (b : RoundBackward askers command below word_bits backs netlist round) (some : 1 ≤ length commands) (run : Run) (endless : IsEndlessRun netlist run) where
  valued : (c : ℕ) → IsValuation netlist (cycle_of run c)
  valued c = (endless (c + 1)).valuations c (omega arith)

  steps : (c : ℕ) → IsStep round command below.wait (cycle_of run c) (cycle_of run (c + 1))
  steps c = b.steps run (c + 2) (endless (c + 2)) c (omega arith)

  turn : (c : ℕ) (h : Holds run round commands c) → IsTurn (cycle_of run c) askers commands command round h.place
  turn c h = f.turns (cycle_of run c) (valued c) h.place h.within h.holder

  next : (c : ℕ) → Holds run round commands c → Holds run round commands (suc c)
  next c h =
      let many : length (asks_in (cycle_of run c) commands) ≡ length commands = length-map commands (λ (command : CommandNets). is_shown (raw_in (cycle_of run c) command)) in
      let next_of : suc c ≡ c + 1 = omega arith in
      record {
        place = holder_after h.place (seat_in (cycle_of run c) round.turns commands h.place);
        within = holder_within h.place (length commands) (seat_in (cycle_of run c) round.turns commands h.place) h.within
            (λ s e. (let low = chosen_within (is_raised (run.net c round.turns.inside.number)) h.place (run.net c round.turns.left.number) s (asks_in (cycle_of run c) commands) (let low = h.within in omega (arith, low, many)) e in omega (arith, low, many)));
        holder = ap (λ n. run.net n round.turns.holder.number) next_of ∙ (steps c).holder ∙ (turn c h).holder;
      }

  holds : (c : ℕ) → Holds run round commands c
  holds zero = record { place = length commands - 1; within = omega (arith, some); holder = f.starts.holder run 1 (endless 1) (omega arith) }
  holds (suc c) = next c (holds c)

  -- an asker of these seats
  passed : (c seat host : ℕ) (above : CommandNets) (back : BackNets) → get_or (raws_in (cycle_of run c) commands) seat nothing_shown ≡ raw_in (cycle_of run c) above → IsBackOf netlist round.chosen.seat below word_bits seat host back → IsPassed (cycle_of run c) host above command below back
  passed c seat host above back at given =
      let parts : is_raised (run.net c back.wait.number) ≡ false → ((bit_at (run.net c round.chosen.seat.number) seat == 1) ≡ true) × (is_raised (run.net c below.wait.number) ≡ false)
      = low_parts (bit_at (run.net c round.chosen.seat.number) seat == 1) (is_raised (run.net c below.wait.number)) (is_raised (run.net c back.wait.number)) (given.wait (cycle_of run c) (valued c)) in
      let t = turn c (holds c) in
      record {
        shown = λ low. t.shown seat (chosen_by_bit (seat_in (cycle_of run c) round.turns commands (holds c).place) seat (ap (λ n. bit_at n seat == 1) (sym t.chosen.seat) ∙ (parts low).0)) ∙ at;
        taken = λ low. (parts low).1;
        came = λ valid same. came_when (is_raised (run.net c below.answer.valid.number)) (nat_eq (run.net c below.tag.number) host) (is_raised (run.net c back.answer.valid.number)) (given.valid (cycle_of run c) (valued c)) valid (eq-eqb (run.net c below.tag.number) host same);
      }

  -- the asker behind so many others
  abbrev AreLast : ℕ → ℕ → List CommandNets → Type 0
  AreLast c from last = (k : ℕ) → get_or (raws_in (cycle_of run c) commands) (from + k) nothing_shown ≡ get_or (raws_in (cycle_of run c) last) k nothing_shown

  all_passed : (c from : ℕ) (last_askers : List Asker) (last : List CommandNets) (last_backs : List BackNets) → AreLast c from last → AreBacks netlist round.chosen.seat below word_bits from last_askers last_backs → ArePassed (cycle_of run c) command below last_askers last last_backs
  all_passed c from [] last last_backs at given = tt
  all_passed c from (asker ∷ later) [] last_backs at given = tt
  all_passed c from (asker ∷ later) (above ∷ last) [] at given = tt
  all_passed c from (asker ∷ later) (above ∷ last) (back ∷ last_backs) at given =
      let here : from ≡ from + 0 = omega arith in (
        passed c from asker.host above back (ap (λ n. get_or (raws_in (cycle_of run c) commands) n nothing_shown) here ∙ at 0) given.0,
        all_passed c (from + 1) later last last_backs (λ k. (let same : (from + 1) + k ≡ from + suc k = omega arith in ap (λ n. get_or (raws_in (cycle_of run c) commands) n nothing_shown) same ∙ at (suc k))) given.1,
      )

  pub passes : (c : ℕ) → ArePassed (cycle_of run c) command below askers commands backs
  passes c = all_passed c 0 askers commands backs (λ k. (let same : 0 + k ≡ k = omega arith in ap (λ n. get_or (raws_in (cycle_of run c) commands) n nothing_shown) same)) b.given

-- ---- two or more askers, and one alone

some_round : (P : RoundNets → Type 0) (o : Option RoundNets) (round : RoundNets) → o ≡ Some round → IfSome o P → P round
some_round P o round e h = let k : IfSome (Some round) P = subst (λ (x : Option RoundNets). IfSome x P) e h in k

pub round_passes : (netlist : Netlist) (askers : List Asker) (commands : List CommandNets) (command : CommandNets) (held : HeldArbiter) (round : RoundNets) (below : BelowNets) (word_bits : ℕ) (backs : List BackNets) → held.round ≡ Some round →
    ArbiterForward askers commands command held netlist → RoundBackward askers held.command below word_bits backs netlist round → length commands ≡ length askers → 1 ≤ length askers → PassesOn netlist askers commands command below backs
round_passes netlist askers commands command held round below word_bits backs is f b l some longer e run endless c =
    let forward : RunsRound askers commands command longer round = some_round (RunsRound askers commands command longer) held.round round is (forward_lasts askers commands command held netlist longer f e).round in
    let backward : RoundBackward askers command below word_bits backs longer round = round_backward_lasts askers command below word_bits backs netlist longer round (subst (λ (c : CommandNets). RoundBackward askers c below word_bits backs netlist round) f.command_is b) e in
    passes longer askers commands command round below word_bits backs forward backward (omega (arith, some, l)) run endless c

pub wire_passes : (netlist : Netlist) (askers : List Asker) (commands : List CommandNets) (command : CommandNets) (below : BelowNets) (backs : List BackNets) → commands ≡ command ∷ [] → backs ≡ lone_back below ∷ [] → PassesOn netlist askers commands command below backs
wire_passes netlist askers commands command below backs c b longer e run endless k =
    subst (λ (xs : List BackNets). ArePassed (cycle_of run k) command below askers commands xs) (sym b) (subst (λ (xs : List CommandNets). ArePassed (cycle_of run k) command below askers xs (lone_back below ∷ [])) (sym c) (wired askers))
  where
    wired : (xs : List Asker) → ArePassed (cycle_of run k) command below xs (command ∷ []) (lone_back below ∷ [])
    wired [] = tt
    wired (asker ∷ []) = (record { shown = λ low. refl; taken = λ low. low; came = λ valid same. valid }, tt)
    wired (asker ∷ other ∷ later) = (record { shown = λ low. refl; taken = λ low. low; came = λ valid same. valid }, tt)
