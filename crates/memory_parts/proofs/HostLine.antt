-- The host translator hands on the host's beats, in order, and holds nothing.
use Rattle.std.proofs.Common.{ℕ, zero, suc, ◌<◌, ◌≤◌, ◌≡◌, ◌+◌, ◌-◌, ◌*◌, ◌/◌, ◌%◌, ◌^◌, [], ◌∷◌, ◌++◌, List, Bool, true, false, not, ◌&&◌, ◌||◌, if◌then◌else◌, nat_lt, nat_eq, arith, refl, sym, ap, ap₂, ◌∙◌, subst, length, map, append-nil, append_assoc, length-append}
use Rattle.std.proofs.lemmas.Bool.{and_parts, not-true, ltb-false, ltb-true, lt-ltb}
use Rattle.std.proofs.lemmas.List.{map-append, length-map}
use Rattle.std.proofs.lemmas.Nat.{div-add-mod'}
use Rattle.std.proofs.lemmas.Nat.Gcd.{mod-eq-zero_of_dvd}
use Rattle.std.proofs.Math.Nat.{dvd-mul_left}
use Rattle.histories.specs.History.{IsPrefix, only_if, one_if, is_raised, numbers}
use Rattle.histories.specs.Laws.{prefix_refl, shown_is_accepted_and_standing}
use Rattle.memory_runs.specs.Views.{Shape, Levels, levels_at, HostSide, HostView, Responses}
use Rattle.memory_runs.specs.Views.Kind.{Reads, Writes}
use Rattle.memory_runs.specs.Commands.{Burst, Transfer, shows, is_held, byte_address, burst_before, next_burst, transfer_of, transfer_at, read_beat, accepted, presented, words_before}
use Rattle.memory_runs.specs.Legal.{host_accepts, IsLegalHost}
use Rattle.memory_machines.specs.Link.{Port, Marked, AreLegalAt, AnswersAreOwed, takes, marked_at, taken_at, shown_at, closes, read_beats}
use Rattle.memory_machines.specs.Lines.{Sent, sent_of, sent_by}
use Rattle.memory_machines.specs.Machines.{raw_at, IsFitBeat}
use Rattle.memory_machines.specs.Straight.{port_of_host}
use Rattle.memory_runs.specs.Laws.{accepts_shows, legal_keeps}
use Rattle.memory_machines.specs.SideLaws.{marked_keeps}
use Rattle.memory_machines.specs.SideLaws.{fit_when_shown, legal_when_shown}
use Rattle.memory_parts.specs.Queue.{takes_read, answered, entry_at}
use Rattle.memory_machines.specs.Lines.{AreSingle}
use Rattle.memory_parts.specs.Host.{HostState, IsHostMachine, ReadsWords, is_shut, ends_now, left_past}
use Rattle.memory_parts.proofs.Queued.{answered_length, word_more, numbers_length}
use Rattle.memory_parts.proofs.RouteDebts.{reads_more}

gated : (b : Bool) (n : ℕ) → is_raised (if b then 0 else n) ≡ not b && is_raised n
gated true n = refl
gated false n = refl

nothing : (b : Bool) → (b && false) ≡ false
nothing true = refl
nothing false = refl

aligned : (y w : ℕ) → (y - y % w) - (y - y % w) % w ≡ y - y % w
aligned y w =
    let whole = div-add-mod' y w in
    let low : y - y % w ≡ (y / w) * w = omega (arith, whole) in
    let none : (y - y % w) % w ≡ 0 = ap (λ n. n % w) low ∙ mod-eq-zero_of_dvd w (dvd-mul_left w (y / w)) in
    omega (arith, none)

-- a transfer, by what it rests on
abbrev told : Bool → ℕ → ℕ → ℕ → ℕ → ℕ → Burst → Transfer
told w begin bytes count word enables burst =
    if w then record {
      kind = Writes;
      first = if nat_eq burst.left 0 then begin else burst.first;
      begins = nat_eq burst.left 0;
      ends = if nat_eq burst.left 0 then nat_eq count 1 else nat_eq burst.left 1;
      beats = record { kind = Writes; address = (if nat_eq burst.left 0 then begin else burst.first) + (if nat_eq burst.left 0 then 0 else burst.done) * bytes; word = word; enables = enables } ∷ [];
    } else record {
      kind = Reads;
      first = begin;
      begins = true;
      ends = true;
      beats = map (λ number. record { kind = Reads; address = begin + number * bytes; word = 0; enables = enables }) (numbers 0 count);
    }

told_is : (shape : Shape) (levels : Levels) (burst : Burst) → transfer_of shape levels burst ≡ told (is_raised levels.write) (byte_address shape levels.address) shape.word_bytes levels.count levels.word levels.enables burst
told_is shape levels burst = refl

abbrev from_port : Marked → Sent
from_port m = record { transfer = m.transfer; closes = closes m }

abbrev pub from_host : Transfer → Sent
from_host t = record { transfer = t; closes = t.ends }

same_test : (f r w b : Bool) → not (r && w) ≡ true → ((r || w) && not ((f && r) || b)) ≡ (((not f && r) || w) && not b)
same_test true true true b e = cc
same_test true true false b e = refl
same_test true false w b e = refl
same_test false r w b e = refl

shown_over : (f r w : Bool) → ((not f && r) || w) ≡ true → (r || w) ≡ true
shown_over true true w shown = refl
shown_over true false w shown = shown
shown_over false r w shown = shown

still_one : (f r w : Bool) → not (r && w) ≡ true → not ((not f && r) && w) ≡ true
still_one true r w one = refl
still_one false r w one = one

ends_or_joins : (ends : Bool) → (ends || is_raised (one_if (not ends))) ≡ true
ends_or_joins true = refl
ends_or_joins false = refl

is_low : (level : ℕ) → is_raised level ≡ false → level ≡ 0
is_low level low = let none = ltb-false 0 level low in omega (arith, none)

gate_of_zero : (b : Bool) (level : ℕ) → level ≡ 0 → (if b then 0 else level) ≡ 0
gate_of_zero true level none = refl
gate_of_zero false level none = none

module _ (responses : Responses) (side : HostSide) (view : HostView) (down : Port) (state : HostState) (end : ℕ) (machine : IsHostMachine responses side view down state end)
    (legal : IsLegalHost side view end) where
  abbrev shut : ℕ → Bool
  shut c = is_shut side state c

  abbrev accepts : ℕ → Bool
  accepts c = host_accepts view c

  abbrev burst_below : ℕ → Burst
  burst_below c = burst_before down.shape down.commands.signals (takes down) c

  abbrev bh : ℕ → Burst
  bh c = burst_before side.shape view.signals (host_accepts view) c

  abbrev pub own : ℕ → Transfer
  own c = transfer_at side.shape view.signals (host_accepts view) c

  pub read_is : (c : ℕ) → c < end → is_raised (down.commands.read c) ≡ not (shut c) && is_raised (view.read c)
  read_is c low = ap is_raised (machine.read c low) ∙ gated (shut c) (view.read c)

  pub write_is : (c : ℕ) → c < end → is_raised (down.commands.write c) ≡ is_raised (view.write c)
  write_is c low = ap is_raised (machine.write c low)

  pub shows_is : (c : ℕ) → c < end → shows down.commands.signals c ≡ ((not (shut c) && is_raised (view.read c)) || is_raised (view.write c))
  shows_is c low = ap₂ (λ r w. r || w) (read_is c low) (write_is c low)

  address_is : (c : ℕ) → c < end → byte_address down.shape (down.commands.address c) ≡ byte_address side.shape (view.address c)
  address_is c low =
      let y = view.address c * side.unit_bytes in
      let plain : down.commands.address c * down.shape.unit_bytes ≡ y - y % side.word_bytes = ap₂ (λ a u. a * u) (machine.address c low) machine.units ∙ times_one (y - y % side.word_bytes) in
      ap₂ (λ n w. n - n % w) plain machine.words ∙ aligned y side.word_bytes
    where
      times_one : (n : ℕ) → n * 1 ≡ n
      times_one n = omega arith

  -- a write is accepted from the host just where it is taken below
  pub write_takes : (c : ℕ) → c < end → is_raised (view.write c) ≡ true → takes down c ≡ accepts c
  write_takes c low w = by_read (is_raised (view.read c)) refl
    where
      by_read : (r : Bool) → is_raised (view.read c) ≡ r → takes down c ≡ accepts c
      by_read true r = let one = legal.one_kind c low in let bad : ⊥ = cc in absurd bad
      by_read false r =
          let wait : is_raised (view.waitrequest c) ≡ is_raised (down.commands.waitrequest c) =
          machine.wait c low ∙ ap (λ r. if r && not side.has_readdatavalid then not (state.asked c && is_raised (down.answers.valid c)) else (shut c && r) || is_raised (down.commands.waitrequest c)) r ∙ ap (λ b. b || is_raised (down.commands.waitrequest c)) (nothing (shut c)) in
          ap (λ s. s && not (is_raised (down.commands.waitrequest c))) (shows_is c low ∙ ap₂ (λ r w. (not (shut c) && r) || w) r w ∙ or_true (not (shut c) && false))
          ∙ sym (ap₂ (λ s k. s && not k) (ap₂ (λ r w. r || w) r w) wait)
        where
          or_true : (b : Bool) → (b || true) ≡ true
          or_true true = refl
          or_true false = refl

  same_after : (c : ℕ) → c < end → (burst_below c ≡ bh c) → burst_below (suc c) ≡ bh (suc c)
  same_after c low same = by_write (is_raised (view.write c)) refl
    where
      by_write : (w : Bool) → is_raised (view.write c) ≡ w → burst_below (suc c) ≡ bh (suc c)
      by_write false w =
          ap₂ (λ t k. if t && k then next_burst down.shape (levels_at down.commands.signals c) (burst_below c) else burst_below c) refl (write_is c low ∙ w) ∙ ap (λ b. if b then next_burst down.shape (levels_at down.commands.signals c) (burst_below c) else burst_below c) (nothing (takes down c)) ∙ same
          ∙ sym (ap (λ k. if accepts c && k then next_burst side.shape (levels_at view.signals c) (bh c) else bh c) w ∙ ap (λ b. if b then next_burst side.shape (levels_at view.signals c) (bh c) else bh c) (nothing (accepts c)))
      by_write true w =
          ap₂ (λ t k. if t && k then next_burst down.shape (levels_at down.commands.signals c) (burst_below c) else burst_below c) (write_takes c low w) (write_is c low)
          ∙ ap (λ b. if accepts c && is_raised (view.write c) then next_burst down.shape (levels_at down.commands.signals c) b else b) same
          ∙ ap₂ (λ n f. if accepts c && is_raised (view.write c) then (if nat_eq (bh c).left 0 then record { left = n - 1; done = 1; first = f } else record { left = (bh c).left - 1; done = (bh c).done + 1; first = (bh c).first }) else bh c) (machine.count c low) (address_is c low)

  pub same_burst : (c : ℕ) → c ≤ end → burst_below c ≡ bh c
  same_burst zero low = refl
  same_burst (suc c) low = same_after c low (same_burst c (omega arith))

  pub same_transfer : (c : ℕ) → c < end → (marked_at down c).transfer ≡ own c
  same_transfer c low =
      told_is down.shape (levels_at down.commands.signals c) (burst_below c)
      ∙ ap₂ (λ w b. told w b down.shape.word_bytes (down.commands.count c) (down.commands.word c) (down.commands.enables c) (burst_below c)) (write_is c low) (address_is c low)
      ∙ ap₂ (λ w n. told (is_raised (view.write c)) (byte_address side.shape (view.address c)) w n (down.commands.word c) (down.commands.enables c) (burst_below c)) machine.words (machine.count c low)
      ∙ ap₂ (λ w e. told (is_raised (view.write c)) (byte_address side.shape (view.address c)) side.word_bytes (view.count c) w e (burst_below c)) (machine.word c low) (machine.enables c low)
      ∙ ap (told (is_raised (view.write c)) (byte_address side.shape (view.address c)) side.word_bytes (view.count c) (view.word c) (view.enables c)) (same_burst c (omega arith))

  left_is : (c : ℕ) → c < end → state.left c ≡ (bh c).left
  left_is zero low = machine.starts
  left_is (suc c) low = machine.lasts c low ∙ by_write (is_raised (view.write c)) refl (left_is c (omega arith))
    where
      by_write : (w : Bool) → is_raised (view.write c) ≡ w → state.left c ≡ (bh c).left → (if takes down c && is_raised (view.write c) then left_past view state c else state.left c) ≡ (bh (suc c)).left
      by_write false w ih =
          ap (λ k. if takes down c && k then left_past view state c else state.left c) w ∙ ap (λ b. if b then left_past view state c else state.left c) (nothing (takes down c)) ∙ ih
          ∙ sym (ap (λ k. (if accepts c && k then next_burst side.shape (levels_at view.signals c) (bh c) else bh c).left) w ∙ ap (λ b. (if b then next_burst side.shape (levels_at view.signals c) (bh c) else bh c).left) (nothing (accepts c)))
      by_write true w ih =
          ap (λ t. if t && is_raised (view.write c) then left_past view state c else state.left c) (write_takes c (omega arith) w)
          ∙ ap (λ n. if accepts c && is_raised (view.write c) then (if nat_eq n 0 then view.count c - 1 else n - 1) else n) ih
          ∙ by_both (accepts c && is_raised (view.write c)) (nat_eq (bh c).left 0)
        where
          by_both : (t z : Bool) → (if t then (if z then view.count c - 1 else (bh c).left - 1) else (bh c).left)
              ≡ (if t then (if z then record { left = view.count c - 1; done = 1; first = byte_address side.shape (view.address c) } else record { left = (bh c).left - 1; done = (bh c).done + 1; first = (bh c).first }) else bh c).left
          by_both true true = refl
          by_both true false = refl
          by_both false z = refl

  pub ends_is : (c : ℕ) → c < end → ends_now view state c ≡ (own c).ends
  ends_is c low = ap (λ n. not (is_raised (view.write c)) || (if nat_eq n 0 then nat_eq (view.count c) 1 else nat_eq n 1)) (left_is c low) ∙ by_write (is_raised (view.write c))
    where
      by_write : (w : Bool) → (not w || (if nat_eq (bh c).left 0 then nat_eq (view.count c) 1 else nat_eq (bh c).left 1)) ≡ (told w (byte_address side.shape (view.address c)) side.word_bytes (view.count c) (view.word c) (view.enables c) (bh c)).ends
      by_write true = refl
      by_write false = refl

  same_sent : (c : ℕ) → c < end → from_port (marked_at down c) ≡ from_host (own c)
  same_sent c low =
      ap (λ k. record { transfer = (marked_at down c).transfer; closes = (marked_at down c).transfer.ends && not (is_raised k) }) (machine.more c low ∙ ap (λ b. one_if (not b)) (ends_is c low))
      ∙ ap (λ (t : Transfer). record { transfer = t; closes = t.ends && not (is_raised (one_if (not (own c).ends))) }) (same_transfer c low) ∙ ap (λ b. record { transfer = own c; closes = b }) (plain (own c).ends)
    where
      plain : (b : Bool) → (b && not (is_raised (one_if (not b)))) ≡ b
      plain true = refl
      plain false = refl

  pub valid_takes : side.has_readdatavalid ≡ true → (c : ℕ) → c < end → takes down c ≡ accepts c
  valid_takes has c low =
      let wait : is_raised (view.waitrequest c) ≡ (shut c && is_raised (view.read c)) || is_raised (down.commands.waitrequest c) =
      machine.wait c low ∙ ap (λ h. if is_raised (view.read c) && not h then not (state.asked c && is_raised (down.answers.valid c)) else (shut c && is_raised (view.read c)) || is_raised (down.commands.waitrequest c)) has
      ∙ ap (λ b. if b then not (state.asked c && is_raised (down.answers.valid c)) else (shut c && is_raised (view.read c)) || is_raised (down.commands.waitrequest c)) (nothing (is_raised (view.read c))) in
      ap (λ s. s && not (is_raised (down.commands.waitrequest c))) (shows_is c low) ∙ sym (ap (λ w. shows view.signals c && not w) wait ∙ same_test (shut c) (is_raised (view.read c)) (is_raised (view.write c)) (is_raised (down.commands.waitrequest c)) (legal.one_kind c low))

  -- a read is accepted with its word alone
  pub read_accepts : side.has_readdatavalid ≡ false → (c : ℕ) → c < end → is_raised (view.read c) ≡ true → accepts c ≡ (state.asked c && is_raised (down.answers.valid c))
  read_accepts has c low read =
      let wait : is_raised (view.waitrequest c) ≡ not (state.asked c && is_raised (down.answers.valid c)) =
      machine.wait c low ∙ ap₂ (λ r h. if r && not h then not (state.asked c && is_raised (down.answers.valid c)) else (shut c && r) || is_raised (down.commands.waitrequest c)) read has in
      ap₂ (λ r w. (r || is_raised (view.write c)) && not w) read wait ∙ twice (state.asked c && is_raised (down.answers.valid c))
    where
      twice : (b : Bool) → not (not b) ≡ b
      twice true = refl
      twice false = refl

  shut_is : side.has_readdatavalid ≡ false → (c : ℕ) → shut c ≡ state.asked c
  shut_is has c = ap (λ h. if h then not (nat_lt (length (state.queue c)) 16) else state.asked c) has

  own_keeps : (c : ℕ) → suc c < end → is_held view.signals (host_accepts view) c ≡ true → own c ≡ own (suc c)
  own_keeps c low held = ((legal_keeps side.shape view.signals (host_accepts view) end (accepts_shows view.signals view.waitrequest) legal).held c low held).1

  -- ---- what is shown below is legal

  host_port : Port
  host_port = port_of_host side view 0

  host_legal : AreLegalAt (port_of_host side view 0) end
  host_legal = record {
    legal = legal;
    tag = λ c low held. refl;
    more = λ c low held. ap (λ (t : Transfer). one_if (not t.ends)) (own_keeps c low held);
    joined = λ c low shown. ends_or_joins (own c).ends;
  }

  shown_up : (c : ℕ) → c < end → shows down.commands.signals c ≡ true → shows view.signals c ≡ true
  shown_up c low shown = shown_over (shut c) (is_raised (view.read c)) (is_raised (view.write c)) (sym (shows_is c low) ∙ shown)

  fit_below : (c : ℕ) → c < end → shows down.commands.signals c ≡ true → IsFitBeat down.shape (burst_below c) (raw_at down c)
  fit_below c low shown =
      let above = fit_when_shown (port_of_host side view 0) end c host_legal low (shown_up c low shown) in
      let count = machine.count c low in
      let lefts : (burst_below c).left ≡ (bh c).left = ap (λ (b : Burst). b.left) (same_burst c (omega arith)) in
      record {
        one_kind = ap₂ (λ r w. not (r && w)) (read_is c low) (write_is c low) ∙ still_one (shut c) (is_raised (view.read c)) (is_raised (view.write c)) (legal.one_kind c low);
        least = λ free. subst (λ n. 1 ≤ n) (sym count) (above.least (ap (nat_lt 0) (sym lefts) ∙ free));
        most = λ free. subst (λ n. n ≤ 2 ^ (down.shape.burst_bits - 1)) (sym count) (subst (λ b. view.count c ≤ 2 ^ (b - 1)) (sym machine.bursts) (above.most (ap (nat_lt 0) (sym lefts) ∙ free)));
        finished = λ under. read_is c low ∙ ap (λ r. not (shut c) && r) (above.finished (ap (nat_lt 0) (sym lefts) ∙ under)) ∙ nothing (not (shut c));
        joined = ap₂ (λ (t : Transfer) k. t.ends || is_raised k) (same_transfer c low) (machine.more c low ∙ ap (λ b. one_if (not b)) (ends_is c low)) ∙ ends_or_joins (own c).ends;
      }

  -- a beat that waits below waits at the host
  waits_above : (c : ℕ) → c < end → shows down.commands.signals c ≡ true → takes down c ≡ false → accepts c ≡ false
  waits_above c low shown none = by_valid side.has_readdatavalid refl
    where
      by_valid : (b : Bool) → side.has_readdatavalid ≡ b → accepts c ≡ false
      by_valid true has = sym (valid_takes has c low) ∙ none
      by_valid false has = by_both (is_raised (view.read c)) (is_raised (view.write c)) refl refl
        where
          by_both : (r w : Bool) → is_raised (view.read c) ≡ r → is_raised (view.write c) ≡ w → accepts c ≡ false
          by_both r true rr ww = sym (write_takes c low ww) ∙ none
          by_both true false rr ww =
              let seen : (not (shut c) && true) || false ≡ true = sym (shows_is c low ∙ ap₂ (λ r w. (not (shut c) && r) || w) rr ww) ∙ shown in
              let gate : state.asked c ≡ false = sym (shut_is has c) ∙ opened (shut c) seen in
              read_accepts has c low rr ∙ ap (λ b. b && is_raised (down.answers.valid c)) gate
            where
              opened : (b : Bool) → ((not b && true) || false) ≡ true → b ≡ false
              opened true e = sym e
              opened false e = refl
          by_both false false rr ww = let seen = shown_up c low shown in let bad : ⊥ = cc in absurd bad

  -- the gate doesn't shut on a read that waits below
  stays_open : (c : ℕ) → suc c < end → takes down c ≡ false → shut c ≡ false → shut (suc c) ≡ false
  stays_open c low none was = by_valid side.has_readdatavalid refl
    where
      no_new : takes_read down c ≡ false
      no_new = ap (λ b. b && is_raised (down.commands.read c)) none

      by_valid : (b : Bool) → side.has_readdatavalid ≡ b → shut (suc c) ≡ false
      by_valid false has =
          shut_is has (suc c) ∙ machine.asks c low has ∙ ap₂ (λ a t. (a || t) && not (is_raised (down.answers.valid c))) (sym (shut_is has c) ∙ was) no_new
      by_valid true has =
          let room : nat_lt (length (state.queue c)) 16 ≡ true = not_false (nat_lt (length (state.queue c)) 16) (sym (ap (λ h. if h then not (nat_lt (length (state.queue c)) 16) else state.asked c) has) ∙ was) in
          let few = ltb-true (length (state.queue c)) 16 room in
          let next = (machine.queues has).next c low ∙ ap (λ b. answered (is_raised (down.answers.valid c)) (state.queue c) ++ only_if b (entry_at down c)) no_new in
          let less = answered_length (is_raised (down.answers.valid c)) (state.queue c) in
          let same : length (state.queue (suc c)) ≡ length (answered (is_raised (down.answers.valid c)) (state.queue c)) = ap length next ∙ ap length (append-nil (answered (is_raised (down.answers.valid c)) (state.queue c))) in
          ap (λ h. if h then not (nat_lt (length (state.queue (suc c))) 16) else state.asked (suc c)) has ∙ ap not (lt-ltb (length (state.queue (suc c))) 16 (omega (arith, few, less, same)))
        where
          not_false : (b : Bool) → not b ≡ false → b ≡ true
          not_false true e = refl
          not_false false e = sym e

  held_read : (c : ℕ) → suc c < end → shows down.commands.signals c ≡ true → takes down c ≡ false → view.read c ≡ view.read (suc c) → down.commands.read c ≡ down.commands.read (suc c)
  held_read c low shown none same = by_read (is_raised (view.read c)) refl
    where
      by_read : (r : Bool) → is_raised (view.read c) ≡ r → down.commands.read c ≡ down.commands.read (suc c)
      by_read false r =
          let zero_level = is_low (view.read c) r in
          machine.read c (omega arith) ∙ gate_of_zero (shut c) (view.read c) zero_level ∙ sym (machine.read (suc c) low ∙ gate_of_zero (shut (suc c)) (view.read (suc c)) (sym same ∙ zero_level))
      by_read true r =
          let quiet : is_raised (view.write c) ≡ false = alone (is_raised (view.read c)) (is_raised (view.write c)) r (legal.one_kind c (omega arith)) in
          let now : shut c ≡ false = opened (shut c) (sym (shows_is c (omega arith) ∙ ap₂ (λ r w. (not (shut c) && r) || w) r quiet) ∙ shown) in
          machine.read c (omega arith) ∙ ap (λ b. if b then 0 else view.read c) now ∙ same ∙ sym (machine.read (suc c) low ∙ ap (λ b. if b then 0 else view.read (suc c)) (stays_open c low none now))
        where
          alone : (r w : Bool) → r ≡ true → not (r && w) ≡ true → w ≡ false
          alone true true e k = sym k
          alone true false e k = refl
          alone false w e k = cc

          opened : (b : Bool) → ((not b && true) || false) ≡ true → b ≡ false
          opened true e = sym e
          opened false e = refl

  held_below : (c : ℕ) → suc c < end → is_held down.commands.signals (takes down) c ≡ true → raw_at down c ≡ raw_at down (suc c)
  held_below c low held =
      let parts = and_parts (shows down.commands.signals c) (not (takes down c)) held in
      let none : takes down c ≡ false = not-true (takes down c) parts.1 in
      let above : is_held view.signals (host_accepts view) c ≡ true = ap₂ (λ s a. s && not a) (shown_up c (omega arith) parts.0) (waits_above c (omega arith) parts.0 none) in
      let same = legal.held c low above in
      let read = held_read c low parts.0 none (ap (λ (l : Levels). l.read) same) in
      let write : down.commands.write c ≡ down.commands.write (suc c) = machine.write c (omega arith) ∙ ap (λ (l : Levels). l.write) same ∙ sym (machine.write (suc c) low) in
      let address : down.commands.address c ≡ down.commands.address (suc c) = machine.address c (omega arith) ∙ ap (λ (l : Levels). byte_address side.shape l.address) same ∙ sym (machine.address (suc c) low) in
      let word : down.commands.word c ≡ down.commands.word (suc c) = machine.word c (omega arith) ∙ ap (λ (l : Levels). l.word) same ∙ sym (machine.word (suc c) low) in
      let enables : down.commands.enables c ≡ down.commands.enables (suc c) = machine.enables c (omega arith) ∙ ap (λ (l : Levels). l.enables) same ∙ sym (machine.enables (suc c) low) in
      let count : down.commands.count c ≡ down.commands.count (suc c) = machine.count c (omega arith) ∙ ap (λ (l : Levels). l.count) same ∙ sym (machine.count (suc c) low) in
      let more : down.commands.more c ≡ down.commands.more (suc c) =
      machine.more c (omega arith) ∙ ap (λ b. one_if (not b)) (ends_is c (omega arith)) ∙ ap (λ (t : Transfer). one_if (not t.ends)) (own_keeps c low above) ∙ sym (machine.more (suc c) low ∙ ap (λ b. one_if (not b)) (ends_is (suc c) low)) in
      let tag : down.commands.tag c ≡ down.commands.tag (suc c) = machine.tag c (omega arith) ∙ sym (machine.tag (suc c) low) in
      let levels : levels_at down.commands.signals c ≡ levels_at down.commands.signals (suc c) = cc in
      ap (λ l. record { levels = l; more = down.commands.more c; tag = down.commands.tag c }) levels
      ∙ ap₂ (λ k t. record { levels = levels_at down.commands.signals (suc c); more = k; tag = t }) more tag

  pub legal_below : AreLegalAt down end
  legal_below = legal_when_shown down.shape down.commands down.answers end fit_below held_below

  -- `more` is high on all beats of a command but its last, and no tag is shown
  pub single_below : AreSingle down end
  single_below c low shown =
      ap is_raised (machine.more c low ∙ ap (λ b. one_if (not b)) (ends_is c low)) ∙ one (own c).ends ∙ ap (λ (t : Transfer). not t.ends) (sym (same_transfer c low))
    where
      one : (b : Bool) → is_raised (one_if (not b)) ≡ not b
      one true = refl
      one false = refl

  -- what is taken below, where words come for reads alone
  module _ (single : ReadsWords side view end) (owed : AnswersAreOwed down (end - 1)) where
    -- ---- without readdatavalid: a read that was taken below stands at the host until its word comes

    abbrev pub stands_taken : ℕ → Bool
    stands_taken zero = false
    stands_taken (suc c) = not side.has_readdatavalid && (if stands_taken c then not (is_raised (down.answers.valid c)) else takes_read down c)

    pub standing_next : side.has_readdatavalid ≡ false → (c : ℕ) → stands_taken (suc c) ≡ (if stands_taken c then not (is_raised (down.answers.valid c)) else takes_read down c)
    standing_next has c = ap (λ h. not h && (if stands_taken c then not (is_raised (down.answers.valid c)) else takes_read down c)) has

    -- the register, and how many words are owed
    pub record Asks (c : ℕ) : Type 0 where
      pub asked : state.asked c ≡ stands_taken c
      pub count : length (read_beats (taken_at down c)) ≡ words_before down.answers.valid c + one_if (stands_taken c)

    abbrev hidden_read : ℕ → Bool
    hidden_read c = takes_read down c

    pub no_read : side.has_readdatavalid ≡ false → (c : ℕ) → c < end → state.asked c ≡ true → takes_read down c ≡ false
    no_read has c low asked = ap (λ r. takes down c && r) (read_is c low ∙ ap (λ b. not b && is_raised (view.read c)) (shut_is has c ∙ asked)) ∙ nothing (takes down c)

    pub asked_now : (c : ℕ) → c < end → length (read_beats (only_if (takes down c) (marked_at down c))) ≡ (if takes_read down c then view.count c else 0)
    asked_now c low = by_all (takes down c) (is_raised (down.commands.read c)) (is_raised (down.commands.write c)) refl refl refl
      where
        by_all : (t r w : Bool) → takes down c ≡ t → is_raised (down.commands.read c) ≡ r → is_raised (down.commands.write c) ≡ w → length (read_beats (only_if (takes down c) (marked_at down c))) ≡ (if takes_read down c then view.count c else 0)
        by_all false r w t rr ww = rw t refl
        by_all true true true t rr ww =
            let both = still_one (shut c) (is_raised (view.read c)) (is_raised (view.write c)) (legal.one_kind c low) in
            let read = sym (read_is c low) ∙ rr in
            let write = sym (write_is c low) ∙ ww in
            let bad : ⊥ = cc in
            absurd bad
        by_all true true false t rr ww = rw (t, rr, ww) (length-append (map (read_beat down.shape (levels_at down.commands.signals c)) (numbers 0 (down.commands.count c))) [] ∙ plus (length-map (numbers 0 (down.commands.count c)) (read_beat down.shape (levels_at down.commands.signals c)) ∙ numbers_length 0 (down.commands.count c) ∙ machine.count c low))
          where
            plus : {n k : ℕ} → n ≡ k → n + 0 ≡ k
            plus e = omega (arith, e)
        by_all true false true t rr ww = rw (t, rr, ww) refl
        by_all true false false t rr ww = let shown = (and_parts (shows down.commands.signals c) (not (is_raised (down.commands.waitrequest c))) t).0 in let bad : ⊥ = cc in absurd bad

    pub read_shown : (c : ℕ) → c < end → takes_read down c ≡ true → is_raised (view.read c) ≡ true
    read_shown c low taken = (and_parts (not (shut c)) (is_raised (view.read c)) (sym (read_is c low) ∙ (and_parts (takes down c) (is_raised (down.commands.read c)) taken).1)).1

    next_asks : side.has_readdatavalid ≡ false → (c : ℕ) → suc c < end → Asks c → Asks (suc c)
    next_asks has c low a = by_all (stands_taken c) (is_raised (down.answers.valid c)) (takes_read down c) refl refl refl
      where
        more : length (read_beats (taken_at down (suc c))) ≡ length (read_beats (taken_at down c)) + (if takes_read down c then view.count c else 0)
        more = reads_more down c ∙ ap (λ n. length (read_beats (taken_at down c)) + n) (asked_now c (omega arith))

        word : words_before down.answers.valid (suc c) ≡ words_before down.answers.valid c + one_if (is_raised (down.answers.valid c))
        word = word_more down.answers.valid c

        few : words_before down.answers.valid (suc c) ≤ length (read_beats (taken_at down c))
        few = owed c (omega arith)

        reg : (k v t : Bool) → state.asked c ≡ k → is_raised (down.answers.valid c) ≡ v → takes_read down c ≡ t → state.asked (suc c) ≡ ((k || t) && not v)
        reg k v t kk vv tt' = machine.asks c low has ∙ ap₂ (λ k v. (k || takes_read down c) && not v) kk vv ∙ ap (λ t. (k || t) && not v) tt'

        next : (k v t : Bool) → stands_taken c ≡ k → is_raised (down.answers.valid c) ≡ v → takes_read down c ≡ t → stands_taken (suc c) ≡ (if k then not v else t)
        next k v t kk vv tt' = standing_next has c ∙ ap₂ (λ k v. if k then not v else takes_read down c) kk vv ∙ ap (λ t. if k then not v else t) tt'

        by_all : (k v t : Bool) → stands_taken c ≡ k → is_raised (down.answers.valid c) ≡ v → takes_read down c ≡ t → Asks (suc c)
        by_all true v true kk vv t = let none = no_read has c (omega arith) (a.asked ∙ kk) in let bad : ⊥ = cc in absurd bad
        by_all true true false kk vv t =
            let count = a.count ∙ ap (λ b. words_before down.answers.valid c + one_if b) kk in
            let sum = more ∙ ap (λ b. length (read_beats (taken_at down c)) + (if b then view.count c else 0)) t in
            let words = word ∙ ap (λ b. words_before down.answers.valid c + one_if b) vv in
            let after = next true true false kk vv t in
            record { asked = reg true true false (a.asked ∙ kk) vv t ∙ sym after; count = (let last = ap one_if after in omega (arith, count, sum, words, last)) }
        by_all true false false kk vv t =
            let count = a.count ∙ ap (λ b. words_before down.answers.valid c + one_if b) kk in
            let sum = more ∙ ap (λ b. length (read_beats (taken_at down c)) + (if b then view.count c else 0)) t in
            let words = word ∙ ap (λ b. words_before down.answers.valid c + one_if b) vv in
            let after = next true false false kk vv t in
            record { asked = reg true false false (a.asked ∙ kk) vv t ∙ sym after; count = (let last = ap one_if after in omega (arith, count, sum, words, last)) }
        by_all false true t kk vv tt' =
            let count = a.count ∙ ap (λ b. words_before down.answers.valid c + one_if b) kk in
            let words = word ∙ ap (λ b. words_before down.answers.valid c + one_if b) vv in
            absurd (omega (arith, count, words, few))
        by_all false false true kk vv t =
            let count = a.count ∙ ap (λ b. words_before down.answers.valid c + one_if b) kk in
            let one = single has c (omega arith) (read_shown c (omega arith) t) in
            let sum = more ∙ ap (λ b. length (read_beats (taken_at down c)) + (if b then view.count c else 0)) t in
            let words = word ∙ ap (λ b. words_before down.answers.valid c + one_if b) vv in
            let after = next false false true kk vv t in
            record { asked = reg false false true (a.asked ∙ kk) vv t ∙ sym after; count = (let last = ap one_if after in omega (arith, count, sum, words, last, one)) }
        by_all false false false kk vv t =
            let count = a.count ∙ ap (λ b. words_before down.answers.valid c + one_if b) kk in
            let sum = more ∙ ap (λ b. length (read_beats (taken_at down c)) + (if b then view.count c else 0)) t in
            let words = word ∙ ap (λ b. words_before down.answers.valid c + one_if b) vv in
            let after = next false false false kk vv t in
            record { asked = reg false false false (a.asked ∙ kk) vv t ∙ sym after; count = (let last = ap one_if after in omega (arith, count, sum, words, last)) }

    pub asks_at : side.has_readdatavalid ≡ false → (c : ℕ) → c < end → Asks c
    asks_at has zero low = record { asked = machine.quiet; count = refl }
    asks_at has (suc c) low = next_asks has c low (asks_at has c (omega arith))

    pub without : (c : ℕ) → stands_taken c ≡ true → side.has_readdatavalid ≡ false
    without zero e = cc
    without (suc c) e = by_test side.has_readdatavalid refl
      where
        by_test : (b : Bool) → side.has_readdatavalid ≡ b → side.has_readdatavalid ≡ false
        by_test false h = h
        by_test true h = let parts = and_parts (not side.has_readdatavalid) (if stands_taken c then not (is_raised (down.answers.valid c)) else takes_read down c) e in let bad : ⊥ = cc in absurd bad

    -- the read that is owed stands at the host
    stands_from : (c : ℕ) → c < end → (stands_taken c ≡ true → is_raised (view.read c) ≡ true) → stands_taken (suc c) ≡ true → (is_raised (view.read c) ≡ true) × (accepts c ≡ false)
    stands_from c low go e = by_kept (stands_taken c) refl go
      where
        has : side.has_readdatavalid ≡ false
        has = without (suc c) e

        by_kept : (b : Bool) → stands_taken c ≡ b → (stands_taken c ≡ true → is_raised (view.read c) ≡ true) → (is_raised (view.read c) ≡ true) × (accepts c ≡ false)
        by_kept true k go =
            let read = go k in
            let quiet : not (is_raised (down.answers.valid c)) ≡ true = sym (standing_next has c ∙ ap (λ b. if b then not (is_raised (down.answers.valid c)) else takes_read down c) k) ∙ e in
            (read, read_accepts has c low read ∙ ap (λ v. state.asked c && v) (lower (is_raised (down.answers.valid c)) quiet) ∙ nothing (state.asked c))
          where
            lower : (b : Bool) → not b ≡ true → b ≡ false
            lower true e = sym e
            lower false e = refl
        by_kept false k go =
            let taken : takes_read down c ≡ true = sym (standing_next has c ∙ ap (λ b. if b then not (is_raised (down.answers.valid c)) else takes_read down c) k) ∙ e in
            let read = read_shown c low taken in
            (read, read_accepts has c low read ∙ ap (λ b. b && is_raised (down.answers.valid c)) ((asks_at has c low).asked ∙ k))

    pub read_stands : (c : ℕ) → c < end → stands_taken c ≡ true → is_raised (view.read c) ≡ true
    read_stands zero low e = cc
    read_stands (suc c) low e =
        let s = stands_from c (omega arith) (λ k. read_stands c (omega arith) k) e in
        let held : is_held view.signals (host_accepts view) c ≡ true = ap₂ (λ r t. (r || is_raised (view.write c)) && not t) s.0 s.1 in
        ap (λ (l : Levels). is_raised l.read) (sym (legal.held c low held)) ∙ s.0

    pub stands_on_host : (c : ℕ) → c < end → stands_taken (suc c) ≡ true → (is_raised (view.read c) ≡ true) × (accepts c ≡ false)
    stands_on_host c low e = stands_from c low (λ k. read_stands c low k) e

    -- ---- what is taken below is what is accepted, and the read that stands

    abbrev pub standing_read : ℕ → List Sent
    standing_read zero = []
    standing_read (suc c) = only_if (stands_taken (suc c)) (from_host (own c))

    abbrev pub all_accepted_by : ℕ → List Sent
    all_accepted_by c = sent_by (accepted side.shape view.signals (host_accepts view) c)

    standing_is : (c : ℕ) → c < end → standing_read c ≡ only_if (stands_taken c) (from_host (own c))
    standing_is zero low = refl
    standing_is (suc c) low = by_test (stands_taken (suc c)) refl
      where
        by_test : (b : Bool) → stands_taken (suc c) ≡ b → only_if (stands_taken (suc c)) (from_host (own c)) ≡ only_if (stands_taken (suc c)) (from_host (own (suc c)))
        by_test false e = rw e refl
        by_test true e =
            let s = stands_on_host c (omega arith) e in
            let held : is_held view.signals (host_accepts view) c ≡ true = ap₂ (λ r t. (r || is_raised (view.write c)) && not t) s.0 s.1 in
            ap (λ t. only_if (stands_taken (suc c)) (from_host t)) (own_keeps c low held)

    -- one cycle: what goes below, what is accepted, and what stands before and behind
    balance : (c : ℕ) → c < end → (x : Sent) → only_if (stands_taken c) x ++ only_if (takes down c) x ≡ only_if (accepts c) x ++ only_if (stands_taken (suc c)) x
    balance c low x = by_valid side.has_readdatavalid refl
      where
        by_valid : (b : Bool) → side.has_readdatavalid ≡ b → only_if (stands_taken c) x ++ only_if (takes down c) x ≡ only_if (accepts c) x ++ only_if (stands_taken (suc c)) x
        by_valid true has =
            let none : stands_taken c ≡ false = never c in
            let after : stands_taken (suc c) ≡ false = never (suc c) in
            ap₂ (λ a b. only_if a x ++ only_if b x) none (valid_takes has c low) ∙ sym (ap (λ b. only_if (accepts c) x ++ only_if b x) after ∙ append-nil (only_if (accepts c) x))
          where
            never : (c : ℕ) → stands_taken c ≡ false
            never c = by_test (stands_taken c) refl
              where
                by_test : (b : Bool) → stands_taken c ≡ b → stands_taken c ≡ false
                by_test false e = e
                by_test true e = let not_has = without c e in let bad : ⊥ = cc in absurd bad
        by_valid false has = by_kept (stands_taken c) (is_raised (view.read c)) (is_raised (view.write c)) refl refl refl
          where
            by_kept : (k r w : Bool) → stands_taken c ≡ k → is_raised (view.read c) ≡ r → is_raised (view.write c) ≡ w → only_if (stands_taken c) x ++ only_if (takes down c) x ≡ only_if (accepts c) x ++ only_if (stands_taken (suc c)) x
            by_kept true r w k rr ww =
                let read = read_stands c low k in
                let asked : state.asked c ≡ true = (asks_at has c low).asked ∙ k in
                let quiet : is_raised (view.write c) ≡ false = alone (is_raised (view.read c)) (is_raised (view.write c)) read (legal.one_kind c low) in
                let none : takes down c ≡ false = ap (λ s. s && not (is_raised (down.commands.waitrequest c))) (shows_is c low ∙ ap₂ (λ s w. (not s && is_raised (view.read c)) || w) (shut_is has c ∙ asked) quiet) in
                let accepted_now : accepts c ≡ is_raised (down.answers.valid c) = read_accepts has c low read ∙ ap (λ b. b && is_raised (down.answers.valid c)) asked in
                let after : stands_taken (suc c) ≡ not (is_raised (down.answers.valid c)) = standing_next has c ∙ ap (λ b. if b then not (is_raised (down.answers.valid c)) else takes_read down c) k in
                ap₂ (λ a b. only_if a x ++ only_if b x) k none ∙ one (is_raised (down.answers.valid c)) ∙ sym (ap₂ (λ a b. only_if a x ++ only_if b x) accepted_now after)
              where
                alone : (r w : Bool) → r ≡ true → not (r && w) ≡ true → w ≡ false
                alone true true e k = sym k
                alone true false e k = refl
                alone false w e k = cc

                one : (v : Bool) → x ∷ [] ≡ only_if v x ++ only_if (not v) x
                one true = refl
                one false = refl
            by_kept false true w k rr ww =
                let asked : state.asked c ≡ false = (asks_at has c low).asked ∙ k in
                let none : accepts c ≡ false = read_accepts has c low rr ∙ ap (λ b. b && is_raised (down.answers.valid c)) asked in
                let shown : is_raised (down.commands.read c) ≡ true = read_is c low ∙ ap₂ (λ s r. not s && r) (shut_is has c ∙ asked) rr in
                let after : stands_taken (suc c) ≡ takes down c = standing_next has c ∙ ap (λ b. if b then not (is_raised (down.answers.valid c)) else takes_read down c) k ∙ ap (λ r. takes down c && r) shown ∙ whole (takes down c) in
                ap (λ a. only_if a x ++ only_if (takes down c) x) k ∙ sym (ap₂ (λ a b. only_if a x ++ only_if b x) none after)
              where
                whole : (b : Bool) → (b && true) ≡ b
                whole true = refl
                whole false = refl
            by_kept false false w k rr ww =
                let hidden : is_raised (down.commands.read c) ≡ false = read_is c low ∙ ap (λ r. not (shut c) && r) rr ∙ nothing (not (shut c)) in
                let after : stands_taken (suc c) ≡ false = standing_next has c ∙ ap (λ b. if b then not (is_raised (down.answers.valid c)) else takes_read down c) k ∙ ap (λ r. takes down c && r) hidden ∙ nothing (takes down c) in
                ap (λ a. only_if a x ++ only_if (takes down c) x) k ∙ ap (λ t. only_if t x) (same w ww) ∙ sym (ap (λ b. only_if (accepts c) x ++ only_if b x) after ∙ append-nil (only_if (accepts c) x))
              where
                same : (w : Bool) → is_raised (view.write c) ≡ w → takes down c ≡ accepts c
                same true ww = write_takes c low ww
                same false ww =
                    ap (λ s. s && not (is_raised (down.commands.waitrequest c))) (shows_is c low ∙ ap₂ (λ r w. (not (shut c) && r) || w) rr ww ∙ calm (not (shut c))) ∙ sym (ap₂ (λ r w. (r || w) && not (is_raised (view.waitrequest c))) rr ww)
                  where
                    calm : (b : Bool) → ((b && false) || false) ≡ false
                    calm true = refl
                    calm false = refl

    sent_if : (b : Bool) (c : ℕ) → c < end → map from_port (only_if b (marked_at down c)) ≡ only_if b (from_host (own c))
    sent_if true c low = ap (λ x. x ∷ []) (same_sent c low)
    sent_if false c low = refl

    host_if : (b : Bool) (c : ℕ) → map from_host (only_if b (own c)) ≡ only_if b (from_host (own c))
    host_if true c = refl
    host_if false c = refl

    pub taken_same : (c : ℕ) → c ≤ end → sent_of (taken_at down c) ≡ all_accepted_by c ++ standing_read c
    taken_same zero low = refl
    taken_same (suc c) low =
        map-append from_port (taken_at down c) (only_if (takes down c) (marked_at down c))
        ∙ ap₂ (λ a b. a ++ b) (taken_same c (omega arith) ∙ ap (λ l. all_accepted_by c ++ l) (standing_is c low)) (sent_if (takes down c) c low)
        ∙ append_assoc (all_accepted_by c) (only_if (stands_taken c) (from_host (own c))) (only_if (takes down c) (from_host (own c)))
        ∙ ap (λ l. all_accepted_by c ++ l) (balance c low (from_host (own c)))
        ∙ sym (append_assoc (all_accepted_by c) (only_if (accepts c) (from_host (own c))) (only_if (stands_taken (suc c)) (from_host (own c))))
        ∙ ap (λ l. (all_accepted_by c ++ l) ++ only_if (stands_taken (suc c)) (from_host (own c))) (sym (host_if (accepts c) c))
        ∙ ap (λ l. l ++ only_if (stands_taken (suc c)) (from_host (own c))) (sym (map-append from_host (accepted side.shape view.signals (host_accepts view) c) (only_if (accepts c) (own c))))

    pub held : (c : ℕ) → c ≤ end → length (accepted side.shape view.signals (host_accepts view) c) ≤ length (taken_at down c) + 0
    held c low =
        let same = ap length (taken_same c low) ∙ length-append (all_accepted_by c) (standing_read c) in
        let one : length (sent_of (taken_at down c)) ≡ length (taken_at down c) = length-map (taken_at down c) _ in
        let other : length (all_accepted_by c) ≡ length (accepted side.shape view.signals (host_accepts view) c) = length-map (accepted side.shape view.signals (host_accepts view) c) _ in
        omega (arith, same, one, other)

    -- ---- what is shown below is the front of what the host presents

    pub in_order : (c : ℕ) → c ≤ end → IsPrefix (sent_of (shown_at down c)) (sent_by (presented side.shape view.signals (host_accepts view) c))
    in_order zero low = prefix_refl []
    in_order (suc c) low =
        let under = shown_is_accepted_and_standing _ _ (marked_at down) end (suc c) (marked_keeps down end legal_below) low in
        let over = shown_is_accepted_and_standing _ _ own end (suc c) (legal_keeps side.shape view.signals (host_accepts view) end (accepts_shows view.signals view.waitrequest) legal) low in
        let left : sent_of (shown_at down (suc c)) ≡ all_accepted_by (suc c) ++ (standing_read (suc c) ++ only_if (is_held down.commands.signals (takes down) c) (from_host (own c))) =
        ap sent_of under ∙ map-append from_port (taken_at down (suc c)) (only_if (is_held down.commands.signals (takes down) c) (marked_at down c))
        ∙ ap₂ (λ a b. a ++ b) (taken_same (suc c) low) (sent_if (is_held down.commands.signals (takes down) c) c low) ∙ append_assoc (all_accepted_by (suc c)) (standing_read (suc c)) (only_if (is_held down.commands.signals (takes down) c) (from_host (own c))) in
        let right : sent_by (presented side.shape view.signals (host_accepts view) (suc c)) ≡ all_accepted_by (suc c) ++ only_if (is_held view.signals (host_accepts view) c) (from_host (own c)) =
        ap sent_by over ∙ map-append from_host (accepted side.shape view.signals (host_accepts view) (suc c)) (only_if (is_held view.signals (host_accepts view) c) (own c)) ∙ ap (λ l. all_accepted_by (suc c) ++ l) (host_if (is_held view.signals (host_accepts view) c) c) in
        subst (λ l. IsPrefix l (sent_by (presented side.shape view.signals (host_accepts view) (suc c)))) (sym left)
        (subst (IsPrefix (all_accepted_by (suc c) ++ (standing_read (suc c) ++ only_if (is_held down.commands.signals (takes down) c) (from_host (own c))))) (sym right) (behind (all_accepted_by (suc c)) (by_both (stands_taken (suc c)) (is_held down.commands.signals (takes down) c) refl refl)))
      where
        behind : (front : List Sent) {xs ys : List Sent} → IsPrefix xs ys → IsPrefix (front ++ xs) (front ++ ys)
        behind [] p = p
        behind (x ∷ front) p = let q = behind front p in record { rest = q.rest; joins = ap (λ l. x ∷ l) q.joins }

        stands : is_held view.signals (host_accepts view) c ≡ true → (l : List Sent) → l ≡ from_host (own c) ∷ [] → IsPrefix l (only_if (is_held view.signals (host_accepts view) c) (from_host (own c)))
        stands held l e = subst (λ b. IsPrefix l (only_if b (from_host (own c)))) (sym held) (subst (λ l. IsPrefix l (from_host (own c) ∷ [])) (sym e) (prefix_refl _))

        by_both : (k h : Bool) → stands_taken (suc c) ≡ k → is_held down.commands.signals (takes down) c ≡ h → IsPrefix (only_if (stands_taken (suc c)) (from_host (own c)) ++ only_if (is_held down.commands.signals (takes down) c) (from_host (own c))) (only_if (is_held view.signals (host_accepts view) c) (from_host (own c)))
        by_both false false k h = subst (λ l. IsPrefix l (only_if (is_held view.signals (host_accepts view) c) (from_host (own c)))) (sym (ap₂ (λ a b. only_if a (from_host (own c)) ++ only_if b (from_host (own c))) k h)) (record { rest = _; joins = refl })
        by_both true false k h =
            let s = stands_on_host c low k in
            stands (ap₂ (λ r t. (r || is_raised (view.write c)) && not t) s.0 s.1) (only_if (stands_taken (suc c)) (from_host (own c)) ++ only_if (is_held down.commands.signals (takes down) c) (from_host (own c))) (ap₂ (λ a b. only_if a (from_host (own c)) ++ only_if b (from_host (own c))) k h)
        by_both false true k h =
            let parts = and_parts (shows down.commands.signals c) (not (takes down c)) h in
            stands (ap₂ (λ s a. s && not a) (shown_up c low parts.0) (waits_above c low parts.0 (not-true (takes down c) parts.1))) (only_if (stands_taken (suc c)) (from_host (own c)) ++ only_if (is_held down.commands.signals (takes down) c) (from_host (own c))) (ap₂ (λ a b. only_if a (from_host (own c)) ++ only_if b (from_host (own c))) k h)
        by_both true true k h = absurd (apart (stands_taken c) refl)
          where
            has : side.has_readdatavalid ≡ false
            has = without (suc c) k

            parts : (shows down.commands.signals c ≡ true) × (not (takes down c) ≡ true)
            parts = and_parts (shows down.commands.signals c) (not (takes down c)) h

            -- a read that is owed is hidden below, and one that is taken now doesn't wait below
            apart : (b : Bool) → stands_taken c ≡ b → ⊥
            apart true e =
                let asked : state.asked c ≡ true = (asks_at has c low).asked ∙ e in
                let read = read_stands c low e in
                let quiet : is_raised (view.write c) ≡ false = alone (is_raised (view.read c)) (is_raised (view.write c)) read (legal.one_kind c low) in
                let hidden : shows down.commands.signals c ≡ false = shows_is c low ∙ ap₂ (λ s w. (not s && is_raised (view.read c)) || w) (shut_is has c ∙ asked) quiet in
                let shown = parts.0 in
                cc
              where
                alone : (r w : Bool) → r ≡ true → not (r && w) ≡ true → w ≡ false
                alone true true e k = sym k
                alone true false e k = refl
                alone false w e k = cc
            apart false e =
                let taken : takes_read down c ≡ true = sym (standing_next has c ∙ ap (λ b. if b then not (is_raised (down.answers.valid c)) else takes_read down c) e) ∙ k in
                let took = (and_parts (takes down c) (is_raised (down.commands.read c)) taken).0 in
                let none = not-true (takes down c) parts.1 in
                cc

    -- a read is taken only where fewer than 16 are unanswered
    pub free_to_read : side.has_readdatavalid ≡ true → (c : ℕ) → c < end → takes_read down c ≡ true → length (state.queue c) < 16
    free_to_read has c low taken =
        let seen = sym (read_is c low) ∙ (and_parts (takes down c) (is_raised (down.commands.read c)) taken).1 in
        let gate = (and_parts (not (is_shut side state c)) (is_raised (view.read c)) seen).0 in
        ltb-true (length (state.queue c)) 16 (twice (nat_lt (length (state.queue c)) 16) (ap (λ h. not (if h then not (nat_lt (length (state.queue c)) 16) else state.asked c)) (sym has) ∙ gate))
      where
        twice : (b : Bool) → not (not b) ≡ true → b ≡ true
        twice true e = refl
        twice false e = e
