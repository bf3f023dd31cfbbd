-- What the part next to an agent shows to it does what stands above.
use Rattle.std.proofs.Common.{ℕ, zero, suc, ◌<◌, ◌≡◌, ◌+◌, ◌-◌, ◌*◌, ◌/◌, ◌%◌, ◌^◌, [], ◌∷◌, ◌++◌, List, Bool, true, false, not, ◌&&◌, ◌||◌, IsTrue, if◌then◌else◌, min, nat_lt, nat_eq, arith, refl, sym, ap, ap₂, ◌∙◌, map, filter, flat_map, append-nil, zero-mul}
use Rattle.std.specs.List.{list_any, list_all}
use Rattle.std.proofs.lemmas.Bool.{and_parts, ltb-true}
use Rattle.std.proofs.lemmas.List.Folds.{list_all-append}
use Rattle.std.proofs.Math.Nat.{mod-add-mod, two-pow-succ, div-div-eq-div-mul, div_self}
use Rattle.histories.specs.History.{is_raised, only_if, numbers}
use Rattle.memory_runs.specs.Views.{System, Run, AgentSide, AgentView, Shape, levels_at}
use Rattle.memory_runs.specs.Views.Kind.{Writes}
use Rattle.memory_runs.specs.Operations.{Beat, Operation, is_enabled, filled_lanes, filled_of_piece, pieces, operation_at, operation_of_kind, byte_at, own_operations, operations_of}
use Rattle.memory_runs.specs.Commands.{Burst, Transfer, agent_accepts, shows, byte_address, burst_before, transfer_at, transfer_of, write_transfer, read_transfer, read_beat, is_of_reads}
use Rattle.memory_runs.specs.Legal.{IsLegalAgent}
use Rattle.memory_machines.specs.Link.{Marked, takes, marked_at, taken_at, shown_at, AreLegalAt, beat_operations, operations_in, is_nonempty}
use Rattle.memory_machines.specs.Lines.{TaggedPort, HasLanes, ServesKinds, target_of}
use Rattle.memory_machines.specs.SideLaws.{marked_keeps}
use Rattle.memory_machines.specs.Straight.{ShowsWhatItIsAsked, has_room_at_agent}
use Rattle.memory_parts.specs.Agent.{AgentState, ShowsToAgent, IsAgentPlan, is_full}
use Rattle.memory_waits.proofs.straight.AgentQueue.{gate_open}
use Rattle.memory_waits.proofs.straight.AgentShown.{cut, same_burst, address_is, count_is, write_is, word_is, shows_is}
use Rattle.memory_waits.proofs.straight.Shown.{shown_is}

-- ---- lanes

pub keeps_all : (f : ℕ → Bool) (first count : ℕ) → ((lane : ℕ) → lane < first + count → f lane ≡ true) → filter f (numbers first count) ≡ numbers first count
keeps_all f first zero all = refl
keeps_all f first (suc count) all = let here = all first (omega arith) in rw here (ap (λ l. first ∷ l) (keeps_all f (suc first) count (λ lane low. all lane (omega arith))))

twice_is : (n : ℕ) → n + n ≡ 2 * n
twice_is n = omega arith

-- all lanes are set in a value of all ones
pub all_set : (n ones lane : ℕ) → ones + 1 ≡ 2 ^ n → lane < n → is_enabled ones lane ≡ true
all_set zero ones lane e low = absurd (omega arith)
all_set (suc n) ones zero e low =
    let twice = two-pow-succ n in
    let odd : (ones / 2 ^ 0) % 2 ≡ 1 = omega (arith, twice, e) in
    ap (λ k. nat_eq k 1) odd
all_set (suc n) ones (suc lane) e low =
    let twice = two-pow-succ n in
    let half : ones / 2 + 1 ≡ 2 ^ n = omega (arith, twice, e) in
    let power = two-pow-succ lane in
    let step : ones / 2 ^ suc lane ≡ (ones / 2) / 2 ^ lane = ap (λ d. ones / d) (power ∙ twice_is (2 ^ lane)) ∙ sym (div-div-eq-div-mul ones 2 (2 ^ lane)) in
    ap (λ k. nat_eq (k % 2) 1) step ∙ all_set n (ones / 2) lane half (omega arith)

pub filled_are : (from to : Shape) (enables : ℕ) → from.word_bytes ≡ to.word_bytes → 0 < to.word_bytes →
    filled_lanes from to enables ≡ (if to.has_enables then filter (is_enabled enables) (numbers 0 to.word_bytes) else if list_any (is_enabled enables) (numbers 0 to.word_bytes) then numbers 0 to.word_bytes else [])
filled_are from to enables same some =
    let least : min from.word_bytes to.word_bytes ≡ to.word_bytes = omega (arith, same) in
    let one : pieces from to ≡ 1 = ap₂ (λ a b. a / b) same least ∙ div_self some in
    let none : 0 * to.word_bytes ≡ 0 = zero-mul to.word_bytes in
    ap (λ n. flat_map (filled_of_piece from to enables) (numbers 0 n)) one ∙ append-nil (filled_of_piece from to enables 0)
    ∙ ap (λ n. if to.has_enables then filter (is_enabled enables) (numbers (0 * n) n) else if list_any (is_enabled enables) (numbers (0 * n) n) then numbers (0 * n) n else []) least
    ∙ ap (λ n. if to.has_enables then filter (is_enabled enables) (numbers n to.word_bytes) else if list_any (is_enabled enables) (numbers n to.word_bytes) then numbers n to.word_bytes else []) none

-- ---- one beat

pub record IsAlike (from to : Shape) (span : ℕ) (above below : Beat) : Type 0 where
  pub kind : below.kind ≡ above.kind
  pub place : below.address % span ≡ above.address % span
  pub word : below.word ≡ above.word
  pub lanes : filter (is_enabled below.enables) (numbers 0 to.word_bytes) ≡ filled_lanes from to above.enables

pub map_same : {A B : Type 0} (f g : A → B) → ((x : A) → f x ≡ g x) → (xs : List A) → map f xs ≡ map g xs
map_same f g same [] = refl
map_same f g same (x ∷ xs) = ap₂ (λ y ys. y ∷ ys) (same x) (map_same f g same xs)

module _ (from to : Shape) (span : ℕ) where
  pub same_operations : (above below : Beat) → IsAlike from to span above below → own_operations to span below ≡ operations_of from to span above
  same_operations above below alike =
      ap (map (operation_at span below)) alike.lanes ∙ map_same (operation_at span below) (operation_at span above) same (filled_lanes from to above.enables)
    where
      same : (lane : ℕ) → operation_at span below lane ≡ operation_at span above lane
      same lane =
          ap₂ (λ k w. operation_of_kind k ((below.address + lane) % span) (byte_at w lane)) alike.kind alike.word
          ∙ ap (λ p. operation_of_kind above.kind p (byte_at above.word lane)) (sym (mod-add-mod below.address span lane) ∙ ap (λ p. (p + lane) % span) alike.place ∙ mod-add-mod above.address span lane)

none_of : (f : ℕ → Bool) (lanes : List ℕ) → is_nonempty (if list_any f lanes then lanes else []) ≡ true → list_any f lanes ≡ true
none_of f lanes some = by_test (list_any f lanes) some
  where
    by_test : (b : Bool) → is_nonempty (if b then lanes else []) ≡ true → b ≡ true
    by_test true some = refl
    by_test false some = some

nonempty_map : {A B : Type 0} (f : A → B) (xs : List A) → is_nonempty (map f xs) ≡ is_nonempty xs
nonempty_map f [] = refl
nonempty_map f (x ∷ xs) = refl

module _ (system : System) (run : Run) (agent : ℕ) (up : TaggedPort) (state : AgentState) (end : ℕ) (machine : ShowsToAgent (system.agent agent) (run.at_agent agent) up state end) (plan : IsAgentPlan (system.agent agent))
    (legal : AreLegalAt up.port end) (kinds : ServesKinds (system.agent agent) up.port end) (lanes : HasLanes (target_of system agent) up.port end) where
  abbrev side : AgentSide
  side = system.agent agent

  abbrev view : AgentView
  view = run.at_agent agent

  abbrev acts : Beat → Bool
  acts b = is_nonempty (beat_operations (target_of system agent) up.shape b)

  -- a beat that is shown has an operation, before an agent without byte enables
  has_acts : (c : ℕ) → c < end → shows up.commands.signals c ≡ true → IsTrue (side.has_enables || list_all acts (marked_at up.port c).transfer.beats)
  has_acts c low is = by_has side.has_enables refl
    where
      by_has : (b : Bool) → side.has_enables ≡ b → IsTrue (side.has_enables || list_all acts (marked_at up.port c).transfer.beats)
      by_has true has = rw has refl
      by_has false has =
          let all : list_all (λ (m : Marked). list_all acts m.transfer.beats) (shown_at up.port (suc c)) ≡ true = ap (λ b. b || list_all (λ (m : Marked). list_all acts m.transfer.beats) (shown_at up.port (suc c))) (sym has) ∙ lanes (suc c) low in
          let whole : shown_at up.port (suc c) ≡ taken_at up.port c ++ marked_at up.port c ∷ [] = shown_is (shows up.commands.signals) (takes up.port) (marked_at up.port) end (marked_keeps up.port end legal) c low ∙ ap (λ b. taken_at up.port c ++ only_if b (marked_at up.port c)) is in
          let last = (and_parts (list_all (λ (m : Marked). list_all acts m.transfer.beats) (taken_at up.port c)) (list_all (λ (m : Marked). list_all acts m.transfer.beats) (marked_at up.port c ∷ []))
          (sym (list_all-append (λ (m : Marked). list_all acts m.transfer.beats) (taken_at up.port c) (marked_at up.port c ∷ [])) ∙ ap (list_all (λ (m : Marked). list_all acts m.transfer.beats)) (sym whole) ∙ all)).1 in
          rw has (and_parts (list_all acts (marked_at up.port c).transfer.beats) true last).0

  same_lanes : (c : ℕ) → c < end → (b : Beat) → b.enables ≡ up.commands.enables c → IsTrue (side.has_enables || acts b) →
      filter (is_enabled (view.enables c)) (numbers 0 side.word_bytes) ≡ filled_lanes up.shape side.shape b.enables
  same_lanes c low b e some = by_has side.has_enables refl
    where
      by_has : (h : Bool) → side.has_enables ≡ h → filter (is_enabled (view.enables c)) (numbers 0 side.word_bytes) ≡ filled_lanes up.shape side.shape b.enables
      by_has true has =
          ap (λ n. filter (is_enabled n) (numbers 0 side.word_bytes)) (machine.enables c low has ∙ sym e)
          ∙ sym (filled_are up.shape side.shape b.enables machine.words plan.word ∙ ap (λ t. if t then filter (is_enabled b.enables) (numbers 0 side.word_bytes) else if list_any (is_enabled b.enables) (numbers 0 side.word_bytes) then numbers 0 side.word_bytes else []) has)
      by_has false has =
          let filled : filled_lanes up.shape side.shape b.enables ≡ (if list_any (is_enabled b.enables) (numbers 0 side.word_bytes) then numbers 0 side.word_bytes else []) =
          filled_are up.shape side.shape b.enables machine.words plan.word ∙ ap (λ t. if t then filter (is_enabled b.enables) (numbers 0 side.word_bytes) else if list_any (is_enabled b.enables) (numbers 0 side.word_bytes) then numbers 0 side.word_bytes else []) has in
          let own : acts b ≡ true = ap (λ t. t || acts b) (sym has) ∙ some in
          let any : list_any (is_enabled b.enables) (numbers 0 side.word_bytes) ≡ true = none_of (is_enabled b.enables) (numbers 0 side.word_bytes) (ap is_nonempty (sym filled) ∙ sym (nonempty_map _ (filled_lanes up.shape side.shape b.enables)) ∙ own) in
          keeps_all (is_enabled (view.enables c)) 0 side.word_bytes (λ lane there. all_set side.word_bytes (view.enables c) lane (machine.all_lanes c low has) (omega (arith, there)))
          ∙ sym (filled ∙ ap (λ t. if t then numbers 0 side.word_bytes else []) any)

  abbrev over : ℕ → Burst
  over c = burst_before up.shape up.commands.signals (takes up.port) c

  abbrev below : ℕ → Transfer
  below c = transfer_at side.shape view.signals (agent_accepts side view) c

  is_below : (c : ℕ) → c < end → below c ≡ transfer_of side.shape (levels_at view.signals c) (cut side.span (over c))
  is_below c low = ap (transfer_of side.shape (levels_at view.signals c)) (same_burst side view up state end machine plan legal kinds c (omega arith))

  abbrev does : Beat → List Operation
  does b = operations_of up.shape side.shape side.span b

  abbrev own_does : Beat → List Operation
  own_does b = own_operations side.shape side.span b

  -- read beats, one by one
  reads_same : (c : ℕ) → c < end → (xs : List ℕ) → IsTrue (side.has_enables || list_all acts (map (read_beat up.shape (levels_at up.commands.signals c)) xs)) →
      flat_map own_does (map (read_beat side.shape (levels_at view.signals c)) xs) ≡ flat_map does (map (read_beat up.shape (levels_at up.commands.signals c)) xs)
  reads_same c low [] some = refl
  reads_same c low (x ∷ xs) some =
      let parts = split side.has_enables (acts (read_beat up.shape (levels_at up.commands.signals c) x)) (list_all acts (map (read_beat up.shape (levels_at up.commands.signals c)) xs)) some in
      let at = address_is side view up state end machine plan legal kinds c low in
      let words = machine.words in
      ap₂ (λ x y. x ++ y) (same_operations up.shape side.shape side.span (read_beat up.shape (levels_at up.commands.signals c) x) (read_beat side.shape (levels_at view.signals c) x) (record {
        kind = refl;
        place = ap₂ (λ a w. (a + x * w) % side.span) at (sym words) ∙ mod-add-mod (byte_address up.shape (up.commands.address c)) side.span (x * up.shape.word_bytes);
        word = refl;
        lanes = same_lanes c low (read_beat up.shape (levels_at up.commands.signals c) x) refl parts.0;
      })) (reads_same c low xs parts.1)
    where
      split : (h a b : Bool) → (h || (a && b)) ≡ true → ((h || a) ≡ true) × ((h || b) ≡ true)
      split true a b e = (refl, refl)
      split false a b e = and_parts a b e

  -- the write beat above, and the one below
  abbrev written : ℕ → Beat
  written c = record {
    kind = Writes;
    address = (if nat_eq (over c).left 0 then byte_address up.shape (up.commands.address c) else (over c).first) + (if nat_eq (over c).left 0 then 0 else (over c).done) * up.shape.word_bytes;
    word = up.commands.word c;
    enables = up.commands.enables c;
  }

  abbrev written_below : ℕ → Beat
  written_below c = record {
    kind = Writes;
    address = (if nat_eq (over c).left 0 then byte_address side.shape (view.address c) else (over c).first % side.span) + (if nat_eq (over c).left 0 then 0 else (over c).done) * side.word_bytes;
    word = view.word c;
    enables = view.enables c;
  }

  same_does : (c : ℕ) → c < end → shows up.commands.signals c ≡ true → flat_map own_does (below c).beats ≡ operations_in (target_of system agent) up.shape (marked_at up.port c)
  same_does c low is = ap (λ (t : Transfer). flat_map own_does t.beats) (is_below c low) ∙ by_kind (is_raised (up.commands.write c)) refl
    where
      write_place : (b : Bool) → nat_eq (over c).left 0 ≡ b → ((if nat_eq (over c).left 0 then byte_address side.shape (view.address c) else (over c).first % side.span) + (if nat_eq (over c).left 0 then 0 else (over c).done) * side.word_bytes) % side.span
          ≡ ((if nat_eq (over c).left 0 then byte_address up.shape (up.commands.address c) else (over c).first) + (if nat_eq (over c).left 0 then 0 else (over c).done) * up.shape.word_bytes) % side.span
      write_place true e =
          let words = machine.words in
          rw e (ap₂ (λ a w. (a + 0 * w) % side.span) (address_is side view up state end machine plan legal kinds c low) (sym words) ∙ mod-add-mod (byte_address up.shape (up.commands.address c)) side.span (0 * up.shape.word_bytes))
      write_place false e =
          let words = machine.words in
          rw e (ap (λ w. ((over c).first % side.span + (over c).done * w) % side.span) (sym words) ∙ mod-add-mod (over c).first side.span ((over c).done * up.shape.word_bytes))

      some_beats : (w : Bool) → is_raised (up.commands.write c) ≡ w → IsTrue (side.has_enables || list_all acts (if w then write_transfer up.shape (levels_at up.commands.signals c) (over c) else read_transfer up.shape (levels_at up.commands.signals c)).beats)
      some_beats w e = ap (λ t. side.has_enables || list_all acts (if t then write_transfer up.shape (levels_at up.commands.signals c) (over c) else read_transfer up.shape (levels_at up.commands.signals c)).beats) (sym e) ∙ has_acts c low is

      first : (h a : Bool) → (h || (a && true)) ≡ true → (h || a) ≡ true
      first true a e = refl
      first false true e = refl
      first false false e = e

      write_same : is_raised (up.commands.write c) ≡ true → flat_map own_does (written_below c ∷ []) ≡ flat_map does (written c ∷ [])
      write_same e =
          ap (λ l. l ++ []) (same_operations up.shape side.shape side.span (written c) (written_below c) (record {
            kind = refl;
            place = write_place (nat_eq (over c).left 0) refl;
            word = word_is side view up state end machine plan legal kinds c low e;
            lanes = same_lanes c low (written c) refl (first side.has_enables (acts (written c)) (some_beats true e));
          }))

      read_same : is_raised (up.commands.write c) ≡ false → flat_map own_does (read_transfer side.shape (levels_at view.signals c)).beats ≡ flat_map does (read_transfer up.shape (levels_at up.commands.signals c)).beats
      read_same e = by_left (nat_lt 0 (over c).left) refl
        where
          by_left : (b : Bool) → nat_lt 0 (over c).left ≡ b → flat_map own_does (read_transfer side.shape (levels_at view.signals c)).beats ≡ flat_map does (read_transfer up.shape (levels_at up.commands.signals c)).beats
          by_left true under = let quiet = legal.legal.finished c low under in let bad : ⊥ = cc in absurd bad
          by_left false free =
              ap (λ n. flat_map own_does (map (read_beat side.shape (levels_at view.signals c)) (numbers 0 n))) (count_is side view up state end machine plan legal kinds c low is free)
              ∙ reads_same c low (numbers 0 (up.commands.count c)) (some_beats false e)

      by_kind : (b : Bool) → is_raised (up.commands.write c) ≡ b → flat_map own_does (transfer_of side.shape (levels_at view.signals c) (cut side.span (over c))).beats ≡ operations_in (target_of system agent) up.shape (marked_at up.port c)
      by_kind true e =
          let lower : is_raised (view.write c) ≡ true = write_is side view up state end machine plan legal kinds c low ∙ e in
          rw (e, lower) (write_same e)
      by_kind false e =
          let lower : is_raised (view.write c) ≡ false = write_is side view up state end machine plan legal kinds c low ∙ e in
          rw (e, lower) (read_same e)

  pub shows_asked : IsLegalAgent side view (end - 1) → ShowsWhatItIsAsked system run agent up end
  shows_asked proper = record {
    shown = λ c low has asked.
        let both = and_parts (shows up.commands.signals c) (not (is_of_reads (marked_at up.port c).transfer.kind) || has_room_at_agent system run agent c) asked in
        (shows_is side view up state end machine plan legal kinds c low ∙ by_kind c low has both.0 both.1 (is_raised (up.commands.write c)) refl, same_does c low both.0);
  }
    where
      by_kind : (c : ℕ) → c < end → IsTrue side.has_readdatavalid → shows up.commands.signals c ≡ true → (not (is_of_reads (marked_at up.port c).transfer.kind) || has_room_at_agent system run agent c) ≡ true →
          (b : Bool) → is_raised (up.commands.write c) ≡ b → ((not (is_full side state c) && is_raised (up.commands.read c)) || is_raised (up.commands.write c)) ≡ true
      by_kind c low has is free true e = ap (λ w. (not (is_full side state c) && is_raised (up.commands.read c)) || w) e ∙ or_true (not (is_full side state c) && is_raised (up.commands.read c))
        where
          or_true : (b : Bool) → (b || true) ≡ true
          or_true true = refl
          or_true false = refl
      by_kind c low has is free false e =
          let reads : is_of_reads (marked_at up.port c).transfer.kind ≡ true = rw e refl in
          let room : has_room_at_agent system run agent c ≡ true = ap (λ b. not b || has_room_at_agent system run agent c) (sym reads) ∙ free in
          let opened = gate_open side view up state end machine plan legal kinds proper has c low (ltb-true _ _ room) in
          ap₂ (λ f w. (not f && is_raised (up.commands.read c)) || w) opened e ∙ ap (λ w. is_raised (up.commands.read c) || w) (sym e) ∙ is
