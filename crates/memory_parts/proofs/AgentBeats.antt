-- The beats that an agent accepts are like those that are taken above its translator, in order.
use Rattle.std.proofs.Common.{ℕ, zero, suc, ◌<◌, ◌≤◌, ◌≡◌, ◌+◌, ◌*◌, ◌%◌, [], ◌∷◌, ◌++◌, List, Bool, true, false, not, ◌&&◌, ◌||◌, IsTrue, if◌then◌else◌, nat_lt, nat_eq, arith, refl, sym, ap, ap₂, ◌∙◌, subst, map, filter, flat_map, append-nil}
use Rattle.std.specs.List.{list_any, list_all}
use Rattle.std.proofs.lemmas.Bool.{and_parts}
use Rattle.std.proofs.lemmas.List.Folds.{list_all-append}
use Rattle.std.proofs.lemmas.Grind.{flat_map-append}
use Rattle.std.proofs.Math.Nat.{mod-add-mod}
use Rattle.histories.specs.History.{is_raised, only_if, numbers}
use Rattle.memory_runs.specs.Views.{System, Run, AgentSide, AgentView, levels_at}
use Rattle.memory_runs.specs.Views.Kind.{Writes}
use Rattle.memory_runs.specs.Operations.{Beat, is_enabled, filled_lanes}
use Rattle.memory_runs.specs.Commands.{Burst, Transfer, agent_accepts, shows, byte_address, burst_before, transfer_at, transfer_of, write_transfer, read_transfer, read_beat}
use Rattle.memory_runs.specs.Order.{TaggedBeat, beats_taken, beats_taken_in}
use Rattle.memory_machines.specs.Link.{Marked, takes, marked_at, taken_at, shown_at, AreLegalAt, beat_operations, is_nonempty}
use Rattle.memory_machines.specs.Lines.{TaggedPort, HasLanes, target_of}
use Rattle.memory_machines.specs.SideLaws.{taken_is_shown}
use Rattle.memory_machines.specs.Lines.{ServesKinds}
use Rattle.memory_parts.specs.Agent.{AgentState, ShowsToAgent, IsAgentPlan}
use Rattle.memory_parts.proofs.Alike.{AreAlike, alike_append, tag_all, tagged_beats, keeps_all, all_set, filled_are}
use Rattle.memory_parts.proofs.Alike.AreAlike.{no_beats, one_more}
use Rattle.memory_parts.proofs.AgentShown.{cut, same_takes, same_burst, address_is, count_is, write_is, word_is}

-- a test that all of a list pass, one by one
last_passes : {A : Type 0} (f : A → Bool) (xs rest whole : List A) (x : A) → (xs ++ x ∷ []) ++ rest ≡ whole → list_all f whole ≡ true → f x ≡ true
last_passes f xs rest whole x joins all =
    let one = subst (λ l. list_all f l ≡ true) (sym joins) all in
    let front = (and_parts (list_all f (xs ++ x ∷ [])) (list_all f rest) (sym (list_all-append f (xs ++ x ∷ []) rest) ∙ one)).0 in
    let back = (and_parts (list_all f xs) (list_all f (x ∷ [])) (sym (list_all-append f xs (x ∷ [])) ∙ front)).1 in
    (and_parts (f x) true back).0

none_of : (f : ℕ → Bool) (lanes : List ℕ) → is_nonempty (if list_any f lanes then lanes else []) ≡ true → list_any f lanes ≡ true
none_of f lanes some = by_test (list_any f lanes) some
  where
    by_test : (b : Bool) → is_nonempty (if b then lanes else []) ≡ true → b ≡ true
    by_test true some = refl
    by_test false some = some

nonempty_map : {A B : Type 0} (f : A → B) (xs : List A) → is_nonempty (map f xs) ≡ is_nonempty xs
nonempty_map f [] = refl
nonempty_map f (x ∷ xs) = refl

module _ (system : System) (run : Run) (agent : ℕ) (up : TaggedPort) (state : AgentState) (end : ℕ) (machine : ShowsToAgent (system.agent agent) (run.at_agent agent) up state end) (plan : IsAgentPlan (system.agent agent))
    (legal : AreLegalAt up.port end) (kinds : ServesKinds (system.agent agent) up.port end) (lanes : HasLanes (target_of system agent) up.port end) where
  abbrev side : AgentSide
  side = system.agent agent

  abbrev view : AgentView
  view = run.at_agent agent

  abbrev acts : Beat → Bool
  acts b = is_nonempty (beat_operations (target_of system agent) up.shape b)

  -- a beat that is taken has an operation, before an agent without byte enables
  has_acts : (c : ℕ) → c < end → takes up.port c ≡ true → IsTrue (side.has_enables || list_all acts (marked_at up.port c).transfer.beats)
  has_acts c low taken = by_has side.has_enables refl
    where
      by_has : (b : Bool) → side.has_enables ≡ b → IsTrue (side.has_enables || list_all acts (marked_at up.port c).transfer.beats)
      by_has true has = rw has refl
      by_has false has =
          let front = taken_is_shown up.port end (suc c) legal low in
          let all : list_all (λ (m : Marked). list_all acts m.transfer.beats) (shown_at up.port (suc c)) ≡ true = ap (λ b. b || list_all (λ (m : Marked). list_all acts m.transfer.beats) (shown_at up.port (suc c))) (sym has) ∙ lanes (suc c) low in
          let joins : (taken_at up.port c ++ marked_at up.port c ∷ []) ++ front.rest ≡ shown_at up.port (suc c) = ap (λ b. (taken_at up.port c ++ only_if b (marked_at up.port c)) ++ front.rest) (sym taken) ∙ front.joins in
          rw has (last_passes (λ (m : Marked). list_all acts m.transfer.beats) (taken_at up.port c) front.rest (shown_at up.port (suc c)) (marked_at up.port c) joins all)

  same_lanes : (c : ℕ) → c < end → (b : Beat) → b.enables ≡ up.commands.enables c → IsTrue (side.has_enables || acts b) →
      filter (is_enabled (view.enables c)) (numbers 0 side.word_bytes) ≡ filled_lanes up.shape side.shape b.enables
  same_lanes c low b e some = by_has side.has_enables refl
    where
      by_has : (h : Bool) → side.has_enables ≡ h → filter (is_enabled (view.enables c)) (numbers 0 side.word_bytes) ≡ filled_lanes up.shape side.shape b.enables
      by_has true has =
          ap (λ n. filter (is_enabled n) (numbers 0 side.word_bytes)) (machine.enables c low has ∙ sym e)
          ∙ sym (filled_are up.shape side.shape b.enables machine.words plan.word ∙ ap (λ t. if t then filter (is_enabled b.enables) (numbers 0 side.word_bytes) else if list_any (is_enabled b.enables) (numbers 0 side.word_bytes) then numbers 0 side.word_bytes else []) has)
      by_has false has =
          let filled : filled_lanes up.shape side.shape b.enables ≡ (if list_any (is_enabled b.enables) (numbers 0 side.word_bytes) then numbers 0 side.word_bytes else []) =
          filled_are up.shape side.shape b.enables machine.words plan.word ∙ ap (λ t. if t then filter (is_enabled b.enables) (numbers 0 side.word_bytes) else if list_any (is_enabled b.enables) (numbers 0 side.word_bytes) then numbers 0 side.word_bytes else []) has in
          let own : acts b ≡ true = ap (λ t. t || acts b) (sym has) ∙ some in
          let any : list_any (is_enabled b.enables) (numbers 0 side.word_bytes) ≡ true = none_of (is_enabled b.enables) (numbers 0 side.word_bytes) (ap is_nonempty (sym filled) ∙ sym (nonempty_map _ (filled_lanes up.shape side.shape b.enables)) ∙ own) in
          keeps_all (is_enabled (view.enables c)) 0 side.word_bytes (λ lane there. all_set side.word_bytes (view.enables c) lane (machine.all_lanes c low has) (omega (arith, there)))
          ∙ sym (filled ∙ ap (λ t. if t then numbers 0 side.word_bytes else []) any)

  abbrev over : ℕ → Burst
  over c = burst_before up.shape up.commands.signals (takes up.port) c

  abbrev below : ℕ → Transfer
  below c = transfer_at side.shape view.signals (agent_accepts side view) c

  is_below : (c : ℕ) → c < end → below c ≡ transfer_of side.shape (levels_at view.signals c) (cut side.span (over c))
  is_below c low = ap (transfer_of side.shape (levels_at view.signals c)) (same_burst side view up state end machine plan legal kinds c (omega arith))

  abbrev Like : List TaggedBeat → List TaggedBeat → Type 0
  Like = AreAlike up.shape side.shape side.span

  -- read beats, one by one
  reads_alike : (c : ℕ) → c < end → (xs : List ℕ) → IsTrue (side.has_enables || list_all acts (map (read_beat up.shape (levels_at up.commands.signals c)) xs)) →
      Like (tag_all (up.commands.tag c) (map (read_beat up.shape (levels_at up.commands.signals c)) xs)) (tag_all (view.grant c) (map (read_beat side.shape (levels_at view.signals c)) xs))
  reads_alike c low [] some = no_beats
  reads_alike c low (x ∷ xs) some =
      let parts = split side.has_enables (acts (read_beat up.shape (levels_at up.commands.signals c) x)) (list_all acts (map (read_beat up.shape (levels_at up.commands.signals c)) xs)) some in
      let at = address_is side view up state end machine plan legal kinds c low in
      let words = machine.words in
      one_more (machine.grant c low) (record {
        kind = refl;
        place = ap₂ (λ a w. (a + x * w) % side.span) at (sym words) ∙ mod-add-mod (byte_address up.shape (up.commands.address c)) side.span (x * up.shape.word_bytes);
        word = refl;
        lanes = same_lanes c low (read_beat up.shape (levels_at up.commands.signals c) x) refl parts.0;
      }) (reads_alike c low xs parts.1)
    where
      split : (h a b : Bool) → (h || (a && b)) ≡ true → ((h || a) ≡ true) × ((h || b) ≡ true)
      split true a b e = (refl, refl)
      split false a b e = and_parts a b e

  -- the write beat above
  abbrev written : ℕ → Beat
  written c = record {
    kind = Writes;
    address = (if nat_eq (over c).left 0 then byte_address up.shape (up.commands.address c) else (over c).first) + (if nat_eq (over c).left 0 then 0 else (over c).done) * up.shape.word_bytes;
    word = up.commands.word c;
    enables = up.commands.enables c;
  }

  shown_above : (c : ℕ) → takes up.port c ≡ true → shows up.commands.signals c ≡ true
  shown_above c taken = (and_parts (shows up.commands.signals c) (not (is_raised (up.commands.waitrequest c))) taken).0

  alike : (c : ℕ) → c < end → takes up.port c ≡ true → Like (tag_all (up.commands.tag c) (marked_at up.port c).transfer.beats) (tag_all (view.grant c) (below c).beats)
  alike c low taken = subst (λ (t : Transfer). Like (tag_all (up.commands.tag c) (marked_at up.port c).transfer.beats) (tag_all (view.grant c) t.beats)) (sym (is_below c low)) (by_kind (is_raised (up.commands.write c)) refl)
    where
      begin : ℕ
      begin = byte_address up.shape (up.commands.address c)

      write_place : (b : Bool) → nat_eq (over c).left 0 ≡ b → ((if nat_eq (over c).left 0 then byte_address side.shape (view.address c) else (over c).first % side.span) + (if nat_eq (over c).left 0 then 0 else (over c).done) * side.word_bytes) % side.span
          ≡ ((if nat_eq (over c).left 0 then byte_address up.shape (up.commands.address c) else (over c).first) + (if nat_eq (over c).left 0 then 0 else (over c).done) * up.shape.word_bytes) % side.span
      write_place true e =
          let words = machine.words in
          rw e (ap₂ (λ a w. (a + 0 * w) % side.span) (address_is side view up state end machine plan legal kinds c low) (sym words) ∙ mod-add-mod (byte_address up.shape (up.commands.address c)) side.span (0 * up.shape.word_bytes))
      write_place false e =
          let words = machine.words in
          rw e (ap (λ w. ((over c).first % side.span + (over c).done * w) % side.span) (sym words) ∙ mod-add-mod (over c).first side.span ((over c).done * up.shape.word_bytes))

      write_beats : (b : Bool) → is_raised (up.commands.write c) ≡ true → Like (tag_all (up.commands.tag c) (write_transfer up.shape (levels_at up.commands.signals c) (over c)).beats) (tag_all (view.grant c) (write_transfer side.shape (levels_at view.signals c) (cut side.span (over c))).beats)
      write_beats b e =
          let some : IsTrue (side.has_enables || list_all acts (write_transfer up.shape (levels_at up.commands.signals c) (over c)).beats) =
          ap (λ t. side.has_enables || list_all acts (if t then write_transfer up.shape (levels_at up.commands.signals c) (over c) else read_transfer up.shape (levels_at up.commands.signals c)).beats) (sym e) ∙ has_acts c low taken in
          one_more (machine.grant c low) (record {
            kind = refl;
            place = write_place (nat_eq (over c).left 0) refl;
            word = word_is side view up state end machine plan legal kinds c low e;
            lanes = same_lanes c low (written c) refl (first side.has_enables (acts (written c)) some);
          }) no_beats
        where
          first : (h a : Bool) → (h || (a && true)) ≡ true → (h || a) ≡ true
          first true a e = refl
          first false true e = refl
          first false false e = e

      read_beats_alike : is_raised (up.commands.write c) ≡ false → Like (tag_all (up.commands.tag c) (read_transfer up.shape (levels_at up.commands.signals c)).beats) (tag_all (view.grant c) (read_transfer side.shape (levels_at view.signals c)).beats)
      read_beats_alike e = by_left (nat_lt 0 (over c).left) refl
        where
          some : IsTrue (side.has_enables || list_all acts (read_transfer up.shape (levels_at up.commands.signals c)).beats)
          some = ap (λ t. side.has_enables || list_all acts (if t then write_transfer up.shape (levels_at up.commands.signals c) (over c) else read_transfer up.shape (levels_at up.commands.signals c)).beats) (sym e) ∙ has_acts c low taken

          by_left : (b : Bool) → nat_lt 0 (over c).left ≡ b → Like (tag_all (up.commands.tag c) (read_transfer up.shape (levels_at up.commands.signals c)).beats) (tag_all (view.grant c) (read_transfer side.shape (levels_at view.signals c)).beats)
          by_left true under =
              let quiet = legal.legal.finished c low under in
              let shown = shown_above c taken in
              let bad : ⊥ = cc in
              absurd bad
          by_left false free =
              subst (λ n. Like (tag_all (up.commands.tag c) (read_transfer up.shape (levels_at up.commands.signals c)).beats) (tag_all (view.grant c) (map (read_beat side.shape (levels_at view.signals c)) (numbers 0 n)))) (sym (count_is side view up state end machine plan legal kinds c low (shown_above c taken) free))
              (reads_alike c low (numbers 0 (up.commands.count c)) some)

      by_kind : (b : Bool) → is_raised (up.commands.write c) ≡ b → Like (tag_all (up.commands.tag c) (marked_at up.port c).transfer.beats) (tag_all (view.grant c) (transfer_of side.shape (levels_at view.signals c) (cut side.span (over c))).beats)
      by_kind true e =
          let lower : is_raised (view.write c) ≡ true = write_is side view up state end machine plan legal kinds c low ∙ e in
          rw (e, lower) (write_beats true e)
      by_kind false e =
          let lower : is_raised (view.write c) ≡ false = write_is side view up state end machine plan legal kinds c low ∙ e in
          rw (e, lower) (read_beats_alike e)

  -- all that was accepted
  pub all_alike : (c : ℕ) → c ≤ end → Like (tagged_beats (taken_at up.port c)) (beats_taken system run agent c)
  all_alike zero low = no_beats
  all_alike (suc c) low =
      subst (λ l. Like l (beats_taken system run agent c ++ beats_taken_in system run agent c)) (sym (flat_map-append (λ (m : Marked). tag_all m.tag m.transfer.beats) (taken_at up.port c) (only_if (takes up.port c) (marked_at up.port c))))
      (alike_append up.shape side.shape side.span (all_alike c (omega arith)) (subst (λ a. Like (tagged_beats (only_if (takes up.port c) (marked_at up.port c))) (tag_all (view.grant c) (flat_map (λ (t : Transfer). t.beats) (only_if a (below c))))) (same_takes side view up state end machine plan legal kinds c low) (one (takes up.port c) refl)))
    where
      one : (b : Bool) → takes up.port c ≡ b → Like (tagged_beats (only_if b (marked_at up.port c))) (tag_all (view.grant c) (flat_map (λ (t : Transfer). t.beats) (only_if b (below c))))
      one true e =
          subst (λ l. Like l (tag_all (view.grant c) ((below c).beats ++ []))) (sym (append-nil (tag_all (up.commands.tag c) (marked_at up.port c).transfer.beats)))
          (subst (λ l. Like (tag_all (up.commands.tag c) (marked_at up.port c).transfer.beats) (tag_all (view.grant c) l)) (sym (append-nil (below c).beats)) (alike c low e))
      one false e = no_beats
