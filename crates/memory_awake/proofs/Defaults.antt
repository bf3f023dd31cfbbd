-- The part next to a host and the route serve the default agent.
use Rattle.std.proofs.Common.{ℕ, zero, suc, ◌<◌, ◌≤◌, ◌≡◌, ◌+◌, Bool, true, false, ◌||◌, ◌&&◌, List, [], ◌∷◌, ◌++◌, arith, refl, sym, ap, subst, ◌∙◌, length, map, take, drop, IsTrue, IsFalse, inl, inr, ◌⊎◌, Option, Some, None, if◌then◌else◌}
use Rattle.std.proofs.lemmas.Bool.{or_left, or_right, and_parts}
use Rattle.std.specs.List.{list_any, list_all}
use Rattle.histories.specs.History.{is_raised, numbers}
use Rattle.memory_runs.specs.Views.{System, Run, levels_at}
use Rattle.memory_runs.specs.Operations.{Beat}
use Rattle.memory_runs.specs.Commands.{Transfer, shows, transfer_at, read_transfer, read_beat}
use Rattle.memory_runs.specs.Legal.{host_accepts, is_under_way}
use Rattle.memory_runs.specs.Order.{Asked, place_of}
use Rattle.memory_runs.specs.Awake.{is_place, is_given_from, is_written_to}
use Rattle.memory_machines.specs.Link.{Port, Marked, takes, taken_at, marked_at, words_at}
use Rattle.memory_machines.specs.Lines.{asked_among, host_accepted}
use Rattle.memory_parts.specs.Steps.{IsHostPart, IsRoutePart, owed_places, comes, comes_from}
use Rattle.memory_awake.specs.Front.{IsDefaultFront, shows_for, are_all_given}
use Rattle.memory_awake.proofs.Beats.{asked_one, both, same_place, next_at, some_beat, writes_on}
use Rattle.memory_awake.proofs.Places.{one_word, counts, asks_end, drop_front}
use Rattle.memory_awake.proofs.Standing.{IsAhead, same_words, write_passes, to_middle, place_now, stands, may_read_level, from_host, given_now, next_ahead}
use Rattle.memory_awake.proofs.Fronts.{room_when_given, none_when_given}
use Rattle.memory_awake.proofs.Bits.{no_true}

module _ (system : System) (run : Run) (host : ℕ) (middle : Port) (down : ℕ → Port) (end : ℕ) (part : IsHostPart system run host middle end) (route : IsRoutePart system host middle down end) where
  abbrev below : ℕ → List Transfer
  below c = map (λ (m : Marked). m.transfer) (taken_at middle c)

  abbrev asks : ℕ → List Asked
  asks c = asked_among system host (below c)

  abbrev words : ℕ → ℕ
  words c = length (words_at middle c)

  abbrev now : ℕ → Transfer
  now c = transfer_at (system.host host).shape (run.at_host host).signals (host_accepts (run.at_host host)) c

  -- the default agent gives a word in this cycle
  abbrev due : ℕ → Bool
  due c = next_at None (words c) (asks c)

  gives : (c : ℕ) → c < end → IsTrue (due c) → IsTrue (is_given_from system run None c host)
  gives c h next = given_now system run host middle end part None c h next (route.words c h ∙ comes_now (owed_places system host middle c) next)
    where
      comes_place : (p : Option ℕ) → IsTrue (is_place None p || false) → comes_from down c p ≡ true
      comes_place None x = refl
      comes_place (Some a) x = absurd (no_true x)

      comes_now : (l : List Asked) → IsTrue (list_any (λ (q : Asked). is_place None q.place) (take 1 l)) → comes down c l ≡ true
      comes_now [] x = absurd (no_true x)
      comes_now (q ∷ later) x = comes_place q.place x

  beats : (c : ℕ) → c < end → IsTrue (shows_for system run host None c) → IsTrue (are_all_given system run host c) → IsTrue (is_given_from system run None c host || is_written_to system run None c host || due (suc c))
  beats c h shown all = by_taken (stands system run host middle end part c (omega (arith, h))).taken
    where
      parts : IsTrue (shows (run.at_host host).signals c) × IsTrue (is_place None (place_of system host (now c)))
      parts = and_parts (shows (run.at_host host).signals c) _ shown

      place : place_of system host (now c) ≡ None
      place = same_place None (place_of system host (now c)) parts.1

      level : below c ≡ host_accepted system run host c → IsTrue (is_given_from system run None c host || is_written_to system run None c host || due (suc c))
      level same = by_write (is_raised ((run.at_host host).write c)) refl
        where
          on : IsTrue (shows middle.commands.signals c)
          on = to_middle system run host middle end part c h parts.0 (or_right (is_raised ((run.at_host host).write c)) _ (may_read_level system run host middle end part c h same (room_when_given system run host c all)))

          none_owed : owed_places system host middle c ≡ []
          none_owed = ap (λ l. drop (words c) (asked_among system host l)) same ∙ ap (λ n. drop n (asked_among system host (host_accepted system run host c))) (same_words system run host middle end part c (omega (arith, h))) ∙ none_when_given system run host c all

          taken : IsTrue (takes middle c)
          taken = route.default c h (place_now system run host middle end part c h on ∙ place) ∙ both _ _ on (or_right (is_raised (middle.commands.write c)) _ (ap (list_all (λ (q : Asked). is_place None q.place)) none_owed))

          by_write : (w : Bool) → is_raised ((run.at_host host).write c) ≡ w → IsTrue (is_given_from system run None c host || is_written_to system run None c host || due (suc c))
          by_write true e =
              let accepted = write_passes system run host middle end part c h e ∙ taken in
              or_left (is_given_from system run None c host || is_written_to system run None c host) _ (or_right (is_given_from system run None c host) _ (both (host_accepts (run.at_host host) c && is_raised ((run.at_host host).write c)) _ (both _ _ accepted e) parts.1))
          by_write false e =
              let still : words (suc c) ≡ words c = one_word middle c ∙ ap (λ b. words c + (if b then 1 else 0)) (route.words c h ∙ ap (comes down c) none_owed) ∙ (omega arith) in
              let few = (counts system host middle down end route c (omega (arith, h))).few in
              let more = asks_end system host middle down end route c taken in
              let front = drop_front (words c) (asks c) (asked_among system host ((marked_at middle c).transfer ∷ [])) few in
              let new : drop (words (suc c)) (asks (suc c)) ≡ asked_among system host ((marked_at middle c).transfer ∷ []) =
              ap (λ n. drop n (asks (suc c))) still ∙ ap (drop (words c)) more ∙ front.0 ∙ ap (λ l. l ++ asked_among system host ((marked_at middle c).transfer ∷ [])) none_owed in
              let kind : now c ≡ read_transfer (system.host host).shape (levels_at (run.at_host host).signals c) = rw e refl in
              let count = some_beat (system.host host).shape (run.at_host host).signals (host_accepts (run.at_host host)) end part.legal c h parts.0 (not_under (is_under_way (system.host host).shape (run.at_host host).signals (host_accepts (run.at_host host)) c) refl) in
              or_right (is_given_from system run None c host || is_written_to system run None c host) _
              (subst (λ l. IsTrue (list_any (λ (q : Asked). is_place None q.place) (take 1 l))) (sym (new ∙ ap (λ t. asked_among system host (t ∷ [])) (part.same c h on ∙ kind)))
              (first_none ((run.at_host host).count c) count (subst (λ (t : Transfer). IsTrue (is_place None (place_of system host t))) kind parts.1)))
            where
              not_under : (b : Bool) → is_under_way (system.host host).shape (run.at_host host).signals (host_accepts (run.at_host host)) c ≡ b → IsFalse b
              not_under true f = absurd (no_true (sym e ∙ writes_on (system.host host).shape (run.at_host host).signals (host_accepts (run.at_host host)) end part.legal c h f parts.0))
              not_under false f = refl

              first_none : (n : ℕ) → 1 ≤ n → IsTrue (is_place None (place_of system host (read_transfer (system.host host).shape (levels_at (run.at_host host).signals c)))) →
                  IsTrue (list_any (λ (q : Asked). is_place None q.place) (take 1 (map (λ (b : Beat). asked_one (place_of system host (read_transfer (system.host host).shape (levels_at (run.at_host host).signals c))) b) (map (read_beat (system.host host).shape (levels_at (run.at_host host).signals c)) (numbers 0 n)) ++ [])))
              first_none zero low x = absurd (omega (arith, low))
              first_none (suc n) low x = or_left (is_place None (place_of system host (read_transfer (system.host host).shape (levels_at (run.at_host host).signals c)))) false x

      -- a read that stands at the host and was taken has its word in this cycle
      by_taken : (below c ≡ host_accepted system run host c) ⊎ IsAhead system run host middle end part c → IsTrue (is_given_from system run None c host || is_written_to system run None c host || due (suc c))
      by_taken (inl same) = level same
      by_taken (inr a) = or_left (is_given_from system run None c host || is_written_to system run None c host) _ (or_left (is_given_from system run None c host) _ (gives c h (next_ahead system run host middle end part c h a None place)))

  pub default_front : IsDefaultFront system run host end
  default_front = record {
    due = due;
    beats = beats;
    owed = λ c h next. from_host system run host middle end part None (suc c) (omega (arith, h)) next;
    gives = gives;
  }
