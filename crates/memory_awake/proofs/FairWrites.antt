-- The plain writes that hosts show ask at the arbiter in their cycle.
use Rattle.std.proofs.Common.{ℕ, zero, suc, ◌<◌, ◌≤◌, ◌≡◌, ◌+◌, Bool, true, false, not, ◌||◌, ◌&&◌, List, [], ◌∷◌, length, flat_map, nat_lt, arith, refl, sym, ap, subst, ◌∙◌, tests, IsTrue}
use Rattle.histories.specs.History.{is_raised}
use Rattle.memory_runs.specs.Views.{System, Run, Shape}
use Rattle.memory_runs.specs.Operations.{Beat}
use Rattle.memory_runs.specs.Commands.{Transfer, shows, transfer_at}
use Rattle.memory_runs.specs.Legal.{host_accepts}
use Rattle.memory_runs.specs.Order.{place_of, is_agent, is_joined, transfer_operations}
use Rattle.memory_runs.specs.Awake.{shows_plain_write, are_finished_before, commands_begun, Throughout}
use Rattle.std.specs.List.{list_all}
use Rattle.memory_machines.specs.Link.{Port, Target, marked_at, closes, is_nonempty, operations_in, beat_operations}
use Rattle.memory_machines.specs.Lines.{target_of}
use Rattle.memory_parts.specs.Steps.{IsHostPart, IsRoutePart, may_read, place_shown}
use Rattle.memory_awake.specs.Fair.{EndsThere, IsPlainAt, HandsWritesOn, HandsPlainWrites, AllAskPlainly}
use Rattle.memory_awake.specs.Theorem.{Boundaries}
use Rattle.memory_awake.proofs.Ahead.{each_of}
use Rattle.memory_awake.proofs.Beats.{same_count}

abbrev shown_by : System → Run → ℕ → ℕ → Transfer
shown_by system run host c = transfer_at (system.host host).shape (run.at_host host).signals (host_accepts (run.at_host host)) c

-- what a plain write is
record IsPlainWrite (system : System) (run : Run) (agent host c : ℕ) : Type 0 where
  write : IsTrue (is_raised ((run.at_host host).write c))
  ends : IsTrue (shown_by system run host c).ends
  place : IsTrue (is_agent agent (place_of system host (shown_by system run host c)))
  acts : IsTrue (nat_lt 0 (length (transfer_operations system host agent (shown_by system run host c))))

plain_parts : (w b e n p o : Bool) → IsTrue (w && b && e && n && p && o) → IsTrue w × IsTrue e × IsTrue p × IsTrue o
plain_parts true true true true true true h = (refl, refl, refl, refl)
plain_parts true true true true true false h = absurd cc
plain_parts true true true true false o h = absurd cc
plain_parts true true true false p o h = absurd cc
plain_parts true true false n p o h = absurd cc
plain_parts true false e n p o h = absurd cc
plain_parts false b e n p o h = absurd cc

plain_of : (system : System) (run : Run) (agent host c : ℕ) → IsTrue (shows_plain_write system run agent c host) → IsPlainWrite system run agent host c
plain_of system run agent host c h = let parts = plain_parts _ _ _ _ _ _ h in record { write = parts.0; ends = parts.1; place = parts.2; acts = parts.3 }

shows_write : (r w : Bool) → IsTrue w → IsTrue (r || w)
shows_write true true h = refl
shows_write false true h = refl
shows_write r false h = absurd cc

both : (a b : Bool) → IsTrue a → IsTrue b → IsTrue (a && b)
both true true a b = refl
both true false a b = b
both false b a c = a

or_first : (a b : Bool) → IsTrue a → IsTrue (a || b)
or_first true b a = refl
or_first false b a = absurd cc

ends_alone : (e m : Bool) → IsTrue e → m ≡ not e → IsTrue (e && not m)
ends_alone true true a b = absurd cc
ends_alone true false a b = refl
ends_alone false m a b = absurd cc

pub some_there : {A : Type 0} (xs : List A) → 0 < length xs → IsTrue (is_nonempty xs)
some_there {A} [] some = absurd (omega (arith, some))
some_there {A} (x ∷ xs) some = refl

module _ (system : System) (run : Run) (host agent : ℕ) (middle : Port) (down : ℕ → Port) (end : ℕ) (there : agent < system.agents)
    (part : IsHostPart system run host middle end) (route : IsRoutePart system host middle down end) (c : ℕ) (fit : c < end) where
  abbrev view_write : Bool
  view_write = is_raised ((run.at_host host).write c)

  at_middle : IsTrue view_write → IsTrue (shows middle.commands.signals c)
  at_middle write =
      part.shown c fit ∙ both (shows (run.at_host host).signals c) (view_write || may_read system run host middle c) (shows_write (is_raised ((run.at_host host).read c)) view_write write) (or_first view_write (may_read system run host middle c) write)

  module _ (plain : IsPlainWrite system run agent host c) where
    abbrev shown : IsTrue (shows middle.commands.signals c)
    shown = at_middle plain.write

    same : (marked_at middle c).transfer ≡ shown_by system run host c
    same = part.same c fit shown

    write_at : IsTrue (is_raised (middle.commands.write c))
    write_at = part.level c fit shown ∙ plain.write

    place_at : IsTrue (is_agent agent (place_shown system host middle c))
    place_at = ap (λ t. is_agent agent (place_of system host t)) same ∙ plain.place

    ends_at : IsTrue (closes (marked_at middle c))
    ends_at = ends_alone (marked_at middle c).transfer.ends (marked_at middle c).more (ap (λ (t : Transfer). t.ends) same ∙ plain.ends) (part.more c fit shown)

    behind : IsTrue (shows (down agent).commands.signals c)
    behind = route.shown agent c there fit
        ∙ all_three (shows middle.commands.signals c) (is_agent agent (place_shown system host middle c)) (is_raised (middle.commands.write c)) _ shown place_at write_at
      where
        all_three : (s p w o : Bool) → IsTrue s → IsTrue p → IsTrue w → IsTrue (s && p && (w || o))
        all_three true true true o a b c = refl
        all_three true true false o a b c = absurd cc
        all_three true false w o a b c = absurd cc
        all_three false p w o a b c = absurd cc

    acts_behind : IsTrue (is_nonempty (operations_in (target_of system agent) (down agent).shape (marked_at (down agent) c)))
    acts_behind = some_there (operations_in (target_of system agent) (down agent).shape (marked_at (down agent) c)) long
      where
        beats_of : Transfer → List Beat
        beats_of t = t.beats

        long : 0 < length (operations_in (target_of system agent) (down agent).shape (marked_at (down agent) c))
        long =
            let bytes : (system.host host).word_bytes ≡ (down agent).shape.word_bytes = sym part.bytes ∙ sym (ap (λ (s : Shape). s.word_bytes) (route.shape agent there)) in
            let count = same_count system host agent (down agent).shape (beats_of (shown_by system run host c)) bytes in
            let moved : length (operations_in (target_of system agent) (down agent).shape (marked_at (down agent) c)) ≡ length (flat_map (beat_operations (target_of system agent) (down agent).shape) (beats_of (shown_by system run host c))) =
            ap (λ (t : Transfer). length (flat_map (beat_operations (target_of system agent) (down agent).shape) t.beats)) (route.same agent c there fit behind ∙ same) in
            let some : 0 < length (transfer_operations system host agent (shown_by system run host c)) = grind (arith, tests, plain.acts) in
            omega (arith, count, moved, some)

    plain_behind : IsPlainAt (target_of system agent) (down agent) c
    plain_behind = record {
      shown = behind;
      write = route.level agent c there fit behind ∙ write_at;
      ends = subst IsTrue (sym (ap (λ (t : Transfer). t.ends && not (marked_at (down agent) c).more) (route.same agent c there fit behind)
          ∙ ap (λ m. (marked_at middle c).transfer.ends && not m) (route.more agent c there fit behind))) ends_at;
      acts = acts_behind;
    }

  pub goes_on : IsTrue (shows_plain_write system run agent c host) → IsPlainAt (target_of system agent) (down agent) c
  goes_on h = plain_behind (plain_of system run agent host c h)

pub handed_down : (target : Target) (port : ℕ → Port) (n end c : ℕ) → c < end → ((i : ℕ) → i < n → HandsWritesOn target (port (suc i)) (port i) end) → IsPlainAt target (port n) c → IsPlainAt target (port 0) c
handed_down target port zero end c fit hands at = at
handed_down target port (suc n) end c fit hands at = handed_down target port n end c fit (λ i low. hands i (omega (arith, low))) (hands n (omega arith) c fit at)

-- plain writers show plain writes at the arbiter throughout
module _ (system : System) (run : Run) (inside : Boundaries) (agent from size end : ℕ) (fit : from + size ≤ end) (hands : HandsPlainWrites system run inside agent end)
    (goes : (h c : ℕ) → IsTrue (is_joined system agent h) → c < end → IsTrue (shows_plain_write system run agent c h) → IsPlainAt (target_of system agent) (inside.upper h agent (inside.links h agent)) c)
    (writes : Throughout from size (λ c. IsTrue (list_all (shows_plain_write system run agent c) (system.joined agent))))
    (finished : IsTrue (list_all (λ host. are_finished_before system run host (commands_begun system run host (suc from)) from) (system.joined agent))) where
  pub all_plain : (h c : ℕ) → IsTrue (is_joined system agent h) → from ≤ c → c < from + size → EndsThere (target_of system agent) (inside.upper h agent 0) c
  all_plain h c joined low high =
      let shown : (k : ℕ) → from ≤ k → k ≤ c → IsTrue (shows_plain_write system run agent k h) = λ k least most. each_of (shows_plain_write system run agent k) (system.joined agent) h (writes k least (omega (arith, most, high))) joined in
      hands.links h from c joined (omega (arith, fit, high))
      (record { earlier = each_of (λ host. are_finished_before system run host (commands_begun system run host (suc from)) from) (system.joined agent) h finished joined; starts = low; writes = shown })
      (goes h c joined (omega (arith, fit, high)) (shown c low (omega arith)))

  pub all_ask : AllAskPlainly system agent (λ h. inside.upper h agent 0) from size
  all_ask h c joined low high = let at = all_plain h c joined low high in (at.shown, at.ends)
