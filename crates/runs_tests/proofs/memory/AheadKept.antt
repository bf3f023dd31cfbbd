-- A right system hands on what it is asked while words are owed, and parts that keep a read back are refused.
use Rattle.std.proofs.Common.{ℕ, ◌<◌, ◌≡◌, ◌-◌, arith, refl, IsTrue, IsFalse}
use Rattle.memory_runs.specs.Commands.{shows, agent_accepts}
use Rattle.memory_runs.specs.Order.{is_joined, taken}
use Rattle.histories.specs.Below.{each_below}
use Rattle.memory_machines.specs.Rank.{is_unclosed}
use Rattle.memory_runs.specs.Awake.{IsAsked}
use Rattle.memory_runs.specs.Views.{System, Run}
use Rattle.memory_machines.specs.Link.{Port, taken_at}
use Rattle.memory_machines.specs.Lines.{target_of, tagged_operations, groups_of}
use Rattle.memory_parts.specs.Ahead.{AcceptsAhead}
use Rattle.memory_parts.specs.Steps.{IsHostPart, IsRoutePart}
use Rattle.memory_awake.specs.Ahead.{LeadsAhead, KeepsNothingBack, LeavesNothingOpen}
use Rattle.runs_tests.specs.AheadRows.{second_stands, second_held, travel_system, travel_port, travel_run, travel_ways}
use Rattle.runs_tests.specs.MoreExamples.{plain_system, one_by_one_run, plain_pair, held_read_run}
use Rattle.runs_tests.specs.WaitingSystem.{waiting_small, waiting_run, reads_below, read_behind, waiting_ways}
use Rattle.runs_tests.proofs.memory.WaitingKept.{host_part, route_part, one, five, six}

pub record Laws : Type 0 where
  pub back : (system : System) (run : Run) (host agent : ℕ) (middle : Port) (down : ℕ → Port) (end : ℕ) → agent < system.agents → IsHostPart system run host middle end → IsRoutePart system host middle down end → KeepsNothingBack system run host agent (down agent) end
  pub closed : (system : System) (run : Run) (host agent : ℕ) (middle : Port) (down : ℕ → Port) (end : ℕ) → agent < system.agents → IsHostPart system run host middle end → IsRoutePart system host middle down end → (system.host host).burst_bits ≡ 1 →
      LeavesNothingOpen (down agent) (end - 1)

pub leads_ahead : Laws → LeadsAhead waiting_small waiting_run 0 waiting_ways 5
leads_ahead laws = record {
  accepts = record {
    taken = six (λ c. taken waiting_small waiting_run 0 c ≡ tagged_operations (groups_of (target_of waiting_small 0) (read_behind 0).shape (taken_at (read_behind 0) c))) refl refl refl refl refl refl;
    nears = λ c h has shown ready more none. absurd (accepted c h shown none);
  };
  pipe = λ i low. absurd (omega (arith, low));
  back = one (λ h. KeepsNothingBack waiting_small waiting_run h 0 (read_behind h) 5) (laws.back waiting_small waiting_run 0 0 reads_below (λ a. read_behind 0) 5 (omega arith) host_part route_part);
  closed = λ h low plain. one (λ h. LeavesNothingOpen (read_behind h) 4) (laws.closed waiting_small waiting_run 0 0 reads_below (λ a. read_behind 0) 5 (omega arith) host_part route_part refl) h low;
  joined = λ h c low fit shown. one (λ h. IsTrue (is_joined waiting_small 0 h)) refl h low;
  wired = λ h low joined alike. record { same = refl; longer = omega arith };
}
  where
    accepted : (c : ℕ) → c < 5 → IsTrue (shows (read_behind 0).commands.signals c) → IsFalse (agent_accepts (waiting_small.agent 0) (waiting_run.at_agent 0) c) → ⊥
    accepted = five _ (λ s n. cc) (λ s n. cc) (λ s n. cc) (λ s n. cc) (λ s n. cc)

pub one_by_one_is_not : AcceptsAhead plain_system one_by_one_run 0 second_stands 4 → ⊥
one_by_one_is_not a = let falls = a.nears 1 (omega arith) refl refl refl (omega arith) refl in absurd (omega (arith, falls))

pub held_is_not : KeepsNothingBack plain_pair held_read_run 0 0 second_held 4 → ⊥
held_is_not back = let few = back 2 (omega arith) refl refl refl in absurd (omega (arith, few))

four : (P : ℕ → Type 0) → P 0 → P 1 → P 2 → P 3 → (c : ℕ) → c < 4 → P c
four P a b d e c h = each_below P 4 c ((((tt, a), b), d), e) h

pub travel_leads : LeadsAhead travel_system travel_run 0 travel_ways 4
travel_leads = record {
  accepts = record {
    taken = λ c low. each_below (λ c. taken travel_system travel_run 0 c ≡ tagged_operations (groups_of (target_of travel_system 0) (travel_port 0).shape (taken_at (travel_port 0) c))) 5 c (((((tt, refl), refl), refl), refl), refl) (omega (arith, low));
    nears = λ c h has shown ready more none. absurd (accepted c h shown none);
  };
  pipe = λ i low. absurd (omega (arith, low));
  back = one (λ h. KeepsNothingBack travel_system travel_run h 0 (travel_port h) 4) (four _ (λ room alone none. cc) (λ room alone none. cc) (λ room alone none. omega arith) (λ room alone none. omega arith));
  closed = λ h low plain. one (λ h. LeavesNothingOpen (travel_port h) 3) (λ c fit. each_below (λ c. IsFalse (is_unclosed (travel_port 0) c)) 3 c (((tt, refl), refl), refl) fit) h low;
  joined = λ h c low fit shown. one (λ h. IsTrue (is_joined travel_system 0 h)) refl h low;
  wired = λ h low joined alike. record { same = refl; longer = omega arith };
}
  where
    accepted : (c : ℕ) → c < 4 → IsTrue (shows (travel_port 0).commands.signals c) → IsFalse (agent_accepts (travel_system.agent 0) (travel_run.at_agent 0) c) → ⊥
    accepted = four _ (λ s n. cc) (λ s n. cc) (λ s n. cc) (λ s n. cc)

pub travel_asked : IsAsked travel_system travel_run 0 0 1
travel_asked = record { ready = refl; room = omega arith; untaken = omega arith; few = omega arith; only = refl }
