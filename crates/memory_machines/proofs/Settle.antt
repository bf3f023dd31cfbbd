-- All boundaries inside a system carry legal commands and owed answers. The circle between them is broken by the cycle.
use Rattle.std.proofs.Common.{ℕ, zero, suc, ◌<◌, ◌≤◌, ◌≡◌, ◌-◌, IsTrue, arith, true, sym, subst, nat_eq, eqb-true}
use Rattle.memory_runs.specs.Shorter.{legal_before, owed_before}
use Rattle.memory_runs.specs.Views.{Responses, System, Run}
use Rattle.memory_runs.specs.Commands.{shows}
use Rattle.memory_runs.specs.Order.{is_joined}
use Rattle.memory_machines.proofs.Laws.{same_number}
use Rattle.memory_machines.specs.Link.{Port, AreLegalAt, AnswersAreOwed}
use Rattle.memory_machines.specs.Lines.{BringsLanes, Inside, Holds, Wired, IsFit, IsFitToAsk, HasLanes, AreOwedByTag, AreFitToAsk, AreSingle, OwesBelow, ServesKinds, KeepsRow, RouteCarriesCommands, target_of}
use Rattle.memory_machines.specs.Lines.BringsLanes.{made, kept}
use Rattle.memory_runs.specs.Whole.{IsLegalRun}
use Rattle.memory_machines.proofs.Pipes.{owed_above, fit_below, all_of_prefix}

-- `room`: of each host, more words than its reads may owe
pub record AllLegal (system : System) (inside : Inside) (room : ℕ → ℕ) (end : ℕ) : Type 0 where
  pub after_host : (h : ℕ) → h < system.hosts → AreLegalAt (inside.after_host h) end
  pub single : (h : ℕ) → h < system.hosts → AreSingle (inside.after_host h) end
  pub debt : (h : ℕ) → h < system.hosts → OwesBelow (room h) (inside.after_host h) end
  pub after_route : (h a : ℕ) → h < system.hosts → a < system.agents → AreLegalAt (inside.after_route h a) end
  pub before_arbiter : (a : ℕ) → a < system.agents → AreFitToAsk system a (λ h. inside.before_arbiter h a) end
  pub after_arbiter : (a : ℕ) → a < system.agents → IsFit system a (inside.after_arbiter a).port end
  pub before_agent : (a : ℕ) → a < system.agents → IsFit system a (inside.before_agent a).port end

pub record AllOwed (system : System) (inside : Inside) (end : ℕ) : Type 0 where
  pub after_host : (h : ℕ) → h < system.hosts → AnswersAreOwed (inside.after_host h) end
  pub after_route : (h a : ℕ) → h < system.hosts → a < system.agents → AnswersAreOwed (inside.after_route h a) end
  pub before_arbiter : (h a : ℕ) → h < system.hosts → a < system.agents → AnswersAreOwed (inside.before_arbiter h a) end
  pub after_arbiter : (a : ℕ) → a < system.agents → AreOwedByTag system (inside.after_arbiter a) end
  pub before_agent : (a : ℕ) → a < system.agents → AreOwedByTag system (inside.before_agent a) end

pub legal_run_before : (system : System) (run : Run) (shorter end : ℕ) → shorter ≤ end → IsLegalRun system run end → IsLegalRun system run shorter
legal_run_before system run shorter end h legal = record {
  hosts = λ k low. legal_before _ _ _ shorter end h (legal.hosts k low);
  agents = λ k low. record { owed = λ valid. owed_before _ _ shorter end h ((legal.agents k low).owed valid) };
}

-- what a row of links hands on of a host's commands may ask the arbiter
fit_to_ask : (system : System) (host agent hold end c : ℕ) (up down : Port) → KeepsRow (target_of system agent) hold up down end → c ≤ end → AreLegalAt up c → AnswersAreOwed down (c - 1) → HasLanes (target_of system agent) down c →
    ((k : ℕ) → k < c → up.commands.tag k ≡ host) → ((k : ℕ) → k < c → IsTrue (shows up.commands.signals k) → IsTrue (is_joined system agent host)) → ServesKinds (system.agent agent) up c → IsFitToAsk system agent host down c
fit_to_ask system host agent hold end c up down row low legal owed lanes tag joined kinds =
    let hands = row.hands_on c low legal owed in
    let own : (k : ℕ) → k < c → IsTrue (shows down.commands.signals k) → down.commands.tag k ≡ host =
    λ k less shown. eqb-true (down.commands.tag k) host (hands.tags (λ t. nat_eq t host) (λ i there _. subst (λ t. nat_eq t host ≡ true) (sym (tag i there)) (same_number host)) k less shown) in
    record {
      legal = (row.carries.commands c low legal owed).legal;
      lanes = lanes;
      tag = own;
      joined = λ k less shown. subst (λ t. IsTrue (is_joined system agent t)) (own k less shown)
          (hands.tags (is_joined system agent) (λ i there seen. subst (λ t. IsTrue (is_joined system agent t)) (sym (tag i there)) (joined i there seen)) k less shown);
      kinds = hands.kinds (system.agent agent) kinds;
    }

module _ (responses : Responses) (system : System) (run : Run) (inside : Inside) (holds : Holds) (end : ℕ) (wired : Wired responses system run inside holds end) where
  -- commands go down where the answers of earlier cycles are owed
  pub down : (c : ℕ) → c ≤ end → IsLegalRun system run c → AllOwed system inside (c - 1) → AllLegal system inside wired.room c
  down c low legal owed =
      let first : (h : ℕ) → h < system.hosts → AreLegalAt (inside.after_host h) c =
      λ h is. ((wired.host h is).commands c low (legal.hosts h is) (owed.after_host h is)).legal in
      let third : (a : ℕ) → a < system.agents → AreFitToAsk system a (λ h. inside.before_arbiter h a) c =
      λ a there h is.
      let routed = routes h is in
      fit_to_ask system h a holds.links end c (inside.after_route h a) (inside.before_arbiter h a) (wired.links h a is there) low (routed.legal a there) (owed.before_arbiter h a is there)
      (lanes_there h a is there (wired.lanes h a is there)) (λ k less. routed.tag a k there less) (λ k less. routed.joined a k there less) (routed.kinds a there) in
      let fourth : (a : ℕ) → a < system.agents → IsFit system a (inside.after_arbiter a).port c =
      λ a there. ((wired.arbiter a there).commands c low (third a there) (owed.after_arbiter a there)).fit in
      record {
        after_host = first;
        single = λ h is. (wired.host h is).single c low (legal.hosts h is) (owed.after_host h is);
        debt = λ h is. (wired.host h is).debt c low (legal.hosts h is) (owed.after_host h is);
        after_route = λ h a is there. (routes h is).legal a there;
        before_arbiter = third;
        after_arbiter = fourth;
        before_agent = λ a there. fit_below system a holds.pipe system.stages (inside.after_arbiter a) (inside.before_agent a) c (wired.pipe a there).same (fourth a there)
            ((wired.pipe a there).commands c low (fourth a there).legal (owed.before_agent a there));
      }
    where
      routes : (h : ℕ) → h < system.hosts → RouteCarriesCommands system h holds.route (inside.after_host h) (inside.after_route h) c
      routes h is =
          (wired.route h is).commands c low ((wired.host h is).commands c low (legal.hosts h is) (owed.after_host h is)).legal ((wired.host h is).single c low (legal.hosts h is) (owed.after_host h is))
          ((wired.host h is).debt c low (legal.hosts h is) (owed.after_host h is)) (λ a there. owed.after_route h a is there)

      lanes_there : (h a : ℕ) → h < system.hosts → a < system.agents → BringsLanes system run h a (inside.after_route h a) (inside.before_arbiter h a) end → HasLanes (target_of system a) (inside.before_arbiter h a) c
      lanes_there h a is there (made makes) = makes c low ((routes h is).legal a there) (owed.before_arbiter h a is there)
      lanes_there h a is there (kept host_has keeps) =
          let at_host = (wired.host h is).commands c low (legal.hosts h is) (owed.after_host h is) in
          keeps c low ((routes h is).legal a there) (owed.before_arbiter h a is there)
          ((routes h is).lanes a there (λ k less. all_of_prefix (system.agent a).has_enables _ _ _ (at_host.in_order k less) (host_has k (omega arith))))

  -- answers go up
  pub up : (c : ℕ) → c ≤ end → IsLegalRun system run c → AllLegal system inside wired.room c → AllOwed system inside (c - 1) → AllOwed system inside c
  up c low legal all earlier =
      let fifth : (a : ℕ) → a < system.agents → AreOwedByTag system (inside.before_agent a) c =
      λ a there. ((wired.agent a there).answers c low (all.before_agent a there) (legal.agents a there)).owed in
      let fourth : (a : ℕ) → a < system.agents → AreOwedByTag system (inside.after_arbiter a) c =
      λ a there. owed_above system a holds.pipe system.stages (inside.after_arbiter a) (inside.before_agent a) c
      ((wired.pipe a there).commands c low (all.after_arbiter a there).legal (earlier.before_agent a there))
      ((wired.pipe a there).answers c low (all.after_arbiter a there).legal (fifth a there)) (fifth a there) in
      let third : (h a : ℕ) → h < system.hosts → a < system.agents → AnswersAreOwed (inside.before_arbiter h a) c =
      λ h a is there. ((wired.arbiter a there).answers c low (all.before_arbiter a there) (fourth a there)).owed h is in
      let second : (h a : ℕ) → h < system.hosts → a < system.agents → AnswersAreOwed (inside.after_route h a) c =
      λ h a is there. ((wired.links h a is there).carries.answers c low (all.after_route h a is there) (third h a is there)).owed in
      record {
        after_host = λ h is. ((wired.route h is).answers c low (all.after_host h is) (all.single h is) (all.debt h is) (λ a there. second h a is there)).owed;
        after_route = second;
        before_arbiter = third;
        after_arbiter = fourth;
        before_agent = fifth;
      }

  pub owed_before_all : (shorter longer : ℕ) → shorter ≤ longer → AllOwed system inside longer → AllOwed system inside shorter
  owed_before_all shorter longer low owed = record {
    after_host = λ h is k less. owed.after_host h is k (omega arith);
    after_route = λ h a is there k less. owed.after_route h a is there k (omega arith);
    before_arbiter = λ h a is there k less. owed.before_arbiter h a is there k (omega arith);
    after_arbiter = λ a there h k is less. owed.after_arbiter a there h k is (omega arith);
    before_agent = λ a there h k is less. owed.before_agent a there h k is (omega arith);
  }

  pub all_owed : (c : ℕ) → c ≤ end → IsLegalRun system run c → AllOwed system inside c
  all_owed zero low legal = record {
    after_host = λ h is k none. absurd (omega arith);
    after_route = λ h a is there k none. absurd (omega arith);
    before_arbiter = λ h a is there k none. absurd (omega arith);
    after_arbiter = λ a there h k is none. absurd (omega arith);
    before_agent = λ a there h k is none. absurd (omega arith);
  }
  all_owed (suc c) low legal =
      let earlier = all_owed c (omega arith) (legal_run_before system run c (suc c) (omega arith) legal) in
      let before_it = owed_before_all (suc c - 1) c (omega arith) earlier in
      up (suc c) low legal (down (suc c) low legal before_it) before_it

  pub all_legal : (c : ℕ) → c ≤ end → IsLegalRun system run c → AllLegal system inside wired.room c
  all_legal c low legal = down c low legal (owed_before_all (c - 1) c (omega arith) (all_owed c low legal))
