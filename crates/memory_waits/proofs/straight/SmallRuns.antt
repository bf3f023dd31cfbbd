-- The premises of the laws, cycle by cycle in small runs.
use Rattle.std.proofs.Common.{ℕ, suc, ◌<◌, ◌≤◌, ◌≡◌, ◌+◌, ◌^◌, ◌-◌, not, ◌&&◌, ◌||◌, [], ◌∷◌, true, false, arith, refl, length, IsTrue, IsFalse}
use Rattle.histories.specs.Below.{OfEach, each_below}
use Rattle.histories.specs.History.{is_raised}
use Rattle.memory_runs.specs.Commands.{is_held, shows, transfer_at, words_before, agent_accepts}
use Rattle.memory_runs.specs.Legal.{IsLegalHost, IsLegalAgent, host_accepts, is_under_way, words_asked}
use Rattle.memory_runs.specs.Order.{is_joined}
use Rattle.memory_runs.specs.Plan.{serves_kind}
use Rattle.memory_runs.specs.Views.{HostSide, HostView, Kind, levels_at}
use Rattle.memory_runs.specs.Views.Kind.{Reads, Writes}
use Rattle.memory_machines.specs.Lines.{AreSingle, IsFit, OwesBelow, serves_at}
use Rattle.memory_machines.specs.Link.{AnswersAreOwed, AreLegalAt, Port, takes, words_at, words_owed}
use Rattle.memory_machines.specs.Straight.{HostGoesStraightThrough, HostIsPrompt, RouteGoesStraightThrough, RouteIsPrompt, ShowsWhatItIsAsked}
use Rattle.memory_parts.specs.Agent.{IsAgentPlan}
use Rattle.memory_parts.specs.AgentRun.{SuitsAgent}
use Rattle.memory_parts.specs.Host.{ReadsWords}
use Rattle.memory_parts.specs.Route.{IsRoutePlan}
use Rattle.memory_waits.specs.Examples.{above_agent, above_route, agent_of, agent_run, asked_twice, at_agent, at_host, below_host, below_route, commands_of, even_pair, host_with, idle, last_lane, late, odd_pair, port_with, routed_ahead, words_of, write_ahead, write_behind, writing}

-- ---- next to a host

abbrev HeldAt : HostView → ℕ → ℕ → Type 0
HeldAt view end c = suc c < end → IsTrue (is_held view.signals (host_accepts view) c) → levels_at view.signals c ≡ levels_at view.signals (suc c)

pub ahead_legal : IsLegalHost (host_with true 4) (at_host (host_with true 4) write_ahead) 3
ahead_legal = record {
  one_kind = λ c low. each_below (λ c. IsTrue (not (is_raised ((at_host (host_with true 4) write_ahead).read c) && is_raised ((at_host (host_with true 4) write_ahead).write c)))) 3 c (((tt, refl), refl), refl) low;
  held = λ c low held. each_below (HeldAt (at_host (host_with true 4) write_ahead) 3) 3 c (((tt, λ _ held. cc), λ _ held. cc), λ later. absurd (omega (arith, later))) (omega (arith, low)) low held;
  least = λ c low first free. omega arith;
  most = λ c low first free. omega arith;
  finished = λ c low. each_below (λ c. IsTrue (is_under_way (host_with true 4).shape (at_host (host_with true 4) write_ahead).signals (host_accepts (at_host (host_with true 4) write_ahead)) c) → IsFalse (is_raised ((at_host (host_with true 4) write_ahead).read c))) 3 c (((tt, λ under. cc), λ under. cc), λ under. cc) low;
}

pub ahead_owed : AnswersAreOwed (below_host (host_with true 4) write_ahead) 3
ahead_owed c low = each_below (λ c. words_before (below_host (host_with true 4) write_ahead).answers.valid (suc c) ≤ words_owed (below_host (host_with true 4) write_ahead) c) 3 c (((tt, omega arith), omega arith), omega arith) low

pub reads_words : (side : HostSide) (view : HostView) (end : ℕ) → ((c : ℕ) → view.count c ≡ 1) → ReadsWords side view end
reads_words side view end one without c low read = one c

pub behind_legal : IsLegalHost (host_with false 4) (at_host (host_with false 4) write_behind) 4
behind_legal = record {
  one_kind = λ c low. each_below (λ c. IsTrue (not (is_raised ((at_host (host_with false 4) write_behind).read c) && is_raised ((at_host (host_with false 4) write_behind).write c)))) 4 c ((((tt, refl), refl), refl), refl) low;
  held = λ c low held. each_below (HeldAt (at_host (host_with false 4) write_behind) 4) 4 c ((((tt, λ _ held. refl), λ _ held. refl), λ _ held. cc), λ later. absurd (omega (arith, later))) (omega (arith, low)) low held;
  least = λ c low first free. omega arith;
  most = λ c low first free. omega arith;
  finished = λ c low. each_below (λ c. IsTrue (is_under_way (host_with false 4).shape (at_host (host_with false 4) write_behind).signals (host_accepts (at_host (host_with false 4) write_behind)) c) → IsFalse (is_raised ((at_host (host_with false 4) write_behind).read c))) 4 c ((((tt, λ under. cc), λ under. cc), λ under. cc), λ under. cc) low;
}

pub behind_owed : AnswersAreOwed (below_host (host_with false 4) write_behind) 4
behind_owed c low = each_below (λ c. words_before (below_host (host_with false 4) write_behind).answers.valid (suc c) ≤ words_owed (below_host (host_with false 4) write_behind) c) 4 c ((((tt, omega arith), omega arith), omega arith), omega arith) low

-- ---- beats that never wait

pub legal_by_cycles : (port : Port) (end : ℕ) → OfEach (λ c. IsTrue (is_held port.commands.signals (takes port) c) → ⊥) end →
    OfEach (λ c. IsTrue (not (is_raised (port.commands.read c) && is_raised (port.commands.write c)))) end →
    ((c : ℕ) → port.commands.count c ≡ 1) → 1 ≤ 2 ^ (port.shape.burst_bits - 1) →
    OfEach (λ c. IsTrue (is_under_way port.shape port.commands.signals (takes port) c) → IsFalse (is_raised (port.commands.read c))) end →
    OfEach (λ c. IsTrue (shows port.commands.signals c) → IsTrue ((transfer_at port.shape port.commands.signals (takes port) c).ends || is_raised (port.commands.more c))) end → AreLegalAt port end
legal_by_cycles port end none one_kind count few finished joined = record {
  legal = record {
    one_kind = λ c h. each_below (λ c. IsTrue (not (is_raised (port.commands.read c) && is_raised (port.commands.write c)))) end c one_kind h;
    held = λ c h held. absurd (never c (omega (arith, h)) held);
    least = λ c h _ _. let one = count c in omega (arith, one);
    most = λ c h _ _. let one = count c in omega (arith, one, few);
    finished = λ c h. each_below (λ c. IsTrue (is_under_way port.shape port.commands.signals (takes port) c) → IsFalse (is_raised (port.commands.read c))) end c finished h;
  };
  tag = λ c h held. absurd (never c (omega (arith, h)) held);
  more = λ c h held. absurd (never c (omega (arith, h)) held);
  joined = λ c h. each_below (λ c. IsTrue (shows port.commands.signals c) → IsTrue ((transfer_at port.shape port.commands.signals (takes port) c).ends || is_raised (port.commands.more c))) end c joined h;
}
  where
    never : (c : ℕ) → c < end → IsTrue (is_held port.commands.signals (takes port) c) → ⊥
    never c h = each_below (λ c. IsTrue (is_held port.commands.signals (takes port) c) → ⊥) end c none h

-- ---- the route

pub even_plan : IsRoutePlan even_pair 0 (words_of 4)
even_plan = record {
  words = refl;
  agents = λ kind address a at. let same : 0 ≡ a = cc in omega (arith, same);
  serves = λ kind address a at. both kind;
  joined = λ kind address a at. refl;
  base = λ kind address a at. (0, omega arith, omega arith);
}
  where
    both : (kind : Kind) → IsTrue (serves_kind (agent_of 4) kind)
    both Reads = refl
    both Writes = refl

pub routed_legal : AreLegalAt (above_route even_pair routed_ahead) 3
routed_legal = legal_by_cycles (above_route even_pair routed_ahead) 3 (((tt, λ held. cc), λ held. cc), λ held. cc) (((tt, refl), refl), refl) (λ c. refl) (omega arith) (((tt, λ under. cc), λ under. cc), λ under. cc) (((tt, λ _. refl), λ _. refl), λ shown. cc)

pub routed_single : AreSingle (above_route even_pair routed_ahead) 3
routed_single c low = each_below (λ c. IsTrue (shows (above_route even_pair routed_ahead).commands.signals c) → is_raised ((above_route even_pair routed_ahead).commands.more c) ≡ not (transfer_at (above_route even_pair routed_ahead).shape (above_route even_pair routed_ahead).commands.signals (takes (above_route even_pair routed_ahead)) c).ends) 3 c (((tt, λ _. refl), λ _. refl), λ shown. cc) low

pub routed_debt : OwesBelow 8 (above_route even_pair routed_ahead) 3
routed_debt c low = each_below (λ c. words_owed (above_route even_pair routed_ahead) (suc c) < length (words_at (above_route even_pair routed_ahead) c) + 8) 3 c (((tt, omega arith), omega arith), omega arith) low

pub routed_owed : (a : ℕ) → a < 1 → AnswersAreOwed (below_route even_pair routed_ahead a) 3
routed_owed a there = each_below (λ a. AnswersAreOwed (below_route even_pair routed_ahead a) 3) 1 a (tt, first) there
  where
    first : AnswersAreOwed (below_route even_pair routed_ahead 0) 3
    first c low = each_below (λ c. words_before (below_route even_pair routed_ahead 0).answers.valid (suc c) ≤ words_owed (below_route even_pair routed_ahead 0) c) 3 c (((tt, omega arith), omega arith), omega arith) low

pub odd_is_not : RouteIsPrompt 3 odd_pair 0 0 (above_route odd_pair last_lane) (below_route odd_pair last_lane) 4 → ⊥
odd_is_not prompt = let bad = prompt.shown 0 0 _ (omega arith) refl refl refl refl in omega (arith, bad)

-- ---- next to an agent

pub small_plan : IsAgentPlan (agent_of 4)
small_plan = record { word = omega arith; unit = omega arith; pending = omega arith; span = 64; spans = omega arith; some_span = omega arith; one_word = λ without. cc }

pub small_suits : SuitsAgent (agent_of 4) (words_of 4)
small_suits = record { plan = small_plan; words = refl; bursts = refl; plain = λ _. refl; units = 4; whole = omega arith }

pub asked_fits : IsFit even_pair 0 (above_agent asked_twice).port 3
asked_fits = record {
  legal = legal_by_cycles (above_agent asked_twice).port 3 (((tt, λ held. cc), λ held. cc), λ held. cc) (((tt, refl), refl), refl) (λ c. refl) (omega arith) (((tt, λ under. cc), λ under. cc), λ under. cc) (((tt, λ _. refl), λ _. refl), λ shown. cc);
  lanes = λ c low. refl;
  tags = λ c low. each_below (λ c. IsTrue (shows (above_agent asked_twice).commands.signals c) → IsTrue (is_joined even_pair 0 ((above_agent asked_twice).commands.tag c))) 3 c (((tt, λ _. refl), λ _. refl), λ _. refl) low;
  kinds = λ c low. each_below (λ c. IsTrue (serves_at (agent_of 4) (above_agent asked_twice).port c)) 3 c (((tt, refl), refl), refl) low;
}

pub asked_legal : IsLegalAgent (agent_of 4) (at_agent asked_twice) 3
asked_legal = record {
  owed = λ _ c low. each_below (λ c. words_before (at_agent asked_twice).readdatavalid (suc c) ≤ words_asked (agent_of 4).shape (at_agent asked_twice).signals (agent_accepts (agent_of 4) (at_agent asked_twice)) c) 3 c (((tt, omega arith), omega arith), omega arith) low;
}

-- ---- late ones

pub late_host : HostGoesStraightThrough (host_with true 4) writing 0 late 1 → ⊥
late_host straight = let bad = (straight.shown 0 (omega arith) refl refl).0 in cc

pub late_host_waits : HostIsPrompt 0 (host_with true 4) writing 0 late 1 → ⊥
late_host_waits prompt = let bad = prompt.shown 0 0 _ (omega arith) refl refl (omega arith) refl in omega (arith, bad)

pub late_route : RouteGoesStraightThrough even_pair 0 0 (port_with (commands_of [] (1 ∷ []) 15)) (λ a. late) 1 → ⊥
late_route straight = let bad = (straight.shown 0 (omega arith) refl).0 in cc

pub late_route_waits : RouteIsPrompt 0 even_pair 0 0 (port_with (commands_of [] (1 ∷ []) 15)) (λ a. late) 1 → ⊥
late_route_waits prompt = let bad = prompt.shown 0 0 _ (omega arith) refl refl refl refl in omega (arith, bad)

pub idle_agent : ShowsWhatItIsAsked even_pair (agent_run idle) 0 (above_agent asked_twice) 1 → ⊥
idle_agent shows_all = let bad = (shows_all.shown 0 (omega arith) refl refl).0 in cc
