-- Behind a legal host a route shows each place beats that fit, by their machines alone.
use Rattle.std.proofs.Common.{ℕ, ◌<◌, ◌≡◌, true, IsTrue, sym, ap, ap₂, subst, ◌∙◌}
use Rattle.std.proofs.lemmas.Bool.{and_parts}
use Rattle.memory_runs.specs.Views.{Levels, Shape, Responses, System, Run}
use Rattle.memory_runs.specs.Commands.{Burst, burst_before, shows}
use Rattle.memory_runs.specs.Legal.{IsLegalHost}
use Rattle.memory_runs.specs.Order.{is_agent}
use Rattle.memory_machines.specs.Link.{Port, Marked, takes, marked_at, AreLegalAt}
use Rattle.memory_machines.specs.Lines.{AreSingle}
use Rattle.memory_machines.specs.Machines.{Raw, IsFitBeat, raw_at, ShowsFitBeats}
use Rattle.memory_machines.specs.SideLaws.{fit_when_shown}
use Rattle.memory_parts.specs.Host.{HostState, IsHostMachine}
use Rattle.memory_parts.specs.Route.{RouteState, IsRouteMachine, place_now, is_open, goes_to}
use Rattle.memory_parts.specs.Joins.{KeepsBeats}
use Rattle.memory_parts.proofs.HostLine.{legal_below, single_below}
use Rattle.memory_parts.proofs.RouteTurns.{retag, levels_down, same_burst, of_agent, shows_down, same_marked}
use Rattle.memory_parts.proofs.Shared.{same_back, same_fit}

-- the tag of a beat doesn't matter
retagged_fit : (shape : Shape) (burst : Burst) (raw : Raw) (tag : ℕ) → IsFitBeat shape burst raw → IsFitBeat shape burst (record raw { tag = tag })
retagged_fit shape burst raw tag fit = record { one_kind = fit.one_kind; least = fit.least; most = fit.most; finished = fit.finished; joined = fit.joined }

module _ (responses : Responses) (system : System) (run : Run) (host room : ℕ) (middle : Port) (down : ℕ → Port) (host_state : HostState) (route_state : RouteState) (end : ℕ)
    (legal : IsLegalHost (system.host host) (run.at_host host) end) (above : IsHostMachine responses (system.host host) (run.at_host host) middle host_state end)
    (below : IsRouteMachine responses system host room middle down route_state end) where
  legal_middle : AreLegalAt middle end
  legal_middle = legal_below responses (system.host host) (run.at_host host) middle host_state end above legal

  single_middle : AreSingle middle end
  single_middle = single_below responses (system.host host) (run.at_host host) middle host_state end above legal

  -- what is shown to a place is for it
  shown_for : (a c : ℕ) → a < system.agents → c < end → IsTrue (shows (down a).commands.signals c) → (goes_to system host middle route_state a c ≡ true) × (shows middle.commands.signals c ≡ true)
  shown_for a c there low shown =
      and_parts (goes_to system host middle route_state a c) (shows middle.commands.signals c)
      (sym (shows_down responses system host room middle down route_state end below legal_middle single_middle a c there low) ∙ shown)

  same : (a c : ℕ) → a < system.agents → c < end → IsTrue (shows (down a).commands.signals c) → marked_at (down a) c ≡ retag responses system host room middle down route_state end below legal_middle single_middle (marked_at middle c)
  same a c there low shown =
      same_marked responses system host room middle down route_state end below legal_middle single_middle a c there low (shown_for a c there low shown).0

  pub fits : (a : ℕ) → a < system.agents → ShowsFitBeats (down a) end
  fits a there c low shown =
      let seen = shown_for a c there low shown in
      let above : Burst = burst_before middle.shape middle.commands.signals (takes middle) c in
      let here : Burst = burst_before (down a).shape (down a).commands.signals (takes (down a)) c in
      let at = of_agent a (place_now system host middle route_state c) (and_parts (is_agent a (place_now system host middle route_state c)) (is_open system host middle route_state c) seen.0).0 in
      let back = same_back here above (same_burst responses system host room middle down route_state end below legal_middle single_middle a c there low at) in
      let fit = same_fit middle.shape (raw_at middle c) above here back (fit_when_shown middle end c legal_middle low seen.1) in
      let tagged = retagged_fit middle.shape here (raw_at middle c) ((down a).commands.tag c) fit in
      let same_raw : record (raw_at middle c) { tag = (down a).commands.tag c } ≡ raw_at (down a) c =
      ap₂ (λ (l : Levels) (m : ℕ). record { levels = l; more = m; tag = (down a).commands.tag c }) (sym (levels_down responses system host room middle down route_state end below legal_middle single_middle a c there low seen.0)) (sym (below.more a c there low)) in
      subst (λ (s : Shape). IsFitBeat s here (raw_at (down a) c)) (sym (below.shapes a there)) (subst (IsFitBeat middle.shape here) same_raw tagged)

  pub keeps : (a : ℕ) → a < system.agents → KeepsBeats middle (down a) end
  keeps a there = record {
    shown = λ c low shown. (shown_for a c there low shown).1;
    same = λ c low shown. ap (λ (x : Marked). x.transfer) (same a c there low shown);
  }
