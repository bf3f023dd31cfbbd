-- The way of a host to an agent, and the side that its route has there.
use Rattle.std.proofs.Common.{◌≡◌, ℕ, suc, Bool, true, false, ◌||◌, cond, nat_eq, List, [], ◌∷◌, Some, map, refl, sym, subst, ap, ◌∙◌}
use Rattle.std.proofs.lemmas.Bool.{eqb-true, false≢true}
use Rattle.std.proofs.lemmas.Option.{same_Some, none-some}
use Rattle.netlist.specs.Runs.{Cycle, Run}
use Rattle.memory_runs.specs.Views.{Shape}
use Rattle.memory_machines.specs.Paths.{AnswerView}
use Rattle.memory_machines.specs.Link.{Port}
use Rattle.memory_runs.specs.declared.sides.route.Route.{Route}
use Rattle.memory_plans.specs.Routes.{HasRoute}
use Rattle.command_nets.specs.declared.nets.CommandNets.{CommandNets}
use Rattle.command_nets.specs.Nets.{port_in, ShowSame}
use Rattle.mm_route.specs.Machine.{has_entry, down_at, silent_port, ShowAllSame}
use Rattle.mm_fabric.specs.declared.parts.Way.{Way}
use Rattle.mm_fabric.specs.Parts.{commands_below, backs_below}
use Rattle.mm_fabric.specs.Fabrics.{way_to}

-- the side below a route, at one of its ways
abbrev pub way_side : Shape → Run → Way → Port
way_side shape run way = port_in shape run way.command way.back.wait way.back.answer

-- a way for each route, to its agent
abbrev pub AreWaysOf : List Route → List Way → Type 0
AreWaysOf routes ways = map (λ (w : Way). w.agent) ways ≡ map (λ (r : Route). r.agent) routes

abbrev pub head_or : List ℕ → ℕ
head_or [] = 0
head_or (x ∷ later) = x

abbrev pub tail_of : List ℕ → List ℕ
tail_of [] = []
tail_of (x ∷ later) = later

module _ (shape : Shape) (run : Run) (command : CommandNets) (number : ℕ) (others : ℕ → AnswerView) (agent : ℕ) where
  abbrev pub side_at : List Route → List Way → Port
  side_at routes ways = down_at shape run command number others routes (commands_below ways) (backs_below ways) agent

  -- the way to an agent has its side
  pub way_is : (routes : List Route) (ways : List Way) → AreWaysOf routes ways → (way : Way) → way_to agent ways ≡ Some way → side_at routes ways ≡ way_side shape run way
  way_is routes [] are way there = absurd (none-some way there)
  way_is [] (first ∷ later) are way there = absurd (let no : first.agent ∷ map (λ (w : Way). w.agent) later ≡ [] = are in cc)
  way_is (route ∷ routes) (first ∷ ways) are way there = by (nat_eq first.agent agent) refl (way_is routes ways (ap tail_of are) way)
    where
      same : nat_eq first.agent agent ≡ nat_eq route.agent agent
      same = ap (λ n. nat_eq n agent) (ap head_or are)

      by : (b : Bool) → nat_eq first.agent agent ≡ b → (way_to agent ways ≡ Some way → side_at routes ways ≡ way_side shape run way) → cond (nat_eq route.agent agent) (way_side shape run first) (side_at routes ways) ≡ way_side shape run way
      by true own rest =
          ap (λ b. cond b (way_side shape run first) (side_at routes ways)) (sym same ∙ own)
          ∙ ap (way_side shape run) (same_Some first way (sym (ap (λ b. cond b (Some first) (way_to agent ways)) own) ∙ there))
      by false other rest =
          ap (λ b. cond b (way_side shape run first) (side_at routes ways)) (sym same ∙ other)
          ∙ rest (sym (ap (λ b. cond b (Some first) (way_to agent ways)) other) ∙ there)

  -- nothing is shown to an agent without an entry
  pub leads_nowhere : (routes : List Route) (ways : List Way) → has_entry routes agent ≡ false → side_at routes ways ≡ silent_port shape run command number (others agent)
  leads_nowhere [] ways none = refl
  leads_nowhere (route ∷ routes) [] none = refl
  leads_nowhere (route ∷ routes) (first ∷ ways) none = by (nat_eq route.agent agent) refl (leads_nowhere routes ways)
    where
      by : (b : Bool) → nat_eq route.agent agent ≡ b → (has_entry routes agent ≡ false → side_at routes ways ≡ silent_port shape run command number (others agent)) →
          cond (nat_eq route.agent agent) (way_side shape run first) (side_at routes ways) ≡ silent_port shape run command number (others agent)
      by true own later = absurd (false≢true (sym none ∙ ap (λ b. b || has_entry routes agent) own))
      by false other later = ap (λ b. cond b (way_side shape run first) (side_at routes ways)) other ∙ later (sym (ap (λ b. b || has_entry routes agent) other) ∙ none)

-- an entry for an agent is one of the routes
pub entry_there : (routes : List Route) (agent : ℕ) → has_entry routes agent ≡ true → HasRoute routes agent
entry_there [] agent has = absurd (false≢true has)
entry_there (route ∷ routes) agent has = by (nat_eq route.agent agent) refl (entry_there routes agent)
  where
    by : (b : Bool) → nat_eq route.agent agent ≡ b → (has_entry routes agent ≡ true → HasRoute routes agent) → HasRoute (route ∷ routes) agent
    by true own later = record { number = 0; route = route; is = refl; leads = eqb-true route.agent agent own }
    by false other later =
        let one = later (sym (ap (λ b. b || has_entry routes agent) other) ∙ has) in
        record { number = suc one.number; route = one.route; is = one.is; leads = one.leads }

-- what all commands show, that of each way does
pub way_same : (ways : List Way) (agent : ℕ) (way : Way) (one other : Cycle) → way_to agent ways ≡ Some way → ShowAllSame (commands_below ways) one other → ShowSame way.command one other
way_same [] agent way one other there same = absurd (none-some way there)
way_same (first ∷ later) agent way one other there same = by (nat_eq first.agent agent) refl (λ rest. way_same later agent way one other rest same.1)
  where
    by : (b : Bool) → nat_eq first.agent agent ≡ b → (way_to agent later ≡ Some way → ShowSame way.command one other) → ShowSame way.command one other
    by true own rest = let is = same_Some first way (sym (ap (λ b. cond b (Some first) (way_to agent later)) own) ∙ there) in subst (λ (w : Way). ShowSame w.command one other) is same.0
    by false apart rest = rest (sym (ap (λ b. cond b (Some first) (way_to agent later)) apart) ∙ there)
