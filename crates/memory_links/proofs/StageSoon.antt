-- A stage shows what it is asked in the next cycle at the latest, and where it shows nothing it keeps nothing.
use Rattle.std.proofs.Common.{ℕ, suc, ◌<◌, ◌≡◌, Bool, true, false, not, ◌||◌, ◌&&◌, List, [], ◌∷◌, ◌++◌, arith, refl, sym, ap, ap₂, ◌∙◌, length, drop, IsTrue, IsFalse, append-nil, if◌then◌else◌}
use Rattle.std.proofs.lemmas.Bool.{or_left, or_right}
use Rattle.histories.specs.History.{is_raised, only_if}
use Rattle.memory_runs.specs.Commands.{shows}
use Rattle.memory_machines.specs.Link.{Port, takes, taken_at}
use Rattle.memory_machines.specs.Machines.{raws, raw_at, Raw, marked, burst_of, idle, ShowsHead, Stage, above, below, RunsAsStage, WaitsOnlyWhenFull}
use Rattle.memory_links.specs.Soon.{ShowsSoon}
use Rattle.memory_links.proofs.Stages.{StageLaws, taken_split}

module _ (laws : StageLaws) (stage : Stage) (runs : RunsAsStage stage) (some : 0 < stage.depth) (ready : WaitsOnlyWhenFull stage) where
  abbrev up : Port
  up = above stage

  abbrev down : Port
  down = below stage

  -- where nothing is shown below, the queue is empty
  empty : (c : ℕ) → IsFalse (shows down.commands.signals c) → stage.queue c ≡ []
  empty c none = by_head (stage.queue c) refl (runs.heads c)
    where
      by_head : (q : List Raw) → stage.queue c ≡ q → ShowsHead down c q → stage.queue c ≡ []
      by_head [] eq heads = eq
      by_head (r ∷ later) eq heads = let bad : true ≡ false = sym heads.0 ∙ none in absurd cc

  -- then what comes is taken, and stands below in the next cycle
  comes : (c : ℕ) → IsTrue (shows up.commands.signals c) → IsFalse (shows down.commands.signals c) → IsTrue (shows down.commands.signals (suc c))
  comes c shown none = by_head (stage.queue (suc c)) refl (runs.heads (suc c))
    where
      free : is_raised (up.commands.waitrequest c) ≡ false
      free = ready c (let none_held = ap length (empty c none) in let deep = some in omega (arith, none_held, deep))

      taken : takes up c ≡ true
      taken = ap₂ (λ s w. s && not w) shown free

      quiet : takes down c ≡ false
      quiet = ap (λ s. s && not (is_raised (down.commands.waitrequest c))) none

      next : stage.queue (suc c) ≡ raw_at up c ∷ []
      next = runs.next c ∙ ap₂ (λ t q. drop (if t then 1 else 0) q ++ only_if (takes up c) (raw_at up c)) quiet (empty c none) ∙ ap (λ t. only_if t (raw_at up c)) taken

      by_head : (q : List Raw) → stage.queue (suc c) ≡ q → ShowsHead down (suc c) q → IsTrue (shows down.commands.signals (suc c))
      by_head [] eq heads = let bad : [] ≡ raw_at up c ∷ [] = sym eq ∙ next in absurd cc
      by_head (r ∷ later) eq heads = heads.0

  pub shows_soon : ShowsSoon (above stage) (below stage)
  shows_soon = record {
    shape = refl;
    next = λ c shown. by_below c shown (shows down.commands.signals c) refl;
    all = λ c none. taken_split laws stage.depth stage.shape stage.sides.commands_above stage.sides.commands_below stage.sides.answers_above stage.sides.answers_below stage.queue runs c
        ∙ ap (λ q. taken_at down c ++ marked stage.shape (burst_of stage.shape idle (raws down c)) q) (empty c none) ∙ append-nil (taken_at down c);
  }
    where
      by_below : (c : ℕ) → IsTrue (shows up.commands.signals c) → (b : Bool) → shows down.commands.signals c ≡ b → IsTrue (shows down.commands.signals c || shows down.commands.signals (suc c))
      by_below c shown true e = or_left (shows down.commands.signals c) _ e
      by_below c shown false e = or_right (shows down.commands.signals c) _ (comes c shown e)
