-- What a gatherer takes below is one beat for each transfer.
use Rattle.std.proofs.Common.{ℕ, zero, suc, ◌≤◌, ◌≡◌, Bool, true, false, not, [], ◌∷◌, ◌++◌, refl, sym, ap, ap₂, ◌∙◌, length, map, flat_map, append-nil}
use Rattle.std.proofs.lemmas.List.{map-append}
use Rattle.std.proofs.lemmas.Grind.{flat_map-append}
use Rattle.histories.specs.History.{is_raised, only_if}
use Rattle.memory_runs.specs.Operations.{Beat}
use Rattle.memory_runs.specs.Commands.{Transfer}
use Rattle.memory_machines.specs.Link.{Target, Port, Marked, AreLegalAt, takes, marked_at, taken_at, beat_operations, operations_in, sizes}
use Rattle.memory_links.proofs.Lanes.{SelectsBeats}
use Rattle.memory_links.specs.Gathers.{RunsAsGather, IsGatherPlan, GatherState, LieInWords, is_shut}
use Rattle.memory_links.specs.Packs.{beat_sizes, acting}
use Rattle.memory_links.proofs.Alike.{taken_alike, alike_sizes}
use Rattle.memory_links.proofs.Gathering.{gather_gate, alike}
use Rattle.memory_links.proofs.Shutting.{shows_same, takes_same, below_is, legal_below}

module _ (law : SelectsBeats) (target : Target) (up down : Port) (many room : ℕ) (state : GatherState)
    (plan : IsGatherPlan target up.shape down.shape many) (run : RunsAsGather room up down state) where
  -- a beat has the operations of its transfer
  single : (c : ℕ) → beat_sizes target down.shape (marked_at down c) ≡ length (operations_in target down.shape (marked_at down c)) ∷ []
  single c =
      let is = below_is (gather_gate room up down state run) c (is_raised (up.commands.write c)) refl in
      ap (λ (t : Transfer). map (λ (b : Beat). length (beat_operations target down.shape b)) t.beats) is
      ∙ ap (λ n. n ∷ []) (ap length (sym (append-nil _))) ∙ ap (λ (t : Transfer). length (flat_map (beat_operations target down.shape) t.beats) ∷ []) (sym is)

  singles : (c : ℕ) → flat_map (beat_sizes target down.shape) (taken_at down c) ≡ sizes target down.shape (taken_at down c)
  singles zero = refl
  singles (suc c) =
      flat_map-append (beat_sizes target down.shape) (taken_at down c) (only_if (takes down c) (marked_at down c))
      ∙ ap₂ (λ x y. x ++ y) (singles c) (by_take (takes down c))
      ∙ sym (map-append (λ (m : Marked). length (operations_in target down.shape m)) (taken_at down c) (only_if (takes down c) (marked_at down c)))
    where
      by_take : (t : Bool) → flat_map (beat_sizes target down.shape) (only_if t (marked_at down c)) ≡ sizes target down.shape (only_if t (marked_at down c))
      by_take true = append-nil (beat_sizes target down.shape (marked_at down c)) ∙ single c
      by_take false = refl

  module _ (end : ℕ) (lie : LieInWords up down.shape end) (legal : AreLegalAt up end) where
    pub gather_packs : (c : ℕ) → c ≤ end → acting (flat_map (beat_sizes target down.shape) (taken_at down c)) ≡ acting (sizes target up.shape (taken_at up c))
    gather_packs c h =
        ap acting (singles c ∙ alike_sizes target up.shape down.shape false (taken_at up c) (taken_at down c)
        (taken_alike target false up down (λ k. not (is_shut room up state k)) (shows_same (gather_gate room up down state run)) (takes_same (gather_gate room up down state run)) end
        (alike law target up down many room state plan run end lie legal) legal (legal_below (gather_gate room up down state run) end legal) c h))
