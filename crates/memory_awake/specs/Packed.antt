-- Systems of machines whose rows pack reads.
use Rattle.std.specs.Prelude.{ℕ, ◌<◌, ◌≤◌, flat_map, IsFalse}
use Rattle.histories.specs.History.{IsPrefix}
use Rattle.memory_runs.specs.Views.{System, Run}
use Rattle.memory_machines.specs.Link.{Target, Port, taken_at}
use Rattle.memory_links.specs.Packs.{beat_sizes, acting}
use Rattle.memory_awake.specs.Rows.{CutsBursts, CutsBursts.cutter, CutsBursts.no_cutter, FitsWords, FitsWords.selector, FitsWords.gatherer, FitsWords.splitter, FitsWords.no_width}
use Rattle.memory_awake.specs.RowSystem.{RowPorts, AreRows}

-- no beats but those from above are taken below, by their operations
abbrev pub KeepsSizes : Target → Port → Port → ℕ → Type 0
KeepsSizes target up down end =
    (c : ℕ) → c ≤ end
    → IsPrefix (acting (flat_map (beat_sizes target down.shape) (taken_at down c)))
    (acting (flat_map (beat_sizes target up.shape) (taken_at up c)))

-- a row packs reads. A lane selector does where no burst is cut above it: each read is of one word then. Where the host's word is
-- the larger one nothing is asked
abbrev pub RowPacks : {target : Target} {top middle low : Port} → CutsBursts top middle → FitsWords target middle low → Type 0
RowPacks (cutter reach longest state plan run) (selector many room offsets may deep runs) = ⊥
RowPacks (no_cutter wired) (selector many room offsets may deep runs) = Unit {0}
RowPacks cuts (gatherer many room state may deep runs) = Unit {0}
RowPacks cuts (splitter count room state may some runs) = Unit {0}
RowPacks cuts (no_width wired) = Unit {0}

-- all rows of a system do
abbrev pub RowsPack : {system : System} {run : Run} {ports : RowPorts} {end : ℕ} → AreRows system run ports end → Type 0
RowsPack {system} {run} {ports} {end} rows =
    (h a : ℕ) (low : h < system.hosts) (there : a < system.agents) (links : IsFalse (rows.idle h a))
    → RowPacks (rows.cuts h a low there links) (rows.fits h a low there links)
