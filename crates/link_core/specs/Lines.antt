-- A pipe: stages in a row, and its line, that commands and words go on unchanged with their tags, so many cycles later.
use Rattle.std.specs.Prelude.{◌≡◌, ℕ, suc, ◌+◌, ◌<◌}
use Rattle.memory_runs.specs.Views.{System}
use Rattle.memory_machines.specs.Link.{Port}
use Rattle.memory_machines.specs.Lines.{TaggedPort, IsPipeLine}
use Rattle.link_core.specs.Form.{Form}
use Rattle.link_core.specs.StageNets.{RunsAsPipeStage}

abbrev pub tagged_port : Port → (ℕ → ℕ) → TaggedPort
tagged_port port tag = record { port = port; answer_tag = tag }

-- the same commands with other tags
abbrev pub with_tag : (ℕ → ℕ) → Port → Port
with_tag tag port = record port { commands = record port.commands { tag = tag } }

-- the tag of an answer goes through so many registers
abbrev pub IsLater : ℕ → (ℕ → ℕ) → (ℕ → ℕ) → Type 0
IsLater stages tag later = (c : ℕ) → later (stages + c) ≡ tag c

-- the line between these ports, whatever tags the answers bear
abbrev pub KeepsLine : ℕ → Form → Port → Port → Type 0
KeepsLine stages form up down =
    (system : System) (agent end : ℕ) (tag later : ℕ → ℕ) → IsLater stages tag later
    → IsPipeLine system agent form.link.hold stages (tagged_port up later) (tagged_port down tag) end

-- so many stages in a row
pub data RunsAsStages : ℕ → Port → Port → Type 0 where
  no_stage : {port : Port} → RunsAsStages 0 port port
  one_more : {stages : ℕ} {up middle down : Port} → RunsAsPipeStage up middle → RunsAsStages stages middle down
      → RunsAsStages (suc stages) up down

-- their sides by number, of which 0 is the lowest
pub record HaveNumbers (stages : ℕ) (up down : Port) : Type 0 where
  pub side : ℕ → Port
  pub highest : side stages ≡ up
  pub lowest : side 0 ≡ down
  pub stage : (i : ℕ) → i < stages → RunsAsPipeStage (side (suc i)) (side i)
