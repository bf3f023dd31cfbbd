-- The links of a host and an agent as nets: what their calls leave in a netlist, and what they run as.
use Rattle.std.specs.Prelude.{◌≡◌, ℕ, ◌++◌, Bool, true, List, [], ◌∷◌}
use Rattle.std.proofs.Common.{inl, inr}
use Rattle.iface_roles.specs.declared.records.HostPort.{HostPort}
use Rattle.iface_roles.specs.declared.records.AgentPort.{AgentPort}
use Rattle.memory_runs.specs.Sides.{burst_width}
use Rattle.netlist.specs.Nets.{NetValue}
use Rattle.netlist.specs.Netlists.{Netlist, IsWaiting, WaitsForWrite}
use Rattle.netlist.specs.Runs.{Run, IsEndlessRun}
use Rattle.netlist.specs.Longer.{Extends}
use Rattle.memory_runs.specs.Views.{Shape}
use Rattle.memory_machines.specs.Link.{Target, Port}
use Rattle.memory_awake.specs.Rows.{CutsBursts, FitsWords, DropsBeats, GathersBelowCut, drops_some}
use Rattle.command_nets.specs.declared.nets.CommandNets.{CommandNets}
use Rattle.command_nets.specs.declared.nets.AnswerNets.{AnswerNets}
use Rattle.command_nets.specs.Nets.{port_in}
use Rattle.link_core.specs.declared.row.Begun.{Begun}
use Rattle.link_core.specs.Rows.{IsBegun, AreBegun, IsOfOne}
use Rattle.memory_awake.specs.Packed.{RowPacks}
pub use Rattle.mm_width.specs.Kept.{WidthKept, owns_width, stores_width}
use Rattle.mm_width.specs.Kept.{WidthKeeps, WidthCommand, keeps_lasts, command_lasts}
pub use Rattle.mm_width.specs.Links.{Width, width_of}
use Rattle.mm_width.specs.Pairs.{needs_drop}

abbrev pub BegunWidth : Type 0
BegunWidth = Begun Width WidthKept

abbrev pub IsOfAnyWidth : List BegunWidth → ℕ → Type 0
IsOfAnyWidth begun n = IsOfOne owns_width begun n

abbrev pub IsStoredByAnyWidth : List BegunWidth → ℕ → Type 0
IsStoredByAnyWidth begun m = IsOfOne stores_width begun m

-- a link's memories are none of the others'
abbrev pub AreStoredApart : BegunWidth → List BegunWidth → Type 0
AreStoredApart begun [] = Unit {0}
AreStoredApart begun (other ∷ others) =
    ((m : ℕ) → stores_width begun.kept m → ¬ stores_width other.kept m) × AreStoredApart begun others

-- the memories of these links, which are apart, wait for their writes
abbrev pub WaitForWrites : List BegunWidth → Netlist → Type 0
WaitForWrites [] netlist = Unit {0}
WaitForWrites (begun ∷ others) netlist =
    ((m : ℕ) → stores_width begun.kept m → WaitsForWrite netlist m) × (AreStoredApart begun others × WaitForWrites others netlist)

-- these links are begun, their registers, which are apart, wait, and so do their memories
abbrev pub AreBegunWidths : List BegunWidth → Netlist → Type 0
AreBegunWidths begun netlist = AreBegun WidthKeeps WidthCommand owns_width begun netlist × WaitForWrites begun netlist

-- the command below bears the tag of the one above
abbrev pub command_below : CommandNets → CommandNets → CommandNets
command_below from to = record to { tag = from.tag }

-- one more pair is begun, behind the others, between this command and one that leads below. Its registers and memories didn't
-- wait in this netlist before
pub record IsPushed (netlist : Netlist) (link : Width) (from below : CommandNets) (old new : List BegunWidth) : Type 0 where
  pub to : CommandNets
  pub kept : WidthKept
  pub below_is : below ≡ command_below from to
  pub is : new ≡ old ++ record { link = link; from = from; to = to; kept = kept } ∷ []
  pub fresh : (n : ℕ) → owns_width kept n → ¬ IsWaiting netlist n
  pub fresh_memories : (m : ℕ) → stores_width kept m → ¬ WaitsForWrite netlist m

-- words of so many bytes, with addresses that count bytes, so many bits of burstcount, and an enable for each lane
abbrev pub inner_shape : ℕ → ℕ → Shape
inner_shape bytes bits = record { word_bytes = bytes; unit_bytes = 1; burst_bits = bits; has_enables = true }

-- a target with the words of this agent
pub record IsTargetOf (agent : AgentPort) (target : Target) : Type 0 where
  pub words : target.shape.word_bytes ≡ agent.word_bytes
  pub enables : target.shape.has_enables ≡ agent.enables

-- bursts are cut where they may be too long, words are made those of the agent, each of which a read burst reads once, and below
-- that beats without a lane are dropped where that is asked
pub record RunsAsWidth (drops : Bool) (target : Target) (up down : Port) : Type 0 where
  pub middle : Port
  pub cuts : CutsBursts up middle
  pub low : Port
  pub fits : FitsWords target middle low
  pub gathers : GathersBelowCut cuts fits
  pub packs : RowPacks cuts fits
  pub dropped : DropsBeats target low down
  pub is : drops_some dropped ≡ drops

-- in each endless run of each longer netlist the links of the pair are their machines between these nets
abbrev pub WidthInLonger : HostPort → AgentPort → Netlist → CommandNets → NetValue → AnswerNets → CommandNets → NetValue
    → AnswerNets → Type 0
WidthInLonger host agent netlist from up back to wait answer =
    (longer : Netlist) → Extends netlist longer → (run : Run) → IsEndlessRun longer run → (target : Target)
    → IsTargetOf agent target →
    RunsAsWidth (needs_drop host agent) target
    (port_in (inner_shape host.word_bytes (burst_width host.burst_bits)) run from up back)
    (port_in (inner_shape agent.word_bytes (burst_width agent.burst_bits)) run to wait answer)

-- the most nets of each call, of a cutter, of a splitter between words of 16 bytes and of one, and of what drops beats behind it
abbrev pub width_command_nets : ℕ
width_command_nets = 418

abbrev pub width_answer_nets : ℕ
width_answer_nets = 310

-- and the most memories, of a gatherer
abbrev pub width_memories : ℕ
width_memories = 4

-- ---- what stands lasts. No contract reads these proofs

pub one_lasts : (begun : BegunWidth) (old new : Netlist) → IsBegun WidthKeeps WidthCommand owns_width begun old → Extends old new
    → ((n : ℕ) → owns_width begun.kept n → IsWaiting old n → IsWaiting new n)
    → ((m : ℕ) → stores_width begun.kept m → WaitsForWrite old m → WaitsForWrite new m) →
    IsBegun WidthKeeps WidthCommand owns_width begun new
one_lasts begun old new h e w v = record {
  kept = keeps_lasts begun.link begun.kept old new h.kept e w v;
  made = command_lasts begun.link begun.from begun.to begun.kept old new h.made e;
  waits = λ n o. w n o (h.waits n o);
}

rows_last : (begun : List BegunWidth) (old new : Netlist) → AreBegun WidthKeeps WidthCommand owns_width begun old
    → Extends old new → ((n : ℕ) → IsOfAnyWidth begun n → IsWaiting old n → IsWaiting new n)
    → ((m : ℕ) → IsStoredByAnyWidth begun m → WaitsForWrite old m → WaitsForWrite new m) →
    AreBegun WidthKeeps WidthCommand owns_width begun new
rows_last [] old new h e w v = tt
rows_last (begun ∷ later) old new h e w v = (
  one_lasts begun old new h.0 e (λ n o. w n (inl o)) (λ m o. v m (inl o)),
  (h.1.0, rows_last later old new h.1.1 e (λ n o. w n (inr o)) (λ m o. v m (inr o))),
)

writes_last : (begun : List BegunWidth) (old new : Netlist) → WaitForWrites begun old
    → ((m : ℕ) → IsStoredByAnyWidth begun m → WaitsForWrite old m → WaitsForWrite new m) → WaitForWrites begun new
writes_last [] old new h v = tt
writes_last (begun ∷ later) old new h v =
    (λ m o. v m (inl o) (h.0 m o), (h.1.0, writes_last later old new h.1.1 (λ m o. v m (inr o))))

pub begun_lasts : (begun : List BegunWidth) (old new : Netlist) → AreBegunWidths begun old → Extends old new
    → ((n : ℕ) → IsOfAnyWidth begun n → IsWaiting old n → IsWaiting new n)
    → ((m : ℕ) → IsStoredByAnyWidth begun m → WaitsForWrite old m → WaitsForWrite new m) → AreBegunWidths begun new
begun_lasts begun old new h e w v = (rows_last begun old new h.0 e w v, writes_last begun old new h.1 v)
