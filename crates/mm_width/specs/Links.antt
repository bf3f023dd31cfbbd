-- The links of a host and an agent in a row: a cutter of bursts, a lane selector, a gatherer or a splitter, and below it what
-- drops beats without a lane.
use Rattle.std.specs.Prelude.{ℕ, ◌+◌, ◌*◌, min, max, Bool, not, if◌then◌else◌, nat_lt, Option, Some, None}
use Rattle.iface_roles.specs.declared.records.HostPort.{HostPort}
use Rattle.iface_roles.specs.declared.records.AgentPort.{AgentPort}
use Rattle.link_core.specs.declared.chain.Chain.{Chain}
use Rattle.link_core.specs.declared.maybe.Maybe.{Maybe}
use Rattle.mm_burst.specs.declared.cutter.Cutter.{Cutter}
use Rattle.mm_select.specs.declared.select.Select.{Select}
use Rattle.mm_gather.specs.declared.gather.Gather.{Gather}
use Rattle.mm_split.specs.declared.split.Split.{Split}
use Rattle.mm_drop.specs.declared.dropper.Dropper.{Dropper}
use Rattle.mm_width.specs.Pairs.{packs, selects, needs_drop, needs_cut, cutter_between}

-- what fits words and beats, below the cutter
abbrev pub Fitting : Type 0
Fitting = Chain (Chain (Chain (Maybe Select) (Maybe Gather)) (Maybe Split)) (Maybe Dropper)

-- each link where it is needed
abbrev pub Width : Type 0
Width = Chain (Maybe Cutter) Fitting

-- ---- how many reads they have room for

-- what a plan allows is at most this, and at least 1
abbrev pub within_64 : ℕ → ℕ
within_64 count = max (min count 64) 1

-- the reads that the agent can have under way: as many as may be pending, or those on their way to and from one that answers a
-- fixed time later.
-- Each stage before it holds two more and the word of a third
abbrev pub reads_below : AgentPort → ℕ → ℕ
reads_below agent stages =
    (if agent.readdatavalid then within_64 agent.pending else within_64 agent.read_latency + 1) + 3 * stages

-- those that a host keeps under way: one where it waits for each word. More than 16 would cost more than they bring
abbrev pub reads_above : HostPort → AgentPort → ℕ → ℕ
reads_above host agent stages = min (if host.readdatavalid then 16 else 1) (reads_below agent stages)

-- ---- each link

abbrev pub cutter_if : Bool → HostPort → AgentPort → Option Cutter
cutter_if there host agent = if there then Some (cutter_between host agent) else None

-- a selector can't do with less than two
abbrev pub selector_if : Bool → HostPort → AgentPort → ℕ → Option Select
selector_if there host agent stages =
    if there
    then Some
    (record { narrow_bytes = host.word_bytes; wide_bytes = agent.word_bytes; reads = max (reads_above host agent stages) 2 })
    else None

-- a read is one as long as its last narrow word hasn't gone, so this is room for one more than may be under way below
abbrev pub gatherer_if : Bool → HostPort → AgentPort → ℕ → Option Gather
gatherer_if there host agent stages =
    if there
    then Some (record { narrow_bytes = host.word_bytes; wide_bytes = agent.word_bytes; reads = reads_below agent stages + 1 })
    else None

-- a host without byte enables asks all pieces of a word
abbrev pub splitter_if : Bool → HostPort → AgentPort → ℕ → Option Split
splitter_if there host agent stages =
    if there
    then Some
    (record {
      wide_bytes =
          host.word_bytes;
      narrow_bytes = agent.word_bytes;
      reads = reads_above host agent stages;
      all_lanes = not host.enables;
    })
    else None

-- the pieces of one read are many reads, so behind a splitter what drops beats has room for all that there may be
abbrev pub dropper_if : Bool → Bool → HostPort → AgentPort → ℕ → Option Dropper
dropper_if there is_split host agent stages =
    if there
    then Some
    (record
    { word_bytes = agent.word_bytes; reads = if is_split then reads_below agent stages else reads_above host agent stages })
    else None

-- where narrow words are selected, where they are gathered, where the host is wider, and where beats are dropped
abbrev pub fitting_by : Bool → Bool → Bool → Bool → HostPort → AgentPort → ℕ → Fitting
fitting_by selected gathered wider drops host agent stages = record {
  first = record {
    first =
        record {
          first =
              record { link = selector_if selected host agent stages };
          second =
              record { link = gatherer_if gathered host agent stages };
        };
    second = record { link = splitter_if wider host agent stages };
  };
  second = record { link = dropper_if drops wider host agent stages };
}

abbrev pub fitting_of : HostPort → AgentPort → ℕ → Fitting
fitting_of host agent stages =
    fitting_by (selects host agent) (packs host agent) (nat_lt agent.word_bytes host.word_bytes)
    (needs_drop host agent) host agent stages

abbrev pub width_of : HostPort → AgentPort → ℕ → Width
width_of host agent stages =
    record { first = record { link = cutter_if (needs_cut host agent) host agent }; second = fitting_of host agent stages }
