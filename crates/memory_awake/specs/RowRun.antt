-- A row of a cutter of bursts, what fits words and what drops beats, each of which may be a wire, run on all that is shown to it:
-- commands from above, waits and answers from below.
-- In a cycle commands go down first, by registers, and then waits and answers come up; so the registers of all three are told
-- together, by recursion on the cycle.
use Rattle.std.specs.Prelude.{◌≡◌, ℕ, zero, suc, ◌/◌, ◌%◌, ◌^◌, ◌<◌, ◌≤◌, ◌||◌, Bool, true, false, List, [], if◌then◌else◌}
use Rattle.histories.specs.History.{is_raised, one_if}
use Rattle.memory_runs.specs.Views.{Shape, levels_at}
use Rattle.memory_machines.specs.Paths.{AnswerView}
use Rattle.memory_machines.specs.Link.{Target, Port}
use Rattle.memory_machines.specs.Machines.{Raw, MaySplit}
use Rattle.memory_parts.specs.Inputs.{Commands, with_wait}
use Rattle.memory_links.specs.Cutters.{Reach, IsCutPlan, IsTouchPlan, reach_words}
use Rattle.memory_links.specs.Drops.{IsDropPlan}
use Rattle.memory_links.specs.DrivenGather.{GatherInputs, GatherRegisters, gather_at_rest, gather_part, gather_waits, gather_step, gather_answers_with}
use Rattle.memory_links.specs.Gathers.{IsGatherPlan}
use Rattle.memory_links.specs.Selects.{IsSelectPlan, selected, silenced, first_of}
use Rattle.memory_links.specs.Splits.{nothing}
use Rattle.memory_links.specs.Driven.{Inputs, SelectInputs, SplitInputs, CutInputs, DropInputs, SplitRegisters, CutRegisters, DropRegisters}
use Rattle.memory_links.specs.Driven.{signals_of, shuts, select_waits, select_step, split_part, split_waits, split_valid, split_added, split_step, cut_at_rest, cut_part, cut_waits, cut_step, drop_part, drop_waits, drop_step}
use Rattle.memory_awake.specs.Wires.{shape_with}

pub data Cutter : Type 0 where
  Uncut : Cutter
  Cuts : (reach : Reach) (longest bits : ℕ) → Cutter  -- how reads are cut, the longest write burst, and the bits of the burst count below

pub data Fitter : Type 0 where
  Unfitted : Fitter
  Selects : Fitter
  Splits : Fitter
  Gathers : (many : ℕ) → Fitter  -- so many words of the host stand in one of the agent

abbrev pub by_cutter : {A : Type 0} → Cutter → A → (Reach → ℕ → ℕ → A) → A
by_cutter {A} Uncut wire cut = wire
by_cutter {A} (Cuts reach longest bits) wire cut = cut reach longest bits

abbrev pub by_fitter : {A : Type 0} → Fitter → A → A → A → A → A
by_fitter {A} Unfitted wire selects splits gathers = wire
by_fitter {A} Selects wire selects splits gathers = selects
by_fitter {A} Splits wire selects splits gathers = splits
by_fitter {A} (Gathers many) wire selects splits gathers = gathers

-- what stands in the row, and the shapes of its boundaries from above. `room`: so many reads may be under way in what fits words,
-- and in what drops beats
pub record RowPlan : Type 0 where
  pub cutter : Cutter
  pub fitter : Fitter
  pub drops : Bool
  pub top : Shape
  pub middle : Shape
  pub low : Shape
  pub bottom : Shape
  pub room : ℕ

-- what the registers hold in one cycle
pub record RowRegisters : Type 0 where
  pub cut : CutRegisters
  pub offsets : List ℕ
  pub split : SplitRegisters
  pub gather : GatherRegisters
  pub drop : DropRegisters

abbrev pub row_at_rest : RowRegisters
row_at_rest = record {
  cut = cut_at_rest;
  offsets = [];
  split = record { place = 0; set = []; reads = 0; come = 0; gathered = nothing };
  gather = gather_at_rest;
  drop = record { kept = []; reads = 0; own = false };
}

abbrev pub commands_by : (ℕ → Raw) → Commands
commands_by raw = record { signals = signals_of (λ c. (raw c).levels); more = λ c. (raw c).more; tag = λ c. (raw c).tag }

abbrev pub shown_with : Commands → (ℕ → ℕ) → AnswerView → Inputs
shown_with commands wait answers =
    record { signals = commands.signals; more = commands.more; tag = commands.tag; waitrequest = wait; answers = answers }

abbrev pub cuts_given : RowPlan → Reach → ℕ → Inputs → CutInputs
cuts_given plan reach longest shown =
    record { reach = reach; longest = longest; shape = plan.top; below = plan.middle; inputs = shown }

abbrev pub selects_given : RowPlan → Inputs → SelectInputs
selects_given plan shown = record { narrow = plan.middle; wide = plan.low; room = plan.room; inputs = shown }

abbrev pub splits_given : RowPlan → Inputs → SplitInputs
splits_given plan shown = record { wide = plan.middle; narrow = plan.low; room = plan.room; inputs = shown }

abbrev pub gathers_given : RowPlan → Inputs → GatherInputs
gathers_given plan shown = record { narrow = plan.middle; wide = plan.low; room = plan.room; inputs = shown }

abbrev pub drops_given : RowPlan → Inputs → DropInputs
drops_given plan shown = record { shape = plan.low; below = plan.bottom; room = plan.room; inputs = shown }

module _ (plan : RowPlan) (inputs : Inputs) (registers : ℕ → RowRegisters) where
  -- down
  abbrev pub cut_raw : ℕ → Raw
  cut_raw c =
      by_cutter plan.cutter
      (record { levels = levels_at inputs.signals c; more = inputs.more c; tag = inputs.tag c }) (λ reach longest bits. cut_part
      (cuts_given plan reach longest inputs) (registers c).cut c)

  abbrev pub fit_raw : ℕ → Raw
  fit_raw c =
      let given = shown_with (commands_by cut_raw) inputs.waitrequest inputs.answers in
      by_fitter plan.fitter (cut_raw c)
      (record {
        levels =
            silenced (shuts (selects_given plan given) (registers c).offsets c)
            (selected plan.middle plan.low (cut_raw c).levels);
        more =
            (cut_raw c).more;
        tag = (cut_raw c).tag;
      })
      (split_part (splits_given plan given) (registers c).split c)
      (gather_part (gathers_given plan given) (registers c).gather c)

  -- above what drops beats
  abbrev pub drop_shown : Inputs
  drop_shown = shown_with (commands_by fit_raw) inputs.waitrequest inputs.answers

  abbrev pub drop_raw : ℕ → Raw
  drop_raw c = if plan.drops then drop_part (drops_given plan drop_shown) (registers c).drop c else fit_raw c

  -- and up
  abbrev pub drop_wait : ℕ → ℕ
  drop_wait c = if plan.drops then drop_waits (drops_given plan drop_shown) (registers c).drop c else inputs.waitrequest c

  abbrev pub drop_answers : AnswerView
  drop_answers = record {
    valid =
        λ c. if plan.drops then one_if ((registers c).drop.own || is_raised (inputs.answers.valid c)) else inputs.answers.valid c;
    word = λ c. if plan.drops then (if (registers c).drop.own then 0 else inputs.answers.word c) else inputs.answers.word c;
    code = λ c. if plan.drops then (if (registers c).drop.own then 0 else inputs.answers.code c) else inputs.answers.code c;
  }

  -- above what fits words
  abbrev pub fit_shown : Inputs
  fit_shown = shown_with (commands_by cut_raw) drop_wait drop_answers

  abbrev pub fit_wait : ℕ → ℕ
  fit_wait c =
      by_fitter plan.fitter (drop_wait c) (select_waits (selects_given plan fit_shown) (registers c).offsets c)
      (split_waits (splits_given plan fit_shown) (registers c).split c)
      (gather_waits (gathers_given plan fit_shown) (registers c).gather c)

  abbrev gather_answers : AnswerView
  gather_answers = gather_answers_with (gathers_given plan fit_shown) (λ c. (registers c).gather)

  abbrev pub fit_answers : AnswerView
  fit_answers = record {
    valid =
        λ c. by_fitter plan.fitter (drop_answers.valid c) (drop_answers.valid c)
        (split_valid (splits_given plan fit_shown) (registers c).split c) (gather_answers.valid c);
    word =
        λ c. by_fitter plan.fitter (drop_answers.word c)
        ((drop_answers.word c / 256 ^ first_of (registers c).offsets) % 256 ^ plan.middle.word_bytes)
        (split_added (splits_given plan fit_shown) (registers c).split c).word (gather_answers.word c);
    code =
        λ c. by_fitter plan.fitter (drop_answers.code c) (drop_answers.code c)
        (split_added (splits_given plan fit_shown) (registers c).split c).code (gather_answers.code c);
  }

  -- above the cutter, whose answers are wires
  abbrev pub cut_shown : Inputs
  cut_shown =
      record { signals = inputs.signals; more = inputs.more; tag = inputs.tag; waitrequest = fit_wait; answers = fit_answers }

  abbrev pub cut_wait : ℕ → ℕ
  cut_wait c =
      by_cutter plan.cutter
      (fit_wait c) (λ reach longest bits. cut_waits (cuts_given plan reach longest cut_shown) (registers c).cut c)

  -- the boundaries, from above
  abbrev pub row_top : Port
  row_top =
      record {
        shape =
            plan.top;
        commands =
            record { signals = inputs.signals; more = inputs.more; tag = inputs.tag; waitrequest = cut_wait };
        answers = fit_answers;
      }

  abbrev pub row_middle : Port
  row_middle = record { shape = plan.middle; commands = with_wait (commands_by cut_raw) fit_wait; answers = fit_answers }

  abbrev pub row_low : Port
  row_low = record { shape = plan.low; commands = with_wait (commands_by fit_raw) drop_wait; answers = drop_answers }

  abbrev pub row_bottom : Port
  row_bottom =
      record { shape = plan.bottom; commands = with_wait (commands_by drop_raw) inputs.waitrequest; answers = inputs.answers }

abbrev pub row_step : RowPlan → Inputs → RowRegisters → ℕ → RowRegisters
row_step plan inputs now c = record {
  cut =
      by_cutter plan.cutter now.cut (λ reach longest bits. cut_step
      (cuts_given plan reach longest (cut_shown plan inputs (λ _. now))) now.cut c);
  offsets = select_step (selects_given plan (fit_shown plan inputs (λ _. now))) now.offsets c;
  split = split_step (splits_given plan (fit_shown plan inputs (λ _. now))) now.split c;
  gather = gather_step (gathers_given plan (fit_shown plan inputs (λ _. now))) now.gather c;
  drop = drop_step (drops_given plan (drop_shown plan inputs (λ _. now))) now.drop c;
}

-- the registers of the row, cycle by cycle
abbrev pub row_registers : RowPlan → Inputs → ℕ → RowRegisters
row_registers plan inputs zero = row_at_rest
row_registers plan inputs (suc c) = row_step plan inputs (row_registers plan inputs c) c

-- what the plan says of the words and bursts at the boundaries; where a wire stands they are the same, but that bursts may be
-- longer below
abbrev pub SuitsWire : Shape → Shape → Type 0
SuitsWire up down = (shape_with down.burst_bits up ≡ down) × (up.burst_bits ≤ down.burst_bits) × (0 < up.word_bytes)

abbrev pub SuitsCutter : Cutter → Shape → Shape → Type 0
SuitsCutter Uncut up down = SuitsWire up down
SuitsCutter (Cuts reach longest bits) up down = IsCutPlan reach longest up down

abbrev pub SuitsFitter : Fitter → Target → Shape → Shape → Type 0
SuitsFitter Unfitted target up down = SuitsWire up down
SuitsFitter Selects target up down = (many : ℕ) × IsSelectPlan target up down many
SuitsFitter Splits target up down = (count : ℕ) × MaySplit target up down count
SuitsFitter (Gathers many) target up down = IsGatherPlan target up down many

-- what gathers stands below a cutter at the ends of its wide words
abbrev pub SuitsTouches : Cutter → ℕ → Shape → Shape → Type 0
SuitsTouches Uncut many up down = ⊥
SuitsTouches (Cuts reach longest bits) many up down =
    IsTouchPlan many up down × (reach ≡ reach_words up.word_bytes many) × (longest ≡ 1)

abbrev pub SuitsGathering : Cutter → Fitter → Shape → Shape → Type 0
SuitsGathering cutter Unfitted up down = Unit {0}
SuitsGathering cutter Selects up down = Unit {0}
SuitsGathering cutter Splits up down = Unit {0}
SuitsGathering cutter (Gathers many) up down = SuitsTouches cutter many up down

abbrev pub SuitsDropper : Bool → Target → Shape → Shape → Type 0
SuitsDropper true target up down = IsDropPlan target up down
SuitsDropper false target up down = SuitsWire up down

pub record SuitsRow (target : Target) (plan : RowPlan) : Type 0 where
  pub cutter : SuitsCutter plan.cutter plan.top plan.middle
  pub fitter : SuitsFitter plan.fitter target plan.middle plan.low
  pub gathering : SuitsGathering plan.cutter plan.fitter plan.top plan.middle
  pub dropper : SuitsDropper plan.drops target plan.low plan.bottom
  pub room : 1 < plan.room
