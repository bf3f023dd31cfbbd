-- The arbiter machine keeps its line.
use Rattle.std.proofs.Common.{ℕ, zero, suc, ◌<◌, ◌≤◌, ◌≡◌, ◌-◌, [], ◌∷◌, ◌++◌, List, Bool, true, false, not, ◌&&◌, ◌||◌, IsTrue, nat_eq, arith, refl, sym, ap, ap₂, ◌∙◌, subst, length, flat_map, zip, le_of_eq}
use Rattle.std.specs.List.{list_all}
use Rattle.std.proofs.lemmas.Bool.{and_parts}
use Rattle.std.proofs.lemmas.List.Folds.{list_all-append}
use Rattle.histories.specs.History.{IsPrefix, only_if, is_raised, is_first, stands_on, total}
use Rattle.histories.specs.Laws.{prefix_refl, prefix_map, prefix_filter}
use Rattle.memory_runs.specs.Views.{Shape, System, Responses}
use Rattle.memory_runs.specs.Operations.{Beat}
use Rattle.memory_runs.specs.Commands.{shows, words_before}
use Rattle.memory_runs.specs.Legal.{Word}
use Rattle.memory_runs.specs.Order.{is_joined}
use Rattle.memory_machines.specs.Link.{Port, Marked, Target, takes, marked_at, taken_at, shown_at, read_beats, words_at, words_owed, answers_at, bytes_in, beat_operations, is_nonempty}
use Rattle.memory_machines.specs.Lines.{TaggedPort, Group, Carries, HasLanes, target_of, port_flow, tagged_flow, group_of, groups_of, with_tag, sizes_of, words_with, answers_with, AreOwedByTag, items_among, bytes_of}
use Rattle.memory_machines.specs.Blocks.{codes_of}
use Rattle.memory_machines.specs.Machines.{Raw}
use Rattle.memory_machines.specs.Turns.{Grant, seats_of}
use Rattle.histories.specs.Turns.{Seat}
use Rattle.memory_machines.specs.SideLaws.{all_reached, same_counts}
use Rattle.memory_machines.specs.SideLaws.{prefix_items}
use Rattle.memory_machines.specs.SideLaws.{prefix_within, total_front}
use Rattle.memory_machines.specs.Lines.{AreFitToAsk, IsArbiterLine, ArbiterCarriesCommands, ArbiterCarriesAnswers, serves_at, ServesKinds}
use Rattle.memory_parts.specs.Arbiter.{IsArbiterMachine}
use Rattle.memory_parts.proofs.Shared.{shown_passes}
use Rattle.memory_parts.proofs.ArbiterTurns.{same_raw}
use Rattle.memory_parts.proofs.ArbiterLine.{Chosen, whom, taken_same, shown_front, legal_below, whole_shown}

first_shows : (shown accepts : ℕ → Bool) (c : ℕ) → is_first shown accepts c ≡ true → shown c ≡ true
first_shows shown accepts zero e = e
first_shows shown accepts (suc c) e = (and_parts (shown (suc c)) (not (stands_on shown accepts c)) e).0

module _ (system : System) (agent : ℕ) (up : ℕ → Port) (down : TaggedPort) (grant : ℕ → Grant) (end : ℕ) (machine : IsArbiterMachine (seats_of system agent) system.hosts up down grant end)
    (joined : (h : ℕ) → IsTrue (is_joined system agent h) → h < system.hosts) (fit : AreFitToAsk system agent up end) where
  abbrev target : Target
  target = target_of system agent

  chosen_at : (c : ℕ) → c < end → shows down.commands.signals c ≡ true → Chosen system agent up down grant end machine joined fit c
  chosen_at = whom system agent up down grant end machine joined fit

  groups_front : (h c : ℕ) → h < system.hosts → c ≤ end → IsPrefix (groups_of target down.shape (with_tag h (shown_at down.port c))) (groups_of target (up h).shape (shown_at (up h) c))
  groups_front h c there low =
      subst (λ s. IsPrefix (groups_of target s (with_tag h (shown_at down.port c))) (groups_of target (up h).shape (shown_at (up h) c))) (machine.shapes h there)
      (prefix_map (group_of target (up h).shape) (shown_front system agent up down grant end machine joined fit h c there low))

  carries : (h : ℕ) → h < system.hosts → Carries h 0 0 1 (port_flow target (up h)) (tagged_flow h target down.port) end
  carries h there = record {
    in_order = λ c low.
        let now : c ≡ c - 0 = omega arith in
        subst (λ k. IsPrefix (items_among false (groups_of target down.shape (with_tag h (shown_at down.port c)))) (items_among false (groups_of target (up h).shape (shown_at (up h) k)))) now (prefix_items false (groups_front h c there low));
    beats = λ c low. (let few = total_front (prefix_map (λ (g : Group). g.beats) (prefix_filter (λ (g : Group). nat_eq g.tag h) (groups_front h c there low))) in omega (arith, few));
    held = λ c low.
        let same : sizes_of (groups_of target (up h).shape (taken_at (up h) c)) ≡ sizes_of (groups_of target down.shape (with_tag h (taken_at down.port c))) =
        ap₂ (λ s l. sizes_of (groups_of target s l)) (machine.shapes h there) (sym (taken_same system agent up down grant end machine joined fit h c there low)) in
        le_of_eq (all_reached (sizes_of (groups_of target (up h).shape (taken_at (up h) c))) (total (sizes_of (groups_of target down.shape (with_tag h (taken_at down.port c))))) (le_of_eq (ap total same)));
    within = λ c low. prefix_within (prefix_map (λ (g : Group). length g.operations) (groups_front h c there low));
  }

  abbrev acts : Shape → Marked → Bool
  acts shape machine = list_all (λ (b : Beat). is_nonempty (beat_operations target shape b)) machine.transfer.beats

  lanes_below : target.shape.has_enables ≡ false → (c : ℕ) → c ≤ end → list_all (acts down.shape) (shown_at down.port c) ≡ true
  lanes_below none zero low = refl
  lanes_below none (suc c) low =
      list_all-append (acts down.shape) (shown_at down.port c) (only_if (is_first (shows down.commands.signals) (takes down.port) c) (marked_at down.port c))
      ∙ ap₂ (λ a b. a && b) (lanes_below none c (omega arith)) (by_first (is_first (shows down.commands.signals) (takes down.port) c) refl)
    where
      by_first : (b : Bool) → is_first (shows down.commands.signals) (takes down.port) c ≡ b → list_all (acts down.shape) (only_if (is_first (shows down.commands.signals) (takes down.port) c) (marked_at down.port c)) ≡ true
      by_first false is = ap (λ b. list_all (acts down.shape) (only_if b (marked_at down.port c))) is
      by_first true is =
          let w = chosen_at c low (first_shows (shows down.commands.signals) (takes down.port) c is) in
          let all : list_all (acts (up w.host).shape) (shown_at (up w.host) (suc c)) ≡ true = ap (λ b. b || list_all (acts (up w.host).shape) (shown_at (up w.host) (suc c))) (sym none) ∙ (fit w.host w.there).lanes (suc c) low in
          let passes = shown_passes (acts (up w.host).shape) (up w.host) end c (fit w.host w.there).legal low all w.asks in
          ap (λ b. list_all (acts down.shape) (only_if b (marked_at down.port c))) is ∙ ap (λ b. b && true) (ap₂ acts (sym (machine.shapes w.host w.there)) w.same ∙ passes)

  lanes : HasLanes target down.port end
  lanes c low = by_has target.shape.has_enables refl
    where
      by_has : (b : Bool) → target.shape.has_enables ≡ b → IsTrue (target.shape.has_enables || list_all (acts down.shape) (shown_at down.port c))
      by_has true has = rw has refl
      by_has false has = rw has (lanes_below has c low)

  kinds : ServesKinds (system.agent agent) down.port end
  kinds c low = by_shown (shows down.commands.signals c) refl
    where
      quiet : (r w a b : Bool) → (r || w) ≡ false → ((not r || a) && (not w || b)) ≡ true
      quiet false false a b e = refl
      quiet true w a b e = cc
      quiet false true a b e = cc

      by_shown : (b : Bool) → shows down.commands.signals c ≡ b → IsTrue (serves_at (system.agent agent) down.port c)
      by_shown false is = quiet (is_raised (down.commands.read c)) (is_raised (down.commands.write c)) (system.agent agent).has_read (system.agent agent).has_write is
      by_shown true is =
          let w = chosen_at c low is in
          ap (λ (r : Raw). (not (is_raised r.levels.read) || (system.agent agent).has_read) && (not (is_raised r.levels.write) || (system.agent agent).has_write)) (same_raw system agent up down grant end machine joined fit c w.host low w.is)
          ∙ (fit w.host w.there).kinds c low

  pub carries_commands : ArbiterCarriesCommands system agent 0 up down end
  carries_commands = record {
    carries = carries;
    whole = whole_shown system agent up down grant end machine joined fit;
    fit = record {
      legal = legal_below system agent up down grant end machine joined fit;
      lanes = lanes;
      tags = λ c low shown. (let w = chosen_at c low shown in subst (λ t. IsTrue (is_joined system agent t)) (sym w.tag) ((fit w.host w.there).joined c low w.asks));
      kinds = kinds;
    };
  }

  -- ---- the answers

  same_words : (h c : ℕ) → h < system.hosts → c ≤ end → words_at (up h) c ≡ words_with h down c
  same_words h zero there low = refl
  same_words h (suc c) there low = ap₂ (λ x y. x ++ y) (same_words h c there (omega arith)) (by_valid (is_raised ((up h).answers.valid c)) refl)
    where
      above : Word
      above = record { word = (up h).answers.word c; code = (up h).answers.code c }

      below : Word
      below = record { word = down.answers.word c; code = down.answers.code c }

      below_is : (b : Bool) → is_raised ((up h).answers.valid c) ≡ b → only_if (is_raised (down.answers.valid c) && nat_eq (down.answer_tag c) h) below ≡ only_if b below
      below_is b e = ap (λ b. only_if b below) (sym (machine.valid h c there low) ∙ e)

      by_valid : (b : Bool) → is_raised ((up h).answers.valid c) ≡ b → only_if (is_raised ((up h).answers.valid c)) above ≡ only_if (is_raised (down.answers.valid c) && nat_eq (down.answer_tag c) h) below
      by_valid true e =
          ap (λ b. only_if b above) e ∙ ap₂ (λ w k. record { word = w; code = k } ∷ []) (machine.word h c there low e) (machine.code h c there low e) ∙ sym (below_is true e)
      by_valid false e = ap (λ b. only_if b above) e ∙ sym (below_is false e)

  same_answers : (h c : ℕ) → h < system.hosts → c ≤ end → answers_at target (up h) c ≡ answers_with h target down c
  same_answers h c there low =
      ap (λ s. flat_map (λ (p : Beat × Word). bytes_in target s p.0 p.1) (zip (read_beats (taken_at (up h) c)) (words_at (up h) c))) (machine.shapes h there)
      ∙ ap₂ (λ bs ws. flat_map (λ (p : Beat × Word). bytes_in target down.shape p.0 p.1) (zip (read_beats bs) ws)) (sym (taken_same system agent up down grant end machine joined fit h c there low)) (same_words h c there low)

  pub carries_answers : (responses : Responses) → AreOwedByTag system down end → ArbiterCarriesAnswers responses system agent up down end
  carries_answers responses owed = record {
    bytes = λ h c there low. subst (λ l. IsPrefix (bytes_of (answers_at target (up h) c)) (bytes_of l)) (same_answers h c there low) (prefix_refl _);
    codes = λ are h c there low. subst (λ l. IsPrefix (codes_of (answers_at target (up h) c)) (codes_of l)) (same_answers h c there low) (prefix_refl _);
    owed = λ h there c low.
        let few = owed h c there low in
        let asked : length (read_beats (with_tag h (taken_at down.port c))) ≡ words_owed (up h) c = ap (λ l. length (read_beats l)) (taken_same system agent up down grant end machine joined fit h c there (omega arith)) in
        let words : words_before (up h).answers.valid (suc c) ≡ length (words_with h down (suc c)) =
        same_counts (λ c. is_raised ((up h).answers.valid c)) (λ c. c) (λ c. record { word = (up h).answers.word c; code = (up h).answers.code c }) (suc c) ∙ ap length (same_words h (suc c) there low) in
        omega (arith, few, asked, words);
  }

arbiter_shorter : (seats : List Seat) (hosts : ℕ) (up : ℕ → Port) (down : TaggedPort) (grant : ℕ → Grant) (end c : ℕ) → c ≤ end → IsArbiterMachine seats hosts up down grant end → IsArbiterMachine seats hosts up down grant c
arbiter_shorter seats hosts up down grant end c low m = record {
  shapes = m.shapes;
  begins = m.begins;
  next = λ k less. m.next k (omega arith);
  shown = λ k less. m.shown k (omega arith);
  wait = λ h k there less asks. m.wait h k there (omega arith) asks;
  valid = λ h k there less. m.valid h k there (omega arith);
  word = λ h k there less valid. m.word h k there (omega arith) valid;
  code = λ h k there less valid. m.code h k there (omega arith) valid;
}

pub arbiter_line : (responses : Responses) (system : System) (agent : ℕ) (up : ℕ → Port) (down : TaggedPort) (grant : ℕ → Grant) (end : ℕ) → ((h : ℕ) → IsTrue (is_joined system agent h) → h < system.hosts) →
    IsArbiterMachine (seats_of system agent) system.hosts up down grant end → IsArbiterLine responses system agent 0 up down end
arbiter_line responses system agent up down grant end joined machine = record {
  commands = λ c low fit owed. carries_commands system agent up down grant c (arbiter_shorter (seats_of system agent) system.hosts up down grant end c low machine) joined fit;
  answers = λ c low fit owed. carries_answers system agent up down grant c (arbiter_shorter (seats_of system agent) system.hosts up down grant end c low machine) joined fit responses owed;
}
