-- The beats that an agent takes have the operations of those that are taken above its part, beat by beat.
use Rattle.std.proofs.Common.{ℕ, zero, suc, ◌<◌, ◌≤◌, ◌≡◌, ◌+◌, ◌*◌, ◌/◌, ◌%◌, ◌^◌, ◌-◌, Bool, true, false, not, ◌&&◌, ◌||◌, List, [], ◌∷◌, ◌++◌, if◌then◌else◌, arith, refl, sym, ap, ap₂, subst, ◌∙◌, length, map, filter, flat_map, nat_eq, nat_lt, append-nil}
use Rattle.std.specs.List.{list_any, list_all}
use Rattle.std.proofs.lemmas.Bool.{and_parts}
use Rattle.std.proofs.lemmas.List.{length-map, map-append}
use Rattle.std.proofs.lemmas.List.Elements.{filter-append}
use Rattle.std.proofs.lemmas.List.Folds.{list_all-append}
use Rattle.std.proofs.lemmas.Grind.{flat_map-append}
use Rattle.std.proofs.Math.Nat.{two-pow-succ, div-div-eq-div-mul}
use Rattle.histories.specs.History.{before, is_raised, numbers, only_if}
use Rattle.memory_runs.specs.Views.{System, Run, Shape, AgentSide, AgentView, Levels, levels_at}
use Rattle.memory_runs.specs.Operations.{Beat, filled_lanes, is_enabled, own_operations}
use Rattle.memory_runs.specs.Commands.{Burst, Transfer, agent_accepts, burst_before, shows, transfer_at, transfer_of}
use Rattle.memory_runs.specs.Order.{TaggedBeat, beats_taken, beats_taken_in, operations_at}
use Rattle.memory_machines.specs.Link.{Marked, Target, takes, marked_at, taken_at, shown_at, beat_operations, is_nonempty}
use Rattle.memory_machines.specs.Lines.{TaggedPort, IsFit, target_of, with_tag}
use Rattle.memory_machines.specs.SideLaws.{fit_when_shown, taken_is_shown}
use Rattle.memory_links.specs.Packs.{beat_sizes, acting}
use Rattle.memory_parts.specs.Agent.{AgentState, IsAgentPlan, ShowsToAgent}
use Rattle.memory_awake.proofs.packed.Sizes.{read_begins, each_of, counted_of, lanes_of, sizes_now, transfer_sizes, same_acting, filled_are}

-- ---- lanes

keeps_all : (f : ℕ → Bool) (first count : ℕ) → ((lane : ℕ) → lane < first + count → f lane ≡ true) → filter f (numbers first count) ≡ numbers first count
keeps_all f first zero all = refl
keeps_all f first (suc count) all = let here = all first (omega arith) in rw here (ap (λ l. first ∷ l) (keeps_all f (suc first) count (λ lane low. all lane (omega arith))))

twice_is : (n : ℕ) → n + n ≡ 2 * n
twice_is n = omega arith

-- all lanes are set in a value of all ones
all_set : (n ones lane : ℕ) → ones + 1 ≡ 2 ^ n → lane < n → is_enabled ones lane ≡ true
all_set zero ones lane e low = absurd (omega arith)
all_set (suc n) ones zero e low =
    let twice = two-pow-succ n in
    let odd : (ones / 2 ^ 0) % 2 ≡ 1 = omega (arith, twice, e) in
    ap (λ k. nat_eq k 1) odd
all_set (suc n) ones (suc lane) e low =
    let twice = two-pow-succ n in
    let half : ones / 2 + 1 ≡ 2 ^ n = omega (arith, twice, e) in
    let power = two-pow-succ lane in
    let step : ones / 2 ^ suc lane ≡ (ones / 2) / 2 ^ lane = ap (λ d. ones / d) (power ∙ twice_is (2 ^ lane)) ∙ sym (div-div-eq-div-mul ones 2 (2 ^ lane)) in
    ap (λ k. nat_eq (k % 2) 1) step ∙ all_set n (ones / 2) lane half (omega arith)

-- ---- lists by tag

by_tag : (host tag : ℕ) (f : Beat → ℕ) (beats : List Beat) →
    map (λ (b : TaggedBeat). f b.beat) (filter (λ (b : TaggedBeat). nat_eq b.tag host) (map (λ (b : Beat). record { tag = tag; beat = b }) beats)) ≡ (if nat_eq tag host then map f beats else [])
by_tag host tag f beats = by_test (nat_eq tag host) refl beats
  where
    by_test : (b : Bool) → nat_eq tag host ≡ b → (beats : List Beat) →
        map (λ (b : TaggedBeat). f b.beat) (filter (λ (b : TaggedBeat). nat_eq b.tag host) (map (λ (b : Beat). record { tag = tag; beat = b }) beats)) ≡ (if nat_eq tag host then map f beats else [])
    by_test true e [] = rw e refl
    by_test false e [] = rw e refl
    by_test true e (x ∷ beats) = let rest = by_test true e beats in rw e (ap (λ l. f x ∷ l) (rest ∙ ap (λ b. if b then map f beats else []) e))
    by_test false e (x ∷ beats) = let rest = by_test false e beats in rw e (rest ∙ ap (λ b. if b then map f beats else []) e)

-- ---- one cycle

-- a test that all of a list pass, one by one
last_passes : {A : Type 0} (f : A → Bool) (xs rest whole : List A) (x : A) → (xs ++ x ∷ []) ++ rest ≡ whole → list_all f whole ≡ true → f x ≡ true
last_passes f xs rest whole x joins all =
    let one = subst (λ l. list_all f l ≡ true) (sym joins) all in
    let front = (and_parts (list_all f (xs ++ x ∷ [])) (list_all f rest) (sym (list_all-append f (xs ++ x ∷ []) rest) ∙ one)).0 in
    let back = (and_parts (list_all f xs) (list_all f (x ∷ [])) (sym (list_all-append f xs (x ∷ [])) ∙ front)).1 in
    (and_parts (f x) true back).0

none_in : {A : Type 0} (xs : List A) → length xs ≡ 0 → is_nonempty xs ≡ true → ⊥
none_in [] e some = cc
none_in (x ∷ xs) e some = omega (arith, e)

abbrev first_number : List ℕ → ℕ
first_number [] = 0
first_number (n ∷ ns) = n

-- where each beat has an operation the first one isn't without
no_first : (target : Target) (shape : Shape) (beats : List Beat) (ns : List ℕ) → map (λ (b : Beat). length (beat_operations target shape b)) beats ≡ 0 ∷ ns →
    list_all (λ (b : Beat). is_nonempty (beat_operations target shape b)) beats ≡ true → ⊥
no_first target shape [] ns e all = cc
no_first target shape (b ∷ beats) ns e all = none_in (beat_operations target shape b) (ap first_number e) (and_parts (is_nonempty (beat_operations target shape b)) _ all).0

-- where no lane of a cycle has an operation and each beat has one, there is no beat
unlaned : (target : Target) (shape own : Shape) (levels : Levels) (burst : Burst) → lanes_of target shape levels.enables ≡ 0 →
    list_all (λ (b : Beat). is_nonempty (beat_operations target shape b)) (transfer_of own levels burst).beats ≡ true → (n : ℕ) → each_of levels n ≡ []
unlaned target shape own levels burst none all n = by_write (is_raised levels.write) (transfer_sizes target shape own levels burst ∙ ap (each_of levels) none)
  where
    by_count : (k : ℕ) → map (λ (b : Beat). length (beat_operations target shape b)) (transfer_of own levels burst).beats ≡ map (λ _. 0) (numbers 0 k) → map (λ _. n) (numbers 0 k) ≡ []
    by_count zero e = refl
    by_count (suc k) e = absurd (no_first target shape (transfer_of own levels burst).beats (map (λ _. 0) (numbers 1 k)) e all)

    by_write : (w : Bool) → map (λ (b : Beat). length (beat_operations target shape b)) (transfer_of own levels burst).beats ≡ (if w then 0 ∷ [] else map (λ _. 0) (numbers 0 levels.count)) →
        (if w then n ∷ [] else map (λ _. n) (numbers 0 levels.count)) ≡ []
    by_write true e = absurd (no_first target shape (transfer_of own levels burst).beats [] e all)
    by_write false e = by_count levels.count e

same_each : (one other : Levels) (n : ℕ) → is_raised one.write ≡ is_raised other.write → (is_raised other.write ≡ false → one.count ≡ other.count) → each_of one n ≡ each_of other n
same_each one other n writes counts = ap (λ w. if w then n ∷ [] else map (λ _. n) (numbers 0 one.count)) writes ∙ by_write (is_raised other.write) counts
  where
    by_write : (w : Bool) → (w ≡ false → one.count ≡ other.count) → (if w then n ∷ [] else map (λ _. n) (numbers 0 one.count)) ≡ (if w then n ∷ [] else map (λ _. n) (numbers 0 other.count))
    by_write true e = refl
    by_write false e = ap (λ k. map (λ _. n) (numbers 0 k)) (e refl)

writes_none : (r w hr hw : Bool) → hw ≡ false → ((not r || hr) && (not w || hw)) ≡ true → w ≡ false
writes_none r false hr hw e k = refl
writes_none r true hr true e k = e
writes_none true true true false e k = sym k
writes_none true true false false e k = sym k
writes_none false true hr false e k = sym k

module _ (system : System) (run : Run) (agent host : ℕ) (up : TaggedPort) (state : AgentState) (end : ℕ) (machine : ShowsToAgent (system.agent agent) (run.at_agent agent) up state end)
    (plan : IsAgentPlan (system.agent agent)) (fit : IsFit system agent up.port end) (accepted : (c : ℕ) → c < end → takes up.port c ≡ agent_accepts (system.agent agent) (run.at_agent agent) c) where
  abbrev side : AgentSide
  side = system.agent agent

  abbrev view : AgentView
  view = run.at_agent agent

  abbrev target : Target
  target = target_of system agent

  -- ---- at the agent

  abbrev own_lanes : ℕ → ℕ
  own_lanes enables = length (filter (is_enabled enables) (numbers 0 side.word_bytes))

  abbrev own_size : TaggedBeat → ℕ
  own_size b = length (operations_at system agent b)

  abbrev size : Beat → ℕ
  size b = length (own_operations side.shape side.span b)

  abbrev own_sizes_at : ℕ → List ℕ
  own_sizes_at c = if agent_accepts side view c then (if nat_eq (view.grant c) host then each_of (levels_at view.signals c) (own_lanes (view.enables c)) else []) else []

  own_is : (b : Beat) (enables : ℕ) → b.enables ≡ enables → size b ≡ own_lanes enables
  own_is b enables e = length-map (filter (is_enabled b.enables) (numbers 0 side.word_bytes)) _ ∙ ap own_lanes e

  own_of_tagged : (bs : List TaggedBeat) → map own_size bs ≡ map (λ (b : TaggedBeat). size b.beat) bs
  own_of_tagged [] = refl
  own_of_tagged (b ∷ bs) = ap₂ (λ n l. n ∷ l) (length-map (own_operations side.shape side.span b.beat) _) (own_of_tagged bs)

  own_taken : (c : ℕ) → map own_size (filter (λ (b : TaggedBeat). nat_eq b.tag host) (beats_taken system run agent c)) ≡ before own_sizes_at c
  own_taken zero = refl
  own_taken (suc c) =
      ap (map own_size) (filter-append (λ (b : TaggedBeat). nat_eq b.tag host) (beats_taken system run agent c) (beats_taken_in system run agent c))
      ∙ map-append own_size (filter (λ (b : TaggedBeat). nat_eq b.tag host) (beats_taken system run agent c)) (filter (λ (b : TaggedBeat). nat_eq b.tag host) (beats_taken_in system run agent c))
      ∙ ap₂ (λ x y. x ++ y) (own_taken c) (by_accept (agent_accepts side view c))
    where
      by_accept : (a : Bool) → map own_size (filter (λ (b : TaggedBeat). nat_eq b.tag host) (map (λ (b : Beat). record { tag = view.grant c; beat = b }) (flat_map (λ (t : Transfer). t.beats) (only_if a (transfer_at side.shape view.signals (agent_accepts side view) c)))))
          ≡ (if a then (if nat_eq (view.grant c) host then each_of (levels_at view.signals c) (own_lanes (view.enables c)) else []) else [])
      by_accept false = refl
      by_accept true =
          own_of_tagged (filter (λ (b : TaggedBeat). nat_eq b.tag host) (map (λ (b : Beat). record { tag = view.grant c; beat = b }) ((transfer_at side.shape view.signals (agent_accepts side view) c).beats ++ [])))
          ∙ ap (λ l. map (λ (b : TaggedBeat). size b.beat) (filter (λ (b : TaggedBeat). nat_eq b.tag host) (map (λ (b : Beat). record { tag = view.grant c; beat = b }) l))) (append-nil (transfer_at side.shape view.signals (agent_accepts side view) c).beats)
          ∙ by_tag host (view.grant c) size (transfer_at side.shape view.signals (agent_accepts side view) c).beats
          ∙ ap (λ l. if nat_eq (view.grant c) host then l else [])
          (counted_of size side.shape (levels_at view.signals c) (burst_before side.shape view.signals (agent_accepts side view) c) (own_lanes (view.enables c)) (λ b e. own_is b (view.enables c) e))

  -- ---- above its part

  abbrev above_at : ℕ → List ℕ
  above_at c = if takes up.port c then (if nat_eq (up.commands.tag c) host then sizes_now target up.shape (levels_at up.commands.signals c) else []) else []

  above_taken : (c : ℕ) → flat_map (beat_sizes target up.shape) (with_tag host (taken_at up.port c)) ≡ before above_at c
  above_taken zero = refl
  above_taken (suc c) =
      ap (flat_map (beat_sizes target up.shape)) (filter-append (λ (m : Marked). nat_eq m.tag host) (taken_at up.port c) (only_if (takes up.port c) (marked_at up.port c)))
      ∙ flat_map-append (beat_sizes target up.shape) (with_tag host (taken_at up.port c)) (with_tag host (only_if (takes up.port c) (marked_at up.port c)))
      ∙ ap₂ (λ x y. x ++ y) (above_taken c) (by_take (takes up.port c))
    where
      by_test : (b : Bool) → flat_map (beat_sizes target up.shape) (if b then marked_at up.port c ∷ [] else []) ≡ (if b then sizes_now target up.shape (levels_at up.commands.signals c) else [])
      by_test true = append-nil (beat_sizes target up.shape (marked_at up.port c)) ∙ transfer_sizes target up.shape up.shape (levels_at up.commands.signals c) (burst_before up.shape up.commands.signals (takes up.port) c)
      by_test false = refl

      by_take : (t : Bool) → flat_map (beat_sizes target up.shape) (with_tag host (only_if t (marked_at up.port c))) ≡ (if t then (if nat_eq (up.commands.tag c) host then sizes_now target up.shape (levels_at up.commands.signals c) else []) else [])
      by_take true = by_test (nat_eq (up.commands.tag c) host)
      by_take false = refl

  -- ---- the same in each cycle

  writes_are : (c : ℕ) → c < end → is_raised (view.write c) ≡ is_raised (up.commands.write c)
  writes_are c low = by_has side.has_write refl
    where
      by_has : (b : Bool) → side.has_write ≡ b → is_raised (view.write c) ≡ is_raised (up.commands.write c)
      by_has true has = ap is_raised (machine.write c low has)
      by_has false has = ap is_raised (machine.no_write c low has) ∙ sym (writes_none (is_raised (up.commands.read c)) (is_raised (up.commands.write c)) side.has_read side.has_write has (fit.kinds c low))

  -- where a read is taken its count is right
  counts_are : (c : ℕ) → c < end → takes up.port c ≡ true → is_raised (up.commands.write c) ≡ false → view.count c ≡ up.commands.count c
  counts_are c low taken reads = machine.count c low ∙ by_has side.has_burst refl
    where
      shown : shows up.commands.signals c ≡ true
      shown = (and_parts (shows up.commands.signals c) _ taken).0

      begins : nat_lt 0 (burst_before up.shape up.commands.signals (takes up.port) c).left ≡ false
      begins = read_begins up.port end c fit.legal low taken reads

      by_has : (b : Bool) → side.has_burst ≡ b → (if side.has_burst then up.commands.count c else 1) ≡ up.commands.count c
      by_has true has = rw has refl
      by_has false has =
          let beat = fit_when_shown up.port end c fit.legal low shown in
          let least = beat.least begins in
          let bits : up.shape.burst_bits ≡ 1 = machine.bursts ∙ machine.plain has in
          let most : up.commands.count c ≤ 2 ^ (1 - 1) = subst (λ b. up.commands.count c ≤ 2 ^ (b - 1)) bits (beat.most begins) in
          rw has (omega (arith, least, most))

  abbrev levels : ℕ → Levels
  levels c = levels_at up.commands.signals c

  abbrev lanes : ℕ → ℕ
  lanes c = lanes_of target up.shape (up.commands.enables c)

  -- a beat that is taken has an operation, before an agent without byte enables
  acts_all : (c : ℕ) → c < end → takes up.port c ≡ true → side.has_enables ≡ false → list_all (λ (b : Beat). is_nonempty (beat_operations target up.shape b)) (marked_at up.port c).transfer.beats ≡ true
  acts_all c low taken has =
      let front = taken_is_shown up.port end (suc c) fit.legal low in
      let all : list_all (λ (m : Marked). list_all (λ (b : Beat). is_nonempty (beat_operations target up.shape b)) m.transfer.beats) (shown_at up.port (suc c)) ≡ true =
      ap (λ b. b || list_all (λ (m : Marked). list_all (λ (b : Beat). is_nonempty (beat_operations target up.shape b)) m.transfer.beats) (shown_at up.port (suc c))) (sym has) ∙ fit.lanes (suc c) low in
      let joins : (taken_at up.port c ++ marked_at up.port c ∷ []) ++ front.rest ≡ shown_at up.port (suc c) = ap (λ b. (taken_at up.port c ++ only_if b (marked_at up.port c)) ++ front.rest) (sym taken) ∙ front.joins in
      last_passes (λ (m : Marked). list_all (λ (b : Beat). is_nonempty (beat_operations target up.shape b)) m.transfer.beats) (taken_at up.port c) front.rest (shown_at up.port (suc c)) (marked_at up.port c) joins all

  lanes_are : (c : ℕ) → c < end → takes up.port c ≡ true → each_of (levels c) (own_lanes (view.enables c)) ≡ each_of (levels c) (lanes c)
  lanes_are c low taken = by_has side.has_enables refl
    where
      filled : (h : Bool) → side.has_enables ≡ h → filled_lanes up.shape side.shape (up.commands.enables c)
          ≡ (if h then filter (is_enabled (up.commands.enables c)) (numbers 0 side.word_bytes) else if list_any (is_enabled (up.commands.enables c)) (numbers 0 side.word_bytes) then numbers 0 side.word_bytes else [])
      filled h e = filled_are up.shape side.shape (up.commands.enables c) machine.words plan.word
          ∙ ap (λ t. if t then filter (is_enabled (up.commands.enables c)) (numbers 0 side.word_bytes) else if list_any (is_enabled (up.commands.enables c)) (numbers 0 side.word_bytes) then numbers 0 side.word_bytes else []) e

      by_any : side.has_enables ≡ false → (b : Bool) → list_any (is_enabled (up.commands.enables c)) (numbers 0 side.word_bytes) ≡ b → each_of (levels c) (own_lanes (view.enables c)) ≡ each_of (levels c) (lanes c)
      by_any has true e = ap (each_of (levels c)) (
          ap length (keeps_all (is_enabled (view.enables c)) 0 side.word_bytes (λ lane there. all_set side.word_bytes (view.enables c) lane (machine.all_lanes c low has) (omega (arith, there))))
          ∙ ap length (sym (filled false has ∙ ap (λ t. if t then numbers 0 side.word_bytes else []) e)))
      by_any has false e =
          let none : lanes c ≡ 0 = ap length (filled false has ∙ ap (λ t. if t then numbers 0 side.word_bytes else []) e) in
          let nobody = unlaned target up.shape up.shape (levels c) (burst_before up.shape up.commands.signals (takes up.port) c) none (acts_all c low taken has) in
          nobody (own_lanes (view.enables c)) ∙ sym (nobody (lanes c))

      by_has : (h : Bool) → side.has_enables ≡ h → each_of (levels c) (own_lanes (view.enables c)) ≡ each_of (levels c) (lanes c)
      by_has true has = ap (each_of (levels c)) (ap own_lanes (machine.enables c low has) ∙ ap length (sym (filled true has)))
      by_has false has = by_any has (list_any (is_enabled (up.commands.enables c)) (numbers 0 side.word_bytes)) refl

  same_now : (c : ℕ) → c < end → own_sizes_at c ≡ above_at c
  same_now c low =
      ap₂ (λ a t. if a then (if nat_eq t host then each_of (levels_at view.signals c) (own_lanes (view.enables c)) else []) else []) (sym (accepted c low)) (machine.grant c low)
      ∙ by_take (takes up.port c) refl (nat_eq (up.commands.tag c) host)
    where
      by_take : (t : Bool) → takes up.port c ≡ t → (e : Bool) →
          (if t then (if e then each_of (levels_at view.signals c) (own_lanes (view.enables c)) else []) else []) ≡ (if t then (if e then sizes_now target up.shape (levels c) else []) else [])
      by_take true taken true = same_each (levels_at view.signals c) (levels c) (own_lanes (view.enables c)) (writes_are c low) (counts_are c low taken) ∙ lanes_are c low taken
      by_take true taken false = refl
      by_take false taken e = refl

  pub agent_takes : (c : ℕ) → c ≤ end →
      acting (map (λ (b : TaggedBeat). length (operations_at system agent b)) (filter (λ (b : TaggedBeat). nat_eq b.tag host) (beats_taken system run agent c)))
      ≡ acting (flat_map (beat_sizes target up.shape) (with_tag host (taken_at up.port c)))
  agent_takes c h = ap acting (own_taken c) ∙ same_acting own_sizes_at above_at c (λ k low. ap acting (same_now k (omega (arith, low, h)))) ∙ sym (ap acting (above_taken c))
