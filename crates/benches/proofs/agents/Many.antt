-- Steps of the loops over agents.
use Rattle.std.proofs.Common.{◌≡◌, inl, inr, ◌⊎◌, ℕ, zero, suc, ◌+◌, ◌<◌, List, [], ◌∷◌, ◌++◌, length, length-append, take, drop, get_or, slice_get, flat_map, Some, None, refl, sym, ap, subst, ◌∙◌, add-one, drop-cons}
use Rattle.std.proofs.lemmas.List.{take_more, append-nil}
use Rattle.std.proofs.lemmas.List.Concat.{flat_map-append}
use Rattle.av_base.specs.Word.{Word}
use Rattle.port_rows.specs.Levels.{Level, set_levels, AllFit}
use Rattle.system_tables.specs.Tables.{SystemTable}
use Rattle.scenario_tables.specs.declared.statements.AgentStatement.{AgentStatement}
use Rattle.benches.specs.Agents.{BenchAgentValue, IsFirstAgent}

-- ---- what is set in a row

abbrev pub InTwo : Type 0
InTwo = (row : List Word) (one other : List Level) → set_levels row (one ++ other) ≡ set_levels (set_levels row one) other

abbrev pub FirstFits : Type 0
FirstFits = (row : List Word) (one other : List Level) → AllFit row (one ++ other) → AllFit row one

abbrev pub SecondFits : Type 0
SecondFits = (row : List Word) (one other : List Level) → AllFit row (one ++ other) → AllFit (set_levels row one) other

-- what those from a place on set
the_rest : {X : Type 0} (sets : X → List Level) (xs : List X) (i : ℕ) (x : X) → x ≡ get_or xs i x → i < length xs → flat_map sets (drop i xs) ≡ sets x ++ flat_map sets (drop (i + 1) xs)
the_rest {X} sets xs i x at inside =
    let front : flat_map sets (drop i xs) ≡ sets (get_or xs i x) ++ flat_map sets (drop (i + 1) xs) = rw add-one (ap (flat_map sets) (drop-cons xs i x inside)) in
    front ∙ ap (λ (y : X). sets y ++ flat_map sets (drop (i + 1) xs)) (sym at)

-- what those up to a place set, and one more
one_more : {X : Type 0} (sets : X → List Level) (xs : List X) (i : ℕ) (x : X) → x ≡ get_or xs i x → i < length xs → flat_map sets (take (i + 1) xs) ≡ flat_map sets (take i xs) ++ sets x
one_more {X} sets xs i x at inside =
    ap (flat_map sets) (take_more xs i x inside) ∙ flat_map-append sets (take i xs) (get_or xs i x ∷ [])
    ∙ ap (λ (levels : List Level). flat_map sets (take i xs) ++ levels) (append-nil (sets (get_or xs i x)))
    ∙ ap (λ (y : X). flat_map sets (take i xs) ++ sets y) (sym at)

pub next_has_room : {X : Type 0} (sets : X → List Level) → FirstFits → (row : List Word) (xs : List X) (i : ℕ) (x : X) → x ≡ get_or xs i x → i < length xs → AllFit row (flat_map sets (drop i xs)) → AllFit row (sets x)
next_has_room {X} sets law row xs i x at inside fits = law row (sets x) (flat_map sets (drop (i + 1) xs)) (subst (AllFit row) (the_rest sets xs i x at inside) fits)

pub one_more_set : {X : Type 0} (sets : X → List Level) → InTwo → (start row new : List Word) (xs : List X) (i : ℕ) (x : X) → x ≡ get_or xs i x → i < length xs
    → row ≡ set_levels start (flat_map sets (take i xs)) → new ≡ set_levels row (sets x) → new ≡ set_levels start (flat_map sets (take (i + 1) xs))
one_more_set {X} sets law start row new xs i x at inside so_far is =
    is ∙ ap (λ (values : List Word). set_levels values (sets x)) so_far ∙ sym (law start (flat_map sets (take i xs)) (sets x)) ∙ ap (set_levels start) (sym (one_more sets xs i x at inside))

pub others_have_room : {X : Type 0} (sets : X → List Level) → SecondFits → (row new : List Word) (xs : List X) (i : ℕ) (x : X) → x ≡ get_or xs i x → i < length xs
    → AllFit row (flat_map sets (drop i xs)) → new ≡ set_levels row (sets x) → AllFit new (flat_map sets (drop (i + 1) xs))
others_have_room {X} sets law row new xs i x at inside fits is =
    subst (λ (values : List Word). AllFit values (flat_map sets (drop (i + 1) xs))) (sym is)
    (law row (sets x) (flat_map sets (drop (i + 1) xs)) (subst (AllFit row) (the_rest sets xs i x at inside) fits))

-- ---- one more agent

-- an element of a list with one more is one of the list, or the last
at_end : {X : Type 0} (xs : List X) (y x : X) (k : ℕ) → slice_get (xs ++ y ∷ []) k ≡ Some x → (slice_get xs k ≡ Some x) ⊎ ((k ≡ length xs) × (y ≡ x))
at_end [] y x zero e = inr (refl, cc)
at_end [] y x (suc k) e = absurd (let none : None ≡ Some x = e in cc)
at_end (z ∷ xs) y x zero e = inl e
at_end (z ∷ xs) y x (suc k) e = elim (at_end xs y x k e) [ inl there ↦ inl there | inr last ↦ inr (ap suc last.0, last.1) ]

-- the first agents of a system
abbrev pub AreFirst : SystemTable → List (List AgentStatement) → ℕ → List BenchAgentValue → Type 0
AreFirst system scripts cycles agents = (a : ℕ) (agent : BenchAgentValue) (script : List AgentStatement) → slice_get agents a ≡ Some agent → slice_get scripts a ≡ Some script → IsFirstAgent system a script cycles agent

one_more_first : (system : SystemTable) (scripts : List (List AgentStatement)) (cycles : ℕ) (agents : List BenchAgentValue) (next : BenchAgentValue) (script : List AgentStatement) → AreFirst system scripts cycles agents
    → slice_get scripts (length agents) ≡ Some script → IsFirstAgent system (length agents) script cycles next → AreFirst system scripts cycles (agents ++ next ∷ [])
one_more_first system scripts cycles agents next script first its is a agent other at of =
    elim (at_end agents next agent a at) [
      | inl there ↦ first a agent other there of
      | inr last ↦ (let same : script ≡ other = (let one : slice_get scripts a ≡ Some script = ap (slice_get scripts) last.0 ∙ its in cc) in
          subst (λ (k : ℕ). IsFirstAgent system k other cycles agent) (sym last.0)
          (subst (λ (s : List AgentStatement). IsFirstAgent system (length agents) s cycles agent) same (subst (IsFirstAgent system (length agents) script cycles) last.1 is)))
    ]

pub next_first : (system : SystemTable) (scripts : List (List AgentStatement)) (cycles number : ℕ) (agents after : List BenchAgentValue) (next : BenchAgentValue) (script : List AgentStatement) → length agents ≡ number
    → AreFirst system scripts cycles agents → after ≡ agents ++ next ∷ [] → slice_get scripts number ≡ Some script → IsFirstAgent system number script cycles next
    → (length after ≡ number + 1) × AreFirst system scripts cycles after
next_first system scripts cycles number agents after next script count first more its is = (
  ap length more ∙ length-append agents (next ∷ []) ∙ ap (λ (n : ℕ). n + 1) count,
  subst (AreFirst system scripts cycles) (sym more)
      (one_more_first system scripts cycles agents next script first (ap (slice_get scripts) count ∙ its) (subst (λ (k : ℕ). IsFirstAgent system k script cycles next) (sym count) is)),
)
