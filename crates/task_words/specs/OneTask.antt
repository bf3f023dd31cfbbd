-- Words ask for one task. No contract reads a proof of it; the crate above cites it.
use Rattle.std.specs.Prelude.{◌≡◌, ◌≢◌, ℕ, ◌+◌, ◌*◌, ◌⊎◌, ◌==◌, if◌then◌else◌, List, length, codes, get_or}
use Rattle.std.proofs.Common.{refl, sym, ap, subst, ◌∙◌, inl, inr, arith}
use Rattle.std.proofs.lemmas.Fmt.{decimal_injective}
use Rattle.std.proofs.lemmas.Option.{same_Some}
use Rattle.routed_modules.specs.declared.routed.Routed.{Routed}
use Rattle.routed_modules.specs.declared.routed.Routed.TheVariants as routed
use Rattle.task_words.specs.OneModule.{one_module}
use Rattle.task_words.specs.declared.Task.{Task}
use Rattle.task_words.specs.declared.Task.TheVariants.{Generate, Check, Simulate, Replay, Dump, Undump, Campaign, Bridge, Workload, Module}
use Rattle.task_words.specs.Words.{AsksFor, Names, StatesNumber, StatesNumbers, word_of}

-- how long a word is, and its first byte
pub mark : List ℕ → ℕ
mark word = length word * 256 + get_or word 0 0

-- a module, whichever it is
pub some_module : Routed
some_module = routed.Multiplexer 0 0 0

-- a task but for its numbers
pub kind_of : Task → Task
kind_of Generate = Generate
kind_of Check = Check
kind_of Simulate = Simulate
kind_of Replay = Replay
kind_of Dump = Dump
kind_of Undump = Undump
kind_of (Campaign number) = Campaign 0
kind_of (Bridge cycles) = Bridge 0
kind_of (Workload number) = Workload 0
kind_of (Module wanted) = Module some_module

-- the kind of the task whose word has this mark
pub kind_at : ℕ → Task
kind_at at =
    if at == 2151 then Generate
    else if at == 1379 then Check
    else if at == 2163 then Simulate
    else if at == 1650 then Replay
    else if at == 1124 then Dump
    else if at == 1653 then Undump
    else if at == 2147 then Campaign 0
    else if at == 1634 then Bridge 0
    else if at == 2167 then Workload 0
    else Module some_module

kind_is : (task : Task) → kind_at (mark (word_of task)) ≡ kind_of task
unfolding kind_at kind_of mark some_module
kind_is Generate = refl
kind_is Check = refl
kind_is Simulate = refl
kind_is Replay = refl
kind_is Dump = refl
kind_is Undump = refl
kind_is (Campaign number) = refl
kind_is (Bridge cycles) = refl
kind_is (Workload number) = refl
kind_is (Module (routed.Multiplexer inputs symbols bits)) = refl
kind_is (Module (routed.Demultiplexer outputs symbols bits)) = refl
kind_is (Module (routed.Gatherer channels symbols parts bits)) = refl

-- tasks of one word are of one kind
pub one_kind : (one other : Task) → word_of one ≡ word_of other → kind_of one ≡ kind_of other
one_kind one other named = sym (kind_is one) ∙ ap (λ (w : List ℕ). kind_at (mark w)) named ∙ kind_is other

-- what stands behind the word of a task of this kind: this number, or nothing
abbrev pub HasBehind : Task → List (List ℕ) → ℕ → Type 0
HasBehind (Campaign any) words number = StatesNumber words number
HasBehind (Bridge any) words number = StatesNumber words number
HasBehind (Workload any) words number = StatesNumber words number
HasBehind _ words number = number ≡ 0

pub one_behind : (kind : Task) (words : List (List ℕ)) (n m : ℕ) → HasBehind kind words n → HasBehind kind words m → n ≡ m
one_behind Generate words n m is also = is ∙ sym also
one_behind Check words n m is also = is ∙ sym also
one_behind Simulate words n m is also = is ∙ sym also
one_behind Replay words n m is also = is ∙ sym also
one_behind Dump words n m is also = is ∙ sym also
one_behind Undump words n m is also = is ∙ sym also
one_behind (Campaign any) words n m is also =
    decimal_injective n m (omega (arith, is.few)) (omega (arith, also.few)) (same_Some _ _ (sym is.is ∙ also.is))
one_behind (Bridge any) words n m is also =
    decimal_injective n m (omega (arith, is.few)) (omega (arith, also.few)) (same_Some _ _ (sym is.is ∙ also.is))
one_behind (Workload any) words n m is also =
    decimal_injective n m (omega (arith, is.few)) (omega (arith, also.few)) (same_Some _ _ (sym is.is ∙ also.is))
one_behind (Module wanted) words n m is also = is ∙ sym also

-- a kind with this number
pub numbered : Task → ℕ → Task
numbered (Campaign any) n = Campaign n
numbered (Bridge any) n = Bridge n
numbered (Workload any) n = Workload n
numbered Generate n = Generate
numbered Check n = Check
numbered Simulate n = Simulate
numbered Replay n = Replay
numbered Dump n = Dump
numbered Undump n = Undump
numbered (Module wanted) n = Module wanted

-- it is no module's
abbrev pub IsNoModule : Task → Type 0
IsNoModule (Module wanted) = ⊥
IsNoModule _ = Unit {0}

-- a task is a kind with the number behind its word
pub record IsNumbered (words : List (List ℕ)) (task : Task) : Type 0 where
  pub number : ℕ
  pub behind : HasBehind (kind_of task) words number
  pub is : numbered (kind_of task) number ≡ task
  pub apart : IsNoModule (kind_of task)

-- it is so, or that of a module
abbrev pub IsEither : List (List ℕ) → Task → Type 0
IsEither words task = IsNumbered words task ⊎ ((wanted : Routed) × (task ≡ Module wanted))

either : (words : List (List ℕ)) (task : Task) → StatesNumbers task words → IsEither words task
unfolding kind_of numbered
either words Generate states = inl (record { number = 0; behind = refl; is = refl; apart = tt })
either words Check states = inl (record { number = 0; behind = refl; is = refl; apart = tt })
either words Simulate states = inl (record { number = 0; behind = refl; is = refl; apart = tt })
either words Replay states = inl (record { number = 0; behind = refl; is = refl; apart = tt })
either words Dump states = inl (record { number = 0; behind = refl; is = refl; apart = tt })
either words Undump states = inl (record { number = 0; behind = refl; is = refl; apart = tt })
either words (Campaign number) states = inl (record { number = number; behind = states; is = refl; apart = tt })
either words (Bridge cycles) states = inl (record { number = cycles; behind = states.0; is = refl; apart = tt })
either words (Workload number) states = inl (record { number = number; behind = states; is = refl; apart = tt })
either words (Module wanted) states = inr (wanted, refl)

pub no_module_kind : (task : Task) → IsNoModule task → IsNoModule (kind_of task)
unfolding kind_of
no_module_kind Generate none = tt
no_module_kind Check none = tt
no_module_kind Simulate none = tt
no_module_kind Replay none = tt
no_module_kind Dump none = tt
no_module_kind Undump none = tt
no_module_kind (Campaign number) none = tt
no_module_kind (Bridge cycles) none = tt
no_module_kind (Workload number) none = tt
no_module_kind (Module wanted) none = absurd none

pub module_kind : (wanted : Routed) → IsNoModule (kind_of (Module wanted)) → ⊥
unfolding kind_of
module_kind wanted none = none

one_numbered : (words : List (List ℕ)) (one other : Task) → kind_of one ≡ kind_of other → IsNumbered words one
    → IsNumbered words other → one ≡ other
one_numbered words one other same is also =
    let behind : HasBehind (kind_of one) words also.number = subst
    (λ (t : Task). HasBehind t words also.number) (sym same) also.behind in
    let number : is.number ≡ also.number = one_behind (kind_of one) words is.number also.number is.behind behind in
    sym is.is ∙ ap (λ (t : Task). numbered t is.number) same ∙ ap (λ (n : ℕ). numbered (kind_of other) n) number ∙ also.is

-- a task of a module's kind has no number
apart : (words : List (List ℕ)) (one other : Task) (wanted : Routed) → kind_of one ≡ kind_of other → IsNumbered words one
    → other ≡ Module wanted → ⊥
apart words one other wanted same is also = module_kind wanted (subst IsNoModule (same ∙ ap kind_of also) is.apart)

one_of : (words : List (List ℕ)) (one other : Task) → kind_of one ≡ kind_of other → StatesNumbers one words
    → StatesNumbers other words → IsEither words one → IsEither words other → one ≡ other
one_of words one other same here there (inl is) (inl also) = one_numbered words one other same is also
one_of words one other same here there (inl is) (inr (wanted, also)) = absurd (apart words one other wanted same is also)
one_of words one other same here there (inr (wanted, is)) (inl also) = absurd (apart words other one wanted (sym same) also is)
one_of words one other same here there (inr (wanted, is)) (inr (routed, also)) =
    is
    ∙ ap Module
    (one_module words wanted routed (subst (λ (t : Task). StatesNumbers t words) is here)
    (subst (λ (t : Task). StatesNumbers t words) also there))
    ∙ sym also

-- words name one task
pub one_named : (words : List (List ℕ)) (one other : Task) → Names words one → Names words other → one ≡ other
one_named words one other is also =
    one_of words one other (one_kind one other (same_Some _ _ (sym is.command ∙ also.command))) is.numbers also.numbers
    (either words one is.numbers) (either words other also.numbers)

-- and so ask for one
pub one_task : (words : List (List ℕ)) (one other : Task) → AsksFor words one → AsksFor words other → one ≡ other
one_task words one other asks others =
    one_named words one other (record { command = asks.command; numbers = asks.numbers })
    (record { command = others.command; numbers = others.numbers })
