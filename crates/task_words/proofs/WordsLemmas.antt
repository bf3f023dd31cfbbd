-- the words that name a task, and those that ask for it
use Rattle.std.proofs.Common.{◌≡◌, ◌≢◌, ◌<◌, ◌^◌, ℕ, List, [], ◌∷◌, length, map, get_or, Option, Some, None, refl, sym, ap, subst, ◌∙◌, arith}
use Rattle.std.specs.Prelude.{slice_get, All, MatchOption}
use Rattle.std.proofs.lemmas.Option.{same_Some}
use Rattle.std.proofs.lemmas.List.Elements.{All-map, All-get_or}
use Rattle.std.proofs.lemmas.List.{get_or-map, length-map}
use Rattle.routed_modules.specs.declared.routed.Routed.{Routed}
use Rattle.task_words.specs.Asking.{IsModuleWord, AsksForModule}
use Rattle.task_words.specs.declared.Task.{Task}
use Rattle.task_words.specs.declared.Task.TheVariants.{Generate, Check, Simulate, Replay, Dump, Undump, Campaign, Bridge, Workload, Module}
use Rattle.task_words.specs.Words.{IsPlainWord, AsksFor, AsksForNothing, AreEnough, StatesNumber, StatesNumbers, BeginsWithModule, Names, NamesNothing, IsBare, HasNumber, IsWordOf, word_of}
use Rattle.task_words.specs.OneTask.{IsNoModule, kind_of, module_kind, no_module_kind, one_behind, one_kind, one_named}

pub first_is : {A B : Type 0} (f : A → B) (xs : List A) (x : A) → 0 < length xs → x ≡ get_or xs 0 x → slice_get (map f xs) 0 ≡ Some (f x)
first_is f [] x h e = absurd (omega arith)
first_is f (y ∷ ys) x h e = ap (λ z. Some (f z)) (sym e)

-- a fact on each member of a mapped list holds on each member before
All-unmap : {X Y : Type 0} (P : X → Type 0) (f : Y → X) (ys : List Y) → All P (map f ys) → All (λ y. P (f y)) ys
All-unmap P f ys h =
    λ k d p. rw (← get_or-map f ys k d (f d) p) (All-get_or P (map f ys) k (f d) (rw length-map p) h)

named_word : {Y : Type 0} (f : Y → List ℕ) (ws : List Y) (first : Y) (task : Task) → first ≡ get_or ws 0 first → 0 < length ws → Names (map f ws) task → word_of task ≡ f first
named_word f ws first task is some h =
    let e : Some (f first) ≡ Some (word_of task) = sym (first_is f ws first some is) ∙ h.command in cc

-- one number stands behind the first word
pub one_number : (words : List (List ℕ)) (n m : ℕ) → StatesNumber words n → StatesNumber words m → n ≡ m
one_number words n m is also = one_behind (Workload 0) words n m is also

-- what holds of an option holds in weaker words
pub match_weaker : {A : Type 0} (o : Option A) (P Q : Type 0) (R S : A → Type 0) → (P → Q) → ((x : A) → R x → S x) → MatchOption o P R → MatchOption o Q S
match_weaker None P Q R S none some h = none h
match_weaker (Some x) P Q R S none some h = some x h

-- ---- words whose first is no module's

no_task : (task : Task) (words : List (List ℕ)) (word : List ℕ) → ¬ IsModuleWord word → ((t : Task) → ¬ IsWordOf IsBare word t)
    → ((n : ℕ) (t : Task) → StatesNumber words n → ¬ IsWordOf (HasNumber n) word t) → word_of task ≡ word → ¬ StatesNumbers task words
no_task Generate words word none bare numbers named states = bare Generate (record { kind = tt; named = named })
no_task Check words word none bare numbers named states = bare Check (record { kind = tt; named = named })
no_task Simulate words word none bare numbers named states = bare Simulate (record { kind = tt; named = named })
no_task Replay words word none bare numbers named states = bare Replay (record { kind = tt; named = named })
no_task Dump words word none bare numbers named states = bare Dump (record { kind = tt; named = named })
no_task Undump words word none bare numbers named states = bare Undump (record { kind = tt; named = named })
no_task (Campaign number) words word none bare numbers named states = numbers number (Campaign number) states (record { kind = refl; named = named })
no_task (Bridge cycles) words word none bare numbers named states = numbers cycles (Bridge cycles) states.0 (record { kind = (refl, states.1); named = named })
no_task (Workload number) words word none bare numbers named states = numbers number (Workload number) states (record { kind = refl; named = named })
no_task (Module wanted) words word none bare numbers named states = none (wanted, named)

-- where it is no task's that has no numbers, and none's with the number behind it
pub nothing_named : {Y : Type 0} (f : Y → List ℕ) (ws : List Y) (first : Y) → 0 < length ws → first ≡ get_or ws 0 first → ¬ IsModuleWord (f first)
    → ((task : Task) → ¬ IsWordOf IsBare (f first) task) → ((n : ℕ) (task : Task) → StatesNumber (map f ws) n → ¬ IsWordOf (HasNumber n) (f first) task) → NamesNothing (map f ws)
nothing_named f ws first some is none bare numbers =
    λ task h. no_task task (map f ws) (f first) none bare numbers (named_word f ws first task is some h) h.numbers

-- a task without numbers is named by its word
no_numbers : (task : Task) (words : List (List ℕ)) → IsBare task → StatesNumbers task words
no_numbers Generate words bare = tt
no_numbers Check words bare = tt
no_numbers Simulate words bare = tt
no_numbers Replay words bare = tt
no_numbers Dump words bare = tt
no_numbers Undump words bare = tt
no_numbers (Campaign number) words bare = absurd bare
no_numbers (Bridge cycles) words bare = absurd bare
no_numbers (Workload number) words bare = absurd bare
no_numbers (Module wanted) words bare = absurd bare

pub bare_named : {Y : Type 0} (f : Y → List ℕ) (ws : List Y) (first : Y) (task : Task) → 0 < length ws → first ≡ get_or ws 0 first → IsWordOf IsBare (f first) task → Names (map f ws) task
bare_named f ws first task some is h = record {
  command = first_is f ws first some is ∙ ap Some (sym h.named);
  numbers = no_numbers task (map f ws) h.kind;
}

-- one with a number by the number behind it
its_number : (task : Task) (words : List (List ℕ)) (n : ℕ) → HasNumber n task → StatesNumber words n → StatesNumbers task words
its_number Generate words n has states = absurd has
its_number Check words n has states = absurd has
its_number Simulate words n has states = absurd has
its_number Replay words n has states = absurd has
its_number Dump words n has states = absurd has
its_number Undump words n has states = absurd has
its_number (Campaign number) words n has states = rw has states
its_number (Bridge cycles) words n has states = (rw has.0 states, has.1)
its_number (Workload number) words n has states = rw has states
its_number (Module wanted) words n has states = absurd has

pub number_named : {Y : Type 0} (f : Y → List ℕ) (ws : List Y) (first : Y) (task : Task) (n : ℕ) → 0 < length ws → first ≡ get_or ws 0 first → IsWordOf (HasNumber n) (f first) task
    → StatesNumber (map f ws) n → Names (map f ws) task
number_named f ws first task n some is h states = record {
  command = first_is f ws first some is ∙ ap Some (sym h.named);
  numbers = its_number task (map f ws) n h.kind states;
}

-- ---- words whose first is a module's

-- the module that a task of a module's kind asks for
module_of_kind : (words : List (List ℕ)) (task : Task) (begun : Routed) → kind_of task ≡ kind_of (Module begun) → StatesNumbers task words → (wanted : Routed) × AsksForModule wanted words
module_of_kind words (Module wanted) begun same states = (wanted, states)
module_of_kind words Generate begun same states = absurd (module_kind begun (subst IsNoModule same (no_module_kind Generate tt)))
module_of_kind words Check begun same states = absurd (module_kind begun (subst IsNoModule same (no_module_kind Check tt)))
module_of_kind words Simulate begun same states = absurd (module_kind begun (subst IsNoModule same (no_module_kind Simulate tt)))
module_of_kind words Replay begun same states = absurd (module_kind begun (subst IsNoModule same (no_module_kind Replay tt)))
module_of_kind words Dump begun same states = absurd (module_kind begun (subst IsNoModule same (no_module_kind Dump tt)))
module_of_kind words Undump begun same states = absurd (module_kind begun (subst IsNoModule same (no_module_kind Undump tt)))
module_of_kind words (Campaign number) begun same states = absurd (module_kind begun (subst IsNoModule same (no_module_kind (Campaign number) tt)))
module_of_kind words (Bridge cycles) begun same states = absurd (module_kind begun (subst IsNoModule same (no_module_kind (Bridge cycles) tt)))
module_of_kind words (Workload number) begun same states = absurd (module_kind begun (subst IsNoModule same (no_module_kind (Workload number) tt)))

pub no_module : (words : List (List ℕ)) → BeginsWithModule words → ((wanted : Routed) → ¬ AsksForModule wanted words) → NamesNothing words
no_module words begins none =
    λ task h. let found = module_of_kind words task begins.0 (one_kind task (Module begins.0) (same_Some _ _ (sym h.command ∙ begins.1))) h.numbers in none found.0 found.1

pub module_named : (words : List (List ℕ)) (wanted : Routed) → AsksForModule wanted words → Names words (Module wanted)
module_named words wanted asks = record {
  command = ap (λ (ws : List (List ℕ)). slice_get ws 0) asks.words_are;
  numbers = asks;
}

-- ---- what is asked for

pub asked : {Y : Type 0} (f : Y → List ℕ) (ws : List Y) (task : Task) → Names (map f ws) task → AreEnough task (length ws) → All (λ w. IsPlainWord (f w)) ws → AsksFor (map f ws) task
asked f ws task named enough plain = record {
  plain = All-map IsPlainWord f ws plain;
  command = named.command;
  files = rw length-map enough;
  numbers = named.numbers;
}

pub asked_enough : {Y : Type 0} (f : Y → List ℕ) (ws : List Y) (task other : Task) → Names (map f ws) task → AsksFor (map f ws) other → AreEnough task (length ws)
asked_enough f ws task other named asks =
    let same : other ≡ task = one_named (map f ws) other task (record { command = asks.command; numbers = asks.numbers }) named in
    subst (λ (t : Task). AreEnough t (length ws)) same (rw length-map at asks.files)

pub asked_plain : {Y : Type 0} (f : Y → List ℕ) (ws : List Y) (task : Task) → AsksFor (map f ws) task → All (λ w. IsPlainWord (f w)) ws
asked_plain f ws task h = All-unmap IsPlainWord f ws h.plain

pub nothing_asked : (words : List (List ℕ)) → NamesNothing words → AsksForNothing words
nothing_asked words none = λ task h. none task (record { command = h.command; numbers = h.numbers })
