-- files that are loaded one by one, and what the shelf tells of them
use Rattle.std.proofs.Common.{◌≡◌, ℕ, zero, suc, ◌+◌, ◌^◌, ◌<◌, ◌≤◌, ◌==◌, Bool, true, false, if◌then◌else◌, get_or, List, [], ◌∷◌, ◌++◌, length, slice_get, Option, Some, ◌⊎◌, inl, inr, ⊎_elim, subst, refl, sym, ap, ◌∙◌, arith}
use Rattle.std.specs.Prelude.{All}
use Rattle.std.proofs.lemmas.Option.{slice_get-get_or}
use Rattle.av_files.specs.Outside.{WhereTold}
use Rattle.task_words.specs.declared.Task.{Task}
use Rattle.task_words.specs.declared.Task.TheVariants.{Generate, Check, Simulate, Replay, Dump, Undump, Campaign, Bridge, Workload, Module}
use Rattle.task_words.specs.Words.{StatesNumbers, named_by}
use Rattle.avalon_top.specs.Bridge.{HasBridgeCycles}
use Rattle.avalon_top.specs.Systems.{system_files, second_file}
use Rattle.avalon_top.specs.Run.{most_bytes, text_in, waves_in, dump_in, AreShort, AreLoaded, AreFiles}

newly : {X : Type 0} (xs : List X) (y z : X) (n : ℕ) → slice_get (xs ++ y ∷ []) n ≡ Some z → (slice_get xs n ≡ Some z) ⊎ ((n ≡ length xs) × (y ≡ z))
newly [] y z zero e = inr (refl, (cc))
newly [] y z (suc n) e = inl e
newly (x ∷ xs) y z zero e = inl e
newly (x ∷ xs) y z (suc n) e = elim (newly xs y z n e) [ inl o ↦ inl o | inr o ↦ inr (ap suc o.0, o.1) ]

same_items : {X : Type 0} (xs ys : List X) → length xs ≡ length ys → ((k : ℕ) (x y : X) → slice_get xs k ≡ Some x → slice_get ys k ≡ Some y → x ≡ y) → xs ≡ ys
same_items [] [] e h = refl
same_items [] (y ∷ ys) e h = absurd (omega arith)
same_items (x ∷ xs) [] e h = absurd (omega arith)
same_items {X = X} (x ∷ xs) (y ∷ ys) e h =
    let rest : xs ≡ ys = same_items xs ys (omega arith) (λ k a b p q. h (suc k) a b p q) in
    ap (λ (z : X). z ∷ xs) (h 0 x y refl refl) ∙ ap (λ (zs : List X). y ∷ zs) rest

pub none_loaded : (task : Task) (told : ℕ → Option (List ℕ)) → AreLoaded task told []
none_loaded task told = record { each = λ k bytes e. (cc); short = λ k bytes e. (cc) }

-- one file more
pub more_loaded : (task : Task) (told : ℕ → Option (List ℕ)) (files : List (List ℕ)) (bytes : List ℕ) → AreLoaded task told files
    → WhereTold (told (named_by task (length files + 1))) (λ is. bytes ≡ is) → length bytes ≤ most_bytes task (length files + 1) → AreLoaded task told (files ++ bytes ∷ [])
more_loaded task told files bytes are is short =
    record {
      each = λ k other e. ⊎_elim
          (λ old. are.each k other old)
          (λ o. subst (λ (b : List ℕ). WhereTold (told (named_by task (k + 1))) (λ is. b ≡ is)) o.1 (subst (λ (n : ℕ). WhereTold (told (named_by task (n + 1))) (λ is. bytes ≡ is)) (sym o.0) is))
          (newly files bytes other k e);
      short = λ k other e. ⊎_elim
          (λ old. are.short k other old)
          (λ o. subst (λ (b : List ℕ). length b ≤ most_bytes task (k + 1)) o.1 (subst (λ (n : ℕ). length bytes ≤ most_bytes task (n + 1)) (sym o.0) short))
          (newly files bytes other k e);
    }

-- where all files are told, they are what was loaded
pub told_files : (task : Task) (told : ℕ → Option (List ℕ)) (words : ℕ) (loaded files : List (List ℕ)) → AreFiles task told words loaded → length files + 1 ≡ words
    → ((k : ℕ) (bytes : List ℕ) → slice_get files k ≡ Some bytes → told (named_by task (k + 1)) ≡ Some bytes) → loaded ≡ files
told_files task told words loaded files are count tells =
    let same : length loaded ≡ length files = omega (arith, are.count) in
    same_items loaded files same (λ k x y p q. subst (λ (o : Option (List ℕ)). WhereTold o (λ is. x ≡ is)) (tells k y q) (are.loaded.each k x p))

some_at : {X : Type 0} (xs : List X) (n : ℕ) → n < length xs → (x : X) × (slice_get xs n ≡ Some x)
some_at [] n h = absurd (omega arith)
some_at (x ∷ xs) zero h = (x, refl)
some_at (x ∷ xs) (suc n) h = some_at xs n (omega arith)

-- no told file is longer than is read, where all are short
pub not_long : (task : Task) (words : ℕ) (told : ℕ → Option (List ℕ)) (files earlier : List (List ℕ)) → length earlier + 1 < words
    → WhereTold (told (named_by task (length earlier + 1))) (λ bytes. most_bytes task (length earlier + 1) < length bytes) → length files + 1 ≡ words
    → ((k : ℕ) (bytes : List ℕ) → slice_get files k ≡ Some bytes → told (named_by task (k + 1)) ≡ Some bytes) → AreShort task files → ⊥
not_long task words told files earlier inside long count tells short =
    let at = some_at files (length earlier) (omega arith) in
    let most = most_bytes task (length earlier + 1) in
    let too_long : most < length at.0 = subst (λ (o : Option (List ℕ)). WhereTold o (λ bytes. most < length bytes)) (tells (length earlier) at.0 at.1) long in
    let is_short : length at.0 ≤ most = short (length earlier) at.0 at.1 in
    omega (arith, too_long, is_short)

few_of_either : (is_text : Bool) → (if is_text then 268435456 else 1048576) ≤ 268435456
few_of_either true = omega arith
few_of_either false = omega arith

-- no more bytes than these are read of any file
few_bytes : (task : Task) (file : ℕ) → most_bytes task file ≤ 268435456
few_bytes Generate file = omega arith
few_bytes Check file = omega arith
few_bytes Simulate file = omega arith
few_bytes Replay file = few_of_either (file == 1)
few_bytes Dump file = few_of_either (file == 1)
few_bytes Undump file = omega arith
few_bytes (Campaign number) file = omega arith
few_bytes (Bridge cycles) file = omega arith
few_bytes (Workload number) file = omega arith
few_bytes (Module wanted) file = omega arith

-- files that are no longer than is read have fewer bytes than 2^31
pub fewer_bytes : (task : Task) (files : List (List ℕ)) → AreShort task files → All (λ bytes. length bytes < 2 ^ 31) files
fewer_bytes task files short =
    λ k d p. let few : length (get_or files k d) ≤ most_bytes task (k + 1) = short k (get_or files k d) (slice_get-get_or files k d p) in
    omega (arith, few, few_bytes task (k + 1))

-- the files of a replay are two
pub first_of_two : (files : List (List ℕ)) (other : List ℕ) → length files ≡ 2 → get_or files 0 other ≡ text_in files
first_of_two [] other two = absurd (omega arith)
first_of_two (text ∷ rest) other two = refl

pub second_of_two : (files : List (List ℕ)) (other : List ℕ) → length files ≡ 2 → get_or files 1 other ≡ waves_in files
second_of_two [] other two = absurd (omega arith)
second_of_two (text ∷ []) other two = absurd (omega arith)
second_of_two (text ∷ waves ∷ rest) other two = refl

-- a dump is one file
pub one_of_one : (files : List (List ℕ)) (other : List ℕ) → length files ≡ 1 → get_or files 0 other ≡ dump_in files
one_of_one [] other one = absurd (omega arith)
one_of_one (dump ∷ rest) other one = refl

-- the files of a simulation or a bridge are two or more
pub second_is : (files : List (List ℕ)) (other : List ℕ) → 2 ≤ length files → get_or files 1 other ≡ second_file files
second_is [] other two = absurd (omega arith)
second_is (system ∷ []) other two = absurd (omega arith)
second_is (system ∷ scenario ∷ components) other two = refl

-- what holds of all of them holds of those of the system, and of the second
of_system : (P : List ℕ → Type 0) (system scenario : List ℕ) (components : List (List ℕ)) → All P (system ∷ scenario ∷ components) → All P (system ∷ components)
of_system P system scenario components h zero d p = h 0 d (omega arith)
of_system P system scenario components h (suc k) d p = h (suc (suc k)) d (omega arith)

pub of_system_files : (P : List ℕ → Type 0) (files : List (List ℕ)) → 2 ≤ length files → All P files → All P (system_files files)
of_system_files P [] two h = absurd (omega arith)
of_system_files P (system ∷ []) two h = absurd (omega arith)
of_system_files P (system ∷ scenario ∷ components) two h = of_system P system scenario components h

pub of_second : (P : List ℕ → Type 0) (files : List (List ℕ)) → 2 ≤ length files → All P files → P (second_file files)
of_second P [] two h = absurd (omega arith)
of_second P (system ∷ []) two h = absurd (omega arith)
of_second P (system ∷ scenario ∷ components) two h = h 1 [] (omega arith)

pub system_file_count : (files : List (List ℕ)) → 2 ≤ length files → length (system_files files) + 1 ≡ length files
system_file_count [] two = absurd (omega arith)
system_file_count (system ∷ []) two = absurd (omega arith)
system_file_count (system ∷ scenario ∷ components) two = omega arith

-- the cycles of a bridge are those of its words
pub has_cycles : (task : Task) (words : List (List ℕ)) → StatesNumbers task words → HasBridgeCycles task
has_cycles Generate words states = tt
has_cycles Check words states = tt
has_cycles Simulate words states = tt
has_cycles Replay words states = tt
has_cycles Dump words states = tt
has_cycles Undump words states = tt
has_cycles (Campaign number) words states = tt
has_cycles (Bridge cycles) words states = states.1
has_cycles (Workload number) words states = tt
has_cycles (Module wanted) words states = tt
