-- The last of a list.
use Rattle.std.proofs.Common.{◌≡◌, Bool, false, not, List, [], ◌∷◌, ◌++◌, refl, map}
use Rattle.memory_runs.specs.Commands.{is_of_reads}
use Rattle.memory_machines.specs.Link.{Marked, is_last_joined}
use Rattle.memory_machines.specs.Rank.{is_last_write}

-- it passes the test, if there is one
abbrev pub last_is : {A : Type 0} → (A → Bool) → List A → Bool
last_is {A} test [] = false
last_is {A} test (x ∷ []) = test x
last_is {A} test (x ∷ y ∷ later) = last_is test (y ∷ later)

pub last_behind : {A : Type 0} (test : A → Bool) (xs : List A) (y : A) (ys : List A) → last_is test (xs ++ y ∷ ys) ≡ last_is test (y ∷ ys)
last_behind test [] y ys = refl
last_behind test (x ∷ []) y ys = refl
last_behind test (x ∷ z ∷ xs) y ys = last_behind test (z ∷ xs) y ys

-- of a list that is made of another, item by item
pub last_of_map : {A B : Type 0} (f : A → B) (test : B → Bool) (other : A → Bool) → ((x : A) → test (f x) ≡ other x) → (xs : List A) → last_is test (map f xs) ≡ last_is other xs
last_of_map f test other same [] = refl
last_of_map f test other same (x ∷ []) = same x
last_of_map f test other same (x ∷ y ∷ later) = last_of_map f test other same (y ∷ later)

abbrev pub has_more : Marked → Bool
has_more m = m.more

abbrev pub is_write : Marked → Bool
is_write m = not (is_of_reads m.transfer.kind)

pub joined_is : (ms : List Marked) → is_last_joined ms ≡ last_is has_more ms
joined_is [] = refl
joined_is (m ∷ []) = refl
joined_is (m ∷ n ∷ later) = joined_is (n ∷ later)

pub written_is : (ms : List Marked) → is_last_write ms ≡ last_is is_write ms
written_is [] = refl
written_is (m ∷ []) = refl
written_is (m ∷ n ∷ later) = written_is (n ∷ later)
