-- The hosts of a bench gathered one after the other.
use Rattle.std.proofs.Common.{◌≡◌, ℕ, zero, suc, ◌+◌, List, [], ◌∷◌, ◌++◌, length, length-append, slice_get, Some, ◌∙◌, sym, subst, arith}
use Rattle.std.proofs.lemmas.Option.{none-some, same_Some}
use Rattle.system_tables.specs.Tables.{SystemTable}
use Rattle.scenario_tables.specs.declared.statements.HostStatement.{HostStatement}
use Rattle.benches.specs.Hosts.{BenchHostValue, IsFirstHost}

-- the hosts before this number
pub record AreBegun (system : SystemTable) (scripts : List (List HostStatement)) (number : ℕ) (hosts : List BenchHostValue) : Type 0 where
  pub count : length hosts ≡ number
  pub each : (h : ℕ) (host : BenchHostValue) (script : List HostStatement) → slice_get hosts h ≡ Some host → slice_get scripts h ≡ Some script → IsFirstHost system h script host

-- what holds of each item by its place holds with one more at the end
each_more : {X : Type 0} (P : ℕ → X → Type 0) (xs : List X) (x : X) → ((k : ℕ) (y : X) → slice_get xs k ≡ Some y → P k y) → P (length xs) x
    → (k : ℕ) (y : X) → slice_get (xs ++ x ∷ []) k ≡ Some y → P k y
each_more P [] x each last zero y at = subst (P 0) (same_Some x y at) last
each_more P [] x each last (suc k) y at = absurd (none-some y at)
each_more P (z ∷ xs) x each last zero y at = each 0 y at
each_more {X} P (z ∷ xs) x each last (suc k) y at = each_more (λ (n : ℕ) (w : X). P (suc n) w) xs x (λ n w there. each (suc n) w there) last k y at

pub none_begun : (system : SystemTable) (scripts : List (List HostStatement)) (hosts : List BenchHostValue) → hosts ≡ [] → AreBegun system scripts 0 hosts
none_begun system scripts hosts none = subst (AreBegun system scripts 0) (sym none) (record { count = omega arith; each = λ h host script at there. absurd (none-some host at) })

pub one_more_begun : (system : SystemTable) (scripts : List (List HostStatement)) (number : ℕ) (hosts more : List BenchHostValue) (host : BenchHostValue) (script : List HostStatement)
    → AreBegun system scripts number hosts → slice_get scripts number ≡ Some script → IsFirstHost system number script host → more ≡ hosts ++ host ∷ [] → AreBegun system scripts (number + 1) more
one_more_begun system scripts number hosts more host script are at first is =
    let P : ℕ → BenchHostValue → Type 0 = λ h one. (other : List HostStatement) → slice_get scripts h ≡ Some other → IsFirstHost system h other one in
    let last : P (length hosts) host = subst (λ (n : ℕ). P n host) (sym are.count) (λ other there. subst (λ (s : List HostStatement). IsFirstHost system number s host) (same_Some script other (sym at ∙ there)) first) in
    subst (AreBegun system scripts (number + 1)) (sym is) (record {
      count = (let long = length-append hosts (host ∷ []) in let count = are.count in omega (arith, long, count));
      each = λ h one other there has. each_more P hosts host (λ k y found other_script with_it. are.each k y other_script found with_it) last h one there other has;
    })
