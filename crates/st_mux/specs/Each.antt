-- Nets of one bit, each of which is made by its number.
use Rattle.std.specs.Prelude.{ℕ, ◌+◌, ◌*◌, ◌<◌, ◌≤◌, ◌≡◌, ◌⊎◌, Bool, ◌&&◌, ◌==◌, List, [], ◌∷◌, ◌++◌, length}
use Rattle.std.proofs.Common.{sym, ap, ◌∙◌, inl, inr, arith, subst, get_or, length-append}
use Rattle.std.proofs.lemmas.List.{get_or_append_left}
use Rattle.std.proofs.Math.Seq.{get_or-append_seam}
use Rattle.std.proofs.lemmas.Bool.{cases_lt}
use Rattle.netlist.specs.Nets.{NetValue}
use Rattle.netlist.specs.Netlists.{Netlist}
use Rattle.netlist.specs.Runs.{Cycle, Always}
use Rattle.net_parts.specs.Nets.{IsBit}
use Rattle.net_parts.specs.Growth.{AddsNets}
use Rattle.net_parts.specs.Laws.{adds_fewer, adds_twice}
use Rattle.st_mux.specs.Selecting.{AreBits, bits_last}

-- a beat is shown on channel k
abbrev pub shown_on : NetValue → NetValue → Cycle → ℕ → Bool
shown_on shown channel cycle k = (cycle.net shown.number == 1) && (cycle.net channel.number == k)

-- net k is high where the test holds of k
abbrev pub AreSetWhere : (Cycle → ℕ → Bool) → List NetValue → Cycle → Type 0
AreSetWhere test nets cycle =
    (other : NetValue) (k : ℕ) → k < length nets → (cycle.net (get_or nets k other).number == 1) ≡ test cycle k

-- so many such nets were made
pub record MakesEach (old new : Netlist) (test : Cycle → ℕ → Bool) (nets : List NetValue) (count : ℕ) : Type 0 where
  pub lengths : length nets ≡ count
  pub bits : AreBits new nets
  pub value : Always new (AreSetWhere test nets)
  pub adds : AddsNets (3 * count) old new

-- ---- laws. No contract reads a proof of these

-- with one more
pub each_more : (old now new : Netlist) (test : Cycle → ℕ → Bool) (nets : List NetValue) (here : NetValue) (count : ℕ)
    → MakesEach old now test nets count → AddsNets 3 now new
    → IsBit new here → Always new (λ cycle. (cycle.net here.number == 1) ≡ test cycle count)
    → MakesEach old new test (nets ++ here ∷ []) (count + 1)
each_more old now new test nets here count was adds bit value =
    record {
      lengths = length-append nets (here ∷ []) ∙ ap (λ n. n + 1) was.lengths;
      bits =
          λ other k below. at (λ net j. IsBit new net) other k below
          (λ less. bits_last now new nets adds.grows.extends was.bits other k less) bit;
      value = λ cycle v other k below.
          at (λ net j. (cycle.net net.number == 1) ≡ test cycle j) other k below
          (λ less. was.value cycle (adds.grows.extends.valuations cycle v) other k less)
          (value cycle v);
      adds = adds_fewer _ _ _ _ (omega arith) (adds_twice _ _ _ _ _ was.adds adds);
    }
  where
    at : (P : NetValue → ℕ → Type 0) (other : NetValue) (k : ℕ) → k < length (nets ++ here ∷ [])
        → (k < length nets → P (get_or nets k other) k) → P here count → P (get_or (nets ++ here ∷ []) k other) k
    at P other k below earlier latest = by_place (cases_lt k (length nets))
      where
        by_place : (k < length nets) ⊎ (length nets ≤ k) → P (get_or (nets ++ here ∷ []) k other) k
        by_place (inl less) =
            subst (λ (net : NetValue). P net k) (sym (get_or_append_left nets (here ∷ []) other k less)) (earlier less)
        by_place (inr more) =
            let whole = length-append nets (here ∷ []) in
            let last : length nets ≡ k = omega (arith, below, whole, more) in
            subst (λ n. P (get_or (nets ++ here ∷ []) n other) n) last
            (subst (λ (net : NetValue). P net (length nets)) (sym (get_or-append_seam nets here [] other))
            (subst (P here) (sym was.lengths) latest))
