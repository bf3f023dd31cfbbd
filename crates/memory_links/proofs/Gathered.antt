-- A read of narrow words that lie in one wide word has the operations of one beat of it, and the words that are cut out of
-- its word have the answers.
use Rattle.std.proofs.Common.{ℕ, zero, suc, ◌<◌, ◌≤◌, ◌≡◌, ◌+◌, ◌-◌, ◌*◌, ◌/◌, ◌%◌, ◌^◌, List, [], ◌∷◌, ◌++◌, arith, sym, ap, ap₂, ◌∙◌, length, map, filter, flat_map, zip, zero-mul, one-mul, mul_assoc, add-mul, mul-le-mul_right}
use Rattle.std.proofs.lemmas.List.{map-append}
use Rattle.std.proofs.lemmas.Nat.{pow-add, mod-mul-add}
use Rattle.std.proofs.Math.Nat.{mod-eq_of_lt, pow-le-pow_right, one-le-pow, mod-eq-sub-div-mul, div-mul-le_self, mul-lt-mul_of_pos_right}
use Rattle.histories.specs.History.{numbers}
use Rattle.memory_runs.specs.Views.{Shape}
use Rattle.memory_runs.specs.Views.Kind.{Reads}
use Rattle.memory_runs.specs.Legal.{Word}
use Rattle.memory_runs.specs.Order.{Answer}
use Rattle.memory_runs.specs.Operations.{Beat, Operation, operations_of, filled_lanes, is_enabled, byte_at}
use Rattle.memory_runs.specs.Operations.Operation.{Read}
use Rattle.memory_machines.specs.Link.{Target, bytes_in}
use Rattle.memory_machines.specs.Machines.{MaySelect, LiesInOneWord}
use Rattle.memory_links.proofs.OneBeat.{beat_by}
use Rattle.memory_links.proofs.Lanes.{SelectsBeats, narrow_lanes, bytes_moved, cut}
use Rattle.memory_links.specs.Gathers.{spread}
use Rattle.memory_links.proofs.Spread.{lanes, lanes_split, no_lanes}

-- the narrow words of a wide one, from a place on
abbrev pub pieces_of : ℕ → ℕ → ℕ → Word → List Word
pieces_of bytes offset zero given = []
pieces_of bytes offset (suc n) given = cut bytes offset given ∷ pieces_of bytes (offset + bytes) n given

-- beats with these byte enables
abbrev pub AllHave : ℕ → List Beat → Type 0
AllHave e [] = Unit {0}
AllHave e (d ∷ later) = (d.enables ≡ e) × AllHave e later

module _ (law : SelectsBeats) (target : Target) (narrow wide : Shape) (may : MaySelect narrow wide target.shape) (smaller : narrow.word_bytes ≤ target.shape.word_bytes) where
  abbrev b : ℕ
  b = narrow.word_bytes

  abbrev W : ℕ
  W = target.shape.word_bytes

  pub wide_lanes : (enables : ℕ) → filled_lanes wide target.shape enables ≡ lanes W enables
  wide_lanes enables =
      let some = may.some in
      let same = may.same in
      narrow_lanes wide target.shape (omega (arith, some, smaller, same)) (omega (arith, same)) may.enables enables ∙ ap (λ n. filter (is_enabled enables) (numbers 0 n)) same

  step_is : (n m e : ℕ) → spread b (suc n) e * 2 ^ m ≡ e * 2 ^ m + spread b n e * 2 ^ (m + b)
  step_is n m e =
      let sum : m + b ≡ b + m = omega arith in
      add-mul e (spread b n e * 2 ^ b) (2 ^ m) ∙ ap (λ k. e * 2 ^ m + k) (mul_assoc (spread b n e) (2 ^ b) (2 ^ m) ∙ ap (λ k. spread b n e * k) (sym (ap (λ k. 2 ^ k) sum ∙ pow-add 2 b m)))

  below_next : (m e : ℕ) → e < 2 ^ b → e * 2 ^ m < 2 ^ (m + b)
  below_next m e few =
      let sum : m + b ≡ b + m = omega arith in
      let power : 2 ^ (m + b) ≡ 2 ^ b * 2 ^ m = ap (λ k. 2 ^ k) sum ∙ pow-add 2 b m in
      let less = mul-lt-mul_of_pos_right few (one-le-pow m 2 (omega arith)) in
      omega (arith, power, less)

  -- the lanes of one place, and those of the further ones
  pub spread_lanes : (n m e : ℕ) → e < 2 ^ b → m + b ≤ W → filled_lanes wide target.shape (spread b (suc n) e * 2 ^ m) ≡ filled_lanes wide target.shape (e * 2 ^ m) ++ filled_lanes wide target.shape (spread b n e * 2 ^ (m + b))
  spread_lanes n m e few fits =
      wide_lanes (spread b (suc n) e * 2 ^ m) ∙ ap (lanes W) (step_is n m e) ∙ lanes_split W (e * 2 ^ m) (spread b n e) (m + b) fits (below_next m e few)
      ∙ ap₂ (λ x y. x ++ y) (sym (wide_lanes (e * 2 ^ m))) (sym (wide_lanes (spread b n e * 2 ^ (m + b))))

  none_there : (m e : ℕ) → filled_lanes wide target.shape (spread b 0 e * 2 ^ m) ≡ []
  none_there m e = wide_lanes (spread b 0 e * 2 ^ m) ∙ ap (lanes W) (zero-mul (2 ^ m)) ∙ no_lanes W

  -- ---- operations

  abbrev read_at : ℕ → ℕ → Operation
  read_at address lane = Read ((address + lane) % target.span)

  pub gathered_operations : (x e n j : ℕ) → e < 2 ^ b → x % W + (j + n) * b ≤ W →
      flat_map (operations_of narrow target.shape target.span) (map (λ k. beat_by Reads (x + k * b) 0 e) (numbers j n)) ≡ map (read_at (x - x % W)) (filled_lanes wide target.shape (spread b n e * 2 ^ (x % W + j * b)))
  gathered_operations x e zero j few fits = ap (map (read_at (x - x % W))) (sym (none_there (x % W + j * b) e))
  gathered_operations x e (suc n) j few fits =
      let m = x % W + j * b in
      let some = may.some in
      let size : (j + suc n) * b ≡ j * b + (b + n * b) = (let one = add-mul j (suc n) b in let two = add-mul 1 n b in let unit = one-mul b in let s : suc n ≡ 1 + n = omega arith in add-mul j (suc n) b ∙ ap (λ k. j * b + k) (ap (λ k. k * b) s ∙ two ∙ ap (λ k. k + n * b) unit)) in
      let room : m + b ≤ W = omega (arith, fits, size) in
      let low : m < W = omega (arith, room, some) in
      let whole : x - x % W ≡ x / W * W = (let a = mod-eq-sub-div-mul x W in let d = div-mul-le_self x W in omega (arith, a, d)) in
      let parts : x ≡ x / W * W + x % W = (let a = mod-eq-sub-div-mul x W in let d = div-mul-le_self x W in omega (arith, whole, a, d)) in
      let there : x + j * b ≡ x / W * W + m = omega (arith, parts) in
      let offset : (x + j * b) % W ≡ m = ap (λ k. k % W) there ∙ mod-mul-add (x / W) W m low in
      let start : (x + j * b) - (x + j * b) % W ≡ x - x % W = omega (arith, offset, there, parts) in
      let lies : LiesInOneWord narrow target.shape (x + j * b) e = record { lanes = omega (arith, offset, room); few = few } in
      let here : operations_of narrow target.shape target.span (beat_by Reads (x + j * b) 0 e) ≡ map (read_at (x - x % W)) (filled_lanes wide target.shape (e * 2 ^ m)) =
      law narrow wide target.shape target.span may (beat_by Reads (x + j * b) 0 e) lies ∙ ap₂ (λ a o. map (read_at a) (filled_lanes wide target.shape (e * 2 ^ o))) start offset in
      let next : suc j * b ≡ j * b + b = (let s : suc j ≡ j + 1 = omega arith in let one = one-mul b in ap (λ k. k * b) s ∙ add-mul j 1 b ∙ ap (λ k. j * b + k) one) in
      let later_fits : x % W + (suc j + n) * b ≤ W = (let s : suc j + n ≡ j + suc n = omega arith in let e2 = ap (λ k. x % W + k * b) s in omega (arith, fits, e2)) in
      let place : x % W + suc j * b ≡ m + b = omega (arith, next) in
      ap₂ (λ u v. u ++ v) here (gathered_operations x e n (suc j) few later_fits ∙ ap (λ k. map (read_at (x - x % W)) (filled_lanes wide target.shape (spread b n e * 2 ^ k))) place)
      ∙ sym (map-append (read_at (x - x % W)) (filled_lanes wide target.shape (e * 2 ^ m)) (filled_lanes wide target.shape (spread b n e * 2 ^ (m + b))))
      ∙ ap (map (read_at (x - x % W))) (sym (spread_lanes n m e few room))

  -- ---- answers

  abbrev pub answer_in : Word → ℕ → Answer
  answer_in given lane = record { tag = 0; byte = byte_at given.word lane; code = given.code }

  abbrev pub bytes_by : Shape → Beat × Word → List Answer
  bytes_by shape p = bytes_in target shape p.0 p.1

  pub gathered_bytes : (e n m : ℕ) (given : Word) (uppers : List Beat) → e < 2 ^ b → m + n * b ≤ W → length uppers ≡ n → AllHave e uppers →
      flat_map (bytes_by narrow) (zip uppers (pieces_of b m n given)) ≡ map (answer_in given) (filled_lanes wide target.shape (spread b n e * 2 ^ m))
  gathered_bytes e zero m given [] few fits size all = ap (map (answer_in given)) (sym (none_there m e))
  gathered_bytes e zero m given (u ∷ uppers) few fits size all = cc
  gathered_bytes e (suc n) m given [] few fits size all = cc
  gathered_bytes e (suc n) m given (u ∷ uppers) few fits size all =
      let s : suc n ≡ 1 + n = omega arith in
      let total : suc n * b ≡ b + n * b = (let unit = one-mul b in ap (λ k. k * b) s ∙ add-mul 1 n b ∙ ap (λ k. k + n * b) unit) in
      let room : m + b ≤ W = omega (arith, fits, total) in
      let lower : Beat = beat_by Reads 0 0 (e * 2 ^ m) in
      let enough : u.enables < 2 ^ b = (let same = all.0 in omega (arith, same, few)) in
      let one : bytes_in target narrow u (cut b m given) ≡ map (answer_in given) (filled_lanes wide target.shape (e * 2 ^ m)) =
      bytes_moved law target narrow wide may u lower m given room enough (ap (λ k. k * 2 ^ m) (sym all.0)) in
      ap₂ (λ x y. x ++ y) one (gathered_bytes e n (m + b) given uppers few (omega (arith, fits, total)) (omega (arith, size)) all.1)
      ∙ sym (map-append (answer_in given) (filled_lanes wide target.shape (e * 2 ^ m)) (filled_lanes wide target.shape (spread b n e * 2 ^ (m + b))))
      ∙ ap (map (answer_in given)) (sym (spread_lanes n m e few room))

-- ---- byte enables that lie in the wide word are kept whole

pub spread_small : (b n e : ℕ) → e < 2 ^ b → spread b n e < 2 ^ (n * b)
spread_small b zero e few = one-le-pow (zero * b) 2 (omega arith)
spread_small b (suc n) e few =
    let later = spread_small b n e few in
    let s : suc n ≡ n + 1 = omega arith in
    let size : suc n * b ≡ n * b + b = ap (λ k. k * b) s ∙ add-mul n 1 b ∙ ap (λ k. n * b + k) (one-mul b) in
    let power : 2 ^ (suc n * b) ≡ 2 ^ (n * b) * 2 ^ b = ap (λ k. 2 ^ k) size ∙ pow-add 2 (n * b) b in
    let more : (spread b n e + 1) * 2 ^ b ≤ 2 ^ (n * b) * 2 ^ b = mul-le-mul_right (2 ^ b) (omega (arith, later)) in
    let one = one-mul (2 ^ b) in
    let parts = add-mul (spread b n e) 1 (2 ^ b) in
    omega (arith, power, more, parts, one, few)

pub enables_whole : (b W n m e : ℕ) → e < 2 ^ b → m + n * b ≤ W → (spread b n e * 2 ^ m) % 2 ^ W ≡ spread b n e * 2 ^ m
enables_whole b W n m e few fits =
    let small = spread_small b n e few in
    let less : spread b n e * 2 ^ m < 2 ^ (n * b) * 2 ^ m = mul-lt-mul_of_pos_right small (one-le-pow m 2 (omega arith)) in
    let sum : n * b + m ≡ m + n * b = omega arith in
    let power : 2 ^ (m + n * b) ≡ 2 ^ (n * b) * 2 ^ m = ap (λ k. 2 ^ k) (sym sum) ∙ pow-add 2 (n * b) m in
    let most : 2 ^ (m + n * b) ≤ 2 ^ W = pow-le-pow_right (omega arith) fits in
    mod-eq_of_lt (omega (arith, less, power, most))

pub spread_one : (b e : ℕ) → spread b 1 e ≡ e
spread_one b e = (let none = zero-mul (2 ^ b) in omega (arith, none))
