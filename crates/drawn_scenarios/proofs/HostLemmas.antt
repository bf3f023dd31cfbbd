-- What hosts do, step by step.
use Rattle.std.proofs.Common.{◌≡◌, ℕ, zero, suc, ◌+◌, ◌*◌, ◌/◌, ◌^◌, ◌<◌, ◌≤◌, true, false, cond, List, [], ◌∷◌, length, max, min, refl, sym, ap, ◌∙◌, arith}
use Rattle.std.specs.Prelude.{slice_get, Option, Some, ◌==◌}
use Rattle.std.proofs.Math.Nat.{div-mul-le_self, le-max_left, le-max_right, max-eq_right, min-le_left, mul-le-mul_right}
use Rattle.std.proofs.lemmas.Bool.Decides.{Decides-eqb}
use Rattle.iface_roles.specs.declared.records.HostPort.{HostPort}
use Rattle.iface_roles.specs.Proper.{IsWordSize, range_of, span_of}
use Rattle.link_rules.specs.declared.plan_connections.MemoryConnection.{MemoryConnection}
use Rattle.scenario_tables.specs.declared.statements.HostStatement.{HostStatement}
use Rattle.scenario_tables.specs.declared.statements.HostStatement.TheVariants.{Idle, Write, Read}
use Rattle.scenario_tables.specs.Statements.{all_lanes}
use Rattle.drawn_scenarios.specs.Draws.{draw, word_of}
use Rattle.drawn_scenarios.specs.Hosts.{words_reached, write, is_write, transfer, reach, access, idle, host_statement, IsReached}
use Rattle.drawn_scenarios.proofs.DrawLemmas.{behind}

pub writes : (host : HostPort) (address from word to : ℕ) → (word, to) ≡ word_of false 8 256 host.word_bytes from → (Write address (all_lanes host.word_bytes) (word ∷ []), to) ≡ write host address from
unfolding write
writes host address from word to e = let P : ℕ × ℕ → HostStatement × ℕ = λ p. (Write address (all_lanes host.word_bytes) (p.0 ∷ []), p.1) in ap P e

pub transfer_writes : (host : HostPort) (choice address from : ℕ) → is_write host choice ≡ true → write host address from ≡ transfer host choice address from
unfolding transfer
transfer_writes host choice address from e = rw e refl

pub transfer_reads : (host : HostPort) (choice address from : ℕ) → is_write host choice ≡ false → ◌≡◌ {A = HostStatement × ℕ} (Read address (all_lanes host.word_bytes) 1, from) (transfer host choice address from)
unfolding transfer
transfer_reads host choice address from e = rw e refl

pub reaches : (choice : ℕ) (link : MemoryConnection) (from words to : ℕ) (out : HostStatement × ℕ) → (words, to) ≡ draw (words_reached link) from
    → out ≡ transfer link.host choice (link.base + words * link.host.word_bytes) to → out ≡ reach choice (Some link) from
unfolding reach
reaches choice link from words to out e then_is = behind (draw (words_reached link)) (λ w. transfer link.host choice (link.base + w * link.host.word_bytes)) from words to out e then_is

pub idles : (links : List MemoryConnection) (from choice then_at more to : ℕ) → (choice, then_at) ≡ draw 4 from → choice ≡ 3 → (more, to) ≡ draw 8 then_at → (Idle (1 + more), to) ≡ host_statement links from
unfolding host_statement idle
idles links from choice then_at more to e three then_is =
    let P : ℕ × ℕ → HostStatement × ℕ = λ p. (Idle (1 + p.0), p.1) in
    let at_three : (choice == 3) ≡ true = (Decides-eqb choice 3).1 three in
    let out : (Idle (1 + more), to) ≡ cond (choice == 3) idle (access links choice) then_at = rw at_three (ap P then_is) in
    behind (draw 4) (λ c. cond (c == 3) idle (access links c)) from choice then_at _ e out

pub accesses : (links : List MemoryConnection) (from choice then_at number at : ℕ) (link : MemoryConnection) (out : HostStatement × ℕ) → (choice, then_at) ≡ draw 4 from → (choice == 3) ≡ false
    → (number, at) ≡ draw (length links) then_at → slice_get links number ≡ Some link → out ≡ reach choice (Some link) at → out ≡ host_statement links from
unfolding host_statement access
accesses links from choice then_at number at link out e other number_is there then_is =
    let Q : Option MemoryConnection → HostStatement × ℕ = λ o. reach choice o at in
    let reached : out ≡ reach choice (slice_get links number) at = then_is ∙ ap Q (sym there) in
    let picked : out ≡ access links choice then_at = behind (draw (length links)) (λ n. reach choice (slice_get links n)) then_at number at out number_is reached in
    let chosen : out ≡ cond (choice == 3) idle (access links choice) then_at = rw other picked in
    behind (draw 4) (λ c. cond (c == 3) idle (access links c)) from choice then_at out e chosen

-- ---- a word that is drawn lies within what the agent takes

within_cases : (span b q words : ℕ) → 1 ≤ b → q * b ≤ span → words < max 1 q → words * b < max span b
within_cases span b zero words some whole less =
    let one : max 1 0 ≡ 1 = refl in
    let none : words ≡ 0 = omega arith in
    let nothing : words * b ≡ 0 = ap (λ w. w * b) none ∙ (let z : 0 * b ≡ 0 = omega arith in z) in
    let above = le-max_right span b in
    omega arith
within_cases span b (suc q) words some whole less =
    let top : max 1 (suc q) ≡ suc q = max-eq_right (omega arith) in
    let more : suc words ≤ suc q = omega arith in
    let rows = mul-le-mul_right b more in
    let above = le-max_left span b in
    omega arith

words_within : (span b words : ℕ) → 1 ≤ b → words < max 1 (min span 65536 / b) → words * b < max span b
words_within span b words some less =
    let whole = div-mul-le_self (min span 65536) b in
    let capped = min-le_left span 65536 in
    within_cases span b (min span 65536 / b) words some (omega arith) less

pub word_bytes_some : (bytes : ℕ) → IsWordSize bytes → (1 ≤ bytes) × (bytes ≤ 16)
word_bytes_some bytes is = by is.exponent is.small is.power
  where
    by : (k : ℕ) → k ≤ 4 → bytes ≡ 2 ^ k → (1 ≤ bytes) × (bytes ≤ 16)
    by zero small e = (omega arith, omega arith)
    by (suc zero) small e = (omega arith, omega arith)
    by (suc (suc zero)) small e = (omega arith, omega arith)
    by (suc (suc (suc zero))) small e = (omega arith, omega arith)
    by (suc (suc (suc (suc zero)))) small e = (omega arith, omega arith)
    by (suc (suc (suc (suc (suc k))))) small e = absurd (omega arith)

pub below_range : (link : MemoryConnection) (words : ℕ) → IsReached link → words < words_reached link → link.base + words * link.host.word_bytes < range_of link.host
below_range link words reached less =
    let b = link.host.word_bytes in
    let inside = words_within (span_of link.agent) b words (word_bytes_some b reached.host.ports.word).0 less in
    let end = reached.within in
    omega arith
