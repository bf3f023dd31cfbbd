use Rattle.std.proofs.Common.{◌≡◌, ◌-◌, ◌<◌, ◌≤◌, nat_lt, nat_le, false, length, get_or, arith, sym, ap, ◌∙◌, subst}
use Rattle.std.proofs.lemmas.Bool.Decides.{nat_tests}
use Rattle.address_map.proofs.EntryLemmas.{zeros, none_meets, next_meets}
use Rattle.address_map.proofs.host_map.HostMap.meets.Goals as goal
use Rattle.address_map.proofs.host_map.HostMap.meets.Goals.{else-next-gt0-via-then-next-gt0+else-first-from, else-next-gt0-via-else-next-gt0}

pub returns-then-next-entries : goal.returns-then-next-entries
returns-then-next-entries c =
    let entries = c.args.self.now in
    let next = c.begun-next.result in
    let same = c.entries-entries.ensures.value in
    let before : 0 < next → (get_or entries (next - 1) zeros).last < c.args.first =
    λ some. elim c.else-next-gt0.branch [
      | else-next-gt0-via-then-next-gt0+else-first-from w ↦ subst (λ n. n < c.args.first) (rw same at w.from.ensures) w.if-first-from.false
      | else-next-gt0-via-else-next-gt0 w ↦ absurd (omega arith)
    ] in
    let within : next < length entries = subst (λ xs. next < length xs) same c.if-next-entries.true in
    ap (λ n. nat_le n c.args.last) (rw same at c.from-then-next-entries.ensures)
    ∙ next_meets entries next c.args.first c.args.last zeros c.entries-entries.ensures.rising c.requires c.begun-next.ensures.few before c.begun-next.ensures.others within

pub returns-else-next-entries : goal.returns-else-next-entries
returns-else-next-entries c =
    let entries = c.args.self.now in
    let next = c.begun-next.result in
    let same = c.entries-entries.ensures.value in
    let before : 0 < next → (get_or entries (next - 1) zeros).last < c.args.first =
    λ some. elim c.else-next-gt0.branch [
      | else-next-gt0-via-then-next-gt0+else-first-from w ↦ subst (λ n. n < c.args.first) (rw same at w.from.ensures) w.if-first-from.false
      | else-next-gt0-via-else-next-gt0 w ↦ absurd (omega arith)
    ] in
    let none : nat_lt next (length c.entries-entries.result.now) ≡ false = grind (arith, nat_tests) in
    let past : length entries ≤ next = subst (λ xs. length xs ≤ next) same c.if-next-entries.false in
    none ∙ sym (none_meets entries next c.args.first c.args.last zeros c.entries-entries.ensures.rising c.requires c.begun-next.ensures.few before (λ within. absurd (omega arith)))
