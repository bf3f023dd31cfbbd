-- A wire keeps the clause for commands with rank 0.
use Rattle.std.proofs.Common.{ℕ, suc, ◌<◌, ◌≤◌, ◌≡◌, Bool, true, false, not, ◌||◌, ◌&&◌, ◌++◌, arith, refl, ap, ◌∙◌, subst, nat_lt, length, append-nil, IsTrue, IsFalse, tests}
use Rattle.histories.specs.History.{only_if}
use Rattle.memory_runs.specs.Commands.{is_held, shows}
use Rattle.memory_machines.specs.Link.{Target, Port, AreLegalAt, takes, taken_at, shown_at, marked_at, operations_among}
use Rattle.memory_machines.specs.Rank.{is_last_write, is_writing, is_owed, is_unclosed, may_rest, is_excused, has_commands, LinkRankFalls}
use Rattle.histories.specs.Laws.{shown_is_accepted_and_standing}
use Rattle.std.proofs.lemmas.Bool.{both_ways}
use Rattle.memory_machines.specs.SideLaws.{marked_keeps}

-- where nothing stands, all that was shown is taken
pub all_taken : (port : Port) (end c : ℕ) → AreLegalAt port end → suc c ≤ end → IsFalse (is_held port.commands.signals (takes port) c) → shown_at port (suc c) ≡ taken_at port (suc c)
all_taken port end c legal h none =
    shown_is_accepted_and_standing (shows port.commands.signals) (takes port) (marked_at port) end (suc c) (marked_keeps port end legal) h
    ∙ ap (λ b. taken_at port (suc c) ++ only_if b (marked_at port c)) none ∙ append-nil (taken_at port (suc c))

pub record Quiet (h o r : Bool) : Type 0 where
  pub held : IsFalse h
  pub owed : IsFalse o
  pub rest : IsFalse r

pub quiet : (h o r : Bool) → IsTrue (not (h || o || r)) → Quiet h o r
quiet h o r n = record { held = grind (arith, tests); owed = grind (arith, tests); rest = grind (arith, tests) }

pub never_less : (n : ℕ) → IsTrue (nat_lt n n) → ⊥
never_less n h = let bad : n < n = grind (arith, tests) in omega (arith, bad)

-- what is left open rests, or its word is owed, or a beat is shown, which stands or moves
pub rests_or_moves : (op sh t o lw : Bool) → IsFalse (sh && not t) → IsFalse (o && not (op && lw)) → IsFalse (op && not sh && (lw || not o)) → IsTrue (not (t || t)) → IsTrue op → ⊥
rests_or_moves op true true o lw a b c d e = cc
rests_or_moves op true false o lw a b c d e = cc
rests_or_moves true false t o true a b c d e = cc
rests_or_moves true false t true false a b c d e = cc
rests_or_moves true false t false false a b c d e = cc
rests_or_moves false false t o lw a b c d e = cc

pub three_cases : (a b c : Bool) → IsTrue (a || b || c) → (IsTrue a → ⊥) → (IsTrue b → ⊥) → (IsTrue c → ⊥) → ⊥
three_cases true b c h fa fb fc = fa refl
three_cases false true c h fa fb fc = fb refl
three_cases false false true h fa fb fc = fc refl
three_cases false false false h fa fb fc = cc

pub wire_falls : (target : Target) (port : Port) (end : ℕ) → AreLegalAt port end → LinkRankFalls target port port (λ c. 0) 0 end
wire_falls target port end legal = record {
  bounded = λ c h. omega arith;
  falls = λ c h work still must. absurd (never c h work still must);
  stays = λ c h work still. omega arith;
}
  where
    never : (c : ℕ) → c < end → IsTrue (has_commands target port port c) → IsTrue (not (takes port c || takes port c)) → IsTrue (not (is_excused port port c)) → ⊥
    never c h work still must =
        let q = quiet (is_held port.commands.signals (takes port) c) (is_owed port c && not (is_writing port c)) (may_rest port c) must in
        let same = all_taken port end c legal h q.held in
        three_cases (is_held port.commands.signals (takes port) c)
        (nat_lt (length (operations_among target port.shape (taken_at port (suc c)))) (length (operations_among target port.shape (shown_at port (suc c)))))
        (is_unclosed port c) work
        (λ held. both_ways (is_held port.commands.signals (takes port) c) q.held held)
        (λ untaken. never_less (length (operations_among target port.shape (taken_at port (suc c))))
        (subst (λ l. IsTrue (nat_lt (length (operations_among target port.shape (taken_at port (suc c)))) (length (operations_among target port.shape l)))) same untaken))
        (λ unclosed. rests_or_moves (is_unclosed port c) (shows port.commands.signals c) (takes port c) (is_owed port c) (is_last_write (taken_at port (suc c))) q.held q.owed q.rest still unclosed)
