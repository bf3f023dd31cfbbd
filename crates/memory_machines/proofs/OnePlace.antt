-- A register of one place keeps the clause for commands with rank 0.
use Rattle.std.proofs.Common.{ℕ, suc, ◌<◌, ◌≡◌, Bool, not, ◌||◌, ◌&&◌, ◌++◌, List, arith, sym, ap, ◌∙◌, subst, nat_lt, length, append-nil, IsTrue, IsFalse, tests}
use Rattle.histories.specs.History.{only_if}
use Rattle.memory_runs.specs.Views.{Shape}
use Rattle.memory_runs.specs.Commands.{is_held, shows}
use Rattle.memory_machines.specs.Link.{Target, Port, Marked, AreLegalAt, takes, taken_at, shown_at, marked_at, operations_among, words_at, read_beats, is_last_joined}
use Rattle.memory_machines.specs.Rank.{is_last_write, is_writing, is_owed, is_unclosed, may_rest, is_excused, has_commands, LinkRankFalls, HoldsOneBeat}
use Rattle.memory_machines.proofs.WireRank.{all_taken, quiet, never_less, rests_or_moves, three_cases}
use Rattle.std.proofs.lemmas.Bool.{both_ways}

second_still : (a b : Bool) → IsTrue (not (a || b)) → IsFalse b
second_still a b h = grind (arith, tests)

first_still : (a b : Bool) → IsTrue (not (a || b)) → IsFalse a
first_still a b h = grind (arith, tests)

-- what is shown and doesn't stand is taken
not_full : (f t : Bool) → IsFalse (f && not t) → IsFalse t → IsFalse f
not_full f t h g = grind (arith, tests)

not_held : (s t : Bool) → IsFalse s → IsFalse (s && not t)
not_held s t h = grind (arith, tests)

twice : (t : Bool) → IsFalse t → IsTrue (not (t || t))
twice t h = grind (arith, tests)

pub register_falls : (target : Target) (up down : Port) (end : ℕ) → AreLegalAt up end → HoldsOneBeat up down end → LinkRankFalls target up down (λ c. 0) 0 end
register_falls target up down end legal register = record {
  bounded = λ c h. omega arith;
  falls = λ c h work still must. absurd (never c h work still must);
  stays = λ c h work still. omega arith;
}
  where
    never : (c : ℕ) → c < end → IsTrue (has_commands target up down c) → IsTrue (not (takes down c || takes up c)) → IsTrue (not (is_excused up down c)) → ⊥
    never c h work still must =
        let q = quiet (is_held down.commands.signals (takes down) c) (is_owed down c && not (is_writing down c)) (may_rest up c) must in
        let none_below = first_still (takes down c) (takes up c) still in
        let none_above = second_still (takes down c) (takes up c) still in
        let empty : IsFalse (register.full c) = sym (register.shown c) ∙ not_full (shows down.commands.signals c) (takes down c) q.held none_below in
        let silent : IsFalse (shows up.commands.signals c) = sym (register.empty c empty) ∙ none_above in
        let still_empty : IsFalse (register.full (suc c)) = register.next c empty ∙ none_above in
        let same : taken_at up (suc c) ≡ taken_at down (suc c) = register.holds (suc c) h ∙ ap (λ b. taken_at down (suc c) ++ only_if b (marked_at down (suc c))) still_empty ∙ append-nil (taken_at down (suc c)) in
        let quiet_above = not_held (shows up.commands.signals c) (takes up c) silent in
        let all = all_taken up end c legal h quiet_above ∙ same in
        let rest = subst (λ ws. IsFalse (is_last_joined (taken_at down (suc c)) && not (shows up.commands.signals c) && (is_last_write (taken_at down (suc c)) || not (nat_lt (length ws) (length (read_beats (taken_at down (suc c)))))))) (register.words (suc c) h)
        (subst (λ l. IsFalse (is_last_joined l && not (shows up.commands.signals c) && (is_last_write l || not (nat_lt (length (words_at up (suc c))) (length (read_beats l)))))) same q.rest) in
        three_cases (is_held up.commands.signals (takes up) c)
        (nat_lt (length (operations_among target down.shape (taken_at down (suc c)))) (length (operations_among target up.shape (shown_at up (suc c)))))
        (is_unclosed down c) work
        (λ held. both_ways (is_held up.commands.signals (takes up) c) quiet_above held)
        (λ untaken. never_less (length (operations_among target down.shape (taken_at down (suc c))))
        (subst (λ (s : Shape). IsTrue (nat_lt (length (operations_among target down.shape (taken_at down (suc c)))) (length (operations_among target s (taken_at down (suc c)))))) (sym register.shape)
        (subst (λ (l : List Marked). IsTrue (nat_lt (length (operations_among target down.shape (taken_at down (suc c)))) (length (operations_among target up.shape l)))) all untaken)))
        (λ unclosed. rests_or_moves (is_unclosed down c) (shows up.commands.signals c) (takes up c) (is_owed down c) (is_last_write (taken_at down (suc c))) quiet_above q.owed rest (twice (takes up c) none_above) unclosed)
