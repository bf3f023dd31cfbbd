use Rattle.std.proofs.Common.{◌≡◌, ℕ, map, sym, subst}
use Rattle.std.specs.Prelude.{string_bytes}
use Rattle.task_words.specs.Asking.{IsModuleWord}
use Rattle.task_words.specs.declared.Task.{Task as Asked}
use Rattle.task_words.specs.Words.{IsBare, HasNumber, IsWordOf, StatesNumber}
use Rattle.task_words.proofs.WordsLemmas.{match_weaker, nothing_named, number_named, one_number}
use Rattle.task_words.proofs.task_of.Goals as goal

pub returns : goal.returns
returns c =
    let words = c.args.words.now in
    let first = c.first-item.result in
    let some = c.in-len1-up.len_at_least in
    let number = c.in-Some-number_behind.number in
    let same = c.as_str-word.ensures.value in
    let states : StatesNumber (map string_bytes words) number = c.in-Some-number_behind.ensures in
    let none : ¬ IsModuleWord (string_bytes first) = λ is. let found = c.is_module_word.ensures.1 (subst IsModuleWord (sym same) is) in let other = c.if-is_module_word.false in cc in
    let bare : (task : Asked) → ¬ IsWordOf IsBare (string_bytes first) task = λ task h. c.in_default-bare_task.ensures task (subst (λ word. IsWordOf IsBare word task) (sym same) h) in
    match_weaker c.numbered_task.result _ _ _ _
    (λ nothing. nothing_named string_bytes words first some c.first-item.is none bare (λ n task at h. nothing task
    (subst (λ word. IsWordOf (HasNumber number) word task) (sym same) (subst (λ k. IsWordOf (HasNumber k) (string_bytes first) task) (one_number (map string_bytes words) n number at states) h))))
    (λ task h. number_named string_bytes words first task number some c.first-item.is (subst (λ word. IsWordOf (HasNumber number) word task) same h) states)
    c.numbered_task.ensures
