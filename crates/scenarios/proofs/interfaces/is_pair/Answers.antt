use Rattle.std.proofs.Common.{◌++◌, ap, sym, ◌∙◌, List, ℕ}
use Rattle.std.proofs.lemmas.Bool.Decides.{Decides-eqb}
use Rattle.std.proofs.lemmas.Slice.Eq.{strip_prefix_is}
use Rattle.scenarios.proofs.NameLemmas.{no_front, no_dot, behind_dot}
use Rattle.scenarios.proofs.interfaces.is_pair.Goals as goal

pub returns-in_default : goal.returns-in_default
returns-in_default c =
    let said = strip_prefix_is Decides-eqb c.args.word.now c.args.instance.now c.strip_prefix.result c.strip_prefix.ensures.cases in
    let none = rw c.in_default.is at said in
    no_front c.args.word.now c.args.instance.now c.args.interface.now none

pub returns-in_default-strip_prefix : goal.returns-in_default-strip_prefix
returns-in_default-strip_prefix c =
    let said = strip_prefix_is Decides-eqb c.args.word.now c.args.instance.now c.strip_prefix.result c.strip_prefix.ensures.cases in
    let front = rw c.in-Some.is at said in
    let dot = strip_prefix_is Decides-eqb c.in-Some.dotted.now c.as_slice.result.now c.strip_prefix-2.result c.strip_prefix-2.ensures.cases in
    let none = rw c.in_default-strip_prefix.is at dot in
    no_dot c.args.word.now c.args.instance.now c.args.interface.now c.in-Some.dotted.now front
    (λ (rest : List ℕ) e. none rest (e ∙ ap (λ (dot : List ℕ). dot ++ rest) (sym c.as_slice.ensures)))

pub returns : goal.returns
returns c =
    let said = strip_prefix_is Decides-eqb c.args.word.now c.args.instance.now c.strip_prefix.result c.strip_prefix.ensures.cases in
    let front = rw c.in-Some.is at said in
    let dot = strip_prefix_is Decides-eqb c.in-Some.dotted.now c.as_slice.result.now c.strip_prefix-2.result c.strip_prefix-2.ensures.cases in
    let behind = rw c.in-Some-strip_prefix.is at dot in
    c.eq.ensures
    ∙ behind_dot c.args.word.now c.args.instance.now c.args.interface.now c.in-Some.dotted.now c.in-Some-strip_prefix.behind.now front
    (behind ∙ ap (λ (dot : List ℕ). dot ++ c.in-Some-strip_prefix.behind.now) c.as_slice.ensures)
