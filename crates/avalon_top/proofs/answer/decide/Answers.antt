use Rattle.std.proofs.Common.{◌≤◌, ◌-◌, length, inl, sym, subst, ◌∙◌, arith, refl, ap}
use Rattle.std.specs.Prelude.{map, string_bytes}
use Rattle.std.proofs.lemmas.List.{length-map}
use Rattle.std.proofs.lemmas.Result.{err_from_is_err_and, IfOk-weaker, IfErr-weaker, IfOk-from_err}
use Rattle.avalon_top.specs.Run.{AreFiles, IsFilesLimit}
use Rattle.avalon_top.specs.Loading.{StopsFiles}
use Rattle.avalon_top.specs.Outcome.{IsOutcome}
use Rattle.task_words.specs.Words.{AreEnough, file_words}
use Rattle.avalon_top.proofs.FileLemmas.{fewer_bytes, has_cycles}
use Rattle.avalon_top.proofs.AnswerLemmas.{files_stop, loading_stops, files_limit}
use Rattle.avalon_top.proofs.answer.decide.Goals as goal

pub file_words-named-requires : goal.file_words-named-requires
file_words-named-requires g c = subst (AreEnough c.in-Some.task) (length-map c.args.words.now string_bytes) c.in-Some.ensures.files

pub returns-in_default-clause-stops : goal.returns-in_default-clause-stops
returns-in_default-clause-stops g c = c.in_default.ensures

pub returns-in_default-clause-grows : goal.returns-in_default-clause-grows
returns-in_default-clause-grows g c = omega arith

pub returns-in_default-clause-below : goal.returns-in_default-clause-below
returns-in_default-clause-below g c = λ h. h

pub returns-in_default-clause-told : goal.returns-in_default-clause-told
returns-in_default-clause-told g c = λ k. refl

pub returns-then-files-gt-MOST_FILES-clause-stops :
    goal.returns-then-files-gt-MOST_FILES-clause-stops
returns-then-files-gt-MOST_FILES-clause-stops g c =
    let named = c.file_words-named.ensures.same ∙ ap (file_words c.in-Some.task) (sym (length-map c.args.words.now string_bytes)) in
    (c.in-Some.task, c.in-Some.ensures, inl (subst (IsFilesLimit 7 (c.file_words-named.result - 1)) named (files_limit c.file_words-named.result c.if-files-gt-MOST_FILES.true)))

pub returns-then-files-gt-MOST_FILES-clause-grows :
    goal.returns-then-files-gt-MOST_FILES-clause-grows
returns-then-files-gt-MOST_FILES-clause-grows g c = omega arith

pub returns-then-files-gt-MOST_FILES-clause-below :
    goal.returns-then-files-gt-MOST_FILES-clause-below
returns-then-files-gt-MOST_FILES-clause-below g c = λ h. h

pub returns-then-files-gt-MOST_FILES-clause-told :
    goal.returns-then-files-gt-MOST_FILES-clause-told
returns-then-files-gt-MOST_FILES-clause-told g c = λ k. refl

pub load_files-requires-clause-some : goal.load_files-requires-clause-some
load_files-requires-clause-some g c = c.file_words-named.ensures.some

pub load_files-requires-clause-few : goal.load_files-requires-clause-few
load_files-requires-clause-few g c = omega (arith, c.if-files-gt-MOST_FILES.false)

pub returns-in_err-files-clause-stops : goal.returns-in_err-files-clause-stops
returns-in_err-files-clause-stops g c =
    let few : c.file_words-named.result ≤ 65 = omega (arith, c.if-files-gt-MOST_FILES.false) in
    let stops = loading_stops string_bytes c.args.words.now _ c.in-Some.task c.file_words-named.result c.in_err-files.field-0.0 c.in-Some.ensures c.file_words-named.ensures.same few
    c.in_err-files.ensures.stops in
    let handed = err_from_is_err_and c.from_residual.result c.from_residual.ensures.1 in
    rw (handed.1, handed.2) stops

pub returns-in_err-files-clause-outcome : goal.returns-in_err-files-clause-outcome
returns-in_err-files-clause-outcome g c = IfOk-from_err _ _ c.from_residual.ensures.0

pub returns-in_err-files-clause-grows : goal.returns-in_err-files-clause-grows
returns-in_err-files-clause-grows g c = c.load_files.ensures.grows

pub returns-in_err-files-clause-below : goal.returns-in_err-files-clause-below
returns-in_err-files-clause-below g c = c.load_files.ensures.below

pub returns-in_err-files-clause-told : goal.returns-in_err-files-clause-told
returns-in_err-files-clause-told g c = c.load_files.ensures.told

pub outcome_of-requires-clause-enough : goal.outcome_of-requires-clause-enough
outcome_of-requires-clause-enough g c = record {
  words = length c.args.words.now;
  enough = subst (AreEnough c.in-Some.task) (length-map c.args.words.now string_bytes) c.in-Some.ensures.files;
  count = c.in_ok-files.ensures.loaded.count ∙ c.file_words-named.ensures.same;
}

pub outcome_of-requires-clause-cycles : goal.outcome_of-requires-clause-cycles
outcome_of-requires-clause-cycles g c = has_cycles c.in-Some.task (map string_bytes c.args.words.now) c.in-Some.ensures.numbers

pub outcome_of-requires-clause-few : goal.outcome_of-requires-clause-few
outcome_of-requires-clause-few g c = omega (arith, c.in_ok-files.ensures.loaded.count, c.in_ok-files.ensures.loaded.few)

pub outcome_of-requires-clause-short : goal.outcome_of-requires-clause-short
outcome_of-requires-clause-short g c = fewer_bytes c.in-Some.task _ c.in_ok-files.ensures.loaded.loaded.short

pub returns-clause-stops : goal.returns-clause-stops
returns-clause-stops g c =
    let words = map string_bytes c.args.words.now in
    let files = c.in_ok-files.files.items in
    let named = c.file_words-named.ensures.same ∙ ap (file_words c.in-Some.task) (sym (length-map c.args.words.now string_bytes)) in
    let are = subst (λ n. AreFiles c.in-Some.task (g.S.Shelf.told c.args.shelf.now) n files) named c.in_ok-files.ensures.loaded in
    IfErr-weaker c.outcome_of.result (StopsFiles c.in-Some.task files) _
    (λ exit s. files_stop words _ c.in-Some.task files exit c.in-Some.ensures are s)
    c.outcome_of.ensures.stops

pub returns-clause-outcome : goal.returns-clause-outcome
returns-clause-outcome g c =
    let files = c.in_ok-files.files.items in
    let named = c.file_words-named.ensures.same ∙ ap (file_words c.in-Some.task) (sym (length-map c.args.words.now string_bytes)) in
    let are = subst (λ n. AreFiles c.in-Some.task (g.S.Shelf.told c.args.shelf.now) n files) named c.in_ok-files.ensures.loaded in
    IfOk-weaker c.outcome_of.result (IsOutcome c.in-Some.task files) _
    (λ outcome is. record { task = c.in-Some.task; asks = c.in-Some.ensures; files = files; are_files = are; is = is })
    c.outcome_of.ensures.outcome

pub returns-clause-grows : goal.returns-clause-grows
returns-clause-grows g c = c.load_files.ensures.grows

pub returns-clause-below : goal.returns-clause-below
returns-clause-below g c = c.load_files.ensures.below

pub returns-clause-told : goal.returns-clause-told
returns-clause-told g c = c.load_files.ensures.told
