-- The command `package require [-exact] qsys [V]`, in both kinds of file.
use Rattle.std.specs.Prelude.{ℕ, ◌+◌, Bool, ◌&&◌, not, nat_le, nat_lt, List, [], ◌∷◌, length, codes, if◌then◌else◌}
use Rattle.std.specs.Str.{bytes_eq}
use Rattle.tcl_words.specs.declared.words.Word.{Word}
use Rattle.script_words.specs.declared.rule.CommandRule.TheVariants.{PackageWords}
use Rattle.script_words.specs.declared.judge.Check.{Check}
use Rattle.script_words.specs.Words.{text_at, check}

abbrev pub asks_exact : List Word → Bool
asks_exact words = bytes_eq (text_at words 2) (codes "-exact")

-- where `qsys` is due
unfoldable pub qsys_place : List Word → ℕ
qsys_place words = if asks_exact words then 3 else 2

-- C12: `require` comes first; a word stands behind `-exact`; `qsys` is where it is due; one word at most stands behind it
unfoldable pub package_checks : List Word → List Check
package_checks words =
    check PackageWords 1 (not (bytes_eq (text_at words 1) (codes "require")))
    ∷ check PackageWords 2 (asks_exact words && nat_le (length words) 3)
    ∷ check PackageWords (qsys_place words) (not (bytes_eq (text_at words (qsys_place words)) (codes "qsys")))
    ∷ check PackageWords (qsys_place words + 2) (nat_lt (qsys_place words + 2) (length words)) ∷ []
