use Rattle.std.proofs.Common.{◌≡◌, ℕ, List, [], ◌∷◌, ◌++◌, refl, Some}
use Rattle.std.specs.Prelude.{codes}
use Rattle.std.specs.Str.{is_utf8, chars}
use Rattle.std.specs.Str.Lossy.{utf8_valid_len}
use lib.Utf8.{encode}
use Rattle.tcl_words.specs.declared.rule.Rule.{Rule}
use Rattle.tcl_words.specs.declared.rule.Rule.TheVariants.{Substitution, Backslash, OpenBrace, OpenQuote, AfterClose, NotUtf8, ZeroByte}
use Rattle.tcl_words.specs.Reading.{first_word_fault, commands_from, piece_of, bare_len, comment_len, braced, quoted}
use Rattle.tcl_words.specs.FirstFault.{IsRefusedAt}
use Rattle.tcl_words.proofs.EncodingFlaws.{fault_stands}
use Rattle.tcl_words.proofs.laws.refused_texts.Goals as goal

refused : (text : List ℕ) (line byte : ℕ) (rule : Rule) → first_word_fault 1 text ≡ Some (record { place = record { file = 1; line = line; byte = byte }; rule = rule }) → IsRefusedAt text line byte rule
refused text line byte rule read = fault_stands 1 text (record { place = record { file = 1; line = line; byte = byte }; rule = rule }) read

pub returns-clause-substitution : goal.returns-clause-substitution
unfolding commands_from piece_of bare_len comment_len braced quoted utf8_valid_len is_utf8 chars encode
returns-clause-substitution c = refused (codes "add_instance cpu $type") 1 17 Substitution refl

pub returns-clause-backslash : goal.returns-clause-backslash
unfolding commands_from piece_of bare_len comment_len braced quoted utf8_valid_len is_utf8 chars encode
returns-clause-backslash c = refused (codes "set_module_property GROUP My\\ parts") 1 28 Backslash refl

pub returns-clause-open_brace : goal.returns-clause-open_brace
unfolding commands_from piece_of bare_len comment_len braced quoted utf8_valid_len is_utf8 chars encode
returns-clause-open_brace c = refused (codes "set_module_property DESCRIPTION {half") 1 32 OpenBrace refl

pub returns-clause-open_quote : goal.returns-clause-open_quote
unfolding commands_from piece_of bare_len comment_len braced quoted utf8_valid_len is_utf8 chars encode
returns-clause-open_quote c = refused (codes "set_module_property DESCRIPTION \"half") 1 32 OpenQuote refl

pub returns-clause-after_close : goal.returns-clause-after_close
unfolding commands_from piece_of bare_len comment_len braced quoted utf8_valid_len is_utf8 chars encode
returns-clause-after_close c = refused (codes "create_system {a}b") 1 17 AfterClose refl

pub returns-clause-not_utf8 : goal.returns-clause-not_utf8
unfolding commands_from piece_of bare_len comment_len braced quoted utf8_valid_len is_utf8 chars encode
returns-clause-not_utf8 c = refused (codes "# caf" ++ 233 ∷ codes "\n") 1 5 NotUtf8 refl

pub returns-clause-zero_byte : goal.returns-clause-zero_byte
unfolding commands_from piece_of bare_len comment_len braced quoted utf8_valid_len is_utf8 chars encode
returns-clause-zero_byte c = refused (codes "# a" ++ 0 ∷ codes "b") 1 3 ZeroByte refl

pub returns-clause-quoted : goal.returns-clause-quoted
unfolding commands_from piece_of bare_len comment_len braced quoted utf8_valid_len is_utf8 chars encode
returns-clause-quoted c = refused (codes "save_system\nsave_system \"a $b") 2 27 Substitution refl

pub returns-clause-never_closed : goal.returns-clause-never_closed
unfolding commands_from piece_of bare_len comment_len braced quoted utf8_valid_len is_utf8 chars encode
returns-clause-never_closed c = refused (codes "save_system {a\\}\nb [c]") 1 12 OpenBrace refl

pub returns-clause-encoding : goal.returns-clause-encoding
unfolding commands_from piece_of bare_len comment_len braced quoted utf8_valid_len is_utf8 chars encode
returns-clause-encoding c = refused (codes "save_system $a" ++ 0 ∷ 233 ∷ []) 1 14 ZeroByte refl
