-- Lines of words, cut where they were joined.
use Rattle.std.proofs.Common.{◌≡◌, ℕ, ◌<◌, ◌≤◌, ◌==◌, ◌&&◌, Bool, true, not, List, [], ◌∷◌, ◌++◌, length, refl, ap, ◌∙◌, arith}
use Rattle.std.specs.Prelude.{nat_lt}
use Rattle.std.specs.List.{list_all}
use Rattle.std.proofs.lemmas.Bool.{eq-eqb, lt-ltb, ltb-true, ne_eqb, and_parts}
use Rattle.std.proofs.lemmas.List.Folds.{list_all-append}
use Rattle.waves.specs.Cuts.{line_feed, carriage_return, blank, pieces, without_return, ended, lines}
use Rattle.waves.specs.CutLaws.{some_piece}
use Rattle.waves.specs.Words.{is_printable, is_filled, is_clean, words_of}

-- printable, and no blank
abbrev pub is_solid : ℕ → Bool
is_solid byte = nat_lt 32 byte && nat_lt byte 127

-- a word: some bytes, all of them solid
pub record IsWord (word : List ℕ) : Type 0 where
  pub solid : list_all is_solid word ≡ true
  pub some : is_filled word ≡ true

-- words with a blank between them
abbrev pub joined : List (List ℕ) → List ℕ
joined [] = []
joined (word ∷ []) = word
joined (word ∷ next ∷ others) = word ++ blank ∷ joined (next ∷ others)

abbrev pub AreWords : List (List ℕ) → Type 0
AreWords [] = Unit {0}
AreWords (word ∷ others) = IsWord word × AreWords others

-- ---- one piece

avoids : ℕ → ℕ → Bool
avoids parting byte = not (byte == parting)

solid_low : (byte : ℕ) → is_solid byte ≡ true → 32 < byte
solid_low byte s = ltb-true 32 byte (and_parts (nat_lt 32 byte) (nat_lt byte 127) s).0

solid_high : (byte : ℕ) → is_solid byte ≡ true → byte < 127
solid_high byte s = ltb-true byte 127 (and_parts (nat_lt 32 byte) (nat_lt byte 127) s).1

front : (parting : ℕ) (word rest : List ℕ) → parting ≤ 32 → list_all is_solid word ≡ true → pieces parting (word ++ parting ∷ rest) ≡ word ∷ pieces parting rest
front parting [] rest low s = rw (eq-eqb parting parting refl) refl
front parting (byte ∷ word) rest low s =
    let parts = and_parts (is_solid byte) (list_all is_solid word) s in
    let high = solid_low byte parts.0 in
    rw (ne_eqb byte parting (λ e. omega arith), front parting word rest low parts.1) refl

alone : (parting : ℕ) (word : List ℕ) → parting ≤ 32 → list_all is_solid word ≡ true → pieces parting word ≡ word ∷ []
alone parting [] low s = refl
alone parting (byte ∷ word) low s =
    let parts = and_parts (is_solid byte) (list_all is_solid word) s in
    let high = solid_low byte parts.0 in
    rw (ne_eqb byte parting (λ e. omega arith), alone parting word low parts.1) refl

-- ---- the words of a line

pub words_are : (word : List ℕ) (others : List (List ℕ)) → AreWords (word ∷ others) → words_of (joined (word ∷ others)) ≡ word ∷ others
words_are word [] are = alone blank word (omega arith) are.0.solid
words_are word (next ∷ others) are = front blank word (joined (next ∷ others)) (omega arith) are.0.solid ∙ ap (λ (ws : List (List ℕ)). word ∷ ws) (words_are next others are.1)

all_filled : (words : List (List ℕ)) → AreWords words → list_all is_filled words ≡ true
all_filled [] are = refl
all_filled (word ∷ others) are = rw (are.0.some, all_filled others are.1) refl

printable : (byte : ℕ) → is_solid byte ≡ true → is_printable byte ≡ true
printable byte s = let low = solid_low byte s in let high = solid_high byte s in rw (lt-ltb 31 byte (omega arith), lt-ltb byte 127 (omega arith)) refl

word_printable : (word : List ℕ) → list_all is_solid word ≡ true → list_all is_printable word ≡ true
word_printable [] s = refl
word_printable (byte ∷ word) s =
    let parts = and_parts (is_solid byte) (list_all is_solid word) s in
    rw (printable byte parts.0, word_printable word parts.1) refl

line_printable : (words : List (List ℕ)) → AreWords words → list_all is_printable (joined words) ≡ true
line_printable [] are = refl
line_printable (word ∷ []) are = word_printable word are.0.solid
line_printable (word ∷ next ∷ others) are =
    list_all-append is_printable word (blank ∷ joined (next ∷ others)) ∙ ap (λ (t : Bool). t && list_all is_printable (joined (next ∷ others))) (word_printable word are.0.solid) ∙ line_printable (next ∷ others) are.1

pub line_is_clean : (word : List ℕ) (others : List (List ℕ)) → AreWords (word ∷ others) → is_clean (joined (word ∷ others)) ≡ true
unfolding is_clean
line_is_clean word others are =
    ap (λ (t : Bool). t && list_all is_filled (words_of (joined (word ∷ others)))) (line_printable (word ∷ others) are)
    ∙ ap (list_all is_filled) (words_are word others are) ∙ all_filled (word ∷ others) are

-- ---- lines

printable_low : (byte : ℕ) → is_printable byte ≡ true → 31 < byte
printable_low byte s = ltb-true 31 byte (and_parts (nat_lt 31 byte) (nat_lt byte 127) s).0

first_line : (line rest : List ℕ) → list_all is_printable line ≡ true → pieces line_feed (line ++ line_feed ∷ rest) ≡ line ∷ pieces line_feed rest
first_line [] rest s = refl
first_line (byte ∷ line) rest s =
    let parts = and_parts (is_printable byte) (list_all is_printable line) s in
    let high = printable_low byte parts.0 in
    rw (ne_eqb byte line_feed (λ e. omega arith), first_line line rest parts.1) refl

whole : (line : List ℕ) → list_all is_printable line ≡ true → without_return line ≡ line
whole [] s = refl
whole (byte ∷ []) s =
    let parts = and_parts (is_printable byte) true s in
    let high = printable_low byte parts.0 in
    rw (ne_eqb byte carriage_return (λ e. omega arith)) refl
whole (byte ∷ next ∷ line) s =
    let parts = and_parts (is_printable byte) (list_all is_printable (next ∷ line)) s in
    ap (λ (bs : List ℕ). byte ∷ bs) (whole (next ∷ line) parts.1)

ended_more : (line : List ℕ) (ps : List (List ℕ)) → 0 < length ps → ended (line ∷ ps) ≡ without_return line ∷ ended ps
ended_more line [] h = absurd (omega arith)
ended_more [] (next ∷ others) h = refl
ended_more (byte ∷ rest) (next ∷ others) h = refl

line_ends : (line rest : List ℕ) → list_all is_printable line ≡ true → lines (line ++ line_feed ∷ rest) ≡ line ∷ lines rest
line_ends line rest s =
    ap ended (first_line line rest s) ∙ ended_more line (pieces line_feed rest) (some_piece line_feed rest) ∙ ap (λ (l : List ℕ). l ∷ lines rest) (whole line s)

pub lines_are : (words : List (List ℕ)) (rest : List ℕ) → AreWords words → lines (joined words ++ line_feed ∷ rest) ≡ joined words ∷ lines rest
lines_are words rest are = line_ends (joined words) rest (line_printable words are)
