-- What stands while the lines of cycles are read.
use Rattle.std.proofs.Common.{◌≡◌, ℕ, zero, suc, ◌+◌, ◌-◌, ◌<◌, ◌≤◌, Bool, true, false, cond, List, [], ◌∷◌, ◌++◌, length, take, drop, map, slice_get, Option, Some, None, refl, sym, ap, subst, ◌∙◌, below_more, arith}
use Rattle.std.specs.Prelude.{All, is_some, ◌==◌}
use Rattle.std.proofs.lemmas.Bool.{false≢true}
use Rattle.std.proofs.lemmas.Bool.Decides.{Decides-ltb}
use Rattle.std.proofs.lemmas.List.{take_all, drop_all, drop-drop, length-drop, map-append, length-map}
use Rattle.std.proofs.lemmas.List.Elements.{All-append}
use Rattle.std.proofs.lemmas.Option.{slice_get_past}
use Rattle.av_base.specs.Word.{Word}
use Rattle.waves.specs.declared.faults.WavesRule.{WavesRule}
use Rattle.waves.specs.declared.faults.WavesRule.TheVariants.{Lines, Values, Spelling}
use Rattle.waves.specs.declared.faults.WavesFault.{WavesFault}
use Rattle.waves.specs.declared.faults.WavesFault.TheVariants.{Refused}
use Rattle.waves.specs.CutLaws.{not_less}
use Rattle.waves.specs.Cuts.{lines, texts}
use Rattle.waves.specs.Rows.{row_of, row_rule}
use Rattle.waves.specs.Waves.{IsStart, IsFirstBroken, row_at, IsWavesOf, IsFaultIn, cycles_of, later, rule_at, line_rule, first_row, there_or_none}
use Rattle.waves.specs.Header.{cycles_in}

pub record IsReading (widths bytes : List ℕ) (from due at : ℕ) (starts : List ℕ) : Type 0 where
  pub within : at ≤ length bytes
  pub few : length starts ≤ due
  pub rest : drop (length starts) (lines (drop from bytes)) ≡ lines (drop at bytes)
  pub good : (cycle : ℕ) → cycle < length starts → rule_at widths due (lines (drop from bytes)) cycle ≡ None
  pub rows : map (row_of widths) (take (length starts) (lines (drop from bytes))) ≡ map Some (map (row_at widths bytes) starts)
  pub each : All (IsStart widths bytes) starts

-- what stands at a place of a list
record IsAt (n : ℕ) (xs : List (List ℕ)) (line : List ℕ) (rest : List (List ℕ)) : Type 0 where
  get : slice_get xs n ≡ Some line
  taken : take (suc n) xs ≡ take n xs ++ line ∷ []
  dropped : drop (suc n) xs ≡ rest

at_front : (n : ℕ) (xs : List (List ℕ)) (line : List ℕ) (rest : List (List ℕ)) → drop n xs ≡ line ∷ rest → IsAt n xs line rest
at_front zero xs line rest e = subst (λ ys. IsAt 0 ys line rest) (sym e) (record { get = refl; taken = refl; dropped = refl })
at_front (suc n) [] line rest e = cc
at_front (suc n) (x ∷ xs) line rest e =
    let h = at_front n xs line rest e in
    record { get = h.get; taken = ap (λ ys. x ∷ ys) h.taken; dropped = h.dropped }

pub none_then : (c s : Bool) → cond c (cond s None (Some Spelling)) (Some Values) ≡ None → s ≡ true
none_then true true e = refl
none_then true false e = cc
none_then false s e = cc

pub some_there : (row : Option (List Word)) → is_some row ≡ true → row ≡ Some (there_or_none row)
some_there (Some row) e = refl
some_there None e = absurd (false≢true e)

-- the line at a place, and the place behind it
pub front : (bytes : List ℕ) (at len next : ℕ) → lines (take (length bytes - at) (drop at bytes)) ≡ take len (take (length bytes - at) (drop at bytes)) ∷ lines (drop next (take (length bytes - at) (drop at bytes)))
    → lines (drop at bytes) ≡ take (at + len - at) (drop at bytes) ∷ lines (drop (at + next) bytes)
front bytes at len next e =
    let long = length-drop at bytes in
    let all : take (length bytes - at) (drop at bytes) ≡ drop at bytes = take_all (length bytes - at) (drop at bytes) (omega arith) in
    let size : len ≡ at + len - at = omega arith in
    subst (λ xs. lines xs ≡ take len xs ∷ lines (drop next xs)) all e ∙ ap (λ k. take k (drop at bytes) ∷ lines (drop next (drop at bytes))) size
    ∙ ap (λ xs. take (at + len - at) (drop at bytes) ∷ lines xs) (drop-drop next at bytes)

within_next : (bytes : List ℕ) (at next : ℕ) → at ≤ length bytes → next ≤ length (take (length bytes - at) (drop at bytes)) → at + next ≤ length bytes
within_next bytes at next l h =
    let long = length-drop at bytes in
    let all : take (length bytes - at) (drop at bytes) ≡ drop at bytes = take_all (length bytes - at) (drop at bytes) (omega arith) in
    let less : next ≤ length (drop at bytes) = subst (λ xs. next ≤ length xs) all h in
    omega arith

good_at : (widths line : List ℕ) (due n : ℕ) (there : List (List ℕ)) → slice_get there n ≡ Some line → n < due → row_rule widths line ≡ None → rule_at widths due there n ≡ None
good_at widths line due n there g l r =
    ap (λ o. line_rule widths due o n) g ∙ ap (λ b. cond b (row_rule widths line) (Some Lines)) ((Decides-ltb n due).1 l) ∙ r

row_is : (widths line bytes : List ℕ) (at : ℕ) (rest : List (List ℕ)) → lines (drop at bytes) ≡ line ∷ rest → is_some (row_of widths line) ≡ true → row_of widths line ≡ Some (row_at widths bytes at)
row_is widths line bytes at rest e s = some_there (row_of widths line) s ∙ ap (λ ls. Some (there_or_none (first_row widths ls))) (sym e)

is_start : (widths line bytes : List ℕ) (at : ℕ) (rest : List (List ℕ)) → at < length bytes → lines (drop at bytes) ≡ line ∷ rest → is_some (row_of widths line) ≡ true → IsStart widths bytes at
is_start widths line bytes at rest l e s = record { within = l; row = subst (λ ls. is_some (first_row widths ls) ≡ true) (sym e) s }

one_start : (widths bytes : List ℕ) (at : ℕ) → IsStart widths bytes at → All (IsStart widths bytes) (at ∷ [])
one_start widths bytes at s zero other less = s
one_start widths bytes at s (suc k) other less = absurd (omega arith)

longer : (starts : List ℕ) (at : ℕ) → length (starts ++ at ∷ []) ≡ suc (length starts)
longer [] at = refl
longer (x ∷ xs) at = ap suc (longer xs at)

-- a line more
pub next_reading : (widths bytes : List ℕ) (from due at : ℕ) (starts : List ℕ) (len next : ℕ) → IsReading widths bytes from due at starts → at < length bytes → length starts < due
    → lines (take (length bytes - at) (drop at bytes)) ≡ take len (take (length bytes - at) (drop at bytes)) ∷ lines (drop next (take (length bytes - at) (drop at bytes)))
    → next ≤ length (take (length bytes - at) (drop at bytes)) → row_rule widths (take (at + len - at) (drop at bytes)) ≡ None
    → IsReading widths bytes from due (at + next) (starts ++ at ∷ [])
next_reading widths bytes from due at starts len next h l d e w r =
    let there = lines (drop from bytes) in
    let n = length starts in
    let line = take (at + len - at) (drop at bytes) in
    let behind = lines (drop (at + next) bytes) in
    let front = front bytes at len next e in
    let place = at_front n there line behind (h.rest ∙ front) in
    let some : is_some (row_of widths line) ≡ true = none_then (length (texts line) == length widths) (is_some (row_of widths line)) r in
    let more = longer starts at in
    record {
      within = within_next bytes at next h.within w;
      few = omega arith;
      rest = ap (λ k. drop k there) more ∙ place.dropped;
      good = λ cycle less. below_more (λ k. rule_at widths due there k ≡ None) n h.good (good_at widths line due n there place.get d r) cycle (omega arith);
      rows = ap (λ k. map (row_of widths) (take k there)) more ∙ ap (λ xs. map (row_of widths) xs) place.taken ∙ map-append (row_of widths) (take n there) (line ∷ [])
          ∙ ap (λ xs. xs ++ row_of widths line ∷ []) h.rows ∙ ap (λ o. map Some (map (row_at widths bytes) starts) ++ o ∷ []) (row_is widths line bytes at behind front some)
          ∙ sym (map-append Some (map (row_at widths bytes) starts) (row_at widths bytes at ∷ [])) ∙ ap (λ xs. map Some xs) (sym (map-append (row_at widths bytes) starts (at ∷ [])));
      each = All-append (IsStart widths bytes) starts (at ∷ []) h.each (one_start widths bytes at (is_start widths line bytes at behind l front some));
    }

-- ---- the faults

pub one_too_many : (widths bytes : List ℕ) (from due at : ℕ) (starts : List ℕ) (len next : ℕ) → IsReading widths bytes from due at starts → due ≤ length starts
    → lines (take (length bytes - at) (drop at bytes)) ≡ take len (take (length bytes - at) (drop at bytes)) ∷ lines (drop next (take (length bytes - at) (drop at bytes)))
    → IsFirstBroken widths due (lines (drop from bytes)) (length starts) Lines
one_too_many widths bytes from due at starts len next h d e =
    let there = lines (drop from bytes) in
    let n = length starts in
    let line = take (at + len - at) (drop at bytes) in
    let place = at_front n there line (lines (drop (at + next) bytes)) (h.rest ∙ front bytes at len next e) in
    record {
      broken = ap (λ o. line_rule widths due o n) place.get ∙ ap (λ b. cond b (row_rule widths line) (Some Lines)) (not_less n due d);
      before = h.good;
    }

pub bad_row : (widths bytes : List ℕ) (from due at : ℕ) (starts : List ℕ) (len next : ℕ) (rule : WavesRule) → IsReading widths bytes from due at starts → length starts < due
    → lines (take (length bytes - at) (drop at bytes)) ≡ take len (take (length bytes - at) (drop at bytes)) ∷ lines (drop next (take (length bytes - at) (drop at bytes)))
    → row_rule widths (take (at + len - at) (drop at bytes)) ≡ Some rule
    → IsFirstBroken widths due (lines (drop from bytes)) (length starts) rule
bad_row widths bytes from due at starts len next rule h d e r =
    let there = lines (drop from bytes) in
    let n = length starts in
    let line = take (at + len - at) (drop at bytes) in
    let place = at_front n there line (lines (drop (at + next) bytes)) (h.rest ∙ front bytes at len next e) in
    record {
      broken = ap (λ o. line_rule widths due o n) place.get ∙ ap (λ b. cond b (row_rule widths line) (Some Lines)) ((Decides-ltb n due).1 d) ∙ r;
      before = h.good;
    }

gone : (n : ℕ) (xs : List (List ℕ)) → drop n xs ≡ [] → length xs ≤ n
gone zero [] e = omega arith
gone zero (x ∷ xs) e = cc
gone (suc n) [] e = omega arith
gone (suc n) (x ∷ xs) e = let less = gone n xs e in omega arith

at_last : (widths bytes : List ℕ) (from due at : ℕ) (starts : List ℕ) → IsReading widths bytes from due at starts → length bytes ≤ at → length (lines (drop from bytes)) ≤ length starts
at_last widths bytes from due at starts h l = gone (length starts) (lines (drop from bytes)) (h.rest ∙ ap lines (drop_all at bytes l))

pub one_missing : (widths bytes : List ℕ) (from due at : ℕ) (starts : List ℕ) → IsReading widths bytes from due at starts → length bytes ≤ at → length starts < due
    → IsFirstBroken widths due (lines (drop from bytes)) (length starts) Lines
one_missing widths bytes from due at starts h l d =
    let there = lines (drop from bytes) in
    let n = length starts in
    record {
      broken = ap (λ o. line_rule widths due o n) (slice_get_past there n (at_last widths bytes from due at starts h l)) ∙ ap (λ b. cond b (Some Lines) None) ((Decides-ltb n due).1 d);
      before = h.good;
    }

pub all_read : (widths bytes : List ℕ) (from due at : ℕ) (starts : List ℕ) → IsReading widths bytes from due at starts → length bytes ≤ at
    → map (row_of widths) (lines (drop from bytes)) ≡ map Some (map (row_at widths bytes) starts)
all_read widths bytes from due at starts h l =
    ap (λ xs. map (row_of widths) xs) (sym (take_all (length starts) (lines (drop from bytes)) (at_last widths bytes from due at starts h l))) ∙ h.rows

pub faulty : (widths : List ℕ) (due n m : ℕ) (there : List (List ℕ)) (rule : WavesRule) (fault : WavesFault) → fault ≡ Refused (m + 2) rule → m ≡ n → IsFirstBroken widths due there n rule
    → IsFaultIn widths due there fault
faulty widths due n m there rule fault e same broken = subst (λ f. IsFaultIn widths due there f) (sym e) ((n, ap (λ k. k + 2) same, broken))

-- the first line and those of the cycles are a whole file
pub is_waves : (widths bytes starts : List ℕ) (len next due : ℕ) → lines bytes ≡ take len bytes ∷ lines (drop next bytes) → cycles_in (take len bytes) ≡ Some due → length starts ≡ due
    → map (row_of widths) (lines (drop next bytes)) ≡ map Some (map (row_at widths bytes) starts) → IsWavesOf widths bytes (map (row_at widths bytes) starts)
is_waves widths bytes starts len next due e c n r = record {
  cycles = ap cycles_of e ∙ c ∙ ap Some (sym n ∙ sym (length-map starts (row_at widths bytes)));
  each = ap (λ ls. map (row_of widths) (later ls)) e ∙ r;
}
