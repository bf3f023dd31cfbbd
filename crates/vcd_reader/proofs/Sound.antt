-- What stands in a text of which a dump is told: the dump's own text.
use Rattle.std.proofs.Common.{◌≡◌, ℕ, zero, suc, ◌+◌, ◌-◌, ◌<◌, ◌≤◌, ◌==◌, ◌&&◌, ◌||◌, Bool, true, false, not, inl, inr, List, [], ◌∷◌, ◌++◌, length, length-append, refl, sym, ap, subst, ◌∙◌, eq-eqb, append_assoc, append-nil, arith}
use Rattle.std.specs.Prelude.{nat_lt, slice_set}
use Rattle.std.proofs.lemmas.Bool.{lt-ltb, eqb-true, ltb-true, cases_lt, and_parts}
use Rattle.std.proofs.Math.Seq.{set-append_seam, get_or-append_seam}
use Rattle.av_base.specs.Word.{Word, word}
use Rattle.vcd_text.specs.Text.{value_line as line_of_value, values_text, changes_text, some_change}
use Rattle.vcd_text.specs.Dumps.{IsValue}
use Rattle.vcd_reader.specs.Found.{Found, followed}
use Rattle.vcd_reader.specs.Readings.{begins, value_line, first_values, width_at, bits_at, change_line, change_lines}
use Rattle.vcd_reader.proofs.Lines.{AreValues, change_by}
use Rattle.vcd_reader.proofs.Whole.{values_count}
use Rattle.vcd_reader.proofs.Told.{parted, same_told, value_line_told, IsValueTold}

-- ---- the first values

abbrev pub AreWidths : List ℕ → Type 0
AreWidths [] = Unit {0}
AreWidths (width ∷ widths) = (1 ≤ width) × (width ≤ 128) × AreWidths widths

pub record IsFirstTold (k : ℕ) (widths text : List ℕ) (row : List Word) (rest : List ℕ) : Type 0 where
  pub is : text ≡ values_text k row ++ rest
  pub are : AreValues widths row

pub first_told : (k : ℕ) (widths text : List ℕ) (row : List Word) (rest : List ℕ) → AreWidths widths → first_values k widths text ≡ Found.told row rest → IsFirstTold k widths text row rest
first_told k [] text row rest ok e =
    let same = same_told {A = List Word} [] row text rest e in
    record { is = same.rest ∙ ap (λ (r : List Word). values_text k r ++ rest) same.value; are = subst (λ (r : List Word). AreValues [] r) same.value tt }
first_told k (width ∷ widths) text row rest ok e =
    let one = parted (value_line (λ _. width) (λ port. port == k) (λ _ _. true) text) (λ line text. followed (first_values (k + 1) widths text) (λ values text. Found.told (line.1 ∷ values) text)) row rest e in
    let two = parted (first_values (k + 1) widths one.middle) (λ values text. Found.told (one.value.1 ∷ values) text) row rest one.later in
    let here = value_line_told (λ _. width) (λ port. port == k) (λ _ _. true) text one.value one.middle (λ j h. (ok.0, ok.1)) one.first in
    let later = first_told (k + 1) widths one.middle two.value two.middle ok.2 two.first in
    let same = same_told (one.value.1 ∷ two.value) row two.middle rest two.later in
    let number : one.value.0 ≡ k = eqb-true one.value.0 k here.let_in in
    record {
      is = here.is ∙ ap (λ (j : ℕ). line_of_value j one.value.1 ++ one.middle) number ∙ ap (λ (bs : List ℕ). line_of_value k one.value.1 ++ bs) later.is
          ∙ sym (append_assoc (line_of_value k one.value.1) (values_text (k + 1) two.value) two.middle)
          ∙ ap (λ (r : List Word). values_text k r ++ two.middle) same.value ∙ ap (λ (bs : List ℕ). values_text k row ++ bs) same.rest;
      are = subst (λ (r : List Word). AreValues (width ∷ widths) r) same.value (here.wide, here.is_value, later.are);
    }

-- ---- changes

same_front : (k : ℕ) (same before now : List Word) → changes_text k (same ++ before) (same ++ now) ≡ changes_text (k + length same) before now
same_front k [] before now = let e : k ≡ k + 0 = omega arith in ap (λ (m : ℕ). changes_text m before now) e
same_front k (v ∷ same) before now =
    let e : k + 1 + length same ≡ k + length (v ∷ same) = omega arith in
    ap (λ (bs : List ℕ). bs ++ changes_text (k + 1) (same ++ before) (same ++ now)) (change_by k v v true (eq-eqb v.bits v.bits refl))
    ∙ same_front (k + 1) same before now ∙ ap (λ (m : ℕ). changes_text m before now) e

no_changes : (k : ℕ) (row : List Word) → changes_text k row row ≡ []
no_changes k [] = refl
no_changes k (v ∷ row) = ap (λ (bs : List ℕ). bs ++ changes_text (k + 1) row row) (change_by k v v true (eq-eqb v.bits v.bits refl)) ∙ no_changes (k + 1) row

pub none_changes : (row : List Word) → some_change row row ≡ false
none_changes [] = refl
none_changes (v ∷ row) = ap (λ (t : Bool). not t || some_change row row) (eq-eqb v.bits v.bits refl) ∙ none_changes row

change_behind : (same before now : List Word) → some_change (same ++ before) (same ++ now) ≡ some_change before now
change_behind [] before now = refl
change_behind (v ∷ same) before now = ap (λ (t : Bool). not t || some_change (same ++ before) (same ++ now)) (eq-eqb v.bits v.bits refl) ∙ change_behind same before now

pub record Split {X : Type 0} (xs : List X) (i : ℕ) : Type 0 where
  pub same : List X
  pub here : X
  pub later : List X
  pub is : xs ≡ same ++ here ∷ later
  pub count : length same ≡ i

split : {X : Type 0} (xs : List X) (i : ℕ) → i < length xs → Split xs i
split [] i h = absurd (omega arith)
split (x ∷ xs) zero h = record { same = []; here = x; later = xs; is = refl; count = refl }
split {X} (x ∷ xs) (suc i) h =
    let s = split xs i (omega arith) in
    record { same = x ∷ s.same; here = s.here; later = s.later; is = ap (λ (ys : List X). x ∷ ys) s.is; count = ap suc s.count }

-- one value among others, each of its width
pub record AreAround (one : List ℕ) (width : ℕ) (other : List ℕ) (same : List Word) (value : Word) (later : List Word) : Type 0 where
  pub before : AreValues one same
  pub wide : value.width ≡ width
  pub is_value : IsValue value
  pub behind : AreValues other later

around : (one : List ℕ) (width : ℕ) (other : List ℕ) (same : List Word) (value : Word) (later : List Word) → length same ≡ length one → AreValues (one ++ width ∷ other) (same ++ value ∷ later) → AreAround one width other same value later
around [] width other [] value later e are = record { before = tt; wide = are.0; is_value = are.1; behind = are.2 }
around [] width other (v ∷ same) value later e are = absurd (omega arith)
around (w ∷ one) width other [] value later e are = absurd (omega arith)
around (w ∷ one) width other (v ∷ same) value later e are =
    let more = around one width other same value later (omega arith) are.2 in
    record { before = (are.0, are.1, more.before); wide = more.wide; is_value = more.is_value; behind = more.behind }

joined : (one : List ℕ) (width : ℕ) (other : List ℕ) (same : List Word) (value : Word) (later : List Word) → AreValues one same → value.width ≡ width → IsValue value → AreValues other later → AreValues (one ++ width ∷ other) (same ++ value ∷ later)
joined [] width other [] value later before wide is behind = (wide, is, behind)
joined [] width other (v ∷ same) value later before wide is behind = absurd before
joined (w ∷ one) width other [] value later before wide is behind = absurd before
joined (w ∷ one) width other (v ∷ same) value later before wide is behind = (before.0, before.1, joined one width other same value later before.2 wide is behind)

-- what changes behind the ports that are done
pub record AreChanged (k : ℕ) (later : List ℕ) (done before now : List Word) (text rest : List ℕ) : Type 0 where
  pub after : List Word
  pub row : now ≡ done ++ after
  pub is : text ≡ changes_text k before after ++ rest
  pub are : AreValues later after
  pub some : some_change before after ≡ true
  pub hash : begins 35 rest ≡ true

-- the value of a later port changes, and the others up to it stay
port_changes : (few k p : ℕ) (front one : List ℕ) (width : ℕ) (other : List ℕ) (done same : List Word) (old value : Word) (later now : List Word) (text middle rest : List ℕ) (t : Bool)
    → length front ≡ k → length done ≡ k → length same ≡ length one → k + length one ≡ p → AreValues (one ++ width ∷ other) (same ++ old ∷ later)
    → text ≡ line_of_value p value ++ middle → value.width ≡ width_at (front ++ (one ++ width ∷ other)) p → IsValue value → not (value.bits == bits_at (done ++ (same ++ old ∷ later)) p) ≡ true → begins 35 middle ≡ t
    → elim t [
      | true ↦ Found.told (slice_set (done ++ (same ++ old ∷ later)) p value) middle
      | false ↦ change_lines few (front ++ (one ++ width ∷ other)) (p + 1) (slice_set (done ++ (same ++ old ∷ later)) p value) middle
    ] ≡ Found.told now rest
    → (change_lines few ((front ++ one ++ width ∷ []) ++ other) (p + 1) ((done ++ same ++ value ∷ []) ++ later) middle ≡ Found.told now rest → AreValues other later → AreChanged (p + 1) other (done ++ same ++ value ∷ []) later now middle rest)
    → AreChanged k (one ++ width ∷ other) done (same ++ old ∷ later) now text rest
port_changes few k p front one width other done same old value later now text middle rest t fl dl sl at are is wide is_value changes hash e more =
    let widths_are : front ++ (one ++ width ∷ other) ≡ front ++ one ++ width ∷ other = sym (append_assoc front one (width ∷ other)) in
    let row_is : done ++ (same ++ old ∷ later) ≡ done ++ same ++ old ∷ later = sym (append_assoc done same (old ∷ later)) in
    let front_count : length (front ++ one) ≡ p = omega (arith, length-append front one) in
    let done_count : length (done ++ same) ≡ p = omega (arith, length-append done same) in
    let own_width : width_at (front ++ (one ++ width ∷ other)) p ≡ width =
    ap (λ (ws : List ℕ). width_at ws p) widths_are ∙ ap (λ (n : ℕ). width_at (front ++ one ++ width ∷ other) n) (sym front_count) ∙ get_or-append_seam (front ++ one) width other 0 in
    let old_bits : bits_at (done ++ (same ++ old ∷ later)) p ≡ old.bits =
    ap (λ (r : List Word). bits_at r p) row_is ∙ ap (λ (n : ℕ). bits_at (done ++ same ++ old ∷ later) n) (sym done_count) ∙ ap (λ (v : Word). v.bits) (get_or-append_seam (done ++ same) old later (word 0 0)) in
    let differs : (value.bits == old.bits) ≡ false = other_bits (value.bits == old.bits) (ap (λ (b : ℕ). not (value.bits == b)) (sym old_bits) ∙ changes) in
    let set : slice_set (done ++ (same ++ old ∷ later)) p value ≡ done ++ same ++ value ∷ later =
    ap (λ (r : List Word). slice_set r p value) row_is ∙ ap (λ (n : ℕ). slice_set (done ++ same ++ old ∷ later) n value) (sym done_count) ∙ set-append_seam (done ++ same) old later value in
    let sides = around one width other same old later sl are in
    let wide_here : value.width ≡ width = wide ∙ own_width in
    let begins_as : (after : List Word) → changes_text k (same ++ old ∷ later) (same ++ value ∷ after) ≡ line_of_value p value ++ changes_text (p + 1) later after =
    λ after. same_front k same (old ∷ later) (value ∷ after)
    ∙ ap (λ (m : ℕ). changes_text m (old ∷ later) (value ∷ after)) count_here
    ∙ ap (λ (bs : List ℕ). bs ++ changes_text (p + 1) later after) (change_by p old value false differs) in
    let changes_here : (after : List Word) → some_change (same ++ old ∷ later) (same ++ value ∷ after) ≡ true =
    λ after. change_behind same (old ∷ later) (value ∷ after) ∙ ap (λ (t : Bool). not t || some_change later after) differs in
    ended t e hash widths_are set sides wide_here begins_as changes_here
  where
    count_here : k + length same ≡ p
    count_here = omega arith

    other_bits : (t : Bool) → not t ≡ true → t ≡ false
    other_bits true h = sym h
    other_bits false h = refl

    ended : (t : Bool) → elim t [
      | true ↦ Found.told (slice_set (done ++ (same ++ old ∷ later)) p value) middle
      | false ↦ change_lines few (front ++ (one ++ width ∷ other)) (p + 1) (slice_set (done ++ (same ++ old ∷ later)) p value) middle
    ] ≡ Found.told now rest
        → begins 35 middle ≡ t → front ++ (one ++ width ∷ other) ≡ front ++ one ++ width ∷ other → slice_set (done ++ (same ++ old ∷ later)) p value ≡ done ++ same ++ value ∷ later
        → AreAround one width other same old later → value.width ≡ width
        → ((after : List Word) → changes_text k (same ++ old ∷ later) (same ++ value ∷ after) ≡ line_of_value p value ++ changes_text (p + 1) later after)
        → ((after : List Word) → some_change (same ++ old ∷ later) (same ++ value ∷ after) ≡ true)
        → AreChanged k (one ++ width ∷ other) done (same ++ old ∷ later) now text rest
    ended true e hash widths_are set sides wide_here begins_as changes_here =
        let told = same_told (slice_set (done ++ (same ++ old ∷ later)) p value) now middle rest e in
        record {
          after = same ++ value ∷ later;
          row = sym told.value ∙ set ∙ append_assoc done same (value ∷ later);
          is = is ∙ ap (λ (bs : List ℕ). line_of_value p value ++ bs) told.rest ∙ ap (λ (bs : List ℕ). bs ++ rest) (sym (append-nil (line_of_value p value)))
              ∙ ap (λ (bs : List ℕ). line_of_value p value ++ bs ++ rest) (sym (no_changes (p + 1) later)) ∙ ap (λ (bs : List ℕ). bs ++ rest) (sym (begins_as later));
          are = joined one width other same value later sides.before wide_here is_value sides.behind;
          some = changes_here later;
          hash = subst (λ (bs : List ℕ). begins 35 bs ≡ true) told.rest hash;
        }
    ended false e hash widths_are set sides wide_here begins_as changes_here =
        let widths_on : front ++ (one ++ width ∷ other) ≡ (front ++ one ++ width ∷ []) ++ other = widths_are ∙ sym (append_assoc (front ++ one) (width ∷ []) other) in
        let row_on : slice_set (done ++ (same ++ old ∷ later)) p value ≡ (done ++ same ++ value ∷ []) ++ later = set ∙ sym (append_assoc (done ++ same) (value ∷ []) later) in
        let behind = more (sym (ap (λ (ws : List ℕ). change_lines few ws (p + 1) (slice_set (done ++ (same ++ old ∷ later)) p value) middle) widths_on
        ∙ ap (λ (r : List Word). change_lines few ((front ++ one ++ width ∷ []) ++ other) (p + 1) r middle) row_on) ∙ e) sides.behind in
        record {
          after = same ++ value ∷ behind.after;
          row = behind.row ∙ append_assoc (done ++ same) (value ∷ []) behind.after ∙ append_assoc done same (value ∷ behind.after);
          is = is ∙ ap (λ (bs : List ℕ). line_of_value p value ++ bs) behind.is ∙ sym (append_assoc (line_of_value p value) (changes_text (p + 1) later behind.after) rest)
              ∙ ap (λ (bs : List ℕ). bs ++ rest) (sym (begins_as behind.after));
          are = joined one width other same value behind.after sides.before wide_here is_value behind.are;
          some = changes_here behind.after;
          hash = behind.hash;
        }

width_small : (widths : List ℕ) (j : ℕ) → AreWidths widths → j < length widths → (1 ≤ width_at widths j) × (width_at widths j ≤ 128)
width_small [] j ok h = absurd (omega arith)
width_small (width ∷ widths) zero ok h = (ok.0, ok.1)
width_small (width ∷ widths) (suc j) ok h = width_small widths j ok.2 (omega arith)

not_below : (p k : ℕ) → not (nat_lt p k) ≡ true → k ≤ p
not_below p k h = elim (cases_lt p k) [ inl low ↦ absurd (clash (sym h ∙ ap not (lt-ltb p k low))) | inr high ↦ high ]
  where
    clash : true ≡ false → ⊥
    clash e = cc

pub changes_told : (few k : ℕ) (front later : List ℕ) (done before now : List Word) (text rest : List ℕ) → length front ≡ k → length done ≡ k → AreWidths (front ++ later) → AreValues later before
    → change_lines few (front ++ later) k (done ++ before) text ≡ Found.told now rest → AreChanged k later done before now text rest
changes_told zero k front later done before now text rest fl dl ok are e = cc
changes_told (suc few) k front later done before now text rest fl dl ok are e =
    let widths = front ++ later in
    let row = done ++ before in
    let lets_in : ℕ → Bool = λ port. not (nat_lt port k) && nat_lt port (length widths) in
    let one = parted (change_line widths k row text) (λ line text. elim (begins 35 text) [
      | true ↦ Found.told (slice_set row line.0 line.1) text
      | false ↦ change_lines few widths (line.0 + 1) (slice_set row line.0 line.1) text
    ]) now rest e in
    let here = value_line_told (width_at widths) lets_in (λ port now. not (now.bits == bits_at row port)) text one.value one.middle
    (λ j h. let parts = and_parts (not (nat_lt j k)) (nat_lt j (length widths)) h in width_small widths j ok (ltb-true j (length widths) parts.1)) one.first in
    let p = one.value.0 in
    let parts = and_parts (not (nat_lt p k)) (nat_lt p (length widths)) here.let_in in
    let low = not_below p k parts.0 in
    let high = ltb-true p (length widths) parts.1 in
    let count = values_count later before are in
    let inside : p - k < length later = omega (arith, low, high, length-append front later) in
    let ws = split later (p - k) inside in
    let vs = split before (p - k) (omega (arith, inside, count)) in
    by_parts (λ k front later done before now text rest fl dl ok are e. changes_told few k front later done before now text rest fl dl ok are e) ws.same ws.here ws.later vs.same vs.here vs.later one.value one.middle ws.is vs.is (omega (arith, ws.count, vs.count)) (omega (arith, ws.count, low)) here one.later
  where
    by_parts : ((k : ℕ) (front later : List ℕ) (done before now : List Word) (text rest : List ℕ) → length front ≡ k → length done ≡ k → AreWidths (front ++ later) → AreValues later before
        → change_lines few (front ++ later) k (done ++ before) text ≡ Found.told now rest → AreChanged k later done before now text rest)
        → (ws : List ℕ) (w : ℕ) (wl : List ℕ) (vs : List Word) (v : Word) (vl : List Word) (line : ℕ × Word) (middle : List ℕ) → later ≡ ws ++ w ∷ wl → before ≡ vs ++ v ∷ vl → length vs ≡ length ws → k + length ws ≡ line.0
        → IsValueTold (width_at (front ++ later)) (λ port. not (nat_lt port k) && nat_lt port (length (front ++ later))) (λ port now. not (now.bits == bits_at (done ++ before) port)) text line middle
        → elim (begins 35 middle) [
          | true ↦ Found.told (slice_set (done ++ before) line.0 line.1) middle
          | false ↦ change_lines few (front ++ later) (line.0 + 1) (slice_set (done ++ before) line.0 line.1) middle
        ] ≡ Found.told now rest → AreChanged k later done before now text rest
    by_parts told_on ws w wl vs v vl line middle wis vis count at here e =
        let whole : AreChanged k (ws ++ w ∷ wl) done (vs ++ v ∷ vl) now text rest =
        port_changes few k line.0 front ws w wl done vs v line.1 vl now text middle rest (begins 35 middle) fl dl count at
        (subst (λ (l : List ℕ). AreValues l (vs ++ v ∷ vl)) wis (subst (λ (b : List Word). AreValues later b) vis are))
        here.is (here.wide ∙ ap (λ (l : List ℕ). width_at (front ++ l) line.0) wis) here.is_value (sym (ap (λ (b : List Word). not (line.1.bits == bits_at (done ++ b) line.0)) vis) ∙ here.fit) refl
        (sym (ap (λ (l : List ℕ). elim (begins 35 middle) [
          | true ↦ Found.told (slice_set (done ++ before) line.0 line.1) middle
          | false ↦ change_lines few (front ++ l) (line.0 + 1) (slice_set (done ++ before) line.0 line.1) middle
        ]) wis ∙ ap (λ (b : List Word). elim (begins 35 middle) [
          | true ↦ Found.told (slice_set (done ++ b) line.0 line.1) middle
          | false ↦ change_lines few (front ++ (ws ++ w ∷ wl)) (line.0 + 1) (slice_set (done ++ b) line.0 line.1) middle
        ]) vis) ∙ e)
        (λ f g. told_on (line.0 + 1) (front ++ ws ++ w ∷ []) wl (done ++ vs ++ line.1 ∷ []) vl now middle rest
        (omega (arith, length-append (front ++ ws) (w ∷ []), length-append front ws)) (omega (arith, length-append (done ++ vs) (line.1 ∷ []), length-append done vs))
        (subst AreWidths (ap (λ (l : List ℕ). front ++ l) wis ∙ sym (append_assoc front ws (w ∷ wl)) ∙ sym (append_assoc (front ++ ws) (w ∷ []) wl)) ok) g f) in
        subst (λ (b : List Word). AreChanged k later done b now text rest) (sym vis) (subst (λ (l : List ℕ). AreChanged k l done (vs ++ v ∷ vl) now text rest) (sym wis) whole)
