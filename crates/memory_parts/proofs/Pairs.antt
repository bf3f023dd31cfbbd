-- Words under the tags of their reads: those of one host are paired with the reads of that host.
use Rattle.std.proofs.Common.{ℕ, zero, suc, ◌≡◌, [], ◌∷◌, ◌++◌, List, Bool, true, false, ◌&&◌, nat_eq, refl, sym, ap, ap₂, ◌∙◌, map, filter, flat_map, zip}
use Rattle.std.proofs.lemmas.List.{map-append}
use Rattle.std.proofs.lemmas.List.Elements.{filter-append}
use Rattle.histories.specs.History.{IsPrefix, numbers, before, only_if, is_raised}
use Rattle.memory_runs.specs.Views.{Shape}
use Rattle.memory_runs.specs.Operations.{Beat, is_enabled, filled_lanes, byte_at}
use Rattle.memory_runs.specs.Commands.{is_of_reads}
use Rattle.memory_runs.specs.Legal.{Word}
use Rattle.memory_runs.specs.Order.{Answer, TaggedBeat, answers_in, answers_to}
use Rattle.memory_machines.specs.Link.{Target, Marked, bytes_in, read_beats}
use Rattle.memory_machines.specs.Lines.{TaggedPort, with_tag, words_with, word_tags}
use Rattle.memory_parts.proofs.Alike.{AreAlike, tag_all}
use Rattle.memory_parts.proofs.Alike.AreAlike.{one_more}

pub record TaggedWord : Type 0 where
  pub tag : ℕ
  pub word : Word

-- the words that have come, with their tags
abbrev pub words_up : TaggedPort → ℕ → List TaggedWord
words_up tagged c = before (λ c. only_if (is_raised (tagged.answers.valid c)) (record { tag = tagged.answer_tag c; word = record { word = tagged.answers.word c; code = tagged.answers.code c } })) c

abbrev pub of_tag : ℕ → List TaggedWord → List Word
of_tag h ws = map (λ (w : TaggedWord). w.word) (filter (λ (w : TaggedWord). nat_eq w.tag h) ws)

pub words_of_tag : (h : ℕ) (tagged : TaggedPort) (c : ℕ) → words_with h tagged c ≡ of_tag h (words_up tagged c)
words_of_tag h tagged zero = refl
words_of_tag h tagged (suc c) =
    ap₂ (λ x y. x ++ y) (words_of_tag h tagged c) (one (is_raised (tagged.answers.valid c)) (nat_eq (tagged.answer_tag c) h) refl)
    ∙ sym (ap (map (λ (w : TaggedWord). w.word)) (filter-append (λ (w : TaggedWord). nat_eq w.tag h) (words_up tagged c) _) ∙ map-append (λ (w : TaggedWord). w.word) (filter (λ (w : TaggedWord). nat_eq w.tag h) (words_up tagged c)) _)
  where
    here : Word
    here = record { word = tagged.answers.word c; code = tagged.answers.code c }

    one : (v t : Bool) → nat_eq (tagged.answer_tag c) h ≡ t → only_if (v && t) here ≡ of_tag h (only_if v (record { tag = tagged.answer_tag c; word = here }))
    one true true is = rw is refl
    one true false is = rw is refl
    one false t is = refl

pub tags_are : (tagged : TaggedPort) (c : ℕ) → word_tags tagged c ≡ map (λ (w : TaggedWord). w.tag) (words_up tagged c)
tags_are tagged zero = refl
tags_are tagged (suc c) =
    ap₂ (λ x y. x ++ y) (tags_are tagged c) (one (is_raised (tagged.answers.valid c)))
    ∙ sym (map-append (λ (w : TaggedWord). w.tag) (words_up tagged c) _)
  where
    one : (v : Bool) → only_if v (tagged.answer_tag c) ≡ map (λ (w : TaggedWord). w.tag) (only_if v (record { tag = tagged.answer_tag c; word = record { word = tagged.answers.word c; code = tagged.answers.code c } }))
    one true = refl
    one false = refl

-- the read beats of transfers, with their tags
abbrev pub reads_up : List Marked → List TaggedBeat
reads_up ms = flat_map (λ (m : Marked). tag_all m.tag m.transfer.beats) (filter (λ (m : Marked). is_of_reads m.transfer.kind) ms)

abbrev pub beats_with_tag : ℕ → List TaggedBeat → List Beat
beats_with_tag h ts = map (λ (t : TaggedBeat). t.beat) (filter (λ (t : TaggedBeat). nat_eq t.tag h) ts)

own_all : (h tag : ℕ) (beats : List Beat) → nat_eq tag h ≡ true → beats_with_tag h (tag_all tag beats) ≡ beats
own_all h tag [] is = refl
own_all h tag (b ∷ beats) is = rw is (ap (λ l. b ∷ l) (own_all h tag beats is))

own_none : (h tag : ℕ) (beats : List Beat) → nat_eq tag h ≡ false → beats_with_tag h (tag_all tag beats) ≡ []
own_none h tag [] is = refl
own_none h tag (b ∷ beats) is = rw is (own_none h tag beats is)

pub read_beats_are : (h : ℕ) (ms : List Marked) → read_beats (with_tag h ms) ≡ beats_with_tag h (reads_up ms)
read_beats_are h [] = refl
read_beats_are h (m ∷ ms) = by_both (nat_eq m.tag h) (is_of_reads m.transfer.kind) refl refl (read_beats_are h ms)
  where
    split : beats_with_tag h (tag_all m.tag m.transfer.beats ++ reads_up ms) ≡ beats_with_tag h (tag_all m.tag m.transfer.beats) ++ beats_with_tag h (reads_up ms)
    split = ap (map (λ (t : TaggedBeat). t.beat)) (filter-append (λ (t : TaggedBeat). nat_eq t.tag h) (tag_all m.tag m.transfer.beats) (reads_up ms)) ∙ map-append (λ (t : TaggedBeat). t.beat) (filter (λ (t : TaggedBeat). nat_eq t.tag h) (tag_all m.tag m.transfer.beats)) (filter (λ (t : TaggedBeat). nat_eq t.tag h) (reads_up ms))

    by_both : (t r : Bool) → nat_eq m.tag h ≡ t → is_of_reads m.transfer.kind ≡ r → read_beats (with_tag h ms) ≡ beats_with_tag h (reads_up ms) → read_beats (with_tag h (m ∷ ms)) ≡ beats_with_tag h (reads_up (m ∷ ms))
    by_both true true t r ih = rw (t, r) (ap₂ (λ x y. x ++ y) (sym (own_all h m.tag m.transfer.beats t)) ih ∙ sym split)
    by_both true false t r ih = rw (t, r) ih
    by_both false true t r ih = rw (t, r) (ih ∙ sym (split ∙ ap (λ l. l ++ beats_with_tag h (reads_up ms)) (own_none h m.tag m.transfer.beats t)))
    by_both false false t r ih = rw (t, r) ih

-- words that bear the tags of the beats in order
pub data AreUnderTags : List TaggedBeat → List TaggedWord → Type 0 where
  no_words : {ts : List TaggedBeat} → AreUnderTags ts []
  one_word : {t : TaggedBeat} {w : TaggedWord} {ts : List TaggedBeat} {ws : List TaggedWord} → w.tag ≡ t.tag → AreUnderTags ts ws → AreUnderTags (t ∷ ts) (w ∷ ws)

pub under_tags : (ts : List TaggedBeat) (ws : List TaggedWord) → IsPrefix (map (λ (w : TaggedWord). w.tag) ws) (map (λ (t : TaggedBeat). t.tag) ts) → AreUnderTags ts ws
under_tags ts [] p = no_words
under_tags [] (w ∷ ws) p = let bad = p.joins in cc
under_tags (t ∷ ts) (w ∷ ws) p =
    let joins = p.joins in
    let same : w.tag ≡ t.tag = cc in
    let rest : map (λ (w : TaggedWord). w.tag) ws ++ p.rest ≡ map (λ (t : TaggedBeat). t.tag) ts = cc in
    one_word same (under_tags ts ws (record { rest = p.rest; joins = rest }))

-- a value of each answer that doesn't depend on its tag
abbrev pub by_lane : (Word → ℕ → ℕ) → Word → List ℕ → List ℕ
by_lane value w lanes = map (value w) lanes

abbrev pub is_value : (Answer → ℕ) → (Word → ℕ → ℕ) → Type 0
is_value of value = (tag : ℕ) (w : Word) (lane : ℕ) → of (record { tag = tag; byte = byte_at w.word lane; code = w.code }) ≡ value w lane

module _ (target : Target) (from : Shape) (span h : ℕ) (of : Answer → ℕ) (value : Word → ℕ → ℕ) (is : is_value of value) where
  lane_values : (tag : ℕ) (w : Word) (lanes : List ℕ) → map of (map (λ lane. record { tag = tag; byte = byte_at w.word lane; code = w.code }) lanes) ≡ map (value w) lanes
  lane_values tag w [] = refl
  lane_values tag w (lane ∷ lanes) = ap₂ (λ x l. x ∷ l) (is tag w lane) (lane_values tag w lanes)

  to_own : (tag : ℕ) (w : Word) (lanes : List ℕ) → nat_eq tag h ≡ true → answers_to h (map (λ lane. record { tag = tag; byte = byte_at w.word lane; code = w.code }) lanes) ≡ map (λ lane. record { tag = tag; byte = byte_at w.word lane; code = w.code }) lanes
  to_own tag w [] e = refl
  to_own tag w (lane ∷ lanes) e = rw e (ap (λ l. record { tag = tag; byte = byte_at w.word lane; code = w.code } ∷ l) (to_own tag w lanes e))

  to_other : (tag : ℕ) (w : Word) (lanes : List ℕ) → nat_eq tag h ≡ false → answers_to h (map (λ lane. record { tag = tag; byte = byte_at w.word lane; code = w.code }) lanes) ≡ []
  to_other tag w [] e = refl
  to_other tag w (lane ∷ lanes) e = rw e (to_other tag w lanes e)

  abbrev up_answers : List TaggedBeat → List TaggedWord → List Answer
  up_answers aboves ws = flat_map (λ (p : Beat × Word). bytes_in target from p.0 p.1) (zip (beats_with_tag h aboves) (of_tag h ws))

  abbrev down_answers : List TaggedBeat → List TaggedWord → List Answer
  down_answers belows ws = answers_to h (flat_map (λ (p : TaggedBeat × Word). answers_in target.shape p.0 p.1) (zip belows (map (λ (w : TaggedWord). w.word) ws)))

  no_zip : {A B : Type 0} (xs : List A) (ws : List B) → ws ≡ [] → zip xs ws ≡ []
  no_zip [] [] e = refl
  no_zip [] (w ∷ ws) e = refl
  no_zip (x ∷ xs) [] e = refl
  no_zip (x ∷ xs) (w ∷ ws) e = cc

  pub same_answers : (aboves belows : List TaggedBeat) (ws : List TaggedWord) → AreAlike from target.shape span aboves belows → AreUnderTags aboves ws → map of (up_answers aboves ws) ≡ map of (down_answers belows ws)
  same_answers aboves belows [] alike under = ap (λ l. map of (flat_map (λ (p : Beat × Word). bytes_in target from p.0 p.1) l)) (no_zip (beats_with_tag h aboves) (of_tag h []) refl) ∙ sym (ap (λ l. map of (answers_to h (flat_map (λ (p : TaggedBeat × Word). answers_in target.shape p.0 p.1) l))) (no_zip belows (map (λ (w : TaggedWord). w.word) []) refl))
  same_answers [] belows (w ∷ ws) alike under = elim under [ ]
  same_answers (above ∷ aboves) [] (w ∷ ws) alike under = elim alike [ ]
  same_answers (above ∷ aboves) (below ∷ belows) (w ∷ ws) (one_more tag beat rest) (one_word same under) = by_test (nat_eq above.tag h) refl (same_answers aboves belows ws rest under)
    where
      split : map of (down_answers (below ∷ belows) (w ∷ ws)) ≡ map of (answers_to h (answers_in target.shape below w.word)) ++ map of (down_answers belows ws)
      split = ap (map of) (filter-append (λ (a : Answer). nat_eq a.tag h) (answers_in target.shape below w.word) (flat_map (λ (p : TaggedBeat × Word). answers_in target.shape p.0 p.1) (zip belows (map (λ (w : TaggedWord). w.word) ws)))) ∙ map-append of (answers_to h (answers_in target.shape below w.word)) (down_answers belows ws)

      by_test : (b : Bool) → nat_eq above.tag h ≡ b → map of (up_answers aboves ws) ≡ map of (down_answers belows ws) → map of (up_answers (above ∷ aboves) (w ∷ ws)) ≡ map of (down_answers (below ∷ belows) (w ∷ ws))
      by_test true e ih =
          let word : nat_eq w.tag h ≡ true = ap (λ t. nat_eq t h) same ∙ e in
          let low : nat_eq below.tag h ≡ true = ap (λ t. nat_eq t h) tag ∙ e in
          let first : map of (bytes_in target from above.beat w.word) ≡ map of (answers_to h (answers_in target.shape below w.word)) =
          lane_values 0 w.word (filled_lanes from target.shape above.beat.enables) ∙ ap (map (value w.word)) (sym beat.lanes) ∙ sym (lane_values below.tag w.word (filter (is_enabled below.beat.enables) (numbers 0 target.shape.word_bytes)))
          ∙ ap (map of) (sym (to_own below.tag w.word (filter (is_enabled below.beat.enables) (numbers 0 target.shape.word_bytes)) low)) in
          rw (e, word) (map-append of (bytes_in target from above.beat w.word) (up_answers aboves ws) ∙ ap₂ (λ x y. x ++ y) first ih ∙ sym split)
      by_test false e ih =
          let word : nat_eq w.tag h ≡ false = ap (λ t. nat_eq t h) same ∙ e in
          let low : nat_eq below.tag h ≡ false = ap (λ t. nat_eq t h) tag ∙ e in
          rw (e, word) (ih ∙ sym (split ∙ ap (λ l. map of l ++ map of (down_answers belows ws)) (to_other below.tag w.word (filter (is_enabled below.beat.enables) (numbers 0 target.shape.word_bytes)) low)))
