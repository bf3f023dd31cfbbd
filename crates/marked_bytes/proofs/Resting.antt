-- An unpacker is at rest where what was fed spells whole packets.
use Rattle.std.proofs.Common.{◌≡◌, ℕ, true, false, ◌&&◌, not, List, [], ◌∷◌, ◌++◌, Some, None, refl, sym, ap, ◌∙◌}
use Rattle.std.specs.Prelude.{is_some}
use Rattle.std.proofs.lemmas.Bool.{and_parts, and_from, not-true}
use Rattle.std.proofs.lemmas.List.{append-nil, append_cancel_left}
use Rattle.marked_bytes.specs.declared.unpacker.Awaits.{Awaits}
use Rattle.marked_bytes.specs.declared.unpacker.Awaits.TheVariants.{Symbol, Channel, EscapedChannel, EscapedByte, Nothing}
use Rattle.marked_bytes.specs.declared.unpacker.Unpacker.{Unpacker}
use Rattle.marked_bytes.specs.Items.{Spelled, Mark, Item, marks_spelling, items_spelling, has_first, has_last, channel_marked}
use Rattle.marked_bytes.specs.Unpacking.{begun, awaits_some, IsFed, IsWhole, IsBad}
use Rattle.marked_bytes.specs.Steps.{awaits_symbol, rests}

still_some : (channel : ℕ) (marks : List Mark) → is_some (channel_marked (Some channel) marks) ≡ true
still_some channel [] = refl
still_some channel (Mark.IsFirst ∷ rest) = still_some channel rest
still_some channel (Mark.IsLast ∷ rest) = still_some channel rest
still_some channel (Mark.OnChannel (Spelled.Itself c) ∷ rest) = still_some c rest
still_some channel (Mark.OnChannel (Spelled.Escaped c) ∷ rest) = still_some _ rest

no_marks : (marks : List Mark) → has_first marks ≡ false → has_last marks ≡ false → is_some (channel_marked None marks) ≡ false → marks ≡ []
no_marks [] f l k = refl
no_marks (Mark.IsFirst ∷ rest) f l k = absurd (cc f)
no_marks (Mark.IsLast ∷ rest) f l k = absurd (cc l)
no_marks (Mark.OnChannel (Spelled.Itself c) ∷ rest) f l k = absurd (cc (sym (still_some c rest) ∙ k))
no_marks (Mark.OnChannel (Spelled.Escaped c) ∷ rest) f l k = absurd (cc (sym (still_some _ rest) ∙ k))

no_part : (marks : List Mark) (a : Awaits) → awaits_some a ≡ true → marks_spelling marks ++ begun a ≡ [] → (marks ≡ []) × (a ≡ Symbol)
no_part [] Symbol s e = (refl, refl)
no_part [] Channel s e = absurd (cc e)
no_part [] EscapedChannel s e = absurd (cc e)
no_part [] EscapedByte s e = absurd (cc e)
no_part [] (Nothing rule) s e = absurd (cc s)
no_part (Mark.IsFirst ∷ rest) a s e = absurd (cc e)
no_part (Mark.IsLast ∷ rest) a s e = absurd (cc e)
no_part (Mark.OnChannel c ∷ rest) a s e = absurd (cc e)

is_symbol : (a : Awaits) → awaits_symbol a ≡ true → a ≡ Symbol
is_symbol Symbol e = refl
is_symbol Channel e = absurd (cc e)
is_symbol EscapedChannel e = absurd (cc e)
is_symbol EscapedByte e = absurd (cc e)
is_symbol (Nothing rule) e = absurd (cc e)

pub rest_is_whole : (fed : List ℕ) (items : List Item) (u : Unpacker) → IsFed fed items u → rests u ≡ true → IsWhole fed items
rest_is_whole fed items u h r =
    let a = and_parts (awaits_symbol u.awaits) _ r in
    let i = and_parts (not u.is_inside) _ a.1 in
    let f = and_parts (not u.first) _ i.1 in
    let l = and_parts (not u.last) (not (is_some u.marked)) f.1 in
    let none : h.marks ≡ [] = no_marks h.marks (sym h.first ∙ not-true u.first f.0) (sym h.last ∙ not-true u.last l.0) (ap is_some (sym h.marked) ∙ not-true (is_some u.marked) l.1) in
    record {
      bytes = h.bytes ∙ ap (λ ms. items_spelling items ++ (marks_spelling ms ++ begun u.awaits)) none ∙ ap (λ w. items_spelling items ++ begun w) (is_symbol u.awaits a.0) ∙ append-nil (items_spelling items);
      ended = sym h.inside ∙ not-true u.is_inside i.0;
    }

pub whole_is_rest : (fed : List ℕ) (items : List Item) (u : Unpacker) → IsFed fed items u → IsWhole fed items → rests u ≡ true
whole_is_rest fed items u h w =
    let part : marks_spelling h.marks ++ begun u.awaits ≡ [] =
    append_cancel_left (items_spelling items) (marks_spelling h.marks ++ begun u.awaits) [] (sym h.bytes ∙ w.bytes ∙ sym (append-nil (items_spelling items))) in
    let none = no_part h.marks u.awaits h.reads part in
    and_from (awaits_symbol u.awaits) _ (ap awaits_symbol none.1)
    (and_from (not u.is_inside) _ (ap not (h.inside ∙ w.ended))
    (and_from (not u.first) _ (ap not (h.first ∙ ap has_first none.0))
    (and_from (not u.last) (not (is_some u.marked)) (ap not (h.last ∙ ap has_last none.0)) (ap (λ o. not (is_some o)) (h.marked ∙ ap (channel_marked None) none.0)))))

pub bad_rests_not : (u : Unpacker) (rule : ℕ) → IsBad rule u → rests u ≡ false
bad_rests_not u rule b = ap (λ a. awaits_symbol a && (not u.is_inside && (not u.first && (not u.last && not (is_some u.marked))))) b
