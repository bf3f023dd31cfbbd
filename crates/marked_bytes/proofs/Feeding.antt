-- A step of an unpacker reads the next byte of the items.
use Rattle.std.proofs.Common.{◌≡◌, inl, inr, ℕ, Bool, true, false, cond, ◌||◌, not, List, [], ◌∷◌, ◌++◌, None, refl, sym, ap, subst, ◌∙◌}
use Rattle.std.specs.Prelude.{◌==◌, bit_xor, unwrap_or}
use Rattle.std.specs.List.{list_all}
use Rattle.std.proofs.lemmas.Bool.{and_parts, and_from, eqb-true}
use Rattle.std.proofs.lemmas.List.{append-nil}
use Rattle.marked_bytes.specs.declared.symbols.Symbol.{Symbol as Kind}
use Rattle.marked_bytes.specs.declared.symbols.Symbol.TheVariants as kind
use Rattle.marked_bytes.specs.declared.unpacker.Fed.{Fed}
use Rattle.marked_bytes.specs.declared.unpacker.Fed.TheVariants.{Bad}
use Rattle.marked_bytes.specs.declared.unpacker.Awaits.{Awaits}
use Rattle.marked_bytes.specs.declared.unpacker.Awaits.TheVariants.{Symbol, Channel, EscapedChannel, EscapedByte, Nothing}
use Rattle.marked_bytes.specs.declared.unpacker.Unpacker.{Unpacker}
use Rattle.marked_bytes.specs.Symbols.{symbol_of, is_plain_symbol, is_mark_symbol, begins_mark}
use Rattle.marked_bytes.specs.Items.{Spelled, Mark, Item, value_of, spelling, is_spelled, mark_spelling, is_mark, is_item, marks_spelling, item_spelling, items_spelling, marks_first, marks_last, has_first, has_last, channel_marked, channel_of, packet_byte, given, channel_behind, is_inside_behind, may_stand, are_in_packets}
use Rattle.marked_bytes.specs.Unpacking.{begun, awaits_some, may_begin, may_follow, IsFed, IsGiven, Follows, is_escaped, is_escaping}
use Rattle.marked_bytes.specs.Steps.{Step, step, step_of, step_at, symbol_step, channel_step, awaits_next, refuses, gives, marks_channel, channel_now, may_give}
use Rattle.marked_bytes.proofs.Pushes.{spelled_push, all_push, any_push, with_true, with_false, marked_push, given_push, channel_push, inside_push, in_packets_push, shifted}

-- ---- which byte a symbol is

chosen : (a b c d : Bool) (k : Kind) → cond a kind.First (cond b kind.Last (cond c kind.Channel (cond d kind.Escape kind.Plain))) ≡ k
    → ((k ≡ kind.First → a ≡ true) × (k ≡ kind.Last → b ≡ true) × (k ≡ kind.Channel → c ≡ true) × (k ≡ kind.Escape → d ≡ true))
chosen true b c d k e = (λ f. refl, λ f. cc, λ f. cc, λ f. cc)
chosen false true c d k e = (λ f. cc, λ f. refl, λ f. cc, λ f. cc)
chosen false false true d k e = (λ f. cc, λ f. cc, λ f. refl, λ f. cc)
chosen false false false true k e = (λ f. cc, λ f. cc, λ f. cc, λ f. refl)
chosen false false false false k e = (λ f. cc, λ f. cc, λ f. cc, λ f. cc)

pub first_is : (byte : ℕ) → symbol_of byte ≡ kind.First → byte ≡ 0x7a
first_is byte e = eqb-true byte 0x7a ((chosen (byte == 0x7a) (byte == 0x7b) (byte == 0x7c) (byte == 0x7d) kind.First e).0 refl)

pub last_is : (byte : ℕ) → symbol_of byte ≡ kind.Last → byte ≡ 0x7b
last_is byte e = eqb-true byte 0x7b ((chosen (byte == 0x7a) (byte == 0x7b) (byte == 0x7c) (byte == 0x7d) kind.Last e).1 refl)

pub channel_is : (byte : ℕ) → symbol_of byte ≡ kind.Channel → byte ≡ 0x7c
channel_is byte e = eqb-true byte 0x7c ((chosen (byte == 0x7a) (byte == 0x7b) (byte == 0x7c) (byte == 0x7d) kind.Channel e).2 refl)

pub escape_is : (byte : ℕ) → symbol_of byte ≡ kind.Escape → byte ≡ 0x7d
escape_is byte e = eqb-true byte 0x7d ((chosen (byte == 0x7a) (byte == 0x7b) (byte == 0x7c) (byte == 0x7d) kind.Escape e).3 refl)

-- ---- one more byte of an item that isn't whole

begun_more : (fed : List ℕ) (items : List Item) (u : Unpacker) (byte : ℕ) (old next : Awaits) (h : IsFed fed items u) → u.awaits ≡ old → begun next ≡ begun old ++ byte ∷ []
    → awaits_some next ≡ true → may_begin next items h.marks ≡ true → IsFed (fed ++ byte ∷ []) items (record u { awaits = next })
begun_more fed items u byte old next h a e s b = record {
  marks = h.marks;
  bytes = ap (λ xs. xs ++ byte ∷ []) h.bytes ∙ shifted (items_spelling items) (marks_spelling h.marks) (begun u.awaits) (byte ∷ [])
      ∙ ap (λ xs. items_spelling items ++ (marks_spelling h.marks ++ xs)) (ap (λ w. begun w ++ byte ∷ []) a ∙ sym e);
  proper = h.proper;
  proper_marks = h.proper_marks;
  reads = s;
  begins = b;
  channel = h.channel;
  inside = h.inside;
  first = h.first;
  last = h.last;
  marked = h.marked;
}

-- what stands behind items and whole marks, with what was begun there
behind : (fed : List ℕ) (items : List Item) (u : Unpacker) (byte : ℕ) (old : Awaits) (tail : List ℕ) (h : IsFed fed items u) → u.awaits ≡ old → begun old ++ byte ∷ [] ≡ tail
    → fed ++ byte ∷ [] ≡ items_spelling items ++ (marks_spelling h.marks ++ tail)
behind fed items u byte old tail h a e =
    ap (λ xs. xs ++ byte ∷ []) h.bytes ∙ shifted (items_spelling items) (marks_spelling h.marks) (begun u.awaits) (byte ∷ [])
    ∙ ap (λ xs. items_spelling items ++ (marks_spelling h.marks ++ xs)) (ap (λ w. begun w ++ byte ∷ []) a ∙ e)

marked_more : (fed more : List ℕ) (items : List Item) (u after : Unpacker) (mark : Mark) (h : IsFed fed items u) → more ≡ items_spelling items ++ (marks_spelling h.marks ++ mark_spelling mark)
    → is_mark mark ≡ true → after.awaits ≡ Symbol → after.channel ≡ u.channel → after.is_inside ≡ u.is_inside → after.first ≡ (u.first || (marks_first mark || false))
    → after.last ≡ (u.last || (marks_last mark || false)) → after.marked ≡ channel_marked u.marked (mark ∷ []) → IsFed more items after
marked_more fed more items u after mark h e m a c i f l k = record {
  marks = h.marks ++ mark ∷ [];
  bytes = e ∙ ap (λ xs. items_spelling items ++ xs) (sym (spelled_push mark_spelling h.marks mark) ∙ sym (append-nil (marks_spelling (h.marks ++ mark ∷ [])))
      ∙ ap (λ w. marks_spelling (h.marks ++ mark ∷ []) ++ begun w) (sym a));
  proper = h.proper;
  proper_marks = all_push is_mark h.marks mark h.proper_marks m;
  reads = ap awaits_some a;
  begins = ap (λ w. may_begin w items (h.marks ++ mark ∷ [])) a;
  channel = c ∙ h.channel;
  inside = i ∙ h.inside;
  first = f ∙ ap (λ b. b || (marks_first mark || false)) h.first ∙ sym (any_push marks_first h.marks mark);
  last = l ∙ ap (λ b. b || (marks_last mark || false)) h.last ∙ sym (any_push marks_last h.marks mark);
  marked = k ∙ ap (λ o. channel_marked o (mark ∷ [])) h.marked ∙ sym (marked_push None h.marks mark);
}

-- ---- a byte of data

channel_same : (fed : List ℕ) (items : List Item) (u : Unpacker) (h : IsFed fed items u) → channel_now u ≡ channel_of (channel_behind 0 (given 0 items)) h.marks
channel_same fed items u h = ap (λ o. unwrap_or o u.channel) h.marked ∙ ap (λ c. unwrap_or (channel_marked None h.marks) c) h.channel

stand_same : (fed : List ℕ) (items : List Item) (u : Unpacker) (h : IsFed fed items u) → may_give u ≡ may_follow items h.marks
stand_same fed items u h =
    ap (λ b. may_stand b u.channel (channel_now u) u.first) h.inside
    ∙ ap (λ c. may_stand (is_inside_behind false (given 0 items)) c (channel_now u) u.first) h.channel
    ∙ ap (λ c. may_stand (is_inside_behind false (given 0 items)) (channel_behind 0 (given 0 items)) c u.first) (channel_same fed items u h)
    ∙ ap (λ f. may_stand (is_inside_behind false (given 0 items)) (channel_behind 0 (given 0 items)) (channel_of (channel_behind 0 (given 0 items)) h.marks) f) h.first

given_more : (fed : List ℕ) (next : ℕ) (items : List Item) (u : Unpacker) (s : Spelled) (byte : ℕ) (h : IsFed fed items u) → fed ++ next ∷ [] ≡ items_spelling items ++ (marks_spelling h.marks ++ spelling s)
    → is_spelled s ≡ true → value_of s ≡ byte → may_follow items h.marks ≡ true → is_escaped s ≡ is_escaping u.awaits
    → (item : Item) × IsGiven fed items u next (record { channel = channel_now u; first = u.first; last = u.last; byte = byte }) item (gives u byte).after
given_more fed next items u s byte h e p v m w =
    let before = channel_behind 0 (given 0 items) in
    let item : Item = record { marks = h.marks; byte = s } in
    let bytes = given_push 0 items item in
    let parts = and_parts (list_all is_item items) (are_in_packets false 0 (given 0 items)) h.proper in
    let proper : are_in_packets false 0 (given 0 (items ++ item ∷ [])) ≡ true =
    ap (are_in_packets false 0) bytes ∙ in_packets_push false 0 (given 0 items) (packet_byte before item) parts.1 m in (
      item,
      record {
        is = ap (λ c. record { channel = c; first = u.first; last = u.last; byte = byte }) (channel_same fed items u h)
            ∙ ap (λ f. record { channel = channel_of before h.marks; first = f; last = u.last; byte = byte }) h.first
            ∙ ap (λ l. record { channel = channel_of before h.marks; first = has_first h.marks; last = l; byte = byte }) h.last
            ∙ ap (λ b. record { channel = channel_of before h.marks; first = has_first h.marks; last = has_last h.marks; byte = b }) (sym v);
        escaped = w;
        spelled = e ∙ sym (spelled_push item_spelling items item);
        read = record {
          marks = [];
          bytes = e ∙ sym (spelled_push item_spelling items item) ∙ sym (append-nil (items_spelling (items ++ item ∷ [])));
          proper = and_from (list_all is_item (items ++ item ∷ [])) (are_in_packets false 0 (given 0 (items ++ item ∷ [])))
              (all_push is_item items item parts.0 (and_from (list_all is_mark h.marks) (is_spelled s) h.proper_marks p)) proper;
          proper_marks = refl;
          reads = refl;
          begins = refl;
          channel = channel_same fed items u h ∙ sym (channel_push 0 (given 0 items) (packet_byte before item)) ∙ ap (channel_behind 0) (sym bytes);
          inside = ap not h.last ∙ sym (inside_push false (given 0 items) (packet_byte before item)) ∙ ap (is_inside_behind false) (sym bytes);
          first = refl;
          last = refl;
          marked = refl;
        };
      },
    )

-- ---- where a byte is at fault

mark_for_channel : (fed : List ℕ) (items : List Item) (u : Unpacker) (byte : ℕ) → IsFed fed items u → u.awaits ≡ Channel → begins_mark byte ≡ true → Follows fed items u byte (Bad 1) (refuses u 1).after
mark_for_channel fed items u byte h a m = (
  inl (
    refl,
    record {
      marks = h.marks;
      bytes = h.bytes ∙ ap (λ w. items_spelling items ++ (marks_spelling h.marks ++ begun w)) a;
      proper = h.proper;
      proper_marks = h.proper_marks;
      mark = m;
    },
  ),
  refl,
)

out_of_place : (fed : List ℕ) (items : List Item) (u : Unpacker) (byte : ℕ) → IsFed fed items u → u.awaits ≡ Symbol → begins_mark byte ≡ false → may_give u ≡ false
    → Follows fed items u byte (Bad 2) (refuses u 2).after
out_of_place fed items u byte h a d n = (
  inr (
    refl,
    record {
      marks = h.marks;
      bytes = h.bytes ∙ ap (λ w. items_spelling items ++ (marks_spelling h.marks ++ begun w)) a ∙ ap (λ xs. items_spelling items ++ xs) (append-nil (marks_spelling h.marks));
      proper = h.proper;
      proper_marks = h.proper_marks;
      «data» = d;
      stands = sym (stand_same fed items u h) ∙ n;
    },
  ),
  refl,
)

-- ---- by what is due

StepFollows : List ℕ → List Item → Unpacker → ℕ → Step → Type 0
StepFollows fed items u byte s = Follows fed items u byte s.fed s.after

by_first : (fed : List ℕ) (items : List Item) (u : Unpacker) (byte : ℕ) → IsFed fed items u → u.awaits ≡ Symbol → byte ≡ 0x7a → IsFed (fed ++ byte ∷ []) items (record u { first = true })
by_first fed items u byte h a b =
    marked_more fed (fed ++ byte ∷ []) items u (record u { first = true }) Mark.IsFirst h (behind fed items u byte Symbol (0x7a ∷ []) h a (ap (λ x. x ∷ []) b)) refl a refl refl (with_true u.first) (with_false u.last) refl

by_last : (fed : List ℕ) (items : List Item) (u : Unpacker) (byte : ℕ) → IsFed fed items u → u.awaits ≡ Symbol → byte ≡ 0x7b → IsFed (fed ++ byte ∷ []) items (record u { last = true })
by_last fed items u byte h a b =
    marked_more fed (fed ++ byte ∷ []) items u (record u { last = true }) Mark.IsLast h (behind fed items u byte Symbol (0x7b ∷ []) h a (ap (λ x. x ∷ []) b)) refl a refl refl (with_false u.first) (with_true u.last) refl

by_channel : (fed : List ℕ) (items : List Item) (u : Unpacker) (byte : ℕ) (old : Awaits) (s : Spelled) → IsFed fed items u → u.awaits ≡ old → begun old ++ byte ∷ [] ≡ 0x7c ∷ spelling s
    → is_spelled s ≡ true → IsFed (fed ++ byte ∷ []) items (marks_channel u (value_of s)).after
by_channel fed items u byte old s h a e p =
    marked_more fed (fed ++ byte ∷ []) items u (marks_channel u (value_of s)).after (Mark.OnChannel s) h (behind fed items u byte old (0x7c ∷ spelling s) h a e) p refl refl refl (with_false u.first) (with_false u.last) refl

plain_step : (fed : List ℕ) (items : List Item) (u : Unpacker) (byte : ℕ) → IsFed fed items u → u.awaits ≡ Symbol → symbol_of byte ≡ kind.Plain → (b : Bool) → may_give u ≡ b
    → StepFollows fed items u byte (cond b (gives u byte) (refuses u 2))
unfolding StepFollows
plain_step fed items u byte h a k true m =
    given_more fed byte items u (Spelled.Itself byte) byte h (behind fed items u byte Symbol (byte ∷ []) h a refl) (ap is_plain_symbol k) refl (sym (stand_same fed items u h) ∙ m) (sym (ap is_escaping a))
plain_step fed items u byte h a k false m = out_of_place fed items u byte h a (ap is_mark_symbol k) m

escape_step : (fed : List ℕ) (items : List Item) (u : Unpacker) (byte : ℕ) → IsFed fed items u → u.awaits ≡ Symbol → symbol_of byte ≡ kind.Escape → (b : Bool) → may_give u ≡ b
    → StepFollows fed items u byte (cond b (awaits_next u EscapedByte) (refuses u 2))
unfolding StepFollows
escape_step fed items u byte h a k true m =
    begun_more fed items u byte Symbol EscapedByte h a (ap (λ x. x ∷ []) (sym (escape_is byte k))) refl (sym (stand_same fed items u h) ∙ m)
escape_step fed items u byte h a k false m = out_of_place fed items u byte h a (ap is_mark_symbol k) m

symbol_follows : (fed : List ℕ) (items : List Item) (u : Unpacker) (byte : ℕ) → IsFed fed items u → u.awaits ≡ Symbol → (k : Kind) → symbol_of byte ≡ k → StepFollows fed items u byte (symbol_step u byte k)
unfolding StepFollows
symbol_follows fed items u byte h a kind.First k = by_first fed items u byte h a (first_is byte k)
symbol_follows fed items u byte h a kind.Last k = by_last fed items u byte h a (last_is byte k)
symbol_follows fed items u byte h a kind.Channel k = begun_more fed items u byte Symbol Channel h a (ap (λ x. x ∷ []) (sym (channel_is byte k))) refl refl
symbol_follows fed items u byte h a kind.Escape k = escape_step fed items u byte h a k (may_give u) refl
symbol_follows fed items u byte h a kind.Plain k = plain_step fed items u byte h a k (may_give u) refl

channel_follows : (fed : List ℕ) (items : List Item) (u : Unpacker) (byte : ℕ) → IsFed fed items u → u.awaits ≡ Channel → (k : Kind) → symbol_of byte ≡ k → StepFollows fed items u byte (channel_step u byte k)
unfolding StepFollows
channel_follows fed items u byte h a kind.First k = mark_for_channel fed items u byte h a (ap is_mark_symbol k)
channel_follows fed items u byte h a kind.Last k = mark_for_channel fed items u byte h a (ap is_mark_symbol k)
channel_follows fed items u byte h a kind.Channel k = mark_for_channel fed items u byte h a (ap is_mark_symbol k)
channel_follows fed items u byte h a kind.Escape k = begun_more fed items u byte Channel EscapedChannel h a (ap (λ x. 0x7c ∷ x ∷ []) (sym (escape_is byte k))) refl refl
channel_follows fed items u byte h a kind.Plain k = by_channel fed items u byte Channel (Spelled.Itself byte) h a refl (ap is_plain_symbol k)

step_at_follows : (fed : List ℕ) (items : List Item) (u : Unpacker) (byte : ℕ) → IsFed fed items u → (a : Awaits) → u.awaits ≡ a → StepFollows fed items u byte (step_at a u byte)
unfolding StepFollows
step_at_follows fed items u byte h Symbol a = symbol_follows fed items u byte h a (symbol_of byte) refl
step_at_follows fed items u byte h Channel a = channel_follows fed items u byte h a (symbol_of byte) refl
step_at_follows fed items u byte h EscapedChannel a = by_channel fed items u byte EscapedChannel (Spelled.Escaped byte) h a refl refl
step_at_follows fed items u byte h EscapedByte a =
    given_more fed byte items u (Spelled.Escaped byte) (bit_xor byte 0x20) h (behind fed items u byte EscapedByte (0x7d ∷ byte ∷ []) h a refl) refl refl (ap (λ w. may_begin w items h.marks) (sym a) ∙ h.begins) (sym (ap is_escaping a))
step_at_follows fed items u byte h (Nothing rule) a = absurd (cc (ap awaits_some (sym a) ∙ h.reads))

pub step_follows : (fed : List ℕ) (items : List Item) (u after : Unpacker) (byte : ℕ) (answer : Fed) → step after answer ≡ step_of u byte → IsFed fed items u → Follows fed items u byte answer after
unfolding StepFollows
step_follows fed items u after byte answer e h = subst (λ s. StepFollows fed items u byte s) (sym e) (step_at_follows fed items u byte h u.awaits refl)
