-- What an unpacker comes to from its beginning on.
use Rattle.std.proofs.Common.{◌≡◌, inl, inr, ℕ, Bool, true, false, cond, ◌||◌, not, List, [], ◌∷◌, ◌++◌, Option, Some, None, refl, sym, ap, ◌∙◌, append_assoc}
use Rattle.std.specs.Prelude.{bit_xor, unwrap_or}
use Rattle.std.specs.List.{list_all}
use Rattle.std.proofs.lemmas.Bool.{and_parts}
use Rattle.std.proofs.lemmas.List.{append-nil}
use Rattle.marked_bytes.specs.declared.symbols.Symbol.{Symbol as Kind}
use Rattle.marked_bytes.specs.declared.symbols.Symbol.TheVariants as kind
use Rattle.marked_bytes.specs.declared.unpacker.Awaits.{Awaits}
use Rattle.marked_bytes.specs.declared.unpacker.Awaits.TheVariants.{Symbol, Channel, EscapedChannel, EscapedByte, Nothing}
use Rattle.marked_bytes.specs.declared.unpacker.Unpacker.{Unpacker}
use Rattle.marked_bytes.specs.Symbols.{symbol_of, is_plain_symbol, is_mark_symbol}
use Rattle.marked_bytes.specs.Items.{Spelled, Mark, Item, spelling, is_spelled, is_mark, is_item, marks_spelling, item_spelling, items_spelling, has_first, has_last, channel_marked, packet_byte, given, channel_behind, is_inside_behind, may_stand, are_in_packets}
use Rattle.marked_bytes.specs.Unpacking.{begun, awaits_some, may_begin, are_items, IsFed, IsFaulty, IsWhole}
use Rattle.marked_bytes.specs.Steps.{step_of, step_at, symbol_step, channel_step, awaits_next, refuses, gives, may_give}
use Rattle.marked_bytes.proofs.Pushes.{shifted}

abbrev run : Unpacker → List ℕ → Unpacker
run unpacker [] = unpacker
run unpacker (byte ∷ rest) = run (step_of unpacker byte).after rest

run-append : (unpacker : Unpacker) (one other : List ℕ) → run unpacker (one ++ other) ≡ run (run unpacker one) other
run-append unpacker [] other = refl
run-append unpacker (byte ∷ rest) other = run-append (step_of unpacker byte).after rest other

-- behind items whose packets stand open or don't, and behind marks
abbrev marked_by : Bool → ℕ → Bool → Bool → Option ℕ → Unpacker
marked_by inside channel first last marked = record { channel = channel; is_inside = inside; first = first; last = last; marked = marked; awaits = Symbol }

abbrev resting : Bool → ℕ → Unpacker
resting inside channel = marked_by inside channel false false None

plain_kind : (k : Kind) → is_plain_symbol k ≡ true → k ≡ kind.Plain
plain_kind kind.Plain e = refl
plain_kind kind.First e = cc
plain_kind kind.Last e = cc
plain_kind kind.Channel e = cc
plain_kind kind.Escape e = cc

or_true : (b : Bool) → (b || true) ≡ true
or_true true = refl
or_true false = refl

or_false : (b : Bool) → (b || false) ≡ b
or_false true = refl
or_false false = refl

marks_run : (inside : Bool) (channel : ℕ) (first last : Bool) (marked : Option ℕ) (marks : List Mark) → list_all is_mark marks ≡ true
    → run (marked_by inside channel first last marked) (marks_spelling marks) ≡ marked_by inside channel (first || has_first marks) (last || has_last marks) (channel_marked marked marks)
marks_run inside channel first last marked [] p = ap (λ f. marked_by inside channel f last marked) (sym (or_false first)) ∙ ap (λ l. marked_by inside channel (first || false) l marked) (sym (or_false last))
marks_run inside channel first last marked (Mark.IsFirst ∷ rest) p =
    marks_run inside channel true last marked rest p ∙ ap (λ f. marked_by inside channel f (last || has_last rest) (channel_marked marked rest)) (sym (or_true first))
marks_run inside channel first last marked (Mark.IsLast ∷ rest) p =
    marks_run inside channel first true marked rest p ∙ ap (λ l. marked_by inside channel (first || has_first rest) l (channel_marked marked rest)) (sym (or_true last))
marks_run inside channel first last marked (Mark.OnChannel (Spelled.Itself byte) ∷ rest) p =
    let parts = and_parts (is_plain_symbol (symbol_of byte)) (list_all is_mark rest) p in
    let due : Unpacker = record { channel = channel; is_inside = inside; first = first; last = last; marked = marked; awaits = Channel } in
    ap (λ k. run (channel_step due byte k).after (marks_spelling rest)) (plain_kind (symbol_of byte) parts.0) ∙ marks_run inside channel first last (Some byte) rest parts.1
marks_run inside channel first last marked (Mark.OnChannel (Spelled.Escaped byte) ∷ rest) p = marks_run inside channel first last (Some (bit_xor byte 0x20)) rest p

byte_run : (inside : Bool) (channel : ℕ) (first last : Bool) (marked : Option ℕ) (spelled : Spelled) (rest : List ℕ) → is_spelled spelled ≡ true → may_stand inside channel (unwrap_or marked channel) first ≡ true
    → run (marked_by inside channel first last marked) (spelling spelled ++ rest) ≡ run (resting (not last) (unwrap_or marked channel)) rest
byte_run inside channel first last marked (Spelled.Itself byte) rest p m =
    let before = marked_by inside channel first last marked in
    ap (λ k. run (symbol_step before byte k).after rest) (plain_kind (symbol_of byte) p) ∙ ap (λ b. run (cond b (gives before byte) (refuses before 2)).after rest) m
byte_run inside channel first last marked (Spelled.Escaped byte) rest p m =
    let before = marked_by inside channel first last marked in
    ap (λ b. run (step_of (cond b (awaits_next before EscapedByte) (refuses before 2)).after byte).after rest) m

items_run : (inside : Bool) (channel : ℕ) (items : List Item) (rest : List ℕ) → list_all is_item items ≡ true → are_in_packets inside channel (given channel items) ≡ true
    → run (resting inside channel) (items_spelling items ++ rest) ≡ run (resting (is_inside_behind inside (given channel items)) (channel_behind channel (given channel items))) rest
items_run inside channel [] rest p m = refl
items_run inside channel (item ∷ others) rest p m =
    let both = and_parts (is_item item) (list_all is_item others) p in
    let parts = and_parts (list_all is_mark item.marks) (is_spelled item.byte) both.0 in
    let byte = packet_byte channel item in
    let stand = and_parts (may_stand inside channel byte.channel byte.first) (are_in_packets (not byte.last) byte.channel (given byte.channel others)) m in
    let behind = items_spelling others ++ rest in
    ap (run (resting inside channel)) (append_assoc (item_spelling item) (items_spelling others) rest ∙ append_assoc (marks_spelling item.marks) (spelling item.byte) behind)
    ∙ run-append (resting inside channel) (marks_spelling item.marks) (spelling item.byte ++ behind)
    ∙ ap (λ u. run u (spelling item.byte ++ behind)) (marks_run inside channel false false None item.marks parts.0)
    ∙ byte_run inside channel (has_first item.marks) (has_last item.marks) (channel_marked None item.marks) item.byte behind parts.1 stand.0
    ∙ items_run (not byte.last) byte.channel others rest both.1 stand.1

-- behind items and marks
abbrev reached : List Item → List Mark → Unpacker
reached items marks = marked_by (is_inside_behind false (given 0 items)) (channel_behind 0 (given 0 items)) (has_first marks) (has_last marks) (channel_marked None marks)

reached_by : (items : List Item) (marks : List Mark) (rest : List ℕ) → are_items items ≡ true → list_all is_mark marks ≡ true
    → run (resting false 0) (items_spelling items ++ (marks_spelling marks ++ rest)) ≡ run (reached items marks) rest
reached_by items marks rest p m =
    let parts = and_parts (list_all is_item items) (are_in_packets false 0 (given 0 items)) p in
    let inside = is_inside_behind false (given 0 items) in
    let channel = channel_behind 0 (given 0 items) in
    items_run false 0 items (marks_spelling marks ++ rest) parts.0 parts.1 ∙ run-append (resting inside channel) (marks_spelling marks) rest
    ∙ ap (λ u. run u rest) (marks_run inside channel false false None marks m)

-- ---- without a fault

begun_awaits : (items : List Item) (marks : List Mark) (awaits : Awaits) → awaits_some awaits ≡ true → may_begin awaits items marks ≡ true → (run (reached items marks) (begun awaits)).awaits ≡ awaits
begun_awaits items marks Symbol s b = refl
begun_awaits items marks Channel s b = refl
begun_awaits items marks EscapedChannel s b = refl
begun_awaits items marks EscapedByte s b =
    let before = reached items marks in
    ap (λ m. (cond m (awaits_next before EscapedByte) (refuses before 2)).after.awaits) b
begun_awaits items marks (Nothing rule) s b = cc

fed_awaits : (fed : List ℕ) (items : List Item) (unpacker : Unpacker) → IsFed fed items unpacker → (run (resting false 0) fed).awaits ≡ unpacker.awaits
fed_awaits fed items unpacker h =
    ap (λ bytes. (run (resting false 0) bytes).awaits) h.bytes ∙ ap (λ (u : Unpacker). u.awaits) (reached_by items h.marks (begun unpacker.awaits) h.proper h.proper_marks)
    ∙ begun_awaits items h.marks unpacker.awaits h.reads h.begins

-- ---- behind a fault

stays_bad : (before : Unpacker) (rule : ℕ) (more : List ℕ) → before.awaits ≡ Nothing rule → (run before more).awaits ≡ Nothing rule
stays_bad before rule [] e = e
stays_bad before rule (byte ∷ more) e = stays_bad (step_of before byte).after rule more (ap (λ a. (step_at a before byte).after.awaits) e ∙ e)

mark_kind : (before : Unpacker) (byte : ℕ) (k : Kind) → is_mark_symbol k ≡ true → (channel_step before byte k).after.awaits ≡ Nothing 1
mark_kind before byte kind.First m = refl
mark_kind before byte kind.Last m = refl
mark_kind before byte kind.Channel m = refl
mark_kind before byte kind.Escape m = cc
mark_kind before byte kind.Plain m = cc

data_kind : (before : Unpacker) (byte : ℕ) (k : Kind) → is_mark_symbol k ≡ false → may_give before ≡ false → (symbol_step before byte k).after.awaits ≡ Nothing 2
data_kind before byte kind.First m g = cc
data_kind before byte kind.Last m g = cc
data_kind before byte kind.Channel m g = cc
data_kind before byte kind.Escape m g = ap (λ b. (cond b (awaits_next before EscapedByte) (refuses before 2)).after.awaits) g
data_kind before byte kind.Plain m g = ap (λ b. (cond b (gives before byte) (refuses before 2)).after.awaits) g

faulty_awaits : (fed : List ℕ) (items : List Item) (byte rule : ℕ) → IsFaulty fed items byte rule → (run (resting false 0) (fed ++ byte ∷ [])).awaits ≡ Nothing rule
faulty_awaits fed items byte rule (inl h) =
    let m = h.1 in
    let before = reached items m.marks in
    let due : Unpacker = record before { awaits = Channel } in
    ap (λ bytes. (run (resting false 0) (bytes ++ byte ∷ [])).awaits) m.bytes
    ∙ ap (λ bytes. (run (resting false 0) bytes).awaits) (shifted (items_spelling items) (marks_spelling m.marks) (0x7c ∷ []) (byte ∷ []))
    ∙ ap (λ (u : Unpacker). u.awaits) (reached_by items m.marks (0x7c ∷ byte ∷ []) m.proper m.proper_marks)
    ∙ mark_kind due byte (symbol_of byte) m.mark ∙ ap Nothing (sym h.0)
faulty_awaits fed items byte rule (inr h) =
    let o = h.1 in
    ap (λ bytes. (run (resting false 0) (bytes ++ byte ∷ [])).awaits) o.bytes
    ∙ ap (λ bytes. (run (resting false 0) bytes).awaits) (append_assoc (items_spelling items) (marks_spelling o.marks) (byte ∷ []))
    ∙ ap (λ (u : Unpacker). u.awaits) (reached_by items o.marks (byte ∷ []) o.proper o.proper_marks)
    ∙ data_kind (reached items o.marks) byte (symbol_of byte) o.«data» o.stands ∙ ap Nothing (sym h.0)

-- no reading goes on behind a fault
pub fault_ends : (fed more : List ℕ) (items others : List Item) (byte rule : ℕ) (unpacker : Unpacker) → IsFaulty fed items byte rule → IsFed (fed ++ byte ∷ more) others unpacker → ⊥
fault_ends fed more items others byte rule unpacker f h =
    let bad : (run (resting false 0) (fed ++ byte ∷ more)).awaits ≡ Nothing rule =
    ap (λ bytes. (run (resting false 0) bytes).awaits) (sym (append_assoc fed (byte ∷ []) more))
    ∙ ap (λ (u : Unpacker). u.awaits) (run-append (resting false 0) (fed ++ byte ∷ []) more)
    ∙ stays_bad (run (resting false 0) (fed ++ byte ∷ [])) rule more (faulty_awaits fed items byte rule f) in
    let never : true ≡ false = sym h.reads ∙ ap awaits_some (sym (fed_awaits (fed ++ byte ∷ more) others unpacker h) ∙ bad) in
    cc

rule_of : (one other : ℕ) → Nothing one ≡ Nothing other → one ≡ other
rule_of one other e = cc

pub one_rule : (fed : List ℕ) (items others : List Item) (byte one other : ℕ) → IsFaulty fed items byte one → IsFaulty fed others byte other → one ≡ other
one_rule fed items others byte one other f g = rule_of one other (sym (faulty_awaits fed items byte one f) ∙ faulty_awaits fed others byte other g)

pub fault_is_behind : (fed : List ℕ) (items : List Item) (byte rule : ℕ) → IsFaulty fed items byte rule → (unpacker : Unpacker) × IsFed fed items unpacker
fault_is_behind fed items byte rule (inl h) =
    let m = h.1 in
    let before = reached items m.marks in (
      record before { awaits = Channel },
      record {
        marks = m.marks;
        bytes = m.bytes;
        proper = m.proper;
        proper_marks = m.proper_marks;
        reads = refl;
        begins = refl;
        channel = refl;
        inside = refl;
        first = refl;
        last = refl;
        marked = refl;
      },
    )
fault_is_behind fed items byte rule (inr h) =
    let o = h.1 in (
      reached items o.marks,
      record {
        marks = o.marks;
        bytes = o.bytes ∙ ap (λ xs. items_spelling items ++ xs) (sym (append-nil (marks_spelling o.marks)));
        proper = o.proper;
        proper_marks = o.proper_marks;
        reads = refl;
        begins = refl;
        channel = refl;
        inside = refl;
        first = refl;
        last = refl;
        marked = refl;
      },
    )

pub whole_is_fed : (fed : List ℕ) (items : List Item) → are_items items ≡ true → IsWhole fed items → (unpacker : Unpacker) × IsFed fed items unpacker
whole_is_fed fed items p h = (
  reached items [],
  record {
    marks = [];
    bytes = h.bytes ∙ sym (append-nil (items_spelling items));
    proper = p;
    proper_marks = refl;
    reads = refl;
    begins = refl;
    channel = refl;
    inside = refl;
    first = refl;
    last = refl;
    marked = refl;
  },
)
