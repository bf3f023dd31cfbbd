-- What is told of a stream.
use Rattle.std.proofs.Common.{◌≡◌, ◌≤◌, ◌+◌, ℕ, Bool, true, false, List, ◌++◌, Option, Some, None, length, take, refl, sym, subst, ap, ◌∙◌, append_assoc, arith}
use Rattle.std.specs.Bool.{OnTrue, OnFalse}
use Rattle.std.specs.Prelude.{◌==◌, ◌&&◌, ◌||◌, nat_lt, is_some}
use Rattle.std.proofs.lemmas.Grind.{flat_map-append}
use Rattle.std.proofs.lemmas.List.{length-append, take-append-le}
use Rattle.std.proofs.Math.Seq.{take-append-add}
use Rattle.av_files.specs.Outside.{with_more}
use Rattle.histories.specs.History.{one_if, only_if}
use Rattle.cycle_sim.specs.Sims.{SimValue}
use Rattle.stream_runs.specs.View.{Beat, EndView}
use Rattle.stand_ins.specs.Sources.{port_pace}
use Rattle.trace_lines.specs.Lines.{sent_line, got_line, dropped_line}
use Rattle.trace_lines.specs.Told.{moves_at, told_of_stream}
use Rattle.benches.specs.Writing.{HoldsPart, text_of}
use Rattle.benches.specs.Streams.{BenchStreamValue, IsSeen, ends_of_bench, is_got, is_sent, shown_by, tells, told_beat}

-- ---- what the lines say

high_one : (bit : Bool) → (one_if bit == 1) ≡ bit
high_one true = refl
high_one false = refl

line_same : (a b : Bool) (x y : List ℕ) → a ≡ b → x ≡ y → only_if a x ≡ only_if b y
line_same a b x y e f = λ i. only_if (e i) (f i)

sent_same : (source sink : EndView) (dropped : ℕ → ℕ) (sim : SimValue) (stream : BenchStreamValue) → IsSeen source sink dropped sim stream
    → is_sent stream sim ≡ moves_at stream.cycle (ends_of_bench stream source sink dropped).source
sent_same source sink dropped sim stream seen =
    let valid : is_some (shown_by stream) ≡ (source.valid stream.cycle == 1) = sym (ap (λ (n : ℕ). n == 1) seen.shows.valid ∙ high_one (is_some (shown_by stream))) in
    let ready = ap (λ (n : ℕ). n == 1) (sym seen.answered) in
    λ i. valid i && (nat_lt 0 (port_pace stream.source).latency || ready i)

pub got_same : (source sink : EndView) (dropped : ℕ → ℕ) (sim : SimValue) (stream : BenchStreamValue) → IsSeen source sink dropped sim stream
    → is_got stream sim ≡ moves_at stream.cycle (ends_of_bench stream source sink dropped).sink
got_same source sink dropped sim stream seen =
    let valid = ap (λ (n : ℕ). n == 1) (sym seen.valid) in
    let ready = sym (ap (λ (n : ℕ). n == 1) seen.ready ∙ high_one _) in
    λ i. valid i && (nat_lt 0 (port_pace stream.sink).latency || ready i)

pub lines_same : (source sink : EndView) (dropped : ℕ → ℕ) (sim : SimValue) (stream : BenchStreamValue) → IsSeen source sink dropped sim stream
    → tells stream sim stream.cycle ≡ told_of_stream stream.cycle (ends_of_bench stream source sink dropped)
lines_same source sink dropped sim stream seen =
    let c = stream.cycle in
    let sent = line_same _ _ _ _ (sent_same source sink dropped sim stream seen) (ap (λ (beat : Beat). sent_line c stream.source_name (told_beat stream.source beat)) (sym seen.shows.signals)) in
    let got = line_same _ _ _ _ (got_same source sink dropped sim stream seen) (ap (λ (beat : Beat). got_line c stream.sink_name (told_beat stream.sink beat)) (sym seen.beat)) in
    let gone = ap (λ (n : ℕ). only_if (n == 1) (dropped_line c stream.sink_name)) (sym seen.dropped_is) in
    λ i. sent i ++ got i ++ gone i

-- ---- how they are written

text_joined : (one other : List (List ℕ)) → text_of (one ++ other) ≡ text_of one ++ text_of other
text_joined one other = flat_map-append (λ (line : List ℕ). line) one other

more_joined : (held : Option (List ℕ)) (one other : List ℕ) → with_more (with_more held one) other ≡ with_more held (one ++ other)
more_joined None one other = refl
more_joined (Some bytes) one other = ap Some (append_assoc bytes one other)

-- lines behind others
pub more_told : (start before after : Option (List ℕ)) (one other : List (List ℕ)) → before ≡ with_more start (text_of one) → after ≡ with_more before (text_of other) → after ≡ with_more start (text_of (one ++ other))
more_told start before after one other first second =
    second ∙ ap (λ (h : Option (List ℕ)). with_more h (text_of other)) first ∙ more_joined start (text_of one) (text_of other) ∙ ap (with_more start) (sym (text_joined one other))

-- a part of the first lines is a part of all
pub part_of_first : (start after : Option (List ℕ)) (one other : List (List ℕ)) → HoldsPart start after (text_of one) → HoldsPart start after (text_of (one ++ other))
part_of_first start after one other part =
    let joined = text_joined one other in
    let long : length (text_of (one ++ other)) ≡ length (text_of one) + length (text_of other) = ap (λ (bytes : List ℕ). length bytes) joined ∙ length-append (text_of one) (text_of other) in
    let inside = part.part in
    let low : part.count ≤ length (text_of one) = omega arith in
    let taken : take part.count (text_of (one ++ other)) ≡ take part.count (text_of one) = ap (take part.count) joined ∙ take-append-le part.count (text_of one) (text_of other) low in
    record { count = part.count; part = omega (arith, long, inside); written = part.written ∙ ap (with_more start) (sym taken) }

-- and so is a part of the last ones behind the first
pub part_of_last : (start before after : Option (List ℕ)) (one other : List (List ℕ)) → before ≡ with_more start (text_of one) → HoldsPart before after (text_of other) → HoldsPart start after (text_of (one ++ other))
part_of_last start before after one other first part =
    let joined = text_joined one other in
    let long : length (text_of (one ++ other)) ≡ length (text_of one) + length (text_of other) = ap (λ (bytes : List ℕ). length bytes) joined ∙ length-append (text_of one) (text_of other) in
    let inside = part.part in
    let taken : take (length (text_of one) + part.count) (text_of (one ++ other)) ≡ text_of one ++ take part.count (text_of other) =
    ap (take (length (text_of one) + part.count)) joined ∙ take-append-add (text_of one) (text_of other) part.count in
    record {
      count = length (text_of one) + part.count;
      part = omega (arith, long, inside);
      written = part.written ∙ ap (λ (h : Option (List ℕ)). with_more h (take part.count (text_of other))) first ∙ more_joined start (text_of one) (take part.count (text_of other))
          ∙ ap (with_more start) (sym taken);
    }

-- ---- three parts, one behind another

holds_same : (start after : Option (List ℕ)) (one other : List (List ℕ)) → one ≡ other → HoldsPart start after (text_of one) → HoldsPart start after (text_of other)
holds_same start after one other same part = subst (λ (lines : List (List ℕ)). HoldsPart start after (text_of lines)) same part

more_same : (start after : Option (List ℕ)) (one other : List (List ℕ)) → one ≡ other → after ≡ with_more start (text_of one) → after ≡ with_more start (text_of other)
more_same start after one other same more = more ∙ ap (λ (lines : List (List ℕ)). with_more start (text_of lines)) same

pub first_part : (start after : Option (List ℕ)) (a b d l : List (List ℕ)) → l ≡ a → HoldsPart start after (text_of l) → HoldsPart start after (text_of (a ++ b ++ d))
first_part start after a b d l e part = part_of_first start after (a ++ b) d (part_of_first start after a b (holds_same start after l a e part))

pub second_part : (start first after : Option (List ℕ)) (a b d l m : List (List ℕ)) → l ≡ a → m ≡ b → first ≡ with_more start (text_of l) → HoldsPart first after (text_of m)
    → HoldsPart start after (text_of (a ++ b ++ d))
second_part start first after a b d l m e f told part =
    part_of_first start after (a ++ b) d (part_of_last start first after a b (more_same start first l a e told) (holds_same first after m b f part))

two_told : (start first second : Option (List ℕ)) (a b l m : List (List ℕ)) → l ≡ a → m ≡ b → first ≡ with_more start (text_of l) → second ≡ with_more first (text_of m)
    → second ≡ with_more start (text_of (a ++ b))
two_told start first second a b l m e f told more = more_told start first second a b (more_same start first l a e told) (more_same first second m b f more)

third_part : (start first second after : Option (List ℕ)) (a b d l m n : List (List ℕ)) → l ≡ a → m ≡ b → n ≡ d → first ≡ with_more start (text_of l) → second ≡ with_more first (text_of m)
    → HoldsPart second after (text_of n) → HoldsPart start after (text_of (a ++ b ++ d))
third_part start first second after a b d l m n e f g told more part =
    part_of_last start second after (a ++ b) d (two_told start first second a b l m e f told more) (holds_same second after n d g part)

all_told : (start first second after : Option (List ℕ)) (a b d l m n : List (List ℕ)) → l ≡ a → m ≡ b → n ≡ d → first ≡ with_more start (text_of l) → second ≡ with_more first (text_of m)
    → after ≡ with_more second (text_of n) → after ≡ with_more start (text_of (a ++ b ++ d))
all_told start first second after a b d l m n e f g told more last =
    more_told start second after (a ++ b) d (two_told start first second a b l m e f told more) (more_same second after n d g last)

-- the last part, and whether it is written
pub last_part : (written : Bool) (start first second after : Option (List ℕ)) (a b d l m n : List (List ℕ)) → l ≡ a → m ≡ b → n ≡ d → first ≡ with_more start (text_of l) → second ≡ with_more first (text_of m)
    → OnFalse written (HoldsPart second after (text_of n)) → OnFalse written (HoldsPart start after (text_of (a ++ b ++ d)))
last_part true start first second after a b d l m n e f g told more part = part
last_part false start first second after a b d l m n e f g told more part = third_part start first second after a b d l m n e f g told more part

pub last_told : (written : Bool) (start first second after : Option (List ℕ)) (a b d l m n : List (List ℕ)) → l ≡ a → m ≡ b → n ≡ d → first ≡ with_more start (text_of l) → second ≡ with_more first (text_of m)
    → OnTrue written (after ≡ with_more second (text_of n)) → OnTrue written (after ≡ with_more start (text_of (a ++ b ++ d)))
last_told true start first second after a b d l m n e f g told more last = all_told start first second after a b d l m n e f g told more last
last_told false start first second after a b d l m n e f g told more last = last
