-- The nets of a lane selector are its machine, with a queue of offsets.
use Rattle.std.proofs.Common.{◌≡◌, ℕ, zero, suc, ◌+◌, ◌*◌, ◌/◌, ◌%◌, ◌^◌, ◌<◌, ◌≤◌, ◌==◌, Bool, true, false, not, ◌&&◌, ◌||◌, nat_lt, if◌then◌else◌, List, [], ◌∷◌, ◌++◌, length, map, drop, inl, refl, sym, subst, ap, ap₂, ◌∙◌, arith, lt-ltb}
use Rattle.std.proofs.lemmas.Bool.{ltb-true}
use Rattle.std.proofs.lemmas.List.{map-append, length-map}
use Rattle.histories.specs.History.{is_raised, one_if, only_if}
use Rattle.netlist.specs.Nets.{NetValue}
use Rattle.netlist.specs.Netlists.{Netlist}
use Rattle.netlist.specs.Runs.{Cycle, Run, cycle_of, IsEndlessRun, IsValuation}
use Rattle.net_parts.specs.Laws.{net_fits, bit_fits}
use Rattle.item_queues.specs.Storages.{shown_oldest}
use Rattle.item_queues.specs.Queues.{owns, IsInOrder, MayMove, held_in}
use Rattle.item_queues.specs.Laws.{held_count}
use Rattle.memory_runs.specs.Views.{Levels, levels_at}
use Rattle.memory_machines.specs.Link.{Target, Port}
use Rattle.memory_machines.specs.Machines.{Raw}
use Rattle.memory_links.specs.Links.{LinkForm, IsLink}
use Rattle.memory_links.specs.Selects.{RunsAsSelect, IsSelectPlan, EnablesFit, select_form, selected, silenced, offset_in, takes_read, is_shut, first_of}
use Rattle.command_nets.specs.declared.nets.CommandNets.{CommandNets}
use Rattle.command_nets.specs.declared.nets.AnswerNets.{AnswerNets}
use Rattle.command_nets.specs.Nets.{raw_in, port_in, ShowSame}
use Rattle.link_core.specs.Form.{Form, KeepsLaw}
use Rattle.mm_select.specs.declared.select.Select.{Select}
use Rattle.mm_select.specs.declared.select.SelectKept.{SelectKept}
use Rattle.mm_select.specs.Laws.{raised_if, asked_bits, let_through, in_bytes}
use Rattle.mm_select.specs.SelectNets.{IsSelectForm, SelectRuns, SelectCommand, SelectAnswer, bytes_shape, is_asked}

-- ---- the items of the queue as offsets

abbrev offset_of : ℕ → List ℕ → ℕ
offset_of bytes (place ∷ []) = place * bytes
offset_of bytes _ = 0

head_of : List ℕ → ℕ
head_of [] = 0
head_of (x ∷ xs) = x

-- the offset of the oldest
first_is : (bytes : ℕ) (items : List (List ℕ)) (place : ℕ) → 1 ≤ length items → ((coming : List ℕ) → shown_oldest items coming ≡ 1 ∷ place ∷ []) → first_of (map (offset_of bytes) items) ≡ place * bytes
first_is bytes [] place some shows = absurd (omega (arith, some))
first_is bytes (item ∷ items) place some shows = ap (λ (l : List ℕ). offset_of bytes l) (ap (drop 1) (shows []))

high_is : (x : ℕ) → x < 2 → (x == 1) ≡ is_raised x
high_is zero h = refl
high_is (suc zero) h = refl
high_is (suc (suc x)) h = absurd (omega arith)

one_dropped : (bytes : ℕ) (t : Bool) (items : List (List ℕ)) → map (offset_of bytes) (drop (one_if t) items) ≡ drop (one_if t) (map (offset_of bytes) items)
one_dropped bytes true [] = refl
one_dropped bytes true (item ∷ items) = refl
one_dropped bytes false items = refl

one_more : (bytes : ℕ) (t : Bool) (place : ℕ) → map (offset_of bytes) (only_if t (place ∷ [])) ≡ only_if t (place * bytes)
one_more bytes true place = refl
one_more bytes false place = refl

-- a word goes only where one is held, so it goes before one comes
dropped_first : (valid : Bool) (offsets more : List ℕ) → drop (one_if (valid && nat_lt 0 (length offsets))) (offsets ++ more) ≡ drop (if valid then 1 else 0) offsets ++ more
dropped_first true [] more = refl
dropped_first true (x ∷ offsets) more = let some : nat_lt 0 (suc (length offsets)) ≡ true = lt-ltb 0 (suc (length offsets)) (omega arith) in ap (λ t. drop (one_if t) (x ∷ (offsets ++ more))) some
dropped_first false offsets more = refl

moved : (bytes : ℕ) (items after : List (List ℕ)) (place : ℕ) (goes comes valid : Bool) → goes ≡ (valid && nat_lt 0 (length (map (offset_of bytes) items))) → after ≡ drop (one_if goes) (items ++ only_if comes (place ∷ [])) →
    map (offset_of bytes) after ≡ drop (if valid then 1 else 0) (map (offset_of bytes) items) ++ only_if comes (place * bytes)
moved bytes items after place goes comes valid g e =
    ap (map (offset_of bytes)) e ∙ one_dropped bytes goes (items ++ only_if comes (place ∷ []))
    ∙ ap (drop (one_if goes)) (map-append (offset_of bytes) items (only_if comes (place ∷ [])) ∙ ap (λ l. map (offset_of bytes) items ++ l) (one_more bytes comes place))
    ∙ ap (λ t. drop (one_if t) (map (offset_of bytes) items ++ only_if comes (place * bytes))) g
    ∙ dropped_first valid (map (offset_of bytes) items) (only_if comes (place * bytes))

abbrev raw_from : Levels → ℕ → ℕ → Raw
raw_from levels more tag = record { levels = levels; more = more; tag = tag }

module _ (s : Select) (form : Form) (from to : CommandNets) (kept : SelectKept) (wait up : NetValue) (answer back : AnswerNets) (netlist : Netlist) (p : IsSelectForm s form) (f : SelectCommand s from to kept netlist) (b : SelectAnswer s kept wait answer up back netlist)
    (run : Run) (endless : IsEndlessRun netlist run) where
  abbrev above : Port
  above = port_in form.up run from up back

  abbrev below : Port
  below = port_in form.down run to wait answer

  valued : (c : ℕ) → IsValuation netlist (cycle_of run c)
  valued c = (endless (c + 1)).valuations c (omega arith)

  abbrev pub offsets : ℕ → List ℕ
  offsets c = map (offset_of s.narrow_bytes) (held_in (cycle_of run c) kept.queue)

  count_is : (c : ℕ) → length (offsets c) ≡ run.net c kept.queue.count.number
  count_is c = length-map (held_in (cycle_of run c) kept.queue) (offset_of s.narrow_bytes) ∙ held_count (cycle_of run c) kept.queue

  same_offset : (a : ℕ) → offset_in form.up form.down a ≡ offset_in (bytes_shape s.narrow_bytes) (bytes_shape s.wide_bytes) a
  same_offset a = rw (p.narrow, p.wide, p.bytes) refl

  same_selected : (l : Levels) → selected form.up form.down l ≡ selected (bytes_shape s.narrow_bytes) (bytes_shape s.wide_bytes) l
  same_selected l = rw (p.narrow, p.wide, p.bytes) refl

  reads_below : (c : ℕ) → run.net c kept.read.number ≡ (if is_raised (run.net c kept.shut.number) then 0 else run.net c from.read.number)
  reads_below c = ap (λ (n : NetValue). run.net c n.number) f.read_is ∙ ap (λ (l : Levels). l.read) (f.levels (cycle_of run c) (valued c))

  bits_asked : (c : ℕ) → is_asked (cycle_of run c) kept.read kept.write wait
      ≡ (((if is_raised (run.net c kept.shut.number) then false else is_raised (run.net c from.read.number)) && not (is_raised (run.net c from.write.number))) && not (is_raised (run.net c wait.number)))
  bits_asked c = ap₂ (λ r w. (r && not (is_raised w)) && not (is_raised (run.net c wait.number))) (ap is_raised (reads_below c) ∙ raised_if (is_raised (run.net c kept.shut.number)) (run.net c from.read.number)) (ap (λ (n : NetValue). run.net c n.number) f.write_is)

  asked_is : (c : ℕ) → is_asked (cycle_of run c) kept.read kept.write wait ≡ takes_read above c
  asked_is c =
      bits_asked c ∙ asked_bits (is_raised (run.net c kept.shut.number)) (is_raised (run.net c from.read.number)) (is_raised (run.net c from.write.number)) (is_raised (run.net c wait.number))
      ∙ ap (λ t. ((is_raised (run.net c from.read.number) || is_raised (run.net c from.write.number)) && not t) && not (is_raised (run.net c from.write.number))) (sym (b.waits (cycle_of run c) (valued c)))

  shut_by : (c : ℕ) → is_raised (run.net c kept.shut.number) ≡ is_shut s.reads above offsets c
  shut_by c = f.shut (cycle_of run c) (valued c) ∙ ap (λ n. not (is_raised (run.net c from.write.number)) && not (nat_lt n s.reads)) (sym (count_is c))

  room_by : (c : ℕ) → is_asked (cycle_of run c) kept.read kept.write wait ≡ true → length (offsets c) < s.reads
  room_by c e =
      let open_now = let_through (is_raised (run.net c kept.shut.number)) (is_raised (run.net c from.read.number)) (is_raised (run.net c from.write.number)) (is_raised (run.net c wait.number)) (sym (bits_asked c) ∙ e) in
      let closed : not (nat_lt (length (offsets c)) s.reads) ≡ false = ap (λ w. not w && not (nat_lt (length (offsets c)) s.reads)) (sym open_now.1) ∙ sym (shut_by c) ∙ open_now.0 in
      ltb-true (length (offsets c)) s.reads (twice (nat_lt (length (offsets c)) s.reads) closed)
    where
      twice : (t : Bool) → not t ≡ false → t ≡ true
      twice true g = refl
      twice false g = sym g

  asks_bit : (c : ℕ) → (run.net c b.asks.number == 1) ≡ is_asked (cycle_of run c) kept.read kept.write wait
  asks_bit c = high_is _ (bit_fits netlist b.asks b.asks_bit (cycle_of run c) (valued c)) ∙ b.asks_is (cycle_of run c) (valued c)

  goes_bit : (c : ℕ) → (run.net c b.goes.number == 1) ≡ (is_raised (run.net c answer.valid.number) && nat_lt 0 (run.net c kept.queue.count.number))
  goes_bit c = high_is _ (bit_fits netlist b.goes b.goes_bit (cycle_of run c) (valued c)) ∙ b.goes_is (cycle_of run c) (valued c)

  may_move : (c : ℕ) → IsInOrder kept.queue (cycle_of run c) → MayMove kept.queue b.asks b.goes (cycle_of run c)
  may_move c stands = record {
    in_order = stands;
    room = λ high. (let low = room_by c (sym (asks_bit c) ∙ high) in let bound = f.bound in let count = count_is c in omega (arith, low, bound, count));
    some = λ high. inl (ltb-true 0 _ (right (is_raised (run.net c answer.valid.number)) _ (sym (goes_bit c) ∙ high)));
  } where
    right : (x y : Bool) → (x && y) ≡ true → y ≡ true
    right true y h = h
    right false y h = cc

  next_cycle : (c : ℕ) → c + 1 ≡ suc c
  next_cycle c = omega arith

  in_order : (c : ℕ) → IsInOrder kept.queue (cycle_of run c)
  in_order zero = (f.none run 1 (endless 1) (omega arith)).in_order
  in_order (suc c) = subst (λ k. IsInOrder kept.queue (cycle_of run k)) (next_cycle c) (b.moves run (c + 2) (endless (c + 2)) c (omega arith) (may_move c (in_order c))).in_order

  offsets_next : (c : ℕ) → offsets (suc c) ≡ drop (if is_raised (run.net c answer.valid.number) then 1 else 0) (offsets c) ++ only_if (takes_read above c) (offset_in form.up form.down (run.net c from.address.number))
  offsets_next c =
      let step = (b.moves run (c + 2) (endless (c + 2)) c (omega arith) (may_move c (in_order c))).held in
      let place = f.place (cycle_of run c) (valued c) ∙ sym (same_offset (run.net c from.address.number)) in
      ap offsets (sym (next_cycle c))
      ∙ moved s.narrow_bytes (held_in (cycle_of run c) kept.queue) (held_in (cycle_of run (c + 1)) kept.queue) (run.net c kept.place.number) (run.net c b.goes.number == 1) (run.net c b.asks.number == 1) (is_raised (run.net c answer.valid.number))
      (goes_bit c ∙ ap (λ n. is_raised (run.net c answer.valid.number) && nat_lt 0 n) (sym (count_is c))) step
      ∙ ap₂ (λ t n. drop (if is_raised (run.net c answer.valid.number) then 1 else 0) (offsets c) ++ only_if t n) (asks_bit c ∙ asked_is c) place

  word_by : (c : ℕ) → 0 < length (offsets c) → run.net c back.word.number ≡ run.net c answer.word.number / 256 ^ first_of (offsets c) % 256 ^ form.up.word_bytes
  word_by c some =
      let first = first_is s.narrow_bytes (held_in (cycle_of run c) kept.queue) (run.net c b.takes.place.number) (subst (λ n. 1 ≤ n) (length-map (held_in (cycle_of run c) kept.queue) (offset_of s.narrow_bytes)) some)
      (b.takes.oldest (cycle_of run c) (valued c) (subst (λ n. 1 ≤ n) (count_is c) some)) in
      b.takes.word_is (cycle_of run c) (valued c)
      ∙ in_bytes (run.net c answer.word.number) s.narrow_bytes (run.net c b.takes.place.number)
      ∙ ap₂ (λ n w. run.net c answer.word.number / 256 ^ n % 256 ^ w) (sym first) (sym p.narrow)

  pub runs : RunsAsSelect s.reads above below offsets
  runs = record {
    levels = λ c. f.levels (cycle_of run c) (valued c) ∙ ap₂ silenced (shut_by c) (sym (same_selected (levels_at above.commands.signals c)));
    more = λ c. ap (λ (n : NetValue). run.net c n.number) f.more_is;
    tag = λ c. ap (λ (n : NetValue). run.net c n.number) f.tag_is;
    waitrequest = λ c. b.waits (cycle_of run c) (valued c) ∙ ap (λ t. t || is_raised (run.net c wait.number)) (shut_by c);
    begins = ap (map (offset_of s.narrow_bytes)) (f.none run 1 (endless 1) (omega arith)).none;
    next = offsets_next;
    valid = λ c. ap (λ (n : NetValue). run.net c n.number) b.valid_is;
    word = word_by;
    code = λ c. ap (λ (n : NetValue). run.net c n.number) b.code_is;
  }

  pub fits : (end : ℕ) → EnablesFit above end
  fits end c less shown = subst (λ k. run.net c from.enables.number < 2 ^ k) (f.enables_width ∙ sym p.narrow) (net_fits netlist from.enables f.from_nets.enables (cycle_of run c) (valued c))

  pub select_between : ((target : Target) (up down : Port) (many room : ℕ) (offsets : ℕ → List ℕ) (end : ℕ) → IsSelectPlan target up.shape down.shape many → 1 < room → RunsAsSelect room up down offsets → EnablesFit up end → IsLink (select_form target) up down end) →
      (end : ℕ) → KeepsLaw form above below end
  select_between law end alike = subst (λ (l : LinkForm). IsLink l above below end) (sym p.is) (law form.link.target above below p.many s.reads offsets end p.plan p.deep runs (fits end))

  pub select_runs_between : SelectRuns s form.link.target above below
  select_runs_between = record { many = p.many; plan = p.plan; some = p.deep; offsets = offsets; run = runs }

pub select_ignores : (s : Select) (from to : CommandNets) (kept : SelectKept) (netlist : Netlist) → SelectCommand s from to kept netlist → (one other : Cycle) → IsValuation netlist one → IsValuation netlist other →
    ((n : ℕ) → owns kept.queue n → one.net n ≡ other.net n) → ShowSame from one other → ShowSame to one other
select_ignores s from to kept netlist f one other v w state same =
    let shut = f.shut one v ∙ ap₂ (λ (r : Raw) n. not (is_raised r.levels.write) && not (nat_lt n s.reads)) same (state kept.queue.count.number (inl refl)) ∙ sym (f.shut other w) in
    let levels = f.levels one v ∙ ap₂ (λ t (r : Raw). silenced t (selected (bytes_shape s.narrow_bytes) (bytes_shape s.wide_bytes) r.levels)) shut same ∙ sym (f.levels other w) in
    let more = ap (λ (n : NetValue). one.net n.number) f.more_is ∙ ap (λ (r : Raw). r.more) same ∙ sym (ap (λ (n : NetValue). other.net n.number) f.more_is) in
    let tag = ap (λ (n : NetValue). one.net n.number) f.tag_is ∙ ap (λ (r : Raw). r.tag) same ∙ sym (ap (λ (n : NetValue). other.net n.number) f.tag_is) in
    ap₂ (λ l m. raw_from l m (one.net to.tag.number)) levels more ∙ ap (raw_from (raw_in other to).levels (other.net to.more.number)) tag
