-- The nets of a gatherer are the machine of one.
use Rattle.std.specs.Prelude.{ℕ, zero, suc, ◌+◌, ◌-◌, ◌*◌, ◌%◌, ◌^◌, ◌<◌, ◌≤◌, ◌≡◌, ◌⊎◌, Bool, true, false, not, ◌&&◌, ◌||◌, ◌==◌, if◌then◌else◌, List, [], ◌∷◌, length}
use Rattle.std.proofs.Common.{refl, sym, ap, ◌∙◌, inl, inr, arith, subst}
use Rattle.std.proofs.lemmas.Bool.{cases_Bool, cond-true, cond-false, eqb-true, eqb-false, and_parts}
use Rattle.std.proofs.Math.Nat.{mod-eq_of_lt}
use Rattle.netlist.specs.Nets.{NetValue}
use Rattle.netlist.specs.Netlists.{Netlist}
use Rattle.netlist.specs.Runs.{Run, cycle_of, Always, IsEndlessRun, IsValuation}
use Rattle.netlist.specs.Longer.{Extends}
use Rattle.net_parts.specs.Laws.{width_fits}
use Rattle.stream_runs.specs.View.{is_transfer}
use Rattle.routed_runs.specs.Routes.{direct}
use Rattle.routed_runs.specs.Gathered.{Gatherer, GathererRun}
use Rattle.routed_runs.specs.Gathering.{side_by_side, completes, plain_beat, words_after, Started, IsGathererRun}
use Rattle.net_parts.specs.Nets.{StartsLow, TakesNext}
use Rattle.st_gather.specs.declared.words.WordNets.{WordNets}
use Rattle.st_gather.specs.declared.gather.GathererNets.{GathererNets}
use Rattle.st_gather.specs.Counts.{field, Picks, AreLater}
use Rattle.st_gather.specs.declared.gather.GathererShape.{GathererShape}
use Rattle.st_gather.specs.declared.gather.FlowNets.{FlowNets}
use Rattle.st_gather.specs.Words.{AreWordNets, JoinsWords}
use Rattle.st_gather.specs.Gatherers.{IsShape, HasShape, gatherer_run}
use Rattle.st_gather.specs.Flows.{CountsWords}
use Rattle.st_gather.proofs.Counting.{last_of, next_of, field_none}
use Rattle.st_gather.proofs.Keeping.{HasWords, has_none, has_more, has_all}

-- the nets of a gatherer of so many channels and parts, whose words have so many bits, and how they hang together
pub record IsJoined (netlist : Netlist) (channels channel_bits bits parts count_bits : ℕ) (from : WordNets) (ready counts count last moves next : NetValue) (made : GathererNets) : Type 0 where
  pub reach : channels ≤ 2 ^ channel_bits
  pub some_parts : 2 ≤ parts
  pub few_parts : parts ≤ 2 ^ count_bits
  pub channel : Always netlist (λ cycle. cycle.net from.channel.number < 2 ^ channel_bits)
  pub word : Always netlist (λ cycle. cycle.net from.word.number < 2 ^ bits)
  pub starts : StartsLow netlist counts
  pub picks : Always netlist (λ cycle. Picks (λ k. field count_bits k (cycle.net counts.number)) (cycle.net from.channel.number) channel_bits 0 channels (cycle.net count.number))
  pub last_is : Always netlist (λ cycle. cycle.net last.number ≡ (if cycle.net count.number == parts - 1 then 1 else 0))
  pub next_is : Always netlist (λ cycle. cycle.net next.number ≡ (if cycle.net last.number == 1 then 0 else (cycle.net count.number + 1) % 2 ^ count_bits))
  pub room : Always netlist (λ cycle. (cycle.net made.ready.number == 1) ≡ (not (cycle.net last.number == 1) || (cycle.net ready.number == 1)))
  pub valid : Always netlist (λ cycle. (cycle.net made.valid.number == 1) ≡ ((cycle.net from.valid.number == 1) && (cycle.net last.number == 1)))
  pub moving : Always netlist (λ cycle. (cycle.net moves.number == 1) ≡ ((cycle.net from.valid.number == 1) && (cycle.net made.ready.number == 1)))
  pub later : NetValue
  pub later_is : Always netlist (AreLater counts moves from.channel next count_bits channels later)
  pub takes : TakesNext netlist counts later
  pub joins : JoinsWords netlist from channel_bits bits parts moves made.word

-- the words that came on a channel, the latest first
abbrev pub held_in : Gatherer → GathererRun → ℕ → ℕ → List ℕ
held_in gatherer run k zero = []
held_in gatherer run k (suc c) = words_after gatherer run k c (held_in gatherer run k c)

length_after : (moves ends : Bool) (word : ℕ) (words : List ℕ) → length (if moves then (if ends then [] else word ∷ words) else words) ≡ (if moves then (if ends then 0 else length words + 1) else length words)
length_after true true word words = refl
length_after true false word words = omega arith
length_after false ends word words = refl

module _ (netlist : Netlist) (channels channel_bits bits parts count_bits : ℕ) (from : WordNets) (ready counts count last moves next : NetValue) (made : GathererNets)
    (j : IsJoined netlist channels channel_bits bits parts count_bits from ready counts count last moves next made) (run : Run) (endless : IsEndlessRun netlist run)
    (gatherer : Gatherer) (channels_are : gatherer.channels ≡ channels) (bits_are : gatherer.bits * gatherer.symbols ≡ bits) (parts_are : gatherer.parts ≡ parts) where
  abbrev ends_run : GathererRun
  ends_run = gatherer_run run from ready made

  abbrev held : ℕ → ℕ → List ℕ
  held c k = held_in gatherer ends_run k c

  here : (c : ℕ) → IsValuation netlist (cycle_of run c)
  here c = (endless (c + 1)).valuations c (omega arith)

  abbrev moves_to : ℕ → ℕ → Bool
  moves_to c k = is_transfer direct ends_run.input c && (run.net c from.channel.number == k)

  -- a channel's count is how many words it has, fewer than a beat
  record IsCounted (c k : ℕ) : Type 0 where
    count_is : field count_bits k (run.net c counts.number) ≡ length (held c k)
    few : length (held c k) < parts

  -- the one that is shown
  count_shown : (c k : ℕ) → k < channels → run.net c from.channel.number ≡ k → run.net c count.number ≡ field count_bits k (run.net c counts.number)
  count_shown c k is_channel same =
      let whole : 0 + k ≡ k = omega arith in
      j.picks (cycle_of run c) (here c) k is_channel (mod-eq_of_lt (j.channel (cycle_of run c) (here c)) ∙ same) ∙ ap (λ n. field count_bits n (run.net c counts.number)) whole

  last_at : (c k : ℕ) → k < channels → run.net c from.channel.number ≡ k → IsCounted c k → (run.net c last.number == 1) ≡ (length (held c k) + 1 == parts)
  last_at c k is_channel same was =
      last_of parts (run.net c count.number) (run.net c last.number) j.some_parts (j.last_is (cycle_of run c) (here c))
      ∙ ap (λ n. n + 1 == parts) (count_shown c k is_channel same ∙ was.count_is)

  next_at : (c k : ℕ) → k < channels → run.net c from.channel.number ≡ k → IsCounted c k → run.net c next.number ≡ (if length (held c k) + 1 == parts then 0 else length (held c k) + 1)
  next_at c k is_channel same was =
      j.next_is (cycle_of run c) (here c)
      ∙ ap (λ t. if t then 0 else (run.net c count.number + 1) % 2 ^ count_bits) (last_at c k is_channel same was)
      ∙ ap (λ n. if length (held c k) + 1 == parts then 0 else (n + 1) % 2 ^ count_bits) (count_shown c k is_channel same ∙ was.count_is)
      ∙ next_of parts count_bits (length (held c k)) was.few j.few_parts

  count_after : (c k : ℕ) → k < channels → field count_bits k (run.net (suc c) counts.number) ≡ (if moves_to c k then run.net c next.number else field count_bits k (run.net c counts.number))
  count_after c k is_channel =
      let one : c + 1 ≡ suc c = omega arith in
      ap (λ n. field count_bits k (run.net n counts.number)) (sym one)
      ∙ ap (λ n. field count_bits k n) (j.takes run (c + 2) (endless (c + 2)) c (omega arith))
      ∙ j.later_is (cycle_of run c) (here c) k is_channel
      ∙ ap (λ t. if t && (run.net c from.channel.number == k) then run.net c next.number else field count_bits k (run.net c counts.number)) (j.moving (cycle_of run c) (here c))

  length_later : (c k : ℕ) → length (held (suc c) k) ≡ (if moves_to c k then (if length (held c k) + 1 == parts then 0 else length (held c k) + 1) else length (held c k))
  length_later c k =
      length_after (moves_to c k) (completes gatherer (held c k)) (run.net c from.word.number) (held c k)
      ∙ ap (λ p. if moves_to c k then (if length (held c k) + 1 == p then 0 else length (held c k) + 1) else length (held c k)) parts_are

  counted : (c k : ℕ) → k < channels → IsCounted c k
  counted zero k is_channel =
      let low : run.net 0 counts.number ≡ 0 = j.starts run 1 (endless 1) (omega arith) in
      let some = j.some_parts in
      record { count_is = ap (λ n. field count_bits k n) low ∙ field_none count_bits k; few = omega (arith, some) }
  counted (suc c) k is_channel = by_move (counted c k is_channel) (cases_Bool (moves_to c k)) (cases_Bool (length (held c k) + 1 == parts))
    where
      by_move : IsCounted c k → (moves_to c k ≡ true) ⊎ (moves_to c k ≡ false) → ((length (held c k) + 1 == parts) ≡ true) ⊎ ((length (held c k) + 1 == parts) ≡ false) → IsCounted (suc c) k
      by_move was (inr stays) ends =
          let same = length_later c k ∙ cond-false (moves_to c k) _ (length (held c k)) stays in
          let few = was.few in
          record {
            count_is = count_after c k is_channel ∙ cond-false (moves_to c k) _ _ stays ∙ was.count_is ∙ sym same;
            few = omega (arith, same, few);
          }
      by_move was (inl goes) ends =
          let channel : run.net c from.channel.number ≡ k = eqb-true _ _ (and_parts _ _ goes).1 in
          let then_is = length_later c k ∙ cond-true (moves_to c k) _ (length (held c k)) goes in
          record {
            count_is = count_after c k is_channel ∙ cond-true (moves_to c k) _ _ goes ∙ next_at c k is_channel channel was ∙ sym then_is;
            few = subst (λ n. n < parts) (sym then_is) (next_few (length (held c k)) was.few ends);
          }
        where
          next_few : (n : ℕ) → n < parts → ((n + 1 == parts) ≡ true) ⊎ ((n + 1 == parts) ≡ false) → (if n + 1 == parts then 0 else n + 1) < parts
          next_few n few (inl holds) = subst (λ m. m < parts) (sym (cond-true (n + 1 == parts) 0 (n + 1) holds)) (omega (arith, few))
          next_few n few (inr fails) = let apart = eqb-false _ _ fails in subst (λ m. m < parts) (sym (cond-false (n + 1 == parts) 0 (n + 1) fails)) (omega (arith, few, apart))

  ends_at : (c : ℕ) → run.net c from.channel.number < channels → (run.net c last.number == 1) ≡ completes gatherer (held c (run.net c from.channel.number))
  ends_at c is_channel =
      last_at c (run.net c from.channel.number) is_channel refl (counted c (run.net c from.channel.number) is_channel)
      ∙ ap (λ p. length (held c (run.net c from.channel.number)) + 1 == p) (sym parts_are)

  -- the memory has the words of each channel
  abbrev cell : ℕ → ℕ → ℕ
  cell c k = run.cell c j.joins.memory k

  cell_after : (c k : ℕ) → k < channels
      → cell (suc c) k ≡ (if moves_to c k then run.net c made.word.number % 2 ^ (bits * (parts - 1)) else cell c k)
  cell_after c k is_channel =
      let next : c + 1 ≡ suc c = omega arith in
      let reach = j.reach in
      ap (λ n. cell n k) (sym next) ∙ j.joins.keeps run (c + 2) (endless (c + 2)) c (omega arith) k (omega (arith, is_channel, reach))
      ∙ ap (λ t. if t && (run.net c from.channel.number == k) then run.net c made.word.number % 2 ^ (bits * (parts - 1)) else cell c k) (j.moving (cycle_of run c) (here c))

  kept : (k : ℕ) → k < channels → (c : ℕ) → HasWords bits (cell c k) (held c k)
  kept k is_channel zero = has_none bits (cell zero k)
  kept k is_channel (suc c) =
      by_move (kept k is_channel c) (cases_Bool (moves_to c k)) (cases_Bool (completes gatherer (held c k)))
    where
      by_move : HasWords bits (cell c k) (held c k)
          → ((moves_to c k) ≡ true) ⊎ ((moves_to c k) ≡ false)
          → (completes gatherer (held c k) ≡ true) ⊎ (completes gatherer (held c k) ≡ false)
          → HasWords bits (cell (suc c) k) (held (suc c) k)
      by_move was (inr stays) ends_or =
          subst (λ n. HasWords bits n (held (suc c) k)) (sym (cell_after c k is_channel ∙ cond-false (moves_to c k) _ _ stays))
          (subst (λ (ws : List ℕ). HasWords bits (cell c k) ws) (sym (cond-false (moves_to c k) _ (held c k) stays)) was)
      by_move was (inl goes) (inl holds) =
          subst (λ (ws : List ℕ). HasWords bits (cell (suc c) k) ws)
          (sym (cond-true (moves_to c k) _ (held c k) goes ∙ cond-true (completes gatherer (held c k)) [] (run.net c from.word.number ∷ held c k) holds))
          (has_none bits (cell (suc c) k))
      by_move was (inl goes) (inr fails) =
          let apart = eqb-false _ _ fails in
          let few = (counted c k is_channel).few in
          let fits : length (held c k) + 1 ≤ parts - 1 = omega (arith, few, apart, parts_are) in
          let same : run.net c from.channel.number ≡ k = eqb-true _ _ (and_parts _ _ goes).1 in
          let shown : run.net c made.word.number ≡ cell c k * 2 ^ bits + run.net c from.word.number =
          j.joins.shows (cycle_of run c) (here c) ∙ ap (λ n. cell c n * 2 ^ bits + run.net c from.word.number) same in
          subst (λ n. HasWords bits n (held (suc c) k))
          (sym (cell_after c k is_channel ∙ cond-true (moves_to c k) _ _ goes ∙ ap (λ n. n % 2 ^ (bits * (parts - 1))) shown))
          (subst (λ (ws : List ℕ). HasWords bits ((cell c k * 2 ^ bits + run.net c from.word.number) % 2 ^ (bits * (parts - 1))) ws)
          (sym (cond-true (moves_to c k) _ (held c k) goes ∙ cond-false (completes gatherer (held c k)) [] (run.net c from.word.number ∷ held c k) fails))
          (has_more bits (parts - 1) (cell c k) (run.net c from.word.number) (held c k) was (j.word (cycle_of run c) (here c)) fits))

  beat_is : (c : ℕ) → run.net c from.channel.number < channels → (run.net c last.number == 1) ≡ true → run.net c made.word.number ≡ side_by_side bits (run.net c from.word.number ∷ held c (run.net c from.channel.number))
  beat_is c is_channel holds =
      let all : length (held c (run.net c from.channel.number)) + 1 ≡ gatherer.parts = eqb-true _ _ (sym (ends_at c is_channel) ∙ holds) in
      let reach = j.reach in
      j.joins.shows (cycle_of run c) (here c)
      ∙ ap (λ n. n * 2 ^ bits + run.net c from.word.number)
      (has_all bits (parts - 1) (cell c (run.net c from.channel.number)) (held c (run.net c from.channel.number)) (kept (run.net c from.channel.number) is_channel c)
      (j.joins.fits (cycle_of run c) (here c) (run.net c from.channel.number) (omega (arith, is_channel, reach))) (omega (arith, all, parts_are)))

  abbrev started : Started
  started = record { held = held; ends = λ c. run.net c last.number == 1 }

  pub is_gatherer_run : IsGathererRun gatherer ends_run started
  is_gatherer_run = record {
    starts = λ k is_channel. refl;
    moves = λ c k is_channel. refl;
    fits = λ c. subst (λ n. run.net c from.word.number < 2 ^ n) (sym bits_are) (j.word (cycle_of run c) (here c));
    ends_is = λ c is_channel. ends_at c (subst (λ n. run.net c from.channel.number < n) channels_are is_channel);
    valid = λ c. j.valid (cycle_of run c) (here c);
    beat = λ c is_channel shown.
        (let valid = and_parts _ _ (sym (j.valid (cycle_of run c) (here c)) ∙ shown) in
        ap (λ w. plain_beat (run.net c from.channel.number) w)
        (beat_is c (subst (λ n. run.net c from.channel.number < n) channels_are is_channel) valid.1
        ∙ ap (λ n. side_by_side n (run.net c from.word.number ∷ held c (run.net c from.channel.number))) (sym bits_are)));
    ready = λ c. j.room (cycle_of run c) (here c);
  }

-- in each endless run of a longer netlist
pub gathers_in : (base counted new longer : Netlist) (shape : GathererShape) (from : WordNets) (ready word : NetValue) (flow : FlowNets) → IsShape shape
    → AreWordNets base shape.channel_bits shape.word_bits from → Extends base longer → CountsWords counted shape from ready flow → Extends counted longer
    → JoinsWords new from shape.channel_bits shape.word_bits shape.parts flow.moves word → Extends new longer → (run : Run) → IsEndlessRun longer run → (gatherer : Gatherer) → HasShape gatherer shape
    → (started : Started) × IsGathererRun gatherer (gatherer_run run from ready (record { ready = flow.room; valid = flow.valid; word = word })) started
gathers_in base counted new longer shape from ready word flow is nets base_lasts counts counts_last joins joins_last run endless gatherer has =
    let made : GathererNets = record { ready = flow.room; valid = flow.valid; word = word } in
    let joined : IsJoined longer shape.channels shape.channel_bits shape.word_bits shape.parts counts.bits from ready counts.counts flow.count flow.last flow.moves counts.goes_on.next made = record {
      reach = is.channels;
      some_parts = is.some_parts;
      few_parts = counts.fits;
      channel = λ cycle v. width_fits _ _ _ nets.channel cycle (base_lasts.valuations cycle v);
      word = λ cycle v. width_fits _ _ _ nets.word cycle (base_lasts.valuations cycle v);
      starts = λ run cycles r. counts.starts run cycles (counts_last.runs run cycles r);
      picks = λ cycle v. counts.flows.picks cycle (counts_last.valuations cycle v);
      last_is = λ cycle v. counts.flows.last_is cycle (counts_last.valuations cycle v);
      next_is = λ cycle v. counts.goes_on.next_is cycle (counts_last.valuations cycle v);
      room = λ cycle v. counts.flows.room_is cycle (counts_last.valuations cycle v);
      valid = λ cycle v. counts.flows.valid_is cycle (counts_last.valuations cycle v);
      moving = λ cycle v. counts.flows.moves_is cycle (counts_last.valuations cycle v);
      later = counts.later;
      later_is = λ cycle v. counts.goes_on.later_is cycle (counts_last.valuations cycle v);
      takes = λ run cycles r. counts.takes run cycles (counts_last.runs run cycles r);
      joins = record {
        memory = joins.memory;
        fits = λ cycle v. joins.fits cycle (joins_last.valuations cycle v);
        shows = λ cycle v. joins.shows cycle (joins_last.valuations cycle v);
        keeps = λ run cycles r. joins.keeps run cycles (joins_last.runs run cycles r);
      };
    } in (
      started longer shape.channels shape.channel_bits shape.word_bits shape.parts counts.bits from ready counts.counts flow.count flow.last flow.moves counts.goes_on.next made joined run endless gatherer has.channels has.word has.parts,
      is_gatherer_run longer shape.channels shape.channel_bits shape.word_bits shape.parts counts.bits from ready counts.counts flow.count flow.last flow.moves counts.goes_on.next made joined run endless gatherer has.channels has.word has.parts,
    )
