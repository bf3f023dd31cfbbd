-- The machine next to a host, told by its two sides alone.
use Rattle.std.proofs.Common.{ℕ, suc, ◌<◌, ◌≤◌, ◌≡◌, ◌+◌, ◌-◌, Bool, true, false, not, ◌&&◌, ◌||◌, nat_lt, if◌then◌else◌, length, arith, refl, sym, ap, ap₂, ◌∙◌, tests}
use Rattle.std.proofs.lemmas.Bool.{lt-ltb}
use Rattle.histories.specs.History.{is_raised, one_if, unreached}
use Rattle.memory_runs.specs.Views.{Responses, System, Run, HostSide, HostView}
use Rattle.memory_runs.specs.Commands.{Transfer, words_before}
use Rattle.memory_runs.specs.Legal.{IsLegalHost, host_accepts}
use Rattle.memory_machines.specs.Link.{Port, AnswersAreOwed, takes, taken_at, words_at, words_owed}
use Rattle.memory_machines.specs.SideLaws.{same_counts}
use Rattle.memory_parts.specs.Host.{HostState, IsHostMachine, ReadsWords, is_shut}
use Rattle.memory_parts.specs.Steps.{IsHostPart, has_room, is_gone, may_read, passes_on}
use Rattle.memory_parts.proofs.Queued.{entries, words_of, all_ask, unreached_is}
use Rattle.memory_parts.proofs.QueueBound.{queue_holds, owed_is}
use Rattle.memory_parts.proofs.HostLine.{Asks, asks_at, stands_taken, shows_is, write_takes, valid_takes, same_transfer, ends_is, legal_below}
use Rattle.memory_parts.proofs.HostAnswers.{gives, given_is, lens_valid}

-- a gate that is shut to reads alone
gate_is : (r w n : Bool) → ((not (not n) && r) || w) ≡ ((r || w) && (w || n))
gate_is true true true = refl
gate_is true true false = refl
gate_is true false true = refl
gate_is true false false = refl
gate_is false true true = refl
gate_is false true false = refl
gate_is false false n = nothing n
  where
    nothing : (n : Bool) → ((not (not n) && false) || false) ≡ false
    nothing true = refl
    nothing false = refl

raised_one : (b : Bool) → is_raised (one_if b) ≡ b
raised_one true = refl
raised_one false = refl

module _ (responses : Responses) (system : System) (run : Run) (host : ℕ) (down : Port) (state : HostState) (end : ℕ) (m : IsHostMachine responses (system.host host) (run.at_host host) down state end)
    (legal : IsLegalHost (system.host host) (run.at_host host) end) (single : ReadsWords (system.host host) (run.at_host host) end) (owed : AnswersAreOwed down end) where
  abbrev side : HostSide
  side = system.host host

  abbrev view : HostView
  view = run.at_host host

  early : AnswersAreOwed down (end - 1)
  early c low = owed c (omega (arith, low))

  -- with readdatavalid the queue holds the reads that aren't fully answered
  queue_length : side.has_readdatavalid ≡ true → (c : ℕ) → c < end → nat_lt (length (state.queue c)) 16 ≡ has_room system run host c
  queue_length has c low =
      let holds = queue_holds down end (legal_below responses side view down state end m legal) down.answers.valid state.queue (m.queues has) owed_words c low in
      let count = unreached_is (entries (taken_at down c)) (words_before down.answers.valid c) (all_ask down end (legal_below responses side view down state end m legal) c (omega (arith, low))) in
      ap (λ q. nat_lt (length q) 16) holds
      ∙ ap (λ n. nat_lt n 16) (sym count ∙ ap₂ (λ l w. unreached l w) (lens_valid responses side view down state end m legal single owed has c (omega (arith, low))) (sym (given_is responses side view down state end m legal single owed c (omega (arith, low)))))
    where
      owed_words : (c : ℕ) → suc c < end → words_before down.answers.valid (suc c) ≤ words_of (entries (taken_at down c))
      owed_words c low = let few = owed c (omega (arith, low)) in let asked = owed_is (taken_at down c) in omega (arith, few, asked)

  -- without it the register says that a read was taken below and isn't answered
  gone_is : side.has_readdatavalid ≡ false → (c : ℕ) → c < end → is_gone down c ≡ state.asked c
  gone_is has c low = by_test (stands_taken responses side view down state end m legal single early c) refl
    where
      a : Asks responses side view down state end m legal single early c
      a = asks_at responses side view down state end m legal single early has c low

      words : length (words_at down c) ≡ words_before down.answers.valid c
      words = same_counts (λ c. is_raised (down.answers.valid c)) (λ c. record { word = down.answers.word c; code = down.answers.code c }) (λ c. c) c

      by_test : (b : Bool) → stands_taken responses side view down state end m legal single early c ≡ b → is_gone down c ≡ state.asked c
      by_test true e =
          let count = a.count ∙ ap (λ b. words_before down.answers.valid c + one_if b) e in
          let same = words in
          lt-ltb (length (words_at down c)) (words_owed down c) (omega (arith, count, same)) ∙ sym (a.asked ∙ e)
      by_test false e =
          let count = a.count ∙ ap (λ b. words_before down.answers.valid c + one_if b) e in
          let same = words in
          let all : words_owed down c ≤ length (words_at down c) = omega (arith, count, same) in
          let none : is_gone down c ≡ false = grind (arith, tests, all) in
          none ∙ sym (a.asked ∙ e)

  shut_is : (c : ℕ) → c < end → is_shut side state c ≡ not (may_read system run host down c)
  shut_is c low = by_valid side.has_readdatavalid refl
    where
      twice : (b : Bool) → b ≡ not (not b)
      twice true = refl
      twice false = refl

      by_valid : (b : Bool) → side.has_readdatavalid ≡ b → is_shut side state c ≡ not (may_read system run host down c)
      by_valid true has =
          ap (λ h. if h then not (nat_lt (length (state.queue c)) 16) else state.asked c) has ∙ ap not (queue_length has c low)
          ∙ sym (ap (λ h. not (if h then has_room system run host c else not (is_gone down c))) has)
      by_valid false has =
          ap (λ h. if h then not (nat_lt (length (state.queue c)) 16) else state.asked c) has ∙ sym (gone_is has c low) ∙ twice (is_gone down c)
          ∙ sym (ap (λ h. not (if h then has_room system run host c else not (is_gone down c))) has)

  accepted : (c : ℕ) → c < end → host_accepts view c ≡ passes_on system run host down c
  accepted c low = by_both (is_raised (view.write c)) side.has_readdatavalid refl refl
    where
      read_alone : (r : Bool) → (r || false) ≡ r
      read_alone true = refl
      read_alone false = refl

      by_both : (w h : Bool) → is_raised (view.write c) ≡ w → side.has_readdatavalid ≡ h → host_accepts view c ≡ passes_on system run host down c
      by_both true h w has = sym (write_takes responses side view down state end m legal c low w) ∙ sym (ap (λ w. if w || side.has_readdatavalid then takes down c else is_raised (down.answers.valid c)) w)
      by_both false true w has = sym (valid_takes responses side view down state end m legal has c low) ∙ sym (ap₂ (λ w h. if w || h then takes down c else is_raised (down.answers.valid c)) w has)
      by_both false false w has =
          ap (λ w. (is_raised (view.read c) || w) && not (is_raised (view.waitrequest c))) w
          ∙ ap (λ r. r && not (is_raised (view.waitrequest c))) (read_alone (is_raised (view.read c)))
          ∙ sym (ap (λ h. if h then is_raised (view.readdatavalid c) else is_raised (view.read c) && not (is_raised (view.waitrequest c))) has)
          ∙ gives responses side view down state end m legal single owed c low
          ∙ sym (ap₂ (λ w h. if w || h then takes down c else is_raised (down.answers.valid c)) w has)

  pub host_part : IsHostPart system run host down end
  host_part = record {
    legal = legal;
    one_word = single;
    bytes = m.words;
    shown = λ c low.
        shows_is responses side view down state end m legal c low
        ∙ ap (λ s. (not s && is_raised (view.read c)) || is_raised (view.write c)) (shut_is c low)
        ∙ gate_is (is_raised (view.read c)) (is_raised (view.write c)) (may_read system run host down c);
    accepts = accepted;
    same = λ c low shown. same_transfer responses side view down state end m legal c low;
    level = λ c low shown. ap is_raised (m.write c low);
    more = λ c low shown.
        ap is_raised (m.more c low) ∙ raised_one _ ∙ ap not (ends_is responses side view down state end m legal c low)
        ∙ sym (ap (λ (t : Transfer). not t.ends) (same_transfer responses side view down state end m legal c low));
    gives = λ c low. gives responses side view down state end m legal single owed c low;
    owed = owed;
  }
