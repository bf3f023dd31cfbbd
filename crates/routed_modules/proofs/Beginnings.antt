-- What a module does in the cycles before a given one depends on what its ends show in these alone.
use Rattle.std.proofs.Common.{◌≡◌, ℕ, zero, suc, ◌<◌, ◌≤◌, Bool, ◌&&◌, ◌||◌, IsTrue, List, [], ◌++◌, length, refl, ap, sym, ◌∙◌, subst, arith, nat_lt}
use Rattle.std.specs.Prelude.{if◌then◌else◌, ◌==◌, ◌*◌}
use Rattle.stream_runs.specs.View.{EndView, Beat, Pace, Side, is_high, is_transfer, AgreeBefore}
use Rattle.stream_runs.specs.Source.{IsLegalSource}
use Rattle.stream_runs.specs.Symbols.{Symbol, symbols_of, shown_symbols, symbols_in, transferred_symbols}
use Rattle.routed_runs.specs.Routes.{direct, symbols_on, FollowWithin}
use Rattle.routed_runs.specs.Demultiplexed.{Demultiplexer, DemultiplexerRun, input_side, output_side, IsWaiting, IsOwed, IsDemultiplexed}

pub agree_turned : (one two : EndView) (count : ℕ) → AgreeBefore one two count → AgreeBefore two one count
agree_turned one two count same = record { valid = λ c lt. sym (same.valid c lt); beat = λ c lt. sym (same.beat c lt); ready = λ c lt. sym (same.ready c lt) }

module _ (one two : EndView) (count : ℕ) (same : AgreeBefore one two count) where
  pub same_valid : (c : ℕ) → c < count → is_high one.valid c ≡ is_high two.valid c
  same_valid c lt = ap (λ v. v == 1) (same.valid c lt)

  pub same_ready : (c : ℕ) → c < count → is_high one.ready c ≡ is_high two.ready c
  same_ready c lt = ap (λ v. v == 1) (same.ready c lt)

  pub same_transfer : (pace : Pace) (c : ℕ) → c < count → is_transfer pace one c ≡ is_transfer pace two c
  same_transfer pace c lt =
      ap (λ v. v && (nat_lt 0 pace.latency || is_high one.ready c)) (same_valid c lt)
      ∙ ap (λ r. is_high two.valid c && (nat_lt 0 pace.latency || r)) (same_ready c lt)

  same_in : (side : Side) (c : ℕ) → c < count → symbols_in side one c ≡ symbols_in side two c
  same_in side c lt =
      ap (λ (t : Bool). if t then shown_symbols side one c else []) (same_transfer side.pace c lt)
      ∙ ap (λ (beat : Beat). if is_transfer side.pace two c then symbols_of side beat else []) (same.beat c lt)

  pub same_symbols : (side : Side) (c : ℕ) → c ≤ count → transferred_symbols side one c ≡ transferred_symbols side two c
  same_symbols side zero le = refl
  same_symbols side (suc c) le =
      ap (λ (xs : List Symbol). xs ++ symbols_in side one c) (same_symbols side c (omega arith))
      ∙ ap (λ (xs : List Symbol). transferred_symbols side two c ++ xs) (same_in side c (omega arith))

-- what the lower crate's law says of legal sources
abbrev pub SameLegal : Type 0
SameLegal = (side : Side) (one two : EndView) (count : ℕ) → AgreeBefore one two count → IsLegalSource side one count → IsLegalSource side two count

-- ---- demultiplexers

pub record AgreeAtEnds (demux : Demultiplexer) (one two : DemultiplexerRun) (count : ℕ) : Type 0 where
  pub input : AgreeBefore one.input two.input count
  pub outputs : (k : ℕ) → k < demux.outputs → AgreeBefore (one.outputs k) (two.outputs k) count

module _ (law : SameLegal) (demux : Demultiplexer) (one two : DemultiplexerRun) (count : ℕ) (same : AgreeAtEnds demux one two count) where
  all_ready : (c : ℕ) → c < count → ((k : ℕ) → k < demux.outputs → IsTrue (is_high (two.outputs k).ready c)) → (k : ℕ) → k < demux.outputs → IsTrue (is_high (one.outputs k).ready c)
  all_ready c lt ready k is = subst IsTrue (sym (same_ready (one.outputs k) (two.outputs k) count (same.outputs k is) c lt)) (ready k is)

  waits : (c : ℕ) → c < count → IsWaiting demux two c → IsWaiting demux one c
  waits c lt h = record { ready = all_ready c lt h.ready; shown = subst IsTrue (sym (same_valid one.input two.input count same.input c lt)) h.shown }

  owed : (c : ℕ) → c < count → IsOwed demux two c → IsOwed demux one c
  owed c lt h =
      let given = same_symbols (one.outputs h.output) (two.outputs h.output) count (same.outputs h.output h.is_output) (output_side demux) c (omega (arith, lt)) in
      let taken = same_symbols one.input two.input count same.input (input_side demux) c (omega (arith, lt)) in
      record {
        ready = all_ready c lt h.ready;
        output = h.output;
        is_output = h.is_output;
        undelivered =
            subst (λ (xs : List Symbol). length xs < length (symbols_on h.output (transferred_symbols (input_side demux) one.input c))) (sym given)
            (subst (λ (ys : List Symbol). length (transferred_symbols (output_side demux) (two.outputs h.output) c) < length (symbols_on h.output ys)) (sym taken) h.undelivered);
      }

  pub same_demultiplexed : IsDemultiplexed demux one count → IsDemultiplexed demux two count
  same_demultiplexed h = record {
    legal = λ k is. law (output_side demux) (one.outputs k) (two.outputs k) count (same.outputs k is) (h.legal k is);
    follows = λ k is c le.
        subst (λ (xs : List Symbol). FollowWithin (2 * demux.symbols) (symbols_on k (transferred_symbols (input_side demux) two.input c)) xs) (same_symbols (one.outputs k) (two.outputs k) count (same.outputs k is) (output_side demux) c le)
        (subst (λ (ys : List Symbol). FollowWithin (2 * demux.symbols) (symbols_on k ys) (transferred_symbols (output_side demux) (one.outputs k) c)) (same_symbols one.input two.input count same.input (input_side demux) c le) (h.follows k is c le));
    accepts = λ start inside waiting.
        (let moves = h.accepts start inside (λ c from to. waits c (omega (arith, to, inside)) (waiting c from to)) in
        let to = moves.2 in
        (moves.0, moves.1, to, subst IsTrue (same_transfer one.input two.input count same.input direct moves.0 (omega (arith, to, inside))) moves.3));
    delivers = λ start inside owing.
        (let moves = h.delivers start inside (λ c from to. owed c (omega (arith, to, inside)) (owing c from to)) in
        let to = moves.2 in
        let at = moves.3 in
        let here = at.1 in
        (moves.0, moves.1, to, (at.0, here, subst IsTrue (same_transfer (one.outputs at.0) (two.outputs at.0) count (same.outputs at.0 here) direct moves.0 (omega (arith, to, inside))) at.2)));
  }
