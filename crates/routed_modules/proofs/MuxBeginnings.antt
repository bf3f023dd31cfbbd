-- What a multiplexer does in the cycles before a given one depends on what its ends show in these alone.
use Rattle.std.proofs.Common.{◌≡◌, ◌⊎◌, inl, inr, ℕ, zero, suc, ◌+◌, ◌<◌, ◌≤◌, Bool, ◌&&◌, not, IsTrue, IsFalse, List, ◌∷◌, ◌++◌, length, refl, ap, sym, ◌∙◌, subst, arith, filter}
use Rattle.std.specs.Prelude.{if◌then◌else◌, ◌==◌, ◌*◌}
use Rattle.std.proofs.lemmas.Bool.{cases_lt}
use Rattle.histories.specs.History.{before, is_first, stands_on, numbers}
use Rattle.stream_runs.specs.View.{EndView, Beat, is_high, is_transfer, AgreeBefore}
use Rattle.stream_runs.specs.Source.{is_open}
use Rattle.stream_runs.specs.Symbols.{Symbol, transferred_symbols}
use Rattle.routed_runs.specs.Routes.{direct, symbols_on, FollowWithin}
use Rattle.routed_runs.specs.Multiplexed.{Multiplexer, MultiplexerRun, input_side, output_side, begins, presents, begun_elsewhere, AreAllWaiting, IsOwed, IsMultiplexed}
use Rattle.routed_modules.proofs.Beginnings.{SameLegal, same_valid, same_ready, same_transfer, same_symbols}

module _ (one two : EndView) (count : ℕ) (same : AgreeBefore one two count) where
  same_first : (c : ℕ) → c < count → is_high one.first c ≡ is_high two.first c
  same_first c lt = ap (λ (beat : Beat). beat.first == 1) (same.beat c lt)

  same_last : (c : ℕ) → c < count → is_high one.last c ≡ is_high two.last c
  same_last c lt = ap (λ (beat : Beat). beat.last == 1) (same.beat c lt)

  same_channel : (c : ℕ) → c < count → one.channel c ≡ two.channel c
  same_channel c lt = ap (λ (beat : Beat). beat.channel) (same.beat c lt)

  same_moves : (c : ℕ) → c < count → is_transfer direct one c ≡ is_transfer direct two c
  same_moves c lt = same_transfer one two count same direct c lt

  same_open : (c : ℕ) → c ≤ count → is_open direct one c ≡ is_open direct two c
  same_open zero le = refl
  same_open (suc c) le =
      ap (λ (moves : Bool). if moves then not (is_high one.last c) else is_open direct one c) (same_moves c (omega arith))
      ∙ ap (λ (last : Bool). if is_transfer direct two c then not last else is_open direct one c) (same_last c (omega arith))
      ∙ ap (λ (opened : Bool). if is_transfer direct two c then not (is_high two.last c) else opened) (same_open c (omega arith))

  same_stands : (c : ℕ) → c < count → stands_on (is_high one.valid) (is_transfer direct one) c ≡ stands_on (is_high two.valid) (is_transfer direct two) c
  same_stands c lt =
      ap (λ (shown : Bool). shown && not (is_transfer direct one c)) (same_valid one two count same c lt)
      ∙ ap (λ (moves : Bool). is_high two.valid c && not moves) (same_moves c lt)

  same_is_first : (c : ℕ) → c < count → is_first (is_high one.valid) (is_transfer direct one) c ≡ is_first (is_high two.valid) (is_transfer direct two) c
  same_is_first zero lt = same_valid one two count same zero lt
  same_is_first (suc c) lt =
      ap (λ (shown : Bool). shown && not (stands_on (is_high one.valid) (is_transfer direct one) c)) (same_valid one two count same (suc c) lt)
      ∙ ap (λ (stands : Bool). is_high two.valid (suc c) && not stands) (same_stands c (omega arith))

  same_presents : (c : ℕ) → c < count → presents one c ≡ presents two c
  same_presents c lt =
      ap (λ (begun : Bool). begun && is_high one.first c) (same_is_first c lt)
      ∙ ap (λ (first : Bool). is_first (is_high two.valid) (is_transfer direct two) c && first) (same_first c lt)

  same_begins : (c : ℕ) → c < count → begins one c ≡ begins two c
  same_begins c lt =
      ap (λ (moves : Bool). moves && is_high one.first c) (same_moves c lt)
      ∙ ap (λ (first : Bool). is_transfer direct two c && first) (same_first c lt)

filter_numbers : (p q : ℕ → Bool) (first count : ℕ) → ((j : ℕ) → first ≤ j → j < first + count → p j ≡ q j) → filter p (numbers first count) ≡ filter q (numbers first count)
filter_numbers p q first zero agree = refl
filter_numbers p q first (suc count) agree =
    let here : p first ≡ q first = agree first (omega arith) (omega arith) in
    let rest = filter_numbers p q (suc first) count (λ j low high. agree j (omega (arith, low)) (omega (arith, high))) in
    ap (λ (b : Bool). if b then first ∷ filter p (numbers (suc first) count) else filter p (numbers (suc first) count)) here
    ∙ ap (λ (list : List ℕ). if q first then first ∷ list else list) rest

before_same : (f g : ℕ → List ℕ) (c : ℕ) → ((d : ℕ) → d < c → f d ≡ g d) → before f c ≡ before g c
before_same f g zero agree = refl
before_same f g (suc c) agree =
    let earlier = before_same f g c (λ d lt. agree d (omega (arith, lt))) in
    ap (λ (list : List ℕ). list ++ f c) earlier ∙ ap (λ (list : List ℕ). before g c ++ list) (agree c (omega arith))

pub record AgreeAtMux (mux : Multiplexer) (one two : MultiplexerRun) (count : ℕ) : Type 0 where
  pub inputs : (i : ℕ) → i < mux.inputs → AgreeBefore (one.inputs i) (two.inputs i) count
  pub output : AgreeBefore one.output two.output count

module _ (law : SameLegal) (mux : Multiplexer) (one two : MultiplexerRun) (count : ℕ) (same : AgreeAtMux mux one two count) where
  begun_same : (i c : ℕ) → c < count → begun_elsewhere mux one i c ≡ begun_elsewhere mux two i c
  begun_same i c lt =
      filter_numbers (λ j. not (j == i) && begins (one.inputs j) c) (λ j. not (j == i) && begins (two.inputs j) c) 0 mux.inputs
      (λ j low high. ap (λ (b : Bool). not (j == i) && b) (same_begins (one.inputs j) (two.inputs j) count (same.inputs j (omega (arith, high))) c lt))

  begun_before : (i c : ℕ) → c ≤ count → before (begun_elsewhere mux one i) c ≡ before (begun_elsewhere mux two i) c
  begun_before i c le = before_same (begun_elsewhere mux one i) (begun_elsewhere mux two i) c (λ d lt. begun_same i d (omega (arith, lt, le)))

  ready_back : (c : ℕ) → c < count → IsTrue (is_high two.output.ready c) → IsTrue (is_high one.output.ready c)
  ready_back c lt h = subst IsTrue (sym (same_ready one.output two.output count same.output c lt)) h

  valid_back : (i c : ℕ) → i < mux.inputs → c < count → IsTrue (is_high (two.inputs i).valid c) → IsTrue (is_high (one.inputs i).valid c)
  valid_back i c is lt h = subst IsTrue (sym (same_valid (one.inputs i) (two.inputs i) count (same.inputs i is) c lt)) h

  waits : (c : ℕ) → c < count → AreAllWaiting mux two c → AreAllWaiting mux one c
  waits c lt h = record {
    ready = ready_back c lt h.ready;
    some = (let at = h.some in (at.0, at.1, valid_back at.0 c at.1 lt at.2));
    inside = λ i is opened. valid_back i c is lt (h.inside i is (subst IsTrue (same_open (one.inputs i) (two.inputs i) count (same.inputs i is) c (omega (arith, lt))) opened));
  }

  owed : (c : ℕ) → c < count → IsOwed mux two c → IsOwed mux one c
  owed c lt h =
      let given = same_symbols one.output two.output count same.output (output_side mux) c (omega (arith, lt)) in
      let taken = same_symbols (one.inputs h.input) (two.inputs h.input) count (same.inputs h.input h.is_input) (input_side mux) c (omega (arith, lt)) in
      record {
        ready = ready_back c lt h.ready;
        input = h.input;
        is_input = h.is_input;
        undelivered =
            subst (λ (xs : List Symbol). length (symbols_on h.input xs) < length (transferred_symbols (input_side mux) (one.inputs h.input) c)) (sym given)
            (subst (λ (ys : List Symbol). length (symbols_on h.input (transferred_symbols (output_side mux) two.output c)) < length ys) (sym taken) h.undelivered);
      }

  fair_same : IsMultiplexed mux one count → (i : ℕ) → i < mux.inputs → (b c : ℕ) → b < c → c ≤ count → IsTrue (presents (two.inputs i) b)
      → ((d : ℕ) → b ≤ d → d < c → IsFalse (is_transfer direct (two.inputs i) d))
      → length (before (begun_elsewhere mux two i) c) ≤ length (before (begun_elsewhere mux two i) b) + mux.inputs
  fair_same h i is b c less inside presented none =
      let ends = same.inputs i is in
      subst (λ (xs : List ℕ). length xs ≤ length (before (begun_elsewhere mux two i) b) + mux.inputs) (begun_before i c inside)
      (subst (λ (ys : List ℕ). length (before (begun_elsewhere mux one i) c) ≤ length ys + mux.inputs) (begun_before i b (omega (arith, less, inside)))
      (h.fair i is b c (omega (arith, less)) inside
      (subst IsTrue (sym (same_presents (one.inputs i) (two.inputs i) count ends b (omega (arith, less, inside)))) presented)
      (λ d low high. subst IsFalse (sym (same_moves (one.inputs i) (two.inputs i) count ends d (omega (arith, high, inside)))) (none d low high))))

  pub same_multiplexed : IsMultiplexed mux one count → IsMultiplexed mux two count
  same_multiplexed h = record {
    legal = law (output_side mux) one.output two.output count same.output h.legal;
    follows = λ i is c le.
        subst (λ (xs : List Symbol). FollowWithin (2 * mux.symbols) xs (symbols_on i (transferred_symbols (output_side mux) two.output c))) (same_symbols (one.inputs i) (two.inputs i) count (same.inputs i is) (input_side mux) c le)
        (subst (λ (ys : List Symbol). FollowWithin (2 * mux.symbols) (transferred_symbols (input_side mux) (one.inputs i) c) (symbols_on i ys)) (same_symbols one.output two.output count same.output (output_side mux) c le) (h.follows i is c le));
    whole = λ b c less inside moves first goes also.
        (let at_b : b < count = omega (arith, less, inside) in
        sym (same_channel one.output two.output count same.output c inside)
        ∙ h.whole b c less inside
        (subst IsTrue (sym (same_moves one.output two.output count same.output b at_b)) moves)
        (subst IsTrue (sym (same_first one.output two.output count same.output b at_b)) first)
        (λ d low high given. subst IsFalse (sym (same_last one.output two.output count same.output d (omega (arith, high, inside)))) (goes d low high (subst IsTrue (same_moves one.output two.output count same.output d (omega (arith, high, inside))) given)))
        (subst IsTrue (sym (same_moves one.output two.output count same.output c inside)) also)
        ∙ same_channel one.output two.output count same.output b at_b);
    fair = λ i is b c le inside presented none. by_place h i is b c le inside presented none (cases_lt b c);
    accepts = λ start inside waiting.
        (let moves = h.accepts start inside (λ c from to. waits c (omega (arith, to, inside)) (waiting c from to)) in
        let to = moves.2 in
        let at = moves.3 in
        (moves.0, moves.1, to, (at.0, at.1, subst IsTrue (same_moves (one.inputs at.0) (two.inputs at.0) count (same.inputs at.0 at.1) moves.0 (omega (arith, to, inside))) at.2)));
    delivers = λ start inside owing.
        (let moves = h.delivers start inside (λ c from to. owed c (omega (arith, to, inside)) (owing c from to)) in
        let to = moves.2 in
        (moves.0, moves.1, to, subst IsTrue (same_moves one.output two.output count same.output moves.0 (omega (arith, to, inside))) moves.3));
  }
    where
      by_place : IsMultiplexed mux one count → (i : ℕ) → i < mux.inputs → (b c : ℕ) → b ≤ c → c ≤ count → IsTrue (presents (two.inputs i) b)
          → ((d : ℕ) → b ≤ d → d < c → IsFalse (is_transfer direct (two.inputs i) d)) → (b < c) ⊎ (c ≤ b)
          → length (before (begun_elsewhere mux two i) c) ≤ length (before (begun_elsewhere mux two i) b) + mux.inputs
      by_place h i is b c le inside presented none (inl less) = fair_same h i is b c less inside presented none
      by_place h i is b c le inside presented none (inr more) =
          let here : c ≡ b = omega (arith, le, more) in
          subst (λ n. length (before (begun_elsewhere mux two i) n) ≤ length (before (begun_elsewhere mux two i) b) + mux.inputs) (sym here) (omega arith)
