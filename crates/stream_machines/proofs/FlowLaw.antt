-- An adapter that passes symbols on as a flow does keeps the law of a stage.
use Rattle.std.proofs.Common.{◌≡◌, ℕ, zero, suc, ◌≤◌, ◌<◌, true, IsTrue, IsFalse, List, [], ◌++◌, map, length, take, drop, refl, ap, sym, ◌∙◌, arith, append_assoc, length-append}
use Rattle.std.proofs.lemmas.List.{drop_at, take_at, map-append, length-map}
use Rattle.std.proofs.lemmas.Bool.{both_ways}
use Rattle.stream_runs.specs.Laws.{kept_more, length_in}
use Rattle.stream_runs.specs.View.{is_high, is_ready_cycle, IsReadyBefore}
use Rattle.stream_runs.specs.Symbols.{Symbol, without_error, shown_count, transferred_symbols, symbols_in, kept_symbols, joined_error}
use Rattle.stream_runs.specs.Source.{IsLegalSource}
use Rattle.stream_runs.specs.Delivery.{matched_symbols}
use Rattle.stream_machines.specs.Stage.{Shape, StageRun, StageLaw, RankMoves, inside, gives, is_at_rest, is_idle}
use Rattle.stream_machines.specs.Flow.{IsFlow, PassesOn, kept_in}

-- as the cycle begins, what came in is what went out and what is there
pub record Balance (shape : Shape) (run : StageRun) (store : ℕ → List Symbol) (c : ℕ) : Type 0 where
  pub gone : List Symbol
  pub total : kept_symbols shape.passes shape.up run.up c ≡ gone ++ store c
  pub same : map without_error gone ≡ map without_error (transferred_symbols shape.down run.down c)

module _ (shape : Shape) (run : StageRun) (store : ℕ → List Symbol) (flow : IsFlow shape run store) where
  balance_more : (c : ℕ) → PassesOn shape run store c → Balance shape run store c → Balance shape run store (suc c)
  balance_more c p b =
      record {
        gone = b.gone ++ p.out;
        total = kept_more shape.passes shape.up run.up c
            ∙ (ap (λ (xs : List Symbol). xs ++ kept_in shape.passes shape.up run.up c) b.total
            ∙ (append_assoc b.gone (store c) (kept_in shape.passes shape.up run.up c)
            ∙ (ap (λ (xs : List Symbol). b.gone ++ xs) p.split ∙ sym (append_assoc b.gone p.out (store (suc c))))));
        same = map-append without_error b.gone p.out
            ∙ (ap (λ (xs : List Symbol). xs ++ map without_error p.out) b.same
            ∙ (ap (λ (xs : List Symbol). map without_error (transferred_symbols shape.down run.down c) ++ xs) p.same
            ∙ sym (map-append without_error (transferred_symbols shape.down run.down c) (symbols_in shape.down run.down c))));
      }

  pub balance_of : (c : ℕ) → ((b : ℕ) → b < c → PassesOn shape run store b) → Balance shape run store c
  balance_of zero all = record { gone = []; total = sym flow.starts; same = refl }
  balance_of (suc c) all = balance_more c (all c (omega arith)) (balance_of c (λ b h. all b (omega arith)))

  same_length : (c : ℕ) → (b : Balance shape run store c) → length b.gone ≡ length (transferred_symbols shape.down run.down c)
  same_length c b = sym (length-map b.gone without_error) ∙ (ap length b.same ∙ length-map (transferred_symbols shape.down run.down c) without_error)

  pub inside_of : (c : ℕ) → Balance shape run store c → inside shape run c ≡ store c
  inside_of c b = ap (drop (length (transferred_symbols shape.down run.down c))) b.total ∙ drop_at b.gone (store c) (length (transferred_symbols shape.down run.down c)) (same_length c b)

  few_of : (c : ℕ) → ((b : ℕ) → b < c → PassesOn shape run store b) → length (store c) ≤ shape.hold
  few_of zero all = omega (arith, ap length flow.starts)
  few_of (suc c) all = (all c (omega arith)).few

  errors_at : (c : ℕ) → Balance shape run store c → PassesOn shape run store c → gives shape run c ≡ true
      → run.down.error c ≡ joined_error (matched_symbols shape.passes shape.up shape.down run.up run.down c)
  unfolding balance_more
  errors_at c b p moves =
      let later : kept_symbols shape.passes shape.up run.up (suc c) ≡ b.gone ++ (p.out ++ store (suc c)) =
      (balance_more c p b).total ∙ append_assoc b.gone p.out (store (suc c)) in
      let size : length p.out ≡ shown_count shape.down run.down c =
      sym (length-map p.out without_error) ∙ (ap length p.same ∙ (length-map (symbols_in shape.down run.down c) without_error ∙ length_in shape.down run.down c moves)) in
      let part : matched_symbols shape.passes shape.up shape.down run.up run.down c ≡ p.out =
      ap (λ (xs : List Symbol). take (shown_count shape.down run.down c) (drop (length (transferred_symbols shape.down run.down c)) xs)) later
      ∙ (ap (take (shown_count shape.down run.down c)) (drop_at b.gone (p.out ++ store (suc c)) (length (transferred_symbols shape.down run.down c)) (same_length c b))
      ∙ take_at p.out (store (suc c)) (shown_count shape.down run.down c) size) in
      p.joined moves ∙ sym (ap joined_error part)

  module _ (count : ℕ) (legal : IsLegalSource shape.up run.up count) (ready : IsTrue shape.needs_ready → IsReadyBefore run.down count) where
    all_pass_on : (c : ℕ) → c < count → PassesOn shape run store c
    all_pass_on c h = flow.passes_on c (λ b k. legal b (omega arith)) (λ n b k. ready n b (omega arith))

    balance : (c : ℕ) → c ≤ count → Balance shape run store c
    balance c h = balance_of c (λ b k. all_pass_on b (omega arith))

    pub flow_law : StageLaw shape run count
    flow_law =
        record {
          prefix = record {
            in_order = λ c h. record {
              rest = map without_error (store c);
              joins = ap (λ (xs : List Symbol). xs ++ map without_error (store c)) (sym (balance c h).same)
                  ∙ (sym (map-append without_error (balance c h).gone (store c)) ∙ ap (map without_error) (sym (balance c h).total));
            };
            holds_data = λ c h moves. (all_pass_on c h).some moves;
            errors = λ _ c h moves. errors_at c (balance c (omega arith)) (all_pass_on c h) moves;
          };
          hold = λ c h. omega (arith, ap length (balance c h).total, length-append (balance c h).gone (store c), same_length c (balance c h), few_of c (λ b k. all_pass_on b (omega arith)));
          rank = λ c h. flow.ranked c (λ b k. legal b (omega arith)) (λ n b k. ready n b (omega arith)) (inside_of c (balance c (omega arith)));
        }

-- a stage whose rank is always 0: in a ready cycle in which nothing goes out it is at rest, and where it shows nothing, idle
pub no_rank : (shape : Shape) (run : StageRun) (c : ℕ) → run.rank c ≡ 0 → run.rank (suc c) ≡ 0
    → (IsFalse (gives shape run c) → IsTrue (is_ready_cycle shape.down.pace run.down c) → IsTrue (is_at_rest shape run c))
    → (IsFalse (is_high run.down.valid c) → IsTrue (is_idle shape run c)) → RankMoves shape run c
no_rank shape run c now next rests idles =
    record {
      bounded = omega (arith, now);
      stays = λ quiet moving. omega (arith, next);
      falls = λ quiet ready restless. absurd (both_ways _ restless (rests quiet ready));
      rises = λ given moving. omega (arith, next);
      advances = λ direct low busy. absurd (both_ways _ busy (idles low));
    }
