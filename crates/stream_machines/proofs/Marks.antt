-- The marks and the channels of symbols: what may come behind what.
use Rattle.std.proofs.Common.{◌≡◌, ℕ, zero, suc, ◌+◌, ◌-◌, ◌≤◌, ◌<◌, Bool, true, false, cond, not, IsTrue, IsFalse, ◌&&◌, List, [], ◌∷◌, ◌++◌, map, filter, refl, ap, sym, ◌∙◌, subst, arith, eqb}
use Rattle.std.specs.List.{range_with_len}
use Rattle.std.proofs.lemmas.Bool.{and_from, and_left, and_right, cond-true, eq-eqb, ne_eqb, both_ways}
use Rattle.stream_runs.specs.View.{Beat, EndView, Side, beat_at, is_high, is_transfer}
use Rattle.stream_runs.specs.Symbols.{Symbol, without_error, symbol_in, symbols_of, symbol_count, shown_symbols, symbols_in, transferred_symbols}
use Rattle.stream_runs.specs.Source.{IsLegalAt, IsWellFormed, is_open, channel_before}
use Rattle.stream_machines.proofs.Fills.{HoldsData}

-- whether a packet is open after these symbols
abbrev pub open_after : Bool → List Symbol → Bool
open_after opened [] = opened
open_after opened (x ∷ xs) = open_after (not x.last) xs

-- the channel of the last of these symbols
abbrev pub channel_after : ℕ → List Symbol → ℕ
channel_after channel [] = channel
channel_after channel (x ∷ xs) = channel_after x.channel xs

-- the symbol may come where a packet is open or not, behind one on this channel
pub record MayCome (packets : Bool) (largest : ℕ) (opened : Bool) (channel : ℕ) (x : Symbol) : Type 0 where
  pub begins : IsTrue packets → x.first ≡ not opened
  pub unmarked : IsFalse packets → (x.first ≡ false) × (x.last ≡ false)
  pub in_range : x.channel ≤ largest
  pub one_channel : IsTrue packets → IsTrue opened → x.channel ≡ channel

-- the symbols may come one after another
abbrev pub Come : Bool → ℕ → Bool → ℕ → List Symbol → Type 0
Come packets largest opened channel [] = Unit {0}
Come packets largest opened channel (x ∷ xs) = MayCome packets largest opened channel x × Come packets largest (not x.last) x.channel xs

pub open_after-append : (opened : Bool) (xs ys : List Symbol) → open_after opened (xs ++ ys) ≡ open_after (open_after opened xs) ys
open_after-append opened [] ys = refl
open_after-append opened (x ∷ xs) ys = open_after-append (not x.last) xs ys

pub channel_after-append : (channel : ℕ) (xs ys : List Symbol) → channel_after channel (xs ++ ys) ≡ channel_after (channel_after channel xs) ys
channel_after-append channel [] ys = refl
channel_after-append channel (x ∷ xs) ys = channel_after-append x.channel xs ys

pub come-append : (packets : Bool) (largest : ℕ) (opened : Bool) (channel : ℕ) (xs ys : List Symbol) → Come packets largest opened channel xs
    → Come packets largest (open_after opened xs) (channel_after channel xs) ys → Come packets largest opened channel (xs ++ ys)
come-append packets largest opened channel [] ys p q = q
come-append packets largest opened channel (x ∷ xs) ys p q = (p.0, come-append packets largest (not x.last) x.channel xs ys p.1 q)

pub come-left : (packets : Bool) (largest : ℕ) (opened : Bool) (channel : ℕ) (xs ys : List Symbol) → Come packets largest opened channel (xs ++ ys) → Come packets largest opened channel xs
come-left packets largest opened channel [] ys p = tt
come-left packets largest opened channel (x ∷ xs) ys p = (p.0, come-left packets largest (not x.last) x.channel xs ys p.1)

pub come-right : (packets : Bool) (largest : ℕ) (opened : Bool) (channel : ℕ) (xs ys : List Symbol) → Come packets largest opened channel (xs ++ ys)
    → Come packets largest (open_after opened xs) (channel_after channel xs) ys
come-right packets largest opened channel [] ys p = p
come-right packets largest opened channel (x ∷ xs) ys p = come-right packets largest (not x.last) x.channel xs ys p.1

-- errors do not count
pub come-without_error : (packets : Bool) (largest : ℕ) (opened : Bool) (channel : ℕ) (xs : List Symbol) → Come packets largest opened channel xs → Come packets largest opened channel (map without_error xs)
come-without_error packets largest opened channel [] p = tt
come-without_error packets largest opened channel (x ∷ xs) p =
    (record { begins = p.0.begins; unmarked = p.0.unmarked; in_range = p.0.in_range; one_channel = p.0.one_channel }, come-without_error packets largest (not x.last) x.channel xs p.1)

pub come-with_error : (packets : Bool) (largest : ℕ) (opened : Bool) (channel : ℕ) (xs : List Symbol) → Come packets largest opened channel (map without_error xs) → Come packets largest opened channel xs
come-with_error packets largest opened channel [] p = tt
come-with_error packets largest opened channel (x ∷ xs) p =
    (record { begins = p.0.begins; unmarked = p.0.unmarked; in_range = p.0.in_range; one_channel = p.0.one_channel }, come-with_error packets largest (not x.last) x.channel xs p.1)

-- ---- the symbols of a beat

module _ (side : Side) (beat : Beat) where
  -- the symbols behind the first one: each is on the beat's channel, inside its packet
  come_behind : (n j : ℕ) → 0 < j → j + n ≡ symbol_count side beat → (beat.channel ≤ side.max_channel) → (IsFalse side.packets → eqb beat.last 1 ≡ false)
      → Come side.packets side.max_channel true beat.channel (map (symbol_in side beat) (range_with_len j n))
  come_behind zero j some e range unmarked = tt
  come_behind (suc n) j some e range unmarked = (
    record {
      begins = λ _. later;
      unmarked = λ u. (later, and_left _ _ (unmarked u));
      in_range = range;
      one_channel = λ _ _. refl;
    },
    rest n (omega arith) (λ h. come_behind n (j + 1) (omega arith) h range unmarked),
  )
    where
      later : (symbol_in side beat j).first ≡ false
      later = and_right _ _ (ne_eqb j 0 (λ z. omega arith))

      rest : (m : ℕ) → m ≡ n → (j + 1 + n ≡ symbol_count side beat → Come side.packets side.max_channel true beat.channel (map (symbol_in side beat) (range_with_len (j + 1) n))) → Come side.packets side.max_channel (not (symbol_in side beat j).last) beat.channel (map (symbol_in side beat) (range_with_len (j + 1) n))
      rest zero is behind = rw (← is) tt
      rest (suc m) is behind =
          let inner : (symbol_in side beat j).last ≡ false = and_right _ _ (ne_eqb (j + 1) (symbol_count side beat) (λ z. omega arith)) in
          subst (λ b. Come side.packets side.max_channel (not b) beat.channel (map (symbol_in side beat) (range_with_len (j + 1) n))) (sym inner) (behind (omega arith))

  -- a well formed beat has symbols that may come
  pub come-beat : (opened : Bool) (channel : ℕ) → 0 < symbol_count side beat → IsWellFormed side opened channel beat → Come side.packets side.max_channel opened channel (symbols_of side beat)
  come-beat opened channel some formed = by_count (symbol_count side beat) refl some
    where
      first_is : (symbol_in side beat 0).first ≡ eqb beat.first 1
      first_is = by_first (eqb beat.first 1)
        where
          by_first : (b : Bool) → (b && true) ≡ b
          by_first true = refl
          by_first false = refl

      come_first : MayCome side.packets side.max_channel opened channel (symbol_in side beat 0)
      come_first =
          record {
            begins = λ p. first_is ∙ formed.begins p;
            unmarked = λ u. (first_is ∙ (formed.unmarked u).0, and_left _ _ (formed.unmarked u).1);
            in_range = formed.in_range;
            one_channel = formed.one_channel;
          }

      by_count : (n : ℕ) → symbol_count side beat ≡ n → 0 < n → Come side.packets side.max_channel opened channel (map (symbol_in side beat) (range_with_len 0 n))
      by_count zero e h = absurd (omega arith)
      by_count (suc zero) e h = (come_first, tt)
      by_count (suc (suc n)) e h =
          let inner : (symbol_in side beat 0).last ≡ false = and_right _ _ (ne_eqb (0 + 1) (symbol_count side beat) (λ z. omega arith)) in (
            come_first,
            subst (λ b. Come side.packets side.max_channel (not b) beat.channel (map (symbol_in side beat) (range_with_len 1 (suc n)))) (sym inner)
                (come_behind (suc n) 1 (omega arith) (omega arith) formed.in_range (λ u. (formed.unmarked u).1)),
          )

  open_behind : (opened : Bool) (n j : ℕ) → j + suc n ≡ symbol_count side beat → open_after opened (map (symbol_in side beat) (range_with_len j (suc n))) ≡ not (eqb beat.last 1)
  open_behind opened zero j e =
      ap not (by_last (eqb beat.last 1))
    where
      by_last : (b : Bool) → (b && eqb (j + 1) (symbol_count side beat)) ≡ b
      by_last b = rw (eq-eqb (j + 1) (symbol_count side beat) (omega arith)) (same b)
        where
          same : (b : Bool) → (b && true) ≡ b
          same true = refl
          same false = refl
  open_behind opened (suc n) j e = open_behind (not (symbol_in side beat j).last) n (j + 1) (omega arith)

  channel_behind : (channel : ℕ) (n j : ℕ) → channel_after channel (map (symbol_in side beat) (range_with_len j (suc n))) ≡ beat.channel
  channel_behind channel zero j = refl
  channel_behind channel (suc n) j = channel_behind beat.channel n (j + 1)

  pub open_after-beat : (opened : Bool) → 0 < symbol_count side beat → open_after opened (symbols_of side beat) ≡ not (eqb beat.last 1)
  open_after-beat opened some = by_count (symbol_count side beat) refl some
    where
      by_count : (n : ℕ) → symbol_count side beat ≡ n → 0 < n → open_after opened (map (symbol_in side beat) (range_with_len 0 n)) ≡ not (eqb beat.last 1)
      by_count zero e h = absurd (omega arith)
      by_count (suc n) e h = open_behind opened n 0 (omega arith)

  pub channel_after-beat : (channel : ℕ) → 0 < symbol_count side beat → channel_after channel (symbols_of side beat) ≡ beat.channel
  channel_after-beat channel some = by_count (symbol_count side beat) some
    where
      by_count : (n : ℕ) → 0 < n → channel_after channel (map (symbol_in side beat) (range_with_len 0 n)) ≡ beat.channel
      by_count zero h = absurd (omega arith)
      by_count (suc n) h = channel_behind channel n 0

  -- the last symbol bears the last mark of the beat
  unmarked_behind : (packets : Bool) (largest : ℕ) (opened : Bool) (channel : ℕ) (n j : ℕ) → j + suc n ≡ symbol_count side beat → Come packets largest opened channel (map (symbol_in side beat) (range_with_len j (suc n)))
      → IsFalse packets → eqb beat.last 1 ≡ false
  unmarked_behind packets largest opened channel zero j e come u = by_last (eqb beat.last 1) (come.0.unmarked u).1
    where
      by_last : (b : Bool) → (b && eqb (j + 1) (symbol_count side beat)) ≡ false → b ≡ false
      by_last true q = absurd (both_ways _ q (eq-eqb (j + 1) (symbol_count side beat) (omega arith)))
      by_last false q = refl
  unmarked_behind packets largest opened channel (suc n) j e come u = unmarked_behind packets largest (not (symbol_in side beat j).last) beat.channel n (j + 1) (omega arith) come.1 u

  -- a beat whose symbols may come is well formed
  pub formed-beat : (opened : Bool) (channel : ℕ) → 0 < symbol_count side beat → Come side.packets side.max_channel opened channel (symbols_of side beat) → (side.error_bits ≡ 0 → beat.error ≡ 0) → IsWellFormed side opened channel beat
  formed-beat opened channel some come quiet = by_count (symbol_count side beat) refl some come
    where
      first_is : (symbol_in side beat 0).first ≡ eqb beat.first 1
      first_is = by_first (eqb beat.first 1)
        where
          by_first : (b : Bool) → (b && true) ≡ b
          by_first true = refl
          by_first false = refl

      has_room : 0 < symbol_count side beat → IsTrue (eqb beat.last 1) → beat.empty < side.symbols
      has_room h ends =
          let left : symbol_count side beat ≡ side.symbols - beat.empty = cond-true _ _ _ ends in
          omega (arith, left)

      by_count : (n : ℕ) → symbol_count side beat ≡ n → 0 < n → Come side.packets side.max_channel opened channel (map (symbol_in side beat) (range_with_len 0 n)) → IsWellFormed side opened channel beat
      by_count zero e h c = absurd (omega arith)
      by_count (suc n) e h c =
          record {
            begins = λ p. sym first_is ∙ c.0.begins p;
            unmarked = λ u. (sym first_is ∙ (c.0.unmarked u).0, unmarked_behind side.packets side.max_channel opened channel n 0 (omega arith) c u);
            holds_data = has_room some;
            in_range = c.0.in_range;
            one_channel = c.0.one_channel;
            quiet = quiet;
          }

-- ---- the symbols of a run

module _ (side : Side) (view : EndView) where
  pub open_is : (c : ℕ) → HoldsData side view c → is_open side.pace view c ≡ open_after false (transferred_symbols side view c)
  open_is zero some = refl
  open_is (suc c) some = by_transfer (open_is c (λ b h. some b (omega arith))) (is_transfer side.pace view c) refl ∙ sym (open_after-append false (transferred_symbols side view c) (symbols_in side view c))
    where
      by_transfer : is_open side.pace view c ≡ open_after false (transferred_symbols side view c) → (b : Bool) → is_transfer side.pace view c ≡ b → cond b (not (is_high view.last c)) (is_open side.pace view c) ≡ open_after (open_after false (transferred_symbols side view c)) (cond b (shown_symbols side view c) [])
      by_transfer earlier true moves = sym (open_after-beat side (beat_at view c) (open_after false (transferred_symbols side view c)) (some c (omega arith) moves))
      by_transfer earlier false stays = earlier

  pub channel_is : (c : ℕ) → HoldsData side view c → channel_before side.pace view c ≡ channel_after 0 (transferred_symbols side view c)
  channel_is zero some = refl
  channel_is (suc c) some = by_transfer (channel_is c (λ b h. some b (omega arith))) (is_transfer side.pace view c) refl ∙ sym (channel_after-append 0 (transferred_symbols side view c) (symbols_in side view c))
    where
      by_transfer : channel_before side.pace view c ≡ channel_after 0 (transferred_symbols side view c) → (b : Bool) → is_transfer side.pace view c ≡ b → cond b (view.channel c) (channel_before side.pace view c) ≡ channel_after (channel_after 0 (transferred_symbols side view c)) (cond b (shown_symbols side view c) [])
      by_transfer earlier true moves = sym (channel_after-beat side (beat_at view c) (channel_after 0 (transferred_symbols side view c)) (some c (omega arith) moves))
      by_transfer earlier false stays = earlier

  -- the symbols of a beat that is shown
  abbrev pub shown_in : ℕ → List Symbol
  shown_in c = cond (is_high view.valid c) (shown_symbols side view c) []

  pub come_shown : (c : ℕ) → HoldsData side view c → (IsTrue (is_high view.valid c) → 0 < symbol_count side (beat_at view c)) → IsLegalAt side view c
      → Come side.packets side.max_channel (open_after false (transferred_symbols side view c)) (channel_after 0 (transferred_symbols side view c)) (shown_in c)
  come_shown c some filled legal = by_valid (is_high view.valid c) refl
    where
      by_valid : (b : Bool) → is_high view.valid c ≡ b → Come side.packets side.max_channel (open_after false (transferred_symbols side view c)) (channel_after 0 (transferred_symbols side view c)) (cond b (shown_symbols side view c) [])
      by_valid false low = tt
      by_valid true shown =
          let formed : IsWellFormed side (open_after false (transferred_symbols side view c)) (channel_after 0 (transferred_symbols side view c)) (beat_at view c) =
          subst (λ o. IsWellFormed side o (channel_after 0 (transferred_symbols side view c)) (beat_at view c)) (open_is c some)
          (subst (λ n. IsWellFormed side (is_open side.pace view c) n (beat_at view c)) (channel_is c some) (legal.formed shown)) in
          come-beat side (beat_at view c) (open_after false (transferred_symbols side view c)) (channel_after 0 (transferred_symbols side view c)) (filled shown) formed

-- ---- the symbols that pass a test

-- what is known of the passing symbols alone: a packet is open where one is open on a passing channel
record Tracks (packets : Bool) (passes : ℕ → Bool) (opened : Bool) (channel : ℕ) (opened' : Bool) (channel' : ℕ) : Type 0 where
  open_too : IsTrue packets → opened' ≡ (opened && passes channel)
  same_channel : IsTrue packets → IsTrue opened' → channel' ≡ channel

come_filtered : (packets : Bool) (passes : ℕ → Bool) (largest largest' : ℕ) → ((channel : ℕ) → channel ≤ largest → IsTrue (passes channel) → channel ≤ largest')
    → (opened opened' : Bool) (channel channel' : ℕ) (xs : List Symbol) → Tracks packets passes opened channel opened' channel'
    → Come packets largest opened channel xs → Come packets largest' opened' channel' (filter (λ (symbol : Symbol). passes symbol.channel) xs)
come_filtered packets passes largest largest' within opened opened' channel channel' [] t come = tt
come_filtered packets passes largest largest' within opened opened' channel channel' (x ∷ xs) t come =
    by_test (λ o n s. come_filtered packets passes largest largest' within (not x.last) o x.channel n xs s come.1) (passes x.channel) refl
  where
    -- in an open packet the symbol is on its channel
    open_state : IsTrue packets → passes x.channel ≡ true → opened' ≡ opened
    open_state p passed = by_open opened refl
      where
        by_open : (b : Bool) → opened ≡ b → opened' ≡ b
        by_open true is = t.open_too p ∙ and_from _ _ is (ap passes (sym (come.0.one_channel p is)) ∙ passed)
        by_open false is = t.open_too p ∙ and_left _ _ is

    shut_state : IsTrue packets → passes x.channel ≡ false → opened' ≡ false
    shut_state p refused = by_open opened refl
      where
        by_open : (b : Bool) → opened ≡ b → opened' ≡ false
        by_open true is = t.open_too p ∙ and_right _ _ (ap passes (sym (come.0.one_channel p is)) ∙ refused)
        by_open false is = t.open_too p ∙ and_left _ _ is

    by_test : ((o : Bool) (n : ℕ) → Tracks packets passes (not x.last) x.channel o n → Come packets largest' o n (filter (λ (symbol : Symbol). passes symbol.channel) xs)) → (b : Bool) → passes x.channel ≡ b → Come packets largest' opened' channel' (cond b (x ∷ filter (λ (symbol : Symbol). passes symbol.channel) xs) (filter (λ (symbol : Symbol). passes symbol.channel) xs))
    by_test rest true passed = (
      record {
        begins = λ p. come.0.begins p ∙ ap not (sym (open_state p passed));
        unmarked = come.0.unmarked;
        in_range = within x.channel come.0.in_range passed;
        one_channel = λ p o. come.0.one_channel p (sym (open_state p passed) ∙ o) ∙ sym (t.same_channel p o);
      },
      rest (not x.last) x.channel (record { open_too = λ p. sym (and_true (not x.last) passed); same_channel = λ p o. refl }),
    )
      where
        and_true : (b : Bool) {c : Bool} → c ≡ true → (b && c) ≡ b
        and_true true q = q
        and_true false q = refl
    by_test rest false refused =
        rest opened' channel' (record { open_too = λ p. shut_state p refused ∙ sym (and_right (not x.last) _ refused); same_channel = λ p o. absurd (both_ways _ (shut_state p refused) o) })

-- what passes of symbols that come from the start may come
pub come_kept : (packets : Bool) (passes : ℕ → Bool) (largest largest' : ℕ) → ((channel : ℕ) → channel ≤ largest → IsTrue (passes channel) → channel ≤ largest')
    → (xs : List Symbol) → Come packets largest false 0 xs → Come packets largest' false 0 (filter (λ (symbol : Symbol). passes symbol.channel) xs)
come_kept packets passes largest largest' within xs come =
    come_filtered packets passes largest largest' within false false 0 0 xs (record { open_too = λ p. refl; same_channel = λ p o. refl }) come
