-- A row of links: what two in a row give, and what one link gives.
use Rattle.std.proofs.Common.{ℕ, ◌<◌, ◌≤◌, ◌≡◌, ◌+◌, ◌-◌, ◌*◌, [], ◌∷◌, ◌++◌, List, Bool, true, false, if◌then◌else◌, arith, refl, sym, ap, ◌∙◌, subst, length, drop, nat_lt, tests, replicate, le_trans}
use Rattle.memory_machines.specs.Shorter.{legal_at_before}
use Rattle.std.proofs.lemmas.List.{length-map}
use Rattle.histories.specs.Laws.{prefix_trans, prefix_refl, prefix_length}
use Rattle.memory_machines.proofs.Wire.{wire_is_link}
use Rattle.memory_machines.proofs.Path.{carrier_of_link, two_carriers, there_legal, there_owed}
use Rattle.memory_machines.proofs.Greatest.{greatest_grows, flat_append}
use Rattle.memory_machines.proofs.ChainCodes.{answer_codes, middle_greatest, total_blocks}
use Rattle.histories.specs.History.{IsPrefix, total}
use Rattle.memory_runs.specs.Operations.{pieces}
use Rattle.memory_machines.specs.Link.{Port, Target, KeepsLinkLaw, AreLegalAt, AnswersAreOwed, answers_at}
use Rattle.memory_machines.specs.Blocks.{Block, flat, sizes_of, AreGreatest, worded, codes_of, blocks_at}
use Rattle.memory_machines.specs.Lines.{IsWordForWord, KeepsRow, HandsOn, bytes_of}

-- words without an answer say nothing
greatest_worded : (bs : List Block) (codes : List ℕ) → AreGreatest bs codes → AreGreatest (worded bs) codes
greatest_worded [] codes g = tt
greatest_worded (b ∷ bs) codes g = by_size (nat_lt 0 b.size) refl (greatest_worded bs (drop b.size codes) g.1)
  where
    by_size : (t : Bool) → nat_lt 0 b.size ≡ t → AreGreatest (worded bs) (drop b.size codes) → AreGreatest (if t then b ∷ worded bs else worded bs) codes
    by_size true e rest = (g.0, rest)
    by_size false e rest = let none : b.size ≡ 0 = grind (arith, tests, e) in subst (λ n. AreGreatest (worded bs) (drop n codes)) none rest

greatest_front : (xs ys : List Block) (codes : List ℕ) → AreGreatest (xs ++ ys) codes → AreGreatest xs codes
greatest_front [] ys codes g = tt
greatest_front (x ∷ xs) ys codes g = (g.0, greatest_front xs ys (drop x.size codes) g.1)

pub worded_total : (bs : List Block) → total (sizes_of (worded bs)) ≡ total (sizes_of bs)
worded_total [] = refl
worded_total (b ∷ bs) = by_size (nat_lt 0 b.size) refl (worded_total bs)
  where
    by_size : (t : Bool) → nat_lt 0 b.size ≡ t → total (sizes_of (worded bs)) ≡ total (sizes_of bs) → total (sizes_of (if t then b ∷ worded bs else worded bs)) ≡ b.size + total (sizes_of bs)
    by_size true e rest = ap (λ n. b.size + n) rest
    by_size false e rest = let none : b.size ≡ 0 = grind (arith, tests, e) in omega (arith, none, rest)

-- links in a row keep codes where all but one are word for word: in front of it
pub greatest_before_worded : (up middle : List Block) (codes : List ℕ) → IsPrefix (worded up) (worded middle) → AreGreatest (worded middle) codes → AreGreatest (worded up) codes
greatest_before_worded up middle codes p g = greatest_front (worded up) p.rest codes (subst (λ l. AreGreatest l codes) (sym p.joins) g)

-- and behind it
pub greatest_behind : (up : List Block) (codes lower : List ℕ) → IsPrefix codes lower → total (sizes_of up) ≤ length codes → AreGreatest up codes → AreGreatest up lower
greatest_behind up codes lower p enough g = subst (λ l. AreGreatest up l) p.joins (greatest_grows up codes p.rest enough g)

-- one link gives what is asked of the links
pub greatest_of_link : (target : Target) (hold : ℕ) (up down : Port) (end c : ℕ) → KeepsLinkLaw target hold up down end → c ≤ end → AreLegalAt up c → AnswersAreOwed down c → AreGreatest (blocks_at target up c) (codes_of (answers_at target down c))
greatest_of_link target hold up down end c link low legal owed = let carries = link.answers c low legal owed in middle_greatest target up down c legal carries.owed carries c (omega arith)

-- one link is a row
pub row_of_link : (target : Target) (hold : ℕ) (up down : Port) (end : ℕ) → KeepsLinkLaw target hold up down end →
    ((c : ℕ) → c ≤ end → AreLegalAt up c → AnswersAreOwed down (c - 1) → HandsOn up down c) → KeepsRow target hold up down end
row_of_link target hold up down end link hands = record {
  hands_on = hands;
  carries = carrier_of_link target hold up down end link;
  codes = λ c low legal owed. greatest_worded (blocks_at target up c) (codes_of (answers_at target down c)) (greatest_of_link target hold up down end c link low legal owed);
}

flat_worded : (bs : List Block) → flat (worded bs) ≡ flat bs
flat_worded [] = refl
flat_worded (b ∷ bs) = by_size (nat_lt 0 b.size) refl (flat_worded bs)
  where
    by_size : (t : Bool) → nat_lt 0 b.size ≡ t → flat (worded bs) ≡ flat bs → flat (if t then b ∷ worded bs else worded bs) ≡ replicate b.size b.code ++ flat bs
    by_size true e rest = ap (λ l. replicate b.size b.code ++ l) rest
    by_size false e rest = let none : b.size ≡ 0 = grind (arith, tests, e) in subst (λ n. flat (worded bs) ≡ replicate n b.code ++ flat bs) (sym none) rest

flat_front : {xs ys : List Block} → IsPrefix xs ys → IsPrefix (flat xs) (flat ys)
flat_front {xs} p = record { rest = flat p.rest; joins = sym (flat_append xs p.rest) ∙ ap flat p.joins }

-- word for word, the codes of the answers are a front too
codes_front : (target : Target) (up down : Port) (c : ℕ) → IsPrefix (worded (blocks_at target up c)) (worded (blocks_at target down c)) → IsPrefix (codes_of (answers_at target up c)) (codes_of (answers_at target down c))
codes_front target up down c p =
    subst (λ l. IsPrefix l (codes_of (answers_at target down c))) (flat_worded (blocks_at target up c) ∙ sym (answer_codes target up c))
    (subst (λ l. IsPrefix (flat (worded (blocks_at target up c))) l) (flat_worded (blocks_at target down c) ∙ sym (answer_codes target down c)) (flat_front p))

enough_codes : (target : Target) (up down : Port) (c : ℕ) → IsPrefix (bytes_of (answers_at target up c)) (bytes_of (answers_at target down c)) → total (sizes_of (blocks_at target up c)) ≤ length (codes_of (answers_at target down c))
enough_codes target up down c p =
    let few = prefix_length p in
    let mine : length (bytes_of (answers_at target up c)) ≡ length (answers_at target up c) = length-map (answers_at target up c) _ in
    let theirs : length (bytes_of (answers_at target down c)) ≡ length (answers_at target down c) = length-map (answers_at target down c) _ in
    let codes : length (codes_of (answers_at target down c)) ≡ length (answers_at target down c) = length-map (answers_at target down c) _ in
    let blocks = total_blocks target up c in
    omega (arith, few, mine, theirs, codes, blocks)

-- a wire hands on, and so do two parts
pub wire_hands_on : (port : Port) (end : ℕ) → HandsOn port port end
wire_hands_on port end = record { tags = λ may bears. bears; kinds = λ side serves. serves }

pub both_hand_on : {up middle down : Port} {end : ℕ} → HandsOn up middle end → HandsOn middle down end → HandsOn up down end
both_hand_on one two = record { tags = λ may bears. two.tags may (one.tags may bears); kinds = λ side serves. two.kinds side (one.kinds side serves) }

-- two rows in a row
module _ (target : Target) (first_hold second_hold : ℕ) (up middle down : Port) (end : ℕ)
    (between : pieces middle.shape down.shape * pieces up.shape middle.shape ≤ pieces up.shape down.shape)
    (first : KeepsRow target first_hold up middle end) (second : KeepsRow target second_hold middle down end) where
  legal_there : (c : ℕ) → c ≤ end → AreLegalAt up c → AnswersAreOwed down c → AreLegalAt middle c
  legal_there c low legal owed = there_legal target first_hold second_hold up middle down end between first.carries second.carries c low legal (λ k less. owed k (omega arith))

  owed_there : (c : ℕ) → c ≤ end → AreLegalAt up c → AnswersAreOwed down c → AnswersAreOwed middle c
  owed_there = there_owed target first_hold second_hold up middle down end between first.carries second.carries

  hands : (c : ℕ) → c ≤ end → AreLegalAt up c → AnswersAreOwed down (c - 1) → HandsOn up down c
  hands c low legal owed =
      let earlier = owed_there (c - 1) (omega arith) (legal_at_before up (c - 1) c (omega arith) legal) owed in
      let middle_legal = there_legal target first_hold second_hold up middle down end between first.carries second.carries c low legal owed in
      both_hand_on (first.hands_on c low legal earlier) (second.hands_on c low middle_legal owed)

  -- the upper one is word for word
  pub upper_row : IsWordForWord target up middle end → KeepsRow target (first_hold + second_hold) up down end
  upper_row words = record {
    carries = two_carriers target first_hold second_hold up middle down end between first.carries second.carries;
    hands_on = hands;
    codes = λ c low legal owed.
        greatest_before_worded (blocks_at target up c) (blocks_at target middle c) (codes_of (answers_at target down c)) (words c low legal (owed_there c low legal owed))
        (second.codes c low (legal_there c low legal owed) owed);
  }

  -- the lower one is word for word
  pub lower_row : IsWordForWord target middle down end → KeepsRow target (first_hold + second_hold) up down end
  lower_row words = record {
    carries = two_carriers target first_hold second_hold up middle down end between first.carries second.carries;
    hands_on = hands;
    codes = λ c low legal owed.
        let bytes = (first.carries.answers c low legal (owed_there c low legal owed)).bytes c (omega arith) in
        let enough = enough_codes target up middle c bytes in
        let sizes = worded_total (blocks_at target up c) in
        greatest_behind (worded (blocks_at target up c)) (codes_of (answers_at target middle c)) (codes_of (answers_at target down c))
        (codes_front target middle down c (words c low (legal_there c low legal owed) owed)) (omega (arith, enough, sizes)) (first.codes c low legal (owed_there c low legal owed));
  }

  -- both are
  pub both_words : IsWordForWord target up middle end → IsWordForWord target middle down end → IsWordForWord target up down end
  both_words one two c low legal owed = prefix_trans (one c low legal (owed_there c low legal owed)) (two c low (legal_there c low legal owed) owed)

-- a wire
pub wire_row : (target : Target) (port : Port) (end : ℕ) → 0 < port.shape.word_bytes → KeepsRow target 0 port port end
wire_row target port end words = row_of_link target 0 port port end (wire_is_link target port end words) (λ c low legal owed. wire_hands_on port c)

pub wire_words : (target : Target) (port : Port) (end : ℕ) → IsWordForWord target port port end
wire_words target port end c low legal owed = prefix_refl _

-- a row that may hold more
pub wider_row : (target : Target) (hold more : ℕ) (up down : Port) (end : ℕ) → hold ≤ more → KeepsRow target hold up down end → KeepsRow target more up down end
wider_row target hold more up down end low row = record {
  carries = record {
    commands = λ c less legal owed.
        let carries = row.carries.commands c less legal owed in
        record { in_order = carries.in_order; beats = carries.beats; legal = carries.legal; held = λ k there. le_trans (carries.held k there) low; whole = carries.whole };
    answers = row.carries.answers;
  };
  codes = row.codes;
  hands_on = row.hands_on;
}
