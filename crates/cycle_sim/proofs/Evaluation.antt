-- What an equation gives, and when all together are a valuation.
use Rattle.std.proofs.Common.{◌≡◌, ℕ, ◌+◌, ◌^◌, ◌<◌, ◌≤◌, Bool, true, false, List, length, slice_get, set, Some, ◌⊎◌, inl, inr, refl, sym, subst, ap, arith}
use Rattle.std.specs.Prelude.{IfSome}
use Rattle.std.proofs.lemmas.Bool.{false≢true}
use Rattle.std.proofs.Math.ListN.{length-set}
use Rattle.std.proofs.lemmas.Option.{slice_get_within}
use Rattle.av_base.specs.Word.{Word}
use Rattle.netlist.specs.declared.line.Line.{Line}
use Rattle.netlist.specs.declared.line.Equation.{Equation}
use Rattle.netlist.specs.declared.line.Equation.TheVariants.{Input, Constant, And, Or, Xor, Add, Sub, Eq, Less, Concat, Not, Any, Mux, Slice, Reg, Read}
use Rattle.netlist.specs.Netlists.{Netlist, IsModule, IsSound, IsValue, input_net, is_input}
use Rattle.netlist.specs.Runs.{value_of, IsValuation, WordsFit}
use Rattle.cycle_sim.specs.Sims.{AreNets, AreWords, bits_at, cycle_with, place_of}
use Rattle.cycle_sim.specs.Readers.{Reads}
use Rattle.cycle_sim.specs.Settled.{AreSettled}
use Rattle.cycle_sim.proofs.Values.{slice_get-some, slice_get-set, bits_at-is}
use Rattle.cycle_sim.proofs.Inputs.{input_stands}
use Rattle.cycle_sim.proofs.Places.{place_within}

one_of_three : (n a c d m : ℕ) → a < n → c < n → d < n → (m ≡ a) ⊎ (m ≡ c) ⊎ (m ≡ d) → m < n
one_of_three n a c d m below_a below_c below_d r = elim r [ inl e ↦ omega arith | inr r2 ↦ elim r2 [ inl e ↦ omega arith | inr e ↦ omega arith ] ]

one_of_two : (n a c m : ℕ) → a < n → c < n → (m ≡ a) ⊎ (m ≡ c) ⊎ (m ≡ c) → m < n
one_of_two n a c m below_a below_c r = one_of_three n a c c m below_a below_c below_c r

-- the value of an equation hangs on the nets that it reads
pub value_same : (b : Netlist) (words xs ys : List Word) (w : ℕ) (e : Equation) → is_input e ≡ false → ((m : ℕ) → Reads e m → bits_at xs m ≡ bits_at ys m) →
    value_of b.lines (cycle_with b xs words) w e ≡ value_of b.lines (cycle_with b ys words) w e
value_same b words xs ys w (Input port) i nets = absurd (false≢true (sym i))
value_same b words xs ys w (Constant value) i nets = refl
value_same b words xs ys w (And a c) i nets = rw (nets a (inl refl), nets c (inr (inl refl))) refl
value_same b words xs ys w (Or a c) i nets = rw (nets a (inl refl), nets c (inr (inl refl))) refl
value_same b words xs ys w (Xor a c) i nets = rw (nets a (inl refl), nets c (inr (inl refl))) refl
value_same b words xs ys w (Add a c) i nets = rw (nets a (inl refl), nets c (inr (inl refl))) refl
value_same b words xs ys w (Sub a c) i nets = rw (nets a (inl refl), nets c (inr (inl refl))) refl
value_same b words xs ys w (Eq a c) i nets = rw (nets a (inl refl), nets c (inr (inl refl))) refl
value_same b words xs ys w (Less a c) i nets = rw (nets a (inl refl), nets c (inr (inl refl))) refl
value_same b words xs ys w (Concat a c) i nets = rw (nets a (inl refl), nets c (inr (inl refl))) refl
value_same b words xs ys w (Not a) i nets = rw (nets a (inl refl)) refl
value_same b words xs ys w (Any a) i nets = rw (nets a (inl refl)) refl
value_same b words xs ys w (Mux t a c) i nets = rw (nets t (inl refl), nets a (inr (inl refl)), nets c (inr (inr refl))) refl
value_same b words xs ys w (Slice a high low) i nets = rw (nets a (inl refl)) refl
value_same b words xs ys w (Reg reset next) i nets = refl
value_same b words xs ys w (Read m a) i nets = rw (nets a (inl refl)) refl

-- and on the word that it reads
pub value_same_words : (b : Netlist) (words after nets : List Word) (w : ℕ) (e : Equation) →
    ((m a : ℕ) → e ≡ Read m a → bits_at words (place_of b.memories m + bits_at nets a) ≡ bits_at after (place_of b.memories m + bits_at nets a)) →
    value_of b.lines (cycle_with b nets words) w e ≡ value_of b.lines (cycle_with b nets after) w e
value_same_words b words after nets w (Read m a) same = ap Some (same m a refl)
value_same_words b words after nets w _ same = refl

-- the nets that a net's equation reads stand below it
pub reads_below : (b : Netlist) (n w : ℕ) (e : Equation) → IsSound b.ports b.memories b.lines n w e → (m : ℕ) → Reads e m → m < n
reads_below b n w (Input port) s m r = absurd r
reads_below b n w (Constant value) s m r = absurd r
reads_below b n w (And a c) s m r = one_of_two n a c m s.left.below s.right.below r
reads_below b n w (Or a c) s m r = one_of_two n a c m s.left.below s.right.below r
reads_below b n w (Xor a c) s m r = one_of_two n a c m s.left.below s.right.below r
reads_below b n w (Add a c) s m r = one_of_two n a c m s.left.below s.right.below r
reads_below b n w (Sub a c) s m r = one_of_two n a c m s.left.below s.right.below r
reads_below b n w (Eq a c) s m r = one_of_two n a c m s.operands.left.below s.operands.right.below r
reads_below b n w (Less a c) s m r = one_of_two n a c m s.operands.left.below s.operands.right.below r
reads_below b n w (Concat a c) s m r = one_of_two n a c m s.high.below s.low.below r
reads_below b n w (Not a) s m r = one_of_two n a a m s.below s.below r
reads_below b n w (Any a) s m r = one_of_two n a a m s.operand.below s.operand.below r
reads_below b n w (Mux t a c) s m r = one_of_three n t a c m s.test.below s.branches.left.below s.branches.right.below r
reads_below b n w (Slice a high low) s m r = one_of_two n a a m s.operand.below s.operand.below r
reads_below b n w (Reg reset next) s m r = absurd r
reads_below b n w (Read j a) s m r = one_of_two n a a m s.address.below s.address.below r

pub line_sound : (b : Netlist) → IsModule b → (n : ℕ) (line : Line) → slice_get b.lines n ≡ Some line → IsSound b.ports b.memories b.lines n line.width line.equation
line_sound b h n line at = (h.well_made.lines n line at).equation

-- a value of the right width set among the nets
pub set_net : (lines : List Line) (nets : List Word) (k : ℕ) (value : Word) → AreNets lines nets → ((line : Line) → slice_get lines k ≡ Some line → IsValue value line.width) → AreNets lines (set nets k value)
set_net lines nets k value h is = record {
  count = simp length-set h.count;
  fit = λ n line v at stands. elim (slice_get-set nets k n value v stands) [
    | inl o ↦ h.fit n line v at o
    | inr o ↦ subst (λ (x : Word). IsValue x line.width) o.1 (is line (subst (λ m. slice_get lines m ≡ Some line) o.0 at))
  ];
}

-- an input's equation gives the value of its own net
input_holds : (b : Netlist) (nets words : List Word) (n w : ℕ) (e : Equation) → is_input e ≡ true → ((k : ℕ) → e ≡ Input k → n ≡ input_net b.ports k) →
    IfSome (value_of b.lines (cycle_with b nets words) w e) (λ x. bits_at nets n ≡ x)
input_holds b nets words n w (Input k) i stands = ap (bits_at nets) (stands k refl)
input_holds b nets words n w _ i stands = absurd (false≢true i)

pub net_fits : (lines : List Line) (nets : List Word) (n : ℕ) (line : Line) → AreNets lines nets → slice_get lines n ≡ Some line → bits_at nets n < 2 ^ line.width
net_fits lines nets n line h at =
    let lt = slice_get_within lines n line at in
    let some = slice_get-some nets n (let c = h.count in omega arith) in
    let is = h.fit n line some.0 at some.1 in
    subst (λ y. y < 2 ^ line.width) (sym (bits_at-is nets n some.0 some.1)) (subst (λ w. some.0.bits < 2 ^ w) is.width is.word.fits)

pub words_fit : (b : Netlist) (words : List Word) → AreWords b.memories words → WordsFit b.memories (λ m address. bits_at words (place_of b.memories m + address))
words_fit b words h m memory at address lt =
    let inside = place_within b.memories m memory address at lt in
    let some = slice_get-some words (place_of b.memories m + address) (let c = h.count in omega arith) in
    let is = h.fit m memory at address some.0 lt some.1 in
    subst (λ y. y < 2 ^ memory.width) (sym (bits_at-is words (place_of b.memories m + address) some.0 some.1)) (subst (λ w. some.0.bits < 2 ^ w) is.width is.word.fits)

-- where each net has what its equation gives, it is a valuation
pub valuation : (b : Netlist) (words nets : List Word) (stale : List Bool) (k : ℕ) → IsModule b → AreWords b.memories words → AreNets b.lines nets → length b.lines ≤ k → AreSettled b nets words stale k → IsValuation b (cycle_with b nets words)
valuation b words nets stale k h hw hn all s = record {
  nets = λ n line at. record { fits = net_fits b.lines nets n line hn at; value = by_kind n line at (is_input line.equation) refl };
  words = words_fit b words hw;
} where
  by_kind : (n : ℕ) (line : Line) → slice_get b.lines n ≡ Some line → (i : Bool) → is_input line.equation ≡ i → IfSome (value_of b.lines (cycle_with b nets words) line.width line.equation) (λ x. bits_at nets n ≡ x)
  by_kind n line at true i = input_holds b nets words n line.width line.equation i (λ k e. input_stands b h n line k at e)
  by_kind n line at false i = s.below n line (let lt = slice_get_within b.lines n line at in omega arith) at i
