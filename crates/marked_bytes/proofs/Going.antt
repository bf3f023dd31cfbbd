-- How streams go on, and end.
use Rattle.std.proofs.Common.{◌≡◌, ◌⊎◌, inl, inr, ℕ, Bool, true, false, List, [], ◌∷◌, ◌++◌, refl, sym, ◌∙◌}
use Rattle.std.proofs.lemmas.Bool.{false≢true}
use Rattle.marked_bytes.specs.declared.unpacker.Fed.{Fed}
use Rattle.marked_bytes.specs.declared.unpacker.Fed.TheVariants.{More, Byte, Bad}
use Rattle.marked_bytes.specs.declared.unpacker.Unpacker.{Unpacker}
use Rattle.marked_bytes.specs.Items.{Item}
use Rattle.marked_bytes.specs.Unpacking.{IsFed, IsWhole, IsFaulty, Follows}
use Rattle.marked_bytes.specs.Steps.{step_of, rests}
use Rattle.marked_bytes.proofs.Feeding.{step_follows}
use Rattle.marked_bytes.proofs.Resting.{rest_is_whole, whole_is_rest}

by_answer : (fed : List ℕ) (items : List Item) (u after : Unpacker) (byte : ℕ) (answer : Fed) → Follows fed items u byte answer after
    → ((others : List Item) × (after : Unpacker) × IsFed (fed ++ byte ∷ []) others after) ⊎ ((rule : ℕ) × IsFaulty fed items byte rule)
by_answer fed items u after byte More h = inl (items, after, h)
by_answer fed items u after byte (Byte shown) (item, given) = inl (items ++ item ∷ [], after, given.read)
by_answer fed items u after byte (Bad rule) (faulty, bad) = inr (rule, faulty)

pub goes_on : (fed : List ℕ) (items : List Item) (u : Unpacker) (byte : ℕ) → IsFed fed items u
    → ((others : List Item) × (after : Unpacker) × IsFed (fed ++ byte ∷ []) others after) ⊎ ((rule : ℕ) × IsFaulty fed items byte rule)
goes_on fed items u byte is =
    let next = step_of u byte in
    by_answer fed items u next.after byte next.fed (step_follows fed items u next.after byte next.fed refl is)

by_rest : (fed : List ℕ) (items : List Item) (u : Unpacker) (t : Bool) → rests u ≡ t → IsFed fed items u → IsWhole fed items ⊎ (¬ IsWhole fed items)
by_rest fed items u true e is = inl (rest_is_whole fed items u is e)
by_rest fed items u false e is = inr (λ whole. false≢true (sym e ∙ whole_is_rest fed items u is whole))

pub ends : (fed : List ℕ) (items : List Item) (u : Unpacker) → IsFed fed items u → IsWhole fed items ⊎ (¬ IsWhole fed items)
ends fed items u is = by_rest fed items u (rests u) refl is
