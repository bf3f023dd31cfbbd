-- The registers of a queue in memories have few bits, and what few bits rule out.
use Rattle.std.proofs.Common.{◌≡◌, ℕ, ◌+◌, ◌^◌, ◌<◌, ◌≤◌, ◌⊎◌, List, [], ◌∷◌, Some, refl, sym, subst, ap, ◌∙◌, inl, inr, arith}
use Rattle.netlist.specs.declared.line.Line.{Line}
use Rattle.netlist.specs.Nets.{NetValue, net_of}
use Rattle.netlist.specs.Netlists.{Netlist, IsNet, width_at, register_of}
use Rattle.net_parts.specs.Groups.{AreNets, InGroup}
use Rattle.item_queues.specs.declared.queue.ItemQueue.{ItemQueue}
use Rattle.item_queues.specs.declared.storage.Storage.{Storage}
use Rattle.item_queues.specs.declared.storage.Storage.TheVariants.{InRegisters, InMemories}
use Rattle.item_queues.specs.Storages.{owns_in, IsStorage}
use Rattle.item_queues.specs.Queues.{owns, IsQueueMade}
use Rattle.item_queues.specs.RegisterBits.{bits_in, HaveFewBits}

-- ---- the law

either_number : (count first next : NetValue) (n : ℕ) → (n ≡ count.number) ⊎ ((n ≡ first.number) ⊎ (n ≡ next.number)) → InGroup (count ∷ first ∷ next ∷ []) n
either_number count first next n (inl e) = inl e
either_number count first next n (inr (inl e)) = inr (inl e)
either_number count first next n (inr (inr e)) = inr (inr (inl e))

of_storage : {N : ℕ} (netlist : Netlist) (like : List NetValue) (bound : ℕ) (count : NetValue) (storage : Storage N) → IsNet netlist count → count.width ≤ 8 → 4 ≤ bound → bound ≤ 255 → IsStorage netlist like bound storage → HaveFewBits 24 (λ n. (n ≡ count.number) ⊎ owns_in bound storage n) netlist
of_storage netlist like bound count (InRegisters places) is narrow some few h = absurd (let short = h.few in omega (arith, short, some))
of_storage netlist like bound count (InMemories stored) is narrow some few h =
    let pointers = h.pointers in
    let below : bound ≤ 2 ^ 8 = omega (arith, few) in
    let first = h.least 8 (omega arith) below in
    let next = pointers.next_net.has_width in
    record {
      nets = count ∷ stored.pointers.first ∷ stored.pointers.next ∷ [];
      are_nets = (is, (pointers.first_net, (pointers.next_net.is_net, tt)));
      each = λ n o. either_number count stored.pointers.first stored.pointers.next n o;
      few = omega (arith, narrow, first, next);
    }

pub stored_few : {N : ℕ} (netlist : Netlist) (like : List NetValue) (queue : ItemQueue N) → IsQueueMade netlist like queue → 4 ≤ queue.bound → queue.bound ≤ 255 → HaveFewBits 24 (owns queue) netlist
stored_few netlist like queue made some few =
    let below : queue.bound < 2 ^ 8 = omega (arith, few) in
    of_storage netlist like queue.bound queue.count queue.storage made.count_net (made.least 8 (omega arith) below) some few made.storage

-- ---- what few bits rule out: whichever of the registers one takes, each once, they have no more

-- no two of the nets have one number
abbrev pub AreApart : List NetValue → Type 0
AreApart [] = Unit {0}
AreApart (net ∷ nets) = (¬ InGroup nets net.number) × AreApart nets

-- the nets without this one
record Parted (netlist : Netlist) (net : NetValue) (nets : List NetValue) : Type 0 where
  rest : List NetValue
  bits : bits_in nets ≡ net.width + bits_in rest
  are_nets : AreNets netlist rest
  others : (n : ℕ) → InGroup nets n → ¬ (n ≡ net.number) → InGroup rest n

same_width : (netlist : Netlist) (one other : NetValue) → IsNet netlist one → IsNet netlist other → one.number ≡ other.number → one.width ≡ other.width
same_width netlist one other p q e =
    let here : Some one.width ≡ Some other.width = sym p ∙ ap (λ n. width_at netlist.lines n) e ∙ q in
    cc

another : (net head : NetValue) (nets : List NetValue) (n : ℕ) → net.number ≡ head.number → InGroup (head ∷ nets) n → ¬ (n ≡ net.number) → InGroup nets n
another net head nets n e (inl f) apart = absurd (apart (f ∙ sym e))
another net head nets n e (inr o) apart = o

kept_in : (head : NetValue) (nets rest : List NetValue) (n : ℕ) → (InGroup nets n → InGroup rest n) → InGroup (head ∷ nets) n → InGroup (head ∷ rest) n
kept_in head nets rest n f (inl e) = inl e
kept_in head nets rest n f (inr o) = inr (f o)

part : (netlist : Netlist) (net : NetValue) (nets : List NetValue) → IsNet netlist net → AreNets netlist nets → InGroup nets net.number → Parted netlist net nets
part netlist net [] is are o = absurd o
part netlist net (head ∷ nets) is are (inl e) =
    let width = same_width netlist net head is are.0 e in
    record { rest = nets; bits = omega (arith, width); are_nets = are.1; others = λ n o apart. another net head nets n e o apart }
part netlist net (head ∷ nets) is are (inr o) =
    let parted = part netlist net nets is are.1 o in
    let bits = parted.bits in
    record {
      rest = head ∷ parted.rest;
      bits = omega (arith, bits);
      are_nets = (are.0, parted.are_nets);
      others = λ n p apart. kept_in head nets parted.rest n (λ q. parted.others n q apart) p;
    }

covered : (netlist : Netlist) (mine nets : List NetValue) → AreNets netlist mine → AreApart mine → AreNets netlist nets → ((n : ℕ) → InGroup mine n → InGroup nets n) → bits_in mine ≤ bits_in nets
covered netlist [] nets are apart all each = omega arith
covered netlist (net ∷ mine) nets are apart all each =
    let parted = part netlist net nets are.0 all (each net.number (inl refl)) in
    let rest = covered netlist mine parted.rest are.1 apart.1 parted.are_nets (λ n o. parted.others n (each n (inr o)) (λ e. apart.0 (subst (λ m. InGroup mine m) e o))) in
    let bits = parted.bits in
    omega (arith, rest, bits)

pub few_of_any : (most : ℕ) (numbers : ℕ → Type 0) (netlist : Netlist) (nets : List NetValue) → HaveFewBits most numbers netlist → AreNets netlist nets → AreApart nets → ((n : ℕ) → InGroup nets n → numbers n) → bits_in nets ≤ most
few_of_any most numbers netlist nets h are apart owned =
    let bits = covered netlist nets h.nets are apart h.are_nets (λ n o. h.each n (owned n o)) in
    let few = h.few in
    omega (arith, bits, few)

-- ---- of two registers of 3 and 40 bits it holds that they have at most 64 bits, and of two of 40 bits it doesn't

abbrev register_line : ℕ → ℕ → Line
register_line n width = register_of n (record { width = width; bits = 0 })

abbrev two_registers : ℕ → ℕ → Netlist
two_registers one other = record { name = []; ports = []; lines = register_line 0 one ∷ register_line 1 other ∷ []; drivers = []; memories = [] }

abbrev IsEither : ℕ → Type 0
IsEither n = (n ≡ 0) ⊎ (n ≡ 1)

abbrev nets_of_two : ℕ → ℕ → List NetValue
nets_of_two one other = net_of 0 one ∷ net_of 1 other ∷ []

are_two : (one other : ℕ) → AreNets (two_registers one other) (nets_of_two one other)
are_two one other = (refl, (refl, tt))

either_of_two : (one other n : ℕ) → IsEither n → InGroup (nets_of_two one other) n
either_of_two one other n (inl e) = inl e
either_of_two one other n (inr e) = inr (inl e)

two_of_either : (one other n : ℕ) → InGroup (nets_of_two one other) n → IsEither n
two_of_either one other n (inl e) = inl e
two_of_either one other n (inr (inl e)) = inr e
two_of_either one other n (inr (inr o)) = absurd o

are_apart : (one other : ℕ) → AreApart (nets_of_two one other)
are_apart one other = (λ o. elim o [ inl e ↦ omega (arith, e) | inr none ↦ none ], ((λ none. none), tt))

pub few_enough : HaveFewBits 64 IsEither (two_registers 3 40)
few_enough = record { nets = nets_of_two 3 40; are_nets = are_two 3 40; each = either_of_two 3 40; few = omega arith }

pub too_many : ¬ HaveFewBits 64 IsEither (two_registers 40 40)
too_many h = let few = few_of_any 64 IsEither (two_registers 40 40) (nets_of_two 40 40) h (are_two 40 40) (are_apart 40 40) (two_of_either 40 40) in omega (arith, few)
