-- The names of ports: each is made of the names of an end and the word for a role, and tells them.
use Rattle.std.proofs.Common.{◌≡◌, ℕ, List, [], ◌∷◌, ◌++◌, codes, refl, sym, ap, ◌∙◌, IsTrue, append_assoc}
use Rattle.std.specs.List.{list_all}
use Rattle.std.proofs.lemmas.Bool.{and_parts, false≢true}
use Rattle.netlist.specs.Names.{is_name_byte}
use Rattle.port_tables.specs.Ports.{EndName, port_name}

abbrev pub IsNameText : List ℕ → Type 0
IsNameText name = IsTrue (list_all is_name_byte name)

-- of two texts without '$', before the first '$' of one text
record IsSplit (a b x y : List ℕ) : Type 0 where
  before : a ≡ b
  after : x ≡ y

at_dollar : (a b x y : List ℕ) → IsNameText a → IsNameText b → a ++ 36 ∷ x ≡ b ++ 36 ∷ y → IsSplit a b x y
at_dollar [] [] x y h k e = record { before = refl; after = cc }
at_dollar [] (c ∷ b) x y h k e =
    let is : c ≡ 36 = cc in
    absurd (false≢true (ap is_name_byte (sym is) ∙ (and_parts (is_name_byte c) _ k).0))
at_dollar (c ∷ a) [] x y h k e =
    let is : c ≡ 36 = cc in
    absurd (false≢true (ap is_name_byte (sym is) ∙ (and_parts (is_name_byte c) _ h).0))
at_dollar (c ∷ a) (d ∷ b) x y h k e =
    let heads : c ≡ d = cc in
    let tails : a ++ 36 ∷ x ≡ b ++ 36 ∷ y = cc in
    let rest = at_dollar a b x y (and_parts (is_name_byte c) _ h).1 (and_parts (is_name_byte d) _ k).1 tails in
    let fronts = rest.before in
    record { before = cc; after = rest.after }

pub port_name-split : (name : EndName) (word : List ℕ) → port_name name word ≡ name.instance ++ 36 ∷ (name.interface ++ 36 ∷ word)
port_name-split name word =
    append_assoc (name.instance ++ codes "$" ++ name.interface) (codes "$") word
    ∙ append_assoc (name.instance ++ codes "$") name.interface (36 ∷ word)
    ∙ append_assoc name.instance (codes "$") (name.interface ++ 36 ∷ word)

pub port_name-is : (name : EndName) (word whole a b : List ℕ) → whole ≡ a ++ 36 ∷ (b ++ 36 ∷ word) → a ≡ name.instance → b ≡ name.interface → whole ≡ port_name name word
port_name-is name word whole a b e f g =
    e ∙ ap (λ (t : List ℕ). t ++ 36 ∷ (b ++ 36 ∷ word)) f ∙ ap (λ (t : List ℕ). name.instance ++ 36 ∷ (t ++ 36 ∷ word)) g ∙ sym (port_name-split name word)

-- the names of an end are without '$'
pub record IsNamed (name : EndName) : Type 0 where
  pub instance : IsNameText name.instance
  pub interface : IsNameText name.interface

-- two names of ports that are one
pub record IsOneName (x y : EndName) (a b : List ℕ) : Type 0 where
  pub instance : x.instance ≡ y.instance
  pub interface : x.interface ≡ y.interface
  pub word : a ≡ b

pub one_name : (x y : EndName) (a b : List ℕ) → IsNamed x → IsNamed y → port_name x a ≡ port_name y b → IsOneName x y a b
one_name x y a b h k e =
    let whole = sym (port_name-split x a) ∙ e ∙ port_name-split y b in
    let first = at_dollar x.instance y.instance _ _ h.instance k.instance whole in
    let second = at_dollar x.interface y.interface _ _ h.interface k.interface first.after in
    record { instance = first.before; interface = second.before; word = second.after }
