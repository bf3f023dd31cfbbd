-- The names of the ports are distinct, and such as ports may have.
use Rattle.std.proofs.Common.{◌≡◌, ◌≢◌, ℕ, zero, suc, ◌^◌, ◌<◌, ◌≤◌, Bool, true, false, ◌&&◌, ◌||◌, not, IsTrue, List, [], ◌∷◌, ◌++◌, length, codes, get_or, Option, Some, None, AllPairs, refl, sym, ap, subst, ◌∙◌, arith}
use Rattle.std.specs.Prelude.{All, decimal}
use Rattle.std.specs.List.{list_all, list_any}
use Rattle.std.proofs.lemmas.Bool.{and_parts, false≢true, or_right, le-leb}
use Rattle.std.proofs.lemmas.List.{append_cancel_left}
use Rattle.std.proofs.lemmas.List.Folds.{list_all-append, list_any-append}
use Rattle.std.proofs.lemmas.Fmt.{decimal_injective, decimal_is_IsNumeral}
use Rattle.std.proofs.lemmas.Str.Parse.{digit_from_value}
use Rattle.std.specs.Str.Parse.{AllDigits}
use Rattle.netlist.specs.Names.{begins_with_letter, is_name_byte, is_dollar, IsPortName}
use Rattle.netlist.specs.declared.line.PortLine.{PortLine}
use Rattle.routed_modules.specs.declared.header.EndPorts.{EndPorts}
use Rattle.routed_modules.specs.Ports.{numbered, port_name, port_if, mark_ports, end_ports, numbered_ports}

-- ---- the names of ends

-- a letter, then letters, digits and '_'
pub record IsEnd (end : List ℕ) : Type 0 where
  pub first : IsTrue (begins_with_letter end)
  pub bytes : IsTrue (list_all is_name_byte end)

digit_is : (c : ℕ) → 48 ≤ c → c ≤ 57 → is_name_byte c ≡ true
digit_is c low high = rw (le-leb 48 c low, le-leb c 57 high) refl

digits_are : (ds : List ℕ) → AllDigits 10 ds → list_all is_name_byte ds ≡ true
digits_are [] h = refl
digits_are (d ∷ ds) h =
    let range = digit_from_value d h.0 in
    rw (digit_is d (omega (arith, range)) (omega (arith, range)), digits_are ds h.1) refl

pub numbered_end : (first : ℕ) (rest : List ℕ) (number : ℕ) → IsEnd (first ∷ rest) → number < 2 ^ 64 → IsEnd (numbered (first ∷ rest) number)
numbered_end first rest number h few = record {
  first = h.first;
  bytes = list_all-append is_name_byte (first ∷ rest) (decimal number) ∙ ap (λ b. b && list_all is_name_byte (decimal number)) h.bytes ∙ digits_are (decimal number) (decimal_is_IsNumeral number few).0.1;
}

pub numbered_apart : (end : List ℕ) (m n : ℕ) → m < 2 ^ 64 → n < 2 ^ 64 → numbered end m ≡ numbered end n → m ≡ n
numbered_apart end m n few less e = decimal_injective m n few less (append_cancel_left end (decimal m) (decimal n) e)

-- before the first '$' of two equal texts
at_dollar : (a b x y : List ℕ) → IsTrue (list_all is_name_byte a) → IsTrue (list_all is_name_byte b) → a ++ 36 ∷ x ≡ b ++ 36 ∷ y → a ≡ b
at_dollar [] [] x y h k e = refl
at_dollar [] (c ∷ b) x y h k e = (let is : c ≡ 36 = cc in absurd (false≢true (ap is_name_byte (sym is) ∙ (and_parts (is_name_byte c) _ k).0)))
at_dollar (c ∷ a) [] x y h k e = (let is : c ≡ 36 = cc in absurd (false≢true (ap is_name_byte (sym is) ∙ (and_parts (is_name_byte c) _ h).0)))
at_dollar (c ∷ a) (d ∷ b) x y h k e =
    let heads : c ≡ d = cc in
    let tails : a ++ 36 ∷ x ≡ b ++ 36 ∷ y = cc in
    let rest = at_dollar a b x y (and_parts (is_name_byte c) _ h).1 (and_parts (is_name_byte d) _ k).1 tails in
    cc

-- ---- the names at an end

pub record IsOf (end : List ℕ) (port : PortLine) : Type 0 where
  pub role : List ℕ
  pub plain : IsTrue (list_all is_name_byte role)
  pub is : port.name ≡ port_name end role

abbrev pub AreOf : List ℕ → List PortLine → Type 0
AreOf end [] = Unit {0}
AreOf end (port ∷ ports) = IsOf end port × AreOf end ports

of_append : (end : List ℕ) (xs ys : List PortLine) → AreOf end xs → AreOf end ys → AreOf end (xs ++ ys)
of_append end [] ys h k = k
of_append end (x ∷ xs) ys h k = (h.0, of_append end xs ys h.1 k)

of_if : (end role : List ℕ) (o : Option ℕ) (output : Bool) → IsTrue (list_all is_name_byte role) → AreOf end (port_if end role o output)
of_if end role None output plain = tt
of_if end role (Some width) output plain = (record { role = role; plain = plain; is = refl }, tt)

of_marks : (end : List ℕ) (packets output : Bool) → AreOf end (mark_ports end packets output)
of_marks end true output = (record { role = codes "startofpacket"; plain = refl; is = refl }, (record { role = codes "endofpacket"; plain = refl; is = refl }, tt))
of_marks end false output = tt

pub of_end : (comes : Bool) (has : EndPorts) (end : List ℕ) → AreOf end (end_ports comes has end)
of_end comes has end = (
  record { role = codes "ready"; plain = refl; is = refl },
  (
    record { role = codes "valid"; plain = refl; is = refl },
    (
      record { role = codes "data"; plain = refl; is = refl },
      of_append end (port_if end (codes "channel") has.channel (not comes)) (mark_ports end has.packets (not comes) ++ port_if end (codes "empty") has.empty (not comes))
          (of_if end (codes "channel") has.channel (not comes) refl)
          (of_append end (mark_ports end has.packets (not comes)) (port_if end (codes "empty") has.empty (not comes)) (of_marks end has.packets (not comes)) (of_if end (codes "empty") has.empty (not comes) refl)),
    ),
  ),
)

-- ---- names that differ

abbrev pub IsNew : List ℕ → List PortLine → Type 0
IsNew name [] = Unit {0}
IsNew name (port ∷ ports) = (name ≢ port.name) × IsNew name ports

abbrev pub AreApart : List PortLine → Type 0
AreApart [] = Unit {0}
AreApart (port ∷ ports) = IsNew port.name ports × AreApart ports

-- each of these is new to the others
abbrev pub AreNew : List PortLine → List PortLine → Type 0
AreNew [] others = Unit {0}
AreNew (port ∷ ports) others = IsNew port.name others × AreNew ports others

new_append : (name : List ℕ) (xs ys : List PortLine) → IsNew name xs → IsNew name ys → IsNew name (xs ++ ys)
new_append name [] ys h k = k
new_append name (x ∷ xs) ys h k = (h.0, new_append name xs ys h.1 k)

pub apart_append : (xs ys : List PortLine) → AreApart xs → AreApart ys → AreNew xs ys → AreApart (xs ++ ys)
apart_append [] ys h k n = k
apart_append (x ∷ xs) ys h k n = (new_append x.name xs ys h.0 n.0, apart_append xs ys h.1 k n.1)

all_new_append : (zs xs ys : List PortLine) → AreNew zs xs → AreNew zs ys → AreNew zs (xs ++ ys)
all_new_append [] xs ys h k = tt
all_new_append (z ∷ zs) xs ys h k = (new_append z.name xs ys h.0 k.0, all_new_append zs xs ys h.1 k.1)

pub new_before : (zs xs ys : List PortLine) → AreNew xs ys → AreNew zs ys → AreNew (xs ++ zs) ys
new_before zs [] ys h k = k
new_before zs (x ∷ xs) ys h k = (h.0, new_before zs xs ys h.1 k)

-- at other ends
far_new : (a b role : List ℕ) (ports : List PortLine) → IsEnd a → IsEnd b → a ≢ b → AreOf b ports → IsNew (port_name a role) ports
far_new a b role [] h k apart are = tt
far_new a b role (p ∷ ports) h k apart are = (
  λ same. apart (at_dollar a b _ _ h.bytes k.bytes (same ∙ are.0.is)),
  far_new a b role ports h k apart are.1,
)

pub far : (a b : List ℕ) (xs ys : List PortLine) → IsEnd a → IsEnd b → a ≢ b → AreOf a xs → AreOf b ys → AreNew xs ys
far a b [] ys h k apart these those = tt
far a b (x ∷ xs) ys h k apart these those = (
  subst (λ name. IsNew name ys) (sym these.0.is) (far_new a b these.0.role ys h k apart those),
  far a b xs ys h k apart these.1 those,
)

-- at one end
near : (end a b : List ℕ) → a ≢ b → port_name end a ≢ port_name end b
near end a b apart same = apart (append_cancel_left (codes "$st$") a b (append_cancel_left end (codes "$st$" ++ a) (codes "$st$" ++ b) same))

other_at : (k : ℕ) (a b : List ℕ) → get_or a k 0 ≢ get_or b k 0 → a ≢ b
other_at k a b apart same = apart (ap (λ w. get_or w k 0) same)

new_if : (end a role : List ℕ) (o : Option ℕ) (output : Bool) → a ≢ role → IsNew (port_name end a) (port_if end role o output)
new_if end a role None output apart = tt
new_if end a role (Some width) output apart = (near end a role apart, tt)

new_marks : (end a : List ℕ) (packets output : Bool) → a ≢ codes "startofpacket" → a ≢ codes "endofpacket" → IsNew (port_name end a) (mark_ports end packets output)
new_marks end a true output p q = (near end a (codes "startofpacket") p, (near end a (codes "endofpacket") q, tt))
new_marks end a false output p q = tt

module _ (comes : Bool) (has : EndPorts) (end : List ℕ) where
  abbrev channels : List PortLine
  channels = port_if end (codes "channel") has.channel (not comes)

  abbrev marks : List PortLine
  marks = mark_ports end has.packets (not comes)

  abbrev empties : List PortLine
  empties = port_if end (codes "empty") has.empty (not comes)

  new_rest : (a : List ℕ) → a ≢ codes "channel" → a ≢ codes "startofpacket" → a ≢ codes "endofpacket" → a ≢ codes "empty" → IsNew (port_name end a) (channels ++ (marks ++ empties))
  new_rest a p q r s =
      new_append (port_name end a) channels (marks ++ empties) (new_if end a (codes "channel") has.channel (not comes) p)
      (new_append (port_name end a) marks empties (new_marks end a has.packets (not comes) q r) (new_if end a (codes "empty") has.empty (not comes) s))

  apart_if : (role : List ℕ) (o : Option ℕ) → AreApart (port_if end role o (not comes))
  apart_if role None = tt
  apart_if role (Some width) = (tt, tt)

  apart_marks : (packets : Bool) → AreApart (mark_ports end packets (not comes))
  apart_marks true = ((near end (codes "startofpacket") (codes "endofpacket") (other_at 0 _ _ (omega arith)), tt), (tt, tt))
  apart_marks false = tt

  marks_new : (packets : Bool) → AreNew (mark_ports end packets (not comes)) empties
  marks_new true = (
    new_if end (codes "startofpacket") (codes "empty") has.empty (not comes) (other_at 0 _ _ (omega arith)),
    (new_if end (codes "endofpacket") (codes "empty") has.empty (not comes) (other_at 1 _ _ (omega arith)), tt),
  )
  marks_new false = tt

  channel_new : (o : Option ℕ) → AreNew (port_if end (codes "channel") o (not comes)) (marks ++ empties)
  channel_new None = tt
  channel_new (Some width) = (
    new_append (port_name end (codes "channel")) marks empties (new_marks end (codes "channel") has.packets (not comes) (other_at 0 _ _ (omega arith)) (other_at 0 _ _ (omega arith)))
        (new_if end (codes "channel") (codes "empty") has.empty (not comes) (other_at 0 _ _ (omega arith))),
    tt,
  )

  pub apart_end : AreApart (end_ports comes has end)
  apart_end = (
    (
      near end (codes "ready") (codes "valid") (other_at 0 _ _ (omega arith)),
      (
        near end (codes "ready") (codes "data") (other_at 0 _ _ (omega arith)),
        new_rest (codes "ready") (other_at 0 _ _ (omega arith)) (other_at 0 _ _ (omega arith)) (other_at 0 _ _ (omega arith)) (other_at 0 _ _ (omega arith)),
      ),
    ),
    (
      (
        near end (codes "valid") (codes "data") (other_at 0 _ _ (omega arith)),
        new_rest (codes "valid") (other_at 0 _ _ (omega arith)) (other_at 0 _ _ (omega arith)) (other_at 0 _ _ (omega arith)) (other_at 0 _ _ (omega arith)),
      ),
      (
        new_rest (codes "data") (other_at 0 _ _ (omega arith)) (other_at 0 _ _ (omega arith)) (other_at 0 _ _ (omega arith)) (other_at 0 _ _ (omega arith)),
        apart_append channels (marks ++ empties) (apart_if (codes "channel") has.channel)
            (apart_append marks empties (apart_marks has.packets) (apart_if (codes "empty") has.empty) (marks_new has.packets))
            (channel_new has.channel),
      ),
    ),
  )

-- ---- ends with numbers

module _ (comes : Bool) (has : EndPorts) (first : ℕ) (rest : List ℕ) (is_end : IsEnd (first ∷ rest)) where
  abbrev word : List ℕ
  word = first ∷ rest

  -- those before a number are new to one that is no less
  earlier_new : (count number : ℕ) → count ≤ number → number < 2 ^ 64 → AreNew (numbered_ports comes has word count) (end_ports comes has (numbered word number))
  earlier_new zero number le few = tt
  earlier_new (suc count) number le few =
      new_before (end_ports comes has (numbered word count)) (numbered_ports comes has word count) (end_ports comes has (numbered word number)) (earlier_new count number (omega (arith, le)) few)
      (far (numbered word count) (numbered word number) (end_ports comes has (numbered word count)) (end_ports comes has (numbered word number)) (numbered_end first rest count is_end (omega (arith, le, few))) (numbered_end first rest number is_end few)
      (λ same. (let is = numbered_apart word count number (omega (arith, le, few)) few same in absurd (omega (arith, is, le))))
      (of_end comes has (numbered word count)) (of_end comes has (numbered word number)))

  pub apart_ends : (count : ℕ) → count ≤ 16 → AreApart (numbered_ports comes has word count)
  apart_ends zero few = tt
  apart_ends (suc count) few =
      apart_append (numbered_ports comes has word count) (end_ports comes has (numbered word count)) (apart_ends count (omega (arith, few))) (apart_end comes has (numbered word count))
      (earlier_new count count (omega arith) (omega (arith, few)))

  -- all of them are new to an end of another name
  pub other_new : (other : List ℕ) (ports : List PortLine) (count : ℕ) → count ≤ 16 → IsEnd other → AreOf other ports → ((number : ℕ) → other ≢ numbered word number) → AreNew ports (numbered_ports comes has word count)
  other_new other ports zero few is are apart = none ports
    where
      none : (ports : List PortLine) → AreNew ports []
      none [] = tt
      none (p ∷ ports) = (tt, none ports)
  other_new other ports (suc count) few is are apart =
      all_new_append ports (numbered_ports comes has word count) (end_ports comes has (numbered word count)) (other_new other ports count (omega (arith, few)) is are apart)
      (far other (numbered word count) ports (end_ports comes has (numbered word count)) is (numbered_end first rest count is_end (omega (arith, few))) (apart count) are (of_end comes has (numbered word count)))

  -- and an end of another name is new to all of them
  pub ends_new : (other : List ℕ) (ports : List PortLine) (count : ℕ) → count ≤ 16 → IsEnd other → AreOf other ports → ((number : ℕ) → numbered word number ≢ other) → AreNew (numbered_ports comes has word count) ports
  ends_new other ports zero few is are apart = tt
  ends_new other ports (suc count) few is are apart =
      new_before (end_ports comes has (numbered word count)) (numbered_ports comes has word count) ports (ends_new other ports count (omega (arith, few)) is are apart)
      (far (numbered word count) other (end_ports comes has (numbered word count)) ports (numbered_end first rest count is_end (omega (arith, few))) is (apart count) (of_end comes has (numbered word count)) are)

-- ---- what is asked of names

pub distinct_names : (ports : List PortLine) → AreApart ports → AllPairs (λ (p q : PortLine). p.name ≢ q.name) ports
distinct_names [] h i j d below inside same = absurd (omega (arith, below, inside))
distinct_names (p ∷ ports) h zero zero d below inside same = absurd (omega (arith, below))
distinct_names (p ∷ ports) h zero (suc j) d below inside same = new_at ports j h.0 (omega (arith, inside)) same
  where
    new_at : (ports : List PortLine) (j : ℕ) → IsNew p.name ports → j < length ports → p.name ≡ (get_or ports j d).name → ⊥
    new_at [] j new lt same = omega (arith, lt)
    new_at (q ∷ ports) zero new lt same = new.0 same
    new_at (q ∷ ports) (suc j) new lt same = new_at ports j new.1 (omega (arith, lt)) same
distinct_names (p ∷ ports) h (suc i) zero d below inside same = absurd (omega (arith, below))
distinct_names (p ∷ ports) h (suc i) (suc j) d below inside same = distinct_names ports h.1 i j d (omega (arith, below)) (omega (arith, inside)) same

abbrev pub AreNamed : List PortLine → Type 0
AreNamed [] = Unit {0}
AreNamed (port ∷ ports) = IsPortName port.name × AreNamed ports

pub named_append : (xs ys : List PortLine) → AreNamed xs → AreNamed ys → AreNamed (xs ++ ys)
named_append [] ys h k = k
named_append (x ∷ xs) ys h k = (h.0, named_append xs ys h.1 k)

abbrev is_port_byte : ℕ → Bool
is_port_byte b = is_name_byte b || is_dollar b

wider : (bytes : List ℕ) → list_all is_name_byte bytes ≡ true → list_all is_port_byte bytes ≡ true
wider [] h = refl
wider (b ∷ bytes) h = let parts = and_parts (is_name_byte b) _ h in rw (parts.0, wider bytes parts.1) refl

first_of : (end more : List ℕ) → IsTrue (begins_with_letter end) → IsTrue (begins_with_letter (end ++ more))
first_of [] more h = absurd (false≢true h)
first_of (b ∷ end) more h = h

port_named : (end role : List ℕ) → IsEnd end → IsTrue (list_all is_name_byte role) → IsPortName (port_name end role)
port_named end role is plain = record {
  first = first_of end (codes "$st$" ++ role) is.first;
  bytes =
      list_all-append is_port_byte end (codes "$st$" ++ role)
      ∙ ap (λ b. b && list_all is_port_byte (codes "$st$" ++ role)) (wider end is.bytes)
      ∙ wider role plain;
  dollar = list_any-append is_dollar end (codes "$st$" ++ role) ∙ or_right (list_any is_dollar end) (list_any is_dollar (codes "$st$" ++ role)) refl;
}

pub named_of : (end : List ℕ) (ports : List PortLine) → IsEnd end → AreOf end ports → AreNamed ports
named_of end [] is are = tt
named_of end (p ∷ ports) is are = (subst IsPortName (sym are.0.is) (port_named end are.0.role is are.0.plain), named_of end ports is are.1)

pub named_ends : (comes : Bool) (has : EndPorts) (first : ℕ) (rest : List ℕ) (count : ℕ) → IsEnd (first ∷ rest) → count ≤ 16 → AreNamed (numbered_ports comes has (first ∷ rest) count)
named_ends comes has first rest zero is few = tt
named_ends comes has first rest (suc count) is few =
    named_append (numbered_ports comes has (first ∷ rest) count) (end_ports comes has (numbered (first ∷ rest) count)) (named_ends comes has first rest count is (omega (arith, few)))
    (named_of (numbered (first ∷ rest) count) (end_ports comes has (numbered (first ∷ rest) count)) (numbered_end first rest count is (omega (arith, few))) (of_end comes has (numbered (first ∷ rest) count)))

pub names_all : (ports : List PortLine) → AreNamed ports → All (λ (port : PortLine). IsPortName port.name) ports
names_all [] h k d lt = absurd (omega (arith, lt))
names_all (p ∷ ports) h zero d lt = h.0
names_all (p ∷ ports) h (suc k) d lt = names_all ports h.1 k d (omega (arith, lt))
