-- Texts of addresses and names, and the lists that they are of.
use Rattle.std.proofs.Common.{◌≡◌, ℕ, zero, suc, ◌+◌, ◌-◌, ◌^◌, Bool, true, false, cond, List, [], ◌∷◌, ◌++◌, length, map, take, Option, Some, None, slice_get, refl, sym, ap, subst, ◌∙◌, arith, append-nil, append_assoc}
use Rattle.std.specs.Prelude.{if◌then◌else◌}
use Rattle.std.specs.Fmt.{digits, padded_integral, format_spec, shown_prefix, char_count}
use Rattle.std.specs.List.{flat_map, zip}
use Rattle.std.specs.Option.{option_map}
use Rattle.std.proofs.lemmas.Grind.{flat_map-append}
use Rattle.std.proofs.lemmas.List.{take_more}
use Rattle.std.proofs.lemmas.Option.{get_or_from_slice_get, slice_get_within, none-some, same_Some}
use Rattle.iface_roles.specs.declared.kinds.Kind.TheVariants.{Clock}
use Rattle.system_tables.specs.declared.tables.Connection.{Connection}
use Rattle.system_tables.specs.declared.tables.EndId.{EndId}
use Rattle.map_text.specs.Text.{address_text}

-- what `{:08x}` writes of an address
pub padded-address : (address : ℕ) → padded_integral (format_spec 32 0 4 8 (2 ^ 64 - 1)) false [] (digits 16 false address) ≡ address_text address
unfolding padded_integral char_count
padded-address address =
    let numeral = digits 16 false address in
    let short : 8 - length numeral - 0 - 0 ≡ 8 - length numeral = omega arith in
    rw (short, append-nil numeral)

-- the same of the hole that holds it
pub address_hole : (shown : Option (List ℕ)) (prefix : List ℕ) (address : ℕ) → shown ≡ Some (digits 16 false address)
    → option_map (padded_integral (format_spec 32 0 4 8 (2 ^ 64 - 1)) false (shown_prefix (format_spec 32 0 4 8 (2 ^ 64 - 1)) prefix)) shown ≡ Some (address_text address)
address_hole shown prefix address is = rw is (ap Some (padded-address address))

-- the texts of the items up to a place, and of the one there
pub flat_next : {X : Type 0} (f : X → List ℕ) (xs : List X) (k : ℕ) (x : X) → slice_get xs k ≡ Some x → flat_map f (take (k + 1) xs) ≡ flat_map f (take k xs) ++ f x
flat_next f xs k x at =
    ap (flat_map f) (take_more xs k x (slice_get_within xs k x at) ∙ ap (λ y. take k xs ++ y ∷ []) (get_or_from_slice_get xs k x x at))
    ∙ flat_map-append f (take k xs) (x ∷ []) ∙ ap (λ t. flat_map f (take k xs) ++ t) (append-nil (f x))

pub zip_at : {X Y : Type 0} (xs : List X) (ys : List Y) (k : ℕ) (x : X) (y : Y) → slice_get xs k ≡ Some x → slice_get ys k ≡ Some y → slice_get (zip xs ys) k ≡ Some (x, y)
zip_at [] ys k x y at_x at_y = absurd (none-some x at_x)
zip_at (a ∷ xs) [] k x y at_x at_y = absurd (none-some y at_y)
zip_at (a ∷ xs) (b ∷ ys) zero x y at_x at_y = let first : a ≡ x = same_Some a x at_x in let second : b ≡ y = same_Some b y at_y in rw (first, second) refl
zip_at (a ∷ xs) (b ∷ ys) (suc k) x y at_x at_y = zip_at xs ys k x y at_x at_y

-- what is read past the end of a list of ends, and of one of connections
abbrev pub nowhere : EndId
nowhere = record { instance = 0; interface = 0 }

abbrev pub zeros : Connection
zeros = record { start = nowhere; end = nowhere; kind = Clock; base = 0; shares = 0; fifo = 0; clock_fits = false }

-- the streams' lines, by their links and by their numbers
pub flat_numbers : {X : Type 0} (f : ℕ → List ℕ) (number : X → ℕ) (links : List X) (numbers : List ℕ) → map number links ≡ numbers
    → flat_map (λ link. f (number link)) links ≡ flat_map f numbers
flat_numbers {X} f number links numbers same = flat_mapped links ∙ ap (flat_map f) same
  where
    flat_mapped : (xs : List X) → flat_map (λ link. f (number link)) xs ≡ flat_map f (map number xs)
    flat_mapped [] = refl
    flat_mapped (x ∷ xs) = ap (λ t. f (number x) ++ t) (flat_mapped xs)

-- a text with one more piece
pub written_more : (old text new done add : List ℕ) (more : List ℕ) → text ≡ old ++ done → new ≡ text ++ add → more ≡ done ++ add → new ≡ old ++ more
written_more old text new done add more is now next = now ∙ ap (λ (t : List ℕ). t ++ add) is ∙ append_assoc old done add ∙ ap (λ (t : List ℕ). old ++ t) (sym next)

-- five pieces written one after the other
pub written_five : (old t1 t2 t3 t4 t5 a b c d e whole : List ℕ) → t1 ≡ old ++ a → t2 ≡ t1 ++ b → t3 ≡ t2 ++ c → t4 ≡ t3 ++ d → t5 ≡ t4 ++ e → whole ≡ a ++ b ++ c ++ d ++ e → t5 ≡ old ++ whole
written_five old t1 t2 t3 t4 t5 a b c d e whole e1 e2 e3 e4 e5 is =
    let all : t5 ≡ old ++ a ++ b ++ c ++ d ++ e = cc in
    all ∙ together ∙ ap (λ (t : List ℕ). old ++ t) (sym is)
  where
    together : old ++ a ++ b ++ c ++ d ++ e ≡ old ++ (a ++ b ++ c ++ d ++ e)
    together = simp append_assoc

-- the last three of seven pieces are written at once
pub last_three : (a b c d e f g : List ℕ) → a ++ b ++ c ++ d ++ e ++ f ++ g ≡ a ++ b ++ c ++ d ++ (e ++ f ++ g)
last_three a b c d e f g = simp append_assoc

-- and nine
pub all_nine : (a b c d e f g h i : List ℕ) → a ++ (b ++ (c ++ (d ++ (e ++ (f ++ (g ++ (h ++ i))))))) ≡ a ++ b ++ c ++ d ++ e ++ f ++ g ++ h ++ i
all_nine a b c d e f g h i = simp append_assoc
