-- One more mark, item or byte of a packet behind others.
use Rattle.std.proofs.Common.{◌≡◌, ℕ, Bool, true, false, ◌&&◌, ◌||◌, not, List, [], ◌∷◌, ◌++◌, Option, refl, sym, ap, ◌∙◌, append_assoc}
use Rattle.std.specs.Prelude.{flat_map}
use Rattle.std.specs.List.{list_all, list_any}
use Rattle.std.proofs.lemmas.Bool.{and_parts, and_from}
use Rattle.std.proofs.lemmas.List.{flat_map_more}
use Rattle.std.proofs.lemmas.List.Folds.{list_all-append, list_any-append}
use Rattle.marked_bytes.specs.declared.unpacker.PacketByte.{PacketByte}
use Rattle.marked_bytes.specs.Items.{Mark, Item, channel_marked, channel_of, packet_byte, given, channel_behind, is_inside_behind, may_stand, are_in_packets}

pub spelled_push : {X : Type 0} (f : X → List ℕ) (xs : List X) (x : X) → flat_map f (xs ++ x ∷ []) ≡ flat_map f xs ++ f x
spelled_push f xs x = sym (flat_map_more f [] xs x)

pub all_push : {X : Type 0} (p : X → Bool) (xs : List X) (x : X) → list_all p xs ≡ true → p x ≡ true → list_all p (xs ++ x ∷ []) ≡ true
all_push p xs x h g = list_all-append p xs (x ∷ []) ∙ and_from (list_all p xs) (p x && true) h (and_from (p x) true g refl)

pub any_push : {X : Type 0} (p : X → Bool) (xs : List X) (x : X) → list_any p (xs ++ x ∷ []) ≡ (list_any p xs || (p x || false))
any_push p xs x = list_any-append p xs (x ∷ [])

pub with_true : (b : Bool) → true ≡ (b || (true || false))
with_true true = refl
with_true false = refl

pub with_false : (b : Bool) → b ≡ (b || (false || false))
with_false true = refl
with_false false = refl

pub marked_push : (before : Option ℕ) (marks : List Mark) (mark : Mark) → channel_marked before (marks ++ mark ∷ []) ≡ channel_marked (channel_marked before marks) (mark ∷ [])
marked_push before [] mark = refl
marked_push before (Mark.IsFirst ∷ rest) mark = marked_push before rest mark
marked_push before (Mark.IsLast ∷ rest) mark = marked_push before rest mark
marked_push before (Mark.OnChannel channel ∷ rest) mark = marked_push (channel_marked before (Mark.OnChannel channel ∷ [])) rest mark

pub given_push : (before : ℕ) (items : List Item) (item : Item) → given before (items ++ item ∷ []) ≡ given before items ++ packet_byte (channel_behind before (given before items)) item ∷ []
given_push before [] item = refl
given_push before (i ∷ rest) item = ap (λ bytes. packet_byte before i ∷ bytes) (given_push (channel_of before i.marks) rest item)

pub channel_push : (before : ℕ) (bytes : List PacketByte) (byte : PacketByte) → channel_behind before (bytes ++ byte ∷ []) ≡ byte.channel
channel_push before [] byte = refl
channel_push before (b ∷ rest) byte = channel_push b.channel rest byte

pub inside_push : (inside : Bool) (bytes : List PacketByte) (byte : PacketByte) → is_inside_behind inside (bytes ++ byte ∷ []) ≡ not byte.last
inside_push inside [] byte = refl
inside_push inside (b ∷ rest) byte = inside_push (not b.last) rest byte

pub in_packets_push : (inside : Bool) (before : ℕ) (bytes : List PacketByte) (byte : PacketByte) → are_in_packets inside before bytes ≡ true
    → may_stand (is_inside_behind inside bytes) (channel_behind before bytes) byte.channel byte.first ≡ true → are_in_packets inside before (bytes ++ byte ∷ []) ≡ true
in_packets_push inside before [] byte h g = and_from (may_stand inside before byte.channel byte.first) true g refl
in_packets_push inside before (b ∷ rest) byte h g =
    let parts = and_parts (may_stand inside before b.channel b.first) (are_in_packets (not b.last) b.channel rest) h in
    and_from (may_stand inside before b.channel b.first) (are_in_packets (not b.last) b.channel (rest ++ byte ∷ [])) parts.0 (in_packets_push (not b.last) b.channel rest byte parts.1 g)

-- behind two lists joined to others
pub shifted : (a b c d : List ℕ) → (a ++ (b ++ c)) ++ d ≡ a ++ (b ++ (c ++ d))
shifted a b c d = append_assoc a (b ++ c) d ∙ ap (λ xs. a ++ xs) (append_assoc b c d)
