-- The transfers of a splitter, by its beats: joined ones stay alike, and the last one below is left open only where the last one above is.
use Rattle.std.proofs.Common.{ℕ, suc, ◌≡◌, Bool, true, false, not, ◌&&◌, ◌||◌, List, [], ◌∷◌, ◌++◌, if◌then◌else◌, refl, sym, ap, subst, ◌∙◌, length, map, flat_map, nat_eq, IsTrue, append-nil}
use Rattle.std.specs.List.{list_all}
use Rattle.std.proofs.lemmas.Bool.{and_parts, and_from, or_left, or_right, eqb-true, eq-eqb}
use Rattle.std.proofs.lemmas.List.{map-append}
use Rattle.histories.specs.History.{is_raised}
use Rattle.memory_runs.specs.Views.{Shape}
use Rattle.memory_runs.specs.Views.Kind.{Reads, Writes}
use Rattle.memory_runs.specs.Operations.{Operation}
use Rattle.memory_runs.specs.Commands.{is_of_reads}
use Rattle.memory_machines.specs.Link.{Target, Port, Marked, closes, is_nonempty, operations_in, is_last_joined, read_beats}
use Rattle.memory_machines.specs.Machines.{Raw, MaySplit}
use Rattle.memory_machines.specs.PartRanks.{are_joined_alike, goes_on_alike, is_same}
use Rattle.memory_machines.specs.Rank.{is_last_write}
use Rattle.memory_links.proofs.Alike.{have_operations}
use Rattle.memory_links.proofs.Gather.{HasPieces}
use Rattle.memory_links.proofs.Last.{last_is, last_behind, last_of_map, has_more, is_write, joined_is, written_is}
use Rattle.memory_links.proofs.OneBeat.{flat_mark}
use Rattle.memory_links.proofs.Stages.{all_append, tail_alike}
use Rattle.memory_links.proofs.SplitParts.{parts_of, reads_among}
use Rattle.memory_links.proofs.SplitShown.{acts, upper_acts, ArePartsOf, are_parts, IsPart, IsLeftOut}
use Rattle.memory_links.proofs.SplitShown.ArePartsOf.{last_part, more_parts, no_parts}

-- ---- the last beat

abbrev pub goes_on_with : Raw → Bool
goes_on_with raw = is_raised raw.more

abbrev pub writes : Raw → Bool
writes raw = is_raised raw.levels.write

pub joined_last : (shape : Shape) (rs : List Raw) → is_last_joined (map (flat_mark shape) rs) ≡ last_is goes_on_with rs
joined_last shape rs = joined_is (map (flat_mark shape) rs) ∙ last_of_map (flat_mark shape) has_more goes_on_with (λ r. refl) rs

kind_of : (w : Bool) → is_of_reads (if w then Writes else Reads) ≡ not w
kind_of true = refl
kind_of false = refl

twice : (b : Bool) → not (not b) ≡ b
twice true = refl
twice false = refl

pub written_last : (shape : Shape) (rs : List Raw) → is_last_write (map (flat_mark shape) rs) ≡ last_is writes rs
written_last shape rs = written_is (map (flat_mark shape) rs) ∙ last_of_map (flat_mark shape) is_write writes (λ r. ap not (kind_of (is_raised r.levels.write)) ∙ twice (is_raised r.levels.write)) rs

-- ---- reads

pub flat_reads : (shape : Shape) (rs : List Raw) → length (read_beats (map (flat_mark shape) rs)) ≡ length (reads_among rs)
flat_reads shape [] = refl
flat_reads shape (r ∷ rs) = by_write (is_raised r.levels.write) refl (flat_reads shape rs)
  where
    by_write : (w : Bool) → is_raised r.levels.write ≡ w → length (read_beats (map (flat_mark shape) rs)) ≡ length (reads_among rs) →
        length (read_beats (flat_mark shape r ∷ map (flat_mark shape) rs)) ≡ length (reads_among (r ∷ rs))
    by_write true e rest = rw e rest
    by_write false e rest = rw e (ap suc rest)

-- ---- lists of transfers

has_one : (l : List Operation) → (is_nonempty l && true) ≡ is_nonempty (l ++ [])
has_one [] = refl
has_one (x ∷ l) = refl

pub have_flat : (target : Target) (shape : Shape) (raw : Raw) → have_operations target shape (flat_mark shape raw) ≡ is_nonempty (operations_in target shape (flat_mark shape raw))
have_flat target shape raw = has_one _

same_bits : (a b : Bool) → IsTrue (is_same a b) → b ≡ a
same_bits true true h = refl
same_bits true false h = cc
same_bits false true h = cc
same_bits false false h = refl

bits_same : (a b : Bool) → b ≡ a → IsTrue (is_same a b)
bits_same true true h = refl
bits_same true false h = cc
bits_same false true h = cc
bits_same false false h = refl

not_same : (a b : Bool) → not b ≡ not a → b ≡ a
not_same true true h = refl
not_same true false h = cc
not_same false true h = cc
not_same false false h = refl

module _ (law : HasPieces) (target : Target) (up down : Port) (count : ℕ) (may : MaySplit target up.shape down.shape count) where
  abbrev parts : Raw → List Raw
  parts raw = parts_of up.shape down.shape raw

  abbrev high : Raw → Marked
  high raw = flat_mark up.shape raw

  abbrev low : Raw → Marked
  low raw = flat_mark down.shape raw

  abbrev does : Raw → Bool
  does raw = acts law target up.shape down.shape count may raw

  abbrev AreParts : Raw → List Raw → Type 0
  AreParts raw ps = ArePartsOf law target up.shape down.shape count may raw ps

  abbrev Part : Raw → Raw → Type 0
  Part raw part = IsPart law target up.shape down.shape count may raw part

  abbrev LeftOut : Raw → Type 0
  LeftOut raw = IsLeftOut law target up.shape down.shape count may raw

  -- ---- lanes

  parts_have : (raw : Raw) (ps : List Raw) → AreParts raw ps → does raw ≡ true → IsTrue (list_all (have_operations target down.shape) (map low ps))
  parts_have raw ps (last_part part is more) e = and_from _ _ (have_flat target down.shape part ∙ is.acts_so ∙ e) refl
  parts_have raw ps (more_parts part next later is more rest) e = and_from _ _ (have_flat target down.shape part ∙ is.acts_so ∙ e) (parts_have raw (next ∷ later) rest e)
  parts_have raw ps (no_parts out) e = refl

  pub lanes_down : (rs : List Raw) → IsTrue (list_all (have_operations target up.shape) (map high rs)) → IsTrue (list_all (have_operations target down.shape) (map low (flat_map parts rs)))
  lanes_down [] h = refl
  lanes_down (r ∷ rs) h =
      let both = and_parts (have_operations target up.shape (high r)) (list_all (have_operations target up.shape) (map high rs)) h in
      let does_it : does r ≡ true = sym (upper_acts law target up.shape down.shape count may r) ∙ sym (have_flat target up.shape r) ∙ both.0 in
      subst (λ l. IsTrue (list_all (have_operations target down.shape) l)) (sym (map-append low (parts r) (flat_map parts rs)))
      (all_append (have_operations target down.shape) (map low (parts r)) (map low (flat_map parts rs)) (parts_have r (parts r) (are_parts law target up.shape down.shape count may r) does_it) (lanes_down rs both.1))

  -- ---- joined transfers

  -- the next beat goes on with the joined command of this one
  record Follows (raw next : Raw) (does_so : Bool) : Type 0 where
    pub tag : next.tag ≡ raw.tag
    pub writes : is_raised next.levels.write ≡ is_raised raw.levels.write
    pub acts : is_raised raw.levels.write ≡ false → does_so ≡ does raw

  follows_above : (r s : Raw) → IsTrue (goes_on_alike target up (high r) (high s)) → Follows r s (does s)
  follows_above r s h =
      let outer = and_parts (nat_eq r.tag s.tag && is_same (is_of_reads (high r).transfer.kind) (is_of_reads (high s).transfer.kind)) (not (is_of_reads (high r).transfer.kind) || is_same (is_nonempty (operations_in target up.shape (high r))) (is_nonempty (operations_in target up.shape (high s)))) h in
      let inner = and_parts (nat_eq r.tag s.tag) (is_same (is_of_reads (high r).transfer.kind) (is_of_reads (high s).transfer.kind)) outer.0 in
      record {
        tag = sym (eqb-true r.tag s.tag inner.0);
        writes = not_same (is_raised r.levels.write) (is_raised s.levels.write) (sym (kind_of (is_raised s.levels.write)) ∙ same_bits _ _ inner.1 ∙ kind_of (is_raised r.levels.write));
        acts = λ e. sym (upper_acts law target up.shape down.shape count may s)
            ∙ same_bits _ _ (second (not (is_of_reads (high r).transfer.kind)) _ (ap not (kind_of (is_raised r.levels.write)) ∙ twice (is_raised r.levels.write) ∙ e) outer.1)
            ∙ upper_acts law target up.shape down.shape count may r;
      }
    where
      second : (a b : Bool) → a ≡ false → IsTrue (a || b) → IsTrue b
      second true b e h = cc
      second false b e h = h

  goes_on_below : (x y : Raw) → y.tag ≡ x.tag → is_raised y.levels.write ≡ is_raised x.levels.write →
      (is_raised x.levels.write ≡ false → is_nonempty (operations_in target down.shape (low y)) ≡ is_nonempty (operations_in target down.shape (low x))) → IsTrue (goes_on_alike target down (low x) (low y))
  goes_on_below x y tag kind does_so =
      and_from _ _
      (and_from _ _ (eq-eqb x.tag y.tag (sym tag)) (bits_same _ _ (ap (λ w. is_of_reads (if w then Writes else Reads)) kind)))
      (by_write (is_raised x.levels.write) refl)
    where
      by_write : (w : Bool) → is_raised x.levels.write ≡ w → IsTrue (not (is_of_reads (low x).transfer.kind) || is_same (is_nonempty (operations_in target down.shape (low x))) (is_nonempty (operations_in target down.shape (low y))))
      by_write true e = or_left _ _ (ap not (kind_of (is_raised x.levels.write)) ∙ twice (is_raised x.levels.write) ∙ e)
      by_write false e = or_right _ _ (bits_same _ _ (does_so e))

  abbrev FollowsHead : Raw → List Raw → Type 0
  FollowsHead raw [] = Unit {0}
  FollowsHead raw (h ∷ later) = Follows raw h (is_nonempty (operations_in target down.shape (low h)))

  -- what follows a beat that is left out follows the one before it
  past_left_out : (r s : Raw) → Follows r s (does s) → LeftOut s → (l : List Raw) → FollowsHead s l → FollowsHead r l
  past_left_out r s f out [] head = tt
  past_left_out r s f out (h ∷ later) head = record {
    tag = head.tag ∙ f.tag;
    writes = head.writes ∙ f.writes;
    acts = λ e. (let bad : true ≡ false = sym out.writes ∙ f.writes ∙ e in cc);
  }

  head_follows : (r s : Raw) → Follows r s (does s) → (ps : List Raw) → AreParts s ps → (rest : List Raw) → (LeftOut s → FollowsHead s rest) → FollowsHead r (ps ++ rest)
  head_follows r s f ps (last_part part is more) rest later = record { tag = is.tag ∙ f.tag; writes = is.writes ∙ f.writes; acts = λ e. is.acts_so ∙ f.acts e }
  head_follows r s f ps (more_parts part next tail is more all) rest later = record { tag = is.tag ∙ f.tag; writes = is.writes ∙ f.writes; acts = λ e. is.acts_so ∙ f.acts e }
  head_follows r s f ps (no_parts out) rest later = past_left_out r s f out rest (later out)

  follow : (r : Raw) (rs : List Raw) → IsTrue (are_joined_alike target up (high r ∷ map high rs)) → goes_on_with r ≡ true → FollowsHead r (flat_map parts rs)
  follow r [] h more = tt
  follow r (s ∷ rs) h more =
      let both = and_parts (closes (high r) || goes_on_alike target up (high r) (high s)) (are_joined_alike target up (high s ∷ map high rs)) h in
      let on = follows_above r s (second (closes (high r)) _ (ap not more) both.0) in
      head_follows r s on (parts s) (are_parts law target up.shape down.shape count may s) (flat_map parts rs) (λ out. follow s rs both.1 out.more)
    where
      second : (a b : Bool) → a ≡ false → IsTrue (a || b) → IsTrue b
      second true b e h = cc
      second false b e h = h

  parts_alike : (r : Raw) (ps : List Raw) → AreParts r ps → (rest : List Raw) → IsTrue (are_joined_alike target down (map low rest)) → (goes_on_with r ≡ true → FollowsHead r rest) →
      IsTrue (are_joined_alike target down (map low (ps ++ rest)))
  parts_alike r ps (last_part part is more) [] all head = refl
  parts_alike r ps (last_part part is more) (h ∷ rest) all head = and_from _ _ (by_more (is_raised part.more) refl) all
    where
      by_more : (m : Bool) → is_raised part.more ≡ m → IsTrue (closes (low part) || goes_on_alike target down (low part) (low h))
      by_more false e = or_left _ _ (ap not e)
      by_more true e =
          let f = head (ap is_raised (sym more) ∙ e) in
          or_right (closes (low part)) _ (goes_on_below part h (f.tag ∙ sym is.tag) (f.writes ∙ sym is.writes) (λ w. f.acts (sym is.writes ∙ w) ∙ sym is.acts_so))
  parts_alike r ps (more_parts part next later is more others) rest all head =
      and_from _ _ (or_right (closes (low part)) _ (next_part next later others)) (parts_alike r (next ∷ later) others rest all head)
    where
      on : (n : Raw) → Part r n → IsTrue (goes_on_alike target down (low part) (low n))
      on n other = goes_on_below part n (other.tag ∙ sym is.tag) (other.writes ∙ sym is.writes) (λ w. other.acts_so ∙ sym is.acts_so)

      next_part : (n : Raw) (tail : List Raw) → AreParts r (n ∷ tail) → IsTrue (goes_on_alike target down (low part) (low n))
      next_part n tail (last_part p other m) = on n other
      next_part n tail (more_parts p q l other m o) = on n other
  parts_alike r ps (no_parts out) rest all head = all

  pub joins_down : (rs : List Raw) → IsTrue (are_joined_alike target up (map high rs)) → IsTrue (are_joined_alike target down (map low (flat_map parts rs)))
  joins_down [] h = refl
  joins_down (r ∷ rs) h =
      parts_alike r (parts r) (are_parts law target up.shape down.shape count may r) (flat_map parts rs) (joins_down rs (tail_alike target up (high r) (map high rs) h)) (λ more. follow r rs h more)

  -- ---- the last of all

  module _ (test : Raw → Bool) (same : (raw part : Raw) → Part raw part → part.more ≡ raw.more → test part ≡ test raw) (out : (raw : Raw) → LeftOut raw → test raw ≡ true) where
    last_of_parts : (raw : Raw) (ps : List Raw) → AreParts raw ps → last_is test ps ≡ true → test raw ≡ true
    last_of_parts raw ps (last_part part is more) e = sym (same raw part is more) ∙ e
    last_of_parts raw ps (more_parts part next later is more rest) e = last_of_parts raw (next ∷ later) rest e
    last_of_parts raw ps (no_parts left) e = cc

    -- where nothing is sent, all are left out
    none_sent : (r : Raw) (rs : List Raw) → flat_map parts (r ∷ rs) ≡ [] → last_is test (r ∷ rs) ≡ true
    none_sent r [] e = only (parts r) (are_parts law target up.shape down.shape count may r) e
      where
        only : (ps : List Raw) → AreParts r ps → ps ++ [] ≡ [] → test r ≡ true
        only ps (last_part part is more) e = cc
        only ps (more_parts part next later is more rest) e = cc
        only ps (no_parts left) e = out r left
    none_sent r (s ∷ rs) e = past (parts r) (are_parts law target up.shape down.shape count may r) e (none_sent s rs)
      where
        past : (ps : List Raw) → AreParts r ps → ps ++ flat_map parts (s ∷ rs) ≡ [] → (flat_map parts (s ∷ rs) ≡ [] → last_is test (s ∷ rs) ≡ true) → last_is test (s ∷ rs) ≡ true
        past ps (last_part part is more) e later = cc
        past ps (more_parts part next tail is more rest) e later = cc
        past ps (no_parts left) e later = later e

    pub last_down : (rs : List Raw) → last_is test (flat_map parts rs) ≡ true → last_is test rs ≡ true
    last_down [] e = e
    last_down (r ∷ []) e = last_of_parts r (parts r) (are_parts law target up.shape down.shape count may r) (ap (last_is test) (sym (append-nil (parts r))) ∙ e)
    last_down (r ∷ s ∷ rs) e = by_list (flat_map parts (s ∷ rs)) refl (last_down (s ∷ rs))
      where
        by_list : (l : List Raw) → flat_map parts (s ∷ rs) ≡ l → (last_is test (flat_map parts (s ∷ rs)) ≡ true → last_is test (s ∷ rs) ≡ true) → last_is test (s ∷ rs) ≡ true
        by_list [] f rest = none_sent s rs f
        by_list (y ∷ ys) f rest = rest (ap (last_is test) f ∙ sym (last_behind test (parts r) y ys) ∙ ap (λ l. last_is test (parts r ++ l)) (sym f) ∙ e)

  pub more_down : (rs : List Raw) → last_is goes_on_with (flat_map parts rs) ≡ true → last_is goes_on_with rs ≡ true
  more_down = last_down goes_on_with (λ raw part is more. ap is_raised more) (λ raw out. out.more)

  pub write_down : (rs : List Raw) → last_is writes (flat_map parts rs) ≡ true → last_is writes rs ≡ true
  write_down = last_down writes (λ raw part is more. is.writes) (λ raw out. out.writes)
