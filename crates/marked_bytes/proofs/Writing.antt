-- One text written behind another.
use Rattle.std.proofs.Common.{◌≡◌, ℕ, zero, suc, cond, ◌+◌, ◌<◌, Bool, true, false, List, [], ◌∷◌, ◌++◌, length, take, drop, get_or, Option, Some, None, refl, sym, ap, subst, ◌∙◌, append_assoc, length-append, arith}
use Rattle.std.specs.Prelude.{bit_xor}
use Rattle.std.specs.List.{prefix_len}
use Rattle.std.proofs.lemmas.List.{take-append-le, append-nil, drop_more, take-append-drop}
use Rattle.std.proofs.lemmas.List.Concat.{flat_map-append}
use Rattle.std.proofs.Math.Seq.{take-add}
use Rattle.av_files.specs.Outside.{with_more}
use Rattle.marked_bytes.specs.Symbols.{is_plain}
use Rattle.marked_bytes.specs.Packing.{spelled_byte, spelled_bytes, body, Writes}

nothing_more : (o : Option (List ℕ)) → o ≡ with_more o []
nothing_more None = refl
nothing_more (Some h) = ap Some (sym (append-nil h))

more_more : (o : Option (List ℕ)) (a b : List ℕ) → with_more (with_more o a) b ≡ with_more o (a ++ b)
more_more None a b = refl
more_more (Some h) a b = ap Some (append_assoc h a b)

take_past : (a b : List ℕ) (k : ℕ) → a ++ take k b ≡ take (length a + k) (a ++ b)
take_past [] b k = let e : k ≡ 0 + k = omega arith in ap (λ n. take n b) e
take_past (x ∷ a) b k = let e : suc (length a + k) ≡ suc (length a) + k = omega arith in ap (λ xs. x ∷ xs) (take_past a b k) ∙ ap (λ n. take n ((x ∷ a) ++ b)) e

-- a text behind one that was written whole
pub written_then : (a b : List ℕ) (held mid holds : Option (List ℕ)) (before between after : ℕ) (whole : Bool) → Writes a held mid before between true → Writes b mid holds between after whole
    → Writes (a ++ b) held holds before after whole
written_then a b held mid holds before between after true h g = record {
  all = g.all ∙ ap (λ m. with_more m b) h.all ∙ more_more held a b;
  part = tt;
  rose = tt;
  grows = let x = h.grows in let y = g.grows in omega arith;
  below = λ l. g.below (h.below l);
}
written_then a b held mid holds before between after false h g = record {
  all = tt;
  part =
      let k = g.part.0 in
      let l = g.part.1 in
      (length a + k, omega (arith, length-append a b), g.part.2 ∙ ap (λ m. with_more m (take k b)) h.all ∙ more_more held a (take k b) ∙ ap (with_more held) (take_past a b k));
  rose = let x = h.grows in let y = g.rose in omega arith;
  grows = let x = h.grows in let y = g.grows in omega arith;
  below = λ l. g.below (h.below l);
}

-- a text of which a part was written, before another
pub written_cut : (a b : List ℕ) (held holds : Option (List ℕ)) (before after : ℕ) → Writes a held holds before after false → Writes (a ++ b) held holds before after false
written_cut a b held holds before after h = record {
  all = tt;
  part =
      let k = h.part.0 in
      let l = h.part.1 in
      (k, omega (arith, length-append a b), h.part.2 ∙ ap (with_more held) (sym (take-append-le k a b (omega arith))));
  rose = h.rose;
  grows = h.grows;
  below = h.below;
}

pub written_none : (held : Option (List ℕ)) (faults : ℕ) → Writes [] held held faults faults true
written_none held faults = record { all = nothing_more held; part = tt; rose = tt; grows = omega arith; below = λ l. l }

-- ---- the bytes of a loop that writes them

plain_run : (bytes : List ℕ) → spelled_bytes (take (prefix_len is_plain bytes) bytes) ≡ take (prefix_len is_plain bytes) bytes
plain_run [] = refl
plain_run (byte ∷ rest) =
    let n = prefix_len is_plain rest in
    let e : 1 + n ≡ suc n = omega arith in
    elim (is_plain byte) as (λ b. is_plain byte ≡ b → spelled_bytes (take (cond b (1 + n) 0) (byte ∷ rest)) ≡ take (cond b (1 + n) 0) (byte ∷ rest)) [
      | true ↦ λ p. ap (λ k. spelled_bytes (take k (byte ∷ rest))) e ∙ ap (λ b. cond b (byte ∷ []) (0x7d ∷ bit_xor byte 0x20 ∷ []) ++ spelled_bytes (take n rest)) p
          ∙ ap (λ xs. byte ∷ xs) (plain_run rest) ∙ ap (λ k. take k (byte ∷ rest)) (sym e)
      | false ↦ λ p. refl
    ] refl

spelled_add : (bytes : List ℕ) (done count : ℕ) → spelled_bytes (take (done + count) bytes) ≡ spelled_bytes (take done bytes) ++ spelled_bytes (take count (drop done bytes))
spelled_add bytes done count = ap spelled_bytes (take-add done count bytes) ∙ flat_map-append spelled_byte (take done bytes) (take count (drop done bytes))

spelled_whole : (bytes : List ℕ) (count : ℕ) → spelled_bytes (take count bytes) ++ spelled_bytes (drop count bytes) ≡ spelled_bytes bytes
spelled_whole bytes count = sym (flat_map-append spelled_byte (take count bytes) (drop count bytes)) ∙ ap spelled_bytes (take-append-drop count bytes)

pub run_next : (bytes : List ℕ) (done count : ℕ) → count ≡ prefix_len is_plain (drop done bytes) → spelled_bytes (take count (drop done bytes)) ≡ take count (drop done bytes)
run_next bytes done count e = rw e (plain_run (drop done bytes))

pub byte_next : (bytes : List ℕ) (done : ℕ) → done < length bytes → spelled_bytes (take 1 (drop done bytes)) ≡ spelled_byte (get_or bytes done 0)
byte_next bytes done l = ap (λ xs. spelled_bytes (take 1 xs)) (drop_more bytes done 0 l) ∙ append-nil (spelled_byte (get_or bytes done 0))

pub more_written : (bytes text : List ℕ) (done count : ℕ) (held mid holds : Option (List ℕ)) (before between after : ℕ) → spelled_bytes (take count (drop done bytes)) ≡ text
    → Writes (spelled_bytes (take done bytes)) held mid before between true → Writes text mid holds between after true → Writes (spelled_bytes (take (done + count) bytes)) held holds before after true
more_written bytes text done count held mid holds before between after e h g =
    subst (λ t. Writes t held holds before after true) (ap (λ t. spelled_bytes (take done bytes) ++ t) (sym e) ∙ sym (spelled_add bytes done count))
    (written_then (spelled_bytes (take done bytes)) text held mid holds before between after true h g)

pub some_written : (bytes text : List ℕ) (done count : ℕ) (held mid holds : Option (List ℕ)) (before between after : ℕ) → spelled_bytes (take count (drop done bytes)) ≡ text
    → Writes (spelled_bytes (take done bytes)) held mid before between true → Writes text mid holds between after false → Writes (spelled_bytes bytes) held holds before after false
some_written bytes text done count held mid holds before between after e h g =
    subst (λ t. Writes t held holds before after false) (ap (λ t. t ++ spelled_bytes (drop (done + count) bytes)) (ap (λ t. spelled_bytes (take done bytes) ++ t) (sym e) ∙ sym (spelled_add bytes done count)) ∙ spelled_whole bytes (done + count))
    (written_cut (spelled_bytes (take done bytes) ++ text) (spelled_bytes (drop (done + count) bytes)) held holds before after
    (written_then (spelled_bytes (take done bytes)) text held mid holds before between after false h g))

-- the body of a packet by its bytes before the last one
pub body_is : (bytes : List ℕ) (last : ℕ) → length bytes ≡ suc last → body bytes ≡ spelled_bytes (take last bytes) ++ (0x7b ∷ spelled_byte (get_or bytes last 0))
body_is [] last e = absurd (omega arith)
body_is (byte ∷ []) zero e = refl
body_is (byte ∷ []) (suc last) e = absurd (omega arith)
body_is (byte ∷ next ∷ rest) zero e = absurd (omega arith)
body_is (byte ∷ next ∷ rest) (suc last) e =
    ap (λ t. spelled_byte byte ++ t) (body_is (next ∷ rest) last (omega arith))
    ∙ sym (append_assoc (spelled_byte byte) (spelled_bytes (take last (next ∷ rest))) (0x7b ∷ spelled_byte (get_or (next ∷ rest) last 0)))

pub written_with : (text : List ℕ) (held holds : Option (List ℕ)) (before after : ℕ) (one other : Bool) → one ≡ other → Writes text held holds before after one → Writes text held holds before after other
written_with text held holds before after one other e h = subst (λ w. Writes text held holds before after w) e h
