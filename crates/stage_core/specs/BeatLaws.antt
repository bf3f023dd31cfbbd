-- The nets of a beat: by their numbers, by their fields, by their widths. No contract reads a proof of these.
use Rattle.std.proofs.Common.{◌≡◌, ℕ, zero, suc, ◌+◌, ◌-◌, ◌<◌, Bool, true, false, if◌then◌else◌, refl, sym, subst, ap, ◌∙◌, arith}
use Rattle.netlist.specs.Runs.{Cycle}
use Rattle.stage_core.specs.declared.beat.BeatNets.{BeatNets}
use Rattle.stage_core.specs.Beats.{HaveSameWidths, widths_of, ShowSame}
use Rattle.stage_core.specs.Groups.{Shown, shown_in, AreNumbered, IsOfBeat}

by_place : (P : ℕ → Type 0) (v d : ℕ) → d < 7 → P (v + 0) → P (v + 1) → P (v + 2) → P (v + 3) → P (v + 4) → P (v + 5) → P (v + 6)
    → P (v + d)
by_place P v zero h p0 p1 p2 p3 p4 p5 p6 = p0
by_place P v (suc zero) h p0 p1 p2 p3 p4 p5 p6 = p1
by_place P v (suc (suc zero)) h p0 p1 p2 p3 p4 p5 p6 = p2
by_place P v (suc (suc (suc zero))) h p0 p1 p2 p3 p4 p5 p6 = p3
by_place P v (suc (suc (suc (suc zero)))) h p0 p1 p2 p3 p4 p5 p6 = p4
by_place P v (suc (suc (suc (suc (suc zero))))) h p0 p1 p2 p3 p4 p5 p6 = p5
by_place P v (suc (suc (suc (suc (suc (suc zero)))))) h p0 p1 p2 p3 p4 p5 p6 = p6
by_place P v (suc (suc (suc (suc (suc (suc (suc d))))))) h p0 p1 p2 p3 p4 p5 p6 = absurd (omega arith)

-- what holds of each net of a beat holds of each number of it
pub of_each : (P : ℕ → Type 0) (nets : BeatNets) (from : ℕ) → AreNumbered nets from → P nets.valid.number → P nets.word.number
    → P nets.channel.number → P nets.error.number → P nets.first.number → P nets.last.number → P nets.empty.number →
    (n : ℕ) → IsOfBeat nets n → P n
of_each P nets from at p0 p1 p2 p3 p4 p5 p6 n i =
    let v = nets.valid.number in
    let place : v + (n - v) ≡ n = (let le = i.from in omega arith) in
    subst P place (by_place P v (n - v) (let lt = i.below in omega arith)
    (subst P (let e = at.valid in omega arith) p0) (subst P (let e = at.valid in let f = at.word in omega arith) p1)
    (subst P (let e = at.valid in let f = at.channel in omega arith) p2)
    (subst P (let e = at.valid in let f = at.error in omega arith) p3)
    (subst P (let e = at.valid in let f = at.first in omega arith) p4)
    (subst P (let e = at.valid in let f = at.last in omega arith) p5)
    (subst P (let e = at.valid in let f = at.empty in omega arith) p6))

-- beats by their fields
pub shown_same : (x y : Shown) → x.valid ≡ y.valid → x.beat.word ≡ y.beat.word → x.beat.channel ≡ y.beat.channel
    → x.beat.error ≡ y.beat.error → x.beat.first ≡ y.beat.first → x.beat.last ≡ y.beat.last → x.beat.empty ≡ y.beat.empty → x ≡ y
shown_same x y e0 e1 e2 e3 e4 e5 e6 = rw (e0, e1, e2, e3, e4, e5, e6) refl

pub shown_chosen : (t : Bool) (x one other : Shown) → x.valid ≡ (if t then other.valid else one.valid)
    → x.beat.word ≡ (if t then other.beat.word else one.beat.word)
    → x.beat.channel ≡ (if t then other.beat.channel else one.beat.channel) →
    x.beat.error ≡ (if t then other.beat.error else one.beat.error)
    → x.beat.first ≡ (if t then other.beat.first else one.beat.first)
    → x.beat.last ≡ (if t then other.beat.last else one.beat.last)
    → x.beat.empty ≡ (if t then other.beat.empty else one.beat.empty) →
    x ≡ (if t then other else one)
shown_chosen true x one other e0 e1 e2 e3 e4 e5 e6 = shown_same x other e0 e1 e2 e3 e4 e5 e6
shown_chosen false x one other e0 e1 e2 e3 e4 e5 e6 = shown_same x one e0 e1 e2 e3 e4 e5 e6

pub widths_turned : (one other : BeatNets) → HaveSameWidths one other → HaveSameWidths other one
widths_turned one other h =
    record {
      valid =
          sym h.valid;
      word =
          sym h.word;
      channel = sym h.channel;
      error = sym h.error;
      first = sym h.first;
      last = sym h.last;
      empty = sym h.empty;
    }

pub widths_twice : (one middle other : BeatNets) → HaveSameWidths one middle → HaveSameWidths middle other
    → HaveSameWidths one other
widths_twice one middle other p q = record {
  valid = p.valid ∙ q.valid;
  word = p.word ∙ q.word;
  channel = p.channel ∙ q.channel;
  error = p.error ∙ q.error;
  first = p.first ∙ q.first;
  last = p.last ∙ q.last;
  empty = p.empty ∙ q.empty;
}

pub widths_alike : (one other : BeatNets) → HaveSameWidths one other → widths_of one ≡ widths_of other
widths_alike one other h = rw (h.word, h.channel, h.error, h.empty) refl

-- numbered from elsewhere, they are numbered from valid on
pub numbered_here : (nets : BeatNets) (from : ℕ) → AreNumbered nets from → AreNumbered nets nets.valid.number
numbered_here nets from h =
    let e = h.valid in
    record {
      valid = refl;
      word = (let f = h.word in omega arith);
      channel = (let f = h.channel in omega arith);
      error = (let f = h.error in omega arith);
      first = (let f = h.first in omega arith);
      last = (let f = h.last in omega arith);
      empty = (let f = h.empty in omega arith);
    }

-- nets that are the same number by number show the same
pub same_state : (nets : BeatNets) (one other : Cycle) → AreNumbered nets nets.valid.number
    → ((n : ℕ) → IsOfBeat nets n → one.net n ≡ other.net n) → shown_in one nets ≡ shown_in other nets
same_state nets one other at h =
    shown_same (shown_in one nets) (shown_in other nets)
    (h _ (let e = at.valid in record { from = omega arith; below = omega arith }))
    (h _ (let e = at.word in record { from = omega arith; below = omega arith }))
    (h _ (let e = at.channel in record { from = omega arith; below = omega arith }))
    (h _ (let e = at.error in record { from = omega arith; below = omega arith }))
    (h _ (let e = at.first in record { from = omega arith; below = omega arith }))
    (h _ (let e = at.last in record { from = omega arith; below = omega arith }))
    (h _ (let e = at.empty in record { from = omega arith; below = omega arith }))

pub show_same : (nets : BeatNets) (one other : Cycle) → shown_in one nets ≡ shown_in other nets → ShowSame nets one other
show_same nets one other e = record { valid = ap (λ (s : Shown). s.valid) e; beat = ap (λ (s : Shown). s.beat) e }

pub all_same : (nets : BeatNets) (one other : Cycle) → ShowSame nets one other → shown_in one nets ≡ shown_in other nets
all_same nets one other h = rw (h.valid, h.beat) refl
