-- What a cutter of bursts shows in the cycles before `end`, where all that is shown above is fit.
use Rattle.std.proofs.Common.{ℕ, zero, suc, ◌<◌, ◌≤◌, ◌≡◌, ◌+◌, ◌*◌, min, Bool, true, false, ◌||◌, if◌then◌else◌, arith, refl, sym, ap, ◌∙◌, nat_eq, nat_lt, ltb-false}
use Rattle.std.proofs.lemmas.Bool.{both_ways, le-ltb, eqb-true}
use Rattle.histories.specs.History.{is_raised}
use Rattle.memory_runs.specs.Views.{Shape}
use Rattle.memory_runs.specs.Commands.{Burst, shows, burst_before, byte_address}
use Rattle.memory_machines.specs.Link.{Port, AreLegalAt, takes}
use Rattle.memory_machines.specs.Machines.{Raw, ShowsFitBeats}
use Rattle.memory_machines.specs.SideLaws.{fit_when_shown}
use Rattle.memory_links.specs.Cutters.{Place, IsPlaceIn, beats_of, write_of_burst}
use Rattle.memory_links.specs.Driven.{place_in}

pub not_zero : (n : ℕ) → nat_eq n 0 ≡ false → 0 < n
not_zero zero k = cc
not_zero (suc n) k = omega arith

-- of what has a beat at least, the next burst is as long as may be
pub beats_are : (longest n : ℕ) → 0 < n → beats_of longest n ≡ min longest n
beats_are longest n some = by_one (nat_eq longest 1) refl
  where
    by_one : (b : Bool) → nat_eq longest 1 ≡ b → (if b then 1 else min longest n) ≡ min longest n
    by_one true e = let one = eqb-true longest 1 e in omega (arith, one, some)
    by_one false e = refl

-- ---- what a legal side shows is fit

pub legal_fits : (port : Port) (end : ℕ) → AreLegalAt port end → ShowsFitBeats port end
legal_fits port end legal c h shown = fit_when_shown port end c legal h shown

pub fits_before : (port : Port) (end : ℕ) → ShowsFitBeats port end → (c : ℕ) → c ≤ end → ShowsFitBeats port c
fits_before port end fit c h k low shown = fit k (omega (arith, h, low)) shown

module _ (port : Port) (end : ℕ) (fit : ShowsFitBeats port end) where
  abbrev pub under_way : ℕ → Burst
  under_way c = burst_before port.shape port.commands.signals (takes port) c

  -- where a read stands no write burst is under way
  pub free_at_read : (c : ℕ) → c < end → shows port.commands.signals c ≡ true → is_raised (port.commands.write c) ≡ false → (under_way c).left ≡ 0
  free_at_read c h shown w = by_left (nat_lt 0 (under_way c).left) refl
    where
      reads : (r w : Bool) → r || w ≡ true → w ≡ false → r ≡ true
      reads true w s e = refl
      reads false true s e = cc
      reads false false s e = cc

      by_left : (b : Bool) → nat_lt 0 (under_way c).left ≡ b → (under_way c).left ≡ 0
      by_left false e = let most = ltb-false 0 (under_way c).left e in omega (arith, most)
      by_left true e = absurd (both_ways (is_raised (port.commands.read c)) ((fit c h shown).finished e) (reads (is_raised (port.commands.read c)) (is_raised (port.commands.write c)) shown w))

  -- what stands has a beat at least
  pub some_left : (c : ℕ) → c < end → shows port.commands.signals c ≡ true → 0 < (if nat_eq (under_way c).left 0 then port.commands.count c else (under_way c).left)
  some_left c h shown = by_zero (nat_eq (under_way c).left 0) refl
    where
      by_zero : (z : Bool) → nat_eq (under_way c).left 0 ≡ z → 0 < (if z then port.commands.count c else (under_way c).left)
      by_zero true f = let none = eqb-true (under_way c).left 0 f in let least = (fit c h shown).least (le-ltb 0 (under_way c).left (omega (arith, none))) in omega (arith, least)
      by_zero false f = not_zero (under_way c).left f

  pub some_read : (c : ℕ) → c < end → shows port.commands.signals c ≡ true → is_raised (port.commands.write c) ≡ false → 0 < port.commands.count c
  some_read c h shown w =
      let none = free_at_read c h shown w in
      let least = (fit c h shown).least (le-ltb 0 (under_way c).left (omega (arith, none))) in
      omega (arith, least)

-- ---- the place of a burst

pub placed : (longest : ℕ) (shape : Shape) (raw : Raw) (burst : Burst) (place : Place) → IsPlaceIn shape.word_bytes burst place →
    write_of_burst longest shape place raw ≡ write_of_burst longest shape (place_in shape.word_bytes burst) raw
placed longest shape raw burst place is =
    ap (λ n. write_of_burst longest shape (record { left = n; address = place.address }) raw) is.left ∙ by_free (nat_eq burst.left 0) refl
  where
    by_address : Bool → ℕ → Raw
    by_address free address = record {
      levels = record {
        read = 0;
        write = 1;
        address = if free then byte_address shape raw.levels.address else address;
        word = raw.levels.word;
        enables = raw.levels.enables;
        count = beats_of longest (if nat_eq burst.left 0 then raw.levels.count else burst.left);
      };
      more = raw.more;
      tag = raw.tag;
    }

    by_free : (b : Bool) → nat_eq burst.left 0 ≡ b → by_address (nat_eq burst.left 0) place.address ≡ by_address (nat_eq burst.left 0) (burst.first + burst.done * shape.word_bytes)
    by_free true e = ap (λ b. by_address b place.address) e ∙ ap (λ b. by_address b (burst.first + burst.done * shape.word_bytes)) (sym e)
    by_free false e = ap (by_address (nat_eq burst.left 0)) (is.address (not_zero burst.left e))
