-- What stirs the port below a lane selector or a cutter of bursts stirs the one above it.
use Rattle.std.proofs.Common.{ℕ, suc, ◌≡◌, inl, inr, Bool, true, false, not, ◌&&◌, ◌||◌, List, if◌then◌else◌, refl, sym, ap, ap₂, ◌∙◌, length, nat_lt, IsTrue}
use Rattle.std.proofs.lemmas.Bool.{and_parts, or_left, or_right}
use Rattle.histories.specs.History.{is_raised}
use Rattle.memory_runs.specs.Views.{Levels}
use Rattle.memory_runs.specs.Commands.{shows}
use Rattle.memory_machines.specs.Link.{Port, takes}
use Rattle.memory_machines.specs.Machines.{Raw, raw_at}
use Rattle.memory_links.specs.Cutters.{Reach, CutterState, RunsAsCutter, is_sending, read_burst_of, first_burst, write_of_burst, whole_read}
use Rattle.memory_links.specs.Drops.{any_lane}
use Rattle.memory_links.specs.Selects.{RunsAsSelect, is_shut, takes_read}
use Rattle.memory_awake.specs.Slack.{stirs, brings_next}
use Rattle.memory_awake.specs.Still.{StirsAbove, SpentStirs}
use Rattle.memory_awake.proofs.Bits.{no_true, takes_shows, either_part}

pub write_stirs : (port : Port) (c : ℕ) → IsTrue (takes port c) → IsTrue (is_raised (port.commands.write c)) → IsTrue (stirs port c)
write_stirs port c taken write = or_left (takes port c && is_raised (port.commands.write c)) (brings_next port c) (ap₂ (λ x y. x && y) taken write)

pub word_stirs : (port : Port) (c : ℕ) → IsTrue (brings_next port c) → IsTrue (stirs port c)
word_stirs port c comes = or_right (takes port c && is_raised (port.commands.write c)) (brings_next port c) comes

-- a write that is taken below is taken above, and words come at once
stirs_above : (up down : Port) → ((c : ℕ) → IsTrue (takes down c) → IsTrue (is_raised (down.commands.write c)) → IsTrue (takes up c) × IsTrue (is_raised (up.commands.write c))) → ((c : ℕ) → is_raised (up.answers.valid c) ≡ is_raised (down.answers.valid c)) →
    (end : ℕ) → StirsAbove up down end
stirs_above up down writes words end c h is = elim (either_part (takes down c && is_raised (down.commands.write c)) (brings_next down c) is) [
  | inl write ↦
      let both = and_parts (takes down c) (is_raised (down.commands.write c)) write in
      let above = writes c both.0 both.1 in
      write_stirs up c above.0 above.1
  | inr comes ↦ word_stirs up c (words (suc c) ∙ comes)
]

pub select_stirs : (room : ℕ) (up down : Port) (offsets : ℕ → List ℕ) → RunsAsSelect room up down offsets → (end : ℕ) → StirsAbove up down end
select_stirs room up down offsets run = stirs_above up down written (λ c. ap is_raised (run.valid c))
  where
    written : (c : ℕ) → IsTrue (takes down c) → IsTrue (is_raised (down.commands.write c)) → IsTrue (takes up c) × IsTrue (is_raised (up.commands.write c))
    written c taken write =
        let same : is_raised (down.commands.write c) ≡ is_raised (up.commands.write c) = ap (λ (l : Levels). is_raised l.write) (run.levels c) in
        let above = sym same ∙ write in
        let open_now : is_shut room up offsets c ≡ false = ap (λ b. not b && not (nat_lt (length (offsets c)) room)) above in
        let ready = (and_parts (shows down.commands.signals c) (not (is_raised (down.commands.waitrequest c))) taken).1 in
        (ap₂ (λ x y. x && y) (or_right (is_raised (up.commands.read c)) (is_raised (up.commands.write c)) above) (ap not (run.waitrequest c ∙ ap (λ b. b || is_raised (down.commands.waitrequest c)) open_now) ∙ ready), above)

-- what gathers gives the word of a read that it has taken, or an earlier one, where one comes
module _ (up down : Port) (takes_same : (c : ℕ) → takes down c ≡ takes up c) (gives : (c : ℕ) → takes_read up c ≡ true → is_raised (down.answers.valid (suc c)) ≡ true → is_raised (up.answers.valid (suc c)) ≡ true)
    (writes : (c : ℕ) → is_raised (down.commands.write c) ≡ is_raised (up.commands.write c)) where
  pub gather_spent : (end : ℕ) → SpentStirs up down end
  gather_spent end c h spent = by_write (is_raised (up.commands.write c)) refl
    where
      parts : IsTrue (takes down c && not (any_lane down.shape (down.commands.enables c))) × IsTrue (stirs down c)
      parts = and_parts (takes down c && not (any_lane down.shape (down.commands.enables c))) (stirs down c) spent

      taken : takes up c ≡ true
      taken = sym (takes_same c) ∙ (and_parts (takes down c) (not (any_lane down.shape (down.commands.enables c))) parts.0).0

      by_write : (w : Bool) → is_raised (up.commands.write c) ≡ w → IsTrue (stirs up c)
      by_write true e = write_stirs up c taken e
      by_write false e = elim (either_part (takes down c && is_raised (down.commands.write c)) (brings_next down c) parts.1) [
        | inl write ↦ absurd (no_true (sym e ∙ sym (writes c) ∙ (and_parts (takes down c) (is_raised (down.commands.write c)) write).1))
        | inr comes ↦ word_stirs up c (gives c (ap₂ (λ t w. t && not w) taken e) comes)
      ]

pub cut_stirs : (reach : Reach) (longest : ℕ) (up down : Port) (state : CutterState) → RunsAsCutter reach longest up down state → (end : ℕ) → StirsAbove up down end
cut_stirs reach longest up down state run = stirs_above up down written (λ c. ap is_raised (run.valid c))
  where
    written : (c : ℕ) → IsTrue (takes down c) → IsTrue (is_raised (down.commands.write c)) → IsTrue (takes up c) × IsTrue (is_raised (up.commands.write c))
    written c taken write = by_sending (is_sending state c) refl (is_raised (up.commands.write c)) refl
      where
        beat : (b : Bool) → is_sending state c ≡ b → IsTrue (is_raised (if b then read_burst_of reach (state.rest c) else first_burst reach longest up.shape (state.place c) (raw_at up c)).levels.write)
        beat b e =
            ap (λ b. is_raised (if b then read_burst_of reach (state.rest c) else first_burst reach longest up.shape (state.place c) (raw_at up c)).levels.write) (sym e)
            ∙ sym (ap (λ (r : Raw). is_raised r.levels.write) (run.beat c (takes_shows down c taken))) ∙ write

        by_sending : (b : Bool) → is_sending state c ≡ b → (w : Bool) → is_raised (up.commands.write c) ≡ w → IsTrue (takes up c) × IsTrue (is_raised (up.commands.write c))
        by_sending true e w f = absurd (no_true (beat true e))
        by_sending false e true f = (run.accepts c ∙ ap₂ (λ x y. not x && y) e taken, f)
        by_sending false e false f =
            absurd (no_true (ap (λ b. is_raised (if b then write_of_burst longest up.shape (state.place c) (raw_at up c) else read_burst_of reach (whole_read up.shape (raw_at up c))).levels.write) (sym f) ∙ beat false e))

pub spent_above : (up down : Port) (end : ℕ) → StirsAbove up down end → SpentStirs up down end
spent_above up down end above c h spent = above c h (and_parts (takes down c && not (any_lane down.shape (down.commands.enables c))) (stirs down c) spent).1

pub spent_further : (top up down : Port) (end : ℕ) → StirsAbove top up end → SpentStirs up down end → SpentStirs top down end
spent_further top up down end above spent c h is = above c h (spent c h is)
