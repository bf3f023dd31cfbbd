-- The nets of a splitter, between any sides that they stand for, and what the beat below doesn't depend on.
use Rattle.std.proofs.Common.{ℕ, ◌≡◌, not, ◌&&◌, if◌then◌else◌, nat_lt, refl, sym, ap, subst, ◌∙◌, arith, inl, inr}
use Rattle.histories.specs.History.{is_raised, one_if}
use Rattle.netlist.specs.Nets.{NetValue}
use Rattle.netlist.specs.Netlists.{Netlist}
use Rattle.netlist.specs.Runs.{Cycle, Run, IsEndlessRun, IsValuation}
use Rattle.memory_machines.specs.Machines.{Raw}
use Rattle.command_nets.specs.declared.nets.CommandNets.{CommandNets}
use Rattle.command_nets.specs.declared.nets.AnswerNets.{AnswerNets}
use Rattle.command_nets.specs.Nets.{raw_in, port_in, ShowSame}
use Rattle.command_nets.specs.Groups.{is_shown}
use Rattle.link_core.specs.Form.{Form}
use Rattle.mm_split.specs.declared.split.Split.{Split}
use Rattle.mm_split.specs.declared.split.SplitKept.{SplitKept}
use Rattle.mm_split.specs.declared.sizes.Sizes.{Sizes}
use Rattle.mm_split.specs.Registers.{owns}
use Rattle.mm_split.specs.Parts.{IsAbove, IsBeatBelow, may_go, count_in, number_of, here_of, touched_of}
use Rattle.mm_split.specs.SplitNets.{IsSplitForm, SplitRuns, SplitCommand, SplitAnswer}
use Rattle.mm_split.proofs.SplitLaw.{state, runs_as_split}

at_kept : (split : Split) (from to : CommandNets) (kept : SplitKept) (netlist : Netlist) → SplitCommand split from to kept netlist → SplitCommand split kept.from kept.part.below kept netlist
at_kept split from to kept netlist f = record { sizes = f.sizes; from_is = refl; to_is = refl; nets = f.nets; starts = f.starts; parts = f.parts }

pub split_runs : (split : Split) (form : Form) (from to : CommandNets) (kept : SplitKept) (wait up : NetValue) (answer back : AnswerNets) (netlist : Netlist) (run : Run) → IsSplitForm split form → SplitCommand split from to kept netlist → SplitAnswer split kept wait answer up back netlist → IsEndlessRun netlist run →
    SplitRuns split form.link.target (port_in form.up run from up back) (port_in form.down run to wait answer)
split_runs split form from to kept wait up answer back netlist run p f b endless =
    let here = at_kept split from to kept netlist f in
    subst (λ (x : CommandNets). SplitRuns split form.link.target (port_in form.up run x up back) (port_in form.down run to wait answer)) (sym f.from_is)
    (subst (λ (y : CommandNets). SplitRuns split form.link.target (port_in form.up run kept.from up back) (port_in form.down run y wait answer)) (sym f.to_is)
    (record {
      count = p.count;
      plan = p.plan;
      state = state split form kept wait up answer back netlist p here b run endless;
      some = (let some = p.some in omega (arith, some));
      run = runs_as_split split form kept wait up answer back netlist p here b run endless;
    }))

-- ---- the beat below, from the beat above and the registers alone

beat_same : (sizes : Sizes) (raw below other : Raw) (number shows last shows_too last_too : ℕ) → is_raised shows ≡ is_raised shows_too → is_raised last ≡ is_raised last_too →
    IsBeatBelow sizes raw number shows last below → IsBeatBelow sizes raw number shows_too last_too other → below ≡ other
beat_same sizes raw below other number shows last shows_too last_too s l b o =
    let w = is_raised raw.levels.write in
    let read = b.read ∙ ap (λ t. one_if (t && not w)) s ∙ sym o.read in
    let write = b.write ∙ ap (λ t. one_if (t && w)) s ∙ sym o.write in
    let address = b.address ∙ sym o.address in
    let word = b.word ∙ sym o.word in
    let enables = b.enables ∙ sym o.enables in
    let count = b.count ∙ sym o.count in
    let more = b.more ∙ ap (λ t. if t then raw.more else 1) l ∙ sym o.more in
    let tag = b.tag ∙ sym o.tag in
    rw (read, write, address, word, enables, count, more, tag) refl

told_same : (sizes : Sizes) (raw below other : Raw) (place reads set asked opens shows last none asked_too opens_too shows_too last_too none_too : ℕ) →
    IsAbove sizes raw place reads set asked opens shows last none → IsAbove sizes raw place reads set asked_too opens_too shows_too last_too none_too →
    IsBeatBelow sizes raw (number_of sizes (here_of sizes (touched_of sizes raw) place)) shows last below → IsBeatBelow sizes raw (number_of sizes (here_of sizes (touched_of sizes raw) place)) shows_too last_too other → below ≡ other
told_same sizes raw below other place reads set asked opens shows last none asked_too opens_too shows_too last_too none_too a t b o =
    let asks = a.asked_is ∙ sym t.asked_is in
    let goes = a.opens_is ∙ ap (may_go sizes.room raw.levels.write place reads set) asks ∙ sym t.opens_is in
    let s = a.shows_is ∙ ap (λ g. (is_shown raw && g) && nat_lt place (count_in sizes raw)) goes ∙ sym t.shows_is in
    beat_same sizes raw below other (number_of sizes (here_of sizes (touched_of sizes raw) place)) shows last shows_too last_too s (a.last_is ∙ sym t.last_is) b o

pub split_ignores : (split : Split) (from to : CommandNets) (kept : SplitKept) (netlist : Netlist) (one other : Cycle) → SplitCommand split from to kept netlist → IsValuation netlist one → IsValuation netlist other →
    ((n : ℕ) → owns kept.registers n → one.net n ≡ other.net n) → ShowSame from one other → ShowSame to one other
split_ignores split from to kept netlist one other f v w held same =
    let sizes = kept.sizes in
    let registers = kept.registers in
    let a = f.parts one v in
    let o = f.parts other w in
    let raw : raw_in other kept.from ≡ raw_in one kept.from = subst (λ (x : CommandNets). raw_in other x ≡ raw_in one x) f.from_is (sym same) in
    let place : other.net registers.place.number ≡ one.net registers.place.number = sym (held registers.place.number (inl refl)) in
    let set : other.net registers.set.number ≡ one.net registers.set.number = sym (held registers.set.number (inr (inl refl))) in
    let reads : other.net registers.reads.number ≡ one.net registers.reads.number = sym (held registers.reads.number (inr (inr (inl refl)))) in
    let told = subst (λ (r : Raw). IsAbove sizes r (one.net registers.place.number) (one.net registers.reads.number) (one.net registers.set.number) (other.net kept.part.asked.number) (other.net kept.part.opens.number) (other.net kept.part.above.shows.number) (other.net kept.part.above.last.number) (other.net kept.part.above.none.number)) raw
    (subst (λ n. IsAbove sizes (raw_in other kept.from) n (one.net registers.reads.number) (one.net registers.set.number) (other.net kept.part.asked.number) (other.net kept.part.opens.number) (other.net kept.part.above.shows.number) (other.net kept.part.above.last.number) (other.net kept.part.above.none.number)) place
    (subst (λ n. IsAbove sizes (raw_in other kept.from) (other.net registers.place.number) n (one.net registers.set.number) (other.net kept.part.asked.number) (other.net kept.part.opens.number) (other.net kept.part.above.shows.number) (other.net kept.part.above.last.number) (other.net kept.part.above.none.number)) reads
    (subst (λ n. IsAbove sizes (raw_in other kept.from) (other.net registers.place.number) (other.net registers.reads.number) n (other.net kept.part.asked.number) (other.net kept.part.opens.number) (other.net kept.part.above.shows.number) (other.net kept.part.above.last.number) (other.net kept.part.above.none.number)) set o.told))) in
    let beat = subst (λ (r : Raw). IsBeatBelow sizes r (number_of sizes (here_of sizes (touched_of sizes r) (one.net registers.place.number))) (other.net kept.part.above.shows.number) (other.net kept.part.above.last.number) (raw_in other kept.part.below)) raw
    (subst (λ n. IsBeatBelow sizes (raw_in other kept.from) (number_of sizes (here_of sizes (touched_of sizes (raw_in other kept.from)) n)) (other.net kept.part.above.shows.number) (other.net kept.part.above.last.number) (raw_in other kept.part.below)) place o.beat) in
    subst (λ (x : CommandNets). ShowSame x one other) (sym f.to_is)
    (told_same sizes (raw_in one kept.from) (raw_in one kept.part.below) (raw_in other kept.part.below) _ _ _ _ _ _ _ _ _ _ _ _ _ a.told told a.beat beat)
