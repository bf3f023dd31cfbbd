-- What the links of a pair leave in a netlist by their two calls.
use Rattle.std.specs.Prelude.{◌⊎◌, ℕ, Option, IsSomeAnd}
use Rattle.std.proofs.Common.{inl, inr}
use Rattle.netlist.specs.Nets.{NetValue}
use Rattle.netlist.specs.Netlists.{Netlist, IsWaiting, WaitsForWrite}
use Rattle.netlist.specs.Longer.{Extends}
use Rattle.net_parts.specs.Groups.{InGroup}
use Rattle.command_nets.specs.declared.nets.CommandNets.{CommandNets}
use Rattle.command_nets.specs.declared.nets.AnswerNets.{AnswerNets}
use Rattle.link_core.specs.declared.chain.Chain.{Chain}
use Rattle.link_core.specs.declared.maybe.Maybe.{Maybe}
use Rattle.link_core.specs.ChainNets.{AreBothKept, HasMiddle, HasMiddleAnswer}
use Rattle.link_core.specs.MaybeNets.{kept_of, stores_none, command_of, answer_of, none_stored}
use Rattle.link_core.specs.MaybeNets as maybe
use Rattle.mm_burst.specs.declared.cutter.Cutter.{Cutter}
use Rattle.mm_burst.specs.declared.cutter.CutterKept.{CutterKept}
use Rattle.mm_select.specs.declared.select.Select.{Select}
use Rattle.mm_select.specs.declared.select.SelectKept.{SelectKept}
use Rattle.mm_gather.specs.declared.gather.Gather.{Gather}
use Rattle.mm_gather.specs.declared.gather.GatherKept.{GatherKept}
use Rattle.mm_split.specs.declared.split.Split.{Split}
use Rattle.mm_split.specs.declared.split.SplitKept.{SplitKept}
use Rattle.mm_drop.specs.declared.dropper.Dropper.{Dropper}
use Rattle.mm_drop.specs.declared.dropper.DropperKept.{DropperKept}
use Rattle.mm_burst.specs.CutterNets.{owns_cutter, CutterKeeps, CutterCommand, CutterAnswer, cutter_keeps_lasts, cutter_command_lasts, cutter_answer_lasts}
use Rattle.item_queues.specs.Queues as queues
use Rattle.mm_select.specs.SelectNets.{SelectKeeps, SelectCommand, SelectAnswer, select_keeps_lasts, select_command_lasts, select_answer_lasts}
use Rattle.mm_gather.specs.Reads.{owns_reads, owns_read_memories}
use Rattle.mm_gather.specs.GatherNets.{GatherKeeps, GatherCommand, GatherAnswer, gather_keeps_lasts, gather_command_lasts, gather_answer_lasts}
use Rattle.mm_split.specs.Registers.{owns}
use Rattle.mm_split.specs.SplitNets.{SplitKeeps, SplitCommand, SplitAnswer, split_keeps_lasts, split_command_lasts, split_answer_lasts}
use Rattle.mm_drop.specs.Form.{DropKeeps, DropCommand, DropAnswer, drop_keeps_lasts, drop_command_lasts, drop_answer_lasts}
use Rattle.mm_drop.specs.Nets.{registers_of}
use Rattle.mm_width.specs.Links.{Fitting, Width}

-- what is kept of each link, where there is one
abbrev pub FittingKept : Type 0
FittingKept = ((Option SelectKept × Option GatherKept) × Option SplitKept) × Option DropperKept

abbrev pub WidthKept : Type 0
WidthKept = Option CutterKept × FittingKept

-- ---- each link

abbrev pub cutter_owns : CutterKept → ℕ → Type 0
cutter_owns kept n = owns_cutter kept n

abbrev pub select_owns : SelectKept → ℕ → Type 0
select_owns kept n = queues.owns kept.queue n

abbrev pub select_stores : SelectKept → ℕ → Type 0
select_stores kept m = queues.owns_memories kept.queue m

abbrev pub gather_owns : GatherKept → ℕ → Type 0
gather_owns kept n = owns_reads kept.held n

abbrev pub gather_stores : GatherKept → ℕ → Type 0
gather_stores kept m = owns_read_memories kept.held m

abbrev pub split_owns : SplitKept → ℕ → Type 0
split_owns kept n = owns kept.registers n

abbrev pub drop_owns : DropperKept → ℕ → Type 0
drop_owns kept n = InGroup (registers_of kept.registers) n

abbrev pub cutter_keeps : Cutter → CutterKept → Netlist → Type 0
cutter_keeps link kept netlist = CutterKeeps link kept netlist

abbrev pub select_keeps : Select → SelectKept → Netlist → Type 0
select_keeps link kept netlist = SelectKeeps link kept netlist

abbrev pub gather_keeps : Gather → GatherKept → Netlist → Type 0
gather_keeps link kept netlist = GatherKeeps link kept netlist

abbrev pub split_keeps : Split → SplitKept → Netlist → Type 0
split_keeps link kept netlist = SplitKeeps link kept netlist

abbrev pub drop_keeps : Dropper → DropperKept → Netlist → Type 0
drop_keeps link kept netlist = DropKeeps kept netlist

abbrev pub cutter_command : Cutter → CommandNets → CommandNets → CutterKept → Netlist → Type 0
cutter_command link from to kept netlist = CutterCommand link from to kept netlist

abbrev pub select_command : Select → CommandNets → CommandNets → SelectKept → Netlist → Type 0
select_command link from to kept netlist = SelectCommand link from to kept netlist

abbrev pub gather_command : Gather → CommandNets → CommandNets → GatherKept → Netlist → Type 0
gather_command link from to kept netlist = GatherCommand link from to kept netlist

abbrev pub split_command : Split → CommandNets → CommandNets → SplitKept → Netlist → Type 0
split_command link from to kept netlist = SplitCommand link from to kept netlist

abbrev pub drop_command : Dropper → CommandNets → CommandNets → DropperKept → Netlist → Type 0
drop_command link from to kept netlist = DropCommand link.word_bytes link.reads from to kept netlist

abbrev pub cutter_answer : Cutter → CutterKept → NetValue → AnswerNets → NetValue → AnswerNets → Netlist → Type 0
cutter_answer link kept wait answer up back netlist = CutterAnswer link kept wait answer up back netlist

abbrev pub select_answer : Select → SelectKept → NetValue → AnswerNets → NetValue → AnswerNets → Netlist → Type 0
select_answer link kept wait answer up back netlist = SelectAnswer link kept wait answer up back netlist

abbrev pub gather_answer : Gather → GatherKept → NetValue → AnswerNets → NetValue → AnswerNets → Netlist → Type 0
gather_answer link kept wait answer up back netlist = GatherAnswer link kept wait answer up back netlist

abbrev pub split_answer : Split → SplitKept → NetValue → AnswerNets → NetValue → AnswerNets → Netlist → Type 0
split_answer link kept wait answer up back netlist = SplitAnswer link kept wait answer up back netlist

abbrev pub drop_answer : Dropper → DropperKept → NetValue → AnswerNets → NetValue → AnswerNets → Netlist → Type 0
drop_answer link kept wait answer up back netlist = DropAnswer kept wait answer up back netlist

-- ---- those that widen words

-- the numbers of the registers
abbrev pub wider_own : Option SelectKept × Option GatherKept → ℕ → Type 0
wider_own kept n = IsSomeAnd kept.0 (λ held. select_owns held n) ⊎ IsSomeAnd kept.1 (λ held. gather_owns held n)

-- and of the memories
abbrev pub wider_store : Option SelectKept × Option GatherKept → ℕ → Type 0
wider_store kept m = IsSomeAnd kept.0 (λ held. select_stores held m) ⊎ IsSomeAnd kept.1 (λ held. gather_stores held m)

-- between the calls
abbrev pub WiderKeep : Chain (Maybe Select) (Maybe Gather) → Option SelectKept × Option GatherKept → Netlist → Type 0
WiderKeep wider kept netlist =
    AreBothKept (kept_of select_keeps wider.first.link kept.0)
    (kept_of gather_keeps wider.second.link kept.1) (λ n. IsSomeAnd kept.0 (λ held. select_owns held n))
    (λ n. IsSomeAnd kept.1 (λ held. gather_owns held n)) (λ m. IsSomeAnd kept.0 (λ held. select_stores held m))
    (λ m. IsSomeAnd kept.1 (λ held. gather_stores held m)) netlist

-- after the first call
abbrev pub WiderCommand : Chain (Maybe Select) (Maybe Gather) → CommandNets → CommandNets → Option SelectKept × Option GatherKept
    → Netlist → Type 0
WiderCommand wider from to kept netlist =
    HasMiddle (λ middle. command_of select_command wider.first.link from middle kept.0 netlist)
    (λ middle. command_of gather_command wider.second.link middle to kept.1 netlist)

-- after the second call
abbrev pub WiderAnswer : Chain (Maybe Select) (Maybe Gather) → Option SelectKept × Option GatherKept → NetValue → AnswerNets
    → NetValue → AnswerNets → Netlist → Type 0
WiderAnswer wider kept wait answer up back netlist =
    HasMiddleAnswer (λ middle between. answer_of select_answer wider.first.link kept.0 middle between up back netlist)
    (λ middle between. answer_of gather_answer wider.second.link kept.1 wait answer middle between netlist)

-- ---- and those that make words narrower

abbrev pub words_own : (Option SelectKept × Option GatherKept) × Option SplitKept → ℕ → Type 0
words_own kept n = wider_own kept.0 n ⊎ IsSomeAnd kept.1 (λ held. split_owns held n)

abbrev pub words_store : (Option SelectKept × Option GatherKept) × Option SplitKept → ℕ → Type 0
words_store kept m = wider_store kept.0 m ⊎ stores_none kept.1 m

abbrev pub WordsKeep : Chain (Chain (Maybe Select) (Maybe Gather)) (Maybe Split)
    → (Option SelectKept × Option GatherKept) × Option SplitKept → Netlist → Type 0
WordsKeep words kept netlist =
    AreBothKept (WiderKeep words.first kept.0) (kept_of split_keeps words.second.link kept.1)
    (wider_own kept.0) (λ n. IsSomeAnd kept.1 (λ held. split_owns held n)) (wider_store kept.0) (stores_none kept.1) netlist

abbrev pub WordsCommand : Chain (Chain (Maybe Select) (Maybe Gather)) (Maybe Split) → CommandNets → CommandNets
    → (Option SelectKept × Option GatherKept) × Option SplitKept → Netlist → Type 0
WordsCommand words from to kept netlist =
    HasMiddle (λ middle. WiderCommand words.first from middle kept.0 netlist)
    (λ middle. command_of split_command words.second.link middle to kept.1 netlist)

abbrev pub WordsAnswer : Chain (Chain (Maybe Select) (Maybe Gather)) (Maybe Split)
    → (Option SelectKept × Option GatherKept) × Option SplitKept → NetValue → AnswerNets → NetValue → AnswerNets → Netlist
    → Type 0
WordsAnswer words kept wait answer up back netlist =
    HasMiddleAnswer (λ middle between. WiderAnswer words.first kept.0 middle between up back netlist)
    (λ middle between. answer_of split_answer words.second.link kept.1 wait answer middle between netlist)

-- ---- all below the cutter

abbrev pub fitting_owns : FittingKept → ℕ → Type 0
fitting_owns kept n = words_own kept.0 n ⊎ IsSomeAnd kept.1 (λ held. drop_owns held n)

abbrev pub fitting_stores : FittingKept → ℕ → Type 0
fitting_stores kept m = words_store kept.0 m ⊎ stores_none kept.1 m

abbrev pub FittingKeeps : Fitting → FittingKept → Netlist → Type 0
FittingKeeps fitting kept netlist =
    AreBothKept (WordsKeep fitting.first kept.0) (kept_of drop_keeps fitting.second.link kept.1)
    (words_own kept.0) (λ n. IsSomeAnd kept.1 (λ held. drop_owns held n)) (words_store kept.0) (stores_none kept.1) netlist

abbrev pub FittingCommand : Fitting → CommandNets → CommandNets → FittingKept → Netlist → Type 0
FittingCommand fitting from to kept netlist =
    HasMiddle (λ low. WordsCommand fitting.first from low kept.0 netlist)
    (λ low. command_of drop_command fitting.second.link low to kept.1 netlist)

abbrev pub FittingAnswer : Fitting → FittingKept → NetValue → AnswerNets → NetValue → AnswerNets → Netlist → Type 0
FittingAnswer fitting kept wait answer up back netlist =
    HasMiddleAnswer (λ low inner. WordsAnswer fitting.first kept.0 low inner up back netlist)
    (λ low inner. answer_of drop_answer fitting.second.link kept.1 wait answer low inner netlist)

-- ---- all of them

abbrev pub owns_width : WidthKept → ℕ → Type 0
owns_width kept n = IsSomeAnd kept.0 (λ held. cutter_owns held n) ⊎ fitting_owns kept.1 n

abbrev pub stores_width : WidthKept → ℕ → Type 0
stores_width kept m = stores_none kept.0 m ⊎ fitting_stores kept.1 m

abbrev pub WidthKeeps : Width → WidthKept → Netlist → Type 0
WidthKeeps width kept netlist =
    AreBothKept (kept_of cutter_keeps width.first.link kept.0)
    (FittingKeeps width.second kept.1) (λ n. IsSomeAnd kept.0 (λ held. cutter_owns held n)) (fitting_owns kept.1)
    (stores_none kept.0) (fitting_stores kept.1) netlist

abbrev pub WidthCommand : Width → CommandNets → CommandNets → WidthKept → Netlist → Type 0
WidthCommand width from to kept netlist =
    HasMiddle (λ middle. command_of cutter_command width.first.link from middle kept.0 netlist)
    (λ middle. FittingCommand width.second middle to kept.1 netlist)

abbrev pub WidthAnswer : Width → WidthKept → NetValue → AnswerNets → NetValue → AnswerNets → Netlist → Type 0
WidthAnswer width kept wait answer up back netlist =
    HasMiddleAnswer (λ middle between. answer_of cutter_answer width.first.link kept.0 middle between up back netlist)
    (λ middle between. FittingAnswer width.second kept.1 wait answer middle between netlist)

-- ---- what stands lasts. No contract reads these proofs

fitting_keeps_lasts : (fitting : Fitting) (kept : FittingKept) (old new : Netlist) → FittingKeeps fitting kept old
    → Extends old new → ((n : ℕ) → fitting_owns kept n → IsWaiting old n → IsWaiting new n)
    → ((m : ℕ) → fitting_stores kept m → WaitsForWrite old m → WaitsForWrite new m) →
    FittingKeeps fitting kept new
fitting_keeps_lasts fitting kept old new h e w v = record {
  first = record {
    first = record {
      first =
          maybe.kept_lasts select_keeps select_owns select_stores select_keeps_lasts fitting.first.first.first.link kept.0.0.0 old new h.first.first.first e
          (λ n o. w n
          (inl (inl (inl o)))) (λ m o. v m (inl (inl (inl o))));
      second =
          maybe.kept_lasts gather_keeps gather_owns gather_stores gather_keeps_lasts fitting.first.first.second.link kept.0.0.1 old new h.first.first.second e
          (λ n o. w n
          (inl (inl (inr o)))) (λ m o. v m (inl (inl (inr o))));
      apart = h.first.first.apart;
      memories_apart = h.first.first.memories_apart;
    };
    second =
        maybe.kept_lasts split_keeps split_owns (λ held m. ⊥)
        (λ link held old new h e w v. split_keeps_lasts link held old new h e w) fitting.first.second.link kept.0.1 old new h.first.second e
        (λ n o. w n
        (inl (inr o))) (λ m o. absurd (none_stored kept.0.1 m o));
    apart = h.first.apart;
    memories_apart = h.first.memories_apart;
  };
  second =
      maybe.kept_lasts drop_keeps drop_owns (λ held m. ⊥)
      (λ link held old new h e w v. drop_keeps_lasts held old new h e w) fitting.second.link kept.1 old new h.second e (λ n o. w n
      (inr o)) (λ m o. absurd (none_stored kept.1 m o));
  apart = h.apart;
  memories_apart = h.memories_apart;
}

fitting_command_lasts : (fitting : Fitting) (from to : CommandNets) (kept : FittingKept) (old new : Netlist)
    → FittingCommand fitting from to kept old → Extends old new → FittingCommand fitting from to kept new
fitting_command_lasts fitting from to kept old new h e = record {
  middle = h.middle;
  first = record {
    middle = h.first.middle;
    first = record {
      middle = h.first.first.middle;
      first =
          maybe.command_lasts select_command select_command_lasts fitting.first.first.first.link from h.first.first.middle kept.0.0.0 old new h.first.first.first e;
      second =
          maybe.command_lasts gather_command gather_command_lasts fitting.first.first.second.link h.first.first.middle h.first.middle kept.0.0.1 old new h.first.first.second e;
    };
    second =
        maybe.command_lasts split_command split_command_lasts fitting.first.second.link h.first.middle h.middle kept.0.1 old new h.first.second e;
  };
  second =
      maybe.command_lasts drop_command
      (λ link from to held. drop_command_lasts link.word_bytes link.reads from to held) fitting.second.link h.middle to kept.1 old new h.second e;
}

fitting_answer_lasts : (fitting : Fitting) (kept : FittingKept) (wait : NetValue) (answer : AnswerNets) (up : NetValue)
    (back : AnswerNets) (old new : Netlist)
    → FittingAnswer fitting kept wait answer up back old → Extends old new → FittingAnswer fitting kept wait answer up back new
fitting_answer_lasts fitting kept wait answer up back old new h e = record {
  wait = h.wait;
  answer = h.answer;
  first = record {
    wait = h.first.wait;
    answer = h.first.answer;
    first = record {
      wait = h.first.first.wait;
      answer = h.first.first.answer;
      first =
          maybe.answer_lasts select_answer select_answer_lasts fitting.first.first.first.link kept.0.0.0 h.first.first.wait h.first.first.answer up back old new h.first.first.first e;
      second =
          maybe.answer_lasts gather_answer gather_answer_lasts fitting.first.first.second.link kept.0.0.1 h.first.wait h.first.answer h.first.first.wait h.first.first.answer old new h.first.first.second e;
    };
    second =
        maybe.answer_lasts split_answer split_answer_lasts fitting.first.second.link kept.0.1 h.wait h.answer h.first.wait h.first.answer old new h.first.second e;
  };
  second =
      maybe.answer_lasts drop_answer
      (λ link held. drop_answer_lasts held) fitting.second.link kept.1 wait answer h.wait h.answer old new h.second e;
}

pub keeps_lasts : (width : Width) (kept : WidthKept) (old new : Netlist) → WidthKeeps width kept old → Extends old new
    → ((n : ℕ) → owns_width kept n → IsWaiting old n → IsWaiting new n)
    → ((m : ℕ) → stores_width kept m → WaitsForWrite old m → WaitsForWrite new m) → WidthKeeps width kept new
keeps_lasts width kept old new h e w v = record {
  first =
      maybe.kept_lasts cutter_keeps cutter_owns (λ held m. ⊥)
      (λ link held old new h e w v. cutter_keeps_lasts link held old new h e w) width.first.link kept.0 old new h.first e
      (λ n o. w n
      (inl o)) (λ m o. absurd (none_stored kept.0 m o));
  second = fitting_keeps_lasts width.second kept.1 old new h.second e (λ n o. w n (inr o)) (λ m o. v m (inr o));
  apart = h.apart;
  memories_apart = h.memories_apart;
}

pub command_lasts : (width : Width) (from to : CommandNets) (kept : WidthKept) (old new : Netlist)
    → WidthCommand width from to kept old → Extends old new → WidthCommand width from to kept new
command_lasts width from to kept old new h e = record {
  middle = h.middle;
  first = maybe.command_lasts cutter_command cutter_command_lasts width.first.link from h.middle kept.0 old new h.first e;
  second = fitting_command_lasts width.second h.middle to kept.1 old new h.second e;
}

pub answer_lasts : (width : Width) (kept : WidthKept) (wait : NetValue) (answer : AnswerNets) (up : NetValue) (back : AnswerNets)
    (old new : Netlist)
    → WidthAnswer width kept wait answer up back old → Extends old new → WidthAnswer width kept wait answer up back new
answer_lasts width kept wait answer up back old new h e = record {
  wait = h.wait;
  answer = h.answer;
  first = maybe.answer_lasts cutter_answer cutter_answer_lasts width.first.link kept.0 h.wait h.answer up back old new h.first e;
  second = fitting_answer_lasts width.second kept.1 wait answer h.wait h.answer old new h.second e;
}
