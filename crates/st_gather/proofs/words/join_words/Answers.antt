use Rattle.std.proofs.Common.{◌+◌, ◌-◌, ◌*◌, ◌^◌, ◌<◌, ◌==◌, ◌&&◌, if◌then◌else◌, ap, ◌∙◌, sym, subst, arith, inl, inr, length}
use Rattle.netlist.specs.Nets.{MemValue}
use Rattle.netlist.specs.declared.line.Line.{Line}
use Rattle.netlist.specs.Runs.{cycle_of}
use Rattle.net_parts.specs.Fitting.{cut_low}
use Rattle.net_parts.specs.Laws.{extends_twice}
use Rattle.st_gather.proofs.Keeping.{whole_bits, some_bits}
use Rattle.st_gather.proofs.Growing.{waiting_as, unwritten_as}
use Rattle.st_gather.proofs.words.join_words.Goals as goal

pub returns-clause-net : goal.returns-clause-net
returns-clause-net c =
    let parts = c.requires.some_parts in
    let memory = ap (λ (m : MemValue). m.width) c.in_ok-memory.ensures.memory.1 in
    let had = c.in_ok-had.ensures.net.1 in
    let word = c.in_ok-word.ensures.net.1 in
    let coming = c.requires.from.word.has_width in
    let whole = whole_bits c.args.word_bits c.args.parts (omega (arith, parts)) in
    record {
      is_net = c.set_write.ensures.extends.nets _ _ (c.slice.ensures.extends.nets _ _ c.in_ok-word.ensures.net.0);
      has_width = omega (arith, memory, had, word, coming, whole);
    }

pub returns-clause-joins : goal.returns-clause-joins
returns-clause-joins c =
    let places = ap (λ (m : MemValue). m.address_bits) c.in_ok-memory.ensures.memory.1 in
    record {
      memory = c.in_ok-memory.memory.number;
      fits = λ cycle v k below. (
          let v3 = c.set_write.ensures.extends.valuations cycle v in
          let v2 = c.slice.ensures.extends.valuations cycle v3 in
          let v1 = c.concat.ensures.extends.valuations cycle v2 in
          c.in_ok-memory.ensures.fits cycle (c.read_memory.ensures.extends.valuations cycle v1) k below);
      shows = λ cycle v. (
          let v3 = c.set_write.ensures.extends.valuations cycle v in
          let v2 = c.slice.ensures.extends.valuations cycle v3 in
          let v1 = c.concat.ensures.extends.valuations cycle v2 in
          (c.in_ok-word.ensures.value cycle v2).1
          ∙ ap (λ n. cycle.net c.in_ok-had.had.number * 2 ^ n + cycle.net c.args.from.now.word.number) c.requires.from.word.has_width
          ∙ ap (λ n. n * 2 ^ c.args.word_bits + cycle.net c.args.from.now.word.number) (c.in_ok-had.ensures.value cycle v1).1);
      keeps = λ run cycles r n lt k below. (
          let r3 = c.set_write.ensures.extends.runs run cycles r in
          let v3 = r3.valuations n (omega arith) in
          let some = c.requires.some_parts in
          let bit = c.requires.some_bit in
          c.set_write.ensures.value run cycles r n lt k (subst (λ b. k < 2 ^ b) (sym places) below)
          ∙ ap (λ w. if (run.net n c.args.moves.number == 1) && (run.net n c.args.from.now.channel.number == k) then w else run.cell n c.in_ok-memory.memory.number k)
          ((c.in_ok-kept.ensures.value (cycle_of run n) v3).1
          ∙ cut_low (run.net n c.in_ok-word.word.number) (c.args.word_bits * (c.args.parts - 1)) (some_bits c.args.word_bits c.args.parts bit some)));
    }

pub returns-clause-whole : goal.returns-clause-whole
returns-clause-whole c =
    let kept = ap (length {A = Line}) c.set_write.ensures.lines in
    let slice = c.slice.ensures.grows.most in
    let concat = c.concat.ensures.grows.most in
    let read = c.read_memory.ensures.grows.most in
    let begun = ap (length {A = Line}) c.memory.ensures.lines in
    record {
      extends = extends_twice _ _ _ c.memory.ensures.extends (extends_twice _ _ _ c.read_memory.ensures.extends (extends_twice _ _ _ c.concat.ensures.extends (extends_twice _ _ _ c.slice.ensures.extends c.set_write.ensures.extends)));
      most = omega (arith, kept, slice, concat, read, begun);
      drivers = c.set_write.ensures.drivers ∙ c.slice.ensures.grows.drivers ∙ c.concat.ensures.grows.drivers ∙ c.read_memory.ensures.grows.drivers ∙ c.memory.ensures.drivers;
      waits = λ n w.
          waiting_as _ _ c.memory.ensures.lines n
          (c.read_memory.ensures.grows.no_more_wait n (c.concat.ensures.grows.no_more_wait n (c.slice.ensures.grows.no_more_wait n (waiting_as _ _ c.set_write.ensures.lines n w))));
      waits_for_write = λ m w. (
          let set = c.set_write.ensures.no_more_wait m w in
          let before = unwritten_as _ _ (c.slice.ensures.grows.memories ∙ c.concat.ensures.grows.memories ∙ c.read_memory.ensures.grows.memories) m set.0 in
          let number = ap (λ (mem : MemValue). mem.number) c.in_ok-memory.ensures.memory.1 in
          elim (c.memory.ensures.newly m before) [ inl old ↦ old | inr same ↦ absurd (set.1 (same ∙ sym number)) ]);
    }
