use Rattle.std.proofs.Common.{◌≡◌, ℕ, ◌+◌, ◌^◌, ◌≤◌, ◌%◌, ◌-◌, Bool, true, false, nat_eq, if◌then◌else◌, refl, sym, subst, ap, ap₂, ◌∙◌, inl, inr, arith, length}
use Rattle.net_parts.specs.Laws.{extends_twice, grows_fewer, adds_grow, grows_twice, net_fits}
use Rattle.netlist.specs.Nets.{NetValue}
use Rattle.netlist.specs.Netlists.{Netlist, IsNet}
use Rattle.netlist.specs.Longer.{Extends}
use Rattle.memory_machines.specs.Machines.{Raw}
use Rattle.net_parts.specs.Fitting.{fits_more, fits_in_two}
use Rattle.command_nets.specs.declared.nets.CommandNets.{CommandNets}
use Rattle.command_nets.specs.Nets.{AreCommandNets, raw_in}
use Rattle.command_nets.specs.Groups.{command_lasts}
use Rattle.net_parts.specs.Groups.{in_row}
use Rattle.mm_burst.specs.CutterNets.{IsCutter, address_bits}
use Rattle.mm_burst.specs.Ways.{IsWay}
use Rattle.mm_burst.specs.declared.cutter.Cutter.{Cutter}
use Rattle.mm_burst.specs.Pieces.{Piece, reach_by, registers_of, held_in, HasRoom, piece_from, registers_last, piece_lasts}
use Rattle.mm_burst.proofs.Levels.{exponent_is, reach_is, has_room}
use Rattle.std.proofs.lemmas.Bool.{eqb-true}
use Rattle.mm_burst.proofs.cutter.CutterLink.emit_command.Goals as goal

-- the address of a cutter reaches all places of a wide word, and its count all words
is_way : {s : Cutter} → IsCutter s → (lanes address count : ℕ) → s.count_bits + lanes + 1 ≤ address → count ≡ s.count_bits → IsWay (record { lanes = lanes; place_bits = s.place_bits; below_bits = s.below_bits }) address count
is_way {s} is lanes address count wide same = record {
  some = is.some;
  fewer = (let fewer = is.fewer in omega (arith, fewer, same));
  within = by_places (nat_eq s.place_bits 0) refl;
  places = is.places;
}
  where
    by_places : (none : Bool) → nat_eq s.place_bits 0 ≡ none → lanes + s.place_bits ≤ address
    by_places true e = let zero_is = eqb-true s.place_bits 0 e in omega (arith, zero_is, wide)
    by_places false e = let fits = is.places e in let fewer = is.fewer in omega (arith, fits, fewer, wide)

-- a command with another count
fitted_from : (old new : Netlist) (from : CommandNets) (count : NetValue) → Extends old new → AreCommandNets old from → IsNet new count → AreCommandNets new (record from { count = count })
fitted_from old new from count e h n = let lasts = command_lasts old new from e h in record { read = lasts.read; write = lasts.write; address = lasts.address; word = lasts.word; enables = lasts.enables; count = n; more = lasts.more; tag = lasts.tag }

abbrev counted : Raw → ℕ → Raw
counted raw count = record raw { levels = record (raw.levels) { count = count } }

pub start_of-requires-clause-reach : goal.start_of-requires-clause-reach
start_of-requires-clause-reach c = reach_is _ _ (subst (λ n. n ≤ 2 ^ c.args.from.address.width) c.lane_bits-lanes.ensures.power c.requires.widths.reach)

pub start_of-requires-clause-wider : goal.start_of-requires-clause-wider
start_of-requires-clause-wider c =
    let wide = c.width-address_bits.ensures.value in
    let wider = c.wide_bits-bits.ensures.wider in
    omega (arith, wide, wider)

pub hold_registers-requires-clause-like : goal.hold_registers-requires-clause-like
hold_registers-requires-clause-like c = command_lasts _ _ _ (extends_twice _ _ _ c.start_of.ensures.adds.grows.extends c.longest_net.ensures.adds.grows.extends) (fitted_from _ _ c.args.from c.in_ok-count.count c.fit_bits.ensures.adds.grows.extends c.requires.from c.in_ok-count.ensures.net.is_net)

pub hold_registers-requires-clause-start : goal.hold_registers-requires-clause-start
hold_registers-requires-clause-start c = c.longest_net.ensures.adds.grows.extends.nets _ _ c.in_ok-start.ensures.net.is_net

pub make_piece-requires-clause-from : goal.make_piece-requires-clause-from
make_piece-requires-clause-from c = command_lasts _ _ _ (extends_twice _ _ _ c.start_of.ensures.adds.grows.extends (extends_twice _ _ _ c.longest_net.ensures.adds.grows.extends c.hold_registers.ensures.grows.extends)) (fitted_from _ _ c.args.from c.in_ok-count.count c.fit_bits.ensures.adds.grows.extends c.requires.from c.in_ok-count.ensures.net.is_net)

pub make_piece-requires-clause-registers : goal.make_piece-requires-clause-registers
make_piece-requires-clause-registers c = c.in_ok-registers.ensures.registers

pub make_piece-requires-clause-left : goal.make_piece-requires-clause-left
make_piece-requires-clause-left c = c.in_ok-registers.ensures.left

pub make_piece-requires-clause-enables : goal.make_piece-requires-clause-enables
make_piece-requires-clause-enables c = c.in_ok-registers.ensures.enables

pub make_piece-requires-clause-tag : goal.make_piece-requires-clause-tag
make_piece-requires-clause-tag c = c.in_ok-registers.ensures.tag

pub make_piece-requires-clause-start : goal.make_piece-requires-clause-start
make_piece-requires-clause-start c = record { is_net = (extends_twice _ _ _ c.longest_net.ensures.adds.grows.extends c.hold_registers.ensures.grows.extends).nets _ _ c.in_ok-start.ensures.net.is_net; has_width = sym c.in_ok-registers.ensures.next }

pub make_piece-requires-clause-longest : goal.make_piece-requires-clause-longest
make_piece-requires-clause-longest c = record { is_net = c.hold_registers.ensures.grows.extends.nets _ _ c.in_ok-longest.ensures.net.is_net; has_width = c.in_ok-longest.ensures.net.has_width ∙ sym c.in_ok-count.ensures.net.has_width ∙ sym c.in_ok-registers.ensures.left }

pub make_piece-requires-clause-most : goal.make_piece-requires-clause-most
make_piece-requires-clause-most c cycle v = c.in_ok-longest.ensures.value cycle (c.hold_registers.ensures.grows.extends.valuations cycle v)

pub below-requires-clause-piece : goal.below-requires-clause-piece
below-requires-clause-piece c = c.in_ok-piece.ensures.nets

pub below-requires-clause-word : goal.below-requires-clause-word
below-requires-clause-word c = (extends_twice _ _ _ c.fit_bits.ensures.adds.grows.extends (extends_twice _ _ _ c.start_of.ensures.adds.grows.extends (extends_twice _ _ _ c.longest_net.ensures.adds.grows.extends (extends_twice _ _ _ c.hold_registers.ensures.grows.extends c.make_piece.ensures.adds.grows.extends)))).nets _ _ c.requires.from.word

pub below-requires-clause-longest : goal.below-requires-clause-longest
below-requires-clause-longest c = record { is_net = (extends_twice _ _ _ c.hold_registers.ensures.grows.extends c.make_piece.ensures.adds.grows.extends).nets _ _ c.in_ok-longest.ensures.net.is_net; has_width = c.in_ok-longest.ensures.net.has_width ∙ sym c.in_ok-count.ensures.net.has_width ∙ sym c.in_ok-registers.ensures.left ∙ sym c.in_ok-piece.ensures.fits.left }

pub make_piece-requires-clause-way : goal.make_piece-requires-clause-way
make_piece-requires-clause-way c =
    is_way c.requires.widths.is c.lane_bits-lanes.result _ _ (let wide = c.in_ok-registers.ensures.next ∙ c.in_ok-start.ensures.net.has_width ∙ c.wide_bits-bits.ensures.value in omega (arith, wide)) (c.in_ok-registers.ensures.left ∙ c.in_ok-count.ensures.net.has_width)

pub below-requires-clause-way : goal.below-requires-clause-way
below-requires-clause-way c =
    is_way c.requires.widths.is c.lane_bits-lanes.result _ _ (let wide = c.in_ok-piece.ensures.fits.address ∙ c.in_ok-registers.ensures.next ∙ c.in_ok-start.ensures.net.has_width ∙ c.wide_bits-bits.ensures.value in omega (arith, wide))
    (c.in_ok-piece.ensures.fits.left ∙ c.in_ok-registers.ensures.left ∙ c.in_ok-count.ensures.net.has_width)

pub below-requires-clause-step : goal.below-requires-clause-step
below-requires-clause-step c cycle v =
    let way = c.args.self.now in
    subst (λ (p : Piece). p.step ≡ (if p.writes then 1 else reach_by way.place_bits (2 ^ c.lane_bits-lanes.result) way.below_bits p.address)) (sym (c.in_ok-piece.ensures.value cycle v)) refl

pub below-requires-clause-most : goal.below-requires-clause-most
below-requires-clause-most c cycle v =
    let v0 = c.make_piece.ensures.adds.grows.extends.valuations cycle v in
    c.in_ok-longest.ensures.value cycle (c.hold_registers.ensures.grows.extends.valuations cycle v0)

pub returns-clause-command : goal.returns-clause-command
returns-clause-command c = c.in_ok-to.ensures.command

pub returns-clause-widths : goal.returns-clause-widths
returns-clause-widths c =
    let exponent = exponent_is c.args.self.now.word_bytes c.lane_bits-lanes.result c.lane_bits-lanes.ensures.few c.lane_bits-lanes.ensures.power in
    let address : c.in_ok-to.to.address.width ≡ address_bits c.args.from.address.width c.args.self.now.count_bits c.lane_bits-lanes.result =
    c.in_ok-to.ensures.address ∙ c.in_ok-piece.ensures.fits.address ∙ c.in_ok-registers.ensures.next ∙ c.in_ok-start.ensures.net.has_width ∙ c.wide_bits-bits.ensures.value ∙ ap (λ n. address_bits n c.args.self.now.count_bits c.lane_bits-lanes.result) c.width-address_bits.ensures.value in
    let wide = address ∙ ap (λ n. address_bits c.args.from.address.width c.args.self.now.count_bits n) (sym exponent) in
    let word = c.in_ok-to.ensures.word in
    let enables = c.in_ok-to.ensures.enables ∙ c.in_ok-piece.ensures.fits.enables ∙ c.in_ok-registers.ensures.enables in
    let count = c.in_ok-to.ensures.count in
    let tag = c.in_ok-to.ensures.tag ∙ c.in_ok-piece.ensures.fits.tag ∙ c.in_ok-registers.ensures.tag in
    rw (wide, word, enables, count, tag) refl

pub returns-clause-kept : goal.returns-clause-kept
returns-clause-kept c =
    record {
      is = c.requires.widths.is;
      registers = registers_last _ _ _ (extends_twice _ _ _ c.make_piece.ensures.adds.grows.extends c.below.ensures.adds.grows.extends) c.in_ok-registers.ensures.registers;
      count = c.in_ok-registers.ensures.left ∙ c.in_ok-count.ensures.net.has_width;
      piece = piece_lasts _ _ _ c.below.ensures.adds.grows.extends c.in_ok-piece.ensures.nets;
      fits = c.in_ok-piece.ensures.fits;
      within = λ cycle v. (
          let v0 = c.below.ensures.adds.grows.extends.valuations cycle v in
          subst HasRoom (sym (c.in_ok-piece.ensures.value cycle v0)) (has_room (reach_by c.args.self.now.place_bits (2 ^ c.lane_bits-lanes.result) c.args.self.now.below_bits) (cycle.net c.in_ok-start.start.number) (raw_in cycle (record c.args.from { count = c.in_ok-count.count })) (held_in cycle c.in_ok-registers.registers)));
      waits = (let w = c.in_ok-registers.ensures.waits in record { start = w.start; numbers = w.numbers; wait = λ n o. c.below.ensures.adds.grows.waits n (c.make_piece.ensures.adds.grows.waits n (w.wait n o)) });
    }

pub returns-clause-owned : goal.returns-clause-owned
returns-clause-owned c n o =
    let count = c.in_ok-registers.ensures.count in
    let before = (extends_twice _ _ _ c.fit_bits.ensures.adds.grows.extends (extends_twice _ _ _ c.start_of.ensures.adds.grows.extends c.longest_net.ensures.adds.grows.extends)).count in
    let more = (extends_twice _ _ _ c.make_piece.ensures.adds.grows.extends c.below.ensures.adds.grows.extends).count in
    let at = in_row (length c.longest_net.new.builder.lines) (registers_of c.in_ok-registers.registers) c.in_ok-registers.ensures.numbers n o in
    let least = at.least in
    let below = at.below in
    (omega (arith, before, least), omega (arith, count, more, below))

pub returns-clause-made : goal.returns-clause-made
returns-clause-made c =
    record {
      is = c.requires.widths.is;
      from_nets = command_lasts _ _ _ (extends_twice _ _ _ c.fit_bits.ensures.adds.grows.extends (extends_twice _ _ _ c.start_of.ensures.adds.grows.extends (extends_twice _ _ _ c.longest_net.ensures.adds.grows.extends (extends_twice _ _ _ c.hold_registers.ensures.grows.extends (extends_twice _ _ _ c.make_piece.ensures.adds.grows.extends c.below.ensures.adds.grows.extends))))) c.requires.from;
      count = c.requires.widths.count;
      address = (
          let exponent = exponent_is c.args.self.now.word_bytes c.lane_bits-lanes.result c.lane_bits-lanes.ensures.few c.lane_bits-lanes.ensures.power in
          c.in_ok-registers.ensures.next ∙ c.in_ok-start.ensures.net.has_width ∙ c.wide_bits-bits.ensures.value ∙ ap₂ (λ n k. address_bits n c.args.self.now.count_bits k) c.width-address_bits.ensures.value (sym exponent));
      starts = λ run cycles r. c.in_ok-registers.ensures.starts run cycles ((extends_twice _ _ _ c.make_piece.ensures.adds.grows.extends c.below.ensures.adds.grows.extends).runs run cycles r);
      piece = λ cycle v. (
          let v3 = c.below.ensures.adds.grows.extends.valuations cycle v in
          let v2 = c.make_piece.ensures.adds.grows.extends.valuations cycle v3 in
          let v1 = c.hold_registers.ensures.grows.extends.valuations cycle v2 in
          let v0 = c.longest_net.ensures.adds.grows.extends.valuations cycle v1 in
          let fit = c.start_of.ensures.adds.grows.extends.valuations cycle v0 in
          let before = c.fit_bits.ensures.adds.grows.extends.valuations cycle fit in
          let same = c.in_ok-count.ensures.value cycle fit ∙ fits_more (cycle.net c.args.from.count.number) c.args.from.count.width c.args.self.now.count_bits (net_fits _ c.args.from.count c.requires.from.count cycle before) c.requires.widths.count in
          c.in_ok-piece.ensures.value cycle v3
          ∙ ap (λ n. piece_from (reach_by c.args.self.now.place_bits (2 ^ c.lane_bits-lanes.result) c.args.self.now.below_bits) (cycle.net c.in_ok-start.start.number) (counted (raw_in cycle c.args.from) n) (held_in cycle c.in_ok-registers.registers)) same
          ∙ ap (λ b. piece_from (reach_by c.args.self.now.place_bits b c.args.self.now.below_bits) (cycle.net c.in_ok-start.start.number) (raw_in cycle c.args.from) (held_in cycle c.in_ok-registers.registers)) (sym c.lane_bits-lanes.ensures.power)
          ∙ ap (λ n. piece_from (reach_by c.args.self.now.place_bits c.args.self.now.word_bytes c.args.self.now.below_bits) n (raw_in cycle c.args.from) (held_in cycle c.in_ok-registers.registers))
          (c.in_ok-start.ensures.value cycle v0 ∙ ap (λ b. cycle.net c.args.from.address.number - cycle.net c.args.from.address.number % b) (sym c.lane_bits-lanes.ensures.power)));
      shows = λ cycle v. c.in_ok-to.ensures.value cycle v;
    }

pub returns-clause-own_wait : goal.returns-clause-own_wait
returns-clause-own_wait c n o = c.below.ensures.adds.grows.waits n (c.make_piece.ensures.adds.grows.waits n (c.in_ok-registers.ensures.waits.wait n o))

pub returns-clause-newly : goal.returns-clause-newly
returns-clause-newly c n w =
    elim (c.in_ok-registers.ensures.newly n (c.make_piece.ensures.adds.grows.no_more_wait n (c.below.ensures.adds.grows.no_more_wait n w))) [
      | inl old ↦ inl (c.fit_bits.ensures.adds.grows.no_more_wait n (c.start_of.ensures.adds.grows.no_more_wait n (c.longest_net.ensures.adds.grows.no_more_wait n old)))
      | inr p ↦ inr p
    ]

pub returns-in_err-piece-clause-grows : goal.returns-in_err-piece-clause-grows
returns-in_err-piece-clause-grows c =
    let two = fits_in_two c.width-bits.result c.args.self.now.count_bits in
    grows_fewer _ _ _ _ (omega (arith, two)) (grows_twice _ _ _ _ _ (grows_twice _ _ _ _ _ (grows_twice _ _ _ _ _ (grows_twice _ _ _ _ _ (adds_grow _ _ _ c.fit_bits.ensures.adds) (adds_grow _ _ _ c.start_of.ensures.adds)) (adds_grow _ _ _ c.longest_net.ensures.adds)) c.hold_registers.ensures.grows) (adds_grow _ _ _ c.make_piece.ensures.adds))

pub returns-in_err-to-clause-grows : goal.returns-in_err-to-clause-grows
returns-in_err-to-clause-grows c =
    let two = fits_in_two c.width-bits.result c.args.self.now.count_bits in
    grows_fewer _ _ _ _ (omega (arith, two)) (grows_twice _ _ _ _ _ (grows_twice _ _ _ _ _ (grows_twice _ _ _ _ _ (grows_twice _ _ _ _ _ (grows_twice _ _ _ _ _ (adds_grow _ _ _ c.fit_bits.ensures.adds) (adds_grow _ _ _ c.start_of.ensures.adds)) (adds_grow _ _ _ c.longest_net.ensures.adds)) c.hold_registers.ensures.grows) (adds_grow _ _ _ c.make_piece.ensures.adds)) (adds_grow _ _ _ c.below.ensures.adds))

pub returns-clause-grows : goal.returns-clause-grows
returns-clause-grows c =
    let two = fits_in_two c.width-bits.result c.args.self.now.count_bits in
    grows_fewer _ _ _ _ (omega (arith, two)) (grows_twice _ _ _ _ _ (grows_twice _ _ _ _ _ (grows_twice _ _ _ _ _ (grows_twice _ _ _ _ _ (grows_twice _ _ _ _ _ (adds_grow _ _ _ c.fit_bits.ensures.adds) (adds_grow _ _ _ c.start_of.ensures.adds)) (adds_grow _ _ _ c.longest_net.ensures.adds)) c.hold_registers.ensures.grows) (adds_grow _ _ _ c.make_piece.ensures.adds)) (adds_grow _ _ _ c.below.ensures.adds))

pub returns-in_err-to-clause-waits : goal.returns-in_err-to-clause-waits
returns-in_err-to-clause-waits c n w = c.below.ensures.adds.grows.waits n (c.make_piece.ensures.adds.grows.waits n (c.hold_registers.ensures.still_wait n (c.longest_net.ensures.adds.grows.waits n (c.start_of.ensures.adds.grows.waits n (c.fit_bits.ensures.adds.grows.waits n w)))))

pub returns-clause-waits : goal.returns-clause-waits
returns-clause-waits c n w = c.below.ensures.adds.grows.waits n (c.make_piece.ensures.adds.grows.waits n (c.hold_registers.ensures.still_wait n (c.longest_net.ensures.adds.grows.waits n (c.start_of.ensures.adds.grows.waits n (c.fit_bits.ensures.adds.grows.waits n w)))))
