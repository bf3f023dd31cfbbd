-- Between their nets the links of a pair run as their machines.
use Rattle.std.proofs.Common.{◌≡◌, ℕ, zero, suc, ◌+◌, ◌-◌, ◌*◌, ◌/◌, ◌^◌, ◌<◌, ◌≤◌, max, not, ◌&&◌, Bool, true, false, if◌then◌else◌, nat_eq, nat_lt, Option, List, refl, sym, subst, ap, ◌∙◌, arith}
use Rattle.std.proofs.lemmas.Bool.{ne_eqb, false≢true, true≢false}
use Rattle.std.proofs.lemmas.Nat.{pow_pos}
use Rattle.std.proofs.Math.Nat.{mul_left_comm, mod-lt, mul-div_cancel}
use Rattle.iface_roles.specs.declared.records.HostPort.{HostPort}
use Rattle.iface_roles.specs.declared.records.AgentPort.{AgentPort}
use Rattle.iface_roles.specs.Proper.{IsWordSize}
use Rattle.memory_runs.specs.Sides.{burst_width}
use Rattle.netlist.specs.Nets.{NetValue}
use Rattle.netlist.specs.Netlists.{Netlist}
use Rattle.netlist.specs.Runs.{Run, IsEndlessRun, cycle_of}
use Rattle.netlist.specs.Longer.{Extends}
use Rattle.net_parts.specs.Laws.{extends_twice}
use Rattle.memory_machines.specs.Link.{Target, Port}
use Rattle.memory_links.specs.Cutters.{IsCutPlan, IsTouchPlan, reach_longest, reach_words, cut_form}
use Rattle.memory_links.specs.Drops.{drop_form}
use Rattle.memory_links.specs.Gathers.{GatherState, RunsAsGather, IsGatherPlan, gather_form}
use Rattle.memory_links.specs.Links.{pass_form}
use Rattle.memory_links.specs.Selects.{RunsAsSelect, IsSelectPlan, select_form}
use Rattle.memory_links.specs.Splits.{SplitState, RunsAsSplit, split_form}
use Rattle.memory_machines.specs.Machines.{MaySplit}
use Rattle.memory_awake.specs.Rows.{IsWired, CutsBursts, FitsWords, DropsBeats, CutsAtWords, GathersBelowCut, drops_some}
use Rattle.memory_awake.specs.Rows.CutsBursts.{cutter, no_cutter}
use Rattle.memory_awake.specs.Rows.FitsWords.{selector, gatherer, splitter, no_width}
use Rattle.memory_awake.specs.Rows.DropsBeats.{dropper, no_dropper}
use Rattle.memory_awake.specs.Packed.{RowPacks}
use Rattle.memory_runs.specs.Commands.{longest_burst}
use Rattle.command_nets.specs.declared.nets.CommandNets.{CommandNets}
use Rattle.command_nets.specs.declared.nets.AnswerNets.{AnswerNets}
use Rattle.command_nets.specs.Nets.{port_in}
use Rattle.link_core.specs.Form.{Form}
use Rattle.link_core.specs.Lines.{with_tag}
use Rattle.link_core.specs.PassNets.{IsPassForm}
use Rattle.link_core.specs.MaybeNets.{form_of, runs_of, command_of, answer_of}
use Rattle.mm_burst.specs.declared.cutter.Cutter.{Cutter}
use Rattle.mm_burst.specs.declared.cutter.CutterKept.{CutterKept}
use Rattle.mm_burst.specs.CutterNets.{IsCutterForm, CutterRuns}
use Rattle.mm_burst.specs.Pieces.{reach_by, longest_by}
use Rattle.mm_select.specs.declared.select.Select.{Select}
use Rattle.mm_select.specs.declared.select.SelectKept.{SelectKept}
use Rattle.mm_select.specs.SelectNets.{IsSelectForm, SelectRuns}
use Rattle.mm_gather.specs.declared.gather.Gather.{Gather}
use Rattle.mm_gather.specs.declared.gather.GatherKept.{GatherKept}
use Rattle.mm_gather.specs.GatherNets.{IsGatherForm, GatherRuns}
use Rattle.mm_split.specs.declared.split.Split.{Split}
use Rattle.mm_split.specs.declared.split.SplitKept.{SplitKept}
use Rattle.mm_split.specs.SplitNets.{IsSplitForm, SplitRuns}
use Rattle.mm_drop.specs.declared.dropper.Dropper.{Dropper}
use Rattle.mm_drop.specs.declared.dropper.DropperKept.{DropperKept}
use Rattle.mm_drop.specs.Form.{IsDropForm, DropRuns}
use Rattle.mm_width.specs.Pairs.{MayMeet, BearsOneTag, packs, selects, place_bits, needs_drop, bits_cut, needs_cut, cutter_between}
use Rattle.mm_width.specs.Links.{Width, reads_below, reads_above, cutter_if, selector_if, gatherer_if, splitter_if, dropper_if, width_of}
use Rattle.mm_width.specs.Kept.{WidthKept, WidthCommand, WidthAnswer, cutter_command, select_command, gather_command, split_command, drop_command, cutter_answer, select_answer, gather_answer, split_answer, drop_answer, command_lasts, answer_lasts}
use Rattle.mm_width.specs.Widths.{IsTargetOf, WidthInLonger, inner_shape, command_below}
use Rattle.mm_width.proofs.Bursts.{by_words, bits_below, bits_low, same_below, single_low, no_longer_low, words_differ, beats_dropped, some_cut, places_cut, places_of, packed_cut, uncut}
use Rattle.mm_width.proofs.Rooms.{below_some, above_some, either_some, two_at_least}
use Rattle.mm_width.proofs.Tags.{ShowsTags, cutter_shows_tags, retagged_cutter, select_shows_tags, retagged_select, gather_shows_tags, retagged_gather, split_shows_tags, retagged_split, retagged_drop}

-- ---- word sizes

record IsTimes (small large : ℕ) : Type 0 where
  many : ℕ
  more : 1 < many
  whole : large ≡ many * small

power : (a : ℕ) → 2 ^ suc a ≡ 2 * 2 ^ a
power a = omega arith

twice : (many a b : ℕ) → b ≡ many * a → 2 * b ≡ many * (2 * a)
twice many a b e = ap (λ k. 2 * k) e ∙ mul_left_comm 2 many a

times : (a b : ℕ) → 2 ^ a < 2 ^ b → IsTimes (2 ^ a) (2 ^ b)
times zero zero h = absurd (omega (arith, h))
times zero (suc b) h = record { many = 2 ^ suc b; more = h; whole = omega arith }
times (suc a) zero h = let some = pow_pos a in absurd (omega (arith, h, some))
times (suc a) (suc b) h =
    let rest = times a b (omega (arith, h)) in
    record { many = rest.many; more = rest.more; whole = power b ∙ twice rest.many (2 ^ a) (2 ^ b) rest.whole ∙ ap (λ k. rest.many * k) (sym (power a)) }

times_of : (small large : ℕ) → IsWordSize small → IsWordSize large → small < large → IsTimes small large
times_of small large s l less =
    let h : 2 ^ s.exponent < 2 ^ l.exponent = subst (λ k. k < 2 ^ l.exponent) s.power (subst (λ k. small < k) l.power less) in
    subst (λ k. IsTimes k large) (sym s.power) (subst (λ k. IsTimes (2 ^ s.exponent) k) (sym l.power) (times s.exponent l.exponent h))

word_some : (bytes : ℕ) → IsWordSize bytes → 0 < bytes
word_some bytes s = subst (λ k. 0 < k) (sym s.power) (pow_pos s.exponent)

-- ---- what each law gives

abbrev pub CutLaw : Option Cutter → Type 0
CutLaw link =
    (form : Form) (from to : CommandNets) (kept : Option CutterKept) (wait up : NetValue) (answer back : AnswerNets) (netlist : Netlist)
    → form_of IsCutterForm link form → command_of cutter_command link from to kept netlist → answer_of cutter_answer link kept wait answer up back netlist
    → (run : Run) → IsEndlessRun netlist run → runs_of CutterRuns link form.link.target (port_in form.up run from up back) (port_in form.down run to wait answer)

abbrev pub SelectLaw : Option Select → Type 0
SelectLaw link =
    (form : Form) (from to : CommandNets) (kept : Option SelectKept) (wait up : NetValue) (answer back : AnswerNets) (netlist : Netlist)
    → form_of IsSelectForm link form → command_of select_command link from to kept netlist → answer_of select_answer link kept wait answer up back netlist
    → (run : Run) → IsEndlessRun netlist run → runs_of SelectRuns link form.link.target (port_in form.up run from up back) (port_in form.down run to wait answer)

abbrev pub GatherLaw : Option Gather → Type 0
GatherLaw link =
    (form : Form) (from to : CommandNets) (kept : Option GatherKept) (wait up : NetValue) (answer back : AnswerNets) (netlist : Netlist)
    → form_of IsGatherForm link form → command_of gather_command link from to kept netlist → answer_of gather_answer link kept wait answer up back netlist
    → (run : Run) → IsEndlessRun netlist run → runs_of GatherRuns link form.link.target (port_in form.up run from up back) (port_in form.down run to wait answer)

abbrev pub SplitLaw : Option Split → Type 0
SplitLaw link =
    (form : Form) (from to : CommandNets) (kept : Option SplitKept) (wait up : NetValue) (answer back : AnswerNets) (netlist : Netlist)
    → form_of IsSplitForm link form → command_of split_command link from to kept netlist → answer_of split_answer link kept wait answer up back netlist
    → (run : Run) → IsEndlessRun netlist run → runs_of SplitRuns link form.link.target (port_in form.up run from up back) (port_in form.down run to wait answer)

abbrev pub DropLaw : Option Dropper → Type 0
DropLaw link =
    (form : Form) (from to : CommandNets) (kept : Option DropperKept) (wait up : NetValue) (answer back : AnswerNets) (netlist : Netlist)
    → form_of (λ s form. IsDropForm s.word_bytes s.reads form) link form → command_of drop_command link from to kept netlist → answer_of drop_answer link kept wait answer up back netlist
    → (run : Run) → IsEndlessRun netlist run → runs_of (λ s target above below. DropRuns s.reads target above below) link form.link.target (port_in form.up run from up back) (port_in form.down run to wait answer)

-- between these two sides, in whatever shapes they have
abbrev Cuts : Option Cutter → (Form → Port) → (Form → Port) → Type 0
Cuts link up down = (form : Form) → form_of IsCutterForm link form → runs_of CutterRuns link form.link.target (up form) (down form)

abbrev Selects : Option Select → (Form → Port) → (Form → Port) → Type 0
Selects link up down = (form : Form) → form_of IsSelectForm link form → runs_of SelectRuns link form.link.target (up form) (down form)

abbrev Gathers : Option Gather → (Form → Port) → (Form → Port) → Type 0
Gathers link up down = (form : Form) → form_of IsGatherForm link form → runs_of GatherRuns link form.link.target (up form) (down form)

abbrev Splits : Option Split → (Form → Port) → (Form → Port) → Type 0
Splits link up down = (form : Form) → form_of IsSplitForm link form → runs_of SplitRuns link form.link.target (up form) (down form)

abbrev Drops : Option Dropper → (Form → Port) → (Form → Port) → Type 0
Drops link up down = (form : Form) → form_of (λ s form. IsDropForm s.word_bytes s.reads form) link form → runs_of (λ s target above below. DropRuns s.reads target above below) link form.link.target (up form) (down form)

-- ---- how bursts are cut

-- a cutter's plan, whether it cuts at the ends of wide words or not
cut_plan : (bytes places wide below : ℕ) → 0 < bytes → 1 ≤ below → (nat_eq places 0 ≡ false → below ≡ places + 1) → IsCutPlan (reach_by places bytes below) (longest_by places below) (inner_shape bytes wide) (inner_shape bytes below)
cut_plan bytes places wide below some left at = by (nat_eq places 0) refl
  where
    by : (none : Bool) → nat_eq places 0 ≡ none → IsCutPlan (if none then reach_longest (longest_burst below) else reach_words bytes (2 ^ places)) (if none then longest_burst below else 1) (inner_shape bytes wide) (inner_shape bytes below)
    by true n = record { some = some; same = refl; bytes = refl; least = pow_pos (below - 1); most = omega arith; goes = λ address. pow_pos (below - 1); allowed = λ address. omega arith }
    by false n =
        let is = at n in
        let size : 2 ^ (below - 1) ≡ 2 ^ places = ap (λ k. 2 ^ k) (omega (arith, is)) in
        let more = pow_pos (below - 1) in
        record {
          some = some;
          same = refl;
          bytes = refl;
          least = omega arith;
          most = omega (arith, more);
          goes = λ address. (let rest = mod-lt (address / bytes) {m = 2 ^ places} (pow_pos places) in omega (arith, rest));
          allowed = λ address. omega (arith, size);
        }

-- where there are places, at the ends of wide words
touch_plan : (bytes places wide below : ℕ) → 0 < bytes → below ≡ places + 1 → IsTouchPlan (2 ^ places) (inner_shape bytes wide) (inner_shape bytes below)
touch_plan bytes places wide below some is =
    let size : 2 ^ (below - 1) ≡ 2 ^ places = ap (λ k. 2 ^ k) (omega (arith, is)) in
    record { some = some; same = refl; bytes = refl; more = pow_pos places; most = omega (arith, size) }

many_is : (many other bytes wide : ℕ) → 0 < bytes → wide ≡ many * bytes → wide ≡ other * bytes → many ≡ other
many_is many other bytes wide some one two = sym (mul-div_cancel many some) ∙ ap (λ n. n / bytes) (sym one ∙ two) ∙ mul-div_cancel other some

abbrev IsUncut : {up down : Port} → CutsBursts up down → Type 0
IsUncut (cutter reach longest state plan run) = ⊥
IsUncut (no_cutter wired) = Unit {0}

-- a gatherer packs, and where the host's word is not the smaller one nothing is asked
gatherer_packs : {target : Target} {top middle low : Port} (cuts : CutsBursts top middle) (many room : ℕ) (state : GatherState) (plan : IsGatherPlan target middle.shape low.shape many) (deep : 1 < room) (run : RunsAsGather room middle low state) →
    RowPacks cuts (gatherer many room state plan deep run)
gatherer_packs {target} {top} {middle} {low} (cutter reach longest kept may cut) many room state plan deep run = tt
gatherer_packs {target} {top} {middle} {low} (no_cutter wired) many room state plan deep run = tt

splitter_packs : {target : Target} {top middle low : Port} (cuts : CutsBursts top middle) (count room : ℕ) (state : SplitState) (plan : MaySplit target middle.shape low.shape count) (some : 0 < room) (run : RunsAsSplit room middle low state) →
    RowPacks cuts (splitter count room state plan some run)
splitter_packs {target} {top} {middle} {low} (cutter reach longest kept may cut) count room state plan some run = tt
splitter_packs {target} {top} {middle} {low} (no_cutter wired) count room state plan some run = tt

wire_packs : (target : Target) {top middle low : Port} (cuts : CutsBursts top middle) (wired : IsWired middle low) → RowPacks {target = target} cuts (no_width wired)
wire_packs target {top} {middle} {low} (cutter reach longest kept may cut) wired = tt
wire_packs target {top} {middle} {low} (no_cutter other) wired = tt

selector_packs : {target : Target} {top middle low : Port} (cuts : CutsBursts top middle) → IsUncut cuts → (many room : ℕ) (offsets : ℕ → List ℕ) (plan : IsSelectPlan target middle.shape low.shape many) (deep : 1 < room) (run : RunsAsSelect room middle low offsets) →
    RowPacks cuts (selector many room offsets plan deep run)
selector_packs {target} {top} {middle} {low} (cutter reach longest kept may cut) u many room offsets plan deep run = absurd u
selector_packs {target} {top} {middle} {low} (no_cutter wired) u many room offsets plan deep run = tt

-- ---- in one run

no_enables : (host agent : Bool) → (host && not agent) ≡ true → agent ≡ false
no_enables true true e = absurd (cc)
no_enables true false e = refl
no_enables false agent e = absurd (cc)

module _ (host : HostPort) (agent : AgentPort) (stages : ℕ) (pair : MayMeet host agent) (target : Target) (is : IsTargetOf agent target) (run : Run)
    (from cut wid mid low to : CommandNets) (up over high first second wait : NetValue) (back outer between upper lower answer : AnswerNets) where
  abbrev high_at : ℕ → Port
  high_at bits = port_in (inner_shape host.word_bytes bits) run from up back

  -- below the cutter
  abbrev cut_at : ℕ → ℕ → Port
  cut_at bytes bits = port_in (inner_shape bytes bits) run cut over outer

  -- below a lane selector
  abbrev wid_at : ℕ → ℕ → Port
  wid_at bytes bits = port_in (inner_shape bytes bits) run wid high between

  -- below a gatherer
  abbrev mid_at : ℕ → ℕ → Port
  mid_at bytes bits = port_in (inner_shape bytes bits) run mid first upper

  abbrev low_at : ℕ → ℕ → Port
  low_at bytes bits = port_in (inner_shape bytes bits) run low second lower

  abbrev to_at : ℕ → Port
  to_at bits = port_in (inner_shape agent.word_bytes bits) run to wait answer

  abbrev tags : ℕ → ℕ
  tags c = run.net c from.tag.number

  -- where no link stands
  abbrev pass_between : ℕ → ℕ → Form
  pass_between bytes bits = record { up = inner_shape bytes bits; down = inner_shape bytes bits; link = pass_form target }

  host_some : 0 < host.word_bytes
  host_some = word_some host.word_bytes pair.host_word

  agent_some : 0 < agent.word_bytes
  agent_some = word_some agent.word_bytes pair.agent_word

  -- bursts are cut at this port, with the tags from above
  record AreCut (port : Port) : Type 0 where
    cuts : CutsBursts (high_at (burst_width host.burst_bits)) (with_tag tags port)
    at_words : packs host agent ≡ true → CutsAtWords (2 ^ place_bits host agent) cuts
    whole : needs_cut host agent ≡ false → IsUncut cuts
    shows : ShowsTags tags port

  abbrev cuts_with : Cutter
  cuts_with = cutter_between host agent

  cut_form_has : IsCutterForm cuts_with (record { up = inner_shape host.word_bytes (burst_width host.burst_bits); down = inner_shape host.word_bytes (bits_cut host agent); link = cut_form target })
  cut_form_has = record { plan = cut_plan host.word_bytes (place_bits host agent) (burst_width host.burst_bits) (bits_cut host agent) host_some (some_cut host agent) (places_cut host agent); words = refl; bytes = refl; is = refl }

  cut_by : (cuts : Bool) → cuts ≡ needs_cut host agent → (tag : ℕ) → ((c : ℕ) → tags c ≡ tag) → Cuts (cutter_if cuts host agent) (λ form. port_in form.up run from up back) (λ form. port_in form.down run cut over outer) →
      AreCut (cut_at host.word_bytes (if cuts then bits_cut host agent else burst_width host.burst_bits))
  cut_by true c tag bears cuts =
      let runs : CutterRuns cuts_with target (high_at (burst_width host.burst_bits)) (cut_at host.word_bytes (bits_cut host agent)) = cuts _ cut_form_has in
      record {
        cuts = cutter _ _ runs.state runs.plan (retagged_cutter tag _ _ bears _ _ runs.state runs.run);
        at_words = λ p. (
            let places = (places_of host agent pair p).some in
            let some : nat_eq (place_bits host agent) 0 ≡ false = ne_eqb (place_bits host agent) 0 (λ e. omega (arith, e, places)) in (
              touch_plan host.word_bytes (place_bits host agent) (burst_width host.burst_bits) (bits_cut host agent) host_some (places_cut host agent some),
              ap (λ (none : Bool). if none then reach_longest (longest_burst (bits_cut host agent)) else reach_words host.word_bytes (2 ^ place_bits host agent)) some,
              ap (λ (none : Bool). if none then longest_burst (bits_cut host agent) else 1) some,
            ));
        whole = λ none. absurd (true≢false (c ∙ none));
        shows = cutter_shows_tags tag _ _ bears _ _ runs.state runs.run;
      }
  cut_by false c tag bears cuts =
      let bits = burst_width host.burst_bits in
      let same : high_at bits ≡ cut_at host.word_bytes bits = cuts (pass_between host.word_bytes bits) (record { same = refl; is = refl; some = host_some }) in
      subst AreCut same (record {
        cuts = no_cutter (record { wire = record { same = refl; longer = omega arith }; some = host_some });
        at_words = λ p. absurd (false≢true (c ∙ packed_cut host agent p));
        whole = λ none. tt;
        shows = λ c s. refl;
      })

  -- words fit at this port, with the tags from above
  record AreFit (bits : ℕ) (above : AreCut (cut_at host.word_bytes bits)) (port : Port) : Type 0 where
    fits : FitsWords target (with_tag tags (cut_at host.word_bytes bits)) (with_tag tags port)
    gathered : GathersBelowCut above.cuts fits
    packed : RowPacks above.cuts fits
    shows : ShowsTags tags port

  abbrev selects_with : Select
  selects_with = record { narrow_bytes = host.word_bytes; wide_bytes = agent.word_bytes; reads = max (reads_above host agent stages) 2 }

  abbrev gathers_with : Gather
  gathers_with = record { narrow_bytes = host.word_bytes; wide_bytes = agent.word_bytes; reads = reads_below agent stages + 1 }

  abbrev splits_with : Split
  splits_with = record { wide_bytes = host.word_bytes; narrow_bytes = agent.word_bytes; reads = reads_above host agent stages; all_lanes = not host.enables }

  select_plan : (bits : ℕ) → bits ≡ 1 → host.word_bytes < agent.word_bytes → IsSelectForm selects_with (record { up = inner_shape host.word_bytes bits; down = inner_shape agent.word_bytes bits; link = select_form target })
  select_plan bits single less =
      let t = times_of host.word_bytes agent.word_bytes pair.host_word pair.agent_word less in
      record {
        many = t.many;
        plan = record { some = host_some; more = t.more; whole = t.whole; same = sym is.words; bytes = refl; enables = is.enables ∙ pair.lanes less; one_beat = single; one_beat_below = single };
        narrow = refl;
        wide = refl;
        bytes = refl;
        is = refl;
        deep = two_at_least (reads_above host agent stages);
      }

  gather_plan : (bits low : ℕ) → host.word_bytes < agent.word_bytes → IsGatherForm gathers_with (record { up = inner_shape host.word_bytes bits; down = inner_shape agent.word_bytes low; link = gather_form target })
  gather_plan bits low less =
      let t = times_of host.word_bytes agent.word_bytes pair.host_word pair.agent_word less in
      let some = below_some agent stages in
      record {
        many = t.many;
        plan = record { some = host_some; more = t.more; whole = t.whole; same = sym is.words; bytes = refl; enables = is.enables ∙ pair.lanes less };
        narrow = refl;
        wide = refl;
        bytes = refl;
        is = refl;
        deep = omega (arith, some);
      }

  split_plan : (bits : ℕ) → bits ≡ 1 → agent.word_bytes < host.word_bytes → IsSplitForm splits_with (record { up = inner_shape host.word_bytes bits; down = inner_shape agent.word_bytes bits; link = split_form target })
  split_plan bits single less =
      let t = times_of agent.word_bytes host.word_bytes pair.agent_word pair.host_word less in
      let more = t.more in
      record {
        count = t.many;
        plan = record { bytes = refl; some = agent_some; same = sym is.words; one = omega (arith, more); whole = t.whole; one_beat = single };
        wide = refl;
        narrow = refl;
        bytes = refl;
        is = refl;
        some = above_some host agent stages;
      }

  abbrev Fits : (bits left : ℕ) → AreCut (cut_at host.word_bytes bits) → Bool → Bool → Bool → Type 0
  Fits bits left above selected gathered wider =
      Selects (selector_if selected host agent stages) (λ form. port_in form.up run cut over outer) (λ form. port_in form.down run wid high between) →
      Gathers (gatherer_if gathered host agent stages) (λ form. port_in form.up run wid high between) (λ form. port_in form.down run mid first upper) →
      Splits (splitter_if wider host agent stages) (λ form. port_in form.up run mid first upper) (λ form. port_in form.down run low second lower) → AreFit bits above (low_at agent.word_bytes left)

  pass_ends : (bytes bits : ℕ) → 0 < bytes → IsPassForm (pass_between bytes bits)
  pass_ends bytes bits some = record { same = refl; is = refl; some = some }

  select_fits : (bits left : ℕ) (above : AreCut (cut_at host.word_bytes bits)) → host.word_bytes < agent.word_bytes → bits ≡ 1 → bits ≡ left → IsUncut above.cuts → Fits bits left above true false false
  select_fits bits left above less single low_is whole selecting gathering splitting =
      let runs : SelectRuns selects_with target (cut_at host.word_bytes bits) (wid_at agent.word_bytes bits) = selecting _ (select_plan bits single less) in
      let one : wid_at agent.word_bytes bits ≡ mid_at agent.word_bytes bits = gathering (pass_between agent.word_bytes bits) (pass_ends agent.word_bytes bits agent_some) in
      let two : mid_at agent.word_bytes bits ≡ low_at agent.word_bytes bits = splitting (pass_between agent.word_bytes bits) (pass_ends agent.word_bytes bits agent_some) in
      subst (λ n. AreFit bits above (low_at agent.word_bytes n)) low_is
      (subst (AreFit bits above) (one ∙ two) (record {
        fits = selector runs.many _ runs.offsets runs.plan runs.some (retagged_select tags _ _ _ runs.offsets runs.run);
        gathered = tt;
        packed = selector_packs above.cuts whole runs.many _ runs.offsets runs.plan runs.some (retagged_select tags _ _ _ runs.offsets runs.run);
        shows = select_shows_tags tags _ _ _ runs.offsets runs.run above.shows;
      }))

  gather_fits : (bits left : ℕ) (above : AreCut (cut_at host.word_bytes bits)) → host.word_bytes < agent.word_bytes → packs host agent ≡ true → Fits bits left above false true false
  gather_fits bits left above less p selecting gathering splitting =
      let one : cut_at host.word_bytes bits ≡ wid_at host.word_bytes bits = selecting (pass_between host.word_bytes bits) (pass_ends host.word_bytes bits host_some) in
      let below : GatherRuns gathers_with target (wid_at host.word_bytes bits) (mid_at agent.word_bytes left) = gathering _ (gather_plan bits left less) in
      let runs = subst (λ (p : Port). GatherRuns gathers_with target p (mid_at agent.word_bytes left)) (sym one) below in
      let two : mid_at agent.word_bytes left ≡ low_at agent.word_bytes left = splitting (pass_between agent.word_bytes left) (pass_ends agent.word_bytes left agent_some) in
      let many : 2 ^ place_bits host agent ≡ runs.many = many_is (2 ^ place_bits host agent) runs.many host.word_bytes agent.word_bytes host_some (places_of host agent pair p).whole runs.plan.whole in
      subst (AreFit bits above) two (record {
        fits = gatherer runs.many _ runs.state runs.plan runs.some (retagged_gather tags _ _ _ runs.state runs.run);
        gathered = subst (λ n. CutsAtWords n above.cuts) many (above.at_words p);
        packed = gatherer_packs above.cuts runs.many _ runs.state runs.plan runs.some (retagged_gather tags _ _ _ runs.state runs.run);
        shows = gather_shows_tags tags _ _ _ runs.state runs.run above.shows;
      })

  split_fits : (bits left : ℕ) (above : AreCut (cut_at host.word_bytes bits)) → agent.word_bytes < host.word_bytes → bits ≡ 1 → bits ≡ left → Fits bits left above false false true
  split_fits bits left above less single low_is selecting gathering splitting =
      let one : cut_at host.word_bytes bits ≡ wid_at host.word_bytes bits = selecting (pass_between host.word_bytes bits) (pass_ends host.word_bytes bits host_some) in
      let two : wid_at host.word_bytes bits ≡ mid_at host.word_bytes bits = gathering (pass_between host.word_bytes bits) (pass_ends host.word_bytes bits host_some) in
      let below : SplitRuns splits_with target (mid_at host.word_bytes bits) (low_at agent.word_bytes bits) = splitting _ (split_plan bits single less) in
      let runs = subst (λ (p : Port). SplitRuns splits_with target p (low_at agent.word_bytes bits)) (sym (one ∙ two)) below in
      subst (λ n. AreFit bits above (low_at agent.word_bytes n)) low_is (record {
        fits = splitter runs.count _ runs.state runs.plan runs.some (retagged_split tags _ _ _ runs.state runs.run above.shows);
        gathered = tt;
        packed = splitter_packs above.cuts runs.count _ runs.state runs.plan runs.some (retagged_split tags _ _ _ runs.state runs.run above.shows);
        shows = split_shows_tags tags _ _ _ runs.state runs.run above.shows;
      })

  same_fits : (bits left : ℕ) (above : AreCut (cut_at host.word_bytes bits)) → host.word_bytes ≡ agent.word_bytes → bits ≡ left → Fits bits left above false false false
  same_fits bits left above equal low_is selecting gathering splitting =
      let one : cut_at host.word_bytes bits ≡ wid_at host.word_bytes bits = selecting (pass_between host.word_bytes bits) (pass_ends host.word_bytes bits host_some) in
      let two : wid_at host.word_bytes bits ≡ mid_at host.word_bytes bits = gathering (pass_between host.word_bytes bits) (pass_ends host.word_bytes bits host_some) in
      let three : mid_at host.word_bytes bits ≡ low_at host.word_bytes bits = splitting (pass_between host.word_bytes bits) (pass_ends host.word_bytes bits host_some) in
      let wired : IsWired (with_tag tags (cut_at host.word_bytes bits)) (with_tag tags (cut_at host.word_bytes bits)) = record { wire = record { same = refl; longer = omega arith }; some = host_some } in
      subst (λ n. AreFit bits above (low_at agent.word_bytes n)) low_is (subst (λ bytes. AreFit bits above (low_at bytes bits)) equal
      (subst (AreFit bits above) (one ∙ two ∙ three) (record { fits = no_width wired; gathered = tt; packed = wire_packs target above.cuts wired; shows = above.shows })))

  fit_by : (above : AreCut (cut_at host.word_bytes (bits_below host agent))) → Fits (bits_below host agent) (bits_low host agent) above (selects host agent) (packs host agent) (nat_lt agent.word_bytes host.word_bytes)
  fit_by above =
      let bits = bits_below host agent in
      let left = bits_low host agent in
      let single : packs host agent ≡ false → (host.word_bytes ≡ agent.word_bytes → ⊥) → bits ≡ 1 = λ plain differ. same_below host agent plain ∙ single_low host agent (words_differ host agent differ) in
      by_words host agent (Fits bits left above)
      (λ less one plain. select_fits bits left above less (single plain (λ e. omega (arith, e, less))) (same_below host agent plain) (above.whole (uncut host agent one)))
      (λ less p. gather_fits bits left above less p)
      (λ less plain. split_fits bits left above less (single plain (λ e. omega (arith, e, less))) (same_below host agent plain))
      (λ equal plain. same_fits bits left above equal (same_below host agent plain))

  -- and below that beats are dropped, or not
  record AreDropped (drops : Bool) (bits : ℕ) (port : Port) : Type 0 where
    dropped : DropsBeats target (with_tag tags (low_at agent.word_bytes bits)) (with_tag tags port)
    drops_is : drops_some dropped ≡ drops

  drop_by : (drops wider : Bool) → drops ≡ needs_drop host agent → (tag : ℕ) → ((c : ℕ) → tags c ≡ tag) → (bits : ℕ) → (drops ≡ true → bits ≡ 1) → bits ≤ burst_width agent.burst_bits → ShowsTags tags (low_at agent.word_bytes bits) →
      Drops (dropper_if drops wider host agent stages) (λ form. port_in form.up run low second lower) (λ form. port_in form.down run to wait answer) → AreDropped drops bits (to_at (burst_width agent.burst_bits))
  drop_by true wider d tag bears bits single few shows drops =
      let runs : DropRuns (if wider then reads_below agent stages else reads_above host agent stages) target (low_at agent.word_bytes bits) (to_at (burst_width agent.burst_bits)) =
      drops (record { up = inner_shape agent.word_bytes bits; down = inner_shape agent.word_bytes (burst_width agent.burst_bits); link = drop_form target })
      (record {
        plan = record { some = agent_some; same = refl; units = refl; agent = is.words; enables = is.enables ∙ no_enables host.enables agent.enables (sym d); one_beat = single refl };
        bytes = refl;
        is = refl;
        some = either_some wider host agent stages;
      }) in
      record { dropped = dropper _ runs.state runs.plan runs.some (retagged_drop tag tags bears _ _ _ runs.state runs.run shows); drops_is = refl }
  drop_by false wider d tag bears bits single few shows drops =
      let most = burst_width agent.burst_bits in
      let same : low_at agent.word_bytes most ≡ to_at most = drops (pass_between agent.word_bytes most) (record { same = refl; is = refl; some = agent_some }) in
      record { dropped = no_dropper (record { wire = record { same = ap (with_tag tags) same; longer = few }; some = agent_some }); drops_is = refl }

-- ---- between the nets

-- the laws of the five links
pub record AreLaws (width : Width) : Type 0 where
  pub cut : CutLaw width.first.link
  pub select : SelectLaw width.second.first.first.first.link
  pub gather : GatherLaw width.second.first.first.second.link
  pub split : SplitLaw width.second.first.second.link
  pub drop : DropLaw width.second.second.link

pub machines_between : (host : HostPort) (agent : AgentPort) (stages : ℕ) → MayMeet host agent → AreLaws (width_of host agent stages) → (from to : CommandNets) (kept : WidthKept) (wait : NetValue) (answer : AnswerNets) (up : NetValue) (back : AnswerNets) (old new : Netlist) →
    BearsOneTag old from → WidthCommand (width_of host agent stages) from to kept old → Extends old new → WidthAnswer (width_of host agent stages) kept wait answer up back new → WidthInLonger host agent new from up back (command_below from to) wait answer
machines_between host agent stages pair laws from to kept wait answer up back old new one begun grown ended longer e run endless target is =
    let width = width_of host agent stages in
    let whole = extends_twice old new longer grown e in
    let command = command_lasts width from to kept old longer begun whole in
    let answers = answer_lasts width kept wait answer up back new longer ended e in
    let bears : (c : ℕ) → run.net c from.tag.number ≡ one.tag = λ c. one.always (cycle_of run c) (whole.valuations (cycle_of run c) ((endless (c + 1)).valuations c (omega arith))) in
    let bits = bits_below host agent in
    let low = bits_low host agent in
    let fitting = command.second in
    let words = fitting.first in
    let inner = answers.second in
    let told = inner.first in
    let cut = cut_by host agent stages pair target is run from command.middle words.first.middle words.middle fitting.middle to up answers.wait told.first.wait told.wait inner.wait wait back answers.answer told.first.answer told.answer inner.answer answer
    (needs_cut host agent) refl one.tag bears
    (λ form has. laws.cut form _ _ _ _ _ _ _ longer has command.first answers.first run endless) in
    let fit = fit_by host agent stages pair target is run from command.middle words.first.middle words.middle fitting.middle to up answers.wait told.first.wait told.wait inner.wait wait back answers.answer told.first.answer told.answer inner.answer answer
    cut
    (λ form has. laws.select form _ _ _ _ _ _ _ longer has words.first.first told.first.first run endless)
    (λ form has. laws.gather form _ _ _ _ _ _ _ longer has words.first.second told.first.second run endless)
    (λ form has. laws.split form _ _ _ _ _ _ _ longer has words.second told.second run endless) in
    let drop = drop_by host agent stages pair target is run from command.middle words.first.middle words.middle fitting.middle to up answers.wait told.first.wait told.wait inner.wait wait back answers.answer told.first.answer told.answer inner.answer answer
    (needs_drop host agent) (nat_lt agent.word_bytes host.word_bytes) refl one.tag bears low (λ drops. single_low host agent (beats_dropped host agent drops)) (no_longer_low host agent) fit.shows
    (λ form has. laws.drop form _ _ _ _ _ _ _ longer has fitting.second inner.second run endless) in
    let tags : ℕ → ℕ = λ c. run.net c from.tag.number in
    record {
      middle = with_tag tags (port_in (inner_shape host.word_bytes bits) run command.middle answers.wait answers.answer);
      cuts = cut.cuts;
      low = with_tag tags (port_in (inner_shape agent.word_bytes low) run fitting.middle inner.wait inner.answer);
      fits = fit.fits;
      gathers = fit.gathered;
      packs = fit.packed;
      dropped = drop.dropped;
      is = drop.drops_is;
    }
