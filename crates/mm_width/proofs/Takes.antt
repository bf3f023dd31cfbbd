-- The nets of a host's command have the widths that each link of the pair takes.
use Rattle.std.proofs.Common.{◌≡◌, ℕ, ◌+◌, ◌-◌, ◌*◌, ◌^◌, ◌≤◌, ◌<◌, max, Bool, true, false, not, if◌then◌else◌, nat_lt, refl, sym, ap, ◌∙◌, arith, ltb-true, pow_mono}
use Rattle.std.proofs.Math.Nat.{mul_comm}
use Rattle.std.proofs.lemmas.Bool.{false≢true}
use Rattle.std.specs.Prelude.{unwrap_or, option_map, IfSome}
use Rattle.iface_roles.specs.declared.records.HostPort.{HostPort}
use Rattle.iface_roles.specs.declared.records.AgentPort.{AgentPort}
use Rattle.memory_runs.specs.Sides.{burst_width}
use Rattle.command_nets.specs.Nets.{Widths}
use Rattle.mm_burst.specs.declared.cutter.Cutter.{Cutter}
use Rattle.mm_burst.specs.CutterNets as cutter
use Rattle.mm_select.specs.declared.select.Select.{Select}
use Rattle.mm_select.specs.SelectNets.{TakesWidths, given_widths}
use Rattle.mm_gather.specs.declared.gather.Gather.{Gather}
use Rattle.mm_gather.specs.GatherNets as gather
use Rattle.mm_split.specs.declared.split.Split.{Split}
use Rattle.mm_split.specs.SplitNets.{TakesWide, narrow_widths}
use Rattle.mm_drop.specs.Form.{TakesWords}
use Rattle.mm_width.specs.Links.{Fitting, Width, reads_below, reads_above, cutter_if, fitting_by, width_of}
use Rattle.mm_width.specs.Pairs.{MayMeet, MayAskOf, packs, selects, place_bits, bits_between, needs_cut, needs_drop}
use Rattle.mm_width.proofs.Bursts.{by_words, most_width, some_between, some_cut, few_cut, places_cut, places_of, single_between, packed_cut}
use Rattle.mm_width.proofs.Rooms.{below_some, above_some, below_few, above_few}

-- below the cutter, link by link
abbrev FittingTakes : Fitting → Widths → Type 0
FittingTakes fitting widths =
    let words = fitting.first in
    let selected = unwrap_or (option_map (λ (s : Select). given_widths s widths) words.first.first.link) widths in
    let gathered = unwrap_or (option_map (λ (s : Gather). gather.given_widths s selected) words.first.second.link) selected in
    let split = unwrap_or (option_map (λ (s : Split). narrow_widths s gathered) words.second.link) gathered in
    ((IfSome words.first.first.link (λ s. TakesWidths s widths) × IfSome words.first.second.link (λ s. gather.TakesWidths s selected)) × IfSome words.second.link (λ s. TakesWide s gathered)) × IfSome fitting.second.link (λ s. TakesWords s.word_bytes s.reads split)

-- all links
abbrev pub Takes : Width → Widths → Type 0
Takes width widths =
    IfSome width.first.link (λ s. cutter.TakesWidths s widths) × FittingTakes width.second (unwrap_or (option_map (λ (s : Cutter). cutter.given_widths s widths) width.first.link) widths)

module _ (host : HostPort) (agent : AgentPort) (stages : ℕ) (few : stages ≤ 4) (pair : MayMeet host agent) where
  cut_takes : (cuts : Bool) → cuts ≡ needs_cut host agent → (widths : Widths) → MayAskOf host agent widths → IfSome (cutter_if cuts host agent) (λ s. cutter.TakesWidths s widths)
  cut_takes true c widths may =
      let own = most_width host.burst_bits pair.host_bursts in
      let left = few_cut host agent pair in
      let count = may.count in
      let some = some_between host agent in
      let fewer = ltb-true (bits_between host agent) (burst_width host.burst_bits) (sym c) in
      record {
        is = record { word = pair.host_word; some = some_cut host agent; fewer = omega arith; few = omega (arith, own, left); places = places_cut host agent };
        word = may.word;
        enables = may.enables;
        some = omega (arith, some, fewer, count);
        count = omega (arith, count);
        reach = may.reaches_word;
        few = may.few;
      }
  cut_takes false c widths may = tt

  -- what the cutter leaves of what is asked
  record AreFed (widths : Widths) : Type 0 where
    word : widths.word ≡ host.word_bytes * 8
    enables : widths.enables ≡ host.word_bytes
    reaches_word : host.word_bytes ≤ 2 ^ widths.address
    reaches_agent : agent.word_bytes ≤ 2 ^ widths.address
    places : packs host agent ≡ true → widths.count ≡ place_bits host agent + 1

  reach : (bytes address more : ℕ) → bytes ≤ 2 ^ address → bytes ≤ 2 ^ (max address more + 1)
  reach bytes address more h = let longer : 2 ^ address ≤ 2 ^ (max address more + 1) = pow_mono (omega arith) in omega (arith, h, longer)

  fed : (cuts : Bool) → cuts ≡ needs_cut host agent → (widths : Widths) → MayAskOf host agent widths → AreFed (unwrap_or (option_map (λ (s : Cutter). cutter.given_widths s widths) (cutter_if cuts host agent)) widths)
  fed true c widths may = record {
    word = may.word;
    enables = may.enables;
    reaches_word = reach host.word_bytes widths.address _ may.reaches_word;
    reaches_agent = reach agent.word_bytes widths.address _ may.reaches_agent;
    places = λ p. (let one = single_between host agent p in omega (arith, one));
  }
  fed false c widths may = record { word = may.word; enables = may.enables; reaches_word = may.reaches_word; reaches_agent = may.reaches_agent; places = λ p. absurd (false≢true (c ∙ packed_cut host agent p)) }

  select_takes : host.word_bytes < agent.word_bytes → (widths : Widths) → AreFed widths → TakesWidths (record { narrow_bytes = host.word_bytes; wide_bytes = agent.word_bytes; reads = max (reads_above host agent stages) 2 }) widths
  select_takes less widths fed =
      let above = above_few host agent stages in
      record { is = record { narrow = pair.host_word; wide = pair.agent_word; smaller = less; some = omega arith; few = omega (arith, above) }; word = fed.word; enables = fed.enables; reach = fed.reaches_agent }

  gather_takes : host.word_bytes < agent.word_bytes → packs host agent ≡ true → (widths : Widths) → AreFed widths → gather.TakesWidths (record { narrow_bytes = host.word_bytes; wide_bytes = agent.word_bytes; reads = reads_below agent stages + 1 }) widths
  gather_takes less p widths fed =
      let some = below_some agent stages in
      let count = fed.places p in
      let places : widths.count - 1 ≡ place_bits host agent = omega (arith, count) in
      record {
        is = record { narrow = pair.host_word; wide = pair.agent_word; smaller = less; some = omega (arith, some) };
        word = fed.word;
        enables = fed.enables;
        count = (places_of host agent pair p).whole ∙ mul_comm (2 ^ place_bits host agent) host.word_bytes ∙ ap (λ n. host.word_bytes * 2 ^ n) (sym places);
        reach = fed.reaches_agent;
      }

  split_takes : agent.word_bytes < host.word_bytes → (widths : Widths) → AreFed widths → TakesWide (record { wide_bytes = host.word_bytes; narrow_bytes = agent.word_bytes; reads = reads_above host agent stages; all_lanes = not host.enables }) widths
  split_takes less widths fed = record {
    sizes = record { wide = pair.host_word; narrow = pair.agent_word; smaller = less; some = above_some host agent stages; few = above_few host agent stages };
    word = fed.word;
    enables = fed.enables;
    address = fed.reaches_word;
  }

  drop_takes : (wider : Bool) (widths : Widths) → widths.word ≡ agent.word_bytes * 8 → widths.enables ≡ agent.word_bytes → TakesWords agent.word_bytes (if wider then reads_below agent stages else reads_above host agent stages) widths
  drop_takes true widths w e = record { word = w; enables = e; size = pair.agent_word; some = below_some agent stages; few = below_few agent stages few }
  drop_takes false widths w e = let above = above_few host agent stages in record { word = w; enables = e; size = pair.agent_word; some = above_some host agent stages; few = omega (arith, above) }

  fit_takes : (drops : Bool) (widths : Widths) → AreFed widths → FittingTakes (fitting_by (selects host agent) (packs host agent) (nat_lt agent.word_bytes host.word_bytes) drops host agent stages) widths
  fit_takes true widths fed =
      by_words host agent (λ selected gathered wider. FittingTakes (fitting_by selected gathered wider true host agent stages) widths)
      (λ less single plain. (((select_takes less widths fed, tt), tt), drop_takes false _ refl refl))
      (λ less p. (((tt, gather_takes less p widths fed), tt), drop_takes false _ refl refl))
      (λ less plain. (((tt, tt), split_takes less widths fed), drop_takes true _ refl refl))
      (λ same plain. (let word = fed.word in let enables = fed.enables in (((tt, tt), tt), drop_takes false widths (omega (arith, same, word)) (omega (arith, same, enables)))))
  fit_takes false widths fed =
      by_words host agent (λ selected gathered wider. FittingTakes (fitting_by selected gathered wider false host agent stages) widths)
      (λ less single plain. (((select_takes less widths fed, tt), tt), tt))
      (λ less p. (((tt, gather_takes less p widths fed), tt), tt))
      (λ less plain. (((tt, tt), split_takes less widths fed), tt))
      (λ same plain. (((tt, tt), tt), tt))

  pub takes : (widths : Widths) → MayAskOf host agent widths → Takes (width_of host agent stages) widths
  takes widths may = (cut_takes (needs_cut host agent) refl widths may, fit_takes (needs_drop host agent) _ (fed (needs_cut host agent) refl widths may))
