-- How many nets the links of a pair take, and the widths that they are given.
use Rattle.std.proofs.Common.{◌≡◌, ℕ, ◌+◌, ◌*◌, ◌≤◌, Bool, true, false, if◌then◌else◌, nat_eq, refl, sym, ap, ap₂, ◌∙◌, arith}
use Rattle.std.specs.Prelude.{unwrap_or, option_map}
use Rattle.iface_roles.specs.declared.records.HostPort.{HostPort}
use Rattle.iface_roles.specs.declared.records.AgentPort.{AgentPort}
use Rattle.command_nets.specs.Nets.{Widths}
use Rattle.mm_burst.specs.declared.cutter.Cutter.{Cutter}
use Rattle.mm_burst.specs.CutterNets as cutter
use Rattle.mm_burst.specs.Ways.{more_nets}
use Rattle.mm_select.specs.declared.select.Select.{Select}
use Rattle.mm_select.specs.SelectNets.{given_widths}
use Rattle.mm_gather.specs.declared.gather.Gather.{Gather}
use Rattle.mm_gather.specs.GatherNets as gather
use Rattle.mm_split.specs.declared.split.Split.{Split}
use Rattle.mm_split.specs.SplitNets.{narrow_widths}
use Rattle.mm_drop.specs.declared.dropper.Dropper.{Dropper}
use Rattle.mm_width.specs.Links.{Fitting, Width, cutter_if, fitting_by, fitting_of, width_of}
use Rattle.mm_width.specs.Pairs.{MayAskOf, cutter_between, widths_between, widths_below, packs, place_bits, bits_between, needs_cut, needs_drop}
use Rattle.mm_width.proofs.Bursts.{by_words, no_places, same_cut, single_between, packed_cut}

-- ---- nets

-- so many for each link that is there
abbrev for_links : (cutter : Cutter → ℕ) (select gather split dropper : ℕ) → Width → ℕ
for_links cutter select gather split dropper width =
    let fitting = width.second in
    let words = fitting.first in
    unwrap_or (option_map cutter width.first.link) 0
    + (((unwrap_or (option_map (λ (s : Select). select) words.first.first.link) 0 + unwrap_or (option_map (λ (s : Gather). gather) words.first.second.link) 0) + unwrap_or (option_map (λ (s : Split). split) words.second.link) 0)
    + unwrap_or (option_map (λ (s : Dropper). dropper) fitting.second.link) 0)

-- the most nets of the first call, and of the second
abbrev pub nets_of : Width → ℕ
nets_of width = for_links (λ s. 50 + 7 * more_nets s.place_bits) 43 103 337 31 width

abbrev pub answers_of : Width → ℕ
answers_of width = for_links (λ s. 20) 48 93 239 49 width

-- and its memories
abbrev pub memories_of : Width → ℕ
memories_of width = for_links (λ s. 0) 1 4 0 0 width

abbrev Few : (most : ℕ) (cutter : Cutter → ℕ) (select gather split dropper : ℕ) → HostPort → AgentPort → ℕ → Bool → Bool → Bool → Bool → Bool → Type 0
Few most cutter select gather split dropper host agent stages cuts drops selected gathered wider =
    for_links cutter select gather split dropper (record { first = record { link = cutter_if cuts host agent }; second = fitting_by selected gathered wider drops host agent stages }) ≤ most

abbrev words_sum : (select gather split : ℕ) → Bool → Bool → Bool → HostPort → AgentPort → ℕ → ℕ
words_sum select gather split selected gathered wider host agent stages =
    let words = (fitting_by selected gathered wider false host agent stages).first in
    (unwrap_or (option_map (λ (s : Select). select) words.first.first.link) 0 + unwrap_or (option_map (λ (s : Gather). gather) words.first.second.link) 0) + unwrap_or (option_map (λ (s : Split). split) words.second.link) 0

-- one of three links stands between cutter and dropper, or none
few_one : (most : ℕ) (cutter : Cutter → ℕ) (select gather split dropper : ℕ) (host : HostPort) (agent : AgentPort) (stages : ℕ) (cuts drops selected gathered wider : Bool) → words_sum select gather split selected gathered wider host agent stages + cutter (cutter_between host agent) + dropper ≤ most →
    Few most cutter select gather split dropper host agent stages cuts drops selected gathered wider
few_one most cutter select gather split dropper host agent stages true true selected gathered wider h = omega (arith, h)
few_one most cutter select gather split dropper host agent stages true false selected gathered wider h = omega (arith, h)
few_one most cutter select gather split dropper host agent stages false true selected gathered wider h = omega (arith, h)
few_one most cutter select gather split dropper host agent stages false false selected gathered wider h = omega (arith, h)

few_links : (most : ℕ) (cutter : Cutter → ℕ) (select gather split dropper : ℕ) (host : HostPort) (agent : AgentPort) (stages : ℕ) →
    (packs host agent ≡ false → cutter (cutter_between host agent) + select + dropper ≤ most) → cutter (cutter_between host agent) + gather + dropper ≤ most → (packs host agent ≡ false → cutter (cutter_between host agent) + split + dropper ≤ most) →
    for_links cutter select gather split dropper (width_of host agent stages) ≤ most
few_links most cutter select gather split dropper host agent stages selects gathers splits =
    let cut = cutter (cutter_between host agent) in
    by_words host agent (Few most cutter select gather split dropper host agent stages (needs_cut host agent) (needs_drop host agent))
    (λ less single plain. few_one most cutter select gather split dropper host agent stages (needs_cut host agent) (needs_drop host agent) true false false (let h = selects plain in omega (arith, h)))
    (λ less p. few_one most cutter select gather split dropper host agent stages (needs_cut host agent) (needs_drop host agent) false true false (omega (arith, gathers)))
    (λ less plain. few_one most cutter select gather split dropper host agent stages (needs_cut host agent) (needs_drop host agent) false false true (let h = splits plain in omega (arith, h)))
    (λ same plain. few_one most cutter select gather split dropper host agent stages (needs_cut host agent) (needs_drop host agent) false false false (let h = splits plain in omega (arith, h)))

more_few : (places : ℕ) → more_nets places ≤ 1
more_few places = by (nat_eq places 0)
  where
    by : (none : Bool) → (if none then 0 else 1) ≤ 1
    by true = omega arith
    by false = omega arith

pub few_nets : (host : HostPort) (agent : AgentPort) (stages : ℕ) → nets_of (width_of host agent stages) ≤ 418
few_nets host agent stages =
    let more = more_few (place_bits host agent) in
    let none : packs host agent ≡ false → more_nets (place_bits host agent) ≡ 0 = λ plain. ap more_nets (no_places host agent plain) in
    few_links 418 (λ s. 50 + 7 * more_nets s.place_bits) 43 103 337 31 host agent stages (λ plain. omega (arith, more)) (omega (arith, more)) (λ plain. (let e = none plain in omega (arith, e)))

pub few_answers : (host : HostPort) (agent : AgentPort) (stages : ℕ) → answers_of (width_of host agent stages) ≤ 310
few_answers host agent stages = few_links 310 (λ s. 20) 48 93 239 49 host agent stages (λ plain. omega arith) (omega arith) (λ plain. omega arith)

pub few_memories : (host : HostPort) (agent : AgentPort) (stages : ℕ) → memories_of (width_of host agent stages) ≤ 4
few_memories host agent stages = few_links 4 (λ s. 0) 1 4 0 0 host agent stages (λ plain. omega arith) (omega arith) (λ plain. omega arith)

-- ---- widths, link by link

abbrev pub widths_through : Width → Widths → Widths
widths_through width widths =
    let fitting = width.second in
    let words = fitting.first in
    let cut = unwrap_or (option_map (λ (s : Cutter). cutter.given_widths s widths) width.first.link) widths in
    let selected = unwrap_or (option_map (λ (s : Select). given_widths s cut) words.first.first.link) cut in
    let gathered = unwrap_or (option_map (λ (s : Gather). gather.given_widths s selected) words.first.second.link) selected in
    let split = unwrap_or (option_map (λ (s : Split). narrow_widths s gathered) words.second.link) gathered in
    unwrap_or (option_map (λ (s : Dropper). split) fitting.second.link) split

-- with the agent's word, and so many bits of burstcount
abbrev fitted : AgentPort → ℕ → Widths → Widths
fitted agent count widths = record widths { word = agent.word_bytes * 8; enables = agent.word_bytes; count = count }

abbrev between : Bool → HostPort → AgentPort → Widths → Widths
between cuts host agent widths = if cuts then cutter.given_widths (cutter_between host agent) widths else widths

abbrev fit_only : Bool → Bool → Bool → Bool → HostPort → AgentPort → ℕ → Widths → Widths
fit_only drops selected gathered wider host agent stages widths = widths_through (record { first = record { link = cutter_if false host agent }; second = fitting_by selected gathered wider drops host agent stages }) widths

cut_through : (cuts : Bool) (fitting : Fitting) (host : HostPort) (agent : AgentPort) (widths : Widths) →
    widths_through (record { first = record { link = cutter_if cuts host agent }; second = fitting }) widths ≡ widths_through (record { first = record { link = cutter_if false host agent }; second = fitting }) (between cuts host agent widths)
cut_through true fitting host agent widths = refl
cut_through false fitting host agent widths = refl

-- a cutter leaves word and enables as they are
same_lanes : (cuts : Bool) (host : HostPort) (agent : AgentPort) (widths : Widths) → (between cuts host agent widths ≡ record (between cuts host agent widths) { word = widths.word; enables = widths.enables })
same_lanes true host agent widths = refl
same_lanes false host agent widths = refl

abbrev count_on : Bool → HostPort → AgentPort → Widths → ℕ
count_on cuts host agent widths = if cuts then bits_between host agent else widths.count

-- and but for bursts that are gathered, so many bits of burstcount as go on
same_count : (cuts : Bool) (host : HostPort) (agent : AgentPort) (widths : Widths) → packs host agent ≡ false → (between cuts host agent widths).count ≡ count_on cuts host agent widths
same_count true host agent widths plain = same_cut host agent plain
same_count false host agent widths plain = refl

-- and the tag
tag_by : (cuts : Bool) (host : HostPort) (agent : AgentPort) (count : ℕ) (widths : Widths) → record (fitted agent count (between cuts host agent widths)) { tag = widths.tag } ≡ fitted agent count (between cuts host agent widths)
tag_by true host agent count widths = refl
tag_by false host agent count widths = refl

pub same_tag : (host : HostPort) (agent : AgentPort) (widths : Widths) → record (widths_below host agent widths) { tag = widths.tag } ≡ widths_below host agent widths
same_tag host agent widths = tag_by (needs_cut host agent) host agent (count_on (needs_cut host agent) host agent widths) widths

module _ (host : HostPort) (agent : AgentPort) (stages : ℕ) (widths : Widths) where
  select_through : (drops : Bool) → fit_only drops true false false host agent stages widths ≡ fitted agent widths.count widths
  select_through true = refl
  select_through false = refl

  gather_through : (drops : Bool) → fit_only drops false true false host agent stages widths ≡ fitted agent 1 widths
  gather_through true = refl
  gather_through false = refl

  split_through : (drops : Bool) → fit_only drops false false true host agent stages widths ≡ fitted agent widths.count widths
  split_through true = refl
  split_through false = refl

  none_through : (drops : Bool) → fit_only drops false false false host agent stages widths ≡ widths
  none_through true = refl
  none_through false = refl

pub through : (host : HostPort) (agent : AgentPort) (stages : ℕ) (widths : Widths) → MayAskOf host agent widths → widths_through (width_of host agent stages) widths ≡ widths_below host agent widths
through host agent stages widths may =
    let cuts = needs_cut host agent in
    let drops = needs_drop host agent in
    let cut = widths_between host agent widths in
    let below = widths_below host agent widths in
    let plain : packs host agent ≡ false → fitted agent cut.count cut ≡ below = λ p. ap (λ n. fitted agent n cut) (same_count cuts host agent widths p) in
    cut_through cuts (fitting_of host agent stages) host agent widths
    ∙ by_words host agent (λ selected gathered wider. fit_only drops selected gathered wider host agent stages cut ≡ below)
    (λ less single p. select_through host agent stages cut drops ∙ plain p)
    (λ less p. gather_through host agent stages cut drops ∙ ap (λ n. fitted agent n cut) (sym (ap (λ (b : Bool). count_on b host agent widths) (packed_cut host agent p) ∙ single_between host agent p)))
    (λ less p. split_through host agent stages cut drops ∙ plain p)
    (λ same p. none_through host agent stages cut drops
    ∙ (let word = may.word in
    let enables = may.enables in
    same_lanes cuts host agent widths ∙ ap₂ (λ (w e : ℕ). record cut { word = w; enables = e }) (omega (arith, same, word)) (omega (arith, same, enables)))
    ∙ plain p)
