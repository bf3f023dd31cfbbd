use Rattle.std.proofs.Common.{refl, ap, sym, subst, ◌∙◌, map}
use Rattle.std.specs.Prelude.{is_some}
use Rattle.std.proofs.lemmas.Option.{MatchOption-at_some, MatchOption-at_none}
use Rattle.iface_roles.specs.declared.kinds.Side.TheVariants.{Start}
use Rattle.address_map.specs.Ends.{is_same_end}
use Rattle.address_map.specs.Footprints.{footprints}
use Rattle.address_map.specs.Maps.{end_at, mm_connections}
use Rattle.address_map.specs.MapRules.{IsCauseAt}
use Rattle.address_map.proofs.EndsLemmas.{is_some-position}
use Rattle.address_map.proofs.PlacedLemmas.{put_into, judged}
use Rattle.address_map.proofs.maps.add.Goals as goal

pub unwrap-place-requires : goal.unwrap-place-requires
unwrap-place-requires c = ap is_some c.place.ensures ∙ is_some-position (is_same_end c.args.footprint.host) c.args.hosts.now ∙ c.requires.host

pub returns-in-Some-clause-refused : goal.returns-in-Some-clause-refused
returns-in-Some-clause-refused c =
    let all = footprints c.args.system.now in
    let rules = judged c.args.hosts.now all c.args.maps.now.items c.args.number c.unwrap-place.result c.args.footprint c.index_mut-map.result.now c.requires.at c.requires.fit (sym c.place.ensures ∙ c.unwrap-place.ensures) c.index_mut-map.ensures.value c.requires.placed in
    let found = MatchOption-at_some _ _ c.in-Some.rule (sym c.broken_rule.ensures ∙ c.in-Some.is) rules in
    subst (IsCauseAt all c.args.number) (sym c.refusal.ensures) (record { same = refl; refused = record { broken = found.0; least = found.1; named = refl } })

pub returns-clause-placed : goal.returns-clause-placed
returns-clause-placed c =
    put_into (map (end_at Start) (mm_connections c.args.system.now)) c.args.hosts.now (footprints c.args.system.now) c.args.maps.now.items c.args.number c.unwrap-place.result c.args.footprint c.entry.result c.index_mut-map.result.now c.put.new.self
    c.requires.hosts c.requires.at c.requires.fit (sym c.place.ensures ∙ c.unwrap-place.ensures) c.index_mut-map.ensures.value c.requires.placed c.entry.ensures c.in_ok-put.ensures.ok c.put.ensures.rising

pub returns-clause-kept : goal.returns-clause-kept
returns-clause-kept c =
    let rules = judged c.args.hosts.now (footprints c.args.system.now) c.args.maps.now.items c.args.number c.unwrap-place.result c.args.footprint c.index_mut-map.result.now c.requires.at c.requires.fit (sym c.place.ensures ∙ c.unwrap-place.ensures) c.index_mut-map.ensures.value c.requires.placed in
    MatchOption-at_none _ _ (sym c.broken_rule.ensures ∙ c.in_default.is) rules
