use Rattle.std.proofs.Common.{◌*◌, None, All, sym, subst}
use Rattle.iface_roles.specs.declared.records.Finished.TheVariants.{Source, Sink}
use Rattle.stand_ins.specs.Sources.{Keeping}
use Rattle.benches.specs.Sound.{IsWithin}
use Rattle.benches.proofs.streams.Keeping.{are_patterns, quiet, script_within}
use Rattle.benches.proofs.streams.stream.first_stream.Goals as goal

pub of-requires : goal.of-requires
of-requires c =
    let sound = c.links_are_sound.ensures c.args.plan.now c.well_made.ensures c.args.number c.args.link.now c.requires.link in
    (Source c.args.link.now.source, sound.is.source)

pub of-requires-2 : goal.of-requires-2
of-requires-2 c =
    let sound = c.links_are_sound.ensures c.args.plan.now c.well_made.ensures c.args.number c.args.link.now c.requires.link in
    (Sink c.args.link.now.sink, sound.is.sink)

pub of-requires-3-clause-end : goal.of-requires-3-clause-end
of-requires-3-clause-end c = (c.links_are_sound.ensures c.args.plan.now c.well_made.ensures c.args.number c.args.link.now c.requires.link).source_end

pub input_place-requires-clause-end : goal.input_place-requires-clause-end
input_place-requires-clause-end c = (c.links_are_sound.ensures c.args.plan.now c.well_made.ensures c.args.number c.args.link.now c.requires.link).sink_end

pub port_number-requires-clause-end : goal.port_number-requires-clause-end
port_number-requires-clause-end c = (c.links_are_sound.ensures c.args.plan.now c.well_made.ensures c.args.number c.args.link.now c.requires.link).source_end

pub of-requires-4-clause-end : goal.of-requires-4-clause-end
of-requires-4-clause-end c = (c.links_are_sound.ensures c.args.plan.now c.well_made.ensures c.args.number c.args.link.now c.requires.link).sink_end

pub new-requires-clause-soon : goal.new-requires-clause-soon
new-requires-clause-soon c = (c.links_are_sound.ensures c.args.plan.now c.well_made.ensures c.args.number c.args.link.now c.requires.link).soon

pub new-requires-clause-fits : goal.new-requires-clause-fits
new-requires-clause-fits c = c.requires.statements c.args.link.now c.requires.link

pub invariant_of-result : goal.invariant_of-result
invariant_of-result c =
    let sound = c.links_are_sound.ensures c.args.plan.now c.well_made.ensures c.args.number c.args.link.now c.requires.link in
    let port = c.args.link.now.source in
    record {
      source_sound = sound.source;
      sink_sound = sound.sink;
      left = subst (λ (keeping : Keeping). All (IsWithin (port.symbols * port.symbol_bits)) keeping.left) (sym (c.new.ensures quiet)) (script_within port None c.args.statements.now (c.requires.statements c.args.link.now c.requires.link).follow);
      patterns = are_patterns c.args.link.now.sink c.args.script.now (c.requires.script c.args.link.now c.requires.link);
    }
