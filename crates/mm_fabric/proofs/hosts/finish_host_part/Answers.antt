use Rattle.mm_fabric.proofs.HostParts.{host_part_is}
use Rattle.mm_fabric.proofs.hosts.finish_host_part.Goals as goal

pub returns-clause-part : goal.returns-clause-part
returns-clause-part c number forward =
    host_part_is c.args.builder.now c.finish_trunk.new.builder number c.args.port.now c.args.routes.now c.args.commands.now c.args.backs.now _ c.args.trunk.now c.in_ok-told.told c.in_ok-ways.ways
    (record {
      bounded = c.requires.port;
      trunk_is = c.requires.trunk;
      reads = c.requires.bounded;
      forward = forward;
      grows = c.finish_trunk.ensures.grows.extends;
      told_is = c.in_ok-told.ensures.told;
      host = c.in_ok-told.ensures.host;
      route = c.in_ok-told.ensures.route c.args.routes.now number c.args.trunk.now.host.command c.args.commands.now forward;
      wire = c.in_ok-told.ensures.lone c.args.routes.now number c.args.trunk.now.host.command c.args.commands.now forward;
      registers = c.finish_trunk.ensures.registers;
    })
    c.in_ok-ways.ensures.ways
