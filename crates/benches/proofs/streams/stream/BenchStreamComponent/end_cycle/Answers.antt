use Rattle.std.proofs.Common.{◌*◌, All, sym, subst}
use Rattle.stand_ins.specs.Sources.{Keeping}
use Rattle.benches.specs.Sound.{IsWithin}
use Rattle.benches.proofs.streams.Keeping.{behind_within}
use Rattle.benches.proofs.streams.stream.BenchStreamComponent.end_cycle.Goals as goal

pub invariant_of-self : goal.invariant_of-self
invariant_of-self c = record {
  source_sound = c.self.invariant.source_sound;
  sink_sound = c.self.invariant.sink_sound;
  left =
      let bits = c.self.inside.source.symbols * c.self.inside.source.symbol_bits in
      subst (λ (keeping : Keeping). All (IsWithin bits) keeping.left) (sym c.end_cycle.ensures) (behind_within bits _ c.self.inside.stand_in.left c.self.invariant.left);
  patterns = c.self.invariant.patterns;
}
