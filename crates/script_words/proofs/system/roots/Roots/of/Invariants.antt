use Rattle.std.proofs.Common.{take}
use Rattle.script_words.specs.Roots.{AreRootsOf}
use Rattle.script_words.proofs.system.roots.Roots.of.Given as goal

abbrev pub invariant-loop-joint : goal.invariant-loop-joint
invariant-loop-joint l = AreRootsOf (take l.joint-index l.joints) l.roots
