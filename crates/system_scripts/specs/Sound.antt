-- What the commands of a system file keep, where nothing refuses them.
use Rattle.std.specs.Prelude.{◌≡◌, ◌≢◌, ◌^◌, ◌<◌, ◌≤◌, true, List, Some, All, AllPairs, IfSome, IsTrue}
use Rattle.iface_roles.specs.declared.kinds.Kind.TheVariants.{Stream}
use Rattle.iface_roles.specs.declared.kinds.Side.{Side}
use Rattle.iface_roles.specs.declared.kinds.Side.TheVariants.{Start, End}
use Rattle.script_words.specs.declared.system.joints.Joint.{Joint}
use Rattle.system_tables.specs.declared.system.Instance.{Instance}
use Rattle.system_tables.specs.Names.{is_name}
use Rattle.system_scripts.specs.System.{DraftedSystem, sort_at}
use Rattle.script_words.specs.Commands.{has_sides}
use Rattle.component_scripts.specs.Tables.{ComponentTable}

-- a connection joins interfaces of its kind, where that has sides a start and an end, and its parameters are in range
pub record IsSoundJoint (components : List ComponentTable) (instances : List Instance) (joint : Joint) : Type 0 where
  pub start_side : Side
  pub end_side : Side
  pub start : sort_at components instances joint.start ≡ Some (joint.kind, start_side)
  pub end : sort_at components instances joint.end ≡ Some (joint.kind, end_side)
  pub starts : has_sides joint.kind ≡ true → start_side ≡ Start
  pub ends : has_sides joint.kind ≡ true → end_side ≡ End
  pub base : joint.base < 2 ^ 32
  pub some_share : 1 ≤ joint.shares
  pub shares : joint.shares ≤ 63
  pub fifo : joint.fifo ≤ 64

-- two connections join other ends, and share none of a stream
pub record AreApart (a b : Joint) : Type 0 where
  pub ends : a.start ≡ b.start → a.end ≢ b.end
  pub sources : a.kind ≡ Stream → a.start ≢ b.start
  pub sinks : a.kind ≡ Stream → a.end ≢ b.end

pub record IsSoundSystemDraft (components : List ComponentTable) (draft : DraftedSystem) : Type 0 where
  pub name : IfSome draft.name (λ name. IsTrue (is_name name))
  pub stages : draft.stages ≤ 4
  pub names : All (λ (instance : Instance). IsTrue (is_name instance.name)) draft.instances
  pub distinct : AllPairs (λ (a b : Instance). a.name ≢ b.name) draft.instances
  pub joints : All (IsSoundJoint components draft.instances) draft.joints
  pub apart : AllPairs AreApart draft.joints
