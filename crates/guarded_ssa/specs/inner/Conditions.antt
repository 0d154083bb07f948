-- What the functions over a plan ask of what they are given, and what an operation has done where it is reached.
use Rattle.std.specs.Prelude.{◌+◌, ◌<◌, ◌^◌, List, length}
use Rattle.word_dag.specs.declared.nodes.Node.{Node}
use Rattle.value_nodes.specs.Values.{IsWord}
use Rattle.cell_trees.specs.Trees.{Arena}
use Rattle.goto_prog.specs.declared.code.Operation.{Operation}
use Rattle.guarded_ssa.specs.declared.liveness.Plan.{Plan}
use Rattle.guarded_ssa.specs.declared.slots.Slot.{Slot}
use Rattle.guarded_ssa.specs.declared.registers.Meeting.{Meeting}
use Rattle.guarded_ssa.specs.declared.pass.Here.{Here}
use Rattle.guarded_ssa.specs.declared.pass.Pass.{Pass}
use Rattle.guarded_ssa.specs.inner.Registers.{ZerosIn, TreeIn}
use Rattle.guarded_ssa.specs.inner.Held.{IsPlan, SlotIn, PassIn, Passes}

-- a plan, and a slot of its code
pub record SlotOf (p : Plan) (d : List Node) (t : Arena) (s : Slot) : Type 0 where
  pub plan : IsPlan p
  pub within : SlotIn d t p.code.now s

-- a plan, and two trees of its cells that meet
pub record MeetingOf (p : Plan) (d : List Node) (t : Arena) (m : Meeting) : Type 0 where
  pub plan : IsPlan p
  pub zeros : ZerosIn d m.zeros
  pub test : IsWord d m.test 1
  pub first : TreeIn d t p.types.items m.first
  pub second : TreeIn d t p.types.items m.second

-- a plan, and a place of its code that a pass is at
pub record Reached (p : Plan) (d : List Node) (q : Pass) (here : Here) : Type 0 where
  pub plan : IsPlan p
  pub room : here.place + length q.pending.items < 2 ^ 64
  pub within : PassIn d p.code.now q
  pub slot : SlotIn d q.trees p.code.now here.slot

-- an operation has told its events here, and has led to other places
abbrev pub PassesHere : Plan → Here → Operation → (d e : List Node) → (p q : Pass) → Type 0
PassesHere plan here o d e p q = Passes plan.until.items plan.code.now here.place here.variable here.line here.function o here.slot d e p q
