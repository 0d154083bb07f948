use Rattle.std.proofs.Common.{◌-◌, ◌/◌, refl, ap, ◌∙◌}
use Rattle.cell_trees.specs.declared.arena.Halves.{Halves}
use Rattle.cell_trees.specs.Trees.{looked_at}
use Rattle.cell_trees.proofs.Levels.{half_size, look_lower, look_upper}
use Rattle.cell_trees.proofs.arena.Trees.look.Goals as goal

pub loop-depth-preserved-then-left-size : goal.loop-depth-preserved-then-left-size
loop-depth-preserved-then-left-size c =
    let size = half_size c.loop-depth.depth c.loop-depth.size c.loop-depth-test.true c.loop-depth.invariant.size in
    record {
      size = size;
      same = ap (λ (p : Halves). looked_at c.args.self.now.forks (c.loop-depth.depth - 1) p.lower c.loop-depth.left) c.halves-halves.ensures
          ∙ look_lower c.args.self.now.forks c.loop-depth.depth (c.loop-depth.depth - 1) (c.loop-depth.size / 2) c.loop-depth.here c.loop-depth.left c.loop-depth-test.true refl size c.if-left-size.true ∙ c.loop-depth.invariant.same;
    }

pub loop-depth-preserved : goal.loop-depth-preserved
loop-depth-preserved c =
    let size = half_size c.loop-depth.depth c.loop-depth.size c.loop-depth-test.true c.loop-depth.invariant.size in
    record {
      size = size;
      same = ap (λ (p : Halves). looked_at c.args.self.now.forks (c.loop-depth.depth - 1) p.upper (c.loop-depth.left - c.loop-depth.size / 2)) c.halves-halves.ensures
          ∙ look_upper c.args.self.now.forks c.loop-depth.depth (c.loop-depth.depth - 1) (c.loop-depth.size / 2) c.loop-depth.here c.loop-depth.left c.loop-depth-test.true refl size c.if-left-size.false ∙ c.loop-depth.invariant.same;
    }
