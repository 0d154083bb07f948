use Rattle.std.proofs.Common.{◌<◌, ◌/◌, ◌-◌, refl, arith}
use Rattle.cell_trees.proofs.Levels.{half_size}
use Rattle.cell_trees.proofs.Differing.{grown, one_cell, both_halves}
use Rattle.cell_trees.proofs.arena.Trees.+compare.Goals as goal

pub returns-then-depth-eq0-clause-grows : goal.returns-then-depth-eq0-clause-grows
returns-then-depth-eq0-clause-grows t c = λ n h. grown c.args.base n c.args.cells.now.items c.push.new.self.items c.in_ok-push.ensures.items h

pub returns-then-depth-eq0-clause-same : goal.returns-then-depth-eq0-clause-same
returns-then-depth-eq0-clause-same t c = one_cell c.args.self.now.forks c.args.depth c.args.base c.args.first c.args.second c.args.cells.now.items c.push.new.self.items c.if-depth-eq0.true c.in_ok-push.ensures.items

pub returns-clause-same : goal.returns-clause-same
returns-clause-same t c =
    let some : 0 < c.args.depth = omega (arith, c.if-depth-eq0.false) in
    both_halves c.args.self.now.forks c.args.depth (c.args.depth - 1) (c.args.size / 2) c.args.base c.args.first c.args.second c.halves-one.result c.halves-other.result c.compare.new.cells.items c.compare-2.new.cells.items some refl (half_size c.args.depth c.args.size some c.requires.size)
    c.halves-one.ensures c.halves-other.ensures c.in_ok-compare.ensures.same c.compare-2.ensures.grows c.in_ok-compare-2.ensures.same
