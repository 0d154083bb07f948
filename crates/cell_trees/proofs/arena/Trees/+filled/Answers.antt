use Rattle.std.proofs.Common.{◌+◌, ◌<◌, ◌≤◌, ◌-◌, ◌/◌, refl, arith}
use Rattle.cell_trees.proofs.Levels.{empty_there, half_size, whole_size}
use Rattle.cell_trees.proofs.Filling.{filled_none, lower_done, upper_done, both_done, upper_tree}
use Rattle.cell_trees.proofs.arena.Trees.+filled.Goals as goal

pub returns-then-from-new-clause-tree : goal.returns-then-from-new-clause-tree
returns-then-from-new-clause-tree t c = empty_there c.args.self.now.forks c.args.depth

pub returns-then-from-new-clause-filled : goal.returns-then-from-new-clause-filled
returns-then-from-new-clause-filled t c = filled_none c.args.self.now.forks c.args.self.now.forks c.args.depth c.args.root _ _ _ c.args.size _ c.requires.size c.if-count-size.true c.requires.within (omega (arith, c.if-from-new.true))

pub returns-then-at-count-clause-filled : goal.returns-then-at-count-clause-filled
returns-then-at-count-clause-filled t c =
    let some : 0 < c.args.depth = omega (arith, c.if-depth-eq0.false) in
    (lower_done c.args.self.now c.joined.new.self c.args.depth (c.args.size / 2) c.args.root c.in_ok-root-2.root c.halves-halves.result c.args.at c.args.from c.args.count c.args.new.now some (half_size c.args.depth c.args.size some c.requires.size) c.requires.root c.halves-halves.ensures c.in_ok-root-2.ensures.there
    c.filled.new.self c.in_ok-lower.lower c.filled.ensures.keeps c.joined.ensures.keeps c.in_ok-lower.ensures.tree c.in_ok-lower.ensures.filled c.in_ok-root-2.ensures.halves c.if-at-count.true).1

pub returns-then-half-at-clause-tree : goal.returns-then-half-at-clause-tree
returns-then-half-at-clause-tree t c =
    let some : 0 < c.args.depth = omega (arith, c.if-depth-eq0.false) in
    (upper_done c.args.self.now c.joined-then-half-at.new.self c.args.depth (c.args.size / 2) c.args.root c.in_ok-root-3.root c.halves-halves.result c.args.at c.args.from c.args.count c.args.new.now some (half_size c.args.depth c.args.size some c.requires.size) c.requires.root c.halves-halves.ensures c.in_ok-root-3.ensures.there
    c.filled-then-half-at.new.self c.in_ok-upper.upper c.filled-then-half-at.ensures.keeps c.joined-then-half-at.ensures.keeps c.in_ok-upper.ensures.tree c.in_ok-upper.ensures.filled c.in_ok-root-3.ensures.halves c.if-half-at.true).0

pub returns-then-half-at-clause-filled : goal.returns-then-half-at-clause-filled
returns-then-half-at-clause-filled t c =
    let some : 0 < c.args.depth = omega (arith, c.if-depth-eq0.false) in
    (upper_done c.args.self.now c.joined-then-half-at.new.self c.args.depth (c.args.size / 2) c.args.root c.in_ok-root-3.root c.halves-halves.result c.args.at c.args.from c.args.count c.args.new.now some (half_size c.args.depth c.args.size some c.requires.size) c.requires.root c.halves-halves.ensures c.in_ok-root-3.ensures.there
    c.filled-then-half-at.new.self c.in_ok-upper.upper c.filled-then-half-at.ensures.keeps c.joined-then-half-at.ensures.keeps c.in_ok-upper.ensures.tree c.in_ok-upper.ensures.filled c.in_ok-root-3.ensures.halves c.if-half-at.true).1

pub returns-clause-tree : goal.returns-clause-tree
returns-clause-tree t c =
    let some : 0 < c.args.depth = omega (arith, c.if-depth-eq0.false) in
    (both_done c.args.self.now c.joined-2.new.self c.args.depth (c.args.size / 2) c.args.root c.in_ok-root-4.root c.halves-halves.result c.args.at c.args.from c.args.count c.args.new.now some (half_size c.args.depth c.args.size some c.requires.size) c.requires.root c.halves-halves.ensures c.in_ok-root-4.ensures.there
    c.filled-2.new.self c.filled-3.new.self c.in_ok-lower-2.lower c.in_ok-upper-2.upper (c.args.size / 2 - c.args.at) c.filled-2.ensures.keeps c.filled-3.ensures.keeps c.joined-2.ensures.keeps c.in_ok-lower-2.ensures.tree c.in_ok-upper-2.ensures.tree refl c.in_ok-lower-2.ensures.filled c.in_ok-upper-2.ensures.filled
    c.in_ok-root-4.ensures.halves (omega (arith, c.if-half-at.false)) (omega (arith, c.if-at-count.false))).0

pub returns-clause-filled : goal.returns-clause-filled
returns-clause-filled t c =
    let some : 0 < c.args.depth = omega (arith, c.if-depth-eq0.false) in
    (both_done c.args.self.now c.joined-2.new.self c.args.depth (c.args.size / 2) c.args.root c.in_ok-root-4.root c.halves-halves.result c.args.at c.args.from c.args.count c.args.new.now some (half_size c.args.depth c.args.size some c.requires.size) c.requires.root c.halves-halves.ensures c.in_ok-root-4.ensures.there
    c.filled-2.new.self c.filled-3.new.self c.in_ok-lower-2.lower c.in_ok-upper-2.upper (c.args.size / 2 - c.args.at) c.filled-2.ensures.keeps c.filled-3.ensures.keeps c.joined-2.ensures.keeps c.in_ok-lower-2.ensures.tree c.in_ok-upper-2.ensures.tree refl c.in_ok-lower-2.ensures.filled c.in_ok-upper-2.ensures.filled
    c.in_ok-root-4.ensures.halves (omega (arith, c.if-half-at.false)) (omega (arith, c.if-at-count.false))).1

pub filled-requires-3 : goal.filled-requires-3
filled-requires-3 t c =
    let some : 0 < c.args.depth = omega (arith, c.if-depth-eq0.false) in
    let size = half_size c.args.depth c.args.size some c.requires.size in
    let front : 0 < c.args.count - (c.args.size / 2 - c.args.at) = omega (arith, c.if-at-count.false) in
    let within : 0 + (c.args.count - (c.args.size / 2 - c.args.at)) ≤ c.args.size / 2 = omega (arith, c.if-half-at.false, c.requires.within, c.requires.size, whole_size c.args.depth (c.args.size / 2) some size) in
    let room : c.args.from + (c.args.size / 2 - c.args.at) + (c.args.count - (c.args.size / 2 - c.args.at)) < 18446744073709551616 = omega (arith, c.requires.room, c.if-at-count.false) in
    let tree = upper_tree c.args.self.now c.filled-2.new.self c.args.depth c.args.root c.halves-halves.result some c.requires.root c.halves-halves.ensures c.filled-2.ensures.keeps in
    (omega (arith, some, c.decreases), (size, (front, (within, (room, tree)))))
