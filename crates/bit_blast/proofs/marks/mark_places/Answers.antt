use Rattle.std.proofs.Common.{◌+◌, ◌<◌, refl, length, arith}
use Rattle.word_dag.proofs.Places.{each_place}
use Rattle.bit_blast.proofs.Marked.{marks_more, marked_inside}
use Rattle.bit_blast.proofs.marks.mark_places.Goals as goal

pub overflow_add-first : goal.overflow_add-first
overflow_add-first c =
    let here : c.args.first + c.loop-at.at < length c.args.marks.now.items = each_place (λ j. j < length c.args.marks.now.items) c.args.first c.args.count c.loop-at.at c.loop-at-test.true c.requires in
    omega (arith, here, c.args.marks.now.ok.0)

pub index_mut-requires : goal.index_mut-requires
index_mut-requires c =
    let here : c.args.first + c.loop-at.at < length c.args.marks.now.items = each_place (λ j. j < length c.args.marks.now.items) c.args.first c.args.count c.loop-at.at c.loop-at-test.true c.requires in
    let inside : c.args.first + c.loop-at.at < length c.loop-at.marks.items = marked_inside c.args.marks.now.items c.loop-at.marks.items c.args.first c.loop-at.at (c.args.first + c.loop-at.at) c.loop-at.invariant here in
    grind (arith, inside, c.loop-at.marks.ok.0, c.loop-at.marks.ok.1)

pub loop-at-preserved : goal.loop-at-preserved
loop-at-preserved c = marks_more c.args.marks.now.items c.loop-at.marks.items _ c.args.first c.loop-at.at (c.args.first + c.loop-at.at) c.loop-at.invariant refl refl
