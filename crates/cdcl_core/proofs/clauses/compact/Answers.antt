use Rattle.std.proofs.Common.{◌+◌, ◌<◌, List, Bool, Vec, Global, length, ap, ◌∙◌, arith}
use Rattle.cdcl_core.proofs.Storing.{compacted, compact_keep, compact_skip, compact_end}
use Rattle.cdcl_core.proofs.clauses.compact.Goals as goal
use Rattle.cdcl_core.proofs.clauses.compact.Goals.{then-not-marks-place, else-not-marks-place}

pub loop-place-preserved : goal.loop-place-preserved
loop-place-preserved g c =
    let marks : List Bool = c.args.marks.now in
    let within : c.loop-place.place < length c.args.items.now.items = omega (arith, c.loop-place-test.true, c.len-place-end.ensures) in
    elim c.if-not-marks-place.branch [
      | then-not-marks-place w ↦
          compacted marks c.args.items.now.items _ _ _ _ (c.loop-place.place + 1) (ap (λ (v : Vec g.row.T.Denot Global). v.items) w.items-is ∙ w.swap.ensures.items) w.kept-is
          (compact_keep marks c.args.items.now.items c.loop-place.items.items c.loop-place.kept c.loop-place.place c.loop-place.invariant c.requires within w.if-not-marks-place.true)
      | else-not-marks-place w ↦
          compacted marks c.args.items.now.items _ _ _ _ (c.loop-place.place + 1) (ap (λ (v : Vec g.row.T.Denot Global). v.items) w.items-is) w.kept-is
          (compact_skip marks c.args.items.now.items c.loop-place.items.items c.loop-place.kept c.loop-place.place c.loop-place.invariant w.if-not-marks-place.false)
    ]

pub returns : goal.returns
returns g c =
    c.truncate.ensures.items
    ∙ compact_end c.args.marks.now c.args.items.now.items c.loop-place.items.items c.loop-place.kept c.loop-place.place c.loop-place.invariant c.requires (omega (arith, c.loop-place-test.false, c.len-place-end.ensures))
