use Rattle.std.proofs.Common.{◌≡◌, ◌<◌, Some, sym, ap, ◌∙◌, arith}
use Rattle.std.specs.Prelude.{option_map}
use Rattle.goto_prog.specs.CursorViews.{level_of}
use Rattle.goto_prog.specs.ProgramViews.{bounded_by}
use Rattle.goto_prog.specs.Walking.{first_level}
use Rattle.goto_prog.proofs.LoopSteps.{goes_round, stops_unwind}
use Rattle.goto_prog.proofs.activation.Activation.end_round.Goals as goal

pub returns-then-level-eq0 : goal.returns-then-level-eq0
returns-then-level-eq0 c =
    let l = level_of c.in-Some.level in
    let found : first_level c.args.self.now.place.levels ≡ Some l = sym c.level.ensures ∙ ap (option_map level_of) c.in-Some.is in
    rw c.passed.ensures (stops_unwind (bounded_by c.args.program.now) c.args.self.now l c.requires found c.if-level-eq0.true)

pub returns-else-level-eq0 : goal.returns-else-level-eq0
returns-else-level-eq0 c =
    let l = level_of c.in-Some.level in
    let found : first_level c.args.self.now.place.levels ≡ Some l = sym c.level.ensures ∙ ap (option_map level_of) c.in-Some.is in
    let more : 0 < l.left = omega (arith, c.if-level-eq0.false) in
    rw c.again.ensures (goes_round (bounded_by c.args.program.now) c.args.self.now l c.requires found more)
