use Rattle.std.proofs.Common.{◌≡◌, true, subst}
use Rattle.goto_prog.specs.declared.code.Condition.{Condition}
use Rattle.goto_prog.specs.Fitting.{check_fits}
use Rattle.goto_prog.proofs.Registers.{moved_parts}
use Rattle.goto_prog.proofs.frame.Frame.condition_class.Goals as goal

pub range_class-requires-clause-size : goal.range_class-requires-clause-size
range_class-requires-clause-size c =
    let m = c.in-Within in
    let ts = c.args.self.now.types in
    (moved_parts ts m.pointer m.index m.size m.index_type (subst (λ (k : Condition). check_fits ts k ≡ true) m.is c.requires)).2

pub range_class-requires-clause-index : goal.range_class-requires-clause-index
range_class-requires-clause-index c =
    let m = c.in-Within in
    let ts = c.args.self.now.types in
    (moved_parts ts m.pointer m.index m.size m.index_type (subst (λ (k : Condition). check_fits ts k ≡ true) m.is c.requires)).1
