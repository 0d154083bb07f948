use Rattle.std.proofs.Common.{◌≡◌, true, sym, subst}
use Rattle.goto_prog.specs.Frames.{Working}
use Rattle.goto_prog.specs.Fitting.{is_register}
use Rattle.goto_prog.proofs.Registers.{register_below}
use Rattle.goto_prog.proofs.frame.Frame.number.Goals as goal

pub new-requires : goal.new-requires
new-requires c =
    let is : is_register c.self.inside.types.now c.args.from c.args.type_ ≡ true =
    subst (λ (r : Working). is_register r.types c.args.from c.args.type_ ≡ true) (sym c.self.view_is) c.requires in
    rw c.index.ensures (register_below c.self.inside.types.now c.self.inside.registers.items c.args.from c.index.result.now c.args.type_ c.self.invariant.registers is)
