use Rattle.std.proofs.Common.{◌≡◌, true, ◌&&◌, subst}
use Rattle.c_values.specs.Numbers.{are_operands_of}
use Rattle.goto_prog.specs.declared.code.Operation.{Operation}
use Rattle.goto_prog.specs.Fitting.{is_register, is_pointer, operation_fits}
use Rattle.goto_prog.proofs.Registers.{both, moved_parts}
use Rattle.goto_prog.proofs.frame.Frame.calculate.Goals as goal

pub operate-requires-clause-into : goal.operate-requires-clause-into
operate-requires-clause-into c =
    let code = c.args.self.now in
    let a = c.in-Arithmetic in
    let fits = subst (λ (o : Operation). operation_fits code.types code.sizes 0 o ≡ true) a.is c.requires.fits in
    let rest = both (are_operands_of a.operator a.type_ a.right_type && is_register code.types a.into a.type_ && is_register code.types a.left a.type_) (is_register code.types a.right a.right_type) fits in
    let more = both (are_operands_of a.operator a.type_ a.right_type && is_register code.types a.into a.type_) (is_register code.types a.left a.type_) rest.0 in
    let is = both (are_operands_of a.operator a.type_ a.right_type) (is_register code.types a.into a.type_) more.0 in
    rw c.number-a.ensures is.1

pub moved-bits-requires-clause-pointer : goal.moved-bits-requires-clause-pointer
moved-bits-requires-clause-pointer c =
    let m = c.in-Move in
    let f = c.args.self.now in
    let fits = both (is_pointer f.types m.into) (is_pointer f.types m.pointer && is_register f.types m.index m.index_type && is_pointer f.types m.size) (subst (λ (o : Operation). operation_fits f.types f.sizes 0 o ≡ true) m.is c.requires.fits) in
    (moved_parts f.types m.pointer m.index m.size m.index_type fits.1).0

pub moved-bits-requires-clause-index : goal.moved-bits-requires-clause-index
moved-bits-requires-clause-index c =
    let m = c.in-Move in
    let f = c.args.self.now in
    let fits = both (is_pointer f.types m.into) (is_pointer f.types m.pointer && is_register f.types m.index m.index_type && is_pointer f.types m.size) (subst (λ (o : Operation). operation_fits f.types f.sizes 0 o ≡ true) m.is c.requires.fits) in
    (moved_parts f.types m.pointer m.index m.size m.index_type fits.1).1
