use Rattle.std.proofs.Common.{◌≡◌, true, ◌&&◌, subst}
use Rattle.goto_prog.specs.declared.code.Operation.{Operation}
use Rattle.goto_prog.specs.Fitting.{is_pointer, is_register, operation_fits}
use Rattle.goto_prog.proofs.Registers.{both, moved_parts}
use Rattle.goto_prog.proofs.frame.Frame.own_class.Goals as goal

pub range_class-requires-clause-pointer : goal.range_class-requires-clause-pointer
range_class-requires-clause-pointer c =
    let m = c.in-Move in
    let f = c.args.self.now in
    let fits = both (is_pointer f.types m.into) (is_pointer f.types m.pointer && is_register f.types m.index m.index_type && is_pointer f.types m.size) (subst (λ (o : Operation). operation_fits f.types f.sizes 0 o ≡ true) m.is c.requires.fits) in
    (moved_parts f.types m.pointer m.index m.size m.index_type fits.1).0

pub range_class-requires-clause-size : goal.range_class-requires-clause-size
range_class-requires-clause-size c =
    let m = c.in-Move in
    let f = c.args.self.now in
    let fits = both (is_pointer f.types m.into) (is_pointer f.types m.pointer && is_register f.types m.index m.index_type && is_pointer f.types m.size) (subst (λ (o : Operation). operation_fits f.types f.sizes 0 o ≡ true) m.is c.requires.fits) in
    (moved_parts f.types m.pointer m.index m.size m.index_type fits.1).2

pub range_class-requires-clause-index : goal.range_class-requires-clause-index
range_class-requires-clause-index c =
    let m = c.in-Move in
    let f = c.args.self.now in
    let fits = both (is_pointer f.types m.into) (is_pointer f.types m.pointer && is_register f.types m.index m.index_type && is_pointer f.types m.size) (subst (λ (o : Operation). operation_fits f.types f.sizes 0 o ≡ true) m.is c.requires.fits) in
    (moved_parts f.types m.pointer m.index m.size m.index_type fits.1).1
