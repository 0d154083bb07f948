use Rattle.std.proofs.Common.{ap, sym, ◌∙◌, subst, arith}
use Rattle.c_types.specs.declared.types.Ty.{Ty}
use Rattle.c_types.specs.Types.{CType, view, array}
use Rattle.c_types.specs.Layouts.{size_of, is_sized}
use Rattle.c_types.proofs.Elements.{Counted, counted_begins, counted_more, counted_size}
use Rattle.c_types.proofs.sizes.total_size.Goals as goal

pub loop-inner-init : goal.loop-inner-init
loop-inner-init c = (counted_begins c.args.layouts.now.done (view c.args.type_.now) c.prove_built.ensures, omega arith, omega arith)

pub bytes_of-requires-in-Integer-clause-within : goal.bytes_of-requires-in-Integer-clause-within
bytes_of-requires-in-Integer-clause-within c = counted_size c.args.layouts.now.done (view c.args.type_.now) (view c.loop-inner.inner.now) c.loop-inner.all c.loop-inner.most c.size.result c.prove_built.ensures
    c.loop-inner.invariant.0 (ap (λ (t : Ty). is_sized c.args.layouts.now.done (view t)) c.in-Integer.is) (c.size.ensures.is ∙ sym (ap (λ (t : Ty). size_of c.args.layouts.now.done (view t)) c.in-Integer.is))

pub bytes_of-requires-in-Record-clause-within : goal.bytes_of-requires-in-Record-clause-within
bytes_of-requires-in-Record-clause-within c = counted_size c.args.layouts.now.done (view c.args.type_.now) (view c.loop-inner.inner.now) c.loop-inner.all c.loop-inner.most c.record_size.result c.prove_built.ensures
    c.loop-inner.invariant.0 (ap (λ (t : Ty). is_sized c.args.layouts.now.done (view t)) c.in-Record.is) (c.record_size.ensures.is ∙ sym (ap (λ (t : Ty). size_of c.args.layouts.now.done (view t)) c.in-Record.is))

pub bytes_of-requires-in-Pointer-clause-within : goal.bytes_of-requires-in-Pointer-clause-within
bytes_of-requires-in-Pointer-clause-within c = counted_size c.args.layouts.now.done (view c.args.type_.now) (view c.loop-inner.inner.now) c.loop-inner.all c.loop-inner.most 8 c.prove_built.ensures
    c.loop-inner.invariant.0 (ap (λ (t : Ty). is_sized c.args.layouts.now.done (view t)) c.in-Pointer.is) (sym (ap (λ (t : Ty). size_of c.args.layouts.now.done (view t)) c.in-Pointer.is))

pub loop-inner-preserved : goal.loop-inner-preserved
loop-inner-preserved c = let is = ap view c.in-Array.is ∙ ap (λ (t : Ty). array (view t) c.in-Array.length) (sym c.deref-inner.ensures) in (
  counted_more c.args.layouts.now.done (view c.args.type_.now) (view c.deref-inner.result.now) c.in-Array.length c.loop-inner.all c.loop-inner.most c.elements-all.result c.most_elements-most.result
      c.prove_built.ensures (subst (λ (t : CType). Counted c.args.layouts.now.done (view c.args.type_.now) t c.loop-inner.all c.loop-inner.most) is c.loop-inner.invariant.0)
      c.elements-all.ensures.same c.most_elements-most.ensures.keeps,
  c.elements-all.ensures.small,
  c.most_elements-most.ensures.small,
)
