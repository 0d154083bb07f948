use Rattle.std.proofs.Common.{◌*◌, subst, true, false, [], Some, length, refl, ap, ◌∙◌}
use Rattle.std.specs.Prelude.{is_some}
use Rattle.actions.specs.StoredObject.{stored}
use Rattle.actions.specs.declared.store.AccessError.{AccessError}
use Rattle.actions.specs.Objects.{read, HasCause}
use Rattle.object_memory.proofs.Starts.{start_spot, start_broken}
use Rattle.object_memory.proofs.making.first_place.Goals as goal

pub returns-in_ok-place-in-Ok-clause-spot : goal.returns-in_ok-place-in-Ok-clause-spot
returns-in_ok-place-in-Ok-clause-spot c =
    start_spot c.constant_place.new.dag c.args.store.now c.in_ok-place-in-Ok.place c.args.number _ c.size_of-size.result c.is_some-readonly.result _ refl c.size_of-size.ensures (c.is_some-readonly.ensures ∙ ap is_some c.break_of.ensures) c.in-Ok.ensures.ok
    (λ v. c.in_ok-place-in-Ok.ensures.spot v ∙ (λ i. Some (record { number = c.args.number; object = stored (length (c.as_slice.ensures i)) [] true c.is_some-readonly.result false (c.as_slice.ensures i) })))

pub returns-in_ok-place-in-Err-Broken-clause-spot : goal.returns-in_ok-place-in-Err-Broken-clause-spot
returns-in_ok-place-in-Err-Broken-clause-spot c = λ o positive found first v.
    start_broken c.args.store.now c.args.number (c.args.number * 4294967296) c.size_of-size.result c.in-Err-Broken.field-0-0 o refl c.size_of-size.ensures
    (subst (λ (e : AccessError). HasCause e (read c.args.store.now (c.args.number * 4294967296) c.size_of-size.result)) c.in-Err-Broken.field-0-is c.in-Err-Broken.ensures.cause) positive found first
