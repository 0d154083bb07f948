use Rattle.std.proofs.Common.{◌∙◌, ap, refl, List, ℕ, arith}
use Rattle.core_tree.specs.declared.bounds.LoopBound.{LoopBound}
use Rattle.core_tree.specs.Ranges.{loop_limit}
use Rattle.options.specs.declared.loops.Loop.{Loop}
use Rattle.options.specs.contracts.loops.LoopPartialEq.TheImpl.{eq-value}
use Rattle.options.specs.Cut.{Key, key}
use Rattle.options.proofs.Once.{new_step, old_step}
use Rattle.options.proofs.loops.once.Goals as goal

pub returns-then-not-is_new-clause-usage : goal.returns-then-not-is_new-clause-usage
returns-then-not-is_new-clause-usage c =
    let new : Loop = record { function = c.as_slice.result; number = c.bound-item.result.number } in
    λ u. old_step c.args.bounds.now c.loop-bound.bound-index c.bound-item.result (omega arith) c.loop-bound.seen.keys new (eq-value.it new) c.loop-bound.invariant
    (let named : Key → Key = λ k. k in
    ap (λ (f : List ℕ). named (record { function = f; number = c.bound-item.result.number })) c.as_slice.ensures.value ∙ ap (λ (b : LoopBound). key (loop_limit b)) c.bound-item.is) (λ m. refl) c.in_ok-is_new.is_new c.in_ok-is_new.ensures.added c.if-not-is_new.true

pub loop-bound-preserved : goal.loop-bound-preserved
loop-bound-preserved c =
    let new : Loop = record { function = c.as_slice.result; number = c.bound-item.result.number } in
    new_step c.args.bounds.now c.loop-bound.bound-index c.bound-item.result (omega arith) c.loop-bound.seen.keys new (eq-value.it new) c.loop-bound.invariant
    (let named : Key → Key = λ k. k in
    ap (λ (f : List ℕ). named (record { function = f; number = c.bound-item.result.number })) c.as_slice.ensures.value ∙ ap (λ (b : LoopBound). key (loop_limit b)) c.bound-item.is) (λ m. refl) c.insert_full.new.self.keys c.in_ok-is_new.is_new c.in_ok-is_new.ensures.added c.if-not-is_new.false c.in_ok-is_new.ensures.keys
