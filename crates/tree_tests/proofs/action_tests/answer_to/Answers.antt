use Rattle.std.proofs.Common.{ap, ◌∙◌}
use Rattle.actions.specs.declared.action.Action.{Action}
use Rattle.actions.specs.declared.action.Answer.TheVariants.{Bytes}
use Rattle.actions.specs.Behaviour.{bytes, shape_of, has_shape}
use Rattle.tree_tests.proofs.Zeros.{zero_bytes}
use Rattle.tree_tests.proofs.action_tests.answer_to.Goals as goal

pub returns-in_ok-vec-in-Read : goal.returns-in_ok-vec-in-Read
returns-in_ok-vec-in-Read c =
    ap (λ (a : Action). has_shape (shape_of a) (Bytes c.new.result)) c.in-Read.is
    ∙ ap (λ bs. has_shape (bytes c.in-Read.count) (Bytes bs)) (c.new.ensures ∙ c.in_ok-vec-in-Read.ensures.items_if_clones_equal (λ y e. e))
    ∙ zero_bytes c.in-Read.count
