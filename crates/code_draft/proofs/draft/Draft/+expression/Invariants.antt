use Rattle.std.proofs.Common.{◌≡◌, ◌+◌, ◌*◌, max, drop}
use Rattle.core_tree.proofs.expression.CoreExpr.TheLaws.{the_size}
use Rattle.core_tree.proofs.expression.Place.TheLaws as place
use Rattle.core_tree.specs.Trees.{parts_of, arguments_of}
use Rattle.code_draft.specs.Drafts.{after_parts, after_arguments}
use Rattle.code_draft.proofs.draft.Draft.+expression.Given as goal

abbrev pub decreases-expression : goal.decreases-expression
decreases-expression l = 4 * the_size l.expr.now

abbrev pub decreases-choice : goal.decreases-choice
decreases-choice l = 4 * max (the_size l.yes.now) (the_size l.no.now) + 1

abbrev pub decreases-and : goal.decreases-and
decreases-and l = 4 * the_size l.right.now + 1

abbrev pub decreases-or : goal.decreases-or
decreases-or l = 4 * the_size l.right.now + 1

abbrev pub decreases-place : goal.decreases-place
decreases-place l = 4 * goal.size-place l

abbrev pub decreases-reach : goal.decreases-reach
decreases-reach l = 4 * goal.size-reach l + 1

abbrev pub decreases-address : goal.decreases-address
decreases-address l = 4 * goal.size-address l + 1

abbrev pub decreases-read_structure : goal.decreases-read_structure
decreases-read_structure l = 4 * goal.size-read_structure l + 2

abbrev pub decreases-element : goal.decreases-element
decreases-element l = 4 * max (place.the_size l.place.now) (the_size l.index.now) + 1

abbrev pub decreases-subscript : goal.decreases-subscript
decreases-subscript l = 4 * max (the_size l.pointer.now) (the_size l.index.now) + 1

abbrev pub decreases-sum : goal.decreases-sum
decreases-sum l = 4 * max (the_size l.pointer.now) (the_size l.index.now) + 1

abbrev pub decreases-structure : goal.decreases-structure
decreases-structure l = 4 * goal.size-structure l

abbrev pub decreases-temporary : goal.decreases-temporary
decreases-temporary l = 4 * goal.size-temporary l + 1

abbrev pub decreases-member : goal.decreases-member
decreases-member l = 4 * goal.size-member l + 2

abbrev pub decreases-discard_structure : goal.decreases-discard_structure
decreases-discard_structure l = 4 * goal.size-discard_structure l + 2

abbrev pub decreases-parts : goal.decreases-parts
decreases-parts l = 4 * goal.size-parts l + 1

abbrev pub decreases-list_part : goal.decreases-list_part
decreases-list_part l = 4 * goal.size-list_part l

abbrev pub invariant-parts-loop-part : goal.invariant-parts-loop-part
invariant-parts-loop-part l = after_parts l.self l.line (parts_of (drop l.part-index l.parts)) l.into l.at ≡ after_parts l.initial.self l.line (parts_of l.parts) l.into l.at

abbrev pub decreases-call : goal.decreases-call
decreases-call l = 4 * goal.size-call l + 3

abbrev pub decreases-pass : goal.decreases-pass
decreases-pass l = 4 * goal.size-pass l + 2

abbrev pub decreases-arguments : goal.decreases-arguments
decreases-arguments l = 4 * goal.size-arguments l + 1

abbrev pub decreases-argument : goal.decreases-argument
decreases-argument l = 4 * goal.size-argument l

abbrev pub invariant-arguments-loop-argument : goal.invariant-arguments-loop-argument
invariant-arguments-loop-argument l = after_arguments l.self (arguments_of (drop l.argument-index l.arguments)) l.block ≡ after_arguments l.initial.self (arguments_of l.arguments) l.first
