use Rattle.std.proofs.Common.{ap, ◌∙◌, List, arith}
use Rattle.std.specs.Prelude.{option_map}
use Rattle.c_tree.specs.Declarations.{view_initializer}
use Rattle.properties.specs.declared.spots.Spot.{Spot}
use Rattle.properties.specs.Spots.{with_initializer}
use Rattle.properties.proofs.Behind.{by_declarator, declarators_in_turn, one_more, at_end}
use Rattle.properties.proofs.declarations.push_declarators.Goals as goal

pub loop-declarator-preserved : goal.loop-declarator-preserved
loop-declarator-preserved c =
    one_more by_declarator _ _ _ c.args.declarators.now c.loop-declarator.declarator-index c.declarator-item.result (omega arith) c.loop-declarator.invariant c.declarator-item.is
    (c.in_ok-push_initializer.ensures ∙ ap (λ (b : List Spot). with_initializer b (option_map view_initializer c.declarator-item.result.initializer)) c.in_ok-push_full.ensures)

pub returns : goal.returns
returns c = at_end by_declarator _ _ _ c.args.declarators.now c.loop-declarator.declarator-index c.loop-declarator-test.false c.loop-declarator.invariant (declarators_in_turn _ c.args.declarators.now)
