use Rattle.std.proofs.Common.{refl, sym, ◌∙◌}
use Rattle.object_memory.proofs.ReadWords.{sizing_first, sizing_more, sizing_all, last_of}
use Rattle.object_memory.proofs.reading.found_size.Goals as goal

pub looking-init : goal.looking-init
looking-init c = sizing_first c.args.dag.now c.args.places.now c.args.hits.now _ _ c.index-places-last.result _ c.requires.places c.requires.hits (last_of _ (sym c.if-is_empty.false ∙ c.is_empty.ensures)) refl

pub looking-preserved : goal.looking-preserved
looking-preserved c =
    sizing_more c.args.dag.now c.looking.dag c.chosen.new.dag c.args.places.now c.args.hits.now _ _ c.index-places-hit.result c.looking.size c.in_ok-size.size c.looking.left _ c.requires.places c.requires.hits c.looking.invariant c.looking-test.true refl refl c.chosen.ensures.extends c.in_ok-size.ensures.made

pub returns-clause-value : goal.returns-clause-value
returns-clause-value c = sizing_all c.args.dag.now c.looking.dag c.args.guard c.args.places.now c.args.hits.now c.looking.size c.side.result c.looking.left c.looking-test.false c.looking.invariant c.requires.guard c.side.ensures
