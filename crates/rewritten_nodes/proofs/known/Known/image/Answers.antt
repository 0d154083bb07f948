use Rattle.rewritten_nodes.proofs.Standing.{image_there}
use Rattle.rewritten_nodes.proofs.known.Known.image.Goals as goal

pub returns-clause-there : goal.returns-clause-there
returns-clause-there c = image_there c.grow.new.dag c.grow.new.self c.args.id c.index.result.now c.in_ok-grow.ensures.within c.in_ok-grow.ensures.reached c.index.ensures
