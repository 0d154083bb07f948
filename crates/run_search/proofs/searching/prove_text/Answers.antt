use Rattle.actions.proofs.ByteLists.{are_bytes-fits}
use Rattle.run_search.proofs.searching.prove_text.Goals as goal

pub returns : goal.returns
returns c = are_bytes-fits c.args._text.now c.type_inv._text
