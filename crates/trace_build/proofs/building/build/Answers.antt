use Rattle.core_tree.specs.Trees.{view_core}
use Rattle.word_dag.specs.Meaning.{valuation_of}
use Rattle.c_meaning.specs.Source.{source_world}
use Rattle.trace_build.proofs.Replayed.{collected_replays}
use Rattle.trace_build.proofs.building.build.Goals as goal

pub returns-clause-replays : goal.returns-clause-replays
returns-clause-replays c =
    collected_replays (source_world (view_core c.args.file.now) c.args.bounds.now) c.args.dag.now c.args.formula.now.goal c.args.formula.now.form c.requires.formula (valuation_of c.args.valuation.now) c.requires.satisfied
    c.in_ok-inputs.field-0 c.in_ok-walk.walk.words.items c.new.result c.in_ok-walk.walk.turns.items c.in_ok-walk.check c.in_ok-inputs.ensures c.new.ensures c.in_ok-walk.ensures
