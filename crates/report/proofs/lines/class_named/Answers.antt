use Rattle.report.proofs.NamedClasses.{found_class}
use Rattle.report.proofs.lines.class_named.Goals as goal

pub returns : goal.returns
returns c = found_class c.args.name.now c.class_listed.result c.class_listed.ensures
