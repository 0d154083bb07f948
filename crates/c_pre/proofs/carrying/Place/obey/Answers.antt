use Rattle.c_pre.specs.Known.{findings_of}
use Rattle.c_pre.proofs.Keeping.{keeps_on}
use Rattle.c_pre.proofs.carrying.Place.obey.Goals as goal

pub returns-in-Ifdef-clause-keeps : goal.returns-in-Ifdef-clause-keeps
returns-in-Ifdef-clause-keeps c =
    keeps_on c.args.frame.bytes.now c.args.self.now.macros.entries c.test.new.self.macros.entries (findings_of c.args.self.now.known) (findings_of c.test.new.self.known) c.test.result c.test.ensures.macros c.test.ensures.known

pub returns-in-Ifndef-clause-keeps : goal.returns-in-Ifndef-clause-keeps
returns-in-Ifndef-clause-keeps c =
    keeps_on c.args.frame.bytes.now c.args.self.now.macros.entries c.test-in-Ifndef.new.self.macros.entries (findings_of c.args.self.now.known) (findings_of c.test-in-Ifndef.new.self.known) c.test-in-Ifndef.result c.test-in-Ifndef.ensures.macros c.test-in-Ifndef.ensures.known

pub returns-in-Else-clause-keeps : goal.returns-in-Else-clause-keeps
returns-in-Else-clause-keeps c =
    keeps_on c.args.frame.bytes.now c.args.self.now.macros.entries c.alternate.new.self.macros.entries (findings_of c.args.self.now.known) (findings_of c.alternate.new.self.known) c.alternate.result c.alternate.ensures.macros c.alternate.ensures.known

pub returns-in-Endif-clause-keeps : goal.returns-in-Endif-clause-keeps
returns-in-Endif-clause-keeps c =
    keeps_on c.args.frame.bytes.now c.args.self.now.macros.entries c.close.new.self.macros.entries (findings_of c.args.self.now.known) (findings_of c.close.new.self.known) c.close.result c.close.ensures.macros c.close.ensures.known
