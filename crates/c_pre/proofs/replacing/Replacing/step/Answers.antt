use Rattle.c_pre.specs.Views.{macros_in}
use Rattle.c_pre.specs.Waiting.{list_of}
use Rattle.c_pre.specs.Known.{fates_in, opens_of}
use Rattle.c_pre.proofs.Told.{next_told}
use Rattle.c_pre.proofs.Turning.{step_done}
use Rattle.c_pre.proofs.replacing.Replacing.step.Goals as goal

pub turn-requires-clause-told : goal.turn-requires-clause-told
turn-requires-clause-told c =
    (next_told c.args.bytes.now (macros_in c.args.macros.now.entries) (fates_in c.args.known.now.fates.entries) (list_of c.args.rest.tokens) (list_of c.in-Some.behind) c.in-Some.token c.in-Some.ensures c.requires.told).0

pub returns-in-None-clause-goes : goal.returns-in-None-clause-goes
returns-in-None-clause-goes c =
    step_done c.args.bytes.now (macros_in c.args.macros.now.entries) c.args.known.now.nodes.items c.args.rest c.args.self.now.rests.items (opens_of c.args.self.now.opened.entries) (opens_of c.leave.new.opened.entries) c.args.out.now.items
    c.in-None.ensures c.leave.ensures
