use Rattle.c_pre.proofs.Opened.{entered_as}
use Rattle.c_pre.proofs.replacing.enter.Goals as goal

pub returns : goal.returns
returns c = entered_as c.args.root c.args.node c.args.opened.now.entries c.insert.new.self.entries c.requires c.in_ok-insert.ensures.entries
