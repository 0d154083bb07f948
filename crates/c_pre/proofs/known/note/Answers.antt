use Rattle.c_pre.proofs.After.{note_as}
use Rattle.c_pre.proofs.known.note.Goals as goal

pub returns : goal.returns
returns c = note_as c.args.fates.now.entries c.insert.new.self.entries c.args.name c.args.fate c.in_ok-insert.ensures.entries
