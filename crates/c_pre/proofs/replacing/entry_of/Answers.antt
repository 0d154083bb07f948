use Rattle.std.proofs.Common.{◌∙◌}
use Rattle.c_pre.proofs.Opened.{lookup_reverse}
use Rattle.c_pre.proofs.replacing.entry_of.Goals as goal

pub returns : goal.returns
returns c = c.copied.ensures ∙ c.get.ensures.value ∙ lookup_reverse c.args.root c.args.opened.now.entries c.requires
