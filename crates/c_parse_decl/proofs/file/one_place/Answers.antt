use Rattle.c_tree.specs.Names.{built_in_names}
use Rattle.c_parse_decl.proofs.Externals.{same_end}
use Rattle.c_parse_decl.proofs.file.one_place.Goals as goal

pub returns : goal.returns
returns c bytes tokens a b s r = (same_end bytes s.tree r.tree built_in_names tokens a b s.before r.before s.none r.none).1
