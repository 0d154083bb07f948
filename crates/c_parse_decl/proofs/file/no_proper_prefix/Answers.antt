use Rattle.c_parse_decl.proofs.Externals.{no_longer}
use Rattle.c_parse_decl.proofs.file.no_proper_prefix.Goals as goal

pub returns : goal.returns
returns c bytes names a b own others s r = no_longer bytes names a b own others s r
