use Rattle.c_parse_decl.proofs.Externals.{file_same}
use Rattle.c_parse_decl.proofs.file.one_file.Goals as goal

pub returns : goal.returns
returns c bytes tokens a b f g = file_same bytes tokens a b f g
