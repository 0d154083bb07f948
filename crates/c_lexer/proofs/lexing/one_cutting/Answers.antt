use Rattle.c_lexer.specs.Cutting.{bytes_of, lines_of, start}
use Rattle.c_lexer.proofs.One.{cuts_once}
use Rattle.c_lexer.proofs.lexing.one_cutting.Goals as goal

pub returns : goal.returns
returns c = λ file a b h k. cuts_once (bytes_of file) (lines_of file) start a b h k
