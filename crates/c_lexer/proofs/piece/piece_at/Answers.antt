use Rattle.std.proofs.Common.{sym}
use Rattle.c_lexer.proofs.Comments.{not_end}
use Rattle.c_lexer.proofs.Standing.{token_stands_fits}
use Rattle.c_lexer.proofs.piece.piece_at.Goals as goal

pub returns-in-End-clause-stands : goal.returns-in-End-clause-stands
returns-in-End-clause-stands c = absurd (not_end c.args.text.now c.requires (sym c.in-End.ensures))

pub returns-in-Token-clause-within : goal.returns-in-Token-clause-within
returns-in-Token-clause-within c = token_stands_fits c.args.behind_prefix c.args.text.now c.token_at.result c.token_at.ensures
