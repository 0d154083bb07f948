use Rattle.std.proofs.Common.{sym, ◌∙◌}
use Rattle.c_lexer.specs.Constants.{number}
use Rattle.c_lexer.proofs.Typed.{too_great}
use Rattle.c_lexer.proofs.constant.typed.Goals as goal

pub returns-in_err-value : goal.returns-in_err-value
returns-in_err-value c =
    c.from_residual.ensures ∙ sym (too_great c.args.base c.args.suffix (number c.args.base c.args.digits.now) c.in_err-value.ensures)
