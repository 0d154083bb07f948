use Rattle.std.proofs.Common.{sym}
use Rattle.c_lexer.proofs.Standing.{token_nonempty, token_no_space, begins_letter, begins_quote, begins_digit}
use Rattle.c_lexer.proofs.piece.token_end.Goals as goal

pub bounds-text-0 : goal.bounds-text-0
bounds-text-0 c = token_nonempty c.args.text.now c.requires

pub word_end-requires : goal.word_end-requires
word_end-requires c = begins_letter c.args.text.now (token_nonempty c.args.text.now c.requires) (sym c.in-Letter.ensures)

pub number_end-requires : goal.number_end-requires
number_end-requires c = begins_digit c.args.text.now (token_nonempty c.args.text.now c.requires) (sym c.in-Digit.ensures)

pub literal_end-requires : goal.literal_end-requires
literal_end-requires c = begins_quote c.args.text.now (token_nonempty c.args.text.now c.requires) (sym c.in-Quote.ensures)

pub returns-in-Space : goal.returns-in-Space
returns-in-Space c = absurd (token_no_space c.args.text.now c.requires (sym c.in-Space.ensures))
