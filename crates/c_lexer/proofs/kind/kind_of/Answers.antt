use Rattle.std.proofs.Common.{sym, ◌∙◌}
use Rattle.c_lexer.proofs.Standing.{token_text_nonempty, letter_kind, digit_kind, quote_kind, other_kind, space_no_token, begins_digit}
use Rattle.c_lexer.proofs.kind.kind_of.Goals as goal

pub bounds-text-0 : goal.bounds-text-0
bounds-text-0 c = token_text_nonempty c.args.text.now c.requires

pub literal_kind-requires : goal.literal_kind-requires
literal_kind-requires c = (quote_kind c.args.text.now c.requires (sym c.in-Quote.ensures)).0

pub returns-in-Letter : goal.returns-in-Letter
returns-in-Letter c = c.word_kind.ensures ∙ sym (letter_kind c.args.text.now c.requires (sym c.in-Letter.ensures))

pub returns-in-Digit : goal.returns-in-Digit
returns-in-Digit c =
    let text = c.args.text.now in
    c.number_kind.ensures ∙ sym (digit_kind text c.requires (begins_digit text (token_text_nonempty text c.requires) (sym c.in-Digit.ensures)))

pub returns-in-Quote : goal.returns-in-Quote
returns-in-Quote c = c.literal_kind.ensures ∙ sym (quote_kind c.args.text.now c.requires (sym c.in-Quote.ensures)).1

pub returns-in-Space : goal.returns-in-Space
returns-in-Space c = absurd (space_no_token c.args.text.now c.requires (sym c.in-Space.ensures))

pub returns-then-begins_number : goal.returns-then-begins_number
returns-then-begins_number c = c.number_kind-then-begins_number.ensures ∙ sym (digit_kind c.args.text.now c.requires (sym c.begins_number.ensures ∙ c.if-begins_number.true))

pub returns-else-begins_number : goal.returns-else-begins_number
returns-else-begins_number c =
    c.mark_kind-else-begins_number.ensures ∙ sym (other_kind c.args.text.now c.requires (sym c.in-Other.ensures) (sym c.begins_number.ensures ∙ c.if-begins_number.false))
