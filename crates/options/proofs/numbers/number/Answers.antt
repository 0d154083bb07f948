use Rattle.std.proofs.Common.{ℕ, ◌≢◌, get_or, sym, subst, true≢false, ◌∙◌, arith, MatchOption, Option}
use Rattle.std.proofs.lemmas.Str.Pattern.{starts_char}
use Rattle.options.specs.Values.{IsNumber}
use Rattle.options.proofs.Digits.{number_gives}
use Rattle.options.proofs.numbers.number.Goals as goal

pub returns : goal.returns
returns c =
    let text = c.args.text.now in
    let plus = starts_char 43 text c.starts_with.result c.starts_with.ensures.cases (omega arith) (omega arith) in
    let no_plus : get_or text 0 0 ≢ 43 = λ e. true≢false (sym (plus.1 e) ∙ c.if-starts_with.false) in
    subst (λ (o : Option ℕ). MatchOption o ((n : ℕ) → IsNumber text n → ⊥) (IsNumber text)) (sym c.ok.ensures.value)
    (number_gives text c.parse.result no_plus (omega arith) c.parse.ensures.value.0)
