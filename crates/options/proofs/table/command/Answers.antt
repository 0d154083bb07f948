use Rattle.std.proofs.Common.{◌∙◌, ap, codes}
use Rattle.std.proofs.lemmas.Result.{IfOk-weaker}
use Rattle.clap.specs.Words.{App, with_rule}
use Rattle.options.specs.Table.{valued, flag}
use Rattle.options.specs.Words.{file_name}
use Rattle.options.specs.Parser.{option_rule, word_rule}
use Rattle.options.proofs.table.command.Goals as goal

pub returns : goal.returns
returns c =
    let one = c.in_ok-one.ensures ∙ ap (λ (a : App). with_rule a (option_rule (codes "unwind", valued))) c.bare-none.ensures in
    let two = c.in_ok-two.ensures ∙ ap (λ (a : App). with_rule a (option_rule (codes "unwindset", valued))) one in
    let three = c.in_ok-three.ensures ∙ ap (λ (a : App). with_rule a (option_rule (codes "no-unwinding-assertions", flag))) two in
    let four = c.in_ok-four.ensures ∙ ap (λ (a : App). with_rule a (option_rule (codes "malloc-limit", valued))) three in
    let five = c.in_ok-five.ensures ∙ ap (λ (a : App). with_rule a (option_rule (codes "malloc-may-fail", flag))) four in
    let six = c.in_ok-six.ensures ∙ ap (λ (a : App). with_rule a (option_rule (codes "budget", valued))) five in
    let seven = c.in_ok-seven.ensures ∙ ap (λ (a : App). with_rule a (option_rule (codes "show-properties", flag))) six in
    let eight = c.in_ok-eight.ensures ∙ ap (λ (a : App). with_rule a (option_rule (codes "generate", valued))) seven in
    IfOk-weaker c.with_word.result _ _ (λ x e. e ∙ ap (λ (a : App). with_rule a (word_rule file_name)) eight) c.with_word.ensures
