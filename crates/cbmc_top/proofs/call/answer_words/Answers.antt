use Rattle.std.proofs.Common.{◌≡◌, ℕ, List, map, ap, Err}
use Rattle.std.specs.Prelude.{string_bytes}
use Rattle.outside.specs.Count.{Rose}
use Rattle.options.specs.Command.{asked_of}
use Rattle.cbmc_top.specs.Answers.{Reported}
use Rattle.cbmc_top.specs.declared.reporting.Report.{Report}
use Rattle.cbmc_top.proofs.Results.{ok_map}
use Rattle.std.proofs.lemmas.Str.{IsUtf8-string_bytes}
use Rattle.cbmc_top.proofs.Heads.{head_of_command}
use Rattle.cbmc_top.proofs.Answering.{command_reported, usage_reported}
use Rattle.cbmc_top.proofs.call.answer_words.Goals as goal

pub returns-in-Ok-clause-answered : goal.returns-in-Ok-clause-answered
returns-in-Ok-clause-answered g c =
    ok_map c.answer_command.result _ _ c.answer_command.ensures.answered (λ (r : Report) x.
    command_reported (map string_bytes c.args.words.now) _ _ (asked_of c.in-Ok.options) r.status r.text r.spent c.in-Ok.ensures.options
    (head_of_command (map string_bytes c.args.words.now) (asked_of c.in-Ok.options) c.in-Ok.ensures.options (IsUtf8-string_bytes c.in-Ok.options.name) c.in-Ok.options.named) x)

pub returns-in-Err-Usage-clause-answered : goal.returns-in-Err-Usage-clause-answered
returns-in-Err-Usage-clause-answered g c =
    ok_map c.usage.result _ _ c.usage.ensures (λ (r : Report) x.
    usage_reported (map string_bytes c.args.words.now) _ _ r.status r.text r.spent (c.in-Err-Usage.ensures.usage c.in-Err-Usage.field-0-is) x.0 x.1 x.2)

pub returns-in-Ok-clause-others : goal.returns-in-Ok-clause-others
returns-in-Ok-clause-others g c = λ other unread. c.answer_command.ensures.others other (unread (asked_of c.in-Ok.options) c.in-Ok.ensures.options)
