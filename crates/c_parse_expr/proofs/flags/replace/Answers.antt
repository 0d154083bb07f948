use Rattle.std.proofs.Common.{ap, ◌∙◌}
use Rattle.c_parse_expr.specs.Flags.{flag_at}
use Rattle.c_parse_expr.proofs.NewestFlags.{Entries, flag_after}
use Rattle.c_parse_expr.proofs.flags.replace.Goals as goal

pub returns-in-Some-clause-new : goal.returns-in-Some-clause-new
returns-in-Some-clause-new c = λ n. ap (λ (es : Entries). flag_at es n) c.in_ok-old.ensures.entries ∙ flag_after c.args.flags.now.entries c.args.name c.args.flag n

pub returns-in-None-clause-new : goal.returns-in-None-clause-new
returns-in-None-clause-new c = λ n. ap (λ (es : Entries). flag_at es n) c.in_ok-old.ensures.entries ∙ flag_after c.args.flags.now.entries c.args.name c.args.flag n
