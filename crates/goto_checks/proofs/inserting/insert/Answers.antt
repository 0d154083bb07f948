use Rattle.std.proofs.Common.{◌∙◌, ap, map}
use Rattle.goto_prog.specs.Nodes.{view_procedures}
use Rattle.goto_prog.specs.GotoThreads.{GotoFile}
use Rattle.goto_checks.specs.Inserted.{with_inserted}
use Rattle.goto_checks.proofs.Kept.{all_static, same_allocations}
use Rattle.goto_checks.proofs.Threads.{do_same}
use Rattle.goto_checks.proofs.inserting.insert.Goals as goal

pub returns-clause-same : goal.returns-clause-same
returns-clause-same c =
    λ limits. do_same c.args.goto c.new.result limits
    (ap (λ (g : GotoFile). view_procedures g.functions) c.new.ensures ∙ c.in_ok-all_checked.ensures ∙ ap (λ ps. map with_inserted (view_procedures ps)) (c.deref.ensures.value ∙ c.into_parts-procedures.ensures.parts.0))
    (ap (λ (g : GotoFile). g.main) c.new.ensures ∙ c.into_parts-procedures.ensures.parts.1)

pub returns-clause-plain : goal.returns-clause-plain
returns-clause-plain c =
    all_static (view_procedures c.args.goto.functions) (view_procedures c.new.result.functions)
    (ap (λ (g : GotoFile). view_procedures g.functions) c.new.ensures ∙ c.in_ok-all_checked.ensures ∙ ap (λ ps. map with_inserted (view_procedures ps)) (c.deref.ensures.value ∙ c.into_parts-procedures.ensures.parts.0))

pub returns-clause-allocations : goal.returns-clause-allocations
returns-clause-allocations c =
    λ limits. same_allocations c.args.goto c.new.result limits
    (ap (λ (g : GotoFile). view_procedures g.functions) c.new.ensures ∙ c.in_ok-all_checked.ensures ∙ ap (λ ps. map with_inserted (view_procedures ps)) (c.deref.ensures.value ∙ c.into_parts-procedures.ensures.parts.0))
    (ap (λ (g : GotoFile). g.main) c.new.ensures ∙ c.into_parts-procedures.ensures.parts.1)
