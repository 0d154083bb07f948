use Rattle.mem_seq.proofs.Building.{kind_in_stays, static_kind_stays}
use Rattle.mem_seq.proofs.Learning.{same_event}
use Rattle.mem_seq.proofs.replacing.replaced.Goals as goal

pub replaced_kind-requires-clause-kind : goal.replaced_kind-requires-clause-kind
replaced_kind-requires-clause-kind c = kind_in_stays c.args.dag.now c.image.new.dag c.args.event.now.kind c.image.ensures.extends c.requires.event.kind

pub replaced_kind-requires-clause-plain : goal.replaced_kind-requires-clause-plain
replaced_kind-requires-clause-plain c = static_kind_stays c.args.dag.now c.image.new.dag c.args.event.now.kind c.image.ensures.extends c.requires.plain

pub returns-clause-same : goal.returns-clause-same
returns-clause-same c = λ v agrees.
    same_event v c.args.dag.now c.image.new.dag c.replaced_kind.new.dag c.args.event.now c.in_ok-guard.guard c.in_ok-kind.kind c.image.ensures.extends c.replaced_kind.ensures.extends c.requires.event c.in_ok-guard.ensures.there (c.in_ok-guard.ensures.value v agrees)
    (c.in_ok-kind.ensures.same v c.args.event.now.line c.args.event.now.function (c.in_ok-guard.ensures.agrees v agrees))
