use Rattle.std.proofs.Common.{◌-◌, arith}
use Rattle.std.proofs.lemmas.List.{get_or_default}
use Rattle.mem_seq.proofs.Building.{notes_long, event_there, static_there, note_in_stays, looking_none, looking_step, looking_whole}
use Rattle.mem_seq.proofs.formula.goal.Goals as goal

pub looking-init : goal.looking-init
looking-init c =
    looking_none c.args.dag.now _ c.args.store.now c.args.events.now c.args.notes.now c.in_ok-chain.chain c.min-at.result c.min-at.ensures c.requires.notes c.new.ensures.extends c.in_ok-chain.ensures.within c.in_ok-chain.ensures.truth

pub bounds-notes-at : goal.bounds-notes-at
bounds-notes-at c = omega (arith, c.looking.invariant.within, c.looking-test.true, notes_long _ c.args.dag.now c.args.events.now c.args.notes.now c.requires.notes)

pub part_at-requires-clause-event : goal.part_at-requires-clause-event
part_at-requires-clause-event c = event_there c.args.dag.now c.looking.dag c.args.events.now (c.looking.at - 1) c.index-events-at.result c.looking.invariant.extends c.requires.within (omega (arith, c.looking.invariant.within, c.looking-test.true)) c.index-events-at.is

pub part_at-requires-clause-plain : goal.part_at-requires-clause-plain
part_at-requires-clause-plain c = static_there c.args.dag.now c.looking.dag c.args.events.now (c.looking.at - 1) c.index-events-at.result c.looking.invariant.extends c.requires.plain (omega (arith, c.looking.invariant.within, c.looking-test.true)) c.index-events-at.is

pub part_at-requires-clause-note : goal.part_at-requires-clause-note
part_at-requires-clause-note c = note_in_stays c.args.dag.now c.looking.dag _ c.looking.invariant.extends (c.requires.notes_within (c.looking.at - 1) _ (omega (arith, c.looking.invariant.within, c.looking-test.true, notes_long _ c.args.dag.now c.args.events.now c.args.notes.now c.requires.notes)))

pub looking-preserved : goal.looking-preserved
looking-preserved c =
    looking_step c.args.dag.now c.looking.dag c.part_at.new.dag c.take.new.dag c.args.store.now c.args.events.now c.args.notes.now c.index-events-at.result _ c.looking.chain c.take.new.self c.in_ok-part.part c.looking.at c.requires.within c.requires.notes_within c.requires.notes c.looking.invariant (omega arith) c.index-events-at.is
    (get_or_default c.args.notes.now (c.looking.at - 1) _ _ (omega (arith, c.looking.invariant.within, notes_long _ c.args.dag.now c.args.events.now c.args.notes.now c.requires.notes)))
    c.part_at.ensures.extends c.take.ensures.extends c.in_ok-part.ensures.made c.in_ok-take.ensures.within c.in_ok-take.ensures.truth

pub returns-clause-made : goal.returns-clause-made
returns-clause-made c =
    looking_whole c.args.dag.now c.looking.dag c.finish.new.dag c.args.store.now c.args.events.now c.looking.chain c.in_ok-goal.goal c.looking.at (omega arith) c.looking.invariant c.in_ok-goal.ensures.made
