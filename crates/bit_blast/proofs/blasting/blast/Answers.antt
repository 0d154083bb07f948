use Rattle.bit_blast.proofs.Consecutive.{AreConsecutive-within}
use Rattle.bit_blast.proofs.Determined.{blasted_determined}
use Rattle.bit_blast.proofs.Promises.{blasted_from, goal_within, blasted_extends, blasted_lifts}
use Rattle.bit_blast.proofs.blasting.blast.Goals as goal

pub encode-requires-clause-within : goal.encode-requires-clause-within
encode-requires-clause-within c = AreConsecutive-within 1 _ _ c.in_ok-cnf.ensures.begins.own

pub add-requires : goal.add-requires
add-requires c = goal_within _ _ c.args.goal.index _ _ _ _ _ _ _ c.nodes.ensures.is c.nodes.ensures.ordered c.in_ok-marks.ensures c.deref.ensures.value c.in_ok-literals.ensures c.get.ensures.is

pub returns-clause-extends : goal.returns-clause-extends
returns-clause-extends c =
    blasted_extends _ _ _ _ (blasted_from _ _ _ _ _ _ _ _ _ _ _ c.nodes.ensures.is c.nodes.ensures.ordered c.requires.there c.requires.bit c.in_ok-marks.ensures c.deref.ensures.value c.in_ok-cnf.ensures.begins c.in_ok-literals.ensures c.get.ensures.is c.in_ok-add.ensures.ok)

pub returns-clause-lifts : goal.returns-clause-lifts
returns-clause-lifts c =
    blasted_lifts _ _ _ _ (blasted_from _ _ _ _ _ _ _ _ _ _ _ c.nodes.ensures.is c.nodes.ensures.ordered c.requires.there c.requires.bit c.in_ok-marks.ensures c.deref.ensures.value c.in_ok-cnf.ensures.begins c.in_ok-literals.ensures c.get.ensures.is c.in_ok-add.ensures.ok)

pub returns-clause-determined : goal.returns-clause-determined
returns-clause-determined c =
    blasted_determined _ _ _ _ (blasted_from _ _ _ _ _ _ _ _ _ _ _ c.nodes.ensures.is c.nodes.ensures.ordered c.requires.there c.requires.bit c.in_ok-marks.ensures c.deref.ensures.value c.in_ok-cnf.ensures.begins c.in_ok-literals.ensures c.get.ensures.is c.in_ok-add.ensures.ok)
