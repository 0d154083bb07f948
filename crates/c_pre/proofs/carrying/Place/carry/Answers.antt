use Rattle.c_pre.proofs.carrying.Place.carry.Goals as goal

pub returns-in-Ok-follow-clause-recalls : goal.returns-in-Ok-follow-clause-recalls
returns-in-Ok-follow-clause-recalls c = c.in-Ok-follow.ensures.keeps c.requires.recalls
