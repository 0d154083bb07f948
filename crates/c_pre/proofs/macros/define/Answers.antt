use Rattle.c_pre.proofs.macros.define.Goals as goal

pub returns-in_ok-set_body-in-None-body_of-clause-keeps : goal.returns-in_ok-set_body-in-None-body_of-clause-keeps
returns-in_ok-set_body-in-None-body_of-clause-keeps c =
    c.in_ok-forget-in-None-body_of.ensures c.args.bytes.now c.args.macros.now.entries c.set_body.new.macros.entries _ c.in_ok-set_body-in-None-body_of.ensures
