use Rattle.c_pre.proofs.macros.undefine.Goals as goal

pub returns-in_ok-set_body-in-Some-clause-keeps : goal.returns-in_ok-set_body-in-Some-clause-keeps
returns-in_ok-set_body-in-Some-clause-keeps c =
    c.in_ok-forget_body-in-Some.ensures c.args.bytes.now c.set_body.new.macros.entries c.in_ok-set_body-in-Some.ensures
