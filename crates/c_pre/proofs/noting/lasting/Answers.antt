use Rattle.c_pre.specs.Known.{fates_in}
use Rattle.c_pre.proofs.Noted.{thins_done}
use Rattle.c_pre.proofs.noting.lasting.Goals as goal

pub returns : goal.returns
returns c =
    thins_done c.args.bytes.now (fates_in c.args.fates.now.entries) c.loop-token.all.items c.args.tokens.now c.loop-token.rest.now c.loop-token.invariant c.in_default.ensures
