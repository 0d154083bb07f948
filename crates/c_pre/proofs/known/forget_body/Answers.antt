use Rattle.std.proofs.Common.{None, sym}
use Rattle.c_pre.specs.Known.{findings_of}
use Rattle.c_pre.proofs.Keeping.{keeps_undefined}
use Rattle.c_pre.proofs.known.forget_body.Goals as goal

pub returns-in-None : goal.returns-in-None
returns-in-None c = λ bytes es2 e. keeps_undefined bytes c.args.macros.now.entries es2 (findings_of c.args.known.now) c.args.name.now (sym c.in-None.ensures) e

pub returns-in_ok-forget-in-Some : goal.returns-in_ok-forget-in-Some
returns-in_ok-forget-in-Some c = λ bytes es2 e. c.in_ok-forget-in-Some.ensures bytes c.args.macros.now.entries es2 None e
