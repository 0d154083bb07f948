use Rattle.c_pre.proofs.After.{set_as}
use Rattle.c_pre.proofs.macros.set_body.Goals as goal

pub returns : goal.returns
returns c =
    set_as c.args.macros.now.entries c.insert.new.self.entries c.in_ok-key.key c.args.name.now c.args.body
    (c.in_ok-key.ensures.items_if_clones_equal (λ y h e. e)) c.in_ok-insert.ensures.entries
