use Rattle.std.proofs.Common.{sym, ◌∙◌}
use Rattle.c_pre.proofs.After.{mark_as}
use Rattle.c_pre.proofs.known.mark.Goals as goal

pub returns-clause-marked : goal.returns-clause-marked
returns-clause-marked c =
    (mark_as c.args.used.now.keys c.insert.new.self.keys c.in_ok-key.key c.args.name.now
    (c.in_ok-key.ensures.items_if_clones_equal (λ y h e. e)) (sym c.is_used.ensures ∙ c.if-is_used.false) c.in_ok-insert.ensures.keys).0

pub returns-clause-others : goal.returns-clause-others
returns-clause-others c =
    (mark_as c.args.used.now.keys c.insert.new.self.keys c.in_ok-key.key c.args.name.now
    (c.in_ok-key.ensures.items_if_clones_equal (λ y h e. e)) (sym c.is_used.ensures ∙ c.if-is_used.false) c.in_ok-insert.ensures.keys).1
