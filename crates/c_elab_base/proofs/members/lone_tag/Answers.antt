use Rattle.std.proofs.Common.{sym, ◌∙◌}
use Rattle.c_tree.specs.Declarations.{declarators_of}
use Rattle.c_elab_base.proofs.Alone.{not_one, with_declarators}
use Rattle.c_elab_base.proofs.members.lone_tag.Goals as goal
use Rattle.c_elab_base.proofs.members.lone_tag.Goals.{else-specifiers-eq1-via-then-specifiers-eq1+else-is_empty, else-specifiers-eq1-via-else-specifiers-eq1}

pub returns-else-specifiers-eq1 : goal.returns-else-specifiers-eq1
returns-else-specifiers-eq1 c =
    elim c.else-specifiers-eq1.branch [
      | else-specifiers-eq1-via-then-specifiers-eq1+else-is_empty w ↦ with_declarators c.args.specifiers.now c.args.declarators.now (sym w.if-is_empty.false ∙ w.is_empty.ensures)
      | else-specifiers-eq1-via-else-specifiers-eq1 w ↦ not_one c.args.specifiers.now (declarators_of c.args.declarators.now) w.if-specifiers-eq1.false
    ]
