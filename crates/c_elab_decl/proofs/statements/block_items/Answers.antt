use Rattle.c_elab_decl.proofs.statements.block_items.Goals as goal

pub returns-in-Block : goal.returns-in-Block
returns-in-Block c =
    let i = c.in-Block in
    record { line = i.line; held = i.items; is = i.is; same = c.deref.ensures.value }
