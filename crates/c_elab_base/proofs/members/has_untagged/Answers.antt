use Rattle.std.proofs.Common.{◌+◌, Bool, List, drop, sym, ap, ◌∙◌, arith}
use Rattle.std.specs.Prelude.{◌||◌}
use Rattle.std.proofs.lemmas.List.{drop_all}
use Rattle.c_tree.specs.declared.declaration.Specifier.{Specifier}
use Rattle.c_tree.specs.Declarations.{parts_of}
use Rattle.c_elab_base.specs.Specifiers.{has_untagged}
use Rattle.c_elab_base.proofs.Lists.{parts_at}
use Rattle.c_elab_base.proofs.members.has_untagged.Goals as goal

pub returns-then-is_untagged : goal.returns-then-is_untagged
returns-then-is_untagged c =
    let ss = c.args.specifiers.now in
    let i = c.loop-specifier.specifier-index in
    sym (sym c.loop-specifier.invariant ∙ ap has_untagged (parts_at ss i c.specifier-item.result (omega arith) c.specifier-item.is)
    ∙ ap (λ (b : Bool). b || has_untagged (parts_of (drop (i + 1) ss))) (sym c.is_untagged.ensures ∙ c.if-is_untagged.true))

pub loop-specifier-preserved : goal.loop-specifier-preserved
loop-specifier-preserved c =
    let ss = c.args.specifiers.now in
    let i = c.loop-specifier.specifier-index in
    sym (ap has_untagged (parts_at ss i c.specifier-item.result (omega arith) c.specifier-item.is)
    ∙ ap (λ (b : Bool). b || has_untagged (parts_of (drop (i + 1) ss))) (sym c.is_untagged.ensures ∙ c.if-is_untagged.false)) ∙ c.loop-specifier.invariant

pub returns : goal.returns
returns c =
    sym (sym c.loop-specifier.invariant ∙ ap (λ (xs : List Specifier). has_untagged (parts_of xs)) (drop_all c.loop-specifier.specifier-index c.args.specifiers.now (omega arith)))
