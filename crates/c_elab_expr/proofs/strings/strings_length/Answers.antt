use Rattle.std.proofs.Common.{◌≡◌, ℕ, List, ap, ◌∙◌, arith}
use Rattle.c_lexer.specs.Literals.{enclosed}
use Rattle.c_tree.specs.Tree.{view_name}
use Rattle.c_elab_expr.specs.Strings.{characters_behind, string_length}
use Rattle.c_elab_expr.proofs.Elements.{strings_more}
use Rattle.c_elab_expr.proofs.strings.strings_length.Goals as goal

pub loop-part-preserved : goal.loop-part-preserved
loop-part-preserved c =
    let one : c.characters-length.result ≡ string_length (view_name c.part-item.result) =
    c.characters-length.ensures ∙ ap (λ (bs : List ℕ). characters_behind 0 bs) c.enclosed.ensures ∙ ap (λ (bs : List ℕ). characters_behind 0 (enclosed bs)) c.deref.ensures.value in
    let more = strings_more c.args.parts.now c.loop-part.part-index c.part-item.result (omega arith) c.part-item.is in
    let so_far = c.loop-part.invariant.0 in
    (omega (arith, one, more, so_far), omega arith)
