use Rattle.std.proofs.Common.{◌∷◌, List, ℕ, false, ap, ◌∙◌, arith}
use Rattle.c_tree.specs.declared.declaration.Enumerator.{Enumerator}
use Rattle.c_tree.specs.Declarations.{view_enumerator}
use Rattle.c_parse_parts.proofs.DeclaredNames.{enumerators_more}
use Rattle.c_parse_parts.proofs.declared.declare_enumerators.Goals as goal

pub loop-enumerator-preserved : goal.loop-enumerator-preserved
loop-enumerator-preserved c =
    let name = c.deref.ensures.value ∙ ap (λ (e : Enumerator). (view_enumerator e).name) c.enumerator-item.is in
    enumerators_more c.args.names.now c.loop-enumerator.names c.declare.new.self c.args.enumerators.now c.loop-enumerator.enumerator-index c.enumerator-item.result (omega arith) c.loop-enumerator.invariant
    (c.in_ok-declare.ensures.declared ∙ ap (λ (n : List ℕ). (n, false) ∷ c.loop-enumerator.names) name)
