use Rattle.std.proofs.Common.{◌<◌, length, sym, ap, ◌∙◌, rules}
use Rattle.std.specs.Prelude.{is_some}
use Rattle.c_lexer.specs.Literals.{bytes_behind}
use Rattle.c_lexer.proofs.Elements.{element_none, well_formed_more}
use Rattle.c_lexer.proofs.literal.is_well_formed.Goals as goal

pub returns-in-None : goal.returns-in-None
returns-in-None c =
    let more : 0 < length c.loop-rest.rest.now = search rules in
    sym (ap is_some (element_none c.loop-rest.rest.now more (sym c.in-None.ensures.value))) ∙ c.loop-rest.invariant

pub loop-rest-preserved : goal.loop-rest-preserved
loop-rest-preserved c =
    let more : 0 < length c.loop-rest.rest.now = search rules in
    ap (λ rest. is_some (bytes_behind 0 rest)) c.split_at.ensures.back
    ∙ well_formed_more c.loop-rest.rest.now c.in-Some.element more c.in-Some.ensures.within.0 (sym c.in-Some.ensures.value)
    ∙ c.loop-rest.invariant
