use Rattle.std.proofs.Common.{◌<◌, length, sym, ◌∙◌, arith}
use Rattle.c_lexer.specs.Literals.{string_bytes}
use Rattle.c_lexer.proofs.Elements.{front_more, front_ends}
use Rattle.c_lexer.proofs.Texts.{string_text}
use Rattle.c_lexer.proofs.literal.string_bytes.Goals as goal

pub enclosed-rest-requires : goal.enclosed-rest-requires
enclosed-rest-requires c = (string_text c.args.text.now c.requires).0

pub loop-element-preserved : goal.loop-element-preserved
loop-element-preserved c =
    let within = c.in-Some.ensures.within in
    let more : 0 < length c.loop-element.rest.now = omega (arith, within) in
    rw (c.in_ok-push.ensures.items, c.split_at.ensures.back)
    (front_more c.loop-element.bytes.items c.loop-element.rest.now c.in-Some.element more within.0 (sym c.in-Some.ensures.value) ∙ c.loop-element.invariant)

pub returns : goal.returns
returns c =
    front_ends c.loop-element.bytes.items c.loop-element.rest.now (string_bytes c.args.text.now) c.loop-element.invariant
    (string_text c.args.text.now c.requires).1 (sym c.element_at.ensures.value ∙ c.in_default.is)
