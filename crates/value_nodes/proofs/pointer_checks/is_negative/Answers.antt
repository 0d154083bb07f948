use Rattle.std.proofs.Common.{◌≡◌, ℕ, ap, sym, ◌∙◌}
use Rattle.words.specs.Operators.{signed_lt}
use Rattle.c_types.specs.Integers.{width as type_width}
use Rattle.word_dag.specs.Meaning.{width, value, bit_value}
use Rattle.value_nodes.proofs.Reaching.{negative_by}
use Rattle.value_nodes.proofs.pointer_checks.is_negative.Goals as goal

pub returns-then-is_signed-clause-made : goal.returns-then-is_signed-clause-made
returns-then-is_signed-clause-made c =
    let d = c.make.new.self in
    let m = c.in_ok-id.ensures.made in
    let n = c.in_ok-zero.ensures.made in
    let wide : width d c.args.a ≡ type_width c.args.type_ = c.make.ensures.extends.width_stays c.args.a c.requires.there ∙ c.requires.width_is in
    negative_by c.args.dag.now _ _ c.args.type_ _ c.args.a _ _ (sym c.is_signed.ensures ∙ c.if-is_signed.true) c.width.ensures.is c.make.ensures.extends c.requires (record { there = n.there; width_is = n.width_is; value_is = n.value_is })
    (record { there = m.there; width_is = m.width_is; value_is = λ v. m.value_is v ∙ ap (λ (w : ℕ). bit_value (signed_lt w (value v d c.args.a) (value v d c.in_ok-zero.zero))) wide })
