use Rattle.std.proofs.Common.{◌≡◌, ℕ, ap, ◌∙◌}
use Rattle.words.specs.Operators.{word_product}
use Rattle.word_dag.specs.Meaning.{width, value}
use Rattle.value_nodes.proofs.Reaching.{low_product}
use Rattle.value_nodes.proofs.pointer_checks.low_product_within.Goals as goal

pub returns-clause-made : goal.returns-clause-made
returns-clause-made c =
    let m = c.in_ok-product.ensures.made in
    let wide : width c.low_word-2.new.dag c.in_ok-first.first ≡ 64 = c.low_word-2.ensures.extends.width_stays c.in_ok-first.first c.in_ok-first.ensures.made.there ∙ c.in_ok-first.ensures.made.width_is in
    low_product c.args.dag.now _ _ _ _ _ c.args.a c.args.b _ _ _ _ _ c.args.most c.low_word.ensures.extends c.low_word-2.ensures.extends c.make.ensures.extends c.make-2.ensures.extends c.requires.b c.in_ok-first.ensures.made c.in_ok-second.ensures.made
    (record { there = m.there; width_is = m.width_is ∙ wide; value_is = λ v. m.value_is v ∙ ap (λ (w : ℕ). word_product w (value v c.low_word-2.new.dag c.in_ok-first.first) (value v c.low_word-2.new.dag c.in_ok-second.second)) wide })
    (record { there = c.in_ok-limit.ensures.made.there; width_is = c.in_ok-limit.ensures.made.width_is; value_is = c.in_ok-limit.ensures.made.value_is }) c.in_ok-id.ensures.made
