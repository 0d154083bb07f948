use Rattle.std.proofs.Common.{length, sym, ◌∙◌}
use Rattle.std.proofs.lemmas.Result.{IfOk-weaker}
use Rattle.sat_form.specs.Numbers.{value_of}
use Rattle.words.specs.Operators.{word_product}
use Rattle.gate_bits.specs.Truth.{IsNumber}
use Rattle.gate_words.proofs.Multiplying.{product_turned}
use Rattle.gate_words.proofs.products.multiplier.Goals as goal

pub returns-then-all-clause-is : goal.returns-then-all-clause-is
returns-then-all-clause-is c =
    IfOk-weaker c.product.result (λ r. IsNumber c.product.new.cnf (length c.args.b.now) r (λ x. word_product (length c.args.b.now) (value_of c.args.b.now x) (value_of c.args.a.now x))) _
    (λ r is. record {
      count = is.count ∙ sym c.requires.same_width;
      within = is.within;
      is = λ x all. is.is x all ∙ (λ k. word_product (sym c.requires.same_width k) (value_of c.args.b.now x) (value_of c.args.a.now x)) ∙ product_turned (length c.args.a.now) (value_of c.args.b.now x) (value_of c.args.a.now x);
    })
    c.product.ensures.is
