use Rattle.std.proofs.Common.{◌≡◌, ◌+◌, refl, ap, length, arith}
use Rattle.std.specs.Prelude.{List}
use Rattle.sat_form.specs.Satisfaction.{Literal}
use Rattle.bit_blast.specs.Numbers.{literals_at}
use Rattle.word_dag.proofs.Places.{each_place}
use Rattle.bit_blast.proofs.Gathering.{gathered_more, gathered_whole}
use Rattle.bit_blast.proofs.encode.bits_from.Goals as goal

pub bounds-get-0 : goal.bounds-get-0
bounds-get-0 c =
    let one : length (literals_at c.args.lists.now (c.args.first + c.loop-at.at)) ≡ 1 = each_place (λ j. length (literals_at c.args.lists.now j) ≡ 1) c.args.first c.args.count c.loop-at.at c.loop-at-test.true c.requires in
    omega (arith, one, ap (λ (ls : List Literal). length ls) c.get.ensures.is)

pub loop-at-preserved : goal.loop-at-preserved
loop-at-preserved c =
    gathered_more c.args.lists.now c.args.first c.loop-at.at (c.args.first + c.loop-at.at) c.get.result.now c.loop-at.literals.items c.push.new.self.items c.index-get-0.result refl c.get.ensures.is
    (each_place (λ j. length (literals_at c.args.lists.now j) ≡ 1) c.args.first c.args.count c.loop-at.at c.loop-at-test.true c.requires) c.index-get-0.is c.in_ok-push.ensures.items c.loop-at.invariant

pub returns-clause-values : goal.returns-clause-values
returns-clause-values c = (gathered_whole c.args.lists.now c.args.first c.loop-at.at c.args.count _ c.loop-at-test.false c.loop-at.auto.at-end c.loop-at.invariant).values
