use Rattle.std.proofs.Common.{◌≡◌, ◌≤◌, ◌-◌, suc, length, refl, arith}
use Rattle.gate_words.proofs.Dividing.{one_trimmed, same_literal}
use Rattle.gate_words.proofs.quotients.low_width.Goals as goal

pub loop-width-preserved : goal.loop-width-preserved
loop-width-preserved c =
    let now = c.loop-width.width in
    let kept = c.loop-width.invariant in
    let n = length c.args.a.now in
    let next : now ≡ suc (now - 1) = omega (arith, c.loop-width-test.true) in
    let fits : suc (now - 1) ≤ n = omega (arith, next, kept.within) in
    record {
      positive = omega (arith, c.loop-width-test.true);
      within = omega (arith, kept.within);
      a = one_trimmed c.args.a.now (now - 1) now n c.args.zero c.index-a-width.result next fits refl c.index-a-width.is (same_literal c.index-a-width.result c.args.zero c.if-eq.ensures) kept.a;
      b = one_trimmed c.args.b.now (now - 1) now n c.args.zero c.index-b-width.result next fits c.requires.same_width c.index-b-width.is (same_literal c.index-b-width.result c.args.zero c.if-eq-2.ensures) kept.b;
    }
