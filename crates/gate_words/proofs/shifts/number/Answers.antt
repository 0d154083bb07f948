use Rattle.std.proofs.Common.{ℕ, ◌+◌, ◌*◌, ◌/◌, ◌^◌, List, length, sym, ap, ◌∙◌, subst, arith}
use Rattle.sat_form.specs.Satisfaction.{Literal, IsWithin}
use Rattle.sat_form.specs.Numbers.{value_of}
use Rattle.sat_form.proofs.Within.{IsWithin-push}
use Rattle.gate_bits.proofs.Adding.{length-push}
use Rattle.gate_words.proofs.Shifting.{Digit_more}
use Rattle.gate_words.proofs.shifts.number.Goals as goal

pub loop-preserved : goal.loop-preserved
loop-preserved c =
    let pushed = c.in_ok-push.ensures.items in
    let so_far = c.loop.invariant in
    record {
      count = ap (λ (m : List Literal). length m) pushed ∙ length-push c.loop.bits.items c.flipped.result ∙ ap (λ (n : ℕ). n + 1) so_far.count;
      within = λ n below. subst (λ (m : List Literal). IsWithin n m) (sym pushed) (IsWithin-push n c.loop.bits.items c.flipped.result (so_far.within n below) (omega (arith, c.flipped.ensures.variable)));
      is = λ x none. ap (λ (m : List Literal). value_of m x + 2 ^ (c.loop.counter + 1) * (c.loop.rest / 2)) pushed
          ∙ Digit_more c.loop.bits.items c.args.zero c.flipped.result c.loop.counter c.loop.rest c.args.value x so_far.count none (c.flipped.ensures.is x) (so_far.is x none);
    }
