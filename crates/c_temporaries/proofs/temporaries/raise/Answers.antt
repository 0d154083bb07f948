use Rattle.std.proofs.Common.{sym, ap, ◌∙◌, arith}
use Rattle.std.specs.Prelude.{max, slice_index, slice_set, take}
use Rattle.c_temporaries.specs.Temporaries.{greater}
use Rattle.c_temporaries.proofs.Greater.{greater_none, raised, raised_all}
use Rattle.c_temporaries.proofs.temporaries.raise.Goals as goal

pub loop-place-init : goal.loop-place-init
loop-place-init c = sym (greater_none c.args.sizes.now)

pub loop-place-preserved : goal.loop-place-preserved
loop-place-preserved c =
    let xs = c.args.sizes.now in
    let ys = c.args.others.now in
    let n = c.loop-place.place in
    (λ i. slice_set (c.loop-place.invariant i) n c.max.result)
    ∙ (λ i. slice_set (greater xs (take n ys)) n ((c.max.ensures ∙ ap (λ zs. max (slice_index zs n) (slice_index ys n)) c.loop-place.invariant) i))
    ∙ raised xs ys n (omega arith) (omega (arith, c.requires))

pub returns : goal.returns
returns c = c.loop-place.invariant ∙ raised_all c.args.sizes.now c.args.others.now c.loop-place.place (omega arith)
