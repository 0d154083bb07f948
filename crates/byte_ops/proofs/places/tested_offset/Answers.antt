use Rattle.std.proofs.Common.{refl}
use Rattle.byte_ops.proofs.Tested.{passing_more, offset_made}
use Rattle.byte_ops.proofs.places.tested_offset.Goals as goal

pub places-preserved : goal.places-preserved
places-preserved c =
    passing_more c.args.dag.now c.places.dag c.place_test.new.dag c.args.offset c.args.size _ c.places.tests.items c.push.new.self.items c.in_ok-test.test c.places.at _ c.requires.offset.there c.places.invariant c.places-test.true c.place_test.ensures.extends c.in_ok-test.ensures.made
    c.in_ok-test.ensures.at c.in_ok-push.ensures.items refl

pub returns-clause-made : goal.returns-clause-made
returns-clause-made c =
    offset_made c.args.dag.now c.places.dag c.args.offset c.args.size c.places.invariant.known c.places.tests.items c.places.at _ c.requires.offset c.places.invariant.low c.places.invariant.testing c.places-test.false refl refl refl
