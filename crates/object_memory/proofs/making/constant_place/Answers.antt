use Rattle.std.proofs.Common.{false, refl}
use Rattle.object_memory.proofs.Starts.{first_within, first_spot}
use Rattle.object_memory.proofs.making.constant_place.Goals as goal

pub returns-clause-within : goal.returns-clause-within
returns-clause-within c =
    first_within c.constants.new.dag c.constant_test.new.dag c.make.new.self c.make-2.new.self (record { born = c.in_ok-sure.sure; number = c.in_ok-number_id.number_id; size = c.in_ok-size.size; live = c.in_ok-sure.sure; readonly = c.args.readonly; heap = false; bytes = c.in_ok-ids.ids }) c.args.bytes.now c.constant_test.ensures.extends c.make.ensures.extends c.make-2.ensures.extends c.in_ok-ids.ensures.bytes c.in_ok-ids.ensures.values c.requires c.in_ok-sure.ensures.made refl
    (record { there = c.in_ok-number_id.ensures.made.there; width_is = c.in_ok-number_id.ensures.made.width_is })
    (record { there = c.in_ok-size.ensures.made.there; width_is = c.in_ok-size.ensures.made.width_is; value_is = λ v. c.in_ok-size.ensures.made.value_is v })

pub returns-clause-spot : goal.returns-clause-spot
returns-clause-spot c = λ v.
    first_spot c.constants.new.dag c.constant_test.new.dag c.make.new.self c.make-2.new.self (record { born = c.in_ok-sure.sure; number = c.in_ok-number_id.number_id; size = c.in_ok-size.size; live = c.in_ok-sure.sure; readonly = c.args.readonly; heap = false; bytes = c.in_ok-ids.ids }) c.args.bytes.now c.args.number c.args.readonly c.constant_test.ensures.extends c.make.ensures.extends c.make-2.ensures.extends c.in_ok-ids.ensures.bytes c.in_ok-ids.ensures.values c.in_ok-sure.ensures.made refl
    (record { there = c.in_ok-number_id.ensures.made.there; width_is = c.in_ok-number_id.ensures.made.width_is; value_is = λ u. c.in_ok-number_id.ensures.made.value_is u })
    (record { there = c.in_ok-size.ensures.made.there; width_is = c.in_ok-size.ensures.made.width_is; value_is = λ u. c.in_ok-size.ensures.made.value_is u }) refl refl v
