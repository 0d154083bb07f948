use Rattle.std.proofs.Common.{◌≡◌, ℕ, Option, None, Err, OnOk, refl, subst}
use Rattle.c_types.specs.Types.{CType, view as type_view}
use Rattle.c_elab_base.specs.Slots.{slot}
use Rattle.c_elab_type.specs.Initializers.{view_made, view_found, item_node}
use Rattle.c_elab_type.proofs.items.add_item.Goals as goal

pub returns-in-None : goal.returns-in-None
returns-in-None c =
    let rs = c.args.layouts.now in
    let none : None ≡ slot rs (type_view c.args.type_.now) c.args.number = rw c.in-None.is at c.in_ok-object.ensures in
    subst (λ (o : Option (CType × ℕ)). OnOk c.join-in-None.result (view_found c.join-in-None.new.found.parts.items c.join-in-None.new.found.broken
    ≡ item_node c.args.object_entry rs.done o (view_made c.args.made) (view_found c.args.found.now.parts.items c.args.found.now.broken))) none (c.join-in-None.ensures (Err 12) refl)
