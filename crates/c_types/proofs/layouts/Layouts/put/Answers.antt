use Rattle.std.proofs.Common.{◌≡◌, ◌<◌, true, false, length, sym, subst}
use Rattle.c_types.specs.declared.layouts.Whole.{Whole}
use Rattle.c_types.specs.Types.{Records, views}
use Rattle.c_types.specs.Layouts.{is_completed, are_complete, fits, layout_of, record_layout}
use Rattle.c_types.specs.Fields.{Extends}
use Rattle.c_types.proofs.Kept.{completed_kept, view_completed}
use Rattle.c_types.proofs.layouts.Layouts.put.Goals as goal

abbrev whole : goal.After-self-1 → Whole
whole c = record { place = c.args.place; kind = c.args.kind; members = c.args.members; offsets = c.args.extent.offsets; size = c.args.extent.size; alignment = c.args.extent.alignment }

pub invariant_of-self-2 : goal.invariant_of-self-2
invariant_of-self-2 c = rw (c.in_ok-push.ensures.items, c.len-index.ensures)
    (completed_kept c.self.inside.declared.items c.self.inside.completed.items (whole c) c.index_mut.result.now.kind _ c.self.inside.completed.ok.0
    (subst (λ (t : Records). c.args.place < length t.declared) (sym c.self.view_is) c.requires.declared) c.self.invariant
    (subst (λ (t : Records). is_completed t.done c.args.place ≡ false) (sym c.self.view_is) c.requires.incomplete)
    (subst (λ (t : Records). are_complete t.done (views c.args.members.items) ≡ true) (sym c.self.view_is) c.requires.complete)
    (subst (λ (t : Records). fits t.done c.args.kind (views c.args.members.items) ≡ true) (sym c.self.view_is) c.requires.fits)
    (subst (λ (t : Records). Extends (layout_of (record_layout t.done) c.args.kind (views c.args.members.items)) c.args.extent) (sym c.self.view_is) c.requires.extent))

pub returns-clause-completed : goal.returns-clause-completed
returns-clause-completed c = rw (c.in_ok-push.ensures.items, ← c.self.view_is)
    (view_completed c.self.inside.declared.items c.self.inside.completed.items (whole c) c.index_mut.result.now _ c.index_mut.ensures.value)
