use Rattle.std.proofs.Common.{◌<◌, ℕ, List, length, slice_get, option_map, refl, ap, sym, ◌∙◌, subst}
use Rattle.std.proofs.lemmas.Option.{slice_get-map, slice_get-get_or, slice_get_read}
use Rattle.std.proofs.lemmas.List.{length-map}
use Rattle.c_types.specs.Types.{CType, view}
use Rattle.c_types.proofs.Kept.{offset_lengths}
use Rattle.c_types.proofs.layouts.Layouts.member.Goals as goal

pub bounds-offsets-index : goal.bounds-offsets-index
bounds-offsets-index c = subst (λ (n : ℕ). c.args.index < n) (sym (ap length c.offsets.ensures ∙ offset_lengths c.args.self.now.done c.args.place)) c.requires

pub returns-clause-type_ : goal.returns-clause-type_
returns-clause-type_ c = let lt = subst (λ (n : ℕ). c.args.index < n) (ap length (sym c.members.ensures) ∙ length-map c.members.result.now view) c.requires in
    ap (λ (ms : List CType). slice_get ms c.args.index) (sym c.members.ensures) ∙ slice_get-map view c.members.result.now c.args.index
    ∙ ap (option_map view) (slice_get_read c.members.result.now (length c.members.result.now) c.args.index c.index-members-index.result refl lt c.index-members-index.is)

pub returns-clause-offset : goal.returns-clause-offset
returns-clause-offset c = let lt = subst (λ (n : ℕ). c.args.index < n) (sym (ap length c.offsets.ensures ∙ offset_lengths c.args.self.now.done c.args.place)) c.requires in
    ap (λ (os : List ℕ). slice_get os c.args.index) (sym c.offsets.ensures) ∙ slice_get-get_or c.offsets.result.now c.args.index 0 lt
