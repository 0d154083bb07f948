use Rattle.std.proofs.Common.{◌≡◌, ◌%◌, ◌^◌, ℕ, ℤ, pos, true, w64, to_z, of_z, sym, ap, ◌∙◌}
use Rattle.std.proofs.lemmas.Int.{to_z-of_z}
use Rattle.core_tree.specs.Operations.{number}
use Rattle.actions.specs.Pointer.{offset_of}
use Rattle.c_values.specs.Variables.{pointer_to}
use Rattle.c_values.specs.Pointers.{in_range, offset_by}
use Rattle.c_values.proofs.Offsets.{pointer_there}
use Rattle.c_values.proofs.pointers.moved.Goals as goal

pub returns-in-Some : goal.returns-in-Some
returns-in-Some c =
    let p = c.args.at in
    let o = c.in-Some.offset in
    let z : ℕ → ℤ → ℤ = λ n step. offset_by n (number c.args.index.type c.args.index.bits) step in
    let passed : to_z w64 (of_z w64 c.args.step) ≡ c.args.step = to_z-of_z w64 c.args.step c.ranges.step in
    let same : z c.offset_of.result (to_z w64 (of_z w64 c.args.step)) ≡ z (offset_of p) c.args.step = ap (z c.offset_of.result) passed ∙ ap (λ n. z n c.args.step) c.offset_of.ensures in
    let within : in_range (z (offset_of p) c.args.step) c.args.size ≡ true = ap (λ y. in_range y c.args.size) (sym same) ∙ c.in-Some.ensures.0 in
    let there : pos o ≡ z (offset_of p) c.args.step = c.in-Some.ensures.1 ∙ same in
    (within, c.pointer_to.ensures.is ∙ ap (λ k. pointer_to k (o % 2 ^ 32)) c.object_of.ensures ∙ pointer_there p o (z (offset_of p) c.args.step) there)
