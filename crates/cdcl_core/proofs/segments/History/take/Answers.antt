use Rattle.std.proofs.Common.{◌≡◌, ℕ, List, length, sym, ap, ◌∙◌, subst, arith}
use Rattle.sat_form.specs.Satisfaction.{Literal}
use Rattle.cdcl_core.specs.declared.segments.History.{History}
use Rattle.cdcl_core.specs.SegmentEnds.{AreKept}
use Rattle.sat_form.specs.Databases.{numbered_clauses}
use Rattle.cdcl_core.specs.Stores.{unmarked}
use Rattle.cdcl_core.proofs.Ongoing.{history_after}
use Rattle.cdcl_core.proofs.segments.History.take.Goals as goal

pub delete-requires : goal.delete-requires
delete-requires c = record {
  count = omega (arith, c.requires.count, c.requires.more, ap length c.deref.ensures.value, c.in_ok-extend.ensures.count, c.len.ensures, c.len-2.ensures, c.append.new.self.numbers.ok.0, ap (λ (x : History). length x.numbers.items) c.in_ok-append.ensures);
}

pub returns : goal.returns
returns c = λ form before n is rest.
    let old : History = c.args.self.now in
    let joined : History = c.append.new.self in
    let new : History = c.extend.new.self in
    let after = history_after form before c.args.clauses.now c.args.spare.now c.args.log.now n _ old joined new is rest c.in_ok-append.ensures
    (omega (arith, c.len.ensures, c.len-2.ensures, c.append.new.self.numbers.ok.0, ap (λ (x : History). length x.numbers.items) c.in_ok-append.ensures))
    c.in_ok-extend.ensures.same c.in_ok-extend.ensures.count c.in_ok-extend.ensures.numbers in
    let left : AreKept form (unmarked c.args.spare.now c.args.clauses.now) (unmarked c.args.spare.now c.deref.result.now) c.delete.new.log × (length (numbered_clauses form.clauses c.delete.new.log) ≡ length (numbered_clauses form.clauses new.log)) =
    c.in_ok-delete.ensures form c.args.clauses.now rest.spare_are rest.stay (subst (λ (ns : List ℕ). AreKept form c.args.clauses.now ns new.log) (sym c.deref.ensures.value) after.0) in
    let numbers : unmarked c.args.spare.now c.deref.result.now ≡ c.compact.new.items.items = ap (unmarked c.args.spare.now) c.deref.ensures.value ∙ sym c.compact.ensures in
    let kept : AreKept form c.forget.new.self c.compact.new.items.items c.delete.new.log =
    subst (λ (cs : List (List Literal)). AreKept form cs c.compact.new.items.items c.delete.new.log) (sym c.forget.ensures)
    (subst (λ (ns : List ℕ). AreKept form (unmarked c.args.spare.now c.args.clauses.now) ns c.delete.new.log) numbers left.0) in
    (record { kept = kept; first = after.1; next = after.2 ∙ sym left.1 }, after.3, after.4)
