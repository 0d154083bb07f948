use Rattle.std.proofs.Common.{List, sym, ◌∙◌, ap, arith}
use Rattle.std.specs.Prelude.{slice_get}
use Rattle.sat_form.specs.declared.logs.Entry.{Entry}
use Rattle.sat_form.specs.Databases.{added_clauses}
use Rattle.sat_form.proofs.Indexes.{clause_in, added_clauses-read, added_clauses-past, place-within}
use Rattle.sat_form.proofs.logs.Log.added.Goals as goal

pub returns-then-index-len : goal.returns-then-index-len
returns-then-index-len c =
    sym (added_clauses-past c.self.inside.entries.items c.self.inside.additions.items c.args.index c.self.invariant.additions (omega (arith, c.self.inside.additions.ok.0)))
    ∙ ap (λ (es : List Entry). slice_get (added_clauses es) c.args.index) c.self.view_is

pub index-requires-2 : goal.index-requires-2
index-requires-2 c =
    omega (
      arith,
      c.self.inside.entries.ok.0,
      place-within c.self.inside.entries.items c.self.inside.additions.items c.args.index c.index.result.now c.self.invariant.additions
          (omega (arith, c.self.inside.additions.ok.0)) c.index.ensures,
    )

pub returns-in-Added : goal.returns-in-Added
returns-in-Added c =
    sym (ap clause_in c.in-Added.is)
    ∙ added_clauses-read c.self.inside.entries.items c.self.inside.additions.items c.args.index c.index.result.now c.index-2.result.now c.self.invariant.additions
    (omega (arith, c.self.inside.additions.ok.0)) c.index.ensures c.index-2.ensures
    ∙ ap (λ (es : List Entry). slice_get (added_clauses es) c.args.index) c.self.view_is

pub returns-in-Deleted : goal.returns-in-Deleted
returns-in-Deleted c =
    sym (ap clause_in c.in-Deleted.is)
    ∙ added_clauses-read c.self.inside.entries.items c.self.inside.additions.items c.args.index c.index.result.now c.index-2.result.now c.self.invariant.additions
    (omega (arith, c.self.inside.additions.ok.0)) c.index.ensures c.index-2.ensures
    ∙ ap (λ (es : List Entry). slice_get (added_clauses es) c.args.index) c.self.view_is
