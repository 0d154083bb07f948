use Rattle.std.proofs.Common.{List, sym, subst}
use Rattle.sat_form.specs.Satisfaction.{Literal}
use Rattle.cdcl_core.specs.Watched.{AreSingle}
use Rattle.cdcl_core.proofs.Starting.{IsReady-new}
use Rattle.cdcl_core.proofs.search.Search.over.Goals as goal

pub returns-clause-ready : goal.returns-clause-ready
returns-clause-ready c = λ budget.
    IsReady-new (record { variables = c.args.variables; clauses = c.args.clauses }) budget _ c.in_ok-new.ensures c.clauses.view_is c.requires.within
    c.in_ok-watches.ensures.listed
    c.in_ok-new-2.ensures c.new-4.ensures.items c.new-5.ensures

pub returns-clause-single : goal.returns-clause-single
returns-clause-single c = subst (λ (x : List (List Literal)). AreSingle x c.in_ok-watches.watches.pairs.items) (sym c.clauses.view_is) c.in_ok-watches.ensures.single
