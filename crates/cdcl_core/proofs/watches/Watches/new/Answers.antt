use Rattle.std.proofs.Common.{◌≡◌, ◌+◌, ◌<◌, List, [], ◌∷◌, ◌++◌, length, take, sym, subst, arith}
use Rattle.std.proofs.lemmas.List.{take_all}
use Rattle.sat_form.specs.Satisfaction.{Literal, IsWithin, index_of}
use Rattle.std.specs.Prelude.{Contains}
use Rattle.cdcl_core.specs.declared.watches.Pair.{Pair}
use Rattle.cdcl_core.specs.Watched.{AreListed, AreSingle}
use Rattle.cdcl_core.proofs.Listed.{AreListed-entered, AreSingle-entered, IsWithin-read, room-contains}
use Rattle.cdcl_core.proofs.Places.{read_at, take-read}
use Rattle.cdcl_core.proofs.watches.Watches.new.Goals as goal

pub loop-number-preserved : goal.loop-number-preserved
loop-number-preserved c =
    let bound : c.loop-number.number < length c.args.clauses.now = omega (arith, c.loop-number-test.true, c.len-number-end.ensures) in
    let front : List (List Literal) = take c.loop-number.number c.args.clauses.now in
    let pairs : List Pair = c.loop-number.watches.pairs.items in
    let p : Pair = c.pair_of.result in
    let within : IsWithin c.args.variables c.at.result.now =
    IsWithin-read c.args.variables c.args.clauses.now c.loop-number.number c.at.result.now c.requires bound (read_at c.args.clauses.now c.loop-number.number c.at.result.now c.at.ensures) in
    let room : (l : Literal) → Contains c.at.result.now l → index_of l < length c.loop-number.watches.lists =
    λ l. room-contains c.args.variables (length c.loop-number.watches.lists) c.at.result.now l c.loop-number.invariant.0.room within in
    let more : take (c.loop-number.number + 1) c.args.clauses.now ≡ front ++ c.at.result.now ∷ [] =
    take-read c.args.clauses.now c.loop-number.number c.at.result.now bound (read_at c.args.clauses.now c.loop-number.number c.at.result.now c.at.ensures) in
    let listed : AreListed c.args.variables (front ++ c.at.result.now ∷ []) (pairs ++ p ∷ []) c.enter.new.self.lists =
    AreListed-entered c.args.variables front pairs c.loop-number.watches.lists c.enter.new.self.lists c.at.result.now p c.loop-number.invariant.0
    c.pair_of.ensures.first c.pair_of.ensures.second (λ e. room p.first (c.pair_of.ensures.first e)) (λ e. room p.second (c.pair_of.ensures.second e)) c.in_ok-enter.ensures.lists in
    let single : AreSingle (front ++ c.at.result.now ∷ []) (pairs ++ p ∷ []) =
    AreSingle-entered front pairs c.at.result.now p c.loop-number.invariant.0.count c.loop-number.invariant.1 c.pair_of.ensures.single in (
      subst (λ (x : List (List Literal)). AreListed c.args.variables x c.enter.new.self.pairs.items c.enter.new.self.lists) (sym more)
          (subst (λ (x : List Pair). AreListed c.args.variables (front ++ c.at.result.now ∷ []) x c.enter.new.self.lists) (sym c.in_ok-enter.ensures.pairs) listed),
      subst (λ (x : List (List Literal)). AreSingle x c.enter.new.self.pairs.items) (sym more)
          (subst (λ (x : List Pair). AreSingle (front ++ c.at.result.now ∷ []) x) (sym c.in_ok-enter.ensures.pairs) single),
    )

pub returns-clause-listed : goal.returns-clause-listed
returns-clause-listed c =
    subst (λ (x : List (List Literal)). AreListed c.args.variables x c.loop-number.watches.pairs.items c.loop-number.watches.lists)
    (take_all c.loop-number.number c.args.clauses.now (omega (arith, c.loop-number-test.false, c.len-number-end.ensures))) c.loop-number.invariant.0

pub returns-clause-single : goal.returns-clause-single
returns-clause-single c =
    subst (λ (x : List (List Literal)). AreSingle x c.loop-number.watches.pairs.items)
    (take_all c.loop-number.number c.args.clauses.now (omega (arith, c.loop-number-test.false, c.len-number-end.ensures))) c.loop-number.invariant.1
